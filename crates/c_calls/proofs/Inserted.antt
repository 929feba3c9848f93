-- What an insertion into a triangulation that C keeps says.
-- Lemmas: into_plain, into_constrained, inserted_at, refused_at.
use Rattle.std.proofs.Common.{◌≡◌, ℕ, refl, sym, ap, subst}
use Rattle.std.specs.Prelude.{Option, Some, Result, Ok, Err, IfOk}
use Rattle.delaunay_core.specs.{InsertionError}
use Rattle.delaunay_legalization.specs.{declared.cdt_edge.CdtEdge.CdtEdge, State.State}
use Rattle.delaunay_edit.specs.{constraint_edges, InsertsVertex, none}
use Rattle.c_calls.specs.{AnyTriangulation, Constrained, kept_place, NumberedPoint, Plain, WELL}
use Rattle.c_calls.specs.Answers.{InsertsAt, status_of_error, status_of_insertion}
use Rattle.c_calls.specs.Kept.{InsertsKept, IsKeptDelaunay}

-- one of a plain triangulation
pub into_plain : (v : NumberedPoint) (r : Result ℕ InsertionError) (k : AnyTriangulation)
    (a b : State NumberedPoint (Unit {0}) (Unit {0}) (Unit {0}))
    → k ≡ Plain a → InsertsVertex kept_place none v r a b → InsertsKept v r k (Plain b)
into_plain v r k a b is h = subst (λ (w : AnyTriangulation). InsertsKept v r w (Plain b)) (sym is) h

-- one of a constrained one
pub into_constrained : (v : NumberedPoint) (r : Result ℕ InsertionError) (k : AnyTriangulation)
    (a b : State NumberedPoint (Unit {0}) (CdtEdge (Unit {0})) (Unit {0}))
    → k ≡ Constrained a → InsertsVertex kept_place constraint_edges v r a b
    → InsertsKept v r k (Constrained b)
into_constrained v r k a b is h =
    subst (λ (w : AnyTriangulation). InsertsKept v r w (Constrained b)) (sym is) h

-- for the function that makes the edit
pub ruleset insertions = (into_plain, into_constrained)

-- a vertex was inserted
pub inserted_at : (v : NumberedPoint) (r : Result ℕ InsertionError) (i : ℕ)
    (old new : AnyTriangulation)
    (kept : Option AnyTriangulation) → kept ≡ Some new → InsertsKept v r old new → IsKeptDelaunay
    new
    → r ≡ Ok i → InsertsAt v WELL i old kept
inserted_at v r i old new kept is inserts headline ok = record {
  new = new;
  is_kept = is;
  inserted = r;
  inserts = inserts;
  headline = headline;
  told = ap status_of_insertion (sym ok);
  index = subst (λ (w : Result ℕ InsertionError). IfOk w (λ j. i ≡ j)) (sym ok) refl;
}

-- it was refused
pub refused_at : (v : NumberedPoint) (r : Result ℕ InsertionError) (e : InsertionError)
    (status vertex : ℕ) (old new : AnyTriangulation) (kept : Option AnyTriangulation) → kept ≡ Some
    new
    → InsertsKept v r old new → IsKeptDelaunay new → r ≡ Err e → status ≡ status_of_error e
    → InsertsAt v status vertex old kept
refused_at v r e status vertex old new kept is inserts headline err told = record {
  new = new;
  is_kept = is;
  inserted = r;
  inserts = inserts;
  headline = headline;
  told = subst (λ (w : Result ℕ InsertionError). status ≡ status_of_insertion w) (sym err) told;
  index = subst (λ (w : Result ℕ InsertionError). IfOk w (λ j. vertex ≡ j)) (sym err) tt;
}

-- for the call that tells how it ended
pub ruleset insertions_at = (inserted_at, refused_at)
