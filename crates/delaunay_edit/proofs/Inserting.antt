-- Each way in which an insertion ends.
-- Lemmas: refused_far, overwritten, appended, refused, puts_beside, appends.
use Rattle.std.proofs.Common.{◌≡◌, ◌∙◌, ◌+◌, ◌*◌, ◌<◌}
use Rattle.std.proofs.Common.{ℕ, Bool, false, List, length, map, refl, sym, ap, subst, inl, inr}
use Rattle.std.proofs.Common.{slice_set, Result, Ok, Err}
use Rattle.std.specs.Prelude.{◌↔◌, IsErrOf, IsOk}
use Rattle.std.proofs.lemmas.Bool.{false≢true}
use Rattle.std.proofs.lemmas.List.{length-map}
use Rattle.plane.specs.{InRange, Joins, Point, Replaces}
use Rattle.half_edge_dcel.specs.{Contents, edges}
use Rattle.delaunay_core.specs.{InsertionError, OutOfIndexes, TooLarge}
use Rattle.delaunay_legalization.specs.{IsApart, IsKnown, IsTriangulated, Legalizes, marked_edges}
use Rattle.delaunay_legalization.specs.{point_at, points_and_constraints_by, State.State, state_of}
use Rattle.delaunay_location.specs.{Locates, PositionInTriangulation}
use Rattle.delaunay_vertices.specs.{AddsOnly, GainsVertex, SplitsConstraints}
use Rattle.delaunay_vertices.proofs.{Appending.inserted, SplitConstraints.adding_splits_none}
use Rattle.delaunay_vertices.proofs.DataKept.{appended_keeps, overwritten_keeps}
use Rattle.delaunay_edit.specs.{InsertsVertex}
use Rattle.delaunay_edit.specs.{Counting.IsOnConstraint, Counting.IsSplitCount, Edits.AppendsVertex}
use Rattle.{delaunay_edit.proofs.CountingSplits.counted_split, half_edge_links.specs.MAX_ELEMENTS}

ok_is_no_error : {T E : Type 0} (i : T) (e : E) → ¬ (Ok i ≡ Err e)
ok_is_no_error i e h = cc

abbrev error_or : {T E : Type 0} → E → Result T E → E
error_or d (Ok x) = d
error_or d (Err e) = e

same_error : {T E : Type 0} (e d : E) → ◌≡◌ {A = Result T E} (Err e) (Err d) → e ≡ d
same_error e d h = ap (error_or e) h

module _ {V D U F : Type 0} (place : V → Point) (constraints : List U → List ℕ)
    (old : State V D U F) (value : V) where
  -- a vertex that is out of range is refused
  pub refused_far : {T : Type 0} (e : InsertionError)
      → IsErrOf {T = T} {E = InsertionError} (Err e) TooLarge
      → (IsOk {T = T} {E = InsertionError} (Err e) ↔ InRange (place value))
      → InsertsVertex place constraints value (Err e) old old
  refused_far e too_large near =
      let far : ¬ InRange (place value) = λ h. false≢true (near.1 h) in
      rw (same_error e TooLarge too_large) (record {
        too_large = ((λ _. far), (λ _. refl));
        known = λ h _. absurd (far h);
        full = ((λ h. absurd (cc)), (λ h. absurd (far h.0)));
        ok = tt;
        replaced = λ _. tt;
        outer = refl;
        «data» = tt;
        err = refl;
      })

  -- a vertex is overwritten
  pub overwritten : (new : State V D U F) (i : ℕ) → IsTriangulated place old → InRange (place value)
      → i < length old.vertices → point_at (map place old.vertices) i ≡ place value
      → new ≡ record old { vertices = slice_set old.vertices i value }
      → Replaces place (points_and_constraints_by constraints old)
      (points_and_constraints_by constraints new) i value
      → InsertsVertex place constraints value (Ok i) old new
  overwritten new i kept near below here same replaces =
      let known : IsKnown (map place old.vertices) (place value) =
      record { index = i; below = rw length-map below; here = here } in
      record {
        too_large = ((λ e. absurd (ok_is_no_error i TooLarge e)), (λ far. absurd (far near)));
        known = λ _ _. refl;
        full = ((λ e. absurd (ok_is_no_error i OutOfIndexes e)), (λ h. absurd (h.1 known)));
        ok = inl replaces;
        replaced = λ _. same;
        outer = ap (λ s. s.outer) same;
        «data» = overwritten_keeps place old new _ kept same;
        err = tt;
      }

  is_unknown : IsApart (map place old.vertices) (place value)
      → ¬ IsKnown (map place old.vertices) (place value)
  is_unknown apart known = apart.apart known.index known.below known.here

  -- a vertex is appended, for which there was room
  pub appended : {R : Type 0} {new : State V D U F} {index more : ℕ} {room : R}
      → InRange (place value) → IsApart (map place old.vertices) (place value)
      → (IsErrOf {T = R} {E = InsertionError} (Ok room) OutOfIndexes
      ↔ (MAX_ELEMENTS < 6 * (length old.vertices + 1)))
      → AppendsVertex place constraints value index more old new
      → InsertsVertex place constraints value (Ok index) old new
  appended {new = new} {index = index} {room = room} near apart full appends = record {
    too_large = ((λ e. absurd (ok_is_no_error index TooLarge e)), (λ far. absurd (far near)));
    known = λ _ _. refl;
    full = (
      (λ e. absurd (ok_is_no_error index OutOfIndexes e)),
      (λ h. absurd (ok_is_no_error room OutOfIndexes (full.1 h.2))),
    );
    ok = inserted place constraints old new value apart {E = InsertionError} (Ok index) appends.is
        appends.vertices appends.splits;
    replaced = λ known. absurd (is_unknown apart known);
    outer = appends.«data».outer;
    «data» = appends.«data»;
    err = tt;
  }

  -- there was none
  pub refused : {R : Type 0} {new : State V D U F} (e : InsertionError) → InRange (place value)
      → IsApart (map place old.vertices) (place value)
      → (IsErrOf {T = R} {E = InsertionError} (Err e) OutOfIndexes
      ↔ (MAX_ELEMENTS < 6 * (length old.vertices + 1)))
      → ¬ IsErrOf {T = R} {E = InsertionError} (Err e) TooLarge → new ≡ old
      → InsertsVertex place constraints value (Err e) old new
  refused e near apart full near_enough same = record {
    too_large = (
      (λ h. absurd (near_enough (ap Err (same_error e TooLarge h)))),
      (λ far. absurd (far near)),
    );
    known = λ _ known. absurd (is_unknown apart known);
    full = (
      (λ h. (near, is_unknown apart, full.0 (ap Err (same_error e OutOfIndexes h)))),
      (λ h. ap Err (same_error e OutOfIndexes (full.1 h.2))),
    );
    ok = tt;
    replaced = λ known. absurd (is_unknown apart known);
    outer = ap (λ s. s.outer) same;
    «data» = tt;
    err = same;
  }

-- a vertex was put in, and so many constraints more are where it is
pub record PutsIn {V D U F : Type 0} (place : V → Point) (constraints : List U → List ℕ)
    (value : V) (location : PositionInTriangulation) (old new : Contents V D U F)
    (index more : ℕ) : Type 0 where
  pub takes : GainsVertex place value (state_of old) (state_of new) index
  pub splits : SplitsConstraints place constraints (state_of old) (state_of new) value
  pub split : IsSplitCount constraints old.undirected location more

module _ {V D U F : Type 0} {place : V → Point} (marks : U → Bool) {constraints : List U → List ℕ}
    (marked : (ds : List U) → constraints ds ≡ marked_edges marks ds) {value : V}
    {location : PositionInTriangulation} {old mid : Contents V D U F} {index : ℕ}
    (kept : IsTriangulated place (state_of old)) where
  -- no constraint was split
  pub puts_beside : {P : U → Type 0} → ((d : U) → P d → marks d ≡ false)
      → ¬ IsOnConstraint constraints old.undirected location
      → GainsVertex place value (state_of old) (state_of mid) index
      → AddsOnly P (edges old) (edges mid)
      → PutsIn place constraints value location old mid index 0
  puts_beside free off takes adds = record {
    takes = takes;
    splits = adding_splits_none _ _ old mid kept takes.kept takes.vertices _ _ marked _ free adds;
    split = inr (off, refl);
  }

  -- then edges were turned
  pub appends : {new : Contents V D U F} {more before after : ℕ}
      → Locates (map place old.vertices) old.mesh (place value) location
      → PutsIn place constraints value location old mid index more
      → Legalizes place constraints mid new before after
      → AppendsVertex place constraints value index more (state_of old) (state_of new)
  appends {new = new} {more = more} located put turned = record {
    is = put.takes.is;
    vertices = ap (λ c. c.vertices) turned.contents ∙ put.takes.vertices;
    «data» = appended_keeps old mid new kept put.takes turned.contents turned.indexes
        turned.legal.kept;
    splits = λ i j. (
      (λ h. (put.splits i j).0 (subst (λ (ps : List (ℕ × ℕ)). Joins ps i j) turned.constraints h)),
      (λ x. subst (λ (ps : List (ℕ × ℕ)). Joins ps i j) (sym turned.constraints)
          ((put.splits i j).1 x)),
    );
    counted = λ number before. counted_split _ _ _ marked old (state_of mid) kept put.takes.kept
        value location located put.splits number more (state_of new) before put.split turned.legal
        turned.constraints;
  }
