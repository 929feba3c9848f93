-- A vertex after the others.
-- Lemmas: inserted, sites_after.
use Rattle.std.proofs.Common.{◌≡◌, ◌∙◌, ◌++◌, ◌∷◌, []}
use Rattle.std.proofs.Common.{ℕ, List, length, map, sym, ap, subst, Result, Ok, Err, inr}
use Rattle.std.specs.Prelude.{pos, All, IfOk, OnOk}
use Rattle.std.proofs.lemmas.List.{length-map, get_or-map, map-append}
use Rattle.std.proofs.lemmas.List.Elements.{All-from_get_or, All-push}
use Rattle.plane.specs.{Appends, DifferInPosition, Inserts, Point}
use Rattle.delaunay_legalization.specs.{IsApart, points_and_constraints_by, State.State}
use Rattle.delaunay_vertices.specs.{SplitsConstraints}

module _ {V D U F : Type 0} (at : V → Point) (constraints : List U → List ℕ)
    (old new : State V D U F) (v : V) (apart : IsApart (map at old.vertices) (at v)) where
  appended : new.vertices ≡ old.vertices ++ v ∷ [] → SplitsConstraints at constraints old new v
      → Appends at (points_and_constraints_by constraints old)
      (points_and_constraints_by constraints new) v
  appended is splits = record {
    fresh = All-from_get_or (DifferInPosition at v) old.vertices v
        (λ i h e. apart.apart i (rw length-map h)
        (get_or-map at old.vertices i v (record { x = pos 0; y = pos 0 }) h
        ∙ sym e));
    vertices = is;
    constraints = splits;
  }

  -- a result with v after the other vertices, and its constraints split there, inserts v at its
  -- index
  pub inserted : {E : Type 0} (result : Result ℕ E) → IfOk result (λ i. i ≡ length old.vertices)
      → OnOk result (new.vertices ≡ old.vertices ++ v ∷ [])
      → OnOk result (SplitsConstraints at constraints old new v) → IfOk result (λ i. Inserts at
      (points_and_constraints_by constraints old) (points_and_constraints_by constraints new) v i)
  inserted (Ok i) last is splits = inr (last, appended is splits)
  inserted (Err e) last is splits = tt

-- the new vertex is a site as the others are
pub sites_after : {V : Type 0} (at : V → Point) (sites : Point → Type 0) (old new : List V) (v : V)
    → new ≡ old ++ v ∷ [] → All sites (map at old) → sites (at v) → All sites (map at new)
sites_after at sites old new v is all one = subst (λ (ps : List Point). All sites ps)
    (sym (ap (map at) is ∙ map-append at old (v ∷ []))) (All-push sites (map at old) (at v) all one)
