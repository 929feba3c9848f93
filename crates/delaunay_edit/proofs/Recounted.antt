-- The kept number of constraints after an edit.
-- Lemmas: counted_none, few_counted, counted_released, counted_added.
use Rattle.std.proofs.Common.{◌≡◌, ◌+◌, ◌-◌, ◌*◌, ◌≤◌, []}
use Rattle.std.proofs.Common.{ℕ, Bool, List, length, map, sym, ap, arith}
use Rattle.plane.specs.{EachPairOnce, Point}
use Rattle.{half_edge_dcel.specs.Contents, half_edge_links.specs.origin, half_edge_links.specs.rev}
use Rattle.delaunay_legalization.specs.{constraints_by, IsDelaunayTriangulation, marked_edges}
use Rattle.delaunay_legalization.specs.{points_and_constraints_by, State.State, state_of}
use Rattle.delaunay_edit.specs.{AddsConstraints, HasPairs, IsCounted, IsMissing, ReleasesEdge}
use Rattle.delaunay_edit.proofs.DifferentConstraints.{constraints_once, few_constraints}
use Rattle.delaunay_edit.proofs.EditCounts.{added_number, released_number}
use Rattle.delaunay_edit.proofs.EditingConstraints.{neighbours_of, next_of}
use Rattle.delaunay_edit.proofs.PairCounts.{has_pairs_as}

-- no constraint
pub counted_none : {V D U F : Type 0} (place : V → Point) (constraints : List U → List ℕ)
    (s : State V D U F) → IsDelaunayTriangulation place constraints s
    → constraints_by constraints s ≡ [] → IsCounted place constraints s 0
counted_none place constraints s legal none =
    record { legal = legal; counted = ap (λ (ps : List (ℕ × ℕ)). length ps) (sym none) }

-- ---- after an edit
module _ {V D U F : Type 0} {place : V → Point} (marks : U → Bool) {constraints : List U → List ℕ}
    (marked : (ds : List U) → constraints ds ≡ marked_edges marks ds) where
  -- there are at most three constraints for each vertex
  pub few_counted : {s : State V D U F} {number : ℕ} → IsCounted place constraints s number
      → number ≤ 3 * length s.vertices
  few_counted {s = s} counted =
      let is = counted.counted in
      let few = few_constraints place marks constraints marked s counted.legal.kept in
      let edges = counted.legal.kept.few_edges in
      omega (arith, is, few, edges)

  -- each pair of vertices is joined by one constraint at most
  once : (s : State V D U F) → IsDelaunayTriangulation place constraints s
      → EachPairOnce (constraints_by constraints s)
  once s legal = constraints_once place marks constraints marked s legal.kept

  -- one is released
  pub counted_released : {change : U → U} {old new : Contents V D U F} {k number : ℕ}
      → IsCounted place constraints (state_of old) number
      → ReleasesEdge place change constraints old new k
      → IsCounted place constraints (state_of new) (number - 1)
  counted_released {old = old} {new = new} {k = k} was releases =
      let fewer = released_number place (points_and_constraints_by constraints (state_of old))
      (points_and_constraints_by constraints (state_of new)) (once (state_of old) was.legal)
      (once (state_of new) releases.legal) (origin old.mesh (2 * k)) (origin old.mesh (rev (2 * k)))
      releases.plain in
      let counted = was.counted in
      record { legal = releases.legal; counted = omega (arith, fewer, counted) }

  -- a path is added, of which so many subconstraints were none
  pub counted_added : {mark : U → U} {old new : Contents V D U F} {i j k number : ℕ}
      → IsCounted place constraints (state_of old) number
      → AddsConstraints place marks mark constraints old new i j
      → HasPairs
      (IsMissing (map place old.vertices) (constraints_by constraints (state_of old)) i j) k
      → IsCounted place constraints (state_of new) (number + k)
  counted_added {old = old} {new = new} {i = i} {j = j} {k = k} was adds missing =
      let more = added_number place (points_and_constraints_by constraints (state_of old))
      (points_and_constraints_by constraints (state_of new)) (once (state_of old) was.legal)
      (once (state_of new) adds.legal) i j k adds.plain (has_pairs_as missing (λ a b. (
        (λ m. (neighbours_of place (map place old.vertices) i j a b m.0, m.1)),
        (λ m. (next_of place (map place old.vertices) i j a b m.0, m.1)),
      ))) in
      let counted = was.counted in
      record { legal = adds.legal; counted = omega (arith, more, counted) }
