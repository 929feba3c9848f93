-- A vertex leaves a line: an end, one from between two neighbours, or the only one.
-- Lemmas: first_of, second_of, line_left, line_removed.
use Rattle.std.proofs.Common.{◌≡◌, ◌⊎◌, ◌<◌, [], ◌∷◌, ◌∙◌}
use Rattle.std.proofs.Common.{ℕ, List, length, map, refl, sym, ap, subst, arith}
use mathlib.Core.Logic.{inl, inr, ◌≢◌}
use Rattle.std.specs.Prelude.{Contains}
use Rattle.{half_edge_links.specs.AreSoundLinks, plane_theorems.proofs.once_none}
use Rattle.plane_theorems.specs.{LineMesh, LineMeshWithout}
use Rattle.plane_theorems.proofs.{Contains-cases, Contains-head, Contains-none, IsOnce, once_cons}
use Rattle.plane_theorems.proofs.Edits.Removal.OnLine.{end_of_line_goes, middle_of_line_goes}
use Rattle.half_edge_dcel.specs.{Contents, joins, LeavesMesh, Removal.LeavesLine}
use Rattle.{delaunay_legalization.specs.outer_of, plane.specs.IsIndex, plane.specs.Point}
use Rattle.delaunay_legalization.proofs.{FaceChanges.length_map, OuterChanges.two_pairs}
use Rattle.delaunay_legalization.proofs.LineNeighbours.{apart_neighbours, lone_vertex_goes}
use Rattle.delaunay_legalization.proofs.MeshDrops.{alone_has_none, dropped_on_line, index_within}
use Rattle.delaunay_legalization.proofs.PairSums.{gone_there, HaveNoneIn, must_go, outer_sums}
use Rattle.delaunay_legalization.proofs.PairSums.{sums_change, SumsChange}

-- the same pairs have the same first
pub first_of : (x y : ℕ × ℕ) → x ≡ y → x.0 ≡ y.0
first_of x y e = ap (λ (p : ℕ × ℕ). p.0) e

-- the same pairs have the same second
pub second_of : (x y : ℕ × ℕ) → x ≡ y → x.1 ≡ y.1
second_of x y e = ap (λ (p : ℕ × ℕ). p.1) e

-- ---- the outer edges of a line, as v leaves it
module _ (points : List Point) (old new : List (ℕ × ℕ)) (v : ℕ) (m : LineMesh points old)
    (none : (j : ℕ) → ¬ Contains new (v, j)) where
  -- v has one neighbour u
  module _ (u : ℕ) (apart : u ≢ v) (sums : SumsChange old new ((v, u) ∷ (u, v) ∷ []) []) where
    abbrev ends_gone : List (ℕ × ℕ)
    ends_gone = (v, u) ∷ (u, v) ∷ []

    only_neighbour : (j : ℕ) → Contains old (v, j) → j ≡ u
    only_neighbour j c =
        elim (two_pairs (v, j) (v, u) (u, v) (must_go old new ends_gone [] sums v j c (none j))) as
        (λ _. j ≡ u) [
          | inl e ↦ sym (second_of (v, u) (v, j) e)
          | inr e ↦ absurd (apart (first_of (u, v) (v, j) e))
        ]

    end_goes : LineMeshWithout v points new
    end_goes = end_of_line_goes points old new v u m
        (gone_there old new ends_gone [] sums v u (Contains-head (v, u) ((u, v) ∷ []))
        (λ c. Contains-none (v, u) c))
        only_neighbour
        (sums_change old new ends_gone [] sums m.once once_none
        (λ i j c. absurd (Contains-none (i, j) c)) (λ i j c. absurd (Contains-none (i, j) c)))

  -- v has the neighbours u and w
  module _ (u w : ℕ) (differ : u ≢ w) (sums :
      SumsChange old new ((v, u) ∷ (u, v) ∷ (v, w) ∷ (w, v) ∷ []) ((u, w) ∷ (w, u) ∷ [])) where
    abbrev gone : List (ℕ × ℕ)
    gone = (v, u) ∷ (u, v) ∷ (v, w) ∷ (w, v) ∷ []

    abbrev made : List (ℕ × ℕ)
    made = (u, w) ∷ (w, u) ∷ []

    -- what is made has u at one end and w at the other
    made_ends : (i j : ℕ) → Contains made (i, j) → ((i ≡ u) × (j ≡ w)) ⊎ ((i ≡ w) × (j ≡ u))
    made_ends i j c = elim (two_pairs (i, j) (u, w) (w, u) c) as
        (λ _. ((i ≡ u) × (j ≡ w)) ⊎ ((i ≡ w) × (j ≡ u))) [
          | inl e ↦ inl (sym (first_of (u, w) (i, j) e), sym (second_of (u, w) (i, j) e))
          | inr e ↦ inr (sym (first_of (w, u) (i, j) e), sym (second_of (w, u) (i, j) e))
        ]

    no_loop_made : ¬ Contains made (v, v)
    no_loop_made c = elim (made_ends v v c) as
        (λ _. ⊥) [ inl e ↦ differ (sym e.0 ∙ e.1) | inr e ↦ differ (sym e.1 ∙ e.0) ]

    no_loop : ¬ Contains gone (v, v)
    no_loop c =
        ((m.neighbours v v).0 (gone_there old new gone made sums v v c no_loop_made)).apart refl

    u_other : u ≢ v
    u_other e = no_loop
        (subst (λ x. Contains gone (v, x)) e (Contains-head (v, u) ((u, v) ∷ (v, w) ∷ (w, v) ∷ [])))

    third : Contains gone (v, w)
    third = (2, omega arith, refl)

    w_other : w ≢ v
    w_other e = no_loop (subst (λ x. Contains gone (v, x)) e third)

    not_made : (j : ℕ) → ¬ Contains made (v, j)
    not_made j c =
        elim (made_ends v j c) as (λ _. ⊥) [ inl e ↦ u_other (sym e.0) | inr e ↦ w_other (sym e.0) ]

    first_edge : Contains old (v, u)
    first_edge = gone_there old new gone made sums v u
        (Contains-head (v, u) ((u, v) ∷ (v, w) ∷ (w, v) ∷ [])) (not_made u)

    second_edge : Contains old (v, w)
    second_edge = gone_there old new gone made sums v w third (not_made w)

    fresh : (i j : ℕ) → Contains made (i, j) → ¬ Contains old (i, j)
    fresh i j c h = elim (made_ends i j c) as (λ _. ⊥) [
      | inl e ↦ apart_neighbours points old m v u w first_edge second_edge
          (subst (λ (x : ℕ × ℕ). Contains old x) (λ t. (e.0 t, e.1 t)) h)
      | inr e ↦ apart_neighbours points old m v w u second_edge first_edge
          (subst (λ (x : ℕ × ℕ). Contains old x) (λ t. (e.0 t, e.1 t)) h)
    ]

    -- what goes has v at one end
    gone_ends : (i j : ℕ) → Contains gone (i, j) → (i ≡ v) ⊎ (j ≡ v)
    gone_ends i j c = elim (Contains-cases (v, u) ((u, v) ∷ (v, w) ∷ (w, v) ∷ []) (i, j) c) as
        (λ _. (i ≡ v) ⊎ (j ≡ v)) [
          | inl e ↦ inl (sym (first_of (v, u) (i, j) e))
          | inr c ↦
              elim (Contains-cases (u, v) ((v, w) ∷ (w, v) ∷ []) (i, j) c) as
              (λ _. (i ≡ v) ⊎ (j ≡ v)) [
                | inl e ↦ inr (sym (second_of (u, v) (i, j) e))
                | inr c ↦ elim (two_pairs (i, j) (v, w) (w, v) c) as (λ _. (i ≡ v) ⊎ (j ≡ v)) [
                  | inl e ↦ inl (sym (first_of (v, w) (i, j) e))
                  | inr e ↦ inr (sym (second_of (w, v) (i, j) e))
                ]
              ]
        ]

    made_apart : HaveNoneIn made gone
    made_apart i j c h = elim (made_ends i j c) as (λ _. ⊥) [
      | inl e ↦ elim (gone_ends i j h) as
          (λ _. ⊥) [ inl q ↦ u_other (sym e.0 ∙ q) | inr q ↦ w_other (sym e.1 ∙ q) ]
      | inr e ↦ elim (gone_ends i j h) as
          (λ _. ⊥) [ inl q ↦ w_other (sym e.0 ∙ q) | inr q ↦ u_other (sym e.1 ∙ q) ]
    ]

    no_way_back : ¬ Contains {X = ℕ × ℕ} ((w, u) ∷ []) (u, w)
    no_way_back c = elim (Contains-cases {X = ℕ × ℕ} (w, u) [] (u, w) c) as (λ _. ⊥) [
      | inl e ↦ differ (sym (first_of (w, u) (u, w) e))
      | inr k ↦ Contains-none {X = ℕ × ℕ} (u, w) k
    ]

    made_once : IsOnce made
    made_once = once_cons {X = ℕ × ℕ} (u, w) ((w, u) ∷ []) no_way_back
        (once_cons {X = ℕ × ℕ} (w, u) [] (λ c. Contains-none {X = ℕ × ℕ} (w, u) c) once_none)

    middle_goes : LineMeshWithout v points new
    middle_goes = middle_of_line_goes points old new v u w m first_edge second_edge differ
        (sums_change old new gone made sums m.once made_once fresh made_apart)

-- ---- a vertex has lost its edges
-- where a vertex has lost its edges, a line mesh is one of the other points
pub line_left : {V D U F : Type 0} (points : List Point) (old new : Contents V D U F) (v : ℕ)
    → IsIndex points v → LineMesh points (outer_of old.mesh) → AreSoundLinks new.mesh
    → LeavesLine old new v → LineMeshWithout v points (outer_of new.mesh)
line_left {V} {D} {U} {F} points old new v here m sound leaves = elim leaves.how [
  | inl same ↦ subst (λ (c : Contents V D U F). LineMeshWithout v points (outer_of c.mesh))
      (sym same) (lone_vertex_goes points (outer_of old.mesh) m v here
      (λ j. subst (λ (c : Contents V D U F). ¬ Contains (outer_of c.mesh) (v, j)) same (none j)))
  | inr (inl (u, apart, edges, outer)) ↦ end_goes points (outer_of old.mesh) (outer_of new.mesh) v m
      none u apart (outer_sums old.mesh new.mesh (joins v u ∷ joins u v ∷ []) [] outer)
  | inr (inr (u, w, differ, edges, outer)) ↦ middle_goes points (outer_of old.mesh)
      (outer_of new.mesh) v m none u w differ (outer_sums old.mesh new.mesh
      (joins v u ∷ joins u v ∷ joins v w ∷ joins w v ∷ []) (joins u w ∷ joins w u ∷ []) outer)
]
  where
    none : (j : ℕ) → ¬ Contains (outer_of new.mesh) (v, j)
    none j = alone_has_none new.mesh v j sound leaves.alone

-- ---- a vertex has gone from a line, and the last one has its index
-- where a vertex has gone and the last one has its index, a line mesh is one of the points that are
-- left
pub line_removed : {V D U F : Type 0} (position : V → Point) (old new : Contents V D U F) (v : ℕ)
    (value : V) → LineMesh (map position old.vertices) (outer_of old.mesh)
    → LeavesMesh old new v value → LineMesh (map position new.vertices) (outer_of new.mesh)
line_removed {V} {D} {U} {F} position old new v value m leaves =
    dropped_on_line position leaves.between new v value leaves.drops
    (subst (λ (vs : List V). LineMeshWithout v (map position vs) (outer_of leaves.between.mesh))
    (sym same_vertices)
    (line_left (map position old.vertices) old leaves.between v index m leaves.whole.valid.sound
    leaves.leaves))
  where
    same_vertices : leaves.between.vertices ≡ old.vertices
    same_vertices = ap (λ (c : Contents V D U F). c.vertices) leaves.leaves.contents

    index : v < length (map position old.vertices)
    index = subst (λ n. v < n) (ap length same_vertices ∙ sym (length_map position old.vertices))
        (index_within position leaves.between new v value leaves.drops)
