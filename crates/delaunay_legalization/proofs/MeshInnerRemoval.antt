-- An inner vertex of a mesh goes: its three faces become one, or its four faces two where it is
-- strictly between two opposite neighbours.
-- Lemmas: outer_then, three_faces_go, four_faces_go.
use Rattle.std.proofs.Common.{◌≡◌, ◌⊎◌, ℕ, List, [], ◌∷◌, refl, sym, ap, ◌∙◌, subst, arith}
use mathlib.Core.Logic.{inl, inr, ◌≢◌}
use Rattle.std.specs.Prelude.{ℤ, pos, ◌+ℤ◌, Contains}
use Rattle.std.proofs.lemmas.Int.{ints}
use Rattle.plane.specs.{Face, face as corners, place, Point, WithinSegment}
use Rattle.plane_theorems.specs.{FacesChange, IsStar, LocalMesh, LocalMeshWithout, OuterChange}
use Rattle.plane_theorems.proofs.{Contains-cases, Contains-none, IsOnce, once_none}
use Rattle.plane_theorems.proofs.Edits.Removal.InnerVertex.{four_faces_merge, three_faces_merge}
use Rattle.half_edge_dcel.specs.{Contents, FillsHole, IsMeshWithData, OuterSumsChange}
use Rattle.delaunay_legalization.specs.{faces_of, outer_of}
use Rattle.delaunay_legalization.proofs.FaceSums.{both_changes, change_as, hole_filled}
use Rattle.delaunay_legalization.proofs.PairSums.{outer_sums, sums_change}

-- the outer edges stay
outer_same : {V D U F : Type 0} (old new : Contents V D U F) → IsOnce (outer_of old.mesh)
    → OuterSumsChange old.mesh new.mesh [] []
    → OuterChange (outer_of old.mesh) (outer_of new.mesh) [] []
outer_same old new once sums = sums_change (outer_of old.mesh) (outer_of new.mesh) [] []
    (outer_sums old.mesh new.mesh [] [] sums) once once_none
    (λ i j c. absurd (Contains-none (i, j) c)) (λ i j c. absurd (Contains-none (i, j) c))

-- changes of outer edges one after the other, the first of none
pub outer_then : (one two three gone made : List (ℕ × ℕ)) → OuterChange one two [] []
    → OuterChange two three gone made → OuterChange one three gone made
outer_then one two three gone made a b = record {
  kept = λ i j c n. b.kept i j (a.kept i j c (λ h. Contains-none (i, j) h)) n;
  come = b.come;
  only = λ i j c. elim (b.only i j c) [
    | inl h ↦
        inl (elim (a.only i j h.0) [ inl k ↦ k.0 | inr k ↦ absurd (Contains-none (i, j) k) ], h.1)
    | inr h ↦ inr h
  ];
  once = b.once;
}

-- three faces in the order of a star
three_in_order : (old new : List Face) (v a b c a' : ℕ) (made : List Face) → a' ≡ a
    → FacesChange old new (corners v c a' ∷ corners v b c ∷ corners v a b ∷ []) made
    → FacesChange old new (corners v a b ∷ corners v b c ∷ corners v c a ∷ []) made
three_in_order old new v a b c a' made again change =
    change_as old new (corners v c a' ∷ corners v b c ∷ corners v a b ∷ []) made
    (corners v a b ∷ corners v b c ∷ corners v c a ∷ []) made change
    (λ f free. turned (f (corners v c a')) (f (corners v b c)) (f (corners v a b))
    (f (corners v c a)) (ap (λ x. f (corners v c x)) again)) (λ f free. refl) (λ i j k h. h)
  where
    turned : (p q r s : ℤ) → p ≡ s → p +ℤ (q +ℤ (r +ℤ pos 0)) ≡ r +ℤ (q +ℤ (s +ℤ pos 0))
    turned p q r s e = omega (arith, ints)

-- three faces become one
pub three_faces_go : {V D U F : Type 0} (points : List Point) (old new : Contents V D U F) (v : ℕ)
    (nb : ℕ → ℕ) → IsMeshWithData old → IsMeshWithData new
    → LocalMesh points (faces_of old.mesh) (outer_of old.mesh) → IsStar (faces_of old.mesh) v 3 nb
    → FillsHole old new v nb → LocalMeshWithout v points (faces_of new.mesh) (outer_of new.mesh)
three_faces_go points old new v nb before after local star hole =
    three_faces_merge points (faces_of old.mesh) (faces_of new.mesh) (outer_of old.mesh)
    (outer_of new.mesh) v nb local star
    (three_in_order (faces_of old.mesh) (faces_of new.mesh) v (nb 0) (nb 1) (nb 2) (nb 3) (corners
    (nb 0) (nb 1) (nb 2) ∷ []) (star.again 0) (hole_filled old new v nb before after hole))
    (outer_same old new local.once hole.outer)

-- four faces become two: of the edge to neighbour 1 the flip makes a flat face, which goes with the
-- two others
pub four_faces_go : {V D U F : Type 0} (points : List Point) (old between new : Contents V D U F)
    (v : ℕ) (nb n : ℕ → ℕ) → IsMeshWithData between → IsMeshWithData new
    → LocalMesh points (faces_of old.mesh) (outer_of old.mesh) → IsStar (faces_of old.mesh) v 4 nb
    → ((i : ℕ) → nb i ≢ v)
    → WithinSegment (place points (nb 0)) (place points (nb 2)) (place points v)
    → FacesChange (faces_of old.mesh) (faces_of between.mesh) (corners v (nb 0) (nb 1)
    ∷ corners v (nb 1) (nb 2) ∷ []) (corners v (nb 0) (nb 2) ∷ corners (nb 0) (nb 1) (nb 2) ∷ [])
    → OuterChange (outer_of old.mesh) (outer_of between.mesh) [] [] → n 0 ≡ nb 0 → n 1 ≡ nb 2
    → n 2 ≡ nb 3 → n 3 ≡ nb 0 → FillsHole between new v n
    → LocalMeshWithout v points (faces_of new.mesh) (outer_of new.mesh)
four_faces_go points old between new v nb n before after local star other within flip kept
    a b c d hole =
    four_faces_merge points (faces_of old.mesh) (faces_of new.mesh) (outer_of old.mesh)
    (outer_of new.mesh) v nb local star within
    (both_changes (faces_of old.mesh) (faces_of between.mesh) (faces_of new.mesh) v (nb 0) (nb 1)
    (nb 2) more (corners (nb 0) (nb 2) (nb 3) ∷ []) (other 0) (other 1)
    (other 2) flip filled at_v)
    (outer_then (outer_of old.mesh) (outer_of between.mesh) (outer_of new.mesh) [] [] kept
    (outer_same between new kept.once hole.outer))
  where
    more : List Face
    more = corners v (nb 2) (nb 3) ∷ corners v (nb 3) (nb 0) ∷ []

    filled : FacesChange (faces_of between.mesh) (faces_of new.mesh)
        (corners v (nb 0) (nb 2) ∷ corners v (nb 2) (nb 3) ∷ corners v (nb 3) (nb 0) ∷ [])
        (corners (nb 0) (nb 2) (nb 3) ∷ [])
    filled = subst (λ (x : ℕ × ℕ × ℕ). FacesChange (faces_of between.mesh) (faces_of new.mesh)
        (corners v x.0 x.1 ∷ corners v x.1 x.2 ∷ corners v x.2 x.0 ∷ []) (corners x.0 x.1 x.2 ∷ []))
        (λ i. (a i, b i, c i))
        (three_in_order (faces_of between.mesh) (faces_of new.mesh) v (n 0) (n 1) (n 2) (n 3)
        (corners (n 0) (n 1) (n 2) ∷ []) (d ∙ sym a)
        (hole_filled between new v n before after hole))

    at_v : (f : Face) → Contains more f → (f.a ≡ v) ⊎ ((f.b ≡ v) ⊎ (f.c ≡ v))
    at_v f h =
        inl (elim (Contains-cases (corners v (nb 2) (nb 3)) (corners v (nb 3) (nb 0) ∷ []) f h) as
        (λ _. f.a ≡ v) [
          | inl e ↦ sym (ap (λ (x : Face). x.a) e)
          | inr h ↦ elim (Contains-cases (corners v (nb 3) (nb 0)) [] f h) as (λ _. f.a ≡ v)
              [ inl e ↦ sym (ap (λ (x : Face). x.a) e) | inr h ↦ absurd (Contains-none f h) ]
        ])
