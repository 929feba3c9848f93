-- A vertex on the hull of a mesh goes: at a corner its faces go, on a flat side its two faces
-- become one.
-- Notions: IsLeftWithout; strip_outer, corner_cut, flat_vertex_goes.
use Rattle.std.proofs.Common.{◌≡◌, ◌<◌, ◌≤◌, [], ◌∷◌, ◌∙◌}
use Rattle.std.proofs.Common.{ℕ, zero, suc, List, length, map, refl, sym, ap, subst, arith}
use mathlib.Core.Logic.{inl, inr, ◌≢◌}
use Rattle.std.specs.Prelude.{Contains}
use Rattle.plane.specs.{Face, face as corners, on, place, Point, side, TurnsLeft}
use Rattle.plane_theorems.specs.{chain, FacesChange, IsFaceOf, IsHullStar, LineMeshWithout}
use Rattle.plane_theorems.specs.{LocalMesh, LocalMeshWithout, NoneTurnsLeft, OuterChange, strip}
use Rattle.plane_theorems.proofs.{by_signs, Contains-cases, Contains-none, IsOnce, next_unique}
use Rattle.plane_theorems.proofs.{once_cons, once_none, point_at, Tiling.Loops.outer_is_no_side}
use Rattle.plane_theorems.proofs.Edits.Removal.HullVertex.{corner_goes, corner_leaves_line}
use Rattle.plane_theorems.proofs.{Edits.Removal.HullVertex.flat_side_closes, Tiling.Flows.turned}
use Rattle.half_edge_dcel.specs.{Contents, faces_between, IsMeshWithData, joins, LosesStrip}
use Rattle.delaunay_legalization.specs.{corners_of, faces_of, outer_of, pair_of}
use Rattle.delaunay_legalization.proofs.FaceSums.{both_changes, faces_lost}
use Rattle.delaunay_legalization.proofs.{MeshInnerRemoval.outer_then, OuterChanges.two_pairs}
use Rattle.delaunay_legalization.proofs.PairSums.{HaveNoneIn, outer_sums, sums_change, SumsChange}
use Rattle.half_edge_dcel.specs.Removal as M

-- the faces and the ways between neighbours, as the plane lists them
faces_strip : (v : ℕ) (n : ℕ → ℕ) (k : ℕ) → map corners_of (faces_between v n k) ≡ strip v n k
faces_strip v n zero = refl
faces_strip v n (suc k) =
    ap (λ (fs : List Face). corners v (n k) (n (suc k)) ∷ fs) (faces_strip v n k)

ways_chain : (n : ℕ → ℕ) (k : ℕ) → map pair_of (M.chain n k) ≡ chain n k
ways_chain n zero = refl
ways_chain n (suc k) = ap (λ (es : List (ℕ × ℕ)). (n k, n (suc k)) ∷ es) (ways_chain n k)

-- a way of the chain
in_chain : (n : ℕ → ℕ) (k a b : ℕ) → Contains (chain n k) (a, b)
    → (i : ℕ) × (i < k) × (a ≡ n i) × (b ≡ n (suc i))
in_chain n zero a b c = absurd (Contains-none (a, b) c)
in_chain n (suc k) a b c = elim (Contains-cases (n k, n (suc k)) (chain n k) (a, b) c) [
  | inl e ↦ (k, omega arith, sym (ap (λ (x : ℕ × ℕ). x.0) e), sym (ap (λ (x : ℕ × ℕ). x.1) e))
  | inr h ↦ (let r = in_chain n k a b h in (r.0, omega (arith, r.1), r.2, r.3))
]

-- each of them once, where the neighbours differ
chain_once : (n : ℕ → ℕ) (k : ℕ) → ((i j : ℕ) → i < j → j ≤ k → n i ≢ n j) → IsOnce (chain n k)
chain_once n zero differ = once_none
chain_once n (suc k) differ =
    once_cons (n k, n (suc k)) (chain n k) (λ c. let r = in_chain n k (n k) (n (suc k)) c in differ
    r.0 k r.1 (omega arith) (sym r.2)) (chain_once n k (λ i j l h. differ i j l (omega (arith, h))))

-- ---- the outer edges, where the faces of a star go
module _ (points : List Point) (faces : List Face) (old new : List (ℕ × ℕ)) (v k : ℕ) (n : ℕ → ℕ)
    (local : LocalMesh points faces old) (star : IsHullStar faces old v k n)
    (other : (i : ℕ) → n i ≢ v) (differ : (i j : ℕ) → i < j → j ≤ k → n i ≢ n j) where
  abbrev gone : List (ℕ × ℕ)
  gone = (n 0, v) ∷ (v, n k) ∷ []

  fresh : (i j : ℕ) → Contains (chain n k) (i, j) → ¬ Contains old (i, j)
  fresh i j c h =
      let r = in_chain n k i j c in
      outer_is_no_side (length points) (point_at points) faces old
      (by_signs points faces old local) i j h (
        v,
        subst (λ (x : ℕ × ℕ). IsFaceOf faces x.0 x.1 v) (λ t. (sym r.2 t, sym r.3 t))
            (turned faces v (n r.0) (n (suc r.0)) (star.around r.0 r.1)),
      )

  apart : HaveNoneIn (chain n k) gone
  apart i j c h =
      let r = in_chain n k i j c in
      elim (two_pairs (i, j) (n 0, v) (v, n k) h) as (λ _. ⊥) [
        | inl e ↦ other (suc r.0) (sym r.3 ∙ sym (ap (λ (x : ℕ × ℕ). x.1) e))
        | inr e ↦ other r.0 (sym r.2 ∙ sym (ap (λ (x : ℕ × ℕ). x.0) e))
      ]

  -- by the sums: the two outer edges at v give way to the chain of its neighbours
  pub strip_outer : SumsChange old new gone (chain n k) → OuterChange old new gone (chain n k)
  strip_outer sums =
      sums_change old new gone (chain n k) sums local.once (chain_once n k differ) fresh apart

-- ---- a corner of the hull goes with its faces
-- what is left without v, with faces or on a line
pub record IsLeftWithout (v : ℕ) (points : List Point) (faces : List Face)
    (outer : List (ℕ × ℕ)) : Type 0 where
  pub with_faces : faces ≢ [] → LocalMeshWithout v points faces outer
  pub on_line : faces ≡ [] → LineMeshWithout v points outer

module _ {V D U F : Type 0} (points : List Point) (old new : Contents V D U F) (v k : ℕ) (n : ℕ → ℕ)
    (before : IsMeshWithData old) (after : IsMeshWithData new)
    (local : LocalMesh points (faces_of old.mesh) (outer_of old.mesh))
    (star : IsHullStar (faces_of old.mesh) (outer_of old.mesh) v k n) (other : (i : ℕ) → n i ≢ v)
    (differ : (i j : ℕ) → i < j → j ≤ k → n i ≢ n j) (loses : LosesStrip old new v n k) where
  strip_goes : FacesChange (faces_of old.mesh) (faces_of new.mesh) (strip v n k) []
  strip_goes = subst (λ (fs : List Face). FacesChange (faces_of old.mesh) (faces_of new.mesh) fs [])
      (faces_strip v n k) (faces_lost old new (faces_between v n k) before after loses.faces)

  ways_come :
      OuterChange (outer_of old.mesh) (outer_of new.mesh) ((n 0, v) ∷ (v, n k) ∷ []) (chain n k)
  ways_come = strip_outer points (faces_of old.mesh) (outer_of old.mesh)
      (outer_of new.mesh) v k n local star other differ
      (subst (λ (es : List (ℕ × ℕ)). SumsChange (outer_of old.mesh) (outer_of new.mesh)
      ((n 0, v) ∷ (v, n k) ∷ []) es) (ways_chain n k) (outer_sums old.mesh new.mesh
      (joins (n 0) v ∷ joins v (n k) ∷ []) (M.chain n k) loses.outer))

  module _ (corner : TurnsLeft (place points v) (place points (n 0)) (place points (n k)))
      (bent : NoneTurnsLeft points k n) where
    -- other faces are left, or none is
    pub corner_cut : IsLeftWithout v points (faces_of new.mesh) (outer_of new.mesh)
    corner_cut = record {
      with_faces =
          λ some. corner_goes points (faces_of old.mesh) (faces_of new.mesh) (outer_of old.mesh)
          (outer_of new.mesh) v k n local star corner bent strip_goes ways_come some;
      on_line = λ none. corner_leaves_line points (faces_of old.mesh) (faces_of new.mesh)
          (outer_of old.mesh)
          (outer_of new.mesh) v k n local star corner bent strip_goes ways_come none;
    }

-- ---- a vertex on a flat side goes: of the edge to neighbour 1 the flip makes a flat face, which
-- goes with it
-- a vertex on a flat side, whose one inner edge was flipped, leaves a mesh of the other points
pub flat_vertex_goes : {V D U F : Type 0} (points : List Point) (old between new : Contents V D U F)
    (v : ℕ) (nb n : ℕ → ℕ) → IsMeshWithData between → IsMeshWithData new
    → LocalMesh points (faces_of old.mesh) (outer_of old.mesh)
    → IsHullStar (faces_of old.mesh) (outer_of old.mesh) v 2 nb → ((i : ℕ) → nb i ≢ v)
    → side (place points (nb 0)) (place points v) (place points (nb 2)) ≡ on
    → FacesChange (faces_of old.mesh) (faces_of between.mesh) (corners v (nb 0) (nb 1)
    ∷ corners v (nb 1) (nb 2) ∷ []) (corners v (nb 0) (nb 2) ∷ corners (nb 0) (nb 1) (nb 2) ∷ [])
    → OuterChange (outer_of old.mesh) (outer_of between.mesh) [] [] → n 0 ≡ nb 0 → n 1 ≡ nb 2
    → LosesStrip between new v n 1
    → LocalMeshWithout v points (faces_of new.mesh) (outer_of new.mesh)
flat_vertex_goes points old between new v nb n before after local star other flat flip
    kept a b loses =
    flat_side_closes points (faces_of old.mesh) (faces_of new.mesh) (outer_of old.mesh)
    (outer_of new.mesh) v nb local star flat
    (both_changes (faces_of old.mesh) (faces_of between.mesh) (faces_of new.mesh) v (nb 0) (nb 1)
    (nb 2) [] [] (other 0) (other 1) (other 2) flip taken (λ f h. absurd (Contains-none f h)))
    (outer_then (outer_of old.mesh) (outer_of between.mesh) (outer_of new.mesh) gone made kept
    (sums_change (outer_of between.mesh) (outer_of new.mesh) gone made sums kept.once
    (once_cons {X = ℕ × ℕ} (nb 0, nb 2) []
    (λ c. Contains-none {X = ℕ × ℕ} (nb 0, nb 2) c) once_none) fresh apart))
  where
    gone : List (ℕ × ℕ)
    gone = (nb 0, v) ∷ (v, nb 2) ∷ []

    made : List (ℕ × ℕ)
    made = (nb 0, nb 2) ∷ []

    taken :
        FacesChange (faces_of between.mesh) (faces_of new.mesh) (corners v (nb 0) (nb 2) ∷ []) []
    taken = subst (λ (x : ℕ × ℕ). FacesChange (faces_of between.mesh) (faces_of new.mesh)
        (corners v x.0 x.1 ∷ []) []) (λ i. (a i, b i))
        (faces_lost between new (faces_between v n 1) before after loses.faces)

    sums : SumsChange (outer_of between.mesh) (outer_of new.mesh) gone made
    sums = subst (λ (x : ℕ × ℕ). SumsChange (outer_of between.mesh) (outer_of new.mesh)
        ((x.0, v) ∷ (v, x.1) ∷ []) ((x.0, x.1) ∷ [])) (λ i. (a i, b i)) (outer_sums between.mesh
        new.mesh (joins (n 0) v ∷ joins v (n 1) ∷ []) (M.chain n 1) loses.outer)

    made_is : (i j : ℕ) → Contains made (i, j) → (nb 0 ≡ i) × (nb 2 ≡ j)
    made_is i j c =
        elim (Contains-cases (nb 0, nb 2) [] (i, j) c) as (λ _. (nb 0 ≡ i) × (nb 2 ≡ j)) [
          | inl e ↦ (ap (λ (x : ℕ × ℕ). x.0) e, ap (λ (x : ℕ × ℕ). x.1) e)
          | inr h ↦ absurd (Contains-none (i, j) h)
        ]

    -- the start of the flat side has the outer edge to v, and no other one
    fresh : (i j : ℕ) → Contains made (i, j) → ¬ Contains (outer_of between.mesh) (i, j)
    fresh i j c h = elim (kept.only i j h) as (λ _. ⊥) [
      | inl k ↦ other 2
          (next_unique (length points) (point_at points) (faces_of old.mesh) (outer_of old.mesh)
          (by_signs points (faces_of old.mesh) (outer_of old.mesh) local) (nb 0) (nb 2) v
          (subst (λ (x : ℕ × ℕ). Contains (outer_of old.mesh) x)
          (λ t. (sym (made_is i j c).0 t, sym (made_is i j c).1 t)) k.0) star.arrives)
      | inr k ↦ Contains-none (i, j) k
    ]

    apart : HaveNoneIn made gone
    apart i j c h = elim (two_pairs (i, j) (nb 0, v) (v, nb 2) h) as (λ _. ⊥) [
      | inl e ↦ other 2 ((made_is i j c).1 ∙ sym (ap (λ (x : ℕ × ℕ). x.1) e))
      | inr e ↦ other 0 ((made_is i j c).0 ∙ sym (ap (λ (x : ℕ × ℕ). x.0) e))
    ]
