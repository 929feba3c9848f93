-- An edge of a mesh at a vertex is turned: its star in the plane, and what is left of it.
-- Lemmas: from_other_side, spoke_flippable, twin_flippable, can_turn_spoke, spoke_turned,
-- star_flip, star_flip_local, one_neighbour_less, one_hull_neighbour_less.
use Rattle.std.proofs.Common.{◌≡◌, ◌<◌, ◌≤◌, ◌-◌, ◌*◌, ◌/◌, [], ◌∷◌, ◌∙◌}
use Rattle.std.proofs.Common.{ℕ, suc, List, length, refl, sym, ap, subst, arith}
use mathlib.Core.Logic.{inl, inr, ◌≢◌}
use Rattle.std.specs.Prelude.{ℤ, pos, ◌+ℤ◌}
use Rattle.std.proofs.lemmas.Int.{ints}
use Rattle.plane.specs.{Face, face as corners, place, Point, TurnsLeft}
use Rattle.half_edge_links.specs.{face, FlipsTriangles, IsFlippable, IsRound, IsValidMesh}
use Rattle.half_edge_links.specs.{KeepsOuter, Mesh, neighbour, next, origin, prev, rev, spoke}
use Rattle.half_edge_links.proofs.{rev-rev, rev_within}
use Rattle.plane_theorems.specs.{FacesChange, IsFaceOf, IsHullStar, IsStar, IsStarFlip, IsTurnFree}
use Rattle.plane_theorems.specs.{Edits.StarFlips.without, LocalMesh}
use Rattle.plane_theorems.proofs.{Contains-head, flip_kept}
use Rattle.plane_theorems.proofs.Edits.Removal.StarFlips.{hull_star_shrinks, hull_stars_agree}
use Rattle.plane_theorems.proofs.Edits.Removal.StarFlips.{inner_star_shrinks, stars_agree}
use Rattle.delaunay_legalization.specs.{faces_of, outer_of}
use Rattle.delaunay_legalization.proofs.{FaceChanges.come_of, OuterChanges.outer_kept}
use Rattle.delaunay_legalization.proofs.{FaceSums.change_as, MeshStays.halved}
use Rattle.delaunay_legalization.proofs.{MeshEdits.flipped_faces, MeshLegal.between_inner}
use Rattle.half_edge_links.proofs.Sound.Triangles as T

-- ---- the turn of an edge from its other side is the same change of faces
module _ (old new : List Face) (v b c d : ℕ) where
  gone_same : (f : Face → ℤ) → IsTurnFree f → f (corners c d v) +ℤ (f (corners c v b) +ℤ pos 0)
      ≡ f (corners v b c) +ℤ (f (corners v c d) +ℤ pos 0)
  gone_same f free = swapped (f (corners c d v)) (f (corners c v b)) (f (corners v b c))
      (f (corners v c d)) (free v c d) (free v b c ∙ free b c v)
    where
      swapped : (p q r s : ℤ) → s ≡ p → r ≡ q → p +ℤ (q +ℤ pos 0) ≡ r +ℤ (s +ℤ pos 0)
      swapped p q r s e f = omega (arith, ints)

  made_same : (f : Face → ℤ) → IsTurnFree f → f (corners c d b) +ℤ (f (corners d v b) +ℤ pos 0)
      ≡ f (corners v b d) +ℤ (f (corners b c d) +ℤ pos 0)
  made_same f free = swapped (f (corners c d b)) (f (corners d v b)) (f (corners v b d))
      (f (corners b c d)) (free b c d) (free v b d ∙ free b d v)
    where
      swapped : (p q r s : ℤ) → s ≡ p → r ≡ q → p +ℤ (q +ℤ pos 0) ≡ r +ℤ (s +ℤ pos 0)
      swapped p q r s e f = omega (arith, ints)

  -- the turn of c v, read from its other side, is the turn of v c
  pub from_other_side : FacesChange old new (corners c d v ∷ corners c v b ∷ [])
      (corners c d b ∷ corners d v b ∷ []) → FacesChange old new
      (corners v b c ∷ corners v c d ∷ []) (corners v b d ∷ corners b c d ∷ [])
  from_other_side change = change_as old new (corners c d v ∷ corners c v b ∷ [])
      (corners c d b ∷ corners d v b ∷ []) (corners v b c ∷ corners v c d ∷ [])
      (corners v b d ∷ corners b c d ∷ []) change gone_same made_same
      (come_of (corners c d b ∷ corners d v b ∷ []) (corners v b d ∷ corners b c d ∷ []) (
        inr (inr (1, omega arith, refl)),
        (inr (inl (Contains-head (corners c d b) (corners d v b ∷ []))), tt),
      ))

-- ---- the edge from v to neighbour i + 1, between two inner faces
module _ (points : List Point) (m : Mesh) (valid : IsValidMesh m) (local : LocalMesh points
    (faces_of m) (outer_of m)) (v first count : ℕ) (round : IsRound m v first count) (i : ℕ)
    (left : 0 < face m (spoke m first i)) (right : 0 < face m (spoke m first (suc i))) where
  -- the neighbours of the vertex
  abbrev nb : ℕ → ℕ
  nb = neighbour m first

  abbrev e : ℕ
  e = spoke m first (suc i)

  abbrev before : ℕ
  before = spoke m first i

  -- edge i + 1 of the round is one of the mesh
  e_in : e < length m.half_edges
  e_in = round.within (suc i)

  twin_in : rev e < length m.half_edges
  twin_in = rev_within e (length m.half_edges) valid.sound.even e_in

  -- the three edges of the face on the left of edge i
  t : T.IsTriangle m before
  t = T.triangle_at m before valid.sound (round.within i) left

  twin_is : rev e ≡ prev m before
  twin_is = rev-rev (prev m before)

  twin_inner : 0 < face m (rev e)
  twin_inner = subst (λ x. 0 < x) (sym (ap (face m) twin_is ∙ t.face_prev)) left

  -- the edge from v may be turned
  pub spoke_flippable : IsFlippable m e
  spoke_flippable = between_inner points m valid local e e_in right twin_inner

  -- and so may its twin
  pub twin_flippable : IsFlippable m (rev e)
  twin_flippable = between_inner points m valid local (rev e) twin_in twin_inner
      (subst (λ x. 0 < face m x) (sym (rev-rev e)) right)

  corner_b : origin m (prev m (rev e)) ≡ nb i
  corner_b = ap (λ x. origin m (prev m x)) twin_is ∙ ap (origin m) t.prev_prev
      ∙ (valid.sound.edges before (round.within i)).starts

  corner_c : origin m (next m e) ≡ nb (suc i)
  corner_c = (valid.sound.edges e e_in).starts

  corner_d : origin m (prev m e) ≡ nb (suc (suc i))
  corner_d = ap (origin m) (sym (rev-rev (prev m e)))

  twin_end : origin m (next m (rev e)) ≡ v
  twin_end = (valid.sound.edges (rev e) twin_in).starts ∙ ap (origin m) (rev-rev e)
      ∙ round.starts (suc i)

  twin_apex : origin m (prev m (rev (rev e))) ≡ nb (suc (suc i))
  twin_apex = ap (λ x. origin m (prev m x)) (rev-rev e) ∙ corner_d

  abbrev StarChange : Mesh → Type 0
  StarChange new = FacesChange (faces_of m) (faces_of new)
      (corners v (nb i) (nb (suc i)) ∷ corners v (nb (suc i)) (nb (suc (suc i))) ∷ [])
      (corners v (nb i) (nb (suc (suc i))) ∷ corners (nb i) (nb (suc i)) (nb (suc (suc i))) ∷ [])

  by_edge : (new : Mesh) → FlipsTriangles m new e → StarChange new
  by_edge new change =
      subst (λ (x : ℕ × ℕ × ℕ × ℕ). FacesChange (faces_of m) (faces_of new) (corners x.0 x.1 x.2
      ∷ corners x.0 x.2 x.3 ∷ []) (corners x.0 x.1 x.3 ∷ corners x.1 x.2 x.3 ∷ []))
      (λ j. (round.starts (suc i) j, corner_b j, corner_c j, corner_d j))
      (flipped_faces m new e valid.sound spoke_flippable change)

  by_twin : (new : Mesh) → FlipsTriangles m new (rev e) → StarChange new
  by_twin new change =
      from_other_side (faces_of m) (faces_of new) v (nb i) (nb (suc i)) (nb (suc (suc i)))
      (subst (λ (x : ℕ × ℕ × ℕ). FacesChange (faces_of m) (faces_of new)
      (corners (nb (suc i)) x.0 x.1 ∷ corners (nb (suc i)) x.1 x.2 ∷ [])
      (corners (nb (suc i)) x.0 x.2 ∷ corners x.0 x.1 x.2 ∷ []))
      (λ j. (twin_apex j, twin_end j, corner_b j))
      (flipped_faces m new (rev e) valid.sound twin_flippable change))

  abbrev CanTurn : ℕ → Type 0
  CanTurn h = IsFlippable m h × (origin m (prev m h) ≢ origin m (prev m (rev h)))

  -- its undirected edge may be turned
  pub can_turn_spoke : nb i ≢ nb (suc (suc i)) → CanTurn (2 * (e / 2))
  can_turn_spoke differ = elim (halved e) [
    | inl q ↦ subst CanTurn (sym q) (spoke_flippable, λ x. differ (sym corner_b ∙ sym x ∙ corner_d))
    | inr q ↦ subst CanTurn (sym q) (twin_flippable, λ x. differ (sym corner_b ∙ x ∙ twin_apex))
  ]

  -- the turn of its undirected edge
  pub spoke_turned : (new : Mesh) → FlipsTriangles m new (2 * (e / 2)) → StarChange new
  spoke_turned new change = elim (halved e) [
    | inl q ↦ by_edge new (subst (FlipsTriangles m new) q change)
    | inr q ↦ by_twin new (subst (FlipsTriangles m new) q change)
  ]

  -- across a strictly convex quadrilateral
  pub star_flip : (new : Mesh) → FlipsTriangles m new (2 * (e / 2)) → KeepsOuter m new → TurnsLeft
      (place points (nb i)) (place points (nb (suc i))) (place points (nb (suc (suc i))))
      → TurnsLeft (place points v) (place points (nb i)) (place points (nb (suc (suc i))))
      → IsStarFlip points (faces_of m) (faces_of new) (outer_of m) (outer_of new) v nb i
  star_flip new change outer far near = record {
    far = far;
    near = near;
    faces_change = spoke_turned new change;
    outer_change = outer_kept m new local.once outer;
  }

-- ---- what is left
-- a mesh stays local
pub star_flip_local : (points : List Point) (faces new : List Face) (outer outer' : List (ℕ × ℕ))
    (v : ℕ) (nb : ℕ → ℕ) (i : ℕ) → LocalMesh points faces outer
    → IsFaceOf faces v (nb i) (nb (suc i)) → IsFaceOf faces v (nb (suc i)) (nb (suc (suc i)))
    → IsStarFlip points faces new outer outer' v nb i → LocalMesh points new outer'
star_flip_local points faces new outer outer' v nb i local before after flip =
    flip_kept points faces new outer outer' v (nb i) (nb (suc i))
    (nb (suc (suc i))) local before after flip.near flip.far flip.faces_change flip.outer_change

-- and an inner vertex, read again, has one neighbour less
pub one_neighbour_less : (points : List Point) (faces new : List Face) (outer outer' : List (ℕ × ℕ))
    (v k l : ℕ) (nb other : ℕ → ℕ) (i : ℕ) → LocalMesh points faces outer → IsStar faces v k nb
    → 4 ≤ k → IsStarFlip points faces new outer outer' v nb i → IsStar new v l other → suc l ≡ k
one_neighbour_less points faces new outer outer' v k l nb other i local star four flip again =
    let shrunk = inner_star_shrinks points faces new outer outer' v k nb i local star four flip in
    let local' = star_flip_local points faces new outer outer' v nb i local (star.around i)
    (star.around (suc i)) flip in
    let agree = stars_agree points new outer' v (k - 1) l shrunk.0 other local' shrunk.1 again in
    same agree.0
  where
    same : k - 1 ≡ l → suc l ≡ k
    same e = omega (arith, e, four)

-- so has a vertex on the hull, with the same first and last
pub one_hull_neighbour_less : (points : List Point) (faces new : List Face)
    (outer outer' : List (ℕ × ℕ)) (v k l : ℕ) (nb other : ℕ → ℕ) (i : ℕ)
    → LocalMesh points faces outer → IsHullStar faces outer v k nb → suc i < k
    → IsStarFlip points faces new outer outer' v nb i → IsHullStar new outer' v l other
    → (suc l ≡ k) × (other 0 ≡ nb 0) × (other l ≡ nb k)
one_hull_neighbour_less points faces new outer outer' v k l nb other i local star below flip again =
    let shrunk = hull_star_shrinks points faces new outer outer' v k nb i local star below flip in
    let local' = star_flip_local points faces new outer outer' v nb i local
    (star.around i (omega (arith, below))) (star.around (suc i) below) flip in
    let agree = hull_stars_agree points new outer' v (k - 1) l
    (without (suc i) nb) other local' shrunk.0 again in (
      same agree.0,
      agree.1 0 (omega arith) ∙ shrunk.1,
      ap other (sym agree.0) ∙ agree.1 (k - 1) (omega arith) ∙ shrunk.2,
    )
  where
    same : k - 1 ≡ l → suc l ≡ k
    same e = omega (arith, e, below)
