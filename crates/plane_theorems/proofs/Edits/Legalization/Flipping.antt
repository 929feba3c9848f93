-- Flipping the edges that fail the circle test: what one flip does, and which edges are left to
-- test.
-- Notions: one_question, failing_is_convex; area (lifted); made_sides, old_diagonal_gone;
-- flip_lowers, flip_leaves_sides, passing_is_dropped, change_leaves_sides, none_left.
use Rattle.std.proofs.Common.{◌≡◌, ◌⊎◌, ℕ, ◌<◌, List, [], ◌∷◌, length, refl, sym, ◌∙◌, subst, arith}
use mathlib.Core.Logic.{inl, inr, ◌≢◌}
use Rattle.std.specs.Prelude.{ℤ, pos, ◌+ℤ◌, ◌-ℤ◌, ◌*ℤ◌, ◌≤ℤ◌, ◌<ℤ◌, neg_ℤ, Contains}
use Rattle.std.proofs.lemmas.Int.{ints}
use Rattle.plane.specs.{Face, face, InsideCircle, IsSamePair, Joins, place, Point, turn_at}
use Rattle.plane.proofs.{◌⊕◌, ◌⊖◌, ◌⊗◌, bracket, bracket-affine, bracket-turn, if_left, incircle}
use Rattle.plane.proofs.{incircleᵖ, left_if, lift, liftᵖ, lower_magnitude, moved, mul-nonneg_ℤ}
use Rattle.plane.proofs.{near, pair_turned, points as points_shape, Pointᵖ, Poly, ring_over}
use Rattle.plane.proofs.{square-nonneg_ℤ, sum_not_negative, sum_of_three_not_negative, turned_join}
use Rattle.{plane.proofs.weak, plane_theorems.proofs.Edits.LocalMesh.Changes.has_pair_or_not}
use Rattle.plane.proofs.Circles.{incircle-exchange, incircle-flipped, incircle-turn}
use Rattle.{plane.proofs.Circles.inside_is_incircle, plane.specs.TurnsLeft, plane.specs.whole}
use Rattle.plane_theorems.specs.{AllPassBut, FacesChange, IsFaceOf, IsSideOfOne, IsTurnFree}
use Rattle.plane_theorems.specs.{lifted_volume, LocalMesh, Pass, total}
use Rattle.plane_theorems.specs.Edits.Legal.{IsRoundSide, lifted_area, squared_length}
use Rattle.plane_theorems.specs.Edits.LegalLaws.{ChangeLeavesSides, FailingIsConvex}
use Rattle.plane_theorems.specs.Edits.LegalLaws.{FlipLeavesSides, FlipLowers}
use Rattle.plane_theorems.specs.Edits.LegalLaws.{NoneLeftIsLocallyDelaunay, OneQuestionForBoth}
use Rattle.plane_theorems.specs.Edits.LegalLaws.{PassingIsDropped}
use Rattle.plane_theorems.proofs.Edits.Legalization.Legal.{convex_at_first, convex_at_third}
use Rattle.plane_theorems.proofs.Edits.LocalMesh.Changes.{corner_of_each, face_from}
use Rattle.plane_theorems.proofs.Edits.LocalMesh.Exchange.{side_gone}
use Rattle.plane_theorems.proofs.Edits.LocalMesh.Kept.{flip_kept, same_outer, turning_of}
use Rattle.plane_theorems.proofs.Tiling.Counting.{at, corners_differ, SignMesh}
use Rattle.plane_theorems.proofs.Tiling.Flows.{HasSide, IsTurnOf, turned}
use Rattle.plane_theorems.proofs.Tiling.Tiles.{by_signs, point_at}
use Rattle.plane_theorems.proofs.Tiling.Totals.{Contains-none, total_nonneg}
use Rattle.plane_theorems.proofs.Tiling.Covering as C
use Rattle.plane_theorems.proofs.Tiling.Loops as L

-- ---- the test
-- from both sides of an edge the circle test has one answer
pub one_question : OneQuestionForBoth
one_question i j k l first second = (
  (λ h. (inside_is_incircle j i l k second).1 (subst (λ z. pos 0 <ℤ z) (sym (incircle-exchange
      _ _ _ _)) ((inside_is_incircle i j k l first).0 h))),
  (λ h. (inside_is_incircle i j k l first).1 (subst (λ z. pos 0 <ℤ z) (incircle-exchange _
      _ _ _) ((inside_is_incircle j i l k second).0 h))),
)

-- the question of the diagonal a c, asked of the face a c d
asked : (a b c d : Point)
    → incircle (lift a) (lift c) (lift d) (lift b) ≡ incircle (lift a) (lift b) (lift c) (lift d)
asked a b c d = incircle-exchange _ _ _ _ ∙ sym (incircle-turn _ _ _ _)

-- where b is inside the circle of a c d, the determinant of a b c d is above 0
pub fails : (a b c d : Point) → TurnsLeft (whole a) (whole c) (whole d) → InsideCircle (whole a)
    (whole c) (whole d) (whole b) → pos 0 <ℤ incircle (lift a) (lift b) (lift c) (lift d)
fails a b c d acd h = rw (asked a b c d) at ((inside_is_incircle a c d b acd).0 h)

-- an edge that fails lies across a strictly convex quadrilateral
pub failing_is_convex : FailingIsConvex
failing_is_convex a b c d abc acd h =
    let e = fails a b c d acd h in
    let x = if_left _ _ _ abc in
    let y = if_left _ _ _ acd in (
      left_if _ _ _ (convex_at_first a b c d x y e),
      left_if _ _ _ (convex_at_third a b c d x y e),
    )

-- the new diagonal passes, from either side
negative : (e f : ℤ) → f ≡ neg_ℤ e → pos 0 <ℤ e → pos 0 <ℤ f → ⊥
negative e f h k l = omega (arith, ints)

new_diagonal_passes : (a b c d : Point) → TurnsLeft (whole a) (whole b) (whole d) → TurnsLeft
    (whole b) (whole c) (whole d) → pos 0 <ℤ incircle (lift a) (lift b) (lift c) (lift d) →
    (¬ InsideCircle (whole b) (whole d) (whole a) (whole c)) ×
    (¬ InsideCircle (whole d) (whole b) (whole c) (whole a))
new_diagonal_passes a b c d abd bcd e = (
  (λ h. negative (incircle _ _ _ _) (incircle _ _ _ _) (first ∙ incircle-flipped _ _ _ _) e
      ((inside_is_incircle b d a c (turned_left a b d abd)).0 h)),
  (λ h. negative (incircle _ _ _ _) (incircle _ _ _ _) (second ∙ incircle-flipped _ _ _ _) e
      ((inside_is_incircle d b c a (turned_left c d b (turned_left b c d bcd))).0 h)),
)
  where
    turned_left : (a b c : Point) → TurnsLeft (whole a) (whole b) (whole c)
        → TurnsLeft (whole b) (whole c) (whole a)
    turned_left a b c h = left_if _ _ _ (rw bracket-turn at (if_left _ _ _ h))

    second : incircle (lift d) (lift b) (lift c) (lift a)
        ≡ incircle (lift b) (lift c) (lift d) (lift a)
    second = sym (incircle-turn _ _ _ _)

    first : incircle (lift b) (lift d) (lift a) (lift c)
        ≡ incircle (lift b) (lift c) (lift d) (lift a)
    first = incircle-exchange _ _ _ _ ∙ second

-- ---- the volume
abbrev squaredᵖ : Pointᵖ → Poly
squaredᵖ p = p.x ⊗ p.x ⊕ p.y ⊗ p.y

abbrev areaᵖ : Pointᵖ → Pointᵖ → Pointᵖ → Poly
areaᵖ q u v = (((u.x ⊖ q.x) ⊗ (v.y ⊖ q.y)) ⊖ ((u.y ⊖ q.y) ⊗ (v.x ⊖ q.x)))
    ⊗ (squaredᵖ q ⊕ squaredᵖ u ⊕ squaredᵖ v)

-- the bracket of three points times the sum of their squared lengths
area : Point → Point → Point → ℤ
area q u v = turn_at q u v *ℤ (squared_length q +ℤ squared_length u +ℤ squared_length v)

area-turn : (a b c : Point) → area a b c ≡ area b c a
unfolding area
area-turn a b c = ring_over points_shape [] (a ∷ b ∷ c ∷ []) areaᵖ (λ a b c. areaᵖ b c a) tt

area_falls : (a b c d : Point) → (area a b c +ℤ area a c d) -ℤ (area a b d +ℤ area b c d)
    ≡ incircle (lift a) (lift b) (lift c) (lift d)
unfolding area incircle bracket
area_falls a b c d = ring_over points_shape [] (a ∷ b ∷ c ∷ d ∷ [])
    (λ a b c d. (areaᵖ a b c ⊕ areaᵖ a c d) ⊖ (areaᵖ a b d ⊕ areaᵖ b c d))
    (λ a b c d. incircleᵖ (liftᵖ a) (liftᵖ b) (liftᵖ c) (liftᵖ d)) tt

area_turn_free : (points : List Point) → IsTurnFree (lifted_area points)
unfolding area
area_turn_free points i j k = area-turn (point_at points i) (point_at points j) (point_at points k)

area_nonneg : (a b c : Point) → pos 0 <ℤ bracket (lift a) (lift b) (lift c) → pos 0 ≤ℤ area a b c
unfolding area
area_nonneg a b c h = mul-nonneg_ℤ (rw (bracket-affine a b c) at (weak h))
    (sum_of_three_not_negative _ _ _ (length_nonneg a) (length_nonneg b) (length_nonneg c))
  where
    length_nonneg : (p : Point) → pos 0 ≤ℤ squared_length p
    length_nonneg p = sum_not_negative _ _ (square-nonneg_ℤ p.x) (square-nonneg_ℤ p.y)

falls : (new old abc acd abd bcd e : ℤ) → new +ℤ (abc +ℤ (acd +ℤ pos 0))
    ≡ old +ℤ (abd +ℤ (bcd +ℤ pos 0)) → (abc +ℤ acd) -ℤ (abd +ℤ bcd) ≡ e → pos 0 <ℤ e → new <ℤ old
falls new old abc acd abd bcd e h k l = omega (arith, ints)

-- ---- one flip in a mesh
-- a face is named by a side of it
pub third_unique : (n : ℕ) (p : ℕ → Point) (faces : List Face) (outer : List (ℕ × ℕ))
    → SignMesh n p faces outer → (i j k l : ℕ) → IsTurnOf faces i j k → IsTurnOf faces i j l → k ≡ l
third_unique n p faces outer m i j k l f g =
    let x = C.turn_corners n p _ _ m i j k f in
    let y = C.turn_corners n p _ _ m i j l g in
    let left = C.turn_left_of n p _ _ m i j k f in
    let right = C.turn_left_of n p _ _ m i j l g in
    let z = near n p (moved (pos 1) (at p i) (at p j)) (at p k) (record { lt = tt })
    (record { lt = tt }) in
    let a = L.beside n p _ _ m i j k x.0 x.1 x.2 left _ z.0 left z.1 in
    let b = L.beside n p _ _ m i j l y.0 y.1 y.2 right _ z.0 left z.1 in
    let d = corners_differ p i j k left in
    elim (C.shared_corner n p _ _ m k i j i j l (turned _ j k i (turned _ i j k f))
    g z.0 z.1.weight (record { first = a.third; second = a.first; third = a.second }) b) [
      | inl e ↦ absurd (d.2 e)
      | inr r ↦ elim r [ inl e ↦ absurd (d.1 (sym e)) | inr e ↦ e ]
    ]

-- two names of one unordered pair
one_pair : (i j a c x y : ℕ) → IsSamePair i j a c → IsSamePair i j x y
    → ((a ≡ x) × (c ≡ y)) ⊎ ((a ≡ y) × (c ≡ x))
one_pair i j a c x y (inl e) (inl f) = inl (sym e.0 ∙ f.0, sym e.1 ∙ f.1)
one_pair i j a c x y (inl e) (inr f) = inr (sym e.0 ∙ f.0, sym e.1 ∙ f.1)
one_pair i j a c x y (inr e) (inl f) = inr (sym e.1 ∙ f.1, sym e.0 ∙ f.0)
one_pair i j a c x y (inr e) (inr f) = inl (sym e.1 ∙ f.1, sym e.0 ∙ f.0)

-- joined or not
pub joins_or_not : (pairs : List (ℕ × ℕ)) (i j : ℕ) → Joins pairs i j ⊎ (¬ Joins pairs i j)
joins_or_not pairs i j = go (has_pair_or_not pairs i j) (has_pair_or_not pairs j i)
  where
    go : Contains pairs (i, j) ⊎ (¬ Contains pairs (i, j))
        → Contains pairs (j, i) ⊎ (¬ Contains pairs (j, i)) → Joins pairs i j ⊎ (¬ Joins pairs i j)
    go (inl h) k = inl (inl h)
    go (inr n) (inl h) = inl (inr h)
    go (inr n) (inr m) = inr (λ h. elim h [ inl x ↦ n x | inr x ↦ m x ])

module _ (points : List Point) (faces new : List Face) (outer : List (ℕ × ℕ)) (a b c d : ℕ)
    (m : LocalMesh points faces outer) (first : IsFaceOf faces a b c)
    (second : IsFaceOf faces a c d) (change :
    FacesChange faces new (face a b c ∷ face a c d ∷ []) (face a b d ∷ face b c d ∷ [])) (failing :
    InsideCircle (place points a) (place points c) (place points d) (place points b)) where
  abbrev gone : List Face
  gone = face a b c ∷ face a c d ∷ []

  abbrev made : List Face
  made = face a b d ∷ face b c d ∷ []

  signs : SignMesh (length points) (point_at points) faces outer
  signs = by_signs _ _ _ m

  -- a b c turns left
  abc : TurnsLeft (place points a) (place points b) (place points c)
  abc = turning_of _ _ _ m a b c first

  -- a c d turns left
  acd : TurnsLeft (place points a) (place points c) (place points d)
  acd = turning_of _ _ _ m a c d second

  -- the fourth corner is inside the circle of the other three
  pub excess : pos 0 <ℤ incircle (lift (point_at points a)) (lift (point_at points b))
      (lift (point_at points c)) (lift (point_at points d))
  excess = fails _ _ _ _ acd failing

  convex : TurnsLeft (place points a) (place points b) (place points d)
      × TurnsLeft (place points b) (place points c) (place points d)
  convex = failing_is_convex _ _ _ _ abc acd failing

  -- the mesh after the flip
  pub after_flip : LocalMesh points new outer
  after_flip = flip_kept _ _ new _ _ a b c d m first second convex.0 convex.1
      change (same_outer _ m.once)

  new_signs : SignMesh (length points) (point_at points) new outer
  new_signs = by_signs _ new _ after_flip

  flip_lowered : lifted_volume points new < lifted_volume points faces
  unfolding area
  flip_lowered =
      let P = point_at points in
      lower_magnitude _ (total (lifted_area points) faces)
      (total_nonneg (lifted_area _) new
      (λ f h. area_nonneg _ _ _ (new_signs.turning f h)))
      (falls _ _
      (area (P a) (P b) (P c)) (area (P a) (P c) (P d)) (area (P a) (P b) (P d))
      (area (P b) (P c) (P d)) (incircle _ _ _ _)
      (change.totals (lifted_area _) (area_turn_free _))
      (area_falls _ _ _ _) excess)

  -- ---- the edges
  apart_abc : (a ≢ b) × (b ≢ c) × (c ≢ a)
  apart_abc = corners_differ (point_at points) a b c (C.turn_left_of _ _ _ _ signs a b c first)

  apart_acd : (a ≢ c) × (c ≢ d) × (d ≢ a)
  apart_acd = corners_differ (point_at points) a c d (C.turn_left_of _ _ _ _ signs a c d second)

  abbrev IsMadeSide : ℕ → ℕ → Type 0
  IsMadeSide i j = IsRoundSide a b c d i j ⊎ IsSamePair i j b d

  made_sides : (i j k : ℕ) → IsTurnOf made i j k → IsMadeSide i j
  made_sides = corner_of_each made (λ i j _. IsMadeSide i j) (
    (
      inl (inl (inl (inl (refl, refl)))),
      inr (inl (refl, refl)),
      inl (inr (inr (inl (refl, refl)))),
    ),
    (
      (
        inl (inl (inr (inl (refl, refl)))),
        inl (inr (inl (inl (refl, refl)))),
        inr (inr (refl, refl)),
      ),
      tt,
    ),
  )

  -- the old diagonal is no made side
  not_made : (i j : ℕ) → IsSamePair i j a c → IsMadeSide i j → ⊥
  not_made i j s (inl (inl (inl t))) =
      elim (one_pair i j a c a b s t) [ inl e ↦ apart_abc.1 (sym e.1) | inr e ↦ apart_abc.0 e.0 ]
  not_made i j s (inl (inl (inr t))) =
      elim (one_pair i j a c b c s t) [ inl e ↦ apart_abc.0 e.0 | inr e ↦ apart_abc.2 (sym e.0) ]
  not_made i j s (inl (inr (inl t))) =
      elim (one_pair i j a c c d s t) [ inl e ↦ apart_acd.0 e.0 | inr e ↦ apart_acd.2 (sym e.0) ]
  not_made i j s (inl (inr (inr t))) =
      elim (one_pair i j a c d a s t) [ inl e ↦ apart_acd.2 (sym e.0) | inr e ↦ apart_acd.1 e.1 ]
  not_made i j s (inr t) =
      elim (one_pair i j a c b d s t) [ inl e ↦ apart_abc.0 e.0 | inr e ↦ apart_acd.2 (sym e.0) ]

  old_diagonal_gone : (i j : ℕ) → IsSamePair i j a c → ¬ HasSide new i j
  old_diagonal_gone i j s = side_gone _ _ _ new _ _ _
      signs change i j (there s) (λ h. not_made i j s (made_sides i j h.0 h.1))
    where
      there : IsSamePair i j a c → HasSide gone i j
      there (inl e) = rw (e.0, e.1) (d, inl (1, omega arith, refl))
      there (inr e) = rw (e.0, e.1) (b, inr (inl (0, omega arith, refl)))

  round_back : (i j : ℕ) → IsRoundSide a b c d j i → IsRoundSide a b c d i j
  round_back i j (inl (inl e)) = inl (inl (pair_turned j i a b e))
  round_back i j (inl (inr e)) = inl (inr (pair_turned j i b c e))
  round_back i j (inr (inl e)) = inr (inl (pair_turned j i c d e))
  round_back i j (inr (inr e)) = inr (inr (pair_turned j i d a e))

  beside_first : IsTurnOf new b d a
  beside_first = turned new a b d (change.come a b d (inl (0, omega arith, refl)))

  beside_second : IsTurnOf new d b c
  beside_second = turned new c d b (turned new b c d (change.come b c d
      (inl (1, omega arith, refl))))

  -- the new diagonal passes
  from_first : (i j k l : ℕ) → IsTurnOf new i j k → IsTurnOf new j i l → i ≡ b → j ≡ d
      → Pass points i j k l
  from_first i j k l f g e h =
      let x = third_unique _ _ new _ new_signs b d k a (rw (e, h) at f) beside_first in
      let y = third_unique _ _ new _ new_signs d b l c (rw (e, h) at g) beside_second in
      rw (e, h, x, y) (new_diagonal_passes _ _ _ _ convex.0 convex.1 excess)

  diagonal_passes : (i j k l : ℕ) → IsTurnOf new i j k → IsTurnOf new j i l → IsSamePair i j b d
      → Pass points i j k l
  diagonal_passes i j k l f g (inl e) = from_first i j k l f g e.0 e.1
  diagonal_passes i j k l f g (inr e) = let x = from_first j i l k g f e.1 e.0 in (x.1, x.0)

  module _ (constraints before after : List (ℕ × ℕ)) (passing : AllPassBut points faces constraints
      before) (left : (i j : ℕ) → Joins before i j → IsSamePair i j a c ⊎ Joins after i j)
      (round : (i j : ℕ) → IsRoundSide a b c d i j → Joins constraints i j ⊎ Joins after i j) where
    still_passing : AllPassBut points new constraints after
    still_passing i j k l f g free untested = go (face_from _ new _ _ change i j k f)
        (face_from _ new _ _ change j i l g)
      where
        of_made : IsMadeSide i j → Pass points i j k l
        of_made (inl r) =
            elim (round i j r) [ inl x ↦ absurd (free x) | inr x ↦ absurd (untested x) ]
        of_made (inr s) = diagonal_passes i j k l f g s

        go : IsTurnOf faces i j k ⊎ IsTurnOf made i j k → IsTurnOf faces j i l ⊎ IsTurnOf made j i l
            → Pass points i j k l
        go (inr x) y = of_made (made_sides i j k x)
        go (inl x) (inr y) = of_made (elim (made_sides j i l y)
            [ inl r ↦ inl (round_back i j r) | inr s ↦ inr (pair_turned j i b d s) ])
        go (inl x) (inl y) = passing i j k l x y free
            (λ h. elim (left i j h) [ inl s ↦ old_diagonal_gone i j s (k, f) | inr z ↦ untested z ])

-- the flip of an edge that fails lowers the lifted volume
pub flip_lowers : FlipLowers
flip_lowers points faces new outer a b c d m first second change failing =
    flip_lowered _ _ new _ a b c d m first second change failing

-- the flip of an edge that fails leaves the four sides of the quadrilateral to test
pub flip_leaves_sides : FlipLeavesSides
flip_leaves_sides points faces new outer constraints before after a b c d m first second change
    failing passing left round = still_passing _ _ new _ a b c d m first second change
    failing _ _ _ passing left round

-- an edge that is a constraint, passes or has the outer face beside it is left to test no longer
pub passing_is_dropped : PassingIsDropped
passing_is_dropped points faces constraints before after u v passing left own i j k l f g free
    untested = go (joins_or_not _ i j)
  where
    of_own : IsSamePair i j u v → Pass points i j k l
    of_own (inl e) = rw (e.0, e.1)
        (own k l (rw (e.0, e.1) at f) (rw (e.0, e.1) at g) (λ h. free (rw (e.0, e.1) h)))
    of_own (inr e) = let x = own l k (rw (e.0, e.1) at g) (rw (e.0, e.1) at f)
        (λ h. free (turned_join constraints j i (rw (e.0, e.1) h))) in rw (e.0, e.1) (x.1, x.0)

    go : Joins before i j ⊎ (¬ Joins before i j) → Pass points i j k l
    go (inl h) = elim (left i j h) [ inl s ↦ of_own s | inr z ↦ absurd (untested z) ]
    go (inr n) = passing i j k l f g free n

-- a change of faces leaves the sides of the faces that were made to test
pub change_leaves_sides : ChangeLeavesSides
change_leaves_sides points faces new gone made constraints before after change passing left sides i
    j k l f g free untested =
    go (face_from _ new _ _ change i j k f) (face_from _ new _ _ change j i l g)
  where
    tested : IsSideOfOne made i j → Pass points i j k l
    tested s = elim (sides i j s) [ inl x ↦ absurd (free x) | inr x ↦ absurd (untested x) ]

    go : IsTurnOf faces i j k ⊎ IsTurnOf made i j k → IsTurnOf faces j i l ⊎ IsTurnOf made j i l
        → Pass points i j k l
    go (inr x) y = tested (k, inl x)
    go (inl x) (inr y) = tested (l, inr y)
    go (inl x) (inl y) = passing i j k l x y free (λ h. untested (left i j h))

-- where no edge is left to test, each edge that is no constraint passes
pub none_left : NoneLeftIsLocallyDelaunay
none_left points faces edges constraints passing i j k l f g free = passing i j k l f g free
    (λ h. elim h [ inl x ↦ Contains-none (i, j) x | inr x ↦ Contains-none (j, i) x ])
