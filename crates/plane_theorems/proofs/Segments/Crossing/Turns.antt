-- The sides of three points of the code, by the turn that they make.
-- Notions: turnᵖ; left_turn, right_turn, no_turn, turn_left, turn-swapped, turn-same,
-- turns-differ, mirrored, turn-mirrored, way-mirrored.
use Rattle.std.proofs.Common.{◌≡◌, [], ◌∷◌, sym, ◌∙◌, subst}
use Rattle.std.specs.Prelude.{pos, ◌-ℤ◌, ◌<ℤ◌, neg_ℤ}
use Rattle.plane.specs.{on, Point, right, side, squared_vector, turn_at, TurnsLeft, whole}
use Rattle.plane.proofs.{◌⊕◌, ◌⊖◌, ◌⊗◌, bracket-affine, if_left, if_on, if_right, left_if, num}
use Rattle.plane.proofs.{points as points_shape, Pointᵖ, Poly, ring_over, ⊝}

-- twice the signed area of the ways from q to u and from q to v, as a polynomial
abbrev pub turnᵖ : Pointᵖ → Pointᵖ → Pointᵖ → Poly
turnᵖ q u v = (u.x ⊖ q.x) ⊗ (v.y ⊖ q.y) ⊖ (u.y ⊖ q.y) ⊗ (v.x ⊖ q.x)

-- where the third point is on the left, twice the area is above 0
pub left_turn : (a b c : Point) → TurnsLeft (whole a) (whole b) (whole c) → pos 0 <ℤ turn_at a b c
left_turn a b c h =
    subst (λ z. pos 0 <ℤ z) (bracket-affine a b c) (if_left (whole a) (whole b) (whole c) h)

-- where the third point is on the right, twice the area is below 0
pub right_turn : (a b c : Point) → side (whole a) (whole b) (whole c) ≡ right
    → turn_at a b c <ℤ pos 0
right_turn a b c h =
    subst (λ z. z <ℤ pos 0) (bracket-affine a b c) (if_right (whole a) (whole b) (whole c) h)

-- where the third point is on the line, twice the area is 0
pub no_turn : (a b c : Point) → side (whole a) (whole b) (whole c) ≡ on → turn_at a b c ≡ pos 0
no_turn a b c h = sym (bracket-affine a b c) ∙ if_on (whole a) (whole b) (whole c) h

-- where twice the area is above 0, the third point is on the left
pub turn_left : (a b c : Point) → pos 0 <ℤ turn_at a b c → TurnsLeft (whole a) (whole b) (whole c)
turn_left a b c h =
    left_if (whole a) (whole b) (whole c) (subst (λ z. pos 0 <ℤ z) (sym (bracket-affine a b c)) h)

-- the turn the other way
pub turn-swapped : (q u v : Point) → turn_at q v u ≡ neg_ℤ (turn_at q u v)
turn-swapped q u v =
    ring_over points_shape [] (q ∷ u ∷ v ∷ []) (λ q u v. turnᵖ q v u) (λ q u v. ⊝ (turnᵖ q u v)) tt

-- twice the area is 0 where the last two points are one
pub turn-same : (q u : Point) → turn_at q u u ≡ pos 0
turn-same q u = ring_over points_shape [] (q ∷ u ∷ []) (λ q u. turnᵖ q u u) (λ q u. num 0) tt

-- the ends of two ways, seen each from the other
pub turns-differ : (i j v y : Point)
    → turn_at v y i -ℤ turn_at v y j ≡ turn_at i j y -ℤ turn_at i j v
turns-differ i j v y = ring_over points_shape [] (i ∷ j ∷ v ∷ y ∷ [])
    (λ i j v y. turnᵖ v y i ⊖ turnᵖ v y j) (λ i j v y. turnᵖ i j y ⊖ turnᵖ i j v) tt

-- ---- the plane turned over
-- the point turned over at the axis of x
pub mirrored : Point → Point
mirrored p = record { x = p.x; y = neg_ℤ p.y }

abbrev mirroredᵖ : Pointᵖ → Pointᵖ
mirroredᵖ p = record { x = p.x; y = ⊝ p.y }

-- in the mirrored plane, twice the area has the other sign
pub turn-mirrored : (q u v : Point)
    → turn_at (mirrored q) (mirrored u) (mirrored v) ≡ neg_ℤ (turn_at q u v)
unfolding mirrored
turn-mirrored q u v = ring_over points_shape [] (q ∷ u ∷ v ∷ [])
    (λ q u v. turnᵖ (mirroredᵖ q) (mirroredᵖ u) (mirroredᵖ v)) (λ q u v. ⊝ (turnᵖ q u v)) tt

-- in the mirrored plane, squared lengths are the same
pub way-mirrored : (q u : Point) → squared_vector (mirrored q) (mirrored u) ≡ squared_vector q u
unfolding mirrored
way-mirrored q u = ring_over points_shape [] (q ∷ u ∷ [])
    (λ q u. (u.x ⊖ q.x) ⊗ (u.x ⊖ q.x) ⊕ ((⊝ u.y) ⊖ (⊝ q.y)) ⊗ ((⊝ u.y) ⊖ (⊝ q.y)))
    (λ q u. (u.x ⊖ q.x) ⊗ (u.x ⊖ q.x) ⊕ (u.y ⊖ q.y) ⊗ (u.y ⊖ q.y)) tt
