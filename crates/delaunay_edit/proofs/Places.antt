-- What answers to a few tests say of points.
-- Lemmas: gap_is_way_back, after_by, no_same_place.
use Rattle.std.proofs.Common.{◌≡◌, ◌≢◌, ◌↔◌, ℕ, ◌<◌, List, [], ◌∷◌, length, ap, ◌∙◌, subst, arith}
use Rattle.std.proofs.Common.{sym, inl, inr}
use Rattle.std.specs.Prelude.{ℤ, pos, ◌+ℤ◌, ◌-ℤ◌, ◌*ℤ◌, ◌<ℤ◌}
use Rattle.std.proofs.lemmas.Int.{ints}
use Rattle.plane.specs.{gap, IsSame, on, place, Point, right, side, squared_vector, whole}
use Rattle.plane.proofs.{◌⊖◌, ◌⊗◌, ring_in}
use Rattle.plane_theorems.specs.{ArePlacedApart, ComesAfterOnRight}
use Rattle.{delaunay_legalization.specs.point_at, plane_theorems.proofs.one_point}

-- the squared distance of two points
gap_is_way : (p q : Point) → gap (whole p) (whole q) ≡ squared_vector p q
gap_is_way p q = λ i. one p.x q.x i *ℤ one p.x q.x i +ℤ one p.y q.y i *ℤ one p.y q.y i
  where
    one : (a b : ℤ) → b *ℤ pos 1 -ℤ a *ℤ pos 1 ≡ b -ℤ a
    one a b = omega (arith, ints)

-- the same, with the points in the other order
pub gap_is_way_back : (p q : Point) → gap (whole p) (whole q) ≡ squared_vector q p
gap_is_way_back p q = gap_is_way p q ∙ (λ i. turned_square p.x q.x i +ℤ turned_square p.y q.y i)
  where
    turned_square : (a b : ℤ) → (b -ℤ a) *ℤ (b -ℤ a) ≡ (a -ℤ b) *ℤ (a -ℤ b)
    turned_square a b =
        ring_in (a ∷ b ∷ []) (λ a b. (b ⊖ a) ⊗ (b ⊖ a)) (λ a b. (a ⊖ b) ⊗ (a ⊖ b)) tt

-- what tells that q is nearer to p than r is tells it by squared distances in either form
nearer_by : (p q r : Point) (T : Type 0) → T
    ↔ (gap (whole p) (whole q) <ℤ gap (whole p) (whole r)) → T
    ↔ (squared_vector p q <ℤ squared_vector p r)
nearer_by p q r T w =
    subst (λ (x : ℤ × ℤ). T ↔ (x.0 <ℤ x.1)) (λ i. (gap_is_way p q i, gap_is_way p r i)) w

-- and where r is on the way from p to q, it tells whether r comes after q
pub after_by : (p q r : Point) (T : Type 0) → side (whole p) (whole q) (whole r) ≡ on
    → T ↔ (gap (whole p) (whole q) <ℤ gap (whole p) (whole r)) → T ↔ ComesAfterOnRight p q r
after_by p q r T level told = (
  (λ t. inr (level, (nearer_by p q r T told).0 t)),
  (λ after. elim after [
    | inl right_of ↦ absurd (not_on_right (sym level ∙ right_of))
    | inr farther ↦ (nearer_by p q r T told).1 farther.1
  ]),
)
  where
    not_on_right : ¬ (on ≡ right)
    not_on_right e = cc

-- different vertices are at different places
pub no_same_place : (points : List Point) → ArePlacedApart points → (a b : ℕ) → a < length points
    → b < length points → a ≢ b → ¬ IsSame (place points a) (place points b)
no_same_place points distinct a b ha hb n e =
    distinct a b ha hb n (ap whole (one_point (point_at points a) (point_at points b) e))
