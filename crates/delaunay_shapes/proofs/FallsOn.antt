-- What the code asks of the fall of a centre on an edge, as it is asked.
-- Lemmas: falls_told.
use Rattle.std.proofs.Common.{◌≡◌, sym, subst, w64, to_z, of_z}
use mathlib.Core.Logic.{◌↔◌}
use mathlib.Core.Bool.{Bool, true}
use Rattle.std.specs.Prelude.{ℤ, pos, ◌*ℤ◌, ◌≤ℤ◌, IsTrue}
use Rattle.plane.specs.{gap, InRange, Point, whole}
use Rattle.{delaunay_core.specs.along, delaunay_shapes.specs.Tests.FallsOn}
use Rattle.delaunay_core.proofs.Projections.{along_bound, gap_passes, stays}
use Rattle.{delaunay_shapes.proofs.Decided.and_also, delaunay_shapes.specs.circle_distance}

-- a projection that is on the edge, and a product that is compared with a square
pub falls_told : (c : Point) (r : ℤ) (p q : Point) (on near : Bool) (d l f : ℤ) {m n : ℤ}
    → InRange c → InRange p → InRange q → to_z w64 (of_z w64 d) ≡ circle_distance c r p
    → l ≡ gap (whole p) (whole q) → f ≡ along p q c → on ≡ true → m ≡ along p q c
    → n ≡ gap (whole p) (whole q) → (IsTrue on ↔ ((pos 0 ≤ℤ m) × (m ≤ℤ n)))
    → (IsTrue near ↔ ((to_z w64 (of_z w64 d) *ℤ to_z w64 (of_z w64 l))
    ≤ℤ (to_z w64 (of_z w64 f) *ℤ to_z w64 (of_z w64 f)))) → IsTrue near ↔ FallsOn c r p q
falls_told c r p q on near d l f {m} {n} in_c in_p in_q is_d is_l is_f t is_m is_n
    told_on told_near =
    let length : to_z w64 (of_z w64 l) ≡ gap (whole p) (whole q) =
    gap_passes l p q in_p in_q is_l in
    let factor : to_z w64 (of_z w64 f) ≡ along p q c = subst (λ z. to_z w64 (of_z w64 z)
    ≡ along p q c) (sym is_f) (stays (along p q c) (along_bound p q c in_p in_q in_c)) in
    and_also on near t
    (subst (λ z. IsTrue on ↔ ((pos 0 ≤ℤ z) × (z ≤ℤ gap (whole p) (whole q)))) is_m
    (subst (λ z. IsTrue on ↔ ((pos 0 ≤ℤ m) × (m ≤ℤ z))) is_n told_on))
    (subst (λ z. IsTrue near
    ↔ ((circle_distance c r p *ℤ gap (whole p) (whole q)) ≤ℤ (z *ℤ z))) factor
    (subst (λ z. IsTrue near
    ↔ ((circle_distance c r p *ℤ z) ≤ℤ (to_z w64 (of_z w64 f) *ℤ to_z w64 (of_z w64 f)))) length
    (subst (λ z. IsTrue near ↔ ((z *ℤ to_z w64 (of_z w64 l))
    ≤ℤ (to_z w64 (of_z w64 f) *ℤ to_z w64 (of_z w64 f)))) is_d told_near)))
