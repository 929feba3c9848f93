-- The inside of a circle as the code tests it: a positive lifted determinant.
-- Lemmas: inside_if_positive, determinant_by_angles.
use Rattle.std.proofs.Common.{◌≡◌, [], ◌∷◌, subst, sym, arith}
use Rattle.std.specs.Prelude.{ℤ, pos, ◌-ℤ◌, ◌*ℤ◌, ◌<ℤ◌, ◌↔◌, int_lt, IsTrue}
use Rattle.std.proofs.lemmas.Int.{ints}
use Rattle.plane.specs.{InsideCircle, lifted_determinant, Point, turn_at, TurnsLeft, whole}
use Rattle.plane.proofs.{◌⊕◌, ◌⊖◌, ◌⊗◌, inside_is_determinant, ring_in}
use Rattle.exact_predicates.specs.Angles.{dot_at}

below_if_true : (a b : ℤ) → IsTrue (int_lt a b) → a <ℤ b
below_if_true a b h = grind (arith, ints)

true_if_below : (a b : ℤ) → a <ℤ b → IsTrue (int_lt a b)
true_if_below a b h = grind (arith, ints)

-- a number that is the determinant is tested against 0
pub inside_if_positive : (u v p q : Point) (d : ℤ) → TurnsLeft (whole u) (whole v) (whole p) →
    d ≡ lifted_determinant u v p q
    → IsTrue (int_lt (pos 0) d) ↔ InsideCircle (whole u) (whole v) (whole p) (whole q)
inside_if_positive u v p q d turns e = let inside = inside_is_determinant u v p q turns in (
  (λ h. inside.1 (subst (λ z. pos 0 <ℤ z) e (below_if_true (pos 0) d h))),
  (λ h. true_if_below (pos 0) d (subst (λ z. pos 0 <ℤ z) (sym e) (inside.0 h))),
)

-- the determinant of four points, by the angles at p and at q between the ways to u and v
pub determinant_by_angles : (u v p q : Point) →
    dot_at p u v *ℤ turn_at q u v -ℤ dot_at q u v *ℤ turn_at p u v ≡ lifted_determinant u v p q
determinant_by_angles u v p q = ring_in (u.x ∷ u.y ∷ v.x ∷ v.y ∷ p.x ∷ p.y ∷ q.x ∷ q.y ∷ [])
    (λ a b c d e f g h.
    ((a ⊖ e) ⊗ (c ⊖ e) ⊕ (b ⊖ f) ⊗ (d ⊖ f)) ⊗ ((a ⊖ g) ⊗ (d ⊖ h) ⊖ (b ⊖ h) ⊗ (c ⊖ g))
    ⊖ ((a ⊖ g) ⊗ (c ⊖ g) ⊕ (b ⊖ h) ⊗ (d ⊖ h)) ⊗ ((a ⊖ e) ⊗ (d ⊖ f) ⊖ (b ⊖ f) ⊗ (c ⊖ e)))
    (λ a b c d e f g h.
    ((a ⊖ g) ⊗ (a ⊖ g) ⊕ (b ⊖ h) ⊗ (b ⊖ h)) ⊗ ((c ⊖ g) ⊗ (f ⊖ h) ⊖ (d ⊖ h) ⊗ (e ⊖ g))
    ⊕ ((c ⊖ g) ⊗ (c ⊖ g) ⊕ (d ⊖ h) ⊗ (d ⊖ h)) ⊗ ((e ⊖ g) ⊗ (b ⊖ h) ⊖ (f ⊖ h) ⊗ (a ⊖ g))
    ⊕ ((e ⊖ g) ⊗ (e ⊖ g) ⊕ (f ⊖ h) ⊗ (f ⊖ h)) ⊗ ((a ⊖ g) ⊗ (d ⊖ h) ⊖ (b ⊖ h) ⊗ (c ⊖ g)))
    tt
