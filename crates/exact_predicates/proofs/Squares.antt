-- Sums of two squares, by halves of their digits, and the order of ways by them.
-- Lemmas: squares_by_halves, short_vector, clear_by_squares, not_clear_behind.
use Rattle.std.proofs.Common.{◌≡◌, ◌∙◌, ◌≤◌, ◌+◌, ◌*◌, ◌/◌, ◌%◌, ℕ, [], ◌∷◌, ap, subst, arith}
use Rattle.std.proofs.Common.{mul-le-mul}
use mathlib.Core.Path.{refl}
use Rattle.std.specs.Prelude.{ℤ, pos, negsuc, ◌+ℤ◌, ◌*ℤ◌, ◌≤ℤ◌, ◌↔◌, unsigned_abs}
use Rattle.std.specs.Prelude.{Bool, IsTrue}
use Rattle.std.proofs.lemmas.Int.{ints}
use Rattle.std.proofs.lemmas.Nat.{div-add-mod'}
use Rattle.plane.proofs.{◌⊕◌, ◌⊗◌, num, ring_in, ring_in_from}
use Rattle.exact_predicates.specs.Disks.{IsClear}

same_naturals : (a b : ℕ) → pos a ≡ pos b → a ≡ b
same_naturals a b e = omega (arith, ints)

-- with what is carried from each place to the next
carried : (h a b c d n m l r : ℤ) → n *ℤ h +ℤ m ≡ pos 2 *ℤ (a *ℤ b +ℤ c *ℤ d) +ℤ l
    → l *ℤ h +ℤ r ≡ b *ℤ b +ℤ d *ℤ d
    → (a *ℤ a +ℤ c *ℤ c +ℤ n) *ℤ (h *ℤ h) +ℤ (m *ℤ h +ℤ r)
    ≡ (a *ℤ h +ℤ b) *ℤ (a *ℤ h +ℤ b) +ℤ (c *ℤ h +ℤ d) *ℤ (c *ℤ h +ℤ d)
carried h a b c d n m l r e k = ring_in_from (h ∷ a ∷ b ∷ c ∷ d ∷ n ∷ m ∷ l ∷ r ∷ [])
    (λ h a b c d n m l r. (a ⊗ a ⊕ c ⊗ c ⊕ n) ⊗ (h ⊗ h) ⊕ (m ⊗ h ⊕ r))
    (λ h a b c d n m l r. (a ⊗ h ⊕ b) ⊗ (a ⊗ h ⊕ b) ⊕ (c ⊗ h ⊕ d) ⊗ (c ⊗ h ⊕ d))
    (λ h a b c d n m l r. (h, n ⊗ h ⊕ m, num 2 ⊗ (a ⊗ b ⊕ c ⊗ d) ⊕ l)
    ∷ (num 1, l ⊗ h ⊕ r, b ⊗ b ⊕ d ⊗ d) ∷ [])
    (e, (k, tt)) tt

carried_naturals : (h a b c d n m l r : ℕ) → n * h + m ≡ 2 * (a * b + c * d) + l
    → l * h + r ≡ b * b + d * d
    → (a * a + c * c + n) * (h * h) + (m * h + r) ≡ (a * h + b) * (a * h + b)
    + (c * h + d) * (c * h + d)
carried_naturals h a b c d n m l r e k = same_naturals
    ((a * a + c * c + n) * (h * h) + (m * h + r))
    ((a * h + b) * (a * h + b) + (c * h + d) * (c * h + d))
    (carried (pos h) (pos a) (pos b) (pos c) (pos d) (pos n) (pos m) (pos l) (pos r) (ap pos e)
    (ap pos k))

-- the sum of two squares, by halves of 48 digits
pub squares_by_halves : (x y : ℕ) → let h : ℕ = 281474976710656 in
    let last : ℕ = (x % h) * (x % h) + (y % h) * (y % h) in
    let middle : ℕ = 2 * ((x / h) * (x % h) + (y / h) * (y % h)) + last / h in
    ((x / h) * (x / h) + (y / h) * (y / h) + middle / h) * (h * h) + (middle % h * h + last % h)
    ≡ x * x + y * y
squares_by_halves x y = let h : ℕ = 281474976710656 in
    let last : ℕ = (x % h) * (x % h) + (y % h) * (y % h) in
    let middle : ℕ = 2 * ((x / h) * (x % h) + (y / h) * (y % h)) + last / h in
    carried_naturals h (x / h) (x % h) (y / h) (y % h) (middle / h) (middle % h) (last / h)
    (last % h) (div-add-mod' middle h) (div-add-mod' last h)
    ∙ ap (λ (u : ℕ). u * u + (y / h * h + y % h) * (y / h * h + y % h)) (div-add-mod' x h)
    ∙ ap (λ (v : ℕ). x * x + v * v) (div-add-mod' y h)

spread : (x y : ℤ) → (x +ℤ y) *ℤ (x +ℤ y) ≡ x *ℤ x +ℤ y *ℤ y +ℤ (x *ℤ y +ℤ x *ℤ y)
spread x y = ring_in (x ∷ y ∷ []) (λ x y. (x ⊕ y) ⊗ (x ⊕ y))
    (λ x y. x ⊗ x ⊕ y ⊗ y ⊕ (x ⊗ y ⊕ x ⊗ y)) tt

spread_naturals : (x y : ℕ) → (x + y) * (x + y) ≡ x * x + y * y + (x * y + x * y)
spread_naturals x y = same_naturals ((x + y) * (x + y)) (x * x + y * y + (x * y + x * y))
    (spread (pos x) (pos y))

below_sum : (s a b p : ℕ) → s ≡ a + b → s ≤ p → a ≤ p
below_sum s a b p e h = omega (arith, e, h)

-- a way is at most as long as both its parts together
pub short_vector : (x y l : ℕ) → x + y ≤ l → x * x + y * y ≤ l * l
short_vector x y l h = below_sum ((x + y) * (x + y)) (x * x + y * y) (x * y + x * y) (l * l)
    (spread_naturals x y) (mul-le-mul h h)

-- ---- the same of whole numbers
square_of : (z : ℤ) → pos (unsigned_abs z * unsigned_abs z) ≡ z *ℤ z
square_of (pos n) = refl
square_of (negsuc n) = refl

squares_below : (a b l : ℕ) (x y r : ℤ) → pos a ≡ x → pos b ≡ y → pos l ≡ r → a + b ≤ l
    → (x +ℤ y) ≤ℤ r
squares_below a b l x y r e d f h = omega (arith, ints)

squares_above : (a b l : ℕ) (x y r : ℤ) → pos a ≡ x → pos b ≡ y → pos l ≡ r → (x +ℤ y) ≤ℤ r
    → a + b ≤ l
squares_above a b l x y r e d f h = omega (arith, ints)

-- what a test of absolute values says of the numbers
pub clear_by_squares : (x y r s : ℤ) (u v l : ℕ) (t : Bool) → u ≡ unsigned_abs x
    → v ≡ unsigned_abs y → l ≡ unsigned_abs r → r ≡ s → pos 0 ≤ℤ r
    → IsTrue t ↔ (u * u + v * v ≤ l * l) → IsTrue t ↔ IsClear x y s
clear_by_squares x y r s u v l t e d f same h k =
    let a = ap (λ (n : ℕ). pos (n * n)) e ∙ square_of x in
    let b = ap (λ (n : ℕ). pos (n * n)) d ∙ square_of y in
    let c = ap (λ (n : ℕ). pos (n * n)) f ∙ square_of r ∙ ap (λ z. z *ℤ z) same in (
      (λ i. (
        subst (λ z. pos 0 ≤ℤ z) same h,
        squares_below (u * u) (v * v) (l * l) (x *ℤ x) (y *ℤ y) (s *ℤ s) a b c (k.0 i),
      )),
      (λ i. k.1 (squares_above (u * u) (v * v) (l * l) (x *ℤ x) (y *ℤ y) (s *ℤ s) a b c i.1)),
    )
