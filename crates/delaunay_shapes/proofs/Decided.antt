-- What tests on whole numbers decide, and tests made of them.
-- Lemmas: decides_le, decides_lt, decides_not, decides_or, decides_and, decides_and_4, and_also.
use Rattle.std.proofs.Common.{◌≡◌, refl, rules}
use mathlib.Core.Logic.{◌⊎◌, ◌↔◌, inl, inr}
use mathlib.Core.Bool.{Bool, true, false, not, ◌&&◌, ◌||◌}
use Rattle.std.specs.Prelude.{ℤ, ◌<ℤ◌, ◌≤ℤ◌, int_lt, int_le, IsTrue}

-- the test whether a is at most b is true if and only if it is
pub decides_le : (a b : ℤ) → IsTrue (int_le a b) ↔ (a ≤ℤ b)
decides_le a b = search rules

-- the test whether a is less than b is true if and only if it is
pub decides_lt : (a b : ℤ) → IsTrue (int_lt a b) ↔ (a <ℤ b)
decides_lt a b = search rules

-- the opposite of a test that decides a statement decides its opposite
pub decides_not : {A : Type 0} (a : Bool) → (IsTrue a ↔ A) → IsTrue (not a) ↔ (¬ A)
decides_not true h = ((λ e. absurd (cc)), (λ n. absurd (n (h.0 refl))))
decides_not false h = ((λ e x. absurd (cc (h.1 x))), (λ n. refl))

-- two tests joined by `or` decide whether one of two statements holds
pub decides_or : {A B : Type 0} (a b : Bool) → (IsTrue a ↔ A) → (IsTrue b ↔ B)
    → IsTrue (a || b) ↔ (A ⊎ B)
decides_or true b h i = ((λ e. inl (h.0 refl)), (λ x. refl))
decides_or false b h i = ((λ e. inr (i.0 e)), elim [ inl x ↦ absurd (cc (h.1 x)) | inr y ↦ i.1 y ])

-- two tests joined by `and` decide whether both statements hold
pub decides_and : {A B : Type 0} (a b : Bool) → (IsTrue a ↔ A) → (IsTrue b ↔ B)
    → IsTrue (a && b) ↔ (A × B)
decides_and true b h i = ((λ e. (h.0 refl, i.0 e)), (λ p. i.1 p.1))
decides_and false b h i = ((λ e. absurd (cc)), (λ p. h.1 p.0))

-- four at once
pub decides_and_4 : {A B C D : Type 0} (a b c d : Bool) → (IsTrue a ↔ A) → (IsTrue b ↔ B)
    → (IsTrue c ↔ C) → (IsTrue d ↔ D) → IsTrue (a && (b && (c && d))) ↔ (A × B × C × D)
decides_and_4 a b c d h i j k =
    let all = decides_and a (b && (c && d)) h (decides_and b (c && d) i (decides_and c d j k)) in (
      (λ e. let p = all.0 e in (p.0, p.1.0, p.1.1.0, p.1.1.1)),
      (λ p. all.1 (p.0, (p.1, (p.2, p.3)))),
    )

-- a test passed, and another
pub and_also : {A B : Type 0} (a b : Bool) → a ≡ true → (IsTrue a ↔ A) → (IsTrue b ↔ B)
    → IsTrue b ↔ (A × B)
and_also a b t h i = ((λ e. (h.0 t, i.0 e)), (λ p. i.1 p.1))
