-- Members of lists by recursion, and sums over lists.
-- Notions: Member; member, contained, member-le-sum_by, sum_by-lt.
use Rattle.std.proofs.Common.{◌≡◌, ℕ, zero, suc, ◌<◌, ◌≤◌, List, [], ◌∷◌, arith, ap}
use mathlib.Core.Logic.{◌⊎◌, inl, inr}
use Rattle.std.specs.Prelude.{Contains, sum_by}
use Rattle.std.proofs.lemmas.List.Sums.{sum_by-cons, sum_by-le-sum_by}

-- x is an entry of the list: the first one, or one of the rest
abbrev pub Member : {A : Type 0} → A → List A → Type 0
Member x [] = ⊥
Member x (y ∷ ys) = (y ≡ x) ⊎ Member x ys

-- what the list contains, at some index, is an entry by recursion
pub member : {A : Type 0} (x : A) (xs : List A) → Contains xs x → Member x xs
member x [] h = absurd (omega (arith, h.1))
member x (y ∷ ys) (zero, h, e) = inl e
member x (y ∷ ys) (suc k, h, e) = inr (member x ys (k, omega arith, e))

-- an entry by recursion is at some index of the list
pub contained : {A : Type 0} (x : A) (xs : List A) → Member x xs → Contains xs x
contained x [] m = absurd m
contained x (y ∷ ys) (inl e) = (0, omega arith, e)
contained x (y ∷ ys) (inr m) = let c = contained x ys m in (suc c.0, omega (arith, c.1), c.2)

-- the sum of f over a list is at least what f is of each entry
pub member-le-sum_by : {A : Type 0} (f : A → ℕ) (x : A) (xs : List A) → Member x xs
    → f x ≤ sum_by f xs
member-le-sum_by f x [] m = absurd m
member-le-sum_by f x (y ∷ ys) (inl e) = omega (arith, sum_by-cons f y ys, ap f e)
member-le-sum_by f x (y ∷ ys) (inr m) = omega (arith, sum_by-cons f y ys, member-le-sum_by f x ys m)

-- nowhere more, and once less: less altogether
pub sum_by-lt : {A : Type 0} (f g : A → ℕ) (x : A) (xs : List A) → ((y : A) → f y ≤ g y)
    → Member x xs → f x < g x → sum_by f xs < sum_by g xs
sum_by-lt f g x [] h m l = absurd m
sum_by-lt f g x (y ∷ ys) h (inl e) l = omega
    (arith, ap f e, ap g e, sum_by-cons f y ys, sum_by-cons g y ys, sum_by-le-sum_by f g ys h, l)
sum_by-lt f g x (y ∷ ys) h (inr m) l =
    omega (arith, h y, sum_by-cons f y ys, sum_by-cons g y ys, sum_by-lt f g x ys h m l)
