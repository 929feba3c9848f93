-- Facts about the numbers of a few named things, and about all other numbers.
--   Each, OneOf, NoneOf, Off: of each; one of them; none of them; the last asked one by one
--   at_places, elsewhere: by cases; a fact about none of them used
-- Notions: Each, OneOf, NoneOf, Off, itself, ◌and◌; each_at, one_or_none, at_places, elsewhere,
-- each_map.
use Rattle.std.proofs.Common.{◌≡◌, ◌≢◌, ◌⊎◌, [], ◌∷◌, ℕ, List, inl, inr}
use Rattle.std.proofs.lemmas.Bool.{cases_eq}

-- each thing of a list has a property
abbrev pub Each : {X : Type 0} → (X → Type 0) → List X → Type 0
Each P [] = Unit {0}
Each P (x ∷ rest) = P x × Each P rest

-- h is the number of one of these things
abbrev pub OneOf : {X : Type 0} → (X → ℕ) → List X → ℕ → Type 0
OneOf f [] h = ⊥
OneOf f (x ∷ rest) h = (h ≡ f x) ⊎ OneOf f rest h

-- h is the number of none of these things
abbrev pub NoneOf : {X : Type 0} → (X → ℕ) → List X → ℕ → Type 0
NoneOf f xs h = Each (λ x. h ≢ f x) xs

-- P holds where h is the number of none of these things, asked one by one
abbrev pub Off : {X : Type 0} → (X → ℕ) → List X → ℕ → Type 0 → Type 0
Off f [] h P = P
Off f (x ∷ rest) h P = h ≢ f x → Off f rest h P

-- a number as the number of itself
abbrev pub itself : ℕ → ℕ
itself h = h

infixr 2 ◌and◌
-- two facts as one
abbrev pub ◌and◌ : {A B : Type 0} → A → B → A × B
a and b = (a, b)

-- what holds of the number of each thing holds of one of these numbers
pub each_at : {X : Type 0} (P : ℕ → Type 0) (f : X → ℕ) (xs : List X) (h : ℕ) → OneOf f xs h
    → Each (λ x. P (f x)) xs → P h
each_at P f [] h one each = absurd one
each_at P f (x ∷ rest) h one each = elim one
    [ inl is ↦ rw is each.0 | inr other ↦ each_at P f rest h other each.1 ]

-- a number is that of one of these things, or of none
pub one_or_none : {X : Type 0} (f : X → ℕ) (xs : List X) (h : ℕ) → OneOf f xs h ⊎ NoneOf f xs h
one_or_none f [] h = inr tt
one_or_none f (x ∷ rest) h =
    elim (cases_eq h (f x)) [
      | inl is ↦ inl (inl is)
      | inr off ↦ elim (one_or_none f rest h)
          [ inl one ↦ inl (inr one) | inr none ↦ inr (off, none) ]
    ]

-- what holds of the number of each thing, and of a number of none, holds
pub at_places : {X : Type 0} (P : ℕ → Type 0) (f : X → ℕ) (xs : List X) (h : ℕ)
    → Each (λ x. P (f x)) xs → (NoneOf f xs h → P h) → P h
at_places P f xs h each other = elim (one_or_none f xs h)
    [ inl one ↦ each_at P f xs h one each | inr none ↦ other none ]

-- what holds of a number of none of these things, asked one by one, holds of one that is such
pub elsewhere : {X : Type 0} (P : Type 0) (f : X → ℕ) (xs : List X) (h : ℕ) → NoneOf f xs h
    → Off f xs h P → P
elsewhere P f [] h none given = given
elsewhere P f (x ∷ rest) h none given = elsewhere P f rest h none.1 (given none.0)

-- things that each have one property each have one that follows from it
pub each_map : {X : Type 0} (P Q : X → Type 0) (xs : List X) → ((x : X) → P x → Q x) → Each P xs
    → Each Q xs
each_map P Q [] g each = tt
each_map P Q (x ∷ rest) g each = (g x each.0, each_map P Q rest g each.1)
