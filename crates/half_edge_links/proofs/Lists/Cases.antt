-- Questions with two answers, asked one after another.
-- Lemmas: ◌or_else◌, ◌each_with◌.
use Rattle.std.proofs.Common.{◌⊎◌, inl, inr}

infixr 2 ◌or_else◌
infixr 2 ◌each_with◌
-- the second question is asked where the first has its second answer
pub ◌or_else◌ : {A B C D : Type 0} → A ⊎ B → C ⊎ D → A ⊎ B × (C ⊎ D)
inl a or_else s = inl a
inr b or_else s = inr (b, s)

-- the second question is asked in both cases
pub ◌each_with◌ : {A B C D : Type 0} → A ⊎ B → C ⊎ D → A × (C ⊎ D) ⊎ B × (C ⊎ D)
inl a each_with s = inl (a, s)
inr b each_with s = inr (b, s)
