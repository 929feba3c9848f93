-- What hint generators hold together.
use Rattle.std.specs.Prelude.{◌⊎◌}
use Rattle.{plane.specs.Point, test_reader.specs.declared.hints.switching.Switching.Switching}

-- one of the two sets has the position
abbrev IsInEither : (Point → Type 0) → (Point → Type 0) → Point → Type 0
IsInEither first second p = first p ⊎ second p

-- one of the five sets has the position
abbrev IsInAny : (a b c d e : Point → Type 0) → Point → Type 0
IsInAny a b c d e = IsInEither a (IsInEither b (IsInEither c (IsInEither d e)))

-- one of the five that are chosen from holds the position
abbrev pub IsHeldIn : {A B C D E : Type 0} → (A → Point → Type 0) → (B → Point → Type 0)
    → (C → Point → Type 0) → (D → Point → Type 0) → (E → Point → Type 0) → Switching A B C D E
    → Point → Type 0
IsHeldIn a b c d e s = IsInAny (a s.first) (b s.second) (c s.third) (d s.fourth) (e s.fifth)
