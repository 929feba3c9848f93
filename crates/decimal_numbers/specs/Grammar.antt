-- How decimal numbers are spelled: a sign, digits, a point with digits behind it, and a power of
-- ten. All but some digit may be missing.
use Rattle.std.specs.Prelude.{◌≡◌, ◌⊎◌, ◌+◌, ◌<◌, ◌++◌, [], ◌∷◌}
use Rattle.std.specs.Prelude.{ℕ, List, Bool, true, false, length}
use Rattle.std.specs.Str.Parse.{AllDigits}

-- what a number is written with: whether with a minus, the digits before the point and behind it,
-- and the power of ten behind an e, which is none where that has no digit
pub record Spelling : Type 0 where
  pub negative : Bool
  pub whole : List ℕ
  pub fraction : List ℕ
  pub lowers : Bool
  pub power : List ℕ

-- the sign: none, byte 43, the plus, or byte 45, the minus
abbrev pub IsSign : List ℕ → Bool → Type 0
IsSign sign negative = ((sign ≡ []) × (negative ≡ false))
    ⊎ (((sign ≡ 43 ∷ []) × (negative ≡ false)) ⊎ ((sign ≡ 45 ∷ []) × (negative ≡ true)))

-- the point: none, or byte 46 and digits
abbrev pub IsPoint : List ℕ → List ℕ → Type 0
IsPoint point fraction = ((point ≡ []) × (fraction ≡ [])) ⊎ (point ≡ 46 ∷ fraction)

-- a whole number: a sign and digits
pub record SpellsInteger (text : List ℕ) (negative : Bool) (digits : List ℕ) : Type 0 where
  pub sign : List ℕ
  pub is_sign : IsSign sign negative
  pub spelled : text ≡ sign ++ digits
  pub all_digits : AllDigits 10 digits
  pub some : 0 < length digits

-- a power that is there: byte 69 or 101, the letter, then a whole number
pub record SpellsPower (text : List ℕ) (lowers : Bool) (power : List ℕ) : Type 0 where
  pub letter : ℕ
  pub rest : List ℕ
  pub is_letter : (letter ≡ 69) ⊎ (letter ≡ 101)
  pub spelled : text ≡ letter ∷ rest
  pub integer : SpellsInteger rest lowers power

-- the power: none, or one that is there
abbrev pub IsPower : List ℕ → Bool → List ℕ → Type 0
IsPower text lowers power = ((text ≡ []) × (lowers ≡ false) × (power ≡ []))
    ⊎ SpellsPower text lowers power

-- the text is the number with these parts
pub record SpellsNumber (text : List ℕ) (p : Spelling) : Type 0 where
  pub sign : List ℕ
  pub point : List ℕ
  pub power : List ℕ
  pub is_sign : IsSign sign p.negative
  pub is_point : IsPoint point p.fraction
  pub is_power : IsPower power p.lowers p.power
  pub spelled : text ≡ sign ++ (p.whole ++ (point ++ power))
  pub whole : AllDigits 10 p.whole
  pub fraction : AllDigits 10 p.fraction
  pub some : 0 < length p.whole + length p.fraction

-- the text is no number
abbrev pub SpellsNoNumber : List ℕ → Type 0
SpellsNoNumber text = (p : Spelling) → SpellsNumber text p → ⊥
