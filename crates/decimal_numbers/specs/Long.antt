-- Numbers with more digits than fit, of which some are kept.
use Rattle.std.specs.Prelude.{◌≡◌, ◌⊎◌, ◌+◌, ◌*◌, ◌%◌, ◌^◌, ◌<◌, ◌≤◌, ◌++◌, ◌==◌}
use Rattle.std.specs.Prelude.{ℕ, List, true, false, length, if◌then◌else◌}
use Rattle.std.specs.Str.Parse.{digits_value}
use Rattle.decimal_numbers.specs.{declared.long.Kept.Kept, Grammar.Spelling, Grammar.SpellsNumber}
use Rattle.decimal_numbers.specs.Value.{IsMagnitude, lowered_by, raised_by}
use Rattle.decimal_numbers.specs.declared.long.LongDecimal.{LongDecimal}

-- the next number, where this one is a multiple of five
abbrev pub off_fives : ℕ → ℕ
off_fives n = if n % 5 == 0 then n + 1 else n

-- the number is more than floor / 10 ^ digits, and less than the next of these; magnitude is the
-- floor, or what is next to it where that is a multiple of five
pub record IsBetween (p : Spelling) (magnitude digits : ℕ) : Type 0 where
  pub floor : ℕ
  pub above : floor * 10 ^ lowered_by p
      < digits_value 10 (p.whole ++ p.fraction) * 10 ^ raised_by p * 10 ^ digits
  pub below : digits_value 10 (p.whole ++ p.fraction) * 10 ^ raised_by p * 10 ^ digits
      < (floor + 1) * 10 ^ lowered_by p
  pub magnitude_is : magnitude ≡ off_fives floor

-- the number with these parts: exactly, or as one that lies beside it
pub record IsLongValue (p : Spelling) (d : LongDecimal) : Type 0 where
  pub exact : d.is_exact ≡ true → IsMagnitude p d.decimal.magnitude d.decimal.digits
  pub between : d.is_exact ≡ false → IsBetween p d.decimal.magnitude d.decimal.digits

-- the text is this number
pub record SpellsLong (text : List ℕ) (d : LongDecimal) : Type 0 where
  pub parts : Spelling
  pub spelled : SpellsNumber text parts
  pub sign : parts.negative ≡ d.decimal.negative
  pub value : IsLongValue parts d

-- all digits but some last ones are a number, and the last ones are zeros where that is exact
pub record IsKept (whole fraction : List ℕ) (k : Kept) : Type 0 where
  pub length_is : length fraction ≡ k.behind + k.cut
  pub fits : k.number < 10 ^ 18
  pub full : 0 < k.cut → 10 ^ 17 ≤ k.number
  pub exact : k.is_exact ≡ true → digits_value 10 (whole ++ fraction) ≡ k.number * 10 ^ k.cut
  pub above : k.is_exact ≡ false → k.number * 10 ^ k.cut < digits_value 10 (whole ++ fraction)
  pub below : digits_value 10 (whole ++ fraction) < (k.number + 1) * 10 ^ k.cut
  pub few : length fraction ≤ 2 ^ 30

-- there are 18 digits or more before the point, or too many behind it
abbrev pub IsWide : List ℕ → List ℕ → Type 0
IsWide whole fraction = (10 ^ 17 * 10 ^ length fraction ≤ digits_value 10 (whole ++ fraction))
    ⊎ (2 ^ 30 < length fraction)

-- or the number is 10 ^ 17 or more, or has a higher power of ten than 400
abbrev pub IsLarge : Spelling → Type 0
IsLarge p = IsWide p.whole p.fraction ⊎ ((400 < digits_value 10 p.power)
    ⊎ (10 ^ 17 * 10 ^ lowered_by p ≤ digits_value 10 (p.whole ++ p.fraction) * 10 ^ raised_by p))

-- the text is such a number
pub record SpellsLarge (text : List ℕ) : Type 0 where
  pub parts : Spelling
  pub spelled : SpellsNumber text parts
  pub large : IsLarge parts
