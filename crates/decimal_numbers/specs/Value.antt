-- The number that is written, as a whole number over a power of ten.
use Rattle.std.specs.Prelude.{◌≡◌, ◌≢◌, ◌⊎◌, ◌+◌, ◌-◌, ◌*◌, ◌%◌, ◌^◌, ◌<◌, ◌≤◌, ◌++◌}
use Rattle.std.specs.Prelude.{◌≤ℤ◌, ◌-ℤ◌}
use Rattle.std.specs.Prelude.{ℕ, ℤ, pos, neg_ℤ, List, Bool, length, if◌then◌else◌}
use Rattle.std.specs.Str.Parse.{digits_value}
use Rattle.decimal_numbers.specs.Grammar.{Spelling, SpellsNumber}

-- by which power of ten the digits are raised, or lowered
abbrev pub raised_by : Spelling → ℕ
raised_by p = if p.lowers then 0 else digits_value 10 p.power

abbrev pub lowered_by : Spelling → ℕ
lowered_by p = length p.fraction + (if p.lowers then digits_value 10 p.power else 0)

-- magnitude / 10 ^ digits is all digits, raised and lowered by their powers
abbrev pub IsMagnitude : Spelling → ℕ → ℕ → Type 0
IsMagnitude p magnitude digits =
    magnitude * 10 ^ lowered_by p
    ≡ digits_value 10 (p.whole ++ p.fraction) * 10 ^ raised_by p * 10 ^ digits

-- the text is the number magnitude / 10 ^ digits, with this sign
pub record SpellsValue (text : List ℕ) (negative : Bool) (magnitude digits : ℕ) : Type 0 where
  pub parts : Spelling
  pub spelled : SpellsNumber text parts
  pub sign : parts.negative ≡ negative
  pub value : IsMagnitude parts magnitude digits

-- the number does not fit 64 bits without its point, or has too many digits behind the point or too
-- high a power of ten: 401 or more
abbrev pub IsTooLong : Spelling → Type 0
IsTooLong p = (2 ^ 64 ≤ digits_value 10 (p.whole ++ p.fraction) * 10 ^ raised_by p)
    ⊎ ((400 < length p.fraction) ⊎ (400 < digits_value 10 p.power))

-- the text is a number that is too long
pub record SpellsTooLong (text : List ℕ) : Type 0 where
  pub parts : Spelling
  pub spelled : SpellsNumber text parts
  pub long : IsTooLong parts

-- the same number with the least digits behind the point
pub record IsShortest (magnitude digits magnitude' digits' : ℕ) : Type 0 where
  pub same : magnitude' * 10 ^ digits ≡ magnitude * 10 ^ digits'
  pub fewer : digits' ≤ digits
  pub least : 0 < digits' → magnitude' % 10 ≢ 0

-- the whole number with a sign
abbrev pub signed : Bool → ℕ → ℤ
signed negative n = if negative then neg_ℤ (pos n) else pos n

-- z is the number magnitude / 10 ^ digits, with this sign, times 10 ^ power
pub record IsTimesPower (negative : Bool) (magnitude digits power : ℕ) (z : ℤ) : Type 0 where
  pub units : ℕ
  pub sign : z ≡ signed negative units
  pub value : units * 10 ^ digits ≡ magnitude * 10 ^ power

-- z is at most so far from 0
pub record IsWithin (reach : ℕ) (z : ℤ) : Type 0 where
  pub low : neg_ℤ (pos reach) ≤ℤ z
  pub high : z ≤ℤ pos reach

-- how many units of 10 ^ -power the number magnitude / 10 ^ digits is, where that is a whole number
abbrev pub units_at : ℕ → ℕ → ℕ → ℕ
units_at power magnitude digits = magnitude * 10 ^ (power - digits)

-- so many units, with this sign, are too far from 0, or from where the coordinates have their 0
abbrev pub IsOutOfReach : Bool → ℕ → ℤ → Type 0
IsOutOfReach negative units origin =
    (2 ^ 62 < units) ⊎ ¬ IsWithin (2 ^ 29) (signed negative units -ℤ origin)

-- the number as it was, where it has so few digits behind the point, or one with so many which is
-- at most half a unit of the last of them away
pub record IsRounded (magnitude digits kept magnitude' digits' : ℕ) : Type 0 where
  pub same : digits ≤ kept → (magnitude' ≡ magnitude) × (digits' ≡ digits)
  pub fewer : kept < digits → digits' ≡ kept
  pub above : kept < digits
      → 2 * magnitude ≤ (2 * magnitude' + 1) * 10 ^ (digits - kept)
  pub below : kept < digits
      → 2 * magnitude' * 10 ^ (digits - kept) ≤ 2 * magnitude + 10 ^ (digits - kept)
