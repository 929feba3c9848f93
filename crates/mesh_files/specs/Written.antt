-- Numbers as a file has them, and segments between points of a list.
use Rattle.std.specs.Prelude.{◌≡◌, ◌⊎◌, ◌<◌, ℕ, List, false}
use Rattle.decimal_numbers.specs.{Decimal, Value.IsShortest, Value.SpellsTooLong, Value.SpellsValue}
use Rattle.decimal_numbers.specs.{declared.long.LongDecimal.LongDecimal, Long.SpellsLong}
use Rattle.mesh_files.specs.declared.drawing.Segment.{Segment}

-- the ends of a segment are among so many points
abbrev pub HasEnds : ℕ → Segment → Type 0
HasEnds count s = (s.from < count) × (s.to < count)

-- the text is this number, which has the least digits behind the point
pub record IsExact (text : List ℕ) (d : Decimal) : Type 0 where
  pub magnitude : ℕ
  pub digits : ℕ
  pub written : SpellsValue text d.negative magnitude digits
  pub shortest : IsShortest magnitude digits d.magnitude d.digits

-- the text is a number with more digits than fit, and this one lies beside it
pub record IsCut (text : List ℕ) (d : Decimal) : Type 0 where
  pub long : SpellsTooLong text
  pub value : LongDecimal
  pub written : SpellsLong text value
  pub cut : value.is_exact ≡ false
  pub decimal_is : d ≡ value.decimal

-- the text is this number, or one with more digits than fit that lies beside it
pub record IsAsWritten (text : List ℕ) (d : Decimal) : Type 0 where
  pub number : IsExact text d ⊎ IsCut text d
