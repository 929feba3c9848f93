-- How a number is taken apart from the front.
use Rattle.std.specs.Prelude.{◌≡◌, ◌⊎◌, ◌++◌, ◌≢◌, [], ◌∷◌, ◌≤◌, ⊤}
use Rattle.std.specs.Prelude.{ℕ, List, Bool, true, false}
use Rattle.std.specs.Char.{digit_value}
use Rattle.std.specs.Str.Parse.{AllDigits}
use Rattle.decimal_numbers.specs.Grammar.{IsPower, Spelling, SpellsInteger}
use Rattle.decimal_numbers.specs.declared.parts.Written.{Written}

-- the text begins with no digit
abbrev pub NoDigitFirst : List ℕ → Type 0
NoDigitFirst [] = ⊤
NoDigitFirst (c ∷ cs) = 10 ≤ digit_value c

-- nor with a plus or a minus
abbrev pub NoSignFirst : List ℕ → Type 0
NoSignFirst [] = ⊤
NoSignFirst (c ∷ cs) = (c ≢ 43) × (c ≢ 45)

-- nor with a point
abbrev pub NoPointFirst : List ℕ → Type 0
NoPointFirst [] = ⊤
NoPointFirst (c ∷ cs) = c ≢ 46

-- a sign is taken off
abbrev pub TakenSign : List ℕ → Bool → List ℕ → Type 0
TakenSign text negative rest = ((text ≡ 45 ∷ rest) × (negative ≡ true))
    ⊎ (((text ≡ 43 ∷ rest) × (negative ≡ false))
    ⊎ ((text ≡ rest) × (negative ≡ false) × NoSignFirst rest))

-- a point with its digits is taken off
abbrev pub TakesPoint : List ℕ → List ℕ → List ℕ → Type 0
TakesPoint text fraction rest =
    ((text ≡ 46 ∷ (fraction ++ rest)) × AllDigits 10 fraction × NoDigitFirst rest)
    ⊎ ((text ≡ rest) × (fraction ≡ []) × NoPointFirst text)

-- the text is no whole number; neither empty nor a power of ten
abbrev pub IsNoInteger : List ℕ → Type 0
IsNoInteger text = (negative : Bool) (digits : List ℕ) → SpellsInteger text negative digits → ⊥

abbrev pub IsNoPower : List ℕ → Type 0
IsNoPower text = (lowers : Bool) (power : List ℕ) → IsPower text lowers power → ⊥

-- the parts that a number is written with
abbrev pub parts_of : Written → Spelling
parts_of w = record {
  negative = w.negative;
  whole = w.whole.now;
  fraction = w.fraction.now;
  lowers = w.lowers;
  power = w.power.now;
}
