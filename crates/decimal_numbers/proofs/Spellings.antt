-- A text spells one number only, and so is too long or not.
-- Lemmas: power_is_one, long_is_one.
use Rattle.std.proofs.Common.{◌≡◌, ◌++◌, ◌∷◌, ◌∙◌, [], ℕ, Bool, List}
use Rattle.std.proofs.Common.{inl, inr, refl, sym, ap, subst, append-nil}
use Rattle.std.specs.Str.Parse.{AllDigits}
use Rattle.decimal_numbers.specs.{IsPower, IsTooLong, Reading.TakesPoint, Spelling}
use Rattle.decimal_numbers.specs.Grammar.{IsPoint, IsSign, SpellsInteger, SpellsNumber}
use Rattle.decimal_numbers.specs.Reading.{NoDigitFirst, NoPointFirst, NoSignFirst, TakenSign}
use Rattle.decimal_numbers.proofs.Splits.{digits_no_sign, integer_is, parts_are, point_first}
use Rattle.decimal_numbers.proofs.Splits.{power_first, sign_ends, unsigned_first}

-- a sign is taken off
taken_sign : (text sign : List ℕ) (negative : Bool) (rest : List ℕ) → IsSign sign negative
    → text ≡ sign ++ rest → NoSignFirst rest → TakenSign text negative rest
taken_sign text s n r (inl (e, is)) at first =
    inr (inr (at ∙ ap (λ (x : List ℕ). x ++ r) e, is, first))
taken_sign text s n r (inr (inl (e, is))) at first =
    inr (inl (at ∙ ap (λ (x : List ℕ). x ++ r) e, is))
taken_sign text s n r (inr (inr (e, is))) at first =
    inl (at ∙ ap (λ (x : List ℕ). x ++ r) e, is)

-- and so are a point and its digits
takes_point : (behind point fraction rest : List ℕ) → IsPoint point fraction
    → behind ≡ point ++ rest → AllDigits 10 fraction → NoDigitFirst rest → NoPointFirst rest
    → TakesPoint behind fraction rest
takes_point b p f r (inl (e, none)) at all first no_point =
    let same : b ≡ r = at ∙ ap (λ (x : List ℕ). x ++ r) e in
    inr (same, none, subst NoPointFirst (sym same) no_point)
takes_point b p f r (inr e) at all first no_point =
    inl (at ∙ ap (λ (x : List ℕ). x ++ r) e, all, first)

-- a whole number has its sign and its digits in one way
integer_is_one : (text : List ℕ) (negative : Bool) (digits : List ℕ) (negative' : Bool)
    (digits' : List ℕ) → SpellsInteger text negative digits → SpellsInteger text negative' digits'
    → (negative ≡ negative') × (digits ≡ digits')
integer_is_one text n d n' d' s t =
    let taken = taken_sign text s.sign n d s.is_sign s.spelled
    (digits_no_sign d s.all_digits s.some) in
    let signs = sign_ends text n d t.sign n' d' taken t.is_sign t.spelled
    (digits_no_sign d' t.all_digits t.some) in
    let same = integer_is text n d d [] n' d' taken (sym (append-nil d)) s.all_digits tt t in
    (signs.0, same.0)

-- a power of ten too
pub power_is_one : (text : List ℕ) (lowers : Bool) (power : List ℕ) (lowers' : Bool)
    (power' : List ℕ) → IsPower text lowers power → IsPower text lowers' power'
    → (lowers ≡ lowers') × (power ≡ power')
power_is_one text l p l' p' (inl (e, up, none)) (inl (e', up', none')) =
    (up ∙ sym up', none ∙ sym none')
power_is_one text l p l' p' (inl (e, up, none)) (inr s) =
    let bad : [] ≡ s.letter ∷ s.rest = sym e ∙ s.spelled in absurd (cc)
power_is_one text l p l' p' (inr s) (inl (e, up, none)) =
    let bad : [] ≡ s.letter ∷ s.rest = sym e ∙ s.spelled in absurd (cc)
power_is_one text l p l' p' (inr s) (inr t) =
    let both : s.letter ∷ s.rest ≡ t.letter ∷ t.rest = sym s.spelled ∙ t.spelled in
    let rests : t.rest ≡ s.rest = cc in
    integer_is_one s.rest l p l' p' s.integer
    (subst (λ (x : List ℕ). SpellsInteger x l' p') rests t.integer)

-- so if one spelling is too long, every spelling of the text is
pub long_is_one : (text : List ℕ) (p q : Spelling) → SpellsNumber text p → SpellsNumber text q
    → IsTooLong p → IsTooLong q
long_is_one text p q s t long =
    let first = power_first s.power p.lowers p.power s.is_power in
    let parts = parts_are text p.negative (p.whole ++ (s.point ++ s.power)) p.whole
    (s.point ++ s.power) p.fraction s.power q
    (taken_sign text s.sign p.negative (p.whole ++ (s.point ++ s.power)) s.is_sign s.spelled
    (unsigned_first p.whole s.point p.fraction s.power p.lowers p.power s.whole s.is_point s.some))
    refl s.whole
    (point_first s.point p.fraction s.power p.lowers p.power s.is_point s.is_power)
    (takes_point (s.point ++ s.power) s.point p.fraction s.power s.is_point refl s.fraction first.0
    first.1) t in
    let power = power_is_one t.power p.lowers p.power q.lowers q.power
    (subst (λ (x : List ℕ). IsPower x p.lowers p.power) parts.2 s.is_power) t.is_power in
    subst (λ (x : Spelling). IsTooLong x) (λ i. record {
      negative = q.negative;
      whole = parts.0 i;
      fraction = parts.1 i;
      lowers = power.0 i;
      power = power.1 i;
    }) long
