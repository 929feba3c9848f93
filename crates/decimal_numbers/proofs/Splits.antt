-- A number's text has its parts in one way only.
-- Lemmas: digit_is_low, digits_end, sign_ends, digits_no_sign, power_first, point_first, point_ends,
-- unsigned_first, parts_are, integer_is, sign_of, integer_of, point_of, number_of, if_none,
-- no_power_behind, is_none, is_some.
use Rattle.std.proofs.Common.{◌≡◌, ◌≢◌, ◌+◌, ◌<◌, ◌≤◌, ◌⊎◌, [], ◌∷◌, ◌++◌, ◌∙◌}
use Rattle.std.proofs.Common.{ℕ, Bool, true, false, eqb, List, length, get_or, drop, inl, inr, refl}
use Rattle.std.proofs.Common.{sym, ap, subst, arith}
use Rattle.std.proofs.Common.{append-nil}
use Rattle.std.specs.Prelude.{Option, None, Some, IfNone}
use Rattle.std.specs.Char.{digit_value, is_ascii_digit}
use Rattle.std.specs.Str.Parse.{AllDigits}
use Rattle.std.proofs.lemmas.Bool.{ne_eqb}
use Rattle.std.proofs.lemmas.Bool.Decides.{nat_tests}
use Rattle.decimal_numbers.specs.{IsPower, Spelling}
use Rattle.decimal_numbers.specs.Grammar.{IsPoint, IsSign, SpellsInteger, SpellsNumber}
use Rattle.decimal_numbers.specs.Reading.{IsNoInteger, IsNoPower, NoDigitFirst, NoPointFirst}
use Rattle.decimal_numbers.specs.Reading.{NoSignFirst, TakenSign, TakesPoint}

-- a digit's byte has a value below ten, and no other byte does
pub digit_is_low : (c : ℕ) → is_ascii_digit c ≡ true → digit_value c < 10
digit_is_low c e = grind (arith, nat_tests)

-- digits and what begins with none
pub digits_end : (a b c d : List ℕ) → a ++ b ≡ c ++ d → AllDigits 10 a → AllDigits 10 c
    → NoDigitFirst b → NoDigitFirst d → (a ≡ c) × (b ≡ d)
digits_end [] b [] d e _ _ _ _ = (refl, e)
digits_end [] b (y ∷ c) d e _ all first _ =
    let high : NoDigitFirst (y ∷ (c ++ d)) = subst NoDigitFirst e first in
    absurd (omega (arith, high, all.0))
digits_end (x ∷ a) b [] d e all _ _ first =
    let high : NoDigitFirst (x ∷ (a ++ b)) = subst NoDigitFirst (sym e) first in
    absurd (omega (arith, high, all.0))
digits_end (x ∷ a) b (y ∷ c) d e all all' first first' =
    let same : a ++ b ≡ c ++ d = cc in
    let rest = digits_end a b c d same all.1 all'.1 first first' in
    let heads : x ≡ y = cc in
    ((let tails = rest.0 in cc), rest.1)

-- a sign, which is one in one way only, and what begins with none
pub sign_ends : (text : List ℕ) (negative : Bool) (rest sign : List ℕ) (negative' : Bool)
    (rest' : List ℕ) → TakenSign text negative rest → IsSign sign negative' → text ≡ sign ++ rest'
    → NoSignFirst rest' → (negative ≡ negative') × (rest ≡ rest')
sign_ends text n r s n' r' (inl (e, _)) (inl (es, _)) t first =
    let at : 45 ∷ r ≡ r' = sym e ∙ t ∙ ap (λ x. x ++ r') es in
    let no : NoSignFirst (45 ∷ r) = subst NoSignFirst (sym at) first in
    absurd (no.1 refl)
sign_ends text n r s n' r' (inl (e, _)) (inr (inl (es, _))) t first =
    let at : 45 ∷ r ≡ 43 ∷ r' = sym e ∙ t ∙ ap (λ x. x ++ r') es in
    let heads = ap (λ (x : List ℕ). get_or x 0 0) at in absurd (omega (arith, heads))
sign_ends text n r s n' r' (inl (e, is)) (inr (inr (es, is'))) t first =
    let at : 45 ∷ r ≡ 45 ∷ r' = sym e ∙ t ∙ ap (λ x. x ++ r') es in (is ∙ sym is', cc)
sign_ends text n r s n' r' (inr (inl (e, _))) (inl (es, _)) t first =
    let at : 43 ∷ r ≡ r' = sym e ∙ t ∙ ap (λ x. x ++ r') es in
    let no : NoSignFirst (43 ∷ r) = subst NoSignFirst (sym at) first in
    absurd (no.0 refl)
sign_ends text n r s n' r' (inr (inl (e, is))) (inr (inl (es, is'))) t first =
    let at : 43 ∷ r ≡ 43 ∷ r' = sym e ∙ t ∙ ap (λ x. x ++ r') es in (is ∙ sym is', cc)
sign_ends text n r s n' r' (inr (inl (e, _))) (inr (inr (es, _))) t first =
    let at : 43 ∷ r ≡ 45 ∷ r' = sym e ∙ t ∙ ap (λ x. x ++ r') es in
    let heads = ap (λ (x : List ℕ). get_or x 0 0) at in absurd (omega (arith, heads))
sign_ends text n r s n' r' (inr (inr (e, is, clear))) (inl (es, is')) t first =
    (is ∙ sym is', sym e ∙ t ∙ ap (λ x. x ++ r') es)
sign_ends text n r s n' r' (inr (inr (e, _, clear))) (inr (inl (es, _))) t first =
    let at : r ≡ 43 ∷ r' = sym e ∙ t ∙ ap (λ x. x ++ r') es in
    let no' : NoSignFirst (43 ∷ r') = subst NoSignFirst at clear in
    absurd (no'.0 refl)
sign_ends text n r s n' r' (inr (inr (e, _, clear))) (inr (inr (es, _))) t first =
    let at : r ≡ 45 ∷ r' = sym e ∙ t ∙ ap (λ x. x ++ r') es in
    let no' : NoSignFirst (45 ∷ r') = subst NoSignFirst at clear in
    absurd (no'.1 refl)

-- digits begin with no sign
digit_no_sign : (c : ℕ) → digit_value c < 10 → (c ≢ 43) × (c ≢ 45)
digit_no_sign c low = (
  (λ e. let low' : digit_value 43 < 10 = subst (λ x. digit_value x < 10) e low in
      absurd (omega arith)),
  (λ e. let low' : digit_value 45 < 10 = subst (λ x. digit_value x < 10) e low in
      absurd (omega arith)),
)

pub digits_no_sign : (xs : List ℕ) → AllDigits 10 xs → 0 < length xs → NoSignFirst xs
digits_no_sign [] all some = absurd (omega (arith, some))
digits_no_sign (x ∷ xs) all some = digit_no_sign x all.0

-- a letter is no digit and no point
letter_first : (c : ℕ) → (c ≡ 69) ⊎ (c ≡ 101) → (10 ≤ digit_value c) × (c ≢ 46)
letter_first c (inl e) = (grind (arith, nat_tests), λ f. absurd (omega arith))
letter_first c (inr e) = (grind (arith, nat_tests), λ f. absurd (omega arith))

pub power_first : (text : List ℕ) (lowers : Bool) (power : List ℕ) → IsPower text lowers power
    → NoDigitFirst text × NoPointFirst text
power_first text l p (inl (e, _, _)) =
    (subst NoDigitFirst (sym e) tt, subst NoPointFirst (sym e) tt)
power_first text l p (inr s) = let f = letter_first s.letter s.is_letter in
    (subst NoDigitFirst (sym s.spelled) f.0, subst NoPointFirst (sym s.spelled) f.1)

pub point_first : (point fraction text : List ℕ) (lowers : Bool) (power : List ℕ)
    → IsPoint point fraction → IsPower text lowers power → NoDigitFirst (point ++ text)
point_first point f text l p (inl (e, _)) h =
    subst (λ x. NoDigitFirst (x ++ text)) (sym e) (power_first text l p h).0
point_first point f text l p (inr e) h =
    let high : 10 ≤ digit_value 46 = omega arith in
    subst (λ x. NoDigitFirst (x ++ text)) (sym e) high

-- a point and what begins with none
pub point_ends : (behind fraction rest point fraction' text : List ℕ) (lowers : Bool)
    (power : List ℕ) → TakesPoint behind fraction rest → IsPoint point fraction'
    → IsPower text lowers power → AllDigits 10 fraction' → behind ≡ point ++ text
    → (fraction ≡ fraction') × (rest ≡ text)
point_ends b f r p f' t l w (inl (e, all, first)) (inl (ep, ef)) h all' at =
    let same : 46 ∷ (f ++ r) ≡ t = sym e ∙ at ∙ ap (λ x. x ++ t) ep in
    let no : NoPointFirst (46 ∷ (f ++ r)) = subst NoPointFirst (sym same) (power_first t l w h).1 in
    absurd (no refl)
point_ends b f r p f' t l w (inl (e, all, first)) (inr ep) h all' at =
    let same : 46 ∷ (f ++ r) ≡ 46 ∷ (f' ++ t) = sym e ∙ at ∙ ap (λ x. x ++ t) ep in
    let tails : f ++ r ≡ f' ++ t = cc in
    digits_end f r f' t tails all all' first (power_first t l w h).0
point_ends b f r p f' t l w (inr (e, none, first)) (inl (ep, ef)) h all' at =
    (none ∙ sym ef, sym e ∙ at ∙ ap (λ x. x ++ t) ep)
point_ends b f r p f' t l w (inr (e, none, first)) (inr ep) h all' at =
    let same : b ≡ 46 ∷ (f' ++ t) = at ∙ ap (λ x. x ++ t) ep in
    let no : NoPointFirst (46 ∷ (f' ++ t)) = subst NoPointFirst same first in
    absurd (no refl)

point_no_sign : (c : ℕ) → c ≡ 46 → (c ≢ 43) × (c ≢ 45)
point_no_sign c e = ((λ f. absurd (omega arith)), (λ f. absurd (omega arith)))

-- what stands behind a sign begins with none
pub unsigned_first : (whole point fraction text : List ℕ) (lowers : Bool) (power : List ℕ)
    → AllDigits 10 whole → IsPoint point fraction → 0 < length whole + length fraction
    → NoSignFirst (whole ++ (point ++ text))
unsigned_first (c ∷ whole) point f t l w all h some = digit_no_sign c all.0
unsigned_first [] point f t l w all (inl (ep, ef)) some = absurd (omega (arith, some, ap length ef))
unsigned_first [] point f t l w all (inr ep) some =
    subst (λ x. NoSignFirst (x ++ t)) (sym ep) (point_no_sign 46 refl)

-- a text that was taken apart has its parts in no other way
pub parts_are : (text : List ℕ) (negative : Bool) (unsigned whole behind fraction rest : List ℕ)
    (p : Spelling) → TakenSign text negative unsigned → unsigned ≡ whole ++ behind
    → AllDigits 10 whole
    → NoDigitFirst behind → TakesPoint behind fraction rest → (s : SpellsNumber text p)
    → (whole ≡ p.whole) × (fraction ≡ p.fraction) × (rest ≡ s.power)
parts_are text n u whole behind f r p signs split all first point s =
    let e = sign_ends text n u s.sign p.negative (p.whole ++ (s.point ++ s.power)) signs s.is_sign
    s.spelled (unsigned_first p.whole s.point p.fraction s.power p.lowers p.power s.whole s.is_point
    s.some) in
    let d = digits_end whole behind p.whole (s.point ++ s.power) (sym split ∙ e.1) all s.whole first
    (point_first s.point p.fraction s.power p.lowers p.power s.is_point s.is_power) in
    let q = point_ends behind f r s.point p.fraction s.power p.lowers p.power point s.is_point
    s.is_power s.fraction d.1 in
    (d.0, q.0, q.1)

-- the digits of a whole number that was taken apart are no others
pub integer_is : (text : List ℕ) (negative : Bool) (unsigned digits behind : List ℕ)
    (negative' : Bool) (digits' : List ℕ) → TakenSign text negative unsigned
    → unsigned ≡ digits ++ behind → AllDigits 10 digits → NoDigitFirst behind
    → SpellsInteger text negative' digits'
    → (digits ≡ digits') × (behind ≡ []) × (0 < length digits')
integer_is text n u d b n' w signs split all first s =
    let e = sign_ends text n u s.sign n' w signs s.is_sign s.spelled
    (digits_no_sign w s.all_digits s.some) in
    let same : d ++ b ≡ w ++ [] = sym split ∙ e.1 ∙ sym (append-nil w) in
    let q = digits_end d b w [] same all s.all_digits first tt in
    (q.0, q.1, s.some)

-- a sign that was taken off is one
pub sign_of : (text : List ℕ) (negative : Bool) (rest : List ℕ) → TakenSign text negative rest
    → (sign : List ℕ) × IsSign sign negative × (text ≡ sign ++ rest)
sign_of text n r (inl (e, is)) = (45 ∷ [], inr (inr (refl, is)), e)
sign_of text n r (inr (inl (e, is))) = (43 ∷ [], inr (inl (refl, is)), e)
sign_of text n r (inr (inr (e, is, clear))) = ([], inl (refl, is), e)

-- a whole number that was taken apart
pub integer_of : (text : List ℕ) (negative : Bool) (unsigned digits behind : List ℕ)
    → TakenSign text negative unsigned → unsigned ≡ digits ++ behind → behind ≡ []
    → AllDigits 10 digits → 0 < length digits → SpellsInteger text negative digits
integer_of text n u digits b signs split ended all some =
    let s = sign_of text n u signs in
    let whole : u ≡ digits = split ∙ ap (λ x. digits ++ x) ended ∙ append-nil digits in
    record {
      sign = s.0;
      is_sign = s.1;
      spelled = s.2 ∙ ap (λ x. s.0 ++ x) whole;
      all_digits = all;
      some = some;
    }

-- a point that was taken off is one
pub point_of : (behind fraction rest : List ℕ) → TakesPoint behind fraction rest
    → (point : List ℕ) × IsPoint point fraction × (behind ≡ point ++ rest) × AllDigits 10 fraction
point_of b f r (inl (e, all, first)) = (46 ∷ f, inr refl, e, all)
point_of b f r (inr (e, none, first)) =
    ([], inl (refl, none), e, subst (λ x. AllDigits 10 x) (sym none) tt)

-- a number that was taken apart
pub number_of : (text : List ℕ) (unsigned behind rest : List ℕ) (p : Spelling)
    → TakenSign text p.negative unsigned → unsigned ≡ p.whole ++ behind → AllDigits 10 p.whole
    → TakesPoint behind p.fraction rest → 0 < length p.whole + length p.fraction
    → IsPower rest p.lowers p.power → SpellsNumber text p
number_of text u b r p signs split all point some power =
    let s = sign_of text p.negative u signs in
    let q = point_of b p.fraction r point in
    record {
      sign = s.0;
      point = q.0;
      power = r;
      is_sign = s.1;
      is_point = q.1;
      is_power = power;
      spelled = s.2 ∙ ap (λ x. s.0 ++ x) (split ∙ ap (λ x. p.whole ++ x) q.2);
      whole = all;
      fraction = q.3;
      some = some;
    }

-- where a fact holds anyway, it holds of an answer that may be none
pub if_none : {A : Type 0} (r : Option A) (P : Type 0) → P → IfNone r P
if_none None P h = h
if_none (Some x) P h = tt

-- a text whose bytes behind the first are no whole number is no power
no_power : (text rest : List ℕ) (c : ℕ) → text ≡ c ∷ rest → IsNoInteger rest → IsNoPower text
no_power text rest c at none l w (inl (e, _, _)) = let bad : c ∷ rest ≡ [] = sym at ∙ e in cc
no_power text rest c at none l w (inr s) =
    let both : c ∷ rest ≡ s.letter ∷ s.rest = sym at ∙ s.spelled in
    let tails : s.rest ≡ rest = cc in
    none l w (subst (λ x. SpellsInteger x l w) tails s.integer)

pub no_power_behind : {A : Type 0} (r : Option A) (text rest : List ℕ) → 0 < length text
    → rest ≡ drop 1 text → IfNone r (IsNoInteger rest) → IfNone r (IsNoPower text)
no_power_behind (Some x) text rest some at h = tt
no_power_behind None [] rest some at h = absurd (omega (arith, some))
no_power_behind None (c ∷ text) rest some at h =
    no_power (c ∷ text) rest c (ap (λ x. c ∷ x) (sym at)) h

-- a list whose test for emptiness says so is empty
pub is_none : (xs : List ℕ) (b : Bool) → b ≡ eqb (length xs) 0 → b ≡ true → xs ≡ []
is_none [] b e t = refl
is_none (x ∷ xs) b e t =
    let other : eqb (length (x ∷ xs)) 0 ≡ false = ne_eqb _ _ (some xs) in
    let bad : false ≡ true = sym other ∙ sym e ∙ t in cc
  where
    some : (ys : List ℕ) → length (x ∷ ys) ≢ 0
    some ys f = absurd (omega (arith, f))

-- one that has no test for emptiness has an element
pub is_some : (xs : List ℕ) (b : Bool) → b ≡ eqb (length xs) 0 → b ≡ false → 0 < length xs
is_some [] b e t = let bad : true ≡ false = sym e ∙ t in cc
is_some (x ∷ xs) b e t = omega arith
