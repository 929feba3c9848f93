-- Numbers are read as they are spelled.
-- Lemmas: index_value-ok, index_value-is, index_from, number_value-ok, number_value-is.
use Rattle.std.proofs.Common.{◌≡◌, ◌&&◌, [], ◌∷◌}
use Rattle.std.proofs.Common.{ℕ, Bool, true, false, ltb, leb, ℤ, pos, neg_ℤ, List, length, Option}
use Rattle.std.proofs.Common.{Some, None, IfSome, IfNone, refl, sym, ap, arith, inl, inr, subst}
use Rattle.std.proofs.lemmas.Bool.Decides.{eqb_tells}
use Rattle.std.proofs.lemmas.Str.Parse.{digit_at}
use Rattle.std.specs.Option.{option_map}
use Rattle.std.specs.Str.{all_ascii_digits}
use Rattle.std.specs.Str.Parse.{digits_value}
use Rattle.std.proofs.lemmas.Option.{cond_some}
use Rattle.std.proofs.lemmas.Bool.Decides.{nat_tests}
use Rattle.std.proofs.lemmas.Str.Parse.{IsNumeralModel, numerals_by_value, tells_all_ascii_digits}
use Rattle.triangulate_run.specs.Grammar.{IsDigits, IsNumber}
use Rattle.triangulate_run.specs.Reading.{index_value, number_value}

-- numerals are lists of digits alone, with their value to base 10
own : IsNumeralModel (λ ds. all_ascii_digits ds ≡ true) (digits_value 10)
own = numerals_by_value _ tells_all_ascii_digits

and_parts : (a b : Bool) → (a && b) ≡ true → (a ≡ true) × (b ≡ true)
and_parts true b e = (refl, e)
and_parts false b e = cc

-- a word that writes an index is read as this index
pub index_value-ok : (word : List ℕ) (n : ℕ) → IsDigits word n → index_value word ≡ Some n
unfolding index_value
index_value-ok word n h =
    let digits = own.from word h.digits in
    let some : ltb 0 (length word) ≡ true = grind (arith, nat_tests, h.some) in
    let few : leb (length word) 18 ≡ true = grind (arith, nat_tests, h.few) in
    rw (some, few, digits) (ap Some (sym h.value))

-- a word that is read as an index writes it
pub index_value-is : (word : List ℕ) (n : ℕ) → index_value word ≡ Some n → IsDigits word n
unfolding index_value
index_value-is word n e =
    let c = cond_some (ltb 0 (length word) && leb (length word) 18 && all_ascii_digits word)
    (digits_value 10 word) n e in
    let p = and_parts (ltb 0 (length word) && leb (length word) 18) (all_ascii_digits word) c.0 in
    let q = and_parts (ltb 0 (length word)) (leb (length word) 18) p.0 in
    record {
      some = grind (arith, nat_tests, q.0);
      few = grind (arith, nat_tests, q.1);
      digits = own.to word p.1;
      value = sym c.1;
    }

same_option : {X : Type 0} (r o : Option X) → ((x : X) → r ≡ Some x → o ≡ Some x)
    → ((x : X) → o ≡ Some x → r ≡ Some x) → r ≡ o
same_option None None f g = refl
same_option None (Some y) f g = g y refl
same_option (Some x) o f g = sym (f x refl)

-- an answer that is the index a word writes, or none where it writes none, is what is read
pub index_from : (word : List ℕ) (r : Option ℕ) → IfSome r (IsDigits word)
    → IfNone r ((n : ℕ) → IsDigits word n → ⊥) → r ≡ index_value word
index_from word None some none = same_option None (index_value word) (λ x e. cc)
    (λ x e. absurd (none x (index_value-is word x e)))
index_from word (Some n) some none = sym (index_value-ok word n some)

map_some : {X Y : Type 0} (f : X → Y) (o : Option X) (y : Y) → option_map f o ≡ Some y
    → (x : X) × (o ≡ Some x) × (y ≡ f x)
map_some f None y e = cc
map_some f (Some x) y e = (x, refl, cc)

no_minus : (digits : List ℕ) (n : ℕ) → IsDigits (45 ∷ digits) n → ⊥
no_minus digits n h = absurd (omega (arith, (digit_at (45 ∷ digits) 0 h.digits h.some).0))

-- a word that writes a number is read as this number
pub number_value-ok : (word : List ℕ) (z : ℤ) → IsNumber word z → number_value word ≡ Some z
unfolding number_value
number_value-ok [] z (inl (n, h, e)) = absurd (omega (arith, h.some))
number_value-ok [] z (inr (digits, n, same, h, e)) = cc
number_value-ok (c ∷ cs) z (inl (n, h, e)) = elim (eqb_tells c 45) [
  | inl minus ↦ absurd (no_minus cs n (subst (λ b. IsDigits (b ∷ cs) n) minus.1 h))
  | inr plain ↦ rw (plain.0, index_value-ok (c ∷ cs) n h) (ap Some (sym e))
]
number_value-ok (c ∷ cs) z (inr (digits, n, same, h, e)) =
    let head : c ≡ 45 = cc in
    let tail : cs ≡ digits = cc in
    rw (head, tail, index_value-ok digits n h) (ap Some (sym e))

-- a word that is read as a number writes it
pub number_value-is : (word : List ℕ) (z : ℤ) → number_value word ≡ Some z → IsNumber word z
unfolding number_value
number_value-is [] z e = cc
number_value-is (c ∷ cs) z e = elim (eqb_tells c 45) [
  | inl minus ↦ (let m = map_some (λ n. neg_ℤ (pos n)) (index_value cs) z (rw minus.0 at e) in
      inr (cs, m.0, ap (λ b. b ∷ cs) minus.1, index_value-is cs m.0 m.1, m.2))
  | inr plain ↦ (let m = map_some pos (index_value (c ∷ cs)) z (rw plain.0 at e) in
      inl (m.0, index_value-is (c ∷ cs) m.0 m.1, m.2))
]
