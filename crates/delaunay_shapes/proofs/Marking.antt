-- Lists of what a test says of the numbers below a count: at a number, of a test that none passes,
-- and with one more. And bits in pages that a directory names, as one more is set.
-- Lemmas: mark_read, none_passes, one_more, others_longer, no_places, entry_read, pages_below,
-- names_new_page, no_page, same_with_page, page_read, one_mark_more.
use Rattle.std.proofs.Common.{◌≡◌, ◌⊎◌, ◌-◌, ◌/◌, ◌%◌, ◌<◌, ◌≤◌, ◌∙◌}
use Rattle.std.proofs.Common.{[], ◌∷◌, ◌++◌, List, ℕ, zero, suc, length, get_or, set, take}
use Rattle.std.proofs.Common.{replicate, refl, sym, ap, subst, eq-eqb, arith}
use mathlib.Core.Logic.{inl, inr, ◌≢◌}
use mathlib.Core.Bool.{Bool, true, false}
use Rattle.std.specs.Prelude.{cond, nat_eq}
use Rattle.std.proofs.lemmas.Bool.{eqb-true, ne_eqb, cases_eq}
use Rattle.std.proofs.lemmas.List.{ext_get_or, get_or-set_same, get_or-set_other}
use Rattle.std.proofs.lemmas.List.{get_or_append_left, get_or-append_right, length-append}
use Rattle.std.proofs.lemmas.List.{length-set, length-replicate, get_or-replicate}
use Rattle.std.proofs.lemmas.List.FromFn.{length-map-range_with_len, get_or-map-range_with_len}
use Rattle.{delaunay_legalization.specs.has_bit, plane_theorems.proofs.get_or_any}
use Rattle.delaunay_legalization.proofs.Bits.{no_bit, no_bits}
use Rattle.delaunay_shapes.specs.{has_mark}
use Rattle.delaunay_shapes.specs.Marks.{count_others, IsDirectory, tests_below}

-- so many entries
tests_count : (n : ℕ) (f : ℕ → Bool) → length (tests_below n f) ≡ n
tests_count n f = length-map-range_with_len f 0 n

below_count : (n m k : ℕ) → m ≡ n → k < m → k < n
below_count n m k e h = omega (arith, e, h)

-- the entry at a number is what the test says of it
test_at : (n : ℕ) (f : ℕ → Bool) (k : ℕ) → k < n → get_or (tests_below n f) k false ≡ f k
test_at n f k h = get_or-map-range_with_len f 0 n k k false h (omega arith)

-- the entry at a place of the list is what the test says of this number
test_within : (n : ℕ) (f : ℕ → Bool) (k : ℕ) → k < length (tests_below n f)
    → get_or (tests_below n f) k false ≡ f k
test_within n f k h = test_at n f k (below_count n (length (tests_below n f)) k (tests_count n f) h)

-- so it is at a number that is read in what a contract sees of marks
pub mark_read : {marks : List Bool} {k : ℕ} (n : ℕ) (f : ℕ → Bool) → tests_below n f ≡ marks
    → k < length marks → get_or marks k false ≡ f k
mark_read {k = k} n f same = subst (λ xs. k < length xs → get_or xs k false ≡ f k) same
    (test_within n f k)

-- a test that none passes
pub none_passes : (n : ℕ) (f : ℕ → Bool) → ((k : ℕ) → f k ≡ false)
    → tests_below n f ≡ replicate n false
none_passes n f none =
    ext_get_or false (tests_below n f) (replicate n false)
    (tests_count n f ∙ sym (length-replicate n false)) same
  where
    same : (i : ℕ) → i < length (tests_below n f)
        → get_or (tests_below n f) i false ≡ get_or (replicate n false) i false
    same i h =
        let w = below_count n (length (tests_below n f)) i (tests_count n f) h in
        test_within n f i h ∙ none i ∙ sym (get_or-replicate n i false false w)

-- a test that one number more passes
pub one_more : (n : ℕ) (f f' : ℕ → Bool) (k : ℕ) → ((q : ℕ) → f' q ≡ cond (nat_eq k q) true (f q))
    → tests_below n f' ≡ set (tests_below n f) k true
one_more n f f' k more =
    ext_get_or false (tests_below n f') (set old k true)
    (tests_count n f' ∙ sym (length-set old k true ∙ tests_count n f)) same
  where
    old : List Bool
    old = tests_below n f

    was : (i : ℕ) → i < n → (nat_eq k i ≡ true) ⊎ (nat_eq k i ≡ false)
        → get_or (tests_below n f') i false ≡ get_or (set old k true) i false
    was i h (inl e) =
        let is : k ≡ i = eqb-true k i e in
        let now : f' i ≡ true = subst (λ b. f' i ≡ cond b true (f i)) e (more i) in
        let w = below_count (length old) n i (sym (tests_count n f)) h in
        let there : get_or (set old i true) i false ≡ true = get_or-set_same old i true false w in
        test_at n f' i h ∙ now
        ∙ sym (subst (λ x. get_or (set old x true) i false ≡ true) (sym is) there)
    was i h (inr e) =
        let now : f' i ≡ f i = subst (λ b. f' i ≡ cond b true (f i)) e (more i) in
        let apart : i ≢ k = λ same. let t : nat_eq k i ≡ true = eq-eqb k i (sym same) in
        absurd (cc) in
        test_at n f' i h ∙ now ∙ sym (get_or-set_other old k i true false apart ∙ test_at n f i h)

    either : (b : Bool) → (b ≡ true) ⊎ (b ≡ false)
    either true = inl refl
    either false = inr refl

    same : (i : ℕ) → i < length (tests_below n f')
        → get_or (tests_below n f') i false ≡ get_or (set old k true) i false
    same i h = was i (below_count n (length (tests_below n f')) i (tests_count n f') h)
        (either (nat_eq k i))

-- ---- how many numbers of a list are not 0
no_others : (m : ℕ) → count_others (replicate m 0) ≡ 0
no_others zero = refl
no_others (suc m) = no_others m

-- as many with more that are 0
pub others_longer : (xs : List ℕ) (n m : ℕ) → length xs ≤ n
    → count_others (take n xs ++ replicate m 0) ≡ count_others xs
others_longer [] zero m h = no_others m
others_longer [] (suc n) m h = no_others m
others_longer (x ∷ xs) zero m h = absurd (omega (arith, h))
others_longer (zero ∷ xs) (suc n) m h = others_longer xs n m (omega (arith, h))
others_longer (suc x ∷ xs) (suc n) m h =
    ap (λ (c : ℕ). suc c) (others_longer xs n m (omega (arith, h)))

-- fewer than there are numbers, where one is 0
others_below : (xs : List ℕ) (p : ℕ) → p < length xs → get_or xs p 0 ≡ 0
    → count_others xs < length xs
others_below [] p h e = absurd (omega (arith, h))
others_below (zero ∷ xs) zero h e = let few = others_at_most xs in omega (arith, few)
  where
    others_at_most : (xs : List ℕ) → count_others xs ≤ length xs
    others_at_most [] = omega arith
    others_at_most (zero ∷ xs) = let few = others_at_most xs in omega (arith, few)
    others_at_most (suc x ∷ xs) = let few = others_at_most xs in omega (arith, few)
others_below (suc x ∷ xs) zero h e = absurd (omega (arith, e))
others_below (zero ∷ xs) (suc p) h e =
    let few = others_below xs p (omega (arith, h)) e in omega (arith, few)
others_below (suc x ∷ xs) (suc p) h e =
    let few = others_below xs p (omega (arith, h)) e in omega (arith, few)

-- one more where it is no longer 0
others_more : (xs : List ℕ) (p n : ℕ) → p < length xs → get_or xs p 0 ≡ 0
    → count_others (set xs p (suc n)) ≡ suc (count_others xs)
others_more [] p n h e = absurd (omega (arith, h))
others_more (zero ∷ xs) zero n h e = refl
others_more (suc x ∷ xs) zero n h e = absurd (omega (arith, e))
others_more (zero ∷ xs) (suc p) n h e = others_more xs p n (omega (arith, h)) e
others_more (suc x ∷ xs) (suc p) n h e =
    ap (λ (c : ℕ). suc c) (others_more xs p n (omega (arith, h)) e)

-- ---- pages of words, and their directory
-- none, and no directory, is one
pub no_places : IsDirectory [] []
no_places = record {
  within = λ p. omega arith;
  once = λ p q h e. absurd (omega (arith, h));
  used = refl;
  short = omega arith;
}

-- the entry of a place as it was read
pub entry_read : (places : List ℕ) (p e : ℕ) → p < length places → e ≡ get_or places p e
    → get_or places p 0 ≡ e
entry_read places p e here read = sym (read ∙ get_or_any places p e 0 here)

-- there are fewer pages than places, where one has none
pub pages_below : (places : List ℕ) (pages : List (List ℕ)) (p : ℕ) → IsDirectory places pages
    → p < length places → get_or places p 0 ≡ 0 → length pages < 8388608
pages_below places pages p d h e =
    let few = others_below places p h e in let used = d.used in let short = d.short in
    omega (arith, few, used, short)

-- a page more, of a place that had none
pub names_new_page : (places : List ℕ) (pages : List (List ℕ)) (p : ℕ) (page : List ℕ)
    → IsDirectory places pages → p < length places → get_or places p 0 ≡ 0
    → IsDirectory (set places p (suc (length pages))) (pages ++ page ∷ [])
names_new_page places pages p page d here none = record {
  within = λ q. subst (λ (n : ℕ). get_or now q 0 ≤ n) (sym count) (bound q (cases_eq q p));
  once = λ q r h e. one q r h e (cases_eq q p) (cases_eq r p);
  used = count ∙ ap (λ (n : ℕ). suc n) d.used ∙ sym (others_more places p (length pages) here none);
  short = subst (λ (n : ℕ). n ≤ 8388608) (sym (length-set places p (suc (length pages)))) d.short;
}
  where
    now : List ℕ
    now = set places p (suc (length pages))

    count : length (pages ++ page ∷ []) ≡ suc (length pages)
    count = let both = length-append pages (page ∷ []) in omega (arith, both)

    embedding : get_or now p 0 ≡ suc (length pages)
    embedding = get_or-set_same places p (suc (length pages)) 0 here

    other : (q : ℕ) → q ≢ p → get_or now q 0 ≡ get_or places q 0
    other q a = get_or-set_other places p q (suc (length pages)) 0 a

    at_p : (q : ℕ) → q ≡ p → get_or now q 0 ≡ suc (length pages)
    at_p q e = ap (λ (x : ℕ). get_or now x 0) e ∙ embedding

    bound : (q : ℕ) → (q ≡ p) ⊎ (q ≢ p) → get_or now q 0 ≤ suc (length pages)
    bound q (inl e) = let is = at_p q e in omega (arith, is)
    bound q (inr a) = let is = other q a in let old = d.within q in omega (arith, is, old)

    one : (q r : ℕ) → 0 < get_or now q 0 → get_or now q 0 ≡ get_or now r 0
        → (q ≡ p) ⊎ (q ≢ p) → (r ≡ p) ⊎ (r ≢ p) → q ≡ r
    one q r h e (inl f) (inl g) = f ∙ sym g
    one q r h e (inl f) (inr b) =
        let is = at_p q f in let was = other r b in let old = d.within r in
        absurd (omega (arith, e, is, was, old))
    one q r h e (inr a) (inl g) =
        let is = at_p r g in let was = other q a in let old = d.within q in
        absurd (omega (arith, e, is, was, old))
    one q r h e (inr a) (inr b) =
        let was = other q a in
        d.once q r (omega (arith, h, was)) (sym was ∙ e ∙ other r b)

-- a place without a page has no marks
pub no_page : (places : List ℕ) (pages : List (List ℕ)) (n : ℕ) → get_or places (n / 512) 0 ≡ 0
    → has_mark places pages n ≡ false
no_page places pages n none =
    ap (λ (e : ℕ). has_bit (get_or ([] ∷ pages) e []) (n % 512)) none ∙ no_bit (n % 512)

-- with a page more that has no bit set the same numbers are marked
pub same_with_page : (places : List ℕ) (pages : List (List ℕ)) (p : ℕ)
    → IsDirectory places pages → p < length places → get_or places p 0 ≡ 0 → (k : ℕ)
    → has_mark (set places p (suc (length pages))) (pages ++ replicate 8 0 ∷ []) k
    ≡ has_mark places pages k
same_with_page places pages p d here none k = either (cases_eq (k / 512) p)
  where
    now : List ℕ
    now = set places p (suc (length pages))

    more : List (List ℕ)
    more = pages ++ replicate 8 0 ∷ []

    at_page : ℕ → Bool
    at_page e = has_bit (get_or ([] ∷ more) e []) (k % 512)

    self_less : length pages - length pages ≡ 0
    self_less = omega arith

    last : get_or ([] ∷ more) (suc (length pages)) [] ≡ replicate 8 0
    last = get_or-append_right pages (replicate 8 0 ∷ []) (length pages) (length pages) [] refl
        (omega arith)
        ∙ ap (λ (i : ℕ). get_or (replicate 8 0 ∷ []) i []) self_less

    either : (k / 512 ≡ p) ⊎ (k / 512 ≢ p) → has_mark now more k ≡ has_mark places pages k
    either (inl e) =
        ap at_page (ap (λ (x : ℕ). get_or now x 0) e
        ∙ get_or-set_same places p (suc (length pages)) 0 here)
        ∙ ap (λ xs. has_bit xs (k % 512)) last ∙ no_bits 8 (k % 512)
        ∙ sym (no_page places pages k (ap (λ (x : ℕ). get_or places x 0) e ∙ none))
    either (inr a) =
        ap at_page (get_or-set_other places p (k / 512) (suc (length pages)) 0 a)
        ∙ ap (λ xs. has_bit xs (k % 512)) (get_or_append_left ([] ∷ pages) (replicate 8 0 ∷ []) []
        (get_or places (k / 512) 0) (let old = d.within (k / 512) in omega (arith, old)))

-- whether a number is marked, by the page of its place
pub page_read : (places : List ℕ) (pages : List (List ℕ)) (n e : ℕ) (page : List ℕ)
    → IsDirectory places pages → get_or places (n / 512) 0 ≡ suc e → page ≡ get_or pages e page
    → has_bit page (n % 512) ≡ has_mark places pages n
page_read places pages n e page d named read =
    ap (λ xs. has_bit xs (n % 512)) (read ∙ get_or_any pages e page [] here)
    ∙ sym (ap (λ (x : ℕ). has_bit (get_or ([] ∷ pages) x []) (n % 512)) named)
  where
    here : e < length pages
    here = let old = d.within (n / 512) in omega (arith, old, named)

-- pages of which one has the bit of a number more
pub one_mark_more : (places : List ℕ) (pages : List (List ℕ)) (n e : ℕ) (page page' : List ℕ)
    → IsDirectory places pages → get_or places (n / 512) 0 ≡ suc e → e < length pages
    → page ≡ get_or pages e page
    → ((k : ℕ) → has_bit page' k ≡ cond (nat_eq (n % 512) k) true (has_bit page k))
    → (k : ℕ) → has_mark places (set pages e page') k
    ≡ cond (nat_eq n k) true (has_mark places pages k)
one_mark_more places pages n e page page' d named here read marks k =
    by_place (cases_eq (k / 512) (n / 512))
  where
    same_in_page : k / 512 ≡ n / 512 → n % 512 ≡ k % 512 → n ≡ k
    same_in_page f g = omega (arith, f, g)

    both : k / 512 ≡ n / 512 → nat_eq (n % 512) (k % 512) ≡ nat_eq n k
    both f = elim (cases_eq n k) [
      | inl g ↦ eq-eqb (n % 512) (k % 512) (ap (λ (x : ℕ). x % 512) g) ∙ sym (eq-eqb n k g)
      | inr a ↦ ne_eqb (n % 512) (k % 512) (λ g. a (same_in_page f g)) ∙ sym (ne_eqb n k a)
    ]

    at_entry : List (List ℕ) → ℕ → Bool
    at_entry xss x = has_bit (get_or ([] ∷ xss) x []) (k % 512)

    apart : (x : ℕ) → x ≢ suc e → at_entry (set pages e page') x ≡ at_entry pages x
    apart zero a = refl
    apart (suc x) a = ap (λ xs. has_bit xs (k % 512))
        (get_or-set_other pages e x page' [] (λ f. a (ap (λ (y : ℕ). suc y) f)))

    by_place : (k / 512 ≡ n / 512) ⊎ (k / 512 ≢ n / 512)
        → has_mark places (set pages e page') k ≡ cond (nat_eq n k) true (has_mark places pages k)
    by_place (inl f) =
        let entry = ap (λ (x : ℕ). get_or places x 0) f ∙ named in
        ap (at_entry (set pages e page')) entry
        ∙ ap (λ xs. has_bit xs (k % 512)) (get_or-set_same pages e page' [] here)
        ∙ marks (k % 512)
        ∙ ap (λ b. cond b true (has_bit page (k % 512))) (both f)
        ∙ ap (λ b. cond (nat_eq n k) true b) (page_read places pages k e page d entry read)
    by_place (inr o) =
        apart (get_or places (k / 512) 0) (λ f. o (sym (d.once (n / 512) (k / 512)
        (omega (arith, named)) (named ∙ sym f))))
        ∙ sym (ap (λ b. cond b true (has_mark places pages k))
        (ne_eqb n k (λ f. o (ap (λ (x : ℕ). x / 512) (sym f)))))
