-- How many pairs a relation has.
-- Lemmas: same_length, same_number, has_pairs_as, no_pairs, listed_pairs, one_more, both, renamed.
use Rattle.std.proofs.Common.{◌≡◌, ◌⊎◌, ◌↔◌, ◌+◌, [], ◌∷◌, ◌∙◌}
use Rattle.std.proofs.Common.{ℕ, suc, List, length, refl, sym, ap, subst, inl, inr, arith}
use Rattle.std.specs.Prelude.{Contains, All}
use Rattle.std.proofs.lemmas.List.Elements.{All-contains_itself}
use Rattle.std.proofs.lemmas.List.Kept.{AllPairs-cons}
use Rattle.plane.specs.{AreDifferent, EachPairOnce, IsSamePair, Joins}
use Rattle.plane.proofs.{turned_join}
use Rattle.plane_theorems.proofs.Delaunay.Floods.FloodRules.{flood_is_bounded}
use Rattle.plane_theorems.proofs.Delaunay.Points.Members.{contained, Member, member}
use Rattle.{delaunay_edit.specs.HasPairs, delaunay_legalization.proofs.no_joins}

-- ---- the number is one
-- lists that join the same vertices, each pair once, are equally long
pub same_length : (xs ys : List (ℕ × ℕ)) → EachPairOnce xs → EachPairOnce ys →
    ((a b : ℕ) → Joins xs a b ↔ Joins ys a b) → length xs ≡ length ys
same_length xs ys once also same =
    let up = flood_is_bounded ys xs once (λ a b h. (same a b).0 h) in
    let down = flood_is_bounded xs ys also (λ a b h. (same a b).1 h) in
    omega (arith, up, down)

-- two relations that hold of the same pairs have as many
pub same_number : {J K : ℕ → ℕ → Type 0} {n m : ℕ} → HasPairs J n → HasPairs K m
    → ((a b : ℕ) → J a b ↔ K a b) → n ≡ m
same_number h k same = sym h.count ∙ same_length h.pairs k.pairs h.once k.once
    (λ a b. (
      (λ x. (k.exact a b).1 ((same a b).0 ((h.exact a b).0 x))),
      (λ x. (h.exact a b).1 ((same a b).1 ((k.exact a b).0 x))),
    )) ∙ k.count

-- a relation that holds of the same pairs has their number
pub has_pairs_as : {J K : ℕ → ℕ → Type 0} {n : ℕ} → HasPairs J n → ((a b : ℕ) → J a b ↔ K a b)
    → HasPairs K n
has_pairs_as h same = record {
  pairs = h.pairs;
  count = h.count;
  once = h.once;
  exact = λ a b. ((λ x. (same a b).0 ((h.exact a b).0 x)), (λ x. (h.exact a b).1 ((same a b).1 x)));
}

-- ---- none, those of a list, and one more
-- a relation that holds of no pair has none
pub no_pairs : {J : ℕ → ℕ → Type 0} → ((a b : ℕ) → ¬ J a b) → HasPairs J 0
no_pairs none = record {
  pairs = [];
  count = refl;
  once = λ i j d less within. absurd (omega (arith, within));
  exact = λ a b. ((λ h. absurd (no_joins a b h)), (λ h. absurd (none a b h)));
}

-- a list that has each pair once has as many pairs as entries
pub listed_pairs : (ps : List (ℕ × ℕ)) → EachPairOnce ps → HasPairs (Joins ps) (length ps)
listed_pairs ps once =
    record { pairs = ps; count = refl; once = once; exact = λ a b. ((λ h. h), (λ h. h)) }

same_ends : (x y a b : ℕ) → (let p : ℕ × ℕ = (a, b) in let q : ℕ × ℕ = (x, y) in p ≡ q)
    → (x ≡ a) × (y ≡ b)
same_ends x y a b e = (ap (λ (p : ℕ × ℕ). p.0) (sym e), ap (λ (p : ℕ × ℕ). p.1) (sym e))

joins_more : (a b : ℕ) (ps : List (ℕ × ℕ)) (x y : ℕ) → Joins ((a, b) ∷ ps) x y
    ↔ (Joins ps x y ⊎ IsSamePair x y a b)
joins_more a b ps x y = ((λ h. forth h), (λ h. back h))
  where
    first : Member (x, y) ((a, b) ∷ ps) → Joins ps x y ⊎ IsSamePair x y a b
    first (inl e) = inr (inl (same_ends x y a b e))
    first (inr m) = inl (inl (contained (x, y) ps m))

    second : Member (y, x) ((a, b) ∷ ps) → Joins ps x y ⊎ IsSamePair x y a b
    second (inl e) = let s = same_ends y x a b e in inr (inr (s.1, s.0))
    second (inr m) = inl (inr (contained (y, x) ps m))

    forth : Joins ((a, b) ∷ ps) x y → Joins ps x y ⊎ IsSamePair x y a b
    forth (inl h) = first (member (x, y) ((a, b) ∷ ps) h)
    forth (inr h) = second (member (y, x) ((a, b) ∷ ps) h)

    back : Joins ps x y ⊎ IsSamePair x y a b → Joins ((a, b) ∷ ps) x y
    back (inl (inl h)) = inl (contained (x, y) ((a, b) ∷ ps) (inr (member (x, y) ps h)))
    back (inl (inr h)) = inr (contained (y, x) ((a, b) ∷ ps) (inr (member (y, x) ps h)))
    back (inr (inl s)) = inl (contained (x, y) ((a, b) ∷ ps) (inl (λ i. (sym s.0 i, sym s.1 i))))
    back (inr (inr s)) = inr (contained (y, x) ((a, b) ∷ ps) (inl (λ i. (sym s.1 i, sym s.0 i))))

-- a pair that is not in the list comes before it
more_once : (a b : ℕ) (ps : List (ℕ × ℕ)) → EachPairOnce ps → ¬ Joins ps a b
    → EachPairOnce ((a, b) ∷ ps)
more_once a b ps once new =
    AllPairs-cons AreDifferent (a, b) ps (λ k d within. apart k d within) once
  where
    joined : (q : ℕ × ℕ) → Contains ps q → IsSamePair a b q.0 q.1 → Joins ps a b
    joined q c (inl s) = inl (subst (λ (p : ℕ × ℕ). Contains ps p) (λ i. (sym s.0 i, sym s.1 i)) c)
    joined q c (inr s) = inr (subst (λ (p : ℕ × ℕ). Contains ps p) (λ i. (sym s.1 i, sym s.0 i)) c)

    listed : All (λ q. AreDifferent (a, b) q) ps
    listed k d within = λ same. new (joined _ (All-contains_itself ps k d within) same)

    apart : All (AreDifferent (a, b)) ps
    apart k d within = listed k d within

-- a pair that was not there makes one more
pub one_more : {J : ℕ → ℕ → Type 0} {n : ℕ} → HasPairs J n → (a b : ℕ) → ¬ J a b →
    HasPairs (λ x y. J x y ⊎ IsSamePair x y a b) (suc n)
one_more {J} {n} h a b new = record {
  pairs = (a, b) ∷ h.pairs;
  count = ap suc h.count;
  once = more_once a b h.pairs h.once (λ j. new ((h.exact a b).0 j));
  exact = λ x y. (
    (λ j. elim
        ((joins_more a b h.pairs x y).0 j) [ inl i ↦ inl ((h.exact x y).0 i) | inr s ↦ inr s ]),
    (λ j. (joins_more a b h.pairs x y).1
        (elim j [ inl i ↦ inl ((h.exact x y).1 i) | inr s ↦ inr s ])),
  );
}

-- ---- of two relations without a common pair
tail_once : (p : ℕ × ℕ) (ps : List (ℕ × ℕ)) → EachPairOnce (p ∷ ps) → EachPairOnce ps
tail_once p ps once i j d less within =
    once (suc i) (suc j) d (omega (arith, less)) (omega (arith, within))

head_new : (a b : ℕ) (ps : List (ℕ × ℕ)) → EachPairOnce ((a, b) ∷ ps) → ¬ Joins ps a b
head_new a b ps once (inl c) = once 0 (suc c.0) (a, b) (omega arith) (omega (arith, c.1))
    (inl (ap (λ (p : ℕ × ℕ). p.0) (sym c.2), ap (λ (p : ℕ × ℕ). p.1) (sym c.2)))
head_new a b ps once (inr c) = once 0 (suc c.0) (b, a) (omega arith) (omega (arith, c.1))
    (inr (ap (λ (p : ℕ × ℕ). p.1) (sym c.2), ap (λ (p : ℕ × ℕ). p.0) (sym c.2)))

and_listed : {J : ℕ → ℕ → Type 0} {n : ℕ} → HasPairs J n → (ps : List (ℕ × ℕ)) → EachPairOnce ps →
    ((a b : ℕ) → Joins ps a b → ¬ J a b) → HasPairs (λ a b. J a b ⊎ Joins ps a b) (length ps + n)
and_listed {J} {n} h [] once apart =
    subst (λ (m : ℕ). HasPairs (λ a b. J a b ⊎ Joins [] a b) m) (omega arith)
    (has_pairs_as h
    (λ a b. ((λ x. inl x), (λ x. elim x [ inl y ↦ y | inr y ↦ absurd (no_joins a b y) ]))))
and_listed {J} {n} h (p ∷ ps) once apart =
    let rest : HasPairs (λ a b. J a b ⊎ Joins ps a b) (length ps + n) =
    and_listed h ps (tail_once p ps once)
    (λ a b j. apart a b ((joins_more p.0 p.1 ps a b).1 (inl j))) in
    let more :
    HasPairs (λ x y. (J x y ⊎ Joins ps x y) ⊎ IsSamePair x y p.0 p.1) (suc (length ps + n)) =
    one_more rest p.0 p.1 (λ x. elim x as (λ _. ⊥) [
      | inl y ↦ apart p.0 p.1 ((joins_more p.0 p.1 ps p.0 p.1).1 (inr (inl (refl, refl)))) y
      | inr y ↦ head_new p.0 p.1 ps once y
    ]) in
    subst (λ (m : ℕ). HasPairs (λ a b. J a b ⊎ Joins (p ∷ ps) a b) m) (omega arith)
    (has_pairs_as more (λ a b. (
      (λ x. elim x [
        | inl y ↦ elim y [ inl z ↦ inl z | inr z ↦ inr ((joins_more p.0 p.1 ps a b).1 (inl z)) ]
        | inr s ↦ inr ((joins_more p.0 p.1 ps a b).1 (inr s))
      ]),
      (λ x. elim x [
        | inl y ↦ inl (inl y)
        | inr y ↦ elim ((joins_more p.0 p.1 ps a b).0 y) [
          | inl z ↦ inl (inr z)
          | inr s ↦ inr s
        ]
      ]),
    )))

-- two relations without a common pair have the sum of their numbers
pub both : {J K : ℕ → ℕ → Type 0} {n m : ℕ} → HasPairs J n → HasPairs K m
    → ((a b : ℕ) → K a b → ¬ J a b) → HasPairs (λ a b. J a b ⊎ K a b) (m + n)
both {J} {K} {n} {m} h k apart =
    subst (λ (l : ℕ). HasPairs (λ a b. J a b ⊎ K a b) (l + n)) k.count
    (has_pairs_as (and_listed h k.pairs k.once (λ a b j. apart a b ((k.exact a b).0 j))) (λ a b. (
      (λ x. elim x [ inl y ↦ inl y | inr y ↦ inr ((k.exact a b).0 y) ]),
      (λ x. elim x [ inl y ↦ inl y | inr y ↦ inr ((k.exact a b).1 y) ]),
    )))

-- ---- under other names
-- where different ends get different names, there are as many pairs by their names
pub renamed : (f : ℕ → ℕ) (ps : List (ℕ × ℕ)) → EachPairOnce ps →
    ((a b c d : ℕ) → Joins ps a b → Joins ps c d → f a ≡ f c → a ≡ c) →
    HasPairs (λ a b. (x : ℕ) × (y : ℕ) × Joins ps x y × IsSamePair a b (f x) (f y)) (length ps)
renamed f [] once keeps = no_pairs (λ a b h. no_joins h.0 h.1 h.2)
renamed f (p ∷ ps) once keeps =
    let rest = renamed f ps (tail_once p ps once)
    (λ a b c d h k. keeps a b c d (later a b h) (later c d k)) in
    has_pairs_as (one_more rest (f p.0) (f p.1)
    (λ h. head_new p.0 p.1 ps once (turned h.0 h.1 h.2 h.3))) (λ a b. (
      (λ x. elim x [
        | inl h ↦ (h.0, h.1, later h.0 h.1 h.2, h.3)
        | inr s ↦ (p.0, p.1, (joins_more p.0 p.1 ps p.0 p.1).1 (inr (inl (refl, refl))), s)
      ]),
      (λ h. elim ((joins_more p.0 p.1 ps h.0 h.1).0 h.2) [
        | inl j ↦ inl (h.0, h.1, j, h.3)
        | inr s ↦ inr (through h.0 h.1 a b s h.3)
      ]),
    ))
  where
    later : (a b : ℕ) → Joins ps a b → Joins (p ∷ ps) a b
    later a b h = (joins_more p.0 p.1 ps a b).1 (inl h)

    here : Joins (p ∷ ps) p.0 p.1
    here = (joins_more p.0 p.1 ps p.0 p.1).1 (inr (inl (refl, refl)))

    turned : (x y : ℕ) → Joins ps x y → IsSamePair (f p.0) (f p.1) (f x) (f y) → Joins ps p.0 p.1
    turned x y h (inl s) = subst (λ (q : ℕ × ℕ). Joins ps q.0 q.1)
        (λ i. (
          keeps x y p.0 p.1 (later x y h) here (sym s.0) i,
          keeps y x p.1 p.0 (turned_join (p ∷ ps) x y (later x y h))
              (turned_join (p ∷ ps) p.0 p.1 here) (sym s.1) i,
        )) h
    turned x y h (inr s) = subst (λ (q : ℕ × ℕ). Joins ps q.0 q.1)
        (λ i. (
          keeps y x p.0 p.1 (turned_join (p ∷ ps) x y (later x y h)) here (sym s.0) i,
          keeps x y p.1 p.0 (later x y h) (turned_join (p ∷ ps) p.0 p.1 here) (sym s.1) i,
        )) (turned_join ps x y h)

    through : (x y a b : ℕ) → IsSamePair x y p.0 p.1 → IsSamePair a b (f x) (f y)
        → IsSamePair a b (f p.0) (f p.1)
    through x y a b (inl s) (inl t) = inl (t.0 ∙ ap f s.0, t.1 ∙ ap f s.1)
    through x y a b (inl s) (inr t) = inr (t.0 ∙ ap f s.1, t.1 ∙ ap f s.0)
    through x y a b (inr s) (inl t) = inr (t.0 ∙ ap f s.0, t.1 ∙ ap f s.1)
    through x y a b (inr s) (inr t) = inl (t.0 ∙ ap f s.1, t.1 ∙ ap f s.0)
