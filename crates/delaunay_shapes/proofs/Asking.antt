-- Lists of what has a point in a shape, as they grow.
-- Notions: IsFilteredTo, AreAskedTo; below_other, filter_finds, filter_passes, none_asked,
-- rev_half, undirected_more, asked_inside, asked_outside, asked_before, goes_on_twice, asked_both,
-- ask_first,
-- ask_more, ask_last.
use Rattle.std.proofs.Common.{◌≡◌, ◌⊎◌, ◌↔◌, ◌+◌, ◌<◌, ◌≤◌, [], ◌∷◌, ◌++◌}
use Rattle.std.proofs.Common.{ℕ, List, length, get_or, replicate, set, refl}
use Rattle.std.proofs.Common.{sym, ap, ◌∙◌, subst, arith, append_assoc, ◌/◌}
use mathlib.Core.Logic.{inl, inr, ◌≢◌}
use mathlib.Core.Bool.{Bool, true, false}
use Rattle.std.specs.Prelude.{Contains}
use Rattle.std.proofs.lemmas.Bool.{cases_eq}
use Rattle.std.proofs.lemmas.Grind.{common_steps}
use Rattle.std.proofs.lemmas.List.{get_or-set_same, get_or-set_other, map-append}
use Rattle.std.proofs.lemmas.List.{length-set, length-replicate, get_or-replicate, append-nil}
use Rattle.std.proofs.lemmas.List.Elements.{Contains-append_cases}
use Rattle.half_edge_links.specs.{Mesh, next, prev, rev}
use Rattle.plane_theorems.proofs.{Contains-none, get_or_any, IsOnce, once_none}
use Rattle.delaunay_legalization.proofs.{contains_before, contains_last, once_after}
use Rattle.delaunay_legalization.proofs.WorkLists.{last_or_before}
use Rattle.delaunay_shapes.specs.{IsAsked, IsFlooding, Spreads, undirected_of}
use Rattle.delaunay_shapes.specs.Flood.{Asks, AsksBeside}

-- ---- a filter
-- of the numbers below i those that are inside, each once
pub record IsFilteredTo (Inside : ℕ → Type 0) (i : ℕ) (found : List ℕ) : Type 0 where
  pub once : IsOnce found
  pub exact : (k : ℕ) → Contains found k ↔ ((k < i) × Inside k)

below_more : (j i : ℕ) → j < i → j < i + 1
below_more j i h = omega (arith, h)

-- below the next number and another than this, so below this
pub below_other : (j i : ℕ) → j < i + 1 → j ≢ i → j < i
below_other j i h n = omega (arith, h, n)

at_last : (j i : ℕ) → j ≡ i → j < i + 1
at_last j i e = omega (arith, e)

not_below : (k i : ℕ) → k ≡ i → k < i → ⊥
not_below k i e h = omega (arith, e, h)

-- a filter that comes to a number inside has found this one, too
pub filter_finds : {Inside : ℕ → Type 0} {i k : ℕ} {found found' : List ℕ}
    → IsFilteredTo Inside i found → k ≡ i → Inside k → found' ≡ found ++ k ∷ []
    → IsFilteredTo Inside (i + 1) found'
filter_finds {Inside = Inside} {i = i} {k = k} {found = found} f is inside grown =
    subst (IsFilteredTo Inside (i + 1)) (sym grown)
    (record {
      once = once_after found k f.once (λ c. not_below k i is ((f.exact k).0 c).0);
      exact = λ j. (there j, back j);
    })
  where
    there : (j : ℕ) → Contains (found ++ k ∷ []) j → (j < i + 1) × Inside j
    there j c = elim (last_or_before found k j c) as (λ _. (j < i + 1) × Inside j) [
      | inl e ↦ (at_last j i (e ∙ is), subst Inside (sym e) inside)
      | inr d ↦ (below_more j i ((f.exact j).0 d).0, ((f.exact j).0 d).1)
    ]

    back : (j : ℕ) → (j < i + 1) × Inside j → Contains (found ++ k ∷ []) j
    back j p = elim (cases_eq j k) as (λ _. Contains (found ++ k ∷ []) j) [
      | inl e ↦ subst (Contains (found ++ k ∷ [])) (sym e) (contains_last found k)
      | inr n ↦
          contains_before found k j ((f.exact j).1 (below_other j i p.0 (λ e. n (e ∙ sym is)), p.1))
    ]

-- a filter that comes to a number outside has found what it had
pub filter_passes : {Inside : ℕ → Type 0} {i k : ℕ} {found : List ℕ} → IsFilteredTo Inside i found
    → k ≡ i → ¬ Inside k → IsFilteredTo Inside (i + 1) found
filter_passes {Inside = Inside} {i = i} {k = k} {found = found} f is out =
    record { once = f.once; exact = λ j. (there j, back j) }
  where
    there : (j : ℕ) → Contains found j → (j < i + 1) × Inside j
    there j c = (below_more j i ((f.exact j).0 c).0, ((f.exact j).0 c).1)

    back : (j : ℕ) → (j < i + 1) × Inside j → Contains found j
    back j p = elim (cases_eq j k) as (λ _. Contains found j) [
      | inl e ↦ absurd (out (subst Inside e p.1))
      | inr n ↦ (f.exact j).1 (below_other j i p.0 (λ e. n (e ∙ sym is)), p.1)
    ]

-- ---- a flood before its first question
-- a flood begins with nothing asked of and nothing found
pub none_asked : (Inside : ℕ → Type 0) (count n : ℕ) (asked : List Bool) (found : List ℕ)
    → asked ≡ replicate n false → n ≡ count → found ≡ [] → IsFlooding Inside count asked found
none_asked Inside count n asked found a e f =
    subst (λ (c : ℕ). IsFlooding Inside c asked found) e
    (subst (λ xs. IsFlooding Inside n xs found) (sym a)
    (subst (IsFlooding Inside n (replicate n false)) (sym f) (record {
      marks = length-replicate n false;
      once = once_none;
      within = λ k c. absurd (Contains-none k c);
      inside = λ k c. absurd (Contains-none k c);
      marked = λ k c. absurd (Contains-none k c);
      complete = λ k h m p. let same : false ≡ true =
          sym (get_or-replicate n k false false h) ∙ m in absurd (cc);
    })))

-- ---- a question of a flood
-- both directions have one undirected edge
pub rev_half : (h : ℕ) → rev h / 2 ≡ h / 2
rev_half h = grind (arith, common_steps)

-- with one more directed edge there is its undirected edge more
pub undirected_more : (found : List ℕ) {found' : List ℕ} (h : ℕ) {k : ℕ} → found' ≡ found ++ h ∷ []
    → h / 2 ≡ k
    → undirected_of found' ≡ undirected_of found ++ k ∷ []
undirected_more found h grown e = ap undirected_of grown
    ∙ map-append (λ (x : ℕ). x / 2) found (h ∷ [])
    ∙ ap (λ (x : ℕ). undirected_of found ++ x ∷ []) e

module _ (Inside : ℕ → Type 0) (count : ℕ) where
  marks_more : (asked : List Bool) (k j : ℕ) → k < length asked → IsAsked asked j
      → IsAsked (set asked k true) j
  marks_more asked k j w h = elim (cases_eq j k) as (λ _. IsAsked (set asked k true) j) [
    | inl e ↦ subst (IsAsked (set asked k true)) (sym e) (get_or-set_same asked k true false w)
    | inr n ↦ get_or-set_other asked k j true false n ∙ h
  ]

  marks_other : (asked : List Bool) (k j : ℕ) → j ≢ k → IsAsked (set asked k true) j
      → IsAsked asked j
  marks_other asked k j n h = sym (get_or-set_other asked k j true false n) ∙ h

  -- with one more that is inside
  with_inside : (asked : List Bool) (found : List ℕ) (k : ℕ) → IsFlooding Inside count asked found
      → k < count → ¬ IsAsked asked k → Inside k
      → IsFlooding Inside count (set asked k true) (found ++ k ∷ [])
  with_inside asked found k f w new inside =
      let here : k < length asked = let l = f.marks in omega (arith, l, w) in
      record {
        marks = length-set asked k true ∙ f.marks;
        once = once_after found k f.once (λ c. new (f.marked k c));
        within = λ j c. elim (last_or_before found k j c) as
            (λ _. j < count)
            [ inl e ↦ subst (λ (x : ℕ). x < count) (sym e) w | inr d ↦ f.within j d ];
        inside = λ j c. elim (last_or_before found k j c) as (λ _. Inside j) [
          | inl e ↦ subst Inside (sym e) inside
          | inr d ↦ f.inside j d
        ];
        marked = λ j c. elim (last_or_before found k j c) as
            (λ _. IsAsked (set asked k true) j) [
              | inl e ↦ subst (IsAsked (set asked k true)) (sym e)
                  (get_or-set_same asked k true false here)
              | inr d ↦ marks_more asked k j here (f.marked j d)
            ];
        complete = λ j h m p. elim (cases_eq j k) as (λ _. Contains (found ++ k ∷ []) j) [
          | inl e ↦ subst (Contains (found ++ k ∷ [])) (sym e) (contains_last found k)
          | inr n ↦ contains_before found k j (f.complete j h (marks_other asked k j n m) p)
        ];
      }

  -- asked of now, and inside, its other side is found
  pub asked_inside : (asked asked' : List Bool) (found found' : List ℕ) (h : ℕ)
      → IsFlooding Inside count asked (undirected_of found) → h / 2 < count
      → ¬ IsAsked asked (h / 2) → Inside (h / 2) → asked' ≡ set asked (h / 2) true
      → found' ≡ found ++ rev h ∷ []
      → Asks Inside count asked asked' found found' h
  asked_inside asked asked' found found' h f w new inside e grown =
      let here : h / 2 < length asked = let l = f.marks in omega (arith, l, w) in
      subst (λ a. Asks Inside count asked a found found' h) (sym e)
      (subst (λ xs. Asks Inside count asked (set asked (h / 2) true) found xs h) (sym grown)
      (record {
        flooding = subst (IsFlooding Inside count (set asked (h / 2) true))
            (sym (undirected_more found {found' = found ++ rev h ∷ []} (rev h) refl (rev_half h)))
            (with_inside asked (undirected_of found) (h / 2) f w new inside);
        on = record {
          kept = λ j c. marks_more asked (h / 2) j here c;
          more = rev h ∷ [];
          grown = refl;
        };
        there = get_or-set_same asked (h / 2) true false here;
        only = λ g c. elim (last_or_before [] (rev h) g c) as (λ _. g ≡ rev h) [
          | inl d ↦ d
          | inr d ↦ absurd (Contains-none g d)
        ];
      }))

  -- asked of now, and not inside, it is not found
  pub asked_outside : (asked asked' : List Bool) (found : List ℕ) (h : ℕ)
      → IsFlooding Inside count asked (undirected_of found) → h / 2 < count → ¬ Inside (h / 2)
      → asked' ≡ set asked (h / 2) true → Asks Inside count asked asked' found found h
  asked_outside asked asked' found h f w out e =
      let here : h / 2 < length asked = let l = f.marks in omega (arith, l, w) in
      subst (λ a. Asks Inside count asked a found found h) (sym e) (record {
        flooding = record {
          marks = length-set asked (h / 2) true ∙ f.marks;
          once = f.once;
          within = f.within;
          inside = f.inside;
          marked = λ j c. marks_more asked (h / 2) j here (f.marked j c);
          complete = λ j b m p.
              elim (cases_eq j (h / 2)) as (λ _. Contains (undirected_of found) j) [
                | inl e ↦ absurd (out (subst Inside e p))
                | inr n ↦ f.complete j b (marks_other asked (h / 2) j n m) p
              ];
        };
        on = record {
          kept = λ j c. marks_more asked (h / 2) j here c;
          more = [];
          grown = sym (append-nil found);
        };
        there = get_or-set_same asked (h / 2) true false here;
        only = λ g c. absurd (Contains-none g c);
      })

  -- asked of before, nothing changes
  pub asked_before : (asked : List Bool) (found : List ℕ) (h : ℕ)
      → IsFlooding Inside count asked (undirected_of found) → IsAsked asked (h / 2)
      → Asks Inside count asked asked found found h
  asked_before asked found h f there = record {
    flooding = f;
    on = record { kept = λ j c. c; more = []; grown = sym (append-nil found) };
    there = there;
    only = λ g c. absurd (Contains-none g c);
  }

-- ---- questions one after the other
-- a flood that goes on twice has gone on
abbrev pub goes_on_twice : (asked mid asked' : List Bool) (found more found' : List ℕ)
    → Spreads asked mid found more → Spreads mid asked' more found'
    → Spreads asked asked' found found'
goes_on_twice asked mid asked' found more found' a b = record {
  kept = λ k h. b.kept k (a.kept k h);
  more = a.more ++ b.more;
  grown = b.grown ∙ ap (λ xs. xs ++ b.more) a.grown ∙ append_assoc found a.more b.more;
}

-- both edges beside an edge, one after the other
pub asked_both : {Inside : ℕ → Type 0} {m : Mesh} {count : ℕ} {asked mid asked' : List Bool}
    {found more found' : List ℕ} {h after before : ℕ} → after ≡ next m h → before ≡ prev m h
    → Asks Inside count asked mid found more after → Asks Inside count mid asked' more found' before
    → AsksBeside Inside m count asked asked' found found' h
asked_both {m = m} {asked = asked} {mid = mid} {asked' = asked'} {found = found} {more = more}
    {found' = found'} {h = h} {after = after} e f a b = record {
      flooding = b.flooding;
      on = goes_on_twice asked mid asked' found more found' a.on b.on;
      beside = record {
        after = subst (λ (x : ℕ). IsAsked asked' (x / 2)) e (b.on.kept (after / 2) a.there);
        before = subst (λ (x : ℕ). IsAsked asked' (x / 2)) f b.there;
      };
      only = λ g c. elim (Contains-append_cases a.on.more b.on.more g c) as
          (λ _. (g ≡ rev (next m h)) ⊎ (g ≡ rev (prev m h))) [
            | inl d ↦ inl (a.only g d ∙ ap rev e)
            | inr d ↦ inr (b.only g d ∙ ap rev f)
          ];
    }

-- ---- one after the other, of a list
-- the flood has asked of the first i of the starts
pub record AreAskedTo (Inside : ℕ → Type 0) (count : ℕ) (asked : List Bool) (found starts : List ℕ)
    (i : ℕ) : Type 0 where
  pub flooding : IsFlooding Inside count asked (undirected_of found)
  pub all : (j : ℕ) → j < i → IsAsked asked (get_or starts j 0)

-- before the first question none of the starts needs an answer
pub ask_first : (Inside : ℕ → Type 0) (count : ℕ) (asked : List Bool) (found starts : List ℕ) →
    IsFlooding Inside count asked (undirected_of found)
    → AreAskedTo Inside count asked found starts 0
ask_first Inside count asked found starts f =
    record { flooding = f; all = λ j h. absurd (never j h) }
  where
    never : (j : ℕ) → j < 0 → ⊥
    never j h = omega (arith, h)

-- once one more of the starts is asked of, one more has its answer
pub ask_more : (Inside : ℕ → Type 0) (count : ℕ) (asked asked' : List Bool)
    (found found' starts : List ℕ) (i h d : ℕ) → AreAskedTo Inside count asked found starts i
    → h / 2 ≡ get_or starts i d → i < length starts → Asks Inside count asked asked' found found' h
    → AreAskedTo Inside count asked' found' starts (i + 1)
ask_more Inside count asked asked' found found' starts i h d s is here a = record {
  flooding = a.flooding;
  all = λ j w. elim (cases_eq j i) as (λ _. IsAsked asked' (get_or starts j 0)) [
    | inl e ↦ subst (λ (x : ℕ). IsAsked asked' (get_or starts x 0)) (sym e)
        (subst (IsAsked asked') (is ∙ get_or_any starts i d 0 here) a.there)
    | inr n ↦ a.on.kept (get_or starts j 0) (s.all j (below_other j i w n))
  ];
}

-- once the end of the starts is reached, each of them has been asked of
pub ask_last : (Inside : ℕ → Type 0) (count : ℕ) (asked : List Bool) (found starts : List ℕ) (i : ℕ)
    → AreAskedTo Inside count asked found starts i → length starts ≤ i → (k : ℕ) → Contains starts k
    → IsAsked asked k
ask_last Inside count asked found starts i s last k c =
    let w = c.1 in subst (IsAsked asked) (get_or_any starts c.0 0 k c.1 ∙ c.2)
    (s.all c.0 (omega (arith, w, last)))
