-- The items of a line, as they are put one after another.
-- Notions: PutsSome, PutsEach; puts_begin, puts_one, puts_end, puts_part, line_none,
-- line_first_fails, line_others_fail, line_put, walks.
use Rattle.std.proofs.Common.{◌≡◌, [], ◌∷◌, ◌++◌, ◌∙◌}
use Rattle.std.proofs.Common.{ℕ, List, Option, Some, None, refl, sym, ap, subst, append_assoc}
use Rattle.std.proofs.Common.{append-nil, true, is_some, inl}
use Rattle.std.specs.Prelude.{ℤ, codes, MatchOption, Result, MatchResult}
use Rattle.std.specs.List.{flat_map}
use Rattle.std.proofs.lemmas.Grind.{flat_map-append}
use Rattle.plane.specs.{IsLineList, Item, Point, Triangulation, whole}
use Rattle.delaunay_location.specs.{AreLeft, GivesNext, Intersection, item_in}
use Rattle.delaunay_location.specs.{LineIntersectionIterator}
use Rattle.triangulate_run.specs.{AppendsPart, HoldsAt, IsListed, Sends, SheetPoint}
use Rattle.triangulate_run.specs.{Answer.MayWalk, Reply.item_text, Reply.line_text, Reply.next_text}
use Rattle.triangulate_run.proofs.{Insertions.listed_if_known, OutputLemmas.second_fails}
use Rattle.triangulate_run.proofs.OutputLemmas.{first_fails, passes_more, passes_nil, puts_behind}

-- of the items that were left, these were put, and those are left
pub record PutsSome {V D U F P S : Type 0} (at : V → Point) (number : S → ℤ)
    (before now : Option (List ℕ)) (held kept : List ℕ) (it : LineIntersectionIterator V D U F P S)
    (items : List Item) : Type 0 where
  pub done : List Item
  pub rest : List Item
  pub all : items ≡ done ++ rest
  pub are_left : AreLeft at number it rest
  pub passes : Sends before now held kept (flat_map next_text done)

-- of any items that were left before, the first have been put, and the others are left now
abbrev pub PutsEach : {V D U F P S : Type 0} → (V → Point) → (S → ℤ) → Option (List ℕ)
    → Option (List ℕ) → List ℕ → List ℕ → LineIntersectionIterator V D U F P S
    → LineIntersectionIterator V D U F P S → Type 0
PutsEach at number before now held kept old it = (items : List Item) → AreLeft at number old items
    → PutsSome at number before now held kept it items

-- the text of one item more
text_more : (done : List Item) (m : Item)
    → flat_map next_text (done ++ m ∷ []) ≡ flat_map next_text done ++ next_text m
text_more done m = flat_map-append next_text done (m ∷ [])
    ∙ ap (λ ys. flat_map next_text done ++ ys) (append-nil (next_text m))

module _ {V D U F P S : Type 0} (at : V → Point) (number : S → ℤ) where
  -- at the beginning nothing has been put, and all items are left
  pub puts_begin : (a : Option (List ℕ)) (held : List ℕ)
      (old : LineIntersectionIterator V D U F P S) → PutsEach at number a a held held old old
  puts_begin a held old = λ items left. record {
    done = [];
    rest = items;
    all = refl;
    are_left = left;
    passes = passes_nil a held;
  }

  module _ {a b : Option (List ℕ)} {held mid : List ℕ}
      (old : LineIntersectionIterator V D U F P S)
      {it after : LineIntersectionIterator V D U F P S}
      (so_far : PutsEach at number a b held mid old it) where
    -- where no item is left, the text of all has been put
    pub puts_end : GivesNext at number it None after → (items : List Item)
        → AreLeft at number old items → Sends a b held mid (flat_map next_text items)
    puts_end step items left =
        let p = so_far items left in
        let none = (step.gives p.rest p.are_left).0 in
        subst (λ (ys : List Item). Sends a b held mid (flat_map next_text ys))
        (sym (p.all ∙ ap (λ ys. p.done ++ ys) none ∙ append-nil p.done)) p.passes

    module _ {x : Intersection V D U F} (step : GivesNext at number it (Some x) after)
        {c : Option (List ℕ)} where
      -- the next item is put, and the others are left
      pub puts_one : {kept : List ℕ} → Sends b c mid kept (next_text (item_in x))
          → PutsEach at number a c held kept old after
      puts_one {kept} put = λ items left.
          let p = so_far items left in
          let s = (step.gives p.rest p.are_left).1 in
          record {
            done = p.done ++ item_in x ∷ [];
            rest = s.0;
            all = p.all ∙ ap (λ ys. p.done ++ ys) s.1
                ∙ sym (append_assoc p.done (item_in x ∷ []) s.0);
            are_left = s.2;
            passes = subst (λ (t : List ℕ). Sends a c held kept t)
                (sym (text_more p.done (item_in x))) (passes_more p.passes put);
          }

      -- where the writer fails at the next item, a beginning of the text of all was put
      pub puts_part : AppendsPart b c (mid ++ next_text (item_in x)) → (items : List Item)
          → AreLeft at number old items → AppendsPart a c (held ++ flat_map next_text items)
      puts_part part items left =
          let p = so_far items left in
          let s = (step.gives p.rest p.are_left).1 in
          let all = ap (flat_map next_text) (p.all ∙ ap (λ ys. p.done ++ ys) s.1)
          ∙ flat_map-append next_text p.done (item_in x ∷ s.0) in
          subst (λ (t : List ℕ). AppendsPart a c (held ++ t)) (sym all)
          (second_fails p.passes (next_text (item_in x)) (flat_map next_text s.0) part)

-- ---- a whole line
module _ {V D U F P S : Type 0} {at : V → Point} {number : S → ℤ}
    {it after : LineIntersectionIterator V D U F P S} where
  -- what holds of the text of no items holds of what is left where there is none
  pub line_none : (X : List ℕ → Type 0) → GivesNext at number it None after
      → X (codes "nothing\n") → (items : List Item) → AreLeft at number it items
      → X (line_text items)
  line_none X step x items left =
      subst (λ (ys : List Item). X (line_text ys)) (sym (step.gives items left).0) x

  module _ {x : Intersection V D U F} (step : GivesNext at number it (Some x) after) where
    -- the text of a line by its first item and the others
    by_first : (X : List ℕ → Type 0)
        → ((others : List Item) → AreLeft at number after others
        → X (item_text (item_in x) ++ (flat_map next_text others ++ codes "\n")))
        → (items : List Item) → AreLeft at number it items → X (line_text items)
    by_first X all items left = let s = (step.gives items left).1 in
        subst (λ (ys : List Item). X (line_text ys)) (sym s.1)
        (subst X (sym (append_assoc (item_text (item_in x)) (flat_map next_text s.0)
        (codes "\n"))) (all s.0 s.2))

    -- where the writer fails at the first item, a beginning of the line was put
    pub line_first_fails : {a b : Option (List ℕ)} (held : List ℕ)
        → AppendsPart a b (held ++ item_text (item_in x)) → (items : List Item)
        → AreLeft at number it items → AppendsPart a b (held ++ line_text items)
    line_first_fails {a} {b} held part = by_first (λ t. AppendsPart a b (held ++ t))
        (λ others left. first_fails held (item_text (item_in x))
        (flat_map next_text others ++ codes "\n") part)

    module _ {a b c : Option (List ℕ)} {held mid : List ℕ}
        (first : Sends a b held mid (item_text (item_in x))) where
      -- so it was where the first item was passed on and the writer fails at the others
      pub line_others_fail : ((others : List Item) → AreLeft at number after others
          → AppendsPart b c (mid ++ flat_map next_text others)) → (items : List Item)
          → AreLeft at number it items → AppendsPart a c (held ++ line_text items)
      line_others_fail part = by_first (λ t. AppendsPart a c (held ++ t))
          (λ others left. second_fails first (flat_map next_text others) (codes "\n")
          (part others left))

      module _ {then : List ℕ} (rest : (others : List Item)
          → AreLeft at number after others → Sends b c mid then (flat_map next_text others)) where
        -- where all items were passed on, so is the line with its end, or the writer fails at that
        pub line_put : {T E : Type 0} (good bad : Type 0) (d : Option (List ℕ))
            (r : Result T E) (kept : List ℕ)
            → MatchResult r (λ _. Sends c d then kept (codes "\n") × good)
            (λ _. AppendsPart c d (then ++ codes "\n") × bad) → (items : List Item)
            → AreLeft at number it items
            → MatchResult r (λ _. Sends a d held kept (line_text items) × good)
            (λ _. AppendsPart a d (held ++ line_text items) × bad)
        line_put good bad d r kept put = by_first
            (λ t. MatchResult r (λ _. Sends a d held kept t × good)
            (λ _. AppendsPart a d (held ++ t) × bad))
            (λ others left. puts_behind _ _ _ _ _ r _ _ first
            (puts_behind _ _ _ _ _ r _ _ (rest others left) put))

-- ---- a reply
-- between points that lookups find, the line list is what the way meets
pub walks : (points : List SheetPoint) (t : Triangulation) (p q : Point) (o r : Option ℕ)
    → is_some o ≡ true → MatchOption o (¬ IsListed points p) (λ i. HoldsAt points i p)
    → is_some r ≡ true → MatchOption r (¬ IsListed points q) (λ i. HoldsAt points i q)
    → (items : List Item) → IsLineList t (whole p) (whole q) items
    → MayWalk points t p q (line_text items)
walks points t p q o r from_is from to_is to items list = inl (
  items,
  listed_if_known points p o from_is from,
  listed_if_known points q r to_is to,
  list,
  refl,
)
