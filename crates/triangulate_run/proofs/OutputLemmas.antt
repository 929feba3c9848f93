-- Texts that are written one after another.
-- Lemmas: appends_more, appends_keep, appends_nil, part_behind, part_longer, held_written,
-- held_fails, held_more, written_more, after_error, after_success, passes_nil, passes_more,
-- passes_part, passes_at, part_at, part_before, puts_behind, writes_flushed, first_fails,
-- second_fails, sends_same, part_same.
use Rattle.std.proofs.Common.{◌≡◌, [], ◌++◌, ◌∙◌, ◌∷◌, ◌<◌, ◌+◌}
use Rattle.std.proofs.Common.{ℕ, List, Option, Some, None, sym, ap, append_assoc, append-nil, subst}
use Rattle.std.proofs.Common.{suc, add-one, length, take, drop, get_or}
use Rattle.std.specs.List.{flat_map}
use Rattle.std.proofs.lemmas.Grind.{flat_map-append}
use Rattle.std.proofs.Math.Seq.{split_at, take-suc}
use Rattle.std.specs.Io.KnownBytes.{Appends, Keeps}
use Rattle.std.proofs.Common.{Result, Ok, Err, Bool, true, false}
use Rattle.std.specs.Prelude.{MatchResult, OnOk, OnErr, is_err}
use Rattle.triangulate_run.specs.{AppendsPart, Sends}

-- a text that is written behind another one is written with it
pub appends_more : (a b c : Option (List ℕ)) (s t : List ℕ) → Appends a b s → Appends b c t
    → Appends a c (s ++ t)
appends_more None b c s t h k = tt
appends_more (Some xs) None c s t h k = absurd h
appends_more (Some xs) (Some ys) None s t h k = absurd k
appends_more (Some xs) (Some ys) (Some zs) s t h k = k ∙ ap (λ us. us ++ t) h ∙ append_assoc xs s t

-- a text that was written is written still where the contents stay
pub appends_keep : (a b c : Option (List ℕ)) (s : List ℕ) → Appends a b s → Keeps b c
    → Appends a c s
appends_keep None b c s h k = tt
appends_keep (Some xs) None c s h k = absurd h
appends_keep (Some xs) (Some ys) None s h k = absurd k
appends_keep (Some xs) (Some ys) (Some zs) s h k = k ∙ h

-- where the contents stay, the empty text was written
pub appends_nil : (a : Option (List ℕ)) → Appends a a []
appends_nil None = tt
appends_nil (Some xs) = sym (append-nil xs)

-- a part of the second text, behind the first
pub part_behind : (a b c : Option (List ℕ)) (s t : List ℕ) → Appends a b s → AppendsPart b c t
    → AppendsPart a c (s ++ t)
part_behind a b c s t wrote x = record {
  part = s ++ x.part;
  rest = x.rest;
  whole = ap (λ ys. s ++ ys) x.whole ∙ sym (append_assoc s x.part x.rest);
  written = appends_more a b c s x.part wrote x.written;
}

-- what is held, and then the second text, is what was passed on and is held afterwards
passed_on : (held mid kept s t p q : List ℕ) → held ++ s ≡ p ++ mid → mid ++ t ≡ q ++ kept
    → held ++ (s ++ t) ≡ (p ++ q) ++ kept
passed_on held mid kept s t p q e f =
    sym (append_assoc held s t) ∙ ap (λ ys. ys ++ t) e ∙ append_assoc p mid t ∙ ap (λ ys. p ++ ys) f
    ∙ sym (append_assoc p q kept)

-- where nothing was held, the text is what was passed on and is held afterwards
whole_of : (held text all : List ℕ) → held ≡ [] → held ++ text ≡ all → text ≡ all
whole_of held text all none e = ap (λ ys. ys ++ text) (sym none) ∙ e

module _ {a b : Option (List ℕ)} where
  -- a part of a text is a part of a longer one
  pub part_longer : {s : List ℕ} (t : List ℕ) → AppendsPart a b s → AppendsPart a b (s ++ t)
  part_longer t p = record {
    part = p.part;
    rest = p.rest ++ t;
    whole = ap (λ ys. ys ++ t) p.whole ∙ append_assoc p.part p.rest t;
    written = p.written;
  }

  -- where the writer fails at the first of three texts, a beginning of all was put
  pub first_fails : (held s t : List ℕ) → AppendsPart a b (held ++ s)
      → AppendsPart a b (held ++ (s ++ t))
  first_fails held s t x = subst (λ (ys : List ℕ). AppendsPart a b ys) (append_assoc held s t)
      (part_longer t x)

module _ {a b : Option (List ℕ)} {held kept text : List ℕ} (none : held ≡ [])
    (x : Sends a b held kept text) (c : Option (List ℕ)) where
  -- where nothing was held before, what is held is written
  pub held_written : Appends b c kept → Appends a c text
  held_written wrote = rw (whole_of held text (x.part ++ kept) none x.whole)
      (appends_more a b c x.part kept x.written wrote)

  -- and where the writer fails at it, a part of the text
  pub held_fails : AppendsPart b c kept → AppendsPart a c text
  held_fails part = rw (whole_of held text (x.part ++ kept) none x.whole)
      (part_behind a b c x.part kept x.written part)

module _ {a : Option (List ℕ)} {held kept s t : List ℕ} (is : s ≡ t) where
  -- where there is room, the text is held
  pub held_more : kept ≡ held ++ s → Sends a a held kept t
  held_more e = rw (← is) record { part = []; whole = sym e; written = appends_nil a }

  -- where there is none, what was held is written, and then the text
  pub written_more : (b : Option (List ℕ)) {c : Option (List ℕ)} → kept ≡ [] → Appends a b held
      → Appends b c s → Sends a c held kept t
  written_more b {c} none first wrote = rw (← is) record {
    part = held ++ s;
    whole = sym (append-nil (held ++ s)) ∙ ap (λ ys. (held ++ s) ++ ys) (sym none);
    written = appends_more a b c held s first wrote;
  }

module _ {T E X : Type 0} (r : Result T E) {b : Bool} (is : b ≡ is_err r) where
  -- what holds after an error, by the test for one
  pub after_error : b ≡ true → OnErr r X → X
  after_error failed h = at_error r (sym is ∙ failed) h
    where
      at_error : (r : Result T E) → is_err r ≡ true → OnErr r X → X
      at_error (Ok x) e h = cc
      at_error (Err x) e h = h

  -- and after none
  pub after_success : b ≡ false → OnOk r X → X
  after_success fine h = at_success r (sym is ∙ fine) h
    where
      at_success : (r : Result T E) → is_err r ≡ false → OnOk r X → X
      at_success (Ok x) e h = h
      at_success (Err x) e h = cc

-- nothing was put
pub passes_nil : (a : Option (List ℕ)) (held : List ℕ) → Sends a a held held []
passes_nil a held = record { part = []; whole = append-nil held; written = appends_nil a }

module _ {a b c : Option (List ℕ)} {held mid s : List ℕ} (x : Sends a b held mid s) where
  -- one text was put behind another
  pub passes_more : {kept t : List ℕ} → Sends b c mid kept t → Sends a c held kept (s ++ t)
  passes_more {kept} {t} y = record {
    part = x.part ++ y.part;
    whole = passed_on held mid kept s t x.part y.part x.whole y.whole;
    written = appends_more a b c x.part y.part x.written y.written;
  }

  -- the writer failed at the second text
  pub passes_part : (t : List ℕ) → AppendsPart b c (mid ++ t) → AppendsPart a c (held ++ (s ++ t))
  passes_part t y = record {
    part = x.part ++ y.part;
    rest = y.rest;
    whole = passed_on held mid y.rest s t x.part y.part x.whole y.whole;
    written = appends_more a b c x.part y.part x.written y.written;
  }

  -- and at the second of three
  pub second_fails : (t u : List ℕ) → AppendsPart b c (mid ++ t)
      → AppendsPart a c (held ++ (s ++ (t ++ u)))
  second_fails t u y = passes_part (t ++ u) (first_fails mid t u y)

-- ---- the texts of a list
module _ {X : Type 0} (f : X → List ℕ) (xs : List X) (i : ℕ) (d : X) (within : i < length xs)
  where
    -- one more text of a list
    texts_more : flat_map f (take (i + 1) xs) ≡ flat_map f (take i xs) ++ f (get_or xs i d)
    texts_more = ap (λ n. flat_map f (take n xs)) (add-one i)
        ∙ ap (flat_map f) (take-suc xs i d within)
        ∙ flat_map-append f (take i xs) (get_or xs i d ∷ [])
        ∙ ap (λ ys. flat_map f (take i xs) ++ ys) (append-nil (f (get_or xs i d)))

    module _ {a b c : Option (List ℕ)} {held mid : List ℕ}
        (x : Sends a b held mid (flat_map f (take i xs))) where
      -- one more text of a list was put
      pub passes_at : {kept : List ℕ} → Sends b c mid kept (f (get_or xs i d))
          → Sends a c held kept (flat_map f (take (i + 1) xs))
      passes_at y = rw texts_more (passes_more x y)

      -- the writer failed at a text of a list
      pub part_at : AppendsPart b c (mid ++ f (get_or xs i d))
          → AppendsPart a c (held ++ flat_map f xs)
      part_at y =
          let all : flat_map f xs ≡ flat_map f (take i xs)
          ++ (f (get_or xs i d) ++ flat_map f (drop (suc i) xs)) =
          ap (flat_map f) (split_at xs i d within)
          ∙ flat_map-append f (take i xs) (get_or xs i d ∷ drop (suc i) xs) in
          rw all (second_fails x (f (get_or xs i d)) (flat_map f (drop (suc i) xs)) y)

      -- the writer failed at a text of a list, which another text follows
      pub part_before : (end : List ℕ) → AppendsPart b c (mid ++ f (get_or xs i d))
          → AppendsPart a c (held ++ (flat_map f xs ++ end))
      part_before end y = first_fails held (flat_map f xs) end (part_at y)

-- ---- calls that put or write a last text
module _ {T E : Type 0} (good bad : Type 0) (a b c : Option (List ℕ)) where
  -- the last text is put behind the others
  pub puts_behind : (r : Result T E) {held mid s : List ℕ} (kept t : List ℕ) → Sends a b held mid s
      → MatchResult r (λ _. Sends b c mid kept t × good) (λ _. AppendsPart b c (mid ++ t) × bad)
      → MatchResult r (λ _. Sends a c held kept (s ++ t) × good)
      (λ _. AppendsPart a c (held ++ (s ++ t)) × bad)
  puts_behind (Ok y) kept t x (put, works) = (passes_more x put, works)
  puts_behind (Err y) kept t x (part, fails) = (passes_part x t part, fails)

  -- the text is written, and passed on
  pub writes_flushed : (r : Result T E) (text : List ℕ) → Appends a b text → Keeps b c → OnOk r good
      → OnErr r bad → MatchResult r (λ _. Appends a c text × good) (λ _. AppendsPart a c text × bad)
  writes_flushed (Ok y) text wrote kept works fails = (appends_keep a b c text wrote kept, works)
  writes_flushed (Err y) text wrote kept works fails = (
    record {
      part = text;
      rest = [];
      whole = sym (append-nil text);
      written = appends_keep a b c text wrote kept;
    },
    fails,
  )

-- what is put, where the text is said otherwise
pub sends_same : {a b : Option (List ℕ)} {held kept s t : List ℕ} → s ≡ t → Sends a b held kept s
    → Sends a b held kept t
sends_same {a} {b} {held} {kept} is = subst (λ (u : List ℕ). Sends a b held kept u) is

pub part_same : {a b : Option (List ℕ)} {s t : List ℕ} (held : List ℕ) → s ≡ t
    → AppendsPart a b (held ++ s) → AppendsPart a b (held ++ t)
part_same {a} {b} held is = subst (λ (u : List ℕ). AppendsPart a b (held ++ u)) is
