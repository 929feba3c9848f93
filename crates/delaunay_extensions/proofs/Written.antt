-- What lists that are written at places hold.
-- Lemmas: length-written, first_written, none_waits, pushed_written, pushed_within, not_empty.
use Rattle.std.proofs.Common.{◌≡◌, [], ◌∷◌, ◌++◌, ◌∙◌, ◌<◌, ◌+◌, List, ℕ, length, refl, drop, sym}
use Rattle.std.proofs.Common.{ap, subst, arith}
use Rattle.std.specs.Prelude.{All, slice_set, get_or}
use Rattle.std.proofs.lemmas.List.{at_drop_more, length-set}
use Rattle.std.proofs.lemmas.List.Elements.{All-push}
use Rattle.delaunay_extensions.specs.{written}

-- one item more, written last
one_more_written : {X : Type 0} (items : List X) (waiting : List (ℕ × X)) (e : ℕ × X)
    → written items (waiting ++ e ∷ []) ≡ slice_set (written items waiting) e.0 e.1
unfolding written
one_more_written items [] e = refl
one_more_written items (w ∷ rest) e = one_more_written (slice_set items w.0 w.1) rest e

-- no item comes in or goes
pub length-written : {X : Type 0} (items : List X) (waiting : List (ℕ × X))
    → length (written items waiting) ≡ length items
unfolding written
length-written items [] = refl
length-written items (w ∷ rest) =
    length-written (slice_set items w.0 w.1) rest ∙ length-set items w.0 w.1

-- the first of those that wait is written
pub first_written : {X : Type 0} (items : List X) (waiting : List (ℕ × X)) (i : ℕ) (d : ℕ × X)
    → i < length waiting → written items (drop i waiting)
    ≡ written (slice_set items (get_or waiting i d).0 (get_or waiting i d).1) (drop (i + 1) waiting)
unfolding written
first_written items waiting i d below = at_drop_more (written items) waiting i d below

-- where none waits, all is written
pub none_waits : {X : Type 0} (items : List X) (waiting : List (ℕ × X)) → waiting ≡ []
    → written items waiting ≡ items
unfolding written
none_waits items waiting none = ap (written items) none

-- ---- a list that is seen as it is once those that wait are written
module _ {X : Type 0} (items : List X) {seen : List X} (waiting : List (ℕ × X)) (e : ℕ × X)
    (view : written items waiting ≡ seen) where
  -- one that waits more is written last
  pub pushed_written : {more : List (ℕ × X)} → more ≡ waiting ++ e ∷ []
      → written items more ≡ slice_set seen e.0 e.1
  pushed_written is = ap (written items) is ∙ one_more_written items waiting e
      ∙ ap (λ (xs : List X). slice_set xs e.0 e.1) view

  module _ (below : e.0 < length seen) where
    same_length : length seen ≡ length items
    same_length = ap (λ (xs : List X). length xs) (sym view) ∙ length-written items waiting

    -- a list with its place is not empty
    pub not_empty : 0 < length items
    not_empty = let same = same_length in omega (arith, below, same)

    -- and each that waits then has its place
    pub pushed_within : {more : List (ℕ × X)} → All (λ w. w.0 < length items) waiting
        → more ≡ waiting ++ e ∷ [] → All (λ w. w.0 < length items) more
    pushed_within within is = subst (λ (ws : List (ℕ × X)). All (λ w. w.0 < length items) ws)
        (sym is) (All-push (λ (w : ℕ × X). w.0 < length items) waiting e within
        (subst (λ n. e.0 < n) same_length below))
