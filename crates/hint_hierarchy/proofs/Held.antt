-- What layers hold after one of them changed, and after one was added or dropped.
-- Notions: AllBefore, IsChanged, IsVacantBelow; all_from_each, all_with, nothing_contained,
-- all_before_next, site_of, or_with, all_from_held, held_from_all, held_at, held_or, sites_at,
-- sites_since, sites_there, changed_again, changed_then, vacant_if_all, vacant_one_more,
-- held_in_first, pushed_within, pushed_first.
use Rattle.std.proofs.Common.{◌≡◌, ◌∙◌, ◌⊎◌, ℕ, ◌+◌, ◌<◌, ◌≤◌, List, [], ◌∷◌, ◌++◌, length, get_or, sym, ap, subst, inl, inr, arith}
use Rattle.std.proofs.lemmas.Bool.{cases_eq}
use Rattle.std.proofs.lemmas.List.{get_or_default, length-set}
use mathlib.Core.Logic.{⊎_elim}
use Rattle.std.specs.Prelude.{if◌then◌else◌}
use Rattle.std.specs.Prelude.{All, Bool, true, false, Contains, Option, Some, slice_set, take}
use Rattle.std.proofs.lemmas.List.Elements.{All-contains, All-contains_itself, All-nil, All-push, All-set, All-take, All-weaker, Contains-get_or}
use Rattle.plane.specs.{IsAtMost, IsAtMostWith, Point}
use Rattle.hint_hierarchy.specs.Layers.{IsAtMostOr, IsInSome}

-- a fact of each position that is contained, as one of each position of the list
pub all_from_each : (P : Point → Type 0) (points : List Point)
    → ((p : Point) → Contains points p → P p) → All P points
all_from_each P points each =
    All-weaker (Contains points) P each points (All-contains_itself points)

-- nothing is in no list
pub nothing_contained : {X : Type 0} (x : X) → ¬ Contains [] x
nothing_contained x h = All-contains (λ _. ⊥) [] x (All-nil _) h

-- each element before a place meets P
abbrev pub AllBefore : {X : Type 0} → (X → Type 0) → ℕ → List X → Type 0
AllBefore P n xs = (k : ℕ) (d : _) → k < n → k < length xs → P (get_or xs k d)

-- one element more
pub all_before_next : {X : Type 0} (P : X → Type 0) (n : ℕ) (xs : List X) (x : X)
    → x ≡ get_or xs n x → n < length xs → P x → AllBefore P n xs → AllBefore P (n + 1) xs
all_before_next P n xs x here within meets before = λ k d under k-in.
    ⊎_elim
    (λ same. subst P
    (sym (ap (λ i. get_or xs i d) same ∙ get_or_default xs n d x within ∙ sym here)) meets)
    (λ other. before k d (omega (arith, under, other)) k-in)
    (cases_eq k n)

-- what is held, or is a site, is a site where all that is held is
pub site_of : {sites held : Point → Type 0} {p q : Point} → IsAtMost sites held → sites q
    → held p ⊎ (p ≡ q) → sites p
site_of {sites = sites} all site =
    ⊎_elim (λ h. all _ h) (λ e. subst sites (sym e) site)

-- the one more is that of a vertex that is swapped in
pub or_with : (old now : Point → Type 0) (q : Point) (swapped : Option Point)
    → IsAtMostWith old now q → swapped ≡ Some q → IsAtMostOr old now swapped
or_with old now q swapped more is =
    λ p h. ⊎_elim (λ o. inl o) (λ e. inr (is ∙ ap (λ x. Some x) (sym e))) (more p h)

-- what each point of a list meets, each of another does that has at most one more, which meets it
pub all_with : (P : Point → Type 0) (old new : List Point) (q : Point) → All P old → P q
    → IsAtMostWith (Contains old) (Contains new) q → All P new
all_with P old new q all one more = all_from_each P new
    (λ p h. ⊎_elim (λ o. All-contains P old p all o) (λ e. subst P (sym e) one) (more p h))

-- as many layers as before, of which each position is an old one or is among those of X
pub record IsChanged {L : Type 0} (positions_of : L → List Point) (X : Point → Type 0)
    (before layers : List L) (many : ℕ) : Type 0 where
  pub as_many : length layers ≡ many
  pub more : (p : Point) → IsInSome positions_of layers p → IsInSome positions_of before p ⊎ X p

module _ {L : Type 0} (positions_of : L → List Point) where
  -- none of the layers before one has a vertex at q
  abbrev pub IsVacantBelow : Point → ℕ → List L → Type 0
  IsVacantBelow q level layers = AllBefore (λ l. ¬ Contains (positions_of l) q) level layers

  -- one layer more
  pub vacant_one_more : {q : Point} (level : ℕ) (layers : List L) {layer : L} → layer
      ≡ get_or layers level layer → level < length layers → ¬ Contains (positions_of layer) q
      → IsVacantBelow q level layers → IsVacantBelow q (level + 1) layers
  vacant_one_more {q = q} level layers {layer = layer} =
      all_before_next (λ l. ¬ Contains (positions_of l) q) level layers layer

module _ {L : Type 0} {positions_of : L → List Point} where
  -- what is held, as a fact of each layer
  pub all_from_held : (P : Point → Type 0) (layers : List L)
      → IsAtMost P (IsInSome positions_of layers) → All (λ l. All P (positions_of l)) layers
  all_from_held P layers held = λ k d below.
      all_from_each P (positions_of (get_or layers k d))
      (λ p at. held p (record
      { layer = get_or layers k d; among = Contains-get_or layers k d below; vertex = at }))

  -- and back
  pub held_from_all : (P : Point → Type 0) (layers : List L)
      → All (λ l. All P (positions_of l)) layers → IsAtMost P (IsInSome positions_of layers)
  held_from_all P layers all = λ p h.
      All-contains P (positions_of h.layer) p
      (All-contains (λ l. All P (positions_of l)) layers h.layer all h.among) h.vertex

  module _ {layers : List L} (i : ℕ) {layer : L} (here : layer ≡ get_or layers i layer)
      (below : i < length layers) where
    -- the layer at an index that is read
    pub held_at : (p : Point) → Contains (positions_of layer) p → IsInSome positions_of layers p
    held_at p at = record { layer = layer; among = (i, below, sym here); vertex = at }

    -- what it has, or something else
    pub held_or : {p : Point} {A : Type 0} → Contains (positions_of layer) p ⊎ A
        → IsInSome positions_of layers p ⊎ A
    held_or = ⊎_elim (λ at. inl (held_at _ at)) (λ a. inr a)

    -- its positions are sites where all that is held is
    pub sites_at : {sites : Point → Type 0} → IsAtMost sites (IsInSome positions_of layers)
        → All sites (positions_of layer)
    sites_at {sites = sites} held =
        all_from_each sites (positions_of layer) (λ p at. held p (held_at p at))

  module _ {X : Point → Type 0} {before layers : List L} {many : ℕ}
      (changed : IsChanged positions_of X before layers many) where
    -- what is held are sites still
    pub sites_since : {sites : Point → Type 0} → IsAtMost sites (IsInSome positions_of before)
        → ((p : Point) → X p → sites p) → IsAtMost sites (IsInSome positions_of layers)
    sites_since held site = λ p h. ⊎_elim (λ o. held p o) (λ x. site p x) (changed.more p h)

    -- and as much more is held again
    pub changed_then : {later : Point → Type 0} → ((p : Point) → later p
        → IsInSome positions_of layers p ⊎ X p) → (p : Point) → later p
        → IsInSome positions_of before p ⊎ X p
    changed_then more = λ p h. ⊎_elim (λ o. changed.more p o) (λ x. inr x) (more p h)

    module _ (i : ℕ) {old : L} (here : old ≡ get_or layers i old) (below : i < many) where
      within : i < length layers
      within = let same = changed.as_many in omega (arith, below, same)

      -- and so are the positions of a layer that is read
      pub sites_there : {sites : Point → Type 0} → IsAtMost sites (IsInSome positions_of before)
          → ((p : Point) → X p → sites p) → All sites (positions_of old)
      sites_there held site = sites_at i here within (sites_since held site)

      -- a layer takes its place
      pub changed_again : (new : L)
          → ((p : Point) → Contains (positions_of new) p → Contains (positions_of old) p ⊎ X p)
          → IsChanged positions_of X before (slice_set layers i new) many
      changed_again new more =
          let P : Point → Type 0 = λ p. IsInSome positions_of before p ⊎ X p in record {
            as_many = length-set layers i new ∙ changed.as_many;
            more = held_from_all P (slice_set layers i new)
                (All-set (λ l. All P (positions_of l)) layers i new
                (all_from_each P (positions_of new) (λ p at. ⊎_elim
                (λ o. changed.more p (held_at i here within p o)) (λ x. inr x) (more p at)))
                (all_from_held P layers changed.more));
          }

  -- no layer is left out
  pub vacant_if_all : {q : Point} {layers read : List L} (n : ℕ) → read ≡ layers
      → length read ≤ n → IsVacantBelow positions_of q n read → ¬ IsInSome positions_of layers q
  vacant_if_all {q = q} n same all vacant = subst (λ (ls : List L). ¬ IsInSome positions_of ls q)
      same (λ h. let under = h.among.1 in
      vacant h.among.0 h.layer (omega (arith, under, all)) under
      (subst (λ (l : L). Contains (positions_of l) q) (sym h.among.2) h.vertex))

  -- the first n layers
  pub held_in_first : (n : ℕ) {layers later : List L} → later ≡ take n layers
      → IsAtMost (IsInSome positions_of layers) (IsInSome positions_of later)
  held_in_first n {layers = layers} {later = later} e =
      let held = IsInSome positions_of layers in
      held_from_all held later
      (subst (All (λ l. All held (positions_of l))) (sym e)
      (All-take (λ l. All held (positions_of l)) n layers (all_from_held held layers (λ p h. h))))

  -- a layer is added, if it is, to such whose positions are all among those of H
  pub pushed_within : {H : Point → Type 0} {layers later : List L} (b : Bool) (layer : L) → later
      ≡ (if b then layers ++ layer ∷ [] else layers) → IsAtMost H (IsInSome positions_of layers)
      → ((p : Point) → Contains (positions_of layer) p → H p)
      → IsAtMost H (IsInSome positions_of later)
  pushed_within {H = H} {layers = layers} {later = later} true layer e within more =
      held_from_all H later
      (subst (All (λ l. All H (positions_of l))) (sym e)
      (All-push (λ l. All H (positions_of l)) layers layer
      (all_from_held H layers within) (all_from_each H (positions_of layer) more)))
  pushed_within {H = H} false layer e within more =
      subst (λ (ls : List L). IsAtMost H (IsInSome positions_of ls)) (sym e) within

  -- one of a single position is added, which is held or is q
  pub pushed_first : {layers later : List L} (b : Bool) (layer : L) {none : List Point}
      {first q : Point} → later ≡ (if b then layers ++ layer ∷ [] else layers) → none ≡ []
      → IsAtMostWith (Contains none) (Contains (positions_of layer)) first
      → IsInSome positions_of layers first ⊎ (first ≡ q)
      → IsAtMostWith (IsInSome positions_of layers) (IsInSome positions_of later) q
  pushed_first {layers = layers} b layer {first = first} {q = q} is empty one at =
      let H : Point → Type 0 = λ p. IsInSome positions_of layers p ⊎ (p ≡ q) in
      pushed_within {H = H} b layer is (λ p h. inl h) (λ p h. ⊎_elim
      (λ o. absurd (nothing_contained p (subst (λ (ps : List Point). Contains ps p) empty o)))
      (λ e. subst H (sym e) at) (one p h))
