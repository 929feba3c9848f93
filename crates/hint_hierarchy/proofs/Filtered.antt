-- The positions of a layer, all in its filter: as the layer changes, and as a filter is made.
-- Notions: HasBit; filtered_after, filtered_next.
use Rattle.std.proofs.Common.{◌≡◌, ◌∙◌, ◌+◌, ℕ, List, map, get_or, Some, sym, ap, arith}
use Rattle.std.specs.Prelude.{All, Bool, true, Contains, slice_get}
use Rattle.std.proofs.lemmas.List.{get_or-map, length-map}
use Rattle.std.proofs.lemmas.List.Elements.{All-contains}
use Rattle.std.proofs.lemmas.Option.{get_or_from_slice_get, slice_get_within}
use Rattle.{hint_hierarchy.specs.Bloom.may_have, plane.specs.IsAtMost, plane.specs.Point}
use Rattle.hint_hierarchy.proofs.Held.{all_before_next, all_from_each, AllBefore}

-- the bit of a position is set
abbrev pub HasBit : List Bool → Point → Type 0
HasBit bits p = may_have bits p ≡ true

-- after a removal
pub filtered_after : (bits : List Bool) (old new : List Point) → All (HasBit bits) old
    → IsAtMost (Contains old) (Contains new) → All (HasBit bits) new
filtered_after bits old new all fewer =
    all_from_each (HasBit bits) new (λ p h. All-contains (HasBit bits) old p all (fewer p h))

-- one more vertex of a list is added to the filter
pub filtered_next : {V : Type 0} (place : V → Point) (vs : List V) (i : ℕ) (v : V)
    (bits bits' : List Bool) → slice_get vs i ≡ Some v → HasBit bits' (place v)
    → ((p : Point) → HasBit bits p → HasBit bits' p) → AllBefore (HasBit bits) i (map place vs)
    → AllBefore (HasBit bits') (i + 1) (map place vs)
filtered_next place vs i v bits bits' had has keeps before =
    let within = slice_get_within vs i v had in
    all_before_next (HasBit bits') i (map place vs) (place v)
    (sym (get_or-map place vs i v (place v) within ∙ ap place (get_or_from_slice_get vs i v v had)))
    (omega (arith, within, length-map vs place)) has
    (λ k d under k-in. keeps (get_or (map place vs) k d) (before k d under k-in))
