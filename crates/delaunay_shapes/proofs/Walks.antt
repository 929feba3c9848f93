-- What holds of each item of a line, one call after another.
-- Notions: IsWalking; walking_begins, item_mesh, walking_goes_on, stops_at, walking_ends.
use Rattle.std.proofs.Common.{◌≡◌, ◌++◌, [], ◌∷◌, ◌∙◌, List, Some, None}
use Rattle.std.proofs.Common.{refl, sym, ap, subst, append-nil, append_assoc, inl, inr}
use Rattle.std.specs.Prelude.{ℤ, Contains}
use Rattle.std.proofs.lemmas.List.Elements.{Contains-push_cases, Contains-append_right}
use Rattle.plane.specs.{Item, Point}
use Rattle.plane_theorems.proofs.{Contains-head, Contains-none}
use Rattle.delaunay_location.specs.{AreLeft, GivesNext, Intersection, IsReady, item_in}
use Rattle.delaunay_location.specs.{LineIntersectionIterator, mesh_of}

one_more : (Holds : Item → Type 0) (passed : List Item) (k : Item)
    → ((j : Item) → Contains passed j → Holds j) → Holds k → (j : Item)
    → Contains (passed ++ k ∷ []) j → Holds j
one_more Holds passed k all here j x = elim (Contains-push_cases passed k j x) as (λ _. Holds j) [
  | inl y ↦ all j y
  | inr e ↦ subst Holds e here
]

module _ {V D U F P S : Type 0} (at : V → Point) (number : S → ℤ)
    (IsSite IsCovered : P → Point → Type 0) (Holds : Item → Type 0) where
  -- what was passed of the walk
  pub record IsWalking (start now : LineIntersectionIterator V D U F P S) : Type 0 where
    pub ready : IsReady at number IsSite IsCovered now
    pub same_mesh : now.dcel ≡ start.dcel
    pub passed : (items : List Item) → AreLeft at number start items
        → (passed : List Item) × (others : List Item) × (items ≡ passed ++ others)
        × ((k : Item) → Contains passed k → Holds k) × AreLeft at number now others

module _ {V D U F P S : Type 0} {at : V → Point} {number : S → ℤ}
    {IsSite IsCovered : P → Point → Type 0} {Holds : Item → Type 0} where
  -- a walk begins before the first item
  pub walking_begins : {start : LineIntersectionIterator V D U F P S}
      → IsReady at number IsSite IsCovered start
      → IsWalking at number IsSite IsCovered Holds start start
  walking_begins ready = record {
    ready = ready;
    same_mesh = refl;
    passed = λ items left. ([], items, refl, (λ k x. absurd (Contains-none k x)), left);
  }

  module _ {start now : LineIntersectionIterator V D U F P S}
      (walking : IsWalking at number IsSite IsCovered Holds start now) where
    -- an item is one of the mesh
    pub item_mesh : {x : Intersection V D U F} {after : LineIntersectionIterator V D U F P S}
        → GivesNext at number now (Some x) after → mesh_of x ≡ start.dcel
    item_mesh gives =
        (gives.gives walking.ready.items walking.ready.are_left).0 ∙ walking.same_mesh

    -- an item of which it holds is passed
    pub walking_goes_on : {x : Intersection V D U F}
        {after : LineIntersectionIterator V D U F P S} → GivesNext at number now (Some x) after
        → IsReady at number IsSite IsCovered after → Holds (item_in x)
        → IsWalking at number IsSite IsCovered Holds start after
    walking_goes_on {x = x} gives ready here = record {
      ready = ready;
      same_mesh = gives.same_mesh ∙ walking.same_mesh;
      passed = λ items left.
          let b = walking.passed items left in
          let n = gives.gives b.1 b.4 in (
            b.0 ++ item_in x ∷ [],
            n.1.0,
            b.2 ∙ ap (λ (l : List Item). b.0 ++ l) n.1.1
                ∙ sym (append_assoc b.0 (item_in x ∷ []) n.1.0),
            one_more Holds b.0 (item_in x) b.3 here,
            n.1.2,
          );
    }

    -- an item of which it does not hold is one of them
    pub stops_at : {x : Intersection V D U F} {after : LineIntersectionIterator V D U F P S}
        → GivesNext at number now (Some x) after → ¬ Holds (item_in x) → (items : List Item)
        → AreLeft at number start items → ¬ ((k : Item) → Contains items k → Holds k)
    stops_at {x = x} gives fails items left all =
        let b = walking.passed items left in
        let n = gives.gives b.1 b.4 in
        fails (all (item_in x) (subst (λ (l : List Item). Contains l (item_in x))
        (sym (b.2 ∙ ap (λ (l : List Item). b.0 ++ l) n.1.1))
        (Contains-append_right b.0 (item_in x ∷ n.1.0) (item_in x)
        (Contains-head (item_in x) n.1.0))))

    -- where no item is left, it holds of all
    pub walking_ends : {after : LineIntersectionIterator V D U F P S}
        → GivesNext at number now None after → (items : List Item)
        → AreLeft at number start items → (k : Item) → Contains items k → Holds k
    walking_ends gives items left =
        let b = walking.passed items left in
        let n = gives.gives b.1 b.4 in
        subst (λ (l : List Item). (k : Item) → Contains l k → Holds k)
        (sym (b.2 ∙ ap (λ (l : List Item). b.0 ++ l) n.0 ∙ append-nil b.0)) b.3
