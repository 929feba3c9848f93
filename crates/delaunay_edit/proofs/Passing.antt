-- What a walk along a segment has passed, and what is left of it.
-- Notions: HasPassed; later_ones, earlier_ones, none_passed, one_more_passed, list_with,
-- all_passed, passed_kept.
use Rattle.std.proofs.Common.{◌≡◌, [], ◌∷◌, ◌++◌, ◌∙◌}
use Rattle.std.proofs.Common.{append-nil, suc, List, Some, None, sym, ap, subst, append_assoc}
use Rattle.std.proofs.Common.{arith, inl, inr}
use Rattle.std.specs.Prelude.{ℤ, Contains, AllPairs}
use Rattle.std.specs.Borrow.{Bor}
use Rattle.std.proofs.lemmas.List.Elements.{Contains-append_left}
use Rattle.plane.specs.{IsLineList, Item, Point, whole}
use Rattle.plane_theorems.proofs.{Contains-cases, Contains-none}
use Rattle.delaunay_legalization.specs.{IsTriangulated, State.State, state_of, triangulation_of}
use Rattle.{delaunay_legalization.proofs.contains_last, half_edge_dcel.specs.Contents}
use Rattle.delaunay_location.specs.{AreLeft, GivesNext, Intersection, IsReady, item_in}
use Rattle.delaunay_location.specs.{LineIntersectionIterator, WalksLine}

-- each later one of a list in an order comes after the one in the middle
pub later_ones : {X : Type 0} (R : X → X → Type 0) (passed : List X) (k : X) (others : List X) →
    AllPairs R ((passed ++ k ∷ []) ++ others) → (x : X) → Contains others x → R k x
later_ones R [] k others o x c =
    subst (R k) c.2 (o 0 (suc c.0) x (omega arith) (omega (arith, c.1)))
later_ones R (y ∷ ys) k others o x c =
    later_ones R ys k others
    (λ i j d lt within. o (suc i) (suc j) d (omega (arith, lt)) (omega (arith, within))) x c

-- each earlier one of a list in an order comes before the one in the middle
pub earlier_ones : {X : Type 0} (R : X → X → Type 0) (passed : List X) (k : X) (others : List X) →
    AllPairs R ((passed ++ k ∷ []) ++ others) → (x : X) → Contains passed x → R x k
earlier_ones R [] k others o x c = absurd (Contains-none x c)
earlier_ones R (y ∷ ys) k others o x c = elim (Contains-cases y ys x c) [
  | inl is ↦ subst (λ z. R z k) is (later_ones R [] y ((ys ++ k ∷ []) ++ others) o k
      (Contains-append_left (ys ++ k ∷ []) others k (contains_last ys k)))
  | inr later ↦ earlier_ones R ys k others
      (λ a b d lt within. o (suc a) (suc b) d (omega (arith, lt)) (omega (arith, within))) x later
]

module _ {V D U F P S : Type 0} (at : V → Point) (number : S → ℤ)
    (IsSite IsCovered : P → Point → Type 0) (s : State V D U F) (p q : Point) where
  -- these items have been passed
  pub record HasPassed (passed : List Item)
      (now : LineIntersectionIterator V D U F P S) : Type 0 where
    pub ready : IsReady at number IsSite IsCovered now
    pub state : state_of now.dcel.now ≡ s
    pub others : List Item
    pub line_list : IsLineList (triangulation_of at s) (whole p) (whole q) (passed ++ others)
    pub are_left : AreLeft at number now others

  -- at the beginning no item has been passed
  pub none_passed : (it : LineIntersectionIterator V D U F P S)
      → IsReady at number IsSite IsCovered it → WalksLine at number s p q it → HasPassed [] it
  none_passed it ready walks = record {
    ready = ready;
    state = walks.state;
    others = walks.items;
    line_list = walks.line_list;
    are_left = walks.are_left;
  }

  module _ (passed : List Item) (now after : LineIntersectionIterator V D U F P S)
      (so_far : HasPassed passed now) where
    -- one more
    module _ (x : Intersection V D U F) (gives : GivesNext at number now (Some x) after) where
      -- after the call it has been passed, too
      pub one_more_passed : IsReady at number IsSite IsCovered after
          → HasPassed (passed ++ item_in x ∷ []) after
      one_more_passed ready =
          let n = gives.gives so_far.others so_far.are_left in record {
            ready = ready;
            state = ap (λ (d : Bor (Contents V D U F)). state_of d.now) gives.same_mesh
                ∙ so_far.state;
            others = n.1.0;
            line_list = subst (IsLineList (triangulation_of at s) (whole p) (whole q))
                (ap (λ (l : List Item). passed ++ l) n.1.1
                ∙ sym (append_assoc passed (item_in x ∷ []) n.1.0))
                so_far.line_list;
            are_left = n.1.2;
          }

      -- the line list is what was passed, this item and the others
      pub list_with : (others : List Item) × IsLineList (triangulation_of at s) (whole p) (whole q)
          ((passed ++ item_in x ∷ []) ++ others)
      list_with =
          let n = gives.gives so_far.others so_far.are_left in (
            n.1.0,
            subst (IsLineList (triangulation_of at s) (whole p) (whole q))
                (ap (λ (l : List Item). passed ++ l) n.1.1
                ∙ sym (append_assoc passed (item_in x ∷ []) n.1.0))
                so_far.line_list,
          )

    -- all of them
    pub all_passed : GivesNext at number now None after
        → IsLineList (triangulation_of at s) (whole p) (whole q) passed
    all_passed gives = subst (IsLineList (triangulation_of at s) (whole p) (whole q))
        (ap (λ (l : List Item). passed ++ l) (gives.gives so_far.others so_far.are_left).0
        ∙ append-nil passed)
        so_far.line_list

-- and the mesh is that of a triangulation
pub passed_kept : {V D U F P S : Type 0} {at : V → Point} {number : S → ℤ}
    {IsSite IsCovered : P → Point → Type 0} {s : State V D U F} {p q : Point} {passed : List Item}
    {now : LineIntersectionIterator V D U F P S}
    → HasPassed at number IsSite IsCovered s p q passed now → IsTriangulated at s
passed_kept {at = at} so_far =
    subst (IsTriangulated at) so_far.state so_far.ready.over.embedding.kept
