-- A walk from the first item to the last is the line list.
-- Lemmas: walk_is_line_list.
use Rattle.std.proofs.Common.{◌≡◌, List, [], ◌∷◌, subst, refl}
use mathlib.Core.Logic.{◌⊎◌, inl, inr}
use Rattle.std.specs.Prelude.{All, AllPairs}
use Rattle.std.proofs.lemmas.List.Elements.{All-nil, All-cons}
use Rattle.std.proofs.lemmas.List.Kept.{AllPairs-cons}
use Rattle.plane.specs.{Fraction, IsBefore, IsLineList, IsSame, Item, Meets, Triangulation}
use Rattle.{plane.proofs.Indexes.no_pairs, plane_theorems.specs.GoesOn, plane_theorems.specs.IsWalk}
use Rattle.plane_theorems.proofs.Delaunay.Points.Members.{contained, Member, member}
use Rattle.plane_theorems.proofs.Delaunay.Segments.LineItems.{line_items_are_ordered, Meeting}
use Rattle.plane_theorems.proofs.Segments.Items.Orders.{before_through}

all_of : {X : Type 0} (P : X → Type 0) (xs : List X) → ((x : X) → Member x xs → P x) → All P xs
all_of P [] f = All-nil P
all_of P (x ∷ xs) f = All-cons P x xs (f x (inl refl)) (all_of P xs (λ y m. f y (inr m)))

module _ (t : Triangulation) (c : Meeting t) (p q : Fraction) (apart : ¬ IsSame p q) where
  -- what comes after m is among the items after it
  listed_after : (m : Item) (ms : List Item) → GoesOn t p q m ms → (k : Item) → Meets t p q k
      → IsBefore t p q m k → Member k ms
  listed_after m [] last k met o = absurd (last.none_after k met o)
  listed_after m (n ∷ ns) g k met o =
      go (line_items_are_ordered t c p q apart n k g.0.met met) (listed_after n ns g.1 k met)
    where
      go : (n ≡ k) ⊎ (IsBefore t p q n k ⊎ IsBefore t p q k n) → (IsBefore t p q n k → Member k ns)
          → Member k (n ∷ ns)
      go (inl e) later = inl e
      go (inr (inl r)) later = inr (later r)
      go (inr (inr r)) later = absurd (g.0.none_between k met o r)

  met_after : (m : Item) (ms : List Item) → GoesOn t p q m ms → (k : Item) → Member k ms
      → Meets t p q k
  met_after m [] g k i = absurd i
  met_after m (n ∷ ns) g k (inl e) = subst (Meets t p q) e g.0.met
  met_after m (n ∷ ns) g k (inr i) = met_after n ns g.1 k i

  after_all : (m : Item) (ms : List Item) → GoesOn t p q m ms → (k : Item) → Member k ms
      → IsBefore t p q m k
  after_all m [] g k i = absurd i
  after_all m (n ∷ ns) g k (inl e) = subst (IsBefore t p q m) e g.0.after
  after_all m (n ∷ ns) g k (inr i) =
      before_through t p q apart m n k g.0.after (after_all n ns g.1 k i)

  ordered_after : (m : Item) (ms : List Item) → GoesOn t p q m ms
      → AllPairs (IsBefore t p q) (m ∷ ms)
  ordered_after m [] g = AllPairs-cons (IsBefore t p q) m []
      (all_of (IsBefore t p q m) [] (λ x i. absurd i)) (no_pairs (IsBefore t p q))
  ordered_after m (n ∷ ns) g = AllPairs-cons (IsBefore t p q) m (n ∷ ns) (all_of (IsBefore t p q m)
      (n ∷ ns) (λ x i. after_all m (n ∷ ns) g x i)) (ordered_after n ns g.1)

  -- a walk is a line list
  pub walk_is_line_list : (items : List Item) → IsWalk t p q items → IsLineList t p q items
  walk_is_line_list [] none = record {
    met = λ _ m i. absurd (member m [] i);
    complete = λ _ m met. absurd (none m met);
    ordered = λ _. no_pairs (IsBefore t p q);
    equal_ends = λ e. absurd (apart e);
  }
  walk_is_line_list (m ∷ ms) w = record {
    met = λ _ k i. met k (member k (m ∷ ms) i);
    complete = λ _ k met. contained k (m ∷ ms) (complete k met);
    ordered = λ _. ordered_after m ms w.1;
    equal_ends = λ e. absurd (apart e);
  }
    where
      met : (k : Item) → Member k (m ∷ ms) → Meets t p q k
      met k (inl e) = subst (Meets t p q) e w.0.met
      met k (inr i) = met_after m ms w.1 k i

      complete : (k : Item) → Meets t p q k → Member k (m ∷ ms)
      complete k met = go (line_items_are_ordered t c p q apart m k w.0.met met)
        where
          go : (m ≡ k) ⊎ (IsBefore t p q m k ⊎ IsBefore t p q k m) → Member k (m ∷ ms)
          go (inl e) = inl e
          go (inr (inl o)) = inr (listed_after m ms w.1 k met o)
          go (inr (inr o)) = absurd (w.0.none_before k met o)
