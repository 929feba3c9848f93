-- Each segment has a walk: what it meets of vertices and edges, one by one, is put in a list in
-- order.
-- Notions: InOrder, Walked; ends_differ, walk_of, each_walk.
use Rattle.std.proofs.Common.{◌≡◌, ◌<◌, ◌≤◌, ◌+◌, [], ◌∷◌, ◌∙◌}
use Rattle.std.proofs.Common.{ℕ, zero, suc, List, length, arith, ap, refl, sym, subst}
use Rattle.std.proofs.Common.{subst₂}
use mathlib.Core.Logic.{◌⊎◌, inl, inr}
use native.Mathlib.Decide.{dec_lt}
use Rattle.std.specs.Prelude.{pos, ◌*ℤ◌, ⊤}
use Rattle.plane.specs.{Fraction, IsBefore, IsEdge, IsSame, IsSamePair, IsVertex, Item, Meets}
use Rattle.plane.specs.{MeetsWithin, OnSegment, right, side, Triangulation, TurnsLeft, vertex}
use Rattle.plane.proofs.{both_signs, decide_below, decide_both, decide_either, decide_on_segment}
use Rattle.plane.proofs.{decided_by, Decision, differences_both_positive, if_right, reach, right_if}
use Rattle.plane.proofs.{same-refl, within_itself}
use Rattle.plane.proofs.Decisions.{decide_meets_within, decide_turns_left}
use Rattle.plane_theorems.specs.{GoesOn, IsWalk}
use Rattle.plane_theorems.proofs.Delaunay.Points.AlongSegment.{before}
use Rattle.plane_theorems.proofs.{Delaunay.Points.Bracket.bracket, Segments.Items.Begins.signs_of}
use Rattle.plane_theorems.proofs.Delaunay.Points.Members.{contained, Member, member}
use Rattle.plane_theorems.proofs.Delaunay.Segments.LineItems.{line_items_are_ordered, Meeting}
use Rattle.plane_theorems.proofs.Delaunay.Segments.LineItems.{not_met_once, turned_segment}
use Rattle.plane_theorems.proofs.Segments.Items.Orders.{before_through, not_both_before}
use Rattle.plane_theorems.proofs.Segments.Items.OverlapDecided.{decide_overlap}
use Rattle.plane.specs.Line as L

-- on the right of a line, or not
decide_right : (u v x : Fraction) → Decision (side u v x ≡ right)
unfolding bracket
decide_right u v x =
    decided_by (if_right u v x, right_if u v x) (decide_below (bracket u v x) (pos 0))

decide_vertex : (t : Triangulation) (i : ℕ) → Decision (IsVertex t i)
decide_vertex t i = go (dec_lt i (length t.points))
  where
    go : Dec (i < length t.points) → Decision (IsVertex t i)
    go (yes h) = inl h
    go (no n) = inr n

-- the two ends of a pair, in either order
abbrev OfPair : ℕ → ℕ → Item → Type 0
OfPair i j (L.at_vertex k) = ⊥
OfPair i j (L.across a b) = IsSamePair a b i j
OfPair i j (L.along a b) = IsSamePair a b i j

module _ (t : Triangulation) (c₀ : Meeting t) (p q : Fraction) (apart : ¬ IsSame p q) where
  -- the ends of an edge differ
  pub ends_differ : (i j : ℕ) → IsEdge t i j → ¬ IsSame (vertex t i) (vertex t j)
  ends_differ i j e s = c₀.none_within i j i e (c₀.ends i j e).0
      (within_itself (vertex t i) (vertex t j) (vertex t i) s (same-refl (vertex t i)))

  decide_across : (i j : ℕ) → IsEdge t i j → Decision (Meets t p q (L.across i j))
  decide_across i j e = go (decide_meets_within p q (vertex t i) (vertex t j))
      (decide_either (decide_turns_left (vertex t i) (vertex t j) q)
      (decide_both (decide_on_segment (vertex t i) (vertex t j) q)
      (decide_right (vertex t i) (vertex t j) p)))
    where
      go : Decision (MeetsWithin p q (vertex t i) (vertex t j)) →
          Decision (TurnsLeft (vertex t i) (vertex t j) q ⊎
          (OnSegment (vertex t i) (vertex t j) q × (side (vertex t i) (vertex t j) p ≡ right))) →
          Decision (Meets t p q (L.across i j))
      go (inl a) (inl b) = inl (e, a, b)
      go (inr a) b = inr (λ m. a m.1)
      go a (inr b) = inr (λ m. b m.2)

  decide_along : (i j : ℕ) → IsEdge t i j → Decision (Meets t p q (L.along i j))
  decide_along i j e = go (decide_overlap p q (vertex t i) (vertex t j) apart)
    where
      go : Decision (L.OverlapAlong p q (vertex t i) (vertex t j))
          → Decision (Meets t p q (L.along i j))
      go (inl o) = inl (e, o)
      go (inr n) = inr (λ m. n m.1)

  -- ---- an edge is at most one item
  not_across_both : (i j : ℕ) → Meets t p q (L.across i j) → ¬ Meets t p q (L.across j i)
  not_across_both i j m n = both_signs (signs_of t p q apart i j (ends_differ i j m.0) m).left
      (signs_of t p q apart j i (ends_differ j i n.0) n).right

  not_along_both : (i j : ℕ) → Meets t p q (L.along i j) → ¬ Meets t p q (L.along j i)
  not_along_both i j m n = differences_both_positive (reach p q (vertex t j) *ℤ (vertex t i).w)
      (reach p q (vertex t i) *ℤ (vertex t j).w) (before p q (vertex t i) (vertex t j) m.1)
      (before p q (vertex t j) (vertex t i) n.1)

  not_across_and_along : (a b c d i j : ℕ) → IsSamePair a b i j → IsSamePair c d i j
      → Meets t p q (L.across a b) → Meets t p q (L.along c d) → ⊥
  not_across_and_along a b c d i j (inl r) (inl s) m n =
      not_met_once t c₀ p q apart a b c d m n
      (λ x h. subst₂ (λ k l. OnSegment (vertex t k) (vertex t l) x)
      (s.0 ∙ sym r.0) (s.1 ∙ sym r.1) h)
  not_across_and_along a b c d i j (inr r) (inr s) m n =
      not_met_once t c₀ p q apart a b c d m n
      (λ x h. subst₂ (λ k l. OnSegment (vertex t k) (vertex t l) x)
      (s.0 ∙ sym r.0) (s.1 ∙ sym r.1) h)
  not_across_and_along a b c d i j (inl r) (inr s) m n =
      not_met_once t c₀ p q apart a b c d m n
      (λ x h. subst₂ (λ k l. OnSegment (vertex t k) (vertex t l) x)
      (s.1 ∙ sym r.0) (s.0 ∙ sym r.1) (turned_segment (vertex t c) (vertex t d) x h))
  not_across_and_along a b c d i j (inr r) (inl s) m n =
      not_met_once t c₀ p q apart a b c d m n
      (λ x h. subst₂ (λ k l. OnSegment (vertex t k) (vertex t l) x)
      (s.1 ∙ sym r.0) (s.0 ∙ sym r.1) (turned_segment (vertex t c) (vertex t d) x h))

  one_of_pair : (i j : ℕ) (m k : Item) → OfPair i j m → OfPair i j k → Meets t p q m
      → Meets t p q k → m ≡ k
  one_of_pair i j (L.at_vertex a) k r s hm hk = absurd r
  one_of_pair i j (L.across a b) (L.at_vertex c) r s hm hk = absurd s
  one_of_pair i j (L.along a b) (L.at_vertex c) r s hm hk = absurd s
  one_of_pair i j (L.across a b) (L.along c d) r s hm hk =
      absurd (not_across_and_along a b c d i j r s hm hk)
  one_of_pair i j (L.along a b) (L.across c d) r s hm hk =
      absurd (not_across_and_along c d a b i j s r hk hm)
  one_of_pair i j (L.across a b) (L.across c d) (inl r) (inl s) hm hk =
      λ n. L.across ((r.0 ∙ sym s.0) n) ((r.1 ∙ sym s.1) n)
  one_of_pair i j (L.across a b) (L.across c d) (inr r) (inr s) hm hk =
      λ n. L.across ((r.0 ∙ sym s.0) n) ((r.1 ∙ sym s.1) n)
  one_of_pair i j (L.across a b) (L.across c d) (inl r) (inr s) hm hk =
      absurd (not_across_both a b hm
      (subst₂ (λ k l. Meets t p q (L.across k l)) (s.0 ∙ sym r.1) (s.1 ∙ sym r.0) hk))
  one_of_pair i j (L.across a b) (L.across c d) (inr r) (inl s) hm hk =
      absurd (not_across_both a b hm
      (subst₂ (λ k l. Meets t p q (L.across k l)) (s.0 ∙ sym r.1) (s.1 ∙ sym r.0) hk))
  one_of_pair i j (L.along a b) (L.along c d) (inl r) (inl s) hm hk =
      λ n. L.along ((r.0 ∙ sym s.0) n) ((r.1 ∙ sym s.1) n)
  one_of_pair i j (L.along a b) (L.along c d) (inr r) (inr s) hm hk =
      λ n. L.along ((r.0 ∙ sym s.0) n) ((r.1 ∙ sym s.1) n)
  one_of_pair i j (L.along a b) (L.along c d) (inl r) (inr s) hm hk =
      absurd (not_along_both a b hm
      (subst₂ (λ k l. Meets t p q (L.along k l)) (s.0 ∙ sym r.1) (s.1 ∙ sym r.0) hk))
  one_of_pair i j (L.along a b) (L.along c d) (inr r) (inl s) hm hk =
      absurd (not_along_both a b hm
      (subst₂ (λ k l. Meets t p q (L.along k l)) (s.0 ∙ sym r.1) (s.1 ∙ sym r.0) hk))

  -- which item an edge is, if any
  abbrev ItemOf : ℕ → ℕ → Type 0
  ItemOf i j = ((m : Item) × OfPair i j m × Meets t p q m)
      ⊎ ((m : Item) → OfPair i j m → ¬ Meets t p q m)

  item_of : (i j : ℕ) → IsEdge t i j → IsEdge t j i → ItemOf i j
  item_of i j e f =
      go (decide_across i j e) (decide_across j i f) (decide_along i j e) (decide_along j i f)
    where
      go : Decision (Meets t p q (L.across i j)) → Decision (Meets t p q (L.across j i)) →
          Decision (Meets t p q (L.along i j)) → Decision (Meets t p q (L.along j i)) → ItemOf i j
      go (inl a) b c d = inl (L.across i j, inl (refl, refl), a)
      go (inr a) (inl b) c d = inl (L.across j i, inr (refl, refl), b)
      go (inr a) (inr b) (inl c) d = inl (L.along i j, inl (refl, refl), c)
      go (inr a) (inr b) (inr c) (inl d) = inl (L.along j i, inr (refl, refl), d)
      go (inr a) (inr b) (inr c) (inr d) = inr none
        where
          none : (m : Item) → OfPair i j m → ¬ Meets t p q m
          none (L.at_vertex k) r met = r
          none (L.across k l) (inl r) met =
              a (subst₂ (λ k l. Meets t p q (L.across k l)) r.0 r.1 met)
          none (L.across k l) (inr r) met =
              b (subst₂ (λ k l. Meets t p q (L.across k l)) r.0 r.1 met)
          none (L.along k l) (inl r) met = c (subst₂ (λ k l. Meets t p q (L.along k l)) r.0 r.1 met)
          none (L.along k l) (inr r) met = d (subst₂ (λ k l. Meets t p q (L.along k l)) r.0 r.1 met)

  -- ---- a list of items that are met, each before all after it
  -- each item of the list is met, before all after it
  abbrev pub InOrder : List Item → Type 0
  InOrder [] = ⊤
  InOrder (m ∷ ms) = Meets t p q m × ((k : Item) → Member k ms → IsBefore t p q m k) × InOrder ms

  not_itself : (m n : Item) → m ≡ n → ¬ IsBefore t p q m n
  not_itself m n e r = let s = subst (IsBefore t p q m) (sym e) r in
      not_both_before t p q apart m m s s

  record Inserted (m : Item) (ms : List Item) : Type 0 where
    list : List Item
    in_order : InOrder list
    has : Member m list
    keeps : (k : Item) → Member k ms → Member k list
    only : (k : Item) → Member k list → (m ≡ k) ⊎ Member k ms
    short : length list ≤ suc (length ms)

  insert : (m : Item) → Meets t p q m → (ms : List Item) → InOrder ms → Inserted m ms
  insert m met [] o = record {
    list = m ∷ [];
    in_order = (met, (λ k i. absurd i), tt);
    has = inl refl;
    keeps = λ k i. absurd i;
    only = λ k i. i;
    short = omega arith;
  }
  insert m met (n ∷ ms) o =
      go (line_items_are_ordered t c₀ p q apart m n met o.0) (insert m met ms o.2)
    where
      go : (m ≡ n) ⊎ (IsBefore t p q m n ⊎ IsBefore t p q n m) → Inserted m ms → Inserted m (n ∷ ms)
      go (inl e) rest = record {
        list = n ∷ ms;
        in_order = o;
        has = inl (sym e);
        keeps = λ k i. i;
        only = λ k i. inr i;
        short = omega arith;
      }
      go (inr (inl r)) rest = record {
        list = m ∷ n ∷ ms;
        in_order = (met, all, o);
        has = inl refl;
        keeps = λ k i. inr i;
        only = λ k i. i;
        short = omega arith;
      }
        where
          all : (k : Item) → Member k (n ∷ ms) → IsBefore t p q m k
          all k (inl e) = subst (IsBefore t p q m) e r
          all k (inr i) = before_through t p q apart m n k r (o.1 k i)
      go (inr (inr r)) rest = record {
        list = n ∷ rest.list;
        in_order = (o.0, all, rest.in_order);
        has = inr rest.has;
        keeps = keeps;
        only = only;
        short = omega (arith, rest.short);
      }
        where
          all : (k : Item) → Member k rest.list → IsBefore t p q n k
          all k i = elim (rest.only k i) [ inl e ↦ subst (IsBefore t p q n) e r | inr j ↦ o.1 k j ]

          keeps : (k : Item) → Member k (n ∷ ms) → Member k (n ∷ rest.list)
          keeps k (inl e) = inl e
          keeps k (inr i) = inr (rest.keeps k i)

          only : (k : Item) → Member k (n ∷ rest.list) → (m ≡ k) ⊎ Member k (n ∷ ms)
          only k (inl e) = inr (inl e)
          only k (inr i) = elim (rest.only k i) [ inl e ↦ inl e | inr j ↦ inr (inr j) ]

  -- ---- all that is met of a kind, of which there are n
  record Collected (C : Item → Type 0) (n : ℕ) : Type 0 where
    list : List Item
    in_order : InOrder list
    complete : (k : Item) → C k → Meets t p q k → Member k list
    short : length list ≤ n

  abbrev IsBelow : ℕ → Item → Type 0
  IsBelow n (L.at_vertex i) = i < n
  IsBelow n (L.across i j) = ⊥
  IsBelow n (L.along i j) = ⊥

  vertices : (n : ℕ) → Collected (IsBelow n) n
  vertices zero = record { list = []; in_order = tt; complete = none; short = omega arith }
    where
      none : (k : Item) → IsBelow zero k → Meets t p q k → Member k []
      none (L.at_vertex i) h met = omega (arith, h)
      none (L.across i j) h met = h
      none (L.along i j) h met = h
  vertices (suc n) =
      go (vertices n) (decide_both (decide_vertex t n) (decide_on_segment p q (vertex t n)))
    where
      last : (i : ℕ) → i < suc n → (i ≡ n) ⊎ (i < n)
      last i h = grind arith

      go : Collected (IsBelow n) n → Decision (Meets t p q (L.at_vertex n))
          → Collected (IsBelow (suc n)) (suc n)
      go c (inl met) = with_it (insert (L.at_vertex n) met c.list c.in_order)
        where
          with_it : Inserted (L.at_vertex n) c.list → Collected (IsBelow (suc n)) (suc n)
          with_it s = record {
            list = s.list;
            in_order = s.in_order;
            complete = complete;
            short = omega (arith, s.short, c.short);
          }
            where
              complete : (k : Item) → IsBelow (suc n) k → Meets t p q k → Member k s.list
              complete (L.at_vertex i) h met = elim (last i h) [
                | inl e ↦ subst (λ k. Member (L.at_vertex k) s.list) (sym e) s.has
                | inr l ↦ s.keeps (L.at_vertex i) (c.complete (L.at_vertex i) l met)
              ]
              complete (L.across i j) h met = absurd h
              complete (L.along i j) h met = absurd h
      go c (inr none) =
          record {
            list = c.list;
            in_order = c.in_order;
            complete = complete;
            short = omega (arith, c.short);
          }
        where
          complete : (k : Item) → IsBelow (suc n) k → Meets t p q k → Member k c.list
          complete (L.at_vertex i) h met = elim (last i h) [
            | inl e ↦ absurd (none (subst (λ k. Meets t p q (L.at_vertex k)) e met))
            | inr l ↦ c.complete (L.at_vertex i) l met
          ]
          complete (L.across i j) h met = absurd h
          complete (L.along i j) h met = absurd h

  -- the item's edge is in the list
  abbrev IsListed : List (ℕ × ℕ) → Item → Type 0
  IsListed es (L.at_vertex i) = ⊥
  IsListed es (L.across i j) = Member (i, j) es ⊎ Member (j, i) es
  IsListed es (L.along i j) = Member (i, j) es ⊎ Member (j, i) es

  first_or_later : (e : ℕ × ℕ) (es : List (ℕ × ℕ)) (k : Item) → IsListed (e ∷ es) k
      → OfPair e.0 e.1 k ⊎ IsListed es k
  first_or_later e es (L.at_vertex i) h = absurd h
  first_or_later e es (L.across i j) (inl (inl r)) =
      inl (inl (ap (λ (s : ℕ × ℕ). s.0) (sym r), ap (λ (s : ℕ × ℕ). s.1) (sym r)))
  first_or_later e es (L.across i j) (inl (inr m)) = inr (inl m)
  first_or_later e es (L.across i j) (inr (inl r)) =
      inl (inr (ap (λ (s : ℕ × ℕ). s.1) (sym r), ap (λ (s : ℕ × ℕ). s.0) (sym r)))
  first_or_later e es (L.across i j) (inr (inr m)) = inr (inr m)
  first_or_later e es (L.along i j) (inl (inl r)) =
      inl (inl (ap (λ (s : ℕ × ℕ). s.0) (sym r), ap (λ (s : ℕ × ℕ). s.1) (sym r)))
  first_or_later e es (L.along i j) (inl (inr m)) = inr (inl m)
  first_or_later e es (L.along i j) (inr (inl r)) =
      inl (inr (ap (λ (s : ℕ × ℕ). s.1) (sym r), ap (λ (s : ℕ × ℕ). s.0) (sym r)))
  first_or_later e es (L.along i j) (inr (inr m)) = inr (inr m)

  -- the items of the listed edges and of the first n vertices are collected
  abbrev Rest : ℕ → List (ℕ × ℕ) → Type 0
  Rest n es = Collected (λ k. IsListed es k ⊎ IsBelow n k) (length es + n)

  edges : (n : ℕ) → Collected (IsBelow n) n → (es : List (ℕ × ℕ))
      → ((i j : ℕ) → Member (i, j) es → IsEdge t i j)
      → Collected (λ k. IsListed es k ⊎ IsBelow n k) (length es + n)
  edges n c [] h = record {
    list = c.list;
    in_order = c.in_order;
    complete = complete;
    short = omega (arith, c.short);
  }
    where
      complete : (k : Item) → IsListed [] k ⊎ IsBelow n k → Meets t p q k → Member k c.list
      complete k (inr b) met = c.complete k b met
      complete (L.at_vertex i) (inl l) met = absurd l
      complete (L.across i j) (inl (inl l)) met = absurd l
      complete (L.across i j) (inl (inr l)) met = absurd l
      complete (L.along i j) (inl (inl l)) met = absurd l
      complete (L.along i j) (inl (inr l)) met = absurd l
  edges n c (e ∷ es) h = go (edges n c es (λ i j m. h i j (inr m)))
      (item_of e.0 e.1 (h e.0 e.1 (inl refl)) (flipped (h e.0 e.1 (inl refl))))
    where
      flipped : {i j : ℕ} → IsEdge t i j → IsEdge t j i
      flipped (inl e) = inr e
      flipped (inr e) = inl e

      go : Rest n es → ItemOf e.0 e.1 → Rest n (e ∷ es)
      go r (inl (m, of, met)) = with_it (insert m met r.list r.in_order)
        where
          with_it : Inserted m r.list → Rest n (e ∷ es)
          with_it s = record {
            list = s.list;
            in_order = s.in_order;
            complete = complete;
            short = omega (arith, s.short, r.short);
          }
            where
              complete : (k : Item) → IsListed (e ∷ es) k ⊎ IsBelow n k → Meets t p q k
                  → Member k s.list
              complete k (inr b) hk = s.keeps k (r.complete k (inr b) hk)
              complete k (inl l) hk = elim (first_or_later e es k l) [
                | inl o ↦ subst (λ x. Member x s.list) (one_of_pair e.0 e.1 m k of o met hk) s.has
                | inr later ↦ s.keeps k (r.complete k (inl later) hk)
              ]
      go r (inr none) =
          record {
            list = r.list;
            in_order = r.in_order;
            complete = complete;
            short = omega (arith, r.short);
          }
        where
          complete : (k : Item) → IsListed (e ∷ es) k ⊎ IsBelow n k → Meets t p q k
              → Member k r.list
          complete k (inr b) hk = r.complete k (inr b) hk
          complete k (inl l) hk =
              elim (first_or_later e es k l)
              [ inl o ↦ absurd (none k o hk) | inr later ↦ r.complete k (inl later) hk ]

  -- ---- from a list in order that has all to the walk
  goes_on : (m : Item) (ms : List Item) → InOrder (m ∷ ms) →
      ((k : Item) → Meets t p q k → IsBefore t p q m k → Member k ms) → GoesOn t p q m ms
  goes_on m [] o all = record { none_after = λ k met r. all k met r }
  goes_on m (n ∷ ms) o all = (
    record {
      met = o.2.0;
      after = o.1 n (inl refl);
      none_between = λ k met r. not_before k (all k met r);
    },
    goes_on n ms o.2
        (λ k met r. later k r (all k met (before_through t p q apart m n k (o.1 n (inl refl)) r))),
  )
    where
      not_before : (k : Item) → Member k (n ∷ ms) → ¬ IsBefore t p q k n
      not_before k (inl e) s = not_itself k n (sym e) s
      not_before k (inr i) s = not_both_before t p q apart n k (o.2.1 k i) s

      later : (k : Item) → IsBefore t p q n k → Member k (n ∷ ms) → Member k ms
      later k r (inl e) = absurd (not_itself n k e r)
      later k r (inr i) = i

  -- a list in order of all that is met is the walk
  pub walk_of : (ms : List Item) → InOrder ms → ((k : Item) → Meets t p q k → Member k ms)
      → IsWalk t p q ms
  walk_of [] o all = λ m met. all m met
  walk_of (m ∷ ms) o all = (
    record { met = o.0; none_before = λ k met. not_before k (all k met) },
    goes_on m ms o (λ k met r. later k r (all k met)),
  )
    where
      not_before : (k : Item) → Member k (m ∷ ms) → ¬ IsBefore t p q k m
      not_before k (inl e) s = not_itself k m (sym e) s
      not_before k (inr i) s = not_both_before t p q apart m k (o.1 k i) s

      later : (k : Item) → IsBefore t p q m k → Member k (m ∷ ms) → Member k ms
      later k r (inl e) = absurd (not_itself m k e r)
      later k r (inr i) = i

  -- a walk with no more items than there are vertices and edges
  pub record Walked : Type 0 where
    pub items : List Item
    pub walk : IsWalk t p q items
    pub short : length items ≤ length t.points + length t.edges

  -- each segment has a walk
  pub each_walk : Walked
  each_walk =
      go (edges (length t.points) (vertices (length t.points)) t.edges
      (λ i j m. inl (contained (i, j) t.edges m)))
    where
      go : Collected (λ k. IsListed t.edges k ⊎ IsBelow (length t.points) k)
          (length t.edges + length t.points) → Walked
      go c = record {
        items = c.list;
        walk = walk_of c.list c.in_order all;
        short = omega (arith, c.short);
      }
        where
          listed : (i j : ℕ) → IsEdge t i j → Member (i, j) t.edges ⊎ Member (j, i) t.edges
          listed i j (inl h) = inl (member (i, j) t.edges h)
          listed i j (inr h) = inr (member (j, i) t.edges h)

          all : (k : Item) → Meets t p q k → Member k c.list
          all (L.at_vertex i) met = c.complete (L.at_vertex i) (inr met.0) met
          all (L.across i j) met = c.complete (L.across i j) (inl (listed i j met.0)) met
          all (L.along i j) met = c.complete (L.along i j) (inl (listed i j met.0)) met
