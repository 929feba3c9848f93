-- A segment's walk is one, its rest gets shorter at each step, and the line list is the walk.
-- Lemmas: meeting_of, next_is_one, first_is_one, next_at_head, none_at_last, first_at_head,
-- one_walk, walk_is_short, rest_from, line_list_is_walk, each_segment_has_walk, rest_falls,
-- line_list_is_the_walk.
use Rattle.std.proofs.Common.{◌≡◌, ◌<◌, ◌≤◌, ◌+◌, [], ◌∷◌}
use Rattle.std.proofs.Common.{suc, List, length, arith, ap, ap₂, refl, sym, subst}
use mathlib.Core.Logic.{◌⊎◌, inl, inr}
use Rattle.std.specs.Prelude.{AllPairs}
use Rattle.plane.specs.{Fraction, IsBefore, IsLineList, IsSame, Item, Meets, Triangulation}
use Rattle.plane_theorems.specs.{ComesNext, GoesOn, IsFirst, IsLaid, IsLast, IsWalk}
use Rattle.plane_theorems.specs.Segments.WalkLaws.{EachSegmentHasWalk, LineListIsWalk, RestFalls}
use Rattle.plane_theorems.proofs.Delaunay.Points.Members.{contained, Member, member}
use Rattle.plane_theorems.proofs.Delaunay.Segments.LineItems.{line_items_are_ordered, Meeting}
use Rattle.plane_theorems.proofs.Delaunay.Segments.LineItems.{meeting_of_hull}
use Rattle.plane_theorems.proofs.Segments.Walking.EachWalk.{each_walk, InOrder, walk_of}
use Rattle.plane_theorems.proofs.Segments.Walking.OneLine.{line_ends, meeting_if}
use Rattle.plane_theorems.proofs.Segments.Walking.Walks.{walk_is_line_list}

-- a tiling of the hull, or of a line whose edges meet at vertices, has what the order rests on
pub meeting_of : (t : Triangulation) → IsLaid t → Meeting t
meeting_of t (inl h) = meeting_of_hull t h
meeting_of t (inr h) = meeting_if t (line_ends t h.0) h.1 h.2

module _ (t : Triangulation) (c₀ : Meeting t) (p q : Fraction) (apart : ¬ IsSame p q) where
  -- one item comes next, and one first
  pub next_is_one : (m n k : Item) → ComesNext t p q m n → ComesNext t p q m k → n ≡ k
  next_is_one m n k a b = go (line_items_are_ordered t c₀ p q apart n k a.met b.met)
    where
      go : (n ≡ k) ⊎ (IsBefore t p q n k ⊎ IsBefore t p q k n) → n ≡ k
      go (inl e) = e
      go (inr (inl r)) = absurd (b.none_between n a.met a.after r)
      go (inr (inr r)) = absurd (a.none_between k b.met b.after r)

  -- two first items are one
  pub first_is_one : (n k : Item) → IsFirst t p q n → IsFirst t p q k → n ≡ k
  first_is_one n k a b = go (line_items_are_ordered t c₀ p q apart n k a.met b.met)
    where
      go : (n ≡ k) ⊎ (IsBefore t p q n k ⊎ IsBefore t p q k n) → n ≡ k
      go (inl e) = e
      go (inr (inl r)) = absurd (b.none_before n a.met r)
      go (inr (inr r)) = absurd (a.none_before k b.met r)

  -- ---- the list of the rest
  -- where an item comes next, it is the head of what is left
  pub next_at_head : (m n : Item) (rest : List Item) → GoesOn t p q m rest → ComesNext t p q m n →
      (later : List Item) × (rest ≡ n ∷ later) × GoesOn t p q n later
  next_at_head m n [] g c = absurd (g.none_after n c.met c.after)
  next_at_head m n (k ∷ ks) g c =
      let e = next_is_one m k n g.0 c in
      (ks, ap (λ x. x ∷ ks) e, subst (λ x. GoesOn t p q x ks) e g.1)

  -- after the last item nothing is left
  pub none_at_last : (m : Item) (rest : List Item) → GoesOn t p q m rest
      → IsLast t p q m → rest ≡ []
  none_at_last m [] g l = refl
  none_at_last m (k ∷ ks) g l = absurd (l.none_after k g.0.met g.0.after)

  -- a walk begins with the first item
  pub first_at_head : (m : Item) (items : List Item) → IsWalk t p q items → IsFirst t p q m →
      (rest : List Item) × (items ≡ m ∷ rest) × GoesOn t p q m rest
  first_at_head m [] w f = absurd (w m f.met)
  first_at_head m (k ∷ ks) w f =
      let e = first_is_one k m w.0 f in
      (ks, ap (λ x. x ∷ ks) e, subst (λ x. GoesOn t p q x ks) e w.1)

  one_rest : (m : Item) (xs ys : List Item) → GoesOn t p q m xs → GoesOn t p q m ys → xs ≡ ys
  one_rest m [] ys g h = sym (none_at_last m ys h g)
  one_rest m (x ∷ xs) [] g h = absurd (h.none_after x g.0.met g.0.after)
  one_rest m (x ∷ xs) (y ∷ ys) g h = let e = next_is_one m x y g.0 h.0 in
      ap₂ (λ a l. a ∷ l) e (one_rest y xs ys (subst (λ a. GoesOn t p q a xs) e g.1) h.1)

  -- a segment has one walk
  pub one_walk : (xs ys : List Item) → IsWalk t p q xs → IsWalk t p q ys → xs ≡ ys
  one_walk [] [] g h = refl
  one_walk [] (y ∷ ys) g h = absurd (g y h.0.met)
  one_walk (x ∷ xs) [] g h = absurd (h x g.0.met)
  one_walk (x ∷ xs) (y ∷ ys) g h = let e = first_is_one x y g.0 h.0 in
      ap₂ (λ a l. a ∷ l) e (one_rest y xs ys (subst (λ a. GoesOn t p q a xs) e g.1) h.1)

  -- a walk has no more items than there are vertices and edges
  pub walk_is_short : (items : List Item) → IsWalk t p q items
      → length items ≤ length t.points + length t.edges
  walk_is_short items w = subst (λ xs. length xs ≤ length t.points + length t.edges)
      (one_walk (each_walk t c₀ p q apart).items items (each_walk t c₀ p q apart).walk w)
      (each_walk t c₀ p q apart).short

  -- ---- from an item of the walk on
  rest_after : (m : Item) (ms : List Item) → GoesOn t p q m ms → (k : Item) → Member k ms →
      (rest : List Item) × GoesOn t p q k rest × (length rest ≤ length ms)
  rest_after m [] g k i = absurd i
  rest_after m (n ∷ ns) g k (inl e) = (ns, subst (λ x. GoesOn t p q x ns) e g.1, omega arith)
  rest_after m (n ∷ ns) g k (inr i) =
      let r = rest_after n ns g.1 k i in (r.0, r.1, omega (arith, r.2))

  -- from each item that is met the walk goes on, by fewer items than there are vertices and edges
  pub rest_from : (m : Item) → Meets t p q m → (rest : List Item) × GoesOn t p q m rest ×
      (length rest < length t.points + length t.edges)
  rest_from m met = go (each_walk t c₀ p q apart).items (each_walk t c₀ p q apart).walk
      (each_walk t c₀ p q apart).short
    where
      go : (items : List Item) → IsWalk t p q items
          → length items ≤ length t.points + length t.edges → (rest : List Item)
          × GoesOn t p q m rest × (length rest < length t.points + length t.edges)
      go [] w s = absurd (w m met)
      go (x ∷ xs) w s = pick
          (member m (x ∷ xs) ((walk_is_line_list t c₀ p q apart (x ∷ xs) w).complete apart m met))
        where
          pick : Member m (x ∷ xs) → (rest : List Item) × GoesOn t p q m rest ×
              (length rest < length t.points + length t.edges)
          pick (inl e) = (xs, subst (λ y. GoesOn t p q y xs) e w.1, omega (arith, s))
          pick (inr i) = let r = rest_after x xs w.1 m i in (r.0, r.1, omega (arith, r.2, s))

  -- ---- the line list
  in_order_of : (items : List Item) → ((m : Item) → Member m items → Meets t p q m)
      → AllPairs (IsBefore t p q) items → InOrder t c₀ p q apart items
  in_order_of [] met o = tt
  in_order_of (m ∷ ms) met o = (
    met m (inl refl),
    later,
    in_order_of ms (λ k i. met k (inr i))
        (λ i j d lt within. o (suc i) (suc j) d (omega (arith, lt))
        (omega (arith, within))),
  )
    where
      later : (k : Item) → Member k ms → IsBefore t p q m k
      later k i =
          let c = contained k ms i in
          subst (IsBefore t p q m) c.2 (o 0 (suc c.0) k (omega arith) (omega (arith, c.1)))

  -- a line list is a walk
  pub line_list_is_walk : (items : List Item) → IsLineList t p q items → IsWalk t p q items
  line_list_is_walk items l = walk_of t c₀ p q apart items
      (in_order_of items (λ m i. l.met apart m (contained m items i)) (l.ordered apart))
      (λ k met. member k items (l.complete apart k met))

-- a segment has one walk alone, with no more items than there are vertices and edges
pub each_segment_has_walk : EachSegmentHasWalk
each_segment_has_walk t h p q apart = (
  (
    (each_walk t (meeting_of t h) p q apart).items,
    (each_walk t (meeting_of t h) p q apart).walk,
  ),
  one_walk t (meeting_of t h) p q apart,
  walk_is_short t (meeting_of t h) p q apart,
)

-- from each item on there is a list of the rest, which gets shorter at each step
pub rest_falls : RestFalls
rest_falls t h p q apart = (
  rest_from t (meeting_of t h) p q apart,
  next_at_head t (meeting_of t h) p q apart,
  none_at_last t (meeting_of t h) p q apart,
  first_at_head t (meeting_of t h) p q apart,
)

-- a list is the line list of a segment exactly if it is the walk
pub line_list_is_the_walk : LineListIsWalk
line_list_is_the_walk t h p q apart items = (
  line_list_is_walk t (meeting_of t h) p q apart items,
  walk_is_line_list t (meeting_of t h) p q apart items,
)
