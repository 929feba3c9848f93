-- Where all vertices are on one line: what the order of items rests on, and the last items there.
-- Lemmas: line_ends, edge_level, item_level, last_across_line, meeting_if, steps_on_one_line.
use Rattle.std.proofs.Common.{◌≡◌, ℕ, refl}
use mathlib.Core.Logic.{◌⊎◌, inl, inr}
use Rattle.std.specs.Prelude.{pos, ◌<ℤ◌}
use Rattle.plane.specs.{Fraction, IsEdge, IsNotNegative, IsPointOf, IsPositive, IsSame, IsSamePair}
use Rattle.plane.specs.{IsVertex, Item, JoinsLine, Meets, OnSegment, Triangulation, vertex}
use Rattle.{plane.specs.WithinSegment, plane_theorems.proofs.Segments.Walking.EachWalk.ends_differ}
use Rattle.plane.proofs.{above, below, if_on, left_not_zero, mean_of_two, none, on_segment-same}
use Rattle.plane.proofs.{right_not_above, Sign, sign, two_weights, TwoWeights, within_segment-same}
use Rattle.plane.proofs.Means.{turned_two}
use Rattle.plane_theorems.specs.{EdgesMeetAtVertices, IsLast, Segments.LineLaws.StepsOnOneLine}
use Rattle.plane_theorems.proofs.Delaunay.Circles.EmptyCircles.{same_at_end, weights_along}
use Rattle.plane_theorems.proofs.{Delaunay.Points.Bracket.bracket, Delaunay.Points.Numbers.sum_none}
use Rattle.plane_theorems.proofs.Delaunay.Segments.LineItems.{at_end, line_items_are_ordered}
use Rattle.plane_theorems.proofs.Delaunay.Segments.LineItems.{Meeting, one_way, other_way, SharedAt}
use Rattle.plane_theorems.proofs.Segments.Items.Begins.{above-same, after_crossing, Signs, signs_of}
use Rattle.plane_theorems.proofs.Segments.Next.Overlaps.{last_within, next_unless_within}
use Rattle.plane_theorems.proofs.Segments.Walking.Walks.{walk_is_line_list}
use Rattle.plane.specs.Line as L

module _ (t : Triangulation) (h : JoinsLine t) where
  level : (i j k : ℕ) → IsVertex t i → IsVertex t j → IsVertex t k
      → bracket (vertex t i) (vertex t j) (vertex t k) ≡ pos 0
  unfolding bracket
  level i j k hi hj hk = if_on (vertex t i) (vertex t j) (vertex t k) (h.straight i j k hi hj hk)

  -- an edge of the line joins vertices
  pub line_ends : (i j : ℕ) → IsEdge t i j → IsVertex t i × IsVertex t j
  line_ends i j e = let n = (h.neighbours i j).0 e in (n.first, n.second)

  -- no point of an edge is left of a line through two vertices
  pub edge_level : (a b : ℕ) → IsVertex t a → IsVertex t b → (i j : ℕ) → IsEdge t i j
      → (z : Fraction) → OnSegment (vertex t i) (vertex t j) z
      → ¬ (pos 0 <ℤ bracket (vertex t a) (vertex t b) z)
  edge_level a b ha hb i j e z s high =
      let w = two_weights IsNotNegative (vertex t i) (vertex t j) z s in let n = line_ends i j e in
      left_not_zero high (sum_none w.n w.k w.l _ _ _ w.positive
      (weights_along IsNotNegative (vertex t i) (vertex t j) z w (vertex t a) (vertex t b))
      (level a b i ha hb n.0) (level a b j ha hb n.1))

  -- and no item
  pub item_level : (p q : Fraction) (a b : ℕ) → IsVertex t a → IsVertex t b → (k : Item)
      → Meets t p q k → (z : Fraction) → IsPointOf t k z
      → ¬ (pos 0 <ℤ bracket (vertex t a) (vertex t b) z)
  item_level p q a b ha hb (L.at_vertex i) met z s high = left_not_zero
      (above-same (vertex t a) (vertex t b) z (vertex t i) s high) (level a b i ha hb met.0)
  item_level p q a b ha hb (L.across i j) met z s high = edge_level a b ha hb i j met.0 z s high
  item_level p q a b ha hb (L.along i j) met z s high = edge_level a b ha hb i j met.0 z s high

  -- after a crossed edge nothing comes
  pub last_across_line : (p q : Fraction) (apart : ¬ IsSame p q) (a b : ℕ) → IsEdge t a b
      → Signs p q (vertex t a) (vertex t b) → IsLast t p q (L.across a b)
  last_across_line p q apart a b e s = record {
    none_after = λ k met o. item_level p q a b (line_ends a b e).0 (line_ends a b e).1 k met
        o.second o.second_begins.of_item (after_crossing t p q apart a b s k o);
  }

-- a point of a segment is at an end or strictly within
data Stands (a b x : Fraction) : Type 0 where
  at_first : IsSame x a → Stands a b x
  at_second : IsSame x b → Stands a b x
  inside : WithinSegment a b x → Stands a b x

stands : (a b x : Fraction) → OnSegment a b x → Stands a b x
stands a b x m = go (sign w.k) (sign w.l)
  where
    w : TwoWeights IsNotNegative a b x
    w = two_weights IsNotNegative a b x m

    go : Sign w.k → Sign w.l → Stands a b x
    go (below h) s = absurd (right_not_above h w.k_allowed)
    go (none h) s = at_second (same_at_end a b x w h)
    go (above h) (below k) = absurd (right_not_above k w.l_allowed)
    go (above h) (none k) = at_first (same_at_end b a x (turned_two IsNotNegative a b x w) k)
    go (above h) (above k) = inside (mean_of_two IsPositive a b x (record {
      k = w.k;
      l = w.l;
      n = w.n;
      k_allowed = h;
      l_allowed = k;
      positive = w.positive;
      x = w.x;
      y = w.y;
      w = w.w;
    }))

-- where edges meet at their ends alone, and no two vertices are in one place, items have their
-- order
pub meeting_if : (t : Triangulation) → ((i j : ℕ) → IsEdge t i j → IsVertex t i × IsVertex t j)
    → EdgesMeetAtVertices t → ((i j : ℕ) → IsVertex t i → IsVertex t j
    → IsSame (vertex t i) (vertex t j) → i ≡ j) → Meeting t
meeting_if t ends apart one =
    record { ends = ends; none_within = apart.0; one_vertex = one; shared = shared }
  where
    -- a vertex of one edge that another carries is its end
    is_end : (e c d : ℕ) → IsVertex t e → IsEdge t c d
        → OnSegment (vertex t c) (vertex t d) (vertex t e) → (e ≡ c) ⊎ (e ≡ d)
    is_end e c d he f m = go (stands (vertex t c) (vertex t d) (vertex t e) m)
      where
        go : Stands (vertex t c) (vertex t d) (vertex t e) → (e ≡ c) ⊎ (e ≡ d)
        go (at_first s) = inl (one e c he (ends c d f).0 s)
        go (at_second s) = inr (one e d he (ends c d f).1 s)
        go (inside w) = absurd (apart.0 c d e f he w)

    shared : (a b c d : ℕ) (x : Fraction) → IsEdge t a b → IsEdge t c d
        → OnSegment (vertex t a) (vertex t b) x → OnSegment (vertex t c) (vertex t d) x
        → SharedAt t a b c d x
    shared a b c d x e f u v =
        go (stands (vertex t a) (vertex t b) x u) (stands (vertex t c) (vertex t d) x v)
      where
        pair : IsSamePair c d a b → SharedAt t a b c d x
        pair (inl s) = one_way s.0 s.1
        pair (inr s) = other_way s.0 s.1

        go : Stands (vertex t a) (vertex t b) x → Stands (vertex t c) (vertex t d) x
            → SharedAt t a b c d x
        go (at_first s) k = at_end a (ends a b e).0 s (inl refl) (is_end a c d (ends a b e).0 f
            (on_segment-same (vertex t c) (vertex t d) x (vertex t a) s v))
        go (at_second s) k = at_end b (ends a b e).1 s (inr refl) (is_end b c d (ends a b e).1 f
            (on_segment-same (vertex t c) (vertex t d) x (vertex t b) s v))
        go (inside w) (at_first s) = absurd (apart.0 a b c e (ends c d f).0
            (within_segment-same (vertex t a) (vertex t b) x (vertex t c) s w))
        go (inside w) (at_second s) = absurd (apart.0 a b d e (ends c d f).1
            (within_segment-same (vertex t a) (vertex t b) x (vertex t d) s w))
        go (inside w) (inside y) = pair (apart.1 a b c d e f x w y)

-- where all vertices are on one line, items have their order, and a walk gives the line list
pub steps_on_one_line : StepsOnOneLine
steps_on_one_line t h meet one p q apart = (
  line_items_are_ordered t c p q apart,
  (λ a b m. last_across_line t h p q apart a b m.0
      (signs_of t p q apart a b (ends_differ t c p q apart a b m.0) m)),
  (λ a b m. (last_within t c p q apart a b m, next_unless_within t c p q apart a b m)),
  walk_is_line_list t c p q apart,
)
  where
    c : Meeting t
    c = meeting_if t (line_ends t h) meet one
