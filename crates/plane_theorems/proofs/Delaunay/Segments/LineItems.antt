-- What a segment meets of a tiling: each item begins somewhere on the segment, and of two different
-- items one comes first.
-- Notions: Begins, SharedAt, Meeting; between_of, turned_segment, begins, no_vertex_within,
-- one_vertex, edge_last, same_place, meeting_of_hull, met_within, not_met_once,
-- crossing_and_overlap, line_items_are_ordered.
use Rattle.std.proofs.Common.{◌≡◌, ℕ, arith, ap, sym, ◌∙◌, subst, subst₂}
use mathlib.Core.Logic.{◌⊎◌, inl, inr}
use Rattle.std.specs.Prelude.{ℤ, pos, ◌<ℤ◌, ◌-ℤ◌, ◌*ℤ◌}
use Rattle.std.proofs.lemmas.Int.{ints}
use Rattle.plane.specs.{BeginsAt, Fraction, IsBefore, IsNotNegative, IsPositive, IsSame, IsVertex}
use Rattle.plane.specs.{Item, left, Meets, on, OnSegment, opposite, OverlapAlong, right, side}
use Rattle.plane.specs.{TilesHull, Triangulation, TurnsLeft, vertex, WithinSegment}
use Rattle.plane.proofs.{decide_on_segment, Decision, differences_both_positive, mean_of_two}
use Rattle.plane.proofs.{no_difference, nothing_nearer, on_of_within, on_segment-same, only_point}
use Rattle.plane.proofs.{reach, same-refl, same-sym, same-trans, same_not_nearer, side_swapped}
use Rattle.plane.proofs.{start_on_segment, trichotomy_ℤ, two_weights, weak, within_segment-same}
use Rattle.plane.proofs.{Lines.side_line, Signs.same_plus_no_part}
use Rattle.plane_theorems.proofs.Delaunay.Circles.EmptyCircles.{weights_along}
use Rattle.plane_theorems.proofs.Delaunay.Floods.Flooded.{edge_of, segment_from, side_of_segment}
use Rattle.plane_theorems.proofs.Delaunay.Points.AlongSegment.{as_soon, before, first_on, later}
use Rattle.plane_theorems.proofs.Delaunay.Points.AlongSegment.{none_sooner, not_from_end, on_line}
use Rattle.plane_theorems.proofs.Delaunay.Points.AlongSegment.{on_line_last, order_along}
use Rattle.plane_theorems.proofs.Delaunay.Points.AlongSegment.{OrderAlong, same_on_line, sooner}
use Rattle.plane_theorems.proofs.Delaunay.Points.AlongSegment.{within_on_line}
use Rattle.plane_theorems.proofs.{Delaunay.Points.Bracket.bracket, Delaunay.Tilings.Ground.tiling}
use Rattle.plane_theorems.proofs.Delaunay.Tilings.Faces.{Between, between-swapped, none_within}
use Rattle.plane_theorems.proofs.Delaunay.Tilings.Generic.{same_bracket, swapped_weights}
use Rattle.plane_theorems.proofs.Delaunay.Tilings.Meets.{at_vertex, edges_meet, IsAt, reversed}
use Rattle.plane_theorems.proofs.Delaunay.Tilings.Meets.{same, Shared}
use Rattle.plane_theorems.proofs.Delaunay.Tilings.Where.{vertices_apart}
use Rattle.plane.specs.Tiling as D
use Rattle.plane.specs.Line as L

-- a point strictly within a segment is strictly between its ends, for each linear form
pub between_of : (a b x : Fraction) → WithinSegment a b x → Between a b x
between_of a b x m = let t = two_weights IsPositive a b x m in record {
  n = t.n;
  k = t.k;
  l = t.l;
  n_above = t.positive;
  k_above = t.k_allowed;
  l_above = t.l_allowed;
  along = weights_along IsPositive a b x t;
}

-- a point of a segment is one of the segment the other way
pub turned_segment : (a b x : Fraction) → OnSegment a b x → OnSegment b a x
turned_segment a b x m =
    mean_of_two IsNotNegative b a x (swapped_weights a b x (two_weights IsNotNegative a b x m))

-- ---- where each item begins
-- where an item begins
pub record Begins (t : Triangulation) (p q : Fraction) (m : Item) : Type 0 where
  pub at : Fraction
  pub begins : BeginsAt t p q m at

begin_along : (t : Triangulation) (p q : Fraction) (i j : ℕ)
    → OverlapAlong p q (vertex t i) (vertex t j) → Begins t p q (L.along i j)
begin_along t p q i j o = go (decide_on_segment (vertex t i) (vertex t j) p)
  where
    go : Decision (OnSegment (vertex t i) (vertex t j) p) → Begins t p q (L.along i j)
    go (inl h) = record {
      at = p;
      begins = record {
        shared = start_on_segment p q;
        of_item = h;
        first = λ r _ _. nothing_nearer p r;
      };
    }
    go (inr n) = record {
      at = vertex t i;
      begins = record {
        shared = first_on p q (vertex t i) (vertex t j) o n;
        of_item = start_on_segment (vertex t i) (vertex t j);
        first = λ r a b. none_sooner p q (vertex t i) (vertex t j) o n r a b;
      };
    }

-- each item that a segment meets has a first point in common with it
pub begins : (t : Triangulation) (p q : Fraction) (m : Item) → Meets t p q m → Begins t p q m
begins t p q (L.at_vertex i) h = record {
  at = vertex t i;
  begins = record {
    shared = h.1;
    of_item = same-refl (vertex t i);
    first = λ r _ s. same_not_nearer p r (vertex t i) s;
  };
}
begins t p q (L.across i j) h = let m = h.1 in record {
  at = m.at;
  begins = record {
    shared = m.meet.first;
    of_item = m.meet.second;
    first = λ r a b. same_not_nearer p r m.at (m.meet.only r a b);
  };
}
begins t p q (L.along i j) h = begin_along t p q i j h.1

module _ (t : Triangulation) (h : TilesHull t) where
  -- no vertex is strictly within an edge
  pub no_vertex_within : (i j n : ℕ) → D.IsEdge t i j → IsVertex t n
      → ¬ WithinSegment (vertex t i) (vertex t j) (vertex t n)
  unfolding tiling
  no_vertex_within i j n e hn w = go ((h.sides i j).0 e)
    where
      go : D.HasFace t i j ⊎ D.HasFace t j i → ⊥
      go (inl f) = none_within (tiling t h) i j f.0 n f.1 hn (between_of _ _ _ w)
      go (inr f) = none_within (tiling t h) j i f.0 n f.1 hn
          (between-swapped (vertex t i) (vertex t j) (vertex t n) (between_of _ _ _ w))

  -- vertices at one point are one
  pub one_vertex : (i j : ℕ) → IsVertex t i → IsVertex t j
      → IsSame (vertex t i) (vertex t j) → i ≡ j
  unfolding tiling
  one_vertex i j hi hj e = vertices_apart (tiling t h) i j hi hj
      (λ s u. one _ _ (same_bracket s u (vertex t i) (vertex t j) e))
    where
      one : (a b : ℤ) → pos 1 *ℤ a ≡ pos 1 *ℤ b → a ≡ b
      one a b e = omega (arith, ints)

-- the ends of an edge are vertices
pub edge_last : (t : Triangulation) (h : TilesHull t) (i j : ℕ) → D.IsEdge t i j → IsVertex t j
edge_last t h i j e = go ((h.sides i j).0 e)
  where
    go : D.HasFace t i j ⊎ D.HasFace t j i → IsVertex t j
    go (inl f) = (h.corners i j f.0 f.1).1
    go (inr f) = (h.corners j i f.0 f.1).0

-- x is at the place of v
pub same_place : (v x : Fraction) → IsAt v x → IsSame v x
same_place v x i =
    only_point x x v (same-refl x) (segment_from i.k i.n (pos 0) x x v i.k_above (weak i.n_above)
    (record { le = tt }) (λ s u. same_plus_no_part _ _ (bracket s u x) (i.along s u)))

-- an edge is met in one of its two directions alone
never_both : (t : Triangulation) (p q : Fraction) (i j : ℕ) → Meets t p q (L.across i j)
    → ¬ Meets t p q (L.across j i)
never_both t p q i j a b = go a.2 b.2
  where
    u : Fraction
    u = vertex t i

    v : Fraction
    v = vertex t j

    left_not_right : left ≡ right → ⊥
    left_not_right e = cc

    left_not_on : left ≡ on → ⊥
    left_not_on e = cc

    level : OnSegment u v q → side u v q ≡ on
    level m = (side_line u v q).1 (inl m)

    go : TurnsLeft u v q ⊎ (OnSegment u v q × (side u v p ≡ right))
        → TurnsLeft v u q ⊎ (OnSegment v u q × (side v u p ≡ right)) → ⊥
    go (inl x) (inl y) = left_not_right (sym y ∙ side_swapped u v q ∙ ap opposite x)
    go (inl x) (inr y) = left_not_on (sym x ∙ level (turned_segment v u q y.0))
    go (inr x) (inl y) = left_not_on (sym y ∙ side_swapped u v q ∙ ap opposite (level x.0))
    go (inr x) (inr y) = left_not_right (sym (side_swapped u v p ∙ ap opposite x.1) ∙ y.1)

-- how two edges that share x are: one edge, or two at a vertex where x is
pub data SharedAt (t : Triangulation) (a b c d : ℕ) (x : Fraction) : Type 0 where
  one_way : c ≡ a → d ≡ b → SharedAt t a b c d x
  other_way : c ≡ b → d ≡ a → SharedAt t a b c d x
  at_end : (e : ℕ) → IsVertex t e → IsSame x (vertex t e) → (e ≡ a) ⊎ (e ≡ b) → (e ≡ c) ⊎ (e ≡ d)
      → SharedAt t a b c d x

-- what the order of items rests on, whether the vertices are on one line or not
pub record Meeting (t : Triangulation) : Type 0 where
  pub ends : (i j : ℕ) → D.IsEdge t i j → IsVertex t i × IsVertex t j
  pub none_within : (i j n : ℕ) → D.IsEdge t i j → IsVertex t n
      → ¬ WithinSegment (vertex t i) (vertex t j) (vertex t n)
  -- vertices at one point are one
  pub one_vertex : (i j : ℕ) → IsVertex t i → IsVertex t j
      → IsSame (vertex t i) (vertex t j) → i ≡ j
  pub shared : (a b c d : ℕ) (x : Fraction) → D.IsEdge t a b → D.IsEdge t c d
      → OnSegment (vertex t a) (vertex t b) x → OnSegment (vertex t c) (vertex t d) x
      → SharedAt t a b c d x

-- a tiling of the hull has what the order of items rests on
pub meeting_of_hull : (t : Triangulation) → TilesHull t → Meeting t
unfolding tiling
meeting_of_hull t h = record {
  ends = λ i j e. (edge_first i j ((h.sides i j).0 e), edge_last t h i j e);
  none_within = no_vertex_within t h;
  one_vertex = one_vertex t h;
  shared = shared;
}
  where
    edge_first : (i j : ℕ) → D.HasFace t i j ⊎ D.HasFace t j i → IsVertex t i
    edge_first i j (inl f) = (h.corners i j f.0 f.1).0
    edge_first i j (inr f) = (h.corners j i f.0 f.1).1

    shared : (a b c d : ℕ) (x : Fraction) → D.IsEdge t a b → D.IsEdge t c d
        → OnSegment (vertex t a) (vertex t b) x → OnSegment (vertex t c) (vertex t d) x
        → SharedAt t a b c d x
    shared a b c d x e f u v = go (edges_meet (tiling t h) a b c d x (edge_of t h a b e)
        (edge_of t h c d f) (side_of_segment _ _ x u) (side_of_segment _ _ x v))
      where
        go : Shared (tiling t h) a b c d x → SharedAt t a b c d x
        go (same r s) = one_way r s
        go (reversed r s) = other_way r s
        go (at_vertex e he i r s) =
            at_end e he (same-sym (vertex t e) x (same_place (vertex t e) x i)) r s

module _ (t : Triangulation) (c₀ : Meeting t) (p q : Fraction) (apart : ¬ IsSame p q) where
  -- the point in which an edge is met is within it
  pub met_within : (i j : ℕ) → Meets t p q (L.across i j) → (x : Fraction) → OnSegment p q x
      → OnSegment (vertex t i) (vertex t j) x → WithinSegment (vertex t i) (vertex t j) x
  met_within i j m x a b = within_segment-same (vertex t i) (vertex t j) m.1.at x
      (same-sym x m.1.at (m.1.meet.only x a b)) m.1.within

  -- an overlap shares two points with its edge
  pub not_met_once : (a b c d : ℕ) → Meets t p q (L.across a b) → Meets t p q (L.along c d)
      → ((x : Fraction) → OnSegment (vertex t c) (vertex t d) x
      → OnSegment (vertex t a) (vertex t b) x) → ⊥
  not_met_once a b c d m n inside =
      same_not_nearer p n.1.near n.1.far (same-trans n.1.near m.1.at n.1.far
      (m.1.meet.only n.1.near n.1.near_first (inside n.1.near n.1.near_second)) (same-sym n.1.far
      m.1.at (m.1.meet.only n.1.far n.1.far_first (inside n.1.far n.1.far_second)))) n.1.from_s

  crossing_and_crossing : (a b c d : ℕ) → Meets t p q (L.across a b) → Meets t p q (L.across c d)
      → (x : Fraction) → WithinSegment (vertex t a) (vertex t b) x
      → OnSegment (vertex t c) (vertex t d) x → L.across a b ≡ L.across c d
  crossing_and_crossing a b c d m n x w o =
      go (c₀.shared a b c d x m.0 n.0 (on_of_within _ _ x w) o)
    where
      go : SharedAt t a b c d x → L.across a b ≡ L.across c d
      go (one_way e f) = λ i. L.across (sym e i) (sym f i)
      go (other_way e f) =
          absurd (never_both t p q a b m (subst₂ (λ i j. Meets t p q (L.across i j)) e f n))
      go (at_end e he i _ _) = absurd (c₀.none_within a b e m.0 he
          (within_segment-same (vertex t a) (vertex t b) x (vertex t e) i w))

  -- an edge that is crossed has no common point with one that is overlapped
  pub crossing_and_overlap : (a b c d : ℕ) → Meets t p q (L.across a b) → Meets t p q (L.along c d)
      → (x : Fraction) → WithinSegment (vertex t a) (vertex t b) x
      → OnSegment (vertex t c) (vertex t d) x → ⊥
  crossing_and_overlap a b c d m n x w o = go (c₀.shared a b c d x m.0 n.0 (on_of_within _ _ x w) o)
    where
      go : SharedAt t a b c d x → ⊥
      go (one_way e f) = not_met_once a b c d m n
          (λ x s. subst₂ (λ i j. OnSegment (vertex t i) (vertex t j) x) e f s)
      go (other_way e f) = not_met_once a b c d m n (λ x s. turned_segment (vertex t b)
          (vertex t a) x (subst₂ (λ i j. OnSegment (vertex t i) (vertex t j) x) e f s))
      go (at_end e he i _ _) = c₀.none_within a b e m.0 he
          (within_segment-same (vertex t a) (vertex t b) x (vertex t e) i w)

  -- two overlaps that leave one vertex end at one
  one_end : (a b d : ℕ) → Meets t p q (L.along a b) → Meets t p q (L.along a d) → b ≡ d
  one_end a b d m n = go (trichotomy_ℤ (reach p q B *ℤ D.w -ℤ reach p q D *ℤ B.w))
    where
      A : Fraction
      A = vertex t a

      B : Fraction
      B = vertex t b

      D : Fraction
      D = vertex t d

      hb : IsVertex t b
      hb = (c₀.ends a b m.0).1

      hd : IsVertex t d
      hd = (c₀.ends a d n.0).1

      swapped : (x y : ℤ) → (x -ℤ y) <ℤ pos 0 → pos 0 <ℤ (y -ℤ x)
      swapped x y k = omega (arith, ints)

      go : ((reach p q B *ℤ D.w -ℤ reach p q D *ℤ B.w) <ℤ pos 0)
          ⊎ ((reach p q B *ℤ D.w -ℤ reach p q D *ℤ B.w ≡ pos 0)
          ⊎ (pos 0 <ℤ (reach p q B *ℤ D.w -ℤ reach p q D *ℤ B.w))) → b ≡ d
      go (inl k) = absurd (c₀.none_within a d b n.0 hb (within_on_line p q apart A B D
          (on_line p q A B m.1) (on_line_last p q A B m.1) (on_line_last p q A D n.1)
          (before p q A B m.1) (swapped (reach p q B *ℤ D.w) (reach p q D *ℤ B.w) k)))
      go (inr (inl k)) =
          c₀.one_vertex b d hb hd (same_on_line p q apart B D (on_line_last p q A B m.1)
          (on_line_last p q A D n.1) (no_difference (reach p q B *ℤ D.w) (reach p q D *ℤ B.w) k))
      go (inr (inr k)) =
          absurd (c₀.none_within a b d m.0 hd (within_on_line p q apart A D B (on_line p q A D n.1)
          (on_line_last p q A D n.1) (on_line_last p q A B m.1) (before p q A D n.1) k))

  overlap_and_overlap : (a b c d : ℕ) → Meets t p q (L.along a b) → Meets t p q (L.along c d)
      → (x y : Fraction) → BeginsAt t p q (L.along a b) x → BeginsAt t p q (L.along c d) y
      → IsSame x y → L.along a b ≡ L.along c d
  overlap_and_overlap a b c d m n x y bx by e = go (c₀.shared a b c d x m.0 n.0 bx.of_item
      (on_segment-same (vertex t c) (vertex t d) y x (same-sym x y e) by.of_item))
    where
      both_ways : OverlapAlong p q (vertex t a) (vertex t b)
          → OverlapAlong p q (vertex t b) (vertex t a) → ⊥
      both_ways o r = differences_both_positive (reach p q (vertex t b) *ℤ (vertex t a).w)
          (reach p q (vertex t a) *ℤ (vertex t b).w) (before p q (vertex t a) (vertex t b) o)
          (before p q (vertex t b) (vertex t a) r)

      at_start : (i j k : ℕ) → Meets t p q (L.along i j) → (z : Fraction)
          → BeginsAt t p q (L.along i j) z → IsSame z (vertex t k) → (k ≡ i) ⊎ (k ≡ j) → k ≡ i
      at_start i j k o z bz s (inl r) = r
      at_start i j k o z bz s (inr r) = absurd (not_from_end p q (vertex t i) (vertex t j) o.1 z
          bz.shared (λ w u v. bz.first w u v) (subst (λ n. IsSame z (vertex t n)) r s))

      starts : (k : ℕ) → k ≡ a → k ≡ c → L.along a b ≡ L.along c d
      starts k r s = λ i. L.along ((sym r ∙ s) i)
          (one_end a b d m (subst (λ n. Meets t p q (L.along n d)) (sym (sym r ∙ s)) n) i)

      go : SharedAt t a b c d x → L.along a b ≡ L.along c d
      go (one_way r s) = λ i. L.along (sym r i) (sym s i)
      go (other_way r s) = absurd
          (both_ways m.1 (subst₂ (λ i j. OverlapAlong p q (vertex t i) (vertex t j)) r s n.1))
      go (at_end k hk i r s) =
          let z : IsSame x (vertex t k) = i in
          starts k (at_start a b k m x bx z r)
          (at_start c d k n y by (same-trans y x (vertex t k) (same-sym x y e) z) s)

  Ordered : Item → Item → Type 0
  Ordered m n = (m ≡ n) ⊎ (IsBefore t p q m n ⊎ IsBefore t p q n m)

  -- two items that begin at one point
  at_one : (m n : Item) → Meets t p q m → Meets t p q n → (x y : Fraction) → BeginsAt t p q m x
      → BeginsAt t p q n y → IsSame x y → Ordered m n
  unfolding Ordered
  at_one (L.at_vertex i) (L.at_vertex j) hm hn x y bx by e =
      inl (ap L.at_vertex (c₀.one_vertex i j hm.0 hn.0 (same-trans (vertex t i) x (vertex t j)
      (same-sym x (vertex t i) bx.of_item) (same-trans x y (vertex t j) e by.of_item))))
  at_one (L.at_vertex i) (L.along c d) hm hn x y bx by e = inr (inl (record
      { first = x; second = y; first_begins = bx; second_begins = by; order = inr (e, tt) }))
  at_one (L.along a b) (L.at_vertex j) hm hn x y bx by e = inr (inr (record {
    first = y;
    second = x;
    first_begins = by;
    second_begins = bx;
    order = inr (same-sym x y e, tt);
  }))
  at_one (L.at_vertex i) (L.across c d) hm hn x y bx by e = absurd (c₀.none_within c d i hn.0 hm.0
      (within_segment-same (vertex t c) (vertex t d) y (vertex t i) (same-trans y x (vertex t i)
      (same-sym x y e) bx.of_item) (met_within c d hn y by.shared by.of_item)))
  at_one (L.across a b) (L.at_vertex j) hm hn x y bx by e = absurd
      (c₀.none_within a b j hm.0 hn.0 (within_segment-same (vertex t a) (vertex t b) x (vertex t j)
      (same-trans x y (vertex t j) e by.of_item) (met_within a b hm x bx.shared bx.of_item)))
  at_one (L.across a b) (L.across c d) hm hn x y bx by e =
      inl (crossing_and_crossing a b c d hm hn x (met_within a b hm x bx.shared bx.of_item)
      (on_segment-same (vertex t c) (vertex t d) y x (same-sym x y e) by.of_item))
  at_one (L.across a b) (L.along c d) hm hn x y bx by e =
      absurd (crossing_and_overlap a b c d hm hn x (met_within a b hm x bx.shared bx.of_item)
      (on_segment-same (vertex t c) (vertex t d) y x (same-sym x y e) by.of_item))
  at_one (L.along a b) (L.across c d) hm hn x y bx by e =
      absurd (crossing_and_overlap c d a b hn hm y (met_within c d hn y by.shared by.of_item)
      (on_segment-same (vertex t a) (vertex t b) x y e bx.of_item))
  at_one (L.along a b) (L.along c d) hm hn x y bx by e =
      inl (overlap_and_overlap a b c d hm hn x y bx by e)

  -- of two different items one comes first
  pub line_items_are_ordered : (m n : Item) → Meets t p q m → Meets t p q n
      → (m ≡ n) ⊎ (IsBefore t p q m n ⊎ IsBefore t p q n m)
  unfolding Ordered
  line_items_are_ordered m n hm hn = go (begins t p q m hm) (begins t p q n hn)
    where
      go : Begins t p q m → Begins t p q n → (m ≡ n) ⊎ (IsBefore t p q m n ⊎ IsBefore t p q n m)
      go x y = pick (order_along p q apart x.at y.at x.begins.shared y.begins.shared)
        where
          pick : OrderAlong p x.at y.at → (m ≡ n) ⊎ (IsBefore t p q m n ⊎ IsBefore t p q n m)
          pick (sooner k) = inr (inl (record {
            first = x.at;
            second = y.at;
            first_begins = x.begins;
            second_begins = y.begins;
            order = inl k;
          }))
          pick (later k) = inr (inr (record {
            first = y.at;
            second = x.at;
            first_begins = y.begins;
            second_begins = x.begins;
            order = inl k;
          }))
          pick (as_soon e) = at_one m n hm hn x.at y.at x.begins y.begins e
