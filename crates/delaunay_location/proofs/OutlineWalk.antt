-- What a segment meets first from beyond an outer edge, told from this edge and its neighbours.
-- Lemmas: nothing_on_left, nothing_beyond, vertex_first, end_first, start_first, not_both_on,
-- left_there, right_there, seen_from, neighbour_after, neighbour_before, stops_after, stops_before,
-- nothing_on_its_left, nothing_past_end, nothing_past_start, end_met, start_met, edge_met.
use Rattle.std.proofs.Common.{◌≡◌, ◌≢◌, ◌⊎◌, ◌↔◌, ◌<◌, ◌∙◌, ℕ, List, [], length, map, Option}
use Rattle.std.proofs.Common.{Some, None, Bool, false, IsTrue, refl, sym, ap, subst, inl, inr}
use Rattle.std.proofs.Common.{arith}
use lib.IntN.{neg_ℤ}
use Rattle.std.specs.Prelude.{IfSome, IfNone}
use Rattle.std.specs.Prelude.{ℤ, pos, ◌<ℤ◌, ◌≤ℤ◌, ◌+ℤ◌, ◌-ℤ◌, ◌*ℤ◌, Contains}
use Rattle.std.proofs.lemmas.Bool.{cases_eq}
use Rattle.std.proofs.lemmas.Int.{ints}
use Rattle.plane.specs.{Fraction, IsBefore, IsEdge, IsNearer, IsOuter, IsPointOf, IsSame, IsVertex}
use Rattle.plane.specs.{IsVertexThenOverlap, Item, left, Meets, on, OnSegment, opposite, place}
use Rattle.plane.specs.{Point, right, Side, side, Triangulation, TurnsLeft, vertex, whole}
use Rattle.plane.proofs.{left_not_below, left_not_zero, lt_or_ge_ℤ, mul-nonpos_of_nonneg_nonpos_ℤ}
use Rattle.plane.proofs.{mul-pos_ℤ, neg-mul_ℤ, negated_negative, nothing_nearer}
use Rattle.plane.proofs.{opposite_of_negative, opposite_of_not_positive, opposite_of_positive}
use Rattle.plane.proofs.{opposite_of_zero_of, product_zero_left, side_swapped, start_on_segment}
use Rattle.plane.proofs.{trichotomy_ℤ, weak, zero_weak_left}
use Rattle.half_edge_links.specs.{face, IsOuterEdge, Mesh, next, origin, prev, rev}
use Rattle.half_edge_links.proofs.{alone_at, rev-rev, rev_within}
use Rattle.plane_theorems.specs.{IsFirst, IsLaid, IsWalk, LineMesh}
use Rattle.plane_theorems.proofs.{Adjoin, bracket, bracket-second, bracket-swapped, by_signs}
use Rattle.plane_theorems.proofs.{line_by_signs, nearer-same_second, next_turned, point_at}
use Rattle.plane_theorems.proofs.{Segments.Next.Ends.item_not_left_of_outer, SignLine, SignMesh}
use Rattle.plane_theorems.proofs.Delaunay.Floods.Flooded.{segment_from}
use Rattle.plane_theorems.proofs.Delaunay.Points.AlongSegment.{as_soon, later, order_along}
use Rattle.plane_theorems.proofs.Delaunay.Points.AlongSegment.{OrderAlong, sooner}
use Rattle.plane_theorems.proofs.Delaunay.Points.Bracket.{above_if_left, bracket-first}
use Rattle.plane_theorems.proofs.Delaunay.Points.Bracket.{bracket-turned, cramer-w, left_if_above}
use Rattle.plane_theorems.proofs.{Delaunay.Points.Bracket.meeting, Segments.Items.Begins.above-same}
use Rattle.plane_theorems.proofs.Delaunay.Segments.LineItems.{Begins, begins}
use Rattle.plane_theorems.proofs.Edits.Insertion.Hull.{end_supports, start_supports}
use Rattle.plane_theorems.proofs.Segments.Items.SideSigns.{below_if_right, none_if_on}
use Rattle.plane_theorems.proofs.Segments.Items.Slopes.{later_is_higher, left_along, left_before}
use Rattle.plane_theorems.proofs.Segments.Items.Slopes.{slope, slope_above}
use Rattle.plane_theorems.proofs.Segments.Walking.EachWalk.{ends_differ}
use Rattle.plane_theorems.proofs.Segments.Walking.OneLine.{item_level, line_ends}
use Rattle.plane_theorems.proofs.Segments.Walking.WalkSteps.{meeting_of}
use Rattle.delaunay_legalization.specs.{drawn, faces_of, IsEmbedding, outer_of}
use Rattle.delaunay_legalization.proofs.{line_has_none, listed, none_or_some, real}
use Rattle.{delaunay_legalization.proofs.OuterEdges.one_edge, delaunay_location.specs.Walk.Starts}
use Rattle.delaunay_location.specs.{Edge, IsLeftOf, Locates, OutsideOfConvexHull, StartsOutside}
use Rattle.{delaunay_location.specs.Vertex, plane_theorems.proofs.Tiling.Tiles.bracket_not_left}
use Rattle.delaunay_location.specs.Outline.{IsIfSeen, IsSeenOuter, IsTurningPoint}
use Rattle.delaunay_location.proofs.FirstItems.{nothing_met, starts_first}
use Rattle.delaunay_location.proofs.LineOutline.{end_supported, seen_after, seen_before}
use Rattle.delaunay_location.proofs.{LineOutline.start_supported, OutsideItems.enters}
use Rattle.delaunay_location.proofs.MeshSteps.{bare, face_at, in_mesh, joined, laid, not_same}
use Rattle.delaunay_location.proofs.MeshSteps.{of_mesh, start_in, start_known}
use Rattle.{delaunay_location.proofs.SegmentTests.unless, half_edge_dcel.specs.Contents}
use Rattle.plane.specs.Line as L

-- ---- numbers
first_part : (f g x y k z l w : ℤ) → f *ℤ x -ℤ g *ℤ y ≡ k *ℤ z -ℤ l *ℤ w → l ≡ pos 0
    → k *ℤ z ≡ f *ℤ x +ℤ neg_ℤ g *ℤ y
first_part f g x y k z l w e d =
    let a = product_zero_left {a = l} w d in omega (arith, ints, neg-mul_ℤ g y)

second_part : (f g x y k z m w : ℤ) → f *ℤ x -ℤ g *ℤ y ≡ k *ℤ z -ℤ neg_ℤ m *ℤ w → k ≡ pos 0
    → m *ℤ w ≡ f *ℤ x +ℤ neg_ℤ g *ℤ y
second_part f g x y k z m w e d =
    let a = product_zero_left {a = k} z d in omega (arith, ints, neg-mul_ℤ g y, neg-mul_ℤ m w)

only_last : (s pw x aw y bw z qw : ℤ) → s *ℤ pw ≡ x *ℤ aw +ℤ y *ℤ bw +ℤ z *ℤ qw → x ≡ pos 0
    → y ≡ pos 0 → pos 0 <ℤ pw → pos 0 <ℤ z → pos 0 <ℤ qw → pos 0 <ℤ s
only_last s pw x aw y bw z qw e hx hy hp hz hq = go (lt_or_ge_ℤ (pos 0) s)
  where
    low : s ≤ℤ pos 0 → ⊥
    low h =
        let m = mul-pos_ℤ {a = z} {b = qw} hz hq in
        let n = mul-nonpos_of_nonneg_nonpos_ℤ {a = pw} {b = s}
        (weak hp) h in
        let i = product_zero_left {a = x} aw hx in
        let j = product_zero_left {a = y} bw hy in
        let c = lib.IntN.*ℤ_comm s pw in
        omega (arith, ints)

    go : (pos 0 <ℤ s) ⊎ (s ≤ℤ pos 0) → pos 0 <ℤ s
    go (inl h) = h
    go (inr h) = absurd (low h)

-- from a point of a line to one on its left, the slope is above 0
rises : (u v p q : Fraction) → bracket u v p ≡ pos 0 → pos 0 <ℤ bracket u v q
    → pos 0 <ℤ slope u v p q
unfolding slope
rises u v p q e k = let m = mul-pos_ℤ {a = bracket u v q} {b = p.w} k p.positive in
    let n = product_zero_left {a = bracket u v p} q.w e in omega (arith, ints)

-- ---- an outer edge from a to b that has the start on its left
module _ (t : Triangulation) (h : IsLaid t) (p q : Fraction) (apart : ¬ IsSame p q) (a b : ℕ)
    (outer : IsOuter t a b) (seen : pos 0 <ℤ bracket (vertex t a) (vertex t b) p) where
  abbrev A : Fraction
  A = vertex t a

  abbrev B : Fraction
  B = vertex t b

  -- no point of an item is on the left of the edge
  beneath : (k : Item) → Meets t p q k → (z : Fraction) → IsPointOf t k z
      → ¬ (pos 0 <ℤ bracket A B z)
  beneath k met z there = elim h as (λ _. ¬ (pos 0 <ℤ bracket A B z)) [
    | inl tiles ↦ item_not_left_of_outer t tiles p q a b outer k met z there
    | inr l ↦ (let ends = line_ends t l.0 a b outer.0 in
        item_level t l.0 p q a b ends.0 ends.1 k met z there)
  ]

  -- a segment that stays on its left meets nothing
  pub nothing_on_left : pos 0 <ℤ bracket A B q → IsWalk t p q []
  nothing_on_left high k met = let s = begins t p q k met in
      beneath k met s.at s.begins.of_item (left_along p q apart A B s.at s.begins.shared seen high)

  -- ---- a line through the start that has all vertices on one side
  module _ (u v : Fraction) (supports : (k : ℕ) → IsVertex t k → bracket u v (vertex t k) ≤ℤ pos 0)
    where
      edge_below : (i j : ℕ) (z : Fraction) → IsEdge t i j → OnSegment (vertex t i) (vertex t j) z
          → ¬ (pos 0 <ℤ bracket u v z)
      edge_below i j z e there high =
          let meets = meeting_of t h in
          let ends = meets.ends i j e in
          left_not_below (left_before (vertex t i) (vertex t j)
          (ends_differ t meets p q apart i j e)
          u v z there high (supports j ends.1)) (supports i ends.0)

      item_below : (k : Item) → Meets t p q k → (z : Fraction) → IsPointOf t k z
          → ¬ (pos 0 <ℤ bracket u v z)
      item_below (L.at_vertex i) met z s high =
          left_not_below (above-same u v z (vertex t i) s high) (supports i met.0)
      item_below (L.across i j) met z s high = edge_below i j z met.0 s high
      item_below (L.along i j) met z s high = edge_below i j z met.0 s high

      -- a segment to its other side meets nothing
      pub nothing_beyond : bracket u v p ≡ pos 0 → pos 0 <ℤ bracket u v q → IsWalk t p q []
      nothing_beyond level high k met = go (order_along p q apart p s.at (start_on_segment p q)
          s.begins.shared)
        where
          s : Begins t p q k
          s = begins t p q k met

          go : OrderAlong p p s.at → ⊥
          go (sooner n) = item_below k met s.at s.begins.of_item
              (later_is_higher p q apart u v p s.at (start_on_segment p q) s.begins.shared n
              (rises u v p q level high) (zero_weak_left level))
          go (as_soon e) = beneath k met s.at s.begins.of_item (above-same A B p s.at e seen)
          go (later n) = nothing_nearer p s.at n

  not_then_overlap : (k : Item) (v : ℕ) → IsVertexThenOverlap k (L.at_vertex v) → ⊥
  not_then_overlap (L.at_vertex i) v x = x
  not_then_overlap (L.across i j) v x = x
  not_then_overlap (L.along i j) v x = x

  -- ---- where the segment does not end on the edge's left
  module _ (reaches : ¬ (pos 0 <ℤ bracket A B q)) where
    before_low : bracket B A p <ℤ pos 0
    before_low = opposite_of_positive (bracket B A p) (bracket A B p) (bracket-swapped A B p) seen

    after_high : pos 0 ≤ℤ bracket B A q
    after_high = go (lt_or_ge_ℤ (pos 0) (bracket A B q))
      where
        go : (pos 0 <ℤ bracket A B q) ⊎ (bracket A B q ≤ℤ pos 0) → pos 0 ≤ℤ bracket B A q
        go (inl l) = absurd (reaches l)
        go (inr l) = opposite_of_not_positive _ _ (bracket-swapped A B q) l

    -- a vertex on it and on the edge's line is what it meets first
    pub vertex_first : (v : ℕ) → IsVertex t v → OnSegment p q (vertex t v)
        → bracket A B (vertex t v) ≡ pos 0 → IsFirst t p q (L.at_vertex v)
    vertex_first v hv there level = record {
      met = (hv, there);
      none_before = λ k met o. order k met o o.order;
    }
      where
        order : (k : Item) → Meets t p q k → (o : IsBefore t p q k (L.at_vertex v))
            → IsNearer p o.first o.second
            ⊎ (IsSame o.first o.second × IsVertexThenOverlap k (L.at_vertex v)) → ⊥
        order k met o (inl near) = go (lt_or_ge_ℤ (pos 0) (bracket A B o.first))
          where
            to_vertex : IsNearer p o.first (vertex t v)
            to_vertex = nearer-same_second p q apart o.first o.second (vertex t v)
                o.first_begins.shared o.second_begins.shared there o.second_begins.of_item near

            go : (pos 0 <ℤ bracket A B o.first) ⊎ (bracket A B o.first ≤ℤ pos 0) → ⊥
            go (inl high) = beneath k met o.first o.first_begins.of_item high
            go (inr low) = left_not_zero
                (later_is_higher p q apart B A o.first (vertex t v) o.first_begins.shared there
                to_vertex (slope_above B A p q before_low after_high)
                (opposite_of_not_positive _ _ (bracket-swapped A B o.first) low))
                (opposite_of_zero_of (bracket-swapped A B (vertex t v)) level)
        order k met o (inr same) = not_then_overlap k v same.1

    -- the end, where it is on the segment's line
    pub end_first : IsVertex t b → bracket p q B ≡ pos 0 → bracket p q A <ℤ pos 0
        → IsFirst t p q (L.at_vertex b)
    end_first hb level below = vertex_first b hb
        (segment_from (bracket q p A) (bracket B A q) (neg_ℤ (bracket B A p)) p q B
        (opposite_of_negative _ _ (bracket-swapped p q A) below) after_high
        (negated_negative before_low)
        (λ x y. first_part (bracket B A q) (bracket B A p) (bracket x y p) (bracket x y q)
        (bracket q p A) (bracket x y B) (bracket q p B) (bracket x y A) (meeting B A p q x y)
        (opposite_of_zero_of (bracket-swapped p q B) level)))
        (bracket-second A B)

    -- the start, likewise
    pub start_first : IsVertex t a → bracket p q A ≡ pos 0 → pos 0 <ℤ bracket p q B
        → IsFirst t p q (L.at_vertex a)
    start_first ha level above = vertex_first a ha
        (segment_from (bracket p q B) (bracket B A q) (neg_ℤ (bracket B A p)) p q A
        above after_high (negated_negative before_low)
        (λ x y. second_part (bracket B A q) (bracket B A p) (bracket x y p) (bracket x y q)
        (bracket q p A) (bracket x y B) (bracket p q B) (bracket x y A)
        (meeting B A p q x y ∙ ap (λ s. bracket q p A *ℤ bracket x y B -ℤ s *ℤ bracket x y A)
        (bracket-swapped p q B)) (opposite_of_zero_of (bracket-swapped p q A) level)))
        (bracket-first A B)

    -- not both ends are on the segment's line
    pub not_both_on : bracket p q B ≡ pos 0 → bracket p q A ≡ pos 0 → ⊥
    not_both_on e f = reaches (only_last (bracket A B q) p.w (bracket B q p) A.w (bracket q A p) B.w
        (bracket A B p) q.w (cramer-w A B q p)
        (opposite_of_zero_of (sym (bracket-turned B q p) ∙ bracket-swapped p q B) e)
        (bracket-turned p q A ∙ f) p.positive seen q.positive)

-- ---- sides
left_if_neither : (z : Side) → ¬ (z ≡ right) → ¬ (z ≡ on) → z ≡ left
left_if_neither left r n = refl
left_if_neither on r n = absurd (n refl)
left_if_neither right r n = absurd (r refl)

right_if_neither : (z : Side) → ¬ (z ≡ left) → ¬ (z ≡ on) → z ≡ right
right_if_neither left l n = absurd (l refl)
right_if_neither on l n = absurd (n refl)
right_if_neither right l n = refl

-- the third side is this one, where questions deny the other two
module _ {z s : Side} (is : z ≡ s) {a b : Bool} where
  pub left_there : IsTrue a ↔ (z ≡ right) → a ≡ false → IsTrue b ↔ (z ≡ on) → b ≡ false → s ≡ left
  left_there r x n y = sym is ∙ left_if_neither z (unless r x) (unless n y)

  pub right_there : IsTrue a ↔ (z ≡ left) → a ≡ false → IsTrue b ↔ (z ≡ on) → b ≡ false → s ≡ right
  right_there l x n y = sym is ∙ right_if_neither z (unless l x) (unless n y)

swapped_left : (z : Side) → z ≡ left → opposite z ≡ left → ⊥
swapped_left z e f = let g : opposite z ≡ right = ap opposite e in cc

swapped_right : (z : Side) → ¬ (z ≡ left) → opposite z ≡ right → ⊥
swapped_right left n f = n refl
swapped_right on n f = cc
swapped_right right n f = cc

-- ---- over a mesh
module _ {V D U F P : Type 0} {at : V → Point} {IsSite : P → Point → Type 0}
    {c : Contents V D U F} {tests : P} (embedding : IsEmbedding at IsSite c tests) where
  abbrev m : Mesh
  m = c.mesh

  abbrev points : List Point
  points = map at c.vertices

  abbrev t : Triangulation
  t = drawn points m

  t_laid : IsLaid t
  t_laid = laid embedding

  -- located beyond an outer edge with p on its left, p sees this edge
  pub seen_from : {p : Point} (e : ℕ) → Locates points m p (OutsideOfConvexHull e) → (r : Option ℕ)
      → IsIfSeen points m p e r
      → IfSome r (IsSeenOuter at c p)
  seen_from e l None x = tt
  seen_from {p = p} e l (Some k) x = subst (IsSeenOuter at c p) (sym x.0) (record {
    within = of_mesh embedding e l.handle.0;
    outer = l.handle.1;
    seen = x.1;
  })

  -- the edges before and after an outer edge are outer edges
  sees_after : {p : Point} (h : ℕ) → h < length c.directed → face m h ≡ 0
      → IsLeftOf points m p (next m h) → IsSeenOuter at c p (next m h)
  sees_after h within o l =
      let here = embedding.kept.valid.sound.edges h (in_mesh embedding h within) in
      record {
        within = of_mesh embedding (next m h) here.next_in;
        outer = here.same_face ∙ o;
        seen = l;
      }

  outer_before : (h : ℕ) → h < length m.half_edges → face m h ≡ 0 → face m (prev m h) ≡ 0
  outer_before h w o =
      let here = embedding.kept.valid.sound.edges h w in
      sym (embedding.kept.valid.sound.edges (prev m h) here.prev_in).same_face
      ∙ ap (face m) here.next_prev ∙ o

  sees_before : {p : Point} (h : ℕ) → h < length c.directed → face m h ≡ 0
      → IsLeftOf points m p (prev m h) → IsSeenOuter at c p (prev m h)
  sees_before h within o l =
      let w = in_mesh embedding h within in
      record {
        within = of_mesh embedding (prev m h)
            (embedding.kept.valid.sound.edges h w).prev_in;
        outer = outer_before h w o;
        seen = l;
      }

  -- ---- a neighbour of outer edge h
  module _ (p : Point) (h : ℕ) (within : h < length c.directed) (o : face m h ≡ 0) where
    pub neighbour_after : (r : Option ℕ) (g : ℕ) → g ≡ next m h → IsIfSeen points m p g r
        → IfSome r (IsSeenOuter at c p)
    neighbour_after None g e x = tt
    neighbour_after (Some k) g e x = subst (IsSeenOuter at c p) (sym (x.0 ∙ e))
        (sees_after h within o (subst (IsLeftOf points m p) e x.1))

    pub neighbour_before : (r : Option ℕ) (g : ℕ) → g ≡ prev m h → IsIfSeen points m p g r
        → IfSome r (IsSeenOuter at c p)
    neighbour_before None g e x = tt
    neighbour_before (Some k) g e x = subst (IsSeenOuter at c p) (sym (x.0 ∙ e))
        (sees_before h within o (subst (IsLeftOf points m p) e x.1))

    -- the segment's line passes the edge on one side, and p does not see the neighbour there
    pub stops_after : (q : Point) (r : Option ℕ) (g : ℕ) → g ≡ next m h → IsIfSeen points m p g r
        → side (whole p) (whole q) (place points (origin m (rev h))) ≡ right
        → IfNone r (IsTurningPoint at c p q h)
    stops_after q None g e x past = record {
      after = λ _. subst (λ (k : ℕ). ¬ IsLeftOf points m p k) e x;
      before = λ n _. absurd (n past);
    }
    stops_after q (Some k) g e x past = tt

    pub stops_before : (q : Point) (r : Option ℕ) (g : ℕ) → g ≡ prev m h → IsIfSeen points m p g r
        → ¬ (side (whole p) (whole q) (place points (origin m (rev h))) ≡ right)
        → IfNone r (IsTurningPoint at c p q h)
    stops_before q None g e x short = record {
      after = λ past. absurd (short past);
      before = λ _ _. subst (λ (k : ℕ). ¬ IsLeftOf points m p k) e x;
    }
    stops_before q (Some k) g e x short = tt

  -- ---- from the left of outer edge h
  module _ {p q : Point} (apart : p ≢ q) (h : ℕ) (s : IsSeenOuter at c p h) where
    abbrev X : Fraction
    X = place points (origin m h)

    abbrev Y : Fraction
    Y = place points (origin m (rev h))

    ways_apart : ¬ IsSame (whole p) (whole q)
    ways_apart = not_same p q apart

    w : h < length m.half_edges
    w = in_mesh embedding h s.within

    r_in : rev h < length m.half_edges
    r_in = rev_within h (length m.half_edges) embedding.kept.valid.sound.even w

    outer : IsOuter t (origin m h) (origin m (rev h))
    outer = (
      joined embedding h w,
      bare embedding h w s.outer,
    )

    seen : pos 0 <ℤ bracket X Y (whole p)
    seen = above_if_left _ _ _ s.seen

    -- to its left it meets nothing
    pub nothing_on_its_left : IsLeftOf points m q h → Starts at c p q None
    nothing_on_its_left l = nothing_met embedding apart
        (nothing_on_left t t_laid (whole p) (whole q) ways_apart (origin m h) (origin m (rev h))
        outer seen (above_if_left _ _ _ l))

    -- ---- all vertices between two lines through p
    -- the edges after and before h, by their ends
    abbrev far : ℕ
    far = origin m (rev (next m h))

    abbrev early : ℕ
    early = origin m (prev m h)

    pair : (g i j : ℕ) → IsOuterEdge m g i j → Contains (outer_of m) (i, j)
    pair g i j o = listed m g i j o

    own : IsOuterEdge m h (origin m h) (origin m (rev h))
    own = record { within = w; outer = s.outer; source = refl; target = refl }

    after : IsOuterEdge m (next m h) (origin m (rev h)) far
    after = let here = embedding.kept.valid.sound.edges h w in record {
      within = here.next_in;
      outer = here.same_face ∙ s.outer;
      source = here.starts;
      target = refl;
    }

    before : IsOuterEdge m (prev m h) early (origin m h)
    before = let here = embedding.kept.valid.sound.edges h w in record {
      within = here.prev_in;
      outer = outer_before h w s.outer;
      source = refl;
      target = sym (embedding.kept.valid.sound.edges (prev m h) here.prev_in).starts
          ∙ ap (origin m) here.next_prev;
    }

    blind_after : ¬ IsLeftOf points m p (next m h)
        → bracket Y (place points far) (whole p) ≤ℤ pos 0
    unfolding bracket
    blind_after blind = bracket_not_left Y (place points far) (whole p) (λ l. blind
        (subst (λ (i : ℕ). TurnsLeft (place points i) (place points far) (whole p))
        (sym after.source) l))

    blind_before : ¬ IsLeftOf points m p (prev m h)
        → bracket (place points early) X (whole p) ≤ℤ pos 0
    unfolding bracket
    blind_before blind = bracket_not_left (place points early) X (whole p) (λ l. blind
        (subst (λ (i : ℕ). TurnsLeft (place points early) (place points i) (whole p))
        (sym before.target) l))

    module _ (signs : SignMesh (length points) (point_at points) (faces_of m) (outer_of m)) where
      end_of_hull : ¬ IsLeftOf points m p (next m h) → (k : ℕ) → IsVertex t k
          → bracket (whole p) Y (vertex t k) ≤ℤ pos 0
      unfolding bracket
      end_of_hull blind k hk = end_supports (length points) (point_at points) (faces_of m)
          (outer_of m) signs p (origin m h) (origin m (rev h)) far
          (pair h (origin m h) (origin m (rev h)) own)
          (pair (next m h) (origin m (rev h)) far after) seen (blind_after blind) k hk

      start_of_hull : ¬ IsLeftOf points m p (prev m h) → (k : ℕ) → IsVertex t k
          → bracket X (whole p) (vertex t k) ≤ℤ pos 0
      unfolding bracket
      start_of_hull blind k hk = start_supports (length points) (point_at points) (faces_of m)
          (outer_of m) signs p early (origin m h) (origin m (rev h))
          (pair (prev m h) early (origin m h) before)
          (pair h (origin m h) (origin m (rev h)) own) (blind_before blind) seen k hk

    -- ---- where all are on one line, this turns back at its ends
    module _ (flat : faces_of m ≡ []) (line : LineMesh points (outer_of m)) where
      signs : SignLine (length points) (point_at points) (outer_of m)
      signs = line_by_signs points (outer_of m) line

      next_to : (g i j : ℕ) → IsOuterEdge m g i j
          → Adjoin (length points) (point_at points) i j
      next_to g i j o = (signs.neighbours i j).0 (pair g i j o)

      twin : IsOuterEdge m (rev h) (origin m (rev h)) (origin m h)
      twin = record {
        within = r_in;
        outer = elim (none_or_some (face m (rev h))) [
          | inl o ↦ o
          | inr inner ↦ absurd (line_has_none m (origin m (rev h)) (origin m (rev (rev h)))
              (origin m (prev m (rev h))) flat
              (face_at embedding (rev h) r_in inner))
        ];
        source = refl;
        target = ap (origin m) (rev-rev h);
      }

      only_after : next m h ≡ rev h → (j : ℕ) → Contains (outer_of m) (origin m (rev h), j)
          → j ≡ origin m h
      only_after back j l =
          let g = real m (origin m (rev h)) j l in
          sym g.1.target ∙ ap (λ k. origin m (rev k)) (alone_at m (rev h) embedding.kept.valid r_in
          (ap (next m) (rev-rev h) ∙ back) g.0 g.1.within g.1.source) ∙ ap (origin m) (rev-rev h)

      only_before : prev m h ≡ rev h → (j : ℕ) → Contains (outer_of m) (origin m h, j)
          → j ≡ origin m (rev h)
      only_before back j l =
          let g = real m (origin m h) j l in
          sym g.1.target ∙ ap (λ k. origin m (rev k)) (alone_at m h embedding.kept.valid w
          (ap (next m) (sym back) ∙ (embedding.kept.valid.sound.edges h w).next_prev)
          g.0 g.1.within g.1.source)

      end_of_line : ¬ IsLeftOf points m p (next m h) → (k : ℕ) → IsVertex t k
          → bracket (whole p) Y (vertex t k) ≤ℤ pos 0
      unfolding bracket
      end_of_line blind k hk =
          elim (cases_eq far (origin m h)) as (λ _. bracket (whole p) Y (vertex t k) ≤ℤ pos 0) [
            | inl e ↦ end_supported (length points) (point_at points) (outer_of m) signs
                (origin m (rev h)) (origin m h)
                (next_to (rev h) (origin m (rev h)) (origin m h) twin)
                p seen (only_after (one_edge m line.once (next m h) (rev h) (origin m (rev h))
                (origin m h) (subst (IsOuterEdge m (next m h) (origin m (rev h))) e after)
                twin)) k hk
            | inr d ↦ absurd (left_not_below (seen_after (length points) (point_at points)
                (outer_of m) signs (origin m (rev h)) (origin m h)
                (next_to (rev h) (origin m (rev h)) (origin m h) twin) p seen far
                (next_to (next m h) (origin m (rev h)) far after) d) (blind_after blind))
          ]

      start_of_line : ¬ IsLeftOf points m p (prev m h) → (k : ℕ) → IsVertex t k
          → bracket X (whole p) (vertex t k) ≤ℤ pos 0
      unfolding bracket
      start_of_line blind k hk =
          elim (cases_eq early (origin m (rev h))) as
          (λ _. bracket X (whole p) (vertex t k) ≤ℤ pos 0) [
            | inl e ↦ start_supported (length points) (point_at points) (outer_of m) signs
                (origin m h) (origin m (rev h)) (next_to h (origin m h) (origin m (rev h)) own)
                p seen (only_before (one_edge m line.once (prev m h) (rev h) (origin m (rev h))
                (origin m h)
                (subst (λ (i : ℕ). IsOuterEdge m (prev m h) i (origin m h)) e before) twin)) k hk
            | inr d ↦ absurd (left_not_below (seen_before (length points) (point_at points)
                (outer_of m) signs (origin m h) (origin m (rev h))
                (next_to h (origin m h) (origin m (rev h)) own) p seen early
                (next_turned (length points) (point_at points) early (origin m h)
                (next_to (prev m h) early (origin m h) before)) d) (blind_before blind))
          ]

    end_side : ¬ IsLeftOf points m p (next m h) → (k : ℕ) → IsVertex t k
        → bracket (whole p) Y (vertex t k) ≤ℤ pos 0
    end_side = elim embedding.kept.shape [
      | inl l ↦ end_of_hull (by_signs points (faces_of m) (outer_of m) l)
      | inr l ↦ end_of_line l.0 l.1
    ]

    start_side : ¬ IsLeftOf points m p (prev m h) → (k : ℕ) → IsVertex t k
        → bracket X (whole p) (vertex t k) ≤ℤ pos 0
    start_side = elim embedding.kept.shape [
      | inl l ↦ start_of_hull (by_signs points (faces_of m) (outer_of m) l)
      | inr l ↦ start_of_line l.0 l.1
    ]

    -- past the last edge that p sees it meets nothing
    pub nothing_past_end : side (whole p) (whole q) Y ≡ right → ¬ IsLeftOf points m p (next m h)
        → Starts at c p q None
    nothing_past_end e blind = nothing_met embedding apart
        (nothing_beyond t t_laid (whole p) (whole q) ways_apart (origin m h) (origin m (rev h))
        outer seen (whole p) Y (end_side blind) (bracket-first (whole p) Y)
        (opposite_of_negative (bracket (whole p) Y (whole q)) (bracket (whole p) (whole q) Y)
        (bracket-turned (whole q) (whole p) Y ∙ bracket-swapped (whole p) (whole q) Y)
        (below_if_right (whole p) (whole q) Y e)))

    -- nor before the first one
    pub nothing_past_start : side (whole p) (whole q) X ≡ left → ¬ IsLeftOf points m p (prev m h)
        → Starts at c p q None
    nothing_past_start e blind = nothing_met embedding apart
        (nothing_beyond t t_laid (whole p) (whole q) ways_apart (origin m h) (origin m (rev h))
        outer seen X (whole p) (start_side blind) (bracket-second X (whole p))
        (subst (λ z. pos 0 <ℤ z) (bracket-turned X (whole p) (whole q))
        (above_if_left (whole p) (whole q) X e)))

    -- ---- where q is not on the edge's left
    module _ (reaches : ¬ IsLeftOf points m q h) where
      not_above : ¬ (pos 0 <ℤ bracket X Y (whole q))
      not_above k = reaches (left_if_above X Y (whole q) k)

      start_below : side (whole p) (whole q) Y ≡ on → ¬ (side (whole p) (whole q) X ≡ left)
          → bracket (whole p) (whole q) X <ℤ pos 0
      start_below e n = elim (trichotomy_ℤ (bracket (whole p) (whole q) X)) [
        | inl k ↦ k
        | inr r ↦ elim r [
          | inl k ↦ absurd (not_both_on t t_laid (whole p) (whole q) ways_apart (origin m h)
              (origin m (rev h)) outer seen not_above (none_if_on (whole p) (whole q) Y e) k)
          | inr k ↦ absurd (n (left_if_above (whole p) (whole q) X k))
        ]
      ]

      -- the end of the edge
      pub end_met : side (whole p) (whole q) Y ≡ on → ¬ (side (whole p) (whole q) X ≡ left)
          → Starts at c p q (Some (Vertex (origin m (rev h))))
      end_met e n = starts_first embedding apart (Vertex (origin m (rev h)))
          (start_known embedding (rev h) (of_mesh embedding (rev h) r_in))
          (end_first t t_laid (whole p) (whole q) ways_apart (origin m h) (origin m (rev h)) outer
          seen not_above (start_in embedding (rev h) r_in)
          (none_if_on (whole p) (whole q) Y e)
          (start_below e n))

      -- the start of the edge
      pub start_met : side (whole p) (whole q) X ≡ on → side (whole p) (whole q) Y ≡ left
          → Starts at c p q (Some (Vertex (origin m h)))
      start_met e l = starts_first embedding apart (Vertex (origin m h))
          (start_known embedding h s.within)
          (start_first t t_laid (whole p) (whole q) ways_apart (origin m h) (origin m (rev h))
          outer seen not_above (start_in embedding h w)
          (none_if_on (whole p) (whole q) X e)
          (above_if_left (whole p) (whole q) Y l))

      -- the edge itself
      pub edge_met : StartsOutside t p → side (whole p) (whole q) X ≡ right
          → side (whole p) (whole q) Y ≡ left → Starts at c p q (Some (Edge (rev h)))
      edge_met outside r l = enters embedding outside apart (rev h)
          (of_mesh embedding (rev h) r_in) (
            subst (λ (k : ℕ). face m k ≡ 0) twice s.outer,
            (
              (
                l,
                subst (λ (k : ℕ). side (whole p) (whole q) (place points (origin m k)) ≡ right)
                    twice r,
              ),
              (
                subst (λ (k : ℕ). side Y (place points (origin m k)) (whole p) ≢ left)
                    twice (λ e. swapped_left _ s.seen (sym (side_swapped X Y (whole p)) ∙ e)),
                subst (λ (k : ℕ). side Y (place points (origin m k)) (whole q) ≢ right)
                    twice (λ e. swapped_right _ reaches (sym (side_swapped X Y (whole q)) ∙ e)),
              ),
            ),
          )
        where
          twice : h ≡ rev (rev h)
          twice = sym (rev-rev h)
