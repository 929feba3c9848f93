-- What a segment meets first from outside the hull, where it crosses no outer edge from there: a
-- nearest vertex, or nothing.
-- Notions: NearestIsFirst; vertex_begins, overlap_not_first, before_nearer, nearest_of_firsts,
-- nearest_first, none_of_firsts, none_without, not_from_face, only_vertex, first_from_the_outside.
use Rattle.std.proofs.Common.{◌≡◌, ℕ, List, [], ◌∷◌, arith, refl, sym, ◌∙◌, subst}
use mathlib.Core.Logic.{◌⊎◌, inl, inr}
use lib.IntN.{neg_ℤ}
use Rattle.std.specs.Prelude.{ℤ, pos, ◌<ℤ◌, ◌≤ℤ◌, ◌+ℤ◌, ◌-ℤ◌, ◌*ℤ◌}
use Rattle.std.proofs.lemmas.Int.{ints}
use Rattle.plane.specs.{BeginsAt, Fraction, HasFace, InCorners, IsBefore, IsEdge, IsFace, IsNearer}
use Rattle.plane.specs.{IsOuter, IsSame, IsVertexThenOverlap, Item, Meets, OnSegment, TilesHull}
use Rattle.plane.specs.{Triangulation, vertex}
use Rattle.plane.proofs.{lt_or_ge_ℤ, mul-neg_of_pos_neg_ℤ, mul-neg_ℤ, mul-nonneg_ℤ}
use Rattle.plane.proofs.{mul-nonpos_of_nonneg_nonpos_ℤ, mul-pos_ℤ, neg-mul_ℤ, negated_negative}
use Rattle.plane.proofs.{opposite_of_negative, opposite_of_not_positive, opposite_of_zero_of}
use Rattle.plane.proofs.{product_zero_left, same-refl, same_not_nearer, start_on_segment}
use Rattle.plane.proofs.{trichotomy_ℤ, turned_face, weak, weak_right, zero-mul_ℤ, zero_weak}
use Rattle.{plane.proofs.zero_weak_left, plane_theorems.proofs.Delaunay.Tilings.Faces.between-third}
use Rattle.plane_theorems.specs.{IsFirst, IsWalk, Segments.WalkLaws.FirstFromOutside}
use Rattle.plane_theorems.proofs.Delaunay.Floods.Flooded.{segment_from, side_of_segment}
use Rattle.plane_theorems.proofs.Delaunay.Points.AlongSegment.{first_on, none_sooner}
use Rattle.plane_theorems.proofs.Delaunay.Points.Bracket.{above_if_left, bracket, bracket-first}
use Rattle.plane_theorems.proofs.Delaunay.Points.Bracket.{bracket-swapped, cramer, meeting}
use Rattle.plane_theorems.proofs.{Delaunay.Points.Members.Member, Segments.Walking.Steps.edge_apart}
use Rattle.plane_theorems.proofs.Delaunay.Segments.LineItems.{Begins, begins, between_of}
use Rattle.plane_theorems.proofs.Delaunay.Segments.LineItems.{line_items_are_ordered, Meeting}
use Rattle.plane_theorems.proofs.Delaunay.Segments.LineItems.{meeting_of_hull, met_within}
use Rattle.plane_theorems.proofs.Delaunay.Segments.LineItems.{turned_segment}
use Rattle.plane_theorems.proofs.Delaunay.Tilings.Faces.{Between, between-second, between-swapped}
use Rattle.plane_theorems.proofs.Delaunay.Tilings.Ground.{face_of_side, side_listed, sides_of}
use Rattle.plane_theorems.proofs.Delaunay.Tilings.Ground.{triangle_of_closed}
use Rattle.plane_theorems.proofs.Delaunay.Tilings.Meets.{on_side-closed}
use Rattle.plane_theorems.proofs.Delaunay.Tilings.OuterEdges.{face_not_left_of_outer}
use Rattle.plane_theorems.proofs.Delaunay.Tilings.Where.{listed_or_not}
use Rattle.plane_theorems.proofs.Segments.Items.Begins.{edge_flipped, met_if, on_line, Signs}
use Rattle.plane_theorems.proofs.Segments.Items.Begins.{signs_of}
use Rattle.plane_theorems.proofs.Segments.Items.Orders.{nearer-same_first, nearer-same_second}
use Rattle.plane_theorems.proofs.Segments.Items.Slopes.{higher_is_later, left_before, slope_above}
use Rattle.plane_theorems.proofs.Segments.Walking.EachWalk.{each_walk}
use Rattle.plane.specs.Line as L

-- ---- any triangulation whose items have their order
-- of the vertices that are met the nearest one is the first item
abbrev pub NearestIsFirst : Triangulation → Fraction → Fraction → Type 0
NearestIsFirst t p q = (v : ℕ) → Meets t p q (L.at_vertex v)
    → ((w : ℕ) → Meets t p q (L.at_vertex w) → ¬ IsNearer p (vertex t w) (vertex t v))
    → IsFirst t p q (L.at_vertex v)

module _ (t : Triangulation) (c₀ : Meeting t) (p q : Fraction) (apart : ¬ IsSame p q) where
  -- a vertex on the segment begins where it is
  pub vertex_begins : (v : ℕ) → Meets t p q (L.at_vertex v)
      → BeginsAt t p q (L.at_vertex v) (vertex t v)
  vertex_begins v m =
      record {
        shared = m.1;
        of_item = same-refl (vertex t v);
        first = λ r _ e. same_not_nearer p r (vertex t v) e;
      }

  -- where no edge carries the start, an overlap is not the first
  pub overlap_not_first : ((i j : ℕ) → IsEdge t i j → ¬ OnSegment (vertex t i) (vertex t j) p)
      → (i j : ℕ) → ¬ IsFirst t p q (L.along i j)
  overlap_not_first off i j f = f.none_before (L.at_vertex i) there (record {
    first = vertex t i;
    second = vertex t i;
    first_begins = vertex_begins i there;
    second_begins = record {
      shared = there.1;
      of_item = start_on_segment (vertex t i) (vertex t j);
      first = λ r a b. none_sooner p q (vertex t i) (vertex t j) f.met.1 (off i j f.met.0) r a b;
    };
    order = inr (same-refl (vertex t i), tt);
  })
    where
      there : Meets t p q (L.at_vertex i)
      there = (
        (c₀.ends i j f.met.0).0,
        first_on p q (vertex t i) (vertex t j) f.met.1 (off i j f.met.0),
      )

  -- of two vertices the one before is nearer
  pub before_nearer : (v w : ℕ) → Meets t p q (L.at_vertex v) → Meets t p q (L.at_vertex w) →
      IsBefore t p q (L.at_vertex v) (L.at_vertex w) → IsNearer p (vertex t v) (vertex t w)
  before_nearer v w mv mw o = go o.order
    where
      go : IsNearer p o.first o.second
          ⊎ (IsSame o.first o.second × IsVertexThenOverlap (L.at_vertex v) (L.at_vertex w))
          → IsNearer p (vertex t v) (vertex t w)
      go (inl n) = nearer-same_first p q apart o.first (vertex t v)
          (vertex t w) o.first_begins.shared mv.1 mw.1
          o.first_begins.of_item
          (nearer-same_second p q apart o.first o.second
          (vertex t w) o.first_begins.shared o.second_begins.shared mw.1
          o.second_begins.of_item n)
      go (inr w) = absurd w.1

  -- where the first item is a vertex, it is the nearest, and there is none without a vertex
  module _ (only : (m : Item) → IsFirst t p q m → (v : ℕ) × (m ≡ L.at_vertex v)) where
    -- a vertex that is met comes first where no first one is nearer
    pub nearest_of_firsts : (v : ℕ) → Meets t p q (L.at_vertex v)
        → ((w : ℕ) → IsFirst t p q (L.at_vertex w) → ¬ IsNearer p (vertex t w) (vertex t v))
        → IsFirst t p q (L.at_vertex v)
    nearest_of_firsts v met nearest =
        go (each_walk t c₀ p q apart).items (each_walk t c₀ p q apart).walk
      where
        at_first : (w : ℕ) → IsFirst t p q (L.at_vertex w) → IsFirst t p q (L.at_vertex v)
        at_first w f =
            pick (line_items_are_ordered t c₀ p q apart (L.at_vertex w) (L.at_vertex v) f.met met)
          where
            pick : (L.at_vertex w ≡ L.at_vertex v) ⊎ (IsBefore t p q (L.at_vertex w) (L.at_vertex v)
                ⊎ IsBefore t p q (L.at_vertex v) (L.at_vertex w)) → IsFirst t p q (L.at_vertex v)
            pick (inl e) = subst (IsFirst t p q) e f
            pick (inr (inl o)) = absurd (nearest w f (before_nearer w v f.met met o))
            pick (inr (inr o)) = absurd (f.none_before (L.at_vertex v) met o)

        go : (items : List Item) → IsWalk t p q items → IsFirst t p q (L.at_vertex v)
        go [] w = absurd (w (L.at_vertex v) met)
        go (m ∷ ms) w = let o = only m w.0 in at_first o.0 (subst (IsFirst t p q) o.1 w.0)

    -- the nearest vertex that is met comes first
    pub nearest_first : NearestIsFirst t p q
    nearest_first v met nearest = nearest_of_firsts v met (λ w f. nearest w f.met)

    -- where no vertex comes first, the walk is empty
    pub none_of_firsts : ((v : ℕ) → ¬ IsFirst t p q (L.at_vertex v)) → IsWalk t p q []
    none_of_firsts bare = go (each_walk t c₀ p q apart).items (each_walk t c₀ p q apart).walk
      where
        go : (items : List Item) → IsWalk t p q items → IsWalk t p q []
        go [] w = w
        go (m ∷ ms) w = let o = only m w.0 in absurd (bare o.0 (subst (IsFirst t p q) o.1 w.0))

    -- where no vertex is met, the walk is empty
    pub none_without : ((v : ℕ) → ¬ Meets t p q (L.at_vertex v)) → IsWalk t p q []
    none_without bare = none_of_firsts (λ v f. bare v f.met)

-- ---- numbers: a x + b y + c z = 0
not_least : (a x b y c z : ℤ) → a *ℤ x +ℤ b *ℤ y +ℤ c *ℤ z ≡ pos 0 → x <ℤ pos 0 → pos 0 <ℤ y
    → pos 0 ≤ℤ c → pos 0 ≤ℤ z → pos 0 ≤ℤ b → pos 0 ≤ℤ a
not_least a x b y c z e hx hy hc hz hb = go (lt_or_ge_ℤ a (pos 0))
  where
    low : a <ℤ pos 0 → ⊥
    low h = let m =
        mul-pos_ℤ {a = neg_ℤ a} {b = neg_ℤ x} (omega (arith, ints)) (omega (arith, ints)) in
        let n = mul-nonneg_ℤ {a = b} {b = y} hb (weak hy) in
        let o = mul-nonneg_ℤ {a = c} {b = z} hc hz in
        let i = neg-mul_ℤ a (neg_ℤ x) in let j = mul-neg_ℤ a x in omega (arith, ints)

    go : (a <ℤ pos 0) ⊎ (pos 0 ≤ℤ a) → pos 0 ≤ℤ a
    go (inl h) = absurd (low h)
    go (inr h) = h

not_least_other : (a x b y c z : ℤ) → a *ℤ x +ℤ b *ℤ y +ℤ c *ℤ z ≡ pos 0 → x <ℤ pos 0 → pos 0 <ℤ y
    → pos 0 ≤ℤ c → z <ℤ pos 0 → pos 0 ≤ℤ a → pos 0 ≤ℤ b
not_least_other a x b y c z e hx hy hc hz ha = go (lt_or_ge_ℤ b (pos 0))
  where
    low : b <ℤ pos 0 → ⊥
    low h = let m = mul-neg_of_pos_neg_ℤ {a = y} {b = b} hy h in
        let n = mul-nonpos_of_nonneg_nonpos_ℤ {a = a} {b = x} ha (weak_right hx) in
        let o = mul-nonpos_of_nonneg_nonpos_ℤ {a = c} {b = z} hc (weak_right hz) in
        omega (arith, ints, lib.IntN.*ℤ_comm y b)

    go : (b <ℤ pos 0) ⊎ (pos 0 ≤ℤ b) → pos 0 ≤ℤ b
    go (inl h) = absurd (low h)
    go (inr h) = h

-- ---- from a point that no closed face has
module _ (t : Triangulation) (h : TilesHull t) (p q : Fraction) (apart : ¬ IsSame p q)
    (out : (i j k : ℕ) → IsFace t i j k → ¬ InCorners t i j k p) where
  off_edges : (i j : ℕ) → IsEdge t i j → ¬ OnSegment (vertex t i) (vertex t j) p
  off_edges i j e there = go ((h.sides i j).0 e)
    where
      at_face : (i j k : ℕ) → IsFace t i j k → OnSegment (vertex t i) (vertex t j) p → ⊥
      at_face i j k f on = out i j k f
          (triangle_of_closed (vertex t i) (vertex t j) (vertex t k) p (h.turning i j k f)
          (on_side-closed (vertex t i) (vertex t j) (vertex t k) p
          (side_of_segment (vertex t i) (vertex t j) p on)
          (above_if_left (vertex t i) (vertex t j) (vertex t k) (h.turning i j k f))))

      go : HasFace t i j ⊎ HasFace t j i → ⊥
      go (inl f) = at_face i j f.0 f.1 there
      go (inr f) = at_face j i f.0 f.1 (turned_segment (vertex t i) (vertex t j) p there)

  -- an edge that is crossed from a face on the start's side is not the first: something of that
  -- face is met before
  module _ (i j k : ℕ) (f : IsFace t j i k) (s : Signs p q (vertex t i) (vertex t j))
      (first : IsFirst t p q (L.across i j)) where
    abbrev I : Fraction
    I = vertex t i

    abbrev J : Fraction
    J = vertex t j

    abbrev K : Fraction
    K = vertex t k

    turning : pos 0 <ℤ bracket J I K
    turning = above_if_left J I K (h.turning j i k f)

    -- weighted as p is by the corners, their brackets with the segment add up to 0
    sum : bracket I K p *ℤ bracket p q J +ℤ bracket K J p *ℤ bracket p q I +ℤ bracket J I p
        *ℤ bracket p q K ≡ pos 0
    sum = sym (cramer J I K p p q) ∙ zero-mul_ℤ (bracket J I K) (bracket-first p q)

    near_side : pos 0 ≤ℤ bracket J I p
    near_side = opposite_of_not_positive _ _ (bracket-swapped I J p) s.start

    not_in : pos 0 ≤ℤ bracket I K p → pos 0 ≤ℤ bracket K J p → ⊥
    not_in a b = out j i k f (triangle_of_closed J I K p (h.turning j i k f)
        (record { first = near_side; second = a; third = b }))

    right_of_third : pos 0 ≤ℤ bracket p q K → bracket K J p <ℤ pos 0
    right_of_third d = go (lt_or_ge_ℤ (bracket K J p) (pos 0))
      where
        go : (bracket K J p <ℤ pos 0) ⊎ (pos 0 ≤ℤ bracket K J p) → bracket K J p <ℤ pos 0
        go (inl b) = b
        go (inr b) = absurd
            (not_in (not_least (bracket I K p) (bracket p q J) (bracket K J p) (bracket p q I)
            (bracket J I p) (bracket p q K) sum s.right s.left near_side d b) b)

    right_of_second : bracket p q K <ℤ pos 0 → bracket I K p <ℤ pos 0
    right_of_second d = go (lt_or_ge_ℤ (bracket I K p) (pos 0))
      where
        go : (bracket I K p <ℤ pos 0) ⊎ (pos 0 ≤ℤ bracket I K p) → bracket I K p <ℤ pos 0
        go (inl a) = a
        go (inr a) = absurd (not_in a
            (not_least_other (bracket I K p) (bracket p q J) (bracket K J p) (bracket p q I)
            (bracket J I p) (bracket p q K) sum s.right s.left near_side d a))

    -- where the edge is crossed
    y : Begins t p q (L.across i j)
    y = begins t p q (L.across i j) first.met

    between : Between J I y.at
    between = between-swapped I J y.at (between_of I J y.at
        (met_within t
        (meeting_of_hull t h) p q apart i j first.met y.at y.begins.shared y.begins.of_item))

    end_left : (u v : Fraction) → bracket u v p <ℤ pos 0 → pos 0 <ℤ bracket u v y.at
        → pos 0 ≤ℤ bracket u v q
    end_left u v low high = go (lt_or_ge_ℤ (bracket u v q) (pos 0))
      where
        both : {z : ℤ} → z <ℤ pos 0 → pos 0 <ℤ z → ⊥
        both h k = omega (arith, ints)

        go : (bracket u v q <ℤ pos 0) ⊎ (pos 0 ≤ℤ bracket u v q) → pos 0 ≤ℤ bracket u v q
        go (inl l) =
            absurd (both low (left_before p q apart u v y.at y.begins.shared high (weak_right l)))
        go (inr l) = l

    -- a point on a side that has the start on its right and the crossing on its left comes before
    -- the crossing
    sooner : (u v z : Fraction) → OnSegment p q z → bracket u v z ≡ pos 0 → bracket u v p <ℤ pos 0 →
        pos 0 <ℤ bracket u v y.at → IsNearer p z y.at
    sooner u v z hz on low high = higher_is_later p q apart u v z y.at hz y.begins.shared
        (slope_above u v p q low (end_left u v low high)) (zero_weak on) high

    earlier_edge : (a b : ℕ) → IsEdge t a b → pos 0 <ℤ bracket p q (vertex t a)
        → bracket p q (vertex t b) <ℤ pos 0 → bracket (vertex t a) (vertex t b) p <ℤ pos 0
        → pos 0 <ℤ bracket (vertex t a) (vertex t b) y.at → ⊥
    earlier_edge a b e l r low high = go met (begins t p q (L.across a b) met)
      where
        met : Meets t p q (L.across a b)
        met = met_if t p q apart a b e (record {
          left = l;
          right = r;
          start = weak_right low;
          end = end_left (vertex t a) (vertex t b) low high;
        })

        go : Meets t p q (L.across a b) → Begins t p q (L.across a b) → ⊥
        go m z = first.none_before (L.across a b) m (record {
          first = z.at;
          second = y.at;
          first_begins = z.begins;
          second_begins = y.begins;
          order = inl (sooner (vertex t a) (vertex t b) z.at z.begins.shared
              (on_line (vertex t a) (vertex t b) z.at z.begins.of_item) low high);
        })

    earlier_vertex : bracket p q K ≡ pos 0 → bracket K J p <ℤ pos 0 → pos 0 <ℤ bracket K J y.at → ⊥
    earlier_vertex level low high = first.none_before (L.at_vertex k) met
        (record {
          first = K;
          second = y.at;
          first_begins = vertex_begins t (meeting_of_hull t h) p q apart k met;
          second_begins = y.begins;
          order = inl (sooner K J K there (bracket-first K J) low high);
        })
      where
        parts : (f g x y k z l w : ℤ) → f *ℤ x -ℤ g *ℤ y ≡ k *ℤ z -ℤ l *ℤ w → l ≡ pos 0 →
            k *ℤ z ≡ f *ℤ x +ℤ neg_ℤ g *ℤ y
        parts f g x y k z l w e d =
            let a = product_zero_left {a = l} w d in omega (arith, ints, neg-mul_ℤ g y)

        there : OnSegment p q K
        there = segment_from (bracket q p J) (bracket K J q) (neg_ℤ (bracket K J p)) p q K
            (opposite_of_negative _ _ (bracket-swapped p q J) s.right) (end_left K J low high)
            (negated_negative low)
            (λ u v. parts (bracket K J q) (bracket K J p) (bracket u v p) (bracket u v q)
            (bracket q p J)
            (bracket u v K) (bracket q p K) (bracket u v J) (meeting K J p q u v)
            (opposite_of_zero_of (bracket-swapped p q K) level))

        met : Meets t p q (L.at_vertex k)
        met = ((h.corners j i k f).2, there)

    -- a segment from outside does not begin with such a side
    pub not_from_face : ⊥
    not_from_face = go (trichotomy_ℤ (bracket p q K))
      where
        second : IsEdge t i k
        second = (h.sides i k).1 (inl (j, turned_face t j i k f))

        third : IsEdge t k j
        third = (h.sides k j).1 (inl (i, turned_face t i k j (turned_face t j i k f)))

        go : (bracket p q K <ℤ pos 0) ⊎ ((bracket p q K ≡ pos 0) ⊎ (pos 0 <ℤ bracket p q K)) → ⊥
        go (inl d) = earlier_edge i k second s.left d (right_of_second d)
            (between-second J I K y.at between turning)
        go (inr (inl d)) =
            earlier_vertex d (right_of_third (zero_weak_left d))
            (between-third J I K y.at between turning)
        go (inr (inr d)) =
            earlier_edge k j third d s.right (right_of_third (weak d))
            (between-third J I K y.at between turning)

  -- where no outer edge is crossed from outside, the first is a vertex
  pub only_vertex : ((a b : ℕ) → IsOuter t a b → ¬ Meets t p q (L.across b a)) → (m : Item)
      → IsFirst t p q m → (v : ℕ) × (m ≡ L.at_vertex v)
  only_vertex none (L.at_vertex v) f = (v, refl)
  only_vertex none (L.along i j) f =
      absurd (overlap_not_first t (meeting_of_hull t h) p q apart off_edges i j f)
  only_vertex none (L.across i j) f = absurd (go (listed_or_not j i (sides_of t.faces)))
    where
      go : Member (j, i) (sides_of t.faces) ⊎ (¬ Member (j, i) (sides_of t.faces)) → ⊥
      go (inl m) = let g = face_of_side t j i m in not_from_face i j g.0 g.1
          (signs_of t p q apart i j (edge_apart t h i j f.met.0) f.met) f
      go (inr n) = none j i (edge_flipped t i j f.met.0, λ g. n (side_listed t h j i g.0 g.1)) f.met

-- from outside, where no outer edge is crossed inwards, the nearest vertex on the segment comes
-- first
pub first_from_the_outside : FirstFromOutside
first_from_the_outside t h p q apart i j outer turns none = (
  nearest_first t (meeting_of_hull t h) p q apart (only_vertex t h p q apart out none),
  none_without t (meeting_of_hull t h) p q apart (only_vertex t h p q apart out none),
)
  where
    out : (l m n : ℕ) → IsFace t l m n → ¬ InCorners t l m n p
    out l m n f inside = face_not_left_of_outer t h i j l m n p outer f inside turns
