-- What a segment meets next after an edge that it crosses: through the face on the edge's left.
-- Notions: A, B, D, crossed; next_left, next_right, next_vertex, last_left, last_right.
use Rattle.std.proofs.Common.{◌≡◌, ℕ, [], ◌∷◌, arith, ap, sym, ◌∙◌}
use mathlib.Core.Logic.{◌⊎◌, inl, inr}
use lib.IntN.{neg_ℤ}
use Rattle.std.specs.Prelude.{ℤ, pos, ◌<ℤ◌, ◌≤ℤ◌, ◌+ℤ◌, ◌-ℤ◌, ◌*ℤ◌}
use Rattle.std.proofs.lemmas.Int.{ints}
use Rattle.plane.specs.{BeginsAt, Fraction, IsBefore, IsEdge, IsFace, IsNearer, IsSame}
use Rattle.plane.specs.{IsVertexThenOverlap, Item, Meets, OnSegment, TilesHull, Triangulation}
use Rattle.{plane.specs.vertex, plane_theorems.specs.ComesNext, plane_theorems.specs.IsLast}
use Rattle.plane.proofs.{◌⊕◌, ◌⊖◌, ◌⊗◌, left_not_zero, mul-neg_of_pos_neg_ℤ, mul-nonneg_of_nonpos_ℤ}
use Rattle.plane.proofs.{mul-nonneg_ℤ, mul-nonpos_of_nonneg_nonpos_ℤ, mul-pos_ℤ, neg-pos_ℤ}
use Rattle.plane.proofs.{negated_not_negative, num, opposite_of_negative, opposite_of_not_positive}
use Rattle.plane.proofs.{opposite_of_positive, ring_in_from, same-refl, same_not_nearer}
use Rattle.plane.proofs.{trichotomy_ℤ, turned_face, weak, weak_right, zero-mul_ℤ, zero_weak}
use Rattle.plane.proofs.{zero_weak_left, ⊝}
use Rattle.plane_theorems.proofs.Delaunay.Floods.Flooded.{segment_from}
use Rattle.plane_theorems.proofs.Delaunay.Points.Bracket.{above_if_left, bracket, bracket-first}
use Rattle.plane_theorems.proofs.Delaunay.Points.Bracket.{bracket-swapped, cramer, meeting}
use Rattle.plane_theorems.proofs.Delaunay.Points.Nudges.{InOpen}
use Rattle.plane_theorems.proofs.Delaunay.Segments.LineItems.{Begins, begins, between_of}
use Rattle.plane_theorems.proofs.Delaunay.Segments.LineItems.{meeting_of_hull, met_within}
use Rattle.plane_theorems.proofs.Delaunay.Tilings.Faces.{Between, between-second, between-swapped}
use Rattle.plane_theorems.proofs.Delaunay.Tilings.Faces.{between-third, turned-above}
use Rattle.plane_theorems.proofs.Segments.Items.Begins.{above-same, after_crossing, bare_inside}
use Rattle.plane_theorems.proofs.Segments.Items.Begins.{before_crossing, begins_once, edge_flipped}
use Rattle.plane_theorems.proofs.Segments.Items.Begins.{met_if, on_line, rising, Signs}
use Rattle.plane_theorems.proofs.Segments.Items.Slopes.{higher_is_later, later_is_higher}
use Rattle.plane_theorems.proofs.Segments.Items.Slopes.{left_before, left_from, slope, slope_above}
use Rattle.plane.specs.Line as L

-- ---- the triangle a b d, and z on the line p q, which parts a and b: 0 = second A + third B +
-- first D
-- where d is not right of the line
third_by : (n s t f A B D : ℤ) → n *ℤ pos 0 ≡ s *ℤ A +ℤ t *ℤ B +ℤ f *ℤ D → pos 0 <ℤ s → pos 0 <ℤ A
    → pos 0 <ℤ f → pos 0 ≤ℤ D → B <ℤ pos 0 → pos 0 <ℤ t
third_by n s t f A B D e hs hA hf hD hB = go (trichotomy_ℤ t)
  where
    none : t ≤ℤ pos 0 → ⊥
    none h =
        let a = mul-pos_ℤ {a = s} {b = A} hs hA in
        let b = mul-nonneg_of_nonpos_ℤ {a = t} {b = B} h (weak_right hB) in
        let c = mul-nonneg_ℤ {a = f} {b = D} (weak hf) hD in
        let z = zero-mul_ℤ n {x = pos 0} (omega (arith, ints)) in
        omega (arith, ints)

    go : (t <ℤ pos 0) ⊎ ((t ≡ pos 0) ⊎ (pos 0 <ℤ t)) → pos 0 <ℤ t
    go (inl h) = absurd (none (weak_right h))
    go (inr (inl h)) = absurd (none (zero_weak h))
    go (inr (inr h)) = h

-- where d is not left of it
second_by : (n s t f A B D : ℤ) → n *ℤ pos 0 ≡ s *ℤ A +ℤ t *ℤ B +ℤ f *ℤ D → pos 0 <ℤ t → pos 0 <ℤ A
    → pos 0 <ℤ f → D ≤ℤ pos 0 → B <ℤ pos 0 → pos 0 <ℤ s
second_by n s t f A B D e ht hA hf hD hB = go (trichotomy_ℤ s)
  where
    none : s ≤ℤ pos 0 → ⊥
    none h =
        let a = mul-nonpos_of_nonneg_nonpos_ℤ {a = A} {b = s} (weak hA) h in
        let a' = lib.IntN.*ℤ_comm A s in
        let b = mul-neg_of_pos_neg_ℤ {a = t} {b = B} ht hB in
        let c = mul-nonpos_of_nonneg_nonpos_ℤ {a = f} {b = D} (weak hf) hD in
        let z = zero-mul_ℤ n {x = pos 0} (omega (arith, ints)) in
        omega (arith, ints)

    go : (s <ℤ pos 0) ⊎ ((s ≡ pos 0) ⊎ (pos 0 <ℤ s)) → pos 0 <ℤ s
    go (inl h) = absurd (none (weak_right h))
    go (inr (inl h)) = absurd (none (zero_weak h))
    go (inr (inr h)) = h

seen_by : (a b d z p q : Fraction) → OnSegment p q z → bracket a b d *ℤ pos 0 ≡ bracket b d z
    *ℤ bracket p q a +ℤ bracket d a z *ℤ bracket p q b +ℤ bracket a b z *ℤ bracket p q d
seen_by a b d z p q h = ap (λ n. bracket a b d *ℤ n) (sym (on_line p q z h)) ∙ cramer a b d z p q

module _ (t : Triangulation) (h : TilesHull t) (p q : Fraction) (apart : ¬ IsSame p q) (a b d : ℕ)
    (m : Meets t p q (L.across a b)) (s : Signs p q (vertex t a) (vertex t b))
    (f : IsFace t a b d) where
  -- the edge's first end
  abbrev pub A : Fraction
  A = vertex t a

  -- the edge's second end
  abbrev pub B : Fraction
  B = vertex t b

  -- the corner of the face ahead
  abbrev pub D : Fraction
  D = vertex t d

  turning : pos 0 <ℤ bracket A B D
  turning = above_if_left A B D (h.turning a b d f)

  -- the point where the segment crosses the edge
  abbrev pub crossed : Fraction
  crossed = m.1.at

  on_way : OnSegment p q crossed
  on_way = m.1.meet.first

  between : Between A B crossed
  between = between_of A B crossed m.1.within

  -- the crossing is strictly left of the other two sides
  second_there : pos 0 <ℤ bracket B D crossed
  second_there = between-second A B D crossed between turning

  third_there : pos 0 <ℤ bracket D A crossed
  third_there = between-third A B D crossed between turning

  second_edge : IsEdge t b d
  second_edge = (h.sides b d).1 (inl (a, turned_face t a b d f))

  third_edge : IsEdge t d a
  third_edge = (h.sides d a).1 (inl (b, turned_face t b d a (turned_face t a b d f)))

  -- what begins between the crossing and the other sides is strictly inside the face
  inside_left : (z : Fraction) → OnSegment p q z → pos 0 ≤ℤ bracket p q D → pos 0 <ℤ bracket A B z
      → pos 0 <ℤ bracket B D z → InOpen A B D z
  inside_left z hz hd first second = record {
    first = first;
    second = second;
    third = third_by (bracket A B D) (bracket B D z) (bracket D A z) (bracket A B z) (bracket p q A)
        (bracket p q B) (bracket p q D) (seen_by A B D z p q hz) second s.left first hd s.right;
  }

  inside_right : (z : Fraction) → OnSegment p q z → bracket p q D ≤ℤ pos 0 → pos 0 <ℤ bracket A B z
      → pos 0 <ℤ bracket D A z → InOpen A B D z
  inside_right z hz hd first third = record {
    first = first;
    second =
        second_by (bracket A B D) (bracket B D z) (bracket D A z) (bracket A B z) (bracket p q A)
        (bracket p q B) (bracket p q D) (seen_by A B D z p q hz) third s.left first hd s.right;
    third = third;
  }

  -- n is left of the crossed edge where it begins: it comes after
  comes_after : (n : Item) (y : Fraction) → BeginsAt t p q n y → pos 0 <ℤ bracket A B y
      → IsBefore t p q (L.across a b) n
  comes_after n y by high = let x = begins t p q (L.across a b) m in record {
    first = x.at;
    second = y;
    first_begins = x.begins;
    second_begins = by;
    order = inl (higher_is_later p q apart A B x.at y x.begins.shared by.shared
        (rising p q A B s.left s.right) (zero_weak (on_line A B x.at x.begins.of_item)) high);
  }

  begun : (k : Item) → Meets t p q k → IsBefore t p q (L.across a b) k → (z : Fraction)
      → BeginsAt t p q k z → pos 0 <ℤ bracket A B z
  begun k met o z bz =
      above-same A B o.second z (begins_once t p q apart k o.second z o.second_begins bz)
      (after_crossing t p q apart a b s k o)

  -- d on the left: the second side is crossed
  module _ (left : pos 0 <ℤ bracket p q D) (past : bracket B D q ≤ℤ pos 0) where
    second_signs : Signs p q D B
    second_signs = record {
      left = left;
      right = s.right;
      start = weak_right (opposite_of_positive _ _ (bracket-swapped B D p)
          (left_before p q apart B D crossed on_way second_there past));
      end = opposite_of_not_positive _ _ (bracket-swapped B D q) past;
    }

    second_met : Meets t p q (L.across d b)
    second_met = met_if t p q apart d b (edge_flipped t b d second_edge) second_signs

    -- the edge from d to b is crossed next
    pub next_left : ComesNext t p q (L.across a b) (L.across d b)
    next_left = record {
      met = second_met;
      after = go (begins t p q (L.across d b) second_met);
      none_between = λ k met after before. bare_inside t h p q k met before.first
          before.first_begins.of_item a b d f
          (inside_left before.first before.first_begins.shared (weak left)
          (begun k met after before.first before.first_begins)
          (before_crossing t p q apart d b second_signs k before));
    }
      where
        go : Begins t p q (L.across d b) → IsBefore t p q (L.across a b) (L.across d b)
        go y = comes_after (L.across d b) y.at y.begins
            (between-third B D A y.at (between-swapped D B y.at (between_of D B y.at (met_within t
            (meeting_of_hull t h) p q apart d b second_met y.at y.begins.shared y.begins.of_item)))
            (turned-above A B D turning))

  -- d on the right: the third side
  module _ (right : bracket p q D <ℤ pos 0) (past : bracket D A q ≤ℤ pos 0) where
    third_signs : Signs p q A D
    third_signs = record {
      left = s.left;
      right = right;
      start = weak_right (opposite_of_positive _ _ (bracket-swapped D A p)
          (left_before p q apart D A crossed on_way third_there past));
      end = opposite_of_not_positive _ _ (bracket-swapped D A q) past;
    }

    third_met : Meets t p q (L.across a d)
    third_met = met_if t p q apart a d (edge_flipped t d a third_edge) third_signs

    -- the edge from a to d is crossed next
    pub next_right : ComesNext t p q (L.across a b) (L.across a d)
    next_right = record {
      met = third_met;
      after = go (begins t p q (L.across a d) third_met);
      none_between = λ k met after before. bare_inside t h p q k met before.first
          before.first_begins.of_item a b d f
          (inside_right before.first before.first_begins.shared (weak_right right)
          (begun k met after before.first before.first_begins)
          (before_crossing t p q apart a d third_signs k before));
    }
      where
        go : Begins t p q (L.across a d) → IsBefore t p q (L.across a b) (L.across a d)
        go y = comes_after (L.across a d) y.at y.begins
            (between-second D A B y.at (between-swapped A D y.at (between_of A D y.at (met_within t
            (meeting_of_hull t h) p q apart a d third_met y.at y.begins.shared y.begins.of_item)))
            (turned-above B D A (turned-above A B D turning)))

  -- d on the line: the vertex
  module _ (level : bracket p q D ≡ pos 0) (past : bracket B D q ≤ℤ pos 0) where
    corner_on : OnSegment p q D
    corner_on = segment_from (neg_ℤ (bracket p q B)) (neg_ℤ (bracket B D q)) (bracket B D p) p q D
        (neg-pos_ℤ s.right) (negated_not_negative past)
        (weak (left_before p q apart B D crossed on_way second_there past))
        (λ u v. weights (bracket B D q) (bracket B D p) (bracket u v p) (bracket u v q)
        (bracket q p D) (bracket u v B) (bracket q p B) (bracket u v D) (bracket p q B)
        (meeting B D p q u v) (bracket-swapped p q D ∙ ap neg_ℤ level) (bracket-swapped p q B))
      where
        weights : (x y up uq d ub b ud r : ℤ) → x *ℤ up -ℤ y *ℤ uq ≡ d *ℤ ub -ℤ b *ℤ ud → d ≡ pos 0
            → b ≡ neg_ℤ r → neg_ℤ r *ℤ ud ≡ neg_ℤ x *ℤ up +ℤ y *ℤ uq
        weights x y up uq d ub b ud r e c i =
            ring_in_from (x ∷ y ∷ up ∷ uq ∷ d ∷ ub ∷ b ∷ ud ∷ r ∷ [])
            (λ x y up uq d ub b ud r. ⊝ r ⊗ ud) (λ x y up uq d ub b ud r. ⊝ x ⊗ up ⊕ y ⊗ uq)
            (λ x y up uq d ub b ud r. (num 1, x ⊗ up ⊖ y ⊗ uq, d ⊗ ub ⊖ b ⊗ ud) ∷ (ub, d, num 0)
            ∷ (⊝ ud, b, ⊝ r) ∷ []) (e, (c, (i, tt))) tt

    corner_met : Meets t p q (L.at_vertex d)
    corner_met = ((h.corners a b d f).2, corner_on)

    corner_begins : BeginsAt t p q (L.at_vertex d) D
    corner_begins = record {
      shared = corner_on;
      of_item = same-refl D;
      first = λ r _ e. same_not_nearer p r D e;
    }

    -- the vertex d comes next
    pub next_vertex : ComesNext t p q (L.across a b) (L.at_vertex d)
    next_vertex = record {
      met = corner_met;
      after = comes_after (L.at_vertex d) D corner_begins turning;
      none_between = none;
    }
      where
        up : pos 0 <ℤ slope D B p q
        up = falls (left_before p q apart B D crossed on_way second_there past)
          where
            falls : pos 0 <ℤ bracket B D p → pos 0 <ℤ slope D B p q
            falls h = slope_above D B p q (opposite_of_positive _ _ (bracket-swapped B D p) h)
                (opposite_of_not_positive _ _ (bracket-swapped B D q) past)

        right_before : (z y : Fraction) → OnSegment p q z → OnSegment p q y → IsNearer p z y
            → IsSame y D → pos 0 <ℤ bracket B D z
        right_before z y hz hy near e = go (trichotomy_ℤ (bracket D B z))
          where
            none_there : ¬ (pos 0 <ℤ bracket D B y)
            none_there high = left_not_zero (above-same D B y D e high) (bracket-first D B)

            not_high : ¬ (pos 0 ≤ℤ bracket D B z)
            not_high high = none_there (later_is_higher p q apart D B z y hz hy near up high)

            go : (bracket D B z <ℤ pos 0) ⊎ ((bracket D B z ≡ pos 0) ⊎ (pos 0 <ℤ bracket D B z))
                → pos 0 <ℤ bracket B D z
            go (inl x) = opposite_of_negative _ _ (bracket-swapped D B z) x
            go (inr (inl x)) = absurd (not_high (zero_weak_left x))
            go (inr (inr x)) = absurd (not_high (weak x))

        none : (k : Item) → Meets t p q k → IsBefore t p q (L.across a b) k
            → ¬ IsBefore t p q k (L.at_vertex d)
        none k met after before = pick k met after before before.order
          where
            pick : (k : Item) → Meets t p q k → IsBefore t p q (L.across a b) k
                → (o : IsBefore t p q k (L.at_vertex d)) → IsNearer p o.first o.second
                ⊎ (IsSame o.first o.second × IsVertexThenOverlap k (L.at_vertex d)) → ⊥
            pick k met after o (inl n) =
                bare_inside t h p q k met o.first o.first_begins.of_item a b d f
                (inside_left o.first o.first_begins.shared (zero_weak_left level)
                (begun k met after o.first o.first_begins) (right_before o.first o.second
                o.first_begins.shared o.second_begins.shared n o.second_begins.of_item))
            pick (L.at_vertex i) met after o (inr w) = absurd w.1
            pick (L.across i j) met after o (inr w) = absurd w.1
            pick (L.along i j) met after o (inr w) = absurd w.1

  -- the segment ends inside the face
  pub last_left : pos 0 ≤ℤ bracket p q D → pos 0 <ℤ bracket B D q → IsLast t p q (L.across a b)
  last_left left ends = record { none_after = none }
    where
      none : (k : Item) → Meets t p q k → ¬ IsBefore t p q (L.across a b) k
      none k met o = bare_inside t h p q k met o.second o.second_begins.of_item a b d f
          (inside_left o.second o.second_begins.shared left high (left_from p q apart B D crossed
          o.second on_way o.second_begins.shared near second_there ends))
        where
          high : pos 0 <ℤ bracket A B o.second
          high = after_crossing t p q apart a b s k o

          near : IsNearer p crossed o.second
          near = higher_is_later p q apart A B crossed o.second on_way o.second_begins.shared
              (rising p q A B s.left s.right) (zero_weak (on_line A B crossed m.1.meet.second)) high

  -- a segment that ends within the face, with d not on its left, crosses nothing more
  pub last_right : bracket p q D ≤ℤ pos 0 → pos 0 <ℤ bracket D A q → IsLast t p q (L.across a b)
  last_right right ends = record { none_after = none }
    where
      none : (k : Item) → Meets t p q k → ¬ IsBefore t p q (L.across a b) k
      none k met o = bare_inside t h p q k met o.second o.second_begins.of_item a b d f
          (inside_right o.second o.second_begins.shared right high (left_from p q apart D A crossed
          o.second on_way o.second_begins.shared near third_there ends))
        where
          high : pos 0 <ℤ bracket A B o.second
          high = after_crossing t p q apart a b s k o

          near : IsNearer p crossed o.second
          near = higher_is_later p q apart A B crossed o.second on_way o.second_begins.shared
              (rising p q A B s.left s.right) (zero_weak (on_line A B crossed m.1.meet.second)) high
