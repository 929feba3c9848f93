-- What a segment meets first from strictly inside a face: nothing, a corner, or a side that it
-- crosses.
-- Lemmas: still_left, ends_inside, reaches_corner, bare_within, first_corner, first_side,
-- first_from_a_face.
use Rattle.std.proofs.Common.{◌≡◌, ℕ, [], ◌∷◌, arith, ap, sym, ◌∙◌}
use mathlib.Core.Logic.{◌⊎◌, inl, inr}
use lib.IntN.{neg_ℤ}
use Rattle.std.specs.Prelude.{◌≢◌, ℤ, pos, ◌<ℤ◌, ◌≤ℤ◌, ◌+ℤ◌, ◌-ℤ◌, ◌*ℤ◌}
use Rattle.std.proofs.lemmas.Int.{ints}
use Rattle.plane.specs.{Fraction, IsBefore, IsFace, IsNearer, IsSame, IsVertexThenOverlap, Item}
use Rattle.plane.specs.{left, Meets, OnSegment, side, TilesHull, Triangulation, vertex}
use Rattle.plane.proofs.{◌⊖◌, ◌⊗◌, left_not_below, lt_or_ge_ℤ, mul-neg_of_pos_neg_ℤ, mul-nonneg_ℤ}
use Rattle.plane.proofs.{mul-nonpos_of_nonneg_nonpos_ℤ, mul-pos_ℤ, mul_cancel_ℤ, neg-mul_ℤ}
use Rattle.plane.proofs.{not_positive_or_positive, num, opposite_of_not_positive}
use Rattle.plane.proofs.{opposite_of_positive, opposite_of_zero_of, pos-ne-zero_ℤ, pos_of_mul-pos_ℤ}
use Rattle.plane.proofs.{product_zero_left, right_not_above, ring_in_from, trichotomy_ℤ, weak}
use Rattle.plane.proofs.{weak_right, zero-mul_ℤ, zero_weak_left}
use Rattle.plane.proofs.Signs.{negation_not_negative, positive_times_not_positive}
use Rattle.plane_theorems.specs.{IsFirst, Segments.WalkLaws.FirstFromFace}
use Rattle.plane_theorems.proofs.Delaunay.Floods.Flooded.{segment_from}
use Rattle.plane_theorems.proofs.Delaunay.Points.Bracket.{above_if_left, bracket, bracket-first}
use Rattle.plane_theorems.proofs.Delaunay.Points.Bracket.{bracket-second, bracket-swapped, cramer}
use Rattle.plane_theorems.proofs.Delaunay.Points.Bracket.{left_if_above, meeting, meeting-w}
use Rattle.plane_theorems.proofs.Delaunay.Points.Bracket.{meeting-x, meeting-y}
use Rattle.plane_theorems.proofs.{Delaunay.Points.Nudges.InOpen, Delaunay.Tilings.Ground.inside_of}
use Rattle.plane_theorems.proofs.Delaunay.Segments.LineItems.{Begins, begins}
use Rattle.plane_theorems.proofs.Delaunay.Tilings.Faces.{turned-above}
use Rattle.plane_theorems.proofs.Segments.First.Firsts.{first_from_face}
use Rattle.plane_theorems.proofs.Segments.Items.Begins.{bare_inside}
use Rattle.plane_theorems.proofs.Segments.Items.Orders.{nearer-same_second}
use Rattle.plane_theorems.proofs.Segments.Items.SideSigns.{below_if_right, none_if_on, not_left}
use Rattle.plane_theorems.proofs.Segments.Items.Slopes.{later_is_higher, left_along, slope}
use Rattle.plane.specs.Line as L

-- ---- left at the start, and not right at a point: left at each point between
-- a point of the segment before one that is not right of a line, from a start on its left, is on
-- the left
pub still_left : (p q : Fraction) (apart : ¬ IsSame p q) (u v z x : Fraction) → OnSegment p q z
    → OnSegment p q x → IsNearer p z x → pos 0 <ℤ bracket u v p → pos 0 ≤ℤ bracket u v x
    → pos 0 <ℤ bracket u v z
unfolding slope
still_left p q apart u v z x hz hx near hp least = go (lt_or_ge_ℤ (slope u v p q) (pos 0))
  where
    risen : (f g pw qw : ℤ) → pos 0 ≤ℤ (f *ℤ pw -ℤ g *ℤ qw) → pos 0 <ℤ g → pos 0 <ℤ pw
        → pos 0 <ℤ qw → pos 0 <ℤ f
    risen f g pw qw h hg hp hq =
        pos_of_mul-pos_ℤ {k = pw} {x = f} hp (let m = mul-pos_ℤ {a = g} {b = qw} hg hq in
        let c = lib.IntN.*ℤ_comm f pw in omega (arith, ints))

    swapped : (f g f' g' pw qw : ℤ) → f' ≡ neg_ℤ f → g' ≡ neg_ℤ g → (f *ℤ pw -ℤ g *ℤ qw) <ℤ pos 0 →
        pos 0 <ℤ (f' *ℤ pw -ℤ g' *ℤ qw)
    swapped f g f' g' pw qw e d h = let a : f' *ℤ pw ≡ neg_ℤ f *ℤ pw = ap (λ n. n *ℤ pw) e in
        let b : g' *ℤ qw ≡ neg_ℤ g *ℤ qw = ap (λ n. n *ℤ qw) d in
        omega (arith, ints, neg-mul_ℤ f pw, neg-mul_ℤ g qw)

    falls : slope u v p q <ℤ pos 0 → (bracket u v z ≤ℤ pos 0) ⊎ (pos 0 <ℤ bracket u v z)
        → pos 0 <ℤ bracket u v z
    falls s (inr h) = h
    falls s (inl h) = absurd (right_not_above (opposite_of_positive _ _ (bracket-swapped v u x)
        (later_is_higher p q apart v u z x hz hx near
        (swapped (bracket u v q) (bracket u v p) (bracket v u q)
        (bracket v u p) p.w q.w (bracket-swapped u v q) (bracket-swapped u v p) s)
        (opposite_of_not_positive _ _ (bracket-swapped u v z) h))) least)

    go : (slope u v p q <ℤ pos 0) ⊎ (pos 0 ≤ℤ slope u v p q) → pos 0 <ℤ bracket u v z
    go (inl s) = falls s (not_positive_or_positive (bracket u v z))
    go (inr s) =
        left_along p q apart u v z hz hp
        (risen (bracket u v q) (bracket u v p) p.w q.w s hp p.positive q.positive)

-- ---- numbers
kept : (f g x y r : ℤ) → f *ℤ x -ℤ g *ℤ y ≡ r → pos 0 <ℤ f → pos 0 <ℤ g → pos 0 <ℤ x
    → r ≤ℤ pos 0 → pos 0 <ℤ y
kept f g x y r e hf hg hx hr =
    pos_of_mul-pos_ℤ {k = g} {x = y} hg (let m = mul-pos_ℤ {a = f} {b = x} hf hx in
    omega (arith, ints))

falls_second : (k a l b : ℤ) → k ≤ℤ pos 0 → pos 0 ≤ℤ a → b ≡ pos 0 → (k *ℤ a -ℤ l *ℤ b) ≤ℤ pos 0
falls_second k a l b hk ha e = let m = mul-nonpos_of_nonneg_nonpos_ℤ {a = a} {b = k} ha hk in
    let c = lib.IntN.*ℤ_comm k a in let z = zero-mul_ℤ l e in omega (arith, ints)

falls_third : (k a l b : ℤ) → a ≡ pos 0 → pos 0 ≤ℤ l → pos 0 ≤ℤ b → (k *ℤ a -ℤ l *ℤ b) ≤ℤ pos 0
falls_third k a l b e hl hb =
    let m = mul-nonneg_ℤ {a = l} {b = b} hl hb in let z = zero-mul_ℤ k e in omega (arith, ints)

turned_most : (x y : ℤ) → x ≡ neg_ℤ y → pos 0 ≤ℤ y → x ≤ℤ pos 0
turned_most x y e h = omega (arith, ints)

module _ (p q : Fraction) (apart : ¬ IsSame p q) (A B C : Fraction)
    (turning : pos 0 <ℤ bracket A B C) (inside : InOpen A B C p) where
  -- where the segment goes towards the side from A to B and does not reach it, it ends inside
  pub ends_inside : bracket p q A ≤ℤ pos 0 → pos 0 <ℤ bracket p q B → pos 0 <ℤ bracket A B q
      → InOpen A B C q
  ends_inside low high side = record {
    first = side;
    second = kept (bracket A B q) (bracket A B p) (bracket B C p) (bracket B C q) _
        (meeting A B p q B C) side
        inside.first inside.second
        (falls_second (bracket q p B) (bracket B C A) (bracket q p A) (bracket B C B)
        (turned_most _ _ (bracket-swapped p q B) (weak high)) (weak (turned-above A B C turning))
        (bracket-first B C));
    third = kept (bracket A B q) (bracket A B p) (bracket C A p) (bracket C A q) _
        (meeting A B p q C A) side
        inside.first inside.third
        (falls_third (bracket q p B) (bracket C A A) (bracket q p A) (bracket C A B)
        (bracket-second C A)
        (opposite_of_not_positive _ _ (bracket-swapped p q A) low)
        (weak (turned-above B C A (turned-above A B C turning))));
  }

  -- or it reaches the corner A
  pub reaches_corner : bracket p q A ≡ pos 0 → pos 0 <ℤ bracket p q B → bracket A B q ≤ℤ pos 0
      → OnSegment p q A
  reaches_corner level high past =
      segment_from (bracket p q B) (neg_ℤ (bracket A B q)) (bracket A B p) p q A high
      (negation_not_negative (bracket A B q) past) (weak inside.first)
      (λ u v. parts (bracket A B q) (bracket A B p) (bracket u v p) (bracket u v q) (bracket q p B)
      (bracket u v A)
      (bracket q p A) (bracket u v B) (bracket p q B) (meeting A B p q u v)
      (opposite_of_zero_of (bracket-swapped p q A) level) (bracket-swapped p q B))
    where
      parts : (f g x y k z l w n : ℤ) → f *ℤ x -ℤ g *ℤ y ≡ k *ℤ z -ℤ l *ℤ w → l ≡ pos 0
          → k ≡ neg_ℤ n → n *ℤ z ≡ neg_ℤ f *ℤ x +ℤ g *ℤ y
      parts f g x y k z l w n e d c =
          let a = product_zero_left {a = l} w d in let b : k *ℤ z ≡ neg_ℤ n *ℤ z =
          ap (λ m. m *ℤ z) c in omega (arith, ints, neg-mul_ℤ n z, neg-mul_ℤ f x)

  -- the line of the segment does not have two corners
  not_both : bracket p q A ≡ pos 0 → bracket p q B ≡ pos 0 → ⊥
  not_both ea eb = apart (record {
    x = one (bracket A B q) (bracket A B p) p.x p.w q.x q.w (bracket q p B) A.x
        (bracket q p A) B.x A.w B.w
        (opposite_of_zero_of (bracket-swapped p q B) eb)
        (opposite_of_zero_of (bracket-swapped p q A) ea)
        (meeting-x A B p q) (meeting-w A B p q) inside.first;
    y = one (bracket A B q) (bracket A B p) p.y p.w q.y q.w (bracket q p B) A.y
        (bracket q p A) B.y A.w B.w
        (opposite_of_zero_of (bracket-swapped p q B) eb)
        (opposite_of_zero_of (bracket-swapped p q A) ea)
        (meeting-y A B p q) (meeting-w A B p q) inside.first;
  })
    where
      one : (f g px pw qx qw k ax l bx aw bw : ℤ) → k ≡ pos 0 → l ≡ pos 0
          → f *ℤ px -ℤ g *ℤ qx ≡ k *ℤ ax -ℤ l *ℤ bx → f *ℤ pw -ℤ g *ℤ qw ≡ k *ℤ aw -ℤ l *ℤ bw
          → pos 0 <ℤ g → px *ℤ qw ≡ qx *ℤ pw
      one f g px pw qx qw k ax l bx aw bw ek el e d hg =
          mul_cancel_ℤ {k = g} (pos-ne-zero_ℤ hg) (times f g px pw qx qw
          (level (k *ℤ ax) (l *ℤ bx) (product_zero_left ax ek) (product_zero_left bx el) e)
          (level (k *ℤ aw) (l *ℤ bw) (product_zero_left aw ek) (product_zero_left bw el) d))
        where
          level : {x y : ℤ} (a b : ℤ) → a ≡ pos 0 → b ≡ pos 0 → x -ℤ y ≡ a -ℤ b → x ≡ y
          level a b ea eb e = omega (arith, ints)

          times : (f g px pw qx qw : ℤ) → f *ℤ px ≡ g *ℤ qx → f *ℤ pw ≡ g *ℤ qw
              → g *ℤ (px *ℤ qw) ≡ g *ℤ (qx *ℤ pw)
          times f g px pw qx qw e d =
              ring_in_from (f ∷ g ∷ px ∷ pw ∷ qx ∷ qw ∷ []) (λ f g px pw qx qw. g ⊗ (px ⊗ qw))
              (λ f g px pw qx qw. g ⊗ (qx ⊗ pw)) (λ f g px pw qx qw. (pw, f ⊗ px, g ⊗ qx) ∷
              (num 0 ⊖ px, f ⊗ pw, g ⊗ qw) ∷ []) (e, (d, tt)) tt

-- ---- some side starts not on the left of the segment and ends there
data Turn (a b c : ℤ) : Type 0 where
  first_turn : a ≤ℤ pos 0 → pos 0 <ℤ b → Turn a b c
  second_turn : b ≤ℤ pos 0 → pos 0 <ℤ c → Turn a b c
  third_turn : c ≤ℤ pos 0 → pos 0 <ℤ a → Turn a b c

-- three numbers that have sum 0 under positive weights, not all 0
turn : (x y z a b c : ℤ) → x *ℤ a +ℤ y *ℤ b +ℤ z *ℤ c ≡ pos 0 → pos 0 <ℤ x → pos 0 <ℤ y → pos 0 <ℤ z
    → ((a ≡ pos 0) → (b ≡ pos 0) → ⊥) → Turn a b c
turn x y z a b c e hx hy hz some =
    go (not_positive_or_positive a) (not_positive_or_positive b) (not_positive_or_positive c)
  where
    zero_of : (x a b c : ℤ) → pos 0 <ℤ x → a ≤ℤ pos 0 → x *ℤ a +ℤ b +ℤ c ≡ pos 0 → b ≤ℤ pos 0
        → c ≤ℤ pos 0 → a ≡ pos 0
    zero_of x a b c hx ha e hb hc = pick (trichotomy_ℤ a)
      where
        low : a <ℤ pos 0 → ⊥
        low h = let m = mul-neg_of_pos_neg_ℤ {a = x} {b = a} hx h in omega (arith, ints)

        pick : (a <ℤ pos 0) ⊎ ((a ≡ pos 0) ⊎ (pos 0 <ℤ a)) → a ≡ pos 0
        pick (inl h) = absurd (low h)
        pick (inr (inl h)) = h
        pick (inr (inr h)) = absurd (left_not_below h ha)

    swapped : (u v w : ℤ) → u +ℤ v +ℤ w ≡ pos 0 → v +ℤ u +ℤ w ≡ pos 0
    swapped u v w e = omega (arith, ints)

    go : (a ≤ℤ pos 0) ⊎ (pos 0 <ℤ a) → (b ≤ℤ pos 0) ⊎ (pos 0 <ℤ b)
        → (c ≤ℤ pos 0) ⊎ (pos 0 <ℤ c) → Turn a b c
    go (inl h) (inr k) m = first_turn h k
    go h (inl k) (inr m) = second_turn k m
    go (inr h) k (inl m) = third_turn m h
    go (inl h) (inl k) (inl m) = absurd (some (zero_of x a (y *ℤ b) (z *ℤ c) hx h e
        (positive_times_not_positive y b hy k) (positive_times_not_positive z c hz m))
        (zero_of y b (x *ℤ a) (z *ℤ c) hy k (swapped (x *ℤ a) (y *ℤ b) (z *ℤ c) e)
        (positive_times_not_positive x a hx h) (positive_times_not_positive z c hz m)))
    go (inr h) (inr k) (inr m) =
        absurd (let i = mul-pos_ℤ hx h in let j = mul-pos_ℤ hy k in let l = mul-pos_ℤ hz m in
        omega (arith, ints))

-- ---- the items
module _ (t : Triangulation) (h : TilesHull t) (p q : Fraction) (apart : ¬ IsSame p q) (a b c : ℕ)
    (f : IsFace t a b c) (inside : InOpen (vertex t a) (vertex t b) (vertex t c) p) where
  abbrev A : Fraction
  A = vertex t a

  abbrev B : Fraction
  B = vertex t b

  abbrev C : Fraction
  C = vertex t c

  turning : pos 0 <ℤ bracket A B C
  turning = above_if_left A B C (h.turning a b c f)

  -- a segment strictly inside a face meets nothing
  pub bare_within : InOpen A B C q → (m : Item) → ¬ Meets t p q m
  bare_within ends m met = go (begins t p q m met)
    where
      go : Begins t p q m → ⊥
      go y = bare_inside t h p q m met y.at y.begins.of_item a b c f (record {
        first = left_along p q apart A B y.at y.begins.shared inside.first ends.first;
        second = left_along p q apart B C y.at y.begins.shared inside.second ends.second;
        third = left_along p q apart C A y.at y.begins.shared inside.third ends.third;
      })

  -- through the corner
  pub first_corner : OnSegment p q A → IsFirst t p q (L.at_vertex a)
  first_corner there =
      record { met = ((h.corners a b c f).0, there); none_before = λ k met o. none k met o o.order }
    where
      none : (k : Item) → Meets t p q k → (o : IsBefore t p q k (L.at_vertex a))
          → IsNearer p o.first o.second
          ⊎ (IsSame o.first o.second × IsVertexThenOverlap k (L.at_vertex a)) → ⊥
      none k met o (inl n) =
          bare_inside t h p q k met o.first o.first_begins.of_item a b c f (record {
            first = still_left p q apart A B o.first A o.first_begins.shared there near inside.first
                (zero_weak_left (bracket-first A B));
            second =
                still_left p q apart B C o.first A o.first_begins.shared there near inside.second
                (weak (turned-above A B C turning));
            third = still_left p q apart C A o.first A o.first_begins.shared there near inside.third
                (zero_weak_left (bracket-second C A));
          })
        where
          near : IsNearer p o.first A
          near = nearer-same_second p q apart o.first o.second A o.first_begins.shared
              o.second_begins.shared there
              o.second_begins.of_item n
      none (L.at_vertex i) met o (inr w) = w.1
      none (L.across i j) met o (inr w) = w.1
      none (L.along i j) met o (inr w) = w.1

  -- across the side
  pub first_side : bracket p q A <ℤ pos 0 → pos 0 <ℤ bracket p q B → bracket A B q ≤ℤ pos 0 →
      IsFirst t p q (L.across b a)
  first_side low high past =
      first_from_face t p q apart h a b ((h.sides a b).1 (inl (c, f))) (record {
        left = high;
        right = low;
        start = weak_right (opposite_of_positive _ _ (bracket-swapped A B p) inside.first);
        end = opposite_of_not_positive _ _ (bracket-swapped A B q) past;
      }) c f inside

  a_turn : Turn (bracket p q A) (bracket p q B) (bracket p q C)
  a_turn = turn (bracket B C p) (bracket C A p) (bracket A B p) (bracket p q A) (bracket p q B)
      (bracket p q C)
      (sym (cramer A B C p p q) ∙ zero-mul_ℤ (bracket A B C) (bracket-first p q))
      inside.second inside.third
      inside.first (not_both p q apart A B C turning inside)

-- from strictly inside a face, the segment ends there, goes through a corner or crosses a side
pub first_from_a_face : FirstFromFace
first_from_a_face t h p q apart a b c f within = (
  (λ high. (
    (λ n e. bare_within t h p q apart a b c f inside
        (ends_inside p q apart (vertex t a) (vertex t b) (vertex t c) turns inside
        (not_left p q (vertex t a) n)
        (above_if_left p q (vertex t b) high) (above_if_left (vertex t a) (vertex t b) q e))),
    (λ z n. first_corner t h p q apart a b c f inside
        (reaches_corner p q apart (vertex t a) (vertex t b) (vertex t c) turns inside
        (none_if_on p q (vertex t a) z)
        (above_if_left p q (vertex t b) high) (not_left (vertex t a) (vertex t b) q n))),
    (λ low n. first_side t h p q apart a b c f inside (below_if_right p q (vertex t a) low)
        (above_if_left p q (vertex t b) high) (not_left (vertex t a) (vertex t b) q n)),
  )),
  go (a_turn t h p q apart a b c f inside),
)
  where
    turns : pos 0 <ℤ bracket (vertex t a) (vertex t b) (vertex t c)
    turns = above_if_left _ _ _ (h.turning a b c f)

    inside : InOpen (vertex t a) (vertex t b) (vertex t c) p
    inside = inside_of _ _ _ p (h.turning a b c f) within

    not_left_if : (x : Fraction) → bracket p q x ≤ℤ pos 0 → side p q x ≢ left
    not_left_if x h e = left_not_below (above_if_left p q x e) h

    go : Turn (bracket p q (vertex t a)) (bracket p q (vertex t b)) (bracket p q (vertex t c))
        → ((side p q (vertex t a) ≢ left) × (side p q (vertex t b) ≡ left)) ⊎
        (((side p q (vertex t b) ≢ left) × (side p q (vertex t c) ≡ left)) ⊎
        ((side p q (vertex t c) ≢ left) × (side p q (vertex t a) ≡ left)))
    go (first_turn h k) = inl (not_left_if (vertex t a) h, left_if_above p q (vertex t b) k)
    go (second_turn h k) = inr (inl (not_left_if (vertex t b) h, left_if_above p q (vertex t c) k))
    go (third_turn h k) = inr (inr (not_left_if (vertex t c) h, left_if_above p q (vertex t a) k))
