-- In a local mesh exactly one face or outer edge begins to rise again at each vertex but the top
-- one, in the order of a height that tells all vertices apart.
-- Notions: IsSweep; sweep, count_one, count_none.
use Rattle.std.proofs.Common.{◌≡◌, ◌⊎◌, ◌<◌, [], ◌∷◌, ◌∙◌}
use Rattle.std.proofs.Common.{ℕ, zero, suc, List, length, get_or, refl, sym, ap, subst, arith}
use mathlib.Core.Logic.{inl, inr, ◌≢◌}
use mathlib.Core.Bool.{Bool, true, false, ◌&&◌}
use lib.Dec.{eqb}
use borrow.Author.Tests.{eqb-true}
use Rattle.std.specs.Prelude.{ℤ, pos, ◌+ℤ◌, ◌-ℤ◌, ◌*ℤ◌, ◌<ℤ◌, ◌≤ℤ◌, neg_ℤ, Contains}
use Rattle.std.proofs.lemmas.Int.{ints}
use Rattle.std.proofs.lemmas.Bool.{cases_eq}
use Rattle.plane.specs.{Face, face, IsPositive, Point, whole}
use Rattle.plane.proofs.{◌⊕◌, ◌⊖◌, ◌⊗◌, AllDiffer, at_least_one_through, below_and_not_below}
use Rattle.plane.proofs.{between_zero, bracket, bracket-last, bracket-moved, bracket-outer}
use Rattle.plane.proofs.{bracket-swap, bracket-turn, bracketᵖ, cramer, Inside, IsNudged}
use Rattle.plane.proofs.{left_not_below, left_not_zero, less_by_test, less_if_not_same, lift}
use Rattle.plane.proofs.{lt_or_ge_ℤ, mean_of_two, moved, mul-nonpos_of_nonneg_nonpos_ℤ, mul-pos_ℤ}
use Rattle.plane.proofs.{near, negated_below, negated_right, no_difference, not_left_of_product}
use Rattle.plane.proofs.{num, one_is_above_zero, pluecker, pos_of_mul-pos_ℤ, ring_in, ring_in_from}
use Rattle.plane.proofs.{same_if_neither_less, sum_not_positive, sum_of_three_not_negative}
use Rattle.plane.proofs.{sum_of_zeros, test_true, Vec3, weak, weak_right, zero-mul_ℤ, zero_weak, ⊝}
use Rattle.plane.proofs.BracketIdentities.{passing_w, passing_x, passing_y}
use Rattle.plane.proofs.Nudges.{nudge_pairs, Nudged, nudged_not_left, nudged_zero}
use Rattle.plane.proofs.Signs.{first_of_three_counts, named_difference_is_positive}
use Rattle.plane.proofs.Signs.{second_of_three_counts, third_of_three_counts}
use Rattle.plane_theorems.specs.{total}
use Rattle.plane_theorems.proofs.Tiling.Counting.{at, corners_differ, SignMesh}
use Rattle.plane_theorems.proofs.Tiling.Flows.{bit, bit_is, bit_nonneg, HasSide, IsTurnOf}
use Rattle.plane_theorems.proofs.Tiling.Flows.{one_of_three, turned}
use Rattle.plane_theorems.proofs.Tiling.Loops.{IsFaceOn, sum_of_bits}
use Rattle.plane_theorems.proofs.Tiling.Rising.{begins_at, count_at, equal, leaves, leaves_counted}
use Rattle.plane_theorems.proofs.Tiling.Rising.{leaves_found, leaves_nonneg, rises_nowhere}
use Rattle.plane_theorems.proofs.Tiling.Rising.{rises_once, up}
use Rattle.plane_theorems.proofs.Tiling.Totals.{all_none, get_or_any, total_at_least}
use Rattle.plane_theorems.proofs.Tiling.Totals.{total_at_most_one, total_nonneg, total_positive}
use Rattle.plane_theorems.proofs.Tiling.Covering as C
use Rattle.plane_theorems.proofs.Tiling.Loops as L

-- a way that no two vertices share, far to the left of the way up
pub record IsSweep (n : ℕ) (p : ℕ → Point) (way : Vec3) (height : ℕ → ℤ) : Type 0 where
  pub flat : way.w ≡ pos 0
  pub seen : (s t : ℕ) → bracket (at p s) (at p t) way ≡ height t -ℤ height s
  pub distinct : AllDiffer n height

-- for points that all differ there is a way that no two of them share, far to the left of the way
-- up
pub sweep : (n : ℕ) (p : ℕ → Point) → AllDiffer n p
    → (way : Vec3) × ((height : ℕ → ℤ) × IsSweep n p way height)
unfolding bracket
sweep n p distinct =
    let k = nudge_pairs n (λ i j. (p i).x -ℤ (p j).x) (λ i j. (p i).y -ℤ (p j).y) in (
      record { x = pos 0 -ℤ pos 1; y = k.0; w = pos 0 },
      (
        (λ i. k.0 *ℤ (p i).x +ℤ (p i).y),
        record {
          flat = refl;
          seen = λ s t. from_left (p s) (p t) k.0;
          distinct = λ i j h l a e. distinct i j h l a (let z = nudged_zero ((p i).x -ℤ (p j).x)
              ((p i).y -ℤ (p j).y) (k.0 *ℤ ((p i).x -ℤ (p j).x) +ℤ ((p i).y -ℤ (p j).y))
              (k.2 i j h l) (level k.0 (p i).x (p j).x (p i).y (p j).y e) in
              λ o. record {
                x = no_difference (p i).x (p j).x z.0 o;
                y = no_difference (p i).y (p j).y z.1 o;
              });
        },
      ),
    )
  where
    from_left : (s t : Point) (k : ℤ) → bracket (lift s) (lift t)
        (record { x = pos 0 -ℤ pos 1; y = k; w = pos 0 }) ≡ (k *ℤ t.x +ℤ t.y) -ℤ (k *ℤ s.x +ℤ s.y)
    from_left s t k = ring_in (s.x ∷ s.y ∷ t.x ∷ t.y ∷ k ∷ [])
        (λ a b c d k. bracketᵖ (record { x = a; y = b; w = num 1 })
        (record { x = c; y = d; w = num 1 }) (record { x = num 0 ⊖ num 1; y = k; w = num 0 }))
        (λ a b c d k. (k ⊗ c ⊕ d) ⊖ (k ⊗ a ⊕ b)) tt

    level : (k a b c d : ℤ) → k *ℤ a +ℤ c ≡ k *ℤ b +ℤ d → k *ℤ (a -ℤ b) +ℤ (c -ℤ d) ≡ pos 0
    level k a b c d e = ring_in_from (k ∷ a ∷ b ∷ c ∷ d ∷ []) (λ k a b c d. k ⊗ (a ⊖ b) ⊕ (c ⊖ d))
        (λ k a b c d. num 0) (λ k a b c d. (num 1, k ⊗ a ⊕ c, k ⊗ b ⊕ d) ∷ []) (e, tt) tt

-- ---- steps

module _ (n : ℕ) (p : ℕ → Point) (faces : List Face) (outer : List (ℕ × ℕ))
    (m : SignMesh n p faces outer) (way : Vec3) (height : ℕ → ℤ) (s : IsSweep n p way height)
    (v : ℕ) (v_index : v < n) where
  -- the face v a c begins to rise again at v
  record Begins (f : Face) : Type 0 where
    a : ℕ
    c : ℕ
    on : IsFaceOn v a c f
    rises : height v <ℤ height a
    falls : height c <ℤ height v

  begins_parts : (x y z : Bool) → pos 0 <ℤ bit (x && (y && z))
      → (x ≡ true) × (y ≡ true) × (z ≡ true)
  begins_parts true true true h = (refl, refl, refl)
  begins_parts true true false h = absurd h.lt
  begins_parts true false z h = absurd h.lt
  begins_parts false y z h = absurd h.lt

  corner_begins : (i t r : ℕ) → pos 0 <ℤ bit (eqb v i && (up height i t && up height r i))
      → (v ≡ i) × (height i <ℤ height t) × (height r <ℤ height i)
  corner_begins i t r h = let b = begins_parts (eqb v i) (up height i t) (up height r i) h in (
    eqb-true v i b.0,
    less_by_test (height i) (height t) b.1,
    less_by_test (height r) (height i) b.2,
  )

  begins_found : (f : Face) → pos 0 <ℤ begins_at height v f → Begins f
  unfolding begins_at
  begins_found f h = go (one_of_three (bit (eqb v f.a && (up height f.a f.b && up height f.c f.a)))
      (bit (eqb v f.b && (up height f.b f.c && up height f.a f.b)))
      (bit (eqb v f.c && (up height f.c f.a && up height f.b f.c))) h)
    where
      go : (pos 0 <ℤ bit (eqb v f.a && (up height f.a f.b && up height f.c f.a)))
          ⊎ ((pos 0 <ℤ bit (eqb v f.b && (up height f.b f.c && up height f.a f.b)))
          ⊎ (pos 0 <ℤ bit (eqb v f.c && (up height f.c f.a && up height f.b f.c)))) → Begins f
      go (inl k) = let b = corner_begins f.a f.b f.c k in record {
        a = f.b;
        c = f.c;
        on = inl (λ i. face (sym b.0 i) f.b f.c);
        rises = subst (λ o. height o <ℤ height f.b) (sym b.0) b.1;
        falls = subst (λ o. height f.c <ℤ height o) (sym b.0) b.2;
      }
      go (inr (inl k)) = let b = corner_begins f.b f.c f.a k in record {
        a = f.c;
        c = f.a;
        on = inr (inl (λ i. face f.a (sym b.0 i) f.c));
        rises = subst (λ o. height o <ℤ height f.c) (sym b.0) b.1;
        falls = subst (λ o. height f.a <ℤ height o) (sym b.0) b.2;
      }
      go (inr (inr k)) = let b = corner_begins f.c f.a f.b k in record {
        a = f.a;
        c = f.b;
        on = inr (inr (λ i. face f.a f.b (sym b.0 i)));
        rises = subst (λ o. height o <ℤ height f.a) (sym b.0) b.1;
        falls = subst (λ o. height f.b <ℤ height o) (sym b.0) b.2;
      }

  begins_bits : (f : Face) → Contains faces f
      → (begins_at height v f ≡ pos 0) ⊎ (begins_at height v f ≡ pos 1)
  unfolding begins_at
  begins_bits f h =
      let d = corners_differ p f.a f.b f.c (m.turning f h) in
      sum_of_bits (bit (eqb v f.a && (up height f.a f.b && up height f.c f.a)))
      (bit (eqb v f.b && (up height f.b f.c && up height f.a f.b)))
      (bit (eqb v f.c && (up height f.c f.a && up height f.b f.c)))
      (bit_is (eqb v f.a && (up height f.a f.b && up height f.c f.a)))
      (bit_is (eqb v f.b && (up height f.b f.c && up height f.a f.b)))
      (bit_is (eqb v f.c && (up height f.c f.a && up height f.b f.c)))
      (λ x y. d.0 (sym (corner_begins f.a f.b f.c x).0 ∙ (corner_begins f.b f.c f.a y).0))
      (λ x y. d.2 (sym (corner_begins f.c f.a f.b y).0 ∙ (corner_begins f.a f.b f.c x).0))
      (λ x y. d.1 (sym (corner_begins f.b f.c f.a x).0 ∙ (corner_begins f.c f.a f.b y).0))

  begins_nonneg : (f : Face) → pos 0 ≤ℤ begins_at height v f
  unfolding begins_at
  begins_nonneg f =
      sum_of_three_not_negative (bit (eqb v f.a && (up height f.a f.b && up height f.c f.a)))
      (bit (eqb v f.b && (up height f.b f.c && up height f.a f.b)))
      (bit (eqb v f.c && (up height f.c f.a && up height f.b f.c)))
      (bit_nonneg (eqb v f.a && (up height f.a f.b && up height f.c f.a)))
      (bit_nonneg (eqb v f.b && (up height f.b f.c && up height f.a f.b)))
      (bit_nonneg (eqb v f.c && (up height f.c f.a && up height f.b f.c)))

  -- the face v a c counts
  begins_here : (a c : ℕ) → height v <ℤ height a → height c <ℤ height v
      → bit (eqb v v && (up height v a && up height c v)) ≡ pos 1
  begins_here a c h k = λ i. bit
      (equal v i && (test_true (height v) (height a) h i && test_true (height c) (height v) k i))

  begins_counted : (a c : ℕ) → IsTurnOf faces v a c → height v <ℤ height a → height c <ℤ height v
      → pos 1 ≤ℤ total (begins_at height v) faces
  unfolding begins_at
  begins_counted a c t h k = go t
    where
      by : (f : Face) → Contains faces f → pos 1 ≤ℤ begins_at height v f
          → pos 1 ≤ℤ total (begins_at height v) faces
      by f here one =
          at_least_one_through (begins_at height v f) (total (begins_at height v) faces) one
          (total_at_least (begins_at height v) faces (λ g _. begins_nonneg g) f here)

      one : bit (eqb v v && (up height v a && up height c v)) ≡ pos 1
      one = begins_here a c h k

      go : IsTurnOf faces v a c → pos 1 ≤ℤ total (begins_at height v) faces
      go (inl x) = by (face v a c) x
          (first_of_three_counts (bit (eqb v v && (up height v a && up height c v))) (bit (eqb v a
          && (up height a c && up height v a))) (bit (eqb v c && (up height c v && up height a c)))
          one (bit_nonneg (eqb v a && (up height a c && up height v a)))
          (bit_nonneg (eqb v c && (up height c v && up height a c))))
      go (inr (inl x)) = by (face a c v) x
          (third_of_three_counts (bit (eqb v a && (up height a c && up height v a))) (bit (eqb v c
          && (up height c v && up height a c))) (bit (eqb v v && (up height v a && up height c v)))
          one (bit_nonneg (eqb v a && (up height a c && up height v a)))
          (bit_nonneg (eqb v c && (up height c v && up height a c))))
      go (inr (inr x)) = by (face c v a) x
          (second_of_three_counts (bit (eqb v c && (up height c v && up height a c))) (bit (eqb v v
          && (up height v a && up height c v))) (bit (eqb v a && (up height a c && up height v a)))
          one (bit_nonneg (eqb v c && (up height c v && up height a c)))
          (bit_nonneg (eqb v a && (up height a c && up height v a))))

  -- ---- at most one
  -- near v, to the left
  left_of_v : (q : Vec3) × IsNudged n p (at p v) way q
  left_of_v =
      let k = nudge_pairs n (λ i j. bracket (at p i) (at p j) (at p v))
      (λ i j. bracket (at p i) (at p j) way) in (
        moved k.0 (at p v) way,
        record {
          weight = positive (k.0) way.w s.flat k.1;
          sides = λ i j h l. subst
              (Nudged (bracket (at p i) (at p j) (at p v)) (bracket (at p i) (at p j) way))
              (sym (bracket-moved (at p i) (at p j) k.0 (at p v) way)) (k.2 i j h l);
        },
      )
    where
      positive : (k w : ℤ) → w ≡ pos 0 → pos 0 <ℤ k → pos 0 <ℤ (k *ℤ pos 1 +ℤ w)
      positive k w e h = omega (arith, ints)

  inside_begun : (a c : ℕ) → IsTurnOf faces v a c → height v <ℤ height a → height c <ℤ height v
      → Inside (at p v) (at p a) (at p c) left_of_v.0
  inside_begun a c t h k =
      let i = C.turn_corners n p faces outer m v a c t in
      let q = left_of_v.1 in
      record {
        first = subst (λ z. pos 0 <ℤ z)
            (sym ((q.sides v a i.0 i.1).on (bracket-outer (at p v) (at p a))))
            (named_difference_is_positive (height v) (height a) (bracket (at p v) (at p a) way)
            (s.seen v a) h);
        second = (q.sides a c i.1 i.2).left (subst (λ z. pos 0 <ℤ z)
            (bracket-turn (at p v) (at p a) (at p c)) (C.turn_left_of n p faces outer m v a c t));
        third = subst (λ z. pos 0 <ℤ z)
            (sym ((q.sides c v i.2 i.0).on (bracket-last (at p c) (at p v))))
            (named_difference_is_positive (height c) (height v) (bracket (at p c) (at p v) way)
            (s.seen c v) k);
      }

  faces_once : total (begins_at height v) faces ≤ℤ pos 1
  faces_once = total_at_most_one (begins_at height v) faces begins_bits twice
    where
      twice : (k l : ℕ) (d : Face) → k < l → l < length faces
          → begins_at height v (get_or faces k d) ≡ pos 1
          → begins_at height v (get_or faces l d) ≡ pos 1 → ⊥
      twice k l d low high e e' =
          let f = get_or faces k d in
          let g = get_or faces l d in
          let x = begins_found f (one_is_above_zero e) in
          let y = begins_found g (one_is_above_zero e') in
          C.entries_apart n p faces outer m k l d low high left_of_v.0 left_of_v.1.weight
          (L.inside_face_on n p faces outer m v x.a x.c f x.on left_of_v.0
          (inside_begun x.a x.c (L.turn_on n p faces outer m v x.a x.c f x.on
          (k, omega arith, get_or_any faces k f d (omega arith))) x.rises x.falls))
          (L.inside_face_on n p faces outer m v y.a y.c g y.on left_of_v.0
          (inside_begun y.a y.c (L.turn_on n p faces outer m v y.a y.c g y.on
          (l, high, get_or_any faces l g d high)) y.rises y.falls))

  -- two outer edges that rise from v end at one vertex
  one_way_up : (a b : ℕ) → Contains outer (v, a) → Contains outer (v, b) → height v <ℤ height a
      → height v <ℤ height b → ¬ (height a <ℤ height b)
  one_way_up a b x y h k l =
      let flat = between_zero (m.supporting (v, a) x b (m.ends (v, b) y).1)
      (negated_below (bracket-turn (at p v) (at p a) (at p b)
      ∙ bracket-turn (at p a) (at p b) (at p v) ∙ bracket-swap (at p b) (at p v) (at p a))
      (m.supporting (v, b) y a (m.ends (v, a) x).1)) in
      m.bare (v, b) y a (m.ends (v, a) x).1
      (mean_of_two IsPositive (whole (p v)) (whole (p b)) (whole (p a)) (record {
        k = bracket (at p a) (at p b) way;
        l = bracket (at p v) (at p a) way;
        n = bracket (at p v) (at p b) way;
        k_allowed = named_difference_is_positive (height a) (height b)
            (bracket (at p a) (at p b) way) (s.seen a b) l;
        l_allowed = named_difference_is_positive (height v) (height a)
            (bracket (at p v) (at p a) way) (s.seen v a) h;
        positive = named_difference_is_positive (height v) (height b)
            (bracket (at p v) (at p b) way) (s.seen v b) k;
        x = mean (bracket (at p v) (at p a) way) (p b).x (bracket (at p v) (at p b) way) (p a).x
            (bracket (at p v) (at p a) (at p b)) way.x (bracket (at p a) (at p b) way) (p v).x flat
            (passing_x (at p v) (at p a) (at p b) way);
        y = mean (bracket (at p v) (at p a) way) (p b).y (bracket (at p v) (at p b) way) (p a).y
            (bracket (at p v) (at p a) (at p b)) way.y (bracket (at p a) (at p b) way) (p v).y flat
            (passing_y (at p v) (at p a) (at p b) way);
        w = mean (bracket (at p v) (at p a) way) (pos 1) (bracket (at p v) (at p b) way) (pos 1)
            (bracket (at p v) (at p a) (at p b)) way.w (bracket (at p a) (at p b) way) (pos 1) flat
            (passing_w (at p v) (at p a) (at p b) way);
      }))
    where
      mean : (l b n a d w k v : ℤ) → d ≡ pos 0 → l *ℤ b -ℤ n *ℤ a ≡ d *ℤ w -ℤ k *ℤ v
          → n *ℤ a ≡ k *ℤ v +ℤ l *ℤ b
      mean l b n a d w k v z e = ring_in_from (l ∷ b ∷ n ∷ a ∷ d ∷ w ∷ k ∷ v ∷ [])
          (λ l b n a d w k v. n ⊗ a) (λ l b n a d w k v. k ⊗ v ⊕ l ⊗ b)
          (λ l b n a d w k v. (num 0 ⊖ w, d, num 0) ∷ (num 0 ⊖ num 1, l ⊗ b ⊖ n ⊗ a, d ⊗ w ⊖ k ⊗ v)
          ∷ []) (z, (e, tt)) tt

  outer_once : total (leaves height v) outer ≤ℤ pos 1
  outer_once = rises_once height v outer m.once same
    where
      same : (a b : ℕ) → Contains outer (v, a) → Contains outer (v, b) → height v <ℤ height a
          → height v <ℤ height b → a ≡ b
      same a b x y h k = elim (cases_eq a b) [
        | inl e ↦ e
        | inr d ↦
            absurd (s.distinct a b (m.ends (v, a) x).1 (m.ends (v, b) y).1 d (same_if_neither_less
            (height a) (height b) (one_way_up a b x y h k) (one_way_up b a y x k h)))
      ]

  -- a face that begins to rise again at v, and an outer edge that rises from it
  not_both : (a c b : ℕ) → IsTurnOf faces v a c → height v <ℤ height a → height c <ℤ height v
      → Contains outer (v, b) → height v <ℤ height b → ⊥
  not_both a c b t h k o l =
      let i = C.turn_corners n p faces outer m v a c t in
      left_not_below (named_difference_is_positive (height v) (height b) (bracket (at p v) (at p b)
      way) (s.seen v b) l) (not_left_of_product (C.turn_left_of n p faces outer m v a c t)
      (below (bracket (at p v) (at p a) (at p c) *ℤ bracket (at p v) (at p b) way)
      (bracket (at p a) (at p c) way *ℤ bracket (at p v) (at p b) (at p v))
      (bracket (at p c) (at p v) way *ℤ bracket (at p v) (at p b) (at p a))
      (bracket (at p v) (at p a) way *ℤ bracket (at p v) (at p b) (at p c))
      (cramer (at p v) (at p a) (at p c) way (at p v) (at p b))
      (zero-mul_ℤ (bracket (at p a) (at p c) way) (bracket-outer (at p v) (at p b)))
      (mul-nonpos_of_nonneg_nonpos_ℤ (weak (named_difference_is_positive (height c) (height v)
      (bracket (at p c) (at p v) way) (s.seen c v) k)) (m.supporting (v, b) o a i.1))
      (mul-nonpos_of_nonneg_nonpos_ℤ (weak (named_difference_is_positive (height v) (height a)
      (bracket (at p v) (at p a) way) (s.seen v a) h)) (m.supporting (v, b) o c i.2))))
    where
      below : (s a b c : ℤ) → s ≡ a +ℤ b +ℤ c → a ≡ pos 0 → b ≤ℤ pos 0 → c ≤ℤ pos 0 → s ≤ℤ pos 0
      below s a b c e x y z = omega (arith, ints)

  -- ---- at least one
  exchanged : (i j : ℕ)
      → bracket (at p v) (at p i) (at p j) ≡ neg_ℤ (bracket (at p v) (at p j) (at p i))
  exchanged i j = bracket-turn (at p v) (at p i) (at p j) ∙ bracket-swap (at p i) (at p j) (at p v)
      ∙ ap neg_ℤ (sym (bracket-turn (at p v) (at p j) (at p i)))

  rise_of : (k : ℕ) → height v <ℤ height k → pos 0 <ℤ bracket (at p v) (at p k) way
  rise_of k h = named_difference_is_positive (height v) (height k) (bracket (at p v) (at p k) way)
      (s.seen v k) h

  -- of the first j vertices none above v is left of z
  record IsLeftmost (j z : ℕ) : Type 0 where
    index : z < n
    rises : height v <ℤ height z
    none : (k : ℕ) → k < j → height v <ℤ height k → bracket (at p v) (at p z) (at p k) ≤ℤ pos 0

  leftmost : (j : ℕ) → ((k : ℕ) → k < j → k < n)
      → ((z : ℕ) × IsLeftmost j z) ⊎ ((k : ℕ) → k < j → height k ≤ℤ height v)
  leftmost zero own = inr (λ k h. absurd (omega arith))
  leftmost (suc j) own =
      go (leftmost j (λ k h. own k (omega arith))) (lt_or_ge_ℤ (height v) (height j))
    where
      last_or : (k : ℕ) → k < suc j → (k < j) ⊎ (k ≡ j)
      last_or k h = grind arith

      kept : (z : ℕ) → IsLeftmost j z
          → (height v <ℤ height j → bracket (at p v) (at p z) (at p j) ≤ℤ pos 0)
          → (z : ℕ) × IsLeftmost (suc j) z
      kept z l last = (
        z,
        record {
          index = l.index;
          rises = l.rises;
          none = λ k h i. elim (last_or k h) [
            | inl x ↦ l.none k x i
            | inr e ↦ subst (λ o. bracket (at p v) (at p z) (at p o) ≤ℤ pos 0) (sym e)
                (last (subst (λ o. height v <ℤ height o) e i))
          ];
        },
      )

      further : (z k : ℕ) → height v <ℤ height z → height v <ℤ height j → height v <ℤ height k
          → pos 0 <ℤ bracket (at p v) (at p z) (at p j) → bracket (at p v) (at p z) (at p k)
          ≤ℤ pos 0 → bracket (at p v) (at p j) (at p k) ≤ℤ pos 0
      further z k hz hj hk left right = not_left_of_product (rise_of z hz)
          (sum_not_positive (bracket (at p v) (at p z) way *ℤ bracket (at p v) (at p j) (at p k))
          (bracket (at p v) (at p k) way *ℤ bracket (at p v) (at p j) (at p z))
          (bracket (at p v) (at p j) way *ℤ bracket (at p v) (at p z) (at p k))
          (relation (bracket (at p v) (at p j) (at p k)) (bracket (at p v) (at p z) way)
          (bracket (at p v) (at p j) (at p z)) (bracket (at p v) (at p k) way)
          (bracket (at p v) (at p j) way) (bracket (at p v) (at p k) (at p z)) (bracket (at p v)
          (at p z) (at p k)) (pluecker (at p v) (at p j) (at p k) (at p z) way) (exchanged k z))
          (mul-nonpos_of_nonneg_nonpos_ℤ (weak (rise_of k hk))
          (weak_right (negated_right (exchanged j z) left)))
          (mul-nonpos_of_nonneg_nonpos_ℤ (weak (rise_of j hj)) right))
        where
          relation : (jk ze jz ke je kz zk : ℤ) → jk *ℤ ze -ℤ jz *ℤ ke +ℤ je *ℤ kz ≡ pos 0
              → kz ≡ neg_ℤ zk → ze *ℤ jk ≡ ke *ℤ jz +ℤ je *ℤ zk
          relation jk ze jz ke je kz zk e d = ring_in_from (jk ∷ ze ∷ jz ∷ ke ∷ je ∷ kz ∷ zk ∷ [])
              (λ jk ze jz ke je kz zk. ze ⊗ jk) (λ jk ze jz ke je kz zk. ke ⊗ jz ⊕ je ⊗ zk)
              (λ jk ze jz ke je kz zk. (num 1, jk ⊗ ze ⊖ jz ⊗ ke ⊕ je ⊗ kz, num 0)
              ∷ (num 0 ⊖ je, kz, ⊝ zk) ∷ []) (e, (d, tt)) tt

      go : ((z : ℕ) × IsLeftmost j z) ⊎ ((k : ℕ) → k < j → height k ≤ℤ height v)
          → (height v <ℤ height j) ⊎ (height j ≤ℤ height v)
          → ((z : ℕ) × IsLeftmost (suc j) z) ⊎ ((k : ℕ) → k < suc j → height k ≤ℤ height v)
      go (inl (z, l)) (inr down) =
          inl (kept z l (λ h. absurd (below_and_not_below (height v) (height j) h down)))
      go (inr none) (inr down) = inr (λ k h. elim (last_or k h)
          [ inl x ↦ none k x | inr e ↦ subst (λ o. height o ≤ℤ height v) (sym e) down ])
      go (inr none) (inl h) = inl (
        j,
        record {
          index = own j (omega arith);
          rises = h;
          none = λ k i l. elim (last_or k i) [
            | inl x ↦ absurd (below_and_not_below (height v) (height k) l (none k x))
            | inr e ↦ zero_weak
                (ap (λ o. bracket (at p v) (at p j) (at p o)) e ∙ bracket-last (at p v) (at p j))
          ];
        },
      )
      go (inl (z, l)) (inl h) =
          inl (elim (lt_or_ge_ℤ (pos 0) (bracket (at p v) (at p z) (at p j))) [
            | inl left ↦ (
              j,
              record {
                index = own j (omega arith);
                rises = h;
                none = λ k i r. elim (last_or k i) [
                  | inl x ↦ further z k l.rises h r left (l.none k x r)
                  | inr e ↦ zero_weak (ap (λ o. bracket (at p v) (at p j) (at p o)) e
                      ∙ bracket-last (at p v) (at p j))
                ];
              },
            )
            | inr right ↦ kept z l (λ _. right)
          ])

  -- v is not level with another vertex
  up_or_down : (k : ℕ) → k < n → k ≢ v → (height v <ℤ height k) ⊎ (height k <ℤ height v)
  up_or_down k h a = elim (lt_or_ge_ℤ (height v) (height k)) [
    | inl l ↦ inl l
    | inr l ↦ inr (less_if_not_same (height k) (height v) l (s.distinct k v h v_index a))
  ]

  Found : Type 0
  Found = (pos 1 ≤ℤ total (begins_at height v) faces) ⊎ (pos 1 ≤ℤ total (leaves height v) outer)

  module _ (z : ℕ) (l : IsLeftmost n z) where
    -- a face v a c whose closed angle has the way to z
    in_angle : (a c : ℕ) → IsTurnOf faces v a c → pos 0 ≤ℤ bracket (at p v) (at p a) (at p z)
        → pos 0 ≤ℤ bracket (at p c) (at p v) (at p z) → Found
    unfolding Found
    in_angle a c t from to =
        go (up_or_down c i.2 (λ e. d.2 e)) (up_or_down a i.1 (λ e. d.0 (sym e)))
      where
        i : (v < n) × (a < n) × (c < n)
        i = C.turn_corners n p faces outer m v a c t

        turns : pos 0 <ℤ bracket (at p v) (at p a) (at p c)
        turns = C.turn_left_of n p faces outer m v a c t

        d : (v ≢ a) × (a ≢ c) × (c ≢ v)
        d = corners_differ p v a c turns

        -- z is on the way to c
        on_way : height v <ℤ height c → bracket (at p v) (at p z) (at p c) ≡ pos 0
        on_way h = between_zero (l.none c i.2 h)
            (subst (λ o. pos 0 ≤ℤ o) (bracket-turn (at p c) (at p v) (at p z)) to)

        -- what is left of the way to c is not above v
        beyond : (g : ℕ) → height v <ℤ height c → g < n
            → pos 0 <ℤ bracket (at p v) (at p c) (at p g) → height g <ℤ height v
        beyond g h hg left = elim (up_or_down g hg (λ e. left_not_zero left
            (ap (λ o. bracket (at p v) (at p c) (at p o)) e ∙ bracket-outer (at p v) (at p c)))) [
              | inl u ↦ absurd (left_not_below (pos_of_mul-pos_ℤ (rise_of c h)
                  (above (bracket (at p v) (at p c) way *ℤ bracket (at p v) (at p z) (at p g))
                  (bracket (at p v) (at p z) way *ℤ bracket (at p v) (at p c) (at p g))
                  (relation (bracket (at p v) (at p z) (at p c)) (bracket (at p v) (at p g) way)
                  (bracket (at p v) (at p z) (at p g)) (bracket (at p v) (at p c) way)
                  (bracket (at p v) (at p z) way) (bracket (at p v) (at p c) (at p g))
                  (pluecker (at p v) (at p z) (at p c) (at p g) way) (on_way h))
                  (mul-pos_ℤ (rise_of z l.rises) left))) (l.none g hg u))
              | inr u ↦ u
            ]
          where
            relation : (zc ge zg ce ze cg : ℤ) → zc *ℤ ge -ℤ zg *ℤ ce +ℤ ze *ℤ cg ≡ pos 0
                → zc ≡ pos 0 → ce *ℤ zg ≡ ze *ℤ cg
            relation zc ge zg ce ze cg e d = ring_in_from (zc ∷ ge ∷ zg ∷ ce ∷ ze ∷ cg ∷ [])
                (λ zc ge zg ce ze cg. ce ⊗ zg) (λ zc ge zg ce ze cg. ze ⊗ cg)
                (λ zc ge zg ce ze cg. (num 0 ⊖ num 1, zc ⊗ ge ⊖ zg ⊗ ce ⊕ ze ⊗ cg, num 0)
                ∷ (ge, zc, num 0) ∷ []) (e, (d, tt)) tt

            above : (a b : ℤ) → a ≡ b → pos 0 <ℤ b → pos 0 <ℤ a
            above a b e h = omega (arith, ints)

        behind : height v <ℤ height c → HasSide faces v c ⊎ Contains outer (v, c)
            → (pos 1 ≤ℤ total (begins_at height v) faces) ⊎ (pos 1 ≤ℤ total (leaves height v) outer)
        behind h (inl (g, f)) =
            inl (begins_counted c g f h (beyond g h (C.turn_corners n p faces outer m v c g f).2
            (C.turn_left_of n p faces outer m v c g f)))
        behind h (inr o) = inr (leaves_counted height v outer c o h)

        -- not both a and c are below v
        not_below : height a <ℤ height v → height c <ℤ height v → ⊥
        not_below ha hc = left_not_below (mul-pos_ℤ turns (rise_of z l.rises))
            (sum_not_positive (bracket (at p v) (at p a) (at p c) *ℤ bracket (at p v) (at p z) way)
            (bracket (at p c) (at p v) (at p z) *ℤ bracket (at p v) (at p a) way)
            (bracket (at p v) (at p a) (at p z) *ℤ bracket (at p v) (at p c) way)
            (relation (bracket (at p v) (at p a) (at p c)) (bracket (at p v) (at p z) way)
            (bracket (at p v) (at p a) (at p z)) (bracket (at p v) (at p c) way)
            (bracket (at p v) (at p a) way) (bracket (at p v) (at p c) (at p z))
            (bracket (at p c) (at p v) (at p z)) (pluecker (at p v) (at p a) (at p c)
            (at p z) way) (bracket-swap (at p v) (at p c) (at p z)))
            (mul-nonpos_of_nonneg_nonpos_ℤ to (falling a ha))
            (mul-nonpos_of_nonneg_nonpos_ℤ from (falling c hc)))
          where
            falling : (k : ℕ) → height k <ℤ height v → bracket (at p v) (at p k) way ≤ℤ pos 0
            falling k h = fall (height v) (height k) (bracket (at p v) (at p k) way) (s.seen v k) h
              where
                fall : (a b d : ℤ) → d ≡ b -ℤ a → b <ℤ a → d ≤ℤ pos 0
                fall a b d e h = omega (arith, ints)

            relation : (ac ze az ce ae cz vz : ℤ) → ac *ℤ ze -ℤ az *ℤ ce +ℤ ae *ℤ cz ≡ pos 0
                → cz ≡ neg_ℤ vz → ac *ℤ ze ≡ vz *ℤ ae +ℤ az *ℤ ce
            relation ac ze az ce ae cz vz e d = ring_in_from (ac ∷ ze ∷ az ∷ ce ∷ ae ∷ cz ∷ vz ∷ [])
                (λ ac ze az ce ae cz vz. ac ⊗ ze) (λ ac ze az ce ae cz vz. vz ⊗ ae ⊕ az ⊗ ce)
                (λ ac ze az ce ae cz vz. (num 1, ac ⊗ ze ⊖ az ⊗ ce ⊕ ae ⊗ cz, num 0)
                ∷ (num 0 ⊖ ae, cz, ⊝ vz) ∷ []) (e, (d, tt)) tt

        go : (height v <ℤ height c) ⊎ (height c <ℤ height v)
            → (height v <ℤ height a) ⊎ (height a <ℤ height v)
            → (pos 1 ≤ℤ total (begins_at height v) faces) ⊎ (pos 1 ≤ℤ total (leaves height v) outer)
        go (inl h) x = behind h
            (C.behind_side n p faces outer m c v (a, turned faces a c v (turned faces v a c t)))
        go (inr h) (inl k) = inl (begins_counted a c t k h)
        go (inr h) (inr k) = absurd (not_below k h)

    -- near v, towards z: in a closed face, which is one at v
    towards : (q : Vec3) × IsNudged n p (at p v) (at p z) q
    towards = near n p (at p v) (at p z) (record { lt = tt }) (record { lt = tt })

    found : Found
    unfolding Found
    found = at_face
        (C.in_some_face n p faces outer m towards.0 towards.1.weight (λ e h. let i = m.ends e h in
        nudged_not_left (bracket (at p e.0) (at p e.1) (at p v)) (bracket (at p e.0) (at p e.1)
        (at p z)) (bracket (at p e.0) (at p e.1) towards.0) (towards.1.sides e.0 e.1 i.0 i.1)
        (m.supporting e h v v_index) (m.supporting e h z l.index)))
      where
        back : (i j : ℕ) → i < n → j < n → pos 0 ≤ℤ bracket (at p i) (at p j) towards.0
            → pos 0 ≤ℤ bracket (at p i) (at p j) (at p v)
        back i j hi hj h = elim (lt_or_ge_ℤ (bracket (at p i) (at p j) (at p v)) (pos 0)) [
          | inl k ↦ absurd
              (clash (bracket (at p i) (at p j) towards.0) h ((towards.1.sides i j hi hj).right k))
          | inr k ↦ k
        ]
          where
            clash : (a : ℤ) → pos 0 ≤ℤ a → a <ℤ pos 0 → ⊥
            clash a h k = omega (arith, ints)

        at_corner : (a c : ℕ) → IsTurnOf faces v a c → pos 0 ≤ℤ bracket (at p v) (at p a) towards.0
            → pos 0 ≤ℤ bracket (at p c) (at p v) towards.0
            → (pos 1 ≤ℤ total (begins_at height v) faces) ⊎ (pos 1 ≤ℤ total (leaves height v) outer)
        at_corner a c t from to =
            let i = C.turn_corners n p faces outer m v a c t in
            in_angle a c t (subst (λ o. pos 0 ≤ℤ o) ((towards.1.sides v a i.0 i.1).on
            (bracket-outer (at p v) (at p a))) from) (subst (λ o. pos 0 ≤ℤ o)
            ((towards.1.sides c v i.2 i.0).on (bracket-last (at p c) (at p v))) to)

        at_face : (f : Face) × Contains faces f × (pos 0 ≤ℤ bracket (at p f.a) (at p f.b) towards.0)
            × (pos 0 ≤ℤ bracket (at p f.b) (at p f.c) towards.0)
            × (pos 0 ≤ℤ bracket (at p f.c) (at p f.a) towards.0)
            → (pos 1 ≤ℤ total (begins_at height v) faces) ⊎ (pos 1 ≤ℤ total (leaves height v) outer)
        at_face (f, here, x, y, w) = go (C.vertex_in_face n p faces outer m v f.a f.b f.c v_index
            (inl here) (back f.a f.b c.0 c.1 x) (back f.b f.c c.1 c.2 y) (back f.c f.a c.2 c.0 w))
          where
            c : (f.a < n) × (f.b < n) × (f.c < n)
            c = m.corners f here

            go : (v ≡ f.a) ⊎ ((v ≡ f.b) ⊎ (v ≡ f.c)) → (pos 1 ≤ℤ total (begins_at height v) faces)
                ⊎ (pos 1 ≤ℤ total (leaves height v) outer)
            go (inl e) =
                at_corner f.b f.c (subst (λ o. IsTurnOf faces o f.b f.c) (sym e) (inl here))
                (subst (λ o. pos 0 ≤ℤ bracket (at p o) (at p f.b) towards.0) (sym e) x)
                (subst (λ o. pos 0 ≤ℤ bracket (at p f.c) (at p o) towards.0) (sym e) w)
            go (inr (inl e)) =
                at_corner f.c f.a (subst (λ o. IsTurnOf faces o f.c f.a) (sym e) (inr (inr here)))
                (subst (λ o. pos 0 ≤ℤ bracket (at p o) (at p f.c) towards.0) (sym e) y)
                (subst (λ o. pos 0 ≤ℤ bracket (at p f.a) (at p o) towards.0) (sym e) x)
            go (inr (inr e)) =
                at_corner f.a f.b (subst (λ o. IsTurnOf faces o f.a f.b) (sym e) (inr (inl here)))
                (subst (λ o. pos 0 ≤ℤ bracket (at p o) (at p f.a) towards.0) (sym e) w)
                (subst (λ o. pos 0 ≤ℤ bracket (at p f.b) (at p o) towards.0) (sym e) y)

  -- ---- the count at v
  -- below another vertex: one
  pub count_one : (k : ℕ) → k < n → height v <ℤ height k → count_at height faces outer v ≡ pos 1
  unfolding count_at Found
  count_one k h up_k = go (leftmost n (λ _ i. i))
    where
      exactly : (a b : ℤ) → a ≤ℤ pos 1 → b ≤ℤ pos 1 → pos 0 ≤ℤ a → pos 0 ≤ℤ b
          → (pos 0 <ℤ a → pos 0 <ℤ b → ⊥) → (pos 1 ≤ℤ a) ⊎ (pos 1 ≤ℤ b) → a +ℤ b ≡ pos 1
      exactly a b h k i j n (inl l) = elim (lt_or_ge_ℤ (pos 0) b)
          [ inl x ↦ absurd (n (omega (arith, ints)) x) | inr x ↦ omega (arith, ints) ]
      exactly a b h k i j n (inr l) = elim (lt_or_ge_ℤ (pos 0) a)
          [ inl x ↦ absurd (n x (omega (arith, ints))) | inr x ↦ omega (arith, ints) ]

      apart : pos 0 <ℤ total (begins_at height v) faces → pos 0 <ℤ total (leaves height v) outer → ⊥
      apart x y =
          let f = total_positive (begins_at height v) faces x in
          let e = total_positive (leaves height v) outer y in
          let b = begins_found f.0 f.2 in
          let r = leaves_found height v e.0 e.2 in
          not_both b.a b.c e.0.1 (L.turn_on n p faces outer m v b.a b.c f.0 b.on f.1) b.rises
          b.falls (subst (λ o. Contains outer (o, e.0.1)) (sym r.0) e.1)
          (subst (λ o. height o <ℤ height e.0.1) (sym r.0) r.1)

      go : ((z : ℕ) × IsLeftmost n z) ⊎ ((k : ℕ) → k < n → height k ≤ℤ height v)
          → total (begins_at height v) faces +ℤ total (leaves height v) outer ≡ pos 1
      go (inl (z, l)) = exactly (total (begins_at height v) faces) (total (leaves height v) outer)
          faces_once outer_once (total_nonneg (begins_at height v) faces (λ f _. begins_nonneg f))
          (total_nonneg (leaves height v) outer (λ e _. leaves_nonneg height v e)) apart (found z l)
      go (inr none) = absurd (below_and_not_below (height v) (height k) up_k (none k h))

  -- at the top: none
  pub count_none : ((k : ℕ) → k < n → height k ≤ℤ height v) → count_at height faces outer v ≡ pos 0
  unfolding count_at
  count_none top = sum_of_zeros (total (begins_at height v) faces) (total (leaves height v) outer)
      (all_none (begins_at height v) faces (λ f h. begins_none f h (begins_bits f h))) (all_none
      (leaves height v) outer (rises_nowhere height v outer (λ e h. top e.1 (m.ends e h).1)))
    where
      begins_none : (f : Face) → Contains faces f → (begins_at height v f ≡ pos 0)
          ⊎ (begins_at height v f ≡ pos 1) → begins_at height v f ≡ pos 0
      begins_none f h (inl e) = e
      begins_none f h (inr e) = absurd (let b = begins_found f (one_is_above_zero e) in
          below_and_not_below (height v) (height b.a) b.rises (top b.a (C.turn_corners n p faces
          outer m v b.a b.c (L.turn_on n p faces outer m v b.a b.c f b.on h)).1))
