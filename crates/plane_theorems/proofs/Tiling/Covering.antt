-- The faces of a local mesh cover the half planes of its outer edges, are apart, meet along their
-- sides, and have no further vertex.
-- Notions: IsNotOutside; next_corner, in_some_face, inside_not_outside, entries_apart, same_face,
-- turn_corners, turn_left_of, shared_corner, no_outer_back, behind_outer, behind_side, face_at,
-- vertex_in_face.
use Rattle.std.proofs.Common.{◌≡◌, ◌⊎◌, ◌<◌, ◌≤◌, ◌∙◌}
use Rattle.std.proofs.Common.{ℕ, List, length, get_or, refl, sym, ap, subst, arith}
use mathlib.Core.Logic.{inl, inr}
use Rattle.std.specs.Prelude.{ℤ, pos, ◌+ℤ◌, ◌*ℤ◌, ◌≤ℤ◌, ◌<ℤ◌, neg_ℤ, Contains}
use Rattle.std.proofs.lemmas.Int.{ints}
use Rattle.std.proofs.lemmas.Bool.{cases_lt}
use Rattle.plane.specs.{Face, face, IsPositive, Point, whole, WithinSegment}
use Rattle.plane.proofs.{between_zero, bracket, bracket-last, bracket-moved, bracket-outer}
use Rattle.plane.proofs.{bracket-swap, bracket-turn, cramer, cramer_w, cramer_x, cramer_y}
use Rattle.plane.proofs.{drop_zero, drop_zero_last, Inside, IsNudged, left_not_zero, LieOnLine}
use Rattle.plane.proofs.{mean_of_two, moved, mul-nonpos_of_nonneg_nonpos_ℤ, mul-pos_ℤ, mul_cancel_ℤ}
use Rattle.plane.proofs.{near, negated_below, negated_left, not_left_of_product, not_left_strict}
use Rattle.plane.proofs.{not_on_line, pos-ne-zero_ℤ, pos_of_mul-pos_ℤ, product_zero_left}
use Rattle.plane.proofs.{sum_first_two, Vec3, weak, zero-mul_ℤ, zero_or_left}
use Rattle.plane.proofs.Generic.{generic_near, IsSpot, spot}
use Rattle.plane.proofs.Nudges.{moved_positive, nudged_back, nudged_right}
use Rattle.plane.proofs.Steps.{some_multiple, sum_first, sum_second, three_below, times_one}
use Rattle.plane_theorems.specs.{IsCorner, total}
use Rattle.plane_theorems.proofs.Tiling.Counting.{at, corners_differ, hits, hits_inside, hits_is}
use Rattle.plane_theorems.proofs.Tiling.Counting.{hits_nonneg, inside_hits, same_index, SignMesh}
use Rattle.plane_theorems.proofs.Tiling.Counting.{total_hits, within_turned}
use Rattle.plane_theorems.proofs.Tiling.Flows.{back_of_outer, back_of_side, HasSide, IsTurnOf}
use Rattle.plane_theorems.proofs.Tiling.Flows.{turned}
use Rattle.plane_theorems.proofs.Tiling.Totals.{get_or_any, total_reached, total_twice}

-- a face by any of its rotations
record Entry (p : ℕ → Point) (faces : List Face) (i j k : ℕ) : Type 0 where
  f : Face
  here : Contains faces f
  inside : (q : Vec3) → Inside (at p i) (at p j) (at p k) q
      → Inside (at p f.a) (at p f.b) (at p f.c) q
  first_corner : IsCorner f i
  others : (x : ℕ) → IsCorner f x → (x ≡ i) ⊎ ((x ≡ j) ⊎ (x ≡ k))

entry : (p : ℕ → Point) (faces : List Face) (i j k : ℕ) → IsTurnOf faces i j k → Entry p faces i j k
entry p faces i j k (inl h) = record {
  f = face i j k;
  here = h;
  inside = λ q s. s;
  first_corner = inl refl;
  others = λ x c. c;
}
entry p faces i j k (inr (inl h)) = record {
  f = face j k i;
  here = h;
  inside = λ q s. record { first = s.second; second = s.third; third = s.first };
  first_corner = inr (inr refl);
  others = λ x c. elim c
      [ inl e ↦ inr (inl e) | inr d ↦ elim d [ inl e ↦ inr (inr e) | inr e ↦ inl e ] ];
}
entry p faces i j k (inr (inr h)) = record {
  f = face k i j;
  here = h;
  inside = λ q s. record { first = s.third; second = s.first; third = s.second };
  first_corner = inr (inl refl);
  others = λ x c. elim c
      [ inl e ↦ inr (inr e) | inr d ↦ elim d [ inl e ↦ inl e | inr e ↦ inr (inl e) ] ];
}

one_positive : (z : ℤ) → z ≡ pos 1 → pos 0 <ℤ z
one_positive z e = omega (arith, ints)

two_not_one : (z : ℤ) → z ≡ pos 1 → pos 2 ≤ℤ z → ⊥
two_not_one z e h = omega (arith, ints)

-- one of three, counted from the next
pub next_corner : {A B C : Type 0} → A ⊎ (B ⊎ C) → C ⊎ (A ⊎ B)
next_corner (inl a) = inr (inl a)
next_corner (inr (inl b)) = inr (inr b)
next_corner (inr (inr c)) = inl c

module _ (n : ℕ) (p : ℕ → Point) (faces : List Face) (outer : List (ℕ × ℕ))
    (m : SignMesh n p faces outer) where
  -- q is left of no outer edge
  abbrev pub IsNotOutside : Vec3 → Type 0
  IsNotOutside q = (e : ℕ × ℕ) → Contains outer e → bracket (at p e.0) (at p e.1) q ≤ℤ pos 0

  own_spot : (d : Vec3) × IsSpot n p m.some_face.0.a m.some_face.0.b m.some_face.0.c d
  own_spot = let c = m.corners m.some_face.0 m.some_face.1 in spot n p m.distinct m.some_face.0.a
      m.some_face.0.b m.some_face.0.c c.0 c.1 c.2 (m.turning m.some_face.0 m.some_face.1)

  spot_right : (e : ℕ × ℕ) → Contains outer e → bracket (at p e.0) (at p e.1) own_spot.0 <ℤ pos 0
  spot_right e h =
      let c = m.corners m.some_face.0 m.some_face.1 in
      let i = m.ends e h in
      not_left_strict (own_spot.1.not_left e.0 e.1 i.0 i.1 (m.supporting e h m.some_face.0.a c.0)
      (m.supporting e h m.some_face.0.b c.1) (m.supporting e h m.some_face.0.c c.2))
      (own_spot.1.generic.off e.0 e.1 i.0 i.1 i.2)

  -- near each point outside no outer edge is one off all lines, strictly inside exactly one face
  record IsTrial (q z : Vec3) : Type 0 where
    nudged : IsNudged n p q own_spot.0 z
    once : total (hits p z) faces ≡ pos 1

  trial : (q : Vec3) → pos 0 <ℤ q.w → IsNotOutside q → (z : Vec3) × IsTrial q z
  trial q w o =
      let z = generic_near n p q own_spot.0 w own_spot.1.generic in (
        z.0,
        record {
          nudged = z.1;
          once = total_hits n p faces outer m z.0 z.2 (λ e h. let i = m.ends e h in
              nudged_right (bracket (at p e.0) (at p e.1) q)
              (bracket (at p e.0) (at p e.1) own_spot.0) (bracket (at p e.0) (at p e.1) z.0)
              (z.1.sides e.0 e.1 i.0 i.1) (o e h) (spot_right e h));
        },
      )

  -- such a point is in a closed face
  pub in_some_face : (q : Vec3) → pos 0 <ℤ q.w → IsNotOutside q
      → (f : Face) × Contains faces f × (pos 0 ≤ℤ bracket (at p f.a) (at p f.b) q)
      × (pos 0 ≤ℤ bracket (at p f.b) (at p f.c) q) × (pos 0 ≤ℤ bracket (at p f.c) (at p f.a) q)
  in_some_face q w o =
      let z = trial q w o in
      let r = total_reached (hits p z.0) faces (λ f _. hits_is p z.0 f)
      (one_positive (total (hits p z.0) faces) z.1.once) in
      let f = r.0 in
      let i = inside_hits p z.0 f r.2 in
      let c = m.corners f r.1 in (
        f,
        r.1,
        nudged_back (bracket (at p f.a) (at p f.b) q) (bracket (at p f.a) (at p f.b) own_spot.0)
            (bracket (at p f.a) (at p f.b) z.0) (z.1.nudged.sides f.a f.b c.0 c.1) i.first,
        nudged_back (bracket (at p f.b) (at p f.c) q) (bracket (at p f.b) (at p f.c) own_spot.0)
            (bracket (at p f.b) (at p f.c) z.0) (z.1.nudged.sides f.b f.c c.1 c.2) i.second,
        nudged_back (bracket (at p f.c) (at p f.a) q) (bracket (at p f.c) (at p f.a) own_spot.0)
            (bracket (at p f.c) (at p f.a) z.0) (z.1.nudged.sides f.c f.a c.2 c.0) i.third,
      )

  -- a point inside a face is left of no outer edge
  pub inside_not_outside : (f : Face) → Contains faces f → (q : Vec3)
      → Inside (at p f.a) (at p f.b) (at p f.c) q → IsNotOutside q
  inside_not_outside f h q i e l =
      let c = m.corners f h in
      not_left_of_product (m.turning f h)
      (three_below (bracket (at p f.a) (at p f.b) (at p f.c) *ℤ bracket (at p e.0) (at p e.1) q)
      (bracket (at p f.b) (at p f.c) q *ℤ bracket (at p e.0) (at p e.1) (at p f.a))
      (bracket (at p f.c) (at p f.a) q *ℤ bracket (at p e.0) (at p e.1) (at p f.b))
      (bracket (at p f.a) (at p f.b) q *ℤ bracket (at p e.0) (at p e.1) (at p f.c))
      (cramer (at p f.a) (at p f.b) (at p f.c) q (at p e.0) (at p e.1))
      (mul-nonpos_of_nonneg_nonpos_ℤ (weak i.second) (m.supporting e l f.a c.0))
      (mul-nonpos_of_nonneg_nonpos_ℤ (weak i.third) (m.supporting e l f.b c.1))
      (mul-nonpos_of_nonneg_nonpos_ℤ (weak i.first) (m.supporting e l f.c c.2)))

  -- no point is strictly inside two entries
  pub entries_apart : (k l : ℕ) (d : Face) → k < l → l < length faces → (q : Vec3) → pos 0 <ℤ q.w
      → Inside (at p (get_or faces k d).a) (at p (get_or faces k d).b) (at p (get_or faces k d).c) q
      → Inside (at p (get_or faces l d).a) (at p (get_or faces l d).b) (at p (get_or faces l d).c) q
      → ⊥
  entries_apart k l d low high q w i j =
      let f = get_or faces k d in
      let g = get_or faces l d in
      let in_f : Contains faces f = (k, omega arith, get_or_any faces k f d (omega arith)) in
      let in_g : Contains faces g = (l, high, get_or_any faces l g d high) in
      let z = trial q w (inside_not_outside f in_f q i) in
      two_not_one (total (hits p z.0) faces) z.1.once
      (total_twice (hits p z.0) faces (λ h _. hits_nonneg p z.0 h) k l d low high
      (hits_inside p z.0 f (kept f (m.corners f in_f) q z.0 z.1.nudged i))
      (hits_inside p z.0 g (kept g (m.corners g in_g) q z.0 z.1.nudged j)))
    where
      kept : (f : Face) → (f.a < n) × (f.b < n) × (f.c < n) → (q z : Vec3)
          → IsNudged n p q own_spot.0 z → Inside (at p f.a) (at p f.b) (at p f.c) q
          → Inside (at p f.a) (at p f.b) (at p f.c) z
      kept f c q z s i = record {
        first = (s.sides f.a f.b c.0 c.1).left i.first;
        second = (s.sides f.b f.c c.1 c.2).left i.second;
        third = (s.sides f.c f.a c.2 c.0).left i.third;
      }

  -- two faces with a common point strictly inside are one
  pub same_face : (f g : Face) → Contains faces f → Contains faces g → (q : Vec3) → pos 0 <ℤ q.w
      → Inside (at p f.a) (at p f.b) (at p f.c) q
      → Inside (at p g.a) (at p g.b) (at p g.c) q → f ≡ g
  same_face f g a b q w i j = go (cases_lt a.0 b.0) (cases_lt b.0 a.0)
    where
      at_f : (d : Face) → f ≡ get_or faces a.0 d
      at_f d = sym a.2 ∙ get_or_any faces a.0 f d a.1

      at_g : (d : Face) → g ≡ get_or faces b.0 d
      at_g d = sym b.2 ∙ get_or_any faces b.0 g d b.1

      moved_inside : (f g : Face) → f ≡ g → Inside (at p f.a) (at p f.b) (at p f.c) q
          → Inside (at p g.a) (at p g.b) (at p g.c) q
      moved_inside f g e = subst (λ h. Inside (at p h.a) (at p h.b) (at p h.c) q) e

      level : (k l : ℕ) → l ≤ k → k ≤ l → k ≡ l
      level k l h i = omega arith

      go : (a.0 < b.0) ⊎ (b.0 ≤ a.0) → (b.0 < a.0) ⊎ (a.0 ≤ b.0) → f ≡ g
      go (inl h) k =
          absurd (entries_apart a.0 b.0 f h b.1 q w (moved_inside f (get_or faces a.0 f) (at_f f) i)
          (moved_inside g (get_or faces b.0 f) (at_g f) j))
      go (inr h) (inl k) =
          absurd (entries_apart b.0 a.0 f k a.1 q w (moved_inside g (get_or faces b.0 f) (at_g f) j)
          (moved_inside f (get_or faces a.0 f) (at_f f) i))
      go (inr h) (inr k) = at_f f ∙ ap (λ t. get_or faces t f) (level a.0 b.0 h k) ∙ sym (at_g f)

  -- ---- faces by any of their rotations
  -- the corners of a face are vertices
  pub turn_corners : (i j k : ℕ) → IsTurnOf faces i j k → (i < n) × (j < n) × (k < n)
  turn_corners i j k (inl h) = m.corners (face i j k) h
  turn_corners i j k (inr (inl h)) = let c = m.corners (face j k i) h in (c.2, c.0, c.1)
  turn_corners i j k (inr (inr h)) = let c = m.corners (face k i j) h in (c.1, c.2, c.0)

  -- the corners of a face turn left
  pub turn_left_of : (i j k : ℕ) → IsTurnOf faces i j k
      → pos 0 <ℤ bracket (at p i) (at p j) (at p k)
  turn_left_of i j k (inl h) = m.turning (face i j k) h
  turn_left_of i j k (inr (inl h)) = subst (λ z. pos 0 <ℤ z)
      (sym (bracket-turn (at p i) (at p j) (at p k))) (m.turning (face j k i) h)
  turn_left_of i j k (inr (inr h)) =
      subst (λ z. pos 0 <ℤ z) (bracket-turn (at p k) (at p i) (at p j)) (m.turning (face k i j) h)

  -- where a point is strictly inside two faces, the corner i of the first is one of the second's
  pub shared_corner : (i j k a b c : ℕ) → IsTurnOf faces i j k → IsTurnOf faces a b c → (q : Vec3)
      → pos 0 <ℤ q.w → Inside (at p i) (at p j) (at p k) q → Inside (at p a) (at p b) (at p c) q
      → (i ≡ a) ⊎ ((i ≡ b) ⊎ (i ≡ c))
  shared_corner i j k a b c s t q w x y =
      let f = entry p faces i j k s in
      let g = entry p faces a b c t in
      g.others i (subst (λ h. IsCorner h i)
      (same_face f.f g.f f.here g.here q w (f.inside q x) (g.inside q y)) f.first_corner)

  -- ---- sides
  -- no outer edge runs both ways
  pub no_outer_back : (u v : ℕ) → Contains outer (u, v) → Contains outer (v, u) → ⊥
  no_outer_back u v a b =
      let f = m.some_face.0 in
      let c = m.corners f m.some_face.1 in
      let e = m.ends (u, v) a in
      m.distinct u v e.0 e.1 e.2 (not_on_line (at p f.a) (at p f.b) (at p f.c) (p u) (p v)
      (m.turning f m.some_face.1) (level f.a c.0) (level f.b c.1) (level f.c c.2))
    where
      level : LieOnLine n p (p u) (p v)
      level k h = between_zero (m.supporting (u, v) a k h)
          (negated_below (bracket-swap (at p u) (at p v) (at p k)) (m.supporting (v, u) b k h))

  -- the way back of an outer edge is a side
  pub behind_outer : (u v : ℕ) → Contains outer (u, v) → HasSide faces v u
  behind_outer u v h = go (back_of_outer faces outer m.balanced u v h)
    where
      go : HasSide faces v u ⊎ Contains outer (v, u) → HasSide faces v u
      go (inl s) = s
      go (inr s) = absurd (no_outer_back u v h s)

  -- behind a side of a face lies a face or the outside
  pub behind_side : (u v : ℕ) → HasSide faces u v → HasSide faces v u ⊎ Contains outer (v, u)
  behind_side u v h = back_of_side faces outer m.balanced u v h

  -- each vertex is a corner of a face
  pub face_at : (v : ℕ) → v < n → (s t : ℕ) × IsTurnOf faces v s t
  face_at v h = go (m.used v h)
    where
      go : ((f : Face) × Contains faces f × IsCorner f v)
          ⊎ ((e : ℕ × ℕ) × Contains outer e × ((v ≡ e.0) ⊎ (v ≡ e.1)))
          → (s t : ℕ) × IsTurnOf faces v s t
      go (inl (f, here, c)) = by f here c
        where
          by : (f : Face) → Contains faces f → IsCorner f v → (s t : ℕ) × IsTurnOf faces v s t
          by f here (inl e) =
              (f.b, f.c, inl (subst (λ i. Contains faces (face i f.b f.c)) (sym e) here))
          by f here (inr (inl e)) =
              (f.c, f.a, inr (inr (subst (λ i. Contains faces (face f.a i f.c)) (sym e) here)))
          by f here (inr (inr e)) =
              (f.a, f.b, inr (inl (subst (λ i. Contains faces (face f.a f.b i)) (sym e) here)))
      go (inr (e, here, c)) = by e here c
        where
          by : (e : ℕ × ℕ) → Contains outer e → (v ≡ e.0) ⊎ (v ≡ e.1)
              → (s t : ℕ) × IsTurnOf faces v s t
          by e here (inl d) = let s = behind_outer e.0 e.1 here in (
            s.0,
            e.1,
            subst (λ i. IsTurnOf faces i s.0 e.1) (sym d) (turned faces e.1 e.0 s.0 s.1),
          )
          by e here (inr d) = let s = behind_outer e.0 e.1 here in
              (e.0, s.0, subst (λ i. IsTurnOf faces i e.0 s.0) (sym d) s.1)

  -- ---- a vertex v in a closed face is a corner of it. s and t are the other corners of a face at
  -- v
  module _ (v s t : ℕ) (v_index : v < n) (own : IsTurnOf faces v s t) where
    abbrev Corner : ℕ → ℕ → ℕ → Type 0
    Corner i j k = (v ≡ i) ⊎ ((v ≡ j) ⊎ (v ≡ k))

    own_corners : (v < n) × (s < n) × (t < n)
    own_corners = turn_corners v s t own

    own_left : pos 0 <ℤ bracket (at p v) (at p s) (at p t)
    own_left = turn_left_of v s t own

    -- near v, towards a point between s and t: inside the own face
    record IsBeside (k : ℤ) (z : Vec3) : Type 0 where
      nudged : IsNudged n p (at p v) (moved k (at p s) (at p t)) z
      inside : Inside (at p v) (at p s) (at p t) z

    beside : (k : ℤ) → pos 0 <ℤ k → (z : Vec3) × IsBeside k z
    beside k h =
        let z = near n p (at p v) (moved k (at p s) (at p t)) (record { lt = tt })
        (moved_positive k (at p s) (at p t) h (record { lt = tt }) (record { lt = tt })) in
        let c = own_corners in (
          z.0,
          record {
            nudged = z.1;
            inside = record {
              first = subst (λ y. pos 0 <ℤ y)
                  (sym ((z.1.sides v s c.0 c.1).on (bracket-outer (at p v) (at p s))
                  ∙ drop_zero (bracket (at p v) (at p s) (moved k (at p s) (at p t)))
                  (k *ℤ bracket (at p v) (at p s) (at p s)) (bracket (at p v) (at p s) (at p t))
                  (bracket-moved (at p v) (at p s) k (at p s) (at p t))
                  (zero-mul_ℤ k (bracket-last (at p v) (at p s))))) own_left;
              second = (z.1.sides s t c.1 c.2).left
                  (subst (λ y. pos 0 <ℤ y) (bracket-turn (at p v) (at p s) (at p t)) own_left);
              third = subst (λ y. pos 0 <ℤ y)
                  (sym ((z.1.sides t v c.2 c.0).on (bracket-last (at p t) (at p v)) ∙ drop_zero_last
                  (bracket (at p t) (at p v) (moved k (at p s) (at p t))) (k *ℤ bracket (at p t)
                  (at p v) (at p s)) (bracket (at p t) (at p v) (at p t)) (bracket-moved (at p t)
                  (at p v) k (at p s) (at p t)) (bracket-outer (at p t) (at p v))))
                  (mul-pos_ℤ h (subst (λ y. pos 0 <ℤ y) (bracket-turn (at p v) (at p s) (at p t)
                  ∙ bracket-turn (at p s) (at p t) (at p v)) own_left));
            };
          },
        )

    strictly_inside : (i j k : ℕ) → IsTurnOf faces i j k
        → pos 0 <ℤ bracket (at p i) (at p j) (at p v) → pos 0 <ℤ bracket (at p j) (at p k) (at p v)
        → pos 0 <ℤ bracket (at p k) (at p i) (at p v) → Corner i j k
    strictly_inside i j k f a b c =
        let z = beside (pos 1) (record { lt = tt }) in
        let r = turn_corners i j k f in
        shared_corner v s t i j k own f z.0 z.1.nudged.weight z.1.inside (record {
          first = (z.1.nudged.sides i j r.0 r.1).left a;
          second = (z.1.nudged.sides j k r.1 r.2).left b;
          third = (z.1.nudged.sides k i r.2 r.0).left c;
        })

    -- on two sides: at their corner
    at_corner : (i j k : ℕ) → IsTurnOf faces i j k → bracket (at p i) (at p j) (at p v) ≡ pos 0
        → bracket (at p j) (at p k) (at p v) ≡ pos 0 → v ≡ j
    at_corner i j k f a b =
        let d = turn_left_of i j k f in
        let r = turn_corners i j k f in
        let D = bracket (at p i) (at p j) (at p k) in
        let S = bracket (at p k) (at p i) (at p v) in
        let w = times_one D S (sum_second (D *ℤ pos 1) (bracket (at p j) (at p k) (at p v) *ℤ pos 1)
        (S *ℤ pos 1) (bracket (at p i) (at p j) (at p v) *ℤ pos 1) (cramer_w (at p i) (at p j)
        (at p k) (at p v)) (product_zero_left (pos 1) b) (product_zero_left (pos 1) a)) in
        let x = mul_cancel_ℤ (pos-ne-zero_ℤ d) (sum_second (D *ℤ (p v).x) (bracket (at p j) (at p k)
        (at p v) *ℤ (p i).x) (S *ℤ (p j).x) (bracket (at p i) (at p j) (at p v) *ℤ (p k).x)
        (cramer_x (at p i) (at p j) (at p k) (at p v)) (product_zero_left (p i).x b)
        (product_zero_left (p k).x a) ∙ ap (λ y. y *ℤ (p j).x) (sym w)) in
        let y = mul_cancel_ℤ (pos-ne-zero_ℤ d) (sum_second (D *ℤ (p v).y) (bracket (at p j) (at p k)
        (at p v) *ℤ (p i).y) (S *ℤ (p j).y) (bracket (at p i) (at p j) (at p v) *ℤ (p k).y)
        (cramer_y (at p i) (at p j) (at p k) (at p v)) (product_zero_left (p i).y b)
        (product_zero_left (p k).y a) ∙ ap (λ y. y *ℤ (p j).y) (sym w)) in
        same_index n p m.distinct v j v_index r.1 (λ o. record { x = x o; y = y o })

    -- strictly within a side
    on_side : (i j k : ℕ) → IsTurnOf faces i j k → bracket (at p i) (at p j) (at p v) ≡ pos 0
        → pos 0 <ℤ bracket (at p j) (at p k) (at p v) → pos 0 <ℤ bracket (at p k) (at p i) (at p v)
        → Corner i j k
    on_side i j k f a b c = by (some_multiple (bracket (at p i) (at p j) (at p s))
        (bracket (at p i) (at p j) (at p t)) not_both)
      where
        r : (i < n) × (j < n) × (k < n)
        r = turn_corners i j k f

        left_ijk : pos 0 <ℤ bracket (at p i) (at p j) (at p k)
        left_ijk = turn_left_of i j k f

        not_both : bracket (at p i) (at p j) (at p s) ≡ pos 0
            → bracket (at p i) (at p j) (at p t) ≡ pos 0 → ⊥
        not_both e d = m.distinct i j r.0 r.1 (corners_differ p i j k left_ijk).0
            (not_on_line (at p v) (at p s) (at p t) (p i) (p j) own_left a e d)

        within : WithinSegment (whole (p i)) (whole (p j)) (whole (p v))
        within = mean_of_two IsPositive (whole (p i)) (whole (p j)) (whole (p v)) (record {
          k = bracket (at p j) (at p k) (at p v);
          l = bracket (at p k) (at p i) (at p v);
          n = bracket (at p i) (at p j) (at p k);
          k_allowed = b;
          l_allowed = c;
          positive = left_ijk;
          x = sum_first_two (bracket (at p i) (at p j) (at p k) *ℤ (p v).x)
              (bracket (at p j) (at p k) (at p v) *ℤ (p i).x) (bracket (at p k) (at p i) (at p v)
              *ℤ (p j).x) (bracket (at p i) (at p j) (at p v) *ℤ (p k).x)
              (cramer_x (at p i) (at p j) (at p k) (at p v)) (product_zero_left (p k).x a);
          y = sum_first_two (bracket (at p i) (at p j) (at p k) *ℤ (p v).y)
              (bracket (at p j) (at p k) (at p v) *ℤ (p i).y) (bracket (at p k) (at p i) (at p v)
              *ℤ (p j).y) (bracket (at p i) (at p j) (at p v) *ℤ (p k).y)
              (cramer_y (at p i) (at p j) (at p k) (at p v)) (product_zero_left (p k).y a);
          w = sum_first_two (bracket (at p i) (at p j) (at p k) *ℤ pos 1)
              (bracket (at p j) (at p k) (at p v) *ℤ pos 1) (bracket (at p k) (at p i) (at p v)
              *ℤ pos 1) (bracket (at p i) (at p j) (at p v) *ℤ pos 1)
              (cramer_w (at p i) (at p j) (at p k) (at p v)) (product_zero_left (pos 1) a);
        })

        on_left : (q : ℤ) → pos 0 <ℤ q → pos 0
            <ℤ (q *ℤ bracket (at p i) (at p j) (at p s) +ℤ bracket (at p i) (at p j) (at p t))
            → Corner i j k
        on_left q h l =
            let z = beside q h in
            shared_corner v s t i j k own f z.0 z.1.nudged.weight z.1.inside (record {
              first = subst (λ y. pos 0 <ℤ y) (sym ((z.1.nudged.sides i j r.0 r.1).on a
                  ∙ bracket-moved (at p i) (at p j) q (at p s) (at p t))) l;
              second = (z.1.nudged.sides j k r.1 r.2).left b;
              third = (z.1.nudged.sides k i r.2 r.0).left c;
            })

        -- seen from a side of the face beyond, v is where it is seen on the own side
        from_i : (e : ℕ) → pos 0 <ℤ bracket (at p j) (at p i) (at p e)
            → pos 0 <ℤ bracket (at p i) (at p e) (at p v)
        from_i e h = pos_of_mul-pos_ℤ left_ijk (subst (λ y. pos 0 <ℤ y)
            (sym (sum_second (bracket (at p i) (at p j) (at p k) *ℤ bracket (at p i) (at p e)
            (at p v)) (bracket (at p j) (at p k) (at p v) *ℤ bracket (at p i) (at p e) (at p i))
            (bracket (at p k) (at p i) (at p v) *ℤ bracket (at p i) (at p e) (at p j))
            (bracket (at p i) (at p j) (at p v) *ℤ bracket (at p i) (at p e) (at p k))
            (cramer (at p i) (at p j) (at p k) (at p v) (at p i) (at p e))
            (zero-mul_ℤ (bracket (at p j) (at p k) (at p v)) (bracket-outer (at p i) (at p e)))
            (product_zero_left (bracket (at p i) (at p e) (at p k)) a)))
            (mul-pos_ℤ c (subst (λ y. pos 0 <ℤ y) (bracket-turn (at p j) (at p i) (at p e)) h)))

        from_j : (e : ℕ) → pos 0 <ℤ bracket (at p j) (at p i) (at p e)
            → pos 0 <ℤ bracket (at p e) (at p j) (at p v)
        from_j e h = pos_of_mul-pos_ℤ left_ijk (subst (λ y. pos 0 <ℤ y)
            (sym (sum_first (bracket (at p i) (at p j) (at p k) *ℤ bracket (at p e) (at p j)
            (at p v)) (bracket (at p j) (at p k) (at p v) *ℤ bracket (at p e) (at p j) (at p i))
            (bracket (at p k) (at p i) (at p v) *ℤ bracket (at p e) (at p j) (at p j))
            (bracket (at p i) (at p j) (at p v) *ℤ bracket (at p e) (at p j) (at p k))
            (cramer (at p i) (at p j) (at p k) (at p v) (at p e) (at p j))
            (zero-mul_ℤ (bracket (at p k) (at p i) (at p v)) (bracket-last (at p e) (at p j)))
            (product_zero_left (bracket (at p e) (at p j) (at p k)) a)))
            (mul-pos_ℤ b (subst (λ y. pos 0 <ℤ y) (bracket-turn (at p j) (at p i) (at p e)
            ∙ bracket-turn (at p i) (at p e) (at p j)) h)))

        beyond : bracket (at p j) (at p i) (at p v) ≡ pos 0
        beyond = bracket-swap (at p j) (at p i) (at p v) ∙ ap neg_ℤ a

        on_right : (q : ℤ) → pos 0 <ℤ q
            → (q *ℤ bracket (at p i) (at p j) (at p s) +ℤ bracket (at p i) (at p j) (at p t))
            <ℤ pos 0 → Corner i j k
        on_right q h l = go (behind_side i j (k, f))
          where
            go : HasSide faces j i ⊎ Contains outer (j, i) → Corner i j k
            go (inr o) = absurd (m.bare (j, i) o v v_index (within_turned (p i) (p j) (p v) within))
            go (inl (e, g)) =
                let z = beside q h in
                let d = turn_corners j i e g in
                let l' = turn_left_of j i e g in
                named e l'
                (shared_corner v s t j i e own g z.0 z.1.nudged.weight z.1.inside (record {
                  first = subst (λ y. pos 0 <ℤ y) (sym ((z.1.nudged.sides j i r.1 r.0).on beyond))
                      (negated_left (bracket-swap (at p j) (at p i) (moved q (at p s) (at p t))
                      ∙ ap neg_ℤ (bracket-moved (at p i) (at p j) q (at p s) (at p t))) l);
                  second = (z.1.nudged.sides i e r.0 d.2).left (from_i e l');
                  third = (z.1.nudged.sides e j d.2 r.1).left (from_j e l');
                }))
              where
                named : (e : ℕ) → pos 0 <ℤ bracket (at p j) (at p i) (at p e)
                    → (v ≡ j) ⊎ ((v ≡ i) ⊎ (v ≡ e)) → Corner i j k
                named e l' (inl x) = inr (inl x)
                named e l' (inr (inl x)) = inl x
                named e l' (inr (inr x)) = absurd (left_not_zero l'
                    (ap (λ o. bracket (at p j) (at p i) (at p o)) (sym x) ∙ beyond))

        by : (q : ℤ) × (pos 0 <ℤ q)
            × (((q *ℤ bracket (at p i) (at p j) (at p s) +ℤ bracket (at p i) (at p j) (at p t))
            <ℤ pos 0) ⊎ (pos 0
            <ℤ (q *ℤ bracket (at p i) (at p j) (at p s) +ℤ bracket (at p i) (at p j) (at p t))))
            → Corner i j k
        by (q, h, l) = elim l [ inl x ↦ on_right q h x | inr x ↦ on_left q h x ]

    in_closed : (i j k : ℕ) → IsTurnOf faces i j k → pos 0 ≤ℤ bracket (at p i) (at p j) (at p v)
        → pos 0 ≤ℤ bracket (at p j) (at p k) (at p v) → pos 0 ≤ℤ bracket (at p k) (at p i) (at p v)
        → Corner i j k
    in_closed i j k f a b c = go (zero_or_left a) (zero_or_left b) (zero_or_left c)
      where
        g : IsTurnOf faces j k i
        g = turned faces i j k f

        h : IsTurnOf faces k i j
        h = turned faces j k i g

        go : (bracket (at p i) (at p j) (at p v) ≡ pos 0)
            ⊎ (pos 0 <ℤ bracket (at p i) (at p j) (at p v))
            → (bracket (at p j) (at p k) (at p v) ≡ pos 0)
            ⊎ (pos 0 <ℤ bracket (at p j) (at p k) (at p v))
            → (bracket (at p k) (at p i) (at p v) ≡ pos 0)
            ⊎ (pos 0 <ℤ bracket (at p k) (at p i) (at p v)) → Corner i j k
        go (inl x) (inl y) z = inr (inl (at_corner i j k f x y))
        go (inl x) (inr y) (inl z) = inl (at_corner k i j h z x)
        go (inl x) (inr y) (inr z) = on_side i j k f x y z
        go (inr x) (inl y) (inl z) = inr (inr (at_corner j k i g y z))
        go (inr x) (inl y) (inr z) = next_corner (on_side j k i g y z x)
        go (inr x) (inr y) (inl z) = next_corner (next_corner (on_side k i j h z x y))
        go (inr x) (inr y) (inr z) = strictly_inside i j k f x y z

  -- a vertex in a closed face is one of its corners
  pub vertex_in_face : (v i j k : ℕ) → v < n → IsTurnOf faces i j k
      → pos 0 ≤ℤ bracket (at p i) (at p j) (at p v) → pos 0 ≤ℤ bracket (at p j) (at p k) (at p v)
      → pos 0 ≤ℤ bracket (at p k) (at p i) (at p v) → (v ≡ i) ⊎ ((v ≡ j) ⊎ (v ≡ k))
  vertex_in_face v i j k h f a b c = let o = face_at v h in in_closed v o.0 o.1 h o.2 i j k f a b c
