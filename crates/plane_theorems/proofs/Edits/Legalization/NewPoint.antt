-- A point put into a mesh whose circles are empty leaves the circles round it empty.
-- Notions: IsNotRight, IsCircleOf; none_in_empty, put_in_is_empty.
use Rattle.std.proofs.Common.{◌≡◌, ◌⊎◌, ◌<◌, [], ◌∷◌, ◌++◌, ◌∙◌, ℕ, List, length, sym, ap, subst}
use Rattle.std.proofs.Common.{arith}
use mathlib.Core.Logic.{inl, inr, ◌≢◌}
use Rattle.std.specs.Prelude.{ℤ, pos, ◌+ℤ◌, ◌-ℤ◌, ◌*ℤ◌, ◌≤ℤ◌, ◌<ℤ◌, Contains}
use Rattle.std.proofs.lemmas.Int.{ints}
use Rattle.plane.specs.{Face, face, Fraction, InsideCircle, InTriangle, on, place, Point, side}
use Rattle.plane.specs.{squared_vector, turn_at, TurnsLeft, whole}
use Rattle.plane.proofs.{◌⊖◌, ◌⊗◌, below_or_last, bracket, bracket-affine, bracket-sum}
use Rattle.plane.proofs.{bracket-turn, circle_turned, if_left, if_on, inside_is_determinant, lift}
use Rattle.plane.proofs.{mul-nonneg_ℤ, num, ring_in, squares_vanish, zero_is_not_above}
use Rattle.{plane.proofs.Steps.one_number, plane.proofs.zero_or_left}
use Rattle.plane_theorems.specs.{IsEmptyRound, IsFaceOf, IsMesh, LocalMesh}
use Rattle.plane_theorems.proofs.{Edits.Legalization.EmptyRound.deeper, Tiling.Totals.Contains-none}
use Rattle.plane_theorems.proofs.Edits.Legalization.Flipping.{third_unique}
use Rattle.plane_theorems.proofs.{Edits.Legalization.Legal.squared_way_nonneg, Tiling.Flows.turned}
use Rattle.plane_theorems.proofs.Edits.LocalMesh.Kept.{index_of, turning_of}
use Rattle.plane_theorems.proofs.Tiling.Appended.{kept_point, last_point, length_appended}
use Rattle.plane_theorems.proofs.Tiling.Tiles.{by_signs, in_signs, point_at}

-- ---- a closed triangle and its circle
-- different points are some way apart
pub way_positive : (q p : Point) → ¬ (q ≡ p) → pos 0 <ℤ squared_vector q p
way_positive q p apart = elim (zero_or_left (squared_way_nonneg q p)) [
  | inl e ↦ (let b = squares_vanish _ _ e in
      absurd (apart (λ i. record { x = one_number q.x p.x b.0 i; y = one_number q.y p.y b.1 i })))
  | inr h ↦ h
]

-- a positive factor does not lower a number that is not negative
not_lowered : (x k : ℤ) → pos 0 <ℤ x → pos 0 ≤ℤ k → k ≤ℤ (x *ℤ k)
not_lowered x k h l = let d : pos 0 ≤ℤ (x -ℤ pos 1) = omega (arith, ints) in
    omega (arith, ints, mul-nonneg_ℤ d l, parted)
  where
    parted : (x -ℤ pos 1) *ℤ k ≡ x *ℤ k -ℤ k
    parted = ring_in (x ∷ k ∷ []) (λ x k. (x ⊖ num 1) ⊗ k) (λ x k. x ⊗ k ⊖ k) tt

-- three numbers that are not negative, with a positive sum, have one under positive factors too
weighted_positive : (x y z k l m : ℤ) → pos 0 <ℤ x → pos 0 <ℤ y → pos 0 <ℤ z → pos 0 ≤ℤ k
    → pos 0 ≤ℤ l → pos 0 ≤ℤ m → pos 0 <ℤ (k +ℤ l +ℤ m) → pos 0 <ℤ (x *ℤ k +ℤ y *ℤ l +ℤ z *ℤ m)
weighted_positive x y z k l m hx hy hz hk hl hm some = omega
    (arith, ints, not_lowered x k hx hk, not_lowered y l hy hl, not_lowered z m hz hm)

-- q is not on the right of the line from u to v
abbrev IsNotRight : Point → Point → Point → Type 0
IsNotRight u v q = pos 0 ≤ℤ bracket (lift u) (lift v) (lift q)

-- a point of a closed triangle that is none of its corners is strictly inside its circle
corner_or_inside_circle : (a b c q : Point) → TurnsLeft (whole a) (whole b) (whole c)
    → InTriangle (whole a) (whole b) (whole c) (whole q) → ¬ (q ≡ a) → ¬ (q ≡ b) → ¬ (q ≡ c)
    → InsideCircle (whole a) (whole b) (whole c) (whole q)
corner_or_inside_circle a b c q turns within no_a no_b no_c =
    (inside_is_determinant a b c q turns).1 (weighted_positive _ _ _ _ _ _ (way_positive q a no_a)
    (way_positive q b no_b) (way_positive q c no_c) (not_negative b c signs.1)
    (not_negative c a signs.2) (not_negative a b signs.0) whole_positive)
  where
    signs : IsNotRight a b q × IsNotRight b c q × IsNotRight c a q
    signs = in_signs _ _ _ _ turns within

    at_point : (u v : Point) → bracket (lift u) (lift v) (lift q) ≡ turn_at q u v
    at_point u v = sym (bracket-turn _ _ _) ∙ bracket-affine q u v

    not_negative : (u v : Point) → IsNotRight u v q → pos 0 ≤ℤ turn_at q u v
    not_negative u v h = rw (at_point u v) at h

    whole_positive : pos 0 <ℤ (turn_at q b c +ℤ turn_at q c a +ℤ turn_at q a b)
    whole_positive = subst (λ z. pos 0 <ℤ z) (bracket-sum a b c q ∙
        (λ i. at_point b c i +ℤ at_point c a i +ℤ at_point a b i)) (if_left _ _ _ turns)

-- ---- the circles round the point
-- no face is in the empty list
pub none_in_empty : (i j k : ℕ) → ¬ IsFaceOf [] i j k
none_in_empty i j k (inl c) = Contains-none (face i j k) c
none_in_empty i j k (inr (inl c)) = Contains-none (face j k i) c
none_in_empty i j k (inr (inr c)) = Contains-none (face k i j) c

-- a mesh with a face is in the plane
local_of_face : (points : List Point) (faces : List Face) (outer : List (ℕ × ℕ))
    → IsMesh points faces outer → (i j k : ℕ) → IsFaceOf faces i j k → LocalMesh points faces outer
local_of_face points faces outer (inl m) i j k f = m
local_of_face points faces outer (inr m) i j k f = absurd (none_in_empty i j k (rw m.0 at f))

-- the two ends of an outer edge are indexes, and no point is strictly on its left
outer_has_none_left : (points : List Point) (faces : List Face) (outer : List (ℕ × ℕ))
    → IsMesh points faces outer → (j k : ℕ) → Contains outer (j, k)
    → (j < length points) × (k < length points)
    × ((n : ℕ) → n < length points → ¬ TurnsLeft (place points j) (place points k) (place points n))
outer_has_none_left points faces outer (inl m) j k c =
    let e = m.ends (j, k) c in (e.0, e.1, m.supporting (j, k) c)
outer_has_none_left points faces outer (inr m) j k c =
    let e = (m.1.neighbours j k).0 c in
    (e.first, e.second, λ n h. straight n (m.1.straight j k n e.first e.second h))
  where
    straight : (n : ℕ) → side (place points j) (place points k) (place points n) ≡ on
        → ¬ TurnsLeft (place points j) (place points k) (place points n)
    straight n flat left = zero_is_not_above _ (if_on _ _ _ flat) (if_left _ _ _ left)

module _ (points : List Point) (q : Point) (old new : List Face) (outer now : List (ℕ × ℕ))
    (m : IsMesh points old outer) (after : IsMesh (points ++ q ∷ []) new now)
    (only : (i j k : ℕ) → IsFaceOf new i j k → IsFaceOf old i j k ⊎
    ((i ≡ length points) ⊎ ((j ≡ length points) ⊎ (k ≡ length points))))
    (across : (j k : ℕ) → IsFaceOf new (length points) j k → ((o : ℕ) × IsFaceOf old j k o) ⊎
    Contains outer (j, k)) (stays_or_contains : (i j k : ℕ) → IsFaceOf old i j k → IsFaceOf new i j
    k ⊎ InTriangle (place points i) (place points j) (place points k) (whole q))
    (empty : (i j k n : ℕ) → IsFaceOf old i j k → n < length points → ¬ InsideCircle
    (place points i) (place points j) (place points k) (place points n)) where
  abbrev all : List Point
  all = points ++ q ∷ []

  abbrev v : ℕ
  v = length points

  -- an old vertex is where it was
  kept : (k : ℕ) → k < v → place all k ≡ place points k
  kept k h = ap whole (sym (kept_point _ q k h))

  -- the new vertex is at q
  last : place all v ≡ whole q
  last = ap whole (last_point points q)

  below : (n : ℕ) → n < length all → n ≢ v → n < v
  below n h d = elim (below_or_last v n (omega (arith, length_appended points q)))
      [ inl l ↦ l | inr e ↦ absurd (d e) ]

  within_all : (n : ℕ) → n < v → n < length all
  within_all n h = omega (arith, length_appended points q)

  last_within : v < length all
  last_within = omega (arith, length_appended points q)

  -- the same facts of four and of three places taken together, to read them with equal places
  abbrev IsCircleOf : Fraction × Fraction × Fraction × Fraction → Type 0
  IsCircleOf x = InsideCircle x.0 x.1 x.2 x.3

  abbrev AreLeft : Fraction × Fraction × Fraction → Type 0
  AreLeft x = TurnsLeft x.0 x.1 x.2

  -- the faces away from the point are old ones
  away : (i j k n : ℕ) → IsFaceOf new i j k → i ≢ v → j ≢ v → k ≢ v → n < length all → n ≢ v
      → ¬ InsideCircle (place all i) (place all j) (place all k) (place all n)
  away i j k n f di dj dk h dn inside = go (only i j k f)
    where
      go : IsFaceOf old i j k ⊎ ((i ≡ v) ⊎ ((j ≡ v) ⊎ (k ≡ v))) → ⊥
      go (inl g) =
          let c = index_of _ old _ (local_of_face _ old _ m i j k g) i j k g in
          let l = below n h dn in
          empty i j k n g l (subst IsCircleOf
          (λ o. (kept i c.0 o, kept j c.1 o, kept k c.2 o, kept n l o)) inside)
      go (inr (inl e)) = di e
      go (inr (inr (inl e))) = dj e
      go (inr (inr (inr e))) = dk e

  module _ (j k n : ℕ) (f : IsFaceOf new v j k) (h : n < v)
      (left : TurnsLeft (place all j) (place all k) (place all n))
      (inside : InsideCircle (place all v) (place all j) (place all k) (place all n)) where
    left_of_old : j < v → k < v → TurnsLeft (place points j) (place points k) (place points n)
    left_of_old hj hk = subst AreLeft (λ o. (kept j hj o, kept k hk o, kept n h o)) left

    -- the new mesh is local, as it has a face
    mesh : LocalMesh all new now
    mesh = local_of_face all new _ after v j k f

    -- the point is none of the old ones
    fresh : (i : ℕ) → i < v → ¬ (q ≡ point_at points i)
    fresh i hi e = mesh.distinct v i last_within (within_all i hi) (differ v hi)
        (last ∙ ap whole e ∙ sym (kept i hi))
      where
        differ : (v : ℕ) → i < v → v ≡ i → ⊥
        differ v l d = omega arith

    module _ (o : ℕ) (g : IsFaceOf old j k o) where
      -- the old mesh was local, as it had one
      was : LocalMesh points old outer
      was = local_of_face _ old _ m j k o g

      corners : (j < v) × (k < v) × (o < v)
      corners = index_of _ old _ was j k o g

      turning : TurnsLeft (place points j) (place points k) (place points o)
      turning = turning_of _ old _ was j k o g

      moved : TurnsLeft (place points j) (place points k) (whole q)
      moved = subst AreLeft (λ i. (kept j corners.0 i, kept k corners.1 i, last i))
          (turning_of all new _ mesh j k v (turned new v j k f))

      -- old vertex n is inside the circle of j, k and q
      deep : InsideCircle (place points j) (place points k) (whole q) (place points n)
      deep = subst IsCircleOf (λ i. (kept j corners.0 i, kept k corners.1 i, last i, kept n h i))
          (circle_turned _ _ _ _ inside)

      stays : ¬ IsFaceOf new j k o
      stays g' =
          let signs = by_signs all new _ mesh in
          clash v (third_unique _ _ new _ signs j k o v g'
          (turned new v j k f)) corners.2
        where
          clash : (v : ℕ) → o ≡ v → o < v → ⊥
          clash v e l = omega arith

      contained : ¬ InTriangle (place points j) (place points k) (place points o) (whole q)
      contained t =
          let a = point_at points j in
          let b = point_at points k in
          let c = point_at points o in
          let on_no_corner = corner_or_inside_circle a b c q turning t in
          let shallow = on_no_corner (fresh j corners.0) (fresh k corners.1) (fresh o corners.2) in
          empty j k o n g h
          (deeper a b c q _ turning moved
          (left_of_old corners.0 corners.1) shallow deep)

    none_beyond : ⊥
    none_beyond = elim (across j k f) [
      | inl x ↦ of_old x.0 x.1 (stays_or_contains j k x.0 x.1)
      | inr c ↦ (let e = outer_has_none_left _ old _ m j k c in e.2 n h (left_of_old e.0 e.1))
    ]
      where
        of_old : (o : ℕ) (g : IsFaceOf old j k o) → IsFaceOf new j k o
            ⊎ InTriangle (place points j) (place points k) (place points o) (whole q) → ⊥
        of_old o g (inl y) = stays o g y
        of_old o g (inr y) = contained o g y

  round_is_empty : IsEmptyRound all new v
  round_is_empty = record {
    beside = away;
    beyond = λ j k n f h d left inside. none_beyond j k n f (below n h d) left inside;
  }

-- where a point is put into faces that contain it, or beyond outer edges, of a mesh whose circles
-- are empty, the circles round it are empty
pub put_in_is_empty : (points : List Point) (q : Point) (old new : List Face)
    (outer now : List (ℕ × ℕ)) → IsMesh points old outer → IsMesh (points ++ q ∷ []) new now →
    ((i j k : ℕ) → IsFaceOf new i j k → IsFaceOf old i j k ⊎
    ((i ≡ length points) ⊎ ((j ≡ length points) ⊎ (k ≡ length points)))) →
    ((j k : ℕ) → IsFaceOf new (length points) j k → ((o : ℕ) × IsFaceOf old j k o) ⊎ Contains outer
    (j, k)) → ((i j k : ℕ) → IsFaceOf old i j k → IsFaceOf new i j k ⊎ InTriangle (place points i)
    (place points j) (place points k) (whole q)) → ((i j k n : ℕ) → IsFaceOf old i j k
    → n < length points → ¬ InsideCircle (place points i) (place points j) (place points k)
    (place points n)) → IsEmptyRound (points ++ q ∷ []) new (length points)
put_in_is_empty points q old new outer now m after only across stays_or_contains empty =
    round_is_empty _ q old new _ now m after only across stays_or_contains empty
