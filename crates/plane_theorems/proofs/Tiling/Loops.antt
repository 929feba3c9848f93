-- In a local mesh each way from an index to another is at most once a side or an outer edge. So a
-- mesh whose directed edges are these has the sides of faces as edges, each once.
-- Notions: IsFaceOn; sum_of_bits, edge_of_side, edge_of_outer, way_of_edge, edges_once,
-- listed_once, beside, inside_face_on, turn_on, outer_is_no_side, way_once, edges_are_sides,
-- mesh_tiles.
use Rattle.std.proofs.Common.{◌≡◌, ◌⊎◌, ◌↔◌, ℕ, ◌<◌, List, length, get_or, sym, ◌∙◌, subst, arith}
use mathlib.Core.Logic.{inl, inr, ◌≢◌}
use Rattle.std.specs.Prelude.{ℤ, pos, ◌+ℤ◌, ◌*ℤ◌, ◌≤ℤ◌, ◌<ℤ◌, Contains, AllPairs}
use Rattle.std.proofs.lemmas.Int.{ints}
use lib.IntN.{+ℤ_comm}
use Rattle.plane.specs.{EachPairOnce, Face, face, IsSamePair, Joins, Point, TilesHull}
use Rattle.plane.proofs.{bracket, bracket-last, bracket-moved, bracket-outer, bracket-turn}
use Rattle.plane.proofs.{drop_zero, drop_zero_last, Inside, IsNudged, left_not_below, lt_or_ge_ℤ}
use Rattle.plane.proofs.{moved, near, one_is_above_zero, sum_not_negative, sum_of_zeros, Vec3}
use Rattle.{plane.proofs.zero-mul_ℤ, plane_theorems.proofs.Tiling.Flows.side_found}
use Rattle.plane_theorems.specs.{along, AreEdgesOf, around, LocalMesh, total}
use Rattle.plane_theorems.proofs.Tiling.Counting.{at, corners_differ, SignMesh}
use Rattle.plane_theorems.proofs.Tiling.Flows.{around_nonneg, back_from_count, HasSide, is_pair}
use Rattle.plane_theorems.proofs.Tiling.Flows.{is_pair_is, is_pair_nonneg, is_pair_own, IsTurnOf}
use Rattle.plane_theorems.proofs.Tiling.Flows.{one_of_three, outer_counts, pair_found, side_counts}
use Rattle.plane_theorems.proofs.Tiling.Tiles.{by_signs, point_at, tiles}
use Rattle.plane_theorems.proofs.Tiling.Totals.{get_or_any, total_at_least, total_at_most_one}
use Rattle.plane_theorems.proofs.Tiling.Totals.{total_nonneg, total_of_two, total_positive}
use Rattle.plane_theorems.proofs.Tiling.Covering as C

-- a sum of three bits, of which no two are above 0, is 0 or 1
pub sum_of_bits : (a b c : ℤ) → (a ≡ pos 0) ⊎ (a ≡ pos 1) → (b ≡ pos 0) ⊎ (b ≡ pos 1)
    → (c ≡ pos 0) ⊎ (c ≡ pos 1) → (pos 0 <ℤ a → pos 0 <ℤ b → ⊥) → (pos 0 <ℤ a → pos 0 <ℤ c → ⊥)
    → (pos 0 <ℤ b → pos 0 <ℤ c → ⊥) → (a +ℤ b +ℤ c ≡ pos 0) ⊎ (a +ℤ b +ℤ c ≡ pos 1)
sum_of_bits a b c (inl x) (inl y) (inl z) n l m = inl (omega (arith, ints))
sum_of_bits a b c (inr x) (inl y) (inl z) n l m = inr (by x y z)
  where
    by : a ≡ pos 1 → b ≡ pos 0 → c ≡ pos 0 → a +ℤ b +ℤ c ≡ pos 1
    by x y z = omega (arith, ints)
sum_of_bits a b c (inl x) (inr y) (inl z) n l m = inr (by x y z)
  where
    by : a ≡ pos 0 → b ≡ pos 1 → c ≡ pos 0 → a +ℤ b +ℤ c ≡ pos 1
    by x y z = omega (arith, ints)
sum_of_bits a b c (inl x) (inl y) (inr z) n l m = inr (by x y z)
  where
    by : a ≡ pos 0 → b ≡ pos 0 → c ≡ pos 1 → a +ℤ b +ℤ c ≡ pos 1
    by x y z = omega (arith, ints)
sum_of_bits a b c (inr x) (inr y) z n l m = absurd (n (one_is_above_zero x) (one_is_above_zero y))
sum_of_bits a b c (inr x) (inl y) (inr z) n l m =
    absurd (l (one_is_above_zero x) (one_is_above_zero z))
sum_of_bits a b c (inl x) (inr y) (inr z) n l m =
    absurd (m (one_is_above_zero y) (one_is_above_zero z))

-- f has the side from u to v, and c as its third corner
abbrev pub IsFaceOn : ℕ → ℕ → ℕ → Face → Type 0
IsFaceOn u v c f = (f ≡ face u v c) ⊎ ((f ≡ face c u v) ⊎ (f ≡ face v c u))

face_on : (u v : ℕ) (f : Face) → pos 0 <ℤ around (is_pair u v) f → (c : ℕ) × IsFaceOn u v c f
face_on u v f h =
    go (one_of_three (is_pair u v f.a f.b) (is_pair u v f.b f.c) (is_pair u v f.c f.a) h)
  where
    go : (pos 0 <ℤ is_pair u v f.a f.b)
        ⊎ ((pos 0 <ℤ is_pair u v f.b f.c) ⊎ (pos 0 <ℤ is_pair u v f.c f.a))
        → (c : ℕ) × IsFaceOn u v c f
    go (inl k) = let e = pair_found u v f.a f.b k in (f.c, inl (λ i. face (e.0 i) (e.1 i) f.c))
    go (inr (inl k)) = let e = pair_found u v f.b f.c k in
        (f.a, inr (inl (λ i. face f.a (e.0 i) (e.1 i))))
    go (inr (inr k)) = let e = pair_found u v f.c f.a k in
        (f.b, inr (inr (λ i. face (e.1 i) f.b (e.0 i))))

sums_at_most : (a b : ℤ) → a ≤ℤ pos 1 → b ≤ℤ pos 0 → (a +ℤ b) ≤ℤ pos 1
sums_at_most a b h k = omega (arith, ints)

sums_at_most' : (a b : ℤ) → a ≤ℤ pos 0 → b ≤ℤ pos 1 → (a +ℤ b) ≤ℤ pos 1
sums_at_most' a b h k = omega (arith, ints)

first_at_least : (a b : ℤ) → a ≡ pos 1 → pos 0 ≤ℤ b → pos 1 ≤ℤ (a +ℤ b)
first_at_least a b h k = omega (arith, ints)

second_at_least : (a b : ℤ) → b ≡ pos 1 → pos 0 ≤ℤ a → pos 1 ≤ℤ (a +ℤ b)
second_at_least a b h k = omega (arith, ints)

one_of_two : (a b : ℤ) → pos 0 <ℤ (a +ℤ b) → (pos 0 <ℤ a) ⊎ (pos 0 <ℤ b)
one_of_two a b h = go (lt_or_ge_ℤ (pos 0) a)
  where
    go : (pos 0 <ℤ a) ⊎ (a ≤ℤ pos 0) → (pos 0 <ℤ a) ⊎ (pos 0 <ℤ b)
    go (inl k) = inl k
    go (inr k) = inr (omega (arith, ints))

at_least_then : (a b c : ℤ) → pos 1 ≤ℤ a → a ≤ℤ b → b ≡ c → pos 0 <ℤ c
at_least_then a b c h k e = omega (arith, ints)

plus_then : (a b c : ℤ) → pos 1 ≤ℤ a → pos 0 ≤ℤ b → c ≡ a +ℤ b → pos 0 <ℤ c
plus_then a b c h k e = omega (arith, ints)

too_many : (a b : ℤ) → a ≡ b → pos 2 ≤ℤ a → b ≤ℤ pos 1 → ⊥
too_many a b e h k = omega (arith, ints)

-- how many of the ways of an edge go from u to v
abbrev ways : ℕ → ℕ → ℕ × ℕ → ℤ
ways u v e = is_pair u v e.0 e.1 +ℤ is_pair u v e.1 e.0

ways_nonneg : (u v : ℕ) (e : ℕ × ℕ) → pos 0 ≤ℤ ways u v e
ways_nonneg u v e = sum_not_negative (is_pair u v e.0 e.1) (is_pair u v e.1 e.0)
    (is_pair_nonneg u v e.0 e.1) (is_pair_nonneg u v e.1 e.0)

-- ---- edges whose ways are the sides of faces and the outer edges
module _ (faces : List Face) (outer edges : List (ℕ × ℕ)) (own : AreEdgesOf faces outer edges) where
  sides_nonneg : (u v : ℕ) → pos 0 ≤ℤ total (around (is_pair u v)) faces
  sides_nonneg u v = total_nonneg (around (is_pair u v)) faces (λ f _. around_nonneg u v f)

  outers_nonneg : (u v : ℕ) → pos 0 ≤ℤ total (along (is_pair u v)) outer
  outers_nonneg u v = total_nonneg (along (is_pair u v)) outer (λ e _. is_pair_nonneg u v e.0 e.1)

  edge_of_count : (u v : ℕ) → pos 0 <ℤ total (ways u v) edges → Joins edges u v
  edge_of_count u v h = let r = total_positive (ways u v) edges h in
      go r.0 r.1 (one_of_two (is_pair u v r.0.0 r.0.1) (is_pair u v r.0.1 r.0.0) r.2)
    where
      go : (e : ℕ × ℕ) → Contains edges e
          → (pos 0 <ℤ is_pair u v e.0 e.1) ⊎ (pos 0 <ℤ is_pair u v e.1 e.0) → Joins edges u v
      go e h (inl k) = let t = pair_found u v e.0 e.1 k in
          inl (subst (Contains edges) (λ i. (t.0 i, t.1 i)) h)
      go e h (inr k) = let t = pair_found u v e.1 e.0 k in
          inr (subst (Contains edges) (λ i. (t.1 i, t.0 i)) h)

  -- a side of a face is an edge
  pub edge_of_side : (u v : ℕ) → HasSide faces u v → Joins edges u v
  edge_of_side u v s = edge_of_count u v
      (plus_then (total (around (is_pair u v)) faces) (total (along (is_pair u v)) outer)
      (total (ways u v) edges) (side_counts faces u v s) (outers_nonneg u v) (own (is_pair u v)))

  -- an outer edge is an edge
  pub edge_of_outer : (u v : ℕ) → Contains outer (u, v) → Joins edges u v
  edge_of_outer u v h = edge_of_count u v
      (plus_then (total (along (is_pair u v)) outer) (total (around (is_pair u v)) faces)
      (total (ways u v) edges) (outer_counts outer u v h) (sides_nonneg u v) (own (is_pair u v)
      ∙ +ℤ_comm (total (around (is_pair u v)) faces) (total (along (is_pair u v)) outer)))

  -- an edge is a side of a face or an outer edge
  pub way_of_edge : (u v : ℕ) → Joins edges u v → HasSide faces u v ⊎ Contains outer (u, v)
  way_of_edge u v j = back_from_count faces outer u v
      (one_of_two (total (around (is_pair u v)) faces) (total (along (is_pair u v)) outer) (go j))
    where
      go : Joins edges u v
          → pos 0 <ℤ (total (around (is_pair u v)) faces +ℤ total (along (is_pair u v)) outer)
      go (inl h) = at_least_then (ways u v (u, v)) (total (ways u v) edges)
          (total (around (is_pair u v)) faces +ℤ total (along (is_pair u v)) outer)
          (first_at_least (is_pair u v u v) (is_pair u v v u) (is_pair_own u v)
          (is_pair_nonneg u v v u)) (total_at_least (ways u v) edges (λ e _. ways_nonneg u v e)
          (u, v) h) (own (is_pair u v))
      go (inr h) = at_least_then (ways u v (v, u)) (total (ways u v) edges)
          (total (around (is_pair u v)) faces +ℤ total (along (is_pair u v)) outer)
          (second_at_least (is_pair u v v u) (is_pair u v u v) (is_pair_own u v)
          (is_pair_nonneg u v v u)) (total_at_least (ways u v) edges (λ e _. ways_nonneg u v e)
          (v, u) h) (own (is_pair u v))

  -- where each way is there at most once, so is each edge
  pub edges_once : ((u v : ℕ)
      → (total (around (is_pair u v)) faces +ℤ total (along (is_pair u v)) outer) ≤ℤ pos 1)
      → EachPairOnce edges
  edges_once way_once k l d low high same =
      let e = get_or edges k d in
      let f = get_or edges l d in
      too_many (total (ways e.0 e.1) edges) (total (around (is_pair e.0 e.1)) faces
      +ℤ total (along (is_pair e.0 e.1)) outer) (own (is_pair e.0 e.1))
      (total_of_two (ways e.0 e.1) edges (λ g _. ways_nonneg e.0 e.1 g) k l d low high
      (first_at_least (is_pair e.0 e.1 e.0 e.1) (is_pair e.0 e.1 e.1 e.0) (is_pair_own e.0 e.1)
      (is_pair_nonneg e.0 e.1 e.1 e.0)) (again e f same))
      (way_once e.0 e.1)
    where
      again : (e f : ℕ × ℕ) → IsSamePair e.0 e.1 f.0 f.1 → pos 1 ≤ℤ ways e.0 e.1 f
      again e f (inl s) = first_at_least (is_pair e.0 e.1 f.0 f.1) (is_pair e.0 e.1 f.1 f.0)
          ((λ i. is_pair (s.0 i) (s.1 i) f.0 f.1) ∙ is_pair_own f.0 f.1)
          (is_pair_nonneg e.0 e.1 f.1 f.0)
      again e f (inr s) = second_at_least (is_pair e.0 e.1 f.0 f.1) (is_pair e.0 e.1 f.1 f.0)
          ((λ i. is_pair (s.0 i) (s.1 i) f.1 f.0) ∙ is_pair_own f.1 f.0)
          (is_pair_nonneg e.0 e.1 f.0 f.1)

-- a way that stands once in a list counts once
pub listed_once : (outer : List (ℕ × ℕ)) → AllPairs (λ d e. d ≢ e) outer → (u v : ℕ)
    → total (along (is_pair u v)) outer ≤ℤ pos 1
listed_once outer once u v =
    total_at_most_one (along (is_pair u v)) outer (λ e _. is_pair_is u v e.0 e.1) twice
  where
    twice : (k l : ℕ) (d : ℕ × ℕ) → k < l → l < length outer
        → along (is_pair u v) (get_or outer k d) ≡ pos 1
        → along (is_pair u v) (get_or outer l d) ≡ pos 1 → ⊥
    twice k l d low high e e' =
        let a = pair_found u v (get_or outer k d).0 (get_or outer k d).1 (one_is_above_zero e) in
        let b = pair_found u v (get_or outer l d).0 (get_or outer l d).1 (one_is_above_zero e') in
        once k l d low high (λ i. ((a.0 ∙ sym b.0) i, (a.1 ∙ sym b.1) i))

module _ (n : ℕ) (p : ℕ → Point) (faces : List Face) (outer : List (ℕ × ℕ))
    (m : SignMesh n p faces outer) where
  -- a face on u v, near u v, holds a point near the middle of u v, towards a left point
  pub beside : (u v c : ℕ) → u < n → v < n → c < n → pos 0 <ℤ bracket (at p u) (at p v) (at p c)
      → (d z : Vec3) → pos 0 <ℤ bracket (at p u) (at p v) d
      → IsNudged n p (moved (pos 1) (at p u) (at p v)) d z → Inside (at p u) (at p v) (at p c) z
  beside u v c hu hv hc turns d z left s = record {
    first = subst (λ y. pos 0 <ℤ y) (sym ((s.sides u v hu hv).on (bracket-moved (at p u) (at p v)
        (pos 1) (at p u) (at p v) ∙ sum_of_zeros (pos 1 *ℤ bracket (at p u) (at p v) (at p u))
        (bracket (at p u) (at p v) (at p v)) (zero-mul_ℤ (pos 1) (bracket-outer (at p u) (at p v)))
        (bracket-last (at p u) (at p v))))) left;
    second = (s.sides v c hv hc).left (subst (λ y. pos 0 <ℤ y)
        (sym (drop_zero_last (bracket (at p v) (at p c) (moved (pos 1) (at p u) (at p v))) (pos 1
        *ℤ bracket (at p v) (at p c) (at p u)) (bracket (at p v) (at p c) (at p v)) (bracket-moved
        (at p v) (at p c) (pos 1) (at p u) (at p v)) (bracket-outer (at p v) (at p c))))
        (once (bracket (at p v) (at p c) (at p u))
        (subst (λ y. pos 0 <ℤ y) (bracket-turn (at p u) (at p v) (at p c)) turns)));
    third = (s.sides c u hc hu).left (subst (λ y. pos 0 <ℤ y) (sym
        (drop_zero (bracket (at p c) (at p u) (moved (pos 1) (at p u) (at p v))) (pos 1 *ℤ bracket
        (at p c) (at p u) (at p u)) (bracket (at p c) (at p u) (at p v)) (bracket-moved (at p c)
        (at p u) (pos 1) (at p u) (at p v)) (zero-mul_ℤ (pos 1) (bracket-last (at p c) (at p u)))))
        (subst (λ y. pos 0 <ℤ y) (bracket-turn (at p u) (at p v) (at p c)
        ∙ bracket-turn (at p v) (at p c) (at p u)) turns));
  }
    where
      once : (a : ℤ) → pos 0 <ℤ a → pos 0 <ℤ (pos 1 *ℤ a)
      once a h = omega (arith, ints)

  -- inside of the corners, from whichever side, is inside of the face
  pub inside_face_on : (u v c : ℕ) (f : Face) → IsFaceOn u v c f → (z : Vec3)
      → Inside (at p u) (at p v) (at p c) z → Inside (at p f.a) (at p f.b) (at p f.c) z
  inside_face_on u v c f (inl e) z i =
      subst (λ g. Inside (at p g.a) (at p g.b) (at p g.c) z) (sym e) i
  inside_face_on u v c f (inr (inl e)) z i = subst (λ g. Inside (at p g.a) (at p g.b) (at p g.c) z)
      (sym e) (record { first = i.third; second = i.first; third = i.second })
  inside_face_on u v c f (inr (inr e)) z i = subst (λ g. Inside (at p g.a) (at p g.b) (at p g.c) z)
      (sym e) (record { first = i.second; second = i.third; third = i.first })

  -- from whichever side, the corners are those of a listed face
  pub turn_on : (u v c : ℕ) (f : Face) → IsFaceOn u v c f → Contains faces f → IsTurnOf faces u v c
  turn_on u v c f (inl e) h = inl (subst (Contains faces) e h)
  turn_on u v c f (inr (inl e)) h = inr (inr (subst (Contains faces) e h))
  turn_on u v c f (inr (inr e)) h = inr (inl (subst (Contains faces) e h))

  side_once : (u v : ℕ) → total (around (is_pair u v)) faces ≤ℤ pos 1
  side_once u v = total_at_most_one (around (is_pair u v)) faces bits twice
    where
      bits : (f : Face) → Contains faces f
          → (around (is_pair u v) f ≡ pos 0) ⊎ (around (is_pair u v) f ≡ pos 1)
      bits f h =
          let d = corners_differ p f.a f.b f.c (m.turning f h) in
          sum_of_bits (is_pair u v f.a f.b) (is_pair u v f.b f.c) (is_pair u v f.c f.a)
          (is_pair_is u v f.a f.b) (is_pair_is u v f.b f.c) (is_pair_is u v f.c f.a)
          (λ x y. d.0 ((pair_found u v f.a f.b x).0 ∙ sym (pair_found u v f.b f.c y).0))
          (λ x y. d.2 ((pair_found u v f.c f.a y).0 ∙ sym (pair_found u v f.a f.b x).0))
          (λ x y. d.1 ((pair_found u v f.b f.c x).0 ∙ sym (pair_found u v f.c f.a y).0))

      twice : (k l : ℕ) (d : Face) → k < l → l < length faces
          → around (is_pair u v) (get_or faces k d) ≡ pos 1
          → around (is_pair u v) (get_or faces l d) ≡ pos 1 → ⊥
      twice k l d low high e e' =
          let f = get_or faces k d in
          let g = get_or faces l d in
          let a = face_on u v f (one_is_above_zero e) in
          let b = face_on u v g (one_is_above_zero e') in
          let s = turn_on u v a.0 f a.1 (k, omega arith, get_or_any faces k f d (omega arith)) in
          let t = turn_on u v b.0 g b.1 (l, high, get_or_any faces l g d high) in
          let i = C.turn_corners n p faces outer m u v a.0 s in
          let j = C.turn_corners n p faces outer m u v b.0 t in
          let left = C.turn_left_of n p faces outer m u v a.0 s in
          let z = near n p (moved (pos 1) (at p u) (at p v)) (at p a.0) (record { lt = tt })
          (record { lt = tt }) in
          C.entries_apart n p faces outer m k l d low high z.0 z.1.weight
          (inside_face_on u v a.0 f a.1 z.0
          (beside u v a.0 i.0 i.1 i.2 left (at p a.0) z.0 left z.1))
          (inside_face_on u v b.0 g b.1 z.0 (beside u v b.0 j.0 j.1 j.2
          (C.turn_left_of n p faces outer m u v b.0 t) (at p a.0) z.0 left z.1))

  -- an outer edge is no side
  pub outer_is_no_side : (u v : ℕ) → Contains outer (u, v) → HasSide faces u v → ⊥
  outer_is_no_side u v h s = left_not_below (C.turn_left_of n p faces outer m u v s.0 s.1)
      (m.supporting (u, v) h s.0 (C.turn_corners n p faces outer m u v s.0 s.1).2)

  -- each way is at most once a side or an outer edge
  pub way_once : (u v : ℕ)
      → (total (around (is_pair u v)) faces +ℤ total (along (is_pair u v)) outer) ≤ℤ pos 1
  way_once u v = go (lt_or_ge_ℤ (pos 0) (total (around (is_pair u v)) faces))
      (lt_or_ge_ℤ (pos 0) (total (along (is_pair u v)) outer))
    where
      go : (pos 0 <ℤ total (around (is_pair u v)) faces)
          ⊎ (total (around (is_pair u v)) faces ≤ℤ pos 0)
          → (pos 0 <ℤ total (along (is_pair u v)) outer)
          ⊎ (total (along (is_pair u v)) outer ≤ℤ pos 0)
          → (total (around (is_pair u v)) faces +ℤ total (along (is_pair u v)) outer) ≤ℤ pos 1
      go a (inr b) = sums_at_most (total (around (is_pair u v)) faces)
          (total (along (is_pair u v)) outer) (side_once u v) b
      go (inr a) b = sums_at_most' (total (around (is_pair u v)) faces)
          (total (along (is_pair u v)) outer) a (listed_once outer m.once u v)
      go (inl a) (inl b) =
          let f = total_positive (around (is_pair u v)) faces a in
          let e = total_positive (along (is_pair u v)) outer b in
          let t = pair_found u v e.0.0 e.0.1 e.2 in
          absurd (outer_is_no_side u v (subst (Contains outer) (λ i. (t.0 i, t.1 i)) e.1)
          (side_found faces u v f.0 f.1 f.2))

  -- edges whose ways these are: the sides of faces
  pub edges_are_sides : (edges : List (ℕ × ℕ)) → AreEdgesOf faces outer edges → (u v : ℕ)
      → Joins edges u v ↔ (HasSide faces u v ⊎ HasSide faces v u)
  edges_are_sides edges own u v =
      ((λ j. there (way_of_edge faces outer edges own u v j)), (λ s. back s))
    where
      there : HasSide faces u v ⊎ Contains outer (u, v) → HasSide faces u v ⊎ HasSide faces v u
      there (inl s) = inl s
      there (inr h) = inr (C.behind_outer n p faces outer m u v h)

      back : HasSide faces u v ⊎ HasSide faces v u → Joins edges u v
      back (inl s) = edge_of_side faces outer edges own u v s
      back (inr s) =
          elim (edge_of_side faces outer edges own v u s) [ inl j ↦ inr j | inr j ↦ inl j ]

-- a local mesh with its own edges tiles the hull
pub mesh_tiles : (points : List Point) (faces : List Face) (outer edges : List (ℕ × ℕ))
    → LocalMesh points faces outer → AreEdgesOf faces outer edges
    → TilesHull (record { points = points; faces = faces; edges = edges })
mesh_tiles points faces outer edges m own =
    let s = by_signs points faces outer m in
    tiles points faces outer edges m (edges_once faces outer edges own
    (way_once (length points) (point_at points) faces outer s))
    (edges_are_sides (length points) (point_at points) faces outer s edges own)
