-- A walk from vertex to nearer neighbour.
-- Notions: IsMove; nearer_by_gaps, no_nearer_neighbour, nearer_if_other, none_counted,
-- more_counted, count_stays, room_stays, moves_fit, nearer_falls, counted_after, one_counted,
-- counted_before, room_there, room_at, fewer_moves.
use Rattle.std.proofs.Common.{◌≡◌, ◌⊎◌, ℕ, ◌+◌, ◌<◌, ◌≤◌, List, length}
use Rattle.std.proofs.Common.{sym, subst, ◌∙◌, inl, inr, arith}
use Rattle.std.specs.Prelude.{ℤ, pos, ◌*ℤ◌, ◌<ℤ◌, Bool, true, false, cond, slice_index_or}
use Rattle.std.proofs.Math.Nat.{lt_of_lt_of_le}
use Rattle.std.proofs.lemmas.Int.{ints}
use Rattle.std.proofs.lemmas.List.{get_or_default}
use Rattle.std.proofs.lemmas.List.Sums.{count_by-le-length}
use Rattle.plane.specs.{Fraction, gap, IsNearer, place, Point, Triangulation, vertex, whole}
use Rattle.plane.proofs.{less_with_ones, less_without_ones, test_false}
use Rattle.half_edge_links.specs.{AreSoundLinks, Mesh, origin}
use Rattle.plane_theorems.specs.{Delaunay.Nearer.is_nearer, nearer_count}
use Rattle.plane_theorems.proofs.Delaunay.Circles.NearerCount.{nearer_count_falls}
use Rattle.plane_theorems.proofs.Delaunay.Points.Members.{member, sum_by-lt}
use Rattle.{delaunay_legalization.proofs.joins_edge, delaunay_location.specs.EndsNoNearer}
use Rattle.delaunay_location.specs.Candidate.{HasNoNearerNeighbor, IsMoveCount}

-- which of two points is nearer, by their squared distances
pub nearer_by_gaps : (p a b : Point) → gap (whole p) (whole a) <ℤ gap (whole p) (whole b) →
    IsNearer (whole p) (whole a) (whole b)
nearer_by_gaps p a b h =
    record { nearer = less_with_ones (gap (whole p) (whole a)) (gap (whole p) (whole b)) h }

-- no neighbour is nearer where no edge of the vertex ends nearer
pub no_nearer_neighbour : (points : List Point) (m : Mesh) (p : Point) (v : ℕ) → AreSoundLinks m
    → ((h : ℕ) → h < length m.half_edges → origin m h ≡ v → EndsNoNearer points m p h)
    → HasNoNearerNeighbor points m p v
no_nearer_neighbour points m p v sound none k edge near =
    let h = joins_edge m sound v k edge in
    let less = less_without_ones (gap (whole p) (place points k))
    (gap (whole p) (place points v)) near.nearer in
    let from_here = subst (λ x. gap (whole p) (place points k) <ℤ gap (whole p) (place points x))
    (sym h.2) less in
    none h.0 h.1 h.2
    (subst (λ x. gap (whole p) (place points x) <ℤ gap (whole p) (place points (origin m h.0)))
    (sym h.3) from_here)

-- a vertex that is another one or nearer is nearer where its index is not that one's
pub nearer_if_other : (points : List Point) (p : Point) (k w v i j : ℕ)
    → (k ≡ w) ⊎ IsNearer (whole p) (place points k) (place points w) → w ≡ v → i ≡ k → j ≡ w
    → ¬ (i ≡ j) → IsNearer (whole p) (place points k) (place points v)
nearer_if_other points p k w v i j (inl same) is first second other =
    absurd (other (first ∙ same ∙ sym second))
nearer_if_other points p k w v i j (inr near) is first second other =
    subst (λ x. IsNearer (whole p) (place points k) (place points x)) is near

at_most_one : (b : Bool) → cond b 1 0 ≤ 1
at_most_one true = omega arith
at_most_one false = omega arith

none_if : (b : Bool) → b ≡ false → cond b 1 0 < 1
none_if b e = subst (λ (x : Bool). cond x 1 0 < 1) (sym e) (omega arith)

-- the vertices that are nearer than a vertex are fewer than all
nearer_count_below : (t : Triangulation) (p : Fraction) (i : ℕ) → i < length t.points
    → nearer_count t p i < length t.points
nearer_count_below t p i within = lt_of_lt_of_le
    (sum_by-lt (λ q. cond (is_nearer p (whole q) (vertex t i)) 1 0) (λ _. 1) spot
    t.points (λ q. at_most_one (is_nearer p (whole q) (vertex t i)))
    (member spot t.points (i, within, get_or_default t.points i spot origin within)) not_itself)
    (count_by-le-length (λ _. true) t.points)
  where
    origin : Point
    origin = record { x = pos 0; y = pos 0 }

    spot : Point
    spot = slice_index_or t.points i (record { x = pos 0; y = pos 0 })

    far : ℤ
    far = gap p (vertex t i) *ℤ (pos 1 *ℤ pos 1)

    not_itself : cond (is_nearer p (whole spot) (vertex t i)) 1 0 < 1
    not_itself = none_if (is_nearer p (whole spot) (vertex t i))
        (test_false far far (omega (arith, ints)))

-- a sum that does not grow in two steps does not grow in both together
more : (was now later k w v : ℕ) → later + k ≤ now + w → now + w ≤ was + v → later + k ≤ was + v
more was now later k w v a b = omega (arith, a, b)

no_more : (was now w v : ℕ) → was ≤ now → now + w ≤ was + v → w ≤ v
no_more was now w v a b = omega (arith, a, b)

one_more : (was now x k v : ℕ) → now + x ≤ was + k → k < v → now + 1 + x ≤ was + v
one_more was now x k v a b = omega (arith, a, b)

fewer_fit : (was k n limit : ℕ) → k < n → was + n ≤ limit → was + k < limit
fewer_fit was k n limit a b = omega (arith, a, b)

fewer_than : (was now w k n : ℕ) → now + w ≤ was + k → k < n → now < was + n
fewer_than was now w k n a b = omega (arith, a, b)

less_by_some : (a b c n : ℕ) → a + b < n → c ≤ a + b → c < n
less_by_some a b c n h l = omega (arith, h, l)

less_without : (a b n : ℕ) → a + b < n → a < n
less_without a b n h = omega (arith, h)

module _ (t : Triangulation) (p : Point) where
  -- to go from vertex v to vertex k, which is nearer, is a move
  pub record IsMove (v k : ℕ) : Type 0 where
    pub here : v < length t.points
    pub there : k < length t.points
    pub nearer : IsNearer (whole p) (vertex t k) (vertex t v)

module _ {t : Triangulation} {p : Point} where
  -- where there is no move the count stays
  pub none_counted : {v was : ℕ} → IsMoveCount t p v v was was
  none_counted = record { grown = omega arith; fewer = omega arith }

  module _ {v w was now : ℕ} (c : IsMoveCount t p v w was now) where
    -- moves that follow others are counted with them
    pub more_counted : {k later : ℕ} → IsMoveCount t p w k now later → IsMoveCount t p v k was later
    more_counted {k = k} {later = later} d = record {
      grown = (let a = c.grown in let b = d.grown in omega (arith, a, b));
      fewer = more was now later (nearer_count t (whole p) k) (nearer_count t (whole p) w)
          (nearer_count t (whole p) v) d.fewer c.fewer;
    }

    -- no more vertices are nearer than where the moves lead
    pub count_stays : nearer_count t (whole p) w ≤ nearer_count t (whole p) v
    count_stays = no_more was now (nearer_count t (whole p) w) (nearer_count t (whole p) v)
        c.grown c.fewer

    -- there is room for further moves
    pub room_stays : (n : ℕ) → was + nearer_count t (whole p) v < n
        → now + nearer_count t (whole p) w < n
    room_stays n h = less_by_some was (nearer_count t (whole p) v)
        (now + nearer_count t (whole p) w) n h c.fewer

    -- the count has room for the moves
    pub moves_fit : (n : ℕ) → was + nearer_count t (whole p) v < n → now < n
    moves_fit n h = less_without now (nearer_count t (whole p) w) n (room_stays n h)

  module _ {v k : ℕ} (move : IsMove t p v k) where
    -- a move leads to where fewer vertices are nearer
    pub nearer_falls : nearer_count t (whole p) k < nearer_count t (whole p) v
    nearer_falls = (nearer_count_falls t (whole p) v k move.here move.there move.nearer).0

    -- moves after it are counted with it
    pub counted_after : {w was now : ℕ} → IsMoveCount t p k w was now
        → IsMoveCount t p v w was (now + 1)
    counted_after {w = w} {was = was} {now = now} c = record {
      grown = (let a = c.grown in omega (arith, a));
      fewer = one_more was now (nearer_count t (whole p) w) (nearer_count t (whole p) k)
          (nearer_count t (whole p) v) c.fewer nearer_falls;
    }

    -- it is one more move
    pub one_counted : {was : ℕ} → IsMoveCount t p v k was (was + 1)
    one_counted = counted_after none_counted

    -- moves before it are counted with it
    pub counted_before : {u was now : ℕ} → IsMoveCount t p u v was now
        → IsMoveCount t p u k was (now + 1)
    counted_before c = more_counted c one_counted

    -- the count has room for the moves from where it leads
    pub room_there : (was n : ℕ) → was + nearer_count t (whole p) v < n
        → was + nearer_count t (whole p) k < n
    room_there was n h = less_by_some was (nearer_count t (whole p) v)
        (was + nearer_count t (whole p) k) n h (let f = nearer_falls in omega (arith, f))

module _ (t : Triangulation) (p : Point) {v n : ℕ} (count : length t.points ≡ n)
    (within : v < n) where
  -- fewer than all vertices are nearer than v
  few : nearer_count t (whole p) v < n
  few = subst (λ (l : ℕ). nearer_count t (whole p) v < l) count
      (nearer_count_below t (whole p) v (subst (λ (l : ℕ). v < l) (sym count) within))

  -- where the count has room for all vertices it has room for those that are nearer
  pub room_at : (was limit : ℕ) → was + n ≤ limit → was + nearer_count t (whole p) v < limit
  room_at was limit fits =
      fewer_fit was (nearer_count t (whole p) v) n limit few fits

  -- the moves are fewer than the vertices
  pub fewer_moves : {w was now : ℕ} → IsMoveCount t p v w was now
      → (was ≤ now) × (now < was + n)
  fewer_moves {w = w} {was = was} {now = now} c = (
    c.grown,
    fewer_than was now (nearer_count t (whole p) w)
        (nearer_count t (whole p) v) n c.fewer few,
  )
