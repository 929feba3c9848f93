-- An inner vertex loses a neighbour by a turn of an edge, until three are left, or four with the
-- vertex between two of them.
-- Lemmas: no_way_back, spokes_inner, plane_star, star_from, has_three, turns, starts_after,
-- within_after, inner_after, star_shrinks, ends_differ, inner_may_turn, none_left.
use Rattle.std.proofs.Common.{◌≡◌, ◌≢◌, ◌+◌, ◌-◌, ◌*◌, ◌/◌, ◌<◌, ◌≤◌, ◌∙◌}
use Rattle.std.proofs.Common.{ℕ, zero, suc, List, length, map, refl, sym, ap, subst, arith}
use Rattle.std.proofs.Common.{inl, inr}
use Rattle.plane.specs.{Fraction, left, opposite, place, Point, right, TurnsLeft}
use Rattle.{plane.proofs.Sides.side_turned, plane_theorems.proofs.turning_of}
use Rattle.half_edge_links.specs.{face, flipped, FlipsTriangles, IsRound, IsValidMesh, KeepsOuter}
use Rattle.half_edge_links.specs.{Mesh, neighbour, origin, rev, spoke, turn}
use Rattle.plane_theorems.specs.{IsStar, IsStarFlip, LocalMesh}
use Rattle.half_edge_dcel.specs.{Contents, IsMeshWithData}
use Rattle.delaunay_legalization.specs.{faces_of, outer_of}
use Rattle.delaunay_legalization.proofs.{MeshStars.inner_star, round_at, round_of, same_start}
use Rattle.delaunay_legalization.proofs.MeshStarFlips.{one_neighbour_less, spoke_flippable}
use Rattle.delaunay_legalization.proofs.MeshStarFlips.{star_flip, star_flip_local, twin_flippable}
use Rattle.{delaunay_legalization.proofs.MeshVertexLeaves.inner_choice, plane.proofs.side_swapped}
use Rattle.delaunay_legalization.proofs.StarTurns.{turns_away, TurnsOff}
use Rattle.delaunay_vertices.specs.{IsConvexAt, IsInnerStar, MayTurnAway}
use Rattle.delaunay_vertices.specs.Star.{HasInnerFaces, IsReduced}

-- a turn to the left goes to the right on the way back
pub no_way_back : (v a b : Fraction) → TurnsLeft v a b → TurnsLeft v b a → ⊥
no_way_back v a b there back = clash (sym back ∙ sym (side_turned v b a) ∙ side_swapped a b v
    ∙ ap opposite (side_turned v a b ∙ there))
  where
    clash : left ≡ right → ⊥
    clash e = cc

-- ---- what the edges of an inner vertex know
module _ {points : List Point} {m : Mesh} (valid : IsValidMesh m) {v first count : ℕ}
    (star : IsInnerStar points m v first count) where
  -- each edge of the vertex has an inner face on its left
  pub spokes_inner : (i : ℕ) → 0 < face m (spoke m first i)
  spokes_inner i = star.inner (spoke m first i) (star.round.within i) (star.round.starts i)

  -- its star is one in the plane
  pub plane_star : IsStar (faces_of m) v count (neighbour m first)
  plane_star = inner_star points m valid star.shape v first count star.round spokes_inner

  -- the same from another of its edges
  pub star_from : (h : ℕ) → h < length m.half_edges → origin m h ≡ v
      → IsInnerStar points m v h count
  star_from h within starts = record {
    shape = star.shape;
    inner = star.inner;
    round = round_of m v first count h star.round within starts;
  }

  -- it has three neighbours or more
  pub has_three : 3 ≤ count
  has_three = at_least count refl
    where
      turns : (i : ℕ) → TurnsLeft (place points v) (place points (neighbour m first i))
          (place points (neighbour m first (suc i)))
      turns i = turning_of points (faces_of m) (outer_of m) star.shape v (neighbour m first i)
          (neighbour m first (suc i)) (plane_star.around i)

      again : (n : ℕ) → count ≡ n → neighbour m first n ≡ neighbour m first 0
      again n is = ap (neighbour m first) (let e : n ≡ 0 + count = omega (arith, is) in e)
          ∙ plane_star.again 0

      closed : (n : ℕ) → count ≡ suc n → TurnsLeft (place points v)
          (place points (neighbour m first n)) (place points (neighbour m first 0))
      closed n is = subst (λ (x : ℕ). TurnsLeft (place points v)
          (place points (neighbour m first n)) (place points x)) (again (suc n) is) (turns n)

      at_least : (n : ℕ) → count ≡ n → 3 ≤ count
      at_least zero is = absurd (let s = star.round.some in omega (arith, s, is))
      at_least (suc zero) is =
          absurd (no_way_back (place points v) (place points (neighbour m first 0))
          (place points (neighbour m first 0)) (closed 0 is) (closed 0 is))
      at_least (suc (suc zero)) is =
          absurd (no_way_back (place points v) (place points (neighbour m first 0))
          (place points (neighbour m first 1)) (turns 0) (closed 1 is))
      at_least (suc (suc (suc n))) is = omega (arith, is)

-- ---- a turn of the edge after h
module _ {points : List Point} {m new : Mesh} (valid : IsValidMesh m) {v h count : ℕ}
    (star : IsInnerStar points m v h count) (many : 3 < count)
    (turned : new ≡ flipped m (2 * (turn m h / 2))) where
  spoke_in : (i : ℕ) → 0 < face m (spoke m h i)
  spoke_in = spokes_inner valid star

  -- the flip turns the edge after h away from the vertex
  pub turns : TurnsOff m new (turn m h)
  turns = turns_away m new (turn m h) valid.sound
      (spoke_flippable points m valid star.shape v h count star.round 0 (spoke_in 0) (spoke_in 1))
      (twin_flippable points m valid star.shape v h count star.round 0 (spoke_in 0) (spoke_in 1))
      turned

  -- leaves h one of the vertex's edges
  pub starts_after : origin new h ≡ v
  starts_after = same_start m new valid v h count star.round (omega (arith, many)) (spoke_in 0)
      (spoke_in 1) turns

  -- h is one of the edges afterwards
  pub within_after : h < length new.half_edges
  within_after = subst (λ n. h < n) (sym turns.edge_count) (star.round.within 0)

  module _ (outer : KeepsOuter m new) where
    -- and the vertex inside the hull
    pub inner_after : HasInnerFaces new v
    inner_after g within starts = go (face new g) refl
      where
        go : (x : ℕ) → face new g ≡ x → 0 < face new g
        go (suc x) e = omega (arith, e)
        go zero e =
            let o = outer.only g v (origin new (rev g))
            (record { within = within; outer = e; source = starts; target = refl }) in
            absurd (let i = star.inner g o.within o.source in let z = o.outer in
            omega (arith, i, z))

    module _ (after : IsValidMesh new) (triangles : FlipsTriangles m new (2 * (turn m h / 2)))
        (convex : IsConvexAt points m h) where
      star_at : IsStar (faces_of m) v count (neighbour m h)
      star_at = plane_star valid star

      -- the edge from v to neighbour 1 is flipped, in the words of faces
      flip : IsStarFlip points (faces_of m) (faces_of new) (outer_of m) (outer_of new) v
          (neighbour m h) 0
      flip = star_flip points m valid star.shape v h count star.round 0 (spoke_in 0)
          (spoke_in 1) new triangles outer convex.far
          (subst (λ (x : ℕ). TurnsLeft (place points x) (place points (neighbour m h 0))
          (place points (neighbour m h 2))) (star.round.starts 0) convex.near)

      shape_after : LocalMesh points (faces_of new) (outer_of new)
      shape_after = star_flip_local points (faces_of m) (faces_of new) (outer_of m) (outer_of new) v
          (neighbour m h) 0 star.shape (star_at.around 0) (star_at.around 1) flip

      -- with one neighbour less
      pub star_shrinks : IsInnerStar points new v h (count - 1)
      star_shrinks = record {
        shape = shape_after;
        inner = inner_after;
        round = subst (λ (n : ℕ). IsRound new v h n) (less (one_neighbour_less points (faces_of m)
            (faces_of new) (outer_of m) (outer_of new) v count r.0 (neighbour m h)
            (neighbour new h) 0 star.shape star_at (omega (arith, many)) flip again)) r.1;
      }
        where
          r : (n : ℕ) × IsRound new v h n
          r = round_at new after v h within_after starts_after

          again : IsStar (faces_of new) v r.0 (neighbour new h)
          again = inner_star points new after shape_after v h r.0 r.1
              (λ i. inner_after (spoke new h i) (r.1.within i) (r.1.starts i))

          less : suc r.0 ≡ count → r.0 ≡ count - 1
          less e = omega (arith, e)

-- ---- which edge may be turned
-- the ends of two edges with one between them differ
pub ends_differ : {points : List Point} {m : Mesh} → IsValidMesh m → {v h count : ℕ}
    → IsInnerStar points m v h count → 3 ≤ count → neighbour m h 0 ≢ neighbour m h 2
ends_differ valid star many e = absurd (let q = (plane_star valid star).apart 0 2
    (omega (arith, many)) (omega (arith, many)) e in omega (arith, q))

-- where there are three edges or more, the one after each may be turned
pub inner_may_turn : {V D U F : Type 0} {place : V → Point} {c : Contents V D U F} {v h count : ℕ}
    → IsMeshWithData c → IsInnerStar (map place c.vertices) c.mesh v h count → 3 ≤ count
    → MayTurnAway place c h
inner_may_turn whole star many = record {
  whole = whole;
  within = rw whole.fits.directed_fit (star.round.within 0);
  shape = star.shape;
  left = spokes_inner whole.valid star 0;
  right = spokes_inner whole.valid star 1;
  apart = ends_differ whole.valid star many;
}

-- where none may be turned, three edges are left, or four with the vertex between two ends
pub none_left : {V D U F : Type 0} {points : List Point} {c : Contents V D U F}
    {v first count : ℕ} → IsMeshWithData c → IsInnerStar points c.mesh v first count → 3 < count
    → ((i : ℕ) → i < count → ¬ IsConvexAt points c.mesh (spoke c.mesh first i))
    → IsReduced points c.mesh v first count
none_left {points = points} {c = c} {v = v} {first = first} {count = count} whole star many none =
    elim (inner_choice points c whole star.shape v first (spokes_inner whole.valid star) count
    star.round (omega (arith, many))) [
      | inl r ↦ absurd (none r.0 r.1 (record {
        far = r.2;
        near =
            subst (λ (x : ℕ). TurnsLeft (place points x) (place points (neighbour c.mesh first r.0))
            (place points (neighbour c.mesh first (suc (suc r.0)))))
            (sym (star.round.starts r.0)) r.3;
      }))
      | inr r ↦ inr (r.0, (r.1.0, subst (λ (n : ℕ). r.1.0 < n) r.0 r.1.1, r.1.2))
    ]
