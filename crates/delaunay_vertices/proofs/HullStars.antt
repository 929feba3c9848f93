-- A vertex on the hull loses a neighbour by a turn of an edge.
-- Lemmas: hull_in_plane, strip_of, has_two, hull_ends_differ, none_turns, flat_has_three, left_of,
-- right_of, hull_star_less, hull_may_turn.
use Rattle.std.proofs.Common.{◌≡◌, ◌≢◌, ◌-◌, ◌*◌, ◌/◌, ◌<◌, ◌≤◌, ◌∙◌}
use Rattle.std.proofs.Common.{ℕ, zero, suc, List, length, map, refl, sym, ap, subst, arith}
use Rattle.std.proofs.Common.{inl, inr}
use Rattle.std.specs.Prelude.{Contains}
use Rattle.std.proofs.lemmas.Bool.{cases_lt}
use Rattle.plane.specs.{on, place, Point, side, TurnsLeft}
use Rattle.half_edge_links.specs.{face, FlipsTriangles, IsOuterEdge, IsRound, IsStrip, IsValidMesh}
use Rattle.half_edge_links.specs.{KeepsOuter, Mesh, neighbour, origin, rev, spoke}
use Rattle.half_edge_links.proofs.{rev-rev, rev_within}
use Rattle.plane_theorems.specs.{IsStarFlip, LocalMesh}
use Rattle.plane_theorems.proofs.{by_signs, Edits.Removal.HullVertex.flat_star_flips, point_at}
use Rattle.plane_theorems.proofs.Edits.Removal.HullVertex.{corner_or_flat, corner_star_flips}
use Rattle.plane_theorems.proofs.Tiling.Covering.{no_outer_back}
use Rattle.half_edge_dcel.specs.{Contents, IsMeshWithData}
use Rattle.delaunay_legalization.specs.{faces_of, outer_of}
use Rattle.delaunay_legalization.proofs.{MeshStarFlips.star_flip_local, round_at}
use Rattle.delaunay_legalization.proofs.MeshStarFlips.{one_hull_neighbour_less, star_flip}
use Rattle.delaunay_legalization.proofs.MeshStars.{hull_star, hull_strip, neighbours_apart}
use Rattle.delaunay_vertices.specs.{HasNoFlippableEdge, IsConvexAt, IsHullFan, MayTurnAway}
use Rattle.plane_theorems.specs.Edits.RemovalHull as P

-- ---- what the edges of a vertex on the hull know
module _ {points : List Point} {m : Mesh} (valid : IsValidMesh m) {v first count : ℕ}
    (star : IsHullFan points m v first count) where
  -- its star is one on the hull of the plane
  pub hull_in_plane : P.IsHullStar (faces_of m) (outer_of m) v (count - 1) (neighbour m first)
  hull_in_plane = hull_star points m valid star.shape v first count star.round star.outer

  -- its faces are a strip, one fewer than its edges
  pub strip_of : IsStrip m first (count - 1)
  strip_of = hull_strip points m valid star.shape v first count star.round star.outer

  -- there are two edges or more
  pub has_two : 2 ≤ count
  has_two = at_least count refl
    where
      only_one : count ≡ 1 → ⊥
      only_one is = no_outer_back (length points) (point_at points) (faces_of m) (outer_of m)
          (by_signs points (faces_of m) (outer_of m) star.shape)
          (neighbour m first 0) v hull_in_plane.arrives
          (subst (λ (i : ℕ). Contains (outer_of m) (v, neighbour m first i))
          (let e : count - 1 ≡ 0 = omega (arith, is) in e) hull_in_plane.leaves)

      at_least : (n : ℕ) → count ≡ n → 2 ≤ count
      at_least zero is = absurd (let s = star.round.some in omega (arith, s, is))
      at_least (suc zero) is = absurd (only_one is)
      at_least (suc (suc n)) is = omega (arith, is)

  -- the ends of two edges with one between them differ
  pub hull_ends_differ : (i : ℕ) → suc (suc i) < count
      → neighbour m first i ≢ neighbour m first (suc (suc i))
  hull_ends_differ i less e = absurd (let q = neighbours_apart points m valid star.shape v first
      count star.round i (suc (suc i)) (omega (arith, less)) less e in omega (arith, q))

  -- a corner of the hull where no edge can be turned
  module _ (bent : HasNoFlippableEdge points m first count) where
    -- at a corner no three neighbours in a row turn left
    pub none_turns : TurnsLeft (place points v) (place points (neighbour m first 0))
        (place points (neighbour m first (count - 1)))
        → P.NoneTurnsLeft points (count - 1) (neighbour m first)
    none_turns corner i less far = bent i (omega (arith, less)) (record {
      far = far;
      near = subst (λ (x : ℕ). TurnsLeft (place points x) (place points (neighbour m first i))
          (place points (neighbour m first (suc (suc i))))) (sym (star.round.starts i))
          (corner_star_flips points (faces_of m) (outer_of m) v (count - 1)
          (neighbour m first) star.shape hull_in_plane corner i less);
    })

    -- or a flat side, where three edges are left
    pub flat_has_three : ¬ TurnsLeft (place points v) (place points (neighbour m first 0))
        (place points (neighbour m first (count - 1)))
        → (count ≡ 3) × (side (place points (neighbour m first 0)) (place points v)
        (place points (neighbour m first (count - 1))) ≡ on)
    flat_has_three not = elim (corner_or_flat points (faces_of m) (outer_of m) v (count - 1)
        (neighbour m first) star.shape hull_in_plane) [
          | inl corner ↦ absurd (not corner)
          | inr flat ↦ (three flat.0 flat.1, flat.0)
        ]
      where
        three : side (place points (neighbour m first 0)) (place points v)
            (place points (neighbour m first (count - 1))) ≡ on → 2 ≤ count - 1 → count ≡ 3
        three flat two = elim (cases_lt (count - 1) 3) [
          | inl few ↦ omega (arith, few, two)
          | inr many ↦ (let r = flat_star_flips points (faces_of m) (outer_of m) v (count - 1)
              (neighbour m first) star.shape hull_in_plane many flat in
              absurd (bent r.0 (let l = r.1 in omega (arith, l)) (record {
                far = r.2;
                near = subst (λ (x : ℕ). TurnsLeft (place points x) (place points
                    (neighbour m first r.0)) (place points (neighbour m first (suc (suc r.0)))))
                    (sym (star.round.starts r.0)) r.3;
              })))
        ]

  -- ---- a turn of edge i + 1
  module _ (i : ℕ) (less : suc (suc i) < count) where
    -- edge i has an inner face on its left
    pub left_of : 0 < face m (spoke m first i)
    left_of = strip_of.inner i (omega (arith, less))

    -- so has edge i + 1
    pub right_of : 0 < face m (spoke m first (suc i))
    right_of = strip_of.inner (suc i) (omega (arith, less))

    module _ (new : Mesh) (after : IsValidMesh new) (convex : IsConvexAt points m (spoke m first i))
        (triangles : FlipsTriangles m new (2 * (spoke m first (suc i) / 2)))
        (outer : KeepsOuter m new) where
      -- the edge from v to neighbour i + 1 is flipped, in the words of faces
      flip : IsStarFlip points (faces_of m) (faces_of new) (outer_of m) (outer_of new) v
          (neighbour m first) i
      flip = star_flip points m valid star.shape v first count star.round i left_of right_of new
          triangles outer convex.far
          (subst (λ (x : ℕ). TurnsLeft (place points x) (place points (neighbour m first i))
          (place points (neighbour m first (suc (suc i))))) (star.round.starts i) convex.near)

      shape_after : LocalMesh points (faces_of new) (outer_of new)
      shape_after = star_flip_local points (faces_of m) (faces_of new) (outer_of m) (outer_of new) v
          (neighbour m first) i star.shape (hull_in_plane.around i (omega (arith, less)))
          (hull_in_plane.around (suc i) (omega (arith, less))) flip

      back_after : IsOuterEdge new (rev first) (neighbour m first 0) v
      back_after = outer.kept (rev first) (neighbour m first 0) v (record {
        within = rev_within first (length m.half_edges) valid.sound.even (star.round.within 0);
        outer = star.outer;
        source = refl;
        target = ap (origin m) (rev-rev first) ∙ star.round.starts 0;
      })

      first_after : first < length new.half_edges
      first_after = subst (λ (h : ℕ). h < length new.half_edges) (rev-rev first)
          (rev_within (rev first) (length new.half_edges) after.sound.even back_after.within)

      starts_after : origin new first ≡ v
      starts_after = ap (origin new) (sym (rev-rev first)) ∙ back_after.target

      -- leaves one neighbour less
      pub hull_star_less : IsHullFan points new v first (count - 1)
      hull_star_less = record {
        shape = shape_after;
        outer = back_after.outer;
        round = subst (λ (n : ℕ). IsRound new v first n)
            (fewer (one_hull_neighbour_less points (faces_of m) (faces_of new) (outer_of m)
            (outer_of new) v (count - 1) (r.0 - 1) (neighbour m first) (neighbour new first) i
            star.shape hull_in_plane (omega (arith, less)) flip again).0 r.1.some) r.1;
      }
        where
          r : (n : ℕ) × IsRound new v first n
          r = round_at new after v first first_after starts_after

          again : P.IsHullStar (faces_of new) (outer_of new) v (r.0 - 1) (neighbour new first)
          again = hull_star points new after shape_after v first r.0 r.1 back_after.outer

          fewer : suc (r.0 - 1) ≡ count - 1 → 0 < r.0 → r.0 ≡ count - 1
          fewer e some = omega (arith, e, some)

-- so the edge after edge i may be turned
pub hull_may_turn : {V D U F : Type 0} {place : V → Point} {c : Contents V D U F}
    {v first count : ℕ} → IsMeshWithData c
    → IsHullFan (map place c.vertices) c.mesh v first count → (i : ℕ) → suc (suc i) < count
    → MayTurnAway place c (spoke c.mesh first i)
hull_may_turn whole star i less = record {
  whole = whole;
  within = rw whole.fits.directed_fit (star.round.within i);
  shape = star.shape;
  left = left_of whole.valid star i less;
  right = right_of whole.valid star i less;
  apart = hull_ends_differ whole.valid star i less;
}
