-- A vertex on the hull that is no corner, and has no edge to turn: a flat side with two faces.
-- Lemmas: flat_left.
use Rattle.std.proofs.Common.{◌≡◌, ℕ, ◌-◌, List, map, subst, arith}
use Rattle.plane.specs.{on, place as at, Point, side}
use Rattle.{half_edge_dcel.specs.Contents, half_edge_links.specs.neighbour}
use Rattle.delaunay_vertices.specs.{Hull.ShrinksFan, IsCornerAt, IsHullFan}
use Rattle.delaunay_vertices.proofs.{HullSides.corner_read, HullStars.flat_has_three}

-- it has three edges, and is on the line of the ends of the first and the last
pub flat_left : {V D U F : Type 0} {turned : List (ℕ × ℕ)} {place : V → Point}
    {old mid : Contents V D U F} {v first count vertex : ℕ}
    → ShrinksFan place old mid v first count turned
    → ¬ IsCornerAt (map place mid.vertices) mid.mesh first → v ≡ vertex
    → IsHullFan (map place mid.vertices) mid.mesh vertex first 3
    × (side (at (map place mid.vertices) (neighbour mid.mesh first 0))
    (at (map place mid.vertices) vertex)
    (at (map place mid.vertices) (neighbour mid.mesh first 2)) ≡ on)
flat_left {place = place} {mid = mid} {first = first} {count = count} shrinks not named =
    let valid = shrinks.whole.valid in
    let flat = flat_has_three valid shrinks.star shrinks.bent
    (λ t. not ((corner_read valid shrinks.star).1 t)) in
    let two : count - 1 ≡ 2 = let e = flat.0 in omega (arith, e) in (
      subst (λ (x : ℕ × ℕ). IsHullFan (map place mid.vertices) mid.mesh x.0 first x.1)
          (λ i. (named i, flat.0 i)) shrinks.star,
      subst (λ (x : ℕ × ℕ). side (at (map place mid.vertices) (neighbour mid.mesh first 0))
          (at (map place mid.vertices) x.0)
          (at (map place mid.vertices) (neighbour mid.mesh first x.1)) ≡ on)
          (λ i. (named i, two i)) flat.1,
    )
