-- The hole that an inner vertex leaves: of three faces one, of four two.
-- Lemmas: border_read, hole_read, three_wheel, three_isolate, between_first_or_next, wheel_after,
-- four_isolate, isolates_from.
use Rattle.std.proofs.Common.{◌≡◌, ◌⊎◌, ◌+◌, ◌<◌, [], ◌∷◌, ◌∙◌}
use Rattle.std.proofs.Common.{ℕ, zero, suc, List, map, refl, sym, ap, subst, arith, inl, inr}
use Rattle.std.specs.Global.{Vec}
use Rattle.plane.specs.{place, Point, WithinSegment}
use Rattle.half_edge_links.specs.{AreSoundLinks, face, IsRound, IsWheel, Mesh, neighbour, next}
use Rattle.half_edge_links.specs.{origin, prev, rev, spoke, turn}
use Rattle.plane_theorems.proofs.{turned_within}
use Rattle.half_edge_dcel.specs.{Contents, FillsHole, IsBorder, IsMeshWithData}
use Rattle.{half_edge_dcel.proofs.HoleFilled.fan_of_three, half_edge_dcel.specs.Hole.FillsWithFan}
use Rattle.delaunay_legalization.specs.{faces_of, outer_of}
use Rattle.{delaunay_legalization.proofs.Borders.border_of_wheel, delaunay_vertices.specs.TurnsAway}
use Rattle.delaunay_legalization.proofs.MeshVertexLeaves.{leaves_four, leaves_three}
use Rattle.delaunay_legalization.proofs.StarTurns.{wheel_left, wheel_of_three}
use Rattle.delaunay_vertices.specs.{IsInnerStar, IsolatesVertex, KeepsPairs, StandsBeside}
use Rattle.delaunay_vertices.specs.Star.{IsBetweenAt, IsMeshWithout, LosesStar, StandsBetween}
use Rattle.delaunay_vertices.proofs.DataStays.{hole_stands, stands_on, stands_put}
use Rattle.delaunay_vertices.proofs.InnerStars.{spokes_inner, turns}

-- ---- three faces
-- the sides opposite a vertex, as they are read
pub border_read : {m : Mesh} {v first second third a b c : ℕ} → AreSoundLinks m → IsWheel m first
    → origin m first ≡ v → second ≡ turn m first → third ≡ turn m second → a ≡ next m first
    → b ≡ next m second → c ≡ next m third → IsBorder m (a ∷ b ∷ c ∷ []) v
border_read {m} {v} {first} {second} {third} {a} {b} {c} s wheel starts is_second is_third is_a
    is_b is_c =
    subst (λ (x : ℕ × ℕ × ℕ). IsBorder m (x.0 ∷ x.1 ∷ x.2 ∷ []) v)
    (λ i. (sym is_a i, sym at_b i, sym at_c i)) (border_of_wheel m v first s wheel starts)
  where
    at_b : b ≡ next m (turn m first)
    at_b = is_b ∙ ap (next m) is_second

    at_c : c ≡ next m (turn m (turn m first))
    at_c = is_c ∙ ap (next m) (is_third ∙ ap (turn m) is_second)

-- the hole is one of the neighbours from first on
pub hole_read : {V D U F : Type 0} {old new : Contents V D U F} {v first a : ℕ}
    → AreSoundLinks old.mesh → IsWheel old.mesh first → a ≡ next old.mesh first
    → FillsWithFan old new v (neighbour old.mesh (prev old.mesh a)) 3
    → FillsHole old new v (neighbour old.mesh first)
hole_read {old = old} {new = new} {v = v} {first = first} s wheel is_a fills =
    fan_of_three old new v (neighbour old.mesh first)
    (subst (λ (h : ℕ). FillsWithFan old new v (neighbour old.mesh h) 3)
    (ap (prev old.mesh) is_a ∙ (s.edges first wheel.within).prev_next) fills)

module _ {V D U F : Type 0} {points : List Point} {old : Contents V D U F} {v first count : ℕ}
    (before : IsMeshWithData old) (star : IsInnerStar points old.mesh v first count)
    (three : count ≡ 3) where
  inner : (i : ℕ) → 0 < face old.mesh (spoke old.mesh first i)
  inner = spokes_inner before.valid star

  round : IsRound old.mesh v first 3
  round = rw three at star.round

  -- three inner faces go round an inner vertex with three edges
  pub three_wheel : IsWheel old.mesh first
  three_wheel = wheel_of_three old.mesh v first round inner

  -- where one face fills their hole, the vertex has lost its edges
  pub three_isolate : {new : Contents V D U F} {vertex : ℕ} → v ≡ vertex → IsMeshWithData new
      → FillsHole old new vertex (neighbour old.mesh first) → (pairs : List (ℕ × ℕ))
      → IsolatesVertex points old new vertex pairs
  three_isolate {new} {vertex} named after hole pairs = record {
    contents = hole.contents;
    whole = after;
    alone = hole.alone;
    shape = inl (leaves_three points old before star.shape vertex first inner new after
        (rw named at round) hole);
    beside = hole_stands old new vertex pairs (neighbour old.mesh first) before after hole
        (ap (λ h. origin old.mesh (rev h)) (round.back 0));
  }

-- ---- four faces
-- the vertex is between the end of first, or of the edge after it, and the one opposite
pub between_first_or_next : (points : List Point) (m : Mesh) (v first : ℕ)
    → IsInnerStar points m v first 4 → StandsBetween points m v first 4
    → IsBetweenAt points m first ⊎ IsBetweenAt points m (turn m first)
between_first_or_next points m v first star (i, less, within) = go i less within
  where
    at : (a b : ℕ) → WithinSegment (place points a) (place points b) (place points v)
        → WithinSegment (place points b) (place points a) (place points v)
    at a b w = turned_within (place points a) (place points b) (place points v) w

    again : (j k : ℕ) → k ≡ j + 4 → neighbour m first k ≡ neighbour m first j
    again j k e = ap (neighbour m first) e ∙ ap (λ h. origin m (rev h)) (star.round.back j)

    go : (i : ℕ) → i < 4 → WithinSegment (place points (neighbour m first i))
        (place points (neighbour m first (suc (suc i)))) (place points v)
        → IsBetweenAt points m first ⊎ IsBetweenAt points m (turn m first)
    go zero l w = inl (subst (λ (x : ℕ). WithinSegment (place points (neighbour m first 0))
        (place points (neighbour m first 2)) (place points x)) (sym (star.round.starts 0)) w)
    go (suc zero) l w = inr (subst (λ (x : ℕ). WithinSegment (place points (neighbour m first 1))
        (place points (neighbour m first 3)) (place points x)) (sym (star.round.starts 1)) w)
    go (suc (suc zero)) l w = inl (subst (λ (x : ℕ × ℕ). WithinSegment (place points x.0)
        (place points (neighbour m first 2)) (place points x.1)) (λ t. (
          again 0 4 refl t,
          sym (star.round.starts 0) t,
        )) (at (neighbour m first 2) (neighbour m first 4) w))
    go (suc (suc (suc zero))) l w = inr (subst (λ (x : ℕ × ℕ). WithinSegment (place points x.0)
        (place points (neighbour m first 3)) (place points x.1)) (λ t. (
          again 1 5 refl t,
          sym (star.round.starts 1) t,
        )) (at (neighbour m first 3) (neighbour m first 5) w))
    go (suc (suc (suc (suc i)))) l w = absurd (omega (arith, l))

module _ {V D U F : Type 0} {points : List Point} {old mid : Contents V D U F} {v first : ℕ}
    {listed list : Vec (ℕ × ℕ)} (before : IsMeshWithData old)
    (star : IsInnerStar points old.mesh v first 4) (t : TurnsAway old mid first listed list) where
  -- a turn leaves three of them
  pub wheel_after : IsWheel mid.mesh first
  wheel_after = wheel_left old.mesh mid.mesh before.valid v first star.round
      (spokes_inner before.valid star)
      (turns before.valid star (omega arith) t.mesh)

  -- and then the hole is filled
  pub four_isolate : {new : Contents V D U F} → IsMeshWithData new
      → IsBetweenAt points old.mesh first → FillsHole mid new v (neighbour mid.mesh first)
      → IsolatesVertex points old new v list.items
  four_isolate {new} after between hole = record {
    contents = hole.contents ∙ ap (λ (c : Contents V D U F). record c {
      mesh = new.mesh;
      directed = new.directed;
      undirected = new.undirected;
      faces = new.faces;
    }) t.contents;
    whole = after;
    alone = hole.alone;
    shape = inl (leaves_four points old before star.shape v first (spokes_inner before.valid star)
        mid new t.whole after star.round t.mesh t.triangles t.outer
        (subst (λ (x : ℕ). WithinSegment (place points (neighbour old.mesh first 0)) (place points
        (neighbour old.mesh first 2)) (place points x)) (star.round.starts 0) between) hole);
    beside = stands_on old mid new v list.items list.items list.items (λ i j p. p) (λ i j p. p)
        (stands_put old mid v first t (star.round.starts 0))
        (hole_stands mid new v list.items (neighbour mid.mesh first) t.whole after hole
        (ap (λ h. origin mid.mesh (rev h)) wheel_after.round));
  }

-- ---- after turns
-- a vertex that loses its edges after turns has lost those of before
pub isolates_from : {V D U F : Type 0} (place : V → Point) {old mid new : Contents V D U F}
    {v vertex : ℕ} {first second pairs : List (ℕ × ℕ)} → mid ≡ record old { mesh = mid.mesh }
    → StandsBeside old mid v first → v ≡ vertex → KeepsPairs first pairs → KeepsPairs second pairs
    → LosesStar place mid new vertex second → LosesStar place old new vertex pairs
isolates_from {V} {D} {U} {F} place {old} {mid} {new} {vertex = vertex} {first = first}
    {second = second} {pairs = pairs} same stands named has_first has_second isolates = record {
      contents = isolates.contents ∙ ap (λ (c : Contents V D U F). record c {
        mesh = new.mesh;
        directed = new.directed;
        undirected = new.undirected;
        faces = new.faces;
      }) same;
      whole = isolates.whole;
      alone = isolates.alone;
      shape = subst (λ (vs : List V). IsMeshWithout vertex (map place vs) (faces_of new.mesh)
          (outer_of new.mesh)) (ap (λ (c : Contents V D U F). c.vertices) same) isolates.shape;
      beside = stands_on old mid new vertex first second pairs has_first has_second
          (subst (λ (x : ℕ). StandsBeside old mid x first) named stands) isolates.beside;
    }
