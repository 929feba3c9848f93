-- Points strictly within segments, and the points of vertices.
-- Notions: AreInMesh; not_start, not_end, nested, in_map, of_map, are_in_mesh, corners_covered,
-- placed_apart.
use Rattle.std.proofs.Common.{◌≡◌, ◌⊎◌, ℕ, ◌<◌, List, length, map, sym, subst, arith}
use mathlib.Core.Logic.{inl, inr}
use Rattle.std.specs.Prelude.{ℤ, pos, ◌<ℤ◌, All, Contains}
use Rattle.std.proofs.lemmas.Int.{ints}
use Rattle.std.proofs.lemmas.List.{length-map}
use Rattle.plane.specs.{Face, Point, whole, WithinSegment}
use Rattle.plane.proofs.{bracket-last, bracket-outer, IsBetween, less_through, lift, place_of_end}
use Rattle.plane.proofs.{place_of_start, place_on, place_within, within_places}
use Rattle.plane_theorems.specs.{ArePlacedApart, IsMesh}
use Rattle.plane_theorems.proofs.{Segments.Constraints.Subconstraints.on_of_mean, within_on}
use Rattle.{delaunay_legalization.proofs.covered_in, half_edge_dcel.specs.Contents}
use Rattle.delaunay_edit.specs.{IsOneSubconstraint, Turning.AreCovered}

-- ---- points strictly within a segment
module _ (a b : Point) (apart : ¬ (a ≡ b)) where
  -- how far along the line from a to b a point lies
  abbrev F : Point → ℤ
  F z = place_on a b (lift z)

  -- nothing is above y and below x, where x is 0 and y above it
  back : (x y z : ℤ) → x ≡ pos 0 → pos 0 <ℤ y → y <ℤ z → z <ℤ x → ⊥
  back x y z e h k l = omega (arith, ints)

  level : (x y z : ℤ) → x ≡ pos 0 → pos 0 <ℤ y → x ≡ z → z ≡ y → ⊥
  level x y z e h k l = omega (arith, ints)

  itself : (x : ℤ) → x <ℤ x → ⊥
  itself x h = omega (arith, ints)

  ordered : (k : Point) → WithinSegment (whole a) (whole b) (whole k) → (F a <ℤ F k) × (F k <ℤ F b)
  ordered k w = go (place_within a b a b k w)
    where
      go : IsBetween (F a) (F b) (F k) ⊎ ((F a ≡ F k) × (F k ≡ F b)) → (F a <ℤ F k) × (F k <ℤ F b)
      go (inl (inl h)) = h
      go (inl (inr h)) =
          absurd (back (F a) (F b) (F k) (place_of_start a b) (place_of_end a b apart) h.0 h.1)
      go (inr h) =
          absurd (level (F a) (F b) (F k) (place_of_start a b) (place_of_end a b apart) h.0 h.1)

  -- is neither end
  pub not_start : ¬ WithinSegment (whole a) (whole b) (whole a)
  not_start w = itself (F a) (ordered a w).0

  -- the end of a segment is not strictly within it
  pub not_end : ¬ WithinSegment (whole a) (whole b) (whole b)
  not_end w = itself (F b) (ordered b w).1

  -- within a part is within the whole
  pub nested : (k x : Point) → WithinSegment (whole a) (whole b) (whole k)
      → WithinSegment (whole a) (whole k) (whole x) → WithinSegment (whole a) (whole b) (whole x)
  nested k x h w = within_places a b apart a b x (bracket-outer (lift a) (lift b))
      (bracket-last (lift a) (lift b)) (on_of_mean a b apart a k x (bracket-outer (lift a) (lift b))
      (within_on a b (whole k) h) w) (go (place_within a b a k x w))
    where
      far : (x y z : ℤ) → y <ℤ z → z <ℤ x → x <ℤ y → ⊥
      far x y z e h k = omega (arith, ints)

      same : (x y z : ℤ) → x ≡ z → z ≡ y → x <ℤ y → ⊥
      same x y z e h k = omega (arith, ints)

      go : IsBetween (F a) (F k) (F x) ⊎ ((F a ≡ F x) × (F x ≡ F k)) → IsBetween (F a) (F b) (F x)
      go (inl (inl o)) = inl (o.0, less_through (F x) (F k) (F b) o.1 (ordered k h).1)
      go (inl (inr o)) = absurd (far (F a) (F k) (F x) o.0 o.1 (ordered k h).0)
      go (inr o) = absurd (same (F a) (F k) (F x) o.0 o.1 (ordered k h).0)

-- ---- vertices and their points
module _ {V : Type 0} (at : V → Point) (vs : List V) where
  -- an index of a vertex is one of its point
  pub in_map : (k : ℕ) → k < length vs → k < length (map at vs)
  in_map k h = subst (λ (n : ℕ). k < n) (sym (length-map vs at)) h

  -- and an index of a point is one of its vertex
  pub of_map : (k : ℕ) → k < length (map at vs) → k < length vs
  of_map k h = subst (λ (n : ℕ). k < n) (length-map vs at) h

-- directed edge e and the ends of the segment from vertex i to vertex j are in the mesh
pub record AreInMesh {V D U F : Type 0} (c : Contents V D U F) (i j e : ℕ) : Type 0 where
  pub edge : e < length c.directed
  pub from : i < length c.vertices
  pub to : j < length c.vertices

-- an edge and the ends of a subconstraint are in the mesh
pub are_in_mesh : {V D U F : Type 0} (at : V → Point) {c : Contents V D U F} {i j e : ℕ}
    → IsOneSubconstraint (map at c.vertices) c i j → e < length c.mesh.half_edges → AreInMesh c i j
    e
are_in_mesh at {c = c} {i = i} {j = j} {e = e} subconstraint within = record {
  edge = subst (λ (n : ℕ). e < n) (sym subconstraint.whole.fits.directed_fit) within;
  from = of_map at c.vertices i subconstraint.free.first;
  to = of_map at c.vertices j subconstraint.free.second;
}

-- points of the mesh are covered where all its points are sites
pub corners_covered : {IsCovered IsSite : Point → Type 0} (points : List Point)
    {p q v x y z : Point} → ((r : Point) → IsSite r → IsCovered r) → All IsSite points
    → Contains points p → Contains points q → Contains points v → Contains points x
    → Contains points y → Contains points z → AreCovered IsCovered p q v x y z
corners_covered {IsCovered = IsCovered} {IsSite = IsSite} points covers sites p q v x y z = record {
  from = at p;
  to = at q;
  start = at v;
  behind = at x;
  end = at y;
  ahead = at z;
}
  where
    at : {r : Point} → Contains points r → IsCovered r
    at {r = r} there = covered_in IsCovered IsSite covers points r sites there

-- no two points of a mesh are the same
pub placed_apart : (points : List Point) (faces : List Face) (outer : List (ℕ × ℕ))
    → IsMesh points faces outer → ArePlacedApart points
placed_apart points faces outer (inl m) = m.distinct
placed_apart points faces outer (inr m) = m.1.distinct
