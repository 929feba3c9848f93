-- The edges of the hull, by the outer edges of a mesh.
-- Lemmas: sides_and_outer, counts_outer.
use Rattle.std.proofs.Common.{◌≡◌, ◌⊎◌, ◌+◌, ◌-◌, ◌*◌, ◌<◌, [], ◌∙◌}
use Rattle.std.proofs.Common.{ℕ, List, length, map, refl, sym, subst, inl, inr, arith}
use mathlib.Core.Logic.{◌≢◌}
use Rattle.std.specs.Prelude.{ℤ, pos, ◌+ℤ◌, Contains, AllPairs}
use Rattle.std.proofs.lemmas.Int.{ints}
use Rattle.std.proofs.lemmas.List.{length-map}
use Rattle.plane.specs.{Face, HasFace, IsEdge, IsOuter, Point}
use Rattle.half_edge_links.specs.{IsValidMesh, Mesh}
use Rattle.plane_theorems.specs.{AreEdgesOf, IsMesh, total}
use Rattle.plane_theorems.proofs.{hull_edges_count, line_edges_count, Tiling.Rising.total_ones}
use Rattle.delaunay_legalization.specs.{edges_of, faces_of, IsTriangulated, outer_of}
use Rattle.{delaunay_legalization.specs.triangulation_of, half_edge_dcel.proofs.Outlines.empty_list}
use Rattle.{delaunay_legalization.specs.State.State, plane_theorems.proofs.Tiling.Totals.total-sum}
use Rattle.delaunay_legalization.proofs.{edge_joins, outer_bare, own_edges, real}
use Rattle.delaunay_edit.specs.Hull.{CountsHullEdges, HasHullSize}
use Rattle.delaunay_edit.proofs.Counts.{count_of_edges, count_of_faces}
use Rattle.plane_theorems.proofs.Tiling.Loops as L

each_once : (points : List Point) (faces : List Face) (outer : List (ℕ × ℕ))
    → IsMesh points faces outer → AllPairs (λ d e. d ≢ e) outer
each_once points faces outer (inl s) = s.once
each_once points faces outer (inr s) = s.1.once

-- each edge has two ways, each face three sides
ways_add_up : (m : Mesh) → IsValidMesh m
    → 2 * length (edges_of m) ≡ 3 * length (faces_of m) + length (outer_of m)
ways_add_up m v = numbers (length (edges_of m)) (length (faces_of m))
    (length (outer_of m)) ones_of_edges ones_of_faces ones_of_outer (total_ones (edges_of m))
    (total_ones (faces_of m)) (total_ones (outer_of m)) ways
  where
    ones_of_edges : ℤ
    ones_of_edges = total (λ e. pos 1) (edges_of m)

    ones_of_faces : ℤ
    ones_of_faces = total (λ f. pos 1) (faces_of m)

    ones_of_outer : ℤ
    ones_of_outer = total (λ e. pos 1) (outer_of m)

    numbers : (e f h : ℕ) (a b c : ℤ) → a ≡ pos e → b ≡ pos f → c ≡ pos h
        → a +ℤ a ≡ b +ℤ b +ℤ b +ℤ c → 2 * e ≡ 3 * f + h
    numbers e f h a b c i j k x = omega (arith, ints)

    ways : ones_of_edges +ℤ ones_of_edges
        ≡ ones_of_faces +ℤ ones_of_faces +ℤ ones_of_faces +ℤ ones_of_outer
    ways =
        sym (total-sum (λ e. pos 1) (λ e. pos 1) (edges_of m)) ∙ own_edges m v (λ _ _. pos 1)
        ∙ (λ i. total-sum (λ f. pos 1 +ℤ pos 1) (λ f. pos 1) (faces_of m) i +ℤ ones_of_outer)
        ∙ (λ i. total-sum (λ f. pos 1) (λ f. pos 1) (faces_of m) i +ℤ ones_of_faces
        +ℤ ones_of_outer)

module _ {V D U F : Type 0} (at : V → Point) (s : State V D U F) (kept : IsTriangulated at s) where
  -- the directed edges are the sides of faces and the outer edges
  pub sides_and_outer : length s.directed ≡ 3 * length s.faces + length (outer_of s.mesh)
  sides_and_outer =
      let edges = count_of_edges at s kept in
      let faces = count_of_faces at s kept in
      let pairs = kept.fits.undirected_fit in
      let directed = kept.fits.directed_fit in
      omega (arith, edges, faces, pairs, directed, ways_add_up s.mesh kept.valid)

  outer_if_listed : (i j : ℕ) → Contains (outer_of s.mesh) (i, j)
      → IsOuter (triangulation_of at s) i j
  outer_if_listed i j c =
      let h = real s.mesh i j c in (
        subst (λ (e : ℕ × ℕ). IsEdge (triangulation_of at s) e.0 e.1)
            (λ t. (h.1.source t, h.1.target t)) (edge_joins s.mesh kept.valid.sound h.0 h.1.within),
        outer_bare (map at s.vertices) s.mesh i j kept.shape c,
      )

  listed_if_outer : (i j : ℕ) → IsOuter (triangulation_of at s) i j
      → Contains (outer_of s.mesh) (i, j)
  listed_if_outer i j o = go (L.way_of_edge (faces_of s.mesh) (outer_of s.mesh) (edges_of s.mesh)
      (own_edges s.mesh kept.valid) i j o.0)
    where
      go : HasFace (triangulation_of at s) i j ⊎ Contains (outer_of s.mesh) (i, j)
          → Contains (outer_of s.mesh) (i, j)
      go (inl h) = absurd (o.1 h)
      go (inr c) = c

  -- as many edges are of the hull as the mesh has outer edges
  hull_size : (size : ℕ) → size ≡ length (outer_of s.mesh)
      → HasHullSize (triangulation_of at s) size
  hull_size size e = record {
    hull = outer_of s.mesh;
    count = sym e;
    once = each_once (map at s.vertices) (faces_of s.mesh) (outer_of s.mesh) kept.shape;
    outer = λ i j. (outer_if_listed i j, listed_if_outer i j);
  }

  -- with a face, as many as the vertices and the edges leave
  spread_count : 0 < length s.faces
      → length s.undirected + length (outer_of s.mesh) + 3 ≡ 3 * length s.vertices
  spread_count h = go kept.shape
    where
      go : IsMesh (map at s.vertices) (faces_of s.mesh) (outer_of s.mesh)
          → length s.undirected + length (outer_of s.mesh) + 3 ≡ 3 * length s.vertices
      go (inl l) =
          let counts = (hull_edges_count (map at s.vertices) (faces_of s.mesh) (outer_of s.mesh)
          (edges_of s.mesh) l (own_edges s.mesh kept.valid)).0 in
          omega (arith, counts, length-map s.vertices at, count_of_edges at s kept)
      go (inr l) = absurd (let none = l.0 in let faces = count_of_faces at s kept in
          let zero : length (faces_of s.mesh) ≡ 0 = rw none refl in omega (arith, faces, zero, h))

  -- on one line, both ways of each edge, and there is one edge fewer than vertices
  line_count : length s.faces ≡ 0 → length (outer_of s.mesh) ≡ 2 * (length s.vertices - 1)
  line_count h = go kept.shape
    where
      bare : faces_of s.mesh ≡ []
      bare = empty_list (faces_of s.mesh) (sym (count_of_faces at s kept) ∙ h)

      go : IsMesh (map at s.vertices) (faces_of s.mesh) (outer_of s.mesh)
          → length (outer_of s.mesh) ≡ 2 * (length s.vertices - 1)
      go (inl l) = absurd (l.some_face bare)
      go (inr l) =
          let own = subst (λ (fs : List Face). AreEdgesOf fs (outer_of s.mesh) (edges_of s.mesh))
          bare (own_edges s.mesh kept.valid) in
          let edges =
          line_edges_count (map at s.vertices) (outer_of s.mesh) (edges_of s.mesh) l.1 own in
          let ways = ways_add_up s.mesh kept.valid in
          omega (arith, edges, ways, count_of_faces at s kept, h, length-map s.vertices at)

  -- so the hull has as many edges as the mesh has outer ones, which goes with the other numbers
  pub counts_outer : (size : ℕ) → size ≡ length (outer_of s.mesh) → CountsHullEdges at s size
  counts_outer size e =
      let pairs = kept.fits.undirected_fit in
      let directed = kept.fits.directed_fit in
      record {
        hull = hull_size size e;
        spread = λ some. omega (arith, e, spread_count some);
        spread_faces =
            λ some. omega (arith, e, pairs, directed, sides_and_outer, spread_count some);
        line = λ none. omega (arith, e, line_count none);
        line_edges = λ none. omega (arith, none, pairs, directed, sides_and_outer, line_count none);
      }
