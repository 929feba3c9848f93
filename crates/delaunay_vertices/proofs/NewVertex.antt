-- The vertex that was appended, in the triangulation that has it: no edge there has it strictly
-- within.
-- Lemmas: place_stays, place_last, is_vertex, not_within, source_in, target_in.
use Rattle.std.proofs.Common.{◌≡◌, ◌<◌, [], ◌∷◌, ◌++◌, ◌∙◌}
use Rattle.std.proofs.Common.{ℕ, List, length, map, sym, ap, subst, arith}
use Rattle.std.proofs.lemmas.List.{length-map, map-append, length-append}
use Rattle.plane.specs.{Fraction, IsEdge, place, Point, whole, WithinSegment}
use Rattle.half_edge_links.specs.{origin, rev}
use Rattle.half_edge_links.proofs.{rev_within}
use Rattle.plane_theorems.proofs.{kept_point, no_edges_cross, Tiling.Appended.last_point}
use Rattle.delaunay_legalization.specs.{drawn, edges_of, faces_of, IsTriangulated, outer_of}
use Rattle.{delaunay_legalization.proofs.own_edges, delaunay_legalization.specs.State.State}

module _ {V D U F : Type 0} (at : V → Point) (v : V) (old new : State V D U F) (was : IsTriangulated
    at old) (now : IsTriangulated at new) (vertices : new.vertices ≡ old.vertices ++ v ∷ []) where
  abbrev before : List Point
  before = map at old.vertices

  abbrev after : List Point
  after = map at new.vertices

  points : after ≡ before ++ at v ∷ []
  points = ap (map at) vertices ∙ map-append at old.vertices (v ∷ [])

  -- the vertices of before stay where they were
  pub place_stays : (i : ℕ) → i < length old.vertices → place before i ≡ place after i
  place_stays i w =
      ap whole (kept_point before (at v) i (omega (arith, w, length-map old.vertices at)))
      ∙ ap (λ ps. place ps i) (sym points)

  -- the vertex after them is at the place of v
  pub place_last : whole (at v) ≡ place after (length old.vertices)
  place_last = ap whole (sym (last_point before (at v)))
      ∙ ap (λ ps. place ps (length before)) (sym points)
      ∙ ap (place after) (length-map old.vertices at)

  -- and its index is one of the vertices
  pub is_vertex : length old.vertices < length after
  is_vertex = omega
      (arith, length-map new.vertices at, ap length vertices, length-append old.vertices (v ∷ []))

  -- an edge that stands afterwards does not have the new vertex strictly within it
  pub not_within : (i j : ℕ) → i < length old.vertices → j < length old.vertices
      → IsEdge (drawn after new.mesh) i j
      → ¬ WithinSegment (place before i) (place before j) (whole (at v))
  not_within i j k l e w =
      (no_edges_cross after (faces_of new.mesh) (outer_of new.mesh) (edges_of new.mesh) now.shape
      (own_edges new.mesh now.valid)).0 i j (length old.vertices) e is_vertex
      (subst (λ (x : Fraction × Fraction × Fraction). WithinSegment x.0 x.1 x.2)
      (λ o. (place_stays i k o, place_stays j l o, place_last o)) w)

  -- an edge of before starts at a vertex of before
  pub source_in : (g : ℕ) → g < length old.directed → origin old.mesh g < length old.vertices
  source_in g w = let o =
      (was.valid.sound.edges g (subst (λ n. g < n) was.fits.directed_fit w)).origin_in in
      let f = was.fits.vertices_fit in omega (arith, o, f)

  -- and ends at one
  pub target_in : (g : ℕ) → g < length old.directed → origin old.mesh (rev g) < length old.vertices
  target_in g w = source_in (rev g) (subst (λ n. rev g < n) (sym was.fits.directed_fit)
      (rev_within g (length old.mesh.half_edges) was.valid.sound.even
      (subst (λ n. g < n) was.fits.directed_fit w)))
