-- Counts of elements, and handles in the answers to a location.
-- Lemmas: count_of_edges, count_of_faces, plain_if_kept, element_if_handle, outer_if_handle,
-- gives_elements.
use Rattle.std.proofs.Common.{◌≡◌, ℕ, ◌<◌, length, map, sym, ◌∙◌, refl, arith}
use Rattle.std.specs.Prelude.{pos, List}
use Rattle.std.specs.Borrow.{Bor}
use Rattle.std.specs.List.{range_with_len}
use Rattle.std.proofs.lemmas.List.{length-map, get_or-map}
use Rattle.half_edge_links.specs.{ends, triangle_at, triangles}
use Rattle.{half_edge_links.proofs.length-ends_twice, plane.specs.IsPlain, plane.specs.Point}
use Rattle.half_edge_dcel.specs.{Contents, each_in}
use Rattle.delaunay_legalization.specs.{corners_of, edges_of, faces_of, IsTriangulated, outer_of}
use Rattle.delaunay_legalization.specs.{pair_of, points_and_constraints, State.State, state_of}
use Rattle.delaunay_legalization.proofs.{no_joins, Shapes.laid_out_distinct}
use Rattle.delaunay_location.specs.{HasHandle, NoTriangulation, OnEdge, OnFace, OnVertex}
use Rattle.delaunay_location.specs.{OutsideOfConvexHull, PositionInTriangulation}
use Rattle.delaunay_edit.specs.{Elements.HasOuterEdge, GivesElements, HasElement}

module _ {V D U F : Type 0} (place : V → Point) (s : State V D U F)
    (kept : IsTriangulated place s) where
  -- each undirected edge has its data
  pub count_of_edges : length s.undirected ≡ length (edges_of s.mesh)
  count_of_edges =
      let pairs = kept.fits.undirected_fit in
      let twice = length-ends_twice s.mesh kept.valid.sound in
      omega (arith, pairs, twice, length-map (ends s.mesh) pair_of)

  -- each inner face has its data
  pub count_of_faces : length s.faces ≡ length (faces_of s.mesh)
  count_of_faces = kept.fits.faces_fit ∙ sym (length-map s.mesh.face_edges (triangle_at s.mesh))
      ∙ sym (length-map (triangles s.mesh) corners_of)

  -- the positions differ
  pub plain_if_kept : IsPlain place (points_and_constraints s)
  plain_if_kept = record {
    distinct = λ i j d before j_in e.
        let there : Point = record { x = pos 0; y = pos 0 } in
        let count = length-map s.vertices place in
        let i_in : i < length s.vertices = omega (arith, before, j_in) in
        laid_out_distinct (map place s.vertices) (faces_of s.mesh) (outer_of s.mesh) kept.shape i j
        (omega (arith, i_in, count)) (omega (arith, j_in, count))
        (λ same. absurd (omega (arith, before, same)))
        (get_or-map place s.vertices i d there i_in ∙ e
        ∙ sym (get_or-map place s.vertices j d there j_in));
    pairs = λ i j h. absurd (no_joins i j h);
  }

  -- a handle of the mesh is one of the elements with data
  pub element_if_handle : (answer : PositionInTriangulation) → HasHandle s.mesh answer
      → HasElement s answer
  element_if_handle (OnVertex v) h = let f = kept.fits.vertices_fit in omega (arith, h, f)
  element_if_handle (OnEdge e) h = let f = kept.fits.directed_fit in omega (arith, h, f)
  element_if_handle (OnFace i) h =
      let f = kept.fits.faces_fit in (h.0, (let b = h.1 in omega (arith, b, f)))
  element_if_handle (OutsideOfConvexHull e) h =
      let b = h.0 in let f = kept.fits.directed_fit in omega (arith, b, f)
  element_if_handle NoTriangulation h = tt

  -- and that of an outside position has the outer face on its left
  pub outer_if_handle : (answer : PositionInTriangulation) → HasHandle s.mesh answer
      → HasOuterEdge s answer
  outer_if_handle (OnVertex v) h = tt
  outer_if_handle (OnEdge e) h = tt
  outer_if_handle (OnFace i) h = tt
  outer_if_handle (OutsideOfConvexHull e) h = h.1
  outer_if_handle NoTriangulation h = tt

-- all elements that a mesh gives are those of the triangulation that it holds
pub gives_elements : {V D U F : Type 0} (s : State V D U F) (mesh : Bor (Contents V D U F))
    (first n count : ℕ) (given : List (Bor (Contents V D U F) × ℕ))
    → given ≡ each_in mesh (range_with_len first n) → state_of mesh.now ≡ s → n ≡ count
    → GivesElements s first count given
gives_elements s mesh first n count given all same number =
    record { mesh = mesh; state = same; elements = all ∙ rw number refl }
