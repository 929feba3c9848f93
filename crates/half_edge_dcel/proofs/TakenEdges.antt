-- Edges and faces with their data where one of them goes.
-- Lemmas: listed_ends, between, takes_edge, loses_edge, named_corners, listed_face, gives_face,
-- loses_face_at.
use Rattle.std.proofs.Common.{◌≡◌, ◌+◌, ◌-◌, ◌*◌, ◌/◌, ◌%◌, ◌<◌, [], ◌∷◌, ◌++◌, ◌∙◌}
use Rattle.std.proofs.Common.{ℕ, List, length, get_or, refl, sym, ap, inl, inr, arith}
use Rattle.std.proofs.lemmas.Bool.{cases_eq}
use Rattle.std.proofs.lemmas.List.{length-map, get_or-map}
use Rattle.std.specs.List.{AllZip, swap_remove}
use Rattle.std.specs.List.Sorted.{IsPermutation}
use Rattle.half_edge_links.specs.{AreSoundLinks, Ends, ends, face, face_edge, IsInner, Mesh, next}
use Rattle.half_edge_links.specs.{no_ends, no_triangle, origin, prev, rev, triangle_at, triangles}
use Rattle.half_edge_links.specs.Taken.{RemovesEnds, RemovesTriangle}
use Rattle.half_edge_links.proofs.{count_ends, ends_at, IsTriangle, rev_of_odd}
use Rattle.half_edge_links.proofs.{Sound.Parts.rev_of_even, triangle_at as loop_at}
use Rattle.half_edge_dcel.specs.{Connects, full_edges_of, full_faces_of, FullEdge, FullFace}
use Rattle.half_edge_dcel.specs.{HasCorners, joins, Removal.TakesOutPair, TakesOut}
use Rattle.half_edge_dcel.proofs.TakenOut.{full_edges_taken, full_faces_taken, get_or-full_edges}
use Rattle.half_edge_dcel.proofs.TakenOut.{get_or-full_faces, permuted, taken_item, takes_out}

module _ {D U : Type 0} (m new : Mesh) (us us' : List U) (ds ds' : List D) (e : ℕ)
    (s : AreSoundLinks m) (directed_fit : length ds ≡ length m.half_edges)
    (undirected_fit : 2 * length us ≡ length m.half_edges) (within : e < length m.half_edges) where
  abbrev k : ℕ
  k = e / 2

  -- the ends of the listed edge
  pub listed_ends : (x : FullEdge D U) → x ≡ get_or (full_edges_of (ends m) us ds) k x
      → (x.source ≡ origin m (2 * k)) × (x.target ≡ origin m (2 * k + 1))
  listed_ends x is =
      let n = count_ends m s in
      let even = s.even in
      let p : Ends = record { source = x.source; target = x.target } in
      let second_in : 2 * k + 1 < length m.half_edges = omega (arith, within, even) in
      let read = get_or-full_edges (ends m) us ds k p x.value x.there x.back (omega (
        arith,
        n,
        undirected_fit,
      )) (omega (arith, n, directed_fit)) (omega (arith, n, second_in)) x in
      let at = ends_at m k p s second_in in (
        ap (λ (y : FullEdge D U). y.source) (is ∙ read) ∙ ap (λ (y : Ends). y.source) at,
        ap (λ (y : FullEdge D U). y.target) (is ∙ read) ∙ ap (λ (y : Ends). y.target) at,
      )

  -- it joins the ends of e
  pub between : (x : FullEdge D U) → x ≡ get_or (full_edges_of (ends m) us ds) k x
      → Connects x (joins (origin m e) (origin m (rev e)))
  between x is =
      let at = listed_ends x is in
      elim (cases_eq (e % 2) 0) [
        | inl q ↦
            let e_is : 2 * k ≡ e = omega (arith, q) in
            let t_is : 2 * k + 1 ≡ rev e = ap (λ i. i + 1) e_is ∙ sym (rev_of_even e q) in
            inl (at.0 ∙ ap (origin m) e_is, at.1 ∙ ap (origin m) t_is)
        | inr odd ↦
            let e_is : 2 * k + 1 ≡ e = omega (arith, odd) in
            let zero : (2 * k) % 2 ≡ 0 = omega arith in
            let t_is : 2 * k ≡ rev e = sym (rev_of_odd (2 * k) zero) ∙ ap rev e_is in
            inr (at.0 ∙ ap (origin m) t_is, at.1 ∙ ap (origin m) e_is)
      ]

  -- the edge goes from the list of edges with their data, and the last one takes its place
  pub takes_edge : RemovesEnds m new e → (x : U) → us' ≡ swap_remove us k x → TakesOutPair ds ds' k
      → TakesOut (full_edges_of (ends m) us ds) (full_edges_of (ends new) us' ds') k
  takes_edge r x us_are td =
      let n = count_ends m s in
      let even = s.even in
      let tu : TakesOut us us' k =
      rw us_are (takes_out us k x (omega (arith, undirected_fit, within, even))) in
      let te : TakesOut (ends m) (ends new) k =
      rw r (takes_out (ends m) k no_ends (omega (arith, n, within, even))) in
      full_edges_taken (ends m) (ends new) us us' ds ds' k (omega (arith, n, undirected_fit))
      (omega (arith, n, directed_fit)) te tu td

  -- the edges with their data are the former ones but for one with the ends of e, in some order
  pub loses_edge : TakesOut (full_edges_of (ends m) us ds) (full_edges_of (ends new) us' ds') k
      → (lost : List (FullEdge D U))
      × AllZip Connects lost (joins (origin m e) (origin m (rev e)) ∷ [])
      × IsPermutation (full_edges_of (ends m) us ds) (lost ++ full_edges_of (ends new) us' ds')
  loses_edge taken =
      let x = taken_item (full_edges_of (ends m) us ds) (full_edges_of (ends new) us' ds') k taken
      in
      (x.0 ∷ [], (between x.0 x.1, tt), x.2)

-- the corners of a face, from the edge on that it names
pub named_corners : {F : Type 0} (m : Mesh) (h : ℕ) (x : FullFace F) → AreSoundLinks m
    → h < length m.half_edges → 0 < face m h → x.corners ≡ triangle_at m (face_edge m (face m h))
    → HasCorners x (triangle_at m h)
named_corners m h x s within inner is =
    let t : IsTriangle m h = loop_at m h s within inner in
    elim ((s.edges h within).owned inner) [
      | inl q ↦ inl (is ∙ ap (triangle_at m) q)
      | inr b ↦ elim b [
        | inl q ↦ inr (inl (is ∙ ap (triangle_at m) q ∙ (λ i. record {
          first = origin m (next m h);
          second = origin m (t.next_next i);
          third = origin m (t.prev_next i);
        })))
        | inr q ↦ inr (inr (is ∙ ap (triangle_at m) q ∙ (λ i. record {
          first = origin m (prev m h);
          second = origin m (t.next_prev i);
          third = origin m (t.prev_prev i);
        })))
      ]
    ]

-- the listed face
pub listed_face : {F : Type 0} (m : Mesh) (fs : List F) (f : ℕ) → length fs ≡ length m.face_edges
    → IsInner m f → (d : FullFace F)
    → get_or (full_faces_of (triangles m) fs) (f - 1) d
    ≡ record { corners = triangle_at m (face_edge m f); value = get_or fs (f - 1) d.value }
listed_face m fs f fits inner d =
    let n = length-map m.face_edges (triangle_at m) in
    let within : f - 1 < length (triangles m) = omega (arith, n, inner.0, inner.1) in
    get_or-full_faces (triangles m) fs (f - 1) d.corners d.value (omega (arith, n, fits)) within d
    ∙ ap (λ t. record { corners = t; value = get_or fs (f - 1) d.value }) (get_or-map
    (triangle_at m) m.face_edges (f - 1) 0 d.corners (omega (arith, inner.0, inner.1)))

module _ {F : Type 0} (m new : Mesh) (fs fs' : List F) (f : ℕ) (s : AreSoundLinks m)
    (fits : length fs ≡ length m.face_edges) (inner : IsInner m f) where
  face_taken : RemovesTriangle m new f → (x : F) → fs' ≡ swap_remove fs (f - 1) x
      → TakesOut (full_faces_of (triangles m) fs) (full_faces_of (triangles new) fs') (f - 1)
  face_taken r x fs_are =
      let n = length-map m.face_edges (triangle_at m) in
      let tf : TakesOut fs fs' (f - 1) =
      rw fs_are (takes_out fs (f - 1) x (omega (arith, fits, inner.0, inner.1))) in
      let within : f - 1 < length (triangles m) = omega (arith, n, inner.0, inner.1) in
      let tt' : TakesOut (triangles m) (triangles new) (f - 1) =
      rw r (takes_out (triangles m) (f - 1) no_triangle within) in
      full_faces_taken (triangles m) (triangles new) fs fs' (f - 1) (omega (arith, n, fits)) tt' tf

  -- the faces with their data are the former ones but for face f with its value, in some order
  pub gives_face : (value : F) → value ≡ get_or fs (f - 1) value → RemovesTriangle m new f
      → fs' ≡ swap_remove fs (f - 1) value
      → IsPermutation (full_faces_of (triangles m) fs)
      (record { corners = triangle_at m (face_edge m f); value = value }
      ∷ full_faces_of (triangles new) fs')
  gives_face value is r fs_are =
      let x : FullFace F = record { corners = triangle_at m (face_edge m f); value = value } in
      permuted (full_faces_of (triangles m) fs) (full_faces_of (triangles new) fs') (f - 1) x
      (face_taken r value fs_are)
      (ap (λ v. record { corners = triangle_at m (face_edge m f); value = v }) is
      ∙ sym (listed_face m fs f fits inner x))

-- the face on the left of an edge goes
pub loses_face_at : {F : Type 0} (m new : Mesh) (fs fs' : List F) (h : ℕ) (value : F)
    → AreSoundLinks m → length fs ≡ length m.face_edges → h < length m.half_edges → 0 < face m h
    → value ≡ get_or fs (face m h - 1) value → RemovesTriangle m new (face m h)
    → fs' ≡ swap_remove fs (face m h - 1) value
    → (lost : List (FullFace F)) × AllZip HasCorners lost (triangle_at m h ∷ [])
    × IsPermutation (full_faces_of (triangles m) fs) (lost ++ full_faces_of (triangles new) fs')
loses_face_at {F} m new fs fs' h value s fits within inner is r fs_are =
    let at : IsInner m (face m h) = (inner, (s.edges h within).face_in) in
    let x : FullFace F =
    record { corners = triangle_at m (face_edge m (face m h)); value = value } in (
      x ∷ [],
      (named_corners m h x s within inner refl, tt),
      gives_face m new fs fs' (face m h) s fits at value is r fs_are,
    )
