-- The data of what was not at a vertex that went, after edges are turned in the mesh that it left.
-- Lemmas: others_keep_data, legalized_keeps_others.
use Rattle.std.proofs.Common.{◌≡◌, ◌≢◌, ℕ, ◌-◌, ◌/◌, ◌<◌, length, Some, sym, ap, ◌∙◌, subst}
use Rattle.std.specs.Prelude.{slice_get}
use Rattle.half_edge_links.specs.{origin, rev, Triangle, triangles}
use Rattle.{half_edge_dcel.specs.Contents, plane.specs.Point}
use Rattle.delaunay_legalization.specs.{HaveSameCorners, IsTriangulated, KeepsIndexes, state_of}
use Rattle.{delaunay_legalization.specs.State.State, delaunay_vertices.specs.KeepsDataOfOthers}
use Rattle.delaunay_vertices.specs.{HasDataOfEdge, HasDataOfFace, KeepsDataBeside}
use Rattle.delaunay_vertices.specs.RemovalData.{GoesWayOf, renumbered_corners}

module _ {V D U F : Type 0} (old mid new : State V D U F) (v : ℕ)
    (beside : KeepsDataBeside old mid v) (between : length mid.directed
    ≡ length mid.mesh.half_edges) (after : length new.directed ≡ length new.mesh.half_edges)
    (same : new ≡ record mid { mesh = new.mesh }) (indexes : KeepsIndexes mid.mesh new.mesh) where
  abbrev last : ℕ
  last = length old.vertices - 1

  -- the edge that stood in between has the index of the one that stands afterwards
  one_edge : (g h k : ℕ) → h < length new.directed → HasDataOfEdge old mid last v g k
      → GoesWayOf old new last v g h → h ≡ k
  one_edge g h k within was way = indexes.edges k h (subst (λ n. k < n) between was.within)
      (subst (λ n. h < n) after within) (way.0 ∙ sym was.starts, way.1 ∙ sym was.ends)

  edge_data : (g h : ℕ) → g < length old.directed → h < length new.directed → origin old.mesh g ≢ v
      → origin old.mesh (rev g) ≢ v → GoesWayOf old new last v g h
      → (k : ℕ) × HasDataOfEdge old mid last v g k × (h ≡ k)
  edge_data g h w x starts ends way = let found = beside.edges g w starts ends in
      (found.0, found.1, one_edge g h found.0 x found.1 way)

  -- so has the face
  face_data : (f g : ℕ) (t u : Triangle) → slice_get (triangles new.mesh) g ≡ Some u
      → HaveSameCorners (renumbered_corners last v t) u
      → (k : ℕ) × HasDataOfFace old mid last v f t k → slice_get new.faces g ≡ slice_get old.faces f
  face_data f g t u q corners found =
      ap (λ s. slice_get s.faces g) same ∙ ap (slice_get mid.faces)
      (indexes.faces found.0 g (renumbered_corners last v t) u found.1.corners q corners)
      ∙ found.1.value

  -- what was not at the vertex, and stands after the turns, has the data that it had
  pub others_keep_data : KeepsDataOfOthers old new v
  others_keep_data = record {
    directed = λ g h w x starts ends way. let d = edge_data g h w x starts ends way in
        ap (λ s. slice_get s.directed h) same ∙ ap (slice_get mid.directed) d.2 ∙ d.1.directed;
    undirected = λ g h w x starts ends way. let d = edge_data g h w x starts ends way in
        ap (λ s. slice_get s.undirected (h / 2)) same
        ∙ ap (λ (k : ℕ). slice_get mid.undirected (k / 2)) d.2 ∙ d.1.undirected;
    faces = λ f g t u p q a b c corners. face_data f g t u q corners (beside.faces f t p a b c);
    outer = ap (λ s. s.outer) same ∙ beside.outer;
  }

-- a vertex went, and the mesh that it left was legalized
pub legalized_keeps_others :
    {V D U F : Type 0} (at : V → Point) (old : State V D U F) (mid new : Contents V D U F) (v : ℕ)
    → KeepsDataBeside old (state_of mid) v → IsTriangulated at (state_of mid)
    → IsTriangulated at (state_of new) → new ≡ record mid { mesh = new.mesh }
    → KeepsIndexes mid.mesh new.mesh → KeepsDataOfOthers old (state_of new) v
legalized_keeps_others at old mid new v beside before after same indexes =
    others_keep_data old (state_of mid) (state_of new) v beside before.fits.directed_fit
    after.fits.directed_fit (ap state_of same) indexes
