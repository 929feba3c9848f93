-- What becomes of the data of edges and faces when a vertex goes.
use Rattle.std.specs.Prelude.{◌≡◌, ◌≢◌, ◌⊎◌, ◌-◌, ◌/◌, ◌<◌}
use Rattle.std.specs.Prelude.{ℕ, List, length, Some, slice_get, Contains}
use Rattle.half_edge_links.specs.{moved, origin, rev, Triangle, triangles}
use Rattle.half_edge_dcel.specs.{Contents, full_edges, full_faces, FullEdge, FullFace}
use Rattle.delaunay_legalization.specs.{faces_of, HaveSameCorners, State.State}
use Rattle.{delaunay_vertices.specs.Pairs.MakesFaces, half_edge_dcel.specs.renumbered_edge}

-- an edge that ends at vertex v has these undirected data
pub record HasValueAt {V D U F : Type 0} (c : Contents V D U F) (v : ℕ) (value : U) : Type 0 where
  pub edge : FullEdge D U
  pub there : Contains (full_edges c) edge
  pub ends : (edge.source ≡ v) ⊎ (edge.target ≡ v)
  pub same : edge.value ≡ value

-- each undirected edge that does not end at vertex v, with all its data, and each inner face
-- without this corner, with its data, is there afterwards. An edge that is there afterwards was
-- there, or has the undirected data of one that ended at v, and each side of a face that was not
-- there is one of the pairs, lay opposite v, or ends at v
pub record StandsBeside {V D U F : Type 0} (old new : Contents V D U F) (v : ℕ)
    (pairs : List (ℕ × ℕ)) : Type 0 where
  pub edges : (e : FullEdge D U) → Contains (full_edges old) e → e.source ≢ v → e.target ≢ v
      → Contains (full_edges new) e
  pub faces : (f : FullFace F) → Contains (full_faces old) f → f.corners.first ≢ v
      → f.corners.second ≢ v → f.corners.third ≢ v → Contains (full_faces new) f
  pub comes : (e : FullEdge D U) → Contains (full_edges new) e
      → Contains (full_edges old) e ⊎ HasValueAt old v e.value
  pub made : MakesFaces v pairs (faces_of old.mesh) (faces_of new.mesh)

-- vertex v went and the last vertex took its index: each edge that did not end at v is there
-- afterwards, with all its data, and an edge that is there afterwards was there so, or has the
-- undirected data of one that ended at v
pub record RenumbersEdges {V D U F : Type 0} (old new : Contents V D U F) (v : ℕ) : Type 0 where
  pub goes : (e : FullEdge D U) → Contains (full_edges old) e → e.source ≢ v → e.target ≢ v
      → Contains (full_edges new) (renumbered_edge (length old.vertices - 1) v e)
  pub comes : (e : FullEdge D U) → Contains (full_edges new) e
      → ((x : FullEdge D U) × Contains (full_edges old) x
      × (renumbered_edge (length old.vertices - 1) v x ≡ e)) ⊎ HasValueAt old v e.value

-- directed edge h has the ends of the former edge g, where vertex `last` has taken index v, with
-- its data, and its undirected edge has those of the one of g
pub record HasDataOfEdge {V D U F : Type 0} (old new : State V D U F)
    (last v g h : ℕ) : Type 0 where
  pub within : h < length new.directed
  pub starts : origin new.mesh h ≡ moved last v (origin old.mesh g)
  pub ends : origin new.mesh (rev h) ≡ moved last v (origin old.mesh (rev g))
  pub directed : slice_get new.directed h ≡ slice_get old.directed g
  pub undirected : slice_get new.undirected (h / 2) ≡ slice_get old.undirected (g / 2)

-- the corners of a face, where vertex `last` has taken index v
abbrev pub renumbered_corners : ℕ → ℕ → Triangle → Triangle
renumbered_corners last v t = record {
  first = moved last v t.first;
  second = moved last v t.second;
  third = moved last v t.third;
}

-- the inner face at index g of the list has the corners t of the former one at index f, where
-- vertex `last` has taken index v, and its data
pub record HasDataOfFace {V D U F : Type 0} (old new : State V D U F) (last v f : ℕ) (t : Triangle)
    (g : ℕ) : Type 0 where
  pub corners : slice_get (triangles new.mesh) g ≡ Some (renumbered_corners last v t)
  pub value : slice_get new.faces g ≡ slice_get old.faces f

-- vertex v went and the last vertex took its index: each edge that did not end at v stands
-- afterwards and has the data that it had, as a directed edge and as an undirected one. So does
-- each inner face without the corner v, and the outer face
pub record KeepsDataBeside {V D U F : Type 0} (old new : State V D U F) (v : ℕ) : Type 0 where
  pub edges : (g : ℕ) → g < length old.directed → origin old.mesh g ≢ v → origin old.mesh (rev g)
      ≢ v → (h : ℕ) × HasDataOfEdge old new (length old.vertices - 1) v g h
  pub faces : (f : ℕ) (t : Triangle) → slice_get (triangles old.mesh) f ≡ Some t → t.first ≢ v
      → t.second ≢ v → t.third ≢ v
      → (g : ℕ) × HasDataOfFace old new (length old.vertices - 1) v f t g
  pub outer : new.outer ≡ old.outer

-- directed edge h goes the same way as the former edge g, where vertex `last` has taken index v
abbrev pub GoesWayOf : {V D U F : Type 0} → State V D U F → State V D U F → ℕ → ℕ → ℕ → ℕ → Type 0
GoesWayOf old new last v g h = (origin new.mesh h ≡ moved last v (origin old.mesh g))
    × (origin new.mesh (rev h) ≡ moved last v (origin old.mesh (rev g)))

-- vertex v went and the last vertex took its index: an edge that did not end at v, and that stands
-- before and after by the vertices that it joins, has the data that it had, as a directed edge and
-- as an undirected one. So has an inner face without the corner v, by its corners, and the outer
-- face
pub record KeepsDataOfOthers {V D U F : Type 0} (old new : State V D U F) (v : ℕ) : Type 0 where
  pub directed : (g h : ℕ) → g < length old.directed → h < length new.directed → origin old.mesh g
      ≢ v → origin old.mesh (rev g) ≢ v → GoesWayOf old new (length old.vertices - 1) v g h
      → slice_get new.directed h ≡ slice_get old.directed g
  pub undirected : (g h : ℕ) → g < length old.directed → h < length new.directed → origin old.mesh g
      ≢ v → origin old.mesh (rev g) ≢ v → GoesWayOf old new (length old.vertices - 1) v g h
      → slice_get new.undirected (h / 2) ≡ slice_get old.undirected (g / 2)
  pub faces : (f g : ℕ) (t u : Triangle) → slice_get (triangles old.mesh) f ≡ Some t
      → slice_get (triangles new.mesh) g ≡ Some u → t.first ≢ v → t.second ≢ v → t.third ≢ v
      → HaveSameCorners (renumbered_corners (length old.vertices - 1) v t) u
      → slice_get new.faces g ≡ slice_get old.faces f
  pub outer : new.outer ≡ old.outer
