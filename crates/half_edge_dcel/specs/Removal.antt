-- A mesh with data after calls that take parts out of it.
-- FullFace, full_faces: an inner face with corners and data; all of them, by index
-- FullEdge, full_edges: an undirected edge with its ends and all its data; all of them, by index
-- HasCorners f t: the face has these corners, in any rotation
-- Connects e p: the edge has these ends, in either order
-- faces_between v n k, spokes_to v n k: the first k faces, and edges, at v between the vertices n
--   0, n 1, ..
-- LosesEdges, LosesFaces: these edges, or faces, are gone; the others are there with their data
-- FillsHole old new v n: an inner vertex with three faces loses its edges, and one face takes the
--   place of the three
-- LosesStrip old new v n k: a hull vertex loses its edges, and its k faces are gone
-- DropsVertex old new v value: vertex v, with this data, goes, and the last vertex gets its index
-- OuterSumsChange old new gone made: the outer edges gone and made, as sums over directed pairs
use Rattle.std.specs.Prelude.{◌≡◌, ◌≢◌, ◌⊎◌, ◌+◌, ◌-◌, ◌*◌, ◌<◌, [], ◌∷◌, ◌++◌, ◌+ℤ◌}
use Rattle.std.specs.Prelude.{ℕ, zero, suc, List, length, map, Some, slice_get, slice_index}
use Rattle.std.specs.Prelude.{slice_index_or, ℤ, Contains}
use Rattle.std.specs.List.{swap_remove, AllZip}
use Rattle.std.specs.List.Sorted.{IsPermutation}
use Rattle.half_edge_links.specs.{Ends, ends, IsAlone, IsStrip, KeepsOneOutline, Mesh, moved, next}
use Rattle.half_edge_links.specs.{origin, out_edge, outline, prev, rev, spoke, total, Triangle}
use Rattle.half_edge_links.specs.{triangles, turn}
use Rattle.half_edge_links.specs.Flow.{along}
use Rattle.half_edge_dcel.specs.{Growth.joins, MeshContents.Contents, MeshContents.IsMeshWithData}

-- item k goes, and the last one takes its place
pub record TakesOut {X : Type 0} (old new : List X) (k : ℕ) : Type 0 where
  pub within : k < length old
  pub count : length new + 1 ≡ length old
  pub here : (d : X) → k + 1 < length old
      → slice_index_or new k d ≡ slice_index_or old (length old - 1) d
  pub other : (j : ℕ) (d : X) → j ≢ k → j + 1 < length old
      → slice_index_or new j d ≡ slice_index_or old j d

-- items 2 k and 2 k + 1 go, and the last two take their places
pub record TakesOutPair {X : Type 0} (old new : List X) (k : ℕ) : Type 0 where
  pub within : 2 * k + 1 < length old
  pub count : length new + 2 ≡ length old
  pub first : (d : X) → 2 * k + 3 < length old
      → slice_index_or new (2 * k) d ≡ slice_index_or old (length old - 2) d
  pub second : (d : X) → 2 * k + 3 < length old
      → slice_index_or new (2 * k + 1) d ≡ slice_index_or old (length old - 1) d
  pub other : (j : ℕ) (d : X) → j ≢ 2 * k → j ≢ 2 * k + 1 → j + 2 < length old
      → slice_index_or new j d ≡ slice_index_or old j d

-- an undirected edge with all its data: the vertices that it joins, in the order of its even
-- directed edge, its data, and those of its even and its odd directed edge
pub record FullEdge (D U : Type 0) : Type 0 where
  pub source : ℕ
  pub target : ℕ
  pub value : U
  pub there : D
  pub back : D

-- undirected edges, put together of their ends, their data and the data of their two directed edges
abbrev pub full_edges_of : {D U : Type 0} → List Ends → List U → List D → List (FullEdge D U)
full_edges_of [] us ds = []
full_edges_of (e ∷ es) [] ds = []
full_edges_of (e ∷ es) (u ∷ us) [] = []
full_edges_of (e ∷ es) (u ∷ us) (a ∷ []) = []
full_edges_of (e ∷ es) (u ∷ us) (a ∷ b ∷ ds) =
    record { source = e.source; target = e.target; value = u; there = a; back = b }
    ∷ full_edges_of es us ds

-- the undirected edges with all their data, by rising index
abbrev pub full_edges : {V D U F : Type 0} → Contents V D U F → List (FullEdge D U)
full_edges c = full_edges_of (ends c.mesh) c.undirected c.directed

-- an inner face: its corners, in their order round it, and its data
pub record FullFace (F : Type 0) : Type 0 where
  pub corners : Triangle
  pub value : F

-- inner faces, put together of their corners and their data
abbrev pub full_faces_of : {F : Type 0} → List Triangle → List F → List (FullFace F)
full_faces_of [] fs = []
full_faces_of (t ∷ ts) [] = []
full_faces_of (t ∷ ts) (f ∷ fs) = record { corners = t; value = f } ∷ full_faces_of ts fs

-- the inner faces with their data, by rising index
abbrev pub full_faces : {V D U F : Type 0} → Contents V D U F → List (FullFace F)
full_faces c = full_faces_of (triangles c.mesh) c.faces

-- an edge with these ends, either first
abbrev pub Connects : {D U : Type 0} → FullEdge D U → Ends → Type 0
Connects e p = ((e.source ≡ p.source) × (e.target ≡ p.target))
    ⊎ ((e.source ≡ p.target) × (e.target ≡ p.source))

-- a face with these corners in this order, from any of them on
abbrev pub HasCorners : {F : Type 0} → FullFace F → Triangle → Type 0
HasCorners f t =
    (f.corners ≡ t) ⊎ ((f.corners ≡ record { first = t.second; second = t.third; third = t.first })
    ⊎ (f.corners ≡ record { first = t.third; second = t.first; third = t.second }))

-- the edges are the former ones but for some with these ends, in some order
abbrev pub LosesEdges : {V D U F : Type 0} → Contents V D U F → Contents V D U F
    → List Ends → Type 0
LosesEdges {V} {D} {U} {F} old new gone = (lost : List (FullEdge D U)) × AllZip Connects lost gone
    × IsPermutation (full_edges old) (lost ++ full_edges new)

-- the inner faces are the former ones but for some with these corners, in some order
abbrev pub LosesFaces : {V D U F : Type 0} → Contents V D U F → Contents V D U F
    → List Triangle → Type 0
LosesFaces {V} {D} {U} {F} old new gone = (lost : List (FullFace F)) × AllZip HasCorners lost gone
    × IsPermutation (full_faces old) (lost ++ full_faces new)

-- the inner faces are the former ones but for one with these corners, listed from this one on, and
-- this data
abbrev pub GivesFace : {V D U F : Type 0} → Contents V D U F → Contents V D U F
    → Triangle → F → Type 0
GivesFace old new corners value =
    IsPermutation (full_faces old) (record { corners = corners; value = value } ∷ full_faces new)

-- the outer edges are the former ones, without those that are gone, and those that were made: as
-- sums of any number that a direction has
abbrev pub OuterSumsChange : Mesh → Mesh → List Ends → List Ends → Type 0
OuterSumsChange old new gone made =
    (f : ℕ → ℕ → ℤ) → total (along f) (outline new) +ℤ total (along f) gone
    ≡ total (along f) (outline old) +ℤ total (along f) made

-- the index of a vertex where vertex v has gone and the last of them, `last`, has taken its index
abbrev pub renumbered_edge : {D U : Type 0} → ℕ → ℕ → FullEdge D U → FullEdge D U
renumbered_edge last v e =
    record e { source = moved last v e.source; target = moved last v e.target }

-- a face under new indexes, where vertex v has gone and the last one has taken its index
abbrev pub renumbered_face : {F : Type 0} → ℕ → ℕ → FullFace F → FullFace F
renumbered_face last v f = record f {
  corners = record {
    first = moved last v f.corners.first;
    second = moved last v f.corners.second;
    third = moved last v f.corners.third;
  };
}

-- the ends of an edge under new indexes, where vertex v has gone and the last one has taken its
-- index
abbrev pub renumbered_ends : ℕ → ℕ → Ends → Ends
renumbered_ends last v e = record { source = moved last v e.source; target = moved last v e.target }

-- vertex v, with this data, goes, and the last vertex takes its index: in the ends of the edges,
-- the corners of the faces and the outer edges
pub record DropsVertex {V D U F : Type 0} (old new : Contents V D U F) (v : ℕ)
    (value : V) : Type 0 where
  pub had : slice_get old.vertices v ≡ Some value
  pub contents : new ≡ record old { mesh = new.mesh; vertices = swap_remove old.vertices v value }
  pub edges : full_edges new ≡ map (renumbered_edge (length old.vertices - 1) v) (full_edges old)
  pub faces : full_faces new ≡ map (renumbered_face (length old.vertices - 1) v) (full_faces old)
  pub outer : outline new.mesh
      ≡ map (renumbered_ends (length old.vertices - 1) v) (outline old.mesh)

-- two edges of vertex v, to u and to w, give way to one between these, with all data of the one to
-- u
pub record JoinsNeighbours {V D U F : Type 0} (old new : Contents V D U F)
    (v u w : ℕ) : Type 0 where
  pub kept : FullEdge D U
  pub kept_is : Connects kept (joins u v)
  pub moved : FullEdge D U
  pub moved_is : ((kept.source ≡ u) × (moved ≡ record kept { source = u; target = w }))
      ⊎ ((kept.source ≡ v) × (moved ≡ record kept { source = w; target = u }))
  pub lost : FullEdge D U
  pub lost_is : Connects lost (joins v w)
  pub rest : List (FullEdge D U)
  pub was : IsPermutation (full_edges old) (lost ∷ kept ∷ rest)
  pub is : IsPermutation (full_edges new) (moved ∷ rest)

-- vertex v has at most two edges, whose other ends differ; an edge that is joined to no other is
-- the only one
pub record HasFewEdges (m : Mesh) (v : ℕ) : Type 0 where
  pub few : (first : ℕ) → out_edge m v ≡ Some first → (turn m first ≡ first)
      ⊎ ((turn m (turn m first) ≡ first) × (origin m (rev first) ≢ origin m (rev (turn m first))))
  pub whole : (first : ℕ) → out_edge m v ≡ Some first → next m first ≡ rev first
      → prev m first ≡ rev first → length m.half_edges ≡ 2

-- vertex v of a line has no edges any more: it had none, or one, or two, whose other ends are
-- joined now
pub record LeavesLine {V D U F : Type 0} (old new : Contents V D U F) (v : ℕ) : Type 0 where
  pub contents : new
      ≡ record old { mesh = new.mesh; directed = new.directed; undirected = new.undirected }
  pub alone : IsAlone new.mesh v
  pub how : (new ≡ old) ⊎ (((u : ℕ) × (u ≢ v) × LosesEdges old new (joins v u ∷ [])
      × OuterSumsChange old.mesh new.mesh (joins v u ∷ joins u v ∷ []) [])
      ⊎ ((u : ℕ) × (w : ℕ) × (u ≢ w) × JoinsNeighbours old new v u w × OuterSumsChange old.mesh
      new.mesh (joins v u ∷ joins u v ∷ joins v w ∷ joins w v ∷ []) (joins u w ∷ joins w u ∷ [])))

-- vertex v goes from a line: its neighbours, if it has two, are joined, and the last vertex takes
-- its index
pub record LeavesMesh {V D U F : Type 0} (old new : Contents V D U F) (v : ℕ)
    (value : V) : Type 0 where
  pub between : Contents V D U F
  pub leaves : LeavesLine old between v
  pub whole : IsMeshWithData between
  pub drops : DropsVertex between new v value

-- the edges from vertex v to the first k vertices n 0, n 1, .. round it, the last of them first
abbrev pub spokes_to : ℕ → (ℕ → ℕ) → ℕ → List Ends
spokes_to v n zero = []
spokes_to v n (suc k) = joins v (n k) ∷ spokes_to v n k

-- the first k faces between v and two vertices that follow each other, the last of them first
abbrev pub faces_between : ℕ → (ℕ → ℕ) → ℕ → List Triangle
faces_between v n zero = []
faces_between v n (suc k) =
    record { first = v; second = n k; third = n (suc k) } ∷ faces_between v n k

-- the ways from each of the first k vertices to the next, the last of them first
abbrev pub chain : (ℕ → ℕ) → ℕ → List Ends
chain n zero = []
chain n (suc k) = joins (n k) (n (suc k)) ∷ chain n k

-- the edge to the start of the first of the sides opposite a vertex
abbrev pub first_spoke : Mesh → List ℕ → ℕ
first_spoke m sides = prev m (slice_index sides 0)

-- these are the sides opposite a vertex on the hull, in their order round it
pub record AreSidesOf (m : Mesh) (edges : List ℕ) : Type 0 where
  pub some : 0 < length edges
  pub within : slice_index edges 0 < length m.half_edges
  pub strip : IsStrip m (first_spoke m edges) (length edges)
  pub sides : (i : ℕ) → i < length edges
      → slice_index edges i ≡ next m (spoke m (first_spoke m edges) i)

-- vertex v on the hull, with faces between the vertices n 0, n 1, .. n k that follow each other
-- round it, has no edges any more, and these faces are gone
pub record LosesStrip {V D U F : Type 0} (old new : Contents V D U F) (v : ℕ) (n : ℕ → ℕ)
    (k : ℕ) : Type 0 where
  pub contents : new ≡ record old
      { mesh = new.mesh; directed = new.directed; undirected = new.undirected; faces = new.faces }
  pub alone : IsAlone new.mesh v
  pub edges : LosesEdges old new (spokes_to v n (suc k))
  pub faces : LosesFaces old new (faces_between v n k)
  pub outer : OuterSumsChange old.mesh new.mesh (joins (n 0) v ∷ joins v (n k) ∷ []) (chain n k)
  pub outline : KeepsOneOutline old.mesh new.mesh

-- inner vertex v, with faces between the three vertices n 0, n 1, n 2 round it, has no edges any
-- more; one face of the three vertices takes the place of these faces, with the data of one of them
pub record FillsHole {V D U F : Type 0} (old new : Contents V D U F) (v : ℕ)
    (n : ℕ → ℕ) : Type 0 where
  pub contents : new ≡ record old
      { mesh = new.mesh; directed = new.directed; undirected = new.undirected; faces = new.faces }
  pub alone : IsAlone new.mesh v
  pub edges : LosesEdges old new (spokes_to v n 3)
  pub lost : List (FullFace F)
  pub lost_are : AllZip HasCorners lost (faces_between v n 3)
  pub made : FullFace F
  pub made_is : HasCorners made (record { first = n 0; second = n 1; third = n 2 })
  pub former : (f : FullFace F) × Contains lost f × (made.value ≡ f.value)
  pub rest : List (FullFace F)
  pub was : IsPermutation (full_faces old) (lost ++ rest)
  pub is : IsPermutation (full_faces new) (made ∷ rest)
  pub outer : OuterSumsChange old.mesh new.mesh [] []
  pub outline : KeepsOneOutline old.mesh new.mesh
