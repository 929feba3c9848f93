-- Items of the line list by handles: of a mesh alone, and together with the mesh.
use Rattle.std.specs.Prelude.{◌<◌, Option, Some, None, length}
use Rattle.std.specs.Borrow.{Bor}
use Rattle.plane.specs.{across, along, at_vertex, Item}
use Rattle.half_edge_links.specs.{Mesh, origin, rev}
use Rattle.half_edge_dcel.specs.{Contents, DirectedEdgeHandle}
use Rattle.delaunay_location.specs.declared.intersection.FixedIntersection.{FixedIntersection}
use Rattle.delaunay_location.specs.declared.intersection.FixedIntersection.TheVariants.{Edge}
use Rattle.delaunay_location.specs.declared.intersection.FixedIntersection.TheVariants.{Overlap}
use Rattle.delaunay_location.specs.declared.intersection.FixedIntersection.TheVariants.{Vertex}
use Rattle.delaunay_location.specs.declared.intersection.Intersection.{Intersection}
use Rattle.delaunay_location.specs.declared.intersection.Intersection.TheVariants.{EdgeIntersection}
use Rattle.delaunay_location.specs.declared.intersection.Intersection.TheVariants.{EdgeOverlap}
use Rattle.delaunay_location.specs.declared.intersection.Intersection.TheVariants.{VertexIntersection}

-- the item that handles of mesh m name
abbrev pub item_of : Mesh → FixedIntersection → Item
item_of m (Edge e) = across (origin m e) (origin m (rev e))
item_of m (Vertex v) = at_vertex v
item_of m (Overlap e) = along (origin m e) (origin m (rev e))

-- the handle is one of the mesh
abbrev pub IsHandleOf : {V D U F : Type 0} → Contents V D U F → FixedIntersection → Type 0
IsHandleOf c (Edge e) = e < length c.directed
IsHandleOf c (Vertex v) = v < length c.vertices
IsHandleOf c (Overlap e) = e < length c.directed

-- the mesh of an intersection
abbrev pub mesh_of : {V D U F : Type 0} → Intersection V D U F → Bor (Contents V D U F)
mesh_of (EdgeIntersection e) = e.dcel
mesh_of (VertexIntersection v) = v.dcel
mesh_of (EdgeOverlap e) = e.dcel

-- its item
abbrev pub item_in : {V D U F : Type 0} → Intersection V D U F → Item
item_in (EdgeIntersection e) =
    across (origin e.dcel.now.mesh e.index) (origin e.dcel.now.mesh (rev e.index))
item_in (VertexIntersection v) = at_vertex v.index
item_in (EdgeOverlap e) =
    along (origin e.dcel.now.mesh e.index) (origin e.dcel.now.mesh (rev e.index))

-- the edge that is crossed, if the item is one
abbrev pub crossed_edge : {V D U F : Type 0} → Intersection V D U F
    → Option (DirectedEdgeHandle V D U F)
crossed_edge (EdgeIntersection e) = Some e
crossed_edge (VertexIntersection v) = None
crossed_edge (EdgeOverlap e) = None
