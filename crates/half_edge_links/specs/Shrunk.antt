-- What calls do that take edges and faces out of a mesh.
use Rattle.std.specs.Prelude.{◌≡◌, ℕ}
use Rattle.half_edge_links.specs.Hull.{IsPendant, KeepsOneOutline}
use Rattle.half_edge_links.specs.Meshes.{face, Mesh, next, origin, prev}
use Rattle.half_edge_links.specs.Outline.{AddsTriangle, ends}
use Rattle.half_edge_links.specs.{Peel.Peels, Remove.ClosesLoop, Remove.Opens, Remove.Removes}
use Rattle.half_edge_links.specs.Taken.{ClosesLoopOuter, OpensOuter, PeelsOuter, RemovesEnds}
use Rattle.half_edge_links.specs.{Taken.RemovesOuter, Taken.RemovesTriangle, Triangles.triangles}

-- face f is given to the outer face: the links, the ends of the edges, the corners of the faces and
-- the outer edges
pub record OpensFace (old new : Mesh) (f : ℕ) : Type 0 where
  pub links : Opens old new f
  pub ends : ends new ≡ ends old
  pub corners : RemovesTriangle old new f
  pub outer : OpensOuter old new f

-- the loop of h is made a new last face: the links, the ends of the edges, its corners and the
-- outer edges
pub record ClosesFace (old new : Mesh) (h : ℕ) : Type 0 where
  pub links : ClosesLoop old new h
  pub ends : ends new ≡ ends old
  pub corners :
      AddsTriangle old new (origin old h) (origin old (next old h)) (origin old (prev old h))
  pub outer : ClosesLoopOuter old new h

-- edge e goes, with the outer face on both sides: the links, the ends of the edges, the corners of
-- the faces and the outer edges
pub record RemovesEdge (old new : Mesh) (e : ℕ) : Type 0 where
  pub links : Removes old new e
  pub ends : RemovesEnds old new e
  pub corners : triangles new ≡ triangles old
  pub outer : RemovesOuter old new e
  pub outline : IsPendant old e → KeepsOneOutline old new

-- edge h goes, and the face on its left with it: the links, the ends of the edges, the corners of
-- the faces and the outer edges
pub record PeelsEdge (old new : Mesh) (h : ℕ) : Type 0 where
  pub links : Peels old new h
  pub ends : RemovesEnds old new h
  pub corners : RemovesTriangle old new (face old h)
  pub outer : PeelsOuter old new h
  pub outline : KeepsOneOutline old new
