-- Theorems: from a local mesh invariant to the tiling of the hull.
use Rattle.plane_theorems.specs.Tiling.Laws.{EachPointHasOneLocation, HullEdgesCount}
use Rattle.plane_theorems.specs.Tiling.Laws.{LineEdgesCount, LocalMeshesTile, MeshesTile}
use Rattle.plane_theorems.specs.Tiling.Laws.{NoEdgesCross}

-- each field is a theorem
pub record TilingTheorems : Type 0 where
  -- meshes that keep the local invariant tile the hull of their points
  pub local_meshes_tile : LocalMeshesTile
  -- a mesh with its own edges, in the plane or on a line, is a tiling
  pub meshes_tile : MeshesTile
  -- no vertex is strictly within an edge, and edges meet at vertices alone
  pub no_edges_cross : NoEdgesCross
  -- each point is at a vertex, on an edge, inside a face, beside an outer edge or past an end
  -- of the line, or there is no more than one vertex, elsewhere; and it is so in one way alone
  pub each_point_has_one_location : EachPointHasOneLocation
  -- as many edges and faces as the vertices and the outer edges determine
  pub hull_edges_count : HullEdgesCount
  -- on one line there is one edge fewer than vertices
  pub line_edges_count : LineEdgesCount
