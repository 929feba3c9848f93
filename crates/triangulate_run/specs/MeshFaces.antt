-- The faces of a mesh as they are written.
use Rattle.std.specs.Prelude.{ℕ}
use Rattle.half_edge_links.specs.{face_edge, Mesh, Triangle, triangle_at}
use Rattle.triangulate_run.specs.{Corners.least_first, declared.corners.Corners.Corners}

-- the corners of a face as they are written, from the least on
abbrev pub row_of : Triangle → Corners
row_of t = least_first t.first t.second t.third

-- a face, by its index
abbrev pub row_at : Mesh → ℕ → Corners
row_at m f = row_of (triangle_at m (face_edge m f))
