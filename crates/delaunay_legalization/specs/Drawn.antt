-- The faces, edges and outer edges of a mesh, by the indexes of their vertices.
-- faces_of m: the inner faces, by index
-- edges_of m: the undirected edges, by index
-- outer_of m: the directed edges with the outer face on their left
-- drawn points m: points, with the faces and edges of a mesh
-- corners_of, pair_of: the corners of one face as a `Face`; the ends of one edge as a pair
use Rattle.std.specs.Prelude.{ℕ, List, map}
use Rattle.plane.specs.{Face, Point, Triangulation}
use Rattle.half_edge_links.specs.{Ends, ends, Mesh, outline, Triangle, triangles}

-- three corners as a face of a triangulation
abbrev pub corners_of : Triangle → Face
corners_of t = record { a = t.first; b = t.second; c = t.third }

-- the ends of an edge as a pair
abbrev pub pair_of : Ends → ℕ × ℕ
pair_of e = (e.source, e.target)

-- the inner faces, by rising index
abbrev pub faces_of : Mesh → List Face
faces_of m = map corners_of (triangles m)

-- the undirected edges, by rising index
abbrev pub edges_of : Mesh → List (ℕ × ℕ)
edges_of m = map pair_of (ends m)

-- the directed edges with the outer face on their left
abbrev pub outer_of : Mesh → List (ℕ × ℕ)
outer_of m = map pair_of (outline m)

-- points, with the faces and edges of a mesh
abbrev pub drawn : List Point → Mesh → Triangulation
drawn points m = record { points = points; faces = faces_of m; edges = edges_of m }
