-- What stays where a segment between two vertices is made an edge.
use Rattle.std.specs.Prelude.{◌≡◌, ℕ, List, Some, slice_get}
use Rattle.plane.specs.{Cross, place, Point}
use Rattle.half_edge_links.specs.{Mesh, Triangle, triangles}
use Rattle.delaunay_legalization.specs.{GoSameDirection}
use Rattle.delaunay_edit.specs.Crossing.{CrossesSegment}

-- each edge that does not cross the segment from i to j joins what it joined, under its index
abbrev pub KeepsUncrossed : List Point → Mesh → Mesh → ℕ → ℕ → Type 0
KeepsUncrossed points old new i j =
    (h : ℕ) → ¬ CrossesSegment points old i j h → GoSameDirection old h new h

-- each inner face with no side that crosses the segment from i to j has its corners, under its
-- index
abbrev pub KeepsUncrossedFaces : List Point → Mesh → Mesh → ℕ → ℕ → Type 0
KeepsUncrossedFaces points old new i j =
    (f : ℕ) (t : Triangle) → slice_get (triangles old) f ≡ Some t
    → ¬ Cross (place points i) (place points j) (place points t.first) (place points t.second)
    → ¬ Cross (place points i) (place points j) (place points t.second) (place points t.third)
    → ¬ Cross (place points i) (place points j) (place points t.third) (place points t.first)
    → slice_get (triangles new) f ≡ Some t
