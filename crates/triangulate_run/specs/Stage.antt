-- What stands between two lines: the vertices and constraints so far, and a triangulation of them.
use Rattle.std.specs.Prelude.{◌≡◌, ℕ, ℤ, [], map}
use Rattle.plane.specs.{IsConstrainedDelaunay, IsFace, IsPlain, IsStrictlyEmpty, Plain, Point}
use Rattle.plane_theorems.specs.{IsHistoryFree}
use Rattle.{delaunay_core.specs.place_of, delaunay_core.specs.Point2, plane.specs.Triangulation}

-- where a vertex is, which is a point and no more
abbrev pub position : Point2 ℤ → Point
position p = place_of (λ z. z) p

-- the vertices and constraints that stand, and a triangulation of them
pub record Stage : Type 0 where
  pub plain : Plain (Point2 ℤ)
  pub triangulation : Triangulation

-- before the first line
abbrev pub first_stage : Stage
first_stage = record {
  plain = record { vertices = []; constraints = [] };
  triangulation = record { points = []; faces = []; edges = [] };
}

-- the triangulation is a constrained Delaunay one of these vertices and constraints, without
-- constraints each strictly empty triple is a face of it, and its faces depend on them alone, not
-- on the lines that led here
pub record Fits (s : Stage) : Type 0 where
  pub is_plain : IsPlain position s.plain
  pub points : s.triangulation.points ≡ map position s.plain.vertices
  pub delaunay : IsConstrainedDelaunay s.triangulation s.plain.constraints
  pub empty_triples : s.plain.constraints ≡ [] → (i j k : ℕ) → IsStrictlyEmpty s.triangulation i j k
      → IsFace s.triangulation i j k
  pub history_free : IsHistoryFree s.triangulation s.plain.constraints
