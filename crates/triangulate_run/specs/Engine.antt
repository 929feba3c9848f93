-- The stage of a triangulation of points, and what it needs to answer commands.
use Rattle.std.specs.Prelude.{◌≡◌, ℕ, ℤ, true, List, All, map}
use Rattle.half_edge_links.specs.{Mesh, origin, rev}
use Rattle.{delaunay_core.specs.Point2, triangulate_run.specs.declared.points.SheetPoint.SheetPoint}
use Rattle.delaunay_legalization.specs.{points_and_constraints_by, State.State, triangulation_of}
use Rattle.{delaunay_edit.specs.constraint_edges, delaunay_edit.specs.none, plane.specs.Point}
use Rattle.triangulate_run.specs.{declared.engine.PointEngine.PointEngine, Points.place}
use Rattle.triangulate_run.specs.{declared.engine.Either.Either, Stage.position, Stage.Stage}
use Rattle.triangulate_run.specs.declared.engine.Either.TheVariants.{Constrained, Plain}

-- the stage of a triangulation whose constraints the data of its edges tell
abbrev pub stage_by : {D U F : Type 0} → (List U → List ℕ) → State (Point2 ℤ) D U F → Stage
stage_by constraints s = record {
  plain = points_and_constraints_by constraints s;
  triangulation = triangulation_of position s;
}

-- the stage of a triangulation of either kind, without constraints or with them
abbrev pub stage_of : {L : Type 0} → Either L → Stage
stage_of (Plain s) = stage_by none s
stage_of (Constrained s) = stage_by constraint_edges s

-- each vertex is a site
abbrev pub HasSites : (Point → Type 0) → Stage → Type 0
HasSites sites s = All sites (map position s.plain.vertices)

-- the list's points are covered, its sites are sites, and each vertex is a site
pub record IsStageReady (covered sites : Point → Type 0) (points : List SheetPoint)
    (s : Stage) : Type 0 where
  pub points_covered : All (λ s. covered (place s)) points
  pub points_sites : All (λ s. s.site ≡ true → sites (place s)) points
  pub vertices_sites : HasSites sites s

-- so it is of an engine, whose tests cover such points and have such sites
abbrev pub IsEngineReady : {P L : Type 0} → (P → Point → Type 0) → (P → Point → Type 0)
    → PointEngine P L → Type 0
IsEngineReady covered sites e =
    IsStageReady (covered e.tests.now) (sites e.tests.now) e.points.now (stage_of e.triangulation)

-- the ends of directed edges, in their directions
abbrev pub ends_in : Mesh → List ℕ → List (ℕ × ℕ)
ends_in m edges = map (λ h. (origin m h, origin m (rev h))) edges
