use Rattle.std.proofs.Common.{◌<◌, ℕ}
use Rattle.drawing_faces.specs.PolygonSearch.{IsClosedAt}
use Rattle.drawing_faces.proofs.polygons.PolygonsOfFaces.open_edge.Given as goal

abbrev pub invariant-loop-index : goal.invariant-loop-index
invariant-loop-index g l = (h : ℕ) → h < l.index → IsClosedAt l.dcel.mesh l.self.labels.items h
