use Rattle.std.proofs.Common.{◌<◌, ℕ}
use Rattle.drawing_faces.specs.{lists_in, PolygonSearch.AreEvenAt, sides_in}
use Rattle.drawing_faces.proofs.polygons.PolygonsOfFaces.is_even.Given as goal

abbrev pub invariant-loop-index : goal.invariant-loop-index
invariant-loop-index g l = (h : ℕ) → h < l.index
    → AreEvenAt l.dcel.mesh (sides_in l.borders) l.self.labels.items (lists_in l.self) h
