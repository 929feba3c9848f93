-- The data of an edge that may be a constraint.
use Rattle.std.specs.Prelude.{Bool}
use Rattle.delaunay_legalization.specs.declared.cdt_edge.CdtEdge.{CdtEdge}

-- the flag of an edge's data
abbrev pub is_constraint : {T : Type 0} → CdtEdge T → Bool
is_constraint e = e.is_constraint_edge

-- the data with the flag as b says
abbrev pub with_mark : {T : Type 0} → Bool → CdtEdge T → CdtEdge T
with_mark b e = record e { is_constraint_edge = b }
