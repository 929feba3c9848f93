-- A reference for writing to the data of an edge that may be a constraint.
use Rattle.std.specs.Borrow.{Lends, MutBor, Fml}
use denote.RattleType.{RattleType}
use Rattle.delaunay_legalization.specs.contracts.cdt_edge.CdtEdge.{the_row}
use Rattle.delaunay_legalization.specs.declared.cdt_edge.CdtEdge.{CdtEdge}

-- the edge ends with the last value behind r as its data
abbrev pub LendsData : (T : RattleType) → MutBor (CdtEdge T.Denot) → MutBor T.Denot → Fml
LendsData T s r = Lends (the_row T) T s r (λ w. record s.now { «data» = w })
