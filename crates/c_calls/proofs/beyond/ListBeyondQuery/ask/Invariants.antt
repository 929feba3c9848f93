use Rattle.delaunay_legalization.specs.{triangulation_of}
use Rattle.c_calls.specs.{Answered, Beyond.raw_sides, IsFlagAt, kept_place}
use Rattle.c_calls.proofs.beyond.ListBeyondQuery.ask.Given as goal

abbrev pub invariant-loop-index : goal.invariant-loop-index
invariant-loop-index g l = let s = g.T.Triangulation.state l.points in
    Answered (IsFlagAt (triangulation_of kept_place s) (raw_sides l.self.within)) l.index l.fn.flags
    l.flags
