-- The order of a line list at work: a vertex, the overlap that begins there, the vertex at its end.
-- Lemmas: vertex_first, overlap_first.
use Rattle.std.proofs.Common.{refl}
use mathlib.Core.Logic.{inl, inr}
use Rattle.plane.specs.{along, at_vertex, BeginsAt, IsBefore, OnSegment, vertex}
use Rattle.plane.specs.SmallCases.{two}
use Rattle.plane.proofs.Nearer.{nothing_nearer, same_not_nearer}
use Rattle.plane.proofs.Segments.{end_on_segment, start_on_segment}

start : OnSegment (vertex two 0) (vertex two 1) (vertex two 0)
start = start_on_segment (vertex two 0) (vertex two 1)

-- the end of the only edge is on it
end : OnSegment (vertex two 0) (vertex two 1) (vertex two 1)
end = end_on_segment (vertex two 0) (vertex two 1)

begins_vertex : BeginsAt two (vertex two 0) (vertex two 1) (at_vertex 0) (vertex two 0)
begins_vertex = record {
  shared = start;
  of_item = record { x = refl; y = refl };
  first = λ r _ _. nothing_nearer (vertex two 0) r;
}

begins_overlap : BeginsAt two (vertex two 0) (vertex two 1) (along 0 1) (vertex two 0)
begins_overlap =
    record { shared = start; of_item = start; first = λ r _ _. nothing_nearer (vertex two 0) r }

begins_end : BeginsAt two (vertex two 0) (vertex two 1) (at_vertex 1) (vertex two 1)
begins_end = record {
  shared = end;
  of_item = record { x = refl; y = refl };
  first = λ r _ e. same_not_nearer (vertex two 0) r (vertex two 1) e;
}

-- on the way along the only edge, the vertex at the start comes before the edge
pub vertex_first : IsBefore two (vertex two 0) (vertex two 1) (at_vertex 0) (along 0 1)
vertex_first = record {
  first = vertex two 0;
  second = vertex two 0;
  first_begins = begins_vertex;
  second_begins = begins_overlap;
  order = inr (record { x = refl; y = refl }, tt);
}

-- on the way along the only edge, the edge comes before the vertex at the end
pub overlap_first : IsBefore two (vertex two 0) (vertex two 1) (along 0 1) (at_vertex 1)
overlap_first = record {
  first = vertex two 0;
  second = vertex two 1;
  first_begins = begins_overlap;
  second_begins = begins_end;
  order = inl (record { nearer = record { lt = tt } });
}
