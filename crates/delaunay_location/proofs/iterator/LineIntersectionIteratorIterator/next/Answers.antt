use Rattle.std.proofs.Common.{rules, arith}
use Rattle.{delaunay_core.specs.place_of, delaunay_location.proofs.SegmentTests.unless}
use Rattle.delaunay_location.proofs.Turn.{alone_after, apart_after, at_item, counts_more}
use Rattle.delaunay_location.proofs.Turn.{edge_found, gives_some, IsAfterItem, IsItemIn}
use Rattle.delaunay_location.proofs.Turn.{overlap_found, ready_after, vertex_found}
use Rattle.delaunay_location.proofs.iterator.LineIntersectionIteratorIterator.next.Goals as goal

pub after_crossing-next-requires : goal.after_crossing-next-requires
after_crossing-next-requires g c = at_item c.requires c.in_ok-item.was c.in-Edge.is
    c.is_same_point.ensures c.if-is_same_point.false

pub after_vertex-next-requires : goal.after_vertex-next-requires
after_vertex-next-requires g c = at_item c.requires c.in_ok-item.was c.in-Vertex.is
    c.is_same_point.ensures c.if-is_same_point.false

pub after_overlap-next-requires : goal.after_overlap-next-requires
after_overlap-next-requires g c = at_item c.requires c.in_ok-item.was c.in-Overlap.is
    c.is_same_point.ensures c.if-is_same_point.false

pub returns : goal.returns
returns g c =
    let it = c.args.self.now in
    let differs = unless c.is_same_point.ensures in
    let after : IsAfterItem g.V.HasPosition.place it.dcel.now
    (place_of g.V.Scalar.SpadeNum.whole it.from) (place_of g.V.Scalar.SpadeNum.whole it.to)
    c.in_ok-item.item c.if-is_same_point.item c.if-is_same_point.next =
    elim c.if-is_same_point.branch [
      | goal.then-is_same_point w ↦ rw w.next-is
          (alone_after (c.is_same_point.ensures.0 w.if-is_same_point.true) cc)
      | goal.else-is_same_point+in-Edge w ↦ rw (w.next-is, w.in-Edge.is)
          (apart_after (differs w.if-is_same_point.false) w.after_crossing-next.ensures cc)
      | goal.else-is_same_point+in-Vertex w ↦ rw (w.next-is, w.in-Vertex.is)
          (apart_after (differs w.if-is_same_point.false) w.after_vertex-next.ensures cc)
      | goal.else-is_same_point+in-Overlap w ↦ rw (w.next-is, w.in-Overlap.is)
          (apart_after (differs w.if-is_same_point.false) w.after_overlap-next.ensures cc)
    ] in
    let found : IsItemIn it.dcel c.if-is_same_point.item c.match-item-2.found =
    elim c.match-item-2.branch [
      | goal.in-Edge-item w ↦ rw (w.found-is, w.in-Edge-item.is)
          (edge_found w.directed_edge.ensures.dcel w.directed_edge.ensures.index)
      | goal.in-Vertex-item w ↦ rw (w.found-is, w.in-Vertex-item.is)
          (vertex_found w.vertex.ensures.dcel w.vertex.ensures.index)
      | goal.in-Overlap-item w ↦ rw (w.found-is, w.in-Overlap-item.is) (overlap_found
          w.directed_edge-in-Overlap-item.ensures.dcel
          w.directed_edge-in-Overlap-item.ensures.index)
    ] in
    let ready = ready_after c.requires c.in_ok-item.was after in
    let more = counts_more c.requires c.in_ok-item.was in
    record {
      steps = gives_some c.requires c.in_ok-item.was after found;
      goes = record {
        on = λ f. (ready, f, omega (arith, more));
        keeps = ready;
        rests = λ f. search rules;
      };
    }
