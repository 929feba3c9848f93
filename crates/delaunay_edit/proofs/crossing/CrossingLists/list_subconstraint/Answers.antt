use Rattle.std.proofs.Common.{◌≡◌, ◌∙◌, ap, eq-eqb, refl, rules}
use Rattle.delaunay_location.specs.{item_in}
use Rattle.delaunay_edit.proofs.Listing.{subconstraint_walk_along, subconstraint_walk_begins}
use Rattle.delaunay_edit.proofs.Listing.{subconstraint_walk_crosses, subconstraint_walk_ends}
use Rattle.delaunay_edit.proofs.Listing.{subconstraint_walk_has_room, subconstraint_walk_stays}
use Rattle.{delaunay_edit.proofs.Listing.twin_of, delaunay_legalization.proofs.both_ways}
use Rattle.delaunay_edit.proofs.NextVertex.{seeking_begins, seeking_never_ends, vertex_item}
use Rattle.delaunay_edit.proofs.crossing.CrossingLists.list_subconstraint.Goals as goal

pub loop-item-init : goal.loop-item-init
loop-item-init g c =
    let line = c.line_between_vertices-line.ensures in
    subconstraint_walk_begins (seeking_begins c.requires.ends.0 c.requires.ends.1
    (λ same. both_ways _ (c.eq.ensures ∙ eq-eqb _ _ same) c.if-eq.false) line.ready line.line)
    (record { waiting = c.clear.ensures.capacity; unseen = c.clear-2.ensures.capacity })
    c.clear.ensures.items c.clear-2.ensures.items

pub push_reserved-requires : goal.push_reserved-requires
push_reserved-requires g c = subconstraint_walk_has_room c.loop-item.invariant
    c.in-Some.ensures.steps
    (twin_of c.rev.result c.in-EdgeIntersection.is c.rev.ensures.dcel c.rev.ensures.index
    c.fix.ensures.value c.fix.ensures.in_range) c.loop-item.self.waiting.ok.0 c.requires.room

pub loop-item-preserved-in-EdgeIntersection : goal.loop-item-preserved-in-EdgeIntersection
loop-item-preserved-in-EdgeIntersection g c =
    subconstraint_walk_crosses c.loop-item.invariant c.in-Some.ensures.steps
    (twin_of c.rev.result c.in-EdgeIntersection.is c.rev.ensures.dcel c.rev.ensures.index
    c.fix.ensures.value c.fix.ensures.in_range) c.in-Some.ensures.goes.keeps
    (record { waiting = c.push_reserved.ensures.capacity; unseen = refl })
    c.push_reserved.ensures.items refl

pub loop-item-preserved-else-ne : goal.loop-item-preserved-else-ne
loop-item-preserved-else-ne g c =
    let same : c.fix-next.result ≡ c.args.from = search (rules, c.ne.ensures, c.if-ne.false) in
    subconstraint_walk_stays c.loop-item.invariant c.in-Some.ensures.steps
    c.in-Some.ensures.goes.keeps
    (rw same at (vertex_item c.in-VertexIntersection.is c.fix-next.ensures.value))

pub loop-item-preserved : goal.loop-item-preserved
loop-item-preserved g c =
    subconstraint_walk_along c.loop-item.invariant c.in-Some.ensures.steps
    c.in-Some.ensures.goes.keeps _ _
    (ap item_in c.in-EdgeOverlap.is)

pub returns-then-ne : goal.returns-then-ne
returns-then-ne g c = record {
  subconstraint = subconstraint_walk_ends c.loop-item.invariant c.in-Some.ensures.steps
      (vertex_item c.in-VertexIntersection.is c.fix-next.ensures.value)
      (search (rules, c.ne.ensures, c.if-ne.true)) c.requires.room;
  room = c.loop-item.invariant.room;
}

pub unreachable-requires : goal.unreachable-requires
unreachable-requires g c =
    seeking_never_ends c.loop-item.invariant.seeks c.in_default.ensures.steps
