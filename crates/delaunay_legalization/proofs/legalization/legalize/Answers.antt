use Rattle.std.proofs.Common.{◌∙◌}
use Rattle.delaunay_legalization.proofs.{MeshLegal.joins_edge, Questions.both_ways}
use Rattle.delaunay_legalization.proofs.Stepping.{drop_falls, edges_before, flip_fits}
use Rattle.delaunay_legalization.proofs.Stepping.{last_edge_within, last_within, steps_begin}
use Rattle.delaunay_legalization.proofs.Stepping.{steps_drop, steps_end, steps_turn, turn_falls}
use Rattle.delaunay_legalization.proofs.legalization.legalize.Goals as goal

pub loop-edge-init : goal.loop-edge-init
loop-edge-init g c = record {
  underway = steps_begin c.requires.kept.shape c.requires.left c.requires.suffice;
  embedding = record { kept = c.requires.kept; sites = c.requires.sites };
}

pub is_constraint_edge-requires : goal.is_constraint_edge-requires
is_constraint_edge-requires g c =
    let i = c.loop-edge.invariant in
    last_edge_within i.underway i.embedding.kept _ _ c.in-Some.ensures.last

pub loop-edge-smaller-then-is_constraint_edge : goal.loop-edge-smaller-then-is_constraint_edge
loop-edge-smaller-then-is_constraint_edge g c =
    let i = c.loop-edge.invariant in drop_falls i.underway i.embedding.kept _ _
    c.in-Some.ensures.last

pub loop-edge-preserved-then-is_constraint_edge : goal.loop-edge-preserved-then-is_constraint_edge
loop-edge-preserved-then-is_constraint_edge g c =
    let i = c.loop-edge.invariant in
    record {
      underway = steps_drop i.underway i.embedding.kept _ _ c.in-Some.ensures.last
          (λ free. absurd (free (joins_edge c.loop-edge.dcel.mesh _ _
          (c.is_constraint_edge.ensures.0 c.if-is_constraint_edge.true)))) c.pop.ensures.room;
      embedding = i.embedding;
    }

pub is_failing-requires : goal.is_failing-requires
is_failing-requires g c =
    let i = c.loop-edge.invariant in
    rw c.as_directed-directed.ensures
    (last_within i.underway i.embedding.kept _ _ c.in-Some.ensures.last)

pub push_sides-requires : goal.push_sides-requires
push_sides-requires g c =
    let i = c.loop-edge.invariant in
    record {
      within = rw c.as_directed-directed.ensures
          (last_within i.underway i.embedding.kept _ _ c.in-Some.ensures.last);
      edges = edges_before i.underway i.embedding.kept _ _ c.in-Some.ensures.last;
      room = rw (c.pop.ensures.room, i.underway.underway.room_stays, i.underway.underway.contents)
          c.requires.room;
    }

pub flip-requires : goal.flip-requires
flip-requires g c =
    let i = c.loop-edge.invariant in
    let fails = rw c.as_directed-directed.ensures at
    (c.is_failing.ensures.0 c.if-is_failing.true) in
    record {
      kept = i.embedding.kept;
      within = last_within i.underway i.embedding.kept _ _ c.in-Some.ensures.last;
      failing = fails;
      fits = flip_fits i.underway i.embedding.kept _ _ c.in-Some.ensures.last c.requires.fits fails;
    }

pub loop-edge-smaller-then-is_failing : goal.loop-edge-smaller-then-is_failing
loop-edge-smaller-then-is_failing g c =
    let i = c.loop-edge.invariant in
    turn_falls i.underway i.embedding.kept _ _ c.in-Some.ensures.last
    (rw c.as_directed-directed.ensures at (c.is_failing.ensures.0 c.if-is_failing.true))
    c.push_sides.ensures.edges c.flip.ensures.contents

pub loop-edge-preserved-then-is_failing : goal.loop-edge-preserved-then-is_failing
loop-edge-preserved-then-is_failing g c =
    let i = c.loop-edge.invariant in
    record {
      underway = steps_turn i.underway i.embedding.kept _ _ c.in-Some.ensures.last
          (rw c.as_directed-directed.ensures at (c.is_failing.ensures.0 c.if-is_failing.true))
          c.push_sides.ensures.edges c.flip.ensures.contents
          (λ h. both_ways _ (c.is_constraint_edge.ensures.1 h) c.if-is_constraint_edge.false)
          (rw c.as_directed-directed.ensures at c.push_sides.ensures.gains) c.flip.ensures.flips
          (c.push_sides.ensures.capacity ∙ c.pop.ensures.room);
      embedding = record {
        kept = c.flip.ensures.kept;
        sites = rw c.flip.ensures.contents i.embedding.sites;
      };
    }

pub loop-edge-smaller : goal.loop-edge-smaller
loop-edge-smaller g c =
    let i = c.loop-edge.invariant in drop_falls i.underway i.embedding.kept _ _
    c.in-Some.ensures.last

pub loop-edge-preserved : goal.loop-edge-preserved
loop-edge-preserved g c =
    let i = c.loop-edge.invariant in
    record {
      underway = steps_drop i.underway i.embedding.kept _ _ c.in-Some.ensures.last
          (λ free x. both_ways _ (c.is_failing.ensures.1 (rw c.as_directed-directed.ensures x))
          c.if-is_failing.false) c.pop.ensures.room;
      embedding = i.embedding;
    }

pub returns-clause-legalizes : goal.returns-clause-legalizes
returns-clause-legalizes g c =
    let i = c.loop-edge.invariant in steps_end i.underway i.embedding.kept
    c.in_default.ensures.none.0
