use Rattle.std.proofs.Common.{◌∙◌, refl, arith}
use Rattle.half_edge_links.proofs.Removing.VertexSound.{no_end, walk_ends, walk_more}
use Rattle.{half_edge_links.proofs.Stored.Joined.joined_kept, half_edge_links.specs.shown}
use Rattle.half_edge_links.proofs.Stored.Shown.{length_shown, prev_shown}
use Rattle.half_edge_links.proofs.removal.move_origins.Goals as goal

pub set_origin-requires-clause-joined : goal.set_origin-requires-clause-joined
set_origin-requires-clause-joined c =
    let w = c.loop-i.invariant.0 in
    joined_kept (shown c.args.half_edges.now.items) _ w.count w.nexts w.prevs c.requires.joined

pub returns-then-h-first-clause-moves : goal.returns-then-h-first-clause-moves
returns-then-h-first-clause-moves c =
    rw c.set_origin.ensures.items
    (walk_ends _ (shown c.loop-i.half_edges.items) c.args.first c.args.v c.loop-i._i c.loop-i.h
    c.requires.walk c.loop-i.invariant.0 c.reversed-h.result
    (rw (c.reversed-h.ensures, c.stored.ensures, ← c.set_origin.ensures.items, prev_shown) refl)
    c.if-h-first.true)

pub loop-i-preserved : goal.loop-i-preserved
loop-i-preserved c =
    let w = walk_more _ (shown c.loop-i.half_edges.items) c.args.first c.args.v c.loop-i._i
    c.loop-i.h c.requires.walk c.loop-i.invariant.0 c.reversed-h.result
    (rw (c.reversed-h.ensures, c.stored.ensures, ← c.set_origin.ensures.items, prev_shown) refl)
    c.if-h-first.false in (
      rw c.set_origin.ensures.items w,
      c.set_origin.ensures.capacity ∙ c.loop-i.invariant.1,
      c.loop-i.invariant.2,
    )

pub returns-clause-moves : goal.returns-clause-moves
returns-clause-moves c = absurd (no_end _ (shown c.loop-i.half_edges.items) c.args.first c.args.v
    c.loop-i._i c.loop-i.h c.requires.walk c.loop-i.invariant.0 (rw length_shown c.requires.first)
    (omega (arith, c.loop-i.invariant.2, length_shown c.args.half_edges.now.items)))
