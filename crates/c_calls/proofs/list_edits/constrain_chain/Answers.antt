use Rattle.std.proofs.Common.{◌-◌, length, refl, arith}
use Rattle.c_calls.specs.{kept_place}
use Rattle.c_calls.proofs.Chains.{chain_closed, chain_done, chain_stopped, chain_unclosed}
use Rattle.c_calls.proofs.list_edits.constrain_chain.Goals as goal

pub returns-then-status-ne-WELL : goal.returns-then-status-ne-WELL
returns-then-status-ne-WELL c =
    let some = c.if-vertices-eq0.false in
    chain_stopped kept_place c.args.vertices.now (length c.args.vertices.now - 1)
    (omega (arith, some)) c.constrain_path-status.result c.constrain_path-status.new.made
    c.args.points.now c.constrain_path-status.new.points c.constrain_path-status.ensures
    c.args.closed c.if-status-ne-WELL.true

pub returns-then-not-closed : goal.returns-then-not-closed
returns-then-not-closed c =
    let some = c.if-vertices-eq0.false in
    chain_done kept_place c.args.vertices.now (length c.args.vertices.now - 1)
    (omega (arith, some)) c.constrain_path-status.result c.constrain_path-status.new.made
    c.args.points.now c.constrain_path-status.new.points c.constrain_path-status.ensures
    c.args.closed c.if-not-closed.true c.if-status-ne-WELL.false

pub returns-then-status-ne-WELL-2 : goal.returns-then-status-ne-WELL-2
returns-then-status-ne-WELL-2 c =
    let some = c.if-vertices-eq0.false in
    chain_unclosed kept_place c.args.vertices.now (length c.args.vertices.now - 1)
    (omega (arith, some)) c.constrain_path-status.result c.constrain_path-status.new.made
    c.args.points.now c.constrain_path-status.new.points c.constrain_path-status.ensures
    c.constrain-status.new.points c.args.closed c.if-not-closed.false c.if-status-ne-WELL.false
    c.constrain-status.result c.constrain-status.ensures c.if-status-ne-WELL-2.true
    (c.are_vertices.ensures.0 c.if-not-are_vertices.false)

pub returns : goal.returns
returns c =
    let some = c.if-vertices-eq0.false in
    chain_closed kept_place c.args.vertices.now (length c.args.vertices.now - 1)
    (omega (arith, some)) c.constrain_path-status.result c.constrain_path-status.new.made
    c.args.points.now c.constrain_path-status.new.points c.constrain_path-status.ensures
    c.constrain-status.new.points c.args.closed c.if-not-closed.false c.if-status-ne-WELL.false
    c.constrain-status.result c.constrain-status.ensures c.if-status-ne-WELL-2.false
    (length c.args.vertices.now) refl
