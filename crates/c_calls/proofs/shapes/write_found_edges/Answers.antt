use Rattle.std.proofs.Common.{◌∙◌, ◌+◌, ℕ, List, length, set, sym, ap, subst, arith}
use Rattle.std.proofs.lemmas.List.{length-map}
use Rattle.c_calls.specs.{indexes_in}
use Rattle.c_calls.proofs.Telling.{all_told, are_more, IsTelling, telling_begins, telling_ends}
use Rattle.{c_calls.proofs.Telling.telling_goes_on, delaunay_shapes.specs.edges_left}
use Rattle.c_calls.proofs.shapes.write_found_edges.Goals as goal

pub loop-edge-init : goal.loop-edge-init
loop-edge-init g c =
    let all : List ℕ = indexes_in (edges_left c.args.found) in
    subst (λ it. IsTelling all (indexes_in (edges_left it)) 0 c.args.edges.now c.args.edges.now)
    (sym c.into_iter-edge-iterator.ensures.into_iter_gives)
    (telling_begins all c.args.edges.now)

pub overflow_add-count : goal.overflow_add-count
overflow_add-count g c =
    let all : List ℕ = indexes_in (edges_left c.args.found) in
    let more = are_more all (indexes_in (edges_left c.loop-edge.edge-iterator)) c.loop-edge.count
    c.args.edges.now c.loop-edge.edges c.loop-edge.invariant c.in-Some.edge.index
    (indexes_in (edges_left c.next.new.self)) (ap indexes_in c.in-Some.ensures.steps) in
    let few = c.requires in
    let as_many = length-map (edges_left c.args.found) (λ p. p.1) in
    omega (arith, more, few, as_many)

pub loop-edge-preserved : goal.loop-edge-preserved
loop-edge-preserved g c =
    let all : List ℕ = indexes_in (edges_left c.args.found) in
    let others : List ℕ = indexes_in (edges_left c.next.new.self) in
    subst (λ (now : List ℕ). IsTelling all others (c.loop-edge.count + 1) c.args.edges.now now)
    (sym (c.put.ensures ∙ ap (λ (n : ℕ). set c.loop-edge.edges c.loop-edge.count n)
    (c.index.ensures.value ∙ c.fix.ensures.value)))
    (telling_goes_on all (indexes_in (edges_left c.loop-edge.edge-iterator)) c.loop-edge.count
    c.args.edges.now c.loop-edge.edges c.loop-edge.invariant c.in-Some.edge.index others
    (ap indexes_in c.in-Some.ensures.steps))

pub returns : goal.returns
returns g c =
    let all = indexes_in (edges_left c.args.found) in
    let l = c.loop-edge in
    all_told all (length l.edges) l.count c.status_by_room.result c.args.edges.now l.edges
    l.auto.edges
    (telling_ends all (indexes_in (edges_left l.edge-iterator)) l.count c.args.edges.now l.edges
    (ap indexes_in c.in-None.ensures.steps.0) l.invariant) c.status_by_room.ensures
