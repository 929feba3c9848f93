use Rattle.std.proofs.Common.{◌∙◌, ◌+◌, ℕ, List, length, set, sym, ap, subst, arith}
use Rattle.std.proofs.lemmas.List.{length-map}
use Rattle.c_calls.specs.{indexes_in}
use Rattle.c_calls.proofs.Telling.{all_told, are_more, IsTelling, telling_begins, telling_ends}
use Rattle.{c_calls.proofs.Telling.telling_goes_on, delaunay_shapes.specs.vertices_left}
use Rattle.c_calls.proofs.shapes.write_vertices.Goals as goal

pub loop-vertex-init : goal.loop-vertex-init
loop-vertex-init g c =
    let all : List ℕ = indexes_in (vertices_left c.args.found) in
    subst (λ it. IsTelling all (indexes_in (vertices_left it)) 0 c.args.vertices.now
    c.args.vertices.now)
    (sym c.into_iter-vertex-iterator.ensures.into_iter_gives)
    (telling_begins all c.args.vertices.now)

pub overflow_add-count : goal.overflow_add-count
overflow_add-count g c =
    let all : List ℕ = indexes_in (vertices_left c.args.found) in
    let l = c.loop-vertex in
    let more = are_more all (indexes_in (vertices_left l.vertex-iterator)) l.count
    c.args.vertices.now l.vertices l.invariant c.in-Some.vertex.index
    (indexes_in (vertices_left c.next.new.self)) (ap indexes_in c.in-Some.ensures.steps) in
    let few = c.requires in
    let as_many = length-map (vertices_left c.args.found) (λ p. p.1) in
    omega (arith, more, few, as_many)

pub loop-vertex-preserved : goal.loop-vertex-preserved
loop-vertex-preserved g c =
    let all : List ℕ = indexes_in (vertices_left c.args.found) in
    let others : List ℕ = indexes_in (vertices_left c.next.new.self) in
    let l = c.loop-vertex in
    subst (λ (now : List ℕ). IsTelling all others (l.count + 1) c.args.vertices.now now)
    (sym (c.put.ensures ∙ ap (λ (n : ℕ). set l.vertices l.count n)
    (c.index.ensures ∙ c.fix.ensures.value)))
    (telling_goes_on all (indexes_in (vertices_left l.vertex-iterator)) l.count
    c.args.vertices.now l.vertices l.invariant c.in-Some.vertex.index others
    (ap indexes_in c.in-Some.ensures.steps))

pub returns : goal.returns
returns g c =
    let all = indexes_in (vertices_left c.args.found) in
    let l = c.loop-vertex in
    all_told all (length l.vertices) l.count c.status_by_room.result c.args.vertices.now l.vertices
    l.auto.vertices
    (telling_ends all (indexes_in (vertices_left l.vertex-iterator)) l.count c.args.vertices.now
    l.vertices (ap indexes_in c.in-None.ensures.steps.0) l.invariant) c.status_by_room.ensures
