use Rattle.std.proofs.Common.{◌≡◌, ◌+◌, ◌∙◌, ℕ, sym, refl, arith}
use Rattle.half_edge_links.specs.{prev, spoke}
use Rattle.half_edge_dcel.proofs.Joined.{missed_all, missed_more, none_joined, spoke-starts}
use Rattle.half_edge_dcel.proofs.Joined.{spoke-within, turned_end, turned_spoke}
use Rattle.half_edge_dcel.proofs.Ranges.{out_edge-within}
use Rattle.half_edge_dcel.proofs.views.DcelMeshViews.get_edge_from_neighbors.Goals as goal

pub loop-init : goal.loop-init
loop-init g c =
    let whole = c.links-links.ensures.whole in
    let named = rw (c.links-links.ensures.mesh, c.index.ensures) at
    (sym c.out_edge.ensures.value ∙ c.in_ok-first.was) in
    record {
      within = out_edge-within c.args.self.now _ _ whole named;
      starts = (whole.valid.sound.vertices _ _ named).1;
      reached = refl;
      ends = rw (
        c.half_edge-end.ensures.value,
        c.links-links.ensures.mesh,
        c.reversed.ensures,
      ) refl;
      missed = λ j less. absurd (omega (arith, less));
    }

pub loop-preserved : goal.loop-preserved
loop-preserved g c =
    let m = c.args.self.now.mesh in
    let whole = c.links-links.ensures.whole in
    let named = rw (c.links-links.ensures.mesh, c.index.ensures) at
    (sym c.out_edge.ensures.value ∙ c.in_ok-first.was) in
    let first_in = out_edge-within c.args.self.now _ _ whole named in
    let k : ℕ = c.loop.counter + 1 in
    let before : c.half_edge.result.prev ≡ prev m c.loop.edge =
    rw (c.half_edge.ensures.value, c.links-links.ensures.mesh) refl in
    let reached : c.reversed-edge.result ≡ spoke m c.in_ok-first.first k =
    turned_spoke m c.in_ok-first.first c.loop.edge c.loop.counter _ c.half_edge.result.prev
    c.reversed-edge.ensures before c.loop.invariant.reached in
    record {
      within = rw reached (spoke-within c.args.self.now c.in_ok-first.first k whole first_in);
      starts = rw reached (spoke-starts c.args.self.now c.in_ok-first.first k whole first_in
          ∙ (whole.valid.sound.vertices _ _ named).1);
      reached = reached;
      ends = turned_end m c.loop.edge _ c.half_edge.result.prev _ c.reversed-edge.ensures
          before (rw c.links-links.ensures.mesh at c.prev_origin-end.ensures.value);
      missed = missed_more m c.in_ok-first.first c.loop.edge c.loop.end c.index-target.result
          c.loop.counter c.loop.invariant.ends c.loop.invariant.reached c.if-end-target.false
          c.loop.invariant.missed;
    }

pub returns-then-end-target-clause-some : goal.returns-then-end-target-clause-some
returns-then-end-target-clause-some g c = (
  refl,
  c.loop.invariant.starts,
  sym c.loop.invariant.ends ∙ c.if-end-target.true ∙ c.index-target.ensures,
)

pub returns-clause-none : goal.returns-clause-none
returns-clause-none g c =
    let named = rw (c.links-links.ensures.mesh, c.index.ensures) at
    (sym c.out_edge.ensures.value ∙ c.in_ok-first.was) in
    rw c.index-target.ensures at
    (none_joined c.args.self.now c.args.from c.in_ok-first.first c.index-target.result
    c.links-links.ensures.whole named (λ j less. c.loop.invariant.missed j (omega (arith, less))))

pub returns-then-edge-first-clause-none : goal.returns-then-edge-first-clause-none
returns-then-edge-first-clause-none g c =
    let m = c.args.self.now.mesh in
    let named = rw (c.links-links.ensures.mesh, c.index.ensures) at
    (sym c.out_edge.ensures.value ∙ c.in_ok-first.was) in
    let k : ℕ = c.loop.counter + 1 in
    let before : c.half_edge.result.prev ≡ prev m c.loop.edge =
    rw (c.half_edge.ensures.value, c.links-links.ensures.mesh) refl in
    let reached : c.reversed-edge.result ≡ spoke m c.in_ok-first.first k =
    turned_spoke m c.in_ok-first.first c.loop.edge c.loop.counter _ c.half_edge.result.prev
    c.reversed-edge.ensures before c.loop.invariant.reached in
    let missed = missed_more m c.in_ok-first.first c.loop.edge c.loop.end c.index-target.result
    c.loop.counter c.loop.invariant.ends c.loop.invariant.reached c.if-end-target.false
    c.loop.invariant.missed in
    rw c.index-target.ensures at
    (none_joined c.args.self.now c.args.from c.in_ok-first.first c.index-target.result
    c.links-links.ensures.whole named (λ j _. missed_all m c.in_ok-first.first
    c.index-target.result k (omega arith) (sym reached ∙ c.if-edge-first.true) missed j))
