use Rattle.std.proofs.Common.{◌∙◌, ◌++◌, ap, codes}
use Rattle.std.specs.List.{flat_map}
use Rattle.std.proofs.lemmas.List.{take_all}
use Rattle.std.proofs.lemmas.Result.{err_from_is_err_and}
use Rattle.{triangulate_run.specs.ends_in, triangulate_run.specs.Reply.pair_text}
use Rattle.triangulate_run.proofs.OutputLemmas.{first_fails, part_at, part_same, passes_at}
use Rattle.triangulate_run.proofs.OutputLemmas.{passes_nil, puts_behind, second_fails, sends_same}
use Rattle.triangulate_run.proofs.Paths.{edge_text_at, path_texts, same_edge_text}
use Rattle.triangulate_run.proofs.constraints.put_path.Goals as goal

pub returns-in_err-put_fragments : goal.returns-in_err-put_fragments
returns-in_err-put_fragments g c =
    let put = c.in_err-put_fragments.ensures in
    let edges = flat_map pair_text (ends_in c.args.triangulation.now.mesh c.args.path.now) in
    let part = first_fails c.args.held.now.items (codes "edges") (edges ++ codes "\n") put.0 in
    let failed = err_from_is_err_and c.from_residual.result c.from_residual.ensures.1 in
    rw failed.1 (part, put.1)

pub loop-edge-init : goal.loop-edge-init
loop-edge-init g c = record {
  contents = _;
  kept = _;
  word = c.in_ok-put_fragments.ensures.0;
  so_far = passes_nil _ _;
  works = c.in_ok-put_fragments.ensures.1;
}

pub loop-edge-preserved : goal.loop-edge-preserved
loop-edge-preserved g c =
    let m = c.args.triangulation.now.mesh in
    let d = c.directed_edge-edge in
    let is = same_edge_text m _ _ _ (ap (λ s. s.mesh) d.ensures.state)
    (rw c.edge-item.is at d.ensures.index) in
    let put = c.in_ok-put_ends.ensures in
    let i = c.loop-edge.invariant in
    record {
      contents = i.contents;
      kept = i.kept;
      word = i.word;
      so_far = passes_at (edge_text_at m) _ _ _ c.loop-edge-test.true i.so_far
          (sends_same is put.0);
      works = put.1;
    }

pub returns-in_err-put_ends : goal.returns-in_err-put_ends
returns-in_err-put_ends g c =
    let m = c.args.triangulation.now.mesh in
    let d = c.directed_edge-edge in
    let is = same_edge_text m _ _ _ (ap (λ s. s.mesh) d.ensures.state)
    (rw c.edge-item.is at d.ensures.index) in
    let put = c.in_err-put_ends.ensures in
    let i = c.loop-edge.invariant in
    let part = part_at (edge_text_at m) _ _ _ c.loop-edge-test.true i.so_far
    (part_same _ is put.0) in
    let failed = err_from_is_err_and c.from_residual-in_err-put_ends.result
    c.from_residual-in_err-put_ends.ensures.1 in
    rw failed.1
    (second_fails i.word _ (codes "\n") (rw (path_texts m c.args.path.now) at part), put.1)

pub returns : goal.returns
returns g c =
    let m = c.args.triangulation.now.mesh in
    let i = c.loop-edge.invariant in
    let all = take_all c.loop-edge.edge-index c.args.path.now c.loop-edge-test.false in
    let so_far = rw (ap (flat_map (edge_text_at m)) all ∙ path_texts m c.args.path.now) at i.so_far
    in
    puts_behind _ _ _ _ _ c.put_fragments-2.result _ _ i.word
    (puts_behind _ _ _ _ _ c.put_fragments-2.result _ _ so_far c.put_fragments-2.ensures)
