use Rattle.delaunay_legalization.proofs.Pushing.{no_edges}
use Rattle.delaunay_vertices.proofs.PairEdges.{only_listed, pairs_are_left}
use Rattle.delaunay_vertices.proofs.pairs.list_pairs.Goals as goal

pub push_pairs-requires-clause-edges : goal.push_pairs-requires-clause-edges
push_pairs-requires-clause-edges g c = rw c.clear.ensures.items (no_edges c.args.dcel.now.mesh)

pub returns-clause-left : goal.returns-clause-left
returns-clause-left g c =
    let first = c.push_pairs.ensures in
    let second = c.push_pairs-2.ensures in
    record {
      edges = second.edges;
      passing = pairs_are_left _ c.requires.kept.valid.sound _ _ c.args.border.now
          c.as_slice.result.now _ _ first.there second.kept second.there _ _
          (rw c.as_slice.ensures.value c.requires.passing);
    }

pub returns-clause-only : goal.returns-clause-only
returns-clause-only g c only =
    let kept = c.requires.kept in
    let first = c.push_pairs.ensures in
    let second = c.push_pairs-2.ensures in
    only_listed _ kept.valid.sound _ _ c.args.border.now c.as_slice.result.now _ _ first.there
    second.kept second.there _ kept.valid kept.shape second.edges
    (rw c.as_slice.ensures.value only)
