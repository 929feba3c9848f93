use Rattle.std.proofs.Common.{◌∙◌, length, ap, arith}
use Rattle.delaunay_edit.proofs.Counts.{count_of_edges}
use Rattle.delaunay_interface.proofs.triangulation.Triangulation.num_directed_edges.Goals as goal

pub returns-clause-value : goal.returns-clause-value
returns-clause-value g c =
    let kept = c.s.ensures.well_formed.kept in
    omega (
      arith,
      count_of_edges _ _ kept,
      kept.fits.undirected_fit,
      kept.fits.directed_fit,
      c.num_directed_edges.ensures.value ∙ ap (λ s. length s.directed) c.s.ensures.state,
    )
