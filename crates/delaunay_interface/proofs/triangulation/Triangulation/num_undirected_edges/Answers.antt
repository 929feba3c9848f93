use Rattle.std.proofs.Common.{◌∙◌, length, ap}
use Rattle.delaunay_edit.proofs.Counts.{count_of_edges}
use Rattle.delaunay_interface.proofs.triangulation.Triangulation.num_undirected_edges.Goals as goal

pub returns-clause-value : goal.returns-clause-value
returns-clause-value g c =
    c.num_undirected_edges.ensures.value ∙ ap (λ s. length s.undirected) c.s.ensures.state
    ∙ count_of_edges _ _ c.s.ensures.well_formed.kept
