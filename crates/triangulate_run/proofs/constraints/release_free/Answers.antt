use Rattle.std.proofs.Common.{◌<◌, length, refl, subst}
use Rattle.delaunay_legalization.proofs.{no_joins}
use Rattle.triangulate_run.proofs.Releases.{is_edge, no_edge}
use Rattle.triangulate_run.proofs.constraints.release_free.Goals as goal

pub returns-in-Some : goal.returns-in-Some
returns-in-Some g c =
    let edge = c.in-Some.field-0 in
    let is = c.in-Some.ensures in
    let within = subst (λ s. edge.index < length s.directed) is.0 edge.in_range in (
      is_edge _ c.recall_invariant.ensures.kept _ _ _ within is.1 is.2,
      no_joins c.args.from c.args.to,
      refl,
    )

pub returns-in-None : goal.returns-in-None
returns-in-None g c = (
  (c.requires.from_in, c.requires.to_in),
  no_edge _ c.recall_invariant.ensures.kept _ _ c.in-None.ensures,
  refl,
)
