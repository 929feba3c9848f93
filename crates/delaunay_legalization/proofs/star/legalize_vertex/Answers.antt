use Rattle.std.proofs.Common.{ℕ, IsNone, refl, sym, ap, subst}
use Rattle.half_edge_links.specs.{Mesh, out_edge}
use Rattle.delaunay_legalization.proofs.{RoundSteps.none_to_turn, Stars.star_is_left}
use Rattle.delaunay_legalization.proofs.star.legalize_vertex.Goals as goal

pub legalize-requires-clause-left : goal.legalize-requires-clause-left
legalize-requires-clause-left g c = record {
  edges = c.push_star.ensures.edges;
  passing = star_is_left _ c.requires.kept.valid.sound c.args.vertex c.push_star.new.work.items
      c.push_star.ensures.star _ _ c.requires.passing;
}

pub returns-in_default : goal.returns-in_default
returns-in_default g c = record {
  legalizes = none_to_turn {v = c.args.vertex} c.requires.kept
      (c.requires.empty c.if-not-is_free.false)
      (subst (λ (y : Mesh × ℕ). IsNone (out_edge y.0 y.1))
      (λ i. (ap (λ d. d.now.mesh) c.vertex.ensures.dcel i, c.vertex.ensures.index i))
      (c.out_edge.ensures.none.0 (subst (λ o. IsNone o) (sym c.in_default.is) refl)));
}
