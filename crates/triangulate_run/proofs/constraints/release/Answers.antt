use Rattle.std.proofs.Common.{ℕ, ◌/◌, ◌<◌, length, refl, ap, ◌∙◌, subst}
use Rattle.std.specs.Prelude.{Ok}
use Rattle.triangulate_run.proofs.Releases.{is_none, is_released, no_edge, not_released}
use Rattle.triangulate_run.proofs.constraints.release.Goals as goal

pub returns-in_default-clause-reply : goal.returns-in_default-clause-reply
returns-in_default-clause-reply g c = (
  (c.requires.from_in, c.requires.to_in),
  no_edge _ c.recall_invariant.ensures.kept _ _ c.in_default.ensures,
  refl,
)

pub returns-in-Ok-true-clause-reply : goal.returns-in-Ok-true-clause-reply
returns-in-Ok-true-clause-reply g c =
    let is = c.in-Some.ensures in
    let edge = c.in-Some.edge in
    let within = subst (λ s. edge.index < length s.directed) is.0 edge.in_range in
    let half = c.as_undirected-edge.ensures ∙ ap (λ (k : ℕ). k / 2) c.fix.ensures.value in
    is_released _ _ c.recall_invariant.ensures.kept _ _ _ within is.1 is.2 _ half _
    c.remove_constraint_edge.ensures.releases (c.in-Ok-true.is ∙ ap Ok c.in-Ok-true.field-0-test)

pub returns-in-Ok-false-clause-reply : goal.returns-in-Ok-false-clause-reply
returns-in-Ok-false-clause-reply g c =
    let is = c.in-Some.ensures in
    let edge = c.in-Some.edge in
    let within = subst (λ s. edge.index < length s.directed) is.0 edge.in_range in
    let half = c.as_undirected-edge.ensures ∙ ap (λ (k : ℕ). k / 2) c.fix.ensures.value in
    is_none _ _ c.recall_invariant.ensures.kept _ _ _ within is.1 is.2 _ half _
    c.remove_constraint_edge.ensures.releases (c.in-Ok-false.is ∙ ap Ok c.in-Ok-false.field-0-test)

pub returns-in-Err-clause-reply : goal.returns-in-Err-clause-reply
returns-in-Err-clause-reply g c =
    let is = c.in-Some.ensures in
    let edge = c.in-Some.edge in
    let within = subst (λ s. edge.index < length s.directed) is.0 edge.in_range in
    let half = c.as_undirected-edge.ensures ∙ ap (λ (k : ℕ). k / 2) c.fix.ensures.value in
    not_released _ _ c.recall_invariant.ensures.kept _ _ _ within is.1 is.2 _ half _
    c.remove_constraint_edge.ensures.releases _ c.in-Err.is
