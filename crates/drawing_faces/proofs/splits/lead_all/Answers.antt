use Rattle.std.proofs.Common.{◌∙◌, subst, sym}
use Rattle.std.proofs.lemmas.List.Elements.{All-nil}
use Rattle.delaunay_legalization.specs.{constraints_by, points_and_constraints_by}
use Rattle.delaunay_journal.proofs.SplitSteps.{splits_none, splits_then}
use Rattle.drawing_faces.specs.{AreLed, IsAnyPoint, position, Splitting.IsLed, Splitting.ListsLead}
use Rattle.drawing_faces.proofs.Leading.{any_made, led_further, one_more_led, pushed}
use Rattle.drawing_faces.proofs.splits.lead_all.Goals as goal

pub loop-init : goal.loop-init
loop-init g c =
    let constraints = g.T.Constraints.ConstraintMarker.constraints in
    let old = g.T.Triangulation.state c.args.triangulation.now in
    record {
      splits = splits_none position IsAnyPoint (points_and_constraints_by constraints old)
          c.args.segments.now.items;
      leads = subst (AreLed (constraints_by constraints old) c.args.segments.now.items)
          (sym c.requires) (All-nil (IsLed (constraints_by constraints old)
          c.args.segments.now.items));
      headline = c.recall_invariant.ensures.headline;
    }

pub returns-in-Err-Refused-clause-splits : goal.returns-in-Err-Refused-clause-splits
returns-in-Err-Refused-clause-splits g c =
    splits_then position IsAnyPoint c.loop.invariant.splits
    (any_made _ _ _ _ _ c.add_constraints_and_split-step.ensures.splits)

pub loop-preserved-in_default-lead_in : goal.loop-preserved-in_default-lead_in
loop-preserved-in_default-lead_in g c = record {
  splits = splits_then position IsAnyPoint c.loop.invariant.splits
      (any_made _ _ _ _ _ c.add_constraints_and_split-step.ensures.splits);
  leads = led_further _ _ _ _ c.add_constraints_and_split-step.ensures.splits c.loop.leads.items
      c.loop.invariant.leads;
  headline = c.add_constraints_and_split-step.ensures.headline;
}

pub returns-then-is_err-clause-splits : goal.returns-then-is_err-clause-splits
returns-then-is_err-clause-splits g c =
    splits_then position IsAnyPoint c.loop.invariant.splits
    (any_made _ _ _ _ _ c.add_constraints_and_split-step.ensures.splits)

pub loop-preserved : goal.loop-preserved
loop-preserved g c =
    let constraints = g.T.Constraints.ConstraintMarker.constraints in
    let new = c.add_constraints_and_split-step.new in
    record {
      splits = splits_then position IsAnyPoint c.loop.invariant.splits
          (any_made _ _ _ _ _ c.add_constraints_and_split-step.ensures.splits);
      leads = one_more_led (constraints_by constraints (g.T.Triangulation.state new.site))
          new.segments.items c.loop.leads.items _ c.in-Some.lead
          (led_further _ _ _ _ c.add_constraints_and_split-step.ensures.splits
          c.loop.leads.items c.loop.invariant.leads)
          (subst (λ xs. ListsLead xs c.in-Some.lead) c.as_slice.ensures.value c.in-Some.ensures)
          (pushed c.push.result c.push.new.self.items c.loop.leads.items _
          (sym c.is_err.ensures.value ∙ c.if-is_err.false) c.push.ensures.items);
      headline = c.add_constraints_and_split-step.ensures.headline;
    }
