use Rattle.std.proofs.Common.{ℕ, List, refl, subst, arith}
use Rattle.std.specs.Prelude.{Option}
use Rattle.c_calls.specs.{Answered, kept_place, Reach.IsLabelAt, Reach.labels_listed}
use Rattle.{c_calls.proofs.Writing.all_answered, delaunay_legalization.specs.triangulation_of}
use Rattle.c_calls.proofs.reach.ListLabelsQuery.ask.Goals as goal

pub returns : goal.returns
returns g c =
    let value = c.num_inner_faces-count.ensures.value in
    let count = c.num_inner_faces-count.result in
    let old = c.args.labels.now in
    let new = c.write_labels.new.labels in
    labels_listed (omega (arith, c.if-self-count.false, value)) c.in-Ok.found.items c.in-Ok.ensures
    refl value
    (all_answered _ count _ old new value
    (subst (λ (ls : List (Option ℕ)). Answered (IsLabelAt ls) count old new) c.deref.ensures.value
    c.write_labels.ensures))
