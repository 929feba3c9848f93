use Rattle.std.proofs.Common.{◌∙◌, refl, sym, subst}
use Rattle.std.specs.List.{AllZip}
use Rattle.delaunay_core.specs.{place_of}
use Rattle.delaunay_legalization.specs.{constraints_by, IsTriangulated, triangulation_of}
use Rattle.{delaunay_legalization.proofs.both_ways, plane.specs.IsLineList, plane.specs.whole}
use Rattle.c_calls.specs.{found, IsMeeting, kept_place, plain_point, refused}
use Rattle.c_calls.proofs.lines.WalkLineQuery.ask.Goals as goal

pub returns-then-not-may_ask_line : goal.returns-then-not-may_ask_line
returns-then-not-may_ask_line g c = refused (
  refl,
  λ may. both_ways _ (c.may_ask_line.ensures.1 may) c.if-not-may_ask_line.true,
) refl refl

pub write_meetings-requires : goal.write_meetings-requires
write_meetings-requires g c =
    let line = c.new-line.ensures.line in
    let law = g.met.T.Triangulation.state_is_of_mesh c.args.points.now in
    record {
      kept = subst (IsTriangulated kept_place) (sym (line.state ∙ law))
          c.recall_invariant.ensures.kept;
      ready = c.new-line.ensures.ready;
    }

pub returns : goal.returns
returns g c =
    let s = g.T.Triangulation.state c.args.points.now in
    let line = c.new-line.ensures.line in
    let law = g.met.T.Triangulation.state_is_of_mesh c.args.points.now in
    let told = c.write_meetings.ensures line.items line.are_left in
    let constraints = g.T.Constraints.ConstraintMarker.constraints in
    found (c.may_ask_line.ensures.0 c.if-not-may_ask_line.false) told.0 (
      line.items,
      subst (λ t. IsLineList (triangulation_of kept_place t) (whole (plain_point c.args.self.now.from))
          (whole (plain_point c.args.self.now.to)) line.items) law
          (subst (λ p. IsLineList (triangulation_of kept_place
          (g.T.HasMesh.mesh_state c.args.points.now)) (whole (place_of (λ z. z) p))
          (whole (plain_point c.args.self.now.to)) line.items) c.point_of-start.ensures
          (subst (λ p. IsLineList (triangulation_of kept_place
          (g.T.HasMesh.mesh_state c.args.points.now))
          (whole (place_of (λ z. z) c.point_of-start.result)) (whole (place_of (λ z. z) p))
          line.items) c.point_of-end.ensures line.line_list)),
      subst (λ t. AllZip (IsMeeting (constraints_by constraints t)) line.items told.0)
          (line.state ∙ law) told.1,
    ) told.2
