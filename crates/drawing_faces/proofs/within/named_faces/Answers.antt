use Rattle.std.proofs.Common.{◌≤◌, ◌∙◌, List, ℕ, ap, inl, inr, length, map, subst, sym}
use Rattle.std.specs.Prelude.{All}
use Rattle.delaunay_legalization.specs.{triangulation_of}
use Rattle.drawing_faces.specs.{AddsBeside, AreKept, ends_of, face_of, IsLeftOut, places_of}
use Rattle.drawing_faces.specs.{position, RefusesEnds, Within.RefusesRows}
use Rattle.drawing_faces.proofs.{Beside.beside_within, Keeping.named_faces, Refusing.refused_by}
use Rattle.drawing_faces.proofs.within.named_faces.Goals as goal

pub returns-in_err-starts-clause-refuses : goal.returns-in_err-starts-clause-refuses
returns-in_err-starts-clause-refuses g c =
    let s = g.T.Triangulation.state c.args.triangulation.now in
    refused_by c.from_residual.result _
    (RefusesRows s (g.T.Constraints.ConstraintMarker.constraints s.undirected)
    c.args.handles.now c.args.holes.now c.args.sides.now) c.from_residual.ensures.1
    (inl c.in_err-starts.ensures.refuses)

pub returns-in_err-add_side_faces-clause-refuses : goal.returns-in_err-add_side_faces-clause-refuses
returns-in_err-add_side_faces-clause-refuses g c =
    let s = g.T.Triangulation.state c.args.triangulation.now in
    let law = g.met.T.Triangulation.state_is_of_mesh c.args.triangulation.now in
    refused_by c.from_residual-in_err-add_side_faces.result _
    (RefusesRows s (g.T.Constraints.ConstraintMarker.constraints s.undirected)
    c.args.handles.now c.args.holes.now c.args.sides.now)
    c.from_residual-in_err-add_side_faces.ensures.1
    (inr (subst (λ m. RefusesEnds c.args.handles.now (length m.vertices) c.args.sides.now
    c.in_err-add_side_faces.field-0.0) law c.in_err-add_side_faces.ensures.refuses))

pub kept_faces-requires : goal.kept_faces-requires
kept_faces-requires g c =
    let s = g.T.Triangulation.state c.args.triangulation.now in
    let law = g.met.T.Triangulation.state_is_of_mesh c.args.triangulation.now in
    let ends = map (ends_of c.args.handles.now) c.args.sides.now in
    subst (All (λ f. f ≤ length s.faces)) (sym c.as_slice.ensures.value)
    (beside_within s ends c.in_ok-starts.starts.items c.add_side_faces.new.faces.items
    (subst (λ m. AddsBeside m ends c.in_ok-starts.starts.items c.add_side_faces.new.faces.items)
    law c.in_ok-add_side_faces.ensures.adds) c.in_ok-starts.ensures.within)

pub returns-in_err-corners-clause-refuses : goal.returns-in_err-corners-clause-refuses
returns-in_err-corners-clause-refuses g c =
    let s = g.T.Triangulation.state c.args.triangulation.now in
    refused_by c.from_residual-in_err-corners.result _
    (RefusesRows s (g.T.Constraints.ConstraintMarker.constraints s.undirected)
    c.args.handles.now c.args.holes.now c.args.sides.now)
    c.from_residual-in_err-corners.ensures.1 (inr tt)

pub returns-in_err-faces-clause-refuses : goal.returns-in_err-faces-clause-refuses
returns-in_err-faces-clause-refuses g c =
    let s = g.T.Triangulation.state c.args.triangulation.now in
    refused_by c.from_residual-in_err-faces.result _
    (RefusesRows s (g.T.Constraints.ConstraintMarker.constraints s.undirected)
    c.args.handles.now c.args.holes.now c.args.sides.now)
    c.from_residual-in_err-faces.ensures.1 (inr tt)

pub returns-clause-kept : goal.returns-clause-kept
returns-clause-kept g c =
    let s = g.T.Triangulation.state c.args.triangulation.now in
    let constraints = g.T.Constraints.ConstraintMarker.constraints s.undirected in
    let corners = c.in_ok-corners.corners.items in
    let law = g.met.T.Triangulation.state_is_of_mesh c.args.triangulation.now in
    let adds = subst (λ m. AddsBeside m (map (ends_of c.args.handles.now) c.args.sides.now)
    c.in_ok-starts.starts.items c.add_side_faces.new.faces.items) law
    c.in_ok-add_side_faces.ensures.adds in
    record {
      in_holes = c.in_ok-starts.starts.items;
      in_holes_are = c.in_ok-starts.ensures.faces;
      beside = adds.here;
      beside_are = adds.beside;
      faces = map face_of corners;
      faces_are = subst (λ (starts : List ℕ). AreKept (IsLeftOut c.args.kept s.mesh constraints
          starts) 1 (triangulation_of position s).faces (map face_of corners))
          (c.as_slice.ensures.value ∙ adds.faces) c.in_ok-corners.ensures;
      rows_are = c.in_ok-faces.ensures
          ∙ ap (map (λ f. places_of c.args.names.now (face_of f))) c.as_slice-2.ensures.value
          ∙ named_faces c.args.names.now corners;
    }
