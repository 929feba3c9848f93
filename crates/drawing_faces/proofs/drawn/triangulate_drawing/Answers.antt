use Rattle.std.proofs.Common.{ℕ, List, ◌≤◌, ◌∙◌, length, map, ap, refl, sym, subst}
use Rattle.std.specs.Prelude.{All}
use Rattle.delaunay_edit.specs.{constraint_edges}
use Rattle.{delaunay_extensions.specs.HaveHandles, delaunay_legalization.specs.triangulation_of}
use Rattle.drawing_faces.specs.{AreKept, ends_of, face_of, HasEnds, IsLeftOut, memory_refused}
use Rattle.drawing_faces.specs.{places_of, position, RefusesDrawing}
use Rattle.drawing_faces.specs.{Drawing.hole_refused, Drawing.points_refused, Sides.AreBeside}
use Rattle.drawing_faces.proofs.{Beside.beside_within, Keeping.named_faces}
use Rattle.drawing_faces.proofs.Refusing.{all_end_at_points, refused_by}
use Rattle.drawing_faces.proofs.Together.{drawing_of, segments_refused, sides_refused}
use Rattle.drawing_faces.proofs.drawn.triangulate_drawing.Goals as goal

pub returns-in_err-triangulated-clause-refuses : goal.returns-in_err-triangulated-clause-refuses
returns-in_err-triangulated-clause-refuses c =
    refused_by c.from_residual.result _ (RefusesDrawing c.args.points.now c.args.segments.now
    c.args.holes.now c.args.sides.now) c.from_residual.ensures.1
    (points_refused c.in_err-triangulated.ensures.refuses)

pub returns-in_err-triangulation-clause-refuses : goal.returns-in_err-triangulation-clause-refuses
returns-in_err-triangulation-clause-refuses c =
    refused_by c.from_residual-in_err-triangulation.result _ (RefusesDrawing c.args.points.now
    c.args.segments.now c.args.holes.now c.args.sides.now)
    c.from_residual-in_err-triangulation.ensures.1
    (memory_refused c.in_err-triangulation.ensures.memory)

pub returns-in_err-added-clause-refuses : goal.returns-in_err-added-clause-refuses
returns-in_err-added-clause-refuses c =
    let points = c.args.points.now in
    let handles = c.as_slice.result.now in
    let old = c.in_ok-triangulation.triangulation in
    refused_by c.from_residual-in_err-added.result _ (RefusesDrawing points c.args.segments.now
    c.args.holes.now c.args.sides.now) c.from_residual-in_err-added.ensures.1
    (segments_refused points handles c.args.segments.now c.args.holes.now c.args.sides.now
    old.vertices c.in_ok-triangulated.ensures.may_take (subst (HaveHandles position points handles)
    (sym c.in_ok-triangulation.ensures.vertices) (subst (λ hs. HaveHandles position points hs
    c.in_ok-triangulated.triangulated.plain.vertices) (sym c.as_slice.ensures.value)
    c.in_ok-triangulated.ensures.handles)) _ c.in_err-added.ensures.refuses)

pub returns-in_err-in_holes-clause-refuses : goal.returns-in_err-in_holes-clause-refuses
returns-in_err-in_holes-clause-refuses c =
    let points = c.args.points.now in
    let handles = c.as_slice.result.now in
    let plain = c.in_ok-triangulated.triangulated.plain.vertices in
    refused_by c.from_residual-in_err-in_holes.result _ (RefusesDrawing points
    c.args.segments.now c.args.holes.now c.args.sides.now)
    c.from_residual-in_err-in_holes.ensures.1 (hole_refused (record {
      handles = handles;
      names = c.in_ok-triangulated.triangulated.vertices.items;
      added = c.in_ok-added.added.items;
      state = c.add_segments.new.triangulation;
      drawing = drawing_of points handles c.in_ok-triangulated.triangulated.vertices.items
          c.args.segments.now c.in_ok-added.added.items plain c.in_ok-triangulation.triangulation
          c.add_segments.new.triangulation c.in_ok-triangulated.ensures.may_take
          (subst (λ hs. HaveHandles position points hs plain) (sym c.as_slice.ensures.value)
          c.in_ok-triangulated.ensures.handles) c.in_ok-triangulated.ensures.vertices
          c.in_ok-triangulation.ensures.vertices c.in_ok-triangulation.ensures.none
          c.in_ok-added.ensures.adds
          c.in_ok-added.ensures.ends c.add_segments.ensures.headline;
    }) c.in_err-in_holes.ensures.refuses)

pub returns-in_err-add_side_faces-clause-refuses : goal.returns-in_err-add_side_faces-clause-refuses
returns-in_err-add_side_faces-clause-refuses c =
    let points = c.args.points.now in
    let handles = c.as_slice.result.now in
    let plain = c.in_ok-triangulated.triangulated.plain.vertices in
    refused_by c.from_residual-in_err-add_side_faces.result _ (RefusesDrawing points
    c.args.segments.now c.args.holes.now c.args.sides.now)
    c.from_residual-in_err-add_side_faces.ensures.1 (sides_refused points c.args.segments.now
    c.args.holes.now c.args.sides.now c.as_slice-2.result.now (record {
      handles = handles;
      names = c.in_ok-triangulated.triangulated.vertices.items;
      added = c.in_ok-added.added.items;
      state = c.add_segments.new.triangulation;
      drawing = drawing_of points handles c.in_ok-triangulated.triangulated.vertices.items
          c.args.segments.now c.in_ok-added.added.items plain c.in_ok-triangulation.triangulation
          c.add_segments.new.triangulation c.in_ok-triangulated.ensures.may_take
          (subst (λ hs. HaveHandles position points hs plain) (sym c.as_slice.ensures.value)
          c.in_ok-triangulated.ensures.handles) c.in_ok-triangulated.ensures.vertices
          c.in_ok-triangulation.ensures.vertices c.in_ok-triangulation.ensures.none
          c.in_ok-added.ensures.adds
          c.in_ok-added.ensures.ends c.add_segments.ensures.headline;
    }) c.in_ok-in_holes.in_holes.items (c.as_slice-2.ensures.value ∙ sym c.as_slice.ensures.value)
    c.in_ok-in_holes.ensures.faces _ c.in_err-add_side_faces.ensures.refuses)

pub kept_faces-requires : goal.kept_faces-requires
kept_faces-requires c =
    subst (All (λ f. f ≤ length c.add_segments.new.triangulation.faces))
    (sym c.as_slice-3.ensures.value)
    (beside_within c.add_segments.new.triangulation
    (map (ends_of c.as_slice-2.result.now) c.args.sides.now)
    c.in_ok-in_holes.in_holes.items c.add_side_faces.new.faces.items
    c.in_ok-add_side_faces.ensures.adds c.in_ok-in_holes.ensures.within)

pub returns-in_err-corners-clause-refuses : goal.returns-in_err-corners-clause-refuses
returns-in_err-corners-clause-refuses c =
    refused_by c.from_residual-in_err-corners.result _ (RefusesDrawing c.args.points.now
    c.args.segments.now c.args.holes.now c.args.sides.now)
    c.from_residual-in_err-corners.ensures.1 (memory_refused refl)

pub returns-in_err-faces-clause-refuses : goal.returns-in_err-faces-clause-refuses
returns-in_err-faces-clause-refuses c =
    refused_by c.from_residual-in_err-faces.result _ (RefusesDrawing c.args.points.now
    c.args.segments.now c.args.holes.now c.args.sides.now)
    c.from_residual-in_err-faces.ensures.1 (memory_refused refl)

pub returns-clause-draws : goal.returns-clause-draws
returns-clause-draws c =
    let points = c.args.points.now in
    let handles = c.as_slice.result.now in
    let names = c.in_ok-triangulated.triangulated.vertices.items in
    let plain = c.in_ok-triangulated.triangulated.plain.vertices in
    let new = c.add_segments.new.triangulation in
    let corners = c.in_ok-corners.corners.items in
    let sides = c.in_ok-add_side_faces.ensures in
    let same = c.as_slice-2.ensures.value ∙ sym c.as_slice.ensures.value in
    let drawing = drawing_of points handles names c.args.segments.now c.in_ok-added.added.items
    plain c.in_ok-triangulation.triangulation new c.in_ok-triangulated.ensures.may_take
    (subst (λ hs. HaveHandles position points hs plain) (sym c.as_slice.ensures.value)
    c.in_ok-triangulated.ensures.handles) c.in_ok-triangulated.ensures.vertices
    c.in_ok-triangulation.ensures.vertices
    c.in_ok-triangulation.ensures.none c.in_ok-added.ensures.adds c.in_ok-added.ensures.ends
    c.add_segments.ensures.headline in
    record {
      handles = handles;
      drawing = drawing;
      in_holes = c.in_ok-in_holes.in_holes.items;
      in_holes_are = c.in_ok-in_holes.ensures.faces;
      side_ends = all_end_at_points points handles new.vertices drawing.handles_are
          c.args.sides.now (subst (λ (hs : List ℕ). All (HasEnds hs (length new.vertices))
          c.args.sides.now) same sides.ends);
      beside = sides.adds.here;
      beside_are = subst (λ (hs : List ℕ). AreBeside new (map (ends_of hs) c.args.sides.now)
          sides.adds.here) same sides.adds.beside;
      faces = map face_of corners;
      faces_are = subst (λ (starts : List ℕ). AreKept (IsLeftOut c.args.kept new.mesh
          (constraint_edges new.undirected) starts) 1 (triangulation_of position new).faces
          (map face_of corners)) (c.as_slice-3.ensures.value ∙ sides.adds.faces)
          c.in_ok-corners.ensures;
      places = c.in_ok-faces.ensures
          ∙ ap (λ ns. map (λ f. places_of ns (face_of f)) c.as_slice-4.result.now)
          c.as_slice-5.ensures.value
          ∙ ap (map (λ f. places_of names (face_of f))) c.as_slice-4.ensures.value
          ∙ named_faces names corners;
    }
