use Rattle.std.proofs.Common.{◌∙◌, ap, get_or, length, subst}
use Rattle.std.specs.Prelude.{All}
use Rattle.std.proofs.lemmas.List.{take_all}
use Rattle.std.proofs.lemmas.List.Elements.{All-more, All-nil}
use Rattle.drawing_faces.specs.{DrawnSegment, HasEnds}
use Rattle.drawing_faces.proofs.Beside.{beside_none, sides_next}
use Rattle.drawing_faces.proofs.sides.add_side_faces.Goals as goal

pub loop-side-init : goal.loop-side-init
loop-side-init g c =
    let s = g.T.HasMesh.mesh_state c.args.triangulation.now in
    record {
      adds = beside_none s c.args.faces.now.items;
      ends = All-nil (HasEnds c.args.vertices.now (length s.vertices));
    }

pub loop-side-preserved : goal.loop-side-preserved
loop-side-preserved g c =
    let s = g.T.HasMesh.mesh_state c.args.triangulation.now in
    let vertices = c.args.vertices.now in
    let sides = c.args.sides.now in
    let i = c.loop-side.side-index in
    let d : DrawnSegment = record { from = 0; to = 0 } in
    let many = c.num_vertices-count.ensures.value
    ∙ ap (λ s. length s.vertices) c.mesh.ensures.state in
    record {
      adds = sides_next s vertices sides i d c.in-Some.ends c.args.faces.now.items
          c.loop-side.faces.items c.add_beside.new.faces.items c.loop-side-test.true
          c.in-Some.ensures.1 c.loop-side.invariant.adds c.in_ok-add_beside.ensures;
      ends = All-more (HasEnds vertices (length s.vertices)) sides i d c.loop-side-test.true
          c.loop-side.invariant.ends
          (subst (λ count. HasEnds vertices count (get_or sides i d)) many c.in-Some.ensures.0);
    }

pub returns-clause-ends : goal.returns-clause-ends
returns-clause-ends g c =
    subst (All (HasEnds c.args.vertices.now
    (length (g.T.HasMesh.mesh_state c.args.triangulation.now).vertices)))
    (take_all c.loop-side.side-index c.args.sides.now c.loop-side-test.false)
    c.loop-side.invariant.ends
