use Rattle.drawing_faces.specs.Holes.{RefusesHoles}
use Rattle.drawing_faces.proofs.InFaces.{all_there, in_next}
use Rattle.drawing_faces.proofs.Refusing.{refused_at, refused_by}
use Rattle.drawing_faces.proofs.holes.hole_faces.Goals as goal

pub loop-index-preserved : goal.loop-index-preserved
loop-index-preserved g c =
    let s = g.T.Triangulation.state c.args.triangulation.now in
    let constraints = g.T.Constraints.ConstraintMarker.constraints s.undirected in
    let holes = c.args.holes.now in
    let i = c.loop-index.index in
    record {
      faces = in_next s constraints holes i _ c.loop-index.faces.items _
          c.in_ok-add_faces.ensures.adds c.loop-index-test.true c.loop-index.invariant.faces;
      within = all_there s constraints holes i _ c.loop-index.faces.items _
          c.in_ok-add_faces.ensures.adds c.loop-index.invariant.within;
    }

pub returns-in_err-add_faces-clause-refuses : goal.returns-in_err-add_faces-clause-refuses
returns-in_err-add_faces-clause-refuses g c =
    let s = g.T.Triangulation.state c.args.triangulation.now in
    let constraints = g.T.Constraints.ConstraintMarker.constraints s.undirected in
    let holes = c.args.holes.now in
    refused_by c.from_residual.result _ (RefusesHoles s constraints holes)
    c.from_residual.ensures.1
    (refused_at s constraints holes c.loop-index.index _ c.loop-index.faces.items _
    c.loop-index-test.true c.loop-index.invariant.faces c.in_err-add_faces.ensures.refuses)
