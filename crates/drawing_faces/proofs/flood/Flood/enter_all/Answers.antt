use Rattle.std.proofs.Common.{length}
use Rattle.drawing_faces.proofs.Flooding.{begin_first, begin_last, begin_more, small_face}
use Rattle.drawing_faces.proofs.flood.Flood.enter_all.Goals as goal

pub loop-face-init : goal.loop-face-init
loop-face-init g c =
    begin_first c.args.dcel.now.mesh
    (g.M.ConstraintMarker.constraints c.args.dcel.now.undirected) c.args.faces.now
    c.args.self.now.reached.items c.args.self.now.due.items c.requires.flood

pub enter-requires-clause-within : goal.enter-requires-clause-within
enter-requires-clause-within g c =
    small_face c.args.dcel.now.mesh (length c.args.dcel.now.faces) c.loop-face.self.reached.items
    c.args.faces.now c.loop-face.face-index c.face-item.result c.face-item.result
    c.recall_invariant.ensures.whole.fits.faces_fit c.loop-face.invariant.flood.size
    c.requires.within c.loop-face-test.true c.face-item.is

pub loop-face-preserved : goal.loop-face-preserved
loop-face-preserved g c =
    let s = c.loop-face.self in
    let t = c.enter.new.self in
    begin_more c.args.dcel.now.mesh
    (g.M.ConstraintMarker.constraints c.args.dcel.now.undirected) c.args.faces.now
    s.reached.items t.reached.items s.due.items t.due.items c.loop-face.face-index
    c.face-item.result c.face-item.result c.face-item.is c.loop-face-test.true
    c.loop-face.invariant c.in_ok-enter.ensures.enters
    (small_face c.args.dcel.now.mesh (length c.args.dcel.now.faces) s.reached.items
    c.args.faces.now c.loop-face.face-index c.face-item.result c.face-item.result
    c.recall_invariant.ensures.whole.fits.faces_fit c.loop-face.invariant.flood.size
    c.requires.within c.loop-face-test.true c.face-item.is)

pub returns-clause-each : goal.returns-clause-each
returns-clause-each g c =
    begin_last c.args.dcel.now.mesh
    (g.M.ConstraintMarker.constraints c.args.dcel.now.undirected) c.args.faces.now
    c.loop-face.self.reached.items c.loop-face.self.due.items c.loop-face.face-index
    c.loop-face.invariant c.loop-face-test.false
