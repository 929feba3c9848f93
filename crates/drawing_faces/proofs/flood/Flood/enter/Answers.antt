use Rattle.std.proofs.Common.{◌≡◌, ◌∙◌, set, ap, sym}
use Rattle.std.proofs.lemmas.Result.{on_ok_weaker}
use Rattle.half_edge_links.specs.{face_edge, next, prev}
use Rattle.drawing_faces.proofs.Listing.{entered_before, entered_first, less_work, stands_at}
use Rattle.drawing_faces.proofs.flood.Flood.enter.Goals as goal

pub returns-then-index-eq0-clause-enters : goal.returns-then-index-eq0-clause-enters
returns-then-index-eq0-clause-enters g c =
    let m = c.args.dcel.now.mesh in
    let constraints = g.M.ConstraintMarker.constraints c.args.dcel.now.undirected in
    let s = c.args.self.now in
    entered_before m constraints s.reached.items s.due.items c.args.face
    (stands_at s.reached.items c.args.face c.index-index.result c.index.result.now
    c.index-index.ensures c.requires.within c.index.ensures ∙ c.if-index-eq0.true)

pub returns-clause-enters : goal.returns-clause-enters
returns-clause-enters g c =
    let m = c.args.dcel.now.mesh in
    let constraints = g.M.ConstraintMarker.constraints c.args.dcel.now.undirected in
    let s = c.args.self.now in
    let f = c.args.face in
    let at = stands_at s.reached.items f c.index-index.result c.index.result.now
    c.index-index.ensures c.requires.within c.index.ensures in
    let mesh = c.face.ensures.dcel in
    let first = c.adjacent_edge-edge.ensures.index
    ∙ ap (λ d. face_edge d.now.mesh c.face.result.index) mesh
    ∙ ap (face_edge m) c.face.ensures.index in
    let beside = c.adjacent_edge-edge.ensures.dcel ∙ mesh in
    let second = c.fix-2.ensures.value ∙ c.next.ensures.index
    ∙ ap (λ d. next d.now.mesh c.adjacent_edge-edge.result.index) beside
    ∙ ap (next m) first in
    let third = c.fix-3.ensures.value ∙ c.prev.ensures.index
    ∙ ap (λ d. prev d.now.mesh c.adjacent_edge-edge.result.index) beside
    ∙ ap (prev m) first in
    let marks : c.list-3.new.self.reached.items ≡ set s.reached.items f 0 =
    ap (λ v. v.items) (c.list-3.ensures.reached ∙ c.list-2.ensures.reached
    ∙ c.list.ensures.reached) ∙ ap (λ i. set s.reached.items i 0) c.index-index.ensures in
    on_ok_weaker c.list-3.result
    (λ last. entered_first m constraints s.reached.items s.due.items f c.requires.size
    c.requires.outer c.requires.within (λ r. c.if-index-eq0.false (sym at ∙ r))
    c.recall_invariant.ensures.whole.valid.sound
    c.list-3.new.self.reached.items c.list.new.self.due.items c.list-2.new.self.due.items
    c.list-3.new.self.due.items c.fix.result c.fix-2.result c.fix-3.result marks
    (c.fix.ensures.value ∙ first) second third
    c.in_ok-list.ensures.lists c.in_ok-list-2.ensures.lists last)
    c.list-3.ensures.lists

pub returns-clause-work : goal.returns-clause-work
returns-clause-work g c =
    let m = c.args.dcel.now.mesh in
    let constraints = g.M.ConstraintMarker.constraints c.args.dcel.now.undirected in
    let s = c.args.self.now in
    let f = c.args.face in
    let at = stands_at s.reached.items f c.index-index.result c.index.result.now
    c.index-index.ensures c.requires.within c.index.ensures in
    let marks : c.list-3.new.self.reached.items ≡ set s.reached.items f 0 =
    ap (λ v. v.items) (c.list-3.ensures.reached ∙ c.list-2.ensures.reached
    ∙ c.list.ensures.reached) ∙ ap (λ i. set s.reached.items i 0) c.index-index.ensures in
    on_ok_weaker c.list-3.result
    (λ last. less_work m constraints s.reached.items s.due.items f c.requires.size
    c.requires.outer c.requires.within (λ r. c.if-index-eq0.false (sym at ∙ r))
    c.list-3.new.self.reached.items c.list.new.self.due.items c.list-2.new.self.due.items
    c.list-3.new.self.due.items marks c.in_ok-list.ensures.work c.in_ok-list-2.ensures.work last)
    c.list-3.ensures.work
