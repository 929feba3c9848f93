use Rattle.std.proofs.Common.{◌≡◌, ◌∙◌, set, ap, sym}
use Rattle.std.proofs.lemmas.Result.{on_ok_weaker}
use Rattle.half_edge_links.specs.{face, face_edge, next, prev, rev}
use Rattle.delaunay_extensions.proofs.Searching.{crossing_passes, crossing_steps, edge_there}
use Rattle.delaunay_extensions.proofs.search.LayerSearch.cross.Goals as goal

pub directed_edge-requires : goal.directed_edge-requires
directed_edge-requires g c = edge_there c.args.self.now c.args.edge c.requires

pub returns-then-index-clause-search : goal.returns-then-index-clause-search
returns-then-index-clause-search g c =
    let m = c.args.dcel.now.mesh in
    let is = c.index-index.ensures ∙ c.fix.ensures.value ∙ c.face-face.ensures.index
    ∙ ap (λ d. face d.now.mesh c.rev.result.index)
    (c.rev.ensures.dcel ∙ c.directed_edge.ensures.dcel)
    ∙ ap (face m) (c.rev.ensures.index ∙ ap rev c.directed_edge.ensures.index) in
    crossing_passes c.args.self.now c.args.edge c.requires is c.index.ensures c.if-index.true

pub returns-clause-search : goal.returns-clause-search
returns-clause-search g c =
    let m = c.args.dcel.now.mesh in
    let s = c.args.self.now in
    let own = c.index-index.ensures ∙ c.fix.ensures.value in
    let is = own ∙ c.face-face.ensures.index
    ∙ ap (λ d. face d.now.mesh c.rev.result.index)
    (c.rev.ensures.dcel ∙ c.directed_edge.ensures.dcel)
    ∙ ap (face m) (c.rev.ensures.index ∙ ap rev c.directed_edge.ensures.index) in
    let mesh = c.face-face.ensures.dcel ∙ c.rev.ensures.dcel ∙ c.directed_edge.ensures.dcel in
    let first = c.adjacent_edge-edge.ensures.index
    ∙ ap (λ d. face_edge d.now.mesh c.face-face.result.index) mesh
    ∙ ap (face_edge m) (sym own) in
    let beside = c.adjacent_edge-edge.ensures.dcel ∙ mesh in
    let second = c.fix-3.ensures.value ∙ c.next.ensures.index
    ∙ ap (λ d. next d.now.mesh c.adjacent_edge-edge.result.index) beside
    ∙ ap (next m) first in
    let third = c.fix-4.ensures.value ∙ c.prev.ensures.index
    ∙ ap (λ d. prev d.now.mesh c.adjacent_edge-edge.result.index) beside
    ∙ ap (prev m) first in
    let layers : c.list-3.new.self.layers.items ≡ set s.layers.items c.index-index.result s.layer =
    ap (λ v. v.items) (c.list-3.ensures.layers ∙ c.list-2.ensures.layers ∙ c.list.ensures.layers) in
    let layer : c.list-3.new.self.layer ≡ s.layer =
    c.list-3.ensures.layer ∙ c.list-2.ensures.layer ∙ c.list.ensures.layer in
    on_ok_weaker c.list-3.result (crossing_steps s c.args.edge c.requires is c.index.ensures
    c.if-index.false c.list.new.self c.list-2.new.self c.list-3.new.self
    (c.fix-2.ensures.value ∙ first) second third c.in_ok-list.ensures.lists
    c.in_ok-list-2.ensures.lists layers layer) c.list-3.ensures.lists
