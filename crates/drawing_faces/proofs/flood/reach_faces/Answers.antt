use Rattle.std.proofs.Common.{◌≡◌, ◌∙◌, arith, ap, refl, sym, subst}
use Rattle.delaunay_legalization.proofs.Legalizing.{drained}
use Rattle.{drawing_faces.specs.IsFlood, half_edge_links.specs.face, half_edge_links.specs.rev}
use Rattle.drawing_faces.proofs.Flooding.{all_open, begun, edge_within, next_entered, next_keeps}
use Rattle.drawing_faces.proofs.flood.reach_faces.Goals as goal

pub enter_all-requires-clause-flood : goal.enter_all-requires-clause-flood
enter_all-requires-clause-flood g c =
    let m = c.args.dcel.now.mesh in
    let constraints = g.M.ConstraintMarker.constraints c.args.dcel.now.undirected in
    subst (IsFlood m constraints c.args.starts.now (λ f. ⊥) c.args.layers.items)
    (sym c.new.ensures.items)
    (begun m constraints c.args.starts.now c.recall_invariant.ensures.whole.valid.sound
    c.args.layers.items c.requires.layers)

pub directed_edge-requires : goal.directed_edge-requires
directed_edge-requires g c =
    let m = c.args.dcel.now.mesh in
    let within = edge_within m (g.M.ConstraintMarker.constraints c.args.dcel.now.undirected)
    c.args.starts.now c.recall_invariant.ensures.whole.valid.sound
    c.loop-edge.flood.reached.items c.pop.new.self.items c.loop-edge.flood.due.items
    c.in-Some.edge (face m (rev c.in-Some.edge)) c.in-Some.ensures.items
    c.loop-edge.invariant.flood refl in
    let fits = c.recall_invariant.ensures.whole.fits.directed_fit in
    omega (arith, within, fits)

pub loop-edge-preserved : goal.loop-edge-preserved
loop-edge-preserved g c =
    let m = c.args.dcel.now.mesh in
    let constraints = g.M.ConstraintMarker.constraints c.args.dcel.now.undirected in
    let links = c.recall_invariant.ensures.whole.valid.sound in
    let reached = c.loop-edge.flood.reached.items in
    let due = c.pop.new.self.items in
    let h = c.in-Some.edge in
    let f = c.fix-face.result in
    let at : f ≡ face m (rev h) = c.fix-face.ensures.value ∙ c.face.ensures.index
    ∙ ap (λ d. face d.now.mesh c.rev.result.index)
    (c.rev.ensures.dcel ∙ c.directed_edge.ensures.dcel)
    ∙ ap (face m) (c.rev.ensures.index ∙ ap rev c.directed_edge.ensures.index) in
    record {
      flood = next_entered m constraints c.args.starts.now links reached due
          c.loop-edge.flood.due.items h f c.in-Some.ensures.items c.loop-edge.invariant.flood at
          c.enter.new.self.reached.items c.enter.new.self.due.items c.in_ok-enter.ensures.enters;
      each = λ s x. next_keeps m constraints c.args.starts.now links reached due
          c.loop-edge.flood.due.items h f c.in-Some.ensures.items c.loop-edge.invariant.flood at
          c.enter.new.self.reached.items c.enter.new.self.due.items c.in_ok-enter.ensures.enters
          s (c.loop-edge.invariant.each s x);
    }

pub returns : goal.returns
returns g c =
    let m = c.args.dcel.now.mesh in
    let constraints = g.M.ConstraintMarker.constraints c.args.dcel.now.undirected in
    let reached = c.loop-edge.flood.reached.items in
    let none = drained c.loop-edge.flood.due.items c.pop.new.self.items _
    c.in_default.ensures.items c.in_default.ensures.rest c.in_default.ensures.cases.0 in
    all_open m constraints c.args.starts.now reached
    (subst (IsFlood m constraints c.args.starts.now (λ f. ⊥) reached) none
    c.loop-edge.invariant.flood) c.loop-edge.invariant.each
