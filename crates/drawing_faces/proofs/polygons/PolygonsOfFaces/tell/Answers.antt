use Rattle.std.proofs.Common.{◌<◌, ◌∙◌, ℕ, length, sym, subst, ap}
use Rattle.std.specs.Prelude.{All}
use Rattle.std.proofs.lemmas.List.Elements.{All-push}
use Rattle.drawing_faces.proofs.polygons.PolygonsOfFaces.tell.Goals as goal

pub returns-clause-within : goal.returns-clause-within
returns-clause-within g c =
    let n : ℕ = length c.args.dcel.now.directed in
    let P : ℕ → Type 0 = λ (h : ℕ). h < n in
    let first = c.adjacent_edge-edge.ensures.dcel ∙ c.face.ensures.dcel in
    let one = subst (All P) (sym c.in_ok-push.ensures.items)
    (All-push P c.args.due.now.items c.fix.result c.requires.within
    (subst (λ (k : ℕ). c.fix.result < k) (ap (λ d. length d.now.directed) first)
    c.fix.ensures.in_range)) in
    let two = subst (All P) (sym c.in_ok-push-2.ensures.items)
    (All-push P c.push.new.self.items c.fix-2.result one
    (subst (λ (k : ℕ). c.fix-2.result < k)
    (ap (λ d. length d.now.directed) (c.next.ensures.dcel ∙ first)) c.fix-2.ensures.in_range)) in
    subst (All P) (sym c.in_ok-push-3.ensures.items)
    (All-push P c.push-2.new.self.items c.fix-3.result two
    (subst (λ (k : ℕ). c.fix-3.result < k)
    (ap (λ d. length d.now.directed) (c.prev.ensures.dcel ∙ first)) c.fix-3.ensures.in_range))
