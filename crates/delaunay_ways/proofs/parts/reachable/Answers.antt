use Rattle.std.proofs.Common.{◌-◌, ◌∷◌, [], ◌++◌, ◌∙◌, ℕ, List, ap, arith, length, map}
use Rattle.std.proofs.Common.{refl, subst, sym}
use Rattle.std.specs.Prelude.{None, Option, replicate}
use Rattle.std.proofs.lemmas.List.{length-append, length-map}
use Rattle.delaunay_legalization.specs.{state_of, triangulation_of}
use Rattle.{delaunay_shapes.specs.by_place, delaunay_ways.specs.Parts.AreLabels}
use Rattle.delaunay_ways.specs.{IsFlood}
use Rattle.delaunay_ways.proofs.{Flooding.flood_begins, FreeSides.face_count, Surrounding.hull_of}
use Rattle.delaunay_ways.proofs.Labelled.{labelling_begins, labelling_ends, labelling_goes_on}
use Rattle.delaunay_ways.proofs.parts.reachable.Goals as goal

pub loop-index-init : goal.loop-index-init
loop-index-init g c =
    let at = g.V.HasPosition.place in
    let t = triangulation_of at (state_of c.mesh-dcel.result.now) in
    let free = by_place (g.G.FreeFaces.free c.args.free.now) in
    let labels = c.in_ok-labels.labels.labels.items in
    let size = sym (length-map c.mesh-dcel.result.now.vertices at) in
    let items = c.in_ok-push.ensures.items
    ∙ ap (λ (xs : List (Option ℕ)). xs ++ None ∷ []) c.new-parts.ensures.items in (
      labelling_begins t free labels c.push.new.self.items c.in_ok-labels.labels.count
          c.in_ok-labels.ensures.count
          (subst (IsFlood t free labels []) (sym c.in_ok-labels.ensures.count)
          (flood_begins t free labels []
          (c.in_ok-labels.ensures.labels ∙ ap (λ (n : ℕ). replicate n None) size) refl)) items,
      ap (λ (xs : List (Option ℕ)). length xs) items,
      c.in_ok-labels.ensures.left,
    )

pub loop-index-preserved : goal.loop-index-preserved
loop-index-preserved g c =
    let t = triangulation_of g.V.HasPosition.place (state_of c.mesh-dcel.result.now) in
    let free = by_place (g.G.FreeFaces.free c.args.free.now) in
    let some = c.loop-index.invariant.0.some in
    let so_far = c.loop-index.invariant.1 in
    let is = c.from_index-face.ensures in
    let more = length-append c.loop-index.parts.items (c.in_ok-label.label ∷ []) in
    let all = ap (λ (xs : List (Option ℕ)). length xs) c.in_ok-push-2.ensures.items in (
      labelling_goes_on t free c.loop-index.labels.labels.items
          c.label_face.new.self.labels.items c.loop-index.parts.items
          (c.from_index-face.result - 1) c.loop-index.labels.count c.label_face.new.self.count
          c.in_ok-label.label c.loop-index.invariant.0 (omega (arith, some, so_far, is))
          c.in_ok-label.ensures.label c.push-in-loop-index.new.self.items
          c.in_ok-push-2.ensures.items,
      omega (arith, all, more, so_far),
      c.in_ok-label.ensures.left,
    )

pub returns : goal.returns
returns g c =
    let at = g.V.HasPosition.place in
    let dcel = c.mesh-dcel.result.now in
    let free = by_place (g.G.FreeFaces.free c.args.free.now) in
    let whole = c.mesh-dcel.ensures.kept in
    let fit = whole.fits.faces_fit in
    let count = face_count (map at dcel.vertices) dcel.mesh whole.valid
    (g.G.FreeFaces.free c.args.free.now) in
    let value = c.num_faces-index-end.ensures.value in
    let so_far = c.loop-index.invariant.1 in
    subst (λ s. AreLabels (triangulation_of at s) free c.loop-index.parts.items)
    c.mesh-dcel.ensures.state
    (labelling_ends (triangulation_of at (state_of dcel)) free (hull_of at dcel whole)
    c.loop-index.labels.labels.items c.loop-index.parts.items c.loop-index.labels.count
    c.loop-index.invariant.0
    (omega (
      arith,
      fit,
      count,
      value,
      so_far,
      c.loop-index.auto.index-end,
      c.loop-index-test.false,
    )))
