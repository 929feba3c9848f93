use Rattle.std.proofs.Common.{◌≡◌, ◌-◌, ◌<◌, ◌∙◌, arith, length, refl, sym}
use Rattle.std.specs.Prelude.{None, Some}
use Rattle.std.proofs.lemmas.List.{get_or_read, length-map}
use Rattle.delaunay_legalization.specs.{state_of, triangulation_of}
use Rattle.{delaunay_shapes.specs.by_place, delaunay_ways.specs.label_at}
use Rattle.delaunay_ways.proofs.Flooding.{face_gets, face_had}
use Rattle.delaunay_ways.proofs.LabelRounds.{corner_joins, first_corner, free_place}
use Rattle.delaunay_ways.proofs.labels.Labels.label_face.Goals as goal

pub flood-requires-clause-joined : goal.flood-requires-clause-joined
flood-requires-clause-joined g c =
    corner_joins g.V.HasPosition.place c.args.dcel.now c.requires.kept
    (g.G.FreeFaces.free c.args.free.now) c.args.face c.first_corner-corner.result
    c.requires.inner.0 c.requires.inner.1 (sym c.is_free.ensures ∙ c.if-not-is_free.false)
    c.first_corner-corner.ensures.value

pub returns-in-Some-clause-label : goal.returns-in-Some-clause-label
returns-in-Some-clause-label g c =
    let at = g.V.HasPosition.place in
    let free = g.G.FreeFaces.free c.args.free.now in
    let labels = c.args.self.now.labels.items in
    let within : c.index.result < length labels = let i = c.index.ensures in
    let in_range = c.first_corner-corner.ensures.in_range in
    let size = length-map c.args.dcel.now.vertices at in
    let count = c.requires.flooded.0.count in omega (arith, i, in_range, size, count) in
    let read = get_or_read labels c.index.result _ within c.index-2.ensures None in
    let here : label_at labels c.first_corner-corner.result ≡ Some c.in-Some.label =
    let i = c.index.ensures in let s = c.in-Some.is in cc in
    face_had (triangulation_of at (state_of c.args.dcel.now)) (by_place free) labels
    c.args.self.now.left.items c.args.self.now.count (c.args.face - 1)
    c.first_corner-corner.result
    (free_place at c.args.dcel.now c.requires.kept free c.args.face c.requires.inner.0
    (sym c.is_free.ensures ∙ c.if-not-is_free.false))
    (c.first_corner-corner.ensures.value ∙ first_corner at c.args.dcel.now c.requires.kept free
    c.args.face c.requires.inner.0 c.requires.inner.1)
    c.requires.flooded c.in-Some.label (Some c.in-Some.label) here refl

pub returns-clause-label : goal.returns-clause-label
returns-clause-label g c =
    let at = g.V.HasPosition.place in
    let free = g.G.FreeFaces.free c.args.free.now in
    face_gets (triangulation_of at (state_of c.args.dcel.now)) (by_place free)
    c.args.self.now.labels.items c.args.self.now.left.items c.args.self.now.count
    (c.args.face - 1) c.first_corner-corner.result
    (free_place at c.args.dcel.now c.requires.kept free c.args.face c.requires.inner.0
    (sym c.is_free.ensures ∙ c.if-not-is_free.false))
    (c.first_corner-corner.ensures.value ∙ first_corner at c.args.dcel.now c.requires.kept free
    c.args.face c.requires.inner.0 c.requires.inner.1)
    c.flood.new.self.labels.items c.flood.new.self.left.items c.flood.new.self.count
    (Some c.args.self.now.count) c.in_ok-flood.ensures refl
