use Rattle.std.proofs.Common.{ℕ, ◌+◌, ◌∷◌, ◌∙◌, ap, arith, refl, subst, sym}
use Rattle.std.proofs.lemmas.List.{length-map}
use Rattle.delaunay_legalization.specs.{state_of, triangulation_of}
use Rattle.{delaunay_shapes.specs.by_place, plane_theorems.proofs.Contains-head}
use Rattle.delaunay_ways.specs.{GivesLabel, IsFlood}
use Rattle.delaunay_ways.proofs.Flooding.{flood_starts, flood_takes}
use Rattle.delaunay_ways.proofs.labels.Labels.flood.Goals as goal

pub loop-vertex-init : goal.loop-vertex-init
loop-vertex-init g c =
    let t = triangulation_of g.V.HasPosition.place (state_of c.args.dcel.now) in
    let free = by_place (g.G.FreeFaces.free c.args.free.now) in
    let before = c.args.self.now in
    let after = c.give.new.self in
    let size = length-map c.args.dcel.now.vertices g.V.HasPosition.place in
    let count = c.requires.flooded.0.count in
    let exists = c.requires.exists in
    let start = flood_starts t free before.labels.items after.labels.items before.left.items
    after.left.items c.args.vertex before.count c.requires.flooded.0 c.requires.flooded.1
    c.requires.bare (omega (arith, size, count, exists)) c.requires.joined
    (subst (λ v. GivesLabel before.labels.items before.left.items v before.count
    after.labels.items after.left.items) c.index.ensures c.in_ok-give.ensures.gives) in (
      refl,
      ap (λ (k : ℕ). k + 1) c.give.ensures.count,
      start.0,
      start.1,
      start.2,
    )

pub spread-requires-clause-flood : goal.spread-requires-clause-flood
spread-requires-clause-flood g c =
    let t = triangulation_of g.V.HasPosition.place (state_of c.args.dcel.now) in
    let free = by_place (g.G.FreeFaces.free c.args.free.now) in
    let labels = c.loop-vertex.self.labels.items in
    let left = c.pop.new.self.items in
    let n = c.args.self.now.count + 1 in
    subst (λ v. IsFlood t free labels (v ∷ left) n) (sym c.from_index.ensures)
    (flood_takes t free labels c.loop-vertex.self.left.items left c.in-Some.vertex n
    c.loop-vertex.invariant.2 c.in-Some.ensures.items)

pub spread-requires-clause-here : goal.spread-requires-clause-here
spread-requires-clause-here g c =
    let t = triangulation_of g.V.HasPosition.place (state_of c.args.dcel.now) in
    let free = by_place (g.G.FreeFaces.free c.args.free.now) in
    let labels = c.loop-vertex.self.labels.items in
    let left = c.pop.new.self.items in
    let n = c.args.self.now.count + 1 in
    let f = flood_takes t free labels c.loop-vertex.self.left.items left c.in-Some.vertex n
    c.loop-vertex.invariant.2 c.in-Some.ensures.items in
    let here = f.last c.in-Some.vertex c.args.self.now.count (Contains-head c.in-Some.vertex left)
    refl in let is = c.from_index.ensures in cc

pub loop-vertex-preserved : goal.loop-vertex-preserved
loop-vertex-preserved g c = (
  refl,
  c.spread.ensures.count ∙ c.loop-vertex.invariant.1,
  c.in_ok-spread.ensures.flood,
  λ u k is. c.in_ok-spread.ensures.kept u k (c.loop-vertex.invariant.3 u k is),
  c.in_ok-spread.ensures.kept c.args.vertex c.args.self.now.count c.loop-vertex.invariant.4,
)
