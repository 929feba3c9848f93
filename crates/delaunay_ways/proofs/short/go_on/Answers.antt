use Rattle.std.proofs.Common.{◌≡◌, ◌∙◌, ap, append-nil, map, subst, sym}
use Rattle.std.specs.Prelude.{All, pos, reverse, ◌++◌}
use Rattle.{delaunay_core.specs.place_of, delaunay_shapes.specs.by_place}
use Rattle.{delaunay_legalization.specs.triangulation_of, plane.specs.InRange}
use Rattle.plane.specs.{IsVertex, Point, whole}
use Rattle.delaunay_ways.specs.{point_at, Turning.end_place, Ways.IsPathBetween}
use Rattle.delaunay_ways.proofs.Shortening.{done_exist, end_is, here_exists, left_exist}
use Rattle.delaunay_ways.proofs.Shortening.{moved_over, stepped}
use Rattle.delaunay_ways.proofs.short.go_on.Goals as goal

pub end_of-before-requires : goal.end_of-before-requires
end_of-before-requires g c =
    let at = g.V.HasPosition.place in
    rw c.deref.ensures.value (subst (λ s. All (IsVertex (triangulation_of at s))
    c.args.done.now.items) (sym c.mesh-dcel.ensures.state)
    (done_exist _ _ _ _ c.args.done.now.items c.args.left.now.items c.args.vertex c.requires.path))

pub end_of-after-requires : goal.end_of-after-requires
end_of-after-requires g c =
    let at = g.V.HasPosition.place in
    rw c.deref-2.ensures.value (subst (λ s. All (IsVertex (triangulation_of at s))
    c.args.left.now.items) (sym c.mesh-dcel.ensures.state)
    (left_exist _ _ _ _ c.args.done.now.items c.args.left.now.items c.args.vertex c.requires.path))

pub shorter-requires-clause-from_covered : goal.shorter-requires-clause-from_covered
shorter-requires-clause-from_covered g c =
    let at = g.V.HasPosition.place in
    let s = g.T.HasMesh.mesh_state c.args.triangulation.now in
    let t = triangulation_of at s in
    let p = place_of g.V.Scalar.SpadeNum.whole c.args.from in
    let covered = g.P.PlaneTests.covered c.args.tests.now in
    let same = c.mesh-dcel.ensures.state in
    let sites = c.requires.sites (subst (λ s. All InRange (map at s.vertices)) same
    c.mesh-dcel.ensures.in_range) in
    let is = c.end_of-before.ensures
    ∙ ap (λ s. end_place (triangulation_of at s) p c.deref.result.now) same
    ∙ ap (end_place t p) c.deref.ensures.value in
    subst covered (sym is) (end_is t covered p c.args.done.now.items c.requires.from_covered
    (λ v there. g.met.P.PlaneTests.sites_are_covered c.args.tests.now _
    (sites v (record { x = pos 0; y = pos 0 }) there))
    (done_exist t _ _ _ c.args.done.now.items c.args.left.now.items c.args.vertex c.requires.path))

pub shorter-requires-clause-to_covered : goal.shorter-requires-clause-to_covered
shorter-requires-clause-to_covered g c =
    let at = g.V.HasPosition.place in
    let s = g.T.HasMesh.mesh_state c.args.triangulation.now in
    let t = triangulation_of at s in
    let q = place_of g.V.Scalar.SpadeNum.whole c.args.to in
    let covered = g.P.PlaneTests.covered c.args.tests.now in
    let same = c.mesh-dcel.ensures.state in
    let sites = c.requires.sites (subst (λ s. All InRange (map at s.vertices)) same
    c.mesh-dcel.ensures.in_range) in
    let is = c.end_of-after.ensures
    ∙ ap (λ s. end_place (triangulation_of at s) q c.deref-2.result.now) same
    ∙ ap (end_place t q) c.deref-2.ensures.value in
    subst covered (sym is) (end_is t covered q c.args.left.now.items c.requires.to_covered
    (λ v there. g.met.P.PlaneTests.sites_are_covered c.args.tests.now _
    (sites v (record { x = pos 0; y = pos 0 }) there))
    (left_exist t _ _ _ c.args.done.now.items c.args.left.now.items c.args.vertex c.requires.path))

pub shorter-requires-clause-exists : goal.shorter-requires-clause-exists
shorter-requires-clause-exists g c =
    let is : c.from_index-here.result ≡ c.args.vertex = let f = c.from_index-here.ensures in cc in
    subst (IsVertex (triangulation_of g.V.HasPosition.place
    (g.T.HasMesh.mesh_state c.args.triangulation.now))) (sym is)
    (here_exists _ _ _ _ c.args.done.now.items c.args.left.now.items c.args.vertex c.requires.path)

pub returns-in_ok-push-2 : goal.returns-in_ok-push-2
returns-in_ok-push-2 g c =
    let at = g.V.HasPosition.place in
    let s = g.T.HasMesh.mesh_state c.args.triangulation.now in
    let t = triangulation_of at s in
    let free = by_place (g.G.FreeFaces.free c.args.free.now) in
    let p = place_of g.V.Scalar.SpadeNum.whole c.args.from in
    let q = place_of g.V.Scalar.SpadeNum.whole c.args.to in
    let same = c.mesh-dcel.ensures.state in
    let before = c.end_of-before.ensures
    ∙ ap (λ s. end_place (triangulation_of at s) p c.deref.result.now) same
    ∙ ap (end_place t p) c.deref.ensures.value in
    let after = c.end_of-after.ensures
    ∙ ap (λ s. end_place (triangulation_of at s) q c.deref-2.result.now) same
    ∙ ap (end_place t q) c.deref-2.ensures.value in
    stepped t free p q c.args.done.now.items c.args.left.now.items c.args.vertex c.requires.path
    c.in-Some.chain.items c.pop.new.self.items c.put_before.new.left.items
    c.push-in-Some-pop.new.self.items
    (subst (λ x. IsPathBetween t free (whole x) (whole (end_place t q c.args.left.now.items))
    c.in-Some.chain.items) before
    (subst (λ y. IsPathBetween t free
    (whole (place_of g.V.Scalar.SpadeNum.whole c.end_of-before.result)) (whole y)
    c.in-Some.chain.items) after (rw c.in-Some.is at c.in_ok-chain.ensures)))
    c.in_ok-put_before.ensures
    (moved_over _ _ _ _ c.in-Some-pop.last c.in-Some-pop.ensures.items c.in_ok-push-2.ensures.items)

pub returns-in_default-pop : goal.returns-in_default-pop
returns-in_default-pop g c =
    let at = g.V.HasPosition.place in
    let s = g.T.HasMesh.mesh_state c.args.triangulation.now in
    let t = triangulation_of at s in
    let free = by_place (g.G.FreeFaces.free c.args.free.now) in
    let p = place_of g.V.Scalar.SpadeNum.whole c.args.from in
    let q = place_of g.V.Scalar.SpadeNum.whole c.args.to in
    let same = c.mesh-dcel.ensures.state in
    let before = c.end_of-before.ensures
    ∙ ap (λ s. end_place (triangulation_of at s) p c.deref.result.now) same
    ∙ ap (end_place t p) c.deref.ensures.value in
    let after = c.end_of-after.ensures
    ∙ ap (λ s. end_place (triangulation_of at s) q c.deref-2.result.now) same
    ∙ ap (end_place t q) c.deref-2.ensures.value in
    stepped t free p q c.args.done.now.items c.args.left.now.items c.args.vertex c.requires.path
    c.in-Some.chain.items c.pop.new.self.items c.put_before.new.left.items
    c.put_before.new.left.items
    (subst (λ x. IsPathBetween t free (whole x) (whole (end_place t q c.args.left.now.items))
    c.in-Some.chain.items) before
    (subst (λ y. IsPathBetween t free
    (whole (place_of g.V.Scalar.SpadeNum.whole c.end_of-before.result)) (whole y)
    c.in-Some.chain.items) after (rw c.in-Some.is at c.in_ok-chain.ensures)))
    c.in_ok-put_before.ensures
    (ap (λ ws. ws ++ reverse c.put_before.new.left.items)
    (sym (c.in_default-pop.ensures.items ∙ append-nil c.pop.new.self.items)))
