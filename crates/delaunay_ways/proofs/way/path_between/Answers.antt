use Rattle.std.proofs.Common.{◌<◌, ℕ, subst, sym}
use Rattle.std.specs.Prelude.{All, IfOk, MatchOption}
use Rattle.std.proofs.lemmas.List.{length-map}
use Rattle.delaunay_core.specs.{place_of}
use Rattle.delaunay_legalization.specs.{state_of, triangulation_of}
use Rattle.{delaunay_shapes.specs.by_place, plane.specs.whole, plane_theorems.specs.IsInFree}
use Rattle.{delaunay_ways.specs.Ways.IsPathBetween, plane_theorems.specs.Ways.Chains.IsJoined}
use Rattle.delaunay_ways.proofs.{Joining.between_of, Surrounding.hull_of}
use Rattle.delaunay_ways.proofs.way.path_between.Goals as goal

pub returns-in_default : goal.returns-in_default
returns-in_default g c =
    let free = by_place (g.G.FreeFaces.free c.args.free.now) in
    let p = whole (place_of g.V.Scalar.SpadeNum.whole c.args.from) in
    λ j. c.in_default.ensures free (subst (λ s. IsInFree (triangulation_of g.V.HasPosition.place s)
    free p) (sym c.mesh-dcel.ensures.state) c.requires.from_free)

pub returns-in_default-corners_at : goal.returns-in_default-corners_at
returns-in_default-corners_at g c =
    let free = by_place (g.G.FreeFaces.free c.args.free.now) in
    let q = whole (place_of g.V.Scalar.SpadeNum.whole c.args.to) in
    λ j. c.in_default-corners_at.ensures free (subst
    (λ s. IsInFree (triangulation_of g.V.HasPosition.place s) free q)
    (sym c.mesh-dcel.ensures.state) c.requires.to_free)

pub find_path-requires-clause-last : goal.find_path-requires-clause-last
find_path-requires-clause-last g c =
    subst (λ (n : ℕ). All (λ v. v < n) c.in-Some-corners_at.last)
    (length-map c.mesh-dcel.result.now.vertices g.V.HasPosition.place)
    c.in-Some-corners_at.ensures.exist

pub returns : goal.returns
returns g c =
    let at = g.V.HasPosition.place in
    let free = by_place (g.G.FreeFaces.free c.args.free.now) in
    let p = whole (place_of g.V.Scalar.SpadeNum.whole c.args.from) in
    let q = whole (place_of g.V.Scalar.SpadeNum.whole c.args.to) in
    let state = c.mesh-dcel.ensures.state in
    subst (λ s. IfOk c.find_path.result (λ found. MatchOption found
    (¬ IsJoined (triangulation_of at s) free p q)
    (λ vs. IsPathBetween (triangulation_of at s) free p q vs.items))) state
    (between_of (triangulation_of at (state_of c.mesh-dcel.result.now)) free
    (hull_of at c.mesh-dcel.result.now c.mesh-dcel.ensures.kept) (λ vs. vs.items) p q
    c.in-Some.first c.in-Some-corners_at.last
    (subst (λ s. IsInFree (triangulation_of at s) free p) (sym state) c.requires.from_free)
    (subst (λ s. IsInFree (triangulation_of at s) free q) (sym state) c.requires.to_free)
    c.in-Some.ensures c.in-Some-corners_at.ensures c.find_path.result c.find_path.ensures)
