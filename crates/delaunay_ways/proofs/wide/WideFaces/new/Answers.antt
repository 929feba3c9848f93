use Rattle.std.proofs.Common.{false, of_z, subst, to_z, w64}
use Rattle.std.specs.Prelude.{slice_index_or}
use Rattle.std.proofs.lemmas.Int.{to_z-of_z}
use Rattle.{delaunay_legalization.specs.triangulation_of, delaunay_shapes.specs.by_place}
use Rattle.delaunay_ways.specs.{AreWide}
use Rattle.delaunay_ways.proofs.wide.WideFaces.new.Goals as goal

pub returns : goal.returns
returns g c =
    let free = by_place (g.G.FreeFaces.free c.args.free.now) in
    let wide = by_place (λ n. slice_index_or c.in_ok-free.free.items n false) in
    subst (λ w. AreWide (triangulation_of g.V.HasPosition.place
    (g.T.HasMesh.mesh_state c.args.triangulation.now)) free w wide)
    (to_z-of_z w64 c.args.width_2 c.ranges.width_2)
    (subst (λ s. AreWide (triangulation_of g.V.HasPosition.place s) free
    (to_z w64 (of_z w64 c.args.width_2)) wide)
    c.mesh-dcel.ensures.state c.in_ok-free.ensures)
