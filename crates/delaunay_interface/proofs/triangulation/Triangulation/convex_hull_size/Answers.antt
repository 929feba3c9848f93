use Rattle.std.proofs.Common.{◌≡◌, ◌*◌, ◌+◌, ◌∙◌, length, ap, arith}
use Rattle.delaunay_legalization.specs.{outer_of}
use Rattle.delaunay_edit.proofs.HullSizes.{counts_outer, sides_and_outer}
use Rattle.delaunay_interface.proofs.triangulation.Triangulation.convex_hull_size.Given.{Over}
use Rattle.delaunay_interface.proofs.triangulation.Triangulation.convex_hull_size.Goals as goal
use Rattle.delaunay_interface.proofs.triangulation.Triangulation.convex_hull_size.Goals.{After-num_inner_faces}

-- the directed edges are the sides of faces and the outer edges
ways : (g : Over) (c : After-num_inner_faces g)
    → c.num_directed_edges.result ≡ 3 * c.num_inner_faces.result
    + length (outer_of (g.Self.Triangulation.state c.args.self.now).mesh)
ways g c =
    let directed = c.num_directed_edges.ensures.value
    ∙ ap (λ s. length s.directed) c.s-dcel.ensures.state in
    let faces = c.num_inner_faces.ensures.value ∙ ap (λ s. length s.faces) c.s-dcel.ensures.state in
    omega (arith, directed, faces, sides_and_outer _ _ c.s-dcel.ensures.well_formed.kept)

pub overflow_sub-result : goal.overflow_sub-result
overflow_sub-result g c =
    omega (arith, ways g (goal.at.overflow_sub-result g c).After-num_inner_faces)

pub returns : goal.returns
returns g c = counts_outer _ _ c.s-dcel.ensures.well_formed.kept _
    (omega (arith, ways g (goal.at.returns g c).After-num_inner_faces))
