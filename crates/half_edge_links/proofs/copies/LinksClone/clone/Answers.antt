use Rattle.std.proofs.Common.{refl, arith, rules}
use Rattle.std.proofs.lemmas.List.{length-map}
use Rattle.std.proofs.lemmas.List.Elements.{same_from_all_zip}
use Rattle.std.proofs.lemmas.Slice.Zip.{AllZip-long}
use Rattle.half_edge_links.specs.VertexList.{IsCopiedVertex}
use Rattle.half_edge_links.proofs.Lists.VertexLists.{copied_out_edges, copied_values}
use Rattle.half_edge_links.proofs.Stored.Shown.{length_shown}
use Rattle.half_edge_links.proofs.copies.LinksClone.clone.Goals as goal

pub returns : goal.returns
returns g c =
    let old = c.self.inside.vertices.items in
    let new = c.in_ok-clone.field-0.items in
    let each = c.in_ok-clone.ensures.cases.0 in
    let long = AllZip-long (IsCopiedVertex g.V.Clone.is_clone) old new each in
    let edges = c.in_ok-clone-2.ensures.cases in
    let faces = c.in_ok-clone-3.ensures.cases in
    let small = c.self.invariant.small.edges in
    let vertices = simp length-map at c.self.invariant.small.vertices in
    record {
      cases = rw (← c.self.view_is) (record {
        mesh = rw (
          copied_out_edges g.V.Clone.is_clone old new each,
          edges.items,
          same_from_all_zip _ _ _ faces.0 (λ x y same. same),
        ) refl;
        values = copied_values g.V.Clone.is_clone old new each;
        vertices_fit = simp length-map (omega (arith, long, c.in_ok-clone.field-0.ok, vertices));
        edges_fit = omega (arith, edges.fit, length_shown c.self.inside.half_edges.items);
        faces_fit = search rules;
      });
    }

pub invariant_of-result : goal.invariant_of-result
invariant_of-result g c =
    rw (
      copied_out_edges g.V.Clone.is_clone c.self.inside.vertices.items c.in_ok-clone.field-0.items
          c.in_ok-clone.ensures.cases.0,
      c.in_ok-clone-2.ensures.cases.items,
      same_from_all_zip _ _ _ c.in_ok-clone-3.ensures.cases.0 (λ x y same. same),
    ) c.self.invariant
