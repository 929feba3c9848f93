use Rattle.std.proofs.Common.{arith}
use Rattle.std.proofs.lemmas.Slice.Zip.{AllZip-long}
use Rattle.half_edge_dcel.proofs.copies.DcelClone.clone.Goals as goal

pub returns : goal.returns
returns g c =
    let links = c.in_ok-clone.ensures.cases in
    let directed = c.in_ok-clone-2.ensures.cases in
    let undirected = c.in_ok-clone-3.ensures.cases in
    let faces = c.in_ok-clone-5.ensures.cases in
    let fit = c.self.invariant in
    let long = AllZip-long g.V.Clone.is_clone c.self.inside.links.values
    c.in_ok-clone.field-0.values links.values in
    record {
      cases = rw (← c.self.view_is) (record {
        mesh = links.mesh;
        vertices = links.values;
        directed = directed.0;
        undirected = undirected.0;
        outer = c.in_ok-clone-4.ensures.cases;
        faces = faces.0;
        room = record {
          vertices_fit = omega (arith, long, links.vertices_fit, fit.vertices_fit);
          edges_fit = omega (
            arith,
            links.edges_fit,
            directed.1,
            undirected.1,
            fit.directed_fit,
            fit.undirected_fit,
            c.in_ok-clone-2.field-0.ok,
            c.in_ok-clone-3.field-0.ok,
          );
          faces_fit =
              omega (arith, links.faces_fit, faces.1, fit.faces_fit, c.in_ok-clone-5.field-0.ok);
        };
      });
    }
