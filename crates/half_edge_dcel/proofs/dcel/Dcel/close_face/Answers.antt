use Rattle.std.proofs.Common.{sym, ◌∙◌, length-append, rules}
use Rattle.std.proofs.lemmas.List.{length-map}
use Rattle.half_edge_dcel.proofs.TakenOut.{full_faces-append}
use Rattle.half_edge_dcel.proofs.dcel.Dcel.close_face.Goals as goal

pub returns : goal.returns
returns g c =
    let links = c.close_face.ensures in
    rw (← c.self.view_is) (record {
      closes = links.closes.links;
      contents = search rules;
      faces = rw (links.closes.corners, c.push_reserved.ensures.items) (full_faces-append _ _ _ _
          (c.self.invariant.faces_fit ∙ sym (length-map c.self.inside.links.mesh.face_edges _)));
      ends = links.closes.ends;
      whole = record {
        valid = links.valid;
        fits = search
            (rules, length-append, links.closes.links.face_edges, c.push_reserved.ensures.items);
      };
    })
