use Rattle.half_edge_links.proofs.Faces.SplitLemmas.{corners_inserted, ends_split}
use Rattle.half_edge_links.proofs.Faces.SplitLemmas.{flippable_inserted, kept_twice}
use Rattle.half_edge_links.proofs.Faces.SplitLemmas.{splits_triangles_is}
use Rattle.half_edge_links.proofs.Removing.Conditions.{between_faces, turns_between}
use Rattle.half_edge_links.proofs.links.Links.split_edge.Goals as goal

pub flip-requires : goal.flip-requires
flip-requires g c =
    let s = c.insert_beside.ensures.valid.sound in
    let can = turns_between _ _ c.insert_beside.ensures.valid c.requires.between in
    rw c.insert_beside.ensures.mesh (record {
      between = between_faces _ _ (flippable_inserted _ _ _ s can c.requires.alone);
      corners = corners_inserted _ _ _ s can c.requires.alone;
    })

pub returns-clause-splits : goal.returns-clause-splits
returns-clause-splits g c =
    let s = c.insert_beside.ensures.valid.sound in
    let can = turns_between _ _ c.insert_beside.ensures.valid c.requires.between in
    let inserts = c.insert_beside.ensures.inserts in
    let flips = c.flip.ensures.flips in
    record {
      valid = c.flip.ensures.valid;
      ends = ends_split _ _ c.flip.new.self.mesh _ _ s can c.requires.alone
          c.insert_beside.ensures.mesh inserts.ends flips.ends;
      corners = splits_triangles_is _ c.flip.new.self.mesh _ _ s can
          c.requires.alone (rw c.insert_beside.ensures.mesh at c.flip.ensures.mesh);
      outer = kept_twice _ _ _ inserts.outer flips.outer;
      outline = λ one. flips.outline (inserts.outline one);
    }
