use Rattle.std.proofs.Common.{rules}
use Rattle.half_edge_links.proofs.Growing.HalfSplit.{corners_beside, flippable_beside, half_splits}
use Rattle.half_edge_links.proofs.Growing.HalfSplit.{half_splits_triangles, replaced_kept}
use Rattle.half_edge_links.proofs.{Growing.HalfSplit.twin_outer, Removing.Conditions.between_faces}
use Rattle.{half_edge_links.proofs.Sound.EndsKept.ends_half, half_edge_links.specs.Mesh}
use Rattle.half_edge_links.proofs.links.Links.split_half_edge.Goals as goal

pub add_face_beside-requires-clause-outer : goal.add_face_beside-requires-clause-outer
add_face_beside-requires-clause-outer g c =
    rw c.reversed.ensures (twin_outer _ _ c.half_edge_count-n.ensures.sound c.requires.half)

pub flip-requires : goal.flip-requires
flip-requires g c =
    let s = c.half_edge_count-n.ensures.sound in
    let adds = rw c.reversed.ensures at c.add_face_beside.ensures.adds.links in
    record {
      between = between_faces _ _ (flippable_beside _ _ _ _ s c.requires.half adds);
      corners = corners_beside _ _ _ _ s c.requires.half adds c.requires.alone;
    }

pub returns : goal.returns
returns g c =
    let s = c.half_edge_count-n.ensures.sound in
    let half = c.requires.half in
    let new : Mesh = c.flip.new.self.mesh in
    let adds = rw c.reversed.ensures at c.add_face_beside.ensures.adds.links in
    record {
      parts = search rules;
      mesh = search rules;
      rest = record { values = search rules; room = search rules };
      sound = s;
      splits = record {
        valid = c.flip.ensures.valid;
        links = half_splits _ _ _ _ s half adds new c.flip.ensures.sound c.flip.ensures.flips.links;
        ends = ends_half _ _ new _ _ s half adds (rw c.reversed.ensures at
            c.add_face_beside.ensures.adds.ends) c.flip.ensures.flips.ends;
        corners = half_splits_triangles _ _ _ _ s half adds new (rw c.reversed.ensures at
            c.add_face_beside.ensures.adds.corners) c.flip.ensures.flips.corners;
        outer = replaced_kept _ _ _ _ _ _ _ (rw c.reversed.ensures at
            c.add_face_beside.ensures.adds.outer) c.flip.ensures.flips.outer;
        outline = λ one. c.flip.ensures.flips.outline (c.add_face_beside.ensures.adds.outline one);
      };
    }
