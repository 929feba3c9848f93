use Rattle.std.proofs.Common.{ap, rules}
use Rattle.half_edge_links.specs.{HalfEdge, Peels}
use Rattle.half_edge_links.proofs.OuterLoop.OutlineTaken.{outline_peeled}
use Rattle.half_edge_links.proofs.Removing.Conditions.{hull_edge, removable}
use Rattle.half_edge_links.proofs.Removing.PeelLemmas.{removable_opened}
use Rattle.half_edge_links.proofs.Removing.RemoveSound.{sound_removed}
use Rattle.half_edge_links.proofs.Removing.TakenLists.{peels_ends, peels_outer, peels_triangle}
use Rattle.half_edge_links.proofs.links.Links.peel.Goals as goal

pub remove_edge-requires : goal.remove_edge-requires
remove_edge-requires g c =
    let q = ap (λ (e : HalfEdge). e.face) c.half_edge-edge.ensures.value in
    let v = c.half_edge-edge.ensures.valid in
    removable _ _ (removable_opened _ _ c.args.h v.sound (hull_edge _ _ v c.requires)
    (rw q at c.open_face.ensures.opens.links))

pub returns : goal.returns
returns g c =
    let v = c.half_edge-edge.ensures.valid in
    let can = hull_edge _ _ v c.requires in
    let q = ap (λ (e : HalfEdge). e.face) c.half_edge-edge.ensures.value in
    let peels : Peels c.args.self.now.mesh c.remove_edge.new.self.mesh c.args.h = record {
      opened = c.open_face.new.self.mesh;
      opens = rw q at c.open_face.ensures.opens.links;
      removes = c.remove_edge.ensures.removes.links;
    } in
    let sound = sound_removed _ _ c.args.h c.remove_edge.ensures.removes.links in
    record {
      peels = record {
        links = peels;
        ends = peels_ends _ _ c.args.h v.sound can peels sound;
        corners = peels_triangle _ _ c.args.h v.sound can peels;
        outer = peels_outer _ _ c.args.h v.sound can peels sound;
        outline = outline_peeled _ _ c.args.h v.sound can peels;
      };
      valid = c.remove_edge.ensures.valid;
      rest = record { values = search rules; room = search rules };
      sound = v.sound;
      spoke = search rules;
    }
