use Rattle.std.proofs.Common.{◌≡◌, ◌+◌, ◌-◌, ◌∙◌, List, sym, ap}
use Rattle.std.proofs.Common.{ℕ, ◌<◌, Bool, true, false, if◌then◌else◌, Some, None, arith}
use Rattle.std.proofs.lemmas.List.{length-set}
use Rattle.half_edge_links.specs.{edge_at, HalfEdge, MAX_ELEMENTS, Mesh, rev, shown, unlinked}
use Rattle.half_edge_links.specs.{Remove.filled, VertexList.IsNameable, with_unlinked}
use Rattle.half_edge_links.proofs.OuterLoop.OutlineTaken.{outline_removed}
use Rattle.half_edge_links.proofs.{Removing.Conditions.unlinkable, Sound.Valid.valid_removed}
use Rattle.half_edge_links.proofs.Removing.RemoveSound.{joined_unlinked, read_unlinked, removes}
use Rattle.half_edge_links.proofs.Removing.RemoveSound.{sound_removed, unlinked_places}
use Rattle.half_edge_links.proofs.{Removing.ShrinkTriangles.triangles_removed, Views.mesh_in}
use Rattle.half_edge_links.proofs.Removing.TakenLists.{removes_ends, removes_outer}
use Rattle.half_edge_links.proofs.Stored.Shown.{length_shown}
use Rattle.half_edge_links.proofs.links.Links.remove_edge.Goals as goal

pub half_edge-twin-requires : goal.half_edge-twin-requires
half_edge-twin-requires g c = rw c.reversed-t.ensures
    (unlinked_places _ _ c.half_edge-edge.ensures.sound c.requires).twin_in

pub overflow_sub-last : goal.overflow_sub-last
overflow_sub-last g c = omega (arith, c.half_edge_count.ensures.sound.even, c.requires.within)

pub unlink-requires-clause-places : goal.unlink-requires-clause-places
unlink-requires-clause-places g c = rw c.reversed-t.ensures
    (unlinked_places _ _ c.self.invariant.sound (rw (← c.self.view_is) at c.requires))

-- an edge that may be there has a number that stands for one
nameable : (gone : Bool) (h : ℕ) → h < MAX_ELEMENTS
    → IsNameable (if gone then None else Some h)
nameable true h small = tt
nameable false h small = small

pub set_out_edge-requires-clause-nameable : goal.set_out_edge-requires-clause-nameable
set_out_edge-requires-clause-nameable g c =
    let v = c.half_edge-edge.ensures.valid in
    let p = unlinked_places _ _ v.sound c.requires in
    let small = v.small.edges in
    rw (c.out_after.ensures, c.half_edge-twin.ensures.value, c.reversed-t.ensures)
    (nameable _ _ (omega (arith, (v.sound.edges _ p.twin_in).next_in)))

pub set_out_edge-requires-clause-vertex : goal.set_out_edge-requires-clause-vertex
set_out_edge-requires-clause-vertex g c =
    let can = rw (← c.self.view_is) at c.requires in
    rw (c.half_edge-edge.ensures.value, ← c.self.view_is)
    (c.self.invariant.sound.edges _ can.within).origin_in

pub set_out_edge-requires-2-clause-vertex : goal.set_out_edge-requires-2-clause-vertex
set_out_edge-requires-2-clause-vertex g c =
    let p = unlinked_places _ _ c.self.invariant.sound (rw (← c.self.view_is) at c.requires) in
    rw (
      c.set_out_edge.ensures.out_edges,
      c.half_edge-twin.ensures.value,
      c.reversed-t.ensures,
      ← c.self.view_is,
    ) (simp length-set (c.self.invariant.sound.edges _ p.twin_in).origin_in)

pub rename_out-requires-clause-vertex : goal.rename_out-requires-clause-vertex
rename_out-requires-clause-vertex g c =
    let can = rw (← c.self.view_is) at c.requires in
    let n = rw (← c.self.view_is) at c.half_edge_count.ensures.value in
    rw (
      c.set_out_edge-2.ensures.out_edges,
      c.set_out_edge.ensures.out_edges,
      c.half_edge-even.ensures.value,
      ← c.self.view_is,
    ) (simp length-set (c.self.invariant.sound.edges (c.half_edge_count.result - 2)
    (omega (arith, can.within))).origin_in)

pub rename_out-requires-2-clause-vertex : goal.rename_out-requires-2-clause-vertex
rename_out-requires-2-clause-vertex g c =
    let can = rw (← c.self.view_is) at c.requires in
    let n = rw (← c.self.view_is) at c.half_edge_count.ensures.value in
    rw (
      c.rename_out.ensures.len,
      c.set_out_edge-2.ensures.out_edges,
      c.set_out_edge.ensures.out_edges,
      c.half_edge-odd.ensures.value,
      ← c.self.view_is,
    ) (simp length-set (c.self.invariant.sound.edges (c.half_edge_count.result - 2 + 1)
    (omega (arith, can.within, c.self.invariant.sound.even))).origin_in)

pub fill-requires : goal.fill-requires
fill-requires g c =
    let r = joined_unlinked (mesh_in c.self.inside) c.args.e c.reversed-t.result
    (shown c.unlink.new.half_edges.items) c.self.invariant
    (rw (← c.self.view_is) at c.requires) c.reversed-t.ensures c.unlink.ensures.items in
    let count = rw (← c.self.view_is) at c.half_edge_count.ensures.value in
    let small = c.self.invariant.small.edges in
    let kept = length_shown c.self.inside.half_edges.items in
    record { joined = r.0; last = omega arith; small = omega arith; hole = r.1 }

pub returns-clause-mesh : goal.returns-clause-mesh
unfolding unlinked filled
returns-clause-mesh g c =
    let n = rw (← c.self.view_is) at c.half_edge_count.ensures.value in
    let edge = rw (← c.self.view_is) at c.half_edge-edge.ensures.value in
    let twin = rw (← c.self.view_is) at c.half_edge-twin.ensures.value in
    let can = rw (← c.self.view_is) at c.requires in
    let m : Mesh = mesh_in c.self.inside in
    let last : ℕ = c.half_edge_count.result - 2 in
    let hs : List HalfEdge = with_unlinked m.half_edges c.args.e (rev c.args.e) in
    let even_start : c.half_edge-even.result.origin ≡ (edge_at hs last).origin =
    ap (λ (h : HalfEdge). h.origin) (rw (← c.self.view_is) at c.half_edge-even.ensures.value)
    ∙ sym (read_unlinked m c.args.e last c.self.invariant can).0 in
    let odd_start : c.half_edge-odd.result.origin ≡ (edge_at hs (last + 1)).origin =
    ap (λ (h : HalfEdge). h.origin) (rw (← c.self.view_is) at c.half_edge-odd.ensures.value)
    ∙ sym (read_unlinked m c.args.e (last + 1) c.self.invariant can).0 in
    let even_face : c.half_edge-even.result.face ≡ (edge_at hs last).face =
    ap (λ (h : HalfEdge). h.face) (rw (← c.self.view_is) at c.half_edge-even.ensures.value)
    ∙ sym (read_unlinked m c.args.e last c.self.invariant can).1 in
    let odd_face : c.half_edge-odd.result.face ≡ (edge_at hs (last + 1)).face =
    ap (λ (h : HalfEdge). h.face) (rw (← c.self.view_is) at c.half_edge-odd.ensures.value)
    ∙ sym (read_unlinked m c.args.e (last + 1) c.self.invariant can).1 in
    rw (
      ← c.self.view_is,
      ← n,
      c.rename_out-2.ensures.out_edges,
      c.rename_out.ensures.out_edges,
      c.set_out_edge-2.ensures.out_edges,
      c.set_out_edge.ensures.out_edges,
    ) (cc)

pub returns-clause-removes : goal.returns-clause-removes
returns-clause-removes g c =
    let v = c.half_edge-edge.ensures.valid in
    let can = unlinkable _ _ v c.requires in
    let links = rw (← (returns-clause-mesh g c)) at (removes _ c.args.e v.sound can) in
    let sound = sound_removed _ _ _ links in
    record {
      links = links;
      ends = removes_ends _ _ _ v.sound can links sound;
      corners = triangles_removed _ _ _ v.sound can links;
      outer = removes_outer _ _ _ v.sound can links sound;
      outline = outline_removed _ _ _ v.sound can links;
    }

pub invariant_of-self : goal.invariant_of-self
invariant_of-self g c = valid_removed _ _ _ c.half_edge-edge.ensures.valid c.requires
    (returns-clause-removes g c).links

pub returns-clause-valid : goal.returns-clause-valid
returns-clause-valid g c = invariant_of-self g c
