-- Removing an edge keeps a mesh sound.
-- Lemmas: removes, joined_unlinked, unlinked_places, read_unlinked, sound_removed, small_removed.
use Rattle.std.proofs.Common.{◌≡◌, ℕ, ◌+◌, ◌-◌, ◌%◌, List, length, sym, ap, ◌∙◌, arith}
use Rattle.half_edge_links.specs.{AreJoined, AreSoundLinks, edge_at, edge_naming, HalfEdge}
use Rattle.half_edge_links.specs.{IsRemovable, IsSmall, IsSoundBut, IsValidMesh, Mesh, Removes, rev}
use Rattle.half_edge_links.specs.{Places.AreUnlinkedPlaces, Places.IsHole, unlinked, with_unlinked}
use Rattle.half_edge_links.specs.Remove.{removed}
use Rattle.half_edge_links.proofs.Lists.Rev.{rev_differs, rev_within}
use Rattle.half_edge_links.proofs.Removing.Conditions.{IsUnlinkable, unlinkable}
use Rattle.half_edge_links.proofs.Removing.FillSound.{counts, joined_but, renames_filled}
use Rattle.half_edge_links.proofs.Removing.UnlinkSound.{sound_but, unlinks}
use Rattle.half_edge_links.proofs.Sound.RenameSound.{sound_renamed}

module _ (m : Mesh) (e : ℕ) (s : AreSoundLinks m) (can : IsUnlinkable m e) where
  -- with the edge taken out of its loops, the mesh is sound but for it
  but : IsSoundBut (unlinked m e) (e - e % 2)
  but = sound_but m (unlinked m e) e s can (unlinks m e s can)

  at_last : length (unlinked m e).half_edges ≡ length m.half_edges - 2 + 2
  at_last = let even = s.even in omega (arith, (unlinks m e s can).edge_count, can.within)

  -- the code takes the edge out of its loops and gives its index to the last one
  pub removes : Removes m (removed m e) e
  removes =
      let u = unlinks m e s can in
      let n = counts (unlinked m e) (length m.half_edges - 2) (e - e % 2) but at_last in
      record {
        between = unlinked m e;
        unlinks = u;
        renames = renames_filled (unlinked m e) (length m.half_edges - 2) (e - e % 2) but at_last;
        edge_count = omega (arith, n.0, at_last, u.edge_count);
        vertex_count = n.1 ∙ u.vertex_count;
        face_count = n.2 ∙ ap length u.face_edges;
      }

-- the list whose edge e was taken out is joined, and the edge is a hole in it
pub joined_unlinked : (m : Mesh) (e t : ℕ) (hs : List HalfEdge) → IsValidMesh m → IsRemovable m e
    → t ≡ rev e → hs ≡ with_unlinked m.half_edges e t → AreJoined hs × IsHole hs (e - e % 2)
unfolding unlinked
joined_unlinked m e t hs v can at_t is =
    let full = unlinkable m e v can in
    let b = but m e v.sound full in
    let hole : IsHole (with_unlinked m.half_edges e (rev e)) (e - e % 2) = assumption in
    rw (is, at_t) (
      joined_but (unlinked m e) (length m.half_edges - 2) (e - e % 2) b
          (at_last m e v.sound full),
      hole,
    )

-- what taking an edge out of its loops asks of the list
pub unlinked_places : (m : Mesh) (e : ℕ) → AreSoundLinks m → IsRemovable m e
    → AreUnlinkedPlaces m.half_edges e (rev e)
unlinked_places m e s can =
    let t_in = rev_within e (length m.half_edges) s.even can.within in
    record {
      edge_in = can.within;
      twin_in = t_in;
      differ = λ q. rev_differs e (sym q);
      edge_proper = (s.edges e can.within).proper;
      twin_proper = (s.edges (rev e) t_in).proper;
    }

-- an edge starts where it did, and has its face on its left, once edge e is taken out of its loops
pub read_unlinked : (m : Mesh) (e k : ℕ) → IsValidMesh m → IsRemovable m e →
    (let hs = with_unlinked m.half_edges e (rev e) in
    ((edge_at hs k).origin ≡ (edge_at m.half_edges k).origin)
    × ((edge_at hs k).face ≡ (edge_at m.half_edges k).face))
unfolding unlinked
read_unlinked m e k v can =
    let u = unlinks m e v.sound (unlinkable m e v can) in (u.origins k, u.faces k)

-- the mesh that is left once an edge is removed is sound
pub sound_removed : (m new : Mesh) (e : ℕ) → Removes m new e → AreSoundLinks new
sound_removed m new e r =
    sound_renamed r.between new (edge_naming (length m.half_edges - 2) (e - e % 2)) r.renames

-- a small mesh stays small when an edge is removed
pub small_removed : (m new : Mesh) (e : ℕ) → Removes m new e → IsSmall m → IsSmall new
small_removed m new e r small = record {
  vertices = rw r.vertex_count small.vertices;
  edges = omega (arith, r.edge_count, small.edges);
  faces = rw r.face_count small.faces;
}
