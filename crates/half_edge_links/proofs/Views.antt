-- The mesh that a value of `Links` holds.
-- Notions: mesh_in; joined_in; IsRoundStored, round_stored.
use Rattle.std.proofs.Common.{◌≡◌, ℕ, ◌<◌, List, length}
use Rattle.half_edge_links.specs.{AreJoined, AreSoundLinks, IsValidMesh, Mesh, next, prev, shown}
use Rattle.half_edge_links.specs.{StoredEdge}
use Rattle.half_edge_links.specs.{declared.links.Links.TheInside.Inside, VertexList.out_edges_of}
use Rattle.half_edge_links.proofs.{Stored.Joined.joined_sound, Stored.Shown.whole_reads}
use Rattle.half_edge_links.proofs.Stored.Shown.{length_shown, next_kept_within, shown_reads}

-- the mesh inside
abbrev pub mesh_in : {V : Type 0} → Inside V → Mesh
mesh_in l = record {
  out_edges = out_edges_of l.vertices.items;
  half_edges = shown l.half_edges.items;
  outer_edge = l.outer_edge;
  face_edges = l.face_edges.items;
}

-- the links of its edges are joined
pub joined_in : {V : Type 0} (l : Inside V) → IsValidMesh (mesh_in l)
    → AreJoined (shown l.half_edges.items)
joined_in l v = joined_sound (mesh_in l) v.sound

-- reads of the edges inside, and that their links are joined
pub ruleset inside_reads = (shown_reads, joined_in)

-- reads of whole edges inside, whose links lead to edges inside
pub ruleset joined_reads = (whole_reads, length_shown, joined_in, next_kept_within)

-- an edge, the next two and the one before it are in the list
pub record IsRoundStored (m : Mesh) (rs : List StoredEdge) (e : ℕ) : Type 0 where
  pub here : e < length rs
  pub after : next m e < length rs
  pub second : next m (next m e) < length rs
  pub before : prev m e < length rs

-- a sound mesh of the list's edges has its links in the list
pub round_stored : {m : Mesh} {rs : List StoredEdge} → AreSoundLinks m → shown rs ≡ m.half_edges
    → (e : ℕ) → e < length m.half_edges → IsRoundStored m rs e
round_stored {m} {rs} s is e within =
    let count : length m.half_edges ≡ length rs = rw (← is) (length_shown rs) in
    let after = s.edges e within in
    record {
      here = rw count at within;
      after = rw count at after.next_in;
      second = rw count at (s.edges _ after.next_in).next_in;
      before = rw count at after.prev_in;
    }
