-- Lists of directed edges whose links are joined.
-- Lemmas: joined_sound, joined_kept, loop_of_three.
use Rattle.std.proofs.Common.{◌≡◌, ℕ, List, length, ◌∙◌}
use Rattle.half_edge_links.specs.{AreJoined, AreSoundLinks, edge_at, HalfEdge, IsLoopOfThree, Mesh}
use Rattle.half_edge_links.proofs.Sound.Triangles.{IsTriangle}

-- the links of a sound mesh are joined
pub joined_sound : (m : Mesh) → AreSoundLinks m → AreJoined m.half_edges
joined_sound m s = record {
  next_in = λ h within. (s.edges h within).next_in;
  prev_in = λ h within. (s.edges h within).prev_in;
  prev_next = λ h within. (s.edges h within).prev_next;
  next_prev = λ h within. (s.edges h within).next_prev;
}

-- links stay joined where no edge gets another one after or before it
pub joined_kept : (old new : List HalfEdge) → length new ≡ length old
    → ((k : ℕ) → (edge_at new k).next ≡ (edge_at old k).next)
    → ((k : ℕ) → (edge_at new k).prev ≡ (edge_at old k).prev) → AreJoined old → AreJoined new
joined_kept old new count nexts prevs j = record {
  next_in = λ h within. rw (count, nexts h) (j.next_in h (rw count at within));
  prev_in = λ h within. rw (count, prevs h) (j.prev_in h (rw count at within));
  prev_next = λ h within. rw (nexts h) (prevs _ ∙ j.prev_next h (rw count at within));
  next_prev = λ h within. rw (prevs h) (nexts _ ∙ j.next_prev h (rw count at within));
}

-- the three edges round an inner face are a loop of three in the list
pub loop_of_three : (m : Mesh) (h : ℕ) → IsTriangle m h → IsLoopOfThree m.half_edges h
loop_of_three m h t = assumption
