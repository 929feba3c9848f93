-- Rounds that are taken from behind.
-- Lemmas: round_before, loop_before.
use Rattle.std.proofs.Common.{◌≡◌, ◌-◌, ◌<◌, ◌==◌, if◌then◌else◌, ◌∙◌, ℕ, length, ap, subst}
use Rattle.half_edge_links.specs.{IsValidMesh, Mesh, next, prev, rev, turn}
use Rattle.half_edge_links.proofs.{rev-rev, rev_within, turn_in}
use Rattle.half_edge_dcel.specs.{EdgeWalk, IsEnding, IsMeshWithData}
use Rattle.half_edge_dcel.proofs.Walks.{ends_before, EndsBefore, Undoes}

-- the edge before one, round the vertex where it starts, against the clock
turn_back : Mesh → ℕ → ℕ
turn_back m h = next m (rev h)

turn_undone : (m : Mesh) (h : ℕ) → IsValidMesh m → h < length m.half_edges
    → Undoes (turn m) (turn_back m) (length m.half_edges) h
unfolding turn_back
turn_undone m h v within =
    let twin_in = rev_within h (length m.half_edges) v.sound.even within in
    record {
      closed = λ x x_in. turn_in m v x x_in;
      undo = λ x x_in. ap (next m) (rev-rev (prev m x)) ∙ (v.sound.edges x x_in).next_prev;
      redo = ap rev (v.sound.edges (rev h) twin_in).prev_next ∙ rev-rev h;
    }

next_undone : (m : Mesh) (h : ℕ) → IsValidMesh m → h < length m.half_edges
    → Undoes (next m) (prev m) (length m.half_edges) h
next_undone m h v within = record {
  closed = λ x x_in. (v.sound.edges x x_in).next_in;
  undo = λ x x_in. (v.sound.edges x x_in).prev_next;
  redo = (v.sound.edges h within).next_prev;
}

module _ {V D U F : Type 0} (old : EdgeWalk V D U F) (k h : ℕ) (some : 0 < old.left)
    (left : k ≡ (if old.next == h then 0 else old.left - 1)) (w : IsMeshWithData old.dcel.now) where
  next_in : old.next < length old.dcel.now.mesh.half_edges
  next_in = subst (λ n. old.next < n) w.fits.directed_fit (old.next_in_range some)

  end_in : old.end < length old.dcel.now.mesh.half_edges
  end_in = subst (λ n. old.end < n) w.fits.directed_fit (old.end_in_range some)

  -- the edges of a vertex but the last one
  pub round_before : h ≡ next old.dcel.now.mesh (rev old.end) → IsEnding turn old
      → EndsBefore turn old k h
  unfolding turn_back
  round_before before was =
      ends_before turn turn_back old k h _ some left before next_in
      (turn_undone old.dcel.now.mesh old.end w.valid end_in) was

  -- the edges of the outer loop but the last one
  pub loop_before : h ≡ prev old.dcel.now.mesh old.end → IsEnding next old
      → EndsBefore next old k h
  loop_before before was =
      ends_before next prev old k h _ some left before next_in
      (next_undone old.dcel.now.mesh old.end w.valid end_in) was
