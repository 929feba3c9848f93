-- The search for an edge of a vertex with the outer face on its right.
-- Lemmas: faces_inner.
use Rattle.std.proofs.Common.{◌≡◌, ℕ, zero, suc, ◌+◌, ◌<◌, sym, ap, ◌∙◌, arith, inl, inr}
use Rattle.std.proofs.lemmas.Bool.{cases_lt}
use Rattle.half_edge_links.specs.{AreSoundLinks, face, IsRound, Mesh, prev, rev, spoke}
use Rattle.{delaunay_vertices.specs.Star.HasInnerFaces, half_edge_links.proofs.rev-rev}

-- where none has it, the faces round the vertex are inner ones
pub faces_inner : (m : Mesh) (v first count : ℕ) → AreSoundLinks m → IsRound m v first count
    → ((i : ℕ) → i < count → ¬ (face m (rev (spoke m first i)) ≡ 0)) → HasInnerFaces m v
faces_inner m v first count s round none h within starts = go (face m h) refl_face
  where
    at : (i : ℕ) × (i < count) × (h ≡ spoke m first i)
    at = round.all h within starts

    -- the face on the left of an edge is on the right of the next one round
    beside : (i : ℕ) → face m (rev (spoke m first (suc i))) ≡ face m (spoke m first i)
    beside i = ap (face m) (rev-rev (prev m (spoke m first i)))
        ∙ sym (ap (face m) (sym (s.edges (spoke m first i) (round.within i)).next_prev)
        ∙ (s.edges (prev m (spoke m first i))
        (s.edges (spoke m first i) (round.within i)).prev_in).same_face)

    not_outer : (i : ℕ) → i < count → ¬ (face m (spoke m first i) ≡ 0)
    not_outer i less zero_face = elim (cases_lt (suc i) count) [
      | inl l ↦ none (suc i) l (beside i ∙ zero_face)
      | inr l ↦ none 0 round.some (ap (λ x. face m (rev x)) (sym (round.back 0) ∙ ap (spoke m first)
          (let e : 0 + count ≡ suc i = omega (arith, l, less) in e)) ∙ beside i ∙ zero_face)
    ]

    refl_face : face m h ≡ face m h
    refl_face = λ i. face m h

    go : (x : ℕ) → face m h ≡ x → 0 < face m h
    go zero e = absurd (not_outer at.0 at.1 (ap (face m) (sym at.2) ∙ e))
    go (suc x) e = omega (arith, e)
