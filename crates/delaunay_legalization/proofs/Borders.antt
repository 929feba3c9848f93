-- The sides opposite a vertex, as the mesh's calls ask for them: round three faces, and along a
-- strip on the hull.
-- Lemmas: border_of_wheel, opposite_of_strip.
use Rattle.std.proofs.Common.{◌≡◌, ◌<◌, [], ◌∷◌, ◌∙◌}
use Rattle.std.proofs.Common.{ℕ, zero, suc, List, length, sym, ap, subst, arith}
use Rattle.std.specs.Prelude.{slice_index}
use Rattle.half_edge_links.specs.{AreSoundLinks, face, IsStrip, IsWheel, Mesh, next, origin, prev}
use Rattle.half_edge_links.specs.{spoke, turn}
use Rattle.half_edge_dcel.specs.{AreSidesOf, IsBorder, IsHub, Removal.first_spoke}

-- the three sides round a vertex with three faces
pub border_of_wheel : (m : Mesh) (v first : ℕ) → AreSoundLinks m → IsWheel m first → origin m first
    ≡ v → IsBorder m (next m first ∷ next m (turn m first) ∷ next m (turn m (turn m first)) ∷ []) v
border_of_wheel m v first s wheel starts = record {
  count = omega arith;
  within = (s.edges first wheel.within).next_in;
  round = subst (λ h. IsHub m h 3) (sym start)
      (record { within = wheel.within; inner = inner; round = wheel.round });
  starts = ap (origin m) start ∙ starts;
  sides = sides;
  tip = λ i some l. absurd (omega (arith, some, l));
}
  where
    start : prev m (next m first) ≡ first
    start = (s.edges first wheel.within).prev_next

    inner : (i : ℕ) → i < 3 → 0 < face m (spoke m first i)
    inner zero l = wheel.first_inner
    inner (suc zero) l = wheel.second_inner
    inner (suc (suc zero)) l = wheel.third_inner
    inner (suc (suc (suc i))) l = absurd (omega (arith, l))

    sides : (i : ℕ) → i < 3
        → slice_index (next m first ∷ next m (turn m first) ∷ next m (turn m (turn m first)) ∷ []) i
        ≡ next m (spoke m (prev m (next m first)) i)
    sides zero l = ap (next m) (sym start)
    sides (suc zero) l = ap (λ o. next m (turn m o)) (sym start)
    sides (suc (suc zero)) l = ap (λ o. next m (turn m (turn m o))) (sym start)
    sides (suc (suc (suc i))) l = absurd (omega (arith, l))

-- the sides along the faces of a vertex on the hull
pub opposite_of_strip : (m : Mesh) (first k : ℕ) (edges : List ℕ) → AreSoundLinks m
    → IsStrip m first k → 0 < k → length edges ≡ k
    → ((i : ℕ) → i < k → slice_index edges i ≡ next m (spoke m first i)) → AreSidesOf m edges
opposite_of_strip m first k edges s strip some count sides = record {
  some = subst (λ n. 0 < n) (sym count) some;
  within = subst (λ h. h < length m.half_edges) (sym (sides 0 some))
      (s.edges first strip.within).next_in;
  strip = subst (λ (x : ℕ × ℕ). IsStrip m x.0 x.1) (λ t. (sym start t, sym count t)) strip;
  sides = λ i l. sides i (subst (λ n. i < n) count l) ∙ ap (λ o. next m (spoke m o i)) (sym start);
}
  where
    start : first_spoke m edges ≡ first
    start = ap (prev m) (sides 0 some) ∙ (s.edges first strip.within).prev_next
