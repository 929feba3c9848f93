-- What a removal asks for, from the links round one vertex.
-- Lemmas: one_side, three_sides, four_sides.
use Rattle.std.proofs.Common.{◌≡◌, ◌≢◌, ℕ, zero, suc, ◌<◌, [], ◌∷◌, length, sym, ap, ◌∙◌, arith}
use Rattle.std.specs.Prelude.{slice_index}
use Rattle.half_edge_links.specs.{AreSoundLinks, face, Mesh, neighbour, next, origin, prev, rev}
use Rattle.half_edge_links.specs.{spoke, turn}
use Rattle.half_edge_dcel.specs.{AreSidesOf, IsBorder}

-- one face at a vertex
pub one_side : (m : Mesh) (e : ℕ) → AreSoundLinks m → e < length m.half_edges
    → 0 < face m (prev m e) → face m (rev (prev m e)) ≡ 0 → face m (turn m (prev m e)) ≡ 0
    → next m (rev (prev m e)) ≡ turn m (prev m e)
    → next m (turn m (prev m e)) ≢ rev (turn m (prev m e)) → AreSidesOf m (e ∷ [])
one_side m e s within inner outer last gap far = record {
  some = omega arith;
  within = within;
  strip = record {
    within = (s.edges e within).prev_in;
    outer = outer;
    inner = only_first;
    last = last;
    gap = gap;
    far = far;
  };
  sides = only_side;
}
  where
    only_first : (i : ℕ) → i < 1 → 0 < face m (spoke m (prev m e) i)
    only_first zero less = inner
    only_first (suc i) less = absurd (omega (arith, less))

    only_side : (i : ℕ) → i < 1 → slice_index (e ∷ []) i ≡ next m (spoke m (prev m e) i)
    only_side zero less = sym (s.edges e within).next_prev
    only_side (suc i) less = absurd (omega (arith, less))

-- three faces round a vertex
pub three_sides : (m : Mesh) (v o a b c : ℕ) → AreSoundLinks m → o < length m.half_edges
    → origin m o ≡ v → 0 < face m o → 0 < face m (turn m o) → 0 < face m (turn m (turn m o))
    → turn m (turn m (turn m o)) ≡ o → a ≡ next m o → b ≡ next m (turn m o)
    → c ≡ next m (turn m (turn m o)) → IsBorder m (a ∷ b ∷ c ∷ []) v
three_sides m v o a b c s within starts i1 i2 i3 round at_a at_b at_c =
    let here = s.edges o within in
    let first : prev m a ≡ o = ap (prev m) at_a ∙ here.prev_next in
    record {
      count = omega arith;
      within = rw at_a here.next_in;
      round = rw first (record { within = within; inner = each_inner; round = round });
      starts = ap (origin m) first ∙ starts;
      sides = λ i less. all i less ∙ ap (λ j. next m (spoke m j i)) (sym first);
      tip = λ i some less. absurd (omega (arith, some, less));
    }
  where
    each_inner : (i : ℕ) → i < 3 → 0 < face m (spoke m o i)
    each_inner zero less = i1
    each_inner (suc zero) less = i2
    each_inner (suc (suc zero)) less = i3
    each_inner (suc (suc (suc i))) less = absurd (omega (arith, less))

    all : (i : ℕ) → i < 3 → slice_index (a ∷ b ∷ c ∷ []) i ≡ next m (spoke m o i)
    all zero less = at_a
    all (suc zero) less = at_b
    all (suc (suc zero)) less = at_c
    all (suc (suc (suc i))) less = absurd (omega (arith, less))

-- four faces round a vertex
pub four_sides : (m : Mesh) (v o a b c d : ℕ) → AreSoundLinks m → o < length m.half_edges
    → origin m o ≡ v → 0 < face m o → 0 < face m (spoke m o 1) → 0 < face m (spoke m o 2)
    → 0 < face m (spoke m o 3) → spoke m o 4 ≡ o → neighbour m o 2 ≢ neighbour m o 0 → a ≡ next m o
    → b ≡ next m (spoke m o 1) → c ≡ next m (spoke m o 2) → d ≡ next m (spoke m o 3)
    → IsBorder m (a ∷ b ∷ c ∷ d ∷ []) v
four_sides m v o a b c d s within starts i1 i2 i3 i4 round corners at_a at_b at_c at_d =
    let here = s.edges o within in
    let first : prev m a ≡ o = ap (prev m) at_a ∙ here.prev_next in
    record {
      count = omega arith;
      within = rw at_a here.next_in;
      round = rw first (record { within = within; inner = each_inner; round = round });
      starts = ap (origin m) first ∙ starts;
      sides = λ i less. all i less ∙ ap (λ j. next m (spoke m j i)) (sym first);
      tip = rw first (λ i some less q. corners
          (ap (neighbour m o) (let e : 2 ≡ i = omega (arith, some, less) in e) ∙ q));
    }
  where
    each_inner : (i : ℕ) → i < 4 → 0 < face m (spoke m o i)
    each_inner zero less = i1
    each_inner (suc zero) less = i2
    each_inner (suc (suc zero)) less = i3
    each_inner (suc (suc (suc zero))) less = i4
    each_inner (suc (suc (suc (suc i)))) less = absurd (omega (arith, less))

    all : (i : ℕ) → i < 4 → slice_index (a ∷ b ∷ c ∷ d ∷ []) i ≡ next m (spoke m o i)
    all zero less = at_a
    all (suc zero) less = at_b
    all (suc (suc zero)) less = at_c
    all (suc (suc (suc zero))) less = at_d
    all (suc (suc (suc (suc i)))) less = absurd (omega (arith, less))
