-- The round of a vertex read from another of its edges, and places on a round below its length.
-- Lemmas: place_below, three_below, spoke_shift, neighbour_shift, round_from.
use Rattle.std.proofs.Common.{◌≡◌, ◌<◌, ◌+◌, ◌*◌, ◌-◌, ◌∙◌}
use Rattle.std.proofs.Common.{ℕ, zero, suc, length, refl, sym, ap, subst, arith}
use mathlib.Core.Logic.{inl, inr, ◌≢◌}
use Rattle.std.proofs.Math.Nat.{suc-mul, le-mul_of_pos_right}
use Rattle.std.proofs.lemmas.Bool.{cases_lt}
use Rattle.half_edge_links.specs.{face, IsRound, Mesh, neighbour, origin, rev, spoke, triangle_at}
use Rattle.half_edge_links.specs.{turn}

-- what comes again after so many steps
module _ {X : Type 0} (f : ℕ → X) (count : ℕ) (again : (i : ℕ) → f (i + count) ≡ f i) where
  many_rounds : (n i : ℕ) → f (i + n * count) ≡ f i
  many_rounds zero i = ap f (let e : i + 0 * count ≡ i = omega arith in e)
  many_rounds (suc n) i = ap f (over i (n * count) (suc n * count) (one_more n count))
      ∙ again (i + n * count) ∙ many_rounds n i
    where
      one_more : (n c : ℕ) → suc n * c ≡ n * c + c
      one_more n c = suc-mul n c

      over : (i a b : ℕ) → b ≡ a + count → i + b ≡ (i + a) + count
      over i a b e = omega (arith, e)

  -- each place has one below the count from which all goes on alike
  pub place_below : 0 < count → (i : ℕ) → (j : ℕ) × (j < count) × ((d : ℕ) → f (d + j) ≡ f (d + i))
  place_below some zero = (0, some, λ d. refl)
  place_below some (suc i) = go (place_below some i)
    where
      go : (j : ℕ) × (j < count) × ((d : ℕ) → f (d + j) ≡ f (d + i))
          → (j : ℕ) × (j < count) × ((d : ℕ) → f (d + j) ≡ f (d + suc i))
      go (j, below, same) = elim (cases_lt (suc j) count) [
        | inl l ↦ (
          suc j,
          l,
          λ d. ap f (let e : d + suc j ≡ suc d + j = omega arith in e)
              ∙ same (suc d) ∙ ap f (let e : suc d + i ≡ d + suc i = omega arith in e),
        )
        | inr l ↦ (
          0,
          some,
          λ d. sym (again (d + 0))
              ∙ ap f (let e : (d + 0) + count ≡ suc d + j = omega (arith, l, below) in e)
              ∙ same (suc d) ∙ ap f (let e : suc d + i ≡ d + suc i = omega arith in e),
        )
      ]

  -- that place and the two after it
  pub three_below : 0 < count → (i : ℕ) → (j : ℕ) × (j < count) × (f j ≡ f i)
      × (f (suc j) ≡ f (suc i)) × (f (suc (suc j)) ≡ f (suc (suc i)))
  three_below some i = let p = place_below some i in (
    p.0,
    p.1,
    on p.0 0 p.0 (p.2 0) (omega arith) (omega arith),
    on p.0 1 (suc p.0) (p.2 1)
        (omega arith) (omega arith),
    on p.0 2 (suc (suc p.0)) (p.2 2) (omega arith) (omega arith),
  )
    where
      on : (j d k : ℕ) {l : ℕ} → f (d + j) ≡ f (d + i) → k ≡ d + j → d + i ≡ l → f k ≡ f l
      on j d k e a b = ap f a ∙ e ∙ ap f b

module _ (m : Mesh) (v first count : ℕ) (round : IsRound m v first count) where
  -- the edges from edge i of the round on
  pub spoke_shift : (i j : ℕ) → spoke m (spoke m first i) j ≡ spoke m first (j + i)
  spoke_shift i zero = ap (spoke m first) (let e : i ≡ 0 + i = omega arith in e)
  spoke_shift i (suc j) = ap (turn m) (spoke_shift i j)
      ∙ ap (spoke m first) (let e : suc (j + i) ≡ suc j + i = omega arith in e)

  -- read from its edge i, the neighbours of a vertex are those from place i on
  pub neighbour_shift : (i j : ℕ) → neighbour m (spoke m first i) j ≡ neighbour m first (j + i)
  neighbour_shift i j = ap (λ h. origin m (rev h)) (spoke_shift i j)

  module _ (i : ℕ) where
    -- from place i + n on, whole rounds are left
    rest : ℕ
    rest = i * count - i

    rounds_over : i + rest ≡ i * count
    unfolding rest
    rounds_over = let b = le-mul_of_pos_right i round.some in omega (arith, b)

    -- turns carry an equality of edges on
    carried : (a b d : ℕ) → spoke m first a ≡ spoke m first b
        → spoke m first (d + a) ≡ spoke m first (d + b)
    carried a b zero e = ap (spoke m first) (let q : 0 + a ≡ a = omega arith in q) ∙ e
        ∙ ap (spoke m first) (let q : b ≡ 0 + b = omega arith in q)
    carried a b (suc d) e =
        ap (spoke m first) (let q : suc d + a ≡ suc (d + a) = omega arith in q) ∙ ap (turn m)
        (carried a b d e) ∙ ap (spoke m first) (let q : suc (d + b) ≡ suc d + b = omega arith in q)

    -- `rest` turns on from place a + i, the round is at edge a again
    home : (a : ℕ) → spoke m first (rest + (a + i)) ≡ spoke m first a
    home a = ap (spoke m first) (let r = rounds_over in let q : rest + (a + i) ≡ a + i * count =
        omega (arith, r) in q) ∙ many_rounds (spoke m first) count round.back i a

    apart_shift : (a b : ℕ) → a < b → b < count → spoke m first (a + i) ≢ spoke m first (b + i)
    apart_shift a b l h e =
        round.apart a b l h (sym (home a) ∙ carried (a + i) (b + i) rest e ∙ home b)

    all_shift : (h : ℕ) → h < length m.half_edges → origin m h ≡ v
        → (j : ℕ) × (j < count) × (h ≡ spoke m (spoke m first i) j)
    all_shift h w o =
        let r = round.all h w o in
        let p = place_below (spoke m first) count round.back round.some (r.0 + rest) in (
          p.0,
          p.1,
          r.2 ∙ sym (ap (spoke m first) (back_at r.0)
              ∙ many_rounds (spoke m first) count round.back i r.0) ∙ sym (p.2 i)
              ∙ ap (spoke m first)
              (let q : i + p.0 ≡ p.0 + i = omega arith in q) ∙ sym (spoke_shift i p.0),
        )
      where
        back_at : (a : ℕ) → i + (a + rest) ≡ a + i * count
        back_at a = let r = rounds_over in omega (arith, r)

    -- the round of a vertex, from any of its edges on, is a round of the same length
    pub round_from : IsRound m v (spoke m first i) count
    round_from = record {
      some = round.some;
      back = λ j. spoke_shift i (j + count)
          ∙ ap (spoke m first) (let q : (j + count) + i ≡ (j + i) + count = omega arith in q)
          ∙ round.back (j + i) ∙ sym (spoke_shift i j);
      within =
          λ j. subst (λ h. h < length m.half_edges) (sym (spoke_shift i j)) (round.within (j + i));
      starts = λ j. ap (origin m) (spoke_shift i j) ∙ round.starts (j + i);
      apart = λ a b l h e. apart_shift a b l h (sym (spoke_shift i a) ∙ e ∙ spoke_shift i b);
      all = all_shift;
      corner = λ j inner. ap (triangle_at m) (spoke_shift i j) ∙ round.corner (j + i)
          (subst (λ h. 0 < face m h) (spoke_shift i j) inner) ∙ (λ t. record {
            first = v;
            second = sym (neighbour_shift i j) t;
            third = third_shift j t;
          });
    }
      where
        third_shift : (j : ℕ)
            → neighbour m first ((j + i) + 1) ≡ neighbour m (spoke m first i) (j + 1)
        third_shift j = ap (neighbour m first) (let q : (j + i) + 1 ≡ (j + 1) + i = omega arith in
            q) ∙ sym (neighbour_shift i (j + 1))
