-- The count of the edges of a vertex.
-- Notions: IsCounting; counted, counting_fits, counting_goes_on.
use Rattle.std.proofs.Common.{◌≡◌, ◌≢◌, ◌+◌, ◌<◌, ◌∙◌}
use Rattle.std.proofs.Common.{ℕ, length, refl, sym, ap, subst, arith, inl, inr}
use Rattle.std.proofs.lemmas.Bool.{cases_eq, cases_lt}
use Rattle.std.proofs.Math.Numerals.{add-one}
use Rattle.half_edge_links.specs.{IsRound, IsValidMesh, Mesh, origin, spoke, turn}
use Rattle.{delaunay_legalization.proofs.round_at, half_edge_dcel.proofs.Loops.round_fits}

-- after so many steps from edge first on the walk is at an edge, and none of the steps before led
-- to first
pub record IsCounting (m : Mesh) (bound first count edge : ℕ) : Type 0 where
  pub valid : IsValidMesh m
  pub fit : bound ≡ length m.half_edges
  pub first_in : first < bound
  pub within : edge < bound
  pub some : 0 < count
  pub here : edge ≡ spoke m first count
  pub before : (j : ℕ) → 0 < j → j < count → spoke m first j ≢ first

module _ {m : Mesh} {bound first count edge : ℕ}
    (counting : IsCounting m bound first count edge) where
  round : (n : ℕ) × IsRound m (origin m first) first n
  round = round_at m counting.valid (origin m first) first (rw counting.fit at counting.first_in)
      refl

  -- the round comes back to its first edge
  home : spoke m first round.0 ≡ first
  home = ap (spoke m first) (let e : round.0 ≡ 0 + round.0 = omega arith in e) ∙ round.1.back 0

  not_past : round.0 < count → ⊥
  not_past less = counting.before round.0 round.1.some less home

  -- back at the first edge, the count is that of the round
  pub counted : edge ≡ first → IsRound m (origin m first) first count
  counted back = subst (λ (n : ℕ). IsRound m (origin m first) first n) same round.1
    where
      not_short : count < round.0 → ⊥
      not_short less = round.1.apart 0 count counting.some less (sym (sym counting.here ∙ back))

      same : round.0 ≡ count
      same = elim (cases_lt round.0 count) [
        | inl l ↦ absurd (not_past l)
        | inr l ↦ elim (cases_lt count round.0)
            [ inl k ↦ absurd (not_short k) | inr k ↦ omega (arith, l, k) ]
      ]

  -- ---- before that, by the indexes of both edges
  module _ {here home_index : ℕ} (is : here ≡ edge) (is_home : home_index ≡ first)
      (differ : here ≢ home_index) where
    off : edge ≢ first
    off e = differ (is ∙ e ∙ sym is_home)

    -- fewer edges are counted than there are
    pub counting_fits : count < bound
    counting_fits =
        let fits = round_fits m (origin m first) first round.0 counting.valid round.1 in
        let fit = counting.fit in
        elim (cases_lt count round.0) [
          | inl l ↦ omega (arith, l, fits, fit)
          | inr l ↦ elim (cases_lt round.0 count) [
            | inl k ↦ absurd (not_past k)
            | inr k ↦ absurd (off (counting.here
                ∙ ap (spoke m first) (let e : count ≡ round.0 = omega (arith, l, k) in e) ∙ home))
          ]
        ]

    -- with one edge more counted, the walk is at the edge that it turns to
    pub counting_goes_on : {after : ℕ} → after < bound → after ≡ turn m edge
        → IsCounting m bound first (count + 1) after
    counting_goes_on within turned = record {
      valid = counting.valid;
      fit = counting.fit;
      first_in = counting.first_in;
      within = within;
      some = omega arith;
      here = turned ∙ ap (turn m) counting.here ∙ ap (spoke m first) (sym (add-one count));
      before = λ j some less. elim (cases_eq j count) [
        | inl e ↦ λ q. off (counting.here ∙ ap (spoke m first) (sym e) ∙ q)
        | inr n ↦ counting.before j some (omega (arith, less, n))
      ];
    }
