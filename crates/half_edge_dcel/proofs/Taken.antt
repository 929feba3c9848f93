-- Names taken from either end of a list.
-- Lemmas: row_below, rest_holds, front_holds, length_each.
use Rattle.std.proofs.Common.{◌≡◌, ◌+◌, ◌<◌, ◌≤◌}
use Rattle.std.proofs.Common.{ℕ, List, length, Option, None, Some, All, sym, subst, arith}
use Rattle.std.specs.List.{range_with_len}
use Rattle.std.specs.Iterator.{YieldsFirst, YieldsLast}
use Rattle.std.specs.Borrow.{Bor}
use Rattle.std.proofs.lemmas.List.{length-map}
use Rattle.std.proofs.lemmas.List.Elements.{All-nil, All-tail, All-pop}
use Rattle.std.proofs.lemmas.List.FromFn.{length-range_with_len, get_or-range_with_len}
use Rattle.half_edge_dcel.specs.{each_in}

-- indexes in a row are below a bound of their end
pub row_below : (a n b : ℕ) (xs : List ℕ) → xs ≡ range_with_len a n → a + n ≤ b
    → All (λ i. i < b) xs
row_below a n b xs is bound = rw is (λ k d lt.
    omega (
      arith,
      length-range_with_len a n,
      get_or-range_with_len a n k d (omega (arith, length-range_with_len a n)),
    ))

module _ (P : ℕ → Type 0) (xs ys : List ℕ) where
  -- what holds of each holds of those that are left after the first is taken
  pub rest_holds : (taken : Option ℕ) → YieldsFirst (λ s. s) ys taken xs → All P ys → All P xs
  rest_holds None gives all = subst (All P) (sym gives.1) (All-nil P)
  rest_holds (Some i) gives all = All-tail P i xs (subst (All P) gives all)

  -- or the last
  pub front_holds : (taken : Option ℕ) → YieldsLast (λ s. s) ys taken xs → All P ys → All P xs
  front_holds None gives all = subst (All P) (sym gives.1) (All-nil P)
  front_holds (Some i) gives all = (All-pop P ys xs (Some i) gives all).0

module _ {C : Type 0} (mesh : Bor C) where
  -- there are as many parts as names
  pub length_each : (xs : List ℕ) → length (each_in mesh xs) ≡ length xs
  length_each xs = length-map xs (λ i. (mesh, i))
