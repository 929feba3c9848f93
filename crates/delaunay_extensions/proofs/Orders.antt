-- The places of a list, each of them once.
-- Lemmas: no_place, one_place_more, reordered.
use Rattle.std.proofs.Common.{◌≡◌, ◌+◌, ◌<◌, [], ◌∷◌, ◌++◌, ◌∙◌, ◌⊎◌}
use Rattle.std.proofs.Common.{ℕ, List, sym, subst, refl, arith, inl, inr}
use Rattle.std.specs.Prelude.{Contains, IsPermutation}
use Rattle.std.proofs.lemmas.List.{length_push}
use Rattle.std.proofs.lemmas.List.Elements.{All-push, All-weaker}
use Rattle.std.proofs.lemmas.List.Elements.{Contains-append_left, Contains-push}
use Rattle.std.proofs.lemmas.List.Sorted.{All-permutation, Contains-permutation}
use Rattle.std.proofs.lemmas.List.Sorted.{length_permutation}
use Rattle.{delaunay_extensions.specs.Order.IsOrder, plane.proofs.below_or_last}

-- there is no place in an empty list
pub no_place : IsOrder 0 []
no_place = record {
  below = λ k d b. absurd (omega (arith, b));
  all = λ i b. absurd (omega (arith, b));
  once = refl;
}

-- one more place
pub one_place_more : (n : ℕ) (xs : List ℕ) → IsOrder n xs → IsOrder (n + 1) (xs ++ n ∷ [])
one_place_more n xs o = record {
  below = All-push (λ i. i < n + 1) xs n
      (All-weaker (λ i. i < n) (λ i. i < n + 1) (λ i b. omega (arith, b)) xs o.below) (omega arith);
  all = λ i b. go i (below_or_last n i (omega (arith, b)));
  once = let e = o.once in omega (arith, length_push xs n, e);
}
  where
    go : (i : ℕ) → (i < n) ⊎ (i ≡ n) → Contains (xs ++ n ∷ []) i
    go i (inl b) = Contains-append_left xs (n ∷ []) i (o.all i b)
    go i (inr e) = subst (λ (k : ℕ). Contains (xs ++ n ∷ []) k) (sym e) (Contains-push xs n)

-- in another order
pub reordered : (n : ℕ) (xs ys : List ℕ) → IsPermutation xs ys → IsOrder n xs → IsOrder n ys
reordered n xs ys is o = record {
  below = All-permutation (λ i. i < n) xs ys is o.below;
  all = λ i b. Contains-permutation xs ys i is (o.all i b);
  once = length_permutation xs ys is ∙ o.once;
}
