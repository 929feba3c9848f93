-- Reads of a list after three writes at different places and six pushes.
-- Notions: AreThreePlaces; written, length-grown, grown_at_i, grown_at_j, grown_at_k, grown_at,
-- grown_at_0, grown_other.
use Rattle.std.proofs.Common.{◌≡◌, ◌≢◌, ◌+◌, ◌<◌, [], ◌∷◌, ◌++◌}
use Rattle.std.proofs.Common.{ℕ, List, length, get_or, set, arith, append_assoc, length-append}
use Rattle.std.proofs.Common.{add-zero}
use Rattle.std.proofs.lemmas.List.{get_or-set_same, get_or-set_other, length-set}
use Rattle.std.proofs.lemmas.List.{get_or_append_left, get_or-append-add}

-- three places of a list, no two of them the same
pub record AreThreePlaces (n i j k : ℕ) : Type 0 where
  pub i_in : i < n
  pub j_in : j < n
  pub k_in : k < n
  pub ij : i ≢ j
  pub ik : i ≢ k
  pub jk : j ≢ k

module _ {X : Type 0} (xs : List X) (i j k : ℕ) (u v w a b c d e f o : X)
    (p : AreThreePlaces (length xs) i j k) where
  -- the list after three writes
  unfoldable pub written : List X
  written = set (set (set xs i u) j v) k w

  -- three writes and then six pushes, as one append
  grown_is : written ++ a ∷ [] ++ b ∷ [] ++ c ∷ [] ++ d ∷ [] ++ e ∷ [] ++ f ∷ [] ≡ written
      ++ (a ∷ b ∷ c ∷ d ∷ e ∷ f ∷ [])
  grown_is = simp append_assoc

  length-written : length written ≡ length xs
  unfolding written
  length-written = simp length-set

  -- three writes and six pushes make a list six longer
  pub length-grown : length (written ++ a ∷ [] ++ b ∷ [] ++ c ∷ [] ++ d ∷ [] ++ e ∷ [] ++ f ∷ [])
      ≡ length xs + 6
  length-grown = rw grown_is
      (omega (arith, length-append written (a ∷ b ∷ c ∷ d ∷ e ∷ f ∷ []), length-written))

  -- the first of three places has what the first write put there
  pub grown_at_i : get_or (written ++ a ∷ [] ++ b ∷ [] ++ c ∷ [] ++ d ∷ [] ++ e ∷ [] ++ f ∷ []) i o
      ≡ u
  unfolding written
  grown_at_i = rw (
    grown_is,
    get_or_append_left written (a ∷ b ∷ c ∷ d ∷ e ∷ f ∷ []) o i
        (omega (arith, length-written, p.i_in)),
  )
      (grind (arith, get_or-set_same, get_or-set_other, length-set))

  -- the second of three places has what the second write put there
  pub grown_at_j : get_or (written ++ a ∷ [] ++ b ∷ [] ++ c ∷ [] ++ d ∷ [] ++ e ∷ [] ++ f ∷ []) j o
      ≡ v
  unfolding written
  grown_at_j = rw (
    grown_is,
    get_or_append_left written (a ∷ b ∷ c ∷ d ∷ e ∷ f ∷ []) o j
        (omega (arith, length-written, p.j_in)),
  )
      (grind (arith, get_or-set_same, get_or-set_other, length-set))

  -- the third of three places has what the third write put there
  pub grown_at_k : get_or (written ++ a ∷ [] ++ b ∷ [] ++ c ∷ [] ++ d ∷ [] ++ e ∷ [] ++ f ∷ []) k o
      ≡ w
  unfolding written
  grown_at_k = rw (
    grown_is,
    get_or_append_left written (a ∷ b ∷ c ∷ d ∷ e ∷ f ∷ []) o k
        (omega (arith, length-written, p.k_in)),
  )
      (grind (arith, get_or-set_same, get_or-set_other, length-set))

  -- the pushed items are from the old length on
  pub grown_at : (q : ℕ) → get_or (written ++ a ∷ [] ++ b ∷ [] ++ c ∷ [] ++ d ∷ [] ++ e ∷ [] ++ f
      ∷ []) (length xs + q) o ≡ get_or (a ∷ b ∷ c ∷ d ∷ e ∷ f ∷ []) q o
  grown_at q =
      rw (grown_is, ← length-written) (get_or-append-add written (a ∷ b ∷ c ∷ d ∷ e ∷ f ∷ []) q o)

  -- the first pushed item is at the old length
  pub grown_at_0 :
      get_or (written ++ a ∷ [] ++ b ∷ [] ++ c ∷ [] ++ d ∷ [] ++ e ∷ [] ++ f ∷ []) (length xs) o ≡ a
  grown_at_0 = rw add-zero at (grown_at 0)

  -- any other place has what it had before
  pub grown_other : (h : ℕ) → h < length xs → h ≢ i → h ≢ j → h ≢ k → get_or
      (written ++ a ∷ [] ++ b ∷ [] ++ c ∷ [] ++ d ∷ [] ++ e ∷ [] ++ f ∷ []) h o ≡ get_or xs h o
  unfolding written
  grown_other h within hi hj hk = rw (
    grown_is,
    get_or_append_left written (a ∷ b ∷ c ∷ d ∷ e ∷ f ∷ []) o h (omega (arith, length-written)),
  )
      (grind (arith, get_or-set_same, get_or-set_other, length-set))
