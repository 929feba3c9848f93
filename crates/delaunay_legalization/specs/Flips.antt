-- How many flips an edit makes.
use Rattle.std.specs.Prelude.{ℕ, ◌+◌, ◌-◌, ◌*◌, ◌<◌, ◌≤◌, ◌^◌}

-- all flips that n vertices may need fit in a count of 64 bits
abbrev pub FlipsFit : ℕ → ℕ → Type 0
FlipsFit n before = 2 * before + n * (n - 1) < 2 ^ 65

-- at most n (n - 1) / 2 flips were counted
pub record CountsFlips (n before after : ℕ) : Type 0 where
  pub grows : before ≤ after
  pub few : 2 * (after - before) ≤ n * (n - 1)
