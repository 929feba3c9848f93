-- The flips of insertions fit in a count of 64 bits.
-- Lemmas: flips_fit, few_flips_fit, first_count_is_small.
use Rattle.std.proofs.Common.{ℕ, ◌+◌, ◌-◌, ◌*◌, ◌≤◌, ◌<◌, ◌^◌, arith}
use Rattle.std.proofs.lemmas.Nat.{mul-le}
use Rattle.delaunay_legalization.specs.{CountsFlips, FlipsFit}

below : (before q : ℕ) → q ≤ 4294967296 * 4294967295 → before < 2 ^ 63 → 2 * before + q < 2 ^ 65
below before q few small = omega (arith, few, small)

-- a count of at most half of (2^32 - 1) (2^32 - 2) is below 2^63
half : (after q : ℕ) → 2 * (after - 0) ≤ q → q ≤ 4294967295 * 4294967294 → after < 2 ^ 63
half after q few small = omega (arith, few, small)

-- with fewer than 2^32 vertices, a count below 2^63 has room for the flips of one insertion
pub flips_fit : (n before : ℕ) → n ≤ 4294967295 → before < 2 ^ 63 → FlipsFit (n + 1) before
flips_fit n before few small =
    below before ((n + 1) * (n + 1 - 1))
    (mul-le (n + 1) (n + 1 - 1) 4294967296 4294967295 (omega (arith, few)) (omega (arith, few)))
    small

-- with fewer than 2^32 vertices, a count that begins at 0 has room for the flips of one insertion
pub few_flips_fit : (n : ℕ) → n ≤ 4294967295 → FlipsFit (n + 1) 0
few_flips_fit n few = flips_fit n 0 few (omega arith)

-- with fewer than 2^32 vertices, a count that an insertion began at 0 is below 2^63
pub first_count_is_small : (n after : ℕ) → n ≤ 4294967295 → CountsFlips n 0 after → after < 2 ^ 63
first_count_is_small n after few counted =
    half after (n * (n - 1)) counted.few
    (mul-le n (n - 1) 4294967295 4294967294 (omega (arith, few)) (omega (arith, few)))

-- for callers that count: that there is room, and that there is room again
pub ruleset counted_flips = (flips_fit, first_count_is_small)
