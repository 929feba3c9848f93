-- Bits in words of 64.
use Rattle.std.specs.Prelude.{ℕ, ◌/◌, ◌%◌, List, Bool, nat_eq, slice_index_or}
use Rattle.std.specs.Int.{bit_at}

-- the test whether the bit of a number is set, in words of 64 bits
abbrev pub has_bit : List ℕ → ℕ → Bool
has_bit words k = nat_eq (bit_at (slice_index_or words (k / 64) 0) (k % 64)) 1
