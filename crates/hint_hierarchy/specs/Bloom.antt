-- A Bloom filter of positions, as the list of its bits.
use Rattle.std.specs.Prelude.{◌≡◌, ℕ, ◌+◌, ◌*◌, ◌/◌, ◌%◌, ◌^◌, ℤ, List, Bool, true, All, length}
use Rattle.std.specs.Prelude.{map, slice_index_or}
use Rattle.std.specs.Int.{cast_unsigned, w64}
use Rattle.{delaunay_core.specs.place_of, delaunay_core.specs.Point2, plane.specs.Point}

-- the hash of a position: the high half of the sum of its coordinates times two odd numbers, of 64
-- bits
abbrev pub hash_of : Point → ℕ
hash_of p = (cast_unsigned w64 p.x * 11400714819323198485 % 2 ^ 64
    + cast_unsigned w64 p.y * 14029467366897019727 % 2 ^ 64) % 2 ^ 64 / 2 ^ 32

-- the place of its bit among so many
abbrev pub bit_of : ℕ → Point → ℕ
bit_of count p = hash_of p * count / 2 ^ 32

-- whether its bit is set; where there are no bits, each position may be in the filter
abbrev pub may_have : List Bool → Point → Bool
may_have bits p = slice_index_or bits (bit_of (length bits) p) true

-- the bits of all points are set
abbrev pub HaveBits : {S : Type 0} → (S → ℤ) → List Bool → List (Point2 S) → Type 0
HaveBits number bits points = All (λ p. may_have bits p ≡ true) (map (place_of number) points)
