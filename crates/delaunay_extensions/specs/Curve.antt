-- The number that a point has on a Hilbert curve, as it is computed. Which number it is decides
-- nothing but time.
use Rattle.std.specs.Prelude.{ℕ, ℤ, Bool, ◌*◌, ◌/◌, ◌^◌, ◌%◌, ◌==◌, if◌then◌else◌, pos}
use Rattle.std.specs.Prelude.{◌-◌, min, unsigned_abs, bit_and}
use Rattle.std.specs.Int.{int_wrapping_add, leading_zeros, w64}
use Rattle.std.specs.Int.Bits.{bit_or, bit_xor}
use Rattle.delaunay_extensions.specs.declared.curve.Turns.{Turns}

-- bits, and these again some places higher, as far as a mask lets them through
unfoldable pub doubled_by : ℕ → ℕ → ℕ → ℕ
doubled_by bits places mask = bit_and (bit_or bits (bits * 2 ^ places % 2 ^ 64)) mask

-- the lower 32 bits, each with a clear bit above it
unfoldable pub spread_of : ℕ → ℕ
spread_of bits =
    let halves = doubled_by bits 16 281470681808895 in
    let bytes = doubled_by halves 8 71777214294589695 in
    let nibbles = doubled_by bytes 4 1085102592571150095 in
    let pairs = doubled_by nibbles 2 3689348814741910323 in
    doubled_by pairs 1 6148914691236517205

-- all 32 bits but those of a number
abbrev pub others : ℕ → ℕ
others bits = bit_xor 4294967295 bits

-- how each two levels turn the curve, for a point with these coordinates
unfoldable pub turned_by_two : ℕ → ℕ → Turns
turned_by_two x y =
    let differ = bit_xor x y in
    let agree = others differ in
    let neither = others (bit_or x y) in
    let right = bit_and x (others y) in record {
      straight = bit_or differ (agree / 2);
      crossed = bit_xor (differ / 2) differ;
      x = bit_xor (bit_xor (neither / 2) (bit_and agree (right / 2))) neither;
      y = bit_xor (bit_xor (bit_and differ (neither / 2)) (right / 2)) right;
    }

-- how twice as many levels turn it
unfoldable pub turned_by_twice : Turns → ℕ → Turns
turned_by_twice turns levels =
    let straight = turns.straight / 2 ^ levels in
    let crossed = turns.crossed / 2 ^ levels in
    let x = turns.x / 2 ^ levels in
    let y = turns.y / 2 ^ levels in record {
      straight = bit_xor (bit_and turns.straight straight) (bit_and turns.crossed crossed);
      crossed = bit_xor (bit_and turns.straight crossed)
          (bit_and turns.crossed (bit_xor straight crossed));
      x = bit_xor turns.x (bit_xor (bit_and turns.straight x) (bit_and turns.crossed y));
      y = bit_xor turns.y (bit_xor (bit_and turns.crossed x)
          (bit_and (bit_xor turns.straight turns.crossed) y));
    }

-- what a point's number is made of
unfoldable pub joined_at : ℕ → ℕ → Turns → ℕ
joined_at x y turns =
    let right = bit_xor turns.x (turns.x / 2) in
    let upper = bit_xor turns.y (turns.y / 2) in
    let low = bit_xor x y in
    let high = bit_or upper (others (bit_or low right)) in
    bit_or (spread_of high * 2 % 2 ^ 64) (spread_of low)

-- a coordinate in range as a number from 0 on
abbrev pub from_least : ℤ → ℕ
from_least z = unsigned_abs (int_wrapping_add w64 z (pos 536870912))

-- how many points a Hilbert curve visits before this one
unfoldable pub key_at : ℤ → ℤ → ℕ
key_at x y =
    let px = from_least x in
    let py = from_least y in
    let four = turned_by_twice (turned_by_two px py) 2 in
    let sixteen = turned_by_twice (turned_by_twice four 4) 8 in
    joined_at px py (turned_by_twice sixteen 16)

-- the round of a number on the curve, from 0 to 7, chosen by a hash
unfoldable pub round_of : ℕ → ℕ
round_of key = 7 - min (leading_zeros w64 (key * 11400714819323198485 % 2 ^ 64) / 3) 7

-- a number on the curve below the number of its round
unfoldable pub round_key : ℕ → ℕ
round_key key = bit_or (round_of key * 2 ^ 61 % 2 ^ 64) (key / 2)

-- the number by which points are ordered: in rounds where they are not all on one line
unfoldable pub order_key : Bool → ℤ → ℤ → ℕ
order_key is_line x y = if is_line then key_at x y else round_key (key_at x y)
