-- A list of what a test says of each number below a count, and bits in pages of words, which a
-- directory names.
use Rattle.std.specs.Prelude.{◌≡◌, ℕ, zero, suc, ◌/◌, ◌%◌, ◌<◌, ◌≤◌, List, Bool, [], ◌∷◌}
use Rattle.std.specs.Prelude.{length, map, slice_index_or}
use Rattle.std.specs.List.{range_with_len}
use Rattle.delaunay_legalization.specs.{has_bit}

-- what a test says of each number below a count, by rising number
abbrev pub tests_below : ℕ → (ℕ → Bool) → List Bool
tests_below count test = map test (range_with_len 0 count)

-- the words of a place: the directory has 0 for a place without words, and one more than the place
-- of its page for another
abbrev pub words_at : List ℕ → List (List ℕ) → ℕ → List ℕ
words_at directory pages place = slice_index_or ([] ∷ pages) (slice_index_or directory place 0) []

-- the test whether the bit of a number is set, in the pages of 512 numbers each
abbrev pub has_mark : List ℕ → List (List ℕ) → ℕ → Bool
has_mark directory pages k = has_bit (words_at directory pages (k / 512)) (k % 512)

-- how many numbers of a list are not 0
abbrev pub count_others : List ℕ → ℕ
count_others [] = 0
count_others (zero ∷ xs) = count_others xs
count_others (suc _ ∷ xs) = suc (count_others xs)

-- each page is that of one place
pub record IsDirectory (directory : List ℕ) (pages : List (List ℕ)) : Type 0 where
  pub within : (p : ℕ) → slice_index_or directory p 0 ≤ length pages
  pub once : (p q : ℕ) → 0 < slice_index_or directory p 0
      → slice_index_or directory p 0 ≡ slice_index_or directory q 0 → p ≡ q
  pub used : length pages ≡ count_others directory
  pub short : length directory ≤ 8388608
