-- The statuses in words.
use Rattle.std.specs.Prelude.{◌≡◌, ◌<◌, ◌≤◌, ◌++◌, ◌+◌, ◌∷◌, ◌==◌, ℕ, List, length, drop, codes}
use Rattle.std.specs.Prelude.{if◌then◌else◌}
use Rattle.c_calls.specs.declared.statuses.TheConstants.{NO_SUCH_STATUS, TOO_SHORT, WELL}

-- of a number that is no status the words say so
abbrev pub status_words : ℕ → List ℕ
status_words s =
    if s == 0 then codes "all went well"
    else if s == 1 then codes "the triangulation is closed: open it first"
    else if s == 2 then codes "the triangulation is already open: close it first"
    else if s == 3 then
    codes "there is no such kind: 0 is plain or a circle, 1 is constrained or a rectangle"
    else if s == 4 then codes "the triangulation is plain: this call is for constrained ones"
    else if s == 5 then codes "the triangulation is constrained: this call is for plain ones"
    else if s == 6 then codes "two lists that go together have different lengths"
    else if s == 7 then
    codes "a coordinate is out of range: it is more than 2^29 or less than -2^29"
    else if s == 8 then codes "a squared radius or width is negative: it has to be 0 or more"
    else if s == 9 then
    codes "there is no vertex with this index: the last is the number of vertices less 1"
    else if s == 10 then
    codes "a segment names a point that is not in the list: indexes of points start at 0"
    else if s == 11 then
    codes "a constraint crosses the segment: leave one out, or cut both where they meet"
    else if s == 12 then
    codes "no constraint joins the two vertices: vertices between them may part it in several"
    else if s == 13 then codes "a list is too short: call again with a longer one"
    else if s == 14 then
    codes "there are too many vertices for 32-bit indexes: 715827882 are the most"
    else if s == 15 then codes "there is not enough memory"
    else codes "there is no such status"

-- the words of a status and a final 0 byte were written, and how long the words are was told
abbrev pub WritesWords : ℕ → ℕ → List ℕ → List ℕ → Type 0
WritesWords s told old new =
    (told ≡ length (status_words s)) × (new ≡ status_words s ++ 0 ∷ drop (told + 1) old)

-- how it ended that a status was to be told in words. How long these are is told also where there
-- is no room
pub data TellsWords (s status told : ℕ) (old new : List ℕ) : Type 0 where
  words_told : status ≡ WELL → s < NO_SUCH_STATUS → WritesWords s told old new
      → TellsWords s status told old new
  words_of_none : status ≡ NO_SUCH_STATUS → ¬ (s < NO_SUCH_STATUS) → WritesWords s told old new
      → TellsWords s status told old new
  words_too_long : status ≡ TOO_SHORT → told ≡ length (status_words s) → length old ≤ told
      → new ≡ old → TellsWords s status told old new
