-- What calls write into the lists that C hands in.
-- Answered IsAnswer count old new: the first count entries are answers; the others stay
-- Listing: a call lists all its answers, or writes none and says how much room they need
-- Finding, found, refused: a call writes the answers that there is room for, or gives a reason and
--   writes none
-- Tells answers status told old new: as many answers as there is room for are written, and the
--   number of all is given
-- Answering: a call answers each query by its index, or none where there is too little room or a
--   query is out of range
-- IsAnswerAt queries IsAnswer k a: a answers query k
-- plain_point, IsRawInRange: a point of C as a point of the plane; its coordinates are in range
use Rattle.std.specs.Prelude.{◌≡◌, ◌<◌, ◌++◌, if◌then◌else◌, nat_lt}
use Rattle.std.specs.Prelude.{ℕ, List, length, take, drop, slice_get, IsSomeAnd, All}
use Rattle.{c_calls.specs.declared.raw.RawPoint.RawPoint, plane.specs.InRange, plane.specs.Point}
use Rattle.c_calls.specs.declared.statuses.TheConstants.{TOO_LARGE, TOO_SHORT, WELL}

-- a point of C's
abbrev pub plain_point : RawPoint → Point
plain_point p = record { x = p.x; y = p.y }

-- its coordinates are in range
abbrev pub IsRawInRange : RawPoint → Type 0
IsRawInRange p = InRange (plain_point p)

-- so many places have answers, each by its place, and the others are as they were
pub record Answered {A : Type 0} (IsAnswer : ℕ → A → Type 0) (count : ℕ)
    (old new : List A) : Type 0 where
  pub answers : (k : ℕ) → k < count → IsSomeAnd (slice_get new k) (IsAnswer k)
  pub others : drop count new ≡ drop count old

-- a call lists so many answers, or none where there is no room for all, and tells how many they are
pub data Listing {A : Type 0} (IsAnswer : ℕ → A → Type 0) (count status told : ℕ)
    (old new : List A) : Type 0 where
  listed : status ≡ WELL → told ≡ count → Answered IsAnswer count old new
      → Listing IsAnswer count status told old new
  too_long : status ≡ TOO_SHORT → told ≡ count → length old < count → new ≡ old
      → Listing IsAnswer count status told old new

-- an answer to the query at a place
abbrev pub IsAnswerAt : {A : Type 0} → List RawPoint → (RawPoint → A → Type 0) → ℕ → A → Type 0
IsAnswerAt queries IsAnswer k a = IsSomeAnd (slice_get queries k) (λ q. IsAnswer q a)

-- a call answers each query at its place, or none where there is no room for all answers or a query
-- is out of range
pub data Answering {A : Type 0} (queries : List RawPoint) (IsAnswer : RawPoint → A → Type 0)
    (status : ℕ) (old new : List A) : Type 0 where
  answered : status ≡ WELL → All IsRawInRange queries
      → Answered (IsAnswerAt queries IsAnswer) (length queries) old new
      → Answering queries IsAnswer status old new
  too_many : status ≡ TOO_SHORT → length old < length queries → new ≡ old
      → Answering queries IsAnswer status old new
  out_of_range : status ≡ TOO_LARGE → ¬ All IsRawInRange queries → new ≡ old
      → Answering queries IsAnswer status old new

-- a call tells these answers as far as there is room, and how many they are
pub record Tells {A : Type 0} (answers : List A) (status told : ℕ) (old new : List A) : Type 0 where
  pub count : told ≡ length answers
  pub written : new ≡ take (length old) answers ++ drop (length answers) old
  pub ended : status ≡ (if nat_lt (length old) (length answers) then TOO_SHORT else WELL)

-- a call that finds a list tells it where it may, or writes nothing and gives a reason
pub data Finding {A : Type 0} (May : Type 0) (IsFound : List A → Type 0) (Refuses : ℕ → Type 0)
    (status was told : ℕ) (old new : List A) : Type 0 where
  found : May → (answers : List A) → IsFound answers → Tells answers status told old new
      → Finding May IsFound Refuses status was told old new
  refused : Refuses status → told ≡ was → new ≡ old
      → Finding May IsFound Refuses status was told old new
