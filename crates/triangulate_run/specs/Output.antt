-- What is written to a watched writer.
use Rattle.std.specs.Prelude.{◌≡◌, ℕ, true, false, List, ◌++◌, Option, Result, MatchResult}
use Rattle.std.specs.Io.KnownBytes.{Appends}
use Rattle.triangulate_run.specs.Watched.{has_failed, inner_of}
use Rattle.triangulate_run.specs.declared.watched.Watched.{Watched}

-- new holds some beginning of the text behind what old held
pub record AppendsPart (old new : Option (List ℕ)) (text : List ℕ) : Type 0 where
  pub part : List ℕ
  pub rest : List ℕ
  pub whole : text ≡ part ++ rest
  pub written : Appends old new part

-- a call wrote the text, or the writer failed, and a beginning of the text was written
abbrev pub Writes : {W T E : Type 0} → (W → Option (List ℕ)) → Watched W → Watched W → Result T E
    → List ℕ → Type 0
Writes contents old new result text = MatchResult result
    (λ _. Appends (contents (inner_of old)) (contents (inner_of new)) text
    × (has_failed new ≡ false))
    (λ _. AppendsPart (contents (inner_of old)) (contents (inner_of new)) text
    × (has_failed new ≡ true))

-- so it was with a text for which X holds
abbrev pub WritesSome : {W T E : Type 0} → (W → Option (List ℕ)) → Watched W → Watched W
    → Result T E → (List ℕ → Type 0) → Type 0
WritesSome contents old new result X = (text : List ℕ) × X text
    × Writes contents old new result text

-- the text was put behind what was held, and what is not held any more was written
pub record Sends (old new : Option (List ℕ)) (held kept text : List ℕ) : Type 0 where
  pub part : List ℕ
  pub whole : held ++ text ≡ part ++ kept
  pub written : Appends old new part

-- a call put the text behind what was held, or the writer failed, and a beginning of both was
-- written
abbrev pub Puts : {W T E : Type 0} → (W → Option (List ℕ)) → Watched W → Watched W → List ℕ → List ℕ
    → Result T E → List ℕ → Type 0
Puts contents old new held kept result text = MatchResult result
    (λ _. Sends (contents (inner_of old)) (contents (inner_of new)) held kept text
    × (has_failed new ≡ false))
    (λ _. AppendsPart (contents (inner_of old)) (contents (inner_of new)) (held ++ text)
    × (has_failed new ≡ true))

-- so it was with a text for which X holds
abbrev pub PutsSome : {W T E : Type 0} → (W → Option (List ℕ)) → Watched W → Watched W → List ℕ
    → List ℕ → Result T E → (List ℕ → Type 0) → Type 0
PutsSome contents old new held kept result X = (text : List ℕ) × X text
    × Puts contents old new held kept result text
