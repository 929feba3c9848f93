-- One more row, and one more point.
use Rattle.std.proofs.Common.{◌≡◌, ◌∙◌, ℕ, ◌+◌, ◌<◌, ◌≤◌, List, [], ◌∷◌, ◌++◌, length, take, drop, sym, ap, arith, refl}
use Rattle.std.specs.Prelude.{Option, true, slice_index}
use Rattle.std.specs.Char.{is_ascii_whitespace}
use Rattle.std.specs.List.{AllPass, AllZip}
use Rattle.std.specs.Str.{IsTrimAscii}
use Rattle.std.proofs.lemmas.List.{get_or-take, get_or-drop, get_or_default, length-take, length-drop, take-append-drop, append-nil}
use Rattle.decimal_numbers.specs.{Decimal}
use Rattle.mesh_files.specs.{AddsSpot, Drawing, Draws, IsAsWritten, Number, Spot}
use Rattle.mesh_files.specs.Drawn.{filled, heights_of, IsHeightAt, IsSpotAt, Writes}

pub zip_more : {X Y : Type 0} (P : X → Y → Type 0) (xs : List X) (ys : List Y) (x : X) (y : Y)
    → AllZip P xs ys → P x y → AllZip P (xs ++ x ∷ []) (ys ++ y ∷ [])
zip_more P [] [] x y h p = (p, tt)
zip_more P [] (b ∷ ys) x y h p = absurd h
zip_more P (a ∷ xs) [] x y h p = absurd h
zip_more P (a ∷ xs) (b ∷ ys) x y h p = (h.0, zip_more P xs ys x y h.1 p)

-- one more row is one more point
pub draws_more : (rows : List (List (List ℕ))) (row : List (List ℕ)) (x y : ℕ) (z : Option ℕ)
    (spot : Spot) (height : Option Number) (old new : Drawing) → Draws rows x y z old
    → AddsSpot spot height old new → IsSpotAt x y row spot → IsHeightAt z row height
    → Draws (rows ++ row ∷ []) x y z new
draws_more rows row x y z spot height old new h adds at up = record {
  spots_are = rw adds.spots_are
      (zip_more (IsSpotAt x y) rows old.spots.items row spot h.spots_are at);
  heights_are = rw adds.heights_are
      (zip_more (IsHeightAt z) rows (heights_of old) row height h.heights_are up);
}

-- the same points have the same heights
pub heights_same : (old new : Drawing) → new.spots.items ≡ old.spots.items
    → new.heights.items ≡ old.heights.items → heights_of new ≡ heights_of old
heights_same old new spots heights =
    ap (λ (hs : List (Option Number)). filled (length new.spots.items) hs) heights
    ∙ ap (λ (ps : List Spot). filled (length ps) old.heights.items) spots

-- and the same rows
pub draws_same : (rows : List (List (List ℕ))) (x y : ℕ) (z : Option ℕ) (old new : Drawing)
    → Draws rows x y z old → new.spots.items ≡ old.spots.items
    → new.heights.items ≡ old.heights.items → Draws rows x y z new
draws_same rows x y z old new h spots heights = record {
  spots_are = rw spots h.spots_are;
  heights_are = rw (heights_same old new spots heights) h.heights_are;
}

pub draws_none : (x y : ℕ) (z : Option ℕ) (d : Drawing) → d.spots.items ≡ []
    → d.heights.items ≡ [] → Draws [] x y z d
draws_none x y z d spots heights = record {
  spots_are = rw spots tt;
  heights_are = rw (spots, heights) tt;
}

blank_front : (s : List ℕ) (m : ℕ)
    → ((i : ℕ) → i < m → is_ascii_whitespace (slice_index s i) ≡ true)
    → AllPass is_ascii_whitespace (take m s)
blank_front s m h = λ k d lt.
    let below : k < m = omega (arith, length-take m s) in
    let within : k < length s = omega (arith, length-take m s) in
    rw (get_or-take m s k d below, get_or_default s k d 0 within) (h k below)

blank_back : (s : List ℕ) (n : ℕ)
    → ((i : ℕ) → n ≤ i → i < length s → is_ascii_whitespace (slice_index s i) ≡ true)
    → AllPass is_ascii_whitespace (drop n s)
blank_back s n h = λ k d lt.
    let within : n + k < length s = omega (arith, length-drop n s) in
    let above : n ≤ n + k = omega arith in
    rw (get_or-drop n s k d, get_or_default s (n + k) d 0 within) (h (n + k) above within)

-- a text whose trimmed part is a number is that number
pub trimmed_writes : (s w : List ℕ) (d : Decimal) → IsTrimAscii s w → IsAsWritten w d → Writes s d
trimmed_writes s w d t written = record {
  before = take t.0 s;
  word = w;
  behind = drop (length w) (drop t.0 s);
  text_is = sym (take-append-drop t.0 s) ∙ ap (λ (r : List ℕ). take t.0 s ++ r)
      (sym (take-append-drop (length w) (drop t.0 s))
      ∙ ap (λ (r : List ℕ). r ++ drop (length w) (drop t.0 s)) (sym t.1));
  blank_before = blank_front s t.0 t.2;
  blank_behind = blank_back (drop t.0 s) (length w) t.4;
  written = written;
}

-- and so is a text that is the number itself
pub word_writes : (w : List ℕ) (d : Decimal) → IsAsWritten w d → Writes w d
word_writes w d written = record {
  before = [];
  word = w;
  behind = [];
  text_is = sym (append-nil w);
  blank_before = λ k d lt. absurd (omega arith);
  blank_behind = λ k d lt. absurd (omega arith);
  written = written;
}

-- blanks are all that there is of a text of which nothing is left
pub nothing_trimmed : IsTrimAscii [] []
nothing_trimmed = (
  0,
  refl,
  λ i lt. absurd (omega arith),
  λ lt. absurd (omega arith),
  λ i from lt. absurd (omega arith),
  λ lt. absurd (omega arith),
)
