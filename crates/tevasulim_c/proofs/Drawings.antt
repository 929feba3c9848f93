-- What one call makes of points and segments, put together from its steps.
-- Lemmas: answered_within, one_more_named, unlisted_named, listed_within, listed_named,
-- whole_is_drawn, first_of_fewer, memory_alone.
use Rattle.std.proofs.Common.{◌≡◌, ◌≢◌, ◌<◌, ◌≤◌, ◌+◌, ◌∙◌, [], ◌∷◌, ℕ, zero, suc, List, length}
use Rattle.std.proofs.Common.{drop, map, set, take, refl, sym, ap, subst, arith}
use Rattle.std.specs.Prelude.{◌*◌, ℤ, All, IsSomeAnd, None, Option, Some, slice_get}
use Rattle.std.proofs.lemmas.List.{get_or-take, length-map, length-take-le}
use Rattle.std.proofs.lemmas.List.Elements.{All-contains, All-get_or, All-map, All-nil}
use Rattle.std.proofs.lemmas.Option.{get_or_from_slice_get, slice_get-get_or, slice_get_within}
use Rattle.{delaunay_core.specs.Point2, plane.specs.InRange}
use Rattle.{delaunay_edit.specs.constraints_of, half_edge_links.specs.MAX_ELEMENTS}
use Rattle.drawing_faces.specs.{DrawingError, DrawnSegment, memory_refused, position}
use Rattle.drawing_faces.specs.{Refusals.EndsAtPoints as HasEndsIn, RefusesDrawing, RefusesPoints}
use Rattle.drawing_faces.specs.Drawing.{hole_refused, points_refused, segment_of_none, side_of_none}
use Rattle.c_calls.specs.{Answered, IsFaceEntry, IsRawInRange, listed, RawFace, RawPoint}
use Rattle.c_calls.specs.{RawSegment, WELL, Written.too_long}
use Rattle.c_calls.specs.{declared.statuses.TheConstants.TOO_SHORT, Queries.ListsRawFaces}
use Rattle.{c_calls.proofs.Writing.one_more, drawing_faces.specs.declared.drawn.DrawnMesh.DrawnMesh}
use Rattle.tevasulim_c.specs.{EndsAtPoints, FirstAre, IsNamedOf, Whole.MayDraw, Whole.named_face}
use Rattle.tevasulim_c.specs.Whole.{AllTaken, drawing_of, drawn_point, drawn_segment, DrawsFaces}
use Rattle.tevasulim_c.specs.Whole.{DrawsFirst, faces_drawn, IsNamedFaceAt, ListsNamedFaces}
use Rattle.drawing_faces.specs.declared.error.DrawingError.TheVariants as error

-- ---- what an option has
some_is : {A : Type 0} (P : A → Type 0) (o : Option A) → IsSomeAnd o P
    → (a : A) × (o ≡ Some a) × P a
some_is P None has = absurd has
some_is P (Some a) has = (a, refl, has)

-- so many places that have answers are there
pub answered_within : {A : Type 0} (IsAnswer : ℕ → A → Type 0) (count : ℕ) (old new : List A)
    → Answered IsAnswer count old new → count ≤ length new
answered_within IsAnswer zero old new answered = omega arith
answered_within IsAnswer (suc n) old new answered =
    let last = some_is (IsAnswer n) (slice_get new n) (answered.answers n (omega arith)) in
    let within = slice_get_within new n last.0 last.1 in
    omega (arith, within)

-- ---- faces whose corners get names
-- what is left of a list begins with its next element
next_read : {A : Type 0} (xs : List A) (i : ℕ) → slice_get (drop i xs) 0 ≡ slice_get xs i
next_read [] zero = refl
next_read [] (suc i) = refl
next_read (x ∷ xs) zero = refl
next_read (x ∷ xs) (suc i) = next_read xs i

-- one more gets them
pub one_more_named : (names : List ℕ) (i : ℕ) (old now : List RawFace) (g : RawFace)
    → i < length now → Answered (IsNamedOf names old) i old now → slice_get now i ≡ Some g
    → Answered (IsNamedOf names old) (i + 1) old (set now i (named_face names g))
one_more_named names i old now g within so_far read =
    one_more (IsNamedOf names old) i old now (named_face names g) within so_far
    (subst (λ (o : Option RawFace). IsSomeAnd o (λ h. named_face names g ≡ named_face names h))
    (sym same) refl)
  where
    same : slice_get old i ≡ Some g
    same = sym (next_read old i)
        ∙ ap (λ (fs : List RawFace). slice_get fs 0) (sym so_far.others) ∙ next_read now i ∙ read

-- all have them, of the faces that were listed
all_named : (m : DrawnMesh) (count : ℕ) (before mid after : List RawFace)
    → Answered (IsFaceEntry (drawing_of m) (constraints_of m.triangulation)) count before mid
    → Answered (IsNamedOf m.vertices.items mid) count mid after
    → Answered (IsNamedFaceAt m) count before after
all_named m count before mid after faces named = record {
  answers = λ k less.
      let was = some_is _ (slice_get mid k) (faces.answers k less) in
      let is = some_is _ (slice_get after k) (named.answers k less) in
      subst (λ (o : Option RawFace). IsSomeAnd o (IsNamedFaceAt m k)) (sym is.1) (record {
        face = was.0;
        is_face = was.2;
        is_named = subst (λ (o : Option RawFace). IsSomeAnd o
            (λ g. is.0 ≡ named_face m.vertices.items g)) was.1 is.2;
      });
  others = named.others ∙ faces.others;
}

module _ (m : DrawnMesh) (status told : ℕ) (old mid : List RawFace)
    (lists : ListsRawFaces (drawing_of m) (constraints_of m.triangulation) status told old mid)
  where
    -- there was no room
    pub unlisted_named : status ≢ WELL → ListsNamedFaces m status told old mid
    unlisted_named ill = go lists
      where
        go : ListsRawFaces (drawing_of m) (constraints_of m.triangulation) status told old mid
            → ListsNamedFaces m status told old mid
        go (listed is t answers) = absurd (ill is)
        go (too_long is t less same) = too_long is t less same

    module _ (well : status ≡ WELL) where
      -- as many faces are there
      pub listed_within : told ≤ length mid
      listed_within = go lists
        where
          go : ListsRawFaces (drawing_of m) (constraints_of m.triangulation) status told old mid
              → told ≤ length mid
          go (listed is t answers) = subst (λ (n : ℕ). n ≤ length mid) (sym t)
              (answered_within (IsFaceEntry (drawing_of m) (constraints_of m.triangulation)) _ old
              mid answers)
          go (too_long is t less same) =
              let differ : TOO_SHORT ≡ WELL = sym is ∙ well in absurd (omega (arith, differ))

      -- and each has the names of its corners then
      pub listed_named : (new : List RawFace)
          → Answered (IsNamedOf m.vertices.items mid) told mid new
          → ListsNamedFaces m WELL told old new
      listed_named new named = go lists
        where
          go : ListsRawFaces (drawing_of m) (constraints_of m.triangulation) status told old mid
              → ListsNamedFaces m WELL told old new
          go (listed is t answers) = listed refl t (all_named m _ old mid new answers
              (subst (λ (n : ℕ). Answered (IsNamedOf m.vertices.items mid) n mid new) t named))
          go (too_long is t less same) =
              let differ : TOO_SHORT ≡ WELL = sym is ∙ well in absurd (omega (arith, differ))

-- ---- the call
-- the drawing has all segments where none is left behind those that were known
pub whole_is_drawn : (points : List RawPoint) (segments : List RawSegment) (known : ℕ)
    (m : DrawnMesh) (status at was told : ℕ) (old new : List RawFace) → known ≤ length segments
    → length segments ≤ known → DrawsFirst points segments known m → AllTaken m
    → ListsNamedFaces m status told old new
    → DrawsFaces points segments status at was told old new
whole_is_drawn points segments known m status at was told old new within all first added lists =
    let same : known ≡ length segments = omega (arith, within, all) in
    faces_drawn m (subst (λ (n : ℕ). DrawsFirst points segments n m) same first) added lists

-- ---- what may be refused
-- all of a list are so, of which the first so many are
all_first : {A : Type 0} (P : A → Type 0) (xs : List A) → FirstAre P xs (length xs) → All P xs
all_first P xs first = λ k d within. subst (λ (o : Option _). IsSomeAnd o P)
    (slice_get-get_or xs k d within) (first k within)

-- the first so many are all that are added of a list
pub first_of_fewer : {A : Type 0} (P : A → Type 0) (xs : List A) (n : ℕ) → n ≤ length xs
    → FirstAre P xs n → FirstAre P (take n xs) (length (take n xs))
first_of_fewer P xs n within first = λ k below.
    let less : k < n = omega (arith, below, length-take-le n xs within) in
    let had = some_is P (slice_get xs k) (first k less) in
    subst (λ (o : Option _). IsSomeAnd o P) (sym (slice_get-get_or (take n xs) k had.0 below
    ∙ ap Some (get_or-take n xs k had.0 less ∙ get_or_from_slice_get xs k had.0 had.0 had.1)))
    had.2

module _ (points : List RawPoint) (segments : List RawSegment) (may : MayDraw points)
    (ends : FirstAre (EndsAtPoints (length points)) segments (length segments)) where
  in_range : All (λ p. InRange (position p)) (map drawn_point points)
  in_range = All-map (λ p. InRange (position p)) drawn_point points
      (all_first IsRawInRange points may.in_range)

  have_ends : All (HasEndsIn (length (map drawn_point points))) (map drawn_segment segments)
  have_ends = subst (λ (n : ℕ). All (HasEndsIn n) (map drawn_segment segments))
      (sym (length-map points drawn_point))
      (All-map (HasEndsIn (length points)) drawn_segment segments
      (all_first (EndsAtPoints (length points)) segments ends))

  of_points : (why : DrawingError) → RefusesPoints (map drawn_point points) 0 why
      → why ≡ error.OutOfMemory
  of_points error.TooLarge (i, first) = absurd (first.outside
      (subst (λ (p : Point2 ℤ). InRange (position p))
      (get_or_from_slice_get (map drawn_point points) i first.vertex first.vertex first.there)
      (All-get_or (λ p. InRange (position p)) (map drawn_point points) i first.vertex
      (slice_get_within (map drawn_point points) i first.vertex first.there) in_range)))
  of_points error.TooMany (all, many) =
      absurd (may.few (omega (arith, many, length-map points drawn_point)))
  of_points error.OutOfMemory refused = refl
  of_points why refused = absurd refused

  -- memory alone may be, where points are in range and few enough, and segments have ends
  pub memory_alone : (why : DrawingError)
      → RefusesDrawing (map drawn_point points) (map drawn_segment segments) [] [] why
      → why ≡ error.OutOfMemory
  memory_alone why (points_refused refused) = of_points why refused
  memory_alone why (segment_of_none is added lacks) = absurd (lacks have_ends)
  memory_alone why (hole_refused d refuses) = let there = refuses.there in absurd (cc)
  memory_alone why (side_of_none is d in_holes are lacks) =
      absurd (lacks (All-nil (HasEndsIn (length (map drawn_point points)))))
  memory_alone why (memory_refused is) = is
