-- Segments that are joined one after another: which are added, and what they join.
-- Lemmas: joining_more, added_in_turn, same_vertices, added_segments.
use Rattle.std.proofs.Common.{◌≡◌, ◌⊎◌, ◌↔◌, ◌+◌, ◌<◌, [], ◌∷◌, ◌++◌, ◌∙◌}
use Rattle.std.proofs.Common.{ℕ, suc, List, length, map, take, get_or, refl, sym, ap, subst}
use Rattle.std.proofs.Common.{inl, inr, arith}
use Rattle.std.specs.Prelude.{Bool, Result, Ok, Err, IfOk, OnOk, All}
use Rattle.std.proofs.lemmas.List.{map_more}
use Rattle.plane.specs.{Adds, AreNeighboursOn, CanAdd, Cross, Joins, place, Point}
use Rattle.delaunay_legalization.specs.{constraints_by, points_and_constraints_by, State.State}
use Rattle.delaunay_journal.specs.{AddConstraint, Added, Edit, Outcome, Refused}
use Rattle.delaunay_journal.specs.{declared.edit.Refusal.TheVariants.Conflict, Journal.Replays}
use Rattle.delaunay_journal.specs.Marking.{Marking}
use Rattle.drawing_faces.specs.{DrawnSegment, ends_of}
use Rattle.drawing_faces.specs.Drawing.{is_added, IsDecided, joining_of}
use Rattle.drawing_faces.specs.Segments.{AddsSegments, AreAdded, AreOnAdded, IsUncrossed}

-- ---- one of two or of three
first_by : {A B C : Type 0} → (A → B) → A ⊎ C → B ⊎ C
first_by f (inl a) = inl (f a)
first_by f (inr c) = inr c

last_two : {A B C : Type 0} → (A ⊎ B) ⊎ C → A ⊎ (B ⊎ C)
last_two (inl (inl a)) = inl a
last_two (inl (inr b)) = inr (inl b)
last_two (inr c) = inr (inr c)

first_two : {A B C : Type 0} → A ⊎ (B ⊎ C) → (A ⊎ B) ⊎ C
first_two (inl a) = inl (inl a)
first_two (inr (inl b)) = inl (inr b)
first_two (inr (inr c)) = inr c

only_first : {A : Type 0} → A ⊎ ⊥ → A
only_first (inl a) = a
only_first (inr e) = absurd e

-- one more edit that joins the ends of a segment
pub joining_more : {V : Type 0} (vertices : List ℕ) (segments : List DrawnSegment) (i : ℕ)
    (d : DrawnSegment) (e : ℕ × ℕ) (before after : List (Edit V)) → i < length segments
    → e ≡ ends_of vertices (get_or segments i d)
    → before ≡ map (joining_of vertices) (take i segments)
    → after ≡ before ++ AddConstraint e.0 e.1 ∷ []
    → after ≡ map (joining_of vertices) (take (i + 1) segments)
joining_more {V} vertices segments i d e before after within ends are more = more
    ∙ ap (λ (xs : List (Edit V)). xs ++ AddConstraint e.0 e.1 ∷ []) are
    ∙ ap (λ (k : ℕ × ℕ). map (joining_of vertices) (take i segments)
    ++ AddConstraint k.0 k.1 ∷ []) ends
    ∙ sym (map_more (joining_of vertices) segments i d within)

module _ {V D U F : Type 0} (position : V → Point) (constraints : List U → List ℕ)
    (marking : Marking U) (vertices : List ℕ) (points : List Point) where
  -- the vertices that constraints join
  abbrev ArePaired : State V D U F → ℕ → ℕ → Type 0
  ArePaired s a b = Joins (constraints_by constraints s) a b

  -- these pairs are those
  abbrev ArePairs : State V D U F → (ℕ → ℕ → Type 0) → Type 0
  ArePairs s IsPair = (a b : ℕ) → ArePaired s a b ↔ IsPair a b

  nothing_joined : (old new : State V D U F) (IsPair : ℕ → ℕ → Type 0) → new ≡ old
      → ArePairs old IsPair → ArePairs new (λ a b. IsPair a b ⊎ ⊥)
  nothing_joined old new IsPair same pairs a b = (
    λ j. inl ((pairs a b).0 (subst (λ (s : State V D U F). ArePaired s a b) same j)),
    λ x. subst (λ (s : State V D U F). ArePaired s a b) (sym same)
        ((pairs a b).1 (only_first x)),
  )

  module _ (old middle : State V D U F) (IsPair : ℕ → ℕ → Type 0) (i j : ℕ)
      (at : points ≡ map position old.vertices) (pairs : ArePairs old IsPair) where
    -- a segment that was joined was crossed by none
    uncrossed : CanAdd position (points_and_constraints_by constraints old) i j
        → IsUncrossed position points IsPair (i, j)
    uncrossed free = subst (λ (ps : List Point). (a b : ℕ) → IsPair a b
        → ¬ Cross (place ps i) (place ps j) (place ps a) (place ps b)) (sym at)
        (λ a b p. free a b ((pairs a b).1 p))

    -- and one that was refused was not
    crossed : (¬ CanAdd position (points_and_constraints_by constraints old) i j)
        → ¬ IsUncrossed position points IsPair (i, j)
    crossed refused free = refused (λ a b p. subst (λ (ps : List Point). (c d : ℕ) → IsPair c d
        → ¬ Cross (place ps i) (place ps j) (place ps c) (place ps d)) at free a b
        ((pairs a b).0 p))

    -- what is joined then
    joined_more : Adds position (points_and_constraints_by constraints old)
        (points_and_constraints_by constraints middle) i j
        → ArePairs middle (λ a b. IsPair a b ⊎ AreNeighboursOn position points i j a b)
    joined_more adds = subst (λ (ps : List Point). (a b : ℕ) → ArePaired middle a b
        ↔ (IsPair a b ⊎ AreNeighboursOn position ps i j a b)) (sym at)
        (λ a b. (
          λ p. first_by (pairs a b).0 ((adds.constraints a b).0 p),
          λ x. (adds.constraints a b).1 (first_by (pairs a b).1 x),
        ))

  -- the segments that were added, and the pairs that they joined
  abbrev Takes : (ℕ → ℕ → Type 0) → List DrawnSegment → List (Outcome V) → State V D U F
      → Type 0
  Takes IsPair ss os new =
      AreAdded position points IsPair (map (ends_of vertices) ss) (map is_added os)
      × ArePairs new (λ a b. IsPair a b
      ⊎ AreOnAdded position points (map (ends_of vertices) ss) (map is_added os) a b)

  -- one segment more, that was added
  one_added : (IsPair : ℕ → ℕ → Type 0) (s : DrawnSegment) (ss : List DrawnSegment) (made : Bool)
      (os : List (Outcome V)) (new : State V D U F)
      → IsUncrossed position points IsPair (ends_of vertices s)
      → Takes (λ a b. IsPair a b
      ⊎ AreNeighboursOn position points (ends_of vertices s).0 (ends_of vertices s).1 a b) ss os new
      → Takes IsPair (s ∷ ss) (Added made ∷ os) new
  one_added IsPair s ss made os new free (each, pairs) = (
    (free, each),
    λ a b. (λ p. last_two ((pairs a b).0 p), λ x. (pairs a b).1 (first_two x)),
  )

  pub added_in_turn : (ss : List DrawnSegment) (os : List (Outcome V)) (old new : State V D U F)
      (IsPair : ℕ → ℕ → Type 0)
      → Replays position constraints marking (map (joining_of vertices) ss) os old new
      → All IsDecided os → points ≡ map position old.vertices → ArePairs old IsPair
      → Takes IsPair ss os new
  added_in_turn [] [] old new IsPair r decided at pairs =
      (tt, nothing_joined old new IsPair r pairs)
  added_in_turn [] (o ∷ os) old new IsPair r decided at pairs = absurd r
  added_in_turn (s ∷ ss) [] old new IsPair r decided at pairs = absurd r
  added_in_turn (s ∷ ss) (Added made ∷ os) old new IsPair (middle, given, rest) decided at pairs =
      let e = ends_of vertices s in
      one_added IsPair s ss made os new
      (uncrossed old middle IsPair e.0 e.1 at pairs given.plain.free)
      (added_in_turn ss os middle new
      (λ a b. IsPair a b ⊎ AreNeighboursOn position points e.0 e.1 a b) rest
      (λ k d h. decided (suc k) d (omega (arith, h)))
      (at ∙ ap (map position) (sym given.plain.vertices))
      (joined_more old middle IsPair e.0 e.1 at pairs given.plain))
  added_in_turn (s ∷ ss) (Refused Conflict ∷ os) old new IsPair (middle, given, rest) decided at
      pairs =
      let e = ends_of vertices s in
      let then = added_in_turn ss os middle new IsPair rest
      (λ k d h. decided (suc k) d (omega (arith, h)))
      (at ∙ ap (λ (s : State V D U F). map position s.vertices) (sym given.1))
      (subst (λ (s : State V D U F). ArePairs s IsPair) (sym given.1) pairs) in
      ((crossed old middle IsPair e.0 e.1 at pairs given.0.1, then.0), then.1)
  added_in_turn (s ∷ ss) (o ∷ os) old new IsPair r decided at pairs =
      absurd (decided 0 o (omega arith))

  -- no vertex goes or comes
  pub same_vertices : (ss : List DrawnSegment) (os : List (Outcome V)) (old new : State V D U F)
      → Replays position constraints marking (map (joining_of vertices) ss) os old new
      → new.vertices ≡ old.vertices
  same_vertices [] [] old new r = ap (λ (s : State V D U F). s.vertices) r
  same_vertices [] (o ∷ os) old new r = absurd r
  same_vertices (s ∷ ss) [] old new r = absurd r
  same_vertices (s ∷ ss) (Refused why ∷ os) old new (middle, given, rest) =
      same_vertices ss os middle new rest ∙ ap (λ (s : State V D U F). s.vertices) given.1
  same_vertices (s ∷ ss) (Added b ∷ os) old new (middle, given, rest) =
      same_vertices ss os middle new rest ∙ ap (λ (s : State V D U F). s.vertices) given.rest
  same_vertices (s ∷ ss) (o ∷ os) old new (middle, given, rest) = absurd given

module _ {V D U F : Type 0} (position : V → Point) (constraints : List U → List ℕ)
    (marking : Marking U) (old new : State V D U F) where
  -- segments that were added, where each outcome tells whether one was added
  pub added_segments : {A E : Type 0} (result : Result A E) (items : A → List Bool)
      (vertices : List ℕ) (ss : List DrawnSegment) (es : List (Edit V)) (os : List (Outcome V))
      → es ≡ map (joining_of vertices) ss → Replays position constraints marking es os old new
      → IfOk result (λ a. items a ≡ map is_added os) → OnOk result (All IsDecided os)
      → IfOk result (λ a. AddsSegments position constraints (map (ends_of vertices) ss) (items a)
      old new)
  added_segments (Err e) items vertices ss es os is replays told decided = tt
  added_segments (Ok a) items vertices ss es os is replays told decided =
      let given : Replays position constraints marking (map (joining_of vertices) ss) os old new =
      subst (λ (xs : List (Edit V)). Replays position constraints marking xs os old new) is replays
      in
      let takes = added_in_turn position constraints marking vertices (map position old.vertices)
      ss os old new (Joins (constraints_by constraints old)) given decided refl
      (λ a b. (λ j. j, λ j. j)) in
      let points = map position old.vertices in
      let segments = map (ends_of vertices) ss in
      record {
        each = subst (AreAdded position points (Joins (constraints_by constraints old)) segments)
            (sym told) takes.0;
        joined = subst (λ (added : List Bool). (a b : ℕ)
            → Joins (constraints_by constraints new) a b
            ↔ (Joins (constraints_by constraints old) a b
            ⊎ AreOnAdded position points segments added a b)) (sym told) takes.1;
        vertices = same_vertices position constraints marking vertices points ss os old new given;
      }
