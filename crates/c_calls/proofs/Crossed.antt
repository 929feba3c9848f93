-- The constraints that are crossed among the items that a segment meets.
-- Lemmas: crossed_more, crossed_skip, crossed_few, conflict_is, conflict_none, conflict_told.
use Rattle.std.proofs.Common.{◌≡◌, ◌≢◌, ◌∙◌, ◌≤◌, ◌+◌, ◌++◌, ℕ, List, [], ◌∷◌, length}
use Rattle.std.proofs.Common.{refl, sym, ap, subst, inl, inr, arith}
use Rattle.std.specs.Prelude.{◌⊎◌, ℤ, Option, None, Some}
use Rattle.plane.specs.{across, along, at_vertex, Item, Point}
use Rattle.delaunay_location.specs.{GivesNext, Intersection, item_in, LineIntersectionIterator}
use Rattle.c_calls.specs.{AreCrossed, IsMeeting, RawMeeting, RawSegment}
use Rattle.c_calls.specs.Conflicts.{IsConflictMet, IsCrossed, PutsConflict}
use Rattle.c_calls.specs.declared.lines.TheConstants.{ACROSS_EDGE, ALONG_EDGE, AT_VERTEX}
use Rattle.c_calls.proofs.Walked.{IsToldOf, walk_goes_on, walk_skips}

-- one more item, which is a constraint that is crossed
pub crossed_more : (constraints : List (ℕ × ℕ)) (m : Item) (s : RawSegment)
    → IsCrossed constraints m s → (items : List Item) (found : List RawSegment)
    → AreCrossed constraints items found → AreCrossed constraints (items ++ m ∷ []) (found ++ s ∷ [])
crossed_more constraints m s is [] found none =
    inr (s, ([], (is, (ap (λ (l : List RawSegment). l ++ s ∷ []) none, refl))))
crossed_more constraints m s is (k ∷ items) found (inl h) =
    inl (h.0, crossed_more constraints m s is items found h.1)
crossed_more constraints m s is (k ∷ items) found (inr h) = inr (
  h.0,
  (
    h.1.0 ++ s ∷ [],
    (
      h.1.1.0,
      (
        ap (λ (l : List RawSegment). l ++ s ∷ []) h.1.1.1.0,
        crossed_more constraints m s is items h.1.0 h.1.1.1.1,
      ),
    ),
  ),
)

-- one more item, which is none
pub crossed_skip : (constraints : List (ℕ × ℕ)) (m : Item)
    → ((s : RawSegment) → ¬ IsCrossed constraints m s) → (items : List Item)
    (found : List RawSegment) → AreCrossed constraints items found
    → AreCrossed constraints (items ++ m ∷ []) found
crossed_skip constraints m other [] found none = inl (other, none)
crossed_skip constraints m other (k ∷ items) found (inl h) =
    inl (h.0, crossed_skip constraints m other items found h.1)
crossed_skip constraints m other (k ∷ items) found (inr h) = inr (
  h.0,
  (
    h.1.0,
    (h.1.1.0, (h.1.1.1.0, crossed_skip constraints m other items h.1.0 h.1.1.1.1)),
  ),
)

-- there are no more of them than items
pub crossed_few : (constraints : List (ℕ × ℕ)) (items : List Item) (found : List RawSegment)
    → AreCrossed constraints items found → length found ≤ length items
crossed_few constraints [] found none =
    let size : length found ≡ length {A = RawSegment} [] = ap length none in omega (arith, size)
crossed_few constraints (k ∷ items) found (inl h) =
    let fewer = crossed_few constraints items found h.1 in omega (arith, fewer)
crossed_few constraints (k ∷ items) found (inr h) =
    let fewer = crossed_few constraints items h.1.0 h.1.1.1.1 in
    let size : length found ≡ length (h.0 ∷ h.1.0) = ap length h.1.1.1.0 in
    omega (arith, fewer, size)

-- what C is told of an item says that it is one
pub conflict_is : (constraints : List (ℕ × ℕ)) (k : Item) (m : RawMeeting) (s : RawSegment)
    → IsMeeting constraints k m → m.kind ≡ ACROSS_EDGE → m.constrained ≢ 0
    → s ≡ record { from = m.from; to = m.to } → IsCrossed constraints k s
conflict_is constraints (at_vertex i) m s met kind marked is =
    let differ : AT_VERTEX ≡ ACROSS_EDGE = sym (ap (λ (n : RawMeeting). n.kind) met) ∙ kind in
    absurd (omega (arith, differ))
conflict_is constraints (across i j) m s met kind marked is = (
  is ∙ (λ t. record { from = met.1 t; to = met.2 t }),
  elim met.3 [
    | inl one ↦ one.1
    | inr zero ↦ absurd (marked zero.0)
  ],
)
conflict_is constraints (along i j) m s met kind marked is =
    let differ : ALONG_EDGE ≡ ACROSS_EDGE = sym met.0 ∙ kind in absurd (omega (arith, differ))

-- or that it is none
pub conflict_none : (constraints : List (ℕ × ℕ)) (k : Item) (m : RawMeeting)
    → IsMeeting constraints k m → (m.kind ≢ ACROSS_EDGE) ⊎ (m.constrained ≡ 0) → (s : RawSegment)
    → ¬ IsCrossed constraints k s
conflict_none constraints (at_vertex i) m met why s h = h
conflict_none constraints (across i j) m met (inl other) s h = other met.0
conflict_none constraints (across i j) m met (inr zero) s h = elim met.3 [
  | inl one ↦ let differ : 1 ≡ 0 = sym one.0 ∙ zero in absurd (omega (arith, differ))
  | inr free ↦ free.1 h.1
]
conflict_none constraints (along i j) m met why s h = h

-- a walk whose constraints are told goes on by one item
module _ {V D U F P S : Type 0} (at : V → Point) (number : S → ℤ) (constraints : List (ℕ × ℕ))
    (start now after : LineIntersectionIterator V D U F P S) (was count : ℕ)
    (old mid new : List RawSegment)
    (told : IsToldOf at number (AreCrossed constraints) start now was old mid)
    (x : Intersection V D U F) (gives : GivesNext at number now (Some x) after)
    (m : RawMeeting) (met : IsMeeting constraints (item_in x) m) where
  pub conflict_told : (found : Option RawSegment) → IsConflictMet m found
      → PutsConflict found was count mid new
      → IsToldOf at number (AreCrossed constraints) start after count old new
  conflict_told None why stays =
      subst (λ (n : ℕ). IsToldOf at number (AreCrossed constraints) start after n old new)
      (sym stays.0)
      (subst (λ (l : List RawSegment). IsToldOf at number (AreCrossed constraints) start after was
      old l) (sym stays.1)
      (walk_skips at number (AreCrossed constraints) start now was old mid told after x gives
      (crossed_skip constraints (item_in x)
      (conflict_none constraints (item_in x) m met why))))
  conflict_told (Some s) is put =
      subst (λ (n : ℕ). IsToldOf at number (AreCrossed constraints) start after n old new)
      (sym put.0)
      (subst (λ (l : List RawSegment). IsToldOf at number (AreCrossed constraints) start after
      (was + 1) old l) (sym put.1)
      (walk_goes_on at number (AreCrossed constraints) start now was old mid told after x gives s
      (crossed_more constraints (item_in x) s
      (conflict_is constraints (item_in x) m s met is.0 is.1.0 is.1.1))))
