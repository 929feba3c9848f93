-- A vertex that is put in and taken out again leaves the plain state as it was.
-- Lemmas: removal_undoes_appending, removal_undoes_insertion.
use Rattle.std.proofs.Common.{◌≡◌, ◌≢◌, ◌⊎◌, ◌-◌, ◌<◌, [], ◌∷◌, ◌++◌, ◌∙◌}
use Rattle.std.proofs.Common.{ℕ, List, length, map, take, set, get_or, refl, sym, ap, subst, subst₂}
use Rattle.std.proofs.Common.{inl, inr, arith}
use Rattle.std.specs.Prelude.{nat_eq, if◌then◌else◌, pos, swap_remove}
use Rattle.std.proofs.lemmas.Bool.Decides.{nat_tests}
use Rattle.std.proofs.lemmas.List.{length-append, length-map, get_or_append_left}
use Rattle.plane.specs.{Appends, AreStraightHalves, Carries, IsPlain, IsPositive, IsSamePair}
use Rattle.plane.specs.{IsSameState, Joins, place, Plain, Point, points_of, Removes, whole}
use Rattle.plane.specs.{WithinSegment}
use Rattle.plane.proofs.{decide_within_segment, Decision, turned_join, turned_mean_of_two}
use Rattle.delaunay_legalization.specs.{edges_of, faces_of, outer_of, points_and_constraints_by}
use Rattle.{delaunay_legalization.proofs.own_edges, delaunay_legalization.specs.State.State}
use Rattle.{delaunay_edit.specs.IsWellFormed, plane_theorems.proofs.no_edges_cross}
use Rattle.delaunay_journal.proofs.Inserted.{appended_point, appended_points}

-- without its last entry, which was put in behind it, a list is as it was
without_last : {X : Type 0} (xs : List X) (x y : X)
    → take (length xs) (set (xs ++ x ∷ []) (length xs) y) ≡ xs
without_last [] x y = refl
without_last (z ∷ xs) x y = ap (λ ys. z ∷ ys) (without_last xs x y)

one_longer : {X : Type 0} (xs : List X) (x : X) → length (xs ++ x ∷ []) - 1 ≡ length xs
one_longer xs x = rw length-append (omega arith)

taken_out : {X : Type 0} (xs : List X) (x d : X) → swap_remove (xs ++ x ∷ []) (length xs) d ≡ xs
taken_out xs x d =
    ap (λ n. take n (set (xs ++ x ∷ []) (length xs) (get_or (xs ++ x ∷ []) n d))) (one_longer xs x)
    ∙ without_last xs x (get_or (xs ++ x ∷ []) (length xs) d)

-- an index below that of the vertex is as it was
same_index : (n last k : ℕ) → k < n → (if nat_eq k n then last else k) ≡ k
same_index n last k h = grind (arith, nat_tests)

-- no index is below itself
not_below_itself : (n k : ℕ) → k < n → k ≢ n
not_below_itself n k h e = omega arith

module _ {V : Type 0} (position : V → Point) (old mid new : Plain V) (v : V)
    (plain : IsPlain position old) (appends : Appends position old mid v)
    (one : (i j k l : ℕ) → Joins old.constraints i j → Carries position old v i j
    → Joins old.constraints k l → Carries position old v k l → IsSamePair i j k l)
    (removes : Removes position mid new (length old.vertices)) where
  -- the last vertex is the one that was put in
  last : length mid.vertices - 1 ≡ length old.vertices
  last = ap (λ vs. length vs - 1) appends.vertices ∙ one_longer old.vertices v

  -- ---- places
  -- there are as many as vertices
  count : length (points_of position old) ≡ length old.vertices
  count = length-map old.vertices position

  -- the places of the others are as they were
  place_kept : (k : ℕ) → k < length old.vertices
      → place (points_of position mid) k ≡ place (points_of position old) k
  place_kept k h = ap (λ ps. place ps k) (appended_points position old mid v appends)
      ∙ ap whole (get_or_append_left (points_of position old) (position v ∷ [])
      (record { x = pos 0; y = pos 0 }) k (subst (λ n. k < n) (sym count) h))

  -- and v is at its own
  place_of_new : place (points_of position mid) (length old.vertices) ≡ whole (position v)
  place_of_new = ap whole (appended_point position old mid v appends)

  -- ---- pairs
  -- a pair of others than v was there before
  joined : (i j : ℕ) → i < length old.vertices → j < length old.vertices
      → Joins mid.constraints i j → Joins old.constraints i j
  joined i j hi hj h = elim ((appends.constraints i j).0 h) [
    | inl k ↦ k.0
    | inr k ↦ absurd (elim k [
      | inl a ↦ not_below_itself (length old.vertices) j hj a.0
      | inr b ↦ not_below_itself (length old.vertices) i hi b.0
    ])
  ]

  -- what is joined to v is an end of a pair that carries it
  half_of : (k : ℕ) → Joins mid.constraints (length old.vertices) k
      → (l : ℕ) × Joins old.constraints k l × Carries position old v k l
  half_of k h = elim ((appends.constraints (length old.vertices) k).0 h) [
    | inl p ↦ absurd (no_pair k p.0)
    | inr p ↦ elim p [ inl a ↦ absurd (no_pair a.1.0 a.1.1) | inr b ↦ b.1 ]
  ]
    where
      no_pair : (l : ℕ) → ¬ Joins old.constraints (length old.vertices) l
      no_pair l p = not_below_itself (length old.vertices) (length old.vertices)
          (plain.pairs (length old.vertices) l p).0 refl

  -- whichever end is named first
  carries_turned : (i j : ℕ) → Carries position old v i j → Carries position old v j i
  carries_turned i j c = turned_mean_of_two IsPositive (place (points_of position old) i)
      (place (points_of position old) j) (whole (position v)) c

  -- a pair that carries v became straight halves
  halves : (i j : ℕ) → Joins old.constraints i j → Carries position old v i j
      → AreStraightHalves position mid (length old.vertices) i j
  halves i j h c = record {
    apart = ends.2;
    first = half i j h c;
    second = half j i (turned_join old.constraints i j h) (carries_turned i j c);
    only = λ k p. let l = half_of k p in end_of k l.0 (one k l.0 i j l.1 l.2 h c);
    within = subst (λ z. WithinSegment (place (points_of position mid) i)
        (place (points_of position mid) j) z) (sym place_of_new) (subst₂ (λ a b. WithinSegment a b
        (whole (position v))) (sym (place_kept i ends.0)) (sym (place_kept j ends.1)) c);
  }
    where
      ends : (i < length old.vertices) × (j < length old.vertices) × (i ≢ j)
      ends = plain.pairs i j h

      half : (a b : ℕ) → Joins old.constraints a b → Carries position old v a b
          → Joins mid.constraints (length old.vertices) a
      half a b p q = (appends.constraints (length old.vertices) a).1 (inr (inr (refl, (b, p, q))))

      end_of : (k l : ℕ) → IsSamePair k l i j → (k ≡ i) ⊎ (k ≡ j)
      end_of k l (inl s) = inl s.0
      end_of k l (inr s) = inr s.0

  -- the ends of straight halves at v are those of a pair
  halves_were_one : (i j : ℕ) → AreStraightHalves position mid (length old.vertices) i j
      → Joins old.constraints i j
  halves_were_one i j h =
      let a = half_of i h.first in
      let b = half_of j h.second in
      elim (one i a.0 j b.0 a.1 a.2 b.1 b.2) [
        | inl s ↦ absurd (h.apart s.0)
        | inr s ↦ subst (λ z. Joins old.constraints i z) s.1 a.1
      ]

  -- ---- the state is as it was
  -- what the removal of v leaves as a pair
  abbrev IsPairNow : ℕ → ℕ → Type 0
  IsPairNow a b = Joins mid.constraints a b
      ⊎ AreStraightHalves position mid (length old.vertices) a b

  -- a pair that is left was there before
  back : (i j : ℕ) → i < length old.vertices → j < length old.vertices → IsPairNow i j
      → Joins old.constraints i j
  back i j hi hj (inl h) = joined i j hi hj h
  back i j hi hj (inr h) = halves_were_one i j h

  -- a pair that was there is left
  there : (i j : ℕ) → Joins old.constraints i j → Decision (Carries position old v i j)
      → IsPairNow i j
  there i j h (inl c) = inr (halves i j h c)
  there i j h (inr n) = inl ((appends.constraints i j).1 (inl (h, n)))

  -- vertices and pairs are as they were
  pub removal_undoes_appending : IsSameState position old new
  removal_undoes_appending = record {
    vertices = removes.vertices v
        ∙ ap (λ vs. swap_remove vs (length old.vertices) v) appends.vertices
        ∙ taken_out old.vertices v v;
    constraints = λ i j. (
      (λ h. let r = (removes.constraints i j).0 h in left i j (subst (λ n. i < n) last r.0)
          (subst (λ n. j < n) last r.1) r.2),
      (λ h. stays i j h (plain.pairs i j h)),
    );
  }
    where
      old_index : ℕ → ℕ
      old_index k = if nat_eq k (length old.vertices) then length mid.vertices - 1 else k

      same : (k : ℕ) → k < length old.vertices → old_index k ≡ k
      same k h = same_index (length old.vertices) (length mid.vertices - 1) k h

      left : (i j : ℕ) → i < length old.vertices → j < length old.vertices
          → IsPairNow (old_index i) (old_index j) → Joins old.constraints i j
      left i j hi hj h = back i j hi hj (subst₂ IsPairNow (same i hi) (same j hj) h)

      stays : (i j : ℕ) → Joins old.constraints i j
          → (i < length old.vertices) × (j < length old.vertices) × (i ≢ j)
          → Joins new.constraints i j
      stays i j h w = (removes.constraints i j).1 (
        subst (λ n. i < n) (sym last) w.0,
        subst (λ n. j < n) (sym last) w.1,
        subst₂ IsPairNow (sym (same i w.0)) (sym (same j w.1)) (there i j h (decide_within_segment
            (place (points_of position old) i) (place (points_of position old) j)
            (whole (position v)))),
      )

-- ---- in a triangulation
module _ {V D U F : Type 0} (position : V → Point) (constraints : List U → List ℕ)
    (s : State V D U F) (formed : IsWellFormed position constraints s) where
  abbrev plain_of : Plain V
  plain_of = points_and_constraints_by constraints s

  -- a value is strictly within one constraint at most
  carried_by_one : (v : V) (i j k l : ℕ) → Joins plain_of.constraints i j
      → Carries position plain_of v i j → Joins plain_of.constraints k l
      → Carries position plain_of v k l → IsSamePair i j k l
  carried_by_one v i j k l p c q d = (no_edges_cross (map position s.vertices) (faces_of s.mesh)
      (outer_of s.mesh) (edges_of s.mesh) formed.kept.shape (own_edges s.mesh formed.kept.valid)).1
      k l i j (formed.headline.delaunay.kept k l q) (formed.headline.delaunay.kept i j p)
      (whole (position v)) d c

  -- so a vertex that is put in and taken out again leaves vertices and constraints as they were
  pub removal_undoes_insertion : (mid new : Plain V) (v : V) → Appends position plain_of mid v
      → Removes position mid new (length s.vertices) → IsSameState position plain_of new
  removal_undoes_insertion mid new v appends removes = removal_undoes_appending position plain_of
      mid new v formed.plain appends (carried_by_one v) removes
