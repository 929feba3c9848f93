-- What edits of a triangulation make of constraints and of segments that are still to be joined.
-- Lemmas: rests, with_list, unchanged, then_unchanged, unchanged_then,
-- inserted_splits, joined_splits, joined_last, led, last_of_list, without_last.
use Rattle.std.proofs.Common.{◌≡◌, ◌<◌, [], ◌∷◌, ◌++◌, ◌∙◌, ℕ, suc, List, refl, sym, ap, subst}
use Rattle.std.proofs.Common.{subst₂, length, map, take, ◌-◌, inl, inr, arith}
use Rattle.std.specs.Prelude.{Ok, Option, MatchOption, pos, None, Some, slice_get}
use Rattle.std.proofs.lemmas.List.{length-map, length_push, get_or-map}
use Rattle.plane.specs.{Inserts, Plain, Point}
use Rattle.delaunay_legalization.specs.{faces_of, IsKnown, outer_of, points_and_constraints_by}
use Rattle.delaunay_edit.specs.{InsertsVertex, IsWellFormed}
use Rattle.{delaunay_edit.proofs.Walking.placed_apart, delaunay_legalization.specs.State.State}
use Rattle.delaunay_journal.specs.{Journal.JoinsPair, Marking.Marking}
use Rattle.delaunay_journal.specs.Splits.{by_vertex, Frees, LeadsBy, Splits}
use Rattle.delaunay_journal.proofs.SplitSteps.{splits_appended, splits_joined, splits_led}
use Rattle.delaunay_journal.proofs.SplitSteps.{splits_led_alone, splits_none, splits_then}

-- a plain state that stays, with the same segments
pub rests : {V : Type 0} (place : V → Point) (IsMade : V → Type 0) (s : Plain V)
    (before after : List (ℕ × ℕ)) → after ≡ before → Splits IsMade s s before after
rests place IsMade s before after same = subst (Splits IsMade s s before) (sym same)
    (splits_none place IsMade s before)

-- a list that is the same afterwards
pub with_list : {V : Type 0} (IsMade : V → Type 0) (old new : Plain V)
    (before after : List (ℕ × ℕ)) → after ≡ before → Splits IsMade old new before before
    → Splits IsMade old new before after
with_list IsMade old new before after same splits =
    subst (Splits IsMade old new before) (sym same) splits

-- a state that stays after what was done before
pub then_unchanged : {V : Type 0} (IsMade : V → Type 0) (old mid new : Plain V)
    (before after : List (ℕ × ℕ)) → new ≡ mid → after ≡ before → Splits IsMade old mid before before
    → Splits IsMade old new before after
then_unchanged IsMade old mid new before after same list splits =
    subst₂ (λ s (xs : List (ℕ × ℕ)). Splits IsMade old s before xs) (sym same) (sym list) splits

-- or before what is done then
pub unchanged_then : {V : Type 0} (IsMade : V → Type 0) (old mid new : Plain V)
    (before after : List (ℕ × ℕ)) → mid ≡ old → Splits IsMade mid new before after
    → Splits IsMade old new before after
unchanged_then IsMade old mid new before after same splits =
    subst (λ s. Splits IsMade s new before after) same splits

-- a segment, the last, that goes by a vertex, with a constraint that was released, if one was
pub led : {V : Type 0} (place : V → Point) (IsMade : V → Type 0) (old mid new : Plain V) (v : ℕ)
    (released : Option (ℕ × ℕ)) (rest before kept after : List (ℕ × ℕ)) (s : ℕ × ℕ)
    → before ≡ rest ++ s ∷ [] → kept ≡ before → Splits IsMade old mid before before
    → Frees place released mid new → LeadsBy v released kept after
    → Splits IsMade old new before after
led place IsMade old mid new v released rest before kept after s last same first frees leads =
    splits_then place IsMade first (subst₂ (Splits IsMade mid new) (sym last)
    (sym (leads rest s (same ∙ last))) (go released frees))
  where
    go : (r : Option (ℕ × ℕ)) → Frees place r mid new
        → Splits IsMade mid new (rest ++ s ∷ []) (rest ++ by_vertex v r s)
    go None f = splits_led_alone place IsMade mid new v rest s f
    go (Some c) f = splits_led place IsMade mid new v rest s c f

module _ {V D U F : Type 0} (place : V → Point) (constraints : List U → List ℕ)
    (IsMade : V → Type 0) where
  abbrev plain_of : State V D U F → Plain V
  plain_of s = points_and_constraints_by constraints s

  -- a state that stays
  pub unchanged : (old new : State V D U F) (segments : List (ℕ × ℕ)) → new ≡ old
      → Splits IsMade (plain_of old) (plain_of new) segments segments
  unchanged old new segments same =
      subst (λ (s : State V D U F). Splits IsMade (plain_of old) (plain_of s) segments segments)
      (sym same) (splits_none place IsMade (plain_of old) segments)

  -- a value that no vertex had the position of
  pub inserted_splits : (old new : State V D U F) (v : V) (i : ℕ)
      → ¬ IsKnown (map place old.vertices) (place v)
      → InsertsVertex place constraints v (Ok i) old new → IsMade v → (segments : List (ℕ × ℕ))
      → Splits IsMade (plain_of old) (plain_of new) segments segments
  inserted_splits old new v i apart inserts made segments = go inserts.ok
    where
      go : Inserts place (plain_of old) (plain_of new) v i
          → Splits IsMade (plain_of old) (plain_of new) segments segments
      go (inl there) = absurd (apart (record {
        index = i;
        below = subst (λ n. i < n) (sym (length-map old.vertices place)) there.here;
        here = get_or-map place old.vertices i v (record { x = pos 0; y = pos 0 }) there.here
            ∙ there.same;
      }))
      go (inr more) =
          splits_appended place IsMade (plain_of old) (plain_of new) v more.1 segments made

  -- a segment, the last, that became constraints
  pub joined_splits : (marking : Marking U) (old new : State V D U F) (i j : ℕ) {m : _}
      → IsWellFormed place constraints old → JoinsPair place constraints marking i j m old new
      → (rest : List (ℕ × ℕ))
      → Splits IsMade (plain_of old) (plain_of new) (rest ++ (i, j) ∷ []) rest
  joined_splits marking old new i j formed joins rest =
      splits_joined place IsMade (plain_of old) (plain_of new)
      (placed_apart (map place old.vertices) (faces_of old.mesh) (outer_of old.mesh)
      formed.kept.shape) rest (i, j) joins.plain

  -- a segment, the last, that became constraints, and left the list
  pub joined_last : (marking : Marking U) (old new : State V D U F) (s : ℕ × ℕ) {m : _}
      → IsWellFormed place constraints old
      → JoinsPair place constraints marking s.0 s.1 m old new → (rest before after : List (ℕ × ℕ))
      → before ≡ rest ++ s ∷ [] → after ≡ rest
      → Splits IsMade (plain_of old) (plain_of new) before after
  joined_last marking old new s formed joins rest before after last same =
      subst₂ (Splits IsMade (plain_of old) (plain_of new)) (sym last) (sym same)
      (joined_splits marking old new s.0 s.1 formed joins rest)

-- ---- lists
one_less : (n : ℕ) → suc n - 1 ≡ n
one_less n = omega arith

-- a list has a last entry, with the others before it, or no entry
pub last_of_list : (xs : List (ℕ × ℕ)) (r : Option (ℕ × ℕ)) → r ≡ slice_get xs (length xs - 1)
    → MatchOption r (xs ≡ []) (λ s. (rest : List (ℕ × ℕ)) × (xs ≡ rest ++ s ∷ []))
last_of_list xs r is = subst
    (λ (o : Option (ℕ × ℕ)).
    MatchOption o (xs ≡ []) (λ s. (rest : List (ℕ × ℕ)) × (xs ≡ rest ++ s ∷ []))) (sym is) (go xs)
  where
    end : (x : ℕ × ℕ) (ys : List (ℕ × ℕ)) → (s : ℕ × ℕ) × (slice_get (x ∷ ys) (length ys) ≡ Some s)
        × ((rest : List (ℕ × ℕ)) × (x ∷ ys ≡ rest ++ s ∷ []))
    end x [] = (x, refl, ([], refl))
    end x (y ∷ ys) = let h = end y ys in
        (h.0, h.1, (x ∷ h.2.0, ap (λ (zs : List (ℕ × ℕ)). x ∷ zs) h.2.1))

    go : (ys : List (ℕ × ℕ)) → MatchOption (slice_get ys (length ys - 1)) (ys ≡ [])
        (λ s. (rest : List (ℕ × ℕ)) × (ys ≡ rest ++ s ∷ []))
    go [] = refl
    go (y ∷ ys) = let h = end y ys in subst
        (λ (o : Option (ℕ × ℕ)). MatchOption o (y ∷ ys ≡ [])
        (λ s. (rest : List (ℕ × ℕ)) × (y ∷ ys ≡ rest ++ s ∷ [])))
        (sym (ap (slice_get (y ∷ ys)) (one_less (length ys)) ∙ h.1)) h.2

-- without its last entry
pub without_last : (n : ℕ) (xs rest : List (ℕ × ℕ)) (s : ℕ × ℕ) → n ≡ length xs
    → xs ≡ rest ++ s ∷ [] → take (n - 1) xs ≡ rest
without_last n xs rest s count is = ap (λ (k : ℕ). take (k - 1) xs) count
    ∙ subst (λ (ys : List (ℕ × ℕ)). take (length ys - 1) ys ≡ rest) (sym is)
    (ap (λ (n : ℕ). take n (rest ++ s ∷ [])) (length_push_less rest s) ∙ front rest)
  where
    length_push_less : (ys : List (ℕ × ℕ)) (x : ℕ × ℕ) → length (ys ++ x ∷ []) - 1 ≡ length ys
    length_push_less ys x = let longer = length_push ys x in omega (arith, longer)

    front : (ys : List (ℕ × ℕ)) → take (length ys) (ys ++ s ∷ []) ≡ ys
    front [] = refl
    front (y ∷ ys) = ap (λ (zs : List (ℕ × ℕ)). y ∷ zs) (front ys)
