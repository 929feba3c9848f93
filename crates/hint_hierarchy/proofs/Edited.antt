-- The positions of a layer's vertices after an insertion or a removal, and in a copy.
-- Lemmas: at_most_with, inserted_at_most, removed_at_most, copied.
use Rattle.std.proofs.Common.{◌≡◌, ◌∙◌, ◌⊎◌, [], ◌∷◌, ◌++◌}
use Rattle.std.proofs.Common.{ℕ, List, map, refl, sym, ap, subst, inl, inr}
use Rattle.std.specs.Prelude.{Contains, Result, Ok, Err, IfOk, OnErr}
use Rattle.std.proofs.lemmas.List.{map-append}
use Rattle.std.proofs.lemmas.List.Elements.{All-contains, All-contains_itself, All-push}
use Rattle.std.proofs.Math.Seq.{map-set_same}
use Rattle.plane.specs.{Inserts, IsAtMost, IsAtMostWith, Plain, Point}
use Rattle.{delaunay_core.specs.InsertionError, hint_hierarchy.proofs.Held.all_from_each}
use Rattle.delaunay_legalization.specs.{points_and_constraints_by, State.State}
use Rattle.delaunay_edit.specs.{InsertsVertex, IsCopy, RemovesVertex}
use Rattle.delaunay_edit.proofs.{Copies.same_image, Removing.sites_left}

module _ {V : Type 0} (place : V → Point) (old new : Plain V) where
  -- after an insertion each position is an old one or the new one
  pub at_most_with : (v : V) (i : ℕ) → Inserts place old new v i → IsAtMostWith
      (Contains (map place old.vertices)) (Contains (map place new.vertices)) (place v)
  at_most_with v i (inl kept) = λ p c. inl (subst (λ (ps : List Point). Contains ps p)
      (ap (map place) kept.vertices ∙ map-set_same place old.vertices i v v (sym kept.same)) c)
  at_most_with v i (inr (last, more)) = λ p c.
      let P : Point → Type 0 = λ x. Contains (map place old.vertices) x ⊎ (x ≡ place v) in
      All-contains P (map place old.vertices ++ place v ∷ []) p
      (All-push P (map place old.vertices) (place v)
      (all_from_each P (map place old.vertices) (λ x h. inl h)) (inr refl))
      (subst (λ (ps : List Point). Contains ps p)
      (ap (map place) more.vertices ∙ map-append place old.vertices (v ∷ [])) c)

-- whether it was refused or not
pub inserted_at_most : {V D U F : Type 0} {place : V → Point} {constraints : List U → List ℕ}
    {old new : State V D U F} {v : V} {r : Result ℕ InsertionError}
    → InsertsVertex place constraints v r old new → IsAtMostWith
    (Contains (map place old.vertices)) (Contains (map place new.vertices)) (place v)
inserted_at_most {V = V} {D = D} {U = U} {F = F} {place = place} {constraints = constraints}
    {old = old} {new = new} {v = v} {r = r} done = go r done.ok done.err
  where
    go : (r : Result ℕ InsertionError) → IfOk r (λ i. Inserts place
        (points_and_constraints_by constraints old) (points_and_constraints_by constraints new) v i)
        → OnErr r (new ≡ old) → IsAtMostWith (Contains (map place old.vertices))
        (Contains (map place new.vertices)) (place v)
    go (Ok i) ok err = at_most_with place (points_and_constraints_by constraints old)
        (points_and_constraints_by constraints new) v i ok
    go (Err e) ok err =
        λ p c. inl (subst (λ (s : State V D U F). Contains (map place s.vertices) p) err c)

-- after a removal, refused or not, each position is an old one
pub removed_at_most : {V D U F E : Type 0} {place : V → Point} {constraints : List U → List ℕ}
    {old new : State V D U F} {v : ℕ} {r : Result V E} → RemovesVertex place constraints v r old new
    → IsAtMost (Contains (map place old.vertices)) (Contains (map place new.vertices))
removed_at_most {place = place} {constraints = constraints} {old = old} {new = new} {v = v}
    {r = Ok value} done = λ p c.
    All-contains (Contains (map place old.vertices)) (map place new.vertices) p
    (sites_left place constraints old new v value done.plain (Contains (map place old.vertices))
    (All-contains_itself (map place old.vertices))) c
removed_at_most {V = V} {D = D} {U = U} {F = F} {place = place} {r = Err e} done =
    λ p c. subst (λ (s : State V D U F). Contains (map place s.vertices) p) done.err c

-- a copy, if it was made, has the same positions
pub copied : {V D U F E Y : Type 0} (RV : V → V → Type 0) (RD : D → D → Type 0) (RU : U → U
    → Type 0) (RF : F → F → Type 0) (place : V → Y) → ((v w : V) → RV v w → place w ≡ place v)
    → (old : State V D U F) (r : Result (State V D U F) E) → IfOk r (IsCopy RV RD RU RF old)
    → IfOk r (λ l. map place l.vertices ≡ map place old.vertices)
copied RV RD RU RF place same old (Ok l) c =
    same_image RV place old.vertices l.vertices (λ k d lt w. same _ w) c.vertices
copied RV RD RU RF place same old (Err e) c = tt
