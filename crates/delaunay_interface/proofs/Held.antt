-- The positions that a hint generator holds stay positions of vertices.
-- Lemmas: held_are_sites, was_listed, stay_listed, new_is_listed, others_are_listed,
-- held_overwritten, held_after_insertion, removed_is_site, swapped_is_site, held_after_removal.
use Rattle.std.proofs.Common.{◌≡◌, ◌∙◌, ◌+◌, ◌-◌, ◌<◌, [], ◌∷◌}
use Rattle.std.proofs.Common.{ℕ, List, length, map, get_or, Some, sym, ap, subst, inl, inr, arith}
use mathlib.Core.Logic.{⊎_elim}
use Rattle.std.proofs.lemmas.Bool.{cases_eq}
use Rattle.std.specs.Prelude.{◌≢◌}
use Rattle.std.specs.Prelude.{All, Contains, Option, Ok, slice_get}
use Rattle.std.specs.Prelude.{slice_set, swap_remove}
use Rattle.std.proofs.lemmas.List.{length-map, map-append, get_or-map, get_or_default}
use Rattle.std.proofs.lemmas.List.Elements.{All-contains, Contains-append_left, Contains-push}
use Rattle.std.proofs.lemmas.Option.{get_or_from_slice_get, slice_get_within}
use Rattle.std.proofs.Math.Seq.{map-set_same}
use Rattle.plane.specs.{Inserts, IsAtMost, IsAtMostOf, IsAtMostWith, IsAtMostWithout, Plain, Point}
use Rattle.half_edge_links.proofs.{get_or-swap_remove_same, length-swap_remove, map-swap_remove}
use Rattle.{half_edge_links.proofs.Removing.OpenSound.get_or-swap_remove_other, plane.specs.Removes}
use Rattle.delaunay_legalization.specs.{point_at, points_and_constraints_by, State.State}
use Rattle.delaunay_edit.specs.{InsertsVertex}
use Rattle.delaunay_edit.proofs.{Overwriting.same_places, Removing.sites_left}

-- what is held is a site where each vertex is one
pub held_are_sites : (holds sites : Point → Type 0) (points : List Point) → IsAtMostOf holds points
    → All sites points → IsAtMost sites holds
held_are_sites holds sites points held all = λ p h. All-contains sites points p all (held p h)

-- an element that is not the one at i stays where that one goes and the last takes its place
contains_left : {X : Type 0} (xs : List X) (i : ℕ) (x d : X) → i < length xs → x ≢ get_or xs i d
    → Contains xs x → Contains (swap_remove xs i d) x
contains_left xs i x d within apart c =
    let k = c.0 in
    let below = c.1 in
    let fewer = length-swap_remove xs i d in
    ⊎_elim
    (λ e. absurd (apart (sym c.2 ∙ ap (λ n. get_or xs n x) e ∙ get_or_default xs i x d within)))
    (λ other. ⊎_elim
    (λ last. let early : i + 1 < length xs = omega (arith, last, other, within) in (
      i,
      omega (arith, early, fewer),
      get_or_default (swap_remove xs i d) i x d (omega (arith, early, fewer))
          ∙ get_or-swap_remove_same xs i d early
          ∙ get_or_default xs (length xs - 1) d x (omega (arith, early))
          ∙ ap (λ n. get_or xs n x) (sym last) ∙ c.2,
    ))
    (λ before. let early : k + 1 < length xs = omega (arith, before, below) in (
      k,
      omega (arith, early, fewer),
      get_or_default (swap_remove xs i d) k x d (omega (arith, early, fewer))
          ∙ get_or-swap_remove_other xs i k d early other ∙ get_or_default xs k d x below ∙ c.2,
    ))
    (cases_eq k (length xs - 1)))
    (cases_eq k i)

-- a vertex that is read is at one of the positions
pub was_listed : {V : Type 0} (place : V → Point) (vs : List V) (i : ℕ) (v : V)
    → slice_get vs i ≡ Some v → Contains (map place vs) (place v)
was_listed place vs i v had =
    let within = slice_get_within vs i v had in (
      i,
      omega (arith, within, length-map vs place),
      get_or-map place vs i v (place v) within
          ∙ ap place (get_or_from_slice_get vs i v v had),
    )

module _ {V : Type 0} (place : V → Point) (old new : Plain V) where
  -- each position of a vertex is one after an insertion
  pub stay_listed : (v : V) (i : ℕ) → Inserts place old new v i → (p : Point)
      → Contains (map place old.vertices) p → Contains (map place new.vertices) p
  stay_listed v i (inl kept) p c = subst (λ (ps : List Point). Contains ps p)
      (sym (ap (map place) kept.vertices ∙ map-set_same place old.vertices i v v (sym kept.same))) c
  stay_listed v i (inr (last, more)) p c = subst (λ (ps : List Point). Contains ps p)
      (sym (ap (map place) more.vertices ∙ map-append place old.vertices (v ∷ [])))
      (Contains-append_left (map place old.vertices) (place v ∷ []) p c)

  -- and so is that of the vertex
  pub new_is_listed : (v : V) (i : ℕ) → Inserts place old new v i
      → Contains (map place new.vertices) (place v)
  new_is_listed v i (inl kept) =
      let here = kept.here in
      subst (λ (ps : List Point). Contains ps (place v))
      (sym (ap (map place) kept.vertices ∙ map-set_same place old.vertices i v v (sym kept.same))) (
        i,
        omega (arith, here, length-map old.vertices place),
        get_or-map place old.vertices i v (place v) here
            ∙ kept.same,
      )
  new_is_listed v i (inr (last, more)) = subst (λ (ps : List Point). Contains ps (place v))
      (sym (ap (map place) more.vertices ∙ map-append place old.vertices (v ∷ [])))
      (Contains-push (map place old.vertices) (place v))

  -- after a removal each other position is one
  pub others_are_listed : (v : ℕ) (value : V) → slice_get old.vertices v ≡ Some value
      → Removes place old new v → (p : Point) → p ≢ place value
      → Contains (map place old.vertices) p → Contains (map place new.vertices) p
  others_are_listed v value had removes p apart c =
      let within = removes.here in
      let at = get_or-map place old.vertices v value (place value) within
      ∙ ap place (get_or_from_slice_get old.vertices v value value had) in
      subst (λ (ps : List Point). Contains ps p) (sym
      (ap (map place) (removes.vertices value) ∙ map-swap_remove place old.vertices v value))
      (contains_left (map place old.vertices) v p (place value)
      (omega (arith, within, length-map old.vertices place))
      (λ e. apart (e ∙ at)) c)

-- what is held stays so where a vertex is written over one of its position
pub held_overwritten : {V D U F : Type 0} (place : V → Point) (holds : Point → Type 0)
    (old new : State V D U F) (i : ℕ) (v : V) → point_at (map place old.vertices) i ≡ place v
    → new ≡ record old { vertices = slice_set old.vertices i v }
    → IsAtMostOf holds (map place old.vertices) → IsAtMostOf holds (map place new.vertices)
held_overwritten place holds old new i v same is held =
    subst (λ (ps : List Point). IsAtMostOf holds ps) (sym (ap (λ s. map place s.vertices) is
    ∙ same_places place old.vertices i v same)) held

-- and the position of a vertex that is appended may be held, too
pub held_after_insertion : {V D U F : Type 0} (place : V → Point) (constraints : List U → List ℕ)
    (old new : State V D U F) (value : V) (i : ℕ)
    → InsertsVertex place constraints value (Ok i) old new → (held held' : Point → Type 0)
    → IsAtMostOf held (map place old.vertices) → IsAtMostWith held held' (place value)
    → IsAtMostOf held' (map place new.vertices)
held_after_insertion place constraints old new value i done held held' before told =
    let old_plain = points_and_constraints_by constraints old in
    let new_plain = points_and_constraints_by constraints new in
    λ p h. ⊎_elim
    (λ was. stay_listed place old_plain new_plain value i done.ok p (before p was))
    (λ e. subst (λ q. Contains (map place new.vertices) q) (sym e)
    (new_is_listed place old_plain new_plain value i done.ok))
    (told p h)

-- where all positions were sites, so is that of a vertex that went
pub removed_is_site : {V : Type 0} (place : V → Point) (vs : List V) (v : ℕ) (value : V)
    (sites : Point → Type 0) → slice_get vs v ≡ Some value → All sites (map place vs)
    → sites (place value)
removed_is_site place vs v value sites had all =
    All-contains sites (map place vs) (place value) all (was_listed place vs v value had)

-- of a removal: whose position took the handle is one of a vertex
module _ {V D U F : Type 0} (place : V → Point) (constraints : List U → List ℕ)
    (old new : State V D U F) (v : ℕ) (value : V) (removes : Removes place
    (points_and_constraints_by constraints old) (points_and_constraints_by constraints new) v)
    (swapped : Option Point)
    (there : (p : Point) → swapped ≡ Some p → Contains (map place new.vertices) p) where
  -- so it is a site where all positions were sites
  pub swapped_is_site : (sites : Point → Type 0) → All sites (map place old.vertices)
      → (p : Point) → swapped ≡ Some p → sites p
  swapped_is_site sites all = λ p is. All-contains sites (map place new.vertices) p
      (sites_left place constraints old new v value removes sites all) (there p is)

  -- and what a generator holds that is told of the removal stays positions of vertices
  pub held_after_removal : slice_get old.vertices v ≡ Some value → (held held' : Point → Type 0)
      → IsAtMostOf held (map place old.vertices)
      → IsAtMostWithout held held' (place value) swapped
      → IsAtMostOf held' (map place new.vertices)
  held_after_removal had held held' before told = λ p h.
      ⊎_elim (λ old_one. others_are_listed place (points_and_constraints_by constraints old)
      (points_and_constraints_by constraints new) v value had removes p (told p h).1
      (before p old_one))
      (λ e. there p e) (told p h).0
