-- Which refusal of a list comes where.
-- Lemmas: grows_by_one, few_by_reserve, refused_outside, refused_for_room, refused_for_nothing,
-- refused_for_memory, not_refused, why_later.
use Rattle.std.proofs.Common.{◌≡◌, ◌+◌, ◌*◌, ◌<◌, ◌≤◌, ◌∙◌}
use Rattle.std.proofs.Common.{ℕ, List, length, Result, Ok, Err, take, inl, inr, refl, sym, ap}
use Rattle.std.proofs.Common.{subst, arith}
use Rattle.std.specs.Prelude.{◌↔◌, All, IsErrOf, slice_get}
use Rattle.std.proofs.lemmas.Bool.{cases_lt}
use Rattle.std.proofs.lemmas.List.{get_or-take, length-set, length-take-le, length_push}
use Rattle.std.proofs.lemmas.Option.{get_or_from_slice_get, slice_get_within}
use Rattle.plane.specs.{InRange, Inserts, Plain, Point}
use Rattle.delaunay_core.specs.{InsertionError, OutOfIndexes, OutOfMemory, TooLarge}
use Rattle.{delaunay_legalization.specs.State.State, half_edge_links.specs.MAX_ELEMENTS}
use Rattle.{delaunay_edit.specs.InsertsVertex, delaunay_extensions.specs.Vertex}
use Rattle.delaunay_extensions.specs.{BulkInsertionError, IsFirstOutside, NoRoom, RefusesWhere}

-- an insertion makes at most one vertex more
pub grows_by_one : {V : Type 0} (place : V → Point) (old new : Plain V) (v : V) (h : ℕ)
    → Inserts place old new v h → length new.vertices ≤ length old.vertices + 1
grows_by_one place old new v h (inl kept) =
    omega (arith, ap length kept.vertices, length-set old.vertices h v)
grows_by_one place old new v h (inr (last, more)) =
    omega (arith, ap length more.vertices, length_push old.vertices v)

-- a reservation that was made says that there are indexes for so many more
pub few_by_reserve : {R : Type 0} (result : Result R InsertionError) (r : R)
    (count more size : ℕ) → result ≡ Ok r
    → (IsErrOf result OutOfIndexes ↔ (MAX_ELEMENTS < 6 * (count + more))) → more ≡ size
    → MAX_ELEMENTS < 6 * (count + size) → ⊥
few_by_reserve {R} result r count more size is full same many =
    let passes : MAX_ELEMENTS < 6 * (count + more) = omega (arith, many, same) in
    let errors : Ok r ≡ Err OutOfIndexes = sym is ∙ full.1 passes in cc

module _ {V : Type 0} (place : V → Point) (list : List V) where
  -- a vertex that is out of range is not before the first one
  not_before : (i j : ℕ) → i < j → IsFirstOutside place list i → IsFirstOutside place list j → ⊥
  not_before i j less a b =
      let within = slice_get_within list j b.vertex b.there in
      let here : slice_get list i ≡ slice_get list i = refl in
      let short : i < length (take j list) =
      omega (arith, less, length-take-le j list (omega (arith, within))) in
      a.outside (subst (λ (v : V). InRange (place v))
      (get_or-take j list i a.vertex less
      ∙ get_or_from_slice_get list i a.vertex a.vertex a.there)
      (b.first i a.vertex short))

  -- so it is one
  first_is_one : (i j : ℕ) → IsFirstOutside place list i → IsFirstOutside place list j → i ≡ j
  first_is_one i j a b = elim (cases_lt i j) [
    | inl less ↦ absurd (not_before i j less a b)
    | inr le ↦ elim (cases_lt j i) [
      | inl less ↦ absurd (not_before j i less b a)
      | inr ge ↦ omega (arith, le, ge)
    ]
  ]

  -- and none is where all are in range
  none_outside : All (λ v. InRange (place v)) list → (i : ℕ) → IsFirstOutside place list i → ⊥
  none_outside all i a = a.outside (subst (λ (v : V). InRange (place v))
      (get_or_from_slice_get list i a.vertex a.vertex a.there)
      (all i a.vertex (slice_get_within list i a.vertex a.there)))

  module _ {R : Type 0} (count : ℕ) (result : Result R BulkInsertionError) where
    -- the list has a vertex out of range
    pub refused_outside : (i : ℕ) → IsFirstOutside place list i
        → result ≡ Err (Vertex i TooLarge) → RefusesWhere place list count result
    refused_outside i first is = record {
      too_large = λ j. (
        λ e. let errors = sym is ∙ e in
            let places : i ≡ j = cc in subst (IsFirstOutside place list) places first,
        λ other. is ∙ ap (λ (k : ℕ). Err (Vertex k TooLarge)) (first_is_one i j first other),
      );
      full = (
        λ e. let errors = sym is ∙ e in absurd (cc),
        λ h. absurd (none_outside h.0 i first),
      );
    }

    -- it has none, and there is no room
    pub refused_for_room : (why : InsertionError) → All (λ v. InRange (place v)) list
        → result ≡ Err (NoRoom why)
        → ((why ≡ OutOfIndexes → MAX_ELEMENTS < 6 * (count + length list))
        × (MAX_ELEMENTS < 6 * (count + length list) → why ≡ OutOfIndexes))
        → RefusesWhere place list count result
    refused_for_room why all is full = record {
      too_large = λ j. (
        λ e. let errors = sym is ∙ e in
            absurd (cc),
        λ first. absurd (none_outside all j first),
      );
      full = (
        λ e. let errors = sym is ∙ e in
            let same : why ≡ OutOfIndexes = cc in (all, full.0 same),
        λ h. is ∙ ap (λ (w : InsertionError). Err (NoRoom w)) (full.1 h.1),
      );
    }

    -- it has none, and there are indexes: the answer is another
    pub refused_for_nothing : All (λ v. InRange (place v)) list
        → (MAX_ELEMENTS < 6 * (count + length list) → ⊥)
        → ((j : ℕ) → result ≡ Err (Vertex j TooLarge) → ⊥)
        → (result ≡ Err (NoRoom OutOfIndexes) → ⊥) → RefusesWhere place list count result
    refused_for_nothing all few no_vertex no_room = record {
      too_large = λ j. (
        λ e. absurd (no_vertex j e),
        λ first. absurd (none_outside all j first),
      );
      full = (λ e. absurd (no_room e), λ h. absurd (few h.1));
    }

    -- it has none, and there are indexes, but memory was refused
    pub refused_for_memory : All (λ v. InRange (place v)) list
        → (MAX_ELEMENTS < 6 * (count + length list) → ⊥)
        → result ≡ Err (NoRoom OutOfMemory) → RefusesWhere place list count result
    refused_for_memory all few is = refused_for_nothing all few
        (λ j e. let errors = sym is ∙ e in absurd (cc))
        (λ e. let errors = sym is ∙ e in absurd (cc))

    -- it has none, and all was inserted
    pub not_refused : (r : R) → All (λ v. InRange (place v)) list
        → (MAX_ELEMENTS < 6 * (count + length list) → ⊥)
        → result ≡ Ok r → RefusesWhere place list count result
    not_refused r all few is = refused_for_nothing all few
        (λ j e. let errors = sym is ∙ e in absurd (cc))
        (λ e. let errors = sym is ∙ e in absurd (cc))

-- a vertex in range is refused for memory, where the mesh has an index more
pub why_later : {V D U F : Type 0} (place : V → Point) (constraints : List U → List ℕ) (v : V)
    (why : InsertionError) (old new : State V D U F)
    → InsertsVertex place constraints v (Err why) old new → InRange (place v)
    → (MAX_ELEMENTS < 6 * (length old.vertices + 1) → ⊥) → why ≡ OutOfMemory
why_later place constraints v TooLarge old new done inside few =
    absurd (done.too_large.0 refl inside)
why_later place constraints v OutOfIndexes old new done inside few =
    absurd (few (done.full.0 refl).2)
why_later place constraints v OutOfMemory old new done inside few = refl
