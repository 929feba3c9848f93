-- The vertices that insertions of a list of points gave, by the indexes of their points.
-- Notions: IsAmong; step_from, came_from, one_vertex, has_point, handle_below, handles_below,
-- named_by_firsts, placed_below, placed_names.
use Rattle.std.proofs.Common.{◌≡◌, ◌⊎◌, ◌<◌, ◌≤◌, [], ◌∷◌, ◌∙◌}
use Rattle.std.proofs.Common.{ℕ, suc, List, length, map, get_or, Some}
use Rattle.std.proofs.Common.{refl, sym, ap, subst, inl, inr, arith}
use Rattle.std.specs.Prelude.{ℤ, pos, All, AllPairs, slice_get, slice_index, slice_index_or}
use Rattle.std.proofs.lemmas.Bool.{cases_eq}
use Rattle.std.proofs.lemmas.List.{length-map, length-set, length_push, map-set}
use Rattle.std.proofs.lemmas.List.{get_or-map, get_or_append_left, get_or_push, set-get_or}
use Rattle.std.proofs.lemmas.Option.{slice_get-get_or, slice_get_within, get_or_from_slice_get}
use Rattle.std.proofs.Math.ListN.{set}
use Rattle.plane.specs.{DifferInPosition, insert, Inserts, Plain, Point, points_of, Replaces, Run}
use Rattle.{delaunay_core.specs.Point2, delaunay_journal.proofs.Inserted.appended_points}
use Rattle.delaunay_legalization.specs.{IsKnown, point_at, points_and_constraints_by, State.State}
use Rattle.{delaunay_edit.specs.IsWellFormed, plane.proofs.below_or_last, plane.proofs.less_or_more}
use Rattle.delaunay_extensions.specs.{HaveHandles, InsertsAll, IsAt}
use Rattle.drawing_faces.specs.{Names.AreFirsts, Names.NamesVertices, position}

-- ---- where vertices come from
module _ {V : Type 0} (place : V → Point) where
  -- a value that replaces another changes no position
  replaced_points : (old new : Plain V) (v : V) (i : ℕ) → Replaces place old new i v
      → points_of place new ≡ points_of place old
  replaced_points old new v i r =
      ap (map place) r.vertices ∙ map-set place old.vertices i v
      ∙ ap (set (points_of place old) i) (sym r.same ∙ sym (get_or-map place old.vertices i v
      (place v) r.here)) ∙ set-get_or (points_of place old) i (place v)

  -- a vertex after an insertion was there before, or is the one that was inserted
  module _ (old new : Plain V) (v : V) (h k : ℕ) (below : k < length new.vertices) where
    after_replacing : Replaces place old new h v
        → IsKnown (points_of place old) (point_at (points_of place new) k)
    after_replacing r =
        let same : length new.vertices ≡ length old.vertices =
        ap length r.vertices ∙ length-set old.vertices h v in
        record {
          index = k;
          below = omega (arith, below, same, length-map old.vertices place);
          here = ap (λ ps. point_at ps k) (sym (replaced_points old new v h r));
        }

    pub step_from : Inserts place old new v h
        → IsKnown (points_of place old) (point_at (points_of place new) k)
        ⊎ (place v ≡ point_at (points_of place new) k)
    step_from (inl r) = inl (after_replacing r)
    step_from (inr (is, a)) = go (below_or_last (length old.vertices) k many)
      where
        many : k < suc (length old.vertices)
        many = let longer = ap length a.vertices in
            omega (arith, below, longer, length_push old.vertices v)

        go : (k < length old.vertices) ⊎ (k ≡ length old.vertices)
            → IsKnown (points_of place old) (point_at (points_of place new) k)
            ⊎ (place v ≡ point_at (points_of place new) k)
        go (inl less) =
            let within : k < length (points_of place old) =
            omega (arith, less, length-map old.vertices place) in
            inl (record {
              index = k;
              below = within;
              here = sym (ap (λ ps. point_at ps k) (appended_points place old new v a)
                  ∙ get_or_append_left (points_of place old) (place v ∷ [])
                  (record { x = pos 0; y = pos 0 }) k within);
            })
        go (inr last) = inr (sym (ap (λ ps. point_at ps k) (appended_points place old new v a)
            ∙ get_or_push (points_of place old) (place v) (record { x = pos 0; y = pos 0 }) k
            (length-map old.vertices place ∙ sym last)))

  -- one of the values of a list is at a point
  abbrev pub IsAmong : List (ℕ × V) → Point → Type 0
  IsAmong order p = (k : ℕ) × (k < length order)
      × ((d : ℕ × V) → place (slice_index_or order k d).1 ≡ p)

  -- a vertex after a run of insertions was there before, or is one that was inserted
  pub came_from : (order : List (ℕ × V)) (old new : Plain V)
      → Run place (map (λ e. insert e.1) order) old new → (k : ℕ) → k < length new.vertices
      → IsKnown (points_of place old) (point_at (points_of place new) k)
      ⊎ IsAmong order (point_at (points_of place new) k)
  came_from [] old new r k below =
      let same = ap length r.vertices in
      inl (record {
        index = k;
        below = omega (arith, below, same, length-map old.vertices place);
        here = ap (λ vs. point_at (map place vs) k) (sym r.vertices);
      })
  came_from (e ∷ order) old new (middle, (h, inserts), rest) k below =
      go (came_from order middle new rest k below)
    where
      p : Point
      p = point_at (points_of place new) k

      first : (index : ℕ) → point_at (points_of place middle) index ≡ p
          → IsKnown (points_of place old) (point_at (points_of place middle) index)
          ⊎ (place e.1 ≡ point_at (points_of place middle) index)
          → IsKnown (points_of place old) p ⊎ IsAmong (e ∷ order) p
      first index is (inl known) = inl (subst (IsKnown (points_of place old)) is known)
      first index is (inr here) = inr (0, omega arith, λ d. here ∙ is)

      go : IsKnown (points_of place middle) p ⊎ IsAmong order p
          → IsKnown (points_of place old) p ⊎ IsAmong (e ∷ order) p
      go (inl known) =
          let within = known.below in
          first known.index known.here (step_from old middle e.1 h known.index
          (omega (arith, within, length-map middle.vertices place)) inserts)
      go (inr (j, within, at)) = inr (suc j, omega (arith, within), at)

  -- vertices at one position are one
  pub one_vertex : (vs : List V) (d : V) → AllPairs (DifferInPosition place) vs → (i j : ℕ)
      → i < length vs → j < length vs → point_at (map place vs) i ≡ point_at (map place vs) j
      → i ≡ j
  one_vertex vs d distinct i j within_i within_j e = go (cases_eq i j)
    where
      origin : Point
      origin = record { x = pos 0; y = pos 0 }

      same : place (get_or vs i d) ≡ place (get_or vs j d)
      same = sym (get_or-map place vs i d origin within_i) ∙ e
          ∙ get_or-map place vs j d origin within_j

      order : (i < j) ⊎ (j < i) → ⊥
      order (inl less) = distinct i j d less within_j same
      order (inr less) = distinct j i d less within_i (sym same)

      go : (i ≡ j) ⊎ (i ≡ j → ⊥) → i ≡ j
      go (inl is) = is
      go (inr apart) = absurd (order (less_or_more i j apart))

-- ---- the vertices of a list of points
abbrev origin : Point2 ℤ
origin = record { x = pos 0; y = pos 0 }

module _ {D U F : Type 0} (constraints : List U → List ℕ) (points : List (Point2 ℤ))
    (handles : List ℕ) (old new : State (Point2 ℤ) D U F)
    (inserts : InsertsAll position constraints points handles old new)
    (none : old.vertices ≡ []) (distinct : AllPairs (DifferInPosition position) new.vertices)
  where
    -- each vertex is that of a point
    pub has_point : (v : ℕ) → v < length new.vertices
        → (i : ℕ) × (i < length points) × (slice_get handles i ≡ Some v)
    has_point v below = go (came_from position inserts.order
        (points_and_constraints_by constraints old)
        (points_and_constraints_by constraints new) inserts.runs v below)
      where
        p : Point
        p = point_at (map position new.vertices) v

        at_entry : (i : ℕ) (w : Point2 ℤ) → slice_get points i ≡ Some w → position w ≡ p
            → IsAt position handles new.vertices i w
            → (j : ℕ) × (j < length points) × (slice_get handles j ≡ Some v)
        at_entry i w got is at =
            let one = one_vertex position new.vertices origin distinct at.handle v at.below below
            (at.here ∙ is) in
            (i, slice_get_within points i w got, at.given ∙ ap Some one)

        go : IsKnown (map position old.vertices) p ⊎ IsAmong position inserts.order p
            → (i : ℕ) × (i < length points) × (slice_get handles i ≡ Some v)
        go (inl known) =
            let within = known.below in
            let empty = ap (λ vs. length (map position vs)) none in
            absurd (omega (arith, within, empty))
        go (inr (k, within, is)) =
            let e = get_or inserts.order k (0, origin) in
            let got = inserts.listed.there k (0, origin) within in
            at_entry e.0 e.1 got (is (0, origin)) (inserts.handles_are.each e.0 e.1 got)

module _ (points : List (Point2 ℤ)) (handles : List ℕ) (vertices : List (Point2 ℤ))
    (have : HaveHandles position points handles vertices) where
  at_place : (i : ℕ) → i < length points
      → IsAt position handles vertices i (get_or points i origin)
  at_place i within = have.each i (get_or points i origin)
      (slice_get-get_or points i origin within)

  handle_at : (i : ℕ) (within : i < length points)
      → slice_index handles i ≡ (at_place i within).handle
  handle_at i within =
      get_or_from_slice_get handles i (at_place i within).handle 0 (at_place i within).given

  point_here : (i : ℕ) (within : i < length points) → point_at (map position points) i
      ≡ point_at (map position vertices) (slice_index handles i)
  point_here i within =
      get_or-map position points i origin (record { x = pos 0; y = pos 0 }) within
      ∙ sym (at_place i within).here
      ∙ ap (point_at (map position vertices)) (sym (handle_at i within))

  pub handle_below : (i : ℕ) → i < length points → slice_index handles i < length vertices
  handle_below i within =
      subst (λ h. h < length vertices) (sym (handle_at i within)) (at_place i within).below

  -- all handles are of vertices
  pub handles_below : All (λ h. h < length vertices) handles
  handles_below k d within =
      let many = have.size in
      let here : k < length points = omega (arith, within, many) in
      subst (λ h. h < length vertices) (same k d within) (handle_below k here)
    where
      same : (i : ℕ) (e : ℕ) → i < length handles
          → slice_index handles i ≡ slice_index_or handles i e
      same i e w = sym (get_or_from_slice_get handles i (slice_index handles i) e
          (slice_get-get_or handles i 0 w))

  module _ (firsts : List ℕ) (are : AreFirsts (length vertices) handles firsts)
      (has : (v : ℕ) → v < length vertices
      → (i : ℕ) × (i < length points) × (slice_get handles i ≡ Some v)) where
    -- the first index of a vertex
    first_at : (v i : ℕ) → i < length points → slice_index handles i ≡ v
        → (slice_index firsts v ≤ i) × (slice_index handles (slice_index firsts v) ≡ v)
    first_at v i within is =
        let many = have.size in
        subst (λ (x : ℕ). (slice_index firsts x ≤ i)
        × (slice_index handles (slice_index firsts x) ≡ x)) is
        (are.each i (omega (arith, within, many)))

    first_of : (v : ℕ) → v < length vertices → (slice_index firsts v < length points)
        × (slice_index handles (slice_index firsts v) ≡ v)
    first_of v below =
        let r = has v below in
        let within = r.1 in
        let f = first_at v r.0 within (get_or_from_slice_get handles r.0 v 0 r.2) in
        let few = f.0 in (omega (arith, few, within), f.1)

    pub named_by_firsts : NamesVertices points (map position vertices) firsts
    named_by_firsts = record {
      size = are.size ∙ sym (length-map vertices position);
      below = λ v h. (first_of v (inner v h)).0;
      here = λ v h. let f = first_of v (inner v h) in
          point_here (slice_index firsts v) f.0 ∙ ap (point_at (map position vertices)) f.1;
      first = λ i within. (
        slice_index handles i,
        outer (slice_index handles i) (handle_below i within),
        point_here i within,
        (first_at (slice_index handles i) i within refl).0,
      );
    }
      where
        inner : (v : ℕ) → v < length (map position vertices) → v < length vertices
        inner v h = omega (arith, h, length-map vertices position)

        outer : (v : ℕ) → v < length vertices → v < length (map position vertices)
        outer v h = omega (arith, h, length-map vertices position)

-- ---- both together
module _ {D U F : Type 0} (constraints : List U → List ℕ) (points : List (Point2 ℤ))
    (handles : List ℕ) (old new : State (Point2 ℤ) D U F)
    (inserts : InsertsAll position constraints points handles old new) (count : ℕ)
    (many : count ≡ length new.vertices) where
  -- all handles are of that many vertices
  pub placed_below : All (λ h. h < count) handles
  placed_below k d within = subst (λ n. slice_index_or handles k d < n) (sym many)
      (handles_below points handles new.vertices inserts.handles_are k d within)

  -- the vertices that were made of nothing, by their first points
  pub placed_names : old.vertices ≡ [] → IsWellFormed position constraints new
      → (firsts : List ℕ) → AreFirsts count handles firsts
      → NamesVertices points (map position new.vertices) firsts
  placed_names none formed firsts are =
      named_by_firsts points handles new.vertices inserts.handles_are firsts
      (subst (λ n. AreFirsts n handles firsts) many are)
      (has_point constraints points handles old new inserts none formed.plain.distinct)
