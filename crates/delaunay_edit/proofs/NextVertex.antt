-- The first vertex of a walk after its start is the next one of the path.
-- Notions: HasNoOther, SeeksNext; vertex_item, two, none_is_left, comes_next, seeking_begins,
-- two_ends, seeking_never_ends, seeking_goes_on, list_on, seeking_finds.
use Rattle.std.proofs.Common.{◌≡◌, ◌≢◌, ◌⊎◌, ◌<◌, [], ◌∷◌, ◌++◌}
use Rattle.std.proofs.Common.{ℕ, List, length, map, Some, None, sym, ap, subst, inl, inr, ◌∙◌}
use Rattle.std.specs.Prelude.{ℤ, Contains}
use Rattle.std.proofs.lemmas.List.Elements.{Contains-append_cases, Contains-append_left}
use Rattle.std.proofs.lemmas.List.Elements.{Contains-append_right, Contains-push_cases}
use Rattle.plane.specs.{across, along, at_vertex, Fraction, IsBefore, IsLineList, IsNearer, IsSame}
use Rattle.plane.specs.{IsVertexThenOverlap, Item, OnSegment, place, Point, Triangulation, whole}
use Rattle.plane.proofs.{end_on_segment, on_of_within, start_on_segment, within_segment_is}
use Rattle.{half_edge_links.specs.Mesh, plane.specs.WithinSegment}
use Rattle.plane_theorems.specs.{AreNextOn, ArePlacedApart, IsMesh}
use Rattle.plane_theorems.proofs.{Contains-head, Contains-none, nearer-same_second, on_parts}
use Rattle.plane_theorems.proofs.{one_point, Segments.Items.Orders.nearer-same_first}
use Rattle.plane_theorems.proofs.Delaunay.Points.AlongSegment.{nearer_if, not_both_nearer}
use Rattle.half_edge_dcel.specs.{Contents, VertexHandle}
use Rattle.delaunay_legalization.specs.{drawn, faces_of, outer_of, point_at, state_of}
use Rattle.delaunay_location.specs.{GivesNext, Intersection, IsReady, item_in}
use Rattle.delaunay_location.specs.{LineIntersectionIterator, VertexIntersection, WalksLine}
use Rattle.delaunay_edit.proofs.Passing.{all_passed, HasPassed, later_ones, list_with, none_passed}
use Rattle.delaunay_edit.proofs.{Passing.one_more_passed, Passing.passed_kept, Places.no_same_place}
use Rattle.delaunay_edit.proofs.Walking.{in_map, nested, not_end, not_start, placed_apart}

-- strictly within a segment is nearer than its end
within_is_nearer : (p q x : Fraction) → ¬ IsSame p q → WithinSegment p q x → IsNearer p x q
within_is_nearer p q x apart w =
    nearer_if p q apart x q (on_of_within p q x w) (end_on_segment p q)
    ((within_segment_is p q x apart).0 w).2

abbrev vertex_of : Item → ℕ
vertex_of (at_vertex v) = v
vertex_of (across a b) = a
vertex_of (along a b) = a

-- the item of a vertex
pub vertex_item : {V D U F : Type 0} {x : Intersection V D U F} {v : VertexHandle V D U F} {w : ℕ}
    → x ≡ VertexIntersection v → w ≡ v.index → item_in x ≡ at_vertex w
vertex_item is same = ap item_in is ∙ ap (λ (k : ℕ). at_vertex k) (sym same)

-- no other vertex than i is among the items
abbrev pub HasNoOther : List Item → ℕ → Type 0
HasNoOther items i = (v : ℕ) → Contains items (at_vertex v) → v ≡ i

-- the empty list of items has no other vertex
no_other_yet : (i : ℕ) → HasNoOther [] i
no_other_yet i v c = absurd (Contains-none (at_vertex v) c)

-- items without another vertex than i get none with an item that is none
still_no_other : (passed : List Item) (k : Item) (i : ℕ) → HasNoOther passed i
    → ((v : ℕ) → k ≡ at_vertex v → v ≡ i) → HasNoOther (passed ++ k ∷ []) i
still_no_other passed k i none this v c = elim (Contains-push_cases passed k (at_vertex v) c) [
  | inl x ↦ none v x
  | inr e ↦ this v e
]

module _ (points : List Point) (m : Mesh) (distinct : ArePlacedApart points) (i j : ℕ)
    (hi : i < length points) (hj : j < length points) (i_not_j : i ≢ j) where
  abbrev t : Triangulation
  t = drawn points m

  different : (a b : ℕ) → a < length points → b < length points → a ≢ b
      → ¬ (point_at points a ≡ point_at points b)
  different a b ha hb n e = distinct a b ha hb n (ap whole e)

  -- the ends of the segment are at two places
  pub two : ¬ IsSame (place points i) (place points j)
  two = no_same_place points distinct i j hi hj i_not_j

  -- ---- no other vertex was passed, and none is left
  -- the line list of the segment has another vertex than i
  pub none_is_left : (items : List Item) → IsLineList t (place points i) (place points j) items
      → HasNoOther items i → ⊥
  none_is_left items list none =
      i_not_j (sym (none j
      (list.complete two (at_vertex j) (hj, end_on_segment (place points i) (place points j)))))

  -- ---- vertex v comes next
  module _ (passed others : List Item) (v : ℕ) (other : v ≢ i) (list : IsLineList t (place points i)
      (place points j) ((passed ++ at_vertex v ∷ []) ++ others)) (none : HasNoOther passed i) (met :
      (v < length points) × OnSegment (place points i) (place points j) (place points v)) where
    -- the start is not v
    away : i ≢ v
    away e = other (sym e)

    -- a vertex strictly between the start and v is on the segment
    on_whole : (k : ℕ) → WithinSegment (place points i) (place points v) (place points k) →
        OnSegment (place points i) (place points j) (place points k)
    on_whole k w = go (on_parts (place points i) (place points j) (place points v) met.1)
      where
        go : IsSame (place points v) (place points i) ⊎ (IsSame (place points v) (place points j)
            ⊎ WithinSegment (place points i) (place points j) (place points v))
            → OnSegment (place points i) (place points j) (place points k)
        go (inl e) = absurd (no_same_place points distinct v i met.0 hi other e)
        go (inr (inl e)) = on_of_within (place points i) (place points j) (place points k)
            (subst (λ (x : Point). WithinSegment (place points i) (whole x) (place points k))
            (one_point (point_at points v) (point_at points j) e) w)
        go (inr (inr h)) = on_of_within (place points i) (place points j) (place points k)
            (nested (point_at points i) (point_at points j) (different i j hi hj i_not_j)
            (point_at points v)
            (point_at points k) h w)

    -- it does not come after v
    not_after : (k : ℕ) → k < length points
        → WithinSegment (place points i) (place points v) (place points k)
        → IsBefore t (place points i) (place points j) (at_vertex v) (at_vertex k) → ⊥
    not_after k hk w o = go o.order
      where
        go : IsNearer (place points i) o.first o.second ⊎
            (IsSame o.first o.second × IsVertexThenOverlap (at_vertex v) (at_vertex k)) → ⊥
        go (inl n) =
            not_both_nearer (place points i) (place points j) two (place points k) (place points v)
            (within_is_nearer (place points i) (place points v) (place points k)
            (no_same_place points distinct i v hi met.0 away) w)
            (nearer-same_first (place points i) (place points j) two o.first (place points v)
            (place points k)
            o.first_begins.shared met.1 (on_whole k w) o.first_begins.of_item
            (nearer-same_second (place points i) (place points j) two o.first o.second
            (place points k)
            o.first_begins.shared o.second_begins.shared (on_whole k w) o.second_begins.of_item n))
        go (inr x) = x.1

    none_between : (k : ℕ) → k < length points
        → ¬ WithinSegment (place points i) (place points v) (place points k)
    none_between k hk w =
        go (Contains-append_cases (passed ++ at_vertex v ∷ []) others (at_vertex k)
        (list.complete two (at_vertex k) (hk, on_whole k w)))
      where
        before : Contains passed (at_vertex k) ⊎ (at_vertex v ≡ at_vertex k) → ⊥
        before (inl c) =
            not_start (point_at points i) (point_at points v) (different i v hi met.0 away)
            (subst (λ (x : ℕ). WithinSegment (place points i) (place points v) (place points x))
            (none k c) w)
        before (inr e) =
            not_end (point_at points i) (point_at points v) (different i v hi met.0 away)
            (subst (λ (x : ℕ). WithinSegment (place points i) (place points v) (place points x))
            (sym (ap vertex_of e))
            w)

        go : Contains (passed ++ at_vertex v ∷ []) (at_vertex k) ⊎ Contains others (at_vertex k) → ⊥
        go (inl c) = before (Contains-push_cases passed (at_vertex v) (at_vertex k) c)
        go (inr c) = not_after k hk w
            (later_ones (IsBefore t (place points i) (place points j)) passed (at_vertex v)
            others (list.ordered two) (at_vertex k) c)

    -- the first other vertex on the line list is next to i on the segment
    pub comes_next : AreNextOn points i j i v
    comes_next = record {
      apart = away;
      first_index = hi;
      second_index = met.0;
      first = start_on_segment (place points i) (place points j);
      second = met.1;
      none_between = none_between;
    }

-- ---- the walk to it
-- these items were passed on the way to another vertex j, and no other vertex than i is one
pub record SeeksNext {V D U F P S : Type 0} (at : V → Point) (number : S → ℤ)
    (IsSite IsCovered : P → Point → Type 0) (c : Contents V D U F) (i j : ℕ) (passed : List Item)
    (now : LineIntersectionIterator V D U F P S) : Type 0 where
  pub shape : IsMesh (map at c.vertices) (faces_of c.mesh) (outer_of c.mesh)
  pub from : i < length c.vertices
  pub to : j < length c.vertices
  pub apart : i ≢ j
  pub so_far : HasPassed at number IsSite IsCovered (state_of c) (point_at (map at c.vertices) i)
      (point_at (map at c.vertices) j) passed now
  pub ready : IsReady at number IsSite IsCovered now
  pub none : HasNoOther passed i

-- at the beginning nothing was passed
pub seeking_begins : {V D U F P S : Type 0} {at : V → Point} {number : S → ℤ}
    {IsSite IsCovered : P → Point → Type 0} {c : Contents V D U F} {i j : ℕ}
    {it : LineIntersectionIterator V D U F P S}
    → i < length c.vertices → j < length c.vertices → i ≢ j
    → IsReady at number IsSite IsCovered it
    → WalksLine at number (state_of c) (point_at (map at c.vertices) i)
    (point_at (map at c.vertices) j) it → SeeksNext at number IsSite IsCovered c i j [] it
seeking_begins {at = at} {number = number} {IsSite = IsSite} {IsCovered = IsCovered} {c = c} {i = i}
    {j = j} {it = it} from to apart ready walks =
    let so_far = none_passed at number IsSite IsCovered (state_of c)
    (point_at (map at c.vertices) i) (point_at (map at c.vertices) j) it ready walks in record {
      shape = (passed_kept so_far).shape;
      from = from;
      to = to;
      apart = apart;
      so_far = so_far;
      ready = ready;
      none = no_other_yet i;
    }

module _ {V D U F P S : Type 0} {at : V → Point} {number : S → ℤ}
    {IsSite IsCovered : P → Point → Type 0} {c : Contents V D U F} {i j : ℕ} {passed : List Item}
    {now : LineIntersectionIterator V D U F P S}
    (seeks : SeeksNext at number IsSite IsCovered c i j passed now) where
  abbrev points : List Point
  points = map at c.vertices

  distinct : ArePlacedApart points
  distinct = placed_apart points (faces_of c.mesh) (outer_of c.mesh) seeks.shape

  from_in : i < length points
  from_in = in_map at c.vertices i seeks.from

  to_in : j < length points
  to_in = in_map at c.vertices j seeks.to

  -- the ends of the segment are at two places
  pub two_ends : ¬ IsSame (place points i) (place points j)
  two_ends = two points c.mesh distinct i j from_in to_in seeks.apart

  -- the items do not end before another vertex
  pub seeking_never_ends : {after : LineIntersectionIterator V D U F P S}
      → GivesNext at number now None after → ⊥
  seeking_never_ends {after = after} gives = none_is_left points c.mesh distinct i j from_in to_in
      seeks.apart passed (all_passed at number IsSite IsCovered (state_of c) (point_at points i)
      (point_at points j) passed now after seeks.so_far gives) seeks.none

  module _ {x : Intersection V D U F} {after : LineIntersectionIterator V D U F P S}
      (gives : GivesNext at number now (Some x) after) where
    -- an item that is no other vertex is passed
    pub seeking_goes_on : IsReady at number IsSite IsCovered after
        → ((v : ℕ) → item_in x ≡ at_vertex v → v ≡ i)
        → SeeksNext at number IsSite IsCovered c i j (passed ++ item_in x ∷ []) after
    seeking_goes_on ready none = record {
      shape = seeks.shape;
      from = seeks.from;
      to = seeks.to;
      apart = seeks.apart;
      so_far = one_more_passed at number IsSite IsCovered (state_of c) (point_at points i)
          (point_at points j) passed now after seeks.so_far x gives ready;
      ready = ready;
      none = still_no_other passed (item_in x) i seeks.none none;
    }

    -- the line list with it
    pub list_on : (others : List Item) × IsLineList (drawn points c.mesh) (place points i)
        (place points j) ((passed ++ item_in x ∷ []) ++ others)
    list_on = list_with at number IsSite IsCovered (state_of c) (point_at points i)
        (point_at points j) passed now after seeks.so_far x gives

    -- another vertex is next to i on the segment
    pub seeking_finds : {v : ℕ} → item_in x ≡ at_vertex v → v ≢ i → AreNextOn points i j i v
    seeking_finds {v = v} is other =
        let l = list_on in
        let list = subst
        (λ (k : Item). IsLineList (drawn points c.mesh) (place points i) (place points j)
        ((passed ++ k ∷ []) ++ l.0)) is l.1 in
        comes_next points c.mesh distinct i j from_in to_in seeks.apart passed l.0 v other list
        seeks.none (list.met two_ends (at_vertex v)
        (Contains-append_left (passed ++ at_vertex v ∷ []) l.0 (at_vertex v)
        (Contains-append_right passed (at_vertex v ∷ []) (at_vertex v)
        (Contains-head (at_vertex v) []))))
