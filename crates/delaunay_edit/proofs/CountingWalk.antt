-- A walk along the path between two vertices counts the subconstraints that are no constraints, and
-- finds the constraints that cross it.
-- Notions: ArePathEnds, IsCountingPath; half_listed, half_unlisted, crossed_item, crossed_within,
-- vertex_item, counting_path_begins, path_is_free, path_counted, crossed_half_in, path_is_barred,
-- counting_crosses,
-- counting_along, counting_stays, counting_goes_past, counting_goes_on.
use Rattle.std.proofs.Common.{◌≡◌, ◌≢◌, ◌⊎◌, ◌+◌, ◌*◌, ◌/◌, ◌<◌, [], ◌∷◌, ◌++◌, ◌∙◌}
use Rattle.std.proofs.Common.{ℕ, Bool, List, length, map, Some, None, refl, sym, ap, subst, inl}
use Rattle.std.proofs.Common.{inr}
use Rattle.std.proofs.Common.{arith}
use Rattle.std.specs.Prelude.{ℤ, Contains}
use Rattle.std.specs.Borrow.{Bor}
use Rattle.std.proofs.lemmas.List.Elements.{All-map, Contains-append_left, Contains-push_cases}
use Rattle.plane.specs.{across, along, at_vertex, InRange, IsEdge, IsIndex, IsLineList, IsSame}
use Rattle.plane.specs.{Item, Joins, Meets, OnSegment, place, Point, Triangulation, WithinSegment}
use Rattle.{half_edge_links.specs.origin, half_edge_links.specs.rev, plane.proofs.turned_join}
use Rattle.half_edge_links.proofs.{rev_within}
use Rattle.plane_theorems.specs.{AreNextOn, ArePlacedApart}
use Rattle.plane_theorems.proofs.{Contains-none, no_edges_cross}
use Rattle.half_edge_dcel.specs.{Contents, DirectedEdgeHandle, VertexHandle}
use Rattle.delaunay_legalization.specs.{constraints_by, drawn, edges_of, faces_of, IsTriangulated}
use Rattle.delaunay_legalization.specs.{marked_edges, outer_of, point_at, state_of}
use Rattle.delaunay_legalization.proofs.{constraints_are_edges, contains_last, fixed_within}
use Rattle.delaunay_legalization.proofs.{IsListedEdge, joins_directed, listed_edge, own_edges}
use Rattle.{delaunay_legalization.proofs.own_indexes, delaunay_legalization.specs.State.State}
use Rattle.delaunay_location.specs.{EdgeIntersection, GivesNext, HasNoConflict, Intersection}
use Rattle.delaunay_location.specs.{IsConflict, IsReady, item_in, LineIntersectionIterator, mesh_of}
use Rattle.delaunay_location.specs.{VertexIntersection, WalksLine}
use Rattle.delaunay_location.proofs.EitherWay.{crossed_either_way}
use Rattle.delaunay_edit.specs.{Adding.CanAddPath, HasPairs, IsMissing}
use Rattle.delaunay_edit.proofs.CountingPath.{IsWalking, walk_begins, walk_ends, walk_goes_on}
use Rattle.delaunay_edit.proofs.{CountingPath.walk_goes_past, Walking.in_map, Walking.placed_apart}
use Rattle.delaunay_edit.proofs.{InTheWay.meets_is_cross, NextVertex.two}
use Rattle.delaunay_edit.proofs.PassedVertices.{HasReached, next_after, not_at_end, reached_begins}
use Rattle.delaunay_edit.proofs.PassedVertices.{reached_ends, reached_next, reached_stays}
use Rattle.delaunay_edit.proofs.Passing.{all_passed, HasPassed, list_with, none_passed}
use Rattle.delaunay_edit.proofs.{Passing.one_more_passed, Passing.passed_kept, Places.no_same_place}

-- the ends of an item
abbrev first_end : Item → ℕ
first_end (at_vertex v) = v
first_end (across a b) = a
first_end (along a b) = a

abbrev second_end : Item → ℕ
second_end (at_vertex v) = v
second_end (across a b) = b
second_end (along a b) = b

vertex_is_first : (v w : ℕ) → at_vertex v ≡ at_vertex w → w ≡ v
vertex_is_first v w e = ap first_end (sym e)

no_crossed_vertex : (v a b : ℕ) → ¬ (at_vertex v ≡ across a b)
no_crossed_vertex v a b e = cc

no_crossed_overlap : (v w a b : ℕ) → ¬ (along v w ≡ across a b)
no_crossed_overlap v w a b e = cc

no_vertex_crossed : (v a b : ℕ) → ¬ (across a b ≡ at_vertex v)
no_vertex_crossed v a b e = cc

no_vertex_along : (v a b : ℕ) → ¬ (along a b ≡ at_vertex v)
no_vertex_along v a b e = cc

below : (h n count : ℕ) → h / 2 < n → 2 * n ≡ count → h < count
below h n count less e = omega (arith, less, e)

-- ---- an undirected edge by one of its directions
pub half_listed : (xs : List ℕ) (e f u : ℕ) → f ≡ e → u ≡ f / 2 → Contains xs u
    → Contains xs (e / 2)
half_listed xs e f u is half there =
    subst (Contains xs) (half ∙ ap (λ (k : ℕ). k / 2) is) there

pub half_unlisted : (xs : List ℕ) (e f u : ℕ) → f ≡ e → u ≡ f / 2 → Contains xs (e / 2)
    → Contains xs u
half_unlisted xs e f u is half there =
    subst (Contains xs) (sym (half ∙ ap (λ (k : ℕ). k / 2) is)) there

-- ---- items by their handles
module _ {V D U F : Type 0} (x : Intersection V D U F) where
  -- an edge that is crossed
  pub crossed_item : (e : DirectedEdgeHandle V D U F) → x ≡ EdgeIntersection e
      → item_in x ≡ across (origin (mesh_of x).now.mesh e.index)
      (origin (mesh_of x).now.mesh (rev e.index))
  crossed_item e is = subst (λ (y : Intersection V D U F). item_in y
      ≡ across (origin (mesh_of y).now.mesh e.index) (origin (mesh_of y).now.mesh (rev e.index)))
      (sym is) refl

  -- is one of its mesh
  pub crossed_within : (e : DirectedEdgeHandle V D U F) → x ≡ EdgeIntersection e
      → e.index < length e.dcel.now.directed → e.index < length (mesh_of x).now.directed
  crossed_within e is within =
      subst (λ (y : Intersection V D U F). e.index < length (mesh_of y).now.directed) (sym is)
      within

  -- a vertex
  pub vertex_item : (v : VertexHandle V D U F) → x ≡ VertexIntersection v → (w : ℕ)
      → w ≡ v.index → item_in x ≡ at_vertex w
  vertex_item v is w e = ap item_in is ∙ ap (λ (k : ℕ). at_vertex k) (sym e)

module _ {V D U F : Type 0} (at : V → Point) (marks : U → Bool) (constraints : List U → List ℕ)
    (marked : (ds : List U) → constraints ds ≡ marked_edges marks ds) (c : Contents V D U F)
    (i j : ℕ) where
  abbrev points : List Point
  points = map at c.vertices

  abbrev t : Triangulation
  t = drawn points c.mesh

  abbrev ks : List ℕ
  ks = constraints c.undirected

  abbrev pairs : List (ℕ × ℕ)
  pairs = constraints_by constraints (state_of c)

  -- a path is between two vertices of a triangulation
  pub record ArePathEnds : Type 0 where
    pub kept : IsTriangulated at (state_of c)
    pub from_in : i < length c.vertices
    pub to_in : j < length c.vertices
    pub apart : i ≢ j

  module _ {P S : Type 0} (number : S → ℤ) (IsSite IsCovered : P → Point → Type 0) where
    -- vertex v is the last that the walk has passed, so many subconstraints up to it are missing,
    -- and no edge that was passed is a constraint that crosses
    pub record IsCountingPath (v count : ℕ)
        (now : LineIntersectionIterator V D U F P S) : Type 0 where
      pub ends : ArePathEnds
      pub passed : List Item
      pub so_far : HasPassed at number IsSite IsCovered (state_of c) (point_at points i)
          (point_at points j) passed now
      pub ready : IsReady at number IsSite IsCovered now
      pub reached : HasReached points i j passed v
      pub walking : IsWalking points pairs i j v count
      pub clear : HasNoConflict constraints c passed

  module _ (ends : ArePathEnds) where
    from_index : IsIndex points i
    from_index = in_map at c.vertices i ends.from_in

    to_index : IsIndex points j
    to_index = in_map at c.vertices j ends.to_in

    distinct : ArePlacedApart points
    distinct = placed_apart points (faces_of c.mesh) (outer_of c.mesh) ends.kept.shape

    -- the ends are two places
    ends_apart : ¬ IsSame (place points i) (place points j)
    ends_apart = two points c.mesh distinct i j from_index to_index ends.apart

    constraint_is_edge : (a b : ℕ) → Joins pairs a b → IsEdge t a b
    constraint_is_edge a b joined = constraints_are_edges marks constraints marked c.mesh
        c.undirected ends.kept.fits.undirected_fit ends.kept.valid a b joined

    -- no vertex is strictly within a constraint
    none_within : (a b k : ℕ) → k < length c.vertices → Joins pairs a b
        → ¬ WithinSegment (place points a) (place points b) (place points k)
    none_within a b k within joined =
        (no_edges_cross points (faces_of c.mesh) (outer_of c.mesh) (edges_of c.mesh) ends.kept.shape
        (own_edges c.mesh ends.kept.valid)).0 a b k (constraint_is_edge a b joined)
        (in_map at c.vertices k within)

    module _ (items : List Item) (list : IsLineList t (place points i) (place points j) items) where
      -- a crossed edge that is a constraint is in the way
      barred : (h : ℕ) → Contains items (across (origin c.mesh h) (origin c.mesh (rev h)))
          → Contains ks (h / 2) → ¬ CanAddPath at constraints c i j
      barred h there listed free = free (origin c.mesh h) (origin c.mesh (rev h)) joined
          (meets_is_cross (place points i) (place points j) (place points (origin c.mesh h))
          (place points (origin c.mesh (rev h)))
          (none_within (origin c.mesh h) (origin c.mesh (rev h)) i ends.from_in joined)
          (none_within (origin c.mesh h) (origin c.mesh (rev h)) j ends.to_in joined)
          (list.met ends_apart (across (origin c.mesh h) (origin c.mesh (rev h))) there).1)
        where
          joined : Joins pairs (origin c.mesh h) (origin c.mesh (rev h))
          joined = joins_directed c.mesh ks h listed

      edge_in : (h : ℕ) → Contains ks (h / 2) → h < length c.mesh.half_edges
      edge_in h listed = below h (length c.undirected) (length c.mesh.half_edges)
          (fixed_within marks constraints marked c.undirected (h / 2) listed)
          ends.kept.fits.undirected_fit

      is_conflict : (a b h : ℕ) → IsListedEdge c.mesh ks a b h
          → IsConflict constraints c (across a b)
      is_conflict a b h e = (
        h,
        subst (λ (n : ℕ). h < n) (sym ends.kept.fits.directed_fit) (edge_in h e.listed),
        (λ k. across (sym e.start k) (sym e.end k)),
        e.listed,
      )

      -- where no item is one, the way is free
      free_if_clear : HasNoConflict constraints c items → CanAddPath at constraints c i j
      free_if_clear none a b joined cross = elim ways as (λ _. ⊥) [
        | inl met ↦ none (across a b) (list.complete ends_apart (across a b) met)
            (is_conflict a b there.0 there.1)
        | inr met ↦ none (across b a) (list.complete ends_apart (across b a) met)
            (is_conflict b a back.0 back.1)
      ]
        where
          there : (h : ℕ) × IsListedEdge c.mesh ks a b h
          there = listed_edge c.mesh ks a b joined

          back : (h : ℕ) × IsListedEdge c.mesh ks b a h
          back = listed_edge c.mesh ks b a (turned_join pairs a b joined)

          vertex_in : (h : ℕ) → h < length c.mesh.half_edges → IsIndex points (origin c.mesh h)
          vertex_in h within = in_map at c.vertices (origin c.mesh h)
              (subst (λ (n : ℕ). origin c.mesh h < n) (sym ends.kept.fits.vertices_fit)
              (ends.kept.valid.sound.edges h within).origin_in)

          different : (h : ℕ) → h < length c.mesh.half_edges
              → ¬ IsSame (place points (origin c.mesh h)) (place points (origin c.mesh (rev h)))
          different h within = no_same_place points distinct (origin c.mesh h)
              (origin c.mesh (rev h)) (vertex_in h within)
              (vertex_in (rev h) (rev_within h (length c.mesh.half_edges)
              ends.kept.valid.sound.even within)) (ends.kept.valid.apart h within)

          ways : Meets t (place points i) (place points j) (across a b)
              ⊎ Meets t (place points i) (place points j) (across b a)
          ways = crossed_either_way t (place points i) (place points j) ends_apart a b
              (constraint_is_edge a b joined)
              (subst (λ (y : ℕ × ℕ). ¬ IsSame (place points y.0) (place points y.1))
              (λ k. (there.1.start k, there.1.end k))
              (different there.0 (edge_in there.0 there.1.listed)))
              (record { at = cross.at; meet = cross.meet; within = cross.within_second })

  -- at the beginning of a walk nothing was passed
  pub counting_path_begins : {P S : Type 0} {number : S → ℤ} {IsSite IsCovered : P → Point → Type 0}
      {it : LineIntersectionIterator V D U F P S} → i < length c.vertices → j < length c.vertices
      → i ≢ j → IsReady at number IsSite IsCovered it
      → WalksLine at number (state_of c) (point_at points i) (point_at points j) it
      → IsCountingPath number IsSite IsCovered i 0 it
  counting_path_begins {number = number} {IsSite = IsSite} {IsCovered = IsCovered} {it = it} hi hj
      apart ready walks =
      let so_far = none_passed at number IsSite IsCovered (state_of c) (point_at points i)
      (point_at points j) it ready walks in let kept = passed_kept so_far in
      let ends : ArePathEnds = record { kept = kept; from_in = hi; to_in = hj; apart = apart } in
      record {
        ends = ends;
        passed = [];
        so_far = so_far;
        ready = ready;
        reached = reached_begins points i j (from_index ends);
        walking = walk_begins points (distinct ends) pairs j (to_index ends) i (from_index ends)
            (All-map InRange at c.vertices kept.in_range);
        clear = λ k there. absurd (Contains-none k there);
      }

  -- ---- one item after another
  module _ {P S : Type 0} {number : S → ℤ} {IsSite IsCovered : P → Point → Type 0} {v count : ℕ}
      {now : LineIntersectionIterator V D U F P S}
      (counting : IsCountingPath number IsSite IsCovered v count now) where
    kept : IsTriangulated at (state_of c)
    kept = counting.ends.kept

    apart : ArePlacedApart points
    apart = distinct counting.ends

    first : IsIndex points i
    first = from_index counting.ends

    last : IsIndex points j
    last = to_index counting.ends

    differ : i ≢ j
    differ = counting.ends.apart

    -- ---- the walk ends
    module _ {after : LineIntersectionIterator V D U F P S}
        (gives : GivesNext at number now None after) where
      all : IsLineList t (place points i) (place points j) counting.passed
      all = all_passed at number IsSite IsCovered (state_of c) (point_at points i)
          (point_at points j) counting.passed now after counting.so_far gives

      -- no constraint crosses the path
      pub path_is_free : CanAddPath at constraints c i j
      path_is_free = free_if_clear counting.ends counting.passed all counting.clear

      -- and so many of its subconstraints are missing
      pub path_counted : HasPairs (IsMissing points pairs i j) count
      path_counted = walk_ends points apart pairs j last i v count counting.walking
          (reached_ends points c.mesh apart i j first last differ counting.passed v
          counting.reached all)

    -- ---- it meets one more item
    module _ {after : LineIntersectionIterator V D U F P S} {x : Intersection V D U F}
        (gives : GivesNext at number now (Some x) after) where
      line : (others : List Item) × IsLineList t (place points i) (place points j)
          ((counting.passed ++ item_in x ∷ []) ++ others)
      line = list_with at number IsSite IsCovered (state_of c) (point_at points i)
          (point_at points j) counting.passed now after counting.so_far x gives

      here : Contains ((counting.passed ++ item_in x ∷ []) ++ line.0) (item_in x)
      here = Contains-append_left (counting.passed ++ item_in x ∷ []) line.0 (item_in x)
          (contains_last counting.passed (item_in x))

      same_mesh : state_of (mesh_of x).now ≡ state_of c
      same_mesh = ap (λ (d : Bor (Contents V D U F)). state_of d.now)
          (gives.gives counting.so_far.others counting.so_far.are_left).0
          ∙ counting.so_far.state

      passed_on : IsReady at number IsSite IsCovered after
          → HasPassed at number IsSite IsCovered (state_of c) (point_at points i)
          (point_at points j) (counting.passed ++ item_in x ∷ []) after
      passed_on ready = one_more_passed at number IsSite IsCovered (state_of c)
          (point_at points i) (point_at points j) counting.passed now after counting.so_far x
          gives ready

      abbrev Crosses : ℕ → Type 0
      Crosses h = item_in x
          ≡ across (origin (mesh_of x).now.mesh h) (origin (mesh_of x).now.mesh (rev h))

      crossed : (h : ℕ) → Crosses h
          → item_in x ≡ across (origin c.mesh h) (origin c.mesh (rev h))
      crossed h is = subst (λ (s : State V D U F). item_in x
          ≡ across (origin s.mesh h) (origin s.mesh (rev h))) same_mesh is

      -- the undirected edge of one that is crossed is one of the mesh
      pub crossed_half_in : (h : ℕ) → h < length (mesh_of x).now.directed → {f u : ℕ} → f ≡ h
          → u ≡ f / 2 → u < length c.undirected
      crossed_half_in h within {f = f} {u = u} is half =
          let there : h < length c.directed =
          subst (λ (s : State V D U F). h < length s.directed) same_mesh within in
          let all : 2 * length c.undirected ≡ length c.directed =
          kept.fits.undirected_fit ∙ sym kept.fits.directed_fit in
          let is_half : u ≡ h / 2 = half ∙ ap (λ (k : ℕ). k / 2) is in
          omega (arith, there, all, is_half)

      -- a constraint that is crossed bars the path
      pub path_is_barred : (h : ℕ) → Crosses h → Contains ks (h / 2)
          → ¬ CanAddPath at constraints c i j
      path_is_barred h is listed = barred counting.ends
          ((counting.passed ++ item_in x ∷ []) ++ line.0) line.1 h
          (subst (Contains ((counting.passed ++ item_in x ∷ []) ++ line.0)) (crossed h is) here)
          listed

      no_more_conflict : ¬ IsConflict constraints c (item_in x)
          → HasNoConflict constraints c (counting.passed ++ item_in x ∷ [])
      no_more_conflict none k there =
          elim (Contains-push_cases counting.passed (item_in x) k there)
          as (λ _. ¬ IsConflict constraints c k) [
            | inl before ↦ counting.clear k before
            | inr is ↦ subst (λ (y : Item). ¬ IsConflict constraints c y) is none
          ]

      -- with an item that is no other vertex and no constraint the count stays
      stays : IsReady at number IsSite IsCovered after
          → ((w : ℕ) → item_in x ≡ at_vertex w → w ≡ v)
          → ¬ IsConflict constraints c (item_in x)
          → IsCountingPath number IsSite IsCovered v count after
      stays ready same none = record {
        ends = counting.ends;
        passed = counting.passed ++ item_in x ∷ [];
        so_far = passed_on ready;
        ready = ready;
        reached = reached_stays points c.mesh apart i j first last differ
            counting.passed v counting.reached (item_in x) same;
        walking = counting.walking;
        clear = no_more_conflict none;
      }

      -- an edge that is no constraint may be crossed
      pub counting_crosses : IsReady at number IsSite IsCovered after → (h : ℕ)
          → h < length (mesh_of x).now.directed → Crosses h → ¬ Contains ks (h / 2)
          → IsCountingPath number IsSite IsCovered v count after
      counting_crosses ready h within is free = stays ready
          (λ w e. absurd (no_vertex_crossed w (origin c.mesh h) (origin c.mesh (rev h))
          (sym (crossed h is) ∙ e)))
          (λ conflict. free (subst (λ (k : ℕ). Contains ks (k / 2))
          (own (conflict.0) conflict.1 (sym (crossed h is) ∙ conflict.2)) conflict.3))
        where
          h_in : h < length c.mesh.half_edges
          h_in = subst (λ (n : ℕ). h < n) kept.fits.directed_fit
              (subst (λ (s : State V D U F). h < length s.directed) same_mesh within)

          own : (g : ℕ) → g < length c.directed → across (origin c.mesh h)
              (origin c.mesh (rev h)) ≡ across (origin c.mesh g) (origin c.mesh (rev g))
              → g ≡ h
          own g g_in e = (own_indexes points c.mesh kept.valid kept.shape).edges h g h_in
              (subst (λ (n : ℕ). g < n) kept.fits.directed_fit g_in)
              (sym (ap first_end e), sym (ap second_end e))

      -- an overlapped edge changes nothing
      pub counting_along : IsReady at number IsSite IsCovered after → (a b : ℕ)
          → item_in x ≡ along a b → IsCountingPath number IsSite IsCovered v count after
      counting_along ready a b is = stays ready
          (λ w e. absurd (no_vertex_along w a b (sym is ∙ e)))
          (λ conflict. no_crossed_overlap a b (origin c.mesh conflict.0)
          (origin c.mesh (rev conflict.0)) (sym is ∙ conflict.2))

      -- nor does the vertex itself
      pub counting_stays : IsReady at number IsSite IsCovered after
          → item_in x ≡ at_vertex v → IsCountingPath number IsSite IsCovered v count after
      counting_stays ready is = stays ready
          (λ w e. vertex_is_first v w (sym is ∙ e))
          (λ conflict. no_crossed_vertex v (origin c.mesh conflict.0)
          (origin c.mesh (rev conflict.0)) (sym is ∙ conflict.2))

      -- another vertex ends the next subconstraint
      module _ (w : ℕ) (is : item_in x ≡ at_vertex w) (other : w ≢ v) where
        w_line : IsLineList t (place points i) (place points j)
            ((counting.passed ++ at_vertex w ∷ []) ++ line.0)
        w_line = subst (λ (k : Item). IsLineList t (place points i) (place points j)
            ((counting.passed ++ k ∷ []) ++ line.0)) is line.1

        w_met : (w < length points) × OnSegment (place points i) (place points j)
            (place points w)
        w_met = subst (λ (k : Item). Meets t (place points i) (place points j) k) is
            (line.1.met (ends_apart counting.ends) (item_in x) here)

        next_subconstraint : AreNextOn points v j v w
        next_subconstraint = next_after points c.mesh apart i j first last differ
            counting.passed v counting.reached w other w_met.0 w_met.1 line.0 w_line

        before_end : v ≢ j
        before_end = not_at_end points c.mesh apart i j first last differ
            counting.passed v counting.reached w other w_met.0 w_met.1 line.0 w_line

        counted_on : IsReady at number IsSite IsCovered after → (more : ℕ)
            → IsWalking points pairs i j w more
            → IsCountingPath number IsSite IsCovered w more after
        counted_on ready more walking = record {
          ends = counting.ends;
          passed = counting.passed ++ item_in x ∷ [];
          so_far = passed_on ready;
          ready = ready;
          reached = subst (λ (k : Item). HasReached points i j (counting.passed ++ k ∷ []) w)
              (sym is) (reached_next points c.mesh apart i j first last differ counting.passed v
              counting.reached w other w_met.0 w_met.1 line.0 w_line);
          walking = walking;
          clear = no_more_conflict (λ conflict. no_crossed_vertex w (origin c.mesh conflict.0)
              (origin c.mesh (rev conflict.0)) (sym is ∙ conflict.2));
        }

        -- it is a constraint, and the count stays
        pub counting_goes_past : IsReady at number IsSite IsCovered after → Joins pairs v w
            → IsCountingPath number IsSite IsCovered w count after
        counting_goes_past ready joined = counted_on ready count
            (walk_goes_past points apart pairs j last i v count
            counting.walking w before_end next_subconstraint joined)

        -- or none, and is counted
        pub counting_goes_on : IsReady at number IsSite IsCovered after → ¬ Joins pairs v w
            → IsCountingPath number IsSite IsCovered w (count + 1) after
        counting_goes_on ready missing = counted_on ready (count + 1)
            (walk_goes_on points apart pairs j last i v count
            counting.walking w before_end next_subconstraint missing)
