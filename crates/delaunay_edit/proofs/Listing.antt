-- The edges that cross a subconstraint of a path are listed by the walk along it, each once.
-- Notions: IsMet, AreListed, IsTwin, IsListingSubconstraint; not_before_itself, none_listed, other_item,
-- few_listed, not_listed, edge_more, room_for_more, subconstraint_listed, twin_of, subconstraint_walk_begins,
-- subconstraint_walk_has_room, subconstraint_walk_crosses, subconstraint_walk_stays, subconstraint_walk_along, subconstraint_walk_ends.
use Rattle.std.proofs.Common.{◌≡◌, ◌≢◌, ◌*◌, ◌/◌, ◌<◌, ◌≤◌, [], ◌∷◌, ◌++◌, ◌∙◌}
use Rattle.std.proofs.Common.{◌⊎◌, ℕ, List, length, map, Some, sym, ap, subst}
use Rattle.std.proofs.Common.{refl, arith, vec_capacity}
use mathlib.Core.Logic.{inl, inr}
use Rattle.std.specs.Prelude.{ℤ, AllPairs, Contains}
use Rattle.std.proofs.lemmas.List.{length-map}
use Rattle.std.proofs.lemmas.List.Elements.{Contains-append_cases, Contains-append_left}
use Rattle.std.proofs.lemmas.List.Elements.{Contains-push_cases}
use Rattle.std.specs.Borrow.{Bor}
use Rattle.plane.specs.{across, along, at_vertex, Fraction, IsBefore, IsIndex, IsLineList, IsSame}
use Rattle.plane.specs.{Item, Meets, place, Point, Triangulation}
use Rattle.half_edge_links.specs.{IsValidMesh, Mesh, origin, rev}
use Rattle.half_edge_links.proofs.{rev-rev, rev_within}
use Rattle.plane_theorems.specs.{AreNextOn, ArePlacedApart, IsFreeOfVertices, IsMesh}
use Rattle.plane_theorems.proofs.{Contains-head, Contains-later, Contains-none, once_cons}
use Rattle.plane_theorems.proofs.{once_head, once_none, once_tail}
use Rattle.plane_theorems.proofs.Segments.Crossing.PathFlips.{subconstraint_is_free}
use Rattle.half_edge_dcel.specs.{Contents, DirectedEdgeHandle, IsMeshWithData}
use Rattle.delaunay_legalization.specs.{AreEdges, drawn, faces_of, outer_of, state_of}
use Rattle.delaunay_legalization.proofs.{contains_before, contains_last, contains_map_from}
use Rattle.delaunay_legalization.proofs.{half_same, Legalizing.half_within, once_after, own_indexes}
use Rattle.delaunay_legalization.proofs.MeshLegal.{few_edges, room_for_one}
use Rattle.delaunay_location.specs.{EdgeIntersection, GivesNext, Intersection, IsReady, item_in}
use Rattle.delaunay_location.specs.{LineIntersectionIterator, mesh_of}
use Rattle.delaunay_edit.specs.{AreAllCrossing, CrossesFromRight, CrossingLists, HaveRoom, KeepRoom}
use Rattle.{delaunay_edit.specs.Lists.ListSubconstraint, delaunay_legalization.specs.State.State}
use Rattle.delaunay_edit.proofs.Beginning.{crossed_one_way, met_before, part_meets, whole_meets}
use Rattle.delaunay_edit.proofs.MetEdges.{crossed_twin, crosses_if_met, met_if_crosses}
use Rattle.delaunay_edit.proofs.MovedEdges.{crossing_begins, ListsAllCrossing, room_on, room_stays}
use Rattle.delaunay_edit.proofs.NextVertex.{list_on, seeking_finds, seeking_goes_on, SeeksNext}
use Rattle.delaunay_edit.proofs.{NextVertex.two_ends, Places.no_same_place, Walking.placed_apart}
use Rattle.delaunay_edit.proofs.Passing.{earlier_ones, later_ones, passed_kept}

-- ---- no crossed edge comes before itself
pub not_before_itself : (t : Triangulation) (p q : Fraction) (a b : ℕ)
    → ¬ IsBefore t p q (across a b) (across a b)
not_before_itself t p q a b o = elim o.order as (λ _. ⊥) [
  | inl nearer ↦ o.second_begins.first o.first o.first_begins.shared o.first_begins.of_item nearer
  | inr same ↦ same.1
]

-- the ends of an item
abbrev first_end : Item → ℕ
first_end (at_vertex v) = v
first_end (across a b) = a
first_end (along a b) = a

abbrev second_end : Item → ℕ
second_end (at_vertex v) = v
second_end (across a b) = b
second_end (along a b) = b

-- where a function has different values at the entries of a list without repetition, so is the list
-- of its values
once_map : {X Y : Type 0} (f : X → Y) (xs : List X) → AllPairs (λ k l. k ≢ l) xs
    → ((x y : X) → Contains xs x → Contains xs y → f x ≡ f y → x ≡ y)
    → AllPairs (λ k l. k ≢ l) (map f xs)
once_map f [] once apart = once_none
once_map f (x ∷ xs) once apart = once_cons (f x) (map f xs)
    (λ there. let r = contains_map_from f xs (f x) there in
    once_head x xs once (subst (Contains xs)
    (apart r.0 x (Contains-later x xs r.0 r.1) (Contains-head x xs) r.2) r.1))
    (once_map f xs (once_tail x xs once)
    (λ y z a b. apart y z (Contains-later x xs y a) (Contains-later x xs z b)))

half_below : (h n : ℕ) → h < 2 * n → h / 2 < n
half_below h n less = grind arith

-- a vertex is no crossed edge
not_crossed : (v a b : ℕ) → ¬ (at_vertex v ≡ across a b)
not_crossed v a b e = cc

module _ (points : List Point) (m : Mesh) (i j n : ℕ) where
  -- the segment from i to j crosses the twin of directed edge h
  abbrev pub IsMet : ℕ → Type 0
  IsMet h = Meets (drawn points m) (place points i) (place points j) (crossed_twin m h)

  -- of the directed edges below n, these are those whose twins are among these items, which the
  -- segment meets
  pub record AreListed (passed : List Item) (hs : List ℕ) : Type 0 where
    pub once : AllPairs (λ k l. k ≢ l) hs
    pub cross : (h : ℕ) → Contains hs h → (h < n) × IsMet h
    pub passed_by : (h : ℕ) → Contains hs h → Contains passed (crossed_twin m h)
    pub all : (h : ℕ) → h < n → IsMet h → Contains passed (crossed_twin m h) → Contains hs h

  -- without items there is none
  pub none_listed : AreListed [] []
  none_listed = record {
    once = once_none;
    cross = λ h there. absurd (Contains-none h there);
    passed_by = λ h there. absurd (Contains-none h there);
    all = λ h within c there. absurd (Contains-none (crossed_twin m h) there);
  }

module _ (points : List Point) (m : Mesh) (s : IsValidMesh m)
    (shape : IsMesh points (faces_of m) (outer_of m)) (i j n : ℕ)
    (count : n ≡ length m.half_edges) (vertices : length points ≡ length m.out_edges)
    (ends_apart : ¬ IsSame (place points i) (place points j)) where
  distinct : ArePlacedApart points
  distinct = placed_apart points (faces_of m) (outer_of m) shape

  in_mesh : (h : ℕ) → h < n → h < length m.half_edges
  in_mesh h within = subst (λ (k : ℕ). h < k) count within

  -- the ends of an edge are at two places
  ends : (h : ℕ) → h < length m.half_edges
      → ¬ IsSame (place points (origin m (rev h))) (place points (origin m h))
  ends h within = no_same_place points distinct (origin m (rev h)) (origin m h)
      (there (origin m (rev h)) (s.sound.edges (rev h)
      (rev_within h (length m.half_edges) s.sound.even within)).origin_in)
      (there (origin m h) (s.sound.edges h within).origin_in)
      (λ e. s.apart h within (sym e))
    where
      there : (k : ℕ) → k < length m.out_edges → IsIndex points k
      there k less = subst (λ (l : ℕ). k < l) (sym vertices) less

  -- no edge is met both ways
  one_way_met : (h : ℕ) → h < n → IsMet points m i j n h → ¬ IsMet points m i j n (rev h)
  one_way_met h within c d = crossed_one_way (drawn points m) (place points i) (place points j)
      ends_apart (origin m (rev h)) (origin m h) (ends h (in_mesh h within)) c
      (subst (λ (k : ℕ). Meets (drawn points m) (place points i) (place points j)
      (across (origin m k) (origin m (rev h)))) (rev-rev h) d)

  module _ (passed : List Item) (hs : List ℕ) (listed : AreListed points m i j n passed hs) where
    -- an item that is no crossed edge changes nothing
    pub other_item : (k : Item) → ((a b : ℕ) → ¬ (k ≡ across a b))
        → AreListed points m i j n (passed ++ k ∷ []) hs
    other_item k none = record {
      once = listed.once;
      cross = listed.cross;
      passed_by = λ h there.
          contains_before passed k (crossed_twin m h) (listed.passed_by h there);
      all = λ h within c there. elim (Contains-push_cases passed k (crossed_twin m h) there) [
        | inl before ↦ listed.all h within c before
        | inr is ↦ absurd (none (origin m (rev h)) (origin m h) is)
      ];
    }

    -- ---- as many as there are undirected edges, at most
    -- edges that cross the same way are different undirected edges
    same_half : (g h : ℕ) → h < n → IsMet points m i j n g → IsMet points m i j n h
        → g / 2 ≡ h / 2 → g ≡ h
    same_half g h within c d e = elim (half_same h g e) [
      | inl is ↦ is
      | inr is ↦ absurd (one_way_met h within d
          (subst (λ (k : ℕ). IsMet points m i j n k) is c))
    ]

    abbrev halves : List ℕ
    halves = map (λ (h : ℕ). h / 2) hs

    halves_are_edges : AreEdges m halves
    halves_are_edges = record {
      within = λ k there. let r = contains_map_from (λ (h : ℕ). h / 2) hs k there in
          half_within m r.0 n k count (listed.cross r.0 r.1).0 (sym r.2);
      once = once_map (λ (h : ℕ). h / 2) hs listed.once
          (λ g h a b e. same_half g h (listed.cross h b).0 (listed.cross g a).1 (listed.cross h b).1
          e);
    }

    pub few_listed : (u : ℕ) → 2 * u ≡ length m.half_edges → length hs ≤ u
    few_listed u twice = subst (λ (k : ℕ). k ≤ u) (length-map hs (λ (h : ℕ). h / 2))
        (few_edges m halves u twice halves_are_edges)

    -- a crossed edge that comes after them is one more
    module _ (t : Triangulation) (p q : Fraction) (others : List Item) (f : ℕ) (f_in : f < n)
        (met : IsMet points m i j n f)
        (ordered : AllPairs (IsBefore t p q) ((passed ++ crossed_twin m f ∷ []) ++ others)) where
      same_edge : (h : ℕ) → h < n → crossed_twin m f ≡ crossed_twin m h → h ≡ f
      same_edge h within e = (own_indexes points m s shape).edges f h
          (subst (λ (k : ℕ). f < k) count f_in) (subst (λ (k : ℕ). h < k) count within)
          (sym (ap second_end e), sym (ap first_end e))

      -- it is not one of them
      pub not_listed : ¬ Contains hs f
      not_listed there = not_before_itself t p q (origin m (rev f)) (origin m f)
          (earlier_ones (IsBefore t p q) passed (crossed_twin m f) others ordered (crossed_twin m f)
          (listed.passed_by f there))

      pub edge_more : AreListed points m i j n (passed ++ crossed_twin m f ∷ []) (hs ++ f ∷ [])
      edge_more = record {
        once = once_after hs f listed.once not_listed;
        cross = λ h there. elim (Contains-push_cases hs f h there) [
          | inl before ↦ listed.cross h before
          | inr is ↦ (
            subst (λ (k : ℕ). k < n) is f_in,
            subst (λ (k : ℕ). IsMet points m i j n k) is met,
          )
        ];
        passed_by = λ h there. elim (Contains-push_cases hs f h there) [
          | inl before ↦ contains_before passed (crossed_twin m f) (crossed_twin m h)
              (listed.passed_by h before)
          | inr is ↦ subst
              (λ (k : ℕ). Contains (passed ++ crossed_twin m f ∷ []) (crossed_twin m k))
              is (contains_last passed (crossed_twin m f))
        ];
        all = λ h within c there.
            elim (Contains-push_cases passed (crossed_twin m f) (crossed_twin m h) there) [
              | inl before ↦ contains_before hs f h (listed.all h within c before)
              | inr is ↦ subst (λ (k : ℕ). Contains (hs ++ f ∷ []) k)
                  (sym (same_edge h within is)) (contains_last hs f)
            ];
      }

      -- and there is room for it
      pub room_for_more : (u : ℕ) → 2 * u ≡ length m.half_edges → length hs < u
      room_for_more u twice = subst (λ (k : ℕ). k < u) (length-map hs (λ (h : ℕ). h / 2))
          (room_for_one m halves u (f / 2) twice halves_are_edges
          (half_below f u (subst (λ (k : ℕ). f < k) (count ∙ sym twice) f_in))
          (λ there. let r = contains_map_from (λ (h : ℕ). h / 2) hs (f / 2) there in
          not_listed (subst (Contains hs) (same_half r.0 f f_in (listed.cross r.0 r.1).1 met r.2)
          r.1)))

  -- ---- the subconstraint up to the vertex that is met next
  module _ (passed others : List Item) (v : ℕ) (hs : List ℕ)
      (listed : AreListed points m i j n passed hs)
      (list : IsLineList (drawn points m) (place points i) (place points j)
      ((passed ++ at_vertex v ∷ []) ++ others)) (next : AreNextOn points i j i v) where
    free : IsFreeOfVertices (drawn points m) i v
    free = subconstraint_is_free (drawn points m) i j i v next

    away : ¬ IsSame (place points v) (place points i)
    away = no_same_place points distinct v i next.second_index next.first_index
        (λ e. next.apart (sym e))

    -- what is listed crosses it
    listed_crosses : (h : ℕ) → Contains hs h
        → (h < length m.half_edges) × CrossesFromRight points m i v h
    listed_crosses h there =
        let within = in_mesh h (listed.cross h there).0 in (
          within,
          crosses_if_met points m s i v shape vertices free h within
              (part_meets (drawn points m) (place points i) (place points j) ends_apart
              (origin m (rev h)) (origin m h) (ends h within) v next.second away
              (listed.cross h there).1
              (earlier_ones (IsBefore (drawn points m) (place points i) (place points j)) passed
              (at_vertex v) others (list.ordered ends_apart) (crossed_twin m h)
              (listed.passed_by h there))),
        )

    -- what crosses it is listed
    crossing_listed : (h : ℕ) → h < length m.half_edges → CrossesFromRight points m i v h
        → Contains hs h
    crossing_listed h within crosses =
        go (Contains-append_cases (passed ++ at_vertex v ∷ []) others (crossed_twin m h)
        (list.complete ends_apart (crossed_twin m h) met))
      where
        met_by_subconstraint : Meets (drawn points m) (place points i) (place points v)
            (crossed_twin m h)
        met_by_subconstraint = met_if_crosses points m s i v shape vertices free h within crosses

        met : IsMet points m i j n h
        met = whole_meets (drawn points m) (place points i) (place points j) ends_apart
            (origin m (rev h)) (origin m h) (ends h within) v next.second away met_by_subconstraint

        go : Contains (passed ++ at_vertex v ∷ []) (crossed_twin m h)
            ⊎ Contains others (crossed_twin m h) → Contains hs h
        go (inl before) =
            elim (Contains-push_cases passed (at_vertex v) (crossed_twin m h) before) [
              | inl so_far ↦ listed.all h (subst (λ (k : ℕ). h < k) (sym count) within) met so_far
              | inr is ↦ absurd (not_crossed v (origin m (rev h)) (origin m h) is)
            ]
        go (inr later) = absurd (met_before (drawn points m) (place points i) (place points j)
            ends_apart (origin m (rev h)) (origin m h) (ends h within) v next.second away
            met_by_subconstraint (later_ones (IsBefore (drawn points m) (place points i)
            (place points j))
            passed (at_vertex v) others (list.ordered ends_apart) (crossed_twin m h) later))

    -- so these are all that do
    pub subconstraint_listed : AreAllCrossing points m i v (Contains hs)
    subconstraint_listed = record { cross = listed_crosses; all = crossing_listed }

-- ---- an edge that is crossed
-- the item is edge e, whose twin is h
pub record IsTwin {V D U F : Type 0} (x : Intersection V D U F) (e : DirectedEdgeHandle V D U F)
    (h : ℕ) : Type 0 where
  pub is : x ≡ EdgeIntersection e
  pub index : h ≡ rev e.index
  pub within : h < length e.dcel.now.directed

pub twin_of : {V D U F : Type 0} {x : Intersection V D U F} {e : DirectedEdgeHandle V D U F}
    (r : DirectedEdgeHandle V D U F) {h : ℕ} → x ≡ EdgeIntersection e → r.dcel ≡ e.dcel
    → r.index ≡ rev e.index → h ≡ r.index → h < length r.dcel.now.directed → IsTwin x e h
twin_of {V = V} {D = D} {U = U} {F = F} r {h = h} is mesh index value within = record {
  is = is;
  index = value ∙ index;
  within = subst (λ (d : Bor (Contents V D U F)). h < length d.now.directed) mesh within;
}

module _ {V D U F : Type 0} {x : Intersection V D U F} {e : DirectedEdgeHandle V D U F}
    {h : ℕ} (c : Contents V D U F) (twin : IsTwin x e h)
    (same : state_of (mesh_of x).now ≡ state_of c) where
  twin_state : state_of e.dcel.now ≡ state_of c
  twin_state = sym (ap (λ (y : Intersection V D U F). state_of (mesh_of y).now) twin.is) ∙ same

  is_crossed_twin : item_in x ≡ crossed_twin c.mesh h
  is_crossed_twin = ap item_in twin.is ∙ (λ k. across
      (origin (twin_state k).mesh (start k)) (origin (twin_state k).mesh (sym twin.index k)))
    where
      start : e.index ≡ rev h
      start = sym (rev-rev e.index) ∙ ap rev (sym twin.index)

  twin_within : h < length c.directed
  twin_within = subst (λ (s : State V D U F). h < length s.directed) twin_state twin.within

-- ---- the walk
-- no other vertex than i was passed, and the edges so far wait
pub record IsListingSubconstraint {V D U F P S : Type 0} (at : V → Point) (number : S → ℤ)
    (IsSite IsCovered : P → Point → Type 0) (c : Contents V D U F) (i j : ℕ)
    (was l : CrossingLists) (now : LineIntersectionIterator V D U F P S) : Type 0 where
  pub whole : IsMeshWithData c
  pub passed : List Item
  pub seeks : SeeksNext at number IsSite IsCovered c i j passed now
  pub listed : AreListed (map at c.vertices) c.mesh i j (length c.directed) passed l.waiting.items
  pub none : l.unseen.items ≡ []
  pub room : KeepRoom was l

-- at the beginning there is none
pub subconstraint_walk_begins : {V D U F P S : Type 0} {at : V → Point} {number : S → ℤ}
    {IsSite IsCovered : P → Point → Type 0} {c : Contents V D U F} {i j : ℕ} {was l : CrossingLists}
    {it : LineIntersectionIterator V D U F P S} → SeeksNext at number IsSite IsCovered c i j [] it
    → KeepRoom was l → l.waiting.items ≡ [] → l.unseen.items ≡ []
    → IsListingSubconstraint at number IsSite IsCovered c i j was l it
subconstraint_walk_begins {at = at} {c = c} {i = i} {j = j} seeks room none_waits none =
    let kept = passed_kept seeks.so_far in record {
      whole = record { valid = kept.valid; fits = kept.fits };
      passed = [];
      seeks = seeks;
      listed = subst (AreListed (map at c.vertices) c.mesh i j (length c.directed) [])
          (sym none_waits) (none_listed (map at c.vertices) c.mesh i j (length c.directed));
      none = none;
      room = room;
    }

module _ {V D U F P S : Type 0} {at : V → Point} {number : S → ℤ}
    {IsSite IsCovered : P → Point → Type 0} {c : Contents V D U F} {i j : ℕ} {was l : CrossingLists}
    {now after : LineIntersectionIterator V D U F P S} {x : Intersection V D U F}
    (listing : IsListingSubconstraint at number IsSite IsCovered c i j was l now)
    (gives : GivesNext at number now (Some x) after) where
  abbrev hs : List ℕ
  hs = l.waiting.items

  abbrev points_of_mesh : List Point
  points_of_mesh = map at c.vertices

  vertices_of_mesh : length points_of_mesh ≡ length c.mesh.out_edges
  vertices_of_mesh = length-map c.vertices at ∙ listing.whole.fits.vertices_fit

  ends_apart : ¬ IsSame (place points_of_mesh i) (place points_of_mesh j)
  ends_apart = two_ends listing.seeks

  -- the line list with the item that the call gives
  line : (others : List Item) × IsLineList (drawn points_of_mesh c.mesh)
      (place points_of_mesh i) (place points_of_mesh j)
      ((listing.passed ++ item_in x ∷ []) ++ others)
  line = list_on listing.seeks gives

  -- the segment meets it
  met_now : Meets (drawn points_of_mesh c.mesh) (place points_of_mesh i)
      (place points_of_mesh j) (item_in x)
  met_now = line.1.met ends_apart (item_in x)
      (Contains-append_left (listing.passed ++ item_in x ∷ []) line.0 (item_in x)
      (contains_last listing.passed (item_in x)))

  -- it is one of this mesh
  same_mesh : state_of (mesh_of x).now ≡ state_of c
  same_mesh = ap (λ (d : Bor (Contents V D U F)). state_of d.now)
      (gives.gives listing.seeks.so_far.others listing.seeks.so_far.are_left).0
      ∙ listing.seeks.so_far.state

  -- where it is that of an edge that is crossed, with this twin
  module _ {e : DirectedEdgeHandle V D U F} {h : ℕ} (twin : IsTwin x e h) where
    twin_met : IsMet points_of_mesh c.mesh i j (length c.directed) h
    twin_met = subst (Meets (drawn points_of_mesh c.mesh) (place points_of_mesh i)
        (place points_of_mesh j)) (is_crossed_twin c twin same_mesh) met_now

    ordered : AllPairs (IsBefore (drawn points_of_mesh c.mesh) (place points_of_mesh i)
        (place points_of_mesh j)) ((listing.passed ++ crossed_twin c.mesh h ∷ []) ++ line.0)
    ordered = subst (λ (k : Item). AllPairs (IsBefore (drawn points_of_mesh c.mesh)
        (place points_of_mesh i) (place points_of_mesh j))
        ((listing.passed ++ k ∷ []) ++ line.0)) (is_crossed_twin c twin same_mesh)
        (line.1.ordered ends_apart)

    -- a list with room for each edge has room for it
    pub subconstraint_walk_has_room : {len : ℕ} → len ≡ length hs → HaveRoom (length c.undirected)
        was
        → len < vec_capacity l.waiting
    subconstraint_walk_has_room {len = len} count fits =
        below len (length hs) (length c.undirected) (vec_capacity was.waiting)
        (vec_capacity l.waiting) count
        (room_for_more points_of_mesh c.mesh listing.whole.valid listing.seeks.shape i j
        (length c.directed) listing.whole.fits.directed_fit vertices_of_mesh ends_apart
        listing.passed hs listing.listed (drawn points_of_mesh c.mesh) (place points_of_mesh i)
        (place points_of_mesh j) line.0 h (twin_within c twin same_mesh) twin_met ordered
        (length c.undirected) listing.whole.fits.undirected_fit) fits.waiting listing.room.waiting
      where
        below : (len a n given room : ℕ) → len ≡ a → a < n → n ≤ given → room ≡ given → len < room
        below len a n given room is less fits stays = omega arith

    -- it is one more
    pub subconstraint_walk_crosses : {longer : CrossingLists} → IsReady at number IsSite IsCovered
        after
        → KeepRoom l longer → longer.waiting.items ≡ hs ++ h ∷ []
        → longer.unseen.items ≡ l.unseen.items
        → IsListingSubconstraint at number IsSite IsCovered c i j was longer after
    subconstraint_walk_crosses {longer = longer} ready room_now pushed same = record {
      whole = listing.whole;
      passed = listing.passed ++ item_in x ∷ [];
      seeks = seeking_goes_on listing.seeks gives ready
          (λ v is. absurd (not_crossed v (origin c.mesh (rev h)) (origin c.mesh h)
          (sym is ∙ is_crossed_twin c twin same_mesh)));
      listed = subst (λ (z : Item × List ℕ). AreListed points_of_mesh c.mesh i j
          (length c.directed) (listing.passed ++ z.0 ∷ []) z.1)
          (λ k. (sym (is_crossed_twin c twin same_mesh) k, sym pushed k))
          (edge_more points_of_mesh c.mesh listing.whole.valid listing.seeks.shape i j
          (length c.directed) listing.whole.fits.directed_fit vertices_of_mesh ends_apart
          listing.passed hs listing.listed (drawn points_of_mesh c.mesh) (place points_of_mesh i)
          (place points_of_mesh j) line.0 h (twin_within c twin same_mesh) twin_met ordered);
      none = same ∙ listing.none;
      room = room_on listing.room room_now;
    }

  -- where it is no other vertex and no such edge, all stays
  passes : IsReady at number IsSite IsCovered after
      → ((v : ℕ) → item_in x ≡ at_vertex v → v ≡ i) → ((a b : ℕ) → ¬ (item_in x ≡ across a b))
      → IsListingSubconstraint at number IsSite IsCovered c i j was l after
  passes ready none uncrossed = record {
    whole = listing.whole;
    passed = listing.passed ++ item_in x ∷ [];
    seeks = seeking_goes_on listing.seeks gives ready none;
    listed = other_item points_of_mesh c.mesh listing.whole.valid listing.seeks.shape i j
        (length c.directed) listing.whole.fits.directed_fit vertices_of_mesh ends_apart
        listing.passed hs listing.listed (item_in x) uncrossed;
    none = listing.none;
    room = listing.room;
  }

  pub subconstraint_walk_stays : IsReady at number IsSite IsCovered after → item_in x ≡ at_vertex i
      → IsListingSubconstraint at number IsSite IsCovered c i j was l after
  subconstraint_walk_stays ready is = passes ready (λ v e. ap first_end (sym e ∙ is))
      (λ a b e. not_crossed i a b (sym is ∙ e))

  pub subconstraint_walk_along : IsReady at number IsSite IsCovered after → (a b : ℕ)
      → item_in x ≡ along a b → IsListingSubconstraint at number IsSite IsCovered c i j was l after
  subconstraint_walk_along ready a b is = passes ready (λ v e. absurd (no_vertex v (sym e ∙ is)))
      (λ u v e. no_overlap u v (sym e ∙ is))
    where
      no_vertex : (v : ℕ) → ¬ (at_vertex v ≡ along a b)
      no_vertex v e = cc

      no_overlap : (u v : ℕ) → ¬ (across u v ≡ along a b)
      no_overlap u v e = cc

  -- where it is another vertex, all that cross the subconstraint up to it are listed
  module _ {v : ℕ} (is : item_in x ≡ at_vertex v) (other : v ≢ i) where
    all_listed : ListsAllCrossing points_of_mesh c i v hs
    all_listed = record {
      once = listing.listed.once;
      all = subconstraint_listed points_of_mesh c.mesh listing.whole.valid listing.seeks.shape i j
          (length c.directed) listing.whole.fits.directed_fit vertices_of_mesh ends_apart
          listing.passed line.0 v hs listing.listed (subst (λ (k : Item).
          IsLineList (drawn points_of_mesh c.mesh) (place points_of_mesh i)
          (place points_of_mesh j) ((listing.passed ++ k ∷ []) ++ line.0)) is line.1)
          (seeking_finds listing.seeks gives is other);
      few = few_listed points_of_mesh c.mesh listing.whole.valid listing.seeks.shape i j
          (length c.directed) listing.whole.fits.directed_fit vertices_of_mesh ends_apart
          listing.passed hs listing.listed (length c.undirected) listing.whole.fits.undirected_fit;
    }

    pub subconstraint_walk_ends : HaveRoom (length c.undirected) was → ListSubconstraint
        points_of_mesh c i j v l
    subconstraint_walk_ends fits = record {
      next = seeking_finds listing.seeks gives is other;
      turn = record {
        subconstraint = record {
          whole = listing.whole;
          free = subconstraint_is_free (drawn points_of_mesh c.mesh) i j i v
              (seeking_finds listing.seeks gives is other);
          shape = listing.seeks.shape;
        };
        crossing =
            crossing_begins l all_listed listing.none (room_stays listing.room refl fits);
      };
    }
