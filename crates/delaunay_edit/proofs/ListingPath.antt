-- The edges along a path, listed one after another by a walk.
-- Notions: IsListing, IsListingWalk; listing_begins, listing_apart, listing_has_room,
-- listing_goes_on, listing_ends, listing_walk_begins, listing_walk_whole, listing_walk_ends,
-- listing_walk_crosses, listing_walk_along, listing_walk_stays, listing_walk_next,
-- listing_walk_goes_on.
use Rattle.std.proofs.Common.{◌≡◌, ◌≢◌, ◌⊎◌, ◌+◌, ◌<◌, ◌≤◌, [], ◌∷◌, ◌++◌, ◌∙◌}
use Rattle.std.proofs.Common.{ℕ, List, length, map, Some, None, sym, subst, inl, inr}
use Rattle.std.proofs.Common.{arith, append_assoc, append-nil, length-append}
use Rattle.std.specs.Prelude.{ℤ, pos, negsuc, ◌*ℤ◌, ◌≤ℤ◌, ◌<ℤ◌, nat_abs}
use Rattle.std.proofs.lemmas.List.Elements.{Contains-append_left}
use Rattle.std.proofs.lemmas.Bool.{cases_eq}
use Rattle.std.proofs.lemmas.Int.{ints}
use Rattle.plane.specs.{across, along, at_vertex, gap, IsIndex, IsLineList, IsNearer, Item}
use Rattle.plane.specs.{OnSegment, place, Point, squared_vector, whole}
use Rattle.half_edge_links.specs.{Mesh, origin, rev}
use Rattle.plane_theorems.specs.{AreNextOn, ArePlacedApart, IsMesh, nearer_count, point_of}
use Rattle.plane_theorems.proofs.{path_ends, path_goes_on, path_shortens}
use Rattle.plane_theorems.proofs.Delaunay.Circles.NearerCount.{nearer_count_falls}
use Rattle.plane_theorems.proofs.Edits.Legalization.Legal.{squared_way_nonneg}
use Rattle.plane_theorems.proofs.Segments.Constraints.Subconstraints.{path_begins}
use Rattle.half_edge_dcel.specs.{Contents, IsMeshWithData}
use Rattle.delaunay_legalization.specs.{drawn, faces_of, outer_of, point_at, state_of}
use Rattle.delaunay_location.specs.{GivesNext, Intersection, IsReady, item_in}
use Rattle.delaunay_location.specs.{LineIntersectionIterator, WalksLine}
use Rattle.{delaunay_edit.specs.LeadAlong, delaunay_legalization.proofs.contains_last}
use Rattle.delaunay_edit.proofs.PassedVertices.{HasReached, next_after, reached_begins}
use Rattle.delaunay_edit.proofs.PassedVertices.{reached_ends, reached_next, reached_stays}
use Rattle.delaunay_edit.proofs.Passing.{all_passed, HasPassed, list_with, none_passed}
use Rattle.delaunay_edit.proofs.Passing.{one_more_passed, passed_kept}
use Rattle.delaunay_edit.proofs.Places.{gap_is_way_back, no_same_place}
use Rattle.delaunay_edit.proofs.Walking.{in_map, placed_apart}

-- ---- the next vertex is nearer to the end
less_of_abs : (x y : ℤ) → pos 0 ≤ℤ x → pos 0 ≤ℤ y → nat_abs x < nat_abs y → x <ℤ y
less_of_abs (pos a) (pos b) h k l = omega (arith, ints, l)
less_of_abs (pos a) (negsuc b) h k l = absurd (omega (arith, ints, k))
less_of_abs (negsuc a) y h k l = absurd (omega (arith, ints, h))

by_one : (x : ℤ) → x *ℤ (pos 1 *ℤ pos 1) ≡ x
by_one x = omega (arith, ints)

nearer_by_way : (j v w : Point) → squared_vector v j <ℤ squared_vector w j
    → IsNearer (whole j) (whole v) (whole w)
nearer_by_way j v w h = record {
  nearer = subst (λ (x : ℤ × ℤ). x.0 <ℤ x.1)
      (λ o. (
        (sym (gap_is_way_back j v) ∙ sym (by_one (gap (whole j) (whole v)))) o,
        (sym (gap_is_way_back j w) ∙ sym (by_one (gap (whole j) (whole w)))) o,
      )) h;
}

-- ---- the list
module _ (points : List Point) (m : Mesh) (distinct : ArePlacedApart points) where
  falls : (j w v : ℕ) → IsIndex points j → IsIndex points w → w ≢ j → AreNextOn points w j w v
      → (nearer_count (drawn points m) (place points j) v < nearer_count (drawn points m)
      (place points j) w) × (nearer_count (drawn points m) (place points j) w < length points)
  falls j w v hj hw on_way next =
      nearer_count_falls (drawn points m) (place points j) w v hw next.second_index
      (nearer_by_way (point_of points j) (point_of points v) (point_of points w)
      (less_of_abs (squared_vector (point_of points v) (point_of points j))
      (squared_vector (point_of points w) (point_of points j))
      (squared_way_nonneg (point_of points v) (point_of points j))
      (squared_way_nonneg (point_of points w) (point_of points j))
      (path_shortens points w j v distinct hw hj on_way next)))

-- the edges so far lead to w, and there are fewer than vertices
pub record IsListing (points : List Point) (m : Mesh) (i j w : ℕ) (listed : List ℕ)
    (room_was room : ℕ) : Type 0 where
  pub distinct : ArePlacedApart points
  pub to : IsIndex points j
  pub within : IsIndex points w
  pub rest : (a b : ℕ) → AreNextOn points w j a b → AreNextOn points i j a b
  pub so_far : (more : List ℕ) → LeadAlong points m w j more
      → LeadAlong points m i j (listed ++ more)
  pub few : (w ≡ j)
      ⊎ (length listed + nearer_count (drawn points m) (place points j) w < length points)
  pub room_stays : room ≡ room_was

-- at i no edge is listed
pub listing_begins : {V : Type 0} (at : V → Point) (vs : List V) {m : Mesh} {i j : ℕ}
    {listed : List ℕ} {room_was room : ℕ}
    → IsMesh (map at vs) (faces_of m) (outer_of m) → i < length vs
    → j < length vs → listed ≡ [] → room ≡ room_was
    → IsListing (map at vs) m i j i listed room_was room
listing_begins at vs {m = m} {i = i} {j = j} {room_was = room_was} {room = room} shape from_in to_in
    none stays =
    let distinct = placed_apart (map at vs) (faces_of m) (outer_of m) shape in
    let from = in_map at vs i from_in in
    let to = in_map at vs j to_in in
    subst (λ (hs : List ℕ). IsListing (map at vs) m i j i hs room_was room)
    (sym none) (record {
      distinct = distinct;
      to = to;
      within = from;
      rest = λ a b x. x;
      so_far = λ more x. x;
      few = elim (cases_eq i j) [
        | inl e ↦ inl e
        | inr n ↦ (let b = path_begins (map at vs) i j distinct from to n in
            let f = falls (map at vs) m distinct j i b.0 to from n b.1 in let g = f.1 in
            inr (omega (arith, g)))
      ];
      room_stays = stays;
    })

module _ {points : List Point} {m : Mesh} {i j w : ℕ} {listed : List ℕ} {room_was room : ℕ}
    (p : IsListing points m i j w listed room_was room) where
  module _ {v : ℕ} (next : AreNextOn points w j w v) where
    -- w is not the end yet
    pub listing_apart : w ≢ j
    listing_apart is = path_ends points j p.distinct w v
        (subst (λ (k : ℕ). AreNextOn points k j w v) is next)

    few_now : length listed + nearer_count (drawn points m) (place points j) w < length points
    few_now = elim p.few [ inl e ↦ absurd (listing_apart e) | inr f ↦ f ]

    -- before j there is room for one more edge
    pub listing_has_room : {n len : ℕ} → length points ≡ n → n ≤ room_was → len ≡ length listed
        → len < room
    listing_has_room count enough is =
        let f = few_now in let s = p.room_stays in omega (arith, f, count, enough, s, is)

    -- an edge from w to the next vertex brings the list to this vertex
    pub listing_goes_on : (h : ℕ) {more : List ℕ} {room_now : ℕ} → h < length m.half_edges
        → origin m h ≡ w → origin m (rev h) ≡ v → more ≡ listed ++ h ∷ [] → room_now ≡ room
        → IsListing points m i j v more room_was room_now
    listing_goes_on h {more = more} {room_now = room_now} within source target is stays =
        subst (λ (hs : List ℕ). IsListing points m i j v hs room_was room_now) (sym is) (record {
          distinct = p.distinct;
          to = p.to;
          within = next.second_index;
          rest = λ a b x. p.rest a b
              ((path_goes_on points w j v p.distinct p.to listing_apart next a b).1 (inr x));
          so_far =
              λ rest x. subst (λ (hs : List ℕ). LeadAlong points m i j hs)
              (sym (append_assoc listed (h ∷ []) rest))
              (p.so_far (h ∷ rest) (
                within,
                source,
                subst (AreNextOn points w j w) (sym target) next,
                subst (λ (k : ℕ). LeadAlong points m k j rest) (sym target) x,
              ));
          few = (let f = few_now in
              let g = (falls points m p.distinct j w v p.to p.within listing_apart next).0 in
              let l = length-append listed (h ∷ []) in inr (omega (arith, f, g, l)));
          room_stays = stays ∙ p.room_stays;
        })

  -- at j the edges of the list lead along the path
  pub listing_ends : w ≡ j → LeadAlong points m i j listed
  listing_ends is = subst (LeadAlong points m i j) (append-nil listed) (p.so_far [] is)

-- ---- the walk
same_vertex : {v w : ℕ} → at_vertex w ≡ at_vertex v → w ≡ v
same_vertex is = cc

-- vertex v is the last that was passed on the way from i to j, and the edges up to it are listed
pub record IsListingWalk {V D U F P S : Type 0} (at : V → Point) (number : S → ℤ)
    (IsSite IsCovered : P → Point → Type 0) (c : Contents V D U F) (i j v : ℕ) (listed : List ℕ)
    (room_was room : ℕ) (now : LineIntersectionIterator V D U F P S) : Type 0 where
  pub from : IsIndex (map at c.vertices) i
  pub apart : i ≢ j
  pub passed : List Item
  pub so_far : HasPassed at number IsSite IsCovered (state_of c) (point_at (map at c.vertices) i)
      (point_at (map at c.vertices) j) passed now
  pub reached : HasReached (map at c.vertices) i j passed v
  pub listing : IsListing (map at c.vertices) c.mesh i j v listed room_was room

-- at the beginning it is i
pub listing_walk_begins : {V D U F P S : Type 0} {at : V → Point} {number : S → ℤ}
    {IsSite IsCovered : P → Point → Type 0} {c : Contents V D U F} {i j : ℕ} {listed : List ℕ}
    {room_was room : ℕ} {it : LineIntersectionIterator V D U F P S}
    → i < length c.vertices → j < length c.vertices → i ≢ j
    → IsReady at number IsSite IsCovered it
    → WalksLine at number (state_of c) (point_at (map at c.vertices) i)
    (point_at (map at c.vertices) j) it → listed ≡ [] → room ≡ room_was
    → IsListingWalk at number IsSite IsCovered c i j i listed room_was room it
listing_walk_begins {at = at} {number = number} {IsSite = IsSite} {IsCovered = IsCovered} {c = c}
    {i = i} {j = j} {it = it} from_in to_in apart ready walks none stays =
    let from = in_map at c.vertices i from_in in
    let so_far = none_passed at number IsSite IsCovered (state_of c)
    (point_at (map at c.vertices) i) (point_at (map at c.vertices) j) it ready walks in record {
      from = from;
      apart = apart;
      passed = [];
      so_far = so_far;
      reached = reached_begins (map at c.vertices) i j from;
      listing = listing_begins at c.vertices (passed_kept so_far).shape from_in to_in none stays;
    }

module _ {V D U F P S : Type 0} {at : V → Point} {number : S → ℤ}
    {IsSite IsCovered : P → Point → Type 0} {c : Contents V D U F} {i j v : ℕ} {listed : List ℕ}
    {room_was room : ℕ} {now : LineIntersectionIterator V D U F P S}
    (walk : IsListingWalk at number IsSite IsCovered c i j v listed room_was room now) where
  abbrev points : List Point
  points = map at c.vertices

  -- the mesh holds its data
  pub listing_walk_whole : IsMeshWithData c
  listing_walk_whole =
      let kept = passed_kept walk.so_far in record { valid = kept.valid; fits = kept.fits }

  -- at its end all are listed
  pub listing_walk_ends : {after : LineIntersectionIterator V D U F P S}
      → GivesNext at number now None after → LeadAlong points c.mesh i j listed
  listing_walk_ends {after = after} gives = listing_ends walk.listing
      (reached_ends points c.mesh walk.listing.distinct i j walk.from walk.listing.to walk.apart
      walk.passed v walk.reached (all_passed at number IsSite IsCovered (state_of c)
      (point_at points i) (point_at points j) walk.passed now after walk.so_far gives))

  -- ---- it meets one more item
  module _ {after : LineIntersectionIterator V D U F P S} {x : Intersection V D U F}
      (gives : GivesNext at number now (Some x) after) where
    line : (others : List Item) × IsLineList (drawn points c.mesh) (place points i)
        (place points j) ((walk.passed ++ item_in x ∷ []) ++ others)
    line = list_with at number IsSite IsCovered (state_of c) (point_at points i)
        (point_at points j) walk.passed now after walk.so_far x gives

    passed_on : IsReady at number IsSite IsCovered after
        → HasPassed at number IsSite IsCovered (state_of c) (point_at points i)
        (point_at points j) (walk.passed ++ item_in x ∷ []) after
    passed_on ready = one_more_passed at number IsSite IsCovered (state_of c) (point_at points i)
        (point_at points j) walk.passed now after walk.so_far x gives ready

    stays : IsReady at number IsSite IsCovered after
        → ((w : ℕ) → item_in x ≡ at_vertex w → w ≡ v)
        → IsListingWalk at number IsSite IsCovered c i j v listed room_was room after
    stays ready none = record {
      from = walk.from;
      apart = walk.apart;
      passed = walk.passed ++ item_in x ∷ [];
      so_far = passed_on ready;
      reached = reached_stays points c.mesh walk.listing.distinct i j walk.from walk.listing.to
          walk.apart walk.passed v walk.reached (item_in x) none;
      listing = walk.listing;
    }

    -- an edge changes nothing
    pub listing_walk_crosses : IsReady at number IsSite IsCovered after → (a b : ℕ)
        → item_in x ≡ across a b
        → IsListingWalk at number IsSite IsCovered c i j v listed room_was room after
    listing_walk_crosses ready a b is = stays ready (λ w e. absurd (no_vertex w (sym e ∙ is)))
      where
        no_vertex : (w : ℕ) → ¬ (at_vertex w ≡ across a b)
        no_vertex w e = cc

    pub listing_walk_along : IsReady at number IsSite IsCovered after → (a b : ℕ)
        → item_in x ≡ along a b
        → IsListingWalk at number IsSite IsCovered c i j v listed room_was room after
    listing_walk_along ready a b is = stays ready (λ w e. absurd (no_vertex w (sym e ∙ is)))
      where
        no_vertex : (w : ℕ) → ¬ (at_vertex w ≡ along a b)
        no_vertex w e = cc

    -- nor does the vertex itself
    pub listing_walk_stays : IsReady at number IsSite IsCovered after → item_in x ≡ at_vertex v
        → IsListingWalk at number IsSite IsCovered c i j v listed room_was room after
    listing_walk_stays ready is = stays ready (λ w e. same_vertex (sym e ∙ is))

    -- another vertex ends the next subconstraint
    module _ {w : ℕ} (is : item_in x ≡ at_vertex w) (other : w ≢ v) where
      w_line : IsLineList (drawn points c.mesh) (place points i) (place points j)
          ((walk.passed ++ at_vertex w ∷ []) ++ line.0)
      w_line = subst (λ (k : Item). IsLineList (drawn points c.mesh) (place points i)
          (place points j) ((walk.passed ++ k ∷ []) ++ line.0)) is line.1

      w_met : IsIndex points w × OnSegment (place points i) (place points j) (place points w)
      w_met = w_line.met
          (no_same_place points walk.listing.distinct i j walk.from walk.listing.to walk.apart)
          (at_vertex w) (Contains-append_left (walk.passed ++ at_vertex w ∷ []) line.0 (at_vertex w)
          (contains_last walk.passed (at_vertex w)))

      pub listing_walk_next : AreNextOn points v j v w
      listing_walk_next = next_after points c.mesh walk.listing.distinct i j walk.from
          walk.listing.to walk.apart walk.passed v walk.reached w other w_met.0 w_met.1 line.0
          w_line

      -- and its edge is listed
      pub listing_walk_goes_on : IsReady at number IsSite IsCovered after → {h : ℕ}
          → (h < length c.directed) × (origin c.mesh h ≡ v) × (origin c.mesh (rev h) ≡ w)
          → {more : List ℕ} → more ≡ listed ++ h ∷ [] → {room_now : ℕ} → room_now ≡ room
          → IsListingWalk at number IsSite IsCovered c i j w more room_was room_now after
      listing_walk_goes_on ready {h = h} edge pushed keeps = record {
        from = walk.from;
        apart = walk.apart;
        passed = walk.passed ++ item_in x ∷ [];
        so_far = passed_on ready;
        reached = subst (λ (k : Item). HasReached points i j (walk.passed ++ k ∷ []) w) (sym is)
            (reached_next points c.mesh walk.listing.distinct i j walk.from walk.listing.to
            walk.apart walk.passed v walk.reached w other w_met.0 w_met.1 line.0 w_line);
        listing = listing_goes_on walk.listing listing_walk_next h
            (subst (λ (n : ℕ). h < n) listing_walk_whole.fits.directed_fit edge.0) edge.1 edge.2
            pushed keeps;
      }
