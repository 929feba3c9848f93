-- A vertex with inner faces all round: what turning one of its edges away from it leaves, and the
-- faces at it, those between its neighbours and no others.
-- Lemmas: turnable, turn_corners, first_again, spokes_apart, twin_is, can_turn, spokes_after,
-- start_after, ends_after, tip_after, hub_after, count_faces, no_face_of, round_faces,
-- round_faces_are, faces_round.
use Rattle.std.proofs.Common.{◌≡◌, ◌≢◌, ◌-◌, ◌<◌, ◌≤◌, ◌∙◌}
use Rattle.std.proofs.Common.{ℕ, zero, suc, true, false, List, length, get_or, refl, sym, ap, inl}
use Rattle.std.proofs.Common.{inr, arith, subst}
use Rattle.std.specs.List.{AllZip, filter}
use Rattle.std.specs.List.Sorted.{IsPermutation}
use Rattle.std.proofs.lemmas.Bool.{cases_eq}
use Rattle.std.proofs.lemmas.List.{length-map}
use Rattle.half_edge_links.specs.{AreSoundLinks, edge_at, face, face_edge, Flips, HalfEdge}
use Rattle.half_edge_links.specs.{IsFlippable, IsInner, IsValidMesh, Mesh, neighbour, next, origin}
use Rattle.half_edge_links.specs.{prev, rev, spoke, Triangle, triangle_at, triangles, turn}
use Rattle.half_edge_links.proofs.{IsTriangle, origin_kept, rev-rev, spoke_at}
use Rattle.half_edge_links.proofs.{triangle_at as loop_at, turn_in}
use Rattle.half_edge_links.proofs.Lists.Walks.{among_steps, from_steps, steps_closed, to_steps}
use Rattle.half_edge_links.proofs.Removing.Conditions.{flippable, same_spoke, turn_one}
use Rattle.half_edge_links.proofs.Removing.Conditions.{turned_apart}
use Rattle.half_edge_dcel.specs.{Contents, faces_between, full_faces, full_faces_of, FullFace}
use Rattle.half_edge_dcel.specs.{HasCorners, HasFreeTip, IsHub, IsMeshWithData}
use Rattle.half_edge_dcel.proofs.{Filtered.items_at, Filtered.taken_all, TakenOut.length-full_faces}
use Rattle.half_edge_dcel.proofs.TakenEdges.{listed_face, named_corners}
use Rattle.half_edge_dcel.proofs.Touching.{corner_there, corners_off, has_corner, which_corner}

-- the edge after one between two inner faces can be turned
module _ (m : Mesh) (o : ℕ) (v : IsValidMesh m) (within : o < length m.half_edges)
    (inner : 0 < face m o) where
  -- the next edge round the vertex can be turned, if it has an inner face too
  pub turnable : 0 < face m (turn m o) → IsFlippable m (turn m o)
  turnable second = flippable m (turn m o) v (turn_in m v o within) second
      (rw (rev-rev (prev m o), (loop_at m o v.sound within inner).face_prev) inner)

  -- it joins two vertices that differ where the ends of the edges beside it do
  pub turn_corners : neighbour m o 2 ≢ neighbour m o 0
      → origin m (prev m (turn m o)) ≢ origin m (prev m (rev (turn m o)))
  turn_corners differ q =
      let across : origin m (prev m (rev (turn m o))) ≡ neighbour m o 0 =
      ap (λ h. origin m (prev m h)) (rev-rev (prev m o)) ∙ ap (origin m)
      (loop_at m o v.sound within inner).prev_prev ∙ (v.sound.edges o within).starts in
      differ (ap (origin m) (rev-rev (prev m (turn m o))) ∙ q ∙ across)

module _ (m : Mesh) (o k : ℕ) (v : IsValidMesh m) (w : IsHub m o (suc k)) (some : 0 < k)
    (tip : HasFreeTip (neighbour m o) (suc k)) where
  -- the links fit together
  s : AreSoundLinks m
  s = v.sound

  -- each edge of the round is one of the mesh and starts at the vertex
  at : (i : ℕ) → (spoke m o i < length m.half_edges) × (origin m (spoke m o i) ≡ origin m o)
  at = spoke_at m o s w.within

  -- the first edge comes again only after the whole round
  pub first_again : (i : ℕ) → 0 < i → i < suc k → spoke m o i ≢ o
  first_again i some_steps less same =
      let no_turn : turn m o ≢ o =
      λ q. turned_apart m v o w.within (w.inner 0 (omega arith)) (ap (face m) q) in
      elim (cases_eq i 1) [
        | inl one ↦ no_turn (sym (ap (spoke m o) one) ∙ same)
        | inr more ↦ elim (cases_eq i k) [
          | inl last ↦ no_turn (ap (turn m) (sym same ∙ ap (spoke m o) last) ∙ w.round)
          | inr before ↦ tip i (omega (arith, some_steps, more)) (omega (arith, less, before))
              (ap (λ h. origin m (rev h)) same)
        ]
      ]

  -- two edges of the round differ
  pub spokes_apart : (i j : ℕ) → i < j → j < suc k → spoke m o i ≢ spoke m o j
  spokes_apart zero j less within same = first_again j less within (sym same)
  spokes_apart (suc i) zero less within same = omega (arith, less)
  spokes_apart (suc i) (suc j) less within same = spokes_apart i j (omega (arith, less))
      (omega (arith, within)) (turn_one m s _ _ (at i).0 (at j).0 same)

  -- the other side of the second edge comes before the first one
  pub twin_is : rev (turn m o) ≡ prev m o
  twin_is = rev-rev (prev m o)

  -- the three edges of the first face
  t : IsTriangle m o
  t = loop_at m o s w.within (w.inner 0 (omega arith))

  -- the second edge can be turned
  pub can_turn : IsFlippable m (turn m o)
  can_turn = flippable m (turn m o) v (at 1).0 (w.inner 1 (omega (arith, some)))
      (rw (twin_is, t.face_prev) (w.inner 0 (omega arith)))

  module _ (new : Mesh) (f : Flips m new (turn m o)) (many : 2 < k) where
    -- an edge of the vertex that is neither of the first two keeps its links
    kept_spoke : (h : ℕ) → h < length m.half_edges → origin m h ≡ origin m o → h ≢ o → h ≢ turn m o
        → edge_at new.half_edges h ≡ edge_at m.half_edges h
    kept_spoke h within same off_first off_second =
        let far = v.apart (turn m o) (at 1).0 in
        f.other_edges h off_second
        (λ q. far ((at 1).1 ∙ sym same ∙ ap (origin m) q))
        (λ q. far ((at 1).1 ∙ sym same ∙ ap (origin m) q ∙ (s.edges (turn m o) (at 1).0).starts))
        (λ q. off_first (q ∙ ap (next m) twin_is ∙ t.next_prev))
        (λ q. v.apart (spoke m o 2) (at 2).0
        ((at 2).1 ∙ sym same ∙ ap (origin m) (q ∙ sym (rev-rev (prev m (turn m o))))))
        (λ q. v.apart o w.within (sym same ∙ ap (origin m) (q ∙ ap (prev m) twin_is ∙ t.prev_prev)
        ∙ (s.edges o w.within).starts))

    kept_at : (i : ℕ) → suc (suc i) < suc k → edge_at new.half_edges (spoke m o (suc (suc i)))
        ≡ edge_at m.half_edges (spoke m o (suc (suc i)))
    kept_at i less = kept_spoke _ (at (suc (suc i))).0 (at (suc (suc i))).1
        (first_again (suc (suc i)) (omega arith) less)
        (λ q. spokes_apart 1 (suc (suc i)) (omega arith) less (sym q))

    -- the first edge has the third one after it now
    first_turn : turn new o ≡ spoke m o 2
    first_turn =
        let at_o : next m (rev (turn m o)) ≡ o = ap (next m) twin_is ∙ t.next_prev in
        ap rev (ap (prev new) (sym at_o) ∙ f.twin_next.prev)

    -- the edges after the first one are the former ones, without the one that was turned
    pub spokes_after : (i : ℕ) → 0 < i → i ≤ k → spoke new o i ≡ spoke m o (suc i)
    spokes_after zero first within = absurd (omega (arith, first))
    spokes_after (suc zero) first within = first_turn
    spokes_after (suc (suc i)) first within =
        ap (turn new) (spokes_after (suc i) (omega arith) (omega (arith, within)))
        ∙ ap (λ (x : HalfEdge). rev x.prev) (kept_at i (omega (arith, within)))

    -- the first edge still starts at the vertex
    pub start_after : origin new o ≡ origin m o
    start_after =
        let at_o : next m (rev (turn m o)) ≡ o = ap (next m) twin_is ∙ t.next_prev in
        ap (origin new) (sym at_o) ∙ f.twin_next.origin ∙ ap (origin m) at_o

    first_face : face new o ≡ face m o
    first_face =
        let at_o : next m (rev (turn m o)) ≡ o = ap (next m) twin_is ∙ t.next_prev in
        ap (face new) (sym at_o) ∙ f.twin_next.face ∙ ap (face m) twin_is ∙ t.face_prev

    -- the other end of an edge of the vertex
    far_kept : (i : ℕ) → 1 < i → i ≤ suc k
        → origin new (rev (spoke m o i)) ≡ origin m (rev (spoke m o i))
    far_kept i more within =
        let h : ℕ = spoke m o i in
        let off : h ≢ turn m o = λ q. elim (cases_eq i (suc k)) [
          | inl last ↦ first_again 1 (omega arith) (omega (arith, some))
              (sym q ∙ ap (spoke m o) last ∙ w.round)
          | inr before ↦ spokes_apart 1 i more (omega (arith, within, before)) (sym q)
        ] in
        let far = v.apart (turn m o) (at 1).0 in
        origin_kept m new (turn m o) s can_turn f (rev h)
        (λ q. far ((at 1).1 ∙ sym (at i).1 ∙ ap (origin m) (sym (rev-rev h) ∙ ap rev q)))
        (λ q. off (sym (rev-rev h) ∙ ap rev q ∙ rev-rev (turn m o)))

    -- the neighbours follow each other as before
    pub ends_after : (i : ℕ) → 0 < i → i ≤ k → neighbour new o i ≡ neighbour m o (suc i)
    ends_after i first within = ap (λ h. origin new (rev h)) (spokes_after i first within)
        ∙ far_kept (suc i) (omega (arith, first)) (omega (arith, within))

    -- the first neighbour stays
    pub tip_after : neighbour new o 0 ≡ neighbour m o 0
    tip_after = ap (λ h. origin new (rev h)) (sym w.round)
        ∙ far_kept (suc k) (omega (arith, some)) (omega arith) ∙ ap (λ h. origin m (rev h)) w.round

    -- the vertex has one edge less, and the others in the same order
    pub hub_after : IsHub new o k
    hub_after = record {
      within = rw f.edge_count w.within;
      inner = inner;
      round = spokes_after k some (omega arith) ∙ w.round;
    }
      where
        inner : (i : ℕ) → i < k → 0 < face new (spoke new o i)
        inner zero within = rw first_face (w.inner 0 (omega arith))
        inner (suc i) within =
            let same : face new (spoke new o (suc i)) ≡ face m (spoke m o (suc (suc i))) =
            ap (face new) (spokes_after (suc i) (omega arith) (omega (arith, within)))
            ∙ ap (λ (x : HalfEdge). x.face) (kept_at i (omega (arith, within))) in
            rw same (w.inner (suc (suc i)) (omega (arith, within)))

-- where each inner face has its data, there are as many faces with their data as inner faces
pub count_faces : {F : Type 0} (m : Mesh) (fs : List F) → length fs ≡ length m.face_edges
    → length (full_faces_of (triangles m) fs) ≡ length m.face_edges
count_faces m fs fits = let n = length-map m.face_edges (triangle_at m) in
    length-full_faces (triangles m) fs (fits ∙ sym n) ∙ n

-- a face without vertex v as a corner
pub no_face_of : {F : Type 0} → ℕ → F → FullFace F
no_face_of v value =
    record { corners = record { first = suc v; second = suc v; third = suc v }; value = value }

-- the face that is made not to have corner v does not have it
no_face-off : {F : Type 0} (v : ℕ) (value : F) → has_corner v (no_face_of v value) ≡ false
unfolding no_face_of
no_face-off v value = corners_off v (no_face_of v value) (λ q. absurd (omega (arith, q)))
    (λ q. absurd (omega (arith, q))) (λ q. absurd (omega (arith, q)))

module _ {V D U F : Type 0} (c : Contents V D U F) (o j : ℕ) (whole : IsMeshWithData c) (w :
    IsHub c.mesh o (suc j)) (some : 0 < j) (tip : HasFreeTip (neighbour c.mesh o) (suc j)) where
  abbrev m : Mesh
  m = c.mesh

  -- the mesh is valid
  abbrev val : IsValidMesh m
  val = whole.valid

  abbrev v : ℕ
  v = origin m o

  -- a face to read where a list has none
  abbrev d : FullFace F
  d = no_face_of v c.outer

  spoke_in : (i : ℕ) → (spoke m o i < length m.half_edges) × (origin m (spoke m o i) ≡ origin m o)
  spoke_in = spoke_at m o val.sound w.within

  -- the place of the i-th face round the vertex
  abbrev place : ℕ → ℕ
  place i = face m (spoke m o i) - 1

  inner_at : (i : ℕ) → i < suc j → IsInner m (face m (spoke m o i))
  inner_at i less = (w.inner i less, (val.sound.edges _ (spoke_in i).0).face_in)

  places_in : (i : ℕ) → i < suc j → place i < length (full_faces c)
  places_in i less = let n = count_faces m c.faces whole.fits.faces_fit in
      let f = inner_at i less in omega (arith, n, f.0, f.1)

  places_apart : (i k : ℕ) → i < k → k < suc j → place i ≢ place k
  places_apart i k less within same =
      let a = w.inner i (omega (arith, less, within)) in
      let b = w.inner k within in
      let one : face m (spoke m o i) ≡ face m (spoke m o k) = omega (arith, same, a, b) in
      spokes_apart m o j val w some tip i k less within (same_spoke m val (spoke m o k)
      (spoke_in k).0 (spoke m o i) (spoke_in i).0 b one ((spoke_in i).1 ∙ sym (spoke_in k).1))

  corners_at : (i : ℕ) → i < suc j → HasCorners (get_or (full_faces c) (place i) d)
      (record { first = v; second = neighbour m o i; third = neighbour m o (suc i) })
  corners_at i less =
      let h : ℕ = spoke m o i in
      let is : triangle_at m h
      ≡ record { first = v; second = neighbour m o i; third = neighbour m o (suc i) } =
      λ t. record {
        first = (spoke_in i).1 t;
        second = (val.sound.edges h (spoke_in i).0).starts t;
        third = ap (origin m) (sym (rev-rev (prev m h))) t;
      } in
      subst (HasCorners (get_or (full_faces c) (place i) d)) is
      (named_corners m h (get_or (full_faces c) (place i) d) val.sound (spoke_in i).0
      (w.inner i less) (ap (λ (x : FullFace F). x.corners)
      (listed_face m c.faces (face m h) whole.fits.faces_fit (inner_at i less) d)))

  -- each edge of the vertex is one of its round
  only : (g : ℕ) → g < length m.half_edges → origin m g ≡ v → (i : ℕ) × (i ≤ j) × (g ≡ spoke m o i)
  only g g_in same = from_steps (turn m) o j g
      (val.stars (among_steps (turn m) o j) (λ h h_in is. steps_closed (turn m) o j w.round h is) o
      g w.within g_in (sym same) (to_steps (turn m) o j 0 (omega arith)))

  -- a face with the vertex as a corner is one of them
  all_places : (i : ℕ) → i < length (full_faces c) → has_corner v (get_or (full_faces c) i d) ≡ true
      → (k : ℕ) × (k < suc j) × (place k ≡ i)
  all_places i within is =
      let n = count_faces m c.faces whole.fits.faces_fit in
      let f : ℕ = suc i in
      let inner : IsInner m f = (omega arith, omega (arith, within, n)) in
      let h : ℕ = face_edge m f in
      let named = val.sound.faces f inner.0 inner.1 in
      let i_is : f - 1 ≡ i = omega arith in
      let listed : (get_or (full_faces c) i d).corners ≡ triangle_at m h =
      ap (λ q. (get_or (full_faces c) q d).corners) (sym i_is) ∙ ap
      (λ (x : FullFace F). x.corners) (listed_face m c.faces f whole.fits.faces_fit inner d) in
      let t : IsTriangle m h = loop_at m h val.sound named.0 (rw named.1 inner.0) in
      let from : (g : ℕ) → g < length m.half_edges → face m g ≡ face m h → origin m g ≡ v
      → (k : ℕ) × (k < suc j) × (place k ≡ i) =
      λ g g_in one at_v. let found = only g g_in at_v in (
        found.0,
        omega (arith, found.1),
        ap (λ e. face m e - 1) (sym found.2) ∙ ap (λ e. e - 1) (one ∙ named.1) ∙ i_is,
      ) in
      elim (which_corner v (get_or (full_faces c) i d) is) [
        | inl q ↦ from h named.0 refl (sym (ap (λ (x : Triangle). x.first) listed) ∙ q)
        | inr r ↦ elim r [
          | inl q ↦ from (next m h) t.next_in t.face_next
              (sym (ap (λ (x : Triangle). x.second) listed) ∙ q)
          | inr q ↦ from (prev m h) t.prev_in t.face_prev
              (sym (ap (λ (x : Triangle). x.third) listed) ∙ q)
        ]
      ]

  -- the faces round the vertex, the last of them first
  pub round_faces : List (FullFace F)
  round_faces = items_at (has_corner v) place (full_faces c) d (no_face-off v c.outer) (suc j)

  zip_up_to : (i : ℕ) → i ≤ suc j
      → AllZip HasCorners (items_at (has_corner v) place (full_faces c) d (no_face-off v c.outer) i)
      (faces_between v (neighbour m o) i)
  unfolding items_at
  zip_up_to zero less = tt
  zip_up_to (suc i) less = (corners_at i (omega (arith, less)), zip_up_to i (omega (arith, less)))

  -- these faces have the corners of those between the neighbours, in the same order
  pub round_faces_are : AllZip HasCorners round_faces (faces_between v (neighbour m o) (suc j))
  unfolding round_faces
  round_faces_are = zip_up_to (suc j) (omega arith)

  -- they are all faces with the vertex as a corner
  pub faces_round : IsPermutation (filter (has_corner v) (full_faces c)) round_faces
  unfolding round_faces
  faces_round = taken_all (has_corner v) place (full_faces c) d (no_face-off v c.outer)
      (suc j) places_in places_apart (λ i less. corner_there v (get_or (full_faces c) (place i) d)
      (record { first = v; second = neighbour m o i; third = neighbour m o (suc i) })
      (corners_at i less) refl) all_places
