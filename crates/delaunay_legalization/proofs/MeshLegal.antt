-- One step of legalising a mesh: an edge that passes is dropped from the work list, one that fails
-- is turned and leaves the four edges around it.
-- IsListedEdge m ks u v h: h goes from u to v, and its undirected edge is in ks
-- joins_edge, joins_directed: the ends of a listed edge are joined, by its index and by a directed
--   edge
-- listed_edge: two vertices that listed edges join have such a directed edge
-- own_indexes: each edge and face of a mesh has one index
-- line_has_none: a mesh without faces has no face with given corners
-- local_of: a mesh with an inner face is a `LocalMesh`
-- between_inner: an edge with an inner face on each side may be turned
-- dropped: an edge that is a constraint or does not fail may leave the work list
-- flip_is_local: the mesh after the turn is a `LocalMesh`
-- none_or_some: a number is 0 or positive
use Rattle.std.proofs.Common.{◌≡◌, ◌⊎◌, ◌↔◌, ◌+◌, ◌-◌, ◌*◌, ◌/◌, ◌<◌, ◌≤◌, [], ◌∷◌, ◌++◌, ◌∙◌}
use Rattle.std.proofs.Common.{ℕ, suc, List, length, refl, sym, ap, subst, arith}
use mathlib.Core.Logic.{inl, inr, ◌≢◌}
use Rattle.std.specs.Prelude.{Contains}
use Rattle.std.proofs.lemmas.Bool.{cases_eq}
use Rattle.std.proofs.Math.Nat.{mul-le-mul_right, suc-mul}
use Rattle.std.proofs.lemmas.List.{length-append}
use Rattle.plane.specs.{Face, face as corners, InsideCircle, IsSamePair, Joins, place, Point}
use Rattle.{plane.specs.TurnsLeft, plane_theorems.proofs.Edits.Legalization.Flipping.third_unique}
use Rattle.half_edge_links.specs.{AreSixPlaces, AreSoundLinks, face, flipped, Flips, FlipsTriangles}
use Rattle.half_edge_links.specs.{IsFlippable, IsInnerEdge, IsValidMesh, KeepsOuter, Mesh, next}
use Rattle.half_edge_links.specs.{origin, prev, rev}
use Rattle.half_edge_links.proofs.{flips, origin_kept, rev-rev, rev_differs, rev_within}
use Rattle.half_edge_links.proofs.Faces.FlipTriangles.{triangles_flipped}
use Rattle.half_edge_links.proofs.Faces.KeepsOuter.{outer_flipped_is}
use Rattle.plane_theorems.specs.{AllPassBut, AreAway, FacesChange, IsFaceOf, IsMesh, lifted_volume}
use Rattle.plane_theorems.specs.{Edits.Legal.IsRoundSide, LocalMesh, Pass}
use Rattle.plane_theorems.proofs.{by_signs, Contains-head, Contains-none, corners_differ, once_none}
use Rattle.plane_theorems.proofs.{one_question, point_at, turning_of}
use Rattle.plane_theorems.proofs.Edits.Legalization.Away.{away_is_bounded, flip_goes_away}
use Rattle.plane_theorems.proofs.Edits.Legalization.Flipping.{failing_is_convex, flip_leaves_sides}
use Rattle.plane_theorems.proofs.Edits.Legalization.Flipping.{flip_lowers, passing_is_dropped}
use Rattle.delaunay_legalization.specs.{AreEdges, faces_of, Gains, GainsRound, IsFailing}
use Rattle.delaunay_legalization.specs.{IsPartlyLegal, KeepsIndexes, outer_of, pair_at, pairs_at}
use Rattle.delaunay_legalization.proofs.EdgePairs.{half_of_even, half_of_odd, rev_of_even}
use Rattle.delaunay_legalization.proofs.{FaceChanges.turned_faces, TurnedEnds.other_ends_stay}
use Rattle.delaunay_legalization.proofs.MeshEdits.{end_of_twin, face_before, face_behind}
use Rattle.delaunay_legalization.proofs.MeshEdits.{flip_kept_by, flipped_faces, start_of_twin}
use Rattle.delaunay_legalization.proofs.MeshStays.{halved, keeps_indexes, stays_none, stays_turned}
use Rattle.delaunay_legalization.proofs.{OuterChanges.own_ends, WorkLists.same_map}
use Rattle.{delaunay_legalization.proofs.OuterEdges.listed, delaunay_legalization.specs.steps_left}
use Rattle.delaunay_legalization.proofs.TurnedEnds.{ends_at_next, KeepsOtherOrigins}
use Rattle.delaunay_legalization.proofs.WorkLists.{at_most_so_many, contains_before, contains_last}
use Rattle.delaunay_legalization.proofs.WorkLists.{contains_map, contains_map_from, last_not_before}
use Rattle.delaunay_legalization.proofs.WorkLists.{last_or_before, once_after, once_before}
use Rattle.half_edge_links.proofs.Sound.Triangles as T
use Rattle.plane_theorems.proofs.Tiling.Covering as C
use Rattle.plane_theorems.proofs.Tiling.Loops as L
pub use Rattle.plane.proofs.{same_joined, turned_join}

-- ---- the edges of a work list
-- the pairs of a work list join the two ends of each edge in it
pub joins_edge : (m : Mesh) (ks : List ℕ) (k : ℕ) → Contains ks k
    → Joins (pairs_at m ks) (origin m (2 * k)) (origin m (rev (2 * k)))
joins_edge m ks k h = inl (contains_map (pair_at m) ks k h)

-- by either of its directions
pub joins_directed : (m : Mesh) (ks : List ℕ) (h : ℕ) → Contains ks (h / 2)
    → Joins (pairs_at m ks) (origin m h) (origin m (rev h))
joins_directed m ks h c = elim (halved h) [
  | inl e ↦ subst (λ (x : ℕ). Joins (pairs_at m ks) (origin m x) (origin m (rev x))) e
      (joins_edge m ks (h / 2) c)
  | inr e ↦ turned_join (pairs_at m ks) (origin m (rev h)) (origin m h)
      (subst (λ (x : ℕ). Joins (pairs_at m ks) (origin m (rev h)) (origin m x)) (rev-rev h)
      (subst (λ (x : ℕ). Joins (pairs_at m ks) (origin m x) (origin m (rev x))) e
      (joins_edge m ks (h / 2) c)))
]

-- a directed edge of a pair that listed edges join
pub record IsListedEdge (m : Mesh) (ks : List ℕ) (u v h : ℕ) : Type 0 where
  pub start : origin m h ≡ u
  pub end : origin m (rev h) ≡ v
  pub listed : Contains ks (h / 2)

-- there is one
pub listed_edge : (m : Mesh) (ks : List ℕ) (u v : ℕ) → Joins (pairs_at m ks) u v
    → (h : ℕ) × IsListedEdge m ks u v h
listed_edge m ks u v (inl x) =
    let r = contains_map_from (pair_at m) ks (u, v) x in (
      2 * r.0,
      record {
        start = ap (λ (y : ℕ × ℕ). y.0) r.2;
        end = ap (λ (y : ℕ × ℕ). y.1) r.2;
        listed = subst (λ (k : ℕ). Contains ks k) (sym (half_of_even r.0)) r.1;
      },
    )
listed_edge m ks u v (inr x) =
    let r = contains_map_from (pair_at m) ks (v, u) x in (
      rev (2 * r.0),
      record {
        start = ap (λ (y : ℕ × ℕ). y.1) r.2;
        end = ap (origin m) (rev-rev (2 * r.0)) ∙ ap (λ (y : ℕ × ℕ). y.0) r.2;
        listed = subst (λ (k : ℕ). Contains ks k)
            (sym (half_of_odd r.0 (rev (2 * r.0)) (rev_of_even r.0))) r.1;
      },
    )

-- an edge of the list with its last one, by its ends
last_or_joined : (m : Mesh) (ks : List ℕ) (k i j : ℕ) → Joins (pairs_at m (ks ++ k ∷ [])) i j
    → IsSamePair i j (origin m (2 * k)) (origin m (rev (2 * k)))
    ⊎ ((l : ℕ) × Contains ks l × IsSamePair i j (origin m (2 * l)) (origin m (rev (2 * l))))
last_or_joined m ks k i j (inl h) = go (contains_map_from (pair_at m) (ks ++ k ∷ []) (i, j) h)
  where
    go : (l : ℕ) × Contains (ks ++ k ∷ []) l × (pair_at m l ≡ (i, j))
        → IsSamePair i j (origin m (2 * k)) (origin m (rev (2 * k)))
        ⊎ ((l : ℕ) × Contains ks l × IsSamePair i j (origin m (2 * l)) (origin m (rev (2 * l))))
    go r = elim (last_or_before ks k r.0 r.1) [
      | inl e ↦ inl (subst (λ (x : ℕ). IsSamePair i j (origin m (2 * x)) (origin m (rev (2 * x)))) e
          (inl (sym (ap (λ (x : ℕ × ℕ). x.0) r.2), sym (ap (λ (x : ℕ × ℕ). x.1) r.2))))
      | inr c ↦
          inr (r.0, c, inl (sym (ap (λ (x : ℕ × ℕ). x.0) r.2), sym (ap (λ (x : ℕ × ℕ). x.1) r.2)))
    ]
last_or_joined m ks k i j (inr h) = go (contains_map_from (pair_at m) (ks ++ k ∷ []) (j, i) h)
  where
    go : (l : ℕ) × Contains (ks ++ k ∷ []) l × (pair_at m l ≡ (j, i))
        → IsSamePair i j (origin m (2 * k)) (origin m (rev (2 * k)))
        ⊎ ((l : ℕ) × Contains ks l × IsSamePair i j (origin m (2 * l)) (origin m (rev (2 * l))))
    go r = elim (last_or_before ks k r.0 r.1) [
      | inl e ↦ inl (subst (λ (x : ℕ). IsSamePair i j (origin m (2 * x)) (origin m (rev (2 * x)))) e
          (inr (sym (ap (λ (x : ℕ × ℕ). x.1) r.2), sym (ap (λ (x : ℕ × ℕ). x.0) r.2))))
      | inr c ↦
          inr (r.0, c, inr (sym (ap (λ (x : ℕ × ℕ). x.1) r.2), sym (ap (λ (x : ℕ × ℕ). x.0) r.2)))
    ]

-- ---- an edge between two inner faces
module _ (points : List Point) (m : Mesh) (s : IsValidMesh m) (local :
    LocalMesh points (faces_of m) (outer_of m)) (e : ℕ) (within : e < length m.half_edges) where
  twin_within : rev e < length m.half_edges
  twin_within = rev_within e (length m.half_edges) s.sound.even within

  ends_meet : origin m (next m e) ≡ origin m (rev e)
  ends_meet = (s.sound.edges e within).starts

  -- no face stands where the outer one is
  pub no_outer_face : face m e ≡ 0 → (k : ℕ)
      → ¬ IsFaceOf (faces_of m) (origin m e) (origin m (rev e)) k
  no_outer_face o k f = L.outer_is_no_side (length points) (point_at points) (faces_of m)
      (outer_of m) (by_signs points (faces_of m) (outer_of m) local) (origin m e) (origin m (rev e))
      (listed m e (origin m e) (origin m (rev e)) (own_ends m e within o)) (k, f)

  left_differ : 0 < face m e → (origin m e ≢ origin m (next m e))
      × (origin m (next m e) ≢ origin m (prev m e)) × (origin m (prev m e) ≢ origin m e)
  left_differ h = corners_differ (point_at points) (origin m e) (origin m (next m e))
      (origin m (prev m e)) (C.turn_left_of (length points) (point_at points) (faces_of m)
      (outer_of m) (by_signs points (faces_of m) (outer_of m) local) (origin m e)
      (origin m (next m e)) (origin m (prev m e)) (face_before m e s.sound (within, h)))

  -- its faces differ, since a face with both of its directions would not turn left
  pub two_faces : 0 < face m e → face m e ≢ face m (rev e)
  two_faces h same =
      elim (T.same_loop m e (rev e) s.sound within twin_within h (sym same)) as (λ _. ⊥) [
        | inl r ↦ rev_differs e r
        | inr r ↦ elim r as (λ _. ⊥) [
          | inl r ↦ (left_differ h).2 (from_next r)
          | inr r ↦ (left_differ h).1 (ends_meet ∙ ap (origin m) r)
        ]
      ]
    where
      from_next : rev e ≡ next m e → origin m (prev m e) ≡ origin m e
      from_next r =
          let t = T.triangle_at m e s.sound within h in
          let starts = (s.sound.edges (next m e) t.next_in).starts in
          ap (origin m) (sym t.next_next) ∙ starts ∙ ap (λ (x : ℕ). origin m (rev x)) (sym r)
          ∙ ap (origin m) (rev-rev e)

  -- with an inner face on either side it may be turned
  pub between_inner : 0 < face m e → 0 < face m (rev e) → IsFlippable m e
  between_inner h k = record { within = within; inner = h; twin_inner = k; apart = two_faces h }

-- ---- an edge that passes
-- a mesh without faces has no face with given corners
pub line_has_none : (m : Mesh) (i j k : ℕ) → faces_of m ≡ [] → ¬ IsFaceOf (faces_of m) i j k
line_has_none m i j k e f = go (subst (λ fs. IsFaceOf fs i j k) e f)
  where
    go : IsFaceOf [] i j k → ⊥
    go (inl c) = Contains-none (corners i j k) c
    go (inr (inl c)) = Contains-none (corners j k i) c
    go (inr (inr c)) = Contains-none (corners k i j) c

-- a mesh with an inner face is not on one line
pub local_of : (points : List Point) (m : Mesh) (e : ℕ) → AreSoundLinks m
    → IsMesh points (faces_of m) (outer_of m) → IsInnerEdge m e
    → LocalMesh points (faces_of m) (outer_of m)
local_of points m e s (inl l) x = l
local_of points m e s (inr l) x = absurd (line_has_none m (origin m e) (origin m (next m e))
    (origin m (prev m e)) l.0 (face_before m e s x))

module _ (points : List Point) (m : Mesh) (s : IsValidMesh m)
    (local : LocalMesh points (faces_of m) (outer_of m)) (e : ℕ) (within : e < length m.half_edges)
    (h : 0 < face m e) (t : 0 < face m (rev e)) where
  abbrev source : ℕ
  source = origin m e

  abbrev target : ℕ
  target = origin m (next m e)

  abbrev left_corner : ℕ
  left_corner = origin m (prev m e)

  abbrev right_corner : ℕ
  right_corner = origin m (prev m (rev e))

  turnable : IsFlippable m e
  turnable = between_inner points m s local e within h t

  on_left : IsFaceOf (faces_of m) source target left_corner
  on_left = face_before m e s.sound (within, h)

  on_right : IsFaceOf (faces_of m) target source right_corner
  on_right = face_behind m e s.sound turnable

  third : (i j k l : ℕ) → IsFaceOf (faces_of m) i j k → IsFaceOf (faces_of m) i j l → k ≡ l
  third = third_unique (length points) (point_at points) (faces_of m) (outer_of m)
      (by_signs points (faces_of m) (outer_of m) local)

  pass_if_outside : ¬ InsideCircle (place points source) (place points target)
      (place points left_corner) (place points right_corner) → (k l : ℕ)
      → IsFaceOf (faces_of m) source target k → IsFaceOf (faces_of m) target source l
      → Pass points source target k l
  pass_if_outside n k l f g = subst (λ (x : ℕ × ℕ). Pass points source target x.0 x.1)
      (λ o. (
        third source target left_corner k on_left f o,
        third target source right_corner l on_right g o,
      )) (n, λ i. n (questions.1 i))
    where
      questions : InsideCircle (place points source) (place points target)
          (place points left_corner) (place points right_corner)
          ↔ InsideCircle (place points target) (place points source) (place points right_corner)
          (place points left_corner)
      questions = one_question (point_at points source) (point_at points target)
          (point_at points left_corner) (point_at points right_corner)
          (turning_of points (faces_of m) (outer_of m) local source target left_corner on_left)
          (turning_of points (faces_of m) (outer_of m) local target source right_corner on_right)

-- 0 or more
pub none_or_some : (n : ℕ) → (n ≡ 0) ⊎ (0 < n)
none_or_some n = elim (cases_eq n 0) [ inl e ↦ inl e | inr d ↦ inr (grind arith) ]

-- ---- an edge that is a constraint or does not fail is dropped
-- an edge that is a constraint or does not fail may leave the work list of a mesh that is partly
-- legal
pub dropped : (points : List Point) (constraints : List (ℕ × ℕ)) (was m : Mesh) (ks : List ℕ)
    (k start flips : ℕ) → IsValidMesh m
    → IsPartlyLegal points constraints was m (ks ++ k ∷ []) start flips
    → (¬ Joins constraints (origin m (2 * k)) (origin m (rev (2 * k)))
    → ¬ IsFailing points m (2 * k)) → IsPartlyLegal points constraints was m ks start flips
dropped points constraints was m ks k start flips s p passes = record {
  shape = p.shape;
  edges = record {
    within = λ j c. p.edges.within j (contains_before ks k j c);
    once = once_before ks k p.edges.once;
  };
  passing = passing_is_dropped points (faces_of m) constraints (pairs_at m (ks ++ k ∷ []))
      (pairs_at m ks) (origin m e) (origin m (rev e)) p.passing left
      (own p.shape (none_or_some (face m e)) (none_or_some (face m (rev e))));
  away = p.away;
  are_away = p.are_away;
  count = p.count;
  stays = p.stays;
}
  where
    e : ℕ
    e = 2 * k

    within : e < length m.half_edges
    within = p.edges.within k (contains_last ks k)

    meet : origin m (next m e) ≡ origin m (rev e)
    meet = (s.sound.edges e within).starts

    left : (i j : ℕ) → Joins (pairs_at m (ks ++ k ∷ [])) i j
        → IsSamePair i j (origin m e) (origin m (rev e)) ⊎ Joins (pairs_at m ks) i j
    left i j h = elim (last_or_joined m ks k i j h) [
      | inl x ↦ inl x
      | inr x ↦ inr (same_joined (pairs_at m ks) i j (origin m (2 * x.0))
          (origin m (rev (2 * x.0))) x.2 (joins_edge m ks x.0 x.1))
    ]

    own : IsMesh points (faces_of m) (outer_of m) → (face m e ≡ 0) ⊎ (0 < face m e)
        → (face m (rev e) ≡ 0) ⊎ (0 < face m (rev e)) → (i l : ℕ)
        → IsFaceOf (faces_of m) (origin m e) (origin m (rev e)) i
        → IsFaceOf (faces_of m) (origin m (rev e)) (origin m e) l
        → ¬ Joins constraints (origin m e) (origin m (rev e))
        → Pass points (origin m e) (origin m (rev e)) i l
    own (inr x) a b i l f g free = absurd (line_has_none m (origin m e) (origin m (rev e)) i x.0 f)
    own (inl x) (inl o) b i l f g free = absurd (no_outer_face points m s x e within o i f)
    own (inl x) (inr h) (inl o) i l f g free = absurd (no_outer_face points m s x (rev e)
        (rev_within e (length m.half_edges) s.sound.even within) o l (subst
        (λ (y : ℕ). IsFaceOf (faces_of m) (origin m (rev e)) (origin m y) l) (sym (rev-rev e)) g))
    own (inl x) (inr h) (inr t) i l f g free =
        subst (λ (z : ℕ). Pass points (origin m e) z i l) meet (pass_if_outside points m s x e
        within h t (λ c. passes free (record { inner = h; twin_inner = t; inside = c })) i l
        (subst (λ (z : ℕ). IsFaceOf (faces_of m) (origin m e) z i) (sym meet) f)
        (subst (λ (z : ℕ). IsFaceOf (faces_of m) z (origin m e) l) (sym meet) g))

-- ---- a failing edge is turned
module _ (points : List Point) (m : Mesh) (s : IsValidMesh m) (local : LocalMesh points (faces_of m)
    (outer_of m)) (e : ℕ) (within : e < length m.half_edges) (x : IsFailing points m e) where
  abbrev a : ℕ
  a = origin m e

  abbrev b : ℕ
  b = origin m (prev m (rev e))

  abbrev c : ℕ
  c = origin m (next m e)

  abbrev d : ℕ
  d = origin m (prev m e)

  -- a failing edge may be turned
  pub can_turn : IsFlippable m e
  can_turn = between_inner points m s local e within x.inner x.twin_inner

  first : IsFaceOf (faces_of m) a b c
  first = turned_faces (faces_of m) c a b (face_behind m e s.sound can_turn)

  second : IsFaceOf (faces_of m) a c d
  second = face_before m e s.sound (within, x.inner)

  convex : TurnsLeft (place points a) (place points b) (place points d)
      × TurnsLeft (place points b) (place points c) (place points d)
  convex = failing_is_convex (point_at points a) (point_at points b) (point_at points c)
      (point_at points d) (turning_of points (faces_of m) (outer_of m) local a b c first)
      (turning_of points (faces_of m) (outer_of m) local a c d second) x.inside

  abbrev after : Mesh
  after = flipped m e

  moves : Flips m after e
  moves = flips m e s.sound can_turn

  triangles_change : FlipsTriangles m after e
  triangles_change = triangles_flipped m after e s.sound can_turn refl

  outer_stays : KeepsOuter m after
  outer_stays = outer_flipped_is m after e s.sound can_turn refl

  change : FacesChange (faces_of m) (faces_of after) (corners a b c ∷ corners a c d ∷ [])
      (corners a b d ∷ corners b c d ∷ [])
  change = flipped_faces m after e s.sound can_turn triangles_change

  -- the mesh is local after the turn, too
  pub flip_is_local : LocalMesh points (faces_of after) (outer_of after)
  flip_is_local = flip_kept_by points m after e s.sound can_turn local convex.0 convex.1
      triangles_change outer_stays

  -- the corners opposite a failing edge differ
  pub apart_corners : d ≢ b
  apart_corners same = (corners_differ (point_at points) a b d
      (C.turn_left_of (length points) (point_at points) (faces_of after) (outer_of after)
      (by_signs points (faces_of after) (outer_of after) flip_is_local) a b d
      (change.come a b d (inl (Contains-head (corners a b d) (corners b c d ∷ [])))))).1 (sym same)

  -- the lifted volume falls by the turn
  pub volume_falls : lifted_volume points (faces_of after) < lifted_volume points (faces_of m)
  volume_falls = flip_lowers points (faces_of m) (faces_of after)
      (outer_of m) a b c d local first second change x.inside

  -- ---- the ends of the edges
  origin_stays : KeepsOtherOrigins m after e
  origin_stays = origin_kept m after e s.sound can_turn moves

  -- so each other undirected edge joins what it joined
  pair_stays : (l : ℕ) → (2 * l) ≢ e → (2 * l) ≢ rev e → pair_at after l ≡ pair_at m l
  pair_stays l n t = λ i. (
      let p : ℕ × ℕ =
      (origin_stays (2 * l) n t i, other_ends_stay m after e origin_stays (2 * l) n t i) in p)

  -- the two sides of e and the four edges round it are six different ones
  abbrev Six : Type 0
  Six = AreSixPlaces (length m.half_edges) e (rev e) (next m e) (next m (rev e)) (prev m e)
      (prev m (rev e))

  -- which they are
  six : Six
  six = T.six_round m e s.sound can_turn

  module _ (ks : List ℕ) where
    side_joined : (h u v : ℕ) → h ≢ e → h ≢ rev e → Contains ks (h / 2) → origin m h ≡ u
        → origin m (rev h) ≡ v → Joins (pairs_at after ks) u v
    side_joined h u v n t l p q =
        subst (λ (y : ℕ × ℕ). Joins (pairs_at after ks) y.0 y.1) (λ o. (
          (origin_stays h n t ∙ p) o,
          (other_ends_stay m after e origin_stays h n t ∙ q) o,
        )) (joins_directed after ks h l)

    module _ (cd : Contains ks (next m e / 2)) (da : Contains ks (prev m e / 2))
        (ab : Contains ks (next m (rev e) / 2)) (bc : Contains ks (prev m (rev e) / 2)) where
      ab_joined : Joins (pairs_at after ks) a b
      ab_joined = side_joined (next m (rev e)) a b (λ r. six.ad (sym r)) (λ r. six.bd (sym r)) ab
          (end_of_twin m e s.sound can_turn)
          (ends_at_next m s.sound (next m (rev e)) (prev m (rev e)) six.d_in
          (T.triangle_at m (rev e) s.sound six.b_in x.twin_inner).next_next)

      bc_joined : Joins (pairs_at after ks) b c
      bc_joined = side_joined (prev m (rev e)) b c (λ r. six.af (sym r))
          (λ r. six.bf (sym r)) bc refl (ends_at_next m s.sound (prev m (rev e)) (rev e) six.f_in
          (s.sound.edges (rev e) six.b_in).next_prev ∙ start_of_twin m e s.sound can_turn)

      cd_joined : Joins (pairs_at after ks) c d
      cd_joined = side_joined (next m e) c d (λ r. six.ac (sym r)) (λ r. six.bc (sym r)) cd refl
          (ends_at_next m s.sound (next m e) (prev m e) six.c_in
          (T.triangle_at m e s.sound within x.inner).next_next)

      da_joined : Joins (pairs_at after ks) d a
      da_joined = side_joined (prev m e) d a (λ r. six.ae (sym r)) (λ r. six.be (sym r)) da refl
          (ends_at_next m s.sound (prev m e) e six.e_in (s.sound.edges e within).next_prev)

      round_joined : (i j : ℕ) → IsRoundSide a b c d i j → Joins (pairs_at after ks) i j
      round_joined i j (inl (inl r)) = same_joined (pairs_at after ks) i j a b r ab_joined
      round_joined i j (inl (inr r)) = same_joined (pairs_at after ks) i j b c r bc_joined
      round_joined i j (inr (inl r)) = same_joined (pairs_at after ks) i j c d r cd_joined
      round_joined i j (inr (inr r)) = same_joined (pairs_at after ks) i j d a r da_joined

-- the undirected edges differ, and so do their directed ones
other_even : (l k : ℕ) → l ≢ k → (2 * l) ≢ (2 * k)
other_even l k n r = n (omega (arith, r))

even_no_odd : (l k : ℕ) → (2 * l) ≢ rev (2 * k)
even_no_odd l k r = grind arith

one_more : (start a b flips : ℕ) → start + a ≡ flips → b ≡ suc a → start + b ≡ suc flips
one_more start a b flips e f = omega arith

-- the undirected edges that are not turned join what they joined
pub pairs_stay : (points : List Point) (m : Mesh) (s : IsValidMesh m)
    → LocalMesh points (faces_of m) (outer_of m) → (k : ℕ) → (2 * k) < length m.half_edges
    → IsFailing points m (2 * k) → (ls : List ℕ) → ¬ Contains ls k
    → pairs_at (flipped m (2 * k)) ls ≡ pairs_at m ls
pairs_stay points m s local k within x ls n =
    same_map (pair_at (flipped m (2 * k))) (pair_at m) ls (λ l c. pair_stays points m s local
    (2 * k) within x l (other_even l k (λ r. n (subst (Contains ls) r c))) (even_no_odd l k))

module _ (points : List Point) (constraints : List (ℕ × ℕ)) (was m : Mesh) (ks : List ℕ)
    (k start flips : ℕ) (s : IsValidMesh m) (p : IsPartlyLegal points constraints was m
    (ks ++ k ∷ []) start flips) (x : IsFailing points m (2 * k)) where
  within_mesh : (2 * k) < length m.half_edges
  within_mesh = p.edges.within k (contains_last ks k)

  -- a mesh with a failing edge is a local mesh
  pub has_local : LocalMesh points (faces_of m) (outer_of m)
  has_local = local_of points m (2 * k) s.sound p.shape (within_mesh, x.inner)

  gone_away : (more : List (ℕ × ℕ)) × AreAway points (faces_of (flipped m (2 * k))) more
      × (length more ≡ suc (length p.away)) × Joins more (origin m (2 * k))
      (origin m (next m (2 * k))) × ((i j : ℕ) → Joins p.away i j → Joins more i j)
  gone_away =
      flip_goes_away points (faces_of m) (faces_of (flipped m (2 * k))) (outer_of m) p.away
      (origin m (2 * k)) (origin m (prev m (rev (2 * k)))) (origin m (next m (2 * k)))
      (origin m (prev m (2 * k))) has_local
      (first points m s has_local (2 * k) within_mesh x) (second points m s has_local (2 * k)
      within_mesh x) (change points m s has_local (2 * k) within_mesh x) x.inside p.are_away

  edge_stays : (more : List ℕ) → ((j : ℕ) → Contains ks j → Contains more j) → (i j : ℕ)
      → Joins (pairs_at m (ks ++ k ∷ [])) i j
      → IsSamePair i j (origin m (2 * k)) (origin m (next m (2 * k)))
      ⊎ Joins (pairs_at (flipped m (2 * k)) more) i j
  edge_stays more kept i j h = elim (last_or_joined m ks k i j h) [
    | inl y ↦ inl (subst (λ (z : ℕ). IsSamePair i j (origin m (2 * k)) z)
        (sym (s.sound.edges (2 * k) within_mesh).starts) y)
    | inr y ↦ inr (same_joined (pairs_at (flipped m (2 * k)) more) i j (origin m (2 * y.0))
        (origin m (rev (2 * y.0))) y.2
        (subst (λ (z : ℕ × ℕ). Joins (pairs_at (flipped m (2 * k)) more) z.0 z.1)
        (λ o. (from y.0 (other y.0 y.1) o, to y.0 (other y.0 y.1) o))
        (joins_edge (flipped m (2 * k)) more y.0 (kept y.0 y.1))))
  ]
    where
      other : (l : ℕ) → Contains ks l → l ≢ k
      other l c r = last_not_before ks k p.edges.once (subst (Contains ks) r c)

      from : (l : ℕ) → l ≢ k → origin (flipped m (2 * k)) (2 * l) ≡ origin m (2 * l)
      from l n = origin_stays points m s has_local (2 * k) within_mesh x (2 * l) (other_even l k n)
          (even_no_odd l k)

      to : (l : ℕ) → l ≢ k → origin (flipped m (2 * k)) (rev (2 * l)) ≡ origin m (rev (2 * l))
      to l n = other_ends_stay m (flipped m (2 * k)) (2 * k) (origin_stays points m s has_local
          (2 * k) within_mesh x) (2 * l) (other_even l k n) (even_no_odd l k)

  -- a failing edge is turned
  pub turned : (more : List ℕ) → GainsRound m (2 * k) ks more → AreEdges m more
      → IsPartlyLegal points constraints was (flipped m (2 * k)) more start (suc flips)
  turned more g o = record {
    shape = inl (flip_is_local points m s has_local (2 * k) within_mesh x);
    edges = record {
      within = λ j l. subst (λ (z : ℕ). (2 * j) < z)
          (sym (moves points m s has_local (2 * k) within_mesh x).edge_count) (o.within j l);
      once = o.once;
    };
    passing = flip_leaves_sides points (faces_of m) (faces_of (flipped m (2 * k)))
        (outer_of m) constraints (pairs_at m (ks ++ k ∷ [])) (pairs_at (flipped m (2 * k)) more)
        (origin m (2 * k)) (origin m (prev m (rev (2 * k)))) (origin m (next m (2 * k)))
        (origin m (prev m (2 * k))) has_local
        (first points m s has_local (2 * k) within_mesh x)
        (second points m s has_local (2 * k) within_mesh x) (change points m s has_local
        (2 * k) within_mesh x) x.inside p.passing (edge_stays more g.kept)
        (λ i j r. inr (round_joined points m s has_local (2 * k) within_mesh x more g.next_there
        g.prev_there g.twin_next_there g.twin_prev_there i j r));
    away = gone_away.0;
    are_away = gone_away.1;
    count = one_more start (length p.away) (length gone_away.0) flips p.count gone_away.2;
    stays = stays_turned was m (flipped m (2 * k)) p.away gone_away.0 (2 * k) s.sound within_mesh
        x.inner x.twin_inner (moves points m s has_local (2 * k) within_mesh x).edge_count
        (λ h n t. (
          origin_stays points m s has_local (2 * k) within_mesh x h n t,
          other_ends_stay m
              (flipped m (2 * k)) (2 * k)
              (origin_stays points m s has_local (2 * k) within_mesh x) h
              n t,
        )) (triangles_change points m s has_local (2 * k) within_mesh x) gone_away.3
        gone_away.4 p.stays;
  }

  -- and its flip is within the bound
  pub one_more_flip : 2 * suc (length p.away) ≤ length points * (length points - 1)
  one_more_flip = subst (λ (z : ℕ). 2 * z ≤ length points * (length points - 1)) gone_away.2
      (away_is_bounded points (faces_of (flipped m (2 * k))) gone_away.0 gone_away.1)

-- ---- the beginning and the end
none_away : (points : List Point) (faces : List Face) → AreAway points faces []
none_away points faces = record {
  ordered = λ i j c. absurd (Contains-none (i, j) c);
  above = λ i j c. absurd (Contains-none (i, j) c);
  once = once_none;
}

-- before the first flip a mesh is legal but for what is left to test, where all other edges pass
pub begins : (points : List Point) (constraints : List (ℕ × ℕ)) (m : Mesh) (ks : List ℕ) (start : ℕ)
    → IsMesh points (faces_of m) (outer_of m) → AreEdges m ks
    → AllPassBut points (faces_of m) constraints (pairs_at m ks)
    → IsPartlyLegal points constraints m m ks start start
begins points constraints m ks start shape edges passing = record {
  shape = shape;
  edges = edges;
  passing = passing;
  away = [];
  are_away = none_away points (faces_of m);
  count = omega arith;
  stays = stays_none m;
}

-- there were at most n (n - 1) / 2 flips, where n is the number of points
pub few_flips : (points : List Point) (constraints : List (ℕ × ℕ)) (was m : Mesh) (ks : List ℕ)
    (start flips : ℕ) → IsPartlyLegal points constraints was m ks start flips
    → (start ≤ flips) × (2 * (flips - start) ≤ length points * (length points - 1))
few_flips points constraints was m ks start flips p =
    let b = away_is_bounded points (faces_of m) p.away p.are_away in let c = p.count in (
      omega (arith, c),
      bounded start (length p.away) flips (length points * (length points - 1)) c b,
    )
  where
    bounded : (start a flips q : ℕ) → start + a ≡ flips → 2 * a ≤ q → 2 * (flips - start) ≤ q
    bounded start a flips q e h = omega arith

-- all that stood before the flips, and stands, has its index
pub indexes_kept : (points : List Point) (constraints : List (ℕ × ℕ)) (was m : Mesh) (ks : List ℕ)
    (start flips : ℕ) → IsValidMesh m → IsPartlyLegal points constraints was m ks start flips
    → KeepsIndexes was m
indexes_kept points constraints was m ks start flips s p =
    keeps_indexes points m p.away s p.shape p.are_away was p.stays

-- each edge and face of a mesh has one index
pub own_indexes : (points : List Point) (m : Mesh) → IsValidMesh m
    → IsMesh points (faces_of m) (outer_of m) → KeepsIndexes m m
own_indexes points m s shape =
    keeps_indexes points m [] s shape (none_away points (faces_of m)) m (stays_none m)

-- ---- the measure
-- a work list has at most as many entries as the mesh has undirected edges
pub few_edges : (m : Mesh) (ks : List ℕ) (n : ℕ) → 2 * n ≡ length m.half_edges → AreEdges m ks
    → length ks ≤ n
few_edges m ks n e o =
    at_most_so_many ks n o.once (λ j c. let h = o.within j c in omega (arith, h, e))

-- a work list with room for each edge has room for one that is not in it
pub room_for_one : (m : Mesh) (ks : List ℕ) (n k : ℕ) → 2 * n ≡ length m.half_edges → AreEdges m ks
    → k < n → ¬ Contains ks k → length ks < n
room_for_one m ks n k e o h c = let r =
    few_edges m (ks ++ k ∷ []) n e (record { within = within; once = once_after ks k o.once c }) in
    omega (arith, r, length-append ks (k ∷ []))
  where
    within : (j : ℕ) → Contains (ks ++ k ∷ []) j → (2 * j) < length m.half_edges
    within j d = elim (last_or_before ks k j d) [
      | inl r ↦ subst (λ (z : ℕ). (2 * z) < length m.half_edges) (sym r) (omega (arith, h, e))
      | inr r ↦ o.within j r
    ]

fewer_by_volume : (v w e l k : ℕ) → v < w → l ≤ e → v * (e + 1) + l < w * (e + 1) + k
fewer_by_volume v w e l k h n =
    sums (v * (e + 1)) (w * (e + 1)) e l k (mul-le-mul_right (e + 1) h) (suc-mul v (e + 1)) n
  where
    sums : (p q e l k : ℕ) → suc v * (e + 1) ≤ q → suc v * (e + 1) ≡ p + (e + 1) → l ≤ e
        → p + l < q + k
    sums p q e l k a b c = linear p q e l k (suc v * (e + 1)) a b c
      where
        linear : (p q e l k r : ℕ) → r ≤ q → r ≡ p + (e + 1) → l ≤ e → p + l < q + k
        linear p q e l k r a b c = omega arith

-- a flip, by which the lifted volume falls, leaves fewer steps, whatever it adds to the work list
pub fewer_after_flip : (points : List Point) (m new : Mesh) (ks more : List ℕ)
    → lifted_volume points (faces_of new) < lifted_volume points (faces_of m)
    → length new.half_edges ≡ length m.half_edges → AreEdges m more
    → steps_left points new more < steps_left points m ks
fewer_after_flip points m new ks more h e o =
    subst (λ (z : ℕ). (lifted_volume points (faces_of new) * (z + 1) + length more)
    < steps_left points m ks) (sym e) (fewer_by_volume (lifted_volume points (faces_of new))
    (lifted_volume points (faces_of m)) (length m.half_edges) (length more) (length ks) h
    (at_most_so_many more (length m.half_edges) o.once (λ j c. half j (o.within j c))))
  where
    half : (j : ℕ) → (2 * j) < length m.half_edges → j < length m.half_edges
    half j h = omega (arith, h)

-- ---- the four edges round an edge are put into a work list
-- a work list that gains an edge of the mesh is still one of different edges of it
pub gains_edges : (m : Mesh) (old new : List ℕ) (k : ℕ) → AreEdges m old
    → (2 * k) < length m.half_edges → Gains old new k → AreEdges m new
gains_edges m old new k o h g = record {
  within = λ j c. elim (g.only j c)
      [ inl r ↦ subst (λ (z : ℕ). (2 * z) < length m.half_edges) (sym r) h | inr r ↦ o.within j r ];
  once = g.once o.once;
}

-- a work list that gains the four edges round an edge one after another has all of them
pub gains_round : (m : Mesh) (e : ℕ) (one two three four five : List ℕ)
    → Gains one two (next m e / 2) → Gains two three (prev m e / 2)
    → Gains three four (next m (rev e) / 2) → Gains four five (prev m (rev e) / 2)
    → GainsRound m e one five
gains_round m e one two three four five f g h i = record {
  kept = λ j c. i.kept j (h.kept j (g.kept j (f.kept j c)));
  next_there = i.kept (next m e / 2) (h.kept (next m e / 2) (g.kept (next m e / 2) f.there));
  prev_there = i.kept (prev m e / 2) (h.kept (prev m e / 2) g.there);
  twin_next_there = i.kept (next m (rev e) / 2) h.there;
  twin_prev_there = i.there;
}

-- an edge that is new to a work list is gained by putting it at the end
pub gains_last : (ks : List ℕ) (k : ℕ) → ¬ Contains ks k → Gains ks (ks ++ k ∷ []) k
gains_last ks k n = record {
  kept = λ j c. contains_before ks k j c;
  there = contains_last ks k;
  only = λ j c. last_or_before ks k j c;
  once = λ o. once_after ks k o n;
}

-- an edge that is in a work list is gained without a change
pub gains_none : (ks : List ℕ) (k : ℕ) → Contains ks k → Gains ks ks k
gains_none ks k h = record { kept = λ j c. c; there = h; only = λ j c. inr c; once = λ o. o }
