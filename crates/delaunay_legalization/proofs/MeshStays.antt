-- Each edge and face of a mesh has one index, and keeps it while other edges are turned.
-- halved: 2 (h / 2) is the directed edge h or its reverse
-- half_same: directed edges of one undirected edge are equal, or each the reverse of the other
-- one_way: two directed edges from one vertex to one other are the same edge
-- face_there: a listed triangle is a face
-- neighbours_differ: the neighbours of a vertex are different vertices
-- same_pair_back, same_pair_on: `IsSamePair` is symmetric, and transitive
-- slice_get-set_other: writing one entry of a list leaves the others
-- stays_none, stays_turned: where nothing changes, all stays; after one more turn, all but the
--   pairs listed
-- keeps_indexes: what was there and is there has its former index
use Rattle.std.proofs.Common.{◌≡◌, ◌⊎◌, ◌+◌, ◌-◌, ◌*◌, ◌/◌, ◌<◌, [], ◌∙◌}
use Rattle.std.proofs.Common.{ℕ, suc, List, length, get_or, set, refl, sym, ap, subst, Some, arith}
use mathlib.Core.Logic.{inl, inr, ◌≢◌}
use Rattle.std.specs.Prelude.{slice_get}
use Rattle.std.proofs.lemmas.Bool.{cases_eq, cases_lt}
use Rattle.std.proofs.lemmas.Grind.{common_steps}
use Rattle.std.proofs.lemmas.List.{length-map, get_or-map}
use Rattle.std.proofs.lemmas.Option.{slice_get_within, get_or_from_slice_get, gets}
use Rattle.plane.specs.{EachPairOnce, Face, face as corners, IsSamePair, IsTiling, Joins, Point}
use Rattle.half_edge_links.specs.{AreSoundLinks, Ends, ends, face, face_edge, FlipsTriangles}
use Rattle.half_edge_links.specs.{IsRound, IsValidMesh, Mesh, neighbour, next, origin, prev, rev}
use Rattle.half_edge_links.specs.{spoke, Triangle, triangle_at, triangles}
use Rattle.half_edge_links.proofs.{get_or-ends, length-ends_twice, rev-rev, rev_within}
use Rattle.plane_theorems.specs.{AreAway, Edits.Away.IsAway, IsFaceOf, IsMesh}
use Rattle.plane_theorems.proofs.{Contains-none, meshes_tile}
use Rattle.plane_theorems.proofs.Edits.Legalization.Away.{away_back, away_is_no_edge}
use Rattle.delaunay_legalization.specs.{corners_of, drawn, edges_of, faces_of, GoSameDirection}
use Rattle.delaunay_legalization.specs.{HaveSameCorners, KeepsIndexes, outer_of, pair_of}
use Rattle.delaunay_legalization.specs.Stays.{HasSideIn, StaysBut}
use Rattle.delaunay_legalization.proofs.EdgePairs.{edge_joins, rev_of_even}
use Rattle.delaunay_legalization.proofs.FaceChanges.{contains_map, turned_faces}
use Rattle.{delaunay_legalization.proofs.OwnEdges.own_edges, plane.proofs.turned_join}
use Rattle.half_edge_links.proofs.Sound.Triangles as T

-- another entry than the one that is written stays
pub slice_get-set_other : {X : Type 0} (xs : List X) (i j : ℕ) (x : X) → j ≢ i
    → slice_get (set xs i x) j ≡ slice_get xs j
slice_get-set_other xs i j x n = grind (arith, common_steps, gets)

-- ---- one index for each edge
-- twice half the index of a directed edge is the edge or its reverse
pub halved : (h : ℕ) → (2 * (h / 2) ≡ h) ⊎ (2 * (h / 2) ≡ rev h)
halved h = grind arith

-- directed edges of one undirected edge are the same or each other's reverse
pub half_same : (g h : ℕ) → h / 2 ≡ g / 2 → (h ≡ g) ⊎ (h ≡ rev g)
half_same g h e = grind arith

abbrev no_ends : Ends
no_ends = record { source = 0; target = 0 }

abbrev no_triangle : Triangle
no_triangle = record { first = 0; second = 0; third = 0 }

-- the same pair through a third
pub same_pair_on : (a b c d e f : ℕ) → IsSamePair a b c d → IsSamePair c d e f → IsSamePair a b e f
same_pair_on a b c d e f (inl x) (inl y) = inl (x.0 ∙ y.0, x.1 ∙ y.1)
same_pair_on a b c d e f (inl x) (inr y) = inr (x.0 ∙ y.0, x.1 ∙ y.1)
same_pair_on a b c d e f (inr x) (inl y) = inr (x.0 ∙ y.1, x.1 ∙ y.0)
same_pair_on a b c d e f (inr x) (inr y) = inl (x.0 ∙ y.1, x.1 ∙ y.0)

-- the same pair, read from the other
pub same_pair_back : (a b c d : ℕ) → IsSamePair a b c d → IsSamePair c d a b
same_pair_back a b c d (inl x) = inl (sym x.0, sym x.1)
same_pair_back a b c d (inr x) = inr (sym x.1, sym x.0)

module _ (m : Mesh) (s : IsValidMesh m) (once : EachPairOnce (edges_of m)) where
  pair_listed : (k : ℕ) (d : ℕ × ℕ) → 2 * k + 1 < length m.half_edges
      → get_or (edges_of m) k d ≡ (origin m (2 * k), origin m (rev (2 * k)))
  pair_listed k d w = get_or-map pair_of (ends m) k no_ends d
      (omega (arith, w, length-ends_twice m s.sound)) ∙ ap pair_of (get_or-ends m k no_ends w)
      ∙ ap (λ (x : ℕ). (origin m (2 * k), origin m x)) (sym (rev_of_even k))

  abbrev IsSameEdge : ℕ → ℕ → Type 0
  IsSameEdge k l = IsSamePair (origin m (2 * k)) (origin m (rev (2 * k))) (origin m (2 * l))
      (origin m (rev (2 * l)))

  none_later : (k l : ℕ) → k < l → 2 * l + 1 < length m.half_edges → ¬ IsSameEdge k l
  none_later k l below w x =
      once k l (0, 0) below
      (omega (arith, w, length-ends_twice m s.sound, length-map (ends m) pair_of))
      (subst (λ (y : (ℕ × ℕ) × (ℕ × ℕ)). IsSamePair y.0.0 y.0.1 y.1.0 y.1.1) (λ i. (
        sym
            (pair_listed k (0, 0) (omega (arith, below, w))) i,
        sym (pair_listed l (0, 0) w) i,
      )) x)

  one_pair : (k l : ℕ) → 2 * k + 1 < length m.half_edges → 2 * l + 1 < length m.half_edges
      → IsSameEdge k l → k ≡ l
  one_pair k l v w x = elim (cases_lt k l) [
    | inl below ↦ absurd (none_later k l below w x)
    | inr least ↦ elim (cases_lt l k) [
      | inl below ↦ absurd (none_later l k below v (same_pair_back (origin m (2 * k))
          (origin m (rev (2 * k))) (origin m (2 * l)) (origin m (rev (2 * l))) x))
      | inr most ↦ omega (arith, least, most)
    ]
  ]

  pair_of_half : (h : ℕ) → IsSamePair (origin m h) (origin m (rev h)) (origin m (2 * (h / 2)))
      (origin m (rev (2 * (h / 2))))
  pair_of_half h = elim (halved h) [
    | inl e ↦ inl (ap (origin m) (sym e), ap (λ (x : ℕ). origin m (rev x)) (sym e))
    | inr e ↦ inr (ap (origin m) (sym (ap rev e ∙ rev-rev h)), ap (origin m) (sym e))
  ]

  in_pairs : (h : ℕ) → h < length m.half_edges → 2 * (h / 2) + 1 < length m.half_edges
  in_pairs h w = let even = s.sound.even in omega (arith, even, w)

  -- two directed edges between the same vertices in the same direction are one
  pub one_way : (g h : ℕ) → g < length m.half_edges → h < length m.half_edges
      → GoSameDirection m g m h → h ≡ g
  one_way g h v w x =
      elim (half_same g h (one_pair (h / 2) (g / 2) (in_pairs h w) (in_pairs g v) same)) [
        | inl e ↦ e
        | inr e ↦ absurd (s.apart g v (sym x.0 ∙ ap (origin m) e))
      ]
    where
      same : IsSameEdge (h / 2) (g / 2)
      same = same_pair_on (origin m (2 * (h / 2))) (origin m (rev (2 * (h / 2)))) (origin m h)
          (origin m (rev h)) (origin m (2 * (g / 2))) (origin m (rev (2 * (g / 2))))
          (same_pair_back (origin m h) (origin m (rev h)) (origin m (2 * (h / 2)))
          (origin m (rev (2 * (h / 2)))) (pair_of_half h))
          (same_pair_on (origin m h) (origin m (rev h)) (origin m g) (origin m (rev g))
          (origin m (2 * (g / 2))) (origin m (rev (2 * (g / 2)))) (inl x) (pair_of_half g))

  -- the neighbours of a vertex differ
  pub neighbours_differ : (v first count : ℕ) → IsRound m v first count
      → (i j : ℕ) → i < j → j < count → neighbour m first i ≢ neighbour m first j
  neighbours_differ v first count round i j l w e =
      round.apart i j l w
      (one_way (spoke m first j) (spoke m first i) (round.within j) (round.within i)
      (round.starts i ∙ sym (round.starts j), e))

  -- ---- one index for each face
  one_side : (g h : ℕ) → g < length m.half_edges → h < length m.half_edges → origin m h ≡ origin m g
      → origin m (next m h) ≡ origin m (next m g) → h ≡ g
  one_side g h v w e f =
      one_way g h v w (e, sym (s.sound.edges h w).starts ∙ f ∙ (s.sound.edges g v).starts)

-- the edge that a face names
record Names (m : Mesh) (f : ℕ) (t : Triangle) : Type 0 where
  edge : ℕ
  round : T.IsTriangle m edge
  here : face m edge ≡ suc f
  corners : triangle_at m edge ≡ t

named : (m : Mesh) → AreSoundLinks m → (f : ℕ) (t : Triangle)
    → slice_get (triangles m) f ≡ Some t → Names m f t
named m s f t p = record {
  edge = get_or m.face_edges f 0;
  round = T.triangle_at m (get_or m.face_edges f 0) s there.0
      (subst (λ (z : ℕ). 0 < z) (sym there.1) (omega arith));
  here = there.1;
  corners = sym (get_or-map (triangle_at m) m.face_edges f 0 no_triangle within)
      ∙ get_or_from_slice_get (triangles m) f t no_triangle p;
}
  where
    within : f < length m.face_edges
    within =
        omega (arith, slice_get_within (triangles m) f t p, length-map m.face_edges (triangle_at m))

    less : (f : ℕ) → suc f - 1 ≡ f
    less f = omega arith

    there : (get_or m.face_edges f 0 < length m.half_edges)
        × (face m (get_or m.face_edges f 0) ≡ suc f)
    there = subst (λ (i : ℕ). (get_or m.face_edges i 0 < length m.half_edges)
        × (face m (get_or m.face_edges i 0) ≡ suc f)) (less f)
        (s.faces (suc f) (omega arith) (omega (arith, within)))

module _ (m : Mesh) (s : IsValidMesh m) (once : EachPairOnce (edges_of m)) where
  -- two faces with the same corners, each listed at its place, have one index
  pub one_face : (f g : ℕ) (t u : Triangle) → slice_get (triangles m) f ≡ Some t
      → slice_get (triangles m) g ≡ Some u → HaveSameCorners t u → g ≡ f
  one_face f g t u p q same = go (named m s.sound f t p) (named m s.sound g u q) same
    where
      counted : (f g : ℕ) → suc g ≡ suc f → g ≡ f
      counted f g e = omega arith

      go : Names m f t → Names m g u → HaveSameCorners t u → g ≡ f
      go x y (inl r) = counted f g
          (sym y.here ∙ ap (face m) (one_side m s once x.edge y.edge x.round.h_in y.round.h_in
          (ap (λ (z : Triangle). z.first) y.corners ∙ r.0
          ∙ sym (ap (λ (z : Triangle). z.first) x.corners))
          (ap (λ (z : Triangle). z.second) y.corners ∙ r.1
          ∙ sym (ap (λ (z : Triangle). z.second) x.corners))) ∙ x.here)
      go x y (inr (inl r)) = counted f g (sym y.here
          ∙ ap (face m) (one_side m s once (next m x.edge) y.edge x.round.next_in y.round.h_in
          (ap (λ (z : Triangle). z.first) y.corners ∙ r.0
          ∙ sym (ap (λ (z : Triangle). z.second) x.corners))
          (ap (λ (z : Triangle). z.second) y.corners ∙ r.1 ∙ sym
          (ap (λ (z : Triangle). z.third) x.corners) ∙ sym (ap (origin m) x.round.next_next)))
          ∙ x.round.face_next ∙ x.here)
      go x y (inr (inr r)) = counted f g (sym y.here
          ∙ ap (face m) (one_side m s once (prev m x.edge) y.edge x.round.prev_in y.round.h_in
          (ap (λ (z : Triangle). z.first) y.corners ∙ r.0
          ∙ sym (ap (λ (z : Triangle). z.third) x.corners))
          (ap (λ (z : Triangle). z.second) y.corners ∙ r.1 ∙ sym
          (ap (λ (z : Triangle). z.first) x.corners) ∙ sym (ap (origin m) x.round.next_prev)))
          ∙ x.round.face_prev ∙ x.here)

module _ (m : Mesh) where
  -- the listed triangles are the faces, each also turned
  pub face_there : (f : ℕ) (t : Triangle) → slice_get (triangles m) f ≡ Some t
      → IsFaceOf (faces_of m) t.first t.second t.third
  face_there f t p = inl (contains_map corners_of (triangles m) t
      (f, slice_get_within (triangles m) f t p, get_or_from_slice_get (triangles m) f t t p))

  -- of two triangles with the same corners, the first is a face where the second is
  pub turned_back : (t u : Triangle) → HaveSameCorners t u
      → IsFaceOf (faces_of m) u.first u.second u.third
      → IsFaceOf (faces_of m) t.first t.second t.third
  turned_back t u (inl r) f =
      subst (λ (x : ℕ × ℕ × ℕ). IsFaceOf (faces_of m) x.0 x.1 x.2) (λ i. (r.0 i, r.1 i, r.2 i)) f
  turned_back t u (inr (inl r)) f = turned_faces (faces_of m) t.third t.first t.second
      (turned_faces (faces_of m) t.second t.third t.first
      (subst (λ (x : ℕ × ℕ × ℕ). IsFaceOf (faces_of m) x.0 x.1 x.2) (λ i. (r.0 i, r.1 i, r.2 i)) f))
  turned_back t u (inr (inr r)) f = turned_faces (faces_of m) t.third t.first t.second
      (subst (λ (x : ℕ × ℕ × ℕ). IsFaceOf (faces_of m) x.0 x.1 x.2) (λ i. (r.0 i, r.1 i, r.2 i)) f)

module _ (points : List Point) (m : Mesh) (away : List (ℕ × ℕ)) (s : IsValidMesh m) (shape :
    IsMesh points (faces_of m) (outer_of m)) (gone : AreAway points (faces_of m) away) where
  tiled : IsTiling (drawn points m)
  tiled = meshes_tile points (faces_of m) (outer_of m) (edges_of m) shape (own_edges m s)

  -- each pair of vertices is joined by at most one edge
  pub edges_once : EachPairOnce (edges_of m)
  edges_once = elim tiled [ inl t ↦ t.once | inr t ↦ t.once ]

  is_away : (i j : ℕ) → Joins away i j → IsAway points (faces_of m) i j
  is_away i j (inl h) = gone.above i j h
  is_away i j (inr h) = away_back points j i (faces_of m) (gone.above j i h)

  no_faces : (i j k : ℕ) → faces_of m ≡ [] → ¬ IsFaceOf (faces_of m) i j k
  no_faces i j k e f = go (subst (λ (fs : List Face). IsFaceOf fs i j k) e f)
    where
      go : IsFaceOf [] i j k → ⊥
      go (inl c) = Contains-none (corners i j k) c
      go (inr (inl c)) = Contains-none (corners j k i) c
      go (inr (inr c)) = Contains-none (corners k i j) c

  away_no_face : (i j k : ℕ) → Joins away i j → ¬ IsFaceOf (faces_of m) i j k
  away_no_face i j k h f = elim shape as (λ _. ⊥) [
    | inl l ↦ away_is_no_edge points (faces_of m) (outer_of m) i j k l (is_away i j h) f
    | inr l ↦ no_faces i j k l.0 f
  ]

  away_no_side : (t : Triangle) → HasSideIn away t
      → ¬ IsFaceOf (faces_of m) t.first t.second t.third
  away_no_side t (inl h) f = away_no_face t.first t.second t.third h f
  away_no_side t (inr (inl h)) f =
      away_no_face t.second t.third t.first h (turned_faces (faces_of m) t.first t.second t.third f)
  away_no_side t (inr (inr h)) f =
      away_no_face t.third t.first t.second h (turned_faces (faces_of m) t.second t.third t.first
      (turned_faces (faces_of m) t.first t.second t.third f))

  away_no_edge : (h : ℕ) → h < length m.half_edges → ¬ Joins away (origin m h) (origin m (rev h))
  away_no_edge h w j = elim tiled as (λ _. ⊥) [
    | inl t ↦
        elim ((t.sides (origin m h) (origin m (rev h))).0 (edge_joins m s.sound h w)) as (λ _. ⊥) [
          | inl f ↦ away_no_face (origin m h) (origin m (rev h)) f.0 j f.1
          | inr f ↦ away_no_face (origin m (rev h)) (origin m h) f.0
              (turned_join away (origin m h) (origin m (rev h)) j) f.1
        ]
    | inr t ↦ let x = is_away (origin m h) (origin m (rev h)) j in
        no_faces x.a x.b x.c t.no_face x.here
  ]

  -- all else that stood, and stands, has its index
  pub keeps_indexes : (was : Mesh) → StaysBut away was m → KeepsIndexes was m
  keeps_indexes was stays = record {
    edges = λ g h v w same. elim (stays.edges g v) [
      | inl x ↦ one_way m s edges_once g h (subst (λ (n : ℕ). g < n) (sym stays.edge_count) v) w
          (same.0 ∙ sym x.0, same.1 ∙ sym x.1)
      | inr j ↦ absurd (away_no_edge h w
          (subst (λ (x : ℕ × ℕ). Joins away x.0 x.1) (λ i. (sym same.0 i, sym same.1 i)) j))
    ];
    faces = λ f g t u p q same. elim (stays.faces f t p) [
      | inl x ↦ one_face m s edges_once f g t u x q same
      | inr j ↦ absurd (away_no_side t j (turned_back m t u same (face_there m g u q)))
    ];
  }

-- ---- from one flip to the next
-- where nothing changes, each edge joins what it joined and each inner face has its corners
pub stays_none : (m : Mesh) → StaysBut [] m m
stays_none m = record { edge_count = refl; edges = λ h w. inl (refl, refl); faces = λ f t p. inl p }

module _ (m : Mesh) (s : AreSoundLinks m) (pairs : List (ℕ × ℕ)) where
  -- the listed face of an edge has the pair of the edge
  face_has_side : (e : ℕ) → e < length m.half_edges → 0 < face m e
      → Joins pairs (origin m e) (origin m (next m e)) → (t : Triangle)
      → slice_get (triangles m) (face m e - 1) ≡ Some t → HasSideIn pairs t
  face_has_side e w inner j t p = subst (HasSideIn pairs) listed (go ((s.edges e w).owned inner))
    where
      round : T.IsTriangle m e
      round = T.triangle_at m e s w inner

      index : (face m e - 1) < length m.face_edges
      index = omega (
        arith,
        slice_get_within (triangles m) (face m e - 1) t p,
        length-map m.face_edges (triangle_at m),
      )

      listed : triangle_at m (face_edge m (face m e)) ≡ t
      listed = sym (get_or-map (triangle_at m) m.face_edges (face m e - 1) 0 no_triangle index)
          ∙ get_or_from_slice_get (triangles m) (face m e - 1) t no_triangle p

      go : (face_edge m (face m e) ≡ e)
          ⊎ ((face_edge m (face m e) ≡ next m e) ⊎ (face_edge m (face m e) ≡ prev m e))
          → HasSideIn pairs (triangle_at m (face_edge m (face m e)))
      go (inl i) = subst (λ (x : ℕ). HasSideIn pairs (triangle_at m x)) (sym i) (inl j)
      go (inr (inl i)) =
          subst (λ (x : ℕ). HasSideIn pairs (triangle_at m x)) (sym i) (inr (inr (subst
          (λ (x : ℕ). Joins pairs (origin m x) (origin m (next m e))) (sym round.prev_next) j)))
      go (inr (inr i)) = subst (λ (x : ℕ). HasSideIn pairs (triangle_at m x)) (sym i)
          (inr (inl (subst (λ (x : ℕ × ℕ). Joins pairs (origin m x.0) (origin m x.1))
          (λ o. (sym round.next_prev o, sym round.prev_prev o)) j)))

has_more : (pairs more : List (ℕ × ℕ)) → ((i j : ℕ) → Joins pairs i j → Joins more i j)
    → (t : Triangle) → HasSideIn pairs t → HasSideIn more t
has_more pairs more keep t (inl j) = inl (keep t.first t.second j)
has_more pairs more keep t (inr (inl j)) = inr (inl (keep t.second t.third j))
has_more pairs more keep t (inr (inr j)) = inr (inr (keep t.third t.first j))

-- an edge is turned whose pair is listed
pub stays_turned : (was m new : Mesh) (pairs more : List (ℕ × ℕ)) (e : ℕ) → AreSoundLinks m
    → e < length m.half_edges → 0 < face m e → 0 < face m (rev e) → length new.half_edges
    ≡ length m.half_edges → ((h : ℕ) → h ≢ e → h ≢ rev e → GoSameDirection m h new h)
    → FlipsTriangles m new e → Joins more (origin m e) (origin m (next m e))
    → ((i j : ℕ) → Joins pairs i j → Joins more i j) → StaysBut pairs was m → StaysBut more was new
stays_turned was m new pairs more e s w inner twin_inner count others flips here keep stays =
    record {
      edge_count = count ∙ stays.edge_count;
      edges = λ h v. elim (stays.edges h v) [
        | inr j ↦ inr (keep (origin was h) (origin was (rev h)) j)
        | inl x ↦ elim (cases_eq h e) [
          | inl r ↦ inr (subst (λ (y : ℕ × ℕ). Joins more y.0 y.1) (λ i. (
            (ap (origin m) (sym r) ∙ x.0)
                i,
            (meet ∙ ap (λ (z : ℕ). origin m (rev z)) (sym r) ∙ x.1) i,
          )) here)
          | inr n ↦ elim (cases_eq h (rev e)) [
            | inl r ↦ inr (subst (λ (y : ℕ × ℕ). Joins more y.0 y.1) (λ i. (
              (meet
                  ∙ ap (origin m) (sym r) ∙ x.0) i,
              (ap (origin m) (sym (ap rev r ∙ rev-rev e)) ∙ x.1) i,
            ))
                (turned_join more (origin m e) (origin m (next m e)) here))
            | inr k ↦ let y = others h n k in inl (y.0 ∙ x.0, y.1 ∙ x.1)
          ]
        ]
      ];
      faces = λ f t p. elim (stays.faces f t p) [
        | inr j ↦ inr (has_more pairs more keep t j)
        | inl q ↦ elim (cases_eq f (face m e - 1)) [
          | inl r ↦
              inr (face_has_side m s more e w inner here t
              (ap (slice_get (triangles m)) (sym r) ∙ q))
          | inr n ↦ elim (cases_eq f (face m (rev e) - 1)) [
            | inl r ↦ inr (face_has_side m s more (rev e) twin_within twin_inner behind t
                (ap (slice_get (triangles m)) (sym r) ∙ q))
            | inr k ↦ inl (ap (λ ts. slice_get ts f) flips ∙ slice_get-set_other
                (set (triangles m) (face m e - 1) left) (face m (rev e) - 1) f right k
                ∙ slice_get-set_other (triangles m) (face m e - 1) f left n ∙ q)
          ]
        ]
      ];
    }
  where
    meet : origin m (next m e) ≡ origin m (rev e)
    meet = (s.edges e w).starts

    twin_within : rev e < length m.half_edges
    twin_within = rev_within e (length m.half_edges) s.even w

    behind : Joins more (origin m (rev e)) (origin m (next m (rev e)))
    behind = subst (λ (y : ℕ × ℕ). Joins more y.0 y.1) (λ i. (
      meet i,
      (ap (origin m) (sym (rev-rev e)) ∙ sym (s.edges (rev e) twin_within).starts) i,
    ))
        (turned_join more (origin m e) (origin m (next m e)) here)

    left : Triangle
    left = record {
      first = origin m (prev m e);
      second = origin m (prev m (rev e));
      third = origin m (next m e);
    }

    right : Triangle
    right = record {
      first = origin m (prev m (rev e));
      second = origin m (prev m e);
      third = origin m (next m (rev e));
    }
