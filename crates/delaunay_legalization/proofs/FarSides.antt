-- Where only edges opposite one vertex fail, a flip leaves the two sides beyond it to test.
-- Notions: GainsFarSides; listed_or_not, with_one, flip_keeps_empty, turned_far.
use Rattle.std.proofs.Common.{◌≡◌, ◌⊎◌, ℕ, ◌*◌, ◌/◌, ◌<◌, List, [], ◌∷◌, ◌++◌}
use Rattle.std.proofs.Common.{length, refl, sym, ap, ◌∙◌, subst}
use mathlib.Core.Logic.{◌≢◌, inl, inr}
use Rattle.std.specs.Prelude.{Contains}
use Rattle.std.proofs.lemmas.Bool.{cases_eq}
use Rattle.plane.specs.{face as corners, Joins, Point}
use Rattle.half_edge_links.specs.{AreSixPlaces, flipped, Flips, IsFlippable, IsValidMesh, Mesh}
use Rattle.half_edge_links.specs.{next, origin, prev, rev}
use Rattle.half_edge_links.proofs.{flips, origin_kept, rev-rev}
use Rattle.half_edge_links.proofs.Faces.FlipTriangles.{triangles_flipped}
use Rattle.plane_theorems.specs.{AllPassBut, FacesChange, IsEmptyRound, IsFaceOf, IsMesh, LocalMesh}
use Rattle.plane_theorems.proofs.{Contains-cases, Contains-head, Contains-later, Contains-none}
use Rattle.plane_theorems.proofs.Edits.Legalization.EmptyRound.{failing_is_opposite}
use Rattle.plane_theorems.proofs.Edits.Legalization.EmptyRound.{flip_stays_empty, spokes_pass}
use Rattle.delaunay_legalization.specs.{AreEdges, faces_of, Gains, GainsRound, IsFailing}
use Rattle.delaunay_legalization.specs.{IsPartlyLegal, outer_of, pairs_at, Pushing.KeepsEntries}
use Rattle.delaunay_legalization.proofs.{FaceChanges.turned_faces, TurnedEnds.other_ends_stay}
use Rattle.delaunay_legalization.proofs.{Legalizing.edges_gained, MeshStays.half_same}
use Rattle.delaunay_legalization.proofs.MeshEdits.{face_before, face_behind, flipped_faces}
use Rattle.delaunay_legalization.proofs.TurnedEnds.{ends_at_next, KeepsOtherOrigins}
use Rattle.half_edge_links.proofs.Sound.Triangles as T
use Rattle.delaunay_legalization.proofs.MeshLegal as M

-- ---- an edge at the vertex may be left out
-- a mesh with a face is no line
local_with : (points : List Point) (m : Mesh) → IsMesh points (faces_of m) (outer_of m)
    → (i j k : ℕ) → IsFaceOf (faces_of m) i j k → LocalMesh points (faces_of m) (outer_of m)
local_with points m (inl local) i j k f = local
local_with points m (inr line) i j k f = absurd (M.line_has_none m i j k line.0 f)

-- one of the ends i and j of an edge is the vertex v
abbrev IsEndOf : ℕ → ℕ → ℕ → Type 0
IsEndOf v i j = (i ≡ v) ⊎ (j ≡ v)

is_at_or_not : (v i j : ℕ) → IsEndOf v i j ⊎ (¬ IsEndOf v i j)
is_at_or_not v i j = elim (cases_eq i v) [
  | inl e ↦ inl (inl e)
  | inr n ↦ elim (cases_eq j v) [
    | inl e ↦ inl (inr e)
    | inr o ↦ inr (λ x. elim x as (λ _. ⊥) [ inl e ↦ n e | inr e ↦ o e ])
  ]
]

-- directed edges of one undirected edge have the same ends
ends_at : (m : Mesh) (v g h i j : ℕ) → IsEndOf v (origin m g) (origin m (rev g)) → h / 2 ≡ g / 2
    → origin m h ≡ i → origin m (rev h) ≡ j → IsEndOf v i j
ends_at m v g h i j at same start end = go at (half_same g h same)
  where
    go : IsEndOf v (origin m g) (origin m (rev g)) → (h ≡ g) ⊎ (h ≡ rev g) → IsEndOf v i j
    go (inl a) (inl e) = inl (sym start ∙ ap (origin m) e ∙ a)
    go (inr a) (inl e) = inr (sym end ∙ ap (λ (x : ℕ). origin m (rev x)) e ∙ a)
    go (inl a) (inr e) =
        inr (sym end ∙ ap (λ (x : ℕ). origin m (rev x)) e ∙ ap (origin m) (rev-rev g) ∙ a)
    go (inr a) (inr e) = inl (sym start ∙ ap (origin m) e ∙ a)

-- with empty circles round a vertex, an edge at the vertex may be left out of the work list
spoke_dropped : (points : List Point) (constraints : List (ℕ × ℕ)) (was m : Mesh)
    (v start flips : ℕ) (ks more : List ℕ) (g : ℕ) → IsEmptyRound points (faces_of m) v
    → IsEndOf v (origin m g) (origin m (rev g)) → Gains ks more (g / 2) → AreEdges m ks
    → IsPartlyLegal points constraints was m more start flips
    → IsPartlyLegal points constraints was m ks start flips
spoke_dropped points constraints was m v start flips ks more g empty at gains edges p = record {
  shape = p.shape;
  edges = edges;
  passing = passing;
  away = p.away;
  are_away = p.are_away;
  count = p.count;
  stays = p.stays;
}
  where
    passing : AllPassBut points (faces_of m) constraints (pairs_at m ks)
    passing i j k l f h free untested = elim (is_at_or_not v i j) [
      | inl ends ↦
          spokes_pass points (faces_of m) (outer_of m) v
          (local_with points m p.shape i j k f) empty i j k l f h ends
      | inr off ↦
          p.passing i j k l f h free (λ joined. elsewhere off (M.listed_edge m more i j joined))
    ]
      where
        elsewhere : ¬ IsEndOf v i j → (x : ℕ) × M.IsListedEdge m more i j x → ⊥
        elsewhere off x = elim (gains.only (x.0 / 2) x.1.listed) as (λ _. ⊥) [
          | inl e ↦ off (ends_at m v g x.0 i j at e x.1.start x.1.end)
          | inr c ↦ untested
              (subst (λ (y : ℕ × ℕ). Joins (pairs_at m ks) y.0 y.1) (λ o. (x.1.start o, x.1.end o))
              (M.joins_directed m ks x.0 c))
        ]

-- ---- a work list with one more edge
-- an edge is in the list, or it is not
pub listed_or_not : (ks : List ℕ) (k : ℕ) → Contains ks k ⊎ (¬ Contains ks k)
listed_or_not [] k = inr (Contains-none k)
listed_or_not (j ∷ ks) k = elim (cases_eq j k) [
  | inl e ↦ inl (subst (Contains (j ∷ ks)) e (Contains-head j ks))
  | inr n ↦ elim (listed_or_not ks k) [
    | inl c ↦ inl (Contains-later j ks k c)
    | inr d ↦ inr (λ h. elim (Contains-cases j ks k h) as (λ _. ⊥) [ inl e ↦ n e | inr c ↦ d c ])
  ]
]

-- a list that gains an edge
pub with_one : (ks : List ℕ) (k : ℕ) → (more : List ℕ) × Gains ks more k
with_one ks k = elim (listed_or_not ks k) [
  | inl c ↦ (ks, M.gains_none ks k c)
  | inr n ↦ (ks ++ k ∷ [], M.gains_last ks k n)
]

-- the entries of old, and the two sides beyond edge e from vertex v, which is opposite e on its
-- left or on its right
pub record GainsFarSides (m : Mesh) (e v : ℕ) (old new : List ℕ) : Type 0 where
  pub kept : KeepsEntries old new
  pub far : origin m (prev m e) ≡ v
      → Contains new (next m (rev e) / 2) × Contains new (prev m (rev e) / 2)
  pub near : origin m (prev m e) ≢ v → Contains new (next m e / 2) × Contains new (prev m e / 2)

-- ---- a failing edge is turned
module _ (points : List Point) (m : Mesh) (s : IsValidMesh m)
    (shape : IsMesh points (faces_of m) (outer_of m)) (e : ℕ) (within : e < length m.half_edges)
    (x : IsFailing points m e) (v : ℕ) (empty : IsEmptyRound points (faces_of m) v) where
  abbrev a : ℕ
  a = origin m e

  abbrev b : ℕ
  b = origin m (prev m (rev e))

  abbrev c : ℕ
  c = origin m (next m e)

  abbrev d : ℕ
  d = origin m (prev m e)

  local : LocalMesh points (faces_of m) (outer_of m)
  local = M.local_of points m e s.sound shape (within, x.inner)

  -- an edge that fails can be turned
  turn : IsFlippable m e
  turn = M.between_inner points m s local e within x.inner x.twin_inner

  first : IsFaceOf (faces_of m) a b c
  first = turned_faces (faces_of m) c a b (face_behind m e s.sound turn)

  second : IsFaceOf (faces_of m) a c d
  second = face_before m e s.sound (within, x.inner)

  -- the vertex is a corner opposite the edge
  opposite : (b ≡ v) ⊎ (d ≡ v)
  opposite = failing_is_opposite points (faces_of m)
      (outer_of m) a b c d v local empty first second x.inside

  change : FacesChange (faces_of m) (faces_of (flipped m e)) (corners a b c ∷ corners a c d ∷ [])
      (corners a b d ∷ corners b c d ∷ [])
  change = flipped_faces m (flipped m e) e s.sound turn
      (triangles_flipped m (flipped m e) e s.sound turn refl)

  -- after the flip the circles are empty still
  pub flip_keeps_empty : IsEmptyRound points (faces_of (flipped m e)) v
  flip_keeps_empty = flip_stays_empty points (faces_of m) (faces_of (flipped m e))
      (outer_of m) a b c d v local first
      second change x.inside empty

  moves : Flips m (flipped m e) e
  moves = flips m e s.sound turn

  origin_stays : KeepsOtherOrigins m (flipped m e) e
  origin_stays = origin_kept m (flipped m e) e s.sound turn moves

  -- the two sides of e and the four edges round it are six different ones
  six : AreSixPlaces (length m.half_edges) e (rev e) (next m e) (next m (rev e)) (prev m e)
      (prev m (rev e))
  six = T.six_round m e s.sound turn

  edges_stay : (ks : List ℕ) → AreEdges m ks → AreEdges (flipped m e) ks
  edges_stay ks o = record {
    within = λ j l. subst (λ (z : ℕ). (2 * j) < z) (sym moves.edge_count) (o.within j l);
    once = o.once;
  }

  -- neither of the two directed edges of e
  abbrev IsOther : ℕ → Type 0
  IsOther h = (h ≢ e) × (h ≢ rev e)

  -- where the vertex is the corner opposite f of the face on its left, its other sides need not be
  -- in the work list
  spared : {constraints : List (ℕ × ℕ)} {was : Mesh} {start flips : ℕ} (f : ℕ) → IsOther (next m f)
      → IsOther (prev m f) → next m f < length m.half_edges → prev m f < length m.half_edges
      → next m (next m f) ≡ prev m f → origin m (prev m f) ≡ v → (more : List ℕ) → AreEdges m more
      → ((all : List ℕ) → ((j : ℕ) → Contains more j → Contains all j) → Contains all (next m f / 2)
      → Contains all (prev m f / 2) → AreEdges m all
      → IsPartlyLegal points constraints was (flipped m e) all start flips)
      → IsPartlyLegal points constraints was (flipped m e) more start flips
  spared {constraints = constraints} {was = was} {start = start} {flips = flips} f n p n_in p_in
      round at more own
      legal =
      let one = with_one more (next m f / 2) in
      let two = with_one one.0 (prev m f / 2) in
      let one_own =
      edges_gained m more one.0 (next m f) (length m.half_edges) refl n_in own one.1 in
      let two_own =
      edges_gained m one.0 two.0 (prev m f) (length m.half_edges) refl p_in one_own two.1 in
      spoke_dropped points constraints was (flipped m e) v start flips more one.0
      (next m f) flip_keeps_empty
      (inr (other_ends_stay m (flipped m e) e origin_stays (next m f) n.0 n.1
      ∙ ends_at_next m s.sound (next m f) (prev m f) n_in round ∙ at)) one.1 (edges_stay more own)
      (spoke_dropped points constraints was (flipped m e) v start flips one.0 two.0
      (prev m f) flip_keeps_empty
      (inl (origin_stays (prev m f) p.0 p.1 ∙ at)) two.1 (edges_stay one.0 one_own)
      (legal two.0 (λ j l. two.1.kept j (one.1.kept j l))
      (two.1.kept (next m f / 2) one.1.there) two.1.there two_own))

  -- the work list needs the two sides beyond e from the vertex alone
  pub turned_far : (constraints : List (ℕ × ℕ)) (was : Mesh) (start flips : ℕ) (ks more : List ℕ)
      → GainsFarSides m e v ks more → AreEdges m more → ((all : List ℕ) → GainsRound m e ks all
      → AreEdges m all → IsPartlyLegal points constraints was (flipped m e) all start flips)
      → IsPartlyLegal points constraints was (flipped m e) more start flips
  turned_far constraints was start flips ks more g own legal = elim (cases_eq d v) [
    | inl at ↦
        spared e ((λ r. six.ac (sym r)), (λ r. six.bc (sym r)))
        ((λ r. six.ae (sym r)), (λ r. six.be (sym r)))
        six.c_in six.e_in (T.triangle_at m e s.sound within x.inner).next_next at more own
        (λ all kept n p. legal all (record {
          kept = λ j l. kept j (g.kept j l);
          next_there = n;
          prev_there = p;
          twin_next_there = kept (next m (rev e) / 2) (g.far at).0;
          twin_prev_there = kept (prev m (rev e) / 2) (g.far at).1;
        }))
    | inr off ↦
        spared (rev e) ((λ r. six.ad (sym r)), (λ r. six.bd (sym r)))
        ((λ r. six.af (sym r)), (λ r. six.bf (sym r)))
        six.d_in six.f_in (T.triangle_at m (rev e) s.sound six.b_in x.twin_inner).next_next
        (on_right off) more own
        (λ all kept n p. legal all (record {
          kept = λ j l. kept j (g.kept j l);
          next_there = kept (next m e / 2) (g.near off).0;
          prev_there = kept (prev m e / 2) (g.near off).1;
          twin_next_there = n;
          twin_prev_there = p;
        }))
  ]
    where
      on_right : d ≢ v → b ≡ v
      on_right off = elim opposite [ inl at ↦ at | inr at ↦ absurd (off at) ]
