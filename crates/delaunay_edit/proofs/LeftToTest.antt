-- What flips towards a segment leave to the circle test.
-- Lemmas: flip_leaves, crossing_leaves, none_crosses, passing_ends.
use Rattle.std.proofs.Common.{◌≡◌, ◌≢◌, ◌⊎◌, ◌/◌, [], ◌∷◌, ◌∙◌}
use Rattle.std.proofs.Common.{ℕ, List, length, refl, sym, subst, inl, inr}
use Rattle.std.specs.Prelude.{Contains}
use Rattle.plane.specs.{Cross, Face, face as corners, IsEdge, IsSame, IsSamePair, Joins, OnSegment}
use Rattle.plane.proofs.{end_on_segment, same-sym, start_on_segment, turned_join}
use Rattle.half_edge_links.specs.{AreSixPlaces, Flips, IsFlippable, IsValidMesh, Mesh, next, origin}
use Rattle.{half_edge_links.specs.prev, half_edge_links.specs.rev, plane.proofs.within_segment-same}
use Rattle.{half_edge_links.proofs.origin_kept, plane.specs.place, plane.specs.Point}
use Rattle.plane_theorems.specs.{AllPassBut, FacesChange, IsFaceOf, IsMesh, Pass}
use Rattle.plane_theorems.proofs.{face_from, no_edges_cross, turn_of_all}
use Rattle.plane_theorems.proofs.Edits.LocalMesh.Changes.{each, each_none}
use Rattle.delaunay_legalization.specs.{drawn, edges_of, faces_of, GainsRound, outer_of, pairs_at}
use Rattle.delaunay_legalization.proofs.{edge_joins, edge_of_face, joins_directed, listed_edge}
use Rattle.delaunay_legalization.proofs.{own_edges, turned_faces, TurnedEnds.other_ends_stay}
use Rattle.delaunay_legalization.proofs.MeshEdits.{end_of_twin, start_of_twin}
use Rattle.delaunay_legalization.proofs.TurnedEnds.{ends_at_next, KeepsOtherOrigins}
use Rattle.delaunay_edit.specs.{KeepsUncrossed, Leaving.AllPassAway, Leaving.IsCrossedFace}
use Rattle.{delaunay_edit.proofs.Walking.not_start, delaunay_legalization.specs.point_at}
use Rattle.half_edge_links.proofs.Sound.Triangles as T

-- ---- one flip
module _ (m : Mesh) (s : IsValidMesh m) (e : ℕ) (can : IsFlippable m e) (after : Mesh)
    (moves : Flips m after e) where
  abbrev a : ℕ
  a = origin m e

  abbrev b : ℕ
  b = origin m (prev m (rev e))

  abbrev c : ℕ
  c = origin m (next m e)

  abbrev d : ℕ
  d = origin m (prev m e)

  abbrev made : List Face
  made = corners a b d ∷ corners b c d ∷ []

  origin_stays : KeepsOtherOrigins m after e
  origin_stays = origin_kept m after e s.sound can moves

  -- the edge's two sides and the four edges round it are six different ones
  six : AreSixPlaces (length m.half_edges) e (rev e) (next m e) (next m (rev e)) (prev m e)
      (prev m (rev e))
  six = T.six_round m e s.sound can

  module _ (ks more : List ℕ) (round : GainsRound m e ks more) (own : Contains more (e / 2)) where
    abbrev Joined : ℕ → ℕ → Type 0
    Joined u v = Joins (pairs_at after more) u v

    side_joined : (h u v : ℕ) → h ≢ e → h ≢ rev e → Contains more (h / 2) → origin m h ≡ u
        → origin m (rev h) ≡ v → Joined u v
    side_joined h u v n t l p q = subst (λ (y : ℕ × ℕ). Joins (pairs_at after more) y.0 y.1)
        (λ o. ((origin_stays h n t ∙ p) o, (other_ends_stay m after e origin_stays h n t ∙ q) o))
        (joins_directed after more h l)

    ab_joined : Joined a b
    ab_joined = side_joined (next m (rev e)) a b (λ r. six.ad (sym r))
        (λ r. six.bd (sym r)) round.twin_next_there
        (end_of_twin m e s.sound can)
        (ends_at_next m s.sound (next m (rev e)) (prev m (rev e)) six.d_in
        (T.triangle_at m (rev e) s.sound six.b_in can.twin_inner).next_next)

    bc_joined : Joined b c
    bc_joined = side_joined (prev m (rev e)) b c (λ r. six.af (sym r))
        (λ r. six.bf (sym r)) round.twin_prev_there refl
        (ends_at_next m s.sound (prev m (rev e)) (rev e) six.f_in
        (s.sound.edges (rev e) six.b_in).next_prev
        ∙ start_of_twin m e s.sound can)

    cd_joined : Joined c d
    cd_joined =
        side_joined (next m e) c d (λ r. six.ac (sym r)) (λ r. six.bc (sym r)) round.next_there refl
        (ends_at_next m s.sound (next m e) (prev m e) six.c_in
        (T.triangle_at m e s.sound can.within can.inner).next_next)

    da_joined : Joined d a
    da_joined =
        side_joined (prev m e) d a (λ r. six.ae (sym r)) (λ r. six.be (sym r)) round.prev_there refl
        (ends_at_next m s.sound (prev m e) e six.e_in (s.sound.edges e can.within).next_prev)

    db_joined : Joined d b
    db_joined = subst (λ (y : ℕ × ℕ). Joins (pairs_at after more) y.0 y.1)
        (λ o. (moves.edge.origin o, moves.twin.origin o)) (joins_directed after more e own)

    bd_joined : Joined b d
    bd_joined = turned_join (pairs_at after more) d b db_joined

    -- the sides of the two faces that were made are left to test
    abbrev AreJoined : ℕ → ℕ → ℕ → Type 0
    AreJoined i j k = Joined i j × Joined j k × Joined k i

    sides_joined : (i j k : ℕ) → IsFaceOf made i j k → AreJoined i j k
    sides_joined = turn_of_all made AreJoined (λ i j k x. (x.1, x.2, x.0))
        (each (λ (f : Face). AreJoined f.a f.b f.c) (corners a b d) (corners b c d ∷ [])
        (ab_joined, bd_joined, da_joined)
        (each (λ (f : Face). AreJoined f.a f.b f.c) (corners b c d) []
        (bc_joined, cd_joined, db_joined)
        (each_none (λ (f : Face). AreJoined f.a f.b f.c))))

    module _ (points : List Point) (i j : ℕ) (kept : KeepsUncrossed points m after i j) (change :
        FacesChange (faces_of m) (faces_of after) (corners a b c ∷ corners a c d ∷ []) made)
        (constraints : List (ℕ × ℕ))
        (passing : AllPassAway points (faces_of m) constraints (pairs_at m ks) i j) where
      -- what was left to test, and does not cross, is so still
      still_left : (u v : ℕ)
          → ¬ Cross (place points i) (place points j) (place points u) (place points v)
          → Joins (pairs_at m ks) u v → Joined u v
      still_left u v clear joined =
          let h = listed_edge m ks u v joined in
          let way =
          kept h.0 (λ x. clear (subst (λ (y : ℕ × ℕ). Cross (place points i) (place points j)
          (place points y.0) (place points y.1)) (λ o. (h.1.start o, h.1.end o)) x)) in
          subst (λ (y : ℕ × ℕ). Joins (pairs_at after more) y.0 y.1)
          (λ o. ((way.0 ∙ h.1.start) o, (way.1 ∙ h.1.end) o))
          (joins_directed after more h.0 (round.kept (h.0 / 2) h.1.listed))

      -- after a flip that keeps what does not cross, all that may fail is beside a face that is
      -- crossed, or in the list
      pub flip_leaves : AllPassAway points (faces_of after) constraints (pairs_at after more) i j
      flip_leaves u v k l f g first second free untested = go
          (face_from (faces_of m) (faces_of after)
          (corners a b c ∷ corners a c d ∷ []) made change u v k f)
          (face_from (faces_of m) (faces_of after)
          (corners a b c ∷ corners a c d ∷ []) made change v u l g)
        where
          go : IsFaceOf (faces_of m) u v k ⊎ IsFaceOf made u v k
              → IsFaceOf (faces_of m) v u l ⊎ IsFaceOf made v u l → Pass points u v k l
          go (inr x) y = absurd (untested (sides_joined u v k x).0)
          go (inl x) (inr y) =
              absurd (untested (turned_join (pairs_at after more) v u (sides_joined v u l y).0))
          go (inl x) (inl y) =
              passing u v k l x y first second free
              (λ h. untested (still_left u v (λ c. first (inl c)) h))

  -- where the edge that is made crosses too, nothing more is left to test
  module _ (points : List Point) (i j : ℕ) (kept : KeepsUncrossed points m after i j) (change :
      FacesChange (faces_of m) (faces_of after) (corners a b c ∷ corners a c d ∷ []) made)
      (made_crosses : Cross (place points i) (place points j) (place points b) (place points d)
      × Cross (place points i) (place points j) (place points d) (place points b)) where
    abbrev Crossed : ℕ → ℕ → ℕ → Type 0
    Crossed u v k = IsCrossedFace points i j u v k

    turned_crossed : (u v k : ℕ) → Crossed u v k → Crossed v k u
    turned_crossed u v k (inl x) = inr (inr x)
    turned_crossed u v k (inr (inl x)) = inl x
    turned_crossed u v k (inr (inr x)) = inr (inl x)

    made_crossed : (u v k : ℕ) → IsFaceOf made u v k → Crossed u v k
    made_crossed = turn_of_all made Crossed turned_crossed
        (each (λ (f : Face). Crossed f.a f.b f.c) (corners a b d) (corners b c d ∷ [])
        (inr (inl made_crosses.0))
        (each (λ (f : Face). Crossed f.a f.b f.c) (corners b c d) []
        (inr (inr made_crosses.1))
        (each_none (λ (f : Face). Crossed f.a f.b f.c))))

    module _ (ks : List ℕ) (constraints : List (ℕ × ℕ))
        (passing : AllPassAway points (faces_of m) constraints (pairs_at m ks) i j) where
      listed_still : (u v : ℕ)
          → ¬ Cross (place points i) (place points j) (place points u) (place points v)
          → Joins (pairs_at m ks) u v → Joins (pairs_at after ks) u v
      listed_still u v clear joined =
          let h = listed_edge m ks u v joined in
          let way = kept h.0 (λ x. clear (subst (λ (y : ℕ × ℕ). Cross (place points i)
          (place points j) (place points y.0) (place points y.1))
          (λ o. (h.1.start o, h.1.end o)) x)) in
          subst (λ (y : ℕ × ℕ). Joins (pairs_at after ks) y.0 y.1)
          (λ o. ((way.0 ∙ h.1.start) o, (way.1 ∙ h.1.end) o))
          (joins_directed after ks h.0 h.1.listed)

      pub crossing_leaves : AllPassAway points (faces_of after) constraints (pairs_at after ks) i j
      crossing_leaves u v k l f g first second free untested = go
          (face_from (faces_of m) (faces_of after)
          (corners a b c ∷ corners a c d ∷ []) made change u v k f)
          (face_from (faces_of m) (faces_of after)
          (corners a b c ∷ corners a c d ∷ []) made change v u l g)
        where
          go : IsFaceOf (faces_of m) u v k ⊎ IsFaceOf made u v k
              → IsFaceOf (faces_of m) v u l ⊎ IsFaceOf made v u l → Pass points u v k l
          go (inr x) y = absurd (first (made_crossed u v k x))
          go (inl x) (inr y) = absurd (second (made_crossed v u l y))
          go (inl x) (inl y) = passing u v k l x y first second free
              (λ h. untested (listed_still u v (λ c. first (inl c)) h))

-- ---- before and after all flips towards a segment
module _ (points : List Point) (m : Mesh) (s : IsValidMesh m) (shape : IsMesh points (faces_of m)
    (outer_of m)) (i j : ℕ) (apart : ¬ (point_at points i ≡ point_at points j)) where
  -- where the segment is an edge, none crosses it
  pub none_crosses : IsEdge (drawn points m) i j → (u v : ℕ) → IsEdge (drawn points m) u v →
      ¬ Cross (place points i) (place points j) (place points u) (place points v)
  none_crosses edge u v other x = not_start (point_at points i) (point_at points j) apart
      (within_segment-same (place points i) (place points j) x.at (place points i)
      (same-sym (place points i) x.at start_is) x.within_first)
    where
      pair : IsSamePair u v i j
      pair = (no_edges_cross points (faces_of m) (outer_of m) (edges_of m) shape (own_edges m s)).1
          i j u v edge other
          x.at x.within_first x.within_second

      on_other : IsSamePair u v i j → OnSegment (place points u) (place points v) (place points i)
      on_other (inl e) =
          subst (λ (y : ℕ × ℕ). OnSegment (place points y.0) (place points y.1) (place points i))
          (λ o. (sym e.0 o, sym e.1 o)) (start_on_segment (place points i) (place points j))
      on_other (inr e) =
          subst (λ (y : ℕ × ℕ). OnSegment (place points y.0) (place points y.1) (place points i))
          (λ o. (sym e.0 o, sym e.1 o)) (end_on_segment (place points j) (place points i))

      start_is : IsSame (place points i) x.at
      start_is = x.meet.only (place points i) (start_on_segment (place points i) (place points j))
          (on_other pair)

  side_is_edge : (u v k : ℕ) → IsFaceOf (faces_of m) u v k → IsEdge (drawn points m) u v
  side_is_edge u v k f =
      let h = edge_of_face m s.sound u v k f in
      subst (λ (y : ℕ × ℕ). IsEdge (drawn points m) y.0 y.1)
      (λ o. (h.1.first o, (sym (s.sound.edges h.0 h.1.inner.0).starts ∙ h.1.second) o))
      (edge_joins m s.sound h.0 h.1.inner.0)

  -- where the segment is an edge, it crosses no side of a face
  uncrossed : IsEdge (drawn points m) i j → (u v k : ℕ) → IsFaceOf (faces_of m) u v k
      → ¬ IsCrossedFace points i j u v k
  uncrossed edge u v k f (inl c) = none_crosses edge u v (side_is_edge u v k f) c
  uncrossed edge u v k f (inr (inl c)) =
      none_crosses edge v k (side_is_edge v k u (turned_faces (faces_of m) u v k f)) c
  uncrossed edge u v k f (inr (inr c)) = none_crosses edge k u (side_is_edge k u v
      (turned_faces (faces_of m) v k u (turned_faces (faces_of m) u v k f))) c

  -- where the segment is an edge, none crosses it, and all that may fail is in the list
  pub passing_ends : (constraints left : List (ℕ × ℕ)) → IsEdge (drawn points m) i j
      → AllPassAway points (faces_of m) constraints left i j
      → AllPassBut points (faces_of m) constraints left
  passing_ends constraints left edge passing u v k l f g free untested =
      passing u v k l f g (uncrossed edge u v k f) (uncrossed edge v u l g) free untested
