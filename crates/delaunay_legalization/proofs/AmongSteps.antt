-- Where only some edges may fail, a flip leaves those round it to test that are among these.
-- Lemmas: six, right_by_edges, moves, only_stay, legal_among.
use Rattle.std.proofs.Common.{◌≡◌, ◌⊎◌, ℕ, ◌*◌, ◌/◌, ◌<◌, List, [], ◌∷◌, ◌++◌}
use Rattle.std.proofs.Common.{length, refl, sym, ap, ◌∙◌, subst, arith}
use mathlib.Core.Logic.{◌≢◌, inl, inr}
use Rattle.std.specs.Prelude.{Contains}
use Rattle.plane.specs.{InsideCircle, place, Point}
use Rattle.half_edge_links.specs.{AreSixPlaces, edge_at, face, flipped, Flips, IsFlippable}
use Rattle.half_edge_links.specs.{IsValidMesh, Mesh, next, origin, prev, rev}
use Rattle.half_edge_links.proofs.{flips, origin_kept, rev-rev, rev_within}
use Rattle.plane_theorems.specs.{IsFaceOf, IsMesh, LocalMesh}
use Rattle.plane_theorems.proofs.{Edits.LocalMesh.Kept.index_of, one_question, point_at, turning_of}
use Rattle.delaunay_legalization.specs.{AreEdges, faces_of, FailOnlyOf, Gains, GainsRound}
use Rattle.delaunay_legalization.specs.{IsFailing, IsPartlyLegal, IsQuiet, outer_of}
use Rattle.delaunay_legalization.specs.{Among.IsQuietEdge, Pushing.GainsRoundAmong}
use Rattle.{delaunay_legalization.proofs.FarSides.listed_or_not, plane.proofs.circle_turned}
use Rattle.delaunay_legalization.proofs.{Legalizing.edges_gained, TurnedEnds.KeepsOtherOrigins}
use Rattle.delaunay_legalization.proofs.MeshEdits.{face_before, face_behind}
use Rattle.half_edge_links.proofs.Sound.Triangles as T
use Rattle.delaunay_legalization.proofs.MeshLegal as M

-- ---- a failing edge is not quiet
-- directed edge h is none of the three of the face on the left of directed edge e
record IsNoneOfFace (m : Mesh) (e h : ℕ) : Type 0 where
  pub first : h ≢ e
  pub second : h ≢ next m e
  pub third : h ≢ prev m e

-- where a point is inside the circle of a face, none of its three directed edges is quiet
module _ (points : List Point) (m : Mesh) (e : ℕ) (t : T.IsTriangle m e) (inner : 0 < face m e)
    (n : ℕ) (n_in : n < length points)
    (inside : InsideCircle (place points (origin m e)) (place points (origin m (next m e)))
    (place points (origin m (prev m e))) (place points n)) where
  abbrev Inside : ℕ → ℕ → ℕ → Type 0
  Inside i j k =
      InsideCircle (place points (origin m i)) (place points (origin m j))
      (place points (origin m k)) (place points n)

  first_loud : IsQuiet points m e → ⊥
  first_loud (inl o) = omega (arith, inner, o)
  first_loud (inr q) = q n n_in inside

  next_loud : IsQuiet points m (next m e) → ⊥
  next_loud (inl o) = let f = t.face_next in omega (arith, inner, f, o)
  next_loud (inr q) = q n n_in (subst (λ (z : ℕ × ℕ). Inside (next m e) z.0 z.1)
      (λ i. (sym t.next_next i, sym t.prev_next i)) (circle_turned _ _ _ _ inside))

  prev_loud : IsQuiet points m (prev m e) → ⊥
  prev_loud (inl o) = let f = t.face_prev in omega (arith, inner, f, o)
  prev_loud (inr q) = q n n_in (subst (λ (z : ℕ × ℕ). Inside (prev m e) z.0 z.1)
      (λ i. (sym t.next_prev i, sym t.prev_prev i))
      (circle_turned _ _ _ _ (circle_turned _ _ _ _ inside)))

  -- so no quiet edge is one of them
  quiet_is_outside : (h : ℕ) → IsQuiet points m h → IsNoneOfFace m e h
  quiet_is_outside h q = record {
    first = λ i. first_loud (subst (IsQuiet points m) i q);
    second = λ i. next_loud (subst (IsQuiet points m) i q);
    third = λ i. prev_loud (subst (IsQuiet points m) i q);
  }

module _ (points : List Point) (m : Mesh) (s : IsValidMesh m) (shape : IsMesh points (faces_of m)
    (outer_of m)) (e : ℕ) (within : e < length m.half_edges) (x : IsFailing points m e) where
  abbrev a : ℕ
  a = origin m e

  abbrev b : ℕ
  b = origin m (prev m (rev e))

  abbrev c : ℕ
  c = origin m (next m e)

  abbrev d : ℕ
  d = origin m (prev m e)

  local : LocalMesh points (faces_of m) (outer_of m)
  local = M.local_of points m e s.sound shape (within, x.inner)

  -- an edge that fails can be turned
  turn : IsFlippable m e
  turn = M.between_inner points m s local e within x.inner x.twin_inner

  -- the two sides of e and the four edges round it are six different ones
  pub six : AreSixPlaces (length m.half_edges) e (rev e) (next m e) (next m (rev e)) (prev m e)
      (prev m (rev e))
  six = T.six_round m e s.sound turn

  left_face : IsFaceOf (faces_of m) a c d
  left_face = face_before m e s.sound (within, x.inner)

  right_face : IsFaceOf (faces_of m) c a b
  right_face = face_behind m e s.sound turn

  -- the corner on the left is inside the circle of the face on the right
  inside_right : InsideCircle (place points c) (place points a) (place points b) (place points d)
  inside_right =
      (one_question (point_at points a) (point_at points c) (point_at points d) (point_at points b)
      (turning_of points (faces_of m) (outer_of m) local a c d left_face)
      (turning_of points (faces_of m) (outer_of m) local c a b right_face)).0 x.inside

  pub right_by_edges : InsideCircle (place points (origin m (rev e)))
      (place points (origin m (next m (rev e)))) (place points b) (place points d)
  right_by_edges =
      let back = sym ((s.sound.edges (rev e) six.b_in).starts ∙ ap (origin m) (rev-rev e)) in
      subst (λ (z : ℕ × ℕ). InsideCircle (place points z.0) (place points z.1) (place points b)
      (place points d))
      (λ i. ((s.sound.edges e within).starts i, back i)) inside_right

  -- a quiet edge is in neither face of a failing edge
  outside_left : (h : ℕ) → IsQuiet points m h → IsNoneOfFace m e h
  outside_left h q =
      quiet_is_outside points m e (T.triangle_at m e s.sound within x.inner) x.inner b
      (index_of points (faces_of m) (outer_of m) local c a b right_face).2 x.inside h q

  outside_right : (h : ℕ) → IsQuiet points m h → IsNoneOfFace m (rev e) h
  outside_right h q =
      quiet_is_outside points m (rev e) (T.triangle_at m (rev e) s.sound six.b_in x.twin_inner)
      x.twin_inner d
      (index_of points (faces_of m) (outer_of m) local a c d left_face).2 right_by_edges h q

  -- so an edge that fails is quiet on neither side
  fails_loud : IsQuiet points m e ⊎ IsQuiet points m (rev e) → ⊥
  fails_loud (inl q) = (outside_left e q).first refl
  fails_loud (inr q) = (outside_right (rev e) q).first refl

  -- ---- after the flip
  pub moves : Flips m (flipped m e) e
  moves = flips m e s.sound turn

  origin_stays : KeepsOtherOrigins m (flipped m e) e
  origin_stays = origin_kept m (flipped m e) e s.sound turn moves

  -- a quiet edge stays quiet
  quiet_stays : (h : ℕ) → h < length m.half_edges → IsQuiet points m h
      → IsQuiet points (flipped m e) h
  quiet_stays h h_in q = go q
    where
      left : IsNoneOfFace m e h
      left = outside_left h q

      right : IsNoneOfFace m (rev e) h
      right = outside_right h q

      same : edge_at (flipped m e).half_edges h ≡ edge_at m.half_edges h
      same =
          moves.other_edges h left.first right.first left.second right.second left.third right.third

      next_same : next (flipped m e) h ≡ next m h
      next_same = ap (λ r. r.next) same

      prev_same : prev (flipped m e) h ≡ prev m h
      prev_same = ap (λ r. r.prev) same

      own : origin (flipped m e) h ≡ origin m h
      own = ap (λ r. r.origin) same

      next_own : origin (flipped m e) (next (flipped m e) h) ≡ origin m (next m h)
      next_own = ap (origin (flipped m e)) next_same ∙ origin_stays (next m h)
          (λ i. left.third (sym (s.sound.edges h h_in).prev_next ∙ ap (prev m) i))
          (λ i. right.third (sym (s.sound.edges h h_in).prev_next ∙ ap (prev m) i))

      prev_own : origin (flipped m e) (prev (flipped m e) h) ≡ origin m (prev m h)
      prev_own = ap (origin (flipped m e)) prev_same ∙ origin_stays (prev m h)
          (λ i. left.second (sym (s.sound.edges h h_in).next_prev ∙ ap (next m) i))
          (λ i. right.second (sym (s.sound.edges h h_in).next_prev ∙ ap (next m) i))

      go : IsQuiet points m h → IsQuiet points (flipped m e) h
      go (inl o) = inl (ap (λ r. r.face) same ∙ o)
      go (inr empty) = inr (λ n n_in i. empty n n_in
          (subst (λ (z : ℕ × ℕ × ℕ).
          InsideCircle (place points z.0) (place points z.1) (place points z.2) (place points n))
          (λ o. (own o, next_own o, prev_own o)) i))

  -- so still only edges among hs fail
  pub only_stay : (hs : List ℕ) → FailOnlyOf points m hs → FailOnlyOf points (flipped m e) hs
  only_stay hs only k k_in = go (only k old_in)
    where
      old_in : (2 * k) < length m.half_edges
      old_in = subst (λ (n : ℕ). (2 * k) < n) moves.edge_count k_in

      go : Contains hs k ⊎ IsQuietEdge points m k
          → Contains hs k ⊎ IsQuietEdge points (flipped m e) k
      go (inl l) = inl l
      go (inr (inl q)) = inr (inl (quiet_stays (2 * k) old_in q))
      go (inr (inr q)) = inr (inr (quiet_stays (rev (2 * k))
          (rev_within (2 * k) (length m.half_edges) s.sound.even old_in) q))

-- ---- a work list with one more edge
record Extends (ks : List ℕ) (k : ℕ) : Type 0 where
  list : List ℕ
  gains : Gains ks list k
  is : (list ≡ ks) ⊎ ((list ≡ ks ++ k ∷ []) × ¬ Contains ks k)

extend : (ks : List ℕ) (k : ℕ) → Extends ks k
extend ks k = elim (listed_or_not ks k) [
  | inl l ↦ record { list = ks; gains = M.gains_none ks k l; is = inl refl }
  | inr n ↦ record { list = ks ++ k ∷ []; gains = M.gains_last ks k n; is = inr (refl, n) }
]

-- an edge that only fails where it is in the list may be left out
left_out : (points : List Point) (constraints : List (ℕ × ℕ)) (was m : Mesh) (s : IsValidMesh m)
    (start flips : ℕ) (ks : List ℕ) (k : ℕ) (more : Extends ks k)
    → (¬ Contains ks k → IsFailing points m (2 * k) → ⊥)
    → IsPartlyLegal points constraints was m more.list start flips
    → IsPartlyLegal points constraints was m ks start flips
left_out points constraints was m s start flips ks k more calm p = go more.is
  where
    go : (more.list ≡ ks) ⊎ ((more.list ≡ ks ++ k ∷ []) × ¬ Contains ks k)
        → IsPartlyLegal points constraints was m ks start flips
    go (inl e) = subst (λ (zs : List ℕ). IsPartlyLegal points constraints was m zs start flips) e p
    go (inr (e, n)) = M.dropped points constraints was m ks k start flips s
        (subst (λ (zs : List ℕ). IsPartlyLegal points constraints was m zs start flips) e p)
        (λ free. calm n)

first_within : (n h k : ℕ) → h < n → k ≡ h / 2 → (2 * k) < n
first_within n h k l f = grind arith

-- the sides round a turned edge that are not among hs need not be in the work list
module _ (points : List Point) (constraints : List (ℕ × ℕ)) (was m new : Mesh) (s : IsValidMesh m)
    (after : IsValidMesh new) (e start flips : ℕ) (hs ks more : List ℕ) (six : AreSixPlaces
    (length m.half_edges) e (rev e) (next m e) (next m (rev e)) (prev m e) (prev m (rev e)))
    (count : length new.half_edges ≡ length m.half_edges) (only : FailOnlyOf points new hs)
    (gains : GainsRoundAmong m hs e ks more) (own : AreEdges m more)
    (legal : (all : List ℕ) → GainsRound m e ks all → AreEdges m all
    → IsPartlyLegal points constraints was new all start flips) where
  -- the work list with the edge after e
  one : Extends more (next m e / 2)
  one = extend more (next m e / 2)

  -- and with the edge before e
  two : Extends one.list (prev m e / 2)
  two = extend one.list (prev m e / 2)

  three : Extends two.list (next m (rev e) / 2)
  three = extend two.list (next m (rev e) / 2)

  -- and with the edge before the other side of e, the last of the four
  four : Extends three.list (prev m (rev e) / 2)
  four = extend three.list (prev m (rev e) / 2)

  -- a side that is not in the work list is not among hs, and so does not fail
  calm : IsMesh points (faces_of new) (outer_of new) → (f : ℕ) → f < length m.half_edges
      → (zs : List ℕ) → (Contains hs (f / 2) → Contains zs (f / 2)) → ¬ Contains zs (f / 2)
      → IsFailing points new (2 * (f / 2)) → ⊥
  calm shape f f_in zs has not fails = elim (only (f / 2) k_in) as (λ _. ⊥) [
    | inl l ↦ not (has l)
    | inr q ↦ fails_loud points new after shape (2 * (f / 2)) k_in fails q
  ]
    where
      k_in : (2 * (f / 2)) < length new.half_edges
      k_in = subst (λ (n : ℕ). (2 * (f / 2)) < n) (sym count)
          (first_within (length m.half_edges) f (f / 2) f_in refl)

  own_one : AreEdges m one.list
  own_one =
      edges_gained m more one.list (next m e) (length m.half_edges) refl six.c_in own one.gains

  own_two : AreEdges m two.list
  own_two = edges_gained m one.list two.list (prev m e)
      (length m.half_edges) refl six.e_in own_one two.gains

  own_three : AreEdges m three.list
  own_three =
      edges_gained m two.list three.list (next m (rev e))
      (length m.half_edges) refl six.d_in own_two three.gains

  own_four : AreEdges m four.list
  own_four =
      edges_gained m three.list four.list (prev m (rev e))
      (length m.half_edges) refl six.f_in own_three four.gains

  legal_four : IsPartlyLegal points constraints was new four.list start flips
  legal_four = legal four.list (record {
    kept = λ j l. four.gains.kept j
        (three.gains.kept j (two.gains.kept j (one.gains.kept j (gains.kept j l))));
    next_there = four.gains.kept (next m e / 2)
        (three.gains.kept (next m e / 2) (two.gains.kept (next m e / 2) one.gains.there));
    prev_there = four.gains.kept (prev m e / 2) (three.gains.kept (prev m e / 2) two.gains.there);
    twin_next_there = four.gains.kept (next m (rev e) / 2) three.gains.there;
    twin_prev_there = four.gains.there;
  }) own_four

  legal_three : IsPartlyLegal points constraints was new three.list start flips
  legal_three =
      left_out points constraints was new after start flips three.list (prev m (rev e) / 2) four
      (calm legal_four.shape (prev m (rev e)) six.f_in three.list
      (λ h. three.gains.kept _ (two.gains.kept _ (one.gains.kept _ (gains.twin_prev_there h)))))
      legal_four

  legal_two : IsPartlyLegal points constraints was new two.list start flips
  legal_two =
      left_out points constraints was new after start flips two.list (next m (rev e) / 2) three
      (calm legal_four.shape (next m (rev e)) six.d_in two.list
      (λ h. two.gains.kept _ (one.gains.kept _ (gains.twin_next_there h)))) legal_three

  legal_one : IsPartlyLegal points constraints was new one.list start flips
  legal_one = left_out points constraints was new after start flips one.list (prev m e / 2) two
      (calm legal_four.shape (prev m e) six.e_in one.list
      (λ h. one.gains.kept _ (gains.prev_there h))) legal_two

  pub legal_among : IsPartlyLegal points constraints was new more start flips
  legal_among = left_out points constraints was new after start flips more (next m e / 2) one
      (calm legal_four.shape (next m e) six.c_in more gains.next_there) legal_one
