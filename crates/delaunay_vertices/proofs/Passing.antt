-- What is left to test where a vertex has gone: what its turned edges join, and sides of its hole.
-- Notions: AreSettled; left_point, border_settles, passes_but, fails_only_at.
use Rattle.std.proofs.Common.{◌≡◌, ◌≢◌, ◌⊎◌, ◌-◌, ◌*◌, ◌<◌, ◌++◌, ◌∙◌}
use Rattle.std.proofs.Common.{ℕ, List, length, get_or, map, sym, ap, subst, inl, inr, arith}
use Rattle.std.specs.Prelude.{Contains, pos, swap_remove}
use Rattle.std.proofs.lemmas.Bool.{cases_eq}
use Rattle.std.proofs.lemmas.List.{length-map}
use Rattle.std.proofs.lemmas.List.Elements.{Contains-append_left, Contains-append_right}
use Rattle.plane.specs.{Face, Fraction, InsideCircle, Joins, place as at, Point, TakesOut}
use Rattle.half_edge_links.specs.{AreSoundLinks, face, Mesh, next, origin, prev, rev}
use Rattle.half_edge_links.proofs.{get_or-swap_remove_same, length-swap_remove, map-swap_remove}
use Rattle.half_edge_links.proofs.{rev-rev, rev_within, swap_remove_default}
use Rattle.plane_theorems.specs.{AllPassBut, IsFaceOf, IsMesh, Pass, point_of}
use Rattle.plane_theorems.proofs.{none_in_empty, one_question, turning_of}
use Rattle.delaunay_legalization.specs.{constraints_by, faces_of, IsDelaunayTriangulation, IsQuiet}
use Rattle.delaunay_legalization.specs.{IsTriangulated, outer_of, points_and_constraints_by}
use Rattle.{delaunay_legalization.specs.State.State, plane.specs.TurnsLeft, plane.specs.whole}
use Rattle.delaunay_legalization.proofs.{contains_map, edge_of_face, face_before, none_or_some}
use Rattle.{delaunay_legalization.proofs.Stars.face_corners, plane.proofs.turned_join}
use Rattle.delaunay_vertices.specs.{FailOnlyAt, former_index, HasBorder, pairs_left}
use Rattle.delaunay_vertices.specs.Pairs.{IsHoleSide, LeavesFaces, pair_left}
use Rattle.delaunay_vertices.proofs.InnerStars.{no_way_back}
use Rattle.delaunay_vertices.proofs.LeavingConstraints.{back_and_there, old_of_freed, old_of_other}
use Rattle.half_edge_links.proofs.Removing.OpenSound as Open

-- ---- the points that are left
former_below : (v last k n : ℕ) → k < n → last < n → former_index v last k < n
former_below v last k n h l = elim (cases_eq k v) [
  | inl e ↦ subst (λ (x : ℕ). x < n) (sym (old_of_freed v last k e)) l
  | inr e ↦ subst (λ (x : ℕ). x < n) (sym (old_of_other v last k e)) h
]

pub left_point : (points : List Point) (v : ℕ) (d : Point) (j : ℕ) → v < length points
    → j < length points - 1 →
    get_or (swap_remove points v d) j (record { x = pos 0; y = pos 0 })
    ≡ get_or points (former_index v (length points - 1) j) (record { x = pos 0; y = pos 0 })
left_point points v d j here low =
    ap (λ ps. get_or ps j z) (swap_remove_default points v d z (omega (arith, here)))
    ∙ go (cases_eq j v)
  where
    z : Point
    z = record { x = pos 0; y = pos 0 }

    go : (j ≡ v) ⊎ (j ≢ v) → get_or (swap_remove points v z) j z
        ≡ get_or points (former_index v (length points - 1) j) z
    go (inl e) = ap (λ k. get_or (swap_remove points v z) k z) e
        ∙ get_or-swap_remove_same points v z (omega (arith, low, e))
        ∙ ap (λ k. get_or points k z) (sym (old_of_freed v (length points - 1) j e))
    go (inr n) = Open.get_or-swap_remove_other points v j z (omega (arith, low)) n
        ∙ ap (λ k. get_or points k z) (sym (old_of_other v (length points - 1) j n))

-- ---- the sides of the hole
-- each side opposite vertex v is one of the pairs, or no vertex is inside the circle of the face on
-- its other side
abbrev pub AreSettled : List Point → List Face → ℕ → List (ℕ × ℕ) → Type 0
AreSettled points faces v border = (a b : ℕ) → IsFaceOf faces v a b →
    Joins border a b ⊎ ((k l : ℕ) → IsFaceOf faces b a l → k < length points →
    ¬ InsideCircle (at points b) (at points a) (at points l) (at points k))

-- a list of the border's pairs settles each side of the hole
pub border_settles : (points : List Point) (m : Mesh) → AreSoundLinks m
    → (v : ℕ) (border : List (ℕ × ℕ)) → HasBorder m v border
    → AreSettled points (faces_of m) v border
border_settles points m s v border around a b f =
    let e = edge_of_face m s v a b f in
    inl (subst (λ (x : ℕ × ℕ). Joins border x.0 x.1)
    (λ o. (
      (sym (s.edges e.0 e.1.inner.0).starts ∙ e.1.second) o,
      (ap (origin m) (rev-rev (prev m e.0)) ∙ e.1.third) o,
    )) (around e.0 e.1.inner.0 e.1.first))

-- a face of a mesh turns left
face_turns : (points : List Point) (faces : List Face) (outer : List (ℕ × ℕ))
    → IsMesh points faces outer → (i j k : ℕ) → IsFaceOf faces i j k
    → TurnsLeft (at points i) (at points j) (at points k)
face_turns points faces outer (inl m) i j k f = turning_of points faces outer m i j k f
face_turns points faces outer (inr m) i j k f =
    absurd (none_in_empty i j k (subst (λ fs. IsFaceOf fs i j k) m.0 f))

module _ {V D U F : Type 0} (place : V → Point) (constraints : List U → List ℕ) (old new :
    State V D U F) (v : ℕ) (value : V) (legal : IsDelaunayTriangulation place constraints old)
    (kept : IsTriangulated place new) (removes : TakesOut place
    (points_and_constraints_by constraints old) (points_and_constraints_by constraints new) v)
    (border turned : List (ℕ × ℕ)) (leaves : LeavesFaces old new v turned)
    (settled : AreSettled (map place old.vertices) (faces_of old.mesh) v border) where
  abbrev last : ℕ
  last = length old.vertices - 1

  -- the former index of a vertex
  abbrev was : ℕ → ℕ
  was k = former_index v last k

  count : length (map place new.vertices) ≡ last
  count = length-map new.vertices place ∙ ap (λ (us : List V). length us) (removes.vertices value)
      ∙ length-swap_remove old.vertices v value

  below : (k : ℕ) → k < length (map place new.vertices) → k < last
  below k h = omega (arith, h, count)

  points_left : map place new.vertices ≡ swap_remove (map place old.vertices) v (place value)
  points_left = ap (map place) (removes.vertices value)
      ∙ map-swap_remove place old.vertices v value

  same_place : (k : ℕ) → k < length (map place new.vertices) →
      at (map place old.vertices) (was k) ≡ at (map place new.vertices) k
  same_place k h =
      let within = removes.here in
      let long = length-map old.vertices place in
      let low = below k h in
      sym (ap (λ (ps : List Point). at ps k) points_left
      ∙ ap whole
      (left_point (map place old.vertices) v (place value) k (omega (arith, within, long))
      (omega (arith, low, long)))
      ∙ ap (λ n. at (map place old.vertices) (former_index v (n - 1) k)) long)

  same_pass : (i j k l : ℕ) → i < length (map place new.vertices)
      → j < length (map place new.vertices) → k < length (map place new.vertices)
      → l < length (map place new.vertices)
      → Pass (map place old.vertices) (was i) (was j) (was k) (was l)
      → Pass (map place new.vertices) i j k l
  same_pass i j k l a b c d p =
      subst (λ (x : Fraction × Fraction × Fraction × Fraction). (¬ InsideCircle x.0 x.1 x.2 x.3) ×
      (¬ InsideCircle x.1 x.0 x.3 x.2)) (λ o. (
        same_place i a o,
        same_place j b o,
        same_place k c o,
        same_place l d o,
      )) p

  -- where the third corner of one face is not inside the circle of the other, the edge passes
  outside_passes : (i j k l : ℕ) → IsFaceOf (faces_of new.mesh) i j k
      → IsFaceOf (faces_of new.mesh) j i l
      → ¬ InsideCircle (at (map place old.vertices) (was j)) (at (map place old.vertices) (was i))
      (at (map place old.vertices) (was l)) (at (map place old.vertices) (was k))
      → Pass (map place new.vertices) i j k l
  outside_passes i j k l f g out =
      let one = face_corners (map place new.vertices) (faces_of new.mesh)
      (outer_of new.mesh) kept.shape i j k f in
      let other = face_corners (map place new.vertices) (faces_of new.mesh)
      (outer_of new.mesh) kept.shape j i l g in
      let outside =
      subst (λ (x : Fraction × Fraction × Fraction × Fraction). ¬ InsideCircle x.0 x.1 x.2 x.3)
      (λ o. (
        same_place j one.1 o,
        same_place i one.0 o,
        same_place l other.2 o,
        same_place k one.2 o,
      )) out in
      let both =
      one_question (point_of (map place new.vertices) i) (point_of (map place new.vertices) j)
      (point_of (map place new.vertices) k) (point_of (map place new.vertices) l)
      (face_turns (map place new.vertices) (faces_of new.mesh)
      (outer_of new.mesh) kept.shape i j k f)
      (face_turns (map place new.vertices) (faces_of new.mesh)
      (outer_of new.mesh) kept.shape j i l g) in
      ((λ h. outside (both.0 h)), outside)

  -- no side lies opposite the vertex in both directions
  one_way : (a b : ℕ) → IsFaceOf (faces_of old.mesh) v a b → IsFaceOf (faces_of old.mesh) v b a → ⊥
  one_way a b f g =
      let points = map place old.vertices in
      no_way_back (at points v) (at points a) (at points b)
      (face_turns points (faces_of old.mesh) (outer_of old.mesh) legal.kept.shape v a b f)
      (face_turns points (faces_of old.mesh) (outer_of old.mesh) legal.kept.shape v b a g)

  -- a pair of the lists, by the indexes that are left
  named : (i j : ℕ) → i < last → j < last → Contains (border ++ turned) (was i, was j) →
      Contains (pairs_left last v (border ++ turned)) (i, j)
  named i j a b h = subst (Contains (pairs_left last v (border ++ turned)))
      (λ o. ((back_and_there v last i a).1 o, (back_and_there v last j b).1 o))
      (contains_map (pair_left last v) (border ++ turned) (was i, was j) h)

  either : (i j : ℕ) → i < last → j < last → Joins border (was i) (was j)
      ⊎ Joins turned (was i) (was j) → Joins (pairs_left last v (border ++ turned)) i j
  either i j a b (inl (inl h)) =
      inl (named i j a b (Contains-append_left border turned (was i, was j) h))
  either i j a b (inl (inr h)) =
      inr (named j i b a (Contains-append_left border turned (was j, was i) h))
  either i j a b (inr (inl h)) =
      inl (named i j a b (Contains-append_right border turned (was i, was j) h))
  either i j a b (inr (inr h)) =
      inr (named j i b a (Contains-append_right border turned (was j, was i) h))

  -- a b c was a face under former indexes, or each of its sides is one of the hole
  abbrev Was : ℕ → ℕ → ℕ → Type 0
  Was a b c = IsFaceOf (faces_of old.mesh) (was a) (was b) (was c) ⊎
      (IsHoleSide (faces_of old.mesh) v turned (was a) (was b) ×
      IsHoleSide (faces_of old.mesh) v turned (was b) (was c)
      × IsHoleSide (faces_of old.mesh) v turned (was c) (was a))

  but_pairs : AllPassBut (map place new.vertices) (faces_of new.mesh)
      (constraints_by constraints new) (pairs_left last v (border ++ turned))
  but_pairs i j k l f g free untested = go (leaves.each i j k f) (leaves.each j i l g)
    where
      one : (i < length (map place new.vertices)) × (j < length (map place new.vertices)) ×
          (k < length (map place new.vertices))
      one = face_corners (map place new.vertices) (faces_of new.mesh)
          (outer_of new.mesh) kept.shape i j k f

      other : (j < length (map place new.vertices)) × (i < length (map place new.vertices)) ×
          (l < length (map place new.vertices))
      other = face_corners (map place new.vertices) (faces_of new.mesh)
          (outer_of new.mesh) kept.shape j i l g

      was_free : ¬ Joins (constraints_by constraints old) (was i) (was j)
      was_free h = free ((removes.constraints i j).1 (below i one.0, below j one.1, h))

      points : List Point
      points = map place old.vertices

      was_below : (k : ℕ) → k < length (map place new.vertices) → was k < length points
      was_below k h = let within = removes.here in let low = below k h in
          let long = length-map old.vertices place in
          former_below v last k (length points) (omega (arith, within, long, low))
          (omega (arith, within, long))

      no_pair : Joins border (was i) (was j) ⊎ Joins turned (was i) (was j)
          → Pass (map place new.vertices) i j k l
      no_pair h = absurd (untested (either i j (below i one.0) (below j one.1) h))

      no_pair_back : Joins border (was j) (was i) ⊎ Joins turned (was j) (was i)
          → Pass (map place new.vertices) i j k l
      no_pair_back h = absurd (untested (turned_join (pairs_left last v (border ++ turned)) j i
          (either j i (below j one.1) (below i one.0) h)))

      -- a side of the hole, with a face that was there on its other side
      from_left : IsFaceOf (faces_of old.mesh) v (was i) (was j)
          → IsFaceOf (faces_of old.mesh) (was j) (was i) (was l)
          → Pass (map place new.vertices) i j k l
      from_left x y =
          elim (settled (was i) (was j) x) as (λ _. Pass (map place new.vertices) i j k l) [
            | inl h ↦ no_pair (inl h)
            | inr out ↦ outside_passes i j k l f g (out (was k) (was l) y (was_below k one.2))
          ]

      from_right : IsFaceOf (faces_of old.mesh) (was i) (was j) (was k) →
          IsFaceOf (faces_of old.mesh) v (was j) (was i) → Pass (map place new.vertices) i j k l
      from_right x y =
          elim (settled (was j) (was i) y) as (λ _. Pass (map place new.vertices) i j k l) [
            | inl h ↦ no_pair_back (inl h)
            | inr out ↦ let p =
                outside_passes j i l k g f (out (was l) (was k) x (was_below l other.2)) in
                (p.1, p.0)
          ]

      go : Was i j k → Was j i l → Pass (map place new.vertices) i j k l
      go (inl x) (inl y) =
          same_pass i j k l one.0 one.1 one.2 other.2
          (legal.passing (was i) (was j) (was k) (was l) x y was_free)
      go (inr (inl h, n, o)) y = no_pair (inr h)
      go (inr (inr p, n, o)) (inl y) = from_left p y
      go (inr (inr p, n, o)) (inr (inl h, y, z)) = no_pair_back (inr h)
      go (inr (inr p, n, o)) (inr (inr q, y, z)) = absurd (one_way (was i) (was j) p q)
      go (inl x) (inr (inl h, y, z)) = no_pair_back (inr h)
      go (inl x) (inr (inr q, y, z)) = from_right x q

  -- after a removal no edge is left to test but those of the pairs
  pub passes_but : AllPassBut (map place new.vertices) (faces_of new.mesh)
      (constraints_by constraints new) (pairs_left (length new.vertices) v (border ++ turned))
  passes_but = subst (λ (n : ℕ). AllPassBut (map place new.vertices) (faces_of new.mesh)
      (constraints_by constraints new) (pairs_left n v (border ++ turned)))
      (sym count ∙ length-map new.vertices place)
      but_pairs

  -- ---- without constraints
  module _ (empty : (i j k n : ℕ) → IsFaceOf (faces_of old.mesh) i j k
      → n < length (map place old.vertices)
      → ¬ InsideCircle (at (map place old.vertices) i) (at (map place old.vertices) j)
      (at (map place old.vertices) k) (at (map place old.vertices) n)) where
    abbrev Quiet : ℕ → Type 0
    Quiet h = IsQuiet (map place new.vertices) new.mesh h

    -- a face that was there has an empty circle still
    empty_still : (i j k : ℕ) → IsFaceOf (faces_of new.mesh) i j k
        → IsFaceOf (faces_of old.mesh) (was i) (was j) (was k) → (n : ℕ)
        → n < length (map place new.vertices)
        → ¬ InsideCircle (at (map place new.vertices) i) (at (map place new.vertices) j)
        (at (map place new.vertices) k) (at (map place new.vertices) n)
    empty_still i j k f x n n_in =
        let corners =
        face_corners (map place new.vertices) (faces_of new.mesh)
        (outer_of new.mesh) kept.shape i j k f in
        let within = removes.here in
        let low = below n n_in in
        let long = length-map old.vertices place in
        subst (λ (x : Fraction × Fraction × Fraction × Fraction). ¬ InsideCircle x.0 x.1 x.2 x.3)
        (λ o. (
          same_place i corners.0 o,
          same_place j corners.1 o,
          same_place k corners.2 o,
          same_place n n_in o,
        ))
        (empty (was i) (was j) (was k) (was n) x
        (former_below v last n (length (map place old.vertices)) (omega (arith, within, long, low))
        (omega (arith, within, long))))

    face_left : (h : ℕ) → h < length new.mesh.half_edges → 0 < face new.mesh h →
        IsFaceOf (faces_of new.mesh) (origin new.mesh h) (origin new.mesh (next new.mesh h))
        (origin new.mesh (prev new.mesh h))
    face_left h within inner = face_before new.mesh h kept.valid.sound (within, inner)

    -- an edge between two faces
    module _ (h : ℕ) (within : h < length new.mesh.half_edges)
        (rev_in : rev h < length new.mesh.half_edges) (inner : 0 < face new.mesh h)
        (twin_inner : 0 < face new.mesh (rev h)) where
      abbrev i : ℕ
      i = origin new.mesh h

      abbrev j : ℕ
      j = origin new.mesh (rev h)

      -- the face on the left of edge h
      left : IsFaceOf (faces_of new.mesh) i (origin new.mesh (next new.mesh h))
          (origin new.mesh (prev new.mesh h))
      left = face_left h within inner

      right : IsFaceOf (faces_of new.mesh) j (origin new.mesh (next new.mesh (rev h)))
          (origin new.mesh (prev new.mesh (rev h)))
      right = face_left (rev h) rev_in twin_inner

      -- the edge after h starts where h ends
      ends : origin new.mesh (next new.mesh h) ≡ j
      ends = (kept.valid.sound.edges h within).starts

      twin_ends : origin new.mesh (next new.mesh (rev h)) ≡ i
      twin_ends = (kept.valid.sound.edges (rev h) rev_in).starts ∙ ap (origin new.mesh) (rev-rev h)

      corners : (i < length (map place new.vertices)) ×
          (origin new.mesh (next new.mesh h) < length (map place new.vertices)) ×
          (origin new.mesh (prev new.mesh h) < length (map place new.vertices))
      corners =
          face_corners (map place new.vertices) (faces_of new.mesh) (outer_of new.mesh) kept.shape i
          (origin new.mesh (next new.mesh h)) (origin new.mesh (prev new.mesh h)) left

      -- the edge starts at a vertex that is left
      i_low : i < last
      i_low = below i corners.0

      -- and ends at one
      j_low : j < last
      j_low = below j (subst (λ (x : ℕ). x < length (map place new.vertices)) ends corners.1)

      abbrev Found : Type 0
      Found = Joins (pairs_left last v (border ++ turned)) i j ⊎ (Quiet h ⊎ Quiet (rev h))

      -- where a turned edge joined its ends, the edge is left to test
      pair : Joins turned (was i) (was j) → Found
      pair x = inl (either i j i_low j_low (inr x))

      pair_back : Joins turned (was j) (was i) → Found
      pair_back x = inl
          (turned_join (pairs_left last v (border ++ turned)) j i (either j i j_low i_low (inr x)))

      -- by what the faces on both sides were: it is left to test, or one of its sides is quiet
      go : Was i j (origin new.mesh (prev new.mesh h))
          → Was j i (origin new.mesh (prev new.mesh (rev h))) → Found
      go (inl x) y =
          inr (inl (inr (empty_still i (origin new.mesh (next new.mesh h))
          (origin new.mesh (prev new.mesh h)) left
          (subst (λ (z : ℕ). IsFaceOf (faces_of old.mesh) (was i) (was z)
          (was (origin new.mesh (prev new.mesh h))))
          (sym ends) x))))
      go (inr (inl x, n, o)) y = pair x
      go (inr (inr p, n, o)) (inl y) =
          inr (inr (inr (empty_still j (origin new.mesh (next new.mesh (rev h)))
          (origin new.mesh (prev new.mesh (rev h))) right
          (subst (λ (z : ℕ). IsFaceOf (faces_of old.mesh) (was j) (was z)
          (was (origin new.mesh (prev new.mesh (rev h))))) (sym twin_ends) y))))
      go (inr (inr p, n, o)) (inr (inl x, y, z)) = pair_back x
      go (inr (inr p, n, o)) (inr (inr q, y, z)) = absurd (one_way (was i) (was j) p q)

      between_faces : Found
      between_faces = go
          (leaves.each i j (origin new.mesh (prev new.mesh h))
          (subst (λ (z : ℕ). IsFaceOf (faces_of new.mesh) i z (origin new.mesh (prev new.mesh h)))
          ends left))
          (leaves.each j i (origin new.mesh (prev new.mesh (rev h)))
          (subst (λ (z : ℕ). IsFaceOf (faces_of new.mesh) j z
          (origin new.mesh (prev new.mesh (rev h)))) twin_ends
          right))

    found_at : (k : ℕ) → (2 * k) < length new.mesh.half_edges
        → Joins (pairs_left last v (border ++ turned)) (origin new.mesh (2 * k))
        (origin new.mesh (rev (2 * k))) ⊎ (Quiet (2 * k) ⊎ Quiet (rev (2 * k)))
    found_at k within = elim (none_or_some (face new.mesh (2 * k))) [
      | inl o ↦ inr (inl (inl o))
      | inr inner ↦ elim (none_or_some (face new.mesh (rev (2 * k)))) [
        | inl o ↦ inr (inr (inl o))
        | inr twin_inner ↦ between_faces (2 * k) within
            (rev_within (2 * k) (length new.mesh.half_edges) kept.valid.sound.even within)
            inner twin_inner
      ]
    ]

    -- after a removal no edge may fail but those of the pairs
    pub fails_only_at : FailOnlyAt (map place new.vertices) new.mesh
        (pairs_left (length new.vertices) v (border ++ turned))
    fails_only_at = subst (λ (n : ℕ). FailOnlyAt (map place new.vertices) new.mesh
        (pairs_left n v (border ++ turned)))
        (sym count ∙ length-map new.vertices place) found_at
