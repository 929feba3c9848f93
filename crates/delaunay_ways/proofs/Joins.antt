-- Positions that chains join: over a position between, in one free face, and along its sides.
-- Lemmas: joined_on, sight_joins, face_sees, corner_in, link_joins.
use Rattle.std.proofs.Common.{◌<◌, [], ◌∷◌, ◌++◌, ℕ, Bool, List, length, IsTrue}
use Rattle.std.proofs.Common.{sym, subst, inl, inr}
use Rattle.std.specs.Prelude.{pos, ◌<ℤ◌}
use Rattle.std.proofs.lemmas.List.Elements.{Contains-get_or}
use Rattle.plane.specs.{face, Fraction, IsFace, TilesHull, Triangulation, vertex}
use Rattle.plane_theorems.specs.{face_at, HasFreeFace, IsCorner, IsInSight, IsTurned}
use Rattle.plane_theorems.specs.{Ways.Chains.IsChain, Ways.Chains.IsJoined, Ways.Links.IsLinked}
use Rattle.plane_theorems.proofs.{bracket, bracket-second, Delaunay.Tilings.Faces.turned-above}
use Rattle.plane_theorems.proofs.Delaunay.Points.Bracket.{above_if_left, bracket-first}
use Rattle.plane_theorems.proofs.Delaunay.Points.Nudges.{Closed, closed-turned}
use Rattle.plane_theorems.proofs.Delaunay.Tilings.Ground.{closed_of, triangle_of_closed}
use Rattle.plane_theorems.proofs.{Sight.Coverings.not_right_along, Ways.Reached.HasPoint}
use Rattle.{delaunay_ways.specs.Parts.IsInFreeFace, plane.proofs.weak, plane.proofs.zero_weak_left}

module _ (t : Triangulation) (free : ℕ → Bool) where
  chain_on : (p q r : Fraction) (xs ys : List Fraction) → IsChain t free p xs q
      → IsChain t free q ys r → IsChain t free p (xs ++ q ∷ ys) r
  chain_on p q r [] ys c d = (c, d)
  chain_on p q r (x ∷ xs) ys c d = (c.0, chain_on x q r xs ys c.1 d)

  -- who is joined with a position is joined with those that are joined with it
  pub joined_on : (p q r : Fraction) → IsJoined t free p q → IsJoined t free q r
      → IsJoined t free p r
  joined_on p q r j k = (j.0 ++ q ∷ k.0, chain_on p q r j.0 k.0 j.1 k.1)

  pub sight_joins : (p q : Fraction) → IsInSight t free p q → IsJoined t free p q
  sight_joins p q sees = ([], sees)

-- a corner is in its closed triangle
first_closed : (a b c : Fraction) → pos 0 <ℤ bracket a b c → Closed a b c a
first_closed a b c t = record {
  first = zero_weak_left (bracket-first a b);
  second = weak (turned-above a b c t);
  third = zero_weak_left (bracket-second c a);
}

module _ (t : Triangulation) (hull : (n : ℕ) → n < length t.faces → TilesHull t)
    (free : ℕ → Bool) where
  listed : (n : ℕ) → n < length t.faces
      → IsFace t (face_at t n).a (face_at t n).b (face_at t n).c
  listed n within = inl (Contains-get_or t.faces n (face 0 0 0) within)

  turns : (n : ℕ) → n < length t.faces
      → pos 0 <ℤ bracket (vertex t (face_at t n).a) (vertex t (face_at t n).b)
      (vertex t (face_at t n).c)
  turns n w = above_if_left _ _ _ ((hull n w).turning _ _ _ (listed n w))

  corner_closed : (n : ℕ) → n < length t.faces → (v : ℕ) → IsCorner (face_at t n) v
      → HasPoint t (vertex t v) (face_at t n)
  corner_closed n w v (inl e) = subst (λ i. HasPoint t (vertex t i) (face_at t n)) (sym e)
      (first_closed _ _ _ (turns n w))
  corner_closed n w v (inr (inl e)) = subst (λ i. HasPoint t (vertex t i) (face_at t n)) (sym e)
      (closed-turned (closed-turned (first_closed _ _ _ (turned-above _ _ _ (turns n w)))))
  corner_closed n w v (inr (inr e)) = subst (λ i. HasPoint t (vertex t i) (face_at t n)) (sym e)
      (closed-turned (first_closed _ _ _
      (turned-above _ _ _ (turned-above _ _ _ (turns n w)))))

  closed_in : (n : ℕ) (p : Fraction) → IsInFreeFace t free n p → HasPoint t p (face_at t n)
  closed_in n p i = closed_of _ _ _ p ((hull n i.0).turning _ _ _ (listed n i.0)) i.2

  in_closed : (n : ℕ) (p : Fraction) → n < length t.faces → IsTrue (free n)
      → HasPoint t p (face_at t n) → IsInFreeFace t free n p
  in_closed n p w f c =
      (w, f, triangle_of_closed _ _ _ p ((hull n w).turning _ _ _ (listed n w)) c)

  -- two points of a closed free face see each other
  pub face_sees : (n : ℕ) (p q : Fraction) → IsInFreeFace t free n p → IsInFreeFace t free n q
      → IsInSight t free p q
  face_sees n p q i j r on =
      let cp = closed_in n p i in
      let cq = closed_in n q j in
      let inside = in_closed n r i.0 i.1 (record {
        first = not_right_along p q r on _ _ cp.first cq.first;
        second = not_right_along p q r on _ _ cp.second cq.second;
        third = not_right_along p q r on _ _ cp.third cq.third;
      }) in
      record { index = n; within = i.0; is_free = i.1; inside = inside.2 }

  -- a corner of a free face is in it
  pub corner_in : (n : ℕ) → n < length t.faces → IsTrue (free n) → (v : ℕ)
      → IsCorner (face_at t n) v → IsInFreeFace t free n (vertex t v)
  corner_in n w f v c = in_closed n (vertex t v) w f (corner_closed n w v c)

  turned_corners : (n i j k : ℕ) → IsTurned (face_at t n).a (face_at t n).b (face_at t n).c i j k
      → IsCorner (face_at t n) i × IsCorner (face_at t n) j
  turned_corners n i j k (inl s) = (inl s.0, inr (inl s.1))
  turned_corners n i j k (inr (inl s)) = (inr (inl s.0), inr (inr s.1))
  turned_corners n i j k (inr (inr s)) = (inr (inr s.0), inl s.1)

  side_joins : (i j : ℕ) → HasFreeFace t free i j
      → IsJoined t free (vertex t i) (vertex t j) × IsJoined t free (vertex t j) (vertex t i)
  side_joins i j f =
      let k = turned_corners f.index i j f.third f.corners in
      let c = corner_in f.index f.within f.is_free i k.0 in
      let d = corner_in f.index f.within f.is_free j k.1 in (
        sight_joins t free _ _ (face_sees f.index _ _ c d),
        sight_joins t free _ _ (face_sees f.index _ _ d c),
      )

  -- linked vertices are joined, there and back
  pub link_joins : (i j : ℕ) → IsLinked t free i j
      → IsJoined t free (vertex t i) (vertex t j) × IsJoined t free (vertex t j) (vertex t i)
  link_joins i j (inl f) = side_joins i j f
  link_joins i j (inr f) = let s = side_joins j i f in (s.1, s.0)
