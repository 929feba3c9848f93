-- A local mesh tiles the hull of its points.
-- point_at points i: the point with index i; (0, 0) past the end of the list
-- by_signs: `LocalMesh` gives `SignMesh`
-- bracket_not_left: where three points do not turn left, their bracket is not positive
-- inside_signs, in_signs, signs_in: the inside of a triangle, and the closed triangle, by brackets
-- tiles: the faces of a local mesh tile the hull, with any edges that are their sides, each once
use Rattle.std.proofs.Common.{◌≡◌, ◌⊎◌, ◌↔◌, ◌<◌, [], ◌∷◌, ◌∙◌}
use Rattle.std.proofs.Common.{ℕ, List, length, map, get_or, refl, sym, subst, arith}
use mathlib.Core.Logic.{inl, inr, ◌≢◌}
use Rattle.std.specs.Prelude.{ℤ, pos, ◌+ℤ◌, ◌*ℤ◌, ◌≤ℤ◌, ◌<ℤ◌, Contains, All}
use Rattle.std.proofs.lemmas.List.Elements.{All-head, All-tail}
use Rattle.plane.specs.{EachPairOnce, Face, Fraction, HasFace, InHull, InsideTriangle, InTriangle}
use Rattle.plane.specs.{IsNotNegative, Joins, place, Point, TilesHull, TurnsLeft, weighted_sum}
use Rattle.{plane.specs.whole, plane_theorems.specs.LocalMesh}
use Rattle.plane.proofs.{◌⊕◌, ◌⊖◌, ◌⊗◌, bracket, bracketᵖ, if_left, Inside, inside_is_brackets}
use Rattle.plane.proofs.{left_if, lift, lt_or_ge_ℤ, mul-nonpos_of_nonneg_nonpos_ℤ}
use Rattle.plane.proofs.{not_left_of_product, num, ring_in, ring_in_from, sum_not_positive, vec}
use Rattle.plane.proofs.{Signs.zero_is_not_positive, Triangles.in_is_brackets, Vec3}
use Rattle.plane_theorems.proofs.Tiling.Counting.{at, SignMesh}
use Rattle.plane_theorems.proofs.Tiling.Totals.{Contains-head, Contains-later, get_or_any}
use Rattle.plane_theorems.proofs.Tiling.Covering as C

-- the point of an index
abbrev pub point_at : List Point → ℕ → Point
point_at points i = get_or points i (record { x = pos 0; y = pos 0 })

-- where three points do not turn left, their bracket is not above 0
pub bracket_not_left : (a b c : Fraction) → ¬ TurnsLeft a b c
    → bracket (vec a) (vec b) (vec c) ≤ℤ pos 0
bracket_not_left a b c n = go (lt_or_ge_ℤ (pos 0) (bracket (vec a) (vec b) (vec c)))
  where
    go : (pos 0 <ℤ bracket (vec a) (vec b) (vec c)) ⊎ (bracket (vec a) (vec b) (vec c) ≤ℤ pos 0)
        → bracket (vec a) (vec b) (vec c) ≤ℤ pos 0
    go (inl h) = absurd (n (left_if a b c h))
    go (inr h) = h

first_of_some : {X : Type 0} (xs : List X) → xs ≢ [] → (x : X) × Contains xs x
first_of_some [] n = absurd (n refl)
first_of_some (x ∷ xs) n = (x, Contains-head x xs)

-- the invariant, read by signs
pub by_signs : (points : List Point) (faces : List Face) (outer : List (ℕ × ℕ))
    → LocalMesh points faces outer → SignMesh (length points) (point_at points) faces outer
by_signs points faces outer m = record {
  distinct = λ i j h k n e. m.distinct i j h k n (λ o. whole (e o));
  some_face = first_of_some faces m.some_face;
  used = m.used;
  corners = m.corners;
  turning = λ f h. if_left (place points f.a) (place points f.b) (place points f.c) (m.turning f h);
  ends = m.ends;
  supporting = λ e h k l. bracket_not_left (place points e.0) (place points e.1) (place points k)
      (m.supporting e h k l);
  bare = m.bare;
  once = m.once;
  balanced = m.balanced;
}

-- ---- means of all points
bracket_by_parts : (u v : Vec3) (n x y w a b c : ℤ) → n *ℤ x ≡ a → n *ℤ y ≡ b → n *ℤ w ≡ c → n
    *ℤ bracket u v (record { x = x; y = y; w = w }) ≡ bracket u v (record { x = a; y = b; w = c })
unfolding bracket
bracket_by_parts u v n x y w a b c e d f =
    ring_in_from (u.x ∷ u.y ∷ u.w ∷ v.x ∷ v.y ∷ v.w ∷ n ∷ x ∷ y ∷ w ∷ a ∷ b ∷ c ∷ [])
    (λ ux uy uw vx vy vw n x y w a b c. n ⊗ bracketᵖ (record { x = ux; y = uy; w = uw })
    (record { x = vx; y = vy; w = vw }) (record { x = x; y = y; w = w }))
    (λ ux uy uw vx vy vw n x y w a b c. bracketᵖ (record { x = ux; y = uy; w = uw })
    (record { x = vx; y = vy; w = vw }) (record { x = a; y = b; w = c }))
    (λ ux uy uw vx vy vw n x y w a b c. (uy ⊗ vw ⊖ uw ⊗ vy, n ⊗ x, a)
    ∷ (uw ⊗ vx ⊖ ux ⊗ vw, n ⊗ y, b) ∷ (ux ⊗ vy ⊖ uy ⊗ vx, n ⊗ w, c) ∷ []) (e, (d, (f, tt))) tt

bracket_of_sum : (u v : Vec3) (k x y w x' y' w' : ℤ)
    → bracket u v (record { x = k *ℤ x +ℤ x'; y = k *ℤ y +ℤ y'; w = k *ℤ w +ℤ w' }) ≡ k *ℤ bracket u
    v (record { x = x; y = y; w = w }) +ℤ bracket u v (record { x = x'; y = y'; w = w' })
unfolding bracket
bracket_of_sum u v k x y w x' y' w' =
    ring_in (u.x ∷ u.y ∷ u.w ∷ v.x ∷ v.y ∷ v.w ∷ k ∷ x ∷ y ∷ w ∷ x' ∷ y' ∷ w' ∷ [])
    (λ ux uy uw vx vy vw k x y w x' y' w'. bracketᵖ (record { x = ux; y = uy; w = uw }) (record
    { x = vx; y = vy; w = vw }) (record { x = k ⊗ x ⊕ x'; y = k ⊗ y ⊕ y'; w = k ⊗ w ⊕ w' }))
    (λ ux uy uw vx vy vw k x y w x' y' w'. k ⊗ bracketᵖ (record { x = ux; y = uy; w = uw })
    (record { x = vx; y = vy; w = vw }) (record { x = x; y = y; w = w })
    ⊕ bracketᵖ (record { x = ux; y = uy; w = uw }) (record { x = vx; y = vy; w = vw })
    (record { x = x'; y = y'; w = w' })) tt

bracket_of_none : (u v : Vec3) → bracket u v (record { x = pos 0; y = pos 0; w = pos 0 }) ≡ pos 0
unfolding bracket
bracket_of_none u v = ring_in (u.x ∷ u.y ∷ u.w ∷ v.x ∷ v.y ∷ v.w ∷ [])
    (λ ux uy uw vx vy vw. bracketᵖ (record { x = ux; y = uy; w = uw })
    (record { x = vx; y = vy; w = vw }) (record { x = num 0; y = num 0; w = num 0 }))
    (λ ux uy uw vx vy vw. num 0) tt

abbrev sum_vec : List ℤ → List Fraction → Vec3
sum_vec ks cs = record {
  x = weighted_sum (λ c. c.x) ks cs;
  y = weighted_sum (λ c. c.y) ks cs;
  w = weighted_sum (λ c. c.w) ks cs;
}

-- a sum of points that are not left of u v, under weights that are not negative, is not left of it
sum_not_left : (u v : Vec3) (ks : List ℤ) (points : List Point) → All IsNotNegative ks
    → ((p : Point) → Contains points p → bracket u v (lift p) ≤ℤ pos 0)
    → bracket u v (sum_vec ks (map whole points)) ≤ℤ pos 0
sum_not_left u v [] points allowed below = zero_is_not_positive
    (bracket u v (record { x = pos 0; y = pos 0; w = pos 0 })) (bracket_of_none u v)
sum_not_left u v (k ∷ ks) [] allowed below = zero_is_not_positive
    (bracket u v (record { x = pos 0; y = pos 0; w = pos 0 })) (bracket_of_none u v)
sum_not_left u v (k ∷ ks) (p ∷ ps) allowed below =
    let rest = sum_vec ks (map whole ps) in
    sum_not_positive (bracket u v (sum_vec (k ∷ ks) (whole p ∷ map whole ps)))
    (k *ℤ bracket u v (lift p)) (bracket u v rest)
    (bracket_of_sum u v k p.x p.y (pos 1) rest.x rest.y rest.w)
    (mul-nonpos_of_nonneg_nonpos_ℤ (All-head IsNotNegative k ks allowed)
    (below p (Contains-head p ps)))
    (sum_not_left u v ks ps (All-tail IsNotNegative k ks allowed)
    (λ q h. below q (Contains-later p ps q h)))

hull_not_left : (u v : Vec3) (points : List Point) (q : Fraction) → InHull (map whole points) q
    → ((p : Point) → Contains points p → bracket u v (lift p) ≤ℤ pos 0)
    → bracket u v (vec q) ≤ℤ pos 0
hull_not_left u v points q h below =
    let s = sum_vec h.weights (map whole points) in
    not_left_of_product h.positive (subst (λ z. z ≤ℤ pos 0) (sym (bracket_by_parts u v h.scale q.x
    q.y q.w s.x s.y s.w h.x h.y h.w)) (sum_not_left u v h.weights points h.allowed below))

-- ---- triangles
-- inside of a left-turning triangle is on the left of its three sides
pub inside_signs : (a b c q : Fraction) → TurnsLeft a b c → InsideTriangle a b c q
    → Inside (vec a) (vec b) (vec c) (vec q)
inside_signs a b c q turns h = let s = (inside_is_brackets a b c q (if_left a b c turns)).0 h in
    record { first = s.0; second = s.1; third = s.2 }

-- where a b c turns left, a point of the closed triangle has no bracket below 0 with a side
pub in_signs : (a b c q : Fraction) → TurnsLeft a b c → InTriangle a b c q
    → (pos 0 ≤ℤ bracket (vec a) (vec b) (vec q)) × (pos 0 ≤ℤ bracket (vec b) (vec c) (vec q))
    × (pos 0 ≤ℤ bracket (vec c) (vec a) (vec q))
in_signs a b c q turns h = (in_is_brackets a b c q (if_left a b c turns)).0 h

-- where a b c turns left, a point with no bracket below 0 with a side is in the closed triangle
pub signs_in : (a b c q : Fraction) → TurnsLeft a b c → pos 0 ≤ℤ bracket (vec a) (vec b) (vec q)
    → pos 0 ≤ℤ bracket (vec b) (vec c) (vec q) → pos 0 ≤ℤ bracket (vec c) (vec a) (vec q)
    → InTriangle a b c q
signs_in a b c q turns h k l = (in_is_brackets a b c q (if_left a b c turns)).1 (h, k, l)

point_of_index : (points : List Point) (q : Point) → Contains points q
    → (i : ℕ) × (i < length points) × (point_at points i ≡ q)
point_of_index points q h =
    (h.0, h.1, get_or_any points h.0 (record { x = pos 0; y = pos 0 }) q h.1 ∙ h.2)

-- the faces tile the hull, with any list of edges that has each side of a face once
pub tiles : (points : List Point) (faces : List Face) (outer edges : List (ℕ × ℕ))
    → LocalMesh points faces outer
    → EachPairOnce edges → ((i j : ℕ) → Joins edges i j
    ↔ (HasFace (record { points = points; faces = faces; edges = edges }) i j
    ⊎ HasFace (record { points = points; faces = faces; edges = edges }) j i))
    → TilesHull (record { points = points; faces = faces; edges = edges })
tiles points faces outer edges m once sides =
    let s = by_signs points faces outer m in
    let n = length points in
    let p = point_at points in
    let f = s.some_face in
    let c = m.corners f.0 f.1 in
    record {
      spread = (f.0.a, f.0.b, f.0.c, c.0, c.1, c.2, m.turning f.0 f.1);
      corners = λ i j k h. C.turn_corners n p faces outer s i j k h;
      turning = λ i j k h. left_if (place points i) (place points j) (place points k)
          (C.turn_left_of n p faces outer s i j k h);
      covering = λ q h.
          let r =
          C.in_some_face n p faces outer s (vec q) q.positive (λ e l. hull_not_left (at p e.0)
          (at p e.1) points q h (λ x k. let i = point_of_index points x k in subst (λ y. bracket
          (at p e.0) (at p e.1) (lift y) ≤ℤ pos 0) i.2 (s.supporting e l i.0 i.1))) in (
            r.0.a,
            r.0.b,
            r.0.c,
            inl r.1,
            signs_in (place points r.0.a) (place points r.0.b)
                (place points r.0.c) q (m.turning r.0 r.1) r.2 r.3 r.4,
          );
      apart = λ k l d low high q x y.
          C.entries_apart n p faces outer s k l d low high (vec q) q.positive
          (inside_entry k d (below k l low high) q x) (inside_entry l d high q y);
      empty = λ i j k v h l x.
          let a = in_signs (place points i) (place points j) (place points k) (place points v)
          (left_if (place points i) (place points j) (place points k)
          (C.turn_left_of n p faces outer s i j k h)) x in
          C.vertex_in_face n p faces outer s v i j k l h a.0 a.1 a.2;
      sides = sides;
      once = once;
    }
  where
    below : (k l : ℕ) → k < l → l < length faces → k < length faces
    below k l h i = omega arith

    inside_entry : (k : ℕ) (d : Face) → k < length faces → (q : Fraction)
        → InsideTriangle (place points (get_or faces k d).a) (place points (get_or faces k d).b)
        (place points (get_or faces k d).c) q → Inside (at (point_at points) (get_or faces k d).a)
        (at (point_at points) (get_or faces k d).b)
        (at (point_at points) (get_or faces k d).c) (vec q)
    inside_entry k d h q x = inside_signs (place points (get_or faces k d).a)
        (place points (get_or faces k d).b) (place points (get_or faces k d).c) q
        (m.turning (get_or faces k d) (k, h, get_or_any faces k (get_or faces k d) d h)) x
