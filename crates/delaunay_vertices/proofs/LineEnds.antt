-- A new vertex is joined to edges of a line: where the next outer edge at an end does not see it,
-- no outer edge there does.
-- Lemmas: one_of_two_neighbours, none_seen_after, none_seen_before.
use Rattle.std.proofs.Common.{◌≡◌, ◌≢◌, ◌⊎◌, ◌<◌, [], ◌∷◌, ◌++◌, ◌∙◌}
use Rattle.std.proofs.Common.{ℕ, List, length, refl, sym, ap, subst, inl, inr, arith}
use Rattle.std.specs.Prelude.{ℤ, pos, ◌<ℤ◌, ◌≤ℤ◌, Contains}
use Rattle.std.proofs.lemmas.Bool.{cases_eq}
use Rattle.plane.specs.{Face, place, Point, TurnsLeft}
use Rattle.plane.proofs.{at_most_both_ways, bracket, bracket-last, bracket-outer, bracket-swap}
use Rattle.plane.proofs.{if_left, IsBetween, left_not_zero, lt_or_ge_ℤ, opposites_not_both_positive}
use Rattle.plane.proofs.{place_of_end, place_of_start, place_on, within_places}
use Rattle.half_edge_links.specs.{face, IsOuterEdge, IsSoundEdge, IsValidMesh, Mesh, next, origin}
use Rattle.half_edge_links.specs.{prev, rev}
use Rattle.half_edge_links.proofs.{alone_at, rev-rev, rev_within}
use Rattle.plane_theorems.specs.{fan, IsExtending, IsFaceOf, IsSeenRun, last_of, LineMesh, steps}
use Rattle.plane_theorems.proofs.{Adjoin, at, Contains-head, Contains-later, face_from, kept_point}
use Rattle.plane_theorems.proofs.{line_by_signs, next_turned, point_at, same_place, SignLine}
use Rattle.plane_theorems.proofs.{Edits.Insertion.Extension.fan_from, Tiling.LineMeshes.same_line}
use Rattle.plane_theorems.proofs.Edits.Insertion.Growing.{in_two, run_signs}
use Rattle.delaunay_legalization.specs.{faces_of, outer_of}
use Rattle.delaunay_legalization.proofs.{face_before, listed, OuterEdges.one_edge, real}
use Rattle.plane.specs.Tiling as T

-- ---- a vertex of a line has at most two neighbours
module _ (n : ℕ) (p : ℕ → Point) (outer : List (ℕ × ℕ)) (m : SignLine n p outer) (w a : ℕ)
    (near : Adjoin n p w a) where
  apart : ¬ (p w ≡ p a)
  apart = m.distinct w a near.first near.second near.apart

  -- each vertex is on the line of w and a
  on : (k : ℕ) → k < n → bracket (at p w) (at p a) (at p k) ≡ pos 0
  on k h = m.straight w a k near.first near.second h

  -- how far along the line from w to a a vertex lies
  abbrev spot : ℕ → ℤ
  spot k = place_on (p w) (p a) (at p k)

  none_between : (i k : ℕ) → Adjoin n p w i → k < n → IsBetween (spot w) (spot i) (spot k) → ⊥
  none_between i k s h b = s.none_between k h (within_places (p w) (p a) apart (p w) (p i) (p k)
      (on w near.first) (on i s.second) (on k h) b)

  same_spot : (i j : ℕ) → i < n → j < n → spot i ≤ℤ spot j → spot j ≤ℤ spot i → i ≡ j
  same_spot i j hi hj h k = same_place n p m.distinct (p w) (p a) apart i j hi hj (on i hi)
      (on j hj) (at_most_both_ways _ _ h k)

  both_above : (i j : ℕ) → Adjoin n p w i → Adjoin n p w j → spot w <ℤ spot i
      → spot w <ℤ spot j → i ≡ j
  both_above i j s t h k = go (lt_or_ge_ℤ (spot i) (spot j)) (lt_or_ge_ℤ (spot j) (spot i))
    where
      go : (spot i <ℤ spot j) ⊎ (spot j ≤ℤ spot i) → (spot j <ℤ spot i) ⊎ (spot i ≤ℤ spot j) → i ≡ j
      go (inl o) q = absurd (none_between j i t s.second (inl (h, o)))
      go (inr o) (inl q) = absurd (none_between i j s t.second (inl (k, q)))
      go (inr o) (inr q) = same_spot i j s.second t.second q o

  both_below : (i j : ℕ) → Adjoin n p w i → Adjoin n p w j → spot i <ℤ spot w
      → spot j <ℤ spot w → i ≡ j
  both_below i j s t h k = go (lt_or_ge_ℤ (spot i) (spot j)) (lt_or_ge_ℤ (spot j) (spot i))
    where
      go : (spot i <ℤ spot j) ⊎ (spot j ≤ℤ spot i) → (spot j <ℤ spot i) ⊎ (spot i ≤ℤ spot j) → i ≡ j
      go (inl o) q = absurd (none_between i j s t.second (inr (o, k)))
      go (inr o) (inl q) = absurd (none_between j i t s.second (inr (q, h)))
      go (inr o) (inr q) = same_spot i j s.second t.second q o

  -- a neighbour of w comes before or after it along the line
  off : (i : ℕ) → Adjoin n p w i → (spot w <ℤ spot i) ⊎ (spot i <ℤ spot w)
  off i s = go (lt_or_ge_ℤ (spot w) (spot i)) (lt_or_ge_ℤ (spot i) (spot w))
    where
      go : (spot w <ℤ spot i) ⊎ (spot i ≤ℤ spot w) → (spot i <ℤ spot w) ⊎ (spot w ≤ℤ spot i)
          → (spot w <ℤ spot i) ⊎ (spot i <ℤ spot w)
      go (inl o) q = inl o
      go (inr o) (inl q) = inr q
      go (inr o) (inr q) = absurd (s.apart (same_spot w i near.first s.second q o))

  -- where w has two neighbours, each neighbour is one of them
  pub one_of_two_neighbours : (b c : ℕ) → Adjoin n p w b → Adjoin n p w c → a ≢ b
      → (c ≡ a) ⊎ (c ≡ b)
  one_of_two_neighbours b c s t other = go (off b s) (off c t)
    where
      above : spot w <ℤ spot a
      above = subst (λ z. z <ℤ spot a) (sym (place_of_start (p w) (p a)))
          (place_of_end (p w) (p a) apart)

      go : (spot w <ℤ spot b) ⊎ (spot b <ℤ spot w) → (spot w <ℤ spot c) ⊎ (spot c <ℤ spot w)
          → (c ≡ a) ⊎ (c ≡ b)
      go (inl x) y = absurd (other (both_above a b near s above x))
      go (inr x) (inl y) = inl (both_above c a t near y above)
      go (inr x) (inr y) = inr (both_below c b t s y x)

-- ---- the last step of a path
module _ (points : List Point) (n : ℕ) (outer : List (ℕ × ℕ)) where
  record IsLastStep (u v : ℕ) (vs : List ℕ) : Type 0 where
    pub start : ℕ
    pub step : Contains (steps u (v ∷ vs)) (start, last_of v vs)
    pub edge : Contains outer (start, last_of v vs)
    pub seen : TurnsLeft (place points start) (place points (last_of v vs)) (place points n)

  last_step_of : (u v : ℕ) (vs : List ℕ) → IsSeenRun points n outer u (v ∷ vs) → IsLastStep u v vs
  last_step_of u v [] r =
      record { start = u; step = Contains-head (u, v) []; edge = r.0; seen = r.1 }
  last_step_of u v (y ∷ ys) r = let t = last_step_of v y ys r.2 in record {
    start = t.start;
    step = Contains-later (u, v) (steps v (y ∷ ys)) (t.start, last_of y ys) t.step;
    edge = t.edge;
    seen = t.seen;
  }

module _ (points : List Point) (q : Point) (outer : List (ℕ × ℕ)) (m : Mesh) (u w : ℕ)
    (straight : LineMesh points outer) (valid : IsValidMesh m)
    (x : IsExtending points q [] (faces_of m) outer (outer_of m) u w) where
  abbrev n : ℕ
  n = length points

  -- the points, with the new one last
  abbrev p : ℕ → Point
  p = point_at (points ++ q ∷ [])

  -- the way from i to j has the new vertex on its left
  abbrev Sees : ℕ → ℕ → Type 0
  Sees i j = TurnsLeft (place (points ++ q ∷ []) i) (place (points ++ q ∷ []) j)
      (place (points ++ q ∷ []) (length points))

  -- the old outer edges are those of a line, by signs, where the new point is listed too
  line : SignLine (length points) (point_at (points ++ q ∷ [])) outer
  line = same_line (length points) (point_at points) (point_at (points ++ q ∷ [])) outer
      (kept_point points q) (line_by_signs points outer straight)

  signs : (i j : ℕ) → Sees i j → pos 0 <ℤ bracket (at p i) (at p j) (at p n)
  signs i j s = if_left (place (points ++ q ∷ []) i) (place (points ++ q ∷ []) j)
      (place (points ++ q ∷ []) (length points)) s

  one_way : (i j : ℕ) → pos 0 <ℤ bracket (at p i) (at p j) (at p n)
      → pos 0 <ℤ bracket (at p j) (at p i) (at p n) → ⊥
  one_way i j h k = opposites_not_both_positive (bracket (at p i) (at p j) (at p n))
      (bracket (at p j) (at p i) (at p n)) (bracket-swap (at p i) (at p j) (at p n)) h k

  -- a face has no side whose way back sees the new vertex
  unseen_side : (i j k : ℕ) → i < n → j < n → Sees j i → ¬ IsFaceOf (faces_of m) i j k
  unseen_side i j k hi hj s f =
      elim (face_from [] (faces_of m) [] (fan n u (x.second ∷ x.rest)) x.faces_change i j k f)
      [ inl o ↦ absurd (nothing o) | inr o ↦ of_fan o ]
    where
      nothing : IsFaceOf [] i j k → ⊥
      nothing (inl c) = absurd (omega (arith, c.1))
      nothing (inr (inl c)) = absurd (omega (arith, c.1))
      nothing (inr (inr c)) = absurd (omega (arith, c.1))

      not_new : (y : ℕ) → y < n → y ≡ n → ⊥
      not_new y h e = omega (arith, h, e)

      of_fan : IsFaceOf (fan n u (x.second ∷ x.rest)) i j k → ⊥
      of_fan (inl c) =
          let r = fan_from n p outer u (x.second ∷ x.rest)
          (run_signs points q outer u (x.second ∷ x.rest) x.run) (T.face i j k) c in
          one_way i j (subst (λ (y : ℕ × ℕ). pos 0 <ℤ bracket (at p y.0) (at p y.1) (at p n))
          (λ o. (sym (ap (λ (g : Face). g.a) r.4) o, sym (ap (λ (g : Face). g.b) r.4) o)) r.3)
          (signs j i s)
      of_fan (inr (inl c)) =
          let r = fan_from n p outer u (x.second ∷ x.rest)
          (run_signs points q outer u (x.second ∷ x.rest) x.run) (T.face j k i) c in
          not_new i hi (ap (λ (g : Face). g.c) r.4)
      of_fan (inr (inr c)) =
          let r = fan_from n p outer u (x.second ∷ x.rest)
          (run_signs points q outer u (x.second ∷ x.rest) x.run) (T.face k i j) c in
          not_new j hj (ap (λ (g : Face). g.c) r.4)

  from_old : (i j : ℕ) → i ≢ n → j ≢ n → Contains (outer_of m) (i, j)
      → Contains outer (i, j) × ¬ Contains (steps u (x.second ∷ x.rest)) (i, j)
  from_old i j first second c = elim (x.outer_change.only i j c) [
    | inl o ↦ o
    | inr o ↦ elim (in_two (u, n) (n, w) (i, j) o) [
      | inl e ↦ absurd (second (sym (ap (λ (y : ℕ × ℕ). y.1) e)))
      | inr e ↦ absurd (first (sym (ap (λ (y : ℕ × ℕ). y.0) e)))
    ]
  ]

  old_end : (k : ℕ) → k < n → k ≢ n
  old_end k h e = omega (arith, h, e)

  final : IsLastStep (points ++ q ∷ []) n outer u x.second x.rest
  final = last_step_of (points ++ q ∷ []) n outer u x.second x.rest x.run

  -- the run of joined edges ends at an old vertex
  w_in : w < n
  w_in = subst (λ k. k < n) x.last (x.ends final.start (last_of x.second x.rest) final.edge).1

  -- it starts at an old vertex
  u_in : u < n
  u_in = (x.ends u x.second x.run.0).0

  -- two outer edges with the same ends are one
  one : (h g i j : ℕ) → IsOuterEdge m h i j → IsOuterEdge m g i j → h ≡ g
  one = one_edge m x.outer_change.once

  -- the way back of an outer edge that sees the new vertex is an outer edge, where it is one
  -- between two vertices of the line
  back_is_outer : (h i j : ℕ) → i < n → j < n → Sees i j → IsOuterEdge m h i j
      → IsOuterEdge m (rev h) j i
  back_is_outer h i j hi hj s o = record {
    within = t_in;
    outer = none (cases_eq (face m (rev h)) 0);
    source = o.target;
    target = ap (origin m) (rev-rev h) ∙ o.source;
  }
    where
      t_in : rev h < length m.half_edges
      t_in = rev_within h (length m.half_edges) valid.sound.even o.within

      starts : origin m (next m (rev h)) ≡ i
      starts = (valid.sound.edges (rev h) t_in).starts ∙ ap (origin m) (rev-rev h) ∙ o.source

      positive : (k : ℕ) → k ≢ 0 → 0 < k
      positive k d = omega (arith, d)

      none : (face m (rev h) ≡ 0) ⊎ (face m (rev h) ≢ 0) → face m (rev h) ≡ 0
      none (inl e) = e
      none (inr d) = absurd (unseen_side j i (origin m (prev m (rev h))) hj hi s
          (subst (λ (y : ℕ × ℕ). IsFaceOf (faces_of m) y.0 y.1 (origin m (prev m (rev h))))
          (λ t. (o.target t, starts t))
          (face_before m (rev h) valid.sound (t_in, positive (face m (rev h)) d))))

  -- e goes from the new vertex to w: where the edge after e does not see it, no outer edge from w
  -- does
  pub none_seen_after : (e : ℕ) → IsOuterEdge m e n w
      → ¬ Sees (origin m (next m e)) (origin m (rev (next m e))) → (y : ℕ)
      → Contains (outer_of m) (w, y) → ¬ Sees w y
  none_seen_after e own unseen y c s = elim (cases_eq h.0 (next m e)) [
    | inl same ↦
        unseen (subst (λ (z : ℕ × ℕ). Sees z.0 z.1) (λ t. (
          (sym h.1.source ∙ ap (origin m) same) t,
          (sym h.1.target ∙ ap (λ k. origin m (rev k)) same) t,
        )) s)
    | inr d ↦ other d
  ]
    where
      h : (g : ℕ) × IsOuterEdge m g w y
      h = real m w y c

      -- y is a vertex of the line
      not_last : y ≢ n
      not_last e = absurd (left_not_zero (signs w y s)
          (ap (λ i. bracket (at p w) (at p i) (at p n)) e ∙ bracket-last (at p w) (at p n)))

      there : Contains outer (w, y)
      there = (from_old w y (old_end w w_in) not_last c).0

      y_in : y < n
      y_in = (x.ends w y there).1

      a : ℕ
      a = final.start

      step_to : Contains (steps u (x.second ∷ x.rest)) (a, w)
      step_to = subst (λ k. Contains (steps u (x.second ∷ x.rest)) (a, k)) x.last final.step

      a_next : Adjoin n p w a
      a_next = next_turned n p a w
          ((line.neighbours a w).0 (subst (λ k. Contains outer (a, k)) x.last final.edge))

      a_not_y : a ≢ y
      a_not_y e = one_way a w (signs a w (subst (λ k. Sees a k) x.last final.seen))
          (signs w a (subst (λ k. Sees w k) (sym e) s))

      other : h.0 ≢ next m e → ⊥
      other d = go (cases_eq z n)
        where
          k : ℕ
          k = prev m h.0

          here : IsSoundEdge m h.0
          here = valid.sound.edges h.0 h.1.within

          z : ℕ
          z = origin m k

          before : IsOuterEdge m k z w
          before = record {
            within = here.prev_in;
            outer = sym (valid.sound.edges k here.prev_in).same_face
                ∙ ap (face m) here.next_prev ∙ h.1.outer;
            source = refl;
            target = sym (valid.sound.edges k here.prev_in).starts
                ∙ ap (origin m) here.next_prev ∙ h.1.source;
          }

          back : IsOuterEdge m (rev h.0) y w
          back = back_is_outer h.0 w y w_in y_in s h.1

          to_y : z ≡ y → ⊥
          to_y same =
              let is : rev h.0 ≡ k =
              one (rev h.0) k y w back (subst (λ i. IsOuterEdge m k i w) same before) in
              d (sym (alone_at m h.0 valid h.1.within (ap (next m) is ∙ here.next_prev) (next m e)
              (valid.sound.edges e own.within).next_in
              ((valid.sound.edges e own.within).starts ∙ own.target ∙ sym h.1.source)))

          go : (z ≡ n) ⊎ (z ≢ n) → ⊥
          go (inl same) = d (sym here.next_prev
              ∙ ap (next m) (one k e n w (subst (λ i. IsOuterEdge m k i w) same before) own))
          go (inr far) =
              let was = from_old z w far (old_end w w_in) (listed m k z w before) in
              let z_next = next_turned n p z w ((line.neighbours z w).0 was.0) in
              elim (one_of_two_neighbours n p outer line w a a_next y z
              ((line.neighbours w y).0 there) z_next a_not_y) [
                | inl e₁ ↦ was.1
                    (subst (λ i. Contains (steps u (x.second ∷ x.rest)) (i, w)) (sym e₁) step_to)
                | inr e₂ ↦ to_y e₂
              ]

  -- e goes from u to the new vertex: where the edge before e does not see it, no outer edge to u
  -- does
  pub none_seen_before : (e : ℕ) → IsOuterEdge m e u n
      → ¬ Sees (origin m (prev m e)) (origin m (rev (prev m e))) → (y : ℕ)
      → Contains (outer_of m) (y, u) → ¬ Sees y u
  none_seen_before e own unseen y c s = elim (cases_eq h.0 (prev m e)) [
    | inl same ↦
        unseen (subst (λ (z : ℕ × ℕ). Sees z.0 z.1) (λ t. (
          (sym h.1.source ∙ ap (origin m) same) t,
          (sym h.1.target ∙ ap (λ k. origin m (rev k)) same) t,
        )) s)
    | inr d ↦ other d
  ]
    where
      h : (g : ℕ) × IsOuterEdge m g y u
      h = real m y u c

      -- y is a vertex of the line
      not_last : y ≢ n
      not_last e = absurd (left_not_zero (signs y u s)
          (ap (λ i. bracket (at p i) (at p u) (at p n)) e ∙ bracket-outer (at p n) (at p u)))

      there : Contains outer (y, u)
      there = (from_old y u not_last (old_end u u_in) c).0

      y_in : y < n
      y_in = (x.ends y u there).0

      a_next : Adjoin n p u x.second
      a_next = (line.neighbours u x.second).0 x.run.0

      a_not_y : x.second ≢ y
      a_not_y e = one_way u y (signs u y (subst (λ k. Sees u k) e x.run.1)) (signs y u s)

      other : h.0 ≢ prev m e → ⊥
      other d = go (cases_eq z n)
        where
          here : IsSoundEdge m h.0
          here = valid.sound.edges h.0 h.1.within

          k : ℕ
          k = next m h.0

          z : ℕ
          z = origin m (rev k)

          after : IsOuterEdge m k u z
          after = record {
            within = here.next_in;
            outer = here.same_face ∙ h.1.outer;
            source = here.starts ∙ h.1.target;
            target = refl;
          }

          back : IsOuterEdge m (rev h.0) u y
          back = back_is_outer h.0 y u y_in u_in s h.1

          to_y : z ≡ y → ⊥
          to_y same =
              let is : rev h.0 ≡ k =
              one (rev h.0) k u y back (subst (λ i. IsOuterEdge m k u i) same after) in
              let own_is : e ≡ rev h.0 =
              alone_at m (rev h.0) valid back.within (ap (next m) (rev-rev h.0) ∙ sym is) e
              own.within (own.source ∙ sym back.source) in
              not_last (sym back.target ∙ ap (λ i. origin m (rev i)) (sym own_is) ∙ own.target)

          go : (z ≡ n) ⊎ (z ≢ n) → ⊥
          go (inl same) = d (sym here.prev_next
              ∙ ap (prev m) (one k e u n (subst (λ i. IsOuterEdge m k u i) same after) own))
          go (inr far) =
              let was = from_old u z (old_end u u_in) far (listed m k u z after) in
              elim (one_of_two_neighbours n p outer line u x.second a_next y z (next_turned n p y u
              ((line.neighbours y u).0 there)) ((line.neighbours u z).0 was.0) a_not_y) [
                | inl e₁ ↦ was.1 (subst (λ i. Contains (steps u (x.second ∷ x.rest)) (u, i))
                    (sym e₁) (Contains-head (u, x.second) (steps x.second x.rest)))
                | inr e₂ ↦ to_y e₂
              ]
