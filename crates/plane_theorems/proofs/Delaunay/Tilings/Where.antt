-- Where a point is: in a closed face, or beyond a side that has a face on one side alone, and never
-- both.
-- Notions: IsBeyond, IsCovered; listed_or_not, covered_or_beyond, vertex_not_beyond,
-- not_covered_and_beyond, corner_of_face, vertex_not_inside, vertices_apart.
use Rattle.std.proofs.Common.{◌≡◌, ℕ, zero, suc, ◌<◌, List, [], ◌∷◌, arith, ap, sym, ◌∙◌, subst}
use mathlib.Core.Logic.{◌⊎◌, inl, inr}
use native.Mathlib.Decide.{ℕ_discrete}
use Rattle.std.specs.Prelude.{ℤ, pos, ◌<ℤ◌, ◌≤ℤ◌, ◌+ℤ◌, ◌*ℤ◌}
use Rattle.std.proofs.lemmas.Int.{ints}
use Rattle.std.proofs.Math.Nat.{lt-suc_self}
use Rattle.{plane.specs.Fraction, plane_theorems.proofs.Delaunay.Tilings.Generic.generic_point}
use Rattle.plane.proofs.{left_not_zero, lt_or_ge_ℤ, mul-nonneg_ℤ, nonneg_of_mul-nonneg_ℤ}
use Rattle.plane.proofs.{right_not_above, weak, zero_weak_left}
use Rattle.plane_theorems.proofs.Delaunay.Circles.Global.{off-on_way, rays, rays-off}
use Rattle.plane_theorems.proofs.Delaunay.Points.Bracket.{bracket, bracket-first, bracket-second}
use Rattle.plane_theorems.proofs.{Delaunay.Points.Bracket.cramer, Delaunay.Points.Members.Member}
use Rattle.plane_theorems.proofs.Delaunay.Points.Nudges.{Closed, closed_of_inside, InOpen}
use Rattle.plane_theorems.proofs.{Delaunay.Points.Nudges.inside-turned, Delaunay.Tilings.Walk.step}
use Rattle.plane_theorems.proofs.Delaunay.Points.Numbers.{less_again}
use Rattle.plane_theorems.proofs.Delaunay.Tilings.Beyond.{face_across}
use Rattle.plane_theorems.proofs.Delaunay.Tilings.Faces.{middle, middle-inside, side_not_inside}
use Rattle.plane_theorems.proofs.Delaunay.Tilings.Faces.{Tiling, turned-above}
use Rattle.plane_theorems.proofs.Delaunay.Tilings.Walk.{beyond, IsOff, Leaves, leaves_first}
use Rattle.plane_theorems.proofs.Delaunay.Tilings.Walk.{leaves_second, leaves_third, OnWay}
use Rattle.plane_theorems.proofs.Delaunay.Tilings.Walk.{passes_between, reached, separation, Step}

-- a pair is in a list, or not
pub listed_or_not : (i j : ℕ) (ss : List (ℕ × ℕ)) → Member (i, j) ss ⊎ (¬ Member (i, j) ss)
listed_or_not i j [] = inr (λ m. m)
listed_or_not i j (s ∷ ss) = go (ℕ_discrete s.0 i) (ℕ_discrete s.1 j) (listed_or_not i j ss)
  where
    go : Dec (s.0 ≡ i) → Dec (s.1 ≡ j) → Member (i, j) ss ⊎ (¬ Member (i, j) ss)
        → Member (i, j) (s ∷ ss) ⊎ (¬ Member (i, j) (s ∷ ss))
    go p q (inl m) = inl (inr m)
    go (yes p) (yes q) (inr n) = inl (inl (λ k. (p k, q k)))
    go (yes p) (no q) (inr n) = inr none
      where
        none : Member (i, j) (s ∷ ss) → ⊥
        none (inl e) = q (ap (λ t. t.1) e)
        none (inr m) = n m
    go (no p) q (inr n) = inr none
      where
        none : Member (i, j) (s ∷ ss) → ⊥
        none (inl e) = p (ap (λ t. t.0) e)
        none (inr m) = n m

sum_least : (d x p a q b r c : ℤ) → pos 0 <ℤ d → d *ℤ x ≡ p *ℤ a +ℤ q *ℤ b +ℤ r *ℤ c → pos 0 ≤ℤ p
    → pos 0 ≤ℤ a → pos 0 ≤ℤ q → pos 0 ≤ℤ b → pos 0 ≤ℤ r → pos 0 ≤ℤ c → pos 0 ≤ℤ x
sum_least d x p a q b r c h e hp ha hq hb hr hc = nonneg_of_mul-nonneg_ℤ {k = d} {x = x} h
    (let i = mul-nonneg_ℤ {a = p} {b = a} hp ha in let j = mul-nonneg_ℤ {a = q} {b = b} hq hb in
    let k = mul-nonneg_ℤ {a = r} {b = c} hr hc in omega (arith, ints))

module _ (T : Tiling) where
  open T use {at, IsVertex, IsFace, InHull}

  -- a b c is a face, nothing is across a b, and p is beyond it
  pub record IsBeyond (p : Fraction) : Type 0 where
    pub a : ℕ
    pub b : ℕ
    pub c : ℕ
    pub is_face : IsFace a b c
    pub alone : (d : ℕ) → ¬ IsFace b a d
    pub right : bracket (at a) (at b) p <ℤ pos 0

  -- p is in a closed face
  pub record IsCovered (p : Fraction) : Type 0 where
    pub a : ℕ
    pub b : ℕ
    pub c : ℕ
    pub is_face : IsFace a b c
    pub closed : Closed (at a) (at b) (at c) p

  abbrev Generic : Fraction → Fraction → Type 0
  Generic p x = (i j : ℕ) → Member (i, j) T.sides → IsOff p (at i) x

  abbrev Finds : Fraction → ℕ → Type 0
  Finds p m = (a b c : ℕ) (x : Fraction) → IsFace a b c → InOpen (at a) (at b) (at c) x
      → Generic p x → separation T x p < m → IsCovered p ⊎ IsBeyond p

  -- on the way out through the side a b: p is found from the face across, or is beyond the side
  pass : (p : Fraction) (m : ℕ) → Finds p m → (a b c : ℕ) (x : Fraction) → IsFace a b c
      → InOpen (at a) (at b) (at c) x → Generic p x → separation T x p < suc m
      → Leaves x p (at a) (at b) (at c) → IsCovered p ⊎ IsBeyond p
  pass p m finds a b c x f inside generic less leaves = go (listed_or_not b a T.sides)
    where
      passes : (bracket x p (at a) <ℤ pos 0) × (pos 0 <ℤ bracket x p (at b))
      passes = passes_between x p (at a) (at b) (at c) (T.turns a b c f)
          (generic a b (T.listed a b c f)) (generic b c (T.listed b c a (T.turned a b c f))) leaves

      go : Member (b, a) T.sides ⊎ (¬ Member (b, a) T.sides) → IsCovered p ⊎ IsBeyond p
      go (inr n) = inr (record {
        a = a;
        b = b;
        c = c;
        is_face = f;
        alone = λ d g. n (T.listed b a d g);
        right = leaves.right;
      })
      go (inl s) = next (T.side_face b a s)
        where
          next : (d : ℕ) × IsFace b a d → IsCovered p ⊎ IsBeyond p
          next g = found (beyond T a b c g.0 x p f g.1 inside.first leaves.right passes.0 passes.1)
            where
              found : (x' : Fraction) × OnWay x p x' × InOpen (at b) (at a) (at g.0) x'
                  × (separation T x' p < separation T x p) → IsCovered p ⊎ IsBeyond p
              found r =
                  finds b a g.0 r.0 g.1 r.2 (λ i j h. off-on_way p (at i) x r.0 r.1 (generic i j h))
                  (less_again (separation T r.0 p) (separation T x p) m r.3 less)

  -- p is found from a point inside a face, where fewer than m sides separate them
  find : (p : Fraction) (m : ℕ) → Finds p m
  find p zero a b c x f inside generic less = absurd (omega arith)
  find p (suc m) a b c x f inside generic less =
      go (find p m) (step x p (at a) (at b) (at c) (closed_of_inside inside))
    where
      go : Finds p m → Step x p (at a) (at b) (at c) → IsCovered p ⊎ IsBeyond p
      go finds (reached h) = inl (record { a = a; b = b; c = c; is_face = f; closed = h })
      go finds (leaves_first h) = pass p m finds a b c x f inside generic less h
      go finds (leaves_second h) =
          pass p m finds b c a x (T.turned a b c f) (inside-turned inside) generic less h
      go finds (leaves_third h) = pass p m finds c a b x (T.turned b c a (T.turned a b c f))
          (inside-turned (inside-turned inside)) generic less h

  -- each point is in a closed face, or beyond a side that has nothing across it
  pub covered_or_beyond : (a b c : ℕ) → IsFace a b c → (p : Fraction) → IsCovered p ⊎ IsBeyond p
  covered_or_beyond a b c f p =
      let g =
      generic_point (rays at p T.sides) [] (at a) (at b) (at c) (middle (at a) (at b) (at c))
      (T.turns a b c f) (middle-inside (at a) (at b) (at c) (T.turns a b c f)) tt in
      find p (suc (separation T g.0 p)) a b c g.0 f g.1 (rays-off at p g.0 T.sides g.3)
      (lt-suc_self (separation T g.0 p))

  -- all vertices are on the face's side of such a side, and so is each point of each closed face
  pub vertex_not_beyond : (a b c v : ℕ) → IsFace a b c → ((d : ℕ) → ¬ IsFace b a d) → IsVertex v
      → pos 0 ≤ℤ bracket (at a) (at b) (at v)
  vertex_not_beyond a b c v f alone hv = go (lt_or_ge_ℤ (bracket (at a) (at b) (at v)) (pos 0))
    where
      go : (bracket (at a) (at b) (at v) <ℤ pos 0) ⊎ (pos 0 ≤ℤ bracket (at a) (at b) (at v))
          → pos 0 ≤ℤ bracket (at a) (at b) (at v)
      go (inl h) = let g = face_across T a b c v f hv h in absurd (alone g.0 g.1)
      go (inr h) = h

  -- a point in a closed face is not beyond the hull
  pub not_covered_and_beyond : (p : Fraction) → IsCovered p → ¬ IsBeyond p
  not_covered_and_beyond p m o =
      right_not_above o.right (sum_least (bracket (at m.a) (at m.b) (at m.c)) _ _ _ _ _ _ _
      (T.turns m.a m.b m.c m.is_face) (cramer (at m.a) (at m.b) (at m.c) p (at o.a) (at o.b))
      m.closed.second (low m.a (T.corner m.a m.b m.c m.is_face))
      m.closed.third (low m.b (T.corner m.b m.c m.a (T.turned m.a m.b m.c m.is_face)))
      m.closed.first
      (low m.c (T.corner m.c m.a m.b (T.turned m.b m.c m.a (T.turned m.a m.b m.c m.is_face)))))
    where
      low : (v : ℕ) → IsVertex v → pos 0 ≤ℤ bracket (at o.a) (at o.b) (at v)
      low v hv = vertex_not_beyond o.a o.b o.c v o.is_face o.alone hv

  -- ---- what excludes what
  -- a vertex is a corner of a face
  pub corner_of_face : (v : ℕ) → IsVertex v → (b c : ℕ) × IsFace v b c
  corner_of_face v hv = go (T.covering (at v) (T.vertex_in_hull v hv))
    where
      go : (i j k : ℕ) × IsFace i j k × Closed (at i) (at j) (at k) (at v)
          → (b c : ℕ) × IsFace v b c
      go (i, j, k, f, h) = pick (T.empty i j k v f hv h)
        where
          pick : (v ≡ i) ⊎ ((v ≡ j) ⊎ (v ≡ k)) → (b c : ℕ) × IsFace v b c
          pick (inl e) = (j, k, subst (λ n. IsFace n j k) (sym e) f)
          pick (inr (inl e)) = (k, i, subst (λ n. IsFace n k i) (sym e) (T.turned i j k f))
          pick (inr (inr e)) =
              (i, j, subst (λ n. IsFace n i j) (sym e) (T.turned j k i (T.turned i j k f)))

  -- no vertex is strictly inside a face
  pub vertex_not_inside : (v d e f : ℕ) → IsVertex v → IsFace d e f
      → ¬ InOpen (at d) (at e) (at f) (at v)
  vertex_not_inside v d e f hv g inside = go (corner_of_face v hv)
    where
      go : (b c : ℕ) × IsFace v b c → ⊥
      go (b, c, h) = side_not_inside T v b c d e f h g (at v)
          (record {
            first = zero_weak_left (bracket-first (at v) (at b));
            second = weak (turned-above _ _ _ (T.turns v b c h));
            third = zero_weak_left (bracket-second (at c) (at v));
          })
          (bracket-first (at v) (at b)) inside

  -- two vertices are at one place only if they are one
  pub vertices_apart : (v w : ℕ) → IsVertex v → IsVertex w
      → ((s u : Fraction) → bracket s u (at v) ≡ bracket s u (at w)) → v ≡ w
  vertices_apart v w hv hw same = go (corner_of_face v hv)
    where
      go : (b c : ℕ) × IsFace v b c → v ≡ w
      go (b, c, h) = pick (T.empty v b c w h hw (record {
        first = zero_weak_left (sym (same (at v) (at b)) ∙ bracket-first (at v) (at b));
        second = weak
            (subst (λ z. pos 0 <ℤ z) (same (at b) (at c)) (turned-above _ _ _ (T.turns v b c h)));
        third = zero_weak_left (sym (same (at c) (at v)) ∙ bracket-second (at c) (at v));
      }))
        where
          pick : (w ≡ v) ⊎ ((w ≡ b) ⊎ (w ≡ c)) → v ≡ w
          pick (inl e) = sym e
          pick (inr (inl e)) =
              absurd (left_not_zero (turned-above _ _ _ (T.turns v b c h)) (same (at b) (at c)
              ∙ ap (λ i. bracket (at b) (at c) (at i)) e ∙ bracket-first (at b) (at c)))
          pick (inr (inr e)) =
              absurd (left_not_zero (turned-above _ _ _ (T.turns v b c h)) (same (at b) (at c)
              ∙ ap (λ i. bracket (at b) (at c) (at i)) e ∙ bracket-second (at b) (at c)))
