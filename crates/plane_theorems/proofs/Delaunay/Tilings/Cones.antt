-- At a vertex: a face whose closed cone holds the way to a point of the hull.
-- Notions: Cone; cone, cone_at_vertex.
use Rattle.std.proofs.Common.{◌≡◌, ℕ, ap, sym, ◌∙◌, subst}
use mathlib.Core.Logic.{◌⊎◌, inl, inr}
use Rattle.std.specs.Prelude.{◌≢◌, pos, ◌<ℤ◌, ◌≤ℤ◌, map}
use Rattle.plane.specs.{Fraction, InHull, IsFace, IsVertex, right, side, TilesHull, Triangulation}
use Rattle.plane.specs.{vertex, whole}
use Rattle.plane.proofs.{left_not_zero, Sides.not_right_if}
use Rattle.plane_theorems.proofs.Delaunay.Points.Bracket.{bracket, bracket-first, bracket-second}
use Rattle.plane_theorems.proofs.Delaunay.Tilings.Faces.{Germ, germ, germ-closed, germ-turned}
use Rattle.plane_theorems.proofs.Delaunay.Tilings.Faces.{StartsFrom, Tiling}
use Rattle.plane_theorems.proofs.Delaunay.Tilings.Ground.{tiling}

module _ (T : Tiling) where
  open T use {at, IsVertex, IsFace, InHull}

  -- v b c is a face, and z is in its closed cone at v
  pub record Cone (v : ℕ) (z : Fraction) : Type 0 where
    pub b : ℕ
    pub c : ℕ
    pub is_face : IsFace v b c
    pub first : pos 0 ≤ℤ bracket (at v) (at b) z
    pub second : pos 0 ≤ℤ bracket (at c) (at v) z

  from_germ : (v : ℕ) (z : Fraction) (i j : ℕ) → StartsFrom T (at v) z i j
      → bracket (at i) (at j) (at v) ≡ pos 0 → pos 0 ≤ℤ bracket (at i) (at j) z
  from_germ v z i j s e = go s.starts
    where
      go : (pos 0 <ℤ bracket (at i) (at j) (at v))
          ⊎ ((bracket (at i) (at j) (at v) ≡ pos 0) × (pos 0 ≤ℤ bracket (at i) (at j) z))
          → pos 0 ≤ℤ bracket (at i) (at j) z
      go (inl h) = absurd (left_not_zero h e)
      go (inr h) = h.1

  at_corner : (v : ℕ) (z : Fraction) (i j k : ℕ) → IsFace i j k → Germ T (at v) z i j k
      → v ≡ i → Cone v z
  at_corner v z i j k f g e = record {
    b = j;
    c = k;
    is_face = subst (λ i. IsFace i j k) (sym e) f;
    first = subst (λ i. pos 0 ≤ℤ bracket (at i) (at j) z) (sym e) (from_germ v z i j g.first
        (ap (λ n. bracket (at i) (at j) (at n)) e ∙ bracket-first (at i) (at j)));
    second = subst (λ i. pos 0 ≤ℤ bracket (at k) (at i) z) (sym e) (from_germ v z k i g.third
        (ap (λ n. bracket (at k) (at i) (at n)) e ∙ bracket-second (at k) (at i)));
  }

  -- from a vertex, each point of the hull lies in the cone of a face or along an edge
  pub cone : (v : ℕ) (z : Fraction) → IsVertex v → InHull z → Cone v z
  cone v z hv hz = go (germ T (at v) z (T.vertex_in_hull v hv) hz)
    where
      go : (i j k : ℕ) × IsFace i j k × Germ T (at v) z i j k → Cone v z
      go (i, j, k, f, g) = pick (T.empty i j k v f hv (germ-closed T (at v) z i j k g))
        where
          pick : (v ≡ i) ⊎ ((v ≡ j) ⊎ (v ≡ k)) → Cone v z
          pick (inl e) = at_corner v z i j k f g e
          pick (inr (inl e)) =
              at_corner v z j k i (T.turned i j k f) (germ-turned T (at v) z i j k g) e
          pick (inr (inr e)) = at_corner v z k i j (T.turned j k i (T.turned i j k f))
              (germ-turned T (at v) z j k i (germ-turned T (at v) z i j k g)) e

-- ---- in the definitions' words
module _ (t : Triangulation) (h : TilesHull t) where
  -- a face at a vertex whose closed cone holds a point of the hull
  pub cone_at_vertex : (i : ℕ) (p : Fraction) → IsVertex t i → InHull (map whole t.points) p
      → (j k : ℕ) × IsFace t i j k × (side (vertex t i) (vertex t j) p ≢ right)
      × (side (vertex t k) (vertex t i) p ≢ right)
  unfolding tiling bracket
  cone_at_vertex i p hi hp = let c = cone (tiling t h) i p hi hp in (
    c.b,
    c.c,
    c.is_face,
    not_right_if (vertex t i) (vertex t c.b) p c.first,
    not_right_if (vertex t c.c) (vertex t i) p c.second,
  )
