-- What the tests of the corners round an edge say.
-- Lemmas: convex_read, corner_tested.
use Rattle.std.proofs.Common.{◌≡◌, ◌↔◌, ℕ, map}
use Rattle.std.specs.Prelude.{Bool, IsTrue}
use Rattle.plane.specs.{Point, TurnsLeft, whole}
use Rattle.half_edge_links.specs.{next, origin, rev, turn}
use Rattle.{delaunay_legalization.specs.point_at, half_edge_dcel.specs.Contents}
use Rattle.delaunay_vertices.specs.{HasSpoke, IsConvexAt, IsCornerAt}

module _ {V D U F P : Type 0} {place : V → Point} {IsSite : P → Point → Type 0} {t : P}
    {c : Contents V D U F} {first : ℕ} (has : HasSpoke place IsSite c t first) where
  -- both tests of the four corners, where they were read from the edge and the two after it
  pub convex_read : (h second third : ℕ) (centre before corner after : Point)
      → second ≡ turn c.mesh h → third ≡ turn c.mesh second
      → centre ≡ point_at (map place c.vertices) (origin c.mesh h)
      → before ≡ point_at (map place c.vertices) (origin c.mesh (rev h))
      → corner ≡ point_at (map place c.vertices) (origin c.mesh (rev second))
      → after ≡ point_at (map place c.vertices) (origin c.mesh (rev third))
      → IsConvexAt (map place c.vertices) c.mesh h
      ↔ (TurnsLeft (whole before) (whole corner) (whole after)
      × TurnsLeft (whole centre) (whole before) (whole after))
  convex_read h _ _ _ _ _ _ second third p q r x = rw (x, r, q, p, third, second) (
    λ k. (k.far, k.near),
    λ k. record { far = k.0; near = k.1 },
  )

  -- the test of a corner of the hull, where it was read from the edge with the outer face on its
  -- right and the last one
  pub corner_tested : (last : ℕ) (centre from to : Point) → last ≡ next c.mesh (rev first)
      → centre ≡ point_at (map place c.vertices) (origin c.mesh first)
      → from ≡ point_at (map place c.vertices) (origin c.mesh (rev first))
      → to ≡ point_at (map place c.vertices) (origin c.mesh (rev last)) → {says : Bool}
      → IsTrue says ↔ TurnsLeft (whole centre) (whole from) (whole to)
      → IsTrue says ↔ IsCornerAt (map place c.vertices) c.mesh first
  corner_tested last centre from to l a b d asks = rw (d, b, a, l) at asks
