-- Each mesh is a tiling, or has its vertices on one line with edges that meet at their ends alone.
-- Lemmas: meshes_are_laid.
use Rattle.std.proofs.Common.{◌≡◌, ◌≢◌, ℕ, ap}
use mathlib.Core.Logic.{inl, inr}
use native.Mathlib.Decide.{ℕ_discrete}
use Rattle.std.specs.Prelude.{pos, slice_index_or}
use Rattle.plane.specs.{IsIndex, IsSame, IsTiling, place, whole}
use Rattle.plane_theorems.specs.{IsLaid, IsMesh, Segments.WalkLaws.MeshesAreLaid}
use Rattle.plane_theorems.proofs.{Segments.Crossing.EitherWay.one_point, Tiling.Meshes.meshes_tile}
use Rattle.plane_theorems.proofs.Tiling.Locations.{no_edges_cross}

-- the faces of a mesh tile the hull, or all vertices are on one line and its edges meet at vertices
pub meshes_are_laid : MeshesAreLaid
meshes_are_laid points faces outer edges mesh own =
    go (meshes_tile points faces outer edges mesh own)
  where
    distinct : IsMesh points faces outer → (i j : ℕ) → IsIndex points i → IsIndex points j → i ≢ j →
        place points i ≢ place points j
    distinct (inl m) = m.distinct
    distinct (inr m) = m.1.distinct

    apart : (i j : ℕ) → IsIndex points i → IsIndex points j
        → IsSame (place points i) (place points j) → i ≡ j
    apart i j hi hj e = pick (ℕ_discrete i j)
      where
        pick : Dec (i ≡ j) → i ≡ j
        pick (yes r) = r
        pick (no n) = absurd (distinct mesh i j hi hj n
            (ap whole (one_point (slice_index_or points i (record { x = pos 0; y = pos 0 }))
            (slice_index_or points j (record { x = pos 0; y = pos 0 })) e)))

    go : IsTiling (record { points = points; faces = faces; edges = edges }) →
        IsLaid (record { points = points; faces = faces; edges = edges })
    go (inl h) = inl h
    go (inr h) = inr (h, no_edges_cross points faces outer edges mesh own, apart)
