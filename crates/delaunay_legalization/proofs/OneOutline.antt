-- The outer edges of a mesh of points are one loop: each loop turns up at the lowest vertex, which
-- one of them leaves.
-- Lemmas: one_outline.
use Rattle.std.proofs.Common.{ℕ, List, length, sym, subst}
use mathlib.Core.Logic.{inl, inr}
use Rattle.std.specs.Prelude.{ℤ, Contains}
use Rattle.plane.specs.{Point}
use Rattle.{plane.proofs.Vec3, plane_theorems.specs.IsMesh, plane_theorems.specs.LocalMesh}
use Rattle.half_edge_links.specs.{AreSoundLinks, HasOneOutline, IsValidMesh, Mesh, next, origin}
use Rattle.plane_theorems.proofs.{by_signs, next_unique, point_at, SignMesh}
use Rattle.plane_theorems.proofs.Tiling.Sweep.{IsSweep, sweep}
use Rattle.delaunay_legalization.specs.{faces_of, outer_of}
use Rattle.delaunay_legalization.proofs.{LowestVertex.turns_at_lowest, OutlineOnLine.line_outline}
use Rattle.delaunay_legalization.proofs.OutlineRounds.{end, IsLowest, IsOut, next_out, out_pair}
use Rattle.delaunay_legalization.proofs.OutlineRounds.{outline_by_low, same_ends, same_low, TurnsUp}

-- ---- a mesh with faces: by the heights of a sweep
module _ (points : List Point) (m : Mesh) (s : AreSoundLinks m)
    (shape : LocalMesh points (faces_of m) (outer_of m)) where
  abbrev n : ℕ
  n = length points

  abbrev p : ℕ → Point
  p = point_at points

  signs : SignMesh n p (faces_of m) (outer_of m)
  signs = by_signs points (faces_of m) (outer_of m) shape

  module _ (way : Vec3) (height : ℕ → ℤ) (swept : IsSweep n p way height) where
    turns : (h : ℕ) → IsOut m h → TurnsUp m height h → IsLowest height n (end m h)
    turns h o up =
        let after = out_pair m s (next m h) (next_out m s h o) in (
          (signs.ends (origin m h, end m h) (out_pair m s h o)).1,
          turns_at_lowest n p (faces_of m) (outer_of m) signs way height swept _ _ _
              (out_pair m s h o) after up.0 up.1,
        )

    swept_outline : HasOneOutline m
    swept_outline = outline_by_low m s height (IsLowest height n) (record {
      slopes = λ h o.
          let e = signs.ends (origin m h, end m h) (out_pair m s h o) in
          swept.distinct (origin m h) (end m h) e.0 e.1 e.2;
      turns = turns;
      one = λ h g o q a b.
          let starts = same_low height n swept.distinct (origin m h) (origin m g) a b in
          let other =
          subst (λ v. Contains (outer_of m) (v, end m g)) (sym starts) (out_pair m s g q) in
          same_ends m s shape.once h g o q starts
          (next_unique n p (faces_of m) (outer_of m) signs (origin m h) (end m h) (end m g)
          (out_pair m s h o) other);
    })

  plane_outline : HasOneOutline m
  plane_outline = let w = sweep n p signs.distinct in swept_outline w.0 w.1.0 w.1.1

-- the outer edges of a mesh of points are one loop
pub one_outline : (points : List Point) (m : Mesh) → IsValidMesh m
    → IsMesh points (faces_of m) (outer_of m) → HasOneOutline m
one_outline points m valid (inl shape) = plane_outline points m valid.sound shape
one_outline points m valid (inr line) = line_outline points m valid line.0 line.1
