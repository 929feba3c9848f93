-- A legalization round a vertex: what becomes of the edge opposite it in the face of one of its
-- edges.
use Rattle.std.specs.Prelude.{◌≡◌, ◌↔◌, ◌⊎◌, ◌+◌, ◌*◌, ◌/◌, ◌<◌, ◌^◌}
use Rattle.std.specs.Prelude.{ℕ, ℤ, List, length, map, IsTrue, Some}
use Rattle.half_edge_links.specs.{face, flipped, Mesh, next, origin, out_edge, prev, rev}
use Rattle.{half_edge_dcel.specs.Contents, plane_theorems.specs.IsEmptyRound}
use Rattle.delaunay_core.specs.{place_of}
use Rattle.delaunay_legalization.specs.{Drawn.faces_of, Known.IsVertexSite, Legal.IsFailing}
use Rattle.delaunay_legalization.specs.{declared.around.Opposite.Opposite, Embedding.IsEmbedding}
use Rattle.{delaunay_legalization.specs.Flips.FlipsFit, plane.specs.Joins, plane.specs.Point}

-- the edge opposite vertex v, in the face on the left of its edge h, may be tested and turned
pub record CanTurn {V D U F P : Type 0} (place : V → Point) (IsSite : P → Point → Type 0)
    (c : Contents V D U F) (t : P) (h flips : ℕ) : Type 0 where
  pub embedding : IsEmbedding place IsSite c t
  pub within : h < length c.mesh.half_edges
  pub fits : IsFailing (map place c.vertices) c.mesh (next c.mesh h) → flips + 1 < 2 ^ 64

-- it was read whether a face beside that edge is the outer one, and where the edge's ends and the
-- corner beyond it are
pub record IsOpposite {S : Type 0} (number : S → ℤ) (IsSite : Point → Type 0)
    (points : List Point) (m : Mesh) (h : ℕ) (it : Opposite S) : Type 0 where
  pub outer : IsTrue it.is_outer ↔ ((face m h ≡ 0) ⊎ (face m (rev (next m h)) ≡ 0))
  pub from : IsVertexSite IsSite points (origin m (next m h)) (place_of number it.from)
  pub to : IsVertexSite IsSite points (origin m (rev (next m h))) (place_of number it.to)
  pub beyond : IsVertexSite IsSite points (origin m (prev m (rev (next m h))))
      (place_of number it.beyond)

-- it failed, was turned and counted
pub record Turns (points : List Point) (old new : Mesh) (h before after : ℕ) : Type 0 where
  pub failing : IsFailing points old (next old h)
  pub turned : new ≡ flipped old (2 * (next old h / 2))
  pub counted : after ≡ before + 1

-- it stays, since it is a constraint or does not fail
pub record Stays (points : List Point) (constraints : List (ℕ × ℕ)) (old new : Mesh)
    (h before after : ℕ) : Type 0 where
  pub same : new ≡ old
  pub counted : after ≡ before
  pub passes : ¬ Joins constraints (origin old (next old h)) (origin old (rev (next old h)))
      → ¬ IsFailing points old (next old h)

-- vertex v, from its edge first on, lies in empty circles, and each flip that may be needed can be
-- counted
pub record CanGoRound {V D U F : Type 0} (place : V → Point) (c : Contents V D U F)
    (v first flips : ℕ) : Type 0 where
  pub named : out_edge c.mesh v ≡ Some first
  pub empty : IsEmptyRound (map place c.vertices) (faces_of c.mesh) v
  pub fits : FlipsFit (length c.vertices) flips
