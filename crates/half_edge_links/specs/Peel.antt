-- How the edges of a vertex are taken out of a mesh, face by face.
-- turn m h: the next edge out of the origin of h, counterclockwise
-- spoke m h i: the edge reached from h after i such turns
-- Peels old new h: edge h goes, and the face on its left becomes part of the outer face
-- IsPeelable m h: h has an inner face on its left and the outer one on its right
-- IsStrip m h k: the origin of h has k inner faces in a row from h on, and the outer face before
--   and after them
-- IsWheel m o: three turns lead from o back to o, with an inner face at each of the three edges
use Rattle.std.specs.Prelude.{◌≡◌, ◌≢◌, ℕ, ◌<◌, length}
use Rattle.half_edge_links.specs.Meshes.{face, iterate, Mesh, next, prev, rev}
use Rattle.half_edge_links.specs.Remove.{Opens, Removes}

-- an edge with an inner face on its left and the outer one on its right
pub record IsPeelable (m : Mesh) (h : ℕ) : Type 0 where
  pub within : h < length m.half_edges
  pub inner : 0 < face m h
  pub outer : face m (rev h) ≡ 0

-- edge h goes, and the face on its left with it
pub record Peels (old new : Mesh) (h : ℕ) : Type 0 where
  pub opened : Mesh
  pub opens : Opens old opened (face old h)
  pub removes : Removes opened new h

-- the edge out of the same vertex that is next against the clock
abbrev pub turn : Mesh → ℕ → ℕ
turn m h = rev (prev m h)

-- a vertex with three faces round it: o, the next and the one after it are all edges out of it
pub record IsWheel (m : Mesh) (o : ℕ) : Type 0 where
  pub within : o < length m.half_edges
  pub first_inner : 0 < face m o
  pub second_inner : 0 < face m (turn m o)
  pub third_inner : 0 < face m (turn m (turn m o))
  pub round : turn m (turn m (turn m o)) ≡ o

-- the edges out of a vertex, from h on against the clock
abbrev pub spoke : Mesh → ℕ → ℕ → ℕ
spoke m h i = iterate (turn m) i h

-- a vertex with k inner faces, one after the other from edge h on, and the outer face between the
-- last edge and h
pub record IsStrip (m : Mesh) (h k : ℕ) : Type 0 where
  pub within : h < length m.half_edges
  pub outer : face m (rev h) ≡ 0
  pub inner : (i : ℕ) → i < k → 0 < face m (spoke m h i)
  pub last : face m (spoke m h k) ≡ 0
  pub gap : next m (rev h) ≡ spoke m h k
  pub far : next m (spoke m h k) ≢ rev (spoke m h k)
