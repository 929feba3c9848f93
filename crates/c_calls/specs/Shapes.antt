-- What C is told of what is in a shape.
use Rattle.std.specs.Prelude.{◌≡◌, ◌≢◌, ◌⊎◌, ◌<ℤ◌, ◌≤ℤ◌, ℕ, pos, List}
use Rattle.plane.specs.{Fraction, InClosedCircle, InClosedRectangle, Triangulation}
use Rattle.half_edge_links.specs.{Mesh}
use Rattle.delaunay_shapes.specs.{AreEdgesInShape, AreVerticesInShape}
use Rattle.c_calls.specs.Written.{Finding, IsRawInRange, plain_point}
use Rattle.c_calls.specs.{declared.raw.RawShape.RawShape, declared.statuses.TheConstants.TOO_LARGE}
use Rattle.c_calls.specs.declared.shapes.TheConstants.{CIRCLE, RECTANGLE}
use Rattle.c_calls.specs.declared.statuses.TheConstants.{NEGATIVE, NO_SUCH_KIND, OUT_OF_MEMORY}

-- ---- a closed circle round the first point
-- it may be asked about
abbrev pub MayAskCircle : RawShape → Type 0
MayAskCircle s = IsRawInRange s.first × (pos 0 ≤ℤ s.radius_2)

-- a status why it may not
abbrev pub IsNoCircle : RawShape → ℕ → Type 0
IsNoCircle s status = ((status ≡ TOO_LARGE) × ¬ IsRawInRange s.first)
    ⊎ ((status ≡ NEGATIVE) × (s.radius_2 <ℤ pos 0))

abbrev pub shape_circle : RawShape → Fraction → Type 0
shape_circle s = InClosedCircle (plain_point s.first) s.radius_2

-- ---- a closed rectangle from the first point to the second
-- it may be asked about
abbrev pub MayAskRectangle : RawShape → Type 0
MayAskRectangle s = IsRawInRange s.first × IsRawInRange s.second

-- a status why it may not
abbrev pub IsNoRectangle : RawShape → ℕ → Type 0
IsNoRectangle s status = (status ≡ TOO_LARGE) × ¬ MayAskRectangle s

abbrev pub shape_rectangle : RawShape → Fraction → Type 0
shape_rectangle s = InClosedRectangle (plain_point s.first) (plain_point s.second)

-- ---- a query for what is in a shape
-- a shape is a circle, and this holds, or a rectangle, and that holds, or it is neither, and that
-- is refused
pub data ByKind (s : RawShape) (OfCircle OfRectangle Refuses : Type 0) : Type 0 where
  by_circle : s.kind ≡ CIRCLE → OfCircle → ByKind s OfCircle OfRectangle Refuses
  by_rectangle : s.kind ≡ RECTANGLE → OfRectangle → ByKind s OfCircle OfRectangle Refuses
  by_neither : s.kind ≢ CIRCLE → s.kind ≢ RECTANGLE → Refuses
      → ByKind s OfCircle OfRectangle Refuses

-- it finds a list that is right for the shape, or tells why the shape may not be asked about, or
-- that memory was refused
abbrev pub FindsIn : ((Fraction → Type 0) → List ℕ → Type 0) → RawShape → ℕ → ℕ → ℕ → List ℕ
    → List ℕ → Type 0
FindsIn AreIn s status was told old new = ByKind s
    (Finding (MayAskCircle s) (AreIn (shape_circle s))
    (λ reason. IsNoCircle s reason ⊎ (reason ≡ OUT_OF_MEMORY)) status was told old new)
    (Finding (MayAskRectangle s) (AreIn (shape_rectangle s))
    (λ reason. IsNoRectangle s reason ⊎ (reason ≡ OUT_OF_MEMORY)) status was told old new)
    ((status ≡ NO_SUCH_KIND) × (told ≡ was) × (new ≡ old))

-- the vertices in it, of what a triangulation draws
abbrev pub FindsVerticesIn : Triangulation → RawShape → ℕ → ℕ → ℕ → List ℕ → List ℕ → Type 0
FindsVerticesIn t = FindsIn (λ Shape. AreVerticesInShape Shape t.points)

-- the edges with a point in it, of what a triangulation draws and its links
abbrev pub FindsEdgesIn : Triangulation → Mesh → RawShape → ℕ → ℕ → ℕ → List ℕ → List ℕ → Type 0
FindsEdgesIn t m = FindsIn (λ Shape. AreEdgesInShape Shape t.points m)
