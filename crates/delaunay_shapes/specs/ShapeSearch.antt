-- What a search for edges and vertices in a shape finds, and what a flood of it has asked of.
use Rattle.std.specs.Prelude.{ℕ, length}
use Rattle.plane.specs.{Fraction, Point}
use Rattle.delaunay_shapes.specs.{declared.flood.EdgeFlood.EdgeFlood, Enclosing.Enclosing}
use Rattle.delaunay_shapes.specs.Flood.{Asks, AsksBeside, IsFlooding}
use Rattle.delaunay_shapes.specs.InShape.{IsInside, IsVertexInside, undirected_of}

module _ {V D U F M P : Type 0} (at : V → Point) (Shape : M → Fraction → Type 0)
    (s : Enclosing V D U F M P) where
  -- undirected edge k has a point in its shape
  abbrev pub EnclosesEdge : ℕ → Type 0
  EnclosesEdge = IsInside (Shape s.metric) at s.dcel

  -- vertex i is in its shape
  abbrev pub EnclosesVertex : ℕ → Type 0
  EnclosesVertex = IsVertexInside (Shape s.metric) at s.dcel

  -- of the edges asked of, those with a point in its shape were found, each once
  abbrev pub IsFloodFor : EdgeFlood → Type 0
  IsFloodFor f =
      IsFlooding EnclosesEdge (length s.dcel.undirected) f.asked (undirected_of f.found.items)

  -- directed edge h was asked of
  abbrev pub AsksFor : EdgeFlood → EdgeFlood → ℕ → Type 0
  AsksFor f f' =
      Asks EnclosesEdge (length s.dcel.undirected) f.asked f'.asked f.found.items f'.found.items

  -- the edges beside directed edge h were asked of
  abbrev pub AsksBesideFor : EdgeFlood → EdgeFlood → ℕ → Type 0
  AsksBesideFor f f' =
      AsksBeside EnclosesEdge s.dcel.mesh (length s.dcel.undirected) f.asked f'.asked
      f.found.items f'.found.items
