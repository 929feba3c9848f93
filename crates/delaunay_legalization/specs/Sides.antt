-- The flips of a legalization, by the sides of a turned edge that it leaves to test.
use Rattle.std.specs.Prelude.{ℕ, List, map, ⊤}
use Rattle.half_edge_links.specs.{Mesh}
use Rattle.{half_edge_dcel.specs.Contents, plane.specs.Point, plane_theorems.specs.AllPassBut}
use Rattle.delaunay_legalization.specs.{Among.FailOnlyOf, Drawn.faces_of, Pushing.GainsRoundAmong}
use Rattle.delaunay_legalization.specs.{Constraints.constraint_pairs, declared.sides.Sides.Sides}
use Rattle.delaunay_legalization.specs.Legal.{AreEdges, GainsRound, pairs_at}
use Rattle.delaunay_legalization.specs.declared.sides.Sides.TheVariants.{Among, Round}

-- what of a mesh makes it enough to test these sides of a turned edge
abbrev pub Suffice : Sides → List Point → Mesh → Type 0
Suffice Round points m = ⊤
Suffice (Among es) points m = FailOnlyOf points m es.now.items

-- the entries of old, and these sides of directed edge e
abbrev pub GainsSides : Sides → Mesh → ℕ → List ℕ → List ℕ → Type 0
GainsSides Round m e old new = GainsRound m e old new
GainsSides (Among es) m e old new = GainsRoundAmong m es.now.items e old new

-- these are edges, and each other one passes, but for the outer ones and the constraints
pub record AreLeftToTest {V D U F : Type 0} (place : V → Point) (constraints_of : List U → List ℕ)
    (c : Contents V D U F) (ks : List ℕ) : Type 0 where
  pub edges : AreEdges c.mesh ks
  pub passing : AllPassBut (map place c.vertices) (faces_of c.mesh)
      (constraint_pairs constraints_of c.mesh c.undirected) (pairs_at c.mesh ks)
