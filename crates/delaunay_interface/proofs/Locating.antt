-- The answer to a location, by an element of a triangulation.
-- Lemmas: finds_in, element_in.
use Rattle.std.proofs.Common.{◌≡◌, map, sym, subst}
use Rattle.half_edge_dcel.specs.{Contents}
use Rattle.delaunay_legalization.specs.{IsTriangulated, State.State, state_of}
use Rattle.delaunay_location.specs.{Locates, PositionInTriangulation}
use Rattle.{delaunay_edit.specs.FindsLocation, delaunay_edit.specs.HasElement, plane.specs.Point}
use Rattle.delaunay_edit.proofs.Counts.{element_if_handle, outer_if_handle}

module _ {V D U F : Type 0} (place : V → Point) (s : State V D U F) (kept : IsTriangulated place s)
    (p : Point) (answer : PositionInTriangulation) where
  finds : Locates (map place s.vertices) s.mesh p answer → FindsLocation place s p answer
  finds l = record {
    location = l.location;
    element = element_if_handle place s kept answer l.handle;
    outer = outer_if_handle place s kept answer l.handle;
  }

  -- of a mesh in this state
  pub finds_in : (c : Contents V D U F) → state_of c ≡ s
      → Locates (map place c.vertices) c.mesh p answer → FindsLocation place s p answer
  finds_in c same l =
      finds (subst (λ (t : State V D U F). Locates (map place t.vertices) t.mesh p answer) same l)

  -- what the answer names in the mesh is an element of the triangulation
  pub element_in : (c : Contents V D U F) → state_of c ≡ s
      → Locates (map place c.vertices) c.mesh p answer → HasElement (state_of c) answer
  element_in c same l =
      subst (λ (t : State V D U F). HasElement t answer) (sym same) (finds_in c same l).element
