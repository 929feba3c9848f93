-- What becomes of the data of edges and faces.
use Rattle.std.specs.Prelude.{◌≡◌}
use Rattle.std.specs.List.{AllZip}
use Rattle.delaunay_legalization.specs.State.{State}
pub use Rattle.delaunay_vertices.specs.{KeepsData}

-- the data of each undirected edge are as R says of the former ones, and all else is as it was
pub record HasOtherEdgeData {V D U T F : Type 0} (R : U → T → Type 0) (old : State V D U F)
    (new : State V D T F) : Type 0 where
  pub each : AllZip R old.undirected new.undirected
  pub rest : new ≡ record {
    vertices = old.vertices;
    mesh = old.mesh;
    directed = old.directed;
    undirected = new.undirected;
    outer = old.outer;
    faces = old.faces;
  }
