-- A mesh whose undirected edges have other data.
use Rattle.std.specs.Prelude.{◌≡◌}
use Rattle.std.specs.List.{AllZip}
use Rattle.half_edge_dcel.specs.MeshContents.{Contents}

-- the data of each undirected edge are as R says of the former ones, and all else is as it was, the
-- room too
pub record IsMapped {V D U T F : Type 0} (R : U → T → Type 0) (old : Contents V D U F)
    (new : Contents V D T F) : Type 0 where
  pub each : AllZip R old.undirected new.undirected
  pub rest : new ≡ record {
    mesh = old.mesh;
    vertices = old.vertices;
    directed = old.directed;
    undirected = new.undirected;
    outer = old.outer;
    faces = old.faces;
    room = old.room;
  }
