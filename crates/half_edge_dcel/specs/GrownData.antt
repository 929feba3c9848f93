-- How all data of a mesh change where it grows. New data are as D, U and F say, for directed edges,
-- undirected edges and faces; data of the outer face and room stay, and the mesh is whole.
use Rattle.std.specs.Prelude.{◌≡◌, ℕ, ◌/◌, List}
use Rattle.half_edge_links.specs.{rev}
use Rattle.half_edge_dcel.specs.Growth.{Grows, MovesItem, MovesTwoItems}
use Rattle.half_edge_dcel.specs.MeshContents.{Contents, IsMeshWithData}

module _ {V DE UE FA : Type 0} where
  -- these vertex data, and so many more directed edges, undirected edges and faces
  pub record AddsData (D : DE → Type 0) (U : UE → Type 0) (F : FA → Type 0) (vertices : List V)
      (old new : Contents V DE UE FA) (d u f : ℕ) : Type 0 where
    pub whole : IsMeshWithData new
    pub contents : new ≡ record old {
      mesh = new.mesh;
      vertices = vertices;
      directed = new.directed;
      undirected = new.undirected;
      faces = new.faces;
    }
    pub directed : Grows D old.directed new.directed d
    pub undirected : Grows U old.undirected new.undirected u
    pub faces : Grows F old.faces new.faces f

  -- these vertex data and one more edge; data of the faces stay
  pub record AddsEdgeData (D : DE → Type 0) (U : UE → Type 0) (vertices : List V)
      (old new : Contents V DE UE FA) : Type 0 where
    pub whole : IsMeshWithData new
    pub contents : new ≡ record old {
      mesh = new.mesh;
      vertices = vertices;
      directed = new.directed;
      undirected = new.undirected;
    }
    pub directed : Grows D old.directed new.directed 2
    pub undirected : Grows U old.undirected new.undirected 1

  -- these vertex data; the data of edge e move to the first new edge, and so many more directed
  -- edges, undirected edges and faces follow
  pub record MovesData (D : DE → Type 0) (U : UE → Type 0) (F : FA → Type 0) (vertices : List V)
      (old new : Contents V DE UE FA) (e d u f : ℕ) : Type 0 where
    pub whole : IsMeshWithData new
    pub contents : new ≡ record old {
      mesh = new.mesh;
      vertices = vertices;
      directed = new.directed;
      undirected = new.undirected;
      faces = new.faces;
    }
    pub directed : MovesTwoItems D old.directed new.directed e (rev e) d
    pub undirected : MovesItem U old.undirected new.undirected (e / 2) u
    pub faces : Grows F old.faces new.faces f
