-- What single steps that take edges and faces out of a mesh do to it and to its data.
use Rattle.std.specs.Prelude.{◌≡◌, ◌≢◌, ◌+◌, ◌/◌, ◌<◌, ◌≤◌, [], ◌∷◌, ◌++◌, ℕ, length}
use Rattle.half_edge_links.specs.{after_removal, ClosesLoop, ends, face_edge, IsPendant}
use Rattle.half_edge_links.specs.{KeepsOneOutline, Mesh, MovesEdge, next, Opens, origin, Passes}
use Rattle.half_edge_links.specs.{Peels, Removes, rev, triangle_at, triangles, turn}
use Rattle.{half_edge_dcel.specs.Growth.joins, half_edge_dcel.specs.Removal.TakesOut}
use Rattle.half_edge_dcel.specs.MeshContents.{Contents, IsMeshWithData, KeepsVertices}
use Rattle.half_edge_dcel.specs.Removal.{full_edges, full_faces, GivesFace, LosesEdges, LosesFaces}

-- the vertex where edge o of a mesh without inner faces starts has two edges, whose other ends
-- differ
pub record IsMiddle (m : Mesh) (o : ℕ) : Type 0 where
  pub within : o < length m.half_edges
  pub one_face : m.face_edges ≡ []
  pub two : turn m (turn m o) ≡ o
  pub corners : origin m (rev o) ≢ origin m (rev (turn m o))

module _ {V D U F : Type 0} where
  -- edge e, with the outer face on both sides, is removed, and the last edge takes its index
  pub record RemovesFullEdge (old new : Contents V D U F) (e : ℕ) : Type 0 where
    pub removes : Removes old.mesh new.mesh e
    pub contents :
        new ≡ record old { mesh = new.mesh; directed = new.directed; undirected = new.undirected }
    pub edges : LosesEdges old new (joins (origin old.mesh e) (origin old.mesh (rev e)) ∷ [])
    pub taken : TakesOut (full_edges old) (full_edges new) (e / 2)
    pub triangles : triangles new.mesh ≡ triangles old.mesh
    pub whole : IsMeshWithData new
    pub outline : IsPendant old.mesh e → KeepsOneOutline old.mesh new.mesh

  -- edge e, with an inner face on its left and the outer face on its right, is removed, and that
  -- face with it; the last edge and the last face take their indexes, and `after` is the next edge
  -- round the origin
  pub record PeelsFullEdge (old new : Contents V D U F) (e after : ℕ) : Type 0 where
    pub peels : Peels old.mesh new.mesh e
    pub contents : KeepsVertices old new
    pub edges : LosesEdges old new (joins (origin old.mesh e) (origin old.mesh (rev e)) ∷ [])
    pub faces : LosesFaces old new (triangle_at old.mesh e ∷ [])
    pub spoke : after ≡ after_removal old.mesh e (turn old.mesh e)
    pub whole : IsMeshWithData new
    pub outline : KeepsOneOutline old.mesh new.mesh

  -- inner face f, with this data, is given to the outer one, and the last face takes its index
  pub record OpensFullFace (old new : Contents V D U F) (f : ℕ) (value : F) : Type 0 where
    pub was : IsMeshWithData old
    pub opens : Opens old.mesh new.mesh f
    pub contents : new ≡ record old { mesh = new.mesh; faces = new.faces }
    pub faces : GivesFace old new (triangle_at old.mesh (face_edge old.mesh f)) value
    pub ends : ends new.mesh ≡ ends old.mesh
    pub spare : length new.faces + 1 ≤ new.room.faces
    pub whole : IsMeshWithData new

  -- the loop of edge e, three edges of the outer face, is made a new last face with this data
  pub record ClosesFullFace (old new : Contents V D U F) (e : ℕ) (value : F) : Type 0 where
    pub closes : ClosesLoop old.mesh new.mesh e
    pub contents : new ≡ record old { mesh = new.mesh; faces = new.faces }
    pub faces : full_faces new
        ≡ full_faces old ++ record { corners = triangle_at old.mesh e; value = value } ∷ []
    pub ends : ends new.mesh ≡ ends old.mesh
    pub whole : IsMeshWithData new

  -- the edge to the vertex where o starts passes it, and ends at its other neighbour; `left` is the
  -- edge from the vertex that is left hanging there
  pub record PassesVertex (old new : Contents V D U F) (o left : ℕ) : Type 0 where
    pub was : IsMeshWithData old
    pub left_is : left ≡ next old.mesh (rev o)
    pub contents : new ≡ record old { mesh = new.mesh }
    pub links : Passes old.mesh new.mesh (rev o) (rev (next old.mesh (rev o)))
        (next old.mesh (rev o))
    pub ends : MovesEdge old.mesh new.mesh (rev o) (origin old.mesh (rev o))
        (origin old.mesh (rev (next old.mesh (rev o))))
    pub outline : KeepsOneOutline old.mesh new.mesh
    pub whole : IsMeshWithData new
