-- The corners of the inner faces, and what some calls make of them.
-- Triangle: three corners, in their order around a face
-- triangle_at m h: the corners of the face on the left of h, from the origin of h on
-- triangles m: the corners of each inner face, by its index
-- FlipsTriangles old new e: the two faces at e become the other two halves of their quadrilateral
-- InsertsTriangles old new v a: the face on the left of a becomes three faces at v
-- SplitsTriangles old new v e: the two faces at e become four at v
use Rattle.std.specs.Prelude.{◌≡◌, ℕ, ◌-◌, List, [], ◌∷◌, ◌++◌, map, slice_set}
use Rattle.half_edge_links.specs.Meshes.{face, Mesh, next, origin, prev, rev}

-- the three corners of a face, in their order round it, from the origin of the edge that the face
-- names
pub record Triangle : Type 0 where
  pub first : ℕ
  pub second : ℕ
  pub third : ℕ

-- the corners round the face on the left of an edge
abbrev pub triangle_at : Mesh → ℕ → Triangle
triangle_at m h =
    record { first = origin m h; second = origin m (next m h); third = origin m (prev m h) }

-- the corners of each inner face
abbrev pub triangles : Mesh → List Triangle
triangles m = map (triangle_at m) m.face_edges

-- edge e is turned: its two faces have the other two halves of the four-sided loop, and no other
-- changes
abbrev pub FlipsTriangles : Mesh → Mesh → ℕ → Type 0
FlipsTriangles old new e =
    triangles new ≡ slice_set (slice_set (triangles old)
    (face old e - 1) (record {
      first = origin old (prev old e);
      second = origin old (prev old (rev e));
      third = origin old (next old e);
    }))
    (face old (rev e) - 1) (record {
      first = origin old (prev old (rev e));
      second = origin old (prev old e);
      third = origin old (next old (rev e));
    })

-- vertex v is put into the face on the left of a: it and two new faces each have an edge of it and
-- v, and no other changes
abbrev pub InsertsTriangles : Mesh → Mesh → ℕ → ℕ → Type 0
InsertsTriangles old new v a =
    triangles new ≡ slice_set (triangles old) (face old a - 1)
    (record { first = origin old a; second = origin old (next old a); third = v })
    ++ (record { first = origin old (next old a); second = origin old (prev old a); third = v }
    ∷ record { first = origin old (prev old a); second = origin old a; third = v } ∷ [])

-- edge e, between two inner faces, is split at vertex v: four faces round v, each with an edge of
-- the four-sided loop, and no other changes
abbrev pub SplitsTriangles : Mesh → Mesh → ℕ → ℕ → Type 0
SplitsTriangles old new v e =
    triangles new ≡ slice_set (slice_set (triangles old)
    (face old e - 1) (record
    { first = v; second = origin old (prev old (rev e)); third = origin old (next old e) }))
    (face old (rev e) - 1) (record {
      first = origin old (prev old (rev e));
      second = v;
      third = origin old (next old (rev e));
    })
    ++ (record { first = origin old (next old e); second = origin old (prev old e); third = v }
    ∷ record { first = origin old (prev old e); second = origin old e; third = v } ∷ [])
