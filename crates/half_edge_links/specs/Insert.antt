-- A vertex is put into an inner face.
use Rattle.std.specs.Prelude.{◌≡◌, ◌≢◌, ◌+◌, ◌-◌, ◌<◌, ◌≤◌, [], ◌∷◌, ◌++◌}
use Rattle.std.specs.Prelude.{ℕ, List, length, Some, slice_set}
use Rattle.half_edge_links.specs.Meshes.{edge_at, face, face_edge, HasLinks, Mesh, next, origin}
use Rattle.half_edge_links.specs.{declared.records.HalfEdge.HalfEdge, Meshes.out_edge, Meshes.prev}

-- directed edges, n of them, after vertex v was put into face f, whose edges are a and these three
abbrev pub fan_by : List HalfEdge → ℕ → ℕ → ℕ → ℕ → ℕ → HalfEdge → HalfEdge → HalfEdge
    → List HalfEdge
fan_by hs v f n g a first second third =
    slice_set (slice_set (slice_set hs
    a (record { origin = first.origin; next = n + 2; prev = n + 1; face = f }))
    first.next (record { origin = second.origin; next = n + 4; prev = n + 3; face = g + 1 }))
    first.prev (record { origin = third.origin; next = n; prev = n + 5; face = g + 2 })
    ++ record { origin = first.origin; next = n + 5; prev = first.prev; face = g + 2 } ∷ []
    ++ record { origin = v; next = a; prev = n + 2; face = f } ∷ []
    ++ record { origin = second.origin; next = n + 1; prev = a; face = f } ∷ []
    ++ record { origin = v; next = first.next; prev = n + 4; face = g + 1 } ∷ []
    ++ record { origin = third.origin; next = n + 3; prev = first.next; face = g + 1 } ∷ []
    ++ record { origin = v; next = first.prev; prev = n; face = g + 2 } ∷ []

-- the mesh with vertex v put into face f, whose edges are a and these three
unfoldable pub insert_by : Mesh → ℕ → ℕ → ℕ → ℕ → ℕ → HalfEdge → HalfEdge → HalfEdge → Mesh
insert_by m v f n g a first second third = record m {
  half_edges = fan_by m.half_edges v f n g a first second third;
  out_edges = slice_set m.out_edges v (Some (n + 1));
  face_edges = slice_set m.face_edges (f - 1) a ++ first.next ∷ [] ++ first.prev ∷ [];
}

-- the mesh with vertex v put into the face on the left of edge a
unfoldable pub inserted : Mesh → ℕ → ℕ → Mesh
inserted m v a =
    insert_by m v (face m a) (length m.half_edges) (length m.face_edges) a (edge_at m.half_edges a)
    (edge_at m.half_edges (next m a)) (edge_at m.half_edges (prev m a))

-- what putting vertex v into face f does, where a is an edge of f, n the number of directed edges
-- and g that of the inner faces
pub record Inserts (old new : Mesh) (v f a n g : ℕ) : Type 0 where
  pub first : HasLinks new a (origin old a) (n + 2) (n + 1) f
  pub second : HasLinks new (next old a) (origin old (next old a)) (n + 4) (n + 3) (g + 1)
  pub third : HasLinks new (prev old a) (origin old (prev old a)) n (n + 5) (g + 2)
  pub from_first : HasLinks new n (origin old a) (n + 5) (prev old a) (g + 2)
  pub to_first : HasLinks new (n + 1) v a (n + 2) f
  pub from_second : HasLinks new (n + 2) (origin old (next old a)) (n + 1) a f
  pub to_second : HasLinks new (n + 3) v (next old a) (n + 4) (g + 1)
  pub from_third : HasLinks new (n + 4) (origin old (prev old a)) (n + 3) (next old a) (g + 1)
  pub to_third : HasLinks new (n + 5) v (prev old a) n (g + 2)
  pub other_edges : (h : ℕ) → h < n → h ≢ a → h ≢ next old a → h ≢ prev old a
      → edge_at new.half_edges h ≡ edge_at old.half_edges h
  pub edge_count : length new.half_edges ≡ n + 6
  pub vertex_count : length new.out_edges ≡ length old.out_edges
  pub face_count : length new.face_edges ≡ g + 2
  pub out : out_edge new v ≡ Some (n + 1)
  pub other_outs : (u : ℕ) → u ≢ v → out_edge new u ≡ out_edge old u
  pub named : face_edge new f ≡ a
  pub kept_faces : (k : ℕ) → 0 < k → k ≤ g → k ≢ f → face_edge new k ≡ face_edge old k
  pub second_face : face_edge new (g + 1) ≡ next old a
  pub third_face : face_edge new (g + 2) ≡ prev old a
  pub outer_edge : new.outer_edge ≡ old.outer_edge
