-- What removals do to the ends of the edges, the outer edges and the corners of the faces.
use Rattle.std.specs.Prelude.{◌≡◌, ◌≢◌, ◌⊎◌, ℕ, ◌-◌, ◌/◌, ◌<◌, length, map}
use Rattle.std.specs.List.{swap_remove}
use Rattle.half_edge_links.specs.Meshes.{face, Mesh, next, origin, prev, rev}
use Rattle.half_edge_links.specs.Outline.{Ends, ends, IsOuterEdge, OuterChanges}
use Rattle.half_edge_links.specs.{Remove.after_removal, Triangles.Triangle, Triangles.triangles}
use Rattle.half_edge_links.specs.Renames.{moved}

-- what is read at an index past the end of a list of triangles
abbrev pub no_triangle : Triangle
no_triangle = record { first = 0; second = 0; third = 0 }

-- what is read at an index past the end of a list of ends
abbrev pub no_ends : Ends
no_ends = record { source = 0; target = 0 }

-- face f goes, and the last one takes its index
abbrev pub RemovesTriangle : Mesh → Mesh → ℕ → Type 0
RemovesTriangle old new f = triangles new ≡ swap_remove (triangles old) (f - 1) no_triangle

-- the undirected edge of e goes, and the last one takes its index
abbrev pub RemovesEnds : Mesh → Mesh → ℕ → Type 0
RemovesEnds old new e = ends new ≡ swap_remove (ends old) (e / 2) no_ends

-- the edges of face f are outer now
abbrev pub OpensOuter : Mesh → Mesh → ℕ → Type 0
OpensOuter old new f =
    OuterChanges old new (λ h. ⊥) (λ h a b. (h < length old.half_edges) × (face old h ≡ f)
    × (origin old h ≡ a) × (origin old (rev h) ≡ b))

-- the three edges of the loop of h are outer no more
abbrev pub ClosesLoopOuter : Mesh → Mesh → ℕ → Type 0
ClosesLoopOuter old new h =
    OuterChanges old new (λ k. (k ≡ h) ⊎ ((k ≡ next old h) ⊎ (k ≡ prev old h))) (λ k a b. ⊥)

-- the outer edges but the two sides of e stay, under their new indexes
pub record RemovesOuter (old new : Mesh) (e : ℕ) : Type 0 where
  pub kept : (h a b : ℕ) → IsOuterEdge old h a b → h ≢ e → h ≢ rev e
      → IsOuterEdge new (after_removal old e h) a b
  pub only : (h a b : ℕ) → IsOuterEdge new h a b
      → (k : ℕ) × (k ≢ e) × (k ≢ rev e) × IsOuterEdge old k a b × (after_removal old e k ≡ h)

-- the other side of h gives way to the other two edges of the face on the left of h
pub record PeelsOuter (old new : Mesh) (h : ℕ) : Type 0 where
  pub kept : (k a b : ℕ) → IsOuterEdge old k a b → k ≢ rev h
      → IsOuterEdge new (after_removal old h k) a b
  pub second : IsOuterEdge new (after_removal old h (next old h)) (origin old (next old h))
      (origin old (prev old h))
  pub third :
      IsOuterEdge new (after_removal old h (prev old h)) (origin old (prev old h)) (origin old h)
  pub only : (k a b : ℕ) → IsOuterEdge new k a b → (j : ℕ) × (after_removal old h j ≡ k)
      × ((j ≡ next old h) ⊎ ((j ≡ prev old h) ⊎ ((j ≢ rev h) × IsOuterEdge old j a b)))

-- the last vertex is named v, in the corners of the faces, the ends of the edges and the outer
-- edges
abbrev pub MovesTriangles : Mesh → Mesh → ℕ → Type 0
MovesTriangles old new v =
    triangles new ≡ map (λ (t : Triangle). record {
      first = moved (length old.out_edges - 1) v t.first;
      second = moved (length old.out_edges - 1) v t.second;
      third = moved (length old.out_edges - 1) v t.third;
    }) (triangles old)

-- the last vertex is named v in the ends of the edges
abbrev pub MovesEnds : Mesh → Mesh → ℕ → Type 0
MovesEnds old new v =
    ends new ≡ map (λ (t : Ends). record {
      source = moved (length old.out_edges - 1) v t.source;
      target = moved (length old.out_edges - 1) v t.target;
    }) (ends old)

-- the last vertex is named v in the ends of the outer edges
pub record MovesOuter (old new : Mesh) (v : ℕ) : Type 0 where
  pub kept : (h a b : ℕ) → IsOuterEdge old h a b → IsOuterEdge new h
      (moved (length old.out_edges - 1) v a) (moved (length old.out_edges - 1) v b)
  pub only : (h a b : ℕ) → IsOuterEdge new h a b → (p : ℕ) × (q : ℕ) × IsOuterEdge old h p q
      × (a ≡ moved (length old.out_edges - 1) v p) × (b ≡ moved (length old.out_edges - 1) v q)
