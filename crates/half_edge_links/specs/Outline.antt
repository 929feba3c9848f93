-- What a layer with positions needs of a mesh: the ends of the edges and the outer edges, and how
-- calls change them and the faces.
-- Ends: the two vertices of an undirected edge, in the order of its even directed edge
-- ends m: the ends of each undirected edge, by its index
-- along h a b: the ends of the undirected edge of h, where h goes from a to b
-- IsOuterEdge m h a b: h has the outer face on its left and goes from a to b
-- KeepsOuter: the outer edges stay
-- OuterChanges old new Gone Made: the outer edges afterwards, by which are gone and which made
-- ReplacesOuter, ClosesOuter, SplitsOuter, ExtendsOuter: outer edges gone and made by one call each
-- MovesEdge old new e a b: edge e goes from a to b afterwards, and no other edge has other ends
-- AddsTriangle old new a b c: a face with these corners becomes the last one
-- HalfSplitsTriangles old new v e: the one face at hull edge e becomes two at v
use Rattle.std.specs.Prelude.{◌≡◌, ◌⊎◌, ◌+◌, ◌-◌, ◌/◌, ◌%◌, ◌<◌, ◌==◌, [], ◌∷◌, ◌++◌, if◌then◌else◌}
use Rattle.std.specs.Prelude.{ℕ, List, length, map, slice_set}
use Rattle.half_edge_links.specs.Meshes.{face, Mesh, next, origin, prev, rev}
use Rattle.half_edge_links.specs.{declared.records.HalfEdge.HalfEdge, Triangles.triangles}

-- the vertices that an undirected edge joins, in the order of its even directed edge
pub record Ends : Type 0 where
  pub source : ℕ
  pub target : ℕ

-- the numbers of a list two by two, each two as the ends of an edge
abbrev pub paired : List ℕ → List Ends
paired [] = []
paired (a ∷ []) = []
paired (a ∷ b ∷ rest) = record { source = a; target = b } ∷ paired rest

-- where each directed edge starts
abbrev pub origins : Mesh → List ℕ
origins m = map (λ (h : HalfEdge). h.origin) m.half_edges

-- the ends of each undirected edge
abbrev pub ends : Mesh → List Ends
ends m = paired (origins m)

-- the ends of the undirected edge of h, where h goes from a to b
abbrev pub along : ℕ → ℕ → ℕ → Ends
along h a b =
    if h % 2 == 0 then record { source = a; target = b } else record { source = b; target = a }

-- directed edge h has the outer face on its left and goes from a to b
pub record IsOuterEdge (m : Mesh) (h a b : ℕ) : Type 0 where
  pub within : h < length m.half_edges
  pub outer : face m h ≡ 0
  pub source : origin m h ≡ a
  pub target : origin m (rev h) ≡ b

-- the outer edges afterwards are the former ones, without those that are gone, and those that were
-- made
pub record OuterChanges (old new : Mesh) (Gone : ℕ → Type 0)
    (Made : ℕ → ℕ → ℕ → Type 0) : Type 0 where
  pub kept : (h a b : ℕ) → IsOuterEdge old h a b → ¬ Gone h → IsOuterEdge new h a b
  pub made : (h a b : ℕ) → Made h a b → IsOuterEdge new h a b
  pub only : (h a b : ℕ) → IsOuterEdge new h a b → (IsOuterEdge old h a b × (¬ Gone h)) ⊎ Made h a b

-- the outer edges are the former ones
pub record KeepsOuter (old new : Mesh) : Type 0 where
  pub kept : (h a b : ℕ) → IsOuterEdge old h a b → IsOuterEdge new h a b
  pub only : (h a b : ℕ) → IsOuterEdge new h a b → IsOuterEdge old h a b

-- this one directed edge
abbrev pub IsThis : ℕ → ℕ → ℕ → ℕ → ℕ → ℕ → Type 0
IsThis i p q h a b = (h ≡ i) × (a ≡ p) × (b ≡ q)

-- an edge from the end of x to vertex v and back is made
abbrev pub HangsOuter : Mesh → Mesh → ℕ → ℕ → ℕ → Type 0
HangsOuter old new x v n =
    OuterChanges old new (λ h. ⊥) (λ h a b. IsThis n (origin old (rev x)) v h a b
    ⊎ IsThis (n + 1) v (origin old (rev x)) h a b)

-- e and the next edge give way to one from the start of e to the end of the next edge
abbrev pub ClosesOuter : Mesh → Mesh → ℕ → ℕ → Type 0
ClosesOuter old new e n =
    OuterChanges old new (λ h. (h ≡ e) ⊎ (h ≡ next old e))
    (λ h a b. IsThis (n + 1) (origin old e) (origin old (rev (next old e))) h a b)

-- e gives way to an edge from its start to v and one from v to its end
abbrev pub ReplacesOuter : Mesh → Mesh → ℕ → ℕ → ℕ → ℕ → Type 0
ReplacesOuter old new e v first last =
    OuterChanges old new (λ h. h ≡ e)
    (λ h a b. IsThis first (origin old e) v h a b ⊎ IsThis last v (origin old (rev e)) h a b)

-- both sides of e, from u to w, give way to the two sides of edges from u to v and from v to w
abbrev pub SplitsOuter : Mesh → Mesh → ℕ → ℕ → ℕ → Type 0
SplitsOuter old new e v n =
    OuterChanges old new (λ h. (h ≡ e) ⊎ (h ≡ rev e))
    (λ h a b. (IsThis e (origin old e) v h a b ⊎ IsThis (n + 1) v (origin old (rev e)) h a b)
    ⊎ (IsThis n (origin old (rev e)) v h a b ⊎ IsThis (rev e) v (origin old e) h a b))

-- a face with corners a, b and c is added
abbrev pub AddsTriangle : Mesh → Mesh → ℕ → ℕ → ℕ → Type 0
AddsTriangle old new a b c =
    triangles new ≡ triangles old ++ record { first = a; second = b; third = c } ∷ []

-- edge e, with the outer face on its right, is split at vertex v: two faces at v, each with an edge
-- of the three-sided loop, and no other changes
abbrev pub HalfSplitsTriangles : Mesh → Mesh → ℕ → ℕ → Type 0
HalfSplitsTriangles old new v e =
    triangles new ≡ slice_set (triangles old) (face old e - 1)
    (record { first = origin old (prev old e); second = v; third = origin old (next old e) })
    ++ record { first = v; second = origin old (prev old e); third = origin old e } ∷ []

-- an undirected edge from a to b is added
abbrev pub AddsEdge : Mesh → Mesh → ℕ → ℕ → Type 0
AddsEdge old new a b = ends new ≡ ends old ++ record { source = a; target = b } ∷ []

-- two undirected edges are added
abbrev pub AddsTwoEdges : Mesh → Mesh → ℕ → ℕ → ℕ → ℕ → Type 0
AddsTwoEdges old new a b c d = ends new ≡ ends old
    ++ (record { source = a; target = b } ∷ record { source = c; target = d } ∷ [])

-- the undirected edge of e gets other ends: e goes from a to b
abbrev pub MovesEdge : Mesh → Mesh → ℕ → ℕ → ℕ → Type 0
MovesEdge old new e a b = ends new ≡ slice_set (ends old) (e / 2) (along e a b)

-- vertex v is joined to the corners of the face on the left of a
abbrev pub InsertsEnds : Mesh → Mesh → ℕ → ℕ → Type 0
InsertsEnds old new v a =
    ends new ≡ ends old ++ (record { source = origin old a; target = v }
    ∷ record { source = origin old (next old a); target = v }
    ∷ record { source = origin old (prev old a); target = v } ∷ [])

-- edge e of a line goes to v, and an edge from its former end to v is added
abbrev pub SplitsLineEnds : Mesh → Mesh → ℕ → ℕ → Type 0
SplitsLineEnds old new e v =
    ends new ≡ slice_set (ends old) (e / 2) (along e (origin old e) v)
    ++ record { source = origin old (rev e); target = v } ∷ []

-- edge e joins the corner opposite it and v, and two edges for its halves are added
abbrev pub HalfSplitsEnds : Mesh → Mesh → ℕ → ℕ → Type 0
HalfSplitsEnds old new e v =
    ends new ≡ slice_set (ends old) (e / 2) (along e (origin old (prev old e)) v)
    ++ (record { source = origin old e; target = v }
    ∷ record { source = v; target = origin old (rev e) } ∷ [])

-- an edge from vertex u to vertex v and back is made
abbrev pub ExtendsOuter : Mesh → Mesh → ℕ → ℕ → ℕ → Type 0
ExtendsOuter old new u v n =
    OuterChanges old new (λ h. ⊥) (λ h a b. IsThis n u v h a b ⊎ IsThis (n + 1) v u h a b)

-- edge e joins v and the corner on its right, and v is joined to the corners of the face on its
-- left
abbrev pub SplitsEnds : Mesh → Mesh → ℕ → ℕ → Type 0
SplitsEnds old new e v =
    ends new ≡ slice_set (ends old) (e / 2) (along e v (origin old (prev old (rev e))))
    ++ (record { source = origin old e; target = v }
    ∷ record { source = origin old (next old e); target = v }
    ∷ record { source = origin old (prev old e); target = v } ∷ [])
