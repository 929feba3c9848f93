-- The edges opposite one vertex, where only they may fail.
-- Notions: HasOpposite; opposite_begins.
use Rattle.std.proofs.Common.{◌<◌, ◌≡◌, length, ℕ, ◌/◌, List, ◌∙◌, subst}
use Rattle.std.specs.Prelude.{Contains}
use Rattle.plane.specs.{Joins, Point}
use Rattle.half_edge_links.specs.{AreSoundLinks, Mesh, next, origin, prev, rev}
use Rattle.plane_theorems.specs.{AllPassBut, IsEmptyRound, IsFaceOf, IsMesh}
use Rattle.plane_theorems.proofs.Edits.Legalization.EmptyRound.{opposite_left}
use Rattle.delaunay_legalization.specs.{faces_of, outer_of, pairs_at}
use Rattle.delaunay_legalization.proofs.{MeshLegal.joins_directed, TurnedEnds.ends_at_next}
use Rattle.delaunay_legalization.proofs.MeshStars.{edge_of_face}
use Rattle.half_edge_links.proofs.Sound.Triangles as T

-- the edges opposite vertex v, in the loops of the edges that start there, are among ks
abbrev pub HasOpposite : Mesh → ℕ → List ℕ → Type 0
HasOpposite m v ks = (h : ℕ) → h < length m.half_edges → origin m h ≡ v → Contains ks (next m h / 2)

-- the edges opposite the vertex v join the two other corners of its faces
opposite_joined : (m : Mesh) → AreSoundLinks m → (v : ℕ) (ks : List ℕ) → HasOpposite m v ks
    → (j k : ℕ) → IsFaceOf (faces_of m) v j k → Joins (pairs_at m ks) j k
opposite_joined m s v ks has j k f =
    let e = edge_of_face m s v j k f in
    let t = T.triangle_at m e.0 s e.1.inner.0 e.1.inner.1 in
    let end : origin m (rev (next m e.0)) ≡ k =
    ends_at_next m s (next m e.0) (prev m e.0) t.next_in t.next_next ∙ e.1.third in
    subst (λ (x : ℕ × ℕ). Joins (pairs_at m ks) x.0 x.1) (λ o. (e.1.second o, end o))
    (joins_directed m ks (next m e.0) (has e.0 e.1.inner.0 e.1.first))

-- so these edges are left where only they fail
pub opposite_begins : (points : List Point) (constraints : List (ℕ × ℕ)) (m : Mesh)
    → AreSoundLinks m → (v : ℕ) (ks : List ℕ) → IsMesh points (faces_of m) (outer_of m)
    → IsEmptyRound points (faces_of m) v → HasOpposite m v ks
    → AllPassBut points (faces_of m) constraints (pairs_at m ks)
opposite_begins points constraints m s v ks shape empty has =
    opposite_left points (faces_of m) (outer_of m) constraints (pairs_at m ks) v shape empty
    (opposite_joined m s v ks has)
