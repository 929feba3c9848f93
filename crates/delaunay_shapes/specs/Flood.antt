-- A flood over the edges of a mesh: which were asked of, and which of them were found.
use Rattle.std.specs.Prelude.{◌≡◌, ◌≢◌, ◌↔◌, ◌⊎◌, ℕ, ◌*◌, ◌/◌, ◌<◌, List, [], ◌∷◌, ◌++◌, length}
use Rattle.std.specs.Prelude.{Some, Bool, true, false, All, Contains, AllPairs, slice_index_or, ◌≤◌}
use Rattle.plane.specs.{Fraction, IsEdgeIn, Location, Point}
use Rattle.half_edge_links.specs.{face, Mesh, next, origin, out_edge, prev, rev}
use Rattle.{delaunay_legalization.specs.drawn, plane_theorems.specs.IsTried}
use Rattle.delaunay_shapes.specs.InShape.{IsEdgeInShape, undirected_of}

-- the flood has asked of edge or vertex k
abbrev pub IsAsked : List Bool → ℕ → Type 0
IsAsked asked k = slice_index_or asked k false ≡ true

-- of the edges asked of, those inside were found, each once
pub record IsFlooding (Inside : ℕ → Type 0) (count : ℕ) (asked : List Bool)
    (found : List ℕ) : Type 0 where
  pub marks : length asked ≡ count
  pub once : AllPairs (λ i j. i ≢ j) found
  pub within : (k : ℕ) → Contains found k → k < count
  pub inside : (k : ℕ) → Contains found k → Inside k
  pub marked : (k : ℕ) → Contains found k → IsAsked asked k
  pub complete : (k : ℕ) → k < count → IsAsked asked k → Inside k → Contains found k

-- each edge that was asked of still is, and found edges keep their places
pub record Spreads (asked asked' : List Bool) (found found' : List ℕ) : Type 0 where
  pub kept : (k : ℕ) → IsAsked asked k → IsAsked asked' k
  pub more : List ℕ
  pub grown : found' ≡ found ++ more

-- directed edge h was asked of, and found in its other direction, if at all; those found are
-- directed
pub record Asks (Inside : ℕ → Type 0) (count : ℕ) (asked asked' : List Bool) (found found' : List ℕ)
    (h : ℕ) : Type 0 where
  pub flooding : IsFlooding Inside count asked' (undirected_of found')
  pub on : Spreads asked asked' found found'
  pub there : IsAsked asked' (h / 2)
  pub only : (g : ℕ) → Contains on.more g → g ≡ rev h

-- the edges before and after directed edge h in its loop were asked of
pub record AreAskedBeside (m : Mesh) (asked : List Bool) (h : ℕ) : Type 0 where
  pub after : IsAsked asked (next m h / 2)
  pub before : IsAsked asked (prev m h / 2)

-- so were those beside each directed edge that was found, and, where an inner face is on its other
-- side, those beside it there
pub record IsSpread (m : Mesh) (asked : List Bool) (found : List ℕ) : Type 0 where
  pub on : (h : ℕ) → Contains found h → AreAskedBeside m asked h
  pub back : (h : ℕ) → Contains found h → 0 < face m (rev h) → AreAskedBeside m asked (rev h)

-- so were those beside each of the first i directed edges found; and, for these and for those from
-- number `first` on, those in an inner face on the other side
pub record IsSpreadTo (m : Mesh) (asked : List Bool) (found : List ℕ) (first i : ℕ) : Type 0 where
  pub bound : i ≤ length found
  pub on : (j : ℕ) → j < i → AreAskedBeside m asked (slice_index_or found j 0)
  pub back : (j : ℕ) → j < length found → (j < i) ⊎ (first ≤ j)
      → 0 < face m (rev (slice_index_or found j 0))
      → AreAskedBeside m asked (rev (slice_index_or found j 0))

-- the edges beside directed edge h were asked of, and found on their other sides, if at all
pub record AsksBeside (Inside : ℕ → Type 0) (m : Mesh) (count : ℕ) (asked asked' : List Bool)
    (found found' : List ℕ) (h : ℕ) : Type 0 where
  pub flooding : IsFlooding Inside count asked' (undirected_of found')
  pub on : Spreads asked asked' found found'
  pub beside : AreAskedBeside m asked' h
  pub only : (g : ℕ) → Contains on.more g → (g ≡ rev (next m h)) ⊎ (g ≡ rev (prev m h))

-- where any edge is inside, one of the first is
pub record IsBegunBy (Inside : ℕ → Type 0) (count : ℕ) (starts : List ℕ) : Type 0 where
  pub begun : (k : ℕ) → k < count → Inside k → (j : ℕ) × Contains starts j × Inside j

-- the flood has asked of such edges
pub record HasBegunWith (Inside : ℕ → Type 0) (count : ℕ) (asked : List Bool) : Type 0 where
  pub starts : List ℕ
  pub begun : IsBegunBy Inside count starts
  pub within : All (λ k. k < count) starts
  pub each : (k : ℕ) → Contains starts k → IsAsked asked k

-- where any of the edges that are tried first from a location is inside, one of the first is
pub record HasBegun (Shape : Fraction → Type 0) (points : List Point) (m : Mesh) (starts : List ℕ)
    (l : Location) : Type 0 where
  pub begun : (a b : ℕ) → IsTried (drawn points m) l a b → IsEdgeIn Shape (drawn points m) a b →
      (k : ℕ) × Contains starts k × IsEdgeInShape Shape points m k

-- directed edge h is one of these edges, and its start names it
pub record IsNamedIn (m : Mesh) (edges : List ℕ) (v h : ℕ) : Type 0 where
  pub names : out_edge m v ≡ Some h
  pub listed : Contains edges (h / 2)

-- the vertices in the shape that name one of these edges, each once
pub record AreNamedIn (Inside : ℕ → Type 0) (m : Mesh) (edges found : List ℕ) : Type 0 where
  pub once : AllPairs (λ i j. i ≢ j) found
  pub exact : (v : ℕ) → Contains found v ↔ (((h : ℕ) × IsNamedIn m edges v h) × Inside v)

-- the start of directed edge h names it, and is in the shape
abbrev pub IsStartKept : (ℕ → Type 0) → Mesh → ℕ → Type 0
IsStartKept Inside m h = (out_edge m (origin m h) ≡ Some h) × Inside (origin m h)

-- the start of directed edge h was put at the end of what is found, if it is kept
abbrev pub KeepsStart : (ℕ → Type 0) → Mesh → List ℕ → List ℕ → ℕ → Type 0
KeepsStart Inside m found found' h = (IsStartKept Inside m h × (found' ≡ found ++ origin m h ∷ []))
    ⊎ ((¬ IsStartKept Inside m h) × (found' ≡ found))

-- the same of both directions of the edge of h, one after the other
pub record KeepsEnds (Inside : ℕ → Type 0) (m : Mesh) (found found' : List ℕ)
    (h : ℕ) : Type 0 where
  pub between : List ℕ
  pub from : KeepsStart Inside m found between (2 * (h / 2))
  pub to : KeepsStart Inside m between found' (rev (2 * (h / 2)))
