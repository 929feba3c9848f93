-- A search for the faces that are reached past no constraint.
use Rattle.std.specs.Prelude.{◌≡◌, ◌⊎◌, ◌+◌, ◌*◌, ◌<◌, ℕ, not, nat_eq, List, length}
use Rattle.std.specs.Prelude.{Contains, slice_index_or, slice_set}
use Rattle.std.specs.List.{count_by}
use Rattle.half_edge_links.specs.{face, Mesh, rev}
use Rattle.delaunay_extensions.specs.{IsSideOf, weight}
use Rattle.drawing_faces.specs.Kept.{IsOpenFace}

-- face f was reached: a 0 stands at its place
abbrev pub IsReached : List ℕ → ℕ → Type 0
IsReached layers f = slice_index_or layers f 1 ≡ 0

-- those of some edges that are no constraints were put into a list
pub record ListsFree (constraints : List ℕ) (Which : ℕ → Type 0) (due due' : List ℕ) :
    Type 0 where
  pub kept : (h : ℕ) → Contains due h → Contains due' h
  pub there : (h : ℕ) → Which h → weight constraints h ≡ 0 → Contains due' h
  pub only : (h : ℕ) → Contains due' h
      → Contains due h ⊎ (Which h × (weight constraints h ≡ 0))

-- a face is reached, and its edges are listed, unless it was reached before
pub record Enters (m : Mesh) (constraints : List ℕ) (f : ℕ) (reached due reached' due' : List ℕ) :
    Type 0 where
  pub marks : reached' ≡ slice_set reached f 0
  pub before : IsReached reached f → due' ≡ due
  pub first : ¬ IsReached reached f → ListsFree constraints (IsSideOf m f) due due'

-- a search from the outer face and from some others: what was reached is open, and free edges that
-- lead on from it are listed, or lead to what was reached, or to a face that comes next
pub record IsFlood (m : Mesh) (constraints starts : List ℕ) (IsNext : ℕ → Type 0)
    (reached due : List ℕ) : Type 0 where
  pub size : length reached ≡ length m.face_edges + 1
  pub outer : IsReached reached 0
  pub sound : (f : ℕ) → IsReached reached f → IsOpenFace m constraints starts f
  pub leading : (h : ℕ) → Contains due h
      → (h < length m.half_edges) × IsReached reached (face m h) × (weight constraints h ≡ 0)
  pub done : (h : ℕ) → h < length m.half_edges → IsReached reached (face m h)
      → weight constraints h ≡ 0
      → Contains due h ⊎ (IsReached reached (face m (rev h)) ⊎ IsNext (face m (rev h)))

-- what is left to do: faces to reach and edges to cross
abbrev pub flood_left : List ℕ → List ℕ → ℕ
flood_left reached due = 4 * count_by (λ n. not (nat_eq n 0)) reached + length due

-- these faces are those that are open
pub record MarkOpenFaces (m : Mesh) (constraints starts reached : List ℕ) : Type 0 where
  pub size : length reached ≡ length m.face_edges + 1
  pub sound : (f : ℕ) → IsReached reached f → IsOpenFace m constraints starts f
  pub complete : (f : ℕ) → IsOpenFace m constraints starts f → IsReached reached f
