-- A search for the polygons that each face is in: from face to face across edges.
use Rattle.std.specs.Prelude.{◌≡◌, ◌≢◌, ◌+◌, ◌*◌, ◌/◌, ◌<◌, ◌≤◌, ℕ, Bool, true, false, List}
use Rattle.std.specs.Prelude.{length, map, Option, Some, None}
use Rattle.std.specs.List.{count_by}
use Rattle.half_edge_links.specs.{face, Mesh, rev}
use Rattle.delaunay_extensions.specs.{Leads}
use Rattle.drawing_faces.specs.Parity.{either, has, IsDifference}
use Rattle.drawing_faces.specs.Polygons.{is_odd, label_at, labelled, list_at}
use Rattle.drawing_faces.specs.declared.polygons.PolygonsOfFaces.{PolygonsOfFaces}

-- the polygons in a list are those whose sides some way from the outer face to face f crosses an
-- odd number of times
pub record HasParities (m : Mesh) (borders : ℕ → List ℕ) (f : ℕ) (polygons : List ℕ) : Type 0 where
  pub way : List ℕ
  pub leads : Leads m way 0 f
  pub odd : (k : ℕ) → has polygons k ≡ is_odd borders k way

-- each face with a label has a list, by such a way; the outer face has one of none
pub record IsSearch (m : Mesh) (borders : ℕ → List ℕ) (labels : List (Option ℕ))
    (lists : List (List ℕ)) : Type 0 where
  pub size : length labels ≡ length m.face_edges + 1
  pub outer : label_at labels 0 ≡ Some 0
  pub bare : (k : ℕ) → has (list_at lists 0) k ≡ false
  pub within : (f i : ℕ) → label_at labels f ≡ Some i → i < length lists
  pub ways : (f i : ℕ) → label_at labels f ≡ Some i → HasParities m borders f (list_at lists i)

-- face f has a label
abbrev pub IsTold : List (Option ℕ) → ℕ → Type 0
IsTold labels f = label_at labels f ≢ None

-- a search from a face with a label can go on across directed edge h
pub record IsOpen (m : Mesh) (labels : List (Option ℕ)) (h : ℕ) : Type 0 where
  pub within : h < length m.half_edges
  pub here : IsTold labels (face m h)
  pub there : label_at labels (face m (rev h)) ≡ None

-- what is left to do: faces with no label, and edges to cross
abbrev pub has_none : Option ℕ → Bool
has_none None = true
has_none (Some i) = false

abbrev pub work_left : List (Option ℕ) → List ℕ → ℕ
work_left labels due = 4 * count_by has_none labels + length due

-- across directed edge h the polygons of which it is a side change, and no others
abbrev pub FitsAcross : Mesh → (ℕ → List ℕ) → List (Option ℕ) → List (List ℕ) → ℕ → Type 0
FitsAcross m borders labels lists h = IsDifference (labelled labels lists (face m h))
    (borders (h / 2)) (labelled labels lists (face m (rev h)))

-- lists were added to others, and one of all has what is in an earlier one or among these numbers,
-- and not in both
pub record GoesOn (lists : List (List ℕ)) (i : ℕ) (numbers : List ℕ) (j : ℕ)
    (lists' : List (List ℕ)) : Type 0 where
  pub kept : (k : ℕ) → k < length lists → list_at lists' k ≡ list_at lists k
  pub more : length lists ≤ length lists'
  pub within : j < length lists'
  pub differs : IsDifference (list_at lists i) numbers (list_at lists' j)

-- no edge of a face with a label leads to one with none
abbrev pub IsClosedAt : Mesh → List (Option ℕ) → ℕ → Type 0
IsClosedAt m labels h = IsTold labels (face m h) → IsTold labels (face m (rev h))

abbrev pub IsClosed : Mesh → List (Option ℕ) → Type 0
IsClosed m labels = (h : ℕ) → h < length m.half_edges → IsClosedAt m labels h

-- the lists of faces fit each other across each edge of a face with a label
abbrev pub AreEvenAt : Mesh → (ℕ → List ℕ) → List (Option ℕ) → List (List ℕ) → ℕ → Type 0
AreEvenAt m borders labels lists h = IsTold labels (face m h)
    → FitsAcross m borders labels lists h

abbrev pub AreEven : Mesh → (ℕ → List ℕ) → List (Option ℕ) → List (List ℕ) → Type 0
AreEven m borders labels lists = (h : ℕ) → h < length m.half_edges
    → AreEvenAt m borders labels lists h

-- they do not across some edge, by some polygon
pub record IsUnevenAt (m : Mesh) (borders : ℕ → List ℕ) (labels : List (Option ℕ))
    (lists : List (List ℕ)) : Type 0 where
  pub edge : ℕ
  pub polygon : ℕ
  pub within : edge < length m.half_edges
  pub told : IsTold labels (face m edge)
  pub differ : has (labelled labels lists (face m (rev edge))) polygon
      ≢ either (has (labelled labels lists (face m edge)) polygon)
      (has (borders (edge / 2)) polygon)

-- the lists that a search has
abbrev pub lists_in : PolygonsOfFaces → List (List ℕ)
lists_in p = map (λ v. v.items) p.lists.items
