-- Which polygons a face is in: those whose sides are crossed an odd number of times on each way to
-- it from outside.
use Rattle.std.specs.Prelude.{◌≡◌, ◌≢◌, ◌+◌, ◌/◌, ◌<◌, [], ◌∷◌, ℕ, Bool, false, List}
use Rattle.std.specs.Prelude.{length, map, slice_index_or}
use Rattle.std.specs.Prelude.{cond, nat_eq}
use Rattle.std.specs.Prelude.{Option, Some, None}
use Rattle.{delaunay_extensions.specs.Leads, half_edge_links.specs.Mesh}
use Rattle.drawing_faces.specs.{declared.borders.Borders.Borders, Parity.either, Parity.has}
use Rattle.drawing_faces.specs.declared.polygons.PolygonsOfFaces.{PolygonsOfFaces}

-- the list of this index among lists
abbrev pub list_at : List (List ℕ) → ℕ → List ℕ
list_at lists i = slice_index_or lists i []

-- the label of face f, if it has one
abbrev pub label_at : List (Option ℕ) → ℕ → Option ℕ
label_at labels f = slice_index_or labels f None

-- the list of a face by its label
abbrev pub list_of : List (List ℕ) → Option ℕ → List ℕ
list_of lists (Some i) = list_at lists i
list_of lists None = []

abbrev pub labelled : List (Option ℕ) → List (List ℕ) → ℕ → List ℕ
labelled labels lists f = list_of lists (label_at labels f)

-- the polygons that face f is in
abbrev pub polygons_in : PolygonsOfFaces → ℕ → List ℕ
polygons_in p f = labelled p.labels.items (map (λ v. v.items) p.lists.items) f

-- the polygons of which edge e is a side an odd number of times
abbrev pub sides_in : Borders → ℕ → List ℕ
sides_in b e = list_at (map (λ v. v.items) b.lists.items) e

-- whether edge e and number k are these two
abbrev pub is_pair : ℕ → ℕ → ℕ → ℕ → Bool
is_pair edge polygon e k = cond (nat_eq edge e) (nat_eq polygon k) false

-- whether somebody who crosses these directed edges crosses sides of polygon k an odd number of
-- times, where each undirected edge has the polygons of which it is a side an odd number of times
abbrev pub is_odd : (ℕ → List ℕ) → ℕ → List ℕ → Bool
is_odd borders k [] = false
is_odd borders k (h ∷ hs) = either (has (borders (h / 2)) k) (is_odd borders k hs)

-- these polygons of each face are those whose sides are crossed an odd number of times on each way
-- to it from the outer face
pub record AreWithin (m : Mesh) (borders : ℕ → List ℕ) (polygons : ℕ → List ℕ) : Type 0 where
  pub each : (f k : ℕ) (hs : List ℕ) → Leads m hs 0 f
      → has (polygons f) k ≡ is_odd borders k hs

-- two ways lead from the outer face to one face, of which just one crosses the sides of a polygon
-- an odd number of times
pub record AreUneven (m : Mesh) (borders : ℕ → List ℕ) : Type 0 where
  pub polygon : ℕ
  pub face : ℕ
  pub one : List ℕ
  pub other : List ℕ
  pub one_leads : Leads m one 0 face
  pub other_leads : Leads m other 0 face
  pub differ : is_odd borders polygon one ≢ is_odd borders polygon other
