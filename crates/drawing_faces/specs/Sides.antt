-- The faces beside the sides of holes.
use Rattle.std.specs.Prelude.{◌≡◌, ◌<◌, ◌≤◌, [], ◌∷◌, ◌++◌, ℕ, ℤ, List, length, map, All}
use Rattle.plane.specs.{across, along, at_vertex, Fraction, IsLineList, Item, whole}
use Rattle.half_edge_links.specs.{face, origin, rev}
use Rattle.{delaunay_core.specs.Point2, drawing_faces.specs.Names.position}
use Rattle.delaunay_legalization.specs.{point_at, State.State, triangulation_of}

-- of what a way meets, the edges along which it goes, in its direction: the faces on their left
abbrev pub AreOnLeft : {V D U F : Type 0} → State V D U F → List Item → List ℕ → Type 0
AreOnLeft s [] faces = faces ≡ []
AreOnLeft s (at_vertex i ∷ items) faces = AreOnLeft s items faces
AreOnLeft s (across i j ∷ items) faces = AreOnLeft s items faces
AreOnLeft s (along i j ∷ items) faces = (h : ℕ) × (h < length s.directed)
    × (origin s.mesh h ≡ i) × (origin s.mesh (rev h) ≡ j)
    × ((rest : List ℕ) × (faces ≡ face s.mesh h ∷ rest) × AreOnLeft s items rest)

-- they come behind others
pub record AddsOnLeft {V D U F : Type 0} (s : State V D U F) (items : List Item)
    (old new : List ℕ) : Type 0 where
  pub here : List ℕ
  pub on_left : AreOnLeft s items here
  pub faces : new ≡ old ++ here
  pub within : All (λ f. f ≤ length s.faces) here

module _ {D U F : Type 0} (s : State (Point2 ℤ) D U F) where
  -- where a vertex is
  abbrev pub vertex_at : ℕ → Fraction
  vertex_at i = whole (point_at (map position s.vertices) i)

  -- what the way from one vertex to another meets
  abbrev pub MeetsBetween : ℕ × ℕ → List Item → Type 0
  MeetsBetween e items =
      IsLineList (triangulation_of position s) (vertex_at e.0) (vertex_at e.1) items

  -- what the way along each of these sides meets, one after another, and all faces on the left
  abbrev pub AreBeside : List (ℕ × ℕ) → List ℕ → Type 0
  AreBeside [] faces = faces ≡ []
  AreBeside (e ∷ es) faces = (items : List Item) × MeetsBetween e items
      × ((here : List ℕ) × AreOnLeft s items here
      × ((rest : List ℕ) × (faces ≡ here ++ rest) × AreBeside es rest))

  -- they come behind others
  pub record AddsBeside (sides : List (ℕ × ℕ)) (old new : List ℕ) : Type 0 where
    pub here : List ℕ
    pub beside : AreBeside sides here
    pub faces : new ≡ old ++ here
    pub within : All (λ f. f ≤ length s.faces) here
