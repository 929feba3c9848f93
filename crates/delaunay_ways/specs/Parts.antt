-- Labels of free faces, by which chains of positions join them.
use Rattle.std.specs.Prelude.{◌≡◌, ◌⊎◌, ◌↔◌, ◌+◌, ◌*◌, ◌<◌, ◌++◌, ◌∷◌, [], ℕ, Bool, List}
use Rattle.std.specs.Prelude.{Option, None, Some, IsTrue, length, Contains, slice_index_or, slice_set}
use Rattle.std.specs.List.{count_by}
use Rattle.std.specs.Prelude.{false, true}
use Rattle.plane.specs.{Fraction, InCorners, Triangulation, vertex}
use Rattle.plane_theorems.specs.{face_at, Ways.Chains.IsJoined, Ways.Links.IsLinked}

-- the label with an index, if there is one
abbrev pub label_at : List (Option ℕ) → ℕ → Option ℕ
label_at labels i = slice_index_or labels i None

-- the n-th inner face is free, and has p in its closed triangle
abbrev pub IsInFreeFace : Triangulation → (ℕ → Bool) → ℕ → Fraction → Type 0
IsInFreeFace t free n p = (n < length t.faces) × IsTrue (free n)
    × InCorners t (face_at t n).a (face_at t n).b (face_at t n).c p

-- labels of faces by their index, with the outer face at 0: those of free faces, by which two of
-- them have the same exactly where chains join their positions; 0, 1, .. as they come first
pub record AreLabels (t : Triangulation) (free : ℕ → Bool) (labels : List (Option ℕ)) : Type 0 where
  pub count : length labels ≡ length t.faces + 1
  pub outer : label_at labels 0 ≡ None
  pub closed : (n : ℕ) → n < length t.faces → ¬ IsTrue (free n) → label_at labels (n + 1) ≡ None
  pub labelled : (n : ℕ) → n < length t.faces → IsTrue (free n)
      → (l : ℕ) × (label_at labels (n + 1) ≡ Some l)
  pub joined : (m n : ℕ) (p q : Fraction) → IsInFreeFace t free m p → IsInFreeFace t free n q
      → IsJoined t free p q ↔ (label_at labels (m + 1) ≡ label_at labels (n + 1))
  pub in_turn : (i k l : ℕ) → label_at labels i ≡ Some l → k < l
      → (j : ℕ) × (j < i) × (label_at labels j ≡ Some k)

-- ---- labels of vertices, as a flood gives them
-- labels below n: vertices with the same are joined; one that is linked with a vertex has its label
-- too, unless the flood has yet to go on from it, which has the last label
pub record IsFlood (t : Triangulation) (free : ℕ → Bool) (labels : List (Option ℕ))
    (left : List ℕ) (n : ℕ) : Type 0 where
  pub count : length labels ≡ length t.points
  pub below : (v k : ℕ) → label_at labels v ≡ Some k → k < n
  pub same : (v w k : ℕ) → label_at labels v ≡ Some k → label_at labels w ≡ Some k
      → IsJoined t free (vertex t v) (vertex t w)
  pub followed : (v w k : ℕ) → label_at labels v ≡ Some k → IsLinked t free v w
      → Contains left v ⊎ (label_at labels w ≡ Some k)
  pub last : (v k : ℕ) → Contains left v → n ≡ k + 1 → label_at labels v ≡ Some k

-- no label is lost
abbrev pub KeepsLabels : List (Option ℕ) → List (Option ℕ) → Type 0
KeepsLabels labels labels' = (v k : ℕ) → label_at labels v ≡ Some k → label_at labels' v ≡ Some k

-- vertex v has a label, or gets this one
pub data GivesLabel (labels : List (Option ℕ)) (left : List ℕ) (v label : ℕ)
    (labels' : List (Option ℕ)) (left' : List ℕ) : Type 0 where
  had : (k : ℕ) → label_at labels v ≡ Some k → labels' ≡ labels → left' ≡ left
      → GivesLabel labels left v label labels' left'
  new : label_at labels v ≡ None → labels' ≡ slice_set labels v (Some label)
      → left' ≡ left ++ v ∷ [] → GivesLabel labels left v label labels' left'

-- what a flood has to do at most: 2 for each vertex with no label, and 1 for each that is left
abbrev pub has_none : Option ℕ → Bool
has_none None = true
has_none (Some l) = false

abbrev pub work_of : List (Option ℕ) → List ℕ → ℕ
work_of labels left = 2 * count_by has_none labels + length left

-- a flood has gone on from all vertices that it labelled
abbrev pub HasFlooded : Triangulation → (ℕ → Bool) → List (Option ℕ) → List ℕ → ℕ → Type 0
HasFlooded t free labels left n = IsFlood t free labels left n × (left ≡ [])

-- vertex v got the next label, and so did all that links join with it
pub record Floods (t : Triangulation) (free : ℕ → Bool) (labels : List (Option ℕ)) (v count : ℕ)
    (labels' : List (Option ℕ)) (left' : List ℕ) (count' : ℕ) : Type 0 where
  pub flooded : HasFlooded t free labels' left' count'
  pub kept : KeepsLabels labels labels'
  pub here : label_at labels' v ≡ Some count
  pub more : count' ≡ count + 1

-- the label of a face is that of its first corner, or there is none since it is not free
pub record LabelsFace (t : Triangulation) (free : ℕ → Bool) (labels labels' : List (Option ℕ))
    (n : ℕ) (count count' : ℕ) (label : Option ℕ) : Type 0 where
  pub flood : IsFlood t free labels' [] count'
  pub kept : KeepsLabels labels labels'
  pub closed : ¬ IsTrue (free n) → (label ≡ None) × (count' ≡ count)
  pub labelled : IsTrue (free n) → (l : ℕ) × (label ≡ Some l)
      × (label_at labels' (face_at t n).a ≡ Some l)
      × (((l < count) × (count' ≡ count)) ⊎ ((l ≡ count) × (count' ≡ count + 1)))
