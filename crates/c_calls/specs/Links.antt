-- What handles of a mesh say, in the numbers that C is told.
use Rattle.std.specs.Prelude.{◌≡◌, ◌⊎◌, ◌/◌, ◌≤◌, ℕ, List, length, map, Contains}
use Rattle.std.specs.Borrow.{Bor}
use Rattle.half_edge_links.specs.{face, MAX_ELEMENTS, next, origin, prev, rev}
use Rattle.{delaunay_legalization.specs.State.State, delaunay_legalization.specs.state_of}
use Rattle.delaunay_location.specs.{EdgeIntersection, EdgeOverlap, Intersection, VertexIntersection}
use Rattle.{c_calls.specs.Queries.face_number, half_edge_dcel.specs.Contents}
use Rattle.c_calls.specs.declared.lines.TheConstants.{ACROSS_EDGE, ALONG_EDGE, AT_VERTEX}
use Rattle.c_calls.specs.{declared.raw.RawFace.RawFace, declared.raw.RawMeeting.RawMeeting}

-- the mark of undirected edge k, where these are constraints: 1 if it is one of them, and else 0
abbrev pub IsMarkOf : List ℕ → ℕ → ℕ → Type 0
IsMarkOf constraints k mark =
    ((mark ≡ 1) × Contains constraints k) ⊎ ((mark ≡ 0) × ¬ Contains constraints k)

module _ {V D U F : Type 0} (constraints : List U → List ℕ) (s : State V D U F) where
  -- where directed edge h goes, and its mark
  pub record IsRawEdge (h from to mark : ℕ) : Type 0 where
    pub starts : from ≡ origin s.mesh h
    pub ends : to ≡ origin s.mesh (rev h)
    pub marked : IsMarkOf (constraints s.undirected) (h / 2) mark

  -- where directed edge h starts, which face is on its right, and its mark
  pub record IsRawSide (h from beyond mark : ℕ) : Type 0 where
    pub starts : from ≡ origin s.mesh h
    pub right : beyond ≡ face_number (face s.mesh (rev h))
    pub marked : IsMarkOf (constraints s.undirected) (h / 2) mark

  -- the face on the left of directed edge e, from where that starts
  pub record IsRawFace (e : ℕ) (f : RawFace) : Type 0 where
    pub first : IsRawSide e f.corner_0 f.neighbor_2 f.constrained_2
    pub second : IsRawSide (next s.mesh e) f.corner_1 f.neighbor_0 f.constrained_0
    pub third : IsRawSide (prev s.mesh e) f.corner_2 f.neighbor_1 f.constrained_1

  -- directed edge h, met in this way
  pub record IsMetEdge (h kind : ℕ) (m : RawMeeting) : Type 0 where
    pub named : m.kind ≡ kind
    pub edge : IsRawEdge h m.from m.to m.constrained

-- what a line meets
abbrev pub IsRawMeeting : {V D U F : Type 0} → (List U → List ℕ) → Intersection V D U F
    → RawMeeting → Type 0
IsRawMeeting constraints (EdgeIntersection e) m =
    IsMetEdge constraints (state_of e.dcel.now) e.index ACROSS_EDGE m
IsRawMeeting constraints (VertexIntersection v) m =
    m ≡ record { kind = AT_VERTEX; from = v.index; to = v.index; constrained = 0 }
IsRawMeeting constraints (EdgeOverlap e) m =
    IsMetEdge constraints (state_of e.dcel.now) e.index ALONG_EDGE m

-- the indexes of parts of a mesh
abbrev pub indexes_in : {V D U F : Type 0} → List (Bor (Contents V D U F) × ℕ) → List ℕ
indexes_in parts = map (λ p. p.1) parts

-- there are no more of them than a mesh can have
abbrev pub AreFew : {A : Type 0} → List A → Type 0
AreFew xs = length xs ≤ MAX_ELEMENTS
