-- Which reply a command may get, and what it makes of the stage.
use Rattle.std.specs.Prelude.{◌≡◌, ◌≢◌, ◌⊎◌, ◌↔◌, ◌<◌, ◌+◌, ◌*◌, [], ◌∷◌}
use Rattle.std.specs.Prelude.{ℕ, ℤ, List, Some, length, slice_get, All, AllPairs, Contains, ⊤}
use Rattle.plane.specs.{Adds, Appends, AreNeighboursOn, CanAdd, DifferInPosition, EachPairOnce, gap}
use Rattle.plane.specs.{InRange, IsEdge, IsFace, IsLineList, IsLocation, IsNearest, IsVertex, Item}
use Rattle.plane.specs.{Joins, no_triangulation, on_edge, on_face, on_vertex, outside_hull, Point}
use Rattle.plane.specs.{points_of, Releases, Removes, Replaces, SamePairs, Triangulation, vertex}
use Rattle.{plane.specs.whole, triangulate_run.specs.declared.command.Command.Command}
use Rattle.delaunay_core.specs.{OutOfIndexes, OutOfMemory, Point2, TooLarge}
use Rattle.triangulate_run.specs.{Corners.ComesFirst, declared.command.Coordinates.Coordinates}
use Rattle.triangulate_run.specs.{Points.IsListed, Points.IsListedSite, Stage.position, Stage.Stage}
use Rattle.triangulate_run.specs.Reply.{line_text, path_text, reply_text}
use Rattle.triangulate_run.specs.declared.command.Command.TheVariants.{Constrain, Counts, Faces}
use Rattle.triangulate_run.specs.declared.command.Command.TheVariants.{Insert, Line, Locate}
use Rattle.triangulate_run.specs.declared.command.Command.TheVariants.{Nearest, Release, Remove}
use Rattle.triangulate_run.specs.declared.corners.Corners.{Corners}
use Rattle.triangulate_run.specs.{declared.points.SheetPoint.SheetPoint, declared.reply.Reply.Reply}
use Rattle.triangulate_run.specs.declared.reply.Reply.TheVariants as reply

-- the point with these coordinates
abbrev pub point_at : Coordinates → Point2 ℤ
point_at c = record { x = c.x; y = c.y }

-- a vertex may be inserted at p, and none is there
pub record IsNewSite (points : List SheetPoint) (s : Stage) (p : Point2 ℤ) : Type 0 where
  pub in_range : InRange (position p)
  pub site : IsListedSite points (position p)
  pub fresh : All (DifferInPosition position p) s.plain.vertices

-- the most directed edges that a mesh has
abbrev pub most_elements : ℕ
most_elements = 4294967295

-- one more vertex would need indexes that the mesh doesn't have
abbrev IsFull : Stage → Type 0
IsFull s = most_elements < 6 * (length s.plain.vertices + 1)

-- p is a new site, and takes the next index
pub record AddsVertex (points : List SheetPoint) (old : Stage) (p : Point2 ℤ) (i : ℕ)
    (new : Stage) : Type 0 where
  pub new_site : IsNewSite points old p
  pub room : ¬ IsFull old
  pub index : i ≡ length old.plain.vertices
  pub appended : Appends position old.plain new.plain p

-- p is where vertex i is; faces and edges stay
pub record KeepsVertex (points : List SheetPoint) (old : Stage) (p : Point2 ℤ) (i : ℕ)
    (new : Stage) : Type 0 where
  pub in_range : InRange (position p)
  pub site : IsListedSite points (position p)
  pub replaced : Replaces position old.plain new.plain i p
  pub same : new.triangulation ≡ old.triangulation

-- what an insertion at p may be answered, and what it leaves: a vertex there, or the old stage and
-- why
abbrev pub MayInsert : List SheetPoint → Stage → Point2 ℤ → Reply → Stage → Type 0
MayInsert points old p (reply.Vertex i) new =
    KeepsVertex points old p i new ⊎ AddsVertex points old p i new
MayInsert points old p (reply.Refused TooLarge) new = (¬ InRange (position p)) × (new ≡ old)
MayInsert points old p reply.UnknownPoint new =
    InRange (position p) × (¬ IsListedSite points (position p)) × (new ≡ old)
MayInsert points old p (reply.Refused OutOfIndexes) new =
    IsNewSite points old p × IsFull old × (new ≡ old)
MayInsert points old p (reply.Refused OutOfMemory) new =
    IsNewSite points old p × (¬ IsFull old) × (new ≡ old)
MayInsert points old p _ new = ⊥

-- vertex i goes, which is p, and the last vertex takes its index
pub record RemovesVertex (old : Stage) (i : ℕ) (p : Point2 ℤ) (new : Stage) : Type 0 where
  pub was : slice_get old.plain.vertices i ≡ Some p
  pub removed : Removes position old.plain new.plain i

-- there is a vertex with index i
abbrev HasVertex : Stage → ℕ → Type 0
HasVertex s i = i < length s.plain.vertices

-- what a removal of vertex i may be answered, and what it leaves: it gone, or the old stage and why
abbrev pub MayRemove : Stage → ℕ → Reply → Stage → Type 0
MayRemove old i (reply.Removed x y) new = RemovesVertex old i (record { x = x; y = y }) new
MayRemove old i reply.NoVertex new = (¬ HasVertex old i) × (new ≡ old)
MayRemove old i (reply.Refused OutOfMemory) new = HasVertex old i × (new ≡ old)
MayRemove old i _ new = ⊥

-- the corners are a face in left-turning order, the least index first
pub record IsFaceFromLeast (t : Triangulation) (c : Corners) : Type 0 where
  pub face : IsFace t c.first c.second c.third
  pub before_second : c.first < c.second
  pub before_third : c.first < c.third

-- p is there
abbrev pub IsThere : Triangulation → Point → Reply → Type 0
IsThere t p (reply.Vertex i) = IsLocation t (whole p) (on_vertex i)
IsThere t p (reply.Edge i j) = IsLocation t (whole p) (on_edge i j) × (i < j)
IsThere t p (reply.Face c) =
    IsLocation t (whole p) (on_face c.first c.second c.third) × IsFaceFromLeast t c
IsThere t p reply.Outside = (i : ℕ) × (j : ℕ) × IsLocation t (whole p) (outside_hull i j)
IsThere t p reply.NoTriangulation = IsLocation t (whole p) no_triangulation
IsThere t p _ = ⊥

-- where p is, if it is in the list
abbrev pub MayLocate : List SheetPoint → Triangulation → Point → Reply → Type 0
MayLocate points t p reply.UnknownPoint = ¬ IsListed points p
MayLocate points t p r = IsListed points p × IsThere t p r

-- d is the squared distance from p to a vertex that none is nearer than
pub record IsVertexDistance (t : Triangulation) (p : Point) (d : ℤ) : Type 0 where
  pub nearest : ℕ
  pub is_nearest : IsNearest t (whole p) nearest
  pub distance : d ≡ gap (whole p) (vertex t nearest)

-- how far the nearest vertex is from p, if p is in the list
abbrev pub MayMeasure : List SheetPoint → Triangulation → Point → Reply → Type 0
MayMeasure points t p reply.UnknownPoint = ¬ IsListed points p
MayMeasure points t p (reply.Distance d) = IsListed points p × IsVertexDistance t p d
MayMeasure points t p reply.NoNeighbor = IsListed points p × ((i : ℕ) → ¬ IsVertex t i)
MayMeasure points t p _ = ⊥

-- n is the number of pairs, an order of the ends apart
pub record AreSoMany (pairs : List (ℕ × ℕ)) (n : ℕ) : Type 0 where
  pub different : List (ℕ × ℕ)
  pub same : SamePairs pairs different
  pub once : EachPairOnce different
  pub number : n ≡ length different

-- the numbers of vertices, edges, faces and constraints that stand
pub record AreCounts (s : Stage) (vertices edges faces constraints : ℕ) : Type 0 where
  pub vertices_are : vertices ≡ length s.plain.vertices
  pub edges_are : AreSoMany s.triangulation.edges edges
  pub faces_are : faces ≡ length s.triangulation.faces
  pub constraints_are : AreSoMany s.plain.constraints constraints

-- a count is answered by the four numbers alone
abbrev pub MayCount : Stage → Reply → Type 0
MayCount s (reply.Counts v e f c) = AreCounts s v e f c
MayCount s _ = ⊥

-- each face once, sorted
pub record ListsFaces (t : Triangulation) (list : List Corners) : Type 0 where
  pub faces : (c : Corners) → Contains list c ↔ IsFaceFromLeast t c
  pub sorted : AllPairs ComesFirst list

-- a listing is answered by each face once, sorted, or by a refusal of memory
abbrev pub MayList : Triangulation → Reply → Type 0
MayList t (reply.Faces list) = ListsFaces t list.items
MayList t (reply.Refused OutOfMemory) = ⊤
MayList t _ = ⊥

-- both are vertices
abbrev pub AreVertices : Stage → ℕ → ℕ → Type 0
AreVertices s i j = HasVertex s i × HasVertex s j

-- nothing is to be joined: the two are one, or a constraint is in the way
abbrev HasNoPath : Stage → ℕ → ℕ → Type 0
HasNoPath s i j = (i ≡ j) ⊎ (¬ CanAdd position s.plain i j)

-- why two vertices are not joined. Where there is nothing to join, memory may be refused for the
-- first constraint alone
abbrev pub MayRefuse : Stage → ℕ → ℕ → Reply → Stage → Type 0
MayRefuse old i j reply.NoVertex new = (¬ AreVertices old i j) × (new ≡ old)
MayRefuse old i j reply.NoPath new = AreVertices old i j × HasNoPath old i j × (new ≡ old)
MayRefuse old i j (reply.Refused OutOfMemory) new =
    AreVertices old i j × ((old.plain.constraints ≡ []) ⊎ (¬ HasNoPath old i j)) × (new ≡ old)
MayRefuse old i j _ new = ⊥

-- from i to j by these pairs, each of two vertices next to one another on what is left of the
-- segment
abbrev pub LeadsTo : List Point → ℕ → ℕ → List (ℕ × ℕ) → Type 0
LeadsTo points i j [] = i ≡ j
LeadsTo points i j (p ∷ path) =
    (p.0 ≡ i) × AreNeighboursOn position points i j i p.1 × LeadsTo points p.1 j path

-- the vertices on the segment of i and j are joined, each to the next, and these pairs lead from i
-- to j
pub record ConstrainsPath (old : Stage) (i j : ℕ) (path : List (ℕ × ℕ)) (new : Stage) : Type 0 where
  pub apart : i ≢ j
  pub adds : Adds position old.plain new.plain i j
  pub leads : LeadsTo (points_of position old.plain) i j path

-- what a constraint of i and j may be answered, and what it leaves: a path, or the old stage and
-- why
abbrev pub MayJoin : Stage → ℕ → ℕ → List ℕ → Stage → Type 0
MayJoin old i j text new =
    ((path : List (ℕ × ℕ)) × ConstrainsPath old i j path new × (text ≡ path_text path))
    ⊎ ((reply : Reply) × MayRefuse old i j reply new × (text ≡ reply_text reply))

-- what a release of i and j may be answered, and what it leaves: it released, or the old stage and
-- why
abbrev pub MayRelease : Stage → ℕ → ℕ → Reply → Stage → Type 0
MayRelease old i j reply.NoVertex new = (¬ AreVertices old i j) × (new ≡ old)
MayRelease old i j reply.NoEdge new =
    AreVertices old i j × (¬ IsEdge old.triangulation i j) × (new ≡ old)
MayRelease old i j reply.NotConstrained new =
    IsEdge old.triangulation i j × (¬ Joins old.plain.constraints i j)
    × (new ≡ old)
MayRelease old i j reply.Released new = Releases position old.plain new.plain i j
MayRelease old i j (reply.Refused OutOfMemory) new = Joins old.plain.constraints i j × (new ≡ old)
MayRelease old i j _ new = ⊥

-- what the way from p to q meets, if both are in the list
abbrev pub MayWalk : List SheetPoint → Triangulation → Point → Point → List ℕ → Type 0
MayWalk points t p q text =
    ((items : List Item) × IsListed points p × IsListed points q
    × IsLineList t (whole p) (whole q) items
    × (text ≡ line_text items))
    ⊎ ((¬ (IsListed points p × IsListed points q)) × (text ≡ reply_text reply.UnknownPoint))

-- the command may get the reply where old stood, and leave new. The others don't get their answers
-- so
abbrev pub MayReply : List SheetPoint → Stage → Command → Reply → Stage → Type 0
MayReply points old (Insert c) r new = MayInsert points old (point_at c) r new
MayReply points old (Remove i) r new = MayRemove old i r new
MayReply points old (Release i j) r new = MayRelease old i j r new
MayReply points old (Locate c) r new =
    MayLocate points old.triangulation (position (point_at c)) r × (new ≡ old)
MayReply points old (Nearest c) r new =
    MayMeasure points old.triangulation (position (point_at c)) r × (new ≡ old)
MayReply points old Counts r new = MayCount old r × (new ≡ old)
MayReply points old Faces r new = MayList old.triangulation r × (new ≡ old)
MayReply points old (Constrain i j) r new = ⊥
MayReply points old (Line c d) r new = ⊥

-- the command is one of those
abbrev pub IsReplied : Command → Type 0
IsReplied (Constrain i j) = ⊥
IsReplied (Line c d) = ⊥
IsReplied command = ⊤

-- the command may get the text where old stood, and leave new
abbrev pub MayAnswer : List SheetPoint → Stage → Command → List ℕ → Stage → Type 0
MayAnswer points old (Constrain i j) text new = MayJoin old i j text new
MayAnswer points old (Line c d) text new =
    MayWalk points old.triangulation (position (point_at c)) (position (point_at d)) text
    × (new ≡ old)
MayAnswer points old command text new =
    (reply : Reply) × MayReply points old command reply new × (text ≡ reply_text reply)
