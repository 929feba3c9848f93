-- What insertions of many vertices make of a triangulation.
use Rattle.std.specs.Prelude.{◌≡◌, ◌≢◌, ◌⊎◌, ◌↔◌, ◌+◌, ◌*◌, ◌<◌, [], ◌∷◌, ◌++◌, ℕ, List, length}
use Rattle.std.specs.Prelude.{map, Option, None, Some, Result, Ok, Err, IfOk, IfErr, IsErrOf, All}
use Rattle.std.specs.Prelude.{slice_get}
use Rattle.plane.specs.{InRange, insert, Point, Run}
use Rattle.delaunay_core.specs.{InsertionError, OutOfIndexes, OutOfMemory, TooLarge}
use Rattle.delaunay_legalization.specs.{point_at, points_and_constraints_by, State.State}
use Rattle.{delaunay_edit.specs.InsertsVertex, half_edge_links.specs.MAX_ELEMENTS}
use Rattle.delaunay_extensions.specs.Order.{IsFirstOutside, IsListed}
use Rattle.delaunay_extensions.specs.declared.error.BulkInsertionError.{BulkInsertionError}
use Rattle.delaunay_extensions.specs.declared.error.BulkInsertionError.TheVariants.{NoRoom, Vertex}

module _ {V : Type 0} (place : V → Point) where
  -- before any insertion a list is refused for this: its first vertex that is out of range, or,
  -- where there is none, want of room
  abbrev pub RefusesList : List V → BulkInsertionError → Type 0
  RefusesList vertices (Vertex i why) = (why ≡ TooLarge) × IsFirstOutside place vertices i
  RefusesList vertices (NoRoom why) =
      (why ≢ TooLarge) × All (λ v. InRange (place v)) vertices

  -- a list comes to a mesh with so many vertices, and this is the answer. It is refused for a vertex
  -- out of range exactly where it has one, for the first of them; and for want of indexes exactly
  -- where it has none, and six times the vertices with those of the list are too many
  pub record RefusesWhere {R : Type 0} (vertices : List V) (count : ℕ)
      (result : Result R BulkInsertionError) : Type 0 where
    pub too_large : (i : ℕ) → IsErrOf result (Vertex i TooLarge) ↔ IsFirstOutside place vertices i
    pub full : IsErrOf result (NoRoom OutOfIndexes) ↔ (All (λ v. InRange (place v)) vertices
        × (MAX_ELEMENTS < 6 * (count + length vertices)))

  -- the handle at a place is that of a vertex at the position of v
  pub record IsAt (handles : List ℕ) (vertices : List V) (i : ℕ) (v : V) : Type 0 where
    pub handle : ℕ
    pub given : slice_get handles i ≡ Some handle
    pub below : handle < length vertices
    pub here : point_at (map place vertices) handle ≡ place v

  -- each vertex of a list has its handle at its place
  pub record HaveHandles (list : List V) (handles : List ℕ) (vertices : List V) : Type 0 where
    pub each : (i : ℕ) (v : V) → slice_get list i ≡ Some v → IsAt handles vertices i v
    pub size : length handles ≡ length list

module _ {V D U F : Type 0} (place : V → Point) (constraints : List U → List ℕ) where
  -- a vertex was inserted
  pub record InsertsOne (v : V) (index : ℕ) (old new : State V D U F) : Type 0 where
    pub inserts : InsertsVertex place constraints v (Ok index) old new

  -- vertices were inserted, one after another
  abbrev pub InsertsInTurn : List (ℕ × V) → State V D U F → State V D U F → Type 0
  InsertsInTurn [] old new = new ≡ old
  InsertsInTurn (e ∷ es) old new = (h : ℕ) × ((middle : State V D U F)
      × (InsertsOne e.1 h old middle × InsertsInTurn es middle new))

  -- a vertex was refused, for this reason, and nothing changed
  pub record RefusesOne (e : ℕ × V) (error : BulkInsertionError) (old new : State V D U F) :
      Type 0 where
    pub why : InsertionError
    pub refused : InsertsVertex place constraints e.1 (Err why) old new
    pub told : error ≡ Vertex e.0 why

  -- a vertex was inserted, and this is its place with its index, or it was refused
  pub record TriesOne (e : ℕ × V) (result : Result (Option (ℕ × ℕ)) BulkInsertionError)
      (old new : State V D U F) : Type 0 where
    pub ok : IfOk result
        (λ r. (h : ℕ) × ((r ≡ Some (e.0, h)) × InsertsOne e.1 h old new))
    pub err : IfErr result (λ error. RefusesOne e error old new)

  -- the first of the vertices that were left was inserted or refused, or none was left
  abbrev pub InsertsNext : Result (Option (ℕ × ℕ)) BulkInsertionError → List (ℕ × V)
      → List (ℕ × V) → State V D U F → State V D U F → Type 0
  InsertsNext result [] rest old new = (result ≡ Ok None) × (rest ≡ []) × (new ≡ old)
  InsertsNext result (e ∷ es) rest old new = (rest ≡ es) × TriesOne e result old new

  -- the vertices of a list were inserted one after another, in an order that keeps those at one
  -- position as they are, and these are their handles. So the plain state is that of a run of such
  -- insertions
  pub record InsertsAll (vertices : List V) (handles : List ℕ) (old new : State V D U F) : Type 0
    where
      pub order : List (ℕ × V)
      pub listed : IsListed place vertices order
      pub turns : InsertsInTurn order old new
      pub runs : Run place (map (λ e. insert e.1) order) (points_and_constraints_by constraints old)
          (points_and_constraints_by constraints new)
      pub handles_are : HaveHandles place vertices handles new.vertices

  -- after some of these insertions a vertex was refused
  pub record StopsLater (vertices : List V) (error : BulkInsertionError)
      (old new : State V D U F) : Type 0 where
    pub made : List (ℕ × V)
    pub entry : ℕ × V
    pub left : List (ℕ × V)
    pub listed : IsListed place vertices (made ++ entry ∷ left)
    pub turns : InsertsInTurn made old new
    pub refused : RefusesOne entry error new new
    pub in_range : InRange (place entry.1)
    pub out_of_memory : error ≡ Vertex entry.0 OutOfMemory

  -- the insertions of a list ended with this error: before the first of them, or later
  abbrev pub StopsAt : List V → BulkInsertionError → State V D U F → State V D U F → Type 0
  StopsAt vertices error old new =
      (RefusesList place vertices error × (new ≡ old)) ⊎ StopsLater vertices error old new
