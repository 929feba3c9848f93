-- The lists of the edges that cross a segment, while they are turned.
use Rattle.std.specs.Prelude.{◌≡◌, ◌≢◌, ◌⊎◌, ◌+◌, ◌≤◌, ℕ, List, length, AllPairs, Contains}
use Rattle.std.specs.Prelude.{vec_capacity}
use Rattle.{half_edge_links.specs.Mesh, plane.specs.IsEdge, plane.specs.Point}
use Rattle.plane_theorems.specs.{AreNextOn, IsFreeOfVertices, IsMesh}
use Rattle.half_edge_dcel.specs.{Contents, IsMeshWithData}
use Rattle.delaunay_legalization.specs.{drawn, faces_of, outer_of}
use Rattle.delaunay_edit.specs.Crossing.{AreAllCrossing, AreOthersCrossing, TurnsNearer}
use Rattle.delaunay_edit.specs.{declared.crossing.CrossingLists.CrossingLists, Leaving.TurnsTowards}

-- these lists have no entry twice, and none in both
pub record AreOnce (waiting unseen : List ℕ) : Type 0 where
  pub first : AllPairs (λ k l. k ≢ l) waiting
  pub second : AllPairs (λ k l. k ≢ l) unseen
  pub apart : (h : ℕ) → Contains waiting h → ¬ Contains unseen h

-- one of them has h
abbrev pub IsIn : List ℕ → List ℕ → ℕ → Type 0
IsIn waiting unseen h = Contains waiting h ⊎ Contains unseen h

-- each of the two lists has room for so many entries
pub record HaveRoom (count : ℕ) (l : CrossingLists) : Type 0 where
  pub waiting : count ≤ vec_capacity l.waiting
  pub unseen : count ≤ vec_capacity l.unseen

-- their room stays
pub record KeepRoom (old new : CrossingLists) : Type 0 where
  pub waiting : vec_capacity new.waiting ≡ vec_capacity old.waiting
  pub unseen : vec_capacity new.unseen ≡ vec_capacity old.unseen

-- no entry is there twice, and each list has room for all
pub record AreHeld (l : CrossingLists) : Type 0 where
  pub once : AreOnce l.waiting.items l.unseen.items
  pub room : HaveRoom (length l.waiting.items + length l.unseen.items) l

-- h is an entry
abbrev pub HasEntry : CrossingLists → ℕ → Type 0
HasEntry l h = IsIn l.waiting.items l.unseen.items h

-- the entries are those of before, and so is the room
pub record KeepEntries (old new : CrossingLists) : Type 0 where
  pub held : AreHeld new
  pub room : KeepRoom old new
  pub kept : (h : ℕ) → HasEntry old h → HasEntry new h
  pub only : (h : ℕ) → HasEntry new h → HasEntry old h

-- they are the directed edges that cross the segment from the right
pub record ListCrossing (points : List Point) (m : Mesh) (i j : ℕ)
    (l : CrossingLists) : Type 0 where
  pub held : AreHeld l
  pub all : AreAllCrossing points m i j (HasEntry l)

-- the segment from i to j has no vertex strictly within; the mesh is one of the points, and has all
-- its data
pub record IsOneSubconstraint {V D U F : Type 0} (points : List Point) (c : Contents V D U F)
    (i j : ℕ) : Type 0 where
  pub whole : IsMeshWithData c
  pub free : IsFreeOfVertices (drawn points c.mesh) i j
  pub shape : IsMesh points (faces_of c.mesh) (outer_of c.mesh)

-- the segment is one subconstraint, and the entries are the directed edges that cross it from the
-- right
pub record AreToTurn {V D U F : Type 0} (points : List Point) (c : Contents V D U F) (i j : ℕ)
    (l : CrossingLists) : Type 0 where
  pub subconstraint : IsOneSubconstraint points c i j
  pub crossing : ListCrossing points c.mesh i j l

-- vertex v ends the first subconstraint of the path from i to j, and the entries are those that
-- cross this subconstraint
pub record ListSubconstraint {V D U F : Type 0} (points : List Point) (c : Contents V D U F)
    (i j v : ℕ)
    (l : CrossingLists) : Type 0 where
  pub next : AreNextOn points i j i v
  pub turn : AreToTurn points c i v l

-- they are those but e, for which there is room
pub record ListOthers (points : List Point) (m : Mesh) (i j e : ℕ)
    (l : CrossingLists) : Type 0 where
  pub once : AreOnce l.waiting.items l.unseen.items
  pub room : HaveRoom (length l.waiting.items + length l.unseen.items + 1) l
  pub others : AreOthersCrossing points m i j e (HasEntry l)

-- directed edge e crosses the subconstraint from i to j, and can be turned towards it; the entries
-- are the others that cross
pub record IsToTurn {V D U F : Type 0} (points : List Point) (c : Contents V D U F) (i j e : ℕ)
    (l : CrossingLists) : Type 0 where
  pub subconstraint : IsOneSubconstraint points c i j
  pub nearer : TurnsNearer points c.mesh i j e
  pub others : ListOthers points c.mesh i j e l

-- an edge is turned towards the segment from i to j, and the entries are those that cross it then
pub record TurnsOne {V D U F : Type 0} (points : List Point) (old new : Contents V D U F) (i j : ℕ)
    (was left : List ℕ) (before after : CrossingLists) : Type 0 where
  pub turns : TurnsTowards points old new i j was left
  pub turn : AreToTurn points new i j after
  pub room : KeepRoom before after

-- the segment from i to j is an edge of a mesh that has all its data
pub record HasAsEdge {V D U F : Type 0} (points : List Point) (c : Contents V D U F)
    (i j : ℕ) : Type 0 where
  pub whole : IsMeshWithData c
  pub edge : IsEdge (drawn points c.mesh) i j
