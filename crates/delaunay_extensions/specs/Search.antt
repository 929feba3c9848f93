-- The search for the layers of the faces: which are known, and which edges are still to be crossed.
use Rattle.std.specs.Prelude.{◌≡◌, ◌≢◌, ◌⊎◌, ◌+◌, ◌*◌, ◌<◌, ◌≤◌}
use Rattle.std.specs.Prelude.{[], ◌∷◌, ◌++◌, Option, MatchOption}
use Rattle.std.specs.Prelude.{ℕ, List, length, Contains, cond, nat_eq, slice_index_or}
use Rattle.std.specs.List.{count_by}
use Rattle.half_edge_links.specs.{face, Mesh, rev}
use Rattle.half_edge_dcel.specs.{Contents, IsMeshWithData}
use Rattle.delaunay_extensions.specs.Layers.{crossed, is_constrained, Leads}
use Rattle.delaunay_extensions.specs.declared.search.LayerSearch.{LayerSearch}

-- what stands in place of the layer of a face that was not reached
abbrev pub unseen : ℕ
unseen = 4294967295

-- the layer of face f, as far as it is known
abbrev pub layer_at : List ℕ → ℕ → ℕ
layer_at layers f = slice_index_or layers f unseen

-- face f was reached
abbrev pub IsMet : List ℕ → ℕ → Type 0
IsMet layers f = layer_at layers f ≢ unseen

-- how many faces were not
abbrev pub left_unseen : List ℕ → ℕ
left_unseen layers = count_by (λ n. nat_eq n unseen) layers

-- what crossing directed edge h counts
abbrev pub weight : List ℕ → ℕ → ℕ
weight constraints h = cond (is_constrained constraints h) 1 0

-- a way from the outer face to face f past n constraints
abbrev pub HasWay : Mesh → List ℕ → ℕ → ℕ → Type 0
HasWay m constraints f n = (hs : List ℕ) × Leads m hs 0 f × (crossed constraints hs ≡ n)

-- directed edge h leads from a face that was reached to one of this layer, or of a lower one
pub record IsDue (m : Mesh) (constraints layers : List ℕ) (h layer : ℕ) : Type 0 where
  pub within : h < length m.half_edges
  pub seen : IsMet layers (face m h)
  pub due : layer_at layers (face m h) + weight constraints h ≡ layer

-- what directed edge h leads to was reached, and no later than across it
pub record IsReachedAcross (m : Mesh) (constraints layers : List ℕ) (h : ℕ) : Type 0 where
  pub seen : IsMet layers (face m (rev h))
  pub low : layer_at layers (face m (rev h)) ≤ layer_at layers (face m h) + weight constraints h

-- a search that has come to this layer: the edges that lead on from faces that were reached are
-- listed, for now or for the next layer, or were crossed
pub record IsLayered (m : Mesh) (constraints layers now later : List ℕ) (layer : ℕ) : Type 0 where
  pub count : length layers ≡ length m.face_edges + 1
  pub ways : (f : ℕ) → IsMet layers f → HasWay m constraints f (layer_at layers f)
  pub low : (f : ℕ) → IsMet layers f → layer_at layers f ≤ layer
  pub now_due : (h : ℕ) → Contains now h → IsDue m constraints layers h layer
  pub later_due : (h : ℕ) → Contains later h → IsDue m constraints layers h (layer + 1)
  pub complete : (h : ℕ) → h < length m.half_edges → IsMet layers (face m h)
      → Contains now h ⊎ (Contains later h ⊎ IsReachedAcross m constraints layers h)
  pub bound : layer + left_unseen layers ≤ length layers
  pub more : 0 < length later → layer + left_unseen layers < length layers

-- such a search over a mesh that has all its data, and a number for each face; the outer face has
-- layer 0
pub record IsSearching {V D U F : Type 0} (c : Contents V D U F)
    (constraints layers now later : List ℕ) (layer : ℕ) : Type 0 where
  pub whole : IsMeshWithData c
  pub few : length c.mesh.face_edges + 1 ≤ unseen
  pub layered : IsLayered c.mesh constraints layers now later layer
  pub outer : layer_at layers 0 ≡ 0

-- directed edge h has face f on its left
abbrev pub IsSideOf : Mesh → ℕ → ℕ → Type 0
IsSideOf m f h = (h < length m.half_edges) × (face m h ≡ f)

-- edges with this property were put into the lists, constraints for the next layer
pub record Lists (constraints : List ℕ) (Which : ℕ → Type 0) (now later now' later' : List ℕ) :
    Type 0 where
  pub now_kept : (h : ℕ) → Contains now h → Contains now' h
  pub later_kept : (h : ℕ) → Contains later h → Contains later' h
  pub there : (h : ℕ) → Which h → Contains now' h ⊎ Contains later' h
  pub now_only : (h : ℕ) → Contains now' h
      → Contains now h ⊎ (Which h × (weight constraints h ≡ 0))
  pub later_only : (h : ℕ) → Contains later' h
      → Contains later h ⊎ (Which h × (weight constraints h ≡ 1))

-- they were put into the lists of a search, and nothing else changed
pub record PutsIn (constraints : List ℕ) (Which : ℕ → Type 0) (old new : LayerSearch) : Type 0
  where
    pub lists : Lists constraints Which old.now.items old.later.items new.now.items
        new.later.items
    pub layers : new.layers ≡ old.layers
    pub layer : new.layer ≡ old.layer

-- the last edge that was listed for this layer was taken
pub record TakesNow (h : ℕ) (now later : List ℕ) (layer : ℕ) (now' later' : List ℕ) (layer' : ℕ) :
    Type 0 where
  pub taken : now ≡ now' ++ h ∷ []
  pub later_stays : later' ≡ later
  pub layer_stays : layer' ≡ layer

-- this layer had no edge left, and the last one of the next layer was taken, as the search came to
-- it
pub record TakesLater (h : ℕ) (now later : List ℕ) (layer : ℕ) (now' later' : List ℕ)
    (layer' : ℕ) : Type 0 where
  pub none : now ≡ []
  pub taken : later ≡ now' ++ h ∷ []
  pub empty : later' ≡ []
  pub next : layer' ≡ layer + 1

-- the next edge was taken, or there was none
abbrev pub TakesNext : Option ℕ → List ℕ → List ℕ → ℕ → List ℕ → List ℕ → ℕ → Type 0
TakesNext taken now later layer now' later' layer' =
    MatchOption taken ((now ≡ []) × (later ≡ []))
    (λ h. TakesNow h now later layer now' later' layer'
    ⊎ TakesLater h now later layer now' later' layer')

-- what is left to do: faces to reach and edges to cross
abbrev pub work_left : List ℕ → List ℕ → List ℕ → ℕ
work_left layers now later = 8 * left_unseen layers + length now + 2 * length later

-- at the end of a search all edges that lead on from faces that were reached were crossed
pub record IsFound (m : Mesh) (constraints layers : List ℕ) : Type 0 where
  pub count : length layers ≡ length m.face_edges + 1
  pub outer : layer_at layers 0 ≡ 0
  pub ways : (f : ℕ) → IsMet layers f → HasWay m constraints f (layer_at layers f)
  pub crossed : (h : ℕ) → h < length m.half_edges → IsMet layers (face m h)
      → IsReachedAcross m constraints layers h
