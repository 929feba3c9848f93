-- A list of vertices: what each names and its data.
use Rattle.std.specs.Prelude.{◌≡◌, ◌<◌, ◌==◌, if◌then◌else◌}
use Rattle.std.specs.Prelude.{⊤, ℕ, List, map, slice_get, Option, Some, None}
use Rattle.std.specs.List.{swap_remove}
use Rattle.half_edge_links.specs.declared.vertex_list.TheConstants.{NO_EDGE}
use Rattle.half_edge_links.specs.declared.vertex_list.Vertex.{Vertex}

-- the edge that a vertex names by this number
unfoldable pub named_by : ℕ → Option ℕ
named_by number = if number == NO_EDGE then None else Some number

-- an edge, if it is one, whose number does not stand for none
abbrev pub IsNameable : Option ℕ → Type 0
IsNameable None = ⊤
IsNameable (Some edge) = edge < NO_EDGE

-- the edges that vertices name
abbrev pub out_edges_of : {V : Type 0} → List (Vertex V) → List (Option ℕ)
out_edges_of vs = map (λ v. named_by v.out_edge) vs

-- the data of vertices
abbrev pub values_of : {V : Type 0} → List (Vertex V) → List V
values_of vs = map (λ v. v.value) vs

-- a vertex that names the same edge, with data as R says of the former ones
pub record IsCopiedVertex {V : Type 0} (R : V → V → Type 0) (old new : Vertex V) : Type 0 where
  pub out_edge : new.out_edge ≡ old.out_edge
  pub value : R old.value new.value

-- the data of vertex v are taken out, and those of the last one take their place
pub record TakesValue {V : Type 0} (old new : List V) (v : ℕ) (value : V) : Type 0 where
  pub was : slice_get old v ≡ Some value
  pub now : new ≡ swap_remove old v value

-- vertex v with these data is taken out, and the last one takes its place
pub record TakesVertex {V : Type 0} (old new : List (Vertex V)) (v : ℕ) (value : V) : Type 0 where
  pub values : TakesValue (values_of old) (values_of new) v value
  pub out_edges : out_edges_of new ≡ swap_remove (out_edges_of old) v None
