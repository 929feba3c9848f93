-- What C is told of the layers of faces.
use Rattle.std.specs.Prelude.{◌≡◌, ◌+◌, ℕ, List, length}
use Rattle.delaunay_edit.specs.{constraint_edges, none}
use Rattle.{delaunay_extensions.specs.Layers.IsLayer, plane.specs.Triangulation}
use Rattle.c_calls.specs.{declared.kept.AnyTriangulation.AnyTriangulation, Written.Listing}
use Rattle.c_calls.specs.declared.kept.AnyTriangulation.TheVariants.{Constrained, Plain}
use Rattle.{c_calls.specs.declared.statuses.TheConstants.OUT_OF_MEMORY, half_edge_links.specs.Mesh}

-- the undirected edges that are constraints, by index
abbrev pub kept_marked : AnyTriangulation → List ℕ
kept_marked (Plain t) = none t.undirected
kept_marked (Constrained t) = constraint_edges t.undirected

-- the layer of the face at a place of C's list, which leaves out the outer face
abbrev pub IsLayerAt : Mesh → List ℕ → ℕ → ℕ → Type 0
IsLayerAt m marked k n = IsLayer m marked (k + 1) n

-- how it ended that the layer of each face was to be listed
pub data ListsLayers (t : Triangulation) (m : Mesh) (marked : List ℕ) (status told : ℕ)
    (old new : List ℕ) : Type 0 where
  layers_listed : Listing (IsLayerAt m marked) (length t.faces) status told old new
      → ListsLayers t m marked status told old new
  layers_refused : status ≡ OUT_OF_MEMORY → told ≡ length t.faces → new ≡ old
      → ListsLayers t m marked status told old new
