-- How many constraints lie at least between a face and the outer face.
use Rattle.std.specs.Prelude.{◌≡◌, ◌+◌, ◌/◌, ◌<◌, ◌≤◌, [], ◌∷◌}
use Rattle.std.specs.Prelude.{ℕ, Bool, List, length, nat_eq, slice_index_or}
use Rattle.std.specs.List.{count_by, list_any}
use Rattle.half_edge_links.specs.{face, Mesh, rev}

-- whoever is in face f and crosses these edges one after the other, each from its left to its
-- right, comes to face g
abbrev pub Leads : Mesh → List ℕ → ℕ → ℕ → Type 0
Leads m [] f g = f ≡ g
Leads m (h ∷ hs) f g =
    (h < length m.half_edges) × (face m h ≡ f) × Leads m hs (face m (rev h)) g

-- whether directed edge h is a constraint, by the list of the undirected edges that are
abbrev pub is_constrained : List ℕ → ℕ → Bool
is_constrained constraints h = list_any (nat_eq (h / 2)) constraints

-- how many of these edges are constraints
abbrev pub crossed : List ℕ → List ℕ → ℕ
crossed constraints hs = count_by (is_constrained constraints) hs

-- n is the least number of constraints on a way from the outer face to face f
pub record IsLayer (m : Mesh) (constraints : List ℕ) (f n : ℕ) : Type 0 where
  pub way : (hs : List ℕ) × Leads m hs 0 f × (crossed constraints hs ≡ n)
  pub least : (hs : List ℕ) → Leads m hs 0 f → n ≤ crossed constraints hs

-- the layer of each face, by index, the outer face first
pub record AreLayers (m : Mesh) (constraints layers : List ℕ) : Type 0 where
  pub count : length layers ≡ length m.face_edges + 1
  pub each : (f : ℕ) → f < length layers
      → IsLayer m constraints f (slice_index_or layers f 0)
