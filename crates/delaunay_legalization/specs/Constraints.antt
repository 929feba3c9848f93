-- Which edges are constraints, which no legalising flips: those whose data are marked.
-- constraints_by cs s: the pairs of vertices that the constraints of a triangulation join
-- points_and_constraints_by cs s: the plain state: the vertices, and these pairs
-- constraint_pairs cs m ds: the pairs, by the mesh and the data of its edges
-- marked_edges marks ds: the indexes of the marked data
-- marked_from marks first ds: the same, where the first of the data has the index first
use Rattle.std.specs.Prelude.{◌≡◌, ℕ, suc, Bool, true, false, List, [], ◌∷◌, if◌then◌else◌, refl}
use Rattle.{half_edge_dcel.specs.Contents, half_edge_links.specs.Mesh, plane.specs.Plain}
use Rattle.{delaunay_legalization.specs.Legal.pairs_at, delaunay_legalization.specs.State.State}

-- the indexes of the marked data, where the first has this index
abbrev pub marked_from : {U : Type 0} → (U → Bool) → ℕ → List U → List ℕ
marked_from marks first [] = []
marked_from marks first (d ∷ ds) =
    if marks d then first ∷ marked_from marks (suc first) ds else marked_from marks (suc first) ds

-- the undirected edges that are marked, by the data of all of them
abbrev pub marked_edges : {U : Type 0} → (U → Bool) → List U → List ℕ
marked_edges marks ds = marked_from marks 0 ds

-- where nothing is marked there are none
none_marked_from : {U : Type 0} (first : ℕ) (ds : List U) → [] ≡ marked_from (λ _. false) first ds
none_marked_from first [] = refl
none_marked_from first (d ∷ ds) = none_marked_from (suc first) ds

-- where nothing is marked, the list of marked edges is empty
pub none_marked : {U : Type 0} (ds : List U) → [] ≡ marked_edges (λ _. false) ds
none_marked ds = none_marked_from 0 ds

-- no truth value is both
pub not_both : {A : Type 0} → false ≡ true → A
not_both e = absurd (cc)

-- the vertices that the constraints of a mesh join, by the data of all its edges
abbrev pub constraint_pairs : {U : Type 0} → (List U → List ℕ) → Mesh → List U → List (ℕ × ℕ)
constraint_pairs constraints m ds = pairs_at m (constraints ds)

-- they are the same
abbrev pub KeepsConstraints : {V D U F : Type 0} → (List U → List ℕ)
    → Contents V D U F → Contents V D U F → Type 0
KeepsConstraints constraints old new = constraint_pairs constraints new.mesh new.undirected
    ≡ constraint_pairs constraints old.mesh old.undirected

-- those of a triangulation
abbrev pub constraints_by : {V D U F : Type 0} → (List U → List ℕ) → State V D U F → List (ℕ × ℕ)
constraints_by constraints s = constraint_pairs constraints s.mesh s.undirected

-- the vertices, with the pairs that constraints join as the constraints
abbrev pub points_and_constraints_by : {V D U F : Type 0} → (List U → List ℕ)
    → State V D U F → Plain V
points_and_constraints_by constraints s =
    record { vertices = s.vertices; constraints = constraints_by constraints s }
