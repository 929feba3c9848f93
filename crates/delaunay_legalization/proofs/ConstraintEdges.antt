-- The constraints are edges of the mesh, whatever is marked.
-- Lemmas: constraints_are_edges.
use Rattle.std.proofs.Common.{◌≡◌, ℕ, ◌*◌, List, length, subst, inl, inr}
use Rattle.std.specs.Prelude.{Bool, Contains}
use Rattle.std.specs.List.{range_with_len}
use Rattle.{half_edge_links.specs.IsValidMesh, half_edge_links.specs.Mesh, plane.specs.Joins}
use Rattle.delaunay_legalization.specs.{constraint_pairs, edges_of, marked_edges, pair_at}
use Rattle.delaunay_legalization.proofs.{Constraints.fixed_within, WorkList.pairs_are_edges}
use Rattle.delaunay_legalization.proofs.Entries.{index_listed}
use Rattle.delaunay_legalization.proofs.WorkLists.{contains_map, contains_map_from}

module _ {U : Type 0} (marks : U → Bool) (constraints : List U → List ℕ)
    (marked : (ds : List U) → constraints ds ≡ marked_edges marks ds) (m : Mesh) (ds : List U)
    (count : 2 * length ds ≡ length m.half_edges) (v : IsValidMesh m) where
  listed : (i j : ℕ) → Contains (constraint_pairs constraints m ds) (i, j)
      → Contains (edges_of m) (i, j)
  listed i j h =
      let r = contains_map_from (pair_at m) (constraints ds) (i, j) h in
      subst (λ (x : ℕ × ℕ). Contains (edges_of m) x) r.2
      (subst (λ (ps : List (ℕ × ℕ)). Contains ps (pair_at m r.0))
      (pairs_are_edges m (length ds) count v)
      (contains_map (pair_at m) (range_with_len 0 (length ds)) r.0
      (index_listed (length ds) r.0 (fixed_within marks constraints marked ds r.0 r.1))))

  -- two vertices that a constraint joins are joined by an edge of the mesh
  pub constraints_are_edges : (i j : ℕ) → Joins (constraint_pairs constraints m ds) i j
      → Joins (edges_of m) i j
  constraints_are_edges i j (inl h) = inl (listed i j h)
  constraints_are_edges i j (inr h) = inr (listed j i h)
