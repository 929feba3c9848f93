-- The list of all edges.
-- Lemmas: pairs_are_edges.
use Rattle.std.proofs.Common.{◌≡◌, ℕ, ◌*◌, ◌<◌, length, sym, ap, ◌∙◌, arith}
use Rattle.std.specs.List.{range_with_len}
use Rattle.std.proofs.lemmas.List.{same_lists, length-map, get_or-map}
use Rattle.std.proofs.lemmas.List.FromFn.{length-map-range_with_len, get_or-map-range_with_len}
use Rattle.half_edge_links.specs.{Ends, ends, IsValidMesh, Mesh, origin}
use Rattle.half_edge_links.proofs.{get_or-ends, length-ends_twice}
use Rattle.delaunay_legalization.specs.{edges_of, pair_at, pair_of, pairs_at}
use Rattle.delaunay_legalization.proofs.EdgePairs.{rev_of_even}

module _ (m : Mesh) (n : ℕ) (count : 2 * n ≡ length m.half_edges) where
  -- the pairs of all indexes of edges are the edges
  pub pairs_are_edges : IsValidMesh m → pairs_at m (range_with_len 0 n) ≡ edges_of m
  pairs_are_edges v =
      let twice = length-ends_twice m v.sound in
      let places = length-map (ends m) pair_of in
      let none : Ends = record { source = 0; target = 0 } in
      same_lists (pairs_at m (range_with_len 0 n)) (edges_of m) (length-map-range_with_len
      (pair_at m) 0 n ∙ omega (arith, twice, places, count)) (λ k d here.
      let k_in : k < n = omega (arith, here, length-map-range_with_len (pair_at m) 0 n) in
      get_or-map-range_with_len (pair_at m) 0 n k k d k_in (omega arith)
      ∙ (λ i. (let p : ℕ × ℕ = (origin m (2 * k), origin m (rev_of_even k i)) in p))
      ∙ sym (get_or-map pair_of (ends m) k none d (omega (arith, k_in, twice, count))
      ∙ ap pair_of (get_or-ends m k none (omega (arith, k_in, count)))))
