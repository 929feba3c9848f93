use Rattle.std.proofs.Common.{◌≡◌, ◌≢◌, ◌<◌, ℕ, length}
use Rattle.half_edge_links.specs.{origin, rev, spoke}
use Rattle.half_edge_dcel.proofs.views.DcelMeshViews.get_edge_from_neighbors.Given as goal

abbrev pub invariant-loop : goal.invariant-loop
invariant-loop g l = record {
  within : l.edge < length l.self.directed;
  starts : origin l.self.mesh l.edge ≡ l.fn.from;
  reached : l.edge ≡ spoke l.self.mesh l.first l.counter;
  ends : l.end ≡ origin l.self.mesh (rev l.edge);
  missed : (j : ℕ) → j < l.counter
      → origin l.self.mesh (rev (spoke l.self.mesh l.first j)) ≢ l.target;
}
