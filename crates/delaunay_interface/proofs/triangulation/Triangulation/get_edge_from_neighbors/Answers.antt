use Rattle.std.proofs.Common.{◌≡◌, ℕ, Option, Some, None, refl}
use Rattle.std.specs.Prelude.{IfSome, IfNone, MatchOption}
use Rattle.std.specs.Borrow.{Bor}
use Rattle.half_edge_links.specs.{origin, rev}
use Rattle.half_edge_dcel.specs.{Contents, DirectedEdgeHandle}
use Rattle.delaunay_legalization.specs.{state_of}
use Rattle.delaunay_interface.specs.{AreNotJoined, IsEdgeBetween}
use Rattle.delaunay_interface.proofs.triangulation.Triangulation.get_edge_from_neighbors.Goals as goal

-- an edge that a mesh has, or that it has none, said of the triangulation that it holds
edge_or_none : {V D U F : Type 0} (d : Bor (Contents V D U F)) (i j : ℕ)
    (found : Option (DirectedEdgeHandle V D U F)) → IfSome found
    (λ e. (e.dcel ≡ d) × (origin d.now.mesh e.index ≡ i) × (origin d.now.mesh (rev e.index) ≡ j))
    → IfNone found (AreNotJoined (state_of d.now) i j) → MatchOption found
    (AreNotJoined (state_of d.now) i j) (λ e. IsEdgeBetween (state_of d.now) i j e.dcel.now e.index)
edge_or_none d i j None some none = none
edge_or_none d i j (Some e) some none = rw some.0 (refl, some.1, some.2)

pub returns : goal.returns
returns g c =
    rw (← c.s.ensures.state) (edge_or_none c.s.result _ _ c.get_edge_from_neighbors.result
    c.get_edge_from_neighbors.ensures.some c.get_edge_from_neighbors.ensures.none)
