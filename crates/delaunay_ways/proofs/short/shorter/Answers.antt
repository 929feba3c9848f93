use Rattle.std.proofs.Common.{◌<◌, ◌∙◌, ℕ, length, map, ap, subst, sym}
use Rattle.std.specs.Prelude.{All}
use Rattle.std.proofs.lemmas.List.{length-map}
use Rattle.std.proofs.lemmas.List.Elements.{All-contains}
use Rattle.plane.specs.{InRange}
use Rattle.delaunay_ways.proofs.short.shorter.Goals as goal

pub invariant_of-embedding : goal.invariant_of-embedding
invariant_of-embedding g c =
    let at = g.V.HasPosition.place in record {
      kept = c.mesh-dcel.ensures.kept;
      sites = subst (λ s. All (g.P.PlaneTests.sites c.args.tests.now) (map at s.vertices))
          (sym c.mesh-dcel.ensures.state)
          (c.requires.sites (subst (λ s. All InRange (map at s.vertices))
          c.mesh-dcel.ensures.state c.mesh-dcel.ensures.in_range));
    }

pub round_vertex-requires-clause-turn : goal.round_vertex-requires-clause-turn
round_vertex-requires-clause-turn g c =
    let at = g.V.HasPosition.place in record {
      first = c.requires.from_covered;
      at = g.met.P.PlaneTests.sites_are_covered c.args.tests.now _ (All-contains
          (g.P.PlaneTests.sites c.args.tests.now) (map at c.mesh-dcel.result.now.vertices) _
          (subst (λ s. All (g.P.PlaneTests.sites c.args.tests.now) (map at s.vertices))
          (sym c.mesh-dcel.ensures.state)
          (c.requires.sites (subst (λ s. All InRange (map at s.vertices))
          c.mesh-dcel.ensures.state c.mesh-dcel.ensures.in_range)))
          c.position_of-at.ensures.listed);
      last = c.requires.to_covered;
    }

pub returns-then-is_chain : goal.returns-then-is_chain
returns-then-is_chain g c =
    let at = g.V.HasPosition.place in
    let size = sym (length-map c.mesh-dcel.result.now.vertices at)
    ∙ ap (λ s. length (map at s.vertices)) c.mesh-dcel.ensures.state in record {
      chain = rw c.deref.ensures.value at (c.is_chain.ensures c.if-is_chain.true);
      exist = subst (λ (n : ℕ). All (λ (v : ℕ). v < n) c.in-Some.chain.items) size
          (rw c.in-Some.is at c.in_ok-chain.ensures);
    }
