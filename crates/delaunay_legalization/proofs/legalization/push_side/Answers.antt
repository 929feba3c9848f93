use Rattle.std.proofs.Common.{arith}
use Rattle.delaunay_legalization.proofs.Legalizing.{edges_gained}
use Rattle.delaunay_legalization.proofs.legalization.push_side.Goals as goal

pub put-requires : goal.put-requires
put-requires g c =
    let fits = c.recall_invariant.ensures.whole.fits in
    omega (arith, fits.directed_fit, fits.undirected_fit)

pub returns : goal.returns
returns g c =
    let gains = rw c.as_undirected.ensures at c.put.ensures.gains in
    record {
      gains = gains;
      edges = edges_gained _ _ _ _ _ c.recall_invariant.ensures.whole.fits.directed_fit
          c.requires.within c.requires.edges gains;
      capacity = c.put.ensures.room;
    }
