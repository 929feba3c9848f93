use Rattle.std.proofs.Common.{arith}
use Rattle.delaunay_legalization.proofs.AmongSides.{only_among}
use Rattle.delaunay_legalization.proofs.among.legalize_list.Goals as goal

pub list_again-requires : goal.list_again-requires
list_again-requires g c k l =
    let within = c.requires.left.edges.within k l in
    let fit = c.requires.kept.fits.undirected_fit in
    let few = c.requires.kept.few_edges in
    let room = c.requires.room_among in
    omega (arith, within, fit, few, room)

pub legalize-requires-clause-suffice : goal.legalize-requires-clause-suffice
legalize-requires-clause-suffice g c =
    only_among _ c.args.dcel.now.mesh _ _ c.list_again.ensures (c.requires.only c.if-is_free.true)
