use Rattle.std.proofs.Common.{ap, ◌∙◌}
use Rattle.delaunay_legalization.proofs.Legalizing.{failing_apart, failing_flippable}
use Rattle.{delaunay_legalization.proofs.Placing.kept_flipped, half_edge_links.proofs.between_faces}
use Rattle.delaunay_legalization.proofs.legalization.flip.Goals as goal

pub flip_cw-requires-clause-between : goal.flip_cw-requires-clause-between
flip_cw-requires-clause-between g c =
    let kept = c.requires.kept in
    between_faces _ _ (failing_flippable kept.valid kept.shape
    (rw (← kept.fits.directed_fit) c.requires.within) c.requires.failing)

pub flip_cw-requires-clause-corners : goal.flip_cw-requires-clause-corners
flip_cw-requires-clause-corners g c =
    let kept = c.requires.kept in
    failing_apart kept.valid kept.shape (rw (← kept.fits.directed_fit) c.requires.within)
    c.requires.failing

pub returns-clause-contents : goal.returns-clause-contents
returns-clause-contents g c =
    c.flip_cw.ensures.contents
    ∙ ap (λ m. record c.args.dcel.now { mesh = m }) c.flip_cw.ensures.mesh

pub returns-clause-kept : goal.returns-clause-kept
returns-clause-kept g c =
    kept_flipped c.requires.kept c.requires.within c.requires.failing c.flip_cw.ensures.mesh
    c.flip_cw.ensures.contents c.flip_cw.ensures.whole.1
