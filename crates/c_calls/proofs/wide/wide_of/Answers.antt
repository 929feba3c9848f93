use Rattle.std.proofs.Common.{Bool, List, ap, w64}
use Rattle.std.proofs.lemmas.Int.{to_z-of_z}
use Rattle.c_calls.specs.{kept_place}
use Rattle.{c_calls.proofs.Widths.wide_told, delaunay_legalization.specs.triangulation_of}
use Rattle.c_calls.proofs.wide.wide_of.Goals as goal

pub returns : goal.returns
returns g c =
    let law = g.met.T.Triangulation.state_is_of_mesh c.args.points.now in
    wide_told (λ (flags : List Bool). flags) c.args.bytes.now _ c.args.width_2
    (to_z-of_z w64 c.args.width_2 c.ranges.width_2) _ _
    (ap (triangulation_of kept_place) law) c.new.result c.new.ensures
