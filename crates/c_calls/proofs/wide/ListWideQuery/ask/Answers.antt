use Rattle.std.proofs.Common.{refl, arith, rules, w64, SFits}
use Rattle.std.proofs.lemmas.Int.{ints, to_z-of_z}
use Rattle.delaunay_legalization.specs.{triangulation_of}
use Rattle.c_calls.specs.{kept_place, listed, Wide.wide_listed}
use Rattle.c_calls.proofs.{Widths.flags_told, Writing.all_answered}
use Rattle.c_calls.proofs.wide.ListWideQuery.ask.Goals as goal

pub returns : goal.returns
returns g c =
    let t = triangulation_of kept_place (g.T.Triangulation.state c.args.points.now) in
    let width_2 = c.args.self.now.width_2 in
    let fits : SFits w64 c.args.self.now.width_2 = search rules in
    let value = c.num_inner_faces-count.ensures.value in
    let count = c.num_inner_faces-count.result in
    let old = c.args.flags.now in
    let new = c.write_flags.new.flags in
    wide_listed (omega (arith, c.if-self-count.false, value))
    (omega (arith, ints, c.if-self-lt0.false))
    (listed refl value
    (flags_told t c.args.self.now.bytes.now _ width_2 (to_z-of_z w64 width_2 fits) c.in-Ok.wide
    c.in-Ok.ensures old new (all_answered _ count _ old new value c.write_flags.ensures)))
