use Rattle.std.proofs.Common.{◌/◌, ◌<◌, length, arith}
use Rattle.{delaunay_legalization.proofs.Bits.one_bit_more, plane_theorems.proofs.get_or_any}
use Rattle.delaunay_shapes.proofs.marks.set_bit.Goals as goal

pub returns : goal.returns
returns c =
    let low = c.requires in let words = c.told-page in
    let here : c.args.number / 64 < length c.args.page.now = omega (arith, low, words) in
    one_bit_more c.args.page.now c.args.number here
    (get_or_any c.args.page.now (c.args.number / 64) 0 _ here)
