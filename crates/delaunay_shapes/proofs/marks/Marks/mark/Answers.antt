use Rattle.std.proofs.Common.{◌≡◌, ◌∙◌, set, ap, subst, arith}
use mathlib.Core.Bool.{true}
use Rattle.std.specs.Prelude.{cond, nat_eq}
use Rattle.{delaunay_shapes.specs.has_mark, delaunay_shapes.specs.Marks.tests_below}
use Rattle.delaunay_shapes.proofs.Marking.{one_mark_more, one_more}
use Rattle.delaunay_shapes.proofs.marks.Marks.mark.Goals as goal

pub returns : goal.returns
returns c =
    let index = c.args.index in
    let pages = c.page_for.new.pages.items in
    let directory = c.page_for.new.directory.items in
    let at = c.in_ok-page.ensures.at in
    let marks' = has_mark directory (set pages c.in_ok-page.page c.set_bit.new.page) in
    subst (λ xs. tests_below c.self.inside.count marks' ≡ set xs index true) c.self.view_is
    (one_more c.self.inside.count
    (has_mark c.self.inside.directory.items c.self.inside.pages.items) marks' index
    (λ k. one_mark_more directory pages index c.in_ok-page.page c.index_mut.result.now
    c.set_bit.new.page c.page_for.ensures.directory (omega (arith, at)) c.in_ok-page.ensures.there
    c.index_mut.ensures.value c.set_bit.ensures k
    ∙ ap (λ b. cond (nat_eq index k) true b) (c.page_for.ensures.same k)))
