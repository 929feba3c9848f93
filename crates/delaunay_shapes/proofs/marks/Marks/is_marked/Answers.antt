use Rattle.std.proofs.Common.{◌≡◌, ◌∙◌, ◌/◌, ◌-◌, suc, get_or, sym, arith}
use Rattle.std.proofs.lemmas.Bool.{le-ltb}
use Rattle.std.proofs.lemmas.List.{get_or_past}
use Rattle.delaunay_shapes.specs.{has_mark}
use Rattle.delaunay_shapes.proofs.Marking.{entry_read, mark_read, no_page, page_read}
use Rattle.delaunay_shapes.proofs.marks.Marks.is_marked.Goals as goal

pub returns-then-place-len : goal.returns-then-place-len
returns-then-place-len c =
    let places = c.self.inside.directory in
    let pages = c.self.inside.pages.items in
    let same = places.ok in
    sym (mark_read c.self.inside.count (has_mark places.items pages) c.self.view_is c.requires
    ∙ no_page places.items pages c.args.index (get_or_past places.items (c.args.index / 512) 0
    (omega (arith, c.if-place-len.true, c.len.ensures, same))))

pub returns-then-page-gt0 : goal.returns-then-page-gt0
returns-then-page-gt0 c =
    let places = c.self.inside.directory in
    let pages = c.self.inside.pages.items in
    let same = places.ok in
    let named : get_or places.items (c.args.index / 512) 0 ≡ suc (c.index.result.now - 1) =
    entry_read places.items (c.args.index / 512) c.index.result.now
    (omega (arith, c.if-place-len.false, c.len.ensures, same)) c.index.ensures
    ∙ omega (arith, c.if-page-gt0.true) in
    c.is_set.ensures
    ∙ page_read places.items pages c.args.index (c.index.result.now - 1)
    c.index-then-page-gt0.result.now c.self.invariant named c.index-then-page-gt0.ensures
    ∙ sym (mark_read c.self.inside.count (has_mark places.items pages) c.self.view_is c.requires)

pub returns-else-page-gt0 : goal.returns-else-page-gt0
returns-else-page-gt0 c =
    let places = c.self.inside.directory in
    let pages = c.self.inside.pages.items in
    let same = places.ok in
    le-ltb 0 c.index.result.now c.if-page-gt0.false
    ∙ sym (mark_read c.self.inside.count (has_mark places.items pages) c.self.view_is c.requires
    ∙ no_page places.items pages c.args.index
    (entry_read places.items (c.args.index / 512) c.index.result.now
    (omega (arith, c.if-place-len.false, c.len.ensures, same)) c.index.ensures
    ∙ omega (arith, c.if-page-gt0.false)))
