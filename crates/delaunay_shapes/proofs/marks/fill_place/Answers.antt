use Rattle.std.proofs.Common.{◌≡◌, ◌∙◌, suc, length, ap, arith, rules}
use Rattle.delaunay_shapes.proofs.Marking.{entry_read, names_new_page, pages_below, same_with_page}
use Rattle.delaunay_shapes.proofs.marks.fill_place.Goals as goal

pub overflow_cast-len : goal.overflow_cast-len
overflow_cast-len c =
    let none = entry_read _ _ _ c.requires.within c.index.ensures ∙ c.if-index-eq0.true in
    let few = pages_below _ _ c.args.place c.requires.directory c.requires.within none in
    let count = c.len-then-index-eq0.ensures in let more = c.in_ok-push.ensures.len in
    let room = c.reserve_page.new.pages.ok in let same = ap length c.reserve_page.ensures in
    omega (arith, few, count, more, room, same)

pub returns-in_ok-push : goal.returns-in_ok-push
returns-in_ok-push c =
    let none = entry_read _ _ _ c.requires.within c.index.ensures ∙ c.if-index-eq0.true in
    let named : c.len-then-index-eq0.result ≡ suc (length c.args.pages.now.items) =
    let count = c.len-then-index-eq0.ensures in let more = c.in_ok-push.ensures.len in
    let room = c.reserve_page.new.pages.ok in let same = ap length c.reserve_page.ensures in
    omega (arith, count, more, room, same) in
    record {
      directory = rw (named, c.in_ok-push.ensures.items, c.reserve_page.ensures)
          (names_new_page _ _ c.args.place _ c.requires.directory c.requires.within none);
      has = search rules;
      same = rw (named, c.in_ok-push.ensures.items, c.reserve_page.ensures)
          (same_with_page _ _ c.args.place c.requires.directory c.requires.within none);
    }
