use Rattle.std.proofs.lemmas.Result.{err_from_is_err_and}
use Rattle.triangulate_run.specs.Output.{Puts}
use Rattle.triangulate_run.proofs.Walks.{line_first_fails, line_none, line_others_fail, line_put}
use Rattle.{triangulate_run.proofs.Walks.walks, triangulate_run.specs.Reply.line_text}
use Rattle.triangulate_run.proofs.line.put_line.Goals as goal

pub returns-in_default : goal.returns-in_default
returns-in_default g c =
    let line = c.new-line.ensures.line in
    let walk = walks _ _ _ _ c.index_of.result c.index_of-else-is_none.result
    c.if-is_none.ensures c.index_of.ensures c.if-is_none-2.ensures
    c.index_of-else-is_none.ensures line.items line.line_list in
    let none = line_none
    (λ t. Puts g.W.Write.contents c.args.writer.now c.put_fragments.new.writer c.args.held.now.items
    c.put_fragments.new.held.items c.put_fragments.result t)
    c.in_default.ensures.steps c.put_fragments.ensures line.items line.are_left in
    (line_text line.items, walk, none)

pub returns-in_err-put_item : goal.returns-in_err-put_item
returns-in_err-put_item g c =
    let line = c.new-line.ensures.line in
    let walk = walks _ _ _ _ c.index_of.result c.index_of-else-is_none.result
    c.if-is_none.ensures c.index_of.ensures c.if-is_none-2.ensures
    c.index_of-else-is_none.ensures line.items line.line_list in
    let put = c.in_err-put_item.ensures in
    let part = line_first_fails c.in-Some.ensures.steps _ put.0 line.items line.are_left in
    let failed = err_from_is_err_and c.from_residual.result c.from_residual.ensures.1 in
    rw failed.1 (line_text line.items, walk, (part, put.1))

pub returns-in_err-put_items : goal.returns-in_err-put_items
returns-in_err-put_items g c =
    let line = c.new-line.ensures.line in
    let walk = walks _ _ _ _ c.index_of.result c.index_of-else-is_none.result
    c.if-is_none.ensures c.index_of.ensures c.if-is_none-2.ensures
    c.index_of-else-is_none.ensures line.items line.line_list in
    let put = c.in_err-put_items.ensures in
    let ready = c.in-Some.ensures.goes.keeps in
    let part = line_others_fail c.in-Some.ensures.steps c.in_ok-put_item.ensures.0
    (λ others rest. (put others rest).0) line.items line.are_left in
    let failed = err_from_is_err_and c.from_residual-in_err-put_items.result
    c.from_residual-in_err-put_items.ensures.1 in
    rw failed.1 (line_text line.items, walk, (part, (put ready.items ready.are_left).1))

pub put_fragments-requires-2 : goal.put_fragments-requires-2
put_fragments-requires-2 g c = let ready = c.in-Some.ensures.goes.keeps in
    record { works = (c.in_ok-put_items.ensures ready.items ready.are_left).1 }

pub returns : goal.returns
returns g c =
    let line = c.new-line.ensures.line in
    let walk = walks _ _ _ _ c.index_of.result c.index_of-else-is_none.result
    c.if-is_none.ensures
    c.index_of.ensures c.if-is_none-2.ensures c.index_of-else-is_none.ensures line.items
    line.line_list in
    let put = line_put c.in-Some.ensures.steps c.in_ok-put_item.ensures.0
    (λ others rest. (c.in_ok-put_items.ensures others rest).0) _ _ _ c.put_fragments-2.result
    _ c.put_fragments-2.ensures line.items line.are_left in
    (line_text line.items, walk, put)
