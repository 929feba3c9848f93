use Rattle.std.proofs.Common.{◌∙◌, arith}
use Rattle.delaunay_extensions.proofs.Written.{none_waits, not_empty, pushed_within, pushed_written}
use Rattle.delaunay_extensions.proofs.by_place.ByPlace.write.Goals as goal

pub push_reserved-requires : goal.push_reserved-requires
push_reserved-requires g c =
    let room = c.self.invariant.1 (not_empty _ _ c.args.entry c.self.view_is c.requires) in
    omega (arith, room, c.self.invariant.2)

pub write_entries-requires : goal.write_entries-requires
write_entries-requires g c = pushed_within _ _ _ c.self.view_is c.requires c.self.invariant.0
    c.push_reserved.ensures.items

pub invariant_of-self-else-len-eq-WAITING : goal.invariant_of-self-else-len-eq-WAITING
invariant_of-self-else-len-eq-WAITING g c =
    let pushed = c.push_reserved.ensures in let waits = c.self.invariant in (
      pushed_within _ _ _ c.self.view_is c.requires waits.0 pushed.items,
      λ some. omega (arith, pushed.capacity, waits.1 some),
      omega (arith, c.if-len-eq-WAITING.false, c.len.ensures, pushed.len, waits.2),
    )

pub returns-then-len-eq-WAITING : goal.returns-then-len-eq-WAITING
returns-then-len-eq-WAITING g c =
    none_waits c.write_entries.new.items.items _ c.clear.ensures.items
    ∙ c.write_entries.ensures ∙ pushed_written _ _ _ c.self.view_is c.push_reserved.ensures.items

pub returns-else-len-eq-WAITING : goal.returns-else-len-eq-WAITING
returns-else-len-eq-WAITING g c = pushed_written _ _ _ c.self.view_is c.push_reserved.ensures.items
