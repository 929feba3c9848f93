use Rattle.std.proofs.Common.{◌≡◌, ◌<◌, length, All, drop}
use Rattle.delaunay_extensions.specs.{written}
use Rattle.delaunay_extensions.proofs.by_place.write_entries.Given as goal

abbrev pub invariant-loop-entry : goal.invariant-loop-entry
invariant-loop-entry g l =
    (written l.items.items (drop l.entry-index l.entry-items)
    ≡ written l.fn.items.items l.fn.waiting.items)
    × (length l.items.items ≡ length l.fn.items.items)
    × All (λ e. e.0 < length l.fn.items.items) l.entry-items
