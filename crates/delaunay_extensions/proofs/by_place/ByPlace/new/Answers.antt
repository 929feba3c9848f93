use Rattle.std.proofs.Common.{◌∙◌, sym, ap, length}
use Rattle.delaunay_extensions.proofs.Written.{none_waits}
use Rattle.delaunay_extensions.proofs.by_place.ByPlace.new.Goals as goal

pub returns : goal.returns
returns g c = ap length (none_waits _ _ c.in_ok-with_capacity.ensures.items)
    ∙ sym c.in_ok-from_elem.field-0.ok.0 ∙ c.in_ok-from_elem.ensures.len
