use Rattle.hint_hierarchy.proofs.Told.{none_found}
use Rattle.hint_hierarchy.proofs.layer.Layer.is_vacant.Goals as goal

pub returns : goal.returns
returns g c = rw (← c.self.view_is) (λ is. none_found _ _ _ c.locate_vertex.result
    c.is_none.result c.locate_vertex.ensures c.is_none.ensures is)
