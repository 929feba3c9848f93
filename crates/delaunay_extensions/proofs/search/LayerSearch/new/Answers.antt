use Rattle.std.proofs.Common.{refl}
use Rattle.delaunay_extensions.proofs.Searching.{search_begins}
use Rattle.delaunay_extensions.proofs.search.LayerSearch.new.Goals as goal

pub returns : goal.returns
returns g c = search_begins c.num_faces.ensures.whole c.num_faces.ensures.value
    c.num_faces.ensures.small (c.in_ok-layers.ensures.items_if_clones_equal (λ y e. e)) refl
    c.new.ensures.items c.new-2.ensures.items refl c.in_ok-list_outer_edges.ensures
