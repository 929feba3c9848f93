-- A list of directed edges whose first place in memory is free, and how it keeps each of them.
use Rattle.std.specs.Prelude.{◌≡◌, ◌-◌, ◌≤◌, [], ◌∷◌}
use Rattle.std.specs.Prelude.{ℕ, List, length, map, slice_index_or, slice_set}
use Rattle.half_edge_links.specs.declared.records.HalfEdge.{HalfEdge}
use Rattle.half_edge_links.specs.declared.records.StoredEdge.{StoredEdge}

-- directed edges as they are kept, and how many fit in their list with no allocation
pub record Listed : Type 0 where
  pub items : List StoredEdge
  pub capacity : ℕ

-- what stands after the free place, where there is one
abbrev pub after_free : List StoredEdge → List StoredEdge
after_free [] = []
after_free (_ ∷ rs) = rs

-- how many directed edges fit after the free place, where so many records fit in all
abbrev pub capacity_after_free : List StoredEdge → ℕ → ℕ
capacity_after_free [] c = 0
capacity_after_free (_ ∷ _) c = c - 1

-- what is read at an index past the end of a list
abbrev pub no_stored : StoredEdge
no_stored = record { prev_origin = 0; next = 0; prev = 0; face = 0 }

-- how directed edge h is kept in a list
abbrev pub stored_at : List StoredEdge → ℕ → StoredEdge
stored_at rs h = slice_index_or rs h no_stored

-- the directed edge that is kept as r: the edge after it says where it starts
abbrev pub shown_edge : List StoredEdge → StoredEdge → HalfEdge
shown_edge rs r = record {
  origin = (stored_at rs r.next).prev_origin;
  next = r.next;
  prev = r.prev;
  face = r.face;
}

-- the directed edges that a list keeps
unfoldable pub shown : List StoredEdge → List HalfEdge
shown rs = map (shown_edge rs) rs

-- the next edge of directed edge h is written
unfoldable pub stored_next : List StoredEdge → ℕ → ℕ → List StoredEdge
stored_next rs h n = slice_set rs h (record (stored_at rs h) { next = n })

-- the edge before directed edge h is written
unfoldable pub stored_prev : List StoredEdge → ℕ → ℕ → List StoredEdge
stored_prev rs h p = slice_set rs h (record (stored_at rs h) { prev = p })

-- the face of directed edge h is written
unfoldable pub stored_face : List StoredEdge → ℕ → ℕ → List StoredEdge
stored_face rs h f = slice_set rs h (record (stored_at rs h) { face = f })

-- where the edge before directed edge h starts is written
unfoldable pub stored_corner : List StoredEdge → ℕ → ℕ → List StoredEdge
stored_corner rs h o = slice_set rs h (record (stored_at rs h) { prev_origin = o })

-- directed edge n is put after h, which starts at o
abbrev pub stored_joined : List StoredEdge → ℕ → ℕ → ℕ → List StoredEdge
stored_joined rs h n o = stored_corner (stored_prev (stored_next rs h n) n h) n o

-- the same edges, and room for them
pub record HoldsSameEdges (old new : Listed) : Type 0 where
  pub items : new.items ≡ old.items
  pub fit : length old.items ≤ new.capacity
