-- The directed edges that a list keeps.
-- Lemmas: length_shown, shown_at, next_shown, prev_shown, face_shown, origin_shown, next_within,
-- next_kept_within, prev_kept_within, shown_whole.
use Rattle.std.proofs.Common.{◌≡◌, ℕ, ◌<◌, List, length, refl, sym, ap, ◌∙◌, inl, inr}
use Rattle.std.proofs.lemmas.Bool.{cases_lt}
use Rattle.std.proofs.lemmas.List.{length-map, get_or-map, get_or_past}
use Rattle.half_edge_links.specs.{AreJoined, edge_at, HalfEdge, no_edge, no_stored, shown}
use Rattle.half_edge_links.specs.{EdgeList.shown_edge, stored_at, StoredEdge}

-- as many directed edges are shown as are kept
pub length_shown : (rs : List StoredEdge) → length (shown rs) ≡ length rs
unfolding shown
length_shown rs = length-map rs (shown_edge rs)

-- a directed edge is the one that its record shows
pub shown_at : (rs : List StoredEdge) (h : ℕ) → h < length rs
    → edge_at (shown rs) h ≡ shown_edge rs (stored_at rs h)
unfolding shown
shown_at rs h within = get_or-map (shown_edge rs) rs h no_stored no_edge within

-- a link of a directed edge that its record has too is the one of the record
link_shown : (link : HalfEdge → ℕ) (kept : StoredEdge → ℕ) (rs : List StoredEdge) (h : ℕ)
    → link no_edge ≡ 0 → kept no_stored ≡ 0 → link (shown_edge rs (stored_at rs h))
    ≡ kept (stored_at rs h) → link (edge_at (shown rs) h) ≡ kept (stored_at rs h)
link_shown link kept rs h none none_kept same = elim (cases_lt h (length rs)) [
  | inl within ↦ ap link (shown_at rs h within) ∙ same
  | inr past ↦ ap link (get_or_past (shown rs) h no_edge (rw length_shown past)) ∙ none
      ∙ sym (ap kept (get_or_past rs h no_stored past) ∙ none_kept)
]

-- the edge after a directed edge is the one that its record has
pub next_shown : (rs : List StoredEdge) (h : ℕ)
    → (edge_at (shown rs) h).next ≡ (stored_at rs h).next
next_shown rs h = link_shown (λ e. e.next) (λ r. r.next) rs h refl refl refl

-- the edge before a directed edge is the one that its record has
pub prev_shown : (rs : List StoredEdge) (h : ℕ)
    → (edge_at (shown rs) h).prev ≡ (stored_at rs h).prev
prev_shown rs h = link_shown (λ e. e.prev) (λ r. r.prev) rs h refl refl refl

-- the face of a directed edge is the one that its record has
pub face_shown : (rs : List StoredEdge) (h : ℕ)
    → (edge_at (shown rs) h).face ≡ (stored_at rs h).face
face_shown rs h = link_shown (λ e. e.face) (λ r. r.face) rs h refl refl refl

-- the record of the edge after a directed edge says where that edge starts
pub origin_shown : (rs : List StoredEdge) (h : ℕ) → h < length rs
    → (edge_at (shown rs) h).origin ≡ (stored_at rs (edge_at (shown rs) h).next).prev_origin
origin_shown rs h within = ap (λ (e : HalfEdge). e.origin) (shown_at rs h within)
    ∙ ap (λ n. (stored_at rs n).prev_origin) (sym (next_shown rs h))

-- reads of the directed edges that a list keeps, as reads of its records
pub ruleset shown_reads = (length_shown, next_shown, prev_shown, face_shown)

-- the edge after one of a joined list is in the list
pub next_within : (rs : List StoredEdge) (h : ℕ) → AreJoined (shown rs) → h < length rs
    → (edge_at (shown rs) h).next < length rs
next_within rs h j within = rw length_shown at (j.next_in h (rw length_shown within))

-- the same, as the record says it
pub next_kept_within : (rs : List StoredEdge) (h : ℕ) → AreJoined (shown rs) → h < length rs
    → (stored_at rs h).next < length rs
next_kept_within rs h j within = rw next_shown at (next_within rs h j within)

-- the edge before one of a joined list is in the list
pub prev_kept_within : (rs : List StoredEdge) (h : ℕ) → AreJoined (shown rs) → h < length rs
    → (stored_at rs h).prev < length rs
prev_kept_within rs h j within =
    rw (length_shown, prev_shown) at (j.prev_in h (rw length_shown within))

-- the records that an edge is read from give all its links
pub shown_whole : (rs : List StoredEdge) (h : ℕ) → h < length rs → record {
  origin = (stored_at rs (stored_at rs h).next).prev_origin;
  next = (stored_at rs h).next;
  prev = (stored_at rs h).prev;
  face = (stored_at rs h).face;
} ≡ edge_at (shown rs) h
shown_whole rs h within = sym (shown_at rs h within)

-- reads of a whole directed edge
pub ruleset whole_reads = (shown_whole, origin_shown, next_shown)

-- the same reads, and that the links of a joined list lead to edges of the list
pub ruleset joined_reads = (shown_reads, next_within, next_kept_within, prev_kept_within)
