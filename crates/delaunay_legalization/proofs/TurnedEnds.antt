-- Where directed edges start and end, before and after one edge is turned.
-- Notions: KeepsOtherOrigins; other_ends_stay, ends_at_next.
use Rattle.std.proofs.Common.{◌≡◌, ◌≢◌, ℕ, ◌<◌, length, sym, ap, ◌∙◌}
use Rattle.half_edge_links.specs.{AreSoundLinks, Mesh, next, origin, rev}
use Rattle.half_edge_links.proofs.{rev-rev}

-- all directed edges but the two of edge e start where they did
abbrev pub KeepsOtherOrigins : Mesh → Mesh → ℕ → Type 0
KeepsOtherOrigins m new e = (h : ℕ) → h ≢ e → h ≢ rev e → origin new h ≡ origin m h

-- so they end where they did
pub other_ends_stay : (m new : Mesh) (e : ℕ) → KeepsOtherOrigins m new e
    → (h : ℕ) → h ≢ e → h ≢ rev e → origin new (rev h) ≡ origin m (rev h)
other_ends_stay m new e kept h n t =
    kept (rev h) (λ r. t (sym (rev-rev h) ∙ ap rev r))
    (λ r. n (sym (rev-rev h) ∙ ap rev r ∙ rev-rev e))

-- a directed edge ends where the next one starts
pub ends_at_next : (m : Mesh) → AreSoundLinks m → (h i : ℕ) → h < length m.half_edges → next m h ≡ i
    → origin m (rev h) ≡ origin m i
ends_at_next m s h i within is = sym (s.edges h within).starts ∙ ap (origin m) is
