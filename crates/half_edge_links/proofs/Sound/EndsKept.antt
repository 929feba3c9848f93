-- The ends of the edges after each call.
-- Lemmas: ends_hung, ends_closed, ends_beside, ends_line, ends_flipped_is, ends_inserted_is,
-- ends_half.
use Rattle.std.proofs.Common.{◌≡◌, ◌+◌, ◌/◌, ◌<◌, [], ◌∷◌, ◌∙◌}
use Rattle.std.proofs.Common.{ℕ, zero, suc, length, get_or, refl, ap, arith, append_assoc}
use Rattle.std.proofs.Common.{add-zero}
use Rattle.std.proofs.lemmas.List.{set-append_left}
use Rattle.half_edge_links.specs.{AddsFace, along, AreSoundLinks, Closes, ends, flipped, Hangs}
use Rattle.half_edge_links.specs.{inserted, IsAlone, IsClosable, IsFlippable, IsHalfSplittable}
use Rattle.half_edge_links.specs.{IsInnerEdge, Mesh, MovesEdge, next, OnOuter, origin, prev, rev}
use Rattle.half_edge_links.specs.{Grow.IsLineEdge, Outline.SplitsLineEnds}
use Rattle.half_edge_links.specs.Outline.{AddsEdge, AddsTwoEdges, HalfSplitsEnds, InsertsEnds}
use Rattle.half_edge_links.proofs.{Faces.FlipLemmas.flips, Sound.Parts.rev_of_even}
use Rattle.half_edge_links.proofs.{Faces.FlipSound.origin_kept, Faces.InsertLemmas.inserts}
use Rattle.half_edge_links.proofs.{Growing.Close.corner, Lists.Rev.rev-rev}
use Rattle.half_edge_links.proofs.Sound.Ends.{ends_grown, ends_moved, length-ends}
use Rattle.half_edge_links.proofs.Faces.InsertSound as inserting
use Rattle.half_edge_links.proofs.Growing.HalfSplit as halves

-- where two new edges start, read from a list
two : (m new : Mesh) (a b : ℕ) → origin new (length m.half_edges) ≡ a
    → origin new (length m.half_edges + 1) ≡ b → (j : ℕ) → j < 2
    → origin new (length m.half_edges + j) ≡ get_or (a ∷ b ∷ []) j 0
two m new a b x y zero within = rw add-zero x
two m new a b x y (suc zero) within = y
two m new a b x y (suc (suc j)) within = absurd (omega (arith, within))

-- where six new edges start, read from a list
six : (m new : Mesh) (a b c d e f : ℕ) → origin new (length m.half_edges) ≡ a
    → origin new (length m.half_edges + 1) ≡ b → origin new (length m.half_edges + 2) ≡ c
    → origin new (length m.half_edges + 3) ≡ d → origin new (length m.half_edges + 4) ≡ e
    → origin new (length m.half_edges + 5) ≡ f → (j : ℕ) → j < 6
    → origin new (length m.half_edges + j) ≡ get_or (a ∷ b ∷ c ∷ d ∷ e ∷ f ∷ []) j 0
six m new a b c d e f x0 x1 x2 x3 x4 x5 zero within = rw add-zero x0
six m new a b c d e f x0 x1 x2 x3 x4 x5 (suc zero) within = x1
six m new a b c d e f x0 x1 x2 x3 x4 x5 (suc (suc zero)) within = x2
six m new a b c d e f x0 x1 x2 x3 x4 x5 (suc (suc (suc zero))) within = x3
six m new a b c d e f x0 x1 x2 x3 x4 x5 (suc (suc (suc (suc zero)))) within = x4
six m new a b c d e f x0 x1 x2 x3 x4 x5 (suc (suc (suc (suc (suc zero))))) within = x5
six m new a b c d e f x0 x1 x2 x3 x4 x5 (suc (suc (suc (suc (suc (suc j)))))) within =
    absurd (omega (arith, within))

-- an edge between the end of outer edge x and vertex v is added, and no other ends change
pub ends_hung : (m new : Mesh) (x v : ℕ) → AreSoundLinks m → OnOuter m x
    → Hangs m new x v (length m.half_edges) → AddsEdge m new (origin m (rev x)) v
ends_hung m new x v s outer i =
    ends_grown m new s (origin m (rev x) ∷ v ∷ []) i.edge_count i.origins
    (two m new (origin m (rev x)) v (i.there.origin ∙ (s.edges x outer.0).starts) i.back.origin)

-- a new face of e, the next edge and a new one adds an edge from the end of the next one to the
-- start of e
pub ends_closed : (m new : Mesh) (e : ℕ) → AreSoundLinks m → IsClosable m e
    → Closes m new e (length m.half_edges) (length m.face_edges)
    → AddsEdge m new (origin m (rev (next m e))) (origin m e)
ends_closed m new e s can i =
    ends_grown m new s (origin m (rev (next m e)) ∷ origin m e ∷ []) i.edge_count i.origins
    (two m new (origin m (rev (next m e))) (origin m e)
    (i.inside.origin ∙ (corner m e s can).end) i.outside.origin)

-- a new face of outer edge e and vertex v adds the edges from the end of e to v and from v to its
-- start
pub ends_beside : (m mid new : Mesh) (e v : ℕ) → AreSoundLinks m → OnOuter m e
    → Hangs m mid e v (length m.half_edges) → AddsEdge m mid (origin m (rev e)) v
    → AddsEdge mid new (origin mid (rev (next mid e))) (origin mid e)
    → AddsTwoEdges m new (origin m (rev e)) v v (origin m e)
ends_beside m mid new e v s outer i a b =
    let r0 = rev_of_even _ s.even in
    let end : origin mid (rev (next mid e)) ≡ v =
    ap (λ k. origin mid (rev k)) i.next_at ∙ ap (origin mid) r0 ∙ i.back.origin in
    let start = i.origins e outer.0 in
    rw (b, a, end, start, append_assoc) refl

-- edge e of a line that is split goes to v, and an edge from its former end to v is added
pub ends_line : (m mid new : Mesh) (e v : ℕ) → AreSoundLinks m → IsLineEdge m e
    → Hangs m mid e v (length m.half_edges) → AddsEdge m mid (origin m (rev e)) v
    → MovesEdge mid new e (origin mid e) (origin mid (next mid (next mid e)))
    → SplitsLineEnds m new e v
ends_line m mid new e v s line i a b =
    let start = i.origins e line.0 in
    let far : origin mid (next mid (next mid e)) ≡ v =
    ap (origin mid) (ap (next mid) i.next_at ∙ i.there.next) ∙ i.back.origin in
    let place : e / 2 < length (ends m) = length-ends m e s line.0 in
    rw (b, a, start, far)
    (set-append_left (ends m) (record { source = origin m (rev e); target = v } ∷ []) (e / 2)
    (along e (origin m e) v) place)

-- a flipped edge joins the two corners that were opposite it; no other ends change
pub ends_flipped_is : (m new : Mesh) (e : ℕ) → AreSoundLinks m → IsFlippable m e → new ≡ flipped m e
    → MovesEdge m new e (origin m (prev m e)) (origin m (prev m (rev e)))
ends_flipped_is m new e s can is =
    let f = flips m e s can in
    rw is (ends_moved m (flipped m e) e _ _ s can.within f.edge_count f.edge.origin f.twin.origin
    (λ h within a b. origin_kept m (flipped m e) e s can f h a b))

-- a vertex that is put into an inner face is joined to its three corners; no other ends change
pub ends_inserted_is : (m new : Mesh) (v a : ℕ) → AreSoundLinks m → IsInnerEdge m a → IsAlone m v
    → new ≡ inserted m v a → InsertsEnds m new v a
ends_inserted_is m new v a s inner alone is =
    let i = inserts m v a s inner alone in
    rw is (ends_grown m (inserted m v a) s
    (origin m a ∷ v ∷ origin m (next m a) ∷ v ∷ origin m (prev m a) ∷ v ∷ []) i.edge_count
    (inserting.origin_kept m (inserted m v a) v _ a _ _ s inner alone refl refl refl i)
    (six m (inserted m v a) _ _ _ _ _ _ i.from_first.origin i.to_first.origin i.from_second.origin
    i.to_second.origin i.from_third.origin i.to_third.origin))

-- an edge of the hull that is split joins the corner opposite it and v; two edges for its halves
-- are added
pub ends_half : (m mid new : Mesh) (e v : ℕ) → AreSoundLinks m → IsHalfSplittable m e
    → AddsFace m mid (rev e) v (length m.half_edges) (length m.face_edges)
    → AddsTwoEdges m mid (origin m (rev (rev e))) v v (origin m (rev e))
    → MovesEdge mid new e (origin mid (prev mid e)) (origin mid (prev mid (rev e)))
    → HalfSplitsEnds m new e v
ends_half m mid new e v s half i a b =
    let apex = halves.apex_is m mid e v s half i in
    let at_v = halves.new_corner m mid e v s half i in
    let place : e / 2 < length (ends m) = length-ends m e s half.within in
    rw (b, a, apex, at_v, rev-rev) (set-append_left (ends m) (record
    { source = origin m e; target = v } ∷ record { source = v; target = origin m (rev e) } ∷ [])
    (e / 2) (along e (origin m (prev m e)) v) place)
