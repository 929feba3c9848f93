-- The outer face keeps one loop.
-- Notions: SameOuter; outline_same, outline_flipped, outline_inserted, outline_hung,
-- outline_closed, outline_connected.
use Rattle.std.proofs.Common.{◌≡◌, ◌≢◌, ◌+◌, ◌<◌, [], ◌∷◌, ◌∙◌}
use Rattle.std.proofs.Common.{ℕ, zero, suc, List, length, refl, sym, ap, arith}
use Rattle.half_edge_links.specs.{AreSoundLinks, Closes, connected, face, Flips, HalfEdge, Hangs}
use Rattle.half_edge_links.specs.{HasOneOutline, Inserts, IsAlone, IsClosable, IsFlippable}
use Rattle.half_edge_links.specs.{IsInnerEdge, KeepsOneOutline, Mesh, next, OnOuter, origin, prev}
use Rattle.half_edge_links.proofs.Faces.KeepsOuter.{outer_flipped, outer_inserted}
use Rattle.half_edge_links.proofs.{Growing.Close.corner, Relinking.Walks.outline_exchanged}
use Rattle.{half_edge_links.proofs.Lists.Named.◌and◌, half_edge_links.specs.rev}
use Rattle.half_edge_links.proofs.Relinking.Rounds.{stand, stand_first, stand_off, stand_second}
use Rattle.half_edge_links.proofs.Sound.Triangles.{IsTriangle, triangle_at}
use Rattle.half_edge_links.proofs.Faces.FlipSound as turning

-- the outer edges are the same, and follow each other as before
pub record SameOuter (m new : Mesh) : Type 0 where
  pub there : (h : ℕ) → h < length m.half_edges → face m h ≡ 0
      → (h < length new.half_edges) × (face new h ≡ 0) × (next new h ≡ next m h)
  pub was : (h : ℕ) → h < length new.half_edges → face new h ≡ 0
      → (h < length m.half_edges) × (face m h ≡ 0)

-- the outer face keeps one loop where the outer edges and their order stay
pub outline_same : (m new : Mesh) → SameOuter m new → KeepsOneOutline m new
outline_same m new o one among closed h g h_in g_in h_outer g_outer is =
    let a = o.was h h_in h_outer in
    let b = o.was g g_in g_outer in
    one among (λ k k_in outer on. let c = o.there k k_in outer in
    ap among (sym c.2) ∙ closed k c.0 c.1 on) h g a.0 b.0 a.1 b.1 is

-- the outer face keeps one loop when an edge is flipped
pub outline_flipped : (m new : Mesh) (e : ℕ) → AreSoundLinks m → IsFlippable m e → Flips m new e
    → KeepsOneOutline m new
outline_flipped m new e s can f =
    let away = λ (h : ℕ) (outer : face m h ≡ 0). turning.away_by_face m new e s can f h
    (λ q. absurd (omega (arith, q, outer, can.inner)))
    (λ q. absurd (omega (arith, q, outer, can.twin_inner))) in
    outline_same m new (record {
      there = λ h within outer.
          let same = turning.kept m new e s can f h (away h outer) in (
            omega (arith, within, f.edge_count),
            ap (λ (w : HalfEdge). w.face) same ∙ outer,
            ap (λ (w : HalfEdge). w.next) same,
          );
      was = λ h within outer. let o =
          (outer_flipped m new e s can f).only h (origin new h) (origin new (rev h))
          (record { within = within; outer = outer; source = refl; target = refl }) in
          (o.within, o.outer);
    })

-- the outer face keeps one loop when a vertex is put into an inner face
pub outline_inserted : (m new : Mesh) (v a : ℕ) → AreSoundLinks m → IsInnerEdge m a → IsAlone m v
    → Inserts m new v (face m a) a (length m.half_edges) (length m.face_edges)
    → KeepsOneOutline m new
outline_inserted m new v a s inner alone i =
    let t : IsTriangle m a = triangle_at m a s inner.0 inner.1 in
    outline_same m new (record {
      there = λ h within outer.
          let off : (k : ℕ) → face m k ≡ face m a
          → h ≢ k = λ k is q. absurd (omega (arith, inner.1, is, ap (face m) q, outer)) in
          let same = i.other_edges h within (off a refl) (off _ t.face_next) (off _ t.face_prev)
          in (
            omega (arith, within, i.edge_count),
            ap (λ (w : HalfEdge). w.face) same ∙ outer,
            ap (λ (w : HalfEdge). w.next) same,
          );
      was = λ h within outer. let o =
          (outer_inserted m new v a s inner alone i).only h (origin new h) (origin new (rev h))
          (record { within = within; outer = outer; source = refl; target = refl }) in
          (o.within, o.outer);
    })

-- the outer face keeps one loop when an edge from the end of an outer edge to vertex v is made
pub outline_hung : (m new : Mesh) (x v : ℕ) → AreSoundLinks m → OnOuter m x
    → Hangs m new x v (length m.half_edges) → KeepsOneOutline m new
outline_hung m new x v s outer i =
    let n : ℕ = length m.half_edges in
    let more = i.edge_count in
    outline_exchanged m new s [] ((x, n ∷ (n + 1) ∷ [], next m x) ∷ []) [] (record {
      lives = λ h o none. (omega (arith, o.0, more), i.faces h o.0 ∙ o.1);
      left = tt;
      stretched = (outer and tt and refl and i.next_at
          and ((omega (arith, more), i.there.face ∙ outer.1) and refl) and i.there.next
          and ((omega (arith, more), i.back.face ∙ outer.1) and refl) and i.back.next) and tt;
      other = λ h o off. i.other_next h o.0 off;
      kept = λ k o off_0 off_1. let old : k < n = omega (arith, o.0, more, off_0, off_1) in
          (old, sym (i.faces k old) ∙ o.1) and tt and refl;
      alone = tt;
    })

-- the outer face keeps one loop when an outer edge, the next one and a new one get a face
pub outline_closed : (m new : Mesh) (e : ℕ) → AreSoundLinks m → IsClosable m e
    → Closes m new e (length m.half_edges) (length m.face_edges) → KeepsOneOutline m new
outline_closed m new e s can i =
    let c = corner m e s can in
    let n : ℕ = length m.half_edges in
    let second : ℕ = next m e in
    let after : ℕ = next m second in
    let stands : List (ℕ × ℕ) = (e, after) ∷ (second, after) ∷ [] in
    let at_e : stand stands e ≡ after = stand_first e after ((second, after) ∷ []) in
    let at_second : stand stands second ≡ after =
    stand_second e after second after [] (λ q. c.first-second (sym q)) in
    let at_after : stand stands after ≡ after =
    stand_off stands after (c.after-first and (s.edges second c.second_in).proper and tt) in
    outline_exchanged m new s stands ((prev m e, (n + 1) ∷ [], after) ∷ []) [] (record {
      lives = λ h o none. (
        omega (arith, o.0, i.edge_count),
        i.other_faces h o.0 none.0 none.1.0 ∙ o.1,
      );
      left = (at_second ∙ sym at_e) and (at_after ∙ sym at_second) and tt;
      stretched = ((c.before_in, c.before_outer) and (c.before-first and c.before-second and tt)
          and ap (stand stands) c.before_next ∙ at_e and i.next_before
          and ((omega (arith, i.edge_count), i.outside.face) and refl) and i.outside.next) and tt;
      other = λ h o off_before off_e off_second. let back = (s.edges h o.0).prev_next in
          i.other_next h o.0 off_before off_second
          ∙ sym (stand_off stands _ ((λ q. off_before (sym back ∙ ap (prev m) q))
          and (λ q. off_e (sym back ∙ ap (prev m) q ∙ c.second_back)) and tt));
      kept = λ k o off_outside.
          let off_in : k ≢ n = λ q. absurd (omega (arith, o.1, ap (face new) q, i.inside.face)) in
          let off_e : k ≢ e = λ q. absurd (omega (arith, o.1, ap (face new) q, i.face_first)) in
          let off_second : k ≢ second =
          λ q. absurd (omega (arith, o.1, ap (face new) q, i.face_second)) in
          let old : k < n = omega (arith, o.0, i.edge_count, off_in, off_outside) in
          (old, sym (i.other_faces k old off_e off_second) ∙ o.1)
          and (off_e and off_second and tt) and refl;
      alone = tt;
    })

-- the outer face has one loop when the first edge is made
pub outline_connected : (m : Mesh) (a b : ℕ) → HasOneOutline (connected m a b)
outline_connected m a b among closed zero zero h_in g_in p q is = is
outline_connected m a b among closed zero (suc zero) h_in g_in p q is =
    closed 0 (omega arith) refl is
outline_connected m a b among closed (suc zero) zero h_in g_in p q is =
    closed 1 (omega arith) refl is
outline_connected m a b among closed (suc zero) (suc zero) h_in g_in p q is = is
outline_connected m a b among closed h g h_in g_in p q is = absurd (omega arith)
