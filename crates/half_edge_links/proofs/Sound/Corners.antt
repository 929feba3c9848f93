-- The corners of the faces where no inner face changes.
-- Lemmas: triangles_hung, triangles_closed.
use Rattle.std.proofs.Common.{◌≡◌, ◌+◌, ◌-◌, ◌<◌, [], ◌∷◌, ◌++◌, ◌∙◌}
use Rattle.std.proofs.Common.{ℕ, List, length, map, sym, ap, arith}
use Rattle.std.proofs.lemmas.List.{same_lists, get_or-map, length-map, map-append}
use Rattle.half_edge_links.specs.{AddsTriangle, AreSoundLinks, Closes, face, Hangs, IsAlone}
use Rattle.half_edge_links.specs.{IsClosable, Mesh, next, OnOuter, origin, prev, rev, Triangle}
use Rattle.half_edge_links.specs.{triangle_at, triangles}
use Rattle.half_edge_links.proofs.{Growing.Close.corner, Growing.Hang.after_outer}

module _ (m new : Mesh) (s : AreSoundLinks m) (same : (h : ℕ) → h < length m.half_edges
    → 0 < face m h → triangle_at new h ≡ triangle_at m h) where
  mapped : map (triangle_at new) m.face_edges ≡ triangles m
  mapped =
      same_lists _ _ (length-map m.face_edges (triangle_at new)
      ∙ sym (length-map m.face_edges (triangle_at m))) (λ k d within.
      let in_list : k < length m.face_edges =
      omega (arith, within, length-map m.face_edges (triangle_at new)) in
      let step : k + 1 - 1 ≡ k = omega arith in
      let had = rw step at (s.faces (k + 1) (omega arith) (omega arith)) in
      get_or-map (triangle_at new) m.face_edges k 0 d in_list ∙ same _ had.0 (omega (arith, had.1))
      ∙ sym (get_or-map (triangle_at m) m.face_edges k 0 d in_list))

  triangles_kept : new.face_edges ≡ m.face_edges → triangles new ≡ triangles m
  triangles_kept is = ap (map (triangle_at new)) is ∙ mapped

  triangles_added : (h : ℕ) → new.face_edges ≡ m.face_edges ++ h ∷ []
      → triangles new ≡ triangles m ++ triangle_at new h ∷ []
  triangles_added h is = ap (map (triangle_at new)) is ∙ map-append (triangle_at new) m.face_edges
      (h ∷ []) ∙ ap (λ (q : List Triangle). q ++ triangle_at new h ∷ []) mapped

-- no face has other corners once a lonely vertex is joined to the end of an outer edge
pub triangles_hung : (m new : Mesh) (x v : ℕ) → AreSoundLinks m → OnOuter m x → IsAlone m v
    → Hangs m new x v (length m.half_edges) → triangles new ≡ triangles m
triangles_hung m new x v s outer alone i =
    triangles_kept m new s (λ h within some.
    let here = s.edges h within in
    let a = i.other_next h within (λ q. absurd (omega (arith, some, ap (face m) q, outer.1))) in
    let b = i.other_prev h within
    (λ q. absurd (omega (arith, some, ap (face m) q, after_outer m new x v s outer alone i))) in
    let o1 = i.origins h within in
    let o2 = i.origins (next m h) here.next_in in
    let o3 = i.origins (prev m h) here.prev_in in
    cc) i.face_edges

-- a new face of edge e, the next one and a new edge has their three corners; the other faces stay
pub triangles_closed : (m new : Mesh) (e : ℕ) → AreSoundLinks m → IsClosable m e
    → Closes m new e (length m.half_edges) (length m.face_edges)
    → AddsTriangle m new (origin m e) (origin m (next m e)) (origin m (rev (next m e)))
triangles_closed m new e s can i =
    let p = corner m e s can in
    let a = i.other_next e can.within (λ q. p.before-first (sym q)) p.first-second in
    let b = i.prev_first in
    let n = i.inside in
    let o1 = i.origins e can.within in
    let o2 = i.origins (next m e) p.second_in in
    let end = p.end in
    let at : triangle_at new e ≡ record {
      first = origin m e;
      second = origin m (next m e);
      third = origin m (rev (next m e));
    } = cc in
    rw (← at) (triangles_added m new s (λ h within some.
    let here = s.edges h within in
    let a = i.other_next h within (λ q. absurd (omega (arith, some, ap (face m) q, p.before_outer)))
    (λ q. absurd (omega (arith, some, ap (face m) q, p.second_outer))) in
    let b = i.other_prev h within (λ q. absurd (omega (arith, some, ap (face m) q, can.outer)))
    (λ q. absurd (omega (arith, some, ap (face m) q, p.after_outer))) in
    let o1 = i.origins h within in
    let o2 = i.origins (next m h) here.next_in in
    let o3 = i.origins (prev m h) here.prev_in in
    cc) e i.face_edges)
