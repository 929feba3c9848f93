-- A face of an outer edge and a lonely vertex.
-- Lemmas: differs_alone, adds_face, replaces_outer.
use Rattle.std.proofs.Common.{◌≡◌, ◌≢◌, ◌+◌, ◌<◌, [], ◌∷◌, ◌++◌, ◌∙◌}
use Rattle.std.proofs.Common.{ℕ, length, Some, None, sym, ap, inl, inr, arith}
use Rattle.half_edge_links.specs.{AddsFace, AreSoundLinks, Closes, ClosesOuter, Hangs, IsAlone}
use Rattle.half_edge_links.specs.{Mesh, next, OnOuter, origin, out_edge, prev, ReplacesOuter, rev}
use Rattle.half_edge_links.specs.Outline.{HangsOuter}
use Rattle.half_edge_links.proofs.Sound.Parts.{rev_of_even}

-- a vertex without edges is none of an edge's
pub differs_alone : (m : Mesh) (h v : ℕ) → AreSoundLinks m → h < length m.half_edges → IsAlone m v
    → origin m h ≢ v
differs_alone m h v s within alone same =
    let has = (s.edges h within).has_out in
    let none : out_edge m (origin m h) ≡ None = ap (out_edge m) same ∙ alone.1 in
    let clash = rw none at has in
    cc

module _ (m mid new : Mesh) (e v : ℕ) (s : AreSoundLinks m) (outer : OnOuter m e)
    (alone : IsAlone m v) (i : Hangs m mid e v (length m.half_edges)) where
  -- an edge to v and then a face of e and this edge make a face of e and v
  pub adds_face : Closes mid new e (length mid.half_edges) (length mid.face_edges)
      → AddsFace m new e v (length m.half_edges) (length m.face_edges)
  adds_face j =
      let here = s.edges e outer.0 in
      let n_is = i.edge_count in
      let g_is : length mid.face_edges ≡ length m.face_edges = ap length i.face_edges in
      let next_e : next mid e ≡ length m.half_edges = i.next_at in
      let next_next : next mid (next mid e) ≡ length m.half_edges + 1 =
      ap (next mid) next_e ∙ i.there.next in
      let prev_e : prev mid e ≡ prev m e = i.other_prev e outer.0 (λ q. here.proper (sym q)) in
      let two : length m.half_edges + 2 + 1 ≡ length m.half_edges + 3 = omega arith in
      let in_mid = i.edge_count in
      let there_in : length m.half_edges < length mid.half_edges = omega (arith, i.edge_count) in
      let back_in : length m.half_edges + 1 < length mid.half_edges = omega (arith, i.edge_count) in
      let e_in : e < length mid.half_edges = omega (arith, i.edge_count, outer.0) in
      let inside = j.inside in
      let outside = j.outside in
      let before_e = prev_e in
      let off_e : length m.half_edges ≢ e = λ q. absurd (omega (arith, q, outer.0)) in
      let off_before : length m.half_edges + 1 ≢ prev mid e =
      λ q. absurd (omega (arith, q, prev_e, here.prev_in)) in
      let off_second : length m.half_edges + 1 ≢ next mid e =
      λ q. absurd (omega (arith, q, next_e)) in
      let next_back = j.other_next (length m.half_edges + 1) back_in off_before off_second in
      let keep_e =
      j.other_next e e_in (λ q. here.proper (ap (next m) (q ∙ prev_e) ∙ here.next_prev))
      (λ q. off_e (sym (q ∙ next_e))) in
      let prev_there = j.other_prev (length m.half_edges) there_in off_e
      (λ q. absurd (omega (arith, q, next_next))) in
      let o_e = j.origins e e_in in
      let o_there = j.origins (length m.half_edges) there_in in
      let o_back = j.origins (length m.half_edges + 1) back_in in
      let p_e = i.origins e outer.0 in
      let x = i.there in
      let y = i.back in
      let f_first = j.face_first in
      let f_second = j.face_second in
      let f_back = j.other_faces (length m.half_edges + 1) back_in
      (λ q. absurd (omega (arith, q, outer.0))) off_second in
      let zero_face = outer.1 in
      let first_prev = j.prev_first in
      let second_next = j.next_second in
      let after_prev = j.prev_after in
      let before_next = j.next_before in
      record {
        edge = record { origin = cc; next = cc; prev = cc; face = cc };
        there = record { origin = cc; next = cc; prev = cc; face = cc };
        back = record { origin = cc; next = cc; prev = cc; face = cc };
        first = record { origin = cc; next = cc; prev = cc; face = cc };
        last = record { origin = cc; next = cc; prev = cc; face = cc };
        next_before = cc;
        prev_after = j.other_prev (next m e) (omega (arith, i.edge_count, here.next_in)) here.proper
            (λ q. absurd (omega (arith, q, next_next, here.next_in))) ∙ i.prev_at;
        other_next = λ h within a b. j.other_next h (omega (arith, i.edge_count, within))
            (λ q. b (q ∙ prev_e)) (λ q. absurd (omega (arith, q, next_e, within)))
            ∙ i.other_next h within a;
        other_prev = λ h within a b. j.other_prev h (omega (arith, i.edge_count, within)) a
            (λ q. absurd (omega (arith, q, next_next, within))) ∙ i.other_prev h within b;
        origins = λ h within. j.origins h (omega (arith, i.edge_count, within))
            ∙ i.origins h within;
        other_faces = λ h within a. j.other_faces h (omega (arith, i.edge_count, within)) a
            (λ q. absurd (omega (arith, q, next_e, within))) ∙ i.faces h within;
        edge_count = omega (arith, j.edge_count, i.edge_count);
        vertex_count = ap length j.out_edges ∙ i.vertex_count;
        out = rw j.out_edges i.out;
        other_outs = λ u differs. rw j.out_edges (i.other_outs u differs);
        face_edges = j.face_edges ∙ ap (λ fs. fs ++ e ∷ []) i.face_edges;
        outer_edge = j.outer_edge ∙ ap Some (omega (arith, i.edge_count));
      }

  -- outer edge e gives way to one from its start to v and one from v to its end
  pub replaces_outer : Closes mid new e (length mid.half_edges) (length mid.face_edges)
      → HangsOuter m mid e v (length m.half_edges) → ClosesOuter mid new e (length mid.half_edges)
      → ReplacesOuter m new e v (length m.half_edges + 3) (length m.half_edges + 1)
  replaces_outer j a b =
      let n3 : length mid.half_edges + 1 ≡ length m.half_edges + 3 = omega (arith, i.edge_count) in
      let r0 = rev_of_even _ s.even in
      let end : origin mid (rev (next mid e)) ≡ v =
      ap (λ k. origin mid (rev k)) i.next_at ∙ ap (origin mid) r0 ∙ i.back.origin in
      let start = i.origins e outer.0 in
      record {
        kept = λ h p q o stays. b.kept h p q (a.kept h p q o (λ none. none)) (λ gone. elim gone
            [ inl x ↦ stays x | inr x ↦ absurd (omega (arith, x, i.next_at, o.within)) ]);
        made = λ h p q is. elim is [
          | inl x ↦ b.made h p q (x.0 ∙ sym n3, x.1 ∙ sym start, x.2 ∙ sym end)
          | inr x ↦ b.kept h p q (a.made h p q (inr x)) (λ gone. elim gone [
            | inl y ↦ absurd (omega (arith, x.0, y, outer.0))
            | inr y ↦ absurd (omega (arith, x.0, y, i.next_at))
          ])
        ];
        only = λ h p q o. elim (b.only h p q o) [
          | inl x ↦ elim (a.only h p q x.0) [
            | inl y ↦ inl (y.0, λ same. x.1 (inl same))
            | inr (inl z) ↦ absurd (x.1 (inr (z.0 ∙ sym i.next_at)))
            | inr (inr z) ↦ inr (inr z)
          ]
          | inr x ↦ inr (inl (x.0 ∙ n3, x.1 ∙ start, x.2 ∙ end))
        ];
      }
