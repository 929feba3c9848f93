-- An edge of a line is split, and a line is extended at a vertex.
-- Lemmas: line_outer, splits_line, splits_outer, into_outer, into_ends.
use Rattle.std.proofs.Common.{◌≡◌, ◌≢◌, ℕ, ◌+◌, ◌<◌, length, Some, sym, ap, ◌∙◌, inl, inr, arith}
use Rattle.std.proofs.lemmas.Bool.{cases_eq}
use Rattle.half_edge_links.specs.{AreSoundLinks, face, Hangs, IsAlone, IsOuterEdge, Mesh, next}
use Rattle.half_edge_links.specs.{OnOuter, origin, out_edge, prev, rev, SplitsOuter}
use Rattle.half_edge_links.specs.Grow.{IsLineEdge, IsOnLine, Slides, SplitsLine}
use Rattle.half_edge_links.proofs.{Growing.FaceBeside.differs_alone, Lists.Cases.◌or_else◌}
use Rattle.half_edge_links.proofs.Lists.Rev.{rev-rev, rev_differs, rev_within}
use Rattle.half_edge_links.proofs.OuterLoop.Outer.{at_edge, is_edge, same_outer}
use Rattle.half_edge_links.proofs.Sound.Parts.{HasNoFace, rev_of_even, rev_of_odd}

-- an edge of a mesh without inner faces is outer
pub line_outer : (m : Mesh) (e : ℕ) → AreSoundLinks m → IsLineEdge m e → OnOuter m e
line_outer m e s line = (line.0, omega (arith, (s.edges e line.0).face_in, ap length line.1))

module _ (m mid new : Mesh) (e v : ℕ) (s : AreSoundLinks m) (line : IsLineEdge m e)
    (alone : IsAlone m v) (i : Hangs m mid e v (length m.half_edges)) where
  face_zero : HasNoFace m
  face_zero h within = omega (arith, (s.edges h within).face_in, ap length line.1)

  twin_in : rev e < length m.half_edges
  twin_in = rev_within e _ s.even line.0

  -- the edge before the other side of e
  before_at_end : next m e ≡ rev e → prev mid (rev e) ≡ length m.half_edges + 1
  before_at_end q = ap (prev mid) (sym q) ∙ i.prev_at

  before_else : next m e ≢ rev e → prev mid (rev e) ≡ prev m (rev e)
  before_else differs = i.other_prev (rev e) twin_in (λ q. differs (sym q))

  off_before : (h : ℕ) → h < length m.half_edges → h ≢ prev m (rev e) → h ≢ prev mid (rev e)
  off_before h within differs q =
      elim (cases_eq (next m e) (rev e)) [
        | inl same ↦ absurd (omega (arith, within, q ∙ before_at_end same))
        | inr other ↦ differs (q ∙ before_else other)
      ]

  -- an edge from the end of e to v, and then a move of e to v, split e at v
  pub splits_line : Slides mid new e (next mid e) (next mid (next mid e))
      → SplitsLine m new e v (length m.half_edges)
  splits_line j =
      let here = s.edges e line.0 in
      let twin = s.edges (rev e) twin_in in
      let there_in : length m.half_edges < length mid.half_edges = omega (arith, i.edge_count) in
      let back_in : length m.half_edges + 1 < length mid.half_edges = omega (arith, i.edge_count) in
      let e_in = line.0 in
      let t_in = twin_in in
      let n_is : next mid e ≡ length m.half_edges = i.next_at in
      let l_is = ap (next mid) i.next_at ∙ i.there.next in
      let w_is = ap (origin mid) i.next_at ∙ i.there.origin ∙ (s.edges e line.0).starts in
      record {
        next_edge = j.next_edge ∙ l_is;
        prev_second = ap (prev new) (sym l_is) ∙ j.prev_back;
        next_back = ap (next new) (sym n_is) ∙ j.next_there;
        prev_twin = j.prev_twin ∙ n_is;
        next_second = λ inside. j.other_next (length m.half_edges + 1) back_in
            (λ q. absurd (omega (arith, q, e_in)))
            (λ q. absurd (omega (arith, q ∙ before_else inside, twin.prev_in)))
            (λ q. absurd (omega (arith, q ∙ n_is))) ∙ i.back.next;
        prev_after = λ inside. j.other_prev (next m e) (omega (arith, here.next_in, i.edge_count))
            (λ q. absurd (omega (arith, q ∙ l_is, here.next_in)))
            (λ q. absurd (omega (arith, q ∙ n_is, here.next_in))) inside ∙ i.prev_at;
        next_before = λ inside. ap (next new) (sym (before_else inside)) ∙ j.next_before ∙ n_is;
        prev_back = λ inside. ap (prev new) (sym n_is) ∙ j.prev_there ∙ before_else inside;
        next_at_end = λ at_end. ap (next new) (sym (before_at_end at_end)) ∙ j.next_before ∙ n_is;
        prev_at_end = λ at_end. ap (prev new) (sym n_is) ∙ j.prev_there ∙ before_at_end at_end;
        other_next = λ h within a b. j.other_next h (omega (arith, within, i.edge_count)) a
            (off_before h within b) (λ q. absurd (omega (arith, within, q ∙ n_is)))
            ∙ i.other_next h within a;
        other_prev = λ h within a b. j.other_prev h (omega (arith, within, i.edge_count))
            (λ q. absurd (omega (arith, within, q ∙ l_is)))
            (λ q. absurd (omega (arith, within, q ∙ n_is))) b ∙ i.other_prev h within a;
        origin_second = j.other_origins (length m.half_edges + 1) back_in
            (λ q. absurd (omega (arith, q, t_in))) ∙ i.back.origin;
        origin_back = j.other_origins (length m.half_edges) there_in
            (λ q. absurd (omega (arith, q, t_in))) ∙ i.there.origin ∙ here.starts;
        origin_twin = j.origin_twin ∙ ap (origin mid) l_is ∙ i.back.origin;
        other_origins = λ h within differs. j.other_origins h
            (omega (arith, within, i.edge_count)) differs ∙ i.origins h within;
        faces = λ h within. j.faces h (omega (arith, within, i.edge_count))
            ∙ elim (cases_eq h (length m.half_edges) or_else cases_eq h (length m.half_edges + 1)) [
              | inl same ↦ ap (face mid) same ∙ i.there.face ∙ face_zero e line.0
              | inr (p, inl same) ↦ ap (face mid) same ∙ i.back.face ∙ face_zero e line.0
              | inr (p, inr q) ↦ let old : h < length m.half_edges = omega (arith, within, p, q) in
                  i.faces h old ∙ face_zero h old
            ];
        edge_count = j.edge_count ∙ i.edge_count;
        vertex_count = j.vertex_count ∙ i.vertex_count;
        out = j.other_outs v (λ q. differs_alone m (rev e) v s t_in alone (sym (q ∙ w_is))) ∙ i.out;
        out_end = ap (out_edge new) (sym w_is) ∙ j.out ∙ ap Some n_is;
        other_outs = λ u a b. j.other_outs u (λ q. b (q ∙ w_is)) ∙ i.other_outs u a;
        face_edges = j.face_edges ∙ i.face_edges ∙ line.1;
        outer_edge = j.outer_edge ∙ i.outer_edge;
      }

  -- both sides of e give way to those of an edge to v and one from v, as outer edges
  pub splits_outer : SplitsLine m new e v (length m.half_edges)
      → SplitsOuter m new e v (length m.half_edges)
  splits_outer j =
      let r0 = rev_of_even _ s.even in
      let r1 = rev_of_odd _ s.even in
      let n = j.edge_count in
      let e_in = line.0 in
      let t_in = twin_in in
      let off_twin : e ≢ rev e = λ q. rev_differs e (sym q) in
      let first : IsOuterEdge new e (origin m e) v = record {
        within = omega (arith, n, e_in);
        outer = j.faces e (omega (arith, e_in));
        source = j.other_origins e e_in off_twin;
        target = j.origin_twin;
      } in
      let second : IsOuterEdge new (length m.half_edges + 1) v (origin m (rev e)) = record {
        within = omega (arith, n);
        outer = j.faces _ (omega arith);
        source = j.origin_second;
        target = ap (origin new) r1 ∙ j.origin_back;
      } in
      let third : IsOuterEdge new (length m.half_edges) (origin m (rev e)) v = record {
        within = omega (arith, n);
        outer = j.faces _ (omega arith);
        source = j.origin_back;
        target = ap (origin new) r0 ∙ j.origin_second;
      } in
      let fourth : IsOuterEdge new (rev e) v (origin m e) = record {
        within = omega (arith, n, t_in);
        outer = j.faces _ (omega (arith, t_in));
        source = j.origin_twin;
        target = ap (origin new) (rev-rev e) ∙ j.other_origins e e_in off_twin;
      } in
      record {
        kept = λ h a b o stays.
            same_outer m new h a b o (omega (arith, n, o.within))
            (j.faces h (omega (arith, o.within)) ∙ sym o.outer)
            (j.other_origins h o.within (λ q. stays (inr q)))
            (j.other_origins (rev h) (rev_within h _ s.even o.within)
            (λ q. stays (inl (sym (rev-rev h) ∙ ap rev q ∙ rev-rev e))));
        made = λ h a b is. elim is [
          | inl x ↦ elim x
              [ inl y ↦ at_edge new h a b _ _ _ first y | inr y ↦ at_edge new h a b _ _ _ second y ]
          | inr x ↦ elim x
              [ inl y ↦ at_edge new h a b _ _ _ third y | inr y ↦ at_edge new h a b _ _ _ fourth y ]
        ];
        only = λ h a b o. elim (cases_eq e h or_else cases_eq (length m.half_edges + 1) h or_else
            cases_eq (length m.half_edges) h or_else cases_eq (rev e) h) [
              | inl same ↦ inr (inl (inl (is_edge new h a b _ _ _ o first same)))
              | inr (not_first, inl same) ↦ inr (inl (inr (is_edge new h a b _ _ _ o second same)))
              | inr (not_first, inr (not_second, inl same)) ↦
                  inr (inr (inl (is_edge new h a b _ _ _ o third same)))
              | inr (not_first, inr (not_second, inr (not_third, inl same))) ↦
                  inr (inr (inr (is_edge new h a b _ _ _ o fourth same)))
              | inr (not_first, inr (not_second, inr (not_third, inr not_fourth))) ↦
                  let within : h < length m.half_edges =
                  omega (arith, o.within, n, not_second, not_third) in
                  inl (
                    same_outer new m h a b o within (face_zero h within ∙ sym o.outer)
                        (sym (j.other_origins h within (λ q. not_fourth (sym q))))
                        (sym (j.other_origins (rev h) (rev_within h _ s.even within)
                        (λ q. not_first (sym (sym (rev-rev h) ∙ ap rev q ∙ rev-rev e))))),
                    λ gone. elim gone [ inl x ↦ not_first (sym x) | inr x ↦ not_fourth (sym x) ],
                  )
            ];
      }

-- the reverse of the edge that a vertex of a line names is outer
pub into_outer : (m : Mesh) (u h : ℕ) → AreSoundLinks m → IsOnLine m u → out_edge m u ≡ Some h
    → OnOuter m (rev h)
into_outer m u h s line is =
    let had = s.vertices u h is in
    let within : rev h < length m.half_edges = rev_within h _ s.even had.0 in
    (within, omega (arith, (s.edges (rev h) within).face_in, ap length line.one_face))

-- the reverse of the edge that a vertex names ends at the vertex
pub into_ends : (m : Mesh) (u h : ℕ) → AreSoundLinks m → out_edge m u ≡ Some h
    → origin m (rev (rev h)) ≡ u
into_ends m u h s is = ap (origin m) (rev-rev h) ∙ (s.vertices u h is).1
