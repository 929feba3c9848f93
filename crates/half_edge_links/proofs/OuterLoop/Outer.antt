-- The outer edges after a call.
-- Lemmas: same_outer, at_edge, is_edge, outer_hung, outer_closed.
use Rattle.std.proofs.Common.{◌≡◌, ◌≢◌, ℕ, ◌+◌, ◌<◌, length, sym, ap, ◌∙◌, inl, inr, arith}
use Rattle.std.proofs.lemmas.Bool.{cases_eq}
use Rattle.half_edge_links.specs.{AreSoundLinks, Closes, ClosesOuter, face, Hangs, IsClosable}
use Rattle.half_edge_links.specs.{IsOuterEdge, IsThis, Mesh, next, OnOuter, origin, rev}
use Rattle.half_edge_links.proofs.{Growing.Close.corner, Lists.Cases.◌or_else◌}
use Rattle.{half_edge_links.proofs.Lists.Rev.rev_within, half_edge_links.specs.Outline.HangsOuter}
use Rattle.half_edge_links.proofs.Sound.Parts.{rev_of_even, rev_of_odd}

-- an edge whose face and ends stay
pub same_outer : (m new : Mesh) (h a b : ℕ) → IsOuterEdge m h a b → h < length new.half_edges
    → face new h ≡ face m h → origin new h ≡ origin m h → origin new (rev h) ≡ origin m (rev h)
    → IsOuterEdge new h a b
same_outer m new h a b o within f x y =
    record { within = within; outer = f ∙ o.outer; source = x ∙ o.source; target = y ∙ o.target }

-- what has the index and the ends of an outer edge is this outer edge
pub at_edge : (m : Mesh) (h a b i p q : ℕ) → IsOuterEdge m i p q → IsThis i p q h a b
    → IsOuterEdge m h a b
at_edge m h a b i p q o is = rw (is.0, is.1, is.2) o

-- two outer edges with the same index have the same ends
pub is_edge : (m : Mesh) (h a b i p q : ℕ) → IsOuterEdge m h a b → IsOuterEdge m i p q → i ≡ h
    → IsThis i p q h a b
is_edge m h a b i p q o made same = (
  sym same,
  sym o.source ∙ ap (origin m) (sym same) ∙ made.source,
  sym o.target ∙ ap (λ k. origin m (rev k)) (sym same) ∙ made.target,
)

-- an edge from the end of outer edge x to vertex v and back makes two outer edges; the others stay
pub outer_hung : (m new : Mesh) (x v : ℕ) → AreSoundLinks m → OnOuter m x
    → Hangs m new x v (length m.half_edges) → HangsOuter m new x v (length m.half_edges)
outer_hung m new x v s outer i =
    let here = s.edges x outer.0 in
    let r0 = rev_of_even _ s.even in
    let r1 = rev_of_odd _ s.even in
    let there : IsOuterEdge new (length m.half_edges) (origin m (rev x)) v = record {
      within = omega (arith, i.edge_count);
      outer = i.there.face ∙ outer.1;
      source = i.there.origin ∙ here.starts;
      target = ap (origin new) r0 ∙ i.back.origin;
    } in
    let back : IsOuterEdge new (length m.half_edges + 1) v (origin m (rev x)) = record {
      within = omega (arith, i.edge_count);
      outer = i.back.face ∙ outer.1;
      source = i.back.origin;
      target = ap (origin new) r1 ∙ i.there.origin ∙ here.starts;
    } in
    record {
      kept = λ h a b o stays. same_outer m new h a b o (omega (arith, i.edge_count, o.within))
          (i.faces h o.within) (i.origins h o.within)
          (i.origins (rev h) (rev_within h _ s.even o.within));
      made = λ h a b is. elim is
          [ inl q ↦ at_edge new h a b _ _ _ there q | inr q ↦ at_edge new h a b _ _ _ back q ];
      only = λ h a b o. elim
          (cases_eq (length m.half_edges) h or_else cases_eq (length m.half_edges + 1) h) [
            | inl same ↦ inr (inl (is_edge new h a b _ _ _ o there same))
            | inr (p, inl same) ↦ inr (inr (is_edge new h a b _ _ _ o back same))
            | inr (p, inr q) ↦
                let within : h < length m.half_edges = omega (arith, o.within, i.edge_count) in
                inl (
                  same_outer new m h a b o within (sym (i.faces h within))
                      (sym (i.origins h within))
                      (sym (i.origins (rev h) (rev_within h _ s.even within))),
                  λ none. none,
                )
          ];
    }

-- where e, the next edge and a new one get a face, the other side of the new one replaces both as
-- outer edge
pub outer_closed : (m new : Mesh) (e : ℕ) → AreSoundLinks m → IsClosable m e
    → Closes m new e (length m.half_edges) (length m.face_edges)
    → ClosesOuter m new e (length m.half_edges)
outer_closed m new e s can i =
    let p = corner m e s can in
    let r1 = rev_of_odd _ s.even in
    let made : IsOuterEdge new (length m.half_edges + 1) (origin m e) (origin m (rev (next m e))) =
    record {
      within = omega (arith, i.edge_count);
      outer = i.outside.face;
      source = i.outside.origin;
      target = ap (origin new) r1 ∙ i.inside.origin ∙ p.end;
    } in
    record {
      kept = λ h a b o stays. same_outer m new h a b o (omega (arith, i.edge_count, o.within))
          (i.other_faces h o.within (λ q. stays (inl q)) (λ q. stays (inr q)))
          (i.origins h o.within) (i.origins (rev h) (rev_within h _ s.even o.within));
      made = λ h a b is. at_edge new h a b _ _ _ made is;
      only = λ h a b o. elim (cases_eq (length m.half_edges + 1) h) [
        | inl same ↦ inr (is_edge new h a b _ _ _ o made same)
        | inr q ↦
            let off_inside : h ≢ length m.half_edges =
            λ same. absurd (omega (arith, sym o.outer ∙ ap (face new) same ∙ i.inside.face)) in
            let within : h < length m.half_edges = omega (arith, o.within, i.edge_count) in
            let off_first : h ≢ e =
            λ same. absurd (omega (arith, sym o.outer ∙ ap (face new) same ∙ i.face_first)) in
            let off_second : h ≢ next m e =
            λ same. absurd (omega (arith, sym o.outer ∙ ap (face new) same ∙ i.face_second)) in
            inl (
              same_outer new m h a b o within (sym (i.other_faces h within off_first off_second))
                  (sym (i.origins h within))
                  (sym (i.origins (rev h) (rev_within h _ s.even within))),
              λ gone. elim gone [ inl x ↦ off_first x | inr x ↦ off_second x ],
            )
      ];
    }
