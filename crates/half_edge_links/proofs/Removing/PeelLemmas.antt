-- An edge between an inner face and the outer one can be removed once the face is open, and one
-- face is less.
-- Lemmas: removable_opened, peels_faces.
use Rattle.std.proofs.Common.{ℕ, ◌+◌, ◌≡◌, length, refl, sym, ap, ◌∙◌, arith}
use Rattle.half_edge_links.specs.{AreSoundLinks, face, Mesh, Opens, Peels, prev, rev}
use Rattle.half_edge_links.proofs.Lists.Rev.{rev_within}
use Rattle.half_edge_links.proofs.Removing.Conditions.{IsHullEdge, IsUnlinkable}

-- an edge of the hull can be taken out once the face on its left is given to the outer one
pub removable_opened : (m new : Mesh) (h : ℕ) → AreSoundLinks m → IsHullEdge m h
    → Opens m new (face m h) → IsUnlinkable new h
removable_opened m new h s can o =
    let t_in = rev_within h (length m.half_edges) s.even can.within in
    let here = s.edges h can.within in
    let there = s.edges (rev h) t_in in
    let before = s.edges (prev m h) here.prev_in in
    let twin_before = s.edges (prev m (rev h)) there.prev_in in
    record {
      within = rw o.edge_count can.within;
      outer = o.gone h can.within refl;
      twin_outer = o.other (rev h) t_in (λ z. absurd (omega (arith, z, can.inner, can.outer)))
          (λ z. absurd (omega (arith, z, can.inner, can.outer, here.face_in))) ∙ can.outer;
      ends = λ z. can.ends (sym (o.origin h) ∙ z ∙ o.origin (rev h));
      start_alone = λ q k within is. absurd (omega (
        arith,
        can.inner,
        can.outer,
        there.same_face,
        ap (face m) (sym (o.next (rev h)) ∙ q),
      ));
      end_alone = λ q k within is. absurd
          (omega (arith, can.inner, can.outer, here.same_face, ap (face m) (sym (o.next h) ∙ q)));
      start_free =
          λ q. absurd (omega (
            arith,
            can.inner,
            can.outer,
            there.same_face,
            before.same_face,
            ap (face m) (sym (o.next (rev h)) ∙ q ∙ o.prev h),
            ap (face m) here.next_prev,
          ));
      end_free =
          λ q. absurd (omega (
            arith,
            can.inner,
            can.outer,
            here.same_face,
            twin_before.same_face,
            ap (face m) (sym (o.prev (rev h)) ∙ q ∙ o.next h),
            ap (face m) there.next_prev,
          ));
      whole = λ q p. absurd
          (omega (arith, can.inner, can.outer, here.same_face, ap (face m) (sym (o.next h) ∙ q)));
    }

-- where an edge is peeled off, one inner face is less
pub peels_faces : (m new : Mesh) (h : ℕ) → Peels m new h
    → length new.face_edges + 1 ≡ length m.face_edges
peels_faces m new h p = omega (arith, p.opens.face_count, p.removes.face_count)
