-- What the links are after an outer edge and the next one got a face.
-- Notions: ClosesEdges; closes_edges.
use Rattle.std.proofs.Common.{◌≡◌, ◌≢◌, ℕ, ◌+◌, ◌<◌, List, length, refl, sym, ap, ◌∙◌}
use Rattle.half_edge_links.specs.{closed_edges, edge_at, HalfEdge, no_edge, with_face, with_next}
use Rattle.half_edge_links.specs.{with_prev}
use Rattle.half_edge_links.proofs.Lists.Writes.{length-two, two_at_0, two_at_1, two_before}
use Rattle.half_edge_links.proofs.Sound.FieldWrites.{face_link, next_link, origin_link, prev_link}
use Rattle.half_edge_links.proofs.Sound.FieldWrites.{writes_face, writes_next, writes_prev}

-- edges e, second and a new one go round face g; the reverse of the new one lies between before and
-- after
pub record ClosesEdges (old new : List HalfEdge) (e second before after g : ℕ) : Type 0 where
  pub count : length new ≡ length old + 2
  pub inside : edge_at new (length old)
      ≡ record { origin = (edge_at old after).origin; next = e; prev = second; face = g }
  pub outside : edge_at new (length old + 1)
      ≡ record { origin = (edge_at old e).origin; next = after; prev = before; face = 0 }
  pub next_before : (edge_at new before).next ≡ length old + 1
  pub next_second : (edge_at new second).next ≡ length old
  pub prev_after : (edge_at new after).prev ≡ length old + 1
  pub prev_first : (edge_at new e).prev ≡ length old
  pub face_first : (edge_at new e).face ≡ g
  pub face_second : (edge_at new second).face ≡ g
  pub other_next : (h : ℕ) → h < length old → h ≢ before → h ≢ second
      → (edge_at new h).next ≡ (edge_at old h).next
  pub other_prev : (h : ℕ) → h < length old → h ≢ e → h ≢ after
      → (edge_at new h).prev ≡ (edge_at old h).prev
  pub other_faces : (h : ℕ) → h < length old → h ≢ e → h ≢ second
      → (edge_at new h).face ≡ (edge_at old h).face
  pub origins : (h : ℕ) → h < length old → (edge_at new h).origin ≡ (edge_at old h).origin

module _ (hs : List HalfEdge) (e second before after g : ℕ) (e_in : e < length hs)
    (second_in : second < length hs) (before_in : before < length hs) (after_in : after < length hs)
    (before-second : before ≢ second) (after-e : after ≢ e) (e-second : e ≢ second) where
  abbrev one : List HalfEdge
  one = with_next hs before (length hs + 1)

  abbrev two : List HalfEdge
  two = with_next one second (length hs)

  abbrev three : List HalfEdge
  three = with_prev two after (length hs + 1)

  abbrev four : List HalfEdge
  four = with_prev three e (length hs)

  abbrev five : List HalfEdge
  five = with_face four e g

  abbrev six : List HalfEdge
  six = with_face five second g

  nexts : (h : ℕ) → (edge_at six h).next ≡ (edge_at two h).next
  nexts h = (writes_face five second g).kept next_link refl h
      ∙ (writes_face four e g).kept next_link refl h ∙ (writes_prev three e _).kept next_link refl h
      ∙ (writes_prev two after _).kept next_link refl h

  prevs : (h : ℕ) → (edge_at six h).prev ≡ (edge_at four h).prev
  prevs h = (writes_face five second g).kept prev_link refl h
      ∙ (writes_face four e g).kept prev_link refl h

  -- the writes of the code make these links, and leave all others
  pub closes_edges :
      ClosesEdges hs (closed_edges hs e second before after (length hs) g) e second before after g
  unfolding closed_edges
  closes_edges =
      let n1 : length one ≡ length hs = (writes_next hs before _).count in
      let n2 : length two ≡ length hs = (writes_next one second _).count ∙ n1 in
      let n3 : length three ≡ length hs = (writes_prev two after _).count ∙ n2 in
      let n4 : length four ≡ length hs = (writes_prev three e _).count ∙ n3 in
      let n5 : length five ≡ length hs = (writes_face four e g).count ∙ n4 in
      let n6 : length six ≡ length hs = (writes_face five second g).count ∙ n5 in
      let old = λ (h : ℕ) (within : h < length hs). two_before six _ _ no_edge h (rw n6 within) in
      record {
        count = length-two six _ _ no_edge ∙ ap (λ q. q + 2) n6;
        inside = ap (λ q. edge_at (closed_edges hs e second before after (length hs) g) q) (sym n6)
            ∙ two_at_0 six _ _ no_edge;
        outside = ap (λ q. edge_at (closed_edges hs e second before after (length hs) g) (q + 1))
            (sym n6) ∙ two_at_1 six _ _ no_edge;
        next_before = ap next_link (old before before_in) ∙ nexts before
            ∙ ap next_link ((writes_next one second _).other before before-second)
            ∙ ap next_link ((writes_next hs before _).here before_in);
        next_second = ap next_link (old second second_in) ∙ nexts second
            ∙ ap next_link ((writes_next one second _).here (rw n1 second_in));
        prev_after = ap prev_link (old after after_in) ∙ prevs after
            ∙ ap prev_link ((writes_prev three e _).other after after-e)
            ∙ ap prev_link ((writes_prev two after _).here (rw n2 after_in));
        prev_first = ap prev_link (old e e_in) ∙ prevs e
            ∙ ap prev_link ((writes_prev three e _).here (rw n3 e_in));
        face_first = ap face_link (old e e_in ∙ (writes_face five second g).other e e-second)
            ∙ ap face_link ((writes_face four e g).here (rw n4 e_in));
        face_second = ap face_link (old second second_in)
            ∙ ap face_link ((writes_face five second g).here (rw n5 second_in));
        other_next = λ h within a b. ap next_link (old h within) ∙ nexts h ∙ ap next_link
            ((writes_next one second _).other h b ∙ (writes_next hs before _).other h a);
        other_prev = λ h within a b.
            ap prev_link (old h within) ∙ prevs h ∙ ap prev_link
            ((writes_prev three e _).other h a ∙ (writes_prev two after _).other h b)
            ∙ (writes_next one second _).kept prev_link refl h
            ∙ (writes_next hs before _).kept prev_link refl h;
        other_faces = λ h within a b.
            ap face_link (old h within ∙ (writes_face five second g).other h b
            ∙ (writes_face four e g).other h a)
            ∙ (writes_prev three e _).kept face_link refl h ∙ (writes_prev two after _).kept
            face_link refl h ∙ (writes_next one second _).kept face_link refl h
            ∙ (writes_next hs before _).kept face_link refl h;
        origins = λ h within.
            ap origin_link (old h within) ∙ (writes_face five second g).kept origin_link refl h
            ∙ (writes_face four e g).kept origin_link refl h
            ∙ (writes_prev three e _).kept origin_link refl h ∙ (writes_prev two after _).kept
            origin_link refl h ∙ (writes_next one second _).kept origin_link refl h
            ∙ (writes_next hs before _).kept origin_link refl h;
      }
