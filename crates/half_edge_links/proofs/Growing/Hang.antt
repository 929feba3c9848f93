-- An edge to a lonely vertex, beside the outer face.
-- Lemmas: length-hung, next_x, next_other, origin_kept, at_0, at_1, hangs, after_outer,
-- sound_after_hang.
use Rattle.std.proofs.Common.{◌≡◌, ◌≢◌, ◌+◌, ◌<◌, ◌≤◌, ◌∙◌}
use Rattle.std.proofs.Common.{ℕ, List, length, None, refl, sym, ap, inl, inr, arith}
use Rattle.std.proofs.lemmas.Bool.{cases_eq}
use Rattle.std.proofs.lemmas.List.{get_or-set_same, get_or-set_other, length-set}
use Rattle.half_edge_links.specs.{AreSoundLinks, edge_at, face, face_edge, HalfEdge, Hangs, hung}
use Rattle.half_edge_links.specs.{hung_edges, IsAlone, IsSoundEdge, Mesh, next, no_edge, OnOuter}
use Rattle.half_edge_links.specs.{origin, prev, rev, with_next, with_prev}
use Rattle.half_edge_links.proofs.{Faces.FlipLemmas.links_from, Lists.Cases.◌or_else◌}
use Rattle.half_edge_links.proofs.Lists.Rev.{rev_within}
use Rattle.half_edge_links.proofs.Lists.Writes.{length-two, two_at_0, two_at_1, two_before}
use Rattle.half_edge_links.proofs.Sound.FieldWrites.{face_link, next_link, origin_link, prev_link}
use Rattle.half_edge_links.proofs.Sound.FieldWrites.{writes_next, writes_prev}
use Rattle.half_edge_links.proofs.Sound.Parts.{EachEdgeIsSound, EachNextIsSound, grown_cases}
use Rattle.half_edge_links.proofs.Sound.Parts.{inner_kept, IsInMesh, IsInnerSound, KeepsEnds}
use Rattle.half_edge_links.proofs.Sound.Parts.{KeepsOutEdges, NamesOutEdges, next_at, next_kept}
use Rattle.half_edge_links.proofs.Sound.Parts.{prev_sound, rev_of_even, rev_of_odd, sound_from}
use Rattle.half_edge_links.proofs.Sound.Parts.{still_named, still_out}

module _ (hs : List HalfEdge) (x y v : ℕ) (x_in : x < length hs) (y_in : y < length hs) where
  abbrev first : List HalfEdge
  first = with_next hs x (length hs)

  abbrev written : List HalfEdge
  written = with_prev first y (length hs + 1)

  length-written : length written ≡ length hs
  length-written = (writes_prev first y _).count ∙ (writes_next hs x _).count

  -- there are two directed edges more
  pub length-hung : length (hung_edges hs x y v (length hs)) ≡ length hs + 2
  unfolding hung_edges
  length-hung = length-two written _ _ no_edge ∙ ap (λ q. q + 2) length-written

  before : (h : ℕ) → h < length hs → edge_at (hung_edges hs x y v (length hs)) h ≡ edge_at written h
  unfolding hung_edges
  before h within = two_before written _ _ no_edge h (rw length-written within)

  -- the first new edge comes after x
  pub next_x : (edge_at (hung_edges hs x y v (length hs)) x).next ≡ length hs
  next_x = ap next_link (before x x_in) ∙ (writes_prev first y _).kept next_link refl x
      ∙ ap next_link ((writes_next hs x _).here x_in)

  -- the edge after any other edge stays
  pub next_other : (h : ℕ) → h < length hs → h ≢ x
      → (edge_at (hung_edges hs x y v (length hs)) h).next ≡ (edge_at hs h).next
  next_other h within differs =
      ap next_link (before h within) ∙ (writes_prev first y _).kept next_link refl h
      ∙ ap next_link ((writes_next hs x _).other h differs)

  prev_y : (edge_at (hung_edges hs x y v (length hs)) y).prev ≡ length hs + 1
  prev_y = ap prev_link (before y y_in)
      ∙ ap prev_link ((writes_prev first y _).here (rw (writes_next hs x _).count y_in))

  prev_other : (h : ℕ) → h < length hs → h ≢ y
      → (edge_at (hung_edges hs x y v (length hs)) h).prev ≡ (edge_at hs h).prev
  prev_other h within differs =
      ap prev_link (before h within) ∙ ap prev_link ((writes_prev first y _).other h differs)
      ∙ (writes_next hs x _).kept prev_link refl h

  -- each edge starts where it did
  pub origin_kept : (h : ℕ) → h < length hs
      → (edge_at (hung_edges hs x y v (length hs)) h).origin ≡ (edge_at hs h).origin
  origin_kept h within = ap origin_link (before h within) ∙ (writes_prev first y _).kept origin_link
      refl h ∙ (writes_next hs x _).kept origin_link refl h

  face_kept : (h : ℕ) → h < length hs
      → (edge_at (hung_edges hs x y v (length hs)) h).face ≡ (edge_at hs h).face
  face_kept h within = ap face_link (before h within)
      ∙ (writes_prev first y _).kept face_link refl h ∙ (writes_next hs x _).kept face_link refl h

  -- the edge to v
  pub at_0 : edge_at (hung_edges hs x y v (length hs)) (length hs) ≡ record {
    origin = (edge_at hs y).origin;
    next = length hs + 1;
    prev = x;
    face = (edge_at hs x).face;
  }
  unfolding hung_edges
  at_0 = ap (λ q. edge_at (hung_edges hs x y v (length hs)) q) (sym length-written)
      ∙ two_at_0 written _ _ no_edge

  -- the edge back from v
  pub at_1 : edge_at (hung_edges hs x y v (length hs)) (length hs + 1)
      ≡ record { origin = v; next = y; prev = length hs; face = (edge_at hs x).face }
  unfolding hung_edges
  at_1 = ap (λ q. edge_at (hung_edges hs x y v (length hs)) (q + 1)) (sym length-written)
      ∙ two_at_1 written _ _ no_edge

-- an edge from the end of an outer edge to a lonely vertex changes the links round it, and no
-- others
pub hangs : (m : Mesh) (x v : ℕ) → AreSoundLinks m → OnOuter m x → IsAlone m v
    → Hangs m (hung m x v) x v (length m.half_edges)
unfolding hung
hangs m x v s out alone =
    let y_in = (s.edges x out.0).next_in in
    record {
      there = links_from _ _ _ (at_0 m.half_edges x (next m x) v out.0 y_in);
      back = links_from _ _ _ (at_1 m.half_edges x (next m x) v out.0 y_in);
      next_at = next_x m.half_edges x (next m x) v out.0 y_in;
      prev_at = prev_y m.half_edges x (next m x) v out.0 y_in;
      other_next = next_other m.half_edges x (next m x) v out.0 y_in;
      other_prev = prev_other m.half_edges x (next m x) v out.0 y_in;
      origins = origin_kept m.half_edges x (next m x) v out.0 y_in;
      faces = face_kept m.half_edges x (next m x) v out.0 y_in;
      edge_count = length-hung m.half_edges x (next m x) v out.0 y_in;
      vertex_count = length-set m.out_edges v _;
      out = get_or-set_same m.out_edges v _ None alone.0;
      other_outs = λ u differs. get_or-set_other m.out_edges v u _ None differs;
      face_edges = refl;
      outer_edge = refl;
    }

module _ (m new : Mesh) (x v : ℕ) (s : AreSoundLinks m) (outer : OnOuter m x) (alone : IsAlone m v)
    (i : Hangs m new x v (length m.half_edges)) where
  -- edge x fits the edges beside it
  at_x : IsSoundEdge m x
  at_x = s.edges x outer.0

  -- the edge after an outer one is outer
  pub after_outer : face m (next m x) ≡ 0
  after_outer = at_x.same_face ∙ outer.1

  rev_kept : KeepsEnds m new
  rev_kept h within = i.origins (rev h) (rev_within h _ s.even within)

  has_out : KeepsOutEdges m new
  has_out = still_out m new v (length m.half_edges + 1) i.out i.other_outs

  -- there are no fewer directed edges than before
  more : length m.half_edges ≤ length new.half_edges
  more = omega (arith, i.edge_count)

  face_count : length new.face_edges ≡ length m.face_edges
  face_count = ap length i.face_edges

  named : (k : ℕ) → face_edge new k ≡ face_edge m k
  named k = rw i.face_edges refl

  next_ok : EachNextIsSound new
  next_ok h within =
      elim (cases_eq (length m.half_edges) h or_else cases_eq (length m.half_edges + 1) h) [
        | inl same ↦ rw (← same) (
            next_at new (length m.half_edges) (length m.half_edges + 1) i.there.next
            (omega (arith, i.edge_count)) i.back.prev
            (sym (ap (origin new) (rev_of_even (length m.half_edges) s.even)))
            (i.back.face ∙ sym i.there.face)
            (λ q. absurd (omega arith)))
        | inr (not_there, inl same) ↦ rw (← same) (
            next_at new (length m.half_edges + 1) (next m x) i.back.next
            (omega (arith, at_x.next_in, more)) i.prev_at (i.origins _ at_x.next_in
            ∙ sym (ap (origin new) (rev_of_odd (length m.half_edges) s.even) ∙ i.there.origin))
            (i.faces _ at_x.next_in ∙ at_x.same_face ∙ sym i.back.face)
            (λ q. absurd (omega (arith, at_x.next_in, q))))
        | inr (not_there, inr not_back) ↦
            let h_in : h < length m.half_edges = omega (arith, i.edge_count) in
            let here = s.edges h h_in in
            elim (cases_eq x h) [
              | inl same ↦ rw (← same) (
                  next_at new x (length m.half_edges) i.next_at (omega (arith, i.edge_count))
                  i.there.prev (i.there.origin ∙ at_x.starts ∙ sym (rev_kept x outer.0))
                  (i.there.face ∙ sym (i.faces x outer.0))
                  (λ q. absurd (omega (arith, outer.0, q))))
              | inr differs ↦
                  next_kept m new h here (i.other_next h h_in (λ q. differs (sym q)))
                  (i.other_prev (next m h) here.next_in
                  (λ q. differs (sym at_x.prev_next ∙ ap (prev m) (sym q) ∙ here.prev_next)))
                  (i.origins (next m h) here.next_in) (rev_kept h h_in) (i.faces h h_in)
                  (i.faces (next m h) here.next_in) more
            ]
      ]

  inner_ok : (h : ℕ) → h < length m.half_edges → 0 < face new h → IsInnerSound new h
  inner_ok h within some =
      let here = s.edges h within in
      let was : 0 < face m h = omega (arith, i.faces h within, some) in
      inner_kept m new h here was
      (i.other_next h within (λ q. absurd (omega (arith, was, ap (face m) q, outer.1))))
      (i.other_prev h within (λ q. absurd (omega (arith, was, ap (face m) q, after_outer))))
      (i.faces h within)
      (i.other_next (next m h) here.next_in
      (λ q. absurd (omega (arith, was, here.same_face, ap (face m) q, outer.1))))
      (named (face m h))

  in_mesh : (h : ℕ) → h < length new.half_edges → IsInMesh new h
  in_mesh h within =
      elim (grown_cases h (length m.half_edges) (rw i.edge_count at within)) [
        | inl old ↦
            let here = s.edges h old in
            record {
              origin_in = rw (i.origins h old, i.vertex_count) here.origin_in;
              face_in = rw (i.faces h old, face_count) here.face_in;
              has_out = rw (i.origins h old) (has_out (origin m h) here.has_out);
            }
        | inr (inl there) ↦
            let after = s.edges (next m x) at_x.next_in in
            record {
              origin_in = rw (there, i.there.origin, i.vertex_count) after.origin_in;
              face_in = rw (there, i.there.face, outer.1) (omega arith);
              has_out = rw (there, i.there.origin) (has_out _ after.has_out);
            }
        | inr (inr back) ↦ record {
          origin_in = rw (back, i.back.origin, i.vertex_count) alone.0;
          face_in = rw (back, i.back.face, outer.1) (omega arith);
          has_out = rw (back, i.back.origin, i.out) refl;
        }
      ]

  sound_at : EachEdgeIsSound new
  sound_at h within =
      sound_from new h (in_mesh h within) (next_ok h within) (prev_sound new next_ok h within)
      (λ some. elim (grown_cases h (length m.half_edges) (rw i.edge_count at within)) [
        | inl old ↦ inner_ok h old some
        | inr (inl there) ↦
            absurd (omega (arith, some, ap (face new) there ∙ i.there.face ∙ outer.1))
        | inr (inr back) ↦ absurd (omega (arith, some, ap (face new) back ∙ i.back.face ∙ outer.1))
      ])

  vertices_kept : NamesOutEdges new
  vertices_kept = still_named m new v (length m.half_edges + 1) i.out i.other_outs s
      (omega (arith, i.edge_count)) i.back.origin
      (λ h within off. (omega (arith, i.edge_count, within), i.origins h within))

  -- a sound mesh stays sound when an edge to a lonely vertex is made beside the outer face
  pub sound_after_hang : AreSoundLinks new
  sound_after_hang = record {
    even = rw i.edge_count (let e = s.even in omega arith);
    edges = sound_at;
    vertices = vertices_kept;
    faces = λ k some within.
        let had = s.faces k some (omega (arith, within, face_count)) in
        rw (named k) (omega (arith, i.edge_count, had.0), i.faces _ had.0 ∙ had.1);
    outer = λ h is.
        let had = s.outer h (sym i.outer_edge ∙ is) in
        (omega (arith, i.edge_count, had.0), i.faces h had.0 ∙ had.1);
    has_outer = λ some. rw i.outer_edge (s.has_outer (omega (arith, outer.0)));
  }
