-- A mesh stays sound under new indexes, also where elements go to which nothing refers.
-- Lemmas: kept_edge, sound_renamed.
use Rattle.std.proofs.Common.{◌≡◌, ◌∙◌}
use Rattle.std.proofs.Common.{ℕ, length, Option, Some, None, IsSome, refl, sym, ap, inl, inr}
use Rattle.std.proofs.lemmas.Bool.{cases_lt}
use Rattle.std.proofs.lemmas.List.{get_or_past}
use Rattle.half_edge_links.specs.{AreSoundLinks, face, IsKeptEdge, Mesh, Naming, next, origin, prev}
use Rattle.half_edge_links.specs.{renamed, Renames.IsRenamedEdge, Renames.Renames, rev}
use Rattle.half_edge_links.proofs.Lists.Rev.{rev_within}
use Rattle.half_edge_links.proofs.Sound.Parts.{EachEdgeIsSound, NamesOutEdges}

is_some : (f : ℕ → ℕ) (o : Option ℕ) → IsSome o → IsSome (renamed f o)
is_some f None had = had
is_some f (Some x) had = refl

-- what a renamed option was
some_was : (f : ℕ → ℕ) (o : Option ℕ) (k : ℕ) → renamed f o ≡ Some k
    → (h : ℕ) × (o ≡ Some h) × (f h ≡ k)
some_was f None k same = absurd (cc)
some_was f (Some x) k same = (x, refl, cc)

module _ (old new : Mesh) (r : Naming) (n : Renames old new r) where
  -- the new links of an old edge that has a new index
  pub kept_edge : (g : ℕ) → IsKeptEdge new r g → IsRenamedEdge old new r (r.edge g) g
  kept_edge g k = rw k.back at (n.edges (r.edge g) k.within)

  sound_edge : EachEdgeIsSound new
  sound_edge h within =
      let here = n.edges h within in
      let was = here.sound in
      let g : ℕ = r.old_edge h in
      let at_h = here.links in
      let after = kept_edge (next old g) here.next_kept in
      let before = kept_edge (prev old g) here.prev_kept in
      let at_next = after.links in
      let at_prev = before.links in
      let rev_in = rev_within h (length new.half_edges) n.even within in
      let across = n.edges (rev h) rev_in in
      let at_rev = across.links in
      let rev_is = here.rev_is in
      let back = here.back in
      let next_back = here.next_kept.back in
      record {
        next_in = rw at_h.next here.next_kept.within;
        prev_in = rw at_h.prev here.prev_kept.within;
        origin_in = rw at_h.origin here.origin_in;
        face_in = rw at_h.face here.face_in;
        prev_next = cc (at_h.next, at_next.prev, was.prev_next, back);
        next_prev = cc (at_h.prev, at_prev.next, was.next_prev, back);
        starts = cc (at_h.next, at_next.origin, was.starts, at_rev.origin, rev_is);
        same_face = cc (at_h.next, at_next.face, was.same_face, at_h.face);
        three = λ inner. let t = was.three (here.face_kept (rw at_h.face at inner)).0 in
            cc (at_h.next, at_next.next, at_h.prev);
        proper = λ same. was.proper (cc (at_h.next, next_back));
        owned = λ inner.
            let some = rw at_h.face at inner in
            let f = here.face_kept some in
            let named = (n.faces (r.face (face old g)) some here.face_in).named in
            let same = f.1 in
            elim (was.owned f.0) [
              | inl x ↦ inl (cc (at_h.face, named, same, x, back))
              | inr y ↦ elim y [
                | inl x ↦ inr (inl (cc (at_h.face, named, same, x, at_h.next)))
                | inr x ↦ inr (inr (cc (at_h.face, named, same, x, at_h.prev)))
              ]
            ];
        has_out =
            rw (
              at_h.origin,
              (n.vertices (r.vertex (origin old g)) here.origin_in).out,
              here.origin_back,
            ) (is_some r.edge _ was.has_out);
      }

  sound_vertex : NamesOutEdges new
  sound_vertex v k named =
      elim (cases_lt v (length new.out_edges)) [
        | inl within ↦
            let vertex = n.vertices v within in
            let was = some_was r.edge _ k (sym vertex.out ∙ named) in
            let kept = vertex.kept was.0 was.1 in
            let is = was.2 in (
              rw (← is) kept.0.within,
              rw (← is)
                  ((kept_edge was.0 kept.0).links.origin ∙ ap r.vertex kept.1 ∙ vertex.back),
            )
        | inr past ↦
            let none = get_or_past new.out_edges v None past in
            absurd (cc)
      ]

  -- the mesh under the new indexes is sound
  pub sound_renamed : AreSoundLinks new
  sound_renamed = record {
    even = n.even;
    edges = sound_edge;
    vertices = sound_vertex;
    faces = λ f some within.
        let here = n.faces f some within in (
          rw here.named here.kept.within,
          rw here.named ((kept_edge _ here.kept).links.face ∙ ap r.face here.of ∙ here.back),
        );
    outer = λ k named.
        let was = some_was r.edge _ k (sym n.outer ∙ named) in
        let kept = n.outer_kept was.0 was.1 in
        let is = was.2 in (
          rw (← is) kept.0.within,
          rw (← is) ((kept_edge was.0 kept.0).links.face ∙ ap r.face kept.1 ∙ n.outer_face),
        );
    has_outer = λ some. rw n.outer (is_some r.edge _ (n.has_outer some));
  }
