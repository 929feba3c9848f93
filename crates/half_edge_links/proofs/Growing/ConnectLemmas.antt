-- The first edge.
-- Lemmas: sound_connected.
use Rattle.std.proofs.Common.{◌≡◌, ◌<◌, [], ◌∙◌}
use Rattle.std.proofs.Common.{ℕ, zero, suc, length, Some, None, IsSome, set, refl, sym, ap, inl}
use Rattle.std.proofs.Common.{inr, arith}
use Rattle.std.proofs.lemmas.List.{get_or-set_same, get_or-set_other, length-set}
use Rattle.std.proofs.lemmas.Bool.{cases_eq}
use Rattle.half_edge_links.specs.{AreSoundLinks, connected, IsSoundEdge, Mesh, origin, out_edge}
use Rattle.half_edge_links.proofs.Lists.Cases.{◌or_else◌}

module _ (m : Mesh) (a b : ℕ) (s : AreSoundLinks m) (none : m.half_edges ≡ [])
    (a_in : a < length m.out_edges) (b_in : b < length m.out_edges) where
  no_edge_at : (h : ℕ) → h < length m.half_edges → ⊥
  no_edge_at h within = let empty : length m.half_edges ≡ 0 = ap length none in omega arith

  -- vertex b names edge 1
  at_b : out_edge (connected m a b) b ≡ Some 1
  at_b = get_or-set_same (set m.out_edges a (Some 0)) b (Some 1) None (rw length-set b_in)

  -- vertex a names an edge
  at_a : IsSome (out_edge (connected m a b) a)
  at_a =
      elim (cases_eq a b) [
        | inl same ↦ rw (ap (out_edge (connected m a b)) same ∙ at_b) refl
        | inr differs ↦ rw (
          get_or-set_other (set m.out_edges a (Some 0)) b a (Some 1) None differs,
          get_or-set_same m.out_edges a (Some 0) None a_in,
        ) refl
      ]

  sound_at : (h : ℕ) → h < 2 → IsSoundEdge (connected m a b) h
  sound_at zero within = record {
    next_in = omega arith;
    prev_in = omega arith;
    origin_in = simp length-set a_in;
    face_in = omega arith;
    prev_next = refl;
    next_prev = refl;
    starts = refl;
    same_face = refl;
    three = λ inner. absurd (omega arith);
    proper = λ same. absurd (omega (arith, same));
    owned = λ inner. absurd (omega arith);
    has_out = at_a;
  }
  sound_at (suc zero) within = record {
    next_in = omega arith;
    prev_in = omega arith;
    origin_in = simp length-set b_in;
    face_in = omega arith;
    prev_next = refl;
    next_prev = refl;
    starts = refl;
    same_face = refl;
    three = λ inner. absurd (omega arith);
    proper = λ same. absurd (omega (arith, same));
    owned = λ inner. absurd (omega arith);
    has_out = rw at_b refl;
  }
  sound_at (suc (suc h)) within = absurd (omega arith)

  vertices_named : (v h : ℕ) → out_edge (connected m a b) v ≡ Some h
      → (h < 2) × (origin (connected m a b) h ≡ v)
  vertices_named v h named =
      elim (cases_eq v b or_else cases_eq v a) [
        | inl same ↦
            let at = at_b in
            let is : 1 ≡ h = cc in
            rw (← is) (omega arith, sym same)
        | inr (differs, inl same) ↦
            let at = get_or-set_other (set m.out_edges a (Some 0)) b v (Some 1) None differs in
            let at' = get_or-set_same m.out_edges a (Some 0) None a_in in
            let is : 0 ≡ h = cc in
            rw (← is) (omega arith, sym same)
        | inr (differs, inr other) ↦
            let at = get_or-set_other (set m.out_edges a (Some 0)) b v (Some 1) None differs in
            absurd (no_edge_at h (s.vertices v h
            (sym (get_or-set_other m.out_edges a v (Some 0) None other) ∙ sym at ∙ named)).0)
      ]

  -- a sound mesh without edges stays sound when its first edge is made
  pub sound_connected : AreSoundLinks (connected m a b)
  sound_connected = record {
    even = refl;
    edges = sound_at;
    vertices = vertices_named;
    faces = λ f some within. absurd (no_edge_at _ (s.faces f some within).0);
    outer = λ h named. let is : 0 ≡ h = cc in rw (← is) (omega arith, refl);
    has_outer = λ some. refl;
  }
