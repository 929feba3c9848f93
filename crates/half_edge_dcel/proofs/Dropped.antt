-- The parts of a mesh where a vertex went and the last one took its index.
-- Notions: renumbered_triangle; edges_dropped, faces_dropped, outline_dropped.
use Rattle.std.proofs.Common.{◌≡◌, ◌-◌, ◌<◌, ◌≤◌, [], ◌∷◌, ◌∙◌}
use Rattle.std.proofs.Common.{ℕ, zero, suc, List, length, map, refl, sym, ap, inl, inr, arith}
use Rattle.std.proofs.lemmas.Bool.{cases_eq}
use Rattle.half_edge_links.specs.{AreSoundLinks, Ends, ends, face, Mesh, moved, MovesVertex}
use Rattle.half_edge_links.specs.{outer_among, outline, rev, Triangle, triangles}
use Rattle.half_edge_links.specs.Taken.{MovesEnds, MovesTriangles}
use Rattle.half_edge_dcel.specs.{full_edges_of, full_faces_of, renumbered_edge, renumbered_face}
use Rattle.{half_edge_dcel.specs.Removal.renumbered_ends, half_edge_links.proofs.rev_within}
use Rattle.half_edge_dcel.proofs.Outlines.{listed, passed_over}

-- corners under new indexes, where vertex v has gone and the last one has taken its index
abbrev pub renumbered_triangle : ℕ → ℕ → Triangle → Triangle
renumbered_triangle last v t = record {
  first = moved last v t.first;
  second = moved last v t.second;
  third = moved last v t.third;
}

module _ (last v : ℕ) where
  edges_renumbered : {D U : Type 0} (es : List Ends) (us : List U) (ds : List D)
      → full_edges_of (map (renumbered_ends last v) es) us ds
      ≡ map (renumbered_edge last v) (full_edges_of es us ds)
  edges_renumbered [] us ds = refl
  edges_renumbered (e ∷ es) [] ds = refl
  edges_renumbered (e ∷ es) (u ∷ us) [] = refl
  edges_renumbered (e ∷ es) (u ∷ us) (a ∷ []) = refl
  edges_renumbered (e ∷ es) (u ∷ us) (a ∷ b ∷ ds) = ap (λ xs. record {
    source = moved last v e.source;
    target = moved last v e.target;
    value = u;
    there = a;
    back = b;
  } ∷ xs) (edges_renumbered es us ds)

  faces_renumbered : {F : Type 0} (ts : List Triangle) (fs : List F) → full_faces_of
      (map (renumbered_triangle last v) ts) fs ≡ map (renumbered_face last v) (full_faces_of ts fs)
  faces_renumbered [] fs = refl
  faces_renumbered (t ∷ ts) [] = refl
  faces_renumbered (t ∷ ts) (f ∷ fs) =
      ap (λ xs. record { corners = renumbered_triangle last v t; value = f } ∷ xs)
      (faces_renumbered ts fs)

module _ (m new : Mesh) (v n : ℕ) (at : n ≡ length m.out_edges) where
  -- the edges with their data are the former ones, with new indexes as ends
  pub edges_dropped : {D U : Type 0} (us : List U) (ds : List D) → MovesEnds m new v → full_edges_of
      (ends new) us ds ≡ map (renumbered_edge (n - 1) v) (full_edges_of (ends m) us ds)
  edges_dropped us ds moves = rw at (ap (λ es. full_edges_of es us ds) moves
      ∙ edges_renumbered (length m.out_edges - 1) v (ends m) us ds)

  -- the faces with their data are the former ones, with new indexes as corners
  pub faces_dropped : {F : Type 0} (fs : List F) → MovesTriangles m new v → full_faces_of
      (triangles new) fs ≡ map (renumbered_face (n - 1) v) (full_faces_of (triangles m) fs)
  faces_dropped fs moves = rw at (ap (λ ts. full_faces_of ts fs) moves
      ∙ faces_renumbered (length m.out_edges - 1) v (triangles m) fs)

module _ (m new : Mesh) (v : ℕ) (s : AreSoundLinks m) (c : MovesVertex m new v) where
  among_renumbered : (k : ℕ) → k ≤ length m.half_edges
      → outer_among new k ≡ map (renumbered_ends (length m.out_edges - 1) v) (outer_among m k)
  among_renumbered zero within = refl
  among_renumbered (suc k) within =
      let k_in : k < length m.half_edges = omega (arith, within) in
      let rest = among_renumbered k (omega (arith, within)) in
      let a = c.origins k k_in in
      let b = c.origins (rev k) (rev_within k _ s.even k_in) in
      elim (cases_eq (face m k) 0) [
        | inl is ↦
            listed new k (c.faces k ∙ is)
            ∙ (λ i. record { source = a i; target = b i } ∷ rest i)
            ∙ sym (ap (map (renumbered_ends (length m.out_edges - 1) v)) (listed m k is))
        | inr off ↦
            let some : 0 < face m k = omega (arith, off) in
            passed_over new k (rw c.faces some) ∙ rest
            ∙ sym (ap (map (renumbered_ends (length m.out_edges - 1) v)) (passed_over m k some))
      ]

  -- the list of outer edges is the former one, with new indexes as ends
  pub outline_dropped : (n : ℕ) → n ≡ length m.out_edges
      → outline new ≡ map (renumbered_ends (n - 1) v) (outline m)
  outline_dropped n at = rw at
      (ap (outer_among new) c.edge_count ∙ among_renumbered (length m.half_edges) (omega arith))
