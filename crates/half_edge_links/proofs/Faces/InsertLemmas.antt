-- What putting a vertex into a face does.
-- Lemmas: inserts, inserts_is.
use Rattle.std.proofs.Common.{◌≡◌, ◌-◌, [], ◌∷◌, ◌++◌}
use Rattle.std.proofs.Common.{ℕ, length, None, set, refl, sym, arith, append_assoc, length-append}
use Rattle.std.proofs.lemmas.List.{get_or-set_same, get_or-set_other, length-set}
use Rattle.std.proofs.lemmas.List.{get_or_append_left, get_or_at}
use Rattle.half_edge_links.specs.{AreSoundLinks, face, insert_by, inserted, Inserts, IsAlone}
use Rattle.half_edge_links.specs.{IsInnerEdge, Mesh, next, no_edge, prev}
use Rattle.half_edge_links.proofs.{Faces.FlipLemmas.links_from, Sound.Triangles.triangle_at}
use Rattle.half_edge_links.proofs.Lists.Pushes.{AreThreePlaces, grown_at, grown_at_0, grown_at_i}
use Rattle.half_edge_links.proofs.Lists.Pushes.{grown_at_j, grown_at_k, grown_other, length-grown}
use Rattle.half_edge_links.proofs.Lists.Pushes.{written}

-- a lonely vertex v put into an inner face changes the links of the face, its edges and v, and no
-- others
pub inserts : (m : Mesh) (v a : ℕ) → AreSoundLinks m → IsInnerEdge m a → IsAlone m v
    → Inserts m (inserted m v a) v (face m a) a (length m.half_edges) (length m.face_edges)
unfolding inserted insert_by written
inserts m v a s inner alone =
    let t = triangle_at m a s inner.0 inner.1 in
    let face_in = (s.edges a inner.0).face_in in
    let p : AreThreePlaces (length m.half_edges) a (next m a) (prev m a) = record {
      i_in = t.h_in;
      j_in = t.next_in;
      k_in = t.prev_in;
      ij = λ same. t.next_differs (sym same);
      ik = λ same. t.prev_differs (sym same);
      jk = t.both_differ;
    } in
    record {
      first = links_from _ _ _ (grown_at_i m.half_edges _ _ _ _ _ _ _ _ _ _ _ _ no_edge p);
      second = links_from _ _ _ (grown_at_j m.half_edges _ _ _ _ _ _ _ _ _ _ _ _ no_edge p);
      third = links_from _ _ _ (grown_at_k m.half_edges _ _ _ _ _ _ _ _ _ _ _ _ no_edge p);
      from_first = links_from _ _ _ (grown_at_0 m.half_edges _ _ _ _ _ _ _ _ _ _ _ _ no_edge p);
      to_first = links_from _ _ _ (grown_at m.half_edges _ _ _ _ _ _ _ _ _ _ _ _ no_edge p 1);
      from_second = links_from _ _ _ (grown_at m.half_edges _ _ _ _ _ _ _ _ _ _ _ _ no_edge p 2);
      to_second = links_from _ _ _ (grown_at m.half_edges _ _ _ _ _ _ _ _ _ _ _ _ no_edge p 3);
      from_third = links_from _ _ _ (grown_at m.half_edges _ _ _ _ _ _ _ _ _ _ _ _ no_edge p 4);
      to_third = links_from _ _ _ (grown_at m.half_edges _ _ _ _ _ _ _ _ _ _ _ _ no_edge p 5);
      other_edges = λ h within x y z. grown_other m.half_edges _ _ _ _ _ _ _ _ _ _ _ _ no_edge p
          h within x y z;
      edge_count = length-grown m.half_edges _ _ _ _ _ _ _ _ _ _ _ _ no_edge p;
      vertex_count = length-set m.out_edges v _;
      face_count = simp (length-append, length-set) (omega arith);
      out = get_or-set_same m.out_edges v _ None alone.0;
      other_outs = λ u differs. get_or-set_other m.out_edges v u _ None differs;
      named = rw (
        append_assoc,
        get_or_append_left (set m.face_edges (face m a - 1) a) _ 0
            (face m a - 1) (rw length-set (omega (arith, inner.1))),
      )
          (get_or-set_same m.face_edges (face m a - 1) a 0 (omega (arith, inner.1)));
      kept_faces = λ k some within differs. rw (
        append_assoc,
        get_or_append_left (set m.face_edges (face m a - 1) a) _ 0 (k - 1)
            (rw length-set (omega (arith, some, within))),
      ) (get_or-set_other m.face_edges
          (face m a - 1) (k - 1) a 0 (λ same. differs (omega (arith, inner.1))));
      second_face = rw append_assoc
          (get_or_at (set m.face_edges (face m a - 1) a) _ _ 0 _ (rw length-set (omega arith)));
      third_face = get_or_at (set m.face_edges (face m a - 1) a ++ _ ∷ []) _ [] 0 _
          (omega (
            arith,
            length-append (set m.face_edges (face m a - 1) a) (next m a ∷ []),
            length-set m.face_edges (face m a - 1) a,
          ));
      outer_edge = refl;
    }

-- a mesh that equals the one with v put into a face differs by the links that this changes alone
pub inserts_is : (m new : Mesh) (v a : ℕ) → AreSoundLinks m → IsInnerEdge m a → IsAlone m v → new
    ≡ inserted m v a → Inserts m new v (face m a) a (length m.half_edges) (length m.face_edges)
inserts_is m new v a s inner alone is = rw is (inserts m v a s inner alone)
