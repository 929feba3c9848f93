-- What turning an edge does.
-- Lemmas: links_from, flips, flips_is.
use Rattle.std.proofs.Common.{◌≡◌, ℕ, refl, ap, arith}
use Rattle.std.proofs.lemmas.List.{get_or-set_same, get_or-set_other, length-set}
use Rattle.half_edge_links.specs.{AreSoundLinks, edge_at, flip_by, flipped, Flips, HalfEdge}
use Rattle.half_edge_links.specs.{HasLinks, IsFlippable, Mesh, no_edge, rev}
use Rattle.half_edge_links.proofs.Lists.Writes.{get_or-set_six_a, get_or-set_six_b}
use Rattle.half_edge_links.proofs.Lists.Writes.{get_or-set_six_c, get_or-set_six_d}
use Rattle.half_edge_links.proofs.Lists.Writes.{get_or-set_six_e, get_or-set_six_f}
use Rattle.half_edge_links.proofs.Lists.Writes.{get_or-set_six_other, length-set_six}
use Rattle.half_edge_links.proofs.Sound.Triangles.{six_round}

-- the links of edge h are those of the record that the list has for it
pub links_from : (m : Mesh) (h : ℕ) (r : HalfEdge) → edge_at m.half_edges h ≡ r
    → HasLinks m h r.origin r.next r.prev r.face
links_from m h r same = record {
  origin = ap (λ (x : HalfEdge). x.origin) same;
  next = ap (λ (x : HalfEdge). x.next) same;
  prev = ap (λ (x : HalfEdge). x.prev) same;
  face = ap (λ (x : HalfEdge). x.face) same;
}

-- a flip changes the links of six edges, and of the vertices and faces there that name one, and no
-- others
pub flips : (m : Mesh) (e : ℕ) → AreSoundLinks m → IsFlippable m e → Flips m (flipped m e) e
unfolding flipped flip_by
flips m e s f =
    let p = six_round m e s f in
    let edge_in = s.edges e f.within in
    let twin_in = s.edges (rev e) p.b_in in
    record {
      edge = links_from _ _ _ (get_or-set_six_a _ _ _ _ _ _ _ _ _ _ _ _ _ no_edge p);
      twin = links_from _ _ _ (get_or-set_six_b _ _ _ _ _ _ _ _ _ _ _ _ _ no_edge p);
      edge_next = links_from _ _ _ (get_or-set_six_c _ _ _ _ _ _ _ _ _ _ _ _ _ no_edge p);
      twin_next = links_from _ _ _ (get_or-set_six_d _ _ _ _ _ _ _ _ _ _ _ _ _ no_edge p);
      edge_prev = links_from _ _ _ (get_or-set_six_e _ _ _ _ _ _ _ _ _ _ _ _ _ no_edge p);
      twin_prev = links_from _ _ _ (get_or-set_six_f _ _ _ _ _ _ _ _ _ _ _ _ _ no_edge p);
      other_edges =
          λ h a b c d x y. get_or-set_six_other _ _ _ _ _ _ _ _ _ _ _ _ _ no_edge h a b c d x y;
      edge_count = length-set_six _ _ _ _ _ _ _ _ _ _ _ _ _;
      vertex_count = simp length-set;
      face_count = simp length-set;
      origin_out =
          λ differ. grind (arith, get_or-set_same, get_or-set_other, length-set, edge_in.origin_in);
      twin_origin_out = grind (arith, get_or-set_same, length-set, twin_in.origin_in);
      other_outs = λ v a b. grind (arith, get_or-set_other);
      left_face = grind (
        arith,
        get_or-set_same,
        get_or-set_other,
        length-set,
        edge_in.face_in,
        f.apart,
        f.inner,
        f.twin_inner,
      );
      right_face = grind (arith, get_or-set_same, length-set, twin_in.face_in, f.twin_inner);
      other_faces = λ g some a b. grind (arith, get_or-set_other, f.inner, f.twin_inner);
      outer_edge = refl;
    }

-- a mesh that equals the one with edge e flipped differs by the links that the flip changes alone
pub flips_is : (m new : Mesh) (e : ℕ) → AreSoundLinks m → IsFlippable m e → new ≡ flipped m e
    → Flips m new e
flips_is m new e s can is = rw is (flips m e s can)
