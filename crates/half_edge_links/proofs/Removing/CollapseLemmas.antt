-- The steps in which a vertex with three faces goes.
-- Notions: can, s1, can1, nm; some_of, outer_of, removable_last, b3, b1, b2, before, twin_before,
-- next_border, prev_border, open_triangle, at_a, a_before, twin_before1, z_left, c3_left, c1_left,
-- c2_left, w_left, nz, rev_z, origin_now, to1, to2, fan_of_one.
use Rattle.std.proofs.Common.{◌≡◌, ◌≢◌, ◌<◌, ◌∙◌}
use Rattle.std.proofs.Common.{ℕ, length, Option, Some, None, IsSome, refl, sym, ap, inl, inr, arith}
use Rattle.half_edge_links.specs.{AreSoundLinks, face, IsInner, IsOpenTriangle, Mesh, next, Opens}
use Rattle.half_edge_links.specs.{origin, prev, Removes, rev}
use Rattle.half_edge_links.proofs.Lists.Rev.{rev-rev, rev_differs, rev_within}
use Rattle.half_edge_links.proofs.Removing.Conditions.{IsFanOfOne, IsFanOfTwo, IsUnlinkable}
use Rattle.half_edge_links.proofs.{Removing.OpenSound.sound_opened, Removing.UnlinkSound.some_same}
use Rattle.half_edge_links.proofs.Removing.PeelLemmas.{removable_opened}
use Rattle.half_edge_links.proofs.Removing.RemoveSound.{sound_removed}
use Rattle.half_edge_links.proofs.Removing.Track.{face_at, IsLeft, name, name_in, name_same}
use Rattle.half_edge_links.proofs.Removing.Track.{next_at, next_before, next_twin_before, old_at}
use Rattle.half_edge_links.proofs.Removing.Track.{origin_at, outer_at, rev_at}
use Rattle.half_edge_links.proofs.Sound.Triangles.{IsTriangle, triangle_at}

-- the value that is there
pub some_of : (o : Option ℕ) → IsSome o → (k : ℕ) × (o ≡ Some k)
some_of None had = absurd (cc)
some_of (Some k) had = (k, refl)

-- the outer edge of a mesh with edges
pub outer_of : (m : Mesh) (h : ℕ) → AreSoundLinks m → h < length m.half_edges
    → (k : ℕ) × (m.outer_edge ≡ Some k)
outer_of m h s within = some_of m.outer_edge (s.has_outer (omega arith))

-- the one edge of a vertex in a hole of three more edges can be taken out
pub removable_last : (m : Mesh) (z : ℕ) → AreSoundLinks m → IsFanOfOne m z → IsUnlinkable m z
removable_last m z s f =
    let t_in = rev_within z (length m.half_edges) s.even f.within in
    let there = s.edges (rev z) t_in in
    let third_in = (s.edges _ (s.edges _ (s.edges z f.within).next_in).next_in).next_in in
    record {
      within = f.within;
      outer = f.outer;
      twin_outer = sym there.same_face ∙ ap (face m) f.pendant ∙ f.outer;
      ends = f.ends;
      start_alone = λ q h within is. f.only h within is;
      end_alone = λ q. absurd (f.first_off.1 q);
      start_free = λ q. rev_differs z
          (sym (sym f.pendant ∙ q ∙ ap (prev m) (sym f.pendant) ∙ there.prev_next));
      end_free =
          λ q. f.apart.1 (sym (ap (prev m) (sym f.round) ∙ (s.edges _ third_in).prev_next) ∙ q);
      whole = λ q. absurd (f.first_off.1 q);
    }

module _ (m new : Mesh) (z : ℕ) (s : AreSoundLinks m) (f : IsFanOfOne m z)
    (r : Removes m new z) where
  -- the last edge of the vertex can be taken out of its loops
  abbrev pub can : IsUnlinkable m z
  can = removable_last m z s f

  -- the edge after z is left
  pub b3 : IsLeft m z (next m z)
  b3 = record {
    within = (s.edges z f.within).next_in;
    other = f.first_off.0;
    other_side = f.first_off.1;
  }

  -- the second edge after z is left
  pub b1 : IsLeft m z (next m (next m z))
  b1 = record {
    within = (s.edges _ b3.within).next_in;
    other = f.second_off.0;
    other_side = f.second_off.1;
  }

  -- the third edge after z is left
  pub b2 : IsLeft m z (next m (next m (next m z)))
  b2 = record {
    within = (s.edges _ b1.within).next_in;
    other = f.third_off.0;
    other_side = f.third_off.1;
  }

  -- the edge before z is its other side, as z is alone at its start
  pub before : prev m z ≡ rev z
  before = ap (prev m) (sym f.pendant)
      ∙ (s.edges (rev z) (rev_within z (length m.half_edges) s.even f.within)).prev_next

  -- the edge before the other side of z is the third edge after z
  pub twin_before : prev m (rev z) ≡ next m (next m (next m z))
  twin_before = ap (prev m) (sym f.round) ∙ (s.edges _ b2.within).prev_next

  -- the second edge after z still comes after the first one
  pub next_border : next new (name m new z s can r (next m z))
      ≡ name m new z s can r (next m (next m z))
  next_border = next_at m new z s can r (next m z) b3 (λ q. b3.other_side (q ∙ before))
      (λ q. f.apart.1 (sym (q ∙ twin_before)))

  -- the third edge after z comes before the first one now
  pub prev_border : prev new (name m new z s can r (next m z))
      ≡ name m new z s can r (next m (next m (next m z)))
  prev_border =
      let n2 = next_twin_before m new z s can r (next m (next m (next m z))) b2 (sym twin_before) in
      ap (prev new) (sym n2)
      ∙ ((sound_removed m new z r).edges _ (name_in m new z s can r _ b2)).prev_next

  -- what is left is a loop of three edges
  pub open_triangle : IsOpenTriangle new (name m new z s can r (next m z))
  open_triangle =
      let n1 = next_at m new z s can r (next m (next m z)) b1 (λ q. b1.other_side (q ∙ before))
      (λ q. f.apart.2 (sym (q ∙ twin_before))) in
      let k = outer_of m z s f.within in
      let off = f.unnamed k.0 k.1 in
      let l : IsLeft m z k.0 =
      record { within = (s.outer k.0 k.1).0; other = off.0; other_side = off.1 } in
      record {
        within = name_in m new z s can r (next m z) b3;
        outer = face_at m new z s can r (next m z) b3 ∙ (s.edges z f.within).same_face ∙ f.outer;
        three = ap (next new) next_border ∙ n1 ∙ sym prev_border;
        proper = λ q. f.apart.0 (name_same m new z s can r _ _ b1 b3 (sym next_border ∙ q));
        unnamed = λ j is.
            let same = some_same _ _ (sym (outer_at m new z s can r k.0 l k.1) ∙ is) in (
              λ q. off.2 (name_same m new z s can r _ _ l b3 (same ∙ q)),
              λ q. off.3 (name_same m new z s can r _ _ l b1 (same ∙ q ∙ next_border)),
              λ q. off.4 (name_same m new z s can r _ _ l b2 (same ∙ q ∙ prev_border)),
            );
      }

-- the middle step: the face between the last two edges goes with the first of them
module _ (m mid new : Mesh) (a z : ℕ) (s : AreSoundLinks m) (f : IsFanOfTwo m a z)
    (o : Opens m mid (face m a)) (r : Removes mid new a) where
  -- edge a is one of the mesh
  abbrev a_in : a < length m.half_edges
  a_in = f.peelable.within

  -- edge a lies on a loop of three edges
  pub at_a : IsTriangle m a
  at_a = triangle_at m a s f.peelable.within f.peelable.inner

  abbrev inner : IsInner m (face m a)
  inner = (f.peelable.inner, (s.edges a a_in).face_in)

  -- the mesh whose face between a and z was opened is sound
  abbrev pub s1 : AreSoundLinks mid
  s1 = sound_opened m mid (face m a) s inner o

  -- edge a can be taken out of its loops once its face is open
  abbrev pub can1 : IsUnlinkable mid a
  can1 = removable_opened m mid a s f.peelable o

  z_face : face m z ≡ 0
  z_face = ap (face m) (sym f.gap)
      ∙ (s.edges (rev a) (rev_within a (length m.half_edges) s.even a_in)).same_face
      ∙ f.peelable.outer

  -- the edge after z is one of the mesh
  c3_in : next m z < length m.half_edges
  c3_in = (s.edges z f.within).next_in

  c3_face : face m (next m z) ≡ 0
  c3_face = (s.edges z f.within).same_face ∙ z_face

  -- the second edge after z is one of the mesh
  c1_in : next m (next m z) < length m.half_edges
  c1_in = (s.edges _ c3_in).next_in

  c1_face : face m (next m (next m z)) ≡ 0
  c1_face = (s.edges _ c3_in).same_face ∙ c3_face

  -- the edge before a is the other side of z
  pub a_before : prev m a ≡ rev z
  a_before = sym (rev-rev (prev m a)) ∙ ap rev f.spoke

  -- the edge before the other side of a is the second one after z
  pub twin_before1 : prev m (rev a) ≡ next m (next m z)
  twin_before1 = ap (prev m) (sym f.round) ∙ (s.edges _ c1_in).prev_next

  -- an edge of the outer face is not in the face that goes
  off_a : (k : ℕ) → face m k ≡ 0 → (k ≢ a) × (k ≢ next m a) × (k ≢ prev m a)
  off_a k zero =
      let some = f.peelable.inner in (
        λ q. absurd (omega (arith, ap (face m) q)),
        λ q. absurd (omega (arith, ap (face m) q, at_a.face_next)),
        λ q. absurd (omega (arith, ap (face m) q, at_a.face_prev)),
      )

  -- an edge other than the two sides of a is left
  left : (k : ℕ) → k < length m.half_edges → k ≢ a → k ≢ rev a → IsLeft mid a k
  left k within p q = record { within = rw o.edge_count within; other = p; other_side = q }

  -- z is not the other side of a, which ends there
  z_twin : z ≢ rev a
  z_twin q = f.peelable.ends (sym f.same ∙ ap (origin m) q)

  -- edge z is left once a is gone
  pub z_left : IsLeft mid a z
  z_left = left z f.within (off_a z z_face).0 z_twin

  -- the second edge after z is not z
  c1_z : next m (next m z) ≢ z
  c1_z q = f.off (ap (origin m) q ∙ f.same)

  -- the edge after z is left once a is gone
  pub c3_left : IsLeft mid a (next m z)
  c3_left = left (next m z) c3_in (off_a _ c3_face).0
      (λ q. f.off (ap (origin m) (ap (next m) q ∙ f.gap) ∙ f.same))

  -- the second edge after z is left once a is gone
  pub c1_left : IsLeft mid a (next m (next m z))
  c1_left = left (next m (next m z)) c1_in (off_a _ c1_face).0
      (λ q. z_twin (sym f.gap ∙ sym (ap (next m) q) ∙ f.round))

  -- the edge after a is left once a is gone
  pub c2_left : IsLeft mid a (next m a)
  c2_left = left (next m a) at_a.next_in at_a.next_differs (λ q. absurd
      (omega (arith, ap (face m) q, at_a.face_next, f.peelable.inner, f.peelable.outer)))

  -- the other side of z is left once a is gone
  pub w_left : IsLeft mid a (rev z)
  w_left = left (rev z) (rw (← a_before) at_a.prev_in) (λ q. at_a.prev_differs (a_before ∙ q))
      (λ q. (off_a z z_face).0 (sym (rev-rev z) ∙ ap rev q ∙ rev-rev a))

  -- the new index of an edge that is left
  abbrev pub nm : ℕ → ℕ
  nm k = name mid new a s1 can1 r k

  -- the same edge comes after an edge as before, but after those that stood before the sides of a
  step : (k : ℕ) → IsLeft mid a k → k ≢ rev z → k ≢ next m (next m z)
      → next new (nm k) ≡ nm (next m k)
  step k l p q = next_at mid new a s1 can1 r k l (λ i. p (i ∙ o.prev a ∙ a_before))
      (λ i. q (i ∙ o.prev (rev a) ∙ twin_before1)) ∙ ap nm (o.next k)

  -- an edge of the outer face is not the other side of z
  off_w : (k : ℕ) → face m k ≡ 0 → k ≢ rev z
  off_w k zero q = (off_a k zero).2 (q ∙ sym a_before)

  -- an edge of the outer face is not the edge after a
  off_c2 : (k : ℕ) → face m k ≡ 0 → next m a ≢ k
  off_c2 k zero q = (off_a k zero).1 (sym q)

  -- the same edge comes after z as before
  pub nz : next new (nm z) ≡ nm (next m z)
  nz = step z z_left (λ q. rev_differs z (sym q)) (λ q. c1_z (sym q))

  -- after the second edge after z comes the one that came after a
  n1 : next new (nm (next m (next m z))) ≡ nm (next m a)
  n1 = next_twin_before mid new a s1 can1 r (next m (next m z)) c1_left
      (sym (o.prev (rev a) ∙ twin_before1)) ∙ ap nm (o.next a)

  -- the edge after a is not the other side of z
  c2_w : next m a ≢ rev z
  c2_w q = at_a.both_differ (q ∙ sym a_before)

  -- after the edge after a comes the other side of z
  n2 : next new (nm (next m a)) ≡ nm (rev z)
  n2 = step (next m a) c2_left c2_w (off_c2 _ c1_face) ∙ ap nm (at_a.next_next ∙ a_before)

  -- the other side of z is the same edge as before
  pub rev_z : rev (nm z) ≡ nm (rev z)
  rev_z = rev_at mid new a s1 can1 r z z_left

  -- edges that are left and have one new index are one
  same : (x y : ℕ) → IsLeft mid a x → IsLeft mid a y → nm x ≡ nm y → x ≡ y
  same x y p q = name_same mid new a s1 can1 r x y p q

  -- each edge that is left starts where it did
  pub origin_now : (k : ℕ) → IsLeft mid a k → origin new (nm k) ≡ origin m k
  origin_now k l = origin_at mid new a s1 can1 r k l ∙ o.origin k

  face_zero : (k : ℕ) → k < length m.half_edges → face m k ≡ 0 → face mid k ≡ 0
  face_zero k within zero = o.other k within (λ q. absurd (omega (arith, zero, inner.0)))
      (λ q. absurd (omega (arith, zero, inner.0, inner.1))) ∙ zero

  -- the second edge after z is the same as before
  pub to1 : next new (next new (nm z)) ≡ nm (next m (next m z))
  to1 = ap (next new) nz ∙ step (next m z) c3_left (off_w _ c3_face) (λ q. f.apart (sym q))

  -- the third edge after z is the one that came after a
  pub to2 : next new (next new (next new (nm z))) ≡ nm (next m a)
  to2 = ap (next new) to1 ∙ n1

  -- what is left of a vertex with two edges has one, z, in a hole of three more
  pub fan_of_one : IsFanOfOne new (name mid new a s1 can1 r z)
  fan_of_one =
      let c3_z : next m z ≢ z = λ q. c1_z (ap (next m) q ∙ q) in
      let off = λ (x y : ℕ) (p : IsLeft mid a x) (q : IsLeft mid a y) (d : x ≢ y) (n : ℕ) (is :
      n ≡ nm x) (i : n ≡ nm y). d (same x y p q (sym is ∙ i)) in
      let k = outer_of m z s f.within in
      let un = f.unnamed k.0 k.1 in
      let had = s.outer k.0 k.1 in
      let l : IsLeft mid a k.0 = left k.0 had.0 (off_a k.0 had.1).0 un.0 in
      record {
        within = name_in mid new a s1 can1 r z z_left;
        outer = face_at mid new a s1 can1 r z z_left ∙ face_zero z f.within z_face;
        pendant = ap (next new) rev_z ∙ next_before mid new a s1 can1 r (rev z) w_left
            (sym (o.prev a ∙ a_before)) ∙ ap nm (o.next (rev a) ∙ f.gap);
        ends = λ q. f.ends (sym (origin_now (rev z) w_left) ∙ sym (ap (origin new) rev_z) ∙ sym q
            ∙ origin_now z z_left ∙ f.same);
        round = ap (next new) to2 ∙ n2 ∙ sym rev_z;
        first_off = (
          off (next m z) z c3_left z_left c3_z _ nz,
          λ i. off (next m z) (rev z) c3_left w_left (off_w _ c3_face) _ nz (i ∙ rev_z),
        );
        second_off = (
          off _ z c1_left z_left c1_z _ to1,
          λ i. off _ (rev z) c1_left w_left (off_w _ c1_face) _ to1 (i ∙ rev_z),
        );
        third_off = (
          off (next m a) z c2_left z_left (off_c2 _ z_face) _ to2,
          λ i. off (next m a) (rev z) c2_left w_left c2_w _ to2 (i ∙ rev_z),
        );
        apart = (
          λ i. off _ (next m z) c1_left c3_left f.apart _ to1 (i ∙ nz),
          λ i. off (next m a) (next m z) c2_left c3_left (off_c2 _ c3_face) _ to2 (i ∙ nz),
          λ i. off (next m a) (next m (next m z)) c2_left c1_left
              (off_c2 _ c1_face) _ to2 (i ∙ to1),
        );
        only = λ h within is.
            let old = old_at mid new a s1 can1 r h within in
            let at = sym (origin_now _ old.0) ∙ ap (origin new) old.1 ∙ is
            ∙ origin_now z z_left ∙ f.same in
            elim (f.only _ (rw (← o.edge_count) old.0.within) at) [
              | inl q ↦ absurd (old.0.other q)
              | inr q ↦ sym old.1 ∙ ap nm q
            ];
        unnamed = λ j is.
            let to : nm k.0 ≡ j = some_same _ _
            (sym (outer_at mid new a s1 can1 r k.0 l (o.outer_edge ∙ k.1)) ∙ is) in (
              λ q. un.1 (same _ z l z_left (to ∙ q)),
              λ q. off_w k.0 had.1 (same _ (rev z) l w_left (to ∙ q ∙ rev_z)),
              λ q. un.2 (same _ (next m z) l c3_left (to ∙ q ∙ nz)),
              λ q. un.3 (same _ _ l c1_left (to ∙ q ∙ to1)),
              λ q. off_c2 k.0 had.1 (sym (same _ (next m a) l c2_left (to ∙ q ∙ to2))),
            );
      }
