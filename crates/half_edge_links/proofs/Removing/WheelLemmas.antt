-- The first step in which a vertex with three faces goes.
-- Notions: nm; still_inner, still_apart, turn_in, turn_starts, a_in, z_in, t1, t2, t3, before_o,
-- before_z, inner_z, peelable_first, s1, s2, can, prev_is, twin_face, a_left, z_left, b1_left,
-- b3_left, ra_left, mid_before, mid_twin_before, nz, n3, s3, origin_now, rev_a, fan_of_two.
use Rattle.std.proofs.Common.{◌≡◌, ◌≢◌, ℕ, ◌<◌, length, sym, ap, ◌∙◌, inl, inr, arith}
use Rattle.std.proofs.lemmas.Bool.{cases_eq}
use Rattle.half_edge_links.specs.{AreSoundLinks, face, IsInner, Mesh, next, Opens, origin, prev}
use Rattle.half_edge_links.specs.{Removes, rev, turn}
use Rattle.half_edge_links.proofs.{Lists.Cases.◌each_with◌, Removing.PeelLemmas.removable_opened}
use Rattle.half_edge_links.proofs.{Lists.Rev.rev-rev, Removing.RemoveSound.sound_removed}
use Rattle.half_edge_links.proofs.{Removing.CollapseLemmas.outer_of, Removing.UnlinkSound.some_same}
use Rattle.half_edge_links.proofs.Removing.Conditions.{IsFanOfTwo, IsFullWheel, IsHullEdge}
use Rattle.half_edge_links.proofs.Removing.Conditions.{IsUnlinkable, spoke_at}
use Rattle.half_edge_links.proofs.Removing.OpenSound.{sound_opened}
use Rattle.half_edge_links.proofs.Removing.Track.{face_at, IsLeft, name, name_in, name_same}
use Rattle.half_edge_links.proofs.Removing.Track.{next_at, next_before, next_twin_before, old_at}
use Rattle.half_edge_links.proofs.Removing.Track.{origin_at, outer_at, rev_at}
use Rattle.half_edge_links.proofs.Sound.Triangles.{IsTriangle, triangle_at}

module _ (m new : Mesh) (f : ℕ) (o : Opens m new f) (some : 0 < f) where
  -- an edge of another inner face is still one
  pub still_inner : (k : ℕ) → k < length m.half_edges → 0 < face m k → face m k ≢ f → 0 < face new k
  still_inner k within inner differs =
      elim (cases_eq (face m k) (length m.face_edges)) [
        | inl i ↦ rw (o.last k within i differs) some
        | inr i ↦ rw (o.other k within differs i) inner
      ]

  -- edges of two other faces are still of two
  pub still_apart : (k l : ℕ) → k < length m.half_edges → l < length m.half_edges → face m k ≢ f
      → face m l ≢ f → face m k ≢ face m l → face new k ≢ face new l
  still_apart k l k_in l_in p q differ same =
      elim (cases_eq (face m k) (length m.face_edges) each_with cases_eq (face m l)
      (length m.face_edges)) [
        | inl (i, inl j) ↦ differ (i ∙ sym j)
        | inl (i, inr j) ↦ q (sym (o.other l l_in q j) ∙ sym same ∙ o.last k k_in i p)
        | inr (i, inl j) ↦ p (sym (o.other k k_in p i) ∙ same ∙ o.last l l_in j q)
        | inr (i, inr j) ↦ differ (sym (o.other k k_in p i) ∙ same ∙ o.other l l_in q j)
      ]

module _ (m : Mesh) (o : ℕ) (s : AreSoundLinks m) (w : IsFullWheel m o) where
  -- the next edge round the start of an edge is in the mesh
  pub turn_in : (h : ℕ) → h < length m.half_edges → turn m h < length m.half_edges
  turn_in h within = (spoke_at m h s within 1).0

  -- the next edge round the start of an edge starts there too
  pub turn_starts : (h : ℕ) → h < length m.half_edges → origin m (turn m h) ≡ origin m h
  turn_starts h within = (spoke_at m h s within 1).1

  -- the second spoke is in the mesh
  pub a_in : turn m o < length m.half_edges
  a_in = turn_in o w.wheel.within

  -- the third spoke is in the mesh
  pub z_in : turn m (turn m o) < length m.half_edges
  z_in = turn_in (turn m o) a_in

  -- the first face is a loop of three edges
  pub t1 : IsTriangle m o
  t1 = triangle_at m o s w.wheel.within w.wheel.first_inner

  -- the second face is a loop of three edges
  pub t2 : IsTriangle m (turn m o)
  t2 = triangle_at m (turn m o) s a_in w.wheel.second_inner

  -- the third face is a loop of three edges
  pub t3 : IsTriangle m (turn m (turn m o))
  t3 = triangle_at m (turn m (turn m o)) s z_in w.wheel.third_inner

  -- the edge before the first spoke is the other side of the second
  pub before_o : prev m o ≡ rev (turn m o)
  before_o = sym (rev-rev (prev m o))

  before_a : prev m (turn m o) ≡ rev (turn m (turn m o))
  before_a = sym (rev-rev (prev m (turn m o)))

  -- the edge before the third spoke is the other side of the first
  pub before_z : prev m (turn m (turn m o)) ≡ rev o
  before_z = sym (rev-rev (prev m (turn m (turn m o)))) ∙ ap rev w.wheel.round

  -- the face of the third spoke is an inner one
  pub inner_z : IsInner m (face m (turn m (turn m o)))
  inner_z = (w.wheel.third_inner, (s.edges _ z_in).face_in)

  module _ (m1 : Mesh) (op : Opens m m1 (face m (turn m (turn m o)))) where
    -- once the third face is open, the first spoke is an edge of the hull
    pub peelable_first : IsHullEdge m1 o
    peelable_first = record {
      within = rw op.edge_count w.wheel.within;
      inner = still_inner m m1 _ op w.wheel.third_inner o w.wheel.within w.wheel.first_inner
          (λ q. w.third_apart (sym q));
      outer = op.gone (rev o)
          (rw (← before_z) (t3).prev_in) (ap (face m) (sym before_z) ∙ (t3).face_prev);
      ends = λ q. w.first_end (sym (op.origin (rev o)) ∙ sym q ∙ op.origin o);
    }

    -- the mesh in which the third face is open is sound
    pub s1 : AreSoundLinks m1
    s1 = sound_opened m m1 _ s inner_z op

    module _ (mid new : Mesh) (oq : Opens m1 mid (face m1 o)) (r : Removes mid new o) where
      -- the mesh in which the first face is open too is sound
      pub s2 : AreSoundLinks mid
      s2 = sound_opened m1 mid (face m1 o) s1
          (peelable_first.inner, (s1.edges o peelable_first.within).face_in) oq

      -- the first spoke can be taken out of its loops once both its faces are open
      pub can : IsUnlinkable mid o
      can = removable_opened m1 mid o s1 peelable_first oq

      -- the new index of an edge that is left
      abbrev pub nm : ℕ → ℕ
      nm k = name mid new o s2 can r k

      next_is : (k : ℕ) → next mid k ≡ next m k
      next_is k = oq.next k ∙ op.next k

      -- opening the faces leaves the edge before each edge
      pub prev_is : (k : ℕ) → prev mid k ≡ prev m k
      prev_is k = oq.prev k ∙ op.prev k

      count : length mid.half_edges ≡ length m.half_edges
      count = oq.edge_count ∙ op.edge_count

      -- an edge other than the two sides of the first spoke is left
      left : (k : ℕ) → k < length m.half_edges → k ≢ o → k ≢ rev o → IsLeft mid o k
      left k within p q = record { within = rw count within; other = p; other_side = q }

      -- the other side of the first spoke has the third face
      pub twin_face : face m (rev o) ≡ face m (turn m (turn m o))
      twin_face = ap (face m) (sym before_z) ∙ (t3).face_prev

      -- the second spoke is left once the first is gone
      pub a_left : IsLeft mid o (turn m o)
      a_left = left _ a_in (λ q. w.first_apart (sym (ap (face m) q)))
          (λ q. w.second_apart (ap (face m) q ∙ twin_face))

      -- the third spoke is left once the first is gone
      pub z_left : IsLeft mid o (turn m (turn m o))
      z_left = left _ z_in (λ q. w.third_apart (ap (face m) q))
          (λ q. (t3).prev_differs (before_z ∙ sym q))

      -- the edge after the first spoke is left once this is gone
      pub b1_left : IsLeft mid o (next m o)
      b1_left = left _ (t1).next_in (t1).next_differs
          (λ q. w.third_apart (sym (sym (t1).face_next ∙ ap (face m) q ∙ twin_face)))

      -- the edge after the third spoke is left once the first is gone
      pub b3_left : IsLeft mid o (next m (turn m (turn m o)))
      b3_left = left _ (t3).next_in (λ q. w.third_apart (sym (t3).face_next ∙ ap (face m) q))
          (λ q. (t3).both_differ (q ∙ sym before_z))

      -- the other sides of the two spokes that are left
      pub ra_left : IsLeft mid o (rev (turn m o))
      ra_left = rw (← before_o) (left (prev m o) (t1).prev_in (t1).prev_differs
          (λ q. w.third_apart (sym (sym (t1).face_prev ∙ ap (face m) q ∙ twin_face))))

      rz_left : IsLeft mid o (rev (turn m (turn m o)))
      rz_left = rw (← before_a) (left (prev m (turn m o))
          (t2).prev_in (λ q. w.first_apart (sym (sym (t2).face_prev ∙ ap (face m) q)))
          (λ q. w.second_apart (sym (t2).face_prev ∙ ap (face m) q ∙ twin_face)))

      ra_face : face m (rev (turn m o)) ≡ face m o
      ra_face = ap (face m) (sym before_o) ∙ (t1).face_prev

      rz_face : face m (rev (turn m (turn m o))) ≡ face m (turn m o)
      rz_face = ap (face m) (sym before_a) ∙ (t2).face_prev

      -- what is before the edge that goes, and before its other side
      pub mid_before : prev mid o ≡ rev (turn m o)
      mid_before = prev_is o ∙ before_o

      -- the edge before the other side of the first spoke is the one after the third
      pub mid_twin_before : prev mid (rev o) ≡ next m (turn m (turn m o))
      mid_twin_before = prev_is (rev o) ∙ ap (prev m) (sym before_z) ∙ (t3).prev_prev

      -- the same edge comes after an edge as before, but after those before the first spoke's sides
      step : (k : ℕ) → IsLeft mid o k → k ≢ rev (turn m o) → k ≢ next m (turn m (turn m o))
          → next new (nm k) ≡ nm (next m k)
      step k l p q = next_at mid new o s2 can r k l (λ i. p (i ∙ mid_before))
          (λ i. q (i ∙ mid_twin_before)) ∙ ap nm (next_is k)

      -- after the other side of the second spoke comes the third spoke
      gap : next new (nm (rev (turn m o))) ≡ nm (turn m (turn m o))
      gap = next_before mid new o s2 can r _ ra_left (sym mid_before)
          ∙ ap nm (next_is (rev o) ∙ ap (next m) (sym before_z) ∙ (t3).next_prev)

      -- the same edge comes after the third spoke as before
      pub nz : next new (nm (turn m (turn m o))) ≡ nm (next m (turn m (turn m o)))
      nz = step _ z_left (λ q. w.third_apart (ap (face m) q ∙ ra_face))
          (λ q. (t3).next_differs (sym q))

      -- after the edge after the third spoke comes the one that came after the first
      pub n3 : next new (nm (next m (turn m (turn m o)))) ≡ nm (next m o)
      n3 = next_twin_before mid new o s2 can r _ b3_left (sym mid_twin_before) ∙ ap nm (next_is o)

      -- after the edge after the first spoke comes the other side of the second
      n1 : next new (nm (next m o)) ≡ nm (rev (turn m o))
      n1 = step _ b1_left (λ q. (t1).both_differ (q ∙ sym before_o))
          (λ q. w.third_apart (sym (sym (t1).face_next ∙ ap (face m) q ∙ (t3).face_next)))
          ∙ ap nm ((t1).next_next ∙ before_o)

      -- after the other side of the third spoke comes the second
      nrz : next new (nm (rev (turn m (turn m o)))) ≡ nm (turn m o)
      nrz = step _ rz_left (λ q. w.first_apart (sym (sym rz_face ∙ ap (face m) q ∙ ra_face)))
          (λ q. w.second_apart (sym rz_face ∙ ap (face m) q ∙ (t3).face_next))
          ∙ ap nm (ap (next m) (sym before_a) ∙ (t2).next_prev)

      -- the mesh without the first spoke is sound
      pub s3 : AreSoundLinks new
      s3 = sound_removed mid new o r

      -- each edge that is left starts where it did
      pub origin_now : (k : ℕ) → IsLeft mid o k → origin new (nm k) ≡ origin m k
      origin_now k l = origin_at mid new o s2 can r k l ∙ oq.origin k ∙ op.origin k

      -- the other side of the second spoke is the same edge as before
      pub rev_a : rev (nm (turn m o)) ≡ nm (rev (turn m o))
      rev_a = rev_at mid new o s2 can r _ a_left

      -- the other side of the third spoke is the same edge as before
      rev_z : rev (nm (turn m (turn m o))) ≡ nm (rev (turn m (turn m o)))
      rev_z = rev_at mid new o s2 can r _ z_left

      -- edges that are left and have one new index are one
      same : (x y : ℕ) → IsLeft mid o x → IsLeft mid o y → nm x ≡ nm y → x ≡ y
      same x y p q = name_same mid new o s2 can r x y p q

      a_face : 0 < face mid (turn m o)
      a_face =
          let one = still_inner m m1 _ op w.wheel.third_inner
          (turn m o) a_in w.wheel.second_inner w.second_apart in
          still_inner m1 mid _ oq peelable_first.inner (turn m o) (rw op.edge_count a_in) one
          (still_apart m m1 _ op w.wheel.third_inner (turn m o) o a_in w.wheel.within
          w.second_apart (λ q. w.third_apart (sym q)) (λ q. w.first_apart (sym q)))

      ra_outer : face mid (rev (turn m o)) ≡ 0
      ra_outer =
          let p_in = peelable_first.within in
          let at = s1.edges o p_in in
          let to : prev m1 o ≡ rev (turn m o) = op.prev o ∙ before_o in
          let same_face : face m1 (prev m1 o) ≡ face m1 o =
          sym (s1.edges (prev m1 o) at.prev_in).same_face ∙ ap (face m1) at.next_prev in
          oq.gone (rev (turn m o)) (rw (← to) at.prev_in) (ap (face m1) (sym to) ∙ same_face)

      -- what is left of a vertex with three edges has two of them, and a face between them
      pub fan_of_two : IsFanOfTwo new (nm (turn m o)) (nm (turn m (turn m o)))
      fan_of_two =
          let v_a = turn_starts o w.wheel.within in
          let v_z = turn_starts (turn m o) a_in ∙ v_a in
          let at_a = origin_now _ a_left ∙ v_a in
          let to1 : next new (next new (nm (turn m (turn m o)))) ≡ nm (next m o) =
          ap (next new) nz ∙ n3 in
          let k = outer_of m o s w.wheel.within in
          let had = s.outer k.0 k.1 in
          let out = λ (x : ℕ) (some : 0 < face m x) (q : k.0 ≡ x). let no : ⊥ =
          omega (arith, some, had.1, ap (face m) q) in no in
          let l : IsLeft mid o k.0 = left k.0 had.0 (out o w.wheel.first_inner)
          (out (rev o) (rw twin_face w.wheel.third_inner)) in
          record {
            peelable = record {
              within = name_in mid new o s2 can r _ a_left;
              inner = rw (face_at mid new o s2 can r _ a_left) a_face;
              outer = ap (face new) rev_a ∙ face_at mid new o s2 can r _ ra_left ∙ ra_outer;
              ends = λ q. w.second_end
                  (sym (origin_now _ ra_left) ∙ sym (ap (origin new) rev_a) ∙ sym q ∙ at_a);
            };
            spoke = ap rev (ap (prev new) (sym nrz)
                ∙ (s3.edges _ (name_in mid new o s2 can r _ rz_left)).prev_next)
                ∙ rev_at mid new o s2 can r _ rz_left ∙ ap nm (rev-rev (turn m (turn m o)));
            within = name_in mid new o s2 can r _ z_left;
            same = origin_now _ z_left ∙ v_z ∙ sym at_a;
            ends = λ q. w.third_end
                (sym (origin_now _ rz_left) ∙ sym (ap (origin new) rev_z) ∙ q ∙ at_a);
            gap = ap (next new) rev_a ∙ gap;
            round = ap (next new) to1 ∙ n1 ∙ sym rev_a;
            off = λ q. w.first_end (sym (s.edges o w.wheel.within).starts
                ∙ sym (origin_now _ b1_left) ∙ sym (ap (origin new) to1) ∙ q ∙ at_a);
            apart = λ q. w.third_apart (sym (sym (t1).face_next
                ∙ ap (face m) (same _ _ b1_left b3_left (sym to1 ∙ q ∙ nz)) ∙ (t3).face_next));
            only = λ h within is.
                let old = old_at mid new o s2 can r h within in
                let at = sym (origin_now _ old.0) ∙ ap (origin new) old.1 ∙ is ∙ at_a in
                elim (w.only _ (rw (← count) old.0.within) at) [
                  | inl q ↦ absurd (old.0.other q)
                  | inr j ↦ elim j
                      [ inl q ↦ inl (sym old.1 ∙ ap nm q) | inr q ↦ inr (sym old.1 ∙ ap nm q) ]
                ];
            unnamed = λ j is.
                let to : nm k.0 ≡ j = some_same _ _ (sym (outer_at mid new o s2 can r k.0 l
                (oq.outer_edge ∙ op.outer_edge ∙ k.1)) ∙ is) in (
                  λ q. out _ (rw ra_face w.wheel.first_inner) (same _ _ l ra_left (to ∙ q ∙ rev_a)),
                  λ q. out _ w.wheel.third_inner (same _ _ l z_left (to ∙ q)),
                  λ q. out _ (rw (t3).face_next w.wheel.third_inner)
                      (same _ _ l b3_left (to ∙ q ∙ nz)),
                  λ q. out _ (rw (t1).face_next w.wheel.first_inner)
                      (same _ _ l b1_left (to ∙ q ∙ to1)),
                );
          }
