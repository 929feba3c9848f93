-- The outer face keeps one loop where a vertex with three faces goes and the hole is filled.
-- Lemmas: outline_filled.
use Rattle.std.proofs.Common.{◌≡◌, ◌⊎◌, ◌-◌, ◌%◌, ◌<◌, ◌∙◌}
use Rattle.std.proofs.Common.{ℕ, length, refl, sym, ap, inl, inr, subst, arith}
use Rattle.half_edge_links.specs.{after_removal, AreSoundLinks, ClosesLoop, face, KeepsOneOutline}
use Rattle.half_edge_links.specs.{Mesh, next, Opens, pair_moved, Peels, Removes, rev, turn}
use Rattle.half_edge_links.proofs.Lists.Rev.{rev_within}
use Rattle.half_edge_links.proofs.OuterLoop.OutlineTraced.{InLoop, IsLeftOver, Opened}
use Rattle.half_edge_links.proofs.OuterLoop.OutlineTraced.{outline_traced, renamed, same_hole}
use Rattle.half_edge_links.proofs.OuterLoop.OutlineTraced.{traces_itself, traces_opened}
use Rattle.half_edge_links.proofs.OuterLoop.OutlineTraced.{traces_removed, TracesOuter}
use Rattle.half_edge_links.proofs.Removing.Conditions.{IsFanOfOne, IsFanOfTwo, IsFullWheel}
use Rattle.half_edge_links.proofs.Sound.Triangles.{IsTriangle, same_loop, triangle_at}
use Rattle.half_edge_links.proofs.Removing.CollapseLemmas as fan
use Rattle.half_edge_links.proofs.Removing.WheelLemmas as wheel

-- the hole beside a vertex with two edges, a and then z
abbrev InFour : Mesh → ℕ → ℕ → ℕ → Type 0
InFour m a z k = (k ≡ rev a) ⊎ ((k ≡ z) ⊎ ((k ≡ next m z) ⊎ (k ≡ next m (next m z))))

-- the hole round a vertex with one edge
abbrev InThree : Mesh → ℕ → ℕ → Type 0
InThree m z k = (k ≡ z) ⊎ ((k ≡ rev z)
    ⊎ ((k ≡ next m z) ⊎ ((k ≡ next m (next m z)) ⊎ (k ≡ next m (next m (next m z))))))

-- the first step: one face goes, and another with an edge between them
module _ (m one two : Mesh) (o : ℕ) (s : AreSoundLinks m) (w : IsFullWheel m o)
    (op : Opens m one (face m (turn m (turn m o)))) (p : Peels one two o) where
  abbrev z : ℕ
  z = turn m (turn m o)

  -- the new index of an edge that is left
  abbrev nm : ℕ → ℕ
  nm k = wheel.nm m o s w one op p.opened two p.opens p.removes k

  abbrev First : ℕ → Type 0
  First k = Opened m (λ j. ⊥) (face m z) k

  abbrev Second : ℕ → Type 0
  Second k = Opened one First (face one o) k

  -- the three edges of the third face
  t3 : IsTriangle m (turn m (turn m o))
  t3 = wheel.t3 m o s w

  -- the mesh in which the third face is open is sound
  s1 : AreSoundLinks one
  s1 = wheel.s1 m o s w one op

  -- the three edges of the first face, in that mesh
  here : IsTriangle one o
  here = let q = wheel.peelable_first m o s w one op in triangle_at one o s1 q.within q.inner

  in_first : (k : ℕ) → k < length m.half_edges → face m k ≡ face m z → Second k
  in_first k within is = inl (inr (within, is))

  at_before : Second (rev (turn m o))
  at_before = subst Second (op.prev o ∙ wheel.before_o m o s w) (inr (here.prev_in, here.face_prev))

  traced_two : TracesOuter m two nm (IsLeftOver m p.opened two (λ h. h) Second o
      (wheel.s2 m o s w one op p.opened two p.opens p.removes)
      (wheel.can m o s w one op p.opened two p.opens p.removes) p.removes)
  traced_two =
      let first = traces_opened m m one (λ h. h) (λ j. ⊥) (face m z) w.wheel.third_inner (omega
      (arith, (wheel.inner_z m o s w).0, (wheel.inner_z m o s w).1)) op (traces_itself m) in
      let q = wheel.peelable_first m o s w one op in
      let second = traces_opened m one p.opened (λ h. h) First (face one o) q.inner
      (omega (arith, q.inner, (s1.edges o q.within).face_in)) p.opens first in
      traces_removed m p.opened two (λ h. h) Second o (wheel.s2 m o s w one op p.opened two p.opens
      p.removes) (wheel.can m o s w one op p.opened two p.opens p.removes) p.removes
      (inr (q.within, refl))
      (in_first (rev o) (rev_within o _ s.even w.wheel.within)
      (wheel.twin_face m o s w one op p.opened two p.opens p.removes))
      (subst Second
      (sym (wheel.mid_before m o s w one op p.opened two p.opens p.removes)) at_before)
      (subst Second (sym (wheel.mid_twin_before m o s w one op p.opened two p.opens p.removes))
      (in_first _ t3.next_in t3.face_next))
      second

  -- the hole has four edges now
  traced_four : TracesOuter m two nm (InFour two (nm (turn m o)) (nm (turn m (turn m o))))
  traced_four =
      let nz = wheel.nz m o s w one op p.opened two p.opens p.removes in
      let n3 = ap (next two) nz ∙ wheel.n3 m o s w one op p.opened two p.opens p.removes in
      let rev_a = wheel.rev_a m o s w one op p.opened two p.opens p.removes in
      same_hole m two nm _ (InFour two (nm (turn m o)) (nm (turn m (turn m o))))
      (λ j over.
      let k = over.edge in
      let l = over.left in
      elim over.was [
        | inl (inl none) ↦ absurd none
        | inl (inr a) ↦
            elim (same_loop m (turn m (turn m o)) k s t3.h_in a.0 w.wheel.third_inner a.1) [
              | inl q ↦ inr (inl (sym over.is ∙ ap nm q))
              | inr (inl q) ↦ inr (inr (inl (sym over.is ∙ ap nm q ∙ sym nz)))
              | inr (inr q) ↦ absurd (l.other_side (q ∙ wheel.before_z m o s w))
            ]
        | inr a ↦ elim
            (same_loop one o k s1 here.h_in a.0 (wheel.peelable_first m o s w one op).inner a.1) [
              | inl q ↦ absurd (l.other q)
              | inr (inl q) ↦ inr (inr (inr (sym over.is ∙ ap nm (q ∙ op.next o) ∙ sym n3)))
              | inr (inr q) ↦
                  inl (sym over.is ∙ ap nm (q ∙ op.prev o ∙ wheel.before_o m o s w) ∙ sym rev_a)
            ]
      ])
      (λ j at. elim at [
        | inl q ↦ record {
          edge = rev (turn m o);
          left = wheel.ra_left m o s w one op p.opened two p.opens p.removes;
          was = at_before;
          is = sym rev_a ∙ sym q;
        }
        | inr (inl q) ↦ record {
          edge = turn m (turn m o);
          left = wheel.z_left m o s w one op p.opened two p.opens p.removes;
          was = in_first _ t3.h_in refl;
          is = sym q;
        }
        | inr (inr (inl q)) ↦ record {
          edge = next m (turn m (turn m o));
          left = wheel.b3_left m o s w one op p.opened two p.opens p.removes;
          was = in_first _ t3.next_in t3.face_next;
          is = sym nz ∙ sym q;
        }
        | inr (inr (inr q)) ↦ record {
          edge = next m o;
          left = wheel.b1_left m o s w one op p.opened two p.opens p.removes;
          was = subst Second (op.next o) (inr (here.next_in, here.face_next));
          is = sym n3 ∙ sym q;
        }
      ])
      traced_two

-- the second: the face between the last two edges goes with the first of them
module _ (m two three : Mesh) (to : ℕ → ℕ) (a z : ℕ) (s : AreSoundLinks two) (f :
    IsFanOfTwo two a z) (p : Peels two three a) (t : TracesOuter m two to (InFour two a z)) where
  -- the new index of an edge that is left
  abbrev nm' : ℕ → ℕ
  nm' k = fan.nm two p.opened three a z s f p.opens p.removes k

  abbrev Wider : ℕ → Type 0
  Wider k = Opened two (InFour two a z) (face two a) k

  -- the three edges of the face of a
  at_a : IsTriangle two a
  at_a = fan.at_a two p.opened three a z s f p.opens p.removes

  traced_three_of : TracesOuter m three (λ h. nm' (to h))
      (IsLeftOver m p.opened three to Wider a (fan.s1 two p.opened three a z s f p.opens p.removes)
      (fan.can1 two p.opened three a z s f p.opens p.removes) p.removes)
  traced_three_of =
      let e = f.peelable in
      let opened = traces_opened m two p.opened to (InFour two a z) (face two a) e.inner
      (omega (arith, e.inner, (s.edges a e.within).face_in)) p.opens t in
      traces_removed m p.opened three to Wider a (fan.s1 two p.opened three a z s f p.opens
      p.removes) (fan.can1 two p.opened three a z s f p.opens p.removes) p.removes
      (inr (e.within, refl))
      (inl (inl refl))
      (subst Wider (sym (p.opens.prev a)) (inr (at_a.prev_in, at_a.face_prev)))
      (subst Wider (sym (p.opens.prev (rev a) ∙ fan.twin_before1 two p.opened three a z s f p.opens
      p.removes)) (inl (inr (inr (inr refl)))))
      opened

  -- the hole has three edges now, and the last edge of the vertex hangs in it
  traced_three : TracesOuter m three (λ h. nm' (to h)) (InThree three (nm' z))
  traced_three =
      let nz = fan.nz two p.opened three a z s f p.opens p.removes in
      let to1 = fan.to1 two p.opened three a z s f p.opens p.removes in
      let to2 = fan.to2 two p.opened three a z s f p.opens p.removes in
      let rev_z = fan.rev_z two p.opened three a z s f p.opens p.removes in
      same_hole m three (λ h. nm' (to h)) _ (InThree three (nm' z))
      (λ j over.
      let l = over.left in
      elim over.was [
        | inl (inl q) ↦ absurd (l.other_side q)
        | inl (inr (inl q)) ↦ inl (sym over.is ∙ ap nm' q)
        | inl (inr (inr (inl q))) ↦ inr (inr (inl (sym over.is ∙ ap nm' q ∙ sym nz)))
        | inl (inr (inr (inr q))) ↦ inr (inr (inr (inl (sym over.is ∙ ap nm' q ∙ sym to1))))
        | inr b ↦ elim (same_loop two a over.edge s at_a.h_in b.0 f.peelable.inner b.1) [
          | inl q ↦ absurd (l.other q)
          | inr (inl q) ↦ inr (inr (inr (inr (sym over.is ∙ ap nm' q ∙ sym to2))))
          | inr (inr q) ↦ inr (inl (sym over.is
              ∙ ap nm' (q ∙ fan.a_before two p.opened three a z s f p.opens p.removes) ∙ sym rev_z))
        ]
      ])
      (λ j at. elim at [
        | inl q ↦ record {
          edge = z;
          left = fan.z_left two p.opened three a z s f p.opens p.removes;
          was = inl (inr (inl refl));
          is = sym q;
        }
        | inr (inl q) ↦ record {
          edge = rev z;
          left = fan.w_left two p.opened three a z s f p.opens p.removes;
          was = subst Wider (fan.a_before two p.opened three a z s f p.opens p.removes)
              (inr (at_a.prev_in, at_a.face_prev));
          is = sym rev_z ∙ sym q;
        }
        | inr (inr (inl q)) ↦ record {
          edge = next two z;
          left = fan.c3_left two p.opened three a z s f p.opens p.removes;
          was = inl (inr (inr (inl refl)));
          is = sym nz ∙ sym q;
        }
        | inr (inr (inr (inl q))) ↦ record {
          edge = next two (next two z);
          left = fan.c1_left two p.opened three a z s f p.opens p.removes;
          was = inl (inr (inr (inr refl)));
          is = sym to1 ∙ sym q;
        }
        | inr (inr (inr (inr q))) ↦ record {
          edge = next two a;
          left = fan.c2_left two p.opened three a z s f p.opens p.removes;
          was = inr (at_a.next_in, at_a.face_next);
          is = sym to2 ∙ sym q;
        }
      ])
      traced_three_of

-- the last edge goes
traced_loop : (m three four : Mesh) (to : ℕ → ℕ) (z : ℕ) (s : AreSoundLinks three)
    (f : IsFanOfOne three z) (r : Removes three four z) → TracesOuter m three to (InThree three z)
    → TracesOuter m four (renamed m three four to (InThree three z) z s
    (fan.can three four z s f r) r) (InLoop four (after_removal three z (next three z)))
traced_loop m three four to z s f r t =
    let next_is = fan.next_border three four z s f r in
    let prev_is = fan.prev_border three four z s f r in
    let over =
    traces_removed m three four to (InThree three z) z s (fan.can three four z s f r) r (inl refl)
    (inr (inl refl)) (inr (inl (fan.before three four z s f r)))
    (inr (inr (inr (inr (fan.twin_before three four z s f r))))) t in
    same_hole m four _ _ (InLoop four (after_removal three z (next three z)))
    (λ j over.
    let l = over.left in
    elim over.was [
      | inl q ↦ absurd (l.other q)
      | inr (inl q) ↦ absurd (l.other_side q)
      | inr (inr (inl q)) ↦ inl (sym over.is ∙ ap (after_removal three z) q)
      | inr (inr (inr (inl q))) ↦
          inr (inl (sym over.is ∙ ap (after_removal three z) q ∙ sym next_is))
      | inr (inr (inr (inr q))) ↦
          inr (inr (sym over.is ∙ ap (after_removal three z) q ∙ sym prev_is))
    ])
    (λ j at. elim at [
      | inl q ↦ record {
        edge = next three z;
        left = fan.b3 three four z s f r;
        was = inr (inr (inl refl));
        is = sym q;
      }
      | inr (inl q) ↦ record {
        edge = next three (next three z);
        left = fan.b1 three four z s f r;
        was = inr (inr (inr (inl refl)));
        is = sym next_is ∙ sym q;
      }
      | inr (inr q) ↦ record {
        edge = next three (next three (next three z));
        left = fan.b2 three four z s f r;
        was = inr (inr (inr (inr refl)));
        is = sym prev_is ∙ sym q;
      }
    ])
    over

-- all steps: one face goes, then two edges each with a face, then the last edge, and what is left
-- is made a face
pub outline_filled : (m one two three four new : Mesh) (o spoke pendant border : ℕ)
    → AreSoundLinks m → IsFullWheel m o → Opens m one (face m (turn m (turn m o))) → Peels one two o
    → spoke ≡ after_removal one o (turn one o) → AreSoundLinks two → Peels two three spoke
    → pendant ≡ after_removal two spoke (turn two spoke) → AreSoundLinks three
    → Removes three four pendant → border ≡ after_removal three pendant (next three pendant)
    → ClosesLoop four new border → KeepsOneOutline m new
outline_filled m one two three four new o spoke pendant border s w op p spoke_is s2 q pendant_is s3
    r border_is c =
    let f = wheel.fan_of_two m o s w one op p.opened two p.opens p.removes in
    let a : ℕ = wheel.nm m o s w one op p.opened two p.opens p.removes (turn m o) in
    let z : ℕ = wheel.nm m o s w one op p.opened two p.opens p.removes (turn m (turn m o)) in
    let at_a : spoke ≡ a =
    spoke_is ∙ ap (λ n. pair_moved (n - 2) (o - o % 2) (turn one o)) (sym p.opens.edge_count)
    ∙ ap (λ k. pair_moved (length p.opened.half_edges - 2) (o - o % 2) (rev k)) (op.prev o) in
    let f' : IsFanOfTwo two spoke z = rw at_a f in
    let t : TracesOuter m two (wheel.nm m o s w one op p.opened two p.opens p.removes)
    (InFour two spoke z) = rw at_a (traced_four m one two o s w op p) in
    let at_z : pendant ≡ fan.nm two q.opened three spoke z s2 f' q.opens q.removes z =
    pendant_is
    ∙ ap (λ n. pair_moved (n - 2) (spoke - spoke % 2) (turn two spoke)) (sym q.opens.edge_count)
    ∙ ap (λ k. pair_moved (length q.opened.half_edges - 2) (spoke - spoke % 2) k) f'.spoke in
    let g : IsFanOfOne three pendant =
    rw at_z (fan.fan_of_one two q.opened three spoke z s2 f' q.opens q.removes) in
    let u = traced_three m two three
    (wheel.nm m o s w one op p.opened two p.opens p.removes) spoke z s2 f' q t in
    let to = λ (h : ℕ). fan.nm two q.opened three spoke z s2 f' q.opens q.removes
    (wheel.nm m o s w one op p.opened two p.opens p.removes h) in
    let u' : TracesOuter m three to (InThree three pendant) = rw at_z u in
    let to4 = λ (h : ℕ). renamed m three four to (InThree three pendant) pendant s3
    (fan.can three four pendant s3 g r) r h in
    let v : TracesOuter m four to4 (InLoop four border) =
    rw border_is (traced_loop m three four to pendant s3 g r u') in
    outline_traced m four new to4 border c v
