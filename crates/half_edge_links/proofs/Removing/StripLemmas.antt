-- A vertex of the hull loses its faces one by one.
-- Notions: nm; removable_strip, can, s1, spoke_left, spokes, origin_now, start, strip_from,
-- strip_ends, one_more.
use Rattle.std.proofs.Common.{◌≡◌, ◌≢◌, ◌-◌, ◌%◌, ◌<◌, ◌≤◌, ◌∙◌}
use Rattle.std.proofs.Common.{ℕ, zero, suc, length, refl, sym, ap, inl, inr, arith}
use Rattle.std.proofs.lemmas.Bool.{cases_eq}
use Rattle.half_edge_links.specs.{after_removal, AreSoundLinks, face, IsInner, IsRemovable, IsStrip}
use Rattle.half_edge_links.specs.{Mesh, next, Opens, origin, pair_moved, Peels, prev, Removes, rev}
use Rattle.half_edge_links.specs.{spoke, turn}
use Rattle.half_edge_links.proofs.Lists.Rev.{rev-rev, rev_within}
use Rattle.half_edge_links.proofs.Removing.Conditions.{IsFullStrip, IsHullEdge, IsUnlinkable}
use Rattle.half_edge_links.proofs.{Removing.Conditions.spoke_at, Removing.RemoveSound.sound_removed}
use Rattle.half_edge_links.proofs.Removing.OpenSound.{sound_opened}
use Rattle.half_edge_links.proofs.Removing.PeelLemmas.{removable_opened}
use Rattle.half_edge_links.proofs.Removing.Track.{face_at, IsLeft, name, name_in, name_same}
use Rattle.half_edge_links.proofs.Removing.Track.{next_at, next_before, next_twin_before, old_at}
use Rattle.half_edge_links.proofs.Removing.Track.{origin_at, rev_at}
use Rattle.half_edge_links.proofs.Removing.WheelLemmas.{still_apart, still_inner}
use Rattle.half_edge_links.proofs.Sound.Triangles.{IsTriangle, triangle_at}

-- the edge of a vertex of the hull that has no inner faces any more may be removed
pub removable_strip : (m : Mesh) (h : ℕ) → IsStrip m h 0 → IsRemovable m h
removable_strip m h f = record {
  within = f.within;
  outer = f.last;
  twin_outer = f.outer;
  whole = λ q. absurd (f.far q);
}

peelable_strip : (m : Mesh) (h k : ℕ) → IsFullStrip m h (suc k) → IsHullEdge m h
peelable_strip m h k f = record {
  within = f.strip.within;
  inner = f.strip.inner 0 (omega arith);
  outer = f.strip.outer;
  ends = λ q. f.ends 0 (omega arith) (sym q);
}

module _ (m mid new : Mesh) (h k : ℕ) (s : AreSoundLinks m) (f : IsFullStrip m h (suc k))
    (o : Opens m mid (face m h)) (r : Removes mid new h) where
  -- the first edge can be taken out of its loops once its face is open
  pub can : IsUnlinkable mid h
  can = removable_opened m mid h s (peelable_strip m h k f) o

  inner_h : IsInner m (face m h)
  inner_h = (f.strip.inner 0 (omega arith), (s.edges h f.strip.within).face_in)

  -- the mesh in which the first face is open is sound
  pub s1 : AreSoundLinks mid
  s1 = sound_opened m mid (face m h) s inner_h o

  -- the new index of an edge that is left
  abbrev pub nm : ℕ → ℕ
  nm g = name mid new h s1 can r g

  -- each spoke is an edge of the mesh and starts at the vertex
  at : (i : ℕ) → (spoke m h i < length m.half_edges) × (origin m (spoke m h i) ≡ origin m h)
  at i = spoke_at m h s f.strip.within i

  -- the three edges of the first face
  tri : IsTriangle m h
  tri = triangle_at m h s f.strip.within inner_h.0

  -- the other side of the spoke after spoke i is before it, and has its face
  twin_next : (i : ℕ) → rev (spoke m h (suc i)) ≡ prev m (spoke m h i)
  twin_next i = rev-rev (prev m (spoke m h i))

  twin_in : (i : ℕ) → rev (spoke m h (suc i)) < length m.half_edges
  twin_in i = rw twin_next (s.edges _ (at i).0).prev_in

  twin_face : (i : ℕ) → face m (rev (spoke m h (suc i))) ≡ face m (spoke m h i)
  twin_face i = let here = s.edges _ (at i).0 in ap (face m) (twin_next i)
      ∙ sym (s.edges _ here.prev_in).same_face ∙ ap (face m) here.next_prev

  -- the face of a later spoke is another one
  other_face : (i : ℕ) → i < suc k → face m (spoke m h (suc i)) ≢ face m h
  other_face i less same =
      elim (cases_eq i k) [
        | inl q ↦ absurd
            (omega (arith, inner_h.0, same, f.strip.last, ap (λ j. face m (spoke m h (suc j))) q))
        | inr q ↦ f.apart 0 (suc i) (omega arith) (omega arith) (sym same)
      ]

  -- an edge other than the two sides of h is left
  left : (g : ℕ) → g < length m.half_edges → g ≢ h → g ≢ rev h → IsLeft mid h g
  left g within p q = record { within = rw o.edge_count within; other = p; other_side = q }

  -- the spokes after the first one are left
  pub spoke_left : (i : ℕ) → i < suc k → IsLeft mid h (spoke m h (suc i))
  spoke_left i less = left _ (at (suc i)).0 (λ q. other_face i less (ap (face m) q))
      (λ q. f.ends 0 (omega arith) (sym (ap (origin m) q) ∙ (at (suc i)).1))

  twin_left : (i : ℕ) → i < suc k → IsLeft mid h (rev (spoke m h (suc i)))
  twin_left i less = left _ (twin_in i) (λ q. f.ends (suc i) (omega arith) (ap (origin m) q))
      (λ q. (spoke_left i less).other (sym (rev-rev (spoke m h (suc i))) ∙ ap rev q ∙ rev-rev h))

  before : prev mid h ≡ rev (spoke m h 1)
  before = o.prev h ∙ sym (twin_next 0)

  twin_before_face : face m (prev mid (rev h)) ≡ 0
  twin_before_face =
      let here = s.edges (rev h) (rev_within h (length m.half_edges) s.even f.strip.within) in
      ap (face m) (o.prev (rev h)) ∙ sym (s.edges _ here.prev_in).same_face
      ∙ ap (face m) here.next_prev ∙ f.strip.outer

  -- the walk round the vertex, but for its first edge
  turn_now : (i : ℕ) → i < k → turn new (nm (spoke m h (suc i))) ≡ nm (spoke m h (suc (suc i)))
  turn_now i less =
      let l = twin_left (suc i) (omega arith) in
      let some = f.strip.inner (suc i) (omega arith) in
      let off_p : rev (spoke m h (suc (suc i))) ≢ prev mid h = λ q. other_face i (omega arith)
      (sym (twin_face (suc i)) ∙ ap (face m) (q ∙ before) ∙ twin_face 0) in
      let off_x : rev (spoke m h (suc (suc i))) ≢ prev mid (rev h) =
      λ q. absurd (omega (arith, some, twin_face (suc i), ap (face m) q, twin_before_face)) in
      let n : next new (nm (rev (spoke m h (suc (suc i))))) ≡ nm (spoke m h (suc i)) =
      next_at mid new h s1 can r _ l off_p off_x ∙ ap nm
      (o.next _ ∙ ap (next m) (twin_next (suc i)) ∙ (s.edges _ (at (suc i)).0).next_prev) in
      let b : prev new (nm (spoke m h (suc i))) ≡ nm (rev (spoke m h (suc (suc i)))) =
      ap (prev new) (sym n)
      ∙ ((sound_removed mid new h r).edges _ (name_in mid new h s1 can r _ l)).prev_next in
      ap rev b ∙ rev_at mid new h s1 can r _ l ∙ ap nm (rev-rev (spoke m h (suc (suc i))))

  -- the spokes are the former ones but for the first, under their new indexes
  pub spokes : (i : ℕ) → i ≤ k → spoke new (nm (turn m h)) i ≡ nm (spoke m h (suc i))
  spokes zero less = refl
  spokes (suc i) less = ap (turn new) (spokes i (omega arith)) ∙ turn_now i (omega arith)

  -- each edge that is left starts where it did
  pub origin_now : (g : ℕ) → IsLeft mid h g → origin new (nm g) ≡ origin m g
  origin_now g l = origin_at mid new h s1 can r g l ∙ o.origin g

  rev_now : (i : ℕ) → i < suc k → rev (nm (spoke m h (suc i))) ≡ nm (rev (spoke m h (suc i)))
  rev_now i less = rev_at mid new h s1 can r _ (spoke_left i less)

  zero_now : (g : ℕ) → g < length m.half_edges → IsLeft mid h g → face m g ≡ 0 → face new (nm g) ≡ 0
  zero_now g within l none = face_at mid new h s1 can r g l
      ∙ o.other g within (λ q. absurd (omega (arith, none, inner_h.0)))
      (λ q. absurd (omega (arith, none, inner_h.0, inner_h.1))) ∙ none

  -- the new first spoke starts at the same vertex
  pub start : origin new (nm (turn m h)) ≡ origin m h
  start = origin_now _ (spoke_left 0 (omega arith)) ∙ (at 1).1

  -- past the last spoke there is an edge of the rest
  far_now : next new (nm (spoke m h (suc k))) ≢ nm (rev (spoke m h (suc k)))
  far_now q =
      let l = spoke_left k (omega arith) in
      let t = twin_left k (omega arith) in
      let off_p : spoke m h (suc k) ≢ prev mid h = λ i. absurd
      (omega (arith, f.strip.last, inner_h.0, ap (face m) (i ∙ before), twin_face 0)) in
      elim (cases_eq (spoke m h (suc k)) (prev mid (rev h))) [
        | inl i ↦
            let n = next_twin_before mid new h s1 can r _ l i ∙ ap nm (o.next h) in
            let b_left = left (next m h) tri.next_in tri.next_differs (λ z. absurd
            (omega (arith, ap (face m) z, tri.face_next, inner_h.0, f.strip.outer))) in
            let same = name_same mid new h s1 can r _ _ b_left t (sym n ∙ q) in
            elim (cases_eq k 0) [
              | inl z ↦ tri.both_differ (same ∙ ap (λ j. rev (spoke m h (suc j))) z ∙ twin_next 0)
              | inr z ↦ f.apart 0 k (omega arith) (omega arith)
                  (sym tri.face_next ∙ ap (face m) same ∙ twin_face k)
            ]
        | inr off_x ↦
            let here = s.edges _ (at (suc k)).0 in
            let n_left = left (next m (spoke m h (suc k))) here.next_in
            (λ z. off_p (sym here.prev_next ∙ ap (prev m) z ∙ sym (o.prev h)))
            (λ z. off_x (sym here.prev_next ∙ ap (prev m) z ∙ sym (o.prev (rev h)))) in
            f.strip.far (name_same mid new h s1 can r _ _ n_left t
            (sym (next_at mid new h s1 can r _ l off_p off_x ∙ ap nm (o.next _)) ∙ q))
      ]

  only_at : (g i was : ℕ) → was ≢ h → i ≤ suc k → was ≡ spoke m h i → nm was ≡ g
      → (j : ℕ) × (j ≤ k) × (g ≡ spoke new (nm (turn m h)) j)
  only_at g zero was differs less is named = absurd (differs is)
  only_at g (suc i) was differs less is named =
      (i, omega arith, sym named ∙ ap nm is ∙ sym (spokes i (omega arith)))

  strip_less : IsFullStrip new (nm (turn m h)) k
  strip_less =
      let end = spokes k (omega arith) in
      let last_left = spoke_left k (omega arith) in
      record {
        strip = record {
          within = name_in mid new h s1 can r _ (spoke_left 0 (omega arith));
          outer = ap (face new) (rev_now 0 (omega arith)) ∙ face_at mid new h s1 can r _
              (twin_left 0 (omega arith)) ∙ o.gone _ (twin_in 0) (twin_face 0);
          inner = λ i less.
              let l = spoke_left i (omega arith) in
              rw (spokes i (omega arith), face_at mid new h s1 can r _ l)
              (still_inner m mid _ o inner_h.0 _ (at (suc i)).0
              (f.strip.inner (suc i) (omega arith)) (other_face i (omega arith)));
          last = ap (face new) end ∙ zero_now _ (at (suc k)).0 last_left f.strip.last;
          gap = ap (next new) (rev_now 0 (omega arith))
              ∙ next_before mid new h s1 can r _ (twin_left 0 (omega arith)) (sym before)
              ∙ ap nm (o.next (rev h) ∙ f.strip.gap) ∙ sym end;
          far = λ q. far_now (ap (next new) (sym end) ∙ q ∙ ap rev end ∙ rev_now k (omega arith));
        };
        apart = λ i j less j_in same.
            let li = spoke_left i (omega arith) in
            let lj = spoke_left j (omega arith) in
            still_apart m mid _ o inner_h.0 _ _ (at (suc i)).0 (at (suc j)).0
            (other_face i (omega arith)) (other_face j (omega arith))
            (f.apart (suc i) (suc j) (omega arith) (omega arith))
            (sym (face_at mid new h s1 can r _ li) ∙ ap (face new) (sym (spokes i (omega arith)))
            ∙ same ∙ ap (face new) (spokes j (omega arith)) ∙ face_at mid new h s1 can r _ lj);
        ends = λ i less q.
            let i_in : i < suc k = omega arith in
            f.ends (suc i) (omega arith) (sym (origin_now _ (twin_left i i_in))
            ∙ sym (ap (origin new) (ap rev (spokes i less) ∙ rev_now i i_in)) ∙ q ∙ start);
        only = λ g within is.
            let old = old_at mid new h s1 can r g within in
            let i = f.only _ (rw (← o.edge_count) old.0.within)
            (sym (origin_now _ old.0) ∙ ap (origin new) old.1 ∙ is ∙ start) in
            only_at g i.0 _ old.0.other i.1 i.2 old.1;
      }

-- the strip that is left after one step of the code
pub strip_from : (m new : Mesh) (h k at : ℕ) → AreSoundLinks m → IsFullStrip m h (suc k)
    → Peels m new h → at ≡ after_removal m h (turn m h) → IsFullStrip new at k
strip_from m new h k at s f p is =
    let same : at ≡ pair_moved (length p.opened.half_edges - 2) (h - h % 2) (turn m h) =
    is ∙ ap (λ n. pair_moved (n - 2) (h - h % 2) (turn m h)) (sym p.opens.edge_count) in
    rw same (strip_less m p.opened new h k s f p.opens p.removes)

-- its edges end where the same edges ended before
pub strip_ends : (m new : Mesh) (h k at : ℕ) → AreSoundLinks m → IsFullStrip m h (suc k)
    → Peels m new h → at ≡ after_removal m h (turn m h) → (origin new at ≡ origin m h)
    × ((i : ℕ) → i ≤ k → origin new (rev (spoke new at i)) ≡ origin m (rev (spoke m h (suc i))))
strip_ends m new h k at s f p is =
    let same : at ≡ pair_moved (length p.opened.half_edges - 2) (h - h % 2) (turn m h) =
    is ∙ ap (λ n. pair_moved (n - 2) (h - h % 2) (turn m h)) (sym p.opens.edge_count) in (
      ap (origin new) same ∙ start m p.opened new h k s f p.opens p.removes,
      λ i less.
          ap (λ j. origin new (rev (spoke new j i))) same
          ∙ ap (λ j. origin new (rev j)) (spokes m p.opened new h k s f p.opens p.removes i less)
          ∙ ap (origin new)
          (rev_now m p.opened new h k s f p.opens p.removes i (omega (arith, less)))
          ∙ origin_now m p.opened new h k s f p.opens p.removes _
          (twin_left m p.opened new h k s f p.opens p.removes i (omega (arith, less))),
    )

-- as long as the first edge has an inner face, there is one more
-- a strip whose first edge has an inner face has a face
pub one_more : (m : Mesh) (h k : ℕ) → IsStrip m h k → 0 < face m h → (j : ℕ) × (k ≡ suc j)
one_more m h zero f some = absurd (omega (arith, some, f.last))
one_more m h (suc k) f some = (k, refl)
