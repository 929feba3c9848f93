-- The corners of the hole that a vertex with three faces leaves.
-- Notions: IsHoleOfFour, IsHoleOfThree; hole_of_four, hole_of_three, closed_corners.
use Rattle.std.proofs.Common.{◌≡◌, ℕ, ◌-◌, ◌%◌, length, sym, ap, ◌∙◌}
use Rattle.half_edge_links.specs.{after_removal, AreSoundLinks, face, Mesh, next, Opens, origin}
use Rattle.half_edge_links.specs.{pair_moved, Peels, prev, Removes, rev, turn}
use Rattle.half_edge_links.proofs.Removing.Conditions.{IsFanOfOne, IsFanOfTwo, IsFullWheel}
use Rattle.half_edge_links.proofs.Removing.Track.{name_in, origin_at}
use Rattle.half_edge_links.proofs.Removing.WheelLemmas as wheel
use Rattle.half_edge_links.proofs.Removing.CollapseLemmas as fan

-- after one face went with its edge: a face between edges a and z, and a hole, with corners c0, c1
-- and c2 besides the vertex v
pub record IsHoleOfFour (m : Mesh) (a z v c0 c1 c2 : ℕ) : Type 0 where
  pub fan : IsFanOfTwo m a z
  pub start : origin m a ≡ v
  pub first : origin m (next m (next m z)) ≡ c0
  pub second : origin m (next m a) ≡ c1
  pub third : origin m (next m z) ≡ c2

-- after the second: a hole with corners c0, c1 and c2, in which edge z of the vertex v hangs
pub record IsHoleOfThree (m : Mesh) (z v c0 c1 c2 : ℕ) : Type 0 where
  pub fan : IsFanOfOne m z
  pub start : origin m z ≡ v
  pub first : origin m (next m (next m z)) ≡ c0
  pub second : origin m (next m (next m (next m z))) ≡ c1
  pub third : origin m (next m z) ≡ c2

-- once one face of a wheel is open and an edge is peeled off, one face and a hole of four edges are
-- left
pub hole_of_four : (m one two : Mesh) (o spoke : ℕ) → AreSoundLinks m → IsFullWheel m o
    → Opens m one (face m (turn m (turn m o))) → Peels one two o
    → spoke ≡ after_removal one o (turn one o) → (z : ℕ) × IsHoleOfFour two spoke z (origin m o)
    (origin m (rev o)) (origin m (rev (turn m o))) (origin m (rev (turn m (turn m o))))
hole_of_four m one two o spoke s w op p is =
    let at : spoke ≡ wheel.nm m o s w one op p.opened two p.opens p.removes (turn m o) =
    is ∙ ap (λ n. pair_moved (n - 2) (o - o % 2) (turn one o)) (sym p.opens.edge_count)
    ∙ ap (λ k. pair_moved (length p.opened.half_edges - 2) (o - o % 2) (rev k)) (op.prev o) in
    let o_at = wheel.origin_now m o s w one op p.opened two p.opens p.removes in
    let nz = wheel.nz m o s w one op p.opened two p.opens p.removes in
    let n3 = wheel.n3 m o s w one op p.opened two p.opens p.removes in
    let rev_a = wheel.rev_a m o s w one op p.opened two p.opens p.removes in
    let s3 = wheel.s3 m o s w one op p.opened two p.opens p.removes in
    let a_in = name_in p.opened two o (wheel.s2 m o s w one op p.opened two p.opens p.removes)
    (wheel.can m o s w one op p.opened two p.opens p.removes) p.removes _
    (wheel.a_left m o s w one op p.opened two p.opens p.removes) in
    let z_in = wheel.z_in m o s w in (
      wheel.nm m o s w one op p.opened two p.opens p.removes (turn m (turn m o)),
      record {
        fan = rw at (wheel.fan_of_two m o s w one op p.opened two p.opens p.removes);
        start = ap (origin two) at
            ∙ o_at _ (wheel.a_left m o s w one op p.opened two p.opens p.removes)
            ∙ wheel.turn_starts m o s w o w.wheel.within;
        first = ap (origin two) (ap (next two) nz ∙ n3)
            ∙ o_at _ (wheel.b1_left m o s w one op p.opened two p.opens p.removes)
            ∙ (s.edges o w.wheel.within).starts;
        second = ap (λ k. origin two (next two k)) at ∙ (s3.edges _ a_in).starts ∙ ap (origin two)
            rev_a ∙ o_at _ (wheel.ra_left m o s w one op p.opened two p.opens p.removes);
        third = ap (origin two) nz ∙ o_at _
            (wheel.b3_left m o s w one op p.opened two p.opens p.removes) ∙ (s.edges _ z_in).starts;
      },
    )

-- once the last face is gone too, the vertex hangs by one edge in a hole with three corners
pub hole_of_three : (m three : Mesh) (a z pendant v c0 c1 c2 : ℕ) → AreSoundLinks m
    → IsHoleOfFour m a z v c0 c1 c2 → Peels m three a → pendant ≡ after_removal m a (turn m a)
    → IsHoleOfThree three pendant v c0 c1 c2
hole_of_three m three a z pendant v c0 c1 c2 s h p is =
    let f = h.fan in
    let at : pendant ≡ fan.nm m p.opened three a z s f p.opens p.removes z =
    is ∙ ap (λ n. pair_moved (n - 2) (a - a % 2) (turn m a)) (sym p.opens.edge_count)
    ∙ ap (λ k. pair_moved (length p.opened.half_edges - 2) (a - a % 2) k) f.spoke in
    let o_at = fan.origin_now m p.opened three a z s f p.opens p.removes in
    record {
      fan = rw at (fan.fan_of_one m p.opened three a z s f p.opens p.removes);
      start = ap (origin three) at ∙ o_at _ (fan.z_left m p.opened three a z s f p.opens p.removes)
          ∙ f.same ∙ h.start;
      first = ap (λ k. origin three (next three (next three k))) at
          ∙ ap (origin three) (fan.to1 m p.opened three a z s f p.opens p.removes)
          ∙ o_at _ (fan.c1_left m p.opened three a z s f p.opens p.removes) ∙ h.first;
      second = ap (λ k. origin three (next three (next three (next three k)))) at
          ∙ ap (origin three) (fan.to2 m p.opened three a z s f p.opens p.removes)
          ∙ o_at _ (fan.c2_left m p.opened three a z s f p.opens p.removes) ∙ h.second;
      third = ap (λ k. origin three (next three k)) at
          ∙ ap (origin three) (fan.nz m p.opened three a z s f p.opens p.removes)
          ∙ o_at _ (fan.c3_left m p.opened three a z s f p.opens p.removes) ∙ h.third;
    }

-- the loop that is left when edge z went
pub closed_corners : (m new : Mesh) (z v c0 c1 c2 : ℕ) → AreSoundLinks m
    → IsHoleOfThree m z v c0 c1 c2 → Removes m new z
    → (origin new (after_removal m z (next m z)) ≡ c2)
    × (origin new (next new (after_removal m z (next m z))) ≡ c0)
    × (origin new (prev new (after_removal m z (next m z))) ≡ c1)
closed_corners m new z v c0 c1 c2 s h r =
    let f = h.fan in
    let can = fan.can m new z s f r in
    let l2 = fan.b2 m new z s f r in (
      origin_at m new z s can r _ (fan.b3 m new z s f r) ∙ h.third,
      ap (origin new) (fan.next_border m new z s f r)
          ∙ origin_at m new z s can r _ (fan.b1 m new z s f r) ∙ h.first,
      ap (origin new) (fan.prev_border m new z s f r) ∙ origin_at m new z s can r _ l2 ∙ h.second,
    )
