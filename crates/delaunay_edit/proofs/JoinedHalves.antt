-- Straight halves in the plain state: where their middle goes, and then their far ends become a
-- pair, the vertex was removed; and whether two ends are those of such.
-- Lemmas: former_of_new, removes_without_halves, halves_turned, removes_and_joins,
-- not_two_no_halves, two_told.
use Rattle.std.proofs.Common.{◌≡◌, ◌≢◌, ◌⊎◌, ◌↔◌, ◌-◌, ◌<◌, ◌∙◌}
use Rattle.std.proofs.Common.{ℕ, Bool, true, false, length, Option, refl, sym, ap, subst, subst₂}
use Rattle.std.proofs.Common.{inl, inr, arith}
use Rattle.std.specs.Bool.{then_some}
use Rattle.std.specs.Prelude.{IsTrue}
use Rattle.std.proofs.lemmas.Bool.Decides.{nat_tests}
use Rattle.plane.specs.{AreStraightHalves, IsPlain, IsSamePair, Joins, place, Plain, Point}
use Rattle.plane.specs.{points_of, Removes, TakesOut, WithinSegment}
use Rattle.plane.proofs.{at_most_last, one_more_than_last}
use Rattle.plane_theorems.specs.{new_index}
use Rattle.plane_theorems.proofs.{Edits.Removal.Renumbering.new_below, turned_within}
use Rattle.{delaunay_edit.specs.AreHalvesAt, delaunay_vertices.specs.former_index}
use Rattle.{delaunay_edit.specs.Halves.AreOnlyEnds, delaunay_legalization.proofs.both_ways}

-- the former index of a vertex other than v, by the one that it has when v has gone, and back
pub former_of_new : (v last k : ℕ) → k ≢ v → former_index v last (new_index v last k) ≡ k
former_of_new v last k n = grind (arith, nat_tests)

new_of_former : (v last k : ℕ) → k < last → new_index v last (former_index v last k) ≡ k
new_of_former v last k h = grind (arith, nat_tests)

module _ {V : Type 0} (position : V → Point) (old : Plain V) (v : ℕ) where
  abbrev last : ℕ
  last = length old.vertices - 1

  -- without straight halves no pair comes
  pub removes_without_halves : (new : Plain V) → TakesOut position old new v
      → ((a b : ℕ) → ¬ AreStraightHalves position old v a b) → Removes position old new v
  removes_without_halves new taken none = record {
    here = taken.here;
    vertices = taken.vertices;
    constraints = λ a b. (
      (λ h. let k = (taken.constraints a b).0 h in (k.0, k.1, inl k.2)),
      (λ h. (taken.constraints a b).1
          (h.0, h.1, elim h.2 [ inl o ↦ o | inr o ↦ absurd (none _ _ o) ])),
    );
  }

  module _ (a b : ℕ) (halves : AreStraightHalves position old v a b) where
    -- the halves in the other order
    pub halves_turned : AreStraightHalves position old v b a
    halves_turned = record {
      apart = λ e. halves.apart (sym e);
      first = halves.second;
      second = halves.first;
      only = λ k h. elim (halves.only k h) [ inl e ↦ inr e | inr e ↦ inl e ];
      within = turned_within (place (points_of position old) a) (place (points_of position old) b)
          (place (points_of position old) v) halves.within;
    }

    module _ (plain : IsPlain position old) (mid new : Plain V)
        (taken : TakesOut position old mid v) (same : new.vertices ≡ mid.vertices)
        (joins : (c d : ℕ) → Joins new.constraints c d ↔ (Joins mid.constraints c d
        ⊎ IsSamePair c d (new_index v last a) (new_index v last b))) where
      first_apart : a ≢ v
      first_apart e = (plain.pairs v a halves.first).2 (sym e)

      second_apart : b ≢ v
      second_apart e = (plain.pairs v b halves.second).2 (sym e)

      below : (k : ℕ) → k < length old.vertices → k ≢ v → new_index v last k < last
      below k h n = new_below v last k (at_most_last v (length old.vertices) taken.here)
          (subst (λ m. k < m) (one_more_than_last v (length old.vertices) taken.here) h) n

      first_below : new_index v last a < last
      first_below = below a (plain.pairs v a halves.first).1 first_apart

      second_below : new_index v last b < last
      second_below = below b (plain.pairs v b halves.second).1 second_apart

      -- what the new pair was
      was_halves : (c d : ℕ) → IsSamePair c d (new_index v last a) (new_index v last b)
          → (c < last) × (d < last) × AreStraightHalves position old v (former_index v last c)
          (former_index v last d)
      was_halves c d (inl s) = (
        subst (λ k. k < last) (sym s.0) first_below,
        subst (λ k. k < last) (sym s.1) second_below,
        subst₂ (AreStraightHalves position old v)
            (sym (ap (former_index v last) s.0 ∙ former_of_new v last a first_apart))
            (sym (ap (former_index v last) s.1 ∙ former_of_new v last b second_apart)) halves,
      )
      was_halves c d (inr s) = (
        subst (λ k. k < last) (sym s.0) second_below,
        subst (λ k. k < last) (sym s.1) first_below,
        subst₂ (AreStraightHalves position old v)
            (sym (ap (former_index v last) s.0 ∙ former_of_new v last b second_apart))
            (sym (ap (former_index v last) s.1 ∙ former_of_new v last a first_apart)) halves_turned,
      )

      -- what straight halves become
      far_ends : (c d : ℕ) → c < last → d < last
          → AreStraightHalves position old v (former_index v last c) (former_index v last d)
          → IsSamePair c d (new_index v last a) (new_index v last b)
      far_ends c d hc hd h = go (halves.only _ h.first) (halves.only _ h.second)
        where
          now : (k x : ℕ) → k < last → former_index v last k ≡ x → k ≡ new_index v last x
          now k x hk e = sym (new_of_former v last k hk) ∙ ap (new_index v last) e

          go : (former_index v last c ≡ a) ⊎ (former_index v last c ≡ b)
              → (former_index v last d ≡ a) ⊎ (former_index v last d ≡ b)
              → IsSamePair c d (new_index v last a) (new_index v last b)
          go (inl e) (inl f) = absurd (h.apart (e ∙ sym f))
          go (inl e) (inr f) = inl (now c a hc e, now d b hd f)
          go (inr e) (inl f) = inr (now c b hc e, now d a hd f)
          go (inr e) (inr f) = absurd (h.apart (e ∙ sym f))

      -- where they become a pair, the vertex is removed
      pub removes_and_joins : Removes position old new v
      removes_and_joins = record {
        here = taken.here;
        vertices = λ d. same ∙ taken.vertices d;
        constraints = λ c d. (
          (λ h. elim ((joins c d).0 h) [
            | inl m ↦ (let k = (taken.constraints c d).0 m in (k.0, k.1, inl k.2))
            | inr s ↦ (let k = was_halves c d s in (k.0, k.1, inr k.2))
          ]),
          (λ h. (joins c d).1 (elim h.2 [
            | inl o ↦ inl ((taken.constraints c d).1 (h.0, h.1, o))
            | inr o ↦ inr (far_ends c d h.0 h.1 o)
          ])),
        );
      }

-- ---- whether two ends are those of straight halves
module _ {V : Type 0} (position : V → Point) (s : Plain V) (v : ℕ) where
  -- where there are not two ends, there are no straight halves
  pub not_two_no_halves : ((a b : ℕ) → ¬ AreOnlyEnds s.constraints v a b) → (a b : ℕ)
      → ¬ AreStraightHalves position s v a b
  not_two_no_halves none a b h = none a b
      (record { apart = h.apart; first = h.first; second = h.second; only = h.only })

  module _ (a b : ℕ) (ends : AreOnlyEnds s.constraints v a b) where
    abbrev IsWithin : Type 0
    IsWithin = WithinSegment (place (points_of position s) a) (place (points_of position s) b)
        (place (points_of position s) v)

    -- where the vertex is strictly between two ends, they are those of straight halves
    two_straight : IsWithin → AreStraightHalves position s v a b
    two_straight within = record {
      apart = ends.apart;
      first = ends.first;
      second = ends.second;
      only = ends.only;
      within = within;
    }

    -- where it is not, there are none
    two_bent : ¬ IsWithin → (c d : ℕ) → ¬ AreStraightHalves position s v c d
    two_bent bent c d h = go (ends.only c h.first) (ends.only d h.second)
      where
        there : (x y : ℕ) → c ≡ x → d ≡ y
            → WithinSegment (place (points_of position s) x) (place (points_of position s) y)
            (place (points_of position s) v)
        there x y e f = subst₂ (λ m n. WithinSegment (place (points_of position s) m)
            (place (points_of position s) n) (place (points_of position s) v)) e f h.within

        go : (c ≡ a) ⊎ (c ≡ b) → (d ≡ a) ⊎ (d ≡ b) → ⊥
        go (inl e) (inl f) = h.apart (e ∙ sym f)
        go (inl e) (inr f) = bent (there a b e f)
        go (inr e) (inl f) = bent (turned_within (place (points_of position s) b)
            (place (points_of position s) a) (place (points_of position s) v) (there b a e f))
        go (inr e) (inr f) = h.apart (e ∙ sym f)

    -- by a test whether it is, they are told
    pub two_told : (within : Bool) → IsTrue within ↔ IsWithin → (r : Option (ℕ × ℕ))
        → r ≡ then_some within (a, b) → AreHalvesAt position s v r
    two_told true is r told = rw told (two_straight (is.0 refl))
    two_told false is r told = rw told (two_bent (λ w. both_ways false (is.1 w) refl))
