-- The sides of an edge that are among some edges, and the list of these.
-- Notions: IsListingAgain; gains_among, gains_none_among, round_gained_among, listing_begins,
-- listing_goes_on, listing_ends, only_among.
use Rattle.std.proofs.Common.{◌≡◌, ℕ, ◌+◌, ◌/◌, ◌≤◌, List}
use Rattle.std.proofs.Common.{length, get_or, sym, ap, ◌∙◌, subst, arith, inl, inr}
use Rattle.std.specs.Prelude.{◌<◌, Contains}
use Rattle.std.proofs.lemmas.Bool.{cases_eq}
use Rattle.{plane.specs.Point, plane_theorems.proofs.get_or_any}
use Rattle.half_edge_links.specs.{Mesh, next, prev, rev}
use Rattle.delaunay_legalization.specs.{FailOnlyOf, Gains}
use Rattle.delaunay_legalization.specs.Pushing.{GainsAmong, GainsRoundAmong}

-- ---- the sides
-- an edge that is gained is gained among any
pub gains_among : {hs old new : List ℕ} {h : ℕ} → Gains old new (h / 2) → GainsAmong hs h old new
gains_among g = record { kept = g.kept; there = λ l. g.there }

-- one that is not among them need not be
pub gains_none_among : {hs old : List ℕ} {h k : ℕ} → k ≡ h / 2 → ¬ Contains hs k
    → GainsAmong hs h old old
gains_none_among {hs = hs} is not = record {
  kept = λ j l. l;
  there = λ l. absurd (not (subst (Contains hs) (sym is) l));
}

-- four sides that are gained one after another are the round
pub round_gained_among : {m : Mesh} {hs : List ℕ} {e a b c d : ℕ} {one two three four five : List ℕ}
    → a ≡ next m e → b ≡ prev m e → c ≡ next m (rev e) → d ≡ prev m (rev e)
    → GainsAmong hs a one two → GainsAmong hs b two three → GainsAmong hs c three four
    → GainsAmong hs d four five → GainsRoundAmong m hs e one five
round_gained_among {hs = hs} {five = five} at_a at_b at_c at_d f g h i = record {
  kept = λ j l. i.kept j (h.kept j (g.kept j (f.kept j l)));
  next_there = subst (λ (z : ℕ). Contains hs (z / 2) → Contains five (z / 2)) at_a
      (λ l. i.kept _ (h.kept _ (g.kept _ (f.there l))));
  prev_there = subst (λ (z : ℕ). Contains hs (z / 2) → Contains five (z / 2)) at_b
      (λ l. i.kept _ (h.kept _ (g.there l)));
  twin_next_there = subst (λ (z : ℕ). Contains hs (z / 2) → Contains five (z / 2)) at_c
      (λ l. i.kept _ (h.there l));
  twin_prev_there =
      subst (λ (z : ℕ). Contains hs (z / 2) → Contains five (z / 2)) at_d i.there;
}

-- ---- the edges that are listed again
-- the first i edges are listed
pub record IsListingAgain (ks : List ℕ) (i : ℕ) (listed : List ℕ) (room_was room : ℕ)
    : Type 0 where
  pub each : (j d : ℕ) → j < i → Contains listed (get_or ks j d)
  pub room_stays : room ≡ room_was

-- before the first none is
pub listing_begins : {ks listed : List ℕ} {room_was room : ℕ} → room ≡ room_was
    → IsListingAgain ks 0 listed room_was room
listing_begins same = record {
  each = λ j d less. absurd (omega (arith, less));
  room_stays = same;
}

-- with the next edge there is one more
pub listing_goes_on : {ks : List ℕ} {i : ℕ} {listed : List ℕ} {room_was room x : ℕ}
    {more : List ℕ} {room_now : ℕ} → IsListingAgain ks i listed room_was room → i < length ks
    → x ≡ get_or ks i x → Gains listed more x → room_now ≡ room
    → IsListingAgain ks (i + 1) more room_was room_now
listing_goes_on {ks = ks} {i = i} {x = x} {more = more} p inside here gains same = record {
  each = λ j d less. elim (cases_eq j i) [
    | inl e ↦ subst (Contains more)
        (here ∙ get_or_any ks i x d inside ∙ sym (ap (λ k. get_or ks k d) e)) gains.there
    | inr n ↦ gains.kept (get_or ks j d) (p.each j d (omega (arith, less, n)))
  ];
  room_stays = same ∙ p.room_stays;
}

-- after the last each is listed
pub listing_ends : {ks : List ℕ} {i : ℕ} {listed : List ℕ} {room_was room : ℕ}
    → IsListingAgain ks i listed room_was room → length ks ≤ i → (k : ℕ) → Contains ks k
    → Contains listed k
listing_ends {listed = listed} p all k (j, within, is) =
    subst (Contains listed) is (p.each j k (omega (arith, all, within)))

-- where only listed edges fail, only those that are listed again do
pub only_among : (points : List Point) (m : Mesh) (ks listed : List ℕ)
    → ((k : ℕ) → Contains ks k → Contains listed k) → FailOnlyOf points m ks
    → FailOnlyOf points m listed
only_among points m ks listed again only k within =
    elim (only k within) [ inl l ↦ inl (again k l) | inr q ↦ inr q ]
