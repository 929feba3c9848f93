-- A running search for what is nearest.
-- Lemmas: starts_first, starts_nearer, starts_no_nearer, starts_all, less_than_first.
use Rattle.std.proofs.Common.{◌≡◌, ◌⊎◌, ℕ, ◌+◌, ◌<◌, ◌≤◌, List, length, arith, below_more}
use Rattle.std.proofs.Common.{subst, inl, inr}
use Rattle.std.specs.Prelude.{ℤ, ◌<ℤ◌, ◌≤ℤ◌}
use Rattle.std.proofs.lemmas.Int.{ints}
use Rattle.plane.specs.{gap, place, Point, whole}
use Rattle.plane.proofs.{at_most_if_not_less, less_through}
use Rattle.half_edge_links.specs.{Mesh, origin}
use Rattle.delaunay_location.specs.{StartsNearest}

itself : (a : ℤ) → a ≤ℤ a
itself a = omega (arith, ints)

through : (a b c : ℤ) → a <ℤ b → b ≤ℤ c → a ≤ℤ c
through a b c h k = omega (arith, ints)

module _ (points : List Point) (m : Mesh) (p : Point) where
  abbrev at : ℕ → ℤ
  at h = gap (whole p) (place points (origin m h))

  -- of one edge none starts nearer than the first
  pub starts_first : {e : ℕ} → e ≡ 0 → 0 < length m.half_edges → StartsNearest points m p 1 e
  starts_first {e = e} is some = record {
    within = omega (arith, is, some);
    nearest = λ h below.
        let same : e ≡ h = omega (arith, is, below) in
        subst (λ k. at e ≤ℤ at k) same (itself (at e));
  }

  module _ {i e least : ℕ} (is : e ≡ i) (before : StartsNearest points m p i least) where
    -- the next edge, if it starts nearer than the nearest of those before it
    pub starts_nearer : i < length m.half_edges → at e <ℤ at least
        → StartsNearest points m p (i + 1) e
    starts_nearer within less = record {
      within = omega (arith, is, within);
      nearest = below_more (λ h. at e ≤ℤ at h) i
          (λ h k. through (at e) (at least) (at h) less (before.nearest h k))
          (subst (λ k. at e ≤ℤ at k) is (itself (at e)));
    }

    -- if not, the nearest of them
    pub starts_no_nearer : ¬ (at e <ℤ at least) → StartsNearest points m p (i + 1) least
    starts_no_nearer not_less = record {
      within = before.within;
      nearest = below_more (λ h. at least ≤ℤ at h) i before.nearest
          (subst (λ k. at least ≤ℤ at k) is (at_most_if_not_less (at e) (at least) not_less));
    }

  -- it is the nearest of fewer edges
  pub starts_all : {i n e : ℕ} → n ≤ i → StartsNearest points m p i e → StartsNearest points m p n e
  starts_all few before = record {
    within = before.within;
    nearest = λ h w. before.nearest h (omega (arith, few, w));
  }

module _ (at : ℕ → ℤ) where
  -- what is less than the number that is the first, or less than it, is less than the first
  pub less_than_first : (e least first : ℕ) → at e <ℤ at least
      → (least ≡ first) ⊎ (at least <ℤ at first) → at e <ℤ at first
  less_than_first e least first less (inl same) = subst (λ k. at e <ℤ at k) same less
  less_than_first e least first less (inr below) =
      less_through (at e) (at least) (at first) less below
