-- The subconstraints of a path that are no constraints are counted, one after another.
-- Notions: IsWalking; walk_begins, walk_ends, walk_shortens, walk_goes_past, walk_goes_on.
use Rattle.std.proofs.Common.{◌≡◌, ◌≢◌, ◌⊎◌, ◌↔◌, ◌+◌, ◌<◌, ◌≤◌}
use Rattle.std.proofs.Common.{ℕ, suc, List, sym, subst, inl, inr, arith}
use Rattle.std.specs.Prelude.{All, nat_abs, pos}
use Rattle.std.proofs.lemmas.Bool.{cases_eq}
use Rattle.std.proofs.lemmas.List.Elements.{All-get_or}
use Rattle.plane.specs.{InRange, IsIndex, IsSamePair, Joins, place, Point, squared_vector}
use Rattle.plane_theorems.specs.{AreNextOn, ArePlacedApart, point_of}
use Rattle.plane_theorems.proofs.{path_ends, path_goes_on, path_shortens, turned_within}
use Rattle.delaunay_core.proofs.Projections.{along_bound}
use Rattle.{delaunay_edit.specs.HasPairs, delaunay_edit.specs.IsMissing, plane.proofs.same_joined}
use Rattle.delaunay_edit.proofs.PairCounts.{has_pairs_as, no_pairs, one_more}

-- the vertices of the path, as far as the walk has come, and how many subconstraints that are
-- missing it passed
pub record IsWalking (points : List Point) (pairs : List (ℕ × ℕ))
    (from to at count : ℕ) : Type 0 where
  pub within : IsIndex points at
  pub few : count + nat_abs (squared_vector (point_of points at) (point_of points to))
      ≤ 2305843009213693952
  pub total : (k : ℕ) → HasPairs (IsMissing points pairs at to) k →
      HasPairs (IsMissing points pairs from to) (count + k)

module _ (points : List Point) (distinct : ArePlacedApart points) (pairs : List (ℕ × ℕ)) (to : ℕ)
    (to_in : IsIndex points to) where
  -- the first subconstraint is not among the others
  first_alone : (at next : ℕ) → IsIndex points at → at ≢ to → AreNextOn points at to at next →
      ¬ AreNextOn points next to at next
  first_alone at next within apart first again = elim (next_or_end next to) as (λ _. ⊥) [
    | inl e ↦ path_ends points to distinct at next
        (subst (λ (k : ℕ). AreNextOn points k to at next) e again)
    | inr n ↦ (
        let down = path_shortens points at to next distinct within to_in apart first in
        let up = path_shortens points next to at distinct first.second_index to_in n (record {
          apart = λ e. again.apart (sym e);
          first_index = again.second_index;
          second_index = again.first_index;
          first = again.second;
          second = again.first;
          none_between =
              λ k i w. again.none_between k i
              (turned_within (place points next) (place points at) (place points k) w);
        }) in
        omega (arith, down, up))
  ]
    where
      next_or_end : (m n : ℕ) → (m ≡ n) ⊎ (m ≢ n)
      next_or_end m n = cases_eq m n

  -- a walk begins at the start, before the first subconstraint, with the count 0
  pub walk_begins : (from : ℕ) → IsIndex points from → All InRange points
      → IsWalking points pairs from to from 0
  walk_begins from within in_range = record {
    within = within;
    few = (let few = along_bound (point_of points from) (point_of points to) (point_of points to)
        (at_index from within)
        (at_index to to_in) (at_index to to_in) in omega (arith, few));
    total =
        λ k has. subst (λ (n : ℕ). HasPairs (IsMissing points pairs from to) n) (omega arith) has;
  }
    where
      at_index : (k : ℕ) → IsIndex points k → InRange (point_of points k)
      at_index k inside =
          All-get_or InRange points k (record { x = pos 0; y = pos 0 }) inside in_range

  module _ (from at count : ℕ) (p : IsWalking points pairs from to at count) where
    -- at the end so many subconstraints of the path are missing
    pub walk_ends : at ≡ to → HasPairs (IsMissing points pairs from to) count
    walk_ends e = subst (λ (n : ℕ). HasPairs (IsMissing points pairs from to) n) (omega arith)
        (p.total 0 (no_pairs (λ a b m. path_ends points to distinct a b
        (subst (λ (k : ℕ). AreNextOn points k to a b) e m.0))))

    module _ (next : ℕ) (apart : at ≢ to) (first : AreNextOn points at to at next) where
      -- from the next vertex the way to the end is shorter
      pub walk_shortens : nat_abs (squared_vector (point_of points next) (point_of points to))
          < nat_abs (squared_vector (point_of points at) (point_of points to))
      walk_shortens = path_shortens points at to next distinct p.within to_in apart first

      subconstraints : (a b : ℕ) → AreNextOn points at to a b
          ↔ (IsSamePair a b at next ⊎ AreNextOn points next to a b)
      subconstraints = path_goes_on points at to next distinct to_in apart first

      -- where the next subconstraint is a pair of the list, the count stays
      pub walk_goes_past : Joins pairs at next → IsWalking points pairs from to next count
      walk_goes_past joined = record {
        within = first.second_index;
        few = (let few = p.few in let falls = walk_shortens in omega (arith, few, falls));
        total = λ k has. p.total k (has_pairs_as has (λ a b. (
          (λ m. ((subconstraints a b).1 (inr m.0), m.1)),
          (λ m. elim ((subconstraints a b).0 m.0) [
            | inl s ↦ absurd (m.1 (same_joined pairs a b at next s joined))
            | inr n ↦ (n, m.1)
          ]),
        )));
      }

      -- where it is none, the count is one more
      pub walk_goes_on : ¬ Joins pairs at next → IsWalking points pairs from to next (count + 1)
      walk_goes_on missing = record {
        within = first.second_index;
        few = (let few = p.few in let falls = walk_shortens in omega (arith, few, falls));
        total =
            λ k has. subst (λ (n : ℕ). HasPairs (IsMissing points pairs from to) n) (omega arith)
            (p.total (suc k) (has_pairs_as
            (one_more has at next (λ m. first_alone at next p.within apart first m.0))
            (λ a b. (
              (λ x. elim x [
                | inl m ↦ ((subconstraints a b).1 (inr m.0), m.1)
                | inr s ↦ ((subconstraints a b).1 (inl s), (λ j. missing (joined_back a b s j)))
              ]),
              (λ m. elim ((subconstraints a b).0 m.0) [ inl s ↦ inr s | inr n ↦ inl (n, m.1) ]),
            ))));
      }
        where
          joined_back : (a b : ℕ) → IsSamePair a b at next → Joins pairs a b → Joins pairs at next
          joined_back a b (inl s) j = same_joined pairs at next a b (inl (sym s.0, sym s.1)) j
          joined_back a b (inr s) j = same_joined pairs at next a b (inr (sym s.1, sym s.0)) j
