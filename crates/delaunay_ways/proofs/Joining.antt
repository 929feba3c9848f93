-- What joins two positions, by a search for a path between their corners.
-- Lemmas: joined_first, joined_last, sees_itself, between_of.
use Rattle.std.proofs.Common.{◌<◌, [], ◌∷◌, ℕ, Bool, List, length, get_or}
use Rattle.std.specs.Prelude.{Err, IfOk, MatchOption, None, Ok, Option, Result, Some}
use Rattle.std.proofs.lemmas.List.Elements.{Contains-get_or}
use Rattle.plane.specs.{Fraction, TilesHull, Triangulation}
use Rattle.plane.proofs.{end_on_segment, on_segment-same, only_point, same-refl, same-sym}
use Rattle.{plane.proofs.start_on_segment, plane_theorems.specs.Ways.Links.AreApart}
use Rattle.plane_theorems.specs.{IsInFree, IsInSight, Ways.Chains.IsChain, Ways.Chains.IsJoined}
use Rattle.plane_theorems.proofs.Ways.Trails.{apart_is_not_joined, path_is_chain}
use Rattle.delaunay_ways.specs.{Steps.LeadsOver, Ways.IsPathBetween, Ways.IsSurrounded}

module _ (t : Triangulation) (free : ℕ → Bool) where
  -- a position at the end of a segment that is seen sees itself
  from_start : (p q : Fraction) → IsInSight t free p q → IsInSight t free p p
  from_start p q sees r on = sees r (on_segment-same p q p r
      (same-sym r p (only_point p p r (same-refl p) on)) (start_on_segment p q))

  from_end : (p q : Fraction) → IsInSight t free p q → IsInSight t free q q
  from_end p q sees r on = sees r (on_segment-same p q q r
      (same-sym r q (only_point q q r (same-refl q) on)) (end_on_segment p q))

  first_of : (p q : Fraction) (inner : List Fraction) → IsChain t free p inner q
      → IsInSight t free p p
  first_of p q [] chain = from_start p q chain
  first_of p q (r ∷ rs) chain = from_start p r chain.0

  last_of : (p q : Fraction) (inner : List Fraction) → IsChain t free p inner q
      → IsInSight t free q q
  last_of p q [] chain = from_end p q chain
  last_of p q (r ∷ rs) chain = last_of r q rs chain.1

  -- so do both positions that a chain joins
  pub joined_first : (p q : Fraction) → IsJoined t free p q → IsInSight t free p p
  joined_first p q j = first_of p q j.0 j.1

  pub joined_last : (p q : Fraction) → IsJoined t free p q → IsInSight t free q q
  joined_last p q j = last_of p q j.0 j.1

  -- and who sees itself is in a closed free face
  pub sees_itself : (p : Fraction) → IsInSight t free p p → IsInFree t free p
  sees_itself p sees = sees p (start_on_segment p p)

  -- what a search for a path between the corners of two positions says of these
  pub between_of : {X E : Type 0} → ((n : ℕ) → n < length t.faces → TilesHull t)
      → (items : X → List ℕ) (p q : Fraction) (first last : List ℕ) → IsInFree t free p
      → IsInFree t free q → IsSurrounded t p first → IsSurrounded t q last
      → (r : Result (Option X) E)
      → IfOk r (λ found. MatchOption found (AreApart t free first last)
      (λ vs. LeadsOver t free first last (items vs)))
      → IfOk r (λ found. MatchOption found (¬ IsJoined t free p q)
      (λ vs. IsPathBetween t free p q (items vs)))
  between_of hull items p q first last op oq sp sq (Ok None) apart =
      apart_is_not_joined t hull free p q first last (get_or first 0 0) (get_or last 0 0)
      (Contains-get_or first 0 0 sp.some) (Contains-get_or last 0 0 sq.some) op oq sp.corners
      sq.corners apart
  between_of hull items p q first last op oq sp sq (Ok (Some vs)) l = record {
    chain = path_is_chain t hull free p q first last (items vs) op oq sp.corners sq.corners
        l.begins l.path;
    exist = λ k d w. l.exist (get_or (items vs) k d) (Contains-get_or (items vs) k d w);
  }
  between_of hull items p q first last op oq sp sq (Err e) found = found
