-- The loop that lists the sides opposite a vertex.
-- Notions: IsGathering; gathering_begins, gathering_goes_on, gathering_ends, no_border.
use Rattle.std.proofs.Common.{◌≡◌, ◌+◌, ◌<◌, ◌≤◌, [], ◌∷◌, ◌++◌, ◌∙◌}
use Rattle.std.proofs.Common.{ℕ, suc, List, None, IsSome, refl, sym, ap}
use Rattle.std.proofs.Common.{subst, inl, inr, arith}
use Rattle.std.specs.Global.{Vec}
use Rattle.std.specs.Prelude.{Contains, vec_capacity, vec_len}
use Rattle.std.proofs.Math.Numerals.{add-one}
use Rattle.std.proofs.lemmas.Bool.{cases_eq}
use Rattle.half_edge_links.specs.{IsRound, IsValidMesh, Mesh, neighbour, origin, out_edge, rev}
use Rattle.{half_edge_links.specs.spoke, half_edge_links.specs.turn, plane.specs.Joins}
use Rattle.{delaunay_legalization.proofs.Entries.not_some, plane_theorems.proofs.Contains-head}
use Rattle.delaunay_vertices.specs.{HasBorder}
use Rattle.delaunay_vertices.proofs.DataStays.{pair_put, pairs_kept}

-- the ends of each of the first i edges and of the one after it are in the list
pub record IsGathering (m : Mesh) (bound first room i edge : ℕ) (border : Vec (ℕ × ℕ)) : Type 0
  where
    pub edge_in : edge < bound
    pub here : edge ≡ spoke m first i
    pub each : (j : ℕ) → j < i
        → Joins border.items (neighbour m first j) (neighbour m first (suc j))
    pub listed_is : vec_len border ≡ i
    pub room_stays : room ≤ vec_capacity border

-- at the first edge the list is empty
pub gathering_begins : {m : Mesh} {bound first room : ℕ} {border : Vec (ℕ × ℕ)} → first < bound
    → vec_len border ≡ 0 → room ≤ vec_capacity border
    → IsGathering m bound first room 0 first border
gathering_begins within none enough = record {
  edge_in = within;
  here = refl;
  each = λ j less. absurd (omega (arith, less));
  listed_is = none;
  room_stays = enough;
}

module _ {m : Mesh} {bound first room i edge : ℕ} {border : Vec (ℕ × ℕ)}
    (p : IsGathering m bound first room i edge border) where
  -- the ends of the edge and of the one that it turns to are put into the list
  pub gathering_goes_on : {end end_after after : ℕ} {more : Vec (ℕ × ℕ)} → end ≡ origin m (rev edge)
      → end_after ≡ origin m (rev after) → after < bound → after ≡ turn m edge
      → more.items ≡ border.items ++ (end, end_after) ∷ [] → vec_len more ≡ vec_len border + 1
      → vec_capacity more ≡ vec_capacity border → IsGathering m bound first room (i + 1) after more
  gathering_goes_on {end} {end_after} {after} {more} is_end is_end_after after_in is_after is_more
      one_more same = record {
        edge_in = after_in;
        here = there ∙ ap (spoke m first) (sym (add-one i));
        each = λ j less. elim (cases_eq j i) [
          | inl e ↦ pair_put border.items more.items (end, end_after) is_more (neighbour m first j)
              (neighbour m first (suc j)) (inl (subst (Contains ((end, end_after) ∷ [])) (last j e)
              (Contains-head (end, end_after) [])))
          | inr n ↦ pairs_kept border.items more.items (end, end_after) is_more
              (neighbour m first j) (neighbour m first (suc j))
              (p.each j (omega (arith, less, n)))
        ];
        listed_is = one_more ∙ ap (λ n. n + 1) p.listed_is;
        room_stays = subst (λ (n : ℕ). room ≤ n) (sym same) p.room_stays;
      }
    where
      there : after ≡ spoke m first (suc i)
      there = is_after ∙ ap (turn m) p.here

      last : (j : ℕ) → j ≡ i
          → ◌≡◌ {A = ℕ × ℕ} (end, end_after) (neighbour m first j, neighbour m first (suc j))
      last j e = λ k. (
        (is_end ∙ ap (λ h. origin m (rev h)) (p.here ∙ ap (spoke m first) (sym e))) k,
        (is_end_after
            ∙ ap (λ h. origin m (rev h)) (there ∙ ap (λ n. spoke m first (suc n)) (sym e))) k,
      )

  -- when the count of the round is reached, the list has all neighbours
  pub gathering_ends : {v count : ℕ} → IsRound m v first count → count ≤ i
      → HasBorder m v border.items
  gathering_ends round all h within starts =
      let j = round.all h within starts in
      subst (λ (x : ℕ). Joins border.items (origin m (rev x)) (origin m (rev (turn m x)))) (sym j.2)
      (p.each j.0 (let low = j.1 in omega (arith, low, all)))

-- a vertex without edges
pub no_border : (m : Mesh) (v : ℕ) (pairs : List (ℕ × ℕ)) → IsValidMesh m → out_edge m v ≡ None
    → HasBorder m v pairs
no_border m v pairs valid none h within starts =
    absurd (not_some (out_edge m v) none (subst (λ (x : ℕ). IsSome (out_edge m x)) starts
    (valid.sound.edges h within).has_out))
