-- A list with room for a pair at each edge of one round of a vertex has it for any round of it.
-- Lemmas: room_of_round, starts_none, room_of_none, room_within,
-- round_listed, none_listed.
use Rattle.std.proofs.Common.{◌≡◌, ◌+◌, ◌<◌, ◌≤◌, ℕ, length, ap, sym, ◌∙◌, subst, inl, inr, arith}
use Rattle.std.specs.Prelude.{Option, None, Some, IsSome}
use Rattle.std.proofs.lemmas.Bool.{cases_lt}
use Rattle.half_edge_links.specs.{AreSoundLinks, IsRound, Mesh, origin, out_edge, spoke}
use Rattle.delaunay_legalization.proofs.{one_value, round_of}
use Rattle.delaunay_vertices.specs.Pairs.{HasRoomAt, IsRoundOf}

-- each round of a vertex has as many edges as this one
pub room_of_round : {m : Mesh} {v first count : ℕ} → IsRound m v first count
    → HasRoomAt m v 0 count
room_of_round {m = m} {v = v} {first = first} {count = count} round from many other =
    elim (cases_lt count many) [
      | inl less ↦
          let here = round_of m v first count from round (other.within 0) (other.starts 0) in
          absurd (other.apart 0 count here.some less
          (sym (ap (spoke m from) (let e : count ≡ 0 + count = omega arith in e) ∙ here.back 0)))
      | inr far ↦ omega (arith, far)
    ]

-- no edge starts at a vertex without edges
pub starts_none : (m : Mesh) (v : ℕ) → AreSoundLinks m → out_edge m v ≡ None → (h : ℕ)
    → h < length m.half_edges → origin m h ≡ v → ⊥
starts_none m v sound none h within at = nothing (out_edge m v) none
    (subst (λ (x : ℕ). IsSome (out_edge m x)) at (sound.edges h within).has_out)
  where
    nothing : (o : Option ℕ) → o ≡ None → IsSome o → ⊥
    nothing None e had = absurd (cc)
    nothing (Some k) e had = absurd (cc)

-- so no room is needed for these
pub room_of_none : {m : Mesh} {v : ℕ} → AreSoundLinks m → out_edge m v ≡ None
    → HasRoomAt m v 0 0
room_of_none {m} {v} sound none first count round =
    absurd (starts_none m v sound none first (round.within 0) (round.starts 0))

-- behind what is listed already too
pub room_within : {m : Mesh} {v edges capacity : ℕ} (listed : ℕ) → HasRoomAt m v 0 edges
    → listed + edges ≤ capacity → HasRoomAt m v listed capacity
room_within listed few fits first count round =
    let f = few first count round in
    omega (arith, f, fits)

-- the round from the edge on with which a vertex is listed
pub round_listed : {m : Mesh} {v first count : ℕ} → out_edge m v ≡ Some first
    → IsRound m v first count → IsRoundOf m v count
round_listed {m = m} {v = v} {first = first} {count = count} is round other listed =
    subst (λ (h : ℕ). IsRound m v h count) (one_value first other (sym is ∙ listed)) round

-- and none with which it is not
pub none_listed : {m : Mesh} {v : ℕ} → out_edge m v ≡ None → IsRoundOf m v 0
none_listed none first listed = absurd (cc)
