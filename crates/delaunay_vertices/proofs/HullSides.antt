-- The list of the sides opposite a vertex on the hull, and the question whether it is a corner.
-- Notions: IsCollecting; collecting_begins, collecting_goes_on, corner_read, one_side.
use Rattle.std.proofs.Common.{◌≡◌, ◌↔◌, ◌+◌, ◌-◌, ◌<◌, [], ◌∷◌, ◌++◌, ◌∙◌}
use Rattle.std.proofs.Common.{ℕ, zero, suc, List, length, refl, sym, ap, subst, arith, inl, inr}
use Rattle.std.specs.Global.{Vec}
use Rattle.std.specs.Prelude.{slice_index, vec_capacity, vec_len}
use Rattle.std.proofs.lemmas.Bool.{cases_lt}
use Rattle.std.proofs.lemmas.List.{length-append, get_or_append_left, get_or_push}
use Rattle.std.proofs.Math.Numerals.{add-one}
use Rattle.plane.specs.{place, Point, TurnsLeft}
use Rattle.half_edge_links.specs.{IsValidMesh, Mesh, neighbour, next, origin, rev, spoke, turn}
use Rattle.delaunay_vertices.specs.{Hull.AreSides, IsCornerAt, IsHullFan}
use Rattle.delaunay_vertices.proofs.HullStars.{strip_of}

-- after so many steps from edge first on the walk is at an edge, and the sides before it are listed
pub record IsCollecting (m : Mesh) (bound room first count edge : ℕ) (sides : Vec ℕ) : Type 0 where
  pub within : edge < bound
  pub here : edge ≡ spoke m first count
  pub sides_are : AreSides m first count sides.items
  pub listed_is : vec_len sides ≡ count
  pub capacity_is : vec_capacity sides ≡ room

-- at the first edge no side is listed yet
pub collecting_begins : {m : Mesh} {bound room first : ℕ} {sides : Vec ℕ} → first < bound
    → sides.items ≡ [] → vec_len sides ≡ 0 → vec_capacity sides ≡ room
    → IsCollecting m bound room first 0 first sides
collecting_begins within empty none same = record {
  within = within;
  here = refl;
  sides_are = record { count_is = ap length empty; each = λ i less. absurd (omega (arith, less)) };
  listed_is = none;
  capacity_is = same;
}

-- a step lists the side opposite the vertex and turns to the next edge
pub collecting_goes_on : {m : Mesh} {bound room first count edge side after : ℕ}
    {sides more : Vec ℕ} → IsCollecting m bound room first count edge sides → side ≡ next m edge
    → after < bound → after ≡ turn m edge → more.items ≡ sides.items ++ side ∷ []
    → vec_len more ≡ vec_len sides + 1 → vec_capacity more ≡ vec_capacity sides
    → IsCollecting m bound room first (count + 1) after more
collecting_goes_on {m = m} {first = first} {count = count} {side = side} {sides = sides}
    {more = more} so_far is_side within is_after is_more one_more same = record {
      within = within;
      here = is_after ∙ ap (turn m) so_far.here ∙ ap (spoke m first) (sym (add-one count));
      sides_are = record {
        count_is = ap length is_more ∙ length-append sides.items (side ∷ [])
            ∙ ap (λ n. n + 1) so_far.sides_are.count_is;
        each = each;
      };
      listed_is = one_more ∙ ap (λ n. n + 1) so_far.listed_is;
      capacity_is = same ∙ so_far.capacity_is;
    }
  where
    each : (i : ℕ) → i < count + 1 → slice_index more.items i ≡ next m (spoke m first i)
    each i less = ap (λ xs. slice_index xs i) is_more ∙ elim (cases_lt i count) as
        (λ _. slice_index (sides.items ++ side ∷ []) i ≡ next m (spoke m first i)) [
          | inl l ↦ get_or_append_left sides.items (side ∷ []) 0 i
              (subst (λ n. i < n) (sym so_far.sides_are.count_is) l) ∙ so_far.sides_are.each i l
          | inr l ↦ (let last : i ≡ count = omega (arith, l, less) in
              get_or_push sides.items side 0 i (so_far.sides_are.count_is ∙ sym last) ∙ is_side
              ∙ ap (next m) (so_far.here ∙ ap (spoke m first) (sym last)))
        ]

-- the question is that of the first and the last neighbour
pub corner_read : {points : List Point} {m : Mesh} → IsValidMesh m → {v first count : ℕ}
    → IsHullFan points m v first count → IsCornerAt points m first ↔ TurnsLeft (place points v)
    (place points (neighbour m first 0)) (place points (neighbour m first (count - 1)))
corner_read {points} {m} valid {v} {first} {count} star = (
  (λ t. subst (λ (x : ℕ × ℕ). TurnsLeft (place points x.0) (place points (neighbour m first 0))
      (place points (origin m (rev x.1)))) (λ i. (star.round.starts 0 i, gap i)) t),
  (λ t. subst (λ (x : ℕ × ℕ). TurnsLeft (place points x.0) (place points (neighbour m first 0))
      (place points (origin m (rev x.1)))) (λ i. (sym (star.round.starts 0) i, sym gap i)) t),
)
  where
    gap : next m (rev first) ≡ spoke m first (count - 1)
    gap = (strip_of valid star).gap

-- the list of one side
pub one_side : {m : Mesh} {first side : ℕ} → side ≡ next m first → AreSides m first 1 (side ∷ [])
one_side {m} {first} {side} is = record { count_is = refl; each = each }
  where
    each : (i : ℕ) → i < 1 → slice_index (side ∷ []) i ≡ next m (spoke m first i)
    each zero less = is
    each (suc i) less = absurd (omega (arith, less))
