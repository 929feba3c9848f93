-- The loop that turns edges of a vertex on the hull away.
-- Notions: IsHullShrinking; hull_shrinking_stops, hull_turn_at, first_starts,
-- hull_shrinking_goes_on.
use Rattle.std.proofs.Common.{◌≡◌, ◌-◌, ◌*◌, ◌/◌, ◌<◌, ◌≤◌, ◌∙◌}
use Rattle.std.proofs.Common.{ℕ, suc, List, length, map, sym, ap, subst, arith, inl, inr}
use Rattle.std.specs.Global.{Vec}
use Rattle.std.proofs.lemmas.Bool.{cases_eq, cases_lt}
use Rattle.plane.specs.{Point}
use Rattle.half_edge_links.specs.{face, FlipsTriangles, IsRound, origin, spoke, turn}
use Rattle.delaunay_legalization.proofs.{round_of, same_start, StarTurns.turns_away}
use Rattle.delaunay_legalization.proofs.MeshStarFlips.{spoke_flippable, twin_flippable}
use Rattle.delaunay_vertices.specs.{HasNoFlippableEdge, IsConvexAt, IsHullFan, IsSpokeThat}
use Rattle.delaunay_vertices.specs.{Hull.ShrinksFan, MayTurnAway, Pairs.HasRoomAt, TurnsAway}
use Rattle.{delaunay_vertices.specs.Star.IsTurnable, half_edge_dcel.specs.Contents}
use Rattle.delaunay_vertices.proofs.HullStars.{has_two, hull_may_turn, hull_star_less, left_of}
use Rattle.delaunay_vertices.proofs.HullStars.{right_of, strip_of}
use Rattle.delaunay_vertices.proofs.Turning.{HasTurned, turning_goes_on}

-- a vertex on the hull lost edges by turns, and still has so many, from edge first on, and edge
-- `from` among them, no more than before
pub record IsHullShrinking {V D U F : Type 0} (place : V → Point) (old now : Contents V D U F)
    (v first from count : ℕ) (turned : Vec (ℕ × ℕ)) : Type 0 where
  pub so_far : HasTurned old now v count turned
  pub star : IsHullFan (map place now.vertices) now.mesh v first count
  pub many : 2 ≤ count
  pub few : (n : ℕ) → HasRoomAt old.mesh v 0 n → count ≤ n
  pub from_within : from < length now.directed
  pub from_starts : origin now.mesh from ≡ v

module _ {V D U F : Type 0} {turned : Vec (ℕ × ℕ)} {place : V → Point}
    {old now : Contents V D U F} {v first from count : ℕ}
    (shrinking : IsHullShrinking place old now v first from count turned) where
  -- the edges of the vertex from one of them on
  round_from_edge : (edge : ℕ) → edge < length now.directed → origin now.mesh edge ≡ v
      → IsRound now.mesh v edge count
  round_from_edge edge within starts = round_of now.mesh v first count edge
      shrinking.star.round (rw shrinking.so_far.whole.fits.directed_fit at within) starts

  -- where none can be turned, from any edge on, none has a convex quadrilateral
  bent_at_end : ((i : ℕ) → i < count
      → ¬ IsTurnable (map place now.vertices) now.mesh (spoke now.mesh from i))
      → HasNoFlippableEdge (map place now.vertices) now.mesh first count
  bent_at_end none i less convex =
      let round = shrinking.star.round in
      let at = (round_from_edge from shrinking.from_within shrinking.from_starts).all
      (spoke now.mesh first i) (round.within i) (round.starts i) in
      none at.0 at.1 (subst (IsTurnable (map place now.vertices) now.mesh) at.2 (record {
        convex = convex;
        left = left_of shrinking.so_far.whole.valid shrinking.star i less;
        right = right_of shrinking.so_far.whole.valid shrinking.star i less;
      }))

  -- so the turns are done
  pub hull_shrinking_stops : ((i : ℕ) → i < count
      → ¬ IsTurnable (map place now.vertices) now.mesh (spoke now.mesh from i))
      → ShrinksFan place old now v first count turned.items
  hull_shrinking_stops none = record {
    contents = shrinking.so_far.contents;
    whole = shrinking.so_far.whole;
    star = shrinking.star;
    bent = bent_at_end none;
    beside = shrinking.so_far.beside;
  }

  -- ---- an edge before one that can be turned
  module _ {edge : ℕ} (found : IsSpokeThat IsTurnable (record {
    points = map place now.vertices;
    mesh = now.mesh;
    directed = now.directed;
    first = from;
  }) edge) where
    starts : origin now.mesh edge ≡ v
    starts = found.starts ∙ shrinking.from_starts

    on_round : (i : ℕ) × (i < count) × (edge ≡ spoke now.mesh first i)
    on_round = shrinking.star.round.all edge
        (rw shrinking.so_far.whole.fits.directed_fit at found.within) starts

    not_at_last : (h : ℕ) → 0 < face now.mesh h → h ≡ spoke now.mesh first (count - 1) → ⊥
    not_at_last h inner is =
        let strip = strip_of shrinking.so_far.whole.valid shrinking.star in
        let none = ap (face now.mesh) is ∙ strip.last in
        absurd (omega (arith, inner, none))

    below : suc (suc on_round.0) < count
    below = elim (cases_lt (suc (suc on_round.0)) count) [
      | inl less ↦ less
      | inr far ↦ elim (cases_eq (suc on_round.0) (count - 1)) [
        | inl e ↦ absurd (not_at_last (turn now.mesh edge) found.is.right
            (ap (turn now.mesh) on_round.2 ∙ ap (spoke now.mesh first) e))
        | inr n ↦ absurd (not_at_last edge found.is.left
            (on_round.2 ∙ ap (spoke now.mesh first)
            (let b = on_round.1 in let many = shrinking.many in
            let e : on_round.0 ≡ count - 1 = omega (arith, far, n, b, many) in e)))
      ]
    ]

    -- which is turned
    pub hull_turn_at : MayTurnAway place now edge
    hull_turn_at = subst (MayTurnAway place now) (sym on_round.2)
        (hull_may_turn shrinking.so_far.whole shrinking.star on_round.0 below)

    module _ {more : Vec (ℕ × ℕ)} {new : Contents V D U F} (t : TurnsAway now new edge turned more)
      where
        -- the edge still starts at the vertex
        still_starts : origin new.mesh edge ≡ v
        still_starts =
            let points = map place now.vertices in
            let valid = shrinking.so_far.whole.valid in
            let round = round_from_edge edge found.within starts in
            let left = found.is.left in
            let right = found.is.right in
            same_start now.mesh new.mesh valid v edge count round
            (let less = below in omega (arith, less)) left right
            (turns_away now.mesh new.mesh (turn now.mesh edge) valid.sound (spoke_flippable points
            now.mesh valid shrinking.star.shape v edge count round 0 left right) (twin_flippable
            points now.mesh valid shrinking.star.shape v edge count round 0 left right) t.mesh)

        star_after : IsHullFan (map place new.vertices) new.mesh v first (count - 1)
        star_after =
            subst (λ (vs : List V). IsHullFan (map place vs) new.mesh v first (count - 1))
            (sym (ap (λ (c : Contents V D U F). c.vertices) t.contents))
            (hull_star_less shrinking.so_far.whole.valid shrinking.star on_round.0 below new.mesh
            t.whole.valid (subst (IsConvexAt (map place now.vertices) now.mesh) on_round.2
            found.is.convex) (subst (λ (h : ℕ). FlipsTriangles now.mesh new.mesh
            (2 * (turn now.mesh h / 2))) on_round.2 t.triangles) t.outer)

        -- so does the first one
        pub first_starts : origin new.mesh first ≡ origin new.mesh edge
        first_starts = star_after.round.starts 0 ∙ sym still_starts

        -- one more turn
        pub hull_shrinking_goes_on : {next : ℕ} → next < length new.directed
            → origin new.mesh next ≡ origin new.mesh edge
            → IsHullShrinking place old new v first next (count - 1) more
        hull_shrinking_goes_on next_within next_starts = record {
          so_far = turning_goes_on shrinking.so_far
              (let many = shrinking.many in omega (arith, many)) t starts;
          star = star_after;
          many = has_two t.whole.valid star_after;
          few = λ n at_each. let fits = shrinking.few n at_each in omega (arith, fits);
          from_within = next_within;
          from_starts = next_starts ∙ still_starts;
        }
