-- A vertex on the hull loses the rest of its edges: at a corner its faces go, on a flat side its
-- two faces become one.
-- Lemmas: sides_opposite, corner_isolates, flat_strip, flat_isolates.
use Rattle.std.proofs.Common.{◌≡◌, ◌≢◌, ◌⊎◌, ◌-◌, ◌<◌, [], ◌∷◌, ◌∙◌}
use Rattle.std.proofs.Common.{ℕ, List, length, refl, ap, subst, arith, inl, inr}
use Rattle.std.specs.Global.{Vec}
use Rattle.plane.specs.{on, place, Point, side, TurnsLeft}
use Rattle.half_edge_links.specs.{AreSoundLinks, IsStrip, Mesh, neighbour, origin, prev, turn}
use Rattle.half_edge_dcel.specs.{AreSidesOf, Contents, IsMeshWithData, LosesStrip}
use Rattle.{delaunay_legalization.specs.faces_of, half_edge_dcel.specs.Removal.first_spoke}
use Rattle.delaunay_legalization.proofs.{same_start, StarTurns.strip_left, StarTurns.TurnsOff}
use Rattle.delaunay_legalization.proofs.{Borders.opposite_of_strip, MeshVertexLeaves.leaves_to_line}
use Rattle.delaunay_legalization.proofs.MeshVertexLeaves.{flat_turned, leaves_corner, leaves_flat}
use Rattle.delaunay_vertices.specs.{HasNoFlippableEdge, IsCornerAt, IsHullFan, IsolatesVertex}
use Rattle.{delaunay_vertices.specs.TurnsAway, plane_theorems.specs.NoneTurnsLeft}
use Rattle.delaunay_vertices.proofs.DataStays.{stands_on, stands_put, strip_stands}
use Rattle.{delaunay_vertices.proofs.HullSides.corner_read, delaunay_vertices.specs.Hull.AreSides}
use Rattle.delaunay_vertices.proofs.HullStars.{has_two, left_of, none_turns, right_of, strip_of}

-- a list is empty or not
empty_or_not : {X : Type 0} (xs : List X) → (xs ≡ []) ⊎ (xs ≢ [])
empty_or_not [] = inl refl
empty_or_not (x ∷ xs) = inr (λ e. absurd (let n = ap length e in omega (arith, n)))

-- the strip of the sides is the one from the first edge on
strip_read : {V D U F : Type 0} {old new : Contents V D U F} {v first count : ℕ}
    {sides : List ℕ} → AreSoundLinks old.mesh → IsStrip old.mesh first count
    → origin old.mesh first ≡ v → 0 < count → AreSides old.mesh first count sides
    → LosesStrip old new (origin old.mesh (first_spoke old.mesh sides))
    (neighbour old.mesh (first_spoke old.mesh sides)) (length sides)
    → LosesStrip old new v (neighbour old.mesh first) count
strip_read {old = old} {new = new} {first = first} {sides = sides} s strip starts some are loses =
    subst (λ (x : ℕ × ℕ × ℕ). LosesStrip old new x.0 (neighbour old.mesh x.1) x.2)
    (λ i. ((ap (origin old.mesh) at_first ∙ starts) i, at_first i, are.count_is i)) loses
  where
    at_first : first_spoke old.mesh sides ≡ first
    at_first = ap (prev old.mesh) (are.each 0 some) ∙ (s.edges first strip.within).prev_next

-- the sides listed along a strip are the edges opposite its vertex
pub sides_opposite : {m : Mesh} {first count : ℕ} {sides : List ℕ} → AreSoundLinks m
    → IsStrip m first count → 0 < count → AreSides m first count sides → AreSidesOf m sides
sides_opposite {m} {first} {count} {sides} s strip some are =
    opposite_of_strip m first count sides s strip some are.count_is are.each

-- ---- at a corner
-- at a corner where no edge can be turned, a vertex has lost its edges when its faces go
pub corner_isolates : {V D U F : Type 0} {points : List Point} {old new : Contents V D U F}
    {v first count : ℕ} → IsMeshWithData old → IsMeshWithData new
    → IsHullFan points old.mesh v first count → HasNoFlippableEdge points old.mesh first count
    → IsCornerAt points old.mesh first → {sides : List ℕ}
    → AreSides old.mesh first (count - 1) sides
    → LosesStrip old new (origin old.mesh (first_spoke old.mesh sides))
    (neighbour old.mesh (first_spoke old.mesh sides)) (length sides)
    → IsolatesVertex points old new v []
corner_isolates {points = points} {old = old} {new = new} {v = v} {first = first} {count = count}
    before after star bent at are strip = record {
      contents = loses.contents;
      whole = after;
      alone = loses.alone;
      shape = elim (empty_or_not (faces_of new.mesh)) [
        | inl none ↦ inr (
          none,
          leaves_to_line points old before star.shape v first star.outer new after count star.round
              corner turns loses none,
        )
        | inr some ↦ inl (leaves_corner points old before star.shape v first star.outer new after
            count star.round corner turns loses some)
      ];
      beside = strip_stands old new v [] (neighbour old.mesh first) (count - 1) before after loses;
    }
  where
    corner : TurnsLeft (place points v) (place points (neighbour old.mesh first 0))
        (place points (neighbour old.mesh first (count - 1)))
    corner = (corner_read before.valid star).0 at

    loses : LosesStrip old new v (neighbour old.mesh first) (count - 1)
    loses = strip_read before.valid.sound (strip_of before.valid star) (star.round.starts 0)
        (let two = has_two before.valid star in omega (arith, two)) are strip

    turns : NoneTurnsLeft points (count - 1) (neighbour old.mesh first)
    turns = none_turns before.valid star bent corner

-- ---- on a flat side
module _ {V D U F : Type 0} {points : List Point} {old mid : Contents V D U F} {v first : ℕ}
    {listed list : Vec (ℕ × ℕ)} (before : IsMeshWithData old)
    (star : IsHullFan points old.mesh v first 3) (t : TurnsAway old mid first listed list) where
  turns_first : TurnsOff old.mesh mid.mesh (turn old.mesh first)
  turns_first = flat_turned points old before star.shape v first star.outer mid mid t.whole t.whole
      star.round t.mesh t.triangles t.outer

  -- one face is left
  pub flat_strip : IsStrip mid.mesh first 1
  flat_strip = strip_left old.mesh mid.mesh before.valid v first star.round
      (strip_of before.valid star) turns_first

  -- edge first starts at v after the flip of the edge that it turns to
  flat_starts : origin mid.mesh first ≡ v
  flat_starts = same_start old.mesh mid.mesh before.valid v first 3 star.round (omega arith)
      (left_of before.valid star 0 (omega arith)) (right_of before.valid star 0 (omega arith))
      turns_first

  -- on a flat side, v has lost its edges when the face that this flip left to it goes
  pub flat_isolates : {new : Contents V D U F} {sides : List ℕ} → IsMeshWithData new
      → side (place points (neighbour old.mesh first 0)) (place points v)
      (place points (neighbour old.mesh first 2)) ≡ on → AreSides mid.mesh first 1 sides
      → LosesStrip mid new (origin mid.mesh (first_spoke mid.mesh sides))
      (neighbour mid.mesh (first_spoke mid.mesh sides)) (length sides)
      → IsolatesVertex points old new v list.items
  flat_isolates {new} after flat are loses = record {
    contents = strip.contents ∙ ap (λ (c : Contents V D U F). record c {
      mesh = new.mesh;
      directed = new.directed;
      undirected = new.undirected;
      faces = new.faces;
    }) t.contents;
    whole = after;
    alone = strip.alone;
    shape = inl (leaves_flat points old before star.shape v first star.outer mid new t.whole after
        star.round t.mesh t.triangles t.outer flat strip);
    beside = stands_on old mid new v list.items list.items list.items (λ i j p. p) (λ i j p. p)
        (stands_put old mid v first t (star.round.starts 0))
        (strip_stands mid new v list.items (neighbour mid.mesh first) 1 t.whole after strip);
  }
    where
      strip : LosesStrip mid new v (neighbour mid.mesh first) 1
      strip = strip_read t.whole.valid.sound flat_strip flat_starts (omega arith) are loses
