-- The next edge that can be turned is sought among those that cross.
-- Notions: AreCorners, IsSeeking, HaveSeen, AreGoingBack, AreRounds; turns_not_at, seeking_begins,
-- seeking_within, seeking_goes_on, seeking_ends, going_back_begins, going_back_goes_on,
-- rounds_begin, round_finds, round_ends.
use Rattle.std.proofs.Common.{◌≡◌, ◌⊎◌, ◌+◌, ◌-◌, ◌<◌, [], ◌∷◌, ◌++◌}
use Rattle.std.proofs.Common.{ℕ, List, Option, length, map, take, refl, sym, subst, arith}
use mathlib.Core.Logic.{inl, inr}
use Rattle.std.specs.Prelude.{Contains}
use Rattle.std.proofs.lemmas.List.Elements.{Contains-push_cases}
use Rattle.half_edge_links.specs.{Mesh, next, origin}
use Rattle.{half_edge_dcel.specs.Contents, plane.specs.Point, plane_theorems.proofs.Contains-none}
use Rattle.{delaunay_legalization.proofs.contains_last, delaunay_legalization.specs.point_at}
use Rattle.delaunay_edit.specs.{ahead, AreToTurn, behind, CrossesFromRight, CrossingLists}
use Rattle.delaunay_edit.specs.{HasAsEdge, IsOneSubconstraint, KeepRoom, TurnsNearer}
use Rattle.delaunay_edit.specs.Crossing.{CornersTurn, IsWayBetween, IsWayMade}
use Rattle.delaunay_edit.specs.Lists.{IsToTurn, ListOthers}
use Rattle.delaunay_edit.proofs.Making.{edge_if_none_crosses, local}
use Rattle.delaunay_edit.proofs.MovedEdges.{moved_back, none_taken, none_waits, nothing_left}
use Rattle.delaunay_edit.proofs.MovedEdges.{others_taken, others_wait, room_on, turn_on}
use Rattle.delaunay_edit.proofs.{Towards.some_turns_nearer, Walking.are_in_mesh, Walking.AreInMesh}

-- ---- the corners
-- these points are the ends of the segment from i to j and the corners round edge e
pub record AreCorners (points : List Point) (m : Mesh) (i j e : ℕ)
    (p q v x y z : Point) : Type 0 where
  pub from : p ≡ point_at points i
  pub to : q ≡ point_at points j
  pub start : v ≡ point_at points (origin m e)
  pub behind_is : x ≡ point_at points (behind m e)
  pub end : y ≡ point_at points (origin m (next m e))
  pub ahead_is : z ≡ point_at points (ahead m e)

module _ {points : List Point} {m : Mesh} {i j e : ℕ} {p q v x y z : Point}
    (at : AreCorners points m i j e p q v x y z) where
  -- so they tell whether it can be turned
  turns_at : CornersTurn p q v x y z → TurnsNearer points m i j e
  turns_at = subst (λ (s : Point × Point × Point × Point × Point × Point).
      CornersTurn s.0 s.1 s.2 s.3 s.4 s.5)
      (λ o. (at.from o, at.to o, at.start o, at.behind_is o, at.end o, at.ahead_is o))

  pub turns_not_at : ¬ CornersTurn p q v x y z → ¬ TurnsNearer points m i j e
  turns_not_at = subst (λ (s : Point × Point × Point × Point × Point × Point).
      ¬ CornersTurn s.0 s.1 s.2 s.3 s.4 s.5)
      (λ o. (at.from o, at.to o, at.start o, at.behind_is o, at.end o, at.ahead_is o))

  -- and which way the edge that is made goes
  way_at : (r : Option ℕ) → IsWayBetween p q x z e r → IsWayMade points m i j e r
  way_at r = subst (λ (s : Point × Point × Point × Point). IsWayBetween s.0 s.1 s.2 s.3 e r)
      (λ o. (at.from o, at.to o, at.behind_is o, at.ahead_is o))

-- ---- the loop
-- the edges that cross are listed still, and those that came to wait cannot be turned
pub record IsSeeking {V D U F : Type 0} (points : List Point) (c : Contents V D U F) (i j : ℕ)
    (was now : CrossingLists) : Type 0 where
  pub turn : AreToTurn points c i j now
  pub waits : (h : ℕ) → Contains now.waiting.items h
      → Contains was.waiting.items h ⊎ (¬ TurnsNearer points c.mesh i j h)
  pub room : KeepRoom was now

-- no entry is to be seen, and those that wait did so before, or cannot be turned
pub record HaveSeen {V D U F : Type 0} (points : List Point) (c : Contents V D U F) (i j : ℕ)
    (was now : CrossingLists) : Type 0 where
  pub turn : AreToTurn points c i j now
  pub none : now.unseen.items ≡ []
  pub waits : (h : ℕ) → Contains now.waiting.items h
      → Contains was.waiting.items h ⊎ (¬ TurnsNearer points c.mesh i j h)
  pub room : KeepRoom was now

pub seeking_begins : {V D U F : Type 0} {points : List Point} {c : Contents V D U F} {i j : ℕ}
    {was : CrossingLists} → AreToTurn points c i j was → IsSeeking points c i j was was
seeking_begins turn = record {
  turn = turn;
  waits = λ h there. inl there;
  room = record { waiting = refl; unseen = refl };
}

-- the next one to be seen is one of the mesh
pub seeking_within : {V D U F : Type 0} (at : V → Point) {c : Contents V D U F} {i j : ℕ}
    {was now : CrossingLists} → IsSeeking (map at c.vertices) c i j was now
    → (left : List ℕ) (e : ℕ) → now.unseen.items ≡ left ++ e ∷ [] → AreInMesh c i j e
seeking_within at seeking left e popped =
    are_in_mesh at seeking.turn.subconstraint (seeking.turn.crossing.all.cross e
    (inr (subst (λ (xs : List ℕ). Contains xs e) (sym popped) (contains_last left e)))).0

module _ {V D U F : Type 0} {points : List Point} {c : Contents V D U F} {i j : ℕ}
    {was now new : CrossingLists} (seeking : IsSeeking points c i j was now)
    (step : KeepRoom now new) where
  -- the one that is taken out leaves the others
  module _ (e : ℕ) (popped : now.unseen.items ≡ new.unseen.items ++ e ∷ []) where
    -- where it can be turned, it is found
    seeking_takes : new.waiting.items ≡ now.waiting.items → TurnsNearer points c.mesh i j e
        → IsToTurn points c i j e new
    seeking_takes waiting can = record {
      subconstraint = seeking.turn.subconstraint;
      nearer = can;
      others = others_taken step e popped waiting seeking.turn.crossing;
    }

    -- where it cannot, it waits
    pub seeking_goes_on : new.waiting.items ≡ now.waiting.items ++ e ∷ []
        → ¬ TurnsNearer points c.mesh i j e → IsSeeking points c i j was new
    seeking_goes_on pushed cannot = record {
      turn = record {
        subconstraint = seeking.turn.subconstraint;
        crossing = others_wait {old = mid} (record { waiting = step.waiting; unseen = refl }) e
            pushed refl taken_out;
      };
      waits = λ h there. elim (Contains-push_cases now.waiting.items e h
          (subst (λ (xs : List ℕ). Contains xs h) pushed there)) [
            | inl before ↦ seeking.waits h before
            | inr is ↦ inr (subst (λ (k : ℕ). ¬ TurnsNearer points c.mesh i j k) is cannot)
          ];
      room = room_on seeking.room step;
    }
      where
        mid : CrossingLists
        mid = record now { unseen = new.unseen }

        taken_out : ListOthers points c.mesh i j e mid
        taken_out = others_taken {old = now} (record { waiting = refl; unseen = step.unseen }) e
            popped refl seeking.turn.crossing

  -- at the end all wait
  pub seeking_ends : (v : ℕ) → now.unseen.items ≡ new.unseen.items ++ []
      → new.unseen.items ≡ take (v - 1) now.unseen.items → v ≡ 0
      → new.waiting.items ≡ now.waiting.items → HaveSeen points c i j was new
  seeking_ends v popped rest none waiting = record {
    turn = turn_on seeking.turn (none_taken step popped waiting seeking.turn.crossing.held);
    none = nothing_left now.unseen.items new.unseen.items v popped rest none;
    waits = λ h there. seeking.waits h (subst (λ (xs : List ℕ). Contains xs h) waiting there);
    room = room_on seeking.room step;
  }

-- ---- one of those that cross can be turned
-- where none of those that cross can be turned, none crosses
none_left : {V D U F : Type 0} (at : V → Point) {c : Contents V D U F} {i j : ℕ}
    {was l : CrossingLists} → was.waiting.items ≡ [] → HaveSeen (map at c.vertices) c i j was l
    → HasAsEdge (map at c.vertices) c i j
none_left at {c = c} {i = i} {j = j} {l = l} nobody seen = record {
  whole = subconstraint.whole;
  edge = edge_if_none_crosses at c subconstraint.whole i j subconstraint.free subconstraint.shape
      none;
}
  where
    subconstraint : IsOneSubconstraint (map at c.vertices) c i j
    subconstraint = seen.turn.subconstraint

    cannot : (h : ℕ) → Contains l.waiting.items h ⊎ Contains l.unseen.items h
        → ¬ TurnsNearer (map at c.vertices) c.mesh i j h
    cannot h (inl a) nearer = elim (seen.waits h a) as (λ _. ⊥) [
      | inl before ↦ Contains-none h (subst (λ (xs : List ℕ). Contains xs h) nobody before)
      | inr not ↦ not nearer
    ]
    cannot h (inr b) nearer =
        Contains-none h (subst (λ (xs : List ℕ). Contains xs h) seen.none b)

    none : (h : ℕ) → h < length c.directed → ¬ CrossesFromRight (map at c.vertices) c.mesh i j h
    none h within crosses =
        let e = some_turns_nearer (map at c.vertices) c.mesh subconstraint.whole.valid i j
        (local at c subconstraint.whole i j subconstraint.free subconstraint.shape h within crosses)
        subconstraint.free h
        (subst (λ (n : ℕ). h < n) subconstraint.whole.fits.directed_fit within) crosses in
        cannot e.0 (seen.turn.crossing.all.all e.0 e.1 e.2) e.3

-- ---- all that wait are to be seen again
-- after some of them: those that cross are still listed
pub record AreGoingBack {V D U F : Type 0} (points : List Point) (c : Contents V D U F) (i j : ℕ)
    (was now : CrossingLists) : Type 0 where
  pub turn : AreToTurn points c i j now
  pub room : KeepRoom was now

pub going_back_begins : {V D U F : Type 0} {points : List Point} {c : Contents V D U F} {i j : ℕ}
    {l : CrossingLists} → AreToTurn points c i j l → AreGoingBack points c i j l l
going_back_begins turn =
    record { turn = turn; room = record { waiting = refl; unseen = refl } }

pub going_back_goes_on : {V D U F : Type 0} {points : List Point} {c : Contents V D U F} {i j : ℕ}
    {was now new : CrossingLists} → AreGoingBack points c i j was now → KeepRoom now new → (e : ℕ)
    → now.waiting.items ≡ new.waiting.items ++ e ∷ []
    → new.unseen.items ≡ now.unseen.items ++ e ∷ [] → AreGoingBack points c i j was new
going_back_goes_on back step e popped pushed = record {
  turn = turn_on back.turn (moved_back step e popped pushed back.turn.crossing.held);
  room = room_on back.room step;
}

-- ---- rounds
-- after so many rounds in which none was found that can be turned: after the first none waits, and
-- after the second the segment is an edge
pub record AreRounds {V D U F : Type 0} (at : V → Point) (c : Contents V D U F) (i j : ℕ)
    (was now : CrossingLists) (rounds : ℕ) : Type 0 where
  pub turn : AreToTurn (map at c.vertices) c i j now
  pub room : KeepRoom was now
  pub none_waits : 0 < rounds → now.waiting.items ≡ []
  pub made : 1 < rounds → HasAsEdge (map at c.vertices) c i j

not_below : (n : ℕ) → ¬ (n < 0)
not_below n below = omega (arith, below)

pub rounds_begin : {V D U F : Type 0} {at : V → Point} {c : Contents V D U F} {i j : ℕ}
    {l : CrossingLists} → AreToTurn (map at c.vertices) c i j l → AreRounds at c i j l l 0
rounds_begin turn = record {
  turn = turn;
  room = record { waiting = refl; unseen = refl };
  none_waits = λ below. absurd (not_below 0 below);
  made = λ below. absurd (not_below 1 below);
}

module _ {V D U F : Type 0} {at : V → Point} {c : Contents V D U F} {i j rounds : ℕ}
    {was begun : CrossingLists} (before : AreRounds at c i j was begun rounds) where
  -- one is found in the next round
  pub round_finds : {now new : CrossingLists} → IsSeeking (map at c.vertices) c i j begun now
      → KeepRoom now new → (e : ℕ) → now.unseen.items ≡ new.unseen.items ++ e ∷ []
      → new.waiting.items ≡ now.waiting.items → (way : Option ℕ) → {p q v x y z : Point}
      → AreCorners (map at c.vertices) c.mesh i j e p q v x y z
      → CornersTurn p q v x y z × IsWayBetween p q x z e way
      → (IsToTurn (map at c.vertices) c i j e new × IsWayMade (map at c.vertices) c.mesh i j e way)
      × KeepRoom was new
  round_finds seeking step e popped waiting way corners told = (
    (
      seeking_takes seeking step e popped waiting (turns_at corners told.0),
      way_at corners way told.1,
    ),
    room_on before.room (room_on seeking.room step),
  )

  -- or none, and all that wait are to be seen again
  pub round_ends : {seen now new : CrossingLists} → HaveSeen (map at c.vertices) c i j begun seen
      → AreGoingBack (map at c.vertices) c i j seen now → KeepRoom now new → (v : ℕ)
      → now.waiting.items ≡ new.waiting.items ++ []
      → new.waiting.items ≡ take (v - 1) now.waiting.items → v ≡ 0
      → new.unseen.items ≡ now.unseen.items → AreRounds at c i j was new (rounds + 1)
  round_ends {now = now} {new = new} seen back step v popped rest none unseen = record {
    turn = turn_on back.turn (none_waits step popped unseen back.turn.crossing.held);
    room = room_on before.room (room_on seen.room (room_on back.room step));
    none_waits = λ _. nothing_left now.waiting.items new.waiting.items v popped rest none;
    made = λ more. none_left at (before.none_waits (omega (arith, more))) seen;
  }
