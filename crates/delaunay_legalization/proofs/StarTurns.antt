-- An edge at a vertex is turned: of four faces round the vertex three are left, of two on the hull
-- one.
-- Notions: TurnsOff; turns_away, neighbour_other, first_turn, first_inner, other_turn,
-- other_face, other_next, same_end, same_start, first_end, second_end, wheel_left, third_end,
-- again_end, strip_left, wheel_of_three.
use Rattle.std.proofs.Common.{◌≡◌, ℕ, zero, suc, ◌<◌, ◌*◌, ◌/◌, length, sym, ap, ◌∙◌, subst, arith}
use mathlib.Core.Logic.{inl, inr, ◌≢◌}
use Rattle.half_edge_links.specs.{AreSoundLinks, edge_at, face, flipped, Flips, HalfEdge}
use Rattle.half_edge_links.specs.{IsFlippable, IsRound, IsStrip, IsValidMesh, IsWheel, Mesh}
use Rattle.half_edge_links.specs.{neighbour, next, origin, prev, rev, spoke, turn}
use Rattle.half_edge_links.proofs.{Faces.FlipSound.IsOffFlip, flips_is, origin_kept, rev-rev}
use Rattle.delaunay_legalization.proofs.{MeshStays.halved, TurnedEnds.KeepsOtherOrigins}
use Rattle.half_edge_links.proofs.Sound.Triangles as T

-- what a turn of edge e leaves at the vertex where it starts, whichever of its two directions was
-- turned
pub record TurnsOff (m new : Mesh) (e : ℕ) : Type 0 where
  pub edge_count : length new.half_edges ≡ length m.half_edges
  pub others : (h : ℕ) → IsOffFlip m e h → edge_at new.half_edges h ≡ edge_at m.half_edges h
  pub origins : KeepsOtherOrigins m new e
  pub turned : prev new (next m (rev e)) ≡ prev m e
  pub inner : face new (next m (rev e)) ≡ face m (rev e)

turns_edge : (m new : Mesh) (e : ℕ) → AreSoundLinks m → IsFlippable m e → Flips m new e
    → TurnsOff m new e
turns_edge m new e s can flips = record {
  edge_count = flips.edge_count;
  others = λ h k. flips.other_edges h k.edge k.twin k.edge_next k.twin_next k.edge_prev k.twin_prev;
  origins = origin_kept m new e s can flips;
  turned = flips.twin_next.prev;
  inner = flips.twin_next.face;
}

turns_twin : (m new : Mesh) (e : ℕ) → AreSoundLinks m → IsFlippable m (rev e) → Flips m new (rev e)
    → TurnsOff m new e
turns_twin m new e s can flips = record {
  edge_count = flips.edge_count;
  others = λ h k. flips.other_edges h k.twin (λ q. k.edge (q ∙ rev-rev e)) k.twin_next
      (λ q. k.edge_next (q ∙ ap (next m) (rev-rev e))) k.twin_prev
      (λ q. k.edge_prev (q ∙ ap (prev m) (rev-rev e)));
  origins = λ h a b. origin_kept m new (rev e) s can flips h b (λ q. a (q ∙ rev-rev e));
  turned = flips.edge_next.prev ∙ ap (prev m) (rev-rev e);
  inner = flips.edge_next.face;
}

-- the turn of the undirected edge of e
pub turns_away : (m new : Mesh) (e : ℕ) → AreSoundLinks m → IsFlippable m e → IsFlippable m (rev e)
    → new ≡ flipped m (2 * (e / 2)) → TurnsOff m new e
turns_away m new e s one other is = elim (halved e) [
  | inl q ↦ turns_edge m new e s one (flips_is m new e s one (is ∙ ap (flipped m) q))
  | inr q ↦ turns_twin m new e s other (flips_is m new (rev e) s other (is ∙ ap (flipped m) q))
]

-- ---- the edge that comes second round a vertex
module _ (m new : Mesh) (valid : IsValidMesh m) (v first count : ℕ)
    (round : IsRound m v first count) (many : 2 < count) (left : 0 < face m first)
    (right : 0 < face m (turn m first)) (turns : TurnsOff m new (turn m first)) where
  abbrev e : ℕ
  e = turn m first

  -- edge i of the round
  abbrev at : ℕ → ℕ
  at = spoke m first

  -- the three edges of the first face
  t : T.IsTriangle m first
  t = T.triangle_at m first valid.sound (round.within 0) left

  twin_is : rev e ≡ prev m first
  twin_is = rev-rev (prev m first)

  twin_next_is : next m (rev e) ≡ first
  twin_next_is = ap (next m) twin_is ∙ t.next_prev

  -- another edge of the vertex does not go to it
  pub neighbour_other : (i : ℕ) → neighbour m first i ≢ v
  neighbour_other i q = valid.apart (at i) (round.within i) (round.starts i ∙ sym q)

  not_back : (h i : ℕ) → origin m h ≡ v → h ≢ rev (at i)
  not_back h i o q = neighbour_other i (sym (ap (origin m) q) ∙ o)

  next_origin : (i : ℕ) → origin m (next m (at i)) ≢ v
  next_origin i q = neighbour_other i (sym (valid.sound.edges (at i) (round.within i)).starts ∙ q)

  prev_origin : (i : ℕ) → origin m (prev m (at i)) ≢ v
  prev_origin i q = neighbour_other (suc i) (ap (origin m) (rev-rev (prev m (at i))) ∙ q)

  -- the other edges of the vertex stay
  beside_spoke : (j : ℕ) → 1 < j → j < count → IsOffFlip m e (at j)
  beside_spoke j l h = record {
    edge = λ q. round.apart 1 j l h (sym q);
    twin = not_back (at j) 1 (round.starts j);
    edge_next = λ q. next_origin 1 (ap (origin m) (sym q) ∙ round.starts j);
    twin_next = λ q. round.apart 0 j (omega (arith, l)) h (sym (q ∙ twin_next_is));
    edge_prev = λ q. prev_origin 1 (ap (origin m) (sym q) ∙ round.starts j);
    twin_prev = λ q. next_origin 0
        (ap (origin m) (sym (q ∙ ap (prev m) twin_is ∙ t.prev_prev)) ∙ round.starts j);
  }

  -- after the first edge comes the third
  pub first_turn : turn new first ≡ at 2
  first_turn = ap rev (ap (prev new) (sym twin_next_is) ∙ turns.turned)

  -- the first edge still has an inner face on its left
  pub first_inner : 0 < face new first
  first_inner = subst (λ x. 0 < x) (sym (ap (face new) (sym twin_next_is) ∙ turns.inner
      ∙ ap (face m) twin_is ∙ t.face_prev)) left

  -- the edges of the vertex but the first two turn to what they turned to
  pub other_turn : (j : ℕ) → 1 < j → j < count → turn new (at j) ≡ at (suc j)
  other_turn j l h = ap (λ (r : HalfEdge). rev r.prev) (turns.others (at j) (beside_spoke j l h))

  -- they have the face on their left that they had
  pub other_face : (j : ℕ) → 1 < j → j < count → face new (at j) ≡ face m (at j)
  other_face j l h = ap (λ (r : HalfEdge). r.face) (turns.others (at j) (beside_spoke j l h))

  -- and the next edge that they had
  pub other_next : (j : ℕ) → 1 < j → j < count → next new (at j) ≡ next m (at j)
  other_next j l h = ap (λ (r : HalfEdge). r.next) (turns.others (at j) (beside_spoke j l h))

  -- and each leads where it led
  pub same_end : (j : ℕ) → at j ≢ e → origin new (rev (at j)) ≡ neighbour m first j
  same_end j n =
      turns.origins (rev (at j)) (λ q. neighbour_other j (ap (origin m) q ∙ round.starts 1))
      (λ q. n (sym (rev-rev (at j)) ∙ ap rev q ∙ rev-rev e))

  first_not_turned : at 0 ≢ e
  first_not_turned = round.apart 0 1 (omega arith) (omega (arith, many))

  later_not_turned : (j : ℕ) → 1 < j → j < count → at j ≢ e
  later_not_turned j l h q = round.apart 1 j l h (sym q)

  -- the first edge still starts at v
  pub same_start : origin new first ≡ v
  same_start = turns.origins first first_not_turned (not_back first 1 (round.starts 0))
      ∙ round.starts 0

  -- its first neighbour is the one that it was
  pub first_end : neighbour new first 0 ≡ neighbour m first 0
  first_end = same_end 0 first_not_turned

  -- its second neighbour is the one that was the third
  pub second_end : neighbour new first 1 ≡ neighbour m first 2
  second_end = ap (λ x. origin new (rev x)) first_turn
      ∙ same_end 2 (later_not_turned 2 (omega arith) many)

-- ---- of four faces round a vertex three are left
module _ (m new : Mesh) (valid : IsValidMesh m) (v first : ℕ) (round : IsRound m v first 4)
    (inner : (i : ℕ) → 0 < face m (spoke m first i)) (turns : TurnsOff m new (turn m first)) where
  third_turn : turn new (turn new first) ≡ spoke m first 3
  third_turn =
      ap (turn new) (first_turn m new valid v first 4 round (omega arith) (inner 0) (inner 1) turns)
      ∙ other_turn m new valid v first 4 round (omega arith) (inner 0) (inner 1) turns 2
      (omega arith) (omega arith)

  -- three inner faces are left round the vertex
  pub wheel_left : IsWheel new first
  wheel_left = record {
    within = subst (λ n. first < n) (sym turns.edge_count) (round.within 0);
    first_inner = first_inner m new valid v first 4 round (omega arith) (inner 0) (inner 1) turns;
    second_inner = subst (λ x. 0 < x) (sym (ap (face new) (first_turn m new valid v first 4 round
        (omega arith) (inner 0) (inner 1) turns) ∙ other_face m new valid v first 4 round
        (omega arith) (inner 0) (inner 1) turns 2 (omega arith) (omega arith))) (inner 2);
    third_inner = subst (λ x. 0 < x) (sym (ap (face new) third_turn ∙ other_face m new valid v first
        4 round (omega arith) (inner 0) (inner 1) turns 3 (omega arith) (omega arith))) (inner 3);
    round = ap (turn new) third_turn ∙ other_turn m new valid v first 4 round (omega arith)
        (inner 0) (inner 1) turns 3 (omega arith) (omega arith) ∙ round.back 0;
  }

  -- the third neighbour is the one that was the fourth
  pub third_end : neighbour new first 2 ≡ neighbour m first 3
  third_end = ap (λ x. origin new (rev x)) third_turn ∙ same_end m new valid v first 4 round
      (omega arith) (inner 0) (inner 1) turns 3 (later_not_turned m new valid v first 4 round
      (omega arith) (inner 0) (inner 1) turns 3 (omega arith) (omega arith))

  -- after the third neighbour comes the first again
  pub again_end : neighbour new first 3 ≡ neighbour m first 0
  again_end = ap (λ x. origin new (rev x)) wheel_left.round
      ∙ first_end m new valid v first 4 round (omega arith) (inner 0) (inner 1) turns

-- ---- of two faces at a vertex on the hull one is left
module _ (m new : Mesh) (valid : IsValidMesh m) (v first : ℕ) (round : IsRound m v first 3)
    (strip : IsStrip m first 2) (turns : TurnsOff m new (turn m first)) where
  -- the outer edge to the vertex stays
  beside_back : IsOffFlip m (turn m first) (rev first)
  beside_back =
      let one = T.triangle_at m first valid.sound (round.within 0) (strip.inner 0 (omega arith)) in
      let two = T.triangle_at m (turn m first) valid.sound (round.within 1)
      (strip.inner 1 (omega arith)) in
      let a = strip.inner 0 (omega arith) in
      let b = strip.inner 1 (omega arith) in
      let twin = rev-rev (prev m first) in
      record {
        edge = λ q. clash (face m (turn m first)) b (ap (face m) (sym q) ∙ strip.outer);
        twin = λ q. clash (face m (prev m first)) (subst (λ x. 0 < x) (sym one.face_prev) a)
            (ap (face m) (sym (q ∙ twin)) ∙ strip.outer);
        edge_next = λ q. clash (face m (next m (turn m first)))
            (subst (λ x. 0 < x) (sym two.face_next) b) (ap (face m) (sym q) ∙ strip.outer);
        twin_next = λ q. clash (face m first) a
            (ap (face m) (sym (q ∙ ap (next m) twin ∙ one.next_prev)) ∙ strip.outer);
        edge_prev = λ q. clash (face m (prev m (turn m first)))
            (subst (λ x. 0 < x) (sym two.face_prev) b) (ap (face m) (sym q) ∙ strip.outer);
        twin_prev = λ q. clash (face m (next m first)) (subst (λ x. 0 < x) (sym one.face_next) a)
            (ap (face m) (sym (q ∙ ap (prev m) twin ∙ one.prev_prev)) ∙ strip.outer);
      }
    where
      clash : (x : ℕ) → 0 < x → x ≡ 0 → ⊥
      clash x h e = omega (arith, h, e)

  turn_is : turn new first ≡ spoke m first 2
  turn_is = first_turn m new valid v first 3 round (omega arith) (strip.inner 0 (omega arith))
      (strip.inner 1 (omega arith)) turns

  next_is : next new (spoke m first 2) ≡ next m (spoke m first 2)
  next_is = other_next m new valid v first 3 round (omega arith) (strip.inner 0 (omega arith))
      (strip.inner 1 (omega arith)) turns 2 (omega arith) (omega arith)

  one_inner : (i : ℕ) → i < 1 → 0 < face new (spoke new first i)
  one_inner zero l = first_inner m new valid v first 3 round (omega arith)
      (strip.inner 0 (omega arith)) (strip.inner 1 (omega arith)) turns
  one_inner (suc i) l = absurd (omega arith)

  -- one face is left between the two outer edges of the vertex
  pub strip_left : IsStrip new first 1
  strip_left = record {
    within = subst (λ n. first < n) (sym turns.edge_count) (round.within 0);
    outer = ap (λ (r : HalfEdge). r.face) (turns.others (rev first) beside_back) ∙ strip.outer;
    inner = one_inner;
    last = ap (face new) turn_is
        ∙ other_face m new valid v first 3 round (omega arith) (strip.inner 0 (omega arith))
        (strip.inner 1 (omega arith)) turns 2 (omega arith) (omega arith) ∙ strip.last;
    gap = ap (λ (r : HalfEdge). r.next) (turns.others (rev first) beside_back) ∙ strip.gap
        ∙ sym turn_is;
    far = λ q. strip.far (sym next_is ∙ ap (next new) (sym turn_is) ∙ q ∙ ap rev turn_is);
  }

-- ---- three faces round a vertex
-- a vertex with three edges and inner faces all round is a wheel from its first edge on
pub wheel_of_three : (m : Mesh) (v first : ℕ) → IsRound m v first 3
    → ((i : ℕ) → 0 < face m (spoke m first i)) → IsWheel m first
wheel_of_three m v first round inner = record {
  within = round.within 0;
  first_inner = inner 0;
  second_inner = inner 1;
  third_inner = inner 2;
  round = round.back 0;
}
