-- A corner of the hull goes with all faces: the other vertices are on one line, in the order of its
-- neighbours.
-- Notions: named (each other vertex is a neighbour), between, joined; `line_left`.
use Rattle.std.proofs.Common.{◌≡◌, ◌⊎◌, ◌<◌, ◌≤◌, [], ◌∷◌, ◌∙◌, ℕ, suc, List, length, refl, sym, ap}
use Rattle.std.proofs.Common.{subst, arith}
use mathlib.Core.Logic.{inl, inr, ◌≢◌}
use Rattle.std.specs.Prelude.{ℤ, pos, ◌<ℤ◌, ◌≤ℤ◌, Contains}
use Rattle.std.proofs.lemmas.Bool.{cases_eq, cases_lt}
use Rattle.plane.specs.{Face, place, Point, whole, WithinSegment}
use Rattle.plane.proofs.{between_zero, bracket, bracket-swap, bracket-turn, left_not_zero}
use Rattle.plane.proofs.{negated_below, on_if}
use Rattle.plane_theorems.specs.{AreNeighboursBut, chain, FacesChange, IsHullStar, IsOther}
use Rattle.plane_theorems.specs.{LineMeshWithout, LocalMesh, OuterChange, strip}
use Rattle.plane_theorems.proofs.Edits.Insertion.Hull.{on_side}
use Rattle.plane_theorems.proofs.Edits.LocalMesh.Changes.{corner_of_each, face_kept, of_each}
use Rattle.plane_theorems.proofs.Edits.Removal.StarFlips.{DifferUpTo, neighbours_differ}
use Rattle.plane_theorems.proofs.Tiling.Counting.{at, SignMesh, within_turned}
use Rattle.plane_theorems.proofs.Tiling.Flows.{HasSide, IsTurnOf, no_turn}
use Rattle.plane_theorems.proofs.{Tiling.Line.flat, Tiling.Tiles.by_signs, Tiling.Tiles.point_at}
use Rattle.plane_theorems.proofs.Tiling.Covering as C
use Rattle.plane_theorems.proofs.Tiling.Edges as E
use Rattle.plane_theorems.proofs.Edits.Removal.Opposite as O
use Rattle.plane_theorems.proofs.Edits.Removal.HullStar as H
use Rattle.plane_theorems.proofs.Edits.Removal.HullCut as T

module _ (points : List Point) (old new : List Face) (outer outer' : List (ℕ × ℕ)) (m : LocalMesh
    points old outer) (v k : ℕ) (nb : ℕ → ℕ) (star : IsHullStar old outer v k nb) (corner : pos 0
    <ℤ bracket (at (point_at points) v) (at (point_at points) (nb 0)) (at (point_at points) (nb k)))
    (bent : (j : ℕ) → suc j < k → bracket (at (point_at points) (nb j))
    (at (point_at points) (nb (suc j))) (at (point_at points) (nb (suc (suc j)))) ≤ℤ pos 0)
    (change : FacesChange old new (strip v nb k) []) (outer_change :
    OuterChange outer outer' ((nb 0, v) ∷ (v, nb k) ∷ []) (chain nb k)) (empty : new ≡ []) where
  abbrev n : ℕ
  n = length points

  abbrev p : ℕ → Point
  p = point_at points

  abbrev signs : SignMesh (length points) (point_at points) old outer
  signs = by_signs points old outer m

  gone_all : (a b c : ℕ) → IsTurnOf old a b c → IsTurnOf (strip v nb k) a b c
  gone_all a b c h = elim (face_kept old new _ [] change a b c h)
      [ inl o ↦ absurd (no_turn a b c (rw empty at o)) | inr o ↦ o ]

  -- no neighbour is v
  not_v : (i : ℕ) → i ≤ k → nb i ≢ v
  not_v = T.not_v _ old new _ outer' m v k nb star

  other : T.AreOthers points v k nb
  other = T.others _ old new _ outer' m v k nb star

  differ : DifferUpTo k nb
  differ = neighbours_differ _ old _ m v k nb star

  same_at : (a b : ℕ) → a ≤ k → b ≤ k → nb a ≡ nb b → a ≡ b
  same_at a b ha hb e = elim (cases_eq a b) [
    | inl q ↦ q
    | inr ne ↦ elim (cases_lt a b) [
      | inl l ↦ absurd (differ a b l hb e)
      | inr l ↦ absurd (differ b a (strict ne l) ha (sym e))
    ]
  ]
    where
      strict : a ≢ b → b ≤ a → b < a
      strict ne l = omega arith

  -- each other vertex is a neighbour
  abbrev Named : ℕ → Type 0
  Named z = (i : ℕ) × (i ≤ k) × (z ≡ nb i)

  named : (z : ℕ) → z < n → z ≢ v → Named z
  named z h a =
      let f = C.face_at n p old _ signs z h in
      corner_of_each _ (λ a _ _. a ≢ v → Named a) (T.each_strip v nb
      (λ f. (f.a ≢ v → Named f.a) × (f.b ≢ v → Named f.b) × (f.c ≢ v → Named f.c)) k
      (λ i h. ((λ a. absurd (a refl)), (λ _. (i, omega arith, refl)), (λ _. (suc i, h, refl)))))
      z f.0 f.1 (gone_all z f.0 f.1 f.2) a

  -- and behind each way between neighbours there is no face
  abbrev Way : ℕ → ℕ → Type 0
  Way a b = (j : ℕ) × (j < k) × (a ≡ nb j) × (b ≡ nb (suc j))

  -- a side without v is one
  abbrev Without : ℕ → ℕ → Type 0
  Without a b = a ≢ v → b ≢ v → Way a b

  no_face_behind : (i : ℕ) → i < k → ¬ HasSide old (nb (suc i)) (nb i)
  no_face_behind i h s = by (corner_of_each _ (λ a b _. Without a b)
      (T.each_strip v nb (λ f. Without f.a f.b × Without f.b f.c × Without f.c f.a) k
      (λ i h. ((λ a _. absurd (a refl)), (λ _ _. (i, h, refl, refl)), (λ _ a. absurd (a refl))))) _
      _ s.0 (gone_all _ _ s.0 s.1) (not_v _ h) (not_v i (omega arith)))
    where
      clash : (i j : ℕ) → suc i ≡ j → i ≡ suc j → ⊥
      clash i j e f = omega arith

      by : Way (nb (suc i)) (nb i) → ⊥
      by (j, l, e, f) = clash i j (same_at _ j h (omega arith) e) (same_at i _ (omega arith) l f)

  -- the way back between two neighbours is an outer edge
  back : (i : ℕ) → i < k → Contains outer (nb (suc i), nb i)
  back i h = elim (C.behind_side n p old _ signs _ _ (T.side_there _ old
      new _ outer' m v k nb star i h)) [ inl s ↦ absurd (no_face_behind i h s) | inr o ↦ o ]

  -- v has a face
  some : 0 < k
  some = elim (cases_lt 0 k) [
    | inl l ↦ l
    | inr l ↦ absurd (left_not_zero corner (ap (λ o. bracket (at p v) (at p (nb 0)) (at p (nb o)))
        (none l) ∙ O.turn_own n p old _ signs v _))
  ]
    where
      none : k ≤ 0 → k ≡ 0
      none l = omega arith

  -- all others are on the line of neighbours 0 and 1
  on_line : (z : ℕ) → IsOther points v z → bracket (at p (nb 0)) (at p (nb 1)) (at p z) ≡ pos 0
  on_line z h = between_zero (H.not_beyond n p old _ signs v k nb star corner bent 0 some z h.0 h.1)
      (negated_below (bracket-swap _ _ _) (signs.supporting (nb 1, nb 0) (back 0 some) z h.0))

  level : (a b c : ℕ) → IsOther points v a → IsOther points v b → IsOther points v c
      → bracket (at p a) (at p b) (at p c) ≡ pos 0
  level a b c x y z = flat _ _ _ _ _ (signs.distinct _ _ (other 0 (omega arith)).0 (other 1 some).0
      (differ 0 1 (omega arith) some)) (on_line a x) (on_line b y) (on_line c z)

  -- a neighbour is strictly between the one before and each one that is further on
  between : (i j : ℕ) → suc i < j → j ≤ k
      → WithinSegment (whole (p (nb i))) (whole (p (nb j))) (whole (p (nb (suc i))))
  between i j h l = within_turned _ _ _ (on_side _ _ _ _
      (H.step n p old _ signs v k nb star i (omega arith))
      (level _ _ _ (other i (omega arith)) (other j l) (other _ (omega arith)))
      (subst (λ z. pos 0 <ℤ z) (bracket-turn _ _ _ ∙ bracket-turn _ _ _)
      (H.later_left n p old _ signs v k nb star corner _ j h l)))

  joined : (i j : ℕ) → i < j → j ≤ k → ((z : ℕ) → IsOther points v z
      → ¬ WithinSegment (place points (nb i)) (place points (nb j)) (place points z)) → suc i ≡ j
  joined i j h l none = elim (cases_eq _ j) [
    | inl e ↦ e
    | inr ne ↦ absurd (none _ (other _ (omega arith)) (between i j (short ne) l))
  ]
    where
      short : suc i ≢ j → suc i < j
      short ne = omega arith

  -- the outer edges that are left are the two ways between neighbours
  back_kept : (i : ℕ) → i < k → Contains outer' (nb (suc i), nb i)
  back_kept i h = outer_change.kept _ _ (back i h)
      (λ c. elim (of_each AtV ((nb 0, v) ∷ (v, nb k) ∷ []) (inr refl, (inl refl, tt))
      (nb (suc i), nb i) c) [ inl e ↦ not_v _ h e | inr e ↦ not_v i (omega arith) e ])
    where
      AtV : ℕ × ℕ → Type 0
      AtV e = (e.0 ≡ v) ⊎ (e.1 ≡ v)

  edge_of : (a b : ℕ) → Contains outer' (a, b) → AreNeighboursBut v points a b
  edge_of a b h = elim (outer_change.only a b h) [
    | inl o ↦ (let c = m.ends (a, b) o.0 in
        let d = T.own_all _ old new _ outer' m v k nb star (a, b) o.0 o.1 in record {
          apart = c.2;
          first = (c.0, d.0);
          second = (c.1, d.1);
          none_between = λ z l. m.bare (a, b) o.0 z l.0;
        })
    | inr o ↦ of_each (λ e. AreNeighboursBut v points e.0 e.1) _
        (T.each_chain nb (λ e. AreNeighboursBut v points e.0 e.1) k (λ i h. record {
          apart = differ i _ (omega arith) h;
          first = other i (omega arith);
          second = other _ h;
          none_between = λ z l. E.side_bare n p old _ signs _ _ z
              (inl (T.side_there _ old new _ outer' m v k nb star i h)) l.0;
        })) (a, b) o
  ]

  of_edge : (a b : ℕ) → AreNeighboursBut v points a b → Contains outer' (a, b)
  of_edge a b s = go (named a s.first.0 s.first.1) (named b s.second.0 s.second.1)
    where
      go : Named a → Named b → Contains outer' (a, b)
      go (i, hi, ea) (j, hj, eb) = elim (cases_eq i j) [
        | inl e ↦ absurd (s.apart (ea ∙ ap nb e ∙ sym eb))
        | inr ne ↦ elim (cases_lt i j) [ inl l ↦ up l | inr l ↦ down (strict ne l) ]
      ]
        where
          strict : i ≢ j → j ≤ i → j < i
          strict ne l = omega arith

          none : (z : ℕ) → IsOther points v z
              → ¬ WithinSegment (place points (nb i)) (place points (nb j)) (place points z)
          none z o w = s.none_between z o (subst (λ (q : ℕ × ℕ). WithinSegment (place points q.0)
              (place points q.1) (place points z)) (λ t. (sym ea t, sym eb t)) w)

          up : i < j → Contains outer' (a, b)
          up l = subst (λ (q : ℕ × ℕ). Contains outer' q)
              (λ t. (sym ea t, (ap nb (joined i j l hj none) ∙ sym eb) t)) (outer_change.come _
              _ (T.in_chain nb k i (omega arith)))

          down : j < i → Contains outer' (a, b)
          down l = subst (λ (q : ℕ × ℕ). Contains outer' q) (λ t. (
            (ap nb (joined j i l hi (λ z o w. none z o (within_turned _ _ _ w))) ∙ sym ea) t,
            sym eb t,
          )) (back_kept j (omega arith))

  -- without the vertex the others form a line
  pub line_left : LineMeshWithout v points outer'
  line_left = record {
    distinct = λ i j h l. m.distinct i j h.0 l.0;
    straight = λ i j l a b c. on_if _ _ _ (level i j l a b c);
    neighbours = λ i j. (edge_of i j, of_edge i j);
    once = outer_change.once;
  }
