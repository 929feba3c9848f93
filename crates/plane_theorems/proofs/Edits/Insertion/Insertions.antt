-- A vertex put inside a face, on a side between two faces, or on an outer edge: the mesh stays
-- local.
-- Notions: part_within; inside_kept, side_kept, hull_kept.
use Rattle.std.proofs.Common.{◌≡◌, ◌<◌, [], ◌∷◌, ℕ, suc, List, refl, sym, subst, arith}
use mathlib.Core.Logic.{inl, inr}
use Rattle.std.specs.Prelude.{ℤ, pos, ◌+ℤ◌, ◌*ℤ◌, ◌<ℤ◌, Contains}
use Rattle.std.proofs.lemmas.Int.{ints}
use Rattle.plane.specs.{Face, face, IsPositive, Point, whole, WithinSegment}
use Rattle.plane.proofs.{◌⊕◌, ◌⊗◌, at_most_if_not_less, bracket, bracket-turn, Inside, IsFresh}
use Rattle.plane.proofs.{left_not_below, mean_of_two, mul-pos_ℤ, ring_in_from, sum_is_positive}
use Rattle.plane.proofs.{two_weights}
use Rattle.plane_theorems.specs.{FacesChange, OuterChange}
use Rattle.plane_theorems.proofs.{Edits.Insertion.Hull.halves, Tiling.Flows.IsTurnOf}
use Rattle.plane_theorems.proofs.Edits.LocalMesh.Additions.{added, IsBareOfOld, IsWithinNone}
use Rattle.plane_theorems.proofs.Edits.LocalMesh.Additions.{LivesUpTo, new_edges, new_edges_owe}
use Rattle.plane_theorems.proofs.Edits.LocalMesh.Additions.{not_left, SupportsOld, within_outer}
use Rattle.plane_theorems.proofs.Edits.LocalMesh.Exchange.{all_stay, IsUsed}
use Rattle.plane_theorems.proofs.Tiling.Counting.{at, SignMesh, within_turned}
use Rattle.plane_theorems.proofs.Tiling.Covering as C
use Rattle.plane_theorems.proofs.Tiling.Places as P
use Rattle.plane_theorems.proofs.Tiling.Edges as E
use Rattle.plane_theorems.proofs.Tiling.Loops as L

-- a point within the first part of a segment is within the segment
part_within : (a b c d : Point) → WithinSegment (whole a) (whole b) (whole c)
    → WithinSegment (whole a) (whole c) (whole d) → WithinSegment (whole a) (whole b) (whole d)
part_within a b c d x y =
    let s = two_weights IsPositive _ _ _ x in
    let t = two_weights IsPositive _ _ _ y in
    mean_of_two IsPositive _ _ _ (record {
      k = t.k *ℤ s.n +ℤ t.l *ℤ s.k;
      l = t.l *ℤ s.l;
      n = t.n *ℤ s.n;
      k_allowed = sum_is_positive _ _ (mul-pos_ℤ t.k_allowed s.positive)
          (mul-pos_ℤ t.l_allowed s.k_allowed);
      l_allowed = mul-pos_ℤ t.l_allowed s.l_allowed;
      positive = mul-pos_ℤ t.positive s.positive;
      x = part t.n t.k t.l s.n s.k s.l a.x b.x c.x d.x s.x t.x;
      y = part t.n t.k t.l s.n s.k s.l a.y b.y c.y d.y s.y t.y;
      w = part t.n t.k t.l s.n s.k s.l _ _ _ _ s.w t.w;
    })
  where
    part : (n k l m g h a b c d : ℤ) → m *ℤ c ≡ g *ℤ a +ℤ h *ℤ b → n *ℤ d ≡ k *ℤ a +ℤ l *ℤ c
        → (n *ℤ m) *ℤ d ≡ (k *ℤ m +ℤ l *ℤ g) *ℤ a +ℤ (l *ℤ h) *ℤ b
    part n k l m g h a b c d e f = ring_in_from (n ∷ k ∷ l ∷ m ∷ g ∷ h ∷ a ∷ b ∷ c ∷ d ∷ [])
        (λ n k l m g h a b c d. (n ⊗ m) ⊗ d) (λ n k l m g h a b c d. (k ⊗ m ⊕ l ⊗ g) ⊗ a ⊕ (l ⊗ h) ⊗
        b) (λ n k l m g h a b c d. (l, m ⊗ c, g ⊗ a ⊕ h ⊗ b) ∷ (m, n ⊗ d, k ⊗ a ⊕ l ⊗ c) ∷ [])
        (e, (f, tt)) tt

module _ (n : ℕ) (p : ℕ → Point) (old new : List Face) (outer outer' : List (ℕ × ℕ))
    (m : SignMesh n p old outer) where
  -- ---- inside the face a b c
  module _ (a b c : ℕ) (own : IsTurnOf old a b c)
      (inside : Inside (at p a) (at p b) (at p c) (at p n)) where
    abbrev three : List Face
    three = face a b n ∷ face b c n ∷ face c a n ∷ []

    index : (a < n) × (b < n) × (c < n)
    index = C.turn_corners n p old _ m a b c own

    -- the new vertex is at no vertex, left of no outer edge and within none
    here : P.IsInsideFace n p old outer m (whole (p n))
    here = record { i = a; j = b; k = c; here = own; inside = inside }

    inner_fresh : IsFresh n p
    inner_fresh k h e = P.vertex_not_inside n p old _ m _ (record {
      v = k;
      index = h;
      same = rw e (record { x = refl; y = refl });
    }) here

    -- a vertex strictly inside a face
    pub inside_kept : FacesChange old new (face a b c ∷ []) three → OuterChange outer outer' [] []
        → SignMesh (suc n) p new outer'
    inside_kept faces_change outer_change =
        added n p old new (face a b c ∷ []) three outer outer' [] [] m (record {
          faces_change = faces_change;
          outer_change = outer_change;
          fresh = inner_fresh;
          some = (a, b, inr (inl (0, omega arith, refl)));
          turning = (
            (inl index.0, inl index.1, inr refl, inside.first),
            (
              (inl index.1, inl index.2, inr refl, inside.second),
              ((inl index.2, inl index.0, inr refl, inside.third), tt),
            ),
          );
          kept = (
            (
              (b, n, inl (0, omega arith, refl)),
              (c, n, inl (1, omega arith, refl)),
              (a, n, inl (2, omega arith, refl)),
            ),
            tt,
          );
          right = λ e h _. (
            not_left n p old outer m (P.inside_not_outside n p old outer m (whole (p n)) here) e h,
            λ w. P.side_not_inside n p old outer m (whole (p n))
                (within_outer n p old outer m e h w) here,
          );
          edges = all_stay (LivesUpTo n) p outer;
          same = λ flow anti. omega (arith, ints, anti n a, anti n b, anti n c);
        })

  -- ---- on the side a b of the faces a b c and b a d
  module _ (a b c d : ℕ) (first : IsTurnOf old a b c) (second : IsTurnOf old b a d)
      (within : WithinSegment (whole (p a)) (whole (p b)) (whole (p n))) where
    abbrev four : List Face
    four = face n d b ∷ face d n a ∷ face b c n ∷ face c a n ∷ []

    index_first : (a < n) × (b < n) × (c < n)
    index_first = C.turn_corners n p old _ m a b c first

    index_second : (b < n) × (a < n) × (d < n)
    index_second = C.turn_corners n p old _ m b a d second

    within_back : WithinSegment (whole (p b)) (whole (p a)) (whole (p n))
    within_back = within_turned _ _ _ within

    side_off : IsWithinNone n p outer
    side_off e h w = elim (E.sides_meet n p old _ m _ a b e.0 e.1 (inl (c, first))
        (inr (C.behind_outer n p old _ m e.0 e.1 h)) within w) [
          | inl s ↦ L.outer_is_no_side n p old _ m a b
              (subst (Contains outer) (λ i. (s.0 i, s.1 i)) h) (c, first)
          | inr s ↦ L.outer_is_no_side n p old _ m b a
              (subst (Contains outer) (λ i. (s.0 i, s.1 i)) h) (d, second)
        ]

    -- a vertex strictly within a side between two faces
    pub side_kept : FacesChange old new (face a b c ∷ face b a d ∷ []) four
        → OuterChange outer outer' [] [] → SignMesh (suc n) p new outer'
    side_kept faces_change outer_change =
        added n p old new (face a b c ∷ face b a d ∷ []) four outer outer' [] [] m (record {
          faces_change = faces_change;
          outer_change = outer_change;
          fresh = λ k h e. E.side_bare n p old outer m a b k (inl (c, first)) h
              (subst (λ q. WithinSegment (whole (p a)) (whole (p b)) (whole q)) (sym e) within);
          some = (d, b, inl (0, omega arith, refl));
          turning = (
            (inr refl, inl index_second.2, inl index_second.0, corner_d.0),
            (
              (inl index_second.2, inr refl, inl index_second.1, corner_d.1),
              (
                (inl index_first.1, inl index_first.2, inr refl, corner_c.0),
                ((inl index_first.2, inl index_first.0, inr refl, corner_c.1), tt),
              ),
            ),
          );
          kept = ((at_a, at_b, at_c), ((at_b, at_a, at_d), tt));
          right = λ e h _. (
            not_left n p old outer m (P.side_not_outside n p old outer m (whole (p n))
                (record { u = a; v = b; side = (c, first); within = within })) e h,
            side_off e h,
          );
          edges = all_stay (LivesUpTo n) p outer;
          same = λ flow anti. let e = anti b a in
              omega (arith, ints, anti d n, anti b n, anti n a, anti c n);
        })
      where
        corner_c : (pos 0 <ℤ bracket (at p b) (at p c) (at p n))
            × (pos 0 <ℤ bracket (at p c) (at p a) (at p n))
        corner_c = let t = C.turn_left_of n p old _ m a b c first in (
          E.within_second _ _ _ _ within t,
          E.within_third _ _ _ _ within t,
        )

        corner_d : (pos 0 <ℤ bracket (at p n) (at p d) (at p b))
            × (pos 0 <ℤ bracket (at p d) (at p n) (at p a))
        corner_d = let t = C.turn_left_of n p old _ m b a d second in (
          rw bracket-turn (E.within_third _ _ _ _ within_back t),
          rw bracket-turn at (E.within_second _ _ _ _ within_back t),
        )

        at_a : IsUsed four a
        at_a = (d, n, inr (inl (1, omega arith, refl)))

        at_b : IsUsed four b
        at_b = (c, n, inl (2, omega arith, refl))

        at_c : IsUsed four c
        at_c = (a, n, inl (3, omega arith, refl))

        at_d : IsUsed four d
        at_d = (n, a, inl (1, omega arith, refl))

  -- ---- on the outer edge from u to v, which the face v u c has behind it
  module _ (u v c : ℕ) (own : Contains outer (u, v)) (behind : IsTurnOf old v u c)
      (within : WithinSegment (whole (p u)) (whole (p v)) (whole (p n))) where
    abbrev two : List Face
    two = face v n c ∷ face n u c ∷ []

    -- the new vertex is strictly within the edge the other way too
    back : WithinSegment (whole (p v)) (whole (p u)) (whole (p n))
    back = within_turned _ _ _ within

    hull_index : (v < n) × (u < n) × (c < n)
    hull_index = C.turn_corners n p old _ m v u c behind

    hull_turns : pos 0 <ℤ bracket (at p v) (at p u) (at p c)
    hull_turns = C.turn_left_of n p old _ m v u c behind

    first_supports : SupportsOld n p (u, n)
    first_supports k l = at_most_if_not_less _ _ (λ s.
        left_not_below ((halves _ _ _ _ within).0.0 s) (m.supporting (u, v) own k l))

    second_supports : SupportsOld n p (n, v)
    second_supports k l = at_most_if_not_less _ _ (λ s.
        left_not_below ((halves _ _ _ _ within).1.0 s) (m.supporting (u, v) own k l))

    first_turns : pos 0 <ℤ bracket (at p v) (at p n) (at p c)
    first_turns = rw (bracket-turn _ _ _) at (E.within_third _ _ _ _ back hull_turns)

    second_turns : pos 0 <ℤ bracket (at p n) (at p u) (at p c)
    second_turns = rw (bracket-turn _ _ _) (E.within_second _ _ _ _ back hull_turns)

    first_bare : IsBareOfOld n p (u, n)
    first_bare k l w = m.bare (u, v) own k l (part_within _ _ _ _ within w)

    second_bare : IsBareOfOld n p (n, v)
    second_bare k l w = m.bare (u, v) own k l (within_turned _ _ _
        (part_within _ _ _ _ back (within_turned _ _ _ w)))

    hull_off : (e : ℕ × ℕ) → Contains outer e → ¬ Contains ((u, v) ∷ []) e
        → ¬ WithinSegment (whole (p e.0)) (whole (p e.1)) (whole (p n))
    hull_off e h away w = elim (E.sides_meet n p old _ m _ u v e.0 e.1
        (inr (c, behind)) (inr (C.behind_outer n p old _ m e.0 e.1 h)) within w) [
          | inl s ↦ away (0, omega arith, λ i. (sym s.0 i, sym s.1 i))
          | inr s ↦
              C.no_outer_back n p old _ m u v own (subst (Contains outer) (λ i. (s.0 i, s.1 i)) h)
        ]

    -- a vertex strictly within an outer edge
    pub hull_kept : FacesChange old new (face v u c ∷ []) two
        → OuterChange outer outer' ((u, v) ∷ []) (new_edges n u v) → SignMesh (suc n) p new outer'
    hull_kept faces_change outer_change = added n p old new (face v u c ∷ []) two outer outer'
        ((u, v) ∷ []) (new_edges n u v) m (record {
          faces_change = faces_change;
          outer_change = outer_change;
          fresh = λ k h e. m.bare (u, v) own k h
              (subst (λ q. WithinSegment (whole (p u)) (whole (p v)) (whole q)) (sym e) within);
          some = (u, c, inl (1, omega arith, refl));
          turning = (
            (inl hull_index.0, inr refl, inl hull_index.2, first_turns),
            ((inr refl, inl hull_index.1, inl hull_index.2, second_turns), tt),
          );
          kept = (
            (
              (n, c, inl (0, omega arith, refl)),
              (c, n, inr (inr (1, omega arith, refl))),
              (n, u, inr (inl (1, omega arith, refl))),
            ),
            tt,
          );
          right = λ e h away. (
            not_left n p old outer m (P.side_not_outside n p old outer m (whole (p n))
                (record { u = v; v = u; side = (c, behind); within = back })) e h,
            hull_off e h away,
          );
          edges = new_edges_owe n p outer ((u, v) ∷ []) u v c c hull_index.1 hull_index.0
              (rw bracket-turn at second_turns) (rw (bracket-turn _ _ _) first_turns)
              (λ e h. let c = m.ends e h in (c.0, c.1)) (own, tt) (tt, tt) first_supports first_bare
              second_supports second_bare;
          same = λ flow anti. omega (arith, ints, anti v n, anti c n, anti n u, anti v u);
        })
