-- An inner vertex goes: its three faces become one, or its four faces two where it is strictly
-- between opposite neighbours.
-- Notions: star_is_inner (no outer edge at it); three_filled, four_filled.
use Rattle.std.proofs.Common.{◌≡◌, ◌<◌, [], ◌∷◌, ℕ, zero, suc, List, length, refl, sym, ap, subst}
use Rattle.std.proofs.Common.{arith}
use Prim.Native.Nat.{◌+◌}
use native.Mathlib.Nat.{add-suc}
use mathlib.Core.Logic.{inl, inr, ◌≢◌}
use Rattle.std.specs.Prelude.{pos, ◌<ℤ◌, Contains}
use Rattle.std.proofs.lemmas.Int.{ints}
use Rattle.plane.specs.{Face, face, Point, whole, WithinSegment}
use Rattle.plane.proofs.{bracket, bracket-sum, bracket-swap, bracket-turn}
use Rattle.plane_theorems.specs.{FacesChange, IsOther, IsStar, LocalMesh, LocalMeshWithout}
use Rattle.{plane_theorems.proofs.Edits.LocalMesh.Cuts.cut, plane_theorems.specs.OuterChange}
use Rattle.plane_theorems.proofs.Edits.LocalMesh.Exchange.{all_stay, IsTouched, some_made}
use Rattle.plane_theorems.proofs.Tiling.Counting.{at, corners_differ, SignMesh}
use Rattle.plane_theorems.proofs.Tiling.Flows.{HasSide, IsTurnOf, turned}
use Rattle.plane_theorems.proofs.Tiling.Tiles.{by_signs, point_at}
use Rattle.plane_theorems.proofs.Tiling.Covering as C
use Rattle.plane_theorems.proofs.Tiling.Edges as E
use Rattle.plane_theorems.proofs.Tiling.Loops as L

module _ (points : List Point) (old new : List Face) (outer outer' : List (ℕ × ℕ))
    (m : LocalMesh points old outer) (outer_change : OuterChange outer outer' [] []) where
  abbrev n : ℕ
  n = length points

  abbrev p : ℕ → Point
  p = point_at points

  abbrev signs : SignMesh (length points) (point_at points) old outer
  signs = by_signs points old outer m

  -- ---- a vertex with a whole round of faces
  module _ (v k : ℕ) (nb : ℕ → ℕ) (star : IsStar old v k nb) where
    after_side : (i : ℕ) → HasSide old v (nb i)
    after_side i = (nb (suc i), star.around i)

    before_side : (i : ℕ) → 0 < k → HasSide old (nb i) v
    before_side i some = rw (star.again i) at (by k some refl)
      where
        by : (s : ℕ) → 0 < s → s ≡ k → HasSide old (nb (i + s)) v
        by zero h e = absurd (omega arith)
        by (suc s) h e = rw add-suc (
          nb (i + s),
          turned old _ _ _ (turned old _ _ _ (star.around (i + s))),
        )

    -- is on no outer edge
    star_is_inner : (e : ℕ × ℕ) → Contains outer e → (e.0 ≢ v) × (e.1 ≢ v)
    star_is_inner e h = ((λ q. starts e.1 (rw q at h)), (λ q. ends e.0 (rw q at h)))
      where
        starts : (w : ℕ) → Contains outer (v, w) → ⊥
        starts w h =
            let s = C.behind_outer n p old _ signs v w h in
            let i = star.only s.0 w (turned old w v s.0 s.1) in
            L.outer_is_no_side n p old _ signs v w h
            (rw i.3 at (after_side (suc i.0)))

        ends : (w : ℕ) → Contains outer (w, v) → ⊥
        ends w h =
            let s = C.behind_outer n p old _ signs w v h in
            let i = star.only w s.0 s.1 in
            L.outer_is_no_side n p old _ signs w v h
            (rw i.2 at (before_side i.0 (let l = i.1 in omega arith)))

    -- its neighbours are other vertices
    other : (i : ℕ) → IsOther points v (nb i)
    other i = (
      (C.turn_corners n p old _ signs v _ _ (star.around i)).1,
      λ e. (corners_differ p v _ _
          (C.turn_left_of n p old _ signs v _ _ (star.around i))).0 (sym e),
    )

    -- the way from one to the next has it on its left
    seen : (i : ℕ) → pos 0 <ℤ bracket (at p (nb i)) (at p (nb (suc i))) (at p v)
    seen i = rw bracket-turn at (C.turn_left_of n p old _ signs v _ _ (star.around i))

    -- a list that has the first k faces at it has all
    all_gone : (gone : List Face) → ((i : ℕ) → i < k → Contains gone (face v (nb i) (nb (suc i)))) →
        (a b : ℕ) → IsTurnOf old v a b → IsTurnOf gone v a b
    all_gone gone named a b h = let o = star.only a b h in subst
        (λ (q : ℕ × ℕ). IsTurnOf gone v q.0 q.1) (λ i. (o.2 i, o.3 i)) (inl (named o.0 o.1))

  -- ---- three faces become one
  module _ (v : ℕ) (nb : ℕ → ℕ) (star : IsStar old v 3 nb) where
    abbrev three_gone : List Face
    three_gone = face v (nb 0) (nb 1) ∷ face v (nb 1) (nb 2) ∷ face v (nb 2) (nb 0) ∷ []

    abbrev one_made : List Face
    one_made = face (nb 0) (nb 1) (nb 2) ∷ []

    abbrev o : (i : ℕ) → IsOther points v (nb i)
    o = other v 3 nb star

    one_turns : pos 0 <ℤ bracket (at p (nb 0)) (at p (nb 1)) (at p (nb 2))
    one_turns = let s = seen v 3 nb star in let a = s 0 in let b = s 1 in
        let third = rw (star.again 0) at (s 2) in
        omega (arith, ints, bracket-sum (p (nb 0)) (p (nb 1)) (p (nb 2)) (p v))

    -- three faces at the vertex are replaced by one
    pub three_filled : FacesChange old new three_gone one_made
        → LocalMeshWithout v points new outer'
    three_filled change = cut _ old new three_gone one_made _ _ [] [] m v (record {
      faces_change = change;
      outer_change = outer_change;
      some_face = some_made old new three_gone one_made change _
          (nb 1, nb 2, inl (0, omega arith, refl));
      all_gone = all_gone v 3 nb star three_gone named;
      turning = ((o 0, o 1, o 2, one_turns), tt);
      kept = ((own, first, second), ((own, second, last), ((own, last, first), tt)));
      left_all = λ e h _. star_is_inner v 3 nb star e h;
      edges = all_stay (IsOther points v) p _;
      same = λ flow anti. omega (arith, ints, anti (nb 1) v, anti (nb 2) v, anti (nb 0) v);
    })
      where
        own : v ≢ v → IsTouched one_made [] v
        own n = absurd (n refl)

        first : nb 0 ≢ v → IsTouched one_made [] (nb 0)
        first _ = inl (nb 1, nb 2, inl (0, omega arith, refl))

        second : nb 1 ≢ v → IsTouched one_made [] (nb 1)
        second _ = inl (nb 2, nb 0, inr (inr (0, omega arith, refl)))

        last : nb 2 ≢ v → IsTouched one_made [] (nb 2)
        last _ = inl (nb 0, nb 1, inr (inl (0, omega arith, refl)))

        named : (i : ℕ) → i < 3 → Contains three_gone (face v (nb i) (nb (suc i)))
        named zero h = (0, omega arith, refl)
        named (suc zero) h = (1, omega arith, refl)
        named (suc (suc zero)) h = (2, omega arith, ap (λ j. face v (nb 2) j) (sym (star.again 0)))
        named (suc (suc (suc i))) h = absurd (omega arith)

  -- ---- four faces become two, where v is strictly between neighbours 0 and 2
  module _ (v : ℕ) (nb : ℕ → ℕ) (star : IsStar old v 4 nb)
      (between : WithinSegment (whole (p (nb 0))) (whole (p (nb 2))) (whole (p v))) where
    abbrev four_gone : List Face
    four_gone = face v (nb 0) (nb 1) ∷ face v (nb 1) (nb 2) ∷ face v (nb 2) (nb 3)
        ∷ face v (nb 3) (nb 0) ∷ []

    abbrev two_made : List Face
    two_made = face (nb 0) (nb 1) (nb 2) ∷ face (nb 0) (nb 2) (nb 3) ∷ []

    abbrev o' : (i : ℕ) → IsOther points v (nb i)
    o' = other v 4 nb star

    -- v is on the line of neighbours 0 and 2
    flat : bracket (at p (nb 0)) (at p (nb 2)) (at p v) ≡ pos 0
    flat = E.within_on _ _ _ between

    first_turns : pos 0 <ℤ bracket (at p (nb 0)) (at p (nb 1)) (at p (nb 2))
    first_turns = let s = seen v 4 nb star in let a = s 0 in let b = s 1 in
        let back = bracket-swap (at p (nb 2)) (at p (nb 0)) (at p v) in
        omega (arith, ints, bracket-sum (p (nb 0)) (p (nb 1)) (p (nb 2)) (p v), flat)

    second_turns : pos 0 <ℤ bracket (at p (nb 0)) (at p (nb 2)) (at p (nb 3))
    second_turns = let s = seen v 4 nb star in let a = s 2 in
        let fourth = rw (star.again 0) at (s 3) in
        omega (arith, ints, bracket-sum (p (nb 0)) (p (nb 2)) (p (nb 3)) (p v), flat)

    -- four faces at the vertex are replaced by two
    pub four_filled : FacesChange old new four_gone two_made → LocalMeshWithout v points new outer'
    four_filled change = cut points old new four_gone two_made outer outer' [] [] m v (record {
      faces_change = change;
      outer_change = outer_change;
      some_face = some_made old new four_gone two_made change (nb 0)
          (nb 1, nb 2, inl (0, omega arith, refl));
      all_gone = all_gone v 4 nb star four_gone named;
      turning = ((o' 0, o' 1, o' 2, first_turns), ((o' 0, o' 2, o' 3, second_turns), tt));
      kept = (
        (own, first, second),
        ((own, second, third), ((own, third, last), ((own, last, first), tt))),
      );
      left_all = λ e h _. star_is_inner v 4 nb star e h;
      edges = all_stay (IsOther points v) p outer;
      same = λ flow anti. let first = anti (nb 0) v in let second = anti (nb 1) v in
          omega (arith, ints, anti (nb 2) v, anti (nb 3) v, anti (nb 2) (nb 0));
    })
      where
        own : v ≢ v → IsTouched two_made [] v
        own n = absurd (n refl)

        first : nb 0 ≢ v → IsTouched two_made [] (nb 0)
        first _ = inl (nb 1, nb 2, inl (0, omega arith, refl))

        second : nb 1 ≢ v → IsTouched two_made [] (nb 1)
        second _ = inl (nb 2, nb 0, inr (inr (0, omega arith, refl)))

        third : nb 2 ≢ v → IsTouched two_made [] (nb 2)
        third _ = inl (nb 0, nb 1, inr (inl (0, omega arith, refl)))

        last : nb 3 ≢ v → IsTouched two_made [] (nb 3)
        last _ = inl (nb 0, nb 2, inr (inl (1, omega arith, refl)))

        named : (i : ℕ) → i < 4 → Contains four_gone (face v (nb i) (nb (suc i)))
        named zero h = (0, omega arith, refl)
        named (suc zero) h = (1, omega arith, refl)
        named (suc (suc zero)) h = (2, omega arith, refl)
        named (suc (suc (suc zero))) h =
            (3, omega arith, ap (λ j. face v (nb 3) j) (sym (star.again 0)))
        named (suc (suc (suc (suc i)))) h = absurd (omega arith)
