-- What one legalising leaves alone: an edge that it flips away stays away.
-- Notions: IsSideBut, side_stays, side_was, face_stays (one flip); IsOnItsWay, Parted (many flips).
use Rattle.std.proofs.Common.{◌≡◌, ◌⊎◌, ◌≤◌, ◌+◌, ◌*◌, ◌-◌, [], ◌∷◌, ◌∙◌, ℕ, suc, List, length}
use Rattle.std.proofs.Common.{refl, ap, subst, arith}
use mathlib.Core.Logic.{inl, inr}
use Rattle.plane.specs.{Face, face, IsSamePair, Joins, Point}
use Rattle.plane.proofs.{next_sum, pair_turned, same_joined}
use Rattle.plane_theorems.specs.{AreAway, FacesChange, IsFaceOf, IsSideOfOne, LocalMesh}
use Rattle.plane_theorems.specs.Edits.FlipHistory.{ByFailingFlips, FlippedStaysAway}
use Rattle.plane_theorems.specs.Edits.FlipHistory.{FlipsAreBounded, FlipTouchesOneEdge}
use Rattle.plane_theorems.specs.Edits.FlipHistory.{IsFailingFlip, no_flip, one_more}
use Rattle.plane_theorems.specs.Edits.FlipHistory.{WhatStandsWasNotTouched}
use Rattle.plane_theorems.proofs.Edits.Legalization.Away.{away_back, away_is_bounded}
use Rattle.plane_theorems.proofs.Edits.Legalization.Away.{away_is_no_edge, flip_goes_away}
use Rattle.plane_theorems.proofs.Edits.Legalization.Flipping.{failing_is_convex}
use Rattle.plane_theorems.proofs.Edits.LocalMesh.Changes.{corner_of_each, Each, face_from}
use Rattle.plane_theorems.proofs.Edits.LocalMesh.Changes.{face_kept, once_none}
use Rattle.plane_theorems.proofs.Edits.LocalMesh.Kept.{flip_kept, same_outer, turning_of}
use Rattle.plane_theorems.proofs.{Tiling.Flows.turned, Tiling.Totals.Contains-none}

-- ---- one flip
-- i and j are corners of a face, or are u and v
abbrev IsSideBut : List Face → ℕ → ℕ → ℕ → ℕ → Type 0
IsSideBut faces u v i j = IsSideOfOne faces i j ⊎ IsSamePair i j u v

-- a face that goes leaves its sides but the one of u and v
sides_stay : (old new gone : List Face) (u v : ℕ) → ((i j k : ℕ) → IsFaceOf old i j k → IsFaceOf new
    i j k ⊎ IsFaceOf gone i j k) → Each (λ f. IsSideBut new u v f.a f.b × IsSideBut new u v f.b f.c
    × IsSideBut new u v f.c f.a) gone → (i j : ℕ) → IsSideOfOne old i j → IsSideBut new u v i j
sides_stay old new gone u v stays left i j (k, inl h) = elim (stays i j k h) [
  | inl o ↦ inl (k, inl o)
  | inr o ↦ corner_of_each _ (λ i j _. IsSideBut new u v i j) left i j k o
]
sides_stay old new gone u v stays left i j (k, inr h) = elim (stays j i k h) [
  | inl o ↦ inl (k, inr o)
  | inr o ↦ back (corner_of_each _ (λ i j _. IsSideBut new u v i j) left j i k o)
]
  where
    back : IsSideOfOne new j i ⊎ IsSamePair j i u v → IsSideOfOne new i j ⊎ IsSamePair i j u v
    back (inl (l, inl o)) = inl (l, inr o)
    back (inl (l, inr o)) = inl (l, inl o)
    back (inr e) = inr (pair_turned j i u v e)

module _ (faces new : List Face) (a b c d : ℕ) (change :
    FacesChange faces new (face a b c ∷ face a c d ∷ []) (face a b d ∷ face b c d ∷ [])) where
  first_made : IsFaceOf new a b d
  first_made = change.come a b d (inl (0, omega arith, refl))

  second_made : IsFaceOf new b c d
  second_made = change.come b c d (inl (1, omega arith, refl))

  -- a face stays, or is one of the two that the flip takes
  kept : (i j k : ℕ) → IsFaceOf faces i j k
      → IsFaceOf new i j k ⊎ IsFaceOf (face a b c ∷ face a c d ∷ []) i j k
  kept = face_kept _ new _ _ change

  -- the sides stay but for the diagonal
  pub side_stays : (i j : ℕ) → IsSideOfOne faces i j → IsSideOfOne new i j ⊎ IsSamePair i j a c
  side_stays = sides_stay _ new (face a b c ∷ face a c d ∷ []) a c kept (
    (inl (d, inl first_made), inl (d, inl second_made), inr (inr (refl, refl))),
    (
      (
        inr (inl (refl, refl)),
        inl (b, inl (turned new b c d second_made)),
        inl (b, inl (turned new b d a (turned new a b d first_made))),
      ),
      tt,
    ),
  )

  -- and but the other one none comes
  pub side_was : IsFaceOf faces a b c → IsFaceOf faces a c d → (i j : ℕ) → IsSideOfOne new i j
      → IsSideOfOne faces i j ⊎ IsSamePair i j b d
  side_was first second = sides_stay new _ (face a b d ∷ face b c d ∷ []) b d
      (face_from _ new _ _ change) (
        (
          inl (c, inl first),
          inr (inl (refl, refl)),
          inl (c, inl (turned _ c d a (turned _ a c d second))),
        ),
        (
          (
            inl (a, inl (turned _ a b c first)),
            inl (a, inl (turned _ a c d second)),
            inr (inr (refl, refl)),
          ),
          tt,
        ),
      )

  -- a face that goes has the diagonal as a side
  pub face_stays : (i j k : ℕ) → IsFaceOf faces i j k
      → IsFaceOf new i j k ⊎ (IsSamePair i j a c ⊎ (IsSamePair j k a c ⊎ IsSamePair k i a c))
  face_stays i j k h = elim (kept i j k h) [
    | inl o ↦ inl o
    | inr o ↦ inr (corner_of_each (face a b c ∷ face a c d ∷ [])
        (λ i j k. IsSamePair i j a c ⊎ (IsSamePair j k a c ⊎ IsSamePair k i a c)) (
          (inr (inr (inr (refl, refl))), inr (inl (inr (refl, refl))), inl (inr (refl, refl))),
          (
            (inl (inl (refl, refl)), inr (inr (inl (refl, refl))), inr (inl (inl (refl, refl)))),
            tt,
          ),
        )
        i j k o)
  ]

-- one flip takes one edge and brings one, and leaves all others
pub flip_touches_one_edge : FlipTouchesOneEdge
flip_touches_one_edge faces new a b c d first second change =
    (side_stays _ new a b c d change, side_was _ new a b c d change first second)

-- ---- one flip after another
mesh_after : (points : List Point) (faces new : List Face) (outer : List (ℕ × ℕ)) (a b c d : ℕ)
    → LocalMesh points faces outer → IsFailingFlip points faces new a b c d
    → LocalMesh points new outer
mesh_after points faces new outer a b c d m s =
    let convex = failing_is_convex _ _ _
    _ (turning_of _ _ _ m a b c s.first)
    (turning_of _ _ _ m a c d s.second) s.fails in
    flip_kept _ _ new _ _ a b c d m s.first s.second convex.0 convex.1 s.change
    (same_outer _ m.once)

module _ (points : List Point) (outer : List (ℕ × ℕ)) where
  -- a mesh with the pairs that were flipped away
  record IsOnItsWay (faces : List Face) (away : List (ℕ × ℕ)) : Type 0 where
    mesh : LocalMesh points faces outer
    pairs : AreAway points faces away

  at_first : (faces : List Face) → LocalMesh points faces outer → IsOnItsWay faces []
  at_first faces m = record {
    mesh = m;
    pairs = record {
      ordered = λ i j h. absurd (Contains-none (i, j) h);
      above = λ i j h. absurd (Contains-none (i, j) h);
      once = once_none;
    };
  }

  -- the pairs grow by one at each flip
  next : (faces new : List Face) (away : List (ℕ × ℕ)) (a b c d : ℕ) → IsOnItsWay faces away
      → IsFailingFlip points faces new a b c d
      → (more : List (ℕ × ℕ)) × IsOnItsWay new more × (length more ≡ suc (length away))
      × Joins more a c × ((i j : ℕ) → Joins away i j → Joins more i j)
  next faces new away a b c d w s = let r = flip_goes_away _ _ new _ away a b c d
      w.mesh s.first s.second s.change s.fails w.pairs in (
        r.0,
        record { mesh = mesh_after _ _ new _ a b c d w.mesh s; pairs = r.1 },
        r.2,
        r.3,
        r.4,
      )

  onward : {faces now : List Face} {count : ℕ} (away : List (ℕ × ℕ)) → IsOnItsWay faces away
      → ByFailingFlips points faces count now → (more : List (ℕ × ℕ)) × IsOnItsWay now more
      × (length more ≡ count + length away) × ((i j : ℕ) → Joins away i j → Joins more i j)
  onward away w no_flip = (away, w, omega arith, λ i j h. h)
  onward away w (one_more {before = before} {now = now} h a b c d s) =
      let r = onward away w h in
      let n = next _ _ r.0 a b c d r.1 s in
      (n.0, n.1, n.2 ∙ ap suc r.2 ∙ next_sum _ _, λ i j j'. n.4 i j (r.3 i j j'))

  no_side : (faces : List Face) (away : List (ℕ × ℕ)) → IsOnItsWay faces away → (i j : ℕ)
      → Joins away i j → ¬ IsSideOfOne faces i j
  no_side faces away w i j (inl h) (k, inl f) =
      away_is_no_edge _ _ _ i j k w.mesh (w.pairs.above i j h) f
  no_side faces away w i j (inl h) (k, inr f) = away_is_no_edge _ _ _ j i k w.mesh
      (away_back _ i j _ (w.pairs.above i j h)) f
  no_side faces away w i j (inr h) (k, inl f) = away_is_no_edge _ _ _ i j k w.mesh
      (away_back _ j i _ (w.pairs.above j i h)) f
  no_side faces away w i j (inr h) (k, inr f) =
      away_is_no_edge _ _ _ j i k w.mesh (w.pairs.above j i h) f

  -- what stood at first still does, or a side of it is away
  record Parted (now : List Face) (Stands : List Face → Type 0)
      (Away : List (ℕ × ℕ) → Type 0) : Type 0 where
    away : List (ℕ × ℕ)
    way : IsOnItsWay now away
    either : Stands now ⊎ Away away

  module _ (Stands : List Face → Type 0) (Away : List (ℕ × ℕ) → Type 0)
      (flips : (faces new : List Face) (a b c d : ℕ) → IsFailingFlip points faces new a b c d
      → Stands faces → (more : List (ℕ × ℕ)) → Joins more a c → Stands new ⊎ Away more)
      (grows : (away more : List (ℕ × ℕ)) → ((i j : ℕ) → Joins away i j → Joins more i j)
      → Away away → Away more) where
    parted : (start : List Face) → LocalMesh points start outer → Stands start → {count : ℕ}
        {now : List Face} → ByFailingFlips points start count now → Parted now Stands Away
    parted start m h no_flip = record { away = []; way = at_first start m; either = inl h }
    parted start m h (one_more {before = before} {now = now} e a b c d s) =
        let r = parted start m h e in let n = next _ _ r.away a b c d r.way s in record {
          away = n.0;
          way = n.1;
          either = elim r.either
              [ inl o ↦ flips _ _ a b c d s o n.0 n.3 | inr o ↦ inr (grows r.away n.0 n.4 o) ];
        }

    stood : (start between now : List Face) → ((faces : List Face) (away : List (ℕ × ℕ))
        → IsOnItsWay faces away → Away away → ¬ Stands faces) → (earlier later : ℕ)
        → LocalMesh points start outer → ByFailingFlips points start earlier between
        → ByFailingFlips points between later now → Stands start → Stands now → Stands between
    stood start between now clash earlier later m before after at_start at_end =
        let r = parted start m at_start before in elim r.either [
          | inl o ↦ o
          | inr o ↦ (let n = onward r.away r.way after in
              absurd (clash now n.0 n.1 (grows r.away n.0 n.3 o) at_end))
        ]

-- an edge that fails and is flipped does not come back by further flips of failing edges
pub flipped_stays_away : FlippedStaysAway
flipped_stays_away points faces new now outer a b c d count m s after =
    let n = next _ _ _ new [] a b c d (at_first _ _ _ m) s in
    let r = onward _ _ n.0 n.1 after in
    no_side _ _ _ r.0 r.1 a c (r.3 a c n.3)

-- edges and faces that stand before and after stand all the time between
pub what_stands_was_not_touched : WhatStandsWasNotTouched
what_stands_was_not_touched points start between now outer earlier later m before after = (
  λ i j. stood _ _ (λ faces. IsSideOfOne faces i j) (λ away. Joins away i j)
      (λ faces new a b c d s h more o. elim (side_stays _ new a b c d s.change i j h)
      [ inl k ↦ inl k | inr e ↦ inr (same_joined _ i j a c e o) ]) (λ away more kept h. kept i j h)
      start between _ (λ faces away w h. no_side _ _ _ away w i j h) earlier later m before after,
  λ i j k. stood _ _ (λ faces. IsFaceOf faces i j k)
      (λ away. Joins away i j ⊎ (Joins away j k ⊎ Joins away k i))
      (λ faces new a b c d s h more o. elim (face_stays _ new a b c d s.change i j k h) [
        | inl f ↦ inl f
        | inr e ↦ inr (elim e [
          | inl x ↦ inl (same_joined _ i j a c x o)
          | inr y ↦ elim y [
            | inl x ↦ inr (inl (same_joined _ j k a c x o))
            | inr x ↦ inr (inr (same_joined _ k i a c x o))
          ]
        ])
      ])
      (λ away more kept h. elim h [
        | inl x ↦ inl (kept i j x)
        | inr y ↦ elim y [ inl x ↦ inr (inl (kept j k x)) | inr x ↦ inr (inr (kept k i x)) ]
      ])
      start between _ (λ faces away w h f. elim h [
        | inl x ↦ no_side _ _ _ away w i j x (k, inl f)
        | inr y ↦ elim y [
          | inl x ↦ no_side _ _ _ away w j k x (i, inl (turned _ i j k f))
          | inr x ↦ no_side _ _ _ away w k i x (j, inl (turned _ j k i (turned _ i j k f)))
        ]
      ]) earlier later m before after,
)

-- of n vertices, one legalising makes at most n (n - 1) / 2 flips
pub flips_are_bounded : FlipsAreBounded
flips_are_bounded points start now outer count m flips =
    let r = onward _ _ [] (at_first _ _ start m) flips in
    subst (λ (n : ℕ). 2 * n ≤ length points * (length points - 1)) (r.2 ∙ (omega arith))
    (away_is_bounded _ _ r.0 r.1.pairs)
