-- A vertex of the hull goes: what its faces and its outer edges give way to leaves a local mesh of
-- the other vertices.
-- Notions: in_strip, in_chain, each_strip, each_chain; AreOthers, side_there, own_all; corner_gone,
-- flat_closed.
use Rattle.std.proofs.Common.{◌≡◌, ◌⊎◌, ◌<◌, ◌≤◌, [], ◌∷◌, ◌∙◌, ℕ, zero, suc, List, length, refl}
use Rattle.std.proofs.Common.{sym, subst, arith, ap}
use mathlib.Core.Logic.{inl, inr, ◌≢◌}
use Rattle.std.specs.Prelude.{ℤ, pos, ◌+ℤ◌, ◌<ℤ◌, ◌≤ℤ◌, Contains}
use Rattle.std.proofs.lemmas.Int.{ints}
use Rattle.std.proofs.lemmas.Bool.{cases_eq}
use Rattle.plane.specs.{Face, face, Point, whole, WithinSegment}
use Rattle.plane.proofs.{bracket, bracket-last, bracket-outer, bracket-sum, bracket-swap}
use Rattle.plane.proofs.{bracket-turn, left_not_zero, lt_or_ge_ℤ, negated_below, weak}
use Rattle.plane.proofs.Signs.{sum_with_zero_is_positive}
use Rattle.plane_theorems.specs.{along, around, chain, FacesChange, IsAntisymmetric, IsHullStar}
use Rattle.plane_theorems.specs.{IsOther, LocalMesh, LocalMeshWithout, OuterChange, strip, total}
use Rattle.plane_theorems.proofs.{Edits.Insertion.Hull.next_unique, Tiling.Totals.Contains-later}
use Rattle.plane_theorems.proofs.Edits.LocalMesh.Changes.{Each, Once}
use Rattle.plane_theorems.proofs.Edits.LocalMesh.Cuts.{cut}
use Rattle.plane_theorems.proofs.Edits.LocalMesh.Exchange.{IsBorder, IsTouched, some_made}
use Rattle.plane_theorems.proofs.Edits.Removal.StarFlips.{neighbours_differ}
use Rattle.plane_theorems.proofs.Tiling.Counting.{at, corners_differ, SignMesh, within_turned}
use Rattle.plane_theorems.proofs.Tiling.Flows.{HasSide, IsTurnOf, turned}
use Rattle.plane_theorems.proofs.Tiling.Tiles.{by_signs, point_at}
use Rattle.plane_theorems.proofs.Tiling.Covering as C
use Rattle.plane_theorems.proofs.Tiling.Edges as E
use Rattle.plane_theorems.proofs.Tiling.Loops as L
use Rattle.plane_theorems.proofs.Edits.Removal.HullStar as H

-- neighbours 0 to k are other vertices than v
abbrev pub AreOthers : List Point → ℕ → ℕ → (ℕ → ℕ) → Type 0
AreOthers points v k nb = (i : ℕ) → i ≤ k → IsOther points v (nb i)

-- ---- the strip of the faces at a vertex, and the chain of its neighbours
-- each of the faces is in the strip
in_strip : (v : ℕ) (nb : ℕ → ℕ) (c i : ℕ) → i < c
    → Contains (strip v nb c) (face v (nb i) (nb (suc i)))
in_strip v nb zero i h = absurd (omega arith)
in_strip v nb (suc c) i h = elim (cases_eq i c) [
  | inl e ↦ (0, omega arith, ap (λ o. face v (nb o) (nb (suc o))) (sym e))
  | inr ne ↦ Contains-later _ _ _ (in_strip v nb c i (omega arith))
]

-- each step between neighbours is in the chain
pub in_chain : (nb : ℕ → ℕ) (c i : ℕ) → i < c → Contains (chain nb c) (nb i, nb (suc i))
in_chain nb zero i h = absurd (omega arith)
in_chain nb (suc c) i h = elim (cases_eq i c) [
  | inl e ↦ (0, omega arith, ap (λ o. (nb o, nb (suc o))) (sym e))
  | inr ne ↦ Contains-later _ _ _ (in_chain nb c i (omega arith))
]

-- what holds of each face holds of all that are listed in the strip
pub each_strip : (v : ℕ) (nb : ℕ → ℕ) (P : Face → Type 0) (c : ℕ)
    → ((i : ℕ) → i < c → P (face v (nb i) (nb (suc i)))) → Each P (strip v nb c)
each_strip v nb P zero h = tt
each_strip v nb P (suc c) h = (h c (omega arith), each_strip v nb P c (λ i l. h i (omega arith)))

-- what holds of each step holds of all that are listed in the chain
pub each_chain : (nb : ℕ → ℕ) (P : ℕ × ℕ → Type 0) (c : ℕ)
    → ((i : ℕ) → i < c → P (nb i, nb (suc i))) → Each P (chain nb c)
each_chain nb P zero h = tt
each_chain nb P (suc c) h = (h c (omega arith), each_chain nb P c (λ i l. h i (omega arith)))

chain_once : (nb : ℕ → ℕ) (c : ℕ) → ((i j : ℕ) → i < j → j < c → nb i ≢ nb j) → Once (chain nb c)
chain_once nb zero h = tt
chain_once nb (suc c) h = (
  each_chain nb (λ e. e ≢ (nb c, nb (suc c))) c
      (λ i l e. h i c l (omega arith) (ap (λ (x : ℕ × ℕ). x.0) e)),
  chain_once nb c (λ i j l k. h i j l (omega arith)),
)

module _ (points : List Point) (old new : List Face) (outer outer' : List (ℕ × ℕ))
    (m : LocalMesh points old outer) where
  abbrev n : ℕ
  n = length points

  abbrev p : ℕ → Point
  p = point_at points

  abbrev signs : SignMesh (length points) (point_at points) old outer
  signs = by_signs points old outer m

  -- ---- v is on the hull
  module _ (v k : ℕ) (nb : ℕ → ℕ) (star : IsHullStar old outer v k nb) where
    abbrev own_edges : List (ℕ × ℕ)
    own_edges = (nb 0, v) ∷ (v, nb k) ∷ []

    -- no neighbour is the vertex itself
    pub not_v : (i : ℕ) → i ≤ k → nb i ≢ v
    not_v zero h = (m.ends (nb 0, v) star.arrives).2
    not_v (suc i) h = (corners_differ p v _ _
        (C.turn_left_of n p old _ signs v _ _ (star.around i (omega arith)))).2

    -- all are other vertices
    pub others : AreOthers points v k nb
    others i h = (H.neighbour_is n p old _ signs v k nb star i h, not_v i h)

    -- v and two neighbours after one another are a face
    pub side_there : (i : ℕ) → i < k → HasSide old (nb i) (nb (suc i))
    side_there i h = (v, turned old v _ _ (star.around i h))

    -- no other outer edge reaches v or leaves it
    arrives_once : (w : ℕ) → Contains outer (w, v) → w ≡ nb 0
    arrives_once w h =
        let s = C.behind_outer n p old _ signs w v h in
        let o = star.only w s.0 s.1 in
        go o.0 o.1 o.2
      where
        go : (i : ℕ) → i < k → nb i ≡ w → w ≡ nb 0
        go zero l e = sym e
        go (suc i) l e = absurd (L.outer_is_no_side n p old _ signs w v h
            (subst (λ o. HasSide old o v) e (
              nb i,
              turned old _ _ v (turned old v _ _ (star.around i (omega arith))),
            )))

    leaves_once : (w : ℕ) → Contains outer (v, w) → w ≡ nb k
    leaves_once w h = next_unique n p old _ signs v w _ h star.leaves

    -- an outer edge that is none of the vertex's own does not touch it
    pub own_all : (e : ℕ × ℕ) → Contains outer e → ¬ Contains own_edges e → (e.0 ≢ v) × (e.1 ≢ v)
    own_all e h none = (
      (λ q. none (1, omega arith, λ i. (sym q i, sym (leaves_once e.1 (rw q at h)) i))),
      (λ q. none (0, omega arith, λ i. (sym (arrives_once e.0 (rw q at h)) i, sym q i))),
    )

    own_once : Once own_edges
    own_once = (
      ((λ e. (m.ends (nb 0, v) star.arrives).2 (sym (ap (λ (x : ℕ × ℕ). x.0) e))), tt),
      (tt, tt),
    )

    strip_sums : (flow : ℕ → ℕ → ℤ) → IsAntisymmetric flow → (c : ℕ)
        → pos 0 +ℤ total (along flow) (chain nb c)
        ≡ total (around flow) (strip v nb c) +ℤ (flow (nb 0) v +ℤ (flow v (nb c) +ℤ pos 0))
    strip_sums flow anti zero = omega (arith, ints, anti (nb 0) v)
    strip_sums flow anti (suc c) = omega (arith, ints, strip_sums flow anti c, anti (nb (suc c)) v)

    -- a neighbour is an end of a way between neighbours
    abbrev Met : ℕ → Type 0
    Met i = i ≢ v → IsTouched [] (chain nb k) i

    -- at a corner where no neighbours turn left
    pub corner_gone : (corner : pos 0 <ℤ bracket (at p v) (at p (nb 0)) (at p (nb k))) → ((j : ℕ)
        → suc j < k → bracket (at p (nb j)) (at p (nb (suc j))) (at p (nb (suc (suc j)))) ≤ℤ pos 0)
        → FacesChange old new (strip v nb k) [] → OuterChange outer outer' own_edges (chain nb k)
        → ¬ (new ≡ []) → LocalMeshWithout v points new outer'
    corner_gone corner bent change outer_change some =
        cut _ old new _ [] outer _ own_edges _ m v (record {
          faces_change = change;
          outer_change = outer_change;
          some_face = some;
          all_gone = λ a b h. (let o = star.only a b h in
              subst (λ (q : ℕ × ℕ). IsTurnOf (strip v nb k) v q.0 q.1) (λ i. (o.2 i, o.3 i))
              (inl (in_strip v nb k o.0 o.1)));
          turning = tt;
          kept = each_strip v nb (λ f. Met f.a × Met f.b × Met f.c) k (λ i h. (
            (λ a. absurd (a refl)),
            (λ _. inr ((nb i, nb (suc i)), in_chain nb k i h, inl refl)),
            (λ _. inr ((nb i, nb (suc i)), in_chain nb k i h, inr refl)),
          ));
          left_all = own_all;
          edges = record {
            comes = each_chain nb (IsBorder (IsOther points v) p) k (λ i h. record {
              ends = (
                others i (omega arith),
                others _ h,
                neighbours_differ _ old _ m v k nb star i _ (omega arith) h,
              );
              supporting =
                  λ z o. H.not_beyond n p old _ signs v k nb star corner bent i h z o.0 o.1;
              bare = λ z o. E.side_bare n p old _ signs _ _ z (inl (side_there i h)) o.0;
            });
            left_there = (star.arrives, (star.leaves, tt));
            left_once = own_once;
            come_once = chain_once nb k
                (λ i j h l. neighbours_differ _ old _ m v k nb star i j h (omega arith));
            come_new = each_chain nb (λ e. ¬ Contains outer e) k (λ i h c.
                L.outer_is_no_side n p old _ signs _ _ c (side_there i h));
          };
          same = λ flow anti. strip_sums flow anti k;
        })

  -- ---- v is on a flat side of the hull, with two faces
  module _ (v : ℕ) (nb : ℕ → ℕ) (star : IsHullStar old outer v 2 nb)
      (flat : bracket (at p (nb 0)) (at p v) (at p (nb 2)) ≡ pos 0) where
    abbrev two_gone : List Face
    two_gone = face v (nb 0) (nb 1) ∷ face v (nb 1) (nb 2) ∷ []

    abbrev one_made : List Face
    one_made = face (nb 0) (nb 1) (nb 2) ∷ []

    abbrev closing : List (ℕ × ℕ)
    closing = (nb 0, nb 2) ∷ []

    -- the way from a neighbour to the next has v on its left
    seen : (i : ℕ) → i < 2 → pos 0 <ℤ bracket (at p (nb i)) (at p (nb (suc i))) (at p v)
    seen i h = rw (bracket-turn _ _ _) at (H.step n p old _ signs v 2 nb star i h)

    closed : pos 0 <ℤ bracket (at p (nb 0)) (at p (nb 1)) (at p (nb 2))
    closed = sum_with_zero_is_positive _ _ _ _ (bracket-sum _ _ _ _) (seen 1 (omega arith))
        (sym (bracket-turn _ _ _ ∙ bracket-turn _ _ _) ∙ flat) (seen 0 (omega arith))

    -- the closing edge supports all vertices
    behind : (z : ℕ) → z < n → bracket (at p (nb 0)) (at p (nb 2)) (at p z) ≤ℤ pos 0
    behind z h = let sum = bracket-sum (p (nb 0)) (p v) (p (nb 2)) (p z) in
        let swap = bracket-swap (at p (nb 2)) (at p (nb 0)) (at p z) in
        let a = signs.supporting (v, nb 2) star.leaves z h in
        let c = signs.supporting (nb 0, v) star.arrives z h in omega (arith, ints, flat)

    -- and no vertex but v is strictly within it
    bare_but_v : (z : ℕ) → z < n → z ≢ v
        → ¬ WithinSegment (whole (p (nb 0))) (whole (p (nb 2))) (whole (p z))
    bare_but_v z h a w = elim (lt_or_ge_ℤ (pos 0) (bracket (at p v) (at p (nb 1)) (at p z))) [
      | inl l ↦ second_corner (C.vertex_in_face n p old _ signs z v _ _ h
          (star.around 1 (omega arith)) (weak l) (weak third)
          (subst (λ o. pos 0 ≤ℤ o) (bracket-turn _ _ _ ∙ bracket-turn _ _ _)
          (H.to_last n p old _ signs v 2 nb star z h)))
      | inr l ↦ first_corner (C.vertex_in_face n p old _ signs z v _ _ h
          (star.around 0 (omega arith)) (H.from_first n p old _ signs v 2 nb star z h)
          (weak second) (negated_below (bracket-swap _ _ _) l))
    ]
      where
        turns : pos 0 <ℤ bracket (at p (nb 2)) (at p (nb 0)) (at p (nb 1))
        turns = subst (λ z. pos 0 <ℤ z) (bracket-turn _ _ _ ∙ bracket-turn _ _ _) closed

        second : pos 0 <ℤ bracket (at p (nb 0)) (at p (nb 1)) (at p z)
        second = E.within_second _ _ _ _ (within_turned _ _ _ w) turns

        third : pos 0 <ℤ bracket (at p (nb 1)) (at p (nb 2)) (at p z)
        third = E.within_third _ _ _ _ (within_turned _ _ _ w) turns

        first_corner : (z ≡ v) ⊎ ((z ≡ nb 0) ⊎ (z ≡ nb 1)) → ⊥
        first_corner (inl e) = a e
        first_corner (inr (inl e)) = left_not_zero (rw e at second) (bracket-outer _ _)
        first_corner (inr (inr e)) = left_not_zero (rw e at second) (bracket-last _ _)

        second_corner : (z ≡ v) ⊎ ((z ≡ nb 1) ⊎ (z ≡ nb 2)) → ⊥
        second_corner (inl e) = a e
        second_corner (inr (inl e)) = left_not_zero (rw e at third) (bracket-outer _ _)
        second_corner (inr (inr e)) = left_not_zero (rw e at third) (bracket-last _ _)

    -- two faces at a vertex within a hull edge are replaced by one, and the two outer edges by one
    pub flat_closed : FacesChange old new two_gone one_made → OuterChange outer outer'
        (own_edges v 2 nb star) closing → LocalMeshWithout v points new outer'
    flat_closed change outer_change = cut points old new two_gone one_made outer outer'
        (own_edges v 2 nb star) closing m v (record {
          faces_change = change;
          outer_change = outer_change;
          some_face = some_made old new two_gone one_made change (nb 0)
              (nb 1, nb 2, inl (0, omega arith, refl));
          all_gone = λ a b h. (let o = star.only a b h in
              subst (λ (q : ℕ × ℕ). IsTurnOf two_gone v q.0 q.1) (λ i. (o.2 i, o.3 i))
              (inl (named o.0 o.1)));
          turning = (
            (other 0 (omega arith), other 1 (omega arith), other 2 (omega arith), closed),
            tt,
          );
          kept = ((own, first, middle), ((own, middle, last), tt));
          left_all = own_all v 2 nb star;
          edges = record {
            comes = (
              record {
                ends = (
                  other 0 (omega arith),
                  other 2 (omega arith),
                  λ e. H.first_once n p old _ signs v 2 nb star 1 (omega arith) (sym e),
                );
                supporting = λ z o. behind z o.0;
                bare = λ z o. bare_but_v z o.0 o.1;
              },
              tt,
            );
            left_there = (star.arrives, (star.leaves, tt));
            left_once = own_once v 2 nb star;
            come_once = (tt, tt);
            come_new = (
              (λ h. (other 2 (omega arith)).1
                  (sym (next_unique n p old _ signs _ v _ star.arrives h))),
              tt,
            );
          };
          same = λ flow anti. let first = anti (nb 0) v in let middle = anti (nb 1) v in
              omega (arith, ints, anti (nb 2) v, anti (nb 2) (nb 0));
        })
      where
        other : AreOthers points v 2 nb
        other = others v 2 nb star

        own : v ≢ v → IsTouched one_made closing v
        own n = absurd (n refl)

        first : nb 0 ≢ v → IsTouched one_made closing (nb 0)
        first _ = inl (nb 1, nb 2, inl (0, omega arith, refl))

        middle : nb 1 ≢ v → IsTouched one_made closing (nb 1)
        middle _ = inl (nb 2, nb 0, inr (inr (0, omega arith, refl)))

        last : nb 2 ≢ v → IsTouched one_made closing (nb 2)
        last _ = inl (nb 0, nb 1, inr (inl (0, omega arith, refl)))

        named : (i : ℕ) → i < 2 → Contains two_gone (face v (nb i) (nb (suc i)))
        named zero h = (0, omega arith, refl)
        named (suc zero) h = (1, omega arith, refl)
        named (suc (suc i)) h = absurd (omega arith)
