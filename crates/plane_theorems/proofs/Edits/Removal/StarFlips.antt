-- The star of a vertex after a flip of one of its edges, and that a vertex has one star.
-- Notions: one_third; other_stays, came (one flip); DifferUpTo, neighbours_differ; after_in, round
-- (counting round); inner_star_shrinks, hull_star_shrinks, stars_agree, hull_stars_agree.
use Rattle.std.proofs.Common.{◌≡◌, ◌⊎◌, ◌<◌, ◌≤◌, [], ◌∷◌, ◌∙◌, ℕ, zero, suc, List, length, refl}
use Rattle.std.proofs.Common.{sym, ap, subst, arith}
use Prim.Native.Nat.{◌+◌, ◌-◌}
use mathlib.Core.Logic.{inl, inr, ◌≢◌}
use Rattle.std.specs.Prelude.{pos, ◌<ℤ◌, Contains, nat_eq, if◌then◌else◌}
use Rattle.std.proofs.lemmas.Bool.{cases_eq}
use Rattle.std.proofs.lemmas.Bool.Decides.{nat_tests}
use Rattle.plane.specs.{Face, face, Point}
use Rattle.plane.proofs.{bracket-last, bracket-turn, less_or_more, next_sum, zero_weak_left}
use Rattle.plane_theorems.specs.{FacesChange, IsFaceOf, IsHullStar, IsStar, IsStarFlip, LocalMesh}
use Rattle.plane_theorems.specs.Edits.StarFlips.{HullStarsAgree, HullStarShrinks, InnerStarShrinks}
use Rattle.plane_theorems.specs.Edits.StarFlips.{StarsAgree, without}
use Rattle.plane_theorems.proofs.Edits.LocalMesh.Changes.{corner_of_each, Each, face_from}
use Rattle.plane_theorems.proofs.{Edits.LocalMesh.Changes.face_kept, Edits.LocalMesh.Kept.flip_kept}
use Rattle.plane_theorems.proofs.Edits.Removal.Star.{apart_later, IsInAngle, same_angle}
use Rattle.plane_theorems.proofs.Tiling.Counting.{at, corners_differ, SignMesh}
use Rattle.plane_theorems.proofs.Tiling.Flows.{HasSide, IsTurnOf, turned}
use Rattle.plane_theorems.proofs.Tiling.Tiles.{by_signs, point_at}
use Rattle.plane_theorems.proofs.Tiling.Totals.{Contains-none}
use Rattle.plane_theorems.proofs.Tiling.Covering as C
use Rattle.plane_theorems.proofs.Tiling.Loops as L

-- ---- one face on each side
module _ (points : List Point) (faces : List Face) (outer : List (ℕ × ℕ))
    (m : LocalMesh points faces outer) where
  abbrev p : ℕ → Point
  p = point_at points

  signs : SignMesh (length points) (point_at points) faces outer
  signs = by_signs _ _ _ m

  differ : (a b c : ℕ) → IsFaceOf faces a b c → (a ≢ b) × (b ≢ c) × (c ≢ a)
  differ a b c f = corners_differ (point_at points) a b c (C.turn_left_of _ _ _ _ signs a b c f)

  starts : (v a b : ℕ) → IsFaceOf faces v a b
      → IsInAngle (length points) (point_at points) faces outer signs v a b (at p a)
  starts v a b f = record {
    from = zero_weak_left (bracket-last _ _);
    to = subst (λ z. pos 0 <ℤ z) (bracket-turn _ _ _ ∙ bracket-turn _ _ _)
        (C.turn_left_of _ _ _ _ signs v a b f);
  }

  one_third : (v a b c : ℕ) → IsFaceOf faces v a b → IsFaceOf faces v a c → b ≡ c
  one_third v a b c f g = (same_angle _ _ _ _ signs v a b a c
      f g _ (record { lt = tt }) (starts v a b f) (starts v a c g)).1

  one_second : (v a b c : ℕ) → IsFaceOf faces v a c → IsFaceOf faces v b c → a ≡ b
  one_second v a b c f g = one_third c v a b (turned _ a c v (turned _ v a c f))
      (turned _ b c v (turned _ v b c g))

-- what holds of the corner after v in each face that is written out
next_of : (faces : List Face) (v : ℕ) (Q : ℕ → Type 0)
    → Each (λ f. (f.a ≡ v → Q f.b) × (f.b ≡ v → Q f.c) × (f.c ≡ v → Q f.a)) faces
    → (x y : ℕ) → IsTurnOf faces v x y → Q x
next_of faces v Q t x y h = corner_of_each _ (λ i j _. i ≡ v → Q j) t v x y h refl

-- ---- the faces v a b and v b c become v a c and a b c
module _ (points : List Point) (faces new : List Face) (outer outer' : List (ℕ × ℕ)) (v a b c : ℕ)
    (m : LocalMesh points faces outer) (after : LocalMesh points new outer')
    (first : IsFaceOf faces v a b) (second : IsFaceOf faces v b c) (change :
    FacesChange faces new (face v a b ∷ face v b c ∷ []) (face v a c ∷ face a b c ∷ [])) where
  -- v a c is a face now
  made : IsFaceOf new v a c
  made = change.come v a c (inl (0, omega arith, refl))

  -- v is not a
  v_a : v ≢ a
  v_a = (differ _ _ _ m v a b first).0

  -- nor b
  v_b : v ≢ b
  v_b = (differ _ _ _ m v b c second).0

  -- nor c
  v_c : v ≢ c
  v_c e = (differ _ _ _ m v b c second).2 (sym e)

  -- a is not b
  a_b : a ≢ b
  a_b = (differ _ _ _ m v a b first).1

  -- of the faces at v the two go
  other_stays : (x y : ℕ) → IsFaceOf faces v x y → x ≢ a → x ≢ b → IsFaceOf new v x y
  other_stays x y f na nb = elim (face_kept _ new _ _ change v x y f) [
    | inl o ↦ o
    | inr o ↦ absurd (elim (next_of (face v a b ∷ face v b c ∷ []) v (λ z. (z ≡ a) ⊎ (z ≡ b)) (
      ((λ _. inl refl), (λ e. absurd (v_a (sym e))), (λ e. absurd (v_b (sym e)))),
      (((λ _. inr refl), (λ e. absurd (v_b (sym e))), (λ e. absurd (v_c (sym e)))), tt),
    ) x y o) [ inl e ↦ na e | inr e ↦ nb e ])
  ]

  -- and one comes
  came : (x y : ℕ) → IsFaceOf new v x y
      → ((x ≡ a) × (y ≡ c)) ⊎ (IsFaceOf faces v x y × (x ≢ a) × (x ≢ b))
  came x y f = elim (cases_eq x a) [
    | inl e ↦ inl (e, one_third points new outer' after v a y c (rw e at f) made)
    | inr na ↦ elim (face_from _ new _ _ change v x y f) [
      | inl o ↦ inr (o, na, λ e. not_second e o)
      | inr o ↦ absurd (na (next_of (face v a c ∷ face a b c ∷ []) v (λ z. z ≡ a) (
        ((λ _. refl), (λ e. absurd (v_a (sym e))), (λ e. absurd (v_c (sym e)))),
        (
          ((λ e. absurd (v_a (sym e))), (λ e. absurd (v_b (sym e))), (λ e. absurd (v_c (sym e)))),
          tt,
        ),
      ) x y o))
    ]
  ]
    where
      not_second : x ≡ b → IsFaceOf faces v x y → ⊥
      not_second e o =
          let y_is = one_third _ _ _ m v b y c
          (rw e at o) second in
          a_b (one_second _ new _ after v a b c made
          (subst (λ z. IsFaceOf new v z c) e (rw y_is at f)))

-- ---- on the hull
-- numbers 0 to k differ
abbrev pub DifferUpTo : ℕ → (ℕ → ℕ) → Type 0
DifferUpTo k nb = (i j : ℕ) → i < j → j ≤ k → nb i ≢ nb j

module _ (points : List Point) (faces : List Face) (outer : List (ℕ × ℕ)) (m : LocalMesh points
    faces outer) (v k : ℕ) (nb : ℕ → ℕ) (star : IsHullStar faces outer v k nb) where
  -- the last neighbour does not come earlier
  last_once : (i : ℕ) → i < k → nb i ≢ nb k
  last_once i h e = L.outer_is_no_side _ _ _ _ (by_signs _ _ _ m) v _ star.leaves
      (subst (λ z. HasSide faces v z) e (nb (suc i), star.around i h))

  -- nor does another one
  later_differs : (d i j : ℕ) → i < j → j + d ≡ k → nb i ≢ nb j
  later_differs zero i j h e s = last_once i (omega arith) (s ∙ ap nb (omega arith))
  later_differs (suc d) i j h e s = later_differs d _ _ (omega arith) (omega arith)
      (one_third _ _ _ m v _ _ _ (star.around i (omega arith))
      (subst (λ z. IsFaceOf faces v z (nb (suc j))) (sym s) (star.around j (omega arith))))

  -- so each neighbour comes once
  pub neighbours_differ : DifferUpTo k nb
  neighbours_differ i j h l = later_differs (k - j) i j h (omega arith)

  apart : (i j : ℕ) → i ≢ j → i ≤ k → j ≤ k → nb i ≢ nb j
  apart i j n hi hj e = elim (less_or_more i j n)
      [ inl l ↦ neighbours_differ i j l hj e | inr l ↦ neighbours_differ j i l hi (sym e) ]

without_before : (i : ℕ) (nb : ℕ → ℕ) (j : ℕ) → j < i → without i nb j ≡ nb j
without_before i nb j h = grind (arith, nat_tests)

without_from : (i : ℕ) (nb : ℕ → ℕ) (j : ℕ) → i ≤ j → without i nb j ≡ nb (suc j)
without_from i nb j h = grind (arith, nat_tests)

abbrev mesh_after : (points : List Point) (faces new : List Face) (outer outer' : List (ℕ × ℕ))
    (v i : ℕ) (nb : ℕ → ℕ) → LocalMesh points faces outer → IsFaceOf faces v (nb i) (nb (suc i))
    → IsFaceOf faces v (nb (suc i)) (nb (suc (suc i)))
    → IsStarFlip points faces new outer outer' v nb i → LocalMesh points new outer'
mesh_after points faces new outer outer' v i nb m f g s = flip_kept points faces new outer outer' v
    (nb i) (nb (suc i)) (nb (suc (suc i))) m f g s.near s.far s.faces_change s.outer_change

-- a flip at a vertex of the hull leaves out one neighbour; the first and the last stay
pub hull_star_shrinks : HullStarShrinks
hull_star_shrinks points faces new outer outer' v k nb i m star inside s =
    (record { around = around; only = only; arrives = arrives; leaves = leaves }, at_start, at_end)
  where
    f : IsFaceOf faces v (nb i) (nb (suc i))
    f = star.around i (omega arith)

    g : IsFaceOf faces v (nb (suc i)) (nb (suc (suc i)))
    g = star.around _ inside

    after : LocalMesh points new outer'
    after = mesh_after _ _ new _ _ v i nb m f g s

    early : (j : ℕ) → j ≤ i → without (suc i) nb j ≡ nb j
    early j h = without_before _ nb j (omega arith)

    late : (j : ℕ) → suc i ≤ j → without (suc i) nb j ≡ nb (suc j)
    late j h = without_from _ nb j h

    stays : (j : ℕ) → j < k → j ≢ i → j ≢ suc i → IsFaceOf new v (nb j) (nb (suc j))
    stays j h n n' = other_stays _ _ new _ _ v _ _ _ m after f g s.faces_change _ _
        (star.around j h) (apart _ _ _ m v k nb star j i n (omega arith) (omega arith))
        (apart _ _ _ m v k nb star j _ n' (omega arith) (omega arith))

    face_at : (j x y : ℕ) → without (suc i) nb j ≡ x → without (suc i) nb (suc j) ≡ y
        → IsFaceOf new v x y → IsFaceOf new v (without (suc i) nb j) (without (suc i) nb (suc j))
    face_at j x y e d h = rw e (subst (IsFaceOf new v x) (sym d) h)

    around : (j : ℕ) → j < k - 1
        → IsFaceOf new v (without (suc i) nb j) (without (suc i) nb (suc j))
    around j h = go (grind arith)
      where
        go : (j < i) ⊎ ((j ≡ i) ⊎ (i < j))
            → IsFaceOf new v (without (suc i) nb j) (without (suc i) nb (suc j))
        go (inl l) = face_at j _ _ (early j (omega arith)) (early _ (omega arith))
            (stays j (omega arith) (λ e. omega arith) (λ e. omega arith))
        go (inr (inl e)) = rw e (face_at i _ _ (early i (omega arith)) (late _ (omega arith))
            (made _ _ new _ _ v _ _ _ m after f g s.faces_change))
        go (inr (inr l)) = face_at j _ _ (late j (omega arith)) (late _ (omega arith))
            (stays _ (omega arith) (λ e. omega arith) (λ e. omega arith))

    only : (x y : ℕ) → IsFaceOf new v x y
        → (j : ℕ) × (j < k - 1) × (without (suc i) nb j ≡ x) × (without (suc i) nb (suc j) ≡ y)
    only x y h = elim (came _ _ new _ _ v _ _ _ m after f g s.faces_change x y h) [
      | inl e ↦ (i, omega arith, early i (omega arith) ∙ sym e.0, late _ (omega arith) ∙ sym e.1)
      | inr t ↦ (let r = star.only x y t.0 in old r.0 r.1 r.2 r.3 t.1 t.2
          (placed r.0 (λ e. t.1 (sym r.2 ∙ ap nb e)) (λ e. t.2 (sym r.2 ∙ ap nb e))))
    ]
      where
        old : (j : ℕ) → j < k → nb j ≡ x → nb (suc j) ≡ y → x ≢ nb i → x ≢ nb (suc i)
            → (j < i) ⊎ (suc i < j)
            → (j : ℕ) × (j < k - 1) × (without (suc i) nb j ≡ x) × (without (suc i) nb (suc j) ≡ y)
        old j l e d na nc (inl q) =
            (j, omega arith, early j (omega arith) ∙ e, early _ (omega arith) ∙ d)
        old zero l e d na nc (inr q) = absurd (omega arith)
        old (suc j) l e d na nc (inr q) =
            (j, omega arith, late j (omega arith) ∙ e, late _ (omega arith) ∙ d)

        placed : (j : ℕ) → j ≢ i → j ≢ suc i → (j < i) ⊎ (suc i < j)
        placed j n n' = grind arith

    at_start : without (suc i) nb 0 ≡ nb 0
    at_start = early 0 (omega arith)

    at_end : without (suc i) nb (k - 1) ≡ nb k
    at_end = late (k - 1) (omega arith) ∙ ap nb (omega arith)

    arrives : Contains outer' (without (suc i) nb 0, v)
    arrives = rw at_start (s.outer_change.kept _ v star.arrives (λ x. Contains-none (nb 0, v) x))

    leaves : Contains outer' (v, without (suc i) nb (k - 1))
    leaves = rw at_end (s.outer_change.kept v _ star.leaves (λ x. Contains-none (v, nb k) x))

-- ---- a star that begins elsewhere
from_none : (n : ℕ) → n ≡ 0 + n
from_none n = omega arith

star_turned_once : (faces : List Face) (v k : ℕ) (nb : ℕ → ℕ) → IsStar faces v k nb
    → IsStar faces v k (λ j. nb (suc j))
star_turned_once faces v k nb star = record {
  around = λ i. star.around _;
  again = λ i. ap nb (next_sum i k) ∙ star.again _;
  apart = apart_later nb k star.again star.apart;
  only = only;
}
  where
    only : (a b : ℕ) → IsFaceOf faces v a b
        → (i : ℕ) × (i < k) × (nb (suc i) ≡ a) × (nb (suc (suc i)) ≡ b)
    only a b f = go (star.only a b f)
      where
        go : (i : ℕ) × (i < k) × (nb i ≡ a) × (nb (suc i) ≡ b)
            → (i : ℕ) × (i < k) × (nb (suc i) ≡ a) × (nb (suc (suc i)) ≡ b)
        go (zero, h, e, d) = (
          k - 1,
          omega arith,
          ap nb ((omega arith) ∙ from_none k) ∙ star.again 0 ∙ e,
          ap nb (omega arith) ∙ star.again 1 ∙ d,
        )
        go (suc i, h, e, d) = (i, omega arith, e, d)

star_turned : (faces : List Face) (v k : ℕ) (nb : ℕ → ℕ) → IsStar faces v k nb → (s : ℕ)
    → IsStar faces v k (λ j. nb (j + s))
star_turned faces v k nb star zero = subst (IsStar faces v k) (λ o j. nb (none j o)) star
  where
    none : (j : ℕ) → j ≡ j + 0
    none j = omega arith
star_turned faces v k nb star (suc s) = subst (IsStar faces v k) (λ o j. nb (one j o))
    (star_turned_once _ v k (λ j. nb (j + s)) (star_turned _ v k nb star s))
  where
    one : (j : ℕ) → suc j + s ≡ j + suc s
    one j = omega arith

-- ---- counting round from 0 to t
abbrev after_in : ℕ → ℕ → ℕ
after_in t x = if nat_eq x t then 0 else suc x

round : ℕ → ℕ → ℕ
round t zero = 0
round t (suc j) = after_in t (round t j)

after_last : (t x : ℕ) → x ≡ t → after_in t x ≡ 0
after_last t x e = grind (arith, nat_tests)

after_other : (t x : ℕ) → x ≢ t → after_in t x ≡ suc x
after_other t x n = grind (arith, nat_tests)

round_fits : (t j : ℕ) → round t j ≤ t
unfolding round
round_fits t zero = omega arith
round_fits t (suc j) = elim (cases_eq (round t j) t) [
  | inl e ↦ omega (arith, after_last t (round t j) e)
  | inr n ↦
      later (round t j) (after_in t (round t j)) (round_fits t j) n (after_other t (round t j) n)
]
  where
    later : (x y : ℕ) → x ≤ t → x ≢ t → y ≡ suc x → y ≤ t
    later x y h n e = omega arith

round_own : (t j : ℕ) → j ≤ t → round t j ≡ j
unfolding round
round_own t zero h = refl
round_own t (suc j) h = ap (after_in t) (round_own t j (omega arith)) ∙ after_other t j
    (omega arith)

round_again : (t j : ℕ) → round t (j + suc t) ≡ round t j
unfolding round
round_again t zero = ap (round t) (sym (from_none _))
    ∙ ap (after_in t) (round_own t t (omega arith)) ∙ after_last t t refl
round_again t (suc j) = ap (round t) (sym (next_sum j _)) ∙ ap (after_in t) (round_again t j)

-- ---- at an inner vertex
-- the star begins after the edge that is flipped
module _ (points : List Point) (faces new : List Face) (outer outer' : List (ℕ × ℕ)) (v a b c t : ℕ)
    (nb : ℕ → ℕ) (m : LocalMesh points faces outer) (after : LocalMesh points new outer')
    (star : IsStar faces v (suc (suc t)) nb) (at_a : nb t ≡ a) (at_b : nb (suc t) ≡ b)
    (at_c : nb 0 ≡ c) (first : IsFaceOf faces v a b) (second : IsFaceOf faces v b c) (change :
    FacesChange faces new (face v a b ∷ face v b c ∷ []) (face v a c ∷ face a b c ∷ [])) where
  shrunk : IsStar new v (suc t) (λ j. nb (round t j))
  unfolding round
  shrunk =
      record { around = around; again = λ j. ap nb (round_again t j); apart = apart'; only = only }
    where
      around : (j : ℕ) → IsFaceOf new v (nb (round t j)) (nb (after_in t (round t j)))
      around j = elim (cases_eq (round t j) t) [
        | inl e ↦ rw (after_last t (round t j) e) (subst (λ z. IsFaceOf new v z (nb 0))
            (sym at_a ∙ ap nb (sym e)) (subst (IsFaceOf new v a) (sym at_c)
            (made _ _ new _ _ v a b c m after first second change)))
        | inr n ↦ rw (after_other t (round t j) n) (other_stays _ _ new _ _ v a b c m after first
            second change _ _ (star.around (round t j)) (not_a (round t j) (round_fits t j) n)
            (not_b (round t j) (round_fits t j)))
      ]
        where
          not_a : (x : ℕ) → x ≤ t → x ≢ t → nb x ≢ a
          not_a x h n e = n (star.apart x t (omega arith) (omega arith) (e ∙ sym at_a))

          not_b : (x : ℕ) → x ≤ t → nb x ≢ b
          not_b x h e = omega (arith, star.apart x _ (omega arith) (omega arith) (e ∙ sym at_b))

      apart' : (i j : ℕ) → i < suc t → j < suc t → nb (round t i) ≡ nb (round t j) → i ≡ j
      apart' i j hi hj e = star.apart i j (omega arith) (omega arith)
          (ap nb (sym (round_own t i (omega arith))) ∙ e ∙ ap nb (round_own t j (omega arith)))

      only : (x y : ℕ) → IsFaceOf new v x y
          → (j : ℕ) × (j < suc t) × (nb (round t j) ≡ x) × (nb (after_in t (round t j)) ≡ y)
      only x y h = elim (came _ _ new _ _ v a b c m after first second change x y h) [
        | inl e ↦ (
          t,
          omega arith,
          ap nb (round_own t t (omega arith)) ∙ at_a ∙ sym e.0,
          ap (λ z. nb (after_in t z)) (round_own t t (omega arith))
              ∙ ap nb (after_last t t refl) ∙ at_c ∙ sym e.1,
        )
        | inr o ↦ (let r = star.only x y o.0 in old r.0 r.1
            (λ e. o.1 (sym r.2 ∙ ap nb e ∙ at_a)) (λ e. o.2 (sym r.2 ∙ ap nb e ∙ at_b)) r.2 r.3)
      ]
        where
          old : (j : ℕ) → j < suc (suc t) → j ≢ t → j ≢ suc t → nb j ≡ x → nb (suc j) ≡ y
              → (j : ℕ) × (j < suc t) × (nb (round t j) ≡ x) × (nb (after_in t (round t j)) ≡ y)
          old j l n n' e d = (
            j,
            omega arith,
            ap nb (round_own t j (omega arith)) ∙ e,
            ap (λ z. nb (after_in t z))
                (round_own t j (omega arith)) ∙ ap nb (after_other t j n) ∙ d,
          )

-- a flip at an inner vertex leaves out one neighbour, and the star goes on from the next
pub inner_star_shrinks : InnerStarShrinks
inner_star_shrinks points faces new outer outer' v k nb i m star four s = (
  (λ j. nb (round (k - 2) j + suc (suc i))),
  subst (λ z. IsStar new v z (λ j. nb (round (k - 2) j + suc (suc i)))) (omega arith) star',
  λ j h. ap (λ z. nb (z + suc (suc i))) (round_own (k - 2) j (omega arith)),
)
  where
    f : IsFaceOf faces v (nb i) (nb (suc i))
    f = star.around i

    g : IsFaceOf faces v (nb (suc i)) (nb (suc (suc i)))
    g = star.around _

    star' : IsStar new v (suc (k - 2)) (λ j. nb (round (k - 2) j + suc (suc i)))
    star' = shrunk _ _ new _ _ v _ _ _ (k - 2) (λ j. nb (j + suc (suc i))) m
        (mesh_after _ _ new _ _ v i nb m f g s) (subst (λ z. IsStar faces v z
        (λ j. nb (j + suc (suc i)))) (omega arith) (star_turned _ v k nb star _))
        (ap nb (omega arith) ∙ star.again i) (ap nb (omega arith) ∙ star.again _)
        (ap nb (sym (from_none _))) f g s.faces_change

-- ---- one star
-- two lists of a vertex's star hold the same faces
pub stars_agree : StarsAgree
stars_agree points faces outer v k l nb other m star star' =
    (omega (arith, shorter, longer), (begins.0, begins.1, along))
  where
    begins : (i : ℕ) × (i < k) × (nb i ≡ other 0) × (nb (suc i) ≡ other 1)
    begins = star.only (other 0) (other 1) (star'.around 0)

    along : (i : ℕ) → other i ≡ nb (i + begins.0)
    along zero = sym begins.2 ∙ ap nb (from_none begins.0)
    along (suc i) = one_third _ _ _ m v (other i) (other _) _ (star'.around i)
        (rw (along i) (star.around (i + begins.0))) ∙ ap nb (next_sum i begins.0)

    own : (i : ℕ) × (i < l) × (other i ≡ other 0) × (other (suc i) ≡ other 1)
    own = star'.only (other 0) (other 1) (star'.around 0)

    shorter : k < l → ⊥
    shorter h = none (star'.apart k 0 h (omega arith)
        (along k ∙ ap nb (omega arith) ∙ star.again begins.0 ∙ begins.2))
      where
        none : k ≡ 0 → ⊥
        none e = let f = begins.1 in omega arith

    longer : l < k → ⊥
    longer h = none ((star_turned _ v k nb star begins.0).apart l 0 h (omega arith)
        (sym (along l) ∙ ap other (from_none l) ∙ star'.again 0 ∙ along 0))
      where
        none : l ≡ 0 → ⊥
        none e = let f = own.1 in omega arith

module _ (points : List Point) (faces : List Face) (outer : List (ℕ × ℕ))
    (m : LocalMesh points faces outer) (v k l : ℕ) (nb other : ℕ → ℕ)
    (star : IsHullStar faces outer v k nb) (star' : IsHullStar faces outer v l other) where
  signs_of : SignMesh (length points) (point_at points) faces outer
  signs_of = by_signs _ _ _ m

  some_face : 0 < k
  some_face =
      let s = C.behind_outer _ _ _ _ signs_of v
      _ star.leaves in
      let o = star.only s.0 _ (turned _ _ v s.0 s.1) in
      omega (arith, o.1)

  first_is : other 0 ≡ nb 0
  first_is = go (star'.only _ _ (star.around 0 some_face))
    where
      go : (j : ℕ) × (j < l) × (other j ≡ nb 0) × (other (suc j) ≡ nb 1) → other 0 ≡ nb 0
      go (zero, h, e, d) = e
      go (suc j, h, e, d) = absurd (L.outer_is_no_side _ _ _ _ signs_of _ v star.arrives
          (subst (λ z. HasSide faces z v) e (
            other j,
            turned _ (other j) (other _) v
                (turned _ v (other j) (other _) (star'.around j (omega arith))),
          )))

  each_is : (i : ℕ) → i ≤ k → i ≤ l → other i ≡ nb i
  each_is zero h e = first_is
  each_is (suc i) h e = one_third _ _ _ m v (other i) (other _) _ (star'.around i (omega arith))
      (rw (each_is i (omega arith) (omega arith)) (star.around i (omega arith)))

  not_longer : k < l → ⊥
  not_longer h = L.outer_is_no_side _ _ _ _ signs_of v
      _ star.leaves (subst (λ z. HasSide faces v z) (each_is k (omega arith) (omega arith))
      (other _, star'.around k h))

-- two readings of the faces round a vertex of the hull are one
pub hull_stars_agree : HullStarsAgree
hull_stars_agree points faces outer v k l nb other m star star' = (
  omega (arith, shorter, longer),
  λ i h. each_is _ _ _ m v k l nb other star star' i h (omega (arith, longer)),
)
  where
    shorter : k < l → ⊥
    shorter = not_longer _ _ _ m v k l nb other star star'

    longer : l < k → ⊥
    longer = not_longer _ _ _ m v l k other nb star' star
