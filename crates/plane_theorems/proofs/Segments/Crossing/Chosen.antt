-- Where some edge crosses, there is one from a last right end to a last left end there.
-- Notions: IsLastBelow; decide_listed, last_below, chosen_flip_exists.
use Rattle.std.proofs.Common.{◌≡◌, ◌⊎◌, ◌<◌, [], ◌∷◌}
use Rattle.std.proofs.Common.{ℕ, zero, suc, List, length, refl, ap, subst, arith}
use mathlib.Core.Logic.{inl, inr}
use Rattle.std.specs.Prelude.{Contains}
use Rattle.std.proofs.lemmas.Bool.{cases_eq}
use Rattle.plane.specs.{HasFace, left, on, Point, right, Side, side, squared_vector, TilesHull}
use Rattle.plane.specs.{Triangulation, vertex, whole}
use Rattle.plane.proofs.{decide_below, decide_both, decide_either, decided_by, Decision}
use Rattle.plane.proofs.Decisions.{decide_some_below}
use Rattle.plane_theorems.specs.{ComesAfterOnRight, IsCrossing, IsLastLeft, IsLastRight, point_of}
use Rattle.plane_theorems.specs.{Segments.Path.ComesAfterOnLeft, Segments.PathLaws.ChosenFlipExists}
use Rattle.plane_theorems.proofs.Segments.Crossing.Order.{last_has_none_after, left-irrefl}
use Rattle.plane_theorems.proofs.Segments.Crossing.Order.{left-trans, right-irrefl, right-trans}

-- ---- decisions
decide_side : (s r : Side) → Decision (s ≡ r)
decide_side left left = inl refl
decide_side left right = inr (λ e. absurd (cc))
decide_side left on = inr (λ e. absurd (cc))
decide_side right left = inr (λ e. absurd (cc))
decide_side right right = inl refl
decide_side right on = inr (λ e. absurd (cc))
decide_side on left = inr (λ e. absurd (cc))
decide_side on right = inr (λ e. absurd (cc))
decide_side on on = inl refl

decide_pair : (p q : ℕ × ℕ) → Decision (p ≡ q)
decide_pair p q = decided_by (
  (λ e. (ap (λ (r : ℕ × ℕ). r.0) e, ap (λ (r : ℕ × ℕ). r.1) e)),
  (λ e i. (e.0 i, e.1 i)),
) (decide_both (cases_eq p.0 q.0) (cases_eq p.1 q.1))

-- whether a pair is in a list
pub decide_listed : (pairs : List (ℕ × ℕ)) (p : ℕ × ℕ) → Decision (Contains pairs p)
decide_listed [] p = inr (λ c. absurd (omega (arith, c.1)))
decide_listed (q ∷ pairs) p = go (decide_pair q p) (decide_listed pairs p)
  where
    go : Decision (q ≡ p) → Decision (Contains pairs p) → Decision (Contains (q ∷ pairs) p)
    go (inl e) d = inl (0, omega arith, e)
    go (inr n) (inl c) = inl (suc c.0, omega (arith, c.1), c.2)
    go (inr n) (inr m) = inr neither
      where
        neither : ¬ Contains (q ∷ pairs) p
        neither (zero, h, e) = n e
        neither (suc k, h, e) = m (k, omega arith, e)

decide_crossing : (t : Triangulation) (i j v y : ℕ) → Decision (IsCrossing t i j v y)
decide_crossing t i j v y = decided_by (
  (λ c. ((c.edge, c.from_right), ((c.to_left, c.start), c.end))),
  (λ d. record {
    edge = d.0.0;
    from_right = d.0.1;
    to_left = d.1.0.0;
    start = d.1.0.1;
    end = d.1.1;
  }),
) (decide_both (decide_both (decide_either (decide_listed t.edges (v, y)) (decide_listed t.edges
    (y, v))) (decide_side (side (vertex t i) (vertex t j) (vertex t v)) right))
    (decide_both (decide_both (decide_side (side (vertex t i) (vertex t j) (vertex t y)) left)
    (decide_side (side (vertex t v) (vertex t y) (vertex t i)) left))
    (decide_side (side (vertex t v) (vertex t y) (vertex t j)) right)))

decide_after_on_right : (i v u : Point) → Decision (ComesAfterOnRight i v u)
decide_after_on_right i v u = decide_either (decide_side (side (whole i) (whole v) (whole u)) right)
    (decide_both (decide_side (side (whole i) (whole v) (whole u)) on)
    (decide_below (squared_vector i v) (squared_vector i u)))

decide_after_on_left : (i y w : Point) → Decision (ComesAfterOnLeft i y w)
decide_after_on_left i y w = decide_either (decide_side (side (whole i) (whole y) (whole w)) left)
    (decide_both (decide_side (side (whole i) (whole y) (whole w)) on)
    (decide_below (squared_vector i y) (squared_vector i w)))

-- ---- of the indexes below n with a property, one that none comes after
-- k is below n and has P, and no such index comes after it
pub record IsLastBelow (P : ℕ → Type 0) (After : ℕ → ℕ → Type 0) (n k : ℕ) : Type 0 where
  pub index : k < n
  pub has : P k
  pub last : (m : ℕ) → m < n → P m → ¬ After k m

module _ (P : ℕ → Type 0) (After : ℕ → ℕ → Type 0) (decide : (k : ℕ) → Decision (P k))
    (decide_after : (k m : ℕ) → Decision (After k m)) (After-trans : (a b c : ℕ) → P a → P b → P c
    → After a b → After b c → After a c) (After-irrefl : (a : ℕ) → ¬ After a a) where
  cases : (m n : ℕ) → m < suc n → (m < n) ⊎ (m ≡ n)
  cases m n h = grind arith

  -- of the indexes below n with P one is last, or there is none
  pub last_below : (n : ℕ) → ((k : ℕ) × IsLastBelow P After n k) ⊎ ((m : ℕ) → m < n → ¬ P m)
  last_below zero = inr (λ m h p. absurd (omega arith))
  last_below (suc n) = go (decide n) (last_below n)
    where
      go : Decision (P n) → ((k : ℕ) × IsLastBelow P After n k) ⊎ ((m : ℕ) → m < n → ¬ P m)
          → ((k : ℕ) × IsLastBelow P After (suc n) k) ⊎ ((m : ℕ) → m < suc n → ¬ P m)
      go (inr f) (inr g) =
          inr (λ m h p. elim (cases m n h) [ inl l ↦ g m l p | inr e ↦ f (subst P e p) ])
      go (inr f) (inl k) = inl (
        k.0,
        record {
          index = let h = k.1.index in omega arith;
          has = k.1.has;
          last =
              λ m h p a. elim (cases m n h) [ inl l ↦ k.1.last m l p a | inr e ↦ f (subst P e p) ];
        },
      )
      go (inl f) (inr g) = inl (
        n,
        record {
          index = omega arith;
          has = f;
          last = λ m h p a. elim
              (cases m n h) [ inl l ↦ g m l p | inr e ↦ After-irrefl n (subst (After n) e a) ];
        },
      )
      go (inl f) (inl k) = pick (decide_after k.0 n)
        where
          pick : Decision (After k.0 n)
              → ((k : ℕ) × IsLastBelow P After (suc n) k) ⊎ ((m : ℕ) → m < suc n → ¬ P m)
          pick (inl r) = inl (
            n,
            record {
              index = omega arith;
              has = f;
              last = λ m h p a. elim (cases m n h) [
                | inl l ↦ k.1.last m l p (After-trans k.0 n m k.1.has f p r a)
                | inr e ↦ After-irrefl n (subst (After n) e a)
              ];
            },
          )
          pick (inr r) = inl (
            k.0,
            record {
              index = let h = k.1.index in omega arith;
              has = k.1.has;
              last = λ m h p a. elim
                  (cases m n h) [ inl l ↦ k.1.last m l p a | inr e ↦ r (subst (After k.0) e a) ];
            },
          )

-- ---- the chosen edge
module _ (t : Triangulation) (h : TilesHull t) (i j : ℕ) where
  abbrev p : ℕ → Point
  p = point_of t.points

  abbrev n : ℕ
  n = length t.points

  -- the ends of a crossing edge are vertices
  ends : (v y : ℕ) → IsCrossing t i j v y → (v < n) × (y < n)
  ends v y c = go ((h.sides v y).0 c.edge)
    where
      go : HasFace t v y ⊎ HasFace t y v → (v < n) × (y < n)
      go (inl f) = let k = h.corners v y f.0 f.1 in (k.0, k.1)
      go (inr f) = let k = h.corners y v f.0 f.1 in (k.1, k.0)

  abbrev IsRightEnd : ℕ → Type 0
  IsRightEnd v = (y : ℕ) × (y < n) × IsCrossing t i j v y

  abbrev After : ℕ → ℕ → Type 0
  After v u = ComesAfterOnRight (p i) (p v) (p u)

  abbrev AfterLeft : ℕ → ℕ → Type 0
  AfterLeft y w = ComesAfterOnLeft (p i) (p y) (p w)

  last_right : (u w : ℕ) → IsCrossing t i j u w → (v : ℕ) × IsLastBelow IsRightEnd After n v
  last_right u w c =
      elim (last_below IsRightEnd After (λ v. decide_some_below n (decide_crossing t i j v))
      (λ v u. decide_after_on_right (p i) (p v) (p u))
      (λ a b d ha hb hd. right-trans (p i) (p j) (p a) (p b)
      (p d) ha.2.from_right hb.2.from_right hd.2.from_right) (λ a. right-irrefl (p i) (p a)) n)
      [ inl k ↦ k | inr f ↦ absurd (f u (ends u w c).0 (w, (ends u w c).1, c)) ]

  last_left : (v y : ℕ) → IsCrossing t i j v y
      → (w : ℕ) × IsLastBelow (IsCrossing t i j v) AfterLeft n w
  last_left v y c = elim (last_below (IsCrossing t i j v) AfterLeft (decide_crossing t i j v)
      (λ y w. decide_after_on_left (p i) (p y) (p w))
      (λ a b d ha hb hd. left-trans (p i) (p j) (p a) (p b) (p d) ha.to_left hb.to_left hd.to_left)
      (λ a. left-irrefl (p i) (p a)) n)
      [ inl k ↦ k | inr f ↦ absurd (f y (ends v y c).1 c) ]

  chosen : (u w : ℕ) → IsCrossing t i j u w
      → (v : ℕ) × (y : ℕ) × IsCrossing t i j v y × IsLastRight t i j v × IsLastLeft t i j v y
  chosen u w c = with_right (last_right u w c)
    where
      with_left : (v : ℕ) → IsLastBelow IsRightEnd After n v
          → (y : ℕ) × IsLastBelow (IsCrossing t i j v) AfterLeft n y
          → (v : ℕ) × (y : ℕ) × IsCrossing t i j v y × IsLastRight t i j v × IsLastLeft t i j v y
      with_left v l (y, k) = (
        v,
        y,
        k.has,
        (last_has_none_after t i j v y).0 (λ u w d. l.last u (ends u w d).0 (
          w,
          (ends u w d).1,
          d,
        )),
        (last_has_none_after t i j v y).1 (λ w d. k.last w (ends v w d).1 d),
      )

      with_right : (v : ℕ) × IsLastBelow IsRightEnd After n v
          → (v : ℕ) × (y : ℕ) × IsCrossing t i j v y × IsLastRight t i j v × IsLastLeft t i j v y
      with_right (v, l) = with_left v l (last_left v l.has.0 l.has.2)

-- where some edge crosses, there is one from a last right end to a last left end there
pub chosen_flip_exists : ChosenFlipExists
chosen_flip_exists t i j u w h c = chosen t h i j u w c
