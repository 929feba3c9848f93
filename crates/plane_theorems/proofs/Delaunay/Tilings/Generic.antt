-- A point that stays left of some lines and is off others, and when no constraint hides a point.
-- Notions: AllOff, IsOpen, AllOpen, Keeps; generic_point, open-swapped, same_bracket,
-- swapped_weights, open_if_free, keeps.
use Prim.Native.Nat.{ℕ, suc, ◌+◌, ◌<◌}
use lib.IntN.{ℤ, pos, ◌+ℤ◌, ◌-ℤ◌, ◌*ℤ◌, neg_ℤ}
use lib.Signed.{◌<ℤ◌, ◌≤ℤ◌}
use mathlib.Core.Path.{◌≡◌, refl, sym, ◌∙◌, ap, subst, subst₂}
use mathlib.Core.Logic.{◌⊎◌, inl, inr}
use mathlib.Core.List.{List, [], ◌∷◌}
use native.Mathlib.Omega.{arith}
use borrow.Author.Differences.{ints}
use Rattle.std.specs.Prelude.{sum_by}
use Rattle.std.proofs.lemmas.List.Sums.{sum_by-cons}
use Rattle.plane.specs.{Fraction, IsNotNegative, IsSame}
use Rattle.plane.proofs.{◌⊖◌, ◌⊗◌, above, balanced, below, bracketᵖ, left_not_zero, lt_or_ge_ℤ}
use Rattle.plane.proofs.{mul-nonneg_ℤ, neg-mul_ℤ, neg-pos_ℤ, negated_not_negative, none}
use Rattle.plane.proofs.{one_times_sum, pos-ne-zero_ℤ, right_not_zero, ring_over_from, Sign, sign}
use Rattle.plane.proofs.{swapped_sum, TwoWeights, weak, weak_right, zero-mul_ℤ, zero_of_mul-zero_ℤ}
use Rattle.plane.proofs.{zero_weak, zero_weak_left}
use Rattle.plane_theorems.proofs.Delaunay.Floods.Flood.{swapped_above, swapped_below}
use Rattle.plane_theorems.proofs.Delaunay.Points.Bracket.{bracket, bracket-mixed, bracket-swapped}
use Rattle.plane_theorems.proofs.Delaunay.Points.Bracket.{bracket-turned, cramer, fraction}
use Rattle.plane_theorems.proofs.Delaunay.Points.Bracket.{meeting-w, meeting-x, meeting-y, mixed}
use Rattle.plane_theorems.proofs.Delaunay.Points.Members.{Member}
use Rattle.plane_theorems.proofs.Delaunay.Points.Nudges.{InOpen, inside-nudge, nudge, nudge-above}
use Rattle.plane_theorems.proofs.Delaunay.Points.Nudges.{nudge-on, room, size}
use Rattle.plane_theorems.proofs.{Delaunay.Points.Numbers.mix_positive, Delaunay.Tilings.Walk.IsOff}
use Rattle.plane_theorems.proofs.Delaunay.Tilings.Across.{none_of_sum}
use Rattle.plane_theorems.proofs.Delaunay.Tilings.Faces.{turned-above}

abbrev AllLeft : List (Fraction × Fraction) → Fraction → Type 0
AllLeft [] q = Unit {0}
AllLeft (l ∷ ls) q = (pos 0 <ℤ bracket l.0 l.1 q) × AllLeft ls q

-- q is off each of the lines
abbrev pub AllOff : List (Fraction × Fraction) → Fraction → Type 0
AllOff [] q = Unit {0}
AllOff (l ∷ ls) q = IsOff l.0 l.1 q × AllOff ls q

abbrev line_size : Fraction → Fraction × Fraction → ℕ
line_size m l = size (bracket l.0 l.1 m)

left-nudge : (ls : List (Fraction × Fraction)) (n : ℕ) (q m : Fraction) → AllLeft ls q
    → sum_by (line_size m) ls < n → AllLeft ls (nudge n q m)
left-nudge [] n q m h r = tt
left-nudge (l ∷ ls) n q m h r = (
  nudge-above l.0 l.1 n q m h.0 (omega (arith, sum_by-cons (line_size m) l ls)),
  left-nudge ls n q m h.1 (omega (arith, sum_by-cons (line_size m) l ls)),
)

data Found (ls : List (Fraction × Fraction)) (a b c u v : Fraction) : Type 0 where
  to_left : (q : Fraction) → InOpen a b c q → AllLeft ls q → pos 0 <ℤ bracket u v q
      → Found ls a b c u v
  to_right : (q : Fraction) → InOpen a b c q → AllLeft ls q → pos 0 <ℤ bracket v u q
      → Found ls a b c u v
  nowhere : (q : Fraction) → InOpen a b c q → AllLeft ls q
      → ((s : Fraction) → bracket u v s ≡ pos 0) → Found ls a b c u v

-- inside a b c, left of the lines and off the line of u and v is a point, if any is off this line
find : (ls : List (Fraction × Fraction)) (a b c u v q : Fraction) → pos 0 <ℤ bracket a b c
    → InOpen a b c q → AllLeft ls q → Found ls a b c u v
find ls a b c u v q t inside left = go (sign (bracket u v q))
  where
    moved : (e : Fraction) → bracket u v q ≡ pos 0 → Sign (bracket u v e)
        → (bracket u v e ≡ pos 0 → Found ls a b c u v) → Found ls a b c u v
    moved e z s other =
        let n = room a b c e + suc (sum_by (line_size e) ls) in
        let i : InOpen a b c (nudge n q e) = inside-nudge a b c q e n inside (omega arith) in
        let l : AllLeft ls (nudge n q e) = left-nudge ls n q e left (omega arith) in
        let v' : bracket u v (nudge n q e) ≡ bracket u v e = nudge-on u v n q e z in
        elim s [
          | below h ↦ to_right (nudge n q e) i l
              (swapped_above u v (nudge n q e) (subst (λ t. t <ℤ pos 0) (sym v') h))
          | none h ↦ other h
          | above h ↦ to_left (nudge n q e) i l (subst (λ t. pos 0 <ℤ t) (sym v') h)
        ]

    all_none : bracket u v a ≡ pos 0 → bracket u v b ≡ pos 0 → bracket u v c ≡ pos 0
        → (s : Fraction) → bracket u v s ≡ pos 0
    all_none x y z s = none_of_sum (bracket a b c) (bracket u v s) (bracket b c s *ℤ bracket u v a)
        (bracket c a s *ℤ bracket u v b) (bracket a b s *ℤ bracket u v c) t (cramer a b c s u v)
        (zero-mul_ℤ (bracket b c s) x) (zero-mul_ℤ (bracket c a s) y) (zero-mul_ℤ (bracket a b s) z)

    go : Sign (bracket u v q) → Found ls a b c u v
    go (below h) = to_right q inside left (swapped_above u v q h)
    go (above h) = to_left q inside left h
    go (none z) = moved a z (sign (bracket u v a)) (λ x. moved b z (sign (bracket u v b))
        (λ y. moved c z (sign (bracket u v c)) (λ w. nowhere q inside left (all_none x y w))))

swapped_none : (u v q : Fraction) → bracket u v q ≡ pos 0 → bracket v u q ≡ pos 0
swapped_none u v q h = let e = bracket-swapped u v q in omega (arith, ints)

-- strictly inside a left-turning triple and left of some lines, where some point is: a point that
-- is off each of further lines
pub generic_point : (ms ls : List (Fraction × Fraction)) (a b c q : Fraction)
    → pos 0 <ℤ bracket a b c → InOpen a b c q → AllLeft ls q
    → (q' : Fraction) × InOpen a b c q' × AllLeft ls q' × AllOff ms q'
generic_point [] ls a b c q t inside left = (q, inside, left, tt)
generic_point (m ∷ ms) ls a b c q t inside left =
    go (λ ls q i l. generic_point ms ls a b c q t i l) (find ls a b c m.0 m.1 q t inside left)
  where
    go : ((ls : List (Fraction × Fraction)) (q : Fraction) → InOpen a b c q → AllLeft ls q
        → (q' : Fraction) × InOpen a b c q' × AllLeft ls q' × AllOff ms q') → Found ls a b c m.0 m.1
        → (q' : Fraction) × InOpen a b c q' × AllLeft ls q' × AllOff (m ∷ ms) q'
    go more (to_left q i l h) = let r = more ((m.0, m.1) ∷ ls) q i (h, l) in
        (r.0, r.1, r.2.1, ((λ z. absurd (left_not_zero r.2.0 z)), r.3))
    go more (to_right q i l h) = let r = more ((m.1, m.0) ∷ ls) q i (h, l) in
        (r.0, r.1, r.2.1, ((λ z. absurd (left_not_zero r.2.0 (swapped_none m.0 m.1 r.0 z))), r.3))
    go more (nowhere q i l h) = let r = more ls q i l in (r.0, r.1, r.2, ((λ _. h), r.3))

-- ---- a way from q to p that the segment a b does not hide
-- the segment from a to b does not hide p from q, by the sides of one of the two
pub data IsOpen (a b p q : Fraction) : Type 0 where
  on_line : bracket a b p ≡ pos 0 → IsOpen a b p q
  both_left : pos 0 <ℤ bracket a b p → pos 0 <ℤ bracket a b q → IsOpen a b p q
  both_right : bracket a b p <ℤ pos 0 → bracket a b q <ℤ pos 0 → IsOpen a b p q
  past_left : pos 0 <ℤ bracket q p a → pos 0 <ℤ bracket q p b → IsOpen a b p q
  past_right : bracket q p a <ℤ pos 0 → bracket q p b <ℤ pos 0 → IsOpen a b p q

-- a segment that does not hide p from q does not do so the other way round
pub open-swapped : (a b p q : Fraction) → IsOpen a b p q → IsOpen b a p q
open-swapped a b p q (on_line h) = on_line (swapped_none a b p h)
open-swapped a b p q (both_left h k) = both_right (swapped_below a b p h) (swapped_below a b q k)
open-swapped a b p q (both_right h k) = both_left (swapped_above a b p h) (swapped_above a b q k)
open-swapped a b p q (past_left h k) = past_left k h
open-swapped a b p q (past_right h k) = past_right k h

-- the brackets of one and the same point agree by cross products with the weights
pub same_bracket : (u v y p : Fraction) → IsSame y p → p.w *ℤ bracket u v y ≡ y.w *ℤ bracket u v p
unfolding bracket
same_bracket u v y p e = ring_over_from fraction [] (u ∷ v ∷ y ∷ p ∷ [])
    (λ u v y p. p.w ⊗ bracketᵖ u v y) (λ u v y p. y.w ⊗ bracketᵖ u v p)
    (λ u v y p. (u.y ⊗ v.w ⊖ u.w ⊗ v.y, y.x ⊗ p.w, p.x ⊗ y.w)
    ∷ (u.w ⊗ v.x ⊖ u.x ⊗ v.w, y.y ⊗ p.w, p.y ⊗ y.w) ∷ []) (e.x, (e.y, tt)) tt

met_sum : (s t x y k a l b : ℤ) → s *ℤ x -ℤ t *ℤ y ≡ k *ℤ a -ℤ l *ℤ b
    → pos 1 *ℤ (neg_ℤ t *ℤ y +ℤ s *ℤ x) ≡ k *ℤ a +ℤ neg_ℤ l *ℤ b
met_sum s t x y k a l b e = omega (arith, ints, neg-mul_ℤ t y, neg-mul_ℤ l b)

not_positive : (s t x y k a l b : ℤ) → s *ℤ x -ℤ t *ℤ y ≡ k *ℤ a -ℤ l *ℤ b
    → pos 0 <ℤ (neg_ℤ t *ℤ y +ℤ s *ℤ x) → pos 0 <ℤ a → pos 0 <ℤ b → k ≤ℤ pos 0 → pos 0 ≤ℤ l → ⊥
not_positive s t x y k a l b e h ha hb hk hl =
    let p = mul-nonneg_ℤ {a = neg_ℤ k} {b = a} (omega (arith, ints)) (weak ha) in
    let q = mul-nonneg_ℤ {a = l} {b = b} hl (weak hb) in
    omega (arith, ints, neg-mul_ℤ t y, neg-mul_ℤ k a)

open_from_right : (a b p q : Fraction) → bracket a b p <ℤ pos 0 → ((y : Fraction)
    → TwoWeights IsNotNegative q p y → TwoWeights IsNotNegative a b y → IsSame y p) → IsOpen a b p q
open_from_right a b p q right free = go (lt_or_ge_ℤ (bracket a b q) (pos 0))
  where
    met : pos 0 ≤ℤ bracket a b q → Sign (bracket q p a) → Sign (bracket q p b) → IsOpen a b p q
    met left = cases
      where
        positive : pos 0 <ℤ (neg_ℤ (bracket a b p) *ℤ q.w +ℤ bracket a b q *ℤ p.w)
        positive = mix_positive (neg_ℤ (bracket a b p)) (bracket a b q) q.w p.w
            (neg-pos_ℤ right) left q.positive p.positive

        meets : bracket q p a ≤ℤ pos 0 → pos 0 ≤ℤ bracket q p b → IsOpen a b p q
        meets ha hb =
            let y = mixed (neg_ℤ (bracket a b p)) q (bracket a b q) p positive in
            let same : IsSame y p = free y
            (record {
              k = neg_ℤ (bracket a b p);
              l = bracket a b q;
              n = pos 1;
              k_allowed = weak (neg-pos_ℤ right);
              l_allowed = left;
              positive = record { lt = tt };
              x = one_times_sum (neg_ℤ (bracket a b p) *ℤ q.x) (bracket a b q *ℤ p.x);
              y = one_times_sum (neg_ℤ (bracket a b p) *ℤ q.y) (bracket a b q *ℤ p.y);
              w = one_times_sum (neg_ℤ (bracket a b p) *ℤ q.w) (bracket a b q *ℤ p.w);
            })
            (record {
              k = bracket q p b;
              l = neg_ℤ (bracket q p a);
              n = pos 1;
              k_allowed = hb;
              l_allowed = negated_not_negative ha;
              positive = record { lt = tt };
              x = met_sum (bracket a b q) (bracket a b p) p.x q.x (bracket q p b) a.x
                  (bracket q p a) b.x (meeting-x a b p q);
              y = met_sum (bracket a b q) (bracket a b p) p.y q.y (bracket q p b) a.y
                  (bracket q p a) b.y (meeting-y a b p q);
              w = met_sum (bracket a b q) (bracket a b p) p.w q.w (bracket q p b) a.w
                  (bracket q p a) b.w (meeting-w a b p q);
            }) in
            let on : bracket a b y ≡ pos 0 = bracket-mixed a b (neg_ℤ (bracket a b p)) q
            (bracket a b q) p positive ∙ balanced (bracket a b q) (bracket a b p) in
            absurd (right_not_zero right (zero_of_mul-zero_ℤ {k = y.w} {x = bracket a b p}
            (pos-ne-zero_ℤ positive) (sym (same_bracket a b y p same) ∙ zero-mul_ℤ p.w on)))

        cannot : pos 0 ≤ℤ bracket q p a → bracket q p b ≤ℤ pos 0 → IsOpen a b p q
        cannot ha hb = absurd (not_positive (bracket a b q) (bracket a b p) p.w q.w (bracket q p b)
            a.w (bracket q p a) b.w (meeting-w a b p q) positive a.positive b.positive hb ha)

        cases : Sign (bracket q p a) → Sign (bracket q p b) → IsOpen a b p q
        cases (below h) (below k) = past_right h k
        cases (above h) (above k) = past_left h k
        cases (below h) (none k) = meets (weak_right h) (zero_weak_left k)
        cases (below h) (above k) = meets (weak_right h) (weak k)
        cases (none h) (none k) = meets (zero_weak h) (zero_weak_left k)
        cases (none h) (above k) = meets (zero_weak h) (weak k)
        cases (none h) (below k) = cannot (zero_weak_left h) (weak_right k)
        cases (above h) (none k) = cannot (weak h) (zero_weak k)
        cases (above h) (below k) = cannot (weak h) (weak_right k)

    go : (bracket a b q <ℤ pos 0) ⊎ (pos 0 ≤ℤ bracket a b q) → IsOpen a b p q
    go (inl h) = both_right right h
    go (inr h) = met h (sign (bracket q p a)) (sign (bracket q p b))

-- weights that make p a mean of a and b make it one of b and a
pub swapped_weights : (a b p : Fraction) → TwoWeights IsNotNegative a b p
    → TwoWeights IsNotNegative b a p
swapped_weights a b p t = record {
  k = t.l;
  l = t.k;
  n = t.n;
  k_allowed = t.l_allowed;
  l_allowed = t.k_allowed;
  positive = t.positive;
  x = swapped_sum _ (t.k *ℤ a.x) (t.l *ℤ b.x) t.x;
  y = swapped_sum _ (t.k *ℤ a.y) (t.l *ℤ b.y) t.y;
  w = swapped_sum _ (t.k *ℤ a.w) (t.l *ℤ b.w) t.w;
}

-- a segment that meets the way from q to p in p alone does not hide p
pub open_if_free : (a b p q : Fraction) → ((y : Fraction) → TwoWeights IsNotNegative q p y
    → TwoWeights IsNotNegative a b y → IsSame y p) → IsOpen a b p q
open_if_free a b p q free = go (sign (bracket a b p))
  where
    go : Sign (bracket a b p) → IsOpen a b p q
    go (below h) = open_from_right a b p q h free
    go (none h) = on_line h
    go (above h) = open-swapped b a p q (open_from_right b a p q (swapped_below a b p h)
        (λ y i j. free y i (swapped_weights b a y j)))

-- ---- a list of segments that do not hide p from q: lines that keep it so
-- none of the listed segments hides p from q
abbrev pub AllOpen : (ℕ → Fraction) → List (ℕ × ℕ) → Fraction → Fraction → Type 0
AllOpen at cs p q = (i j : ℕ) → Member (i, j) cs → IsOpen (at i) (at j) p q

turned_to_back : (q p a : Fraction) → pos 0 <ℤ bracket p a q → pos 0 <ℤ bracket q p a
turned_to_back q p a h = subst (λ t. pos 0 <ℤ t) (bracket-turned q p a) h

front_right : (q p a : Fraction) → bracket q p a <ℤ pos 0 → pos 0 <ℤ bracket a p q
front_right q p a h = let e = bracket-turned q p a in let f = bracket-swapped p a q in
    omega (arith, ints)

back_right : (q p a : Fraction) → pos 0 <ℤ bracket a p q → bracket q p a <ℤ pos 0
back_right q p a h = let e = bracket-turned q p a in let f = bracket-swapped p a q in
    omega (arith, ints)

-- q is left of some lines, and the segments hide p from no point that is left of all of them
pub record Keeps (at : ℕ → Fraction) (cs : List (ℕ × ℕ)) (p q : Fraction) : Type 0 where
  pub lines : List (Fraction × Fraction)
  pub left : AllLeft lines q
  pub keep : (q' : Fraction) → AllLeft lines q' → AllOpen at cs p q'

-- where no segment of the list hides p from q, there are lines that keep it so
pub keeps : (at : ℕ → Fraction) (cs : List (ℕ × ℕ)) (p q : Fraction) → AllOpen at cs p q
    → Keeps at cs p q
keeps at [] p q h = record { lines = []; left = tt; keep = λ q' l i j m. absurd m }
keeps at (s ∷ cs) p q h = go (keeps at cs p q (λ i j m. h i j (inr m))) (h s.0 s.1 (inl refl))
  where
    both : (q' : Fraction) → IsOpen (at s.0) (at s.1) p q' → AllOpen at cs p q'
        → AllOpen at (s ∷ cs) p q'
    both q' first others i j (inl e) =
        subst₂ (λ i j. IsOpen (at i) (at j) p q') (ap (λ t. t.0) e) (ap (λ t. t.1) e) first
    both q' first others i j (inr m) = others i j m

    go : Keeps at cs p q → IsOpen (at s.0) (at s.1) p q → Keeps at (s ∷ cs) p q
    go k (on_line e) =
        record { lines = k.lines; left = k.left; keep = λ q' l. both q' (on_line e) (k.keep q' l) }
    go k (both_left e f) = record {
      lines = (at s.0, at s.1) ∷ k.lines;
      left = (f, k.left);
      keep = λ q' l. both q' (both_left e l.0) (k.keep q' l.1);
    }
    go k (both_right e f) = record {
      lines = (at s.1, at s.0) ∷ k.lines;
      left = (swapped_above (at s.0) (at s.1) q f, k.left);
      keep =
          λ q' l. both q' (both_right e (swapped_below (at s.1) (at s.0) q' l.0)) (k.keep q' l.1);
    }
    go k (past_left e f) = record {
      lines = (p, at s.0) ∷ (p, at s.1) ∷ k.lines;
      left = (turned-above q p (at s.0) e, (turned-above q p (at s.1) f, k.left));
      keep = λ q' l. both q' (past_left (turned_to_back q' p (at s.0) l.0)
          (turned_to_back q' p (at s.1) l.1.0)) (k.keep q' l.1.1);
    }
    go k (past_right e f) = record {
      lines = (at s.0, p) ∷ (at s.1, p) ∷ k.lines;
      left = (front_right q p (at s.0) e, (front_right q p (at s.1) f, k.left));
      keep = λ q' l. both q' (past_right (back_right q' p (at s.0) l.0)
          (back_right q' p (at s.1) l.1.0)) (k.keep q' l.1.1);
    }
