-- The rules of a table as one test of all its places, and what the test shows at each.
-- Notions: all_below, same_side, SidesAreTrue, CirclesAreTrue; all_below_at, side_agrees,
-- sides_agree, circle_agrees, circles_agree, sides_true, circles_true.
use Rattle.std.proofs.Common.{◌≡◌, ◌<◌, ◌&&◌, ◌↔◌, ◌∙◌}
use Rattle.std.proofs.Common.{ℕ, zero, suc, Bool, true, false, cond, List, length, refl, arith, inl}
use Rattle.std.proofs.Common.{inr, IsTrue, sym}
use Rattle.std.specs.Prelude.{pos, int_lt}
use Rattle.std.proofs.lemmas.Bool.{and_parts, cases_eq}
use Rattle.std.specs.Bool.{beq}
use Rattle.plane.specs.{InsideCircle, left, lifted_determinant, on, right, Side, side, TurnsLeft}
use Rattle.plane.specs.{whole}
use Rattle.plane.proofs.{inside_is_determinant, less_by_test, test_true}
use Rattle.triangulate_run.specs.{Circle, point_in, Points.is_site_in, SheetPoint}
use Rattle.triangulate_run.specs.Table.{is_inside_in, is_left_in, side_in}

-- the test of all numbers below a bound by one test
abbrev pub all_below : (ℕ → Bool) → ℕ → Bool
all_below f zero = true
all_below f (suc n) = f n && all_below f n

-- a test that all numbers below a bound pass is passed by each of them
pub all_below_at : (f : ℕ → Bool) (n i : ℕ) → all_below f n ≡ true → i < n → f i ≡ true
all_below_at f zero i e h = absurd (omega arith)
all_below_at f (suc n) i e h =
    let both = and_parts (f n) (all_below f n) e in
    elim (cases_eq i n) [
      | inl same ↦ rw same both.0
      | inr other ↦ let le : i < n = omega arith in all_below_at f n i both.1 le
    ]

-- the test whether two sides are the same
abbrev pub same_side : Side → Side → Bool
same_side left left = true
same_side right right = true
same_side on on = true
same_side _ _ = false

same_side-true : (a b : Side) → same_side a b ≡ true → a ≡ b
same_side-true left left e = refl
same_side-true left right e = cc
same_side-true left on e = cc
same_side-true right left e = cc
same_side-true right right e = refl
same_side-true right on e = cc
same_side-true on left e = cc
same_side-true on right e = cc
same_side-true on on e = refl

beq-true : (a b : Bool) → beq a b ≡ true → a ≡ b
beq-true true true e = refl
beq-true true false e = cc
beq-true false true e = cc
beq-true false false e = refl

if_yes : (b c : Bool) → cond b c true ≡ true → b ≡ true → c ≡ true
if_yes true c e h = e
if_yes false c e h = cc

listed_if_left : (b c : Bool) → (cond b left (cond c right on)) ≡ left → b ≡ true
listed_if_left true c e = refl
listed_if_left false true e = cc
listed_if_left false false e = cc

module _ (ps : List SheetPoint) (cs : List Circle) where
  -- the test of the side at a triple of points
  unfoldable pub side_agrees : ℕ → ℕ → ℕ → Bool
  side_agrees i j k = same_side (side_in cs i j k)
      (side (whole (point_in ps i)) (whole (point_in ps j)) (whole (point_in ps k)))

  -- the test at all triples of points
  unfoldable pub sides_agree : Bool
  sides_agree = all_below
      (λ i. all_below (λ j. all_below (λ k. side_agrees i j k) (length ps)) (length ps)) (length ps)

  -- at a listed triple of sites
  unfoldable pub circle_agrees : ℕ → ℕ → ℕ → ℕ → Bool
  circle_agrees i j k l = cond (is_site_in ps l) (beq (is_inside_in cs i j k l) (int_lt (pos 0)
      (lifted_determinant (point_in ps i) (point_in ps j) (point_in ps k) (point_in ps l)))) true

  -- the test at all listed triples of sites, with each fourth site
  unfoldable pub circles_agree : Bool
  circles_agree = all_below (λ i. all_below (λ j. all_below (λ k.
      cond (is_left_in cs i j k) (cond (is_site_in ps i) (cond (is_site_in ps j)
      (cond (is_site_in ps k) (all_below (λ l. circle_agrees i j k l) (length ps)) true) true)
      true) true) (length ps)) (length ps)) (length ps)

  -- the tables' answers are those of the plane
  abbrev pub SidesAreTrue : Type 0
  SidesAreTrue = (i j k : ℕ) → i < length ps → j < length ps → k < length ps → side_in cs i j k
      ≡ side (whole (point_in ps i)) (whole (point_in ps j)) (whole (point_in ps k))

  -- so are those for circles through sites that turn left
  abbrev pub CirclesAreTrue : Type 0
  CirclesAreTrue = (i j k l : ℕ) → i < length ps → j < length ps → k < length ps → l < length ps
      → is_site_in ps i ≡ true → is_site_in ps j ≡ true → is_site_in ps k ≡ true
      → is_site_in ps l ≡ true
      → TurnsLeft (whole (point_in ps i)) (whole (point_in ps j)) (whole (point_in ps k))
      → IsTrue (is_inside_in cs i j k l) ↔ InsideCircle (whole (point_in ps i))
      (whole (point_in ps j)) (whole (point_in ps k)) (whole (point_in ps l))

  -- where the test holds at all triples, the sides are true
  pub sides_true : sides_agree ≡ true → SidesAreTrue
  unfolding sides_agree side_agrees
  sides_true e i j k hi hj hk =
      same_side-true _ _ (all_below_at (λ k. side_agrees i j k) (length ps) k
      (all_below_at (λ j. all_below (λ k. side_agrees i j k) (length ps)) (length ps) j
      (all_below_at (λ i. all_below (λ j. all_below (λ k. side_agrees i j k) (length ps))
      (length ps)) (length ps) i e hi) hj) hk)

  -- where they are, and the other test holds, the circles are true
  pub circles_true : SidesAreTrue → circles_agree ≡ true → CirclesAreTrue
  unfolding circles_agree circle_agrees
  circles_true sides e i j k l hi hj hk hl si sj sk sl turns =
      let listed = listed_if_left (is_left_in cs i j k) (is_left_in cs i k j)
      (sides i j k hi hj hk ∙ turns) in
      let at_k = all_below_at _ (length ps) k
      (all_below_at _ (length ps) j (all_below_at _ (length ps) i e hi) hj) hk in
      let at_l = all_below_at (λ l. circle_agrees i j k l) (length ps) l
      (if_yes _ _ (if_yes _ _ (if_yes _ _ (if_yes _ _ at_k listed) si) sj) sk) hl in
      let answer = beq-true _ _ (if_yes _ _ at_l sl) in
      let inside = inside_is_determinant (point_in ps i) (point_in ps j) (point_in ps k)
      (point_in ps l) turns in
      (λ h. inside.1 (less_by_test _ _ (sym answer ∙ h)), λ h. answer ∙ test_true _ _ (inside.0 h))
