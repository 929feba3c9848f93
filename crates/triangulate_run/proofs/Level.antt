-- Points of the line y = 0: a table without triples is true of them.
-- Lemmas: are_level, level_sides_true, level_circles_true.
use Rattle.std.proofs.Common.{◌≡◌, ℕ, ◌<◌, Bool, true, List, [], ◌∷◌, length, sym}
use Rattle.std.specs.Prelude.{pos}
use Rattle.std.specs.Ordering.{int_eq}
use Rattle.std.proofs.lemmas.Bool.Decides.{Decides-int_eq}
use Rattle.plane.specs.{on, Point, side, whole}
use Rattle.plane.proofs.{bracket, bracketᵖ, lift, liftᵖ, num, on_if, ring_in}
use Rattle.triangulate_run.specs.{point_in, SheetPoint}
use Rattle.triangulate_run.proofs.Rule.{all_below, all_below_at, CirclesAreTrue, SidesAreTrue}

-- the test whether each point of a list has y = 0
unfoldable pub are_level : List SheetPoint → Bool
are_level ps = all_below (λ i. int_eq (point_in ps i).y (pos 0)) (length ps)

level_at : (ps : List SheetPoint) → are_level ps ≡ true → (i : ℕ) → i < length ps
    → (point_in ps i).y ≡ pos 0
unfolding are_level
level_at ps e i h = (Decides-int_eq (point_in ps i).y (pos 0)).0
    (all_below_at (λ i. int_eq (point_in ps i).y (pos 0)) (length ps) i e h)

level_bracket : (u v p : Point) → u.y ≡ pos 0 → v.y ≡ pos 0 → p.y ≡ pos 0
    → bracket (lift u) (lift v) (lift p) ≡ pos 0
unfolding bracket
level_bracket u v p e f g = rw (e, f, g) (ring_in (u.x ∷ v.x ∷ p.x ∷ [])
    (λ a b c. bracketᵖ (liftᵖ (record { x = a; y = num 0 })) (liftᵖ (record { x = b; y = num 0 }))
    (liftᵖ (record { x = c; y = num 0 }))) (λ a b c. num 0) tt)

module _ (ps : List SheetPoint) (level : are_level ps ≡ true) where
  level_side : (i j k : ℕ) → i < length ps → j < length ps → k < length ps
      → side (whole (point_in ps i)) (whole (point_in ps j)) (whole (point_in ps k)) ≡ on
  level_side i j k hi hj hk =
      on_if (whole (point_in ps i)) (whole (point_in ps j)) (whole (point_in ps k))
      (level_bracket (point_in ps i) (point_in ps j) (point_in ps k) (level_at ps level i hi)
      (level_at ps level j hj) (level_at ps level k hk))

  -- where all points have y = 0, a table without triples tells their sides
  pub level_sides_true : SidesAreTrue ps []
  level_sides_true i j k hi hj hk = sym (level_side i j k hi hj hk)

  -- no triple turns left
  pub level_circles_true : CirclesAreTrue ps []
  level_circles_true i j k l hi hj hk hl si sj sk sl turns =
      absurd (let e = level_side i j k hi hj hk in cc)
