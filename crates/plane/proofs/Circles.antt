-- The circle of a left-turning triple as the sign of a determinant: that of the corners and the
-- point, each with its squared length.
-- Notions: height, heightᵖ, incircleᵖ; incircle, incircle-turn, incircle-exchange,
-- incircle-opposite, incircle-flipped, incircle-first, incircle-second, incircle-third,
-- incircle-across, inside_is_incircle, far_if_carried, on_is_incircle, inside_is_determinant,
-- on_is_determinant, incircle-from_first.
use lib.IntN.{ℤ, pos, ◌+ℤ◌, ◌-ℤ◌, ◌*ℤ◌, neg_ℤ}
use lib.Signed.{◌<ℤ◌}
use mathlib.Core.Path.{◌≡◌, refl, sym, ◌∙◌, ap, subst}
use mathlib.Core.Logic.{◌↔◌}
use mathlib.Core.List.{[], ◌∷◌}
use native.Mathlib.Omega.{arith}
use borrow.Author.Differences.{ints}
use Rattle.plane.specs.{AreEquallyFar, Fraction, gap, InsideCircle, IsSame, lifted_determinant}
use Rattle.plane.specs.{OnCircle, Point, squared_vector, TurnsLeft, whole}
use Rattle.plane.proofs.Bracket.{bracket, bracketᵖ, lift, liftᵖ as wholeᵖ, points, Pointᵖ, Vec3}
use Rattle.plane.proofs.{Bracket.vec3, Bracket.Vec3ᵖ, Centre.over, Centre.overᵖ, Centre.scaled_gap}
use Rattle.plane.proofs.Centre.{centre, centre_is_centre, centre_is_only, gaps, inside_is, lifted}
use Rattle.plane.proofs.IntegerOrder.{mul-pos_ℤ, mul_cancel_ℤ, pos-ne-zero_ℤ, pos_of_mul-pos_ℤ}
use Rattle.plane.proofs.IntegerOrder.{zero_from_ℤ}
use Rattle.plane.proofs.Solver.{◌⊕◌, ◌⊖◌, ◌⊗◌, num, Poly, ring_in, ring_over, ⊝}

-- the squared length, of a point whose weight is 1
abbrev pub height : Vec3 → ℤ
height p = p.x *ℤ p.x +ℤ p.y *ℤ p.y

-- the same in the solver's syntax
abbrev pub heightᵖ : Vec3ᵖ → Poly
heightᵖ p = p.x ⊗ p.x ⊕ p.y ⊗ p.y

-- how far the plane through the lifted corners a b c is above the lifted point d, times the bracket
unfoldable pub incircle : Vec3 → Vec3 → Vec3 → Vec3 → ℤ
unfolding bracket
incircle a b c d = bracket b c d *ℤ height a +ℤ bracket c a d *ℤ height b +ℤ bracket a b d
    *ℤ height c -ℤ bracket a b c *ℤ height d

-- the same in the solver's syntax
abbrev pub incircleᵖ : Vec3ᵖ → Vec3ᵖ → Vec3ᵖ → Vec3ᵖ → Poly
incircleᵖ a b c d = bracketᵖ b c d ⊗ heightᵖ a ⊕ bracketᵖ c a d ⊗ heightᵖ b ⊕ bracketᵖ a b d
    ⊗ heightᵖ c ⊖ bracketᵖ a b c ⊗ heightᵖ d

-- ---- identities
-- the corners turned
pub incircle-turn : (a b c d : Vec3) → incircle b c a d ≡ incircle a b c d
unfolding incircle
incircle-turn a b c d =
    ring_over vec3 [] (a ∷ b ∷ c ∷ d ∷ []) (λ a b c d. incircleᵖ b c a d) incircleᵖ tt

-- one question for both faces at an edge
pub incircle-exchange : (a b c d : Vec3) → incircle b a d c ≡ incircle a b c d
unfolding incircle
incircle-exchange a b c d =
    ring_over vec3 [] (a ∷ b ∷ c ∷ d ∷ []) (λ a b c d. incircleᵖ b a d c) incircleᵖ tt

-- the opposite corners of a quadrilateral exchanged
pub incircle-opposite : (a b c d : Vec3) → incircle a b c d ≡ incircle c d a b
unfolding incircle
incircle-opposite a b c d =
    ring_over vec3 [] (a ∷ b ∷ c ∷ d ∷ []) incircleᵖ (λ a b c d. incircleᵖ c d a b) tt

-- a quadrilateral turned: the other diagonal
pub incircle-flipped : (a b c d : Vec3) → incircle b c d a ≡ neg_ℤ (incircle a b c d)
unfolding incircle
incircle-flipped a b c d = ring_over vec3 [] (a ∷ b ∷ c ∷ d ∷ []) (λ a b c d. incircleᵖ b c d a)
    (λ a b c d. ⊝ (incircleᵖ a b c d)) tt

-- the circle carries its corners
pub incircle-first : (a b c : Vec3) → incircle a b c a ≡ pos 0
unfolding incircle
incircle-first a b c =
    ring_over vec3 [] (a ∷ b ∷ c ∷ []) (λ a b c. incircleᵖ a b c a) (λ a b c. num 0) tt

-- the second
pub incircle-second : (a b c : Vec3) → incircle a b c b ≡ pos 0
unfolding incircle
incircle-second a b c =
    ring_over vec3 [] (a ∷ b ∷ c ∷ []) (λ a b c. incircleᵖ a b c b) (λ a b c. num 0) tt

-- the third
pub incircle-third : (a b c : Vec3) → incircle a b c c ≡ pos 0
unfolding incircle
incircle-third a b c =
    ring_over vec3 [] (a ∷ b ∷ c ∷ []) (λ a b c. incircleᵖ a b c c) (λ a b c. num 0) tt

-- the circles of two triples at the edge a b
pub incircle-across : (a b c d p : Vec3) → bracket b a d *ℤ incircle a b c p
    ≡ bracket a b c *ℤ incircle b a d p +ℤ bracket b a p *ℤ incircle a b c d
unfolding incircle bracket
incircle-across a b c d p =
    ring_over vec3 [] (a ∷ b ∷ c ∷ d ∷ p ∷ []) (λ a b c d p. bracketᵖ b a d ⊗ incircleᵖ a b c p)
    (λ a b c d p. bracketᵖ a b c ⊗ incircleᵖ b a d p ⊕ bracketᵖ b a p ⊗ incircleᵖ a b c d) tt

-- ---- the definition of the circle
abbrev liftedᵖ : Pointᵖ → Pointᵖ → Poly
liftedᵖ u p = (p.x ⊗ p.x ⊕ p.y ⊗ p.y) ⊖ (u.x ⊗ u.x ⊕ u.y ⊗ u.y)

abbrev centreᵖ : Pointᵖ → Pointᵖ → Pointᵖ → Vec3ᵖ
centreᵖ u p q = record {
  x = liftedᵖ u p ⊗ overᵖ p.y q.y ⊖ liftedᵖ p q ⊗ overᵖ u.y p.y;
  y = overᵖ u.x p.x ⊗ liftedᵖ p q ⊖ overᵖ p.x q.x ⊗ liftedᵖ u p;
  w = overᵖ u.x p.x ⊗ overᵖ p.y q.y ⊖ overᵖ p.x q.x ⊗ overᵖ u.y p.y;
}

module _ (u p q : Point) (turns : TurnsLeft (whole u) (whole p) (whole q)) where
  abbrev heart : Fraction
  heart = centre u p q turns

  -- where a point lies to the line of points equally far from u and r, at the centre
  line_at_centre : (r : Point) → over u.x r.x *ℤ heart.x +ℤ over u.y r.y *ℤ heart.y -ℤ lifted u r
      *ℤ heart.w ≡ pos 4 *ℤ incircle (lift u) (lift p) (lift q) (lift r)
  unfolding incircle bracket
  line_at_centre r = ring_over points [] (u ∷ p ∷ q ∷ r ∷ [])
      (λ u p q r. overᵖ u.x r.x ⊗ (centreᵖ u p q).x ⊕ overᵖ u.y r.y ⊗ (centreᵖ u p q).y
      ⊖ liftedᵖ u r ⊗ (centreᵖ u p q).w)
      (λ u p q r. num 4 ⊗ incircleᵖ (wholeᵖ u) (wholeᵖ p) (wholeᵖ q) (wholeᵖ r)) tt

  gaps_differ : (r : Point) → gap heart (whole u) *ℤ (pos 1 *ℤ pos 1) -ℤ gap heart (whole r)
      *ℤ (pos 1 *ℤ pos 1) ≡ heart.w *ℤ (pos 4 *ℤ incircle (lift u) (lift p) (lift q) (lift r))
  gaps_differ r = gaps heart u r ∙ ap (λ t. heart.w *ℤ t) (line_at_centre r)

four_times : (w l : ℤ) → w *ℤ (pos 4 *ℤ l) ≡ pos 4 *ℤ (w *ℤ l)
four_times w l = ring_in (w ∷ l ∷ []) (λ w l. w ⊗ (num 4 ⊗ l)) (λ w l. num 4 ⊗ (w ⊗ l)) tt

nearer_if_above : (a b w l : ℤ) → a -ℤ b ≡ w *ℤ (pos 4 *ℤ l) → pos 0 <ℤ w → pos 0 <ℤ l → b <ℤ a
nearer_if_above a b w l e h k =
    let p : pos 0 <ℤ (w *ℤ l) = mul-pos_ℤ h k in omega (arith, ints, four_times w l)

above_if_nearer : (a b w l : ℤ) → a -ℤ b ≡ w *ℤ (pos 4 *ℤ l) → pos 0 <ℤ w → b <ℤ a → pos 0 <ℤ l
above_if_nearer a b w l e h k =
    pos_of_mul-pos_ℤ {k = w} {x = l} h (omega (arith, ints, four_times w l))

zero_if_far : (a b w l : ℤ) → a -ℤ b ≡ w *ℤ (pos 4 *ℤ l) → b ≡ a → pos 0 <ℤ w → l ≡ pos 0
zero_if_far a b w l e h k = zero_from_ℤ {k = w} {x = l} {y = pos 0}
    (omega (arith, ints, four_times w l)) (pos-ne-zero_ℤ k) refl

far_if_zero : (a b w l : ℤ) → a -ℤ b ≡ w *ℤ (pos 4 *ℤ l) → l ≡ pos 0 → b ≡ a
far_if_zero a b w l e h = let z : w *ℤ l ≡ w *ℤ pos 0 = ap (λ t. w *ℤ t) h in
    omega (arith, ints, four_times w l)

far_same : (z z' p q : Fraction) → IsSame z z' → AreEquallyFar z p q → AreEquallyFar z' p q
far_same z z' p q e h = record {
  far = mul_cancel_ℤ {k = z.w *ℤ z.w} {x = gap z' p *ℤ (q.w *ℤ q.w)} {y = gap z' q *ℤ (p.w *ℤ p.w)}
      (pos-ne-zero_ℤ (mul-pos_ℤ z.positive z.positive))
      (sym (scaled_gap z z' p q e) ∙ ap (λ t. (z'.w *ℤ z'.w) *ℤ t) h.far ∙ scaled_gap z z' q p e);
}

-- inside: the determinant is positive
pub inside_is_incircle : (u p q r : Point) → TurnsLeft (whole u) (whole p) (whole q)
    → InsideCircle (whole u) (whole p) (whole q) (whole r)
    ↔ (pos 0 <ℤ incircle (lift u) (lift p) (lift q) (lift r))
inside_is_incircle u p q r turns = (
  (λ s. above_if_nearer _ _ (centre u p q turns).w _ (gaps_differ u p q turns r)
      (centre u p q turns).positive ((inside_is u p q r turns).0 s).nearer),
  (λ h. (inside_is u p q r turns).1 (record {
    nearer = nearer_if_above _ _ (centre u p q turns).w _ (gaps_differ u p q turns r)
        (centre u p q turns).positive h;
  })),
)

-- what the circle carries is as far from the centre as the first corner
pub far_if_carried : (u p q r : Point) (turns : TurnsLeft (whole u) (whole p) (whole q))
    → incircle (lift u) (lift p) (lift q) (lift r) ≡ pos 0
    → AreEquallyFar (centre u p q turns) (whole r) (whole u)
far_if_carried u p q r turns h =
    record { far = far_if_zero _ _ (centre u p q turns).w _ (gaps_differ u p q turns r) h }

-- carried: the determinant is 0
pub on_is_incircle : (u p q r : Point) → TurnsLeft (whole u) (whole p) (whole q)
    → OnCircle (whole u) (whole p) (whole q) (whole r)
    ↔ (incircle (lift u) (lift p) (lift q) (lift r) ≡ pos 0)
on_is_incircle u p q r turns = (
  (λ s. zero_if_far _ _ (centre u p q turns).w _ (gaps_differ u p q turns r)
      (far_same s.centre (centre u p q turns) (whole r) (whole u)
      (centre_is_only u p q turns s.centre s.is_centre) s.far).far (centre u p q turns).positive),
  (λ h. record {
    centre = centre u p q turns;
    is_centre = centre_is_centre u p q turns;
    far = far_if_carried u p q r turns h;
  }),
)

-- ---- the determinant as it is usually written
abbrev squaredᵖ : Pointᵖ → Pointᵖ → Poly
squaredᵖ q p = (p.x ⊖ q.x) ⊗ (p.x ⊖ q.x) ⊕ (p.y ⊖ q.y) ⊗ (p.y ⊖ q.y)

abbrev turnᵖ : Pointᵖ → Pointᵖ → Pointᵖ → Poly
turnᵖ q u v = (u.x ⊖ q.x) ⊗ (v.y ⊖ q.y) ⊖ (u.y ⊖ q.y) ⊗ (v.x ⊖ q.x)

-- both determinants are one
determinant_is_incircle : (u v p q : Point)
    → lifted_determinant u v p q ≡ incircle (lift u) (lift v) (lift p) (lift q)
unfolding incircle bracket
determinant_is_incircle u v p q = ring_over points [] (u ∷ v ∷ p ∷ q ∷ [])
    (λ u v p q. squaredᵖ q u ⊗ turnᵖ q v p ⊕ squaredᵖ q v ⊗ turnᵖ q p u ⊕ squaredᵖ q p
    ⊗ turnᵖ q u v)
    (λ u v p q. incircleᵖ (wholeᵖ u) (wholeᵖ v) (wholeᵖ p) (wholeᵖ q)) tt

-- inside: it is positive
pub inside_is_determinant : (u v p q : Point) → TurnsLeft (whole u) (whole v) (whole p)
    → InsideCircle (whole u) (whole v) (whole p) (whole q) ↔ (pos 0 <ℤ lifted_determinant u v p q)
inside_is_determinant u v p q turns =
    let e = determinant_is_incircle u v p q in let i = inside_is_incircle u v p q turns in
    ((λ s. subst (λ z. pos 0 <ℤ z) (sym e) (i.0 s)), (λ h. i.1 (subst (λ z. pos 0 <ℤ z) e h)))

-- carried: it is 0
pub on_is_determinant : (u v p q : Point) → TurnsLeft (whole u) (whole v) (whole p)
    → OnCircle (whole u) (whole v) (whole p) (whole q) ↔ (lifted_determinant u v p q ≡ pos 0)
on_is_determinant u v p q turns =
    let e = determinant_is_incircle u v p q in let i = on_is_incircle u v p q turns in
    ((λ s. e ∙ i.0 s), (λ h. i.1 (sym e ∙ h)))

-- read from the first corner
pub incircle-from_first : (a b c d : Point) → incircle (lift a) (lift b) (lift c) (lift d)
    ≡ bracket (lift a) (lift d) (lift c) *ℤ squared_vector a b +ℤ bracket (lift a) (lift b) (lift d)
    *ℤ squared_vector a c -ℤ bracket (lift a) (lift b) (lift c) *ℤ squared_vector a d
unfolding incircle bracket
incircle-from_first a b c d = ring_over points [] (a ∷ b ∷ c ∷ d ∷ [])
    (λ a b c d. incircleᵖ (wholeᵖ a) (wholeᵖ b) (wholeᵖ c) (wholeᵖ d))
    (λ a b c d. bracketᵖ (wholeᵖ a) (wholeᵖ d) (wholeᵖ c) ⊗ squaredᵖ a b
    ⊕ bracketᵖ (wholeᵖ a) (wholeᵖ b) (wholeᵖ d) ⊗ squaredᵖ a c
    ⊖ bracketᵖ (wholeᵖ a) (wholeᵖ b) (wholeᵖ c) ⊗ squaredᵖ a d) tt
