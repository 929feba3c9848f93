-- The identities of the bracket, each once.
-- bracket-turn: the bracket stays as its three vectors rotate
-- bracket-swap: it changes its sign where the first two change places
-- bracket-same, bracket-last, bracket-outer: it is 0 where the first two are equal, the last two,
--   the first and the last
-- bracket-affine: for points of the code, it is the determinant of the differences from the first
-- bracket-sum: the brackets of the three triangles at d add up to that of the triangle
-- cramer_x, cramer_y, cramer_w: Cramer's rule for each coordinate of p, by the triple a b c
-- cramer: Cramer's rule for the bracket of p with s and t
-- pluecker: the relation between the brackets of five vectors that share the first
use lib.IntN.{ℤ, pos, ◌+ℤ◌, ◌-ℤ◌, ◌*ℤ◌, neg_ℤ}
use mathlib.Core.Path.{◌≡◌}
use mathlib.Core.List.{[], ◌∷◌}
use Rattle.plane.specs.{Point}
use Rattle.plane.proofs.Bracket.{bracket, bracketᵖ, lift, liftᵖ, points, Vec3, vec3, Vec3ᵖ}
use Rattle.plane.proofs.Solver.{◌⊕◌, ◌⊖◌, ◌⊗◌, num, Poly, ring_over, ⊝}

-- ---- antisymmetry
-- exchanging the first two vectors turns the sign
pub bracket-swap : (a b c : Vec3) → bracket a b c ≡ neg_ℤ (bracket b a c)
unfolding bracket
bracket-swap a b c = ring_over vec3 [] (a ∷ b ∷ c ∷ []) bracketᵖ (λ a b c. ⊝ (bracketᵖ b a c)) tt

-- the three points turned
pub bracket-turn : (a b c : Vec3) → bracket a b c ≡ bracket b c a
unfolding bracket
bracket-turn a b c = ring_over vec3 [] (a ∷ b ∷ c ∷ []) bracketᵖ (λ a b c. bracketᵖ b c a) tt

-- two equal arguments
pub bracket-same : (a b : Vec3) → bracket a a b ≡ pos 0
unfolding bracket
bracket-same a b = ring_over vec3 [] (a ∷ b ∷ []) (λ a b. bracketᵖ a a b) (λ a b. num 0) tt

-- the first and the last
pub bracket-outer : (a b : Vec3) → bracket a b a ≡ pos 0
unfolding bracket
bracket-outer a b = ring_over vec3 [] (a ∷ b ∷ []) (λ a b. bracketᵖ a b a) (λ a b. num 0) tt

-- the last two
pub bracket-last : (a b : Vec3) → bracket a b b ≡ pos 0
unfolding bracket
bracket-last a b = ring_over vec3 [] (a ∷ b ∷ []) (λ a b. bracketᵖ a b b) (λ a b. num 0) tt

-- ---- the bracket is linear
-- k times a and m times d
abbrev pub mix : ℤ → Vec3 → ℤ → Vec3 → Vec3
mix k a m d =
    record { x = k *ℤ a.x +ℤ m *ℤ d.x; y = k *ℤ a.y +ℤ m *ℤ d.y; w = k *ℤ a.w +ℤ m *ℤ d.w }

-- the same of polynomials
abbrev mixᵖ : Poly → Vec3ᵖ → Poly → Vec3ᵖ → Vec3ᵖ
mixᵖ k a m d = record { x = k ⊗ a.x ⊕ m ⊗ d.x; y = k ⊗ a.y ⊕ m ⊗ d.y; w = k ⊗ a.w ⊕ m ⊗ d.w }

-- in the last place; turn the bracket for the others
pub bracket-mix : (a b : Vec3) (k : ℤ) (c : Vec3) (m : ℤ) (d : Vec3)
    → bracket a b (mix k c m d) ≡ k *ℤ bracket a b c +ℤ m *ℤ bracket a b d
unfolding bracket
bracket-mix a b k c m d =
    ring_over vec3 (k ∷ m ∷ []) (a ∷ b ∷ c ∷ d ∷ []) (λ k m a b c d. bracketᵖ a b (mixᵖ k c m d))
    (λ k m a b c d. k ⊗ bracketᵖ a b c ⊕ m ⊗ bracketᵖ a b d) tt

-- ---- Cramer's rule: by coordinates, and seen from a line
-- x
pub cramer_x : (a b c p : Vec3)
    → bracket a b c *ℤ p.x ≡ bracket b c p *ℤ a.x +ℤ bracket c a p *ℤ b.x +ℤ bracket a b p *ℤ c.x
unfolding bracket
cramer_x a b c p = ring_over vec3 [] (a ∷ b ∷ c ∷ p ∷ []) (λ a b c p. bracketᵖ a b c ⊗ p.x)
    (λ a b c p. bracketᵖ b c p ⊗ a.x ⊕ bracketᵖ c a p ⊗ b.x ⊕ bracketᵖ a b p ⊗ c.x) tt

-- y
pub cramer_y : (a b c p : Vec3)
    → bracket a b c *ℤ p.y ≡ bracket b c p *ℤ a.y +ℤ bracket c a p *ℤ b.y +ℤ bracket a b p *ℤ c.y
unfolding bracket
cramer_y a b c p = ring_over vec3 [] (a ∷ b ∷ c ∷ p ∷ []) (λ a b c p. bracketᵖ a b c ⊗ p.y)
    (λ a b c p. bracketᵖ b c p ⊗ a.y ⊕ bracketᵖ c a p ⊗ b.y ⊕ bracketᵖ a b p ⊗ c.y) tt

-- the weight
pub cramer_w : (a b c p : Vec3)
    → bracket a b c *ℤ p.w ≡ bracket b c p *ℤ a.w +ℤ bracket c a p *ℤ b.w +ℤ bracket a b p *ℤ c.w
unfolding bracket
cramer_w a b c p = ring_over vec3 [] (a ∷ b ∷ c ∷ p ∷ []) (λ a b c p. bracketᵖ a b c ⊗ p.w)
    (λ a b c p. bracketᵖ b c p ⊗ a.w ⊕ bracketᵖ c a p ⊗ b.w ⊕ bracketᵖ a b p ⊗ c.w) tt

-- seen from the line s t
pub cramer : (a b c p s t : Vec3) → bracket a b c *ℤ bracket s t p ≡ bracket b c p *ℤ bracket s t a
    +ℤ bracket c a p *ℤ bracket s t b +ℤ bracket a b p *ℤ bracket s t c
unfolding bracket
cramer a b c p s t = ring_over vec3 [] (a ∷ b ∷ c ∷ p ∷ s ∷ t ∷ [])
    (λ a b c p s t. bracketᵖ a b c ⊗ bracketᵖ s t p) (λ a b c p s t. bracketᵖ b c p ⊗ bracketᵖ s t a
    ⊕ bracketᵖ c a p ⊗ bracketᵖ s t b ⊕ bracketᵖ a b p ⊗ bracketᵖ s t c) tt

-- ---- Plücker: four directions out of a
-- of five vectors: the relation between brackets that share the first
pub pluecker : (a b c d e : Vec3) → bracket a b c *ℤ bracket a d e -ℤ bracket a b d *ℤ bracket a c e
    +ℤ bracket a b e *ℤ bracket a c d ≡ pos 0
unfolding bracket
pluecker a b c d e =
    ring_over vec3 [] (a ∷ b ∷ c ∷ d ∷ e ∷ []) (λ a b c d e. bracketᵖ a b c ⊗ bracketᵖ a d e
    ⊖ bracketᵖ a b d ⊗ bracketᵖ a c e ⊕ bracketᵖ a b e ⊗ bracketᵖ a c d) (λ a b c d e. num 0) tt

-- rays through q, out of three points: x is a point of the ray
pub rays : (a b c q x : Vec3) → bracket b c q *ℤ bracket x a q +ℤ bracket c a q *ℤ bracket x b q
    +ℤ bracket a b q *ℤ bracket x c q ≡ pos 0
unfolding bracket
rays a b c q x =
    ring_over vec3 [] (a ∷ b ∷ c ∷ q ∷ x ∷ []) (λ a b c q x. bracketᵖ b c q ⊗ bracketᵖ x a q
    ⊕ bracketᵖ c a q ⊗ bracketᵖ x b q ⊕ bracketᵖ a b q ⊗ bracketᵖ x c q) (λ a b c q x. num 0) tt

-- ---- four points are dependent: for a linear form, for the weight, and seen from a line
-- a linear form of a vector's three coordinates
abbrev pub form : ℤ → ℤ → ℤ → Vec3 → ℤ
form l m n p = l *ℤ p.x +ℤ m *ℤ p.y +ℤ n *ℤ p.w

abbrev formᵖ : Poly → Poly → Poly → Vec3ᵖ → Poly
formᵖ l m n p = l ⊗ p.x ⊕ m ⊗ p.y ⊕ n ⊗ p.w

-- for the form l x + m y + n w
pub four_terms : (l m n : ℤ) (a b c d : Vec3) → bracket a b c *ℤ form l m n d -ℤ bracket a b d
    *ℤ form l m n c +ℤ bracket a c d *ℤ form l m n b -ℤ bracket b c d *ℤ form l m n a ≡ pos 0
unfolding bracket
four_terms l m n a b c d = ring_over vec3 (l ∷ m ∷ n ∷ []) (a ∷ b ∷ c ∷ d ∷ [])
    (λ l m n a b c d. bracketᵖ a b c ⊗ formᵖ l m n d ⊖ bracketᵖ a b d ⊗ formᵖ l m n c
    ⊕ bracketᵖ a c d ⊗ formᵖ l m n b ⊖ bracketᵖ b c d ⊗ formᵖ l m n a)
    (λ l m n a b c d. num 0) tt

-- where the line from q to x passes s t, seen from the line u v
pub passing : (u v x s t q : Vec3) → bracket x s q *ℤ bracket u v t -ℤ bracket x t q
    *ℤ bracket u v s ≡ bracket x s t *ℤ bracket u v q -ℤ bracket s t q *ℤ bracket u v x
unfolding bracket
passing u v x s t q = ring_over vec3 [] (u ∷ v ∷ x ∷ s ∷ t ∷ q ∷ [])
    (λ u v x s t q. bracketᵖ x s q ⊗ bracketᵖ u v t ⊖ bracketᵖ x t q ⊗ bracketᵖ u v s)
    (λ u v x s t q. bracketᵖ x s t ⊗ bracketᵖ u v q ⊖ bracketᵖ s t q ⊗ bracketᵖ u v x) tt

-- by x
pub passing_x : (x s t q : Vec3)
    → bracket x s q *ℤ t.x -ℤ bracket x t q *ℤ s.x ≡ bracket x s t *ℤ q.x -ℤ bracket s t q *ℤ x.x
unfolding bracket
passing_x x s t q = ring_over vec3 [] (x ∷ s ∷ t ∷ q ∷ []) (λ x s t q. bracketᵖ x s q ⊗ t.x
    ⊖ bracketᵖ x t q ⊗ s.x) (λ x s t q. bracketᵖ x s t ⊗ q.x ⊖ bracketᵖ s t q ⊗ x.x) tt

-- by y
pub passing_y : (x s t q : Vec3)
    → bracket x s q *ℤ t.y -ℤ bracket x t q *ℤ s.y ≡ bracket x s t *ℤ q.y -ℤ bracket s t q *ℤ x.y
unfolding bracket
passing_y x s t q = ring_over vec3 [] (x ∷ s ∷ t ∷ q ∷ []) (λ x s t q. bracketᵖ x s q ⊗ t.y
    ⊖ bracketᵖ x t q ⊗ s.y) (λ x s t q. bracketᵖ x s t ⊗ q.y ⊖ bracketᵖ s t q ⊗ x.y) tt

-- by the weight
pub passing_w : (x s t q : Vec3)
    → bracket x s q *ℤ t.w -ℤ bracket x t q *ℤ s.w ≡ bracket x s t *ℤ q.w -ℤ bracket s t q *ℤ x.w
unfolding bracket
passing_w x s t q = ring_over vec3 [] (x ∷ s ∷ t ∷ q ∷ []) (λ x s t q. bracketᵖ x s q ⊗ t.w
    ⊖ bracketᵖ x t q ⊗ s.w) (λ x s t q. bracketᵖ x s t ⊗ q.w ⊖ bracketᵖ s t q ⊗ x.w) tt

-- ---- points of the code, whose weight is 1
-- by the ways from the first
pub bracket-affine : (a b c : Point) → bracket (lift a) (lift b) (lift c)
    ≡ (b.x -ℤ a.x) *ℤ (c.y -ℤ a.y) -ℤ (b.y -ℤ a.y) *ℤ (c.x -ℤ a.x)
unfolding bracket
bracket-affine a b c =
    ring_over points [] (a ∷ b ∷ c ∷ []) (λ a b c. bracketᵖ (liftᵖ a) (liftᵖ b) (liftᵖ c))
    (λ a b c. (b.x ⊖ a.x) ⊗ (c.y ⊖ a.y) ⊖ (b.y ⊖ a.y) ⊗ (c.x ⊖ a.x)) tt

-- the three triangles at d make up the triangle
pub bracket-sum : (a b c d : Point) → bracket (lift a) (lift b) (lift c) ≡ bracket (lift b) (lift c)
    (lift d) +ℤ bracket (lift c) (lift a) (lift d) +ℤ bracket (lift a) (lift b) (lift d)
unfolding bracket
bracket-sum a b c d = ring_over points [] (a ∷ b ∷ c ∷ d ∷ [])
    (λ a b c d. bracketᵖ (liftᵖ a) (liftᵖ b) (liftᵖ c)) (λ a b c d. bracketᵖ (liftᵖ b) (liftᵖ c)
    (liftᵖ d) ⊕ bracketᵖ (liftᵖ c) (liftᵖ a) (liftᵖ d) ⊕ bracketᵖ (liftᵖ a) (liftᵖ b) (liftᵖ d)) tt

-- the coordinates of the way from s to t, as brackets
pub bracket_at_x : (s t : Point)
    → bracket (lift s) (lift t) (record { x = pos 1; y = pos 0; w = pos 0 }) ≡ s.y -ℤ t.y
unfolding bracket
bracket_at_x s t = ring_over points [] (s ∷ t ∷ []) (λ s t. bracketᵖ (liftᵖ s) (liftᵖ t)
    (record { x = num 1; y = num 0; w = num 0 })) (λ s t. s.y ⊖ t.y) tt

-- the other coordinate
pub bracket_at_y : (s t : Point)
    → bracket (lift s) (lift t) (record { x = pos 0; y = pos 1; w = pos 0 }) ≡ t.x -ℤ s.x
unfolding bracket
bracket_at_y s t = ring_over points [] (s ∷ t ∷ []) (λ s t. bracketᵖ (liftᵖ s) (liftᵖ t)
    (record { x = num 0; y = num 1; w = num 0 })) (λ s t. t.x ⊖ s.x) tt
