-- A new vertex on a constraint splits that one alone, and straight halves can be joined when their
-- vertex goes.
-- Lemmas: split_is_append, straight_halves_join.
use Rattle.std.proofs.Common.{◌≡◌, ◌⊎◌, ℕ, List, refl, sym, ap, ◌∙◌, subst, subst₂}
use mathlib.Core.Logic.{inl, inr}
use Rattle.plane.specs.{Cross, Fraction, IsEdge, IsSame, IsSamePair, IsVertex, Joins, Point}
use Rattle.plane.specs.{Triangulation, vertex, whole, WithinSegment}
use Rattle.plane.proofs.{turned_join, within_segment-same}
use Rattle.plane_theorems.specs.{EdgesMeetAtVertices, point_of}
use Rattle.plane_theorems.specs.Segments.Constraints.{IsHalfOf, SplitIsAppend, StraightHalvesJoin}
use Rattle.plane_theorems.proofs.Segments.Constraints.Parts.{within_parts}
use Rattle.plane_theorems.proofs.{Segments.Crossing.EitherWay.one_point, Tiling.Edges.turned_within}

module _ (t : Triangulation) (old : List (ℕ × ℕ)) (n : ℕ) (q : Point) (meet : EdgesMeetAtVertices t)
    (kept : (a b : ℕ) → Joins old a b → IsEdge t a b) where
  abbrev Carry : ℕ → ℕ → Type 0
  Carry a b = WithinSegment (vertex t a) (vertex t b) (whole q)

  -- a and b are a half of a pair that carries the new vertex
  abbrev Half : ℕ → ℕ → Type 0
  Half a b = IsHalfOf t.points old n q a b

  carry_back : (a b : ℕ) → Carry a b → Carry b a
  carry_back a b h = turned_within (vertex t a) (vertex t b) (whole q) h

  -- the pair that carries the new vertex is one
  one_pair : (i j a b : ℕ) → Joins old i j → Carry i j → Joins old a b → Carry a b
      → IsSamePair a b i j
  one_pair i j a b e h f k = meet.1 i j a b (kept i j e) (kept a b f) (whole q) h k

  module _ (i j : ℕ) (e : Joins old i j) (h : Carry i j) where
    carried : (a b : ℕ) → IsSamePair a b i j → Carry a b
    carried a b (inl s) = subst₂ Carry (sym s.0) (sym s.1) h
    carried a b (inr s) = subst₂ Carry (sym s.0) (sym s.1) (carry_back i j h)

    first_half : (a : ℕ) → a ≡ i → Half a n
    first_half a s =
        (refl, (j, subst (λ c. Joins old c j) (sym s) e, subst (λ c. Carry c j) (sym s) h))

    second_half : (a : ℕ) → a ≡ j → Half a n
    second_half a s = (
      refl,
      (
        i,
        subst (λ c. Joins old c i) (sym s) (turned_join old i j e),
        subst (λ c. Carry c i) (sym s) (carry_back i j h),
      ),
    )

    forth : (a b : ℕ)
        → (Joins old a b × ¬ IsSamePair a b i j) ⊎ (IsSamePair a b i n ⊎ IsSamePair a b n j)
        → (Joins old a b × ¬ Carry a b) ⊎ (Half a b ⊎ Half b a)
    forth a b (inl k) = inl (k.0, λ c. k.1 (one_pair i j a b e h k.0 c))
    forth a b (inr (inl (inl s))) = inr (inl (subst (Half a) (sym s.1) (first_half a s.0)))
    forth a b (inr (inl (inr s))) = inr (inr (subst (Half b) (sym s.0) (first_half b s.1)))
    forth a b (inr (inr (inl s))) = inr (inr (subst (Half b) (sym s.0) (second_half b s.1)))
    forth a b (inr (inr (inr s))) = inr (inl (subst (Half a) (sym s.1) (second_half a s.0)))

    half_is : (a b : ℕ) → Half a b → ((a ≡ i) × (b ≡ n)) ⊎ ((a ≡ j) × (b ≡ n))
    half_is a b (m, (c, f, k)) =
        elim (one_pair i j a c e h f k) [ inl s ↦ inl (s.0, m) | inr s ↦ inr (s.0, m) ]

    -- what carries nothing, or is a half, is a pair besides i and j, or a half of that one
    back : (a b : ℕ) → (Joins old a b × ¬ Carry a b) ⊎ (Half a b ⊎ Half b a)
        → (Joins old a b × ¬ IsSamePair a b i j) ⊎ (IsSamePair a b i n ⊎ IsSamePair a b n j)
    back a b (inl k) = inl (k.0, λ s. k.1 (carried a b s))
    back a b (inr (inl k)) =
        elim (half_is a b k) [ inl s ↦ inr (inl (inl s)) | inr s ↦ inr (inr (inr s)) ]
    back a b (inr (inr k)) = elim
        (half_is b a k) [ inl s ↦ inr (inl (inr (s.1, s.0))) | inr s ↦ inr (inr (inl (s.1, s.0))) ]

  no_half : ((a b : ℕ) → Joins old a b → ¬ Carry a b) → (a b : ℕ) → ¬ Half a b
  no_half none a b k = none a k.1.0 k.1.1 k.1.2

-- where the pairs are edges, an insert splits the one that carries its point, or leaves all of them
pub split_is_append : SplitIsAppend
split_is_append t old new n q meet kept (inl (i, j, e, h, s)) a b = (
  (λ k. forth t old n q meet kept i j e h a b ((s a b).0 k)),
  (λ k. (s a b).1 (back t old n q meet kept i j e h a b k)),
)
split_is_append t old new n q meet kept (inr (none, s)) a b = (
  (λ k. let o = (s a b).0 k in inl (o, none a b o)),
  (λ k. elim k [
    | inl o ↦ (s a b).1 o.0
    | inr o ↦ absurd (elim o [
      | inl c ↦ no_half t old n q meet kept none a b c
      | inr c ↦ no_half t old n q meet kept none b a c
    ])
  ]),
)

module _ (t : Triangulation) (a b v : ℕ) (meet : EdgesMeetAtVertices t) (hv : IsVertex t v)
    (e : IsEdge t a v) (f : IsEdge t v b)
    (w : WithinSegment (vertex t a) (vertex t b) (vertex t v)) where
  parts : (x : Fraction) → WithinSegment (vertex t a) (vertex t b) x → IsSame x (vertex t v)
      ⊎ (WithinSegment (vertex t a) (vertex t v) x ⊎ WithinSegment (vertex t v) (vertex t b) x)
  parts x h = within_parts (point_of t.points a) (point_of t.points b) (point_of t.points v) x w h

  no_vertex : ((k : ℕ) → IsVertex t k → ¬ (k ≡ v) → ¬ (vertex t k ≡ vertex t v)) → (k : ℕ)
      → IsVertex t k → ¬ (k ≡ v) → ¬ WithinSegment (vertex t a) (vertex t b) (vertex t k)
  no_vertex apart k hk n h = elim (parts (vertex t k) h) [
    | inl s ↦ apart k hk n (ap whole (one_point (point_of t.points k) (point_of t.points v) s))
    | inr o ↦ elim o [ inl i ↦ meet.0 a v k e hk i | inr i ↦ meet.0 v b k f hk i ]
  ]

  at_end : (c d x y : ℕ) → ¬ (c ≡ v) → ¬ (d ≡ v) → IsSamePair c d x y → (x ≡ v) ⊎ (y ≡ v) → ⊥
  at_end c d x y m n (inl s) (inl z) = m (s.0 ∙ z)
  at_end c d x y m n (inl s) (inr z) = n (s.1 ∙ z)
  at_end c d x y m n (inr s) (inl z) = n (s.1 ∙ z)
  at_end c d x y m n (inr s) (inr z) = m (s.0 ∙ z)

  no_crossing : (c d : ℕ) → IsEdge t c d → ¬ (c ≡ v) → ¬ (d ≡ v)
      → ¬ Cross (vertex t a) (vertex t b) (vertex t c) (vertex t d)
  no_crossing c d g m n x = elim (parts x.at x.within_first) [
    | inl s ↦ meet.0 c d v g hv
        (within_segment-same (vertex t c) (vertex t d) x.at (vertex t v) s x.within_second)
    | inr o ↦ elim o [
      | inl i ↦ at_end c d a v m n (meet.1 a v c d e g x.at i x.within_second) (inr refl)
      | inr i ↦ at_end c d v b m n (meet.1 v b c d f g x.at i x.within_second) (inl refl)
    ]
  ]

-- where two edges are straight at v, no other vertex is between their far ends and no other edge
-- crosses
pub straight_halves_join : StraightHalvesJoin
straight_halves_join t a b v meet hv apart e f w = (
  no_vertex t a b v meet hv e f w apart,
  (λ g. meet.0 a b v g hv w),
  no_crossing t a b v meet hv e f w,
)
