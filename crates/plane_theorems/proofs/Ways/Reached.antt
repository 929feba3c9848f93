-- Whoever goes along sides of free faces comes to the corners of each free face that can be seen.
-- Lemmas: seen_is_reached, chain_is_reached.
use Rattle.std.proofs.Common.{◌≡◌, ◌<◌, ℕ, Bool, List, [], ◌∷◌, length, IsTrue, zero, suc}
use Rattle.std.proofs.Common.{arith, refl, sym, ap, subst, ◌∙◌}
use Rattle.std.proofs.lemmas.List.Elements.{Contains-get_or}
use mathlib.Core.Logic.{◌⊎◌, inl, inr}
use Rattle.std.specs.Prelude.{pos, ◌<ℤ◌, ◌≤ℤ◌, ◌+ℤ◌, ◌*ℤ◌, ℤ, sum_by, Contains}
use Rattle.std.proofs.lemmas.Int.{ints}
use Rattle.plane.specs.{Face, face, Fraction, IsFace, OnSegment, TilesHull, Triangulation, vertex}
use Rattle.plane.proofs.{◌⊕◌, ◌⊗◌, index_not_negative, mul-nonneg_ℤ, mul-nonpos_of_nonneg_nonpos_ℤ}
use Rattle.plane.proofs.{mul-pos_ℤ, right_not_above, ring_in_from, start_on_segment, turned_face}
use Rattle.plane.proofs.{weak, weak_right, zero_weak_left}
use Rattle.plane_theorems.specs.{face_at, HasFreeFace, IsInFree, IsInSight}
use Rattle.plane_theorems.proofs.Delaunay.Floods.Flooded.{segment_from, side_of_segment}
use Rattle.plane_theorems.proofs.{Delaunay.Points.Bracket.bracket, Sight.Coverings.nudge_on_segment}
use Rattle.plane_theorems.proofs.Delaunay.Points.Members.{member-le-sum_by}
use Rattle.plane_theorems.proofs.Delaunay.Points.Nudges.{bracket-nudge, Closed, germ_sign, nudge}
use Rattle.plane_theorems.proofs.Delaunay.Points.Nudges.{nudge-on, size}
use Rattle.plane_theorems.proofs.Delaunay.Tilings.Ground.{closed_of, side_listed, sides_of}
use Rattle.plane_theorems.proofs.{Delaunay.Tilings.Meets.OnSide, Tiling.Totals.Contains-none}
use Rattle.plane_theorems.proofs.Tiling.Totals.{Contains-cases, Contains-head, Contains-later}
use Rattle.plane_theorems.proofs.Ways.Exits.{below_along, Exit, exit_of, Leaves}
use Rattle.plane_theorems.proofs.Ways.Together.{AnyMarked, marked_where_shared}

-- ---- near a point of a segment
module _ (t : Triangulation) (h : TilesHull t) where
  abbrev side_size : Fraction → ℕ × ℕ → ℕ
  side_size g s = size (bracket (vertex t s.0) (vertex t s.1) g)

  abbrev enough : Fraction → ℕ
  enough g = suc (sum_by (side_size g) (sides_of t.faces))

  least_near : (x g : Fraction) (i j k : ℕ) → IsFace t i j k
      → pos 0 ≤ℤ bracket (vertex t i) (vertex t j) (nudge (enough g) x g)
      → pos 0 ≤ℤ bracket (vertex t i) (vertex t j) x
  least_near x g i j k f c = go (germ_sign (enough g) (bracket (vertex t i) (vertex t j) x)
      (bracket (vertex t i) (vertex t j) g) below_enough
      (subst (λ s. pos 0 ≤ℤ s) (bracket-nudge (vertex t i) (vertex t j) (enough g) x g) c))
    where
      below_enough : size (bracket (vertex t i) (vertex t j) g) < enough g
      below_enough =
          omega (
            arith,
            member-le-sum_by (side_size g) (i, j) (sides_of t.faces)
                (side_listed t h i j k f),
          )

      go : (pos 0 <ℤ bracket (vertex t i) (vertex t j) x)
          ⊎ ((bracket (vertex t i) (vertex t j) x ≡ pos 0)
          × (pos 0 ≤ℤ bracket (vertex t i) (vertex t j) g))
          → pos 0 ≤ℤ bracket (vertex t i) (vertex t j) x
      go (inl s) = weak s
      go (inr s) = zero_weak_left s.0

  -- the closed face of a point near x is a closed face of x
  closed_near : (x g : Fraction) (i j k : ℕ) → IsFace t i j k
      → Closed (vertex t i) (vertex t j) (vertex t k) (nudge (enough g) x g)
      → Closed (vertex t i) (vertex t j) (vertex t k) x
  closed_near x g i j k f c = record {
    first = least_near x g i j k f c.first;
    second = least_near x g j k i (turned_face t i j k f) c.second;
    third = least_near x g k i j (turned_face t j k i (turned_face t i j k f)) c.third;
  }

-- a point that is right of a line, nudged towards a point right of it, is right of it
nudge-right : (u v : Fraction) (n : ℕ) (x g : Fraction) → bracket u v x <ℤ pos 0
    → bracket u v g <ℤ pos 0 → bracket u v (nudge n x g) <ℤ pos 0
nudge-right u v n x g hx hg = low (bracket u v (nudge n x g)) (pos n *ℤ bracket u v x)
    (bracket u v g) (bracket-nudge u v n x g) (mul-nonpos_of_nonneg_nonpos_ℤ {a = pos n}
    {b = bracket u v x} (index_not_negative n) (weak_right hx)) hg
  where
    low : (s a b : ℤ) → s ≡ a +ℤ b → a ≤ℤ pos 0 → b <ℤ pos 0 → s <ℤ pos 0
    low s a b e h k = omega (arith, ints)

-- a point between a point of a segment and its end is on the segment
on_rest : (p q y x : Fraction) → OnSegment p q y → OnSide y q x → OnSegment p q x
on_rest p q y x on o =
    let a = side_of_segment p q y on in
    segment_from (o.n *ℤ a.n) (o.k *ℤ a.k) (o.k *ℤ a.l +ℤ o.l *ℤ a.n) p q x
    (mul-pos_ℤ {a = o.n} {b = a.n} o.n_above a.n_above)
    (mul-nonneg_ℤ {a = o.k} {b = a.k} o.k_least a.k_least)
    (least_sum (o.k *ℤ a.l) (o.l *ℤ a.n) (mul-nonneg_ℤ {a = o.k} {b = a.l} o.k_least a.l_least)
    (mul-nonneg_ℤ {a = o.l} {b = a.n} o.l_least (weak a.n_above)))
    (λ u v. moved o.n o.k o.l a.n a.k a.l (bracket u v x) (bracket u v y) (bracket u v p)
    (bracket u v q) (o.along u v) (a.along u v))
  where
    least_sum : (a b : ℤ) → pos 0 ≤ℤ a → pos 0 ≤ℤ b → pos 0 ≤ℤ (a +ℤ b)
    least_sum a b h i = omega (arith, ints)

    moved : (n k l m i j x y p q : ℤ) → n *ℤ x ≡ k *ℤ y +ℤ l *ℤ q → m *ℤ y ≡ i *ℤ p +ℤ j *ℤ q
        → (n *ℤ m) *ℤ x ≡ (k *ℤ i) *ℤ p +ℤ (k *ℤ j +ℤ l *ℤ m) *ℤ q
    moved n k l m i j x y p q e d =
        ring_in_from (n ∷ k ∷ l ∷ m ∷ i ∷ j ∷ x ∷ y ∷ p ∷ q ∷ [])
        (λ n k l m i j x y p q. (n ⊗ m) ⊗ x)
        (λ n k l m i j x y p q. (k ⊗ i) ⊗ p ⊕ (k ⊗ j ⊕ l ⊗ m) ⊗ q)
        (λ n k l m i j x y p q. (m, n ⊗ x, k ⊗ y ⊕ l ⊗ q) ∷ (k, m ⊗ y, i ⊗ p ⊕ j ⊗ q) ∷ [])
        (e, (d, tt)) tt

-- ---- faces that were left
-- the way from y to q is right of a side of the face
abbrev IsLeft : Triangulation → Fraction → Fraction → Face → Type 0
IsLeft t y q f = ((bracket (vertex t f.a) (vertex t f.b) y <ℤ pos 0)
    × (bracket (vertex t f.a) (vertex t f.b) q <ℤ pos 0))
    ⊎ (((bracket (vertex t f.b) (vertex t f.c) y <ℤ pos 0)
    × (bracket (vertex t f.b) (vertex t f.c) q <ℤ pos 0))
    ⊎ ((bracket (vertex t f.c) (vertex t f.a) y <ℤ pos 0)
    × (bracket (vertex t f.c) (vertex t f.a) q <ℤ pos 0)))

abbrev pub HasPoint : Triangulation → Fraction → Face → Type 0
HasPoint t x f = Closed (vertex t f.a) (vertex t f.b) (vertex t f.c) x

not_left : (t : Triangulation) (y q : Fraction) (f : Face) → HasPoint t y f → ¬ IsLeft t y q f
not_left t y q f c (inl s) = right_not_above s.0 c.first
not_left t y q f c (inr (inl s)) = right_not_above s.0 c.second
not_left t y q f c (inr (inr s)) = right_not_above s.0 c.third

-- what is left stays left
left_stays : (t : Triangulation) (y x q : Fraction) (n : ℕ) (f : Face) → OnSide y q x
    → IsLeft t y q f → IsLeft t (nudge n x q) q f
left_stays t y x q n f o l = elim l [
  | inl s ↦ inl (on (vertex t f.a) (vertex t f.b) s.0 s.1, s.1)
  | inr r ↦ elim r [
    | inl s ↦ inr (inl (on (vertex t f.b) (vertex t f.c) s.0 s.1, s.1))
    | inr s ↦ inr (inr (on (vertex t f.c) (vertex t f.a) s.0 s.1, s.1))
  ]
]
  where
    on : (u v : Fraction) → bracket u v y <ℤ pos 0 → bracket u v q <ℤ pos 0
        → bracket u v (nudge n x q) <ℤ pos 0
    on u v h k = nudge-right u v n x q (below_along y q x u v o h k) k

-- a face that the way leaves at x is left near x
left_near : (t : Triangulation) (x q : Fraction) (n : ℕ) (f : Face)
    → Leaves (vertex t f.a) (vertex t f.b) (vertex t f.c) q x → IsLeft t (nudge n x q) q f
left_near t x q n f l = elim l [
  | inl s ↦ inl (on (vertex t f.a) (vertex t f.b) s.0 s.1, s.1)
  | inr r ↦ elim r [
    | inl s ↦ inr (inl (on (vertex t f.b) (vertex t f.c) s.0 s.1, s.1))
    | inr s ↦ inr (inr (on (vertex t f.c) (vertex t f.a) s.0 s.1, s.1))
  ]
]
  where
    on : (u v : Fraction) → bracket u v x ≡ pos 0 → bracket u v q <ℤ pos 0
        → bracket u v (nudge n x q) <ℤ pos 0
    on u v e k = subst (λ s. s <ℤ pos 0) (sym (nudge-on u v n x q e)) k

-- a list without one of its faces
without : (fs : List Face) (f : Face) → Contains fs f → (gs : List Face)
    × (length fs ≡ suc (length gs)) × ((g : Face) → Contains fs g → (f ≡ g) ⊎ Contains gs g)
without [] f c = absurd (Contains-none f c)
without (k ∷ fs) f c = elim (Contains-cases k fs f c) [
  | inl e ↦ (
    fs,
    refl,
    λ g d. elim (Contains-cases k fs g d) [
      | inl s ↦ inl (sym e ∙ s)
      | inr s ↦ inr s
    ],
  )
  | inr d ↦ (let r = without fs f d in (
    k ∷ r.0,
    ap suc r.1,
    λ g d. elim (Contains-cases k fs g d) [
      | inl s ↦ inr (subst (Contains (k ∷ r.0)) s (Contains-head k r.0))
      | inr s ↦ elim (r.2 g s) [ inl i ↦ inl i | inr i ↦ inr (Contains-later k r.0 g i) ]
    ],
  ))
]

-- ---- what is reached along sides of free faces
-- whoever has reached a corner of a free face goes on to the next one
abbrev pub IsFollowed : Triangulation → (ℕ → Bool) → (ℕ → Type 0) → Type 0
IsFollowed t free Reached = (i j : ℕ) → HasFreeFace t free i j → Reached i → Reached j

module _ (t : Triangulation) (h : TilesHull t) (free : ℕ → Bool) (Reached : ℕ → Type 0)
    (followed : IsFollowed t free Reached) where
  abbrev pub IsFree : ℕ → Type 0
  IsFree n = (n < length t.faces) × IsTrue (free n)

  -- the three corners of face n were reached
  abbrev pub IsMet : ℕ → Type 0
  IsMet n = Reached (face_at t n).a × Reached (face_at t n).b × Reached (face_at t n).c

  contained : (n : ℕ) → n < length t.faces → Contains t.faces (face_at t n)
  contained n within = Contains-get_or t.faces n (face 0 0 0) within

  listed : (n : ℕ) → n < length t.faces
      → IsFace t (face_at t n).a (face_at t n).b (face_at t n).c
  listed n within = inl (contained n within)

  -- one corner of a free face that was reached brings the others
  pub all_met : (n : ℕ) → IsFree n
      → AnyMarked t h Reached (face_at t n).a (face_at t n).b (face_at t n).c → IsMet n
  all_met n f m = go m
    where
      f₁ : HasFreeFace t free (face_at t n).a (face_at t n).b
      f₁ = record {
        index = n;
        within = f.0;
        is_free = f.1;
        third = (face_at t n).c;
        corners = inl (refl, refl, refl);
      }

      f₂ : HasFreeFace t free (face_at t n).b (face_at t n).c
      f₂ = record {
        index = n;
        within = f.0;
        is_free = f.1;
        third = (face_at t n).a;
        corners = inr (inl (refl, refl, refl));
      }

      f₃ : HasFreeFace t free (face_at t n).c (face_at t n).a
      f₃ = record {
        index = n;
        within = f.0;
        is_free = f.1;
        third = (face_at t n).b;
        corners = inr (inr (refl, refl, refl));
      }

      go : AnyMarked t h Reached (face_at t n).a (face_at t n).b (face_at t n).c → IsMet n
      go (inl x) = let y = followed _ _ f₁ x in (x, y, followed _ _ f₂ y)
      go (inr (inl x)) = let y = followed _ _ f₂ x in (followed _ _ f₃ y, x, y)
      go (inr (inr x)) = let y = followed _ _ f₃ x in (y, followed _ _ f₁ y, x)

  -- a free face with a point of a face that was met is met
  met_where_shared : (n m : ℕ) → IsFree n → IsFree m → IsMet n → (x : Fraction)
      → HasPoint t x (face_at t n) → HasPoint t x (face_at t m) → IsMet m
  met_where_shared n m f g met x c d = all_met m g (marked_where_shared t h Reached
      (face_at t m).a (face_at t m).b (face_at t m).c (face_at t n).a (face_at t n).b
      (face_at t n).c (listed m g.0) (listed n f.0) met.0 met.1 met.2 x d c)

  closed_free : (x : Fraction) → (o : IsInFree t free x) → HasPoint t x (face_at t o.index)
  closed_free x o = closed_of _ _ _ x (h.turning _ _ _ (listed o.index o.within)) o.inside

  module _ (p q : Fraction) (sees : IsInSight t free p q) where
    -- the segment goes on from y in the faces of a list
    record GoesOn (fs : List Face) (y : Fraction) : Type 0 where
      on : OnSegment p q y
      index : ℕ
      is_free : IsFree index
      met : IsMet index
      closed : HasPoint t y (face_at t index)
      rest : (f : Face) → Contains t.faces f → ¬ IsLeft t y q f → Contains fs f

    -- the end is in a face that was met
    abbrev IsEndMet : Type 0
    IsEndMet = (n : ℕ) × IsFree n × IsMet n × HasPoint t q (face_at t n)

    step : (k : ℕ) (fs : List Face) (y : Fraction) → length fs ≡ k → GoesOn fs y → IsEndMet
    step zero fs y e g = absurd (none fs e (g.rest (face_at t g.index)
        (contained g.index g.is_free.0) (not_left t y q (face_at t g.index) g.closed)))
      where
        none : (fs : List Face) → length fs ≡ 0 → Contains fs (face_at t g.index) → ⊥
        none [] e c = Contains-none _ c
        none (x ∷ xs) e c = omega (arith, e)
    step (suc k) fs y e g = go (step k) exit.ends
      where
        f : Face
        f = face_at t g.index

        exit : Exit (vertex t f.a) (vertex t f.b) (vertex t f.c) q y
        exit = exit_of (vertex t f.a) (vertex t f.b) (vertex t f.c) q y g.closed

        go : ((fs : List Face) (y : Fraction) → length fs ≡ k → GoesOn fs y → IsEndMet)
            → (exit.at ≡ q) ⊎ Leaves (vertex t f.a) (vertex t f.b) (vertex t f.c) q exit.at
            → IsEndMet
        go on (inl s) = (
          g.index,
          g.is_free,
          g.met,
          subst (λ z. HasPoint t z (face_at t g.index)) s exit.closed,
        )
        go on (inr l) = on rest.0 z (shorter (rest.1)) (record {
          on = on_z;
          index = o.index;
          is_free = (o.within, o.is_free);
          met = met_where_shared g.index o.index g.is_free (o.within, o.is_free) g.met exit.at
              exit.closed (closed_near t h exit.at q _ _ _ (listed o.index o.within)
              (closed_free z o));
          closed = closed_free z o;
          rest = λ d c n. elim (rest.2 d (g.rest d c (λ i. n (left_stays t y exit.at q
              (enough t h q) d exit.on i)))) [
                | inl s ↦ absurd (n (subst (IsLeft t z q) s
                    (left_near t exit.at q (enough t h q) f l)))
                | inr s ↦ s
              ];
        })
          where
            z : Fraction
            z = nudge (enough t h q) exit.at q

            on_z : OnSegment p q z
            on_z = nudge_on_segment p q exit.at (enough t h q) (on_rest p q y exit.at g.on exit.on)

            o : IsInFree t free z
            o = sees z on_z

            rest : (gs : List Face) × (length fs ≡ suc (length gs))
                × ((g : Face) → Contains fs g → (f ≡ g) ⊎ Contains gs g)
            rest = without fs f (g.rest f (contained g.index g.is_free.0)
                (not_left t y q f g.closed))

            shorter : (length fs ≡ suc (length rest.0)) → length rest.0 ≡ k
            shorter d = less (length fs) (length rest.0) k d e
              where
                less : (a b c : ℕ) → a ≡ suc b → a ≡ suc c → b ≡ c
                less a b c e d = omega (arith, e, d)

    -- where some free face at the start was met, each one at the end is
    pub seen_is_met : (n : ℕ) → IsFree n → IsMet n → HasPoint t p (face_at t n) → (m : ℕ)
        → IsFree m → HasPoint t q (face_at t m) → IsMet m
    seen_is_met n f met c m g d = go (step (length t.faces) t.faces p refl (record {
      on = start_on_segment p q;
      index = n;
      is_free = f;
      met = met;
      closed = c;
      rest = λ i there k. there;
    }))
      where
        go : IsEndMet → IsMet m
        go s = met_where_shared s.0 m s.1 g s.2 q s.3 d
