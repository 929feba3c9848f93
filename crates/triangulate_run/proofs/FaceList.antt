-- The faces of a tiling, each from its least corner on: all of them, and no two the same.
-- Notions: Least, rows; first_least, second_least, third_least, least, differ, from_least_of,
-- rows_differ, lists_faces.
use Rattle.std.proofs.Common.{◌≡◌, ◌≢◌, ◌<◌, ◌≤◌, ◌&&◌, ◌⊎◌, ◌∙◌}
use Rattle.std.proofs.Common.{ℕ, Bool, true, false, inl, inr, List, length, map, get_or, refl, sym}
use Rattle.std.proofs.Common.{ap, subst, arith, ltb, lt-ltb, le-ltb}
use Rattle.std.specs.Prelude.{ℤ, pos, ◌+ℤ◌, ◌*ℤ◌, AllPairs, Contains, IsPermutation}
use Rattle.std.proofs.lemmas.Int.{ints}
use Rattle.std.proofs.lemmas.List.{get_or-map, get_or_default, length-map}
use Rattle.std.proofs.lemmas.List.Sorted.{IsPermutation-sym, Contains-permutation}
use Rattle.std.proofs.lemmas.Bool.{cases_lt}
use Rattle.plane.specs.{AreApart, Face, face, Fraction, InsideCorners, IsFace, IsPositive, IsTiling}
use Rattle.plane.specs.{JoinsLine, left, on, opposite, right, Side, side, Triangulation, TurnsLeft}
use Rattle.plane.specs.{vertex}
use Rattle.plane.proofs.{Means.mean_of_three, side_swapped, turned_face, turned_inside}
use Rattle.{plane.proofs.Sides.side_turned, triangulate_run.specs.declared.corners.Corners.Corners}
use Rattle.triangulate_run.specs.{Answer.IsFaceFromLeast, Answer.ListsFaces, least_first}
use Rattle.triangulate_run.specs.Corners.{ComesFirst, corners}

-- ---- the least corner first
and_no : (b : Bool) → (b && false) ≡ false
and_no true = refl
and_no false = refl

-- where a is the least of three corners, they are written from a on
pub first_least : (a b c : ℕ) → a < b → a < c → least_first a b c ≡ corners a b c
first_least a b c h k = rw (lt-ltb a b h, lt-ltb a c k) refl

-- where b is the least of three corners, they are written from b on
pub second_least : (a b c : ℕ) → b < c → b < a → least_first a b c ≡ corners b c a
second_least a b c h k = rw (le-ltb a b (omega arith), lt-ltb b c h) refl

-- where c is the least of three corners, they are written from c on
pub third_least : (a b c : ℕ) → c < a → c < b → least_first a b c ≡ corners c a b
third_least a b c h k =
    rw (le-ltb a c (omega arith), and_no (ltb a b), le-ltb b c (omega arith)) refl

-- which of three corners is the least
pub data Least (a b c : ℕ) : Type 0 where
  is_first : a < b → a < c → Least a b c
  is_second : b < c → b < a → Least a b c
  is_third : c < a → c < b → Least a b c

-- one of three different corners is the least
pub least : (a b c : ℕ) → a ≢ b → b ≢ c → c ≢ a → Least a b c
least a b c p q r = go (cases_lt a b) (cases_lt b c) (cases_lt a c)
  where
    go : (a < b) ⊎ (b ≤ a) → (b < c) ⊎ (c ≤ b) → (a < c) ⊎ (c ≤ a) → Least a b c
    go (inl h) k (inl l) = is_first h l
    go (inl h) k (inr l) = is_third (grind arith) (grind arith)
    go (inr h) (inl k) l = is_second k (grind arith)
    go (inr h) (inr k) l = is_third (grind arith) (grind arith)

-- ---- the corners of a face differ
unturned : (s : Side) → s ≡ opposite s → s ≡ left → ⊥
unturned left e h = cc
unturned right e h = cc
unturned on e h = cc

no_turn : (u p : Fraction) → TurnsLeft u u p → ⊥
no_turn u p h = unturned (side u u p) (side_swapped u u p) h

none_in : (t : Triangulation) → JoinsLine t → {f : Face} → Contains t.faces f → ⊥
none_in t line h = absurd (omega (arith, h.1, ap length line.no_face))

turning_of : (t : Triangulation) → IsTiling t → (i j k : ℕ) → IsFace t i j k
    → TurnsLeft (vertex t i) (vertex t j) (vertex t k)
turning_of t (inl tiles) i j k h = tiles.turning i j k h
turning_of t (inr line) i j k (inl h) = absurd (none_in t line h)
turning_of t (inr line) i j k (inr (inl h)) = absurd (none_in t line h)
turning_of t (inr line) i j k (inr (inr h)) = absurd (none_in t line h)

apart_of : (t : Triangulation) → IsTiling t → AllPairs (AreApart t) t.faces
apart_of t (inl tiles) = tiles.apart
apart_of t (inr line) = λ i j d h k. absurd (omega (arith, k, ap length line.no_face))

module _ (t : Triangulation) (tiles : IsTiling t) where
  -- the corners of a face differ
  pub differ : (i j k : ℕ) → IsFace t i j k → (i ≢ j) × (j ≢ k) × (k ≢ i)
  differ i j k f =
      let h = turning_of t tiles i j k f in
      let h' = side_turned (vertex t i) (vertex t j) (vertex t k) ∙ h in
      let h'' = side_turned (vertex t j) (vertex t k) (vertex t i) ∙ h' in (
        (λ e. no_turn (vertex t i) (vertex t k)
            (subst (λ n. TurnsLeft (vertex t i) (vertex t n) (vertex t k)) (sym e) h)),
        (λ e. no_turn (vertex t j) (vertex t i)
            (subst (λ n. TurnsLeft (vertex t j) (vertex t n) (vertex t i)) (sym e) h')),
        (λ e. no_turn (vertex t k) (vertex t j)
            (subst (λ n. TurnsLeft (vertex t k) (vertex t n) (vertex t j)) (sym e) h'')),
      )

  -- a face with its least corner first is a face
  pub from_least_of : (i j k : ℕ) → IsFace t i j k → IsFaceFromLeast t (least_first i j k)
  from_least_of i j k f = let d = differ i j k f in elim (least i j k d.0 d.1 d.2) [
    | is_first h l ↦
        rw (first_least i j k h l) (record { face = f; before_second = h; before_third = l })
    | is_second h l ↦ rw (second_least i j k h l)
        (record { face = turned_face t i j k f; before_second = h; before_third = l })
    | is_third h l ↦ rw (third_least i j k h l) (record
        { face = turned_face t j k i (turned_face t i j k f); before_second = h; before_third = l })
  ]

  -- ---- the list
  abbrev row : Face → Corners
  row f = least_first f.a f.b f.c

  -- the faces, each with its least corner first
  abbrev pub rows : List Corners
  rows = map row t.faces

  nowhere : Face
  nowhere = face 0 0 0

  row_of : (k : ℕ) (d : Corners) → k < length rows
      → get_or rows k d ≡ row (get_or t.faces k nowhere)
  row_of k d h = get_or-map row t.faces k nowhere d (omega (arith, h, length-map t.faces row))

  face_at : (k : ℕ) → k < length t.faces → IsFace t (get_or t.faces k nowhere).a
      (get_or t.faces k nowhere).b (get_or t.faces k nowhere).c
  face_at k h = inl (k, h, get_or_default t.faces k (get_or t.faces k nowhere) nowhere h)

  rows_are_faces : (c : Corners) → Contains rows c → IsFaceFromLeast t c
  rows_are_faces c (k, h, e) =
      let f = get_or t.faces k nowhere in
      let in_faces : k < length t.faces = omega (arith, h, length-map t.faces row) in
      subst (λ (d : Corners). IsFaceFromLeast t d) (sym (row_of k c h) ∙ e)
      (from_least_of f.a f.b f.c (face_at k in_faces))

  in_rows : (f : Face) (c : Corners) → Contains t.faces f → row f ≡ c → Contains rows c
  in_rows f c (k, h, e) same =
      let in_list : k < length rows = omega (arith, h, length-map t.faces row) in
      (k, in_list, get_or-map row t.faces k f c h ∙ ap row e ∙ same)

  faces_are_rows : (c : Corners) → IsFaceFromLeast t c → Contains rows c
  faces_are_rows c h = elim h.face [
    | inl f ↦ in_rows (face c.first c.second c.third) c f
        (first_least c.first c.second c.third h.before_second h.before_third)
    | inr (inl f) ↦ in_rows (face c.second c.third c.first) c f
        (third_least c.second c.third c.first h.before_second h.before_third)
    | inr (inr f) ↦ in_rows (face c.third c.first c.second) c f
        (second_least c.third c.first c.second h.before_second h.before_third)
  ]

  -- ---- no two the same: a point strictly inside a face is in no other
  middle : Corners → Fraction
  middle c =
      let u = vertex t c.first in
      let v = vertex t c.second in
      let p = vertex t c.third in
      record {
        x = u.x +ℤ v.x +ℤ p.x;
        y = u.y +ℤ v.y +ℤ p.y;
        w = pos 3;
        positive = record { lt = tt };
      }

  sum_of : (x y z : ℤ) → pos 1 *ℤ (x +ℤ y +ℤ z) ≡ pos 1 *ℤ x +ℤ pos 1 *ℤ y +ℤ pos 1 *ℤ z
  sum_of x y z = omega (arith, ints)

  middle_inside : (c : Corners) → InsideCorners t c.first c.second c.third (middle c)
  unfolding middle
  middle_inside c =
      let u = vertex t c.first in
      let v = vertex t c.second in
      let p = vertex t c.third in
      mean_of_three IsPositive u v p (middle c) (record {
        k = pos 1;
        l = pos 1;
        m = pos 1;
        n = pos 1;
        k_allowed = record { lt = tt };
        l_allowed = record { lt = tt };
        m_allowed = record { lt = tt };
        positive = record { lt = tt };
        x = sum_of u.x v.x p.x;
        y = sum_of u.y v.y p.y;
        w = refl;
      })

  inside_row : (f : Face) → IsFace t f.a f.b f.c → InsideCorners t f.a f.b f.c (middle (row f))
  inside_row f is_face =
      let u = vertex t f.a in
      let v = vertex t f.b in
      let p = vertex t f.c in
      let d = differ f.a f.b f.c is_face in elim (least f.a f.b f.c d.0 d.1 d.2) [
        | is_first h l ↦ rw (first_least f.a f.b f.c h l) (middle_inside (corners f.a f.b f.c))
        | is_second h l ↦ (let m = middle (corners f.b f.c f.a) in rw (second_least f.a f.b f.c h l)
            (turned_inside p u v m (turned_inside v p u m (middle_inside (corners f.b f.c f.a)))))
        | is_third h l ↦ (let m = middle (corners f.c f.a f.b) in rw (third_least f.a f.b f.c h l)
            (turned_inside p u v m (middle_inside (corners f.c f.a f.b))))
      ]

  -- no two of them are the same
  pub rows_differ : AllPairs (λ c d. c ≢ d) rows
  rows_differ i j d h k = λ e.
      let f = get_or t.faces i nowhere in
      let g = get_or t.faces j nowhere in
      let below : j < length t.faces = omega (arith, k, length-map t.faces row) in
      let within : i < length t.faces = omega (arith, h, below) in
      let same : row f ≡ row g = sym (row_of i d (omega (arith, h, k))) ∙ e ∙ row_of j d k in
      apart_of t tiles i j nowhere h below (middle (row g))
      (subst (λ (c : Corners). InsideCorners t f.a f.b f.c (middle c)) same
      (inside_row f (face_at i within))) (inside_row g (face_at j below))

  -- ---- sorted
  -- sorted, they are the list of the faces
  pub lists_faces : (list : List Corners) → IsPermutation rows list → AllPairs ComesFirst list
      → ListsFaces t list
  lists_faces list moved sorted = record {
    faces = λ c. (
      λ h. rows_are_faces c
          (Contains-permutation list rows c (IsPermutation-sym rows list moved) h),
      λ h. Contains-permutation rows list c moved (faces_are_rows c h),
    );
    sorted = sorted;
  }
