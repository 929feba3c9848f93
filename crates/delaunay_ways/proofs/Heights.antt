-- Faces that are wide enough, by whole numbers.
-- Lemmas: multiplied, product_of, difference_of, difference_fits, away_told, none_told; wide_at, corner_at;
-- wide_begins, wide_goes_on, wide_ends.
use Rattle.std.proofs.Common.{◌≡◌, ◌⊎◌, ◌↔◌, ◌+◌, ◌-◌, ◌<◌, ◌≤◌, [], ◌∷◌, ◌++◌, ◌∙◌, ℕ, Bool}
use Rattle.std.proofs.Common.{List, IsTrue, arith, ap, false, inl, inr, length, map, of_z, subst}
use Rattle.std.proofs.Common.{sym, to_z, true, w64}
use Rattle.std.specs.Prelude.{ℤ, ◌-ℤ◌, ◌*ℤ◌, ◌≤ℤ◌, slice_index_or, unsigned_abs}
use Rattle.std.specs.Int.RustNames.{FitsSigned}
use Rattle.std.proofs.lemmas.Int.{fits_signed_from_abs, ints}
use Rattle.std.proofs.lemmas.List.{get_or_append_left, get_or_past, get_or_push, length-append}
use Rattle.plane.specs.{Face, gap, Point, Triangulation, turn_at, whole}
use Rattle.half_edge_links.specs.{face_edge, next, origin, prev}
use Rattle.half_edge_dcel.specs.{Contents}
use Rattle.{delaunay_core.proofs.Projections.product_bound, delaunay_legalization.proofs.both_ways}
use Rattle.delaunay_legalization.specs.{drawn, IsTriangulated, state_of}
use Rattle.{delaunay_shapes.specs.by_place, delaunay_ways.proofs.FreeSides.corners_named}
use Rattle.{delaunay_ways.specs.AreWide, delaunay_ways.specs.point_at, plane_theorems.specs.face_at}
use Rattle.delaunay_ways.specs.Widths.{IsAway, IsWide, IsWideTriangle}

-- ---- numbers that fit their width
-- what 64 bits keep of a number
abbrev stored : ℤ → ℤ
stored z = to_z w64 (of_z w64 z)

stored_is : (z : ℤ) → unsigned_abs z ≤ 4611686018427387904 → stored z ≡ z
stored_is z h = omega (arith, ints)

-- a product of differences of coordinates
pub multiplied : (a b : ℤ) → unsigned_abs a ≤ 1073741824 → unsigned_abs b ≤ 1073741824
    → stored (stored a *ℤ stored b) ≡ a *ℤ b
multiplied a b h k = rw (stored_is a (omega (arith, h)), stored_is b (omega (arith, k)))
    (stored_is (a *ℤ b) (omega (arith, product_bound a b h k)))

pub product_of : {a b x y z : ℤ} → unsigned_abs a ≤ 1073741824 → unsigned_abs b ≤ 1073741824 → a ≡ x
    → b ≡ y → z ≡ stored a *ℤ stored b → z ≡ x *ℤ y
product_of {a = a} {b = b} h k e f g =
    let p = stored_is a (omega (arith, h)) in let q = stored_is b (omega (arith, k)) in cc

-- and a difference of two of them
pub difference_of : {a b x y : ℤ} → unsigned_abs a ≤ 1152921504606846976
    → unsigned_abs b ≤ 1152921504606846976 → a ≡ x → b ≡ y → stored (stored a -ℤ stored b) ≡ x -ℤ y
difference_of h k e f = omega (arith, ints)

pub difference_fits : (a b : ℤ) → unsigned_abs a ≤ 1152921504606846976
    → unsigned_abs b ≤ 1152921504606846976 → FitsSigned w64 (stored a -ℤ stored b)
difference_fits a b h k = fits_signed_from_abs w64 (stored a -ℤ stored b) (omega (arith, ints))

-- a distance and an area, as calls say and pass them
pub away_told : (w w' d r : ℤ) (u v p : Point) (b : Bool) → w' ≡ w → d ≡ gap (whole u) (whole v)
    → r ≡ turn_at u v p → IsTrue b ↔ ((w' *ℤ d) ≤ℤ (r *ℤ r)) → IsTrue b ↔ IsAway w u v p
away_told w w' d r u v p b e f g told = (
  λ h. record { away = all.0 h },
  λ h. all.1 h.away,
)
  where
    all : IsTrue b ↔ ((w *ℤ gap (whole u) (whole v)) ≤ℤ (turn_at u v p *ℤ turn_at u v p))
    all = subst (λ x. IsTrue b ↔ ((x *ℤ gap (whole u) (whole v))
        ≤ℤ (turn_at u v p *ℤ turn_at u v p))) e
        (subst (λ y. IsTrue b ↔ ((w' *ℤ y) ≤ℤ (turn_at u v p *ℤ turn_at u v p))) f
        (subst (λ z. IsTrue b ↔ ((w' *ℤ d) ≤ℤ (z *ℤ z))) g told))

false_true : false ≡ true → ⊥
false_true e = cc

-- where a part of it fails, the whole does
pub none_told : (b : Bool) {A B : Type 0} → (B → A) → IsTrue b ↔ A → b ≡ false → IsTrue false ↔ B
none_told b part told off = (
  λ h. absurd (false_true h),
  λ h. absurd (both_ways b (told.1 (part h)) off),
)

-- ---- a face by the positions of its corners
pub wide_at : (t : Triangulation) (w : ℤ) (n : ℕ) (p q r : Point) (b : Bool)
    → point_at t.points (face_at t n).a ≡ p → point_at t.points (face_at t n).b ≡ q
    → point_at t.points (face_at t n).c ≡ r → IsTrue b ↔ IsWideTriangle w p q r
    → IsTrue b ↔ IsWide t w n
wide_at t w n p q r b e f g h =
    subst (λ x. IsTrue b ↔ IsWideTriangle w x (point_at t.points (face_at t n).b)
    (point_at t.points (face_at t n).c)) (sym e)
    (subst (λ y. IsTrue b ↔ IsWideTriangle w p y (point_at t.points (face_at t n).c)) (sym f)
    (subst (λ z. IsTrue b ↔ IsWideTriangle w p q z) (sym g) h))

module _ {V D U F : Type 0} (at : V → Point) (c : Contents V D U F)
    (kept : IsTriangulated at (state_of c)) where
  abbrev t : Triangulation
  t = drawn (map at c.vertices) c.mesh

  -- what a call says of a corner, said of the face
  pub corner_at : (corner : Face → ℕ) (f v : ℕ) (p : Point) → 0 < f → f ≤ length c.faces
      → v ≡ corner (record {
        a = origin c.mesh (face_edge c.mesh f);
        b = origin c.mesh (next c.mesh (face_edge c.mesh f));
        c = origin c.mesh (prev c.mesh (face_edge c.mesh f));
      }) → p ≡ point_at (map at c.vertices) v
      → point_at t.points (corner (face_at t (f - 1))) ≡ p
  corner_at corner f v p inner within is e =
      let fit = kept.fits.faces_fit in
      let named = corners_named (map at c.vertices) c.mesh kept.valid (λ n. false) (f - 1)
      (omega (arith, inner, within, fit)) in
      ap (λ (x : Face). point_at (map at c.vertices) (corner x)) named
      ∙ ap (point_at (map at c.vertices)) (sym is) ∙ sym e

-- ---- face by face
module _ (t : Triangulation) (free : ℕ → Bool) (w : ℤ) where
  -- these tell which of the first faces are free and wide, after the outer one
  pub record AreWideSoFar (wide : List Bool) : Type 0 where
    pub told : (n : ℕ) → IsTrue (slice_index_or wide n false)
        ↔ ((0 < n) × (n < length wide) × IsTrue (free n) × IsWide t w (n - 1))

  pub wide_begins : (wide : List Bool) → wide ≡ false ∷ [] → AreWideSoFar wide
  wide_begins wide e = subst AreWideSoFar (sym e) (record {
    told = λ n. (
      λ is. absurd (false_true (sym (none n) ∙ is)),
      λ h. let i = h.0 in let j = h.1 in absurd (omega (arith, i, j)),
    );
  })
    where
      cases : (n : ℕ) → (n ≡ 0) ⊎ (1 ≤ n)
      cases n = grind arith

      none : (n : ℕ) → slice_index_or (false ∷ []) n false ≡ false
      none n = elim (cases n) [
        | inl z ↦ ap (λ (i : ℕ). slice_index_or (false ∷ []) i false) z
        | inr p ↦ get_or_past (false ∷ []) n false (omega (arith, p))
      ]

  pub wide_goes_on : (wide wide' : List Bool) (m : ℕ) (b : Bool) → AreWideSoFar wide
      → m ≡ length wide → 0 < m → IsTrue b ↔ (IsTrue (free m) × IsWide t w (m - 1))
      → wide' ≡ wide ++ b ∷ [] → AreWideSoFar wide'
  wide_goes_on wide wide' m b so_far is inner told e = subst AreWideSoFar (sym e)
      (record { told = λ n. go n (cases n) })
    where
      more : length (wide ++ b ∷ []) ≡ length wide + 1
      more = length-append wide (b ∷ [])

      cases : (n : ℕ) → ((n < m) ⊎ (n ≡ m)) ⊎ (m < n)
      cases n = grind arith

      Told : ℕ → Type 0
      Told n = IsTrue (slice_index_or (wide ++ b ∷ []) n false)
          ↔ ((0 < n) × (n < length (wide ++ b ∷ [])) × IsTrue (free n) × IsWide t w (n - 1))

      go : (n : ℕ) → ((n < m) ⊎ (n ≡ m)) ⊎ (m < n) → IsTrue (slice_index_or (wide ++ b ∷ []) n false)
          ↔ ((0 < n) × (n < length (wide ++ b ∷ [])) × IsTrue (free n) × IsWide t w (n - 1))
      go n (inl (inl less)) = (
        λ h. let x = (so_far.told n).0 (sym old ∙ h) in (x.0, omega (arith, less, is, more), x.2, x.3),
        λ h. old ∙ (so_far.told n).1 (h.0, omega (arith, less, is), h.2, h.3),
      )
        where
          old : slice_index_or (wide ++ b ∷ []) n false ≡ slice_index_or wide n false
          old = get_or_append_left wide (b ∷ []) false n (omega (arith, less, is))
      go n (inl (inr same)) = (
        λ h. let x = told.0 (sym new ∙ h) in (
          omega (arith, inner, same),
          omega (arith, same, is, more),
          subst (λ i. IsTrue (free i)) (sym same) x.0,
          subst (λ i. IsWide t w (i - 1)) (sym same) x.1,
        ),
        λ h. new ∙ told.1 (
          subst (λ i. IsTrue (free i)) same h.2,
          subst (λ i. IsWide t w (i - 1)) same h.3,
        ),
      )
        where
          new : slice_index_or (wide ++ b ∷ []) n false ≡ b
          new = get_or_push wide b false n (sym is ∙ sym same)
      go n (inr past) = (
        λ h. absurd (false_true (sym none ∙ h)),
        λ h. let j = h.1 in absurd (omega (arith, past, j, is, more)),
      )
        where
          none : slice_index_or (wide ++ b ∷ []) n false ≡ false
          none = get_or_past (wide ++ b ∷ []) n false (omega (arith, past, is, more))

  pub wide_ends : (wide : List Bool) → AreWideSoFar wide → length wide ≡ length t.faces + 1
      → AreWide t (by_place free) w (by_place (λ n. slice_index_or wide n false))
  wide_ends wide so_far all = record {
    told = λ n. (
      λ h. let x = (so_far.told (n + 1)).0 h in
          let within = x.1 in
          (omega (arith, within, all), x.2, subst (IsWide t w) (back n) x.3),
      λ h. let within = h.0 in (so_far.told (n + 1)).1 (
        omega arith,
        omega (arith, within, all),
        h.1,
        subst (IsWide t w) (sym (back n)) h.2,
      ),
    );
  }
    where
      back : (n : ℕ) → n + 1 - 1 ≡ n
      back n = omega arith
