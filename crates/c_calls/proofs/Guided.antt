-- Ways, as C is told of them.
-- Notion: IsFound. Lemmas: images_more, images_all, joined_same, way_told, no_way_told.
use Rattle.std.proofs.Common.{◌≡◌, ◌∙◌, ◌+◌, ◌<◌, [], ◌∷◌, ℕ, ℤ, Bool, List, length, take, set}
use Rattle.std.proofs.Common.{get_or, map, refl, sym, ap, subst, inl, inr, arith}
use mathlib.Core.Path.{subst₂}
use Rattle.std.specs.Prelude.{MatchOption, None, Option, Some}
use Rattle.std.proofs.lemmas.List.{map-append, take_all, take_more}
use Rattle.plane.specs.{Fraction, Point, Triangulation, whole}
use Rattle.plane_theorems.specs.Ways.Chains.{IsChain, IsJoined}
use Rattle.{delaunay_shapes.specs.by_place, delaunay_ways.specs.Ways.IsWay}
use Rattle.c_calls.specs.{is_free_face, is_marked, plain_point, raw_point, RawPoint}
use Rattle.{c_calls.specs.Ways.IsRawWay, delaunay_core.specs.place_of, delaunay_core.specs.Point2}
use Rattle.c_calls.proofs.{Seen.free_by_place, Seen.sight_same, Telling.IsTold, Telling.told_more}

-- ---- the images of a list's elements are told
module _ {A B : Type 0} (f : A → B) (xs : List A) (i : ℕ) (old now : List B) where
  -- one more
  pub images_more : (d : A) → i < length xs → IsTold (map f (take i xs)) i old now
      → IsTold (map f (take (i + 1) xs)) (i + 1) old (set now i (f (get_or xs i d)))
  images_more d below told = subst (λ (bs : List B). IsTold bs (i + 1) old
      (set now i (f (get_or xs i d)))) (sym (ap (map f) (take_more xs i d below)
      ∙ map-append f (take i xs) (get_or xs i d ∷ [])))
      (told_more (map f (take i xs)) i old now (f (get_or xs i d)) told)

  -- all of them
  pub images_all : i ≡ length xs → IsTold (map f (take i xs)) i old now
      → IsTold (map f xs) (length xs) old now
  images_all at told = subst (λ (n : ℕ). IsTold (map f xs) n old now) at
      (subst (λ (ys : List A). IsTold (map f ys) i old now)
      (take_all i xs (omega (arith, at))) told)

-- ---- ways through free faces, by any name of these
module _ (t : Triangulation) (f g : ℕ → Bool) (same : (n : ℕ) → f n ≡ g n) where
  chain_same : (p q : Fraction) (inner : List Fraction) → IsChain t f p inner q
      → IsChain t g p inner q
  chain_same p q [] sees = sight_same t f g same p q sees
  chain_same p q (r ∷ rs) chain =
      (sight_same t f g same p r chain.0, chain_same r q rs chain.1)

  pub joined_same : (p q : Fraction) → IsJoined t f p q → IsJoined t g p q
  joined_same p q joined = (joined.0, chain_same p q joined.0 joined.1)

  way_same : (p q : Point) (points : List Point) → IsWay t f p q points → IsWay t g p q points
  way_same p q points way = record {
    several = way.several;
    starts = way.starts;
    ends = way.ends;
    inner = way.inner;
    taut = record {
      legs = λ k below. sight_same t f g same _ _ (way.taut.legs k below);
      taut = λ k below sees. way.taut.taut k below
          (sight_same t g f (λ n. sym (same n)) _ _ sees);
    };
    joined = joined_same (whole p) (whole q) way.joined;
  }

-- ---- what a search found is told
-- the points of C are those that were found
points_same : (ps : List (Point2 ℤ))
    → map (place_of (λ (z : ℤ). z)) ps ≡ map plain_point (map raw_point ps)
points_same [] = refl
points_same (p ∷ ps) = ap (λ (qs : List Point). place_of (λ (z : ℤ). z) p ∷ qs) (points_same ps)

-- a way that was found, or that there is none
abbrev pub IsFound : {W : Type 0} → (W → List (Point2 ℤ)) → List ℕ → Triangulation → Point → Point
    → Option W → Type 0
IsFound items bytes t p q found = MatchOption found
    (¬ IsJoined t (by_place (is_free_face bytes)) (whole p) (whole q))
    (λ w. IsWay t (by_place (is_free_face bytes)) p q (map (place_of (λ (z : ℤ). z)) (items w)))

module _ {W : Type 0} (found : Option W) (items : W → List (Point2 ℤ)) (bytes : List ℕ)
    (s t : Triangulation) (same : s ≡ t) (from to : RawPoint) (start end : Point2 ℤ)
    (starts : start ≡ record { x = from.x; y = from.y })
    (ends : end ≡ record { x = to.x; y = to.y })
    (is : IsFound items bytes s (place_of (λ (z : ℤ). z) start) (place_of (λ (z : ℤ). z) end) found)
  where
    is_here : (found' : Option W) → found ≡ found'
        → IsFound items bytes t (plain_point from) (plain_point to) found'
    is_here found' e =
        subst (IsFound items bytes t (plain_point from) (plain_point to)) e
        (subst (λ (u : Triangulation). IsFound items bytes u (plain_point from) (plain_point to)
        found) same (subst₂ (λ (p q : Point2 ℤ). IsFound items bytes s (place_of (λ (z : ℤ). z) p)
        (place_of (λ (z : ℤ). z) q) found) starts ends is))

    -- a way is told
    pub way_told : (w : W) → found ≡ Some w → IsRawWay t from to bytes (map raw_point (items w))
    way_told w e = inr (subst (IsWay t (is_marked bytes) (plain_point from) (plain_point to))
        (points_same (items w)) (way_same t (by_place (is_free_face bytes)) (is_marked bytes)
        (free_by_place bytes) (plain_point from) (plain_point to)
        (map (place_of (λ (z : ℤ). z)) (items w)) (is_here (Some w) e)))

    -- or that there is none
    pub no_way_told : found ≡ None → (points : List (Point2 ℤ)) → points ≡ []
        → IsRawWay t from to bytes (map raw_point points)
    no_way_told e points empty = inl (
      ap (map raw_point) empty,
      λ joined. is_here None e
          (joined_same t (is_marked bytes) (by_place (is_free_face bytes))
          (λ n. sym (free_by_place bytes n)) (whole (plain_point from)) (whole (plain_point to))
          joined),
    )
