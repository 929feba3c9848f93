-- Flips round a new point: only edges opposite it fail, and the circles stay empty.
-- Notions: opposite_left; IsOutside (beyond a side and outside the circle); failing_is_opposite,
-- spokes_pass, flip_stays_empty.
use Rattle.std.proofs.Common.{◌≡◌, ◌⊎◌, ◌<◌, [], ◌∷◌, ◌∙◌, ℕ, List, length, refl, sym, inl, inr}
use mathlib.Core.Logic.{◌≢◌}
use Rattle.std.specs.Prelude.{pos, ◌+ℤ◌, ◌*ℤ◌, ◌<ℤ◌}
use Rattle.std.proofs.lemmas.Bool.{cases_eq}
use Rattle.plane.specs.{Face, face, Fraction, InsideCircle, Joins, place, Point, TurnsLeft, whole}
use Rattle.plane.proofs.{◌⊕◌, ◌⊗◌, bracket, bracket-turn, bracketᵖ, circle_turned, if_left}
use Rattle.plane.proofs.{incircle, incircleᵖ, left_if, mul-pos_ℤ, pos_of_mul-pos_ℤ, ring_over}
use Rattle.plane.proofs.{Circles.inside_is_incircle, sum_is_positive, Vec3, vec3}
use Rattle.plane_theorems.specs.{AllPassBut, FacesChange, IsEmptyRound, IsFaceOf, IsMesh, LocalMesh}
use Rattle.plane_theorems.proofs.Edits.Legalization.Flipping.{failing_is_convex, one_question}
use Rattle.plane_theorems.proofs.Edits.LocalMesh.Changes.{corner_of_each, face_from}
use Rattle.plane_theorems.proofs.Edits.LocalMesh.Kept.{index_of, turning_of}
use Rattle.{plane_theorems.proofs.Tiling.Counting.corners_differ, plane_theorems.specs.Pass}
use Rattle.plane_theorems.proofs.{Tiling.Flows.no_turn, Tiling.Flows.turned, Tiling.Tiles.point_at}

-- ---- two circles
-- the circles of a b o and of a b v, compared at n
two_circles : (a b o v n : Vec3) → bracket a b v *ℤ incircle a b o n
    ≡ bracket a b o *ℤ incircle a b v n +ℤ bracket a b n *ℤ incircle a b o v
unfolding incircle bracket
two_circles a b o v n = ring_over vec3 [] (a ∷ b ∷ o ∷ v ∷ n ∷ [])
    (λ a b o v n. bracketᵖ a b v ⊗ incircleᵖ a b o n)
    (λ a b o v n. bracketᵖ a b o ⊗ incircleᵖ a b v n ⊕ bracketᵖ a b n ⊗ incircleᵖ a b o v) tt

-- so by the signs
circle_sign : (a b o v n : Vec3) → pos 0 <ℤ bracket a b o → pos 0 <ℤ bracket a b v
    → pos 0 <ℤ bracket a b n → pos 0 <ℤ incircle a b o v → pos 0 <ℤ incircle a b v n
    → pos 0 <ℤ incircle a b o n
circle_sign a b o v n abo abv abn inside deep = pos_of_mul-pos_ℤ {k = bracket a b v}
    {x = incircle a b o n} abv (rw (two_circles a b o v n)
    (sum_is_positive _ _ (mul-pos_ℤ abo deep) (mul-pos_ℤ abn inside)))

-- of two circles through a and b, what lies on the left of a b and inside that of v is inside that
-- of o, where v is inside it
pub deeper : (a b o v n : Point) → TurnsLeft (whole a) (whole b) (whole o) → TurnsLeft (whole a)
    (whole b) (whole v) → TurnsLeft (whole a) (whole b) (whole n) → InsideCircle (whole a) (whole b)
    (whole o) (whole v) → InsideCircle (whole a) (whole b) (whole v) (whole n) → InsideCircle
    (whole a) (whole b) (whole o) (whole n)
deeper a b o v n abo abv abn inside deep =
    let left =
    λ (p : Point). λ (h : TurnsLeft (whole a) (whole b) (whole p)). if_left _ _
    _ h in
    (inside_is_incircle a b o n abo).1
    (circle_sign _ _ _ _ _ (left o abo)
    (left v abv) (left n abn)
    ((inside_is_incircle a b o v abo).0 inside) ((inside_is_incircle a b v n abv).0 deep))

-- a left turn, read from its second corner
left_turned : (p q r : Fraction) → TurnsLeft p q r → TurnsLeft q r p
left_turned p q r h = left_if q r p (rw bracket-turn at (if_left p q r h))

-- the same of a circle
inside_turned : {p q r n : Fraction} → InsideCircle p q r n → InsideCircle q r p n
inside_turned {p} {q} {r} {n} h = circle_turned p q r n h

-- of two faces a b d and b c d, what is beyond the side opposite b and inside the circle is inside
-- that of a c d, where b is
inside_old : (a b c d n : Point) → TurnsLeft (whole a) (whole c) (whole d) → TurnsLeft (whole a)
    (whole b) (whole d) → TurnsLeft (whole b) (whole c) (whole d) → InsideCircle (whole a) (whole c)
    (whole d) (whole b) → (TurnsLeft (whole d) (whole a) (whole n) → InsideCircle (whole b)
    (whole d) (whole a) (whole n) → InsideCircle (whole a) (whole c) (whole d) (whole n)) ×
    (TurnsLeft (whole c) (whole d) (whole n) → InsideCircle (whole b) (whole c) (whole d) (whole n)
    → InsideCircle (whole a) (whole c) (whole d) (whole n))
inside_old a b c d n acd abd bcd failing =
    let cda = left_turned _ _ _ acd in
    let dac = left_turned _ _ _ cda in
    let dab =
    left_turned _ _ _ (left_turned _ _ _ abd) in
    let cdb = left_turned _ _ _ bcd in
    let cda_b = inside_turned failing in
    let dac_b = inside_turned cda_b in (
      (λ dan h. inside_turned (deeper d a c b n dac dab dan dac_b (inside_turned h))),
      (λ cdn h. inside_turned
          (inside_turned (deeper c d a b n cda cdb cdn cda_b (inside_turned h)))),
    )

-- ---- edges at the point
-- two numbers are the same or not
abbrev IsOrNot : ℕ → ℕ → Type 0
IsOrNot i j = (i ≡ j) ⊎ (i ≡ j → ⊥)

-- the corners of a face differ
corners_apart : (points : List Point) (faces : List Face) (outer : List (ℕ × ℕ)) → LocalMesh points
    faces outer → (i j k : ℕ) → IsFaceOf faces i j k → (i ≢ j) × (j ≢ k) × (k ≢ i)
corners_apart points faces outer m i j k f = corners_differ (point_at points) i j k
    (if_left _ _ _ (turning_of _ _ _ m i j k f))

-- an edge from the point passes
spoke_passes : (points : List Point) (faces : List Face) (outer : List (ℕ × ℕ)) (v : ℕ)
    → LocalMesh points faces outer → IsEmptyRound points faces v → (j k l : ℕ)
    → IsFaceOf faces v j k → IsFaceOf faces j v l → Pass points v j k l
spoke_passes points faces outer v m empty j k l f g = (outside, (λ h. outside (other h)))
  where
    vjk : TurnsLeft (place points v) (place points j) (place points k)
    vjk = turning_of _ _ _ m v j k f

    jvl : TurnsLeft (place points j) (place points v) (place points l)
    jvl = turning_of _ _ _ m j v l g

    not_point : l ≢ v
    not_point e = (corners_apart _ _ _ m j v l g).1 (sym e)

    outside : ¬ InsideCircle (place points v) (place points j) (place points k) (place points l)
    outside h =
        let P = point_at points in
        let vlj = left_turned _ _ _ jvl in
        let ljk = (failing_is_convex _ _ _ _ vlj vjk h).1 in
        let jkl = left_turned _ _ _ ljk in
        empty.beyond j k l f (index_of _ _ _ m j v l g).2 not_point jkl h

    other : InsideCircle (place points j) (place points v) (place points l) (place points k)
        → InsideCircle (place points v) (place points j) (place points k) (place points l)
    other = (one_question _ _ _ _ vjk jvl).1

-- each edge at the point passes
pub spokes_pass : (points : List Point) (faces : List Face) (outer : List (ℕ × ℕ)) (v : ℕ)
    → LocalMesh points faces outer → IsEmptyRound points faces v → (i j k l : ℕ)
    → IsFaceOf faces i j k → IsFaceOf faces j i l → (i ≡ v) ⊎ (j ≡ v) → Pass points i j k l
spokes_pass points faces outer v m empty i j k l f g at = elim at [
  | inl e ↦ from_first i j k l f g e
  | inr e ↦ (let x = from_first j i l k g f e in (x.1, x.0))
]
  where
    from_first : (i j k l : ℕ) → IsFaceOf faces i j k → IsFaceOf faces j i l → i ≡ v
        → Pass points i j k l
    from_first i j k l f g e = rw e (spoke_passes _ _ _ v m empty j k l (rw e at f) (rw e at g))

-- an edge that fails lies opposite the point
pub failing_is_opposite : (points : List Point) (faces : List Face) (outer : List (ℕ × ℕ))
    (a b c d v : ℕ) → LocalMesh points faces outer → IsEmptyRound points faces v
    → IsFaceOf faces a b c → IsFaceOf faces a c d → InsideCircle (place points a) (place points c)
    (place points d) (place points b) → (b ≡ v) ⊎ (d ≡ v)
failing_is_opposite points faces outer a b c d v m empty first second failing =
    go (cases_eq b v) (cases_eq d v) (cases_eq a v) (cases_eq c v)
  where
    passing : (a ≡ v) ⊎ (c ≡ v) → ⊥
    passing at =
        let cab = turned _ b c a (turned _ a b c first) in
        (spokes_pass _ _ _ v m empty a c d b second cab at).0 failing

    go : IsOrNot b v → IsOrNot d v → IsOrNot a v → IsOrNot c v → (b ≡ v) ⊎ (d ≡ v)
    go (inl e) _ _ _ = inl e
    go (inr _) (inl e) _ _ = inr e
    go (inr _) (inr _) (inl e) _ = absurd (passing (inl e))
    go (inr _) (inr _) (inr _) (inl e) = absurd (passing (inr e))
    go (inr nb) (inr nd) (inr na) (inr nc) = absurd (empty.beside a c d b second na nc nd
        (index_of _ _ _ m a b c first).1 nb failing)

-- ---- the flip of an edge that fails
-- what lies beyond the side opposite i of the face i j k is outside its circle
abbrev IsOutside : List Point → ℕ → ℕ → ℕ → ℕ → Type 0
IsOutside points v i j k = (n : ℕ) → n < length points → n ≢ v → TurnsLeft (place points j)
    (place points k) (place points n) → ¬ InsideCircle (place points i) (place points j)
    (place points k) (place points n)

-- so it is of the faces a b d and b c d that were made, seen from b, where the face a c d has no
-- corner v
made_outside : (points : List Point) (faces : List Face) (v : ℕ) → IsEmptyRound points faces v →
    (a b c d : ℕ) → IsFaceOf faces a c d → a ≢ v → c ≢ v → d ≢ v → TurnsLeft (place points a)
    (place points c) (place points d) → TurnsLeft (place points a) (place points b) (place points d)
    → TurnsLeft (place points b) (place points c) (place points d) → InsideCircle (place points a)
    (place points c) (place points d) (place points b) → IsOutside points v b d a
    × IsOutside points v b c d
made_outside points faces v empty a b c d f na nc nd acd abd bcd failing =
    let P = point_at points in
    let old = λ (n : ℕ). inside_old _ _ _ _ _ acd abd bcd failing in (
      (λ n h nv beyond inside. empty.beside a c d n f na nc nd h nv ((old n).0 beyond inside)),
      (λ n h nv beyond inside. empty.beside a c d n f na nc nd h nv ((old n).1 beyond inside)),
    )

module _ (points : List Point) (faces new : List Face) (outer : List (ℕ × ℕ)) (a b c d v : ℕ)
    (m : LocalMesh points faces outer) (first : IsFaceOf faces a b c)
    (second : IsFaceOf faces a c d) (change : FacesChange faces new (face a b c ∷ face a c d ∷ [])
    (face a b d ∷ face b c d ∷ [])) (failing : InsideCircle (place points a) (place points c)
    (place points d) (place points b)) (empty : IsEmptyRound points faces v) where
  abbrev P : ℕ → Point
  P = point_at points

  abbrev made : List Face
  made = face a b d ∷ face b c d ∷ []

  opposite : (b ≡ v) ⊎ (d ≡ v)
  opposite = failing_is_opposite _ _ _ a b c d v m empty first second failing

  -- a b c turns left
  abc : TurnsLeft (place points a) (place points b) (place points c)
  abc = turning_of _ _ _ m a b c first

  -- a c d turns left
  acd : TurnsLeft (place points a) (place points c) (place points d)
  acd = turning_of _ _ _ m a c d second

  convex : TurnsLeft (place points a) (place points b) (place points d)
      × TurnsLeft (place points b) (place points c) (place points d)
  convex = failing_is_convex _ _ _ _ abc acd failing

  apart_abc : (a ≢ b) × (b ≢ c) × (c ≢ a)
  apart_abc = corners_apart _ _ _ m a b c first

  apart_acd : (a ≢ c) × (c ≢ d) × (d ≢ a)
  apart_acd = corners_apart _ _ _ m a c d second

  apart_abd : (a ≢ b) × (b ≢ d) × (d ≢ a)
  apart_abd = corners_differ P a b d (if_left _ _ _ convex.0)

  -- the ends of the edge that failed are not the point
  not_first : a ≢ v
  not_first e = elim opposite [ inl s ↦ apart_abc.0 (e ∙ sym s) | inr s ↦ apart_acd.2 (s ∙ sym e) ]

  not_third : c ≢ v
  not_third e = elim opposite [ inl s ↦ apart_abc.1 (s ∙ sym e) | inr s ↦ apart_acd.1 (e ∙ sym s) ]

  -- ---- the circles stay empty
  abbrev HasPoint : ℕ → ℕ → ℕ → Type 0
  HasPoint i j k = (i ≡ v) ⊎ ((j ≡ v) ⊎ (k ≡ v))

  -- each face that was made has the corner v
  made_at_point : (i j k : ℕ) → IsFaceOf made i j k → HasPoint i j k
  made_at_point = corner_of_each made HasPoint (elim opposite [
    | inl e ↦ ((inr (inl e), inl e, inr (inr e)), ((inl e, inr (inr e), inr (inl e)), tt))
    | inr e ↦ ((inr (inr e), inr (inl e), inl e), ((inr (inr e), inr (inl e), inl e), tt))
  ])

  abbrev IsOutsideAt : ℕ → ℕ → ℕ → Type 0
  IsOutsideAt i j k = (i ≡ v → IsOutside points v i j k) × (j ≡ v → IsOutside points v j k i)
      × (k ≡ v → IsOutside points v k i j)

  -- of a face that was made, what lies beyond the side opposite v is outside the circle
  outside_of : IsOutsideAt a b d × IsOutsideAt b c d
  outside_of = elim opposite [ inl e ↦ if_second e | inr e ↦ if_fourth e ]
    where
      if_second : b ≡ v → IsOutsideAt a b d × IsOutsideAt b c d
      if_second e =
          let nd : d ≢ v = λ s. apart_abd.1 (e ∙ sym s) in
          let x =
          made_outside _ _ v empty a b c d second not_first not_third nd acd convex.0
          convex.1 failing in (
            ((λ s. absurd (not_first s)), (λ _. x.0), (λ s. absurd (nd s))),
            ((λ _. x.1), (λ s. absurd (not_third s)), (λ s. absurd (nd s))),
          )

      if_fourth : d ≡ v → IsOutsideAt a b d × IsOutsideAt b c d
      if_fourth e =
          let nb : b ≢ v = λ s. apart_abd.1 (s ∙ sym e) in
          let bca = left_turned _ _ _ abc in
          let bda = left_turned _ _ _ convex.0 in
          let cab = left_turned _ _ _ bca in
          let cdb = left_turned _ _ _ convex.1 in
          let dab = left_turned _ _ _ bda in
          let inside = (one_question _ _ _ _ acd cab).0 failing in
          let f = turned _ b c a (turned _ a b c first) in
          let x = made_outside _ _ v empty c d a b f not_third not_first nb cab cdb
          dab inside in (
            ((λ s. absurd (not_first s)), (λ s. absurd (nb s)), (λ _. x.1)),
            ((λ s. absurd (nb s)), (λ s. absurd (not_third s)), (λ _. x.0)),
          )

  made_is_outside : (i j k : ℕ) → IsFaceOf made i j k → i ≡ v → IsOutside points v i j k
  made_is_outside = corner_of_each made (λ i j k. i ≡ v → IsOutside points v i j k)
      (outside_of.0, (outside_of.1, tt))

  still_empty : IsEmptyRound points new v
  still_empty = record { beside = beside; beyond = beyond }
    where
      beside : (i j k n : ℕ) → IsFaceOf new i j k → i ≢ v → j ≢ v → k ≢ v → n < length points → n
          ≢ v → ¬ InsideCircle (place points i) (place points j) (place points k) (place points n)
      beside i j k n f ni nj nk h nv = elim (face_from _ new _ _ change i j k f) [
        | inl o ↦ empty.beside i j k n o ni nj nk h nv
        | inr o ↦ absurd (elim (made_at_point i j k o) [
          | inl e ↦ ni e
          | inr x ↦ elim x [ inl e ↦ nj e | inr e ↦ nk e ]
        ])
      ]

      beyond : (j k n : ℕ) → IsFaceOf new v j k → n < length points → n ≢ v
          → TurnsLeft (place points j) (place points k) (place points n)
          → ¬ InsideCircle (place points v) (place points j) (place points k) (place points n)
      beyond j k n f = elim (face_from _ new _ _ change v j k f) [
        | inl o ↦ empty.beyond j k n o
        | inr o ↦ made_is_outside v j k o refl n
      ]

-- the flip of an edge that fails keeps the circles empty
pub flip_stays_empty : (points : List Point) (faces new : List Face) (outer : List (ℕ × ℕ))
    (a b c d v : ℕ) → LocalMesh points faces outer → IsFaceOf faces a b c → IsFaceOf faces a c d
    → FacesChange faces new (face a b c ∷ face a c d ∷ []) (face a b d ∷ face b c d ∷ [])
    → InsideCircle (place points a) (place points c) (place points d) (place points b)
    → IsEmptyRound points faces v → IsEmptyRound points new v
flip_stays_empty points faces new outer a b c d v m first second change failing empty =
    still_empty _ _ new _ a b c d v m first second change failing empty

-- ---- after the insertion
-- at first the edges opposite the point are left to test
pub opposite_left :
    (points : List Point) (faces : List Face) (outer constraints left : List (ℕ × ℕ)) (v : ℕ)
    → IsMesh points faces outer → IsEmptyRound points faces v
    → ((j k : ℕ) → IsFaceOf faces v j k → Joins left j k) → AllPassBut points faces constraints left
opposite_left points faces outer constraints left v m empty there =
    elim m as (λ _. AllPassBut points faces constraints left) [
      | inl mesh ↦ in_mesh mesh
      | inr line ↦ (λ i j k l f g free untested. absurd (no_turn i j k (rw line.0 at f)))
    ]
  where
    in_mesh : LocalMesh points faces outer → AllPassBut points faces constraints left
    in_mesh mesh i j k l f g free untested =
        go (cases_eq i v) (cases_eq j v) (cases_eq k v) (cases_eq l v)
      where
        joined : (i j k : ℕ) → IsFaceOf faces i j k → k ≡ v → Joins left i j
        joined i j k f e = there i j (rw e at (turned _ j k i (turned _ i j k f)))

        go : IsOrNot i v → IsOrNot j v → IsOrNot k v → IsOrNot l v → Pass points i j k l
        go (inl e) _ _ _ = spokes_pass _ _ _ v mesh empty i j k l f g (inl e)
        go (inr _) (inl e) _ _ = spokes_pass _ _ _ v mesh empty i j k l f g (inr e)
        go (inr _) (inr _) (inl e) _ = absurd (untested (joined i j k f e))
        go (inr _) (inr _) (inr _) (inl e) =
            absurd (untested (elim (joined j i l g e) [ inl x ↦ inr x | inr x ↦ inl x ]))
        go (inr ni) (inr nj) (inr nk) (inr nl) =
            let hl = (index_of _ _ _ mesh j i l g).2 in
            let hk = (index_of _ _ _ mesh i j k f).2 in
            (empty.beside i j k l f ni nj nk hl nl, empty.beside j i l k g nj ni nl hk nk)
