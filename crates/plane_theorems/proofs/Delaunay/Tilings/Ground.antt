-- What the global theorems use of a tiling, from its definition; and the theorems in the words of
-- the definitions.
-- tiling: a triangulation that tiles its hull, as a `Tiling`
-- inside_of, triangle_of_inside: `InsideTriangle` gives `InOpen` for a left-turning triple; and
--   back
-- closed_of, triangle_of_closed: `InTriangle` gives `Closed` for such a triple; and back
-- sides_of faces: the directed sides of all faces
-- side_listed, face_of_side: a side of a face is listed there; what is listed there has a face
-- faces_same: two faces with a common point inside are one
-- face_in_hull: a point of a closed face is in the hull
use Rattle.std.proofs.Common.{◌≡◌, ◌<◌, [], ◌∷◌, ◌∙◌}
use Rattle.std.proofs.Common.{ℕ, List, length, map, refl, arith, ap, sym, subst}
use mathlib.Core.Logic.{◌⊎◌, inl, inr}
use native.Mathlib.Decide.{dec_lt}
use Rattle.std.specs.Prelude.{pos, ◌<ℤ◌, Contains, slice_index_or}
use Rattle.std.proofs.lemmas.List.{get_or_default, get_or-map, length-map}
use Rattle.plane.specs.{AreApart, Face, face, Fraction, InHull, InsideCorners, InsideTriangle}
use Rattle.plane.specs.{InTriangle, IsFace, IsNotNegative, IsVertex, Point, TilesHull}
use Rattle.plane.specs.{Triangulation, TurnsLeft, vertex, whole}
use Rattle.plane.proofs.{if_left, inside_is_brackets, IsTurned, three_weights, turned_face}
use Rattle.plane.proofs.{Triangles.in_is_brackets, turns_of_one}
use Rattle.plane_theorems.proofs.Delaunay.Points.Bracket.{above_if_left, bracket}
use Rattle.plane_theorems.proofs.Delaunay.Points.Hull.{corner_in_hull, nudge_in_hull}
use Rattle.plane_theorems.proofs.Delaunay.Points.Hull.{triangle_in_hull}
use Rattle.plane_theorems.proofs.Delaunay.Points.Members.{contained, Member, member}
use Rattle.plane_theorems.proofs.Delaunay.Points.Nudges.{Closed, InOpen}
use Rattle.plane_theorems.proofs.Delaunay.Tilings.Faces.{Tiling}

-- ---- triangles by brackets
-- inside of a left-turning triangle is on the left of its sides
pub inside_of : (a b c p : Fraction) → TurnsLeft a b c → InsideTriangle a b c p → InOpen a b c p
unfolding bracket
inside_of a b c p t h = let s = (inside_is_brackets a b c p (if_left a b c t)).0 h in
    record { first = s.0; second = s.1; third = s.2 }

-- a point left of the three sides of a left-turning triple is a mean under positive weights
pub triangle_of_inside : (a b c p : Fraction) → TurnsLeft a b c → InOpen a b c p
    → InsideTriangle a b c p
unfolding bracket
triangle_of_inside a b c p t h =
    (inside_is_brackets a b c p (if_left a b c t)).1 (h.first, h.second, h.third)

-- a point of the closed triangle of a left-turning triple is right of none of its sides
pub closed_of : (a b c p : Fraction) → TurnsLeft a b c → InTriangle a b c p → Closed a b c p
unfolding bracket
closed_of a b c p t h = let s = (in_is_brackets a b c p (if_left a b c t)).0 h in
    record { first = s.0; second = s.1; third = s.2 }

-- a point right of none of the sides of a left-turning triple is in its closed triangle
pub triangle_of_closed : (a b c p : Fraction) → TurnsLeft a b c → Closed a b c p
    → InTriangle a b c p
unfolding bracket
triangle_of_closed a b c p t h =
    (in_is_brackets a b c p (if_left a b c t)).1 (h.first, h.second, h.third)

-- ---- the sides of faces, in a list
-- the sides of all faces
abbrev pub sides_of : List Face → List (ℕ × ℕ)
sides_of [] = []
sides_of (f ∷ fs) = (f.a, f.b) ∷ (f.b, f.c) ∷ (f.c, f.a) ∷ sides_of fs

side_first : (i j k : ℕ) (fs : List Face) → Member (face i j k) fs → Member (i, j) (sides_of fs)
side_first i j k [] m = absurd m
side_first i j k (f ∷ fs) (inl e) = inl (ap (λ (g : Face). (g.a, g.b)) e)
side_first i j k (f ∷ fs) (inr m) = inr (inr (inr (side_first i j k fs m)))

side_second : (i j k : ℕ) (fs : List Face) → Member (face i j k) fs → Member (j, k) (sides_of fs)
side_second i j k [] m = absurd m
side_second i j k (f ∷ fs) (inl e) = inr (inl (ap (λ (g : Face). (g.b, g.c)) e))
side_second i j k (f ∷ fs) (inr m) = inr (inr (inr (side_second i j k fs m)))

side_third : (i j k : ℕ) (fs : List Face) → Member (face i j k) fs → Member (k, i) (sides_of fs)
side_third i j k [] m = absurd m
side_third i j k (f ∷ fs) (inl e) = inr (inr (inl (ap (λ (g : Face). (g.c, g.a)) e)))
side_third i j k (f ∷ fs) (inr m) = inr (inr (inr (side_third i j k fs m)))

side_owner : (i j : ℕ) (fs : List Face) → Member (i, j) (sides_of fs)
    → (k : ℕ) × (Member (face i j k) fs ⊎ (Member (face j k i) fs ⊎ Member (face k i j) fs))
side_owner i j [] m = absurd m
side_owner i j (f ∷ fs) (inl e) = (f.c, inl (inl (ap (λ (s : ℕ × ℕ). face s.0 s.1 f.c) e)))
side_owner i j (f ∷ fs) (inr (inl e)) =
    (f.a, inr (inr (inl (ap (λ (s : ℕ × ℕ). face f.a s.0 s.1) e))))
side_owner i j (f ∷ fs) (inr (inr (inl e))) =
    (f.b, inr (inl (inl (ap (λ (s : ℕ × ℕ). face s.1 f.b s.0) e))))
side_owner i j (f ∷ fs) (inr (inr (inr m))) = go (side_owner i j fs m)
  where
    go : (k : ℕ) × (Member (face i j k) fs ⊎ (Member (face j k i) fs ⊎ Member (face k i j) fs))
        → (k : ℕ) × (Member (face i j k) (f ∷ fs)
        ⊎ (Member (face j k i) (f ∷ fs) ⊎ Member (face k i j) (f ∷ fs)))
    go (k, inl m) = (k, inl (inr m))
    go (k, inr (inl m)) = (k, inr (inl (inr m)))
    go (k, inr (inr m)) = (k, inr (inr (inr m)))

-- each way in the list of the faces' sides has a face on its left
pub face_of_side : (t : Triangulation) (i j : ℕ) → Member (i, j) (sides_of t.faces)
    → (k : ℕ) × IsFace t i j k
face_of_side t i j m = go (side_owner i j t.faces m)
  where
    go : (k : ℕ) × (Member (face i j k) t.faces
        ⊎ (Member (face j k i) t.faces ⊎ Member (face k i j) t.faces)) → (k : ℕ) × IsFace t i j k
    go (k, inl m) = (k, inl (contained (face i j k) t.faces m))
    go (k, inr (inl m)) = (k, inr (inl (contained (face j k i) t.faces m)))
    go (k, inr (inr m)) = (k, inr (inr (contained (face k i j) t.faces m)))

-- ---- two faces with a common point strictly inside are one
data Order (k l : ℕ) : Type 0 where
  before : k < l → Order k l
  equal : k ≡ l → Order k l
  after : l < k → Order k l

order : (k l : ℕ) → Order k l
order k l = go (dec_lt k l) (dec_lt l k)
  where
    go : Dec (k < l) → Dec (l < k) → Order k l
    go (yes h) d = before h
    go (no n) (yes h) = after h
    go (no n) (no m) = equal (omega arith)

module _ (t : Triangulation) (h : TilesHull t) where
  listed_same : (f g : Face) → Contains t.faces f → Contains t.faces g → (p : Fraction)
      → InsideCorners t f.a f.b f.c p → InsideCorners t g.a g.b g.c p → f ≡ g
  listed_same f g (k, hk, ek) (l, hl, el) p in_f in_g = go (order k l)
    where
      at_k : slice_index_or t.faces k f ≡ f
      at_k = ek

      at_l : slice_index_or t.faces l f ≡ g
      at_l = get_or_default t.faces l f g hl ∙ el

      go : Order k l → f ≡ g
      go (before o) = absurd (subst (λ (g : Face). AreApart t f g) at_l (subst (λ (e :
          Face). AreApart t e (slice_index_or t.faces l f)) at_k (h.apart k l f o hl)) p in_f in_g)
      go (equal e) = sym at_k ∙ ap (λ n. slice_index_or t.faces n f) e ∙ at_l
      go (after o) = absurd (subst (λ (e : Face). AreApart t g e) at_k (subst (λ (e :
          Face). AreApart t e (slice_index_or t.faces k f)) at_l (h.apart l k f o hk)) p in_g in_f)

  -- a face in the list, and the turned triple
  record Listed (i j k : ℕ) : Type 0 where
    f : Face
    is_listed : Contains t.faces f
    is_turned : IsTurned f.a f.b f.c i j k

  listing : (i j k : ℕ) → IsFace t i j k → Listed i j k
  listing i j k (inl c) =
      record { f = face i j k; is_listed = c; is_turned = inl (refl, refl, refl) }
  listing i j k (inr (inl c)) =
      record { f = face j k i; is_listed = c; is_turned = inr (inr (refl, refl, refl)) }
  listing i j k (inr (inr c)) =
      record { f = face k i j; is_listed = c; is_turned = inr (inl (refl, refl, refl)) }

  untwisted : (a b c i j k : ℕ) (p : Fraction) → IsTurned a b c i j k
      → InOpen (vertex t i) (vertex t j) (vertex t k) p
      → InOpen (vertex t a) (vertex t b) (vertex t c) p
  untwisted a b c i j k p (inl e) s = record {
    first = moved i j a b e.0 e.1 s.first;
    second = moved j k b c e.1 e.2 s.second;
    third = moved k i c a e.2 e.0 s.third;
  }
    where
      moved : (i j a b : ℕ) → i ≡ a → j ≡ b → pos 0 <ℤ bracket (vertex t i) (vertex t j) p
          → pos 0 <ℤ bracket (vertex t a) (vertex t b) p
      moved i j a b e d s =
          mathlib.Core.Path.subst₂ (λ i j. pos 0 <ℤ bracket (vertex t i) (vertex t j) p) e d s
  untwisted a b c i j k p (inr (inl e)) s = record {
    first = moved k i a b e.2 e.0 s.third;
    second = moved i j b c e.0 e.1 s.first;
    third = moved j k c a e.1 e.2 s.second;
  }
    where
      moved : (i j a b : ℕ) → i ≡ a → j ≡ b → pos 0 <ℤ bracket (vertex t i) (vertex t j) p
          → pos 0 <ℤ bracket (vertex t a) (vertex t b) p
      moved i j a b e d s =
          mathlib.Core.Path.subst₂ (λ i j. pos 0 <ℤ bracket (vertex t i) (vertex t j) p) e d s
  untwisted a b c i j k p (inr (inr e)) s = record {
    first = moved j k a b e.1 e.2 s.second;
    second = moved k i b c e.2 e.0 s.third;
    third = moved i j c a e.0 e.1 s.first;
  }
    where
      moved : (i j a b : ℕ) → i ≡ a → j ≡ b → pos 0 <ℤ bracket (vertex t i) (vertex t j) p
          → pos 0 <ℤ bracket (vertex t a) (vertex t b) p
      moved i j a b e d s =
          mathlib.Core.Path.subst₂ (λ i j. pos 0 <ℤ bracket (vertex t i) (vertex t j) p) e d s

  turned_turns : (f : Face) → Contains t.faces f
      → TurnsLeft (vertex t f.a) (vertex t f.b) (vertex t f.c)
  turned_turns f c = h.turning f.a f.b f.c (inl c)

  -- two faces with a common point inside are one, from whichever corner
  pub faces_same : (a b c d e f : ℕ) → IsFace t a b c → IsFace t d e f → (p : Fraction)
      → InOpen (vertex t a) (vertex t b) (vertex t c) p
      → InOpen (vertex t d) (vertex t e) (vertex t f) p → IsTurned a b c d e f
  faces_same a b c d e f g g' p in_g in_g' = go (listing a b c g) (listing d e f g')
    where
      go : Listed a b c → Listed d e f → IsTurned a b c d e f
      go l m =
          let same : l.f ≡ m.f = listed_same l.f m.f l.is_listed m.is_listed p
          (triangle_of_inside _ _ _ p (turned_turns l.f l.is_listed)
          (untwisted l.f.a l.f.b l.f.c a b c p l.is_turned in_g))
          (triangle_of_inside _ _ _ p (turned_turns m.f m.is_listed)
          (untwisted m.f.a m.f.b m.f.c d e f p m.is_turned in_g')) in
          turns_of_one l.f.a l.f.b l.f.c a b c d e f l.is_turned
          (subst (λ (g : Face). IsTurned g.a g.b g.c d e f) (sym same) m.is_turned)

  -- the point 0, 0
  abbrev pub origin : Point
  origin = record { x = pos 0; y = pos 0 }

  -- a side of a face is listed
  pub side_listed : (i j k : ℕ) → IsFace t i j k → Member (i, j) (sides_of t.faces)
  side_listed i j k (inl c) = side_first i j k t.faces (member (face i j k) t.faces c)
  side_listed i j k (inr (inl c)) = side_third j k i t.faces (member (face j k i) t.faces c)
  side_listed i j k (inr (inr c)) = side_second k i j t.faces (member (face k i j) t.faces c)

  -- an index of points is one of the fraction points
  pub in_map : (i : ℕ) → i < length t.points → i < length (map whole t.points)
  in_map i v = omega (arith, length-map t.points whole)

  -- a point of a closed face is in the hull
  pub face_in_hull : (i j k : ℕ) → IsFace t i j k → (p : Fraction)
      → Closed (vertex t i) (vertex t j) (vertex t k) p → InHull (map whole t.points) p
  face_in_hull i j k f p c = triangle_in_hull (map whole t.points) i j k (whole origin) (vertex t i)
      (vertex t j) (vertex t k) p (in_map i v.0) (in_map j v.1) (in_map k v.2)
      (get_or-map whole t.points i origin (whole origin) v.0) (get_or-map whole t.points j origin
      (whole origin) v.1) (get_or-map whole t.points k origin (whole origin) v.2)
      (three_weights IsNotNegative (vertex t i) (vertex t j) (vertex t k) p
      (triangle_of_closed _ _ _ p (h.turning i j k f) c))
    where
      v : IsVertex t i × IsVertex t j × IsVertex t k
      v = h.corners i j k f

  -- a triangulation that tiles its hull, as a tiling
  unfoldable pub tiling : Tiling
  tiling = record {
    at = vertex t;
    IsVertex = IsVertex t;
    IsFace = IsFace t;
    InHull = InHull (map whole t.points);
    sides = sides_of t.faces;
    whole = λ i. refl;
    corner = λ i j k f. (h.corners i j k f).0;
    turned = turned_face t;
    turns = λ i j k f. above_if_left _ _ _ (h.turning i j k f);
    listed = side_listed;
    side_face = face_of_side t;
    vertex_in_hull = λ i v. corner_in_hull (map whole t.points) i (whole origin) (vertex t i)
        (in_map i v) (get_or-map whole t.points i origin (whole origin) v);
    nudge_in_hull = nudge_in_hull (map whole t.points);
    closed_in_hull = face_in_hull;
    covering = λ p m. let c = h.covering p m in
        (c.0, c.1, c.2, c.3, closed_of _ _ _ p (h.turning c.0 c.1 c.2 c.3) c.4);
    apart = faces_same;
    empty = λ i j k n f v c. h.empty i j k n f v (triangle_of_closed _ _ _ _ (h.turning i j k f) c);
  }
