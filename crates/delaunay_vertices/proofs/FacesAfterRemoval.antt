-- Where a vertex loses its edges, each side of a face that is made lay opposite the vertex, ends at
-- it, or is what a turned edge joins.
-- Lemmas: made_none, made_on, made_strip, full_listed, made_hole, made_turn, no_face_listed,
-- made_on_line.
use Rattle.std.proofs.Common.{◌≡◌, ◌⊎◌, ◌*◌, ◌/◌, ◌<◌, [], ◌∷◌, ◌++◌}
use Rattle.std.proofs.Common.{ℕ, List, length, map, refl, ap, subst, inl, inr, arith}
use Rattle.std.specs.Prelude.{Contains}
use Rattle.std.specs.List.{AllZip}
use Rattle.std.proofs.lemmas.List.Elements.{Contains-append_left}
use Rattle.std.proofs.lemmas.List.Sorted.{Contains-permutation, IsPermutation-sym}
use Rattle.plane.specs.{Face, face as corners, Joins, Point}
use Rattle.half_edge_links.specs.{face, FlipsTriangles, IsRound, IsValidMesh, Mesh, neighbour}
use Rattle.half_edge_links.specs.{Triangle, triangles, turn}
use Rattle.plane_theorems.specs.{FacesChange, IsFaceOf, LocalMesh}
use Rattle.plane_theorems.proofs.{Contains-cases, Contains-head, Contains-later, Contains-none}
use Rattle.plane_theorems.proofs.{face_from, turn_of_all}
use Rattle.half_edge_dcel.specs.{Contents, faces_between, FillsHole, full_faces, FullFace}
use Rattle.half_edge_dcel.specs.{HasCorners, IsMeshWithData, LosesStrip}
use Rattle.delaunay_legalization.specs.{corners_of, faces_of, outer_of}
use Rattle.delaunay_legalization.proofs.{faces_counted, FaceSums.faces_lost, FaceSums.hole_filled}
use Rattle.delaunay_legalization.proofs.{FaceChanges.contains_map, MeshStarFlips.spoke_turned}
use Rattle.delaunay_legalization.proofs.{MeshDrops.whole_faces, MeshStars.spoke_face}
use Rattle.delaunay_vertices.specs.{KeepsPairs, Pairs.IsStarSide, Pairs.MakesFaces}

-- nothing changes
pub made_none : (v : ℕ) (pairs : List (ℕ × ℕ)) (faces : List Face) → MakesFaces v pairs faces faces
made_none v pairs faces = record { each = λ i j k f. inl f }

-- each of the three sides of a face
abbrev AreStarSides : List Face → ℕ → List (ℕ × ℕ) → ℕ → ℕ → ℕ → Type 0
AreStarSides faces v pairs i j k =
    IsStarSide faces v pairs i j × IsStarSide faces v pairs j k × IsStarSide faces v pairs k i

-- ---- one change after another
module _ (v : ℕ) (first second pairs : List (ℕ × ℕ)) (has_first : KeepsPairs first pairs)
    (has_second : KeepsPairs second pairs) (old mid : List Face)
    (one : MakesFaces v first old mid) where
  first_side : (i j : ℕ) → IsStarSide old v first i j → IsStarSide old v pairs i j
  first_side i j (inl e) = inl e
  first_side i j (inr (inl p)) = inr (inl (has_first i j p))
  first_side i j (inr (inr f)) = inr (inr f)

  second_side : (i j : ℕ) → IsStarSide mid v second i j → IsStarSide old v pairs i j
  second_side i j (inl e) = inl e
  second_side i j (inr (inl p)) = inr (inl (has_second i j p))
  second_side i j (inr (inr f)) =
      elim (one.each v i j f) as
      (λ _. IsStarSide old v pairs i j) [ inl x ↦ inr (inr x) | inr x ↦ first_side i j x.1 ]

  -- after the first change, a second one makes faces with corners near v
  pub made_on : (new : List Face) → MakesFaces v second mid new → MakesFaces v pairs old new
  made_on new two = record {
    each = λ i j k f. elim (two.each i j k f) as
        (λ _. IsFaceOf old i j k ⊎ AreStarSides old v pairs i j k) [
          | inl x ↦
              elim (one.each i j k x) as
              (λ _. IsFaceOf old i j k ⊎ AreStarSides old v pairs i j k) [
                | inl y ↦ inl y
                | inr y ↦ inr (first_side i j y.0, first_side j k y.1, first_side k i y.2)
              ]
          | inr x ↦ inr (second_side i j x.0, second_side j k x.1, second_side k i x.2)
        ];
  }

-- ---- by what is made
abbrev HaveStarSides : List Face → ℕ → List (ℕ × ℕ) → List Face → Type 0
HaveStarSides faces v pairs [] = Unit {0}
HaveStarSides faces v pairs (f ∷ fs) =
    AreStarSides faces v pairs f.a f.b f.c × HaveStarSides faces v pairs fs

module _ (faces : List Face) (v : ℕ) (pairs : List (ℕ × ℕ)) where
  sides_of : (fs : List Face) → HaveStarSides faces v pairs fs → (f : Face) → Contains fs f →
      AreStarSides faces v pairs f.a f.b f.c
  sides_of [] a f c = absurd (Contains-none f c)
  sides_of (g ∷ gs) a f c = go (Contains-cases g gs f c) (sides_of gs a.1 f)
    where
      go : (g ≡ f) ⊎ Contains gs f → (Contains gs f → AreStarSides faces v pairs f.a f.b f.c) →
          AreStarSides faces v pairs f.a f.b f.c
      go (inl e) r = subst (λ (h : Face). AreStarSides faces v pairs h.a h.b h.c) e a.0
      go (inr k) r = r k

  sides_turned : (i j k : ℕ) → AreStarSides faces v pairs i j k → AreStarSides faces v pairs j k i
  sides_turned i j k x = (x.1, x.2, x.0)

  made_by : (new gone made : List Face) → FacesChange faces new gone made
      → HaveStarSides faces v pairs made → MakesFaces v pairs faces new
  made_by new gone made change all = record {
    each = λ i j k f. elim (face_from faces new gone made change i j k f) [
      | inl x ↦ inl x
      | inr x ↦ inr
          (turn_of_all made (AreStarSides faces v pairs) sides_turned (sides_of made all) i j k x)
    ];
  }

-- ---- the faces of a vertex on the hull go
-- where the strip of faces at a vertex goes, no face is made
pub made_strip : {V D U F : Type 0} (old new : Contents V D U F) (v : ℕ) (pairs : List (ℕ × ℕ))
    (n : ℕ → ℕ) (k : ℕ) → IsMeshWithData old → IsMeshWithData new → LosesStrip old new v n k
    → MakesFaces v pairs (faces_of old.mesh) (faces_of new.mesh)
made_strip old new v pairs n k before after loses =
    made_by (faces_of old.mesh) v pairs (faces_of new.mesh)
    (map corners_of (faces_between v n k)) []
    (faces_lost old new (faces_between v n k) before after loses.faces) tt

-- ---- three faces give way to one
-- a face that goes is one of the mesh
lost_face : {F : Type 0} (lost : List (FullFace F)) (gone : List Triangle)
    → AllZip HasCorners lost gone → (t : Triangle) → Contains gone t
    → (x : FullFace F) × Contains lost x × HasCorners x t
lost_face [] [] all t h = absurd (Contains-none t h)
lost_face [] (g ∷ gs) all t h = absurd all
lost_face (x ∷ xs) [] all t h = absurd all
lost_face {F = F} (x ∷ xs) (g ∷ gs) all t h = go (Contains-cases g gs t h) (lost_face xs gs all.1 t)
  where
    go : (g ≡ t) ⊎ Contains gs t
        → (Contains gs t → (y : FullFace F) × Contains xs y × HasCorners y t)
        → (y : FullFace F) × Contains (x ∷ xs) y × HasCorners y t
    go (inl e) r = (x, Contains-head x xs, subst (HasCorners x) e all.0)
    go (inr k) r = let y = r k in (y.0, Contains-later x xs y.0 y.1, y.2)

module _ {V D U F : Type 0} (c : Contents V D U F) (w : IsMeshWithData c) where
  -- a face with its data is one of the mesh
  pub full_listed : (x : FullFace F) → Contains (full_faces c) x
      → Contains (faces_of c.mesh) (corners_of x.corners)
  full_listed x h = contains_map corners_of (triangles c.mesh) x.corners
      (subst (λ (ts : List Triangle). Contains ts x.corners) (whole_faces c w)
      (contains_map (λ (y : FullFace F). y.corners) (full_faces c) x h))

  listed_turned : (x : FullFace F) (t : Triangle) → Contains (full_faces c) x → HasCorners x t →
      IsFaceOf (faces_of c.mesh) t.first t.second t.third
  listed_turned x t h (inl e) =
      inl (subst (Contains (faces_of c.mesh)) (ap corners_of e) (full_listed x h))
  listed_turned x t h (inr (inl e)) =
      inr (inl (subst (Contains (faces_of c.mesh)) (ap corners_of e) (full_listed x h)))
  listed_turned x t h (inr (inr e)) =
      inr (inr (subst (Contains (faces_of c.mesh)) (ap corners_of e) (full_listed x h)))

module _ {V D U F : Type 0} (old new : Contents V D U F) (v : ℕ) (n : ℕ → ℕ)
    (before : IsMeshWithData old) (after : IsMeshWithData new) (hole : FillsHole old new v n) where
  abbrev third : Triangle
  third = record { first = v; second = n 2; third = n 3 }

  abbrev second : Triangle
  second = record { first = v; second = n 1; third = n 2 }

  abbrev first : Triangle
  first = record { first = v; second = n 0; third = n 1 }

  was_there : (t : Triangle) → Contains (third ∷ second ∷ first ∷ []) t →
      IsFaceOf (faces_of old.mesh) t.first t.second t.third
  was_there t h =
      let x = lost_face hole.lost (third ∷ second ∷ first ∷ []) hole.lost_are t h in
      listed_turned old before x.0 t
      (Contains-permutation (hole.lost ++ hole.rest) (full_faces old) x.0
      (IsPermutation-sym (full_faces old) (hole.lost ++ hole.rest) hole.was)
      (Contains-append_left hole.lost hole.rest x.0 x.1)) x.2

  side_there : IsFaceOf (faces_of old.mesh) v (n 0) (n 1)
  side_there = was_there first (Contains-later third (second ∷ first ∷ []) first
      (Contains-later second (first ∷ []) first (Contains-head first [])))

  next_there : IsFaceOf (faces_of old.mesh) v (n 1) (n 2)
  next_there = was_there second
      (Contains-later third (second ∷ first ∷ []) second (Contains-head second (first ∷ [])))

  last_there : IsFaceOf (faces_of old.mesh) v (n 2) (n 3)
  last_there = was_there third (Contains-head third (second ∷ first ∷ []))

  -- where one face fills the hole of three, its corners were near v
  pub made_hole : (pairs : List (ℕ × ℕ)) → n 3 ≡ n 0
      → MakesFaces v pairs (faces_of old.mesh) (faces_of new.mesh)
  made_hole pairs around = made_by (faces_of old.mesh) v pairs (faces_of new.mesh)
      (map corners_of (faces_between v n 3)) (corners (n 0) (n 1) (n 2) ∷ [])
      (hole_filled old new v n before after hole) (
        (
          inr (inr side_there),
          inr (inr next_there),
          inr
              (inr (subst (IsFaceOf (faces_of old.mesh) v (n 2)) around last_there)),
        ),
        tt,
      )

-- ---- an edge of the vertex is turned
-- the edge after h, round the vertex where they start, between two inner faces
pub made_turn : (points : List Point) (m new : Mesh) → IsValidMesh m
    → LocalMesh points (faces_of m) (outer_of m) → (v h count : ℕ) → IsRound m v h count
    → 0 < face m h → 0 < face m (turn m h) → FlipsTriangles m new (2 * (turn m h / 2))
    → MakesFaces v ((neighbour m h 0, neighbour m h 2) ∷ []) (faces_of m) (faces_of new)
made_turn points m new valid local v h count round left right change =
    made_by (faces_of m) v pairs (faces_of new)
    (corners v (nb 0) (nb 1) ∷ corners v (nb 1) (nb 2) ∷ [])
    (corners v (nb 0) (nb 2) ∷ corners (nb 0) (nb 1) (nb 2) ∷ [])
    (spoke_turned points m valid local v h count round 0 left right new change) (
      (inl (inl refl), inr (inl listed), inl (inr refl)),
      (
        (
          inr (inr (spoke_face points m valid local v h count round 0 left)),
          inr (inr (spoke_face points m valid local v h count round 1 right)),
          inr (inl (inr (Contains-head (nb 0, nb 2) []))),
        ),
        tt,
      ),
    )
  where
    nb : ℕ → ℕ
    nb = neighbour m h

    pairs : List (ℕ × ℕ)
    pairs = (nb 0, nb 2) ∷ []

    listed : Joins pairs (nb 0) (nb 2)
    listed = inl (Contains-head (nb 0, nb 2) [])

-- ---- on a line there are no faces
-- without inner faces the mesh lists none
pub no_face_listed : {V D U F : Type 0} (c : Contents V D U F) → IsMeshWithData c
    → length c.faces ≡ 0 → (i j k : ℕ) → ¬ IsFaceOf (faces_of c.mesh) i j k
no_face_listed c w none i j k f = elim f as (λ _. ⊥) [
  | inl h ↦ (let l = h.1 in omega (arith, l, empty))
  | inr x ↦ elim x as (λ _. ⊥) [
    | inl h ↦ (let l = h.1 in omega (arith, l, empty))
    | inr h ↦ (let l = h.1 in omega (arith, l, empty))
  ]
]
  where
    empty : length (faces_of c.mesh) ≡ 0
    empty = let n = faces_counted c w in omega (arith, n, none)

-- on a line no face is made
pub made_on_line :
    {V D U F : Type 0} (c : Contents V D U F) (v : ℕ) (pairs : List (ℕ × ℕ)) (faces : List Face)
    → IsMeshWithData c → length c.faces ≡ 0 → MakesFaces v pairs faces (faces_of c.mesh)
made_on_line c v pairs faces w none =
    record { each = λ i j k f. absurd (no_face_listed c w none i j k f) }
