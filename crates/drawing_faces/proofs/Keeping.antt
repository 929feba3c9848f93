-- The faces that are kept, by the layers of all faces.
-- Lemmas: reached_kept, all_of, named_faces.
use Rattle.std.proofs.Common.{◌≡◌, ◌≢◌, ◌+◌, ◌<◌, [], ◌∷◌, ◌⊎◌}
use Rattle.std.proofs.Common.{ℕ, suc, List, length, map, drop, get_or, true, false, eqb}
use Rattle.std.proofs.Common.{refl, sym, ap, subst, inl, inr, arith, eq-eqb, if◌then◌else◌}
use Rattle.std.specs.Prelude.{ℤ}
use Rattle.std.proofs.lemmas.Bool.{cases_eq, ne_eqb}
use Rattle.std.proofs.lemmas.List.{length-map}
use Rattle.half_edge_links.specs.{Mesh, triangle_at, triangles}
use Rattle.{delaunay_core.specs.Point2, drawing_faces.specs.declared.faces.Kept.TheVariants.Inside}
use Rattle.delaunay_legalization.specs.{corners_of, State.State, triangulation_of}
use Rattle.drawing_faces.specs.{All, AreKept, face_of, FaceCorners, faces_inside, IsLeftOut}
use Rattle.drawing_faces.specs.{MarkOpenFaces, places_of, position}
use Rattle.{drawing_faces.proofs.Flooding.told_open, plane.specs.Face}

-- where no face is left out, all are kept
all_kept : (m : Mesh) (constraints starts : List ℕ) (n : ℕ) (fs : List Face)
    → AreKept (IsLeftOut All m constraints starts) n fs fs
all_kept m constraints starts n [] = refl
all_kept m constraints starts n (f ∷ fs) =
    inr (λ e. e, (fs, refl, all_kept m constraints starts (suc n) fs))

module _ (IsOut : ℕ → Type 0) where
  -- whether the face of index f is left out is told by its number
  abbrev Tells : ℕ → ℕ → Type 0
  Tells layer f = (layer ≡ 0 → IsOut f) × (layer ≢ 0 → ¬ IsOut f)

  kept_inside : (n : ℕ) (ns : List ℕ) (cs : List FaceCorners) → length ns ≡ length cs
      → ((k : ℕ) → k < length ns → Tells (get_or ns k 0) (n + k))
      → AreKept IsOut n (map face_of cs) (map face_of (faces_inside ns cs))
  kept_inside n [] [] size tells = refl
  kept_inside n [] (c ∷ cs) size tells = absurd (omega (arith, size))
  kept_inside n (l ∷ ns) [] size tells = absurd (omega (arith, size))
  kept_inside n (l ∷ ns) (c ∷ cs) size tells =
      let moved : (k : ℕ) → n + suc k ≡ suc n + k = λ k. omega arith in
      go (kept_inside (suc n) ns cs (omega (arith, size)) (λ k h.
      subst (Tells (get_or ns k 0)) (moved k) (tells (suc k) (omega (arith, h))))) (cases_eq l 0)
    where
      here : Tells l n
      here = let same : n + 0 ≡ n = omega arith in
          subst (Tells l) same (tells 0 (omega arith))

      go : AreKept IsOut (suc n) (map face_of cs) (map face_of (faces_inside ns cs))
          → (l ≡ 0) ⊎ (l ≡ 0 → ⊥)
          → AreKept IsOut n (map face_of (c ∷ cs)) (map face_of (faces_inside (l ∷ ns) (c ∷ cs)))
      go rest (inl none) =
          let test : eqb l 0 ≡ true = eq-eqb l 0 none in
          inl (
            here.0 none,
            subst (λ b. AreKept IsOut (suc n) (map face_of cs) (map face_of
                (if b then faces_inside ns cs else c ∷ faces_inside ns cs))) (sym test) rest,
          )
      go rest (inr some) =
          let test : eqb l 0 ≡ false = ne_eqb l 0 some in
          inr (
            here.1 some,
            (
              map face_of (faces_inside ns cs),
              ap (λ b. map face_of (if b then faces_inside ns cs else c ∷ faces_inside ns cs)) test,
              rest,
            ),
          )

by_numbers : (IsOut : ℕ → Type 0) (cs : List FaceCorners) (layers : List ℕ)
    → length layers ≡ length cs + 1
    → ((f : ℕ) → f < length layers → Tells IsOut (get_or layers f 0) f)
    → AreKept IsOut 1 (map face_of cs) (map face_of (faces_inside (drop 1 layers) cs))
by_numbers IsOut cs [] size tells = absurd (omega (arith, size))
by_numbers IsOut cs (l ∷ ns) size tells =
    let moved : (k : ℕ) → suc k ≡ 1 + k = λ k. omega arith in
    kept_inside IsOut 1 ns cs (omega (arith, size)) (λ k h.
    subst (Tells IsOut (get_or ns k 0)) (moved k) (tells (suc k) (omega (arith, h))))

-- the faces inside, where numbers tell which are left out
inside_kept : {D U F : Type 0} (s : State (Point2 ℤ) D U F) (constraints starts : List ℕ)
    (cs : List FaceCorners) (layers : List ℕ)
    → map face_of cs ≡ (triangulation_of position s).faces
    → length layers ≡ length s.mesh.face_edges + 1
    → ((f : ℕ) → f < length layers
    → Tells (IsLeftOut Inside s.mesh constraints starts) (get_or layers f 0) f)
    → AreKept (IsLeftOut Inside s.mesh constraints starts) 1 (triangulation_of position s).faces
    (map face_of (faces_inside (drop 1 layers) cs))
inside_kept s constraints starts cs layers all size tells =
    let many = ap length all in
    subst (λ (fs : List Face). AreKept (IsLeftOut Inside s.mesh constraints starts) 1 fs
    (map face_of (faces_inside (drop 1 layers) cs))) all
    (by_numbers (IsLeftOut Inside s.mesh constraints starts) cs layers (omega (
      arith,
      many,
      size,
      length-map cs face_of,
      length-map (triangles s.mesh) corners_of,
      length-map s.mesh.face_edges (triangle_at s.mesh),
    )) tells)

-- the faces inside, where the others were reached
pub reached_kept : {D U F : Type 0} (s : State (Point2 ℤ) D U F) (constraints starts : List ℕ)
    (cs : List FaceCorners) (layers : List ℕ)
    → map face_of cs ≡ (triangulation_of position s).faces
    → MarkOpenFaces s.mesh constraints starts layers
    → AreKept (IsLeftOut Inside s.mesh constraints starts) 1 (triangulation_of position s).faces
    (map face_of (faces_inside (drop 1 layers) cs))
reached_kept s constraints starts cs layers all are =
    inside_kept s constraints starts cs layers all are.size
    (told_open s.mesh constraints starts layers are)

-- the same, where all are kept
pub all_of : {D U F : Type 0} (s : State (Point2 ℤ) D U F) (constraints starts : List ℕ)
    (cs : List FaceCorners) → map face_of cs ≡ (triangulation_of position s).faces
    → AreKept (IsLeftOut All s.mesh constraints starts) 1 (triangulation_of position s).faces
    (map face_of cs)
all_of s constraints starts cs all = subst (λ (fs : List Face).
    AreKept (IsLeftOut All s.mesh constraints starts) 1 (triangulation_of position s).faces fs)
    (sym all) (all_kept s.mesh constraints starts 1 (triangulation_of position s).faces)

-- names of corners, face by face
pub named_faces : (names : List ℕ) (cs : List FaceCorners)
    → map (λ c. places_of names (face_of c)) cs ≡ map (places_of names) (map face_of cs)
named_faces names [] = refl
named_faces names (c ∷ cs) =
    ap (λ rows. places_of names (face_of c) ∷ rows) (named_faces names cs)
