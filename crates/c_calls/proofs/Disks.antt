-- The corners of faces, and the flags of their disks.
-- Lemmas: corner_at, turn_same, told_same, corners_in_range, corners_turn, stays_told, passes_told.
use Rattle.std.proofs.Common.{◌≡◌, ◌∙◌, ◌<◌, ◌+◌, ◌-◌, ℕ, List, length, map, sym, ap, subst, arith}
use Rattle.std.proofs.Common.{◌⊎◌, inl, inr, refl}
use Rattle.std.specs.Prelude.{pos, Some, slice_get, slice_index_or, IsSomeAnd, Bool, true, false}
use Rattle.std.proofs.lemmas.List.{get_or-map, length-map}
use Rattle.std.proofs.lemmas.List.Elements.{All-get_or, All-map}
use Rattle.plane.specs.{InRange, Point, TurnsLeft, whole}
use Rattle.half_edge_links.specs.{face_edge, next, origin, prev, triangle_at}
use Rattle.delaunay_legalization.specs.{corners_of, faces_of, IsTriangulated, point_at}
use Rattle.{delaunay_legalization.specs.State.State, delaunay_legalization.specs.triangulation_of}
use Rattle.{c_calls.specs.IsFlagAt, exact_predicates.specs.Sides, exact_predicates.specs.TellsDisk}
use Rattle.{c_calls.proofs.Sides.face_read, delaunay_legalization.proofs.mesh_face}

-- a corner that is read from a list of their positions
pub corner_at : {A : Type 0} (f : A → Point) (xs : List A) (d : A) (ps : List Point) (i : ℕ)
    → map f xs ≡ ps → i < length ps → f (slice_index_or xs i d) ≡ point_at ps i
corner_at f xs d ps i e w = sym (get_or-map f xs i d (record { x = pos 0; y = pos 0 })
    (subst (λ (n : ℕ). i < n) (sym (ap length e) ∙ length-map xs f) w))
    ∙ ap (λ l. point_at l i) e

pub turn_same : {a b c a' b' c' : Point} → a' ≡ a → b' ≡ b → c' ≡ c
    → TurnsLeft (whole a) (whole b) (whole c) → TurnsLeft (whole a') (whole b') (whole c')
turn_same {a = a} {b = b} {c = c} {a' = a'} {b' = b'} {c' = c'} e d f h =
    subst (λ p. TurnsLeft (whole p) (whole b') (whole c')) (sym e)
    (subst (λ p. TurnsLeft (whole a) (whole p) (whole c')) (sym d)
    (subst (λ p. TurnsLeft (whole a) (whole b) (whole p)) (sym f) h))

pub told_same : (sides : Sides) {a b c a' b' c' : Point} {t t' : Bool} → a' ≡ a → b' ≡ b
    → c' ≡ c → t' ≡ t → TellsDisk sides a' b' c' t' → TellsDisk sides a b c t
told_same sides {a = a} {b = b} {c = c} {a' = a'} {b' = b'} {c' = c'} {t = t} {t' = t'} e d f h told
    = subst (λ p. TellsDisk sides p b c t) e (subst (λ p. TellsDisk sides a' p c t) d
    (subst (λ p. TellsDisk sides a' b' p t) f (subst (λ k. TellsDisk sides a' b' c' k) h told)))

module _ {V D U F : Type 0} (place : V → Point) (s : State V D U F)
    (kept : IsTriangulated place s) where
  -- the corners of an inner face, by index
  abbrev pub first : ℕ → Point
  first f = point_at (map place s.vertices) (origin s.mesh (face_edge s.mesh f))

  abbrev pub second : ℕ → Point
  second f = point_at (map place s.vertices) (origin s.mesh (next s.mesh (face_edge s.mesh f)))

  abbrev pub third : ℕ → Point
  third f = point_at (map place s.vertices) (origin s.mesh (prev s.mesh (face_edge s.mesh f)))

  in_range : (i : ℕ) → i < length (map place s.vertices)
      → InRange (point_at (map place s.vertices) i)
  in_range i h = All-get_or InRange (map place s.vertices) i (record { x = pos 0; y = pos 0 }) h
      (All-map InRange place s.vertices kept.in_range)

  pub corners_in_range : (k : ℕ) → k < length s.faces
      → InRange (first (k + 1)) × InRange (second (k + 1)) × InRange (third (k + 1))
  corners_in_range k w =
      let known = mesh_face place s kept (k + 1) (omega arith) (omega (arith, w)) in
      (in_range _ known.first, in_range _ known.second, in_range _ known.third)

  pub corners_turn : (k : ℕ) → k < length s.faces
      → TurnsLeft (whole (first (k + 1))) (whole (second (k + 1))) (whole (third (k + 1)))
  corners_turn k w = (mesh_face place s kept (k + 1) (omega arith) (omega (arith, w))).turning

  same_place : (k : ℕ) → (k + 1) - 1 ≡ k
  same_place k = omega arith

  listed : (k : ℕ) → k < length s.faces
      → slice_get (faces_of s.mesh) k ≡ Some (corners_of (triangle_at s.mesh
      (face_edge s.mesh (k + 1))))
  listed k w = subst (λ (n : ℕ). slice_get (faces_of s.mesh) n
      ≡ Some (corners_of (triangle_at s.mesh (face_edge s.mesh (k + 1))))) (same_place k)
      (face_read place s kept (k + 1) (omega arith) (omega (arith, w)))

  pub stays_told : (sides : Sides) (k : ℕ) → k < length s.faces
      → TellsDisk sides (first (k + 1)) (second (k + 1)) (third (k + 1)) true
      → IsFlagAt (triangulation_of place s) sides k 0
  stays_told sides k w told = let flag : ℕ = 0 in subst (λ o. IsSomeAnd o (λ f.
      ((flag ≡ 0) × TellsDisk sides (point_at (map place s.vertices) f.a)
      (point_at (map place s.vertices) f.b) (point_at (map place s.vertices) f.c) true)
      ⊎ ((flag ≡ 1) × TellsDisk sides (point_at (map place s.vertices) f.a)
      (point_at (map place s.vertices) f.b) (point_at (map place s.vertices) f.c) false)))
      (sym (listed k w)) (inl (refl, told))

  pub passes_told : (sides : Sides) (k : ℕ) → k < length s.faces
      → TellsDisk sides (first (k + 1)) (second (k + 1)) (third (k + 1)) false
      → IsFlagAt (triangulation_of place s) sides k 1
  passes_told sides k w told = let flag : ℕ = 1 in subst (λ o. IsSomeAnd o (λ f.
      ((flag ≡ 0) × TellsDisk sides (point_at (map place s.vertices) f.a)
      (point_at (map place s.vertices) f.b) (point_at (map place s.vertices) f.c) true)
      ⊎ ((flag ≡ 1) × TellsDisk sides (point_at (map place s.vertices) f.a)
      (point_at (map place s.vertices) f.b) (point_at (map place s.vertices) f.c) false)))
      (sym (listed k w)) (inr (refl, told))
