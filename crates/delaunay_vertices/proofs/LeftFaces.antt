-- The faces that a vertex leaves: each was there, or each of its sides lay opposite the vertex or
-- is what a turned edge joins.
-- Lemmas: faces_leave, plane_faces_leave, line_faces_leave, freed_faces_leave.
use Rattle.std.proofs.Common.{◌≡◌, ◌≢◌, ◌⊎◌, ◌-◌, ◌<◌, ◌∙◌}
use Rattle.std.proofs.Common.{ℕ, List, length, map, sym, ap, subst, inl, inr, arith}
use Rattle.std.specs.Prelude.{Bool, Contains}
use Rattle.std.proofs.lemmas.List.{length-map}
use Rattle.{plane.specs.Face, plane.specs.Point, plane_theorems.specs.IsFaceOf}
use Rattle.half_edge_links.specs.{moved, Triangle, triangles}
use Rattle.plane_theorems.proofs.{Contains-none, turn_of_all}
use Rattle.half_edge_dcel.specs.{Contents, DropsVertex, full_faces, FullFace, IsMeshWithData}
use Rattle.half_edge_dcel.specs.{LeavesMesh, renumbered_face}
use Rattle.delaunay_legalization.specs.{corners_of, faces_of, IsTriangulated, outer_of, state_of}
use Rattle.delaunay_legalization.proofs.{contains_map_from, MeshDrops.whole_faces, turned_faces}
use Rattle.delaunay_vertices.specs.{former_index, FreesEdgesAt, IsolatesVertex, Star.IsMeshWithout}
use Rattle.delaunay_vertices.specs.Pairs.{IsHoleSide, IsStarSide, LeavesFaces}
use Rattle.delaunay_vertices.proofs.FacesAfterRemoval.{full_listed, no_face_listed}
use Rattle.delaunay_vertices.proofs.LeavingConstraints.{there_and_back}

-- a face where no vertex is one of it
without_corners : (v : ℕ) (points : List Point) (faces : List Face) (outer : List (ℕ × ℕ))
    → IsMeshWithout v points faces outer → (f : Face) → Contains faces f
    → ((f.a < length points) × (f.a ≢ v)) × ((f.b < length points) × (f.b ≢ v))
    × ((f.c < length points) × (f.c ≢ v))
without_corners v points faces outer (inl m) f h = m.corners f h
without_corners v points faces outer (inr m) f h =
    absurd (Contains-none f (subst (λ (fs : List Face). Contains fs f) m.0 h))

module _ {V D U F : Type 0} (points : List Point) (old mid new : Contents V D U F) (v : ℕ)
    (value : V) (before : IsMeshWithData old) (middle : IsMeshWithData mid)
    (after : IsMeshWithData new) (pairs : List (ℕ × ℕ))
    (isolates : IsolatesVertex points old mid v pairs) (count : length points ≡ length old.vertices)
    (here : v < length old.vertices) (drops : DropsVertex mid new v value) where
  abbrev last : ℕ
  last = length old.vertices - 1

  -- i j k was a face, or each of its sides is one of the hole
  abbrev Was : ℕ → ℕ → ℕ → Type 0
  Was i j k = IsFaceOf (faces_of old.mesh) i j k ⊎
      (IsHoleSide (faces_of old.mesh) v pairs i j × IsHoleSide (faces_of old.mesh) v pairs j k ×
      IsHoleSide (faces_of old.mesh) v pairs k i)

  in_hole : (i j : ℕ) → i ≢ v → j ≢ v → IsStarSide (faces_of old.mesh) v pairs i j →
      IsHoleSide (faces_of old.mesh) v pairs i j
  in_hole i j a b (inl (inl e)) = absurd (a e)
  in_hole i j a b (inl (inr e)) = absurd (b e)
  in_hole i j a b (inr h) = h

  -- a face without its new indexes
  came : (g : Face) → Contains (faces_of mid.mesh) g → Was g.a g.b g.c
  came g h =
      let off =
      without_corners v points (faces_of mid.mesh) (outer_of mid.mesh) isolates.shape g h in
      elim (isolates.beside.made.each g.a g.b g.c (inl h)) as (λ _. Was g.a g.b g.c) [
        | inl x ↦ inl x
        | inr x ↦ inr (
          in_hole g.a g.b off.0.1 off.1.1 x.0,
          in_hole g.b g.c off.1.1 off.2.1 x.1,
          in_hole g.c g.a off.2.1 off.0.1 x.2,
        )
      ]

  -- the former index of a vertex's new index is its own
  back : (k : ℕ) → (k < length points) × (k ≢ v) → former_index v last (moved last v k) ≡ k
  back k (within, other) =
      (there_and_back v last k (omega (arith, here)) (omega (arith, within, count)) other).1

  -- i j k was so under the former indexes of its corners
  abbrev Now : ℕ → ℕ → ℕ → Type 0
  Now i j k = Was (former_index v last i) (former_index v last j) (former_index v last k)

  renamed : (g : Face) → Contains (faces_of mid.mesh) g
      → Now (moved last v g.a) (moved last v g.b) (moved last v g.c)
  renamed g h =
      let off =
      without_corners v points (faces_of mid.mesh) (outer_of mid.mesh) isolates.shape g h in
      subst (λ (x : ℕ × ℕ × ℕ). Was x.0 x.1 x.2) (λ i.
      (sym (back g.a off.0) i, sym (back g.b off.1) i, sym (back g.c off.2) i)) (came g h)

  last_is : length mid.vertices - 1 ≡ last
  last_is = ap (λ (c : Contents V D U F). length c.vertices - 1) isolates.contents

  listed : (f : Face) → Contains (faces_of new.mesh) f → Now f.a f.b f.c
  listed f h =
      let t = contains_map_from corners_of (triangles new.mesh) f h in
      let x = contains_map_from (λ (y : FullFace F). y.corners) (full_faces new) t.0
      (subst (λ (ts : List Triangle). Contains ts t.0) (sym (whole_faces new after)) t.1) in
      let y = contains_map_from (renumbered_face (length mid.vertices - 1) v) (full_faces mid) x.0
      (subst (λ (fs : List (FullFace F)). Contains fs x.0) drops.faces x.1) in
      subst (λ (g : Face). Now g.a g.b g.c)
      (ap (λ n. corners_of (renumbered_face n v y.0).corners) (sym last_is)
      ∙ ap (λ (z : FullFace F). corners_of z.corners) y.2 ∙ ap corners_of x.2 ∙ t.2)
      (renamed (corners_of y.0.corners) (full_listed mid middle y.0 y.1))

  was_turned : (i j k : ℕ) → Was i j k → Was j k i
  was_turned i j k (inl f) = inl (turned_faces (faces_of old.mesh) i j k f)
  was_turned i j k (inr x) = inr (x.1, x.2, x.0)

  -- a vertex loses its edges and goes: each face was there, or its corners are neighbours of it
  pub faces_leave : LeavesFaces (state_of old) (state_of new) v pairs
  faces_leave = record {
    each = λ i j k f. turn_of_all (faces_of new.mesh) Now
        (λ a b c. was_turned (former_index v last a) (former_index v last b)
        (former_index v last c)) listed i j k f;
  }

-- the removal of a vertex of the plane keeps each face that does not have it as a corner
pub plane_faces_leave : {V D U F : Type 0} {place : V → Point} {old mid new : Contents V D U F}
    {v : ℕ} {value : V} {pairs : List (ℕ × ℕ)} → IsTriangulated place (state_of old)
    → IsTriangulated place (state_of new) → v < length old.vertices
    → IsolatesVertex (map place old.vertices) old mid v pairs → DropsVertex mid new v value
    → LeavesFaces (state_of old) (state_of new) v pairs
plane_faces_leave {place = place} {old = old} {mid = mid} {new = new} {v = v} {value = value}
    {pairs = pairs} before after here isolates drops =
    faces_leave (map place old.vertices) old mid new v value
    (record { valid = before.valid; fits = before.fits }) isolates.whole
    (record { valid = after.valid; fits = after.fits }) pairs isolates
    (length-map old.vertices place) here drops

-- so it is of a line, which has no faces
pub line_faces_leave : {V D U F : Type 0} {old new : Contents V D U F} {v : ℕ} {value : V}
    {pairs : List (ℕ × ℕ)} → length old.faces ≡ 0 → IsMeshWithData new
    → LeavesMesh old new v value → LeavesFaces (state_of old) (state_of new) v pairs
line_faces_leave {new = new} none after leaves = record {
  each = λ i j k f. absurd (no_face_listed new after (ap (λ c. length c.faces) leaves.drops.contents
      ∙ ap (λ c. length c.faces) leaves.leaves.contents ∙ none) i j k f);
}

-- ---- before the edges of the vertex cease to be constraints
-- so it is where edges at the vertex were freed before
pub freed_faces_leave : {V D U F : Type 0} {marks : U → Bool} {old mid : Contents V D U F} {v : ℕ}
    {pairs : List (ℕ × ℕ)} (new : Contents V D U F) → FreesEdgesAt marks old mid v
    → LeavesFaces (state_of mid) (state_of new) v pairs
    → LeavesFaces (state_of old) (state_of new) v pairs
freed_faces_leave {V} {D} {U} {F} {old = old} {mid = mid} {v = v} {pairs = pairs} new frees leaves =
    let left :
    LeavesFaces (state_of (record old { undirected = mid.undirected })) (state_of new) v pairs =
    subst (λ (c : Contents V D U F). LeavesFaces (state_of c) (state_of new) v pairs)
    frees.contents leaves in
    record { each = left.each }
