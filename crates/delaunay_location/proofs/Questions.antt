-- What answers to a few side tests say of the edges and faces of a mesh.
-- Lemmas: within_edge, left_of_edge, located_left, clear, inside_face, turns_as_face,
-- next_face.
use Rattle.std.proofs.Common.{◌≡◌, ◌↔◌, ℕ, ◌+◌, ◌<◌, ◌≤◌, arith, List, sym, subst, inl, inr}
use Rattle.std.proofs.lemmas.Bool.{cases_eq}
use Rattle.plane.specs.{InsideTriangle, place, Point, TurnsLeft, whole, WithinSegment}
use Rattle.half_edge_links.specs.{face, face_edge, Mesh, next, origin, prev, rev}
use Rattle.delaunay_legalization.specs.{IsInsideFaceOf, IsMeshEdge, IsMeshFace, IsWithinEdge}
use Rattle.delaunay_legalization.specs.{point_at}
use Rattle.delaunay_location.specs.{Locates, Location.IsClearOfEdge, OutsideOfConvexHull}

module _ (points : List Point) (m : Mesh) (p a b : Point) (e : ℕ)
    (from : a ≡ point_at points (origin m e)) (to : b ≡ point_at points (origin m (rev e))) where
  -- what is asked of the positions of an edge's ends is asked of the edge
  pub within_edge : WithinSegment (whole a) (whole b) (whole p) ↔ IsWithinEdge points m p e
  within_edge = ((λ w. rw (← from, ← to) w), (λ w. rw (from, to) w))

  -- the ends and p turn left exactly if p is on the left of the edge
  pub left_of_edge : TurnsLeft (whole a) (whole b) (whole p)
      ↔ TurnsLeft (place points (origin m e)) (place points (origin m (rev e))) (whole p)
  left_of_edge = ((λ w. rw (← from, ← to) w), (λ w. rw (from, to) w))

  -- a position on the left of an outer edge is located outside the hull, by this edge
  pub located_left : IsMeshEdge points m e → face m e ≡ 0 → TurnsLeft (whole a) (whole b) (whole p)
      → Locates points m p (OutsideOfConvexHull e)
  located_left f z w =
      record { handle = (f.within, z); location = ((f.joined, f.bare z), inl (left_of_edge.0 w)) }

  -- an edge that p is not within is clear of p, unless it is an outer one with p on its left
  pub clear : ¬ WithinSegment (whole a) (whole b) (whole p)
      → ¬ ((face m e ≡ 0) × TurnsLeft (whole a) (whole b) (whole p)) → IsClearOfEdge points m p e
  clear not_within not_left = record {
    not_within = λ w. not_within (within_edge.1 w);
    not_left = λ l. not_left (l.0, left_of_edge.1 l.1);
  }

module _ (points : List Point) (m : Mesh) (p a b c : Point) (f : ℕ) where
  abbrev h : ℕ
  h = face_edge m f

  -- p is inside the triangle of the corners exactly if it is inside the face
  pub inside_face : a ≡ point_at points (origin m h) → b ≡ point_at points (origin m (next m h))
      → c ≡ point_at points (origin m (prev m h))
      → InsideTriangle (whole a) (whole b) (whole c) (whole p) ↔ IsInsideFaceOf points m p h
  inside_face first second third =
      ((λ w. rw (← first, ← second, ← third) w), (λ w. rw (first, second, third) w))

-- the corners of a face of the mesh turn left
pub turns_as_face : {points : List Point} {m : Mesh} {a b c : Point} {f : ℕ}
    → IsMeshFace points m f → a ≡ point_at points (origin m (face_edge m f))
    → b ≡ point_at points (origin m (next m (face_edge m f)))
    → c ≡ point_at points (origin m (prev m (face_edge m f)))
    → TurnsLeft (whole a) (whole b) (whole c)
turns_as_face s first second third = rw (first, second, third) s.turning

-- what holds of each face up to i, and of the next one
pub next_face : (P : ℕ → Type 0) (i : ℕ) → ((f : ℕ) → 0 < f → f ≤ i → P f) → P (i + 1) → (f : ℕ)
    → 0 < f → f ≤ i + 1 → P f
next_face P i before here f positive h = elim
    (cases_eq f (i + 1)) [ inl e ↦ subst P (sym e) here | inr n ↦ before f positive (omega arith) ]
