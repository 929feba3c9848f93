-- What the circle test tells of an edge between two faces, and of the edge opposite a vertex.
-- Notions: AreCorners, MayFlip; outer_passes, left_turn, circle_tells, read_outer_passes,
-- read_turns_left, read_tells, flips_either, stays_as_is.
use Rattle.std.proofs.Common.{◌≡◌, ◌⊎◌, ◌*◌, ◌/◌, ◌<◌, ◌∙◌, ℕ, Bool, true, false, List, length, map}
use Rattle.std.proofs.Common.{refl, sym, ap, subst, inl, inr, arith}
use Rattle.std.specs.Prelude.{◌↔◌, ℤ, IsTrue}
use Rattle.plane.specs.{InsideCircle, Joins, Point, TurnsLeft, whole}
use Rattle.half_edge_links.specs.{face, Mesh, next, origin, prev, rev}
use Rattle.delaunay_core.specs.{place_of}
use Rattle.delaunay_legalization.specs.{faces_of, IsFailing, IsTriangulated, outer_of, point_at}
use Rattle.delaunay_legalization.specs.{Around.CanTurn, Around.IsOpposite, Around.Stays, state_of}
use Rattle.delaunay_legalization.specs.{declared.around.Opposite.Opposite, Known.IsVertexSite}
use Rattle.{delaunay_legalization.specs.State.State, half_edge_dcel.specs.Contents}
use Rattle.delaunay_legalization.proofs.{Legalizing.positive, MeshEdits.face_before}
use Rattle.delaunay_legalization.proofs.OppositeTurns.{either_in, failing_either}
use Rattle.{delaunay_legalization.proofs.Questions.both_ways, plane_theorems.proofs.turning_of}
use Rattle.delaunay_legalization.proofs.MeshLegal as M

-- ---- an edge
-- directed edge e goes from one point to another, and the corners opposite it are where these are
pub record AreCorners (points : List Point) (m : Mesh) (e : ℕ) (from to left right : Point)
    : Type 0 where
  pub from_is : from ≡ point_at points (origin m e)
  pub to_is : to ≡ point_at points (origin m (rev e))
  pub left_is : left ≡ point_at points (origin m (prev m e))
  pub right_is : right ≡ point_at points (origin m (prev m (rev e)))

-- where none of two faces is the outer one, as was asked, both are inner
both_inner : {b : Bool} {f g : ℕ} → (IsTrue b ↔ ((f ≡ 0) ⊎ (g ≡ 0))) → b ≡ false
    → (0 < f) × (0 < g)
both_inner {f = f} {g = g} asked off = (
  positive f (λ z. both_ways _ (asked.1 (inl z)) off),
  positive g (λ z. both_ways _ (asked.1 (inr z)) off),
)

-- where one beside an edge is, the edge does not fail
pub outer_passes : {points : List Point} {m : Mesh} {e : ℕ}
    → (face m e ≡ 0) ⊎ (face m (rev e) ≡ 0) → ¬ IsFailing points m e
outer_passes outer x =
    let inner = x.inner in let twin_inner = x.twin_inner in
    elim outer [
      | inl e ↦ absurd (omega (arith, inner, e))
      | inr e ↦ absurd (omega (arith, twin_inner, e))
    ]

-- an edge between inner faces
module _ {V D U F : Type 0} {place : V → Point} {s : State V D U F}
    (kept : IsTriangulated place s) {e : ℕ} (within : e < length s.mesh.half_edges)
    {from to left right : Point}
    (corners : AreCorners (map place s.vertices) s.mesh e from to left right)
    (inner : (0 < face s.mesh e) × (0 < face s.mesh (rev e))) where
  abbrev points : List Point
  points = map place s.vertices

  -- the edge ends where the one after it in its loop starts
  to_next : to ≡ point_at points (origin s.mesh (next s.mesh e))
  to_next = corners.to_is ∙ ap (point_at points) (sym (kept.valid.sound.edges e within).starts)

  -- its ends and the corner on its left turn left
  pub left_turn : TurnsLeft (whole from) (whole to) (whole left)
  left_turn =
      subst (λ (x : Point × Point × Point). TurnsLeft (whole x.0) (whole x.1) (whole x.2))
      (λ i. (sym corners.from_is i, sym to_next i, sym corners.left_is i))
      (turning_of points (faces_of s.mesh) (outer_of s.mesh)
      (M.local_of points s.mesh e kept.valid.sound kept.shape (within, inner.0)) (origin s.mesh e)
      (origin s.mesh (next s.mesh e)) (origin s.mesh (prev s.mesh e))
      (face_before s.mesh e kept.valid.sound (within, inner.0)))

  corners_are : let y : Point × Point × Point × Point = (from, to, left, right) in
      let z : Point × Point × Point × Point = (
        point_at points (origin s.mesh e),
        point_at points (origin s.mesh (next s.mesh e)),
        point_at points (origin s.mesh (prev s.mesh e)),
        point_at points (origin s.mesh (prev s.mesh (rev e))),
      ) in y ≡ z
  corners_are = λ i. (corners.from_is i, to_next i, corners.left_is i, corners.right_is i)

  -- whether the corner on its right is inside the circle of these tells whether it fails
  pub circle_tells : {b : Bool}
      → (IsTrue b ↔ InsideCircle (whole from) (whole to) (whole left) (whole right))
      → IsTrue b ↔ IsFailing points s.mesh e
  circle_tells asked = (
    (λ t. record {
      inner = inner.0;
      twin_inner = inner.1;
      inside = subst (λ (x : Point × Point × Point × Point). InsideCircle (whole x.0) (whole x.1)
          (whole x.2) (whole x.3)) corners_are (asked.0 t);
    }),
    (λ x. asked.1 (subst (λ (x : Point × Point × Point × Point). InsideCircle (whole x.0)
        (whole x.1) (whole x.2) (whole x.3)) (sym corners_are) x.inside)),
  )

-- ---- the edge opposite a vertex
module _ {S V D U F P : Type 0} {number : S → ℤ} {place : V → Point} {IsSite : P → Point → Type 0}
    {c : Contents V D U F} {t : P} {h flips : ℕ} (turn : CanTurn place IsSite c t h flips)
    {it : Opposite S} (read : IsOpposite number (IsSite t) (map place c.vertices) c.mesh h it) where
  abbrev opposite : ℕ
  opposite = next c.mesh h

  kept : IsTriangulated place (state_of c)
  kept = turn.embedding.kept

  outer : IsTrue it.is_outer ↔ ((face c.mesh opposite ≡ 0) ⊎ (face c.mesh (rev opposite) ≡ 0))
  outer = subst (λ (f : ℕ). IsTrue it.is_outer ↔ ((f ≡ 0) ⊎ (face c.mesh (rev opposite) ≡ 0)))
      (sym (kept.valid.sound.edges h turn.within).same_face) read.outer

  -- beside the outer face it does not fail
  pub read_outer_passes : it.is_outer ≡ true → ¬ IsFailing (map place c.vertices) c.mesh opposite
  read_outer_passes on = outer_passes (outer.0 on)

  -- else what was read tells whether it fails, with the place of the vertex
  module _ {centre : Point}
      (at : IsVertexSite (IsSite t) (map place c.vertices) (origin c.mesh h) centre)
      (off : it.is_outer ≡ false) where
    opposite_in : opposite < length c.mesh.half_edges
    opposite_in = (kept.valid.sound.edges h turn.within).next_in

    corners_read : AreCorners (map place c.vertices) c.mesh opposite (place_of number it.from)
        (place_of number it.to) centre (place_of number it.beyond)
    corners_read = record {
      from_is = read.from.place;
      to_is = read.to.place;
      left_is = at.place ∙ ap (λ z. point_at (map place c.vertices) (origin c.mesh z))
          (sym (kept.valid.sound.edges h turn.within).prev_next);
      right_is = read.beyond.place;
    }

    pub read_turns_left :
        TurnsLeft (whole (place_of number it.from)) (whole (place_of number it.to)) (whole centre)
    read_turns_left = left_turn kept opposite_in corners_read (both_inner outer off)

    pub read_tells : {b : Bool} → (IsTrue b ↔ InsideCircle (whole (place_of number it.from))
        (whole (place_of number it.to)) (whole centre) (whole (place_of number it.beyond)))
        → IsTrue b ↔ IsFailing (map place c.vertices) c.mesh opposite
    read_tells asked = circle_tells kept opposite_in corners_read (both_inner outer off) asked

-- undirected edge k fails, and is one of the mesh
pub record MayFlip {V D U F : Type 0} (place : V → Point) (c : Contents V D U F) (k : ℕ)
    : Type 0 where
  pub within : (2 * k) < length c.directed
  pub failing : IsFailing (map place c.vertices) c.mesh (2 * k)

-- so does it, if one of its directions is the edge opposite, which fails
pub flips_either : {V D U F P : Type 0} {place : V → Point} {IsSite : P → Point → Type 0}
    {c : Contents V D U F} {t : P} {h flips e k : ℕ} → CanTurn place IsSite c t h flips
    → IsFailing (map place c.vertices) c.mesh (next c.mesh h) → e ≡ next c.mesh h → k ≡ e / 2
    → MayFlip place c k
flips_either {place = place} {c = c} {h = h} turn x at half =
    let kept = turn.embedding.kept in
    subst (λ (j : ℕ). MayFlip place c j) (sym (half ∙ ap (λ (z : ℕ). z / 2) at)) (record {
      within = rw kept.fits.directed_fit
          (either_in (map place c.vertices) c.mesh kept.valid kept.shape h turn.within x);
      failing = failing_either (map place c.vertices) c.mesh kept.valid kept.shape h turn.within x;
    })

-- it stays as it is, if it passes or is a constraint
pub stays_as_is : {points : List Point} {constraints : List (ℕ × ℕ)} {m : Mesh} {h flips : ℕ}
    → (¬ Joins constraints (origin m (next m h)) (origin m (rev (next m h)))
    → ¬ IsFailing points m (next m h)) → Stays points constraints m m h flips flips
stays_as_is passes = record { same = refl; counted = refl; passes = passes }
