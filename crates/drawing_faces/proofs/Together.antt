-- From points and segments to faces: what the steps of a drawing's triangulation give together.
-- Lemmas: drawing_of, segments_refused, sides_refused.
use Rattle.std.proofs.Common.{◌≡◌, ◌⊎◌, ◌↔◌, [], ◌∙◌}
use Rattle.std.proofs.Common.{ℕ, List, length, map, sym, ap, subst, inl, inr, refl, arith}
use Rattle.std.specs.Prelude.{ℤ, Bool, All}
use Rattle.{delaunay_core.specs.Point2, delaunay_extensions.specs.HaveHandles}
use Rattle.delaunay_legalization.specs.{constraints_by, declared.cdt_edge.CdtEdge.CdtEdge}
use Rattle.{delaunay_legalization.specs.State.State, drawing_faces.specs.Names.NamesVertices}
use Rattle.delaunay_edit.specs.{constraint_edges, constraints_of, IsDelaunay}
use Rattle.drawing_faces.specs.{AreIn, DrawingError, DrawnSegment, ends_of, HasEnds, MayTake}
use Rattle.drawing_faces.specs.{memory_refused, OutOfMemory, position, RefusesDrawing, RefusesEnds}
use Rattle.drawing_faces.specs.Drawing.{HasDrawing, IsDrawingOf, segment_of_none, side_of_none}
use Rattle.drawing_faces.specs.Segments.{AddsSegments, AreAdded, AreOnAdded}
use Rattle.{drawing_faces.specs.declared.error.DrawingError.TheVariants.NoPoint, plane.specs.Joins}
use Rattle.drawing_faces.proofs.Refusing.{all_end_at_points, not_all_have_ends}

module _ {D U F : Type 0} (constraints : List U → List ℕ) (points : List (Point2 ℤ))
    (handles names : List ℕ) (segments : List (ℕ × ℕ)) (added : List Bool)
    (plain : List (Point2 ℤ)) (old new : State (Point2 ℤ) D U F)
    (same : old.vertices ≡ plain) (none : constraints_by constraints old ≡ [])
    (adds : AddsSegments position constraints segments added old new) where
  vertices_are : plain ≡ new.vertices
  vertices_are = sym (adds.vertices ∙ same)

  -- the names of the vertices stay
  pub named : NamesVertices points (map position plain) names
      → NamesVertices points (map position new.vertices) names
  named = subst (λ (vs : List (Point2 ℤ)). NamesVertices points (map position vs) names)
      vertices_are

  -- and their handles
  pub handled : HaveHandles position points handles plain
      → HaveHandles position points handles new.vertices
  handled = subst (HaveHandles position points handles) vertices_are

  -- segments are added where no constraint was there before
  pub added_first : AreAdded position (map position new.vertices) (Joins []) segments added
  added_first = subst (λ (vs : List (Point2 ℤ)).
      AreAdded position (map position vs) (Joins []) segments added) (sym adds.vertices)
      (subst (λ (ps : List (ℕ × ℕ)).
      AreAdded position (map position old.vertices) (Joins ps) segments added) none adds.each)

  none_joined : (a b : ℕ) → Joins [] a b → ⊥
  none_joined a b (inl c) = let w = c.1 in omega (arith, w)
  none_joined a b (inr c) = let w = c.1 in omega (arith, w)

  only_taken : (a b : ℕ) → {P : Type 0} → Joins [] a b ⊎ P → P
  only_taken a b (inl j) = absurd (none_joined a b j)
  only_taken a b (inr p) = p

  -- and nothing else is joined then
  pub joined_first : (a b : ℕ) → Joins (constraints_by constraints new) a b
      ↔ AreOnAdded position (map position new.vertices) segments added a b
  joined_first a b = subst (λ (vs : List (Point2 ℤ)). Joins (constraints_by constraints new) a b
      ↔ AreOnAdded position (map position vs) segments added a b) (sym adds.vertices) (
        λ j. only_taken a b (subst (λ (ps : List (ℕ × ℕ)). Joins ps a b
            ⊎ AreOnAdded position (map position old.vertices) segments added a b) none
            ((adds.joined a b).0 j)),
        λ on. (adds.joined a b).1 (inr on),
      )

module _ {D U F : Type 0} (points : List (Point2 ℤ)) (handles names : List ℕ)
    (segments : List DrawnSegment) (added : List Bool) (plain : List (Point2 ℤ))
    (old new : State (Point2 ℤ) D (CdtEdge U) F) (may : MayTake points 0)
    (have : HaveHandles position points handles plain)
    (name : NamesVertices points (map position plain) names) (same : old.vertices ≡ plain) where
  -- the triangulation of points and segments, from what its steps say
  pub drawing_of : constraints_of old ≡ []
      → AddsSegments position constraint_edges (map (ends_of handles) segments) added old new
      → All (HasEnds handles (length old.vertices)) segments
      → IsDelaunay position constraint_edges new → IsDrawingOf points segments handles names
      added new
  drawing_of none adds ends headline =
      let pairs = map (ends_of handles) segments in
      record {
        may_take = may;
        ends = all_end_at_points points handles plain have segments
            (subst (λ (vs : List (Point2 ℤ)). All (HasEnds handles (length vs)) segments) same
            ends);
        delaunay = headline;
        vertices = named constraint_edges points handles names pairs added plain old new same none
            adds name;
        handles_are = handled constraint_edges points handles names pairs added plain old new same
            none adds have;
        added_are = added_first constraint_edges points handles names pairs added plain old new
            same none adds;
        joined = joined_first constraint_edges points handles names pairs added plain old new same
            none adds;
      }

-- a segment has no such ends, or memory was refused
pub segments_refused : (points : List (Point2 ℤ)) (handles : List ℕ) (segments : List DrawnSegment)
    (holes : List (Point2 ℤ)) (sides : List DrawnSegment) (vertices : List (Point2 ℤ))
    → MayTake points 0 → HaveHandles position points handles vertices → (why : DrawingError)
    → RefusesEnds handles (length vertices) segments why
    → RefusesDrawing points segments holes sides why
segments_refused points handles segments holes sides vertices may have NoPoint lacks =
    segment_of_none refl may (not_all_have_ends points handles vertices have segments lacks)
segments_refused points handles segments holes sides vertices may have OutOfMemory refused =
    memory_refused refl
segments_refused points handles segments holes sides vertices may have why refused = absurd refused

-- a side has no such ends, or memory was refused
pub sides_refused : (points : List (Point2 ℤ)) (segments : List DrawnSegment)
    (holes : List (Point2 ℤ)) (sides : List DrawnSegment) (handles : List ℕ)
    (d : HasDrawing points segments) (in_holes : List ℕ)
    → handles ≡ d.handles
    → AreIn d.state (constraint_edges d.state.undirected) holes in_holes
    → (why : DrawingError) → RefusesEnds handles (length d.state.vertices) sides why
    → RefusesDrawing points segments holes sides why
sides_refused points segments holes sides handles d in_holes same are NoPoint lacks =
    side_of_none refl d in_holes are
    (not_all_have_ends points d.handles d.state.vertices d.drawing.handles_are sides
    (subst (λ (hs : List ℕ). ¬ All (HasEnds hs (length d.state.vertices)) sides) same lacks))
sides_refused points segments holes sides handles d in_holes same are OutOfMemory refused =
    memory_refused refl
sides_refused points segments holes sides handles d in_holes same are why refused = absurd refused
