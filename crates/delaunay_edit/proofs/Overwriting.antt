-- A vertex that takes the place of one of its position.
-- Lemmas: same_places, kept_overwritten, overwriting_replaces.
use Rattle.std.proofs.Common.{◌≡◌, ◌<◌, ℕ, List, length, map, sym, ap, ◌∙◌, subst, slice_set, set}
use Rattle.std.specs.Prelude.{pos}
use Rattle.std.proofs.lemmas.List.{get_or-map, map-set, set-get_or, length-set, length-map}
use Rattle.std.proofs.lemmas.List.Elements.{All-set, All-map, All-get_or}
use Rattle.plane.specs.{InRange, Joins, Point, Replaces}
use Rattle.{half_edge_dcel.specs.Contents, plane_theorems.specs.IsMesh}
use Rattle.delaunay_legalization.specs.{constraints_by, faces_of, IsTriangulated, outer_of}
use Rattle.delaunay_legalization.specs.{point_at, points_and_constraints_by, State.State, state_of}

-- a vertex overwritten at its own position leaves all positions
pub same_places : {V : Type 0} (at : V → Point) (vs : List V) (i : ℕ) (v : V)
    → point_at (map at vs) i ≡ at v → map at (slice_set vs i v) ≡ map at vs
same_places at vs i v e = map-set at vs i v ∙ ap (λ q. set (map at vs) i q) (sym e)
    ∙ set-get_or (map at vs) i (record { x = pos 0; y = pos 0 })

-- a vertex overwritten at its own position leaves a triangulation one
pub kept_overwritten : {V D U F : Type 0} (at : V → Point) (c : Contents V D U F) (i : ℕ) (v : V)
    → IsTriangulated at (state_of c) → i < length c.vertices → point_at (map at c.vertices) i ≡ at v
    → IsTriangulated at (state_of (record c { vertices = slice_set c.vertices i v }))
kept_overwritten at c i v kept h e =
    let count : length (slice_set c.vertices i v) ≡ length c.vertices = length-set c.vertices i v in
    let within : i < length (map at c.vertices) = rw length-map h in
    record {
      in_range = All-set (λ u. InRange (at u)) c.vertices i v (subst InRange e
          (All-get_or InRange (map at c.vertices) i (record { x = pos 0; y = pos 0 }) within
          (All-map InRange at c.vertices kept.in_range))) kept.in_range;
      few_edges = rw count kept.few_edges;
      few_faces = rw count kept.few_faces;
      valid = kept.valid;
      fits = rw count kept.fits;
      shape = subst (λ ps. IsMesh ps (faces_of c.mesh) (outer_of c.mesh))
          (sym (same_places at c.vertices i v e)) kept.shape;
    }

-- the vertex takes the place of that one, and the constraints stay
pub overwriting_replaces : {V D U F : Type 0} (at : V → Point) (constraints : List U → List ℕ)
    (old new : State V D U F) (i : ℕ) (v : V) → i < length old.vertices
    → point_at (map at old.vertices) i ≡ at v
    → new ≡ record old { vertices = slice_set old.vertices i v }
    → Replaces at (points_and_constraints_by constraints old)
    (points_and_constraints_by constraints new) i v
overwriting_replaces at constraints old new i v h e is = record {
  here = h;
  same = sym (get_or-map at old.vertices i v (record { x = pos 0; y = pos 0 }) h) ∙ e;
  vertices = ap (λ s. s.vertices) is;
  constraints = λ a b. (
    subst (λ s. Joins (constraints_by constraints s) a b
        → Joins (constraints_by constraints old) a b) (sym is) (λ j. j),
    subst (λ s. Joins (constraints_by constraints old) a b
        → Joins (constraints_by constraints s) a b) (sym is) (λ j. j),
  );
}
