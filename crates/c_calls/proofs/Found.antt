-- The vertices and edges in a shape, by the indexes that C is told.
-- Lemmas: by_circle_of, of_circle, by_rectangle_of, of_rectangle, circle_begun, rectangle_begun,
-- corners_are_in, circle_found, rectangle_found, no_circle, no_rectangle, vertices_are,
-- few_vertices, edges_are, few_edges.
use Rattle.std.proofs.Common.{◌≡◌, ◌≢◌, ◌∙◌, ◌<◌, ◌≤◌, ℕ, List, [], ◌∷◌}
use Rattle.std.proofs.Common.{length, map, eqb, refl, sym, ap, subst, inl, inr, arith}
use Rattle.std.proofs.lemmas.Bool.{eqb-true}
use Rattle.std.proofs.lemmas.List.{length-map}
use Rattle.std.specs.Prelude.{All, AllPairs, Contains, ℤ}
use Rattle.std.specs.Borrow.{Bor}
use Rattle.std.proofs.lemmas.Bool.Decides.{Decides-eqb}
use Rattle.std.proofs.lemmas.List.Folds.{Any-from_list_any}
use Rattle.std.proofs.lemmas.Map.Made.{IsDistinct-from_AllPairs}
use Rattle.std.proofs.lemmas.Map.Steps.{length-le_from_distinct_below}
use Rattle.plane.specs.{Fraction, InClosedCircle, InClosedRectangle, InRange, Point}
use Rattle.delaunay_core.specs.{place_of, Point2}
use Rattle.{delaunay_legalization.specs.State.State, half_edge_links.specs.MAX_ELEMENTS}
use Rattle.delaunay_shapes.specs.{AreEdgesInShape, AreVerticesInShape, corners, HasStartAt}
use Rattle.delaunay_shapes.proofs.Shapes.{circle_begins, rectangle_begins}
use Rattle.delaunay_extensions.specs.Found.{FindsEdges, FindsVertices}
use Rattle.c_calls.specs.{found, indexes_in, OUT_OF_MEMORY, plain_point, refused}
use Rattle.{c_calls.specs.Links.AreFew, half_edge_dcel.specs.Contents, half_edge_dcel.specs.each_in}
use Rattle.c_calls.specs.{declared.raw.RawShape.RawShape, Metrics.IsCircleOf, Metrics.IsRectangleOf}
use Rattle.c_calls.specs.Shapes.{by_circle, by_rectangle, FindsIn, IsNoCircle, IsNoRectangle}
use Rattle.c_calls.specs.{Shapes.shape_circle, Shapes.shape_rectangle, Written.Finding}
use Rattle.c_calls.specs.declared.shapes.TheConstants.{CIRCLE, RECTANGLE}
use Rattle.{c_calls.proofs.Corners.corners_in_range, delaunay_legalization.specs.IsTriangulated}

-- the indexes of parts of a mesh are those that they were made of
indexes_each : {V D U F : Type 0} (mesh : Bor (Contents V D U F)) (indexes : List ℕ)
    → indexes_in (each_in mesh indexes) ≡ indexes
indexes_each mesh [] = refl
indexes_each mesh (i ∷ is) = ap (λ (l : List ℕ). i ∷ l) (indexes_each mesh is)

-- different numbers below n are at most n
few_below : (xs : List ℕ) (n : ℕ) → AllPairs (λ i j. i ≢ j) xs
    → ((k : ℕ) → Contains xs k → k < n) → length xs ≤ n
few_below xs n once below =
    length-le_from_distinct_below xs n (IsDistinct-from_AllPairs Decides-eqb xs once) (λ q among.
    let found = Any-from_list_any (eqb q) xs among in
    subst (λ (k : ℕ). k < n) (sym (eqb-true q found.1 found.4))
    (below found.1 (found.0, found.2, found.3)))

-- ---- the shape of a metric is the one that C hands in
module _ (Of : (Fraction → Type 0) → Type 0) (s : RawShape) where
  pub by_circle_of : (c : Point2 ℤ) (r : ℤ) → IsCircleOf s c r → Of (shape_circle s)
      → Of (InClosedCircle (place_of (λ z. z) c) r)
  by_circle_of c r is of =
      subst (λ d. Of (InClosedCircle (place_of (λ z. z) d) r)) (sym is.same_center)
      (subst (λ (n : ℤ). Of (InClosedCircle (plain_point s.first) n)) (sym is.same_radius) of)

  pub of_circle : (c : Point2 ℤ) (r : ℤ) → IsCircleOf s c r
      → Of (InClosedCircle (place_of (λ z. z) c) r) → Of (shape_circle s)
  of_circle c r is of =
      subst (λ (n : ℤ). Of (InClosedCircle (plain_point s.first) n)) is.same_radius
      (subst (λ d. Of (InClosedCircle (place_of (λ z. z) d) r)) is.same_center of)

  pub by_rectangle_of : (l u : Point2 ℤ) → IsRectangleOf s l u → Of (shape_rectangle s)
      → Of (InClosedRectangle (place_of (λ z. z) l) (place_of (λ z. z) u))
  by_rectangle_of l u is of =
      subst (λ d. Of (InClosedRectangle (place_of (λ z. z) d) (place_of (λ z. z) u)))
      (sym is.same_lower)
      (subst (λ d. Of (InClosedRectangle (plain_point s.first) (place_of (λ z. z) d)))
      (sym is.same_upper) of)

  pub of_rectangle : (l u : Point2 ℤ) → IsRectangleOf s l u
      → Of (InClosedRectangle (place_of (λ z. z) l) (place_of (λ z. z) u))
      → Of (shape_rectangle s)
  of_rectangle l u is of =
      subst (λ d. Of (InClosedRectangle (plain_point s.first) (place_of (λ z. z) d))) is.same_upper
      (subst (λ d. Of (InClosedRectangle (place_of (λ z. z) d) (place_of (λ z. z) u)))
      is.same_lower of)

module _ (s : RawShape) where
  -- a search for what is in a circle begins at the first point
  pub circle_begun : (c : Point2 ℤ) (r : ℤ) → IsCircleOf s c r
      → HasStartAt (InClosedCircle (place_of (λ z. z) c) r) (plain_point s.first)
  circle_begun c r is = by_circle_of (λ Shape. HasStartAt Shape (plain_point s.first)) s c r is
      (circle_begins (plain_point s.first) s.radius_2)

  -- and so does one for what is in a rectangle
  pub rectangle_begun : (l u : Point2 ℤ) → IsRectangleOf s l u
      → HasStartAt (InClosedRectangle (place_of (λ z. z) l) (place_of (λ z. z) u))
      (plain_point s.first)
  rectangle_begun l u is = by_rectangle_of (λ Shape. HasStartAt Shape (plain_point s.first)) s l u
      is (rectangle_begins (plain_point s.first) (plain_point s.second))

  -- whose corners are in range
  pub corners_are_in : (l u : Point2 ℤ) → IsRectangleOf s l u
      → All InRange (corners (place_of (λ z. z) l) (place_of (λ z. z) u))
  corners_are_in l u is =
      subst (λ d. All InRange (corners (place_of (λ z. z) d) (place_of (λ z. z) u)))
      (sym is.same_lower)
      (subst (λ d. All InRange (corners (plain_point s.first) (place_of (λ z. z) d)))
      (sym is.same_upper)
      (corners_in_range (plain_point s.first) (plain_point s.second) is.may.0 is.may.1))

  module _ (AreIn : (Fraction → Type 0) → List ℕ → Type 0) (status was told : ℕ)
      (old new : List ℕ) where
    -- what is in the circle was found, or memory was refused
    pub circle_found : (c : Point2 ℤ) (r : ℤ) → s.kind ≡ CIRCLE → IsCircleOf s c r
        → Finding (Unit {0}) (AreIn (InClosedCircle (place_of (λ z. z) c) r))
        (λ reason. reason ≡ OUT_OF_MEMORY) status was told old new
        → FindsIn AreIn s status was told old new
    circle_found c r kind is (found _ answers are tells) =
        by_circle kind (found is.may answers (of_circle (λ Shape. AreIn Shape answers) s c r is are)
        tells)
    circle_found c r kind is (refused reason same stays) =
        by_circle kind (refused (inr reason) same stays)

    -- what is in the rectangle was
    pub rectangle_found : (l u : Point2 ℤ) → s.kind ≡ RECTANGLE → IsRectangleOf s l u
        → Finding (Unit {0}) (AreIn (InClosedRectangle (place_of (λ z. z) l) (place_of (λ z. z) u)))
        (λ reason. reason ≡ OUT_OF_MEMORY) status was told old new
        → FindsIn AreIn s status was told old new
    rectangle_found l u kind is (found _ answers are tells) =
        by_rectangle kind (found is.may answers
        (of_rectangle (λ Shape. AreIn Shape answers) s l u is are) tells)
    rectangle_found l u kind is (refused reason same stays) =
        by_rectangle kind (refused (inr reason) same stays)

  module _ (AreIn : (Fraction → Type 0) → List ℕ → Type 0) (status was : ℕ) (old : List ℕ) where
    -- it may not be asked about
    pub no_circle : s.kind ≡ CIRCLE → IsNoCircle s status → FindsIn AreIn s status was was old old
    no_circle kind none = by_circle kind (refused (inl none) refl refl)

    pub no_rectangle : s.kind ≡ RECTANGLE → IsNoRectangle s status
        → FindsIn AreIn s status was was old old
    no_rectangle kind none = by_rectangle kind (refused (inl none) refl refl)

-- for the query of what is in a shape
pub ruleset shape_query = (
  circle_begun,
  rectangle_begun,
  corners_are_in,
  circle_found,
  rectangle_found,
  no_circle,
  no_rectangle,
)

-- ---- what was found
module _ {V D U F : Type 0} (place : V → Point) (s : State V D U F) (Shape : Fraction → Type 0)
    (given : List (Bor (Contents V D U F) × ℕ)) where
  module _ (finds : FindsVertices place s Shape given) where
    -- the vertices that a query found
    pub vertices_are : AreVerticesInShape Shape (map place s.vertices) (indexes_in given)
    vertices_are =
        let found : List ℕ = finds.vertices.vertices in
        subst (λ (l : List ℕ). AreVerticesInShape Shape (map place s.vertices) l)
        (sym (ap indexes_in finds.vertices.listed ∙ indexes_each finds.mesh found))
        (subst (λ u. AreVerticesInShape Shape (map place u.vertices) found) finds.state
        finds.vertices.exact)

    pub few_vertices : length s.vertices ≤ MAX_ELEMENTS → AreFew given
    few_vertices small =
        let few = few_below (indexes_in given) (length (map place s.vertices)) vertices_are.once
        (λ k c. ((vertices_are.exact k).0 c).0) in
        let as_many = length-map given (λ (p : Bor (Contents V D U F) × ℕ). p.1) in
        let same = length-map s.vertices place in
        omega (arith, few, as_many, same, small)

  module _ (finds : FindsEdges place s Shape given) where
    -- the edges that a query found
    pub edges_are : AreEdgesInShape Shape (map place s.vertices) s.mesh (indexes_in given)
    edges_are =
        let found : List ℕ = finds.edges.edges in
        subst (λ (l : List ℕ). AreEdgesInShape Shape (map place s.vertices) s.mesh l)
        (sym (ap indexes_in finds.edges.listed ∙ indexes_each finds.mesh found))
        (subst (λ u. AreEdgesInShape Shape (map place u.vertices) u.mesh found) finds.state
        finds.edges.exact)

    pub few_edges : IsTriangulated place s → AreFew given
    few_edges kept =
        let few = few_below (indexes_in given) (length s.mesh.half_edges) edges_are.once
        (λ k c. let below = ((edges_are.exact k).0 c).0 in omega (arith, below)) in
        let as_many = length-map given (λ (p : Bor (Contents V D U F) × ℕ). p.1) in
        let small = kept.valid.small.edges in
        omega (arith, few, as_many, small)
