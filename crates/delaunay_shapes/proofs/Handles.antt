-- What a handle tells, of the mesh and the index that it has.
-- Lemmas: origin_is, start_is, end_is, vertex_covered, start_covered, end_covered, edge_told,
-- vertex_told, start_told, after_is, before_is, ends_told, filtered_within, filtered_directed,
-- filtered_edges, filtered_vertices, not_asked, marked_by, vertices_within, found_fits.
use Rattle.std.proofs.Common.{◌≡◌, ◌↔◌, ◌*◌, ◌/◌, ◌<◌, ◌≤◌, ◌∙◌}
use Rattle.std.proofs.Common.{ℕ, List, length, map, get_or, set, sym, ap, subst, arith}
use mathlib.Core.Bool.{Bool, true, false}
use Rattle.std.specs.Prelude.{pos, All, IsTrue}
use Rattle.std.specs.Borrow.{Bor}
use Rattle.std.proofs.lemmas.List.{length-map}
use Rattle.plane.specs.{Fraction, Point, whole}
use Rattle.half_edge_links.specs.{Mesh, next, origin, prev, rev}
use Rattle.{plane_theorems.proofs.get_or_any, plane_theorems.specs.HasPointIn}
use Rattle.half_edge_dcel.specs.{Contents, IsMeshWithData}
use Rattle.delaunay_legalization.proofs.{at_most_so_many, contains_map}
use Rattle.delaunay_shapes.specs.{AreEdgesInShape, AreVerticesInShape, IsAsked, IsEdgeInShape}
use Rattle.delaunay_shapes.specs.{InShape.IsInside, IsFlooding, point_at, undirected_of}
use Rattle.{delaunay_shapes.proofs.Asking.IsFilteredTo, half_edge_links.proofs.rev_within}

double_below : (k n b : ℕ) → 2 * n ≡ b → k < n → (2 * k) < b
double_below k n b e h = omega (arith, e, h)

module _ {V D U F : Type 0} (place : V → Point) {d : Bor (Contents V D U F)} where
  -- the vertex where a directed edge starts, by handles, is that in the mesh
  pub origin_is : {e : Bor (Contents V D U F)} {h i j : ℕ} → e ≡ d → i ≡ h
      → j ≡ origin e.now.mesh i → j ≡ origin d.now.mesh h
  origin_is same index starts = starts ∙ (λ t. origin (same t).now.mesh (index t))

  -- so are the points of its start and its end
  pub start_is : {e v : Bor (Contents V D U F)} {h i j : ℕ} {p : Point} → e ≡ d → i ≡ h → v ≡ e →
      j ≡ origin e.now.mesh i → p ≡ point_at (map place v.now.vertices) j →
      p ≡ point_at (map place d.now.vertices) (origin d.now.mesh h)
  start_is {v = v} same index at starts is =
      let v_is : v ≡ d = at ∙ same in
      is ∙ (λ t. point_at (map place (v_is t).now.vertices) (origin_is same index starts t))

  pub end_is : {e v : Bor (Contents V D U F)} {h i j : ℕ} {p : Point} → e ≡ d → i ≡ h → v ≡ e →
      j ≡ origin e.now.mesh (rev i) → p ≡ point_at (map place v.now.vertices) j →
      p ≡ point_at (map place d.now.vertices) (origin d.now.mesh (rev h))
  end_is {v = v} {h = h} {j = j} same index at ends is =
      let j_is : j ≡ origin d.now.mesh (rev h) =
      ends ∙ (λ t. origin (same t).now.mesh (rev (index t))) in
      let v_is : v ≡ d = at ∙ same in
      is ∙ (λ t. point_at (map place (v_is t).now.vertices) (j_is t))

  -- the position of a vertex is covered where those of all vertices are
  pub vertex_covered : (C : Point → Type 0) {e v : Bor (Contents V D U F)} {j : ℕ} {p : Point} →
      All C (map place d.now.vertices) → e ≡ d → v ≡ e → j < length v.now.vertices →
      p ≡ point_at (map place v.now.vertices) j → C p
  vertex_covered C {v = v} {j = j} all same at within is =
      subst C (sym is) (subst (λ (x : Bor (Contents V D U F)). All C (map place x.now.vertices))
      (sym (at ∙ same)) all j
      (record { x = pos 0; y = pos 0 }) (omega (arith, within, length-map v.now.vertices place)))

  -- the ends of an edge, by its handle, are covered where all vertices are
  module _ (C : Point → Type 0) (all : All C (map place d.now.vertices))
      (whole : IsMeshWithData d.now) {e : Bor (Contents V D U F)} {i k : ℕ}
      (within : k < length d.now.undirected) (same : e ≡ d) (index : i ≡ k) where
    origin_covered : (h : ℕ) → h < length d.now.mesh.half_edges
        → C (point_at (map place d.now.vertices) (origin d.now.mesh h))
    origin_covered h low =
        let o = (whole.valid.sound.edges h low).origin_in in
        let fit = whole.fits.vertices_fit in
        all (origin d.now.mesh h) (record { x = pos 0; y = pos 0 })
        (omega (arith, o, fit, length-map d.now.vertices place))

    below_edges : (2 * k) < length d.now.mesh.half_edges
    below_edges = let fit = whole.fits.undirected_fit in
        double_below k (length d.now.undirected) (length d.now.mesh.half_edges) fit within

    by_handle : (f : ℕ → ℕ) → f k < length d.now.mesh.half_edges
        → C (point_at (map place e.now.vertices) (origin e.now.mesh (f i)))
    by_handle f low = subst
        (λ (x : Bor (Contents V D U F)).
        C (point_at (map place x.now.vertices) (origin x.now.mesh (f i)))) (sym same)
        (subst (λ (x : ℕ). C (point_at (map place d.now.vertices) (origin d.now.mesh (f x))))
        (sym index) (origin_covered (f k) low))

    -- the start of the edge's even direction
    pub start_covered : C (point_at (map place e.now.vertices) (origin e.now.mesh (2 * i)))
    start_covered = by_handle (λ x. 2 * x) below_edges

    -- and its end
    pub end_covered : C (point_at (map place e.now.vertices) (origin e.now.mesh (rev (2 * i))))
    end_covered = by_handle (λ x. rev (2 * x))
        (rev_within (2 * k) _ whole.valid.sound.even below_edges)

  -- an answer to a handle
  pub edge_told : {b : Bool} (Shape : Fraction → Type 0) {e : Bor (Contents V D U F)} {i k : ℕ}
      → e ≡ d → i ≡ k → (IsTrue b ↔ IsEdgeInShape Shape (map place e.now.vertices) e.now.mesh i)
      → IsTrue b ↔ IsInside Shape place d.now k
  edge_told {b = b} Shape {i = i} same index told =
      subst (λ (x : ℕ). IsTrue b ↔ IsInside Shape place d.now x) index
      (subst (λ (x : Bor (Contents V D U F)). IsTrue b ↔ IsInside Shape place x.now i) same told)

  -- a test of the point of a vertex, by handles, tells whether the vertex is in the shape
  pub vertex_told :
      {b : Bool} (Shape : Fraction → Type 0) {e : Bor (Contents V D U F)} {i k : ℕ} {p : Point}
      → e ≡ d → i ≡ k → p ≡ point_at (map place e.now.vertices) i → (IsTrue b ↔ Shape (whole p))
      → IsTrue b ↔ Shape (whole (point_at (map place d.now.vertices) k))
  vertex_told {b = b} Shape {k = k} {p = p} same index is told =
      let at : p ≡ point_at (map place d.now.vertices) k =
      is ∙ (λ t. point_at (map place (same t).now.vertices) (index t)) in
      subst (λ (x : Point). IsTrue b ↔ Shape (whole x)) at told

  -- and one of the point where a directed edge starts
  pub start_told : {b : Bool} (Shape : Fraction → Type 0) {e v : Bor (Contents V D U F)}
      {h i j : ℕ} {p : Point} → e ≡ d → i ≡ h → v ≡ e → j ≡ origin e.now.mesh i
      → p ≡ point_at (map place v.now.vertices) j → (IsTrue b ↔ Shape (whole p))
      → IsTrue b ↔ Shape (whole (point_at (map place d.now.vertices) (origin d.now.mesh h)))
  start_told {b = b} Shape same index at starts is told =
      subst (λ (x : Point). IsTrue b ↔ Shape (whole x)) (start_is same index at starts is) told

  -- the edge after a directed edge, by handles, is that in the mesh
  pub after_is : {e : Bor (Contents V D U F)} {h i j r : ℕ} → e ≡ d → i ≡ h
      → j ≡ next e.now.mesh i → r ≡ j → r ≡ next d.now.mesh h
  after_is same index to is = is ∙ to ∙ (λ t. next (same t).now.mesh (index t))

  -- so is the edge before it
  pub before_is : {e : Bor (Contents V D U F)} {h i j r : ℕ} → e ≡ d → i ≡ h
      → j ≡ prev e.now.mesh i → r ≡ j → r ≡ prev d.now.mesh h
  before_is same index to is = is ∙ to ∙ (λ t. prev (same t).now.mesh (index t))

-- an edge by its ends
pub ends_told :
    (b : Bool) (Shape : Fraction → Type 0) (points : List Point) (m : Mesh) (k : ℕ) (p q : Point)
    → p ≡ point_at points (origin m (2 * k)) → q ≡ point_at points (origin m (rev (2 * k)))
    → (IsTrue b ↔ HasPointIn Shape p q) → IsTrue b ↔ IsEdgeInShape Shape points m k
ends_told b Shape points m k p q e f told = subst (λ (x : Point). IsTrue b ↔
    HasPointIn Shape (point_at points (origin m (2 * k))) x) f
    (subst (λ (x : Point). IsTrue b ↔ HasPointIn Shape x q) e told)

-- ---- what a filter found
-- each number that a filter below i has found is below any bound that is at least i
pub filtered_within : (Inside : ℕ → Type 0) (i n : ℕ) (found : List ℕ) → IsFilteredTo Inside i found
    → i ≤ n → (k d : ℕ) → k < length found → get_or found k d < n
filtered_within Inside i n found f last k d h = let low =
    ((f.exact (get_or found k d)).0 (k, h, get_or_any found k (get_or found k d) d h)).0 in
    omega (arith, low, last)

low_half : (h i n b : ℕ) → h / 2 < i → i ≤ n → 2 * n ≡ b → h < b
low_half h i n b low last e = omega (arith, low, last, e)

-- each directed edge whose undirected edge a filter has found is below their count
pub filtered_directed : (Inside : ℕ → Type 0) (i n b : ℕ) (found : List ℕ)
    → IsFilteredTo Inside i (undirected_of found) → i ≤ n → 2 * n ≡ b → (k d : ℕ) → k < length found
    → get_or found k d < b
filtered_directed Inside i n b found f last e k d h = low_half (get_or found k d) i n b
    ((f.exact (get_or found k d / 2)).0 (contains_map (λ (x : ℕ). x / 2) found (get_or found k d)
    (k, h, get_or_any found k (get_or found k d) d h))).0 last e

same_bound : (i n : ℕ) → i ≡ n → (k : ℕ) → k < i → k < n
same_bound i n e k h = omega (arith, e, h)

half_below : (k n b : ℕ) → 2 * n ≡ b → (2 * k) < b → k < n
half_below k n b e h = omega (arith, e, h)

-- a filter that has come to the last edge has found the edges in the shape, each once
pub filtered_edges : (Shape : Fraction → Type 0) (points : List Point) (m : Mesh) (i n : ℕ)
    (found : List ℕ) → IsFilteredTo (IsEdgeInShape Shape points m) i found → i ≡ n
    → 2 * n ≡ length m.half_edges → AreEdgesInShape Shape points m found
filtered_edges Shape points m i n found f last even = record {
  once = f.once;
  exact = λ k. (
    (λ c. let h = (f.exact k).0 c in
        (double_below k n (length m.half_edges) even (same_bound i n last k h.0), h.1)),
    (λ p. (f.exact k).1
        (same_bound n i (sym last) k (half_below k n (length m.half_edges) even p.0), p.1)),
  );
}

-- a filter that has come to the last vertex has found the vertices in the shape, each once
pub filtered_vertices : (Shape : Fraction → Type 0) (points : List Point) (i n : ℕ) (found : List ℕ)
    → IsFilteredTo (λ k. Shape (whole (point_at points k))) i found → i ≡ n → n ≡ length points
    → AreVerticesInShape Shape points found
filtered_vertices Shape points i n found f last all = record {
  once = f.once;
  exact = λ k. (
    (λ c. let h = (f.exact k).0 c in (same_bound i (length points) (last ∙ all) k h.0, h.1)),
    (λ p. (f.exact k).1 (same_bound (length points) i (sym (last ∙ all)) k p.0, p.1)),
  );
}

-- ---- what a flood found
-- a number whose mark is false was not asked of
pub not_asked : (asked : List Bool) (k i : ℕ) (b : Bool) → i ≡ k → b ≡ false
    → b ≡ get_or asked i false → IsAsked asked k → ⊥
not_asked asked k i b e off is there =
    let same : false ≡ true = sym off ∙ is ∙ ap (λ (x : ℕ). get_or asked x false) e ∙ there in
    absurd (cc)

-- the marks with one more, by the index of its handle
pub marked_by : (asked asked' : List Bool) (k i : ℕ) → i ≡ k → asked' ≡ set asked i true
    → asked' ≡ set asked k true
marked_by asked asked' k i e is = is ∙ ap (λ (x : ℕ). set asked x true) e

-- the vertices in a shape are below their count
pub vertices_within : (Shape : Fraction → Type 0) (points : List Point) (found : List ℕ) (n : ℕ)
    → length points ≡ n → AreVerticesInShape Shape points found → (k d : ℕ) → k < length found
    → get_or found k d < n
vertices_within Shape points found n all f k d h = let low =
    ((f.exact (get_or found k d)).0 (k, h, get_or_any found k (get_or found k d) d h)).0 in
    omega (arith, low, all)

-- a flood has found at most as many as there are
pub found_fits : (Inside : ℕ → Type 0) (count : ℕ) (asked : List Bool) (found : List ℕ) →
    IsFlooding Inside count asked (undirected_of found) → length found ≤ count
found_fits Inside count asked found f =
    subst (λ (n : ℕ). n ≤ count) (length-map found (λ (x : ℕ). x / 2))
    (at_most_so_many (undirected_of found) count f.once f.within)
