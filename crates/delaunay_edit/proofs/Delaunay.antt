-- What follows for all circles where each edge between two faces passes.
-- Lemmas: marked_constrained_delaunay, empty_triple_is_face, none_without_edges, counted_empty,
-- counted_overwritten.
use Rattle.std.proofs.Common.{◌≡◌, ◌∙◌, ◌<◌, []}
use Rattle.std.proofs.Common.{ℕ, Bool, List, length, map, sym, ap, subst, slice_set}
use Rattle.std.proofs.Common.{None, Some, refl, arith}
use Rattle.plane.specs.{IsConstrainedDelaunay, IsFace, IsLocallyDelaunay, IsStrictlyEmpty, Point}
use Rattle.half_edge_links.specs.{empty, IsValidMesh}
use Rattle.plane_theorems.proofs.Delaunay.Circles.EmptyCircles.{local_gives_constrained_delaunay}
use Rattle.plane_theorems.proofs.Delaunay.Circles.EmptyCircles.{strictly_empty_is_face}
use Rattle.half_edge_dcel.specs.{Contents}
use Rattle.delaunay_legalization.specs.{constraint_pairs, constraints_by, drawn, faces_of}
use Rattle.delaunay_legalization.specs.{IsDelaunayTriangulation, marked_edges, pairs_at, point_at}
use Rattle.delaunay_legalization.specs.{State.State, state_of, triangulation_of}
use Rattle.delaunay_legalization.proofs.{constraints_are_edges, laid_out_tiles, line_has_none}
use Rattle.{delaunay_edit.specs.IsCounted, delaunay_legalization.proofs.Shapes.kept_empty}
use Rattle.delaunay_edit.proofs.Overwriting.{kept_overwritten, same_places}

-- the marked edges are the constraints, whatever is marked
pub marked_constrained_delaunay : {V D U F : Type 0} (place : V → Point) (marks : U → Bool)
    (constraints : List U → List ℕ) → ((ds : List U) → constraints ds ≡ marked_edges marks ds)
    → (s : State V D U F) → IsDelaunayTriangulation place constraints s
    → IsConstrainedDelaunay (triangulation_of place s) (constraints_by constraints s)
marked_constrained_delaunay place marks constraints marked s legal =
    local_gives_constrained_delaunay (triangulation_of place s) (constraints_by constraints s)
    (laid_out_tiles (map place s.vertices) s.mesh legal.kept.valid legal.kept.shape)
    (constraints_are_edges marks constraints marked s.mesh s.undirected
    legal.kept.fits.undirected_fit legal.kept.valid) legal.passing

-- without a constraint each strictly empty triple is a face
pub empty_triple_is_face :
    {V D U F : Type 0} (place : V → Point) (constraints : List U → List ℕ) (s : State V D U F)
    → IsConstrainedDelaunay (triangulation_of place s) (constraints_by constraints s)
    → constraints_by constraints s ≡ [] → (i j k : ℕ)
    → IsStrictlyEmpty (triangulation_of place s) i j k → IsFace (triangulation_of place s) i j k
empty_triple_is_face place constraints s all none =
    strictly_empty_is_face (triangulation_of place s)
    (subst (λ (cs : List (ℕ × ℕ)). IsConstrainedDelaunay (triangulation_of place s) cs) none all)

-- without an edge none is a constraint
pub none_without_edges : {V D U F : Type 0} (marks : U → Bool) (constraints : List U → List ℕ)
    → ((ds : List U) → constraints ds ≡ marked_edges marks ds) → (s : State V D U F)
    → s.undirected ≡ [] → constraints_by constraints s ≡ []
none_without_edges marks constraints marked s none =
    ap (λ ds. pairs_at s.mesh (constraints ds)) none ∙ ap (λ ks. pairs_at s.mesh ks) (marked [])

-- ---- a mesh with nothing but the outer face, and a vertex that takes the place of one of its
-- position
none_is_not_some : {X : Type 0} (x : X) → ¬ (None ≡ Some x)
none_is_not_some x h = cc

-- the mesh without any element is valid
empty_is_valid : IsValidMesh empty
empty_is_valid = record {
  sound = record {
    even = refl;
    edges = λ h below. absurd (omega (arith, below));
    vertices = λ v h e. absurd (none_is_not_some h e);
    faces = λ f above below. absurd (omega (arith, above, below));
    outer = λ h e. absurd (none_is_not_some h e);
    has_outer = λ some. absurd (omega (arith, some));
  };
  apart = λ h below. absurd (omega (arith, below));
  stars = λ among closed h g below. absurd (omega (arith, below));
  small = record { vertices = omega arith; edges = omega arith; faces = omega arith };
}

-- a triangulation without vertices, edges and inner faces is Delaunay
legal_empty : {V D U F : Type 0} (place : V → Point) (constraints : List U → List ℕ)
    (c : Contents V D U F) → c.mesh ≡ empty → c.vertices ≡ [] → c.directed ≡ []
    → c.undirected ≡ [] → c.faces ≡ [] → IsDelaunayTriangulation place constraints (state_of c)
legal_empty place constraints c mesh vertices directed undirected faces = record {
  kept = kept_empty place c mesh vertices undirected faces (record {
    valid = rw mesh empty_is_valid;
    fits = rw (mesh, vertices, directed, undirected, faces) (record {
      vertices_fit = refl;
      directed_fit = refl;
      undirected_fit = refl;
      faces_fit = refl;
    });
  });
  passing = λ i j k n f. absurd (line_has_none c.mesh i j k (ap faces_of mesh) f);
}

-- and has no constraint
pub counted_empty : {V D U F : Type 0} (place : V → Point) (marks : U → Bool)
    (constraints : List U → List ℕ) → ((ds : List U) → constraints ds ≡ marked_edges marks ds)
    → (c : Contents V D U F) → c.mesh ≡ empty → c.vertices ≡ [] → c.directed ≡ []
    → c.undirected ≡ [] → c.faces ≡ [] → IsCounted place constraints (state_of c) 0
counted_empty place marks constraints marked c mesh vertices directed undirected faces = record {
  legal = legal_empty place constraints c mesh vertices directed undirected faces;
  counted = ap (λ (ps : List (ℕ × ℕ)). length ps)
      (sym (none_without_edges marks constraints marked (state_of c) undirected));
}

-- a vertex overwritten at its own position leaves a Delaunay triangulation as it is
legal_overwritten : {V D U F : Type 0} (at : V → Point) (constraints : List U → List ℕ)
    (c : Contents V D U F) (i : ℕ) (v : V) → IsDelaunayTriangulation at constraints (state_of c)
    → i < length c.vertices → point_at (map at c.vertices) i ≡ at v → IsDelaunayTriangulation at
    constraints (state_of (record c { vertices = slice_set c.vertices i v }))
legal_overwritten at constraints c i v legal h e = record {
  kept = kept_overwritten at c i v legal.kept h e;
  passing = subst (λ (ps : List Point). IsLocallyDelaunay (drawn ps c.mesh)
      (constraint_pairs constraints c.mesh c.undirected))
      (sym (same_places at c.vertices i v e)) legal.passing;
}

-- with as many constraints
pub counted_overwritten : {V D U F : Type 0} (at : V → Point) (constraints : List U → List ℕ)
    (c new : Contents V D U F) (i : ℕ) (v : V) (number : ℕ)
    → IsCounted at constraints (state_of c) number → i < length c.vertices
    → point_at (map at c.vertices) i ≡ at v
    → new ≡ record c { vertices = slice_set c.vertices i v }
    → IsCounted at constraints (state_of new) number
counted_overwritten at constraints c new i v number was h e is =
    rw is (record {
      legal = legal_overwritten at constraints c i v was.legal h e;
      counted = was.counted;
    })
