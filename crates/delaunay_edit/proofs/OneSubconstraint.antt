-- A path that is one edge: it has no other subconstraint, no constraint crosses it, and nothing is
-- turned where it becomes a constraint.
-- Lemmas: found, first_in, second_in, ends_apart, edge_is_next, one_subconstraint, edge_is_free,
-- joined_is_free, edge_added.
use Rattle.std.proofs.Common.{◌≡◌, ◌≢◌, ◌⊎◌, ◌↔◌, ◌/◌, ◌<◌, []}
use Rattle.std.proofs.Common.{ℕ, Bool, true, List, length, map, Option, Some, None, is_some}
use Rattle.std.proofs.Common.{refl, sym, ap, subst, subst₂, inl, inr}
use Rattle.std.specs.Prelude.{IfSome}
use Rattle.plane.specs.{IsEdge, IsSamePair, place, Point, whole}
use Rattle.plane.proofs.{end_on_segment, start_on_segment}
use Rattle.half_edge_links.proofs.{rev_within}
use Rattle.plane_theorems.specs.{AreNextOn, ArePlacedApart}
use Rattle.plane_theorems.proofs.{Contains-none, no_edges_cross, once_none, path_ends, path_goes_on}
use Rattle.{half_edge_dcel.specs.Contents, half_edge_links.specs.origin, half_edge_links.specs.rev}
use Rattle.delaunay_legalization.specs.{AreEdges, constraints_by, drawn, edges_of, faces_of}
use Rattle.delaunay_legalization.specs.{IsDelaunayTriangulation, IsTriangulated, marked_edges}
use Rattle.delaunay_legalization.specs.{outer_of, point_at, State.State, state_of}
use Rattle.delaunay_legalization.proofs.{both_ways, constraints_are_edges, edge_joins, no_joins}
use Rattle.delaunay_edit.specs.{AddsConstraints, AddsPath, HasFreeWay, MarksEdge, NoneCrosses}
use Rattle.delaunay_edit.proofs.AddingSubconstraints.{adding_to_begins, adding_to_ends}
use Rattle.delaunay_edit.proofs.AddingSubconstraints.{adding_to_goes_on, LeavesSubconstraint}
use Rattle.delaunay_edit.proofs.{AddingSubconstraints.subconstraint_made, LeftToTest.none_crosses}
use Rattle.{delaunay_edit.proofs.Making.MakesEdge, delaunay_legalization.proofs.own_edges}
use Rattle.delaunay_edit.proofs.{Releasing.added_left, Walking.in_map, Walking.placed_apart}

-- an edge that was found, with what holds of it
pub found : {X : Type 0} (P : X → Type 0) (r : Option X) (b : Bool) → b ≡ is_some r → b ≡ true
    → IfSome r P → (x : X) × P x
found P None b is true_now x = absurd (both_ways b true_now is)
found P (Some x) b is true_now holds = (x, holds)

-- ---- by the ends of an edge
module _ {V D U F : Type 0} (at : V → Point) (s : State V D U F) (kept : IsTriangulated at s)
    (h : ℕ) (within : h < length s.mesh.half_edges) where
  abbrev points : List Point
  points = map at s.vertices

  abbrev i : ℕ
  i = origin s.mesh h

  abbrev j : ℕ
  j = origin s.mesh (rev h)

  -- the two are joined
  edge : IsEdge (drawn points s.mesh) i j
  edge = edge_joins s.mesh kept.valid.sound h within

  there : (k : ℕ) → k < length s.mesh.out_edges → k < length s.vertices
  there k l = subst (λ (n : ℕ). k < n) (sym kept.fits.vertices_fit) l

  -- they are two vertices
  pub first_in : i < length s.vertices
  first_in = there i (kept.valid.sound.edges h within).origin_in

  pub second_in : j < length s.vertices
  second_in = there j (kept.valid.sound.edges (rev h)
      (rev_within h (length s.mesh.half_edges) kept.valid.sound.even within)).origin_in

  pub ends_apart : i ≢ j
  ends_apart = kept.valid.apart h within

  distinct : ArePlacedApart points
  distinct = placed_apart points (faces_of s.mesh) (outer_of s.mesh) kept.shape

  -- they are next to one another on their segment
  pub edge_is_next : AreNextOn points i j i j
  edge_is_next = record {
    apart = ends_apart;
    first_index = in_map at s.vertices i first_in;
    second_index = in_map at s.vertices j second_in;
    first = start_on_segment (place points i) (place points j);
    second = end_on_segment (place points i) (place points j);
    none_between = λ k k_in. (no_edges_cross points (faces_of s.mesh) (outer_of s.mesh)
        (edges_of s.mesh) kept.shape (own_edges s.mesh kept.valid)).0 i j k edge k_in;
  }

  -- and no other two are
  pub one_subconstraint : (a b : ℕ) → AreNextOn points i j a b ↔ IsSamePair a b i j
  one_subconstraint a b = (
    (λ next. elim (subconstraints.0 next) [
      | inl same ↦ same
      | inr more ↦ absurd (path_ends points j distinct a b more)
    ]),
    (λ same. subconstraints.1 (inl same)),
  )
    where
      subconstraints : AreNextOn points i j a b ↔ (IsSamePair a b i j ⊎ AreNextOn points j j a b)
      subconstraints = path_goes_on points i j j distinct (in_map at s.vertices j second_in)
          ends_apart
          edge_is_next a b

  module _ (marks : U → Bool) (constraints : List U → List ℕ)
      (marked : (ds : List U) → constraints ds ≡ marked_edges marks ds) where
    -- no constraint crosses the segment
    pub edge_is_free : NoneCrosses points (constraints_by constraints s) i j
    edge_is_free a b joined = none_crosses points s.mesh kept.valid kept.shape i j apart edge a b
        (constraints_are_edges marks constraints marked s.mesh s.undirected
        kept.fits.undirected_fit kept.valid a b joined)
      where
        apart : ¬ (point_at points i ≡ point_at points j)
        apart e = distinct i j (in_map at s.vertices i first_in) (in_map at s.vertices j second_in)
            ends_apart (ap whole e)

    -- the same by other names of the ends
    pub joined_is_free : (u v : ℕ) → i ≡ u → j ≡ v
        → NoneCrosses points (constraints_by constraints s) u v
    joined_is_free u v e f =
        subst₂ (NoneCrosses points (constraints_by constraints s)) e f edge_is_free

-- ---- an edge that has the mark
module _ {V D U F : Type 0} (at : V → Point) (marks : U → Bool) (marked_as : U → U)
    (constraints : List U → List ℕ) (marked : (ds : List U) → constraints ds
    ≡ marked_edges marks ds) (has : (x : U) → marks (marked_as x) ≡ true)
    (old new : Contents V D U F) (legal : IsDelaunayTriangulation at constraints (state_of old))
    (h : ℕ) (within : h < length old.mesh.half_edges)
    (by : MarksEdge marks marked_as old new (h / 2)) where
  abbrev all : List Point
  all = map at old.vertices

  abbrev u : ℕ
  u = origin old.mesh h

  abbrev v : ℕ
  v = origin old.mesh (rev h)

  -- the old state is triangulated
  kept : IsTriangulated at (state_of old)
  kept = legal.kept

  -- the edge starts at a vertex
  u_in : u < length old.vertices
  u_in = first_in at (state_of old) kept h within

  -- and ends at one
  v_in : v < length old.vertices
  v_in = second_in at (state_of old) kept h within

  no_edges : AreEdges old.mesh []
  no_edges = record { within = λ k c. absurd (Contains-none k c); once = once_none }

  -- nothing is turned
  made : MakesEdge all old old u v [] []
  made = record {
    contents = refl;
    whole = record { valid = kept.valid; fits = kept.fits };
    shape = kept.shape;
    edge = edge_joins old.mesh kept.valid.sound h within;
    kept = λ k clear. (refl, refl);
    faces_kept = λ f t there first second third. there;
    edges = no_edges;
    leaves = λ pairs passing. passing;
  }

  -- no constraint crosses the segment
  free : NoneCrosses all (constraints_by constraints (state_of old)) u v
  free = edge_is_free at (state_of old) kept h within marks constraints marked

  subconstraint : LeavesSubconstraint all marks marked_as constraints old new u v [] []
  subconstraint = subconstraint_made marks constraints marked at marked_as old old new u v [] []
      made h refl refl by
      free

  way : HasFreeWay at constraints old u v
  way = record { from = u_in; to = v_in; free = free }

  -- the edge alone is the path that is added
  path : AddsPath at marks marked_as constraints old new u v
  path = adding_to_ends (adding_to_goes_on
      (adding_to_begins marks constraints marked {marked_as = marked_as} kept way)
      (edge_is_next at (state_of old) kept h within) has subconstraint) refl

  -- it is added to the constraints, and each edge is as legal as it was
  pub edge_added : AddsConstraints at marks marked_as constraints old new u v
  edge_added = record {
    contents = path.contents;
    marks_some = path.marks_some;
    plain = path.plain;
    legal = record {
      kept = path.kept;
      passing = λ a b k l f g unmarked. (added_left path {was = []} {left = []}
          (record { edges = subconstraint.edges; leaves = subconstraint.leaves }) legal).passing a b
          k l f g
          unmarked (no_joins a b);
    };
  }
