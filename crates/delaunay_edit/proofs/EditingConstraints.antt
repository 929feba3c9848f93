-- Paths of constraints that are added to a triangulation, and constraints that are released.
-- Lemmas: next_of, neighbours_of, unmarked, nothing_added, pairs_differ, path_added,
-- path_is_there, none_listed, edges_marked, edge_freed, none_released.
use Rattle.std.proofs.Common.{◌≡◌, ◌⊎◌, ◌<◌, []}
use Rattle.std.proofs.Common.{ℕ, Bool, true, false, List, length, map, refl, sym, ap}
use Rattle.std.proofs.Common.{subst, inl, inr}
use Rattle.std.specs.Prelude.{Contains, Result, Ok}
use Rattle.plane.specs.{Adds, AreNeighboursOn, CanAdd, Point, SamePairs}
use Rattle.half_edge_dcel.specs.{Contents}
use Rattle.delaunay_legalization.specs.{is_constraint, State.State, state_of, with_mark}
use Rattle.delaunay_legalization.specs.declared.cdt_edge.CdtEdge.{CdtEdge}
use Rattle.{delaunay_legalization.proofs.both_ways, plane_theorems.specs.AreNextOn}
use Rattle.delaunay_edit.specs.{AddsConstraint, AddsConstraints, AddsPathIfFree, constrained}
use Rattle.delaunay_edit.specs.{constraint_edges, constraints_of, IsDelaunay, ReleasesConstraint}
use Rattle.delaunay_edit.specs.{ConstraintEdits.FreesEdge, ConstraintEdits.MarksEdges, ReleasesEdge}
use Rattle.delaunay_edit.specs.PathEdges.{AreJoinedAlong, HasPath}

-- ---- subconstraints of a path are neighbours on its segment
module _ {V : Type 0} (place : V → Point) (points : List Point) (i j a b : ℕ) where
  -- neighbours on the segment in the words of plain states are so by the points
  pub next_of : AreNeighboursOn place points i j a b → AreNextOn points i j a b
  next_of n = record {
    apart = n.apart;
    first_index = n.first_index;
    second_index = n.second_index;
    first = n.first;
    second = n.second;
    none_between = n.none_between;
  }

  -- and the other way round
  pub neighbours_of : AreNextOn points i j a b → AreNeighboursOn place points i j a b
  neighbours_of n = record {
    apart = n.apart;
    first_index = n.first_index;
    second_index = n.second_index;
    first = n.first;
    second = n.second;
    none_between = n.none_between;
  }

module _ {V D U F : Type 0} (place : V → Point) where
  -- ---- nothing is left to add
  module _ (s : State V D (CdtEdge U) F) where
    -- without a change no edge is marked
    pub unmarked : MarksEdges s s
    unmarked = record { rest = refl; each = λ k d is. inl is }

    -- where each subconstraint of the path is a constraint, nothing changes
    pub nothing_added : {E : Type 0} (from to : ℕ) (result : Result Bool E) → result ≡ Ok false
        → from < length s.vertices → to < length s.vertices → CanAdd place (constrained s) from to
        → AreJoinedAlong (map place s.vertices) (constraints_of s) from to
        → AddsConstraint place from to result s s
    nothing_added {E} from to result is hi hj free all =
        subst (λ (r : Result Bool E). AddsConstraint place from to r s s) (sym is) (record {
          plain = record {
            ends = (hi, hj);
            free = free;
            vertices = refl;
            constraints = λ a b. (
              (λ x. inl x),
              (λ x. elim x [
                | inl y ↦ y
                | inr n ↦ all a b (next_of place (map place s.vertices) from to a b n)
              ]),
            );
          };
          told = (
            (λ t. absurd (both_ways false t refl)),
            (λ differ. absurd (differ (λ a b. ((λ x. x), (λ x. x))))),
          );
          none_made = λ not_made. refl;
          «data» = unmarked;
          err = tt;
        })

  -- ---- a path is added
  module _ (old new : State V D (CdtEdge U) F) (from to : ℕ)
      (adds : Adds place (constrained old) (constrained new) from to) where
    -- where a subconstraint was no constraint, there are other constraints afterwards
    pub pairs_differ : ¬ AreJoinedAlong (map place old.vertices) (constraints_of old) from to →
        ¬ SamePairs (constraints_of old) (constraints_of new)
    pairs_differ some same = some (λ a b next. (same a b).0
        ((adds.constraints a b).1
        (inr (neighbours_of place (map place old.vertices) from to a b next))))

    -- and the path is added, with a result that tells so
    pub path_added : {E : Type 0} (result : Result Bool E) → result ≡ Ok true
        → ¬ AreJoinedAlong (map place old.vertices) (constraints_of old) from to
        → MarksEdges old new → AddsConstraint place from to result old new
    path_added {E} result is some marks =
        subst (λ (r : Result Bool E). AddsConstraint place from to r old new) (sym is) (record {
          plain = adds;
          told = ((λ t. pairs_differ some), (λ differ. refl));
          none_made = λ not_made. absurd (not_made refl);
          «data» = marks;
          err = tt;
        })

    -- each of its subconstraints is an edge
    pub path_is_there : IsDelaunay place constraint_edges new
        → HasPath (map place new.vertices) new.mesh from to
    path_is_there headline a b next = headline.delaunay.kept a b
        ((adds.constraints a b).1 (inr (neighbours_of place (map place old.vertices) from to a b
        (subst (λ (vs : List V). AreNextOn (map place vs) from to a b) adds.vertices next))))

  -- ---- no path is to be added
  -- where one crosses it, or the two are one, there are no edges, and nothing changes
  pub none_listed : (s : State V D (CdtEdge U) F) (from to : ℕ) (edges : List ℕ) → edges ≡ []
      → (from ≡ to) ⊎ (¬ CanAdd place (constrained s) from to)
      → AddsPathIfFree place from to edges s s
  none_listed s from to edges none barred = record {
    refused = λ x. (none, refl);
    plain = λ apart free. absurd (elim barred as (λ _. ⊥) [ inl e ↦ apart e | inr n ↦ n free ]);
    along = λ apart free. absurd (elim barred as (λ _. ⊥) [ inl e ↦ apart e | inr n ↦ n free ]);
    «data» = unmarked s;
  }

-- ---- by the mesh
module _ {V D U F : Type 0} (place : V → Point) (old new : Contents V D (CdtEdge U) F) where
  -- a path of constraints that is added marks edges
  pub edges_marked : (from to : ℕ)
      → AddsConstraints place is_constraint (with_mark true) constraint_edges old new from to
      → MarksEdges (state_of old) (state_of new)
  edges_marked from to adds = record { rest = ap state_of adds.contents; each = adds.marks_some }

  -- an edge that is released is free
  pub edge_freed : (k : ℕ) → ReleasesEdge place (with_mark false) constraint_edges old new k →
      FreesEdge (state_of old) (state_of new) k
  edge_freed k releases = record {
    value = releases.value;
    was = releases.was;
    rest = ap state_of releases.contents;
    indexes = releases.indexes;
  }

-- ---- an edge is released
module _ {V D U F : Type 0} (place : V → Point) {E : Type 0} (k : ℕ) (result : Result Bool E) where
  -- an edge that is no constraint is not released
  pub none_released : (s : State V D (CdtEdge U) F) → result ≡ Ok false
      → ¬ Contains (constraint_edges s.undirected) k → ReleasesConstraint place k result s s
  none_released s is none =
      subst (λ (r : Result Bool E). ReleasesConstraint place k r s s) (sym is) (record {
        none = λ n. (refl, refl);
        told = ((λ t. absurd (both_ways false t refl)), (λ h. absurd (none h)));
        plain = λ h. absurd (none h);
        «data» = λ h. absurd (none h);
        err = tt;
      })
