-- An edge that becomes a constraint, alone or as a path, and paths of which no subconstraint is
-- missing.
-- Lemmas: none_missing, some_missing, none_to_itself, one_joined, none_added, one_missing,
-- not_joined, edge_told, edge_listed, list_renamed.
use Rattle.std.proofs.Common.{◌≡◌, ◌≢◌, ◌↔◌, ◌/◌, ◌<◌, [], ◌∷◌, ◌∙◌}
use Rattle.std.proofs.Common.{ℕ, Bool, false, List, length, map}
use Rattle.std.proofs.Common.{refl, sym, subst, subst₂, inl, inr, arith}
use Rattle.std.specs.Prelude.{Contains, Ok}
use Rattle.plane.specs.{IsSamePair, Joins, place as point_place, Point}
use Rattle.plane.proofs.{Meetings.cross_at_point, same-refl, same_joined}
use Rattle.half_edge_links.specs.{Mesh, origin, rev}
use Rattle.plane_theorems.proofs.{Contains-head, joins_or_not, no_edges_cross, path_ends}
use Rattle.delaunay_legalization.specs.{edges_of, faces_of, is_constraint, IsTriangulated, outer_of}
use Rattle.delaunay_legalization.specs.{declared.cdt_edge.CdtEdge.CdtEdge, State.State, state_of}
use Rattle.delaunay_legalization.proofs.{constraints_are_edges, no_joins, own_edges}
use Rattle.delaunay_edit.specs.{AddsConstraint, AddsPathIfFree, constraint_edges, constraints_of}
use Rattle.delaunay_edit.specs.{HasPairs, IsMissing, LeadAlong, NoneCrosses}
use Rattle.{delaunay_edit.specs.PathEdges.AreJoinedAlong, plane_theorems.specs.ArePlacedApart}
use Rattle.{delaunay_edit.proofs.EditingConstraints.nothing_added, half_edge_dcel.specs.Contents}
use Rattle.delaunay_edit.proofs.{JoinedPairs.edge_joins, Walking.in_map, Walking.placed_apart}
use Rattle.delaunay_edit.proofs.OneSubconstraint.{edge_is_free, edge_is_next, ends_apart, first_in}
use Rattle.delaunay_edit.proofs.OneSubconstraint.{one_subconstraint, second_in}
use Rattle.delaunay_edit.proofs.PairCounts.{has_pairs_as, no_pairs, one_more}

-- ---- how many subconstraints are missing
-- an empty list joins nothing
no_pair : (ps : List (ℕ × ℕ)) → length ps ≡ 0 → (a b : ℕ) → ¬ Joins ps a b
no_pair [] e a b h = no_joins a b h
no_pair (p ∷ ps) e a b h = absurd (omega (arith, e))

-- a list with an entry joins two
some_pair : (ps : List (ℕ × ℕ)) → length ps ≢ 0 → (a : ℕ) × (b : ℕ) × Joins ps a b
some_pair [] some = absurd (some refl)
some_pair (p ∷ ps) some = (p.0, p.1, inl (Contains-head p ps))

module _ (points : List Point) (pairs : List (ℕ × ℕ)) (i j n : ℕ)
    (has : HasPairs (IsMissing points pairs i j) n) where
  -- where none is missing, each is a pair of the list
  pub none_missing : n ≡ 0 → AreJoinedAlong points pairs i j
  none_missing none a b next = elim (joins_or_not pairs a b) [
    | inl joined ↦ joined
    | inr free ↦ absurd (no_pair has.pairs (has.count ∙ none) a b ((has.exact a b).1 (next, free)))
  ]

  -- where some are, not each is
  pub some_missing : n ≢ 0 → ¬ AreJoinedAlong points pairs i j
  some_missing some all =
      let p = some_pair has.pairs (λ e. some (sym has.count ∙ e)) in
      let m = (has.exact p.0 p.1).0 p.2 in
      m.1 (all p.0 p.1 m.0)

-- ---- from a vertex to itself
-- no subconstraint is missing, and no constraint crosses
pub none_to_itself : {V D U F E : Type 0} (place : V → Point) (s : State V D (CdtEdge U) F)
    → IsTriangulated place s → (i j : ℕ) → i < length s.vertices → i ≡ j
    → AddsConstraint place {E = E} i j (Ok false) s s
none_to_itself {E = E} at s kept i j within same =
    subst (λ (k : ℕ). AddsConstraint at {E = E} i k (Ok false) s s) same
    (nothing_added at s i i (Ok false) refl within within none_crosses
    (λ a b next. absurd (path_ends points i distinct_places a b next)))
  where
    points : List Point
    points = map at s.vertices

    distinct_places : ArePlacedApart points
    distinct_places = placed_apart points (faces_of s.mesh) (outer_of s.mesh) kept.shape

    none_crosses : NoneCrosses points (constraints_of s) i i
    none_crosses a b joined cross =
        (no_edges_cross points (faces_of s.mesh) (outer_of s.mesh) (edges_of s.mesh) kept.shape
        (own_edges s.mesh kept.valid)).0 a b i
        (constraints_are_edges is_constraint constraint_edges (λ ds. refl) s.mesh s.undirected
        kept.fits.undirected_fit kept.valid a b joined) (in_map at s.vertices i within)
        ((cross_at_point (point_place points i) (point_place points i) (point_place points a)
        (point_place points b) (same-refl (point_place points i))).0 cross)

-- ---- an edge becomes a constraint
module _ {V D U F : Type 0} (place : V → Point) (d : Contents V D (CdtEdge U) F)
    (kept : IsTriangulated place (state_of d)) (h : ℕ) (is_edge : h < length d.directed) where
  within : h < length d.mesh.half_edges
  within = rw kept.fits.directed_fit at is_edge

  abbrev points : List Point
  points = map place d.vertices

  abbrev pairs : List (ℕ × ℕ)
  pairs = constraints_of (state_of d)

  abbrev i : ℕ
  i = origin d.mesh h

  abbrev j : ℕ
  j = origin d.mesh (rev h)

  joins_if : Contains (constraint_edges d.undirected) (h / 2) ↔ Joins pairs i j
  joins_if = edge_joins place is_constraint constraint_edges (λ ds. refl) d kept i j h within refl
      refl

  -- one that is a constraint is the whole path
  pub one_joined : Contains (constraint_edges d.undirected) (h / 2)
      → AreJoinedAlong points pairs i j
  one_joined there a b next = same_joined pairs a b i j
      ((one_subconstraint place (state_of d) kept h within a b).0 next) (joins_if.0 there)

  -- and nothing is added
  pub none_added : Contains (constraint_edges d.undirected) (h / 2)
      → AddsConstraint place {E = ℕ} i j (Ok false) (state_of d) (state_of d)
  none_added there = nothing_added place (state_of d) i j (Ok false) refl
      (first_in place (state_of d) kept h within) (second_in place (state_of d) kept h within)
      (edge_is_free place (state_of d) kept h within is_constraint constraint_edges (λ ds. refl))
      (one_joined there)

  module _ (free : ¬ Contains (constraint_edges d.undirected) (h / 2)) where
    -- of one that is none, one subconstraint is missing
    pub one_missing : HasPairs (IsMissing points pairs i j) 1
    one_missing = has_pairs_as
        (one_more (no_pairs {J = λ _ _. ⊥} (λ a b n. n)) i j (λ n. n)) (λ a b. (
          (λ x. elim x [
            | inl none ↦ absurd none
            | inr same ↦ (
              (one_subconstraint place (state_of d) kept h within a b).1 same,
              (λ joined. free (joins_if.1 (joined_back a b same joined))),
            )
          ]),
          (λ m. inr ((one_subconstraint place (state_of d) kept h within a b).0 m.0)),
        ))
      where
        joined_back : (a b : ℕ) → IsSamePair a b i j → Joins pairs a b → Joins pairs i j
        joined_back a b (inl s) x = same_joined pairs i j a b (inl (sym s.0, sym s.1)) x
        joined_back a b (inr s) x = same_joined pairs i j a b (inr (sym s.1, sym s.0)) x

    -- and it is not joined
    pub not_joined : ¬ AreJoinedAlong points pairs i j
    not_joined all =
        free (joins_if.1 (all i j (edge_is_next place (state_of d) kept h within)))

-- ---- in the words of the edits
module _ {V D U F : Type 0} {place : V → Point} {old new : State V D (CdtEdge U) F}
    {made : Bool} where
  -- what was told of the edge between two vertices may be told of the vertices
  pub edge_told : {E : Type 0} {i j from to : ℕ}
      → AddsConstraint place {E = ℕ} i j (Ok made) old new → i ≡ from → j ≡ to
      → AddsConstraint place {E = E} from to (Ok made) old new
  edge_told {E = E} {i = i} {j = j} adds e f =
      subst₂ (λ (a b : ℕ). AddsConstraint place {E = E} a b (Ok made) old new) e f (record {
        plain = adds.plain;
        told = adds.told;
        none_made = adds.none_made;
        «data» = adds.«data»;
        err = tt;
      })

  -- the list of the edge alone is the path
  pub edge_listed : {h : ℕ} → AddsConstraint place {E = ℕ} (origin old.mesh h)
      (origin old.mesh (rev h)) (Ok made) old new → IsTriangulated place old
      → h < length old.mesh.half_edges → new.mesh ≡ old.mesh → (edges : List ℕ) → edges ≡ h ∷ []
      → AddsPathIfFree place (origin old.mesh h) (origin old.mesh (rev h)) edges old new
  edge_listed {h = h} adds kept within same edges is = record {
    refused = λ barred. absurd (elim barred as (λ _. ⊥) [
      | inl e ↦ ends_apart place old kept h within e
      | inr n ↦ n adds.plain.free
    ]);
    plain = λ apart free. adds.plain;
    along = λ apart free. subst₂ (λ (vs : List V) (m : Mesh).
        LeadAlong (map place vs) m (origin old.mesh h) (origin old.mesh (rev h)) edges)
        (sym adds.plain.vertices) (sym same) (subst (λ (hs : List ℕ). LeadAlong
        (map place old.vertices) old.mesh (origin old.mesh h) (origin old.mesh (rev h)) hs)
        (sym is) (
          within,
          refl,
          edge_is_next place old kept h within,
          refl,
        ));
    «data» = adds.«data»;
  }

-- ---- by other names of the ends
-- the path that is the edge between two vertices
pub list_renamed : {V D U F : Type 0} (place : V → Point) (old new : State V D (CdtEdge U) F)
    (edges : List ℕ) (i j k l : ℕ) → i ≡ k → j ≡ l → AddsPathIfFree place i j edges old new
    → AddsPathIfFree place k l edges old new
list_renamed place old new edges i j k l e f adds =
    subst₂ (λ (a b : ℕ). AddsPathIfFree place a b edges old new) e f adds
