-- A constraint that is released, by the edge between its ends.
-- Lemmas: no_edge, is_edge, is_released, is_none, not_released.
use Rattle.std.proofs.Common.{◌≡◌, ◌*◌, ◌/◌, ◌<◌}
use Rattle.std.proofs.Common.{ℕ, Bool, true, false, length, refl, inl, inr, ap, sym, subst}
use Rattle.std.specs.Prelude.{◌↔◌, ℤ, Contains, Result, Ok, Err}
use Rattle.plane.specs.{IsEdge, IsSamePair, Joins, Plain, Releases}
use Rattle.half_edge_links.specs.{origin, rev}
use Rattle.{delaunay_core.specs.OutOfMemory, delaunay_core.specs.Point2, plane.proofs.same_joined}
use Rattle.delaunay_legalization.specs.{is_constraint, IsTriangulated, triangulation_of}
use Rattle.delaunay_legalization.specs.{declared.cdt_edge.CdtEdge.CdtEdge, State.State}
use Rattle.delaunay_legalization.proofs.{both_ways, edge_joins, joins_edge}
use Rattle.delaunay_edit.specs.{constrained, constraint_edges, constraints_of, ReleasesConstraint}
use Rattle.{delaunay_edit.proofs.AddingSubconstraints.half_ends, plane_theorems.proofs.joins_or_not}
use Rattle.{delaunay_interface.specs.AreNotJoined, triangulate_run.proofs.Marks.contents_of}
use Rattle.triangulate_run.specs.{Answer.MayRelease, position, Refused, stage_by}
use Rattle.triangulate_run.specs.declared.reply.Reply.TheVariants.{NotConstrained, Released}
use Rattle.delaunay_edit.proofs.JoinedPairs as joined

-- ---- edges between two vertices
module _ {D U F : Type 0} (s : State (Point2 ℤ) D U F) (kept : IsTriangulated position s)
    (i j : ℕ) where
  -- where no directed edge goes from i to j, they are not joined by an edge
  pub no_edge : AreNotJoined s i j → ¬ IsEdge (triangulation_of position s) i j
  no_edge none joins = let e = joins_edge s.mesh kept.valid.sound i j joins in
      none e.0 (subst (λ (n : ℕ). e.0 < n) (sym kept.fits.directed_fit) e.1) e.2 e.3

  -- a directed edge from i to j is an edge between them
  pub is_edge : (h : ℕ) → h < length s.directed → origin s.mesh h ≡ i → origin s.mesh (rev h) ≡ j
      → IsEdge (triangulation_of position s) i j
  is_edge h within from to =
      let here = edge_joins s.mesh kept.valid.sound h
      (subst (λ (n : ℕ). h < n) kept.fits.directed_fit within) in
      subst (λ (b : ℕ). IsEdge (triangulation_of position s) i b) to
      (subst (λ (a : ℕ). IsEdge (triangulation_of position s) a (origin s.mesh (rev h))) from here)

-- ---- a pair by its ends in the other order
releases_same : {V : Type 0} (at : V → _) (old new : Plain V) (x y i j : ℕ)
    → ((u v : ℕ) → IsSamePair u v x y ↔ IsSamePair u v i j) → Releases at old new x y
    → Releases at old new i j
releases_same at old new x y i j same r = record {
  there = same_joined old.constraints i j x y ((same i j).1 (inl (refl, refl))) r.there;
  vertices = r.vertices;
  constraints = λ a b. (
    (λ h. let p = (r.constraints a b).0 h in (p.0, λ q. p.1 ((same a b).1 q))),
    (λ (h, other). (r.constraints a b).1 (h, λ q. other ((same a b).0 q))),
  );
}

-- ---- what became of the constraint from i to j, whose edge is h
module _ {D U F E : Type 0} (old new : State (Point2 ℤ) D (CdtEdge U) F)
    (kept : IsTriangulated position old) (i j h : ℕ) (within : h < length old.directed)
    (from : origin old.mesh h ≡ i) (to : origin old.mesh (rev h) ≡ j) (k : ℕ) (half : k ≡ h / 2)
    (r : Result Bool E) (done : ReleasesConstraint position k r old new) where
  there : Contains (constraint_edges old.undirected) k ↔ Joins (constraints_of old) i j
  there = subst (λ (n : ℕ). Contains (constraint_edges old.undirected) n
      ↔ Joins (constraints_of old) i j) (sym half)
      (joined.edge_joins position is_constraint constraint_edges (λ ds. refl)
      (contents_of old) kept i j h
      (subst (λ (n : ℕ). h < n) kept.fits.directed_fit within) from to)

  -- edge k has the ends i and j
  ends : (a b : ℕ) → IsSamePair a b (origin old.mesh (2 * k)) (origin old.mesh (rev (2 * k)))
      ↔ IsSamePair a b i j
  ends a b =
      subst (λ (n : ℕ). IsSamePair a b (origin old.mesh (2 * n)) (origin old.mesh (rev (2 * n)))
      ↔ IsSamePair a b i j) (sym half) (half_ends old.mesh h i j a b from to)

  -- where the result tells so, the reply may be that it was released
  pub is_released : r ≡ Ok true
      → MayRelease (stage_by constraint_edges old) i j Released (stage_by constraint_edges new)
  is_released is =
      let told = subst (λ (q : Result Bool E). ReleasesConstraint position k q old new) is done in
      releases_same position (constrained old) (constrained new) (origin old.mesh (2 * k))
      (origin old.mesh (rev (2 * k))) i j ends (told.plain (told.told.0 refl))

  -- where it tells that there was none, the reply may be so
  pub is_none : r ≡ Ok false → MayRelease (stage_by constraint_edges old) i j NotConstrained
      (stage_by constraint_edges new)
  is_none is =
      let told = subst (λ (q : Result Bool E). ReleasesConstraint position k q old new) is done in
      let not : ¬ Contains (constraint_edges old.undirected) k =
      λ had. both_ways _ (told.told.1 had) refl in (
        is_edge old kept i j h within from to,
        (λ joins. not (there.1 joins)),
        ap (stage_by constraint_edges) (told.none not).1,
      )

  -- where it is an error, the reply may be that memory was refused
  pub not_released : (e : E) → r ≡ Err e → MayRelease (stage_by constraint_edges old) i j
      (Refused OutOfMemory) (stage_by constraint_edges new)
  not_released e is =
      let told = subst (λ (q : Result Bool E). ReleasesConstraint position k q old new) is done in (
        elim (joins_or_not (constraints_of old) i j) [
          | inl joins ↦ joins
          | inr none ↦ (let no = (told.none (λ had. none (there.0 had))).0 in cc)
        ],
        ap (stage_by constraint_edges) told.err,
      )
