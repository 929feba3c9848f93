-- What single edits give.
-- Lemmas: same_position, position_same, pair_refused, refused_insertion, removed_so, pair_joined,
-- unjoined_is_free, joined_by_edge, edge_joined_by, pair_released.
use Rattle.std.proofs.Common.{◌≡◌, ◌∙◌, ◌*◌, ◌/◌, ◌<◌}
use Rattle.std.proofs.Common.{ℕ, Bool, List, map, Ok, Err, refl, sym, ap, subst, inl, inr}
use Rattle.plane.specs.{IsSamePair, Joins, Plain, Point, Releases}
use Rattle.plane.proofs.{same_joined, turned_join}
use Rattle.half_edge_links.specs.{origin, rev}
use Rattle.{delaunay_core.specs.InsertionError, delaunay_edit.proofs.AddingSubconstraints.half_ends}
use Rattle.delaunay_legalization.specs.{is_constraint, IsTriangulated, point_at, State.State}
use Rattle.delaunay_legalization.specs.declared.cdt_edge.CdtEdge.{CdtEdge}
use Rattle.delaunay_legalization.proofs.{constraints_are_edges, joins_edge}
use Rattle.delaunay_legalization.proofs.MeshStays.{same_pair_back}
use Rattle.delaunay_edit.specs.{AddsConstraint, constrained, constraint_edges, constraints_of}
use Rattle.delaunay_edit.specs.{ConstraintEdits.FreesEdge, InsertsVertex, RemovesVertex}
use Rattle.delaunay_interface.specs.{AreNotJoined}
use Rattle.delaunay_journal.specs.{declared.edit.Refusal.TheVariants.NoConstraints, Gives, Refused}
use Rattle.delaunay_journal.specs.Journal.{edit_of, JoinsPair, ReleasesPair}
use Rattle.delaunay_journal.specs.Marking.{flag_marking, no_marking}
use Rattle.delaunay_journal.specs.declared.edit.PairEdit.{PairEdit}
use Rattle.delaunay_journal.specs.declared.edit.PairEdit.TheVariants.{Join, Release}

-- ---- a pair in either order
same_either : (a b i j : ℕ) → IsSamePair a b i j → IsSamePair a b j i
same_either a b i j (inl s) = inr s
same_either a b i j (inr s) = inl s

module _ {V : Type 0} (place : V → Point) (old new : Plain V) (i j : ℕ) where
  releases_either : Releases place old new i j → Releases place old new j i
  releases_either r = record {
    there = turned_join old.constraints i j r.there;
    vertices = r.vertices;
    constraints = λ a b. (
      (λ h. let was = (r.constraints a b).0 h in (was.0, (λ s. was.1 (same_either a b j i s)))),
      (λ h. (r.constraints a b).1 (h.0, (λ s. h.1 (same_either a b i j s)))),
    );
  }

-- ---- the position of the vertex j, which was read, and that of a value
module _ {V : Type 0} (place : V → Point) (vs : List V) (v : V) {i j : ℕ} {here there : Point}
    (read : here ≡ point_at (map place vs) j) (is : j ≡ i) (wanted : there ≡ place v) where
  -- where the two points are equal, vertex i is at the position of v
  pub same_position : here ≡ there → point_at (map place vs) i ≡ place v
  same_position same = ap (point_at (map place vs)) (sym is) ∙ sym read ∙ same ∙ wanted

  -- and where it is, they are equal
  pub position_same : point_at (map place vs) i ≡ place v → here ≡ there
  position_same same = read ∙ ap (point_at (map place vs)) is ∙ same ∙ sym wanted

-- where no edge can be a constraint, an edit of a pair is refused
pub pair_refused : {V D U F : Type 0} (place : V → Point) (constraints : List U → List ℕ)
    (s : State V D U F) (e : PairEdit)
    → Gives place constraints no_marking (edit_of e) (Refused NoConstraints) s s
pair_refused place constraints s (Join i j) = (refl, refl)
pair_refused place constraints s (Release i j) = (refl, refl)

module _ {V D U F : Type 0} {place : V → Point} {constraints : List U → List ℕ} where
  -- a refused insertion, in the state that it leaves
  pub refused_insertion : {old new : State V D U F} {v : V} {e : InsertionError}
      → InsertsVertex place constraints v (Err e) old new
      → InsertsVertex place constraints v (Err e) old old × (new ≡ old)
  refused_insertion {old = old} {v = v} {e = e} done = (
    subst (λ (s : State V D U F). InsertsVertex place constraints v (Err e) old s) done.err done,
    done.err,
  )

  -- a removal, whatever its error is
  pub removed_so : {E G : Type 0} {old new : State V D U F} {i : ℕ} {v : V} →
      RemovesVertex place constraints {E = E} i (Ok v) old new →
      RemovesVertex place constraints {E = G} i (Ok v) old new
  removed_so r =
      record { value = r.value; plain = r.plain; outer = r.outer; «data» = r.«data»; err = tt }

module _ {V D U F : Type 0} {place : V → Point} where
  -- a constraint that was added
  pub pair_joined : {E : Type 0} {old new : State V D (CdtEdge U) F} {i j : ℕ} {made : Bool} →
      AddsConstraint place {E = E} i j (Ok made) old new →
      JoinsPair place constraint_edges flag_marking i j made old new
  pair_joined a =
      record {
        possible = refl;
        plain = a.plain;
        told = a.told;
        rest = a.«data».rest;
        each = a.«data».each;
      }

  -- where no edge joins two vertices, no constraint does
  pub unjoined_is_free : {old : State V D (CdtEdge U) F} (i j : ℕ) → IsTriangulated place old
      → AreNotJoined old i j → ¬ Joins (constraints_of old) i j
  unjoined_is_free {old = old} i j kept apart joined =
      let e = joins_edge old.mesh kept.valid.sound i j
      (constraints_are_edges is_constraint constraint_edges (λ ds. refl) old.mesh old.undirected
      kept.fits.undirected_fit kept.valid i j joined) in
      apart e.0 (subst (λ (n : ℕ). e.0 < n) (sym kept.fits.directed_fit) e.1) e.2 e.3

module _ {V D U F : Type 0} (old : State V D (CdtEdge U) F) {i j k : ℕ} (h : ℕ) (half : k ≡ h / 2)
    (from : origin old.mesh h ≡ i) (to : origin old.mesh (rev h) ≡ j) where
  -- the ends of an edge, by its undirected edge
  ends : IsSamePair i j (origin old.mesh (2 * k)) (origin old.mesh (rev (2 * k)))
  ends = subst (λ (l : ℕ). IsSamePair i j (origin old.mesh (2 * l))
      (origin old.mesh (rev (2 * l)))) (sym half)
      ((half_ends old.mesh h i j i j from to).1 (inl (refl, refl)))

  -- the edge is a constraint where its ends are joined by one
  pub joined_by_edge : Joins (constraints_of old) (origin old.mesh (2 * k))
      (origin old.mesh (rev (2 * k))) → Joins (constraints_of old) i j
  joined_by_edge joined =
      same_joined (constraints_of old) i j (origin old.mesh (2 * k))
      (origin old.mesh (rev (2 * k))) ends joined

  -- where a constraint joins i and j, it joins the ends of the undirected edge between them
  pub edge_joined_by : Joins (constraints_of old) i j →
      Joins (constraints_of old) (origin old.mesh (2 * k)) (origin old.mesh (rev (2 * k)))
  edge_joined_by joined =
      same_joined (constraints_of old) (origin old.mesh (2 * k)) (origin old.mesh (rev (2 * k)))
      i j (same_pair_back i j (origin old.mesh (2 * k)) (origin old.mesh (rev (2 * k))) ends)
      joined

  -- the constraint between two vertices is released, by its edge
  pub pair_released : {place : V → Point} {new : State V D (CdtEdge U) F} → Releases place
      (constrained old) (constrained new) (origin old.mesh (2 * k)) (origin old.mesh (rev (2 * k)))
      → FreesEdge old new k → ReleasesPair place constraint_edges flag_marking i j old new
  pair_released {place = place} {new = new} r f = record {
    possible = refl;
    plain = go ends;
    edge = k;
    value = f.value;
    was = f.was;
    rest = f.rest;
    indexes = f.indexes;
  }
    where
      go : IsSamePair i j (origin old.mesh (2 * k)) (origin old.mesh (rev (2 * k))) →
          Releases place (constrained old) (constrained new) i j
      go (inl s) =
          subst (λ (x : ℕ). Releases place (constrained old) (constrained new) x j) (sym s.0)
          (subst (λ (y : ℕ). Releases place (constrained old) (constrained new)
          (origin old.mesh (2 * k)) y)
          (sym s.1) r)
      go (inr s) = releases_either place (constrained old) (constrained new) j i
          (subst (λ (x : ℕ). Releases place (constrained old) (constrained new) x i) (sym s.1)
          (subst (λ (y : ℕ). Releases place (constrained old) (constrained new)
          (origin old.mesh (2 * k)) y)
          (sym s.0) r))
