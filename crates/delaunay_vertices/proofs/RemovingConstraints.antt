-- A vertex whose edges have ceased to be constraints goes.
-- Lemmas: freed_vertices, freed_room, freed_placed, plain_left, data_left.
use Rattle.std.proofs.Common.{◌≡◌, ◌≢◌, ◌⊎◌, ◌↔◌, ◌-◌, ◌*◌, ◌/◌, ◌<◌, ◌∙◌}
use Rattle.std.proofs.Common.{ℕ, List, length, map, sym, ap, subst, inl, inr, arith}
use Rattle.std.specs.Prelude.{All, Bool, false, Contains, nat_eq, if◌then◌else◌, slice_get}
use Rattle.std.specs.Prelude.{swap_remove}
use Rattle.plane.specs.{IsSamePair, Joins, Point, TakesOut}
use Rattle.half_edge_links.specs.{Mesh, origin, rev}
use Rattle.half_edge_dcel.specs.{Contents, full_edges, FullEdge, IsMeshWithData}
use Rattle.delaunay_legalization.specs.{constraint_pairs, IsEmbedding, IsTriangulated, marked_edges}
use Rattle.delaunay_legalization.specs.{points_and_constraints, points_and_constraints_by, state_of}
use Rattle.delaunay_legalization.proofs.{joined_by_mark, JoinsByMark, mark_joins, rev_of_even}
use Rattle.delaunay_vertices.specs.{FreesEdgesAt, KeepsDataBeside, RenumbersEdges}
use Rattle.delaunay_vertices.specs.{declared.lists.RemovalLists.RemovalLists, Lists.HasRoomToRemove}
use Rattle.delaunay_vertices.proofs.DataReads.{edge_read, even_or_odd}
use Rattle.delaunay_vertices.proofs.LeavingConstraints.{back_and_there, constraints_left}

module _ {V D U F : Type 0} {place : V → Point} {marks : U → Bool} {constraints : List U → List ℕ}
    {old mid : Contents V D U F} {v : ℕ}
    (marked : (ds : List U) → constraints ds ≡ marked_edges marks ds)
    (frees : FreesEdgesAt marks old mid v) (kept : IsTriangulated place (state_of old)) where
  same_mesh : mid.mesh ≡ old.mesh
  same_mesh = ap (λ (c : Contents V D U F). c.mesh) frees.contents

  -- the vertices stay
  pub freed_vertices : mid.vertices ≡ old.vertices
  freed_vertices = ap (λ (c : Contents V D U F). c.vertices) frees.contents

  -- there is room as before
  pub freed_room : {lists : RemovalLists} → HasRoomToRemove old v lists
      → HasRoomToRemove mid v lists
  freed_room {lists} room = subst (λ (c : Contents V D U F). HasRoomToRemove c v lists)
      (sym frees.contents)
      (record {
        edges = room.edges;
        sides = room.sides;
        tested = room.tested;
        turned = room.turned;
      })

  -- a triangulation stays one
  freed_kept : IsTriangulated place (state_of mid)
  freed_kept = subst (λ (c : Contents V D U F). IsTriangulated place (state_of c))
      (sym frees.contents) (record {
        in_range = kept.in_range;
        few_edges = rw frees.count kept.few_edges;
        few_faces = kept.few_faces;
        valid = kept.valid;
        fits = rw frees.count kept.fits;
        shape = kept.shape;
      })

  -- with the same sites
  pub freed_placed : {P : Type 0} {IsSite : P → Point → Type 0} {t : P}
      → All (IsSite t) (map place old.vertices) → IsEmbedding place IsSite mid t
  freed_placed {IsSite = IsSite} {t = t} sites = record {
    kept = freed_kept;
    sites = subst (λ (vs : List V). All (IsSite t) (map place vs)) (sym freed_vertices) sites;
  }

  whole : IsMeshWithData mid
  whole = record { valid = freed_kept.valid; fits = freed_kept.fits }

  -- no edge at the vertex is a constraint
  unmarked : (e : FullEdge D U) → Contains (full_edges mid) e → (e.source ≡ v) ⊎ (e.target ≡ v)
      → marks e.value ≡ false
  unmarked e h at =
      let is = edge_read mid whole h.0 e h.1 h.2 in
      let within = is.within in
      let ds = whole.fits.directed_fit in
      let us = whole.fits.undirected_fit in
      let inside : h.0 < length old.undirected =
      subst (λ (n : ℕ). h.0 < n) frees.count (omega (arith, within, ds, us)) in
      elim at [
        | inl q ↦ frees.starting h.0 inside
            (ap (λ (m : Mesh). origin m (2 * h.0)) (sym same_mesh) ∙ is.source ∙ q)
            e.value is.value
        | inr q ↦
            frees.ending h.0 inside (ap (λ (m : Mesh). origin m (rev (2 * h.0))) (sym same_mesh)
            ∙ ap (origin mid.mesh) (rev_of_even h.0) ∙ is.target ∙ q) e.value is.value
      ]

  -- a pair beside the vertex is a constraint still, and was one
  abbrev was : List (ℕ × ℕ)
  was = constraint_pairs constraints old.mesh old.undirected

  abbrev now : List (ℕ × ℕ)
  now = constraint_pairs constraints mid.mesh mid.undirected

  -- a pair with the same ends as one without v is without v
  off : (a b s t : ℕ) → IsSamePair a b s t → a ≢ v → b ≢ v → (s ≢ v) × (t ≢ v)
  off a b s t (inl q) na nb = (λ r. na (q.0 ∙ r), λ r. nb (q.1 ∙ r))
  off a b s t (inr q) na nb = (λ r. nb (q.1 ∙ r), λ r. na (q.0 ∙ r))

  beside_now : (a b : ℕ) → a ≢ v → b ≢ v → Joins was a b → Joins now a b
  beside_now a b na nb joined =
      let j : JoinsByMark marks constraints marked old.mesh old.undirected a b =
      mark_joins marks constraints marked old.mesh old.undirected a b joined in
      let o = off a b (origin old.mesh (2 * j.edge))
      (origin old.mesh (rev (2 * j.edge))) j.ends na nb in
      joined_by_mark marks constraints marked mid.mesh mid.undirected a b (record {
        edge = j.edge;
        is = record {
          value = j.is.value;
          has = frees.others j.edge o.0 o.1 ∙ j.is.has;
          mark = j.is.mark;
        };
        ends = subst
            (λ (m : Mesh). IsSamePair a b (origin m (2 * j.edge)) (origin m (rev (2 * j.edge))))
            (sym same_mesh) j.ends;
      })

  beside_was : (a b : ℕ) → a ≢ v → b ≢ v → Joins now a b → Joins was a b
  beside_was a b na nb joined =
      let j : JoinsByMark marks constraints marked mid.mesh mid.undirected a b =
      mark_joins marks constraints marked mid.mesh mid.undirected a b joined in
      let ends :
      IsSamePair a b (origin old.mesh (2 * j.edge)) (origin old.mesh (rev (2 * j.edge))) =
      subst (λ (m : Mesh). IsSamePair a b (origin m (2 * j.edge)) (origin m (rev (2 * j.edge))))
      same_mesh j.ends in
      let o =
      off a b (origin old.mesh (2 * j.edge)) (origin old.mesh (rev (2 * j.edge))) ends na nb in
      joined_by_mark marks constraints marked old.mesh old.undirected a b (record {
        edge = j.edge;
        is = record {
          value = j.is.value;
          has = sym (frees.others j.edge o.0 o.1) ∙ j.is.has;
          mark = j.is.mark;
        };
        ends = ends;
      })

  abbrev last : ℕ
  last = length old.vertices - 1

  abbrev old_index : ℕ → ℕ
  old_index k = if nat_eq k v then last else k

  -- ---- and the vertex goes
  module _ (new : Contents V D U F) (left_kept : IsTriangulated place (state_of new)) where
    after : IsMeshWithData new
    after = record { valid = left_kept.valid; fits = left_kept.fits }

    -- the removal of v from the vertices alone is one from them with the constraints of before
    pub plain_left : TakesOut place (points_and_constraints (state_of mid))
        (points_and_constraints (state_of new)) v → RenumbersEdges mid new v
        → TakesOut place (points_and_constraints_by constraints (state_of old))
        (points_and_constraints_by constraints (state_of new)) v
    plain_left removes renumbers = record {
      here = here;
      vertices = λ d. subst (λ (vs : List V). new.vertices ≡ swap_remove vs v d) freed_vertices
          (removes.vertices d);
      constraints = λ a b. ((λ h. came a b h), (λ h. goes a b h.0 h.1 h.2));
    }
      where
        here : v < length old.vertices
        here = subst (λ (vs : List V). v < length vs) freed_vertices removes.here

        left : (a b : ℕ) → Joins (constraint_pairs constraints new.mesh new.undirected) a b ↔
            ((a < last) × (b < last) × Joins now (old_index a) (old_index b))
        left a b = subst
            (λ (vs : List V). Joins (constraint_pairs constraints new.mesh new.undirected) a b ↔
            ((a < length vs - 1) × (b < length vs - 1)
            × Joins now (if nat_eq a v then length vs - 1 else a)
            (if nat_eq b v then length vs - 1 else b))) freed_vertices
            (constraints_left marks constraints marked mid new whole after v removes.here unmarked
            renumbers a b)

        came : (a b : ℕ) → Joins (constraint_pairs constraints new.mesh new.undirected) a b
            → (a < last) × (b < last) × Joins was (old_index a) (old_index b)
        came a b h =
            let k = (left a b).0 h in (
              k.0,
              k.1,
              beside_was (old_index a) (old_index b) (back_and_there v last a k.0).0
                  (back_and_there v last b k.1).0 k.2,
            )

        goes : (a b : ℕ) → a < last → b < last → Joins was (old_index a) (old_index b) →
            Joins (constraint_pairs constraints new.mesh new.undirected) a b
        goes a b ha hb j = (left a b).1 (
          ha,
          hb,
          beside_now (old_index a) (old_index b) (back_and_there v last a ha).0
              (back_and_there v last b hb).0 j,
        )

    halves_off : (g : ℕ) → origin old.mesh g ≢ v → origin old.mesh (rev g) ≢ v →
        slice_get mid.undirected (g / 2) ≡ slice_get old.undirected (g / 2)
    halves_off g starts ends = elim (even_or_odd g) [
      | inl q ↦ frees.others (g / 2) (λ r. starts (ap (origin old.mesh) q.0 ∙ r))
          (λ r. ends (ap (origin old.mesh) (q.1 ∙ sym (rev_of_even (g / 2))) ∙ r))
      | inr q ↦ frees.others (g / 2) (λ r. ends (ap (origin old.mesh) q.1 ∙ r))
          (λ r. starts (ap (origin old.mesh) (q.0 ∙ sym (rev_of_even (g / 2))) ∙ r))
    ]

    -- all that keeps its data beside v keeps those of before
    pub data_left : KeepsDataBeside (state_of mid) (state_of new) v
        → KeepsDataBeside (state_of old) (state_of new) v
    data_left beside =
        go (subst (λ (c : Contents V D U F). KeepsDataBeside (state_of c) (state_of new) v)
        frees.contents beside)
      where
        go : KeepsDataBeside (state_of (record old { undirected = mid.undirected }))
            (state_of new) v →
            KeepsDataBeside (state_of old) (state_of new) v
        go b = record {
          edges = λ g within starts ends.
              let r = b.edges g within starts ends in (
                r.0,
                record {
                  within = r.1.within;
                  starts = r.1.starts;
                  ends = r.1.ends;
                  directed = r.1.directed;
                  undirected = r.1.undirected ∙ halves_off g starts ends;
                },
              );
          faces = λ f t is p q r. let x = b.faces f t is p q r in
              (x.0, record { corners = x.1.corners; value = x.1.value });
          outer = b.outer;
        }
