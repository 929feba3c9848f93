-- Subconstraints of a path that become edges and constraints, one after another.
-- Notions: AddsSubconstraint, LeavesSubconstraint, IsAddingTo, IsAddingSubconstraints; half_ends, subconstraint_whole, subconstraint_added,
-- adding_to_begins, adding_starts, subconstraint_made, same, adding_placed, adding_between, adding_subconstraint,
-- adding_to_goes_on, adding_shortens, adding_to_ends, adding_room, adding_work,
-- adding_goes_on_by, cleared_work.
use Rattle.std.proofs.Common.{◌≡◌, ◌≢◌, ◌⊎◌, ◌↔◌, ◌*◌, ◌/◌, ◌%◌, ◌<◌, ◌≤◌, [], ◌∙◌}
use Rattle.std.proofs.Common.{ℕ, List, length, map, set, refl, sym, ap, subst, inl, inr, arith}
use Rattle.std.specs.Prelude.{Bool, true, false, All, nat_abs}
use Rattle.std.proofs.lemmas.Bool.{cases_lt}
use Rattle.std.proofs.lemmas.List.{get_or_past, length-set}
use Rattle.plane.specs.{Cross, InRange, IsIndex, IsSamePair, Joins, place, Point, squared_vector}
use Rattle.half_edge_links.specs.{HalfEdge, IsSoundEdge, Mesh, no_edge, origin, rev}
use Rattle.half_edge_links.proofs.{rev-rev, rev_within}
use Rattle.plane_theorems.specs.{AllPassBut, AreNextOn, ArePlacedApart, IsFaceOf, IsMesh, point_of}
use Rattle.plane_theorems.proofs.{Contains-none, once_none, path_ends, path_shortens}
use Rattle.plane_theorems.proofs.Segments.Constraints.Adding.{adding_adds, adding_begins}
use Rattle.plane_theorems.proofs.Segments.Constraints.Adding.{adding_ends, adding_goes_on}
use Rattle.plane_theorems.proofs.Segments.Constraints.Adding.{IsAddingPath, subconstraint_is_clear}
use Rattle.plane_theorems.proofs.Segments.Constraints.Whole.{subconstraint_crosses_whole}
use Rattle.half_edge_dcel.specs.{Contents, IsMeshWithData}
use Rattle.delaunay_legalization.specs.{AreEdges, constraint_pairs, constraints_by, faces_of}
use Rattle.delaunay_legalization.specs.{GoSameDirection, HasEdgeData, IsEmbedding, IsTriangulated}
use Rattle.delaunay_legalization.specs.{marked_edges, outer_of, pairs_at, points_and_constraints_by}
use Rattle.delaunay_legalization.specs.{state_of}
use Rattle.delaunay_legalization.proofs.{constraints_are_edges, edge_of_face, face_there, halved}
use Rattle.delaunay_legalization.proofs.{MeshLegal.joins_edge, turned_faces}
use Rattle.delaunay_legalization.proofs.MarkedPairs.{marking_joins, pairs_stay}
use Rattle.delaunay_edit.specs.{AddsPath, CrossingLists, HasAsEdge, HasFreeWay, HaveRoom, KeepRoom}
use Rattle.delaunay_edit.specs.{KeepsUncrossed, KeepsUncrossedFaces, LeavesToTest, MarksEdge}
use Rattle.delaunay_edit.specs.{Leaving.IsWorkList, Leaving.LeavesFailing, MarksSome, NoneCrosses}
use Rattle.delaunay_edit.proofs.Making.{faces_kept_on, IsMaking, kept_on, MakesEdge, making_ends}
use Rattle.delaunay_edit.proofs.Marks.{marks_more, marks_none, marks_one}
use Rattle.delaunay_edit.proofs.MovedEdges.{room_on, room_stays}
use Rattle.delaunay_edit.proofs.Walking.{in_map, of_map, placed_apart}
use Rattle.delaunay_legalization.proofs.EdgePairs as E

-- ---- the ends of an undirected edge, by those of one of its directions
same_ends : (u v i j a b : ℕ) → u ≡ i → v ≡ j → IsSamePair a b u v ↔ IsSamePair a b i j
same_ends u v i j a b e f = (
  (λ x. elim x [ inl s ↦ inl (s.0 ∙ e, s.1 ∙ f) | inr s ↦ inr (s.0 ∙ f, s.1 ∙ e) ]),
  (λ x. elim x [ inl s ↦ inl (s.0 ∙ sym e, s.1 ∙ sym f) | inr s ↦ inr (s.0 ∙ sym f, s.1 ∙ sym e) ]),
)

turned_ends : (u v i j a b : ℕ) → u ≡ j → v ≡ i → IsSamePair a b u v ↔ IsSamePair a b i j
turned_ends u v i j a b e f = (
  (λ x. elim x [ inl s ↦ inr (s.0 ∙ e, s.1 ∙ f) | inr s ↦ inl (s.0 ∙ f, s.1 ∙ e) ]),
  (λ x. elim x [ inl s ↦ inr (s.0 ∙ sym f, s.1 ∙ sym e) | inr s ↦ inl (s.0 ∙ sym e, s.1 ∙ sym f) ]),
)

-- a pair is the ends of an undirected edge if and only if it is those of one of its directions
pub half_ends : (m : Mesh) (h i j a b : ℕ) → origin m h ≡ i → origin m (rev h) ≡ j →
    IsSamePair a b (origin m (2 * (h / 2))) (origin m (rev (2 * (h / 2)))) ↔ IsSamePair a b i j
half_ends m h i j a b e f = elim (halved h) [
  | inl k ↦ same_ends (origin m (2 * (h / 2))) (origin m (rev (2 * (h / 2)))) i j a b
      (ap (origin m) k ∙ e)
      (ap (λ (x : ℕ). origin m (rev x)) k ∙ f)
  | inr k ↦ turned_ends (origin m (2 * (h / 2))) (origin m (rev (2 * (h / 2)))) i j a b
      (ap (origin m) k ∙ f)
      (ap (λ (x : ℕ). origin m (rev x)) k ∙ ap (origin m) (rev-rev h) ∙ e)
]

-- past the last directed edge, meshes with the same number of them read the same
past_edges_stay : (old new : Mesh) → length old.half_edges % 2 ≡ 0
    → length new.half_edges ≡ length old.half_edges → (h : ℕ) → length old.half_edges ≤ h
    → GoSameDirection old h new h
past_edges_stay old new even count h past = (
  same_start h past,
  same_start (rev h) (elim (cases_lt (rev h) (length old.half_edges)) [
    | inl within ↦ absurd (back (subst (λ (k : ℕ). k < length old.half_edges) (rev-rev h)
        (rev_within (rev h) (length old.half_edges) even within)))
    | inr beyond ↦ beyond
  ]),
)
  where
    back : ¬ (h < length old.half_edges)
    back within = omega (arith, past, within)

    starts_none : (m : Mesh) (k : ℕ) → length m.half_edges ≤ k → origin m k ≡ 0
    starts_none m k beyond =
        ap (λ (x : HalfEdge). x.origin) (get_or_past m.half_edges k no_edge beyond)

    same_start : (k : ℕ) → length old.half_edges ≤ k → origin new k ≡ origin old k
    same_start k beyond =
        starts_none new k (subst (λ (n : ℕ). n ≤ k) (sym count) beyond)
        ∙ sym (starts_none old k beyond)

-- ---- one subconstraint
-- i and j are joined by a constraint too
abbrev AddsPair : List (ℕ × ℕ) → List (ℕ × ℕ) → ℕ → ℕ → Type 0
AddsPair old new i j = (a b : ℕ) → Joins new a b ↔ (Joins old a b ⊎ IsSamePair a b i j)

-- one subconstraint became a constraint: the data of directed edges and of faces stay, and the
-- number of edges
pub record AddsSubconstraint {V D U F : Type 0} (marks : U → Bool) (marked : U → U)
    (constraints : List U → List ℕ) (old new : Contents V D U F) (i j : ℕ) : Type 0 where
  pub contents : new ≡ record old { mesh = new.mesh; undirected = new.undirected }
  pub count : length new.undirected ≡ length old.undirected
  pub marks_some : MarksSome marks marked old.undirected new.undirected
  pub pair : AddsPair (constraints_by constraints (state_of old))
      (constraints_by constraints (state_of new)) i j

-- a subconstraint became a constraint, what does not cross it stays, and each edge that may fail is
-- left to test
pub record LeavesSubconstraint {V D U F : Type 0} (points : List Point) (marks : U → Bool)
    (marked : U → U)
    (constraints : List U → List ℕ) (old new : Contents V D U F) (i j : ℕ)
    (was left : List ℕ) : Type 0 where
  pub adds : AddsSubconstraint marks marked constraints old new i j
  pub mesh : IsMeshWithData new
  pub shape : IsMesh points (faces_of new.mesh) (outer_of new.mesh)
  pub kept : KeepsUncrossed points old.mesh new.mesh i j
  pub faces_kept : KeepsUncrossedFaces points old.mesh new.mesh i j
  pub edges : AreEdges new.mesh left
  pub leaves : LeavesFailing points old.mesh new.mesh was left

module _ {U : Type 0} (marks : U → Bool) (constraints : List U → List ℕ)
    (marked : (ds : List U) → constraints ds ≡ marked_edges marks ds) where
  module _ {V D F : Type 0} (at : V → Point) (old mid new : Contents V D U F) (i j e k : ℕ)
      (flipped : mid ≡ record old { mesh = mid.mesh }) (change : U → U)
      (written : HasEdgeData change mid new k) where
    abbrev entry : U
    entry = change written.value

    mesh_is : new.mesh ≡ mid.mesh
    mesh_is = ap (λ (c : Contents V D U F). c.mesh) written.whole

    data_are : new.undirected ≡ set mid.undirected k entry
    data_are = ap (λ (c : Contents V D U F). c.undirected) written.whole

    data_were : mid.undirected ≡ old.undirected
    data_were = ap (λ (c : Contents V D U F). c.undirected) flipped

    contents : new ≡ record old { mesh = new.mesh; undirected = new.undirected }
    contents =
        written.whole ∙ ap
        (λ (c : Contents V D U F). record c { undirected = set mid.undirected k entry }) flipped
        ∙ ap (λ (y : Mesh × List U). record old { mesh = y.0; undirected = y.1 })
        (λ o. (sym mesh_is o, sym data_are o))

    count : length new.undirected ≡ length old.undirected
    count = ap length data_are ∙ length-set mid.undirected k entry ∙ ap length data_were

    -- a mesh has all its data after that, too
    pub subconstraint_whole : IsMeshWithData mid → IsMeshWithData new
    subconstraint_whole w = subst (λ (c : Contents V D U F). IsMeshWithData c) (sym written.whole)
        (record { valid = w.valid; fits = rw (length-set mid.undirected k entry) w.fits })

    module _ (kept : KeepsUncrossed (map at old.vertices) old.mesh mid.mesh i j) (clear :
        NoneCrosses (map at old.vertices) (constraints_by constraints (state_of old)) i j) where
      stays : constraint_pairs constraints mid.mesh mid.undirected
          ≡ constraint_pairs constraints old.mesh old.undirected
      stays = ap (constraint_pairs constraints mid.mesh) data_were
          ∙ pairs_stay marks constraints marked old.mesh mid.mesh old.undirected
          (λ l c. kept (2 * l) (clear (origin old.mesh (2 * l)) (origin old.mesh (rev (2 * l)))
          (joins_edge old.mesh (constraints old.undirected) l c)))

      now_is : constraint_pairs constraints new.mesh new.undirected
          ≡ constraint_pairs constraints mid.mesh (set mid.undirected k entry)
      now_is = ap (λ (y : Mesh × List U). constraint_pairs constraints y.0 y.1)
          (λ o. (mesh_is o, data_are o))

      -- where edge e joins i and j and its data have the mark now, the subconstraint between them
      -- is added
      pub subconstraint_added : (marked_as : U → U) → marks entry ≡ true → (entry ≡ written.value)
          ⊎ ((marks written.value ≡ false) × (entry ≡ marked_as written.value))
          → origin mid.mesh e ≡ i → origin mid.mesh (rev e) ≡ j → k ≡ e / 2
          → AddsSubconstraint marks marked_as constraints old new i j
      subconstraint_added marked_as mark same_as source target half = record {
        contents = contents;
        count = count;
        marks_some = subst (λ (x : List U × List U). MarksSome marks marked_as x.0 x.1)
            (λ o. (data_were o, sym data_are o))
            (marks_one marks marked_as mid.undirected k written.value entry
            written.was same_as);
        pair = λ a b. (
          (λ h. elim ((joined a b).0 (subst (λ (ps : List (ℕ × ℕ)). Joins ps a b) now_is h)) [
            | inl y ↦ inl (subst (λ (ps : List (ℕ × ℕ)). Joins ps a b) stays y)
            | inr y ↦ inr ((ends a b).0 y)
          ]),
          (λ h. subst (λ (ps : List (ℕ × ℕ)). Joins ps a b) (sym now_is) ((joined a b).1 (elim h [
            | inl y ↦ inl (subst (λ (ps : List (ℕ × ℕ)). Joins ps a b) (sym stays) y)
            | inr y ↦ inr ((ends a b).1 y)
          ]))),
        );
      }
        where
          joined : (a b : ℕ)
              → Joins (constraint_pairs constraints mid.mesh (set mid.undirected k entry)) a b
              ↔ (Joins (constraint_pairs constraints mid.mesh mid.undirected) a b
              ⊎ IsSamePair a b (origin mid.mesh (2 * k)) (origin mid.mesh (rev (2 * k))))
          joined = marking_joins marks constraints marked mid.undirected k written.value entry
              written.was mid.mesh mark

          ends : (a b : ℕ)
              → IsSamePair a b (origin mid.mesh (2 * k)) (origin mid.mesh (rev (2 * k)))
              ↔ IsSamePair a b i j
          ends a b = subst
              (λ (l : ℕ). IsSamePair a b (origin mid.mesh (2 * l)) (origin mid.mesh (rev (2 * l))) ↔
              IsSamePair a b i j) (sym half) (half_ends mid.mesh e i j a b source target)

  -- the subconstraints from i to w are added, and those from w to j are to come; what does not
  -- cross the segment from i to j stays
  pub record IsAddingTo {V D F : Type 0} (at : V → Point) (marked_as : U → U)
      (old now : Contents V D U F) (i j w : ℕ) : Type 0 where
    pub way : HasFreeWay at constraints old i j
    pub contents : now ≡ record old { mesh = now.mesh; undirected = now.undirected }
    pub count : length now.undirected ≡ length old.undirected
    pub marks_some : MarksSome marks marked_as old.undirected now.undirected
    pub kept : IsTriangulated at (state_of now)
    pub path : IsAddingPath (map at old.vertices) (constraints_by constraints (state_of old))
        (constraints_by constraints (state_of now)) i j w
    pub edges_kept : KeepsUncrossed (map at old.vertices) old.mesh now.mesh i j
    pub faces_kept : KeepsUncrossedFaces (map at old.vertices) old.mesh now.mesh i j

  -- at its start the path has no subconstraint yet
  pub adding_to_begins : {V D F : Type 0} {at : V → Point} {marked_as : U → U}
      {old : Contents V D U F} {i j : ℕ} → IsTriangulated at (state_of old)
      → HasFreeWay at constraints old i j → IsAddingTo at marked_as old old i j i
  adding_to_begins {at = at} {marked_as = marked_as} {old = old} {i = i} {j = j} kept way = record {
    way = way;
    contents = refl;
    count = refl;
    marks_some = marks_none marks marked_as old.undirected;
    kept = kept;
    path = adding_begins (map at old.vertices) (constraints_by constraints (state_of old)) i j
        (in_map at old.vertices i way.from);
    edges_kept = λ h clear. (refl, refl);
    faces_kept = λ f t there first second third. there;
  }

-- ---- what is left to test
-- the subconstraints from i to w are added, what may fail is left to test, and the room stays
pub record IsAddingSubconstraints {V D U F : Type 0} (marks : U → Bool)
    (constraints : List U → List ℕ)
    (marked : (ds : List U) → constraints ds ≡ marked_edges marks ds) (at : V → Point)
    (marked_as : U → U) (old now : Contents V D U F) (i j w : ℕ) (was left : List ℕ)
    (room_was room : ℕ) (before lists : CrossingLists) : Type 0 where
  pub so_far : IsAddingTo marks constraints marked at marked_as old now i j w
  pub leaves : LeavesToTest (map at old.vertices) old now was left
  pub same_room : room ≡ room_was
  pub lists_room : KeepRoom before lists

-- at the start nothing has changed
pub adding_starts : {V D U F : Type 0} (marks : U → Bool) (constraints : List U → List ℕ)
    (marked : (ds : List U) → constraints ds ≡ marked_edges marks ds) {at : V → Point}
    {marked_as : U → U} {old : Contents V D U F} {i j : ℕ} {was : List ℕ} {room : ℕ}
    {lists : CrossingLists} → IsTriangulated at (state_of old) → HasFreeWay at constraints old i j
    → IsWorkList old was room
    → IsAddingSubconstraints marks constraints marked at marked_as old old i j i was was room room
    lists
    lists
adding_starts marks constraints marked kept way work = record {
  so_far = adding_to_begins marks constraints marked kept way;
  leaves = record { edges = work.edges; leaves = λ pairs passing. passing };
  same_room = refl;
  lists_room = record { waiting = refl; unseen = refl };
}

-- marking changes no face
subconstraint_leaves : {V D U F : Type 0} (points : List Point) (marks : U → Bool)
    (marked_as : U → U)
    (constraints : List U → List ℕ) (old mid new : Contents V D U F) (i j : ℕ) (was left : List ℕ) →
    MakesEdge points old mid i j was left → new.mesh ≡ mid.mesh
    → AddsSubconstraint marks marked_as constraints old new i j → IsMeshWithData new →
    LeavesSubconstraint points marks marked_as constraints old new i j was left
subconstraint_leaves points marks marked_as constraints old mid new i j was left makes same adds
    mesh =
    record {
      adds = adds;
      mesh = mesh;
      shape = subst (λ (m : Mesh). IsMesh points (faces_of m) (outer_of m)) (sym same) makes.shape;
      kept = subst (λ (m : Mesh). KeepsUncrossed points old.mesh m i j) (sym same) makes.kept;
      faces_kept = subst (λ (m : Mesh). KeepsUncrossedFaces points old.mesh m i j) (sym same)
          makes.faces_kept;
      edges = subst (λ (m : Mesh). AreEdges m left) (sym same) makes.edges;
      leaves = λ pairs passing. subst
          (λ (m : Mesh). AllPassBut points (faces_of m) pairs (pairs_at m left)) (sym same)
          (makes.leaves pairs passing);
    }

-- a subconstraint that is made an edge and gets the mark
pub subconstraint_made : {V D U F : Type 0} (marks : U → Bool) (constraints : List U → List ℕ)
    (are_marked : (ds : List U) → constraints ds ≡ marked_edges marks ds) (at : V → Point)
    (marked_as : U → U) (old mid new : Contents V D U F) (i j : ℕ) (was left : List ℕ)
    → MakesEdge (map at old.vertices) old mid i j was left → (edge : ℕ)
    → origin mid.mesh edge ≡ i → origin mid.mesh (rev edge) ≡ j
    → MarksEdge marks marked_as mid new (edge / 2)
    → NoneCrosses (map at old.vertices) (constraints_by constraints (state_of old)) i j
    → LeavesSubconstraint (map at old.vertices) marks marked_as constraints old new i j was left
subconstraint_made {V = V} {D = D} {U = U} {F = F} marks constraints are_marked at marked_as old mid
    new i j
    was left makes edge source target by clear =
    subconstraint_leaves (map at old.vertices) marks marked_as constraints old mid new i j was left
    makes
    (ap (λ (c : Contents V D U F). c.mesh) by.whole)
    (subconstraint_added marks constraints are_marked at old mid new i j edge (edge / 2)
    makes.contents
    (λ _. by.after) written makes.kept clear marked_as by.mark by.same source target refl)
    (subconstraint_whole marks constraints are_marked at old mid new i j edge (edge / 2)
    makes.contents
    (λ _. by.after) written makes.whole)
  where
    written : HasEdgeData (λ _. by.after) mid new (edge / 2)
    written = record { value = by.value; was = by.was; whole = by.whole }

-- ---- the loop
module _ {U V D F : Type 0} {marks : U → Bool} {constraints : List U → List ℕ}
    {marked : (ds : List U) → constraints ds ≡ marked_edges marks ds} {at : V → Point}
    {marked_as : U → U} {old now : Contents V D U F} {i j w : ℕ}
    (p : IsAddingTo marks constraints marked at marked_as old now i j w) where
  abbrev points : List Point
  points = map at old.vertices

  -- the vertices are those of before
  pub same : now.vertices ≡ old.vertices
  same = ap (λ (c : Contents V D U F). c.vertices) p.contents

  -- so they are sites if they were
  pub adding_placed : {P : Type 0} {IsSite : P → Point → Type 0} {t : P}
      → All (IsSite t) (map at old.vertices) → IsEmbedding at IsSite now t
  adding_placed {IsSite = IsSite} {t = t} sites = record {
    kept = p.kept;
    sites = subst (λ (vs : List V). All (IsSite t) (map at vs)) (sym same) sites;
  }

  -- the vertex that was reached and the end are vertices
  pub adding_between : (w < length now.vertices) × (j < length now.vertices)
  adding_between = rw same (of_map at old.vertices w p.path.within, p.way.to)

  distinct : ArePlacedApart points
  distinct = subst (λ (vs : List V). ArePlacedApart (map at vs)) same
      (placed_apart (map at now.vertices) (faces_of now.mesh) (outer_of now.mesh) p.kept.shape)

  -- a and b are two vertices
  abbrev AreTwo : ℕ → ℕ → Type 0
  AreTwo a b = IsIndex points a × (IsIndex points b × (a ≢ b))

  -- the ends of an edge are two vertices
  edge_ends : (h a b : ℕ) → h < length now.mesh.half_edges → origin now.mesh h ≡ a
      → origin now.mesh (rev h) ≡ b → AreTwo a b
  edge_ends h a b within starts ends = (
    there a (subst (λ (k : ℕ). k < length now.mesh.out_edges) starts edge.origin_in),
    (
      there b (subst (λ (k : ℕ). k < length now.mesh.out_edges) ends twin.origin_in),
      (λ is. p.kept.valid.apart h within (starts ∙ is ∙ sym ends)),
    ),
  )
    where
      edge : IsSoundEdge now.mesh h
      edge = p.kept.valid.sound.edges h within

      twin : IsSoundEdge now.mesh (rev h)
      twin = p.kept.valid.sound.edges (rev h)
          (rev_within h (length now.mesh.half_edges) p.kept.valid.sound.even within)

      there : (k : ℕ) → k < length now.mesh.out_edges → IsIndex points k
      there k l = in_map at old.vertices k (subst (λ (vs : List V). k < length vs) same
          (subst (λ (n : ℕ). k < n) (sym p.kept.fits.vertices_fit) l))

  -- the ends of a constraint are two vertices
  constraint_ends : (a b : ℕ) → Joins (constraints_by constraints (state_of now)) a b
      → AreTwo a b
  constraint_ends a b joined =
      let h = E.joins_edge now.mesh p.kept.valid.sound a b
      (constraints_are_edges marks constraints marked now.mesh now.undirected
      p.kept.fits.undirected_fit p.kept.valid a b joined) in
      edge_ends h.0 a b h.1 h.2 h.3

  -- the ends of a side of a face are two vertices
  side_ends : (a b c : ℕ) → IsFaceOf (faces_of now.mesh) a b c → AreTwo a b
  side_ends a b c f =
      let h = edge_of_face now.mesh p.kept.valid.sound a b c f in
      edge_ends h.0 a b h.1.inner.0 h.1.first
      (sym (p.kept.valid.sound.edges h.0 h.1.inner.0).starts ∙ h.1.second)

  module _ {v : ℕ} (next : AreNextOn (map at now.vertices) w j w v) where
    next_here : AreNextOn points w j w v
    next_here = subst (λ (vs : List V). AreNextOn (map at vs) w j w v) same next

    on_way : w ≢ j
    on_way is = path_ends points j distinct w v
        (subst (λ (k : ℕ). AreNextOn points k j w v) is next_here)

    -- the path has a subconstraint, so its ends differ
    ends_apart : i ≢ j
    ends_apart e = path_ends points j distinct w v
        (subst (λ (k : ℕ). AreNextOn points k j w v) e (p.path.rest w v next_here))

    -- two vertices whose segment does not cross the whole segment are clear of the next
    -- subconstraint
    clear_of_subconstraint : (a b : ℕ) → AreTwo a b
        → ¬ Cross (place points i) (place points j) (place points a) (place points b)
        → ¬ Cross (place points w) (place points v) (place points a) (place points b)
    clear_of_subconstraint a b two clear cross = clear (subconstraint_crosses_whole points i j w v a
        b distinct
        (in_map at old.vertices i p.way.from) (in_map at old.vertices j p.way.to) ends_apart two.0
        two.1.0 two.1.1 (p.path.rest w v next_here) cross)

    -- ---- what does not cross the whole segment stays where the next subconstraint is made
    module _ (new : Contents V D U F) (directed : new.directed ≡ now.directed)
        (whole : IsMeshWithData new) where
      -- the number of edges stays
      same_count : length new.mesh.half_edges ≡ length now.mesh.half_edges
      same_count = sym whole.fits.directed_fit ∙ ap length directed ∙ p.kept.fits.directed_fit

      -- edges that do not cross the whole segment
      kept_of_whole : KeepsUncrossed points now.mesh new.mesh w v
          → KeepsUncrossed points now.mesh new.mesh i j
      kept_of_whole kept h clear = elim (cases_lt h (length now.mesh.half_edges)) [
        | inl within ↦ kept h (clear_of_subconstraint (origin now.mesh h) (origin now.mesh (rev h))
            (edge_ends h (origin now.mesh h) (origin now.mesh (rev h)) within refl refl) clear)
        | inr past ↦ past_edges_stay now.mesh new.mesh p.kept.valid.sound.even same_count h past
      ]

      -- faces with no side that crosses it
      faces_kept_of_whole : KeepsUncrossedFaces points now.mesh new.mesh w v
          → KeepsUncrossedFaces points now.mesh new.mesh i j
      faces_kept_of_whole kept f t there first second third = kept f t there
          (clear_of_subconstraint t.first t.second (side_ends t.first t.second t.third face) first)
          (clear_of_subconstraint t.second t.third (side_ends t.second t.third t.first
          (turned_faces (faces_of now.mesh) t.first t.second t.third face)) second)
          (clear_of_subconstraint t.third t.first (side_ends t.third t.first t.second
          (turned_faces (faces_of now.mesh) t.second t.third t.first
          (turned_faces (faces_of now.mesh) t.first t.second t.third face))) third)
        where
          face : IsFaceOf (faces_of now.mesh) t.first t.second t.third
          face = face_there now.mesh f t there

    -- no constraint crosses the next subconstraint, where the path could be added
    clear_now : NoneCrosses (map at now.vertices) (constraints_by constraints (state_of now)) w v
    clear_now =
        subst (λ (vs : List V). NoneCrosses (map at vs)
        (constraints_by constraints (state_of now)) w v) (sym same)
        (λ a b joined. let e = constraint_ends a b joined in
        subconstraint_is_clear points distinct (constraints_by constraints (state_of old))
        (constraints_by constraints (state_of now)) i j w (in_map at old.vertices i p.way.from)
        (in_map at old.vertices j p.way.to) p.path v on_way next_here p.way.free a b joined e.0
        e.1.0 e.1.1)

    -- where it is made an edge that gets the mark, it is added
    pub adding_subconstraint : {mid new : Contents V D U F} {was left : List ℕ} (edge : ℕ)
        → MakesEdge (map at now.vertices) now mid w v was left
        → origin mid.mesh edge ≡ w → origin mid.mesh (rev edge) ≡ v
        → MarksEdge marks marked_as mid new (edge / 2)
        → LeavesSubconstraint (map at now.vertices) marks marked_as constraints now new w v was left
    adding_subconstraint edge makes source target by =
        subconstraint_made marks constraints marked at marked_as now _ _ w v _ _ makes edge source
        target by
        clear_now

    -- and with it the path reaches the next vertex
    pub adding_to_goes_on : {new : Contents V D U F} {was left : List ℕ}
        → ((x : U) → marks (marked_as x) ≡ true)
        → LeavesSubconstraint (map at now.vertices) marks marked_as constraints now new w v was left
        → IsAddingTo marks constraints marked at marked_as old new i j v
    adding_to_goes_on {new = new} has subconstraint = record {
      way = p.way;
      contents = subconstraint.adds.contents ∙ ap (λ (c : Contents V D U F). record c {
        mesh = new.mesh;
        undirected = new.undirected;
      }) p.contents;
      count = subconstraint.adds.count ∙ p.count;
      marks_some =
          marks_more marks marked_as has old.undirected now.undirected new.undirected p.marks_some
          subconstraint.adds.marks_some;
      kept = record {
        in_range = subst (λ (vs : List V). All (λ v. InRange (at v)) vs) (sym vertices)
            p.kept.in_range;
        few_edges = rw (subconstraint.adds.count, ap length vertices) p.kept.few_edges;
        few_faces = rw (
          ap (λ (c : Contents V D U F). length c.faces) subconstraint.adds.contents,
          ap length vertices,
        ) p.kept.few_faces;
        valid = subconstraint.mesh.valid;
        fits = subconstraint.mesh.fits;
        shape = subst (λ (vs : List V). IsMesh (map at vs) (faces_of new.mesh) (outer_of new.mesh))
            (sym vertices) subconstraint.shape;
      };
      path = adding_goes_on points distinct (constraints_by constraints (state_of old))
          (constraints_by constraints (state_of now)) i j w (in_map at old.vertices i p.way.from)
          (in_map at old.vertices j p.way.to) p.path v on_way next_here
          (constraints_by constraints (state_of new))
          subconstraint.adds.pair;
      edges_kept = kept_on points old.mesh now.mesh new.mesh i j p.edges_kept
          (kept_of_whole new directed subconstraint.mesh (subst (λ (vs : List V).
          KeepsUncrossed (map at vs) now.mesh new.mesh w v) same subconstraint.kept));
      faces_kept = faces_kept_on points old.mesh now.mesh new.mesh i j p.faces_kept
          (faces_kept_of_whole new directed subconstraint.mesh (subst (λ (vs : List V).
          KeepsUncrossedFaces (map at vs) now.mesh new.mesh w v) same subconstraint.faces_kept));
    }
      where
        vertices : new.vertices ≡ now.vertices
        vertices = ap (λ (c : Contents V D U F). c.vertices) subconstraint.adds.contents

        directed : new.directed ≡ now.directed
        directed = ap (λ (c : Contents V D U F). c.directed) subconstraint.adds.contents

    -- from the next vertex the way to j is shorter
    pub adding_shortens : nat_abs (squared_vector (point_of points v) (point_of points j))
        < nat_abs (squared_vector (point_of points w) (point_of points j))
    adding_shortens = path_shortens points w j v distinct p.path.within
        (in_map at old.vertices j p.way.to) on_way next_here

  -- where j is reached, the path from i to j is added
  pub adding_to_ends : w ≡ j → AddsPath at marks marked_as constraints old now i j
  adding_to_ends is = record {
    contents = p.contents;
    marks_some = p.marks_some;
    plain = adding_adds at (points_and_constraints_by constraints (state_of old))
        (points_and_constraints_by constraints (state_of now)) i j p.way.from p.way.to
        p.way.free same
        (adding_ends points distinct (constraints_by constraints (state_of old))
        (constraints_by constraints (state_of now)) i j w (in_map at old.vertices i p.way.from)
        (in_map at old.vertices j p.way.to) p.path is);
    kept = p.kept;
    edges_kept = p.edges_kept;
    faces_kept = p.faces_kept;
  }

module _ {U V D F : Type 0} {marks : U → Bool} {constraints : List U → List ℕ}
    {marked : (ds : List U) → constraints ds ≡ marked_edges marks ds} {at : V → Point}
    {marked_as : U → U} {old now : Contents V D U F} {i j w : ℕ} {was left : List ℕ}
    {room_was room : ℕ} {before lists : CrossingLists}
    (p : IsAddingSubconstraints marks constraints marked at marked_as old now i j w was left
    room_was room
    before lists) where
  same_vertices : now.vertices ≡ old.vertices
  same_vertices = ap (λ (c : Contents V D U F). c.vertices) p.so_far.contents

  -- the lists have room for each edge if they had
  pub adding_room : HaveRoom (length old.undirected) before → HaveRoom (length now.undirected) lists
  adding_room fits = room_stays p.lists_room p.so_far.count fits

  -- the work list keeps its room for each edge
  pub adding_work : IsWorkList old was room_was → IsWorkList now left room
  adding_work work =
      let count = p.so_far.count in let fits = work.room in let stays = p.same_room in record {
        edges = p.leaves.edges;
        room = omega (arith, count, fits, stays);
      }

  -- the next subconstraint is added with what it leaves to test, once turns have made it an edge
  pub adding_goes_on_by : {mid new : Contents V D U F} {v edge : ℕ} {more : List ℕ} {room_now : ℕ}
      {given turned after : CrossingLists} → AreNextOn (map at now.vertices) w j w v
      → KeepRoom lists given → IsMaking at now mid w v left more room room_now given turned
      → HasAsEdge (map at mid.vertices) mid w v → KeepRoom turned after
      → (edge < length mid.directed) × (origin mid.mesh edge ≡ w) × (origin mid.mesh (rev edge) ≡ v)
      → MarksEdge marks marked_as mid new (edge / 2) → ((x : U) → marks (marked_as x) ≡ true)
      → IsAddingSubconstraints marks constraints marked at marked_as old new i j v was more room_was
      room_now before after
  adding_goes_on_by {new = new} {edge = edge} {more = more} next listed making made sought found by
      has =
      let subconstraint = adding_subconstraint p.so_far next edge (making_ends making made) found.1
      found.2 by in
      record {
        so_far = adding_to_goes_on p.so_far next has subconstraint;
        leaves = record {
          edges = subconstraint.edges;
          leaves = λ pairs passing. subst (λ (vs : List V). AllPassBut (map at vs)
              (faces_of new.mesh) pairs (pairs_at new.mesh more)) same_vertices
              (subconstraint.leaves pairs (subst (λ (vs : List V). AllPassBut (map at vs)
              (faces_of now.mesh) pairs (pairs_at now.mesh left)) (sym same_vertices)
              (p.leaves.leaves pairs passing)));
        };
        same_room = making.same_room ∙ p.same_room;
        lists_room = room_on p.lists_room (room_on listed (room_on making.lists_room sought));
      }

-- a list that was cleared is a work list with no edge in it
pub cleared_work : {V D U F : Type 0} (old : Contents V D U F) (left : List ℕ) (room_was room : ℕ)
    → length old.undirected ≤ 3 * length old.vertices → 3 * length old.vertices ≤ room_was
    → room ≡ room_was → left ≡ [] → IsWorkList old left room
cleared_work old left room_was room few fits same cleared = record {
  edges = subst (AreEdges old.mesh) (sym cleared) none;
  room = omega (arith, few, fits, same);
}
  where
    none : AreEdges old.mesh []
    none = record { within = λ k c. absurd (Contains-none k c); once = once_none }
