-- The loop that turns edges until none crosses.
-- Notions: MakesEdge, IsMaking; free_on, kept_on, faces_kept_on, e_in, local, can_turn, turn_keeps,
-- turn_keeps_faces, turn_lowers, turn_has_shape, edges_on, turns_away, others_left, turns_across,
-- others_and_made, edge_if_none_crosses, making_begins, making_work, making_placed, making_ends,
-- making_goes_on, making_falls.
use Rattle.std.proofs.Common.{◌≡◌, ◌⊎◌, ◌*◌, ◌/◌, ◌<◌, ◌≤◌, ◌∙◌}
use Rattle.std.proofs.Common.{ℕ, List, length, map, refl, sym, ap, subst}
use mathlib.Core.Logic.{inl, inr}
use Rattle.std.specs.Prelude.{Contains}
use Rattle.std.proofs.lemmas.List.{length-map}
use Rattle.plane.specs.{Cross, IsEdge, place, Point, whole}
use Rattle.half_edge_links.specs.{flipped, Flips, FlipsTriangles, IsFlippable, IsValidMesh}
use Rattle.half_edge_links.specs.{KeepsOuter, Mesh, origin, rev}
use Rattle.half_edge_links.proofs.{flips_is, rev-rev, rev_within}
use Rattle.plane_theorems.specs.{AllPassBut, crossing_sum, IsFreeOfVertices, IsMesh, LocalMesh}
use Rattle.half_edge_dcel.specs.{Contents, FitsMesh, IsMeshWithData}
use Rattle.delaunay_legalization.specs.{AreEdges, drawn, faces_of, GainsRound, IsEmbedding}
use Rattle.delaunay_legalization.specs.{outer_of, pairs_at, point_at}
use Rattle.delaunay_legalization.proofs.{halved}
use Rattle.delaunay_legalization.proofs.MeshEdits.{flipped_faces}
use Rattle.delaunay_edit.specs.{ahead, AreAllCrossing, AreToTurn, behind, CrossesFromRight}
use Rattle.delaunay_edit.specs.{CrossingLists, GoesFromRight, HasAsEdge, IsOneSubconstraint}
use Rattle.delaunay_edit.specs.{KeepRoom, KeepsUncrossed, KeepsUncrossedFaces, TurnsNearer}
use Rattle.delaunay_edit.specs.{Crossing.AreOthersCrossing, Lists.TurnsOne}
use Rattle.delaunay_edit.specs.Leaving.{AllPassAway, IsWorkList, LeavesFailing, TurnsTowards}
use Rattle.delaunay_edit.proofs.CrossingList.{made_clear, made_clear_back, others_are_all}
use Rattle.delaunay_edit.proofs.CrossingList.{others_still, vector_is, way_crosses, way_ends}
use Rattle.delaunay_edit.proofs.LeftToTest.{crossing_leaves, flip_leaves, passing_ends}
use Rattle.delaunay_edit.proofs.{MovedEdges.room_on, Walking.placed_apart}
use Rattle.delaunay_edit.proofs.Towards as T

-- whether vertices are between others does not depend on the edges
pub free_on : (points : List Point) (m n : Mesh) (i j : ℕ) → IsFreeOfVertices (drawn points m) i j
    → IsFreeOfVertices (drawn points n) i j
free_on points m n i j free = record {
  apart = free.apart;
  first = free.first;
  second = free.second;
  none_between = free.none_between;
}

-- what stays twice stays
pub kept_on : (points : List Point) (old now new : Mesh) (i j : ℕ)
    → KeepsUncrossed points old now i j → KeepsUncrossed points now new i j
    → KeepsUncrossed points old new i j
kept_on points old now new i j first second h clear =
    let a = first h clear in
    let b =
    second h (λ c. clear (subst (λ (x : ℕ × ℕ). Crossed x.0 x.1) (λ k. (a.0 k, a.1 k)) c)) in
    (b.0 ∙ a.0, b.1 ∙ a.1)
  where
    Crossed : ℕ → ℕ → Type 0
    Crossed v y = Cross (place points i) (place points j) (place points v) (place points y)

-- faces that stay twice stay
pub faces_kept_on : (points : List Point) (old now new : Mesh) (i j : ℕ)
    → KeepsUncrossedFaces points old now i j → KeepsUncrossedFaces points now new i j
    → KeepsUncrossedFaces points old new i j
faces_kept_on points old now new i j before after f t there first second third =
    after f t (before f t there first second third) first second third

-- ---- one turn
module _ {V D U F : Type 0} (at : V → Point) (c : Contents V D U F) (mesh : IsMeshWithData c)
    (i j : ℕ) (free : IsFreeOfVertices (drawn (map at c.vertices) c.mesh) i j)
    (shape : IsMesh (map at c.vertices) (faces_of c.mesh) (outer_of c.mesh)) (e : ℕ)
    (within : e < length c.directed)
    (from_right : CrossesFromRight (map at c.vertices) c.mesh i j e) where
  abbrev points : List Point
  points = map at c.vertices

  -- the segment crosses that of two vertices, in either order
  abbrev BothCross : ℕ → ℕ → Type 0
  BothCross u v = Cross (place points i) (place points j) (place points u) (place points v)
      × Cross (place points i) (place points j) (place points v) (place points u)

  turned_cross : (u v : ℕ) → BothCross u v → BothCross v u
  turned_cross u v both = (both.1, both.0)

  -- edge e is one of the mesh
  pub e_in : e < length c.mesh.half_edges
  e_in = subst (λ (n : ℕ). e < n) mesh.fits.directed_fit within

  -- the mesh is a local one
  pub local : LocalMesh points (faces_of c.mesh) (outer_of c.mesh)
  local = T.local_if_crossed points c.mesh mesh.valid i j shape
      (length-map c.vertices at ∙ mesh.fits.vertices_fit) free e e_in from_right

  module _ (nearer : TurnsNearer (map at c.vertices) c.mesh i j e) where
    -- the undirected edge of e may be turned
    pub can_turn : (k : ℕ) → k ≡ e / 2
        → T.CanTurn points c.mesh mesh.valid i j local free e e_in from_right nearer (2 * k)
    can_turn k is = subst (λ (l : ℕ).
        T.CanTurn points c.mesh mesh.valid i j local free e e_in from_right nearer (2 * l))
        (sym is) (T.can_turn points c.mesh mesh.valid i j local free e e_in from_right nearer)

    module _ (k : ℕ) (is : k ≡ e / 2) (new : Mesh) where
      -- each edge that does not cross the segment joins what it joined
      pub turn_keeps : new ≡ flipped c.mesh (2 * k) → KeepsUncrossed points c.mesh new i j
      turn_keeps turned = T.turned_keeps points c.mesh mesh.valid i j local free e e_in
          from_right nearer new (turned ∙ ap (λ (l : ℕ). flipped c.mesh (2 * l)) is)

      module _ (change : FlipsTriangles c.mesh new (2 * k)) where
        turns : FlipsTriangles c.mesh new (2 * (e / 2))
        turns = subst (λ (l : ℕ). FlipsTriangles c.mesh new (2 * l)) is change

        -- each inner face with no side that crosses has its corners
        pub turn_keeps_faces : new ≡ flipped c.mesh (2 * k)
            → KeepsUncrossedFaces points c.mesh new i j
        turn_keeps_faces turned =
            T.turned_keeps_faces points c.mesh mesh.valid i j local free e e_in from_right
            nearer new (turned ∙ ap (λ (l : ℕ). flipped c.mesh (2 * l)) is) turns

        -- the sum over the edges that cross falls
        pub turn_lowers : crossing_sum points (faces_of new) i j
            < crossing_sum points (faces_of c.mesh) i j
        turn_lowers =
            T.turned_lower points c.mesh mesh.valid i j local free e e_in from_right nearer new
            turns

        -- where the outer edges stay, too, the mesh is still one of the points
        pub turn_has_shape : KeepsOuter c.mesh new → IsMesh points (faces_of new) (outer_of new)
        turn_has_shape outer = inl (T.turned_local points c.mesh mesh.valid i j local free e e_in
            from_right nearer new turns outer)

    module _ (k : ℕ) (is : k ≡ e / 2) (new : Contents V D U F)
        (contents : new ≡ record c { mesh = new.mesh }) (turned : new.mesh ≡ flipped c.mesh (2 * k))
        (change : FlipsTriangles c.mesh new.mesh (2 * k)) (outer : KeepsOuter c.mesh new.mesh)
      where
        moves : Flips c.mesh new.mesh (2 * k)
        moves = flips_is c.mesh new.mesh (2 * k) mesh.valid.sound (can_turn k is).0 turned

        pub edges_on : (left : List ℕ) → AreEdges c.mesh left → AreEdges new.mesh left
        edges_on left edges = record {
          within = λ l there.
              subst (λ (n : ℕ). (2 * l) < n) (sym moves.edge_count) (edges.within l there);
          once = edges.once;
        }

        -- where what may fail is left to test, this is a flip towards the segment
        turns_leaving : (was left : List ℕ) → AreEdges c.mesh left
            → ((constraints : List (ℕ × ℕ))
            → AllPassAway points (faces_of c.mesh) constraints (pairs_at c.mesh was) i j
            → AllPassAway points (faces_of new.mesh) constraints (pairs_at new.mesh left) i j)
            → TurnsTowards points c new i j was left
        turns_leaving was left edges leaves = record {
          contents = contents;
          shape = turn_has_shape k is new.mesh change outer;
          kept = turn_keeps k is new.mesh turned;
          faces_kept = turn_keeps_faces k is new.mesh change turned;
          lower = turn_lowers k is new.mesh change;
          edges = edges_on left edges;
          leaves = leaves;
        }

        -- so it is with the edges round it and itself in the list
        pub turns_away : (was left : List ℕ) → AreEdges c.mesh left
            → GainsRound c.mesh (2 * k) was left → Contains left ((2 * k) / 2)
            → TurnsTowards points c new i j was left
        turns_away was left edges round own = turns_leaving was left edges
            (λ constraints. flip_leaves c.mesh mesh.valid (2 * k) (can_turn k is).0 new.mesh moves
            was left round own points i j (turn_keeps k is new.mesh turned)
            (flipped_faces c.mesh new.mesh (2 * k) mesh.valid.sound (can_turn k is).0 change)
            constraints)

        -- so it is where the edge that is made crosses, too, with nothing more to test
        turns_still : BothCross (behind c.mesh (2 * k)) (ahead c.mesh (2 * k)) → (ks : List ℕ)
            → AreEdges c.mesh ks → TurnsTowards points c new i j ks ks
        turns_still both ks edges = turns_leaving ks ks edges
            (λ constraints. crossing_leaves c.mesh mesh.valid (2 * k) (can_turn k is).0 new.mesh
            moves points i j (turn_keeps k is new.mesh turned)
            (flipped_faces c.mesh new.mesh (2 * k) mesh.valid.sound (can_turn k is).0 change)
            both ks constraints)

        -- ---- the edges that cross then
        same_moves : Flips c.mesh new.mesh (2 * (e / 2))
        same_moves = subst (λ (l : ℕ). Flips c.mesh new.mesh (2 * l)) is moves

        can : IsFlippable c.mesh (2 * (e / 2))
        can = (can_turn (e / 2) refl).0

        new_in : (f : ℕ) → (f ≡ e) ⊎ (f ≡ rev e) → f < length new.mesh.half_edges
        new_in f (inl same) = subst (λ (h : ℕ). h < length new.mesh.half_edges) (sym same)
            (subst (λ (n : ℕ). e < n) (sym moves.edge_count) e_in)
        new_in f (inr same) = subst (λ (h : ℕ). h < length new.mesh.half_edges) (sym same)
            (subst (λ (n : ℕ). rev e < n) (sym moves.edge_count)
            (rev_within e (length c.mesh.half_edges) mesh.valid.sound.even e_in))

        module _ (In : ℕ → Type 0) (others : AreOthersCrossing points c.mesh i j e In) where
          -- the others are all, where the edge that is made does not cross
          pub others_left : ¬ GoesFromRight points i j (ahead c.mesh e) (behind c.mesh e)
              → ¬ GoesFromRight points i j (behind c.mesh e) (ahead c.mesh e)
              → AreAllCrossing points new.mesh i j In
          others_left clear back = others_are_all points c.mesh mesh.valid i j e can new.mesh
              same_moves In others
              (made_clear points c.mesh mesh.valid i j e can new.mesh same_moves clear)
              (made_clear_back points c.mesh mesh.valid i j e can new.mesh same_moves back)

          module _ (f : ℕ) (way :
              ((f ≡ e) × GoesFromRight points i j (ahead c.mesh e) (behind c.mesh e))
              ⊎ ((f ≡ rev e) × GoesFromRight points i j (behind c.mesh e) (ahead c.mesh e))) where
            made_in : f < length new.mesh.half_edges
            made_in =
                new_in f (vector_is points c.mesh mesh.valid i j e can new.mesh same_moves f way)

            crosses : CrossesFromRight points new.mesh i j f
            crosses = way_crosses points c.mesh mesh.valid i j e can new.mesh same_moves f way

            made_local : IsValidMesh new.mesh → LocalMesh points (faces_of new.mesh)
                (outer_of new.mesh)
            made_local valid = T.local_if_crossed points new.mesh valid i j
                (turn_has_shape k is new.mesh change outer)
                (length-map c.vertices at ∙ mesh.fits.vertices_fit ∙ sym moves.vertex_count)
                (free_on points c.mesh new.mesh i j free) f made_in crosses

            -- the segment crosses it either way
            made_cross : IsValidMesh new.mesh
                → BothCross (origin new.mesh f) (origin new.mesh (rev f))
            made_cross valid = T.crosses_both_ways points new.mesh valid i j (made_local valid)
                (free_on points c.mesh new.mesh i j free) f made_in crosses

            corners_cross : IsValidMesh new.mesh → BothCross (ahead c.mesh e) (behind c.mesh e)
            corners_cross valid =
                elim (way_ends points c.mesh mesh.valid i j e can new.mesh same_moves f way) [
                  | inl ends ↦ subst (λ (x : ℕ × ℕ). BothCross x.0 x.1)
                      (λ o. (ends.0 o, ends.1 o)) (made_cross valid)
                  | inr ends ↦ turned_cross (behind c.mesh e) (ahead c.mesh e)
                      (subst (λ (x : ℕ × ℕ). BothCross x.0 x.1)
                      (λ o. (ends.0 o, ends.1 o)) (made_cross valid))
                ]

            cross_round : IsValidMesh new.mesh → (h : ℕ) → (h ≡ e) ⊎ (h ≡ rev e)
                → BothCross (behind c.mesh h) (ahead c.mesh h)
            cross_round valid h (inl same) =
                subst (λ (l : ℕ). BothCross (behind c.mesh l) (ahead c.mesh l)) (sym same)
                (turned_cross (ahead c.mesh e) (behind c.mesh e) (corners_cross valid))
            cross_round valid h (inr same) =
                subst (λ (l : ℕ). BothCross (behind c.mesh l) (ahead c.mesh l)) (sym same)
                (subst (λ (l : ℕ). BothCross (ahead c.mesh l) (behind c.mesh e)) (sym (rev-rev e))
                (corners_cross valid))

            this_or_back : ((2 * k) ≡ e) ⊎ ((2 * k) ≡ rev e)
            this_or_back = elim (halved e) [
              | inl q ↦ inl (ap (λ (l : ℕ). 2 * l) is ∙ q)
              | inr q ↦ inr (ap (λ (l : ℕ). 2 * l) is ∙ q)
            ]

            -- so the turn leaves nothing more to test
            pub turns_across : IsValidMesh new.mesh → (ks : List ℕ) → AreEdges c.mesh ks
                → TurnsTowards points c new i j ks ks
            turns_across valid ks edges =
                turns_still (cross_round valid (2 * k) this_or_back) ks edges

            -- they and it are all, where it does
            pub others_and_made : AreOthersCrossing points new.mesh i j f In
            others_and_made = others_still points c.mesh mesh.valid i j e can new.mesh same_moves In
                others f (vector_is points c.mesh mesh.valid i j e can new.mesh same_moves f way)
                made_in crosses

-- where none crosses, the segment is an edge
pub edge_if_none_crosses : {V D U F : Type 0} (at : V → Point) (c : Contents V D U F)
    → IsMeshWithData c → (i j : ℕ) → IsFreeOfVertices (drawn (map at c.vertices) c.mesh) i j
    → IsMesh (map at c.vertices) (faces_of c.mesh) (outer_of c.mesh)
    → ((h : ℕ) → h < length c.directed → ¬ CrossesFromRight (map at c.vertices) c.mesh i j h)
    → IsEdge (drawn (map at c.vertices) c.mesh) i j
edge_if_none_crosses at c mesh i j free shape none =
    T.edge_if_none (map at c.vertices) c.mesh mesh.valid i j shape free
    (λ h h_in x. none h (subst (λ (n : ℕ). h < n) (sym mesh.fits.directed_fit) h_in) x)

-- ---- the loop
-- the segment from i to j is made an edge, and each edge that may fail is left to test, whatever
-- the constraints are
pub record MakesEdge {V D U F : Type 0} (points : List Point) (old new : Contents V D U F) (i j : ℕ)
    (was left : List ℕ) : Type 0 where
  pub contents : new ≡ record old { mesh = new.mesh }
  pub whole : IsMeshWithData new
  pub shape : IsMesh points (faces_of new.mesh) (outer_of new.mesh)
  pub edge : IsEdge (drawn points new.mesh) i j
  pub kept : KeepsUncrossed points old.mesh new.mesh i j
  pub faces_kept : KeepsUncrossedFaces points old.mesh new.mesh i j
  pub edges : AreEdges new.mesh left
  pub leaves : LeavesFailing points old.mesh new.mesh was left

-- after some turns: those that cross are still listed
pub record IsMaking {V D U F : Type 0} (at : V → Point) (old now : Contents V D U F) (i j : ℕ)
    (was left : List ℕ) (room_was room : ℕ) (before l : CrossingLists) : Type 0 where
  pub contents : now ≡ record old { mesh = now.mesh }
  pub turn : AreToTurn (map at now.vertices) now i j l
  pub kept : KeepsUncrossed (map at old.vertices) old.mesh now.mesh i j
  pub faces_kept : KeepsUncrossedFaces (map at old.vertices) old.mesh now.mesh i j
  pub edges : AreEdges now.mesh left
  pub leaves : (constraints : List (ℕ × ℕ))
      → AllPassBut (map at old.vertices) (faces_of old.mesh) constraints (pairs_at old.mesh was)
      → AllPassAway (map at old.vertices) (faces_of now.mesh) constraints
      (pairs_at now.mesh left) i j
  pub same_room : room ≡ room_was
  pub lists_room : KeepRoom before l

-- before the first turn the mesh, the lists and the work list are as they were
pub making_begins : {V D U F : Type 0} {at : V → Point} {old : Contents V D U F} {i j : ℕ}
    {was : List ℕ} {room : ℕ} {l : CrossingLists} → AreToTurn (map at old.vertices) old i j l
    → IsWorkList old was room → IsMaking at old old i j was was room room l l
making_begins turn work = record {
  contents = refl;
  turn = turn;
  kept = λ h clear. (refl, refl);
  faces_kept = λ f t there first second third. there;
  edges = work.edges;
  leaves = λ constraints passing u v k l f g first second free untested.
      passing u v k l f g free untested;
  same_room = refl;
  lists_room = record { waiting = refl; unseen = refl };
}

module _ {V D U F : Type 0} {at : V → Point} {old now : Contents V D U F} {i j : ℕ}
    {was left : List ℕ} {room_was room : ℕ} {before l : CrossingLists}
    (making : IsMaking at old now i j was left room_was room before l) where
  -- the vertices stay
  same : now.vertices ≡ old.vertices
  same = ap (λ (c : Contents V D U F). c.vertices) making.contents

  -- the edges left are a work list if those before were
  pub making_work : IsWorkList old was room_was → IsWorkList now left room
  making_work work = record {
    edges = making.edges;
    room = subst (λ (n : ℕ). length now.undirected ≤ n) (sym making.same_room)
        (subst (λ (us : List U). length us ≤ room_was)
        (sym (ap (λ (c : Contents V D U F). c.undirected) making.contents)) work.room);
  }

  -- the segment is a subconstraint of the mesh of these vertices
  subconstraint : IsOneSubconstraint (map at old.vertices) now i j
  subconstraint = subst (λ (vs : List V). IsOneSubconstraint (map at vs) now i j) same
      making.turn.subconstraint

  -- so the mesh is that of a triangulation with the same sites
  pub making_placed : {P : Type 0} {IsSite : P → Point → Type 0} {t : P}
      → IsEmbedding at IsSite old t → IsEmbedding at IsSite now t
  making_placed {P = P} {IsSite = IsSite} {t = t} embedding =
      subst (λ (c : Contents V D U F). IsEmbedding at IsSite c t) (sym making.contents) (record {
        kept = record {
          in_range = embedding.kept.in_range;
          few_edges = embedding.kept.few_edges;
          few_faces = embedding.kept.few_faces;
          valid = making.turn.subconstraint.whole.valid;
          fits = subst (λ (c : Contents V D U F). FitsMesh now.mesh (length c.vertices)
              (length c.directed) (length c.undirected) (length c.faces)) making.contents
              making.turn.subconstraint.whole.fits;
          shape = subconstraint.shape;
        };
        sites = embedding.sites;
      })

  -- where it is an edge, it is made one
  pub making_ends : HasAsEdge (map at now.vertices) now i j
      → MakesEdge (map at old.vertices) old now i j was left
  making_ends ended = record {
    contents = making.contents;
    whole = ended.whole;
    shape = subconstraint.shape;
    edge = ended.edge;
    kept = making.kept;
    faces_kept = making.faces_kept;
    edges = making.edges;
    leaves = λ constraints passing. passing_ends (map at old.vertices) now.mesh
        ended.whole.valid subconstraint.shape i j apart constraints (pairs_at now.mesh left)
        ended.edge
        (making.leaves constraints passing);
  }
    where
      apart : ¬ (point_at (map at old.vertices) i ≡ point_at (map at old.vertices) j)
      apart e = placed_apart (map at old.vertices) (faces_of now.mesh) (outer_of now.mesh)
          subconstraint.shape i j subconstraint.free.first subconstraint.free.second
          subconstraint.free.apart (ap whole e)

  module _ {new : Contents V D U F} {more : List ℕ} {given after : CrossingLists}
      (one : TurnsOne (map at now.vertices) now new i j left more given after) where
    abbrev flip : TurnsTowards (map at now.vertices) now new i j left more
    flip = one.turns

    -- a flip towards the segment is one more turn
    pub making_goes_on : {room_after : ℕ} → room_after ≡ room → KeepRoom l given
        → IsMaking at old new i j was more room_was room_after before after
    making_goes_on room_same given_room = record {
      contents = flip.contents
          ∙ ap (λ (c : Contents V D U F). record c { mesh = new.mesh }) making.contents;
      turn = subst (λ (vs : List V). AreToTurn (map at vs) new i j after)
          (sym (ap (λ (c : Contents V D U F). c.vertices) flip.contents)) one.turn;
      kept = kept_on (map at old.vertices) old.mesh now.mesh new.mesh i j making.kept (subst
          (λ (vs : List V). KeepsUncrossed (map at vs) now.mesh new.mesh i j) same flip.kept);
      faces_kept = faces_kept_on (map at old.vertices) old.mesh now.mesh new.mesh i j
          making.faces_kept (subst (λ (vs : List V).
          KeepsUncrossedFaces (map at vs) now.mesh new.mesh i j) same flip.faces_kept);
      edges = flip.edges;
      leaves = λ constraints passing. subst (λ (vs : List V). AllPassAway (map at vs)
          (faces_of new.mesh) constraints (pairs_at new.mesh more) i j) same
          (flip.leaves constraints
          (subst (λ (vs : List V). AllPassAway (map at vs) (faces_of now.mesh) constraints
          (pairs_at now.mesh left) i j) (sym same) (making.leaves constraints passing)));
      same_room = room_same ∙ making.same_room;
      lists_room = room_on making.lists_room (room_on given_room one.room);
    }

    -- the number that falls
    pub making_falls : crossing_sum (map at new.vertices) (faces_of new.mesh) i j
        < crossing_sum (map at now.vertices) (faces_of now.mesh) i j
    making_falls = subst (λ (vs : List V). crossing_sum (map at vs) (faces_of new.mesh) i j
        < crossing_sum (map at now.vertices) (faces_of now.mesh) i j)
        (sym (ap (λ (c : Contents V D U F). c.vertices) flip.contents)) flip.lower
