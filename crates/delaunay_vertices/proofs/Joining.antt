-- A new vertex is joined to one outer edge after another.
-- Notions: Sees, IsJoining, IsJoiningBack; told_of, joining_begins,
-- joining_goes_on, joining_goes_back, unseen_stays, joining_ends, room_for_face, sites_grown,
-- seen_if, unseen_if, ahead_apart, step_ahead, before_outer, before_apart, step_behind.
use Rattle.std.proofs.Common.{◌≡◌, ◌≢◌, ◌⊎◌, ◌↔◌, ◌+◌, ◌-◌, ◌*◌, ◌<◌, [], ◌∷◌, ◌++◌, ◌∙◌}
use Rattle.std.proofs.Common.{ℕ, Bool, true, false, List, length, map, refl, sym, ap, subst, inl}
use Rattle.std.proofs.Common.{inr, arith}
use Rattle.std.proofs.Common.{length-append}
use Rattle.std.specs.Prelude.{All, Contains, IsTrue}
use Rattle.std.proofs.lemmas.List.{length-map, map-append}
use Rattle.std.proofs.lemmas.List.Elements.{All-push}
use Rattle.plane.specs.{place, Point, TurnsLeft, whole}
use Rattle.plane.proofs.{bracket-last, bracket-outer, if_left, left_not_zero}
use Rattle.half_edge_links.specs.{AddsTriangle, AreSoundLinks, closed, Closes, Ends, face}
use Rattle.half_edge_links.specs.{HasRoomFor, IsClosable, IsOuterEdge, IsSoundEdge, Mesh, next}
use Rattle.half_edge_links.specs.{origin, prev, ReplacesOuter, rev}
use Rattle.half_edge_links.proofs.{rev_within}
use Rattle.plane_theorems.specs.{IsExtending, IsMesh, LocalMesh}
use Rattle.plane_theorems.proofs.{at, IsOnce, kept_point, point_at}
use Rattle.plane_theorems.proofs.Edits.Insertion.Growing.{extension_begins}
use Rattle.plane_theorems.proofs.{Edits.Insertion.OnLine.over_line_ends, Tiling.Appended.last_point}
use Rattle.half_edge_dcel.specs.{AddsData, AddsEdges, Contents, edges, HasRoom, IsMeshWithData}
use Rattle.half_edge_dcel.specs.Shapes.{AddsFaceTo, ClosesTriangle}
use Rattle.{half_edge_dcel.proofs.Fits.length-grown, half_edge_links.proofs.Growing.Close.closes}
use Rattle.delaunay_legalization.specs.{faces_of, IsTriangulated, outer_of, state_of}
use Rattle.delaunay_legalization.proofs.{both_ways, listed, MeshExtension.mesh_extension_goes_on}
use Rattle.delaunay_legalization.proofs.{MeshEdits.added_faces, OuterChanges.outer_replaced}
use Rattle.delaunay_legalization.proofs.MeshExtension.{ends_below, mesh_extension_ends}
use Rattle.delaunay_legalization.proofs.MeshExtension.{mesh_extension_goes_back}
use Rattle.delaunay_vertices.specs.{AddsOnly, GrowsAround}
use Rattle.delaunay_vertices.proofs.DataGrowing.{grows_by_face, grows_on}
use Rattle.delaunay_vertices.proofs.EdgeLists.{adds_on, adds_only}
use Rattle.delaunay_vertices.proofs.Growing.{edges_and_faces, sides_at_most}
use Rattle.delaunay_vertices.proofs.LineEnds.{none_seen_after, none_seen_before}

-- what is told of a position is told of the point that it is
pub told_of : (points : List Point) (m : Mesh) (e : ℕ) {p q : Point} {b : Bool} → p ≡ q
    → (IsTrue b ↔ TurnsLeft (place points (origin m e)) (place points (origin m (rev e))) (whole p))
    → IsTrue b ↔ TurnsLeft (place points (origin m e)) (place points (origin m (rev e))) (whole q)
told_of points m e {b = b} is told = subst (λ (x : Point). IsTrue b ↔ TurnsLeft
    (place points (origin m e)) (place points (origin m (rev e))) (whole x)) is told

-- directed edge e has vertex k strictly on its left
abbrev pub Sees : List Point → Mesh → ℕ → ℕ → Type 0
Sees points m k e =
    TurnsLeft (place points (origin m e)) (place points (origin m (rev e))) (place points k)

-- an edge starts at a vertex
has_vertex : {V D U F : Type 0} (place : V → Point) (c : Contents V D U F) (e : ℕ)
    → IsTriangulated place (state_of c) → e < length c.directed → 0 < length c.vertices
has_vertex place c e kept within =
    let d = kept.fits.directed_fit in
    let o = (kept.valid.sound.edges e (omega (arith, d, within))).origin_in in
    let f = kept.fits.vertices_fit in
    omega (arith, o, f)

-- ---- a vertex on the left of an edge is at neither end
-- no triple whose third point is its second turns left
not_to : (points : List Point) (i k : ℕ)
    → ¬ TurnsLeft (place points i) (place points k) (place points k)
not_to points i k s = left_not_zero (if_left (place points i) (place points k) (place points k) s)
    (bracket-last (at (point_at points) i) (at (point_at points) k))

-- no triple whose third point is its first turns left
not_from : (points : List Point) (i k : ℕ)
    → ¬ TurnsLeft (place points k) (place points i) (place points k)
not_from points i k s = left_not_zero (if_left (place points k) (place points i) (place points k) s)
    (bracket-outer (at (point_at points) k) (at (point_at points) i))

-- a vertex on the left of an edge is not where the edge starts
seen_start : (points : List Point) (m : Mesh) (k e : ℕ) → Sees points m k e → origin m e ≢ k
seen_start points m k e s same = not_from points (origin m (rev e)) k (subst
    (λ i. TurnsLeft (place points i) (place points (origin m (rev e))) (place points k)) same s)

-- a vertex on the left of an edge is not where the edge ends
seen_end : (points : List Point) (m : Mesh) (k e : ℕ) → Sees points m k e → origin m (rev e) ≢ k
seen_end points m k e s same = not_to points (origin m e) k
    (subst (λ i. TurnsLeft (place points (origin m e)) (place points i) (place points k)) same s)

-- the new last vertex k of a mesh, with data v, is joined to the outer edges between the edge
-- ahead, which it starts, and the edge behind, which it ends: the mesh before and now. All keeps
-- its data, and those of the edges that came are as P says
pub record IsJoining {V D U F : Type 0} (place : V → Point) (P : U → Type 0)
    (old now : Contents V D U F) (v : V) (k ahead behind : ℕ) : Type 0 where
  pub vertex : k ≡ length old.vertices
  pub whole : IsMeshWithData now
  pub vertices : now.vertices ≡ old.vertices ++ v ∷ []
  pub room : now.room ≡ old.room
  pub counts : length now.undirected + 1 ≡ length now.faces + length now.vertices
  pub ahead_in : ahead < length now.directed
  pub behind_in : behind < length now.directed
  pub ahead_outer :
      IsOuterEdge now.mesh ahead (length (map place old.vertices)) (origin now.mesh (rev ahead))
  pub behind_outer :
      IsOuterEdge now.mesh behind (origin now.mesh behind) (length (map place old.vertices))
  pub extending :
      IsExtending (map place old.vertices) (place v) (faces_of old.mesh) (faces_of now.mesh)
      (outer_of old.mesh) (outer_of now.mesh) (origin now.mesh behind) (origin now.mesh (rev ahead))
  pub grows : GrowsAround (map place old.vertices) (place v) (state_of old) (state_of now)
  pub adds : AddsOnly P (edges old) (edges now)

-- the same, where the edge after the edge ahead does not see the vertex, and this is the edge
-- before the edge behind
pub record IsJoiningBack {V D U F : Type 0} (place : V → Point) (P : U → Type 0)
    (old now : Contents V D U F) (v : V) (k before : ℕ) : Type 0 where
  pub ahead : ℕ
  pub behind : ℕ
  pub joining : IsJoining place P old now v k ahead behind
  pub unseen : ¬ Sees (map place old.vertices ++ place v ∷ []) now.mesh
      (length (map place old.vertices)) (next now.mesh ahead)
  pub before_is : before ≡ prev now.mesh behind
  pub before_in : before < length now.directed

module _ {V D U F : Type 0} (place_at : V → Point) (old : Contents V D U F) (v : V) where
  abbrev points : List Point
  points = map place_at old.vertices

  abbrev grown_points : List Point
  grown_points = map place_at old.vertices ++ place_at v ∷ []

  abbrev last : ℕ
  last = length (map place_at old.vertices)

  -- the vertices now are one more
  grown_count : (now : Contents V D U F) → now.vertices ≡ old.vertices ++ v ∷ []
      → length now.vertices ≡ length old.vertices + 1
  grown_count now is = ap length is ∙ length-append old.vertices (v ∷ [])

  -- no outer edge is listed twice
  once : IsMesh points (faces_of old.mesh) (outer_of old.mesh) → IsOnce (outer_of old.mesh)
  once (inl m) = m.once
  once (inr m) = m.1.once

  -- the first face
  module _ {DP : D → Type 0} {P : U → Type 0} {FP : F → Type 0} {ends : List Ends}
      (new : Contents V D U F) (e k : ℕ) (kept : IsTriangulated place_at (state_of old))
      (listed_edge : e < length old.directed) (outer : face old.mesh e ≡ 0)
      (turns : TurnsLeft (place points (origin old.mesh e))
      (place points (origin old.mesh (rev e))) (whole (place_at v))) (is : k ≡ length old.vertices)
      (brings : AddsData DP P FP (old.vertices ++ v ∷ []) old new 4 2 1)
      (links : AddsFaceTo old.mesh new.mesh (length old.directed) k e)
      (edged : AddsEdges P (edges old) (edges new) ends) where
    within : e < length old.mesh.half_edges
    within = rw kept.fits.directed_fit at listed_edge

    sound_before : AreSoundLinks old.mesh
    sound_before = kept.valid.sound

    -- the index of the new vertex is the number of old points
    k_is : k ≡ last
    k_is = is ∙ sym (length-map old.vertices place_at)

    -- there are as many old points as vertices of the mesh
    fit : last ≡ length old.mesh.out_edges
    fit = length-map old.vertices place_at ∙ kept.fits.vertices_fit

    abbrev a : ℕ
    a = origin old.mesh e

    abbrev b : ℕ
    b = origin old.mesh (rev e)

    -- the edge starts at an old vertex
    a_in : a < last
    a_in = subst (λ n. a < n) (sym fit) (sound_before.edges e within).origin_in

    -- and ends at one
    b_in : b < last
    b_in = subst (λ n. b < n) (sym fit) (sound_before.edges (rev e)
        (rev_within e (length old.mesh.half_edges) sound_before.even within)).origin_in

    behind_made : IsOuterEdge new.mesh (length old.directed + 3) a k
    behind_made = links.outer.made (length old.directed + 3) a k (inl (refl, refl, refl))

    ahead_made : IsOuterEdge new.mesh (length old.directed + 1) k b
    ahead_made = links.outer.made (length old.directed + 1) k b (inr (refl, refl, refl))

    -- the new vertex is on its left, among the points that include the new one
    left : TurnsLeft (place grown_points a) (place grown_points b) (place grown_points last)
    left = subst (λ (x : Point × Point × Point). TurnsLeft (whole x.0) (whole x.1) (whole x.2))
        (λ o. (
          kept_point points (place_at v) a a_in o,
          kept_point points (place_at v) b b_in o,
          sym (last_point points (place_at v)) o,
        )) turns

    extending : IsExtending points (place_at v) (faces_of old.mesh) (faces_of new.mesh)
        (outer_of old.mesh) (outer_of new.mesh) a b
    extending =
        extension_begins points (faces_of old.mesh) (faces_of new.mesh) (outer_of old.mesh)
        (outer_of new.mesh) (place_at v) a b (ends_below old.mesh last sound_before fit)
        (listed old.mesh e a b
        (record { within = within; outer = outer; source = refl; target = refl })) left
        (added_faces old.mesh new.mesh a b last
        (subst (λ i. AddsTriangle old.mesh new.mesh a b i) k_is links.triangles))
        (outer_replaced old.mesh new.mesh e last (length old.directed + 3) (length old.directed + 1)
        sound_before (once kept.shape) within outer fit (subst (λ i. ReplacesOuter old.mesh
        new.mesh e i (length old.directed + 3) (length old.directed + 1)) k_is links.outer))

    -- after the first face the new vertex has a new edge ahead, and one behind
    pub joining_begins : (n h i : ℕ) → n ≡ length new.directed → h ≡ n - 3 → i ≡ n - 1
        → IsJoining place_at P old new v k h i
    joining_begins n h i count ahead behind =
        let vertices = ap (λ (d : Contents V D U F). d.vertices) brings.contents in
        let directed = length-grown _ old.directed new.directed 4 brings.directed in
        let first : h ≡ length old.directed + 1 = omega (arith, ahead, count, directed) in
        let last_one : i ≡ length old.directed + 3 = omega (arith, behind, count, directed) in
        rw (first, last_one) (record {
          vertex = is;
          whole = brings.whole;
          vertices = vertices;
          room = ap (λ (d : Contents V D U F). d.room) brings.contents;
          counts =
              let n = edges_and_faces place_at old
              (record { valid = kept.valid; fits = kept.fits }) kept.shape
              (has_vertex place_at old e kept listed_edge) in
              let u = length-grown _ old.undirected new.undirected 2 brings.undirected in
              let f = length-grown _ old.faces new.faces 1 brings.faces in
              omega (arith, n, grown_count new vertices, u, f);
          ahead_in = omega (arith, directed);
          behind_in = omega (arith, directed);
          ahead_outer = record {
            within = ahead_made.within;
            outer = ahead_made.outer;
            source = ahead_made.source ∙ k_is;
            target = refl;
          };
          behind_outer = record {
            within = behind_made.within;
            outer = behind_made.outer;
            source = refl;
            target = behind_made.target ∙ k_is;
          };
          extending = subst (λ (x : ℕ × ℕ). IsExtending points (place_at v) (faces_of old.mesh)
              (faces_of new.mesh) (outer_of old.mesh) (outer_of new.mesh) x.0 x.1)
              (λ o. (sym behind_made.source o, sym ahead_made.target o)) extending;
          grows = grows_by_face old new kept.valid kept.fits brings.whole points (place_at v) _ _ _
              brings edged links.triangles;
          adds = adds_only edged;
        })

  module _ {DP : D → Type 0} {P : U → Type 0} {FP : F → Type 0} {ends : List Ends}
      (now new : Contents V D U F) {k : ℕ} (ahead behind : ℕ)
      (j : IsJoining place_at P old now v k ahead behind)
      (brings : AddsData DP P FP now.vertices now new 2 1 1)
      (edged : AddsEdges P (edges now) (edges new) ends) where
    -- the links fit together
    s : AreSoundLinks now.mesh
    s = j.whole.valid.sound

    start_below : origin now.mesh behind < last
    start_below = (j.extending.ends (origin now.mesh behind) j.extending.second j.extending.run.0).0

    apart : ahead ≢ behind
    apart p = below start_below (ap (origin now.mesh) (sym p) ∙ j.ahead_outer.source)
      where
        below : {a b : ℕ} → a < b → a ≢ b
        below h e = omega arith

    directed : length new.directed ≡ length now.directed + 2
    directed = length-grown _ now.directed new.directed 2 brings.directed

    counted : length new.undirected + 1 ≡ length new.faces + length new.vertices
    counted =
        let n = j.counts in
        let k = ap (λ (d : Contents V D U F). length d.vertices) brings.contents in
        let u = length-grown _ now.undirected new.undirected 1 brings.undirected in
        let f = length-grown _ now.faces new.faces 1 brings.faces in
        omega (arith, n, k, u, f)

    grown_on : (a b c : ℕ) → AddsTriangle now.mesh new.mesh a b c
        → GrowsAround points (place_at v) (state_of old) (state_of new)
    grown_on a b c adds = grows_on points (place_at v) (state_of old) (state_of now) (state_of new)
        j.grows (grows_by_face now new j.whole.valid j.whole.fits brings.whole points (place_at v)
        _ _ _ brings edged adds)

    added_on : AddsOnly P (edges old) (edges new)
    added_on = adds_on j.adds (adds_only edged)

    -- a face with the edge after the edge ahead, which sees v, leaves one outer edge fewer
    pub joining_goes_on : Sees grown_points now.mesh last (next now.mesh ahead)
        → ClosesTriangle now.mesh new.mesh (length now.directed) ahead
        → IsJoining place_at P old new v k (length now.directed + 1) behind
        × (length (outer_of new.mesh) < length (outer_of now.mesh))
    joining_goes_on sees links = (
      record {
        vertex = j.vertex;
        whole = brings.whole;
        vertices = ap (λ (d : Contents V D U F). d.vertices) brings.contents ∙ j.vertices;
        room = ap (λ (d : Contents V D U F). d.room) brings.contents ∙ j.room;
        counts = counted;
        ahead_in = omega (arith, directed);
        behind_in = let h = j.behind_in in omega (arith, h, directed);
        ahead_outer = record {
          within = made.within;
          outer = made.outer;
          source = made.source ∙ j.ahead_outer.source;
          target = refl;
        };
        behind_outer = record {
          within = stays.within;
          outer = stays.outer;
          source = refl;
          target = stays.target;
        };
        extending = subst (λ (x : ℕ × ℕ). IsExtending points (place_at v) (faces_of old.mesh)
            (faces_of new.mesh) (outer_of old.mesh) (outer_of new.mesh) x.0 x.1)
            (λ o. (sym stays.source o, sym made.target o)) step.0;
        grows = grown_on _ _ _ links.triangles;
        adds = added_on;
      },
      step.1,
    )
      where
        step : IsExtending points (place_at v) (faces_of old.mesh) (faces_of new.mesh)
            (outer_of old.mesh) (outer_of new.mesh) (origin now.mesh behind)
            (origin now.mesh (rev (next now.mesh ahead)))
            × (length (outer_of new.mesh) < length (outer_of now.mesh))
        step = mesh_extension_goes_on points (place_at v) (faces_of old.mesh)
            (outer_of old.mesh) now.mesh (origin now.mesh behind) (origin now.mesh (rev ahead))
            j.extending new.mesh ahead (length now.directed) s j.whole.valid.apart
            j.ahead_outer.within
            j.ahead_outer.outer j.ahead_outer.source sees links.triangles links.outer

        made : IsOuterEdge new.mesh (length now.directed + 1) (origin now.mesh ahead)
            (origin now.mesh (rev (next now.mesh ahead)))
        made = links.outer.made (length now.directed + 1) (origin now.mesh ahead)
            (origin now.mesh (rev (next now.mesh ahead))) (refl, refl, refl)

        not_gone : ¬ ((behind ≡ ahead) ⊎ (behind ≡ next now.mesh ahead))
        not_gone (inl p) = apart (sym p)
        not_gone (inr p) = seen_end grown_points now.mesh last (next now.mesh ahead) sees
            (ap (λ k. origin now.mesh (rev k)) (sym p) ∙ j.behind_outer.target)

        stays : IsOuterEdge new.mesh behind (origin now.mesh behind) last
        stays = links.outer.kept behind (origin now.mesh behind) last j.behind_outer not_gone

    -- the edge before the edge behind
    module _ (e : ℕ) (is : e ≡ prev now.mesh behind)
        (sees : Sees grown_points now.mesh last e) where
      -- the edge before the edge behind is one of the mesh
      e_in : e < length now.mesh.half_edges
      e_in = subst (λ k. k < length now.mesh.half_edges) (sym is)
          (s.edges behind j.behind_outer.within).prev_in

      next_is : next now.mesh e ≡ behind
      next_is = ap (next now.mesh) is ∙ (s.edges behind j.behind_outer.within).next_prev

      e_outer : face now.mesh e ≡ 0
      e_outer = sym (s.edges e e_in).same_face ∙ ap (face now.mesh) next_is ∙ j.behind_outer.outer

      finish : origin now.mesh (rev (next now.mesh e)) ≡ last
      finish = ap (λ k. origin now.mesh (rev k)) next_is ∙ j.behind_outer.target

      -- a face with this edge, which sees v, leaves one outer edge fewer
      pub joining_goes_back : ClosesTriangle now.mesh new.mesh (length now.directed) e
          → IsJoining place_at P old new v k ahead (length now.directed + 1)
          × (length (outer_of new.mesh) < length (outer_of now.mesh))
      joining_goes_back links = (
        record {
          vertex = j.vertex;
          whole = brings.whole;
          vertices = ap (λ (d : Contents V D U F). d.vertices) brings.contents ∙ j.vertices;
          room = ap (λ (d : Contents V D U F). d.room) brings.contents ∙ j.room;
          counts = counted;
          ahead_in = let h = j.ahead_in in omega (arith, h, directed);
          behind_in = omega (arith, directed);
          ahead_outer = record {
            within = stays.within;
            outer = stays.outer;
            source = stays.source;
            target = refl;
          };
          behind_outer = record {
            within = made.within;
            outer = made.outer;
            source = refl;
            target = made.target ∙ finish;
          };
          extending = subst (λ (x : ℕ × ℕ). IsExtending points (place_at v) (faces_of old.mesh)
              (faces_of new.mesh) (outer_of old.mesh) (outer_of new.mesh) x.0 x.1)
              (λ o. (sym made.source o, sym stays.target o)) step.0;
          grows = grown_on _ _ _ links.triangles;
          adds = added_on;
        },
        step.1,
      )
        where
          left : TurnsLeft (place grown_points (origin now.mesh e))
              (place grown_points (origin now.mesh (next now.mesh e))) (place grown_points last)
          left = subst (λ i. TurnsLeft (place grown_points (origin now.mesh e))
              (place grown_points i) (place grown_points last)) (sym (s.edges e e_in).starts) sees

          step : IsExtending points (place_at v) (faces_of old.mesh) (faces_of new.mesh)
              (outer_of old.mesh) (outer_of new.mesh) (origin now.mesh e)
              (origin now.mesh (rev ahead))
              × (length (outer_of new.mesh) < length (outer_of now.mesh))
          step =
              mesh_extension_goes_back points (place_at v) (faces_of old.mesh) (outer_of old.mesh)
              now.mesh (origin now.mesh behind) (origin now.mesh (rev ahead)) j.extending new.mesh e
              (length now.directed) s j.whole.valid.apart e_in e_outer finish left links.triangles
              links.outer

          made : IsOuterEdge new.mesh (length now.directed + 1) (origin now.mesh e)
              (origin now.mesh (rev (next now.mesh e)))
          made = links.outer.made (length now.directed + 1) (origin now.mesh e)
              (origin now.mesh (rev (next now.mesh e))) (refl, refl, refl)

          not_gone : ¬ ((ahead ≡ e) ⊎ (ahead ≡ next now.mesh e))
          not_gone (inl p) = seen_start grown_points now.mesh last e sees
              (ap (origin now.mesh) (sym p) ∙ j.ahead_outer.source)
          not_gone (inr p) = apart (p ∙ next_is)

          stays : IsOuterEdge new.mesh ahead last (origin now.mesh (rev ahead))
          stays = links.outer.kept ahead last (origin now.mesh (rev ahead)) j.ahead_outer not_gone

      -- the edge after the edge ahead stays the same
      pub unseen_stays : new.mesh ≡ closed now.mesh e
          → ¬ Sees grown_points now.mesh last (next now.mesh ahead)
          → ¬ Sees grown_points new.mesh last (next new.mesh ahead)
      unseen_stays mesh unseen h = unseen (subst (λ (x : ℕ × ℕ). TurnsLeft (place grown_points x.0)
          (place grown_points x.1) (place grown_points last)) (λ o. (first o, second o)) h)
        where
          can : IsClosable now.mesh e
          can = record {
            within = e_in;
            outer = e_outer;
            apart = λ p. seen_start grown_points now.mesh last e sees (sym p ∙ finish);
          }

          links :
              Closes now.mesh new.mesh e (length now.mesh.half_edges) (length now.mesh.face_edges)
          links = subst (λ m. Closes now.mesh m e (length now.mesh.half_edges)
              (length now.mesh.face_edges)) (sym mesh) (closes now.mesh e s can)

          not_before : ahead ≢ prev now.mesh e
          not_before p = unseen (subst (λ k. Sees grown_points now.mesh last k)
              (sym (ap (next now.mesh) p ∙ (s.edges e e_in).next_prev)) sees)

          kept_next : next new.mesh ahead ≡ next now.mesh ahead
          kept_next =
              links.other_next ahead j.ahead_outer.within not_before (λ p. apart (p ∙ next_is))

          after_in : next now.mesh ahead < length now.mesh.half_edges
          after_in = (s.edges ahead j.ahead_outer.within).next_in

          first : origin new.mesh (next new.mesh ahead) ≡ origin now.mesh (next now.mesh ahead)
          first = ap (origin new.mesh) kept_next ∙ links.origins (next now.mesh ahead) after_in

          second : origin new.mesh (rev (next new.mesh ahead))
              ≡ origin now.mesh (rev (next now.mesh ahead))
          second = ap (λ k. origin new.mesh (rev k)) kept_next
              ∙ links.origins (rev (next now.mesh ahead))
              (rev_within (next now.mesh ahead) (length now.mesh.half_edges) s.even after_in)

  -- neither the edge after the edge ahead nor the one before the edge behind sees the vertex
  module _ {P : U → Type 0} (now : Contents V D U F) {k : ℕ} (ahead behind : ℕ)
      (j : IsJoining place_at P old now v k ahead behind)
      (unseen_after : ¬ Sees grown_points now.mesh last (next now.mesh ahead))
      (unseen_before : ¬ Sees grown_points now.mesh last (prev now.mesh behind)) where
    sound_now : AreSoundLinks now.mesh
    sound_now = j.whole.valid.sound

    abbrev u : ℕ
    u = origin now.mesh behind

    abbrev far : ℕ
    far = origin now.mesh (rev ahead)

    -- the edge before the edge behind is one of the mesh
    h_in : prev now.mesh behind < length now.mesh.half_edges
    h_in = (sound_now.edges behind j.behind_outer.within).prev_in

    -- it ends where the edge behind starts
    h_end : origin now.mesh (rev (prev now.mesh behind)) ≡ u
    h_end = sym (sound_now.edges (prev now.mesh behind) h_in).starts
        ∙ ap (origin now.mesh) (sound_now.edges behind j.behind_outer.within).next_prev

    before : Contains (outer_of now.mesh) (origin now.mesh (prev now.mesh behind), u)
    before =
        listed now.mesh (prev now.mesh behind) (origin now.mesh (prev now.mesh behind)) u (record {
          within = h_in;
          outer = sym (sound_now.edges (prev now.mesh behind) h_in).same_face ∙ ap (face now.mesh)
              (sound_now.edges behind j.behind_outer.within).next_prev ∙ j.behind_outer.outer;
          source = refl;
          target = h_end;
        })

    not_before : ¬ TurnsLeft (place grown_points (origin now.mesh (prev now.mesh behind)))
        (place grown_points u) (place grown_points last)
    not_before t = unseen_before
        (subst (λ i. TurnsLeft (place grown_points (origin now.mesh (prev now.mesh behind)))
        (place grown_points i) (place grown_points last)) (sym h_end) t)

    after_start : origin now.mesh (next now.mesh ahead) ≡ far
    after_start = (sound_now.edges ahead j.ahead_outer.within).starts

    after : Contains (outer_of now.mesh) (far, origin now.mesh (rev (next now.mesh ahead)))
    after = listed now.mesh (next now.mesh ahead) far
        (origin now.mesh (rev (next now.mesh ahead))) (record {
          within = (sound_now.edges ahead j.ahead_outer.within).next_in;
          outer = (sound_now.edges ahead j.ahead_outer.within).same_face ∙ j.ahead_outer.outer;
          source = after_start;
          target = refl;
        })

    not_after : ¬ TurnsLeft (place grown_points far)
        (place grown_points (origin now.mesh (rev (next now.mesh ahead)))) (place grown_points last)
    not_after t = unseen_after (subst (λ i. TurnsLeft (place grown_points i) (place grown_points
        (origin now.mesh (rev (next now.mesh ahead)))) (place grown_points last))
        (sym after_start) t)

    -- where neither the edge after the one ahead nor that before the one behind sees v, all is
    -- joined
    pub joining_ends : IsMesh points (faces_of old.mesh) (outer_of old.mesh)
        → LocalMesh grown_points (faces_of now.mesh) (outer_of now.mesh)
    joining_ends (inl m) =
        mesh_extension_ends points (place_at v) (faces_of old.mesh) (outer_of old.mesh) now.mesh
        (origin now.mesh (prev now.mesh behind)) u far (origin now.mesh
        (rev (next now.mesh ahead))) m j.extending before after not_before not_after
    joining_ends (inr m) =
        let x = subst (λ fs. IsExtending points (place_at v) fs (faces_of now.mesh)
        (outer_of old.mesh) (outer_of now.mesh) u far) m.0 j.extending in
        over_line_ends points (faces_of now.mesh) (outer_of old.mesh) (outer_of now.mesh)
        (place_at v) u far m.1 x
        (none_seen_before points (place_at v)
        (outer_of old.mesh) now.mesh u far m.1 j.whole.valid x behind j.behind_outer unseen_before)
        (none_seen_after points (place_at v)
        (outer_of old.mesh) now.mesh u far m.1 j.whole.valid x ahead j.ahead_outer unseen_after)

-- ---- one step of the loops, by what the code asks
module _ {V D U F : Type 0} {place_at : V → Point} {P : U → Type 0} {old now : Contents V D U F}
    {v : V} {k ahead behind : ℕ} (j : IsJoining place_at P old now v k ahead behind) where
  grown_to : map place_at now.vertices ≡ grown_points place_at old v
  grown_to = ap (map place_at) j.vertices ∙ map-append place_at old.vertices (v ∷ [])

  -- room for one more face
  pub room_for_face : HasRoomFor old.room (length old.vertices + 1) (3 * (length old.vertices + 1))
      (2 * (length old.vertices + 1)) → HasRoom now 0 1 1
  room_for_face room =
      let count = grown_count place_at old v now j.vertices in
      let sides = sides_at_most now j.whole in
      subst (λ r. HasRoom (record now { room = r }) 0 1 1) (sym j.room) (record {
        vertices_fit = omega (arith, room.vertices_fit, count);
        edges_fit = omega (arith, room.edges_fit, count, j.counts, sides);
        faces_fit = omega (arith, room.faces_fit, count, j.counts, sides);
      })

  -- the sites with the new one
  pub sites_grown : (IsSite : Point → Type 0)
      → All IsSite (map place_at old.vertices) × IsSite (place_at v)
      → All IsSite (map place_at now.vertices)
  sites_grown IsSite all =
      rw grown_to (All-push IsSite (map place_at old.vertices) (place_at v) all.0 all.1)

  -- the code tells whether an edge has the position of the new vertex strictly on its left
  module _ {p : Point} {e : ℕ} {b : Bool} (here : p ≡ place_at v)
      (told : IsTrue b ↔ TurnsLeft (place (map place_at now.vertices) (origin now.mesh e))
      (place (map place_at now.vertices) (origin now.mesh (rev e))) (whole p)) where
    told_seen : (i : ℕ) → e ≡ i → IsTrue b
        ↔ Sees (grown_points place_at old v) now.mesh (last place_at old v) i
    told_seen i is = subst (λ (x : List Point × Point × ℕ). IsTrue b ↔ TurnsLeft
        (place x.0 (origin now.mesh x.2)) (place x.0 (origin now.mesh (rev x.2))) (whole x.1))
        (λ o. (
          grown_to o,
          (here ∙ sym (last_point (map place_at old.vertices) (place_at v))) o,
          is o,
        )) told

    -- it sees the vertex
    pub seen_if : {i : ℕ} → e ≡ i → b ≡ true
        → Sees (grown_points place_at old v) now.mesh (last place_at old v) i
    seen_if {i = i} is true_of = (told_seen i is).0 true_of

    -- or it does not
    pub unseen_if : {i : ℕ} → e ≡ i → b ≡ false
        → ¬ Sees (grown_points place_at old v) now.mesh (last place_at old v) i
    unseen_if {i = i} is false_of sees = both_ways b ((told_seen i is).1 sees) false_of

  -- the edge after the edge ahead sees the new vertex
  module _ (sees : Sees (grown_points place_at old v) now.mesh (last place_at old v)
      (next now.mesh ahead)) where
    -- it does not lead back to where the edge ahead starts
    pub ahead_apart : origin now.mesh (rev (next now.mesh ahead)) ≢ origin now.mesh ahead
    ahead_apart p = seen_end (grown_points place_at old v) now.mesh (last place_at old v)
        (next now.mesh ahead) sees (p ∙ j.ahead_outer.source)

    -- the step ahead, to the new edge h
    pub step_ahead : {DP : D → Type 0} {FP : F → Type 0} {ends : List Ends}
        {new : Contents V D U F} {h : ℕ} → AddsData DP P FP now.vertices now new 2 1 1
        → AddsEdges P (edges now) (edges new) ends
        → ClosesTriangle now.mesh new.mesh (length now.directed) ahead
        → h ≡ length now.directed + 1 → IsJoining place_at P old new v k h behind
        × (length (outer_of new.mesh) < length (outer_of now.mesh))
    step_ahead {new = new} brings edged links made = rw made
        (joining_goes_on place_at old v now new ahead behind j brings edged sees links)

-- the edge before the edge behind sees it
module _ {V D U F : Type 0} {place_at : V → Point} {P : U → Type 0} {old now : Contents V D U F}
    {v : V} {k e : ℕ} (b : IsJoiningBack place_at P old now v k e)
    (sees : Sees (grown_points place_at old v) now.mesh (last place_at old v) e) where
  -- the edge behind fits the edges beside it
  here : IsSoundEdge now.mesh b.behind
  here = b.joining.whole.valid.sound.edges b.behind b.joining.behind_outer.within

  before_in : e < length now.mesh.half_edges
  before_in = subst (λ i. i < length now.mesh.half_edges) (sym b.before_is) here.prev_in

  after_is : next now.mesh e ≡ b.behind
  after_is = ap (next now.mesh) b.before_is ∙ here.next_prev

  -- the edge before the edge behind is an outer one
  pub before_outer : face now.mesh e ≡ 0
  before_outer = sym (b.joining.whole.valid.sound.edges e before_in).same_face
      ∙ ap (face now.mesh) after_is ∙ b.joining.behind_outer.outer

  -- the edge after it does not lead back to where it starts
  pub before_apart : origin now.mesh (rev (next now.mesh e)) ≢ origin now.mesh e
  before_apart p = seen_start (grown_points place_at old v) now.mesh (last place_at old v) e sees
      (sym p ∙ ap (λ i. origin now.mesh (rev i)) after_is ∙ b.joining.behind_outer.target)

  -- the step behind, to the new edge h with i before it, while nothing ahead sees v
  pub step_behind : {DP : D → Type 0} {FP : F → Type 0} {ends : List Ends} {new : Contents V D U F}
      {h i : ℕ} → AddsData DP P FP now.vertices now new 2 1 1
      → AddsEdges P (edges now) (edges new) ends
      → ClosesTriangle now.mesh new.mesh (length now.directed) e
      → h ≡ length now.directed + 1 → i ≡ prev new.mesh h → i < length new.directed
      → IsJoiningBack place_at P old new v k i
      × (length (outer_of new.mesh) < length (outer_of now.mesh))
  step_behind {new = new} {h = h} brings edged links made is within =
      let step = joining_goes_back place_at old v now new b.ahead b.behind b.joining brings edged e
      b.before_is sees links in (
        record {
          ahead = b.ahead;
          behind = h;
          joining = rw made step.0;
          unseen = unseen_stays place_at old v now new b.ahead b.behind b.joining brings edged e
              b.before_is sees links.mesh b.unseen;
          before_is = is;
          before_in = within;
        },
        step.1,
      )
