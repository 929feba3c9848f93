-- The data of what stands beside a vertex that goes.
-- Lemmas: renumbers, data_kept, line_data_kept, line_renumbers, plane_renumbers, plane_data_kept.
use Rattle.std.proofs.Common.{◌≡◌, ◌≢◌, ◌⊎◌, ◌-◌, ◌<◌, [], ◌∙◌}
use Rattle.std.proofs.Common.{ℕ, List, length, Some, sym, ap, subst, inl, inr, arith}
use Rattle.std.specs.Prelude.{slice_get, Contains}
use Rattle.half_edge_links.specs.{origin, rev, Triangle, triangles}
use Rattle.half_edge_dcel.specs.{Contents, DropsVertex, full_edges, full_faces, FullEdge, FullFace}
use Rattle.half_edge_dcel.specs.{IsMeshWithData, LeavesMesh, renumbered_edge, renumbered_face}
use Rattle.half_edge_dcel.proofs.Hubs.{count_faces}
use Rattle.delaunay_legalization.specs.{faces_of, IsTriangulated, state_of}
use Rattle.delaunay_legalization.proofs.{contains_map_from, FaceChanges.contains_map}
use Rattle.delaunay_vertices.specs.{HasDataOfEdge, HasDataOfFace, HasValueAt, IsolatesVertex}
use Rattle.delaunay_vertices.specs.{KeepsDataBeside, RenumbersEdges, StandsBeside}
use Rattle.delaunay_vertices.proofs.DataReads.{edge_of, edge_read, ends_off, face_of, face_read}
use Rattle.delaunay_vertices.proofs.DataReads.{same_edge_data, same_face_data}
use Rattle.delaunay_vertices.proofs.DataStays.{edges_come, edges_stand, joined_comes, joined_stand}
use Rattle.delaunay_vertices.proofs.Drops.{same_outer, same_vertices}
use Rattle.{delaunay_vertices.proofs.FacesAfterRemoval.made_on_line, plane.specs.Point}

-- ---- what stood while the vertex lost its edges has its data when the vertex has gone
module _ {V D U F : Type 0} {pairs : List (ℕ × ℕ)} (old mid new : Contents V D U F)
    (before : IsMeshWithData old) (after : IsMeshWithData new) (v : ℕ) (value : V)
    (stands : StandsBeside old mid v pairs) (same : mid.vertices ≡ old.vertices)
    (drops : DropsVertex mid new v value) where
  last_is : length mid.vertices - 1 ≡ length old.vertices - 1
  last_is = ap (λ (vs : List V). length vs - 1) same

  edges_keep : (g : ℕ) → g < length old.directed → origin old.mesh g ≢ v → origin old.mesh (rev g)
      ≢ v → (h : ℕ) × HasDataOfEdge (state_of old) (state_of new) (length old.vertices - 1) v g h
  edges_keep g within starts ends =
      let x = edge_of old before g within in
      let off = ends_off old v g x.0 x.2 starts ends in
      let is = subst (λ (es : List (FullEdge D U)). Contains es
      (renumbered_edge (length mid.vertices - 1) v x.0)) (sym drops.edges)
      (contains_map (renumbered_edge (length mid.vertices - 1) v) (full_edges mid) x.0
      (stands.edges x.0 x.1 off.0 off.1)) in
      let found = same_edge_data old new (length mid.vertices - 1) v g is.0 x.0 x.2
      (edge_read new after is.0 (renumbered_edge (length mid.vertices - 1) v x.0) is.1 is.2) in (
        found.0,
        subst (λ (last : ℕ). HasDataOfEdge (state_of old) (state_of new) last v g found.0)
            last_is found.1,
      )

  faces_keep : (f : ℕ) (t : Triangle) → slice_get (triangles old.mesh) f ≡ Some t → t.first ≢ v
      → t.second ≢ v → t.third ≢ v
      → (g : ℕ) × HasDataOfFace (state_of old) (state_of new) (length old.vertices - 1) v f t g
  faces_keep f t listed a b c =
      let x = face_of old before f t listed in
      let corners : x.0.corners ≡ t = some_same (x.0.corners) t (sym x.2.corners ∙ listed) in
      let is = subst (λ (fs : List (FullFace F)). Contains fs
      (renumbered_face (length mid.vertices - 1) v x.0)) (sym drops.faces)
      (contains_map (renumbered_face (length mid.vertices - 1) v) (full_faces mid) x.0
      (stands.faces x.0 x.1 (λ q. a (sym (ap (λ (y : Triangle). y.first) corners) ∙ q))
      (λ q. b (sym (ap (λ (y : Triangle). y.second) corners) ∙ q))
      (λ q. c (sym (ap (λ (y : Triangle). y.third) corners) ∙ q)))) in (
        is.0,
        subst (λ (last : ℕ). HasDataOfFace (state_of old) (state_of new) last v f t is.0) last_is
            (same_face_data old new (length mid.vertices - 1) v f is.0 t x.0 corners x.2 (face_read
            new after is.0 (renumbered_face (length mid.vertices - 1) v x.0) is.1 is.2)),
      )
    where
      some_same : (p q : Triangle) → Some p ≡ Some q → p ≡ q
      some_same p q e = cc

  -- each edge beside the vertex is there, and no other, by the indexes afterwards
  pub renumbers : RenumbersEdges old new v
  renumbers = record {
    goes = λ e h a b. subst
        (λ (last : ℕ). Contains (full_edges new) (renumbered_edge last v e)) last_is
        (subst (λ (es : List (FullEdge D U)). Contains es
        (renumbered_edge (length mid.vertices - 1) v e)) (sym drops.edges)
        (contains_map (renumbered_edge (length mid.vertices - 1) v) (full_edges mid) e
        (stands.edges e h a b)));
    comes = λ e h. came e (contains_map_from (renumbered_edge (length mid.vertices - 1) v)
        (full_edges mid) e (subst (λ (es : List (FullEdge D U)). Contains es e) drops.edges h));
  }
    where
      came : (e : FullEdge D U) → (x : FullEdge D U) × Contains (full_edges mid) x
          × (renumbered_edge (length mid.vertices - 1) v x ≡ e)
          → ((x : FullEdge D U) × Contains (full_edges old) x
          × (renumbered_edge (length old.vertices - 1) v x ≡ e)) ⊎ HasValueAt old v e.value
      came e (x, there, is) = elim (stands.comes x there) [
        | inl was ↦ inl (x, was, subst (λ (last : ℕ). renumbered_edge last v x ≡ e) last_is is)
        | inr y ↦ inr (record {
          edge = y.edge;
          there = y.there;
          ends = y.ends;
          same = y.same ∙ ap (λ (z : FullEdge D U). z.value) is;
        })
      ]

  -- where the outer face has its data, all that is not at the vertex has them
  pub data_kept : mid.outer ≡ old.outer → KeepsDataBeside (state_of old) (state_of new) v
  data_kept outer = record {
    edges = edges_keep;
    faces = faces_keep;
    outer = ap (λ (c : Contents V D U F). c.outer) drops.contents ∙ outer;
  }

-- ---- a vertex of a line
module _ {V D U F : Type 0} {place : V → Point} {old new : Contents V D U F} {v : ℕ} {value : V}
    (kept : IsTriangulated place (state_of old)) (none : length old.faces ≡ 0)
    (after : IsMeshWithData new) (leaves : LeavesMesh old new v value) where
  before : IsMeshWithData old
  before = record { valid = kept.valid; fits = kept.fits }

  abbrev mid : Contents V D U F
  mid = leaves.between

  line_edges : (e : FullEdge D U) → Contains (full_edges old) e → e.source ≢ v → e.target ≢ v
      → Contains (full_edges mid) e
  line_edges e h a b = elim leaves.leaves.how as (λ _. Contains (full_edges mid) e) [
    | inl same ↦ subst (λ (c : Contents V D U F). Contains (full_edges c) e) (sym same) h
    | inr more ↦ elim more as (λ _. Contains (full_edges mid) e) [
      | inl one ↦ edges_stand old mid v (λ i. one.0) 1 one.2 e h a b
      | inr two ↦ joined_stand old mid v two.0 two.1 two.3 e h a b
    ]
  ]

  line_comes : (e : FullEdge D U) → Contains (full_edges mid) e
      → Contains (full_edges old) e ⊎ HasValueAt old v e.value
  line_comes e h =
      elim leaves.leaves.how as (λ _. Contains (full_edges old) e ⊎ HasValueAt old v e.value) [
        | inl same ↦ inl (subst (λ (c : Contents V D U F). Contains (full_edges c) e) same h)
        | inr more ↦ elim more as (λ _. Contains (full_edges old) e ⊎ HasValueAt old v e.value) [
          | inl one ↦ edges_come old mid v (λ i. one.0) 1 one.2 e h
          | inr two ↦ joined_comes old mid v two.0 two.1 two.3 e h
        ]
      ]

  line_stands : StandsBeside old mid v []
  line_stands = record {
    edges = line_edges;
    faces = λ f h a b c. absurd (let l = h.1 in let n = count_faces old.mesh old.faces
        kept.fits.faces_fit in let fit = kept.fits.faces_fit in omega (arith, l, n, fit, none));
    comes = line_comes;
    made = made_on_line mid v [] (faces_of old.mesh) leaves.whole
        (ap (λ (c : Contents V D U F). length c.faces) leaves.leaves.contents ∙ none);
  }

  -- what is not at a vertex that goes from a line has its data
  pub line_data_kept : KeepsDataBeside (state_of old) (state_of new) v
  line_data_kept = data_kept old mid new before after v value line_stands
      (ap (λ (c : Contents V D U F). c.vertices) leaves.leaves.contents) leaves.drops
      (ap (λ (c : Contents V D U F). c.outer) leaves.leaves.contents)

  -- and its edges are there, and no others, by the indexes afterwards
  pub line_renumbers : RenumbersEdges old new v
  line_renumbers = renumbers old mid new before after v value line_stands
      (ap (λ (c : Contents V D U F). c.vertices) leaves.leaves.contents) leaves.drops

-- ---- a vertex in the plane
-- a vertex loses its edges and goes: those beside it are there by the indexes afterwards
pub plane_renumbers : {V D U F : Type 0} {place : V → Point} {points : List Point}
    {pairs : List (ℕ × ℕ)} {old mid new : Contents V D U F} {v : ℕ} {value : V}
    → IsTriangulated place (state_of old) → IsTriangulated place (state_of new)
    → IsolatesVertex points old mid v pairs → DropsVertex mid new v value
    → RenumbersEdges old new v
plane_renumbers {old = old} {mid = mid} {new = new} {v = v} {value = value} before after isolates
    drops = renumbers old mid new (record { valid = before.valid; fits = before.fits })
    (record { valid = after.valid; fits = after.fits }) v value isolates.beside
    (same_vertices isolates) drops

-- the removal of a vertex of the plane keeps the data of edges and faces that are not at it
pub plane_data_kept : {V D U F : Type 0} {place : V → Point} {points : List Point}
    {pairs : List (ℕ × ℕ)} {old mid new : Contents V D U F} {v : ℕ} {value : V}
    → IsTriangulated place (state_of old) → IsTriangulated place (state_of new)
    → IsolatesVertex points old mid v pairs → DropsVertex mid new v value
    → KeepsDataBeside (state_of old) (state_of new) v
plane_data_kept {old = old} {mid = mid} {new = new} {v = v} {value = value} before after isolates
    drops = data_kept old mid new (record { valid = before.valid; fits = before.fits })
    (record { valid = after.valid; fits = after.fits }) v value isolates.beside
    (same_vertices isolates) drops (same_outer isolates)
