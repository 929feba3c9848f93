-- Vertices of the Voronoi diagram, by faces and edges of the mesh.
use Rattle.std.specs.Prelude.{◌≡◌, ◌<◌, ◌==◌, ◌∷◌, [], if◌then◌else◌}
use Rattle.std.specs.Prelude.{ℕ, List, Option, Some, None, IfSome, All, map}
use Rattle.std.specs.Borrow.{Bor}
use Rattle.half_edge_links.specs.{face, face_edge, next, prev, rev}
use Rattle.half_edge_dcel.specs.{Contents, declared.face.FaceHandle.FaceHandle}
use Rattle.half_edge_mesh.specs.declared.voronoi.DirectedVoronoiEdge.{DirectedVoronoiEdge}
use Rattle.half_edge_mesh.specs.declared.voronoi.VoronoiVertex.{VoronoiVertex}
use Rattle.half_edge_mesh.specs.declared.voronoi.VoronoiVertex.TheVariants.{Inner, Outer}

module _ {V D U F : Type 0} where
  -- where the edge of the Voronoi diagram across edge e starts: at the inner face on the left of e,
  -- or far away
  abbrev pub IsVoronoiStart : Bor (Contents V D U F) → ℕ → VoronoiVertex V D U F → Type 0
  IsVoronoiStart dcel e (Inner f) =
      (f.dcel ≡ dcel) × (f.index ≡ face dcel.now.mesh e) × (0 < f.index)
  IsVoronoiStart dcel e (Outer v) =
      (v.edge.dcel ≡ dcel) × (v.edge.index ≡ e) × (face dcel.now.mesh e ≡ 0)

  -- where it starts and where it ends
  abbrev pub AreVoronoiEnds : Bor (Contents V D U F) → ℕ → List (VoronoiVertex V D U F) → Type 0
  AreVoronoiEnds dcel e (from ∷ to ∷ []) =
      IsVoronoiStart dcel e from × IsVoronoiStart dcel (rev e) to
  AreVoronoiEnds dcel e _ = ⊥

  -- the inner face of a vertex, if it has one
  abbrev pub inner_face : VoronoiVertex V D U F → Option (FaceHandle V D U F)
  inner_face (Inner f) = if f.index == 0 then None else Some f
  inner_face (Outer v) = None

  -- an edge goes out of the vertex of a face
  abbrev pub GoesOut : Option (FaceHandle V D U F) → DirectedVoronoiEdge V D U F → Type 0
  GoesOut f e =
      IfSome f (λ f. (e.edge.dcel ≡ f.dcel) × (e.edge.index ≡ face_edge f.dcel.now.mesh f.index))

  -- these edges are all that go out of it
  abbrev pub GoOut : Option (FaceHandle V D U F) → List (DirectedVoronoiEdge V D U F) → Type 0
  GoOut f es = IfSome f (λ f. let m = f.dcel.now.mesh in let e = face_edge m f.index in All
      (λ x. x.edge.dcel ≡ f.dcel) es × (map (λ x. x.edge.index) es ≡ e ∷ next m e ∷ prev m e ∷ []))
