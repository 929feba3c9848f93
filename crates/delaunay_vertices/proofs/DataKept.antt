-- Data that stay where they are while a triangulation grows and edges are turned belong to what
-- stands before and after.
-- Lemmas: data_kept, overwritten_keeps, appended_keeps.
use Rattle.std.proofs.Common.{◌≡◌, ◌/◌, ◌<◌, [], ◌∷◌, ◌++◌, ◌∙◌}
use Rattle.std.proofs.Common.{ℕ, List, length, map, get_or, sym, ap, subst, Some, inl, inr, arith}
use Rattle.std.specs.Prelude.{slice_get}
use Rattle.std.proofs.lemmas.List.{length-map}
use Rattle.std.proofs.lemmas.Option.{slice_get_within, slice_get-get_or}
use Rattle.plane.specs.{Fraction, InTriangle, IsEdge, Joins, place, Point}
use Rattle.half_edge_links.specs.{origin, rev, Triangle, triangles}
use Rattle.plane_theorems.specs.{IsFaceOf}
use Rattle.delaunay_legalization.specs.{drawn, edges_of, faces_of, GoSameDirection, HaveSameCorners}
use Rattle.delaunay_legalization.specs.{IsTriangulated, KeepsIndexes, State.State, state_of}
use Rattle.delaunay_legalization.proofs.{edge_joins, face_there, laid_out_tiles, own_indexes}
use Rattle.delaunay_legalization.proofs.{Entries.some_entry, MeshStays.turned_back}
use Rattle.{delaunay_legalization.proofs.MeshParts.no_side, half_edge_dcel.specs.Contents}
use Rattle.delaunay_vertices.specs.{GainsVertex, GrowsAround, KeepsData}
use Rattle.delaunay_vertices.specs.Data.{IsInCorners, KeepsEdge}
use Rattle.delaunay_vertices.proofs.NewVertex.{is_vertex, not_within, place_last, place_stays}
use Rattle.delaunay_vertices.proofs.NewVertex.{source_in, target_in}

-- the mesh and all data stay
data_same : {V D U F : Type 0} (at : V → Point) (old new : State V D U F) → IsTriangulated at old
    → new ≡ record old { vertices = new.vertices } → KeepsData old new
data_same at old new kept same = record {
  directed = λ g h v w x. ap (λ s. slice_get s.directed h) same
      ∙ ap (slice_get old.directed) (one g h v w x);
  undirected = λ g h v w x. ap (λ s. slice_get s.undirected (h / 2)) same
      ∙ ap (λ (k : ℕ). slice_get old.undirected (k / 2)) (one g h v w x);
  faces = λ f g t u p q x. ap (λ s. slice_get s.faces g) same ∙ ap (slice_get old.faces)
      (indexes.faces f g t u p (ap (λ m. slice_get (triangles m) g) (sym mesh) ∙ q) x);
  outer = ap (λ s. s.outer) same;
}
  where
    mesh : new.mesh ≡ old.mesh
    mesh = ap (λ s. s.mesh) same

    indexes : KeepsIndexes old.mesh old.mesh
    indexes = own_indexes (map at old.vertices) old.mesh kept.valid kept.shape

    count : length old.directed ≡ length old.mesh.half_edges
    count = kept.fits.directed_fit

    one : (g h : ℕ) → g < length old.directed → h < length new.directed
        → GoSameDirection old.mesh g new.mesh h → h ≡ g
    one g h v w x = indexes.edges g h (subst (λ n. g < n) count v) (subst (λ n. h < n)
        (ap (λ s. length s.directed) same ∙ count) w) (subst (λ m. GoSameDirection old.mesh g m h)
        mesh x)

module _ {V D U F : Type 0} (at : V → Point) (v : V) (old mid new : State V D U F)
    (was : IsTriangulated at old) (now : IsTriangulated at new) (vertices : new.vertices
    ≡ old.vertices ++ v ∷ []) (fits : length mid.directed ≡ length mid.mesh.half_edges)
    (grows : GrowsAround (map at old.vertices) (at v) old mid)
    (same : new ≡ record mid { mesh = new.mesh }) (indexes : KeepsIndexes mid.mesh new.mesh) where
  abbrev before : List Point
  before = map at old.vertices

  abbrev after : List Point
  after = map at new.vertices

  data_edges : (g h : ℕ) → g < length old.directed → h < length new.directed
      → GoSameDirection old.mesh g new.mesh h → KeepsEdge old mid g × (h ≡ g)
  data_edges g h w x way = elim (grows.edges g w) [
    | inl k ↦ (k, indexes.edges g h (still k) there (way.0 ∙ sym k.ends.0, way.1 ∙ sym k.ends.1))
    | inr inside ↦ absurd (not_within at v old new was now vertices (origin old.mesh g)
        (origin old.mesh (rev g)) (source_in at v old new was now vertices g w) (target_in at v old
        new was now vertices g w) (stands (edge_joins new.mesh now.valid.sound h there)) inside)
  ]
    where
      there : h < length new.mesh.half_edges
      there = subst (λ n. h < n) now.fits.directed_fit x

      still : KeepsEdge old mid g → g < length mid.mesh.half_edges
      still k = let some = slice_get-get_or old.directed g (some_entry old.directed g w) w in
          subst (λ n. g < n) fits (slice_get_within mid.directed g
          (get_or old.directed g (some_entry old.directed g w)) (k.directed ∙ some))

      stands : Joins (edges_of new.mesh) (origin new.mesh h) (origin new.mesh (rev h))
          → IsEdge (drawn after new.mesh) (origin old.mesh g) (origin old.mesh (rev g))
      stands j =
          subst (λ (x : ℕ × ℕ). Joins (edges_of new.mesh) x.0 x.1) (λ o. (way.0 o, way.1 o)) j

  -- a face that stands afterwards does not have it in
  not_in_face : (f : ℕ) (t u : Triangle) (g : ℕ) → slice_get (triangles old.mesh) f ≡ Some t
      → slice_get (triangles new.mesh) g ≡ Some u → HaveSameCorners t u
      → ¬ IsInCorners before (at v) t
  not_in_face f t u g p q corners inside =
      elim (laid_out_tiles after new.mesh now.valid now.shape) as (λ _. ⊥) [
        | inr line ↦ no_side after new.mesh t.first t.second line.no_face (t.third, listed)
        | inl tiling ↦ elim (tiling.empty t.first t.second t.third (length old.vertices) listed
            (is_vertex at v old new was now vertices) moved) as (λ _. ⊥) [
              | inl e ↦ differs t.first bounds.0 e
              | inr r ↦ elim r as
                  (λ _. ⊥)
                  [ inl e ↦ differs t.second bounds.1 e | inr e ↦ differs t.third bounds.2 e ]
            ]
      ]
    where
      listed : IsFaceOf (faces_of new.mesh) t.first t.second t.third
      listed = turned_back new.mesh t u corners (face_there new.mesh g u q)

      counted : length (map at old.vertices) ≡ length old.vertices
      counted = length-map old.vertices at

      below : (i : ℕ) → i < length (map at old.vertices) → i < length old.vertices
      below i l = omega (arith, l, counted)

      differs : (i : ℕ) → i < length old.vertices → ¬ (length old.vertices ≡ i)
      differs i l e = omega (arith, l, e)

      bounds : (t.first < length old.vertices) × (t.second < length old.vertices)
          × (t.third < length old.vertices)
      bounds = elim (laid_out_tiles (map at old.vertices) old.mesh was.valid was.shape) [
        | inr line ↦ absurd (no_side (map at old.vertices) old.mesh t.first t.second line.no_face
            (t.third, face_there old.mesh f t p))
        | inl tiling ↦ let b =
            tiling.corners t.first t.second t.third (face_there old.mesh f t p) in
            (below t.first b.0, below t.second b.1, below t.third b.2)
      ]

      moved : InTriangle (place after t.first) (place after t.second) (place after t.third)
          (place after (length old.vertices))
      moved = subst (λ (x : Fraction × Fraction × Fraction × Fraction). InTriangle x.0 x.1 x.2 x.3)
          (λ o. (
            place_stays at v old new was now vertices t.first bounds.0 o,
            place_stays at v old new was now vertices t.second bounds.1 o,
            place_stays at v old new
                was now vertices t.third bounds.2 o,
            place_last at v old new was now vertices o,
          )) inside

  -- all that stands before and after has the data that it had
  pub data_kept : KeepsData old new
  data_kept = record {
    directed = λ g h w x way. let d = data_edges g h w x way in
        ap (λ s. slice_get s.directed h) same ∙ ap (slice_get mid.directed) d.1 ∙ d.0.directed;
    undirected = λ g h w x way. let d = data_edges g h w x way in
        ap (λ s. slice_get s.undirected (h / 2)) same
        ∙ ap (λ (k : ℕ). slice_get mid.undirected (k / 2)) d.1 ∙ d.0.undirected;
    faces = λ f g t u p q corners. elim (grows.faces f t p) [
      | inl k ↦ ap (λ s. slice_get s.faces g) same
          ∙ ap (slice_get mid.faces) (indexes.faces f g t u (k.corners ∙ p) q corners) ∙ k.value
      | inr inside ↦ absurd (not_in_face f t u g p q corners inside)
    ];
    outer = ap (λ s. s.outer) same ∙ grows.outer;
  }

-- a vertex was put in the place of another
pub overwritten_keeps :
    {V D U F : Type 0} (at : V → Point) (old new : State V D U F) (vertices : List V)
    → IsTriangulated at old → new ≡ record old { vertices = vertices } → KeepsData old new
overwritten_keeps at old new vertices kept same = data_same at old new kept
    (same ∙ ap (λ vs. record old { vertices = vs }) (sym (ap (λ s. s.vertices) same)))

-- a vertex was put in, and edges were turned
pub appended_keeps : {V D U F : Type 0} {at : V → Point} {v : V} {vertex : ℕ}
    (old mid new : Contents V D U F) → IsTriangulated at (state_of old)
    → GainsVertex at v (state_of old) (state_of mid) vertex → new ≡ record mid { mesh = new.mesh }
    → KeepsIndexes mid.mesh new.mesh → IsTriangulated at (state_of new)
    → KeepsData (state_of old) (state_of new)
appended_keeps old mid new was takes contents indexes now =
    data_kept _ _ (state_of old) (state_of mid) (state_of new) was now
    (ap (λ c. c.vertices) contents ∙ takes.vertices) takes.kept.fits.directed_fit takes.grows
    (ap state_of contents) indexes
