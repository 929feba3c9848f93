-- Where a vertex was put into a triangulation whose circles are empty, the circles round it are
-- empty.
-- Lemmas: face_stays_or_contains, grown_is_empty.
use Rattle.std.proofs.Common.{◌≡◌, ◌⊎◌, ◌<◌, [], ◌∷◌, ◌++◌, ◌∙◌}
use Rattle.std.proofs.Common.{ℕ, List, length, map, Some, sym, ap, subst, inl, inr}
use Rattle.std.proofs.Common.{arith}
use Rattle.std.specs.Prelude.{Contains, slice_get}
use Rattle.std.proofs.lemmas.List.{length-map, map-append}
use Rattle.std.proofs.lemmas.Option.{slice_get-get_or}
use Rattle.plane.specs.{Face, InsideCircle, InTriangle, place, Point, whole}
use Rattle.plane.proofs.Triangles.{turned_in}
use Rattle.half_edge_links.specs.{Triangle, triangles}
use Rattle.plane_theorems.specs.{IsEmptyRound, IsFaceOf, IsMesh}
use Rattle.plane_theorems.proofs.{Edits.Legalization.NewPoint.put_in_is_empty, turn_of_all}
use Rattle.delaunay_legalization.specs.{corners_of, faces_of, IsTriangulated, MakesFacesAt}
use Rattle.{delaunay_legalization.specs.outer_of, delaunay_vertices.proofs.MadeFaces.made_at_count}
use Rattle.{delaunay_legalization.specs.State.State, delaunay_vertices.specs.GainsVertex}
use Rattle.delaunay_legalization.proofs.{contains_map_from, face_there, turned_faces}

module _ {V D U F : Type 0} (at : V → Point) (v : V) (old new : State V D U F) (vertex : ℕ)
    (takes : GainsVertex at v old new vertex) where
  abbrev before : List Point
  before = map at old.vertices

  -- the face i j k stays, or the new vertex is in it
  abbrev StaysOrContains : ℕ → ℕ → ℕ → Type 0
  StaysOrContains i j k =
      IsFaceOf (faces_of new.mesh) i j k
      ⊎ InTriangle (place before i) (place before j) (place before k) (whole (at v))

  turned_stays : (i j k : ℕ) → StaysOrContains i j k → StaysOrContains j k i
  turned_stays i j k (inl f) = inl (turned_faces (faces_of new.mesh) i j k f)
  turned_stays i j k (inr h) =
      inr (turned_in (place before i) (place before j) (place before k) (whole (at v)) h)

  triangle_stays : (t : Triangle) → Contains (triangles old.mesh) t
      → StaysOrContains t.first t.second t.third
  triangle_stays t c = elim (takes.grows.faces c.0 t here) [
    | inl k ↦ inl (face_there new.mesh c.0 t (k.corners ∙ here))
    | inr h ↦ inr h
  ]
    where
      here : slice_get (triangles old.mesh) c.0 ≡ Some t
      here = slice_get-get_or (triangles old.mesh) c.0 t c.1 ∙ ap Some c.2

  listed_stays : (f : Face) → Contains (faces_of old.mesh) f → StaysOrContains f.a f.b f.c
  listed_stays f c =
      let r = contains_map_from corners_of (triangles old.mesh) f c in
      subst (λ (g : Face). StaysOrContains g.a g.b g.c) r.2 (triangle_stays r.0 r.1)

  -- each face of before stays, or has the new vertex in it
  pub face_stays_or_contains : (i j k : ℕ) → IsFaceOf (faces_of old.mesh) i j k
      → IsFaceOf (faces_of new.mesh) i j k
      ⊎ InTriangle (place before i) (place before j) (place before k) (whole (at v))
  face_stays_or_contains = turn_of_all (faces_of old.mesh) StaysOrContains turned_stays listed_stays

-- where all circles were empty, the circles round the new vertex are
pub grown_is_empty : {V D U F : Type 0} (at : V → Point) (v : V) (old new : State V D U F)
    (vertex : ℕ) → IsTriangulated at old → GainsVertex at v old new vertex
    → ((i j k n : ℕ) → IsFaceOf (faces_of old.mesh) i j k → n < length old.vertices
    → ¬ InsideCircle (place (map at old.vertices) i) (place (map at old.vertices) j)
    (place (map at old.vertices) k) (place (map at old.vertices) n))
    → IsEmptyRound (map at new.vertices) (faces_of new.mesh) (length old.vertices)
grown_is_empty at v old new vertex was takes empty =
    subst (λ (x : List Point × ℕ). IsEmptyRound x.0 (faces_of new.mesh) x.1)
    (λ o. (sym points o, counted o))
    (put_in_is_empty before (at v) (faces_of old.mesh) (faces_of new.mesh) (outer_of old.mesh)
    (outer_of new.mesh)
    was.shape (subst (λ (ps : List Point). IsMesh ps (faces_of new.mesh) (outer_of new.mesh)) points
    takes.kept.shape)
    made.each made.sides (face_stays_or_contains at v old new vertex takes)
    (λ i j k n f h. empty i j k n f (omega (arith, h, counted))))
  where
    before : List Point
    before = map at old.vertices

    points : map at new.vertices ≡ before ++ at v ∷ []
    points = ap (map at) takes.vertices ∙ map-append at old.vertices (v ∷ [])

    counted : length before ≡ length old.vertices
    counted = length-map old.vertices at

    made : MakesFacesAt (length before) (faces_of old.mesh) (outer_of old.mesh) (faces_of new.mesh)
    made = made_at_count _ _ _ (length old.vertices) (length before) (sym counted) takes.made
