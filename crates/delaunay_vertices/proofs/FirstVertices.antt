-- The first two vertices of a mesh.
-- Lemmas: no_edges, first_gains, second_gains, few_are_legal.
use Rattle.std.proofs.Common.{◌≡◌, ◌+◌, ◌<◌, ◌≤◌, [], ◌∷◌, ◌++◌, ◌∙◌}
use Rattle.std.proofs.Common.{ℕ, List, length, map, refl, sym, ap, arith, length-append}
use Rattle.std.proofs.lemmas.List.{length-map, map-append}
use Rattle.half_edge_dcel.specs.{Contents, GrownData.AddsEdgeData, IsMeshWithData}
use Rattle.half_edge_dcel.specs.Shapes.{JoinsFirst}
use Rattle.delaunay_legalization.specs.{faces_of, IsApart, Legalizes, outer_of, state_of}
use Rattle.delaunay_legalization.proofs.{line_has_none, own_indexes}
use Rattle.{delaunay_vertices.specs.CanTake, delaunay_vertices.specs.GainsVertex, plane.specs.Point}
use Rattle.{delaunay_vertices.proofs.DataGrowing.grows_from_one, half_edge_links.specs.with_vertex}
use Rattle.delaunay_vertices.proofs.Growing.{edges_and_faces, few_on_line, first_shape, gains}
use Rattle.delaunay_vertices.proofs.Growing.{second_shape, sides_at_most}
use Rattle.delaunay_vertices.proofs.MadeFaces.{made_first, made_none}

module _ {V D U F : Type 0} {at : V → Point} {v : V} {k : ℕ} (old : Contents V D U F)
    (can : CanTake at v (state_of old)) (few : length (map at old.vertices) ≤ 1)
    (last : k ≡ length old.vertices) where
  abbrev HasOneMore : Contents V D U F → Type 0
  HasOneMore new =
      new ≡ record old { mesh = with_vertex old.mesh; vertices = old.vertices ++ v ∷ [] }

  counted : length old.vertices ≤ 1
  counted = omega (arith, few, length-map old.vertices at)

  -- one has no edge
  pub no_edges : 0 < k → length old.undirected ≡ 0
  no_edges some =
      let whole : IsMeshWithData old = record { valid = can.kept.valid; fits = can.kept.fits } in
      let same = edges_and_faces at old whole can.kept.shape (omega (arith, some, last)) in
      let sides = sides_at_most old whole in
      omega (arith, same, sides, counted)

  -- the first one
  pub first_gains : {new : Contents V D U F} → ¬ (0 < k) → HasOneMore new → IsMeshWithData new
      → GainsVertex at v (state_of old) (state_of new) k
  first_gains {new = new} none is whole =
      let kept = can.kept in
      let mesh = ap (λ d. d.mesh) is in
      gains old can (ap (λ d. d.vertices) is) whole last
      (first_shape _ _ old.mesh _ (omega (arith, none, last, length-map old.vertices at)) mesh
      kept.shape)
      (grows_from_one old new kept.valid kept.fits _ _ counted (ap (λ d. d.outer) is))
      (made_first old.mesh _ _ mesh)

  -- the second one, which is joined to the first
  pub second_gains : {DP : D → Type 0} {P : U → Type 0} {mid new : Contents V D U F} {i : ℕ}
      → 0 < k → IsApart (map at old.vertices) (at v) → HasOneMore mid → i ≡ 0
      → JoinsFirst mid.mesh new.mesh i k → AddsEdgeData DP P mid.vertices mid new
      → GainsVertex at v (state_of old) (state_of new) k
  second_gains {new = new} some apart is start links brings =
      let kept = can.kept in
      let places = length-map old.vertices at in
      gains old can (ap (λ d. d.vertices) brings.contents ∙ ap (λ d. d.vertices) is) brings.whole
      last
      (second_shape _ _ old.mesh new.mesh _ _ (omega (arith, few, some, last, places))
      kept.valid.sound (places ∙ kept.fits.vertices_fit) kept.shape apart start
      (last ∙ sym places) links.triangles (rw (ap (λ d. d.mesh) is) at links.outer))
      (grows_from_one old new kept.valid kept.fits _ _ counted
      (ap (λ d. d.outer) brings.contents ∙ ap (λ d. d.outer) is))
      (made_none old.mesh new.mesh _ links.triangles)

-- two vertices have no face, so that no edge is left to test
pub few_are_legal : {V D U F : Type 0} {at : V → Point} {constraints : List U → List ℕ}
    (old new : Contents V D U F) {v : V} {k flips : ℕ}
    → GainsVertex at v (state_of old) (state_of new) k → length (map at old.vertices) ≤ 1
    → Legalizes at constraints new new flips flips
few_are_legal {at = at} old new {v = v} takes few = record {
  contents = refl;
  legal = record {
    kept = takes.kept;
    passing = λ i j k n f. absurd (line_has_none new.mesh i j k
        (few_on_line (map at new.vertices) (faces_of new.mesh) (outer_of new.mesh)
        (omega (arith, few, one_more)) takes.kept.shape).0 f);
  };
  constraints = refl;
  counted = record { grows = omega arith; few = omega arith };
  indexes = own_indexes (map at new.vertices) new.mesh takes.kept.valid takes.kept.shape;
}
  where
    one_more : length (map at new.vertices) ≡ length (map at old.vertices) + 1
    one_more = ap (λ vs. length (map at vs)) takes.vertices
        ∙ ap length (map-append at old.vertices (v ∷ []))
        ∙ length-append (map at old.vertices) (at v ∷ [])
