use Rattle.std.proofs.Common.{◌≡◌, ℕ, length, eqb, refl, sym, ap, ◌∙◌, inl, inr}
use Rattle.std.specs.Prelude.{◌↔◌, IsTrue}
use Rattle.std.proofs.lemmas.Bool.{eq-eqb, eqb-true}
use Rattle.std.proofs.lemmas.List.{nil_from_length}
use Rattle.plane.specs.{IsTiling, left, on, Triangulation, vertex}
use Rattle.plane_theorems.proofs.Delaunay.Circles.EmptyCircles.{no_face}
use Rattle.plane_theorems.proofs.Delaunay.Tilings.Ground.{tiling}
use Rattle.{delaunay_edit.proofs.Counts.count_of_faces, delaunay_interface.specs.Views.AreOnLine}
use Rattle.delaunay_interface.proofs.triangulation.Triangulation.all_vertices_on_line.Goals as goal

-- all vertices are on one line where there is no face, and nowhere else
line_by_faces : (t : Triangulation) → IsTiling t → (n : ℕ) → n ≡ length t.faces
    → IsTrue (eqb n 0) ↔ AreOnLine t
unfolding tiling
line_by_faces t (inl tiles) n count =
    let s = tiles.spread in
    let f = tiles.covering (vertex t s.0) ((tiling t tiles).vertex_in_hull s.0 s.3) in (
      (λ zero. absurd
          (no_face t (nil_from_length t.faces (sym count ∙ eqb-true n 0 zero)) f.0 f.1 f.2 f.3)),
      (λ line. let e : left ≡ on = sym s.6 ∙ line s.0 s.1 s.2 s.3 s.4 s.5 in cc),
    )
line_by_faces t (inr line) n count = (
  (λ _. line.straight),
  (λ _. eq-eqb n 0 (count ∙ rw line.no_face refl)),
)

pub returns : goal.returns
returns g c =
    let well = c.s.ensures.well_formed in
    line_by_faces _ well.headline.tiling _ (c.num_inner_faces.ensures.value
    ∙ ap (λ s. length s.faces) c.s.ensures.state ∙ count_of_faces _ _ well.kept)
