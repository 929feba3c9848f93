use Rattle.std.proofs.Common.{◌≡◌, ◌∙◌, ℕ, zero, suc, refl, ap}
use Rattle.half_edge_dcel.specs.{Contents, with_face}
use Rattle.{delaunay_edit.specs.with_face_data, delaunay_interface.proofs.Kept.held_of_same}
use Rattle.delaunay_edit.proofs.OtherData.{counted_with_face, face_written}
use Rattle.delaunay_interface.proofs.shared_calls.TriangulationCoreTriangulation.face_data_mut.Goals as goal

-- other data of a face leave the vertices
same_vertices : {V D U F : Type 0} (c : Contents V D U F) (f : ℕ) (w : F)
    → (with_face c f w).vertices ≡ c.vertices
same_vertices c zero w = refl
same_vertices c (suc f) w = refl

pub invariant_of-self-lent : goal.invariant_of-self-lent
invariant_of-self-lent g c = λ w. (
  counted_with_face _ _ _ c.args.face w _ c.self.invariant.0,
  held_of_same g.V.HasPosition.place _ _ _ (same_vertices _ c.args.face w) c.self.invariant.1,
)

pub returns : goal.returns
returns g c = (
  (
    refl,
    λ w. face_written _ c.args.face w ∙ ap (λ s. with_face_data s c.args.face w) c.self.view_is,
  ),
  record {
    writes_back = tt;
    value = rw (← c.self.view_is) c.face_data_mut.ensures.value;
  },
)
