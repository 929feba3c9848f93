-- The edges of the hull that an iterator along the outline gives.
-- Lemmas: gives_outline.
use Rattle.std.proofs.Common.{◌≡◌, ◌<◌, ◌∙◌}
use Rattle.std.proofs.Common.{ℕ, List, length, map, inl, inr, refl, sym, subst, arith}
use Rattle.std.specs.Borrow.{Bor}
use Rattle.plane.specs.{IsOuter, IsTiling, IsVertex, left, on, Point, Triangulation, TurnsLeft}
use Rattle.half_edge_links.specs.{face, IsOuterEdge, origin, rev}
use Rattle.plane_theorems.proofs.Delaunay.Tilings.Ground.{tiling}
use Rattle.plane_theorems.proofs.Delaunay.Tilings.OuterEdges.{hull_not_left_of_outer}
use Rattle.{half_edge_dcel.specs.Contents, half_edge_dcel.specs.GivesOuterLoop, plane.specs.vertex}
use Rattle.delaunay_legalization.specs.{IsTriangulated, State.State, state_of, triangulation_of}
use Rattle.delaunay_legalization.proofs.{edge_joins, listed, one_outline, outer_bare}
use Rattle.delaunay_legalization.proofs.OutlineGiven.{outline_given}
use Rattle.delaunay_interface.specs.Views.{GivesOutline}

-- no vertex is on the left of an outer edge
none_left : (t : Triangulation) → IsTiling t → (i j : ℕ) → IsOuter t i j → (k : ℕ) → IsVertex t k
    → ¬ TurnsLeft (vertex t i) (vertex t j) (vertex t k)
unfolding tiling
none_left t (inl tiles) i j outer k w =
    hull_not_left_of_outer t tiles i j (vertex t k) outer ((tiling t tiles).vertex_in_hull k w)
none_left t (inr line) i j outer k w =
    let ends = (line.neighbours i j).0 outer.0 in
    let straight = line.straight i j k ends.first ends.second w in
    λ turns. not_both (sym turns ∙ straight)
  where
    not_both : left ≡ on → ⊥
    not_both e = cc

module _ {V D U F : Type 0} (at : V → Point) where
  -- an edge beside the outer face is an outer edge of the triangulation
  is_outer : (s : State V D U F) → IsTriangulated at s → (h : ℕ) → h < length s.mesh.half_edges
      → face s.mesh h ≡ 0
      → IsOuter (triangulation_of at s) (origin s.mesh h) (origin s.mesh (rev h))
  is_outer s kept h w out =
      let edge : IsOuterEdge s.mesh h (origin s.mesh h) (origin s.mesh (rev h)) =
      record { within = w; outer = out; source = refl; target = refl } in
      let here = listed s.mesh h (origin s.mesh h) (origin s.mesh (rev h)) edge in (
        edge_joins s.mesh kept.valid.sound h w,
        outer_bare (map at s.vertices) s.mesh (origin s.mesh h)
            (origin s.mesh (rev h)) kept.shape here,
      )

  outline_at : (d : Bor (Contents V D U F)) (given : List (Bor (Contents V D U F) × ℕ)) →
      IsTriangulated at (state_of d.now)
      → IsTiling (triangulation_of at (state_of d.now)) → GivesOuterLoop d given →
      GivesOutline at (state_of d.now) given
  outline_at d given kept tiles gives =
      let one = one_outline (map at d.now.vertices) d.now.mesh kept.valid kept.shape in
      let g = outline_given d given kept.valid one gives in
      let directed = kept.fits.directed_fit in
      record {
        mesh = d;
        state = refl;
        edges = g.0;
        listed = g.1;
        once = g.2.once;
        exact = λ h. (
          (λ c. let o = g.2.within h c in let w = o.0 in (omega (arith, w, directed), o.1)),
          (λ o. let w = o.0 in g.2.all h (omega (arith, w, directed), o.1)),
        );
        outer = λ h c. let o = g.2.within h c in is_outer (state_of d.now) kept h o.0 o.1;
        clockwise = λ h c.
            let o = g.2.within h c in
            let m = d.now.mesh in
            none_left (triangulation_of at (state_of d.now)) tiles (origin m h) (origin m (rev h))
            (is_outer (state_of d.now) kept h o.0 o.1);
        after = g.2.after;
      }

  -- the outline of a triangulation
  pub gives_outline : (s : State V D U F) → IsTriangulated at s → IsTiling (triangulation_of at s) →
      (d : Bor (Contents V D U F))
      → state_of d.now ≡ s → (given : List (Bor (Contents V D U F) × ℕ)) → GivesOuterLoop d given →
      GivesOutline at s given
  gives_outline s kept tiles d same given gives =
      subst (λ s. GivesOutline at s given) same
      (outline_at d given (subst (IsTriangulated at) (sym same) kept)
      (subst (λ s. IsTiling (triangulation_of at s)) (sym same) tiles) gives)
