use Rattle.std.proofs.Common.{◌≡◌, ◌∙◌}
use Rattle.std.proofs.Common.{ℕ, ℤ, List, ap, sym, rules, SFits, w64, to_z, of_z, to_z-of_z}
use Rattle.std.specs.Prelude.{slice_get, Some}
use Rattle.delaunay_core.specs.{Point2}
use Rattle.{delaunay_edit.proofs.Removing.sites_left, triangulate_run.specs.position}
use Rattle.triangulate_run.proofs.shared.remove.Goals as goal

abbrev point_with : ℤ → ℤ → Point2 ℤ
point_with x y = record { x = x; y = y }

-- the coordinates that were read are those of the point
read_point : (vs : List (Point2 ℤ)) (i : ℕ) (p : Point2 ℤ) → SFits w64 p.x → SFits w64 p.y
    → slice_get vs i ≡ Some p
    → slice_get vs i ≡ Some (point_with (to_z w64 (of_z w64 p.x)) (to_z w64 (of_z w64 p.y)))
read_point vs i p x_fits y_fits e =
    e ∙ ap (λ (x : ℤ). Some (point_with x p.y)) (sym (to_z-of_z {w = w64} {z = p.x} x_fits))
    ∙ ap (λ (y : ℤ). Some (point_with (to_z w64 (of_z w64 p.x)) y))
    (sym (to_z-of_z {w = w64} {z = p.y} y_fits))

pub returns-in-Ok-clause-sites : goal.returns-in-Ok-clause-sites
returns-in-Ok-clause-sites g c =
    sites_left position g.T.Constraints.ConstraintMarker.constraints
    (g.T.Triangulation.state c.args.triangulation.now) (g.T.Triangulation.state c.remove.new.self) _
    c.in-Ok.point c.in-Ok.ensures.removes.plain
    (g.P.PlaneTests.sites c.args.tests.now) c.requires.sites

pub returns-in-Ok-clause-reply : goal.returns-in-Ok-clause-reply
returns-in-Ok-clause-reply g c =
    let vs = (g.T.Triangulation.state c.args.triangulation.now).vertices in
    let removes = c.in-Ok.ensures.removes in
    let x_fits : SFits w64 c.in-Ok.point.x = search rules in
    let y_fits : SFits w64 c.in-Ok.point.y = search rules in
    record {
      was = read_point vs c.args.index c.in-Ok.point x_fits y_fits
          (rw c.from_index-vertex.ensures at removes.value);
      removed = rw c.from_index-vertex.ensures at removes.plain;
    }
