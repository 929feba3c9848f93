use Rattle.std.proofs.Common.{◌∙◌, ℕ, refl, sym, subst, inl, inr}
use Rattle.{delaunay_legalization.specs.triangulation_of, plane.specs.IsNearest, plane.specs.whole}
use Rattle.{c_calls.specs.kept_place, c_calls.specs.plain_point, delaunay_core.specs.place_of}
use Rattle.c_calls.proofs.queries.nearest_at.Goals as goal

pub returns-in-Some : goal.returns-in-Some
returns-in-Some c =
    let t = triangulation_of kept_place c.args.points.now in
    inr (subst (λ (i : ℕ). IsNearest t (whole (plain_point c.args.query.now)) i)
    (sym (c.index.ensures ∙ c.fix.ensures.value))
    (subst (λ p. IsNearest t (whole (place_of (λ z. z) p)) c.in-Some.vertex.index)
    c.point_of.ensures c.in-Some.ensures.1))

pub returns-in-None : goal.returns-in-None
returns-in-None c = inl (refl, c.in-None.ensures)
