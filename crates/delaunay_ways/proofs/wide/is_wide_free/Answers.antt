use Rattle.std.proofs.Common.{◌↔◌, ◌-◌, ◌∙◌, IsTrue, subst, sym, w64}
use Rattle.std.proofs.lemmas.Int.{to_z-of_z}
use Rattle.delaunay_legalization.specs.{state_of, triangulation_of}
use Rattle.{delaunay_ways.proofs.Heights.none_told, delaunay_ways.specs.Widths.IsWide}
use Rattle.delaunay_ways.proofs.wide.is_wide_free.Goals as goal

pub returns-then-not-is_free : goal.returns-then-not-is_free
returns-then-not-is_free g c =
    none_told c.is_free.result (λ both. both.0)
    (λ h. sym c.is_free.ensures ∙ h, λ h. c.is_free.ensures ∙ h) c.if-not-is_free.true

pub returns : goal.returns
returns g c =
    let t = triangulation_of g.V.HasPosition.place (state_of c.args.dcel.now) in
    let wide = subst (λ w. IsTrue c.is_wide.result ↔ IsWide t w (c.args.face - 1))
    (to_z-of_z w64 c.args.width_2 c.ranges.width_2) c.is_wide.ensures in (
      λ h. (sym c.is_free.ensures ∙ c.if-not-is_free.false, wide.0 h),
      λ h. wide.1 h.1,
    )
