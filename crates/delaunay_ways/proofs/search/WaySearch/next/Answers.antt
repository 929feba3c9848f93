use Rattle.std.proofs.Common.{◌<◌, length, arith, ap, sym, subst, false}
use Rattle.std.proofs.lemmas.List.{get_or_read}
use Rattle.delaunay_ways.proofs.Searching.{lead_passed, passes_marked, takes_first}
use Rattle.delaunay_ways.proofs.search.WaySearch.next.Goals as goal

pub index-requires : goal.index-requires
index-requires c =
    let at = lead_passed _ _ _ _ _ c.loop-lead.invariant.2 c.in-Some.ensures.permutation in
    let within = c.requires c.in-Some.lead at in
    let same = ap (λ m. length m.items) c.loop-lead.invariant.0 in
    let fits = c.loop-lead.self.marks.ok.0 in
    omega (arith, within, same, fits)

pub returns-then-not-index-clause-takes : goal.returns-then-not-index-clause-takes
returns-then-not-index-clause-takes c =
    takes_first _ _ _ _ _ c.loop-lead.invariant.2 c.in-Some.ensures.permutation
    (let at = lead_passed _ _ _ _ _ c.loop-lead.invariant.2 c.in-Some.ensures.permutation in
    let within = c.requires c.in-Some.lead at in
    let same = c.loop-lead.invariant.0 in
    let reads = get_or_read c.loop-lead.self.marks.items _ _
    (subst (λ m. c.in-Some.lead.vertex < length m.items) (sym same) within) c.index.ensures false in
    λ m. let off = c.if-not-index.true in let on = ap (λ x. x.items) same in cc)

pub loop-lead-preserved : goal.loop-lead-preserved
loop-lead-preserved c = (
  c.loop-lead.invariant.0,
  c.loop-lead.invariant.1,
  passes_marked _ _ _ _ _ c.loop-lead.invariant.2 c.in-Some.ensures.permutation
      (let at = lead_passed _ _ _ _ _ c.loop-lead.invariant.2 c.in-Some.ensures.permutation in
      let within = c.requires c.in-Some.lead at in
      let same = c.loop-lead.invariant.0 in
      let reads = get_or_read c.loop-lead.self.marks.items _ _
      (subst (λ m. c.in-Some.lead.vertex < length m.items) (sym same) within) c.index.ensures false
      in
      let on = c.if-not-index.false in let it = ap (λ x. x.items) same in cc),
)
