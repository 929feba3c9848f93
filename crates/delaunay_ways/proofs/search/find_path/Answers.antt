use Rattle.std.proofs.Common.{◌<◌, ◌≤◌, ◌∙◌, ◌++◌, ◌∷◌, [], ℕ, false, true, length, ap, set}
use Rattle.std.proofs.Common.{subst, sym, arith}
use Rattle.std.specs.Prelude.{All, replicate}
use Rattle.std.specs.BinaryHeap.{heap_items}
use Rattle.std.proofs.lemmas.List.{length-map}
use Rattle.delaunay_legalization.specs.{state_of, triangulation_of}
use Rattle.{delaunay_legalization.proofs.both_ways, delaunay_shapes.specs.by_place}
use Rattle.delaunay_ways.specs.{AreSteps, Begins, count_unmarked, IsStep, Spreads}
use Rattle.delaunay_ways.proofs.Searching.{fewer_unmarked, found_step, lead_fits, search_begins}
use Rattle.delaunay_ways.proofs.Searching.{search_ends, search_moves}
use Rattle.delaunay_ways.proofs.search.find_path.Goals as goal

pub loop-lead-init : goal.loop-lead-init
loop-lead-init g c =
    let size = sym (length-map c.args.dcel.now.vertices g.V.HasPosition.place) in
    search_begins c.args.last.now
    (triangulation_of g.V.HasPosition.place (state_of c.args.dcel.now))
    (by_place (g.G.FreeFaces.free c.args.free.now)) c.args.first.now _ _ _
    (subst (λ (n : ℕ). All (λ v. v < n) c.args.last.now) size c.requires.last)
    (c.in_ok-search.ensures.marks ∙ ap (λ (n : ℕ). replicate n false) size)
    c.in_ok-search.ensures.steps
    (subst (λ (n : ℕ). Begins c.args.last.now n (heap_items c.in_ok-search.search.leads))
    (sym c.told-last) c.in_ok-search.ensures.leads)

pub next-requires : goal.next-requires
next-requires g c = lead_fits _ _ _ _ _ _ _ c.loop-lead.invariant

pub read_path-requires-clause-within : goal.read_path-requires-clause-within
read_path-requires-clause-within g c =
    let list = c.deref.ensures.value ∙ ap (λ v. v.items) c.next.ensures.steps in
    let found = found_step _ _ _ _ _ _ _ c.loop-lead.invariant c.in-Some.lead _
    c.in-Some.ensures.takes in
    subst (λ xs. c.in-Some.lead.before ≤ length xs) (sym list) found.within

pub returns-then-is_among : goal.returns-then-is_among
returns-then-is_among g c =
    let t = triangulation_of g.V.HasPosition.place (state_of c.args.dcel.now) in
    let free = by_place (g.G.FreeFaces.free c.args.free.now) in
    let list = c.deref.ensures.value ∙ ap (λ v. v.items) c.next.ensures.steps in
    let found = found_step _ _ _ _ _ _ _ c.loop-lead.invariant c.in-Some.lead _
    c.in-Some.ensures.takes in
    c.in_ok-path.ensures t free c.args.first.now c.args.last.now
    (subst (AreSteps t free c.args.last.now) (sym list) c.loop-lead.invariant.steps_are)
    (subst (λ xs. IsStep t free c.args.last.now xs c.in-Some.lead.vertex c.in-Some.lead.before)
    (sym list) found) (c.is_among.ensures.0 c.if-is_among.true)

pub reach-requires : goal.reach-requires
reach-requires g c =
    subst (λ v. c.in-Some.lead.vertex < length v.items) (sym c.next.ensures.marks)
    (lead_fits _ _ _ _ _ _ _ c.loop-lead.invariant c.in-Some.lead c.in-Some.ensures.takes.was)

pub spread-requires-clause-exists : goal.spread-requires-clause-exists
spread-requires-clause-exists g c =
    let found = (found_step _ _ _ _ _ _ _ c.loop-lead.invariant c.in-Some.lead _
    c.in-Some.ensures.takes).exists in
    let size = length-map c.args.dcel.now.vertices g.V.HasPosition.place in
    let is = c.from_index-vertex.ensures in
    omega (arith, found, size, is)

pub loop-lead-preserved : goal.loop-lead-preserved
loop-lead-preserved g c =
    let t = triangulation_of g.V.HasPosition.place (state_of c.args.dcel.now) in
    let free = by_place (g.G.FreeFaces.free c.args.free.now) in
    search_moves _ _ _ _ _ _ _ c.loop-lead.invariant c.in-Some.lead
    (heap_items c.next.new.self.leads) c.in-Some.ensures.takes
    (λ i. both_ways _ (c.is_among.ensures.1 i) c.if-is_among.false) c.from_index-vertex.result _ _
    (heap_items c.reach.new.self.leads) _ c.from_index-vertex.ensures
    (ap (λ v. v.items) c.spread.ensures.marks ∙ c.in_ok-reach.ensures.marks
    ∙ ap (λ v. set v.items c.in-Some.lead.vertex true) c.next.ensures.marks)
    (ap (λ v. v.items) c.spread.ensures.steps ∙ c.in_ok-reach.ensures.steps
    ∙ ap (λ v. v.items
    ++ (record { vertex = c.in-Some.lead.vertex; before = c.in-Some.lead.before }) ∷ [])
    c.next.ensures.steps)
    (ap heap_items c.reach.ensures.leads)
    (subst (λ v. Spreads t free c.from_index-vertex.result (length v.items)
    (heap_items c.reach.new.self.leads) (heap_items c.spread.new.self.leads))
    (sym c.spread.ensures.steps) c.in_ok-spread.ensures.leads)

pub loop-lead-smaller : goal.loop-lead-smaller
loop-lead-smaller g c =
    let fits = lead_fits _ _ _ _ _ _ _ c.loop-lead.invariant c.in-Some.lead
    c.in-Some.ensures.takes.was in
    subst (λ ms. count_unmarked ms < count_unmarked c.loop-lead.search.marks.items)
    (sym (ap (λ v. v.items) c.spread.ensures.marks ∙ c.in_ok-reach.ensures.marks
    ∙ ap (λ v. set v.items c.in-Some.lead.vertex true) c.next.ensures.marks))
    (fewer_unmarked c.loop-lead.search.marks.items c.in-Some.lead.vertex fits
    c.in-Some.ensures.takes.unmarked)

pub returns : goal.returns
returns g c = search_ends _ _ _ _ _ _ _ c.loop-lead.invariant c.in_default.ensures.takes
