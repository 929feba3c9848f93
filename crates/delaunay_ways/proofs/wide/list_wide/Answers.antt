use Rattle.std.proofs.Common.{◌∷◌, [], ◌++◌, ◌∙◌, Bool, List, ap, arith, false}
use Rattle.std.proofs.Common.{length, map, of_z, subst, to_z, w64}
use Rattle.std.specs.Prelude.{slice_index_or}
use Rattle.std.proofs.lemmas.Int.{to_z-of_z}
use Rattle.std.proofs.lemmas.List.{length-append}
use Rattle.delaunay_legalization.specs.{state_of, triangulation_of}
use Rattle.{delaunay_shapes.specs.by_place, delaunay_ways.proofs.FreeSides.face_count}
use Rattle.delaunay_ways.specs.{AreWide}
use Rattle.delaunay_ways.proofs.Heights.{wide_begins, wide_ends, wide_goes_on}
use Rattle.delaunay_ways.proofs.wide.list_wide.Goals as goal

pub loop-index-init : goal.loop-index-init
loop-index-init g c =
    let items = c.in_ok-push.ensures.items
    ∙ ap (λ (xs : List Bool). xs ++ false ∷ []) c.new-wide.ensures.items in (
      wide_begins (triangulation_of g.V.HasPosition.place (state_of c.args.dcel.now))
          (g.G.FreeFaces.free c.args.free.now) (to_z w64 (of_z w64 c.args.width_2))
          c.push.new.self.items items,
      ap (λ (xs : List Bool). length xs) items,
      omega arith,
    )

pub loop-index-preserved : goal.loop-index-preserved
loop-index-preserved g c =
    let t = triangulation_of g.V.HasPosition.place (state_of c.args.dcel.now) in
    let free = g.G.FreeFaces.free c.args.free.now in
    let face = c.from_index-face.result in
    let so_far = c.loop-index.invariant.1 in
    let inner = c.loop-index.invariant.2 in
    let is = c.from_index-face.ensures in
    let more = length-append c.loop-index.wide.items (c.is_wide_free-is_wide.result ∷ []) in
    let all = ap (λ (xs : List Bool). length xs) c.in_ok-push-2.ensures.items in (
      wide_goes_on t free (to_z w64 (of_z w64 c.args.width_2)) c.loop-index.wide.items
          c.push-in-loop-index.new.self.items face c.is_wide_free-is_wide.result
          c.loop-index.invariant.0 (omega (arith, is, so_far)) (omega (arith, is, inner))
          c.is_wide_free-is_wide.ensures
          c.in_ok-push-2.ensures.items,
      omega (arith, all, more, so_far),
      omega arith,
    )

pub returns : goal.returns
returns g c =
    let at = g.V.HasPosition.place in
    let dcel = c.args.dcel.now in
    let free = g.G.FreeFaces.free c.args.free.now in
    let fit = c.requires.kept.fits.faces_fit in
    let count = face_count (map at dcel.vertices) dcel.mesh c.requires.kept.valid free in
    let value = c.num_faces-index-end.ensures.value in
    let so_far = c.loop-index.invariant.1 in
    subst (λ w. AreWide (triangulation_of at (state_of dcel)) (by_place free) w
    (by_place (λ n. slice_index_or c.loop-index.wide.items n false)))
    (to_z-of_z w64 c.args.width_2 c.ranges.width_2)
    (wide_ends (triangulation_of at (state_of dcel)) free (to_z w64 (of_z w64 c.args.width_2))
    c.loop-index.wide.items c.loop-index.invariant.0
    (omega (
      arith,
      fit,
      count,
      value,
      so_far,
      c.loop-index.auto.index-end,
      c.loop-index-test.false,
    )))
