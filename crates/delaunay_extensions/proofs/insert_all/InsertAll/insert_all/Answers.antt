use Rattle.std.proofs.Common.{◌≡◌, ◌∙◌, ap, arith, inl, length, refl, subst}
use Rattle.std.specs.Prelude.{All, Err}
use Rattle.std.proofs.lemmas.Result.{err_from_is_err_and}
use Rattle.plane.specs.{InRange}
use Rattle.{delaunay_core.specs.InsertionError, delaunay_extensions.proofs.Turns.inserting_stops}
use Rattle.delaunay_extensions.specs.{BulkInsertionError, IsFirstOutside}
use Rattle.delaunay_extensions.proofs.Refusals.{few_by_reserve, not_refused, refused_for_memory}
use Rattle.delaunay_extensions.proofs.Refusals.{refused_for_room, refused_outside}
use Rattle.delaunay_extensions.proofs.Turns.{inserting_begins, inserting_ends, inserting_goes_on}
use Rattle.delaunay_extensions.proofs.Turns.{inserting_has_place, inserting_refuses}
use Rattle.delaunay_extensions.proofs.insert_all.InsertAll.insert_all.Goals as goal

pub vertices-init : goal.vertices-init
vertices-init g c = inserting_begins c.in-Ok.ensures (c.in-Ok-new.ensures ∙ c.len-2.ensures)
    c.requires.sites c.requires.new_sites c.reserve.ensures.same

pub returns-in-Some-clause-refuses : goal.returns-in-Some-clause-refuses
returns-in-Some-clause-refuses g c =
    let first = subst
    (λ vs. IsFirstOutside g.Self.Vertex.HasPosition.place vs c.in-Some.place)
    c.as_slice.ensures.value c.in-Some.ensures in
    refused_outside _ _ _ _ c.in-Some.place first refl

pub returns-in-Err-clause-stops : goal.returns-in-Err-clause-stops
returns-in-Err-clause-stops g c =
    let inside = subst (All (λ v. InRange (g.Self.Vertex.HasPosition.place v)))
    c.as_slice.ensures.value c.in_default.ensures in
    inl (
      (
        λ e. c.in-Err.ensures.not_too_large (ap (λ (w : InsertionError). Err w) e),
        inside,
      ),
      c.reserve.ensures.same,
    )

pub returns-in-Err-clause-refuses : goal.returns-in-Err-clause-refuses
returns-in-Err-clause-refuses g c =
    let inside = subst (All (λ v. InRange (g.Self.Vertex.HasPosition.place v)))
    c.as_slice.ensures.value c.in_default.ensures in
    let size = c.args.vertices.ok in
    let same : c.len.result ≡ length c.args.vertices.items = omega (arith, c.len.ensures, size) in
    refused_for_room _ _ _ _ c.in-Err.error inside refl (
      λ e. let many = c.in-Err.ensures.full.0 (ap (λ (w : InsertionError). Err w) e) in
          omega (arith, many, same),
      λ many. let full = c.in-Err.ensures.full.1 (omega (arith, many, same)) in cc,
    )

pub returns-in_default-in_order-clause-refuses : goal.returns-in_default-in_order-clause-refuses
returns-in_default-in_order-clause-refuses g c =
    let inside = subst (All (λ v. InRange (g.Self.Vertex.HasPosition.place v)))
    c.as_slice.ensures.value c.in_default.ensures in
    let size = c.args.vertices.ok in
    let same : c.len.result ≡ length c.args.vertices.items = omega (arith, c.len.ensures, size) in
    let few = few_by_reserve _ c.in_default-reserve.field-0
    (length (g.Self.Triangulation.state c.args.self.now).vertices) c.len.result
    (length c.args.vertices.items) c.in_default-reserve.is c.reserve.ensures.full same in
    refused_for_memory _ _ _ _ inside few refl

pub returns-in_default-new-clause-stops : goal.returns-in_default-new-clause-stops
returns-in_default-new-clause-stops g c =
    let inside = subst (All (λ v. InRange (g.Self.Vertex.HasPosition.place v)))
    c.as_slice.ensures.value c.in_default.ensures in
    inl ((λ e. cc, inside), c.reserve.ensures.same)

pub returns-in_default-new-clause-refuses : goal.returns-in_default-new-clause-refuses
returns-in_default-new-clause-refuses g c =
    let inside = subst (All (λ v. InRange (g.Self.Vertex.HasPosition.place v)))
    c.as_slice.ensures.value c.in_default.ensures in
    let size = c.args.vertices.ok in
    let same : c.len.result ≡ length c.args.vertices.items = omega (arith, c.len.ensures, size) in
    let few = few_by_reserve _ c.in_default-reserve.field-0
    (length (g.Self.Triangulation.state c.args.self.now).vertices) c.len.result
    (length c.args.vertices.items) c.in_default-reserve.is c.reserve.ensures.full same in
    refused_for_memory _ _ _ _ inside few refl

pub write-requires : goal.write-requires
write-requires g c = inserting_has_place c.vertices.invariant _ _ _
    (rw c.in-Some-2.is at c.in_ok-inserted.ensures.inserts)

pub vertices-preserved : goal.vertices-preserved
vertices-preserved g c = inserting_goes_on c.vertices.invariant _ _ _
    (rw c.in-Some-2.is at c.in_ok-inserted.ensures.inserts) c.in_ok-inserted.ensures.sites
    c.write.ensures

pub returns-in_err-inserted-clause-stops : goal.returns-in_err-inserted-clause-stops
returns-in_err-inserted-clause-stops g c =
    let inside = subst (All (λ v. InRange (g.Self.Vertex.HasPosition.place v)))
    c.as_slice.ensures.value c.in_default.ensures in
    let size = c.args.vertices.ok in
    let same : c.len.result ≡ length c.args.vertices.items = omega (arith, c.len.ensures, size) in
    let few = few_by_reserve _ c.in_default-reserve.field-0
    (length (g.Self.Triangulation.state c.args.self.now).vertices) c.len.result
    (length c.args.vertices.items) c.in_default-reserve.is c.reserve.ensures.full same in
    let told = err_from_is_err_and c.from_residual.result c.from_residual.ensures.1 in
    rw (told.1, told.2) (inserting_stops c.vertices.invariant _ _ _ inside few
    c.in_err-inserted.ensures.inserts)

pub returns-in_err-inserted-clause-refuses : goal.returns-in_err-inserted-clause-refuses
returns-in_err-inserted-clause-refuses g c =
    let inside = subst (All (λ v. InRange (g.Self.Vertex.HasPosition.place v)))
    c.as_slice.ensures.value c.in_default.ensures in
    let size = c.args.vertices.ok in
    let same : c.len.result ≡ length c.args.vertices.items = omega (arith, c.len.ensures, size) in
    let few = few_by_reserve _ c.in_default-reserve.field-0
    (length (g.Self.Triangulation.state c.args.self.now).vertices) c.len.result
    (length c.args.vertices.items) c.in_default-reserve.is c.reserve.ensures.full same in
    let told = err_from_is_err_and c.from_residual.result c.from_residual.ensures.1 in
    inserting_refuses c.vertices.invariant _ _ _ inside few c.in_err-inserted.ensures.inserts _
    (told.1 ∙ ap (λ (e : BulkInsertionError). Err e) told.2)

pub returns-clause-inserts : goal.returns-clause-inserts
returns-clause-inserts g c = rw c.finish.ensures (inserting_ends c.vertices.invariant _ _
    (rw c.in_default-2.is at c.in_ok-inserted.ensures.inserts))

pub returns-clause-refuses : goal.returns-clause-refuses
returns-clause-refuses g c =
    let inside = subst (All (λ v. InRange (g.Self.Vertex.HasPosition.place v)))
    c.as_slice.ensures.value c.in_default.ensures in
    let size = c.args.vertices.ok in
    let same : c.len.result ≡ length c.args.vertices.items = omega (arith, c.len.ensures, size) in
    let few = few_by_reserve _ c.in_default-reserve.field-0
    (length (g.Self.Triangulation.state c.args.self.now).vertices) c.len.result
    (length c.args.vertices.items) c.in_default-reserve.is c.reserve.ensures.full same in
    not_refused _ _ _ _ c.finish.result inside few refl

pub returns-clause-headline : goal.returns-clause-headline
returns-clause-headline g c = c.in_ok-inserted.ensures.headline
