use Rattle.std.proofs.Common.{inl, inr, map, refl, ◌∙◌, ap}
use Rattle.{delaunay_legalization.specs.drawn, triangulate_run.specs.position}
use Rattle.triangulate_run.proofs.Insertions.{known_if_there, listed_if_found, may_refuse}
use Rattle.triangulate_run.proofs.Insertions.{mesh_kept, places_kept, site_if_listed, sites_kept}
use Rattle.triangulate_run.proofs.Insertions.{sites_more, unknown_if_fresh}
use Rattle.triangulate_run.proofs.shared.insert.Goals as goal

pub returns-in-Ok-clause-ready : goal.returns-in-Ok-clause-ready
returns-in-Ok-clause-ready g c =
    let ready = c.requires.ready in
    let sites = g.P.PlaneTests.sites c.args.tests.now in
    let site = site_if_listed sites _ _ ready.points_sites
    (listed_if_found _ _ c.site_index_of.result c.if-is_none.ensures c.site_index_of.ensures) in
    record {
      points_covered = ready.points_covered;
      points_sites = ready.points_sites;
      vertices_sites = elim c.in-Ok.ensures.inserts.ok [
        | inl kept ↦ sites_kept sites _ _
            (ap (map position) kept.vertices ∙ places_kept _ _ c.args.point kept.same)
            ready.vertices_sites
        | inr more ↦ sites_more sites _ _ c.args.point more.1.vertices site ready.vertices_sites
      ];
    }

pub returns-in-Ok-clause-reply : goal.returns-in-Ok-clause-reply
returns-in-Ok-clause-reply g c =
    let old = g.T.Triangulation.state c.args.triangulation.now in
    let new = g.T.Triangulation.state c.insert.new.self in
    let in_range = c.in_default.ensures.exactly.0 refl in
    let site = listed_if_found _ _ c.site_index_of.result c.if-is_none.ensures
    c.site_index_of.ensures in
    let index = c.from.ensures ∙ c.index.ensures in
    elim c.in-Ok.ensures.inserts.ok [
      | inl kept ↦ inl (record {
        in_range = in_range;
        site = site;
        replaced = rw index kept;
        same = ap (λ ps. drawn ps new.mesh)
            (ap (map position) kept.vertices ∙ places_kept old.vertices _ _ kept.same)
            ∙ ap (drawn (map position old.vertices)) (mesh_kept old new _
            (c.in-Ok.ensures.inserts.replaced
            (known_if_there old.vertices _ _ kept.here kept.same)));
      })
      | inr more ↦ inr (record {
        new_site = record { in_range = in_range; site = site; fresh = more.1.fresh };
        room = λ full. (let no = c.insert.ensures.inserts.full.1
            (in_range, unknown_if_fresh old.vertices _ more.1.fresh, full) in cc);
        index = index ∙ more.0;
        appended = more.1;
      })
    ]

pub returns-in-Err-insert-clause-reply : goal.returns-in-Err-insert-clause-reply
returns-in-Err-insert-clause-reply g c =
    let site = listed_if_found _ _ c.site_index_of.result c.if-is_none.ensures
    c.site_index_of.ensures in
    let so = c.insert.ensures.inserts in
    may_refuse g.T.Constraints.ConstraintMarker.constraints c.args.points.now _ _ c.args.point _ _
    c.in-Err-insert.is (c.in_default.ensures.exactly.0 refl) site so.too_large so.known so.full
    c.in-Err-insert.ensures.inserts.err
