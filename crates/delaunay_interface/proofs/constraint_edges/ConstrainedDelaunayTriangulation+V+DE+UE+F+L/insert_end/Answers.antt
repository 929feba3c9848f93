use Rattle.delaunay_interface.proofs.Stepping.{inserted_grows, inserted_here, inserted_sites}
use Rattle.delaunay_interface.proofs.constraint_edges.ConstrainedDelaunayTriangulation+V+DE+UE+F+L.insert_end.Goals as goal

pub returns-in-Ok : goal.returns-in-Ok
returns-in-Ok g c = let inserts = c.in-Ok.ensures.inserts in record {
  inserts = inserts;
  within = inserted_here _ _ _ _ _ _ inserts;
  ready = record {
    grows = inserted_grows _ _ _ _ _ _ inserts;
    sites = inserted_sites _ _ _ _ _ _ inserts (g.P.PlaneTests.sites c.args.tests.now)
        c.requires.sites c.requires.new_site;
    headline = c.in-Ok.ensures.headline;
  };
}
