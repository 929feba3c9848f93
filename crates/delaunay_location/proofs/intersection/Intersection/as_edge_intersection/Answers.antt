use Rattle.std.proofs.Common.{rules}
use Rattle.delaunay_location.proofs.intersection.Intersection.as_edge_intersection.Goals as goal

pub returns-in-EdgeIntersection : goal.returns-in-EdgeIntersection
returns-in-EdgeIntersection g c = search rules
