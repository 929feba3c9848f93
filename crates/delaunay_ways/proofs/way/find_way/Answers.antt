use Rattle.delaunay_legalization.proofs.{both_ways}
use Rattle.delaunay_ways.proofs.Joining.{joined_first, joined_last, sees_itself}
use Rattle.delaunay_ways.proofs.way.find_way.Goals as goal

pub returns-then-not-is_in_sight : goal.returns-then-not-is_in_sight
returns-then-not-is_in_sight g c = λ j. both_ways _
    (c.is_in_sight.ensures.1 (joined_first _ _ _ _ j)) c.if-not-is_in_sight.true

pub returns-then-not-is_in_sight-2 : goal.returns-then-not-is_in_sight-2
returns-then-not-is_in_sight-2 g c = λ j. both_ways _
    (c.is_in_sight-2.ensures.1 (joined_last _ _ _ _ j)) c.if-not-is_in_sight-2.true

pub path_between-requires-clause-from_free : goal.path_between-requires-clause-from_free
path_between-requires-clause-from_free g c =
    sees_itself _ _ _ (c.is_in_sight.ensures.0 c.if-not-is_in_sight.false)

pub path_between-requires-clause-to_free : goal.path_between-requires-clause-to_free
path_between-requires-clause-to_free g c =
    sees_itself _ _ _ (c.is_in_sight-2.ensures.0 c.if-not-is_in_sight-2.false)
