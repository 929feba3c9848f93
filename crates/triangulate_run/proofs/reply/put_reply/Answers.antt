use Rattle.std.proofs.Common.{rules}
use Rattle.triangulate_run.proofs.reply.put_reply.Goals as goal

pub returns-in-UnknownPoint : goal.returns-in-UnknownPoint
returns-in-UnknownPoint g c = rw c.in-UnknownPoint.is c.put_fragments-in-UnknownPoint.ensures

pub returns-in-NoTriangulation : goal.returns-in-NoTriangulation
returns-in-NoTriangulation g c = rw c.in-NoTriangulation.is
    c.put_fragments-in-NoTriangulation.ensures

pub returns-in-Vertex : goal.returns-in-Vertex
returns-in-Vertex g c = search rules

pub returns-in-NotConstrained : goal.returns-in-NotConstrained
returns-in-NotConstrained g c = rw c.in-NotConstrained.is c.put_fragments-in-NotConstrained.ensures
