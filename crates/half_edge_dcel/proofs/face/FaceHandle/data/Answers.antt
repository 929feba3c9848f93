use Rattle.std.proofs.Common.{rules}
use Rattle.half_edge_dcel.proofs.face.FaceHandle.data.Goals as goal

pub returns : goal.returns
returns g c = search rules
