use Rattle.std.proofs.lemmas.Result.{on_ok_weaker}
use Rattle.json.specs.Reads.{token_of}
use Rattle.mesh_files.proofs.TokenRuns.{token_taken}
use Rattle.mesh_files.proofs.geojson.read_token.Goals as goal

pub returns : goal.returns
returns c = on_ok_weaker c.pass_value.result (λ passes all h.
    passes all c.take.new.drawing (token_taken all c.args.text.now.reader c.next.new.self.reader
    (token_of c.in_ok-token.token) c.args.state.now c.take.new.self c.args.drawing.now
    c.take.new.drawing h c.in_ok-token.ensures c.in_ok-take.ensures)) c.pass_value.ensures
