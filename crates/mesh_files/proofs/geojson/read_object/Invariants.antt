use Rattle.mesh_files.specs.States.{HasReadTokens}
use Rattle.mesh_files.proofs.geojson.read_object.Given as goal

abbrev pub invariant-loop : goal.invariant-loop
invariant-loop l = HasReadTokens l.initial.text.reader l.text.reader l.state l.drawing
