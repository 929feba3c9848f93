use Rattle.mesh_files.proofs.geojson.GeoState.take_step.Goals as goal
use goal.{in-Kind, in-List, in-Next, in-Property}

pub returns : goal.returns
returns c = elim c.match-step.branch [
  | in-Next w ↦ rw w.self-is (record {
    between = rw w.in-Next.is at c.requires;
    shape = λ tokens h. h;
  })
  | in-Kind w ↦ rw w.self-is (record { between = λ tokens rest. tt; shape = λ tokens h. h })
  | in-Property w ↦ rw w.self-is (record { between = λ tokens rest. tt; shape = λ tokens h. h })
  | in-List w ↦ rw w.self-is (record { between = λ tokens rest. tt; shape = λ tokens h. h })
]
