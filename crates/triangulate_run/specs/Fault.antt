-- The texts of the faults.
use Rattle.std.specs.Prelude.{ℕ, List, codes}
use Rattle.triangulate_run.specs.declared.fault.RunError.{RunError}
use Rattle.triangulate_run.specs.declared.fault.RunError.TheVariants.{Read, Write}

-- the text of a fault, of the reader or the writer
abbrev pub fault_text_of : RunError → List ℕ
fault_text_of Read = codes "triangulate: read failed"
fault_text_of Write = codes "triangulate: write failed"
