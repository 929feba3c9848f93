use Rattle.std.proofs.Common.{◌∙◌, ℕ, List, ap, refl, subst}
use Rattle.std.specs.Str.{IsTrimAscii}
use Rattle.csv.specs.Records.{fields_of}
use Rattle.mesh_files.proofs.TableRows.{field_is}
use Rattle.mesh_files.proofs.columns.word_of.Goals as goal

pub returns : goal.returns
returns c =
    let P : List ℕ → Type 0 = λ s. IsTrimAscii s c.trim_ascii.result.now in
    subst P (ap (λ s. s.now) c.unwrap_or.ensures
    ∙ field_is (fields_of c.args.record.now) c.args.column c.get.result _ refl c.get.ensures.value)
    c.trim_ascii.ensures.value
