use Rattle.std.proofs.Common.{subst, sym}
use Rattle.{decimal_numbers.specs.Value.SpellsValue, mesh_files.proofs.Numbers.exact_kept}
use Rattle.mesh_files.proofs.drawing.Drawing.number.Goals as goal

pub returns-in-Ok-clause-written : goal.returns-in-Ok-clause-written
returns-in-Ok-clause-written c =
    exact_kept c.keep.result c.args.word.now c.shortened.result (record {
      magnitude = c.in-Ok.decimal.magnitude;
      digits = c.in-Ok.decimal.digits;
      written = subst (λ b. SpellsValue c.args.word.now b c.in-Ok.decimal.magnitude
          c.in-Ok.decimal.digits) (sym c.shortened.ensures.sign) c.in-Ok.ensures.ok;
      shortest = c.shortened.ensures.value;
    }) c.keep.ensures
