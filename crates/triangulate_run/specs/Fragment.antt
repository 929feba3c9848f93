-- The text of a reply, in fragments.
use Rattle.std.specs.Prelude.{ℕ, List, decimal}
use Rattle.std.specs.Fmt.{signed_decimal}
use Rattle.triangulate_run.specs.declared.output.Fragment.{Fragment}
use Rattle.triangulate_run.specs.declared.output.Fragment.TheVariants.{Index, Signed, Text}

-- the bytes of a fragment: those of a text, or the decimal digits of a number
abbrev pub text_of : Fragment → List ℕ
text_of (Text text) = text.now
text_of (Index n) = decimal n
text_of (Signed z) = signed_decimal z
