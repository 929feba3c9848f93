-- How data of edges get the mark of a constraint.
use Rattle.std.specs.Prelude.{Bool, true, false}
use Rattle.delaunay_legalization.specs.{declared.cdt_edge.CdtEdge.CdtEdge, is_constraint, with_mark}

-- whether they can have it, which have it, and the data with it and without it
pub record Marking (U : Type 0) : Type 0 where
  pub possible : Bool
  pub marks : U → Bool
  pub marked : U → U
  pub unmarked : U → U

-- the plain type: none has it
abbrev pub no_marking : {U : Type 0} → Marking U
no_marking = record { possible = false; marks = λ _. false; marked = λ d. d; unmarked = λ d. d }

-- the constrained type: those with the flag have it
abbrev pub flag_marking : {U : Type 0} → Marking (CdtEdge U)
flag_marking = record {
  possible = true;
  marks = is_constraint;
  marked = with_mark true;
  unmarked = with_mark false;
}
