-- What a handle owns.
use Rattle.std.specs.Prelude.{Bool, true, false, Option, None, Some}
use base.Fml.{Fml, ftrue, ffalse, fex}
use denote.RattleType.{RattleType}
use denote.RawPtr.{Ptr}
use Rattle.std.specs.Global.{Global}
use Rattle.std.specs.contracts.impls.GlobalAllocator.TheImpl.{ghosts}
use Rattle.std.specs.Box.Ownership.{box_owns}

-- an open handle owns the box at its pointer, and a closed one nothing
abbrev pub keeps : (R : RattleType) → Bool → Ptr → Option R.Denot → Fml
keeps R true p (Some x) = fex Global (λ a. box_owns (ghosts.dealloc_token a) R p x)
keeps R false p None = ftrue
keeps R true p None = ffalse
keeps R false p (Some x) = ffalse
