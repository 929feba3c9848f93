-- The machine value of a handle, and what it owns.
-- Lemmas: keeps_cases, handle_in.
use Rattle.std.proofs.Common.{◌≡◌, ℕ, List, [], ◌∷◌, refl}
use mathlib.Core.Bool.{Bool, true, false}
use seplogic.Ra.Ura.{Ura}
use mir.Val.{Val, vbool}
use base.Logic.{never, never_e, via, id⊢, fst∗}
use base.Fml.{ftrue}
use types.Logic.{Logic, sem}
use types.Kit.{Item, Goal, Seq, Step, step, given, ‵, ◌$◌, drop, fjoin, fpick, fpack, feq_i, use1}
use types.Kit.{learn}
use denote.RattleType.{RattleType, Valss}
use denote.Builtin.{RawPtr, bool}
use denote.Laws.{Is}
use denote.Memory.{lone}
use denote.RawPtr.{Ptr, block_ptr, null_ptr, ptr_val, in_a_block}
use denote.Plain.{bool_Makes}
use denote.Steps.{nothing, owned}
use denote.Struct.Struct.{within}
use denote.Struct.Owning.{shape}
use mir.Raw.{raw as bare}
use Rattle.std.specs.Prelude.{Option, None, Some}
use Rattle.std.specs.Box.Ownership.{box_owns}
use Rattle.std.specs.Global.{Global}
use Rattle.std.specs.contracts.impls.GlobalAllocator.TheImpl.{ghosts}
use Rattle.{c_calls.proofs.Values.both, c_calls.specs.Keeps.keeps}
use Rattle.c_calls.specs.contracts.handle.Handle as handle
use Rattle.c_calls.specs.contracts.kept.AnyTriangulation as kept

module _ {M : Type 1} {𝓤 : Ura M} {𝓛 : Logic 𝓤} {K : Type 0} {Γ : List (Item 𝓤)} {G : Goal 𝓤 𝓛.H}
  where
    -- an open handle has a box, and a closed one none
    pub keeps_cases : K → (R : RattleType) (t : Bool) (p : Ptr) (m : Option R.Denot)
        → ((a : Global) (b o : ℕ) (x : R.Denot) → t ≡ true → p ≡ block_ptr b o → m ≡ Some x
        → Seq K 𝓛
        (‵ (box_owns (ghosts.dealloc_token a) R (block_ptr b o) x) ∷ Γ) G)
        → (t ≡ false → m ≡ None → Seq K 𝓛 Γ G)
        → Seq K 𝓛 (‵ (keeps R t p m) ∷ Γ) G
    keeps_cases k R true p (Some x) full empty =
        fpick k (λ a. in_a_block k p (λ q. box_owns (ghosts.dealloc_token a) R q x)
        (fst∗ 𝓤 (never 𝓤) (sem 𝓛 (ghosts.dealloc_token a (bare (lone R.mir)) null_ptr)))
        (λ b o e. full a b o x refl e refl))
    keeps_cases k R false p None full empty = drop k $ empty refl refl
    keeps_cases k R true p None full empty = use1 𝓛 (given ⊥ (‵ ftrue))
        (via 𝓤 (never 𝓤) (id⊢ 𝓤 (never 𝓤)) (never_e 𝓤 _)) $ learn k (λ z. absurd z)
    keeps_cases k R false p (Some x) full empty = use1 𝓛 (given ⊥ (‵ ftrue))
        (via 𝓤 (never 𝓤) (id⊢ 𝓤 (never 𝓤)) (never_e 𝓤 _)) $ learn k (λ z. absurd z)

    -- a handle is made of its fields and of what it owns
    pub handle_in : K → (p : Ptr) (t : Bool) (m : Option kept.the_row.Denot)
        → Step K 𝓛 (‵ ((handle.the_row).own_val (record { at = p; is_open = t; kept = m })
        (both (ptr_val p) (vbool t) ∷ [])) ∷ Γ) G (‵ (keeps kept.the_row t p m) ∷ Γ) G
    handle_in k p t m = step (λ s. let v : Val = both (ptr_val p) (vbool t) in
        nothing k $ owned k bool (Is bool) (bool_Makes 𝓛) t (vbool t ∷ []) refl $ fjoin k $
        feq_i k (List Val) (ptr_val p ∷ []) (ptr_val p ∷ []) refl $ fjoin k $
        feq_i k (List Val) (v ∷ []) (v ∷ []) refl $ fjoin k $
        fpack k (Valss (RawPtr ∷ bool ∷ [])) (within (shape handle.the_type) (p, (t, tt)) (v ∷ []))
        (ptr_val p ∷ [], (vbool t ∷ [], tt)) $ fjoin k $ s)
