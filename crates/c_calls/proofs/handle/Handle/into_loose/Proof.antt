-- `into_loose` tells by its mark whether there is a box.
-- Lemmas: into_loose_spec.
use Rattle.std.proofs.Common.{◌≡◌, List, [], ◌∷◌, ◌++◌, refl, sym, ap, ◌∙◌, subst, lit<}
use mathlib.Core.Bool.{Bool, true, false}
use lib.Dec.{T}
use mir.Syntax.{ty_ptr}
use mir.Val.{Val, has_ty, WT, vptr, vbool, vcons, vnil}
use base.Logic.{SProp, ent, emp, id⊢}
use base.Fml.{ftrue, fsep}
use prog.Wp.{WpFn}
use types.Kit.{‵, raw, ◌⊛◌, ◌$◌, ◌∵◌, !, qed, at_ret, move, drop, join, split, fsplit}
use types.Kit.{fjoin, rewrite, use0, use1, suffices, done}
use types.Run.{stop, fld, lit, of_opd, no_more, and_then, first, branches, exec, returns, enter}
use types.ByLocal.{alloc_all, pass_all, free_all, look_at, get, get_in, sets, sets_last, env}
use types.Part.{agg, sub, whole}
use types.Match.{live}
use contract.Running.{tables}
use denote.Exit.{yes}
use denote.RattleType.{RattleType}
use denote.Param.{layout}
use denote.RawPtr.{Ptr, block_ptr, null_ptr, ptr_val}
use denote.Signature.{plain, type_at}
use denote.Steps.{nothing}
use denote.Triple.Walked.{Stays, stay_dropped, walk_of, says, ends_at, Goes-dropped}
use Rattle.std.proofs.alloc.Shapes.{after}
use Rattle.std.proofs.cell.Inside.{Good, one}
use Rattle.std.proofs.option.Made.{Some-of, none_of}
use Rattle.std.proofs.raw_atomic.Walks.{proved_at}
use Rattle.std.proofs.ResultValues.{and_tt}
use Rattle.std.specs.Prelude.{None, Some}
use Rattle.std.specs.contracts.impls.GlobalAllocator.TheImpl.{ghosts}
use Rattle.std.specs.contracts.alloc.Global as heap
use Rattle.std.proofs.alloc.Global.TheLaws as heap_laws
use Rattle.c_calls.proofs.{handle.Handle.into_loose.Statement.statement, Handles.keeps_cases}
use Rattle.c_calls.proofs.Values.{both, Loose, loose_good, loose_in}
use Rattle.c_calls.proofs.handle.Handle.TheLaws.{lowers}
use Rattle.c_calls.specs.contracts.handle.Handle.into_loose as f
use Rattle.c_calls.specs.contracts.handle.Handle as handle
use Rattle.c_calls.specs.contracts.kept.AnyTriangulation as kept
use Rattle.c_calls.proofs.handle.Handle.into_loose.Code as code

abbrev R : RattleType
R = kept.the_row

abbrev Z : RattleType
Z = heap.the_row

abbrev From : RattleType
From = handle.the_row

abbrev To : RattleType
To = Loose R Z heap_laws.the_row_laws ghosts

abbrev stayed : Stays f.ended.signature.params f.ended.kept
stayed = (stay_dropped (plain (λ _. From)) yes, (stay_dropped (plain (λ _. Z)) yes, tt))

-- a machine value of a handle has its type
handle_good : (p : Ptr) (t : Bool) → Good (layout From) (both (ptr_val p) (vbool t))
handle_good (block_ptr b o) t = (tt, (tt, (tt, tt)))
handle_good null_ptr t = (tt, (record { fits = lit< tt }, (tt, tt)))

-- and so has that of its pointer
ptr_good : (p : Ptr) → T (has_ty ty_ptr (ptr_val p)) × WT (ptr_val p)
ptr_good (block_ptr b o) = (tt, tt)
ptr_good null_ptr = (tt, record { fits = lit< tt })

pub into_loose_spec : {M : Type 1} → statement M
into_loose_spec 𝓤 𝓛 𝓜 𝓡 wired =
    let H = 𝓛.H in let 𝓣 = tables 𝓤 H 𝓜 𝓡 𝓡.env in let c = f.clauses 𝓛 𝓜.mem 𝓡.returns in
    let LZ = heap_laws.the_row_laws in let fn = code.function in
    proved_at 𝓛 f.ended stayed c 𝓜 𝓡 (
      Goes-dropped 𝓛 0 (plain (λ _. From)) yes (λ κs x f. refl),
      (Goes-dropped 𝓛 0 (plain (λ _. Z)) yes (λ κs x f. refl), tt),
    ) f.Key.name fn
    (code.unfolded 𝓤 H 𝓜 𝓡 wired) (λ z are.
    let d = z.0.3.0 in let g = z.0.3.1.0 in let Out = type_at (f.signature).result z.0.0 in
    let Post = (walk_of 𝓛 f.ended stayed c).post z in
    let Run : List Val → SProp 𝓤 = λ ws. WpFn 𝓤 H 𝓣.C 𝓣.Λ fn ws Post in
    let hv = one (layout Z) z.0.4.1.0 ((LZ.lawful 𝓛).typed g z.0.4.1.0 are.1.0) in
    let h : Val = hv.0 in
    let ws = lowers.val_is d z.0.4.0 are.0 in
    let Both : Ptr → Bool → List Val = λ p t. both (ptr_val p) (vbool t) ∷ [] in
    qed 𝓛 ((‵ ftrue ⊛ ‵ (fsep (From.own_val d z.0.4.0) (fsep (Z.own_val g z.0.4.1.0) ftrue))) ∷ raw
    (emp 𝓤) ∷ []) ∵ split ! $ drop ! $ fsplit ! $ fsplit ! $ drop ! $ move ! (1 ∷ 2 ∷ []) $
    fsplit ! $
    move ! (1 ∷ 2 ∷ []) $ drop ! $ drop ! $
    rewrite ! 0 (λ (us : List Val). ‵ (Z.own_val g us)) hv.1 refl $ move ! (1 ∷ 0 ∷ []) $
    keeps_cases ! R d.is_open d.at d.kept (λ a b o x opened at some.
    let w : Val = both (vptr b o) (vbool true) in
    let is : z.0.4.0 ≡ w ∷ [] = ws ∙ ap (λ (p : Ptr). Both p d.is_open) at ∙ ap
    (Both (block_ptr b o)) opened in
    let made : Val = both (vptr b o) h in let typed = loose_good R Z LZ ghosts b o h hv.2 in
    let v : Val = live 1 (vcons made vnil) in
    let l : To.Denot = record { at = block_ptr b o; alloc = g; value = x } in
    let good : Good (layout Out) v = (and_tt _ typed.0, (record { fits = lit< tt }, (typed.1, tt)))
    in
    suffices ! (Run (w ∷ h ∷ []))
    (subst (λ (us : List Val). ent 𝓤 (Run (w ∷ h ∷ [])) (Run us))
    (sym (λ i. is i ++ (hv.1 i ++ []))) (id⊢ 𝓤 (Run (w ∷ h ∷ [])))) $
    enter ! 𝓣.C 𝓣.Λ fn (w ∷ h ∷ []) Post $
    alloc_all ! (λ s. pass_all ! refl (handle_good (block_ptr b o) true, (hv.2, tt)) $
    let Ev = env fn.locals s in
    sets ! (of_opd ! (get_in ! (fld ! refl (stop !)) (sub ! 0 refl (whole !)))) refl (tt, tt) $
    sets ! (of_opd ! (get_in ! (fld ! refl (stop !)) (sub ! 1 refl (whole !)))) refl (tt, tt) $
    sets ! (of_opd ! (get ! refl)) refl (tt, tt) $ first ! $ branches ! (get ! refl) (λ _.
    sets ! (of_opd ! (get ! refl)) refl (tt, tt) $
    sets ! (agg ! (and_then ! (get ! refl) (and_then ! (get ! refl) (no_more !)))) refl typed $
    sets_last ! (agg ! (and_then ! (lit ! tt) (and_then ! (get ! refl) (no_more !)))) refl good $
    exec ! 𝓣.C 𝓣.Λ Ev (after 4 fn.body) (at_ret Ev Post) $
    sets ! (of_opd ! (get ! refl)) refl good $
    loose_in R Z LZ ghosts ! b o h g x $
    use1 𝓛 (‵ (Out.own_val (Some l) (v ∷ []))) (Some-of 𝓛 To l made) $
    returns ! (look_at ! 0 refl) $ free_all ! refl $
    suffices ! _ (ends_at 𝓛 f.ended stayed c z v (Some l) (tt, (tt, tt)) (tt, (tt, tt))) $
    says ! some $
    nothing ! $ nothing ! $ fjoin ! $ nothing ! $ fjoin ! $ join ! $ nothing ! $ join ! $ done !)
    (λ wrong. absurd wrong)))
    (λ shut none. drop ! $
    let w : Val = both (ptr_val d.at) (vbool false) in let v : Val = live 0 vnil in
    let is : z.0.4.0 ≡ w ∷ [] = ws ∙ ap (Both d.at) shut in
    let good : Good (layout Out) v = (tt, (record { fits = lit< tt }, tt)) in
    suffices ! (Run (w ∷ h ∷ []))
    (subst (λ (us : List Val). ent 𝓤 (Run (w ∷ h ∷ [])) (Run us))
    (sym (λ i. is i ++ (hv.1 i ++ []))) (id⊢ 𝓤 (Run (w ∷ h ∷ [])))) $
    enter ! 𝓣.C 𝓣.Λ fn (w ∷ h ∷ []) Post $
    alloc_all ! (λ s. pass_all ! refl (handle_good d.at false, (hv.2, tt)) $
    let Ev = env fn.locals s in
    sets ! (of_opd ! (get_in ! (fld ! refl (stop !)) (sub ! 0 refl (whole !)))) refl
    (ptr_good d.at) $ sets !
    (of_opd ! (get_in ! (fld ! refl (stop !)) (sub ! 1 refl (whole !)))) refl (tt, tt) $
    sets ! (of_opd ! (get ! refl)) refl (tt, tt) $ first ! $
    branches ! (get ! refl) (λ wrong. absurd wrong) (λ _.
    sets_last ! (agg ! (and_then ! (lit ! tt) (no_more !))) refl good $
    exec ! 𝓣.C 𝓣.Λ Ev (after 4 fn.body) (at_ret Ev Post) $
    sets ! (of_opd ! (get ! refl)) refl good $
    use0 𝓛 (‵ (Out.own_val None (v ∷ []))) (none_of 𝓛 To) $
    returns ! (look_at ! 0 refl) $ free_all ! refl $
    suffices ! _ (ends_at 𝓛 f.ended stayed c z v None (tt, (tt, tt)) (tt, (tt, tt))) $ says ! none $
    nothing ! $ nothing ! $ fjoin ! $ nothing ! $ fjoin ! $ join ! $ nothing ! $ join ! $ done !))))
