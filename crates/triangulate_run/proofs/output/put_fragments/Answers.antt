use Rattle.std.proofs.Common.{◌≡◌, ◌∙◌, [], ap, sym, get_or, rules, w64, to_z-of_z}
use Rattle.std.specs.Fmt.{signed_decimal}
use Rattle.std.proofs.lemmas.List.{take_all}
use Rattle.std.proofs.lemmas.Result.{err_from_is_err_and}
use Rattle.triangulate_run.specs.{declared.output.Fragment.TheVariants.Text, Fragment.text_of}
use Rattle.triangulate_run.specs.declared.output.Fragment.{Fragment}
use Rattle.triangulate_run.proofs.OutputLemmas.{after_error, after_success, held_more, part_at}
use Rattle.triangulate_run.proofs.OutputLemmas.{part_behind, part_longer, part_same, passes_at}
use Rattle.triangulate_run.proofs.OutputLemmas.{passes_nil, written_more}
use Rattle.triangulate_run.proofs.output.put_fragments.Goals as goal
use goal.{else-is_err, in-Index, in-Signed, in-Text, then-is_err+in_ok-write_all+in_ok-write_all-2}

abbrev nothing : Fragment
nothing = Text record { ref_ptr = (0, 0); now = [] }

pub loop-fragment-init : goal.loop-fragment-init
loop-fragment-init g c = record { so_far = passes_nil _ _; works = c.requires.works }

pub loop-fragment-preserved : goal.loop-fragment-preserved
loop-fragment-preserved g c =
    let i = c.loop-fragment.invariant in
    let fragment = get_or c.args.fragments.now c.loop-fragment.fragment-index nothing in
    let is : c.match-fragment.text.now ≡ text_of fragment = elim c.match-fragment.branch [
      | in-Text w ↦ ap (λ t. t.now) w.text-is ∙ sym (ap text_of w.in-Text.is)
      | in-Index w ↦ ap (λ t. t.now) w.text-is ∙ w.format-text.ensures.text
          ∙ sym (ap text_of w.in-Index.is)
      | in-Signed w ↦ ap (λ t. t.now) w.text-is ∙ w.format-text-in-Signed.ensures.text
          ∙ ap signed_decimal (to_z-of_z {w = w64} {z = w.in-Signed.number} (search rules))
          ∙ sym (ap text_of w.in-Signed.is)
    ] in
    let extend = c.try_extend_from_slice.ensures in
    elim c.if-is_err.branch [
      | then-is_err+in_ok-write_all+in_ok-write_all-2 w ↦ rw (w.writer-is, w.held-is) (
          let same = after_error _ c.is_err.ensures.value w.if-is_err.true extend.err in
          let first = rw (w.as_slice.ensures.value ∙ ap (λ h. h.items) same)
          at w.in_ok-write_all.ensures.0 in
          let put = written_more (w.as_bytes-then-is_err.ensures.value ∙ is) _ w.clear.ensures
          first w.in_ok-write_all-2.ensures.0 in
          record {
            so_far = passes_at _ _ _ _ c.loop-fragment-test.true i.so_far put;
            works = w.in_ok-write_all-2.ensures.1;
          })
      | else-is_err w ↦ rw (w.writer-is, w.held-is) (
          let put = held_more (c.as_bytes.ensures.value ∙ is)
          (after_success _ c.is_err.ensures.value w.if-is_err.false extend.ok) in
          record {
            so_far = passes_at _ _ _ _ c.loop-fragment-test.true i.so_far put;
            works = i.works;
          })
    ]

pub returns-in_err-write_all : goal.returns-in_err-write_all
returns-in_err-write_all g c =
    let same = after_error _ c.is_err.ensures.value c.if-is_err.true
    c.try_extend_from_slice.ensures.err in
    let wrote = rw (c.as_slice.ensures.value ∙ ap (λ h. h.items) same)
    at c.in_err-write_all.ensures in
    let failed = err_from_is_err_and c.from_residual.result c.from_residual.ensures.1 in
    rw failed.1 (
      part_at _ _ _ nothing c.loop-fragment-test.true c.loop-fragment.invariant.so_far
          (part_longer _ wrote.0),
      wrote.1,
    )

pub returns-in_err-write_all-2 : goal.returns-in_err-write_all-2
returns-in_err-write_all-2 g c =
    let fragment = get_or c.args.fragments.now c.loop-fragment.fragment-index nothing in
    let is : c.match-fragment.text.now ≡ text_of fragment = elim c.match-fragment.branch [
      | in-Text w ↦ ap (λ t. t.now) w.text-is ∙ sym (ap text_of w.in-Text.is)
      | in-Index w ↦ ap (λ t. t.now) w.text-is ∙ w.format-text.ensures.text
          ∙ sym (ap text_of w.in-Index.is)
      | in-Signed w ↦ ap (λ t. t.now) w.text-is ∙ w.format-text-in-Signed.ensures.text
          ∙ ap signed_decimal (to_z-of_z {w = w64} {z = w.in-Signed.number} (search rules))
          ∙ sym (ap text_of w.in-Signed.is)
    ] in
    let same = after_error _ c.is_err.ensures.value c.if-is_err.true
    c.try_extend_from_slice.ensures.err in
    let first = rw (c.as_slice.ensures.value ∙ ap (λ h. h.items) same)
    at c.in_ok-write_all.ensures.0 in
    let wrote = c.in_err-write_all-2.ensures in
    let failed = err_from_is_err_and c.from_residual-in_err-write_all-2.result
    c.from_residual-in_err-write_all-2.ensures.1 in
    rw failed.1 (
      part_at _ _ _ nothing c.loop-fragment-test.true c.loop-fragment.invariant.so_far
          (part_same _ (c.as_bytes-then-is_err.ensures.value ∙ is)
          (part_behind _ _ _ _ _ first wrote.0)),
      wrote.1,
    )

pub returns : goal.returns
returns g c =
    let i = c.loop-fragment.invariant in
    (rw (take_all _ _ c.loop-fragment-test.false) at i.so_far, i.works)
