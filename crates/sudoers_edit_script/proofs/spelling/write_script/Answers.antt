use Rattle.std.proofs.Common.{◌≡◌, ◌∙◌, ◌++◌, ◌+◌, ◌<◌, sym, ap, List, ℕ, arith, drop}
use Rattle.std.specs.List.{prefix_len}
use Rattle.std.proofs.lemmas.Grind.{common_steps}
use Rattle.sudoers_edit_script.specs.Script.{spelling_of_edit, has_word_names, file_number_set_after_edit}
use Rattle.sudoers_edit_script.proofs.TakenLemmas.{leading_edits_have_one_more_spelled}
use Rattle.sudoers_edit_script.proofs.spelling.write_script.Goals as goal

pub loop-count-preserved : goal.loop-count-preserved
loop-count-preserved c =
    let t = leading_edits_have_one_more_spelled 0 c.args.edits.now c.loop-count.count c.index-edits-count.result c.loop-count-test.true c.index-edits-count.is in
    let i = c.loop-count.invariant in
    let edit = c.index-edits-count.result in
    let few : c.loop-count.count < 65536 = c.if-count-ge-MAX_EDITS.false in
    let named : c.loop-count.count + 1 + prefix_len has_word_names (drop (c.loop-count.count + 1) c.args.edits.now) ≡ prefix_len has_word_names c.args.edits.now =
    grind (arith, common_steps) in (
      omega (arith, few),
      c.in_ok-append_edit_spelling.ensures ∙ ap (λ (z : List ℕ). z ++ spelling_of_edit edit) c.in_ok-file.ensures.out ∙ rw (i.1, i.2) (sym t.spelled),
      c.in_ok-file.ensures.file ∙ ap (λ (f : ℕ). file_number_set_after_edit f edit) i.2 ∙ sym t.file,
      named,
    )
