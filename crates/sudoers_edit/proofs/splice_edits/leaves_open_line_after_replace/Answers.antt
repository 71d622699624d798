use Rattle.sudoers_edit.proofs.Common.{List, arith, inl, length, lines_of_numbered_file, sym, texts_of_lines, ℕ, ◌<◌, ◌∙◌}
use Rattle.sudoers_edit.proofs.PolicyLemmas.{texts_are_as_many_as_lines}
use Rattle.sudoers_edit.proofs.ReplacedLemmas.{ended_or_last_replacement_keeps_ended_lines, open_replacement_is_inner_iff_before_last}
use Rattle.sudoers_edit.proofs.splice_edits.leaves_open_line_after_replace.Goals as goal

pub returns-then-ends_in_lf : goal.returns-then-ends_in_lf
returns-then-ends_in_lf c =
    let ls : List (List ℕ) = texts_of_lines (lines_of_numbered_file c.args.policy.now.files c.args.file) in
    sym (ended_or_last_replacement_keeps_ended_lines ls c.args.at c.args.text.now c.line_count-count.ensures.ended (inl (sym c.ends_in_lf.ensures ∙ c.if-ends_in_lf.true)))

pub returns : goal.returns
returns c =
    let ls : List (List ℕ) = texts_of_lines (lines_of_numbered_file c.args.policy.now.files c.args.file) in
    let here : c.args.at < length ls = omega (arith, c.requires, texts_are_as_many_as_lines (lines_of_numbered_file c.args.policy.now.files c.args.file)) in
    open_replacement_is_inner_iff_before_last ls c.args.at c.args.text.now c.line_count-count.result c.line_count-count.ensures.count here
    c.line_count-count.ensures.ended (sym c.ends_in_lf.ensures ∙ c.if-ends_in_lf.false)
