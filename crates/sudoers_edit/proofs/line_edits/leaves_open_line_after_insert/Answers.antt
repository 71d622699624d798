use Rattle.sudoers_edit.proofs.Common.{List, ap, arith, length, line_texts_of_file, not, sym, ℕ, ◌-◌, ◌∙◌, ◌≡◌, ◌≤◌}
use Rattle.sudoers_edit.proofs.EditLemmas.{inserted_text_decides_open_line, read_last_line_decides_open_insert}
use Rattle.sudoers_edit.proofs.PolicyLemmas.{found_line_is_line_at_index}
use Rattle.sudoers_edit.proofs.LineLemmas.{missing_item_is_at_or_past_end}
use Rattle.sudoers_edit.proofs.line_edits.leaves_open_line_after_insert.Goals as goal

pub returns-then-at-line_count : goal.returns-then-at-line_count
returns-then-at-line_count c =
    let ls : List (List ℕ) = line_texts_of_file c.args.policy.now c.args.file in
    ap not c.ends_in_lf.ensures
    ∙ inserted_text_decides_open_line ls c.args.at c.args.text.now (omega (arith, c.if-at-line_count.true, c.line_count.ensures.count))
    c.line_count.ensures.ended

pub returns-in-Some : goal.returns-in-Some
returns-in-Some c =
    let ls : List (List ℕ) = line_texts_of_file c.args.policy.now c.args.file in
    let last : List ℕ = c.in-Some.last.now in
    let whole : c.args.at ≡ length ls = omega (arith, c.requires, c.if-at-line_count.false, c.line_count.ensures.count) in
    ap not c.ends_in_lf-in-Some.ensures
    ∙ read_last_line_decides_open_insert ls c.args.at c.args.text.now last whole c.if-at-gt0.true
    (found_line_is_line_at_index ls (c.args.at - 1) last last (sym c.in-Some.ensures)) c.line_count.ensures.ended

pub returns-in-None : goal.returns-in-None
returns-in-None c =
    let ls : List (List ℕ) = line_texts_of_file c.args.policy.now c.args.file in
    let past : length ls ≤ c.args.at - 1 = missing_item_is_at_or_past_end ls (c.args.at - 1) c.in-None.ensures in
    absurd (omega (arith, past, c.requires, c.if-at-gt0.true))
