use Rattle.sudoers_tree.proofs.Common.{List, Ok, cut_outcome_of_text, files_after_changes, join, lines_of_numbered_file, named_files_of_policy, texts_of_lines, ℕ, ◌≡◌}
use Rattle.sudoers_tree.proofs.ChangedFileLines.{lines_of_changed_file_are_changed_lines, changed_files_keep_file_names}
use Rattle.sudoers_tree.proofs.WholeLines.{lines_cut_as_themselves_are_logical}
use Rattle.sudoers_tree.proofs.laws.changed_files_have_lines.Goals as goal

pub returns-clause-names : goal.returns-clause-names
returns-clause-names c = λ changes old new is.
    changed_files_keep_file_names 0 changes new.files old.files (c.loaded_files_are.ensures.bytes (files_after_changes changes old.files) new is)

pub returns-clause-lines : goal.returns-clause-lines
returns-clause-lines c = λ changes old new loaded can is.
    let cut = c.loaded_files_are_cut.ensures in
    let whole = λ (lines : List (List ℕ)) (cuts : cut_outcome_of_text (join lines) ≡ Ok lines).
    lines_cut_as_themselves_are_logical c.line_alone_is_whole.ensures.whole c.whole_line_is.ensures.tells lines (c.lines_stand_alone.ensures (join lines) lines cuts).0 in
    lines_of_changed_file_are_changed_lines c.cut_is.ensures c.one_list.ensures c.whole_lines_of_join.ensures changes new.files old.files can
    (c.loaded_files_are.ensures.bytes (files_after_changes changes old.files) new is) (cut (files_after_changes changes old.files) new is)
    (λ f. whole (texts_of_lines (lines_of_numbered_file old.files f)) (cut (named_files_of_policy old) old loaded f))
