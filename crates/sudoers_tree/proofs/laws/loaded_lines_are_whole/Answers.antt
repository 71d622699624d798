use Rattle.sudoers_tree.proofs.WholeLines.{lines_cut_as_themselves_are_logical}
use Rattle.sudoers_tree.proofs.WholeFiles.{loaded_walk_lines_are_logical}
use Rattle.sudoers_tree.proofs.laws.loaded_lines_are_whole.Goals as goal

pub returns : goal.returns
returns c =
    loaded_walk_lines_are_logical
    (λ text lines is. lines_cut_as_themselves_are_logical c.line_alone_is_whole.ensures.whole c.whole_line_is.ensures.tells lines (c.lines_stand_alone.ensures text lines is).0)
    c.loaded_lines_stand.ensures
