use Rattle.sudoers_grammar.proofs.RenamedText.{reads_line, stays_logical, ends_same}
use Rattle.sudoers_grammar.proofs.RenamedBack.{old_name_put_back_gives_old_line, new_name_stands_at_moved_offsets, renaming_back_gives_old_line}
use Rattle.sudoers_grammar.proofs.laws.renamed_line.Goals as goal

pub returns-clause-same : goal.returns-clause-same
returns-clause-same c =
    let text = c.renamed_tokens.ensures in
    reads_line c.tokens_ascend.ensures text.same text.mode text.line text.ends

pub returns-clause-line : goal.returns-clause-line
returns-clause-line c =
    let text = c.renamed_tokens.ensures in
    stays_logical c.tokens_ascend.ensures text.same text.mode text.line text.ends

pub returns-clause-ends : goal.returns-clause-ends
returns-clause-ends c =
    let text = c.renamed_tokens.ensures in
    ends_same c.tokens_ascend.ensures text.same text.mode text.line text.ends

pub returns-clause-back : goal.returns-clause-back
returns-clause-back c = old_name_put_back_gives_old_line c.tokens_ascend.ensures

pub returns-clause-starts : goal.returns-clause-starts
returns-clause-starts c = new_name_stands_at_moved_offsets c.tokens_ascend.ensures

pub returns-clause-undone : goal.returns-clause-undone
returns-clause-undone c = renaming_back_gives_old_line c.tokens_ascend.ensures
