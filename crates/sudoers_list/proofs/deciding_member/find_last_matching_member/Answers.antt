use Rattle.std.proofs.Common.{◌≡◌, ◌+◌, List, ◌∷◌, [], ◌++◌, map, take, sym, ap, subst, ◌∙◌}
use Rattle.std.specs.Option.{option_map}
use Rattle.std.proofs.lemmas.Bool.{false≢true}
use Rattle.sudoers_grammar.specs.Node.{Member}
use Rattle.sudoers_line_rows.specs.Tables.{member_in_tables}
use Rattle.sudoers_line_rows.specs.View.{member_of_view}
use Rattle.sudoers_match.specs.Spellings.{is_spelled_command_match}
use Rattle.sudoers_match.specs.Last.{IsLastItemWith}
use Rattle.sudoers_list.specs.internal.Going.{IsFlattenableCommandList}
use Rattle.sudoers_list.specs.Inner.{MemberMatchesCommand}
use Rattle.sudoers_list.proofs.Speaking.{flat_each, last_no, last_yes, row_value_is_among_mapped_rows, mapped_rows_taken_end_with_next_row}
use Rattle.sudoers_list.proofs.deciding_member.find_last_matching_member.Goals as goal
use Rattle.sudoers_list.proofs.deciding_member.find_last_matching_member.Goals.{then-branch, else-branch}

pub is_member_matching_command-requires-clause-flat : goal.is_member_matching_command-requires-clause-flat
is_member_matching_command-requires-clause-flat c =
    let lines = c.args.policy.now in
    let f = member_in_tables c.args.members.now.tables.now in
    let rows = c.args.members.now.rows.now in
    let y : Member = member_of_view c.member_of_row-member.result in
    let flat = c.requires.flat in
    subst (λ (m : Member). IsFlattenableCommandList lines (m ∷ [])) c.member_of_row-member.ensures
    (flat_each lines (map f rows) flat.0 flat.1 y (row_value_is_among_mapped_rows f rows c.loop-row.row-index _ c.loop-row-test.true y c.member_of_row-member.ensures))

pub loop-row-preserved : goal.loop-row-preserved
loop-row-preserved c =
    let lines = c.args.policy.now in
    let P = MemberMatchesCommand lines (is_spelled_command_match c.args.command.now) in
    let f = member_in_tables c.args.members.now.tables.now in
    let rows = c.args.members.now.rows.now in
    let i = c.loop-row.row-index in
    let y : Member = member_of_view c.member_of_row-member.result in
    let before : List Member = map f (take i rows) in
    let so_far = c.loop-row.invariant.1 in
    let next : map f (take (i + 1) rows) ≡ before ++ y ∷ [] = mapped_rows_taken_end_with_next_row f rows i _ c.loop-row-test.true y c.member_of_row-member.ensures in
    let said = c.in_ok-is_member_matching_command.ensures.speaks in (
      c.in_ok-is_member_matching_command.ensures.kept,
      subst (λ (ms : List Member). IsLastItemWith P ms (option_map member_of_view c.if-branch.last)) (sym next)
          (elim c.if-branch.branch [
            | then-branch w ↦ subst (IsLastItemWith P (before ++ y ∷ [])) (sym (ap (option_map member_of_view) w.last-is))
                (last_yes P before y _ so_far (subst P (sym c.member_of_row-member.ensures) (said.0 w.if-branch.true)))
            | else-branch w ↦ subst (IsLastItemWith P (before ++ y ∷ [])) (sym (ap (option_map member_of_view) w.last-is))
                (last_no P before y _ so_far (λ s. absurd (false≢true (sym w.if-branch.false ∙ said.1 (subst P c.member_of_row-member.ensures s)))))
          ]),
    )
