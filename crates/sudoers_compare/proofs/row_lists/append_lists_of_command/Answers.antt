use Rattle.std.proofs.Common.{◌+◌, ◌++◌, ◌∙◌, ◌∷◌, [], List, ap, drop, map}
use Rattle.sudoers_line_rows.specs.declared.rows.MemberRow.{MemberRow}
use Rattle.sudoers_compare.specs.FlatSpecs.{row_at_place, row_of_flat_command, signed_atoms_in_tables}
use Rattle.sudoers_compare.specs.RowLists.{ListsWithBits, lists_of_kept, lists_of_placed_row, lists_with_bits}
use Rattle.sudoers_compare.proofs.KeptLists.{map_of_two, one_more_copy_is_kept, tail_begins}
use Rattle.sudoers_compare.proofs.row_lists.append_lists_of_command.Goals as goal

pub loop-member-preserved : goal.loop-member-preserved
loop-member-preserved c = λ all t line users hosts is.
    let kept = lists_of_kept all in
    let rows = c.as_slice-member-items.result.now in
    let out = c.loop-member.out.items in
    let number = c.loop-member._member-index in
    let lists : List MemberRow → List ListsWithBits = λ left. map lists_of_placed_row (map (row_at_place line c.args.command.now.start) (map (row_of_flat_command t users hosts c.args.command.now) (signed_atoms_in_tables t left))) in
    one_more_copy_is_kept (map kept out) (map kept c.push.new.self.items) (lists (drop number rows)) (lists (drop (number + 1) rows)) _ (lists_with_bits users hosts)
    (ap (map kept) c.in_ok-push.ensures.items ∙ map_of_two kept out (c.args.lists ∷ []) ∙ ap (λ (one : ListsWithBits). map kept out ++ one ∷ []) is)
    (ap lists (tail_begins rows number c.loop-member-test.true).1) (c.loop-member.invariant all t line users hosts is)
