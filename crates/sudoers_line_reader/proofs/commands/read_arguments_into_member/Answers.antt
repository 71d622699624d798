use Rattle.std.proofs.Common.{◌≡◌, rules, ap, ◌∙◌}
use Rattle.sudoers_grammar.specs.Node.{Member}
use Rattle.sudoers_line_reader.specs.Reader.{Read}
use Rattle.sudoers_line_reader.specs.Descent.{member_with_arguments_reader, member_with_arguments}
use Rattle.sudoers_line_rows.specs.Tables.{member_in_tables}
use Rattle.sudoers_line_reader.proofs.ArgumentRows.{argued_says, argued_lasts}
use Rattle.sudoers_line_reader.proofs.commands.read_arguments_into_member.Goals as goal

pub returns-clause-reads : goal.returns-clause-reads
unfolding member_with_arguments_reader
returns-clause-reads c p some =
    let old = c.args.tables.now in
    let new = c.store_command_args.new.tables in
    let m = c.args.member in
    let left = c.add_further_arguments_to_first.new.cursor in
    let read : member_with_arguments_reader p (member_in_tables old m) c.args.cursor.now ≡ Read (member_with_arguments p (member_in_tables old m) (c.in_ok-args.args, c.in_ok-args.stop)) left = search rules in (
      read
          ∙ ap (λ (x : Member). Read x left) (argued_says old new m c.in_ok-args-2.args c.in_ok-args.args c.replace_command_args.result p c.in_ok-args-2.ensures.grown c.requires c.in_ok-args-2.ensures.keeps c.replace_command_args.ensures some
          c.in_ok-args.stop c.in_ok-stop.stop c.in_ok-stop.ensures),
      argued_lasts old new m c.in_ok-args-2.args c.in_ok-args.args c.replace_command_args.result p c.in_ok-args-2.ensures.grown c.requires c.in_ok-args-2.ensures.keeps c.replace_command_args.ensures some c.in_ok-stop.stop,
    )
