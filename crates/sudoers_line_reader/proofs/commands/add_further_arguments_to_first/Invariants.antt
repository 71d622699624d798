use Rattle.std.proofs.Common.{◌≡◌, length}
use Rattle.sudoers_grammar.specs.declared.node.Args.TheVariants.{Any}
use Rattle.sudoers_grammar.specs.Arguments.{args_with_one_more}
use Rattle.sudoers_line_reader.specs.Reader.{repetition_reader, passing_token_reader}
use Rattle.sudoers_line_reader.specs.Descent.{args_and_stop_with_one_more, is_argument_token}
use Rattle.sudoers_line_reader.proofs.commands.add_further_arguments_to_first.Given as goal

abbrev pub invariant-loop-alloc : goal.invariant-loop-alloc
invariant-loop-alloc l =
    repetition_reader args_and_stop_with_one_more is_argument_token (passing_token_reader is_argument_token) (args_with_one_more Any l.fn.first.text.now, l.fn.first.stop) l.fn.cursor ≡ repetition_reader args_and_stop_with_one_more is_argument_token (passing_token_reader is_argument_token) (l.args, l.stop) l.cursor

abbrev pub decreases-loop-alloc : goal.decreases-loop-alloc
decreases-loop-alloc l = length l.cursor
