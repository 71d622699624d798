use Rattle.std.proofs.Common.{sym, ap, ◌∙◌}
use Rattle.sudoers_grammar.specs.declared.node.Args.{Args}
use Rattle.sudoers_grammar.specs.Seen.{model_of_token_part}
use Rattle.sudoers_line_reader.specs.Reader.{repetition_reader, passing_token_reader}
use Rattle.sudoers_line_reader.specs.Descent.{args_and_stop_with_one_more, is_argument_token}
use Rattle.sudoers_line_reader.proofs.Loops.{argument_token_is_added_and_goes_on, arguments_end_before_other_token, argument_reader_consumes_tokens}
use Rattle.sudoers_line_reader.proofs.commands.add_further_arguments_to_first.Goals as goal

pub loop-alloc-smaller : goal.loop-alloc-smaller
loop-alloc-smaller c = argument_reader_consumes_tokens.less c.loop-alloc.cursor _ c.expect_argument.new.self c.in_ok-part.ensures

pub loop-alloc-preserved : goal.loop-alloc-preserved
loop-alloc-preserved c =
    c.loop-alloc.invariant
    ∙ argument_token_is_added_and_goes_on (c.loop-alloc.args, c.loop-alloc.stop) c.loop-alloc.cursor c.expect_argument.new.self (model_of_token_part c.in_ok-part.part) (sym c.is_at_argument.ensures ∙ c.loop-alloc-test.true) c.in_ok-part.ensures
    ∙ ap (λ (args : Args). repetition_reader args_and_stop_with_one_more is_argument_token (passing_token_reader is_argument_token) (args, c.in_ok-part.part.stop) c.expect_argument.new.self) (sym c.in_ok-args-2.ensures)

pub returns : goal.returns
returns c = c.loop-alloc.invariant ∙ arguments_end_before_other_token (c.loop-alloc.args, c.loop-alloc.stop) c.loop-alloc.cursor (sym c.is_at_argument.ensures ∙ c.loop-alloc-test.false)
