use Rattle.std.proofs.Common.{◌≡◌, ◌++◌, drop, map}
use Rattle.sudoers_forms.specs.Seen.{model_of_judged_token}
use Rattle.sudoers_forms.specs.Forms.{list_by_table}
use Rattle.sudoers_forms.specs.Answers.{answer_of_token}
use Rattle.sudoers_forms.proofs.other_answer.append_answers_of_tokens.Given as goal

abbrev pub invariant-loop-token : goal.invariant-loop-token
invariant-loop-token l =
    l.answers.items ++ list_by_table (answer_of_token l.number) (map model_of_judged_token (drop l.token-index l.tokens))
    ≡ l.initial.answers.items ++ list_by_table (answer_of_token l.number) (map model_of_judged_token l.tokens)
