use Rattle.std.proofs.Common.{Bool, ap, subst, sym, ◌∙◌, ◌≡◌}
use Rattle.sudoers_grammar.specs.declared.node.Atom.{Atom}
use Rattle.sudoers_match.specs.Answer.{IsAnswerByCommandTest, command_with_joined_arguments_of_request, is_request_command_match, words_joined_with_spaces}
use Rattle.sudoers_match.specs.Spellings.{is_spelled_command_match}
use Rattle.sudoers_match.proofs.Spelled.{sole_spelling_is_request_command}
use Rattle.sudoers_list_people.specs.Asked.{argument_words_after_first, command_of_words}
use Rattle.sudoers_ask.specs.Same.{commands_by_pairs, spelled_command_of_question}
use Rattle.sudoers_ask.proofs.laws.without_pairs_the_answer_is_that_to_the_request.Goals as goal

pub returns : goal.returns
returns c = λ lines q r answer none of.
    let path = command_of_words q.words.now in
    let args = words_joined_with_spaces (argument_words_after_first q.words.now) in
    let line : (spelled_command_of_question q).command ≡ command_with_joined_arguments_of_request r =
    ap (λ p. record { path = p; args = args }) (sym of.command) ∙ ap (λ words. record { path = r.command; args = words_joined_with_spaces words }) (sym of.args) in
    let same : is_spelled_command_match (spelled_command_of_question q) ≡ is_request_command_match r =
    sole_spelling_is_request_command (spelled_command_of_question q) r line (ap (commands_by_pairs path args) none) in
    (subst (λ (test : Atom → Bool). IsAnswerByCommandTest lines test r answer) same, subst (λ (test : Atom → Bool). IsAnswerByCommandTest lines test r answer) (sym same))
