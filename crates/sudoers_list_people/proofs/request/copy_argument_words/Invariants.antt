use Rattle.std.proofs.Common.{◌≡◌, ◌++◌, drop}
use Rattle.sudoers_list_people.specs.Asked.{argument_words_after_first}
use Rattle.sudoers_list_people.proofs.request.copy_argument_words.Given as goal

abbrev pub invariant-loop-word : goal.invariant-loop-word
invariant-loop-word l = l.args.items ++ drop l.word-index l.rest ≡ argument_words_after_first l.words
