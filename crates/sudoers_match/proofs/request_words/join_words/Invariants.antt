use Rattle.sudoers_match.proofs.Common.{drop, words_each_after_space, words_joined_with_spaces, ◌++◌, ◌≡◌}
use Rattle.sudoers_match.proofs.request_words.join_words.Given as goal

abbrev pub invariant-loop-word : goal.invariant-loop-word
invariant-loop-word l = l.text.items ++ words_each_after_space (drop l.word-index l.rest) ≡ words_joined_with_spaces l.words
