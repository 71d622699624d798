use Rattle.sudoers_grammar.proofs.Words.{tag_words_agree_with_grammar_tags, option_words_agree_with_grammar_options, digest_words_agree_with_grammar_kinds, include_words_agree_with_grammar_words}
use Rattle.sudoers_grammar.proofs.laws.words_agree.Goals as goal

pub returns-clause-tags : goal.returns-clause-tags
returns-clause-tags c = tag_words_agree_with_grammar_tags

pub returns-clause-options : goal.returns-clause-options
returns-clause-options c = option_words_agree_with_grammar_options

pub returns-clause-digests : goal.returns-clause-digests
returns-clause-digests c = digest_words_agree_with_grammar_kinds

pub returns-clause-includes : goal.returns-clause-includes
returns-clause-includes c = include_words_agree_with_grammar_words
