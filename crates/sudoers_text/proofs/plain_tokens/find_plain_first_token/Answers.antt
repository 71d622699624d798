use Rattle.std.proofs.Common.{◌∙◌, false}
use Rattle.sudoers_text.specs.Context.{token_forms_in_word_lists}
use Rattle.sudoers_text.proofs.FirstBytes.{begun_line_has_no_include_word}
use Rattle.sudoers_text.proofs.plain_tokens.find_plain_first_token.Goals as goal

pub returns-clause-found : goal.returns-clause-found
returns-clause-found c = c.find_plain_token_among_words.ensures.found ∙ begun_line_has_no_include_word token_forms_in_word_lists false c.args.bytes.now
