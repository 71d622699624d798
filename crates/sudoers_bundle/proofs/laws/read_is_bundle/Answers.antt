use Rattle.sudoers_bundle.proofs.FileLemmas.{files_of_text_have_it_as_bundle}
use Rattle.sudoers_bundle.proofs.laws.read_is_bundle.Goals as goal

pub returns-clause-bundle : goal.returns-clause-bundle
returns-clause-bundle c = λ text files is. (files_of_text_have_it_as_bundle text files is).whole

pub returns-clause-held : goal.returns-clause-held
returns-clause-held c = λ text files is. (files_of_text_have_it_as_bundle text files is).held
