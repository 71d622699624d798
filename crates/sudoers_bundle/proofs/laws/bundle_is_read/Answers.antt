use Rattle.sudoers_bundle.proofs.FileLemmas.{bundle_of_files_is_read_back}
use Rattle.sudoers_bundle.proofs.laws.bundle_is_read.Goals as goal

pub returns : goal.returns
returns c = bundle_of_files_is_read_back
