use Rattle.sudoers_edit.proofs.SpliceLemmas.{splice_put_in_is_taken_out, bytes_taken_out_are_put_in_again}
use Rattle.sudoers_edit.proofs.owned_bytes.splices_are_undone.Goals as goal

pub returns-clause-taken : goal.returns-clause-taken
returns-clause-taken c = splice_put_in_is_taken_out

pub returns-clause-put : goal.returns-clause-put
returns-clause-put c = bytes_taken_out_are_put_in_again
