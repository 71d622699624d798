use Rattle.std.proofs.Common.{rules}
use Rattle.sudoers_edit.proofs.NamedLaw.{script_of_named_edits_is_spelling}
use Rattle.sudoers_run.proofs.edit.make_edit_output.Goals as goal

pub returns-in_err-out-clause-output : goal.returns-in_err-out-clause-output
returns-in_err-out-clause-output c =
    let written = script_of_named_edits_is_spelling c.args.inverse.now c.requires in
    search (rules, written)
