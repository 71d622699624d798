use Rattle.std.proofs.Common.{◌≡◌, ◌∙◌, sym, ap, subst, List, [], ℕ}
use Rattle.std.specs.Prelude.{Result}
use Rattle.sudoers_edit_script.specs.Physical.{physical_lines}
use Rattle.sudoers_edit_script.specs.ScriptReading.{edits_spelled_by_text, MatchesScriptReading}
use Rattle.sudoers_edit_script.specs.internal.ScriptStanding.{result_of_remaining_lines}
use Rattle.sudoers_edit_script.specs.declared.edit.Edit.{Edit}
use Rattle.sudoers_edit_script.specs.declared.script_reader.ScriptFault.{ScriptFault}
use Rattle.sudoers_edit_script.proofs.ScriptLemmas.{edits_of_reading_are_spelled_by_text, text_of_length_zero_is_empty}
use Rattle.sudoers_edit_script.proofs.script_reader.read_script.Goals as goal

pub returns-clause-edits : goal.returns-clause-edits
returns-clause-edits c =
    let none : c.loop-rest.rest.now ≡ [] = text_of_length_zero_is_empty c.loop-rest.rest.now (sym c.is_empty.ensures ∙ c.loop-rest-test.false) in
    let whole : result_of_remaining_lines c.loop-rest.reading [] ≡ edits_spelled_by_text c.args.text.now = ap (λ (r : List ℕ). result_of_remaining_lines c.loop-rest.reading (physical_lines r)) (sym none) ∙ c.loop-rest.invariant.1 in
    edits_of_reading_are_spelled_by_text c.finish_script.result c.args.text.now (subst (λ (r : Result (List Edit) ScriptFault). MatchesScriptReading c.finish_script.result r) whole c.finish_script.ensures)
