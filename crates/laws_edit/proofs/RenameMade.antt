-- A rename that is not refused: the alias is defined, and the new name is free.
use Rattle.std.proofs.Common.{◌≡◌, ℕ, Bool, true, false, not, ◌||◌, List, Result, Ok, refl}
use Rattle.std.proofs.lemmas.Bool.{not-false, or_parts as or_false}
use Rattle.std.specs.List.{list_any}
use Rattle.sudoers_text.specs.Renamed.{IsDefinableName}
use Rattle.sudoers_text.specs.Word.{is_name, is_reserved}
use Rattle.sudoers_grammar.specs.declared.node.Kind.{Kind}
use Rattle.sudoers_tree.specs.Definition.{definition_place_of_name}
use Rattle.sudoers_tree.specs.Fault.{is_some}
use Rattle.sudoers_tree.specs.Load.{LoadedPolicy}
use Rattle.sudoers_edit_script.specs.declared.edit.Edit.TheVariants.{Rename}
use Rattle.sudoers_edit.specs.declared.fault.EditFault.{EditFault}
use Rattle.sudoers_edit.specs.declared.fault.EditFault.TheVariants.{NoAlias, BadName, NameTaken, TooLarge}
use Rattle.sudoers_edit.specs.Landing.{result_unless_refused, is_line_too_long, policy_of_files_or_refusal}
use Rattle.sudoers_edit.specs.Renaming.{texts_of_renamed_lines, is_alias_name_in_use, policy_after_rename, named_files_after_rename}
use Rattle.sudoers_edit.specs.Editing.{step}

unrefused_edit_result_is_accepted : (b : Bool) (fault : EditFault) (r : Result LoadedPolicy EditFault) (new : LoadedPolicy) → result_unless_refused b fault r ≡ Ok new → (b ≡ false) × (r ≡ Ok new)
unrefused_edit_result_is_accepted true fault r new is = absurd cc
unrefused_edit_result_is_accepted false fault r new is = (refl, is)

-- The alias is defined, and the new name can be defined and is free.
pub record CanRenameToFreeName (k : Kind) (name fresh : List ℕ) (policy : LoadedPolicy) : Type 0 where
  pub some : is_some (definition_place_of_name k name policy.walk.lines) ≡ true
  pub new : IsDefinableName fresh
  pub free : is_alias_name_in_use k fresh policy.walk.lines ≡ false

pub accepted_rename_is_to_free_name : (k : Kind) (name fresh : List ℕ) (policy new : LoadedPolicy) → step (Rename k name fresh) policy ≡ Ok new → CanRenameToFreeName k name fresh policy
unfolding policy_after_rename
accepted_rename_is_to_free_name k name fresh policy new is =
    let long : Result LoadedPolicy EditFault =
    result_unless_refused (list_any is_line_too_long (texts_of_renamed_lines k name fresh policy.walk.lines)) TooLarge (policy_of_files_or_refusal (named_files_after_rename k name fresh policy)) in
    let taken : Result LoadedPolicy EditFault = result_unless_refused (is_alias_name_in_use k fresh policy.walk.lines) NameTaken long in
    let bad : Result LoadedPolicy EditFault = result_unless_refused (not (is_name fresh) || is_reserved fresh) BadName taken in
    let a = unrefused_edit_result_is_accepted (not (is_some (definition_place_of_name k name policy.walk.lines))) NoAlias bad new is in
    let b = unrefused_edit_result_is_accepted (not (is_name fresh) || is_reserved fresh) BadName taken new a.1 in
    let c = unrefused_edit_result_is_accepted (is_alias_name_in_use k fresh policy.walk.lines) NameTaken long new b.1 in
    let good = or_false (not (is_name fresh)) (is_reserved fresh) b.0 in
    record {
      some = not-false (is_some (definition_place_of_name k name policy.walk.lines)) a.0;
      new = (not-false (is_name fresh) good.0, good.1);
      free = c.0;
    }
