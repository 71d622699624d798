-- What `convert` writes for a policy.
use Rattle.std.specs.Prelude.{◌≡◌, ◌⊎◌, ◌&&◌, ◌||◌, nat_lt, ℕ, Bool, true, List, Option, Some, None, Result, Ok, Err, if◌then◌else◌}
use Rattle.std.specs.Borrow.{Bor}
use Rattle.std.specs.Option.{is_some, option_map}
use Rattle.sudoers_tree.specs.Line.{Line}
use Rattle.sudoers_tree.specs.declared.named_files.NamedFile.{NamedFile}
use Rattle.sudoers_tree.specs.declared.load_fault.LoadFault.{LoadFault}
use Rattle.sudoers_tree.specs.Load.{LoadedPolicy}
use Rattle.sudoers_cvt_rules.specs.declared.fault.CvtFault.{CvtFault}
use Rattle.sudoers_cvt_rules.specs.declared.fault.CvtFault.TheVariants.{Cycle, TooLarge, NotUtf8}
use Rattle.sudoers_cvt_rules.specs.Rules.{Rules, rules_of_policy_lines, is_printed_within_limits, printed_rules}
use Rattle.sudoers_cvt_rewrite.specs.declared.filter.Filter.{Filter}
use Rattle.sudoers_cvt_rewrite.specs.declared.filter_text.FilterFault.{FilterFault}
use Rattle.sudoers_cvt_rewrite.specs.FilterText.{filter_read_from_text}
use Rattle.sudoers_match_list.specs.Flattened.{expanded_member_limit}
use Rattle.sudoers_cvt_rewrite.specs.Rewrite.{PolicyChanges, has_reachable_alias_cycle, member_count_of_rules, rewritten_lines_of_policy, rules_with_used_definitions}
use Rattle.sudoers_cvt_json.specs.Value.{json_text_of_rules, rules_object_value}
use Rattle.sudoers_cvt_json.specs.Unicode.{are_texts_of_value_unicode}
use Rattle.sudoers_run.specs.declared.output_form.OutputForm.{OutputForm}
use Rattle.sudoers_run.specs.declared.output_form.OutputForm.TheVariants as form
use Rattle.sudoers_run.specs.declared.command_words.ConvertWords.{ConvertWords}
use Rattle.sudoers_run.specs.declared.fault.LayerFault.{LayerFault}
use Rattle.sudoers_run.specs.declared.fault.LayerFault.TheVariants as layer
use Rattle.sudoers_run.specs.declared.fault.ToolFault.{ToolFault}
use Rattle.sudoers_run.specs.Faults.{IsFilterFaultNotMemory, IsWriteFaultOr}
use Rattle.sudoers_edit.specs.Memory.{IsMemoryFreeLoadFault}
use Rattle.sudoers_run.specs.Policy.{IsFaultBeforeLoading, IsStatedOrOutsideFault, result_after_loading_from_root}

-- rules as the text of a policy, if it is within the limits; or as JSON, if all their texts are UTF-8
abbrev pub rules_text_in_form : OutputForm → Rules → Result (List ℕ) LayerFault
rules_text_in_form form.Sudoers rules = if is_printed_within_limits rules then Ok (printed_rules rules) else Err (layer.Convert TooLarge)
rules_text_in_form form.Json rules = if are_texts_of_value_unicode (rules_object_value rules) then Ok (json_text_of_rules rules) else Err (layer.Convert NotUtf8)

-- The rules of a policy that is filtered or expanded. No reachable alias may be cyclic, and expanded rules have a limit of members.
abbrev pub rewritten_rules_text : OutputForm → PolicyChanges → List Line → Result (List ℕ) LayerFault
rewritten_rules_text f c lines =
    if has_reachable_alias_cycle lines then Err (layer.Convert Cycle)
    else if c.expand && nat_lt expanded_member_limit (member_count_of_rules (rewritten_lines_of_policy c lines)) then Err (layer.Convert TooLarge)
    else rules_text_in_form f (rules_with_used_definitions (rewritten_lines_of_policy c lines))

-- Without a filter and without `-e` the rules are those of the policy, unused definitions too.
abbrev pub rules_text_changed_if_asked : OutputForm → PolicyChanges → List Line → Result (List ℕ) LayerFault
rules_text_changed_if_asked f c lines = if is_some c.filter || c.expand then rewritten_rules_text f c lines else rules_text_in_form f (rules_of_policy_lines lines)

-- the filter of the command line, if there is one
abbrev pub some_filter_or_layer_fault : Result Filter FilterFault → Result (Option Filter) LayerFault
some_filter_or_layer_fault (Ok filter) = Ok (Some filter)
some_filter_or_layer_fault (Err fault) = Err (layer.Filter fault)

abbrev pub optional_filter_of_optional_text : Option (List ℕ) → Result (Option Filter) LayerFault
optional_filter_of_optional_text None = Ok None
optional_filter_of_optional_text (Some text) = some_filter_or_layer_fault (filter_read_from_text text)

abbrev pub changes_of_convert_words : ConvertWords → Option Filter → PolicyChanges
changes_of_convert_words words filter = record { filter = filter; prune = words.prune; expand = words.expand }

abbrev pub filter_text_of_words : ConvertWords → Option (List ℕ)
filter_text_of_words words = option_map (λ (text : Bor (List ℕ)). text.now) words.filter

abbrev pub convert_output_of_filter : ConvertWords → List Line → Result (Option Filter) LayerFault → Result (List ℕ) LayerFault
convert_output_of_filter words lines (Ok filter) = rules_text_changed_if_asked words.form (changes_of_convert_words words filter) lines
convert_output_of_filter words lines (Err fault) = Err fault

abbrev pub convert_output_of_lines : ConvertWords → List Line → Result (List ℕ) LayerFault
convert_output_of_lines words lines = convert_output_of_filter words lines (optional_filter_of_optional_text (filter_text_of_words words))

-- the rules of a policy in this form, or the fault of files that are none
abbrev pub convert_output_of_loading : ConvertWords → Result LoadedPolicy LoadFault → Result (List ℕ) LayerFault
convert_output_of_loading words (Ok policy) = convert_output_of_lines words policy.walk.lines
convert_output_of_loading words (Err fault) = Err (layer.Load fault)

-- the same of the policy that these files are from `root` on
abbrev pub convert_output : ConvertWords → List ℕ → List NamedFile → Result (List ℕ) LayerFault
convert_output words root known = result_after_loading_from_root (convert_output_of_loading words) root known

-- a fault that the files have, or the words; those of the devices and of memory say nothing of them
abbrev pub IsStatedOrOutsideConvertFault : ConvertWords → List ℕ → ToolFault → List NamedFile → Type 0
IsStatedOrOutsideConvertFault words root fault known = IsWriteFaultOr (λ (said : LayerFault). IsStatedOrOutsideFault said (convert_output words root known)) fault

-- the one fault that rules can have in this form
abbrev pub fault_of_output_form : OutputForm → CvtFault
fault_of_output_form form.Sudoers = TooLarge
fault_of_output_form form.Json = NotUtf8

-- the faults of a filter
abbrev pub IsFilterFault : LayerFault → Type 0
IsFilterFault (layer.Filter fault) = IsFilterFaultNotMemory fault
IsFilterFault (layer.Gather fault) = ⊥
IsFilterFault (layer.Load fault) = ⊥
IsFilterFault (layer.Convert fault) = ⊥
IsFilterFault (layer.Script fault) = ⊥
IsFilterFault (layer.Edit place fault) = ⊥
IsFilterFault (layer.People fault) = ⊥
IsFilterFault (layer.Who fault) = ⊥
IsFilterFault (layer.Ask fault) = ⊥
IsFilterFault layer.NoMemory = ⊥

-- The fault of the form; or an alias is cyclic; or aliases are replaced, and there are too many members.
abbrev pub IsRewriteFault : OutputForm → Bool → LayerFault → Type 0
IsRewriteFault f expand fault =
    (fault ≡ layer.Convert (fault_of_output_form f)) ⊎ ((fault ≡ layer.Convert Cycle) ⊎ ((fault ≡ layer.Convert TooLarge) × (expand ≡ true)))

-- The fault of the form; or, where rules are filtered or aliases replaced, an alias is cyclic; or aliases are replaced, and there are
-- too many members.
abbrev pub IsPolicyConversionFault : ConvertWords → CvtFault → Type 0
IsPolicyConversionFault words fault =
    (fault ≡ fault_of_output_form words.form)
    ⊎ (((fault ≡ Cycle) × ((is_some (filter_text_of_words words) || words.expand) ≡ true)) ⊎ ((fault ≡ TooLarge) × (words.expand ≡ true)))

-- The faults of converting files that are gathered. A fault of a filter is that of the words.
abbrev pub IsGatheredConvertFault : ConvertWords → LayerFault → Type 0
IsGatheredConvertFault words (layer.Load fault) = IsMemoryFreeLoadFault fault
IsGatheredConvertFault words (layer.Gather fault) = ⊥
IsGatheredConvertFault words layer.NoMemory = Unit {0}
IsGatheredConvertFault words (layer.Convert fault) = IsPolicyConversionFault words fault
IsGatheredConvertFault words (layer.Filter fault) = IsFilterFaultNotMemory fault × (optional_filter_of_optional_text (filter_text_of_words words) ≡ Err (layer.Filter fault))
IsGatheredConvertFault words (layer.Script fault) = ⊥
IsGatheredConvertFault words (layer.Edit place fault) = ⊥
IsGatheredConvertFault words (layer.People fault) = ⊥
IsGatheredConvertFault words (layer.Who fault) = ⊥
IsGatheredConvertFault words (layer.Ask fault) = ⊥

-- the faults of converting a policy
abbrev pub IsConvertFault : ConvertWords → ToolFault → Type 0
IsConvertFault words fault = IsWriteFaultOr (λ (said : LayerFault). IsFaultBeforeLoading said ⊎ IsGatheredConvertFault words said) fault
