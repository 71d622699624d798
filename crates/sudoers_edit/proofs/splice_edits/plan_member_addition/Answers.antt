use Rattle.sudoers_edit.proofs.Common.{AddMember, AreSoundParsedLines, Def, DefinitionFilePlace, DropMember, EditFault, EditReplacesFileLine, IsAliasDefinedAt, IsRefusalOrNoMemory, Kind, Line, LineTexts, List, LoadedPolicy, Result, []}
use Rattle.sudoers_edit.proofs.Common.{alias_definition_of_view, ap, inr, line_of_view, lines_of_numbered_file, lines_with_item_put_in, lines_with_member_added, named_files_of_policy, place_within_file_of_definition}
use Rattle.sudoers_edit.proofs.Common.{slice_get_within, subst, sym, ℕ, ◌∙◌, ◌∷◌, ◌≡◌}
use Rattle.sudoers_edit.specs.declared.extra_item.ItemListKind.TheVariants as among
use Rattle.sudoers_edit.proofs.DefLemmas.{refusal_of_lines_is_refusal_of_edit, fault_of_lines_is_fault_of_edit}
use Rattle.sudoers_edit.proofs.MemberLemmas.{member_addition_at_alias_puts_item_in, member_addition_replaces_file_line, alias_refusal_refuses_member_edits, edit_at_defined_alias_edits_its_file}
use Rattle.sudoers_edit.proofs.SwapLemmas.{owned_start_of_member_is_within_line}
use Rattle.sudoers_edit.proofs.LawsBelow.{lines_of_loaded_file_are_sound_parsed, member_edit_laws_hold}
use Rattle.sudoers_edit.proofs.WayBackLemmas.{numbered_line_reads_as_its_node}
use Rattle.sudoers_edit.proofs.splice_edits.plan_member_addition.Goals as goal

pub returns-in-Err : goal.returns-in-Err
returns-in-Err c = inr (alias_refusal_refuses_member_edits c.args.kind c.args.name.now c.args.at c.args.splice.now c.args.policy.now c.in-Err.fault c.in-Err.ensures.refused).0

pub returns-in-Err-find_offset_to_add_item : goal.returns-in-Err-find_offset_to_add_item
returns-in-Err-find_offset_to_add_item c =
    let policy : LoadedPolicy = c.args.policy.now in
    let place : DefinitionFilePlace = c.in-Ok.found.0 in
    let line : Line = line_of_view c.in-Ok.found.1 in
    let d : Def = alias_definition_of_view c.in-Ok.found.2 in
    let lines : List Line = lines_of_numbered_file policy.files place.file in
    let next : ℕ → Result LineTexts EditFault = λ from. lines_with_item_put_in (among.Members place.def) c.args.at from place.line c.args.splice.now line lines in
    inr (edit_at_defined_alias_edits_its_file c.args.kind c.args.name.now policy place line d (λ p. lines_with_member_added p c.args.at c.args.splice.now) c.in-Ok.ensures.found
    ∙ refusal_of_lines_is_refusal_of_edit policy place.file (lines_with_member_added (place_within_file_of_definition place) c.args.at c.args.splice.now lines) c.in-Err-find_offset_to_add_item.fault
    (member_addition_at_alias_puts_item_in c.args.at c.args.splice.now c.args.kind c.args.name.now policy place line d c.in-Ok.ensures.found ∙ c.in-Err-find_offset_to_add_item.ensures next))

pub returns-in-Err-add_item_to_line : goal.returns-in-Err-add_item_to_line
returns-in-Err-add_item_to_line c =
    let policy : LoadedPolicy = c.args.policy.now in
    let place : DefinitionFilePlace = c.in-Ok.found.0 in
    let line : Line = line_of_view c.in-Ok.found.1 in
    let d : Def = alias_definition_of_view c.in-Ok.found.2 in
    let lines : List Line = lines_of_numbered_file policy.files place.file in
    let fault = c.in-Err-add_item_to_line.fault in
    let next : ℕ → Result LineTexts EditFault = λ from. lines_with_item_put_in (among.Members place.def) c.args.at from place.line c.args.splice.now line lines in
    subst (λ r. IsRefusalOrNoMemory fault r)
    (sym (edit_at_defined_alias_edits_its_file c.args.kind c.args.name.now policy place line d (λ p. lines_with_member_added p c.args.at c.args.splice.now) c.in-Ok.ensures.found))
    (fault_of_lines_is_fault_of_edit policy place.file fault (lines_with_member_added (place_within_file_of_definition place) c.args.at c.args.splice.now lines)
    (subst (λ r. IsRefusalOrNoMemory fault r)
    (sym (member_addition_at_alias_puts_item_in c.args.at c.args.splice.now c.args.kind c.args.name.now policy place line d c.in-Ok.ensures.found ∙ (c.in-Ok-find_offset_to_add_item.ensures next).0))
    (c.in-Err-add_item_to_line.ensures.outcome place.line lines)))

pub add_item_to_line-requires : goal.add_item_to_line-requires
add_item_to_line-requires c =
    let policy : LoadedPolicy = c.args.policy.now in
    let place : DefinitionFilePlace = c.in-Ok.found.0 in
    let line : Line = line_of_view c.in-Ok.found.1 in
    let d : Def = alias_definition_of_view c.in-Ok.found.2 in
    let lines : List Line = lines_of_numbered_file policy.files place.file in
    let next : ℕ → Result LineTexts EditFault = λ from. lines_with_item_put_in (among.Members place.def) c.args.at from place.line c.args.splice.now line lines in
    let is : IsAliasDefinedAt c.args.kind c.args.name.now policy place line d = c.in-Ok.ensures.found in
    let sound : AreSoundParsedLines lines = lines_of_loaded_file_are_sound_parsed (named_files_of_policy policy) policy c.allocator_of-alloc.ensures place.file in (
      owned_start_of_member_is_within_line lines place.line place.def c.args.at c.in-Ok-find_offset_to_add_item.from line is.defs d sound is.here is.makes is.stands
          ((c.in-Ok-find_offset_to_add_item.ensures next).1),
      numbered_line_reads_as_its_node lines place.line line sound.says is.here,
    )

pub plan_line_replacement-requires : goal.plan_line_replacement-requires
plan_line_replacement-requires c =
    slice_get_within (lines_of_numbered_file c.args.policy.now.files c.in-Ok.found.0.file) c.in-Ok.found.0.line (line_of_view c.in-Ok.found.1) c.in-Ok.ensures.found.here

pub returns : goal.returns
returns c =
    let k : Kind = c.args.kind in
    let name : List ℕ = c.args.name.now in
    let at : ℕ = c.args.at in
    let s : List ℕ = c.args.splice.now in
    let policy : LoadedPolicy = c.args.policy.now in
    let place : DefinitionFilePlace = c.in-Ok.found.0 in
    let line : Line = line_of_view c.in-Ok.found.1 in
    let d : Def = alias_definition_of_view c.in-Ok.found.2 in
    let text : List ℕ = c.in-Ok-add_item_to_line.text.items in
    let lines : List Line = lines_of_numbered_file policy.files place.file in
    let next : ℕ → Result LineTexts EditFault = λ from. lines_with_item_put_in (among.Members place.def) at from place.line s line lines in
    let leads : EditReplacesFileLine (AddMember k name at s) (DropMember k name at) (DropMember k name at ∷ []) policy place.file place.line text =
    member_addition_replaces_file_line member_edit_laws_hold k name at c.in-Ok-find_offset_to_add_item.from s text policy place line d c.allocator_of-alloc.ensures c.in-Ok.ensures.found c.in-Ok-add_item_to_line.ensures.put
    (member_addition_at_alias_puts_item_in at s k name policy place line d c.in-Ok.ensures.found ∙ (c.in-Ok-find_offset_to_add_item.ensures next).0 ∙ c.in-Ok-add_item_to_line.ensures.outcome place.line lines) in
    let inverse : DropMember k name at ∷ [] ≡ c.in_ok-inverse.inverse = ap (λ z. DropMember k z at ∷ []) (sym c.in_ok-name.ensures) ∙ sym c.in_ok-inverse.ensures in
    c.plan_line_replacement.ensures (AddMember k name at s) (DropMember k name at)
    (subst (λ i. EditReplacesFileLine (AddMember k name at s) (DropMember k name at) i policy place.file place.line text) inverse leads)
