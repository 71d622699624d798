use Rattle.sudoers_edit.proofs.Common.{AddMember, AreSoundParsedLines, Def, DefinitionFilePlace, DropMember, EditFault, EditReplacesFileLine, IsAliasDefinedAt, IsRefusalOrNoMemory, Kind, Line, LineTexts, List, LoadedPolicy, Result, Some}
use Rattle.sudoers_edit.proofs.Common.{[], alias_definition_of_view, bytes_between, extents_of_members, inr, line_of_view, lines_of_numbered_file, lines_with_item_cut_out, lines_with_member_dropped}
use Rattle.sudoers_edit.proofs.Common.{named_files_of_policy, owned_bytes_start, owned_bytes_stop, place_within_file_of_definition, refl, slice_get_within, subst, sym, ℕ, ◌∙◌, ◌∷◌, ◌≡◌}
use Rattle.sudoers_edit.specs.declared.extra_item.ItemListKind.TheVariants as among
use Rattle.sudoers_edit.proofs.DefLemmas.{refusal_of_lines_is_refusal_of_edit, fault_of_lines_is_fault_of_edit}
use Rattle.sudoers_edit.proofs.MemberLemmas.{alias_refusal_refuses_member_edits, edit_at_defined_alias_edits_its_file, member_drop_at_alias_cuts_item_out, member_drop_replaces_file_line}
use Rattle.sudoers_edit.proofs.SwapLemmas.{owned_bytes_of_member_are_within_line}
use Rattle.sudoers_edit.proofs.LawsBelow.{lines_of_loaded_file_are_sound_parsed, member_edit_laws_hold}
use Rattle.sudoers_edit.proofs.WayBackLemmas.{numbered_line_reads_as_its_node}
use Rattle.sudoers_edit.proofs.splice_edits.plan_member_drop.Goals as goal

pub returns-in-Err : goal.returns-in-Err
returns-in-Err c = inr (alias_refusal_refuses_member_edits c.args.kind c.args.name.now c.args.at [] c.args.policy.now c.in-Err.fault c.in-Err.ensures.refused).1

pub returns-in-Err-find_bytes_to_drop_item : goal.returns-in-Err-find_bytes_to_drop_item
returns-in-Err-find_bytes_to_drop_item c =
    let policy : LoadedPolicy = c.args.policy.now in
    let place : DefinitionFilePlace = c.in-Ok.found.0 in
    let line : Line = line_of_view c.in-Ok.found.1 in
    let d : Def = alias_definition_of_view c.in-Ok.found.2 in
    let lines : List Line = lines_of_numbered_file policy.files place.file in
    let next : ℕ → ℕ → Result LineTexts EditFault = λ from to. lines_with_item_cut_out (among.Members place.def) c.args.at from to place.line line lines in
    inr (edit_at_defined_alias_edits_its_file c.args.kind c.args.name.now policy place line d (λ p. lines_with_member_dropped p c.args.at) c.in-Ok.ensures.found
    ∙ refusal_of_lines_is_refusal_of_edit policy place.file (lines_with_member_dropped (place_within_file_of_definition place) c.args.at lines) c.in-Err-find_bytes_to_drop_item.fault
    (member_drop_at_alias_cuts_item_out c.args.at c.args.kind c.args.name.now policy place line d c.in-Ok.ensures.found ∙ c.in-Err-find_bytes_to_drop_item.ensures next))

pub returns-in-Err-cut_item_from_line : goal.returns-in-Err-cut_item_from_line
returns-in-Err-cut_item_from_line c =
    let policy : LoadedPolicy = c.args.policy.now in
    let place : DefinitionFilePlace = c.in-Ok.found.0 in
    let line : Line = line_of_view c.in-Ok.found.1 in
    let d : Def = alias_definition_of_view c.in-Ok.found.2 in
    let lines : List Line = lines_of_numbered_file policy.files place.file in
    let fault = c.in-Err-cut_item_from_line.fault in
    let next : ℕ → ℕ → Result LineTexts EditFault = λ from to. lines_with_item_cut_out (among.Members place.def) c.args.at from to place.line line lines in
    subst (λ r. IsRefusalOrNoMemory fault r)
    (sym (edit_at_defined_alias_edits_its_file c.args.kind c.args.name.now policy place line d (λ p. lines_with_member_dropped p c.args.at) c.in-Ok.ensures.found))
    (fault_of_lines_is_fault_of_edit policy place.file fault (lines_with_member_dropped (place_within_file_of_definition place) c.args.at lines)
    (subst (λ r. IsRefusalOrNoMemory fault r)
    (sym (member_drop_at_alias_cuts_item_out c.args.at c.args.kind c.args.name.now policy place line d c.in-Ok.ensures.found ∙ (c.in-Ok-find_bytes_to_drop_item.ensures next).0))
    (c.in-Err-cut_item_from_line.ensures.outcome place.line lines)))

pub cut_item_from_line-requires : goal.cut_item_from_line-requires
cut_item_from_line-requires c =
    let policy : LoadedPolicy = c.args.policy.now in
    let place : DefinitionFilePlace = c.in-Ok.found.0 in
    let line : Line = line_of_view c.in-Ok.found.1 in
    let d : Def = alias_definition_of_view c.in-Ok.found.2 in
    let lines : List Line = lines_of_numbered_file policy.files place.file in
    let next : ℕ → ℕ → Result LineTexts EditFault = λ from to. lines_with_item_cut_out (among.Members place.def) c.args.at from to place.line line lines in
    let is : IsAliasDefinedAt c.args.kind c.args.name.now policy place line d = c.in-Ok.ensures.found in
    let bytes = c.in-Ok-find_bytes_to_drop_item.ensures next in
    let begins : owned_bytes_start c.args.at (extents_of_members d.members) ≡ Some c.in-Ok-find_bytes_to_drop_item.bytes.0 = bytes.1 in
    let stops : owned_bytes_stop c.args.at (extents_of_members d.members) ≡ Some c.in-Ok-find_bytes_to_drop_item.bytes.1 = bytes.2 in
    let sound : AreSoundParsedLines lines = lines_of_loaded_file_are_sound_parsed (named_files_of_policy policy) policy c.allocator_of-alloc.ensures place.file in
    let within = owned_bytes_of_member_are_within_line lines place.line place.def c.args.at c.in-Ok-find_bytes_to_drop_item.bytes.0 c.in-Ok-find_bytes_to_drop_item.bytes.1 line is.defs d
    sound is.here is.makes is.stands begins stops in
    (within.0, within.1, numbered_line_reads_as_its_node lines place.line line sound.says is.here)

pub plan_line_replacement-requires : goal.plan_line_replacement-requires
plan_line_replacement-requires c =
    slice_get_within (lines_of_numbered_file c.args.policy.now.files c.in-Ok.found.0.file) c.in-Ok.found.0.line (line_of_view c.in-Ok.found.1) c.in-Ok.ensures.found.here

pub returns : goal.returns
returns c =
    let k : Kind = c.args.kind in
    let name : List ℕ = c.args.name.now in
    let at : ℕ = c.args.at in
    let policy : LoadedPolicy = c.args.policy.now in
    let place : DefinitionFilePlace = c.in-Ok.found.0 in
    let line : Line = line_of_view c.in-Ok.found.1 in
    let d : Def = alias_definition_of_view c.in-Ok.found.2 in
    let from : ℕ = c.in-Ok-find_bytes_to_drop_item.bytes.0 in
    let to : ℕ = c.in-Ok-find_bytes_to_drop_item.bytes.1 in
    let s : List ℕ = bytes_between from to line.text in
    let text : List ℕ = c.in-Ok-cut_item_from_line.text.items in
    let lines : List Line = lines_of_numbered_file policy.files place.file in
    let next : ℕ → ℕ → Result LineTexts EditFault = λ from to. lines_with_item_cut_out (among.Members place.def) at from to place.line line lines in
    let bytes = c.in-Ok-find_bytes_to_drop_item.ensures next in
    let begins : owned_bytes_start at (extents_of_members d.members) ≡ Some from = bytes.1 in
    let stops : owned_bytes_stop at (extents_of_members d.members) ≡ Some to = bytes.2 in
    let leads : EditReplacesFileLine (DropMember k name at) (AddMember k name at s) (AddMember k name at s ∷ []) policy place.file place.line text =
    member_drop_replaces_file_line member_edit_laws_hold k name at from to s text policy place line d c.allocator_of-alloc.ensures c.in-Ok.ensures.found begins stops c.in-Ok-cut_item_from_line.ensures.cut refl
    (member_drop_at_alias_cuts_item_out at k name policy place line d c.in-Ok.ensures.found ∙ bytes.0 ∙ c.in-Ok-cut_item_from_line.ensures.outcome place.line lines) in
    let inverse : AddMember k name at s ∷ [] ≡ c.in_ok-inverse.inverse = sym c.in_ok-inverse.ensures in
    c.plan_line_replacement.ensures (DropMember k name at) (AddMember k name at s)
    (subst (λ i. EditReplacesFileLine (DropMember k name at) (AddMember k name at s) i policy place.file place.line text) inverse leads)
