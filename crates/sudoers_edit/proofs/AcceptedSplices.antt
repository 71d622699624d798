-- An edit that is accepted leads to a policy, and its inverse leads back: members and definitions put in and taken out.
use Rattle.sudoers_edit.proofs.Common.{AddDef, AddMember, AreSoundParsedLines, BadSplice, Bool, ByteExtent, Def, DefinitionFilePlace, DropDef, DropMember, Edit, EditFault, EditReplacesFileLine, HasFittingNumbers}
use Rattle.sudoers_edit.proofs.Common.{IsLineTextWithItemCutOut, IsLineTextWithItemPutIn, HaveFittingNumbers, IsAliasDefinedAt, ItemListKind, Kind, Line, LineTexts, List, LoadedPolicy, NoAlias, NoLine, NoPlace, Node, None, Ok, OnlyOne}
use Rattle.sudoers_edit.proofs.Common.{Option, Place, Result, Some, TooLarge, [], ap, bytes_between, definitions_of_alias_line, edit_result_and_then, extents_of_definitions, extents_of_members, false}
use Rattle.sudoers_edit.proofs.Common.{file_place_of_definition, has_inner_line_without_lf, has_one_item_more, inv, is_line_too_long, length, line_limit, line_texts_of_file, line_with_splice, line_without_bytes}
use Rattle.sudoers_edit.proofs.Common.{lines_of_numbered_file, lines_with_definition_added, lines_with_definition_dropped, lines_with_item_cut_out, lines_with_item_put_in, lines_with_member_added}
use Rattle.sudoers_edit.proofs.Common.{lines_with_member_dropped, replaced_lines_unless_too_long, lines_with_one_replaced, ltb-false, named_files_of_policy, nat_le, nat_lt, not, not-false, owned_bytes_start}
use Rattle.sudoers_edit.proofs.Common.{owned_bytes_stop, place_within_file_of_definition, policy_or_load_fault, policy_with_file_defining_alias_edited, policy_with_file_lines, reading_of_single_line, refl, result_with_bytes_to_drop_item}
use Rattle.sudoers_edit.proofs.Common.{result_with_offset_to_add_item, result_or_refusal_if_none, result_unless_refused, result_with_definition_at, result_with_line_definitions, slice_get, step, sym, texts_of_lines, true}
use Rattle.sudoers_edit.proofs.Common.{ℕ, ◌+◌, ◌==◌, ◌∙◌, ◌∷◌, ◌≡◌, ◌≤◌}
use Rattle.sudoers_grammar.specs.Node as node
use Rattle.sudoers_edit.specs.declared.extra_item.ItemListKind.TheVariants as among
use Rattle.sudoers_edit.proofs.AcceptedLines.{AcceptedEditLaws, IsReversibleStep, IsReversibleWhereAccepted, accepted_result_has_found_value, accepted_file_edit_has_file_lines, accepted_file_lines_are_ended_and_load, accepted_edit_of_file_lines_is_reversible, accepted_result_is_not_refused, accepted_sequence_has_both_results, replaced_line_keeps_logical_lines}
use Rattle.sudoers_edit.proofs.DefLemmas.{definition_addition_replaces_file_line as def_add_replaces, definition_drop_replaces_file_line as def_drop_replaces}
use Rattle.sudoers_edit.proofs.LandLemmas.{lines_of_loaded_file_are_sound}
use Rattle.sudoers_edit.proofs.MemberLemmas.{member_addition_replaces_file_line, member_drop_replaces_file_line}
use Rattle.sudoers_edit.proofs.ReplaceLemmas.{ended_replacement_sets_file_lines}
use Rattle.sudoers_edit.proofs.SwapLemmas.{owned_start_of_definition_is_within_line, owned_bytes_of_definition_are_within_text, owned_start_of_member_is_within_line, owned_bytes_of_member_are_within_line}

-- OUTCOMES

pub accepted_splice_has_start_offset : (at : ℕ) (xs : List ByteExtent) (next : ℕ → Result LineTexts EditFault) (new : LineTexts) → result_with_offset_to_add_item at xs next ≡ Ok new
    → (from : ℕ) × (owned_bytes_start at xs ≡ Some from) × (next from ≡ Ok new)
accepted_splice_has_start_offset at xs next new e =
    accepted_result_has_found_value (owned_bytes_start at xs) BadSplice next new (accepted_result_is_not_refused (nat_lt (length xs) at) NoPlace (result_or_refusal_if_none (owned_bytes_start at xs) BadSplice next) new e).1

-- The bytes that go with one that is taken out.
record HasOwnedBytesAndResult (at : ℕ) (xs : List ByteExtent) (next : ℕ → ℕ → Result LineTexts EditFault) (new : LineTexts) : Type 0 where
  from : ℕ
  to : ℕ
  begins : owned_bytes_start at xs ≡ Some from
  stops : owned_bytes_stop at xs ≡ Some to
  told : next from to ≡ Ok new

accepted_cut_has_owned_bytes : (at : ℕ) (xs : List ByteExtent) (next : ℕ → ℕ → Result LineTexts EditFault) (new : LineTexts) → result_with_bytes_to_drop_item at xs next ≡ Ok new → HasOwnedBytesAndResult at xs next new
accepted_cut_has_owned_bytes at xs next new e =
    let by_stop : ℕ → Result LineTexts EditFault = λ from. result_or_refusal_if_none (owned_bytes_stop at xs) BadSplice (λ to. next from to) in
    let by_seam : Result LineTexts EditFault = result_or_refusal_if_none (owned_bytes_start at xs) BadSplice by_stop in
    let a = accepted_result_is_not_refused (nat_le (length xs) at) NoPlace (result_unless_refused (length xs == 1) OnlyOne by_seam) new e in
    let b = accepted_result_is_not_refused (length xs == 1) OnlyOne by_seam new a.1 in
    let c = accepted_result_has_found_value (owned_bytes_start at xs) BadSplice by_stop new b.1 in
    let d = accepted_result_has_found_value (owned_bytes_stop at xs) BadSplice (λ to. next c.0 to) new c.2 in
    record { from = c.0; to = d.0; begins = c.1; stops = d.1; told = d.2 }

-- the line that reads as it should says something
line_with_extra_item_has_reading : (a : ItemListKind) (at from to : ℕ) (o : Option Node) (n : Node) → has_one_item_more a at from to o (Some n) ≡ true → (new : Node) × (o ≡ Some new)
line_with_extra_item_has_reading a at from to (Some new) n h = (new, refl)
line_with_extra_item_has_reading among.Definitions at from to None n h = absurd cc
line_with_extra_item_has_reading (among.Members def) at from to None n h = absurd cc

line_lacking_extra_item_has_reading : (a : ItemListKind) (at from to : ℕ) (n : Node) (o : Option Node) → has_one_item_more a at from to (Some n) o ≡ true → (new : Node) × (o ≡ Some new)
line_lacking_extra_item_has_reading a at from to n (Some new) h = (new, refl)
line_lacking_extra_item_has_reading among.Definitions at from to (node.Alias k defs) None h = absurd cc
line_lacking_extra_item_has_reading among.Definitions at from to node.Blank None h = absurd cc
line_lacking_extra_item_has_reading among.Definitions at from to node.Comment None h = absurd cc
line_lacking_extra_item_has_reading among.Definitions at from to (node.Include dir path) None h = absurd cc
line_lacking_extra_item_has_reading among.Definitions at from to (node.Defaults scope params) None h = absurd cc
line_lacking_extra_item_has_reading among.Definitions at from to (node.Spec users groups) None h = absurd cc
line_lacking_extra_item_has_reading (among.Members def) at from to (node.Alias k defs) None h = absurd cc
line_lacking_extra_item_has_reading (among.Members def) at from to node.Blank None h = absurd cc
line_lacking_extra_item_has_reading (among.Members def) at from to node.Comment None h = absurd cc
line_lacking_extra_item_has_reading (among.Members def) at from to (node.Include dir path) None h = absurd cc
line_lacking_extra_item_has_reading (among.Members def) at from to (node.Defaults scope params) None h = absurd cc
line_lacking_extra_item_has_reading (among.Members def) at from to (node.Spec users groups) None h = absurd cc

-- one more that was accepted
accepted_item_is_put_in_line : (a : ItemListKind) (at from n : ℕ) (s : List ℕ) (line : Line) (lines : List Line) (new : LineTexts) → from ≤ length line.text → lines_with_item_put_in a at from n s line lines ≡ Ok new
    → IsLineTextWithItemPutIn a at from s line (line_with_splice from s line.text) × (replaced_lines_unless_too_long n (line_with_splice from s line.text) (texts_of_lines lines) ≡ Ok new)
accepted_item_is_put_in_line a at from n s line lines new inside e =
    let text : List ℕ = line_with_splice from s line.text in
    let reads : Bool = has_one_item_more a at from (from + length s) (reading_of_single_line text) (Some line.node) in
    let p = accepted_result_is_not_refused (not reads) BadSplice (replaced_lines_unless_too_long n text (texts_of_lines lines)) new e in
    let more : reads ≡ true = not-false reads p.0 in
    let says = line_with_extra_item_has_reading a at from (from + length s) (reading_of_single_line text) line.node more in (
      record { inside = inside; text_is = refl; new = says.0; says = says.1; more = ap (λ o. has_one_item_more a at from (from + length s) o (Some line.node)) (sym says.1) ∙ more },
      p.1,
    )

-- one less
accepted_item_is_cut_out_of_line : (a : ItemListKind) (at from to n : ℕ) (line : Line) (lines : List Line) (new : LineTexts) → from ≤ to → to ≤ length line.text → lines_with_item_cut_out a at from to n line lines ≡ Ok new
    → IsLineTextWithItemCutOut a at from to line (line_without_bytes from to line.text) × (replaced_lines_unless_too_long n (line_without_bytes from to line.text) (texts_of_lines lines) ≡ Ok new)
accepted_item_is_cut_out_of_line a at from to n line lines new order inside e =
    let text : List ℕ = line_without_bytes from to line.text in
    let reads : Bool = has_one_item_more a at from to (Some line.node) (reading_of_single_line text) in
    let p = accepted_result_is_not_refused (not reads) BadSplice (replaced_lines_unless_too_long n text (texts_of_lines lines)) new e in
    let more : reads ≡ true = not-false reads p.0 in
    let says = line_lacking_extra_item_has_reading a at from to line.node (reading_of_single_line text) more in (
      record { order = order; inside = inside; text_is = refl; new = says.0; says = says.1; more = ap (has_one_item_more a at from to (Some line.node)) (sym says.1) ∙ more },
      p.1,
    )

-- a line that is changed is not too long
pub accepted_line_change_is_short : (n : ℕ) (text : List ℕ) (lines new : LineTexts) → replaced_lines_unless_too_long n text lines ≡ Ok new → (length text ≤ line_limit) × (lines_with_one_replaced n text lines ≡ new)
accepted_line_change_is_short n text lines new e =
    let p = accepted_result_is_not_refused (is_line_too_long text) TooLarge (Ok (lines_with_one_replaced n text lines)) new e in
    (ltb-false line_limit (length text) p.0, same (lines_with_one_replaced n text lines) new p.1)
  where
    same : (a b : LineTexts) → (let r : Result LineTexts EditFault = Ok a in r) ≡ Ok b → a ≡ b
    same a b is = cc

-- an edit that replaces a line and is accepted
accepted_line_replacement_is_reversible : AcceptedEditLaws → (edit back : Edit) (inverse : List Edit) (policy new : LoadedPolicy) (f n : ℕ) (text : List ℕ) (lines : LineTexts) → policy_or_load_fault (named_files_of_policy policy) ≡ Ok policy
    → EditReplacesFileLine edit back inverse policy f n text → (HasFittingNumbers edit → HaveFittingNumbers (inv edit policy)) → replaced_lines_unless_too_long n text (line_texts_of_file policy f) ≡ Ok lines
    → policy_with_file_lines policy f lines ≡ Ok new → step edit policy ≡ Ok new → IsReversibleStep edit policy new
accepted_line_replacement_is_reversible l edit back inverse policy new f n text lines loaded r numbered told lands is =
    let p = accepted_line_change_is_short n text (line_texts_of_file policy f) lines told in
    let ended : has_inner_line_without_lf (lines_with_one_replaced n text (line_texts_of_file policy f)) ≡ false = ap has_inner_line_without_lf p.1 ∙ (accepted_file_lines_are_ended_and_load policy new f lines lands).0 in
    accepted_edit_of_file_lines_is_reversible l edit back inverse policy new f (lines_with_one_replaced n text (line_texts_of_file policy f)) loaded (ended_replacement_sets_file_lines edit back inverse policy f n text r p.0 ended)
    (λ told. replaced_line_keeps_logical_lines (line_texts_of_file policy f) n text (lines_of_loaded_file_are_sound l.land policy loaded f).whole (l.land.tells text r.said_is)) numbered is

-- DEFINITIONS

-- A line that makes definitions, and what is done with them.
pub record HasLineDefinitionsAndResult (n : ℕ) (lines : List Line) (next : Line → List Def → Result LineTexts EditFault) (new : LineTexts) : Type 0 where
  pub line : Line
  pub defs : List Def
  pub here : slice_get lines n ≡ Some line
  pub makes : definitions_of_alias_line line.node ≡ Some defs
  pub told : next line defs ≡ Ok new

accepted_result_has_line_definitions : (n : ℕ) (lines : List Line) (next : Line → List Def → Result LineTexts EditFault) (new : LineTexts) → result_with_line_definitions n lines next ≡ Ok new → HasLineDefinitionsAndResult n lines next new
accepted_result_has_line_definitions n lines next new e =
    let a = accepted_result_has_found_value (slice_get lines n) NoLine (λ (line : Line). result_or_refusal_if_none (definitions_of_alias_line line.node) NoAlias (next line)) new e in
    let b = accepted_result_has_found_value (definitions_of_alias_line a.0.node) NoAlias (next a.0) new a.2 in
    record { line = a.0; defs = b.0; here = a.1; makes = b.1; told = b.2 }

pub accepted_add_def_has_line_definitions : (n at : ℕ) (s : List ℕ) (lines : List Line) (new : LineTexts) → lines_with_definition_added n at s lines ≡ Ok new
    → HasLineDefinitionsAndResult n lines (λ line defs. result_with_offset_to_add_item at (extents_of_definitions defs) (λ from. lines_with_item_put_in among.Definitions at from n s line lines)) new
unfolding lines_with_definition_added
accepted_add_def_has_line_definitions n at s lines new e = accepted_result_has_line_definitions n lines (λ line defs. result_with_offset_to_add_item at (extents_of_definitions defs) (λ from. lines_with_item_put_in among.Definitions at from n s line lines)) new e

accepted_drop_def_has_line_definitions : (n at : ℕ) (lines : List Line) (new : LineTexts) → lines_with_definition_dropped n at lines ≡ Ok new
    → HasLineDefinitionsAndResult n lines (λ line defs. result_with_bytes_to_drop_item at (extents_of_definitions defs) (λ from to. lines_with_item_cut_out among.Definitions at from to n line lines)) new
unfolding lines_with_definition_dropped
accepted_drop_def_has_line_definitions n at lines new e = accepted_result_has_line_definitions n lines (λ line defs. result_with_bytes_to_drop_item at (extents_of_definitions defs) (λ from to. lines_with_item_cut_out among.Definitions at from to n line lines)) new e

pub accepted_add_def_is_reversible : AcceptedEditLaws → (f n at : ℕ) (s : List ℕ) → IsReversibleWhereAccepted (AddDef f n at s)
accepted_add_def_is_reversible l f n at s policy new loaded is =
    let lines : List Line = lines_of_numbered_file policy.files f in
    let i = accepted_file_edit_has_file_lines f policy new (lines_with_definition_added n at s) is in
    let know : AreSoundParsedLines lines = l.walks.known (named_files_of_policy policy) policy loaded f in
    let d = accepted_add_def_has_line_definitions n at s lines i.lines i.made in
    let a = accepted_splice_has_start_offset at (extents_of_definitions d.defs) (λ from. lines_with_item_put_in among.Definitions at from n s d.line lines) i.lines d.told in
    let text : List ℕ = line_with_splice a.0 s d.line.text in
    let p = accepted_item_is_put_in_line among.Definitions at a.0 n s d.line lines i.lines (owned_start_of_definition_is_within_line lines n at a.0 d.line d.defs know d.here d.makes a.1) a.2 in
    accepted_line_replacement_is_reversible l (AddDef f n at s) (DropDef f n at) (DropDef f n at ∷ []) policy new f n text i.lines loaded
    (def_add_replaces l.walks.known policy f n at a.0 s text d.line loaded i.here d.here p.0 (i.made ∙ sym p.1)) (λ n. (n, tt)) p.1 i.lands is

pub accepted_drop_def_is_reversible : AcceptedEditLaws → (f n at : ℕ) → IsReversibleWhereAccepted (DropDef f n at)
accepted_drop_def_is_reversible l f n at policy new loaded is =
    let lines : List Line = lines_of_numbered_file policy.files f in
    let i = accepted_file_edit_has_file_lines f policy new (lines_with_definition_dropped n at) is in
    let know : AreSoundParsedLines lines = l.walks.known (named_files_of_policy policy) policy loaded f in
    let d = accepted_drop_def_has_line_definitions n at lines i.lines i.made in
    let a = accepted_cut_has_owned_bytes at (extents_of_definitions d.defs) (λ from to. lines_with_item_cut_out among.Definitions at from to n d.line lines) i.lines d.told in
    let within = owned_bytes_of_definition_are_within_text lines n at a.from a.to d.line d.defs know d.here d.makes a.begins a.stops in
    let text : List ℕ = line_without_bytes a.from a.to d.line.text in
    let p = accepted_item_is_cut_out_of_line among.Definitions at a.from a.to n d.line lines i.lines within.0 within.1 a.told in
    let s : List ℕ = bytes_between a.from a.to d.line.text in
    accepted_line_replacement_is_reversible l (DropDef f n at) (AddDef f n at s) (AddDef f n at s ∷ []) policy new f n text i.lines loaded
    (def_drop_replaces l.walks.known policy f n at a.from a.to s text d.line d.defs loaded i.here d.here d.makes a.begins a.stops p.0 refl (i.made ∙ sym p.1))
    (λ n. (n, tt)) p.1 i.lands is

-- MEMBERS

-- The definition of an alias, and what is done with it.
pub record HasAliasDefinitionAndResult (k : Kind) (name : List ℕ) (policy : LoadedPolicy) (place : DefinitionFilePlace) (next : Line → Def → Result LineTexts EditFault) (new : LineTexts) : Type 0 where
  pub line : Line
  pub d : Def
  pub is : IsAliasDefinedAt k name policy place line d
  pub told : next line d ≡ Ok new

accepted_result_has_alias_definition : (k : Kind) (name : List ℕ) (policy : LoadedPolicy) (place : DefinitionFilePlace) (next : Place → Line → Def → Result LineTexts EditFault) (new : LineTexts)
    → file_place_of_definition k name policy.walk ≡ Some place → result_with_definition_at (Some (place_within_file_of_definition place)) (lines_of_numbered_file policy.files place.file) next ≡ Ok new
    → HasAliasDefinitionAndResult k name policy place (next (place_within_file_of_definition place)) new
accepted_result_has_alias_definition k name policy place next new named e =
    let at : Place = place_within_file_of_definition place in
    let by_def : Line → List Def → Result LineTexts EditFault = λ line defs. result_or_refusal_if_none (slice_get defs at.def) NoAlias (λ (d : Def). next at line d) in
    let by_line : Line → Result LineTexts EditFault = λ line. result_or_refusal_if_none (definitions_of_alias_line line.node) NoAlias (by_def line) in
    let b = accepted_result_has_found_value (slice_get (lines_of_numbered_file policy.files place.file) at.line) NoAlias by_line new e in
    let c = accepted_result_has_found_value (definitions_of_alias_line b.0.node) NoAlias (by_def b.0) new b.2 in
    let d = accepted_result_has_found_value (slice_get c.0 at.def) NoAlias (λ (d : Def). next at b.0 d) new c.2 in
    record { line = b.0; d = d.0; is = record { named = named; here = b.1; defs = c.0; makes = c.1; stands = d.1 }; told = d.2 }

pub accepted_add_member_has_alias_definition : (k : Kind) (name : List ℕ) (at : ℕ) (s : List ℕ) (policy : LoadedPolicy) (place : DefinitionFilePlace) (new : LineTexts) → file_place_of_definition k name policy.walk ≡ Some place
    → lines_with_member_added (place_within_file_of_definition place) at s (lines_of_numbered_file policy.files place.file) ≡ Ok new
    → HasAliasDefinitionAndResult k name policy place (λ line d. result_with_offset_to_add_item at (extents_of_members d.members) (λ from. lines_with_item_put_in (among.Members place.def) at from place.line s line (lines_of_numbered_file policy.files place.file))) new
unfolding lines_with_member_added
accepted_add_member_has_alias_definition k name at s policy place new named e =
    let lines : List Line = lines_of_numbered_file policy.files place.file in
    accepted_result_has_alias_definition k name policy place
    (λ at_place line d. result_with_offset_to_add_item at (extents_of_members d.members) (λ from. lines_with_item_put_in (among.Members at_place.def) at from at_place.line s line lines)) new named e

accepted_drop_member_has_alias_definition : (k : Kind) (name : List ℕ) (at : ℕ) (policy : LoadedPolicy) (place : DefinitionFilePlace) (new : LineTexts) → file_place_of_definition k name policy.walk ≡ Some place
    → lines_with_member_dropped (place_within_file_of_definition place) at (lines_of_numbered_file policy.files place.file) ≡ Ok new
    → HasAliasDefinitionAndResult k name policy place (λ line d. result_with_bytes_to_drop_item at (extents_of_members d.members) (λ from to. lines_with_item_cut_out (among.Members place.def) at from to place.line line (lines_of_numbered_file policy.files place.file))) new
unfolding lines_with_member_dropped
accepted_drop_member_has_alias_definition k name at policy place new named e =
    let lines : List Line = lines_of_numbered_file policy.files place.file in
    accepted_result_has_alias_definition k name policy place
    (λ at_place line d. result_with_bytes_to_drop_item at (extents_of_members d.members) (λ from to. lines_with_item_cut_out (among.Members at_place.def) at from to at_place.line line lines)) new named e

-- An edit at an alias that is defined makes these lines of its file, and they land.
pub record HasAcceptedLinesAtAlias (k : Kind) (name : List ℕ) (policy new : LoadedPolicy) (edit : Place → List Line → Result LineTexts EditFault) : Type 0 where
  pub place : DefinitionFilePlace
  pub named : file_place_of_definition k name policy.walk ≡ Some place
  pub lines : LineTexts
  pub made : edit (place_within_file_of_definition place) (lines_of_numbered_file policy.files place.file) ≡ Ok lines
  pub lands : policy_with_file_lines policy place.file lines ≡ Ok new

pub accepted_alias_edit_has_lines : (k : Kind) (name : List ℕ) (policy new : LoadedPolicy) (edit : Place → List Line → Result LineTexts EditFault) → policy_with_file_defining_alias_edited k name policy edit ≡ Ok new
    → HasAcceptedLinesAtAlias k name policy new edit
accepted_alias_edit_has_lines k name policy new edit is =
    let place = accepted_result_has_found_value (file_place_of_definition k name policy.walk) NoAlias
    (λ (at : DefinitionFilePlace). edit_result_and_then (edit (place_within_file_of_definition at) (lines_of_numbered_file policy.files at.file)) (policy_with_file_lines policy at.file)) new is in
    let made = accepted_sequence_has_both_results (edit (place_within_file_of_definition place.0) (lines_of_numbered_file policy.files place.0.file)) (policy_with_file_lines policy place.0.file) new place.2 in
    record { place = place.0; named = place.1; lines = made.0; made = made.1; lands = made.2 }

pub accepted_add_member_is_reversible : AcceptedEditLaws → (k : Kind) (name : List ℕ) (at : ℕ) (s : List ℕ) → IsReversibleWhereAccepted (AddMember k name at s)
accepted_add_member_is_reversible l k name at s policy new loaded is =
    let i = accepted_alias_edit_has_lines k name policy new (λ place. lines_with_member_added place at s) is in
    let place : DefinitionFilePlace = i.place in
    let lines : List Line = lines_of_numbered_file policy.files place.file in
    let know : AreSoundParsedLines lines = l.walks.known (named_files_of_policy policy) policy loaded place.file in
    let d = accepted_add_member_has_alias_definition k name at s policy place i.lines i.named i.made in
    let in_def : ItemListKind = among.Members place.def in
    let a = accepted_splice_has_start_offset at (extents_of_members d.d.members) (λ from. lines_with_item_put_in in_def at from place.line s d.line lines) i.lines d.told in
    let text : List ℕ = line_with_splice a.0 s d.line.text in
    let p = accepted_item_is_put_in_line in_def at a.0 place.line s d.line lines i.lines (owned_start_of_member_is_within_line lines place.line place.def at a.0 d.line d.is.defs d.d know d.is.here d.is.makes d.is.stands a.1) a.2 in
    accepted_line_replacement_is_reversible l (AddMember k name at s) (DropMember k name at) (DropMember k name at ∷ []) policy new place.file place.line text i.lines loaded
    (member_addition_replaces_file_line l.walks k name at a.0 s text policy place d.line d.d loaded d.is p.0 (i.made ∙ sym p.1)) (λ n. (n, tt)) p.1 i.lands is

pub accepted_drop_member_is_reversible : AcceptedEditLaws → (k : Kind) (name : List ℕ) (at : ℕ) → IsReversibleWhereAccepted (DropMember k name at)
accepted_drop_member_is_reversible l k name at policy new loaded is =
    let i = accepted_alias_edit_has_lines k name policy new (λ place. lines_with_member_dropped place at) is in
    let place : DefinitionFilePlace = i.place in
    let lines : List Line = lines_of_numbered_file policy.files place.file in
    let know : AreSoundParsedLines lines = l.walks.known (named_files_of_policy policy) policy loaded place.file in
    let d = accepted_drop_member_has_alias_definition k name at policy place i.lines i.named i.made in
    let in_def : ItemListKind = among.Members place.def in
    let a = accepted_cut_has_owned_bytes at (extents_of_members d.d.members) (λ from to. lines_with_item_cut_out in_def at from to place.line d.line lines) i.lines d.told in
    let within = owned_bytes_of_member_are_within_line lines place.line place.def at a.from a.to d.line d.is.defs d.d know d.is.here d.is.makes d.is.stands a.begins a.stops in
    let text : List ℕ = line_without_bytes a.from a.to d.line.text in
    let p = accepted_item_is_cut_out_of_line in_def at a.from a.to place.line d.line lines i.lines within.0 within.1 a.told in
    let s : List ℕ = bytes_between a.from a.to d.line.text in
    accepted_line_replacement_is_reversible l (DropMember k name at) (AddMember k name at s) (AddMember k name at s ∷ []) policy new place.file place.line text i.lines loaded
    (member_drop_replaces_file_line l.walks k name at a.from a.to s text policy place d.line d.d loaded d.is a.begins a.stops p.0 refl (i.made ∙ sym p.1)) (λ n. (n, tt)) p.1 i.lands is
