-- An edit of a member that is not refused puts it into the list of its alias or takes it out, and changes no other alias.
use Rattle.std.proofs.Common.{◌≡◌, ◌∙◌, ℕ, ◌+◌, Bool, not, List, [], ◌∷◌, length, remove, Option, Some, None, Result, Ok, sym, ap}
use Rattle.std.proofs.lemmas.Bool.{and_parts}
use Rattle.std.specs.Option.{option_map}
use Rattle.std.specs.Str.{bytes_eq}
use Rattle.sudoers_text.specs.Line.{join}
use Rattle.sudoers_grammar.specs.Node.{Def, Member}
use Rattle.sudoers_grammar.specs.declared.node.Kind.{Kind}
use Rattle.sudoers_line_rows.specs.Alike.{are_lists_alike, is_same_member}
use Rattle.sudoers_tree.proofs.Known.{loaded_policy_keeps_names_and_bytes}
use Rattle.sudoers_tree.specs.Changed.{lines_with_one_replaced}
use Rattle.sudoers_tree.specs.Definition.{PlacedDefinition, definitions_of_lines, members_of_alias_definition}
use Rattle.sudoers_tree.specs.FilePlaces.{file_place_of_definition, file_place_of_walk_place}
use Rattle.sudoers_tree.specs.Files.{lines_of_numbered_file}
use Rattle.sudoers_tree.specs.Line.{Line}
use Rattle.sudoers_tree.specs.Load.{LoadedPolicy, named_files_of_policy, policy_or_load_fault}
use Rattle.sudoers_tree.specs.Policy.{texts_of_lines}
use Rattle.sudoers_tree.specs.Single.{reading_of_single_line}
use Rattle.sudoers_tree.specs.declared.place.DefinitionFilePlace.{DefinitionFilePlace}
use Rattle.sudoers_check.proofs.Named.{definition_of_name_has_kind_and_name}
use Rattle.sudoers_match_list.specs.Alike.{AreBothUndefinedOrHaveSameMembers, IsMemberWithAtomMapped, IsPointwiseRelated, unchanged_atom}
use Rattle.sudoers_edit_script.specs.declared.edit.Edit.TheVariants.{AddMember, DropMember}
use Rattle.sudoers_edit.proofs.AcceptedLines.{accepted_file_lines_are_ended_and_load, accepted_result_is_not_refused}
use Rattle.sudoers_edit.proofs.AcceptedSplices.{accepted_add_member_has_alias_definition, accepted_alias_edit_has_lines, accepted_line_change_is_short, accepted_splice_has_start_offset}
use Rattle.sudoers_edit.proofs.LawsApplied.{accepted_edits_restore_by_inverse}
use Rattle.sudoers_edit.specs.Editing.{step}
use Rattle.sudoers_edit.specs.Landing.{LineTexts, files_with_bytes_replaced, policy_with_file_lines}
use Rattle.sudoers_edit.specs.Splice.{extents_of_members, line_with_splice}
use Rattle.sudoers_edit.specs.SpliceEdits.{has_one_item_more, lines_with_item_put_in, lines_with_member_added, replaced_lines_unless_too_long}
use Rattle.sudoers_edit.specs.declared.extra_item.ItemListKind.TheVariants as among
use Rattle.sudoers_edit.specs.declared.fault.EditFault.{EditFault}
use Rattle.sudoers_edit.specs.declared.fault.EditFault.TheVariants.{BadSplice}
use Rattle.laws_edit.specs.MemberEdits.{ChangesLineOfAlias, KeepsOtherAliases, ListsOneMemberMore}
use Rattle.laws_edit.proofs.WalkWithoutMember.{AreFirstDefinitionsKept, defined, first_definitions_are_kept_or_lack_member, kept, lacks, undefined}
use Rattle.laws_edit.proofs.DroppedMember.{IsMemberDropped, KeptOrLacking, accepted_drop_of_member_drops_it, accepted_run_is_accepted_step, accepted_step_is_accepted_run, dropped_member_keeps_definitions_of_walk, edited_policy_keeps_file_names, equal_lines_lead_to_same_policy}

-- ---- the aliases

-- The alias has the kind of the line and the name of the old definition there, and lists a member less.
record IsAliasWithoutMember (k : Kind) (name : List ℕ) (at : ℕ) (policy new : LoadedPolicy) (j : Kind) (old : Def) : Type 0 where
  kind : j ≡ k
  called : old.name ≡ name
  lists : ListsOneMemberMore k name at policy new

-- the first definition of the name in the kind is kept, or lacks the member, or is undefined on both walks
abbrev IsFirstKept : (k : Kind) (name : List ℕ) (at : ℕ) (policy new : LoadedPolicy) → IsMemberDropped k name at policy new
    → Kind → List ℕ → Type 0
IsFirstKept k name at policy new c j word =
    AreFirstDefinitionsKept (KeptOrLacking k name at policy new c) j word (definitions_of_lines policy.walk.lines)
    (definitions_of_lines new.walk.lines)

-- where a definition stands in its file
abbrev place_of_optional_definition : LoadedPolicy → Option PlacedDefinition → Option DefinitionFilePlace
place_of_optional_definition policy o =
    option_map (file_place_of_walk_place policy.walk) (option_map (λ (d : PlacedDefinition). d.place) o)

alias_of_dropped_member_lists_one_less : (k : Kind) (name : List ℕ) (at : ℕ) (policy new : LoadedPolicy)
    (c : IsMemberDropped k name at policy new) → IsFirstKept k name at policy new c k name
    → IsAliasWithoutMember k name at policy new c.reads.k c.d
alias_of_dropped_member_lists_one_less k name at policy new c (undefined none nothing) =
    let no : Some c.place ≡ None = sym c.is.named ∙ ap (place_of_optional_definition policy) none in
    absurd cc
alias_of_dropped_member_lists_one_less k name at policy new c (defined d e found there names r) = by r
  where
    at_place : file_place_of_walk_place policy.walk d.place ≡ c.place
    at_place =
        let same : Some c.place ≡ Some (file_place_of_walk_place policy.walk d.place) =
        sym c.is.named ∙ ap (place_of_optional_definition policy) found in
        cc

    by : KeptOrLacking k name at policy new c d e → IsAliasWithoutMember k name at policy new c.reads.k c.d
    by (kept other same) = absurd (other at_place)
    by (lacks stands was is old alike) =
        let p = definition_of_name_has_kind_and_name k name d names in
        record {
          kind = sym was ∙ p.0;
          called = ap (λ (x : Def). x.name) (sym old) ∙ p.1;
          lists =
              record {
                members = c.d.members;
                rest = e.def.members;
                has = ap (option_map (λ (x : PlacedDefinition). x.def.members)) found ∙ ap (λ (x : Def). Some x.members) old;
                lacks = ap (option_map (λ (x : PlacedDefinition). x.def.members)) there;
                within = c.within;
                alike =
                    (and_parts (bytes_eq c.d.name e.def.name) (are_lists_alike is_same_member (remove c.d.members at) e.def.members)
                    alike).1;
              };
        }

other_alias_keeps_members : (k : Kind) (name : List ℕ) (at : ℕ) (policy new : LoadedPolicy) (c : IsMemberDropped k name at policy new)
    → IsAliasWithoutMember k name at policy new c.reads.k c.d → (other : Kind) (word : List ℕ) → ((other ≡ k) → (word ≡ name) → ⊥)
    → IsFirstKept k name at policy new c other word
    → AreBothUndefinedOrHaveSameMembers (members_of_alias_definition other word policy.walk.lines)
    (members_of_alias_definition other word new.walk.lines)
other_alias_keeps_members k name at policy new c alias other word differs (undefined none nothing) = rw (none, nothing) tt
other_alias_keeps_members k name at policy new c alias other word differs (defined d e found there names r) = rw (found, there) (by r)
  where
    by : KeptOrLacking k name at policy new c d e → IsPointwiseRelated (IsMemberWithAtomMapped unchanged_atom) d.def.members e.def.members
    by (kept elsewhere same) = same.members
    by (lacks stands was is old alike) =
        let p = definition_of_name_has_kind_and_name other word d names in
        absurd (differs (sym p.0 ∙ was ∙ alias.kind) (sym p.1 ∙ ap (λ (x : Def). x.name) old ∙ alias.called))

pub accepted_drop_of_member_changes_one_member : (k : Kind) (name : List ℕ) (at : ℕ) (policy new : LoadedPolicy)
    → policy_or_load_fault (named_files_of_policy policy) ≡ Ok policy → step (DropMember k name at) policy ≡ Ok new
    → ListsOneMemberMore k name at policy new × KeepsOtherAliases k name policy new
accepted_drop_of_member_changes_one_member k name at policy new loaded is = (
  alias.lists,
  λ other word differs. other_alias_keeps_members k name at policy new c alias other word differs (first other word),
)
  where
    c : IsMemberDropped k name at policy new
    c = accepted_drop_of_member_drops_it k name at policy new is

    first : (j : Kind) (word : List ℕ) → IsFirstKept k name at policy new c j word
    first j word =
        first_definitions_are_kept_or_lack_member policy.walk c.place at c.reads.k c.d j word (definitions_of_lines policy.walk.lines)
        (definitions_of_lines new.walk.lines)
        (dropped_member_keeps_definitions_of_walk k name at policy new loaded
        (edited_policy_keeps_file_names (DropMember k name at) policy new is) c)

    alias : IsAliasWithoutMember k name at policy new c.reads.k c.d
    alias = alias_of_dropped_member_lists_one_less k name at policy new c (first k name)

-- ---- a member that is put in is taken out again

related_members_are_related_back : (ms ns : List Member) → IsPointwiseRelated (IsMemberWithAtomMapped unchanged_atom) ms ns
    → IsPointwiseRelated (IsMemberWithAtomMapped unchanged_atom) ns ms
related_members_are_related_back [] [] all = tt
related_members_are_related_back [] (n ∷ ns) all = absurd all
related_members_are_related_back (m ∷ ms) [] all = absurd all
related_members_are_related_back (m ∷ ms) (n ∷ ns) all = (
  record { negated = sym all.0.negated; digests = sym all.0.digests; atom = sym all.0.atom },
  related_members_are_related_back ms ns all.1,
)

same_members_are_same_back : (o p : Option (List Member)) → AreBothUndefinedOrHaveSameMembers o p → AreBothUndefinedOrHaveSameMembers p o
same_members_are_same_back None None same = tt
same_members_are_same_back None (Some ns) same = absurd same
same_members_are_same_back (Some ms) None same = absurd same
same_members_are_same_back (Some ms) (Some ns) same = related_members_are_related_back ms ns same

pub accepted_addition_of_member_changes_one_member : (k : Kind) (name : List ℕ) (at : ℕ) (splice : List ℕ) (policy new : LoadedPolicy)
    → policy_or_load_fault (named_files_of_policy policy) ≡ Ok policy → step (AddMember k name at splice) policy ≡ Ok new
    → ListsOneMemberMore k name at new policy × KeepsOtherAliases k name policy new
accepted_addition_of_member_changes_one_member k name at splice policy new loaded is =
    let run = accepted_step_is_accepted_run (AddMember k name at splice) policy new is in
    let way = accepted_edits_restore_by_inverse (AddMember k name at splice ∷ []) policy new loaded run in
    let back : step (DropMember k name at) new ≡ Ok policy = accepted_run_is_accepted_step (DropMember k name at) new policy way.back in
    let dropped = accepted_drop_of_member_changes_one_member k name at new policy way.loaded back in (
      dropped.0,
      λ other word differs.
          same_members_are_same_back (members_of_alias_definition other word new.walk.lines)
          (members_of_alias_definition other word policy.walk.lines) (dropped.1 other word differs),
    )

-- ---- the line

changed_line_is_line_of_alias : (k : Kind) (name text : List ℕ) (policy new : LoadedPolicy) (place : DefinitionFilePlace)
    → file_place_of_definition k name policy.walk ≡ Some place
    → policy_with_file_lines policy place.file
    (lines_with_one_replaced place.line text (texts_of_lines (lines_of_numbered_file policy.files place.file))) ≡ Ok new
    → ChangesLineOfAlias k name policy new
changed_line_is_line_of_alias k name text policy new place named lands =
    let texts : LineTexts = lines_with_one_replaced place.line text (texts_of_lines (lines_of_numbered_file policy.files place.file)) in
    record {
      place = place;
      named = named;
      text = text;
      files = loaded_policy_keeps_names_and_bytes (files_with_bytes_replaced place.file (join texts) (named_files_of_policy policy)) new
          (accepted_file_lines_are_ended_and_load policy new place.file texts lands).1;
    }

pub accepted_drop_of_member_changes_line_of_alias : (k : Kind) (name : List ℕ) (at : ℕ) (policy new : LoadedPolicy)
    → step (DropMember k name at) policy ≡ Ok new → ChangesLineOfAlias k name policy new
accepted_drop_of_member_changes_line_of_alias k name at policy new is =
    let c = accepted_drop_of_member_drops_it k name at policy new is in
    changed_line_is_line_of_alias k name c.text policy new c.place c.is.named c.lands

pub accepted_addition_of_member_changes_line_of_alias : (k : Kind) (name : List ℕ) (at : ℕ) (splice : List ℕ) (policy new : LoadedPolicy)
    → step (AddMember k name at splice) policy ≡ Ok new → ChangesLineOfAlias k name policy new
accepted_addition_of_member_changes_line_of_alias k name at splice policy new is =
    let i = accepted_alias_edit_has_lines k name policy new (λ place. lines_with_member_added place at splice) is in
    let lines : List Line = lines_of_numbered_file policy.files i.place.file in
    let d = accepted_add_member_has_alias_definition k name at splice policy i.place i.lines i.named i.made in
    let next : ℕ → Result LineTexts EditFault =
    λ from. lines_with_item_put_in (among.Members i.place.def) at from i.place.line splice d.line lines in
    let start = accepted_splice_has_start_offset at (extents_of_members d.d.members) next i.lines d.told in
    let text : List ℕ = line_with_splice start.0 splice d.line.text in
    let reads : Bool =
    has_one_item_more (among.Members i.place.def) at start.0 (start.0 + length splice) (reading_of_single_line text) (Some d.line.node) in
    let short : Result LineTexts EditFault = replaced_lines_unless_too_long i.place.line text (texts_of_lines lines) in
    let p = accepted_result_is_not_refused (not reads) BadSplice short i.lines start.2 in
    let made = accepted_line_change_is_short i.place.line text (texts_of_lines lines) i.lines p.1 in
    changed_line_is_line_of_alias k name text policy new i.place i.named
    (equal_lines_lead_to_same_policy policy new i.place.file (lines_with_one_replaced i.place.line text (texts_of_lines lines)) i.lines
    made.1 i.lands)
