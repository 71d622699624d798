-- A drop of a member that is not refused: the definitions of the walk are as they were, but for the one that lacks the member.
use Rattle.std.proofs.Common.{◌≡◌, ◌∙◌, ℕ, ◌<◌, Bool, true, false, ◌&&◌, ◌==◌, if◌then◌else◌, not, List, [], ◌∷◌, ◌++◌, length, map, slice_get, Option, Some, None, Result, Ok, refl, sym, ap, ap₂, subst, arith}
use Rattle.std.proofs.lemmas.Bool.{and_parts, eqb-false, eqb-true, leb-false, not-false}
use Rattle.std.proofs.lemmas.List.{length-map}
use Rattle.std.proofs.lemmas.Option.{slice_get_within}
use Rattle.std.specs.List.{AllByRecursion}
use Rattle.std.specs.Prelude.{nat_le}
use Rattle.sudoers_text.specs.Ended.{has_inner_line_without_lf}
use Rattle.sudoers_text.specs.Line.{join}
use Rattle.sudoers_text.specs.Whole.{IsLogicalLine, is_logical_line}
use Rattle.sudoers_grammar.specs.Node as node
use Rattle.sudoers_grammar.specs.Node.{Def, Member, Node}
use Rattle.sudoers_grammar.specs.declared.node.Kind.{Kind}
use Rattle.sudoers_line_rows.specs.Alike.{are_lists_alike, is_same_def}
use Rattle.sudoers_tree.proofs.Known.{computed_logical_line_is_logical_line, loaded_policy_keeps_names_and_bytes, loaded_walk_lines_are_at_their_spots}
use Rattle.sudoers_tree.proofs.MappedWalk.{walk_found_of_mapped_files_is_mapped_walk}
use Rattle.sudoers_tree.specs.Changed.{lines_with_one_replaced}
use Rattle.sudoers_tree.specs.Definition.{PlacedDefinition, definitions_of_lines, is_equal_kind}
use Rattle.sudoers_tree.specs.FilePlaces.{file_place_of_definition}
use Rattle.sudoers_tree.specs.Files.{ParsedFile, lines_of_numbered_file, name_of_numbered_file}
use Rattle.sudoers_tree.specs.Line.{Line}
use Rattle.sudoers_tree.specs.Load.{LoadedPolicy, named_file_of_parsed, named_files_of_policy, policy_or_load_fault}
use Rattle.sudoers_tree.specs.Mapped.{AreFilesMapped, IsMappedWalk, KeepsIncludeLead, LineToLinesMapping, file_names, mapped_lines_from_number, one}
use Rattle.sudoers_tree.specs.Policy.{texts_of_lines}
use Rattle.sudoers_tree.specs.Single.{reading_of_single_line}
use Rattle.sudoers_tree.specs.Walk.{spot_of_walk_line}
use Rattle.sudoers_tree.specs.declared.named_files.NamedFile.{NamedFile}
use Rattle.sudoers_tree.specs.declared.place.DefinitionFilePlace.{DefinitionFilePlace}
use Rattle.sudoers_check.proofs.Named.{kinds_tested_equal_are_equal}
use Rattle.sudoers_match_list.specs.Alike.{IsPointwiseRelated}
use Rattle.sudoers_edit_script.specs.declared.edit.Edit.{Edit}
use Rattle.sudoers_edit_script.specs.declared.edit.Edit.TheVariants.{DropMember}
use Rattle.sudoers_edit.proofs.AcceptedLines.{accepted_file_lines_are_ended_and_load, accepted_result_has_found_value, accepted_result_is_not_refused, replaced_line_keeps_logical_lines}
use Rattle.sudoers_edit.proofs.AcceptedSplices.{HasAliasDefinitionAndResult, accepted_alias_edit_has_lines, accepted_line_change_is_short}
use Rattle.sudoers_edit.proofs.FilesBelow.{loaded_files_have_no_fault, loaded_walk_is_walk_of_files}
use Rattle.sudoers_edit.proofs.LandLemmas.{lines_of_loaded_file_are_sound, loaded_lines_are_cut_of_replaced_bytes}
use Rattle.sudoers_edit.proofs.LawsBelow.{line_edit_laws_hold, prune_edit_laws_hold}
use Rattle.sudoers_edit.proofs.LinesBelow.{lines_cut_from_join_are_joined_lines}
use Rattle.sudoers_edit.proofs.NameLemmas.{run_keeps_file_names}
use Rattle.sudoers_edit.proofs.PruneGoes.{IsSplitAtLine, alias_line_has_no_include_lead, lines_are_split_at_numbered_line, replacement_behind_front_sets_line_text, single_reading_is_reading_of_text}
use Rattle.sudoers_edit.proofs.PruneLists.{faultless_files_have_no_numbered_fault, line_of_file_implies_present_file, mapped_line_is_replaced_behind_front, mapping_keeps_lines_of_other_file, mapping_of_one_line}
use Rattle.sudoers_edit.specs.Editing.{next_or_placed_refusal, place_within_file_of_definition, policy_or_first_refusal, step}
use Rattle.sudoers_edit.specs.Landing.{LineTexts, files_with_bytes_replaced, policy_with_file_lines, result_or_refusal_if_none, result_unless_refused}
use Rattle.sudoers_edit.specs.Splice.{ByteExtent, are_owned_byte_offsets_in_both_lists, definition_without_member, definitions_with_one_changed, extents_of_definition_members, extents_of_members, has_one_member_more, line_without_bytes, owned_bytes_start, owned_bytes_stop}
use Rattle.sudoers_edit.specs.SpliceEdits.{definitions_of_alias_line, lines_with_item_cut_out, lines_with_member_dropped, replaced_lines_unless_too_long, result_with_bytes_to_drop_item}
use Rattle.sudoers_edit.specs.WayBack.{names_of_named_files}
use Rattle.sudoers_edit.specs.declared.extra_item.ItemListKind.TheVariants as among
use Rattle.sudoers_edit.specs.declared.fault.EditFault.{EditFault}
use Rattle.sudoers_edit.specs.declared.fault.EditFault.TheVariants.{BadSplice, NoAlias, NoPlace, OnlyOne}
use Rattle.sudoers_edit.specs.internal.Splicing.{IsAliasDefinedAt}
use Rattle.laws_edit.proofs.OtherFiles.{KeepsOtherFiles, accepted_file_lines_keep_other_files}
use Rattle.laws_edit.proofs.OtherLines.{lines_of_file_are_told_by_texts}
use Rattle.laws_edit.proofs.WalkWithoutMember.{IsKeptOrLacksMember, IsLineWithoutMember, definitions_of_walk_are_kept_or_lack_member}

-- ---- a drop that is not refused

-- Of two lines of definitions the second reads as the first but for a member that the definition with this number lacks.
pub record ReadsWithoutMember (def at : ℕ) (n : Node) (o : Option Node) : Type 0 where
  pub k : Kind
  pub more : List Def
  pub less : List Def
  pub was : n ≡ node.Alias k more
  pub is : o ≡ Some (node.Alias k less)
  pub alike : are_lists_alike is_same_def (definitions_with_one_changed def (definition_without_member at) more) less ≡ true

line_with_member_less_reads_without_it : (def at from to : ℕ) (n : Node) (o : Option Node)
    → has_one_member_more def at from to (Some n) o ≡ true
    → ReadsWithoutMember def at n o
line_with_member_less_reads_without_it def at from to (node.Alias k more) (Some (node.Alias j less)) h =
    let owns : Bool =
    are_owned_byte_offsets_in_both_lists at from to (extents_of_definition_members (slice_get more def))
    (extents_of_definition_members (slice_get less def)) in
    let alike : Bool = are_lists_alike is_same_def (definitions_with_one_changed def (definition_without_member at) more) less in
    let p = and_parts (is_equal_kind k j && alike) owns h in
    let q = and_parts (is_equal_kind k j) alike p.0 in
    record {
      k = k;
      more = more;
      less = less;
      was = refl;
      is = ap (λ i. Some (node.Alias i less)) (sym (kinds_tested_equal_are_equal k j q.0));
      alike = q.1;
    }
line_with_member_less_reads_without_it def at from to n o h = absurd cc

-- which line and definition that is
accepted_drop_of_member_has_definition : (k : Kind) (name : List ℕ) (at : ℕ) (policy : LoadedPolicy) (place : DefinitionFilePlace)
    (new : LineTexts) → file_place_of_definition k name policy.walk ≡ Some place
    → lines_with_member_dropped (place_within_file_of_definition place) at (lines_of_numbered_file policy.files place.file) ≡ Ok new
    → HasAliasDefinitionAndResult k name policy place
    (λ line d. result_with_bytes_to_drop_item at (extents_of_members d.members)
    (λ from to. lines_with_item_cut_out (among.Members place.def) at from to place.line line
    (lines_of_numbered_file policy.files place.file)))
    new
unfolding lines_with_member_dropped
accepted_drop_of_member_has_definition k name at policy place new named e =
    let lines : List Line = lines_of_numbered_file policy.files place.file in
    let by_member : Line → Def → Result LineTexts EditFault =
    λ line d. result_with_bytes_to_drop_item at (extents_of_members d.members)
    (λ from to. lines_with_item_cut_out (among.Members place.def) at from to place.line line lines) in
    let by_def : Line → List Def → Result LineTexts EditFault =
    λ line defs. result_or_refusal_if_none (slice_get defs place.def) NoAlias (λ (d : Def). by_member line d) in
    let by_line : Line → Result LineTexts EditFault =
    λ line. result_or_refusal_if_none (definitions_of_alias_line line.node) NoAlias (by_def line) in
    let a = accepted_result_has_found_value (slice_get lines place.line) NoAlias by_line new e in
    let b = accepted_result_has_found_value (definitions_of_alias_line a.0.node) NoAlias (by_def a.0) new a.2 in
    let d = accepted_result_has_found_value (slice_get b.0 place.def) NoAlias (λ (d : Def). by_member a.0 d) new b.2 in
    record { line = a.0; d = d.0; is = record { named = named; here = a.1; defs = b.0; makes = b.1; stands = d.1 }; told = d.2 }

-- The alias is defined in this line of a file, and its list has the member. The line reads with this text as without the member. The policy
-- with that text is the new one.
pub record IsMemberDropped (k : Kind) (name : List ℕ) (at : ℕ) (policy new : LoadedPolicy) : Type 0 where
  pub place : DefinitionFilePlace
  pub line : Line
  pub d : Def
  pub is : IsAliasDefinedAt k name policy place line d
  pub within : at < length d.members
  pub text : List ℕ
  pub reads : ReadsWithoutMember place.def at line.node (reading_of_single_line text)
  pub lands : policy_with_file_lines policy place.file
      (lines_with_one_replaced place.line text (texts_of_lines (lines_of_numbered_file policy.files place.file))) ≡ Ok new

pub equal_lines_lead_to_same_policy : (policy new : LoadedPolicy) (f : ℕ) (lines others : LineTexts) → lines ≡ others
    → policy_with_file_lines policy f others ≡ Ok new → policy_with_file_lines policy f lines ≡ Ok new
equal_lines_lead_to_same_policy policy new f lines others same lands = ap (policy_with_file_lines policy f) same ∙ lands

pub accepted_drop_of_member_drops_it : (k : Kind) (name : List ℕ) (at : ℕ) (policy new : LoadedPolicy)
    → step (DropMember k name at) policy ≡ Ok new → IsMemberDropped k name at policy new
accepted_drop_of_member_drops_it k name at policy new is =
    let i = accepted_alias_edit_has_lines k name policy new (λ place. lines_with_member_dropped place at) is in
    let lines : List Line = lines_of_numbered_file policy.files i.place.file in
    let d = accepted_drop_of_member_has_definition k name at policy i.place i.lines i.named i.made in
    let xs : List ByteExtent = extents_of_members d.d.members in
    let extent : Member → ByteExtent = λ m. (m.start, m.stop) in
    let count : length xs ≡ length d.d.members = length-map d.d.members extent in
    let next : ℕ → ℕ → Result LineTexts EditFault =
    λ from to. lines_with_item_cut_out (among.Members i.place.def) at from to i.place.line d.line lines in
    let by_stop : ℕ → Result LineTexts EditFault =
    λ from. result_or_refusal_if_none (owned_bytes_stop at xs) BadSplice (λ to. next from to) in
    let by_start : Result LineTexts EditFault = result_or_refusal_if_none (owned_bytes_start at xs) BadSplice by_stop in
    let several : Result LineTexts EditFault = result_unless_refused (length xs == 1) OnlyOne by_start in
    let a = accepted_result_is_not_refused (nat_le (length xs) at) NoPlace several i.lines d.told in
    let b = accepted_result_is_not_refused (length xs == 1) OnlyOne by_start i.lines a.1 in
    let start = accepted_result_has_found_value (owned_bytes_start at xs) BadSplice by_stop i.lines b.1 in
    let stop = accepted_result_has_found_value (owned_bytes_stop at xs) BadSplice (λ to. next start.0 to) i.lines start.2 in
    let text : List ℕ = line_without_bytes start.0 stop.0 d.line.text in
    let reads : Bool = has_one_member_more i.place.def at start.0 stop.0 (Some d.line.node) (reading_of_single_line text) in
    let short : Result LineTexts EditFault = replaced_lines_unless_too_long i.place.line text (texts_of_lines lines) in
    let p = accepted_result_is_not_refused (not reads) BadSplice short i.lines stop.2 in
    let made = accepted_line_change_is_short i.place.line text (texts_of_lines lines) i.lines p.1 in
    record {
      place = i.place;
      line = d.line;
      d = d.d;
      is = d.is;
      within = omega (arith, leb-false (length xs) at a.0, count);
      text = text;
      reads =
          line_with_member_less_reads_without_it i.place.def at start.0 stop.0 d.line.node (reading_of_single_line text)
          (not-false reads p.0);
      lands =
          equal_lines_lead_to_same_policy policy new i.place.file (lines_with_one_replaced i.place.line text (texts_of_lines lines)) i.lines
          made.1 i.lands;
    }

-- ---- the lines of the new policy

text_with_reading_is_logical_line : (text : List ℕ) (says : Node) → reading_of_single_line text ≡ Some says → is_logical_line text ≡ true
unfolding reading_of_single_line
text_with_reading_is_logical_line text says is = by (is_logical_line text) _ is
  where
    by : (b : Bool) (o : Option Node) → (if b then o else None) ≡ Some says → b ≡ true
    by true o e = refl
    by false o e = absurd cc

names_of_parsed_files_are_file_names : (files : List ParsedFile) → names_of_named_files (map named_file_of_parsed files) ≡ file_names files
names_of_parsed_files_are_file_names [] = refl
names_of_parsed_files_are_file_names (file ∷ files) =
    ap (λ (names : List (List ℕ)). file.name ∷ names) (names_of_parsed_files_are_file_names files)

pub accepted_step_is_accepted_run : (edit : Edit) (policy new : LoadedPolicy) → step edit policy ≡ Ok new
    → policy_or_first_refusal 0 (edit ∷ []) policy ≡ Ok new
accepted_step_is_accepted_run edit policy new is = ap (next_or_placed_refusal (policy_or_first_refusal 1 []) 0) is

pub accepted_run_is_accepted_step : (edit : Edit) (policy new : LoadedPolicy) → policy_or_first_refusal 0 (edit ∷ []) policy ≡ Ok new
    → step edit policy ≡ Ok new
accepted_run_is_accepted_step edit policy new is = by (step edit policy) is
  where
    by : (r : Result LoadedPolicy EditFault) → next_or_placed_refusal (policy_or_first_refusal 1 []) 0 r ≡ Ok new → r ≡ Ok new
    by (Ok next) e = let same : next ≡ new = cc in ap (λ (p : LoadedPolicy). Ok p) same
    by r e = absurd cc

pub edited_policy_keeps_file_names : (edit : Edit) (policy new : LoadedPolicy) → step edit policy ≡ Ok new
    → file_names new.files ≡ file_names policy.files
edited_policy_keeps_file_names edit policy new is =
    sym (names_of_parsed_files_are_file_names new.files)
    ∙ run_keeps_file_names loaded_policy_keeps_names_and_bytes 0 (edit ∷ []) policy new (accepted_step_is_accepted_run edit policy new is)
    ∙ names_of_parsed_files_are_file_names policy.files

-- each definition of the old walk is kept in the new one, or is that of the alias and lacks the member
abbrev pub KeptOrLacking : (k : Kind) (name : List ℕ) (at : ℕ) (policy new : LoadedPolicy) → IsMemberDropped k name at policy new
    → PlacedDefinition → PlacedDefinition → Type 0
KeptOrLacking k name at policy new c = IsKeptOrLacksMember policy.walk c.place at c.reads.k c.d

pub dropped_member_keeps_definitions_of_walk : (k : Kind) (name : List ℕ) (at : ℕ) (policy new : LoadedPolicy)
    → policy_or_load_fault (named_files_of_policy policy) ≡ Ok policy → file_names new.files ≡ file_names policy.files
    → (c : IsMemberDropped k name at policy new)
    → IsPointwiseRelated (KeptOrLacking k name at policy new c) (definitions_of_lines policy.walk.lines)
    (definitions_of_lines new.walk.lines)
dropped_member_keeps_definitions_of_walk k name at policy new loaded names c =
    subst (λ (ls : List Line). IsPointwiseRelated (KeptOrLacking k name at policy new c) (definitions_of_lines policy.walk.lines)
    (definitions_of_lines ls)) (sym walked.lines)
    (definitions_of_walk_are_kept_or_lack_member policy.walk c.place at c.reads.k c.d policy.files c.line new_line without 0
    policy.walk.spots policy.walk.lines (λ j. ap (spot_of_walk_line policy.walk) (omega arith))
    (loaded_walk_lines_are_at_their_spots (named_files_of_policy policy) policy loaded))
  where
    f : ℕ
    f = c.place.file

    n : ℕ
    n = c.place.line

    lines : List Line
    lines = lines_of_numbered_file policy.files f

    texts : LineTexts
    texts = lines_with_one_replaced n c.text (texts_of_lines lines)

    files : List NamedFile
    files = files_with_bytes_replaced f (join texts) (named_files_of_policy policy)

    says : Node
    says = node.Alias c.reads.k c.reads.less

    new_line : Line
    new_line = record { text = c.text; node = says }

    told : (has_inner_line_without_lf texts ≡ false) × (policy_or_load_fault files ≡ Ok new)
    told = accepted_file_lines_are_ended_and_load policy new f texts c.lands

    keeps : KeepsOtherFiles f policy new
    keeps = accepted_file_lines_keep_other_files policy new f texts loaded c.lands

    without : IsLineWithoutMember policy.files c.place at c.reads.k c.d c.line new_line
    without = record {
      here = c.is.here;
      more = c.reads.more;
      less = c.reads.less;
      was = c.reads.was;
      is = refl;
      stands =
          let same : Some c.is.defs ≡ Some c.reads.more = sym c.is.makes ∙ ap definitions_of_alias_line c.reads.was in
          let defs : c.is.defs ≡ c.reads.more = cc in
          ap (λ (ds : List Def). slice_get ds c.place.def) (sym defs) ∙ c.is.stands;
      alike = c.reads.alike;
    }

    there : f < length policy.files
    there = let file = line_of_file_implies_present_file policy.files f n c.line c.is.here in slice_get_within policy.files f file.0 file.1

    whole : AllByRecursion IsLogicalLine texts
    whole =
        replaced_line_keeps_logical_lines (texts_of_lines lines) n c.text
        (lines_of_loaded_file_are_sound line_edit_laws_hold policy loaded f).whole
        (computed_logical_line_is_logical_line c.text (text_with_reading_is_logical_line c.text says c.reads.is))

    texts_are : texts_of_lines (lines_of_numbered_file new.files f) ≡ texts
    texts_are =
        lines_cut_from_join_are_joined_lines texts (texts_of_lines (lines_of_numbered_file new.files f)) whole told.0
        (loaded_lines_are_cut_of_replaced_bytes line_edit_laws_hold policy new f (join texts) there told.1).0

    split : IsSplitAtLine lines n c.line
    split = lines_are_split_at_numbered_line lines n c.line c.is.here

    lines_are : lines_of_numbered_file new.files f ≡ split.front ++ ((new_line ∷ []) ++ split.after)
    lines_are =
        lines_of_file_are_told_by_texts policy new f split.front c.line (new_line ∷ []) split.after loaded keeps.loaded split.is
        (single_reading_is_reading_of_text c.text says (prune_edit_laws_hold.outcome c.text) c.reads.is, tt)
        (texts_are ∙ ap₂ (λ (ls : List Line) (m : ℕ). lines_with_one_replaced m c.text (texts_of_lines ls)) split.is (sym split.place)
        ∙ replacement_behind_front_sets_line_text split.front c.line new_line split.after)

    g : LineToLinesMapping
    g = mapping_of_one_line f n (new_line ∷ [])

    by_file : (e : ℕ) (b : Bool) → (e == f) ≡ b
        → lines_of_numbered_file new.files e ≡ mapped_lines_from_number g e 0 (lines_of_numbered_file policy.files e)
    by_file e true is =
        subst (λ (d : ℕ). lines_of_numbered_file new.files d ≡ mapped_lines_from_number g d 0 (lines_of_numbered_file policy.files d))
        (sym (eqb-true e f is))
        (lines_are ∙ sym (ap (mapped_lines_from_number g f 0) split.is
        ∙ mapped_line_is_replaced_behind_front f n (new_line ∷ []) 0 split.front c.line split.after (omega (arith, split.place))))
    by_file e false is =
        let other : e ≡ f → ⊥ = eqb-false e f is in
        keeps.there e other ∙ sym (mapping_keeps_lines_of_other_file f n (new_line ∷ []) e 0 (lines_of_numbered_file policy.files e) other)

    by_line : (e m : ℕ) (l : Line) → slice_get (lines_of_numbered_file policy.files e) m ≡ Some l → (b : Bool) → ((e == f) && (m == n)) ≡ b
        → KeepsIncludeLead (name_of_numbered_file policy.files e) l (if b then new_line ∷ [] else l ∷ [])
    by_line e m l here true is =
        let p = and_parts (e == f) (m == n) is in
        let found : Some l ≡ Some c.line =
        sym here ∙ ap₂ (λ d i. slice_get (lines_of_numbered_file policy.files d) i) (eqb-true e f p.0) (eqb-true m n p.1) ∙ c.is.here in
        let same : l ≡ c.line = cc in
        let name : List ℕ = name_of_numbered_file policy.files e in
        let was : l.node ≡ node.Alias c.reads.k c.reads.more = ap (λ (x : Line). x.node) same ∙ c.reads.was in
        one new_line (sym (alias_line_has_no_include_lead name c.reads.k c.reads.more l.node was))
    by_line e m l here false is = one l refl

    mapped : AreFilesMapped g policy.files new.files policy.walk
    mapped = record {
      names = names;
      lines = λ e on. by_file e (e == f) refl;
      parse = λ e on. faultless_files_have_no_numbered_fault new.files e (loaded_files_have_no_fault files new told.1);
      leads = λ e m l on here. by_line e m l here ((e == f) && (m == n)) refl;
    }

    walked : IsMappedWalk g policy.walk new.walk
    walked =
        walk_found_of_mapped_files_is_mapped_walk g policy.files new.files policy.walk new.walk
        (loaded_walk_is_walk_of_files (named_files_of_policy policy) policy loaded) mapped (loaded_walk_is_walk_of_files files new told.1)
