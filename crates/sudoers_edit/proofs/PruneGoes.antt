-- A line or a definition taken out of a file of a policy: what is left is a policy again, and one edit leads back.
use Rattle.sudoers_edit.proofs.Common.{AddDef, AllByRecursion, Bool, CanRemoveDefinition, CanRemoveLine, Def, DiffersOnlyInFileLines, EachIsOneLineWhenCut, Edit, EditFault, Err, Insert, IsCorrectlyParsed}
use Rattle.sudoers_edit.proofs.Common.{IsDefinitionCut, Kind, Line, LineReadsAsNode, LineTexts, List, LoadedPolicy, Node, None, Ok, ParsedFile, PlacedDefinition, LawsBehindPrunes, Result, Some, [], parsed_lines_are_read_as_single_lines, ap}
use Rattle.sudoers_edit.proofs.Common.{append-nil, ap₂, arith, bytes_between, text_owned_by_definition, cut_outcome_of_text, definitions_in_line, definitions_of_alias_line, edit_result_and_then, ends_in_lf}
use Rattle.sudoers_edit.proofs.Common.{extents_of_definitions, false, file_names, has_inner_line_without_lf, has_one_item_more, if◌then◌else◌, insert, is_file_on_walk, is_logical_line, is_one_logical_line, le-ltb}
use Rattle.sudoers_edit.proofs.Common.{lead_of_parsed_line, length, length-append, line_limit, line_text_in_file, line_with_splice, lines_after_delete, lines_after_insert, lines_of_numbered_file}
use Rattle.sudoers_edit.proofs.Common.{lines_of_optional_file, lines_with_definition_added, lines_with_definition_dropped, lines_with_item_put_in, lines_with_one_replaced, lt-ltb, named_files_of_policy, not}
use Rattle.sudoers_edit.proofs.Common.{not-false, or_false, owned_bytes_start, owned_bytes_stop, policy_or_load_fault, policy_with_file_edited, policy_with_file_lines, reading_of_single_line, refl, remove, result_ok}
use Rattle.sudoers_edit.proofs.Common.{run, slice_get, slice_get_within, step, subst, sym, texts_of_lines, true, ℕ, ◌++◌, ◌+◌, ◌-◌, ◌<◌, ◌∙◌, ◌∷◌, ◌≡◌, ◌≤◌}
use Rattle.sudoers_grammar.specs.declared.fault.LineFault.{LineFault}
use Rattle.sudoers_grammar.specs.Node as node
use Rattle.sudoers_line_reader.specs.Outcome.{outcome_of_line, IsOutcomeOfLine as IsLineOutcome}
use Rattle.sudoers_edit.specs.declared.extra_item.ItemListKind.TheVariants as among
use Rattle.sudoers_edit.proofs.ExtentLemmas.{result_at_splice_offset_is_next, line_with_one_definition_more_has_parts}
use Rattle.sudoers_edit.proofs.DefEnds.{definitions_ascend_to_before_final_lf}
use Rattle.sudoers_edit.proofs.DropDef.{DefinitionsEndBeforeFinalLf, ReadsWithoutOneDefinition, line_with_one_less_reads_without_definition, definitions_without_one_are_part}
use Rattle.sudoers_edit.proofs.NameParts.{IsPartOfDefinitions, empty_list_is_part}
use Rattle.sudoers_edit.proofs.OwnedBytes.{bytes_owned_by_definition_are_within, line_without_inner_bytes_keeps_end, line_without_bytes_is_not_longer}
use Rattle.sudoers_edit.proofs.PolicyLemmas.{found_line_is_line_at_index}
use Rattle.sudoers_edit.proofs.PruneLists.{file_given_lines_is_present, other_file_is_kept, line_of_file_implies_present_file, given_lines_keep_file_names, parts_of_lines_cut_alone_are_so, parts_of_correctly_parsed_lines_are_so}
use Rattle.sudoers_edit.proofs.PrunePut.{AreValidFileLines, FitInPlaceOfLine, IsPolicyWithLinesPut, lines_of_loaded_file_are_valid, fitting_lines_are_put_in_policy}
use Rattle.sudoers_edit.proofs.SpliceLemmas.{start_and_size_of_slice_make_stop, bytes_taken_out_are_put_in_again}
use Rattle.sudoers_edit.proofs.WayBackLemmas.{text_with_single_reading_is_logical_line}
use Rattle.sudoers_edit.proofs.Whole.{item_behind_front_is_at_front_length}
use Rattle.sudoers_edit.proofs.WithoutLine.{IsListCutAtItem, list_is_cut_at_number_below_length}

-- ---- edits of a file

pub edit_of_found_file_edits_its_lines : (f : ℕ) (policy : LoadedPolicy) (file : ParsedFile) (edit : List Line → Result LineTexts EditFault) → slice_get policy.files f ≡ Some file
    → policy_with_file_edited f policy edit ≡ edit_result_and_then (edit (lines_of_numbered_file policy.files f)) (policy_with_file_lines policy f)
edit_of_found_file_edits_its_lines f policy file edit is = rw is refl

pub accepted_step_is_run_of_one_edit : (edit : Edit) (now old : LoadedPolicy) → step edit now ≡ Ok old → run (edit ∷ []) now ≡ Some old
accepted_step_is_run_of_one_edit edit now old is = rw is refl

accepted_lines_give_next_policy : (r : Result LineTexts EditFault) (lines : LineTexts) (next : LineTexts → Result LoadedPolicy EditFault) (policy : LoadedPolicy) → r ≡ Ok lines → next lines ≡ Ok policy
    → edit_result_and_then r next ≡ Ok policy
accepted_lines_give_next_policy r lines next policy is leads = rw is leads

-- ---- one of some lines

pub removal_behind_front_leaves_other_texts : (front : List Line) (line : Line) (after : List Line) → remove (texts_of_lines (front ++ line ∷ after)) (length front) ≡ texts_of_lines (front ++ after)
removal_behind_front_leaves_other_texts [] line after = refl
removal_behind_front_leaves_other_texts (first ∷ front) line after = ap (λ (ls : LineTexts). first.text ∷ ls) (removal_behind_front_leaves_other_texts front line after)

insert_behind_front_adds_line_text : (front : List Line) (line : Line) (after : List Line) → insert (texts_of_lines (front ++ after)) (length front) line.text ≡ texts_of_lines (front ++ line ∷ after)
insert_behind_front_adds_line_text [] line after = refl
insert_behind_front_adds_line_text (first ∷ front) line after = ap (λ (ls : LineTexts). first.text ∷ ls) (insert_behind_front_adds_line_text front line after)

pub replacement_behind_front_sets_line_text : (front : List Line) (line new : Line) (after : List Line)
    → lines_with_one_replaced (length front) new.text (texts_of_lines (front ++ line ∷ after)) ≡ texts_of_lines (front ++ new ∷ after)
replacement_behind_front_sets_line_text [] line new after = refl
replacement_behind_front_sets_line_text (first ∷ front) line new after = ap (λ (ls : LineTexts). first.text ∷ ls) (replacement_behind_front_sets_line_text front line new after)

text_behind_front_is_line_text : (front : List Line) (line : Line) (after : List Line) → slice_get (texts_of_lines (front ++ line ∷ after)) (length front) ≡ Some line.text
text_behind_front_is_line_text [] line after = refl
text_behind_front_is_line_text (first ∷ front) line after = text_behind_front_is_line_text front line after

front_is_not_longer_than_lines : (front after : List Line) → length front ≤ length (texts_of_lines (front ++ after))
front_is_not_longer_than_lines [] after = omega arith
front_is_not_longer_than_lines (first ∷ front) after = omega (arith, front_is_not_longer_than_lines front after)

-- The line of this number, and those before and behind it.
pub record IsSplitAtLine (lines : List Line) (n : ℕ) (line : Line) : Type 0 where
  pub front : List Line
  pub after : List Line
  pub is : lines ≡ front ++ line ∷ after
  pub place : length front ≡ n

pub lines_are_split_at_numbered_line : (lines : List Line) (n : ℕ) (line : Line) → slice_get lines n ≡ Some line → IsSplitAtLine lines n line
lines_are_split_at_numbered_line lines n line here =
    let c : IsListCutAtItem lines n = list_is_cut_at_number_below_length lines n (slice_get_within lines n line here) in
    let same : Some line ≡ Some c.one =
    sym here ∙ ap (λ ls. slice_get ls n) c.is ∙ ap (slice_get (c.front ++ c.one ∷ c.rest)) (sym c.place) ∙ item_behind_front_is_at_front_length c.front c.one c.rest in
    let one : c.one ≡ line = cc in
    record { front = c.front; after = c.rest; is = c.is ∙ ap (λ (x : Line). c.front ++ x ∷ c.rest) one; place = c.place }

-- ---- what is left

put_lines_differ_only_in_file : (policy : LoadedPolicy) (f : ℕ) (front after news : List Line) (lines : LineTexts) → (p : IsPolicyWithLinesPut policy f front after news)
    → texts_of_lines (front ++ (news ++ after)) ≡ lines → DiffersOnlyInFileLines f lines policy p.next
put_lines_differ_only_in_file policy f front after news lines p is = record {
  loaded = p.loaded;
  names = ap file_names p.files ∙ given_lines_keep_file_names f (front ++ (news ++ after)) policy.files;
  here = ap texts_of_lines p.lines ∙ is;
  there = λ e other. ap (λ fs. lines_of_numbered_file fs e) p.files ∙ ap lines_of_optional_file (other_file_is_kept f (front ++ (news ++ after)) policy.files e other);
  on = p.walk.on;
}

-- the file is there in both policies
file_is_present_after_put : (policy : LoadedPolicy) (f n : ℕ) (line : Line) (front after news : List Line) → slice_get (lines_of_numbered_file policy.files f) n ≡ Some line
    → (p : IsPolicyWithLinesPut policy f front after news) → (file : ParsedFile) × (slice_get p.next.files f ≡ Some file)
file_is_present_after_put policy f n line front after news here p =
    let file = line_of_file_implies_present_file policy.files f n line here in
    let now = file_given_lines_is_present f (front ++ (news ++ after)) policy.files file.0 file.1 in
    (now.0, ap (λ fs. slice_get fs f) p.files ∙ now.1)

-- ---- a line

ended_lines_keep_ended_rest : (line : Line) (after : List Line) → has_inner_line_without_lf (texts_of_lines (line ∷ after)) ≡ false → has_inner_line_without_lf (texts_of_lines after) ≡ false
ended_lines_keep_ended_rest line [] is = refl
ended_lines_keep_ended_rest line (next ∷ after) is = (or_false _ _ is).1

pub alias_line_has_no_include_lead : (name : List ℕ) (k : Kind) (defs : List Def) (says : Node) → says ≡ node.Alias k defs → lead_of_parsed_line name says ≡ None
alias_line_has_no_include_lead name k defs says is = ap (lead_of_parsed_line name) is

no_lines_fit_for_leadless_line : (line : Line) (after : List Line) → ((name : List ℕ) → lead_of_parsed_line name line.node ≡ None) → FitInPlaceOfLine line after []
no_lines_fit_for_leadless_line line after nowhere = record {
  each = tt;
  says = tt;
  ended = ended_lines_keep_ended_rest line after;
  shorter = omega arith;
  part = λ i j. empty_list_is_part (definitions_in_line i line.node);
  leads = nowhere;
  lead = λ name. tt;
}

-- A line that leads nowhere goes.
pub leadless_line_can_be_removed : LawsBehindPrunes → (policy : LoadedPolicy) (f n : ℕ) (line : Line) → policy_or_load_fault (named_files_of_policy policy) ≡ Ok policy
    → is_file_on_walk policy.walk f ≡ true → slice_get (lines_of_numbered_file policy.files f) n ≡ Some line → ((name : List ℕ) → lead_of_parsed_line name line.node ≡ None)
    → CanRemoveLine f n policy
leadless_line_can_be_removed l policy f n line loaded on here nowhere = record {
  next = p.next;
  left = put_lines_differ_only_in_file policy f c.front c.after [] (remove lines n) p (sym gone);
  made =
      record {
        forth = edit_of_found_file_edits_its_lines f policy file.0 (λ ls. lines_after_delete n (texts_of_lines ls)) file.1
            ∙ accepted_lines_give_next_policy (lines_after_delete n lines) (remove lines n) (policy_with_file_lines policy f) p.next (rw (lt-ltb n (length lines) inside) refl)
            (ap (policy_with_file_lines policy f) gone ∙ p.forth);
        inverse_is = refl;
        back = accepted_step_is_run_of_one_edit (Insert f n text) p.next policy
            (edit_of_found_file_edits_its_lines f p.next now.0 (λ ls. lines_after_insert n text (texts_of_lines ls)) now.1
            ∙ accepted_lines_give_next_policy (lines_after_insert n text (texts_of_lines (lines_of_numbered_file p.next.files f))) lines (policy_with_file_lines p.next f) policy
            (ap (λ ls. lines_after_insert n text (texts_of_lines ls)) p.lines ∙ put_again) p.back);
      };
}
  where
    lines : LineTexts
    lines = texts_of_lines (lines_of_numbered_file policy.files f)

    text : List ℕ
    text = line_text_in_file f n policy

    c : IsSplitAtLine (lines_of_numbered_file policy.files f) n line
    c = lines_are_split_at_numbered_line (lines_of_numbered_file policy.files f) n line here

    p : IsPolicyWithLinesPut policy f c.front c.after []
    p = fitting_lines_are_put_in_policy l policy f c.front line c.after [] loaded on c.is (no_lines_fit_for_leadless_line line c.after nowhere)

    file : (file : ParsedFile) × (slice_get policy.files f ≡ Some file)
    file = line_of_file_implies_present_file policy.files f n line here

    now : (file : ParsedFile) × (slice_get p.next.files f ≡ Some file)
    now = file_is_present_after_put policy f n line c.front c.after [] here p

    gone : remove lines n ≡ texts_of_lines (c.front ++ c.after)
    gone = ap₂ (λ ls m. remove (texts_of_lines ls) m) c.is (sym c.place) ∙ removal_behind_front_leaves_other_texts c.front line c.after

    there : slice_get lines n ≡ Some line.text
    there = ap₂ (λ ls m. slice_get (texts_of_lines ls) m) c.is (sym c.place) ∙ text_behind_front_is_line_text c.front line c.after

    inside : n < length lines
    inside = slice_get_within lines n line.text there

    text_is : text ≡ line.text
    text_is = found_line_is_line_at_index lines n line.text [] there

    alone : cut_outcome_of_text line.text ≡ Ok (line.text ∷ [])
    alone = (parts_of_lines_cut_alone_are_so c.front (line ∷ c.after) (subst (λ ls. EachIsOneLineWhenCut (texts_of_lines ls)) c.is (lines_of_loaded_file_are_valid l policy f loaded).each)).1.0

    one : is_one_logical_line line.text ≡ true
    one = rw alone refl

    again : insert (texts_of_lines (c.front ++ c.after)) n line.text ≡ lines
    again = ap (λ m. insert (texts_of_lines (c.front ++ c.after)) m line.text) (sym c.place) ∙ insert_behind_front_adds_line_text c.front line c.after ∙ ap texts_of_lines (sym c.is)

    within : n ≤ length (texts_of_lines (c.front ++ c.after))
    within = omega (arith, front_is_not_longer_than_lines c.front c.after, c.place)

    put_again : lines_after_insert n text (texts_of_lines (c.front ++ c.after)) ≡ Ok lines
    put_again =
        ap (λ t. lines_after_insert n t (texts_of_lines (c.front ++ c.after))) text_is
        ∙ rw (le-ltb (length (texts_of_lines (c.front ++ c.after))) n within, one) (ap (λ ls. Ok ls) again)

-- ---- a definition

-- a text that says something reads so
pub single_reading_is_reading_of_text : (text : List ℕ) (says : Node) → IsLineOutcome text (outcome_of_line text) → reading_of_single_line text ≡ Some says → LineReadsAsNode text says
unfolding reading_of_single_line
single_reading_is_reading_of_text text says outcome is = by (is_logical_line text) (outcome_of_line text) outcome is
  where
    by : (b : Bool) (r : Result Node LineFault) → IsLineOutcome text r → (if b then result_ok r else None) ≡ Some says → LineReadsAsNode text says
    by true (Ok n) reads e = let same : n ≡ says = cc in subst (LineReadsAsNode text) same reads
    by true (Err fault) reads e = absurd (cc)
    by false r reads e = absurd (cc)

owned_bytes_of_definition_are_between_offsets : (lines : List Line) (n at from to : ℕ) (line : Line) (defs : List Def) → slice_get lines n ≡ Some line → definitions_of_alias_line line.node ≡ Some defs
    → owned_bytes_start at (extents_of_definitions defs) ≡ Some from → owned_bytes_stop at (extents_of_definitions defs) ≡ Some to → text_owned_by_definition n at lines ≡ bytes_between from to line.text
unfolding text_owned_by_definition
owned_bytes_of_definition_are_between_offsets lines n at from to line defs here is begins stops = rw (here, is, begins, stops) refl

-- a definition put in where it reads as it should
fitting_definition_addition_is_accepted : (n at from : ℕ) (s : List ℕ) (lines : List Line) (line : Line) (defs : List Def) → slice_get lines n ≡ Some line → definitions_of_alias_line line.node ≡ Some defs
    → owned_bytes_start at (extents_of_definitions defs) ≡ Some from
    → has_one_item_more among.Definitions at from (from + length s) (reading_of_single_line (line_with_splice from s line.text)) (Some line.node) ≡ true
    → length (line_with_splice from s line.text) ≤ line_limit
    → lines_with_definition_added n at s lines ≡ Ok (lines_with_one_replaced n (line_with_splice from s line.text) (texts_of_lines lines))
unfolding lines_with_definition_added
fitting_definition_addition_is_accepted n at from s lines line defs here is begins reads short =
    rw (here, is)
    (result_at_splice_offset_is_next at from (extents_of_definitions defs) (λ from. lines_with_item_put_in among.Definitions at from n s line lines) begins
    ∙ rw (reads, le-ltb line_limit (length (line_with_splice from s line.text)) short) refl)

replaced_line_with_lf_keeps_ended_lines : (line : Line) (text : List ℕ) (after : List Line) → (ends_in_lf line.text ≡ true → ends_in_lf text ≡ true)
    → has_inner_line_without_lf (texts_of_lines (line ∷ after)) ≡ false → has_inner_line_without_lf (text ∷ texts_of_lines after) ≡ false
replaced_line_with_lf_keeps_ended_lines line text [] keeps h = refl
replaced_line_with_lf_keeps_ended_lines line text (next ∷ after) keeps h =
    let parts = or_false (not (ends_in_lf line.text)) (has_inner_line_without_lf (texts_of_lines (next ∷ after))) h in
    rw (keeps (not-false (ends_in_lf line.text) parts.0), parts.1) refl

-- what the line with this number is
pub record IsKnownSingleLine (line : Line) : Type 0 where
  pub alone : cut_outcome_of_text line.text ≡ Ok (line.text ∷ [])
  pub reads : LineReadsAsNode line.text line.node
  pub says : reading_of_single_line line.text ≡ Some line.node

pub line_of_loaded_file_is_known : LawsBehindPrunes → (policy : LoadedPolicy) (f n : ℕ) (line : Line) → policy_or_load_fault (named_files_of_policy policy) ≡ Ok policy → slice_get (lines_of_numbered_file policy.files f) n ≡ Some line → IsKnownSingleLine line
line_of_loaded_file_is_known l policy f n line loaded here =
    let lines : AreValidFileLines (lines_of_numbered_file policy.files f) = lines_of_loaded_file_are_valid l policy f loaded in
    let c : IsSplitAtLine (lines_of_numbered_file policy.files f) n line = lines_are_split_at_numbered_line (lines_of_numbered_file policy.files f) n line here in
    let alone = (parts_of_lines_cut_alone_are_so c.front (line ∷ c.after) (subst (λ ls. EachIsOneLineWhenCut (texts_of_lines ls)) c.is lines.each)).1.0 in
    let reads = (parts_of_correctly_parsed_lines_are_so c.front (line ∷ c.after) (subst (AllByRecursion IsCorrectlyParsed) c.is lines.says)).1.0 in
    record { alone = alone; reads = reads; says = (parsed_lines_are_read_as_single_lines l.whole l.outcome l.reading l.faultless (line ∷ []) (alone, tt) (reads, tt)).0 }

pub cut_definition_can_be_removed : LawsBehindPrunes → (policy : LoadedPolicy) (f n at : ℕ) (line : Line) (text splice : List ℕ) → policy_or_load_fault (named_files_of_policy policy) ≡ Ok policy
    → is_file_on_walk policy.walk f ≡ true → slice_get (lines_of_numbered_file policy.files f) n ≡ Some line → IsDefinitionCut n at (lines_of_numbered_file policy.files f) line text splice
    → CanRemoveDefinition f n at policy text splice
cut_definition_can_be_removed l policy f n at line text splice loaded on here d = record {
  next = p.next;
  left = put_lines_differ_only_in_file policy f c.front c.after (new ∷ []) (lines_with_one_replaced n text lines) p (sym gone);
  whole = l.tells text logical;
  made =
      record {
        forth = edit_of_found_file_edits_its_lines f policy file.0 (lines_with_definition_dropped n at) file.1
            ∙ accepted_lines_give_next_policy (lines_with_definition_dropped n at (lines_of_numbered_file policy.files f)) (lines_with_one_replaced n text lines) (policy_with_file_lines policy f) p.next
            (d.forth ∙ rw (le-ltb line_limit (length text) short) refl) (ap (policy_with_file_lines policy f) gone ∙ p.forth);
        inverse_is = ap (λ z. AddDef f n at z ∷ []) (d.owned ∙ sym (owned_bytes_of_definition_are_between_offsets (lines_of_numbered_file policy.files f) n at d.from d.to line d.defs here makes d.begins d.stops));
        back = accepted_step_is_run_of_one_edit (AddDef f n at splice) p.next policy
            (edit_of_found_file_edits_its_lines f p.next now.0 (lines_with_definition_added n at splice) now.1
            ∙ accepted_lines_give_next_policy (lines_with_definition_added n at splice (lines_of_numbered_file p.next.files f)) lines (policy_with_file_lines p.next f) policy (ap (lines_with_definition_added n at splice) p.lines ∙ put_again) p.back);
      };
}
  where
    lines : LineTexts
    lines = texts_of_lines (lines_of_numbered_file policy.files f)

    new : Line
    new = record { text = text; node = d.cut.new }

    k : IsKnownSingleLine line
    k = line_of_loaded_file_is_known l policy f n line loaded here

    c : IsSplitAtLine (lines_of_numbered_file policy.files f) n line
    c = lines_are_split_at_numbered_line (lines_of_numbered_file policy.files f) n line here

    makes : definitions_of_alias_line line.node ≡ Some d.defs
    makes = ap definitions_of_alias_line d.makes

    reads : LineReadsAsNode line.text (node.Alias d.kind d.defs)
    reads = subst (LineReadsAsNode line.text) d.makes k.reads

    bounds : (d.from ≤ d.to) × (d.to ≤ length line.text)
    bounds = bytes_owned_by_definition_are_within 0 (length line.text) d.defs at d.from d.to (l.ascend line.text d.kind d.defs reads).0 d.begins d.stops

    size : length text ≤ length line.text
    size = subst (λ (t : List ℕ). length t ≤ length line.text) (sym d.cut.text_is) (line_without_bytes_is_not_longer d.from d.to line.text bounds.0 bounds.1)

    short : length text ≤ line_limit
    short = omega (arith, size, (l.size line.text k.alone).1)

    logical : is_logical_line text ≡ true
    logical = text_with_single_reading_is_logical_line text d.cut.new d.cut.says

    less : ReadsWithoutOneDefinition d.kind d.defs at d.cut.new
    less =
        line_with_one_less_reads_without_definition d.kind d.defs at d.from d.to d.cut.new
        (subst (λ (m : Node). has_one_item_more among.Definitions at d.from d.to (Some m) (Some d.cut.new) ≡ true) d.makes d.cut.more)

    ends : DefinitionsEndBeforeFinalLf
    ends = definitions_ascend_to_before_final_lf (λ line kind defs reads. (l.ascend line kind defs reads).0)

    keeps : ends_in_lf line.text ≡ true → ends_in_lf text ≡ true
    keeps lf =
        let within = bytes_owned_by_definition_are_within 0 (length line.text - 1) d.defs at d.from d.to (ends line.text d.kind d.defs reads lf) d.begins d.stops in
        let before : d.to < length line.text = omega (arith, within.1, (l.size line.text k.alone).0) in
        ap ends_in_lf d.cut.text_is ∙ line_without_inner_bytes_keeps_end d.from d.to line.text before ∙ lf

    fits : FitInPlaceOfLine line c.after (new ∷ [])
    fits = record {
      each = (l.single text logical short, tt);
      says = (single_reading_is_reading_of_text text d.cut.new (l.outcome text) d.cut.says, tt);
      ended = replaced_line_with_lf_keeps_ended_lines line text c.after keeps;
      shorter = omega (arith, size, length-append text []);
      part = λ i j.
          subst (λ (ds : List PlacedDefinition). IsPartOfDefinitions (definitions_in_line i line.node) ds) (sym (append-nil (definitions_in_line j d.cut.new)))
          (subst (λ (m : Node). IsPartOfDefinitions (definitions_in_line i m) (definitions_in_line j d.cut.new)) (sym d.makes)
          (subst (λ (m : Node). IsPartOfDefinitions (definitions_in_line i (node.Alias d.kind d.defs)) (definitions_in_line j m)) (sym less.is)
          (definitions_without_one_are_part d.kind i j 0 0 d.defs at less.less less.alike)));
      leads = λ name. alias_line_has_no_include_lead name d.kind d.defs line.node d.makes;
      lead = λ name. (alias_line_has_no_include_lead name d.kind less.less d.cut.new less.is, tt);
    }

    p : IsPolicyWithLinesPut policy f c.front c.after (new ∷ [])
    p = fitting_lines_are_put_in_policy l policy f c.front line c.after (new ∷ []) loaded on c.is fits

    file : (file : ParsedFile) × (slice_get policy.files f ≡ Some file)
    file = line_of_file_implies_present_file policy.files f n line here

    now : (file : ParsedFile) × (slice_get p.next.files f ≡ Some file)
    now = file_is_present_after_put policy f n line c.front c.after (new ∷ []) here p

    gone : lines_with_one_replaced n text lines ≡ texts_of_lines (c.front ++ new ∷ c.after)
    gone = ap₂ (λ ls m. lines_with_one_replaced m text (texts_of_lines ls)) c.is (sym c.place) ∙ replacement_behind_front_sets_line_text c.front line new c.after

    there : slice_get (c.front ++ new ∷ c.after) n ≡ Some new
    there = ap (slice_get (c.front ++ new ∷ c.after)) (sym c.place) ∙ item_behind_front_is_at_front_length c.front new c.after

    again : line_with_splice d.from splice text ≡ line.text
    again =
        ap (λ z. line_with_splice d.from z text) d.owned ∙ ap (line_with_splice d.from (bytes_between d.from d.to line.text)) d.cut.text_is
        ∙ bytes_taken_out_are_put_in_again line.text d.from d.to d.cut.order d.cut.inside

    stop : d.from + length splice ≡ d.to
    stop = ap (λ z. d.from + length z) d.owned ∙ start_and_size_of_slice_make_stop line.text d.from d.to d.cut.order d.cut.inside

    restored : lines_with_one_replaced n line.text (texts_of_lines (c.front ++ new ∷ c.after)) ≡ lines
    restored =
        ap (λ m. lines_with_one_replaced m line.text (texts_of_lines (c.front ++ new ∷ c.after))) (sym c.place) ∙ replacement_behind_front_sets_line_text c.front new line c.after ∙ ap texts_of_lines (sym c.is)

    put_again : lines_with_definition_added n at splice (c.front ++ new ∷ c.after) ≡ Ok lines
    put_again =
        let more = line_with_one_definition_more_has_parts at d.from d.to line.node d.cut.new d.cut.more in
        fitting_definition_addition_is_accepted n at d.from splice (c.front ++ new ∷ c.after) new more.less there (ap definitions_of_alias_line more.was) more.owned.fits
        (ap (λ o. has_one_item_more among.Definitions at d.from (d.from + length splice) o (Some d.cut.new)) (ap reading_of_single_line again ∙ k.says)
        ∙ ap (λ z. has_one_item_more among.Definitions at d.from z (Some line.node) (Some d.cut.new)) stop ∙ d.cut.more)
        (subst (λ (t : List ℕ). length t ≤ line_limit) (sym again) (l.size line.text k.alone).1)
        ∙ ap (λ (t : List ℕ). Ok (lines_with_one_replaced n t (texts_of_lines (c.front ++ new ∷ c.after)))) again
        ∙ ap (λ (ls : LineTexts). Ok ls) restored

-- a line of a file says what its bytes say
pub loaded_line_reads_as_its_node : LawsBehindPrunes → (policy : LoadedPolicy) (f n : ℕ) (line : Line) → policy_or_load_fault (named_files_of_policy policy) ≡ Ok policy
    → slice_get (lines_of_numbered_file policy.files f) n ≡ Some line → reading_of_single_line line.text ≡ Some line.node
loaded_line_reads_as_its_node l policy f n line loaded here = (line_of_loaded_file_is_known l policy f n line loaded here).says
