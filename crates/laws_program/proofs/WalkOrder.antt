-- The files that are gathered come onto the walk in the order in which they are gathered.
use Rattle.std.proofs.Common.{◌≡◌, ℕ, zero, suc, ◌+◌, ◌≤◌, nat_le, Bool, true, false, if◌then◌else◌, List, [], ◌∷◌, ◌++◌, length, option_map, slice_get, Option, Some, None, Result, Ok, Err, refl, sym, ap, ◌∙◌, append_assoc, append-nil, arith}
use Rattle.std.specs.List.{AllByRecursion, range_with_len}
use Rattle.std.specs.Result.{result_ok}
use Rattle.std.proofs.lemmas.List.{length_push}
use Rattle.sudoers_text.specs.Cut.{EachIsOneLineWhenCut, cut_outcome_of_text}
use Rattle.sudoers_text.specs.Ended.{has_inner_line_without_lf}
use Rattle.sudoers_text.specs.Fault.{text_limit}
use Rattle.sudoers_text.specs.Line.{join}
use Rattle.sudoers_text.specs.Whole.{is_logical_line}
use Rattle.sudoers_grammar.specs.declared.fault.LineFault.{LineFault}
use Rattle.sudoers_grammar.specs.declared.fault.LineFault.TheVariants as line_fault
use Rattle.sudoers_grammar.specs.Node.{Node}
use Rattle.sudoers_line_reader.specs.Outcome.{outcome_of_line}
use Rattle.sudoers_tree.specs.declared.fault.SyntaxFault.{SyntaxFault}
use Rattle.sudoers_tree.specs.declared.include_leads.Lead.{Lead}
use Rattle.sudoers_tree.specs.declared.named_files.NamedFile.{NamedFile}
use Rattle.sudoers_tree.specs.declared.load_fault.LoadFault.{LoadFault}
use Rattle.sudoers_tree.specs.Fault.{syntax_fault_as_read_fault}
use Rattle.sudoers_tree.specs.Files.{ParsedFile, fault_of_optional_file, fault_of_numbered_file, parsed_lines_from_outcome, lines_of_optional_file, lines_of_numbered_file, name_of_optional_file as read_name, name_of_numbered_file, lines_parsed_until_fault}
use Rattle.sudoers_tree.specs.Lead.{lead_of_parsed_line, lead_of_optional_node, include_lead_of_line}
use Rattle.sudoers_tree.specs.Line.{Line}
use Rattle.sudoers_tree.specs.Load.{LoadedPolicy, file_limit, has_file_with_name, policy_or_load_fault}
use Rattle.sudoers_tree.specs.Policy.{texts_of_lines}
use Rattle.sudoers_tree.specs.Single.{reading_of_single_line}
use Rattle.sudoers_tree.specs.Targets.{number_of_first_file_named}
use Rattle.sudoers_tree.specs.Walk.{IncludeSite, WalkState, load_result_and_then as then_walk, include_depth_limit, walk_with_file_entered, is_file_on_walk, lead_of_file_line, empty_walk, files_opened_by_lead, include_site_of_line, spot_of_file_line, walk_with_line_appended, repeated_include_fault, value_unless_file_fault, walk_after_file_visit as walk_visit, walk_after_file_visits as walk_each, walk_after_file_lines, walk_or_fault_of_files}
use Rattle.sudoers_tree.proofs.WalkSound.{IsLoadOfFiles, loaded_policy_is_load_of_files}
use Rattle.sudoers_files.specs.declared.fault.GatherFault.TheVariants.{TooManyFiles}
use Rattle.sudoers_files.specs.Gather.{gather_result_and_then, gathered_from_root_bytes, gathered_files_or_fault, gathered_with_file_and_includes, gathered_unless_found, gathered_unless_missing_or_full, gathered_after_file_visit, gathered_after_file_visits}
use Rattle.sudoers_files.specs.Included.{names_from_include_leads_of_lines, file_names_included_by_file, file_names_of_lead, lines_of_cut_or_none as lines_cut}
use Rattle.sudoers_files.specs.Shelf.{named_file_bytes_truncated_past_limit}
use Rattle.sudoers_files.proofs.Visited.{visits_of_appended_names_are_chained}
use Rattle.laws_program.proofs.WalkSteps.{file_fully_on_walk_has_no_fault, opened_files_are_targets_of_lead, appended_line_keeps_files_on_walk}
use Rattle.laws_program.proofs.FolderOrder.{IsNameOfKnownFile}
use Rattle.sudoers_files.proofs.Keeping.{names_of_found_files, equal_results_have_equal_files}
use Rattle.laws_program.proofs.GatheredFiles.{IsParsedKnownFile, names_of_parsed_files, GatherResult, LinesAreParsedUntilFault, parsed_file_has_fault_of_lines, parsed_files_are_known_and_named_alike, gathered_files_are_from_known, lines_of_parsed_file_are_those_parsed, loaded_files_have_no_repeated_name, number_of_named_file_is_its_place, faultless_parse_keeps_all_texts}
use Rattle.laws_program.proofs.GatheredNumbers.{IsExtensionOfFound, AreNumbersOfNamedFiles, IsPrefixOfFound, AreGatheredFilesParsed, visits_extend_found_files, appended_file_is_at_length, file_not_on_walk_is_unfound, lead_targets_are_numbers_of_lead_names, found_file_has_its_number, prefix_of_prefix_is_prefix_of_found, numbers_below}

-- ---- the walk and the gathering go on together

abbrev VisitKeepsGatheredOrder : (known found : List NamedFile) (files : List ParsedFile) → ℕ → Type 0
VisitKeepsGatheredOrder known found files left = (levels : ℕ) (at : IncludeSite) (f : ℕ) (w now : WalkState) (name : List ℕ) (before after : List NamedFile) → walk_visit left files at f w ≡ Ok now → is_file_on_walk w f ≡ false
    → number_of_first_file_named name 0 files ≡ Some f → gathered_after_file_visit levels known before name ≡ Ok after → IsPrefixOfFound found after → w.on ≡ numbers_below (length before) → now.on ≡ numbers_below (length after)

visits_to_each_file_keep_gathered_order : (known found : List NamedFile) (files : List ParsedFile) (left : ℕ) → VisitKeepsGatheredOrder known found files left → (levels : ℕ) (at : IncludeSite) (inner : List ℕ) (names : List (List ℕ)) (w now : WalkState)
    (before after : List NamedFile) → AreNumbersOfNamedFiles files names inner → walk_each (walk_visit left files) files at inner w ≡ Ok now → gathered_after_file_visits (gathered_after_file_visit levels known) before names ≡ Ok after
    → IsPrefixOfFound found after → w.on ≡ numbers_below (length before) → now.on ≡ numbers_below (length after)
visits_to_each_file_keep_gathered_order known found files left meets levels at [] [] w now before after same walks visits prefix on =
    let first : w ≡ now = cc in
    ap (λ (v : WalkState). v.on) (sym first) ∙ on ∙ ap (λ fs. numbers_below (length fs)) (equal_results_have_equal_files before after visits)
visits_to_each_file_keep_gathered_order known found files left meets levels at [] (name ∷ names) w now before after same walks visits prefix on = absurd same
visits_to_each_file_keep_gathered_order known found files left meets levels at (f ∷ inner) [] w now before after same walks visits prefix on = absurd same
visits_to_each_file_keep_gathered_order known found files left meets levels at (f ∷ inner) (name ∷ names) w now before after same walks visits prefix on =
    by_test (is_file_on_walk w f) refl walks (λ within mid. visits_to_each_file_keep_gathered_order known found files left meets levels at inner names within now mid after same.1)
  where
    Later : Type 0
    Later = (within : WalkState) (mid : List NamedFile) → walk_each (walk_visit left files) files at inner within ≡ Ok now → gathered_after_file_visits (gathered_after_file_visit levels known) mid names ≡ Ok after → IsPrefixOfFound found after
        → within.on ≡ numbers_below (length mid) → now.on ≡ numbers_below (length after)

    by_found : (r : GatherResult) (within : WalkState) → is_file_on_walk w f ≡ false → walk_visit left files at f w ≡ Ok within → walk_each (walk_visit left files) files at inner within ≡ Ok now
        → gathered_after_file_visit levels known before name ≡ r → gather_result_and_then r (λ mid. gathered_after_file_visits (gathered_after_file_visit levels known) mid names) ≡ Ok after → Later → now.on ≡ numbers_below (length after)
    by_found (Ok mid) within off v e here g later =
        later within mid e g prefix
        (meets levels at f w within name before mid v off same.0 here (prefix_of_prefix_is_prefix_of_found found mid after prefix (visits_extend_found_files known levels mid after names g)) on)
    by_found (Err fault) within off v e here g later = absurd cc

    by_visit : (r : Result WalkState LoadFault) → is_file_on_walk w f ≡ false → walk_visit left files at f w ≡ r → then_walk r (walk_each (walk_visit left files) files at inner) ≡ Ok now → Later → now.on ≡ numbers_below (length after)
    by_visit (Ok within) off v e later = by_found (gathered_after_file_visit levels known before name) within off v e refl visits later
    by_visit (Err fault) off v e later = absurd cc

    by_test : (b : Bool) → is_file_on_walk w f ≡ b → (if b then Err (repeated_include_fault files at f) else then_walk (walk_visit left files at f w) (walk_each (walk_visit left files) files at inner)) ≡ Ok now → Later
        → now.on ≡ numbers_below (length after)
    by_test true off e later = absurd cc
    by_test false off e later = by_visit (walk_visit left files at f w) off refl e later

-- The files to which one line leads.
files_opened_by_line_keep_gathered_order : (known found : List NamedFile) (files : List ParsedFile) → AreGatheredFilesParsed known found files → (left : ℕ) → VisitKeepsGatheredOrder known found files left → (levels : ℕ) (at : IncludeSite) (o : Option Lead) (inner : List ℕ)
    (passed w within : WalkState) (before mid : List NamedFile) → w.on ≡ passed.on → files_opened_by_lead files at passed o ≡ Ok inner → walk_each (walk_visit left files) files at inner passed ≡ Ok within
    → gathered_after_file_visits (gathered_after_file_visit levels known) before (file_names_of_lead known o) ≡ Ok mid → IsPrefixOfFound found mid → w.on ≡ numbers_below (length before) → within.on ≡ numbers_below (length mid)
files_opened_by_line_keep_gathered_order known found files ready left meets levels at None inner passed w within before mid same opens walks visits prefix on =
    let none : [] ≡ inner = cc in
    let first : passed ≡ within = let e = ap (λ i. walk_each (walk_visit left files) files at i passed) none ∙ walks in cc in
    ap (λ (v : WalkState). v.on) (sym first) ∙ sym same ∙ on ∙ ap (λ fs. numbers_below (length fs)) (equal_results_have_equal_files before mid visits)
files_opened_by_line_keep_gathered_order known found files ready left meets levels at (Some lead) inner passed w within before mid same opens walks visits prefix on =
    visits_to_each_file_keep_gathered_order known found files left meets levels at inner (file_names_of_lead known (Some lead)) passed within before mid
    (lead_targets_are_numbers_of_lead_names known found files ready levels before mid prefix lead inner (opened_files_are_targets_of_lead files at passed (Some lead) inner opens lead refl) visits) walks visits prefix (sym same ∙ on)

include_lead_of_line_is_of_node : (name text : List ℕ) (says : Node) → is_logical_line text ≡ true → outcome_of_line text ≡ Ok says → include_lead_of_line name text ≡ lead_of_parsed_line name says
unfolding reading_of_single_line
include_lead_of_line_is_of_node name text says whole is = ap (λ t. lead_of_optional_node name (if t then result_ok (outcome_of_line text) else None)) whole ∙ ap (λ o. lead_of_optional_node name (result_ok o)) is

abbrev AreLogicalLines : List (List ℕ) → Type 0
AreLogicalLines = AllByRecursion (λ text. is_logical_line text ≡ true)

file_lines_keep_gathered_order : (known found : List NamedFile) (files : List ParsedFile) → AreGatheredFilesParsed known found files → (left : ℕ) → VisitKeepsGatheredOrder known found files left → (levels f : ℕ) (name : List ℕ) → name_of_numbered_file files f ≡ name
    → (n : ℕ) (read : List Line) (lines : List (List ℕ)) (w now : WalkState) (before after : List NamedFile) → AreLogicalLines lines → texts_of_lines (lines_parsed_until_fault read lines).0 ≡ lines
    → walk_after_file_lines (walk_visit left files) files f n (lines_parsed_until_fault read lines).0 w ≡ Ok now → gathered_after_file_visits (gathered_after_file_visit levels known) before (names_from_include_leads_of_lines (file_names_of_lead known) name lines) ≡ Ok after
    → IsPrefixOfFound found after → w.on ≡ numbers_below (length before) → now.on ≡ numbers_below (length after)
file_lines_keep_gathered_order known found files ready left meets levels f name named n read [] w now before after logical all walks visits prefix on = by (fault_of_numbered_file files f) walks
  where
    by : (o : Option SyntaxFault) → value_unless_file_fault (name_of_numbered_file files f) w (option_map syntax_fault_as_read_fault o) ≡ Ok now → now.on ≡ numbers_below (length after)
    by None e = let first : w ≡ now = cc in ap (λ (v : WalkState). v.on) (sym first) ∙ on ∙ ap (λ fs. numbers_below (length fs)) (equal_results_have_equal_files before after visits)
    by (Some fault) e = absurd cc
file_lines_keep_gathered_order known found files ready left meets levels f name named n read (text ∷ lines) w now before after logical all walks visits prefix on =
    by (outcome_of_line text) refl all walks (λ line. file_lines_keep_gathered_order known found files ready left meets levels f name named (n + 1) (read ++ line ∷ []) lines)
  where
    next : Line → List Line × Option SyntaxFault
    next line = lines_parsed_until_fault (read ++ line ∷ []) lines

    Later : Type 0
    Later = (line : Line) (within now : WalkState) (mid after : List NamedFile) → AreLogicalLines lines → texts_of_lines (next line).0 ≡ lines
        → walk_after_file_lines (walk_visit left files) files f (n + 1) (next line).0 within ≡ Ok now → gathered_after_file_visits (gathered_after_file_visit levels known) mid (names_from_include_leads_of_lines (file_names_of_lead known) name lines) ≡ Ok after
        → IsPrefixOfFound found after → within.on ≡ numbers_below (length mid) → now.on ≡ numbers_below (length after)

    by_found : (r : GatherResult) (line : Line) (passed within : WalkState) (inner : List ℕ) → include_lead_of_line name text ≡ lead_of_file_line files f line → w.on ≡ passed.on
        → files_opened_by_lead files (include_site_of_line files f n) passed (lead_of_file_line files f line) ≡ Ok inner → walk_each (walk_visit left files) files (include_site_of_line files f n) inner passed ≡ Ok within
        → walk_after_file_lines (walk_visit left files) files f (n + 1) (next line).0 within ≡ Ok now → texts_of_lines (next line).0 ≡ lines → gathered_after_file_visits (gathered_after_file_visit levels known) before (file_names_of_lead known (include_lead_of_line name text)) ≡ r
        → gather_result_and_then r (λ mid. gathered_after_file_visits (gathered_after_file_visit levels known) mid (names_from_include_leads_of_lines (file_names_of_lead known) name lines)) ≡ Ok after → Later → now.on ≡ numbers_below (length after)
    by_found (Ok mid) line passed within inner lead same o v e rest g h later =
        later line within now mid after logical.1 rest e h prefix
        (files_opened_by_line_keep_gathered_order known found files ready left meets levels (include_site_of_line files f n) (lead_of_file_line files f line) inner passed w within before mid same o v
        (ap (λ l. gathered_after_file_visits (gathered_after_file_visit levels known) before (file_names_of_lead known l)) (sym lead) ∙ g)
        (prefix_of_prefix_is_prefix_of_found found mid after prefix (visits_extend_found_files known levels mid after (names_from_include_leads_of_lines (file_names_of_lead known) name lines) h)) on)
    by_found (Err fault) line passed within inner lead same o v e rest g h later = absurd cc

    by_each : (r : Result WalkState LoadFault) (line : Line) (passed : WalkState) (inner : List ℕ) → include_lead_of_line name text ≡ lead_of_file_line files f line → w.on ≡ passed.on
        → files_opened_by_lead files (include_site_of_line files f n) passed (lead_of_file_line files f line) ≡ Ok inner → walk_each (walk_visit left files) files (include_site_of_line files f n) inner passed ≡ r
        → then_walk r (walk_after_file_lines (walk_visit left files) files f (n + 1) (next line).0) ≡ Ok now → texts_of_lines (next line).0 ≡ lines → Later → now.on ≡ numbers_below (length after)
    by_each (Ok within) line passed inner lead same o v e rest later =
        by_found (gathered_after_file_visits (gathered_after_file_visit levels known) before (file_names_of_lead known (include_lead_of_line name text))) line passed within inner lead same o v e rest refl
        (sym (visits_of_appended_names_are_chained (gathered_after_file_visit levels known) before (file_names_of_lead known (include_lead_of_line name text)) (names_from_include_leads_of_lines (file_names_of_lead known) name lines)) ∙ visits) later
    by_each (Err fault) line passed inner lead same o v e rest later = absurd cc

    by_opened : (r : Result (List ℕ) LoadFault) (line : Line) (passed : WalkState) → include_lead_of_line name text ≡ lead_of_file_line files f line → w.on ≡ passed.on → files_opened_by_lead files (include_site_of_line files f n) passed (lead_of_file_line files f line) ≡ r
        → then_walk r (λ inner. then_walk (walk_each (walk_visit left files) files (include_site_of_line files f n) inner passed) (walk_after_file_lines (walk_visit left files) files f (n + 1) (next line).0)) ≡ Ok now
        → texts_of_lines (next line).0 ≡ lines → Later → now.on ≡ numbers_below (length after)
    by_opened (Ok inner) line passed lead same o e rest later = by_each (walk_each (walk_visit left files) files (include_site_of_line files f n) inner passed) line passed inner lead same o refl e rest later
    by_opened (Err fault) line passed lead same o e rest later = absurd cc

    by_taken : (r : Result WalkState LoadFault) (line : Line) → include_lead_of_line name text ≡ lead_of_file_line files f line → walk_with_line_appended (name_of_numbered_file files f) (spot_of_file_line files f n) line w ≡ r
        → then_walk r (λ passed. then_walk (files_opened_by_lead files (include_site_of_line files f n) passed (lead_of_file_line files f line)) (λ inner.
        then_walk (walk_each (walk_visit left files) files (include_site_of_line files f n) inner passed) (walk_after_file_lines (walk_visit left files) files f (n + 1) (next line).0))) ≡ Ok now
        → texts_of_lines (next line).0 ≡ lines → Later → now.on ≡ numbers_below (length after)
    by_taken (Ok passed) line lead t e rest later =
        by_opened (files_opened_by_lead files (include_site_of_line files f n) passed (lead_of_file_line files f line)) line passed lead (appended_line_keeps_files_on_walk (name_of_numbered_file files f) (spot_of_file_line files f n) line w passed t) refl e rest later
    by_taken (Err fault) line lead t e rest later = absurd cc

    by : (r : Result Node LineFault) → outcome_of_line text ≡ r → texts_of_lines (parsed_lines_from_outcome read text r next).0 ≡ text ∷ lines
        → walk_after_file_lines (walk_visit left files) files f n (parsed_lines_from_outcome read text r next).0 w ≡ Ok now → Later → now.on ≡ numbers_below (length after)
    by (Ok says) is whole e later =
        let line : Line = record { text = text; node = says } in
        by_taken (walk_with_line_appended (name_of_numbered_file files f) (spot_of_file_line files f n) line w) line (include_lead_of_line_is_of_node name text says logical.0 is ∙ ap (λ m. lead_of_parsed_line m says) (sym named)) refl e
        (let rest : texts_of_lines (next line).0 ≡ lines = cc in rest) later
    by (Err (line_fault.Syntax at why)) is whole e later = absurd cc
    by (Err line_fault.NoMemory) is whole e later = absurd cc

-- ---- a file

abbrev pub CutLinesAreLogical : Type 0
CutLinesAreLogical = (text : List ℕ) (lines : List (List ℕ)) → cut_outcome_of_text text ≡ Ok lines → AllByRecursion (λ line. is_logical_line line ≡ true) lines

lines_cut_to_themselves_are_logical : ((line : List ℕ) → cut_outcome_of_text line ≡ Ok (line ∷ []) → is_logical_line line ≡ true) → (lines : List (List ℕ)) → EachIsOneLineWhenCut lines → AreLogicalLines lines
lines_cut_to_themselves_are_logical whole [] alone = tt
lines_cut_to_themselves_are_logical whole (line ∷ lines) alone = (whole line alone.0, lines_cut_to_themselves_are_logical whole lines alone.1)

pub cut_law_gives_logical_lines : ((text : List ℕ) (lines : List (List ℕ)) → cut_outcome_of_text text ≡ Ok lines → EachIsOneLineWhenCut lines × (has_inner_line_without_lf lines ≡ false) × (join lines ≡ text) × (length text ≤ text_limit))
    → ((line : List ℕ) → cut_outcome_of_text line ≡ Ok (line ∷ []) → is_logical_line line ≡ true) → CutLinesAreLogical
cut_law_gives_logical_lines alone whole text lines cuts = lines_cut_to_themselves_are_logical whole lines (alone text lines cuts).0

-- The lines of a file that is taken, and of the same file on the walk.
entered_file_keeps_gathered_order : LinesAreParsedUntilFault → CutLinesAreLogical → (known found : List NamedFile) (files : List ParsedFile) → AreGatheredFilesParsed known found files → (left : ℕ) → VisitKeepsGatheredOrder known found files left → (levels f : ℕ) (w now : WalkState) (file : NamedFile)
    (before after : List NamedFile) → number_of_first_file_named file.name 0 files ≡ Some f → f ≡ length before → named_file_bytes_truncated_past_limit file.name known ≡ Some file.bytes
    → walk_after_file_lines (walk_visit left files) files f 0 (lines_of_numbered_file files f) (walk_with_file_entered f w) ≡ Ok now → gathered_after_file_visits (gathered_after_file_visit levels known) (before ++ file ∷ []) (file_names_included_by_file known file) ≡ Ok after
    → IsPrefixOfFound found after → w.on ≡ numbers_below (length before) → now.on ≡ numbers_below (length after)
entered_file_keeps_gathered_order reads cuts-whole known found files ready left meets levels f w now file before after first last there walks visits prefix on =
    let number = number_of_named_file_is_its_place (IsParsedKnownFile known) file.name 0 f files ready.readings first in
    let at : f ≡ number.at = omega (arith, number.number) in
    let got : slice_get files f ≡ Some number.reading = ap (slice_get files) at ∙ number.there in
    let is = number.holds in
    let named : name_of_numbered_file files f ≡ file.name = ap read_name got ∙ number.named in
    let bytes : is.bytes ≡ file.bytes = let both : Some is.bytes ≡ Some file.bytes = sym is.there ∙ ap (λ n. named_file_bytes_truncated_past_limit n known) number.named ∙ there in cc in
    let cuts : cut_outcome_of_text file.bytes ≡ Ok is.lines = ap cut_outcome_of_text (sym bytes) ∙ is.cuts in
    let none : (lines_parsed_until_fault [] is.lines).1 ≡ None = sym (parsed_file_has_fault_of_lines number.reading.name is.lines) ∙ ap (λ (r : ParsedFile). r.fault) (sym is.is) ∙ sym (ap fault_of_optional_file got) ∙ file_fully_on_walk_has_no_fault (walk_visit left files) files f 0 (lines_of_numbered_file files f) (walk_with_file_entered f w) now walks in
    let lines : lines_of_numbered_file files f ≡ (lines_parsed_until_fault [] is.lines).0 = ap lines_of_optional_file got ∙ ap (λ (r : ParsedFile). r.lines) is.is ∙ lines_of_parsed_file_are_those_parsed number.reading.name is.lines in
    let count : suc (length before) ≡ length (before ++ file ∷ []) = omega (arith, length_push before file) in
    let entered : (walk_with_file_entered f w).on ≡ numbers_below (length (before ++ file ∷ [])) = ap (λ fs. fs ++ f ∷ []) on ∙ ap (λ k. numbers_below (length before) ++ k ∷ []) last ∙ ap numbers_below count in
    file_lines_keep_gathered_order known found files ready left meets levels f file.name named 0 [] is.lines (walk_with_file_entered f w) now (before ++ file ∷ []) after (cuts-whole file.bytes is.lines cuts)
    (faultless_parse_keeps_all_texts is.lines (lines_parsed_until_fault [] is.lines).0 (lines_parsed_until_fault [] is.lines).1 (reads is.lines) none)
    (ap (λ ls. walk_after_file_lines (walk_visit left files) files f 0 ls (walk_with_file_entered f w)) (sym lines) ∙ walks)
    (ap (λ c. gathered_after_file_visits (gathered_after_file_visit levels known) (before ++ file ∷ []) (names_from_include_leads_of_lines (file_names_of_lead known) file.name (lines_cut c))) (sym cuts) ∙ visits) prefix entered

-- A file that is taken has the number of the files that are found before it.
taken_file_has_number_of_count_before : (known found : List NamedFile) (files : List ParsedFile) → AreGatheredFilesParsed known found files → (levels : ℕ) (before after : List NamedFile) (file : NamedFile)
    → gathered_after_file_visits (gathered_after_file_visit levels known) (before ++ file ∷ []) (file_names_included_by_file known file) ≡ Ok after → IsPrefixOfFound found after → number_of_first_file_named file.name 0 files ≡ Some (length before)
taken_file_has_number_of_count_before known found files ready levels before after file visits prefix =
    let here = prefix_of_prefix_is_prefix_of_found found (before ++ file ∷ []) after prefix (visits_extend_found_files known levels (before ++ file ∷ []) after (file_names_included_by_file known file) visits) in
    found_file_has_its_number known found files ready (length before) file
    (ap (λ fs. slice_get fs (length before)) (here.1 ∙ append_assoc before (file ∷ []) here.0) ∙ appended_file_is_at_length before here.0 file)

file_visit_keeps_gathered_order : LinesAreParsedUntilFault → CutLinesAreLogical → (known found : List NamedFile) (files : List ParsedFile) → AreGatheredFilesParsed known found files → (left : ℕ) → VisitKeepsGatheredOrder known found files left
file_visit_keeps_gathered_order reads whole known found files ready zero levels at f w now name before after walks off number visits prefix on = absurd cc
file_visit_keeps_gathered_order reads whole known found files ready (suc left) levels at f w now name before after walks off number visits prefix on =
    by_levels levels visits (file_visit_keeps_gathered_order reads whole known found files ready left)
  where
    fresh : IsExtensionOfFound before after → has_file_with_name name before ≡ false
    fresh extends = file_not_on_walk_is_unfound known found files ready w name f before (prefix_of_prefix_is_prefix_of_found found before after prefix extends) on number off

    known_there : IsNameOfKnownFile known name
    known_there =
        let it = number_of_named_file_is_its_place (IsParsedKnownFile known) name 0 f files ready.readings number in
        (it.holds.bytes, ap (λ n. named_file_bytes_truncated_past_limit n known) (sym it.named) ∙ it.holds.there)

    by_next : (next : NamedFile → GatherResult) → has_file_with_name name before ≡ false → gathered_unless_found next known before name ≡ Ok after → next (record { name = name; bytes = known_there.0 }) ≡ Ok after
    by_next next other e =
        by_limit (nat_le file_limit (length before))
        (sym (ap (gathered_unless_missing_or_full next before name) known_there.1) ∙ sym (ap (λ t. if t then Ok before else gathered_unless_missing_or_full next before name (named_file_bytes_truncated_past_limit name known)) other) ∙ e)
      where
        by_limit : (t : Bool) → (if t then Err TooManyFiles else next (record { name = name; bytes = known_there.0 })) ≡ Ok after → next (record { name = name; bytes = known_there.0 }) ≡ Ok after
        by_limit true g = absurd cc
        by_limit false g = g

    extends_of : (l : ℕ) → gathered_after_file_visit l known before name ≡ Ok after → IsExtensionOfFound before after
    extends_of l e = visits_extend_found_files known l before after (name ∷ []) (ap (λ r. gather_result_and_then r (λ mid. gathered_after_file_visits (gathered_after_file_visit l known) mid [])) e)

    by_levels : (l : ℕ) → gathered_after_file_visit l known before name ≡ Ok after → VisitKeepsGatheredOrder known found files left → now.on ≡ numbers_below (length after)
    by_levels zero e below = let none = by_next (λ file. Err TooManyFiles) (fresh (extends_of zero e)) e in absurd cc
    by_levels (suc l) e below =
        let file : NamedFile = record { name = name; bytes = known_there.0 } in
        let takes = by_next (gathered_with_file_and_includes (gathered_after_file_visit l known) known before) (fresh (extends_of (suc l) e)) e in
        let last : f ≡ length before = let both : Some f ≡ Some (length before) = sym number ∙ taken_file_has_number_of_count_before known found files ready l before after file takes prefix in cc in
        entered_file_keeps_gathered_order reads whole known found files ready left below l f w now file before after number last known_there.1 walks takes prefix on

-- ---- all files

numbers_below_are_range_from_zero : (n : ℕ) → numbers_below n ≡ range_with_len 0 n
numbers_below_are_range_from_zero n = by n
  where
    push : (a m : ℕ) → range_with_len a m ++ (a + m) ∷ [] ≡ range_with_len a (suc m)
    push a zero = let same : a + 0 ≡ a = omega arith in ap (λ k. k ∷ []) same
    push a (suc m) = let same : a + suc m ≡ a + 1 + m = omega arith in ap (λ k. a ∷ (range_with_len (a + 1) m ++ k ∷ [])) same ∙ ap (λ ks. a ∷ ks) (push (a + 1) m)

    by : (m : ℕ) → numbers_below m ≡ range_with_len 0 m
    by zero = refl
    by (suc m) = let same : m ≡ 0 + m = omega arith in ap (λ ks. ks ++ m ∷ []) (by m) ∙ ap (λ k. range_with_len 0 m ++ k ∷ []) same ∙ push 0 m

-- The files that are gathered come onto the walk in their order, if they are a policy.
pub walk_order_is_gathered_order : LinesAreParsedUntilFault → CutLinesAreLogical → (known : List NamedFile) (root : List ℕ) (found : List NamedFile) (policy : LoadedPolicy) → gathered_files_or_fault known root ≡ Ok found → policy_or_load_fault found ≡ Ok policy
    → policy.walk.on ≡ range_with_len 0 (length found)
unfolding gathered_files_or_fault walk_or_fault_of_files
walk_order_is_gathered_order reads whole known root found policy gathers loads = by (named_file_bytes_truncated_past_limit root known) refl gathers ∙ numbers_below_are_range_from_zero (length found)
  where
    load : IsLoadOfFiles found policy
    load = loaded_policy_is_load_of_files found policy loads

    read : AllByRecursion (IsParsedKnownFile known) policy.files × (names_of_parsed_files policy.files ≡ names_of_found_files found)
    read = parsed_files_are_known_and_named_alike known [] policy.files found tt (gathered_files_are_from_known known root found gathers) load.reads

    ready : AreGatheredFilesParsed known found policy.files
    ready = record { readings = read.0; named = read.1; once = loaded_files_have_no_repeated_name found policy loads }

    by : (o : Option (List ℕ)) → named_file_bytes_truncated_past_limit root known ≡ o → gathered_from_root_bytes known root o ≡ Ok found → policy.walk.on ≡ numbers_below (length found)
    by None there e = absurd cc
    by (Some bytes) there e =
        let file : NamedFile = record { name = root; bytes = bytes } in
        let all : IsPrefixOfFound found found = ([], sym (append-nil found)) in
        entered_file_keeps_gathered_order reads whole known found policy.files ready include_depth_limit (file_visit_keeps_gathered_order reads whole known found policy.files ready include_depth_limit) file_limit 0 empty_walk policy.walk file [] found
        (taken_file_has_number_of_count_before known found policy.files ready file_limit [] found file e all) refl there load.walks e all refl
