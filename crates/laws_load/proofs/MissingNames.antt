-- A file that loading gathered files does not find: no known file has its name.
use Rattle.std.proofs.Common.{◌≡◌, ℕ, zero, suc, ◌+◌, ◌||◌, nat_lt, Bool, true, false, if◌then◌else◌, List, [], ◌∷◌, ◌++◌, length, Option, Some, None, Result, Ok, Err, inl, inr, refl, sym, ap, subst, ◌∙◌, append_assoc, append-nil}
use Rattle.std.specs.List.{AllByRecursion}
use Rattle.std.specs.Result.{result_ok}
use Rattle.std.specs.Str.{bytes_eq}
use Rattle.std.proofs.lemmas.List.{map-append}
use Rattle.sudoers_text.specs.Cut.{EachIsOneLineWhenCut, cut_outcome_of_text}
use Rattle.sudoers_text.specs.declared.fault.TextFault.{TextFault}
use Rattle.sudoers_text.specs.Whole.{is_logical_line}
use Rattle.sudoers_grammar.specs.declared.fault.LineFault.{LineFault}
use Rattle.sudoers_grammar.specs.declared.fault.LineFault.TheVariants as line_fault
use Rattle.sudoers_grammar.specs.Node.{Node}
use Rattle.sudoers_line_reader.specs.Outcome.{outcome_of_line}
use Rattle.sudoers_tree.specs.declared.fault.SyntaxFault.{SyntaxFault}
use Rattle.sudoers_tree.specs.declared.include_leads.Lead.TheVariants.{File}
use Rattle.sudoers_tree.specs.declared.load_fault.LoadFault.{LoadFault}
use Rattle.sudoers_tree.specs.declared.load_fault.LoadFault.TheVariants.{TooManyFiles}
use Rattle.sudoers_tree.specs.declared.named_files.NamedFile.{NamedFile}
use Rattle.sudoers_tree.specs.Files.{ParsedFile, lines_parsed_until_fault, lines_of_numbered_file, name_of_numbered_file, parsed_file_of_texts, parsed_lines_from_outcome}
use Rattle.sudoers_tree.specs.Goes.{IsWalkOfFiles}
use Rattle.sudoers_tree.specs.Lead.{include_lead_of_line, lead_of_optional_node, lead_of_parsed_line}
use Rattle.sudoers_tree.specs.Line.{Line}
use Rattle.sudoers_tree.specs.Load.{LoadedPolicy, file_limit, first_repeated_file_name, has_file_with_name, is_name_among, parsed_file_of_cut_or_fault, parsed_files_or_cut_fault, policy_of_parsed_files, policy_or_load_fault, result_unless_repeated_name, walk_or_unreached_file_fault}
use Rattle.sudoers_tree.specs.Mapped.{file_names}
use Rattle.sudoers_tree.specs.Single.{reading_of_single_line}
use Rattle.sudoers_tree.specs.Targets.{number_of_first_file_named}
use Rattle.sudoers_tree.specs.Walk.{WalkState, load_result_and_then, walk_or_fault_of_files}
use Rattle.sudoers_tree.proofs.SaidLines.{LineCutAsItselfIsLogical}
use Rattle.sudoers_files.specs.Gather.{gathered_files_or_fault}
use Rattle.sudoers_files.specs.Included.{file_names_included_by_lines, file_names_of_lead, lines_of_cut_or_none}
use Rattle.sudoers_files.specs.Shelf.{named_file_bytes_truncated_past_limit}
use Rattle.sudoers_files.specs.internal.Gathering.{AreFoundOrMissing, IsFoundOrMissing}
use Rattle.sudoers_files.proofs.Keeping.{names_of_found_files}
use Rattle.laws_load.proofs.ListProperties.{property_of_append_holds_of_its_end, property_of_two_lists_holds_of_append}
use Rattle.laws_load.proofs.MissingFiles.{LeadsToNamesWith, files_off_walk_tell_of_no_missing_file, missing_file_fault, file_missed_by_walk_has_property_of_leads}
use Rattle.laws_load.proofs.SettledFiles.{GatheringsAreGatherOutcomes, LeadsToFoundOrMissing, gathered_files_lead_to_found_or_missing}

abbrev pub CutLinesStandAlone : Type 0
CutLinesStandAlone = (text : List ℕ) (lines : List (List ℕ)) → cut_outcome_of_text text ≡ Ok lines → EachIsOneLineWhenCut lines

lead_of_logical_line_is_that_of_its_node : (file text : List ℕ) (says : Node) → is_logical_line text ≡ true → outcome_of_line text ≡ Ok says
    → include_lead_of_line file text ≡ lead_of_parsed_line file says
unfolding reading_of_single_line
lead_of_logical_line_is_that_of_its_node file text says whole is =
    ap (λ t. lead_of_optional_node file (if t then result_ok (outcome_of_line text) else None)) whole
    ∙ ap (λ o. lead_of_optional_node file (result_ok o)) is

parsed_file_of_texts_has_name : (name : List ℕ) (lines : List (List ℕ)) → (parsed_file_of_texts name lines).name ≡ name
unfolding parsed_file_of_texts
parsed_file_of_texts_has_name name lines = refl

-- ---- the leads of files that are read

module _ (whole : LineCutAsItselfIsLogical) (alone : CutLinesStandAlone) (known gathered : List NamedFile) where
  -- Each single file to which the line leads, in a file with this name, is gathered, or no known file has its name.
  abbrev LeadsToSettledName : List ℕ → Line → Type 0
  LeadsToSettledName = LeadsToNamesWith (IsFoundOrMissing known gathered)

  abbrev LeadsToSettledNames : ParsedFile → Type 0
  LeadsToSettledNames reading = AllByRecursion (LeadsToSettledName reading.name) reading.lines

  parsed_lines_lead_to_settled_names : (file : List ℕ) (before : List Line) (lines : List (List ℕ)) → EachIsOneLineWhenCut lines
      → AreFoundOrMissing known gathered (file_names_included_by_lines known file lines)
      → AllByRecursion (LeadsToSettledName file) (lines_parsed_until_fault before lines).0
  parsed_lines_lead_to_settled_names file before [] each settled = tt
  parsed_lines_lead_to_settled_names file before (text ∷ more) each settled =
      by (outcome_of_line text) refl (λ line. parsed_lines_lead_to_settled_names file (before ++ line ∷ []) more each.1 rest)
    where
      rest : AreFoundOrMissing known gathered (file_names_included_by_lines known file more)
      rest =
          property_of_append_holds_of_its_end (IsFoundOrMissing known gathered) (file_names_of_lead known (include_lead_of_line file text))
          (file_names_included_by_lines known file more) settled

      next : Line → List Line × Option SyntaxFault
      next line = lines_parsed_until_fault (before ++ line ∷ []) more

      here : (says : Node) → outcome_of_line text ≡ Ok says → (name : List ℕ) → lead_of_parsed_line file says ≡ Some (File name)
          → IsFoundOrMissing known gathered name
      here says is name leads =
          let lead = lead_of_logical_line_is_that_of_its_node file text says (whole text each.0) is ∙ leads in
          let names : AreFoundOrMissing known gathered (name ∷ file_names_included_by_lines known file more) =
          subst (λ l. AreFoundOrMissing known gathered (file_names_of_lead known l ++ file_names_included_by_lines known file more)) lead settled in
          names.0

      by : (o : Result Node LineFault) → outcome_of_line text ≡ o → ((line : Line) → AllByRecursion (LeadsToSettledName file) (next line).0)
          → AllByRecursion (LeadsToSettledName file) (parsed_lines_from_outcome before text o next).0
      by (Ok says) is later = (here says is, later (record { text = text; node = says }))
      by (Err (line_fault.Syntax at why)) is later = tt
      by (Err line_fault.NoMemory) is later = tt

  parsed_file_leads_to_settled_names : (file : NamedFile) (lines : List (List ℕ)) → cut_outcome_of_text file.bytes ≡ Ok lines
      → LeadsToFoundOrMissing known gathered file
      → LeadsToSettledNames (parsed_file_of_texts file.name lines)
  unfolding parsed_file_of_texts
  parsed_file_leads_to_settled_names file lines cuts settled =
      parsed_lines_lead_to_settled_names file.name [] lines (alone file.bytes lines cuts)
      (subst (λ c. AreFoundOrMissing known gathered (file_names_included_by_lines known file.name (lines_of_cut_or_none c))) cuts settled)

  -- Each of the files that are read leads to settled names, and their names are these.
  abbrev AreReadWithSettledNames : List ParsedFile → List (List ℕ) → Type 0
  AreReadWithSettledNames read names = AllByRecursion LeadsToSettledNames read × (file_names read ≡ names)

  parsed_files_lead_to_settled_names : (before read : List ParsedFile) (files : List NamedFile) → AllByRecursion LeadsToSettledNames before
      → AllByRecursion (LeadsToFoundOrMissing known gathered) files → parsed_files_or_cut_fault before files ≡ Ok read
      → AreReadWithSettledNames read (file_names before ++ names_of_found_files files)
  parsed_files_lead_to_settled_names before read [] all settled is =
      let same : before ≡ read = cc in
      (subst (AllByRecursion LeadsToSettledNames) same all, ap file_names (sym same) ∙ sym (append-nil (file_names before)))
  parsed_files_lead_to_settled_names before read (file ∷ files) all settled is =
      by (cut_outcome_of_text file.bytes) refl is
      (λ lines cuts. parsed_files_lead_to_settled_names (with_file lines) read files (all_with_file lines cuts) settled.1)
    where
      with_file : List (List ℕ) → List ParsedFile
      with_file lines = before ++ parsed_file_of_texts file.name lines ∷ []

      all_with_file : (lines : List (List ℕ)) → cut_outcome_of_text file.bytes ≡ Ok lines → AllByRecursion LeadsToSettledNames (with_file lines)
      all_with_file lines cuts =
          property_of_two_lists_holds_of_append LeadsToSettledNames before (parsed_file_of_texts file.name lines ∷ []) all
          (parsed_file_leads_to_settled_names file lines cuts settled.0, tt)

      names : (lines : List (List ℕ))
          → file_names (with_file lines) ++ names_of_found_files files ≡ file_names before ++ names_of_found_files (file ∷ files)
      names lines =
          let reading = parsed_file_of_texts file.name lines in
          ap (λ ns. ns ++ names_of_found_files files) (map-append (λ (f : ParsedFile). f.name) before (reading ∷ []))
          ∙ append_assoc (file_names before) (reading.name ∷ []) (names_of_found_files files)
          ∙ ap (λ n. file_names before ++ n ∷ names_of_found_files files) (parsed_file_of_texts_has_name file.name lines)

      Later : Type 0
      Later = (lines : List (List ℕ)) → cut_outcome_of_text file.bytes ≡ Ok lines → parsed_files_or_cut_fault (with_file lines) files ≡ Ok read
          → AreReadWithSettledNames read (file_names (with_file lines) ++ names_of_found_files files)

      by : (r : Result (List (List ℕ)) TextFault) → cut_outcome_of_text file.bytes ≡ r
          → load_result_and_then (parsed_file_of_cut_or_fault file.name r) (λ reading. parsed_files_or_cut_fault (before ++ reading ∷ []) files) ≡ Ok read
          → Later → AreReadWithSettledNames read (file_names before ++ names_of_found_files (file ∷ files))
      by (Ok lines) cuts e later = let rest = later lines cuts e in (rest.0, rest.1 ∙ names lines)
      by (Err fault) cuts e later = absurd cc

  numbered_file_leads_to_settled_names : (files : List ParsedFile) → AllByRecursion LeadsToSettledNames files → (f : ℕ)
      → AllByRecursion (LeadsToSettledName (name_of_numbered_file files f)) (lines_of_numbered_file files f)
  numbered_file_leads_to_settled_names [] all f = tt
  numbered_file_leads_to_settled_names (file ∷ files) all zero = all.0
  numbered_file_leads_to_settled_names (file ∷ files) all (suc f) = numbered_file_leads_to_settled_names files all.1 f

name_without_number_is_not_among_files : (name : List ℕ) (n : ℕ) (files : List ParsedFile) → number_of_first_file_named name n files ≡ None
    → is_name_among name (file_names files) ≡ false
name_without_number_is_not_among_files name n [] gone = refl
name_without_number_is_not_among_files name n (file ∷ files) gone =
    by (bytes_eq name file.name) gone (name_without_number_is_not_among_files name (n + 1) files)
  where
    by : (b : Bool) → (if b then Some n else number_of_first_file_named name (n + 1) files) ≡ None
        → (number_of_first_file_named name (n + 1) files ≡ None → is_name_among name (file_names files) ≡ false)
        → (b || is_name_among name (file_names files)) ≡ false
    by true e later = absurd cc
    by false e later = later e

-- ---- files that are loaded

module _ (file : List ℕ) (row : ℕ) (name : List ℕ) where
  abbrev missing : LoadFault
  missing = missing_file_fault file row name

  cut_fault_tells_of_no_missing_file : (before : List ParsedFile) (files : List NamedFile) → parsed_files_or_cut_fault before files ≡ Err missing → ⊥
  cut_fault_tells_of_no_missing_file before [] is = cc
  cut_fault_tells_of_no_missing_file before (f ∷ files) is =
      by (cut_outcome_of_text f.bytes) is (λ reading. cut_fault_tells_of_no_missing_file (before ++ reading ∷ []) files)
    where
      rest : ParsedFile → Result (List ParsedFile) LoadFault
      rest reading = parsed_files_or_cut_fault (before ++ reading ∷ []) files

      by : (r : Result (List (List ℕ)) TextFault) → load_result_and_then (parsed_file_of_cut_or_fault f.name r) rest ≡ Err missing
          → ((reading : ParsedFile) → rest reading ≡ Err missing → ⊥) → ⊥
      by (Ok lines) e later = later (parsed_file_of_texts f.name lines) e
      by (Err fault) e later = cc

  -- The files are read, and the walk over them misses the file.
  record IsMissedByWalk (files : List NamedFile) : Type 0 where
    read : List ParsedFile
    reads : parsed_files_or_cut_fault [] files ≡ Ok read
    walks : walk_or_fault_of_files read ≡ Err missing

  missing_file_is_missed_by_walk : (files : List NamedFile) → policy_or_load_fault files ≡ Err missing → IsMissedByWalk files
  unfolding policy_or_load_fault
  missing_file_is_missed_by_walk files is = by_count (nat_lt file_limit (length files)) is
    where
      same_fault : {A : Type 0} (other : LoadFault) → (let r : Result A LoadFault = Err other in r) ≡ Err missing → other ≡ missing
      same_fault other e = cc

      outcome : Result LoadedPolicy LoadFault
      outcome = load_result_and_then (parsed_files_or_cut_fault [] files) policy_of_parsed_files

      policy_of : List ParsedFile → WalkState → Result LoadedPolicy LoadFault
      policy_of read w = Ok (record { files = read; walk = w })

      by_off : (r : Result WalkState LoadFault) (read : List ParsedFile) (w : WalkState) → walk_or_unreached_file_fault w 0 read ≡ r
          → load_result_and_then r (policy_of read) ≡ Err missing → ⊥
      by_off (Ok v) read w off e = cc
      by_off (Err other) read w off e = files_off_walk_tell_of_no_missing_file file row name w 0 read (off ∙ ap (λ x. Err x) (same_fault other e))

      by_walk : (r : Result WalkState LoadFault) (read : List ParsedFile) → parsed_files_or_cut_fault [] files ≡ Ok read
          → walk_or_fault_of_files read ≡ r
          → load_result_and_then (load_result_and_then r (λ w. walk_or_unreached_file_fault w 0 read)) (policy_of read) ≡ Err missing
          → IsMissedByWalk files
      by_walk (Ok w) read reads walks e = absurd (by_off (walk_or_unreached_file_fault w 0 read) read w refl e)
      by_walk (Err other) read reads walks e = record { read = read; reads = reads; walks = walks ∙ ap (λ x. Err x) (same_fault other e) }

      by_read : (r : Result (List ParsedFile) LoadFault) → parsed_files_or_cut_fault [] files ≡ r
          → load_result_and_then r policy_of_parsed_files ≡ Err missing
          → IsMissedByWalk files
      by_read (Ok read) reads e = by_walk (walk_or_fault_of_files read) read reads refl e
      by_read (Err other) reads e = absurd (cut_fault_tells_of_no_missing_file [] files (reads ∙ ap (λ x. Err x) (same_fault other e)))

      by_name : (o : Option (List ℕ)) → result_unless_repeated_name o outcome ≡ Err missing → IsMissedByWalk files
      by_name None e = by_read (parsed_files_or_cut_fault [] files) refl e
      by_name (Some repeated) e = absurd cc

      by_count : (b : Bool) → (if b then Err TooManyFiles else result_unless_repeated_name (first_repeated_file_name [] files) outcome) ≡ Err missing
          → IsMissedByWalk files
      by_count true e = absurd cc
      by_count false e = by_name (first_repeated_file_name [] files) e

-- If loading gathered files does not find a file, no known file has its name.
pub missing_file_is_of_no_known_name : LineCutAsItselfIsLogical → CutLinesStandAlone → GatheringsAreGatherOutcomes
    → ((files : List ParsedFile) → IsWalkOfFiles files (walk_or_fault_of_files files))
    → (known gathered : List NamedFile) (root file name : List ℕ) (row : ℕ)
    → gathered_files_or_fault known root ≡ Ok gathered → policy_or_load_fault gathered ≡ Err (missing_file_fault file row name)
    → named_file_bytes_truncated_past_limit name known ≡ None
missing_file_is_of_no_known_name whole alone gather_is walk_is known gathered root file name row gathers loads = by lost.0
  where
    walk : IsMissedByWalk file row name gathered
    walk = missing_file_is_missed_by_walk file row name gathered loads

    settled : AllByRecursion (LeadsToFoundOrMissing known gathered) gathered
    settled = gathered_files_lead_to_found_or_missing gather_is known root gathered gathers

    read : AreReadWithSettledNames whole alone known gathered walk.read (names_of_found_files gathered)
    read = parsed_files_lead_to_settled_names whole alone known gathered [] walk.read gathered tt settled walk.reads

    lost : IsFoundOrMissing known gathered name × (number_of_first_file_named name 0 walk.read ≡ None)
    lost =
        file_missed_by_walk_has_property_of_leads file row name (IsFoundOrMissing known gathered) walk.read (walk_is walk.read)
        (numbered_file_leads_to_settled_names whole alone known gathered walk.read read.0) walk.walks

    unread : has_file_with_name name gathered ≡ false
    unread = ap (is_name_among name) (sym read.1) ∙ name_without_number_is_not_among_files name 0 walk.read lost.1

    by : IsFoundOrMissing known gathered name → named_file_bytes_truncated_past_limit name known ≡ None
    by (inl has) = absurd (let no : true ≡ false = sym has ∙ unread in cc)
    by (inr gone) = gone
