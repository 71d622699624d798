-- A file that is not there where files are loaded: a line of a file that is read leads to it, and no file that is read has its name.
use Rattle.std.proofs.Common.{◌≡◌, ℕ, ◌+◌, Bool, true, false, if◌then◌else◌, List, [], ◌∷◌, ◌++◌, length, option_map, Option, Some, None, Result, Ok, Err, refl, sym, ap, subst, ◌∙◌}
use Rattle.std.specs.List.{AllByRecursion}
use Rattle.sudoers_text.specs.Word.{is_reserved}
use Rattle.sudoers_tree.specs.declared.fault.ReadFault.{ReadFault}
use Rattle.sudoers_tree.specs.declared.fault.ReadFault.TheVariants.{NotLoaded, Reserved}
use Rattle.sudoers_tree.specs.declared.fault.SyntaxFault.{SyntaxFault}
use Rattle.sudoers_tree.specs.declared.include_leads.Lead.{Lead}
use Rattle.sudoers_tree.specs.declared.include_leads.Lead.TheVariants.{File, Dir}
use Rattle.sudoers_tree.specs.declared.load_fault.LoadFault.{LoadFault}
use Rattle.sudoers_tree.specs.declared.load_fault.LoadFault.TheVariants.{InFile}
use Rattle.sudoers_tree.specs.declared.place.WalkLineSpot.{WalkLineSpot}
use Rattle.sudoers_tree.specs.Definition.{PlacedDefinition, definitions_in_line, definitions_of_lines}
use Rattle.sudoers_tree.specs.Fault.{syntax_fault_as_read_fault}
use Rattle.sudoers_tree.specs.Files.{ParsedFile, lines_of_numbered_file, name_of_numbered_file}
use Rattle.sudoers_tree.specs.Goes.{Goes, Enters, IsWalkOfFiles, end, broken, wrong, shut, stops, onward, none, again, deep, inside, more}
use Rattle.sudoers_tree.specs.Lead.{lead_of_parsed_line}
use Rattle.sudoers_tree.specs.Line.{Line}
use Rattle.sudoers_tree.specs.Load.{first_fault_of_unreached_file, reserved_name_fault_in_lines, reserved_name_fault_of_definitions, walk_or_unreached_file_fault}
use Rattle.sudoers_tree.specs.Reading.{first_definition_fault, first_of_two_faults}
use Rattle.sudoers_tree.specs.Targets.{included_files_of_folder, number_of_first_file_named}
use Rattle.sudoers_tree.specs.Walk.{IncludeSite, WalkState, empty_walk, files_opened_by_lead, files_unless_missing_or_on_walk, files_unless_on_walk, first_file_on_walk, include_depth_limit, include_site_of_line, is_file_on_walk, lead_of_file_line, load_result_and_then, spot_of_file_line, value_unless_file_fault, walk_or_fault_of_files, walk_with_file_entered, walk_with_line_appended}
use Rattle.sudoers_tree.proofs.Sound.{IsFaultOfDefinitionName, fault_of_definition_is_name_fault, first_fault_has_faulty_definition}

-- The name of each single file to which the line leads, in a file with this name, has a property.
abbrev pub LeadsToNamesWith : (List ℕ → Type 0) → List ℕ → Line → Type 0
LeadsToNamesWith S file line = (name : List ℕ) → lead_of_parsed_line file line.node ≡ Some (File name) → S name

first_of_other_faults_is_other_fault : (a b : Option ReadFault) (fault : ReadFault) → (a ≡ Some fault → ⊥) → (b ≡ Some fault → ⊥)
    → first_of_two_faults a b ≡ Some fault → ⊥
first_of_other_faults_is_other_fault None b fault first later is = later is
first_of_other_faults_is_other_fault (Some other) b fault first later is = first is

module _ (file : List ℕ) (row : ℕ) (name : List ℕ) where
  -- A line on this row of the file leads to a file with the name, which is not there.
  abbrev pub missing_file_fault : LoadFault
  missing_file_fault = InFile file (NotLoaded row name)

  -- ---- faults that tell of no missing file

  reserved_names_tell_of_no_missing_file : (ds : List PlacedDefinition) → reserved_name_fault_of_definitions ds ≡ Some (NotLoaded row name) → ⊥
  reserved_names_tell_of_no_missing_file [] is = cc
  reserved_names_tell_of_no_missing_file (d ∷ ds) is = by (is_reserved d.def.name) is (reserved_names_tell_of_no_missing_file ds)
    where
      others : Option ReadFault
      others = reserved_name_fault_of_definitions ds

      by : (b : Bool) → (if b then Some (Reserved d.kind d.def.name) else others) ≡ Some (NotLoaded row name)
          → (others ≡ Some (NotLoaded row name) → ⊥) → ⊥
      by true e later = cc
      by false e later = later e

  lines_off_walk_tell_of_no_missing_file : (lines : List Line) → reserved_name_fault_in_lines lines ≡ Some (NotLoaded row name) → ⊥
  lines_off_walk_tell_of_no_missing_file [] is = cc
  lines_off_walk_tell_of_no_missing_file (line ∷ lines) is =
      let here = definitions_in_line 0 line.node in
      first_of_other_faults_is_other_fault (reserved_name_fault_of_definitions here) (reserved_name_fault_in_lines lines) (NotLoaded row name)
      (reserved_names_tell_of_no_missing_file here) (lines_off_walk_tell_of_no_missing_file lines) is

  broken_line_tells_of_no_missing_file : (o : Option SyntaxFault) → option_map syntax_fault_as_read_fault o ≡ Some (NotLoaded row name) → ⊥
  broken_line_tells_of_no_missing_file None is = cc
  broken_line_tells_of_no_missing_file (Some fault) is = cc

  file_off_walk_tells_of_no_missing_file : (reading : ParsedFile) → first_fault_of_unreached_file reading ≡ Some (NotLoaded row name) → ⊥
  file_off_walk_tells_of_no_missing_file reading is =
      let broken_line = option_map syntax_fault_as_read_fault reading.fault in
      first_of_other_faults_is_other_fault (reserved_name_fault_in_lines reading.lines) broken_line (NotLoaded row name)
      (lines_off_walk_tell_of_no_missing_file reading.lines) (broken_line_tells_of_no_missing_file reading.fault) is

  pub files_off_walk_tell_of_no_missing_file : (w : WalkState) (n : ℕ) (files : List ParsedFile)
      → walk_or_unreached_file_fault w n files ≡ Err missing_file_fault → ⊥
  files_off_walk_tell_of_no_missing_file w n [] is = cc
  files_off_walk_tell_of_no_missing_file w n (reading ∷ files) is =
      by (is_file_on_walk w n) is (files_off_walk_tell_of_no_missing_file w (n + 1) files)
    where
      rest : WalkState → Result WalkState LoadFault
      rest same = walk_or_unreached_file_fault w (n + 1) files

      by_fault : (o : Option ReadFault) → first_fault_of_unreached_file reading ≡ o
          → load_result_and_then (value_unless_file_fault reading.name w o) rest ≡ Err missing_file_fault
          → (rest w ≡ Err missing_file_fault → ⊥) → ⊥
      by_fault None first e later = later e
      by_fault (Some fault) first e later =
          let same : fault ≡ NotLoaded row name = cc in
          file_off_walk_tells_of_no_missing_file reading (first ∙ ap (λ f. Some f) same)

      by : (b : Bool)
          → load_result_and_then (if b then Ok w else value_unless_file_fault reading.name w (first_fault_of_unreached_file reading)) rest ≡ Err missing_file_fault
          → (rest w ≡ Err missing_file_fault → ⊥) → ⊥
      by true e later = later e
      by false e later = by_fault (first_fault_of_unreached_file reading) refl e later

  line_with_wrong_name_tells_of_no_missing_file : (called : List ℕ) (at : WalkLineSpot) (line : Line) (w : WalkState)
      → walk_with_line_appended called at line w ≡ Err missing_file_fault → ⊥
  line_with_wrong_name_tells_of_no_missing_file called at line w is = by (first_definition_fault before here) refl is
    where
      before : List PlacedDefinition
      before = definitions_of_lines w.lines

      here : List PlacedDefinition
      here = definitions_in_line (length w.lines) line.node

      now : WalkState
      now = record { lines = w.lines ++ line ∷ []; spots = w.spots ++ at ∷ []; on = w.on }

      by : (o : Option ReadFault) → first_definition_fault before here ≡ o → value_unless_file_fault called now o ≡ Err missing_file_fault → ⊥
      by None first e = cc
      by (Some fault) first e =
          let faulty = first_fault_has_faulty_definition before here fault first in
          let same : fault ≡ NotLoaded row name = cc in
          subst IsFaultOfDefinitionName same (fault_of_definition_is_name_fault (before ++ faulty.good) faulty.bad fault faulty.fault_is)

  file_on_walk_already_is_no_missing_file : (files : List ParsedFile) (at : IncludeSite) (inner : List ℕ) (o : Option ℕ)
      → files_unless_on_walk files at inner o ≡ Err missing_file_fault → ⊥
  file_on_walk_already_is_no_missing_file files at inner None is = cc
  file_on_walk_already_is_no_missing_file files at inner (Some f) is = cc

  -- ---- the walk

  -- Where a line has this fault, it leads to a single file with the name, which is not there.
  line_with_missing_file_leads_to_its_name : (files : List ParsedFile) (at : IncludeSite) (w : WalkState) (lead : Option Lead)
      → files_opened_by_lead files at w lead ≡ Err missing_file_fault
      → (lead ≡ Some (File name)) × (number_of_first_file_named name 0 files ≡ None)
  line_with_missing_file_leads_to_its_name files at w None is = absurd cc
  line_with_missing_file_leads_to_its_name files at w (Some (Dir dir)) is =
      let inner = included_files_of_folder files (dir ++ 47 ∷ []) 0 files in
      absurd (file_on_walk_already_is_no_missing_file files at inner (first_file_on_walk w inner) is)
  line_with_missing_file_leads_to_its_name files at w (Some (File called)) is = by (number_of_first_file_named called 0 files) refl is
    where
      by : (o : Option ℕ) → number_of_first_file_named called 0 files ≡ o
          → files_unless_missing_or_on_walk files at (File called) w (option_map (λ f. f ∷ []) o) ≡ Err missing_file_fault
          → (Some (File called) ≡ Some (File name)) × (number_of_first_file_named name 0 files ≡ None)
      by None gone e =
          let same : called ≡ name = cc in
          (ap (λ q. Some (File q)) same, ap (λ q. number_of_first_file_named q 0 files) (sym same) ∙ gone)
      by (Some f) there e = absurd (file_on_walk_already_is_no_missing_file files at (f ∷ []) (first_file_on_walk w (f ∷ [])) e)

  module _ (S : List ℕ → Type 0) (files : List ParsedFile) where
    -- The lines of this file lead to names with the property.
    abbrev LeadToNames : ℕ → List Line → Type 0
    LeadToNames f lines = AllByRecursion (LeadsToNamesWith S (name_of_numbered_file files f)) lines

    -- The name has the property, and no file that is read has the name.
    abbrev IsLeadWithoutFile : Type 0
    IsLeadWithoutFile = S name × (number_of_first_file_named name 0 files ≡ None)

    mutual
      walked_lines_lead_to_missing_file : (left f n : ℕ) (lines : List Line) (w : WalkState) (outcome : Result WalkState LoadFault)
          → Goes files left f n lines w outcome
          → ((g : ℕ) → LeadToNames g (lines_of_numbered_file files g)) → LeadToNames f lines → outcome ≡ Err missing_file_fault → IsLeadWithoutFile
      walked_lines_lead_to_missing_file left f n lines w outcome (end l g m v faultless) all here is = absurd cc
      walked_lines_lead_to_missing_file left f n lines w outcome (broken l g m v fault last) all here is = absurd cc
      walked_lines_lead_to_missing_file left f n lines w outcome (wrong l g m line rest v fault fails) all here is =
          let same : fault ≡ missing_file_fault = cc in
          let called = name_of_numbered_file files f in
          absurd (line_with_wrong_name_tells_of_no_missing_file called (spot_of_file_line files f n) line w (fails ∙ ap (λ x. Err x) same))
      walked_lines_lead_to_missing_file left f n lines w outcome (shut l g m line rest v now fault appends fails) all here is =
          let same : fault ≡ missing_file_fault = cc in
          let at = include_site_of_line files f n in
          let leads = line_with_missing_file_leads_to_its_name files at now (lead_of_file_line files f line) (fails ∙ ap (λ x. Err x) same) in
          (here.0 name leads.0, leads.1)
      walked_lines_lead_to_missing_file left f n lines w outcome (stops l g m line rest v now inner fault appends opens enters) all here is =
          visited_files_lead_to_missing_file left (include_site_of_line files f n) inner now outcome enters all is
      walked_lines_lead_to_missing_file left f n lines w outcome (onward l g m line rest v now within inner o appends opens enters goes) all here is =
          walked_lines_lead_to_missing_file left f (n + 1) rest within outcome goes all here.1 is

      visited_files_lead_to_missing_file : (left : ℕ) (at : IncludeSite) (inner : List ℕ) (w : WalkState) (outcome : Result WalkState LoadFault)
          → Enters files left at inner w outcome
          → ((g : ℕ) → LeadToNames g (lines_of_numbered_file files g)) → outcome ≡ Err missing_file_fault → IsLeadWithoutFile
      visited_files_lead_to_missing_file left at inner w outcome (none l a v) all is = absurd cc
      visited_files_lead_to_missing_file left at inner w outcome (again l a f rest v on) all is = absurd cc
      visited_files_lead_to_missing_file left at inner w outcome (deep a f rest v off) all is = absurd cc
      visited_files_lead_to_missing_file left at inner w outcome (inside l a f rest v fault off goes) all is =
          walked_lines_lead_to_missing_file l f 0 (lines_of_numbered_file files f) (walk_with_file_entered f w) outcome goes all (all f) is
      visited_files_lead_to_missing_file left at inner w outcome (more l a f rest v now o off goes enters) all is =
          visited_files_lead_to_missing_file left at rest now outcome enters all is

    -- Where lines lead to names with the property, the name of a file that the walk misses has it.
    pub file_missed_by_walk_has_property_of_leads : IsWalkOfFiles files (walk_or_fault_of_files files)
        → ((g : ℕ) → LeadToNames g (lines_of_numbered_file files g))
        → walk_or_fault_of_files files ≡ Err missing_file_fault → IsLeadWithoutFile
    file_missed_by_walk_has_property_of_leads goes all is =
        let lines = lines_of_numbered_file files 0 in
        let first = walk_with_file_entered 0 empty_walk in
        walked_lines_lead_to_missing_file include_depth_limit 0 0 lines first (walk_or_fault_of_files files) goes all (all 0) is
