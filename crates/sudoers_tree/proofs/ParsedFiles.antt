-- Each line of loaded files parses.
use Rattle.sudoers_tree.proofs.Common.{AllByRecursion, Bool, Err, FileVisit, IncludeSite, Line, List, LoadFault, LoadedPolicy, NamedFile, None, Ok, Option, ParsedFile, ReadFault, Result, Some, SyntaxFault}
use Rattle.sudoers_tree.proofs.Common.{WalkLineSpot, WalkState, [], ap, definitions_in_line, definitions_of_lines, drop, empty_walk, eqb-true, false, fault_of_numbered_file, fault_of_optional_file}
use Rattle.sudoers_tree.proofs.Common.{files_opened_by_lead, first_definition_fault, first_fault_of_unreached_file, first_of_two_faults, if◌then◌else◌, include_depth_limit, include_site_of_line, inl, inr}
use Rattle.sudoers_tree.proofs.Common.{is_file_on_walk, lead_of_file_line, length, lines_of_numbered_file, list_any, list_any-append, load_result_and_then, name_of_numbered_file, nat_eq, option_map}
use Rattle.sudoers_tree.proofs.Common.{policy_or_load_fault, refl, repeated_include_fault, reserved_name_fault_in_lines, spot_of_file_line, suc, sym, syntax_fault_as_read_fault, true, value_unless_file_fault}
use Rattle.sudoers_tree.proofs.Common.{walk_after_file_lines, walk_after_file_visit, walk_after_file_visits, walk_or_fault_of_files, walk_or_unreached_file_fault, walk_with_file_entered, walk_with_line_appended}
use Rattle.sudoers_tree.proofs.Common.{zero, ℕ, ◌++◌, ◌+◌, ◌||◌, ◌∙◌, ◌∷◌, ◌≡◌, ◌⊎◌}
use Rattle.sudoers_tree.proofs.Numbered.{rest_of_drop_is_later_drop, first_of_drop_is_numbered_item}
use Rattle.sudoers_tree.proofs.WalkSound.{loaded_policy_is_load_of_files}

abbrev WalkOrLoadFault : Type 0
WalkOrLoadFault = Result WalkState LoadFault

successful_walk_results_are_of_same_walk : (w now : WalkState) → (let r : WalkOrLoadFault = Ok w in r) ≡ Ok now → w ≡ now
successful_walk_results_are_of_same_walk w now is = cc

-- ---- files on the walk

-- A file that is on the walk `now` was on the walk `w`, or has no fault.
abbrev AddsOnlyFaultlessFiles : List ParsedFile → WalkState → WalkState → Type 0
AddsOnlyFaultlessFiles files w now = (q : ℕ) → is_file_on_walk now q ≡ true → (is_file_on_walk w q ≡ true) ⊎ (fault_of_numbered_file files q ≡ None)

walk_of_same_files_adds_no_faulty_file : (files : List ParsedFile) (w now : WalkState) → w.on ≡ now.on → AddsOnlyFaultlessFiles files w now
walk_of_same_files_adds_no_faulty_file files w now same = λ q on. inl (ap (list_any (nat_eq q)) same ∙ on)

adding_faultless_files_is_transitive : (files : List ParsedFile) (w within now : WalkState) → AddsOnlyFaultlessFiles files w within → AddsOnlyFaultlessFiles files within now → AddsOnlyFaultlessFiles files w now
adding_faultless_files_is_transitive files w within now first later = λ q on. by q (later q on)
  where
    by : (q : ℕ) → (is_file_on_walk within q ≡ true) ⊎ (fault_of_numbered_file files q ≡ None) → (is_file_on_walk w q ≡ true) ⊎ (fault_of_numbered_file files q ≡ None)
    by q (inl before) = first q before
    by q (inr none) = inr none

-- The file that is entered has no fault either.
entering_faultless_file_adds_no_faulty_file : (files : List ParsedFile) (f : ℕ) (w now : WalkState) → AddsOnlyFaultlessFiles files (walk_with_file_entered f w) now → fault_of_numbered_file files f ≡ None
    → AddsOnlyFaultlessFiles files w now
entering_faultless_file_adds_no_faulty_file files f w now inside none = λ q on. by q (inside q on)
  where
    by_or : (q : ℕ) (before here : Bool) → is_file_on_walk w q ≡ before → nat_eq q f ≡ here → (before || (here || false)) ≡ true
        → (is_file_on_walk w q ≡ true) ⊎ (fault_of_numbered_file files q ≡ None)
    by_or q true here before now e = inl before
    by_or q false true before now e = inr (ap (fault_of_numbered_file files) (eqb-true q f now) ∙ none)
    by_or q false false before now e = absurd cc

    by : (q : ℕ) → (is_file_on_walk (walk_with_file_entered f w) q ≡ true) ⊎ (fault_of_numbered_file files q ≡ None) → (is_file_on_walk w q ≡ true) ⊎ (fault_of_numbered_file files q ≡ None)
    by q (inl within) = by_or q (is_file_on_walk w q) (nat_eq q f) refl refl (sym (list_any-append (nat_eq q) w.on (f ∷ [])) ∙ within)
    by q (inr sound) = inr sound

-- no file that a visit appends has a fault
abbrev IsVisitOfFaultlessFiles : List ParsedFile → FileVisit → Type 0
IsVisitOfFaultlessFiles files walk_after_file_visit = (at : IncludeSite) (f : ℕ) (w now : WalkState) → walk_after_file_visit at f w ≡ Ok now → AddsOnlyFaultlessFiles files w now

visits_add_only_faultless_files : (visit : FileVisit) (files : List ParsedFile) → IsVisitOfFaultlessFiles files visit → (at : IncludeSite) (inner : List ℕ) (w now : WalkState)
    → walk_after_file_visits visit files at inner w ≡ Ok now → AddsOnlyFaultlessFiles files w now
visits_add_only_faultless_files visit files sound at [] w now is = walk_of_same_files_adds_no_faulty_file files w now (ap (λ (v : WalkState). v.on) (successful_walk_results_are_of_same_walk w now is))
visits_add_only_faultless_files visit files sound at (f ∷ rest) w now is = by_test (is_file_on_walk w f) is (λ within. visits_add_only_faultless_files visit files sound at rest within now)
  where
    Later : Type 0
    Later = (within : WalkState) → walk_after_file_visits visit files at rest within ≡ Ok now → AddsOnlyFaultlessFiles files within now

    by_visit : (r : WalkOrLoadFault) → visit at f w ≡ r → load_result_and_then r (walk_after_file_visits visit files at rest) ≡ Ok now → Later → AddsOnlyFaultlessFiles files w now
    by_visit (Ok within) v e later = adding_faultless_files_is_transitive files w within now (sound at f w within v) (later within e)
    by_visit (Err fault) v e later = absurd cc

    by_test : (b : Bool) → (if b then Err (repeated_include_fault files at f) else load_result_and_then (visit at f w) (walk_after_file_visits visit files at rest)) ≡ Ok now → Later
        → AddsOnlyFaultlessFiles files w now
    by_test true e later = absurd cc
    by_test false e later = by_visit (visit at f w) refl e later

appended_line_adds_no_faulty_file : (files : List ParsedFile) (name : List ℕ) (at : WalkLineSpot) (line : Line) (w now : WalkState) → walk_with_line_appended name at line w ≡ Ok now
    → AddsOnlyFaultlessFiles files w now
appended_line_adds_no_faulty_file files name at line w now is = by (first_definition_fault (definitions_of_lines w.lines) (definitions_in_line (length w.lines) line.node)) is
  where
    next : WalkState
    next = record { lines = w.lines ++ line ∷ []; spots = w.spots ++ at ∷ []; on = w.on }

    by : (o : Option ReadFault) → value_unless_file_fault name next o ≡ Ok now → AddsOnlyFaultlessFiles files w now
    by None e = walk_of_same_files_adds_no_faulty_file files w now (ap (λ (v : WalkState). v.on) (successful_walk_results_are_of_same_walk next now e))
    by (Some fault) e = absurd cc

-- Where the lines of a file are passed, it has no fault, and no file to which they lead has one.
walked_file_lines_add_no_faulty_file : (visit : FileVisit) (files : List ParsedFile) → IsVisitOfFaultlessFiles files visit → (f n : ℕ) (lines : List Line) (w now : WalkState)
    → walk_after_file_lines visit files f n lines w ≡ Ok now → AddsOnlyFaultlessFiles files w now × (fault_of_numbered_file files f ≡ None)
walked_file_lines_add_no_faulty_file visit files sound f n [] w now is = by (fault_of_numbered_file files f) refl is
  where
    by : (o : Option SyntaxFault) → fault_of_numbered_file files f ≡ o → value_unless_file_fault (name_of_numbered_file files f) w (option_map syntax_fault_as_read_fault o) ≡ Ok now
        → AddsOnlyFaultlessFiles files w now × (fault_of_numbered_file files f ≡ None)
    by None none e = (walk_of_same_files_adds_no_faulty_file files w now (ap (λ (v : WalkState). v.on) (successful_walk_results_are_of_same_walk w now e)), none)
    by (Some fault) none e = absurd cc
walked_file_lines_add_no_faulty_file visit files sound f n (line ∷ lines) w now is =
    by_taken (walk_with_line_appended (name_of_numbered_file files f) (spot_of_file_line files f n) line w) refl is (λ within. walked_file_lines_add_no_faulty_file visit files sound f (n + 1) lines within now)
  where
    Wanted : WalkState → Type 0
    Wanted from = AddsOnlyFaultlessFiles files from now × (fault_of_numbered_file files f ≡ None)

    Later : Type 0
    Later = (within : WalkState) → walk_after_file_lines visit files f (n + 1) lines within ≡ Ok now → Wanted within

    by_each : (r : WalkOrLoadFault) (passed : WalkState) (inner : List ℕ) → walk_after_file_visits visit files (include_site_of_line files f n) inner passed ≡ r
        → load_result_and_then r (walk_after_file_lines visit files f (n + 1) lines) ≡ Ok now → Later → Wanted passed
    by_each (Ok within) passed inner v e later =
        let behind = later within e in
        (adding_faultless_files_is_transitive files passed within now (visits_add_only_faultless_files visit files sound (include_site_of_line files f n) inner passed within v) behind.0, behind.1)
    by_each (Err fault) passed inner v e later = absurd cc

    by_opened : (r : Result (List ℕ) LoadFault) (passed : WalkState)
        → load_result_and_then r (λ inner. load_result_and_then (walk_after_file_visits visit files (include_site_of_line files f n) inner passed) (walk_after_file_lines visit files f (n + 1) lines)) ≡ Ok now
        → Later → Wanted passed
    by_opened (Ok inner) passed e later = by_each (walk_after_file_visits visit files (include_site_of_line files f n) inner passed) passed inner refl e later
    by_opened (Err fault) passed e later = absurd cc

    by_taken : (r : WalkOrLoadFault) → walk_with_line_appended (name_of_numbered_file files f) (spot_of_file_line files f n) line w ≡ r
        → load_result_and_then r (λ passed. load_result_and_then (files_opened_by_lead files (include_site_of_line files f n) passed (lead_of_file_line files f line)) (λ inner.
        load_result_and_then (walk_after_file_visits visit files (include_site_of_line files f n) inner passed) (walk_after_file_lines visit files f (n + 1) lines))) ≡ Ok now → Later → Wanted w
    by_taken (Ok passed) t e later =
        let behind = by_opened (files_opened_by_lead files (include_site_of_line files f n) passed (lead_of_file_line files f line)) passed e later in
        (adding_faultless_files_is_transitive files w passed now (appended_line_adds_no_faulty_file files (name_of_numbered_file files f) (spot_of_file_line files f n) line w passed t) behind.0, behind.1)
    by_taken (Err fault) t e later = absurd cc

visit_adds_only_faultless_files : (files : List ParsedFile) (left : ℕ) → IsVisitOfFaultlessFiles files (walk_after_file_visit left files)
visit_adds_only_faultless_files files zero at f w now is = absurd cc
visit_adds_only_faultless_files files (suc left) at f w now is =
    let inside = walked_file_lines_add_no_faulty_file (walk_after_file_visit left files) files (visit_adds_only_faultless_files files left) f 0 (lines_of_numbered_file files f) (walk_with_file_entered f w) now is in
    entering_faultless_file_adds_no_faulty_file files f w now inside.0 inside.1

-- No file on the walk has a fault.
file_on_walk_has_no_fault : (files : List ParsedFile) (w : WalkState) → walk_or_fault_of_files files ≡ Ok w → (q : ℕ) → is_file_on_walk w q ≡ true → fault_of_numbered_file files q ≡ None
unfolding walk_or_fault_of_files
file_on_walk_has_no_fault files w is q on =
    let all = walked_file_lines_add_no_faulty_file (walk_after_file_visit include_depth_limit files) files (visit_adds_only_faultless_files files include_depth_limit) 0 0 (lines_of_numbered_file files 0) (walk_with_file_entered 0 empty_walk) w is in
    by (entering_faultless_file_adds_no_faulty_file files 0 empty_walk w all.0 all.1 q on)
  where
    by : (is_file_on_walk empty_walk q ≡ true) ⊎ (fault_of_numbered_file files q ≡ None) → fault_of_numbered_file files q ≡ None
    by (inl before) = absurd cc
    by (inr none) = none

-- ---- all files

-- each line of the file parses
abbrev pub IsParsedWithoutFault : ParsedFile → Type 0
IsParsedWithoutFault file = file.fault ≡ None

faultless_unreached_file_is_parsed : (file : ParsedFile) → first_fault_of_unreached_file file ≡ None → IsParsedWithoutFault file
faultless_unreached_file_is_parsed file is = by_later (reserved_name_fault_in_lines file.lines) is
  where
    by_fault : (o : Option SyntaxFault) → option_map syntax_fault_as_read_fault o ≡ None → o ≡ None
    by_fault None none = refl
    by_fault (Some fault) none = absurd cc

    by_later : (o : Option ReadFault) → first_of_two_faults o (option_map syntax_fault_as_read_fault file.fault) ≡ None → IsParsedWithoutFault file
    by_later None none = by_fault file.fault none
    by_later (Some fault) none = absurd cc

-- A file on the walk parses since the walk has no fault, and one that is not on it since `walk_or_unreached_file_fault` has none.
checked_files_are_parsed_without_fault : (all : List ParsedFile) (w now : WalkState) → ((q : ℕ) → is_file_on_walk w q ≡ true → fault_of_numbered_file all q ≡ None) → (n : ℕ) (files : List ParsedFile)
    → files ≡ drop n all → walk_or_unreached_file_fault w n files ≡ Ok now → AllByRecursion IsParsedWithoutFault files
checked_files_are_parsed_without_fault all w now sound n [] from is = tt
checked_files_are_parsed_without_fault all w now sound n (file ∷ files) from is =
    by_test (is_file_on_walk w n) refl is (checked_files_are_parsed_without_fault all w now sound (n + 1) files (rest_of_drop_is_later_drop files all n file from))
  where
    Later : Type 0
    Later = walk_or_unreached_file_fault w (n + 1) files ≡ Ok now → AllByRecursion IsParsedWithoutFault files

    by_fault : (o : Option ReadFault) → first_fault_of_unreached_file file ≡ o → load_result_and_then (value_unless_file_fault file.name w o) (λ same. walk_or_unreached_file_fault w (n + 1) files) ≡ Ok now → Later
        → IsParsedWithoutFault file × AllByRecursion IsParsedWithoutFault files
    by_fault None none e later = (faultless_unreached_file_is_parsed file none, later e)
    by_fault (Some fault) none e later = absurd cc

    by_test : (b : Bool) → is_file_on_walk w n ≡ b
        → load_result_and_then (if b then Ok w else value_unless_file_fault file.name w (first_fault_of_unreached_file file)) (λ same. walk_or_unreached_file_fault w (n + 1) files) ≡ Ok now → Later
        → IsParsedWithoutFault file × AllByRecursion IsParsedWithoutFault files
    by_test true on e later = (ap fault_of_optional_file (sym (first_of_drop_is_numbered_item files all n file from)) ∙ sound n on, later e)
    by_test false off e later = by_fault (first_fault_of_unreached_file file) refl e later

pub loaded_files_are_parsed_without_fault : (files : List NamedFile) (p : LoadedPolicy) → policy_or_load_fault files ≡ Ok p → AllByRecursion IsParsedWithoutFault p.files
loaded_files_are_parsed_without_fault files p is =
    let load = loaded_policy_is_load_of_files files p is in
    checked_files_are_parsed_without_fault p.files p.walk p.walk (file_on_walk_has_no_fault p.files p.walk load.walks) 0 p.files refl load.off
