-- The lines of loaded files are those of their texts.
use Rattle.sudoers_tree.proofs.Common.{AllByRecursion, EachIsOneLineWhenCut, Err, IsCutOutcome, IsFaultlessCut, List, LoadedPolicy, NamedFile, Ok, ParsedFile, Result, TextFault, [], ap, arith, cut_outcome_of_text}
use Rattle.sudoers_tree.proofs.Common.{false, has_inner_line_without_lf, join, length, lines_of_numbered_file, lines_parsed_until_fault, load_result_and_then, parsed_file_of_texts, parsed_file_of_cut_or_fault}
use Rattle.sudoers_tree.proofs.Common.{parsed_files_or_cut_fault, policy_or_load_fault, refl, subst, suc, sym, text_limit, texts_of_lines, zero, ℕ, ◌++◌, ◌∙◌, ◌∷◌, ◌≡◌, ◌≤◌}
use Rattle.sudoers_tree.proofs.KeptFiles.{LinesAreParsedUntilFault, faultless_texts_are_all_parsed}
use Rattle.sudoers_tree.proofs.Outcomes.{ComputedCutsAreCutOutcomes}
use Rattle.sudoers_tree.proofs.ParsedFiles.{IsParsedWithoutFault, loaded_files_are_parsed_without_fault}
use Rattle.sudoers_tree.proofs.WalkSound.{loaded_policy_is_load_of_files}

-- lines that stand alone are those of their join
abbrev pub SeparateLinesAreCutFromTheirJoin : Type 0
SeparateLinesAreCutFromTheirJoin = (lines : List (List ℕ)) → EachIsOneLineWhenCut lines → has_inner_line_without_lf lines ≡ false → length (join lines) ≤ text_limit
    → cut_outcome_of_text (join lines) ≡ Ok lines

-- The lines are those of their join.
abbrev pub AreLinesCutFromTheirJoin : List (List ℕ) → Type 0
AreLinesCutFromTheirJoin lines = cut_outcome_of_text (join lines) ≡ Ok lines

-- The lines of a file are those of its text, if each of them parses.
abbrev IsParsedFileCutFromItsText : ParsedFile → Type 0
IsParsedFileCutFromItsText file = IsParsedWithoutFault file → AreLinesCutFromTheirJoin (texts_of_lines file.lines)

parsed_file_is_cut_from_its_text : ComputedCutsAreCutOutcomes → LinesAreParsedUntilFault → (file : NamedFile) (lines : List (List ℕ)) → cut_outcome_of_text file.bytes ≡ Ok lines → IsParsedFileCutFromItsText (parsed_file_of_texts file.name lines)
unfolding parsed_file_of_texts
parsed_file_is_cut_from_its_text cuts reads file lines cut none =
    let same : texts_of_lines (lines_parsed_until_fault [] lines).0 ≡ lines = faultless_texts_are_all_parsed lines (lines_parsed_until_fault [] lines).0 (lines_parsed_until_fault [] lines).1 (reads lines) none in
    let is : IsFaultlessCut file.bytes lines = subst (IsCutOutcome file.bytes) cut (cuts file.bytes) in
    subst AreLinesCutFromTheirJoin (sym same) (ap cut_outcome_of_text is.cuts.joined ∙ cut)

appended_file_keeps_files_cut_from_text : (files : List ParsedFile) (file : ParsedFile) → AllByRecursion IsParsedFileCutFromItsText files → IsParsedFileCutFromItsText file
    → AllByRecursion IsParsedFileCutFromItsText (files ++ file ∷ [])
appended_file_keeps_files_cut_from_text [] file all is = (is, tt)
appended_file_keeps_files_cut_from_text (f ∷ files) file all is = (all.0, appended_file_keeps_files_cut_from_text files file all.1 is)

parsed_files_are_cut_from_their_texts : ComputedCutsAreCutOutcomes → LinesAreParsedUntilFault → (before read : List ParsedFile) (files : List NamedFile) → AllByRecursion IsParsedFileCutFromItsText before
    → parsed_files_or_cut_fault before files ≡ Ok read → AllByRecursion IsParsedFileCutFromItsText read
parsed_files_are_cut_from_their_texts cuts reads before read [] all is = subst (AllByRecursion IsParsedFileCutFromItsText) (let same : before ≡ read = cc in same) all
parsed_files_are_cut_from_their_texts cuts reads before read (file ∷ files) all is =
    by (cut_outcome_of_text file.bytes) refl is (λ lines cut. parsed_files_are_cut_from_their_texts cuts reads (before ++ parsed_file_of_texts file.name lines ∷ []) read files
    (appended_file_keeps_files_cut_from_text before (parsed_file_of_texts file.name lines) all (parsed_file_is_cut_from_its_text cuts reads file lines cut)))
  where
    by : (r : Result (List (List ℕ)) TextFault) → cut_outcome_of_text file.bytes ≡ r
        → load_result_and_then (parsed_file_of_cut_or_fault file.name r) (λ reading. parsed_files_or_cut_fault (before ++ reading ∷ []) files) ≡ Ok read
        → ((lines : List (List ℕ)) → cut_outcome_of_text file.bytes ≡ Ok lines → parsed_files_or_cut_fault (before ++ parsed_file_of_texts file.name lines ∷ []) files ≡ Ok read
        → AllByRecursion IsParsedFileCutFromItsText read)
        → AllByRecursion IsParsedFileCutFromItsText read
    by (Ok lines) cut e later = later lines cut e
    by (Err fault) cut e later = absurd cc

lines_of_numbered_file_are_cut_from_join : SeparateLinesAreCutFromTheirJoin → (files : List ParsedFile) → AllByRecursion IsParsedFileCutFromItsText files → AllByRecursion IsParsedWithoutFault files → (f : ℕ)
    → AreLinesCutFromTheirJoin (texts_of_lines (lines_of_numbered_file files f))
lines_of_numbered_file_are_cut_from_join joins [] all parse f = joins [] tt refl (omega arith)
lines_of_numbered_file_are_cut_from_join joins (file ∷ files) all parse zero = all.0 parse.0
lines_of_numbered_file_are_cut_from_join joins (file ∷ files) all parse (suc f) = lines_of_numbered_file_are_cut_from_join joins files all.1 parse.1 f

-- The lines of each file are those of its text.
pub loaded_lines_are_cut_from_their_join : ComputedCutsAreCutOutcomes → LinesAreParsedUntilFault → SeparateLinesAreCutFromTheirJoin → (files : List NamedFile) (p : LoadedPolicy) → policy_or_load_fault files ≡ Ok p → (f : ℕ)
    → AreLinesCutFromTheirJoin (texts_of_lines (lines_of_numbered_file p.files f))
loaded_lines_are_cut_from_their_join cuts reads joins files p is =
    lines_of_numbered_file_are_cut_from_join joins p.files (parsed_files_are_cut_from_their_texts cuts reads [] p.files files tt (loaded_policy_is_load_of_files files p is).reads) (loaded_files_are_parsed_without_fault files p is)
