-- The walk of a policy of which lines were changed.
use Rattle.sudoers_tree.proofs.Common.{AllByRecursion, AreFilesMapped, IsCorrectlyParsed, Line, LineChange, LineToLinesMapping, List, MakeMappedLines, None, ParsedFile, WalkState, [], changes_of_file}
use Rattle.sudoers_tree.proofs.Common.{fault_of_numbered_file, file_names, lines_after_changes, lines_of_numbered_file, mapped_lines_from_number, refl, suc, texts_of_lines, zero, ℕ, ◌∙◌, ◌∷◌, ◌≡◌}
use Rattle.sudoers_tree.proofs.ParsedFiles.{IsParsedWithoutFault}

-- lines that have the same texts are the same
abbrev pub EqualTextsImplyEqualLines : Type 0
EqualTextsImplyEqualLines = (lines others : List Line) → AllByRecursion IsCorrectlyParsed lines → AllByRecursion IsCorrectlyParsed others → texts_of_lines lines ≡ texts_of_lines others → lines ≡ others

parsed_files_have_no_numbered_fault : (files : List ParsedFile) → AllByRecursion IsParsedWithoutFault files → (f : ℕ) → fault_of_numbered_file files f ≡ None
parsed_files_have_no_numbered_fault [] parse f = refl
parsed_files_have_no_numbered_fault (file ∷ files) parse zero = parse.0
parsed_files_have_no_numbered_fault (file ∷ files) parse (suc f) = parsed_files_have_no_numbered_fault files parse.1 f

-- The changed files are the files with lines changed, if the changes make the lines that come of theirs.
pub changed_files_are_mapped_files : EqualTextsImplyEqualLines → (g : LineToLinesMapping) (changes : List LineChange) (old new : List ParsedFile) (w : WalkState) → file_names new ≡ file_names old
    → ((f : ℕ) → texts_of_lines (lines_of_numbered_file new f) ≡ lines_after_changes (changes_of_file f changes) (texts_of_lines (lines_of_numbered_file old f)))
    → ((f : ℕ) → AllByRecursion IsCorrectlyParsed (lines_of_numbered_file new f)) → AllByRecursion IsParsedWithoutFault new → MakeMappedLines g changes old w → AreFilesMapped g old new w
changed_files_are_mapped_files tell g changes old new w names after said parse made = record {
  names = names;
  lines = λ f on. tell (lines_of_numbered_file new f) (mapped_lines_from_number g f 0 (lines_of_numbered_file old f)) (said f) (made.says f on) (after f ∙ made.lines f on);
  parse = λ f on. parsed_files_have_no_numbered_fault new parse f;
  leads = made.leads;
}
