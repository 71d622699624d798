-- The files of a policy are their own adapted files.
use Rattle.std.proofs.Common.{◌≡◌, ℕ, zero, suc, List, [], ◌∷◌, map, Ok, refl, sym, ap, subst, ◌∙◌}
use Rattle.std.specs.List.{AllByRecursion}
use Rattle.sudoers_text.specs.Line.{join}
use Rattle.sudoers_text.specs.Cut.{cut_outcome_of_text}
use Rattle.sudoers_tree.specs.declared.named_files.NamedFile.{NamedFile}
use Rattle.sudoers_tree.specs.Line.{Line}
use Rattle.sudoers_tree.specs.Policy.{IsCorrectlyParsed, texts_of_lines}
use Rattle.sudoers_tree.specs.Files.{ParsedFile, lines_of_numbered_file}
use Rattle.sudoers_tree.specs.Load.{LoadedPolicy, named_file_of_parsed, named_files_of_policy}
use Rattle.sudoers_dialect.specs.Text.{adapted_text}
use Rattle.sudoers_dialect.specs.Output.{adapted_file}
use Rattle.laws_dialect.specs.ReadLines.{IsReadLine}

-- A text of which each line is read is its own adapted text.
abbrev pub ReadTextsAreAdapted : Type 0
ReadTextsAreAdapted = (text : List ℕ) (lines : List (List ℕ)) → cut_outcome_of_text text ≡ Ok lines → AllByRecursion IsReadLine lines → adapted_text text ≡ text

parsed_lines_are_read : (lines : List Line) → AllByRecursion IsCorrectlyParsed lines → AllByRecursion IsReadLine (texts_of_lines lines)
parsed_lines_are_read [] all = tt
parsed_lines_are_read (line ∷ lines) all = ((line.node, all.0), parsed_lines_are_read lines all.1)

-- the bytes of the file with this number
abbrev bytes_of_numbered_file : List ParsedFile → ℕ → List ℕ
bytes_of_numbered_file files f = join (texts_of_lines (lines_of_numbered_file files f))

files_of_adapted_bytes_are_adapted : (files : List ParsedFile) → ((f : ℕ) → adapted_text (bytes_of_numbered_file files f) ≡ bytes_of_numbered_file files f)
    → map adapted_file (map named_file_of_parsed files) ≡ map named_file_of_parsed files
files_of_adapted_bytes_are_adapted [] each = refl
files_of_adapted_bytes_are_adapted (file ∷ files) each =
    ap (λ (bytes : List ℕ). record { name = file.name; bytes = bytes } ∷ map adapted_file (map named_file_of_parsed files)) (each 0)
    ∙ ap (λ (fs : List NamedFile). named_file_of_parsed file ∷ fs) (files_of_adapted_bytes_are_adapted files (λ f. each (suc f)))

pub files_of_policy_are_their_adapted_files : ReadTextsAreAdapted → (files : List NamedFile) (policy : LoadedPolicy) → named_files_of_policy policy ≡ files
    → ((f : ℕ) → cut_outcome_of_text (bytes_of_numbered_file policy.files f) ≡ Ok (texts_of_lines (lines_of_numbered_file policy.files f)))
    → ((f : ℕ) → AllByRecursion IsCorrectlyParsed (lines_of_numbered_file policy.files f)) → map adapted_file files ≡ files
files_of_policy_are_their_adapted_files read files policy are cut said =
    subst (λ (fs : List NamedFile). map adapted_file fs ≡ fs) are
    (files_of_adapted_bytes_are_adapted policy.files (λ f.
    let lines = lines_of_numbered_file policy.files f in
    read (bytes_of_numbered_file policy.files f) (texts_of_lines lines) (cut f) (parsed_lines_are_read lines (said f))))
