-- What is shown of the files of a policy.
use Rattle.std.proofs.Common.{◌≡◌, ◌<◌, ◌+◌, ℕ, List, ◌++◌, length, drop, slice_get, Some, ap, ◌∙◌}
use Rattle.sudoers_tree.specs.Files.{ParsedFile, lines_of_optional_file, lines_of_numbered_file, name_of_optional_file, name_of_numbered_file}
use Rattle.sudoers_tree.proofs.Numbered.{drop_begins_with_numbered_item, item_below_length_exists}
use Rattle.sudoers_run.specs.Shown.{file_heading_text, shown_file_with_heading, shown_files_with_headings, shown_lines_of_file}

-- a file with its number, from 0, and its name
abbrev pub heading_of_numbered_file : List ParsedFile → ℕ → List ℕ
heading_of_numbered_file files n = file_heading_text (n + 1) (name_of_numbered_file files n)

shown_file_is_heading_and_lines : (files : List ParsedFile) (n : ℕ) (file : ParsedFile) → slice_get files n ≡ Some file → shown_file_with_heading (n + 1) file ≡ heading_of_numbered_file files n ++ shown_lines_of_file (lines_of_numbered_file files n)
shown_file_is_heading_and_lines files n file at =
    let name : name_of_numbered_file files n ≡ file.name = ap name_of_optional_file at in
    let lines : lines_of_numbered_file files n ≡ file.lines = ap lines_of_optional_file at in
    cc

pub shown_files_are_shown_one_by_one : (files : List ParsedFile) (n : ℕ) → n < length files
    → shown_files_with_headings (n + 1) (drop n files) ≡ (heading_of_numbered_file files n ++ shown_lines_of_file (lines_of_numbered_file files n)) ++ shown_files_with_headings (n + 1 + 1) (drop (n + 1) files)
shown_files_are_shown_one_by_one files n less =
    let at = item_below_length_exists files n less in
    ap (shown_files_with_headings (n + 1)) (drop_begins_with_numbered_item files n at.0 at.1)
    ∙ ap (λ text. text ++ shown_files_with_headings (n + 1 + 1) (drop (n + 1) files)) (shown_file_is_heading_and_lines files n at.0 at.1)
