-- The files of a policy with another name for an alias, as they are read.
use Rattle.sudoers_edit.proofs.Common.{AllByRecursion, Bool, IsCorrectlyParsed, Kind, List, NamedFile, None, Option, ParsedFile, RenamedLineLaws, Some, WalkState, [], ap, ap₂, arith, false, fault_of_numbered_file}
use Rattle.sudoers_edit.proofs.Common.{file_names, if◌then◌else◌, is_file_on_walk, join, lines_after_rename, lines_of_numbered_file, map, named_file_of_parsed, named_files_numbered_from_replaced_if_on_walk, parsed_file_after_rename}
use Rattle.sudoers_edit.proofs.Common.{parsed_files_numbered_from_renamed_if_on_walk, refl, suc, sym, texts_with_name_replaced, true, zero, ℕ, ◌+◌, ◌∙◌, ◌∷◌, ◌≡◌}
use Rattle.std.proofs.Common.{slice_get}
use Rattle.sudoers_edit.proofs.RenamedTexts.{texts_with_name_replaced_are_renamed_texts}

-- a file, with the other name if it is on the walk
abbrev file_renamed_if_on_walk : Bool → Kind → List ℕ → List ℕ → ParsedFile → ParsedFile
file_renamed_if_on_walk on k name fresh file = if on then parsed_file_after_rename k name fresh file else file

pub rename_keeps_file_names_of_parsed_files : (m : ℕ) (k : Kind) (name fresh : List ℕ) (w : WalkState) (files : List ParsedFile)
    → file_names (parsed_files_numbered_from_renamed_if_on_walk m k name fresh w files) ≡ file_names files
rename_keeps_file_names_of_parsed_files m k name fresh w [] = refl
rename_keeps_file_names_of_parsed_files m k name fresh w (file ∷ files) =
    ap₂ (λ (n : List ℕ) (ns : List (List ℕ)). n ∷ ns) (by (is_file_on_walk w m)) (rename_keeps_file_names_of_parsed_files (m + 1) k name fresh w files)
  where
    by : (on : Bool) → (file_renamed_if_on_walk on k name fresh file).name ≡ file.name
    by true = refl
    by false = refl

pub parsed_file_on_walk_has_renamed_lines : (i f m : ℕ) (k : Kind) (name fresh : List ℕ) (w : WalkState) (files : List ParsedFile) → f ≡ m + i → is_file_on_walk w f ≡ true
    → lines_of_numbered_file (parsed_files_numbered_from_renamed_if_on_walk m k name fresh w files) i ≡ lines_after_rename k name fresh (lines_of_numbered_file files i)
parsed_file_on_walk_has_renamed_lines i f m k name fresh w [] is on = refl
parsed_file_on_walk_has_renamed_lines zero f m k name fresh w (file ∷ files) is on =
    let same : m ≡ f = omega (arith, is) in
    ap (λ (b : Bool). (file_renamed_if_on_walk b k name fresh file).lines) (ap (λ (n : ℕ). is_file_on_walk w n) same ∙ on)
parsed_file_on_walk_has_renamed_lines (suc i) f m k name fresh w (file ∷ files) is on = parsed_file_on_walk_has_renamed_lines i f (m + 1) k name fresh w files (omega (arith, is)) on

pub renamed_parsed_files_have_no_fault : (i m : ℕ) (k : Kind) (name fresh : List ℕ) (w : WalkState) (files : List ParsedFile) → AllByRecursion (λ (file : ParsedFile). file.fault ≡ None) files
    → fault_of_numbered_file (parsed_files_numbered_from_renamed_if_on_walk m k name fresh w files) i ≡ None
renamed_parsed_files_have_no_fault i m k name fresh w [] all = refl
renamed_parsed_files_have_no_fault zero m k name fresh w (file ∷ files) all = by (is_file_on_walk w m)
  where
    by : (on : Bool) → (file_renamed_if_on_walk on k name fresh file).fault ≡ None
    by true = all.0
    by false = all.0
renamed_parsed_files_have_no_fault (suc i) m k name fresh w (file ∷ files) all = renamed_parsed_files_have_no_fault i (m + 1) k name fresh w files all.1

pub parsed_file_not_on_walk_is_kept : (i f m : ℕ) (k : Kind) (name fresh : List ℕ) (w : WalkState) (files : List ParsedFile) → f ≡ m + i → is_file_on_walk w f ≡ false
    → slice_get (parsed_files_numbered_from_renamed_if_on_walk m k name fresh w files) i ≡ slice_get files i
parsed_file_not_on_walk_is_kept i f m k name fresh w [] is off = refl
parsed_file_not_on_walk_is_kept zero f m k name fresh w (file ∷ files) is off =
    let same : m ≡ f = omega (arith, is) in
    ap (λ (b : Bool). let o : Option ParsedFile = Some (file_renamed_if_on_walk b k name fresh file) in o) (ap (λ (n : ℕ). is_file_on_walk w n) same ∙ off)
parsed_file_not_on_walk_is_kept (suc i) f m k name fresh w (file ∷ files) is off = parsed_file_not_on_walk_is_kept i f (m + 1) k name fresh w files (omega (arith, is)) off

-- their bytes are those to which a rename leads
pub renamed_files_are_files_with_name_replaced : RenamedLineLaws → (m : ℕ) (k : Kind) (name fresh : List ℕ) (w : WalkState) (files : List ParsedFile) → ((i : ℕ) → AllByRecursion IsCorrectlyParsed (lines_of_numbered_file files i))
    → map named_file_of_parsed (parsed_files_numbered_from_renamed_if_on_walk m k name fresh w files) ≡ named_files_numbered_from_replaced_if_on_walk m k name fresh w files
renamed_files_are_files_with_name_replaced l m k name fresh w [] says = refl
renamed_files_are_files_with_name_replaced l m k name fresh w (file ∷ files) says =
    ap₂ (λ (first : NamedFile) (rest : List NamedFile). first ∷ rest) (by (is_file_on_walk w m)) (renamed_files_are_files_with_name_replaced l (m + 1) k name fresh w files (λ i. says (suc i)))
  where
    by : (on : Bool) → named_file_of_parsed (file_renamed_if_on_walk on k name fresh file)
        ≡ (if on then record { name = file.name; bytes = join (texts_with_name_replaced k name fresh file.lines) } else named_file_of_parsed file)
    by true =
        ap (λ (lines : List (List ℕ)). let made : NamedFile = record { name = file.name; bytes = join lines } in made)
        (sym (texts_with_name_replaced_are_renamed_texts l.ascend k name fresh file.lines (says 0)))
    by false = refl
