-- Files of which one has other lines, and lines of which one has others in its place.
use Rattle.sudoers_edit.proofs.Common.{AllByRecursion, Bool, EachIsOneLineWhenCut, IsCorrectlyParsed, Line, LineToLinesMapping, List, NamedFile, None, ParsedFile, Some, [], ap, ap₂, arith, eq-eqb, eqb-true, false}
use Rattle.sudoers_edit.proofs.Common.{fault_of_numbered_file, file_names, files_with_bytes_replaced, if◌then◌else◌, join, length, length-append, lines_of_numbered_file, map, mapped_lines_from_number}
use Rattle.sudoers_edit.proofs.Common.{named_file_of_parsed, refl, slice_get, suc, texts_of_lines, true, zero, ℕ, ◌&&◌, ◌++◌, ◌+◌, ◌==◌, ◌∙◌, ◌∷◌, ◌≡◌, ◌≤◌}

-- ---- files

-- these files, of which the one with this number has these lines
abbrev pub files_with_file_lines : ℕ → List Line → List ParsedFile → List ParsedFile
files_with_file_lines f lines [] = []
files_with_file_lines zero lines (file ∷ files) = record { name = file.name; lines = lines; fault = file.fault } ∷ files
files_with_file_lines (suc f) lines (file ∷ files) = file ∷ files_with_file_lines f lines files

pub file_given_lines_has_them : (f : ℕ) (lines : List Line) (files : List ParsedFile) (file : ParsedFile) → slice_get files f ≡ Some file → lines_of_numbered_file (files_with_file_lines f lines files) f ≡ lines
file_given_lines_has_them f lines [] file is = absurd (cc)
file_given_lines_has_them zero lines (first ∷ files) file is = refl
file_given_lines_has_them (suc f) lines (first ∷ files) file is = file_given_lines_has_them f lines files file is

pub file_given_lines_is_present : (f : ℕ) (lines : List Line) (files : List ParsedFile) (file : ParsedFile) → slice_get files f ≡ Some file
    → (other : ParsedFile) × (slice_get (files_with_file_lines f lines files) f ≡ Some other)
file_given_lines_is_present f lines [] file is = absurd (cc)
file_given_lines_is_present zero lines (first ∷ files) file is = (record { name = first.name; lines = lines; fault = first.fault }, refl)
file_given_lines_is_present (suc f) lines (first ∷ files) file is = file_given_lines_is_present f lines files file is

pub other_file_is_kept : (f : ℕ) (lines : List Line) (files : List ParsedFile) (e : ℕ) → (e ≡ f → ⊥) → slice_get (files_with_file_lines f lines files) e ≡ slice_get files e
other_file_is_kept f lines [] e other = refl
other_file_is_kept zero lines (first ∷ files) zero other = absurd (other refl)
other_file_is_kept zero lines (first ∷ files) (suc e) other = refl
other_file_is_kept (suc f) lines (first ∷ files) zero other = refl
other_file_is_kept (suc f) lines (first ∷ files) (suc e) other = other_file_is_kept f lines files e (λ same. other (ap suc same))

pub given_lines_keep_file_names : (f : ℕ) (lines : List Line) (files : List ParsedFile) → file_names (files_with_file_lines f lines files) ≡ file_names files
given_lines_keep_file_names f lines [] = refl
given_lines_keep_file_names zero lines (first ∷ files) = refl
given_lines_keep_file_names (suc f) lines (first ∷ files) = ap (λ ns. first.name ∷ ns) (given_lines_keep_file_names f lines files)

pub given_lines_keep_file_faults : (f : ℕ) (lines : List Line) (files : List ParsedFile) (e : ℕ) → fault_of_numbered_file (files_with_file_lines f lines files) e ≡ fault_of_numbered_file files e
given_lines_keep_file_faults f lines [] e = refl
given_lines_keep_file_faults zero lines (first ∷ files) zero = refl
given_lines_keep_file_faults zero lines (first ∷ files) (suc e) = refl
given_lines_keep_file_faults (suc f) lines (first ∷ files) zero = refl
given_lines_keep_file_faults (suc f) lines (first ∷ files) (suc e) = given_lines_keep_file_faults f lines files e

pub faultless_files_have_no_numbered_fault : (files : List ParsedFile) (e : ℕ) → AllByRecursion (λ (file : ParsedFile). file.fault ≡ None) files → fault_of_numbered_file files e ≡ None
faultless_files_have_no_numbered_fault [] e all = refl
faultless_files_have_no_numbered_fault (first ∷ files) zero all = all.0
faultless_files_have_no_numbered_fault (first ∷ files) (suc e) all = faultless_files_have_no_numbered_fault files e all.1

-- the bytes of the changed files
pub replaced_bytes_are_files_with_lines : (f : ℕ) (lines : List Line) (files : List ParsedFile) → files_with_bytes_replaced f (join (texts_of_lines lines)) (map named_file_of_parsed files) ≡ map named_file_of_parsed (files_with_file_lines f lines files)
replaced_bytes_are_files_with_lines f lines [] = refl
replaced_bytes_are_files_with_lines zero lines (first ∷ files) = refl
replaced_bytes_are_files_with_lines (suc f) lines (first ∷ files) = ap (λ (fs : List NamedFile). named_file_of_parsed first ∷ fs) (replaced_bytes_are_files_with_lines f lines files)

-- those of the files before
pub former_bytes_are_restored : (f : ℕ) (lines : List Line) (files : List ParsedFile)
    → files_with_bytes_replaced f (join (texts_of_lines (lines_of_numbered_file files f))) (map named_file_of_parsed (files_with_file_lines f lines files)) ≡ map named_file_of_parsed files
former_bytes_are_restored f lines [] = refl
former_bytes_are_restored zero lines (first ∷ files) = refl
former_bytes_are_restored (suc f) lines (first ∷ files) = ap (λ (fs : List NamedFile). named_file_of_parsed first ∷ fs) (former_bytes_are_restored f lines files)

-- ---- one line of a file

-- these lines come of the line n of the file f, and each other line stays
abbrev pub mapping_of_one_line : ℕ → ℕ → List Line → LineToLinesMapping
mapping_of_one_line f n news = λ e m line. if (e == f) && (m == n) then news else line ∷ []

other_line_is_mapped_to_itself : (f n : ℕ) (news : List Line) (e m : ℕ) (line : Line) → ((e ≡ f) → (m ≡ n) → ⊥) → mapping_of_one_line f n news e m line ≡ line ∷ []
other_line_is_mapped_to_itself f n news e m line other = by (e == f) refl (m == n) refl
  where
    by : (a : Bool) → (e == f) ≡ a → (b : Bool) → (m == n) ≡ b → (if (e == f) && (m == n) then news else line ∷ []) ≡ line ∷ []
    by true x true y = absurd (other (eqb-true e f x) (eqb-true m n y))
    by true x false y = rw (x, y) refl
    by false x b y = rw x refl

pub mapped_line_is_its_new_lines : (f n : ℕ) (news : List Line) (line : Line) → mapping_of_one_line f n news f n line ≡ news
mapped_line_is_its_new_lines f n news line = rw (eq-eqb f f refl, eq-eqb n n refl) refl

pub mapping_keeps_lines_of_other_file : (f n : ℕ) (news : List Line) (e m : ℕ) (lines : List Line) → (e ≡ f → ⊥) → mapped_lines_from_number (mapping_of_one_line f n news) e m lines ≡ lines
mapping_keeps_lines_of_other_file f n news e m [] other = refl
mapping_keeps_lines_of_other_file f n news e m (line ∷ lines) other =
    ap₂ (λ (xs ys : List Line). xs ++ ys) (other_line_is_mapped_to_itself f n news e m line (λ a b. other a)) (mapping_keeps_lines_of_other_file f n news e (m + 1) lines other)

lines_past_mapped_line_are_kept : (f n : ℕ) (news : List Line) (m : ℕ) (lines : List Line) → n + 1 ≤ m → mapped_lines_from_number (mapping_of_one_line f n news) f m lines ≡ lines
lines_past_mapped_line_are_kept f n news m [] past = refl
lines_past_mapped_line_are_kept f n news m (line ∷ lines) past =
    ap₂ (λ (xs ys : List Line). xs ++ ys) (other_line_is_mapped_to_itself f n news f m line (λ a b. omega (arith, past, b))) (lines_past_mapped_line_are_kept f n news (m + 1) lines (omega (arith, past)))

pub mapped_line_is_replaced_behind_front : (f n : ℕ) (news : List Line) (m : ℕ) (front : List Line) (line : Line) (after : List Line) → m + length front ≡ n
    → mapped_lines_from_number (mapping_of_one_line f n news) f m (front ++ line ∷ after) ≡ front ++ (news ++ after)
mapped_line_is_replaced_behind_front f n news m [] line after place =
    ap₂ (λ (xs ys : List Line). xs ++ ys) (ap (λ i. mapping_of_one_line f n news f i line) (let e : m ≡ n = omega (arith, place) in e) ∙ mapped_line_is_its_new_lines f n news line)
    (lines_past_mapped_line_are_kept f n news (m + 1) after (omega (arith, place)))
mapped_line_is_replaced_behind_front f n news m (first ∷ front) line after place =
    ap₂ (λ (xs ys : List Line). xs ++ ys) (other_line_is_mapped_to_itself f n news f m first (λ a b. omega (arith, place, b)))
    (mapped_line_is_replaced_behind_front f n news (m + 1) front line after (omega (arith, place)))

-- ---- lists of lines

pub joined_lines_are_cut_alone : (xs ys : List Line) → EachIsOneLineWhenCut (texts_of_lines xs) → EachIsOneLineWhenCut (texts_of_lines ys) → EachIsOneLineWhenCut (texts_of_lines (xs ++ ys))
joined_lines_are_cut_alone [] ys a b = b
joined_lines_are_cut_alone (x ∷ xs) ys a b = (a.0, joined_lines_are_cut_alone xs ys a.1 b)

pub parts_of_lines_cut_alone_are_so : (xs ys : List Line) → EachIsOneLineWhenCut (texts_of_lines (xs ++ ys)) → EachIsOneLineWhenCut (texts_of_lines xs) × EachIsOneLineWhenCut (texts_of_lines ys)
parts_of_lines_cut_alone_are_so [] ys a = (tt, a)
parts_of_lines_cut_alone_are_so (x ∷ xs) ys a = let p = parts_of_lines_cut_alone_are_so xs ys a.1 in ((a.0, p.0), p.1)

pub joined_lines_are_correctly_parsed : (xs ys : List Line) → AllByRecursion IsCorrectlyParsed xs → AllByRecursion IsCorrectlyParsed ys → AllByRecursion IsCorrectlyParsed (xs ++ ys)
joined_lines_are_correctly_parsed [] ys a b = b
joined_lines_are_correctly_parsed (x ∷ xs) ys a b = (a.0, joined_lines_are_correctly_parsed xs ys a.1 b)

pub parts_of_correctly_parsed_lines_are_so : (xs ys : List Line) → AllByRecursion IsCorrectlyParsed (xs ++ ys) → AllByRecursion IsCorrectlyParsed xs × AllByRecursion IsCorrectlyParsed ys
parts_of_correctly_parsed_lines_are_so [] ys a = (tt, a)
parts_of_correctly_parsed_lines_are_so (x ∷ xs) ys a = let p = parts_of_correctly_parsed_lines_are_so xs ys a.1 in ((a.0, p.0), p.1)

pub size_of_joined_lines_is_sum : (xs ys : List Line) → length (join (texts_of_lines (xs ++ ys))) ≡ length (join (texts_of_lines xs)) + length (join (texts_of_lines ys))
size_of_joined_lines_is_sum [] ys = omega arith
size_of_joined_lines_is_sum (x ∷ xs) ys = omega (arith, length-append x.text (join (texts_of_lines (xs ++ ys))), length-append x.text (join (texts_of_lines xs)), size_of_joined_lines_is_sum xs ys)

-- a line with this number, and a file that has it
pub line_of_file_implies_present_file : (files : List ParsedFile) (f n : ℕ) (line : Line) → slice_get (lines_of_numbered_file files f) n ≡ Some line → (file : ParsedFile) × (slice_get files f ≡ Some file)
line_of_file_implies_present_file [] f n line here = absurd (none f here)
  where
    none : (f : ℕ) → slice_get (lines_of_numbered_file [] f) n ≡ Some line → ⊥
    none zero is = cc
    none (suc f) is = cc
line_of_file_implies_present_file (first ∷ files) zero n line here = (first, refl)
line_of_file_implies_present_file (first ∷ files) (suc f) n line here = line_of_file_implies_present_file files f n line here
