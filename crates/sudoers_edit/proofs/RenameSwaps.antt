-- The changes that give an alias another name in the files on a walk: those of each file, and what they make of its lines.
use Rattle.sudoers_edit.proofs.Common.{AreFileNumbersOfChangesInOrder, AreChangesInOrder, Bool, FirstChangeLaw, Kind, Line, LineChange, List, NoChangesLaw, ParsedFile, Put, Swap, Take, WalkState, [], ap, append-nil}
use Rattle.sudoers_edit.proofs.Common.{append_assoc, arith, changes_of_file, drop, eq-eqb, false, file_number_of_change, if◌then◌else◌, is_file_on_walk, length, line_number_of_change, line_replaced_at_offsets}
use Rattle.sudoers_edit.proofs.Common.{lines_after_changes, lines_changed_from_number, lines_of_numbered_file, min_line_number_after_change, name_offsets_in_line, nat_tests, option_to_list, refl}
use Rattle.sudoers_edit.proofs.Common.{rename_change_in_line, rename_changes_in_file, rename_changes_in_files, subst, suc, sym, take, text_of_change, texts_of_lines, texts_with_name_replaced, true, zero, ℕ, ◌++◌, ◌+◌}
use Rattle.sudoers_edit.proofs.Common.{◌-◌, ◌<◌, ◌==◌, ◌∙◌, ◌∷◌, ◌≡◌, ◌≤◌}

abbrev TextLines : Type 0
TextLines = List (List ℕ)

-- THE CHANGES OF EACH FILE

changes_of_file_in_joined_are_joined : (f : ℕ) (xs ys : List LineChange) → changes_of_file f (xs ++ ys) ≡ changes_of_file f xs ++ changes_of_file f ys
changes_of_file_in_joined_are_joined f [] ys = refl
changes_of_file_in_joined_are_joined f (x ∷ xs) ys = by (file_number_of_change x == f) (changes_of_file_in_joined_are_joined f xs ys)
  where
    by : (b : Bool) → changes_of_file f (xs ++ ys) ≡ changes_of_file f xs ++ changes_of_file f ys
        → (if b then x ∷ changes_of_file f (xs ++ ys) else changes_of_file f (xs ++ ys)) ≡ (if b then x ∷ changes_of_file f xs else changes_of_file f xs) ++ changes_of_file f ys
    by true rest = ap (λ cs. x ∷ cs) rest
    by false rest = rest

-- those of a file are its own
rename_changes_in_file_are_its_own : (f n : ℕ) (k : Kind) (name fresh : List ℕ) (lines : List Line) → changes_of_file f (rename_changes_in_file f n k name fresh lines) ≡ rename_changes_in_file f n k name fresh lines
rename_changes_in_file_are_its_own f n k name fresh [] = refl
rename_changes_in_file_are_its_own f n k name fresh (line ∷ lines) = by (rename_changes_in_file_are_its_own f (n + 1) k name fresh lines) (name_offsets_in_line k name line.node)
  where
    later : List LineChange
    later = rename_changes_in_file f (n + 1) k name fresh lines

    by : changes_of_file f later ≡ later → (starts : List ℕ) → changes_of_file f (rename_change_in_line f n (length name) fresh starts line.text ++ later)
        ≡ rename_change_in_line f n (length name) fresh starts line.text ++ later
    by rest [] = rest
    by rest (start ∷ starts) =
        let one : LineChange = Swap f n (line_replaced_at_offsets 0 (length name) fresh (start ∷ starts) line.text) in
        ap (λ (b : Bool). if b then one ∷ changes_of_file f later else changes_of_file f later) (eq-eqb f f refl) ∙ ap (λ cs. one ∷ cs) rest

-- and none is another's
rename_changes_in_file_are_not_others : (f g n : ℕ) (k : Kind) (name fresh : List ℕ) (lines : List Line) → (f == g) ≡ false → changes_of_file g (rename_changes_in_file f n k name fresh lines) ≡ []
rename_changes_in_file_are_not_others f g n k name fresh [] differ = refl
rename_changes_in_file_are_not_others f g n k name fresh (line ∷ lines) differ = by (rename_changes_in_file_are_not_others f g (n + 1) k name fresh lines differ) (name_offsets_in_line k name line.node)
  where
    later : List LineChange
    later = rename_changes_in_file f (n + 1) k name fresh lines

    by : changes_of_file g later ≡ [] → (starts : List ℕ) → changes_of_file g (rename_change_in_line f n (length name) fresh starts line.text ++ later) ≡ []
    by rest [] = rest
    by rest (start ∷ starts) =
        let one : LineChange = Swap f n (line_replaced_at_offsets 0 (length name) fresh (start ∷ starts) line.text) in
        ap (λ (b : Bool). if b then one ∷ changes_of_file g later else changes_of_file g later) differ ∙ rest

-- those of a file, if it is on the walk
abbrev rename_changes_in_file_if_on_walk : Bool → ℕ → Kind → List ℕ → List ℕ → List Line → List LineChange
rename_changes_in_file_if_on_walk on f k name fresh lines = if on then rename_changes_in_file f 0 k name fresh lines else []

optional_rename_changes_are_not_others : (on : Bool) (f g : ℕ) (k : Kind) (name fresh : List ℕ) (lines : List Line) → (f == g) ≡ false → changes_of_file g (rename_changes_in_file_if_on_walk on f k name fresh lines) ≡ []
optional_rename_changes_are_not_others true f g k name fresh lines differ = rename_changes_in_file_are_not_others f g 0 k name fresh lines differ
optional_rename_changes_are_not_others false f g k name fresh lines differ = refl

optional_rename_changes_are_their_files_own : (on : Bool) (f : ℕ) (k : Kind) (name fresh : List ℕ) (lines : List Line) → changes_of_file f (rename_changes_in_file_if_on_walk on f k name fresh lines) ≡ rename_changes_in_file_if_on_walk on f k name fresh lines
optional_rename_changes_are_their_files_own true f k name fresh lines = rename_changes_in_file_are_its_own f 0 k name fresh lines
optional_rename_changes_are_their_files_own false f k name fresh lines = refl

-- the changes of later files are none of this one
rename_changes_of_later_files_are_none : (f m : ℕ) (k : Kind) (name fresh : List ℕ) (w : WalkState) (files : List ParsedFile) → f < m
    → changes_of_file f (rename_changes_in_files m k name fresh w files) ≡ []
rename_changes_of_later_files_are_none f m k name fresh w [] less = refl
rename_changes_of_later_files_are_none f m k name fresh w (file ∷ files) less =
    let differ : (m == f) ≡ false = grind (arith, nat_tests, less) in
    changes_of_file_in_joined_are_joined f (rename_changes_in_file_if_on_walk (is_file_on_walk w m) m k name fresh file.lines) (rename_changes_in_files (m + 1) k name fresh w files)
    ∙ ap (λ cs. cs ++ changes_of_file f (rename_changes_in_files (m + 1) k name fresh w files)) (optional_rename_changes_are_not_others (is_file_on_walk w m) m f k name fresh file.lines differ)
    ∙ rename_changes_of_later_files_are_none f (m + 1) k name fresh w files (omega (arith, less))

rename_changes_of_first_file_are_leading : (m : ℕ) (k : Kind) (name fresh : List ℕ) (w : WalkState) (file : ParsedFile) (files : List ParsedFile)
    → changes_of_file m (rename_changes_in_files m k name fresh w (file ∷ files)) ≡ rename_changes_in_file_if_on_walk (is_file_on_walk w m) m k name fresh file.lines
rename_changes_of_first_file_are_leading m k name fresh w file files =
    changes_of_file_in_joined_are_joined m (rename_changes_in_file_if_on_walk (is_file_on_walk w m) m k name fresh file.lines) (rename_changes_in_files (m + 1) k name fresh w files)
    ∙ ap (λ cs. changes_of_file m (rename_changes_in_file_if_on_walk (is_file_on_walk w m) m k name fresh file.lines) ++ cs) (rename_changes_of_later_files_are_none m (m + 1) k name fresh w files (omega arith))
    ∙ append-nil (changes_of_file m (rename_changes_in_file_if_on_walk (is_file_on_walk w m) m k name fresh file.lines))
    ∙ optional_rename_changes_are_their_files_own (is_file_on_walk w m) m k name fresh file.lines

rename_changes_of_no_lines_are_none : (on : Bool) (f : ℕ) (k : Kind) (name fresh : List ℕ) → [] ≡ rename_changes_in_file_if_on_walk on f k name fresh []
rename_changes_of_no_lines_are_none true f k name fresh = refl
rename_changes_of_no_lines_are_none false f k name fresh = refl

-- the changes of the file f, which comes after i others
pub rename_changes_of_numbered_file : (f m i : ℕ) (k : Kind) (name fresh : List ℕ) (w : WalkState) (files : List ParsedFile) → f ≡ m + i
    → changes_of_file f (rename_changes_in_files m k name fresh w files) ≡ if is_file_on_walk w f then rename_changes_in_file f 0 k name fresh (lines_of_numbered_file files i) else []
rename_changes_of_numbered_file f m i k name fresh w [] is = rename_changes_of_no_lines_are_none (is_file_on_walk w f) f k name fresh
rename_changes_of_numbered_file f m zero k name fresh w (file ∷ files) is =
    let same : m ≡ f = omega (arith, is) in
    subst (λ (g : ℕ). changes_of_file g (rename_changes_in_files m k name fresh w (file ∷ files)) ≡ rename_changes_in_file_if_on_walk (is_file_on_walk w g) g k name fresh file.lines) same
    (rename_changes_of_first_file_are_leading m k name fresh w file files)
rename_changes_of_numbered_file f m (suc i) k name fresh w (file ∷ files) is =
    let differ : (m == f) ≡ false = grind (arith, nat_tests, is) in
    changes_of_file_in_joined_are_joined f (rename_changes_in_file_if_on_walk (is_file_on_walk w m) m k name fresh file.lines) (rename_changes_in_files (m + 1) k name fresh w files)
    ∙ ap (λ cs. cs ++ changes_of_file f (rename_changes_in_files (m + 1) k name fresh w files)) (optional_rename_changes_are_not_others (is_file_on_walk w m) m f k name fresh file.lines differ)
    ∙ rename_changes_of_numbered_file f (m + 1) i k name fresh w files (omega (arith, is))

-- THEY GO BY THE FILES

rename_changes_in_file_keep_file_order : (p f n count : ℕ) (k : Kind) (name fresh : List ℕ) (lines : List Line) (rest : List LineChange) → p ≤ f → f < count
    → ((q : ℕ) → q ≤ f + 1 → AreFileNumbersOfChangesInOrder q rest count) → AreFileNumbersOfChangesInOrder p (rename_changes_in_file f n k name fresh lines ++ rest) count
rename_changes_in_file_keep_file_order p f n count k name fresh [] rest less within next = next p (omega (arith, less))
rename_changes_in_file_keep_file_order p f n count k name fresh (line ∷ lines) rest less within next =
    by (λ q at. rename_changes_in_file_keep_file_order q f (n + 1) count k name fresh lines rest at within next) (name_offsets_in_line k name line.node)
  where
    later : List LineChange
    later = rename_changes_in_file f (n + 1) k name fresh lines

    by : ((q : ℕ) → q ≤ f → AreFileNumbersOfChangesInOrder q (later ++ rest) count) → (starts : List ℕ)
        → AreFileNumbersOfChangesInOrder p ((rename_change_in_line f n (length name) fresh starts line.text ++ later) ++ rest) count
    by more [] = more p less
    by more (start ∷ starts) = (less, within, more f (omega arith))

pub rename_changes_are_in_file_order : (p m count : ℕ) (k : Kind) (name fresh : List ℕ) (w : WalkState) (files : List ParsedFile) → p ≤ m → count ≡ m + length files
    → AreFileNumbersOfChangesInOrder p (rename_changes_in_files m k name fresh w files) count
rename_changes_are_in_file_order p m count k name fresh w [] less is = tt
rename_changes_are_in_file_order p m count k name fresh w (file ∷ files) less is =
    by (λ q at. rename_changes_are_in_file_order q (m + 1) count k name fresh w files at (omega (arith, is))) (is_file_on_walk w m)
  where
    later : List LineChange
    later = rename_changes_in_files (m + 1) k name fresh w files

    by : ((q : ℕ) → q ≤ m + 1 → AreFileNumbersOfChangesInOrder q later count) → (on : Bool) → AreFileNumbersOfChangesInOrder p (rename_changes_in_file_if_on_walk on m k name fresh file.lines ++ later) count
    by next true = rename_changes_in_file_keep_file_order p m 0 count k name fresh file.lines later less (omega (arith, is)) next
    by next false = next p (omega (arith, less))

-- WHAT THEY MAKE OF A FILE

pub texts_of_lines_are_as_many : (lines : List Line) → length (texts_of_lines lines) ≡ length lines
texts_of_lines_are_as_many [] = refl
texts_of_lines_are_as_many (line ∷ lines) = ap suc (texts_of_lines_are_as_many lines)

-- their places ascend
pub rename_changes_in_file_are_in_order : (f m n count : ℕ) (k : Kind) (name fresh : List ℕ) (lines : List Line) → m ≤ n → count ≡ n + length lines
    → AreChangesInOrder m (rename_changes_in_file f n k name fresh lines) count
rename_changes_in_file_are_in_order f m n count k name fresh [] less is = omega (arith, less, is)
rename_changes_in_file_are_in_order f m n count k name fresh (line ∷ lines) less is =
    by (λ from within. rename_changes_in_file_are_in_order f from (n + 1) count k name fresh lines within (omega (arith, is))) (name_offsets_in_line k name line.node)
  where
    by : ((from : ℕ) → from ≤ n + 1 → AreChangesInOrder from (rename_changes_in_file f (n + 1) k name fresh lines) count)
        → (starts : List ℕ) → AreChangesInOrder m (rename_change_in_line f n (length name) fresh starts line.text ++ rename_changes_in_file f (n + 1) k name fresh lines) count
    by rest [] = rest m (omega (arith, less))
    by rest (start ∷ starts) = (less, rest (n + 1) (omega arith))

changed_line_number_is_at_most_next : (change : LineChange) → line_number_of_change change ≤ min_line_number_after_change change
changed_line_number_is_at_most_next (Put file at text) = omega arith
changed_line_number_is_at_most_next (Swap file at text) = omega arith
changed_line_number_is_at_most_next (Take file at) = omega arith

-- the first line stays if no place is its
first_line_before_changes_stays : NoChangesLaw → FirstChangeLaw → (n : ℕ) (changes : List LineChange) (line : List ℕ) (lines : TextLines) → AreChangesInOrder (n + 1) changes (n + 1 + length lines)
    → lines_changed_from_number n changes (line ∷ lines) ≡ line ∷ lines_changed_from_number (n + 1) changes lines
first_line_before_changes_stays none first n [] line lines order = none n (line ∷ lines) ∙ ap (λ (z : TextLines). line ∷ z) (sym (none (n + 1) lines))
first_line_before_changes_stays none first n (change ∷ changes) line lines order =
    let brings : TextLines = option_to_list (text_of_change change) in
    let at : ℕ = line_number_of_change change in
    let next : ℕ = min_line_number_after_change change in
    let same : n + 1 + length lines ≡ n + length (line ∷ lines) = omega arith in
    let a : at - n ≡ suc (at - (n + 1)) = omega (arith, order.0) in
    let b : next - n ≡ suc (next - (n + 1)) = omega (arith, order.0, changed_line_number_is_at_most_next change) in
    first n change changes (line ∷ lines) (omega (arith, order.0), subst (AreChangesInOrder next changes) same order.1)
    ∙ ap (λ i. take i (line ∷ lines) ++ (brings ++ lines_changed_from_number next changes (drop (next - n) (line ∷ lines)))) a
    ∙ ap (λ i. take (suc (at - (n + 1))) (line ∷ lines) ++ (brings ++ lines_changed_from_number next changes (drop i (line ∷ lines)))) b
    ∙ ap (λ (z : TextLines). line ∷ z) (sym (first (n + 1) change changes lines order))

-- they make the renamed lines
rename_changes_in_file_replace_name_in_lines : NoChangesLaw → FirstChangeLaw → (f n : ℕ) (k : Kind) (name fresh : List ℕ) (lines : List Line)
    → lines_changed_from_number n (rename_changes_in_file f n k name fresh lines) (texts_of_lines lines) ≡ texts_with_name_replaced k name fresh lines
rename_changes_in_file_replace_name_in_lines none first f n k name fresh [] = none n []
rename_changes_in_file_replace_name_in_lines none first f n k name fresh (line ∷ lines) = by (rename_changes_in_file_replace_name_in_lines none first f (n + 1) k name fresh lines) (name_offsets_in_line k name line.node)
  where
    changes : List LineChange
    changes = rename_changes_in_file f (n + 1) k name fresh lines

    by : lines_changed_from_number (n + 1) changes (texts_of_lines lines) ≡ texts_with_name_replaced k name fresh lines → (starts : List ℕ) → lines_changed_from_number n (rename_change_in_line f n (length name) fresh starts line.text ++ changes) (texts_of_lines (line ∷ lines))
        ≡ line_replaced_at_offsets 0 (length name) fresh starts line.text ∷ texts_with_name_replaced k name fresh lines
    by rest [] =
        first_line_before_changes_stays none first n changes line.text (texts_of_lines lines)
        (rename_changes_in_file_are_in_order f (n + 1) (n + 1) (n + 1 + length (texts_of_lines lines)) k name fresh lines (omega arith) (omega (arith, texts_of_lines_are_as_many lines)))
        ∙ ap (λ (z : TextLines). line.text ∷ z) rest
    by rest (start ∷ starts) =
        let text : List ℕ = line_replaced_at_offsets 0 (length name) fresh (start ∷ starts) line.text in
        let a : n - n ≡ zero = omega arith in
        let b : n + 1 - n ≡ suc zero = omega arith in
        first n (Swap f n text) changes (texts_of_lines (line ∷ lines))
        (omega arith, rename_changes_in_file_are_in_order f (n + 1) (n + 1) (n + length (texts_of_lines (line ∷ lines))) k name fresh lines (omega arith) (omega (arith, texts_of_lines_are_as_many lines)))
        ∙ ap (λ i. take i (texts_of_lines (line ∷ lines)) ++ (text ∷ lines_changed_from_number (n + 1) changes (drop (n + 1 - n) (texts_of_lines (line ∷ lines))))) a
        ∙ ap (λ i. text ∷ lines_changed_from_number (n + 1) changes (drop i (texts_of_lines (line ∷ lines)))) b
        ∙ ap (λ (z : TextLines). text ∷ z) rest

-- the lines of a file after the changes: those with the new name, if the file is on the walk
pub rename_changes_make_lines_of_each_file : NoChangesLaw → FirstChangeLaw → (f : ℕ) (k : Kind) (name fresh : List ℕ) (w : WalkState) (files : List ParsedFile)
    → lines_after_changes (changes_of_file f (rename_changes_in_files 0 k name fresh w files)) (texts_of_lines (lines_of_numbered_file files f))
    ≡ if is_file_on_walk w f then texts_with_name_replaced k name fresh (lines_of_numbered_file files f) else texts_of_lines (lines_of_numbered_file files f)
rename_changes_make_lines_of_each_file none first f k name fresh w files =
    ap (λ cs. lines_after_changes cs (texts_of_lines (lines_of_numbered_file files f))) (rename_changes_of_numbered_file f 0 f k name fresh w files (omega arith)) ∙ by (is_file_on_walk w f)
  where
    by : (on : Bool) → lines_after_changes (rename_changes_in_file_if_on_walk on f k name fresh (lines_of_numbered_file files f)) (texts_of_lines (lines_of_numbered_file files f))
        ≡ if on then texts_with_name_replaced k name fresh (lines_of_numbered_file files f) else texts_of_lines (lines_of_numbered_file files f)
    by true = rename_changes_in_file_replace_name_in_lines none first f 0 k name fresh (lines_of_numbered_file files f)
    by false = none 0 (texts_of_lines (lines_of_numbered_file files f))

-- the changes of each file are in order
pub rename_changes_of_each_file_are_in_order : (f : ℕ) (k : Kind) (name fresh : List ℕ) (w : WalkState) (files : List ParsedFile)
    → AreChangesInOrder 0 (changes_of_file f (rename_changes_in_files 0 k name fresh w files)) (length (lines_of_numbered_file files f))
rename_changes_of_each_file_are_in_order f k name fresh w files =
    subst (λ cs. AreChangesInOrder 0 cs (length (lines_of_numbered_file files f))) (sym (rename_changes_of_numbered_file f 0 f k name fresh w files (omega arith))) (by (is_file_on_walk w f))
  where
    by : (on : Bool) → AreChangesInOrder 0 (rename_changes_in_file_if_on_walk on f k name fresh (lines_of_numbered_file files f)) (length (lines_of_numbered_file files f))
    by true = rename_changes_in_file_are_in_order f 0 0 (length (lines_of_numbered_file files f)) k name fresh (lines_of_numbered_file files f) (omega arith) (omega arith)
    by false = omega arith

-- ONE FILE AFTER ANOTHER

-- the file with this number, and those behind it
record HasNumberedFile (files : List ParsedFile) (f : ℕ) : Type 0 where
  file : ParsedFile
  is : drop f files ≡ file ∷ drop (f + 1) files
  lines : lines_of_numbered_file files f ≡ file.lines

numbered_file_heads_rest_of_files : (files : List ParsedFile) (f : ℕ) → f < length files → HasNumberedFile files f
numbered_file_heads_rest_of_files [] f less = absurd (omega (arith, less))
numbered_file_heads_rest_of_files (file ∷ files) zero less = record { file = file; is = refl; lines = refl }
numbered_file_heads_rest_of_files (file ∷ files) (suc f) less =
    let at : HasNumberedFile files f = numbered_file_heads_rest_of_files files f (omega (arith, less)) in
    let next : suc (f + 1) ≡ suc f + 1 = omega arith in
    record { file = at.file; is = at.is ∙ ap (λ n. at.file ∷ drop n (file ∷ files)) next; lines = at.lines }

-- what is there, the changes of a file, and those of the files behind it
pub rename_changes_continue_with_next_file : (changes more : List LineChange) (f : ℕ) (k : Kind) (name fresh : List ℕ) (w : WalkState) (files : List ParsedFile) → f < length files
    → more ≡ changes ++ (if is_file_on_walk w f then rename_changes_in_file f 0 k name fresh (lines_of_numbered_file files f) else [])
    → more ++ rename_changes_in_files (f + 1) k name fresh w (drop (f + 1) files) ≡ changes ++ rename_changes_in_files f k name fresh w (drop f files)
rename_changes_continue_with_next_file changes more f k name fresh w files less is =
    let at : HasNumberedFile files f = numbered_file_heads_rest_of_files files f less in
    let here : List LineChange = rename_changes_in_file_if_on_walk (is_file_on_walk w f) f k name fresh (lines_of_numbered_file files f) in
    let behind : List LineChange = rename_changes_in_files (f + 1) k name fresh w (drop (f + 1) files) in
    ap (λ cs. cs ++ behind) is
    ∙ append_assoc changes here behind
    ∙ ap (λ ls. changes ++ (rename_changes_in_file_if_on_walk (is_file_on_walk w f) f k name fresh ls ++ behind)) at.lines
    ∙ ap (λ fs. changes ++ rename_changes_in_files f k name fresh w fs) (sym at.is)
