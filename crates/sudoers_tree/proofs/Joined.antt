-- Lines that follow others: their text, their definitions, and the physical lines before them.
use Rattle.sudoers_tree.proofs.Common.{Bool, Line, List, [], ap, append-nil, arith, definitions_from_line_number, definitions_in_line, definitions_of_lines, false, if◌then◌else◌, join, length, lf_count, map-append}
use Rattle.sudoers_tree.proofs.Common.{refl, sym, texts_of_lines, true, ℕ, ◌++◌, ◌+◌, ◌==◌, ◌∙◌, ◌∷◌, ◌≡◌}
use Rattle.std.proofs.lemmas.List.{append_assoc}
use Rattle.std.proofs.lemmas.List.Recursion.{is_count_by}

pub join_of_appended_lines_is_appended : (xs ys : List (List ℕ)) → join (xs ++ ys) ≡ join xs ++ join ys
join_of_appended_lines_is_appended [] ys = refl
join_of_appended_lines_is_appended (x ∷ xs) ys = ap (λ t. x ++ t) (join_of_appended_lines_is_appended xs ys) ∙ sym (append_assoc x (join xs) (join ys))

-- the text of lines and one more
pub join_with_last_line_appends_its_text : (lines : List Line) (line : Line) → join (texts_of_lines (lines ++ line ∷ [])) ≡ join (texts_of_lines lines) ++ line.text
join_with_last_line_appends_its_text lines line =
    ap join (map-append (λ (l : Line). l.text) lines (line ∷ []))
    ∙ join_of_appended_lines_is_appended (texts_of_lines lines) (line.text ∷ [])
    ∙ ap (λ t. join (texts_of_lines lines) ++ t) (append-nil line.text)

pub definitions_of_appended_lines_are_appended : (n : ℕ) (xs ys : List Line) → definitions_from_line_number n (xs ++ ys) ≡ definitions_from_line_number n xs ++ definitions_from_line_number (n + length xs) ys
definitions_of_appended_lines_are_appended n [] ys = ap (λ m. definitions_from_line_number m ys) (omega arith)
definitions_of_appended_lines_are_appended n (x ∷ xs) ys =
    ap (λ ds. definitions_in_line n x.node ++ ds) (definitions_of_appended_lines_are_appended (n + 1) xs ys)
    ∙ ap (λ m. definitions_in_line n x.node ++ (definitions_from_line_number (n + 1) xs ++ definitions_from_line_number m ys)) (omega arith)
    ∙ sym (append_assoc (definitions_in_line n x.node) (definitions_from_line_number (n + 1) xs) (definitions_from_line_number (n + length (x ∷ xs)) ys))

-- the definitions of lines and one more
pub definitions_with_last_line_are_appended : (lines : List Line) (line : Line) → definitions_of_lines (lines ++ line ∷ []) ≡ definitions_of_lines lines ++ definitions_in_line (length lines) line.node
definitions_with_last_line_are_appended lines line =
    definitions_of_appended_lines_are_appended 0 lines (line ∷ [])
    ∙ ap (λ n. definitions_of_lines lines ++ (definitions_in_line n line.node ++ [])) (omega arith)
    ∙ ap (λ ds. definitions_of_lines lines ++ ds) (append-nil (definitions_in_line (length lines) line.node))

-- ---- parts of a list of lines

-- ---- physical lines

abbrev count_of_lf_by_recursion : List ℕ → ℕ
count_of_lf_by_recursion [] = 0
count_of_lf_by_recursion (b ∷ bytes) = if b == 10 then 1 + count_of_lf_by_recursion bytes else count_of_lf_by_recursion bytes

count_by_recursion_is_lf_count : (bytes : List ℕ) → count_of_lf_by_recursion bytes ≡ lf_count bytes
count_by_recursion_is_lf_count bytes = is_count_by count_of_lf_by_recursion (λ b. b == 10) refl (λ b rest. refl) bytes

count_by_recursion_adds_after_first_byte : (b : ℕ) (xs ys : List ℕ) (t : Bool) → (b == 10) ≡ t → count_of_lf_by_recursion (xs ++ ys) ≡ count_of_lf_by_recursion xs + count_of_lf_by_recursion ys → count_of_lf_by_recursion (b ∷ xs ++ ys) ≡ count_of_lf_by_recursion (b ∷ xs) + count_of_lf_by_recursion ys
count_by_recursion_adds_after_first_byte b xs ys true e later =
    let whole : count_of_lf_by_recursion (b ∷ xs ++ ys) ≡ 1 + count_of_lf_by_recursion (xs ++ ys) = ap (λ t. if t then 1 + count_of_lf_by_recursion (xs ++ ys) else count_of_lf_by_recursion (xs ++ ys)) e in
    let front : count_of_lf_by_recursion (b ∷ xs) ≡ 1 + count_of_lf_by_recursion xs = ap (λ t. if t then 1 + count_of_lf_by_recursion xs else count_of_lf_by_recursion xs) e in
    omega (arith, whole, front, later)
count_by_recursion_adds_after_first_byte b xs ys false e later =
    let whole : count_of_lf_by_recursion (b ∷ xs ++ ys) ≡ count_of_lf_by_recursion (xs ++ ys) = ap (λ t. if t then 1 + count_of_lf_by_recursion (xs ++ ys) else count_of_lf_by_recursion (xs ++ ys)) e in
    let front : count_of_lf_by_recursion (b ∷ xs) ≡ count_of_lf_by_recursion xs = ap (λ t. if t then 1 + count_of_lf_by_recursion xs else count_of_lf_by_recursion xs) e in
    omega (arith, whole, front, later)

count_by_recursion_adds_over_append : (xs ys : List ℕ) → count_of_lf_by_recursion (xs ++ ys) ≡ count_of_lf_by_recursion xs + count_of_lf_by_recursion ys
count_by_recursion_adds_over_append [] ys = omega arith
count_by_recursion_adds_over_append (b ∷ xs) ys = count_by_recursion_adds_after_first_byte b xs ys (b == 10) refl (count_by_recursion_adds_over_append xs ys)

pub lf_count_adds_over_append : (xs ys : List ℕ) → lf_count (xs ++ ys) ≡ lf_count xs + lf_count ys
lf_count_adds_over_append xs ys = omega (arith, count_by_recursion_adds_over_append xs ys, count_by_recursion_is_lf_count xs, count_by_recursion_is_lf_count ys, count_by_recursion_is_lf_count (xs ++ ys))
