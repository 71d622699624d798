use Rattle.sudoers_tree.proofs.Common.{ContinuesReadingLines, Line, List, [], ap, append-nil, arith, drop, drop_all, table_growth_is_transitive, join, length, line_of_row, map, rules, subst, sym, text_limit, texts_of_lines, ℕ, ◌+◌}
use Rattle.sudoers_tree.proofs.Common.{◌∷◌, ◌≡◌, ◌≤◌}
use Rattle.sudoers_tree.proofs.Numbered.{drop_begins_with_numbered_item}
use Rattle.sudoers_tree.proofs.ReadUntil.{texts_read_to_end_are_outcome, next_texts_fit_text_limit, reading_goes_on_after_texts, faulty_text_ends_reading}
use Rattle.sudoers_tree.proofs.reading.read_lines_until_fault.Goals as goal

pub read_and_append_line-requires-clause-fits : goal.read_and_append_line-requires-clause-fits
read_and_append_line-requires-clause-fits c =
    let lines : List (List ℕ) = c.args.lines.now in
    let n : ℕ = c.loop-number.number in
    let text : List ℕ = c.in-Some.text.now in
    let first : drop n lines ≡ text ∷ drop (n + 1) lines = drop_begins_with_numbered_item lines n text (sym c.in-Some.ensures) in
    let fits : length (join (texts_of_lines (map (line_of_row c.loop-number.tables) c.loop-number.rows.items))) + length (join (text ∷ [])) ≤ text_limit =
    next_texts_fit_text_limit lines (map (line_of_row c.loop-number.tables) c.loop-number.rows.items) (drop n lines) (text ∷ []) (drop (n + 1) lines) first c.loop-number.invariant.2 c.requires.fits in
    omega (arith, fits, ap length (append-nil text))

pub returns-in_err-fault-clause-grown : goal.returns-in_err-fault-clause-grown
returns-in_err-fault-clause-grown c =
    table_growth_is_transitive c.args.tables.now c.loop-number.tables c.read_and_append_line.new.tables c.loop-number.invariant.0 c.in_err-fault.ensures.grown

pub returns-in-Some-2-clause-grown : goal.returns-in-Some-2-clause-grown
returns-in-Some-2-clause-grown c =
    table_growth_is_transitive c.args.tables.now c.loop-number.tables c.read_and_append_line.new.tables c.loop-number.invariant.0 c.in_ok-fault.ensures.grown

pub returns-in-Some-2-clause-read : goal.returns-in-Some-2-clause-read
returns-in-Some-2-clause-read c =
    let lines : List (List ℕ) = c.args.lines.now in
    let n : ℕ = c.loop-number.number in
    let text : List ℕ = c.in-Some.text.now in
    let first : drop n lines ≡ text ∷ drop (n + 1) lines = drop_begins_with_numbered_item lines n text (sym c.in-Some.ensures) in
    let before : List Line = map (line_of_row c.loop-number.tables) c.loop-number.rows.items in
    let after : List Line = map (line_of_row c.read_and_append_line.new.tables) c.read_and_append_line.new.rows.items in
    faulty_text_ends_reading lines before after (drop n lines) (text ∷ []) (drop (n + 1) lines) c.in-Some-2.fault first c.loop-number.invariant.2
    (subst (λ f. ContinuesReadingLines f before after (text ∷ [])) c.in-Some-2.is c.in_ok-fault.ensures.read)

pub loop-number-preserved : goal.loop-number-preserved
loop-number-preserved c =
    let lines : List (List ℕ) = c.args.lines.now in
    let n : ℕ = c.loop-number.number in
    let text : List ℕ = c.in-Some.text.now in
    let first : drop n lines ≡ text ∷ drop (n + 1) lines = drop_begins_with_numbered_item lines n text (sym c.in-Some.ensures) in
    let before : List Line = map (line_of_row c.loop-number.tables) c.loop-number.rows.items in
    let after : List Line = map (line_of_row c.read_and_append_line.new.tables) c.read_and_append_line.new.rows.items in (
      table_growth_is_transitive c.args.tables.now c.loop-number.tables c.read_and_append_line.new.tables c.loop-number.invariant.0 c.in_ok-fault.ensures.grown,
      c.in_ok-fault.ensures.stand,
      reading_goes_on_after_texts lines before after (drop n lines) (text ∷ []) (drop (n + 1) lines) first c.loop-number.invariant.2
          (subst (λ f. ContinuesReadingLines f before after (text ∷ [])) c.in_default-2.is c.in_ok-fault.ensures.read),
    )

pub returns-clause-read : goal.returns-clause-read
returns-clause-read c =
    let all : c.loop-number.number ≡ length c.args.lines.now = search rules in
    texts_read_to_end_are_outcome c.args.lines.now (map (line_of_row c.loop-number.tables) c.loop-number.rows.items) (drop c.loop-number.number c.args.lines.now)
    (drop_all c.loop-number.number c.args.lines.now (omega (arith, all))) c.loop-number.invariant.2
