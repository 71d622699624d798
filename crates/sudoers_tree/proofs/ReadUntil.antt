-- Lines that are read up to the first that does not parse.
use Rattle.sudoers_tree.proofs.Common.{ContinuesReadingLines, Line, List, None, Option, Some, SyntaxFault, [], ap, append-nil, append_assoc, arith, join, length, length-append, lines_parsed_until_fault, map-append}
use Rattle.sudoers_tree.proofs.Common.{sym, text_limit, texts_of_lines, ℕ, ◌++◌, ◌+◌, ◌∙◌, ◌≡◌, ◌≤◌}
use Rattle.sudoers_tree.proofs.Joined.{join_of_appended_lines_is_appended}

abbrev pub LinesAndSyntaxFault : Type 0
LinesAndSyntaxFault = List Line × Option SyntaxFault

-- lines before those that are read
abbrev pub reading_with_lines_prepended : List Line → LinesAndSyntaxFault → LinesAndSyntaxFault
reading_with_lines_prepended lines read = (lines ++ read.0, read.1)

-- Of all these texts the first are read, as these lines, and the rest is left. Reading the rest then gives the outcome of all.
abbrev pub AreLinesReadBeforeRest : List (List ℕ) → List Line → List (List ℕ) → Type 0
AreLinesReadBeforeRest all read rest = (texts_of_lines read ++ rest ≡ all) × (reading_with_lines_prepended read (lines_parsed_until_fault read rest) ≡ lines_parsed_until_fault [] all)

-- the next texts are within the limit
pub next_texts_fit_text_limit : (all : List (List ℕ)) (read : List Line) (rest here behind : List (List ℕ)) → rest ≡ here ++ behind → AreLinesReadBeforeRest all read rest
    → length (join all) ≤ text_limit → length (join (texts_of_lines read)) + length (join here) ≤ text_limit
next_texts_fit_text_limit all read rest here behind first state fits =
    let whole : length (join all) ≡ length (join (texts_of_lines read)) + length (join (here ++ behind)) =
    ap (λ ls. length (join ls)) (sym state.0 ∙ ap (λ ls. texts_of_lines read ++ ls) first)
    ∙ ap length (join_of_appended_lines_is_appended (texts_of_lines read) (here ++ behind))
    ∙ length-append (join (texts_of_lines read)) (join (here ++ behind)) in
    omega (arith, whole, fits, ap length (join_of_appended_lines_is_appended here behind), length-append (join here) (join behind))

-- more texts are read
pub reading_goes_on_after_texts : (all : List (List ℕ)) (read after : List Line) (rest here behind : List (List ℕ)) → rest ≡ here ++ behind → AreLinesReadBeforeRest all read rest
    → ContinuesReadingLines None read after here → AreLinesReadBeforeRest all after behind
reading_goes_on_after_texts all read after rest here behind first state (new, after_is, texts_are, goes_on) = (
  ap (λ ls. texts_of_lines ls ++ behind) after_is
      ∙ ap (λ ls. ls ++ behind) (map-append (λ (l : Line). l.text) read new)
      ∙ append_assoc (texts_of_lines read) (texts_of_lines new) behind
      ∙ ap (λ ls. texts_of_lines read ++ (ls ++ behind)) texts_are
      ∙ ap (λ ls. texts_of_lines read ++ ls) (sym first)
      ∙ state.0,
  ap (λ ls. let r : LinesAndSyntaxFault = (ls, (lines_parsed_until_fault after behind).1) in r)
      (ap (λ ls. ls ++ (lines_parsed_until_fault after behind).0) after_is ∙ append_assoc read new (lines_parsed_until_fault after behind).0)
      ∙ ap (reading_with_lines_prepended read) (sym (goes_on behind))
      ∙ ap (λ ls. reading_with_lines_prepended read (lines_parsed_until_fault read ls)) (sym first)
      ∙ state.1,
)

-- a line among the next texts does not parse
pub faulty_text_ends_reading : (all : List (List ℕ)) (read after : List Line) (rest here behind : List (List ℕ)) (fault : SyntaxFault) → rest ≡ here ++ behind
    → AreLinesReadBeforeRest all read rest → ContinuesReadingLines (Some fault) read after here → (let r : LinesAndSyntaxFault = (after, Some fault) in r) ≡ lines_parsed_until_fault [] all
faulty_text_ends_reading all read after rest here behind fault first state (same, stops) =
    ap (λ ls. let r : LinesAndSyntaxFault = (ls, Some fault) in r) (same ∙ sym (append-nil read))
    ∙ ap (reading_with_lines_prepended read) (sym (stops behind))
    ∙ ap (λ ls. reading_with_lines_prepended read (lines_parsed_until_fault read ls)) (sym first)
    ∙ state.1

-- all texts are read
pub texts_read_to_end_are_outcome : (all : List (List ℕ)) (read : List Line) (rest : List (List ℕ)) → rest ≡ [] → AreLinesReadBeforeRest all read rest
    → (let r : LinesAndSyntaxFault = (read, None) in r) ≡ lines_parsed_until_fault [] all
texts_read_to_end_are_outcome all read rest none state =
    ap (λ ls. let r : LinesAndSyntaxFault = (ls, None) in r) (sym (append-nil read))
    ∙ ap (λ ls. reading_with_lines_prepended read (lines_parsed_until_fault read ls)) (sym none)
    ∙ state.1
