-- The fault behind the tokens that a reader has passed is the line's outcome.
use Rattle.std.proofs.Common.{◌≡◌, ◌-◌, ℕ, List, length, ap, sym, ◌∙◌, Result, Ok, Err, IfOk}
use Rattle.std.specs.declared.alloc.AllocError.{AllocError}
use Rattle.sudoers_text.specs.LineMode.{line_mode}
use Rattle.sudoers_text.specs.Found.{tokens_of_line}
use Rattle.sudoers_grammar.specs.declared.fault.LineFault.{LineFault}
use Rattle.sudoers_grammar.specs.Node.{Node}
use Rattle.sudoers_grammar.specs.Piece.{TokenWithBytes, tokens_with_bytes}
use Rattle.sudoers_grammar.specs.Line.{line_stop_before_line_end}
use Rattle.sudoers_line_reader.specs.Reader.{Halt}
use Rattle.sudoers_line_reader.specs.Descent.{whole_line_reader as reading}
use Rattle.sudoers_line_reader.specs.Outcome.{fault_after_tokens, line_outcome_of_reading, outcome_of_line}

-- count: how many tokens stand before those that are left; stop: where the line has ended
pub fault_after_counted_tokens_is_outcome : (line : List ℕ) (left parts : List TokenWithBytes) (stop count : ℕ) (result : Result LineFault AllocError)
    → parts ≡ tokens_with_bytes line (tokens_of_line (line_mode line) line) → stop ≡ line_stop_before_line_end line → count ≡ length (tokens_with_bytes line (tokens_of_line (line_mode line) line)) - length left
    → IfOk result (λ fault. fault ≡ fault_after_tokens stop count parts)
    → IfOk result (λ fault. reading (tokens_with_bytes line (tokens_of_line (line_mode line) line)) ≡ Halt left → outcome_of_line line ≡ Err fault)
unfolding outcome_of_line
fault_after_counted_tokens_is_outcome line left parts stop count (Ok fault) parts_are stop_is count_is is = λ halts.
    let tokens : List TokenWithBytes = tokens_with_bytes line (tokens_of_line (line_mode line) line) in
    let same : fault ≡ fault_after_tokens (line_stop_before_line_end line) (length tokens - length left) tokens =
    is ∙ (λ j. fault_after_tokens (stop_is j) (count_is j) (parts_are j)) in
    ap (line_outcome_of_reading (line_stop_before_line_end line) tokens) halts ∙ ap (λ (f : LineFault). let outcome : Result Node LineFault = Err f in outcome) (sym same)
fault_after_counted_tokens_is_outcome line left parts stop count (Err e) parts_are stop_is count_is is = tt
