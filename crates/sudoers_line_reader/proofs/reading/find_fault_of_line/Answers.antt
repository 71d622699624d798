use Rattle.std.proofs.Common.{◌≡◌, ◌-◌, ℕ, List, map, sym, ap, subst, ◌∙◌, length}
use Rattle.std.proofs.lemmas.List.{length-map}
use Rattle.sudoers_text.specs.LineMode.{line_mode}
use Rattle.sudoers_text.specs.Found.{tokens_of_line}
use Rattle.sudoers_grammar.specs.Piece.{tokens_with_bytes}
use Rattle.sudoers_grammar.specs.Line.{line_stop_before_line_end}
use Rattle.sudoers_grammar.specs.Seen.{model_of_token_part}
use Rattle.sudoers_line_reader.proofs.FaultOfLine.{fault_after_counted_tokens_is_outcome}
use Rattle.sudoers_line_reader.proofs.reading.find_fault_of_line.Goals as goal

pub returns : goal.returns
returns c =
    let line : List ℕ = c.args.line.now in
    let tokens_are : c.in-Ok.tokens.items ≡ tokens_of_line (line_mode line) line =
    subst (λ m. c.in-Ok.tokens.items ≡ tokens_of_line m line) c.choose_line_mode.ensures c.in-Ok.ensures.outcome in
    let listed : map model_of_token_part c.in_ok-parts.parts.items ≡ tokens_with_bytes line (tokens_of_line (line_mode line) line) =
    c.in_ok-parts.ensures ∙ ap (tokens_with_bytes line) (c.as_slice.ensures.value ∙ tokens_are) in
    let parts : map model_of_token_part c.as_slice-3.result.now ≡ tokens_with_bytes line (tokens_of_line (line_mode line) line) = ap (map model_of_token_part) c.as_slice-3.ensures.value ∙ listed in
    let stop : length line - c.final_line_end_len.result ≡ line_stop_before_line_end line = ap (λ n. length line - n) c.final_line_end_len.ensures.value in
    let size : length c.as_slice-2.result.now ≡ length (tokens_with_bytes line (tokens_of_line (line_mode line) line)) =
    ap length c.as_slice-2.ensures.value ∙ sym (length-map c.in_ok-parts.parts.items model_of_token_part) ∙ ap length listed in
    let count : c.count_tokens_before-count.result ≡ length (tokens_with_bytes line (tokens_of_line (line_mode line) line)) - length c.args.left = c.count_tokens_before-count.ensures.value ∙ ap (λ n. n - length c.args.left) size in
    fault_after_counted_tokens_is_outcome line c.args.left _ _ _ c.find_fault_after_tokens.result parts stop count c.find_fault_after_tokens.ensures
