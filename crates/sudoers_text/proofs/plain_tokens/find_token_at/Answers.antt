use Rattle.std.proofs.Common.{◌≡◌, ◌∙◌, List, ℕ, false, take, drop, length, ap, subst, sym, arith}
use Rattle.std.specs.Prelude.{◌-◌}
use Rattle.std.proofs.lemmas.List.{length-drop}
use Rattle.sudoers_text.specs.internal.Left.{has_leading_hash_or_percent}
use Rattle.sudoers_text.specs.internal.Plain.{IsTokenWithContextBehind}
use Rattle.sudoers_text.specs.Context.{token_forms_in_context}
use Rattle.sudoers_text.specs.Token.{units_left_of_place}
use Rattle.sudoers_text.proofs.Reach.{slice_from_count_to_end_is_drop}
use Rattle.sudoers_text.proofs.Reached.{any_units_find_token_without_sign}
use Rattle.sudoers_text.proofs.plain_tokens.find_token_at.Goals as goal

pub returns-else-begins_hash_or_percent-clause-found : goal.returns-else-begins_hash_or_percent-clause-found
returns-else-begins_hash_or_percent-clause-found c =
    let line : List ℕ = c.args.line.now in
    let body : List ℕ = drop c.args.start line in
    let slice : take (length line - c.args.start) body ≡ body = slice_from_count_to_end_is_drop c.args.start line in
    let found : IsTokenWithContextBehind c.args.here c.find_plain_token.result false false body =
    subst (IsTokenWithContextBehind c.args.here c.find_plain_token.result false false) slice c.find_plain_token.ensures.found in
    let apart : has_leading_hash_or_percent body ≡ false = ap has_leading_hash_or_percent (sym slice) ∙ sym c.begins_hash_or_percent.ensures ∙ c.if-begins_hash_or_percent.false in
    record {
      found = found.found ∙ any_units_find_token_without_sign (token_forms_in_context c.args.here) (record { item = false; continues = false; begun = 1 }) (units_left_of_place line c.args.start) body apart;
      within = omega (arith, found.within, length-drop c.args.start line, c.requires.inside);
      behind = found.behind;
    }
