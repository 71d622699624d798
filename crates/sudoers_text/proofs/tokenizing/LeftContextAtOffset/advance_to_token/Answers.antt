use Rattle.std.proofs.Common.{◌≡◌, ◌∙◌, List, ℕ, false, drop, ap, subst, sym}
use Rattle.sudoers_text.specs.Unit.{LineUnit}
use Rattle.sudoers_text.specs.internal.Left.{LeftDescribesUnits, has_leading_hash_or_percent}
use Rattle.sudoers_text.specs.Token.{units_left_of_place}
use Rattle.sudoers_text.proofs.Reach.{slice_from_count_to_end_is_drop}
use Rattle.sudoers_text.proofs.Reached.{any_units_find_token_without_sign, context_finds_token_found_by_units, units_from_place_continue_units_left}
use Rattle.sudoers_text.proofs.tokenizing.LeftContextAtOffset.advance_to_token.Goals as goal

pub returns-else-begins_hash_or_percent-clause-found : goal.returns-else-begins_hash_or_percent-clause-found
returns-else-begins_hash_or_percent-clause-found c = λ fs.
    let line : List ℕ = c.args.line.now in
    let apart : has_leading_hash_or_percent (drop c.args.start line) ≡ false = ap has_leading_hash_or_percent (sym (slice_from_count_to_end_is_drop c.args.start line)) ∙ sym c.begins_hash_or_percent.ensures ∙ c.if-begins_hash_or_percent.false in
    any_units_find_token_without_sign fs c.args.self.now.left (units_left_of_place line c.args.start) (drop c.args.start line) apart

pub returns-then-begins_hash_or_percent-clause-found : goal.returns-then-begins_hash_or_percent-clause-found
returns-then-begins_hash_or_percent-clause-found c = λ fs.
    let line : List ℕ = c.args.line.now in
    let known : LeftDescribesUnits line c.args.start c.advance_over_slice.result (units_left_of_place line c.args.start) =
    subst (λ (units : List LineUnit). LeftDescribesUnits line c.args.start c.advance_over_slice.result units)
    (units_from_place_continue_units_left line c.advance_to_unescaped_offset_before-here.result.at c.args.start c.advance_to_unescaped_offset_before-here.ensures.place c.advance_to_unescaped_offset_before-here.ensures.knows.apart)
    (c.advance_over_slice.ensures (units_left_of_place line c.advance_to_unescaped_offset_before-here.result.at) c.advance_to_unescaped_offset_before-here.ensures.knows.knows) in
    context_finds_token_found_by_units fs line (drop c.args.start line) c.args.start c.advance_over_slice.result (units_left_of_place line c.args.start) known
