use Rattle.std.proofs.Common.{◌≡◌, ◌∙◌, Bool, true, false, List, [], ◌∷◌, ℕ, take, drop, ap, sym, arith}
use Rattle.std.specs.Prelude.{nat_lt, if◌then◌else◌}
use Rattle.sudoers_text.specs.declared.token.TokenKind.{TokenKind}
use Rattle.sudoers_text.specs.declared.token.TokenKind.TheVariants as kinds
use Rattle.sudoers_text.specs.declared.context.TokenContext.TheVariants as context
use Rattle.sudoers_text.specs.Unit.{is_comma_colon_or_equals}
use Rattle.sudoers_text.specs.Part.{argument_units_size, has_given_first_byte, is_whole_argument, size_of_one_matching_byte}
use Rattle.sudoers_text.specs.Piece.{CommentPart}
use Rattle.sudoers_text.specs.Found.{argument_size, kind_and_size_of_token}
use Rattle.sudoers_text.proofs.Reach.{slice_from_count_to_end_is_drop}
use Rattle.sudoers_text.proofs.Sizes.{positive_number_passes_positive_test}
use Rattle.sudoers_text.proofs.Arguments.{units_before_no_quote_are_unbroken}
use Rattle.sudoers_text.proofs.plain_tokens.find_plain_argument.Goals as goal

pub returns : goal.returns
returns c =
    let bytes : List ℕ = c.args.bytes.now in
    let n = c.argument_units_len-len.result in
    let is : n ≡ argument_units_size bytes = c.argument_units_len-len.ensures.value in
    let quote : has_given_first_byte 34 (drop (argument_units_size bytes) bytes) ≡ false =
    ap (λ (k : ℕ). has_given_first_byte 34 (drop k bytes)) (sym is) ∙ ap (has_given_first_byte 34) (sym (slice_from_count_to_end_is_drop n bytes)) ∙ sym c.begins_with_given_byte.ensures ∙ c.if-begins_with_given_byte.false in
    let unbroken = units_before_no_quote_are_unbroken bytes quote in
    let some : nat_lt 0 n ≡ true = positive_number_passes_positive_test n (omega (arith, c.if-len-eq0.false)) in
    let other : TokenKind × ℕ = kind_and_size_of_token (CommentPart ∷ []) false false bytes in
    let argument : ℕ → TokenKind × ℕ = λ m. if nat_lt 0 m then (kinds.Arg, m) else other in
    record {
      found = record {
        found = sym (ap (λ (t : Bool). if t then (kinds.Arg, n) else other) some)
            ∙ sym (ap argument (unbroken.size ∙ sym is))
            ∙ sym (ap (λ (t : Bool). if t then (kinds.Punct, size_of_one_matching_byte is_comma_colon_or_equals bytes) else argument (argument_size bytes)) c.requires);
        within = c.argument_units_len-len.ensures.within;
        behind = sym (ap (λ (t : Bool). if t then context.Arguments else context.QuotedArgument) (ap (λ (k : ℕ). is_whole_argument (take k bytes)) is ∙ unbroken.whole));
      };
    }
