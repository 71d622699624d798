use Rattle.std.proofs.Common.{◌≡◌, ◌∙◌, Bool, false, [], ◌∷◌, ap, sym}
use Rattle.std.specs.Prelude.{nat_lt, List, if◌then◌else◌}
use Rattle.sudoers_text.specs.declared.part.ByteRunKind.TheVariants as rules
use Rattle.sudoers_text.specs.declared.token.TokenKind.TheVariants as kinds
use Rattle.sudoers_text.specs.Part.{is_punct, size_of_one_matching_byte}
use Rattle.sudoers_text.specs.Piece.{TokenForm, Number, NonUnixGroup, Run, QuotedPart, CommentPart}
use Rattle.sudoers_text.specs.Found.{kind_and_size_of_token}
use Rattle.sudoers_text.proofs.FirstBytes.{token_without_sign_is_no_number_and_no_group}
use Rattle.sudoers_text.proofs.plain_tokens.find_plain_token_among_words.Goals as goal

pub returns-else-begins_punct-clause-found : goal.returns-else-begins_punct-clause-found
returns-else-begins_punct-clause-found c =
    let bytes = c.args.bytes.now in
    let words : List TokenForm = Run kinds.Word rules.Word ∷ QuotedPart kinds.Quoted ∷ CommentPart ∷ [] in
    let mark : nat_lt 0 (size_of_one_matching_byte is_punct bytes) ≡ false = sym c.begins_punct.ensures.value ∙ c.if-begins_punct.false in
    c.find_plain_word_or_quoted_token.ensures.found
    ∙ sym (token_without_sign_is_no_number_and_no_group words false false bytes c.requires)
    ∙ sym (ap (λ (t : Bool). if t then (kinds.Punct, size_of_one_matching_byte is_punct bytes) else kind_and_size_of_token (Number ∷ NonUnixGroup ∷ words) false false bytes) mark)
