use Rattle.std.proofs.Common.{◌≡◌, ℕ, List, rules, sym, ap, ◌∙◌}
use Rattle.sudoers_grammar.specs.Node.{Digest}
use Rattle.sudoers_grammar.specs.Seen.{model_of_token_part}
use Rattle.sudoers_line_reader.specs.Reader.{Read}
use Rattle.sudoers_line_reader.specs.Descent.{digest_of_kind_and_token, digest_reader}
use Rattle.sudoers_line_rows.proofs.Growth.{tables_have_grown_from_themselves}
use Rattle.sudoers_line_reader.proofs.digests.DigestReaderRowReader.read.Goals as goal

pub returns-clause-reads : goal.returns-clause-reads
unfolding digest_reader
returns-clause-reads c =
    let new = c.store_text.new.tables in
    let keeps = c.in_ok-text.ensures.keeps in
    let read : digest_reader c.args.cursor.now ≡ Read (digest_of_kind_and_token c.in_ok-kind.kind (model_of_token_part c.in_ok-part.part)) c.expect_digest_text.new.self = search rules in
    let digest_with : List ℕ → Digest = λ text. record { kind = c.in_ok-kind.kind; text = text } in
    (read ∙ ap (λ text. Read (digest_with text) c.expect_digest_text.new.self) (sym (keeps new (tables_have_grown_from_themselves new))), λ u g. ap digest_with (keeps u g ∙ sym (keeps new (tables_have_grown_from_themselves new))))
