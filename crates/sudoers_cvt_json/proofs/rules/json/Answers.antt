use Rattle.std.proofs.Common.{◌++◌, List, ℕ, codes, ap, ◌∙◌}
use Rattle.json.specs.Token.{Token}
use Rattle.sudoers_cvt_json.specs.Value.{rules_object_value}
use Rattle.sudoers_cvt_json.specs.internal.Built.{tokens_of_value}
use Rattle.sudoers_cvt_json.proofs.Parts.{printed_tokens_are_text}
use Rattle.sudoers_cvt_json.proofs.rules.json.Goals as goal

pub returns-clause-text : goal.returns-clause-text
returns-clause-text c =
    let v = rules_object_value c.args.rules.now in
    let written = c.in_ok-write_rules_object.ensures.written in
    let after = c.write_rules_object.new.self.writer in
    c.in_ok-push.ensures.items ∙ ap (λ (s : List ℕ). s ++ codes "\n")
    (printed_tokens_are_text after.before c.into_bytes-text.result.items after.tokens v c.into_bytes-text.ensures
    (written.0 ∙ c.new-output.ensures.before)
    (written.1 ∙ ap (λ (o : List Token). o ++ tokens_of_value v) c.new-output.ensures.tokens))
