use Rattle.std.proofs.Common.{OnOk, ap, subst, sym}
use Rattle.serde_json.specs.Data.{Data}
use Rattle.sudoers_cvt_json.specs.internal.Built.{WritesTokens, rule_object_value, tokens_of_value}
use Rattle.sudoers_cvt_json.proofs.output.JsonOutput.write_rule.Goals as goal

pub returns-in-Defaults-clause-written : goal.returns-in-Defaults-clause-written
returns-in-Defaults-clause-written c =
    subst (λ (d : Data). OnOk c.write_defaults.result (WritesTokens c.args.self.now.writer c.write_defaults.new.self.writer (tokens_of_value d))) (ap rule_object_value (sym c.in-Defaults.is)) c.write_defaults.ensures.written

pub returns-in-Def-clause-written : goal.returns-in-Def-clause-written
returns-in-Def-clause-written c =
    subst (λ (d : Data). OnOk c.write_alias_definition.result (WritesTokens c.args.self.now.writer c.write_alias_definition.new.self.writer (tokens_of_value d))) (ap rule_object_value (sym c.in-Def.is)) c.write_alias_definition.ensures.written

pub returns-in-Spec-clause-written : goal.returns-in-Spec-clause-written
returns-in-Spec-clause-written c =
    subst (λ (d : Data). OnOk c.write_spec.result (WritesTokens c.args.self.now.writer c.write_spec.new.self.writer (tokens_of_value d))) (ap rule_object_value (sym c.in-Spec.is)) c.write_spec.ensures.written
