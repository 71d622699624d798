use Rattle.std.proofs.Common.{◌≡◌, arith, rules}
use Rattle.std.proofs.lemmas.Grind.{common_steps}
use Rattle.sudoers_text.specs.Found.{tokens_of_line}
use Rattle.sudoers_text.proofs.Standing.{computed_tokens_stand}
use Rattle.sudoers_text.proofs.line_tokens.tokens.Goals as goal

pub returns-clause-exact : goal.returns-clause-exact
returns-clause-exact c =
    let computed : c.loop-token.tokens.items ≡ tokens_of_line c.args.mode c.args.line.now = first_of (search rules, grind (arith, common_steps)) in
    computed_tokens_stand c.args.mode c.args.line.now c.loop-token.tokens.items computed
