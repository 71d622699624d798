use Rattle.sudoers_match.proofs.Common.{sym, ◌∙◌}
use Rattle.sudoers_match.proofs.OneHead.{held_settings_have_command_settings}
use Rattle.sudoers_match.proofs.laws.one_head.Goals as goal

pub returns-clause-some : goal.returns-clause-some
returns-clause-some c = held_settings_have_command_settings

pub returns-clause-same : goal.returns-clause-same
returns-clause-same c = λ held head other a b. record {
  runas = sym a.runas ∙ b.runas;
  options = sym a.options ∙ b.options;
  tags = sym a.tags ∙ b.tags;
}
