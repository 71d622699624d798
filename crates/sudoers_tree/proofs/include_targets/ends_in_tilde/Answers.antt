use Rattle.sudoers_tree.proofs.Common.{ap, ends_in_tilde, sym, ◌∙◌}
use Rattle.sudoers_tree.proofs.Numbered.{ends_in_tilde_is_told_by_last_byte}
use Rattle.sudoers_tree.proofs.include_targets.ends_in_tilde.Goals as goal

pub returns-in-Some : goal.returns-in-Some
returns-in-Some c = sym (ap ends_in_tilde c.in-Some.ensures.cases.0 ∙ ends_in_tilde_is_told_by_last_byte c.in-Some.field-0-1.now c.in-Some.last.now)
