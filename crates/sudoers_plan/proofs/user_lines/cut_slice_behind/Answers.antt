use Rattle.std.proofs.Common.{rules, ◌∙◌}
use Rattle.sudoers_plan.proofs.UserEdits.{drop_by_least}
use Rattle.sudoers_plan.proofs.user_lines.cut_slice_behind.Goals as goal

pub returns : goal.returns
returns c = c.split_at.ensures.back ∙ drop_by_least c.args.from c.args.text.now c.min.result (search rules)
