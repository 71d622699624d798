use Rattle.std.proofs.Common.{◌≡◌, ◌++◌, drop, map}
use Rattle.sudoers_forms.specs.Seen.{model_of_judged_token}
use Rattle.sudoers_forms.specs.Forms.{list_by_table}
use Rattle.sudoers_forms.specs.SudoRs.{rs_refused_of_token}
use Rattle.sudoers_forms.proofs.sudo_rs_refusal.append_refused_of_tokens.Given as goal

abbrev pub invariant-loop-token : goal.invariant-loop-token
invariant-loop-token l =
    l.refused.items ++ list_by_table (rs_refused_of_token l.number) (map model_of_judged_token (drop l.token-index l.tokens))
    ≡ l.initial.refused.items ++ list_by_table (rs_refused_of_token l.number) (map model_of_judged_token l.tokens)
