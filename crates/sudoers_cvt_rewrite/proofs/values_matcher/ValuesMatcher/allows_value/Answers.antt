use Rattle.sudoers_cvt_rewrite.proofs.Common.{IfOk-weaker, ap, last_hit_in_expanded_list, list_any, ◌∙◌}
use Rattle.sudoers_line_rows.specs.View.{members_of_view}
use Rattle.sudoers_cvt_rewrite.specs.declared.filter_values.FilterValues.{FilterValues}
use Rattle.sudoers_cvt_rewrite.specs.Filter.{is_allowing_hit}
use Rattle.sudoers_cvt_rewrite.specs.internal.Values.{is_atom_matching_value}
use Rattle.sudoers_cvt_rewrite.proofs.values_matcher.ValuesMatcher.allows_value.Goals as goal

pub returns-in-None-clause-says : goal.returns-in-None-clause-says
returns-in-None-clause-says c = IfOk-weaker c.has_allowed_value_of_key.result _ _ (λ says said. said
    ∙ ap (λ (v : FilterValues). list_any (λ value. is_allowing_hit (last_hit_in_expanded_list c.args.policy.now c.args.kind (is_atom_matching_value v.key value) (members_of_view c.args.members.now))) v.names.items) c.find_answer_by_names.ensures.values)
    c.has_allowed_value_of_key.ensures.says
