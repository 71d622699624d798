use Rattle.sudoers_cvt_rewrite.proofs.Common.{sym}
use Rattle.sudoers_line_rows.specs.View.{members_of_view}
use Rattle.std.proofs.lemmas.Result.{IfOk-weaker}
use Rattle.sudoers_cvt_rewrite.specs.declared.filter_text.FilterKey.TheVariants.{User, Group, Host}
use Rattle.sudoers_cvt_rewrite.proofs.Matchers.{answer_is_same_at_key, caches_are_valid_at_key}
use Rattle.sudoers_cvt_rewrite.proofs.values_matcher.has_allowed_value_of_key.Goals as goal

pub has_allowed_value-requires-clause-verdicts : goal.has_allowed_value-requires-clause-verdicts
has_allowed_value-requires-clause-verdicts c = caches_are_valid_at_key c.args.kind c.args.policy.now c.args.values.now.key User c.args.values.now.names.items c.as_slice-names.result.now c.args.verdicts.now.items
    c.in-User.is c.as_slice-names.ensures.value c.requires.verdicts

pub returns-in-User-clause-kept : goal.returns-in-User-clause-kept
returns-in-User-clause-kept c = IfOk-weaker c.has_allowed_value.result _ _ (λ says kept. caches_are_valid_at_key c.args.kind c.args.policy.now User c.args.values.now.key c.as_slice-names.result.now c.args.values.now.names.items c.has_allowed_value.new.verdicts.items
    (sym c.in-User.is) (sym c.as_slice-names.ensures.value) kept) c.has_allowed_value.ensures.kept

pub returns-in-User-clause-says : goal.returns-in-User-clause-says
returns-in-User-clause-says c = IfOk-weaker c.has_allowed_value.result _ _ (λ says said. answer_is_same_at_key c.args.kind c.args.policy.now c.args.values.now.key User c.args.values.now.names.items c.as_slice-names.result.now (members_of_view c.args.members.now) says
    c.in-User.is c.as_slice-names.ensures.value said) c.has_allowed_value.ensures.says

pub has_allowed_value-requires-in-Group-clause-verdicts : goal.has_allowed_value-requires-in-Group-clause-verdicts
has_allowed_value-requires-in-Group-clause-verdicts c = caches_are_valid_at_key c.args.kind c.args.policy.now c.args.values.now.key Group c.args.values.now.names.items c.as_slice-names.result.now c.args.verdicts.now.items
    c.in-Group.is c.as_slice-names.ensures.value c.requires.verdicts

pub returns-in-Group-clause-kept : goal.returns-in-Group-clause-kept
returns-in-Group-clause-kept c = IfOk-weaker c.has_allowed_value-in-Group.result _ _ (λ says kept. caches_are_valid_at_key c.args.kind c.args.policy.now Group c.args.values.now.key c.as_slice-names.result.now c.args.values.now.names.items c.has_allowed_value-in-Group.new.verdicts.items
    (sym c.in-Group.is) (sym c.as_slice-names.ensures.value) kept) c.has_allowed_value-in-Group.ensures.kept

pub returns-in-Group-clause-says : goal.returns-in-Group-clause-says
returns-in-Group-clause-says c = IfOk-weaker c.has_allowed_value-in-Group.result _ _ (λ says said. answer_is_same_at_key c.args.kind c.args.policy.now c.args.values.now.key Group c.args.values.now.names.items c.as_slice-names.result.now (members_of_view c.args.members.now) says
    c.in-Group.is c.as_slice-names.ensures.value said) c.has_allowed_value-in-Group.ensures.says

pub has_allowed_value-requires-in-Host-clause-verdicts : goal.has_allowed_value-requires-in-Host-clause-verdicts
has_allowed_value-requires-in-Host-clause-verdicts c = caches_are_valid_at_key c.args.kind c.args.policy.now c.args.values.now.key Host c.args.values.now.names.items c.as_slice-names.result.now c.args.verdicts.now.items
    c.in-Host.is c.as_slice-names.ensures.value c.requires.verdicts

pub returns-in-Host-clause-kept : goal.returns-in-Host-clause-kept
returns-in-Host-clause-kept c = IfOk-weaker c.has_allowed_value-in-Host.result _ _ (λ says kept. caches_are_valid_at_key c.args.kind c.args.policy.now Host c.args.values.now.key c.as_slice-names.result.now c.args.values.now.names.items c.has_allowed_value-in-Host.new.verdicts.items
    (sym c.in-Host.is) (sym c.as_slice-names.ensures.value) kept) c.has_allowed_value-in-Host.ensures.kept

pub returns-in-Host-clause-says : goal.returns-in-Host-clause-says
returns-in-Host-clause-says c = IfOk-weaker c.has_allowed_value-in-Host.result _ _ (λ says said. answer_is_same_at_key c.args.kind c.args.policy.now c.args.values.now.key Host c.args.values.now.names.items c.as_slice-names.result.now (members_of_view c.args.members.now) says
    c.in-Host.is c.as_slice-names.ensures.value said) c.has_allowed_value-in-Host.ensures.says
