use Rattle.sudoers_cvt_rewrite.proofs.Common.{Host, IfOk-weaker, ◌∙◌}
use Rattle.sudoers_line_rows.specs.View.{members_of_view}
use Rattle.sudoers_cvt_rewrite.specs.declared.filter_text.FilterKey.TheVariants as key
use Rattle.sudoers_cvt_rewrite.proofs.SameNames.{matcher_says_what_values_say}
use Rattle.sudoers_cvt_rewrite.proofs.matching.FilterMatcher.matches_or_allows_filter_hosts.Goals as goal

pub returns-clause-says : goal.returns-clause-says
returns-clause-says c = IfOk-weaker c.matches_or_allows_value.result _ _ (λ says said. said
    ∙ matcher_says_what_values_say c.args.allowing Host c.args.asked.now.policy.now key.Host c.args.asked.now.filter.now.hosts c.args.self.now.hosts (members_of_view c.args.members.now) c.requires.matcher.hosts)
    c.matches_or_allows_value.ensures.says
