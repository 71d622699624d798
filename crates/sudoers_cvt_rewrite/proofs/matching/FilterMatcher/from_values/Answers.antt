use Rattle.sudoers_cvt_rewrite.proofs.Common.{Host, User}
use Rattle.sudoers_cvt_rewrite.proofs.matching.FilterMatcher.from_values.Goals as goal

pub returns-clause-users : goal.returns-clause-users
returns-clause-users c = c.in_ok-new.ensures User

pub returns-clause-groups : goal.returns-clause-groups
returns-clause-groups c = c.in_ok-new-2.ensures User

pub returns-clause-hosts : goal.returns-clause-hosts
returns-clause-hosts c = c.in_ok-new-3.ensures Host
