use Rattle.std.proofs.Math.Path.{subst₂}
use Rattle.laws_compare.specs.Computed.{content_of_lines}
use Rattle.laws_compare.specs.NoMore.{GrantsNoMore}
use Rattle.sudoers_review.proofs.SilentGrants.{silent_grants_have_rows_that_grant_no_more, silent_grants_have_same_settings}
use Rattle.sudoers_review.proofs.laws.silent_grants_allow_no_more.Goals as goal

pub returns : goal.returns
returns c old new valid valid_too straight straight_too is =
    let content = c.placed_rows_are_content.ensures in
    c.policy_that_grants_no_more_allows_no_more.ensures old.walk.lines new.walk.lines (content_of_lines old.walk.lines) (content_of_lines new.walk.lines)
    (c.content_is.ensures old.walk.lines valid straight) (c.content_is.ensures new.walk.lines valid_too straight_too) (silent_grants_have_same_settings old new is)
    (subst₂ GrantsNoMore (content old.walk.lines) (content new.walk.lines) (silent_grants_have_rows_that_grant_no_more c.unchanged_row_is_same_or_covered.ensures old new is))
