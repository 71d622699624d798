use Rattle.std.proofs.Common.{List, map, sym, subst}
use Rattle.sudoers_match_member.specs.declared.people_and_commands.Who.{Who}
use Rattle.sudoers_match.specs.Default.{IsRunasDefault}
use Rattle.laws_compare.specs.Content.{Grant}
use Rattle.laws_compare.specs.Granted.{AreGrantsForUserOnHost}
use Rattle.sudoers_compare.specs.FlatSpecs.{placed_rows_of_policy}
use Rattle.sudoers_review_users.specs.UserRows.{deciding_rows_of_user}
use Rattle.sudoers_review_users.proofs.SilentUser.{deciding_rows_are_grants, grant_of_placed, silent_user_has_same_default, silent_user_has_same_grants}
use Rattle.sudoers_review_users.proofs.laws.silent_user_answers_same.Goals as goal

pub returns : goal.returns
returns c old new now name who valid valid_too straight straight_too is request same answer is_answer =
    let lines = old.walk.lines in
    let others = new.walk.lines in
    let content = c.placed_rows_are_content.ensures in
    let granted : List Grant = map grant_of_placed (deciding_rows_of_user who (placed_rows_of_policy lines)) in
    let first = deciding_rows_are_grants c.one_flat.ensures c.decided_is_covered.ensures.grant lines who (c.content_is.ensures lines valid straight) (content lines) in
    let second = subst (λ (grants : List Grant). AreGrantsForUserOnHost others who grants) (sym (silent_user_has_same_grants old new now name who is))
    (deciding_rows_are_grants c.one_flat.ensures c.decided_is_covered.ensures.grant others who (c.content_is.ensures others valid_too straight_too) (content others)) in
    let default = subst (λ (n : List _). IsRunasDefault others who n) (sym (silent_user_has_same_default old new now name who is)) is.is_new_default in
    c.same_grants_answer_same.ensures lines others request granted
    (subst (λ (w : Who). AreGrantsForUserOnHost lines w granted) (sym same) first)
    (subst (λ (w : Who). AreGrantsForUserOnHost others w granted) (sym same) second)
    is.old_default
    (subst (λ (w : Who). IsRunasDefault lines w is.old_default) (sym same) is.is_old_default)
    (subst (λ (w : Who). IsRunasDefault others w is.old_default) (sym same) default)
    answer is_answer
