use Rattle.sudoers_cvt_rewrite.proofs.Common.{Bool, IfOk-weaker, User, ap, false, is_any_value_matched_or_allowed, is_atom_matching_group_name, is_atom_matching_user_name, sym, true, ◌||◌, ◌∙◌, ◌≡◌}
use Rattle.std.proofs.lemmas.Bool.{or_left}
use Rattle.sudoers_line_rows.specs.View.{members_of_view}
use Rattle.sudoers_cvt_rewrite.specs.declared.filter_text.FilterKey.TheVariants as key
use Rattle.sudoers_cvt_rewrite.proofs.SameNames.{matcher_says_what_values_say}
use Rattle.sudoers_cvt_rewrite.proofs.matching.FilterMatcher.matches_or_allows_filter_users.Goals as goal

pub returns-then-branch-clause-says : goal.returns-then-branch-clause-says
returns-then-branch-clause-says c =
    let lines = c.args.asked.now.policy.now in
    let filter = c.args.asked.now.filter.now in
    let ms = members_of_view c.args.members.now in
    let users : is_any_value_matched_or_allowed c.args.allowing lines User is_atom_matching_user_name filter.users ms ≡ true =
    sym (c.in_ok-matches_or_allows_value.ensures.says ∙ matcher_says_what_values_say c.args.allowing User lines key.User filter.users c.args.self.now.users ms c.requires.matcher.users) ∙ c.if-branch.true in
    sym (or_left (is_any_value_matched_or_allowed c.args.allowing lines User is_atom_matching_user_name filter.users ms) (is_any_value_matched_or_allowed c.args.allowing lines User is_atom_matching_group_name filter.groups ms) users)

pub returns-clause-says : goal.returns-clause-says
returns-clause-says c =
    let lines = c.args.asked.now.policy.now in
    let filter = c.args.asked.now.filter.now in
    let ms = members_of_view c.args.members.now in
    let users : is_any_value_matched_or_allowed c.args.allowing lines User is_atom_matching_user_name filter.users ms ≡ false =
    sym (c.in_ok-matches_or_allows_value.ensures.says ∙ matcher_says_what_values_say c.args.allowing User lines key.User filter.users c.args.self.now.users ms c.requires.matcher.users) ∙ c.if-branch.false in
    IfOk-weaker c.matches_or_allows_value-2.result _ _ (λ says said. said
    ∙ matcher_says_what_values_say c.args.allowing User lines key.Group filter.groups c.args.self.now.groups ms c.requires.matcher.groups
    ∙ ap (λ (b : Bool). b || is_any_value_matched_or_allowed c.args.allowing lines User is_atom_matching_group_name filter.groups ms) (sym users))
    c.matches_or_allows_value-2.ensures.says
