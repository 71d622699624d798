-- What the code knows of two policies, and of a user, before it compares what they grant him. No public contract cites it.
use Rattle.std.specs.Prelude.{◌≡◌, map}
use Rattle.sudoers_tree.specs.Load.{LoadedPolicy}
use Rattle.sudoers_match_member.specs.declared.people_and_commands.Who.{Who}
use Rattle.sudoers_match.specs.Default.{IsRunasDefault}
use Rattle.sudoers_compare.specs.FlatSpecs.{placed_row_of_view, placed_rows_of_flat_specs, placed_rows_of_policy, row_of_placed_view}
use Rattle.sudoers_compare.specs.Marked.{unmarked_items}
use Rattle.sudoers_review_users.specs.declared.changed_rules.ChangedRules.{ChangedRules}
use Rattle.sudoers_review_users.specs.declared.compared_policies.ComparedPolicies.{ComparedPolicies}
use Rattle.sudoers_review_users.specs.declared.examples.UserReview.{UserReview}

-- the policies that are compared
abbrev pub old_policy : ComparedPolicies → LoadedPolicy
old_policy compared = compared.old.policy.now

abbrev pub new_policy : ComparedPolicies → LoadedPolicy
new_policy compared = compared.new.policy.now

-- They are held with their walks, and with their rows flat.
pub record IsReadyComparison (compared : ComparedPolicies) : Type 0 where
  pub old_rows : placed_rows_of_flat_specs compared.old.tables.now compared.old.specs.items ≡ placed_rows_of_policy (old_policy compared).walk.lines
  pub old_walk : compared.old_walk ≡ (old_policy compared).walk.lines
  pub new_rows : placed_rows_of_flat_specs compared.new.tables.now compared.new.specs.items ≡ placed_rows_of_policy (new_policy compared).walk.lines
  pub new_walk : compared.new_walk ≡ (new_policy compared).walk.lines

-- The names of the users as whom commands run where the user names nobody are those of the policies.
pub record IsReadyReview (who : Who) (review : UserReview) : Type 0 where
  pub policies : IsReadyComparison review.compared.now
  pub old_default : IsRunasDefault (old_policy review.compared.now).walk.lines who review.old_default.now
  pub new_default : IsRunasDefault (new_policy review.compared.now).walk.lines who review.new_default.now

-- These are the rows of the policies, and those without a mark are the same in both.
pub record AreChangedRules (compared : ComparedPolicies) (rules : ChangedRules) : Type 0 where
  pub old_rows : map placed_row_of_view rules.old_rows.items ≡ placed_rows_of_policy (old_policy compared).walk.lines
  pub new_rows : map placed_row_of_view rules.new_rows.items ≡ placed_rows_of_policy (new_policy compared).walk.lines
  pub same : unmarked_items rules.marks.gone.items (map row_of_placed_view rules.old_rows.items) ≡ unmarked_items rules.marks.came.items (map row_of_placed_view rules.new_rows.items)
