use Rattle.sudoers_match.proofs.Common.{DecidesWhetherListAllows, Line, List, ListAllows, Member, Runas, [], ap, false, is_user_atom_match, map, member_in_tables, members_of_view, Option, RunasSpec, option_map, refl, runas_of_view, subst, sym, ◌∙◌, ◌∷◌, ◌≡◌}
use Rattle.sudoers_match_member.specs.declared.people_and_commands.Person.{Person}
use Rattle.sudoers_match.specs.internal.AnyUser.{RunasSpecMayAllow, RunasUsersMayAllow}
use Rattle.sudoers_match.proofs.Runases.{mapped_nonempty_list_is_not_empty, property_of_ok_result_is_weakened}
use Rattle.sudoers_match.proofs.specs_for_users.may_run_as_target.Goals as goal

users_may_not : (lines : List Line) (target : Person) (us : List Member) → (us ≡ [] → ⊥) → (ListAllows Runas lines (is_user_atom_match target) us → ⊥) → RunasUsersMayAllow lines target us → ⊥
users_may_not lines target [] some none may = some refl
users_may_not lines target (u ∷ us) some none may = none may

pub returns-clause-other : goal.returns-clause-other
returns-clause-other c =
    let asked = c.args.asked.now in
    let lines = asked.policy.now in
    let target = asked.request.now.target in
    let spec = c.in-Some.runas in
    let us = members_of_view spec.users in
    property_of_ok_result_is_weakened c.allows_requested_user.result
    (λ may decides. λ e allows. users_may_not lines target us (mapped_nonempty_list_is_not_empty (member_in_tables spec.users.tables.now) spec.users.rows.now c.is_empty.result c.is_empty.ensures c.if-is_empty.false)
    (subst (DecidesWhetherListAllows Runas lines (is_user_atom_match target) us) e decides)
    (subst (λ (o : Option RunasSpec). RunasSpecMayAllow lines target o) (ap (option_map runas_of_view) c.in-Some.is) (allows c.if-not-of_target.false)))
    c.allows_requested_user.ensures.permits
