use Rattle.std.proofs.Common.{◌⊎◌, inl, inr, ap, subst}
use Rattle.sudoers_check.specs.Chain.{ListHasElement}
use Rattle.sudoers_grammar.specs.declared.node.Kind.TheVariants.{User, Host}
use Rattle.sudoers_match_member.specs.declared.people_and_commands.Who.{Who}
use Rattle.sudoers_undecided.specs.declared.request_part.RequestPart.TheVariants.{Users, Hosts}
use Rattle.sudoers_undecided.specs.declared.user_and_host_lists.UserAndHostLists.{UserAndHostLists}
use Rattle.sudoers_undecided.specs.FoundMembers.{HasAtomInPart, IsUndecidedMemberOfRights}
use Rattle.sudoers_undecided.specs.internal.Decided.{DecidesAllAliases}
use Rattle.sudoers_undecided.proofs.Listed.{flat_by_decided, found_kept, permuted_has, permuted_has_no_other, wanted_by_decided}
use Rattle.sudoers_undecided.proofs.RightsLists.{host_member_is_undecided, hosts_are_flat, lists_of_rights, undecided_atom_is_wanted, user_member_is_undecided, users_are_flat}
use Rattle.sudoers_undecided.proofs.UserAndHostLists.{host_aliases_of_who, user_aliases_of_who}
use Rattle.sudoers_undecided.proofs.rights.list_undecided_members_of_rights.Goals as goal

pub returns-clause-each : goal.returns-clause-each
returns-clause-each c r e s u =
    let lines = c.args.policy.now in
    let users = c.in_ok-users.users in
    let hosts = c.in_ok-hosts.hosts in
    let a = user_aliases_of_who lines r _ users (ap (λ (w : Who). w.user) e) (subst (λ ls. DecidesAllAliases ls users) c.definition_numbers-numbers.ensures c.in_ok-users.ensures.all) c.in_ok-users.ensures.kind c.in_ok-users.ensures.question in
    let b = host_aliases_of_who lines r _ hosts e (subst (λ ls. DecidesAllAliases ls hosts) c.definition_numbers-numbers.ensures c.in_ok-hosts.ensures.all) c.in_ok-hosts.ensures.kind c.in_ok-hosts.ensures.question in
    let empty : UserAndHostLists = record { users = c.new-4.result; hosts = c.new-5.result } in
    let lists = c.append_lists_of_scopes.new.lists in
    let are = lists_of_rights lines r empty c.append_lists_of_specs.new.lists lists (c.in_ok-append_lists_of_specs.ensures r a b) (c.in_ok-append_lists_of_scopes.ensures r a b) in
    let found = c.append_members-2.new.found.items in
    let sorted = c.sort_by_key.new.self.items in
    let permuted = permuted_has found sorted c.in_ok-sort_by_key.ensures.permutation in
    elim (undecided_atom_is_wanted lines r empty lists c.new-4.ensures.items c.new-5.ensures.items are s u) as (λ _. HasAtomInPart sorted Users s ⊎ HasAtomInPart sorted Hosts s) [
      | inl w ↦ inl
          (found_kept c.append_members.new.found.items sorted Users s (λ m h. permuted m (c.in_ok-append_members-2.ensures.kept m h))
          (c.in_ok-append_members.ensures.found s (wanted_by_decided lines User _ _ users a lists.users.items c.as_slice-in_users.result.now c.as_slice-in_users.ensures.value s w)))
      | inr w ↦ inr
          (found_kept found sorted Hosts s permuted
          (c.in_ok-append_members-2.ensures.found s (wanted_by_decided lines Host _ _ hosts b lists.hosts.items c.as_slice-in_hosts.result.now c.as_slice-in_hosts.ensures.value s w)))
    ]

pub returns-clause-only : goal.returns-clause-only
returns-clause-only c r e u h =
    let lines = c.args.policy.now in
    let users = c.in_ok-users.users in
    let hosts = c.in_ok-hosts.hosts in
    let a = user_aliases_of_who lines r _ users (ap (λ (w : Who). w.user) e) (subst (λ ls. DecidesAllAliases ls users) c.definition_numbers-numbers.ensures c.in_ok-users.ensures.all) c.in_ok-users.ensures.kind c.in_ok-users.ensures.question in
    let b = host_aliases_of_who lines r _ hosts e (subst (λ ls. DecidesAllAliases ls hosts) c.definition_numbers-numbers.ensures c.in_ok-hosts.ensures.all) c.in_ok-hosts.ensures.kind c.in_ok-hosts.ensures.question in
    let empty : UserAndHostLists = record { users = c.new-4.result; hosts = c.new-5.result } in
    let lists = c.append_lists_of_scopes.new.lists in
    let no_users = c.new-4.ensures.items in
    let no_hosts = c.new-5.ensures.items in
    let are = lists_of_rights lines r empty c.append_lists_of_specs.new.lists lists (c.in_ok-append_lists_of_specs.ensures r a b) (c.in_ok-append_lists_of_scopes.ensures r a b) in
    let in_users = c.as_slice-in_users.result.now in
    let in_hosts = c.as_slice-in_hosts.result.now in
    let users_flat = flat_by_decided lines User _ _ users a lists.users.items in_users c.as_slice-in_users.ensures.value (users_are_flat lines r empty lists no_users no_hosts are) in
    let hosts_flat = flat_by_decided lines Host _ _ hosts b lists.hosts.items in_hosts c.as_slice-in_hosts.ensures.value (hosts_are_flat lines r empty lists no_users no_hosts are) in
    elim (c.in_ok-append_members-2.ensures.only hosts_flat u (permuted_has_no_other c.append_members-2.new.found.items c.sort_by_key.new.self.items c.in_ok-sort_by_key.ensures.permutation u h)) as (λ _. IsUndecidedMemberOfRights lines r u) [
      | inl before ↦ elim (c.in_ok-append_members.ensures.only users_flat u before) as (λ _. IsUndecidedMemberOfRights lines r u) [
        | inl none ↦ absurd (subst (λ us. ListHasElement us u) c.new-found.ensures.items none)
        | inr m ↦ user_member_is_undecided lines r empty lists no_users no_hosts are users a in_users c.as_slice-in_users.ensures.value Users u m
      ]
      | inr m ↦ host_member_is_undecided lines r empty lists no_users no_hosts are hosts b in_hosts c.as_slice-in_hosts.ensures.value Hosts u m
    ]
