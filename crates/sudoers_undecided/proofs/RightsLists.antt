-- All lists of the rights of a user, and the members that they name.
use Rattle.std.proofs.Common.{◌≡◌, ◌⊎◌, inl, inr, List, [], refl}
use Rattle.sudoers_grammar.specs.declared.node.Kind.TheVariants.{User, Host}
use Rattle.sudoers_tree.specs.Line.{Line}
use Rattle.sudoers_match_member.specs.declared.request.Request.{Request}
use Rattle.sudoers_match_list.specs.Flat.{SignedAtom}
use Rattle.sudoers_match.specs.Specs.{user_specs_of_lines}
use Rattle.sudoers_undecided.specs.declared.decided_aliases.DecidedAliases.{DecidedAliases}
use Rattle.sudoers_undecided.specs.declared.request_part.RequestPart.{RequestPart}
use Rattle.sudoers_undecided.specs.declared.undecided_member.UndecidedMember.{UndecidedMember}
use Rattle.sudoers_undecided.specs.declared.user_and_host_lists.UserAndHostLists.{UserAndHostLists}
use Rattle.sudoers_undecided.specs.declared.wanted_members.CountedList.{CountedList}
use Rattle.sudoers_undecided.specs.FoundMembers.{IsUndecidedMemberOfRights}
use Rattle.sudoers_undecided.specs.ListSway.{is_bare_and_undecided}
use Rattle.sudoers_undecided.specs.MatchTests.{match_tests_of_request, undecided_by_files_or_paths}
use Rattle.sudoers_undecided.specs.UndecidedListing.{IsUndecidedInRights}
use Rattle.sudoers_undecided.specs.internal.Collected.{IsMemberOfLists}
use Rattle.sudoers_undecided.specs.internal.Counted.{AreHostAliases, AreUserAliases}
use Rattle.sudoers_undecided.specs.internal.Rights.{AddsListsOfLines, AddsListsOfSpecs, AreListsOfRights, CouldTurnHostsOfRights, CouldTurnHostsOfSpec, CouldTurnLineOfKind, CouldTurnOneOf, CouldTurnUsersOfRights, CouldTurnUsersOfSpec}
use Rattle.sudoers_undecided.specs.internal.Wanted.{AreFlat, IsWantedOfLists}
use Rattle.sudoers_undecided.proofs.Listed.{wanted_as_decided}
use Rattle.sudoers_undecided.proofs.ScopeLists.{defaults_of_users_or_hosts, defaults_turn}
use Rattle.sudoers_undecided.proofs.UserAndHostLists.{added_atom_turns, added_lists_flat, added_on}

module _ (lines : List Line) (r : Request) where
  abbrev AreWantedUsers : List CountedList → SignedAtom → Type 0
  AreWantedUsers lists s = IsWantedOfLists User lines (is_bare_and_undecided (undecided_by_files_or_paths r).user) (match_tests_of_request r).user lists s

  abbrev AreWantedHosts : List CountedList → SignedAtom → Type 0
  AreWantedHosts lists s = IsWantedOfLists Host lines (is_bare_and_undecided (undecided_by_files_or_paths r).host) (match_tests_of_request r).host lists s

  pub lists_of_rights : (empty c e : UserAndHostLists) → AddsListsOfSpecs lines r (user_specs_of_lines lines) empty c → AddsListsOfLines lines r lines c e → AreListsOfRights lines r empty e
  lists_of_rights empty c e specs scopes = record {
    users = added_on User lines (undecided_by_files_or_paths r).user (match_tests_of_request r).user (CouldTurnOneOf (CouldTurnUsersOfSpec lines r) (user_specs_of_lines lines)) (CouldTurnOneOf (CouldTurnLineOfKind User lines r) lines)
        (CouldTurnUsersOfRights lines r) empty.users.items c.users.items e.users.items (λ s t. t) (λ s t. inl t) (λ s t. inr t) specs.users scopes.users;
    hosts = added_on Host lines (undecided_by_files_or_paths r).host (match_tests_of_request r).host (CouldTurnOneOf (CouldTurnHostsOfSpec lines r) (user_specs_of_lines lines)) (CouldTurnOneOf (CouldTurnLineOfKind Host lines r) lines)
        (CouldTurnHostsOfRights lines r) empty.hosts.items c.hosts.items e.hosts.items (λ s t. t) (λ s t. inl t) (λ s t. inr t) specs.hosts scopes.hosts;
  }

  -- an atom that was not decided could turn a list of users or of hosts
  undecided_in_users_or_hosts : (s : SignedAtom) → IsUndecidedInRights lines (undecided_by_files_or_paths r) (match_tests_of_request r) s → CouldTurnUsersOfRights lines r s ⊎ CouldTurnHostsOfRights lines r s
  undecided_in_users_or_hosts s (inl (spec, u)) = elim u.turns as (λ _. CouldTurnUsersOfRights lines r s ⊎ CouldTurnHostsOfRights lines r s) [
    | inl t ↦ inl (inl (record { item = spec; stands = u.stands; turns = t }))
    | inr t ↦ inr (inl (record { item = spec; stands = u.stands; turns = record { allows = t.0; turns = record { item = t.1.0; stands = t.1.1; turns = t.1.2 } } }))
  ]
  undecided_in_users_or_hosts s (inr (line, u)) = elim (defaults_of_users_or_hosts lines r line.node s u.turns) as (λ _. CouldTurnUsersOfRights lines r s ⊎ CouldTurnHostsOfRights lines r s) [
    | inl t ↦ inl (inr (record { item = line; stands = u.stands; turns = t }))
    | inr t ↦ inr (inr (record { item = line; stands = u.stands; turns = t }))
  ]

  users_are_undecided : (s : SignedAtom) → CouldTurnUsersOfRights lines r s → IsUndecidedInRights lines (undecided_by_files_or_paths r) (match_tests_of_request r) s
  users_are_undecided s (inl t) = inl (t.item, record { stands = t.stands; turns = inl t.turns })
  users_are_undecided s (inr t) = inr (t.item, record { stands = t.stands; turns = defaults_turn lines r User t.item.node s t.turns })

  hosts_are_undecided : (s : SignedAtom) → CouldTurnHostsOfRights lines r s → IsUndecidedInRights lines (undecided_by_files_or_paths r) (match_tests_of_request r) s
  hosts_are_undecided s (inl t) = let g = t.turns.turns in inl (t.item, record { stands = t.stands; turns = inr (t.turns.allows, (g.item, g.stands, g.turns)) })
  hosts_are_undecided s (inr t) = inr (t.item, record { stands = t.stands; turns = defaults_turn lines r Host t.item.node s t.turns })

  module _ (empty lists : UserAndHostLists) (no_users : empty.users.items ≡ []) (no_hosts : empty.hosts.items ≡ []) (are : AreListsOfRights lines r empty lists) where
    pub undecided_atom_is_wanted : (s : SignedAtom) → IsUndecidedInRights lines (undecided_by_files_or_paths r) (match_tests_of_request r) s → AreWantedUsers lists.users.items s ⊎ AreWantedHosts lists.hosts.items s
    undecided_atom_is_wanted s u = elim (undecided_in_users_or_hosts s u) as (λ _. AreWantedUsers lists.users.items s ⊎ AreWantedHosts lists.hosts.items s) [
      | inl t ↦ inl (are.users.each s t)
      | inr t ↦ inr (are.hosts.each s t)
    ]

    pub users_are_flat : AreFlat User lines lists.users.items
    users_are_flat = added_lists_flat User lines (undecided_by_files_or_paths r).user (match_tests_of_request r).user (CouldTurnUsersOfRights lines r) empty.users.items lists.users.items no_users are.users

    pub hosts_are_flat : AreFlat Host lines lists.hosts.items
    hosts_are_flat = added_lists_flat Host lines (undecided_by_files_or_paths r).host (match_tests_of_request r).host (CouldTurnHostsOfRights lines r) empty.hosts.items lists.hosts.items no_hosts are.hosts

    pub user_member_is_undecided : (d : DecidedAliases) → AreUserAliases lines r d → (others : List CountedList) → others ≡ lists.users.items → (p : RequestPart) (u : UndecidedMember) → IsMemberOfLists lines d p others u
        → IsUndecidedMemberOfRights lines r u
    user_member_is_undecided d a others same p u m = record {
      atom = m.atom;
      is_undecided = users_are_undecided m.atom
          (added_atom_turns User lines (undecided_by_files_or_paths r).user (match_tests_of_request r).user (CouldTurnUsersOfRights lines r) empty.users.items lists.users.items no_users are.users m.atom
          (wanted_as_decided lines User _ _ d a lists.users.items others same m.atom m.is_wanted));
      is = record { part = refl; atom = m.is.atom; digests = m.is.digests };
    }

    pub host_member_is_undecided : (d : DecidedAliases) → AreHostAliases lines r d → (others : List CountedList) → others ≡ lists.hosts.items → (p : RequestPart) (u : UndecidedMember) → IsMemberOfLists lines d p others u
        → IsUndecidedMemberOfRights lines r u
    host_member_is_undecided d a others same p u m = record {
      atom = m.atom;
      is_undecided = hosts_are_undecided m.atom
          (added_atom_turns Host lines (undecided_by_files_or_paths r).host (match_tests_of_request r).host (CouldTurnHostsOfRights lines r) empty.hosts.items lists.hosts.items no_hosts are.hosts m.atom
          (wanted_as_decided lines Host _ _ d a lists.hosts.items others same m.atom m.is_wanted));
      is = record { part = refl; atom = m.is.atom; digests = m.is.digests };
    }
