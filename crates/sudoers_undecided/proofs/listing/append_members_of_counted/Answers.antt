use Rattle.std.proofs.Common.{◌⊎◌, inl, inr}
use Rattle.sudoers_grammar.specs.declared.node.Kind.TheVariants.{User, Host, Runas, Cmnd}
use Rattle.sudoers_check.specs.Chain.{ListHasElement}
use Rattle.sudoers_match_list.specs.Flat.{SignedAtom}
use Rattle.sudoers_undecided.specs.declared.request_part.RequestPart.{RequestPart}
use Rattle.sudoers_undecided.specs.declared.request_part.RequestPart.TheVariants as part
use Rattle.sudoers_undecided.specs.FoundMembers.{HasAtomInPart}
use Rattle.sudoers_undecided.specs.internal.Counted.{CoversAtom}
use Rattle.sudoers_undecided.proofs.Listed.{AddsOnlyNamed, IsNamedMember, adds_named_of_groups, adds_named_of_lists, adds_on, found_kept, named_in_part, wanted_by_decided, wanted_of_group}
use Rattle.sudoers_undecided.proofs.Standings.{group_aliases_are_decided}
use Rattle.sudoers_undecided.proofs.listing.append_members_of_counted.Goals as goal

pub append_members-requires-4-clause-aliases : goal.append_members-requires-4-clause-aliases
append_members-requires-4-clause-aliases c =
    let asked = c.args.asked.now in
    group_aliases_are_decided asked.policy.now asked.request.now asked.request.now.target_group asked.aliases.now.groups c.requires.asked.aliases.groups

pub returns-clause-found : goal.returns-clause-found
returns-clause-found c = by
  where
    by : (p : RequestPart) (s : SignedAtom) → CoversAtom c.args.asked.now.policy.now c.args.asked.now.request.now c.args.asked.now.scopes.now c.args.counted.now p s → HasAtomInPart c.append_members_of_scopes.new.found.items p s
    by part.Users s w =
        let asked = c.args.asked.now in
        found_kept c.append_members.new.found.items c.append_members_of_scopes.new.found.items part.Users s
        (λ u h. c.in_ok-append_members_of_scopes.ensures.kept u (c.in_ok-append_members-5.ensures.kept u (c.in_ok-append_members-4.ensures.kept u (c.in_ok-append_members-3.ensures.kept u (c.in_ok-append_members-2.ensures.kept u h)))))
        (c.in_ok-append_members.ensures.found s (wanted_by_decided asked.policy.now User _ _ asked.aliases.now.users c.requires.asked.aliases.users c.args.counted.now.users.items c.as_slice-lists.result.now c.as_slice-lists.ensures.value s w))
    by part.Hosts s w =
        let asked = c.args.asked.now in
        found_kept c.append_members-2.new.found.items c.append_members_of_scopes.new.found.items part.Hosts s
        (λ u h. c.in_ok-append_members_of_scopes.ensures.kept u (c.in_ok-append_members-5.ensures.kept u (c.in_ok-append_members-4.ensures.kept u (c.in_ok-append_members-3.ensures.kept u h))))
        (c.in_ok-append_members-2.ensures.found s (wanted_by_decided asked.policy.now Host _ _ asked.aliases.now.hosts c.requires.asked.aliases.hosts c.args.counted.now.hosts.items c.as_slice-lists-2.result.now c.as_slice-lists-2.ensures.value s w))
    by part.RunasUsers s (inl w) =
        let asked = c.args.asked.now in
        found_kept c.append_members-3.new.found.items c.append_members_of_scopes.new.found.items part.RunasUsers s
        (λ u h. c.in_ok-append_members_of_scopes.ensures.kept u (c.in_ok-append_members-5.ensures.kept u (c.in_ok-append_members-4.ensures.kept u h)))
        (c.in_ok-append_members-3.ensures.found s (wanted_by_decided asked.policy.now Runas _ _ asked.aliases.now.targets c.requires.asked.aliases.targets c.args.counted.now.runas_users.items c.as_slice-lists-3.result.now c.as_slice-lists-3.ensures.value s w))
    by part.RunasUsers s (inr w) = c.in_ok-append_members_of_scopes.ensures.found w.0 s w.1
    by part.RunasGroups s w =
        let asked = c.args.asked.now in
        found_kept c.append_members-4.new.found.items c.append_members_of_scopes.new.found.items part.RunasGroups s
        (λ u h. c.in_ok-append_members_of_scopes.ensures.kept u (c.in_ok-append_members-5.ensures.kept u h))
        (c.in_ok-append_members-4.ensures.found s (wanted_of_group asked.policy.now asked.request.now asked.request.now.target_group asked.aliases.now.groups c.requires.asked.aliases.groups c.args.counted.now.runas_groups.items c.as_slice-lists-4.result.now c.as_slice-lists-4.ensures.value s w))
    by part.Moment s w = absurd w
    by part.Command s w =
        let asked = c.args.asked.now in
        found_kept c.append_members-5.new.found.items c.append_members_of_scopes.new.found.items part.Command s c.in_ok-append_members_of_scopes.ensures.kept
        (c.in_ok-append_members-5.ensures.found s (wanted_by_decided asked.policy.now Cmnd _ _ asked.aliases.now.commands c.requires.asked.aliases.commands c.args.counted.now.commands.items c.as_slice-lists-5.result.now c.as_slice-lists-5.ensures.value s w))

pub returns-clause-only : goal.returns-clause-only
returns-clause-only c flat u h =
    let asked = c.args.asked.now in
    let lines = asked.policy.now in
    let a = c.requires.asked.aliases in
    let aliases = asked.aliases.now in
    let counted = c.args.counted.now in
    let Named : RequestPart → SignedAtom → Type 0 = CoversAtom lines asked.request.now asked.scopes.now counted in
    let start = c.args.found.now.items in
    let users = c.append_members.new.found.items in
    let hosts = c.append_members-2.new.found.items in
    let targets = c.append_members-3.new.found.items in
    let groups = c.append_members-4.new.found.items in
    let commands = c.append_members-5.new.found.items in
    let scopes : AddsOnlyNamed Named commands c.append_members_of_scopes.new.found.items =
    λ v there. elim (c.in_ok-append_members_of_scopes.ensures.only v there) as (λ _. ListHasElement commands v ⊎ IsNamedMember Named v) [
      | inl before ↦ inl before
      | inr new ↦ inr (named_in_part Named part.RunasUsers v new.1.0 (inr (new.0, new.1.1)) new.1.2)
    ] in
    adds_on Named start users c.append_members_of_scopes.new.found.items
    (adds_named_of_lists Named lines User _ _ aliases.users a.users part.Users counted.users.items c.as_slice-lists.result.now c.as_slice-lists.ensures.value (λ s w. w) flat.users start users c.in_ok-append_members.ensures.only)
    (adds_on Named users hosts c.append_members_of_scopes.new.found.items
    (adds_named_of_lists Named lines Host _ _ aliases.hosts a.hosts part.Hosts counted.hosts.items c.as_slice-lists-2.result.now c.as_slice-lists-2.ensures.value (λ s w. w) flat.hosts users hosts c.in_ok-append_members-2.ensures.only)
    (adds_on Named hosts targets c.append_members_of_scopes.new.found.items
    (adds_named_of_lists Named lines Runas _ _ aliases.targets a.targets part.RunasUsers counted.runas_users.items c.as_slice-lists-3.result.now c.as_slice-lists-3.ensures.value (λ s w. inl w) flat.runas_users hosts targets
    c.in_ok-append_members-3.ensures.only)
    (adds_on Named targets groups c.append_members_of_scopes.new.found.items
    (adds_named_of_groups Named lines asked.request.now asked.request.now.target_group aliases.groups a.groups part.RunasGroups counted.runas_groups.items c.as_slice-lists-4.result.now c.as_slice-lists-4.ensures.value (λ s w. w) flat.runas_groups
    targets groups c.in_ok-append_members-4.ensures.only c.in_ok-append_members-4.ensures.undecided)
    (adds_on Named groups commands c.append_members_of_scopes.new.found.items
    (adds_named_of_lists Named lines Cmnd _ _ aliases.commands a.commands part.Command counted.commands.items c.as_slice-lists-5.result.now c.as_slice-lists-5.ensures.value (λ s w. w) flat.commands groups commands
    c.in_ok-append_members-5.ensures.only) scopes)))) u h
