use Rattle.std.proofs.Common.{◌≡◌, ◌⊎◌, true, inl, inr}
use Rattle.sudoers_grammar.specs.declared.node.Kind.TheVariants.{User, Host}
use Rattle.sudoers_check.specs.Chain.{ListHasElement}
use Rattle.sudoers_match_list.specs.Flat.{SignedAtom}
use Rattle.sudoers_undecided.specs.declared.request_part.RequestPart.TheVariants.{RunasUsers}
use Rattle.sudoers_undecided.specs.FoundMembers.{HasAtomInPart, IsAtomInPart}
use Rattle.sudoers_undecided.specs.internal.Counted.{IsWantedOfScopes}
use Rattle.sudoers_undecided.proofs.Listed.{flat_by_decided, found_kept, wanted_as_decided, wanted_by_decided}
use Rattle.sudoers_undecided.proofs.listing.append_members_of_scopes.Goals as goal

pub returns-clause-kept : goal.returns-clause-kept
returns-clause-kept c u h = c.in_ok-append_members-2.ensures.kept u (c.in_ok-append_members.ensures.kept u h)

pub returns-clause-found : goal.returns-clause-found
returns-clause-found c _ s w =
    let asked = c.args.asked.now in
    let a = c.requires.asked.aliases in
    let scopes = asked.scopes.now in
    let first = c.append_members.new.found.items in
    let second = c.append_members-2.new.found.items in
    elim w as (λ _. HasAtomInPart second RunasUsers s) [
      | inl x ↦ found_kept first second RunasUsers s c.in_ok-append_members-2.ensures.kept
          (c.in_ok-append_members.ensures.found s (wanted_by_decided asked.policy.now User _ _ asked.aliases.now.users a.users scopes.users.items c.as_slice-users.result.now c.as_slice-users.ensures.value s x))
      | inr x ↦ c.in_ok-append_members-2.ensures.found s (wanted_by_decided asked.policy.now Host _ _ asked.aliases.now.hosts a.hosts scopes.hosts.items c.as_slice-hosts.result.now c.as_slice-hosts.ensures.value s x)
    ]

pub returns-clause-only : goal.returns-clause-only
returns-clause-only c u h =
    let asked = c.args.asked.now in
    let lines = asked.policy.now in
    let a = c.requires.asked.aliases in
    let turned = c.requires.asked.turned_scopes in
    let scopes = asked.scopes.now in
    let users = c.as_slice-users.result.now in
    let hosts = c.as_slice-hosts.result.now in
    let flat_users = flat_by_decided lines User _ _ asked.aliases.now.users a.users scopes.users.items users c.as_slice-users.ensures.value (λ l x. let w = turned.users l x in record { flat = w.1.flat; is_flat = w.1.is_flat }) in
    let flat_hosts = flat_by_decided lines Host _ _ asked.aliases.now.hosts a.hosts scopes.hosts.items hosts c.as_slice-hosts.ensures.value (λ l x. let w = turned.hosts l x in record { flat = w.1.flat; is_flat = w.1.is_flat }) in
    elim (c.in_ok-append_members-2.ensures.only flat_hosts u h) as (λ _. ListHasElement c.args.found.now.items u ⊎ ((c.args.wanted ≡ true) × ((s : SignedAtom) × IsWantedOfScopes lines asked.request.now scopes s × IsAtomInPart RunasUsers s u))) [
      | inl before ↦ elim (c.in_ok-append_members.ensures.only flat_users u before) as (λ _. ListHasElement c.args.found.now.items u ⊎ ((c.args.wanted ≡ true) × ((s : SignedAtom) × IsWantedOfScopes lines asked.request.now scopes s × IsAtomInPart RunasUsers s u))) [
        | inl old ↦ inl old
        | inr m ↦ inr (c.if-not-wanted.false, (m.atom, inl (wanted_as_decided lines User _ _ asked.aliases.now.users a.users scopes.users.items users c.as_slice-users.ensures.value m.atom m.is_wanted), m.is))
      ]
      | inr m ↦ inr (c.if-not-wanted.false, (m.atom, inr (wanted_as_decided lines Host _ _ asked.aliases.now.hosts a.hosts scopes.hosts.items hosts c.as_slice-hosts.ensures.value m.atom m.is_wanted), m.is))
    ]
