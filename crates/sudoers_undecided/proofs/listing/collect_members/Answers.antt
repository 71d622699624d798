use Rattle.std.proofs.Common.{inl, inr, subst}
use Rattle.sudoers_check.specs.Chain.{ListHasElement}
use Rattle.sudoers_match.proofs.Existing.{some_rows}
use Rattle.sudoers_match_list.proofs.Exists.{list_is_flat_or_leads_to_cycle}
use Rattle.sudoers_undecided.specs.FoundMembers.{IsUndecidedMember}
use Rattle.sudoers_undecided.specs.internal.Counted.{CoversRows}
use Rattle.sudoers_undecided.proofs.Loops.{covers_at}
use Rattle.sudoers_undecided.proofs.listing.collect_members.Goals as goal

pub returns-clause-each : goal.returns-clause-each
returns-clause-each c row p s u =
    let asked = c.args.asked.now in
    let at = u.not_passed in
    c.in_ok-append_members_of_counted.ensures.found p s
    (covers_at asked.policy.now asked.request.now asked.scopes.now c.in_ok-counted.counted at.before at.after row
    (subst (CoversRows asked.policy.now asked.request.now asked.scopes.now c.in_ok-counted.counted) at.stands (c.in_ok-counted.ensures.covers at.rows at.are_rows)) at.none_behind p s u.could)

pub returns-clause-only : goal.returns-clause-only
returns-clause-only c u h =
    let asked = c.args.asked.now in
    let lines = asked.policy.now in
    let w = some_rows list_is_flat_or_leads_to_cycle lines c.is_acyclic.ensures.straight in
    elim (c.in_ok-append_members_of_counted.ensures.only (c.in_ok-counted.ensures.flats w.0 w.1) u h) as (λ _. IsUndecidedMember lines asked.request.now u) [
      | inl before ↦ absurd (subst (λ us. ListHasElement us u) c.new-found.ensures.items before)
      | inr named ↦
          let one = c.in_ok-counted.ensures.only w.0 w.1 u.part named.0 named.1 in
          record {
            row = one.row;
            atom = named.0;
            is_undecided = record { not_passed = record { rows = w.0; are_rows = w.1; before = one.before; after = one.after; stands = one.stands; none_behind = one.none_behind }; could = one.could };
            is = named.2;
          }
    ]
