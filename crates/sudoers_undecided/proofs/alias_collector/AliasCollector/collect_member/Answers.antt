use Rattle.std.proofs.Common.{◌≡◌, ◌∙◌, ◌&&◌, Some, None, length, sym, ap, subst, arith}
use Rattle.sudoers_line_rows.specs.View.{member_of_view}
use Rattle.sudoers_match_list.specs.Flat.{has_no_digests}
use Rattle.sudoers_match_list.specs.Search.{alias_number_of_atom, members_of_definition_number}
use Rattle.sudoers_match_list.proofs.Numbered.{number_within}
use Rattle.sudoers_undecided.specs.declared.decided_aliases.DecidedAliases.{DecidedAliases}
use Rattle.sudoers_undecided.specs.internal.Collected.{AreWantedOfLists, IsAsked, IsMissedAlias}
use Rattle.sudoers_undecided.specs.internal.Decided.{matched_by}
use Rattle.sudoers_undecided.proofs.Asking.{asked_member_is_handled, matching_alias, matching_member, plain_member_is_handled, stays_collector}
use Rattle.sudoers_undecided.proofs.Origins.{alias_is_wanted, missed_alias_matches_nothing, plain_member_matches_nothing}
use Rattle.sudoers_undecided.proofs.alias_collector.AliasCollector.collect_member.Goals as goal

pub ask_alias-requires : goal.ask_alias-requires
ask_alias-requires c =
    let k = c.args.self.now.aliases.now.kind in
    let m = member_of_view c.args.member.now in
    let is : alias_number_of_atom k c.args.numbers.now.walk m.atom ≡ Some c.in-Some.number = sym c.find_number_of_alias_atom.ensures ∙ c.in-Some.is in
    omega (arith, number_within k c.args.numbers.now.walk m.atom c.in-Some.number is, c.requires.size)

pub matches_alias-requires : goal.matches_alias-requires
matches_alias-requires c =
    let k = c.args.self.now.aliases.now.kind in
    let m = member_of_view c.args.member.now in
    let is : alias_number_of_atom k c.args.numbers.now.walk m.atom ≡ Some c.in-Some.number = sym c.find_number_of_alias_atom.ensures ∙ c.in-Some.is in
    omega (
      arith,
      number_within k c.args.numbers.now.walk m.atom c.in-Some.number is,
      c.requires.decided.holds.size,
      ap (λ (d : DecidedAliases). length d.sways.items) c.in_ok-ask_alias-in-Some.ensures.more.keeps.aliases,
    )

pub returns-in_ok-ask_alias-in-Some-clause-handled : goal.returns-in_ok-ask_alias-in-Some-clause-handled
returns-in_ok-ask_alias-in-Some-clause-handled c =
    let m = member_of_view c.args.member.now in
    asked_member_is_handled c.args.numbers.now.walk c.args.self.now c.ask_alias.new.self c.in_ok-ask_alias-in-Some.ensures.more.keeps c.args.wanted m c.in-Some.number (sym c.find_number_of_alias_atom.ensures ∙ c.in-Some.is)
    (subst (IsAsked c.ask_alias.new.self.marks.items c.in-Some.number) c.turn_if_negated.ensures c.in_ok-ask_alias-in-Some.ensures.asked)

pub returns-in_ok-ask_alias-in-Some-clause-hit : goal.returns-in_ok-ask_alias-in-Some-clause-hit
returns-in_ok-ask_alias-in-Some-clause-hit c e ms h =
    let lines = c.args.numbers.now.walk in
    let d = c.ask_alias.new.self.aliases.now in
    let keeps = c.in_ok-ask_alias-in-Some.ensures.more.keeps in
    let m = member_of_view c.args.member.now in
    let is : alias_number_of_atom d.kind lines m.atom ≡ Some c.in-Some.number = ap (λ (x : DecidedAliases). alias_number_of_atom x.kind lines m.atom) keeps.aliases ∙ sym c.find_number_of_alias_atom.ensures ∙ c.in-Some.is in
    let it = c.matches_alias.ensures.hit e in
    matching_alias lines d (stays_collector lines c.args.self.now c.ask_alias.new.self keeps c.requires).decided.holds m c.in-Some.number is it.sway it.at it.hit ms h

pub returns-in_ok-collect_plain_member-in-None-clause-handled : goal.returns-in_ok-collect_plain_member-in-None-clause-handled
returns-in_ok-collect_plain_member-in-None-clause-handled c =
    plain_member_is_handled c.args.numbers.now.walk c.args.self.now c.collect_plain_member.new.self c.in_ok-collect_plain_member-in-None.ensures.more.keeps c.args.wanted (member_of_view c.args.member.now)
    (sym c.find_number_of_alias_atom.ensures ∙ c.in-None.is) c.in_ok-collect_plain_member-in-None.ensures.found

pub returns-in_ok-collect_plain_member-in-None-clause-hit : goal.returns-in_ok-collect_plain_member-in-None-clause-hit
returns-in_ok-collect_plain_member-in-None-clause-hit c e ms h =
    let lines = c.args.numbers.now.walk in
    let d = c.collect_plain_member.new.self.aliases.now in
    let m = member_of_view c.args.member.now in
    let is : alias_number_of_atom d.kind lines m.atom ≡ None = ap (λ (x : DecidedAliases). alias_number_of_atom x.kind lines m.atom) c.in_ok-collect_plain_member-in-None.ensures.more.keeps.aliases ∙ sym c.find_number_of_alias_atom.ensures ∙ c.in-None.is in
    matching_member lines d m is (sym c.matches_member.ensures ∙ e) ms h

pub returns-in_ok-ask_alias-in-Some-clause-missed : goal.returns-in_ok-ask_alias-in-Some-clause-missed
returns-in_ok-ask_alias-in-Some-clause-missed c e =
    let lines = c.args.numbers.now.walk in
    let m = member_of_view c.args.member.now in
    missed_alias_matches_nothing lines c.args.self.now.aliases.now c.requires.decided m c.in-Some.number (sym c.find_number_of_alias_atom.ensures ∙ c.in-Some.is)
    (subst (λ d. IsMissedAlias d c.in-Some.number) c.in_ok-ask_alias-in-Some.ensures.more.keeps.aliases (c.matches_alias.ensures.missed e))

pub returns-in_ok-ask_alias-in-Some-clause-only : goal.returns-in_ok-ask_alias-in-Some-clause-only
returns-in_ok-ask_alias-in-Some-clause-only c lists wanted h =
    let lines = c.args.numbers.now.walk in
    let d = c.args.self.now.aliases.now in
    let m = member_of_view c.args.member.now in
    c.in_ok-ask_alias-in-Some.ensures.only lines lists
    (subst (AreWantedOfLists lines d lists (members_of_definition_number lines c.in-Some.number)) (sym c.turn_if_negated.ensures)
    (alias_is_wanted lines d lists c.args.wanted m c.in-Some.number (sym c.find_number_of_alias_atom.ensures ∙ c.in-Some.is) wanted)) h

pub returns-in_ok-collect_plain_member-in-None-clause-missed : goal.returns-in_ok-collect_plain_member-in-None-clause-missed
returns-in_ok-collect_plain_member-in-None-clause-missed c e =
    let lines = c.args.numbers.now.walk in
    let d = c.args.self.now.aliases.now in
    let m = member_of_view c.args.member.now in
    plain_member_matches_nothing lines d m (sym c.find_number_of_alias_atom.ensures ∙ c.in-None.is)
    (ap (λ (x : DecidedAliases). matched_by x m.atom && has_no_digests m.digests) (sym c.in_ok-collect_plain_member-in-None.ensures.more.keeps.aliases) ∙ sym c.matches_member.ensures ∙ e)
