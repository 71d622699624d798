use Rattle.sudoers_match.proofs.Common.{AreRowsPerFlatAtomOfHostGroup, Has_at, HostGroup, IfSome, IsAnswerOfRowsSoFar, HasMemberAndSettingsFromSpecAtNumber, answer_without_member_and_settings, ap, arith, command_test_of_context, drop, drop_all}
use Rattle.sudoers_match.proofs.Common.{host_group_in_tables, host_group_of_view, host_groups_of_view, length-map, map, option_map, subst, sym, ◌+◌, ◌∙◌}
use Rattle.sudoers_match.proofs.Founds.{answer_in_group_is_found_in_spec, some_or, some_then}
use Rattle.sudoers_match.proofs.Gathered.{mapped_row_is_at_its_index, list_from_index_is_element_and_rest}
use Rattle.sudoers_match.proofs.Lasts.{option_map_distributes_over_option_or}
use Rattle.sudoers_match.proofs.Rowed.{so_far_more, so_far_all, so_far_none}
use Rattle.sudoers_match.proofs.last_row.find_last_fit_in_host_groups.Goals as goal

pub loop-host_group-init : goal.loop-host_group-init
loop-host_group-init c =
    let lines = c.args.asked.now.policy.now in
    let groups = c.args.groups.now in
    record {
      question = c.requires.question;
      so_far = λ users user. so_far_none lines (command_test_of_context c.args.asked.now) c.args.asked.now.request.now (AreRowsPerFlatAtomOfHostGroup lines c.args.spec users) (map (host_group_in_tables groups.tables.now) groups.rows.now);
      found = tt;
    }

pub find_last_fit_in_host_group-requires-clause-straight : goal.find_last_fit_in_host_group-requires-clause-straight
find_last_fit_in_host_group-requires-clause-straight c =
    let groups = c.args.groups.now in
    let g : HostGroup = host_group_of_view c.host_group_of_row-group.result in
    c.requires.groups g (Has_at (host_groups_of_view groups) c.loop-host_group.host_group g
    (mapped_row_is_at_its_index (host_group_in_tables groups.tables.now) groups.rows.now c.loop-host_group.host_group _ c.loop-host_group-test.true g c.host_group_of_row-group.ensures))

pub loop-host_group-preserved : goal.loop-host_group-preserved
loop-host_group-preserved c =
    let lines = c.args.asked.now.policy.now in
    let r = c.args.asked.now.request.now in
    let test = command_test_of_context c.args.asked.now in
    let groups = c.args.groups.now in
    let gs = host_groups_of_view groups in
    let i = c.loop-host_group.host_group in
    let g : HostGroup = host_group_of_view c.host_group_of_row-group.result in
    let at = mapped_row_is_at_its_index (host_group_in_tables groups.tables.now) groups.rows.now i _ c.loop-host_group-test.true g c.host_group_of_row-group.ensures in
    record {
      question = c.in_ok-in_group.ensures.kept;
      so_far = λ users user.
          let Part = AreRowsPerFlatAtomOfHostGroup lines c.args.spec users in
          subst (IsAnswerOfRowsSoFar Part lines test r gs (i + 1) (drop (i + 1) gs))
          (sym (ap (option_map answer_without_member_and_settings) c.or-latest.ensures ∙ option_map_distributes_over_option_or answer_without_member_and_settings c.in_ok-in_group.in_group c.loop-host_group.latest))
          (so_far_more lines test r Part gs i g (drop i gs) (drop (i + 1) gs) (option_map answer_without_member_and_settings c.loop-host_group.latest) (option_map answer_without_member_and_settings c.in_ok-in_group.in_group)
          (list_from_index_is_element_and_rest gs i g at) (c.loop-host_group.invariant.so_far users user) (λ rows p. c.in_ok-in_group.ensures.answer users user rows p));
      found = subst (λ o. IfSome o (HasMemberAndSettingsFromSpecAtNumber c.args.line c.args.spec gs)) (sym c.or-latest.ensures)
          (some_or (HasMemberAndSettingsFromSpecAtNumber c.args.line c.args.spec gs) c.in_ok-in_group.in_group c.loop-host_group.latest
          (some_then _ (HasMemberAndSettingsFromSpecAtNumber c.args.line c.args.spec gs) (answer_in_group_is_found_in_spec c.args.line c.args.spec i gs g at) c.in_ok-in_group.in_group c.in_ok-in_group.ensures.found)
          c.loop-host_group.invariant.found);
    }

pub returns-clause-answer : goal.returns-clause-answer
returns-clause-answer c users user rows p =
    let groups = c.args.groups.now in
    let gs = host_groups_of_view groups in
    let i = c.loop-host_group.host_group in
    so_far_all c.args.asked.now.policy.now (command_test_of_context c.args.asked.now) c.args.asked.now.request.now (AreRowsPerFlatAtomOfHostGroup c.args.asked.now.policy.now c.args.spec users) gs
    i (drop i gs) (option_map answer_without_member_and_settings c.loop-host_group.latest)
    (drop_all i gs (omega (arith, c.loop-host_group-test.false, length-map groups.rows.now (host_group_in_tables groups.tables.now)))) (c.loop-host_group.invariant.so_far users user) rows p
