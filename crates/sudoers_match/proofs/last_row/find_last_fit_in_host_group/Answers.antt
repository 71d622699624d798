use Rattle.sudoers_match.proofs.Common.{CmdSpec, Cmnd, CommandLeadsToNoCycle, DecidesWhetherListAllows, Has_at, HeadHeld, HoldsCommandSettings, Host, IfSome, IsAnswerOfCommandsSoFar, HasMemberAndSettingsFromGroupAtPlace}
use Rattle.sudoers_match.proofs.Common.{IsKnownRunasDecision, LeadsToNoCyclicAlias, None, Option, RunasSpecLeadsToNoCycle, AccumulatedCommandSettings, Some, [], answer_without_member_and_settings, answer_of_view, ap, arith, command_in_tables, command_test_of_context}
use Rattle.sudoers_match.proofs.Common.{command_of_view, commands_of_view, commands_with_settings, empty_command_settings, false, answer_with_member_and_settings, host_group_of_view, is_host_atom_match, is_some}
use Rattle.sudoers_match.proofs.Common.{length-map, map, member_in_tables, members_of_view, option_map, option_or, refl, runas_of_view, settings_after_command, subst, sym, true, true≢false, ◌+◌, ◌∙◌, ◌∷◌, ◌≡◌}
use Rattle.sudoers_line_rows.specs.declared.view.RunasSpec.{RunasSpec as RunasView}
use Rattle.sudoers_match.proofs.Founds.{answer_of_found_command_is_answer, answer_with_command_is_found_in_group, some_or}
use Rattle.sudoers_match.proofs.Gathered.{first_of_rest_is_element_at_index, mapped_row_is_at_its_index, list_from_index_is_element_and_rest}
use Rattle.sudoers_match.proofs.Lasts.{option_map_distributes_over_option_or}
use Rattle.sudoers_match.proofs.Rowed.{no_host, inherit_straight, list_none, list_more, list_all}
use Rattle.sudoers_match.proofs.last_row.find_last_fit_in_host_group.Goals as goal
use Rattle.sudoers_match.proofs.last_row.find_last_fit_in_host_group.Goals.{then-is_some, else-is_some}

-- A command without a Runas_Spec of its own keeps that of the commands before it.
kept_runas : (x : Option RunasView) (old new : HeadHeld) (before : AccumulatedCommandSettings) (cmd : CmdSpec) → is_some x ≡ false → cmd.runas ≡ option_map runas_of_view x
    → HoldsCommandSettings old before → HoldsCommandSettings new (settings_after_command before cmd) → option_map runas_of_view old.runas ≡ option_map runas_of_view new.runas
kept_runas None old new before cmd none is was now = was.runas ∙ sym (now.runas ∙ ap (λ r. option_or r before.runas) is)
kept_runas (Some x) old new before cmd none is was now = absurd (true≢false none)

pub returns-then-not-branch-clause-answer : goal.returns-then-not-branch-clause-answer
returns-then-not-branch-clause-answer c users user rows p =
    let lines = c.args.asked.now.policy.now in
    let r = c.args.asked.now.request.now in
    let g = host_group_of_view c.args.group.now in
    let says = c.in_ok-allows_host.ensures.allowed in
    let one = c.if-not-branch.true in
    no_host lines (command_test_of_context c.args.asked.now) r c.args.at.spec c.args.at.host_group users g rows
    (subst (DecidesWhetherListAllows Host lines (is_host_atom_match r.who) g.hosts) one says) p

pub loop-command-init : goal.loop-command-init
loop-command-init c =
    let g = c.args.group.now in
    record {
      question = c.in_ok-allows_host.ensures.kept;
      permitted = tt;
      so_far = list_none c.args.asked.now.policy.now (command_test_of_context c.args.asked.now) c.args.asked.now.request.now c.args.at.spec c.args.at.host_group (members_of_view g.hosts)
          (map (command_in_tables g.commands.tables.now) g.commands.rows.now) c.args.head.now c.requires.head;
      found = tt;
    }

pub find_answer_of_command_if_it_fits-requires-clause-runas : goal.find_answer_of_command_if_it_fits-requires-clause-runas
find_answer_of_command_if_it_fits-requires-clause-runas c =
    let lines = c.args.asked.now.policy.now in
    let r = c.args.asked.now.request.now in
    let g = c.args.group.now in
    let k = c.loop-command.command in
    let cmd : CmdSpec = command_of_view c.command_of_row-written.result in
    let s = c.loop-command.invariant.so_far in
    let at = mapped_row_is_at_its_index (command_in_tables g.commands.tables.now) g.commands.rows.now k _ c.loop-command-test.true cmd c.command_of_row-written.ensures in
    let straight : CommandLeadsToNoCycle lines cmd = c.requires.straight.commands cmd (Has_at (commands_of_view g.commands) k cmd at) in
    subst (RunasSpecLeadsToNoCycle lines) (sym (c.apply_settings_of_command.ensures s.head s.is_head).runas) (inherit_straight lines (command_test_of_context c.args.asked.now) r s.head cmd s.straight straight.runas)

pub find_answer_of_command_if_it_fits-requires-clause-permitted : goal.find_answer_of_command_if_it_fits-requires-clause-permitted
find_answer_of_command_if_it_fits-requires-clause-permitted c =
    let lines = c.args.asked.now.policy.now in
    let r = c.args.asked.now.request.now in
    let s = c.loop-command.invariant.so_far in
    let written = c.command_of_row-written.result in
    let runas = option_map runas_of_view c.apply_settings_of_command.new.self.runas in
    elim c.if-is_some.branch [
      | then-is_some w ↦ subst (IsKnownRunasDecision lines r runas) (sym w.permitted-is) tt
      | else-is_some w ↦ subst (IsKnownRunasDecision lines r runas) (sym w.permitted-is)
          (subst (λ o. IsKnownRunasDecision lines r o c.loop-command.permitted)
          (kept_runas written.runas c.loop-command.head c.apply_settings_of_command.new.self s.head (command_of_view written) (sym c.is_some.ensures ∙ w.if-is_some.false) refl
          s.is_head (c.apply_settings_of_command.ensures s.head s.is_head))
          c.loop-command.invariant.permitted)
    ]

pub find_answer_of_command_if_it_fits-requires-clause-member : goal.find_answer_of_command_if_it_fits-requires-clause-member
find_answer_of_command_if_it_fits-requires-clause-member c =
    let lines = c.args.asked.now.policy.now in
    let g = c.args.group.now in
    let t = g.commands.tables.now in
    let k = c.loop-command.command in
    let cmd : CmdSpec = command_of_view c.command_of_row-written.result in
    let at = mapped_row_is_at_its_index (command_in_tables t) g.commands.rows.now k _ c.loop-command-test.true cmd c.command_of_row-written.ensures in
    let straight : CommandLeadsToNoCycle lines cmd = c.requires.straight.commands cmd (Has_at (commands_of_view g.commands) k cmd at) in
    subst (LeadsToNoCyclicAlias Cmnd lines) (sym (ap (map (member_in_tables t)) c.from_ref.ensures.value ∙ ap (λ (x : CmdSpec). x.member ∷ []) (sym c.command_of_row-written.ensures))) straight.member

pub loop-command-preserved : goal.loop-command-preserved
loop-command-preserved c =
    let lines = c.args.asked.now.policy.now in
    let r = c.args.asked.now.request.now in
    let g = c.args.group.now in
    let t = g.commands.tables.now in
    let cs = map (command_in_tables t) g.commands.rows.now in
    let hosts = members_of_view g.hosts in
    let k = c.loop-command.command in
    let cmd : CmdSpec = command_of_view c.command_of_row-written.result in
    let s = c.loop-command.invariant.so_far in
    let at = mapped_row_is_at_its_index (command_in_tables t) g.commands.rows.now k _ c.loop-command-test.true cmd c.command_of_row-written.ensures in
    let straight : CommandLeadsToNoCycle lines cmd = c.requires.straight.commands cmd (Has_at (commands_of_view g.commands) k cmd at) in
    let shown = ap (map (member_in_tables t)) c.from_ref.ensures.value ∙ ap (λ (x : CmdSpec). x.member ∷ []) (sym c.command_of_row-written.ensures) in
    let is = c.apply_settings_of_command.ensures s.head s.is_head in
    let host : DecidesWhetherListAllows Host lines (is_host_atom_match r.who) hosts true =
    subst (DecidesWhetherListAllows Host lines (is_host_atom_match r.who) hosts) c.if-not-branch.false c.in_ok-allows_host.ensures.allowed in
    let written = c.command_of_row-written.result in
    let with_command = answer_with_member_and_settings c.args.line c.apply_settings_of_command.new.self written.member in
    let old = option_map answer_without_member_and_settings c.loop-command.latest in
    let new = option_map answer_of_view c.in_ok-answer.answer in
    record {
      question = c.in_ok-answer.ensures.kept;
      permitted = c.in_ok-answer.ensures.permitted;
      so_far = subst (IsAnswerOfCommandsSoFar lines (command_test_of_context c.args.asked.now) r c.args.at.spec c.args.at.host_group hosts cs (k + 1) c.apply_settings_of_command.new.self)
          (sym (ap (option_map answer_without_member_and_settings) (c.or-latest.ensures ∙ ap (λ o. option_or o c.loop-command.latest) c.add_member_and_settings_to_answer.ensures)
          ∙ option_map_distributes_over_option_or answer_without_member_and_settings (option_map with_command c.in_ok-answer.answer) c.loop-command.latest
          ∙ ap (λ o. option_or o old) (answer_of_found_command_is_answer c.args.line c.apply_settings_of_command.new.self written.member c.in_ok-answer.answer)))
          (list_more lines (command_test_of_context c.args.asked.now) r c.args.at.spec c.args.at.host_group hosts cs k cmd at c.loop-command.head c.apply_settings_of_command.new.self old new s is straight.runas
          (λ users user rows p. c.in_ok-answer.ensures.answer users hosts user host (settings_after_command s.head cmd) is cmd.member shown rows p));
      found = subst (λ o. IfSome o (HasMemberAndSettingsFromGroupAtPlace c.args.line c.args.at (host_group_of_view g))) (sym (c.or-latest.ensures ∙ ap (λ o. option_or o c.loop-command.latest) c.add_member_and_settings_to_answer.ensures))
          (some_or (HasMemberAndSettingsFromGroupAtPlace c.args.line c.args.at (host_group_of_view g)) (option_map with_command c.in_ok-answer.answer) c.loop-command.latest
          (answer_with_command_is_found_in_group c.args.line c.args.at (host_group_of_view g) k c.apply_settings_of_command.new.self written.member (settings_after_command s.head cmd) is
          (first_of_rest_is_element_at_index (commands_with_settings empty_command_settings cs) k _ _ (s.left ∙ ap (commands_with_settings s.head) (list_from_index_is_element_and_rest cs k cmd at))) c.in_ok-answer.answer c.in_ok-answer.ensures.place)
          c.loop-command.invariant.found);
    }

pub returns-clause-answer : goal.returns-clause-answer
returns-clause-answer c users user rows p =
    let g = c.args.group.now in
    let t = g.commands.tables.now in
    list_all c.args.asked.now.policy.now (command_test_of_context c.args.asked.now) c.args.asked.now.request.now c.args.at.spec c.args.at.host_group (members_of_view g.hosts) (map (command_in_tables t) g.commands.rows.now)
    c.loop-command.command c.loop-command.head (option_map answer_without_member_and_settings c.loop-command.latest)
    (omega (arith, c.loop-command-test.false, length-map g.commands.rows.now (command_in_tables t))) c.loop-command.invariant.so_far users user rows p
