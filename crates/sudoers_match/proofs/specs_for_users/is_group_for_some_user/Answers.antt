use Rattle.sudoers_match.proofs.Common.{AccumulatedCommandSettings, AllByRecursion, AreRowsPerFlatAtomOfCommand, CmdSpec, Cmnd, CommandLeadsToNoCycle, DecidesWhetherListAllows, Has_at, Host, IsValidCacheForContext, LeadsToNoCyclicAlias, List, Member, None, Option, PrivilegeRow}
use Rattle.sudoers_match.proofs.Common.{RunasSpecLeadsToNoCycle, Some, [], ap, arith, command_in_tables, command_of_view, command_test_of_context, commands_of_view, commands_with_settings, empty_command_settings, false, host_group_of_view, is_host_atom_match, is_some}
use Rattle.sudoers_match.proofs.Common.{length-map, map, member_in_tables, members_of_view, option_map, option_or, refl, runas_of_view, settings_after_command, slice_get, subst, sym, true≢false, ℕ, ◌<◌, ◌∙◌, ◌∷◌, ◌≡◌}
use Rattle.std.proofs.lemmas.Option.{slice_get_within}
use Rattle.sudoers_line_rows.specs.declared.view.RunasSpec.{RunasSpec as RunasView}
use Rattle.sudoers_match.proofs.ForUsers.{group_of_other_host, length_of_commands, one_below_more, parts_without_rows}
use Rattle.sudoers_match.proofs.Gathered.{first_of_rest_is_element_at_index, list_from_index_is_element_and_rest, mapped_row_is_at_its_index, rest_after_first_is_from_next}
use Rattle.sudoers_match.proofs.Rowed.{inherit_straight}
use Rattle.sudoers_match.specs.internal.AnyUser.{IsRowForNoUser, MayRunAsTarget}
use Rattle.sudoers_match.proofs.specs_for_users.is_group_for_some_user.Goals as goal
use Rattle.sudoers_match.proofs.specs_for_users.is_group_for_some_user.Goals.{then-is_some+in_ok-may_run, else-is_some}

pub returns-then-not-branch-clause-idle : goal.returns-then-not-branch-clause-idle
returns-then-not-branch-clause-idle c _ i j users rows p =
    let asked = c.args.asked.now in
    let g = host_group_of_view c.args.group.now in
    group_of_other_host asked.policy.now (command_test_of_context asked) c.args.of_target asked.request.now i j users g rows
    (subst (DecidesWhetherListAllows Host asked.policy.now (is_host_atom_match asked.request.now.who) g.hosts) c.if-not-branch.true c.in_ok-allows_host.ensures.allowed) p

pub loop-row-init : goal.loop-row-init
loop-row-init c = record {
  question = c.in_ok-allows_host.ensures.kept;
  head = empty_command_settings;
  is_head = c.make_empty_settings-head.ensures;
  left = refl;
  straight = tt;
  target = λ e. absurd (true≢false e);
  none = λ n below. absurd (omega (arith, below));
}

pub may_run_as_target-requires-clause-straight : goal.may_run_as_target-requires-clause-straight
may_run_as_target-requires-clause-straight c =
    let asked = c.args.asked.now in
    let lines = asked.policy.now in
    let g = c.args.group.now in
    let k = c.loop-row.row-index in
    let cmd : CmdSpec = command_of_view c.command_of_row-written.result in
    let s = c.loop-row.invariant in
    let at = mapped_row_is_at_its_index (command_in_tables g.commands.tables.now) g.commands.rows.now k _ c.loop-row-test.true cmd c.command_of_row-written.ensures in
    let straight : CommandLeadsToNoCycle lines cmd = c.requires.straight.commands cmd (Has_at (commands_of_view g.commands) k cmd at) in
    subst (RunasSpecLeadsToNoCycle lines) (sym (c.apply_settings_of_command.ensures s.head s.is_head).runas)
    (inherit_straight lines (command_test_of_context asked) asked.request.now s.head cmd s.straight straight.runas)

pub is_command_for_some_user-requires-clause-question : goal.is_command_for_some_user-requires-clause-question
is_command_for_some_user-requires-clause-question c =
    elim c.if-is_some.branch [
      | then-is_some+in_ok-may_run w ↦ subst (IsValidCacheForContext c.args.asked.now) (sym w.question-is) w.in_ok-may_run.ensures.kept
      | else-is_some w ↦ subst (IsValidCacheForContext c.args.asked.now) (sym w.question-is) c.loop-row.invariant.question
    ]

pub is_command_for_some_user-requires-clause-straight : goal.is_command_for_some_user-requires-clause-straight
is_command_for_some_user-requires-clause-straight c =
    let lines = c.args.asked.now.policy.now in
    let g = c.args.group.now in
    let t = g.commands.tables.now in
    let k = c.loop-row.row-index in
    let cmd : CmdSpec = command_of_view c.command_of_row-written.result in
    let at = mapped_row_is_at_its_index (command_in_tables t) g.commands.rows.now k _ c.loop-row-test.true cmd c.command_of_row-written.ensures in
    let straight : CommandLeadsToNoCycle lines cmd = c.requires.straight.commands cmd (Has_at (commands_of_view g.commands) k cmd at) in
    subst (LeadsToNoCyclicAlias Cmnd lines) (sym (ap (map (member_in_tables t)) c.from_ref.ensures.value ∙ ap (λ (x : CmdSpec). x.member ∷ []) (sym c.command_of_row-written.ensures))) straight.member

-- A command without a Runas_Spec of its own keeps that of the commands before it.
kept_target : (P : Option _ → Type 0) (x : Option RunasView) (before : AccumulatedCommandSettings) (cmd : CmdSpec) → is_some x ≡ false → cmd.runas ≡ option_map runas_of_view x
    → (P before.runas → ⊥) → P (settings_after_command before cmd).runas → ⊥
kept_target P None before cmd none is never p = never (subst P (ap (λ r. option_or r before.runas) is) p)
kept_target P (Some x) before cmd none is never p = absurd (true≢false none)

pub loop-row-preserved : goal.loop-row-preserved
loop-row-preserved c =
    let asked = c.args.asked.now in
    let lines = asked.policy.now in
    let r = asked.request.now in
    let test = command_test_of_context asked in
    let g = c.args.group.now in
    let t = g.commands.tables.now in
    let cs = map (command_in_tables t) g.commands.rows.now in
    let k = c.loop-row.row-index in
    let written = c.command_of_row-written.result in
    let cmd : CmdSpec = command_of_view written in
    let s = c.loop-row.invariant in
    let at = mapped_row_is_at_its_index (command_in_tables t) g.commands.rows.now k _ c.loop-row-test.true cmd c.command_of_row-written.ensures in
    let straight : CommandLeadsToNoCycle lines cmd = c.requires.straight.commands cmd (Has_at (commands_of_view g.commands) k cmd at) in
    let shown = ap (map (member_in_tables t)) c.from_ref.ensures.value ∙ ap (λ (x : CmdSpec). x.member ∷ []) (sym c.command_of_row-written.ensures) in
    let is = c.apply_settings_of_command.ensures s.head s.is_head in
    let here = s.left ∙ ap (commands_with_settings s.head) (list_from_index_is_element_and_rest cs k cmd at) in
    let May : Option _ → Type 0 = λ o. MayRunAsTarget lines c.args.of_target r.target o in
    let target : c.if-is_some.may_run ≡ false → May (settings_after_command s.head cmd).runas → ⊥ =
    elim c.if-is_some.branch [
      | then-is_some+in_ok-may_run w ↦ λ e m. w.in_ok-may_run.ensures.other (sym w.may_run-is ∙ e) (subst May (sym is.runas) m)
      | else-is_some w ↦ λ e. kept_target May written.runas s.head cmd (sym c.is_some.ensures ∙ w.if-is_some.false) refl (s.target (sym w.may_run-is ∙ e))
    ] in
    record {
      question = c.in_ok-is_command_for_some_user.ensures.kept;
      head = settings_after_command s.head cmd;
      is_head = is;
      left = rest_after_first_is_from_next (commands_with_settings empty_command_settings cs) k _ _ here;
      straight = inherit_straight lines test r s.head cmd s.straight straight.runas;
      target = target;
      none = one_below_more
          (λ (x : AccumulatedCommandSettings × Member). (i j n : ℕ) (users hosts : List Member) (rows : List PrivilegeRow) → AreRowsPerFlatAtomOfCommand lines i j users hosts n x rows → AllByRecursion (IsRowForNoUser lines test c.args.of_target r) rows)
          (commands_with_settings empty_command_settings cs) k (settings_after_command s.head cmd, cmd.member) (first_of_rest_is_element_at_index (commands_with_settings empty_command_settings cs) k _ _ here) s.none
          (λ i j n users hosts rows p. c.in_ok-is_command_for_some_user.ensures.idle c.if-branch.false c.args.of_target (settings_after_command s.head cmd) is target cmd.member shown i j n users hosts rows p);
    }

pub returns-clause-idle : goal.returns-clause-idle
returns-clause-idle c _ i j users rows p =
    let asked = c.args.asked.now in
    let lines = asked.policy.now in
    let g = c.args.group.now in
    let t = g.commands.tables.now in
    let cs = map (command_in_tables t) g.commands.rows.now in
    let all = commands_with_settings empty_command_settings cs in
    parts_without_rows lines (command_test_of_context asked) c.args.of_target asked.request.now (AreRowsPerFlatAtomOfCommand lines i j users (members_of_view g.hosts)) all
    (λ n x e k rs q. c.loop-row.invariant.none n
    (omega (arith, slice_get_within all n x e, length_of_commands empty_command_settings cs, c.loop-row-test.false, length-map g.commands.rows.now (command_in_tables t))) x e i j k users (members_of_view g.hosts) rs q)
    0 rows p
