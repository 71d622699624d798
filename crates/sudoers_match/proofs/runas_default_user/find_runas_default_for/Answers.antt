use Rattle.sudoers_match.proofs.Common.{Bor, Has_at, Host, IsRunasDefaultOfLinesBefore, IsValidVerdictCache, List, None, Option, Some, User, ap, arith, is_host_atom_match, is_user_atom_match, length-map, line_of_row}
use Rattle.sudoers_match.proofs.Common.{map, option_map, option_or, parameters_of_view, refl, scope_of_view, slice_get, subst, sym, unwrap_or, ℕ, ◌+◌, ◌∙◌, ◌≡◌}
use Rattle.sudoers_match.proofs.Passed.{line, line_at, says_defaults, no_default_in}
use Rattle.sudoers_match.proofs.Reached.{scope_straight}
use Rattle.sudoers_match.proofs.Settings.{none_so_far, defaults_more, other_more, whole}
use Rattle.sudoers_match.proofs.runas_default_user.find_runas_default_for.Goals as goal
use Rattle.sudoers_match.proofs.runas_default_user.find_runas_default_for.Goals.{in-Defaults+in_ok-latest, in_default}

pub find_line_runas_default-requires-clause-straight : goal.find_line_runas_default-requires-clause-straight
find_line_runas_default-requires-clause-straight c =
    let lines = c.args.policy.now in
    let t = c.lines-lines.result.tables.now in
    let rows = c.lines-lines.result.rows.now in
    let i = c.loop-row.row-index in
    scope_straight lines c.is_acyclic.ensures.straight (line t rows i _ c.loop-row-test.true c.node_of_row.result c.node_of_row.ensures)
    (Has_at lines i _ (ap (λ ls. slice_get ls i) (sym c.lines-lines.ensures) ∙ line_at t rows i _ c.loop-row-test.true c.node_of_row.result c.node_of_row.ensures))
    (option_map scope_of_view c.in-Defaults.scope) (parameters_of_view c.in-Defaults.params)
    (says_defaults t rows i _ c.loop-row-test.true c.node_of_row.result c.node_of_row.ensures c.in-Defaults.scope c.in-Defaults.params c.in-Defaults.is)

unwrapped : (o : Option (Bor (List ℕ))) (b : Bor (List ℕ)) → option_or (option_map (λ (n : Bor (List ℕ)). n.now) o) (Some b.now) ≡ Some (unwrap_or o b).now
unwrapped None b = refl
unwrapped (Some n) b = refl

pub loop-row-init : goal.loop-row-init
loop-row-init c = record {
  users = c.in_ok-users.ensures User (is_user_atom_match c.args.who.now.user);
  hosts = c.in_ok-hosts.ensures Host (is_host_atom_match c.args.who.now);
  name = none_so_far c.args.policy.now c.args.who.now (map (line_of_row c.lines-lines.result.tables.now) c.lines-lines.result.rows.now) _ refl;
}

pub loop-row-preserved : goal.loop-row-preserved
loop-row-preserved c =
    let lines = c.args.policy.now in
    let who = c.args.who.now in
    let so_far = c.loop-row.invariant in
    let t = c.lines-lines.result.tables.now in
    let rows = c.lines-lines.result.rows.now in
    let i = c.loop-row.row-index in
    let all = map (line_of_row t) rows in
    let at = line_at t rows i _ c.loop-row-test.true c.node_of_row.result c.node_of_row.ensures in
    elim c.match-node_of_row.branch [
      | in-Defaults+in_ok-latest w ↦
          let scope = option_map scope_of_view w.in-Defaults.scope in
          let params = parameters_of_view w.in-Defaults.params in
          record {
            users = subst (IsValidVerdictCache User lines (is_user_atom_match who.user)) (sym w.users-is) w.in_ok-latest.ensures.users;
            hosts = subst (IsValidVerdictCache Host lines (is_host_atom_match who)) (sym w.hosts-is) w.in_ok-latest.ensures.hosts;
            name = defaults_more lines who all i _ at scope params c.loop-row.name.now c.match-node_of_row.name.now _
                (says_defaults t rows i _ c.loop-row-test.true c.node_of_row.result c.node_of_row.ensures w.in-Defaults.scope w.in-Defaults.params w.in-Defaults.is)
                so_far.name w.in_ok-latest.ensures.latest
                (unwrapped w.in_ok-latest.latest c.loop-row.name ∙ ap (λ (n : Bor (List ℕ)). Some n.now) (sym (w.name-is ∙ w.unwrap_or-name.ensures)));
          }
      | in_default w ↦ record {
        users = subst (IsValidVerdictCache User lines (is_user_atom_match who.user)) (sym w.users-is) so_far.users;
        hosts = subst (IsValidVerdictCache Host lines (is_host_atom_match who)) (sym w.hosts-is) so_far.hosts;
        name = subst (λ (n : Bor (List ℕ)). IsRunasDefaultOfLinesBefore lines who all (i + 1) n.now) (sym w.name-is)
            (other_more lines who all i _ at c.loop-row.name.now
            (no_default_in t rows i _ c.loop-row-test.true c.node_of_row.result c.node_of_row.ensures w.in_default.not-Defaults) so_far.name);
      }
    ]

pub returns : goal.returns
returns c =
    let lines = c.args.policy.now in
    let all = map (line_of_row c.lines-lines.result.tables.now) c.lines-lines.result.rows.now in
    whole lines c.args.who.now all c.loop-row.row-index c.loop-row.name.now
    (omega (arith, c.loop-row-test.false, length-map c.lines-lines.result.rows.now (line_of_row c.lines-lines.result.tables.now)))
    c.lines-lines.ensures c.loop-row.invariant.name
