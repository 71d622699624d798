use Rattle.std.proofs.Common.{◌∙◌, sym, subst}
use Rattle.sudoers_grammar.specs.declared.node.Kind.TheVariants.{Cmnd}
use Rattle.sudoers_line_rows.specs.View.{members_of_view}
use Rattle.sudoers_undecided.specs.internal.Decided.{HasAliasToDecide, IsSwayOfList, matched_by, undecided_by}
use Rattle.sudoers_undecided.proofs.RowSteps.{added_command_counts, decided_sway, deciding_command_counts, undecided_command_counts, unheld_command_counts, unmatched_command_counts}
use Rattle.sudoers_undecided.proofs.spec_rows.count_lists_of_command.Goals as goal

pub returns-then-not-may_hold-clause-counts : goal.returns-then-not-may_hold-clause-counts
returns-then-not-may_hold-clause-counts c head h m alone i j k rows are =
    unheld_command_counts c.args.asked.now.policy.now c.args.asked.now.request.now c.args.asked.now.scopes.now head c.args.lists.now h c.args.member.now m alone i j k rows are c.args.counted.now
    (sym c.may_hold-may_hold.ensures ∙ c.if-not-may_hold.true)

pub returns-in_default-clause-counts : goal.returns-in_default-clause-counts
returns-in_default-clause-counts c head h m alone i j k rows are =
    let d = c.args.asked.now.aliases.now.commands in
    undecided_command_counts c.args.asked.now.policy.now c.args.asked.now.request.now c.args.asked.now.scopes.now head c.args.lists.now h c.args.member.now m alone i j k rows are c.args.counted.now
    d c.requires.asked.aliases.commands (subst (λ lines. HasAliasToDecide lines d (members_of_view c.args.member.now)) c.definition_numbers-numbers.ensures c.in_default.ensures)

pub returns-then-decides-clause-counts : goal.returns-then-decides-clause-counts
returns-then-decides-clause-counts c head h m alone i j k rows are =
    let asked = c.args.asked.now in
    let d = asked.aliases.now.commands in
    let ms = members_of_view c.args.member.now in
    let says = decided_sway asked.policy.now Cmnd _ _ d c.requires.asked.aliases.commands ms c.in-Some.sway
    (subst (λ lines. IsSwayOfList d.kind lines (undecided_by d) (matched_by d) ms c.in-Some.sway) c.definition_numbers-numbers.ensures c.in-Some.ensures) in
    let it = c.in_ok-restart_at_command.ensures in
    deciding_command_counts asked.policy.now asked.request.now asked.scopes.now head c.args.lists.now h c.args.member.now m alone i j k rows are c.in-Some.sway says
    c.args.counted.now c.restart_at_command.new.self it.has it.allowing it.denying (sym c.does_command_decide-decides.ensures ∙ c.if-decides.true)
    (sym c.may_hold-may_hold.ensures ∙ c.if-not-may_hold.false) it.only

pub returns-then-not-may_match-clause-counts : goal.returns-then-not-may_match-clause-counts
returns-then-not-may_match-clause-counts c head h m alone i j k rows are =
    let asked = c.args.asked.now in
    let d = asked.aliases.now.commands in
    let ms = members_of_view c.args.member.now in
    let says = decided_sway asked.policy.now Cmnd _ _ d c.requires.asked.aliases.commands ms c.in-Some.sway
    (subst (λ lines. IsSwayOfList d.kind lines (undecided_by d) (matched_by d) ms c.in-Some.sway) c.definition_numbers-numbers.ensures c.in-Some.ensures) in
    unmatched_command_counts asked.policy.now asked.request.now asked.scopes.now head c.args.lists.now h c.args.member.now m alone i j k rows are c.in-Some.sway says
    c.args.counted.now (sym c.may_match-may_match.ensures ∙ c.if-not-may_match.true)

pub returns-clause-counts : goal.returns-clause-counts
returns-clause-counts c head h m alone i j k rows are =
    let asked = c.args.asked.now in
    let d = asked.aliases.now.commands in
    let ms = members_of_view c.args.member.now in
    let says = decided_sway asked.policy.now Cmnd _ _ d c.requires.asked.aliases.commands ms c.in-Some.sway
    (subst (λ lines. IsSwayOfList d.kind lines (undecided_by d) (matched_by d) ms c.in-Some.sway) c.definition_numbers-numbers.ensures c.in-Some.ensures) in
    let it = c.in_ok-add_lists_of_command.ensures in
    added_command_counts asked.policy.now asked.request.now asked.scopes.now head c.args.lists.now h c.args.member.now m alone i j k rows are c.in-Some.sway says
    c.args.counted.now c.add_lists_of_command.new.self it.grown it.has it.all (sym c.does_command_decide-decides.ensures ∙ c.if-decides.false)
    (sym c.may_hold-may_hold.ensures ∙ c.if-not-may_hold.false) (sym c.may_match-may_match.ensures ∙ c.if-not-may_match.false) it.only
