use Rattle.std.proofs.Common.{◌≡◌, ◌∙◌, ◌+◌, ◌-◌, length, map, sym, ap}
use Rattle.sudoers_line_rows.specs.Tables.{alias_definition_in_tables}
use Rattle.sudoers_tree.specs.Policy.{alias_limit_of_each_kind}
use Rattle.sudoers_plan.specs.User.{names_after_rounds, names_with_definitions_of_user}
use Rattle.sudoers_plan.proofs.UserAliases.{one_round, round_ends, rounds_end}
use Rattle.sudoers_plan.proofs.user_aliases.find_aliases_of_user.Goals as goal

pub returns-then-len-before : goal.returns-then-len-before
returns-then-len-before c =
    let part = c.args.part in
    let user = c.args.user.now in
    let lines = c.args.policy.now.walk.lines in
    let defs = map (alias_definition_in_tables c.args.definitions.now.tables.now) c.args.definitions.now.rows.items in
    let names = c.loop.names in
    let one : c.add_marked_aliases.new.names ≡ names_with_definitions_of_user part user lines names defs = c.in_ok-add_marked_aliases.ensures.names in
    let same : length (names_with_definitions_of_user part user lines names defs) ≡ length names = ap length (sym one) ∙ sym c.len-in-loop.ensures ∙ c.if-len-before.true ∙ c.len-before.ensures in
    one ∙ round_ends part user lines defs names same ∙ sym (rounds_end (alias_limit_of_each_kind - c.loop.counter) part user lines defs names same) ∙ c.loop.invariant.names

pub loop-preserved : goal.loop-preserved
loop-preserved c =
    let part = c.args.part in
    let user = c.args.user.now in
    let lines = c.args.policy.now.walk.lines in
    let defs = map (alias_definition_in_tables c.args.definitions.now.tables.now) c.args.definitions.now.rows.items in
    let names = c.loop.names in
    let one : c.add_marked_aliases.new.names ≡ names_with_definitions_of_user part user lines names defs = c.in_ok-add_marked_aliases.ensures.names in
    record {
      names = ap (names_after_rounds (alias_limit_of_each_kind - (c.loop.counter + 1)) part user lines defs) one
          ∙ sym (one_round alias_limit_of_each_kind c.loop.counter part user lines defs names c.loop-test.true) ∙ c.loop.invariant.names;
      each = c.add_marked_aliases.auto.marks ∙ c.loop.invariant.each;
      settled = c.in_ok-add_marked_aliases.ensures.settled;
    }
