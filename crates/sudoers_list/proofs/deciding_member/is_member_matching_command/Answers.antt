use Rattle.std.proofs.Common.{◌≡◌, List, ◌∷◌, [], map, sym, ap, subst}
use Rattle.sudoers_grammar.specs.declared.node.Kind.TheVariants.{Cmnd}
use Rattle.sudoers_grammar.specs.Node.{Member}
use Rattle.sudoers_line_rows.specs.Tables.{member_in_tables}
use Rattle.sudoers_tree.specs.Line.{Line}
use Rattle.sudoers_match.specs.Spellings.{is_spelled_command_match}
use Rattle.sudoers_match_list.specs.declared.verdict.LastHitOrCycle.{LastHitOrCycle}
use Rattle.sudoers_match_list.specs.Cycle.{ListLeadsToCyclicAlias}
use Rattle.sudoers_match_list.specs.Flat.{IsLastHitOfList}
use Rattle.sudoers_match_list.specs.Search.{IsLastHitOrCycleOfList, IsValidVerdictCache}
use Rattle.sudoers_match_list.proofs.Unique.{one_flat}
use Rattle.sudoers_list.proofs.Known.{no_cycle}
use Rattle.sudoers_list.proofs.Speaking.{speaks_if}
use Rattle.sudoers_list.proofs.deciding_member.is_member_matching_command.Goals as goal

pub find_last_hit-requires : goal.find_last_hit-requires
find_last_hit-requires c =
    subst (λ (ls : List Line). IsValidVerdictCache Cmnd ls (is_spelled_command_match c.args.command.now) c.args.verdicts.now) (sym c.definition_numbers.ensures) c.requires.verdicts

pub returns-clause-kept : goal.returns-clause-kept
returns-clause-kept c =
    let test = is_spelled_command_match c.args.command.now in
    let ms = map (member_in_tables c.args.tables.now) c.from_ref.result.now in
    let judged = subst (λ (ls : List Line). IsLastHitOrCycleOfList Cmnd ls test ms c.find_last_hit.new.self c.in_ok-hit.field-0) c.definition_numbers.ensures c.in_ok-hit.ensures in
    (subst (λ (d : LastHitOrCycle). IsLastHitOrCycleOfList Cmnd c.args.policy.now test ms c.find_last_hit.new.self d) c.in-Latest.is judged).0

pub returns-clause-speaks : goal.returns-clause-speaks
returns-clause-speaks c =
    let lines = c.args.policy.now in
    let test = is_spelled_command_match c.args.command.now in
    let t = c.args.tables.now in
    let m = member_in_tables t c.args.row.now in
    let only : map (member_in_tables t) c.from_ref.result.now ≡ m ∷ [] = ap (map (member_in_tables t)) c.from_ref.ensures.value in
    let said =
    subst (λ (ls : List Line). IsLastHitOrCycleOfList Cmnd ls test (map (member_in_tables t) c.from_ref.result.now) c.find_last_hit.new.self c.in_ok-hit.field-0) c.definition_numbers.ensures c.in_ok-hit.ensures in
    let judged = subst (λ (d : LastHitOrCycle). IsLastHitOrCycleOfList Cmnd lines test (map (member_in_tables t) c.from_ref.result.now) c.find_last_hit.new.self d) c.in-Latest.is said in
    speaks_if lines test (λ fs gs ms. one_flat Cmnd lines ms fs gs) m c.in-Latest.hit c.is_some.result c.is_some.ensures
    (subst (λ (ms : List Member). IsLastHitOfList Cmnd lines test ms c.in-Latest.hit) only judged.1)

pub unreachable-requires : goal.unreachable-requires
unreachable-requires c =
    let lines = c.args.policy.now in
    let test = is_spelled_command_match c.args.command.now in
    let t = c.args.tables.now in
    let m = member_in_tables t c.args.row.now in
    let only : map (member_in_tables t) c.from_ref.result.now ≡ m ∷ [] = ap (map (member_in_tables t)) c.from_ref.ensures.value in
    let said =
    subst (λ (ls : List Line). IsLastHitOrCycleOfList Cmnd ls test (map (member_in_tables t) c.from_ref.result.now) c.find_last_hit.new.self c.in_ok-hit.field-0) c.definition_numbers.ensures c.in_ok-hit.ensures in
    let judged = subst (λ (d : LastHitOrCycle). IsLastHitOrCycleOfList Cmnd lines test (map (member_in_tables t) c.from_ref.result.now) c.find_last_hit.new.self d) c.in-Cyclic.is said in
    no_cycle lines c.is_acyclic.ensures.walk (m ∷ []) c.requires.flat.0 c.requires.flat.1 (subst (ListLeadsToCyclicAlias Cmnd lines) only judged)
