-- The text that is printed of rewritten rules is read.
use Rattle.laws_program.proofs.Common.{◌≡◌, true, List, sym, subst, AllByRecursion, Line, definitions_of_lines, AreWalkLinesWithoutNul, IsWritableNode, Rules, rules_of_policy_lines, rule_nodes_in_print_order, printed_rules}
use Rattle.laws_program.proofs.Common.{is_printed_within_limits, IsTextReadAsSameNodes, PolicyChanges, rules_with_used_definitions}
use Rattle.laws_program.proofs.ReadLines.{PrintedLineReadsBack, PrintedLineIsLogicalLine, PrintedLinesAreCutEach, TextHasItsReadOutcome, ReadOutcomeIsUnique, CanDefinitionsFormPolicy, writable_rules_are_read_when_printed}
use Rattle.laws_program.proofs.RuleLines.{ReadNodeIsReadable, walk_lines_are_readable, rules_of_readable_lines_are_writable}
use Rattle.sudoers_cvt_rewrite.specs.Rewrite.{rewritten_lines_of_policy}
use Rattle.laws_program.proofs.Kept.{lines_of_used_rules, rules_of_used_lines_are_used_rules}
use Rattle.laws_program.proofs.Left.{NonemptyFilterKeepsWritableMembers, rewritten_readable, rewritten_lines_keep_definitions}
use Rattle.laws_program.proofs.Readable.{ChangedSignKeepsWritable}
use Rattle.laws_program.proofs.Used.{used_definitions_can_form_policy}
use Rattle.laws_program.proofs.Written.{used_lines_of_readable_are_readable}

-- The laws of lines that are read, changed, printed and cut, and those of policies.
pub record LawsOfPrintedAndReadLines : Type 0 where
  pub given : ReadNodeIsReadable
  pub sign : ChangedSignKeepsWritable
  pub fewer : NonemptyFilterKeepsWritableMembers
  pub print : PrintedLineReadsBack
  pub alone : PrintedLineIsLogicalLine
  pub cut : PrintedLinesAreCutEach
  pub read : TextHasItsReadOutcome
  pub one : ReadOutcomeIsUnique

-- The printed text is read as lines that say what the rules say.
pub printed_rewritten_rules_are_read : LawsOfPrintedAndReadLines → (c : PolicyChanges) (lines : List Line) → AreWalkLinesWithoutNul lines → is_printed_within_limits (rules_with_used_definitions (rewritten_lines_of_policy c lines)) ≡ true
    → IsTextReadAsSameNodes (printed_rules (rules_with_used_definitions (rewritten_lines_of_policy c lines))) (rule_nodes_in_print_order (rules_with_used_definitions (rewritten_lines_of_policy c lines)))
printed_rewritten_rules_are_read l c lines policy =
    let may : CanDefinitionsFormPolicy (definitions_of_lines lines) = record { free = policy.walk.free; once = policy.walk.once; few = policy.walk.few } in
    let stand = used_definitions_can_form_policy (rewritten_lines_of_policy c lines) (subst CanDefinitionsFormPolicy (sym (rewritten_lines_keep_definitions c lines)) may) in
    let readable = rewritten_readable l.sign l.fewer c lines policy (walk_lines_are_readable l.given lines policy) in
    let written : AllByRecursion IsWritableNode (rule_nodes_in_print_order (rules_of_policy_lines (lines_of_used_rules (rewritten_lines_of_policy c lines)))) =
    rules_of_readable_lines_are_writable (lines_of_used_rules (rewritten_lines_of_policy c lines)) (used_lines_of_readable_are_readable (rewritten_lines_of_policy c lines) readable) in
    subst (λ (r : Rules). is_printed_within_limits r ≡ true → IsTextReadAsSameNodes (printed_rules r) (rule_nodes_in_print_order r)) (rules_of_used_lines_are_used_rules (rewritten_lines_of_policy c lines))
    (writable_rules_are_read_when_printed l.print l.alone l.cut l.read l.one (lines_of_used_rules (rewritten_lines_of_policy c lines)) stand written)
