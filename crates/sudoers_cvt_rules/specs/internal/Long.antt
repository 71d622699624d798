-- A device of the proof, which no public contract cites: lines that are too long.
use Rattle.std.specs.Prelude.{◌≡◌, ◌<◌, ◌≤◌, ◌⊎◌, ℕ, List, ◌++◌, length}
use Rattle.std.specs.List.{AllByRecursion}
use Rattle.sudoers_text.specs.Fault.{text_limit, line_limit}
use Rattle.sudoers_grammar.specs.Node.{Node}
use Rattle.sudoers_cvt_spell.specs.Lines.{printed_line, printed_lines}
use Rattle.sudoers_cvt_rules.specs.Rules.{Rules, rule_nodes_in_print_order, printed_rules}
use Rattle.sudoers_cvt_rules.specs.declared.fault.CvtFault.{CvtFault}
use Rattle.sudoers_cvt_rules.specs.declared.fault.CvtFault.TheVariants.{Cycle, TooLarge, NotUtf8, NoMemory}

-- The fault is want of memory, or with its line end the text is too long.
abbrev pub IsFaultOfMakingUnendedLine : List ℕ → CvtFault → Type 0
IsFaultOfMakingUnendedLine text NoMemory = Unit {0}
IsFaultOfMakingUnendedLine text TooLarge = line_limit ≤ length text
IsFaultOfMakingUnendedLine text Cycle = ⊥
IsFaultOfMakingUnendedLine text NotUtf8 = ⊥

-- The fault is want of memory, or the line is too long.
abbrev pub IsFaultOfMakingLine : List ℕ → CvtFault → Type 0
IsFaultOfMakingLine line NoMemory = Unit {0}
IsFaultOfMakingLine line TooLarge = line_limit < length line
IsFaultOfMakingLine line Cycle = ⊥
IsFaultOfMakingLine line NotUtf8 = ⊥

-- The fault is want of memory; or the lines behind the text pass its limit, or one of them that of a line.
abbrev pub IsFaultOfAppendingLines : List ℕ → List Node → CvtFault → Type 0
IsFaultOfAppendingLines text lines NoMemory = Unit {0}
IsFaultOfAppendingLines text lines TooLarge =
    (text_limit < length (text ++ printed_lines lines)) ⊎ (AllByRecursion (λ n. length (printed_line n) ≤ line_limit) lines → ⊥)
IsFaultOfAppendingLines text lines Cycle = ⊥
IsFaultOfAppendingLines text lines NotUtf8 = ⊥

-- What is printed of rules, and each of its lines, is within the limit of a policy.
pub record PrintedRulesFitLimits (r : Rules) : Type 0 where
  pub text : length (printed_rules r) ≤ text_limit
  pub lines : AllByRecursion (λ n. length (printed_line n) ≤ line_limit) (rule_nodes_in_print_order r)

-- The fault is want of memory, or the rules do not fit.
abbrev pub IsPrintFault : Rules → CvtFault → Type 0
IsPrintFault r fault = (fault ≡ NoMemory) ⊎ ((fault ≡ TooLarge) × (PrintedRulesFitLimits r → ⊥))
