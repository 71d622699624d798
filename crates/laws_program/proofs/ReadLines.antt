-- The printed text of the rules of a policy is a policy.
use Rattle.laws_program.proofs.Common.{◌≡◌, ℕ, ◌≤◌, ◌&&◌, true, nat_le, List, [], ◌∷◌, ◌++◌, length, map, Result, Ok, refl, sym, ap, subst, ◌∙◌, arith}
use Rattle.laws_program.proofs.Common.{AllByRecursion, list_all, join, Nul, text_limit, line_limit, Kind, Node, Line, ReadFault, PlacedDefinition, definitions_of_lines}
use Rattle.laws_program.proofs.Common.{alias_limit_of_each_kind, texts_of_lines, definition_count_of_kind, IsCorrectlyParsed, HasUnreservedName, HaveDistinctNames, AreWalkLinesWithoutNul, AreLinesOfSingleTextPolicy, policy_lines_of_text, IsPolicyOrFirstFaultOfText, printed_line, printed_lines}
use Rattle.laws_program.proofs.Common.{IsWritableNode, AreItemsPairwiseRelated, NodeIsReadBackAs, rules_of_policy_lines, rule_nodes_in_print_order, printed_rules, is_printed_within_limits, nodes_of_lines, IsTextReadAsSameNodes}
use Rattle.std.proofs.Common.{◌<◌}
use Rattle.std.proofs.lemmas.Bool.{and_parts, leb-true}
use Rattle.sudoers_text.specs.Line.{AreLinesOfText, IsUnfinishedLine}
use Rattle.sudoers_text.specs.declared.fault.TextFault.{TextFault}
use Rattle.sudoers_text.specs.declared.fault.TextFault.TheVariants.{TooLarge, LineTooLong, OpenContinuation, NoMemory}
use Rattle.sudoers_text.specs.Fault.{HasFaultAt, IsFaultlessCut}
use Rattle.sudoers_text.specs.Whole.{IsLogicalLine}
use Rattle.laws_print.specs.Same.{LineReadsBackAs}
use Rattle.laws_program.proofs.Clean.{HasNoNulByte, byte_test_implies_no_nul, join_of_clean_texts_has_no_nul}
use Rattle.laws_program.proofs.Aliases.{printed_rules_keep_definitions}
use Rattle.laws_program.proofs.Keys.{kinds_and_names_of_definitions, definitions_same_but_place_have_same_keys, same_keys_keep_unreserved_names, same_keys_have_same_definition_count, same_keys_keep_names_distinct}

-- what the laws of printed lines say
abbrev pub PrintedLineReadsBack : Type 0
PrintedLineReadsBack = (n : Node) → IsWritableNode n → LineReadsBackAs (printed_line n) n

abbrev pub PrintedLineIsLogicalLine : Type 0
PrintedLineIsLogicalLine = (n : Node) → IsWritableNode n → IsLogicalLine (printed_line n)

abbrev pub PrintedLinesAreCutEach : Type 0
PrintedLinesAreCutEach = (ns : List Node) → AllByRecursion IsWritableNode ns → AreLinesOfText (printed_lines ns) (map printed_line ns)

-- what the laws of policies say
abbrev pub TextHasItsReadOutcome : Type 0
TextHasItsReadOutcome = (text : List ℕ) → IsPolicyOrFirstFaultOfText text (policy_lines_of_text text)

abbrev pub ReadOutcomeIsUnique : Type 0
ReadOutcomeIsUnique = (text : List ℕ) (outcome other : Result (List Line) ReadFault) → IsPolicyOrFirstFaultOfText text outcome → IsPolicyOrFirstFaultOfText text other → outcome ≡ other

-- ---- the cut

element_amid_list_has_property_of_all : {X : Type 0} → (P : X → Type 0) (xs before : List X) (x : X) (after : List X) → AllByRecursion P xs → xs ≡ before ++ x ∷ after → P x
element_amid_list_has_property_of_all {X = X} P xs before x after all e = at before (subst (AllByRecursion P) e all)
  where
    at : (before : List X) → AllByRecursion P (before ++ x ∷ after) → P x
    at [] all = all.0
    at (first ∷ before) all = at before all.1

printed_lines_have_property_from_nodes : (P : List ℕ → Type 0) (Q : Node → Type 0) → ((n : Node) → Q n → P (printed_line n)) → (ns : List Node) → AllByRecursion Q ns → AllByRecursion P (map printed_line ns)
printed_lines_have_property_from_nodes P Q law [] all = tt
printed_lines_have_property_from_nodes P Q law (n ∷ ns) all = (law n all.0, printed_lines_have_property_from_nodes P Q law ns all.1)

number_is_not_below_smaller : (m n : ℕ) → m ≤ n → n < m → ⊥
number_is_not_below_smaller m n e f = omega arith

limit_test_bounds_printed_lines : (ns : List Node) → list_all (λ n. nat_le (length (printed_line n)) line_limit) ns ≡ true → AllByRecursion (λ (t : List ℕ). length t ≤ line_limit) (map printed_line ns)
limit_test_bounds_printed_lines [] e = tt
limit_test_bounds_printed_lines (n ∷ ns) e =
    let parts = and_parts (nat_le (length (printed_line n)) line_limit) (list_all (λ n. nat_le (length (printed_line n)) line_limit) ns) e in
    (leb-true (length (printed_line n)) line_limit parts.0, limit_test_bounds_printed_lines ns parts.1)

printed_lines_have_no_text_fault : PrintedLineIsLogicalLine → (ns : List Node) → AllByRecursion IsWritableNode ns → AllByRecursion (λ (t : List ℕ). length t ≤ line_limit) (map printed_line ns) → (fault : TextFault) (at : ℕ) → HasFaultAt (map printed_line ns) fault at → ⊥
printed_lines_have_no_text_fault law ns all size TooLarge at is = is
printed_lines_have_no_text_fault law ns all size (LineTooLong number) at is = number_is_not_below_smaller (length is.line) line_limit (element_amid_list_has_property_of_all (λ (t : List ℕ). length t ≤ line_limit) (map printed_line ns) is.before is.line is.after size is.place) is.long
printed_lines_have_no_text_fault law ns all size (Nul byte) at is = byte_test_implies_no_nul (join (map printed_line ns)) (join_of_clean_texts_has_no_nul (map printed_line ns) (printed_lines_have_property_from_nodes HasNoNulByte IsWritableNode (λ n h. (law n h).clean) ns all)) byte is.1
printed_lines_have_no_text_fault law ns all size OpenContinuation at is = element_amid_list_has_property_of_all (λ (t : List ℕ). IsUnfinishedLine t → ⊥) (map printed_line ns) is.1.before is.1.last [] (printed_lines_have_property_from_nodes (λ (t : List ℕ). IsUnfinishedLine t → ⊥) IsWritableNode (λ n h. (law n h).closed) ns all) is.1.place is.1.unfinished
printed_lines_have_no_text_fault law ns all size NoMemory at is = is

printed_lines_are_faultless_cut : PrintedLineIsLogicalLine → PrintedLinesAreCutEach → (ns : List Node) → AllByRecursion IsWritableNode ns → length (printed_lines ns) ≤ text_limit → list_all (λ n. nat_le (length (printed_line n)) line_limit) ns ≡ true → IsFaultlessCut (printed_lines ns) (map printed_line ns)
printed_lines_are_faultless_cut alone cut ns all size each = record { fits = size; cuts = cut ns all; sound = printed_lines_have_no_text_fault alone ns all (limit_test_bounds_printed_lines ns each) }

-- ---- the lines

-- lines of the printed texts, which say the same
record HasLinesReadOfPrintedNodes (ns : List Node) : Type 0 where
  read : List Line
  texts_are : texts_of_lines read ≡ map printed_line ns
  says : AllByRecursion IsCorrectlyParsed read
  same : AreItemsPairwiseRelated NodeIsReadBackAs ns (nodes_of_lines read)

printed_nodes_have_lines_read_of_them : PrintedLineReadsBack → (ns : List Node) → AllByRecursion IsWritableNode ns → HasLinesReadOfPrintedNodes ns
printed_nodes_have_lines_read_of_them law [] all = record { read = []; texts_are = refl; says = tt; same = tt }
printed_nodes_have_lines_read_of_them law (n ∷ ns) all =
    let one = law n all.0 in
    let more = printed_nodes_have_lines_read_of_them law ns all.1 in
    record {
      read = record { text = printed_line n; node = one.read } ∷ more.read;
      texts_are = ap (λ ts. printed_line n ∷ ts) more.texts_are;
      says = (one.reads, more.says);
      same = (one.same, more.same);
    }

-- ---- the policy

-- The definitions can stand behind one another in a policy.
pub record CanDefinitionsFormPolicy (ds : List PlacedDefinition) : Type 0 where
  pub free : AllByRecursion HasUnreservedName ds
  pub once : HaveDistinctNames ds
  pub few : (k : Kind) → definition_count_of_kind k ds ≤ alias_limit_of_each_kind

lines_read_of_print_are_policy : (lines read : List Line) (ns : List Node) → CanDefinitionsFormPolicy (definitions_of_lines lines) → ns ≡ rule_nodes_in_print_order (rules_of_policy_lines lines) → IsFaultlessCut (printed_lines ns) (map printed_line ns) → texts_of_lines read ≡ map printed_line ns → AllByRecursion IsCorrectlyParsed read → AreItemsPairwiseRelated NodeIsReadBackAs ns (nodes_of_lines read) → AreLinesOfSingleTextPolicy read
lines_read_of_print_are_policy lines read ns is e cut texts_are says same =
    let keys : kinds_and_names_of_definitions (definitions_of_lines lines) ≡ kinds_and_names_of_definitions (definitions_of_lines read) =
    definitions_same_but_place_have_same_keys (definitions_of_lines lines) (definitions_of_lines read) (printed_rules_keep_definitions lines read (subst (λ (ms : List Node). AreItemsPairwiseRelated NodeIsReadBackAs ms (nodes_of_lines read)) e same)) in
    record {
      cut = subst (λ (ts : List (List ℕ)). IsFaultlessCut (join ts) ts) (sym texts_are) (subst (λ (t : List ℕ). IsFaultlessCut t (map printed_line ns)) (sym cut.cuts.joined) cut);
      walk =
          record {
            says = says;
            free = same_keys_keep_unreserved_names (definitions_of_lines lines) (definitions_of_lines read) keys is.free;
            once = same_keys_keep_names_distinct (definitions_of_lines lines) (definitions_of_lines read) keys is.once;
            few = λ k. subst (λ n. n ≤ alias_limit_of_each_kind) (same_keys_have_same_definition_count k (definitions_of_lines lines) (definitions_of_lines read) keys) (is.few k);
          };
    }

printed_rule_nodes_are_read : PrintedLineReadsBack → PrintedLineIsLogicalLine → PrintedLinesAreCutEach → TextHasItsReadOutcome → ReadOutcomeIsUnique → (lines : List Line) (ns : List Node) → CanDefinitionsFormPolicy (definitions_of_lines lines) → ns ≡ rule_nodes_in_print_order (rules_of_policy_lines lines) → AllByRecursion IsWritableNode ns → (nat_le (length (printed_lines ns)) text_limit && list_all (λ n. nat_le (length (printed_line n)) line_limit) ns) ≡ true → IsTextReadAsSameNodes (printed_lines ns) ns
printed_rule_nodes_are_read print alone cut read one lines ns is e all size =
    let both = and_parts (nat_le (length (printed_lines ns)) text_limit) (list_all (λ n. nat_le (length (printed_line n)) line_limit) ns) size in
    let there = printed_nodes_have_lines_read_of_them print ns all in
    let cut_there = printed_lines_are_faultless_cut alone cut ns all (leb-true (length (printed_lines ns)) text_limit both.0) both.1 in
    let policy = lines_read_of_print_are_policy lines there.read ns is e cut_there there.texts_are there.says there.same in
    let joined : join (texts_of_lines there.read) ≡ printed_lines ns = ap join there.texts_are ∙ cut_there.cuts.joined in
    record {
      read = there.read;
      is = one (printed_lines ns) (policy_lines_of_text (printed_lines ns)) (Ok there.read) (read (printed_lines ns)) (policy, joined);
      same = there.same;
    }

-- The printed text of rules is read as lines that say the same, if the rules can be written and their definitions can stand.
pub writable_rules_are_read_when_printed : PrintedLineReadsBack → PrintedLineIsLogicalLine → PrintedLinesAreCutEach → TextHasItsReadOutcome → ReadOutcomeIsUnique → (lines : List Line) → CanDefinitionsFormPolicy (definitions_of_lines lines) → AllByRecursion IsWritableNode (rule_nodes_in_print_order (rules_of_policy_lines lines))
    → is_printed_within_limits (rules_of_policy_lines lines) ≡ true → IsTextReadAsSameNodes (printed_rules (rules_of_policy_lines lines)) (rule_nodes_in_print_order (rules_of_policy_lines lines))
writable_rules_are_read_when_printed print alone cut read one lines may written size = printed_rule_nodes_are_read print alone cut read one lines (rule_nodes_in_print_order (rules_of_policy_lines lines)) may refl written size

-- The printed text of the rules of a policy is read as lines that say the same.
pub printed_rules_of_policy_are_read : PrintedLineReadsBack → PrintedLineIsLogicalLine → PrintedLinesAreCutEach → TextHasItsReadOutcome → ReadOutcomeIsUnique → ((lines : List Line) → AreWalkLinesWithoutNul lines → AllByRecursion IsWritableNode (rule_nodes_in_print_order (rules_of_policy_lines lines))) → (lines : List Line) → AreWalkLinesWithoutNul lines → is_printed_within_limits (rules_of_policy_lines lines) ≡ true → IsTextReadAsSameNodes (printed_rules (rules_of_policy_lines lines)) (rule_nodes_in_print_order (rules_of_policy_lines lines))
printed_rules_of_policy_are_read print alone cut read one written lines is size =
    writable_rules_are_read_when_printed print alone cut read one lines (record { free = is.walk.free; once = is.walk.once; few = is.walk.few }) (written lines is) size
