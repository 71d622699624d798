-- A text has an outcome.
use Rattle.sudoers_tree.proofs.Common.{AllByRecursion, Duplicate, Err, IsCorrectlyParsed, IsCutOutcome, IsFaultOfLineAfter, IsFaultlessCut, IsFirstFaultOfText, IsFirstLineFault, IsLineOutcome, IsNameFaultInLine}
use Rattle.sudoers_tree.proofs.Common.{IsPolicyOrFirstFaultOfText, Line, LineFault, LineReadsAsNode, List, Node, None, NotLoaded, Ok, Option, ReadFault, Reserved, Result, Some, Syntax, Text, TextFault, TooDeep, TooMany, Twice}
use Rattle.sudoers_tree.proofs.Common.{[], ap, append-nil, append_assoc, cut_outcome_of_text, definitions_in_line, definitions_of_lines, first_definition_fault, length, line_from_parse_outcome, line_or_fault_after}
use Rattle.sudoers_tree.proofs.Common.{line_result_and_then, lines_read_after, map-append, outcome_of_line, policy_lines_of_cut, policy_lines_of_text, refl, subst, sym, texts_of_lines, value_unless_fault, ℕ, ◌++◌}
use Rattle.sudoers_tree.proofs.Common.{◌∙◌, ◌∷◌, ◌≡◌}
use Rattle.sudoers_grammar.specs.declared.fault.LineFault.TheVariants as line_fault
use Rattle.sudoers_tree.specs.declared.fault.ReadFault.TheVariants.{NoMemory}
use Rattle.sudoers_tree.proofs.Joined.{definitions_with_last_line_are_appended}
use Rattle.sudoers_tree.proofs.Sound.{faultless_parts_have_faultless_append, definitions_without_fault_are_sound, first_fault_has_faulty_definition, IsFaultOfDefinitionName, fault_of_definition_is_name_fault, faultless_definitions_are_unreserved, faultless_definitions_have_distinct_names, faultless_definitions_are_within_limit}

-- the cut of a text is its outcome
abbrev pub ComputedCutsAreCutOutcomes : Type 0
ComputedCutsAreCutOutcomes = (text : List ℕ) → IsCutOutcome text (cut_outcome_of_text text)

-- what a line says, or its first fault, is its outcome
abbrev pub ComputedLineOutcomesAreLineOutcomes : Type 0
ComputedLineOutcomesAreLineOutcomes = (line : List ℕ) → IsLineOutcome line (outcome_of_line line)

-- ---- a line after others

-- the outcome of a line after the lines `before`
abbrev IsOutcomeOfLineAfter : List Line → List ℕ → Result Line ReadFault → Type 0
IsOutcomeOfLineAfter before text (Ok line) = (line.text ≡ text) × IsCorrectlyParsed line × (first_definition_fault [] (definitions_of_lines (before ++ line ∷ [])) ≡ None)
IsOutcomeOfLineAfter before text (Err fault) = IsFaultOfLineAfter before text fault

name_fault_in_line_is_line_fault : (before : List Line) (text : List ℕ) (fault : ReadFault) → IsFaultOfDefinitionName fault → IsNameFaultInLine before text fault
    → IsFaultOfLineAfter before text fault
name_fault_in_line_is_line_fault before text (Reserved k name) is wrong = wrong
name_fault_in_line_is_line_fault before text (Duplicate k name) is wrong = wrong
name_fault_in_line_is_line_fault before text (TooMany k) is wrong = wrong
name_fault_in_line_is_line_fault before text (NotLoaded row name) is wrong = absurd is
name_fault_in_line_is_line_fault before text (Twice row name) is wrong = absurd is
name_fault_in_line_is_line_fault before text (TooDeep row) is wrong = absurd is
name_fault_in_line_is_line_fault before text (Text fault) is wrong = absurd is
name_fault_in_line_is_line_fault before text (Syntax row col why) is wrong = absurd is
name_fault_in_line_is_line_fault before text NoMemory is wrong = absurd is

parsed_line_outcome_is_by_name_fault : (before : List Line) (text : List ℕ) (says : Node) → LineReadsAsNode text says → first_definition_fault [] (definitions_of_lines before) ≡ None
    → (o : Option ReadFault) → first_definition_fault (definitions_of_lines before) (definitions_in_line (length before) says) ≡ o
    → IsOutcomeOfLineAfter before text (value_unless_fault (record { text = text; node = says }) o)
parsed_line_outcome_is_by_name_fault before text says reads none None e = (
  refl,
  reads,
  ap (first_definition_fault []) (definitions_with_last_line_are_appended before (record { text = text; node = says }))
      ∙ faultless_parts_have_faultless_append (definitions_of_lines before) (definitions_in_line (length before) says) none e,
)
parsed_line_outcome_is_by_name_fault before text says reads none (Some fault) e =
    let first = first_fault_has_faulty_definition (definitions_of_lines before) (definitions_in_line (length before) says) fault e in
    name_fault_in_line_is_line_fault before text fault (fault_of_definition_is_name_fault (definitions_of_lines before ++ first.good) first.bad fault first.fault_is) (record {
      says = says;
      reads = reads;
      good = first.good;
      bad = first.bad;
      more = first.more;
      split = first.place;
      sound = definitions_without_fault_are_sound (definitions_of_lines before ++ first.good) (faultless_parts_have_faultless_append (definitions_of_lines before) first.good none first.none);
      fault_is = first.fault_is;
    })

parse_outcome_gives_outcome_of_line_after : (before : List Line) (text : List ℕ) → first_definition_fault [] (definitions_of_lines before) ≡ None
    → (r : Result Node LineFault) → IsLineOutcome text r → IsOutcomeOfLineAfter before text (line_from_parse_outcome before text r)
parse_outcome_gives_outcome_of_line_after before text none (Ok says) reads =
    parsed_line_outcome_is_by_name_fault before text says reads none (first_definition_fault (definitions_of_lines before) (definitions_in_line (length before) says)) refl
parse_outcome_gives_outcome_of_line_after before text none (Err (line_fault.Syntax at why)) first = record { at = at; first = first; row_is = refl; col_is = refl }
parse_outcome_gives_outcome_of_line_after before text none (Err line_fault.NoMemory) is = absurd is

line_or_fault_is_outcome_of_line_after : ComputedLineOutcomesAreLineOutcomes → (before : List Line) (text : List ℕ) → first_definition_fault [] (definitions_of_lines before) ≡ None
    → IsOutcomeOfLineAfter before text (line_or_fault_after before text)
unfolding line_or_fault_after
line_or_fault_is_outcome_of_line_after lines before text none = parse_outcome_gives_outcome_of_line_after before text none (outcome_of_line text) (lines text)

-- ---- the lines of a text

pub last_parsed_line_keeps_lines_parsed : (lines : List Line) (line : Line) → AllByRecursion IsCorrectlyParsed lines → IsCorrectlyParsed line → AllByRecursion IsCorrectlyParsed (lines ++ line ∷ [])
last_parsed_line_keeps_lines_parsed [] line all one = (one, tt)
last_parsed_line_keeps_lines_parsed (first ∷ lines) line all one = (all.0, last_parsed_line_keeps_lines_parsed lines line all.1 one)

-- the first text, moved to the lines before it
pub texts_with_line_moved_to_front_are_same : (before : List Line) (line : Line) (more : List (List ℕ)) → texts_of_lines before ++ line.text ∷ more ≡ texts_of_lines (before ++ line ∷ []) ++ more
texts_with_line_moved_to_front_are_same before line more =
    sym (ap (λ ts. ts ++ more) (map-append (λ (l : Line). l.text) before (line ∷ [])) ∙ append_assoc (texts_of_lines before) (line.text ∷ []) more)

first_line_fault_is_first_fault_of_text : (text : List ℕ) (fault : ReadFault) → IsFirstLineFault text fault → IsFirstFaultOfText text fault
first_line_fault_is_first_fault_of_text text (Syntax row col why) is = is
first_line_fault_is_first_fault_of_text text (Reserved k name) is = is
first_line_fault_is_first_fault_of_text text (Duplicate k name) is = is
first_line_fault_is_first_fault_of_text text (TooMany k) is = is
first_line_fault_is_first_fault_of_text text (NotLoaded row name) is = absurd is.wrong
first_line_fault_is_first_fault_of_text text (Twice row name) is = absurd is.wrong
first_line_fault_is_first_fault_of_text text (TooDeep row) is = absurd is.wrong
first_line_fault_is_first_fault_of_text text (Text fault) is = absurd is.wrong
first_line_fault_is_first_fault_of_text text NoMemory is = absurd is.wrong

-- The lines `before` are lines of the text, which parse and whose definitions have no fault. The texts `more` follow them.
record AreLinesReadOfText (text : List ℕ) (before : List Line) (more : List (List ℕ)) : Type 0 where
  cut : IsFaultlessCut text (texts_of_lines before ++ more)
  says : AllByRecursion IsCorrectlyParsed before
  none : first_definition_fault [] (definitions_of_lines before) ≡ None

lines_read_to_end_are_policy : (text : List ℕ) (before : List Line) → AreLinesReadOfText text before [] → IsPolicyOrFirstFaultOfText text (Ok before)
lines_read_to_end_are_policy text before read =
    let cut = subst (IsFaultlessCut text) (append-nil (texts_of_lines before)) read.cut in (
      record {
        cut = subst (λ bytes. IsFaultlessCut bytes (texts_of_lines before)) (sym cut.cuts.joined) cut;
        walk =
            record {
              says = read.says;
              free = faultless_definitions_are_unreserved (definitions_of_lines before) read.none;
              once = faultless_definitions_have_distinct_names (definitions_of_lines before) read.none;
              few = faultless_definitions_are_within_limit (definitions_of_lines before) read.none;
            };
      },
      cut.cuts.joined,
    )

outcome_of_line_extends_read_outcome : (text : List ℕ) (before : List Line) (line : List ℕ) (more : List (List ℕ)) → AreLinesReadOfText text before (line ∷ more)
    → (r : Result Line ReadFault) → IsOutcomeOfLineAfter before line r
    → ((l : Line) → AreLinesReadOfText text (before ++ l ∷ []) more → IsPolicyOrFirstFaultOfText text (lines_read_after (before ++ l ∷ []) more))
    → IsPolicyOrFirstFaultOfText text (line_result_and_then r (λ l. lines_read_after (before ++ l ∷ []) more))
outcome_of_line_extends_read_outcome text before line more read (Ok l) is later =
    later l (record {
      cut = subst (IsFaultlessCut text) (ap (λ t. texts_of_lines before ++ t ∷ more) (sym is.0) ∙ texts_with_line_moved_to_front_are_same before l more) read.cut;
      says = last_parsed_line_keeps_lines_parsed before l read.says is.1;
      none = is.2;
    })
outcome_of_line_extends_read_outcome text before line more read (Err fault) is later =
    first_line_fault_is_first_fault_of_text text fault (record {
      before = before;
      line = line;
      after = more;
      cut = read.cut;
      says = read.says;
      sound = definitions_without_fault_are_sound (definitions_of_lines before) read.none;
      wrong = is;
    })

lines_read_after_are_read_outcome : ComputedLineOutcomesAreLineOutcomes → (text : List ℕ) (before : List Line) (more : List (List ℕ)) → AreLinesReadOfText text before more
    → IsPolicyOrFirstFaultOfText text (lines_read_after before more)
lines_read_after_are_read_outcome lines text before [] read = lines_read_to_end_are_policy text before read
lines_read_after_are_read_outcome lines text before (line ∷ more) read =
    outcome_of_line_extends_read_outcome text before line more read (line_or_fault_after before line) (line_or_fault_is_outcome_of_line_after lines before line read.none)
    (λ l. lines_read_after_are_read_outcome lines text (before ++ l ∷ []) more)

policy_lines_of_cut_are_read_outcome : ComputedLineOutcomesAreLineOutcomes → (text : List ℕ) (r : Result (List (List ℕ)) TextFault) → IsCutOutcome text r → IsPolicyOrFirstFaultOfText text (policy_lines_of_cut r)
policy_lines_of_cut_are_read_outcome lines text (Ok ts) cut = lines_read_after_are_read_outcome lines text [] ts (record { cut = cut; says = tt; none = refl })
policy_lines_of_cut_are_read_outcome lines text (Err fault) is = is

-- The computed outcome is one of the text.
pub policy_lines_of_text_are_read_outcome : ComputedCutsAreCutOutcomes → ComputedLineOutcomesAreLineOutcomes → (text : List ℕ) → IsPolicyOrFirstFaultOfText text (policy_lines_of_text text)
unfolding policy_lines_of_text
policy_lines_of_text_are_read_outcome cuts lines text = policy_lines_of_cut_are_read_outcome lines text (cut_outcome_of_text text) (cuts text)
