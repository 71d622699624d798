-- What is read of a line is what the line says, or its first fault.
use Rattle.std.proofs.Common.{◌≡◌, ◌⊎◌, ℕ, ◌-◌, List, ◌++◌, length, take, drop, Result, Ok, Err, refl, ap, ◌∙◌, subst, inl, inr, IfOk, IfErr, length-append, arith}
use Rattle.std.proofs.Math.Seq.{drop-append_seam, take-append_seam}
use Rattle.sudoers_text.specs.declared.token.Mode.{Mode}
use Rattle.sudoers_text.specs.declared.token.Token.{Token}
use Rattle.sudoers_text.specs.Token.{HasTokens}
use Rattle.sudoers_text.specs.Found.{tokens_of_line}
use Rattle.sudoers_text.specs.LineMode.{line_mode}
use Rattle.sudoers_grammar.specs.declared.fault.Why.{Why}
use Rattle.sudoers_grammar.specs.declared.fault.LineFault.{LineFault}
use Rattle.sudoers_grammar.specs.declared.fault.LineFault.TheVariants.{Syntax, NoMemory}
use Rattle.sudoers_grammar.specs.Node.{Node}
use Rattle.sudoers_grammar.specs.Piece.{TokenWithBytes, tokens_with_bytes}
use Rattle.sudoers_grammar.specs.Grammar.{Reads}
use Rattle.sudoers_grammar.specs.Fault.{IsFirstSyntaxFault}
use Rattle.sudoers_grammar.specs.Line.{LineReadsAsNode, IsLineSyntaxFault, IsFaultOfLine, HasSyntaxFault, ReturnsNodeOrNoMemory, ReturnsFaultOrNoMemory, line_stop_before_line_end, first_token_start_or}
use Rattle.sudoers_line_reader.specs.Reader.{ReadOutcome, Read, Halt}
use Rattle.sudoers_line_reader.specs.Descent.{whole_line_reader as reading, cause_at_first_token}
use Rattle.sudoers_line_reader.specs.Outcome.{fault_after_tokens, line_outcome_of_reading, outcome_of_line, IsOutcomeOfLine, IsLineOutcomeOrNoMemory}
use Rattle.sudoers_line_reader.proofs.First.{read_tokens_are_entire_line, halt_is_first_syntax_fault}
use Rattle.sudoers_line_reader.proofs.First.{node_of_tokens_is_unique as tokens_say_one}

-- lines have one list of tokens in each mode
abbrev pub LinesHaveUniqueTokens : Type 0
LinesHaveUniqueTokens = (mode : Mode) (line : List ℕ) (tokens others : List Token) → HasTokens mode line tokens → HasTokens mode line others → tokens ≡ others

abbrev pub LinesHaveComputedTokens : Type 0
LinesHaveComputedTokens = (mode : Mode) (line : List ℕ) → HasTokens mode line (tokens_of_line mode line)

pub node_of_line_is_unique : LinesHaveUniqueTokens → (line : List ℕ) (n m : Node) → LineReadsAsNode line n → LineReadsAsNode line m → n ≡ m
node_of_line_is_unique one line n m first second =
    let same = one (line_mode line) line first.tokens second.tokens first.has second.has in
    tokens_say_one (tokens_with_bytes line second.tokens) n m (subst (λ (ts : List Token). Reads (tokens_with_bytes line ts) n) same first.reads) second.reads

-- ---- the outcome

length_difference_is_length_of_front : (before rest : List TokenWithBytes) → length (before ++ rest) - length rest ≡ length before
length_difference_is_length_of_front before rest = omega (arith, length-append before rest)

module _ (line : List ℕ) (tokens : List Token) (has : HasTokens (line_mode line) line tokens) where
  halted : (ts before rest : List TokenWithBytes) → ts ≡ tokens_with_bytes line tokens → ts ≡ before ++ rest → IsFirstSyntaxFault ts rest (cause_at_first_token before rest)
      → IsOutcomeOfLine line (Err (fault_after_tokens (line_stop_before_line_end line) (length ts - length rest) ts))
  halted ts before rest are split first =
      let count : length ts - length rest ≡ length before = ap (λ (l : List TokenWithBytes). length l - length rest) split ∙ length_difference_is_length_of_front before rest in
      let behind : drop (length ts - length rest) ts ≡ rest = ap (λ n. drop n ts) count ∙ ap (drop (length before)) split ∙ drop-append_seam before rest in
      let front : take (length ts - length rest) ts ≡ before = ap (λ n. take n ts) count ∙ ap (take (length before)) split ∙ take-append_seam before rest in
      let why : cause_at_first_token before rest ≡ cause_at_first_token (take (length ts - length rest) ts) (drop (length ts - length rest) ts) = cc in
      record {
        tokens = tokens;
        has = has;
        rest = rest;
        first = subst (λ (l : List TokenWithBytes). IsFirstSyntaxFault l rest (cause_at_first_token (take (length ts - length rest) ts) (drop (length ts - length rest) ts))) are
            (subst (λ (w : Why). IsFirstSyntaxFault ts rest w) why first);
        place = ap (first_token_start_or (line_stop_before_line_end line)) behind;
      }

  outcome_by_is : (o : ReadOutcome Node) → reading (tokens_with_bytes line tokens) ≡ o → IsOutcomeOfLine line (line_outcome_of_reading (line_stop_before_line_end line) (tokens_with_bytes line tokens) o)
  outcome_by_is (Read n rest) e = record { tokens = tokens; has = has; reads = (read_tokens_are_entire_line (tokens_with_bytes line tokens) n rest e).1 }
  outcome_by_is (Halt rest) e =
      let (before, split, first) = halt_is_first_syntax_fault (tokens_with_bytes line tokens) rest e in
      halted (tokens_with_bytes line tokens) before rest refl split first

-- What is computed is the line's outcome.
pub computed_outcome_is_outcome_of_line : LinesHaveComputedTokens → (line : List ℕ) → IsOutcomeOfLine line (outcome_of_line line)
unfolding outcome_of_line
computed_outcome_is_outcome_of_line are line =
    let tokens = tokens_of_line (line_mode line) line in
    outcome_by_is line tokens (are (line_mode line) line) (reading (tokens_with_bytes line tokens)) refl

outcome_of_line_is_node_or_syntax_fault : (line : List ℕ) (r : Result Node LineFault) → IsOutcomeOfLine line r → ((n : Node) × LineReadsAsNode line n) ⊎ HasSyntaxFault line
outcome_of_line_is_node_or_syntax_fault line (Ok n) h = inl (n, h)
outcome_of_line_is_node_or_syntax_fault line (Err (Syntax at w)) h = inr (at, w, h)
outcome_of_line_is_node_or_syntax_fault line (Err NoMemory) h = absurd h

-- A line says something, or it has a first fault.
pub line_has_node_or_syntax_fault : LinesHaveComputedTokens → (line : List ℕ) → ((n : Node) × LineReadsAsNode line n) ⊎ HasSyntaxFault line
line_has_node_or_syntax_fault are line = outcome_of_line_is_node_or_syntax_fault line (outcome_of_line line) (computed_outcome_is_outcome_of_line are line)

-- ---- what is answered

module _ (line : List ℕ) (is : IsOutcomeOfLine line (outcome_of_line line)) where
  pub found : (answer : Result Node LineFault) → IsLineOutcomeOrNoMemory answer (outcome_of_line line) → IfOk answer (λ n. LineReadsAsNode line n)
  found (Ok n) h = subst (IsOutcomeOfLine line) h is
  found (Err f) h = tt

  pub faulty : (answer : Result Node LineFault) → IsLineOutcomeOrNoMemory answer (outcome_of_line line) → IfErr answer (λ f. IsFaultOfLine line f)
  faulty (Ok n) h = tt
  faulty (Err (Syntax at w)) h = subst (IsOutcomeOfLine line) h is
  faulty (Err NoMemory) h = tt

  pub only : ((n m : Node) → LineReadsAsNode line n → LineReadsAsNode line m → n ≡ m) → ((n : Node) (at : ℕ) (w : Why) → LineReadsAsNode line n → IsLineSyntaxFault line at w → ⊥)
      → (answer : Result Node LineFault) (n : Node) → LineReadsAsNode line n → IsLineOutcomeOrNoMemory answer (outcome_of_line line) → ReturnsNodeOrNoMemory answer n
  only one none (Ok m) n reads h = one m n (found (Ok m) h) reads
  only one none (Err (Syntax at w)) n reads h = none n at w reads (faulty (Err (Syntax at w)) h)
  only one none (Err NoMemory) n reads h = tt

  pub refused : ((at other : ℕ) (w v : Why) → IsLineSyntaxFault line at w → IsLineSyntaxFault line other v → (at ≡ other) × (w ≡ v)) → ((n : Node) (at : ℕ) (w : Why) → LineReadsAsNode line n → IsLineSyntaxFault line at w → ⊥)
      → (answer : Result Node LineFault) (at : ℕ) (w : Why) → IsLineSyntaxFault line at w → IsLineOutcomeOrNoMemory answer (outcome_of_line line) → ReturnsFaultOrNoMemory answer at w
  refused one none (Ok n) at w halt_is_first_syntax_fault h = none n at w (found (Ok n) h) halt_is_first_syntax_fault
  refused one none (Err (Syntax a v)) at w halt_is_first_syntax_fault h = one a at v w (faulty (Err (Syntax a v)) h) halt_is_first_syntax_fault
  refused one none (Err NoMemory) at w halt_is_first_syntax_fault h = tt
