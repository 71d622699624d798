-- Laws of lines.
use Rattle.std.proofs.Common.{◌≡◌, ℕ, List, sym, ap, ◌∙◌, subst}
use Rattle.sudoers_text.specs.declared.token.Mode.{Mode}
use Rattle.sudoers_text.specs.declared.token.Token.{Token}
use Rattle.sudoers_text.specs.Token.{HasTokens}
use Rattle.sudoers_text.specs.LineMode.{line_mode}
use Rattle.sudoers_grammar.specs.declared.fault.Why.{Why}
use Rattle.sudoers_grammar.specs.Node.{Node}
use Rattle.sudoers_grammar.specs.Piece.{tokens_with_bytes}
use Rattle.sudoers_grammar.specs.Grammar.{Reads}
use Rattle.sudoers_grammar.specs.Fault.{IsFirstSyntaxFault}
use Rattle.sudoers_grammar.specs.Line.{LineReadsAsNode, IsLineSyntaxFault, line_stop_before_line_end, first_token_start_or}
use Rattle.sudoers_grammar.proofs.OneFault.{first_syntax_fault_is_unique, line_read_has_no_first_fault}

-- lines have one list of tokens in each mode
abbrev pub HaveUniqueTokenLists : Type 0
HaveUniqueTokenLists = (mode : Mode) (line : List ℕ) (tokens others : List Token) → HasTokens mode line tokens → HasTokens mode line others → tokens ≡ others

pub line_read_as_node_has_no_fault : HaveUniqueTokenLists → (line : List ℕ) (n : Node) (at : ℕ) (w : Why) → LineReadsAsNode line n → IsLineSyntaxFault line at w → ⊥
line_read_as_node_has_no_fault one line n at w says faulty =
    let same = one (line_mode line) line says.tokens faulty.tokens says.has faulty.has in
    line_read_has_no_first_fault (tokens_with_bytes line faulty.tokens) faulty.rest w n faulty.first (subst (λ (ts : List Token). Reads (tokens_with_bytes line ts) n) same says.reads)

pub syntax_fault_of_line_is_unique : HaveUniqueTokenLists → (line : List ℕ) (at other : ℕ) (w v : Why) → IsLineSyntaxFault line at w → IsLineSyntaxFault line other v → (at ≡ other) × (w ≡ v)
syntax_fault_of_line_is_unique one line at other w v first second =
    let same = one (line_mode line) line first.tokens second.tokens first.has second.has in
    let fault = first_syntax_fault_is_unique (tokens_with_bytes line second.tokens) first.rest second.rest w v (subst (λ (ts : List Token). IsFirstSyntaxFault (tokens_with_bytes line ts) first.rest w) same first.first) second.first in
    (first.place ∙ ap (first_token_start_or (line_stop_before_line_end line)) fault.0 ∙ sym second.place, fault.1)
