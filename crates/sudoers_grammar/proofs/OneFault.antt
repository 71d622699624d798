-- A line has one first fault.
use Rattle.std.proofs.Common.{◌≡◌, Bool, true, false, List, [], ◌∷◌, ◌++◌, refl, sym, ap, ◌∙◌, subst, append_assoc, append-nil}
use Rattle.sudoers_grammar.specs.declared.fault.Why.{Why}
use Rattle.sudoers_grammar.specs.declared.expected_tokens.ExpectedTokens.{ExpectedTokens}
use Rattle.sudoers_grammar.specs.Node.{Node}
use Rattle.sudoers_grammar.specs.Piece.{TokenWithBytes}
use Rattle.sudoers_grammar.specs.Grammar.{Reads}
use Rattle.sudoers_grammar.specs.Fault.{IsLegalBeginning, IsLegalNextToken, BoolReflectsFact, IsExpectedNext, syntax_fault_cause, IsSyntaxFaultCause, IsFirstSyntaxFault}

-- ---- two fronts of a line

-- One front is shorter than another by this token and those that follow.
pub record IsShorterFrontOfLine (short rest long others : List TokenWithBytes) : Type 0 where
  pub token : TokenWithBytes
  pub more : List TokenWithBytes
  pub long_is : long ≡ short ++ token ∷ more
  pub rest_is : rest ≡ token ∷ more ++ others

-- Two fronts of a line are the same, or one of them is shorter.
data AreFrontsOfOneLine (a r b s : List TokenWithBytes) : Type 0 where
  same : a ≡ b → r ≡ s → AreFrontsOfOneLine a r b s
  shorter : IsShorterFrontOfLine a r b s → AreFrontsOfOneLine a r b s
  longer : IsShorterFrontOfLine b s a r → AreFrontsOfOneLine a r b s

fronts_with_equal_first_token_compare_same : (t u : TokenWithBytes) (a r b s : List TokenWithBytes) → t ≡ u → AreFrontsOfOneLine a r b s → AreFrontsOfOneLine (t ∷ a) r (u ∷ b) s
fronts_with_equal_first_token_compare_same t u a r b s e (same f g) = same (cc) g
fronts_with_equal_first_token_compare_same t u a r b s e (shorter h) = shorter (record { token = h.token; more = h.more; long_is = let l = h.long_is in cc; rest_is = h.rest_is })
fronts_with_equal_first_token_compare_same t u a r b s e (longer h) = longer (record { token = h.token; more = h.more; long_is = let l = h.long_is in cc; rest_is = h.rest_is })

fronts_of_line_are_comparable : (a r b s : List TokenWithBytes) → a ++ r ≡ b ++ s → AreFrontsOfOneLine a r b s
fronts_of_line_are_comparable [] r [] s e = same refl e
fronts_of_line_are_comparable [] r (u ∷ b) s e = shorter (record { token = u; more = b; long_is = refl; rest_is = e })
fronts_of_line_are_comparable (t ∷ a) r [] s e = longer (record { token = t; more = a; long_is = refl; rest_is = sym e })
fronts_of_line_are_comparable (t ∷ a) r (u ∷ b) s e = let first : t ≡ u = cc in let behind : a ++ r ≡ b ++ s = cc in fronts_with_equal_first_token_compare_same t u a r b s first (fronts_of_line_are_comparable a r b s behind)

-- A line that goes on further goes on with the next token.
legal_beginning_has_legal_next_token : (before more : List TokenWithBytes) (t : TokenWithBytes) → IsLegalBeginning (before ++ t ∷ more) → IsLegalNextToken before t
legal_beginning_has_legal_next_token before more t (behind, n, reads) =
    (more ++ behind, n, subst (λ (ts : List TokenWithBytes). Reads ts n) (append_assoc before (t ∷ more) behind ∙ sym (append_assoc before (t ∷ []) (more ++ behind))) reads)

-- The front of a first fault isn't shorter than that of another.
first_fault_front_is_not_shorter : (ts rest others : List TokenWithBytes) (w v : Why) (f : IsFirstSyntaxFault ts rest w) (g : IsFirstSyntaxFault ts others v) → IsShorterFrontOfLine f.before rest g.before others → ⊥
first_fault_front_is_not_shorter ts rest others w v f g h =
    f.illegal h.token (h.more ++ others) h.rest_is (legal_beginning_has_legal_next_token f.before h.more h.token (subst IsLegalBeginning h.long_is g.legal))

-- A line that says something has no fault.
pub line_read_has_no_first_fault : (ts rest : List TokenWithBytes) (w : Why) (n : Node) → IsFirstSyntaxFault ts rest w → Reads ts n → ⊥
line_read_has_no_first_fault ts [] w n f reads = f.ended refl n reads
line_read_has_no_first_fault ts (t ∷ rest) w n f reads = f.illegal t rest refl (legal_beginning_has_legal_next_token f.before rest t ([], n, subst (λ (x : List TokenWithBytes). Reads x n) (f.split ∙ sym (append-nil (f.before ++ t ∷ rest))) reads))

-- ---- the cause

-- What tells the same is the same.
truth_values_of_one_fact_are_equal : (a b : Bool) (fact : Type 0) → BoolReflectsFact a fact → BoolReflectsFact b fact → a ≡ b
truth_values_of_one_fact_are_equal true true fact f g = refl
truth_values_of_one_fact_are_equal false false fact f g = refl
truth_values_of_one_fact_are_equal true false fact f g = sym (g.1 (f.0 refl))
truth_values_of_one_fact_are_equal false true fact f g = f.1 (g.0 refl)

abbrev expected_tokens_by_truth_values : Bool → Bool → Bool → ExpectedTokens
expected_tokens_by_truth_values word stamp path = record { word = word; stamp = stamp; path = path }

expected_tokens_of_equal_truths_are_equal : (a b c d e f : Bool) → a ≡ d → b ≡ e → c ≡ f → expected_tokens_by_truth_values a b c ≡ expected_tokens_by_truth_values d e f
expected_tokens_of_equal_truths_are_equal a b c d e f first second third = cc

expected_next_tokens_are_unique : (before : List TokenWithBytes) (p q : ExpectedTokens) → IsExpectedNext before p → IsExpectedNext before q → p ≡ q
expected_next_tokens_are_unique before p q f g =
    expected_tokens_of_equal_truths_are_equal p.word p.stamp p.path q.word q.stamp q.path (truth_values_of_one_fact_are_equal p.word q.word _ f.word g.word) (truth_values_of_one_fact_are_equal p.stamp q.stamp _ f.stamp g.stamp) (truth_values_of_one_fact_are_equal p.path q.path _ f.path g.path)

syntax_fault_cause_is_unique : (before rest : List TokenWithBytes) (w v : Why) → IsSyntaxFaultCause before rest w → IsSyntaxFaultCause before rest v → w ≡ v
syntax_fault_cause_is_unique before [] w v f g = f ∙ sym g
syntax_fault_cause_is_unique before (t ∷ rest) w v (p, is, f) (q, is_also, g) = f ∙ ap (λ (x : ExpectedTokens). syntax_fault_cause x t) (expected_next_tokens_are_unique before p q is is_also) ∙ sym g

fault_cause_at_equal_fronts_is_unique : (before also rest others : List TokenWithBytes) (w v : Why) → before ≡ also → rest ≡ others → IsSyntaxFaultCause before rest w → IsSyntaxFaultCause also others v → w ≡ v
fault_cause_at_equal_fronts_is_unique before also rest others w v e r f g =
    syntax_fault_cause_is_unique before rest w v f (subst (λ (x : List TokenWithBytes). IsSyntaxFaultCause x rest v) (sym e) (subst (λ (x : List TokenWithBytes). IsSyntaxFaultCause also x v) (sym r) g))

faults_with_compared_fronts_are_equal : (ts rest others : List TokenWithBytes) (w v : Why) (f : IsFirstSyntaxFault ts rest w) (g : IsFirstSyntaxFault ts others v) → AreFrontsOfOneLine f.before rest g.before others → (rest ≡ others) × (w ≡ v)
faults_with_compared_fronts_are_equal ts rest others w v f g (same e r) = (r, fault_cause_at_equal_fronts_is_unique f.before g.before rest others w v e r f.cause g.cause)
faults_with_compared_fronts_are_equal ts rest others w v f g (shorter h) = absurd (first_fault_front_is_not_shorter ts rest others w v f g h)
faults_with_compared_fronts_are_equal ts rest others w v f g (longer h) = absurd (first_fault_front_is_not_shorter ts others rest v w g f h)

-- A line has one first fault, and one cause of it.
pub first_syntax_fault_is_unique : (ts rest others : List TokenWithBytes) (w v : Why) → IsFirstSyntaxFault ts rest w → IsFirstSyntaxFault ts others v → (rest ≡ others) × (w ≡ v)
first_syntax_fault_is_unique ts rest others w v f g = faults_with_compared_fronts_are_equal ts rest others w v f g (fronts_of_line_are_comparable f.before rest g.before others (sym f.split ∙ g.split))
