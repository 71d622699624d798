-- What a line says is read, once and no more, and a halt is the first fault.
use Rattle.std.proofs.Common.{◌≡◌, true, List, [], ◌∷◌, ◌++◌, refl, sym, ap, ◌∙◌, subst, append_assoc, append-nil}
use Rattle.sudoers_grammar.specs.Node.{Node}
use Rattle.sudoers_grammar.specs.Piece.{TokenWithBytes}
use Rattle.sudoers_grammar.specs.Grammar.{Reads}
use Rattle.sudoers_grammar.specs.Fault.{IsLegalBeginning, IsLegalNextToken, sample_name_word, sample_time_stamp, sample_path_token, BoolReflectsFact as ToldBy, IsExpectedNext, IsSyntaxFaultCause, IsFirstSyntaxFault}
use Rattle.sudoers_line_reader.specs.Reader.{ReadOutcome, Read, Halt}
use Rattle.sudoers_line_reader.specs.Descent.{whole_line_reader, is_continuable_outcome, is_token_allowed_after, expected_tokens_after, cause_at_first_token}
use Rattle.sudoers_line_reader.proofs.Keeps.{HaveSameNextToken, OutcomeFollowsRule, is_token_of_full_test}
use Rattle.sudoers_line_reader.proofs.LineLaws.{IsEntireLineOfNode, whole_line_reader_follows_rule}

read_outcome_is_no_halt : (n : Node) (rest ts : List TokenWithBytes) → Read n rest ≡ Halt ts → ⊥
read_outcome_is_no_halt n rest ts e = cc

-- What tokens say is read, and all of them.
pub tokens_of_node_are_read_as_node : (ts : List TokenWithBytes) (n : Node) → Reads ts n → whole_line_reader ts ≡ Read n []
tokens_of_node_are_read_as_node ts n h = whole_line_reader_follows_rule.complete ts n [] (refl, h) refl

-- Tokens say one thing at most.
pub node_of_tokens_is_unique : (ts : List TokenWithBytes) (n m : Node) → Reads ts n → Reads ts m → n ≡ m
node_of_tokens_is_unique ts n m h g = let e : Read n [] ≡ Read m [] = sym (tokens_of_node_are_read_as_node ts n h) ∙ tokens_of_node_are_read_as_node ts m g in cc

told_read_outcome_is_entire_line : (ts : List TokenWithBytes) (o : ReadOutcome Node) (n : Node) (rest : List TokenWithBytes) → OutcomeFollowsRule whole_line_reader IsEntireLineOfNode is_token_of_full_test ts o → o ≡ Read n rest → IsEntireLineOfNode ts n rest
told_read_outcome_is_entire_line ts (Read m end) n rest h e =
    let same : m ≡ n = cc in
    let last : end ≡ rest = cc in
    subst (λ (l : List TokenWithBytes). IsEntireLineOfNode ts n l) last (subst (λ (x : Node). IsEntireLineOfNode ts x end) same h.now)
told_read_outcome_is_entire_line ts (Halt end) n rest h e = absurd (read_outcome_is_no_halt n rest end (sym e))

-- What is read, the tokens say, and none is left.
pub read_tokens_are_entire_line : (ts : List TokenWithBytes) (n : Node) (rest : List TokenWithBytes) → whole_line_reader ts ≡ Read n rest → IsEntireLineOfNode ts n rest
read_tokens_are_entire_line ts n rest e = told_read_outcome_is_entire_line ts (whole_line_reader ts) n rest (whole_line_reader_follows_rule.tells ts) e

-- A line that goes on further goes on with the next token.
pub front_of_legal_beginning_is_legal : (before more : List TokenWithBytes) → IsLegalBeginning (before ++ more) → IsLegalBeginning before
front_of_legal_beginning_is_legal before more (behind, n, reads) = (more ++ behind, n, subst (λ (ts : List TokenWithBytes). Reads ts n) (append_assoc before more behind) reads)

-- ---- where it halts

-- where the tokens before are legal, and the next is not
pub record IsHaltAtFirstIllegalToken (ts rest : List TokenWithBytes) : Type 0 where
  pub before : List TokenWithBytes
  pub split : ts ≡ before ++ rest
  pub legal : IsLegalBeginning before
  pub illegal : (t : TokenWithBytes) (more : List TokenWithBytes) → rest ≡ t ∷ more → IsLegalNextToken before t → ⊥
  pub ended : rest ≡ [] → (n : Node) → Reads ts n → ⊥

token_never_read_after_is_illegal : (front : List TokenWithBytes) (t : TokenWithBytes) → ((more : List TokenWithBytes) (n : Node) → whole_line_reader (front ++ t ∷ more) ≡ Read n [] → ⊥) → IsLegalNextToken front t → ⊥
token_never_read_after_is_illegal front t none (more, n, reads) = none more n (ap whole_line_reader (sym (append_assoc front (t ∷ []) more)) ∙ tokens_of_node_are_read_as_node ((front ++ t ∷ []) ++ more) n reads)

told_halt_is_at_first_illegal_token : (ts : List TokenWithBytes) (o : ReadOutcome Node) (rest : List TokenWithBytes) → whole_line_reader ts ≡ o → OutcomeFollowsRule whole_line_reader IsEntireLineOfNode is_token_of_full_test ts o → o ≡ Halt rest → IsHaltAtFirstIllegalToken ts rest
told_halt_is_at_first_illegal_token ts (Read n end) rest is h e = absurd (read_outcome_is_no_halt n end rest e)
told_halt_is_at_first_illegal_token ts (Halt end) rest is h e =
    let same : end ≡ rest = cc in
    let line_is : IsEntireLineOfNode (h.front ++ (h.legal.more ++ [])) h.legal.what [] = h.legal.is [] refl in
    subst (IsHaltAtFirstIllegalToken ts) same (record {
      before = h.front;
      split = h.split;
      legal = (h.legal.more, h.legal.what, subst (λ (l : List TokenWithBytes). Reads (h.front ++ l) h.legal.what) (append-nil h.legal.more) line_is.1);
      illegal = λ t more at. token_never_read_after_is_illegal h.front t (λ others n f. read_outcome_is_no_halt n [] (t ∷ others) (sym f ∙ h.local (t ∷ others) (subst (λ (l : List TokenWithBytes). HaveSameNextToken l (t ∷ others)) (sym at) refl)));
      ended = λ none n says. read_outcome_is_no_halt n [] end (sym (tokens_of_node_are_read_as_node ts n says) ∙ is);
    })

pub line_reader_halts_at_first_illegal_token : (ts rest : List TokenWithBytes) → whole_line_reader ts ≡ Halt rest → IsHaltAtFirstIllegalToken ts rest
line_reader_halts_at_first_illegal_token ts rest e = told_halt_is_at_first_illegal_token ts (whole_line_reader ts) rest refl (whole_line_reader_follows_rule.tells ts) e

-- ---- what may stand there

continuable_outcome_is_legal_beginning : (ts : List TokenWithBytes) (o : ReadOutcome Node) → whole_line_reader ts ≡ o → (is_continuable_outcome o ≡ true → IsLegalBeginning ts) × (IsLegalBeginning ts → is_continuable_outcome o ≡ true)
continuable_outcome_is_legal_beginning ts (Read n rest) e = (λ _. ([], n, subst (λ (l : List TokenWithBytes). Reads l n) (sym (append-nil ts)) (read_tokens_are_entire_line ts n rest e).1), λ _. refl)
continuable_outcome_is_legal_beginning ts (Halt []) e = let h = line_reader_halts_at_first_illegal_token ts [] e in (λ _. subst IsLegalBeginning (sym (h.split ∙ append-nil h.before)) h.legal, λ _. refl)
continuable_outcome_is_legal_beginning ts (Halt (t ∷ rest)) e =
    let h = line_reader_halts_at_first_illegal_token ts (t ∷ rest) e in
    (λ f. absurd cc, λ legal. absurd (h.illegal t rest refl (front_of_legal_beginning_is_legal (h.before ++ t ∷ []) rest (subst IsLegalBeginning (h.split ∙ sym (append_assoc h.before (t ∷ []) rest)) legal))))

allowed_token_is_legal_next_token : (before : List TokenWithBytes) (t : TokenWithBytes) → ToldBy (is_token_allowed_after before t) (IsLegalNextToken before t)
allowed_token_is_legal_next_token before t = continuable_outcome_is_legal_beginning (before ++ t ∷ []) (whole_line_reader (before ++ t ∷ [])) refl

pub computed_expected_tokens_are_expected : (before : List TokenWithBytes) → IsExpectedNext before (expected_tokens_after before)
computed_expected_tokens_are_expected before = record { word = allowed_token_is_legal_next_token before sample_name_word; stamp = allowed_token_is_legal_next_token before sample_time_stamp; path = allowed_token_is_legal_next_token before sample_path_token }

computed_cause_is_syntax_fault_cause : (before rest : List TokenWithBytes) → IsSyntaxFaultCause before rest (cause_at_first_token before rest)
computed_cause_is_syntax_fault_cause before [] = refl
computed_cause_is_syntax_fault_cause before (t ∷ rest) = (expected_tokens_after before, computed_expected_tokens_are_expected before, refl)

-- Where the descent halts is the first fault, with its cause.
pub halt_is_first_syntax_fault : (ts rest : List TokenWithBytes) → whole_line_reader ts ≡ Halt rest → (before : List TokenWithBytes) × (ts ≡ before ++ rest) × IsFirstSyntaxFault ts rest (cause_at_first_token before rest)
halt_is_first_syntax_fault ts rest e =
    let h = line_reader_halts_at_first_illegal_token ts rest e in
    (h.before, h.split, record { before = h.before; split = h.split; legal = h.legal; illegal = h.illegal; ended = h.ended; cause = computed_cause_is_syntax_fault_cause h.before rest })
