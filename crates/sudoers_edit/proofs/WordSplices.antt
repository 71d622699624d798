-- The tokens of a `,` and a word put into a line.
use Rattle.std.proofs.Common.{◌≡◌, ℕ, zero, suc, ◌+◌, ◌-◌, Bool, true, false, List, [], ◌∷◌, ◌++◌, length, take, drop, refl, sym, ap, ◌∙◌, arith, append_assoc, Some}
use Rattle.std.specs.Prelude.{◌==◌, if◌then◌else◌, slice_range, nat_lt}
use Rattle.std.specs.List.{list_all}
use Rattle.std.proofs.lemmas.List.{length-append, take_at}
use Rattle.sudoers_text.specs.declared.part.ByteRunKind.TheVariants as rule
use Rattle.sudoers_text.specs.declared.token.TokenKind.TheVariants as kind
use Rattle.sudoers_text.specs.declared.token.Token.{Token}
use Rattle.sudoers_text.specs.declared.context.TokenContext.TheVariants as context
use Rattle.sudoers_text.specs.Unit.{is_blank}
use Rattle.sudoers_text.specs.Part.{is_punct, is_word_byte, leading_run_size}
use Rattle.sudoers_text.specs.Context.{token_forms_in_word_lists}
use Rattle.sudoers_text.specs.Found.{kind_and_size_after_units}
use Rattle.sudoers_text.specs.Token.{units_left_of_place, leading_gap_size, is_line_end_or_empty, AreTokensFrom}
use Rattle.sudoers_text.proofs.Ahead.{bytes_told_apart_by_test_are_unequal}
use Rattle.sudoers_text.proofs.Sizes.{positive_number_passes_positive_test}
use Rattle.sudoers_grammar.specs.declared.node.Kind.{Kind}
use Rattle.sudoers_grammar.specs.declared.node.Kind.TheVariants.{User, Runas, Host, Cmnd}
use Rattle.sudoers_grammar.specs.declared.node.Atom.{Atom}
use Rattle.sudoers_grammar.specs.Piece.{TokenWithBytes, token_with_bytes, is_mark_of_byte}
use Rattle.sudoers_grammar.specs.Atom.{atom_of_token}
use Rattle.sudoers_grammar.specs.Grammar.{IsMark}
use Rattle.sudoers_edit.specs.internal.Plain.{is_plain_byte, ArePlainBytes}
use Rattle.sudoers_edit.proofs.PlainRuns.{run_past_plain_byte, gap_past_plain_byte}
use Rattle.sudoers_edit.proofs.PlainFound.{kind_and_size_by_mark_or_word, token_of_plain_bytes_after_units}
use Rattle.sudoers_edit.proofs.TokensBefore.{found_word_token_before_tokens, plain_byte_is_no_line_end}
use Rattle.sudoers_edit.proofs.TokensBehind.{bytes_past_front}
use Rattle.sudoers_edit.proofs.GainLines.{StandBeforeOthers}
use Rattle.sudoers_edit.proofs.PlainCuts.{both_hold}

word_byte_is_no_blank : (b : ℕ) → is_word_byte b ≡ true → is_blank b ≡ false
word_byte_is_no_blank b h =
    let blank : (b == 32) ≡ false = bytes_told_apart_by_test_are_unequal is_word_byte 32 b h refl in
    let tab : (b == 9) ≡ false = bytes_told_apart_by_test_are_unequal is_word_byte 9 b h refl in
    rw (blank, tab) refl

word_byte_is_no_mark : (b : ℕ) → is_word_byte b ≡ true → is_punct b ≡ false
word_byte_is_no_mark b h =
    let a : (b == 33) ≡ false = bytes_told_apart_by_test_are_unequal is_word_byte 33 b h refl in
    let c : (b == 61) ≡ false = bytes_told_apart_by_test_are_unequal is_word_byte 61 b h refl in
    let d : (b == 58) ≡ false = bytes_told_apart_by_test_are_unequal is_word_byte 58 b h refl in
    let e : (b == 44) ≡ false = bytes_told_apart_by_test_are_unequal is_word_byte 44 b h refl in
    let f : (b == 40) ≡ false = bytes_told_apart_by_test_are_unequal is_word_byte 40 b h refl in
    let g : (b == 41) ≡ false = bytes_told_apart_by_test_are_unequal is_word_byte 41 b h refl in
    rw (a, c, d, e, f, g) refl

blanks_are_gap : (gap : List ℕ) (b : ℕ) (xs : List ℕ) → list_all is_blank gap ≡ true → ArePlainBytes gap → is_blank b ≡ false → is_plain_byte b ≡ true → leading_gap_size (gap ++ b ∷ xs) ≡ length gap
blanks_are_gap [] b xs blanks plain none h = gap_past_plain_byte b xs h ∙ ap (λ (t : Bool). if t then suc (leading_run_size rule.Gap xs) else 0) none
blanks_are_gap (a ∷ gap) b xs blanks plain none h =
    let both = both_hold (is_blank a) (list_all is_blank gap) blanks in
    gap_past_plain_byte a (gap ++ b ∷ xs) plain.0 ∙ ap (λ (t : Bool). if t then suc (leading_run_size rule.Gap (gap ++ b ∷ xs)) else 0) both.0
    ∙ ap (λ (n : ℕ). suc n) (blanks_are_gap gap b xs both.1 plain.1 none h)

word_bytes_are_run : (word s : List ℕ) → list_all is_word_byte word ≡ true → ArePlainBytes word → leading_run_size rule.Word s ≡ 0 → leading_run_size rule.Word (word ++ s) ≡ length word
word_bytes_are_run [] s words plain none = none
word_bytes_are_run (b ∷ word) s words plain none =
    let both = both_hold (is_word_byte b) (list_all is_word_byte word) words in
    run_past_plain_byte b (word ++ s) plain.0 ∙ ap (λ (t : Bool). if t then suc (leading_run_size rule.Word (word ++ s)) else 0) both.0
    ∙ ap (λ (n : ℕ). suc n) (word_bytes_are_run word s both.1 plain.1 none)

-- the two tokens
abbrev pub mark_token_at : ℕ → Token
mark_token_at at = record { kind = kind.Punct; start = at; stop = at + 1 }

abbrev pub word_token_at : ℕ → ℕ → Token
word_token_at start stop = record { kind = kind.Word; start = start; stop = stop }

abbrev pub tokens_of_word_splice : ℕ → ℕ → ℕ → List Token
tokens_of_word_splice at gap stop = mark_token_at at ∷ word_token_at (at + 1 + gap) stop ∷ []

-- what is left from the word on
bytes_from_word : (p gap word s : List ℕ) (n : ℕ) → n ≡ length p + 1 + length gap → drop n (p ++ ((44 ∷ (gap ++ word)) ++ s)) ≡ word ++ s
bytes_from_word p gap word s n e =
    bytes_past_front p ((44 ∷ (gap ++ word)) ++ s) n (suc (length gap)) (omega (arith, e))
    ∙ ap (drop (length gap)) (append_assoc gap word s) ∙ bytes_past_front gap (word ++ s) (length gap) 0 (omega arith)

bytes_behind_mark : (p gap word s : List ℕ) (n : ℕ) → n ≡ length p + 1 → drop n (p ++ ((44 ∷ (gap ++ word)) ++ s)) ≡ gap ++ (word ++ s)
bytes_behind_mark p gap word s n e = bytes_past_front p ((44 ∷ (gap ++ word)) ++ s) n (suc zero) (omega (arith, e)) ∙ append_assoc gap word s

pub word_splice_stands_before_others : (p gap : List ℕ) (b : ℕ) (more s : List ℕ) → list_all is_blank gap ≡ true → ArePlainBytes gap → list_all is_word_byte (b ∷ more) ≡ true → ArePlainBytes (b ∷ more)
    → leading_run_size rule.Word s ≡ 0
    → StandBeforeOthers (p ++ ((44 ∷ (gap ++ b ∷ more)) ++ s)) (length p) (tokens_of_word_splice (length p) (length gap) (length (p ++ (44 ∷ (gap ++ b ∷ more))))) (length (p ++ (44 ∷ (gap ++ b ∷ more))))
word_splice_stands_before_others p gap b more s blanks plain_gap words plain none us are =
    let word : List ℕ = b ∷ more in
    let w : List ℕ = 44 ∷ (gap ++ word) in
    let line : List ℕ = p ++ (w ++ s) in
    let at : ℕ = length p in
    let start : ℕ = at + 1 + length gap in
    let stop : ℕ = length (p ++ w) in
    let both = both_hold (is_word_byte b) (list_all is_word_byte more) words in
    let size : stop ≡ start + length word = omega (arith, length-append p w, length-append gap word) in
    let from_word : drop start line ≡ word ++ s = bytes_from_word p gap word s start refl in
    let gap_is : leading_gap_size (drop (at + 1) line) ≡ length gap =
    ap leading_gap_size (bytes_behind_mark p gap word s (at + 1) refl) ∙ blanks_are_gap gap b (more ++ s) blanks plain_gap (word_byte_is_no_blank b both.0) plain.0 in
    let units = units_left_of_place line start in
    let found : (kind.Word, stop - start) ≡ kind_and_size_after_units token_forms_in_word_lists units (drop start line) =
    by_size (stop - start) (length more) (leading_run_size rule.Word (word ++ s)) (is_punct b) (omega (arith, size)) (word_bytes_are_run word s words plain none) (word_byte_is_no_mark b both.0)
    ∙ sym (token_of_plain_bytes_after_units units b (more ++ s) plain.0)
    ∙ ap (kind_and_size_after_units token_forms_in_word_lists units) (sym from_word) in
    let word_stands : AreTokensFrom context.Words line (at + 1) (word_token_at start stop ∷ us) =
    found_word_token_before_tokens line (at + 1) (word_token_at start stop) us (omega (arith, gap_is)) (ap is_line_end_or_empty from_word ∙ plain_byte_is_no_line_end b (more ++ s) plain.0)
    (omega (arith, size)) found are in
    let from_mark : drop at line ≡ 44 ∷ ((gap ++ word) ++ s) = bytes_past_front p (w ++ s) at 0 (omega arith) in
    let no_gap : leading_gap_size (drop at line) ≡ 0 = ap leading_gap_size from_mark ∙ gap_past_plain_byte 44 ((gap ++ word) ++ s) refl in
    let mark_units = units_left_of_place line at in
    let mark_size : at + 1 - at ≡ 1 = omega arith in
    found_word_token_before_tokens line at (mark_token_at at) (word_token_at start stop ∷ us) (omega (arith, no_gap)) (ap is_line_end_or_empty from_mark ∙ plain_byte_is_no_line_end 44 ((gap ++ word) ++ s) refl)
    (omega arith)
    (ap (λ (n : ℕ). (kind.Punct, n)) mark_size ∙ sym (token_of_plain_bytes_after_units mark_units 44 ((gap ++ word) ++ s) refl)
    ∙ ap (kind_and_size_after_units token_forms_in_word_lists mark_units) (sym from_mark))
    word_stands
  where
    by_size : (n m run : ℕ) (mark : Bool) → n ≡ suc m → run ≡ suc m → mark ≡ false → (kind.Word, n) ≡ kind_and_size_by_mark_or_word mark run
    by_size n m run mark e f g = let some : nat_lt 0 (suc m) ≡ true = positive_number_passes_positive_test (suc m) (omega arith) in rw (e, f, g, some) refl

-- ---- what the tokens say

pub mark_token_is_mark : (p gap word s : List ℕ) → IsMark 44 (token_with_bytes (p ++ ((44 ∷ (gap ++ word)) ++ s)) (mark_token_at (length p)))
unfolding is_mark_of_byte
mark_token_is_mark p gap word s =
    let line : List ℕ = p ++ ((44 ∷ (gap ++ word)) ++ s) in
    let size : length p + 1 - length p ≡ 1 = omega arith in
    let text : slice_range line (length p) (length p + 1) ≡ 44 ∷ [] =
    ap (λ (n : ℕ). take n (drop (length p) line)) size ∙ ap (take 1) (bytes_past_front p ((44 ∷ (gap ++ word)) ++ s) (length p) 0 (omega arith)) in
    rw text refl

word_token_has_text : (p gap word s : List ℕ) → slice_range (p ++ ((44 ∷ (gap ++ word)) ++ s)) (length p + 1 + length gap) (length (p ++ (44 ∷ (gap ++ word)))) ≡ word
word_token_has_text p gap word s =
    let size : length word ≡ length (p ++ (44 ∷ (gap ++ word))) - (length p + 1 + length gap) = omega (arith, length-append p (44 ∷ (gap ++ word)), length-append gap word) in
    ap (take (length (p ++ (44 ∷ (gap ++ word))) - (length p + 1 + length gap))) (bytes_from_word p gap word s (length p + 1 + length gap) refl) ∙ take_at word s (length (p ++ (44 ∷ (gap ++ word))) - (length p + 1 + length gap)) size

tokens_of_same_text_have_same_atom : (k : Kind) (t u : TokenWithBytes) → u.kind ≡ t.kind → u.text ≡ t.text → atom_of_token k u ≡ atom_of_token k t
unfolding atom_of_token
tokens_of_same_text_have_same_atom User t u e f = rw (e, f) refl
tokens_of_same_text_have_same_atom Runas t u e f = rw (e, f) refl
tokens_of_same_text_have_same_atom Host t u e f = rw (e, f) refl
tokens_of_same_text_have_same_atom Cmnd t u e f = rw (e, f) refl

pub word_token_has_atom : (k : Kind) (t : TokenWithBytes) (a : Atom) (p gap word s : List ℕ) → t.kind ≡ kind.Word → t.text ≡ word → atom_of_token k t ≡ Some a
    → atom_of_token k (token_with_bytes (p ++ ((44 ∷ (gap ++ word)) ++ s)) (word_token_at (length p + 1 + length gap) (length (p ++ (44 ∷ (gap ++ word)))))) ≡ Some a
word_token_has_atom k t a p gap word s e f atom =
    tokens_of_same_text_have_same_atom k t (token_with_bytes (p ++ ((44 ∷ (gap ++ word)) ++ s)) (word_token_at (length p + 1 + length gap) (length (p ++ (44 ∷ (gap ++ word)))))) (sym e)
    (word_token_has_text p gap word s ∙ sym f) ∙ atom
