-- If a text does not hold the bytes `include`, no part of it leads anywhere.
use Rattle.sudoers_tree.proofs.Common.{Bool, Err, FindsNeedle, IsOutcomeOfLine, LineFault, LineReadsAsNode, List, Node, None, Nowhere, OccursAt, Ok, Option, Result, Some, [], ap, append_assoc, arith, bytes_eq}
use Rattle.sudoers_tree.proofs.Common.{bytes_eq-Decides, codes, drop, false, get_or-append-add, get_or_append_left, if◌then◌else◌, include_lead_of_line, is_logical_line, lead_of_optional_node, lead_of_parsed_line}
use Rattle.sudoers_tree.proofs.Common.{length, outcome_of_line, reading_of_single_line, refl, result_ok, slice_index, slice_range, subst, sym, take, true, ℕ, ◌++◌, ◌+◌, ◌-◌, ◌<◌, ◌∙◌, ◌∷◌, ◌≡◌}
use Rattle.std.proofs.Common.{is_some, length-append, take-append-drop}
use Rattle.memchr.proofs.lemmas.MatchLemmas.{OccursAt-split}
use Rattle.sudoers_text.specs.declared.token.Token.{Token}
use Rattle.sudoers_grammar.specs.Node as node
use Rattle.sudoers_grammar.specs.Piece.{TokenWithBytes, include_is_dir_of_token, include_is_dir_by_word, is_word, value_of_matching_row, tokens_with_bytes}
use Rattle.sudoers_grammar.specs.Grammar.{IsIncludeLine}

-- the bytes `include` stand in the text
abbrev pub HasWordInclude : List ℕ → Type 0
HasWordInclude text = (before : List ℕ) × (after : List ℕ) × (text ≡ before ++ (codes "include" ++ after))

text_extended_at_end_keeps_word_include : (text more : List ℕ) → HasWordInclude text → HasWordInclude (text ++ more)
text_extended_at_end_keeps_word_include text more (before, after, is) = (
  before,
  after ++ more,
  ap (λ t. t ++ more) is ∙ append_assoc before (codes "include" ++ after) more ∙ ap (λ t. before ++ t) (append_assoc (codes "include") after more),
)

text_extended_in_front_keeps_word_include : (front text : List ℕ) → HasWordInclude text → HasWordInclude (front ++ text)
text_extended_in_front_keeps_word_include front text (before, after, is) =
    (front ++ before, after, ap (λ t. front ++ t) is ∙ sym (append_assoc front before (codes "include" ++ after)))

part_with_word_include_implies_text_has_it : (text : List ℕ) (from size : ℕ) → HasWordInclude (take size (drop from text)) → HasWordInclude text
part_with_word_include_implies_text_has_it text from size part =
    subst HasWordInclude (take-append-drop from text)
    (text_extended_in_front_keeps_word_include (take from text) (drop from text)
    (subst HasWordInclude (take-append-drop size (drop from text)) (text_extended_at_end_keeps_word_include (take size (drop from text)) (drop size (drop from text)) part)))

-- ---- where they stand

bytes_of_word_include_are_at_their_place : (before after : List ℕ) (j : ℕ) → j < length (codes "include")
    → slice_index (before ++ (codes "include" ++ after)) (length before + j) ≡ slice_index (codes "include") j
bytes_of_word_include_are_at_their_place before after j within =
    get_or-append-add before (codes "include" ++ after) j 0 ∙ get_or_append_left (codes "include") after 0 j within

word_include_occurs_after_front : (before after : List ℕ) → OccursAt (before ++ (codes "include" ++ after)) (codes "include") (length before)
word_include_occurs_after_front before after =
    record {
      fits = omega (arith, length-append before (codes "include" ++ after), length-append (codes "include") after);
      reads = bytes_of_word_include_are_at_their_place before after;
    }

text_without_occurrence_has_no_word_include : (text : List ℕ) → Nowhere (OccursAt text (codes "include")) 0 (length text + 1) → HasWordInclude text → ⊥
text_without_occurrence_has_no_word_include text none (before, after, is) =
    let there : OccursAt text (codes "include") (length before) = subst (λ t. OccursAt t (codes "include") (length before)) (sym is) (word_include_occurs_after_front before after) in
    none (length before) (omega arith) (omega (arith, there.fits)) there

-- ---- the words of an include

abbrev EachMatchingRowHasWordInclude : List (List ℕ × Bool) → Type 0
EachMatchingRowHasWordInclude rows = (text : List ℕ) (dir : Bool) → value_of_matching_row rows text ≡ Some dir → HasWordInclude text

next_row_keeps_word_include_in_each_match : (word : List ℕ) (dir : Bool) (rows : List (List ℕ × Bool)) → HasWordInclude word → EachMatchingRowHasWordInclude rows → EachMatchingRowHasWordInclude ((word, dir) ∷ rows)
next_row_keeps_word_include_in_each_match word dir rows first later text d found = by (bytes_eq text word) refl found
  where
    by : (t : Bool) → bytes_eq text word ≡ t → (if t then Some dir else value_of_matching_row rows text) ≡ Some d → HasWordInclude text
    by true e f = subst HasWordInclude (sym ((bytes_eq-Decides text word).0 e)) first
    by false e f = later text d f

include_words_have_word_include : EachMatchingRowHasWordInclude include_is_dir_by_word
include_words_have_word_include =
    next_row_keeps_word_include_in_each_match (codes "#include") false (drop 1 include_is_dir_by_word) (35 ∷ [], [], refl)
    (next_row_keeps_word_include_in_each_match (codes "#includedir") true (drop 2 include_is_dir_by_word) (35 ∷ [], codes "dir", refl)
    (next_row_keeps_word_include_in_each_match (codes "@include") false (drop 3 include_is_dir_by_word) (64 ∷ [], [], refl)
    (next_row_keeps_word_include_in_each_match (codes "@includedir") true [] (64 ∷ [], codes "dir", refl) (λ text dir found. absurd cc))))

include_token_has_word_include : (word : TokenWithBytes) (dir : Bool) → include_is_dir_of_token word ≡ Some dir → HasWordInclude word.text
unfolding include_is_dir_of_token
include_token_has_word_include word dir is = by (is_word word.kind) is
  where
    by : (t : Bool) → (if t then value_of_matching_row include_is_dir_by_word word.text else None) ≡ Some dir → HasWordInclude word.text
    by true found = include_words_have_word_include word.text dir found
    by false found = absurd cc

-- the first piece is a part of the line
first_token_text_is_part_of_line : (line : List ℕ) (tokens : List Token) (word : TokenWithBytes) (rest : List TokenWithBytes) → tokens_with_bytes line tokens ≡ word ∷ rest
    → (t : Token) × (word.text ≡ slice_range line t.start t.stop)
first_token_text_is_part_of_line line [] word rest is = absurd cc
first_token_text_is_part_of_line line (t ∷ tokens) word rest is = (t, cc)

include_line_has_word_include : (line : List ℕ) (dir : Bool) (path : List ℕ) → LineReadsAsNode line (node.Include dir path) → HasWordInclude line
include_line_has_word_include line dir path reads =
    let include : IsIncludeLine dir path (tokens_with_bytes line reads.tokens) reads.reads.0 = reads.reads.1 in
    let part = first_token_text_is_part_of_line line reads.tokens include.word (include.name ∷ reads.reads.0) include.split in
    part_with_word_include_implies_text_has_it line part.0.start (part.0.stop - part.0.start) (subst HasWordInclude part.1 (include_token_has_word_include include.word dir include.is_include))

-- ---- a line without them

node_of_line_without_include_has_no_lead : (name line : List ℕ) (n : Node) → (HasWordInclude line → ⊥) → LineReadsAsNode line n → lead_of_parsed_line name n ≡ None
node_of_line_without_include_has_no_lead name line (node.Include dir path) none reads = absurd (none (include_line_has_word_include line dir path reads))
node_of_line_without_include_has_no_lead name line node.Blank none reads = refl
node_of_line_without_include_has_no_lead name line node.Comment none reads = refl
node_of_line_without_include_has_no_lead name line (node.Defaults scope params) none reads = refl
node_of_line_without_include_has_no_lead name line (node.Alias k defs) none reads = refl
node_of_line_without_include_has_no_lead name line (node.Spec users groups) none reads = refl

line_without_include_has_no_lead : (name line : List ℕ) → (HasWordInclude line → ⊥) → IsOutcomeOfLine line (outcome_of_line line) → include_lead_of_line name line ≡ None
unfolding reading_of_single_line
line_without_include_has_no_lead name line none is = by (is_logical_line line) (outcome_of_line line) is
  where
    by : (t : Bool) (r : Result Node LineFault) → IsOutcomeOfLine line r → lead_of_optional_node name (if t then result_ok r else None) ≡ None
    by true (Ok n) reads = node_of_line_without_include_has_no_lead name line n none reads
    by true (Err fault) reads = refl
    by false r reads = refl

-- no part of a text without them leads anywhere
part_of_text_without_include_has_no_lead : (text name before line after : List ℕ) → Nowhere (OccursAt text (codes "include")) 0 (length text + 1)
    → text ≡ before ++ (line ++ after) → IsOutcomeOfLine line (outcome_of_line line) → include_lead_of_line name line ≡ None
part_of_text_without_include_has_no_lead text name before line after none is =
    line_without_include_has_no_lead name line
    (λ held. text_without_occurrence_has_no_word_include text none (subst HasWordInclude (sym is) (text_extended_in_front_keeps_word_include before (line ++ after) (text_extended_at_end_keeps_word_include line after held))))

-- The same, by whether they are found.
pub text_searched_in_vain_has_no_include_lead : (text : List ℕ) (found : Option ℕ) → FindsNeedle text (codes "include") 0 found → is_some found ≡ false
    → (name before line after : List ℕ) → text ≡ before ++ (line ++ after) → IsOutcomeOfLine line (outcome_of_line line) → include_lead_of_line name line ≡ None
text_searched_in_vain_has_no_include_lead text None none lacks name before line after = part_of_text_without_include_has_no_lead text name before line after none
text_searched_in_vain_has_no_include_lead text (Some at) there lacks name before line after = absurd cc

-- They stand where they are found.
pub found_needle_implies_word_include : (text : List ℕ) (found : Option ℕ) → FindsNeedle text (codes "include") 0 found → is_some found ≡ true → HasWordInclude text
found_needle_implies_word_include text None none has = absurd cc
found_needle_implies_word_include text (Some at) (first, word_include_occurs_after_front) has = (
  take at text,
  drop (at + length (codes "include")) text,
  sym (take-append-drop at text) ∙ ap (λ rest. take at text ++ rest) (OccursAt-split text (codes "include") at word_include_occurs_after_front),
)
