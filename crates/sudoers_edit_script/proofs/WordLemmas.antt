-- The words of a line.
use Rattle.std.proofs.Common.{◌≡◌, ℕ, zero, suc, ◌+◌, ◌<◌, ◌≤◌, Bool, true, false, ◌==◌, List, [], ◌∷◌, ◌++◌, length, take, drop, slice_index, refl, sym, ap, ◌∙◌, arith, inl, inr, ◌^◌}
use Rattle.std.proofs.lemmas.List.{take_all, drop_all}
use Rattle.std.proofs.lemmas.Bool.{false≢true, cases_Bool, eqb-true, or_parts, and_parts}
use Rattle.memchr.specs.Find.{NoneBefore, Nowhere, Passes, is_byte}
use Rattle.std.specs.Prelude.{codes, not, ◌||◌, Some, None}
use Rattle.std.specs.List.{list_any}
use Rattle.sudoers_grammar.specs.declared.node.Kind.{Kind}
use Rattle.sudoers_grammar.specs.declared.node.Kind.TheVariants as kind_of
use Rattle.sudoers_edit_script.specs.Physical.{byte_joined_to_first_line}
use Rattle.sudoers_edit_script.specs.declared.edit.Edit.{Edit}
use Rattle.sudoers_edit_script.specs.declared.edit.Edit.TheVariants.{Insert, Delete, Move, AddMember, DropMember, AddDef, DropDef, Rename, EndLine, OpenEnd, Prune}
use Rattle.sudoers_edit_script.specs.Script.{one_based_decimal, word_for_alias_kind, command_words_of_edit, words_joined_by_spaces, is_spellable_word, IsSpellable}
use Rattle.sudoers_edit_script.specs.ScriptReading.{words_between_spaces, place_of_word}
use Rattle.sudoers_edit_script.specs.internal.ScriptStanding.{words_behind_leading_space}
use Rattle.sudoers_edit_script.proofs.NumberLemmas.{one_based_decimal_is_read_back, one_based_decimal_has_digits_only}

-- a byte other than a space goes onto the first word of the rest
pub byte_unlike_space_joins_first_word : (b : ℕ) (bs : List ℕ) → (b == 32) ≡ false → words_between_spaces (b ∷ bs) ≡ byte_joined_to_first_line b (words_between_spaces bs)
byte_unlike_space_joins_first_word b bs h = rw h refl

-- a space ends an empty word
space_is_end_of_empty_word : (b : ℕ) (bs : List ℕ) → (b == 32) ≡ true → words_between_spaces (b ∷ bs) ≡ [] ∷ words_between_spaces bs
space_is_end_of_empty_word b bs h = rw h refl

-- up to the first space
first_word_ends_at_first_space : (text : List ℕ) (n : ℕ) → n < length text → (slice_index text n == 32) ≡ true → ((k : ℕ) → k < n → (slice_index text k == 32) ≡ true → ⊥) → words_between_spaces text ≡ take n text ∷ words_behind_leading_space (drop n text)
first_word_ends_at_first_space [] n l h none = absurd (omega arith)
first_word_ends_at_first_space (b ∷ bs) zero l h none = space_is_end_of_empty_word b bs h
first_word_ends_at_first_space (b ∷ bs) (suc n) l h none =
    elim (cases_Bool (b == 32)) [
      | inl t ↦ absurd (none 0 (omega arith) t)
      | inr f ↦ byte_unlike_space_joins_first_word b bs f ∙ ap (byte_joined_to_first_line b) (first_word_ends_at_first_space bs n (omega arith) h (λ k m e. none (suc k) (omega arith) e))
    ]

-- with no space there is one word
text_with_space_nowhere_is_one_word : (text : List ℕ) → ((k : ℕ) → k < length text → (slice_index text k == 32) ≡ true → ⊥) → words_between_spaces text ≡ text ∷ []
text_with_space_nowhere_is_one_word [] none = refl
text_with_space_nowhere_is_one_word (b ∷ bs) none =
    elim (cases_Bool (b == 32)) [
      | inl t ↦ absurd (none 0 (omega arith) t)
      | inr f ↦ byte_unlike_space_joins_first_word b bs f ∙ ap (byte_joined_to_first_line b) (text_with_space_nowhere_is_one_word bs (λ k m e. none (suc k) (omega arith) e))
    ]

-- by what a search for a space gives
pub space_found_ends_first_word : (text : List ℕ) (n : ℕ) → NoneBefore (Passes (is_byte 32) text) 0 (length text) n × Passes (is_byte 32) text n → words_between_spaces text ≡ take n text ∷ words_behind_leading_space (drop n text)
space_found_ends_first_word text n h = first_word_ends_at_first_space text n h.0.high h.1 (λ k m e. h.0.before k (omega arith) m e)

-- where a search for a space finds none
pub no_space_found_leaves_one_word : (text : List ℕ) → Nowhere (Passes (is_byte 32) text) 0 (length text) → words_between_spaces text ≡ take (length text) text ∷ words_behind_leading_space (drop (length text) text)
no_space_found_leaves_one_word text h =
    text_with_space_nowhere_is_one_word text (λ k m e. h k (omega arith) m e) ∙ sym (rw (take_all (length text) text (omega arith), drop_all (length text) text (omega arith)) refl)

-- ONE WORD, OR MORE

-- the list has two elements or more
abbrev pub HasTwoOrMoreWords : List (List ℕ) → Type 0
HasTwoOrMoreWords [] = ⊥
HasTwoOrMoreWords (word ∷ []) = ⊥
HasTwoOrMoreWords (word ∷ next ∷ more) = Unit {0}

-- a byte before words leaves one
byte_joined_to_words_leaves_a_word : (b : ℕ) (ws : List (List ℕ)) → HasTwoOrMoreWords ([] ∷ byte_joined_to_first_line b ws)
byte_joined_to_words_leaves_a_word b [] = tt
byte_joined_to_words_leaves_a_word b (w ∷ ws) = tt

-- behind a first word there is always another
text_has_at_least_one_word : (text : List ℕ) → HasTwoOrMoreWords ([] ∷ words_between_spaces text)
text_has_at_least_one_word [] = tt
text_has_at_least_one_word (b ∷ bs) =
    elim (cases_Bool (b == 32)) [
      | inl t ↦ rw (space_is_end_of_empty_word b bs t) tt
      | inr f ↦ rw (byte_unlike_space_joins_first_word b bs f) (byte_joined_to_words_leaves_a_word b (words_between_spaces bs))
    ]

-- a text without a space is one word
pub text_without_space_is_one_word : (text : List ℕ) → list_any (λ y. y == 32) text ≡ false → words_between_spaces text ≡ text ∷ []
text_without_space_is_one_word [] h = refl
text_without_space_is_one_word (b ∷ bs) h =
    elim (cases_Bool (b == 32)) [
      | inl t ↦ absurd (false≢true (sym (rw t at h)))
      | inr f ↦ byte_unlike_space_joins_first_word b bs f ∙ ap (byte_joined_to_first_line b) (text_without_space_is_one_word bs (rw f at h))
    ]

-- a space behind a text without one ends its word
word_before_space_is_split_off : (v w : List ℕ) → list_any (λ y. y == 32) v ≡ false → words_between_spaces (v ++ 32 ∷ w) ≡ v ∷ words_between_spaces w
word_before_space_is_split_off [] w h = refl
word_before_space_is_split_off (b ∷ v) w h =
    elim (cases_Bool (b == 32)) [
      | inl t ↦ absurd (false≢true (sym (rw t at h)))
      | inr f ↦ byte_unlike_space_joins_first_word b (v ++ 32 ∷ w) f ∙ ap (byte_joined_to_first_line b) (word_before_space_is_split_off v w (rw f at h))
    ]

-- a byte before the first word stands before the text
byte_joined_to_word_begins_joined_text : (b : ℕ) (w : List ℕ) (ws : List (List ℕ)) → words_joined_by_spaces (byte_joined_to_first_line b (w ∷ ws)) ≡ b ∷ words_joined_by_spaces (w ∷ ws)
byte_joined_to_word_begins_joined_text b w [] = refl
byte_joined_to_word_begins_joined_text b w (v ∷ ws) = refl

-- so it does before any words, of which there is one
byte_joined_to_words_begins_joined_text : (b : ℕ) (ws : List (List ℕ)) → HasTwoOrMoreWords ([] ∷ ws) → words_joined_by_spaces (byte_joined_to_first_line b ws) ≡ b ∷ words_joined_by_spaces ws
byte_joined_to_words_begins_joined_text b [] h = absurd h
byte_joined_to_words_begins_joined_text b (w ∷ ws) h = byte_joined_to_word_begins_joined_text b w ws

-- a space stands behind an empty first word
empty_first_word_gives_leading_space : (ws : List (List ℕ)) → HasTwoOrMoreWords ([] ∷ ws) → words_joined_by_spaces ([] ∷ ws) ≡ 32 ∷ words_joined_by_spaces ws
empty_first_word_gives_leading_space [] h = absurd h
empty_first_word_gives_leading_space (w ∷ ws) h = refl

-- the words of a text make it
pub words_between_spaces_join_to_text : (text : List ℕ) → words_joined_by_spaces (words_between_spaces text) ≡ text
words_between_spaces_join_to_text [] = refl
words_between_spaces_join_to_text (b ∷ bs) =
    elim (cases_Bool (b == 32)) [
      | inl t ↦ ap words_joined_by_spaces (space_is_end_of_empty_word b bs t) ∙ empty_first_word_gives_leading_space (words_between_spaces bs) (text_has_at_least_one_word bs)
          ∙ ap (λ (z : List ℕ). 32 ∷ z) (words_between_spaces_join_to_text bs) ∙ ap (λ (z : ℕ). z ∷ bs) (sym (eqb-true b 32 t))
      | inr f ↦ ap words_joined_by_spaces (byte_unlike_space_joins_first_word b bs f) ∙ byte_joined_to_words_begins_joined_text b (words_between_spaces bs) (text_has_at_least_one_word bs) ∙ ap (λ (z : List ℕ). b ∷ z) (words_between_spaces_join_to_text bs)
    ]

-- WORDS THAT HAVE A SPELLING

-- Each is a word.
abbrev pub AreSpellableWords : List (List ℕ) → Type 0
AreSpellableWords [] = Unit {0}
AreSpellableWords (w ∷ ws) = (is_spellable_word w ≡ true) × AreSpellableWords ws

-- a byte that is none of two is not the one, nor the other
text_without_space_or_lf_has_neither : (bs : List ℕ) → list_any (λ c. (c == 32) || (c == 10)) bs ≡ false → (list_any (λ y. y == 32) bs ≡ false) × (list_any (λ y. y == 10) bs ≡ false)
text_without_space_or_lf_has_neither [] h = (refl, refl)
text_without_space_or_lf_has_neither (b ∷ bs) h =
    let p = or_parts ((b == 32) || (b == 10)) (list_any (λ c. (c == 32) || (c == 10)) bs) h in
    let q = or_parts (b == 32) (b == 10) p.0 in
    let more = text_without_space_or_lf_has_neither bs p.1 in
    (rw q.0 more.0, rw q.1 more.1)

-- and back
text_without_either_has_neither_byte : (bs : List ℕ) → list_any (λ y. y == 32) bs ≡ false → list_any (λ y. y == 10) bs ≡ false → list_any (λ c. (c == 32) || (c == 10)) bs ≡ false
text_without_either_has_neither_byte [] h k = refl
text_without_either_has_neither_byte (b ∷ bs) h k =
    let p = or_parts (b == 32) (list_any (λ y. y == 32) bs) h in
    let q = or_parts (b == 10) (list_any (λ y. y == 10) bs) k in
    rw (p.0, q.0) (text_without_either_has_neither_byte bs p.1 q.1)

-- what is not true is false
not_being_true_is_being_false : (b : Bool) → not b ≡ true → b ≡ false
not_being_true_is_being_false true h = sym h
not_being_true_is_being_false false h = refl

-- a word has no space and no LF
spellable_word_has_no_space_or_lf : (w : List ℕ) → is_spellable_word w ≡ true → (list_any (λ y. y == 32) w ≡ false) × (list_any (λ y. y == 10) w ≡ false)
spellable_word_has_no_space_or_lf [] h = absurd (false≢true h)
spellable_word_has_no_space_or_lf (b ∷ bs) h = text_without_space_or_lf_has_neither (b ∷ bs) (not_being_true_is_being_false (list_any (λ c. (c == 32) || (c == 10)) (b ∷ bs)) h)

-- bytes without a space and without LF are a word
nonempty_text_without_blanks_is_word : (w : List ℕ) → (w ≡ [] → ⊥) → list_any (λ y. y == 32) w ≡ false → list_any (λ y. y == 10) w ≡ false → is_spellable_word w ≡ true
nonempty_text_without_blanks_is_word [] some h k = absurd (some refl)
nonempty_text_without_blanks_is_word (b ∷ bs) some h k = ap not (text_without_either_has_neither_byte (b ∷ bs) h k)

-- a number is a word
one_based_decimal_is_spellable_word : (at : ℕ) → at + 1 ≤ 2 ^ 32 → is_spellable_word (one_based_decimal at) ≡ true
one_based_decimal_is_spellable_word at h =
    nonempty_text_without_blanks_is_word (one_based_decimal at)
    (λ e. (let no : None ≡ Some at = sym (ap place_of_word e) ∙ one_based_decimal_is_read_back at h in cc))
    (one_based_decimal_has_digits_only 32 at (omega arith) h) (one_based_decimal_has_digits_only 10 at (omega arith) h)

-- so is that of a kind
alias_kind_word_is_spellable : (kind : Kind) → is_spellable_word (word_for_alias_kind kind) ≡ true
alias_kind_word_is_spellable kind_of.User = refl
alias_kind_word_is_spellable kind_of.Runas = refl
alias_kind_word_is_spellable kind_of.Host = refl
alias_kind_word_is_spellable kind_of.Cmnd = refl

-- and those of a command
pub command_words_are_spellable : (edit : Edit) → IsSpellable edit → AreSpellableWords (command_words_of_edit edit)
command_words_are_spellable (Insert file at text) h = (refl, (one_based_decimal_is_spellable_word at h.0.1, tt))
command_words_are_spellable (Delete file at) h = (refl, (one_based_decimal_is_spellable_word at h.0.1, tt))
command_words_are_spellable (Move file from to) h = (refl, (one_based_decimal_is_spellable_word from h.0.1, (one_based_decimal_is_spellable_word to h.0.2, tt)))
command_words_are_spellable (AddMember kind name at splice) h = (refl, (alias_kind_word_is_spellable kind, (h.1, (one_based_decimal_is_spellable_word at h.0, tt))))
command_words_are_spellable (DropMember kind name at) h = (refl, (alias_kind_word_is_spellable kind, (h.1, (one_based_decimal_is_spellable_word at h.0, tt))))
command_words_are_spellable (AddDef file line at splice) h = (refl, (one_based_decimal_is_spellable_word line h.0.1, (one_based_decimal_is_spellable_word at h.0.2, tt)))
command_words_are_spellable (DropDef file line at) h = (refl, (one_based_decimal_is_spellable_word line h.0.1, (one_based_decimal_is_spellable_word at h.0.2, tt)))
command_words_are_spellable (Rename kind name fresh) h =
    let p = and_parts (is_spellable_word name) (is_spellable_word fresh) h.1 in (refl, (alias_kind_word_is_spellable kind, (p.0, (p.1, tt))))
command_words_are_spellable (EndLine file) h = (refl, tt)
command_words_are_spellable (OpenEnd file) h = (refl, tt)
command_words_are_spellable Prune h = (refl, tt)

-- and those of a `file` line
pub file_line_words_are_spellable : (file : ℕ) → file + 1 ≤ 2 ^ 32 → AreSpellableWords (codes "file" ∷ one_based_decimal file ∷ [])
file_line_words_are_spellable file h = (refl, (one_based_decimal_is_spellable_word file h, tt))

-- words with spaces between them are those of their text
pub joined_words_are_split_back : (w : List ℕ) (ws : List (List ℕ)) → AreSpellableWords (w ∷ ws) → words_between_spaces (words_joined_by_spaces (w ∷ ws)) ≡ w ∷ ws
joined_words_are_split_back w [] h = text_without_space_is_one_word w (spellable_word_has_no_space_or_lf w h.0).0
joined_words_are_split_back w (v ∷ ws) h = word_before_space_is_split_off w (words_joined_by_spaces (v ∷ ws)) (spellable_word_has_no_space_or_lf w h.0).0 ∙ ap (λ (z : List (List ℕ)). w ∷ z) (joined_words_are_split_back v ws h.1)

-- two texts without a byte
appended_texts_without_byte_lack_it : (b : ℕ) (xs ys : List ℕ) → list_any (λ y. y == b) xs ≡ false → list_any (λ y. y == b) ys ≡ false → list_any (λ y. y == b) (xs ++ ys) ≡ false
appended_texts_without_byte_lack_it b [] ys h k = k
appended_texts_without_byte_lack_it b (x ∷ xs) ys h k =
    let p = or_parts (x == b) (list_any (λ y. y == b) xs) h in
    rw p.0 (appended_texts_without_byte_lack_it b xs ys p.1 k)

-- words have no LF
pub joined_words_have_no_lf : (ws : List (List ℕ)) → AreSpellableWords ws → list_any (λ y. y == 10) (words_joined_by_spaces ws) ≡ false
joined_words_have_no_lf [] h = refl
joined_words_have_no_lf (w ∷ []) h = (spellable_word_has_no_space_or_lf w h.0).1
joined_words_have_no_lf (w ∷ v ∷ ws) h = appended_texts_without_byte_lack_it 10 w (32 ∷ words_joined_by_spaces (v ∷ ws)) (spellable_word_has_no_space_or_lf w h.0).1 (joined_words_have_no_lf (v ∷ ws) h.1)
