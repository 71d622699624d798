-- The words that tokens are cut by are those that the grammar knows.
use Rattle.std.proofs.Common.{◌≡◌, ℕ, Bool, true, false, List, [], ◌∷◌, Option, Some, None, refl, sym, subst, ◌∙◌, inl, inr, arith}
use Rattle.std.proofs.lemmas.Bool.Decides.{eqb_tells, nat_tests}
use Rattle.std.specs.Prelude.{◌==◌, ◌||◌, option_map, if◌then◌else◌}
use Rattle.std.specs.Str.{bytes_eq}
use Rattle.sudoers_text.specs.Word.{is_among, is_tag, is_option_name, digest_kinds as digest_words, include_words as words_of_includes}
use Rattle.sudoers_grammar.specs.Piece.{is_some, value_of_matching_row, options_by_name, tags_by_word, tag_and_sign_of_word, digest_kinds_by_word, include_is_dir_by_word}

-- the words of a table
abbrev words_of_table : {X : Type 0} → List (List ℕ × X) → List (List ℕ)
words_of_table [] = []
words_of_table (row ∷ rows) = row.0 ∷ words_of_table rows

presence_with_row_is_disjunction : {X : Type 0} (b c : Bool) (x : X) (o : Option X) → c ≡ is_some o → (b || c) ≡ is_some (if b then Some x else o)
presence_with_row_is_disjunction true c x o e = refl
presence_with_row_is_disjunction false c x o e = e

-- A word is in a table where it is looked up there.
word_is_in_table_where_looked_up : {X : Type 0} (rows : List (List ℕ × X)) (word : List ℕ) → is_among (words_of_table rows) word ≡ is_some (value_of_matching_row rows word)
word_is_in_table_where_looked_up [] word = refl
word_is_in_table_where_looked_up (row ∷ rows) word = presence_with_row_is_disjunction (bytes_eq word row.0) (is_among (words_of_table rows) word) row.1 (value_of_matching_row rows word) (word_is_in_table_where_looked_up rows word)

mapped_option_is_present_as_option : {X Y : Type 0} (f : X → Y) (o : Option X) → is_some o ≡ is_some (option_map f o)
mapped_option_is_present_as_option f None = refl
mapped_option_is_present_as_option f (Some x) = refl

abbrev AgreesOnTags : List ℕ → Type 0
AgreesOnTags word = is_tag word ≡ is_some (tag_and_sign_of_word word)

inequality_test_is_symmetric : (a b : ℕ) → (a == b) ≡ false → (b == a) ≡ false
inequality_test_is_symmetric a b e = grind (arith, nat_tests, e)

-- a word that does not begin with `N`
word_without_n_first_agrees_on_tags : (a : ℕ) (rest : List ℕ) → (a == 78) ≡ false → (78 == a) ≡ false → AgreesOnTags (a ∷ rest)
word_without_n_first_agrees_on_tags a rest e f = rw (e, f) (word_is_in_table_where_looked_up tags_by_word (a ∷ rest) ∙ mapped_option_is_present_as_option (λ t. (t, true)) (value_of_matching_row tags_by_word (a ∷ rest)))

-- a word that begins with `N` and no `O`
word_without_o_second_agrees_on_tags : (b : ℕ) (rest : List ℕ) → (b == 79) ≡ false → (79 == b) ≡ false → AgreesOnTags (78 ∷ b ∷ rest)
word_without_o_second_agrees_on_tags b rest e f = rw (e, f) refl

-- a word that begins with `NO`
word_beginning_with_no_agrees_on_tags : (rest : List ℕ) → AgreesOnTags (78 ∷ 79 ∷ rest)
word_beginning_with_no_agrees_on_tags rest = word_is_in_table_where_looked_up tags_by_word rest ∙ mapped_option_is_present_as_option (λ t. (t, false)) (value_of_matching_row tags_by_word rest)

word_beginning_with_n_agrees_on_tags : (rest : List ℕ) → AgreesOnTags (78 ∷ rest)
word_beginning_with_n_agrees_on_tags [] = refl
word_beginning_with_n_agrees_on_tags (b ∷ rest) =
    elim (eqb_tells b 79) [
      | inl w ↦ subst (λ (c : ℕ). AgreesOnTags (78 ∷ c ∷ rest)) (sym w.1) (word_beginning_with_no_agrees_on_tags rest)
      | inr w ↦ word_without_o_second_agrees_on_tags b rest w.0 (inequality_test_is_symmetric b 79 w.0)
    ]

pub tag_words_agree_with_grammar_tags : (word : List ℕ) → is_tag word ≡ is_some (tag_and_sign_of_word word)
tag_words_agree_with_grammar_tags [] = refl
tag_words_agree_with_grammar_tags (a ∷ rest) =
    elim (eqb_tells a 78) [
      | inl w ↦ subst (λ (c : ℕ). AgreesOnTags (c ∷ rest)) (sym w.1) (word_beginning_with_n_agrees_on_tags rest)
      | inr w ↦ word_without_n_first_agrees_on_tags a rest w.0 (inequality_test_is_symmetric a 78 w.0)
    ]

pub option_words_agree_with_grammar_options : (word : List ℕ) → is_option_name word ≡ is_some (value_of_matching_row options_by_name word)
option_words_agree_with_grammar_options word = word_is_in_table_where_looked_up options_by_name word

pub digest_words_agree_with_grammar_kinds : (word : List ℕ) → is_among digest_words word ≡ is_some (value_of_matching_row digest_kinds_by_word word)
digest_words_agree_with_grammar_kinds word = word_is_in_table_where_looked_up digest_kinds_by_word word

pub include_words_agree_with_grammar_words : (word : List ℕ) → is_among words_of_includes word ≡ is_some (value_of_matching_row include_is_dir_by_word word)
include_words_agree_with_grammar_words word = word_is_in_table_where_looked_up include_is_dir_by_word word
