-- A word with which a user specification begins is that of no other line.
use Rattle.laws_print.proofs.Common.{◌≡◌, ℕ, suc, Bool, true, false, ◌&&◌, ◌||◌, List, [], ◌∷◌, ◌++◌, length, drop, take, inl, inr, refl, sym, ap}
use Rattle.laws_print.proofs.Common.{subst, ◌∙◌, arith, ◌==◌, if◌then◌else◌, codes, nat_eq, bytes_eq, bytes_eq-Decides, take_at, and_parts, ne_eqb}
use Rattle.laws_print.proofs.Common.{or_parts, nat_tests, leading_run_size, has_host_or_runas_sign, begins_defaults, line_mode, mode_by_line_start, is_among, context_after_token, TokenWithBytes}
use Rattle.laws_print.proofs.Common.{alias_kind_of_token, include_is_dir_of_token, is_given_word, BeginsNoAliasIncludeOrDefaults, defaults_word, Atom, Pair, is_upper, is_name, is_alias_byte}
use Rattle.laws_print.proofs.Common.{list_all, text_of_units, units_of_spelled_word, is_read_as_other_than_user_name, is_start_of_non_spec_line, IsWritableUserAtom}
use Rattle.std.specs.List.{starts_with}
use Rattle.std.specs.Cmp.Lexicographic.{same_text}
use Rattle.std.proofs.lemmas.Bool.{cases_Bool, and_right}
use Rattle.sudoers_text.specs.declared.part.ByteRunKind.TheVariants as rule
use Rattle.sudoers_text.specs.Part.{has_given_first_byte}
use Rattle.sudoers_text.specs.declared.token.Mode.TheVariants as mode
use Rattle.sudoers_text.specs.declared.token.TokenKind.TheVariants as kind
use Rattle.sudoers_text.specs.LineMode.{leading_word_of_bytes, words_mode_keywords, begins_hash_include}
use Rattle.sudoers_text.specs.declared.context.TokenContext.TheVariants as context
use Rattle.sudoers_text.specs.Unit.{is_rest_of_hash_include}
use Rattle.sudoers_grammar.specs.declared.node.Atom.TheVariants as atom
use Rattle.sudoers_cvt_spell.specs.Members.{non_spec_line_keywords}
use Rattle.laws_print.proofs.ListTokens.{units_of_user_name, units_of_user_atom}
use Rattle.laws_print.proofs.Values.{text_of_word_units_is_spelled_word}
use Rattle.sudoers_cvt_spell.specs.Spelling.{spelled_word}
use Rattle.laws_print.proofs.Users.{special_word_test_implies_not_special, text_of_plain_units_is_bytes}
use Rattle.laws_print.proofs.Words.{passing_byte_differs_from_failing_byte}

length_above_eight_is_not_eight : (n : ℕ) → (suc (suc (suc (suc (suc (suc (suc (suc (suc n)))))))) == 8) ≡ false
length_above_eight_is_not_eight n = grind (arith, nat_tests)

-- a blank or a comma is no such letter
blank_or_comma_is_not_other_byte : (r c : ℕ) → (r == 32 || r == 44) ≡ true → (c == 32 || c == 44) ≡ false → r ≡ c → ⊥
blank_or_comma_is_not_other_byte r c h none same = let other : (c == 32 || c == 44) ≡ true = subst (λ (x : ℕ). (x == 32 || x == 44) ≡ true) same h in absurd (cc)

-- where the bytes begin with `Defaults`, the word does, and is longer
word_of_line_with_defaults_is_longer : (word : List ℕ) (r : ℕ) (rest : List ℕ) → (r == 32 || r == 44) ≡ true → is_start_of_non_spec_line word ≡ false → take 8 (word ++ r ∷ rest) ≡ defaults_word → (i : ℕ) × (more : List ℕ) × (word ≡ 68 ∷ 101 ∷ 102 ∷ 97 ∷ 117 ∷ 108 ∷ 116 ∷ 115 ∷ i ∷ more)
word_of_line_with_defaults_is_longer [] r rest h other is = absurd (blank_or_comma_is_not_other_byte r 68 h refl (cc))
word_of_line_with_defaults_is_longer (a ∷ []) r rest h other is = absurd (blank_or_comma_is_not_other_byte r 101 h refl (cc))
word_of_line_with_defaults_is_longer (a ∷ b ∷ []) r rest h other is = absurd (blank_or_comma_is_not_other_byte r 102 h refl (cc))
word_of_line_with_defaults_is_longer (a ∷ b ∷ c ∷ []) r rest h other is = absurd (blank_or_comma_is_not_other_byte r 97 h refl (cc))
word_of_line_with_defaults_is_longer (a ∷ b ∷ c ∷ d ∷ []) r rest h other is = absurd (blank_or_comma_is_not_other_byte r 117 h refl (cc))
word_of_line_with_defaults_is_longer (a ∷ b ∷ c ∷ d ∷ e ∷ []) r rest h other is = absurd (blank_or_comma_is_not_other_byte r 108 h refl (cc))
word_of_line_with_defaults_is_longer (a ∷ b ∷ c ∷ d ∷ e ∷ f ∷ []) r rest h other is = absurd (blank_or_comma_is_not_other_byte r 116 h refl (cc))
word_of_line_with_defaults_is_longer (a ∷ b ∷ c ∷ d ∷ e ∷ f ∷ g ∷ []) r rest h other is = absurd (blank_or_comma_is_not_other_byte r 115 h refl (cc))
word_of_line_with_defaults_is_longer (a ∷ b ∷ c ∷ d ∷ e ∷ f ∷ g ∷ k ∷ []) r rest h other is =
    absurd (let same : is_start_of_non_spec_line defaults_word ≡ false = subst (λ (w : List ℕ). is_start_of_non_spec_line w ≡ false) is other in cc)
word_of_line_with_defaults_is_longer (a ∷ b ∷ c ∷ d ∷ e ∷ f ∷ g ∷ k ∷ i ∷ more) r rest h other is = (i, more, ap (λ (front : List ℕ). front ++ i ∷ more) is)

next_byte_of_nonstart_is_no_start : (i : ℕ) (more : List ℕ) → is_start_of_non_spec_line (68 ∷ 101 ∷ 102 ∷ 97 ∷ 117 ∷ 108 ∷ 116 ∷ 115 ∷ i ∷ more) ≡ false → (c : ℕ) → is_start_of_non_spec_line (68 ∷ 101 ∷ 102 ∷ 97 ∷ 117 ∷ 108 ∷ 116 ∷ 115 ∷ c ∷ more) ≡ true → i ≡ c → ⊥
next_byte_of_nonstart_is_no_start i more h c is same = let there : is_start_of_non_spec_line (68 ∷ 101 ∷ 102 ∷ 97 ∷ 117 ∷ 108 ∷ 116 ∷ 115 ∷ c ∷ more) ≡ false = subst (λ (x : ℕ). is_start_of_non_spec_line (68 ∷ 101 ∷ 102 ∷ 97 ∷ 117 ∷ 108 ∷ 116 ∷ 115 ∷ x ∷ more) ≡ false) same h in absurd (cc)

byte_behind_defaults_is_no_scope_mark : (i : ℕ) (more : List ℕ) → is_start_of_non_spec_line (68 ∷ 101 ∷ 102 ∷ 97 ∷ 117 ∷ 108 ∷ 116 ∷ 115 ∷ i ∷ more) ≡ false → (i == 64 || i == 62) ≡ false
byte_behind_defaults_is_no_scope_mark i more h =
    let at : (i == 64) ≡ false = ne_eqb i 64 (next_byte_of_nonstart_is_no_start i more h 64 refl) in
    let more_than : (i == 62) ≡ false = ne_eqb i 62 (next_byte_of_nonstart_is_no_start i more h 62 refl) in
    rw (at, more_than) refl

-- The line is no Defaults line.
pub spec_line_begins_no_defaults : (word : List ℕ) (r : ℕ) (rest : List ℕ) → (r == 32 || r == 44) ≡ true → is_start_of_non_spec_line word ≡ false → leading_run_size rule.Word (word ++ r ∷ rest) ≡ length word → begins_defaults (word ++ r ∷ rest) ≡ false
spec_line_begins_no_defaults word r rest h other size = by_start (starts_with nat_eq (word ++ r ∷ rest) defaults_word) refl
  where
    line : List ℕ
    line = word ++ r ∷ rest

    by_start : (t : Bool) → starts_with nat_eq (word ++ r ∷ rest) defaults_word ≡ t → (t && (leading_run_size rule.Word (word ++ r ∷ rest) == 8 || has_host_or_runas_sign (drop 8 (word ++ r ∷ rest)))) ≡ false
    by_start false e = refl
    by_start true e =
        let front = word_of_line_with_defaults_is_longer word r rest h other (sym (same_text defaults_word (take 8 (word ++ r ∷ rest)) (sym e))) in
        let long : length word ≡ suc (suc (suc (suc (suc (suc (suc (suc (suc (length front.1))))))))) = ap length front.2 in
        let size_not : (leading_run_size rule.Word (word ++ r ∷ rest) == 8) ≡ false = ap (λ (n : ℕ). n == 8) (size ∙ long) ∙ length_above_eight_is_not_eight (length front.1) in
        let scope : has_host_or_runas_sign (drop 8 (word ++ r ∷ rest)) ≡ false =
        ap (λ (w : List ℕ). has_host_or_runas_sign (drop 8 (w ++ r ∷ rest))) front.2 ∙ byte_behind_defaults_is_no_scope_mark front.0 front.1 (subst (λ (w : List ℕ). is_start_of_non_spec_line w ≡ false) front.2 other) in
        rw (size_not, scope) refl

text_not_among_words_differs_from_each : (words : List (List ℕ)) (word : List ℕ) → is_among words word ≡ false → (w : List ℕ) → is_among words w ≡ true → bytes_eq word w ≡ false
text_not_among_words_differs_from_each words word none w is =
    elim (cases_Bool (bytes_eq word w)) [
      | inl same ↦ absurd (let there : is_among words w ≡ false = subst (λ (x : List ℕ). is_among words x ≡ false) ((bytes_eq-Decides word w).0 same) none in cc)
      | inr other ↦ other
    ]

spec_word_is_not_among_keywords : (word : List ℕ) → is_start_of_non_spec_line word ≡ false → is_among non_spec_line_keywords word ≡ false
spec_word_is_not_among_keywords word h =
    (or_parts (is_among non_spec_line_keywords word) (starts_with nat_eq word (codes "Defaults@"))
    (or_parts (is_among non_spec_line_keywords word || starts_with nat_eq word (codes "Defaults@")) (starts_with nat_eq word (codes "Defaults>")) h).0).0

-- The line is read as commands.
pub mode_of_spec_word_line_is_commands : (b : ℕ) (word : List ℕ) (r : ℕ) (rest : List ℕ) → (r == 32 || r == 44) ≡ true → (b == 35) ≡ false → is_start_of_non_spec_line (b ∷ word) ≡ false → leading_run_size rule.Gap ((b ∷ word) ++ r ∷ rest) ≡ 0 → leading_run_size rule.Word ((b ∷ word) ++ r ∷ rest) ≡ length (b ∷ word) → line_mode ((b ∷ word) ++ r ∷ rest) ≡ mode.Commands
unfolding line_mode
mode_of_spec_word_line_is_commands b word r rest h hash other gap size =
    let line = (b ∷ word) ++ r ∷ rest in
    let there : drop (leading_run_size rule.Gap line) line ≡ line = ap (λ (n : ℕ). drop n line) gap in
    let none = spec_word_is_not_among_keywords (b ∷ word) other in
    let front : take (leading_run_size rule.Word line) line ≡ b ∷ word = ap (λ (n : ℕ). take n line) size ∙ take_at (b ∷ word) (r ∷ rest) (length (b ∷ word)) refl in
    let user = text_not_among_words_differs_from_each non_spec_line_keywords (b ∷ word) none (codes "User_Alias") refl in
    let runas = text_not_among_words_differs_from_each non_spec_line_keywords (b ∷ word) none (codes "Runas_Alias") refl in
    let host = text_not_among_words_differs_from_each non_spec_line_keywords (b ∷ word) none (codes "Host_Alias") refl in
    let file = text_not_among_words_differs_from_each non_spec_line_keywords (b ∷ word) none (codes "@include") refl in
    let dir = text_not_among_words_differs_from_each non_spec_line_keywords (b ∷ word) none (codes "@includedir") refl in
    let words : is_among words_mode_keywords (b ∷ word) ≡ false = rw (user, runas, host, file, dir) refl in
    ap (λ (bytes : List ℕ). mode_by_line_start bytes) there
    ∙ ap (λ (t : Bool). if t then mode.Parameters else (if begins_hash_include line || is_among words_mode_keywords (leading_word_of_bytes line) then mode.Words else mode.Commands)) (spec_line_begins_no_defaults (b ∷ word) r rest h other size)
    ∙ ap (λ (t : Bool). if (t && is_rest_of_hash_include (word ++ r ∷ rest)) || is_among words_mode_keywords (leading_word_of_bytes line) then mode.Words else mode.Commands) hash
    ∙ ap (λ (w : List ℕ). if is_among words_mode_keywords w then mode.Words else mode.Commands) front
    ∙ ap (λ (t : Bool). if t then mode.Words else mode.Commands) words

text_without_hash_differs_from_hash_text : (word w : List ℕ) → has_given_first_byte 35 word ≡ false → has_given_first_byte 35 w ≡ true → bytes_eq word w ≡ false
text_without_hash_differs_from_hash_text word w none is =
    elim (cases_Bool (bytes_eq word w)) [
      | inl same ↦ absurd (let there : has_given_first_byte 35 w ≡ false = subst (λ (x : List ℕ). has_given_first_byte 35 x ≡ false) ((bytes_eq-Decides word w).0 same) none in cc)
      | inr other ↦ other
    ]

-- It begins no other line.
pub spec_word_token_begins_spec : (t : TokenWithBytes) → t.kind ≡ kind.Word → has_given_first_byte 35 t.text ≡ false → is_start_of_non_spec_line t.text ≡ false → BeginsNoAliasIncludeOrDefaults t
unfolding alias_kind_of_token include_is_dir_of_token is_given_word
spec_word_token_begins_spec t k hash other =
    let none = spec_word_is_not_among_keywords t.text other in
    let user = text_not_among_words_differs_from_each non_spec_line_keywords t.text none (codes "User_Alias") refl in
    let runas = text_not_among_words_differs_from_each non_spec_line_keywords t.text none (codes "Runas_Alias") refl in
    let host = text_not_among_words_differs_from_each non_spec_line_keywords t.text none (codes "Host_Alias") refl in
    let cmnd = text_not_among_words_differs_from_each non_spec_line_keywords t.text none (codes "Cmnd_Alias") refl in
    let cmd = text_not_among_words_differs_from_each non_spec_line_keywords t.text none (codes "Cmd_Alias") refl in
    let file = text_not_among_words_differs_from_each non_spec_line_keywords t.text none (codes "@include") refl in
    let dir = text_not_among_words_differs_from_each non_spec_line_keywords t.text none (codes "@includedir") refl in
    let defaults = text_not_among_words_differs_from_each non_spec_line_keywords t.text none (codes "Defaults") refl in
    let hash_file = text_without_hash_differs_from_hash_text t.text (codes "#include") hash refl in
    let hash_dir = text_without_hash_differs_from_hash_text t.text (codes "#includedir") hash refl in
    record {
      no_kind = rw (k, user, runas, host, cmnd, cmd) refl;
      no_include = rw (k, hash_file, hash_dir, file, dir) refl;
      no_defaults = rw (k, defaults) refl;
    }

-- Behind it stand hosts.
pub host_context_follows_spec_word : (word rest : List ℕ) → has_given_first_byte 35 word ≡ false → is_start_of_non_spec_line word ≡ false → context_after_token (context.First mode.Commands) kind.Word word rest ≡ context.Hosts
host_context_follows_spec_word word rest hash other =
    let none = spec_word_is_not_among_keywords word other in
    let file = text_not_among_words_differs_from_each non_spec_line_keywords word none (codes "@include") refl in
    let dir = text_not_among_words_differs_from_each non_spec_line_keywords word none (codes "@includedir") refl in
    let hash_file = text_without_hash_differs_from_hash_text word (codes "#include") hash refl in
    let hash_dir = text_without_hash_differs_from_hash_text word (codes "#includedir") hash refl in
    rw (hash_file, hash_dir, file, dir) refl

-- ---- users

first_name_starts_no_other_line : (b : ℕ) (name : List ℕ) → is_start_of_non_spec_line (text_of_units (units_of_user_name true (b ∷ name))) ≡ false
first_name_starts_no_other_line b name = by_else (is_read_as_other_than_user_name true (spelled_word (b ∷ name))) refl
  where
    by_else : (t : Bool) → is_read_as_other_than_user_name true (spelled_word (b ∷ name)) ≡ t → is_start_of_non_spec_line (text_of_units (if t then Pair b ∷ units_of_spelled_word name else units_of_spelled_word (b ∷ name))) ≡ false
    by_else true e = refl
    by_else false e = ap is_start_of_non_spec_line (text_of_word_units_is_spelled_word (b ∷ name)) ∙ (special_word_test_implies_not_special true (spelled_word (b ∷ name)) e).line

alias_name_starts_no_other_line : (name : List ℕ) → is_name name ≡ true → is_start_of_non_spec_line name ≡ false
alias_name_starts_no_other_line [] is = absurd (cc)
alias_name_starts_no_other_line (b ∷ []) is = rw (and_right (b == 68) false refl, and_right (b == 85) false refl, and_right (b == 82) false refl, and_right (b == 72) false refl, and_right (b == 67) false refl, and_right (b == 64) false refl, and_right (nat_eq 68 b) false refl) refl
alias_name_starts_no_other_line (b ∷ c ∷ name) is =
    let h : is_alias_byte c ≡ true = (and_parts (is_alias_byte c) (list_all is_alias_byte name) (and_parts (is_upper b) (is_alias_byte c && list_all is_alias_byte name) is).1).0 in
    let n : nat_eq 101 c ≡ false = ne_eqb 101 c (λ same. absurd (let there : is_alias_byte 101 ≡ true = subst (λ (x : ℕ). is_alias_byte x ≡ true) (sym same) h in cc)) in
    rw (passing_byte_differs_from_failing_byte is_alias_byte 101 c h refl, passing_byte_differs_from_failing_byte is_alias_byte 115 c h refl, passing_byte_differs_from_failing_byte is_alias_byte 117 c h refl, passing_byte_differs_from_failing_byte is_alias_byte 111 c h refl, passing_byte_differs_from_failing_byte is_alias_byte 109 c h refl, passing_byte_differs_from_failing_byte is_alias_byte 105 c h refl, n) (rw (and_right (b == 68) false refl, and_right (b == 85) false refl, and_right (b == 82) false refl, and_right (b == 72) false refl, and_right (b == 67) false refl, and_right (b == 64) false refl, and_right (nat_eq 68 b) false refl) refl)

-- A user with which a line begins is that of no other line.
pub writable_user_starts_no_other_line : (a : Atom) → IsWritableUserAtom a → is_start_of_non_spec_line (text_of_units (units_of_user_atom true a)) ≡ false
writable_user_starts_no_other_line (atom.Alias name) is = ap is_start_of_non_spec_line (text_of_plain_units_is_bytes name) ∙ alias_name_starts_no_other_line name is.0
writable_user_starts_no_other_line (atom.Name []) is = absurd (is refl)
writable_user_starts_no_other_line (atom.Name (b ∷ name)) is = first_name_starts_no_other_line b name
writable_user_starts_no_other_line (atom.Host p) is = absurd is
writable_user_starts_no_other_line (atom.Address p) is = absurd is
writable_user_starts_no_other_line (atom.Network p m) is = absurd is
writable_user_starts_no_other_line atom.Listing is = absurd is
writable_user_starts_no_other_line (atom.Path p m) is = absurd is
writable_user_starts_no_other_line (atom.Sudoedit m) is = absurd is
writable_user_starts_no_other_line a is = refl
