-- The units that a name is, and the parts that go on through it.
use Rattle.std.proofs.Common.{◌≡◌, ℕ, Bool, true, false, ◌&&◌, ◌||◌, List, [], ◌∷◌, ◌++◌, refl, sym, ap, subst, ◌∙◌, Some, None}
use Rattle.std.specs.Prelude.{◌==◌, if◌then◌else◌, nat_eq, Option}
use Rattle.std.specs.Str.{bytes_eq}
use Rattle.std.proofs.lemmas.List.{append_assoc}
use Rattle.sudoers_text.specs.Unit.{LineUnit, Quoted, Comment, Byte, bytes_of_unit, bytes_of_reversed_units, unit_after_backslash, bytes_of_units_after_leading_gap, is_empty, is_gap_unit, defaults_word, begins_line_end, begins_lf, is_hash_of_comment, rest_of_quoted_part, bytes_up_to_line_end, unit_at, AreUnitsBefore}
use Rattle.sudoers_text.specs.Line.{has_open_last_unit, ends_in_unpaired_backslash}
use Rattle.sudoers_text.specs.Ended.{ends_in_lf}
use Rattle.sudoers_text.specs.Part.{is_upper}
use Rattle.sudoers_text.specs.Word.{is_alias_byte}
use Rattle.sudoers_text.proofs.Closed.{lf_end_is_that_of_last_part}
use Rattle.sudoers_text.proofs.Ahead.{bytes_told_apart_by_test_are_unequal}
use Rattle.sudoers_text.proofs.Through.{IsNameByFirstAndOthers, AreAliasBytes, upper_case_letter_is_alias_byte}
use Rattle.sudoers_text.proofs.NameLeft.{AreUnitsAlikeBeforeRest, IsNeverDefaultsWithMore, bytes_as_units_after_units}

pub unit_moved_from_text_keeps_bytes : (w : LineUnit) (b : List LineUnit) (after s : List ℕ) → s ≡ bytes_of_unit w ++ after → bytes_of_reversed_units (w ∷ b) ++ after ≡ bytes_of_reversed_units b ++ s
unit_moved_from_text_keeps_bytes w b after s e = append_assoc (bytes_of_reversed_units b) (bytes_of_unit w) after ∙ ap (λ (t : List ℕ). bytes_of_reversed_units b ++ t) (sym e)

pub unit_at_text_extends_units_before_rest : (w : LineUnit) (b : List LineUnit) (after s : List ℕ) → s ≡ bytes_of_unit w ++ after → unit_at b s ≡ Some w → AreUnitsBefore b s
    → AreUnitsBefore (w ∷ b) after
unit_at_text_extends_units_before_rest w b after s e is each = (subst (λ (t : List ℕ). unit_at b t ≡ Some w) e is, subst (λ (t : List ℕ). AreUnitsBefore b t) e each)

-- ---- the name

-- which unit begins, by what the first byte is
abbrev unit_by_first_byte_tests : List LineUnit → ℕ → List ℕ → Bool → Bool → Bool → Bool → Option LineUnit
unit_by_first_byte_tests us b rest ends backslash quote hash =
    if ends then None
    else (if backslash then Some (unit_after_backslash rest)
    else (if quote then Some (Quoted (rest_of_quoted_part false rest))
    else (if hash then Some (Comment (bytes_up_to_line_end rest)) else Some (Byte b))))

pub unit_at_byte_is_chosen_by_tests : (us : List LineUnit) (b : ℕ) (rest : List ℕ) (ends backslash quote hash : Bool) → begins_line_end (b ∷ rest) ≡ ends
    → (b == 92) ≡ backslash → (b == 34) ≡ quote → (b == 35 && is_hash_of_comment us rest) ≡ hash
    → unit_at us (b ∷ rest) ≡ unit_by_first_byte_tests us b rest ends backslash quote hash
unit_at_byte_is_chosen_by_tests us b rest ends backslash quote hash e f g h =
    ap (λ (t : Bool). unit_by_first_byte_tests us b rest t (b == 92) (b == 34) (b == 35 && is_hash_of_comment us rest)) e
    ∙ ap (λ (t : Bool). unit_by_first_byte_tests us b rest ends t (b == 34) (b == 35 && is_hash_of_comment us rest)) f
    ∙ ap (λ (t : Bool). unit_by_first_byte_tests us b rest ends backslash t (b == 35 && is_hash_of_comment us rest)) g
    ∙ ap (λ (t : Bool). unit_by_first_byte_tests us b rest ends backslash quote t) h

pub alias_byte_begins_byte_unit : (us : List LineUnit) (b : ℕ) (rest : List ℕ) → is_alias_byte b ≡ true → unit_at us (b ∷ rest) ≡ Some (Byte b)
alias_byte_begins_byte_unit us b rest h =
    let lf : (b == 10) ≡ false = bytes_told_apart_by_test_are_unequal is_alias_byte 10 b h refl in
    let cr : (b == 13) ≡ false = bytes_told_apart_by_test_are_unequal is_alias_byte 13 b h refl in
    let hash : (b == 35) ≡ false = bytes_told_apart_by_test_are_unequal is_alias_byte 35 b h refl in
    unit_at_byte_is_chosen_by_tests us b rest false false false false (ap (λ (t : Bool). t || (b == 13 && begins_lf rest)) lf ∙ ap (λ (t : Bool). t && begins_lf rest) cr)
    (bytes_told_apart_by_test_are_unequal is_alias_byte 92 b h refl) (bytes_told_apart_by_test_are_unequal is_alias_byte 34 b h refl) (ap (λ (t : Bool). t && is_hash_of_comment us rest) hash)

pub name_bytes_extend_units_before_rest : (x s : List ℕ) (b : List LineUnit) → AreAliasBytes x → AreUnitsBefore b (x ++ s) → AreUnitsBefore (bytes_as_units_after_units x b) s
name_bytes_extend_units_before_rest [] s b plain each = each
name_bytes_extend_units_before_rest (a ∷ x) s b plain each =
    name_bytes_extend_units_before_rest x s (Byte a ∷ b) plain.1 (unit_at_text_extends_units_before_rest (Byte a) b (x ++ s) (a ∷ (x ++ s)) refl (alias_byte_begins_byte_unit b a (x ++ s) plain.0) each)

pub name_bytes_moved_to_units_keep_text : (x s : List ℕ) (b : List LineUnit) → bytes_of_reversed_units (bytes_as_units_after_units x b) ++ s ≡ bytes_of_reversed_units b ++ (x ++ s)
name_bytes_moved_to_units_keep_text [] s b = refl
name_bytes_moved_to_units_keep_text (a ∷ x) s b = name_bytes_moved_to_units_keep_text x s (Byte a ∷ b) ∙ unit_moved_from_text_keeps_bytes (Byte a) b (x ++ s) (a ∷ (x ++ s)) refl

pub name_units_keep_last_unit_closed : (x : List ℕ) (b : List LineUnit) → AreAliasBytes x → has_open_last_unit b ≡ false → has_open_last_unit (bytes_as_units_after_units x b) ≡ false
name_units_keep_last_unit_closed [] b plain h = h
name_units_keep_last_unit_closed (a ∷ x) b plain h = name_units_keep_last_unit_closed x (Byte a ∷ b) plain.1 (bytes_told_apart_by_test_are_unequal is_alias_byte 92 a plain.0 refl)

-- ---- parts that go on through the name

pub text_through_name_splits_at_tail : (q x tail rest s : List ℕ) (u : ℕ) → s ≡ tail ++ rest → q ++ u ∷ (x ++ s) ≡ (q ++ u ∷ (x ++ tail)) ++ rest
text_through_name_splits_at_tail q x tail rest s u e =
    ap (λ (t : List ℕ). q ++ u ∷ (x ++ t)) e
    ∙ ap (λ (t : List ℕ). q ++ u ∷ t) (sym (append_assoc x tail rest))
    ∙ sym (append_assoc q (u ∷ (x ++ tail)) rest)

-- A text that has a byte which a word lacks is not that word.
WordLacksByte : ℕ → List ℕ → Type 0
WordLacksByte b [] = Unit {0}
WordLacksByte b (c ∷ word) = (nat_eq b c ≡ false) × WordLacksByte b word

text_with_lacking_byte_is_not_word : (word q : List ℕ) (b : ℕ) (xs : List ℕ) → WordLacksByte b word → bytes_eq (q ++ b ∷ xs) word ≡ false
unfolding WordLacksByte
text_with_lacking_byte_is_not_word [] [] b xs lacks = refl
text_with_lacking_byte_is_not_word [] (c ∷ q) b xs lacks = refl
text_with_lacking_byte_is_not_word (c ∷ word) [] b xs lacks = let other : nat_eq b c ≡ false = lacks.0 in rw other refl
text_with_lacking_byte_is_not_word (c ∷ word) (d ∷ q) b xs lacks = by_test (nat_eq d c) (text_with_lacking_byte_is_not_word word q b xs lacks.1)
  where
    by_test : (t : Bool) → bytes_eq (q ++ b ∷ xs) word ≡ false → (t && bytes_eq (q ++ b ∷ xs) word) ≡ false
    by_test true e = e
    by_test false e = refl

non_gap_unit_extends_begun_line : (w : LineUnit) (b : List LineUnit) → is_gap_unit w ≡ false → bytes_of_units_after_leading_gap (w ∷ b) ≡ bytes_of_units_after_leading_gap b ++ bytes_of_unit w
non_gap_unit_extends_begun_line w b h = by_test (is_empty (bytes_of_units_after_leading_gap b)) (is_gap_unit w) h
  where
    by_test : (s t : Bool) → t ≡ false → (if s && t then [] else bytes_of_units_after_leading_gap b ++ bytes_of_unit w) ≡ bytes_of_units_after_leading_gap b ++ bytes_of_unit w
    by_test true false e = refl
    by_test false false e = refl
    by_test s true e = absurd (cc)

-- what a quoted part or a comment leaves behind it
record HasBegunAndIsNeverDefaults (b : List LineUnit) (rest : List ℕ) : Type 0 where
  some : is_empty (bytes_of_units_after_leading_gap b) ≡ false
  never : IsNeverDefaultsWithMore (bytes_of_units_after_leading_gap b) rest

marked_unit_begins_line_never_defaults : (w : LineUnit) (b : List LineUnit) (m : ℕ) (t rest : List ℕ) → is_gap_unit w ≡ false → bytes_of_unit w ≡ m ∷ t → WordLacksByte m defaults_word
    → HasBegunAndIsNeverDefaults (w ∷ b) rest
marked_unit_begins_line_never_defaults w b m t rest gap text lacks =
    let is : bytes_of_units_after_leading_gap (w ∷ b) ≡ bytes_of_units_after_leading_gap b ++ m ∷ t = non_gap_unit_extends_begun_line w b gap ∙ ap (λ (x : List ℕ). bytes_of_units_after_leading_gap b ++ x) text in
    record {
      some = ap is_empty is ∙ some_behind (bytes_of_units_after_leading_gap b);
      never = λ p more e. ap (λ (x : List ℕ). bytes_eq (x ++ p) defaults_word) is
          ∙ ap (λ (x : List ℕ). bytes_eq x defaults_word) (append_assoc (bytes_of_units_after_leading_gap b) (m ∷ t) p)
          ∙ text_with_lacking_byte_is_not_word defaults_word (bytes_of_units_after_leading_gap b) m (t ++ p) lacks;
    }
  where
    some_behind : (xs : List ℕ) → is_empty (xs ++ m ∷ t) ≡ false
    some_behind [] = refl
    some_behind (x ∷ xs) = refl

defaults_word_lacks_quote : WordLacksByte 34 defaults_word
unfolding WordLacksByte
defaults_word_lacks_quote = (refl, (refl, (refl, (refl, (refl, (refl, (refl, (refl, tt))))))))

defaults_word_lacks_hash : WordLacksByte 35 defaults_word
unfolding WordLacksByte
defaults_word_lacks_hash = (refl, (refl, (refl, (refl, (refl, (refl, (refl, (refl, tt))))))))

pub quoted_parts_leave_alike_units : (b : List LineUnit) (t r rest : List ℕ) → AreUnitsAlikeBeforeRest (Quoted t ∷ b) (Quoted r ∷ b) rest
quoted_parts_leave_alike_units b t r rest =
    let one = marked_unit_begins_line_never_defaults (Quoted t) b 34 t rest refl refl defaults_word_lacks_quote in
    let another = marked_unit_begins_line_never_defaults (Quoted r) b 34 r rest refl refl defaults_word_lacks_quote in
    record { item = refl; begun_one = one.some; begun_another = another.some; never_one = one.never; never_another = another.never }

pub comments_leave_alike_units : (b : List LineUnit) (t r rest : List ℕ) → AreUnitsAlikeBeforeRest (Comment t ∷ b) (Comment r ∷ b) rest
comments_leave_alike_units b t r rest =
    let one = marked_unit_begins_line_never_defaults (Comment t) b 35 t rest refl refl defaults_word_lacks_hash in
    let another = marked_unit_begins_line_never_defaults (Comment r) b 35 r rest refl refl defaults_word_lacks_hash in
    record { item = refl; begun_one = one.some; begun_another = another.some; never_one = one.never; never_another = another.never }

-- how a quoted part ends that goes on through a name
name_does_not_end_in_lf : (u : ℕ) (x : List ℕ) → is_alias_byte u ≡ true → AreAliasBytes x → ends_in_lf (u ∷ (x ++ [])) ≡ false
name_does_not_end_in_lf u [] h plain = bytes_told_apart_by_test_are_unequal is_alias_byte 10 u h refl
name_does_not_end_in_lf u (a ∷ x) h plain = name_does_not_end_in_lf a x plain.0 plain.1

pub lf_end_through_name_is_in_tail : (q x tail : List ℕ) (u : ℕ) → IsNameByFirstAndOthers u x → ends_in_lf (q ++ u ∷ (x ++ tail)) ≡ ends_in_lf tail
lf_end_through_name_is_in_tail q x [] u name = lf_end_is_that_of_last_part q u (x ++ []) ∙ name_does_not_end_in_lf u x (upper_case_letter_is_alias_byte u name.first) name.others
lf_end_through_name_is_in_tail q x (t ∷ tail) u name = lf_end_is_that_of_last_part q u (x ++ t ∷ tail) ∙ lf_end_is_that_of_last_part (u ∷ x) t tail

unpaired_backslash_past_name_is_in_tail : (x tail : List ℕ) → AreAliasBytes x → ends_in_unpaired_backslash false (x ++ tail) ≡ ends_in_unpaired_backslash false tail
unpaired_backslash_past_name_is_in_tail [] tail plain = refl
unpaired_backslash_past_name_is_in_tail (a ∷ x) tail plain =
    ap (λ (t : Bool). ends_in_unpaired_backslash t (x ++ tail)) (bytes_told_apart_by_test_are_unequal is_alias_byte 92 a plain.0 refl) ∙ unpaired_backslash_past_name_is_in_tail x tail plain.1

unpaired_backslash_through_name_is_in_tail : (t : Bool) (q x tail : List ℕ) (u : ℕ) → IsNameByFirstAndOthers u x
    → ends_in_unpaired_backslash t (q ++ u ∷ (x ++ tail)) ≡ ends_in_unpaired_backslash false tail
unpaired_backslash_through_name_is_in_tail true [] x tail u name = unpaired_backslash_past_name_is_in_tail x tail name.others
unpaired_backslash_through_name_is_in_tail false [] x tail u name =
    ap (λ (t : Bool). ends_in_unpaired_backslash t (x ++ tail)) (bytes_told_apart_by_test_are_unequal is_upper 92 u name.first refl) ∙ unpaired_backslash_past_name_is_in_tail x tail name.others
unpaired_backslash_through_name_is_in_tail true (c ∷ q) x tail u name = unpaired_backslash_through_name_is_in_tail false q x tail u name
unpaired_backslash_through_name_is_in_tail false (c ∷ q) x tail u name = unpaired_backslash_through_name_is_in_tail (c == 92) q x tail u name

pub quote_through_name_is_open_by_tail : (b : List LineUnit) (q x tail : List ℕ) (u : ℕ) → IsNameByFirstAndOthers u x
    → has_open_last_unit (Quoted (q ++ u ∷ (x ++ tail)) ∷ b) ≡ (ends_in_lf tail || ends_in_unpaired_backslash false tail)
quote_through_name_is_open_by_tail b q x tail u name =
    ap (λ (t : Bool). t || ends_in_unpaired_backslash false (q ++ u ∷ (x ++ tail))) (lf_end_through_name_is_in_tail q x tail u name)
    ∙ ap (λ (t : Bool). ends_in_lf tail || t) (unpaired_backslash_through_name_is_in_tail false q x tail u name)
