-- Files of a bundle: one spelling, which is read.
use Rattle.std.proofs.Common.{◌≡◌, ◌≢◌, ◌∙◌, ℕ, zero, suc, ◌+◌, ◌^◌, ◌<◌, ◌≤◌, Bool, true, false, ◌==◌, ◌||◌, List, [], ◌∷◌, ◌++◌, length, take, drop, Option, Some, None, Result, Ok, Err, refl, sym, ap, subst, arith, inl, inr, if◌then◌else◌}
use Rattle.std.proofs.lemmas.Bool.{cases_Bool, le-ltb, ltb-false, ne_eqb, or_parts}
use Rattle.std.proofs.lemmas.List.{append_assoc, append-nil, length-append, take-append-drop}
use Rattle.std.proofs.Math.Seq.{drop-append_seam, take-append_seam}
use Rattle.std.proofs.lemmas.Slice.Eq.{bytes_eq-Decides}
use Rattle.std.specs.Fmt.{decimal}
use Rattle.std.specs.List.{list_any}
use Rattle.std.specs.Prelude.{codes, nat_lt, option_and_then}
use Rattle.std.specs.Str.{bytes_eq}
use Rattle.sudoers_tree.specs.declared.named_files.NamedFile.{NamedFile}
use Rattle.sudoers_bundle.specs.internal.{IsUnreadBundleRest, bundle_result_after_files}
use Rattle.sudoers_bundle.specs.Bundle.{AllFitInBundle, FitsInBundle, file_before_bundle_result, bundle_of_files, named_file_and_rest, files_of_bundle_text, files_of_bundle_within_count, first_file_of_bundle, bundle_result_from_first, header_of_file, file_after_header_mark, number_of_short_decimal, parts_split_at_byte}
use Rattle.sudoers_bundle.proofs.NumberLemmas.{IsNumberOfShortDecimal, decimal_lacks_byte_below_digits, short_decimal_of_number_is_read_back, number_of_short_decimal_is_below_limit, short_decimal_result_is_its_number}
use Rattle.sudoers_bundle.proofs.PartLemmas.{IsTextCutAtByte, text_of_parts_is_cut_into_them, split_result_is_cut_at_byte, rest_of_text_lacks_missing_byte, appended_texts_lack_missing_byte}

abbrev FileAndRest : Type 0
FileAndRest = NamedFile × List ℕ

abbrev BytesBeforeAndAfter : Type 0
BytesBeforeAndAfter = List ℕ × List ℕ

-- THE FIRST FILE

-- what is found tells the text, and is a file that a bundle can hold
pub record IsFirstFileOfText (text : List ℕ) (found : FileAndRest) : Type 0 where
  pub whole : text ≡ header_of_file found.0 ++ found.0.bytes ++ found.1
  pub held : length found.0.bytes < 2 ^ 64 → FitsInBundle found.0

-- a file that so many of the bytes are
record IsFileTakenFromBytes (name bytes : List ℕ) (count : ℕ) (found : FileAndRest) : Type 0 where
  same : found.0.name ≡ name
  named : name ≢ []
  size : length found.0.bytes ≡ count
  whole : bytes ≡ found.0.bytes ++ found.1

name_of_nonzero_length_is_not_empty : (name : List ℕ) → (length name == 0) ≡ false → name ≢ []
name_of_nonzero_length_is_not_empty [] h e = absurd (cc)
name_of_nonzero_length_is_not_empty (b ∷ name) h e = absurd (cc)

length_of_taken_bytes_is_count : (bytes : List ℕ) (count : ℕ) → count ≤ length bytes → length (take count bytes) ≡ count
length_of_taken_bytes_is_count bytes zero within = refl
length_of_taken_bytes_is_count [] (suc count) within = absurd (omega (arith, within))
length_of_taken_bytes_is_count (b ∷ bytes) (suc count) within = ap suc (length_of_taken_bytes_is_count bytes count (omega (arith, within)))

named_file_result_is_taken_from_bytes : (name bytes : List ℕ) (count : ℕ) (found : FileAndRest) → named_file_and_rest name bytes count ≡ Some found → IsFileTakenFromBytes name bytes count found
named_file_result_is_taken_from_bytes name bytes count found is =
    elim (cases_Bool ((length name == 0) || nat_lt (length bytes) count)) [
      | inl t ↦ let no : None ≡ Some found = rw t at is in absurd (cc)
      | inr f ↦
          let told : Some (record { name = name; bytes = take count bytes }, drop count bytes) ≡ Some found = rw f at is in
          let same : (record { name = name; bytes = take count bytes }, drop count bytes) ≡ found = cc in
          let both = or_parts (length name == 0) (nat_lt (length bytes) count) f in
          let within : count ≤ length bytes = ltb-false (length bytes) count both.1 in
          record {
            same = sym (ap (λ (x : FileAndRest). x.0.name) same);
            named = name_of_nonzero_length_is_not_empty name both.0;
            size = sym (ap (λ (x : FileAndRest). length x.0.bytes) same) ∙ length_of_taken_bytes_is_count bytes count within;
            whole = sym (take-append-drop count bytes) ∙ ap (λ (x : FileAndRest). x.0.bytes ++ x.1) same;
          }
    ]

-- what a header tells
record IsFileAfterHeader (rest bytes : List ℕ) (found : FileAndRest) : Type 0 where
  word : List ℕ
  name : List ℕ
  whole : rest ≡ word ++ 32 ∷ name
  number : ℕ
  is : IsNumberOfShortDecimal word number
  file : IsFileTakenFromBytes name bytes number found

file_after_header_result_is_headed : (rest bytes : List ℕ) (found : FileAndRest) → file_after_header_mark rest bytes ≡ Some found → IsFileAfterHeader rest bytes found
file_after_header_result_is_headed rest bytes found is = by (parts_split_at_byte 32 rest) refl is
  where
    number : (parts : BytesBeforeAndAfter) → parts_split_at_byte 32 rest ≡ Some parts → (o : Option ℕ) → number_of_short_decimal parts.0 ≡ o → option_and_then (named_file_and_rest parts.1 bytes) o ≡ Some found
        → IsFileAfterHeader rest bytes found
    number parts cut None is told = absurd (cc)
    number parts cut (Some n) is told = record {
      word = parts.0;
      name = parts.1;
      whole = (split_result_is_cut_at_byte 32 rest parts cut).whole;
      number = n;
      is = short_decimal_result_is_its_number parts.0 n is;
      file = named_file_result_is_taken_from_bytes parts.1 bytes n found told;
    }

    by : (o : Option BytesBeforeAndAfter) → parts_split_at_byte 32 rest ≡ o
        → option_and_then (λ (parts : BytesBeforeAndAfter). option_and_then (named_file_and_rest parts.1 bytes) (number_of_short_decimal parts.0)) o ≡ Some found → IsFileAfterHeader rest bytes found
    by None cut told = absurd (cc)
    by (Some parts) cut told = number parts cut (number_of_short_decimal parts.0) refl told

-- a header before bytes, as one list
header_before_rest_is_regrouped_parts : (file : NamedFile) (rest : List ℕ) → header_of_file file ++ rest ≡ codes "%% " ++ (decimal (length file.bytes) ++ (32 ∷ (file.name ++ 10 ∷ rest)))
header_before_rest_is_regrouped_parts file rest =
    ap (λ (t : List ℕ). codes "%% " ++ t)
    (append_assoc (decimal (length file.bytes)) (32 ∷ (file.name ++ 10 ∷ [])) rest
    ∙ ap (λ (t : List ℕ). decimal (length file.bytes) ++ 32 ∷ t) (append_assoc file.name (10 ∷ []) rest))

headed_line_and_bytes_are_first_file : (line bytes : List ℕ) (found : FileAndRest) → list_any (λ c. c == 10) line ≡ false → take 3 line ≡ codes "%% " → IsFileAfterHeader (drop 3 line) bytes found
    → IsFirstFileOfText (line ++ 10 ∷ bytes) found
headed_line_and_bytes_are_first_file line bytes found lacks mark h =
    let spelled : decimal (length found.0.bytes) ≡ h.word = ap decimal h.file.size ∙ h.is.spelled in
    let parts : line ≡ codes "%% " ++ (h.word ++ 32 ∷ h.name) =
    sym (take-append-drop 3 line) ∙ ap (λ (t : List ℕ). t ++ drop 3 line) mark ∙ ap (λ (t : List ℕ). codes "%% " ++ t) h.whole in
    record {
      whole =
          ap (λ (t : List ℕ). t ++ 10 ∷ bytes) parts
          ∙ ap (λ (t : List ℕ). codes "%% " ++ t) (append_assoc h.word (32 ∷ h.name) (10 ∷ bytes))
          ∙ ap (λ (t : List ℕ). codes "%% " ++ (h.word ++ (32 ∷ (h.name ++ 10 ∷ t)))) h.file.whole
          ∙ ap (λ (t : List ℕ). codes "%% " ++ (t ++ (32 ∷ (h.name ++ 10 ∷ (found.0.bytes ++ found.1))))) (sym spelled)
          ∙ ap (λ (t : List ℕ). codes "%% " ++ (decimal (length found.0.bytes) ++ (32 ∷ (t ++ 10 ∷ (found.0.bytes ++ found.1))))) (sym h.file.same)
          ∙ sym (header_before_rest_is_regrouped_parts found.0 (found.0.bytes ++ found.1))
          ∙ sym (append_assoc (header_of_file found.0) found.0.bytes found.1);
      held = λ small. record {
        named = λ none. h.file.named (sym h.file.same ∙ none);
        line =
            ap (λ (t : List ℕ). list_any (λ c. c == 10) t) h.file.same
            ∙ rest_of_text_lacks_missing_byte 10 (codes "%% " ++ (h.word ++ 32 ∷ [])) h.name
            (ap (λ (t : List ℕ). list_any (λ c. c == 10) t) (ap (λ (t : List ℕ). codes "%% " ++ t) (append_assoc h.word (32 ∷ []) h.name) ∙ sym parts) ∙ lacks);
        short = omega (arith, number_of_short_decimal_is_below_limit h.word h.number h.is (omega (arith, small, h.file.size)), h.file.size);
      };
    }

pub first_file_result_is_first_of_text : (text : List ℕ) (found : FileAndRest) → first_file_of_bundle text ≡ Some found → IsFirstFileOfText text found
first_file_result_is_first_of_text text found is = by (parts_split_at_byte 10 text) refl is
  where
    marked : (parts : BytesBeforeAndAfter) → parts_split_at_byte 10 text ≡ Some parts → (b : Bool) → bytes_eq (take 3 parts.0) (codes "%% ") ≡ b
        → (if b then file_after_header_mark (drop 3 parts.0) parts.1 else None) ≡ Some found → IsFirstFileOfText text found
    marked parts cut true mark told =
        let c : IsTextCutAtByte 10 text parts = split_result_is_cut_at_byte 10 text parts cut in
        subst (λ (t : List ℕ). IsFirstFileOfText t found) (sym c.whole)
        (headed_line_and_bytes_are_first_file parts.0 parts.1 found c.lacks ((bytes_eq-Decides (take 3 parts.0) (codes "%% ")).0 mark) (file_after_header_result_is_headed (drop 3 parts.0) parts.1 found told))
    marked parts cut false mark told = absurd (cc)

    by : (o : Option BytesBeforeAndAfter) → parts_split_at_byte 10 text ≡ o
        → option_and_then (λ (parts : BytesBeforeAndAfter). if bytes_eq (take 3 parts.0) (codes "%% ") then file_after_header_mark (drop 3 parts.0) parts.1 else None) o ≡ Some found
        → IsFirstFileOfText text found
    by None cut told = absurd (cc)
    by (Some parts) cut told = marked parts cut (bytes_eq (take 3 parts.0) (codes "%% ")) refl told

abbrev file_with_name_and_parts : List ℕ → BytesBeforeAndAfter → FileAndRest
file_with_name_and_parts name parts = (record { name = name; bytes = parts.0 }, parts.1)

-- the first file of a bundle is read
pub first_file_of_bundle_is_read_back : (file : NamedFile) (rest : List ℕ) → FitsInBundle file → first_file_of_bundle (header_of_file file ++ file.bytes ++ rest) ≡ Some (file, rest)
first_file_of_bundle_is_read_back file rest held =
    let n : ℕ = length file.bytes in
    let small : n < 2 ^ 64 = omega (arith, held.short) in
    let line : List ℕ = codes "%% " ++ (decimal n ++ 32 ∷ file.name) in
    let bytes : List ℕ = file.bytes ++ rest in
    let whole : header_of_file file ++ file.bytes ++ rest ≡ line ++ 10 ∷ bytes =
    append_assoc (header_of_file file) file.bytes rest ∙ header_before_rest_is_regrouped_parts file bytes
    ∙ ap (λ (t : List ℕ). codes "%% " ++ t) (sym (append_assoc (decimal n) (32 ∷ file.name) (10 ∷ bytes))) in
    let lacks : list_any (λ c. c == 10) line ≡ false =
    appended_texts_lack_missing_byte 10 (decimal n) (32 ∷ file.name) (decimal_lacks_byte_below_digits 10 n (omega arith) small) held.line in
    let named : (length file.name == 0) ≡ false = some file.name held.named in
    let within : nat_lt (length bytes) n ≡ false = le-ltb (length bytes) n (omega (arith, length-append file.bytes rest)) in
    let taken : named_file_and_rest file.name bytes n ≡ Some (file, rest) =
    rw (named, within) (ap (λ (parts : BytesBeforeAndAfter). Some (file_with_name_and_parts file.name parts)) (pair (take (length file.bytes) (file.bytes ++ rest)) (drop (length file.bytes) (file.bytes ++ rest)) file.bytes rest (take-append_seam file.bytes rest) (drop-append_seam file.bytes rest))) in
    ap first_file_of_bundle whole
    ∙ ap (option_and_then (λ (parts : BytesBeforeAndAfter). if bytes_eq (take 3 parts.0) (codes "%% ") then file_after_header_mark (drop 3 parts.0) parts.1 else None)) (text_of_parts_is_cut_into_them 10 line bytes lacks)
    ∙ ap (option_and_then (λ (parts : BytesBeforeAndAfter). option_and_then (named_file_and_rest parts.1 bytes) (number_of_short_decimal parts.0))) (text_of_parts_is_cut_into_them 32 (decimal n) file.name (decimal_lacks_byte_below_digits 32 n (omega arith) small))
    ∙ ap (option_and_then (named_file_and_rest file.name bytes)) (short_decimal_of_number_is_read_back n held.short)
    ∙ taken
  where
    some : (name : List ℕ) → name ≢ [] → (length name == 0) ≡ false
    some [] is_some = absurd (is_some refl)
    some (b ∷ name) is_some = ne_eqb (length (b ∷ name)) 0 (λ e. omega (arith, e))

    pair : (a b c d : List ℕ) → a ≡ c → b ≡ d → ◌≡◌ {A = BytesBeforeAndAfter} (a, b) (c, d)
    pair a b c d p q = cc

-- ALL FILES

pub bundle_within_count_is_read_back : (files : List NamedFile) (most number : ℕ) → length (bundle_of_files files) ≤ most → AllFitInBundle files → files_of_bundle_within_count most number (bundle_of_files files) ≡ Ok files
bundle_within_count_is_read_back [] most number enough held = refl
bundle_within_count_is_read_back (file ∷ files) zero number enough held =
    absurd (omega (arith, enough, length-append (header_of_file file ++ file.bytes) (bundle_of_files files), length-append (header_of_file file) file.bytes))
bundle_within_count_is_read_back (file ∷ files) (suc most) number enough held =
    let size : length (bundle_of_files (file ∷ files)) ≡ length (header_of_file file ++ file.bytes) + length (bundle_of_files files) = length-append (header_of_file file ++ file.bytes) (bundle_of_files files) in
    let some : 0 < length (header_of_file file ++ file.bytes) = omega (arith, length-append (header_of_file file) file.bytes) in
    ap (bundle_result_from_first number (files_of_bundle_within_count most (number + 1))) (first_file_of_bundle_is_read_back file (bundle_of_files files) held.0)
    ∙ ap (file_before_bundle_result file) (bundle_within_count_is_read_back files most (number + 1) (omega (arith, size, some, enough)) held.1)

-- a text that is read as files is their bundle
pub record AreFilesOfBundleText (text : List ℕ) (files : List NamedFile) : Type 0 where
  pub whole : text ≡ bundle_of_files files
  pub held : length text < 2 ^ 64 → AllFitInBundle files

pub files_read_within_count_are_of_text : (most number : ℕ) (text : List ℕ) (files : List NamedFile) → files_of_bundle_within_count most number text ≡ Ok files → AreFilesOfBundleText text files
files_read_within_count_are_of_text most number [] files is = let same : [] ≡ files = cc in subst (AreFilesOfBundleText []) same (record { whole = refl; held = λ small. tt })
files_read_within_count_are_of_text zero number (b ∷ text) files is = absurd (cc)
files_read_within_count_are_of_text (suc most) number (b ∷ text) files is = by (files_read_within_count_are_of_text most (number + 1)) (first_file_of_bundle (b ∷ text)) refl is
  where
    rest : (found : FileAndRest) → IsFirstFileOfText (b ∷ text) found → ((t : List ℕ) (fs : List NamedFile) → files_of_bundle_within_count most (number + 1) t ≡ Ok fs → AreFilesOfBundleText t fs)
        → (r : Result (List NamedFile) ℕ) → files_of_bundle_within_count most (number + 1) found.1 ≡ r → file_before_bundle_result found.0 r ≡ Ok files → AreFilesOfBundleText (b ∷ text) files
    rest found first again (Ok fs) read told =
        let same : found.0 ∷ fs ≡ files = cc in
        let more : AreFilesOfBundleText found.1 fs = again found.1 fs read in
        let size : length (b ∷ text) ≡ length (header_of_file found.0 ++ found.0.bytes) + length found.1 = ap length first.whole ∙ length-append (header_of_file found.0 ++ found.0.bytes) found.1 in
        let front : length (header_of_file found.0 ++ found.0.bytes) ≡ length (header_of_file found.0) + length found.0.bytes = length-append (header_of_file found.0) found.0.bytes in
        subst (AreFilesOfBundleText (b ∷ text)) same (record {
          whole = first.whole ∙ ap (λ (t : List ℕ). header_of_file found.0 ++ found.0.bytes ++ t) more.whole;
          held = λ small. (first.held (omega (arith, small, size, front)), more.held (omega (arith, small, size)));
        })
    rest found first again (Err n) read told = absurd (cc)

    by : ((t : List ℕ) (fs : List NamedFile) → files_of_bundle_within_count most (number + 1) t ≡ Ok fs → AreFilesOfBundleText t fs) → (o : Option FileAndRest) → first_file_of_bundle (b ∷ text) ≡ o
        → bundle_result_from_first number (files_of_bundle_within_count most (number + 1)) o ≡ Ok files → AreFilesOfBundleText (b ∷ text) files
    by again None is told = absurd (cc)
    by again (Some found) is told = rest found (first_file_result_is_first_of_text (b ∷ text) found is) again (files_of_bundle_within_count most (number + 1) found.1) refl told

-- READING ON

pub rest_after_first_file_is_shorter : (text : List ℕ) (found : FileAndRest) → first_file_of_bundle text ≡ Some found → length found.1 < length text
rest_after_first_file_is_shorter text found is =
    let whole : text ≡ header_of_file found.0 ++ found.0.bytes ++ found.1 = (first_file_result_is_first_of_text text found is).whole in
    omega (arith, ap length whole, length-append (header_of_file found.0 ++ found.0.bytes) found.1, length-append (header_of_file found.0) found.0.bytes)

result_after_pushed_file_is_nested : (files : List NamedFile) (file : NamedFile) (r : Result (List NamedFile) ℕ) → bundle_result_after_files (files ++ file ∷ []) r ≡ bundle_result_after_files files (file_before_bundle_result file r)
result_after_pushed_file_is_nested files file (Ok more) = ap Ok (append_assoc files (file ∷ []) more)
result_after_pushed_file_is_nested files file (Err n) = refl

pub reading_next_file_keeps_unread_rest : (text : List ℕ) (files : List NamedFile) (rest : List ℕ) (found : FileAndRest) → IsUnreadBundleRest text files rest → 0 < length rest → first_file_of_bundle rest ≡ Some found
    → IsUnreadBundleRest text (files ++ found.0 ∷ []) found.1
reading_next_file_keeps_unread_rest text files [] found u some is = absurd (omega (arith, some))
reading_next_file_keeps_unread_rest text files (b ∷ rest) found u some is = by u.most u.enough u.told
  where
    by : (most : ℕ) → length (b ∷ rest) ≤ most → bundle_result_after_files files (files_of_bundle_within_count most (length files + 1) (b ∷ rest)) ≡ files_of_bundle_text text → IsUnreadBundleRest text (files ++ found.0 ∷ []) found.1
    by zero enough told = absurd (omega (arith, enough))
    by (suc most) enough told =
        let count : length (files ++ found.0 ∷ []) + 1 ≡ length files + 1 + 1 = omega (arith, length-append files (found.0 ∷ [])) in
        record {
          most = most;
          enough = omega (arith, enough, rest_after_first_file_is_shorter (b ∷ rest) found is);
          told =
              ap (λ n. bundle_result_after_files (files ++ found.0 ∷ []) (files_of_bundle_within_count most n found.1)) count
              ∙ result_after_pushed_file_is_nested files found.0 (files_of_bundle_within_count most (length files + 1 + 1) found.1)
              ∙ ap (λ o. bundle_result_after_files files (bundle_result_from_first (length files + 1) (files_of_bundle_within_count most (length files + 1 + 1)) o)) (sym is)
              ∙ told;
        }

pub broken_rest_is_fault_of_next_number : (text : List ℕ) (files : List NamedFile) (rest : List ℕ) → IsUnreadBundleRest text files rest → 0 < length rest → first_file_of_bundle rest ≡ None
    → files_of_bundle_text text ≡ Err (length files + 1)
broken_rest_is_fault_of_next_number text files [] u some is = absurd (omega (arith, some))
broken_rest_is_fault_of_next_number text files (b ∷ rest) u some is = by u.most u.enough u.told
  where
    by : (most : ℕ) → length (b ∷ rest) ≤ most → bundle_result_after_files files (files_of_bundle_within_count most (length files + 1) (b ∷ rest)) ≡ files_of_bundle_text text → files_of_bundle_text text ≡ Err (length files + 1)
    by zero enough told = absurd (omega (arith, enough))
    by (suc most) enough told =
        sym told ∙ ap (λ o. bundle_result_after_files files (bundle_result_from_first (length files + 1) (files_of_bundle_within_count most (length files + 1 + 1)) o)) is

pub empty_rest_ends_with_files_read : (text : List ℕ) (files : List NamedFile) (rest : List ℕ) → IsUnreadBundleRest text files rest → length rest ≡ 0 → files_of_bundle_text text ≡ Ok files
empty_rest_ends_with_files_read text files [] u none = by u.most u.told
  where
    by : (most : ℕ) → bundle_result_after_files files (files_of_bundle_within_count most (length files + 1) []) ≡ files_of_bundle_text text → files_of_bundle_text text ≡ Ok files
    by most told = sym told ∙ ap Ok (append-nil files)
empty_rest_ends_with_files_read text files (b ∷ rest) u none = absurd (cc)

pub whole_text_is_unread_at_start : (text : List ℕ) → IsUnreadBundleRest text [] text
unfolding files_of_bundle_text
whole_text_is_unread_at_start text = record { most = length text; enough = omega arith; told = same (files_of_bundle_within_count (length text) 1 text) }
  where
    same : (r : Result (List NamedFile) ℕ) → bundle_result_after_files [] r ≡ r
    same (Ok files) = refl
    same (Err n) = refl

-- LAWS

pub bundle_of_files_is_read_back : (files : List NamedFile) → AllFitInBundle files → files_of_bundle_text (bundle_of_files files) ≡ Ok files
unfolding files_of_bundle_text
bundle_of_files_is_read_back files held = bundle_within_count_is_read_back files (length (bundle_of_files files)) 1 (omega arith) held

pub files_of_text_have_it_as_bundle : (text : List ℕ) (files : List NamedFile) → files_of_bundle_text text ≡ Ok files → AreFilesOfBundleText text files
unfolding files_of_bundle_text
files_of_text_have_it_as_bundle text files is = files_read_within_count_are_of_text (length text) 1 text files is
