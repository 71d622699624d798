-- Bundles: the files of a policy as one text.
use Rattle.std.specs.Prelude.{◌≡◌, ◌≢◌, ◌<◌, ◌^◌, ℕ, zero, suc, ◌+◌, ◌*◌, ◌-◌, ◌==◌, false, not, ◌||◌, nat_lt, if◌then◌else◌, List, [], ◌∷◌, ◌++◌, codes, length, take, drop, Option, Some, None, Result, Ok, Err, option_and_then}
use Rattle.std.specs.Fmt.{decimal}
use Rattle.std.specs.List.{flat_map, list_any}
use Rattle.std.specs.Option.{option_map}
use Rattle.std.specs.Str.{bytes_eq}
use Rattle.sudoers_tree.specs.declared.named_files.NamedFile.{NamedFile}

-- the line before the bytes of a file: their number and the name of the file
abbrev pub header_of_file : NamedFile → List ℕ
header_of_file file = codes "%% " ++ (decimal (length file.bytes) ++ (32 ∷ (file.name ++ 10 ∷ [])))

-- each file: its header, and then its bytes
abbrev pub bundle_of_files : List NamedFile → List ℕ
bundle_of_files files = flat_map (λ (file : NamedFile). header_of_file file ++ file.bytes) files

-- A bundle can hold the file: its name is one or more bytes other than LF, and the number of its bytes has at most seven digits.
pub record FitsInBundle (file : NamedFile) : Type 0 where
  pub named : file.name ≢ []
  pub line : list_any (λ b. b == 10) file.name ≡ false
  pub short : length file.bytes < 10 ^ 7

abbrev pub AllFitInBundle : List NamedFile → Type 0
AllFitInBundle [] = Unit {0}
AllFitInBundle (file ∷ files) = FitsInBundle file × AllFitInBundle files

-- ---- reading, as a function that computes

-- the bytes before the first byte b, and those after it
abbrev pub parts_split_at_byte : ℕ → List ℕ → Option (List ℕ × List ℕ)
parts_split_at_byte b [] = None
parts_split_at_byte b (c ∷ bytes) = if c == b then Some ([], bytes) else option_map (λ parts. (c ∷ parts.0, parts.1)) (parts_split_at_byte b bytes)

-- the number that digits write after those of this one
abbrev pub value_with_more_digits : ℕ → List ℕ → ℕ
value_with_more_digits so_far [] = so_far
value_with_more_digits so_far (digit ∷ digits) = value_with_more_digits (10 * so_far + (digit - 48)) digits

-- the number that a word is the decimal of; it has at most seven digits
abbrev pub number_of_short_decimal : List ℕ → Option ℕ
number_of_short_decimal word = if nat_lt 7 (length word) || not (bytes_eq (decimal (value_with_more_digits 0 word)) word) then None else Some (value_with_more_digits 0 word)

-- the file of this name that so many of the bytes are, and the bytes after it
abbrev pub named_file_and_rest : List ℕ → List ℕ → ℕ → Option (NamedFile × List ℕ)
named_file_and_rest name bytes count =
    if (length name == 0) || nat_lt (length bytes) count then None
    else Some (record { name = name; bytes = take count bytes }, drop count bytes)

-- the file of a header without its `%% ` and its LF, and of the bytes after it
abbrev pub file_after_header_mark : List ℕ → List ℕ → Option (NamedFile × List ℕ)
file_after_header_mark rest bytes =
    option_and_then (λ (parts : List ℕ × List ℕ). option_and_then (named_file_and_rest parts.1 bytes) (number_of_short_decimal parts.0)) (parts_split_at_byte 32 rest)

-- the first file of a text, and what comes after it
abbrev pub first_file_of_bundle : List ℕ → Option (NamedFile × List ℕ)
first_file_of_bundle text =
    option_and_then (λ (parts : List ℕ × List ℕ).
    if bytes_eq (take 3 parts.0) (codes "%% ") then file_after_header_mark (drop 3 parts.0) parts.1 else None) (parts_split_at_byte 10 text)

-- the file before others, or the number of the first that is broken
abbrev pub file_before_bundle_result : NamedFile → Result (List NamedFile) ℕ → Result (List NamedFile) ℕ
file_before_bundle_result file (Ok files) = Ok (file ∷ files)
file_before_bundle_result file (Err number) = Err number

abbrev pub bundle_result_from_first : ℕ → (List ℕ → Result (List NamedFile) ℕ) → Option (NamedFile × List ℕ) → Result (List NamedFile) ℕ
bundle_result_from_first number next None = Err number
bundle_result_from_first number next (Some found) = file_before_bundle_result found.0 (next found.1)

-- the files of a text, the first of which has this number, or the number of the first that is broken; there are not more than so many
abbrev pub files_of_bundle_within_count : ℕ → ℕ → List ℕ → Result (List NamedFile) ℕ
files_of_bundle_within_count most number [] = Ok []
files_of_bundle_within_count zero number (b ∷ text) = Err number
files_of_bundle_within_count (suc most) number (b ∷ text) = bundle_result_from_first number (files_of_bundle_within_count most (number + 1)) (first_file_of_bundle (b ∷ text))

-- the files of a bundle, or the number, from 1, of the first that is broken: it has no header, or fewer bytes than that says
unfoldable pub files_of_bundle_text : List ℕ → Result (List NamedFile) ℕ
files_of_bundle_text text = files_of_bundle_within_count (length text) 1 text
