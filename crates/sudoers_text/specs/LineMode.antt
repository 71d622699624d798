-- How a line is read.
use Rattle.std.specs.Prelude.{ℕ, ◌&&◌, ◌||◌, Bool, List, ◌∷◌, take, drop, codes, if◌then◌else◌}
use Rattle.sudoers_text.specs.declared.part.ByteRunKind.TheVariants as rule
use Rattle.sudoers_text.specs.declared.token.Mode.{Mode}
use Rattle.sudoers_text.specs.declared.token.Mode.TheVariants as mode
use Rattle.sudoers_text.specs.Unit.{is_rest_of_hash_include}
use Rattle.sudoers_text.specs.Part.{has_given_first_byte, leading_run_size}
use Rattle.sudoers_text.specs.Piece.{begins_defaults}
use Rattle.sudoers_text.specs.Token.{leading_gap_size}
use Rattle.sudoers_text.specs.Word.{is_among, at_include_words}

-- the word with which the bytes begin
abbrev pub leading_word_of_bytes : List ℕ → List ℕ
leading_word_of_bytes bytes = take (leading_run_size rule.Word bytes) bytes

-- the words with which an include and a line of aliases of words begin
abbrev pub words_mode_keywords : List (List ℕ)
words_mode_keywords = codes "User_Alias" ∷ codes "Runas_Alias" ∷ codes "Host_Alias" ∷ at_include_words

-- `#include`, `#includedir`
abbrev pub begins_hash_include : List ℕ → Bool
begins_hash_include bytes = has_given_first_byte 35 bytes && is_rest_of_hash_include (drop 1 bytes)

-- The mode of a line that begins so.
abbrev pub mode_by_line_start : List ℕ → Mode
mode_by_line_start bytes =
    if begins_defaults bytes then mode.Parameters
    else (if begins_hash_include bytes || is_among words_mode_keywords (leading_word_of_bytes bytes) then mode.Words
    else mode.Commands)

-- The mode of a line, by what stands behind the blanks and continuations that it begins with: `Defaults` lines by parameters,
-- includes and aliases of users, runas users and hosts by words, all others as commands.
unfoldable pub line_mode : List ℕ → Mode
line_mode line = mode_by_line_start (drop (leading_gap_size line) line)
