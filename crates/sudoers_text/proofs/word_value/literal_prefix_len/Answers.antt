use Rattle.std.proofs.Common.{◌≡◌, ◌++◌, ℕ, List, Option, Some, None, false, length, take, drop, arith}
use Rattle.std.specs.Option.{unwrap_or}
use Rattle.memchr.specs.Find.{IsFirstByte, is_byte2}
use Rattle.sudoers_text.specs.Value.{value_of_remaining_bytes}
use Rattle.sudoers_text.proofs.Values.{unquoted_bytes_are_their_own_value}
use Rattle.sudoers_text.proofs.word_value.literal_prefix_len.Goals as goal

-- the bytes before the first quote and the first backslash, or all
plain_front : (word : List ℕ) (found : Option ℕ) → IsFirstByte (is_byte2 34 92) word found → take (unwrap_or found (length word)) word ++ value_of_remaining_bytes 0 false (drop (unwrap_or found (length word)) word) ≡ value_of_remaining_bytes 0 false word
plain_front word None none = unquoted_bytes_are_their_own_value false word (length word) (omega arith) (λ k below. none k (omega arith) below)
plain_front word (Some at) found = unquoted_bytes_are_their_own_value false word at (omega (arith, found.0.high)) (λ k below. found.0.before k (omega arith) below)

pub returns-clause-plain : goal.returns-clause-plain
returns-clause-plain c = rw c.unwrap_or.ensures (plain_front c.args.word.now c.memchr2.result c.memchr2.ensures)
