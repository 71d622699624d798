use Rattle.std.proofs.Common.{drop, ◌++◌, ◌≡◌, true}
use Rattle.sudoers_ask.specs.Users.{text_with_prefixed_lines}
use Rattle.sudoers_ask.proofs.users.append_prefixed_lines.Given as goal

abbrev pub invariant-loop-byte : goal.invariant-loop-byte
invariant-loop-byte l = l.out.items ++ text_with_prefixed_lines l.begins l.prefix (drop l.byte-index l.text) ≡ l.fn.out.items ++ text_with_prefixed_lines true l.prefix l.text
