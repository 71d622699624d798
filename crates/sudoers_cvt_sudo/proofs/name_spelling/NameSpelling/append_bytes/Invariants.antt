use Rattle.std.proofs.Common.{◌≡◌, ◌++◌, drop, false}
use Rattle.sudoers_cvt_sudo.specs.Names.{text_of_spelling}
use Rattle.sudoers_cvt_sudo.proofs.name_spelling.NameSpelling.append_bytes.Given as goal

-- What is so far, and what is still to come.
abbrev pub invariant-loop-byte : goal.invariant-loop-byte
invariant-loop-byte l = l.out.items ++ text_of_spelling l.self l.is_escaped (drop l.byte-index l.text) ≡ l.fn.out.items ++ text_of_spelling l.self false l.text
