use Rattle.std.proofs.Common.{◌≡◌, ◌++◌, drop, false}
use Rattle.sudoers_cvt_sudo.specs.Quotes.{text_with_bare_quotes}
use Rattle.sudoers_cvt_sudo.proofs.bare_quotes.append_text_with_bare_quotes.Given as goal

-- What is so far, and what is still to come.
abbrev pub invariant-loop-byte : goal.invariant-loop-byte
invariant-loop-byte l = l.out.items ++ text_with_bare_quotes l.is_escaped (drop l.byte-index l.text) ≡ l.fn.out.items ++ text_with_bare_quotes false l.text
