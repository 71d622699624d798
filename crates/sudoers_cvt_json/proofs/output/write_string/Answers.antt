use Rattle.std.proofs.Common.{◌≡◌, Bool, true, false, inr, List, ℕ, refl}
use Rattle.std.specs.Str.{IsUtf8, is_utf8}
use Rattle.std.proofs.lemmas.Str.{IsUtf8-from_is_utf8, is_utf8-from_IsUtf8}
use Rattle.sudoers_cvt_json.proofs.output.write_string.Goals as goal

not_utf8 : (bs : List ℕ) → (IsUtf8 bs → ⊥) → (b : Bool) → is_utf8 bs ≡ b → is_utf8 bs ≡ false
not_utf8 bs fails true e = absurd (fails (IsUtf8-from_is_utf8 bs e))
not_utf8 bs fails false e = e

pub returns-in_ok-string-in-Ok-clause-unicode : goal.returns-in_ok-string-in-Ok-clause-unicode
returns-in_ok-string-in-Ok-clause-unicode c = is_utf8-from_IsUtf8 c.args.text.now c.in-Ok.ensures.cases.1

pub returns-in-Err-clause-fault : goal.returns-in-Err-clause-fault
returns-in-Err-clause-fault c = inr (refl, not_utf8 c.args.text.now c.in-Err.ensures.cases.0 (is_utf8 c.args.text.now) refl)
