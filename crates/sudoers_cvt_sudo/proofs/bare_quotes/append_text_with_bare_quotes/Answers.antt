use Rattle.std.proofs.Common.{◌≡◌, ℕ, ◌+◌, ◌<◌, ◌++◌, List, Bool, not, drop, get_or, length, ap, sym, ◌∙◌, append_assoc}
use Rattle.std.specs.Prelude.{◌==◌, ◌&&◌}
use Rattle.std.proofs.lemmas.List.{drop_more}
use Rattle.sudoers_cvt_sudo.specs.Quotes.{bare_bytes, text_with_bare_quotes}
use Rattle.sudoers_cvt_sudo.proofs.bare_quotes.append_text_with_bare_quotes.Goals as goal

one_byte_further : (escaped next : Bool) (text : List ℕ) (i : ℕ) (before new : List ℕ) → i < length text → next ≡ (not escaped && get_or text i 0 == 92) → new ≡ before ++ bare_bytes escaped (get_or text i 0)
    → new ++ text_with_bare_quotes next (drop (i + 1) text) ≡ before ++ text_with_bare_quotes escaped (drop i text)
one_byte_further escaped next text i before new inside next_is new_is =
    ap (λ (t : List ℕ). t ++ text_with_bare_quotes next (drop (i + 1) text)) new_is
    ∙ append_assoc before (bare_bytes escaped (get_or text i 0)) (text_with_bare_quotes next (drop (i + 1) text))
    ∙ ap (λ (e : Bool). before ++ (bare_bytes escaped (get_or text i 0) ++ text_with_bare_quotes e (drop (i + 1) text))) next_is
    ∙ sym (ap (λ (t : List ℕ). before ++ text_with_bare_quotes escaped t) (drop_more text i 0 inside))

pub loop-byte-preserved : goal.loop-byte-preserved
loop-byte-preserved c =
    one_byte_further c.loop-byte.is_escaped c.begins_pair-is_escaped.result c.args.text.now c.loop-byte.byte-index c.loop-byte.out.items _ c.loop-byte-test.true
    c.begins_pair-is_escaped.ensures c.in_ok-append_bare_bytes.ensures
    ∙ c.loop-byte.invariant
