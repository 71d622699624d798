use Rattle.std.proofs.Common.{◌≡◌, ℕ, ◌+◌, ◌<◌, List, Bool, not, drop, get_or, length, ap, sym, ◌∙◌}
use Rattle.std.specs.Prelude.{◌==◌, ◌&&◌}
use Rattle.std.proofs.lemmas.List.{drop_more}
use Rattle.sudoers_text.specs.Adapted.{is_byte_of_argument_word, ends_with_argument_word}
use Rattle.sudoers_text.proofs.adapting.ends_with_argument_word.Goals as goal

one_byte_further : (escaped joined : Bool) (text : List ℕ) (i : ℕ) (next now : Bool) → i < length text → next ≡ (not escaped && get_or text i 0 == 92) → now ≡ (not escaped && is_byte_of_argument_word (get_or text i 0)) → ends_with_argument_word next now (drop (i + 1) text) ≡ ends_with_argument_word escaped joined (drop i text)
one_byte_further escaped joined text i next now inside next_is now_is =
    ap (λ (b : Bool). ends_with_argument_word b now (drop (i + 1) text)) next_is
    ∙ ap (λ (b : Bool). ends_with_argument_word (not escaped && get_or text i 0 == 92) b (drop (i + 1) text)) now_is
    ∙ sym (ap (λ (t : List ℕ). ends_with_argument_word escaped joined t) (drop_more text i 0 inside))

pub loop-byte-preserved : goal.loop-byte-preserved
loop-byte-preserved c =
    one_byte_further c.loop-byte.is_escaped c.loop-byte.is_joined c.args.text.now c.loop-byte.byte-index _ _ c.loop-byte-test.true
    c.is_escaping_backslash-is_escaped.ensures c.is_unescaped_byte_of_argument_word-is_joined.ensures
    ∙ c.loop-byte.invariant
