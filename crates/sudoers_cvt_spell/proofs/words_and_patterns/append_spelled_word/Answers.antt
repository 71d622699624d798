use Rattle.std.proofs.Common.{◌≡◌, ◌+◌, ◌/◌, ◌%◌, ◌++◌, Bool, false, List, ℕ, [], ◌∷◌, drop, get_or, ap, ◌∙◌, sym, if◌then◌else◌}
use Rattle.std.proofs.lemmas.List.{at_drop_more}
use Rattle.sudoers_cvt_spell.specs.Spelling.{is_word_escape_needed, is_control, lower_hex_digit, spelled_word, spelled_word_byte}
use Rattle.sudoers_cvt_spell.proofs.Fronts.{front_of_front_is_front, front_of_text_that_is_another}
use Rattle.sudoers_cvt_spell.proofs.Runs.{run_grows_by_byte_that_stands_for_itself, run_ends_before_spelled_byte}
use Rattle.sudoers_cvt_spell.proofs.words_and_patterns.append_spelled_word.Goals as goal
use Rattle.sudoers_cvt_spell.proofs.words_and_patterns.append_spelled_word.Goals.{then-is_escaped_in_word+in_ok-append_bytes+in_ok-append_word_byte, else-is_escaped_in_word+else-is_control}

byte_that_stands_for_itself : (b : ℕ) → is_word_escape_needed b ≡ false → is_control b ≡ false → spelled_word_byte b ≡ b ∷ []
byte_that_stands_for_itself b no_escape no_control =
    ap (λ (test : Bool). if test then 92 ∷ b ∷ [] else (if is_control b then spelled_as_digits else b ∷ [])) no_escape
    ∙ ap (λ (test : Bool). if test then spelled_as_digits else b ∷ []) no_control
  where
    spelled_as_digits : List ℕ
    spelled_as_digits = 92 ∷ 120 ∷ lower_hex_digit (b / 16) ∷ lower_hex_digit (b % 16) ∷ []

pub loop-at-preserved : goal.loop-at-preserved
loop-at-preserved c =
    let xs = c.args.value.now in
    let at = c.loop-at.at in
    let first : spelled_word (drop at xs) ≡ spelled_word_byte (get_or xs at 0) ++ spelled_word (drop (at + 1) xs) =
    at_drop_more spelled_word xs at 0 c.loop-at-test.true in
    elim c.if-is_escaped_in_word.branch [
      | then-is_escaped_in_word+in_ok-append_bytes+in_ok-append_word_byte w ↦ (
        run_ends_before_spelled_byte xs c.loop-at.out.items _ c.loop-at.printed _ at _ _ _ _ first c.loop-at.invariant.0
            (ap (λ o. o.items) w.out-is ∙ w.in_ok-append_word_byte.ensures.appended ∙ ap (λ o. o ++ spelled_word_byte (get_or xs at 0)) w.in_ok-append_bytes.ensures.appended)
            w.printed-is,
        front_of_text_that_is_another (λ o. o.items) _ _ _ w.out-is (front_of_front_is_front _ _ _ (front_of_front_is_front _ _ _ c.loop-at.invariant.1 w.in_ok-append_bytes.ensures.front) w.in_ok-append_word_byte.ensures.front),
      )
      | else-is_escaped_in_word+else-is_control w ↦ (
        run_grows_by_byte_that_stands_for_itself xs c.loop-at.out.items _ c.loop-at.printed _ at _ _ _ c.loop-at-test.true
            (first ∙ ap (λ piece. piece ++ spelled_word (drop (at + 1) xs)) (byte_that_stands_for_itself (get_or xs at 0) (sym w.if-is_escaped_in_word.ensures) (sym w.if-is_control.ensures)))
            c.loop-at.invariant.0 (ap (λ o. o.items) w.out-is) w.printed-is,
        front_of_text_that_is_another (λ o. o.items) _ _ _ w.out-is c.loop-at.invariant.1,
      )
    ]
