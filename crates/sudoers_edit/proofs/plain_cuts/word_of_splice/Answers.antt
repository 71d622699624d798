use Rattle.sudoers_edit.proofs.Common.{List, [], ap, arith, length, refl, rules, sym, ℕ, ◌<◌, ◌∙◌, ◌∷◌, ◌≡◌}
use Rattle.sudoers_edit.proofs.plain_cuts.word_of_splice.Goals as goal

some_bytes : (bytes : List ℕ) → (bytes ≡ [] → ⊥) → 0 < length bytes
some_bytes [] some = absurd (some refl)
some_bytes (b ∷ bytes) some = omega arith

pub returns : goal.returns
returns c = record {
  lead = c.in_ok-word.ensures;
  some =
      some_bytes c.in_ok-word.word.now (λ e. let none : length c.in_ok-word.word.now ≡ 0 = ap length e in search (rules, none, c.is_empty.ensures, c.if-is_empty.false));
  words = sym c.are_word_bytes.ensures ∙ c.if-not-are_word_bytes.false;
  plain = sym c.are_plain_bytes.ensures ∙ c.if-not-are_plain_bytes.false;
}
