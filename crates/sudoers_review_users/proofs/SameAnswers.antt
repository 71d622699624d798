-- Answers that say the same are found to do so.
use Rattle.std.proofs.Common.{◌≡◌, Bool, true, false, not, Option, Some, None, ap, sym, ◌∙◌, refl, true≢false}
use Rattle.sudoers_line_rows.specs.Alike.{is_same_bool}
use Rattle.sudoers_match.specs.Alike.{AreAnswersSameButNumbers}
use Rattle.sudoers_match.specs.Answer.{Answer}
use Rattle.sudoers_compare.specs.SameRow.{are_same_option_values, are_same_tags}
use Rattle.sudoers_compare.proofs.SameRows.{both_true, option_values_are_alike, tags_are_alike}
use Rattle.sudoers_review_users.specs.SameAnswer.{are_answers_same, has_same_parts}

truth_value_is_alike : (a : Bool) → is_same_bool a a ≡ true
truth_value_is_alike true = refl
truth_value_is_alike false = refl

pub same_parts_are_found : (a b : Answer) → (b.allow ≡ a.allow) × (b.tags ≡ a.tags) × (b.options ≡ a.options) → has_same_parts a b ≡ true
same_parts_are_found a b same =
    both_true (both_true (ap (is_same_bool a.allow) same.0 ∙ truth_value_is_alike a.allow) (ap (are_same_tags a.tags) same.1 ∙ tags_are_alike a.tags))
    (ap (are_same_option_values a.options) same.2 ∙ option_values_are_alike a.options)

pub same_answers_are_found : (a b : Option Answer) → AreAnswersSameButNumbers a b → are_answers_same a b ≡ true
same_answers_are_found None None same = refl
same_answers_are_found None (Some b) same = absurd same
same_answers_are_found (Some a) None same = absurd same
same_answers_are_found (Some a) (Some b) same = same_parts_are_found a b same

pub not_true_is_not_true : (b : Bool) → not b ≡ true → b ≡ true → ⊥
not_true_is_not_true true e f = true≢false (sym e)
not_true_is_not_true false e f = true≢false (sym f)
