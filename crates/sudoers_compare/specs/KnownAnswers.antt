-- What is known of lists that were compared before. A device of the code, which no public contract cites.
use Rattle.std.specs.Prelude.{◌≡◌, ℕ, List, Option, Some, None, slice_get}
use Rattle.sudoers_match_list.specs.Flat.{SignedAtom}
use Rattle.laws_compare.specs.Decided.{is_list_wider}
use Rattle.sudoers_compare.specs.declared.known_answers.ListAnswer.{ListAnswer}
use Rattle.sudoers_compare.specs.declared.known_answers.ListAnswers.{ListAnswers}
use Rattle.sudoers_compare.specs.RowLists.{NumberedLists}

-- the answer says whether the one list is wider than the other; `at` has the lists by two numbers, and `wide` is the first of the wide one
abbrev pub IsRightAnswer : (ℕ → ℕ → List SignedAtom) → ℕ → ListAnswer → Type 0
IsRightAnswer at wide answer = answer.is_wider ≡ is_list_wider (at wide answer.wide_group) (at answer.narrow_spec answer.narrow_group)

abbrev pub IsRightAnswerIfAny : (ℕ → ℕ → List SignedAtom) → ℕ → Option ListAnswer → Type 0
IsRightAnswerIfAny at wide None = Unit {0}
IsRightAnswerIfAny at wide (Some answer) = IsRightAnswer at wide answer

-- users by two numbers, of which the second does not count
abbrev pub users_at : NumberedLists → ℕ → ℕ → List SignedAtom
users_at all spec group = all.users spec

-- what is known of a user specification is right
abbrev pub AreRightAnswersOfSpec : NumberedLists → ℕ → ListAnswers → Type 0
AreRightAnswersOfSpec all spec known = IsRightAnswerIfAny (users_at all) spec known.users × IsRightAnswerIfAny all.hosts spec known.hosts

-- what is known is right
abbrev pub AreRightAnswers : NumberedLists → List ListAnswers → Type 0
AreRightAnswers all answers = (spec : ℕ) (known : ListAnswers) → slice_get answers spec ≡ Some known → AreRightAnswersOfSpec all spec known
