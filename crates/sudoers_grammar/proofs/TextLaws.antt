-- What sudoers_text says of a line in which a name is replaced by another.
use Rattle.std.specs.Prelude.{◌≡◌, ℕ, List, ◌∷◌, ◌++◌, length}
use Rattle.sudoers_text.specs.declared.token.Token.{Token}
use Rattle.sudoers_text.specs.declared.token.Mode.{Mode}
use Rattle.sudoers_text.specs.Token.{HasTokens}
use Rattle.sudoers_text.specs.Ended.{ends_in_lf}
use Rattle.sudoers_text.specs.LineMode.{line_mode}
use Rattle.sudoers_text.specs.Whole.{IsLogicalLine}
use Rattle.sudoers_text.specs.Renamed.{IsDefinableName, token_of_name_after, tokens_after_replacement}

abbrev pub RenamedLineHasMovedTokens : Type 0
RenamedLineHasMovedTokens = (mode : Mode) (front word other rest : List ℕ) (before behind : List Token) → IsDefinableName word → IsDefinableName other
    → HasTokens mode (front ++ (word ++ rest)) (before ++ token_of_name_after front word ∷ behind)
    → HasTokens mode (front ++ (other ++ rest)) (before ++ token_of_name_after front other ∷ tokens_after_replacement (length word) (length other) behind)

abbrev pub RenamingKeepsLineMode : Type 0
RenamingKeepsLineMode = (mode : Mode) (front word other rest : List ℕ) (before behind : List Token) → IsDefinableName word → IsDefinableName other
    → HasTokens mode (front ++ (word ++ rest)) (before ++ token_of_name_after front word ∷ behind)
    → line_mode (front ++ (word ++ rest)) ≡ line_mode (front ++ (other ++ rest))

abbrev pub RenamingKeepsLogicalLine : Type 0
RenamingKeepsLogicalLine = (mode : Mode) (front word other rest : List ℕ) (before behind : List Token) → IsDefinableName word → IsDefinableName other
    → HasTokens mode (front ++ (word ++ rest)) (before ++ token_of_name_after front word ∷ behind)
    → IsLogicalLine (front ++ (word ++ rest)) → IsLogicalLine (front ++ (other ++ rest))

abbrev pub RenamingKeepsLfEnd : Type 0
RenamingKeepsLfEnd = (front word other rest : List ℕ) → IsDefinableName word → IsDefinableName other
    → ends_in_lf (front ++ (word ++ rest)) ≡ ends_in_lf (front ++ (other ++ rest))
