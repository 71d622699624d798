-- Lines that stand alone are whole, and the front of a text to which more is appended.
use Rattle.sudoers_tree.proofs.Common.{AllByRecursion, EachIsOneLineWhenCut, IsLogicalLine, List, Ok, [], ap, arith, cut_outcome_of_text, is_logical_line, length, length-append, take, take-append-le, true, ℕ, ◌++◌}
use Rattle.sudoers_tree.proofs.Common.{◌∙◌, ◌∷◌, ◌≡◌, ◌≤◌}
use Rattle.std.proofs.Math.Seq.{take-length}

-- LINES

abbrev pub AreAllLogicalLines : List (List ℕ) → Type 0
AreAllLogicalLines lines = AllByRecursion IsLogicalLine lines

pub lines_cut_as_themselves_are_logical : ((line : List ℕ) → cut_outcome_of_text line ≡ Ok (line ∷ []) → is_logical_line line ≡ true) → ((line : List ℕ) → is_logical_line line ≡ true → IsLogicalLine line)
    → (lines : List (List ℕ)) → EachIsOneLineWhenCut lines → AreAllLogicalLines lines
lines_cut_as_themselves_are_logical whole tells [] alone = tt
lines_cut_as_themselves_are_logical whole tells (line ∷ lines) alone = (tells line (whole line alone.0), lines_cut_as_themselves_are_logical whole tells lines alone.1)

-- FRONTS

-- the text still begins so
pub record KeepsOldTextInFront (old new : List ℕ) : Type 0 where
  pub size : length old ≤ length new
  pub front : take (length old) new ≡ old

pub text_keeps_itself_in_front : (text : List ℕ) → KeepsOldTextInFront text text
text_keeps_itself_in_front text = record { size = omega arith; front = take-length text }

pub appended_text_keeps_old_text_in_front : (old text more new : List ℕ) → KeepsOldTextInFront old text → new ≡ text ++ more → KeepsOldTextInFront old new
appended_text_keeps_old_text_in_front old text more new keeps is = record {
  size = omega (arith, keeps.size, length-append text more, ap length is);
  front = ap (take (length old)) is ∙ take-append-le (length old) text more keeps.size ∙ keeps.front;
}
