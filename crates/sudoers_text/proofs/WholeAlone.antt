-- A line alone is one logical line.
use Rattle.std.proofs.Common.{◌≡◌, ℕ, ◌≤◌, Bool, true, false, not, List, [], ◌∷◌, ◌++◌, length, refl, sym, ap, subst, ◌∙◌, arith, append-nil}
use Rattle.std.specs.Prelude.{slice_get}
use Rattle.std.proofs.lemmas.Bool.{or_parts}
use Rattle.std.specs.List.{AllByRecursion}
use Rattle.sudoers_text.specs.Ended.{ends_in_lf, has_inner_line_without_lf}
use Rattle.sudoers_text.specs.Line.{join, AreLinesOfText, IsUnfinishedLine, IsLogicalLineBefore, AreLogicalLines}
use Rattle.sudoers_text.specs.Fault.{IsFaultlessCut, HasFaultAt, line_limit}
use Rattle.sudoers_text.specs.Whole.{IsLogicalLine}
use Rattle.sudoers_text.specs.declared.fault.TextFault.{TextFault}
use Rattle.sudoers_text.specs.declared.fault.TextFault.TheVariants.{TooLarge, LineTooLong, Nul, OpenContinuation, NoMemory}

pub faultless_cut_into_itself_is_logical_line : (line : List ℕ) → IsFaultlessCut line (line ∷ []) → IsLogicalLine line
faultless_cut_into_itself_is_logical_line line cut = record {
  cuts = cut.cuts;
  clean = λ at is. cut.sound (Nul at) at (refl, ap (λ t. slice_get t at) (append-nil line) ∙ is);
  closed = λ unfinished. cut.sound OpenContinuation (length (join (line ∷ []))) (refl, record { before = []; last = line; place = refl; unfinished = unfinished });
}

-- the one line of a list, at whichever place it is found
line_of_singleton_list_is_its_line : (line other : List ℕ) (before after : List (List ℕ)) → line ∷ [] ≡ before ++ other ∷ after → other ≡ line
line_of_singleton_list_is_its_line line other [] after is = cc
line_of_singleton_list_is_its_line line other (b ∷ []) after is = absurd (cc)
line_of_singleton_list_is_its_line line other (b ∷ c ∷ before) after is = absurd (cc)

pub short_logical_line_has_faultless_cut : (line : List ℕ) → IsLogicalLine line → length line ≤ line_limit → IsFaultlessCut line (line ∷ [])
short_logical_line_has_faultless_cut line is fits = record { fits = omega (arith, fits); cuts = is.cuts; sound = sound }
  where
    sound : (fault : TextFault) (at : ℕ) → HasFaultAt (line ∷ []) fault at → ⊥
    sound TooLarge at stands = stands
    sound (LineTooLong number) at long =
        let same : long.line ≡ line = line_of_singleton_list_is_its_line line long.line long.before long.after long.place in
        let size : length long.line ≤ line_limit = subst (λ (l : List ℕ). length l ≤ line_limit) (sym same) fits in
        absurd (omega (arith, size, long.long))
    sound (Nul byte) at stands = is.clean byte (ap (λ t. slice_get t byte) (sym (append-nil line)) ∙ stands.1)
    sound OpenContinuation at stands =
        let same : stands.1.last ≡ line = line_of_singleton_list_is_its_line line stands.1.last stands.1.before [] stands.1.place in
        is.closed (subst IsUnfinishedLine same stands.1.unfinished)
    sound NoMemory at stands = stands

-- what the law of closed lines says
abbrev pub ClosedLinesAreLinesBeforeAnything : Type 0
ClosedLinesAreLinesBeforeAnything = (line other : List ℕ) → IsLogicalLineBefore line [] → ends_in_lf line ≡ true → (IsUnfinishedLine line → ⊥) → IsLogicalLineBefore line other

value_whose_negation_is_false_is_true : (b : Bool) → not b ≡ false → b ≡ true
value_whose_negation_is_false_is_true true h = refl
value_whose_negation_is_false_is_true false h = cc

logical_line_is_line_before_empty_text : (line : List ℕ) → IsLogicalLine line → IsLogicalLineBefore line []
logical_line_is_line_before_empty_text line is = is.cuts.each.0

lines_with_inner_lf_are_logical_lines : ClosedLinesAreLinesBeforeAnything → (lines : List (List ℕ)) → AllByRecursion IsLogicalLine lines → has_inner_line_without_lf lines ≡ false → AreLogicalLines lines
lines_with_inner_lf_are_logical_lines law [] all ended = tt
lines_with_inner_lf_are_logical_lines law (line ∷ []) all ended = (logical_line_is_line_before_empty_text line all.0, tt)
lines_with_inner_lf_are_logical_lines law (line ∷ next ∷ lines) all ended =
    let parts = or_parts (not (ends_in_lf line)) (has_inner_line_without_lf (next ∷ lines)) ended in
    (law line (join (next ∷ lines)) (logical_line_is_line_before_empty_text line all.0) (value_whose_negation_is_false_is_true (ends_in_lf line) parts.0) all.0.closed, lines_with_inner_lf_are_logical_lines law (next ∷ lines) all.1 parts.1)

pub logical_lines_are_lines_of_their_join : ClosedLinesAreLinesBeforeAnything → (lines : List (List ℕ)) → AllByRecursion IsLogicalLine lines → has_inner_line_without_lf lines ≡ false → AreLinesOfText (join lines) lines
logical_lines_are_lines_of_their_join law lines all ended = record { joined = refl; each = lines_with_inner_lf_are_logical_lines law lines all ended }
