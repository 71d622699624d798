-- Lines that are each the one line of a text.
use Rattle.std.proofs.Common.{◌≡◌, ◌≢◌, inl, inr, ℕ, ◌+◌, ◌≤◌, Bool, true, false, not, ◌||◌, List, [], ◌∷◌, ◌++◌, length, refl, ap, subst, ◌∙◌, arith, Result, Ok, append-nil}
use Rattle.std.proofs.lemmas.List.{length-append}
use Rattle.std.proofs.lemmas.Option.{slice_get_within}
use Rattle.std.proofs.lemmas.Bool.{cases_lt}
use Rattle.sudoers_text.specs.declared.fault.TextFault.{TextFault}
use Rattle.sudoers_text.specs.declared.fault.TextFault.TheVariants.{LineTooLong, Nul, OpenContinuation}
use Rattle.sudoers_text.specs.Ended.{ends_in_lf, has_inner_line_without_lf}
use Rattle.sudoers_text.specs.Line.{IsLogicalLineBefore, IsUnfinishedLine, join, AreLogicalLines}
use Rattle.sudoers_text.specs.Fault.{LastLineIsUnfinished, HasFaultAt, IsFaultlessCut, IsOutcomeOfCut, line_limit, text_limit, lf_count}
use Rattle.sudoers_text.specs.Cut.{cut_outcome_of_text, EachIsOneLineWhenCut}
use Rattle.sudoers_text.proofs.Unique.{logical_line_has_positive_size}
use Rattle.sudoers_text.proofs.First.{AreLinesWithinLimit, HasNoNul, short_closed_lines_have_no_fault}
use Rattle.sudoers_text.proofs.Lists.{byte_within_left_part_is_its_byte, byte_past_left_part_is_right_byte, nul_free_texts_join_nul_free}
use Rattle.sudoers_text.proofs.Local.{line_before_text_is_line_alone}
use Rattle.sudoers_text.proofs.Closed.{closed_line_is_line_anywhere, line_before_text_ends_in_lf, false_disjunction_has_false_left_part}
use Rattle.sudoers_text.proofs.Found.{computed_outcome_is_outcome_of_cut, outcome_of_cut_is_computed_outcome}

-- a line with which nothing is wrong, whatever lines it stands between
pub record IsLineWithoutFault (line : List ℕ) : Type 0 where
  pub short : length line ≤ line_limit
  pub none : HasNoNul line
  pub closed : IsUnfinishedLine line → ⊥

abbrev AreLinesWithoutFault : List (List ℕ) → Type 0
AreLinesWithoutFault [] = Unit {0}
AreLinesWithoutFault (line ∷ lines) = IsLineWithoutFault line × AreLinesWithoutFault lines

faultless_lines_are_within_limit : (lines : List (List ℕ)) → AreLinesWithoutFault lines → AreLinesWithinLimit lines
faultless_lines_are_within_limit [] clean = tt
faultless_lines_are_within_limit (line ∷ lines) clean = (clean.0.short, faultless_lines_are_within_limit lines clean.1)

join_of_faultless_lines_has_no_nul : (lines : List (List ℕ)) → AreLinesWithoutFault lines → HasNoNul (join lines)
join_of_faultless_lines_has_no_nul [] clean k here = cc
join_of_faultless_lines_has_no_nul (line ∷ lines) clean k here = nul_free_texts_join_nul_free line (join lines) clean.0.none (join_of_faultless_lines_has_no_nul lines clean.1) k here

each_of_faultless_lines_is_faultless : (before : List (List ℕ)) (line : List ℕ) (after : List (List ℕ)) → AreLinesWithoutFault (before ++ line ∷ after) → IsLineWithoutFault line
each_of_faultless_lines_is_faultless [] line after clean = clean.0
each_of_faultless_lines_is_faultless (first ∷ before) line after clean = each_of_faultless_lines_is_faultless before line after clean.1

-- Nothing is wrong with a text of such lines.
faultless_lines_have_no_fault : (lines : List (List ℕ)) → AreLinesWithoutFault lines → (fault : TextFault) (at : ℕ) → HasFaultAt lines fault at → ⊥
faultless_lines_have_no_fault lines clean =
    short_closed_lines_have_no_fault lines (faultless_lines_are_within_limit lines clean) (join_of_faultless_lines_has_no_nul lines clean) (λ ends.
    let last = each_of_faultless_lines_is_faultless ends.before ends.last [] (subst AreLinesWithoutFault ends.place clean) in
    last.closed ends.unfinished)

nul_free_text_has_nul_free_front : (xs ys : List ℕ) → HasNoNul (xs ++ ys) → HasNoNul xs
nul_free_text_has_nul_free_front xs ys none k here = none k (byte_within_left_part_is_its_byte xs ys k (slice_get_within xs k 0 here) ∙ here)

nul_free_text_has_nul_free_back : (xs ys : List ℕ) → HasNoNul (xs ++ ys) → HasNoNul ys
nul_free_text_has_nul_free_back xs ys none k here = none (length xs + k) (byte_past_left_part_is_right_byte xs ys (length xs + k) k refl ∙ here)

pub join_after_line_is_not_empty : (line : List ℕ) (lines : List (List ℕ)) → IsLogicalLineBefore line (join lines) → line ++ join lines ≢ []
join_after_line_is_not_empty line lines x e = omega (arith, ap length e, length-append line (join lines), logical_line_has_positive_size line (join lines) x)

-- each of the lines is within the limit
abbrev IsEachLineWithinLimit : List (List ℕ) → Type 0
IsEachLineWithinLimit lines = (before : List (List ℕ)) (line : List ℕ) (after : List (List ℕ)) → lines ≡ before ++ line ∷ after → length line ≤ line_limit

short_nul_free_closed_lines_are_faultless : (lines : List (List ℕ)) → AreLogicalLines lines → IsEachLineWithinLimit lines → HasNoNul (join lines) → (LastLineIsUnfinished lines → ⊥) → AreLinesWithoutFault lines
short_nul_free_closed_lines_are_faultless [] each short none closed = tt
short_nul_free_closed_lines_are_faultless (line ∷ []) each short none closed = (
  record {
    short = short [] line [] refl;
    none = nul_free_text_has_nul_free_front line [] none;
    closed = λ unfinished. closed (record { before = []; last = line; place = refl; unfinished = unfinished });
  },
  tt,
)
short_nul_free_closed_lines_are_faultless (line ∷ next ∷ lines) each short none closed = (
  record {
    short = short [] line (next ∷ lines) refl;
    none = nul_free_text_has_nul_free_front line (join (next ∷ lines)) none;
    closed = (line_before_text_ends_in_lf line (join (next ∷ lines)) each.0 (join_after_line_is_not_empty next lines each.1.0)).1;
  },
  short_nul_free_closed_lines_are_faultless (next ∷ lines) each.1 (λ before l after e. short (line ∷ before) l after (ap (λ (ls : List (List ℕ)). line ∷ ls) e)) (nul_free_text_has_nul_free_back line (join (next ∷ lines)) none) (λ ends.
      closed (record { before = line ∷ ends.before; last = ends.last; place = ap (λ (ls : List (List ℕ)). line ∷ ls) ends.place; unfinished = ends.unfinished })),
)

-- In a text with which nothing is wrong nothing is wrong with any line.
lines_having_no_fault_are_faultless : (lines : List (List ℕ)) → AreLogicalLines lines → ((fault : TextFault) (at : ℕ) → HasFaultAt lines fault at → ⊥) → AreLinesWithoutFault lines
lines_having_no_fault_are_faultless lines each sound =
    short_nul_free_closed_lines_are_faultless lines each (λ before line after e.
    elim (cases_lt line_limit (length line)) [
      | inl long ↦
          absurd (sound (LineTooLong (lf_count (join before) + 1)) (length (join before) + line_limit)
          (record { before = before; line = line; after = after; place = e; long = long; at_limit = refl; numbered = refl }))
      | inr short ↦ short
    ]) (λ k here. sound (Nul k) k (refl, here)) (λ ends. sound OpenContinuation (length (join lines)) (refl, ends))

pub text_cut_into_lines_has_faultless_cut : (text : List ℕ) (lines : List (List ℕ)) → cut_outcome_of_text text ≡ Ok lines → IsFaultlessCut text lines
text_cut_into_lines_has_faultless_cut text lines e = subst (λ (o : Result (List (List ℕ)) TextFault). IsOutcomeOfCut text o) e (computed_outcome_is_outcome_of_cut text)

-- a line alone is cut to itself where nothing is wrong with it, and only there
faultless_line_is_cut_to_itself : (line : List ℕ) → IsLogicalLineBefore line [] → IsLineWithoutFault line → cut_outcome_of_text line ≡ Ok (line ∷ [])
faultless_line_is_cut_to_itself line x clean =
    outcome_of_cut_is_computed_outcome line (Ok (line ∷ [])) (record {
      fits = omega (arith, clean.short);
      cuts = record { joined = append-nil line; each = (x, tt) };
      sound = faultless_lines_have_no_fault (line ∷ []) (clean, tt);
    })

pub line_cut_to_itself_is_logical_line : (line : List ℕ) → cut_outcome_of_text line ≡ Ok (line ∷ []) → IsLogicalLineBefore line []
line_cut_to_itself_is_logical_line line e = (text_cut_into_lines_has_faultless_cut line (line ∷ []) e).cuts.each.0

pub line_cut_to_itself_is_faultless : (line : List ℕ) → cut_outcome_of_text line ≡ Ok (line ∷ []) → IsLineWithoutFault line
line_cut_to_itself_is_faultless line e =
    let is = text_cut_into_lines_has_faultless_cut line (line ∷ []) e in
    (lines_having_no_fault_are_faultless (line ∷ []) is.cuts.each is.sound).0

lines_each_cut_to_itself_are_faultless : (lines : List (List ℕ)) → EachIsOneLineWhenCut lines → AreLinesWithoutFault lines
lines_each_cut_to_itself_are_faultless [] alone = tt
lines_each_cut_to_itself_are_faultless (line ∷ lines) alone = (line_cut_to_itself_is_faultless line alone.0, lines_each_cut_to_itself_are_faultless lines alone.1)

false_disjunction_has_false_right_part : (a b : Bool) → (a || b) ≡ false → b ≡ false
false_disjunction_has_false_right_part true b h = absurd (cc)
false_disjunction_has_false_right_part false b h = h

value_with_false_negation_is_true : (a : Bool) → not a ≡ false → a ≡ true
value_with_false_negation_is_true true h = refl
value_with_false_negation_is_true false h = absurd (cc)

pub lines_each_cut_alone_are_logical : (lines : List (List ℕ)) → EachIsOneLineWhenCut lines → has_inner_line_without_lf lines ≡ false → AreLogicalLines lines
lines_each_cut_alone_are_logical [] alone ended = tt
lines_each_cut_alone_are_logical (line ∷ []) alone ended = (line_cut_to_itself_is_logical_line line alone.0, tt)
lines_each_cut_alone_are_logical (line ∷ next ∷ lines) alone ended =
    let lf = value_with_false_negation_is_true (ends_in_lf line) (false_disjunction_has_false_left_part (not (ends_in_lf line)) (has_inner_line_without_lf (next ∷ lines)) ended) in
    let clean = line_cut_to_itself_is_faultless line alone.0 in (
      closed_line_is_line_anywhere line (join (next ∷ lines)) (line_cut_to_itself_is_logical_line line alone.0) lf clean.closed,
      lines_each_cut_alone_are_logical (next ∷ lines) alone.1 (false_disjunction_has_false_right_part (not (ends_in_lf line)) (has_inner_line_without_lf (next ∷ lines)) ended),
    )

-- Lines that stand alone, all but the last ending in LF, are the lines of their join.
pub join_is_cut_into_its_lines : (lines : List (List ℕ)) → EachIsOneLineWhenCut lines → has_inner_line_without_lf lines ≡ false → length (join lines) ≤ text_limit → cut_outcome_of_text (join lines) ≡ Ok lines
join_is_cut_into_its_lines lines alone ended fits =
    outcome_of_cut_is_computed_outcome (join lines) (Ok lines) (record {
      fits = fits;
      cuts = record { joined = refl; each = lines_each_cut_alone_are_logical lines alone ended };
      sound = faultless_lines_have_no_fault lines (lines_each_cut_to_itself_are_faultless lines alone);
    })

faultless_logical_lines_are_each_cut_alone : (lines : List (List ℕ)) → AreLogicalLines lines → AreLinesWithoutFault lines → EachIsOneLineWhenCut lines
faultless_logical_lines_are_each_cut_alone [] each clean = tt
faultless_logical_lines_are_each_cut_alone (line ∷ lines) each clean = (faultless_line_is_cut_to_itself line (line_before_text_is_line_alone line (join lines) each.0) clean.0, faultless_logical_lines_are_each_cut_alone lines each.1 clean.1)

logical_lines_have_inner_lf : (lines : List (List ℕ)) → AreLogicalLines lines → has_inner_line_without_lf lines ≡ false
logical_lines_have_inner_lf [] each = refl
logical_lines_have_inner_lf (line ∷ []) each = refl
logical_lines_have_inner_lf (line ∷ next ∷ lines) each =
    let lf = (line_before_text_ends_in_lf line (join (next ∷ lines)) each.0 (join_after_line_is_not_empty next lines each.1.0)).0 in
    ap (λ (t : Bool). not t || has_inner_line_without_lf (next ∷ lines)) lf ∙ logical_lines_have_inner_lf (next ∷ lines) each.1

-- The lines of a text stand alone, and join to it.
pub lines_of_cut_text_are_cut_alone : (text : List ℕ) (lines : List (List ℕ)) → cut_outcome_of_text text ≡ Ok lines → EachIsOneLineWhenCut lines × (has_inner_line_without_lf lines ≡ false) × (join lines ≡ text) × (length text ≤ text_limit)
lines_of_cut_text_are_cut_alone text lines e =
    let is = text_cut_into_lines_has_faultless_cut text lines e in
    let clean = lines_having_no_fault_are_faultless lines is.cuts.each is.sound in
    (faultless_logical_lines_are_each_cut_alone lines is.cuts.each clean, logical_lines_have_inner_lf lines is.cuts.each, is.cuts.joined, is.fits)
