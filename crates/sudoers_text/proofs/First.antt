-- Which fault of some lines comes first.
use Rattle.std.proofs.Common.{◌≡◌, ◌≢◌, inl, inr, ℕ, ◌+◌, ◌<◌, ◌≤◌, List, [], ◌∷◌, ◌++◌, length, refl, sym, ap, subst, ◌∙◌, arith, Some}
use Rattle.std.specs.Prelude.{slice_get}
use Rattle.std.proofs.lemmas.List.{length-append}
use Rattle.std.proofs.lemmas.Option.{slice_get_within}
use Rattle.std.proofs.lemmas.Bool.{cases_lt}
use Rattle.sudoers_text.specs.declared.fault.TextFault.{TextFault}
use Rattle.sudoers_text.specs.declared.fault.TextFault.TheVariants.{TooLarge, LineTooLong, Nul, OpenContinuation, NoMemory}
use Rattle.sudoers_text.specs.Line.{join}
use Rattle.sudoers_text.specs.Fault.{LastLineIsUnfinished, IsTooLongLine, HasFaultAt, FaultStandsNoLater, IsFirstFaultOfLines, line_limit, lf_count}
use Rattle.sudoers_text.proofs.Pieces.{join_of_concatenation_is_concatenated_joins}

-- no line is too long
abbrev pub AreLinesWithinLimit : List (List ℕ) → Type 0
AreLinesWithinLimit [] = Unit {0}
AreLinesWithinLimit (line ∷ lines) = (length line ≤ line_limit) × AreLinesWithinLimit lines

pub short_lines_with_short_line_are_short : (lines : List (List ℕ)) (line : List ℕ) → AreLinesWithinLimit lines → length line ≤ line_limit → AreLinesWithinLimit (lines ++ line ∷ [])
short_lines_with_short_line_are_short [] line short last = (last, tt)
short_lines_with_short_line_are_short (first ∷ lines) line short last = (short.0, short_lines_with_short_line_are_short lines line short.1 last)

-- no NUL stands before this place of the text
abbrev pub HasNoNulBelow : List ℕ → ℕ → Type 0
HasNoNulBelow text n = (k : ℕ) → k < n → slice_get text k ≢ Some 0

-- no NUL stands in the text
abbrev pub HasNoNul : List ℕ → Type 0
HasNoNul text = (k : ℕ) → slice_get text k ≢ Some 0

nul_is_not_below_nul_free_place : (text : List ℕ) (n k : ℕ) → HasNoNulBelow text n → slice_get text k ≡ Some 0 → n ≤ k
nul_is_not_below_nul_free_place text n k none here =
    elim (cases_lt k n) [ inl below ↦ absurd (none k below here) | inr past ↦ past ]

pub no_nul_below_end_is_no_nul : (text : List ℕ) → HasNoNulBelow text (length text) → HasNoNul text
no_nul_below_end_is_no_nul text none k here = none k (slice_get_within text k 0 here) here

-- nul is the first NUL, or the text's end
pub record IsFirstNul (text : List ℕ) (nul : ℕ) : Type 0 where
  pub inside : nul ≤ length text
  pub before : (k : ℕ) → k < nul → slice_get text k ≢ Some 0
  pub found : nul < length text → slice_get text nul ≡ Some 0

-- a long line stands behind the short ones
long_line_is_after_short_front : (front more before : List (List ℕ)) (line : List ℕ) (after : List (List ℕ)) → AreLinesWithinLimit front → line_limit < length line → front ++ more ≡ before ++ line ∷ after → length (join front) ≤ length (join before)
long_line_is_after_short_front [] more before line after short long e = omega arith
long_line_is_after_short_front (first ∷ front) more [] line after short long e =
    let same : first ≡ line = cc in
    absurd (omega (arith, short.0, ap length same))
long_line_is_after_short_front (first ∷ front) more (other ∷ before) line after short long e =
    let same : first ≡ other = cc in
    let rest : front ++ more ≡ before ++ line ∷ after = cc in
    omega (arith, length-append first (join front), length-append other (join before), ap length same, long_line_is_after_short_front front more before line after short.1 long rest)

-- its fault stands behind them
long_line_fault_is_after_short_front : (lines front more : List (List ℕ)) (number at : ℕ) → AreLinesWithinLimit front → lines ≡ front ++ more → IsTooLongLine lines number at → length (join front) + line_limit ≤ at
long_line_fault_is_after_short_front lines front more number at short split is =
    omega (arith, long_line_is_after_short_front front more is.before is.line is.after short is.long (sym split ∙ is.place), is.at_limit)

short_lines_contain_no_long_line : (before : List (List ℕ)) (line : List ℕ) (after : List (List ℕ)) → AreLinesWithinLimit (before ++ line ∷ after) → line_limit < length line → ⊥
short_lines_contain_no_long_line [] line after short long = omega (arith, short.0)
short_lines_contain_no_long_line (first ∷ before) line after short long = short_lines_contain_no_long_line before line after short.1 long

short_lines_have_no_long_line_fault : (lines : List (List ℕ)) (number at : ℕ) → AreLinesWithinLimit lines → IsTooLongLine lines number at → ⊥
short_lines_have_no_long_line_fault lines number at short is = short_lines_contain_no_long_line is.before is.line is.after (subst AreLinesWithinLimit is.place short) is.long

-- A NUL before which there is none, and no line passes the limit, comes first.
pub nul_before_long_line_is_first_fault : (lines front more : List (List ℕ)) (nul : ℕ) → AreLinesWithinLimit front → lines ≡ front ++ more → nul < length (join front) + line_limit → HasNoNulBelow (join lines) nul → slice_get (join lines) nul ≡ Some 0 → IsFirstFaultOfLines lines (Nul nul)
nul_before_long_line_is_first_fault lines front more nul short split below none here = record {
  at = nul;
  stands = (refl, here);
  first = λ other place stands. nul_then other place stands;
}
  where
    nul_then : (other : TextFault) (place : ℕ) → HasFaultAt lines other place → FaultStandsNoLater (Nul nul) nul other place
    nul_then TooLarge place stands = absurd stands
    nul_then NoMemory place stands = absurd stands
    nul_then (LineTooLong number) place stands = inl (omega (arith, long_line_fault_is_after_short_front lines front more number place short split stands))
    nul_then (Nul byte) place stands =
        let least = nul_is_not_below_nul_free_place (join lines) nul byte none stands.1 in
        elim (cases_lt nul place) [ inl lt ↦ inl lt | inr ge ↦ inr (omega (arith, stands.0), omega arith) ]
    nul_then OpenContinuation place stands = inl (omega (arith, stands.0, slice_get_within (join lines) nul 0 here))

-- A long line behind short ones comes first, where no NUL stands before its limit.
pub long_line_before_nul_is_first_fault : (lines front : List (List ℕ)) (line : List ℕ) (after : List (List ℕ)) (number : ℕ) → AreLinesWithinLimit front → lines ≡ front ++ line ∷ after → line_limit < length line → number ≡ lf_count (join front) + 1 → HasNoNulBelow (join lines) (length (join front) + line_limit) → IsFirstFaultOfLines lines (LineTooLong number)
long_line_before_nul_is_first_fault lines front line after number short split long numbered none = record {
  at = length (join front) + line_limit;
  stands = record { before = front; line = line; after = after; place = split; long = long; at_limit = refl; numbered = numbered };
  first = λ other place stands. long_then other place stands;
}
  where
    long_then : (other : TextFault) (place : ℕ) → HasFaultAt lines other place → FaultStandsNoLater (LineTooLong number) (length (join front) + line_limit) other place
    long_then TooLarge place stands = absurd stands
    long_then NoMemory place stands = absurd stands
    long_then (LineTooLong other) place stands =
        let from = long_line_fault_is_after_short_front lines front (line ∷ after) other place short split stands in
        elim (cases_lt (length (join front) + line_limit) place) [ inl lt ↦ inl lt | inr ge ↦ inr (omega (arith, from), omega arith) ]
    long_then (Nul byte) place stands =
        let least = nul_is_not_below_nul_free_place (join lines) (length (join front) + line_limit) byte none stands.1 in
        elim (cases_lt (length (join front) + line_limit) place) [ inl lt ↦ inl lt | inr ge ↦ inr (omega (arith, stands.0), omega arith) ]
    long_then OpenContinuation place stands =
        inl (omega (arith, stands.0, ap (λ (ls : List (List ℕ)). length (join ls)) split, ap length (join_of_concatenation_is_concatenated_joins front (line ∷ after)), length-append (join front) (join (line ∷ after)), length-append line (join after)))

-- An open end comes first, where nothing else is wrong.
pub unfinished_good_lines_have_open_fault : (lines : List (List ℕ)) → AreLinesWithinLimit lines → HasNoNul (join lines) → LastLineIsUnfinished lines → IsFirstFaultOfLines lines OpenContinuation
unfinished_good_lines_have_open_fault lines short none ends = record {
  at = length (join lines);
  stands = (refl, ends);
  first = λ other place stands. open_then other place stands;
}
  where
    open_then : (other : TextFault) (place : ℕ) → HasFaultAt lines other place → FaultStandsNoLater OpenContinuation (length (join lines)) other place
    open_then TooLarge place stands = absurd stands
    open_then NoMemory place stands = absurd stands
    open_then (LineTooLong number) place stands = absurd (short_lines_have_no_long_line_fault lines number place short stands)
    open_then (Nul byte) place stands = absurd (none byte stands.1)
    open_then OpenContinuation place stands = inr (sym stands.0, omega arith)

-- Nothing is wrong with short lines in which no NUL stands and of which the last is not open.
pub short_closed_lines_have_no_fault : (lines : List (List ℕ)) → AreLinesWithinLimit lines → HasNoNul (join lines) → (LastLineIsUnfinished lines → ⊥) → (fault : TextFault) (at : ℕ) → HasFaultAt lines fault at → ⊥
short_closed_lines_have_no_fault lines short none closed TooLarge at stands = stands
short_closed_lines_have_no_fault lines short none closed NoMemory at stands = stands
short_closed_lines_have_no_fault lines short none closed (LineTooLong number) at stands = short_lines_have_no_long_line_fault lines number at short stands
short_closed_lines_have_no_fault lines short none closed (Nul byte) at stands = none byte stands.1
short_closed_lines_have_no_fault lines short none closed OpenContinuation at stands = closed stands.1
