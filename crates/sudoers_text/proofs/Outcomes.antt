-- A text has one outcome.
use Rattle.std.proofs.Common.{◌≡◌, ◌⊎◌, inl, inr, ℕ, ◌+◌, ◌-◌, ◌<◌, ◌≤◌, true, false, List, ◌∷◌, ◌++◌, length, take, refl, sym, ap, subst, ◌∙◌, arith, Result, Ok, Err}
use Rattle.std.specs.Prelude.{if◌then◌else◌, nat_lt, ◌==◌}
use Rattle.std.proofs.lemmas.List.{take_at}
use Rattle.std.proofs.lemmas.Option.{slice_get_within}
use Rattle.std.proofs.lemmas.Bool.Decides.{nat_tests}
use Rattle.sudoers_text.specs.declared.fault.TextFault.{TextFault}
use Rattle.sudoers_text.specs.declared.fault.TextFault.TheVariants.{TooLarge, LineTooLong, Nul, OpenContinuation, NoMemory}
use Rattle.sudoers_text.specs.Line.{join}
use Rattle.sudoers_text.specs.Fault.{IsTooLongLine, HasFaultAt, IsFirstFaultOfLines, HasFirstFaultInLines, IsFaultOfText, IsFaultlessCut, IsOutcomeOfCut, rank_of_fault, line_limit, text_limit, lf_count}
use Rattle.sudoers_text.proofs.Pieces.{join_of_concatenation_is_concatenated_joins}
use Rattle.sudoers_text.proofs.Unique.{lines_of_text_are_unique}

-- the fault of this rank that can stand at a place
fault_of_rank_at_place : List (List ℕ) → ℕ → ℕ → TextFault
fault_of_rank_at_place lines at rank_of_fault =
    if rank_of_fault == 0 then LineTooLong (lf_count (take (at - line_limit) (join lines)) + 1)
    else (if nat_lt at (length (join lines)) then Nul at else OpenContinuation)

-- the number of a long line is told by its place
place_tells_number_of_long_line : (lines : List (List ℕ)) (number at : ℕ) → IsTooLongLine lines number at → number ≡ lf_count (take (at - line_limit) (join lines)) + 1
place_tells_number_of_long_line lines number at is =
    let whole : join lines ≡ join is.before ++ join (is.line ∷ is.after) = ap (λ (ls : List (List ℕ)). join ls) is.place ∙ join_of_concatenation_is_concatenated_joins is.before (is.line ∷ is.after) in
    let size : length (join is.before) ≡ at - line_limit = omega (arith, is.at_limit) in
    let front : take (at - line_limit) (join lines) ≡ join is.before =
    ap (λ (t : List ℕ). take (at - line_limit) t) whole ∙ take_at (join is.before) (join (is.line ∷ is.after)) (at - line_limit) size in
    is.numbered ∙ ap (λ (t : List ℕ). lf_count t + 1) (sym front)

-- a fault is told by its place and its rank
fault_is_told_by_place_and_rank : (lines : List (List ℕ)) (fault : TextFault) (at : ℕ) → HasFaultAt lines fault at → fault ≡ fault_of_rank_at_place lines at (rank_of_fault fault)
unfolding fault_of_rank_at_place
fault_is_told_by_place_and_rank lines TooLarge at is = absurd is
fault_is_told_by_place_and_rank lines NoMemory at is = absurd is
fault_is_told_by_place_and_rank lines (LineTooLong number) at is = ap LineTooLong (place_tells_number_of_long_line lines number at is)
fault_is_told_by_place_and_rank lines (Nul byte) at is =
    let within : at < length (join lines) = omega (arith, is.0, slice_get_within (join lines) byte 0 is.1) in
    let test : nat_lt at (length (join lines)) ≡ true = grind (arith, nat_tests) in
    ap Nul (sym is.0) ∙ sym (rw test refl)
fault_is_told_by_place_and_rank lines OpenContinuation at is =
    let past : length (join lines) ≤ at = omega (arith, is.0) in
    let test : nat_lt at (length (join lines)) ≡ false = grind (arith, nat_tests) in
    sym (rw test refl)

-- neither is later than the other
mutually_no_later_places_are_equal : (at place m n : ℕ) → (at < place) ⊎ ((at ≡ place) × (m ≤ n)) → (place < at) ⊎ ((place ≡ at) × (n ≤ m)) → (at ≡ place) × (m ≡ n)
mutually_no_later_places_are_equal at place m n (inl h) (inl k) = absurd (omega arith)
mutually_no_later_places_are_equal at place m n (inl h) (inr k) = absurd (omega arith)
mutually_no_later_places_are_equal at place m n (inr h) (inl k) = absurd (omega arith)
mutually_no_later_places_are_equal at place m n (inr h) (inr k) = (h.0, omega arith)

-- Lines have one first fault.
first_fault_of_lines_is_unique : (lines : List (List ℕ)) (fault other : TextFault) → IsFirstFaultOfLines lines fault → IsFirstFaultOfLines lines other → fault ≡ other
first_fault_of_lines_is_unique lines fault other x y =
    let same = mutually_no_later_places_are_equal x.at y.at (rank_of_fault fault) (rank_of_fault other) (x.first other y.at y.stands) (y.first fault x.at x.stands) in
    fault_is_told_by_place_and_rank lines fault x.at x.stands
    ∙ ap (λ (at : ℕ). fault_of_rank_at_place lines at (rank_of_fault fault)) same.0
    ∙ ap (λ (r : ℕ). fault_of_rank_at_place lines y.at r) same.1
    ∙ sym (fault_is_told_by_place_and_rank lines other y.at y.stands)

-- why a text is refused
text_fault_is_size_or_line_fault : (text : List ℕ) (fault : TextFault) → IsFaultOfText text fault → ((fault ≡ TooLarge) × (text_limit < length text)) ⊎ HasFirstFaultInLines text fault
text_fault_is_size_or_line_fault text TooLarge is = inl (refl, is)
text_fault_is_size_or_line_fault text NoMemory is = absurd is
text_fault_is_size_or_line_fault text (LineTooLong number) is = inr is
text_fault_is_size_or_line_fault text (Nul at) is = inr is
text_fault_is_size_or_line_fault text OpenContinuation is = inr is

fault_of_text_is_unique : (text : List ℕ) (fault other : TextFault) → ((fault ≡ TooLarge) × (text_limit < length text)) ⊎ HasFirstFaultInLines text fault → ((other ≡ TooLarge) × (text_limit < length text)) ⊎ HasFirstFaultInLines text other → fault ≡ other
fault_of_text_is_unique text fault other (inl x) (inl y) = x.0 ∙ sym y.0
fault_of_text_is_unique text fault other (inl x) (inr y) = absurd (omega (arith, x.1, y.fits))
fault_of_text_is_unique text fault other (inr x) (inl y) = absurd (omega (arith, x.fits, y.1))
fault_of_text_is_unique text fault other (inr x) (inr y) =
    let same = lines_of_text_are_unique text x.lines y.lines x.cuts y.cuts in
    first_fault_of_lines_is_unique y.lines fault other (subst (λ (ls : List (List ℕ)). IsFirstFaultOfLines ls fault) same x.first) y.first

-- A text that is cut is not refused.
faultlessly_cut_text_has_no_fault : (text : List ℕ) (lines : List (List ℕ)) (fault : TextFault) → IsFaultlessCut text lines → ((fault ≡ TooLarge) × (text_limit < length text)) ⊎ HasFirstFaultInLines text fault → ⊥
faultlessly_cut_text_has_no_fault text lines fault x (inl y) = omega (arith, x.fits, y.1)
faultlessly_cut_text_has_no_fault text lines fault x (inr y) =
    let same = lines_of_text_are_unique text y.lines lines y.cuts x.cuts in
    let first : IsFirstFaultOfLines lines fault = subst (λ (ls : List (List ℕ)). IsFirstFaultOfLines ls fault) same y.first in
    x.sound fault first.at first.stands

pub outcome_of_cut_is_unique : (text : List ℕ) (outcome other : Result (List (List ℕ)) TextFault) → IsOutcomeOfCut text outcome → IsOutcomeOfCut text other → outcome ≡ other
outcome_of_cut_is_unique text (Ok ls) (Ok ms) x y = ap (λ (ns : List (List ℕ)). Ok ns) (lines_of_text_are_unique text ls ms x.cuts y.cuts)
outcome_of_cut_is_unique text (Ok ls) (Err g) x y = absurd (faultlessly_cut_text_has_no_fault text ls g x (text_fault_is_size_or_line_fault text g y))
outcome_of_cut_is_unique text (Err f) (Ok ms) x y = absurd (faultlessly_cut_text_has_no_fault text ms f y (text_fault_is_size_or_line_fault text f x))
outcome_of_cut_is_unique text (Err f) (Err g) x y = ap (λ (h : TextFault). Err h) (fault_of_text_is_unique text f g (text_fault_is_size_or_line_fault text f x) (text_fault_is_size_or_line_fault text g y))
