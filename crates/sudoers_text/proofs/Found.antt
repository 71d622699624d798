-- The outcome that is computed is the text's.
use Rattle.std.proofs.Common.{◌≡◌, ◌≢◌, inl, inr, ℕ, zero, suc, ◌+◌, ◌<◌, ◌≤◌, Bool, true, false, cond, List, [], ◌∷◌, ◌++◌, length, take, refl, sym, ap, subst, ◌∙◌, arith, Option, Some, None, Result, Ok, Err, append-nil}
use Rattle.std.specs.Prelude.{◌==◌, nat_lt, if◌then◌else◌, slice_get}
use Rattle.std.specs.List.{position_or_len}
use Rattle.std.specs.Option.{option_map, option_map_or}
use Rattle.std.proofs.lemmas.List.{length-append, append_assoc, length-take-le, take_all}
use Rattle.std.proofs.lemmas.List.Sums.{sum_by-append}
use Rattle.std.proofs.lemmas.Bool.{ltb-true, ltb-false}
use Rattle.std.proofs.lemmas.Bool.Decides.{eqb_tells}
use Rattle.sudoers_text.specs.declared.fault.TextFault.{TextFault}
use Rattle.sudoers_text.specs.declared.fault.TextFault.TheVariants.{TooLarge, LineTooLong, Nul, OpenContinuation, NoMemory}
use Rattle.sudoers_text.specs.Line.{join, AreLinesOfText}
use Rattle.sudoers_text.specs.Fault.{HasFaultAt, IsFirstFaultOfLines, IsFaultOfText, IsOutcomeOfCut, line_limit, text_limit, lf_count}
use Rattle.sudoers_text.specs.Cut.{logical_lines_of_text, is_unfinished_line, first_present_fault, fault_of_logical_line, first_fault_of_lines, cut_outcome_of_text, IsOutcomeUnlessNoMemory}
use Rattle.sudoers_text.proofs.Pieces.{join_of_concatenation_is_concatenated_joins, empty_list_has_no_unfinished_last_line, unfinished_last_of_lines_is_unfinished_line}
use Rattle.sudoers_text.proofs.First.{AreLinesWithinLimit, short_lines_with_short_line_are_short, HasNoNul, HasNoNulBelow, IsFirstNul, no_nul_below_end_is_no_nul, nul_before_long_line_is_first_fault, long_line_before_nul_is_first_fault, unfinished_good_lines_have_open_fault, short_closed_lines_have_no_fault}
use Rattle.std.proofs.lemmas.Option.{slice_get_within}
use Rattle.sudoers_text.proofs.Lists.{byte_within_left_part_is_its_byte, byte_past_left_part_is_right_byte, byte_of_prefix_is_byte_of_list, prefix_size_is_at_most_count, nul_free_text_extends_nul_free_prefix, nul_free_texts_join_nul_free, longer_text_keeps_no_nul_below}
use Rattle.sudoers_text.proofs.Computed.{computed_logical_lines_are_lines_of_text, unfinished_line_is_computed_unfinished, computed_unfinished_line_is_unfinished}
use Rattle.sudoers_text.proofs.Outcomes.{outcome_of_cut_is_unique}

non_nul_byte_keeps_no_nul_below : (b : ℕ) (xs : List ℕ) (n : ℕ) → b ≢ 0 → HasNoNulBelow xs n → (k : ℕ) → k < 1 + n → slice_get (b ∷ xs) k ≢ Some 0
non_nul_byte_keeps_no_nul_below b xs n other before zero l here = let same : b ≡ 0 = cc in other same
non_nul_byte_keeps_no_nul_below b xs n other before (suc k) l here = before k (omega arith) here

non_nul_byte_moves_first_nul : (b : ℕ) (xs : List ℕ) (n : ℕ) → b ≢ 0 → IsFirstNul xs n → IsFirstNul (b ∷ xs) (1 + n)
non_nul_byte_moves_first_nul b xs n other first =
    let same : suc n ≡ 1 + n = omega arith in
    record {
      inside = omega (arith, first.inside);
      before = non_nul_byte_keeps_no_nul_below b xs n other first.before;
      found = λ l. subst (λ (m : ℕ). slice_get (b ∷ xs) m ≡ Some 0) same (first.found (omega arith));
    }

nul_at_start_is_first_nul : (b : ℕ) (xs : List ℕ) → b ≡ 0 → IsFirstNul (b ∷ xs) 0
nul_at_start_is_first_nul b xs same = record {
  inside = omega arith;
  before = λ k l. absurd (omega arith);
  found = λ _. ap (λ (c : ℕ). Some c) same;
}

-- the first NUL is where it is looked for
position_of_nul_byte_is_first_nul : (xs : List ℕ) → IsFirstNul xs (position_or_len (λ b. b == 0) xs)
position_of_nul_byte_is_first_nul [] = record { inside = omega arith; before = λ k l. absurd (omega arith); found = λ l. absurd (omega arith) }
position_of_nul_byte_is_first_nul (b ∷ xs) =
    elim (eqb_tells b 0) [
      | inl w ↦ let is : (b == 0) ≡ true = w.0 in rw is (nul_at_start_is_first_nul b xs w.1)
      | inr w ↦ let is : (b == 0) ≡ false = w.0 in rw is (non_nul_byte_moves_first_nul b xs (position_or_len (λ c. c == 0) xs) w.1 (position_of_nul_byte_is_first_nul xs))
    ]

line_fault_choice_has_three_cases : (t u : Bool) (n number at : ℕ) (P : Option TextFault → Type 0) → (t ≡ true → P (Some (Nul (at + n)))) → (t ≡ false → u ≡ true → P (Some (LineTooLong number))) → (t ≡ false → u ≡ false → P None) → P (first_present_fault (option_map (λ k. Nul (at + k)) (cond t (Some n) None)) (if u then Some (LineTooLong number) else None))
line_fault_choice_has_three_cases true u n number at P nul long fine = nul refl
line_fault_choice_has_three_cases false true n number at P nul long fine = long refl refl
line_fault_choice_has_three_cases false false n number at P nul long fine = fine refl refl

-- What is computed of a line is its first NUL within the limit, or that it is too long.
line_fault_is_nul_or_length : (number at : ℕ) (line : List ℕ) (P : Option TextFault → Type 0) → ((k : ℕ) → k < line_limit → slice_get line k ≡ Some 0 → HasNoNulBelow line k → P (Some (Nul (at + k)))) → (line_limit < length line → HasNoNulBelow line line_limit → P (Some (LineTooLong number))) → (length line ≤ line_limit → HasNoNul line → P None) → P (fault_of_logical_line number at line)
unfolding fault_of_logical_line
line_fault_is_nul_or_length number at line P nul long fine =
    let front = take line_limit line in
    let n = position_or_len (λ b. b == 0) front in
    let first = position_of_nul_byte_is_first_nul front in
    let size = prefix_size_is_at_most_count line_limit line in
    line_fault_choice_has_three_cases (nat_lt n (length front)) (nat_lt line_limit (length line)) n number at P
    (λ is.
    let inside : n < length front = ltb-true n (length front) is in
    nul n (omega (arith, inside, size)) (sym (byte_of_prefix_is_byte_of_list line_limit line n (omega (arith, inside, size))) ∙ first.found inside)
    (λ k l here. first.before k l (byte_of_prefix_is_byte_of_list line_limit line k (omega (arith, l, inside, size)) ∙ here)))
    (λ past is.
    let most : length front ≤ n = ltb-false n (length front) past in
    let beyond : line_limit < length line = ltb-true line_limit (length line) is in
    let whole : length front ≡ line_limit = length-take-le line_limit line (omega (arith, beyond)) in
    long beyond (λ k l here. first.before k (omega (arith, l, whole, most)) (byte_of_prefix_is_byte_of_list line_limit line k l ∙ here)))
    (λ past fits.
    let most : length front ≤ n = ltb-false n (length front) past in
    let within : length line ≤ line_limit = ltb-false line_limit (length line) fits in
    let whole : length front ≡ length line = ap length (take_all line_limit line within) in
    fine within (no_nul_below_end_is_no_nul line (λ k l here. first.before k (omega (arith, l, whole, most)) (byte_of_prefix_is_byte_of_list line_limit line k (omega (arith, l, within)) ∙ here))))

-- what was found is the first fault of these lines
abbrev pub IsFirstFaultOrNoFault : List (List ℕ) → Option TextFault → Type 0
IsFirstFaultOrNoFault lines None = (fault : TextFault) (at : ℕ) → HasFaultAt lines fault at → ⊥
IsFirstFaultOrNoFault lines (Some fault) = IsFirstFaultOfLines lines fault

nul_after_good_lines_is_first_fault : (before : List (List ℕ)) (line : List ℕ) (lines : List (List ℕ)) (at k : ℕ) → AreLinesWithinLimit before → HasNoNul (join before) → at ≡ length (join before) → k < line_limit → k < length line → slice_get line k ≡ Some 0 → HasNoNulBelow line k → IsFirstFaultOfLines (before ++ line ∷ lines) (Nul (at + k))
nul_after_good_lines_is_first_fault before line lines at k short none place below inside here first =
    let whole : join (before ++ line ∷ lines) ≡ join before ++ (line ++ join lines) = join_of_concatenation_is_concatenated_joins before (line ∷ lines) in
    let same : at + k ≡ length (join before) + k = omega arith in
    nul_before_long_line_is_first_fault (before ++ line ∷ lines) before (line ∷ lines) (at + k) short refl (omega arith)
    (subst (λ (t : List ℕ). HasNoNulBelow t (at + k)) (sym whole)
    (subst (λ (n : ℕ). HasNoNulBelow (join before ++ (line ++ join lines)) n) (sym same)
    (nul_free_text_extends_nul_free_prefix (join before) (line ++ join lines) k none (longer_text_keeps_no_nul_below line (join lines) k (omega arith) first))))
    (ap (λ (t : List ℕ). slice_get t (at + k)) whole ∙ byte_past_left_part_is_right_byte (join before) (line ++ join lines) (at + k) k same ∙ byte_within_left_part_is_its_byte line (join lines) k inside ∙ here)

long_after_good_lines_is_first_fault : (before : List (List ℕ)) (line : List ℕ) (lines : List (List ℕ)) (number : ℕ) → AreLinesWithinLimit before → HasNoNul (join before) → number ≡ lf_count (join before) + 1 → line_limit < length line → HasNoNulBelow line line_limit → IsFirstFaultOfLines (before ++ line ∷ lines) (LineTooLong number)
long_after_good_lines_is_first_fault before line lines number short none numbered long first =
    let whole : join (before ++ line ∷ lines) ≡ join before ++ (line ++ join lines) = join_of_concatenation_is_concatenated_joins before (line ∷ lines) in
    long_line_before_nul_is_first_fault (before ++ line ∷ lines) before line lines number short refl long numbered
    (subst (λ (t : List ℕ). HasNoNulBelow t (length (join before) + line_limit)) (sym whole)
    (nul_free_text_extends_nul_free_prefix (join before) (line ++ join lines) line_limit none (longer_text_keeps_no_nul_below line (join lines) line_limit (omega arith) first)))

last_line_test_gives_first_fault : (before : List (List ℕ)) (line : List ℕ) (t : Bool) → is_unfinished_line line ≡ t → AreLinesWithinLimit (before ++ line ∷ []) → HasNoNul (join (before ++ line ∷ [])) → IsFirstFaultOrNoFault (before ++ line ∷ []) (if t then Some OpenContinuation else None)
last_line_test_gives_first_fault before line true is short none =
    unfinished_good_lines_have_open_fault (before ++ line ∷ []) short none (record { before = before; last = line; place = refl; unfinished = computed_unfinished_line_is_unfinished line is })
last_line_test_gives_first_fault before line false is short none =
    short_closed_lines_have_no_fault (before ++ line ∷ []) short none (λ ends.
    let isnt = unfinished_line_is_computed_unfinished line (unfinished_last_of_lines_is_unfinished_line before line ends) in
    cc)

join_with_line_is_join_and_line : (before : List (List ℕ)) (line : List ℕ) → join (before ++ line ∷ []) ≡ join before ++ line
join_with_line_is_join_and_line before line = join_of_concatenation_is_concatenated_joins before (line ∷ []) ∙ ap (λ (t : List ℕ). join before ++ t) (append-nil line)

joining_nul_free_line_keeps_no_nul : (before : List (List ℕ)) (line : List ℕ) → HasNoNul (join before) → HasNoNul line → HasNoNul (join (before ++ line ∷ []))
joining_nul_free_line_keeps_no_nul before line none clean = subst (λ (t : List ℕ). HasNoNul t) (sym (join_with_line_is_join_and_line before line)) (nul_free_texts_join_nul_free (join before) line none clean)

-- the number of the physical line behind one more line
line_number_grows_by_lf_count : (before : List (List ℕ)) (line : List ℕ) (number : ℕ) → number ≡ lf_count (join before) + 1 → number + lf_count line ≡ lf_count (join (before ++ line ∷ [])) + 1
line_number_grows_by_lf_count before line number numbered =
    omega (arith, numbered, ap (λ (t : List ℕ). lf_count t) (join_with_line_is_join_and_line before line), sum_by-append (λ (x : ℕ). cond (x == 10) 1 0) (join before) line)

-- What is computed from one of the lines on is the first fault, where there is none before.
fault_found_from_line_is_first_fault : (before : List (List ℕ)) (line : List ℕ) (lines : List (List ℕ)) (number at : ℕ) → AreLinesWithinLimit before → HasNoNul (join before) → number ≡ lf_count (join before) + 1 → at ≡ length (join before) → IsFirstFaultOrNoFault (before ++ line ∷ lines) (first_fault_of_lines number at (line ∷ lines))
unfolding first_fault_of_lines
fault_found_from_line_is_first_fault before line [] number at short none numbered place =
    line_fault_is_nul_or_length number at line (λ o. IsFirstFaultOrNoFault (before ++ line ∷ []) (first_present_fault o (if is_unfinished_line line then Some OpenContinuation else None)))
    (λ k below here first. nul_after_good_lines_is_first_fault before line [] at k short none place below (slice_get_within line k 0 here) here first)
    (λ long first. long_after_good_lines_is_first_fault before line [] number short none numbered long first)
    (λ fits clean. last_line_test_gives_first_fault before line (is_unfinished_line line) refl (short_lines_with_short_line_are_short before line short fits) (joining_nul_free_line_keeps_no_nul before line none clean))
fault_found_from_line_is_first_fault before line (next ∷ lines) number at short none numbered place =
    line_fault_is_nul_or_length number at line (λ o. IsFirstFaultOrNoFault (before ++ line ∷ next ∷ lines) (first_present_fault o (first_fault_of_lines (number + lf_count line) (at + length line) (next ∷ lines))))
    (λ k below here first. nul_after_good_lines_is_first_fault before line (next ∷ lines) at k short none place below (slice_get_within line k 0 here) here first)
    (λ long first. long_after_good_lines_is_first_fault before line (next ∷ lines) number short none numbered long first)
    (λ fits clean.
    subst (λ (ls : List (List ℕ)). IsFirstFaultOrNoFault ls (first_fault_of_lines (number + lf_count line) (at + length line) (next ∷ lines))) (append_assoc before (line ∷ []) (next ∷ lines))
    (fault_found_from_line_is_first_fault (before ++ line ∷ []) next lines (number + lf_count line) (at + length line) (short_lines_with_short_line_are_short before line short fits) (joining_nul_free_line_keeps_no_nul before line none clean)
    (line_number_grows_by_lf_count before line number numbered) (omega (arith, place, ap length (join_with_line_is_join_and_line before line), length-append (join before) line))))

-- What is computed of lines is their first fault.
computed_first_fault_is_first_or_none : (lines : List (List ℕ)) → IsFirstFaultOrNoFault lines (first_fault_of_lines 1 0 lines)
unfolding first_fault_of_lines
computed_first_fault_is_first_or_none [] = short_closed_lines_have_no_fault [] tt (λ k e. cc) empty_list_has_no_unfinished_last_line
computed_first_fault_is_first_or_none (line ∷ lines) = fault_found_from_line_is_first_fault [] line lines 1 0 tt (λ k e. cc) refl refl

first_line_fault_is_text_fault : (text : List ℕ) (lines : List (List ℕ)) (fault : TextFault) → length text ≤ text_limit → AreLinesOfText text lines → IsFirstFaultOfLines lines fault → IsFaultOfText text fault
first_line_fault_is_text_fault text lines TooLarge fits cuts first = absurd first.stands
first_line_fault_is_text_fault text lines NoMemory fits cuts first = absurd first.stands
first_line_fault_is_text_fault text lines (LineTooLong number) fits cuts first = record { fits = fits; lines = lines; cuts = cuts; first = first }
first_line_fault_is_text_fault text lines (Nul at) fits cuts first = record { fits = fits; lines = lines; cuts = cuts; first = first }
first_line_fault_is_text_fault text lines OpenContinuation fits cuts first = record { fits = fits; lines = lines; cuts = cuts; first = first }

first_fault_or_lines_are_cut_outcome : (text : List ℕ) (lines : List (List ℕ)) (o : Option TextFault) → length text ≤ text_limit → AreLinesOfText text lines → IsFirstFaultOrNoFault lines o → IsOutcomeOfCut text (option_map_or (λ fault. Err fault) o (Ok lines))
first_fault_or_lines_are_cut_outcome text lines None fits cuts is = record { fits = fits; cuts = cuts; sound = is }
first_fault_or_lines_are_cut_outcome text lines (Some fault) fits cuts is = first_line_fault_is_text_fault text lines fault fits cuts is

cut_outcome_by_text_size_is_outcome : (text : List ℕ) (t : Bool) → nat_lt text_limit (length text) ≡ t → IsOutcomeOfCut text (if t then Err TooLarge else option_map_or (λ fault. Err fault) (first_fault_of_lines 1 0 (logical_lines_of_text text)) (Ok (logical_lines_of_text text)))
cut_outcome_by_text_size_is_outcome text true is = ltb-true text_limit (length text) is
cut_outcome_by_text_size_is_outcome text false is =
    let fits : length text ≤ text_limit = ltb-false text_limit (length text) is in
    first_fault_or_lines_are_cut_outcome text (logical_lines_of_text text) (first_fault_of_lines 1 0 (logical_lines_of_text text)) fits (computed_logical_lines_are_lines_of_text text) (computed_first_fault_is_first_or_none (logical_lines_of_text text))

-- What is computed is the text's outcome.
pub computed_outcome_is_outcome_of_cut : (text : List ℕ) → IsOutcomeOfCut text (cut_outcome_of_text text)
unfolding cut_outcome_of_text
computed_outcome_is_outcome_of_cut text = cut_outcome_by_text_size_is_outcome text (nat_lt text_limit (length text)) refl

-- An outcome of the text is what is computed.
pub outcome_of_cut_is_computed_outcome : (text : List ℕ) (outcome : Result (List (List ℕ)) TextFault) → IsOutcomeOfCut text outcome → cut_outcome_of_text text ≡ outcome
outcome_of_cut_is_computed_outcome text outcome is = outcome_of_cut_is_unique text (cut_outcome_of_text text) outcome (computed_outcome_is_outcome_of_cut text) is

pub outcome_is_computed_unless_no_memory : (text : List ℕ) (outcome : Result (List (List ℕ)) TextFault) → IsOutcomeOfCut text outcome → IsOutcomeUnlessNoMemory outcome (cut_outcome_of_text text)
outcome_is_computed_unless_no_memory text (Ok lines) is = outcome_of_cut_is_computed_outcome text (Ok lines) is
outcome_is_computed_unless_no_memory text (Err TooLarge) is = outcome_of_cut_is_computed_outcome text (Err TooLarge) is
outcome_is_computed_unless_no_memory text (Err (LineTooLong number)) is = outcome_of_cut_is_computed_outcome text (Err (LineTooLong number)) is
outcome_is_computed_unless_no_memory text (Err (Nul at)) is = outcome_of_cut_is_computed_outcome text (Err (Nul at)) is
outcome_is_computed_unless_no_memory text (Err OpenContinuation) is = outcome_of_cut_is_computed_outcome text (Err OpenContinuation) is
outcome_is_computed_unless_no_memory text (Err NoMemory) is = tt

-- the first fault of a text is its outcome
pub first_fault_is_computed_outcome : (text : List ℕ) (lines : List (List ℕ)) (fault : TextFault) → length text ≤ text_limit → AreLinesOfText text lines → IsFirstFaultOfLines lines fault → IsOutcomeUnlessNoMemory (Err fault) (cut_outcome_of_text text)
first_fault_is_computed_outcome text lines fault fits cuts first = outcome_is_computed_unless_no_memory text (Err fault) (first_line_fault_is_text_fault text lines fault fits cuts first)
