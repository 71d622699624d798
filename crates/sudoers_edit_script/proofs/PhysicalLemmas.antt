-- The first physical line of a text, and the text that lines make.
use Rattle.std.proofs.Common.{◌≡◌, ℕ, zero, suc, ◌+◌, ◌<◌, true, false, ◌==◌, List, [], ◌∷◌, ◌++◌, length, take, drop, slice_index, ◌-◌, refl, sym, ap, ◌∙◌, arith, inl, inr, add-one}
use Rattle.std.proofs.Math.Seq.{take-append_seam}
use Rattle.std.proofs.lemmas.List.{take_all, drop_all, length-append}
use Rattle.std.specs.List.{list_any}
use Rattle.std.proofs.lemmas.Bool.{false≢true, cases_Bool, or_parts}
use Rattle.memchr.specs.Find.{NoneBefore, Nowhere, Passes, is_byte}
use Rattle.sudoers_text.specs.Ended.{ends_in_lf, has_inner_line_without_lf}
use Rattle.sudoers_edit_script.specs.Physical.{byte_joined_to_first_line, physical_lines}
use Rattle.sudoers_edit_script.specs.ScriptReading.{line_without_final_lf}
use Rattle.sudoers_edit_script.proofs.EndLemmas.{text_with_lf_added_ends_in_lf, ended_text_is_body_and_lf}

-- a byte other than LF goes onto the first line of the rest
pub byte_unlike_lf_joins_first_line : (b : ℕ) (bs : List ℕ) → (b == 10) ≡ false → physical_lines (b ∷ bs) ≡ byte_joined_to_first_line b (physical_lines bs)
byte_unlike_lf_joins_first_line b bs h = rw h refl

-- LF ends a line of its own
pub lf_is_line_of_its_own : (b : ℕ) (bs : List ℕ) → (b == 10) ≡ true → physical_lines (b ∷ bs) ≡ (b ∷ []) ∷ physical_lines bs
lf_is_line_of_its_own b bs h = rw h refl

-- up to the first LF
first_line_ends_at_first_lf : (text : List ℕ) (n : ℕ) → n < length text → (slice_index text n == 10) ≡ true → ((k : ℕ) → k < n → (slice_index text k == 10) ≡ true → ⊥) → physical_lines text ≡ take (suc n) text ∷ physical_lines (drop (suc n) text)
first_line_ends_at_first_lf [] n l h none = absurd (omega arith)
first_line_ends_at_first_lf (b ∷ bs) zero l h none = lf_is_line_of_its_own b bs h
first_line_ends_at_first_lf (b ∷ bs) (suc n) l h none =
    elim (cases_Bool (b == 10)) [
      | inl t ↦ absurd (none 0 (omega arith) t)
      | inr f ↦ byte_unlike_lf_joins_first_line b bs f ∙ ap (byte_joined_to_first_line b) (first_line_ends_at_first_lf bs n (omega arith) h (λ k m e. none (suc k) (omega arith) e))
    ]

-- with no LF there is one line
text_without_lf_is_one_line : (b : ℕ) (bs : List ℕ) → ((k : ℕ) → k < length (b ∷ bs) → (slice_index (b ∷ bs) k == 10) ≡ true → ⊥) → physical_lines (b ∷ bs) ≡ (b ∷ bs) ∷ []
text_without_lf_is_one_line b [] none =
    elim (cases_Bool (b == 10)) [
      | inl t ↦ absurd (none 0 (omega arith) t)
      | inr f ↦ byte_unlike_lf_joins_first_line b [] f
    ]
text_without_lf_is_one_line b (c ∷ cs) none =
    elim (cases_Bool (b == 10)) [
      | inl t ↦ absurd (none 0 (omega arith) t)
      | inr f ↦ byte_unlike_lf_joins_first_line b (c ∷ cs) f ∙ ap (byte_joined_to_first_line b) (text_without_lf_is_one_line c cs (λ k m e. none (suc k) (omega arith) e))
    ]

-- by what a search for LF gives
pub lf_found_ends_first_line : (text : List ℕ) (n : ℕ) → NoneBefore (Passes (is_byte 10) text) 0 (length text) n × Passes (is_byte 10) text n → physical_lines text ≡ take (n + 1) text ∷ physical_lines (drop (n + 1) text)
lf_found_ends_first_line text n h =
    rw add-one (first_line_ends_at_first_lf text n h.0.high h.1 (λ k m e. h.0.before k (omega arith) m e))

-- where a search for LF finds none
pub no_lf_found_leaves_one_line : (text : List ℕ) → 0 < length text → Nowhere (Passes (is_byte 10) text) 0 (length text) → physical_lines text ≡ take (length text) text ∷ physical_lines (drop (length text) text)
no_lf_found_leaves_one_line [] l h = absurd (omega arith)
no_lf_found_leaves_one_line (b ∷ bs) l h =
    text_without_lf_is_one_line b bs (λ k m e. h k (omega arith) m e) ∙ sym (rw (take_all (length (b ∷ bs)) (b ∷ bs) (omega arith), drop_all (length (b ∷ bs)) (b ∷ bs) (omega arith)) refl)

-- LINES THAT MAKE A TEXT

-- It is not empty, and has LF at its end alone.
abbrev pub IsPhysicalLine : List ℕ → Type 0
IsPhysicalLine [] = ⊥
IsPhysicalLine (b ∷ []) = Unit {0}
IsPhysicalLine (b ∷ c ∷ bytes) = ((b == 10) ≡ false) × IsPhysicalLine (c ∷ bytes)

-- Each is a line.
abbrev pub ArePhysicalLines : List (List ℕ) → Type 0
ArePhysicalLines [] = Unit {0}
ArePhysicalLines (line ∷ lines) = IsPhysicalLine line × ArePhysicalLines lines

-- the lines one behind another
abbrev pub text_of_joined_lines : List (List ℕ) → List ℕ
text_of_joined_lines [] = []
text_of_joined_lines (line ∷ lines) = line ++ text_of_joined_lines lines

-- an ended line stands before the lines of the rest
pub ended_line_is_first_physical_line : (l rest : List ℕ) → IsPhysicalLine l → ends_in_lf l ≡ true → physical_lines (l ++ rest) ≡ l ∷ physical_lines rest
ended_line_is_first_physical_line [] rest is ended = absurd is
ended_line_is_first_physical_line (b ∷ []) rest is ended = lf_is_line_of_its_own b rest ended
ended_line_is_first_physical_line (b ∷ c ∷ bs) rest is ended =
    byte_unlike_lf_joins_first_line b ((c ∷ bs) ++ rest) is.0 ∙ ap (byte_joined_to_first_line b) (ended_line_is_first_physical_line (c ∷ bs) rest is.1 ended)

-- a line is the only one of its text
pub line_is_its_only_physical_line : (l : List ℕ) → IsPhysicalLine l → physical_lines l ≡ l ∷ []
line_is_its_only_physical_line [] is = absurd is
line_is_its_only_physical_line (b ∷ []) is = elim (cases_Bool (b == 10)) [ inl t ↦ lf_is_line_of_its_own b [] t | inr f ↦ byte_unlike_lf_joins_first_line b [] f ]
line_is_its_only_physical_line (b ∷ c ∷ bs) is = byte_unlike_lf_joins_first_line b (c ∷ bs) is.0 ∙ ap (byte_joined_to_first_line b) (line_is_its_only_physical_line (c ∷ bs) is.1)

-- LF before lines is one line more
lf_line_before_lines_keeps_inner_ended : (b : ℕ) (ls : List (List ℕ)) → (b == 10) ≡ true → has_inner_line_without_lf ls ≡ false → has_inner_line_without_lf ((b ∷ []) ∷ ls) ≡ false
lf_line_before_lines_keeps_inner_ended b [] t ended = refl
lf_line_before_lines_keeps_inner_ended b (l ∷ ls) t ended = rw t ended

-- a byte before lines leaves them lines
byte_joined_to_lines_keeps_lines : (b : ℕ) (ls : List (List ℕ)) → (b == 10) ≡ false → ArePhysicalLines ls → ArePhysicalLines (byte_joined_to_first_line b ls)
byte_joined_to_lines_keeps_lines b [] f each = (tt, tt)
byte_joined_to_lines_keeps_lines b ([] ∷ ls) f each = absurd each.0
byte_joined_to_lines_keeps_lines b ((c ∷ cs) ∷ ls) f each = ((f, each.0), each.1)

-- a byte before lines leaves only the last without LF
byte_joined_to_lines_keeps_inner_ended : (b : ℕ) (ls : List (List ℕ)) → ArePhysicalLines ls → has_inner_line_without_lf ls ≡ false → has_inner_line_without_lf (byte_joined_to_first_line b ls) ≡ false
byte_joined_to_lines_keeps_inner_ended b [] each ended = refl
byte_joined_to_lines_keeps_inner_ended b ([] ∷ ls) each ended = absurd each.0
byte_joined_to_lines_keeps_inner_ended b ((c ∷ cs) ∷ []) each ended = refl
byte_joined_to_lines_keeps_inner_ended b ((c ∷ cs) ∷ k ∷ ks) each ended = ended

-- a byte before lines stands before their text
byte_joined_to_lines_begins_their_text : (b : ℕ) (ls : List (List ℕ)) → text_of_joined_lines (byte_joined_to_first_line b ls) ≡ b ∷ text_of_joined_lines ls
byte_joined_to_lines_begins_their_text b [] = refl
byte_joined_to_lines_begins_their_text b (l ∷ ls) = refl

-- what the lines of a text are
pub physical_lines_are_lines_of_text : (text : List ℕ) → ArePhysicalLines (physical_lines text) × (has_inner_line_without_lf (physical_lines text) ≡ false) × (text_of_joined_lines (physical_lines text) ≡ text)
physical_lines_are_lines_of_text [] = (tt, refl, refl)
physical_lines_are_lines_of_text (b ∷ bs) =
    let rest = physical_lines_are_lines_of_text bs in
    elim (cases_Bool (b == 10)) [
      | inl t ↦ rw (lf_is_line_of_its_own b bs t) ((tt, rest.0), lf_line_before_lines_keeps_inner_ended b (physical_lines bs) t rest.1, ap (λ z. b ∷ z) rest.2)
      | inr f ↦ rw (byte_unlike_lf_joins_first_line b bs f) (byte_joined_to_lines_keeps_lines b (physical_lines bs) f rest.0, byte_joined_to_lines_keeps_inner_ended b (physical_lines bs) rest.0 rest.1, byte_joined_to_lines_begins_their_text b (physical_lines bs) ∙ ap (λ z. b ∷ z) rest.2)
    ]

-- a byte before lines of which there is one goes onto them alone
byte_joined_to_appended_goes_to_first : (b : ℕ) (ls ks : List (List ℕ)) → (ls ≡ [] → ⊥) → byte_joined_to_first_line b (ls ++ ks) ≡ byte_joined_to_first_line b ls ++ ks
byte_joined_to_appended_goes_to_first b [] ks some = absurd (some refl)
byte_joined_to_appended_goes_to_first b (l ∷ ls) ks some = refl

-- a text with a byte has a line
nonempty_text_has_physical_line : (c : ℕ) (bs : List ℕ) → physical_lines (c ∷ bs) ≡ [] → ⊥
nonempty_text_has_physical_line c bs e = let same : [] ≡ c ∷ bs = sym (ap text_of_joined_lines e) ∙ (physical_lines_are_lines_of_text (c ∷ bs)).2 in cc

-- the lines of two texts, the first of which ends in LF, stand one behind another
pub ended_text_and_more_have_appended_lines : (a t : List ℕ) → ends_in_lf a ≡ true → physical_lines (a ++ t) ≡ physical_lines a ++ physical_lines t
ended_text_and_more_have_appended_lines [] t ended = absurd (false≢true ended)
ended_text_and_more_have_appended_lines (b ∷ []) t ended = lf_is_line_of_its_own b t ended ∙ sym (ap (λ (ls : List (List ℕ)). ls ++ physical_lines t) (lf_is_line_of_its_own b [] ended))
ended_text_and_more_have_appended_lines (b ∷ c ∷ bs) t ended =
    let rest : physical_lines ((c ∷ bs) ++ t) ≡ physical_lines (c ∷ bs) ++ physical_lines t = ended_text_and_more_have_appended_lines (c ∷ bs) t ended in
    elim (cases_Bool (b == 10)) [
      | inl y ↦ lf_is_line_of_its_own b ((c ∷ bs) ++ t) y ∙ ap (λ (ls : List (List ℕ)). (b ∷ []) ∷ ls) rest
          ∙ sym (ap (λ (ls : List (List ℕ)). ls ++ physical_lines t) (lf_is_line_of_its_own b (c ∷ bs) y))
      | inr n ↦ byte_unlike_lf_joins_first_line b ((c ∷ bs) ++ t) n ∙ ap (byte_joined_to_first_line b) rest
          ∙ byte_joined_to_appended_goes_to_first b (physical_lines (c ∷ bs)) (physical_lines t) (nonempty_text_has_physical_line c bs)
          ∙ sym (ap (λ (ls : List (List ℕ)). ls ++ physical_lines t) (byte_unlike_lf_joins_first_line b (c ∷ bs) n))
    ]

-- A TEXT AND LF

-- without its LF a text is what stood before it
pub lf_added_is_removed_again : (body : List ℕ) → line_without_final_lf (body ++ 10 ∷ []) ≡ body
lf_added_is_removed_again body =
    let size : length (body ++ 10 ∷ []) - 1 ≡ length body = omega (arith, length-append body (10 ∷ [])) in
    rw (text_with_lf_added_ends_in_lf body, size) (take-append_seam body (10 ∷ []))

-- a text that ends in LF is the text without its end, and LF
pub ended_text_is_restored_by_lf : (l : List ℕ) → ends_in_lf l ≡ true → l ≡ line_without_final_lf l ++ 10 ∷ []
ended_text_is_restored_by_lf l h =
    let p = ended_text_is_body_and_lf l h in
    p.1 ∙ ap (λ (z : List ℕ). z ++ 10 ∷ []) (sym (ap line_without_final_lf p.1 ∙ lf_added_is_removed_again p.0))

-- bytes without LF, and LF behind them, are a line
pub text_without_lf_and_lf_are_line : (body : List ℕ) → list_any (λ y. y == 10) body ≡ false → IsPhysicalLine (body ++ 10 ∷ [])
text_without_lf_and_lf_are_line [] h = tt
text_without_lf_and_lf_are_line (b ∷ []) h = ((or_parts (b == 10) false h).0, tt)
text_without_lf_and_lf_are_line (b ∷ c ∷ bs) h = let p = or_parts (b == 10) (list_any (λ y. y == 10) (c ∷ bs)) h in (p.0, text_without_lf_and_lf_are_line (c ∷ bs) p.1)

-- a line that does not end in LF has none
pub unended_line_has_no_lf : (l : List ℕ) → IsPhysicalLine l → ends_in_lf l ≡ false → list_any (λ y. y == 10) l ≡ false
unended_line_has_no_lf [] is h = refl
unended_line_has_no_lf (b ∷ []) is h = rw h refl
unended_line_has_no_lf (b ∷ c ∷ bs) is h = rw is.0 (unended_line_has_no_lf (c ∷ bs) is.1 h)

-- a line without LF is one, and lacks it
pub line_before_final_lf_has_no_lf : (body : List ℕ) → IsPhysicalLine (body ++ 10 ∷ []) → list_any (λ y. y == 10) body ≡ false
line_before_final_lf_has_no_lf [] is = refl
line_before_final_lf_has_no_lf (b ∷ []) is = rw is.0 refl
line_before_final_lf_has_no_lf (b ∷ c ∷ bs) is = rw is.0 (line_before_final_lf_has_no_lf (c ∷ bs) is.1)

-- bytes without LF are a line, if there is one
pub nonempty_text_without_lf_is_line : (b : ℕ) (bs : List ℕ) → list_any (λ y. y == 10) (b ∷ bs) ≡ false → IsPhysicalLine (b ∷ bs)
nonempty_text_without_lf_is_line b [] h = tt
nonempty_text_without_lf_is_line b (c ∷ cs) h = let p = or_parts (b == 10) (list_any (λ y. y == 10) (c ∷ cs)) h in (p.0, nonempty_text_without_lf_is_line c cs p.1)

-- bytes without LF do not end in it
pub text_without_lf_is_unended : (l : List ℕ) → list_any (λ y. y == 10) l ≡ false → ends_in_lf l ≡ false
text_without_lf_is_unended [] h = refl
text_without_lf_is_unended (b ∷ []) h = (or_parts (b == 10) false h).0
text_without_lf_is_unended (b ∷ c ∷ bs) h = text_without_lf_is_unended (c ∷ bs) (or_parts (b == 10) (list_any (λ y. y == 10) (c ∷ bs)) h).1
