-- The lines of a text to whose last line LF is put, or from which it is taken.
use Rattle.std.proofs.Common.{◌≡◌, ◌≢◌, inl, inr, ℕ, ◌<◌, ◌≤◌, true, false, List, [], ◌∷◌, ◌++◌, length, refl, sym, ap, subst, ◌∙◌, arith, Ok, append-nil, append_assoc}
use Rattle.std.proofs.lemmas.List.{length-append}
use Rattle.std.proofs.lemmas.Bool.{cases_Bool}
use Rattle.sudoers_text.specs.declared.fault.TextFault.TheVariants.{OpenContinuation}
use Rattle.sudoers_text.specs.Ended.{ends_in_lf, has_inner_line_without_lf}
use Rattle.sudoers_text.specs.Line.{IsLogicalLineBefore, IsUnfinishedLine, join, AreLogicalLines}
use Rattle.sudoers_text.specs.Fault.{line_limit}
use Rattle.sudoers_text.specs.Cut.{cut_outcome_of_text, EachIsOneLineWhenCut}
use Rattle.sudoers_text.proofs.Unique.{logical_line_has_positive_size, logical_line_at_text_start_is_unique, lines_of_text_are_unique}
use Rattle.sudoers_text.proofs.Computed.{every_text_has_logical_lines}
use Rattle.sudoers_text.proofs.Local.{inner_line_is_line_anywhere}
use Rattle.sudoers_text.proofs.Closed.{closed_line_is_line_anywhere, line_before_text_ends_in_lf}
use Rattle.sudoers_text.proofs.Alone.{join_after_line_is_not_empty, text_cut_into_lines_has_faultless_cut, line_cut_to_itself_is_logical_line, line_cut_to_itself_is_faultless, lines_each_cut_alone_are_logical}

-- what is cut off a text that ends in LF ends in it too
suffix_of_lf_line_ends_in_lf : (p s line : List ℕ) → s ≢ [] → p ++ s ≡ line ++ 10 ∷ [] → (r : List ℕ) × (s ≡ r ++ 10 ∷ []) × (p ++ r ≡ line)
suffix_of_lf_line_ends_in_lf [] s line some e = (line, e, refl)
suffix_of_lf_line_ends_in_lf (b ∷ p) [] [] some e = absurd (some refl)
suffix_of_lf_line_ends_in_lf (b ∷ p) (c ∷ s) [] some e = absurd (omega (arith, ap length e, length-append p (c ∷ s)))
suffix_of_lf_line_ends_in_lf (b ∷ p) s (c ∷ line) some e =
    let tail : p ++ s ≡ line ++ 10 ∷ [] = cc in
    let head : b ≡ c = cc in
    let parts = suffix_of_lf_line_ends_in_lf p s line some tail in
    let same : p ++ parts.0 ≡ line = parts.2 in
    (parts.0, parts.1, cc)

lines_joining_to_lf_line_make_line : (line : List ℕ) (ls : List (List ℕ)) → IsLogicalLineBefore line [] → ends_in_lf line ≡ false → AreLogicalLines ls → join ls ≡ line ++ 10 ∷ [] → IsLogicalLineBefore (line ++ 10 ∷ []) []
lines_joining_to_lf_line_make_line line [] x lacks each e = absurd (omega (arith, ap length e, length-append line (10 ∷ [])))
lines_joining_to_lf_line_make_line line (p ∷ []) x lacks each e = subst (λ (t : List ℕ). IsLogicalLineBefore t []) (sym (append-nil p) ∙ e) each.0
lines_joining_to_lf_line_make_line line (p ∷ q ∷ ls) x lacks each e =
    let some : join (q ∷ ls) ≢ [] = join_after_line_is_not_empty q ls each.1.0 in
    let parts = suffix_of_lf_line_ends_in_lf p (join (q ∷ ls)) line some e in
    let same = logical_line_at_text_start_is_unique p parts.0 line [] (inner_line_is_line_anywhere p (join (q ∷ ls)) parts.0 each.0 some) x (parts.2 ∙ sym (append-nil line)) in
    let lf : ends_in_lf p ≡ true = (line_before_text_ends_in_lf p (join (q ∷ ls)) each.0 some).0 in
    let no : true ≡ false = sym lf ∙ ap (λ (t : List ℕ). ends_in_lf t) same.0 ∙ lacks in
    absurd (cc)

-- A line that lacks LF is one with LF behind it.
adding_lf_keeps_logical_line : (line : List ℕ) → IsLogicalLineBefore line [] → ends_in_lf line ≡ false → IsLogicalLineBefore (line ++ 10 ∷ []) []
adding_lf_keeps_logical_line line x lacks =
    let all = every_text_has_logical_lines (line ++ 10 ∷ []) in
    lines_joining_to_lf_line_make_line line all.0 x lacks all.1.each all.1.joined

lines_joining_to_rest_make_line : (line : List ℕ) (ls : List (List ℕ)) → IsLogicalLineBefore (line ++ 10 ∷ []) [] → line ≢ [] → AreLogicalLines ls → join ls ≡ line → IsLogicalLineBefore line []
lines_joining_to_rest_make_line line [] x some each e = absurd (some (sym e))
lines_joining_to_rest_make_line line (p ∷ []) x some each e = subst (λ (t : List ℕ). IsLogicalLineBefore t []) (sym (append-nil p) ∙ e) each.0
lines_joining_to_rest_make_line line (p ∷ q ∷ ls) x some each e =
    let more : List ℕ = join (q ∷ ls) ++ 10 ∷ [] in
    let whole : p ++ more ≡ (line ++ 10 ∷ []) ++ [] =
    sym (append_assoc p (join (q ∷ ls)) (10 ∷ [])) ∙ ap (λ (t : List ℕ). t ++ 10 ∷ []) e ∙ sym (append-nil (line ++ 10 ∷ [])) in
    let same = logical_line_at_text_start_is_unique p more (line ++ 10 ∷ []) [] (inner_line_is_line_anywhere p (join (q ∷ ls)) more each.0 (join_after_line_is_not_empty q ls each.1.0)) x whole in
    absurd (omega (arith, ap length same.1, length-append (join (q ∷ ls)) (10 ∷ [])))

-- A line with LF, of which more is left, is one without it.
removing_lf_keeps_logical_line : (line : List ℕ) → IsLogicalLineBefore (line ++ 10 ∷ []) [] → line ≢ [] → IsLogicalLineBefore line []
removing_lf_keeps_logical_line line x some =
    let all = every_text_has_logical_lines line in
    lines_joining_to_rest_make_line line all.0 x some all.1.each all.1.joined

last_of_logical_lines_is_logical_line : (front : List (List ℕ)) (last : List ℕ) → AreLogicalLines (front ++ last ∷ []) → IsLogicalLineBefore last []
last_of_logical_lines_is_logical_line [] last each = each.0
last_of_logical_lines_is_logical_line (line ∷ front) last each = last_of_logical_lines_is_logical_line front last each.1

join_with_last_line_is_not_empty : (front : List (List ℕ)) (last : List ℕ) → AreLogicalLines (front ++ last ∷ []) → join (front ++ last ∷ []) ≢ []
join_with_last_line_is_not_empty [] last each = join_after_line_is_not_empty last [] each.0
join_with_last_line_is_not_empty (line ∷ front) last each = join_after_line_is_not_empty line (front ++ last ∷ []) each.0

-- with another last line the lines before it are lines too
logical_lines_keep_with_other_last_line : (front : List (List ℕ)) (last other : List ℕ) → AreLogicalLines (front ++ last ∷ []) → IsLogicalLineBefore other [] → AreLogicalLines (front ++ other ∷ [])
logical_lines_keep_with_other_last_line [] last other each x = (x, tt)
logical_lines_keep_with_other_last_line (line ∷ front) last other each x = (
  inner_line_is_line_anywhere line (join (front ++ last ∷ [])) (join (front ++ other ∷ [])) each.0 (join_with_last_line_is_not_empty front last each.1),
  logical_lines_keep_with_other_last_line front last other each.1 x,
)

pub line_cut_to_itself_is_within_limit : (line : List ℕ) → cut_outcome_of_text line ≡ Ok (line ∷ []) → (0 < length line) × (length line ≤ line_limit)
line_cut_to_itself_is_within_limit line is = (logical_line_has_positive_size line [] (line_cut_to_itself_is_logical_line line is), (line_cut_to_itself_is_faultless line is).short)

pub adding_last_lf_keeps_cut_lines : (front : List (List ℕ)) (last : List ℕ) (lines : List (List ℕ)) → EachIsOneLineWhenCut (front ++ last ∷ [])
    → has_inner_line_without_lf (front ++ last ∷ []) ≡ false → ends_in_lf last ≡ false
    → cut_outcome_of_text (join (front ++ (last ++ 10 ∷ []) ∷ [])) ≡ Ok lines → lines ≡ front ++ (last ++ 10 ∷ []) ∷ []
adding_last_lf_keeps_cut_lines front last lines alone ended lacks is =
    let new : List (List ℕ) = front ++ (last ++ 10 ∷ []) ∷ [] in
    let each = lines_each_cut_alone_are_logical (front ++ last ∷ []) alone ended in
    let with_lf : IsLogicalLineBefore (last ++ 10 ∷ []) [] = adding_lf_keeps_logical_line last (last_of_logical_lines_is_logical_line front last each) lacks in
    lines_of_text_are_unique (join new) lines new (text_cut_into_lines_has_faultless_cut (join new) lines is).cuts (record { joined = refl; each = logical_lines_keep_with_other_last_line front last (last ++ 10 ∷ []) each with_lf })

-- A line that ends in LF and is not open is no line with one LF more.
line_extended_by_lf_lacks_lf : (line : List ℕ) → IsLogicalLineBefore (line ++ 10 ∷ []) [] → IsLogicalLineBefore line [] → (IsUnfinishedLine line → ⊥) → ends_in_lf line ≡ false
line_extended_by_lf_lacks_lf line x y closed =
    elim (cases_Bool (ends_in_lf line)) [
      | inl lf ↦
          let same = logical_line_at_text_start_is_unique line (10 ∷ []) (line ++ 10 ∷ []) [] (closed_line_is_line_anywhere line (10 ∷ []) y lf closed) x (sym (append-nil (line ++ 10 ∷ []))) in
          absurd (omega (arith, ap length same.1))
      | inr lacks ↦ lacks
    ]

pub removing_last_lf_keeps_cut_lines : (front : List (List ℕ)) (last : List ℕ) (lines : List (List ℕ)) → EachIsOneLineWhenCut (front ++ (last ++ 10 ∷ []) ∷ [])
    → has_inner_line_without_lf (front ++ (last ++ 10 ∷ []) ∷ []) ≡ false → last ≢ []
    → cut_outcome_of_text (join (front ++ last ∷ [])) ≡ Ok lines → (lines ≡ front ++ last ∷ []) × (ends_in_lf last ≡ false)
removing_last_lf_keeps_cut_lines front last lines alone ended some is =
    let new : List (List ℕ) = front ++ last ∷ [] in
    let each = lines_each_cut_alone_are_logical (front ++ (last ++ 10 ∷ []) ∷ []) alone ended in
    let old : IsLogicalLineBefore (last ++ 10 ∷ []) [] = last_of_logical_lines_is_logical_line front (last ++ 10 ∷ []) each in
    let without_lf : IsLogicalLineBefore last [] = removing_lf_keeps_logical_line last old some in
    let whole = text_cut_into_lines_has_faultless_cut (join new) lines is in
    let same : lines ≡ new = lines_of_text_are_unique (join new) lines new whole.cuts (record { joined = refl; each = logical_lines_keep_with_other_last_line front (last ++ 10 ∷ []) last each without_lf }) in
    let closed : IsUnfinishedLine last → ⊥ = λ unfinished. whole.sound OpenContinuation (length (join lines)) (refl, record { before = front; last = last; place = same; unfinished = unfinished }) in
    (same, line_extended_by_lf_lacks_lf last old without_lf closed)
