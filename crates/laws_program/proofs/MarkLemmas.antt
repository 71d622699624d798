-- The policy of a text that was written stands behind its script.
use Rattle.laws_program.proofs.Common.{◌≡◌, ◌≢◌, ◌∙◌, ℕ, Bool, true, false, ◌==◌, ◌&&◌, List, [], ◌∷◌, ◌++◌, slice_index, Option, Some, None, refl, sym, ap, ap₂, append_assoc, AllByRecursion, join, bytes_eq, codes, list_any, if◌then◌else◌}
use Rattle.laws_program.proofs.Common.{physical_lines, script_shape_and_policy_text}
use Rattle.std.proofs.Common.{length, length-append, subst, ne_eqb, take, ◌<◌, ◌^◌, arith}
use Rattle.std.proofs.lemmas.Bool.{or_parts}
use Rattle.std.proofs.lemmas.Slice.Eq.{bytes_eq-Decides}
use Rattle.std.specs.Fmt.{decimal}
use Rattle.std.specs.Option.{option_map}
use Rattle.std.specs.Prelude.{◌≤◌}
use Rattle.sudoers_text.specs.Ended.{ends_in_lf}
use Rattle.sudoers_tree.specs.declared.named_files.NamedFile.{NamedFile}
use Rattle.sudoers_bundle.specs.Bundle.{FitsInBundle, bundle_of_files, header_of_file}
use Rattle.sudoers_bundle.proofs.NumberLemmas.{decimal_lacks_byte_below_digits}
use Rattle.sudoers_bundle.proofs.PartLemmas.{appended_texts_lack_missing_byte}
use Rattle.sudoers_edit_script.specs.Physical.{byte_joined_to_first_line}
use Rattle.sudoers_run.specs.Edit.{is_bundle_header_line, is_end_mark_line, script_shape_and_policy_lines}
use Rattle.sudoers_run.specs.declared.input_shape.EditInputShape.{EditInputShape}
use Rattle.sudoers_run.specs.declared.input_shape.EditInputShape.TheVariants as shape

abbrev pub IsLineWithoutLeadingPercent : List ℕ → Type 0
IsLineWithoutLeadingPercent line = slice_index line 0 ≢ 37

-- a line that does not begin with `%` is no mark, and no header
line_without_percent_is_no_end_mark : (line : List ℕ) → IsLineWithoutLeadingPercent line → is_end_mark_line line ≡ false
line_without_percent_is_no_end_mark [] plain = refl
line_without_percent_is_no_end_mark (a ∷ []) plain = refl
line_without_percent_is_no_end_mark (a ∷ b ∷ []) plain = refl
line_without_percent_is_no_end_mark (a ∷ b ∷ c ∷ []) plain = let other : (a == 37) ≡ false = ne_eqb a 37 plain in rw other refl
line_without_percent_is_no_end_mark (a ∷ b ∷ c ∷ d ∷ line) plain = refl

conjunction_with_false_is_false : (a b : Bool) → a ≡ false → (a && b) ≡ false
conjunction_with_false_is_false true b is = absurd cc
conjunction_with_false_is_false false b is = refl

line_without_percent_has_no_header_start : (line : List ℕ) → IsLineWithoutLeadingPercent line → take 3 line ≡ codes "%% " → ⊥
line_without_percent_has_no_header_start [] plain is = absurd cc
line_without_percent_has_no_header_start (a ∷ line) plain is = plain (ap (λ (l : List ℕ). slice_index l 0) is)

line_without_percent_is_no_bundle_header : (line : List ℕ) → IsLineWithoutLeadingPercent line → is_bundle_header_line line ≡ false
line_without_percent_is_no_bundle_header line plain = conjunction_with_false_is_false (bytes_eq (take 3 line) (codes "%% ")) (ends_in_lf line) (by (bytes_eq (take 3 line) (codes "%% ")) refl)
  where
    by : (b : Bool) → bytes_eq (take 3 line) (codes "%% ") ≡ b → b ≡ false
    by true is = absurd (line_without_percent_has_no_header_start line plain ((bytes_eq-Decides (take 3 line) (codes "%% ")).0 is))
    by false is = refl

abbrev ScriptLinesShapeAndPolicyLines : Type 0
ScriptLinesShapeAndPolicyLines = List (List ℕ) × EditInputShape × List (List ℕ)

-- the lines that split is told of behind lines that are neither
lines_without_percent_join_script_lines : (ls rest : List (List ℕ)) (told : EditInputShape) (ks : List (List ℕ)) → AllByRecursion IsLineWithoutLeadingPercent ls → script_shape_and_policy_lines rest ≡ Some ([], told, ks)
    → script_shape_and_policy_lines (ls ++ rest) ≡ Some (ls, told, ks)
lines_without_percent_join_script_lines [] rest told ks plain is = is
lines_without_percent_join_script_lines (l ∷ ls) rest told ks plain is =
    rw (line_without_percent_is_no_end_mark l plain.0, line_without_percent_is_no_bundle_header l plain.0)
    (ap (option_map {U = ScriptLinesShapeAndPolicyLines} (λ (parts : ScriptLinesShapeAndPolicyLines). (l ∷ parts.0, parts.1, parts.2))) (lines_without_percent_join_script_lines ls rest told ks plain.1 is))

-- what follows a script that is lines of its own
script_lines_are_split_from_policy : ((text : List ℕ) → join (physical_lines text) ≡ text) → (script rest policy : List ℕ) (told : EditInputShape) (ks : List (List ℕ))
    → ((rest : List ℕ) → physical_lines (script ++ rest) ≡ physical_lines script ++ physical_lines rest)
    → AllByRecursion IsLineWithoutLeadingPercent (physical_lines script) → script_shape_and_policy_lines (physical_lines rest) ≡ Some ([], told, ks) → join ks ≡ policy
    → script_shape_and_policy_text (script ++ rest) ≡ Some (script, told, policy)
script_lines_are_split_from_policy pieces script rest policy told ks before plain is whole =
    let cut : script_shape_and_policy_lines (physical_lines (script ++ rest)) ≡ Some (physical_lines script, told, ks) =
    ap script_shape_and_policy_lines (before rest) ∙ lines_without_percent_join_script_lines (physical_lines script) (physical_lines rest) told ks plain is in
    ap (option_map {U = List ℕ × EditInputShape × List ℕ} (λ (parts : ScriptLinesShapeAndPolicyLines). (join parts.0, parts.1, join parts.2))) cut
    ∙ ap₂ (λ (x y : List ℕ). Some (x, told, y)) (pieces script) whole

-- the mark behind it
pub script_is_split_at_end_mark : ((text : List ℕ) → join (physical_lines text) ≡ text) → (script policy : List ℕ)
    → ((rest : List ℕ) → physical_lines (script ++ rest) ≡ physical_lines script ++ physical_lines rest)
    → AllByRecursion IsLineWithoutLeadingPercent (physical_lines script) → script_shape_and_policy_text (script ++ 37 ∷ 37 ∷ 10 ∷ policy) ≡ Some (script, shape.OneText, policy)
script_is_split_at_end_mark pieces script policy before plain =
    script_lines_are_split_from_policy pieces script (37 ∷ 37 ∷ 10 ∷ policy) policy shape.OneText (physical_lines policy) before plain refl (pieces policy)

-- HEADERS

-- a line without LF, and one behind it
pub text_to_lf_is_first_line : (front rest : List ℕ) → list_any (λ b. b == 10) front ≡ false → physical_lines (front ++ 10 ∷ rest) ≡ (front ++ 10 ∷ []) ∷ physical_lines rest
text_to_lf_is_first_line [] rest lacks = refl
text_to_lf_is_first_line (b ∷ front) rest lacks =
    let both = or_parts (b == 10) (list_any (λ c. c == 10) front) lacks in
    rw both.0 (ap (byte_joined_to_first_line b) (text_to_lf_is_first_line front rest both.1))

line_with_lf_ends_in_lf : (front : List ℕ) → ends_in_lf (front ++ 10 ∷ []) ≡ true
line_with_lf_ends_in_lf [] = refl
line_with_lf_ends_in_lf (b ∷ []) = refl
line_with_lf_ends_in_lf (b ∷ c ∷ front) = line_with_lf_ends_in_lf (c ∷ front)

percents_with_space_are_no_mark : (rest : List ℕ) → is_end_mark_line (37 ∷ 37 ∷ 32 ∷ rest) ≡ false
percents_with_space_are_no_mark [] = refl
percents_with_space_are_no_mark (b ∷ rest) = refl

-- a bundle behind it
pub script_is_split_at_bundle : ((text : List ℕ) → join (physical_lines text) ≡ text) → (script : List ℕ) (file : NamedFile) (files : List NamedFile) → FitsInBundle file
    → ((rest : List ℕ) → physical_lines (script ++ rest) ≡ physical_lines script ++ physical_lines rest)
    → AllByRecursion IsLineWithoutLeadingPercent (physical_lines script) → script_shape_and_policy_text (script ++ bundle_of_files (file ∷ files)) ≡ Some (script, shape.Bundle, bundle_of_files (file ∷ files))
script_is_split_at_bundle pieces script file files held before plain =
    script_lines_are_split_from_policy pieces script (bundle_of_files (file ∷ files)) (bundle_of_files (file ∷ files)) shape.Bundle (physical_lines (bundle_of_files (file ∷ files))) before plain
    (ap script_shape_and_policy_lines lines ∙ told ∙ ap (λ (ks : List (List ℕ)). Some ([], shape.Bundle, ks)) (sym lines)) (pieces (bundle_of_files (file ∷ files)))
  where
    n : ℕ
    n = length file.bytes

    behind : List ℕ
    behind = decimal n ++ 32 ∷ file.name

    small : n < 2 ^ 64
    small = omega (arith, held.short)

    front : List ℕ
    front = codes "%% " ++ behind

    lacks : list_any (λ b. b == 10) front ≡ false
    lacks = appended_texts_lack_missing_byte 10 (decimal n) (32 ∷ file.name) (decimal_lacks_byte_below_digits 10 n (omega arith) small) held.line

    whole : bundle_of_files (file ∷ files) ≡ front ++ 10 ∷ (file.bytes ++ bundle_of_files files)
    whole =
        append_assoc (header_of_file file) file.bytes (bundle_of_files files)
        ∙ ap (λ (t : List ℕ). codes "%% " ++ t)
        (append_assoc (decimal n) (32 ∷ (file.name ++ 10 ∷ [])) (file.bytes ++ bundle_of_files files)
        ∙ ap (λ (t : List ℕ). decimal n ++ 32 ∷ t) (append_assoc file.name (10 ∷ []) (file.bytes ++ bundle_of_files files))
        ∙ sym (append_assoc (decimal n) (32 ∷ file.name) (10 ∷ (file.bytes ++ bundle_of_files files))))

    lines : physical_lines (bundle_of_files (file ∷ files)) ≡ (front ++ 10 ∷ []) ∷ physical_lines (file.bytes ++ bundle_of_files files)
    lines = ap physical_lines whole ∙ text_to_lf_is_first_line front (file.bytes ++ bundle_of_files files) lacks

    told : script_shape_and_policy_lines ((front ++ 10 ∷ []) ∷ physical_lines (file.bytes ++ bundle_of_files files))
        ≡ Some ([], shape.Bundle, (front ++ 10 ∷ []) ∷ physical_lines (file.bytes ++ bundle_of_files files))
    told = rw (percents_with_space_are_no_mark (behind ++ 10 ∷ []), line_with_lf_ends_in_lf front) refl

-- WHAT IS TOLD OF AN INPUT

bundle_header_line_is_not_empty : (line : List ℕ) → is_bundle_header_line line ≡ true → line ≢ []
bundle_header_line_is_not_empty [] is none = absurd cc
bundle_header_line_is_not_empty (b ∷ line) is none = absurd cc

join_with_nonempty_line_is_not_empty : (line : List ℕ) (ls : List (List ℕ)) → line ≢ [] → join (line ∷ ls) ≢ []
join_with_nonempty_line_is_not_empty [] ls some none = some refl
join_with_nonempty_line_is_not_empty (b ∷ line) ls some none = absurd cc

-- what equal parts have in common
equal_triples_have_equal_later_parts : {A B C : Type 0} → (x y : A × B × C) → Some x ≡ Some y → (x.1 ≡ y.1) × (x.2 ≡ y.2)
equal_triples_have_equal_later_parts x y e = let same : x ≡ y = cc in (ap (λ z. z.1) same, ap (λ z. z.2) same)

-- what is said of the policy that lines are told of
abbrev IsPolicyOfSplitLines : EditInputShape → List (List ℕ) → List (List ℕ) → Type 0
IsPolicyOfSplitLines told ks ls = (told ≡ shape.Bundle → join ks ≢ []) × (length (join ks) ≤ length (join ls))

preceding_line_keeps_split_policy : (l : List ℕ) (ls front ks : List (List ℕ)) (told : EditInputShape) (p : ScriptLinesShapeAndPolicyLines) → IsPolicyOfSplitLines p.1 p.2 ls
    → (let some : Option ScriptLinesShapeAndPolicyLines = Some (l ∷ p.0, p.1, p.2) in some) ≡ Some (front, told, ks) → IsPolicyOfSplitLines told ks (l ∷ ls)
preceding_line_keeps_split_policy l ls front ks told p both e =
    let same = equal_triples_have_equal_later_parts (l ∷ p.0, p.1, p.2) (front, told, ks) e in (
      λ bundled none. both.0 (same.0 ∙ bundled) (ap join same.1 ∙ none),
      subst (λ (z : List (List ℕ)). length (join z) ≤ length (join (l ∷ ls))) same.1 (omega (arith, both.1, length-append l (join ls))),
    )

-- lines that are told of as a bundle are not empty, and no lines are more than all
split_lines_have_bounded_policy : (ls front ks : List (List ℕ)) (told : EditInputShape) → script_shape_and_policy_lines ls ≡ Some (front, told, ks) → IsPolicyOfSplitLines told ks ls
split_lines_have_bounded_policy [] front ks told e = absurd cc
split_lines_have_bounded_policy (l ∷ ls) front ks told e = by (is_end_mark_line l) (is_bundle_header_line l) refl (λ f k t r. split_lines_have_bounded_policy ls f k t r) e
  where
    more : (o : Option ScriptLinesShapeAndPolicyLines) → script_shape_and_policy_lines ls ≡ o → ((f k : List (List ℕ)) (t : EditInputShape) → script_shape_and_policy_lines ls ≡ Some (f, t, k) → IsPolicyOfSplitLines t k ls)
        → option_map {U = ScriptLinesShapeAndPolicyLines} (λ (parts : ScriptLinesShapeAndPolicyLines). (l ∷ parts.0, parts.1, parts.2)) o ≡ Some (front, told, ks) → IsPolicyOfSplitLines told ks (l ∷ ls)
    more None is rest e = absurd cc
    more (Some p) is rest e = preceding_line_keeps_split_policy l ls front ks told p (rest p.0 p.2 p.1 is) e

    by : (m h : Bool) → is_bundle_header_line l ≡ h → ((f k : List (List ℕ)) (t : EditInputShape) → script_shape_and_policy_lines ls ≡ Some (f, t, k) → IsPolicyOfSplitLines t k ls)
        → (if m then Some ([], shape.OneText, ls) else (if h then Some ([], shape.Bundle, l ∷ ls) else option_map {U = ScriptLinesShapeAndPolicyLines} (λ (parts : ScriptLinesShapeAndPolicyLines). (l ∷ parts.0, parts.1, parts.2)) (script_shape_and_policy_lines ls))) ≡ Some (front, told, ks)
        → IsPolicyOfSplitLines told ks (l ∷ ls)
    by true h is rest e =
        let same = equal_triples_have_equal_later_parts ([], shape.OneText, ls) (front, told, ks) e in (
          λ bundled none. absurd (let no : shape.OneText ≡ shape.Bundle = same.0 ∙ bundled in cc),
          subst (λ (z : List (List ℕ)). length (join z) ≤ length (join (l ∷ ls))) same.1 (omega (arith, length-append l (join ls))),
        )
    by false true is rest e =
        let same = equal_triples_have_equal_later_parts ([], shape.Bundle, l ∷ ls) (front, told, ks) e in (
          λ bundled none. join_with_nonempty_line_is_not_empty l ls (bundle_header_line_is_not_empty l is) (ap join same.1 ∙ none),
          subst (λ (z : List (List ℕ)). length (join z) ≤ length (join (l ∷ ls))) same.1 (omega arith),
        )
    by false false is rest e = more (script_shape_and_policy_lines ls) refl rest e

-- a policy that is told of as a bundle is not empty, and no policy is longer than the input
pub split_policy_text_is_bounded : ((text : List ℕ) → join (physical_lines text) ≡ text) → (input script text : List ℕ) (form : EditInputShape) → script_shape_and_policy_text input ≡ Some (script, form, text)
    → (form ≡ shape.Bundle → text ≢ []) × (length text ≤ length input)
split_policy_text_is_bounded pieces input script text form e = by (script_shape_and_policy_lines (physical_lines input)) refl e
  where
    by : (o : Option ScriptLinesShapeAndPolicyLines) → script_shape_and_policy_lines (physical_lines input) ≡ o
        → option_map {U = List ℕ × EditInputShape × List ℕ} (λ (parts : ScriptLinesShapeAndPolicyLines). (join parts.0, parts.1, join parts.2)) o ≡ Some (script, form, text)
        → (form ≡ shape.Bundle → text ≢ []) × (length text ≤ length input)
    by None is e = absurd cc
    by (Some p) is e =
        let same = equal_triples_have_equal_later_parts (join p.0, p.1, join p.2) (script, form, text) e in
        let both = split_lines_have_bounded_policy (physical_lines input) p.0 p.2 p.1 is in (
          λ bundled none. both.0 (same.0 ∙ bundled) (same.1 ∙ none),
          subst (λ (z : List ℕ). length z ≤ length input) same.1 (subst (λ (z : List ℕ). length (join p.2) ≤ length z) (pieces input) both.1),
        )
