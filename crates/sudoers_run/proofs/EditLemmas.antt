-- The line between the script and the policy, and what writes append.
use Rattle.std.proofs.Common.{◌≡◌, ℕ, true, false, List, [], ◌∷◌, ◌++◌, Option, Some, None, refl, ap, ◌∙◌, append_assoc, append-nil}
use Rattle.std.specs.Option.{option_map}
use Rattle.sudoers_text.specs.Line.{join}
use Rattle.sudoers_edit_script.specs.Physical.{physical_lines}
use Rattle.sudoers_run.specs.declared.input_shape.EditInputShape.{EditInputShape}
use Rattle.sudoers_run.specs.declared.input_shape.EditInputShape.TheVariants as shape
use Rattle.sudoers_run.specs.Edit.{is_end_mark_line, is_bundle_header_line, script_shape_and_policy_lines}

-- the parts as texts, if the text `front` stands before them
abbrev pub joined_parts_after_front : List ℕ → List (List ℕ) × EditInputShape × List (List ℕ) → List ℕ × EditInputShape × List ℕ
joined_parts_after_front front parts = (front ++ join parts.0, parts.1, join parts.2)

-- one line more
abbrev parts_with_script_line_before : List ℕ → List (List ℕ) × EditInputShape × List (List ℕ) → List (List ℕ) × EditInputShape × List (List ℕ)
parts_with_script_line_before line parts = (line ∷ parts.0, parts.1, parts.2)

joined_parts_after_line_are_mapped : (front line : List ℕ) (o : Option (List (List ℕ) × EditInputShape × List (List ℕ))) → option_map (joined_parts_after_front (front ++ line)) o ≡ option_map (joined_parts_after_front front) (option_map (parts_with_script_line_before line) o)
joined_parts_after_line_are_mapped front line None = refl
joined_parts_after_line_are_mapped front line (Some p) = ap (λ (z : List ℕ). Some (z, p.1, join p.2)) (append_assoc front line (join p.0))

-- one line more before the policy
pub script_line_is_passed_to_later_split : (front later line : List ℕ) (ls : List (List ℕ)) → later ≡ front ++ line → is_end_mark_line line ≡ false → is_bundle_header_line line ≡ false → option_map (joined_parts_after_front later) (script_shape_and_policy_lines ls) ≡ option_map (joined_parts_after_front front) (script_shape_and_policy_lines (line ∷ ls))
script_line_is_passed_to_later_split front later line ls e h k = rw (e, h, k) (joined_parts_after_line_are_mapped front line (script_shape_and_policy_lines ls))

-- the mark
pub end_mark_line_splits_script_from_text : (front line after : List ℕ) → join (physical_lines after) ≡ after → is_end_mark_line line ≡ true → option_map (joined_parts_after_front front) (script_shape_and_policy_lines (line ∷ physical_lines after)) ≡ Some (front, shape.OneText, after)
end_mark_line_splits_script_from_text front line after rest h =
    let begin : front ++ [] ≡ front = append-nil front in
    rw h (ap (λ (z : List ℕ). Some (z, shape.OneText, join (physical_lines after))) begin ∙ ap (λ (z : List ℕ). Some (front, shape.OneText, z)) rest)

-- a header
pub bundle_header_splits_script_from_bundle : (front line after : List ℕ) → join (physical_lines after) ≡ after → is_end_mark_line line ≡ false → is_bundle_header_line line ≡ true → option_map (joined_parts_after_front front) (script_shape_and_policy_lines (line ∷ physical_lines after)) ≡ Some (front, shape.Bundle, line ++ after)
bundle_header_splits_script_from_bundle front line after rest h k =
    let begin : front ++ [] ≡ front = append-nil front in
    rw (h, k) (ap (λ (z : List ℕ). Some (z, shape.Bundle, line ++ join (physical_lines after))) begin ∙ ap (λ (z : List ℕ). Some (front, shape.Bundle, line ++ z)) rest)
