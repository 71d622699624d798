use Rattle.std.proofs.Common.{◌≡◌, ◌∷◌, ◌++◌, ◌+◌, ◌-◌, ◌≤◌, ℕ, List, ap, ◌∙◌, sym, arith, length, drop, take, Some}
use Rattle.std.proofs.lemmas.List.{take_rest, drop-drop, length-drop, take-append-drop}
use Rattle.std.proofs.Math.Seq.{take-add}
use Rattle.std.specs.Option.{option_map}
use Rattle.sudoers_run.specs.declared.input_shape.EditInputShape.TheVariants as shape
use Rattle.sudoers_edit_script.specs.Physical.{physical_lines}
use Rattle.sudoers_edit_script.proofs.FrontLemmas.{physical_lines_join_to_text}
use Rattle.sudoers_run.specs.Edit.{script_shape_and_policy_lines}
use Rattle.sudoers_run.proofs.EditLemmas.{joined_parts_after_front, script_line_is_passed_to_later_split, end_mark_line_splits_script_from_text, bundle_header_splits_script_from_bundle}
use Rattle.sudoers_run.proofs.edit.split_script_shape_and_policy.Goals as goal

pub returns-then-is_script_end_mark : goal.returns-then-is_script_end_mark
returns-then-is_script_end_mark c =
    let input : List ℕ = c.args.input.now in
    let at : ℕ = c.loop-at.at in
    let line : List ℕ = c.split_at.result.0.now in
    let after : List ℕ = c.split_at.result.1.now in
    let tail : take (length input - at) (drop at input) ≡ drop at input = take_rest input at in
    let cut : physical_lines (drop at input) ≡ line ∷ physical_lines after = ap physical_lines (sym tail) ∙ c.first_physical_line_len.ensures.first ∙ ap (λ (z : List ℕ). z ∷ physical_lines (drop c.first_physical_line_len.result (take (length input - at) (drop at input)))) (sym c.split_at.ensures.front) ∙ ap (λ (z : List ℕ). line ∷ physical_lines z) (sym c.split_at.ensures.back) in
    sym (end_mark_line_splits_script_from_text (take at input) line after (physical_lines_join_to_text after) (sym c.if-is_script_end_mark.ensures))
    ∙ ap (λ ls. option_map (joined_parts_after_front (take at input)) (script_shape_and_policy_lines ls)) (sym cut)
    ∙ c.loop-at.invariant.1

pub returns-then-is_bundle_header : goal.returns-then-is_bundle_header
returns-then-is_bundle_header c =
    let input : List ℕ = c.args.input.now in
    let at : ℕ = c.loop-at.at in
    let line : List ℕ = c.split_at.result.0.now in
    let after : List ℕ = c.split_at.result.1.now in
    let n : ℕ = c.first_physical_line_len.result in
    let tail : take (length input - at) (drop at input) ≡ drop at input = take_rest input at in
    let cut : physical_lines (drop at input) ≡ line ∷ physical_lines after = ap physical_lines (sym tail) ∙ c.first_physical_line_len.ensures.first ∙ ap (λ (z : List ℕ). z ∷ physical_lines (drop n (take (length input - at) (drop at input)))) (sym c.split_at.ensures.front) ∙ ap (λ (z : List ℕ). line ∷ physical_lines z) (sym c.split_at.ensures.back) in
    let whole : line ++ after ≡ take (length input - at) (drop at input) =
    ap (λ (z : List ℕ). z ++ after) c.split_at.ensures.front ∙ ap (λ (z : List ℕ). take n (take (length input - at) (drop at input)) ++ z) c.split_at.ensures.back ∙ take-append-drop n (take (length input - at) (drop at input)) in
    sym (bundle_header_splits_script_from_bundle (take at input) line after (physical_lines_join_to_text after) (sym c.if-is_script_end_mark.ensures) (sym c.if-is_bundle_header.ensures)
    ∙ ap (λ (z : List ℕ). Some (take at input, shape.Bundle, z)) whole)
    ∙ ap (λ ls. option_map (joined_parts_after_front (take at input)) (script_shape_and_policy_lines ls)) (sym cut)
    ∙ c.loop-at.invariant.1

pub loop-at-preserved : goal.loop-at-preserved
loop-at-preserved c =
    let input : List ℕ = c.args.input.now in
    let at : ℕ = c.loop-at.at in
    let line : List ℕ = c.split_at.result.0.now in
    let after : List ℕ = c.split_at.result.1.now in
    let n : ℕ = c.first_physical_line_len.result in
    let tail : take (length input - at) (drop at input) ≡ drop at input = take_rest input at in
    let cut : physical_lines (drop at input) ≡ line ∷ physical_lines after = ap physical_lines (sym tail) ∙ c.first_physical_line_len.ensures.first ∙ ap (λ (z : List ℕ). z ∷ physical_lines (drop n (take (length input - at) (drop at input)))) (sym c.split_at.ensures.front) ∙ ap (λ (z : List ℕ). line ∷ physical_lines z) (sym c.split_at.ensures.back) in
    let line_is : line ≡ take n (drop at input) = c.split_at.ensures.front ∙ ap (take n) tail in
    let long : length line ≡ n = c.split_at.ensures.front_len in
    let later : take (at + length line) input ≡ take at input ++ line = ap (λ k. take (at + k) input) long ∙ take-add at n input ∙ ap (λ (z : List ℕ). take at input ++ z) (sym line_is) in
    let left : drop (at + length line) input ≡ after = sym (drop-drop (length line) at input) ∙ ap (λ k. drop k (drop at input)) long ∙ ap (drop n) (sym tail) ∙ sym c.split_at.ensures.back in
    let within : at + length line ≤ length input = omega (arith, ap length tail, length-drop at input, c.first_physical_line_len.ensures.within, c.loop-at.invariant.0) in (
      within,
      ap (λ (z : List ℕ). option_map (joined_parts_after_front (take (at + length line) input)) (script_shape_and_policy_lines (physical_lines z))) left
          ∙ script_line_is_passed_to_later_split (take at input) (take (at + length line) input) line (physical_lines after) later (sym c.if-is_script_end_mark.ensures) (sym c.if-is_bundle_header.ensures)
          ∙ ap (λ ls. option_map (joined_parts_after_front (take at input)) (script_shape_and_policy_lines ls)) (sym cut)
          ∙ c.loop-at.invariant.1,
    )
