use Rattle.sudoers_tree.proofs.Common.{List, Some, ap, drop, false, file_inserted_in_name_order, is_file_name_before, length, parsed_files_of_view, rules, slice_get, slice_get-get_or, sym, take, true, ℕ, ◌++◌, ◌<◌}
use Rattle.sudoers_tree.proofs.Common.{◌∙◌, ◌≡◌}
use Rattle.sudoers_tree.proofs.Numbered.{file_is_inserted_last_at_end, file_is_inserted_before_later_file, file_is_inserted_after_file_not_later}
use Rattle.sudoers_tree.proofs.include_targets.insert_file_by_name.Goals as goal

pub loop-at-preserved : goal.loop-at-preserved
loop-at-preserved c =
    let files = parsed_files_of_view c.args.files.now in
    let order : List ℕ = c.loop-at.order.items in
    let f : ℕ = c.args.file in
    let n : ℕ = c.loop-at.at in
    let g : ℕ = c.index.result.now in
    let less : n < length order = search rules in
    let at : slice_get order n ≡ Some g = slice_get-get_or order n g less ∙ ap (λ (k : ℕ). Some k) (sym c.index.ensures) in
    let off : is_file_name_before files f g ≡ false = sym c.has_file_name_before.ensures ∙ c.if-has_file_name_before.false in
    let so_far : take n order ++ file_inserted_in_name_order files f (drop n order) ≡ file_inserted_in_name_order files f c.args.order.now.items = c.loop-at.invariant.1 in
    (c.loop-at.invariant.0, sym (file_is_inserted_after_file_not_later files f order n g at off) ∙ so_far)

pub returns-then-has_file_name_before : goal.returns-then-has_file_name_before
returns-then-has_file_name_before c =
    let files = parsed_files_of_view c.args.files.now in
    let order : List ℕ = c.loop-at.order.items in
    let f : ℕ = c.args.file in
    let n : ℕ = c.loop-at.at in
    let g : ℕ = c.index.result.now in
    let less : n < length order = search rules in
    let at : slice_get order n ≡ Some g = slice_get-get_or order n g less ∙ ap (λ (k : ℕ). Some k) (sym c.index.ensures) in
    let on : is_file_name_before files f g ≡ true = sym c.has_file_name_before.ensures ∙ c.if-has_file_name_before.true in
    let so_far : take n order ++ file_inserted_in_name_order files f (drop n order) ≡ file_inserted_in_name_order files f c.args.order.now.items = c.loop-at.invariant.1 in
    c.in_ok-insert.ensures.items ∙ sym (file_is_inserted_before_later_file files f order n g at on) ∙ so_far

pub returns : goal.returns
returns c =
    let files = parsed_files_of_view c.args.files.now in
    let order : List ℕ = c.loop-at.order.items in
    let f : ℕ = c.args.file in
    let n : ℕ = c.loop-at.at in
    let all : n ≡ length order = search rules in
    let so_far : take n order ++ file_inserted_in_name_order files f (drop n order) ≡ file_inserted_in_name_order files f c.args.order.now.items = c.loop-at.invariant.1 in
    c.in_ok-push.ensures.items ∙ sym (file_is_inserted_last_at_end files f order)
    ∙ ap (λ k. take k order ++ file_inserted_in_name_order files f (drop k order)) (sym all) ∙ so_far
