use Rattle.std.proofs.Common.{◌≡◌, ◌∙◌, ◌+◌, ◌<◌, drop, length, take, Some, true, sym, ap, rules}
use Rattle.std.specs.Str.{bytes_eq}
use Rattle.sudoers_text.specs.Fault.{text_limit}
use Rattle.sudoers_files.specs.Shelf.{named_file_bytes_truncated_past_limit}
use Rattle.sudoers_files.proofs.Fronts.{limited_bytes_are_those_of_first_named_file, taking_at_most_length_is_taking}
use Rattle.sudoers_files.proofs.Visited.{drop_is_item_and_later_drop}
use Rattle.sudoers_files.proofs.files_in_memory.find_file_bytes_truncated_past_limit.Goals as goal

pub returns-then-eq : goal.returns-then-eq
returns-then-eq c =
    let file = c.file-item.result in
    let files = c.args.files.now in
    let name = c.args.name.now in
    let rest = drop (c.loop-file.file-index + 1) files in
    let less : c.loop-file.file-index < length files = search rules in
    let same : bytes_eq name file.name ≡ true = ap (bytes_eq name) (sym c.as_slice.ensures) ∙ sym c.if-eq.ensures in
    sym c.loop-file.invariant ∙ ap (named_file_bytes_truncated_past_limit name) (drop_is_item_and_later_drop files c.loop-file.file-index file less c.file-item.is) ∙ limited_bytes_are_those_of_first_named_file name file rest same
    ∙ ap (λ front. Some front)
    (ap (take (text_limit + 1)) (sym c.as_slice-bytes.ensures) ∙ sym (taking_at_most_length_is_taking c.as_slice-bytes.result.now (text_limit + 1))
    ∙ ap (λ n. take n c.as_slice-bytes.result.now) (sym c.min.ensures))
