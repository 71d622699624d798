use Rattle.std.proofs.Common.{◌∙◌, map, ap}
use Rattle.std.specs.Ordering.{nat_cmp}
use Rattle.std.specs.Cmp.Lexicographic.{slice_cmp}
use Rattle.std.specs.BTreeSet.{insert_key}
use Rattle.sudoers_files.proofs.Ordered.{bytes_of_name, bytes_of_inserted_name_are_inserted}
use Rattle.sudoers_files.proofs.sorted_names_in_folder.insert_name_in_order.Goals as goal

pub returns : goal.returns
returns c =
    let old = map bytes_of_name c.args.order.now.keys in
    ap (map bytes_of_name) c.in_ok-insert.ensures.keys ∙ bytes_of_inserted_name_are_inserted c.args.order.now.keys c.in_ok-from_slice.field-0
    ∙ ap (insert_key (slice_cmp nat_cmp) old) c.in_ok-from_slice.ensures.items
