use Rattle.std.proofs.Common.{map}
use Rattle.sudoers_compare.specs.FlatSpecs.{row_of_placed_view}
use Rattle.sudoers_compare.proofs.KeptLists.{no_lists, no_lists_are_kept}
use Rattle.sudoers_compare.proofs.KnownLists.{nothing_known_is_right}
use Rattle.sudoers_compare.proofs.overruled.find_overrulings.Goals as goal

pub returns : goal.returns
returns c = c.find_overrulings_by_lists.ensures no_lists (no_lists_are_kept no_lists (map row_of_placed_view c.args.rows.now)) (nothing_known_is_right no_lists)
