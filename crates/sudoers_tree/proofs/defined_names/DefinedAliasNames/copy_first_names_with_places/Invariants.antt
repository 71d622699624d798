use Rattle.sudoers_tree.proofs.Common.{names_of_entries, take, zip, ◌≡◌}
use Rattle.sudoers_tree.proofs.defined_names.DefinedAliasNames.copy_first_names_with_places.Given as goal

abbrev pub invariant-loop-number : goal.invariant-loop-number
invariant-loop-number l = l.names ≡ zip (names_of_entries l.self) (take l.number l.fn.places.items)
