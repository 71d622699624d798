use Rattle.sudoers_tree.proofs.Common.{[], ap, known_names_with_places, names_of_entries, ◌∙◌}
use Rattle.sudoers_tree.proofs.NameLists.{no_places_make_no_entries}
use Rattle.sudoers_tree.proofs.alias_names_update.AliasNamesUpdate.new.Goals as goal

pub returns : goal.returns
returns c =
    ap (known_names_with_places c.args.known.now) c.in_ok-with_capacity.ensures.items ∙ no_places_make_no_entries (names_of_entries c.args.known.now) []
