use Rattle.std.proofs.Common.{◌≡◌, ◌++◌, drop, map, option_map}
use Rattle.sudoers_list_people.specs.internal.Slices.{texts_of_view}
use Rattle.sudoers_list_people.specs.Person.{interface_of_text, interfaces_of_text, all_if_each_is_some}
use Rattle.sudoers_list_people.proofs.interfaces.read_interface_list.Given as goal

abbrev pub invariant-loop-part : goal.invariant-loop-part
invariant-loop-part l =
    option_map (λ rest. l.interfaces.items ++ rest) (all_if_each_is_some (map interface_of_text (texts_of_view (drop l.part-index l.part-items)))) ≡ interfaces_of_text l.text
