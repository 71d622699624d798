use Rattle.sudoers_check.proofs.Common.{definitions_of_lines, drop, has_undefined_alias, numbers_of_defined_aliases, take, ◌++◌, ◌≡◌}
use Rattle.sudoers_check.proofs.definition_numbers.DefinitionNumbers.append_numbers_of_aliases.Given as goal

abbrev pub invariant-loop-alias : goal.invariant-loop-alias
invariant-loop-alias l =
    let ds = definitions_of_lines l.self.walk in
    record {
      numbers : l.numbers.items ++ numbers_of_defined_aliases ds (drop l.alias-index l.aliases) ≡ l.initial.numbers.items ++ numbers_of_defined_aliases ds l.aliases;
      undefined : l.has_undefined ≡ has_undefined_alias ds (take l.alias-index l.aliases);
    }
