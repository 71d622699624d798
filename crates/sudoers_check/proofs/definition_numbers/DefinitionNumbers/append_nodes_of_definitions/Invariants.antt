use Rattle.sudoers_check.proofs.Common.{Def, alias_definition_in_tables, alias_names_among_members, definitions_of_lines, drop, has_undefined_alias_among_members, list_any, map, numbers_of_defined_names, take, ◌++◌, ◌≡◌}
use Rattle.sudoers_check.proofs.definition_numbers.DefinitionNumbers.append_nodes_of_definitions.Given as goal

abbrev pub invariant-loop-row : goal.invariant-loop-row
invariant-loop-row l =
    let ds = definitions_of_lines l.self.walk in
    let defs = map (alias_definition_in_tables l.defs.tables.now) l.defs.rows.now in
    record {
      nodes : map (λ edges. edges.items) l.nodes.items
          ++ map (λ (d : Def). numbers_of_defined_names l.kind (alias_names_among_members d.members) ds) (map (alias_definition_in_tables l.defs.tables.now) (drop l.row-index l.defs.rows.now))
          ≡ map (λ edges. edges.items) l.initial.nodes.items ++ map (λ (d : Def). numbers_of_defined_names l.kind (alias_names_among_members d.members) ds) defs;
      undefined : l.has_undefined ≡ list_any (λ (d : Def). has_undefined_alias_among_members ds l.kind d.members) (take l.row-index defs);
    }
