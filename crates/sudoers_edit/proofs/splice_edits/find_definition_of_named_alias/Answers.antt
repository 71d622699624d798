use Rattle.sudoers_edit.proofs.Common.{AliasDefinitionRow, Def, DefinitionFilePlace, EditFault, Err, Kind, Line, LineTexts, List, LoadedPolicy, NoAlias, None, Place, Result, Some, alias_definition_in_tables}
use Rattle.sudoers_edit.proofs.Common.{alias_definitions_of_view, ap, arith, definitions_of_alias_line, file_place_of_definition, length, length-map, line_of_view, lines_of_numbered_file, map, node_of_view}
use Rattle.sudoers_edit.proofs.Common.{option_map, policy_with_file_defining_alias_edited, refl, result_with_definition_at, slice_get, slice_get-map, slice_get_past, slice_get_read, sym, ℕ, ◌∙◌, ◌≡◌}
use Rattle.sudoers_line_rows.specs.declared.view.Node.{Node}
use Rattle.sudoers_edit.proofs.splice_edits.find_definition_of_named_alias.Goals as goal

-- a place behind the definitions of its line
no_def : (k : Kind) (name : List ℕ) (policy : LoadedPolicy) (at : DefinitionFilePlace) (line : Line) (defs : List Def) → file_place_of_definition k name policy.walk ≡ Some at
    → slice_get (lines_of_numbered_file policy.files at.file) at.line ≡ Some line → definitions_of_alias_line line.node ≡ Some defs → slice_get defs at.def ≡ None
    → (next : List Line → Place → Line → Def → Result LineTexts EditFault) → policy_with_file_defining_alias_edited k name policy (λ place lines. result_with_definition_at (Some place) lines (next lines)) ≡ Err NoAlias
no_def k name policy at line defs there here makes none next = rw (there, here, makes, none) refl

pub returns-in-Some-get-clause-found : goal.returns-in-Some-get-clause-found
returns-in-Some-get-clause-found c =
    let at : ℕ = c.in-Some.place.def in
    let says : AliasDefinitionRow → Def = alias_definition_in_tables c.in-Alias.defs.tables.now in
    let rows : List AliasDefinitionRow = c.in-Alias.defs.rows.now in record {
      named = sym c.in-Some.ensures;
      here = sym c.in-Some-parsed_line.ensures;
      defs = alias_definitions_of_view c.in-Alias.defs;
      makes = ap (λ (n : Node). definitions_of_alias_line (node_of_view n)) c.in-Alias.is;
      stands = slice_get-map says rows at
          ∙ ap (option_map says) (slice_get_read rows (length rows) at c.in-Some-get.row.now refl c.in-Some-get.ensures.lookup.3.0 (c.in-Some-get.ensures.lookup.3.1 c.in-Some-get.row.now))
          ∙ ap (λ (d : Def). Some d) (sym c.alias_definition_of_row.ensures);
    }

pub returns-in-None-clause-refused : goal.returns-in-None-clause-refused
returns-in-None-clause-refused c =
    let says : AliasDefinitionRow → Def = alias_definition_in_tables c.in-Alias.defs.tables.now in
    let rows : List AliasDefinitionRow = c.in-Alias.defs.rows.now in
    no_def c.args.kind c.args.name.now c.args.policy.now c.in-Some.place (line_of_view c.in-Some-parsed_line.line) (alias_definitions_of_view c.in-Alias.defs) (sym c.in-Some.ensures) (sym c.in-Some-parsed_line.ensures)
    (ap (λ (n : Node). definitions_of_alias_line (node_of_view n)) c.in-Alias.is)
    (slice_get_past (map says rows) c.in-Some.place.def (omega (arith, length-map rows says, c.in-None.ensures.lookup.3)))
