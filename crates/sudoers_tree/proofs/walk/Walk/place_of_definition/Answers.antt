use Rattle.sudoers_tree.proofs.Common.{ap, definitions_of_lines, entries_of_definitions, place_of_named_entry, ◌∙◌}
use Rattle.sudoers_tree.proofs.Entries.{place_of_entry_is_place_of_definition}
use Rattle.sudoers_tree.proofs.walk.Walk.place_of_definition.Goals as goal

pub returns : goal.returns
returns c =
    c.get.ensures
    ∙ ap (place_of_named_entry c.args.name.now)
    (c.names_of_alias_kind.ensures
    ∙ c.self.invariant.1 c.args.kind
    ∙ ap (λ lines. entries_of_definitions c.args.kind (definitions_of_lines lines)) c.self.view_is)
    ∙ place_of_entry_is_place_of_definition c.args.kind c.args.name.now (definitions_of_lines c.args.self.now)
