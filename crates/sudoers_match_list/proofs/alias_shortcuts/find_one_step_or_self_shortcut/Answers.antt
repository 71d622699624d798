use Rattle.sudoers_match_list.proofs.Common.{ap, atom_in_tables, definitions_of_lines, map, member_in_tables, number_of_definition, sym, text_in_tables, ◌∙◌}
use Rattle.sudoers_match_list.proofs.Shortened.{follows, one_element_list_is_its_first_element, stays}
use Rattle.sudoers_match_list.proofs.alias_shortcuts.find_one_step_or_self_shortcut.Goals as goal

pub returns-in_default : goal.returns-in_default
returns-in_default c = stays _ _ c.requires.within

pub returns-in_default-2 : goal.returns-in_default-2
returns-in_default-2 c = stays _ _ c.requires.within

pub returns-in_default-atom : goal.returns-in_default-atom
returns-in_default-atom c = stays _ _ c.requires.within

pub returns-in-None : goal.returns-in-None
returns-in-None c = stays _ _ c.requires.within

pub returns-in-Some : goal.returns-in-Some
returns-in-Some c =
    let lines = c.args.policy.now in
    let t = c.args.tables.now in
    let members = c.args.definition.now.members.now in
    let kind = c.args.definition.now.kind in
    let name = text_in_tables t c.in-Alias.name in
    let row = one_element_list_is_its_first_element members _ c.in-len1.len_at_least c.in-len1.len_below in
    follows lines c.args.number c.in-Some.to _ name (ap (map (member_in_tables t)) row ∙ c.requires.members) (ap (atom_in_tables t) c.in-Alias.is)
    (ap (λ k. number_of_definition k name (definitions_of_lines lines)) (sym c.requires.kind) ∙ ap (λ x. number_of_definition kind x (definitions_of_lines lines)) (sym c.bytes_of_text_row.ensures)
    ∙ ap (λ ls. number_of_definition kind c.bytes_of_text_row.result.now (definitions_of_lines ls)) (sym c.definition_numbers.ensures) ∙ sym c.of.ensures ∙ c.in-Some.is)
