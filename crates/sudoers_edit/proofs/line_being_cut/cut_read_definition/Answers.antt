use Rattle.sudoers_edit.proofs.Common.{Def, IsDefinitionCut, IsRefusalOrNoMemory, Line, LineReadsAsNode, List, Node, None, Some, [], alias_definitions_of_view, ap, arith}
use Rattle.sudoers_edit.proofs.Common.{definitions_of_alias_line, extents_of_definitions, inr, length, length-map, lines_with_item_cut_out, node_of_view, reading_of_single_line, refl, rules, slice_get, subst, sym, ℕ}
use Rattle.sudoers_edit.proofs.Common.{◌∙◌, ◌≡◌}
use Rattle.sudoers_grammar.specs.Node as node
use Rattle.sudoers_edit.specs.declared.extra_item.ItemListKind.TheVariants as among
use Rattle.sudoers_edit.proofs.PruneCut.{definition_cut_out_is_definition_cut, owned_bytes_of_definition_are_within_line, drop_without_definitions_is_no_alias, refused_cut_refuses_definition_drop, droppable_definition_is_one_of_several, line_of_equal_text_has_read_node}
use Rattle.sudoers_edit.proofs.PruneGoes.{single_reading_is_reading_of_text}
use Rattle.sudoers_edit.proofs.LawsBelow.{prune_edit_laws_hold}
use Rattle.sudoers_edit.proofs.LinesBelow.{definitions_of_alias_line_are_ordered}
use Rattle.sudoers_edit.proofs.line_being_cut.cut_read_definition.Goals as goal

some_same : (a b : Line) → Some a ≡ Some b → a ≡ b
some_same a b is = cc

pub returns-in_default : goal.returns-in_default
returns-in_default c =
    let says : Node = node_of_view c.args.says.now in
    let none : definitions_of_alias_line (node_of_view c.args.says.now) ≡ None = search rules in
    record {
      outcome =
          λ n lines line known here same. inr (drop_without_definitions_is_no_alias lines n c.args.at (record { text = c.args.text.now; node = says })
          (line_of_equal_text_has_read_node lines n line c.args.text.now says (Some says) known here same (sym c.requires) refl) none);
      known = tt;
    }

pub returns-in-Err-clause-outcome : goal.returns-in-Err-clause-outcome
returns-in-Err-clause-outcome c = λ n lines line known here same.
    let says : Node = node_of_view c.args.says.now in
    let told : Some says ≡ reading_of_single_line c.args.text.now = sym c.requires in
    let makes : says ≡ node.Alias c.in-Alias.kind (alias_definitions_of_view c.in-Alias.defs) = ap node_of_view c.in-Alias.is in
    let shown : Line = record { text = c.args.text.now; node = says } in
    refused_cut_refuses_definition_drop lines n c.args.at shown (alias_definitions_of_view c.in-Alias.defs) c.in-Err.fault
    (line_of_equal_text_has_read_node lines n line c.args.text.now says (Some says) known here same told refl) (ap definitions_of_alias_line makes)
    (inr (c.in-Err.ensures (λ a b. lines_with_item_cut_out among.Definitions c.args.at a b n shown lines)))

pub cut_read_bytes-requires : goal.cut_read_bytes-requires
cut_read_bytes-requires c =
    let says : Node = node_of_view c.args.says.now in
    let makes : says ≡ node.Alias c.in-Alias.kind (alias_definitions_of_view c.in-Alias.defs) = ap node_of_view c.in-Alias.is in
    let reads : LineReadsAsNode c.args.text.now (node.Alias c.in-Alias.kind (alias_definitions_of_view c.in-Alias.defs)) =
    subst (LineReadsAsNode c.args.text.now) makes (single_reading_is_reading_of_text c.args.text.now says (prune_edit_laws_hold.outcome c.args.text.now) c.requires) in
    let place = c.in-Ok.ensures (λ a b. lines_with_item_cut_out among.Definitions c.args.at a b 0 (record { text = c.args.text.now; node = says }) []) in
    owned_bytes_of_definition_are_within_line c.args.text.now (alias_definitions_of_view c.in-Alias.defs) c.args.at c.in-Ok.bytes.0 c.in-Ok.bytes.1
    (definitions_of_alias_line_are_ordered c.args.text.now c.in-Alias.kind (alias_definitions_of_view c.in-Alias.defs) reads) place.1 place.2

pub returns-in-Err-cut_read_bytes-clause-outcome : goal.returns-in-Err-cut_read_bytes-clause-outcome
returns-in-Err-cut_read_bytes-clause-outcome c = λ n lines line known here same.
    let says : Node = node_of_view c.args.says.now in
    let told : Some says ≡ reading_of_single_line c.args.text.now = sym c.requires in
    let makes : says ≡ node.Alias c.in-Alias.kind (alias_definitions_of_view c.in-Alias.defs) = ap node_of_view c.in-Alias.is in
    let shown : Line = record { text = c.args.text.now; node = says } in
    refused_cut_refuses_definition_drop lines n c.args.at shown (alias_definitions_of_view c.in-Alias.defs) c.in-Err-cut_read_bytes.fault
    (line_of_equal_text_has_read_node lines n line c.args.text.now says (Some says) known here same told refl) (ap definitions_of_alias_line makes)
    (subst (IsRefusalOrNoMemory c.in-Err-cut_read_bytes.fault) (sym (c.in-Ok.ensures (λ a b. lines_with_item_cut_out among.Definitions c.args.at a b n shown lines)).0)
    (c.in-Err-cut_read_bytes.ensures.outcome n lines))

pub returns-clause-outcome : goal.returns-clause-outcome
returns-clause-outcome c = λ n lines line known here same.
    let at : ℕ = c.args.at in
    let says : Node = node_of_view c.args.says.now in
    let told : Some says ≡ reading_of_single_line c.args.text.now = sym c.requires in
    let defs : List Def = alias_definitions_of_view c.in-Alias.defs in
    let makes : says ≡ node.Alias c.in-Alias.kind defs = ap node_of_view c.in-Alias.is in
    let shown : Line = record { text = c.args.text.now; node = says } in
    let there : slice_get lines n ≡ Some shown = line_of_equal_text_has_read_node lines n line c.args.text.now says (Some says) known here same told refl in
    let place = c.in-Ok.ensures (λ a b. lines_with_item_cut_out among.Definitions at a b n shown lines) in
    let count : length (extents_of_definitions defs) ≡ length defs = length-map defs (λ (d : Def). (d.start, d.stop)) in
    let some = droppable_definition_is_one_of_several at c.in-Ok.bytes.0 c.in-Ok.bytes.1 (extents_of_definitions defs) (λ next. (c.in-Ok.ensures next).0) in
    let text : List ℕ = c.in-Ok-cut_read_bytes.cut.0.items in
    let cut : IsDefinitionCut n at lines shown text c.in_ok-splice.splice =
    definition_cut_out_is_definition_cut lines n at c.in-Ok.bytes.0 c.in-Ok.bytes.1 shown c.in-Alias.kind defs text c.in_ok-splice.splice there makes
    (omega (arith, some.0, count)) (omega (arith, some.1, count)) place.1 place.2 place.0 c.in-Ok-cut_read_bytes.ensures.cut c.in_ok-splice.ensures
    (c.in-Ok-cut_read_bytes.ensures.outcome n lines) in
    subst (λ (t : List ℕ). IsDefinitionCut n at lines line t c.in_ok-splice.splice) (sym c.from_vec.ensures)
    (subst (λ (l : Line). IsDefinitionCut n at lines l text c.in_ok-splice.splice) (some_same shown line (sym there ∙ here)) cut)
