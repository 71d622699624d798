-- A definition cut out of a line of a file.
use Rattle.sudoers_edit.proofs.Common.{AreOrderedAliasDefinitions, BadSplice, Bool, ByteExtent, Def, EditFault, Err, IsLineTextWithItemCutOut, IsDefinitionCut, IsRefusalOrNoMemory, Kind, Line, LineTexts, List, NoAlias, NoPlace}
use Rattle.sudoers_edit.proofs.Common.{Node, None, Ok, OnlyOne, Option, Result, Some, [], ap, arith, bytes_between, definitions_of_alias_line, eqb-false, extents_of_definitions, false, leb-false, length}
use Rattle.sudoers_edit.proofs.Common.{lines_with_definition_dropped, lines_with_item_cut_out, replaced_lines_unless_too_long, nat_le, owned_bytes_start, owned_bytes_stop, reading_of_single_line, refl, result_with_bytes_to_drop_item}
use Rattle.sudoers_edit.proofs.Common.{result_or_refusal_if_none, result_unless_refused, slice_get, subst, sym, texts_of_lines, true, ℕ, ◌<◌, ◌∙◌, ◌≡◌, ◌≤◌}
use Rattle.std.specs.Prelude.{◌==◌}
use Rattle.sudoers_grammar.specs.Node as node
use Rattle.sudoers_edit.specs.declared.extra_item.ItemListKind.TheVariants as among
use Rattle.sudoers_edit.proofs.SpliceLemmas.{owned_bytes_are_within_spans}

-- the line says what its text says
pub equal_text_reads_as_node_of_line : (line : Line) (text : List ℕ) (o : Option Node) → reading_of_single_line line.text ≡ Some line.node → line.text ≡ text → o ≡ reading_of_single_line text → o ≡ Some line.node
equal_text_reads_as_node_of_line line text o says same is = is ∙ ap reading_of_single_line (sym same) ∙ says

pub definition_drop_cuts_at_owned_bytes : (n at : ℕ) (lines : List Line) (line : Line) (defs : List Def) → slice_get lines n ≡ Some line → definitions_of_alias_line line.node ≡ Some defs
    → lines_with_definition_dropped n at lines ≡ result_with_bytes_to_drop_item at (extents_of_definitions defs) (λ from to. lines_with_item_cut_out among.Definitions at from to n line lines)
unfolding lines_with_definition_dropped
definition_drop_cuts_at_owned_bytes n at lines line defs here is = rw (here, is) refl

-- a line that makes no definitions
pub drop_without_definitions_is_no_alias : (lines : List Line) (n at : ℕ) (line : Line) → slice_get lines n ≡ Some line → definitions_of_alias_line line.node ≡ None → lines_with_definition_dropped n at lines ≡ Err NoAlias
unfolding lines_with_definition_dropped
drop_without_definitions_is_no_alias lines n at line here none = rw (here, none) refl

unrefused_lines_are_accepted : (b : Bool) (f : EditFault) (r : Result LineTexts EditFault) (new : LineTexts) → result_unless_refused b f r ≡ Ok new → (b ≡ false) × (r ≡ Ok new)
unrefused_lines_are_accepted true f r new e = absurd (cc)
unrefused_lines_are_accepted false f r new e = (refl, e)

-- where a definition may be dropped, there are several, and it is one of them
pub droppable_definition_is_one_of_several : (at from to : ℕ) (xs : List ByteExtent) → ((next : ℕ → ℕ → Result LineTexts EditFault) → result_with_bytes_to_drop_item at xs next ≡ next from to)
    → (at < length xs) × (2 ≤ length xs)
droppable_definition_is_one_of_several at from to xs drops =
    let next : ℕ → ℕ → Result LineTexts EditFault = λ a b. Ok [] in
    let by_stop : ℕ → Result LineTexts EditFault = λ a. result_or_refusal_if_none (owned_bytes_stop at xs) BadSplice (next a) in
    let by_seam : Result LineTexts EditFault = result_or_refusal_if_none (owned_bytes_start at xs) BadSplice by_stop in
    let a = unrefused_lines_are_accepted (nat_le (length xs) at) NoPlace (result_unless_refused (length xs == 1) OnlyOne by_seam) [] (drops next) in
    let b = unrefused_lines_are_accepted (length xs == 1) OnlyOne by_seam [] a.1 in
    let inside : at < length xs = omega (arith, leb-false (length xs) at a.0) in
    let more : length xs ≡ 1 → ⊥ = λ one. eqb-false (length xs) 1 b.0 one in
    (inside, omega (arith, inside, more))

pub definition_cut_out_is_definition_cut : (lines : List Line) (n at from to : ℕ) (line : Line) (kind : Kind) (defs : List Def) (text splice : List ℕ)
    → slice_get lines n ≡ Some line → line.node ≡ node.Alias kind defs → at < length defs → 2 ≤ length defs
    → owned_bytes_start at (extents_of_definitions defs) ≡ Some from → owned_bytes_stop at (extents_of_definitions defs) ≡ Some to
    → result_with_bytes_to_drop_item at (extents_of_definitions defs) (λ a b. lines_with_item_cut_out among.Definitions at a b n line lines) ≡ lines_with_item_cut_out among.Definitions at from to n line lines
    → IsLineTextWithItemCutOut among.Definitions at from to line text → splice ≡ bytes_between from to line.text
    → lines_with_item_cut_out among.Definitions at from to n line lines ≡ replaced_lines_unless_too_long n text (texts_of_lines lines)
    → IsDefinitionCut n at lines line text splice
definition_cut_out_is_definition_cut lines n at from to line kind defs text splice here makes inside many begins stops place cut owned told = record {
  kind = kind;
  defs = defs;
  makes = makes;
  inside = inside;
  many = many;
  from = from;
  to = to;
  begins = begins;
  stops = stops;
  cut = cut;
  owned = owned;
  forth = definition_drop_cuts_at_owned_bytes n at lines line defs here (ap definitions_of_alias_line makes) ∙ place ∙ told;
}

-- a line that says this with this text
pub line_of_equal_text_has_read_node : (lines : List Line) (n : ℕ) (line : Line) (text : List ℕ) (says : Node) (o : Option Node) → reading_of_single_line line.text ≡ Some line.node → slice_get lines n ≡ Some line
    → line.text ≡ text → o ≡ reading_of_single_line text → o ≡ Some says → slice_get lines n ≡ Some (record { text = text; node = says })
line_of_equal_text_has_read_node lines n line text says o known here same is some =
    let node_is : Some says ≡ Some line.node = sym some ∙ equal_text_reads_as_node_of_line line text o known same is in
    let one : line.node ≡ says = by_some says line.node node_is in
    here ∙ ap (λ (t : List ℕ). Some (let l : Line = record { text = t; node = line.node } in l)) same
    ∙ ap (λ (m : Node). Some (let l : Line = record { text = text; node = m } in l)) one
  where
    by_some : (a b : Node) → Some a ≡ Some b → b ≡ a
    by_some a b is = cc

-- a drop that has no place, or whose line would not read as it should
pub refused_cut_refuses_definition_drop : (lines : List Line) (n at : ℕ) (line : Line) (defs : List Def) (fault : EditFault) → slice_get lines n ≡ Some line → definitions_of_alias_line line.node ≡ Some defs
    → IsRefusalOrNoMemory fault (result_with_bytes_to_drop_item at (extents_of_definitions defs) (λ a b. lines_with_item_cut_out among.Definitions at a b n line lines)) → IsRefusalOrNoMemory fault (lines_with_definition_dropped n at lines)
refused_cut_refuses_definition_drop lines n at line defs fault here is refuses = subst (IsRefusalOrNoMemory fault) (sym (definition_drop_cuts_at_owned_bytes n at lines line defs here is)) refuses

-- the bytes that go with a definition are within the line
pub owned_bytes_of_definition_are_within_line : (text : List ℕ) (defs : List Def) (at from to : ℕ) → AreOrderedAliasDefinitions 0 (length text) defs → owned_bytes_start at (extents_of_definitions defs) ≡ Some from
    → owned_bytes_stop at (extents_of_definitions defs) ≡ Some to → (from ≤ to) × (to ≤ length text)
owned_bytes_of_definition_are_within_line text defs at from to ascend begins stops =
    owned_bytes_are_within_spans (λ (d : Def). d.start) (λ (d : Def). d.stop) 0 (length text) defs at from to ascend.0 begins stops
