-- The lines to which a rename leads are the texts of the renamed lines.
use Rattle.sudoers_edit.proofs.Common.{AllByRecursion, AreOrderedNameOffsets, IsCorrectlyParsed, Kind, Line, LineReadsAsNode, List, NamedAlias, Node, [], alias_offsets_in_node, ap, ap₂, length}
use Rattle.sudoers_edit.proofs.Common.{line_replaced_at_offsets, lines_after_rename, named_alias_of_kind_and_name, refl, sym, texts_of_lines, texts_with_name_replaced, ℕ, ◌∙◌, ◌∷◌, ◌≡◌}
use Rattle.sudoers_edit.proofs.NameStarts.{alias_offsets_of_node_are_name_offsets}
use Rattle.sudoers_edit.proofs.PutNames.{replacement_at_once_is_replacement_in_turn}

-- The names of an alias stand one behind another in a line.
abbrev pub AliasOffsetsOfLineAreOrdered : Type 0
AliasOffsetsOfLineAreOrdered = (alias : NamedAlias) (line : List ℕ) (says : Node) → LineReadsAsNode line says
    → AreOrderedNameOffsets (length alias.name) 0 (length line) (alias_offsets_in_node alias says)

pub texts_with_name_replaced_are_renamed_texts : AliasOffsetsOfLineAreOrdered → (k : Kind) (name fresh : List ℕ) (lines : List Line) → AllByRecursion IsCorrectlyParsed lines
    → texts_with_name_replaced k name fresh lines ≡ texts_of_lines (lines_after_rename k name fresh lines)
texts_with_name_replaced_are_renamed_texts ascend k name fresh [] says = refl
texts_with_name_replaced_are_renamed_texts ascend k name fresh (line ∷ lines) says =
    ap₂ (λ (x : List ℕ) (xs : List (List ℕ)). x ∷ xs)
    (ap (λ (starts : List ℕ). line_replaced_at_offsets 0 (length name) fresh starts line.text) (sym (alias_offsets_of_node_are_name_offsets k name line.node))
    ∙ replacement_at_once_is_replacement_in_turn (length name) fresh line.text (alias_offsets_in_node (named_alias_of_kind_and_name k name) line.node) (ascend (named_alias_of_kind_and_name k name) line.text line.node says.0))
    (texts_with_name_replaced_are_renamed_texts ascend k name fresh lines says.1)
