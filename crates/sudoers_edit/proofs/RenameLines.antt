-- Lines in which an alias has another name, and the name given back.
use Rattle.sudoers_edit.proofs.Common.{texts_of_renamed_lines}
use Rattle.sudoers_edit.proofs.Common.{AllByRecursion, AreValidWalkLines, Bool, EachIsOneLineWhenCut, IsCorrectlyParsed, IsDefinableName, IsLogicalLine, Kind, Line, LineChange, LineReadsAsNode, List, NamedAlias}
use Rattle.sudoers_edit.proofs.Common.{ParsedFile, PlacedDefinition, RenamedLineLaws, WalkState, [], alias_offsets_in_node, ap, ap₂, arith, bytes_eq, bytes_eq-Decides, definition_place_of_name, definitions_of_lines}
use Rattle.sudoers_edit.proofs.Common.{false, has_inner_line_without_lf, if◌then◌else◌, is_alias_name_in_use, is_file_on_walk, is_some, length, line_after_rename, line_replaced_at_offsets, line_text_after_rename}
use Rattle.sudoers_edit.proofs.Common.{lines_after_rename, lines_of_numbered_file, ltb-false, map, mentions_in_lines, name_offsets_in_line, named_alias_of_kind_and_name, nat_lt, nil_from_length, not, or_false, refl}
use Rattle.sudoers_edit.proofs.Common.{rename_change_in_line, rename_changes_in_file, rename_changes_in_files, subst, suc, sym, texts_of_changes, texts_of_lines, texts_with_name_replaced, true, ℕ, ◌++◌, ◌+◌, ◌||◌, ◌∙◌}
use Rattle.sudoers_edit.proofs.Common.{◌∷◌, ◌≡◌}
use Rattle.sudoers_edit.proofs.NameFree.{IsLineWithoutAlias, lines_not_naming_alias_are_without_it}
use Rattle.sudoers_edit.proofs.NameGone.{renamed_lines_lack_old_name}
use Rattle.sudoers_edit.proofs.NameStarts.{alias_offsets_of_node_are_name_offsets}
use Rattle.sudoers_edit.proofs.PutNames.{replacement_at_once_is_replacement_in_turn}
use Rattle.sudoers_edit.proofs.RenamedNames.{AreRenamedDefinitions, definitions_of_renamed_lines_are_renamed}
use Rattle.sudoers_edit.proofs.RenamedOnce.{undefined_name_is_lacked_by_definitions, name_lacked_by_definitions_is_undefined, defined_and_undefined_names_differ, new_name_is_defined_in_old_place, renamed_definitions_lack_old_name}
use Rattle.sudoers_edit.proofs.RenamedPolicy.{renamed_lines_are_correctly_parsed, name_defined_on_walk_is_definable}
use Rattle.sudoers_edit.proofs.RenamedTexts.{texts_with_name_replaced_are_renamed_texts}

-- ---- the texts

name_replaced_at_offsets_is_renamed_text : RenamedLineLaws → (k : Kind) (name fresh : List ℕ) (line : Line) → LineReadsAsNode line.text line.node
    → line_replaced_at_offsets 0 (length name) fresh (name_offsets_in_line k name line.node) line.text ≡ line_text_after_rename (named_alias_of_kind_and_name k name) fresh line.node line.text
name_replaced_at_offsets_is_renamed_text l k name fresh line says =
    ap (λ (starts : List ℕ). line_replaced_at_offsets 0 (length name) fresh starts line.text) (sym (alias_offsets_of_node_are_name_offsets k name line.node))
    ∙ replacement_at_once_is_replacement_in_turn (length name) fresh line.text (alias_offsets_in_node (named_alias_of_kind_and_name k name) line.node) (l.ascend (named_alias_of_kind_and_name k name) line.text line.node says)

-- only the last line may lack LF, if that was so before
pub renamed_lines_keep_inner_lf : RenamedLineLaws → (alias : NamedAlias) (fresh : List ℕ) → IsDefinableName alias.name → IsDefinableName fresh → (lines : List Line)
    → AllByRecursion IsCorrectlyParsed lines → has_inner_line_without_lf (texts_of_lines (map (line_after_rename alias fresh) lines)) ≡ has_inner_line_without_lf (texts_of_lines lines)
renamed_lines_keep_inner_lf l alias fresh old new [] says = refl
renamed_lines_keep_inner_lf l alias fresh old new (line ∷ []) says = refl
renamed_lines_keep_inner_lf l alias fresh old new (line ∷ next ∷ lines) says =
    ap₂ (λ (a b : Bool). not a || b) (sym (l.ends alias fresh line.text line.node old new says.0))
    (renamed_lines_keep_inner_lf l alias fresh old new (next ∷ lines) says.1)

-- ---- what the changes bring

rename_changes_in_file_bring_logical_lines : RenamedLineLaws → (f n : ℕ) (k : Kind) (name fresh : List ℕ) → IsDefinableName name → IsDefinableName fresh → (lines : List Line) (rest : List LineChange)
    → EachIsOneLineWhenCut (texts_of_lines lines) → AllByRecursion IsCorrectlyParsed lines → AllByRecursion IsLogicalLine (texts_of_changes rest)
    → AllByRecursion IsLogicalLine (texts_of_changes (rename_changes_in_file f n k name fresh lines ++ rest))
rename_changes_in_file_bring_logical_lines l f n k name fresh old new [] rest each says whole = whole
rename_changes_in_file_bring_logical_lines l f n k name fresh old new (line ∷ lines) rest each says whole =
    by (rename_changes_in_file_bring_logical_lines l f (n + 1) k name fresh old new lines rest each.1 says.1 whole) (name_offsets_in_line k name line.node) logical
  where
    later : List LineChange
    later = rename_changes_in_file f (n + 1) k name fresh lines

    logical : IsLogicalLine (line_replaced_at_offsets 0 (length name) fresh (name_offsets_in_line k name line.node) line.text)
    logical =
        subst IsLogicalLine (sym (name_replaced_at_offsets_is_renamed_text l k name fresh line says.0))
        (l.line (named_alias_of_kind_and_name k name) fresh line.text line.node old new says.0 (l.tells line.text (l.logical line.text each.0)))

    by : AllByRecursion IsLogicalLine (texts_of_changes (later ++ rest)) → (starts : List ℕ) → IsLogicalLine (line_replaced_at_offsets 0 (length name) fresh starts line.text)
        → AllByRecursion IsLogicalLine (texts_of_changes ((rename_change_in_line f n (length name) fresh starts line.text ++ later) ++ rest))
    by more [] is = more
    by more (start ∷ starts) is = (is, more)

pub rename_changes_in_files_bring_logical_lines : RenamedLineLaws → (m : ℕ) (k : Kind) (name fresh : List ℕ) → IsDefinableName name → IsDefinableName fresh → (w : WalkState) (files : List ParsedFile)
    → ((i : ℕ) → EachIsOneLineWhenCut (texts_of_lines (lines_of_numbered_file files i))) → ((i : ℕ) → AllByRecursion IsCorrectlyParsed (lines_of_numbered_file files i))
    → AllByRecursion IsLogicalLine (texts_of_changes (rename_changes_in_files m k name fresh w files))
rename_changes_in_files_bring_logical_lines l m k name fresh old new w [] each says = tt
rename_changes_in_files_bring_logical_lines l m k name fresh old new w (file ∷ files) each says =
    by (is_file_on_walk w m) (rename_changes_in_files_bring_logical_lines l (m + 1) k name fresh old new w files (λ i. each (suc i)) (λ i. says (suc i)))
  where
    later : List LineChange
    later = rename_changes_in_files (m + 1) k name fresh w files

    by : (on : Bool) → AllByRecursion IsLogicalLine (texts_of_changes later)
        → AllByRecursion IsLogicalLine (texts_of_changes ((if on then rename_changes_in_file m 0 k name fresh file.lines else []) ++ later))
    by true more = rename_changes_in_file_bring_logical_lines l m 0 k name fresh old new file.lines later (each 0) (says 0) more
    by false more = more

-- ---- and back

pub reverse_rename_of_lines_restores_texts : RenamedLineLaws → (k : Kind) (name fresh : List ℕ) (lines : List Line) → AllByRecursion IsCorrectlyParsed lines
    → AllByRecursion (IsLineWithoutAlias k fresh) lines → texts_of_lines (lines_after_rename k fresh name (lines_after_rename k name fresh lines)) ≡ texts_of_lines lines
reverse_rename_of_lines_restores_texts l k name fresh [] says without = refl
reverse_rename_of_lines_restores_texts l k name fresh (line ∷ lines) says without =
    ap₂ (λ (x : List ℕ) (xs : List (List ℕ)). x ∷ xs) (l.undone (named_alias_of_kind_and_name k name) fresh line.text line.node says.0 without.0)
    (reverse_rename_of_lines_restores_texts l k name fresh lines says.1 without.1)

-- renamed lines with the old name are the lines before
pub texts_of_reverse_renamed_lines_are_former : RenamedLineLaws → (k : Kind) (name fresh : List ℕ) → IsDefinableName name → IsDefinableName fresh → (lines : List Line) → AllByRecursion IsCorrectlyParsed lines
    → AllByRecursion (IsLineWithoutAlias k fresh) lines → texts_with_name_replaced k fresh name (lines_after_rename k name fresh lines) ≡ texts_of_lines lines
texts_of_reverse_renamed_lines_are_former l k name fresh old new lines says without =
    texts_with_name_replaced_are_renamed_texts l.ascend k fresh name (lines_after_rename k name fresh lines) (renamed_lines_are_correctly_parsed l.same (named_alias_of_kind_and_name k name) fresh old new lines says)
    ∙ reverse_rename_of_lines_restores_texts l k name fresh lines says without

pub name_of_no_mentions_is_not_mentioned : (k : Kind) (fresh : List ℕ) (lines : List Line) → nat_lt 0 (length (mentions_in_lines k fresh lines)) ≡ false → mentions_in_lines k fresh lines ≡ []
name_of_no_mentions_is_not_mentioned k fresh lines none = nil_from_length (mentions_in_lines k fresh lines) (omega (arith, ltb-false 0 (length (mentions_in_lines k fresh lines)) none))

-- The lines of a walk, an alias that they define, and a free name.
pub record IsRenameableInLines (k : Kind) (name fresh : List ℕ) (lines : List Line) : Type 0 where
  pub walk : AreValidWalkLines lines
  pub some : is_some (definition_place_of_name k name lines) ≡ true
  pub new : IsDefinableName fresh
  pub free : is_alias_name_in_use k fresh lines ≡ false

-- The name can be given back in the renamed lines.
pub record CanRenameBackInLines (k : Kind) (name fresh : List ℕ) (lines now : List Line) : Type 0 where
  pub old : IsDefinableName name
  pub without : AllByRecursion (IsLineWithoutAlias k fresh) lines
  pub some : is_some (definition_place_of_name k fresh now) ≡ true
  pub free : is_alias_name_in_use k name now ≡ false
  pub are : texts_of_renamed_lines k fresh name now ≡ texts_of_lines lines

pub renamed_lines_can_be_renamed_back : RenamedLineLaws → (k : Kind) (name fresh : List ℕ) (lines : List Line) → IsRenameableInLines k name fresh lines → CanRenameBackInLines k name fresh lines (lines_after_rename k name fresh lines)
renamed_lines_can_be_renamed_back l k name fresh lines f =
    let now : List Line = lines_after_rename k name fresh lines in
    let ds : List PlacedDefinition = definitions_of_lines lines in
    let es : List PlacedDefinition = definitions_of_lines now in
    let are : AreRenamedDefinitions k name fresh ds es = definitions_of_renamed_lines_are_renamed k name fresh lines in
    let old : IsDefinableName name = name_defined_on_walk_is_definable k name lines f.walk f.some in
    let parts = or_false (is_some (definition_place_of_name k fresh lines)) (nat_lt 0 (length (mentions_in_lines k fresh lines))) f.free in
    let apart : bytes_eq name fresh ≡ false = turned (defined_and_undefined_names_differ k name fresh ds f.some parts.0) in
    let without : AllByRecursion (IsLineWithoutAlias k fresh) lines = lines_not_naming_alias_are_without_it k fresh 0 lines (name_of_no_mentions_is_not_mentioned k fresh lines parts.1) (undefined_name_is_lacked_by_definitions k fresh ds parts.0) in
    record {
      old = old;
      without = without;
      some = ap is_some (new_name_is_defined_in_old_place k name fresh ds es are f.some parts.0) ∙ f.some;
      free =
          ap₂ (λ (a : Bool) (n : ℕ). a || nat_lt 0 n) (name_lacked_by_definitions_is_undefined k name es (renamed_definitions_lack_old_name k name fresh ds es are apart))
          (ap length (renamed_lines_lack_old_name k name fresh apart 0 lines));
      are = reverse_rename_of_lines_restores_texts l k name fresh lines f.walk.says without;
    }
  where
    turned : bytes_eq fresh name ≡ false → bytes_eq name fresh ≡ false
    turned differ = by (bytes_eq name fresh) refl
      where
        by : (b : Bool) → bytes_eq name fresh ≡ b → b ≡ false
        by true is =
            let same : true ≡ false = sym ((bytes_eq-Decides fresh name).1 (sym ((bytes_eq-Decides name fresh).0 is))) ∙ differ in
            absurd (cc)
        by false is = refl
