-- A definition taken out of a line of several: it is refused for its splice alone.
use Rattle.sudoers_edit.proofs.Common.{Bool, Cmnd, Def, Host, Kind, LineReadsAsNode, List, Node, Runas, Some, User, [], and_parts, ap, are_lists_alike, bytes_eq, bytes_eq-Decides, definitions_from_place, ends_in_lf}
use Rattle.sudoers_edit.proofs.Common.{extents_of_definitions, are_owned_byte_offsets_in_both_lists, has_one_definition_more, inr, is_equal_kind, is_same_def, is_same_member, length, refl, remove, suc, sym, true, zero, ℕ, ◌&&◌}
use Rattle.sudoers_edit.proofs.Common.{◌+◌, ◌-◌, ◌∷◌, ◌≡◌}
use Rattle.sudoers_grammar.specs.Node as node
use Rattle.sudoers_edit.proofs.NameParts.{IsPartOfDefinitions, part_is_part_with_definition_before}
use Rattle.sudoers_edit.proofs.OwnedBytes.{AreAscendingDefinitions}

-- Where a line ends in LF, its definitions end before that.
abbrev pub DefinitionsEndBeforeFinalLf : Type 0
DefinitionsEndBeforeFinalLf =
    (line : List ℕ) (k : Kind) (defs : List Def) → LineReadsAsNode line (node.Alias k defs) → ends_in_lf line ≡ true
    → AreAscendingDefinitions 0 (length line - 1) defs

-- ---- what a line says with one definition less

equal_kind_is_same_kind : (k j : Kind) → is_equal_kind k j ≡ true → k ≡ j
equal_kind_is_same_kind User User e = refl
equal_kind_is_same_kind Runas Runas e = refl
equal_kind_is_same_kind Host Host e = refl
equal_kind_is_same_kind Cmnd Cmnd e = refl
equal_kind_is_same_kind k j e = absurd (cc)

same_definitions_have_equal_names : (d e : Def) → is_same_def d e ≡ true → d.name ≡ e.name
same_definitions_have_equal_names d e h = (bytes_eq-Decides d.name e.name).0 (and_parts (bytes_eq d.name e.name) (are_lists_alike is_same_member d.members e.members) h).0

alike_definitions_are_part : (k : Kind) (l m n o : ℕ) (ds es : List Def) → are_lists_alike is_same_def ds es ≡ true
    → IsPartOfDefinitions (definitions_from_place k l n ds) (definitions_from_place k m o es)
alike_definitions_are_part k l m n o [] [] h = tt
alike_definitions_are_part k l m n o [] (e ∷ es) h = absurd (cc)
alike_definitions_are_part k l m n o (d ∷ ds) [] h = absurd (cc)
alike_definitions_are_part k l m n o (d ∷ ds) (e ∷ es) h =
    let both = and_parts (is_same_def d e) (are_lists_alike is_same_def ds es) h in
    inr (refl, same_definitions_have_equal_names d e both.0, alike_definitions_are_part k l m (n + 1) (o + 1) ds es both.1)

pub definitions_without_one_are_part : (k : Kind) (l m n o : ℕ) (ds : List Def) (at : ℕ) (es : List Def) → are_lists_alike is_same_def (remove ds at) es ≡ true
    → IsPartOfDefinitions (definitions_from_place k l n ds) (definitions_from_place k m o es)
definitions_without_one_are_part k l m n o [] zero [] h = tt
definitions_without_one_are_part k l m n o [] (suc at) [] h = tt
definitions_without_one_are_part k l m n o [] zero (e ∷ es) h = absurd (cc)
definitions_without_one_are_part k l m n o [] (suc at) (e ∷ es) h = absurd (cc)
definitions_without_one_are_part k l m n o (d ∷ ds) zero es h =
    part_is_part_with_definition_before (record { kind = k; place = record { line = l; def = n }; def = d }) (definitions_from_place k l (n + 1) ds) (definitions_from_place k m o es)
    (alike_definitions_are_part k l m (n + 1) o ds es h)
definitions_without_one_are_part k l m n o (d ∷ ds) (suc at) [] h = absurd (cc)
definitions_without_one_are_part k l m n o (d ∷ ds) (suc at) (e ∷ es) h =
    let both = and_parts (is_same_def d e) (are_lists_alike is_same_def (remove ds at) es) h in
    inr (refl, same_definitions_have_equal_names d e both.0, definitions_without_one_are_part k l m (n + 1) (o + 1) ds at es both.1)

-- A line reads as this one but for a definition less.
pub record ReadsWithoutOneDefinition (k : Kind) (defs : List Def) (at : ℕ) (says : Node) : Type 0 where
  pub less : List Def
  pub is : says ≡ node.Alias k less
  pub alike : are_lists_alike is_same_def (remove defs at) less ≡ true

pub line_with_one_less_reads_without_definition : (k : Kind) (defs : List Def) (at from to : ℕ) (says : Node) → has_one_definition_more at from to (Some (node.Alias k defs)) (Some says) ≡ true
    → ReadsWithoutOneDefinition k defs at says
line_with_one_less_reads_without_definition k defs at from to (node.Alias j less) h =
    let owns : Bool = are_owned_byte_offsets_in_both_lists at from to (extents_of_definitions defs) (extents_of_definitions less) in
    let parts = and_parts (is_equal_kind k j && are_lists_alike is_same_def (remove defs at) less) owns h in
    let both = and_parts (is_equal_kind k j) (are_lists_alike is_same_def (remove defs at) less) parts.0 in
    record { less = less; is = ap (λ i. node.Alias i less) (sym (equal_kind_is_same_kind k j both.0)); alike = both.1 }
line_with_one_less_reads_without_definition k defs at from to node.Blank h = absurd (cc)
line_with_one_less_reads_without_definition k defs at from to node.Comment h = absurd (cc)
line_with_one_less_reads_without_definition k defs at from to (node.Include dir path) h = absurd (cc)
line_with_one_less_reads_without_definition k defs at from to (node.Defaults scope params) h = absurd (cc)
line_with_one_less_reads_without_definition k defs at from to (node.Spec users groups) h = absurd (cc)
