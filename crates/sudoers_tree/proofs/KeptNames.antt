-- A walk that stays, and the names that its lines define.
use Rattle.sudoers_tree.proofs.Common.{AliasNameIndex, All, Bool, ChangesDefinedNames, HasAliasRenamed, IsAcceptedNamesChange, IsInPlaceWalkUpdate, IsIndexOfDefinitions, IsLastingLineRow, IsNewAliasNameFree}
use Rattle.sudoers_tree.proofs.Common.{IsSoundWalkBeforeChange, KeepsLineCountWithoutFault, KeepsWalkSpots, Kind, Line, LineRow, List, None, Ok, Option, ParsedFile, Place, PlacedDefinition, RenamesOneDefinition}
use Rattle.sudoers_tree.proofs.Common.{ReplaceLinesAtSpots, Some, Tables, [], ap, bytes_eq, definitions_of_lines, entries_of_definitions, entries_with_one_renamed, false, file_names, files_before_change}
use Rattle.sudoers_tree.proofs.Common.{first_definition_fault, if◌then◌else◌, index_entries_of_kind, is_equal_kind, is_reserved, is_some, length, length-map, line_of_row, map, name_of_numbered_file}
use Rattle.sudoers_tree.proofs.Common.{number_of_named_entry, option_map, place_of_named_entry, refl, slice_get_within, subst, sym, text_in_tables, true, walk_before_change, walk_lines_before_change}
use Rattle.sudoers_tree.proofs.Common.{walk_with_lines_replaced, ℕ, ◌+◌, ◌<◌, ◌∙◌, ◌∷◌, ◌≡◌}
use Rattle.sudoers_tree.specs.declared.in_place_update.NewAliasName.{NewAliasName}
use Rattle.sudoers_tree.specs.declared.in_place_update.InPlaceWalkUpdate.{InPlaceWalkUpdate}
use Rattle.sudoers_tree.specs.declared.in_place_update.WalkBeforeChange.{WalkBeforeChange}
use Rattle.sudoers_tree.specs.declared.defined_names_change.DefinedNamesChange.{DefinedNamesChange}
use Rattle.sudoers_tree.specs.declared.defined_names_change.DefinedNamesChange.TheVariants.{Nothing, One, Other}
use Rattle.sudoers_tree.proofs.KeptRows.{file_on_walk_keeps_its_line_count}
use Rattle.sudoers_tree.proofs.SameKeys.{number_of_entry_is_below_count, renamed_entries, renaming_to_free_name_keeps_faultless, equal_keys_have_equal_entries, equal_keys_have_equal_faults}
use Rattle.sudoers_tree.proofs.SameWalk.{walk_of_kept_spots_has_lines_replaced}

-- What the names of new lines are, where those of the old lines are known: they can stand, and one can be entered.
pub record CanNewNamesBeEntered (index : AliasNameIndex) (news : List PlacedDefinition) (fresh : Option NewAliasName) : Type 0 where
  pub sound : first_definition_fault [] news ≡ None
  pub can : IsNewAliasNameFree index fresh
  pub named : (new : AliasNameIndex) → HasAliasRenamed index fresh new → IsIndexOfDefinitions new news

-- A name without a number is not among the names.
name_without_number_has_no_place : (name : List ℕ) (es : List (List ℕ × Place)) → number_of_named_entry name es ≡ None → place_of_named_entry name es ≡ None
name_without_number_has_no_place name [] none = refl
name_without_number_has_no_place name (e ∷ es) none = by (bytes_eq name e.0) (number_of_named_entry name es) refl none (name_without_number_has_no_place name es)
  where
    by : (b : Bool) (o : Option ℕ) → number_of_named_entry name es ≡ o → (if b then Some 0 else option_map (λ n. n + 1) o) ≡ None
        → (number_of_named_entry name es ≡ None → place_of_named_entry name es ≡ None) → (if b then Some e.1 else place_of_named_entry name es) ≡ None
    by true o same is later = absurd cc
    by false None same is later = later same
    by false (Some n) same is later = absurd cc

accepted_names_change_can_be_entered : (t : Tables) (index : AliasNameIndex) (olds news : List PlacedDefinition) (change : DefinedNamesChange) (fresh : Option NewAliasName)
    → first_definition_fault [] olds ≡ None → IsIndexOfDefinitions index olds → ChangesDefinedNames t change olds news → IsAcceptedNamesChange t index change fresh → CanNewNamesBeEntered index news fresh
accepted_names_change_can_be_entered t index olds news Nothing None sound known same takes = record {
  sound = equal_keys_have_equal_faults [] [] olds news refl same ∙ sound;
  can = tt;
  named = λ new is k. is k ∙ known k ∙ sym (equal_keys_have_equal_entries k olds news same);
}
accepted_names_change_can_be_entered t index olds news Nothing (Some f) sound known same takes = absurd takes
accepted_names_change_can_be_entered t index olds news (One place kind name fresh) None sound known same takes = absurd takes
accepted_names_change_can_be_entered t index olds news (One place kind name fresh) (Some f) sound known same takes =
    let r : RenamesOneDefinition olds news = same.one in
    let called : f.name.items ≡ r.new.def.name = takes.name_is ∙ sym same.fresh_is in
    let of_kind : f.kind ≡ r.old.kind = takes.kind_is ∙ sym same.kind_is in
    let here : (k : Kind) → k ≡ r.old.kind → index_entries_of_kind k index ≡ entries_of_definitions r.old.kind olds = λ k is. ap (λ j. index_entries_of_kind j index) is ∙ known r.old.kind in
    let number : number_of_named_entry r.old.def.name (entries_of_definitions r.old.kind olds) ≡ Some f.number =
    ap (λ ns. number_of_named_entry ns (entries_of_definitions r.old.kind olds)) same.name_is ∙ ap (number_of_named_entry (text_in_tables t name)) (sym (here kind (sym same.kind_is))) ∙ takes.number_is in
    let free : place_of_named_entry r.new.def.name (entries_of_definitions r.old.kind olds) ≡ None =
    ap (λ ns. place_of_named_entry ns (entries_of_definitions r.old.kind olds)) same.fresh_is ∙ ap (place_of_named_entry (text_in_tables t fresh)) (sym (here kind (sym same.kind_is)))
    ∙ name_without_number_has_no_place (text_in_tables t fresh) (index_entries_of_kind kind index) takes.free in
    record {
      sound = renaming_to_free_name_keeps_faultless olds news r sound (ap is_reserved same.fresh_is ∙ takes.unreserved) (ap is_some free);
      can = (
        subst (λ es. f.number < length es) (sym (here f.kind of_kind)) (number_of_entry_is_below_count r.old.def.name (entries_of_definitions r.old.kind olds) f.number number),
        ap (place_of_named_entry f.name.items) (here f.kind of_kind) ∙ ap (λ ns. place_of_named_entry ns (entries_of_definitions r.old.kind olds)) called ∙ free,
      );
      named = λ new is k.
          is k
          ∙ ap (λ j. if is_equal_kind k j then entries_with_one_renamed f.number f.name.items (index_entries_of_kind k index) else index_entries_of_kind k index) of_kind
          ∙ ap (λ ns. if is_equal_kind k r.old.kind then entries_with_one_renamed f.number ns (index_entries_of_kind k index) else index_entries_of_kind k index) called
          ∙ ap (λ es. if is_equal_kind k r.old.kind then entries_with_one_renamed f.number r.new.def.name es else es) (known k)
          ∙ sym (renamed_entries olds news r f.number sound number k);
    }
accepted_names_change_can_be_entered t index olds news Other fresh sound known same takes = absurd takes

-- A walk stays.
pub kept_lines_make_in_place_walk_update : (t : Tables) (b : WalkBeforeChange) (others : List ParsedFile) (lines : List LineRow) (change : DefinedNamesChange) (new : InPlaceWalkUpdate)
    → IsSoundWalkBeforeChange t b → file_names others ≡ file_names (files_before_change t b) → All (KeepsLineCountWithoutFault (files_before_change t b) others) b.on.now
    → All (IsLastingLineRow t) lines → length lines ≡ length b.spots.now → ReplaceLinesAtSpots others (walk_lines_before_change t b) b.spots.now (map (line_of_row t) lines)
    → ChangesDefinedNames t change (definitions_of_lines (walk_lines_before_change t b)) (definitions_of_lines (map (line_of_row t) lines)) → IsAcceptedNamesChange t b.index.now change new.fresh
    → new.lines.items ≡ lines → IsInPlaceWalkUpdate t b others new
kept_lines_make_in_place_walk_update t b others lines change new before names counts stand count along changes takes is =
    let news : List Line = map (line_of_row t) lines in
    let go : CanNewNamesBeEntered b.index.now (definitions_of_lines news) new.fresh =
    accepted_names_change_can_be_entered t b.index.now (definitions_of_lines (walk_lines_before_change t b)) (definitions_of_lines news) change new.fresh before.sound before.named changes takes in
    let paired : length news ≡ length b.spots.now = length-map lines (line_of_row t) ∙ count in
    let stays : KeepsWalkSpots (files_before_change t b) others (walk_before_change t b) news = record {
      names = names;
      counts = λ f on. (file_on_walk_keeps_its_line_count (files_before_change t b) others b.on.now counts f on).0;
      parse = λ f on. (file_on_walk_keeps_its_line_count (files_before_change t b) others b.on.now counts f on).1;
      paired = paired;
      stay = λ i at old there was.
          let found = along i at old (subst (λ n. i < n) (sym paired) (slice_get_within b.spots.now i at there)) there was in
          record { new = found.0; on_walk = found.1; in_file = found.2.0; beside = found.2.1 (name_of_numbered_file (files_before_change t b) at.file) };
      sound = go.sound;
    } in
    let same : map (line_of_row t) lines ≡ map (line_of_row t) new.lines.items = ap (map (line_of_row t)) (sym is) in
    record {
      walk = walk_of_kept_spots_has_lines_replaced (files_before_change t b) others (walk_before_change t b) news before.walk stays ∙ ap (λ ls. Ok (walk_with_lines_replaced ls (walk_before_change t b))) same;
      stand = subst (All (IsLastingLineRow t)) (sym is) stand;
      fresh = go.can;
      named = λ index renamed. subst (λ ls. IsIndexOfDefinitions index (definitions_of_lines ls)) same (go.named index renamed);
    }
