-- A line that is taken out of its file, and of the walk, in its place.
use Rattle.sudoers_tree.proofs.Common.{All, AreLinesAtSpots, AreSoundWalkedFiles, HasSoundFileRows, IsLastingLineRow, IsLineAtSpot, Kind, Line, List, Node, None, Ok, ParsedFile, Some}
use Rattle.sudoers_tree.proofs.Common.{Take, WalkLineSpot, WalkedFiles, [], append-nil, ap, ap₂, arith, definitions_in_line, index_entries_of_kind, keys_of_definitions, length, lf_count, line_of_row, lines_of_kept_walk}
use Rattle.sudoers_tree.proofs.Common.{lines_of_numbered_file, map, named_files_of_policy, node_in_tables, option_map, parsed_file_of_rows, policy_of_walked_files, policy_or_load_fault, refl, remove, slice_get, slice_get-map, slice_get_within}
use Rattle.sudoers_tree.proofs.Common.{lead_of_parsed_line, length-map, subst, suc, sym, texts_of_lines, zero, ℕ, ◌+◌, ◌<◌, ◌∙◌, ◌∷◌, ◌≡◌}
use Rattle.sudoers_grammar.specs.Node as node
use Rattle.sudoers_tree.proofs.ChangedLines.{single_take_is_remove}
use Rattle.sudoers_tree.proofs.InPlaceLoads.{LeadsNowhere}
use Rattle.sudoers_tree.proofs.Known.{loaded_walk_lines_are_at_their_spots}
use Rattle.sudoers_tree.proofs.OneChange.{IsChangedInPlace}
use Rattle.sudoers_tree.proofs.SplicedLists.{all_items_but_one, lf_count_of_lines_joined, map_of_remove_is_remove_of_map, removed_item_is_in_place}
use Rattle.sudoers_tree.proofs.SplicedWalk.{MovesLinesBehind, tests_of_spot_are_equalities}
use Rattle.sudoers_tree.specs.declared.line_in_place.LineOnWalk.{LineOnWalk}
use Rattle.sudoers_tree.specs.declared.moved_lines.LineMove.{LineMove}
use Rattle.sudoers_tree.specs.internal.InPlace.{IsLineOnWalk, IsPlainNode, files_with_other_lines, moved_entry, moved_spot}
use Rattle.sudoers_tree.proofs.MovedNames.{moved_key}

pub plain_line_leads_nowhere : (line : Line) → IsPlainNode line.node → LeadsNowhere line
plain_line_leads_nowhere line plain name = by line.node plain
  where
    by : (says : Node) → IsPlainNode says → lead_of_parsed_line name says ≡ None
    by (node.Include dir path) plain = absurd plain
    by (node.Alias k defs) plain = absurd plain
    by node.Blank plain = refl
    by node.Comment plain = refl
    by (node.Defaults scope params) plain = refl
    by (node.Spec users groups) plain = refl

pub plain_line_defines_nothing : (i : ℕ) (says : Node) → IsPlainNode says → definitions_in_line i says ≡ []
plain_line_defines_nothing i (node.Include dir path) plain = absurd plain
plain_line_defines_nothing i (node.Alias k defs) plain = absurd plain
plain_line_defines_nothing i node.Blank plain = refl
plain_line_defines_nothing i node.Comment plain = refl
plain_line_defines_nothing i (node.Defaults scope params) plain = refl
plain_line_defines_nothing i (node.Spec users groups) plain = refl

-- The line with the number p of the walk stands at the spot with that number.
numbered_spot_has_its_line : (files : List ParsedFile) (spots : List WalkLineSpot) (lines : List Line) → AreLinesAtSpots files spots lines → (p : ℕ) (at : WalkLineSpot) → slice_get spots p ≡ Some at
    → (line : Line) × (slice_get lines p ≡ Some line) × IsLineAtSpot files at line
numbered_spot_has_its_line files [] [] all p at is = absurd cc
numbered_spot_has_its_line files [] (line ∷ lines) all p at is = absurd all
numbered_spot_has_its_line files (s ∷ spots) [] all p at is = absurd all
numbered_spot_has_its_line files (s ∷ spots) (line ∷ lines) all zero at is = let same : s ≡ at = cc in (line, refl, subst (λ (x : WalkLineSpot). IsLineAtSpot files x line) same all.0)
numbered_spot_has_its_line files (s ∷ spots) (line ∷ lines) all (suc p) at is = numbered_spot_has_its_line files spots lines all.1 p at is

-- The row of a line on the walk holds the line with its number there.
pub line_on_walk_is_walk_line : (w : WalkedFiles) (f n : ℕ) (place : LineOnWalk) → policy_or_load_fault (named_files_of_policy (policy_of_walked_files w)) ≡ Ok (policy_of_walked_files w) → IsLineOnWalk w f n place
    → slice_get (lines_of_kept_walk w) place.number ≡ Some (line_of_row w.tables place.row)
line_on_walk_is_walk_line w f n place loaded on =
    let (line, there, stands) = numbered_spot_has_its_line (policy_of_walked_files w).files w.spots.items (lines_of_kept_walk w)
    (loaded_walk_lines_are_at_their_spots (named_files_of_policy (policy_of_walked_files w)) (policy_of_walked_files w) loaded) place.number on.only.at on.only.there in
    let places = tests_of_spot_are_equalities f n on.only.at on.only.is in
    there ∙ sym stands.is_line ∙ ap₂ (λ g k. slice_get (lines_of_numbered_file (policy_of_walked_files w).files g) k) places.0 places.1 ∙ on.is

pub numbered_spot_stands : (w : WalkedFiles) (f n : ℕ) (place : LineOnWalk) → policy_or_load_fault (named_files_of_policy (policy_of_walked_files w)) ≡ Ok (policy_of_walked_files w) → (on : IsLineOnWalk w f n place)
    → IsLineAtSpot (policy_of_walked_files w).files on.only.at (line_of_row w.tables place.row)
numbered_spot_stands w f n place loaded on =
    let (line, there, stands) = numbered_spot_has_its_line (policy_of_walked_files w).files w.spots.items (lines_of_kept_walk w)
    (loaded_walk_lines_are_at_their_spots (named_files_of_policy (policy_of_walked_files w)) (policy_of_walked_files w) loaded) place.number on.only.at on.only.there in
    let both : Some line ≡ Some (line_of_row w.tables place.row) = sym there ∙ line_on_walk_is_walk_line w f n place loaded on in
    let same : line ≡ line_of_row w.tables place.row = cc in
    subst (IsLineAtSpot (policy_of_walked_files w).files on.only.at) same stands

pub walk_number_is_within : (w : WalkedFiles) (f n : ℕ) (place : LineOnWalk) → policy_or_load_fault (named_files_of_policy (policy_of_walked_files w)) ≡ Ok (policy_of_walked_files w) → IsLineOnWalk w f n place
    → (place.number < length w.lines.items) × (place.number < length w.spots.items)
walk_number_is_within w f n place loaded on = (
  omega (arith, slice_get_within (lines_of_kept_walk w) place.number (line_of_row w.tables place.row) (line_on_walk_is_walk_line w f n place loaded on), length-map w.lines.items (line_of_row w.tables)),
  slice_get_within w.spots.items place.number on.only.at on.only.there,
)

pub lfs_of_line_are_those_of_row : (w : WalkedFiles) (f n : ℕ) (place : LineOnWalk) → IsLineOnWalk w f n place → lf_count_of_lines_joined (line_of_row w.tables place.row ∷ []) ≡ place.row.lfs
lfs_of_line_are_those_of_row w f n place on = ap lf_count (append-nil (line_of_row w.tables place.row).text) ∙ sym on.stands.lfs

module _ (old new : WalkedFiles) (f n : ℕ) (place : LineOnWalk) (move : LineMove) (walked : AreSoundWalkedFiles old)
    (loaded : policy_or_load_fault (named_files_of_policy (policy_of_walked_files old)) ≡ Ok (policy_of_walked_files old)) (on : IsLineOnWalk old f n place)
    (plain : IsPlainNode (node_in_tables old.tables place.row.node)) where
  abbrev line : Line
  line = line_of_row old.tables place.row

  -- What is left is the policy without the line.
  pub line_taken_is_change_in_place : move ≡ record { up = 0; down = 1; more = 0; less = place.row.lfs } → new.tables ≡ old.tables
      → map (parsed_file_of_rows old.tables) new.files.items ≡ files_with_other_lines f (λ (lines : List Line). remove lines n) (map (parsed_file_of_rows old.tables) old.files.items)
      → All (HasSoundFileRows old.tables) new.files.items → new.lines.items ≡ remove old.lines.items place.number
      → new.spots.items ≡ remove (map (moved_spot f (n + 1) move) old.spots.items) place.number → new.on.items ≡ old.on.items
      → ((k : Kind) → index_entries_of_kind k new.index ≡ map (moved_entry (place.number + 1) move) (index_entries_of_kind k old.index))
      → IsChangedInPlace old new (Take f n) (λ (lines : List Line). remove lines n) f n place.number line [] (n + 1) (place.number + 1) move
  line_taken_is_change_in_place move_is tables files sound lines spots same_on index =
      let walk_line : slice_get (lines_of_kept_walk old) place.number ≡ Some line = line_on_walk_is_walk_line old f n place loaded on in
      let file_lines : List Line = lines_of_numbered_file (policy_of_walked_files old).files f in
      let within : n < length (texts_of_lines file_lines) = omega (arith, slice_get_within file_lines n line on.is, length-map file_lines (λ (l : Line). l.text)) in
      record {
        number = refl;
        files = ap (λ t. map (parsed_file_of_rows t) new.files.items) tables ∙ files;
        changed = removed_item_is_in_place file_lines n line on.is;
        texts = single_take_is_remove (texts_of_lines file_lines) f n within ∙ sym (map_of_remove_is_remove_of_map (λ (l : Line). l.text) n file_lines);
        at_place = on.is;
        on_walk = on.on;
        only = on.only;
        nowhere_before = plain_line_leads_nowhere line plain;
        nowhere_then = tt;
        moves = subst (MovesLinesBehind [] line n (n + 1)) (sym move_is) (record {
          low = omega arith;
          high = omega arith;
          count = refl;
          feeds = omega (arith, lfs_of_line_are_those_of_row old f n place on);
        });
        low = omega arith;
        high = omega arith;
        walk_line = walk_line;
        lines =
            ap (λ t. map (line_of_row t) new.lines.items) tables ∙ ap (map (line_of_row old.tables)) lines
            ∙ map_of_remove_is_remove_of_map (line_of_row old.tables) place.number old.lines.items
            ∙ removed_item_is_in_place (lines_of_kept_walk old) place.number line walk_line;
        spots =
            spots
            ∙ removed_item_is_in_place (map (moved_spot f (n + 1) move) old.spots.items) place.number (moved_spot f (n + 1) move on.only.at)
            (slice_get-map (moved_spot f (n + 1) move) old.spots.items place.number ∙ ap (option_map (moved_spot f (n + 1) move)) on.only.there);
        on = same_on;
        keys = sym (ap (λ ds. map (moved_key (place.number + 1) move) (keys_of_definitions ds)) (plain_line_defines_nothing place.number line.node plain));
        index = index;
        sound = subst (λ t. All (HasSoundFileRows t) new.files.items) (sym tables) sound;
        stand = subst (λ t. All (IsLastingLineRow t) new.lines.items) (sym tables) (subst (All (IsLastingLineRow old.tables)) (sym lines)
            (all_items_but_one (IsLastingLineRow old.tables) old.lines.items place.number place.row (walk_number_is_within old f n place loaded on).0 walked.stand));
      }
