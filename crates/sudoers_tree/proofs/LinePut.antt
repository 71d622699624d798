-- A line that is put before another, and one that is put in the place of another: in its file and on the walk.
use Rattle.sudoers_tree.proofs.Common.{All, AreSoundWalkedFiles, HasSoundFileRows, IsLastingLineRow, IsLineAtSpot, Kind, Line, LineRow, List, Node, Ok, ParsedFile, Place, Put, Some}
use Rattle.sudoers_tree.proofs.Common.{Swap, WalkLineSpot, WalkedFiles, [], append-nil, ap, ap₂, arith, definitions_in_line, false, if◌then◌else◌, index_entries_of_kind, insert, keys_of_definitions, length, length-map, lf_count, line_of_row}
use Rattle.sudoers_tree.proofs.Common.{lines_of_kept_walk, lines_of_numbered_file, map, named_files_of_policy, nat_le, nat_tests, node_in_tables, option_map, parsed_file_of_rows, physical_line_of_file_line, policy_of_walked_files}
use Rattle.sudoers_tree.proofs.Common.{policy_or_load_fault, refl, slice_get, slice_get-map, slice_get_within, spot_of_file_line, subst, suc, sym, text_in_tables, texts_of_lines, true, zero, ℕ, ◌&&◌, ◌++◌, ◌+◌, ◌-◌, ◌<◌, ◌==◌, ◌∙◌, ◌∷◌, ◌≡◌, ◌≤◌}
use Rattle.std.proofs.Common.{set}
use Rattle.std.proofs.lemmas.List.Elements.{All-set}
use Rattle.sudoers_grammar.specs.Node as node
use Rattle.sudoers_tree.proofs.Common.{Bool, None, lead_of_parsed_line}
use Rattle.sudoers_tree.proofs.ChangedLines.{single_put_is_insert, single_swap_is_replacement}
use Rattle.sudoers_tree.proofs.InPlaceLoads.{LeadsNowhere}
use Rattle.sudoers_tree.proofs.LineRows.{physical_line_of_next_line_adds_lf_count}
use Rattle.sudoers_tree.proofs.LineTaken.{lfs_of_line_are_those_of_row, line_on_walk_is_walk_line, numbered_spot_stands, plain_line_defines_nothing, plain_line_leads_nowhere}
use Rattle.sudoers_tree.proofs.MovedNames.{keys_of_line_before_stay, keys_of_line_behind_move}
use Rattle.sudoers_tree.proofs.OneChange.{IsChangedInPlace, other_lines_are_in_file}
use Rattle.sudoers_tree.proofs.SplicedLists.{all_items_and_new, lf_count_of_appended_lines, lf_count_of_lines_joined, list_splits_at_item, map_of_insert_is_insert_of_map, map_of_set_is_set_of_map, put_item_is_in_place, set_item_is_in_place}
use Rattle.sudoers_tree.proofs.SplicedWalk.{MovesLinesBehind, physical_line_up_to_place_stays, tests_of_spot_are_equalities}
use Rattle.sudoers_tree.specs.Changed.{lines_with_one_replaced}
use Rattle.sudoers_tree.specs.declared.line_in_place.LineOnWalk.{LineOnWalk}
use Rattle.sudoers_tree.specs.declared.moved_lines.LineMove.{LineMove}
use Rattle.sudoers_tree.specs.internal.InPlace.{IsLineOnWalk, IsNoIncludeNode, IsPlainNode, files_with_other_lines, moved_entry, moved_spot, with_items_in_place}
use Rattle.sudoers_tree.specs.internal.MovedSpots.{spots_from_line_number}

pub line_that_is_no_include_leads_nowhere : (line : Line) → IsNoIncludeNode line.node → LeadsNowhere line
line_that_is_no_include_leads_nowhere line leads name = by line.node leads
  where
    by : (says : Node) → IsNoIncludeNode says → lead_of_parsed_line name says ≡ None
    by (node.Include dir path) leads = absurd leads
    by (node.Alias k defs) leads = refl
    by node.Blank leads = refl
    by node.Comment leads = refl
    by (node.Defaults scope params) leads = refl
    by (node.Spec users groups) leads = refl

lf_count_of_one_line : (line : Line) (lfs : ℕ) → lfs ≡ lf_count line.text → lf_count_of_lines_joined (line ∷ []) ≡ lfs
lf_count_of_one_line line lfs is = ap lf_count (append-nil line.text) ∙ sym is

spot_fields_are : (f n row file line r : ℕ) → f ≡ file → n ≡ line → row ≡ r → (let s : WalkLineSpot = record { file = f; line = n; row = row } in s) ≡ record { file = file; line = line; row = r }
spot_fields_are f n row file line r same_file same_line same_row =
    ap₂ (λ g k. let s : WalkLineSpot = record { file = g; line = k; row = row } in s) same_file same_line
    ∙ ap (λ x. let s : WalkLineSpot = record { file = file; line = line; row = x } in s) same_row

inserted_item_is_there : {X : Type 0} (xs : List X) (n : ℕ) (x : X) → n ≤ length xs → slice_get (insert xs n x) n ≡ Some x
inserted_item_is_there xs zero x le = refl
inserted_item_is_there [] (suc n) x le = absurd (omega (arith, le))
inserted_item_is_there (y ∷ xs) (suc n) x le = inserted_item_is_there xs n x (omega (arith, le))

replaced_line_is_set : (n : ℕ) (text : List ℕ) (texts : List (List ℕ)) → lines_with_one_replaced n text texts ≡ set texts n text
replaced_line_is_set zero text [] = refl
replaced_line_is_set (suc n) text [] = refl
replaced_line_is_set zero text (first ∷ texts) = refl
replaced_line_is_set (suc n) text (first ∷ texts) = ap (λ ts. first ∷ ts) (replaced_line_is_set n text texts)

module _ (old new : WalkedFiles) (f n : ℕ) (place : LineOnWalk) (row : LineRow) (move : LineMove) (walked : AreSoundWalkedFiles old)
    (loaded : policy_or_load_fault (named_files_of_policy (policy_of_walked_files old)) ≡ Ok (policy_of_walked_files old)) (on : IsLineOnWalk old f n place)
    (stands : IsLastingLineRow old.tables row) (no_include : IsNoIncludeNode (node_in_tables old.tables place.row.node)) where
  abbrev line : Line
  line = line_of_row old.tables place.row

  abbrev fresh : Line
  fresh = line_of_row old.tables row

  abbrev olds : List Line
  olds = lines_of_numbered_file (policy_of_walked_files old).files f

  at_is : IsLineAtSpot (policy_of_walked_files old).files on.only.at line
  at_is = numbered_spot_stands old f n place loaded on

  file_is : on.only.at.file ≡ f
  file_is = (tests_of_spot_are_equalities f n on.only.at on.only.is).0

  line_is : on.only.at.line ≡ n
  line_is = (tests_of_spot_are_equalities f n on.only.at on.only.is).1

  row_is : on.only.at.row ≡ physical_line_of_file_line olds n
  row_is =
      ap (λ (s : WalkLineSpot). s.row) at_is.is_spot
      ∙ ap₂ (λ g k. physical_line_of_file_line (lines_of_numbered_file (policy_of_walked_files old).files g) k) file_is line_is

  within : n < length olds
  within = slice_get_within olds n line on.is

  within_texts : n < length (texts_of_lines olds)
  within_texts = omega (arith, within, length-map olds (λ (l : Line). l.text))

  walk_line : slice_get (lines_of_kept_walk old) place.number ≡ Some line
  walk_line = line_on_walk_is_walk_line old f n place loaded on

  -- the first line in the place stands where its line stood
  first_spot_stays : (others : List ParsedFile) (news : List Line) → lines_of_numbered_file others f ≡ with_items_in_place n news olds → spot_of_file_line others f n ≡ on.only.at
  first_spot_stays others news is =
      spot_fields_are f n (physical_line_of_file_line (lines_of_numbered_file others f) n) on.only.at.file on.only.at.line on.only.at.row (sym file_is) (sym line_is)
      (ap (λ ls. physical_line_of_file_line ls n) is ∙ physical_line_up_to_place_stays olds news n n (omega arith) within ∙ sym row_is)

  spot_moves_from : (from : ℕ) → from ≤ n → moved_spot f from move on.only.at ≡ record { file = on.only.at.file; line = on.only.at.line + move.up - move.down; row = on.only.at.row + move.more - move.less }
  spot_moves_from from le =
      let late : nat_le from on.only.at.line ≡ true = grind (arith, nat_tests, le, line_is) in
      let here : (on.only.at.file == f) ≡ true = grind (arith, nat_tests, file_is) in
      ap₂ (λ a b. if a && b then record { file = on.only.at.file; line = on.only.at.line + move.up - move.down; row = on.only.at.row + move.more - move.less } else on.only.at) here late

  spot_stays_before : moved_spot f (n + 1) move on.only.at ≡ on.only.at
  spot_stays_before =
      let early : nat_le (n + 1) on.only.at.line ≡ false = grind (arith, nat_tests, line_is) in
      let here : (on.only.at.file == f) ≡ true = grind (arith, nat_tests, file_is) in
      ap₂ (λ a b. if a && b then record { file = on.only.at.file; line = on.only.at.line + move.up - move.down; row = on.only.at.row + move.more - move.less } else on.only.at) here early

  -- ---- a line that is put

  spots_of_put_line : move ≡ record { up = 1; down = 0; more = row.lfs; less = 0 } → (others : List ParsedFile) → lines_of_numbered_file others f ≡ with_items_in_place n (fresh ∷ line ∷ []) olds
      → spots_from_line_number others f n (fresh ∷ line ∷ []) ≡ on.only.at ∷ moved_spot f n move on.only.at ∷ []
  spots_of_put_line move_is others is =
      let first : spot_of_file_line others f n ≡ on.only.at = first_spot_stays others (fresh ∷ line ∷ []) is in
      let there : slice_get (lines_of_numbered_file others f) n ≡ Some fresh =
      ap (λ ls. slice_get ls n) (is ∙ sym (put_item_is_in_place olds n line fresh on.is)) ∙ inserted_item_is_there olds n fresh (omega (arith, within)) in
      let next : physical_line_of_file_line (lines_of_numbered_file others f) (n + 1) ≡ on.only.at.row + row.lfs =
      sym (physical_line_of_next_line_adds_lf_count (lines_of_numbered_file others f) n on.only.at.row row.lfs fresh there (ap (λ (s : WalkLineSpot). s.row) (sym first)) stands.lfs) in
      let moved : moved_spot f n move on.only.at ≡ record { file = on.only.at.file; line = on.only.at.line + move.up - move.down; row = on.only.at.row + move.more - move.less } = spot_moves_from n (omega arith) in
      ap₂ (λ (a b : WalkLineSpot). a ∷ b ∷ []) first
      (spot_fields_are f (n + 1) (physical_line_of_file_line (lines_of_numbered_file others f) (n + 1)) on.only.at.file (on.only.at.line + move.up - move.down) (on.only.at.row + move.more - move.less) (sym file_is)
      (omega (arith, line_is, ap (λ (m : LineMove). m.up) move_is, ap (λ (m : LineMove). m.down) move_is)) (omega (arith, next, ap (λ (m : LineMove). m.more) move_is, ap (λ (m : LineMove). m.less) move_is))
      ∙ sym moved)

  -- What is left is the policy with the line before the other.
  pub line_put_is_change_in_place : IsPlainNode (node_in_tables old.tables row.node) → move ≡ record { up = 1; down = 0; more = row.lfs; less = 0 } → new.tables ≡ old.tables
      → map (parsed_file_of_rows old.tables) new.files.items ≡ files_with_other_lines f (λ (lines : List Line). insert lines n fresh) (map (parsed_file_of_rows old.tables) old.files.items)
      → All (HasSoundFileRows old.tables) new.files.items → new.lines.items ≡ insert old.lines.items place.number row
      → new.spots.items ≡ insert (map (moved_spot f n move) old.spots.items) place.number on.only.at → new.on.items ≡ old.on.items
      → ((k : Kind) → index_entries_of_kind k new.index ≡ map (moved_entry place.number move) (index_entries_of_kind k old.index))
      → IsChangedInPlace old new (Put f n (text_in_tables old.tables row.text)) (λ (lines : List Line). insert lines n fresh) f n place.number line (fresh ∷ line ∷ []) n place.number move
  line_put_is_change_in_place plain move_is tables files sound lines spots same_on index =
      let changed : insert olds n fresh ≡ with_items_in_place n (fresh ∷ line ∷ []) olds = put_item_is_in_place olds n line fresh on.is in
      let files_are : map (parsed_file_of_rows new.tables) new.files.items ≡ files_with_other_lines f (λ (ls : List Line). insert ls n fresh) (policy_of_walked_files old).files =
      ap (λ t. map (parsed_file_of_rows t) new.files.items) tables ∙ files in
      let here : lines_of_numbered_file (policy_of_walked_files new).files f ≡ with_items_in_place n (fresh ∷ line ∷ []) olds =
      ap (λ fs. lines_of_numbered_file fs f) files_are ∙ (other_lines_are_in_file f (λ (ls : List Line). insert ls n fresh) (policy_of_walked_files old).files n line on.is).0 ∙ changed in
      record {
        number = refl;
        files = files_are;
        changed = changed;
        texts = single_put_is_insert (texts_of_lines olds) f n (text_in_tables old.tables row.text) (omega (arith, within_texts)) ∙ sym (map_of_insert_is_insert_of_map (λ (l : Line). l.text) n olds fresh);
        at_place = on.is;
        on_walk = on.on;
        only = on.only;
        nowhere_before = line_that_is_no_include_leads_nowhere line no_include;
        nowhere_then = (plain_line_leads_nowhere fresh plain, (line_that_is_no_include_leads_nowhere line no_include, tt));
        moves = subst (MovesLinesBehind (fresh ∷ line ∷ []) line n n) (sym move_is) (record {
          low = omega arith;
          high = omega arith;
          count = refl;
          feeds = omega (arith, lf_count_of_appended_lines (fresh ∷ []) (line ∷ []), lf_count_of_one_line fresh row.lfs stands.lfs);
        });
        low = omega arith;
        high = omega arith;
        walk_line = walk_line;
        lines =
            ap (λ t. map (line_of_row t) new.lines.items) tables ∙ ap (map (line_of_row old.tables)) lines
            ∙ map_of_insert_is_insert_of_map (line_of_row old.tables) place.number old.lines.items row
            ∙ put_item_is_in_place (lines_of_kept_walk old) place.number line fresh walk_line;
        spots =
            spots
            ∙ put_item_is_in_place (map (moved_spot f n move) old.spots.items) place.number (moved_spot f n move on.only.at) on.only.at
            (slice_get-map (moved_spot f n move) old.spots.items place.number ∙ ap (option_map (moved_spot f n move)) on.only.there)
            ∙ ap (λ ss. with_items_in_place place.number ss (map (moved_spot f n move) old.spots.items)) (sym (spots_of_put_line move_is (policy_of_walked_files new).files here));
        on = same_on;
        keys =
            ap (λ ds. keys_of_definitions (ds ++ (definitions_in_line (place.number + 1) line.node ++ []))) (plain_line_defines_nothing place.number fresh.node plain)
            ∙ ap keys_of_definitions (append-nil (definitions_in_line (place.number + 1) line.node))
            ∙ sym (keys_of_line_behind_move place.number move place.number (place.number + 1) line.node (omega arith) (omega (arith, ap (λ (m : LineMove). m.up) move_is, ap (λ (m : LineMove). m.down) move_is)));
        index = index;
        sound = subst (λ t. All (HasSoundFileRows t) new.files.items) (sym tables) sound;
        stand = subst (λ t. All (IsLastingLineRow t) new.lines.items) (sym tables)
            (subst (All (IsLastingLineRow old.tables)) (sym lines) (all_items_and_new (IsLastingLineRow old.tables) old.lines.items place.number row stands walked.stand));
      }

  -- ---- a line that is put in the place of the other

  entry_stays : move.up ≡ 0 → move.down ≡ 0 → (from : ℕ) (e : List ℕ × Place) → moved_entry from move e ≡ e
  entry_stays up down from e = by (nat_le from e.1.line)
    where
      by : (b : Bool) → (let x : List ℕ × Place = (e.0, if b then record { line = e.1.line + move.up - move.down; def = e.1.def } else e.1) in x) ≡ e
      by true = ap (λ l. let x : List ℕ × Place = (e.0, record { line = l; def = e.1.def }) in x) (omega (arith, up, down))
      by false = refl

  entries_stay : move.up ≡ 0 → move.down ≡ 0 → (from : ℕ) (es : List (List ℕ × Place)) → es ≡ map (moved_entry from move) es
  entries_stay up down from [] = refl
  entries_stay up down from (e ∷ es) = ap₂ (λ x xs. x ∷ xs) (sym (entry_stays up down from e)) (entries_stay up down from es)

  -- What is left is the policy with the line in the place of the other.
  pub line_set_is_change_in_place : IsNoIncludeNode (node_in_tables old.tables row.node)
      → keys_of_definitions (definitions_in_line place.number fresh.node) ≡ keys_of_definitions (definitions_in_line place.number line.node)
      → move ≡ record { up = 0; down = 0; more = row.lfs; less = place.row.lfs } → new.tables ≡ old.tables
      → map (parsed_file_of_rows old.tables) new.files.items ≡ files_with_other_lines f (λ (lines : List Line). set lines n fresh) (map (parsed_file_of_rows old.tables) old.files.items)
      → All (HasSoundFileRows old.tables) new.files.items → new.lines.items ≡ set old.lines.items place.number row
      → new.spots.items ≡ map (moved_spot f (n + 1) move) old.spots.items → new.on.items ≡ old.on.items → new.index ≡ old.index
      → IsChangedInPlace old new (Swap f n (text_in_tables old.tables row.text)) (λ (lines : List Line). set lines n fresh) f n place.number line (fresh ∷ []) (n + 1) (place.number + 1) move
  line_set_is_change_in_place no_new_include keys move_is tables files sound lines spots same_on index =
      let up : move.up ≡ 0 = ap (λ (m : LineMove). m.up) move_is in
      let down : move.down ≡ 0 = ap (λ (m : LineMove). m.down) move_is in
      let changed : set olds n fresh ≡ with_items_in_place n (fresh ∷ []) olds = set_item_is_in_place olds n line fresh on.is in
      let files_are : map (parsed_file_of_rows new.tables) new.files.items ≡ files_with_other_lines f (λ (ls : List Line). set ls n fresh) (policy_of_walked_files old).files =
      ap (λ t. map (parsed_file_of_rows t) new.files.items) tables ∙ files in
      let here : lines_of_numbered_file (policy_of_walked_files new).files f ≡ with_items_in_place n (fresh ∷ []) olds =
      ap (λ fs. lines_of_numbered_file fs f) files_are ∙ (other_lines_are_in_file f (λ (ls : List Line). set ls n fresh) (policy_of_walked_files old).files n line on.is).0 ∙ changed in
      let moved : List WalkLineSpot = map (moved_spot f (n + 1) move) old.spots.items in
      let spot_there : slice_get moved place.number ≡ Some on.only.at =
      slice_get-map (moved_spot f (n + 1) move) old.spots.items place.number ∙ ap (option_map (moved_spot f (n + 1) move)) on.only.there ∙ ap (λ s. Some s) spot_stays_before in
      record {
        number = refl;
        files = files_are;
        changed = changed;
        texts = single_swap_is_replacement (texts_of_lines olds) f n (text_in_tables old.tables row.text) within_texts ∙ replaced_line_is_set n (text_in_tables old.tables row.text) (texts_of_lines olds)
            ∙ sym (map_of_set_is_set_of_map (λ (l : Line). l.text) n olds fresh);
        at_place = on.is;
        on_walk = on.on;
        only = on.only;
        nowhere_before = line_that_is_no_include_leads_nowhere line no_include;
        nowhere_then = (line_that_is_no_include_leads_nowhere fresh no_new_include, tt);
        moves = subst (MovesLinesBehind (fresh ∷ []) line n (n + 1)) (sym move_is) (record {
          low = omega arith;
          high = omega arith;
          count = refl;
          feeds = omega (arith, lf_count_of_one_line fresh row.lfs stands.lfs, lfs_of_line_are_those_of_row old f n place on);
        });
        low = omega arith;
        high = omega arith;
        walk_line = walk_line;
        lines =
            ap (λ t. map (line_of_row t) new.lines.items) tables ∙ ap (map (line_of_row old.tables)) lines
            ∙ map_of_set_is_set_of_map (line_of_row old.tables) place.number old.lines.items row
            ∙ set_item_is_in_place (lines_of_kept_walk old) place.number line fresh walk_line;
        spots =
            spots ∙ sym (list_splits_at_item moved place.number on.only.at spot_there)
            ∙ ap (λ s. with_items_in_place place.number (s ∷ []) moved) (sym (first_spot_stays (policy_of_walked_files new).files (fresh ∷ []) here));
        on = same_on;
        keys =
            ap keys_of_definitions (append-nil (definitions_in_line place.number fresh.node)) ∙ keys
            ∙ sym (keys_of_line_before_stay (place.number + 1) move place.number line.node (omega arith));
        index = λ k. ap (index_entries_of_kind k) index ∙ entries_stay up down (place.number + 1) (index_entries_of_kind k old.index);
        sound = subst (λ t. All (HasSoundFileRows t) new.files.items) (sym tables) sound;
        stand = subst (λ t. All (IsLastingLineRow t) new.lines.items) (sym tables)
            (subst (All (IsLastingLineRow old.tables)) (sym lines) (All-set (IsLastingLineRow old.tables) old.lines.items place.number row stands walked.stand));
      }
