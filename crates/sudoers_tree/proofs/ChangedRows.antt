-- Files of which one has other rows.
use Rattle.sudoers_tree.proofs.Common.{All, AllByRecursion, AreWithinLineLimit, HasSoundFileRows, IsLastingLineRow, IsLogicalLine, IsWithinLineLimit, Line, LineRow, List, ParsedFile, ParsedFileRows, Some, Tables, [], ap, ap₂}
use Rattle.sudoers_tree.proofs.Common.{arith, get_or, join, length, line_of_row, map, parsed_file_of_rows, remove, slice_get, slice_get-get_or, subst, suc, sym, text_limit, texts_of_lines, zero}
use Rattle.sudoers_tree.proofs.Common.{ℕ, ◌+◌, ◌<◌, ◌∙◌, ◌∷◌, ◌≡◌, ◌≤◌}
use Rattle.std.proofs.Common.{set}
use Rattle.sudoers_tree.proofs.Common.{insert, length-map, option_map, slice_get-map}
use Rattle.std.proofs.lemmas.List.Elements.{All-set}
use Rattle.sudoers_tree.proofs.SplicedLists.{all_items_and_new, all_items_but_one, join_with_other_text_has_its_size, join_with_text_is_longer_by_it, map_of_insert_is_insert_of_map, map_of_set_is_set_of_map, property_of_all_and_new_holds_after_set, property_of_all_and_new_holds_with_item, join_without_text_is_no_longer, map_of_remove_is_remove_of_map, property_of_all_holds_without_item}
use Rattle.sudoers_tree.specs.internal.InPlace.{IsShortLineRow, files_with_other_lines}

-- Where the rows of one file are others, it has the lines that these hold.
pub file_with_other_rows_has_other_lines : (t : Tables) (files : List ParsedFileRows) (f : ℕ) (d new : ParsedFileRows) (h : List Line → List Line) → f < length files → new.name ≡ (get_or files f d).name
    → new.fault ≡ (get_or files f d).fault → map (line_of_row t) new.rows.items ≡ h (map (line_of_row t) (get_or files f d).rows.items)
    → map (parsed_file_of_rows t) (set files f new) ≡ files_with_other_lines f h (map (parsed_file_of_rows t) files)
file_with_other_rows_has_other_lines t [] f d new h less name fault lines = absurd (omega (arith, less))
file_with_other_rows_has_other_lines t (file ∷ files) zero d new h less name fault lines =
    ap (λ n. let x : ParsedFile = record { name = n; lines = map (line_of_row t) new.rows.items; fault = new.fault } in x ∷ map (parsed_file_of_rows t) files) (ap (λ x. x) name)
    ∙ ap₂ (λ ls e. let x : ParsedFile = record { name = file.name; lines = ls; fault = e } in x ∷ map (parsed_file_of_rows t) files) lines fault
file_with_other_rows_has_other_lines t (file ∷ files) (suc f) d new h less name fault lines =
    ap (λ fs. parsed_file_of_rows t file ∷ fs) (file_with_other_rows_has_other_lines t files f d new h (omega (arith, less)) name fault lines)

-- A file without one of its rows is sound.
pub file_without_row_stays_sound : (t : Tables) (file new : ParsedFileRows) (n : ℕ) (d : LineRow) → n < length file.rows.items → new.rows.items ≡ remove file.rows.items n → new.bytes ≡ file.bytes → HasSoundFileRows t file → HasSoundFileRows t new
file_without_row_stays_sound t file new n d less rows bytes is =
    let lines : texts_of_lines (map (line_of_row t) new.rows.items) ≡ remove (texts_of_lines (map (line_of_row t) file.rows.items)) n =
    ap (λ rs. texts_of_lines (map (line_of_row t) rs)) rows
    ∙ ap texts_of_lines (map_of_remove_is_remove_of_map (line_of_row t) n file.rows.items)
    ∙ map_of_remove_is_remove_of_map (λ (line : Line). line.text) n (map (line_of_row t) file.rows.items) in
    record {
      stand = subst (All (IsLastingLineRow t)) (sym rows) (all_items_but_one (IsLastingLineRow t) file.rows.items n d less is.stand);
      whole = subst (AllByRecursion IsLogicalLine) (sym lines) (property_of_all_holds_without_item IsLogicalLine n (texts_of_lines (map (line_of_row t) file.rows.items)) is.whole);
      short = subst AreWithinLineLimit (sym lines) (property_of_all_holds_without_item IsWithinLineLimit n (texts_of_lines (map (line_of_row t) file.rows.items)) is.short);
      fits = omega (arith, ap (λ ts. length (join ts)) lines, join_without_text_is_no_longer n (texts_of_lines (map (line_of_row t) file.rows.items)), is.fits);
      held = omega (arith, ap (λ ts. length (join ts)) lines, join_without_text_is_no_longer n (texts_of_lines (map (line_of_row t) file.rows.items)), is.held, bytes);
    }

-- A file with one row more is sound.
pub file_with_row_stays_sound : (t : Tables) (file new : ParsedFileRows) (n size : ℕ) (row : LineRow) → n ≤ length file.rows.items → new.rows.items ≡ insert file.rows.items n row
    → new.bytes ≡ file.bytes + size → file.bytes + size ≤ text_limit → HasSoundFileRows t file → IsShortLineRow t size row → HasSoundFileRows t new
file_with_row_stays_sound t file new n size row within rows bytes room is line =
    let olds : List LineRow = file.rows.items in
    let texts : List (List ℕ) = texts_of_lines (map (line_of_row t) olds) in
    let lines : texts_of_lines (map (line_of_row t) new.rows.items) ≡ insert texts n (line_of_row t row).text =
    ap (λ rs. texts_of_lines (map (line_of_row t) rs)) rows
    ∙ ap texts_of_lines (map_of_insert_is_insert_of_map (line_of_row t) n olds row)
    ∙ map_of_insert_is_insert_of_map (λ (line : Line). line.text) n (map (line_of_row t) olds) (line_of_row t row) in
    let count : n ≤ length texts = omega (arith, within, length-map olds (line_of_row t), length-map (map (line_of_row t) olds) (λ (line : Line). line.text)) in
    record {
      stand = subst (All (IsLastingLineRow t)) (sym rows) (all_items_and_new (IsLastingLineRow t) olds n row line.stands is.stand);
      whole = subst (AllByRecursion IsLogicalLine) (sym lines) (property_of_all_and_new_holds_with_item IsLogicalLine n texts (line_of_row t row).text is.whole line.logical count);
      short = subst AreWithinLineLimit (sym lines) (property_of_all_and_new_holds_with_item IsWithinLineLimit n texts (line_of_row t row).text is.short line.short count);
      fits = omega (arith, ap (λ ts. length (join ts)) lines, join_with_text_is_longer_by_it n texts (line_of_row t row).text count, is.held, room, line.size_is);
      held = omega (arith, ap (λ ts. length (join ts)) lines, join_with_text_is_longer_by_it n texts (line_of_row t row).text count, is.held, bytes, line.size_is);
    }

-- A file of which one row is another is sound.
pub file_with_other_row_stays_sound : (t : Tables) (file new : ParsedFileRows) (n size : ℕ) (d row : LineRow) → n < length file.rows.items → new.rows.items ≡ set file.rows.items n row
    → new.bytes ≡ file.bytes + size → file.bytes + size ≤ text_limit → HasSoundFileRows t file → IsShortLineRow t size row → HasSoundFileRows t new
file_with_other_row_stays_sound t file new n size d row less rows bytes room is line =
    let olds : List LineRow = file.rows.items in
    let texts : List (List ℕ) = texts_of_lines (map (line_of_row t) olds) in
    let lines : texts_of_lines (map (line_of_row t) new.rows.items) ≡ set texts n (line_of_row t row).text =
    ap (λ rs. texts_of_lines (map (line_of_row t) rs)) rows
    ∙ ap texts_of_lines (map_of_set_is_set_of_map (line_of_row t) n olds row)
    ∙ map_of_set_is_set_of_map (λ (line : Line). line.text) n (map (line_of_row t) olds) (line_of_row t row) in
    let old : Line = line_of_row t (get_or olds n d) in
    let old_text : slice_get texts n ≡ Some old.text =
    slice_get-map (λ (line : Line). line.text) (map (line_of_row t) olds) n
    ∙ ap (option_map (λ (line : Line). line.text)) (slice_get-map (line_of_row t) olds n ∙ ap (option_map (line_of_row t)) (slice_get-get_or olds n d less)) in
    record {
      stand = subst (All (IsLastingLineRow t)) (sym rows) (All-set (IsLastingLineRow t) olds n row line.stands is.stand);
      whole = subst (AllByRecursion IsLogicalLine) (sym lines) (property_of_all_and_new_holds_after_set IsLogicalLine n texts (line_of_row t row).text is.whole line.logical);
      short = subst AreWithinLineLimit (sym lines) (property_of_all_and_new_holds_after_set IsWithinLineLimit n texts (line_of_row t row).text is.short line.short);
      fits = omega (arith, ap (λ ts. length (join ts)) lines, join_with_other_text_has_its_size n texts old.text (line_of_row t row).text old_text, is.held, room, line.size_is);
      held = omega (arith, ap (λ ts. length (join ts)) lines, join_with_other_text_has_its_size n texts old.text (line_of_row t row).text old_text, is.held, bytes, line.size_is);
    }

-- Where the rows of one file are the same, so are its lines, and it is sound.
pub file_with_same_rows_has_same_lines : (t : Tables) (files : List ParsedFileRows) (f : ℕ) (d new : ParsedFileRows) → f < length files → new.name ≡ (get_or files f d).name
    → new.fault ≡ (get_or files f d).fault → map (line_of_row t) new.rows.items ≡ map (line_of_row t) (get_or files f d).rows.items
    → map (parsed_file_of_rows t) (set files f new) ≡ map (parsed_file_of_rows t) files
file_with_same_rows_has_same_lines t [] f d new less name fault lines = absurd (omega (arith, less))
file_with_same_rows_has_same_lines t (file ∷ files) zero d new less name fault lines =
    ap (λ n. let x : ParsedFile = record { name = n; lines = map (line_of_row t) new.rows.items; fault = new.fault } in x ∷ map (parsed_file_of_rows t) files) (ap (λ x. x) name)
    ∙ ap₂ (λ ls e. let x : ParsedFile = record { name = file.name; lines = ls; fault = e } in x ∷ map (parsed_file_of_rows t) files) lines fault
file_with_same_rows_has_same_lines t (file ∷ files) (suc f) d new less name fault lines =
    ap (λ fs. parsed_file_of_rows t file ∷ fs) (file_with_same_rows_has_same_lines t files f d new (omega (arith, less)) name fault lines)

pub file_with_same_rows_stays_sound : (t : Tables) (file new : ParsedFileRows) → new.rows.items ≡ file.rows.items → new.bytes ≡ file.bytes → HasSoundFileRows t file → HasSoundFileRows t new
file_with_same_rows_stays_sound t file new rows bytes is =
    let lines : texts_of_lines (map (line_of_row t) new.rows.items) ≡ texts_of_lines (map (line_of_row t) file.rows.items) = ap (λ rs. texts_of_lines (map (line_of_row t) rs)) rows in
    record {
      stand = subst (All (IsLastingLineRow t)) (sym rows) is.stand;
      whole = subst (AllByRecursion IsLogicalLine) (sym lines) is.whole;
      short = subst AreWithinLineLimit (sym lines) is.short;
      fits = omega (arith, ap (λ ts. length (join ts)) lines, is.fits);
      held = omega (arith, ap (λ ts. length (join ts)) lines, is.held, bytes);
    }
