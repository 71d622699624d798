-- The walk over files of which lines were changed in their places.
use Rattle.sudoers_tree.proofs.Common.{IncludeSite, KeepsWalkSpots, Line, List, None, Ok, ParsedFile, Some, StaysAtSpotOfWalk, WalkLineSpot, WalkState, [], ap, ap₂, arith, definitions_in_line, definitions_of_lines}
use Rattle.sudoers_tree.proofs.Common.{drop, drop_all, empty_walk, false, files_opened_by_lead, first_definition_fault, get_or_from_slice_get, include_depth_limit, include_site_of_line, is_file_on_walk}
use Rattle.sudoers_tree.proofs.Common.{lead_of_file_line, lead_of_parsed_line, length, length-drop, length_push, lf_count, lines_of_numbered_file, list_any, name_of_numbered_file, nat_eq, physical_line_of_file_line}
use Rattle.sudoers_tree.proofs.Common.{refl, slice_get, slice_get_within, spot_of_file_line, subst, suc, sym, take, take-append-drop, take_all, take_more, true, value_unless_file_fault, walk_or_fault_of_files}
use Rattle.sudoers_tree.proofs.Common.{walk_with_file_entered, walk_with_line_appended, walk_with_lines_replaced, ℕ, ◌++◌, ◌+◌, ◌∙◌, ◌∷◌, ◌≡◌}
use Rattle.sudoers_tree.specs.Goes.{Goes, Enters, IsWalkOfFiles, end, broken, wrong, shut, stops, onward, none, again, deep, inside, more}
use Rattle.sudoers_tree.proofs.Joined.{definitions_with_last_line_are_appended}
use Rattle.sudoers_tree.proofs.LineRows.{physical_line_of_next_line_adds_lf_count}
use Rattle.sudoers_tree.proofs.MappedLines.{IsExtendedWalk, WalkResult, entering_file_extends_walk, entered_file_is_on_walk, walk_extension_is_transitive, walk_extends_itself, appending_line_extends_walk, extended_walk_keeps_files_on_it, walk_with_line_at_spot}
use Rattle.sudoers_tree.proofs.MappedWalk.{equal_walk_results_have_equal_walks, lead_opens_same_files_on_walks_alike, appended_line_is_walk_with_line}
use Rattle.sudoers_tree.proofs.Numbered.{rest_of_drop_is_later_drop, drop_begins_with_numbered_item, first_of_drop_is_numbered_item}
use Rattle.sudoers_tree.proofs.SameNames.{same_file_names_name_numbered_file_alike}
use Rattle.sudoers_tree.proofs.Sound.{faultless_lines_have_faultless_front, faultless_append_has_faultless_parts}
use Rattle.sudoers_tree.proofs.WalkOutcomes.{walk_of_files_is_computed_walk, computed_walk_is_walk_of_files}

-- ---- what a walk appends

-- A line that is taken extends the walk.
appended_line_extends_walk : (name : List ℕ) (at : WalkLineSpot) (line : Line) (w next : WalkState) → walk_with_line_appended name at line w ≡ Ok next → IsExtendedWalk w next
appended_line_extends_walk name at line w next is = subst (IsExtendedWalk w) (appended_line_is_walk_with_line name at line w next is) (appending_line_extends_walk at line w)

mutual
  -- The outcome of lines of a file extends the walk before them.
  goes_extends : (files : List ParsedFile) {left f n : ℕ} {ls : List Line} {w : WalkState} {outcome : WalkResult}
      → Goes files left f n ls w outcome → (now : WalkState) → outcome ≡ Ok now → IsExtendedWalk w now
  goes_extends files (end left f n w whole) now is = subst (IsExtendedWalk w) (equal_walk_results_have_equal_walks w now is) (walk_extends_itself w)
  goes_extends files (broken left f n w fault at) now is = absurd cc
  goes_extends files (wrong left f n line rest w fault t) now is = absurd cc
  goes_extends files (shut left f n line rest w next fault t o) now is = absurd cc
  goes_extends files (stops left f n line rest w next inner fault t o e) now is = absurd cc
  goes_extends files (onward left f n line rest w next within inner outcome t o e g) now is =
      walk_extension_is_transitive w next now (appended_line_extends_walk (name_of_numbered_file files f) (spot_of_file_line files f n) line w next t)
      (walk_extension_is_transitive next within now (enters_extends files e within refl) (goes_extends files g now is))

  -- The outcome of files in turn extends the walk before them.
  enters_extends : (files : List ParsedFile) {left : ℕ} {at : IncludeSite} {inner : List ℕ} {w : WalkState} {outcome : WalkResult}
      → Enters files left at inner w outcome → (now : WalkState) → outcome ≡ Ok now → IsExtendedWalk w now
  enters_extends files (none left at w) now is = subst (IsExtendedWalk w) (equal_walk_results_have_equal_walks w now is) (walk_extends_itself w)
  enters_extends files (again left at f rest w on) now is = absurd cc
  enters_extends files (deep at f rest w off) now is = absurd cc
  enters_extends files (inside left at f rest w fault off g) now is = absurd cc
  enters_extends files (more left at f rest w next outcome off g e) now is =
      walk_extension_is_transitive w next now (walk_extension_is_transitive w (walk_with_file_entered f w) next (entering_file_extends_walk f w) (goes_extends files g next refl)) (enters_extends files e now is)

-- ---- items of lists

-- The item behind others has the number of them.
item_after_front_is_at_length_of_front : {A : Type 0} (xs : List A) (x : A) (later : List A) → slice_get ((xs ++ x ∷ []) ++ later) (length xs) ≡ Some x
item_after_front_is_at_length_of_front [] x later = refl
item_after_front_is_at_length_of_front (y ∷ xs) x later = item_after_front_is_at_length_of_front xs x later

-- So it has in a list that begins with these.
item_after_front_is_numbered_in_longer_list : {A : Type 0} (xs : List A) (x : A) (later all : List A) → (xs ++ x ∷ []) ++ later ≡ all → slice_get all (length xs) ≡ Some x
item_after_front_is_numbered_in_longer_list xs x later all is = ap (λ ys. slice_get ys (length xs)) (sym is) ∙ item_after_front_is_at_length_of_front xs x later

-- One more item is taken.
take_of_next_number_adds_item : {A : Type 0} (xs : List A) (n : ℕ) (x : A) → slice_get xs n ≡ Some x → take (n + 1) xs ≡ take n xs ++ x ∷ []
take_of_next_number_adds_item xs n x is =
    take_more xs n x (slice_get_within xs n x is) ∙ ap (λ y. take n xs ++ y ∷ []) (get_or_from_slice_get xs n x x is)

-- Nothing follows in a list as long as one in which nothing follows.
drop_is_empty_for_equal_lengths : {A B : Type 0} (n : ℕ) (xs : List A) (ys : List B) → [] ≡ drop n xs → length ys ≡ length xs → drop n ys ≡ []
drop_is_empty_for_equal_lengths n xs ys gone same = drop_all n ys (omega (arith, same, length-drop n xs, ap length gone))

-- ---- a walk beside another

-- The walk v passes what the walk w passes, and has taken these lines at its spots.
record IsWalkBesideWithLines (lines : List Line) (v w : WalkState) : Type 0 where
  spots : v.spots ≡ w.spots
  on : v.on ≡ w.on
  taken_lines : v.lines ≡ take (length w.spots) lines
  paired : length w.spots ≡ length w.lines

-- Both walks enter a file.
entering_file_keeps_walks_beside : (lines : List Line) (f : ℕ) (v w : WalkState) → IsWalkBesideWithLines lines v w → IsWalkBesideWithLines lines (walk_with_file_entered f v) (walk_with_file_entered f w)
entering_file_keeps_walks_beside lines f v w is =
    record { spots = is.spots; on = ap (λ on. on ++ f ∷ []) is.on; taken_lines = is.taken_lines; paired = is.paired }

-- Both walks take a line at the same spot.
line_at_same_spot_keeps_walks_beside : (lines : List Line) (at other_at : WalkLineSpot) (line new : Line) (v w : WalkState) → IsWalkBesideWithLines lines v w → other_at ≡ at
    → slice_get lines (length w.spots) ≡ Some new → IsWalkBesideWithLines lines (walk_with_line_at_spot other_at new v) (walk_with_line_at_spot at line w)
line_at_same_spot_keeps_walks_beside lines at other_at line new v w is same got = record {
  spots = ap₂ (λ (spots : List WalkLineSpot) (spot : WalkLineSpot). spots ++ spot ∷ []) is.spots same;
  on = is.on;
  taken_lines =
      ap (λ ls. ls ++ new ∷ []) is.taken_lines
      ∙ sym (take_of_next_number_adds_item lines (length w.spots) new got)
      ∙ ap (λ n. take n lines) (sym (length_push w.spots at));
  paired = omega (arith, is.paired, length_push w.spots at, length_push w.lines line);
}

-- The walk takes a line that is the next of lines of which no name has a fault.
walk_takes_next_of_faultless_lines : (lines : List Line) (name : List ℕ) (at : WalkLineSpot) (new : Line) (n : ℕ) (v : WalkState) → first_definition_fault [] (definitions_of_lines lines) ≡ None
    → v.lines ≡ take n lines → slice_get lines n ≡ Some new → walk_with_line_appended name at new v ≡ Ok (walk_with_line_at_spot at new v)
walk_takes_next_of_faultless_lines lines name at new n v sound are got =
    let whole : (v.lines ++ new ∷ []) ++ drop (n + 1) lines ≡ lines =
    ap (λ ls. (ls ++ new ∷ []) ++ drop (n + 1) lines) are
    ∙ ap (λ ls. ls ++ drop (n + 1) lines) (sym (take_of_next_number_adds_item lines n new got))
    ∙ take-append-drop (n + 1) lines in
    let front : first_definition_fault [] (definitions_of_lines (v.lines ++ new ∷ [])) ≡ None =
    faultless_lines_have_faultless_front (v.lines ++ new ∷ []) (drop (n + 1) lines) (ap (λ ls. first_definition_fault [] (definitions_of_lines ls)) whole ∙ sound) in
    let here : first_definition_fault (definitions_of_lines v.lines) (definitions_in_line (length v.lines) new.node) ≡ None =
    (faultless_append_has_faultless_parts (definitions_of_lines v.lines) (definitions_in_line (length v.lines) new.node)
    (ap (first_definition_fault []) (sym (definitions_with_last_line_are_appended v.lines new)) ∙ front)).1 in
    ap (value_unless_file_fault name (walk_with_line_at_spot at new v)) here

-- ---- the walk

-- The walk v takes the line with the number n of the file f of the files `others`, and stands beside the walk `next` then. The line opens
-- these files, and the line after it begins on the same row as in `files`.
record TakesNextLineBesideWalk (files others : List ParsedFile) (lines : List Line) (f n : ℕ) (inner : List ℕ) (v next : WalkState) : Type 0 where
  new : Line
  first : drop n (lines_of_numbered_file others f) ≡ new ∷ drop (n + 1) (lines_of_numbered_file others f)
  takes : walk_with_line_appended (name_of_numbered_file others f) (spot_of_file_line others f n) new v ≡ Ok (walk_with_line_at_spot (spot_of_file_line others f n) new v)
  opens : files_opened_by_lead others (include_site_of_line others f n) (walk_with_line_at_spot (spot_of_file_line others f n) new v) (lead_of_file_line others f new) ≡ Ok inner
  beside : IsWalkBesideWithLines lines (walk_with_line_at_spot (spot_of_file_line others f n) new v) next
  row : physical_line_of_file_line (lines_of_numbered_file others f) (n + 1) ≡ physical_line_of_file_line (lines_of_numbered_file files f) (n + 1)

-- This goes to a walk that stands beside `now`.
abbrev EndsAtWalkBeside : List Line → WalkState → (WalkResult → Type 0) → Type 0
EndsAtWalkBeside lines now goes = (last : WalkState) × goes (Ok last) × IsWalkBesideWithLines lines last now

module _ (files others : List ParsedFile) (total : WalkState) (lines : List Line) (keeps : KeepsWalkSpots files others total lines) where
  -- The other walk takes the line that stands at this place.
  next_line : (f n : ℕ) (line : Line) (rest : List Line) (w next : WalkState) (inner : List ℕ)
      → walk_with_line_appended (name_of_numbered_file files f) (spot_of_file_line files f n) line w ≡ Ok next
      → files_opened_by_lead files (include_site_of_line files f n) next (lead_of_file_line files f line) ≡ Ok inner
      → IsExtendedWalk next total → line ∷ rest ≡ drop n (lines_of_numbered_file files f)
      → physical_line_of_file_line (lines_of_numbered_file others f) n ≡ physical_line_of_file_line (lines_of_numbered_file files f) n
      → (v : WalkState) → IsWalkBesideWithLines lines v w → TakesNextLineBesideWalk files others lines f n inner v next
  next_line f n line rest w next inner t o later from row v is = record {
    new = at.new;
    first = drop_begins_with_numbered_item (lines_of_numbered_file others f) n at.new at.in_file;
    takes = walk_takes_next_of_faultless_lines lines (name_of_numbered_file others f) (spot_of_file_line others f n) at.new (length w.spots) v keeps.sound is.taken_lines at.on_walk;
    opens = ap (files_opened_by_lead others (include_site_of_line others f n) longer) lead
        ∙ lead_opens_same_files_on_walks_alike files others (sym keeps.names) (include_site_of_line files f n) (include_site_of_line others f n) longer next (lead_of_file_line files f line) inner beside.on o;
    beside = beside;
    row = sym (physical_line_of_next_line_adds_lf_count (lines_of_numbered_file others f) n (physical_line_of_file_line (lines_of_numbered_file others f) n) (lf_count at.new.text) at.new at.in_file refl refl)
        ∙ ap₂ (λ (a b : ℕ). a + b) row at.beside.lfs
        ∙ physical_line_of_next_line_adds_lf_count (lines_of_numbered_file files f) n (physical_line_of_file_line (lines_of_numbered_file files f) n) (lf_count line.text) line old_at refl refl;
  }
    where
      spot : WalkLineSpot
      spot = spot_of_file_line files f n

      same : walk_with_line_at_spot spot line w ≡ next
      same = appended_line_is_walk_with_line (name_of_numbered_file files f) spot line w next t

      past : IsExtendedWalk (walk_with_line_at_spot spot line w) total
      past = subst (λ p. IsExtendedWalk p total) (sym same) later

      old_at : slice_get (lines_of_numbered_file files f) n ≡ Some line
      old_at = first_of_drop_is_numbered_item rest (lines_of_numbered_file files f) n line from

      line_at : slice_get total.lines (length w.spots) ≡ Some line
      line_at = ap (slice_get total.lines) is.paired ∙ item_after_front_is_numbered_in_longer_list w.lines line past.lines total.lines past.lines_are

      at : StaysAtSpotOfWalk files others lines (length w.spots) spot line
      at = keeps.stay (length w.spots) spot line (item_after_front_is_numbered_in_longer_list w.spots spot past.spots total.spots past.spots_are) line_at

      longer : WalkState
      longer = walk_with_line_at_spot (spot_of_file_line others f n) at.new v

      spot_alike : spot_of_file_line others f n ≡ spot
      spot_alike = ap (λ (r : ℕ). let s : WalkLineSpot = record { file = f; line = n; row = r } in s) row

      beside : IsWalkBesideWithLines lines longer next
      beside = subst (IsWalkBesideWithLines lines longer) same (line_at_same_spot_keeps_walks_beside lines spot (spot_of_file_line others f n) line at.new v w is spot_alike at.on_walk)

      lead : lead_of_file_line others f at.new ≡ lead_of_file_line files f line
      lead = ap (λ called. lead_of_parsed_line called at.new.node) (sym (same_file_names_name_numbered_file_alike files others (sym keeps.names) f)) ∙ at.beside.lead

  mutual
    -- The other walk goes along the lines of a file.
    goes_along : {left f n : ℕ} {ls : List Line} {w : WalkState} {outcome : WalkResult} → Goes files left f n ls w outcome
        → (now : WalkState) → outcome ≡ Ok now → IsExtendedWalk now total → ls ≡ drop n (lines_of_numbered_file files f)
        → physical_line_of_file_line (lines_of_numbered_file others f) n ≡ physical_line_of_file_line (lines_of_numbered_file files f) n → is_file_on_walk w f ≡ true → (v : WalkState) → IsWalkBesideWithLines lines v w
        → EndsAtWalkBeside lines now (Goes others left f n (drop n (lines_of_numbered_file others f)) v)
    goes_along (end left f n w whole) now is later from row on v beside =
        let on_total : is_file_on_walk total f ≡ true = extended_walk_keeps_files_on_it f w total (subst (λ p. IsExtendedWalk p total) (sym (equal_walk_results_have_equal_walks w now is)) later) on in
        let gone : drop n (lines_of_numbered_file others f) ≡ [] = drop_is_empty_for_equal_lengths n (lines_of_numbered_file files f) (lines_of_numbered_file others f) from (keeps.counts f on_total) in (
          v,
          subst (λ ls. Goes others left f n ls v (Ok v)) (sym gone) (end left f n v (keeps.parse f on_total)),
          subst (IsWalkBesideWithLines lines v) (equal_walk_results_have_equal_walks w now is) beside,
        )
    goes_along (broken left f n w fault at) now is later from row on v beside = absurd cc
    goes_along (wrong left f n line rest w fault t) now is later from row on v beside = absurd cc
    goes_along (shut left f n line rest w next fault t o) now is later from row on v beside = absurd cc
    goes_along (stops left f n line rest w next inner fault t o e) now is later from row on v beside = absurd cc
    goes_along (onward left f n line rest w next within inner outcome t o e g) now is later from row on v beside =
        let front : IsExtendedWalk next within = enters_extends files e within refl in
        let to_end : IsExtendedWalk within total = walk_extension_is_transitive within now total (goes_extends files g now is) later in
        let past : IsExtendedWalk w within =
        walk_extension_is_transitive w next within (appended_line_extends_walk (name_of_numbered_file files f) (spot_of_file_line files f n) line w next t) front in
        let there : TakesNextLineBesideWalk files others lines f n inner v next =
        next_line f n line rest w next inner t o (walk_extension_is_transitive next within total front to_end) from row v beside in
        let longer : WalkState = walk_with_line_at_spot (spot_of_file_line others f n) there.new v in
        let opened_too : EndsAtWalkBeside lines within (Enters others left (include_site_of_line others f n) inner longer) =
        enters_along e within refl to_end (include_site_of_line others f n) longer there.beside in
        let onward_too : EndsAtWalkBeside lines now (Goes others left f (n + 1) (drop (n + 1) (lines_of_numbered_file others f)) opened_too.0) =
        goes_along g now is later (rest_of_drop_is_later_drop rest (lines_of_numbered_file files f) n line from) there.row (extended_walk_keeps_files_on_it f w within past on) opened_too.0
        opened_too.2 in (
          onward_too.0,
          subst (λ ls. Goes others left f n ls v (Ok onward_too.0)) (sym there.first)
              (onward left f n there.new (drop (n + 1) (lines_of_numbered_file others f)) v longer opened_too.0 inner (Ok onward_too.0) there.takes there.opens
              opened_too.1 onward_too.1),
          onward_too.2,
        )

    -- The other walk goes along files in turn.
    enters_along : {left : ℕ} {at : IncludeSite} {inner : List ℕ} {w : WalkState} {outcome : WalkResult} → Enters files left at inner w outcome
        → (now : WalkState) → outcome ≡ Ok now → IsExtendedWalk now total → (other_at : IncludeSite) (v : WalkState) → IsWalkBesideWithLines lines v w
        → EndsAtWalkBeside lines now (Enters others left other_at inner v)
    enters_along (none left at w) now is later other_at v beside =
        (v, none left other_at v, subst (IsWalkBesideWithLines lines v) (equal_walk_results_have_equal_walks w now is) beside)
    enters_along (again left at f rest w on) now is later other_at v beside = absurd cc
    enters_along (deep at f rest w off) now is later other_at v beside = absurd cc
    enters_along (inside left at f rest w fault off g) now is later other_at v beside = absurd cc
    enters_along (more left at f rest w next outcome off g e) now is later other_at v beside =
        let to_end : IsExtendedWalk next total = walk_extension_is_transitive next now total (enters_extends files e now is) later in
        let inside_too : EndsAtWalkBeside lines next (Goes others left f 0 (lines_of_numbered_file others f) (walk_with_file_entered f v)) =
        goes_along g next refl to_end refl refl (entered_file_is_on_walk f w) (walk_with_file_entered f v) (entering_file_keeps_walks_beside lines f v w beside) in
        let rest_too : EndsAtWalkBeside lines now (Enters others (suc left) other_at rest inside_too.0) =
        enters_along e now is later other_at inside_too.0 inside_too.2 in
        let off_too : is_file_on_walk v f ≡ false = ap (list_any (nat_eq f)) beside.on ∙ off in
        (rest_too.0, more left other_at f rest v inside_too.0 (Ok rest_too.0) off_too inside_too.1 rest_too.1, rest_too.2)

-- A walk with the spots and the files of another is that one with its lines.
walk_of_same_parts_has_lines_replaced : (v : WalkState) (lines : List Line) (w : WalkState) → v.lines ≡ lines → v.spots ≡ w.spots → v.on ≡ w.on
    → (let r : WalkResult = Ok v in r) ≡ Ok (walk_with_lines_replaced lines w)
walk_of_same_parts_has_lines_replaced v lines w first second third =
    ap (λ (ls : List Line). walk ls v.spots v.on) first ∙ ap₂ (λ (spots : List WalkLineSpot) (on : List ℕ). walk lines spots on) second third
  where
    walk : List Line → List WalkLineSpot → List ℕ → WalkResult
    walk ls spots on = Ok (record { lines = ls; spots = spots; on = on })

-- The walk over files of which lines were changed in their places has the spots and the files of the walk before, and the new lines.
pub walk_of_kept_spots_has_lines_replaced : (files others : List ParsedFile) (w : WalkState) (lines : List Line) → walk_or_fault_of_files files ≡ Ok w → KeepsWalkSpots files others w lines
    → walk_or_fault_of_files others ≡ Ok (walk_with_lines_replaced lines w)
walk_of_kept_spots_has_lines_replaced files others w lines is keeps =
    let start : IsWalkBesideWithLines lines empty_walk empty_walk = record { spots = refl; on = refl; taken_lines = refl; paired = refl } in
    let goes : IsWalkOfFiles files (Ok w) = subst (IsWalkOfFiles files) is (computed_walk_is_walk_of_files files) in
    let there : EndsAtWalkBeside lines w (Goes others include_depth_limit 0 0 (lines_of_numbered_file others 0) (walk_with_file_entered 0 empty_walk)) =
    goes_along files others w lines keeps goes w refl (walk_extends_itself w) refl refl (entered_file_is_on_walk 0 empty_walk) (walk_with_file_entered 0 empty_walk)
    (entering_file_keeps_walks_beside lines 0 empty_walk empty_walk start) in
    let all : there.0.lines ≡ lines =
    there.2.taken_lines ∙ take_all (length w.spots) lines (omega (arith, keeps.paired)) in
    walk_of_files_is_computed_walk others (Ok there.0) there.1 ∙ walk_of_same_parts_has_lines_replaced there.0 lines w all there.2.spots there.2.on
