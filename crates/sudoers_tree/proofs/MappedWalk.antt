-- The walk over files of which lines were changed, where each line keeps its lead.
use Rattle.sudoers_tree.proofs.Common.{AllByRecursion, AreDefinedNamesValid, AreFilesMapped, Bool, Err, FileVisit, InFile, IncludeSite, IsMappedWalk, KeepsIncludeLead, Lead, Line, LineToLinesMapping, List, LoadFault, None}
use Rattle.sudoers_tree.proofs.Common.{Ok, Option, ParsedFile, PlacedDefinition, ReadFault, Result, Some, SyntaxFault, WalkLineSpot, WalkState, [], ap, append-nil, append_assoc, definitions_in_line}
use Rattle.sudoers_tree.proofs.Common.{definitions_of_lines, drop, empty_walk, false, fault_of_numbered_file, file_names, files_opened_by_lead, files_unless_missing_or_on_walk, files_unless_on_walk, first_definition_fault}
use Rattle.sudoers_tree.proofs.Common.{first_file_on_walk, if◌then◌else◌, include_depth_limit, include_site_of_line, is_file_on_walk, lead_of_file_line, lead_of_parsed_line, length, lines_of_numbered_file, list_any}
use Rattle.sudoers_tree.proofs.Common.{load_result_and_then, mapped_lines_at_spots, mapped_lines_from_number, name_of_numbered_file, nat_eq, nowhere, one, option_map, refl, repeated_include_fault, slice_get}
use Rattle.sudoers_tree.proofs.Common.{spot_of_file_line, subst, suc, sym, syntax_fault_as_read_fault, targets_of_lead, true, value_unless_file_fault, walk_after_file_lines, walk_after_file_visit}
use Rattle.sudoers_tree.proofs.Common.{walk_after_file_visits, walk_or_fault_of_files, walk_with_file_entered, walk_with_line_appended, zero, ℕ, ◌++◌, ◌+◌, ◌∙◌, ◌∷◌, ◌≡◌}
use Rattle.sudoers_tree.proofs.MappedLines.{ArrivesAtFollowingWalkOrNameFault, IsExtendedWalk, IsWalkFollowedByMappedWalk, MappedWalkGoesAlongPart, IsFirstNameFaultOfMappedWalk, WalkResult, mapped_walk_goes_along_two_parts, arrived, mapped_walk_goes_on_where_it_arrives, entering_file_extends_walk, entering_file_keeps_mapped_walk_following, entered_file_is_on_walk, walk_extension_is_transitive, walk_extends_itself, name_fault_of_first_lines_is_first_of_all, name_fault_in_mapped_lines_is_first_of_walk, faulty, appending_line_extends_walk, mapped_walk_follows_after_line, mapped_walk_takes_line_or_has_name_fault, extended_walk_keeps_files_on_it, walk_with_line_at_spot}
use Rattle.sudoers_tree.proofs.Common.{arith, get_or_from_slice_get, length-append, length-take-le, slice_get_within, take, take_more, ◌<◌}
use Rattle.sudoers_tree.specs.internal.MovedSpots.{mapped_line_number, mapped_spots, spots_from_line_number}
use Rattle.sudoers_tree.proofs.Numbered.{rest_of_drop_is_later_drop, first_of_drop_is_numbered_item}
use Rattle.sudoers_tree.proofs.SameNames.{same_file_names_name_numbered_file_alike, same_targets}
use Rattle.sudoers_tree.proofs.Sound.{sound_definitions_have_no_fault, valid_definitions_are_sound}

pub equal_walk_results_have_equal_walks : (w now : WalkState) → (let r : WalkResult = Ok w in r) ≡ Ok now → w ≡ now
equal_walk_results_have_equal_walks w now is = cc

-- ---- one line

pub appended_line_is_walk_with_line : (name : List ℕ) (at : WalkLineSpot) (line : Line) (w now : WalkState) → walk_with_line_appended name at line w ≡ Ok now → walk_with_line_at_spot at line w ≡ now
appended_line_is_walk_with_line name at line w now is = by (first_definition_fault (definitions_of_lines w.lines) (definitions_in_line (length w.lines) line.node)) is
  where
    by : (o : Option ReadFault) → value_unless_file_fault name (walk_with_line_at_spot at line w) o ≡ Ok now → walk_with_line_at_spot at line w ≡ now
    by None e = equal_walk_results_have_equal_walks (walk_with_line_at_spot at line w) now e
    by (Some fault) e = absurd cc

-- The same files are on both walks.
walks_of_same_files_have_same_first_file : (v w : WalkState) (inner : List ℕ) → v.on ≡ w.on → first_file_on_walk v inner ≡ first_file_on_walk w inner
walks_of_same_files_have_same_first_file v w [] same = refl
walks_of_same_files_have_same_first_file v w (f ∷ inner) same =
    ap (λ on. if list_any (nat_eq f) on then Some f else first_file_on_walk v inner) same
    ∙ ap (λ later. if is_file_on_walk w f then Some f else later) (walks_of_same_files_have_same_first_file v w inner same)

-- What a lead opens in a walk over files, it opens in a walk over others of the same names on which the same files are.
pub lead_opens_same_files_on_walks_alike : (files others : List ParsedFile) → file_names files ≡ file_names others → (at other_at : IncludeSite) (v w : WalkState) (o : Option Lead)
    (inner : List ℕ) → v.on ≡ w.on → files_opened_by_lead files at w o ≡ Ok inner → files_opened_by_lead others other_at v o ≡ Ok inner
lead_opens_same_files_on_walks_alike files others names at other_at v w None inner same is = is
lead_opens_same_files_on_walks_alike files others names at other_at v w (Some lead) inner same is = by_targets (targets_of_lead files lead) refl is
  where
    by_on : (o : Option ℕ) (found : List ℕ) → first_file_on_walk w found ≡ o → files_unless_on_walk files at found o ≡ Ok inner
        → files_unless_on_walk others other_at found (first_file_on_walk v found) ≡ Ok inner
    by_on None found none e = ap (files_unless_on_walk others other_at found) (walks_of_same_files_have_same_first_file v w found same ∙ none) ∙ e
    by_on (Some f) found first e = absurd cc

    by_targets : (t : Option (List ℕ)) → targets_of_lead files lead ≡ t → files_unless_missing_or_on_walk files at lead w t ≡ Ok inner
        → files_opened_by_lead others other_at v (Some lead) ≡ Ok inner
    by_targets None e f = absurd cc
    by_targets (Some found) e f =
        ap (files_unless_missing_or_on_walk others other_at lead v) (sym (same_targets files others names lead) ∙ e) ∙ by_on (first_file_on_walk w found) found refl f

-- A line that leads nowhere opens no file.
line_without_lead_opens_no_file : (files : List ParsedFile) (at : IncludeSite) (w : WalkState) (o : Option Lead) (inner : List ℕ) → o ≡ None → files_opened_by_lead files at w o ≡ Ok inner
    → [] ≡ inner
line_without_lead_opens_no_file files at w None inner none is = cc
line_without_lead_opens_no_file files at w (Some lead) inner none is = absurd cc

-- ---- where a line moves

-- What comes of lines and one more is what comes of them, and then of it.
mapped_lines_with_last_line_from_number : (g : LineToLinesMapping) (f n : ℕ) (lines : List Line) (line : Line)
    → mapped_lines_from_number g f n (lines ++ line ∷ []) ≡ mapped_lines_from_number g f n lines ++ g f (n + length lines) line
mapped_lines_with_last_line_from_number g f n [] line = append-nil (g f n line) ∙ ap (λ k. g f k line) (omega arith)
mapped_lines_with_last_line_from_number g f n (first ∷ lines) line =
    ap (λ ls. g f n first ++ ls) (mapped_lines_with_last_line_from_number g f (n + 1) lines line ∙ ap (λ k. mapped_lines_from_number g f (n + 1) lines ++ g f k line) (omega arith))
    ∙ sym (append_assoc (g f n first) (mapped_lines_from_number g f (n + 1) lines) (g f (n + length (first ∷ lines)) line))

-- The line behind a line moves past the lines that come of this.
later_line_moves_past_lines_of_earlier : (g : LineToLinesMapping) (files : List ParsedFile) (f n : ℕ) (line : Line) → slice_get (lines_of_numbered_file files f) n ≡ Some line
    → mapped_line_number g files f (n + 1) ≡ mapped_line_number g files f n + length (g f n line)
later_line_moves_past_lines_of_earlier g files f n line is =
    let lines : List Line = lines_of_numbered_file files f in
    let within : n < length lines = slice_get_within lines n line is in
    let next : take (n + 1) lines ≡ take n lines ++ line ∷ [] =
    take_more lines n line within ∙ ap (λ x. take n lines ++ x ∷ []) (get_or_from_slice_get lines n line line is) in
    let count : 0 + length (take n lines) ≡ n = omega (arith, within, length-take-le n lines (omega (arith, within))) in
    ap (λ ls. length (mapped_lines_from_number g f 0 ls)) next
    ∙ ap length (mapped_lines_with_last_line_from_number g f 0 (take n lines) line)
    ∙ length-append (mapped_lines_from_number g f 0 (take n lines)) (g f (0 + length (take n lines)) line)
    ∙ ap (λ k. mapped_line_number g files f n + length (g f k line)) count

-- ---- lines that lead nowhere

-- The other walk goes on behind lines that lead nowhere, unless a name that they define has a fault.
mapped_walk_passes_lines_without_leads : (old : List ParsedFile) (g : LineToLinesMapping) (total now : WalkState) (visit : FileVisit) (files : List ParsedFile) (f n : ℕ) (lines rest : List Line) (v : WalkState)
    → AllByRecursion (λ (line : Line). lead_of_parsed_line (name_of_numbered_file files f) line.node ≡ None) lines
    → first_definition_fault [] (definitions_of_lines v.lines) ≡ None
    → ((fault : ReadFault) → first_definition_fault [] (definitions_of_lines (v.lines ++ lines)) ≡ Some fault → IsFirstNameFaultOfMappedWalk g total fault)
    → ((k : ℕ) (last : WalkState) → last.lines ≡ v.lines ++ lines → last.spots ≡ v.spots ++ spots_from_line_number files f n lines → k ≡ n + length lines → last.on ≡ v.on → first_definition_fault [] (definitions_of_lines last.lines) ≡ None
    → ArrivesAtFollowingWalkOrNameFault old files g total now (walk_after_file_lines visit files f k rest last))
    → ArrivesAtFollowingWalkOrNameFault old files g total now (walk_after_file_lines visit files f n (lines ++ rest) v)
mapped_walk_passes_lines_without_leads old g total now visit files f n [] rest v all stand fails next = next n v (sym (append-nil v.lines)) (sym (append-nil v.spots)) (omega arith) refl stand
mapped_walk_passes_lines_without_leads old g total now visit files f n (line ∷ lines) rest v all stand fails next =
    mapped_walk_takes_line_or_has_name_fault old files g total now (name_of_numbered_file files f) (spot_of_file_line files f n) line v
    (λ w. load_result_and_then (files_opened_by_lead files (include_site_of_line files f n) w (lead_of_file_line files f line)) (λ inner.
    load_result_and_then (walk_after_file_visits visit files (include_site_of_line files f n) inner w) (walk_after_file_lines visit files f (n + 1) (lines ++ rest))))
    stand fails_here
    (λ here. subst (ArrivesAtFollowingWalkOrNameFault old files g total now) (sym behind) (mapped_walk_passes_lines_without_leads old g total now visit files f (n + 1) lines rest longer all.1 here fails_behind
    (λ k last lines_are spots_are count on. next k last (lines_are ∙ apart) (spots_are ∙ append_assoc v.spots (spot_of_file_line files f n ∷ []) (spots_from_line_number files f (n + 1) lines)) (omega (arith, count)) on)))
  where
    longer : WalkState
    longer = walk_with_line_at_spot (spot_of_file_line files f n) line v

    apart : (v.lines ++ line ∷ []) ++ lines ≡ v.lines ++ line ∷ lines
    apart = append_assoc v.lines (line ∷ []) lines

    fails_behind : (fault : ReadFault) → first_definition_fault [] (definitions_of_lines ((v.lines ++ line ∷ []) ++ lines)) ≡ Some fault → IsFirstNameFaultOfMappedWalk g total fault
    fails_behind fault is = fails fault (ap (λ ls. first_definition_fault [] (definitions_of_lines ls)) (sym apart) ∙ is)

    fails_here : (fault : ReadFault) → first_definition_fault [] (definitions_of_lines (v.lines ++ line ∷ [])) ≡ Some fault → IsFirstNameFaultOfMappedWalk g total fault
    fails_here fault is = fails_behind fault (name_fault_of_first_lines_is_first_of_all (v.lines ++ line ∷ []) lines fault is)

    behind : load_result_and_then (files_opened_by_lead files (include_site_of_line files f n) longer (lead_of_file_line files f line)) (λ inner.
        load_result_and_then (walk_after_file_visits visit files (include_site_of_line files f n) inner longer) (walk_after_file_lines visit files f (n + 1) (lines ++ rest)))
        ≡ walk_after_file_lines visit files f (n + 1) (lines ++ rest) longer
    behind = ap (λ o. load_result_and_then (files_opened_by_lead files (include_site_of_line files f n) longer o) (λ inner.
        load_result_and_then (walk_after_file_visits visit files (include_site_of_line files f n) inner longer) (walk_after_file_lines visit files f (n + 1) (lines ++ rest)))) all.0

-- ---- the walk

module _ (g : LineToLinesMapping) (files others : List ParsedFile) (total : WalkState) (are : AreFilesMapped g files others total) where
  -- a visit over the others goes along with one over the files
  abbrev VisitsAlong : FileVisit → FileVisit → Type 0
  VisitsAlong visit beside = (at other_at : IncludeSite) (f : ℕ) (w now : WalkState) → visit at f w ≡ Ok now → MappedWalkGoesAlongPart files others g total w now (beside other_at f)

  each_along : (visit beside : FileVisit) → VisitsAlong visit beside → (at other_at : IncludeSite) (inner : List ℕ) (w now : WalkState)
      → walk_after_file_visits visit files at inner w ≡ Ok now → MappedWalkGoesAlongPart files others g total w now (walk_after_file_visits beside others other_at inner)
  each_along visit beside along at other_at [] w now is =
      subst (λ now. MappedWalkGoesAlongPart files others g total w now (walk_after_file_visits beside others other_at [])) (equal_walk_results_have_equal_walks w now is) (record {
        more = walk_extends_itself w;
        arrives = λ v follows more. arrived v refl follows;
      })
  each_along visit beside along at other_at (f ∷ inner) w now is =
      by_test (is_file_on_walk w f) refl is (λ within. each_along visit beside along at other_at inner within now)
    where
      Later : Type 0
      Later = (within : WalkState) → walk_after_file_visits visit files at inner within ≡ Ok now → MappedWalkGoesAlongPart files others g total within now (walk_after_file_visits beside others other_at inner)

      by_visit : (r : WalkResult) → is_file_on_walk w f ≡ false → visit at f w ≡ r → load_result_and_then r (walk_after_file_visits visit files at inner) ≡ Ok now → Later
          → MappedWalkGoesAlongPart files others g total w now (walk_after_file_visits beside others other_at (f ∷ inner))
      by_visit (Ok within) off v e later =
          let both : MappedWalkGoesAlongPart files others g total w now (λ u. load_result_and_then (beside other_at f u) (walk_after_file_visits beside others other_at inner)) =
          mapped_walk_goes_along_two_parts files others g total w within now (beside other_at f) (walk_after_file_visits beside others other_at inner) (along at other_at f w within v) (later within e) in
          record {
            more = both.more;
            arrives = λ u follows more.
                let off_too : is_file_on_walk u f ≡ false = ap (list_any (nat_eq f)) follows.on ∙ off in
                subst (ArrivesAtFollowingWalkOrNameFault files others g total now)
                (ap (λ t. if t then Err (repeated_include_fault others other_at f) else load_result_and_then (beside other_at f u) (walk_after_file_visits beside others other_at inner)) (sym off_too))
                (both.arrives u follows more);
          }
      by_visit (Err fault) off v e later = absurd cc

      by_test : (b : Bool) → is_file_on_walk w f ≡ b → (if b then Err (repeated_include_fault files at f) else load_result_and_then (visit at f w) (walk_after_file_visits visit files at inner)) ≡ Ok now
          → Later → MappedWalkGoesAlongPart files others g total w now (walk_after_file_visits beside others other_at (f ∷ inner))
      by_test true on e later = absurd cc
      by_test false off e later = by_visit (visit at f w) off refl e later

  -- The other walk goes on behind the lines that come of a line, and the files to which they lead.
  line_along : (visit beside : FileVisit) → VisitsAlong visit beside → (f n m : ℕ) (line : Line) (rest : List Line) (w within now : WalkState)
      (inner : List ℕ) → is_file_on_walk w f ≡ true → slice_get (lines_of_numbered_file files f) n ≡ Some line
      → m ≡ mapped_line_number g files f n
      → files_opened_by_lead files (include_site_of_line files f n) (walk_with_line_at_spot (spot_of_file_line files f n) line w) (lead_of_file_line files f line) ≡ Ok inner
      → walk_after_file_visits visit files (include_site_of_line files f n) inner (walk_with_line_at_spot (spot_of_file_line files f n) line w) ≡ Ok within
      → (v : WalkState) → IsWalkFollowedByMappedWalk files others g v w → IsExtendedWalk within total
      → ((k : ℕ) (last : WalkState) → k ≡ mapped_line_number g files f (n + 1) → IsWalkFollowedByMappedWalk files others g last within → ArrivesAtFollowingWalkOrNameFault files others g total now (walk_after_file_lines beside others f k rest last))
      → ArrivesAtFollowingWalkOrNameFault files others g total now (walk_after_file_lines beside others f m (g f n line ++ rest) v)
  line_along visit beside along f n m line rest w within now inner on at from o e v follows more next =
      by (g f n line) refl (are.leads f n line (extended_walk_keeps_files_on_it f w total (walk_extension_is_transitive w passed total (appending_line_extends_walk spot line w) front) on) at)
    where
      spot : WalkLineSpot
      spot = spot_of_file_line files f n

      passed : WalkState
      passed = walk_with_line_at_spot spot line w

      each : MappedWalkGoesAlongPart files others g total passed within (walk_after_file_visits beside others (include_site_of_line others f m) inner)
      each = each_along visit beside along (include_site_of_line files f n) (include_site_of_line others f m) inner passed within e

      front : IsExtendedWalk passed total
      front = walk_extension_is_transitive passed within total each.more more

      name : name_of_numbered_file files f ≡ name_of_numbered_file others f
      name = same_file_names_name_numbered_file_alike files others (sym are.names) f

      fails : (news : List Line) → g f n line ≡ news → (fault : ReadFault) → first_definition_fault [] (definitions_of_lines (v.lines ++ news)) ≡ Some fault
          → IsFirstNameFaultOfMappedWalk g total fault
      fails news is fault wrong =
          name_fault_in_mapped_lines_is_first_of_walk files others g spot line v w total follows front fault
          (ap (λ ls. first_definition_fault [] (definitions_of_lines (v.lines ++ ls))) is ∙ wrong)

      to_next : (news : List Line) → g f n line ≡ news → m + length news ≡ mapped_line_number g files f (n + 1)
      to_next news is = sym (later_line_moves_past_lines_of_earlier g files f n line at ∙ ap (λ k. k + length (g f n line)) (sym from) ∙ ap (λ ls. m + length ls) is)

      follow : (news : List Line) → g f n line ≡ news → (last : WalkState) → last.lines ≡ v.lines ++ news
          → last.spots ≡ v.spots ++ spots_from_line_number others f m news → last.on ≡ v.on
          → first_definition_fault [] (definitions_of_lines last.lines) ≡ None → IsWalkFollowedByMappedWalk files others g last passed
      follow news is last lines spots same_on stand =
          mapped_walk_follows_after_line files others g spot line v last w follows (lines ∙ ap (λ ls. v.lines ++ ls) (sym is))
          (spots ∙ ap (λ ls. v.spots ++ spots_from_line_number others f m ls) (sym is) ∙ ap (λ k. v.spots ++ spots_from_line_number others f k (g f n line)) from) same_on stand

      by : (news : List Line) → g f n line ≡ news → KeepsIncludeLead (name_of_numbered_file files f) line news
          → ArrivesAtFollowingWalkOrNameFault files others g total now (walk_after_file_lines beside others f m (news ++ rest) v)
      by news is (nowhere lines alone all) =
          let none_inside : [] ≡ inner = line_without_lead_opens_no_file files (include_site_of_line files f n) passed (lead_of_file_line files f line) inner alone o in
          let same : passed ≡ within = equal_walk_results_have_equal_walks passed within (ap (λ fs. walk_after_file_visits visit files (include_site_of_line files f n) fs passed) none_inside ∙ e) in
          mapped_walk_passes_lines_without_leads files g total now beside others f m lines rest v
          (subst (λ called. AllByRecursion (λ (new : Line). lead_of_parsed_line called new.node ≡ None) lines) name all) follows.stand (fails lines is)
          (λ k last lines_are spots_are count same_on stand.
          next k last (count ∙ to_next lines is) (subst (IsWalkFollowedByMappedWalk files others g last) same (follow lines is last lines_are spots_are same_on stand)))
      by news is (one new same) =
          let longer : WalkState = walk_with_line_at_spot (spot_of_file_line others f m) new v in
          let lead : lead_of_file_line others f new ≡ lead_of_file_line files f line = ap (λ called. lead_of_parsed_line called new.node) (sym name) ∙ same in
          mapped_walk_takes_line_or_has_name_fault files others g total now (name_of_numbered_file others f) (spot_of_file_line others f m) new v
          (λ u. load_result_and_then (files_opened_by_lead others (include_site_of_line others f m) u (lead_of_file_line others f new)) (λ fs.
          load_result_and_then (walk_after_file_visits beside others (include_site_of_line others f m) fs u) (walk_after_file_lines beside others f (m + 1) rest)))
          follows.stand (fails (new ∷ []) is)
          (λ stand.
          let there : IsWalkFollowedByMappedWalk files others g longer passed = follow (new ∷ []) is longer refl refl refl stand in
          let opens : files_opened_by_lead others (include_site_of_line others f m) longer (lead_of_file_line others f new) ≡ Ok inner =
          ap (files_opened_by_lead others (include_site_of_line others f m) longer) lead
          ∙ lead_opens_same_files_on_walks_alike files others (sym are.names) (include_site_of_line files f n) (include_site_of_line others f m) longer passed (lead_of_file_line files f line) inner there.on o in
          subst (ArrivesAtFollowingWalkOrNameFault files others g total now)
          (ap (λ r. load_result_and_then r (λ fs. load_result_and_then (walk_after_file_visits beside others (include_site_of_line others f m) fs longer) (walk_after_file_lines beside others f (m + 1) rest))) (sym opens))
          (mapped_walk_goes_on_where_it_arrives files others g total within now (walk_after_file_visits beside others (include_site_of_line others f m) inner longer) (walk_after_file_lines beside others f (m + 1) rest)
          (each.arrives longer there more) (λ last here. next (m + 1) last (to_next (new ∷ []) is) here)))

  lines_along : (visit beside : FileVisit) → VisitsAlong visit beside → (f n m : ℕ) (lines : List Line) (w now : WalkState) → is_file_on_walk w f ≡ true
      → lines ≡ drop n (lines_of_numbered_file files f) → m ≡ mapped_line_number g files f n → walk_after_file_lines visit files f n lines w ≡ Ok now
      → MappedWalkGoesAlongPart files others g total w now (walk_after_file_lines beside others f m (mapped_lines_from_number g f n lines))
  lines_along visit beside along f n m [] w now on from at is = by (fault_of_numbered_file files f) is
    where
      by : (o : Option SyntaxFault) → value_unless_file_fault (name_of_numbered_file files f) w (option_map syntax_fault_as_read_fault o) ≡ Ok now
          → MappedWalkGoesAlongPart files others g total w now (walk_after_file_lines beside others f m [])
      by None e = subst (λ now. MappedWalkGoesAlongPart files others g total w now (walk_after_file_lines beside others f m [])) (equal_walk_results_have_equal_walks w now e) (record {
        more = walk_extends_itself w;
        arrives = λ v follows more.
            arrived v (ap (λ o. value_unless_file_fault (name_of_numbered_file others f) v (option_map syntax_fault_as_read_fault o)) (are.parse f (extended_walk_keeps_files_on_it f w total more on))) follows;
      })
      by (Some fault) e = absurd cc
  lines_along visit beside along f n m (line ∷ lines) w now on from at is =
      by_taken (walk_with_line_appended (name_of_numbered_file files f) (spot_of_file_line files f n) line w) refl is
      (λ k within to on_within. lines_along visit beside along f (n + 1) k lines within now on_within (rest_of_drop_is_later_drop lines (lines_of_numbered_file files f) n line from) to)
    where
      Later : Type 0
      Later = (k : ℕ) (within : WalkState) → k ≡ mapped_line_number g files f (n + 1) → is_file_on_walk within f ≡ true → walk_after_file_lines visit files f (n + 1) lines within ≡ Ok now
          → MappedWalkGoesAlongPart files others g total within now (walk_after_file_lines beside others f k (mapped_lines_from_number g f (n + 1) lines))

      passed : WalkState
      passed = walk_with_line_at_spot (spot_of_file_line files f n) line w

      by_each : (r : WalkResult) (inner : List ℕ) → files_opened_by_lead files (include_site_of_line files f n) passed (lead_of_file_line files f line) ≡ Ok inner
          → walk_after_file_visits visit files (include_site_of_line files f n) inner passed ≡ r → load_result_and_then r (walk_after_file_lines visit files f (n + 1) lines) ≡ Ok now → Later
          → MappedWalkGoesAlongPart files others g total w now (walk_after_file_lines beside others f m (g f n line ++ mapped_lines_from_number g f (n + 1) lines))
      by_each (Ok within) inner o v e later =
          let each : MappedWalkGoesAlongPart files others g total passed within (walk_after_file_visits beside others (include_site_of_line files f n) inner) =
          each_along visit beside along (include_site_of_line files f n) (include_site_of_line files f n) inner passed within v in
          let front : IsExtendedWalk w within = walk_extension_is_transitive w passed within (appending_line_extends_walk (spot_of_file_line files f n) line w) each.more in
          let on_within : is_file_on_walk within f ≡ true = extended_walk_keeps_files_on_it f w within front on in
          let behind : IsExtendedWalk within now = (later (mapped_line_number g files f (n + 1)) within refl on_within e).more in
          record {
            more = walk_extension_is_transitive w within now front behind;
            arrives = λ u follows more.
                line_along visit beside along f n m line (mapped_lines_from_number g f (n + 1) lines) w within now inner on
                (first_of_drop_is_numbered_item lines (lines_of_numbered_file files f) n line from) at o v u follows (walk_extension_is_transitive within now total behind more)
                (λ k last to here. (later k within to on_within e).arrives last here more);
          }
      by_each (Err fault) inner o v e later = absurd cc

      by_opened : (r : Result (List ℕ) LoadFault) → files_opened_by_lead files (include_site_of_line files f n) passed (lead_of_file_line files f line) ≡ r
          → load_result_and_then r (λ inner. load_result_and_then (walk_after_file_visits visit files (include_site_of_line files f n) inner passed) (walk_after_file_lines visit files f (n + 1) lines)) ≡ Ok now → Later
          → MappedWalkGoesAlongPart files others g total w now (walk_after_file_lines beside others f m (g f n line ++ mapped_lines_from_number g f (n + 1) lines))
      by_opened (Ok inner) o e later = by_each (walk_after_file_visits visit files (include_site_of_line files f n) inner passed) inner o refl e later
      by_opened (Err fault) o e later = absurd cc

      by_taken : (r : WalkResult) → walk_with_line_appended (name_of_numbered_file files f) (spot_of_file_line files f n) line w ≡ r
          → load_result_and_then r (λ next. load_result_and_then (files_opened_by_lead files (include_site_of_line files f n) next (lead_of_file_line files f line)) (λ inner.
          load_result_and_then (walk_after_file_visits visit files (include_site_of_line files f n) inner next) (walk_after_file_lines visit files f (n + 1) lines))) ≡ Ok now → Later
          → MappedWalkGoesAlongPart files others g total w now (walk_after_file_lines beside others f m (g f n line ++ mapped_lines_from_number g f (n + 1) lines))
      by_taken (Ok next) t e later =
          let same : passed ≡ next = appended_line_is_walk_with_line (name_of_numbered_file files f) (spot_of_file_line files f n) line w next t in
          by_opened (files_opened_by_lead files (include_site_of_line files f n) passed (lead_of_file_line files f line)) refl
          (ap (λ p. load_result_and_then (files_opened_by_lead files (include_site_of_line files f n) p (lead_of_file_line files f line)) (λ inner.
          load_result_and_then (walk_after_file_visits visit files (include_site_of_line files f n) inner p) (walk_after_file_lines visit files f (n + 1) lines))) same ∙ e) later
      by_taken (Err fault) t e later = absurd cc

  -- the lines of a file that is entered
  file_along : (visit beside : FileVisit) → VisitsAlong visit beside → (f : ℕ) (w now : WalkState) → walk_after_file_lines visit files f 0 (lines_of_numbered_file files f) (walk_with_file_entered f w) ≡ Ok now
      → MappedWalkGoesAlongPart files others g total w now (λ v. walk_after_file_lines beside others f 0 (lines_of_numbered_file others f) (walk_with_file_entered f v))
  file_along visit beside along f w now is =
      let inside : MappedWalkGoesAlongPart files others g total (walk_with_file_entered f w) now (walk_after_file_lines beside others f 0 (mapped_lines_from_number g f 0 (lines_of_numbered_file files f))) =
      lines_along visit beside along f 0 0 (lines_of_numbered_file files f) (walk_with_file_entered f w) now (entered_file_is_on_walk f w) refl refl is in
      record {
        more = walk_extension_is_transitive w (walk_with_file_entered f w) now (entering_file_extends_walk f w) inside.more;
        arrives = λ v follows more.
            let on : is_file_on_walk total f ≡ true = extended_walk_keeps_files_on_it f (walk_with_file_entered f w) total (walk_extension_is_transitive (walk_with_file_entered f w) now total inside.more more) (entered_file_is_on_walk f w) in
            subst (λ ls. ArrivesAtFollowingWalkOrNameFault files others g total now (walk_after_file_lines beside others f 0 ls (walk_with_file_entered f v))) (sym (are.lines f on))
            (inside.arrives (walk_with_file_entered f v) (entering_file_keeps_mapped_walk_following files others g f v w follows) more);
      }

  visits_along : (left : ℕ) → VisitsAlong (walk_after_file_visit left files) (walk_after_file_visit left others)
  visits_along zero at other_at f w now is = absurd cc
  visits_along (suc left) at other_at f w now is = file_along (walk_after_file_visit left files) (walk_after_file_visit left others) (visits_along left) f w now is

-- The walk over files of which lines were changed follows that over the files before, unless a name has a fault.
mapped_files_walk_arrives_or_has_name_fault : (g : LineToLinesMapping) (files others : List ParsedFile) (w : WalkState) → walk_or_fault_of_files files ≡ Ok w → AreFilesMapped g files others w
    → ArrivesAtFollowingWalkOrNameFault files others g w w (walk_or_fault_of_files others)
unfolding walk_or_fault_of_files
mapped_files_walk_arrives_or_has_name_fault g files others w is are =
    let along : MappedWalkGoesAlongPart files others g w empty_walk w (λ v. walk_after_file_lines (walk_after_file_visit include_depth_limit others) others 0 0 (lines_of_numbered_file others 0) (walk_with_file_entered 0 v)) =
    file_along g files others w are (walk_after_file_visit include_depth_limit files) (walk_after_file_visit include_depth_limit others) (visits_along g files others w are include_depth_limit) 0 empty_walk w is in
    along.arrives empty_walk (record { paired = refl; lines = refl; spots = refl; on = refl; stand = refl }) (walk_extends_itself w)

following_walk_is_mapped_walk : (files others : List ParsedFile) (g : LineToLinesMapping) (w other : WalkState) → IsWalkFollowedByMappedWalk files others g other w → IsMappedWalk g w other
following_walk_is_mapped_walk files others g w other is = record { lines = is.lines; on = is.on }

-- A walk over files passes the same files in the files of which lines were changed, and its lines are those that come of its lines.
pub walk_of_mapped_files_is_mapped_walk : (g : LineToLinesMapping) (files others : List ParsedFile) (w : WalkState) → walk_or_fault_of_files files ≡ Ok w → AreFilesMapped g files others w
    → AreDefinedNamesValid (mapped_lines_at_spots g w.spots w.lines) → (other : WalkState) × (walk_or_fault_of_files others ≡ Ok other) × IsMappedWalk g w other
walk_of_mapped_files_is_mapped_walk g files others w is are names = by (mapped_files_walk_arrives_or_has_name_fault g files others w is are)
  where
    defined : List PlacedDefinition
    defined = definitions_of_lines (mapped_lines_at_spots g w.spots w.lines)

    none : first_definition_fault [] defined ≡ None
    none = sound_definitions_have_no_fault defined (valid_definitions_are_sound defined names.free names.once names.few)

    by : ArrivesAtFollowingWalkOrNameFault files others g w w (walk_or_fault_of_files others) → (other : WalkState) × (walk_or_fault_of_files others ≡ Ok other) × IsMappedWalk g w other
    by (arrived other walk follows) = (other, walk, following_walk_is_mapped_walk files others g w other follows)
    by (faulty wrong) =
        let both : (let o : Option ReadFault = None in o) ≡ Some wrong.fault = sym none ∙ wrong.first in
        absurd cc

-- If no name in the lines that come of those of the walk has a fault, the files have a walk of these lines, which stand where they moved.
pub record IsWalkOfMappedFiles (g : LineToLinesMapping) (files others : List ParsedFile) (w : WalkState) : Type 0 where
  pub other : WalkState
  pub walk : walk_or_fault_of_files others ≡ Ok other
  pub lines : other.lines ≡ mapped_lines_at_spots g w.spots w.lines
  pub spots : other.spots ≡ mapped_spots g files others w.spots w.lines
  pub on : other.on ≡ w.on

pub walk_of_mapped_files_has_mapped_spots : (g : LineToLinesMapping) (files others : List ParsedFile) (w : WalkState) → walk_or_fault_of_files files ≡ Ok w → AreFilesMapped g files others w
    → first_definition_fault [] (definitions_of_lines (mapped_lines_at_spots g w.spots w.lines)) ≡ None → IsWalkOfMappedFiles g files others w
walk_of_mapped_files_has_mapped_spots g files others w is are none = by (mapped_files_walk_arrives_or_has_name_fault g files others w is are)
  where
    by : ArrivesAtFollowingWalkOrNameFault files others g w w (walk_or_fault_of_files others) → IsWalkOfMappedFiles g files others w
    by (arrived other walk follows) = record { other = other; walk = walk; lines = follows.lines; spots = follows.spots; on = follows.on }
    by (faulty wrong) =
        let both : (let o : Option ReadFault = None in o) ≡ Some wrong.fault = sym none ∙ wrong.first in
        absurd cc

-- If the files of which lines were changed have a walk, it is that one.
pub walk_found_of_mapped_files_is_mapped_walk : (g : LineToLinesMapping) (files others : List ParsedFile) (w other : WalkState) → walk_or_fault_of_files files ≡ Ok w → AreFilesMapped g files others w
    → walk_or_fault_of_files others ≡ Ok other → IsMappedWalk g w other
walk_found_of_mapped_files_is_mapped_walk g files others w other is are walk = by (mapped_files_walk_arrives_or_has_name_fault g files others w is are)
  where
    by : ArrivesAtFollowingWalkOrNameFault files others g w w (walk_or_fault_of_files others) → IsMappedWalk g w other
    by (arrived last e follows) =
        let same : last ≡ other = equal_walk_results_have_equal_walks last other (sym e ∙ walk) in
        subst (IsMappedWalk g w) same (following_walk_is_mapped_walk files others g w last follows)
    by (faulty wrong) =
        let both : (let r : WalkResult = Ok other in r) ≡ Err (InFile wrong.name wrong.fault) = sym walk ∙ wrong.is in
        absurd cc
