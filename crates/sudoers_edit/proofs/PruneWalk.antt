-- The lines of a file ascend on the walk, and each file of which a line is on the walk is on it.
use Rattle.sudoers_edit.proofs.Common.{AllByRecursion, Bool, Err, FileVisit, IncludeSite, Line, List, LoadFault, None, Ok, Option, ParsedFile, ReadFault, Result, Some, WalkLineSpot, WalkState, [], ap, append-nil}
use Rattle.sudoers_edit.proofs.Common.{append_assoc, arith, definitions_in_line, definitions_of_lines, empty_walk, false, fault_of_numbered_file, files_opened_by_lead, first_definition_fault, if◌then◌else◌}
use Rattle.sudoers_edit.proofs.Common.{include_depth_limit, include_site_of_line, is_file_on_walk, lead_of_file_line, length, lines_of_numbered_file, load_result_and_then, name_of_numbered_file, option_map, refl}
use Rattle.sudoers_edit.proofs.Common.{repeated_include_fault, spot_of_file_line, subst, suc, sym, syntax_fault_as_read_fault, true, value_unless_file_fault, walk_after_file_lines, walk_after_file_visit}
use Rattle.sudoers_edit.proofs.Common.{walk_after_file_visits, walk_or_fault_of_files, walk_with_file_entered, zero, ℕ, ◌++◌, ◌+◌, ◌<◌, ◌∙◌, ◌∷◌, ◌≡◌}
use Rattle.sudoers_tree.proofs.MappedLines.{entered_file_is_on_walk, entering_file_extends_walk, extended_walk_keeps_files_on_it, walk_with_line_at_spot}
use Rattle.sudoers_edit.proofs.PrunePlaces.{property_of_lists_holds_of_their_join, property_of_list_implies_weaker_property}

abbrev WalkResult : Type 0
WalkResult = Result WalkState LoadFault

accepted_walks_are_equal : (w now : WalkState) → (let r : WalkResult = Ok w in r) ≡ Ok now → w ≡ now
accepted_walks_are_equal w now is = cc

-- ---- spots in order

-- A spot of the same file as this one is of a line before it.
abbrev pub IsEarlierInSameFile : WalkLineSpot → WalkLineSpot → Type 0
IsEarlierInSameFile at earlier = earlier.file ≡ at.file → earlier.line < at.line

-- Each of these spots, which come after those before them, is of a line behind those of its file before it.
abbrev pub AreAscendingSpots : List WalkLineSpot → List WalkLineSpot → Type 0
AreAscendingSpots earlier [] = Unit {0}
AreAscendingSpots earlier (at ∷ spots) = AllByRecursion (IsEarlierInSameFile at) earlier × AreAscendingSpots (earlier ++ at ∷ []) spots

ascending_spots_with_later_spot_ascend : (earlier spots : List WalkLineSpot) (at : WalkLineSpot) → AreAscendingSpots earlier spots → AllByRecursion (IsEarlierInSameFile at) (earlier ++ spots) → AreAscendingSpots earlier (spots ++ at ∷ [])
ascending_spots_with_later_spot_ascend earlier [] at ascend before = (subst (AllByRecursion (IsEarlierInSameFile at)) (append-nil earlier) before, tt)
ascending_spots_with_later_spot_ascend earlier (first ∷ spots) at ascend before =
    (ascend.0, ascending_spots_with_later_spot_ascend (earlier ++ first ∷ []) spots at ascend.1 (subst (AllByRecursion (IsEarlierInSameFile at)) (sym (append_assoc earlier (first ∷ []) spots)) before))

-- What is on the walk so far goes in order: the spots of each file ascend, and their files are on the walk.
pub record IsOrderedWalk (w : WalkState) : Type 0 where
  pub ascend : AreAscendingSpots [] w.spots
  pub on : AllByRecursion (λ (at : WalkLineSpot). is_file_on_walk w at.file ≡ true) w.spots

-- The lines of the file f on the walk so far have numbers below n.
abbrev AreWalkLinesBelow : ℕ → ℕ → WalkState → Type 0
AreWalkLinesBelow f n w = AllByRecursion (λ (at : WalkLineSpot). at.file ≡ f → at.line < n) w.spots

-- A walk goes on from w to `now`, in order. A file that is on w, but for those in question, gets no line more.
record IsOrderedContinuation (but : ℕ → Type 0) (w now : WalkState) : Type 0 where
  ordered : IsOrderedWalk now
  on : (q : ℕ) → is_file_on_walk w q ≡ true → is_file_on_walk now q ≡ true
  stays : (q : ℕ) → is_file_on_walk w q ≡ true → (but q → ⊥) → (m : ℕ) → AreWalkLinesBelow q m w → AreWalkLinesBelow q m now

continuations_of_walk_compose : (but : ℕ → Type 0) (w within now : WalkState) → IsOrderedContinuation but w within → IsOrderedContinuation but within now → IsOrderedContinuation but w now
continuations_of_walk_compose but w within now first later = record {
  ordered = later.ordered;
  on = λ q is. later.on q (first.on q is);
  stays = λ q is other m below. later.stays q (first.on q is) other m (first.stays q is other m below);
}

abbrev IsNoFileNumber : ℕ → Type 0
IsNoFileNumber q = ⊥

narrow_continuation_is_wider_continuation : (but : ℕ → Type 0) (w now : WalkState) → IsOrderedContinuation IsNoFileNumber w now → IsOrderedContinuation but w now
narrow_continuation_is_wider_continuation but w now p = record { ordered = p.ordered; on = p.on; stays = λ q is other m below. p.stays q is (λ x. x) m below }

ordered_walk_continues_itself : (but : ℕ → Type 0) (w : WalkState) → IsOrderedWalk w → IsOrderedContinuation but w w
ordered_walk_continues_itself but w ordered = record { ordered = ordered; on = λ q is. is; stays = λ q is other m below. below }

-- ---- a line

appended_line_continues_ordered_walk : (f n row : ℕ) (line : Line) (w : WalkState) → IsOrderedWalk w → is_file_on_walk w f ≡ true → AreWalkLinesBelow f n w
    → IsOrderedContinuation (λ q. q ≡ f) w (walk_with_line_at_spot (record { file = f; line = n; row = row }) line w)
appended_line_continues_ordered_walk f n row line w ordered on below =
    let at : WalkLineSpot = record { file = f; line = n; row = row } in
    let now : WalkState = walk_with_line_at_spot at line w in
    record {
      ordered =
          record {
            ascend = ascending_spots_with_later_spot_ascend [] w.spots at ordered.ascend below;
            on = property_of_lists_holds_of_their_join (λ (s : WalkLineSpot). is_file_on_walk now s.file ≡ true) w.spots (at ∷ []) ordered.on (on, tt);
          };
      on = λ q is. is;
      stays = λ q is other m under.
          property_of_lists_holds_of_their_join (λ (s : WalkLineSpot). s.file ≡ q → s.line < m) w.spots (at ∷ []) under ((λ (same : f ≡ q). absurd (other (sym same))), tt);
    }

appended_line_is_below_next_number : (f n row : ℕ) (line : Line) (w : WalkState) → AreWalkLinesBelow f n w → AreWalkLinesBelow f (n + 1) (walk_with_line_at_spot (record { file = f; line = n; row = row }) line w)
appended_line_is_below_next_number f n row line w below =
    let at : WalkLineSpot = record { file = f; line = n; row = row } in
    property_of_lists_holds_of_their_join (λ (s : WalkLineSpot). s.file ≡ f → s.line < n + 1) w.spots (at ∷ [])
    (property_of_list_implies_weaker_property (λ (s : WalkLineSpot). s.file ≡ f → s.line < n) (λ (s : WalkLineSpot). s.file ≡ f → s.line < n + 1) w.spots
    (λ s less same. omega (arith, less same)) below)
    ((λ same. omega arith), tt)

-- ---- visits

-- a visit of a file that is not on the walk goes in order
abbrev VisitKeepsOrder : FileVisit → Type 0
VisitKeepsOrder walk_after_file_visit = (at : IncludeSite) (f : ℕ) (w now : WalkState) → is_file_on_walk w f ≡ false → walk_after_file_visit at f w ≡ Ok now → IsOrderedWalk w → IsOrderedContinuation IsNoFileNumber w now

file_visits_continue_ordered_walk : (visit : FileVisit) (files : List ParsedFile) → VisitKeepsOrder visit → (at : IncludeSite) (inner : List ℕ) (w now : WalkState)
    → walk_after_file_visits visit files at inner w ≡ Ok now → IsOrderedWalk w → IsOrderedContinuation IsNoFileNumber w now
file_visits_continue_ordered_walk visit files keeps at [] w now is ordered = subst (IsOrderedContinuation IsNoFileNumber w) (accepted_walks_are_equal w now is) (ordered_walk_continues_itself IsNoFileNumber w ordered)
file_visits_continue_ordered_walk visit files keeps at (f ∷ rest) w now is ordered = by_test (is_file_on_walk w f) refl is (λ within. file_visits_continue_ordered_walk visit files keeps at rest within now)
  where
    Later : Type 0
    Later = (within : WalkState) → walk_after_file_visits visit files at rest within ≡ Ok now → IsOrderedWalk within → IsOrderedContinuation IsNoFileNumber within now

    by_visit : (r : WalkResult) → is_file_on_walk w f ≡ false → visit at f w ≡ r → load_result_and_then r (walk_after_file_visits visit files at rest) ≡ Ok now → Later → IsOrderedContinuation IsNoFileNumber w now
    by_visit (Ok within) out v e later =
        let first : IsOrderedContinuation IsNoFileNumber w within = keeps at f w within out v ordered in
        continuations_of_walk_compose IsNoFileNumber w within now first (later within e first.ordered)
    by_visit (Err fault) out v e later = absurd cc

    by_test : (b : Bool) → is_file_on_walk w f ≡ b → (if b then Err (repeated_include_fault files at f) else load_result_and_then (visit at f w) (walk_after_file_visits visit files at rest)) ≡ Ok now → Later
        → IsOrderedContinuation IsNoFileNumber w now
    by_test true out e later = absurd cc
    by_test false out e later = by_visit (visit at f w) out refl e later

abbrev row_of_file_line : List ParsedFile → ℕ → ℕ → ℕ
row_of_file_line files f n = (spot_of_file_line files f n).row

file_lines_continue_ordered_walk : (visit : FileVisit) (files : List ParsedFile) → VisitKeepsOrder visit → (f n : ℕ) (lines : List Line) (w now : WalkState)
    → walk_after_file_lines visit files f n lines w ≡ Ok now → IsOrderedWalk w → is_file_on_walk w f ≡ true → AreWalkLinesBelow f n w → IsOrderedContinuation (λ q. q ≡ f) w now
file_lines_continue_ordered_walk visit files keeps f n [] w now is ordered on below = by (option_map syntax_fault_as_read_fault (fault_of_numbered_file files f)) is
  where
    by : (o : Option ReadFault) → value_unless_file_fault (name_of_numbered_file files f) w o ≡ Ok now → IsOrderedContinuation (λ q. q ≡ f) w now
    by None e = subst (IsOrderedContinuation (λ q. q ≡ f) w) (accepted_walks_are_equal w now e) (ordered_walk_continues_itself (λ q. q ≡ f) w ordered)
    by (Some fault) e = absurd cc
file_lines_continue_ordered_walk visit files keeps f n (line ∷ lines) w now is ordered on below =
    by_taken (first_definition_fault (definitions_of_lines w.lines) (definitions_in_line (length w.lines) line.node)) is
    (λ within. file_lines_continue_ordered_walk visit files keeps f (n + 1) lines within now)
  where
    passed : WalkState
    passed = walk_with_line_at_spot (spot_of_file_line files f n) line w

    here : IsOrderedContinuation (λ q. q ≡ f) w passed
    here = appended_line_continues_ordered_walk f n (row_of_file_line files f n) line w ordered on below

    Later : Type 0
    Later = (within : WalkState) → walk_after_file_lines visit files f (n + 1) lines within ≡ Ok now → IsOrderedWalk within → is_file_on_walk within f ≡ true → AreWalkLinesBelow f (n + 1) within
        → IsOrderedContinuation (λ q. q ≡ f) within now

    by_each : (r : WalkResult) (inner : List ℕ) → walk_after_file_visits visit files (include_site_of_line files f n) inner passed ≡ r
        → load_result_and_then r (walk_after_file_lines visit files f (n + 1) lines) ≡ Ok now → Later → IsOrderedContinuation (λ q. q ≡ f) w now
    by_each (Ok within) inner v e later =
        let middle : IsOrderedContinuation IsNoFileNumber passed within = file_visits_continue_ordered_walk visit files keeps (include_site_of_line files f n) inner passed within v here.ordered in
        let behind : AreWalkLinesBelow f (n + 1) within = middle.stays f on (λ x. x) (n + 1) (appended_line_is_below_next_number f n (row_of_file_line files f n) line w below) in
        continuations_of_walk_compose (λ q. q ≡ f) w passed now here
        (continuations_of_walk_compose (λ q. q ≡ f) passed within now (narrow_continuation_is_wider_continuation (λ q. q ≡ f) passed within middle) (later within e middle.ordered (middle.on f on) behind))
    by_each (Err fault) inner v e later = absurd cc

    by_opened : (r : Result (List ℕ) LoadFault)
        → load_result_and_then r (λ inner. load_result_and_then (walk_after_file_visits visit files (include_site_of_line files f n) inner passed) (walk_after_file_lines visit files f (n + 1) lines)) ≡ Ok now → Later
        → IsOrderedContinuation (λ q. q ≡ f) w now
    by_opened (Ok inner) e later = by_each (walk_after_file_visits visit files (include_site_of_line files f n) inner passed) inner refl e later
    by_opened (Err fault) e later = absurd cc

    by_taken : (o : Option ReadFault)
        → load_result_and_then (value_unless_file_fault (name_of_numbered_file files f) passed o) (λ passed. load_result_and_then (files_opened_by_lead files (include_site_of_line files f n) passed (lead_of_file_line files f line)) (λ inner.
        load_result_and_then (walk_after_file_visits visit files (include_site_of_line files f n) inner passed) (walk_after_file_lines visit files f (n + 1) lines))) ≡ Ok now → Later → IsOrderedContinuation (λ q. q ≡ f) w now
    by_taken None e later = by_opened (files_opened_by_lead files (include_site_of_line files f n) passed (lead_of_file_line files f line)) e later
    by_taken (Some fault) e later = absurd cc

-- no line of a file that is not on the walk is on it
file_not_on_walk_has_no_lines : (f m : ℕ) (w : WalkState) → is_file_on_walk w f ≡ false → (spots : List WalkLineSpot) → AllByRecursion (λ (at : WalkLineSpot). is_file_on_walk w at.file ≡ true) spots
    → AllByRecursion (λ (at : WalkLineSpot). at.file ≡ f → at.line < m) spots
file_not_on_walk_has_no_lines f m w out [] on = tt
file_not_on_walk_has_no_lines f m w out (at ∷ spots) on =
    ((λ same. let both : true ≡ false = sym on.0 ∙ ap (is_file_on_walk w) same ∙ out in absurd cc), file_not_on_walk_has_no_lines f m w out spots on.1)

entered_file_keeps_ordered_walk : (f : ℕ) (w : WalkState) → IsOrderedWalk w → IsOrderedWalk (walk_with_file_entered f w)
entered_file_keeps_ordered_walk f w ordered = record {
  ascend = ordered.ascend;
  on = property_of_list_implies_weaker_property (λ (at : WalkLineSpot). is_file_on_walk w at.file ≡ true) (λ (at : WalkLineSpot). is_file_on_walk (walk_with_file_entered f w) at.file ≡ true) w.spots
      (λ at on. extended_walk_keeps_files_on_it at.file w (walk_with_file_entered f w) (entering_file_extends_walk f w) on) ordered.on;
}

file_visit_keeps_order : (files : List ParsedFile) (left : ℕ) → VisitKeepsOrder (walk_after_file_visit left files)
file_visit_keeps_order files zero at f w now out is ordered = absurd cc
file_visit_keeps_order files (suc left) at f w now out is ordered =
    let inner : IsOrderedContinuation (λ q. q ≡ f) (walk_with_file_entered f w) now =
    file_lines_continue_ordered_walk (walk_after_file_visit left files) files (file_visit_keeps_order files left) f 0 (lines_of_numbered_file files f) (walk_with_file_entered f w) now is (entered_file_keeps_ordered_walk f w ordered) (entered_file_is_on_walk f w)
    (file_not_on_walk_has_no_lines f 0 w out w.spots ordered.on) in
    record {
      ordered = inner.ordered;
      on = λ q on. inner.on q (extended_walk_keeps_files_on_it q w (walk_with_file_entered f w) (entering_file_extends_walk f w) on);
      stays = λ q on other m below.
          inner.stays q (extended_walk_keeps_files_on_it q w (walk_with_file_entered f w) (entering_file_extends_walk f w) on) (λ same. let both : true ≡ false = sym on ∙ ap (is_file_on_walk w) same ∙ out in absurd cc) m below;
    }

-- A walk goes in order.
pub walk_of_files_is_ordered : (files : List ParsedFile) (now : WalkState) → walk_or_fault_of_files files ≡ Ok now → IsOrderedWalk now
unfolding walk_or_fault_of_files
walk_of_files_is_ordered files now is =
    (file_lines_continue_ordered_walk (walk_after_file_visit include_depth_limit files) files (file_visit_keeps_order files include_depth_limit) 0 0 (lines_of_numbered_file files 0) (walk_with_file_entered 0 empty_walk) now is
    (record { ascend = tt; on = tt }) (entered_file_is_on_walk 0 empty_walk) tt).ordered
