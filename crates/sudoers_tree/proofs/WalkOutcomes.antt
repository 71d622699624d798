-- The outcome of a walk.
use Rattle.sudoers_tree.proofs.Common.{Bool, Err, InFile, IncludeSite, Line, List, LoadFault, None, Ok, Option, ParsedFile, Result, Some, SyntaxFault, TooDeep, WalkState, [], ap, empty_walk, false}
use Rattle.sudoers_tree.proofs.Common.{fault_of_numbered_file, files_opened_by_lead, if◌then◌else◌, include_depth_limit, include_site_of_line, is_file_on_walk, lead_of_file_line, lines_of_numbered_file}
use Rattle.sudoers_tree.proofs.Common.{load_result_and_then, name_of_numbered_file, option_map, refl, repeated_include_fault, spot_of_file_line, subst, suc, sym, syntax_fault_as_read_fault, true}
use Rattle.sudoers_tree.proofs.Common.{value_unless_file_fault, walk_after_file_lines, walk_after_file_visit, walk_after_file_visits, walk_or_fault_of_files, walk_with_file_entered, walk_with_line_appended, zero, ℕ}
use Rattle.sudoers_tree.proofs.Common.{◌+◌, ◌∷◌, ◌≡◌}
use Rattle.sudoers_tree.specs.Goes.{Goes, Enters, IsWalkOfFiles, end, broken, wrong, shut, stops, onward, none, again, deep, inside, more}

-- ---- the computed outcome is the defined one

-- the outcome of one file
abbrev AreVisitsComputedAtDepth : List ParsedFile → ℕ → Type 0
AreVisitsComputedAtDepth files left = (at : IncludeSite) (f : ℕ) (rest : List ℕ) (w : WalkState) → is_file_on_walk w f ≡ false
    → ((now : WalkState) → walk_after_file_visit left files at f w ≡ Ok now → (outcome : Result WalkState LoadFault) → Enters files left at rest now outcome → Enters files left at (f ∷ rest) w outcome)
    × ((fault : LoadFault) → walk_after_file_visit left files at f w ≡ Err fault → Enters files left at (f ∷ rest) w (Err fault))

fault_is_no_walk : (now : WalkState) (fault : LoadFault) → (let r : Result WalkState LoadFault = Err fault in r) ≡ Ok now → ⊥
fault_is_no_walk now fault is = cc

computed_visits_enter_files : (files : List ParsedFile) (left : ℕ) → AreVisitsComputedAtDepth files left → (at : IncludeSite) (inner : List ℕ) (w : WalkState) → Enters files left at inner w (walk_after_file_visits (walk_after_file_visit left files) files at inner w)
computed_visits_enter_files files left visits at [] w = none left at w
computed_visits_enter_files files left visits at (f ∷ rest) w = by_test (is_file_on_walk w f) refl (λ now. computed_visits_enter_files files left visits at rest now)
  where
    by_visit : (r : Result WalkState LoadFault) → is_file_on_walk w f ≡ false → walk_after_file_visit left files at f w ≡ r
        → ((now : WalkState) → Enters files left at rest now (walk_after_file_visits (walk_after_file_visit left files) files at rest now))
        → Enters files left at (f ∷ rest) w (load_result_and_then r (walk_after_file_visits (walk_after_file_visit left files) files at rest))
    by_visit (Ok now) off e next = (visits at f rest w off).0 now e (walk_after_file_visits (walk_after_file_visit left files) files at rest now) (next now)
    by_visit (Err fault) off e next = (visits at f rest w off).1 fault e

    by_test : (b : Bool) → is_file_on_walk w f ≡ b
        → ((now : WalkState) → Enters files left at rest now (walk_after_file_visits (walk_after_file_visit left files) files at rest now))
        → Enters files left at (f ∷ rest) w (if b then Err (repeated_include_fault files at f) else load_result_and_then (walk_after_file_visit left files at f w) (walk_after_file_visits (walk_after_file_visit left files) files at rest))
    by_test true e next = again left at f rest w e
    by_test false e next = by_visit (walk_after_file_visit left files at f w) e refl next

-- the end of the lines of a file that are read
end_of_lines_goes_to_walk_or_fault : (files : List ParsedFile) (left f n : ℕ) (w : WalkState) (o : Option SyntaxFault) → fault_of_numbered_file files f ≡ o
    → Goes files left f n [] w (value_unless_file_fault (name_of_numbered_file files f) w (option_map syntax_fault_as_read_fault (fault_of_numbered_file files f)))
end_of_lines_goes_to_walk_or_fault files left f n w None is = subst (λ r. Goes files left f n [] w r) (sym (ap (λ o. value_unless_file_fault (name_of_numbered_file files f) w (option_map syntax_fault_as_read_fault o)) is)) (end left f n w is)
end_of_lines_goes_to_walk_or_fault files left f n w (Some fault) is =
    subst (λ r. Goes files left f n [] w r) (sym (ap (λ o. value_unless_file_fault (name_of_numbered_file files f) w (option_map syntax_fault_as_read_fault o)) is)) (broken left f n w fault is)

computed_walk_goes_over_lines : (files : List ParsedFile) (left : ℕ) → AreVisitsComputedAtDepth files left → (f n : ℕ) (lines : List Line) (w : WalkState) → Goes files left f n lines w (walk_after_file_lines (walk_after_file_visit left files) files f n lines w)
computed_walk_goes_over_lines files left visits f n [] w = end_of_lines_goes_to_walk_or_fault files left f n w (fault_of_numbered_file files f) refl
computed_walk_goes_over_lines files left visits f n (line ∷ lines) w = by_taken (walk_with_line_appended (name_of_numbered_file files f) (spot_of_file_line files f n) line w) refl (λ within. computed_walk_goes_over_lines files left visits f (n + 1) lines within)
  where
    Next : Type 0
    Next = (within : WalkState) → Goes files left f (n + 1) lines within (walk_after_file_lines (walk_after_file_visit left files) files f (n + 1) lines within)

    by_each : (r : Result WalkState LoadFault) (now : WalkState) (inner : List ℕ) → walk_with_line_appended (name_of_numbered_file files f) (spot_of_file_line files f n) line w ≡ Ok now → files_opened_by_lead files (include_site_of_line files f n) now (lead_of_file_line files f line) ≡ Ok inner
        → Enters files left (include_site_of_line files f n) inner now r → Next
        → Goes files left f n (line ∷ lines) w (load_result_and_then r (walk_after_file_lines (walk_after_file_visit left files) files f (n + 1) lines))
    by_each (Ok within) now inner t o e next =
        onward left f n line lines w now within inner (walk_after_file_lines (walk_after_file_visit left files) files f (n + 1) lines within) t o e (next within)
    by_each (Err fault) now inner t o e next = stops left f n line lines w now inner fault t o e

    by_opened : (r : Result (List ℕ) LoadFault) (now : WalkState) → walk_with_line_appended (name_of_numbered_file files f) (spot_of_file_line files f n) line w ≡ Ok now → files_opened_by_lead files (include_site_of_line files f n) now (lead_of_file_line files f line) ≡ r → Next
        → Goes files left f n (line ∷ lines) w (load_result_and_then r (λ inner. load_result_and_then (walk_after_file_visits (walk_after_file_visit left files) files (include_site_of_line files f n) inner now) (walk_after_file_lines (walk_after_file_visit left files) files f (n + 1) lines)))
    by_opened (Ok inner) now t o next = by_each (walk_after_file_visits (walk_after_file_visit left files) files (include_site_of_line files f n) inner now) now inner t o (computed_visits_enter_files files left visits (include_site_of_line files f n) inner now) next
    by_opened (Err fault) now t o next = shut left f n line lines w now fault t o

    by_taken : (r : Result WalkState LoadFault) → walk_with_line_appended (name_of_numbered_file files f) (spot_of_file_line files f n) line w ≡ r → Next
        → Goes files left f n (line ∷ lines) w (load_result_and_then r (λ now. load_result_and_then (files_opened_by_lead files (include_site_of_line files f n) now (lead_of_file_line files f line)) (λ inner.
        load_result_and_then (walk_after_file_visits (walk_after_file_visit left files) files (include_site_of_line files f n) inner now) (walk_after_file_lines (walk_after_file_visit left files) files f (n + 1) lines))))
    by_taken (Ok now) t next = by_opened (files_opened_by_lead files (include_site_of_line files f n) now (lead_of_file_line files f line)) now t refl next
    by_taken (Err fault) t next = wrong left f n line lines w fault t

visits_are_computed_at_each_depth : (files : List ParsedFile) (left : ℕ) → AreVisitsComputedAtDepth files left
visits_are_computed_at_each_depth files zero at f rest w off =
    ((λ now e. absurd (fault_is_no_walk now (InFile at.file (TooDeep at.row)) e)), (λ fault e. subst (λ r. Enters files zero at (f ∷ rest) w r) e (deep at f rest w off)))
visits_are_computed_at_each_depth files (suc left) at f rest w off =
    let goes = computed_walk_goes_over_lines files left (visits_are_computed_at_each_depth files left) f 0 (lines_of_numbered_file files f) (walk_with_file_entered f w) in (
      (λ now e outcome next. more left at f rest w now outcome off (subst (λ r. Goes files left f 0 (lines_of_numbered_file files f) (walk_with_file_entered f w) r) e goes) next),
      (λ fault e. inside left at f rest w fault off (subst (λ r. Goes files left f 0 (lines_of_numbered_file files f) (walk_with_file_entered f w) r) e goes)),
    )

pub computed_walk_is_walk_of_files : (files : List ParsedFile) → IsWalkOfFiles files (walk_or_fault_of_files files)
unfolding walk_or_fault_of_files
computed_walk_is_walk_of_files files = computed_walk_goes_over_lines files include_depth_limit (visits_are_computed_at_each_depth files include_depth_limit) 0 0 (lines_of_numbered_file files 0) (walk_with_file_entered 0 empty_walk)

-- ---- there is no other outcome

mutual
  goes_same : (files : List ParsedFile) {left f n : ℕ} {lines : List Line} {w : WalkState} {outcome : Result WalkState LoadFault}
      → Goes files left f n lines w outcome → walk_after_file_lines (walk_after_file_visit left files) files f n lines w ≡ outcome
  goes_same files (end left f n w is) = rw is refl
  goes_same files (broken left f n w fault is) = rw is refl
  goes_same files (wrong left f n line lines w fault t) = rw t refl
  goes_same files (shut left f n line lines w now fault t o) = rw (t, o) refl
  goes_same files (stops left f n line lines w now inner fault t o e) = rw (t, o, enters_same files e) refl
  goes_same files (onward left f n line lines w now within inner outcome t o e g) = rw (t, o, enters_same files e) (goes_same files g)

  enters_same : (files : List ParsedFile) {left : ℕ} {at : IncludeSite} {inner : List ℕ} {w : WalkState} {outcome : Result WalkState LoadFault}
      → Enters files left at inner w outcome → walk_after_file_visits (walk_after_file_visit left files) files at inner w ≡ outcome
  enters_same files (none left at w) = refl
  enters_same files (again left at f rest w on) = rw on refl
  enters_same files (deep at f rest w off) = rw off refl
  enters_same files (inside left at f rest w fault off g) = rw (off, goes_same files g) refl
  enters_same files (more left at f rest w now outcome off g e) = rw (off, goes_same files g) (enters_same files e)

pub walk_of_files_is_computed_walk : (files : List ParsedFile) (outcome : Result WalkState LoadFault) → IsWalkOfFiles files outcome → walk_or_fault_of_files files ≡ outcome
unfolding walk_or_fault_of_files
walk_of_files_is_computed_walk files outcome is = goes_same files is
