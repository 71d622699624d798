-- The walk, line by line, and visits of files.
use Rattle.sudoers_tree.proofs.Common.{Err, FileVisit, IncludeSite, Line, List, LoadFault, NoMemory, Ok, ParsedFile, Result, Some, WalkState, ap, arith, drop, files_opened_by_lead, include_site_of_line, inl, inr}
use Rattle.sudoers_tree.proofs.Common.{lead_of_file_line, lines_of_numbered_file, load_result_and_then, name_of_numbered_file, refl, slice_get, spot_of_file_line, suc, sym, walk_after_file_lines}
use Rattle.sudoers_tree.proofs.Common.{walk_after_file_visit, walk_after_file_visits, walk_after_included_files, walk_with_file_entered, walk_with_line_appended, zero, ℕ, ◌+◌, ◌-◌, ◌∙◌, ◌≡◌, ◌⊎◌}
use Rattle.sudoers_tree.proofs.Numbered.{drop_begins_with_numbered_item}

pub visit_below_limit_is_walk_of_file_lines : (left : ℕ) (files : List ParsedFile) (at : IncludeSite) (f : ℕ) (w : WalkState) → (left ≡ 0 → ⊥)
    → walk_after_file_visit left files at f w ≡ walk_after_file_lines (walk_after_file_visit (left - 1) files) files f 0 (lines_of_numbered_file files f) (walk_with_file_entered f w)
visit_below_limit_is_walk_of_file_lines zero files at f w some = absurd (some refl)
visit_below_limit_is_walk_of_file_lines (suc left) files at f w some =
    let one : left ≡ suc left - 1 = omega arith in ap (λ k. walk_after_file_lines (walk_after_file_visit k files) files f 0 (lines_of_numbered_file files f) (walk_with_file_entered f w)) one

-- ---- the walk, line by line

load_result_chaining_is_associative : {A : Type 0} (r : Result A LoadFault) (first : A → Result WalkState LoadFault) (next : WalkState → Result WalkState LoadFault)
    → load_result_and_then r (λ x. load_result_and_then (first x) next) ≡ load_result_and_then (load_result_and_then r first) next
load_result_chaining_is_associative (Ok x) first next = refl
load_result_chaining_is_associative (Err fault) first next = refl

-- a line, the files to which it leads, and the lines after it
pub walk_of_lines_is_of_line_and_rest : (visit : FileVisit) (files : List ParsedFile) (f n : ℕ) (lines : List Line) (line : Line) (w : WalkState) → slice_get lines n ≡ Some line
    → walk_after_file_lines visit files f n (drop n lines) w
    ≡ load_result_and_then (walk_with_line_appended (name_of_numbered_file files f) (spot_of_file_line files f n) line w)
    (λ now. load_result_and_then (walk_after_included_files visit files f n line now) (walk_after_file_lines visit files f (n + 1) (drop (n + 1) lines)))
walk_of_lines_is_of_line_and_rest visit files f n lines line w at =
    ap (λ ls. walk_after_file_lines visit files f n ls w) (drop_begins_with_numbered_item lines n line at) ∙ by (walk_with_line_appended (name_of_numbered_file files f) (spot_of_file_line files f n) line w)
  where
    by : (r : Result WalkState LoadFault)
        → load_result_and_then r (λ now. load_result_and_then (files_opened_by_lead files (include_site_of_line files f n) now (lead_of_file_line files f line)) (λ inner.
        load_result_and_then (walk_after_file_visits visit files (include_site_of_line files f n) inner now) (walk_after_file_lines visit files f (n + 1) (drop (n + 1) lines))))
        ≡ load_result_and_then r (λ now. load_result_and_then (walk_after_included_files visit files f n line now) (walk_after_file_lines visit files f (n + 1) (drop (n + 1) lines)))
    by (Ok now) =
        load_result_chaining_is_associative (files_opened_by_lead files (include_site_of_line files f n) now (lead_of_file_line files f line)) (λ inner. walk_after_file_visits visit files (include_site_of_line files f n) inner now)
        (walk_after_file_lines visit files f (n + 1) (drop (n + 1) lines))
    by (Err fault) = refl

pub walk_goes_on_after_line : (visit : FileVisit) (files : List ParsedFile) (f n : ℕ) (lines : List Line) (line : Line) (w now within : WalkState) → slice_get lines n ≡ Some line
    → walk_with_line_appended (name_of_numbered_file files f) (spot_of_file_line files f n) line w ≡ Ok now → walk_after_included_files visit files f n line now ≡ Ok within
    → walk_after_file_lines visit files f (n + 1) (drop (n + 1) lines) within ≡ walk_after_file_lines visit files f n (drop n lines) w
walk_goes_on_after_line visit files f n lines line w now within at t is =
    sym (walk_of_lines_is_of_line_and_rest visit files f n lines line w at
    ∙ ap (λ r. load_result_and_then r (λ now. load_result_and_then (walk_after_included_files visit files f n line now) (walk_after_file_lines visit files f (n + 1) (drop (n + 1) lines)))) t
    ∙ ap (λ r. load_result_and_then r (walk_after_file_lines visit files f (n + 1) (drop (n + 1) lines))) is)

pub fault_of_line_ends_walk : (visit : FileVisit) (files : List ParsedFile) (f n : ℕ) (lines : List Line) (line : Line) (w : WalkState) (fault : LoadFault)
    → slice_get lines n ≡ Some line → walk_with_line_appended (name_of_numbered_file files f) (spot_of_file_line files f n) line w ≡ Err fault
    → walk_after_file_lines visit files f n (drop n lines) w ≡ Err fault
fault_of_line_ends_walk visit files f n lines line w fault at t =
    walk_of_lines_is_of_line_and_rest visit files f n lines line w at
    ∙ ap (λ r. load_result_and_then r (λ now. load_result_and_then (walk_after_included_files visit files f n line now) (walk_after_file_lines visit files f (n + 1) (drop (n + 1) lines)))) t

pub fault_of_included_files_ends_walk : (visit : FileVisit) (files : List ParsedFile) (f n : ℕ) (lines : List Line) (line : Line) (w now : WalkState) (fault : LoadFault)
    → slice_get lines n ≡ Some line → walk_with_line_appended (name_of_numbered_file files f) (spot_of_file_line files f n) line w ≡ Ok now
    → walk_after_included_files visit files f n line now ≡ Err fault → walk_after_file_lines visit files f n (drop n lines) w ≡ Err fault
fault_of_included_files_ends_walk visit files f n lines line w now fault at t is =
    walk_of_lines_is_of_line_and_rest visit files f n lines line w at
    ∙ ap (λ r. load_result_and_then r (λ now. load_result_and_then (walk_after_included_files visit files f n line now) (walk_after_file_lines visit files f (n + 1) (drop (n + 1) lines)))) t
    ∙ ap (λ r. load_result_and_then r (walk_after_file_lines visit files f (n + 1) (drop (n + 1) lines))) is

-- ---- the fault with which a walk ends, or want of memory

pub line_fault_or_no_memory_ends_walk : (visit : FileVisit) (files : List ParsedFile) (f n : ℕ) (lines : List Line) (line : Line) (w : WalkState) (fault : LoadFault)
    (whole : Result WalkState LoadFault) → slice_get lines n ≡ Some line → walk_after_file_lines visit files f n (drop n lines) w ≡ whole
    → (fault ≡ NoMemory) ⊎ (walk_with_line_appended (name_of_numbered_file files f) (spot_of_file_line files f n) line w ≡ Err fault) → (fault ≡ NoMemory) ⊎ (whole ≡ Err fault)
line_fault_or_no_memory_ends_walk visit files f n lines line w fault whole at begun (inl memory) = inl memory
line_fault_or_no_memory_ends_walk visit files f n lines line w fault whole at begun (inr t) = inr (sym begun ∙ fault_of_line_ends_walk visit files f n lines line w fault at t)

pub included_fault_or_no_memory_ends_walk : (visit : FileVisit) (files : List ParsedFile) (f n : ℕ) (lines : List Line) (line : Line) (w now : WalkState)
    (fault : LoadFault) (whole : Result WalkState LoadFault) → slice_get lines n ≡ Some line
    → walk_after_file_lines visit files f n (drop n lines) w ≡ whole → walk_with_line_appended (name_of_numbered_file files f) (spot_of_file_line files f n) line w ≡ Ok now
    → (fault ≡ NoMemory) ⊎ (walk_after_included_files visit files f n line now ≡ Err fault) → (fault ≡ NoMemory) ⊎ (whole ≡ Err fault)
included_fault_or_no_memory_ends_walk visit files f n lines line w now fault whole at begun t (inl memory) = inl memory
included_fault_or_no_memory_ends_walk visit files f n lines line w now fault whole at begun t (inr is) = inr (sym begun ∙ fault_of_included_files_ends_walk visit files f n lines line w now fault at t is)
