use Rattle.sudoers_tree.proofs.Common.{Err, IsWalkStepOutcome, Line, List, LoadFault, NoMemory, Ok, ParsedFile, Tables, WalkLineSpot, ap, length, lines_of_numbered_file, name_of_numbered_file, parsed_files_of_view}
use Rattle.sudoers_tree.proofs.Common.{physical_line_of_file_line, rules, spot_of_file_line, subst, sym, walk_after_file_lines, walk_after_file_visit, walk_state_of_builder, walk_with_file_entered}
use Rattle.sudoers_tree.proofs.Common.{walk_with_line_appended, ℕ, ◌<◌, ◌∙◌, ◌≡◌, ◌⊎◌}
use Rattle.sudoers_tree.proofs.Numbered.{item_below_length_exists}
use Rattle.sudoers_tree.proofs.Visits.{included_fault_or_no_memory_ends_walk, walk_goes_on_after_line, line_fault_or_no_memory_ends_walk}
use Rattle.sudoers_tree.proofs.walking.WalkBuilder.+walk.Goals as goal

spot_is : (files : List ParsedFile) (f n row : ℕ) → row ≡ physical_line_of_file_line (lines_of_numbered_file files f) n → (let at : WalkLineSpot = record { file = f; line = n; row = row } in at) ≡ spot_of_file_line files f n
spot_is files f n row is = ap (λ r. record { file = f; line = n; row = r }) is

pub walk_lines_of_file-returns-in_err-append_walk_line_at : goal.walk_lines_of_file-returns-in_err-append_walk_line_at
walk_lines_of_file-returns-in_err-append_walk_line_at c = λ d.
    let files : List ParsedFile = parsed_files_of_view d.args.files.now in
    let t : Tables = d.args.files.now.tables.now in
    let f : ℕ = d.args.file in
    let n : ℕ = d.loop-line.line in
    let lines : List Line = lines_of_numbered_file files f in
    let less : n < length lines = search rules in
    let at = item_below_length_exists lines n less in
    let fault : LoadFault = d.in_err-append_walk_line_at.field-0.0 in
    let told : d.from_residual-in_err-append_walk_line_at.result ≡ Err fault = search rules in
    let whole = walk_after_file_lines (walk_after_file_visit d.args.left files) files f 0 lines (walk_with_file_entered f (walk_state_of_builder t d.args.self.now)) in
    subst (λ r. IsWalkStepOutcome r d.args.files.now d.args.known.now d.append_walk_line_at.new.self whole) (sym told)
    (line_fault_or_no_memory_ends_walk (walk_after_file_visit d.args.left files) files f n lines at.0 (walk_state_of_builder t d.loop-line.self) fault whole at.1 d.loop-line.invariant.1
    (subst (λ s. (fault ≡ NoMemory) ⊎ (walk_with_line_appended (name_of_numbered_file files f) s at.0 (walk_state_of_builder t d.loop-line.self) ≡ Err fault)) (spot_is files f n d.loop-line.row d.loop-line.invariant.2) (d.in_err-append_walk_line_at.ensures.comes at.0 at.1)))

pub walk_lines_of_file-returns-in_err-follow_include_at : goal.walk_lines_of_file-returns-in_err-follow_include_at
walk_lines_of_file-returns-in_err-follow_include_at c = λ d.
    let files : List ParsedFile = parsed_files_of_view d.args.files.now in
    let t : Tables = d.args.files.now.tables.now in
    let f : ℕ = d.args.file in
    let n : ℕ = d.loop-line.line in
    let lines : List Line = lines_of_numbered_file files f in
    let less : n < length lines = search rules in
    let at = item_below_length_exists lines n less in
    let took : walk_with_line_appended (name_of_numbered_file files f) (spot_of_file_line files f n) at.0 (walk_state_of_builder t d.loop-line.self) ≡ Ok (walk_state_of_builder t d.append_walk_line_at.new.self) =
    subst (λ s. walk_with_line_appended (name_of_numbered_file files f) s at.0 (walk_state_of_builder t d.loop-line.self) ≡ Ok (walk_state_of_builder t d.append_walk_line_at.new.self)) (spot_is files f n d.loop-line.row d.loop-line.invariant.2) (d.in_ok-append_walk_line_at.ensures.comes at.0 at.1).0 in
    let fault : LoadFault = d.in_err-follow_include_at.field-0.0 in
    let told : d.from_residual-in_err-follow_include_at.result ≡ Err fault = search rules in
    let whole = walk_after_file_lines (walk_after_file_visit d.args.left files) files f 0 lines (walk_with_file_entered f (walk_state_of_builder t d.args.self.now)) in
    subst (λ r. IsWalkStepOutcome r d.args.files.now d.args.known.now d.follow_include_at.new.self whole) (sym told)
    (included_fault_or_no_memory_ends_walk (walk_after_file_visit d.args.left files) files f n lines at.0 (walk_state_of_builder t d.loop-line.self) (walk_state_of_builder t d.append_walk_line_at.new.self) fault whole at.1
    d.loop-line.invariant.1 took (d.in_err-follow_include_at.ensures at.0 at.1))

pub walk_lines_of_file-loop-line-preserved : goal.walk_lines_of_file-loop-line-preserved
walk_lines_of_file-loop-line-preserved c = λ d.
    let files : List ParsedFile = parsed_files_of_view d.args.files.now in
    let t : Tables = d.args.files.now.tables.now in
    let f : ℕ = d.args.file in
    let n : ℕ = d.loop-line.line in
    let lines : List Line = lines_of_numbered_file files f in
    let less : n < length lines = search rules in
    let at = item_below_length_exists lines n less in
    let took : walk_with_line_appended (name_of_numbered_file files f) (spot_of_file_line files f n) at.0 (walk_state_of_builder t d.loop-line.self) ≡ Ok (walk_state_of_builder t d.append_walk_line_at.new.self) =
    subst (λ s. walk_with_line_appended (name_of_numbered_file files f) s at.0 (walk_state_of_builder t d.loop-line.self) ≡ Ok (walk_state_of_builder t d.append_walk_line_at.new.self)) (spot_is files f n d.loop-line.row d.loop-line.invariant.2) (d.in_ok-append_walk_line_at.ensures.comes at.0 at.1).0 in
    let went = d.in_ok-follow_include_at.ensures at.0 at.1 in (
      went.1,
      walk_goes_on_after_line (walk_after_file_visit d.args.left files) files f n lines at.0 (walk_state_of_builder t d.loop-line.self) (walk_state_of_builder t d.append_walk_line_at.new.self) (walk_state_of_builder t d.follow_include_at.new.self) at.1 took went.0
          ∙ d.loop-line.invariant.1,
      d.physical_line_of_next_file_line-row.ensures at.0 at.1,
    )
