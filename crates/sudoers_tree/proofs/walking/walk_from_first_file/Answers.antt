use Rattle.sudoers_tree.proofs.Common.{Err, IsSoundWalkBuilder, List, LoadFault, MatchResult, NoMemory, Ok, ParsedFile, Result, Tables, parsed_files_of_view, refl, rules, subst, sym, walk_or_fault_of_files}
use Rattle.sudoers_tree.proofs.Common.{walk_or_first_fault, walk_state_of_builder, ◌∙◌, ◌≡◌, ◌⊎◌}
use Rattle.sudoers_tree.specs.declared.walking.WalkBuilder.{WalkBuilder}
use Rattle.sudoers_tree.proofs.Loads.{EndsWithFaultOrNoMemory, outcome_of_unreached_files_is_outcome, fault_of_unreached_file_ends_checked_walk, walk_from_first_file_is_walk_of_files, fault_of_walk_ends_checked_walk}
use Rattle.sudoers_tree.proofs.walking.walk_from_first_file.Goals as goal

pub returns-in_err-walk_lines_of_file : goal.returns-in_err-walk_lines_of_file
returns-in_err-walk_lines_of_file c =
    let read : List ParsedFile = parsed_files_of_view c.args.files.now in
    let t : Tables = c.args.files.now.tables.now in
    let fault : LoadFault = c.in_err-walk_lines_of_file.field-0.0 in
    let told : c.from_residual-in_err-walk_lines_of_file.result ≡ Err fault = search rules in
    let stops : EndsWithFaultOrNoMemory fault (walk_or_first_fault read) =
    fault_of_walk_ends_checked_walk read fault (subst (EndsWithFaultOrNoMemory fault) (walk_from_first_file_is_walk_of_files read (walk_state_of_builder t c.in_ok-walking.walking) c.in_ok-walking.ensures.1) c.in_err-walk_lines_of_file.ensures) in
    subst (λ (r : Result WalkBuilder LoadFault). MatchResult r
    (λ w. (walk_or_first_fault read ≡ Ok (walk_state_of_builder t w)) × IsSoundWalkBuilder c.args.files.now c.args.known.now w)
    (λ f. (f ≡ NoMemory) ⊎ (walk_or_first_fault read ≡ Err f))) (sym told) stops

pub returns-in_err-check_unreached_files : goal.returns-in_err-check_unreached_files
returns-in_err-check_unreached_files c =
    let read : List ParsedFile = parsed_files_of_view c.args.files.now in
    let t : Tables = c.args.files.now.tables.now in
    let fault : LoadFault = c.in_err-check_unreached_files.field-0.0 in
    let told : c.from_residual-in_err-check_unreached_files.result ≡ Err fault = search rules in
    let walk : walk_or_fault_of_files read ≡ Ok (walk_state_of_builder t c.walk_lines_of_file.new.self) =
    sym (walk_from_first_file_is_walk_of_files read (walk_state_of_builder t c.in_ok-walking.walking) c.in_ok-walking.ensures.1) ∙ c.in_ok-walk_lines_of_file.ensures.0 in
    subst (λ (r : Result WalkBuilder LoadFault). MatchResult r
    (λ w. (walk_or_first_fault read ≡ Ok (walk_state_of_builder t w)) × IsSoundWalkBuilder c.args.files.now c.args.known.now w)
    (λ f. (f ≡ NoMemory) ⊎ (walk_or_first_fault read ≡ Err f))) (sym told)
    (fault_of_unreached_file_ends_checked_walk read read (walk_state_of_builder t c.walk_lines_of_file.new.self) fault walk refl (c.in_err-check_unreached_files.ensures (walk_state_of_builder t c.walk_lines_of_file.new.self) (search rules)))

pub returns : goal.returns
returns c =
    let read : List ParsedFile = parsed_files_of_view c.args.files.now in
    let t : Tables = c.args.files.now.tables.now in
    let walk : walk_or_fault_of_files read ≡ Ok (walk_state_of_builder t c.walk_lines_of_file.new.self) =
    sym (walk_from_first_file_is_walk_of_files read (walk_state_of_builder t c.in_ok-walking.walking) c.in_ok-walking.ensures.1) ∙ c.in_ok-walk_lines_of_file.ensures.0 in
    (outcome_of_unreached_files_is_outcome read read (walk_state_of_builder t c.walk_lines_of_file.new.self) (Ok (walk_state_of_builder t c.walk_lines_of_file.new.self)) walk refl (c.in_ok-check_unreached_files.ensures (walk_state_of_builder t c.walk_lines_of_file.new.self) (search rules)), c.in_ok-walk_lines_of_file.ensures.1)
