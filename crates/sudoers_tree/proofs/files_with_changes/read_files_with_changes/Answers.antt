use Rattle.sudoers_tree.proofs.Common.{All, All-push, All-same, AreFileNumbersOfChangesInOrder, Err, HasSoundFileRows, LineChange, List, LoadFault, MatchResult, NoMemory, Ok, ParsedFileRows, Tables, [], ap, arith}
use Rattle.sudoers_tree.proofs.Common.{changes_of_file, drop, files_after_changes, table_growth_is_transitive, leading_change_count_of_file, length, map, map-append, parsed_file_of_rows, parsed_files_or_cut_fault, rules, subst, sym}
use Rattle.sudoers_tree.proofs.Common.{take, ℕ, ◌++◌, ◌+◌, ◌<◌, ◌∙◌, ◌∷◌, ◌≡◌, ◌≤◌, ◌⊎◌}
use Rattle.sudoers_tree.proofs.FileChanges.{AreLeadingChangesOfFile, are_ended, leading_changes_are_those_of_first_file, bring_lines, file_stays, in_order, turn_goes_on, turn_stops}
use Rattle.sudoers_tree.proofs.FileRows.{grown_tables_keep_all_file_rows_sound, grown_tables_keep_parsed_files}
use Rattle.sudoers_tree.proofs.PieceLines.{drop_is_item_and_next_drop}
use Rattle.sudoers_tree.proofs.files_with_changes.read_files_with_changes.Goals as goal

pub read_file_with_changes-requires-clause-file : goal.read_file_with_changes-requires-clause-file
read_file_with_changes-requires-clause-file c =
    let t : Tables = c.args.tables.now in
    let u : Tables = c.loop-number.tables in
    let files : List ParsedFileRows = c.args.files.now in
    let changes : List LineChange = c.args.changes.now in
    let i : ℕ = c.loop-number.number in
    let rest : List LineChange = c.loop-number.rest.now in
    let here : List LineChange = c.split_at.result.0.now in
    let file : ParsedFileRows = c.index-files-number.result in
    let first : drop i files ≡ file ∷ drop (i + 1) files = drop_is_item_and_next_drop files i file c.loop-number-test.true c.index-files-number.is in
    let state : AreLeadingChangesOfFile i rest (length files) = leading_changes_are_those_of_first_file i rest (length files) c.loop-number.invariant.4 in
    let here_is : here ≡ changes_of_file i changes =
    c.split_at.ensures.front ∙ ap (λ n. take n rest) c.count_leading_changes_of_file.ensures.is ∙ state.here ∙ c.loop-number.invariant.3 i (omega arith) in
    file_stays table_growth_is_transitive t u c.loop-number.invariant.0 files changes c.requires.files c.requires.changes i file (drop (i + 1) files) first here here_is

pub read_file_with_changes-requires-clause-order : goal.read_file_with_changes-requires-clause-order
read_file_with_changes-requires-clause-order c =
    let t : Tables = c.args.tables.now in
    let u : Tables = c.loop-number.tables in
    let files : List ParsedFileRows = c.args.files.now in
    let changes : List LineChange = c.args.changes.now in
    let i : ℕ = c.loop-number.number in
    let rest : List LineChange = c.loop-number.rest.now in
    let here : List LineChange = c.split_at.result.0.now in
    let file : ParsedFileRows = c.index-files-number.result in
    let first : drop i files ≡ file ∷ drop (i + 1) files = drop_is_item_and_next_drop files i file c.loop-number-test.true c.index-files-number.is in
    let state : AreLeadingChangesOfFile i rest (length files) = leading_changes_are_those_of_first_file i rest (length files) c.loop-number.invariant.4 in
    let here_is : here ≡ changes_of_file i changes =
    c.split_at.ensures.front ∙ ap (λ n. take n rest) c.count_leading_changes_of_file.ensures.is ∙ state.here ∙ c.loop-number.invariant.3 i (omega arith) in
    in_order table_growth_is_transitive t u c.loop-number.invariant.0 files changes c.requires.files c.requires.changes i file (drop (i + 1) files) first here here_is

pub read_file_with_changes-requires-clause-lines : goal.read_file_with_changes-requires-clause-lines
read_file_with_changes-requires-clause-lines c =
    let t : Tables = c.args.tables.now in
    let u : Tables = c.loop-number.tables in
    let files : List ParsedFileRows = c.args.files.now in
    let changes : List LineChange = c.args.changes.now in
    let i : ℕ = c.loop-number.number in
    let rest : List LineChange = c.loop-number.rest.now in
    let here : List LineChange = c.split_at.result.0.now in
    let file : ParsedFileRows = c.index-files-number.result in
    let first : drop i files ≡ file ∷ drop (i + 1) files = drop_is_item_and_next_drop files i file c.loop-number-test.true c.index-files-number.is in
    let state : AreLeadingChangesOfFile i rest (length files) = leading_changes_are_those_of_first_file i rest (length files) c.loop-number.invariant.4 in
    let here_is : here ≡ changes_of_file i changes =
    c.split_at.ensures.front ∙ ap (λ n. take n rest) c.count_leading_changes_of_file.ensures.is ∙ state.here ∙ c.loop-number.invariant.3 i (omega arith) in
    bring_lines table_growth_is_transitive t u c.loop-number.invariant.0 files changes c.requires.files c.requires.changes i file (drop (i + 1) files) first here here_is

pub read_file_with_changes-requires-clause-ended : goal.read_file_with_changes-requires-clause-ended
read_file_with_changes-requires-clause-ended c =
    let t : Tables = c.args.tables.now in
    let u : Tables = c.loop-number.tables in
    let files : List ParsedFileRows = c.args.files.now in
    let changes : List LineChange = c.args.changes.now in
    let i : ℕ = c.loop-number.number in
    let rest : List LineChange = c.loop-number.rest.now in
    let here : List LineChange = c.split_at.result.0.now in
    let file : ParsedFileRows = c.index-files-number.result in
    let first : drop i files ≡ file ∷ drop (i + 1) files = drop_is_item_and_next_drop files i file c.loop-number-test.true c.index-files-number.is in
    let state : AreLeadingChangesOfFile i rest (length files) = leading_changes_are_those_of_first_file i rest (length files) c.loop-number.invariant.4 in
    let here_is : here ≡ changes_of_file i changes =
    c.split_at.ensures.front ∙ ap (λ n. take n rest) c.count_leading_changes_of_file.ensures.is ∙ state.here ∙ c.loop-number.invariant.3 i (omega arith) in
    are_ended table_growth_is_transitive t u c.loop-number.invariant.0 files changes c.requires.files c.requires.changes i file (drop (i + 1) files) first here here_is

pub returns-in_err-read_file_with_changes-clause-read : goal.returns-in_err-read_file_with_changes-clause-read
returns-in_err-read_file_with_changes-clause-read c =
    let t : Tables = c.args.tables.now in
    let u : Tables = c.loop-number.tables in
    let files : List ParsedFileRows = c.args.files.now in
    let changes : List LineChange = c.args.changes.now in
    let i : ℕ = c.loop-number.number in
    let rest : List LineChange = c.loop-number.rest.now in
    let here : List LineChange = c.split_at.result.0.now in
    let file : ParsedFileRows = c.index-files-number.result in
    let first : drop i files ≡ file ∷ drop (i + 1) files = drop_is_item_and_next_drop files i file c.loop-number-test.true c.index-files-number.is in
    let state : AreLeadingChangesOfFile i rest (length files) = leading_changes_are_those_of_first_file i rest (length files) c.loop-number.invariant.4 in
    let here_is : here ≡ changes_of_file i changes =
    c.split_at.ensures.front ∙ ap (λ n. take n rest) c.count_leading_changes_of_file.ensures.is ∙ state.here ∙ c.loop-number.invariant.3 i (omega arith) in
    let fault : LoadFault = c.in_err-read_file_with_changes.field-0.0 in
    let told : c.from_residual-in_err-read_file_with_changes.result ≡ Err fault = search rules in
    let v : Tables = c.read_file_with_changes.new.tables in
    let whole = parsed_files_or_cut_fault [] (files_after_changes changes (map (parsed_file_of_rows t) files)) in
    subst (λ r. MatchResult r (λ new. (whole ≡ Ok (map (parsed_file_of_rows v) new.items)) × All (HasSoundFileRows v) new.items) (λ e. (e ≡ NoMemory) ⊎ (whole ≡ Err e))) (sym told)
    (turn_stops table_growth_is_transitive t u c.loop-number.invariant.0 files changes c.requires.files c.requires.changes i file (drop (i + 1) files) first here here_is
    (map (parsed_file_of_rows u) c.loop-number.new.items) whole fault c.loop-number.invariant.2 c.in_err-read_file_with_changes.ensures.read)

pub loop-number-preserved : goal.loop-number-preserved
loop-number-preserved c =
    let t : Tables = c.args.tables.now in
    let u : Tables = c.loop-number.tables in
    let files : List ParsedFileRows = c.args.files.now in
    let changes : List LineChange = c.args.changes.now in
    let i : ℕ = c.loop-number.number in
    let rest : List LineChange = c.loop-number.rest.now in
    let here : List LineChange = c.split_at.result.0.now in
    let file : ParsedFileRows = c.index-files-number.result in
    let first : drop i files ≡ file ∷ drop (i + 1) files = drop_is_item_and_next_drop files i file c.loop-number-test.true c.index-files-number.is in
    let state : AreLeadingChangesOfFile i rest (length files) = leading_changes_are_those_of_first_file i rest (length files) c.loop-number.invariant.4 in
    let here_is : here ≡ changes_of_file i changes =
    c.split_at.ensures.front ∙ ap (λ n. take n rest) c.count_leading_changes_of_file.ensures.is ∙ state.here ∙ c.loop-number.invariant.3 i (omega arith) in
    let v : Tables = c.read_file_with_changes.new.tables in
    let read : List ParsedFileRows = c.loop-number.new.items in
    let new : ParsedFileRows = c.in_ok-read_file_with_changes.field-0 in
    let whole = parsed_files_or_cut_fault [] (files_after_changes changes (map (parsed_file_of_rows t) files)) in
    let behind : List LineChange = c.split_at.result.1.now in
    let behind_is : behind ≡ drop (leading_change_count_of_file i rest) rest = c.split_at.ensures.back ∙ ap (λ n. drop n rest) c.count_leading_changes_of_file.ensures.is in
    let more : map (parsed_file_of_rows v) c.push.new.self.items ≡ map (parsed_file_of_rows u) read ++ parsed_file_of_rows v new ∷ [] =
    ap (map (parsed_file_of_rows v)) c.in_ok-push.ensures.items
    ∙ map-append (parsed_file_of_rows v) read (new ∷ [])
    ∙ ap (λ rs. rs ++ parsed_file_of_rows v new ∷ []) (grown_tables_keep_parsed_files u v c.in_ok-read_file_with_changes.ensures.grown read c.loop-number.invariant.1) in (
      table_growth_is_transitive t u v c.loop-number.invariant.0 c.in_ok-read_file_with_changes.ensures.grown,
      All-same (HasSoundFileRows v) c.push.new.self.items (read ++ new ∷ []) c.in_ok-push.ensures.items
          (All-push (HasSoundFileRows v) read new (grown_tables_keep_all_file_rows_sound table_growth_is_transitive u v c.in_ok-read_file_with_changes.ensures.grown read c.loop-number.invariant.1) c.in_ok-read_file_with_changes.ensures.read.1),
      turn_goes_on table_growth_is_transitive t u c.loop-number.invariant.0 files changes c.requires.files c.requires.changes i file (drop (i + 1) files) first here here_is
          (map (parsed_file_of_rows u) read) (map (parsed_file_of_rows v) c.push.new.self.items) (parsed_file_of_rows v new) whole c.loop-number.invariant.2 c.in_ok-read_file_with_changes.ensures.read.0 more,
      λ later within.
          let less : i < later = omega (arith, within) in
          let before : i ≤ later = omega (arith, within) in
          ap (changes_of_file later) behind_is ∙ state.behind later less ∙ c.loop-number.invariant.3 later before,
      subst (λ cs. AreFileNumbersOfChangesInOrder (i + 1) cs (length files)) (sym behind_is) state.by_files,
    )
