use Rattle.sudoers_tree.proofs.Common.{All-push, All-same, HasSoundFileRows, List, NamedFile, ParsedFile, ParsedFileRows, Tables, [], ap, drop, table_growth_is_transitive, load_result_and_then, map, map-append, parsed_file_of_rows}
use Rattle.sudoers_tree.proofs.Common.{parsed_files_or_cut_fault, sym, ℕ, ◌++◌, ◌+◌, ◌∙◌, ◌∷◌, ◌≡◌}
use Rattle.sudoers_tree.proofs.FileRows.{grown_tables_keep_all_file_rows_sound, grown_tables_keep_parsed_files}
use Rattle.sudoers_tree.proofs.PieceLines.{drop_is_item_and_next_drop}
use Rattle.sudoers_tree.proofs.named_files.read_files_into_tables_until_fault.Goals as goal

pub loop-file-preserved : goal.loop-file-preserved
loop-file-preserved c =
    let t : Tables = c.loop-file.tables in
    let u : Tables = c.read_file_into_tables.new.tables in
    let read : List ParsedFileRows = c.loop-file.read.items in
    let files : List NamedFile = c.args.files.now in
    let i : ℕ = c.loop-file.file-index in
    let here : NamedFile = c.file-item.result in
    let rest : List NamedFile = drop (i + 1) files in
    let new : ParsedFileRows = c.in_ok-read_file_into_tables.field-0 in
    let all : List ParsedFile = map (parsed_file_of_rows u) c.push.new.self.items in
    let more : all ≡ map (parsed_file_of_rows t) read ++ parsed_file_of_rows u new ∷ [] =
    ap (map (parsed_file_of_rows u)) c.in_ok-push.ensures.items
    ∙ map-append (parsed_file_of_rows u) read (new ∷ [])
    ∙ ap (λ rs. rs ++ parsed_file_of_rows u new ∷ []) (grown_tables_keep_parsed_files t u c.in_ok-read_file_into_tables.ensures.grown read c.loop-file.invariant.0) in (
      All-same (HasSoundFileRows u) c.push.new.self.items (read ++ new ∷ []) c.in_ok-push.ensures.items
          (All-push (HasSoundFileRows u) read new (grown_tables_keep_all_file_rows_sound table_growth_is_transitive t u c.in_ok-read_file_into_tables.ensures.grown read c.loop-file.invariant.0) c.in_ok-read_file_into_tables.ensures.read.1),
      ap (λ rs. parsed_files_or_cut_fault rs rest) more
          ∙ ap (λ o. load_result_and_then o (λ reading. parsed_files_or_cut_fault (map (parsed_file_of_rows t) read ++ reading ∷ []) rest)) (sym c.in_ok-read_file_into_tables.ensures.read.0)
          ∙ ap (parsed_files_or_cut_fault (map (parsed_file_of_rows t) read)) (sym (drop_is_item_and_next_drop files i here c.loop-file-test.true c.file-item.is))
          ∙ c.loop-file.invariant.1,
    )
