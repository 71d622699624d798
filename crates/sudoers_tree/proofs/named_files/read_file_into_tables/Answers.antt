use Rattle.sudoers_tree.proofs.Common.{List, Ok, arith, length, ParsedFileRows, ap, cut_outcome_of_text, parsed_file_of_cut_or_fault, rules, sym, ℕ, ◌∙◌, ◌≡◌}
use Rattle.sudoers_text.proofs.Alone.{text_cut_into_lines_has_faultless_cut}
use Rattle.sudoers_tree.proofs.FileRows.{AreLogicalLinesWithinLimits, rows_of_cut_lines_are_sound, file_rows_are_parsed_file_of_texts}
use Rattle.sudoers_tree.proofs.Known.{lines_cut_from_text_are_within_limits}
use Rattle.sudoers_tree.proofs.named_files.read_file_into_tables.Goals as goal

pub returns-in_ok-fault-in-Ok-clause-read : goal.returns-in_ok-fault-in-Ok-clause-read
returns-in_ok-fault-in-Ok-clause-read c =
    let file : ParsedFileRows = record { name = c.in_ok-name.name; rows = c.read_lines_until_fault.new.rows; fault = c.in_ok-fault-in-Ok.fault; bytes = c.len-in-Ok.result } in
    let name : List ℕ = c.args.file.now.name in
    let lines : List (List ℕ) = c.in-Ok.lines in
    let cut : cut_outcome_of_text c.args.file.now.bytes ≡ Ok lines = search rules in
    let named : c.in_ok-name.name ≡ name = search rules in
    let are : AreLogicalLinesWithinLimits lines = lines_cut_from_text_are_within_limits c.args.file.now.bytes lines cut in (
      ap (parsed_file_of_cut_or_fault name) cut ∙ ap (λ r. Ok r) (sym (file_rows_are_parsed_file_of_texts c.read_lines_until_fault.new.tables file name lines named c.in_ok-fault-in-Ok.ensures.read)),
      rows_of_cut_lines_are_sound c.read_lines_until_fault.new.tables file lines c.in_ok-fault-in-Ok.ensures.stand c.in_ok-fault-in-Ok.ensures.read are (omega (arith, ap length (text_cut_into_lines_has_faultless_cut c.args.file.now.bytes lines cut).cuts.joined, c.len-in-Ok.ensures)),
    )
