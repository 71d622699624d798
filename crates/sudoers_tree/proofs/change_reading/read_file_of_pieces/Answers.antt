use Rattle.sudoers_tree.proofs.Common.{List, Ok, arith, ParsedFileRows, ap, cut_outcome_of_text, join, line_texts_of_pieces, parsed_file_of_cut_or_fault, refl, sym, ℕ, ◌∙◌, ◌≡◌}
use Rattle.sudoers_tree.proofs.FileRows.{AreLogicalLinesWithinLimits, rows_of_cut_lines_are_sound, file_rows_are_parsed_file_of_texts}
use Rattle.sudoers_tree.proofs.Known.{lines_cut_from_text_are_within_limits}
use Rattle.sudoers_tree.proofs.change_reading.read_file_of_pieces.Goals as goal

pub read_lines_of_pieces-requires-clause-fits : goal.read_lines_of_pieces-requires-clause-fits
read_lines_of_pieces-requires-clause-fits c =
    let lines : List (List ℕ) = line_texts_of_pieces c.args.tables.now c.args.pieces.now in
    (lines_cut_from_text_are_within_limits (join lines) lines c.in-Ok.ensures.0).fits

pub returns-in_ok-fault-in-Ok-clause-read : goal.returns-in_ok-fault-in-Ok-clause-read
returns-in_ok-fault-in-Ok-clause-read c =
    let lines : List (List ℕ) = line_texts_of_pieces c.args.tables.now c.args.pieces.now in
    let file : ParsedFileRows = record { name = c.args.name; rows = c.read_lines_of_pieces.new.rows; fault = c.in_ok-fault-in-Ok.fault; bytes = c.in-Ok.bytes } in
    let cut : cut_outcome_of_text (join lines) ≡ Ok lines = c.in-Ok.ensures.0 in
    let are : AreLogicalLinesWithinLimits lines = lines_cut_from_text_are_within_limits (join lines) lines cut in (
      ap (parsed_file_of_cut_or_fault c.args.name) cut ∙ ap (λ r. Ok r) (sym (file_rows_are_parsed_file_of_texts c.read_lines_of_pieces.new.tables file c.args.name lines refl c.in_ok-fault-in-Ok.ensures.read)),
      rows_of_cut_lines_are_sound c.read_lines_of_pieces.new.tables file lines c.in_ok-fault-in-Ok.ensures.stand c.in_ok-fault-in-Ok.ensures.read are (omega (arith, c.in-Ok.ensures.1)),
    )
