use Rattle.sudoers_tree.proofs.Common.{IsFaultlessCut, List, Ok, ap, arith, cut_outcome_of_text, join, length, line_texts_of_pieces, sym, ℕ, ◌∙◌, ◌≡◌}
use Rattle.sudoers_text.proofs.Alone.{text_cut_into_lines_has_faultless_cut, join_is_cut_into_its_lines}
use Rattle.sudoers_text.proofs.Closed.{closed_line_is_line_anywhere}
use Rattle.sudoers_text.proofs.Unique.{lines_of_text_are_unique}
use Rattle.sudoers_text.proofs.WholeAlone.{logical_lines_are_lines_of_their_join}
use Rattle.sudoers_tree.proofs.PieceLines.{byte_count_of_lines_is_length_of_join}
use Rattle.sudoers_tree.proofs.Known.{logical_lines_are_each_cut_as_themselves}
use Rattle.sudoers_tree.proofs.change_reading.checked_size_of_pieces.Goals as goal

pub returns-in-Some : goal.returns-in-Some
returns-in-Some c =
    let lines : List (List ℕ) = line_texts_of_pieces c.args.tables.now c.args.pieces.now in
    let size = c.in-Some.ensures in
    let count : c.in-Some.size ≡ length (join lines) = omega (arith, size.is, byte_count_of_lines_is_length_of_join lines) in (
      join_is_cut_into_its_lines lines (logical_lines_are_each_cut_as_themselves lines c.requires.whole size.short) c.requires.ended
          (omega (arith, size.fits, count)),
      count,
    )

pub returns : goal.returns
returns c =
    let lines : List (List ℕ) = line_texts_of_pieces c.args.tables.now c.args.pieces.now in
    let text = c.as_slice-bytes.ensures.value ∙ c.in_ok-text.ensures in
    let found : List (List ℕ) = c.in_ok-cut.field-0 in
    let is : cut_outcome_of_text (join lines) ≡ Ok found = ap cut_outcome_of_text (sym text) ∙ c.in_ok-cut.ensures.outcome in
    let cut : IsFaultlessCut (join lines) found = text_cut_into_lines_has_faultless_cut (join lines) found is in
    let same : found ≡ lines = lines_of_text_are_unique (join lines) found lines cut.cuts (logical_lines_are_lines_of_their_join closed_line_is_line_anywhere lines c.requires.whole c.requires.ended) in
    (is ∙ ap (λ ls. Ok ls) same, ap length text)
