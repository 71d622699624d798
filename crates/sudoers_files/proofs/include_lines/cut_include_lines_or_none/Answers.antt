use Rattle.std.proofs.Common.{◌∙◌, ap}
use Rattle.sudoers_text.specs.Cut.{cut_outcome_of_text}
use Rattle.sudoers_text.proofs.Found.{computed_outcome_is_outcome_of_cut}
use Rattle.sudoers_files.specs.Included.{names_from_include_leads_of_lines}
use Rattle.sudoers_files.proofs.Kept.{text_without_leads_has_no_names}
use Rattle.sudoers_files.proofs.include_lines.cut_include_lines_or_none.Goals as goal

pub returns-then-not-may_include_files : goal.returns-then-not-may_include_files
returns-then-not-may_include_files c = λ of nothing.
    let name = c.args.name.now in
    let bytes = c.args.bytes.now in
    ap (names_from_include_leads_of_lines of name) c.new.ensures.items
    ∙ text_without_leads_has_no_names of name bytes (cut_outcome_of_text bytes) nothing (c.may_include_files.ensures.nowhere c.if-not-may_include_files.true name) (computed_outcome_is_outcome_of_cut bytes)
