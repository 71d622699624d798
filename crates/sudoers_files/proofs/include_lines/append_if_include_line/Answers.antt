use Rattle.std.proofs.Common.{◌∙◌, ◌++◌, ◌∷◌, [], sym, ap}
use Rattle.sudoers_files.specs.Included.{names_from_include_leads_of_lines}
use Rattle.sudoers_files.proofs.Kept.{names_for_line_at_end_are_appended, line_without_lead_adds_no_names}
use Rattle.sudoers_files.proofs.include_lines.append_if_include_line.Goals as goal

pub returns-in_default : goal.returns-in_default
returns-in_default c = λ of nothing. line_without_lead_adds_no_names of c.args.name.now c.args.line.now c.args.kept.now.items nothing (sym c.in_ok-leads.ensures ∙ c.in_default.is)

pub returns : goal.returns
returns c = λ of nothing.
    ap (names_from_include_leads_of_lines of c.args.name.now) (c.in_ok-push.ensures.items ∙ ap (λ line. c.args.kept.now.items ++ line ∷ []) c.in_ok-from_slice.ensures)
    ∙ names_for_line_at_end_are_appended of c.args.name.now c.args.line.now c.args.kept.now.items
