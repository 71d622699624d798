-- Lines that lead somewhere, and those that do not.
use Rattle.std.proofs.Common.{◌≡◌, ℕ, List, [], ◌∷◌, ◌++◌, Option, None, Result, Ok, Err, refl, sym, ap, ◌∙◌, append_assoc, append-nil}
use Rattle.sudoers_text.specs.declared.fault.TextFault.{TextFault}
use Rattle.sudoers_text.specs.Fault.{IsOutcomeOfCut}
use Rattle.sudoers_text.specs.Line.{join}
use Rattle.sudoers_tree.specs.declared.include_leads.Lead.{Lead}
use Rattle.sudoers_tree.specs.Lead.{include_lead_of_line}
use Rattle.sudoers_files.specs.Included.{names_from_include_leads_of_lines, lines_of_cut_or_none}

-- the names for lines followed by other lines
pub names_for_appended_lines_are_appended : (of : Option Lead → List (List ℕ)) (name : List ℕ) (lines more : List (List ℕ))
    → names_from_include_leads_of_lines of name (lines ++ more) ≡ names_from_include_leads_of_lines of name lines ++ names_from_include_leads_of_lines of name more
names_for_appended_lines_are_appended of name [] more = refl
names_for_appended_lines_are_appended of name (line ∷ lines) more =
    ap (λ names. of (include_lead_of_line name line) ++ names) (names_for_appended_lines_are_appended of name lines more)
    ∙ sym (append_assoc (of (include_lead_of_line name line)) (names_from_include_leads_of_lines of name lines) (names_from_include_leads_of_lines of name more))

-- the names for lines and one more that leads somewhere
pub names_for_line_at_end_are_appended : (of : Option Lead → List (List ℕ)) (name line : List ℕ) (kept : List (List ℕ))
    → names_from_include_leads_of_lines of name (kept ++ line ∷ []) ≡ names_from_include_leads_of_lines of name kept ++ of (include_lead_of_line name line)
names_for_line_at_end_are_appended of name line kept =
    names_for_appended_lines_are_appended of name kept (line ∷ []) ∙ ap (λ names. names_from_include_leads_of_lines of name kept ++ names) (append-nil (of (include_lead_of_line name line)))

-- the names for lines and one more that leads nowhere
pub line_without_lead_adds_no_names : (of : Option Lead → List (List ℕ)) (name line : List ℕ) (kept : List (List ℕ)) → of None ≡ [] → include_lead_of_line name line ≡ None
    → names_from_include_leads_of_lines of name kept ≡ names_from_include_leads_of_lines of name kept ++ of (include_lead_of_line name line)
line_without_lead_adds_no_names of name line kept nothing none =
    sym (append-nil (names_from_include_leads_of_lines of name kept)) ∙ ap (λ names. names_from_include_leads_of_lines of name kept ++ names) (sym (ap of none ∙ nothing))

-- ---- a text that leads nowhere

abbrev pub HasNoLineWithIncludeLead : List ℕ → List ℕ → Type 0
HasNoLineWithIncludeLead name text = (before line after : List ℕ) → text ≡ before ++ (line ++ after) → include_lead_of_line name line ≡ None

lines_without_leads_have_no_names : (of : Option Lead → List (List ℕ)) (name text front : List ℕ) (lines : List (List ℕ)) → of None ≡ [] → HasNoLineWithIncludeLead name text
    → text ≡ front ++ join lines → [] ≡ names_from_include_leads_of_lines of name lines
lines_without_leads_have_no_names of name text front [] nothing none is = refl
lines_without_leads_have_no_names of name text front (line ∷ lines) nothing none is =
    lines_without_leads_have_no_names of name text (front ++ line) lines nothing none (is ∙ sym (append_assoc front line (join lines)))
    ∙ sym (ap (λ names. names ++ names_from_include_leads_of_lines of name lines) (ap of (none front line (join lines) is) ∙ nothing))

-- If the text can be cut, its lines lead to no file.
pub text_without_leads_has_no_names : (of : Option Lead → List (List ℕ)) (name text : List ℕ) (outcome : Result (List (List ℕ)) TextFault) → of None ≡ [] → HasNoLineWithIncludeLead name text
    → IsOutcomeOfCut text outcome → [] ≡ names_from_include_leads_of_lines of name (lines_of_cut_or_none outcome)
text_without_leads_has_no_names of name text (Ok lines) nothing none is = lines_without_leads_have_no_names of name text [] lines nothing none (sym is.cuts.joined)
text_without_leads_has_no_names of name text (Err fault) nothing none is = refl
