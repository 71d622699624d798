use Rattle.std.proofs.Common.{◌≡◌, ℕ, List, ◌++◌, codes, Option, Some, option_and_then, slice_get, sym, ap, ◌∙◌, false}
use Rattle.sudoers_grammar.specs.declared.node.Kind.TheVariants.{Cmnd}
use Rattle.sudoers_line_rows.specs.View.{member_of_view}
use Rattle.sudoers_tree.specs.declared.place.Place.{Place}
use Rattle.sudoers_tree.specs.Definition.{definition_place_of_name}
use Rattle.sudoers_tree.specs.Line.{Line}
use Rattle.sudoers_cvt_spell.specs.Members.{printed_member}
use Rattle.sudoers_list.specs.internal.Inside.{alias_member_of_view, numbered_line_of_view}
use Rattle.sudoers_list.specs.Reason.{alias_definition_line, alias_member_text_on_line, file_row_column_text}
use Rattle.sudoers_list.specs.Rule.{lines_with_numbers}
use Rattle.sudoers_list.proofs.Passing.{alias_member_text_parts_reassociate, consequence_on_ok_is_weakened, value_on_ok_is_first_choice}
use Rattle.sudoers_list.proofs.answer_reason.append_alias_member_reason.Goals as goal

pub returns : goal.returns
returns c =
    let o = c.args.out.now.items in
    let policy = c.args.policy.now in
    let lines = policy.walk.lines in
    let inner = c.args.inner.now in
    let name = inner.name.now in
    let at = c.in-Some-find_walk_line_by_number.at in
    let p = file_row_column_text policy at.number at.line.text.now inner.member.start in
    let m = printed_member false Cmnd (member_of_view inner.member) in
    let on : alias_definition_line lines name ≡ Some (numbered_line_of_view at) =
    ap (option_and_then (λ (q : Place). slice_get (lines_with_numbers 0 lines) q.line)) (ap (definition_place_of_name Cmnd name) (sym c.walk.ensures) ∙ sym c.in-Some.ensures) ∙ sym c.in-Some-find_walk_line_by_number.ensures.line in
    consequence_on_ok_is_weakened c.extend_from_slice-4.result _ _ (λ e.
    e
    ∙ ap (λ (t : List ℕ). t ++ codes "\n") (c.in_ok-append_member.ensures.appended
    ∙ ap (λ (t : List ℕ). t ++ m) (c.in_ok-extend_from_slice-3.ensures.items
    ∙ ap (λ (t : List ℕ). t ++ codes ": ") (c.in_ok-extend_from_slice-2.ensures.items
    ∙ ap (λ (t : List ℕ). t ++ name) (c.in_ok-extend_from_slice.ensures.items
    ∙ ap (λ (t : List ℕ). t ++ codes ": in Cmnd_Alias ") c.in_ok-append_byte_place.ensures))))
    ∙ alias_member_text_parts_reassociate o p (codes ": in Cmnd_Alias ") name (codes ": ") m (codes "\n")
    ∙ ap (λ (l : Option (ℕ × Line)). o ++ alias_member_text_on_line policy (alias_member_of_view inner) l) (sym on))
    (value_on_ok_is_first_choice c.extend_from_slice-4.result _ _ _ c.extend_from_slice-4.ensures.items)
