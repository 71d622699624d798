use Rattle.std.proofs.Common.{◌≡◌, ◌++◌, false, ℕ, List, Option, sym, ap, ◌∙◌}
use Rattle.std.proofs.lemmas.Result.{on_ok_weaker}
use Rattle.std.specs.Option.{option_map}
use Rattle.sudoers_line_rows.specs.declared.rows.MemberRow.{MemberRow}
use Rattle.sudoers_cvt_spell.specs.Members.{printed_member_list}
use Rattle.sudoers_cvt_spell.specs.Parameters.{defaults_scope_mark}
use Rattle.sudoers_compare.specs.declared.flat_defaults.FlatScope.{FlatScope}
use Rattle.sudoers_compare.specs.FlatDefaults.{flat_scope_in_tables}
use Rattle.sudoers_compare.specs.FlatSpecs.{signed_atoms_in_tables}
use Rattle.sudoers_review.specs.ChangedText.{printed_scope}
use Rattle.sudoers_review.specs.RowText.{members_of_signed_atoms}
use Rattle.sudoers_review.proofs.SettingLines.{scope_text_is_appended}
use Rattle.sudoers_review.proofs.changed_settings.append_flat_scope.Goals as goal

pub returns : goal.returns
returns c =
    let o = c.args.out.now.items in
    let t = c.args.tables.now in
    let scope = c.in-Some.scope in
    let begun : c.extend_from_slice.new.self.items ≡ o ++ defaults_scope_mark scope.kind = c.in_ok-extend_from_slice.ensures.items ∙ ap (λ (m : List ℕ). o ++ m) c.mark_of_defaults_scope.ensures in
    on_ok_weaker c.append_printed_member_list.result (λ e.
    scope_text_is_appended scope.kind t c.as_slice.result.now o c.extend_from_slice.new.self.items c.append_printed_member_list.new.out.items begun e
    ∙ ap (λ (rows : List MemberRow). o ++ (defaults_scope_mark scope.kind ++ printed_member_list false scope.kind (members_of_signed_atoms (signed_atoms_in_tables t rows)))) c.as_slice.ensures.value
    ∙ ap (λ (said : Option FlatScope). o ++ printed_scope (option_map (flat_scope_in_tables t) said)) (sym c.in-Some.is)) c.append_printed_member_list.ensures.appended
