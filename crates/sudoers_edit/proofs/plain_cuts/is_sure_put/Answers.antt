use Rattle.sudoers_edit.proofs.Common.{alias_definitions_of_view, ap, arith, line_of_view, node_of_view, owned_bytes_start, sym, ◌∙◌}
use Rattle.sudoers_edit.specs.Splice.{is_option_equal_to}
use Rattle.sudoers_edit.proofs.LawsBelow.{prune_edit_laws_hold}
use Rattle.sudoers_edit.proofs.SurePuts.{compared_put_is_member_put}
use Rattle.sudoers_edit.proofs.plain_cuts.is_sure_put.Goals as goal

pub returns-in_ok-can_be_member-in-Some : goal.returns-in_ok-can_be_member-in-Some
returns-in_ok-can_be_member-in-Some c = λ can known.
    compared_put_is_member_put prune_edit_laws_hold c.args.def c.args.at c.args.from c.args.splice.now c.in-Some.word.now (line_of_view c.args.line.now) c.in-Alias.kind (alias_definitions_of_view c.in-Alias.defs)
    (omega (arith, c.if-at-eq0.false)) (ap node_of_view c.in-Alias.is) (sym c.is_kind_of_words.ensures ∙ c.if-not-is_kind_of_words.false)
    (ap (λ es. is_option_equal_to c.args.from (owned_bytes_start c.args.at es)) (sym c.members_of_nth_definition-members.ensures) ∙ sym c.starts_at.ensures ∙ c.if-not-starts_at.false)
    (c.is_plain_cut.ensures c.if-not-is_plain_cut.false) c.in-Some.ensures (c.in_ok-can_be_member-in-Some.ensures can) known
