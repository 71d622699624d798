use Rattle.sudoers_edit.proofs.Common.{alias_definitions_of_view, ap, arith, node_of_view, sym, ◌∙◌}
use Rattle.sudoers_edit.proofs.LawsBelow.{prune_edit_laws_hold}
use Rattle.sudoers_edit.proofs.SureCuts.{compared_cut_is_definition_cut}
use Rattle.sudoers_edit.proofs.plain_cuts.is_sure_definition_cut.Goals as goal

pub returns : goal.returns
returns c = λ plain known.
    compared_cut_is_definition_cut prune_edit_laws_hold c.args.one.at c.args.one.from c.args.one.to c.args.line.now (node_of_view c.args.says.now) c.in-Alias.kind (alias_definitions_of_view c.in-Alias.defs)
    (omega (arith, c.if-one-eq0.false)) (ap node_of_view c.in-Alias.is) (sym c.is_kind_of_words.ensures ∙ c.if-not-is_kind_of_words.false)
    (sym c.owns_its_bytes.ensures ∙ c.if-not-owns_its_bytes.false) (c.is_plain_cut.ensures plain) known
