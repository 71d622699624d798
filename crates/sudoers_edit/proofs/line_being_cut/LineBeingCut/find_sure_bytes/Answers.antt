use Rattle.sudoers_edit.proofs.Common.{alias_definitions_of_view, ap, arith, node_of_view, sym, ◌∙◌}
use Rattle.sudoers_edit.proofs.line_being_cut.LineBeingCut.find_sure_bytes.Goals as goal

pub returns : goal.returns
returns c = record {
  later = omega (arith, c.if-at-eq0.false);
  before = omega (arith, c.if-at-self.false);
  many = omega (arith, c.if-self-lt2.false);
  kind = c.in-Alias.kind;
  defs = alias_definitions_of_view c.in-Alias.defs;
  reads = sym c.node.ensures ∙ ap node_of_view c.in-Alias.is;
  words = sym c.is_kind_of_words.ensures ∙ c.if-not-is_kind_of_words.false;
  begins = sym c.in_ok-from.ensures;
  stops = sym c.in_ok-to.ensures;
  cut = c.is_plain_cut_of.ensures c.if-not-is_plain_cut_of.false;
}
