use Rattle.sudoers_cvt_rewrite.proofs.Common.{ap₂}
use Rattle.sudoers_grammar.specs.Node as node
use Rattle.sudoers_cvt_rewrite.proofs.Extending.{table_extension_is_transitive}
use Rattle.sudoers_cvt_rewrite.proofs.user_spec_writing.write_spec_with_aliases_expanded_if_wanted.Goals as goal

pub returns-clause-stays : goal.returns-clause-stays
returns-clause-stays c u e =
    ap₂ node.Spec (c.in_ok-users.ensures.stays u (table_extension_is_transitive _ _ _ c.in_ok-groups.ensures.extended e)) (c.in_ok-groups.ensures.stays u e)
