use Rattle.sudoers_cvt_rewrite.proofs.Extending.{table_extension_is_transitive}
use Rattle.sudoers_cvt_rewrite.proofs.list_writing.write_runas_with_aliases_expanded_if_wanted.Goals as goal

pub returns-clause-stays : goal.returns-clause-stays
returns-clause-stays c u e i = record {
  users = c.in_ok-users.ensures.stays u (table_extension_is_transitive _ _ _ c.in_ok-groups.ensures.extended e) i;
  groups = c.in_ok-groups.ensures.stays u e i;
}
