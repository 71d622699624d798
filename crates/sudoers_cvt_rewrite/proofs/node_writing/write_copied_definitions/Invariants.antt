use Rattle.sudoers_cvt_rewrite.proofs.Common.{AreTablesAlikeButLists, IsTableExtension, Tables, alias_definition_in_tables, drop, map, ◌++◌, ◌≡◌}
use Rattle.sudoers_cvt_rewrite.proofs.node_writing.write_copied_definitions.Given as goal

abbrev pub invariant-loop-row : goal.invariant-loop-row
invariant-loop-row l = record {
  extended : IsTableExtension l.fn.tables l.tables;
  like : AreTablesAlikeButLists l.base l.tables;
  appended : (u : Tables) → IsTableExtension l.tables u → map (alias_definition_in_tables u) l.out.items ++ map (alias_definition_in_tables l.base) (drop l.row-index l.rows) ≡ map (alias_definition_in_tables l.base) l.rows;
}
