-- How many rows tables have, and tables that are cut back.
use Rattle.std.specs.Prelude.{◌≡◌, take, length}
use Rattle.sudoers_line_rows.specs.declared.rows.Tables.{Tables}
use Rattle.sudoers_line_rows.specs.declared.row_counts.TableRowCounts.{TableRowCounts}

abbrev pub row_counts_of_tables : Tables → TableRowCounts
row_counts_of_tables t = record {
  bytes = length t.bytes.items;
  digests = length t.digests.items;
  members = length t.members.items;
  options = length t.options.items;
  tags = length t.tags.items;
  commands = length t.commands.items;
  groups = length t.groups.items;
  defs = length t.defs.items;
  params = length t.params.items;
}

-- The second has so many rows of the first, the earliest.
pub record IsTruncatedToCounts (c : TableRowCounts) (t u : Tables) : Type 0 where
  pub bytes : u.bytes.items ≡ take c.bytes t.bytes.items
  pub digests : u.digests.items ≡ take c.digests t.digests.items
  pub members : u.members.items ≡ take c.members t.members.items
  pub options : u.options.items ≡ take c.options t.options.items
  pub tags : u.tags.items ≡ take c.tags t.tags.items
  pub commands : u.commands.items ≡ take c.commands t.commands.items
  pub groups : u.groups.items ≡ take c.groups t.groups.items
  pub defs : u.defs.items ≡ take c.defs t.defs.items
  pub params : u.params.items ≡ take c.params t.params.items
