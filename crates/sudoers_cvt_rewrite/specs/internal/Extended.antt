-- A device of the proof, which no public contract cites: tables to which lists are added, with the texts of others.
use Rattle.std.specs.Prelude.{◌≡◌}
use Rattle.sudoers_line_rows.specs.declared.rows.Tables.{Tables}
use Rattle.sudoers_line_rows.specs.Tables.{IsExtendedList}

-- They have the same texts, digests, options, tags and parameters. So one member says the same in both.
pub record AreTablesAlikeButLists (t u : Tables) : Type 0 where
  pub bytes : u.bytes.items ≡ t.bytes.items
  pub digests : u.digests.items ≡ t.digests.items
  pub options : u.options.items ≡ t.options.items
  pub tags : u.tags.items ≡ t.tags.items
  pub params : u.params.items ≡ t.params.items

-- The second has these too, and more lists behind those of the first.
pub record IsTableExtension (t u : Tables) : Type 0 where
  pub like : AreTablesAlikeButLists t u
  pub members : IsExtendedList t.members.items u.members.items
  pub commands : IsExtendedList t.commands.items u.commands.items
  pub groups : IsExtendedList t.groups.items u.groups.items
  pub defs : IsExtendedList t.defs.items u.defs.items

-- The row says this for good.
abbrev pub RowKeepsMeaning : {R X : Type 0} → (Tables → R → X) → Tables → R → X → Type 0
RowKeepsMeaning view t r x = (u : Tables) → IsTableExtension t u → view u r ≡ x
