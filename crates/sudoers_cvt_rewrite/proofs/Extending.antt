-- Tables to which lists are added: what rows say stays.
use Rattle.sudoers_cvt_rewrite.proofs.Common.{AreTablesAlikeButLists, IsTableExtension, List, MemberRow, None, Option, RowRange, Some, Tables, [], ap, ap₂, args_in_tables, atom_in_tables, digest_in_tables}
use Rattle.sudoers_cvt_rewrite.proofs.Common.{digests_of_range_in_tables, map, member_in_tables, option_in_tables, option_map, options_of_range_in_tables, parameter_in_tables, parameters_of_range_in_tables, refl, setting_in_tables}
use Rattle.sudoers_cvt_rewrite.proofs.Common.{slice_range, tag_in_tables, tags_of_range_in_tables, text_in_tables, values_of_row_range, ◌∙◌, ◌∷◌, ◌≡◌}
use Rattle.sudoers_grammar.specs.declared.node.Args.TheVariants as args
use Rattle.sudoers_grammar.specs.declared.node.Atom.TheVariants as atom
use Rattle.sudoers_line_rows.specs.declared.rows.ByteRange.{ByteRange}
use Rattle.sudoers_line_rows.specs.declared.rows.ArgsRow.{ArgsRow}
use Rattle.sudoers_line_rows.specs.declared.rows.ArgsRow.TheVariants as args_row
use Rattle.sudoers_line_rows.specs.declared.rows.AtomRow.{AtomRow}
use Rattle.sudoers_line_rows.specs.declared.rows.AtomRow.TheVariants as atom_row
use Rattle.sudoers_line_rows.specs.declared.rows.DigestRow.{DigestRow}
use Rattle.sudoers_line_rows.specs.declared.rows.OptionRow.{OptionRow}
use Rattle.sudoers_line_rows.specs.declared.rows.SettingRow.{SettingRow}
use Rattle.sudoers_line_rows.specs.declared.rows.ParamRow.{ParamRow}
use Rattle.sudoers_line_rows.proofs.Growth.{list_extension_is_transitive, list_extends_itself}

-- ---- tables with the same texts

pub tables_are_alike_themselves : (t : Tables) → AreTablesAlikeButLists t t
tables_are_alike_themselves t = record { bytes = refl; digests = refl; options = refl; tags = refl; params = refl }

pub table_likeness_is_transitive : (t u v : Tables) → AreTablesAlikeButLists t u → AreTablesAlikeButLists u v → AreTablesAlikeButLists t v
table_likeness_is_transitive t u v g h = record {
  bytes = h.bytes ∙ g.bytes;
  digests = h.digests ∙ g.digests;
  options = h.options ∙ g.options;
  tags = h.tags ∙ g.tags;
  params = h.params ∙ g.params;
}

pub table_is_extension_of_itself : (t : Tables) → IsTableExtension t t
table_is_extension_of_itself t = record {
  like = tables_are_alike_themselves t;
  members = list_extends_itself t.members.items;
  commands = list_extends_itself t.commands.items;
  groups = list_extends_itself t.groups.items;
  defs = list_extends_itself t.defs.items;
}

pub table_extension_is_transitive : (t u v : Tables) → IsTableExtension t u → IsTableExtension u v → IsTableExtension t v
table_extension_is_transitive t u v g h = record {
  like = table_likeness_is_transitive t u v g.like h.like;
  members = list_extension_is_transitive _ _ _ g.members h.members;
  commands = list_extension_is_transitive _ _ _ g.commands h.commands;
  groups = list_extension_is_transitive _ _ _ g.groups h.groups;
  defs = list_extension_is_transitive _ _ _ g.defs h.defs;
}

-- ---- what one row says

pub equal_functions_map_lists_alike : {X Y : Type 0} (f g : X → Y) → ((x : X) → f x ≡ g x) → (xs : List X) → map f xs ≡ map g xs
equal_functions_map_lists_alike f g same [] = refl
equal_functions_map_lists_alike f g same (x ∷ xs) = ap₂ (λ y ys. y ∷ ys) (same x) (equal_functions_map_lists_alike f g same xs)

pub equal_functions_map_options_alike : {X Y : Type 0} (f g : X → Y) → ((x : X) → f x ≡ g x) → (o : Option X) → option_map f o ≡ option_map g o
equal_functions_map_options_alike f g same None = refl
equal_functions_map_options_alike f g same (Some x) = ap Some (same x)

-- a list of rows from the same table
equal_rows_have_equal_range_values : {R X : Type 0} (rows others : List R) (f g : R → X) → others ≡ rows → ((r : R) → g r ≡ f r) → (r : RowRange) → values_of_row_range others g r ≡ values_of_row_range rows f r
equal_rows_have_equal_range_values rows others f g e same r = ap (λ xs. map g (slice_range xs r.from r.to)) e ∙ equal_functions_map_lists_alike g f same (slice_range rows r.from r.to)

module _ (t u : Tables) (like : AreTablesAlikeButLists t u) where
  pub text_like : (x : ByteRange) → text_in_tables u x ≡ text_in_tables t x
  text_like x = ap (λ bs. slice_range bs x.from x.to) like.bytes

  args_like : (r : ArgsRow) → args_in_tables u r ≡ args_in_tables t r
  args_like args_row.Any = refl
  args_like args_row.Nothing = refl
  args_like (args_row.Pattern x) = ap args.Pattern (text_like x)

  atom_like : (a : AtomRow) → atom_in_tables u a ≡ atom_in_tables t a
  atom_like atom_row.All = refl
  atom_like (atom_row.Alias x) = ap atom.Alias (text_like x)
  atom_like (atom_row.Name x) = ap atom.Name (text_like x)
  atom_like (atom_row.Id n) = refl
  atom_like (atom_row.Group x) = ap atom.Group (text_like x)
  atom_like (atom_row.GroupId n) = refl
  atom_like (atom_row.NonUnix x) = ap atom.NonUnix (text_like x)
  atom_like (atom_row.Netgroup x) = ap atom.Netgroup (text_like x)
  atom_like (atom_row.Host x) = ap atom.Host (text_like x)
  atom_like (atom_row.Address a) = refl
  atom_like (atom_row.Network a m) = refl
  atom_like atom_row.Listing = refl
  atom_like (atom_row.Path x r) = ap₂ atom.Path (text_like x) (args_like r)
  atom_like (atom_row.Sudoedit r) = ap atom.Sudoedit (args_like r)

  digest_like : (d : DigestRow) → digest_in_tables u d ≡ digest_in_tables t d
  digest_like d i = record { kind = d.kind; text = text_like d.text i }

  digests_like : (r : RowRange) → digests_of_range_in_tables u r ≡ digests_of_range_in_tables t r
  digests_like r = equal_rows_have_equal_range_values t.digests.items u.digests.items (digest_in_tables t) (digest_in_tables u) like.digests digest_like r

  pub member_like : (m : MemberRow) → member_in_tables u m ≡ member_in_tables t m
  member_like m i = record { start = m.start; stop = m.stop; negated = m.negated; digests = digests_like m.digests i; atom = atom_like m.atom i }

  pub members_like : (ms : List MemberRow) → map (member_in_tables u) ms ≡ map (member_in_tables t) ms
  members_like ms = equal_functions_map_lists_alike (member_in_tables u) (member_in_tables t) member_like ms

  option_like : (o : OptionRow) → option_in_tables u o ≡ option_in_tables t o
  option_like o i = (o.name, text_like o.value i)

  pub options_like : (r : RowRange) → options_of_range_in_tables u r ≡ options_of_range_in_tables t r
  options_like r = equal_rows_have_equal_range_values t.options.items u.options.items (option_in_tables t) (option_in_tables u) like.options option_like r

  pub tags_like : (r : RowRange) → tags_of_range_in_tables u r ≡ tags_of_range_in_tables t r
  tags_like r = equal_rows_have_equal_range_values t.tags.items u.tags.items (tag_in_tables t) (tag_in_tables u) like.tags (λ g. refl) r

  setting_like : (s : SettingRow) → setting_in_tables u s ≡ setting_in_tables t s
  setting_like s i = record { operator = s.operator; value = text_like s.value i }

  param_like : (p : ParamRow) → parameter_in_tables u p ≡ parameter_in_tables t p
  param_like p i = record { negated = p.negated; name = text_like p.name i; setting = equal_functions_map_options_alike (setting_in_tables u) (setting_in_tables t) setting_like p.setting i }

  pub params_like : (r : RowRange) → parameters_of_range_in_tables u r ≡ parameters_of_range_in_tables t r
  params_like r = equal_rows_have_equal_range_values t.params.items u.params.items (parameter_in_tables t) (parameter_in_tables u) like.params param_like r
