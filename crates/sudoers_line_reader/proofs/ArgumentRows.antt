-- A command with its arguments, as a row.
use Rattle.std.proofs.Common.{◌≡◌, ℕ, Some, sym, ap, ◌∙◌}
use Rattle.sudoers_grammar.specs.declared.node.Args.{Args}
use Rattle.sudoers_grammar.specs.Node.{Member}
use Rattle.sudoers_grammar.specs.declared.command_arguments.ArglessCommand.{ArglessCommand}
use Rattle.sudoers_grammar.specs.Arguments.{argless_command_of_atom, atom_of_command_and_args}
use Rattle.sudoers_line_rows.specs.declared.rows.ArgsRow.{ArgsRow}
use Rattle.sudoers_line_rows.specs.declared.rows.AtomRow.{AtomRow}
use Rattle.sudoers_line_rows.specs.declared.rows.MemberRow.{MemberRow}
use Rattle.sudoers_line_rows.specs.declared.rows.Tables.{Tables}
use Rattle.sudoers_line_reader.specs.Descent.{member_with_arguments}
use Rattle.sudoers_line_rows.specs.Tables.{TablesHaveGrown, RowMeansForGood, RowMeaningLasts, args_in_tables, atom_in_tables, digests_of_range_in_tables, member_in_tables}
use Rattle.sudoers_line_rows.proofs.Growth.{tables_have_grown_from_themselves, table_growth_is_transitive}

-- the row with another atom, that ends elsewhere
abbrev pub member_row_with_arguments : MemberRow → ℕ → AtomRow → MemberRow
member_row_with_arguments m stop atom = record { start = m.start; stop = stop; negated = m.negated; digests = m.digests; atom = atom }

-- The atom's row is the command with these arguments.
abbrev pub IsAtomRowWithArguments : AtomRow → ArgsRow → AtomRow → Type 0
IsAtomRowWithArguments before args now = (t : Tables) (p : ArglessCommand) → argless_command_of_atom (atom_in_tables t before) ≡ Some p → atom_in_tables t now ≡ atom_of_command_and_args p (args_in_tables t args)

module _ (t u : Tables) (m : MemberRow) (args : ArgsRow) (is : Args) (now : AtomRow) (p : ArglessCommand) (g : TablesHaveGrown t u) (lasts : RowMeaningLasts member_in_tables t m) (keeps : RowMeansForGood args_in_tables u args is) (made : IsAtomRowWithArguments m.atom args now) (some : argless_command_of_atom (atom_in_tables t m.atom) ≡ Some p) where
  atom_then : (v : Tables) → TablesHaveGrown u v → atom_in_tables v now ≡ atom_of_command_and_args p is
  atom_then v h =
      made v p (ap (λ (x : Member). argless_command_of_atom x.atom) (lasts v (table_growth_is_transitive t u v g h)) ∙ some) ∙ ap (atom_of_command_and_args p) (keeps v h)

  digests_then : (v : Tables) → TablesHaveGrown u v → digests_of_range_in_tables v m.digests ≡ digests_of_range_in_tables t m.digests
  digests_then v h = ap (λ (x : Member). x.digests) (lasts v (table_growth_is_transitive t u v g h))

  pub argued_says : (stop at : ℕ) → at ≡ stop → member_with_arguments p (member_in_tables t m) (is, stop) ≡ member_in_tables u (member_row_with_arguments m at now)
  argued_says stop at e = λ i. record {
    start = m.start;
    stop = sym e i;
    negated = m.negated;
    digests = sym (digests_then u (tables_have_grown_from_themselves u)) i;
    atom = sym (atom_then u (tables_have_grown_from_themselves u)) i;
  }

  pub argued_lasts : (at : ℕ) → RowMeaningLasts member_in_tables u (member_row_with_arguments m at now)
  argued_lasts at v h = λ i. record {
    start = m.start;
    stop = at;
    negated = m.negated;
    digests = (digests_then v h ∙ sym (digests_then u (tables_have_grown_from_themselves u))) i;
    atom = (atom_then v h ∙ sym (atom_then u (tables_have_grown_from_themselves u))) i;
  }
