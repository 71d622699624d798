use Rattle.std.proofs.Common.{◌≡◌, ◌++◌, drop, map, flat_map, codes}
use Rattle.sudoers_grammar.specs.Node.{Param}
use Rattle.sudoers_line_rows.specs.Tables.{parameter_in_tables}
use Rattle.sudoers_cvt_spell.specs.Parameters.{printed_param}
use Rattle.sudoers_cvt_spell.specs.internal.Fronts.{IsFront}
use Rattle.sudoers_cvt_spell.proofs.parameters.append_params.Given as goal

abbrev pub invariant-loop-row : goal.invariant-loop-row
invariant-loop-row l =
    (l.out.items ++ flat_map (λ (p : Param). codes ", " ++ printed_param p) (map (parameter_in_tables l.params.tables.now) (drop l.row-index l.rest))
    ≡ l.initial.out.items ++ flat_map (λ (p : Param). codes ", " ++ printed_param p) (map (parameter_in_tables l.params.tables.now) l.rest))
    × IsFront l.initial.out.items l.out.items
