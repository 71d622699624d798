use Rattle.sudoers_match.proofs.Common.{List, OptionName, final_values_of_options, map, option_in_tables, option_values_of_view, take, ℕ, ◌++◌, ◌≡◌}
use Rattle.sudoers_match.proofs.options.CommandOptions.set_all.Given as goal

abbrev pub invariant-loop-row : goal.invariant-loop-row
invariant-loop-row l =
    (before : List (OptionName × List ℕ)) → option_values_of_view l.fn.self ≡ final_values_of_options before → option_values_of_view l.self ≡ final_values_of_options (before ++ take l.row-index (map (option_in_tables l.options.tables.now) l.options.rows.now))
