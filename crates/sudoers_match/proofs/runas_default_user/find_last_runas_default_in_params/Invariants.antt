use Rattle.sudoers_match.proofs.Common.{Bor, List, drop, last_item_of, map, option_map, option_or, parameter_in_tables, runas_defaults_in_params, ℕ, ◌≡◌}
use Rattle.sudoers_match.proofs.runas_default_user.find_last_runas_default_in_params.Given as goal

abbrev pub invariant-loop-row : goal.invariant-loop-row
invariant-loop-row l =
    option_or (last_item_of (runas_defaults_in_params (map (parameter_in_tables l.params.tables.now) (drop l.row-index l.params.rows.now)))) (option_map (λ (name : Bor (List ℕ)). name.now) l.latest)
    ≡ last_item_of (runas_defaults_in_params (map (parameter_in_tables l.params.tables.now) l.params.rows.now))
