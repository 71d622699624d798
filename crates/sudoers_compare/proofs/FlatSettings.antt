-- Settings of runas_default, flat so far.
use Rattle.std.proofs.Common.{◌≡◌, ℕ, ◌+◌, ◌<◌, List, [], ◌∷◌, ◌++◌, drop, length, map, Option, Some, None, refl, sym, ap, ◌∙◌}
use Rattle.std.proofs.lemmas.List.{append_assoc, drop_more}
use Rattle.std.specs.Prelude.{get_or}
use Rattle.std.specs.List.{cons_option}
use Rattle.sudoers_grammar.specs.Node.{Param, Scope}
use Rattle.sudoers_tree.specs.Line.{Line}
use Rattle.sudoers_match.specs.Default.{runas_default_in_param, runas_defaults_in_params, setting_with_scope}
use Rattle.laws_compare.specs.Computed.{flat_runas_default_of}
use Rattle.laws_compare.specs.Content.{FlatRunasDefault}
use Rattle.sudoers_compare.specs.FlatDefaults.{flat_runas_defaults_in_params}

-- the settings of which the first is this one, if it is one
settings_of_first : (lines : List Line) (scope : Option Scope) (first : Option (List ℕ)) (names : List (List ℕ))
    → map (flat_runas_default_of lines) (map (setting_with_scope scope) (cons_option first names))
    ≡ map (flat_runas_default_of lines) (map (setting_with_scope scope) (cons_option first [])) ++ map (flat_runas_default_of lines) (map (setting_with_scope scope) names)
settings_of_first lines scope None names = refl
settings_of_first lines scope (Some name) names = refl

settings_of_first_param : (lines : List Line) (scope : Option Scope) (param : Param) (params : List Param)
    → flat_runas_defaults_in_params lines scope (param ∷ params) ≡ flat_runas_defaults_in_params lines scope (param ∷ []) ++ flat_runas_defaults_in_params lines scope params
settings_of_first_param lines scope param params = settings_of_first lines scope (runas_default_in_param param) (runas_defaults_in_params params)

-- the settings before, those of one parameter, and those of the parameters behind it
pub one_more_param_is_flat : {R : Type 0} (said : R → Param) (lines : List Line) (scope : Option Scope) (rows : List R) (i : ℕ) (d : R) (before : List FlatRunasDefault) → i < length rows
    → (before ++ flat_runas_defaults_in_params lines scope (said (get_or rows i d) ∷ [])) ++ flat_runas_defaults_in_params lines scope (map said (drop (i + 1) rows))
    ≡ before ++ flat_runas_defaults_in_params lines scope (map said (drop i rows))
one_more_param_is_flat said lines scope rows i d before within =
    append_assoc before (flat_runas_defaults_in_params lines scope (said (get_or rows i d) ∷ [])) (flat_runas_defaults_in_params lines scope (map said (drop (i + 1) rows)))
    ∙ ap (λ (behind : List FlatRunasDefault). before ++ behind)
    (sym (settings_of_first_param lines scope (said (get_or rows i d)) (map said (drop (i + 1) rows))) ∙ ap (λ (left : List _). flat_runas_defaults_in_params lines scope (map said left)) (sym (drop_more rows i d within)))
