-- Which rules of lint a row or a parameter breaks.
use Rattle.std.specs.Prelude.{ℕ, ◌&&◌, ◌||◌, not, nat_eq, Bool, true, false, List, [], ◌++◌, codes, Option, Some, None, if◌then◌else◌}
use Rattle.std.specs.List.{list_all, list_any}
use Rattle.std.specs.Str.{bytes_eq}
use Rattle.sudoers_grammar.specs.declared.node.Args.{Args}
use Rattle.sudoers_grammar.specs.declared.node.Args.TheVariants as args
use Rattle.sudoers_grammar.specs.declared.node.Atom.{Atom}
use Rattle.sudoers_grammar.specs.declared.node.Atom.TheVariants as atom
use Rattle.sudoers_grammar.specs.declared.node.Operator.{Operator}
use Rattle.sudoers_grammar.specs.declared.node.Operator.TheVariants as operator
use Rattle.sudoers_grammar.specs.Node.{Param, Setting}
use Rattle.sudoers_tree.specs.Targets.{base_name_of_file_name}
use Rattle.sudoers_match_list.specs.Flat.{SignedAtom, has_no_digests, is_all_atom}
use Rattle.laws_compare.specs.Content.{FlatPrivilegeRow, FlatRunasSpec}
use Rattle.laws_compare.specs.Decided.{has_no_negation, is_same_flat_list}
use Rattle.sudoers_compare.specs.FlatSpecs.{PlacedRow}
use Rattle.sudoers_lint.specs.declared.lint_rule.LintRule.{LintRule}
use Rattle.sudoers_lint.specs.declared.lint_rule.LintRule.TheVariants as rule
use Rattle.sudoers_lint.specs.Names.{is_risky_variable, is_way_out_program, words_of_value}
use Rattle.sudoers_lint.specs.Rules.{rule_if}

-- ---- lists

-- `ALL` stands in the list without `!`.
abbrev pub is_open_list : List SignedAtom → Bool
is_open_list fs = list_any (λ (s : SignedAtom). s.allow && is_all_atom s.atom) fs

-- So it does, and some member is left out.
abbrev pub is_open_list_but_some : List SignedAtom → Bool
is_open_list_but_some fs = is_open_list fs && not (has_no_negation fs)

-- `root` or `#0`
abbrev pub is_root_atom : Atom → Bool
is_root_atom (atom.Name name) = bytes_eq name (codes "root")
is_root_atom (atom.Id n) = nat_eq n 0
is_root_atom other = false

-- Each member without `!` is root.
abbrev pub is_list_of_root : List SignedAtom → Bool
is_list_of_root fs = list_all (λ (s : SignedAtom). not s.allow || is_root_atom s.atom) fs

abbrev pub is_optional_list_but_some : Option (List SignedAtom) → Bool
is_optional_list_but_some None = false
is_optional_list_but_some (Some fs) = is_open_list_but_some fs

-- The users of a Runas_Spec are `ALL` but some.
abbrev pub is_runas_spec_but_some : Option FlatRunasSpec → Bool
is_runas_spec_but_some None = false
is_runas_spec_but_some (Some spec) = is_optional_list_but_some spec.users

-- ---- what a command is

-- `ALL`, without digests
abbrev pub is_any_command : SignedAtom → Bool
is_any_command s = has_no_digests s.digests && is_all_atom s.atom

abbrev pub does_allow_any_command : SignedAtom → Bool
does_allow_any_command s = s.allow && is_any_command s

abbrev pub is_any_args : Args → Bool
is_any_args args.Any = true
is_any_args other = false

-- a program, with any arguments, that can start any other
abbrev pub is_way_out_atom : Atom → Bool
is_way_out_atom (atom.Path path arguments) = is_any_args arguments && is_way_out_program (base_name_of_file_name path)
is_way_out_atom other = false

-- The tag stands without `NO`; the tag stands with it.
abbrev pub is_tag_on : Option Bool → Bool
is_tag_on None = false
is_tag_on (Some on) = on

abbrev pub is_tag_off : Option Bool → Bool
is_tag_off None = false
is_tag_off (Some on) = not on

-- ---- rows

-- Where a row stands that allows any command: its line, and its hosts.
pub record AllowedAll : Type 0 where
  pub line : ℕ
  pub hosts : List SignedAtom

abbrev pub allowed_all_at : ℕ → List SignedAtom → AllowedAll
allowed_all_at line hosts = record { line = line; hosts = hosts }

-- the last row so far that allows any command, with one row more
abbrev pub allowed_all_after : Option AllowedAll → PlacedRow → Option AllowedAll
allowed_all_after before placed =
    if does_allow_any_command placed.row.grant.atom then Some (allowed_all_at placed.line placed.row.hosts) else before

-- It stands on this line, for these hosts.
abbrev pub is_behind_all : Option AllowedAll → ℕ → List SignedAtom → Bool
is_behind_all None line hosts = false
is_behind_all (Some all) line hosts = nat_eq all.line line && is_same_flat_list all.hosts hosts

abbrev pub is_rule_for_everyone : FlatPrivilegeRow → Bool
is_rule_for_everyone row = row.grant.atom.allow && is_open_list row.users

abbrev pub is_rule_for_all_but_some : FlatPrivilegeRow → Bool
is_rule_for_all_but_some row = row.grant.atom.allow && (is_open_list_but_some row.users || is_runas_spec_but_some row.grant.runas)

abbrev pub is_rule_for_any_command_without_password : FlatPrivilegeRow → Bool
is_rule_for_any_command_without_password row = does_allow_any_command row.grant.atom && is_tag_off row.grant.tags.passwd

abbrev pub is_denial_behind_all : Option AllowedAll → PlacedRow → Bool
is_denial_behind_all before placed =
    not placed.row.grant.atom.allow && not (is_all_atom placed.row.grant.atom.atom) && is_behind_all before placed.line placed.row.hosts

abbrev pub is_rule_with_environment : FlatPrivilegeRow → Bool
is_rule_with_environment row = row.grant.atom.allow && is_tag_on row.grant.tags.setenv

abbrev pub is_rule_with_way_out : FlatPrivilegeRow → Bool
is_rule_with_way_out row = row.grant.atom.allow && not (is_tag_off row.grant.tags.exec) && is_way_out_atom row.grant.atom.atom

-- The rules that a row breaks behind this last row that allows any command. A row of root's alone breaks none.
abbrev pub broken_rules_of_row : Option AllowedAll → PlacedRow → List LintRule
broken_rules_of_row before placed =
    if is_list_of_root placed.row.users then []
    else rule_if (is_rule_for_everyone placed.row) rule.Everyone
    ++ rule_if (is_rule_for_all_but_some placed.row) rule.AllBut
    ++ rule_if (is_rule_for_any_command_without_password placed.row) rule.NopasswdAny
    ++ rule_if (is_denial_behind_all before placed) rule.DenyList
    ++ rule_if (is_rule_with_environment placed.row) rule.Environment
    ++ rule_if (is_rule_with_way_out placed.row) rule.WayOut

-- ---- parameters of Defaults

abbrev pub is_remove : Operator → Bool
is_remove operator.Remove = true
is_remove other = false

-- `=` or `+=`, and a word that keeps a variable of the table
abbrev pub does_set_risky_variable : Option Setting → Bool
does_set_risky_variable None = false
does_set_risky_variable (Some s) = not (is_remove s.operator) && list_any is_risky_variable (words_of_value s.value)

-- `setenv`, `!env_reset`, or `env_keep` of a variable of the table
abbrev pub is_param_with_environment : Param → Bool
is_param_with_environment p =
    if bytes_eq p.name (codes "setenv") then not p.negated
    else (if bytes_eq p.name (codes "env_reset") then p.negated
    else bytes_eq p.name (codes "env_keep") && does_set_risky_variable p.setting)

abbrev pub broken_rules_of_param : Param → List LintRule
broken_rules_of_param p = rule_if (is_param_with_environment p) rule.Environment
