-- How Defaults lines are printed (sudoers(5), Defaults).
use Rattle.std.specs.Prelude.{ℕ, ◌==◌, ◌&&◌, ◌||◌, not, nat_lt, length, Bool, false, List, [], ◌++◌, codes, Option, Some, None, if◌then◌else◌}
use Rattle.std.specs.List.{join_by, list_all}
use Rattle.sudoers_text.specs.Part.{is_alphanumeric}
use Rattle.sudoers_grammar.specs.declared.node.Kind.{Kind}
use Rattle.sudoers_grammar.specs.declared.node.Kind.TheVariants as kind
use Rattle.sudoers_grammar.specs.declared.node.Operator.{Operator}
use Rattle.sudoers_grammar.specs.declared.node.Operator.TheVariants as operator
use Rattle.sudoers_grammar.specs.Node.{Setting, Param, Scope}
use Rattle.sudoers_cvt_spell.specs.Spelling.{is_control, spelled_word}
use Rattle.sudoers_cvt_spell.specs.Members.{negation_sign, printed_member_list}

abbrev pub defaults_operator_mark : Operator → List ℕ
defaults_operator_mark operator.Set = codes "="
defaults_operator_mark operator.Add = codes "+="
defaults_operator_mark operator.Remove = codes "-="

-- an ASCII letter, a digit or one of `_ - . / : +`
abbrev pub is_byte_without_quotes : ℕ → Bool
is_byte_without_quotes b = is_alphanumeric b || b == 95 || b == 45 || b == 46 || b == 47 || b == 58 || b == 43

abbrev pub is_value_without_quotes : List ℕ → Bool
is_value_without_quotes value = nat_lt 0 (length value) && list_all is_byte_without_quotes value

-- The value stands for itself in double quotes.
abbrev pub is_quotable_value : List ℕ → Bool
is_quotable_value value = list_all (λ b. not (b == 92 || b == 34 || is_control b)) value

abbrev pub printed_param_value : List ℕ → List ℕ
printed_param_value value =
    if is_value_without_quotes value then value
    else (if is_quotable_value value then codes "\"" ++ value ++ codes "\"" else spelled_word value)

abbrev pub printed_param_setting : Option Setting → List ℕ
printed_param_setting None = []
printed_param_setting (Some s) = defaults_operator_mark s.operator ++ printed_param_value s.value

abbrev pub printed_param : Param → List ℕ
printed_param p = negation_sign p.negated ++ p.name ++ printed_param_setting p.setting

abbrev pub printed_params : List Param → List ℕ
printed_params params = join_by printed_param (codes ", ") params

-- the sign of a scope: hosts, users, commands, runas users
abbrev pub defaults_scope_mark : Kind → List ℕ
defaults_scope_mark kind.Host = codes "@"
defaults_scope_mark kind.User = codes ":"
defaults_scope_mark kind.Cmnd = codes "!"
defaults_scope_mark kind.Runas = codes ">"

abbrev pub printed_scope : Option Scope → List ℕ
printed_scope None = []
printed_scope (Some s) = defaults_scope_mark s.kind ++ printed_member_list false s.kind s.members

-- a Defaults line, without its line end
abbrev pub printed_defaults : Option Scope → List Param → List ℕ
printed_defaults scope params = codes "Defaults" ++ printed_scope scope ++ codes " " ++ printed_params params
