-- Defaults lines, token by token, and as they are printed: a device of the laws.
use Rattle.laws_print.proofs.Common.{◌≡◌, ℕ, Bool, true, false, List, [], ◌∷◌, ◌++◌, Some, None, refl, sym, ap, subst, ◌∙◌, append-nil, Option, codes}
use Rattle.laws_print.proofs.Common.{if◌then◌else◌, AllByRecursion, append_assoc, LineUnit, Quoted, Kind, User, Runas, Cmnd, Atom, Digest, Member}
use Rattle.laws_print.proofs.Common.{Setting, Param, Scope, negation_sign, printed_atom, printed_digests, printed_member, printed_member_list, defaults_operator_mark}
use Rattle.laws_print.proofs.Common.{is_value_without_quotes, is_quotable_value, printed_line, IsWritableArgs, IsWritableCommandAtom, IsScopeCommandAtom, IsScopeCommandMember, IsWritableScopeMember}
use Rattle.laws_print.proofs.Common.{IsNonEmptyListOf, IsWritableScope, IsWritableParam, WrittenToken, text_of_units, gap_bytes_if_spaced, line_of_written_tokens, units_of_spelled_word}
use Rattle.sudoers_text.specs.declared.token.TokenKind.TheVariants as kind
use Rattle.sudoers_grammar.specs.declared.node.Kind.TheVariants.{Host}
use Rattle.sudoers_grammar.specs.declared.node.Atom.TheVariants as atom
use Rattle.sudoers_grammar.specs.declared.node.Operator.{Operator}
use Rattle.sudoers_grammar.specs.Node as node
use Rattle.sudoers_cvt_spell.specs.Spelling.{spelled_word}
use Rattle.sudoers_cvt_spell.specs.Parameters.{printed_param_value, printed_param_setting, printed_param, printed_params, defaults_scope_mark, printed_scope}
use Rattle.laws_print.proofs.Units.{units_of_plain_bytes}
use Rattle.laws_print.proofs.ListTokens.{token_of_mark, token_of_plain_word, tokens_of_member_list, tokens_of_items_each_behind_mark, tokens_of_items_between_marks}
use Rattle.laws_print.proofs.CommandTokens.{tokens_of_signed_command}
use Rattle.laws_print.proofs.Values.{text_of_word_units_is_spelled_word}
use Rattle.laws_print.proofs.Users.{text_of_plain_units_is_bytes}
use Rattle.laws_print.proofs.PrintedLists.{text_of_member_list_is_printed}
use Rattle.laws_print.proofs.PrintedCommands.{text_of_signed_command_is_printed}
use Rattle.laws_print.proofs.Many.{many_text}

-- ---- parameters

abbrev pub token_of_parameter_name : List ℕ → Bool → WrittenToken
token_of_parameter_name name spaced = record { kind = kind.Name; units = units_of_plain_bytes name; spaced = spaced }

abbrev pub token_of_operator : Operator → WrittenToken
token_of_operator o = record { kind = kind.Punct; units = units_of_plain_bytes (defaults_operator_mark o); spaced = false }

-- the units of a parameter's value
abbrev pub units_of_parameter_value : List ℕ → List LineUnit
units_of_parameter_value value =
    if is_value_without_quotes value then units_of_plain_bytes value
    else (if is_quotable_value value then Quoted (value ++ 34 ∷ []) ∷ [] else units_of_spelled_word value)

abbrev pub token_of_parameter_value : List ℕ → WrittenToken
token_of_parameter_value value = record { kind = kind.Value; units = units_of_parameter_value value; spaced = false }

abbrev pub tokens_of_setting : Option Setting → List WrittenToken → List WrittenToken
tokens_of_setting None tail = tail
tokens_of_setting (Some s) tail = token_of_operator s.operator ∷ token_of_parameter_value s.value ∷ tail

abbrev pub tokens_of_parameter_parts : Bool → Bool → List ℕ → Option Setting → List WrittenToken → List WrittenToken
tokens_of_parameter_parts spaced true name s tail = token_of_mark 33 spaced ∷ token_of_parameter_name name false ∷ tokens_of_setting s tail
tokens_of_parameter_parts spaced false name s tail = token_of_parameter_name name spaced ∷ tokens_of_setting s tail

abbrev pub tokens_of_parameter : Param → List WrittenToken → List WrittenToken
tokens_of_parameter p tail = tokens_of_parameter_parts true p.negated p.name p.setting tail

abbrev pub tokens_of_further_parameters : List Param → List WrittenToken
tokens_of_further_parameters ps = tokens_of_items_each_behind_mark (token_of_mark 44 false) tokens_of_parameter ps []

abbrev pub tokens_of_parameters : List Param → List WrittenToken
tokens_of_parameters ps = tokens_of_items_between_marks (token_of_mark 44 false) tokens_of_parameter tokens_of_parameter ps []

-- ---- scopes

abbrev pub mark_byte_of_scope_kind : Kind → ℕ
mark_byte_of_scope_kind Host = 64
mark_byte_of_scope_kind User = 58
mark_byte_of_scope_kind Cmnd = 33
mark_byte_of_scope_kind Runas = 62

abbrev pub tokens_of_scope_command : Bool → Member → List WrittenToken → List WrittenToken
tokens_of_scope_command spaced m tail = tokens_of_signed_command spaced m.negated m.atom tail

abbrev pub tokens_of_further_scope_commands : List Member → List WrittenToken → List WrittenToken
tokens_of_further_scope_commands ms tail = tokens_of_items_each_behind_mark (token_of_mark 44 false) (tokens_of_scope_command true) ms tail

abbrev pub tokens_of_scope_commands : List Member → List WrittenToken → List WrittenToken
tokens_of_scope_commands ms tail = tokens_of_items_between_marks (token_of_mark 44 false) (tokens_of_scope_command false) (tokens_of_scope_command true) ms tail

abbrev pub tokens_of_scope_list : Kind → List Member → List WrittenToken → List WrittenToken
tokens_of_scope_list User ms tail = tokens_of_member_list User false false ms tail
tokens_of_scope_list Runas ms tail = tokens_of_member_list Runas false false ms tail
tokens_of_scope_list Host ms tail = tokens_of_member_list Host false false ms tail
tokens_of_scope_list Cmnd ms tail = tokens_of_scope_commands ms tail

abbrev pub tokens_of_scope : Option Scope → List WrittenToken → List WrittenToken
tokens_of_scope None tail = tail
tokens_of_scope (Some s) tail = token_of_mark (mark_byte_of_scope_kind s.kind) false ∷ tokens_of_scope_list s.kind s.members tail

abbrev pub tokens_of_defaults_line : Option Scope → List Param → List WrittenToken
tokens_of_defaults_line scope params = token_of_plain_word (codes "Defaults") false ∷ tokens_of_scope scope (tokens_of_parameters params)

-- ---- as they are printed

text_of_parameter_units_is_printed_value : (value : List ℕ) → text_of_units (units_of_parameter_value value) ≡ printed_param_value value
text_of_parameter_units_is_printed_value value = by_plain (is_value_without_quotes value)
  where
    by_quotes : (t : Bool) → text_of_units (if t then Quoted (value ++ 34 ∷ []) ∷ [] else units_of_spelled_word value) ≡ (if t then codes "\"" ++ value ++ codes "\"" else spelled_word value)
    by_quotes true = append-nil (34 ∷ (value ++ 34 ∷ []))
    by_quotes false = text_of_word_units_is_spelled_word value

    by_plain : (t : Bool) → text_of_units (if t then units_of_plain_bytes value else (if is_quotable_value value then Quoted (value ++ 34 ∷ []) ∷ [] else units_of_spelled_word value)) ≡ (if t then value else (if is_quotable_value value then codes "\"" ++ value ++ codes "\"" else spelled_word value))
    by_plain true = text_of_plain_units_is_bytes value
    by_plain false = by_quotes (is_quotable_value value)

text_of_setting_tokens_is_printed : (s : Option Setting) (tail : List WrittenToken) → line_of_written_tokens (tokens_of_setting s tail) ≡ printed_param_setting s ++ line_of_written_tokens tail
text_of_setting_tokens_is_printed None tail = refl
text_of_setting_tokens_is_printed (Some s) tail =
    ap (λ (t : List ℕ). t ++ (text_of_units (units_of_parameter_value s.value) ++ line_of_written_tokens tail)) (text_of_plain_units_is_bytes (defaults_operator_mark s.operator))
    ∙ ap (λ (t : List ℕ). defaults_operator_mark s.operator ++ (t ++ line_of_written_tokens tail)) (text_of_parameter_units_is_printed_value s.value)
    ∙ sym (append_assoc (defaults_operator_mark s.operator) (printed_param_value s.value) (line_of_written_tokens tail))

text_of_parameter_tokens_is_printed : (spaced negated : Bool) (name : List ℕ) (s : Option Setting) (tail : List WrittenToken) → line_of_written_tokens (tokens_of_parameter_parts spaced negated name s tail) ≡ gap_bytes_if_spaced spaced ++ ((negation_sign negated ++ name ++ printed_param_setting s) ++ line_of_written_tokens tail)
text_of_parameter_tokens_is_printed spaced true name s tail =
    ap (λ (t : List ℕ). gap_bytes_if_spaced spaced ++ (33 ∷ (t ++ line_of_written_tokens (tokens_of_setting s tail)))) (text_of_plain_units_is_bytes name)
    ∙ ap (λ (t : List ℕ). gap_bytes_if_spaced spaced ++ (33 ∷ (name ++ t))) (text_of_setting_tokens_is_printed s tail)
    ∙ ap (λ (t : List ℕ). gap_bytes_if_spaced spaced ++ (33 ∷ t)) (sym (append_assoc name (printed_param_setting s) (line_of_written_tokens tail)))
text_of_parameter_tokens_is_printed spaced false name s tail =
    ap (λ (t : List ℕ). gap_bytes_if_spaced spaced ++ (t ++ line_of_written_tokens (tokens_of_setting s tail))) (text_of_plain_units_is_bytes name)
    ∙ ap (λ (t : List ℕ). gap_bytes_if_spaced spaced ++ (name ++ t)) (text_of_setting_tokens_is_printed s tail)
    ∙ ap (λ (t : List ℕ). gap_bytes_if_spaced spaced ++ t) (sym (append_assoc name (printed_param_setting s) (line_of_written_tokens tail)))

text_of_parameters_tokens_is_printed : (p : Param) (ps : List Param) → AllByRecursion IsWritableParam (p ∷ ps) → line_of_written_tokens (tokens_of_parameters (p ∷ ps)) ≡ 32 ∷ (printed_params (p ∷ ps) ++ 10 ∷ [])
text_of_parameters_tokens_is_printed p ps all =
    many_text 44 false printed_param tokens_of_parameter IsWritableParam (λ q t h. text_of_parameter_tokens_is_printed true q.negated q.name q.setting t) (32 ∷ []) (printed_param p)
    (λ t. line_of_written_tokens (tokens_of_parameter p t)) (λ t. text_of_parameter_tokens_is_printed true p.negated p.name p.setting t) ps [] all.1

-- ---- scopes as they are printed

pub scope_command_atom_is_writable : (a : Atom) → IsScopeCommandAtom a → IsWritableCommandAtom a
scope_command_atom_is_writable atom.All is = tt
scope_command_atom_is_writable (atom.Alias name) is = is
scope_command_atom_is_writable atom.Listing is = tt
scope_command_atom_is_writable (atom.Path path args) is = is.0
scope_command_atom_is_writable (atom.Sudoedit args) is = subst IsWritableArgs (sym is) tt
scope_command_atom_is_writable a is = absurd is

text_of_scope_command_is_printed : (spaced : Bool) (m : Member) (tail : List WrittenToken) → IsScopeCommandMember m → line_of_written_tokens (tokens_of_signed_command spaced m.negated m.atom tail) ≡ gap_bytes_if_spaced spaced ++ (printed_member false Cmnd m ++ line_of_written_tokens tail)
text_of_scope_command_is_printed spaced m tail is =
    text_of_signed_command_is_printed spaced false m.negated m.atom tail (scope_command_atom_is_writable m.atom is.is)
    ∙ ap (λ (ds : List Digest). gap_bytes_if_spaced spaced ++ ((printed_digests ds ++ negation_sign m.negated ++ printed_atom false Cmnd m.atom) ++ line_of_written_tokens tail)) (sym is.no_digests)

text_of_scope_list_is_printed : (k : Kind) (ms : List Member) (tail : List WrittenToken) → IsNonEmptyListOf (IsWritableScopeMember k) ms → line_of_written_tokens (tokens_of_scope_list k ms tail) ≡ printed_member_list false k ms ++ line_of_written_tokens tail
text_of_scope_list_is_printed User ms tail all = text_of_member_list_is_printed User false false ms tail all
text_of_scope_list_is_printed Runas ms tail all = text_of_member_list_is_printed Runas false false ms tail all
text_of_scope_list_is_printed Host ms tail all = text_of_member_list_is_printed Host false false ms tail all
text_of_scope_list_is_printed Cmnd [] tail all = absurd all
text_of_scope_list_is_printed Cmnd (m ∷ ms) tail all =
    many_text 44 false (printed_member false Cmnd) (tokens_of_scope_command true) IsScopeCommandMember (text_of_scope_command_is_printed true) [] (printed_member false Cmnd m)
    (λ t. line_of_written_tokens (tokens_of_scope_command false m t)) (λ t. text_of_scope_command_is_printed false m t all.0) ms tail all.1

scope_mark_byte_is_printed_mark : (k : Kind) (rest : List ℕ) → mark_byte_of_scope_kind k ∷ rest ≡ defaults_scope_mark k ++ rest
scope_mark_byte_is_printed_mark User rest = refl
scope_mark_byte_is_printed_mark k rest = refl

text_of_scope_tokens_is_printed : (scope : Option Scope) (tail : List WrittenToken) → IsWritableScope scope → line_of_written_tokens (tokens_of_scope scope tail) ≡ printed_scope scope ++ line_of_written_tokens tail
text_of_scope_tokens_is_printed None tail is = refl
text_of_scope_tokens_is_printed (Some s) tail is =
    ap (λ (t : List ℕ). mark_byte_of_scope_kind s.kind ∷ t) (text_of_scope_list_is_printed s.kind s.members tail is)
    ∙ scope_mark_byte_is_printed_mark s.kind (printed_member_list false s.kind s.members ++ line_of_written_tokens tail)
    ∙ sym (append_assoc (defaults_scope_mark s.kind) (printed_member_list false s.kind s.members) (line_of_written_tokens tail))

-- The tokens of a Defaults line are its line as it is printed.
pub text_of_defaults_tokens_is_printed_line : (scope : Option Scope) (p : Param) (ps : List Param) → IsWritableScope scope → AllByRecursion IsWritableParam (p ∷ ps) → line_of_written_tokens (tokens_of_defaults_line scope (p ∷ ps)) ≡ printed_line (node.Defaults scope (p ∷ ps))
text_of_defaults_tokens_is_printed_line scope p ps is all =
    ap (λ (t : List ℕ). codes "Defaults" ++ t) (text_of_scope_tokens_is_printed scope (tokens_of_parameters (p ∷ ps)) is)
    ∙ ap (λ (t : List ℕ). codes "Defaults" ++ (printed_scope scope ++ t)) (text_of_parameters_tokens_is_printed p ps all)
    ∙ joined (printed_scope scope) (printed_params (p ∷ ps))
  where
    joined : (a b : List ℕ) → codes "Defaults" ++ (a ++ (32 ∷ (b ++ 10 ∷ []))) ≡ ((codes "Defaults" ++ a) ++ codes " ") ++ b ++ codes "\n"
    joined a b = simp append_assoc
