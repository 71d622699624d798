-- What a line says keeps its spelling in sudo's dialect: the rules of lines.
use Rattle.std.proofs.Common.{◌≡◌, ap, ℕ, Bool, true, false, List, [], ◌∷◌, Option, Some, None, refl, sym, subst}
use Rattle.std.specs.Prelude.{◌&&◌, ◌||◌, codes}
use Rattle.std.specs.Str.{bytes_eq}
use Rattle.std.proofs.lemmas.Bool.{and_parts}
use Rattle.sudoers_text.specs.declared.token.TokenKind.{TokenKind}
use Rattle.sudoers_text.specs.declared.token.TokenKind.TheVariants as kind
use Rattle.sudoers_text.specs.Value.{value_of_word}
use Rattle.sudoers_text.specs.Word.{is_name}
use Rattle.sudoers_text.specs.Adapted.{token_before}
use Rattle.sudoers_grammar.specs.declared.node.Kind.{Kind}
use Rattle.sudoers_grammar.specs.declared.node.Kind.TheVariants.{User, Runas, Host, Cmnd}
use Rattle.sudoers_grammar.specs.Node.{Member, RunasSpec, HostGroup, Scope, Setting, Param, Node}
use Rattle.sudoers_grammar.specs.Node as node
use Rattle.sudoers_grammar.specs.Piece.{TokenWithBytes, is_word, is_quoted, is_parameter_name_kind, is_value, is_comment, is_given_word, is_alias_name, value_of_matching_row, alias_kinds_by_keyword, alias_kind_of_token, include_is_dir_by_word, include_is_dir_of_token, options_by_name, option_of_token, tag_and_sign_of_word, tag_and_sign_of_token}
use Rattle.sudoers_grammar.specs.Atom.{is_option_value_allowed, option_value_of_token, some_if_not_empty, include_path_of_token}
use Rattle.sudoers_grammar.specs.Grammar.{MarkThenRule, AreMembers, IsDef, IsAliasLine, IsRunas, PerhapsRunas, IsOption, IsTag, IsCmdSpec, IsHostGroup, IsUserSpec, IsScopeCommand, IsScopeMemberList, PerhapsScope, IsFlagOrSetting, IsParam, IsDefaultsLine, IsIncludeLine, IsEnd, ReadsNodeWithRest}
use Rattle.laws_dialect.proofs.KeptTokens.{AreKept, AreKeptWithoutClosing, tokens_kept_anywhere_are_kept, IsPlainToken, comma_is_separator, colon_is_separator, plain_token_before_kept_tokens, word_like_token_before_kept_tokens, any_token_before_kept_tokens, opening_parenthesis_before_kept_tokens, closing_parenthesis_before_kept_tokens, word_or_quoted_kind_is_word_like, test_of_some_choice_is_true, word_of_test_is_plain, token_with_word_meaning_is_plain, may_be_equals}
use Rattle.laws_dialect.proofs.KeptRules.{RuleKeeps, rule_keeps_tokens_kept_anywhere, many_rule_keeps_without_closing, mark_then_rule_keeps, separated_rule_keeps, perhaps_rule_keeps, negation_signs_before_kept_tokens, user_atoms_are_word_like, runas_atoms_are_word_like, host_atoms_are_word_like, member_list_keeps, command_rule_keeps, alias_member_list_keeps}

-- ---- aliases

alias_name_is_plain : (t : TokenWithBytes) → is_alias_name t ≡ true → IsPlainToken t
unfolding is_alias_name
alias_name_is_plain t e =
    let parts = and_parts (is_word t.kind) (is_name t.text) e in
    word_of_test_is_plain is_name refl t parts.0 parts.1

definition_rule_keeps : (strict : Bool) (k : Kind) → RuleKeeps strict true (IsDef k)
definition_rule_keeps strict k ts d rest all is =
    let members = alias_member_list_keeps strict k is.behind d.members rest all is.members in
    subst (AreKeptWithoutClosing strict) (sym is.split)
    (plain_token_before_kept_tokens strict is.name (is.equals ∷ is.behind) (alias_name_is_plain is.name is.is_name)
    (any_token_before_kept_tokens strict is.equals is.behind members.kept))

alias_line_rule_keeps : (strict : Bool) (k : Kind) → RuleKeeps strict true (IsAliasLine k)
unfolding alias_kind_of_token
alias_line_rule_keeps strict k ts ds rest all is =
    let defs = separated_rule_keeps strict true 58 (IsDef k) colon_is_separator (definition_rule_keeps strict k) is.behind ds rest all is.defs in
    subst (AreKeptWithoutClosing strict) (sym is.split)
    (plain_token_before_kept_tokens strict is.word is.behind (token_with_word_meaning_is_plain (value_of_matching_row alias_kinds_by_keyword) refl is.word k is.is_kind)
    (tokens_kept_anywhere_are_kept strict false is.behind defs.kept))

-- ---- user specifications

runas_list_keeps : (strict : Bool) → RuleKeeps strict true (AreMembers Runas)
runas_list_keeps strict = rule_keeps_tokens_kept_anywhere strict strict (AreMembers Runas) (member_list_keeps strict Runas runas_atoms_are_word_like)

runas_rule_keeps : (strict : Bool) → RuleKeeps strict true IsRunas
runas_rule_keeps strict ts r rest all is =
    let end = subst (AreKept strict true) (sym is.split_groups) (closing_parenthesis_before_kept_tokens strict is.closing rest is.is_close all) in
    let groups = perhaps_rule_keeps strict (MarkThenRule 58 (AreMembers Runas)) (mark_then_rule_keeps strict true 58 (AreMembers Runas) colon_is_separator (runas_list_keeps strict))
    is.behind_users r.groups is.behind_groups end is.groups in
    let users = perhaps_rule_keeps strict (AreMembers Runas) (runas_list_keeps strict) is.inside r.users is.behind_users groups is.users in
    subst (AreKeptWithoutClosing strict) (sym is.split) (opening_parenthesis_before_kept_tokens strict is.opening is.inside is.is_open users)

perhaps_runas_rule_keeps : (strict : Bool) (ts : List TokenWithBytes) (r : Option RunasSpec) (rest : List TokenWithBytes) → AreKeptWithoutClosing strict rest → PerhapsRunas ts r rest → AreKeptWithoutClosing strict ts
perhaps_runas_rule_keeps strict ts None rest all is = subst (AreKeptWithoutClosing strict) (sym is) all
perhaps_runas_rule_keeps strict ts (Some r) rest all is = runas_rule_keeps strict ts r rest all.kept is

option_rule_keeps : (strict : Bool) → RuleKeeps strict true IsOption
unfolding option_of_token option_value_of_token
option_rule_keeps strict ts o rest all is =
    let text = value_of_word is.value.text in
    let is_value = and_parts (is_word is.value.kind || is_quoted is.value.kind) (is_option_value_allowed o.0 text)
    (test_of_some_choice_is_true ((is_word is.value.kind || is_quoted is.value.kind) && is_option_value_allowed o.0 text) (Some text) o.1 is.is_value) in
    let value = word_like_token_before_kept_tokens strict is.value rest (word_or_quoted_kind_is_word_like is.value.kind is_value.0) (tokens_kept_anywhere_are_kept strict strict rest all) in
    let name = token_with_word_meaning_is_plain (value_of_matching_row options_by_name) refl is.name o.0 is.is_name in
    subst (AreKeptWithoutClosing strict) (sym is.split)
    (plain_token_before_kept_tokens strict is.name (is.equals ∷ is.value ∷ rest) name (any_token_before_kept_tokens strict is.equals (is.value ∷ rest) value.kept))

tag_rule_keeps : (strict : Bool) → RuleKeeps strict true IsTag
unfolding tag_and_sign_of_token
tag_rule_keeps strict ts g rest all is =
    subst (AreKeptWithoutClosing strict) (sym is.split)
    (plain_token_before_kept_tokens strict is.word (is.colon ∷ rest) (token_with_word_meaning_is_plain tag_and_sign_of_word refl is.word g is.is_tag)
    (any_token_before_kept_tokens strict is.colon rest all))

command_spec_rule_keeps : (strict : Bool) → RuleKeeps strict true IsCmdSpec
command_spec_rule_keeps strict ts c rest all is =
    let command = command_rule_keeps strict is.behind_tags c.member rest all is.member in
    let tags = many_rule_keeps_without_closing strict IsTag (tag_rule_keeps strict) is.behind_options c.tags is.behind_tags command is.tags in
    let options = many_rule_keeps_without_closing strict IsOption (option_rule_keeps strict) is.behind_runas c.options is.behind_options tags is.options in
    perhaps_runas_rule_keeps strict ts c.runas is.behind_runas options is.runas

host_group_rule_keeps : RuleKeeps false true IsHostGroup
host_group_rule_keeps ts g rest all is =
    let commands = separated_rule_keeps false true 44 IsCmdSpec comma_is_separator (command_spec_rule_keeps false) is.behind g.commands rest all is.commands in
    let equals = subst (AreKept false false) (sym is.split) (any_token_before_kept_tokens false is.equals is.behind commands.kept) in
    member_list_keeps false Host host_atoms_are_word_like ts g.hosts is.behind_hosts equals is.hosts

user_spec_rule_keeps : (ts : List TokenWithBytes) (us : List Member) (gs : List HostGroup) (rest : List TokenWithBytes) → AreKept false true rest → IsUserSpec ts us gs rest → AreKeptWithoutClosing false ts
user_spec_rule_keeps ts us gs rest all is =
    let groups = separated_rule_keeps false true 58 IsHostGroup colon_is_separator host_group_rule_keeps is.behind gs rest all is.groups in
    member_list_keeps false User user_atoms_are_word_like ts us is.behind (tokens_kept_anywhere_are_kept false false is.behind groups.kept) is.users

-- ---- Defaults

parameter_name_kind_is_name : (k : TokenKind) → is_parameter_name_kind k ≡ true → k ≡ kind.Name
parameter_name_kind_is_name kind.Name e = refl
parameter_name_kind_is_name k e = absurd (cc)

parameter_name_is_plain : (t : TokenWithBytes) → is_parameter_name_kind t.kind ≡ true → IsPlainToken t
parameter_name_is_plain t e = record { no_equals = ap may_be_equals (parameter_name_kind_is_name t.kind e); before = ap (λ (k : TokenKind). token_before k t.text) (parameter_name_kind_is_name t.kind e) }

value_kind_is_value : (k : TokenKind) → is_value k ≡ true → k ≡ kind.Value
value_kind_is_value kind.Value e = refl
value_kind_is_value k e = absurd (cc)

value_is_plain : (t : TokenWithBytes) → is_value t.kind ≡ true → IsPlainToken t
value_is_plain t e = record { no_equals = ap may_be_equals (value_kind_is_value t.kind e); before = ap (λ (k : TokenKind). token_before k t.text) (value_kind_is_value t.kind e) }

flag_or_setting_keeps : (strict : Bool) (setting : Option Setting) (ts : List TokenWithBytes) (p : Param) (rest : List TokenWithBytes) → AreKept strict true rest → IsFlagOrSetting setting ts p rest → AreKeptWithoutClosing strict ts
flag_or_setting_keeps strict None ts p rest all is =
    let name = plain_token_before_kept_tokens strict is.name rest (parameter_name_is_plain is.name is.is_name) (tokens_kept_anywhere_are_kept strict false rest all) in
    subst (AreKeptWithoutClosing strict) (sym is.split) (negation_signs_before_kept_tokens strict is.signs (is.name ∷ rest) is.are_signs name)
flag_or_setting_keeps strict (Some s) ts p rest all is =
    let value = plain_token_before_kept_tokens strict is.value rest (value_is_plain is.value is.is_value) (tokens_kept_anywhere_are_kept strict false rest all) in
    subst (AreKeptWithoutClosing strict) (sym is.split)
    (plain_token_before_kept_tokens strict is.name (is.operator ∷ is.value ∷ rest) (parameter_name_is_plain is.name is.is_name)
    (any_token_before_kept_tokens strict is.operator (is.value ∷ rest) value.kept))

parameter_rule_keeps : (strict : Bool) → RuleKeeps strict true IsParam
parameter_rule_keeps strict ts p rest all is = flag_or_setting_keeps strict p.setting ts p rest all is

scope_command_rule_keeps : (strict : Bool) → RuleKeeps strict true IsScopeCommand
scope_command_rule_keeps strict ts m rest all is = command_rule_keeps strict ts m rest all is.1

scope_member_list_keeps : (strict : Bool) (k : Kind) → RuleKeeps strict true (IsScopeMemberList k)
scope_member_list_keeps strict User = rule_keeps_tokens_kept_anywhere strict strict (AreMembers User) (member_list_keeps strict User user_atoms_are_word_like)
scope_member_list_keeps strict Runas = (runas_list_keeps strict)
scope_member_list_keeps strict Host = rule_keeps_tokens_kept_anywhere strict strict (AreMembers Host) (member_list_keeps strict Host host_atoms_are_word_like)
scope_member_list_keeps strict Cmnd = separated_rule_keeps strict true 44 IsScopeCommand comma_is_separator (scope_command_rule_keeps strict)

perhaps_scope_rule_keeps : (strict : Bool) (stop : ℕ) (ts : List TokenWithBytes) (s : Option Scope) (rest : List TokenWithBytes) → AreKept strict true rest → PerhapsScope stop ts s rest → AreKept strict false ts
perhaps_scope_rule_keeps strict stop ts None rest all is = tokens_kept_anywhere_are_kept strict false ts (subst (AreKept strict true) (sym is.0) all)
perhaps_scope_rule_keeps strict stop ts (Some s) rest all is =
    let members = scope_member_list_keeps strict s.kind is.behind s.members rest all is.members in
    subst (AreKept strict false) (sym is.split) (any_token_before_kept_tokens strict is.sign is.behind members.kept)

defaults_line_rule_keeps : (strict : Bool) (ts : List TokenWithBytes) (s : Option Scope) (ps : List Param) (rest : List TokenWithBytes) → AreKept strict true rest → IsDefaultsLine ts s ps rest → AreKeptWithoutClosing strict ts
unfolding is_given_word
defaults_line_rule_keeps strict ts s ps rest all is =
    let params = separated_rule_keeps strict true 44 IsParam comma_is_separator (parameter_rule_keeps strict) is.behind_scope ps rest all is.params in
    let parts = and_parts (is_word is.word.kind) (bytes_eq is.word.text (codes "Defaults")) is.is_word in
    let word = word_of_test_is_plain (λ (text : List ℕ). bytes_eq text (codes "Defaults")) refl is.word parts.0 parts.1 in
    subst (AreKeptWithoutClosing strict) (sym is.split)
    (plain_token_before_kept_tokens strict is.word is.behind word (perhaps_scope_rule_keeps strict is.word.stop is.behind s is.behind_scope params.kept is.in_scope))

-- ---- lines

include_line_rule_keeps : (strict : Bool) (dir : Bool) (path : List ℕ) (ts rest : List TokenWithBytes) → AreKept strict true rest → IsIncludeLine dir path ts rest → AreKeptWithoutClosing strict ts
unfolding include_is_dir_of_token include_path_of_token
include_line_rule_keeps strict dir path ts rest all is =
    let is_path = test_of_some_choice_is_true (is_word is.name.kind || is_quoted is.name.kind) (some_if_not_empty (value_of_word is.name.text)) path is.is_path in
    let name = word_like_token_before_kept_tokens strict is.name rest (word_or_quoted_kind_is_word_like is.name.kind is_path) (tokens_kept_anywhere_are_kept strict strict rest all) in
    subst (AreKeptWithoutClosing strict) (sym is.split)
    (plain_token_before_kept_tokens strict is.word (is.name ∷ rest) (token_with_word_meaning_is_plain (value_of_matching_row include_is_dir_by_word) refl is.word dir is.is_include)
    (tokens_kept_anywhere_are_kept strict false (is.name ∷ rest) name.kept))

comment_kind_is_comment : (k : TokenKind) → is_comment k ≡ true → k ≡ kind.Comment
comment_kind_is_comment kind.Comment e = refl
comment_kind_is_comment k e = absurd (cc)

comment_alone_is_kept : (strict : Bool) (t : TokenWithBytes) → is_comment t.kind ≡ true → AreKept strict true (t ∷ [])
comment_alone_is_kept strict t e =
    let comment = comment_kind_is_comment t.kind e in
    (plain_token_before_kept_tokens strict t [] (record { no_equals = ap may_be_equals comment; before = ap (λ (k : TokenKind). token_before k t.text) comment }) tt).kept

end_of_line_is_kept : (strict : Bool) (rest : List TokenWithBytes) → IsEnd rest → AreKept strict true rest
end_of_line_is_kept strict [] is = λ left. tt
end_of_line_is_kept strict (t ∷ []) is = comment_alone_is_kept strict t is
end_of_line_is_kept strict (t ∷ u ∷ ts) is = absurd is

-- The node is no user specification.
abbrev pub IsNoSpec : Node → Type 0
IsNoSpec node.Blank = Unit {0}
IsNoSpec node.Comment = Unit {0}
IsNoSpec (node.Include dir path) = Unit {0}
IsNoSpec (node.Defaults s ps) = Unit {0}
IsNoSpec (node.Alias k ds) = Unit {0}
IsNoSpec (node.Spec us gs) = ⊥

pub tokens_of_no_spec_are_kept : (strict : Bool) (ts : List TokenWithBytes) (n : Node) (rest : List TokenWithBytes) → IsNoSpec n → ReadsNodeWithRest ts n rest → IsEnd rest → AreKept strict true ts
tokens_of_no_spec_are_kept strict ts node.Blank rest no_spec is end = subst (AreKept strict true) (sym is.0) (λ left. tt)
tokens_of_no_spec_are_kept strict ts node.Comment rest no_spec is end = subst (AreKept strict true) (sym is.1) (comment_alone_is_kept strict is.0 is.2)
tokens_of_no_spec_are_kept strict ts (node.Include dir path) rest no_spec is end = (include_line_rule_keeps strict dir path ts rest (end_of_line_is_kept strict rest end) is).kept
tokens_of_no_spec_are_kept strict ts (node.Defaults s ps) rest no_spec is end = (defaults_line_rule_keeps strict ts s ps rest (end_of_line_is_kept strict rest end) is).kept
tokens_of_no_spec_are_kept strict ts (node.Alias k ds) rest no_spec is end = (alias_line_rule_keeps strict k ts ds rest (end_of_line_is_kept strict rest end) is).kept
tokens_of_no_spec_are_kept strict ts (node.Spec us gs) rest no_spec is end = absurd no_spec

pub tokens_of_spec_are_kept : (ts : List TokenWithBytes) (us : List Member) (gs : List HostGroup) (rest : List TokenWithBytes) → IsUserSpec ts us gs rest → IsEnd rest → AreKept false true ts
tokens_of_spec_are_kept ts us gs rest is end = (user_spec_rule_keeps ts us gs rest (end_of_line_is_kept false rest end) is).kept
