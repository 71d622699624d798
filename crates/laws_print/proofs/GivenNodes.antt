-- What a line is read as can be written.
use Rattle.laws_print.proofs.Common.{◌≡◌, ◌≢◌, ℕ, Bool, true, false, ◌&&◌, List, [], ◌∷◌, ◌++◌, Some, None, refl, sym, ap, subst, ◌∙◌, if◌then◌else◌}
use Rattle.laws_print.proofs.Common.{Option, codes, AllByRecursion, list_all, bytes_eq, bytes_eq-Decides, TokenKind, is_byte_of_parameter_name, line_mode, is_among}
use Rattle.laws_print.proofs.Common.{include_words, Kind, User, Member, Def, HostGroup, Setting, Param, Scope, Node, TokenWithBytes, tokens_with_bytes, is_parameter_name_kind}
use Rattle.laws_print.proofs.Common.{value_of_matching_row, alias_kind_of_token, is_given_word, include_is_dir_of_token, has_byte, is_a_word, IsMember, IsDef, IsHostGroup, BeginsSpec}
use Rattle.laws_print.proofs.Common.{IsFlagOrSetting, IsParam, is_defaults, MarkThenRule, IsWritableUserMember, IsNonEmptyListOf, IsWritableDefinition, IsWritableHostGroup, IsSettingAllowedIfNegated}
use Rattle.laws_print.proofs.Common.{IsWritableScope, IsWritableParam}
use Rattle.sudoers_text.specs.declared.token.TokenKind.TheVariants as kind
use Rattle.sudoers_text.specs.Context.{is_word_kind}
use Rattle.sudoers_grammar.specs.Node as node
use Rattle.sudoers_grammar.specs.Line.{LineReadsAsNode}
use Rattle.sudoers_grammar.specs.Piece.{is_some, alias_kinds_by_keyword}
use Rattle.sudoers_grammar.specs.Piece.{include_is_dir_by_word as include_rows}
use Rattle.sudoers_grammar.specs.Grammar.{IsAliasLine, IsUserSpec, IsDefaultsLine, ReadsNodeWithRest}
use Rattle.laws_print.specs.Readable.{IsReadableNode}
use Rattle.laws_print.proofs.NoArguments.{HaveNoArgsBehindDefaults, defaults_line_has_no_args_behind, scope_of_given_tokens_is_writable}
use Rattle.laws_print.proofs.TidyPieces.{IsTokenTextOfKind}
use Rattle.laws_print.proofs.GivenTokens.{IsGivenToken, AreGivenTokens, AreGivenLineTokens, given_token_is_number_text_if_id, tokens_of_line_without_nul_are_given}
use Rattle.laws_print.proofs.GivenLists.{rest_of_given_list_is_given, ReadsOnlyWritable, many_read_of_given_are_writable, marked_rule_reads_only_writable, separated_rule_reads_only_writable, user_atom_of_id_token_is_writable, user_member_rule_reads_only_writable, definition_rule_reads_only_writable, host_group_rule_reads_only_writable}

-- ---- the first word

-- what the law of words says of includes
abbrev pub IncludeWordTestsAgree : Type 0
IncludeWordTestsAgree = (word : List ℕ) → is_among include_words word ≡ is_some (value_of_matching_row include_rows word)

abbrev pub IsNoIncludeWord : TokenWithBytes → Type 0
IsNoIncludeWord t = (is_word_kind t.kind && is_among include_words t.text) ≡ false

token_without_include_dir_is_no_include : IncludeWordTestsAgree → (t : TokenWithBytes) → include_is_dir_of_token t ≡ None → IsNoIncludeWord t
unfolding include_is_dir_of_token
token_without_include_dir_is_no_include agree t e = by_kind t.kind e
  where
    by_kind : (k : TokenKind) → (if is_a_word k then value_of_matching_row include_rows t.text else None) ≡ None → (is_word_kind k && is_among include_words t.text) ≡ false
    by_kind kind.Word e = agree t.text ∙ ap is_some e
    by_kind k e = refl

text_matching_apart_rows_is_no_include : {X : Type 0} → (rows : List (List ℕ × X)) → AllByRecursion (λ (row : List ℕ × X). is_among include_words row.0 ≡ false) rows → (text : List ℕ) (x : X) → value_of_matching_row rows text ≡ Some x → is_among include_words text ≡ false
text_matching_apart_rows_is_no_include [] all text x e = absurd (cc)
text_matching_apart_rows_is_no_include (row ∷ rows) all text x e = by_test (bytes_eq text row.0) refl e (λ h. text_matching_apart_rows_is_no_include rows all.1 text x h)
  where
    by_test : (t : Bool) → bytes_eq text row.0 ≡ t → (if t then Some row.1 else value_of_matching_row rows text) ≡ Some x → (value_of_matching_row rows text ≡ Some x → is_among include_words text ≡ false) → is_among include_words text ≡ false
    by_test true h e later = ap (is_among include_words) ((bytes_eq-Decides text row.0).0 h) ∙ all.0
    by_test false h e later = later e

alias_keyword_token_is_no_include : (t : TokenWithBytes) (k : Kind) → alias_kind_of_token t ≡ Some k → IsNoIncludeWord t
unfolding alias_kind_of_token
alias_keyword_token_is_no_include t k e = by_kind t.kind e
  where
    by_kind : (c : TokenKind) → (if is_a_word c then value_of_matching_row alias_kinds_by_keyword t.text else None) ≡ Some k → (is_word_kind c && is_among include_words t.text) ≡ false
    by_kind kind.Word e = text_matching_apart_rows_is_no_include alias_kinds_by_keyword (refl, (refl, (refl, (refl, (refl, tt))))) t.text k e
    by_kind c e = refl

defaults_token_is_no_include : (t : TokenWithBytes) → is_defaults t ≡ true → IsNoIncludeWord t
unfolding is_given_word
defaults_token_is_no_include t e = by_kind t.kind (bytes_eq t.text (codes "Defaults")) refl e
  where
    by_kind : (c : TokenKind) (u : Bool) → bytes_eq t.text (codes "Defaults") ≡ u → (is_a_word c && u) ≡ true → (is_word_kind c && is_among include_words t.text) ≡ false
    by_kind kind.Word true h e = ap (is_among include_words) ((bytes_eq-Decides t.text (codes "Defaults")).0 h)
    by_kind kind.Word false h e = absurd (cc)
    by_kind c u h e = refl

-- ---- aliases

definitions_of_given_alias_line_are_writable : (k : Kind) (ts : List TokenWithBytes) (ds : List Def) (rest : List TokenWithBytes) → AreGivenLineTokens ts → IsAliasLine k ts ds rest → IsNonEmptyListOf (IsWritableDefinition k) ds
definitions_of_given_alias_line_are_writable k ts ds rest given is =
    let there = subst AreGivenLineTokens is.split given in
    (separated_rule_reads_only_writable 58 (IsDef k) (IsWritableDefinition k) (definition_rule_reads_only_writable k) is.behind ds rest (there.1 (alias_keyword_token_is_no_include is.word k is.is_kind)) is.defs).0

-- ---- user specifications

first_user_of_given_line_is_writable : IncludeWordTestsAgree → (ts : List TokenWithBytes) (m : Member) (rest : List TokenWithBytes) → AreGivenLineTokens ts → BeginsSpec ts → IsMember User ts m rest → IsWritableUserMember m × AreGivenTokens rest
first_user_of_given_line_is_writable agree ts m rest given begins is = by_signs is.signs is.split
  where
    by_signs : (signs : List TokenWithBytes) → ts ≡ signs ++ (is.last ∷ rest) → IsWritableUserMember m × AreGivenTokens rest
    by_signs [] e =
        let there = subst AreGivenLineTokens e given in
        let other = subst BeginsSpec e begins in
        (record { is = user_atom_of_id_token_is_writable is.last m.atom there.0 is.atom; no_digests = is.digests }, there.1 (token_without_include_dir_is_no_include agree is.last other.no_include))
    by_signs (s ∷ signs) e =
        let there = subst AreGivenLineTokens e given in
        let other = subst BeginsSpec e begins in
        let after = rest_of_given_list_is_given signs (is.last ∷ rest) (there.1 (token_without_include_dir_is_no_include agree s other.no_include)) in
        (record { is = user_atom_of_id_token_is_writable is.last m.atom (given_token_is_number_text_if_id is.last.kind is.last.text after.0.0) is.atom; no_digests = is.digests }, after.2)

spec_of_given_line_is_writable : IncludeWordTestsAgree → (ts : List TokenWithBytes) (us : List Member) (gs : List HostGroup) (rest : List TokenWithBytes) → AreGivenLineTokens ts → IsUserSpec ts us gs rest → IsNonEmptyListOf IsWritableUserMember us × IsNonEmptyListOf IsWritableHostGroup gs
spec_of_given_line_is_writable agree ts [] gs rest given is = absurd is.users
spec_of_given_line_is_writable agree ts (u ∷ us) gs rest given is =
    let first = first_user_of_given_line_is_writable agree ts u is.users.0 given is.begins is.users.1 in
    let more = many_read_of_given_are_writable (MarkThenRule 44 (IsMember User)) IsWritableUserMember (marked_rule_reads_only_writable 44 (IsMember User) IsWritableUserMember user_member_rule_reads_only_writable) is.users.0 us is.behind first.1 is.users.2 in
    ((first.0, more.0), (separated_rule_reads_only_writable 58 IsHostGroup IsWritableHostGroup host_group_rule_reads_only_writable is.behind gs rest more.1 is.groups).0)

-- ---- Defaults lines

text_of_name_token_is_name_bytes : (k : TokenKind) (text : List ℕ) → is_parameter_name_kind k ≡ true → IsTokenTextOfKind k text → (text ≢ []) × (list_all is_byte_of_parameter_name text ≡ true)
text_of_name_token_is_name_bytes kind.Name text h is = is
text_of_name_token_is_name_bytes k text h is = absurd (cc)

parameter_with_token_name_is_writable : (p : Param) (t : TokenWithBytes) → p.name ≡ t.text → is_parameter_name_kind t.kind ≡ true → IsGivenToken t → IsSettingAllowedIfNegated p.negated p.setting → IsWritableParam p
parameter_with_token_name_is_writable p t same is given setting =
    let text = text_of_name_token_is_name_bytes t.kind t.text is given.0 in
    record { some = λ e. text.0 (sym same ∙ e); name = ap (list_all is_byte_of_parameter_name) same ∙ text.1; setting = setting }

parameter_with_setting_is_writable : (s : Option Setting) (ts : List TokenWithBytes) (p : Param) (rest : List TokenWithBytes) → p.setting ≡ s → AreGivenTokens ts → IsFlagOrSetting s ts p rest → IsWritableParam p × AreGivenTokens rest
parameter_with_setting_is_writable None ts p rest same given is =
    let after = rest_of_given_list_is_given is.signs (is.name ∷ rest) (subst AreGivenTokens is.split given) in
    (parameter_with_token_name_is_writable p is.name is.same_name is.is_name after.0 (subst (IsSettingAllowedIfNegated p.negated) (sym same) tt), after.2)
parameter_with_setting_is_writable (Some s) ts p rest same given is =
    let after = subst AreGivenTokens is.split given in
    (parameter_with_token_name_is_writable p is.name is.same_name is.is_name after.0 (subst (IsSettingAllowedIfNegated p.negated) (sym same) is.not_negated), after.2.2.2)

parameter_rule_reads_only_writable : ReadsOnlyWritable IsParam IsWritableParam
parameter_rule_reads_only_writable ts p rest given is = parameter_with_setting_is_writable p.setting ts p rest refl given is

defaults_of_given_line_are_writable : (ts : List TokenWithBytes) (scope : Option Scope) (ps : List Param) (rest : List TokenWithBytes) → AreGivenLineTokens ts → HaveNoArgsBehindDefaults ts → IsDefaultsLine ts scope ps rest → IsWritableScope scope × IsNonEmptyListOf IsWritableParam ps
defaults_of_given_line_are_writable ts scope ps rest given none is =
    let there = subst AreGivenLineTokens is.split given in
    let apart = subst HaveNoArgsBehindDefaults is.split none in
    let first = defaults_token_is_no_include is.word is.is_word in
    let scoped = scope_of_given_tokens_is_writable is.word.stop is.behind scope is.behind_scope (there.1 first, apart is.is_word first) is.in_scope in
    (scoped.0, (separated_rule_reads_only_writable 44 IsParam IsWritableParam parameter_rule_reads_only_writable is.behind_scope ps rest scoped.1 is.params).0)

-- ---- lines

node_of_given_tokens_is_readable : IncludeWordTestsAgree → (ts : List TokenWithBytes) (n : Node) (rest : List TokenWithBytes) → AreGivenLineTokens ts → HaveNoArgsBehindDefaults ts → ReadsNodeWithRest ts n rest → IsReadableNode n
node_of_given_tokens_is_readable agree ts (node.Defaults scope params) rest given none says = defaults_of_given_line_are_writable ts scope params rest given none says
node_of_given_tokens_is_readable agree ts (node.Alias k defs) rest given none says = definitions_of_given_alias_line_are_writable k ts defs rest given says
node_of_given_tokens_is_readable agree ts (node.Spec users groups) rest given none says = spec_of_given_line_is_writable agree ts users groups rest given says
node_of_given_tokens_is_readable agree ts n rest given none says = tt

-- What a line without NUL is read as can be written.
pub node_of_line_without_nul_is_readable : IncludeWordTestsAgree → (line : List ℕ) (n : Node) → has_byte 0 line ≡ false → LineReadsAsNode line n → IsReadableNode n
node_of_line_without_nul_is_readable agree line n clean is = node_of_given_tokens_is_readable agree (tokens_with_bytes line is.tokens) n is.reads.0 (tokens_of_line_without_nul_are_given (line_mode line) line is.tokens clean is.has) (defaults_line_has_no_args_behind line is.tokens is.has) is.reads.1
