-- What a whole line says in which a name is replaced by another.
use Rattle.std.proofs.Common.{◌≡◌, ℕ, Bool, true, ◌&&◌, List, [], ◌∷◌, ◌++◌, map, refl, sym, ap, subst, ◌∙◌, Option, Some, None}
use Rattle.std.specs.Prelude.{◌==◌, if◌then◌else◌, codes}
use Rattle.std.specs.Str.{bytes_eq}
use Rattle.sudoers_text.specs.declared.token.TokenKind.{TokenKind}
use Rattle.sudoers_text.specs.declared.token.TokenKind.TheVariants as kind
use Rattle.sudoers_text.specs.Renamed.{IsDefinableName}
use Rattle.sudoers_grammar.specs.declared.node.Kind.{Kind}
use Rattle.sudoers_grammar.specs.declared.node.Kind.TheVariants.{User, Runas, Host, Cmnd}
use Rattle.sudoers_grammar.specs.Node.{Member, Scope, Setting, Param, Node}
use Rattle.sudoers_grammar.specs.Node as node
use Rattle.sudoers_grammar.specs.Piece.{TokenWithBytes, is_word, is_punct, is_comment, is_given_word, alias_kind_of_token, alias_kinds_by_keyword, include_is_dir_of_token, include_is_dir_by_word, value_of_matching_row, operator_of_token, scope_kind_of_sign_token_after, scope_kinds_by_sign}
use Rattle.sudoers_grammar.specs.Atom.{include_path_of_token}
use Rattle.sudoers_grammar.specs.Grammar.{Separated, IsScopeCommand, IsScopeMemberList, BeginsNoScope, PerhapsScope, IsFlagOrSetting, IsParam, IsDefaultsLine, IsIncludeLine, BeginsNoAliasIncludeOrDefaults, BeginsSpec, is_defaults, IsEnd, ReadsNodeWithRest, Reads}
use Rattle.sudoers_grammar.specs.Renamed.{member_with_alias_renamed, alias_offsets_in_member, members_with_alias_renamed, alias_offsets_in_members, scope_with_alias_renamed, alias_offsets_in_scope, node_with_alias_renamed, alias_offsets_in_node}
use Rattle.sudoers_grammar.proofs.RenamedPieces.{NameChange, alias_renaming_of_change, piece_with_moved_offsets, piece_with_new_name, AreTokensRenamedUpToRest, done, keep, swap, KeepsSecondTokenAdjacency, IsReadAfterRenaming, IsRuleKeptByRenaming, renaming_without_later_names_is_joined, renaming_of_equal_tokens_is_same, renaming_keeps_separated_rule, front_of_moved_tokens_is_kept, lists_without_names_are_read_again, no_offsets_of_value}
use Rattle.sudoers_grammar.proofs.RenamedMembers.{moved_signs_have_same_odd_count, moved_signs_are_signs, renaming_keeps_members}
use Rattle.sudoers_grammar.proofs.RenamedCommands.{renaming_keeps_command_member}
use Rattle.sudoers_grammar.proofs.RenamedDefs.{renaming_keeps_alias_line}
use Rattle.sudoers_grammar.proofs.RenamedSpecs.{renaming_keeps_user_specification}

-- ---- parameters

renaming_keeps_parameter_with_setting : (c : NameChange) (o : Option Setting) (ts rest left : List TokenWithBytes) (p : Param) → IsFlagOrSetting o ts p rest
    → IsReadAfterRenaming c (IsFlagOrSetting o) [] ts p rest left
unfolding operator_of_token
renaming_keeps_parameter_with_setting c None ts rest left p is = record {
  new = map (piece_with_moved_offsets c) is.signs ++ piece_with_moved_offsets c is.name ∷ left;
  is = record {
    signs = map (piece_with_moved_offsets c) is.signs;
    name = piece_with_moved_offsets c is.name;
    split = refl;
    are_signs = moved_signs_are_signs c is.signs is.are_signs;
    is_name = is.is_name;
    negated = is.negated ∙ sym (moved_signs_have_same_odd_count c is.signs);
    same_name = is.same_name;
  };
  renames = renaming_of_equal_tokens_is_same c [] ts (is.signs ++ is.name ∷ rest) rest (map (piece_with_moved_offsets c) is.signs ++ piece_with_moved_offsets c is.name ∷ left) left is.split
      (front_of_moved_tokens_is_kept c is.signs [] (is.name ∷ rest) rest (piece_with_moved_offsets c is.name ∷ left) left (keep [] is.name rest rest left left (done rest left)));
}
renaming_keeps_parameter_with_setting c (Some s) ts rest left p is = record {
  new = piece_with_moved_offsets c is.name ∷ piece_with_moved_offsets c is.operator ∷ piece_with_moved_offsets c is.value ∷ left;
  is = record {
    name = piece_with_moved_offsets c is.name;
    operator = piece_with_moved_offsets c is.operator;
    value = piece_with_moved_offsets c is.value;
    split = refl;
    is_name = is.is_name;
    is_operator = is.is_operator;
    is_value = is.is_value;
    not_negated = is.not_negated;
    same_name = is.same_name;
    same_value = is.same_value;
  };
  renames =
      renaming_of_equal_tokens_is_same c [] ts (is.name ∷ is.operator ∷ is.value ∷ rest) rest
      (piece_with_moved_offsets c is.name ∷ piece_with_moved_offsets c is.operator ∷ piece_with_moved_offsets c is.value ∷ left) left is.split
      (front_of_moved_tokens_is_kept c (is.name ∷ is.operator ∷ is.value ∷ []) [] rest rest left left (done rest left));
}

renaming_keeps_parameter : (c : NameChange) → IsRuleKeptByRenaming Param c IsParam (λ (p : Param). p) no_offsets_of_value
renaming_keeps_parameter c ts rest left p is =
    let all = renaming_keeps_parameter_with_setting c p.setting ts rest left p is in
    record { new = all.new; is = all.is; renames = all.renames }

renaming_keeps_parameters : (c : NameChange) → IsRuleKeptByRenaming (List Param) c (Separated 44 IsParam) (λ (ps : List Param). ps) (λ (ps : List Param). [])
renaming_keeps_parameters c = lists_without_names_are_read_again c (Separated 44 IsParam) (renaming_keeps_separated_rule c 44 IsParam (λ (p : Param). p) no_offsets_of_value (renaming_keeps_parameter c))

-- ---- scopes

renaming_keeps_scope_command : (c : NameChange) → IsDefinableName c.fresh
    → IsRuleKeptByRenaming Member c IsScopeCommand (member_with_alias_renamed (alias_renaming_of_change c) Cmnd) (alias_offsets_in_member c.old Cmnd)
renaming_keeps_scope_command c fresh ts rest left m is =
    let all = renaming_keeps_command_member c fresh ts rest left m is.1 in
    record { new = all.new; is = (is.0, all.is); renames = all.renames }

renaming_keeps_scope_list : (c : NameChange) (k : Kind) → IsDefinableName c.fresh
    → IsRuleKeptByRenaming (List Member) c (IsScopeMemberList k) (members_with_alias_renamed (alias_renaming_of_change c) k) (alias_offsets_in_members c.old k)
renaming_keeps_scope_list c User fresh = renaming_keeps_members c User fresh
renaming_keeps_scope_list c Runas fresh = renaming_keeps_members c Runas fresh
renaming_keeps_scope_list c Host fresh = renaming_keeps_members c Host fresh
renaming_keeps_scope_list c Cmnd fresh =
    renaming_keeps_separated_rule c 44 IsScopeCommand (member_with_alias_renamed (alias_renaming_of_change c) Cmnd) (alias_offsets_in_member c.old Cmnd) (renaming_keeps_scope_command c fresh)

moved_sign_tells_same_scope_kind : (c : NameChange) (stop : ℕ) (t : TokenWithBytes) → (c.at t.start == c.at stop) ≡ (t.start == stop)
    → scope_kind_of_sign_token_after (c.at stop) (piece_with_moved_offsets c t) ≡ scope_kind_of_sign_token_after stop t
unfolding scope_kind_of_sign_token_after
moved_sign_tells_same_scope_kind c stop t e = ap (λ (b : Bool). if is_punct t.kind && b then value_of_matching_row scope_kinds_by_sign t.text else None) e

renamed_word_is_no_scope_sign : (c : NameChange) (stop : ℕ) (t : TokenWithBytes) → t.kind ≡ kind.Word → scope_kind_of_sign_token_after stop (piece_with_new_name c t) ≡ None
unfolding scope_kind_of_sign_token_after
renamed_word_is_no_scope_sign c stop t word = ap (λ (k : TokenKind). if is_punct k && c.at t.start == stop then value_of_matching_row scope_kinds_by_sign c.fresh else None) word

-- The next token stands directly behind this place then, where it does so now.
abbrev StandsBehindAsBefore : NameChange → ℕ → List TokenWithBytes → Type 0
StandsBehindAsBefore c stop [] = Unit {0}
StandsBehindAsBefore c stop (t ∷ ts) = (c.at t.start == c.at stop) ≡ (t.start == stop)

renaming_keeps_no_scope_beginning : (c : NameChange) (stop : ℕ) (ps : List ℕ) (ts rest us left : List TokenWithBytes) → AreTokensRenamedUpToRest c ps ts rest us left
    → BeginsNoScope (c.at stop) left → StandsBehindAsBefore c stop ts → BeginsNoScope stop ts → BeginsNoScope (c.at stop) us
renaming_keeps_no_scope_beginning c stop ps ts rest us left (done a b) after follows is = after
renaming_keeps_no_scope_beginning c stop ps ts rest us left (keep places t a b x y r) after follows is = moved_sign_tells_same_scope_kind c stop t follows ∙ is
renaming_keeps_no_scope_beginning c stop ps ts rest us left (swap place places t a b x y k n p r) after follows is = renamed_word_is_no_scope_sign c (c.at stop) t k

next_token_kept_stands_behind_as_before : (c : NameChange) (t : TokenWithBytes) (ts : List TokenWithBytes) → KeepsSecondTokenAdjacency c (t ∷ ts) → StandsBehindAsBefore c t.stop ts
next_token_kept_stands_behind_as_before c t [] keeps = tt
next_token_kept_stands_behind_as_before c t (u ∷ ts) keeps = keeps

-- ---- Defaults

moved_defaults_word_is_defaults_word : (c : NameChange) (t : TokenWithBytes) → is_defaults t ≡ true → is_defaults (piece_with_moved_offsets c t) ≡ true
unfolding is_given_word
moved_defaults_word_is_defaults_word c t is = is

renaming_keeps_perhaps_scope : (c : NameChange) (stop : ℕ) (o : Option Scope) (ts mid rest us left : List TokenWithBytes) → IsDefinableName c.fresh → PerhapsScope stop ts o mid
    → BeginsNoScope (c.at stop) left → AreTokensRenamedUpToRest c [] mid rest us left
    → (new : List TokenWithBytes) × (StandsBehindAsBefore c stop ts → PerhapsScope (c.at stop) new (scope_with_alias_renamed (alias_renaming_of_change c) o) us)
    × AreTokensRenamedUpToRest c (alias_offsets_in_scope c.old o) ts rest new left
renaming_keeps_perhaps_scope c stop None ts mid rest us left fresh is after params =
    let there = renaming_of_equal_tokens_is_same c [] ts mid rest us left is.0 params in
    (us, λ follows. (refl, renaming_keeps_no_scope_beginning c stop [] ts rest us left there after follows is.1), there)
renaming_keeps_perhaps_scope c stop (Some s) ts mid rest us left fresh is after params =
    let members = renaming_keeps_scope_list c s.kind fresh is.behind mid us s.members is.members in
    let ps = alias_offsets_in_members c.old s.kind s.members in (
      piece_with_moved_offsets c is.sign ∷ members.new,
      λ follows. record {
        sign = piece_with_moved_offsets c is.sign;
        behind = members.new;
        split = refl;
        is_sign = moved_sign_tells_same_scope_kind c stop is.sign (subst (StandsBehindAsBefore c stop) is.split follows) ∙ is.is_sign;
        members = members.is;
      },
      renaming_of_equal_tokens_is_same c ps ts (is.sign ∷ is.behind) rest (piece_with_moved_offsets c is.sign ∷ members.new) left is.split
          (keep ps is.sign is.behind rest members.new left (renaming_without_later_names_is_joined c ps is.behind mid rest members.new us left members.renames params)),
    )

renaming_keeps_defaults_line : (c : NameChange) (o : Option Scope) (ps : List Param) (ts rest left : List TokenWithBytes) → IsDefinableName c.fresh
    → ((stop : ℕ) → BeginsNoScope stop left) → IsDefaultsLine ts o ps rest
    → (new : List TokenWithBytes) × (KeepsSecondTokenAdjacency c ts → IsDefaultsLine new (scope_with_alias_renamed (alias_renaming_of_change c) o) ps left)
    × AreTokensRenamedUpToRest c (alias_offsets_in_scope c.old o) ts rest new left
renaming_keeps_defaults_line c o ps ts rest left fresh after is =
    let params = renaming_keeps_parameters c is.behind_scope rest left ps is.params in
    let scope =
    renaming_keeps_perhaps_scope c is.word.stop o is.behind is.behind_scope rest params.new left fresh is.in_scope (after (c.at is.word.stop)) params.renames in (
      piece_with_moved_offsets c is.word ∷ scope.0,
      λ keeps. record {
        word = piece_with_moved_offsets c is.word;
        behind = scope.0;
        behind_scope = params.new;
        split = refl;
        is_word = moved_defaults_word_is_defaults_word c is.word is.is_word;
        in_scope = scope.1 (next_token_kept_stands_behind_as_before c is.word is.behind (subst (KeepsSecondTokenAdjacency c) is.split keeps));
        params = params.is;
      },
      renaming_of_equal_tokens_is_same c (alias_offsets_in_scope c.old o) ts (is.word ∷ is.behind) rest (piece_with_moved_offsets c is.word ∷ scope.0) left is.split
          (keep (alias_offsets_in_scope c.old o) is.word is.behind rest scope.0 left scope.2),
    )

-- ---- lines

renaming_keeps_include_line : (c : NameChange) (dir : Bool) (path : List ℕ) (ts rest left : List TokenWithBytes) → IsIncludeLine dir path ts rest
    → (us : List TokenWithBytes) × IsIncludeLine dir path us left × AreTokensRenamedUpToRest c [] ts rest us left
unfolding include_is_dir_of_token include_path_of_token
renaming_keeps_include_line c dir path ts rest left is = (
  piece_with_moved_offsets c is.word ∷ piece_with_moved_offsets c is.name ∷ left,
  record { word = piece_with_moved_offsets c is.word; name = piece_with_moved_offsets c is.name; split = refl; is_include = is.is_include; is_path = is.is_path },
  renaming_of_equal_tokens_is_same c [] ts (is.word ∷ is.name ∷ rest) rest (piece_with_moved_offsets c is.word ∷ piece_with_moved_offsets c is.name ∷ left) left is.split
      (front_of_moved_tokens_is_kept c (is.word ∷ is.name ∷ []) [] rest rest left left (done rest left)),
)

comment_test_tells_comment_kind : (k : TokenKind) → is_comment k ≡ true → k ≡ kind.Comment
comment_test_tells_comment_kind kind.Comment e = refl
comment_test_tells_comment_kind kind.Word e = absurd (cc)
comment_test_tells_comment_kind kind.Path e = absurd (cc)
comment_test_tells_comment_kind kind.Quoted e = absurd (cc)
comment_test_tells_comment_kind kind.Id e = absurd (cc)
comment_test_tells_comment_kind kind.Punct e = absurd (cc)
comment_test_tells_comment_kind kind.Arg e = absurd (cc)
comment_test_tells_comment_kind kind.Digest e = absurd (cc)
comment_test_tells_comment_kind kind.Name e = absurd (cc)
comment_test_tells_comment_kind kind.Value e = absurd (cc)
comment_test_tells_comment_kind kind.Bad e = absurd (cc)

comment_token_begins_no_specification : (t : TokenWithBytes) → t.kind ≡ kind.Comment → BeginsNoAliasIncludeOrDefaults t
unfolding alias_kind_of_token include_is_dir_of_token is_given_word
comment_token_begins_no_specification t e = record {
  no_kind = ap (λ (k : TokenKind). if is_word k then value_of_matching_row alias_kinds_by_keyword t.text else None) e;
  no_include = ap (λ (k : TokenKind). if is_word k then value_of_matching_row include_is_dir_by_word t.text else None) e;
  no_defaults = ap (λ (k : TokenKind). is_word k && bytes_eq t.text (codes "Defaults")) e;
}

comment_token_is_no_scope_sign : (t : TokenWithBytes) (stop : ℕ) → t.kind ≡ kind.Comment → scope_kind_of_sign_token_after stop t ≡ None
unfolding scope_kind_of_sign_token_after
comment_token_is_no_scope_sign t stop e = ap (λ (k : TokenKind). if is_punct k && t.start == stop then value_of_matching_row scope_kinds_by_sign t.text else None) e

moved_line_end_begins_specification : (c : NameChange) (rest : List TokenWithBytes) → IsEnd rest → BeginsSpec (map (piece_with_moved_offsets c) rest)
moved_line_end_begins_specification c [] is = tt
moved_line_end_begins_specification c (t ∷ []) is = comment_token_begins_no_specification (piece_with_moved_offsets c t) (comment_test_tells_comment_kind t.kind is)
moved_line_end_begins_specification c (t ∷ u ∷ ts) is = absurd is

moved_line_end_begins_no_scope : (c : NameChange) (rest : List TokenWithBytes) (stop : ℕ) → IsEnd rest → BeginsNoScope stop (map (piece_with_moved_offsets c) rest)
moved_line_end_begins_no_scope c [] stop is = tt
moved_line_end_begins_no_scope c (t ∷ []) stop is = comment_token_is_no_scope_sign (piece_with_moved_offsets c t) stop (comment_test_tells_comment_kind t.kind is)
moved_line_end_begins_no_scope c (t ∷ u ∷ ts) stop is = absurd is

moved_line_end_is_line_end : (c : NameChange) (rest : List TokenWithBytes) → IsEnd rest → IsEnd (map (piece_with_moved_offsets c) rest)
moved_line_end_is_line_end c [] is = tt
moved_line_end_is_line_end c (t ∷ []) is = is
moved_line_end_is_line_end c (t ∷ u ∷ ts) is = absurd is

moved_tokens_are_renamed_without_names : (c : NameChange) (rest : List TokenWithBytes) → AreTokensRenamedUpToRest c [] rest [] (map (piece_with_moved_offsets c) rest) []
moved_tokens_are_renamed_without_names c [] = done [] []
moved_tokens_are_renamed_without_names c (t ∷ rest) = keep [] t rest [] (map (piece_with_moved_offsets c) rest) [] (moved_tokens_are_renamed_without_names c rest)

moved_empty_rest_is_empty : (c : NameChange) (rest : List TokenWithBytes) → rest ≡ [] → map (piece_with_moved_offsets c) rest ≡ []
moved_empty_rest_is_empty c rest e = ap (map (piece_with_moved_offsets c)) e

-- what is said up to what is left
record IsNodeRenamedUpToRest (c : NameChange) (n : Node) (ts rest : List TokenWithBytes) : Type 0 where
  new : List TokenWithBytes
  says : KeepsSecondTokenAdjacency c ts → ReadsNodeWithRest new (node_with_alias_renamed (alias_renaming_of_change c) n) (map (piece_with_moved_offsets c) rest)
  renames : AreTokensRenamedUpToRest c (alias_offsets_in_node c.old n) ts rest new (map (piece_with_moved_offsets c) rest)

renaming_keeps_node_up_to_rest : (c : NameChange) (n : Node) (ts rest : List TokenWithBytes) → IsDefinableName c.fresh → IsEnd rest → ReadsNodeWithRest ts n rest → IsNodeRenamedUpToRest c n ts rest
renaming_keeps_node_up_to_rest c node.Blank ts rest fresh ends is = record {
  new = [];
  says = λ keeps. (refl, moved_empty_rest_is_empty c rest is.1);
  renames = subst (λ (x : List TokenWithBytes). AreTokensRenamedUpToRest c [] ts x [] (map (piece_with_moved_offsets c) x)) (sym is.1) (renaming_of_equal_tokens_is_same c [] ts [] [] [] [] is.0 (done [] []));
}
renaming_keeps_node_up_to_rest c node.Comment ts rest fresh ends is = record {
  new = piece_with_moved_offsets c is.0 ∷ [];
  says = λ keeps. (piece_with_moved_offsets c is.0, refl, is.2, moved_empty_rest_is_empty c rest is.3);
  renames =
      subst (λ (x : List TokenWithBytes). AreTokensRenamedUpToRest c [] ts x (piece_with_moved_offsets c is.0 ∷ []) (map (piece_with_moved_offsets c) x)) (sym is.3)
      (renaming_of_equal_tokens_is_same c [] ts (is.0 ∷ []) [] (piece_with_moved_offsets c is.0 ∷ []) [] is.1 (keep [] is.0 [] [] [] [] (done [] [])));
}
renaming_keeps_node_up_to_rest c (node.Include dir path) ts rest fresh ends is =
    let all = renaming_keeps_include_line c dir path ts rest (map (piece_with_moved_offsets c) rest) is in
    record { new = all.0; says = λ keeps. all.1; renames = all.2 }
renaming_keeps_node_up_to_rest c (node.Defaults scope params) ts rest fresh ends is =
    let all = renaming_keeps_defaults_line c scope params ts rest (map (piece_with_moved_offsets c) rest) fresh (λ stop. moved_line_end_begins_no_scope c rest stop ends) is in
    record { new = all.0; says = all.1; renames = all.2 }
renaming_keeps_node_up_to_rest c (node.Alias k defs) ts rest fresh ends is =
    let all = renaming_keeps_alias_line c k fresh ts rest (map (piece_with_moved_offsets c) rest) defs is in
    record { new = all.new; says = λ keeps. all.is; renames = all.renames }
renaming_keeps_node_up_to_rest c (node.Spec users groups) ts rest fresh ends is =
    let all = renaming_keeps_user_specification c ts rest (map (piece_with_moved_offsets c) rest) users groups fresh (moved_line_end_begins_specification c rest ends) is in
    record { new = all.0; says = λ keeps. all.1; renames = all.2 }

-- A line is read again, renamed.
pub renamed_tokens_read_as_renamed_node : (c : NameChange) (ts : List TokenWithBytes) (n : Node) → IsDefinableName c.fresh → Reads ts n
    → (us : List TokenWithBytes) × (KeepsSecondTokenAdjacency c ts → Reads us (node_with_alias_renamed (alias_renaming_of_change c) n)) × AreTokensRenamedUpToRest c (alias_offsets_in_node c.old n) ts [] us []
renamed_tokens_read_as_renamed_node c ts n fresh is =
    let all = renaming_keeps_node_up_to_rest c n ts is.0 fresh is.2 is.1 in (
      all.new,
      λ keeps. (map (piece_with_moved_offsets c) is.0, all.says keeps, moved_line_end_is_line_end c is.0 is.2),
      renaming_without_later_names_is_joined c (alias_offsets_in_node c.old n) ts is.0 [] all.new (map (piece_with_moved_offsets c) is.0) [] all.renames (moved_tokens_are_renamed_without_names c is.0),
    )
