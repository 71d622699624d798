-- A Defaults line as it is written is read as this line.
use Rattle.laws_print.proofs.Common.{◌≡◌, ℕ, Bool, true, false, ◌&&◌, List, [], ◌∷◌, ◌++◌, length, Some, None, refl, sym, ap, ◌∙◌, append-nil}
use Rattle.laws_print.proofs.Common.{nat_lt, if◌then◌else◌, Option, AllByRecursion, list_all, and_parts, Quoted, value_of_remaining_bytes, value_of_word, Kind, User}
use Rattle.laws_print.proofs.Common.{Runas, Cmnd, Member, Setting, Param, Scope, TokenWithBytes, is_parameter_name_kind, value_of_matching_row, IsFlagOrSetting, IsParam, IsScopeMemberList}
use Rattle.laws_print.proofs.Common.{PerhapsScope, Many, MarkThenRule, Separated, stop_of_last_token, start_of_first_token, ReadsScopeCommand, defaults_operator_mark, is_byte_without_quotes}
use Rattle.laws_print.proofs.Common.{is_value_without_quotes, is_quotable_value, IsNonEmptyListOf, IsScopeCommandMember, IsWritableScopeMember, IsWritableScope, IsSettingAllowedIfNegated, IsWritableParam}
use Rattle.laws_print.proofs.Common.{MemberIsReadBackAs, AreItemsPairwiseRelated, ScopeIsReadBackAs, WrittenToken, text_of_units, AreTokensShownBy, units_of_spelled_word}
use Rattle.sudoers_text.specs.declared.token.TokenKind.TheVariants as kind
use Rattle.sudoers_grammar.specs.declared.node.Kind.TheVariants.{Host}
use Rattle.sudoers_grammar.specs.declared.node.Operator.{Operator}
use Rattle.sudoers_grammar.specs.declared.node.Operator.TheVariants as operator
use Rattle.sudoers_grammar.specs.Piece.{is_punct, is_value, operator_of_token, scope_kinds_by_sign, scope_kind_of_sign_token_after}
use Rattle.sudoers_grammar.specs.Grammar.{IsFlag, IsSetting}
use Rattle.laws_print.proofs.Units.{units_of_plain_bytes}
use Rattle.laws_print.proofs.CommandTokens.{tokens_of_signed_command}
use Rattle.laws_print.proofs.DefaultsTokens.{units_of_parameter_value, tokens_of_parameter_parts, tokens_of_further_parameters, tokens_of_parameters, mark_byte_of_scope_kind, tokens_of_scope_list, tokens_of_scope, scope_command_atom_is_writable}
use Rattle.laws_print.proofs.DefaultsTokens.{tokens_of_scope_command}
use Rattle.laws_print.proofs.Shown.{punctuation_of_byte_is_its_mark}
use Rattle.laws_print.proofs.Values.{value_of_word_units_is_word}
use Rattle.laws_print.proofs.Users.{text_of_plain_units_is_bytes}
use Rattle.laws_print.proofs.ReadLists.{member_list_is_read_back}
use Rattle.laws_print.proofs.ReadCommandLists.{ReadsBeforeTail, writable_command_atom_reads_back_as_itself, signed_command_is_read_back}
use Rattle.laws_print.proofs.ParamCuts.{is_byte_plain_in_quotes, byte_test_implies_plain_in_quotes}
use Rattle.laws_print.proofs.Words.{passing_byte_differs_from_failing_byte}
use Rattle.laws_print.proofs.Many.{ReadsAsSameThing, many_read}

-- ---- values

value_of_bytes_without_quotes_is_itself : (value : List ℕ) → list_all is_byte_without_quotes value ≡ true → value_of_remaining_bytes 0 false value ≡ value
value_of_bytes_without_quotes_is_itself [] all = refl
value_of_bytes_without_quotes_is_itself (b ∷ value) all =
    let parts = and_parts (is_byte_without_quotes b) (list_all is_byte_without_quotes value) all in
    rw (passing_byte_differs_from_failing_byte is_byte_without_quotes 34 b parts.0 refl, passing_byte_differs_from_failing_byte is_byte_without_quotes 92 b parts.0 refl) (ap (λ (t : List ℕ). b ∷ t) (value_of_bytes_without_quotes_is_itself value parts.1))

value_of_quoted_bytes_is_read_back : (value : List ℕ) → list_all is_byte_plain_in_quotes value ≡ true → value_of_remaining_bytes 0 true (value ++ 34 ∷ []) ≡ value
value_of_quoted_bytes_is_read_back [] all = refl
value_of_quoted_bytes_is_read_back (b ∷ value) all =
    let parts = and_parts (is_byte_plain_in_quotes b) (list_all is_byte_plain_in_quotes value) all in
    let is = byte_test_implies_plain_in_quotes b parts.0 in
    rw (is.quote, is.backslash) (ap (λ (t : List ℕ). b ∷ t) (value_of_quoted_bytes_is_read_back value parts.1))

value_without_quotes_is_such_bytes : (value : List ℕ) → is_value_without_quotes value ≡ true → list_all is_byte_without_quotes value ≡ true
value_without_quotes_is_such_bytes [] is = absurd (cc)
value_without_quotes_is_such_bytes (b ∷ value) is = (and_parts (nat_lt 0 (length (b ∷ value))) (list_all is_byte_without_quotes (b ∷ value)) is).1

parameter_value_is_read_back : (value : List ℕ) → value_of_word (text_of_units (units_of_parameter_value value)) ≡ value
unfolding value_of_word
parameter_value_is_read_back value = by_plain (is_value_without_quotes value) refl
  where
    by_quotes : (t : Bool) → is_quotable_value value ≡ t → value_of_remaining_bytes 0 false (text_of_units (if t then Quoted (value ++ 34 ∷ []) ∷ [] else units_of_spelled_word value)) ≡ value
    by_quotes true e = ap (value_of_remaining_bytes 0 false) (append-nil (34 ∷ (value ++ 34 ∷ []))) ∙ value_of_quoted_bytes_is_read_back value e
    by_quotes false e = value_of_word_units_is_word value

    by_plain : (t : Bool) → is_value_without_quotes value ≡ t → value_of_remaining_bytes 0 false (text_of_units (if t then units_of_plain_bytes value else (if is_quotable_value value then Quoted (value ++ 34 ∷ []) ∷ [] else units_of_spelled_word value))) ≡ value
    by_plain true e = ap (value_of_remaining_bytes 0 false) (text_of_plain_units_is_bytes value) ∙ value_of_bytes_without_quotes_is_itself value (value_without_quotes_is_such_bytes value e)
    by_plain false e = by_quotes (is_quotable_value value) refl

operator_token_is_read_back : (o : Operator) (t : TokenWithBytes) → t.kind ≡ kind.Punct → t.text ≡ text_of_units (units_of_plain_bytes (defaults_operator_mark o)) → operator_of_token t ≡ Some o
unfolding operator_of_token
operator_token_is_read_back operator.Set t k text = rw (k, text) refl
operator_token_is_read_back o t k text = rw (k, text) refl

-- ---- parameters

flag_parameter_is_read_back : (spaced negated : Bool) (p : Param) (tail : List WrittenToken) (ts : List TokenWithBytes) → negated ≡ p.negated → AreTokensShownBy (tokens_of_parameter_parts spaced negated p.name None tail) ts → ReadsBeforeTail (λ us rest. IsFlag us p rest) ts tail
flag_parameter_is_read_back spaced false p tail [] same shows = absurd shows
flag_parameter_is_read_back spaced false p tail (n ∷ ts) same shows = record {
  rest = ts;
  is = record { signs = []; name = n; split = refl; are_signs = tt; is_name = ap is_parameter_name_kind shows.0; negated = sym same; same_name = sym (shows.1 ∙ text_of_plain_units_is_bytes p.name) };
  behind = shows.2;
}
flag_parameter_is_read_back spaced true p tail [] same shows = absurd shows
flag_parameter_is_read_back spaced true p tail (s ∷ []) same shows = absurd shows.2
flag_parameter_is_read_back spaced true p tail (s ∷ n ∷ ts) same shows = record {
  rest = ts;
  is = record { signs = s ∷ []; name = n; split = refl; are_signs = (punctuation_of_byte_is_its_mark 33 s shows.0 shows.1, tt); is_name = ap is_parameter_name_kind shows.2.0; negated = sym same; same_name = sym (shows.2.1 ∙ text_of_plain_units_is_bytes p.name) };
  behind = shows.2.2;
}

setting_parameter_is_read_back : (spaced negated : Bool) (p : Param) (s : Setting) (tail : List WrittenToken) (ts : List TokenWithBytes) → negated ≡ false → p.negated ≡ false → AreTokensShownBy (tokens_of_parameter_parts spaced negated p.name (Some s) tail) ts → ReadsBeforeTail (λ us rest. IsSetting us p s rest) ts tail
setting_parameter_is_read_back spaced true p s tail ts off none shows = absurd (cc)
setting_parameter_is_read_back spaced false p s tail [] off none shows = absurd shows
setting_parameter_is_read_back spaced false p s tail (n ∷ []) off none shows = absurd shows.2
setting_parameter_is_read_back spaced false p s tail (n ∷ o ∷ []) off none shows = absurd shows.2.2
setting_parameter_is_read_back spaced false p s tail (n ∷ o ∷ v ∷ ts) off none shows = record {
  rest = ts;
  is = record {
    name = n;
    operator = o;
    value = v;
    split = refl;
    is_name = ap is_parameter_name_kind shows.0;
    is_operator = operator_token_is_read_back s.operator o shows.2.0 shows.2.1;
    is_value = ap is_value shows.2.2.0;
    not_negated = none;
    same_name = sym (shows.1 ∙ text_of_plain_units_is_bytes p.name);
    same_value = sym (ap value_of_word shows.2.2.1 ∙ parameter_value_is_read_back s.value);
  };
  behind = shows.2.2.2;
}

parameter_with_setting_is_read_back : (spaced : Bool) (p : Param) (s : Option Setting) (tail : List WrittenToken) (ts : List TokenWithBytes) → IsSettingAllowedIfNegated p.negated s → AreTokensShownBy (tokens_of_parameter_parts spaced p.negated p.name s tail) ts → ReadsBeforeTail (λ us rest. IsFlagOrSetting s us p rest) ts tail
parameter_with_setting_is_read_back spaced p None tail ts is shows = flag_parameter_is_read_back spaced p.negated p tail ts refl shows
parameter_with_setting_is_read_back spaced p (Some s) tail ts is shows = setting_parameter_is_read_back spaced p.negated p s tail ts is is shows

writable_parameter_is_read_back : (spaced : Bool) (p : Param) (tail : List WrittenToken) (ts : List TokenWithBytes) → IsWritableParam p → AreTokensShownBy (tokens_of_parameter_parts spaced p.negated p.name p.setting tail) ts → ReadsBeforeTail (λ us rest. IsParam us p rest) ts tail
writable_parameter_is_read_back spaced p tail ts is shows = parameter_with_setting_is_read_back spaced p p.setting tail ts is.setting shows

further_parameters_are_read_back : (ps : List Param) (ts : List TokenWithBytes) → AllByRecursion IsWritableParam ps → AreTokensShownBy (tokens_of_further_parameters ps) ts → ReadsBeforeTail (λ us rest. Many (MarkThenRule 44 IsParam) us ps rest) ts []
further_parameters_are_read_back [] ts all shows = record { rest = ts; is = refl; behind = shows }
further_parameters_are_read_back (p ∷ ps) [] all shows = absurd shows
further_parameters_are_read_back (p ∷ ps) (t ∷ ts) all shows =
    let one = writable_parameter_is_read_back true p (tokens_of_further_parameters ps) ts all.0 shows.2 in
    let more = further_parameters_are_read_back ps one.rest all.1 one.behind in
    record { rest = more.rest; is = (one.rest, record { mark = t; behind = ts; split = refl; is_mark = punctuation_of_byte_is_its_mark 44 t shows.0 shows.1; is = one.is }, more.is); behind = more.behind }

pub parameter_list_is_read_back : (ps : List Param) (ts : List TokenWithBytes) → IsNonEmptyListOf IsWritableParam ps → AreTokensShownBy (tokens_of_parameters ps) ts → ReadsBeforeTail (λ us rest. Separated 44 IsParam us ps rest) ts []
parameter_list_is_read_back [] ts all shows = absurd all
parameter_list_is_read_back (p ∷ ps) ts all shows =
    let one = writable_parameter_is_read_back true p (tokens_of_further_parameters ps) ts all.0 shows in
    let more = further_parameters_are_read_back ps one.rest all.1 one.behind in
    record { rest = more.rest; is = (one.rest, one.is, more.is); behind = more.behind }

-- ---- scopes

scope_command_is_read_back : (spaced : Bool) (m : Member) (tail : List WrittenToken) (ts : List TokenWithBytes) → IsScopeCommandMember m → AreTokensShownBy (tokens_of_signed_command spaced m.negated m.atom tail) ts → ReadsAsSameThing ReadsScopeCommand MemberIsReadBackAs ts m tail
scope_command_is_read_back spaced m tail ts is shows =
    let atom = scope_command_atom_is_writable m.atom is.is in
    let one = signed_command_is_read_back spaced m.negated m.atom tail ts atom shows in
    record {
      thing = record { start = start_of_first_token ts; stop = stop_of_last_token one.word one.args; negated = m.negated; digests = []; atom = m.atom };
      rest = one.rest;
      is = (
        refl,
        record {
          behind = ts;
          digests = refl;
          signs = one.signs;
          word = one.word;
          args = one.args;
          split = one.split;
          are_signs = one.are_signs;
          are_args = one.are_args;
          atom = one.atom;
          suits = tt;
          negated = one.negates;
          start = refl;
          stop = refl;
        },
      );
      alike = record { negated = refl; digests = is.no_digests; atom = writable_command_atom_reads_back_as_itself m.atom atom };
      behind = one.behind;
    }

scope_list_is_read_back : (k : Kind) (ms : List Member) (tail : List WrittenToken) (ts : List TokenWithBytes) → IsNonEmptyListOf (IsWritableScopeMember k) ms → AreTokensShownBy (tokens_of_scope_list k ms tail) ts → ReadsAsSameThing (IsScopeMemberList k) (AreItemsPairwiseRelated MemberIsReadBackAs) ts ms tail
scope_list_is_read_back User = member_list_is_read_back User false false
scope_list_is_read_back Runas = member_list_is_read_back Runas false false
scope_list_is_read_back Host = member_list_is_read_back Host false false
scope_list_is_read_back Cmnd =
    many_read 44 false ReadsScopeCommand MemberIsReadBackAs IsScopeCommandMember (tokens_of_scope_command true) (scope_command_is_read_back true) (tokens_of_scope_command false) (scope_command_is_read_back false)

scope_mark_is_read_back : (k : Kind) (t : TokenWithBytes) → t.kind ≡ kind.Punct → t.text ≡ mark_byte_of_scope_kind k ∷ [] → t.start ≡ 8 → scope_kind_of_sign_token_after 8 t ≡ Some k
unfolding scope_kind_of_sign_token_after
scope_mark_is_read_back User t k text start = rw (k, text, start) refl
scope_mark_is_read_back n t k text start = rw (k, text, start) refl

choice_by_false_conjunction_is_none : (x : Bool) (t : TokenWithBytes) → (if x && false then value_of_matching_row scope_kinds_by_sign t.text else None) ≡ None
choice_by_false_conjunction_is_none true t = refl
choice_by_false_conjunction_is_none false t = refl

-- behind a blank stands no scope
token_behind_blank_is_no_scope_mark : (t : TokenWithBytes) → t.start ≡ 9 → scope_kind_of_sign_token_after 8 t ≡ None
unfolding scope_kind_of_sign_token_after
token_behind_blank_is_no_scope_mark t start = rw start (choice_by_false_conjunction_is_none (is_punct t.kind) t)

-- a scope and what is behind it, as they are read
pub record ReadsAsScopeBeforeTail (ts : List TokenWithBytes) (scope : Option Scope) (tail : List WrittenToken) : Type 0 where
  pub read : Option Scope
  pub rest : List TokenWithBytes
  pub is : PerhapsScope 8 ts read rest
  pub same : ScopeIsReadBackAs scope read
  pub behind : AreTokensShownBy tail rest

-- where the first of some tokens begins, by whether it is a scope's sign
abbrev pub IsFirstTokenPlacedByScope : Option Scope → List TokenWithBytes → Type 0
IsFirstTokenPlacedByScope scope [] = Unit {0}
IsFirstTokenPlacedByScope None (t ∷ ts) = t.start ≡ 9
IsFirstTokenPlacedByScope (Some s) (t ∷ ts) = t.start ≡ 8

pub scope_is_read_back : (scope : Option Scope) (tail : List WrittenToken) (ts : List TokenWithBytes) → IsWritableScope scope → IsFirstTokenPlacedByScope scope ts → AreTokensShownBy (tokens_of_scope scope tail) ts → ReadsAsScopeBeforeTail ts scope tail
scope_is_read_back None tail [] is starts shows = record { read = None; rest = []; is = (refl, tt); same = tt; behind = shows }
scope_is_read_back None tail (t ∷ ts) is starts shows = record { read = None; rest = t ∷ ts; is = (refl, token_behind_blank_is_no_scope_mark t starts); same = tt; behind = shows }
scope_is_read_back (Some s) tail [] is starts shows = absurd shows
scope_is_read_back (Some s) tail (t ∷ ts) is starts shows =
    let list = scope_list_is_read_back s.kind s.members tail ts is shows.2 in
    record {
      read = Some (record { kind = s.kind; members = list.thing });
      rest = list.rest;
      is = record { sign = t; behind = ts; split = refl; is_sign = scope_mark_is_read_back s.kind t shows.0 shows.1 starts; members = list.is };
      same = (refl, list.alike);
      behind = list.behind;
    }
