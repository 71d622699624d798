-- The word `Defaults` and a scope as they are written are tokens of the line.
use Rattle.laws_print.proofs.Common.{◌≡◌, ℕ, Bool, true, false, ◌||◌, List, [], ◌∷◌, ◌++◌, take, Some, None, refl, sym, ap, subst, arith, ◌==◌}
use Rattle.laws_print.proofs.Common.{if◌then◌else◌, nat_lt, Option, codes, AllByRecursion, TokenContext, ScopeNamesOrCommands, LineUnit, Byte, bytes_of_units_after_leading_gap, defaults_word}
use Rattle.laws_print.proofs.Common.{leading_run_size, is_path_byte, is_word_byte, is_byte_of_include_path, TokenKind, has_host_or_runas_sign, bytes_eq, context_after_token, token_forms_in_context}
use Rattle.laws_print.proofs.Common.{token_forms_of_parameters, is_among, line_mode, kind_and_size_of_token, hash_include_size_at, units_with_those_of_bytes, Kind, User, Runas, Cmnd, Args, Atom, Member}
use Rattle.laws_print.proofs.Common.{Scope, Param, IsNonEmptyListOf, IsScopeCommandAtom, IsScopeCommandMember, IsWritableScopeMember, IsWritableScope, IsWritableParam, WrittenToken, text_of_units}
use Rattle.laws_print.proofs.Common.{line_of_written_tokens, TokenPlace, At, Start, BehindDefaults, AllowsIdBehindUnits, StandsAtPlace, units_put_onto, IsTokenCut, AreTokensCut, AreTokensCutFromPlace}
use Rattle.sudoers_text.specs.declared.part.ByteRunKind.TheVariants as rule
use Rattle.sudoers_text.specs.declared.token.TokenKind.TheVariants as kind
use Rattle.sudoers_text.specs.declared.token.Mode.TheVariants as mode
use Rattle.sudoers_text.specs.declared.context.TokenContext.TheVariants as context
use Rattle.sudoers_text.specs.declared.context.ScopeNamesOrCommands.TheVariants as scope
use Rattle.sudoers_text.specs.Piece.{defaults_or_at_include_word_size}
use Rattle.sudoers_text.specs.Word.{at_include_words}
use Rattle.sudoers_grammar.specs.declared.node.Kind.TheVariants.{Host}
use Rattle.sudoers_grammar.specs.declared.node.Atom.TheVariants as atom
use Rattle.laws_print.proofs.Written.{IsTokenCutFromPlace}
use Rattle.laws_print.proofs.Units.{units_of_plain_bytes}
use Rattle.laws_print.proofs.ListTokens.{token_of_mark, token_of_plain_word}
use Rattle.laws_print.proofs.CommandTokens.{token_of_path, tokens_of_arguments, tokens_of_command_atom, tokens_of_signed_command}
use Rattle.laws_print.proofs.DefaultsTokens.{mark_byte_of_scope_kind, tokens_of_further_scope_commands, tokens_of_scope_list, tokens_of_scope, tokens_of_defaults_line, tokens_of_parameters}
use Rattle.laws_print.proofs.Lines.{cut_tokens_are_cut_from_place}
use Rattle.laws_print.proofs.Words.{plain_byte_stands_as_unit, size_of_matching_byte_or_pair, text_of_units_is_closed, units_stand_in_text, plain_byte_begins_token, plain_test_byte_is_plain, bytes_passing_test_are_units_of_it, text_of_units_has_no_nul}
use Rattle.laws_print.proofs.Cuts.{EndsWord}
use Rattle.laws_print.proofs.UserCuts.{EndsUser, found_punctuation_is_cut}
use Rattle.laws_print.proofs.ListCuts.{scope_context_is_list_context, member_list_before_tail_is_cut}
use Rattle.laws_print.proofs.CommandCuts.{path_pattern_is_cut_as_path, word_end_by_percent_is_word_end, literal_there, mark_there, alias_there, is_literal_word}
use Rattle.laws_print.proofs.ParamLists.{context_behind_scope_member_takes_parameters, parameter_context_is_one, parameter_list_is_cut, text_of_parameters_begins_with_blank}

-- ---- commands of a scope

-- What follows a member of a scope.
pub record IsCutBehindScopeMember (list : ScopeNamesOrCommands) (tail : List WrittenToken) : Type 0 where
  pub cut : AreTokensCut (context.BehindMember list) false tail
  pub user : EndsUser (line_of_written_tokens tail)
  pub word : EndsWord true (line_of_written_tokens tail)
  pub path : size_of_matching_byte_or_pair is_path_byte (line_of_written_tokens tail) ≡ 0

literal_word_in_scope_is_cut : (item : Bool) (text : List ℕ) (tail : List WrittenToken) → is_literal_word text ≡ true → IsCutBehindScopeMember scope.Commands tail → IsTokenCut (context.Scope scope.Commands) item false kind.Word (units_of_plain_bytes text) (line_of_written_tokens tail)
literal_word_in_scope_is_cut item text tail is ends = literal_there (context.Scope scope.Commands) refl item text (line_of_written_tokens tail) is (word_end_by_percent_is_word_end false (line_of_written_tokens tail) ends.word)

scope_command_atom_before_tail_is_cut : (spaced item : Bool) (a : Atom) (tail : List WrittenToken) → IsScopeCommandAtom a → IsCutBehindScopeMember scope.Commands tail → AreTokensCut (context.Scope scope.Commands) item (tokens_of_command_atom spaced a tail)
scope_command_atom_before_tail_is_cut spaced item atom.All tail is ends = (false, literal_word_in_scope_is_cut item (codes "ALL") tail refl ends, ends.cut)
scope_command_atom_before_tail_is_cut spaced item (atom.Alias name) tail is ends = (false, alias_there (context.Scope scope.Commands) refl item name (line_of_written_tokens tail) is.0 ends.word, ends.cut)
scope_command_atom_before_tail_is_cut spaced item atom.Listing tail is ends = (false, literal_word_in_scope_is_cut item (codes "list") tail refl ends, ends.cut)
scope_command_atom_before_tail_is_cut spaced item (atom.Path path args) tail is ends =
    subst (λ (x : Args). AreTokensCut (context.Scope scope.Commands) item (token_of_path spaced path ∷ tokens_of_arguments x tail)) (sym is.1)
    (false, path_pattern_is_cut_as_path (context.Scope scope.Commands) path (line_of_written_tokens tail) item refl is.0.0 is.0.1 ends.path, ends.cut)
scope_command_atom_before_tail_is_cut spaced item (atom.Sudoedit args) tail is ends =
    subst (λ (x : Args). AreTokensCut (context.Scope scope.Commands) item (token_of_plain_word (codes "sudoedit") spaced ∷ tokens_of_arguments x tail)) (sym is)
    (false, literal_word_in_scope_is_cut item (codes "sudoedit") tail refl ends, ends.cut)
scope_command_atom_before_tail_is_cut spaced item a tail is ends = absurd is

signed_scope_command_before_tail_is_cut : (spaced item negated : Bool) (a : Atom) (tail : List WrittenToken) → IsScopeCommandAtom a → IsCutBehindScopeMember scope.Commands tail → AreTokensCut (context.Scope scope.Commands) item (tokens_of_signed_command spaced negated a tail)
signed_scope_command_before_tail_is_cut spaced item false a tail is ends = scope_command_atom_before_tail_is_cut spaced item a tail is ends
signed_scope_command_before_tail_is_cut spaced item true a tail is ends = (item, mark_there (context.Scope scope.Commands) refl item item 33 (line_of_written_tokens (tokens_of_command_atom false a tail)) refl refl (λ before begins. begins), scope_command_atom_before_tail_is_cut false item a tail is ends)

further_scope_commands_are_cut : (ms : List Member) (tail : List WrittenToken) → AllByRecursion IsScopeCommandMember ms → IsCutBehindScopeMember scope.Commands tail → IsCutBehindScopeMember scope.Commands (tokens_of_further_scope_commands ms tail)
further_scope_commands_are_cut [] tail all ends = ends
further_scope_commands_are_cut (m ∷ ms) tail all ends =
    let next = tokens_of_signed_command true m.negated m.atom (tokens_of_further_scope_commands ms tail) in
    record {
      cut = (
        true,
        found_punctuation_is_cut (context.BehindMember scope.Commands) false true 44 (line_of_written_tokens next) (λ i first. refl) refl (λ before begins none. refl),
        signed_scope_command_before_tail_is_cut true true m.negated m.atom (tokens_of_further_scope_commands ms tail) all.0.is (further_scope_commands_are_cut ms tail all.1 ends),
      );
      user = record { word = refl; hash = refl; colon = refl; digit = refl };
      word = record { ends = refl; apart = λ h. (refl, refl) };
      path = refl;
    }

-- ---- scopes

-- the list of a scope, and the place behind its sign
abbrev pub member_kind_of_scope_list : Kind → ScopeNamesOrCommands
member_kind_of_scope_list Cmnd = scope.Commands
member_kind_of_scope_list k = scope.Names

abbrev pub is_id_allowed_behind_scope_mark : Kind → Bool
is_id_allowed_behind_scope_mark User = true
is_id_allowed_behind_scope_mark Runas = true
is_id_allowed_behind_scope_mark Host = false
is_id_allowed_behind_scope_mark Cmnd = false

scope_list_before_tail_is_cut : (k : Kind) (ms : List Member) (tail : List WrittenToken) → IsNonEmptyListOf (IsWritableScopeMember k) ms → IsCutBehindScopeMember (member_kind_of_scope_list k) tail → AreTokensCut (context.Scope (member_kind_of_scope_list k)) (is_id_allowed_behind_scope_mark k) (tokens_of_scope_list k ms tail)
scope_list_before_tail_is_cut User ms tail all ends = member_list_before_tail_is_cut User (context.Scope scope.Names) (context.BehindMember scope.Names) scope_context_is_list_context true false false ms tail all refl ends.user ends.cut
scope_list_before_tail_is_cut Runas ms tail all ends = member_list_before_tail_is_cut Runas (context.Scope scope.Names) (context.BehindMember scope.Names) scope_context_is_list_context true false false ms tail all refl ends.user ends.cut
scope_list_before_tail_is_cut Host ms tail all ends = member_list_before_tail_is_cut Host (context.Scope scope.Names) (context.BehindMember scope.Names) scope_context_is_list_context false false false ms tail all tt ends.user ends.cut
scope_list_before_tail_is_cut Cmnd [] tail all ends = absurd all
scope_list_before_tail_is_cut Cmnd (m ∷ ms) tail all ends = signed_scope_command_before_tail_is_cut false false m.negated m.atom (tokens_of_further_scope_commands ms tail) all.0.is (further_scope_commands_are_cut ms tail all.1 ends)

-- the sign of a scope behind `Defaults`
scope_sign_behind_defaults_is_cut : (b : ℕ) (next : Bool) (rest : List ℕ) → is_byte_of_include_path b ≡ true → ((i first : Bool) → kind_and_size_of_token (token_forms_in_context context.ScopeSign) i first (b ∷ rest) ≡ (kind.Punct, 1)) → ((before : List LineUnit) → bytes_of_units_after_leading_gap before ≡ defaults_word → AllowsIdBehindUnits next (Byte b ∷ before))
    → IsTokenCutFromPlace context.ScopeSign BehindDefaults (At next) kind.Punct (Byte b ∷ []) rest
scope_sign_behind_defaults_is_cut b next rest is told leaves =
    let plain = plain_test_byte_is_plain is_byte_of_include_path refl b is in
    let there = plain_byte_begins_token b rest plain in
    record {
      found = λ i first possible. told i first;
      no_gap = there.no_gap;
      more = there.more;
      some = omega arith;
      closed = text_of_units_is_closed is_byte_of_include_path refl (Byte b ∷ []) (is, tt);
      clean = text_of_units_has_no_nul is_byte_of_include_path refl (Byte b ∷ []) (is, tt);
      leaves = λ before stands. rw plain.backslash (leaves before stands);
      stand = λ before more stands. (plain_byte_stands_as_unit before b (rest ++ more) plain, tt);
      leaves_units = leaves;
    }

scope_mark_of_kind_is_cut : (k : Kind) (rest : List ℕ) → IsTokenCutFromPlace context.ScopeSign BehindDefaults (At (is_id_allowed_behind_scope_mark k)) kind.Punct (Byte (mark_byte_of_scope_kind k) ∷ []) rest
scope_mark_of_kind_is_cut User rest = scope_sign_behind_defaults_is_cut 58 true rest refl (λ i first. refl) (λ before stands is. refl)
scope_mark_of_kind_is_cut Runas rest = scope_sign_behind_defaults_is_cut 62 true rest refl (λ i first. refl) (λ before stands is. ap (λ (t : List ℕ). bytes_eq t defaults_word) stands)
scope_mark_of_kind_is_cut Host rest = scope_sign_behind_defaults_is_cut 64 false rest refl (λ i first. refl) (λ before stands none. absurd (cc))
scope_mark_of_kind_is_cut Cmnd rest = scope_sign_behind_defaults_is_cut 33 false rest refl (λ i first. refl) (λ before stands none. absurd (cc))

scope_context_follows_scope_mark : (k : Kind) (rest : List ℕ) → context_after_token context.ScopeSign kind.Punct (text_of_units (units_of_plain_bytes (mark_byte_of_scope_kind k ∷ []))) rest ≡ context.Scope (member_kind_of_scope_list k)
scope_context_follows_scope_mark User rest = refl
scope_context_follows_scope_mark k rest = refl

-- ---- the word

disjunction_with_true_is_true : (x : Bool) → (x || true) ≡ true
disjunction_with_true_is_true true = refl
disjunction_with_true_is_true false = refl

-- What follows `Defaults` is a blank or a scope's sign.
abbrev pub FollowsDefaults : List ℕ → Type 0
FollowsDefaults rest = (leading_run_size rule.Word (codes "Defaults" ++ rest) == 8 || has_host_or_runas_sign rest) ≡ true

blank_follows_defaults : (rest : List ℕ) → FollowsDefaults (32 ∷ rest)
unfolding leading_run_size
blank_follows_defaults rest = refl

scope_mark_follows_defaults : (k : Kind) (rest : List ℕ) → FollowsDefaults (mark_byte_of_scope_kind k ∷ rest)
unfolding leading_run_size
scope_mark_follows_defaults User rest = refl
scope_mark_follows_defaults Cmnd rest = refl
scope_mark_follows_defaults Host rest = disjunction_with_true_is_true (leading_run_size rule.Word (codes "Defaults" ++ (64 ∷ rest)) == 8)
scope_mark_follows_defaults Runas rest = disjunction_with_true_is_true (leading_run_size rule.Word (codes "Defaults" ++ (62 ∷ rest)) == 8)

defaults_keyword_is_found_as_word : (i first : Bool) (rest : List ℕ) → FollowsDefaults rest → kind_and_size_of_token (token_forms_in_context (context.First mode.Parameters)) i first (codes "Defaults" ++ rest) ≡ (kind.Word, 8)
unfolding hash_include_size_at defaults_or_at_include_word_size
defaults_keyword_is_found_as_word i first rest follows = ap (λ (t : Bool). by_test t) follows
  where
    by_test : Bool → TokenKind × ℕ
    by_test t =
        if nat_lt 0 (if t then 8 else (if is_among at_include_words (take (leading_run_size rule.Word (codes "Defaults" ++ rest)) (codes "Defaults" ++ rest)) then leading_run_size rule.Word (codes "Defaults" ++ rest) else 0))
        then (kind.Word, if t then 8 else (if is_among at_include_words (take (leading_run_size rule.Word (codes "Defaults" ++ rest)) (codes "Defaults" ++ rest)) then leading_run_size rule.Word (codes "Defaults" ++ rest) else 0))
        else kind_and_size_of_token token_forms_of_parameters i first (codes "Defaults" ++ rest)

-- The line is read as parameters.
pub mode_behind_defaults_keyword_is_parameters : (rest : List ℕ) → FollowsDefaults rest → line_mode (codes "Defaults" ++ rest) ≡ mode.Parameters
unfolding line_mode leading_run_size
mode_behind_defaults_keyword_is_parameters rest follows = rw follows refl

first_defaults_keyword_is_cut : (next : TokenPlace) (rest : List ℕ) → FollowsDefaults rest → ((before : List LineUnit) → before ≡ [] → StandsAtPlace next (units_with_those_of_bytes before (codes "Defaults"))) → ((before : List LineUnit) → before ≡ [] → StandsAtPlace next (units_put_onto (units_of_plain_bytes (codes "Defaults")) before))
    → IsTokenCutFromPlace (context.First mode.Parameters) Start next kind.Word (units_of_plain_bytes (codes "Defaults")) rest
first_defaults_keyword_is_cut next rest follows leaves leaves_units =
    let fits = bytes_passing_test_are_units_of_it is_word_byte (codes "Defaults") refl in
    let there = plain_byte_begins_token 68 (codes "efaults" ++ rest) (plain_test_byte_is_plain is_word_byte refl 68 refl) in
    record {
      found = λ i first possible. defaults_keyword_is_found_as_word i first rest follows;
      no_gap = there.no_gap;
      more = there.more;
      some = omega arith;
      closed = text_of_units_is_closed is_word_byte refl (units_of_plain_bytes (codes "Defaults")) fits;
      clean = refl;
      leaves = leaves;
      stand = λ before more stands. units_stand_in_text is_word_byte refl before (units_of_plain_bytes (codes "Defaults")) (rest ++ more) fits;
      leaves_units = leaves_units;
    }

defaults_keyword_before_blank_is_cut : (rest : List ℕ) → FollowsDefaults rest → IsTokenCutFromPlace (context.First mode.Parameters) Start (At false) kind.Word (units_of_plain_bytes (codes "Defaults")) rest
defaults_keyword_before_blank_is_cut rest follows = first_defaults_keyword_is_cut (At false) rest follows (λ before is none. absurd (cc)) (λ before is none. absurd (cc))

defaults_keyword_before_scope_is_cut : (rest : List ℕ) → FollowsDefaults rest → IsTokenCutFromPlace (context.First mode.Parameters) Start BehindDefaults kind.Word (units_of_plain_bytes (codes "Defaults")) rest
defaults_keyword_before_scope_is_cut rest follows =
    first_defaults_keyword_is_cut BehindDefaults rest follows (λ before is. ap (λ (us : List LineUnit). bytes_of_units_after_leading_gap (units_with_those_of_bytes us (codes "Defaults"))) is) (λ before is. ap (λ (us : List LineUnit). bytes_of_units_after_leading_gap (units_put_onto (units_of_plain_bytes (codes "Defaults")) us)) is)

scope_mark_context_follows_defaults : (k : Kind) (rest : List ℕ) → context_after_token (context.First mode.Parameters) kind.Word (text_of_units (units_of_plain_bytes (codes "Defaults"))) (mark_byte_of_scope_kind k ∷ rest) ≡ context.ScopeSign
scope_mark_context_follows_defaults User rest = refl
scope_mark_context_follows_defaults k rest = refl

-- ---- the line

parameters_are_cut_behind_scope_member : (list : ScopeNamesOrCommands) (ps : List Param) → IsNonEmptyListOf IsWritableParam ps → IsCutBehindScopeMember list (tokens_of_parameters ps)
parameters_are_cut_behind_scope_member list ps all =
    let part = text_of_parameters_begins_with_blank ps all in
    record {
      cut = parameter_list_is_cut (context.BehindMember list) (context_behind_scope_member_takes_parameters list) false ps all;
      user = subst EndsUser (sym part.1) (record { word = refl; hash = refl; colon = refl; digit = refl });
      word = subst (EndsWord true) (sym part.1) (record { ends = refl; apart = λ h. (refl, refl) });
      path = ap (size_of_matching_byte_or_pair is_path_byte) part.1;
    }

scope_and_parameters_follow_defaults : (scope : Option Scope) (ps : List Param) → IsNonEmptyListOf IsWritableParam ps → FollowsDefaults (line_of_written_tokens (tokens_of_scope scope (tokens_of_parameters ps)))
scope_and_parameters_follow_defaults None ps all = let part = text_of_parameters_begins_with_blank ps all in subst FollowsDefaults (sym part.1) (blank_follows_defaults part.0)
scope_and_parameters_follow_defaults (Some s) ps all = scope_mark_follows_defaults s.kind (line_of_written_tokens (tokens_of_scope_list s.kind s.members (tokens_of_parameters ps)))

-- A Defaults line is cut into its tokens.
pub defaults_line_is_cut : (scope : Option Scope) (ps : List Param) → IsWritableScope scope → IsNonEmptyListOf IsWritableParam ps → AreTokensCutFromPlace (context.First mode.Parameters) Start (tokens_of_defaults_line scope ps)
defaults_line_is_cut None ps is all =
    let part = text_of_parameters_begins_with_blank ps all in
    let rest = line_of_written_tokens (tokens_of_parameters ps) in
    let there : context_after_token (context.First mode.Parameters) kind.Word (text_of_units (units_of_plain_bytes (codes "Defaults"))) rest ≡ context.Parameter = ap (λ (t : List ℕ). context_after_token (context.First mode.Parameters) kind.Word (codes "Defaults") t) part.1 in (
      At false,
      defaults_keyword_before_blank_is_cut rest (scope_and_parameters_follow_defaults None ps all),
      subst (λ (c : TokenContext). AreTokensCutFromPlace c (At false) (tokens_of_parameters ps)) (sym there) (cut_tokens_are_cut_from_place (tokens_of_parameters ps) context.Parameter false (parameter_list_is_cut context.Parameter parameter_context_is_one false ps all)),
      refl,
    )
defaults_line_is_cut (Some s) ps is all =
    let list = tokens_of_scope_list s.kind s.members (tokens_of_parameters ps) in
    let signed = token_of_mark (mark_byte_of_scope_kind s.kind) false ∷ list in (
      BehindDefaults,
      defaults_keyword_before_scope_is_cut (line_of_written_tokens signed) (scope_and_parameters_follow_defaults (Some s) ps all),
      subst (λ (c : TokenContext). AreTokensCutFromPlace c BehindDefaults signed) (sym (scope_mark_context_follows_defaults s.kind (line_of_written_tokens list))) (
        At (is_id_allowed_behind_scope_mark s.kind),
        scope_mark_of_kind_is_cut s.kind (line_of_written_tokens list),
        subst (λ (c : TokenContext). AreTokensCutFromPlace c (At (is_id_allowed_behind_scope_mark s.kind)) list) (sym (scope_context_follows_scope_mark s.kind (line_of_written_tokens list)))
            (cut_tokens_are_cut_from_place list (context.Scope (member_kind_of_scope_list s.kind)) (is_id_allowed_behind_scope_mark s.kind) (scope_list_before_tail_is_cut s.kind s.members (tokens_of_parameters ps) is (parameters_are_cut_behind_scope_member (member_kind_of_scope_list s.kind) ps all))),
        refl,
      ),
      refl,
    )

pub mode_of_defaults_tokens_is_parameters : (scope : Option Scope) (ps : List Param) → IsNonEmptyListOf IsWritableParam ps → line_mode (line_of_written_tokens (tokens_of_defaults_line scope ps)) ≡ mode.Parameters
mode_of_defaults_tokens_is_parameters scope ps all = mode_behind_defaults_keyword_is_parameters (line_of_written_tokens (tokens_of_scope scope (tokens_of_parameters ps))) (scope_and_parameters_follow_defaults scope ps all)
