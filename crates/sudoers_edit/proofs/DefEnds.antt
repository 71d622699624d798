-- The definitions of a line that ends in LF end before it.
use Rattle.sudoers_edit.proofs.Common.{AllByRecursion, Atom, Bool, Cmnd, Def, Digest, HasTokens, Host, Kind, LineReadsAsNode, List, Member, None, Option, Runas, Some, TokenKind, TokenWithBytes, User, [], and_parts}
use Rattle.sudoers_edit.proofs.Common.{arith, bytes_eq, digest_kind_of_token, digest_kinds_by_word, ends_in_lf, false, has_first_byte, if◌then◌else◌, inl, inr, is_alias_name, is_arg, is_digest, is_mark_of_byte}
use Rattle.sudoers_edit.proofs.Common.{is_name, is_word, length, refl, subst, sym, token_with_bytes, tokens_with_bytes, true, value_of_matching_row, ℕ, ◌++◌, ◌-◌, ◌∙◌, ◌∷◌, ◌≡◌, ◌≤◌}
use Rattle.sudoers_text.specs.declared.token.TokenKind.TheVariants as kind
use Rattle.sudoers_text.specs.declared.token.Token.{Token}
use Rattle.sudoers_text.specs.LineMode.{line_mode}
use Rattle.sudoers_grammar.specs.declared.node.Args.{Args}
use Rattle.sudoers_grammar.specs.declared.node.DigestKind.{DigestKind}
use Rattle.sudoers_grammar.specs.Node as node
use Rattle.sudoers_grammar.specs.Atom.{atom_of_token, user_atom_of_token, host_atom_of_token, command_atom_without_args, command_atom_with_args, command_atom_of_tokens, args_of_argument_tokens}
use Rattle.sudoers_grammar.specs.Piece.{is_punct}
use Rattle.sudoers_grammar.specs.Grammar.{Many, MarkThenRule, Separated, Perhaps, IsMark, IsArg, stop_of_last_token, stop_of_last_member, IsMember, IsDigest, IsCommand, IsAliasMemberList, IsDef, IsAliasLine}
use Rattle.sudoers_edit.proofs.OwnedBytes.{AreAscendingDefinitions}
use Rattle.sudoers_edit.proofs.TokenEnds.{is_left_out_of_aliases}
use Rattle.sudoers_edit.proofs.LineTokens.{EndByLimitUntilLeftOut, tokens_behind_first_end_before_final_lf}

-- ---- one piece

abbrev IsTokenKept : TokenWithBytes → Type 0
IsTokenKept t = is_left_out_of_aliases t.kind ≡ false

-- a piece that is in, and those behind it
kept_token_and_rest_end_by_limit : (last : ℕ) (t : TokenWithBytes) (ts : List TokenWithBytes) → IsTokenKept t → EndByLimitUntilLeftOut last (t ∷ ts) → (t.stop ≤ last) × EndByLimitUntilLeftOut last ts
kept_token_and_rest_end_by_limit last t ts is (inl out) = absurd (let both : true ≡ false = sym out ∙ is in cc)
kept_token_and_rest_end_by_limit last t ts is (inr e) = e

punctuation_is_kept : (k : TokenKind) → is_punct k ≡ true → is_left_out_of_aliases k ≡ false
punctuation_is_kept kind.Punct h = refl
punctuation_is_kept k h = absurd (cc)

word_is_kept : (k : TokenKind) → is_word k ≡ true → is_left_out_of_aliases k ≡ false
word_is_kept kind.Word h = refl
word_is_kept k h = absurd (cc)

mark_is_kept : (b : ℕ) (t : TokenWithBytes) → IsMark b t → IsTokenKept t
unfolding is_mark_of_byte
mark_is_kept b t is = punctuation_is_kept t.kind (and_parts (is_punct t.kind) (bytes_eq t.text (b ∷ [])) is).0

alias_name_is_kept : (t : TokenWithBytes) → is_alias_name t ≡ true → IsTokenKept t
unfolding is_alias_name
alias_name_is_kept t is = word_is_kept t.kind (and_parts (is_word t.kind) (is_name t.text) is).0

argument_is_kept : (k : TokenKind) → is_arg k ≡ true → is_left_out_of_aliases k ≡ false
argument_is_kept kind.Arg h = refl
argument_is_kept k h = absurd (cc)

digest_is_kept : (k : TokenKind) → is_digest k ≡ true → is_left_out_of_aliases k ≡ false
digest_is_kept kind.Digest h = refl
digest_is_kept k h = absurd (cc)

guarded_value_has_its_condition : {X : Type 0} (b : Bool) (o : Option X) (x : X) → (if b then o else None) ≡ Some x → b ≡ true
guarded_value_has_its_condition true o x h = refl
guarded_value_has_its_condition false o x h = absurd (cc)

digest_kind_word_is_kept : (t : TokenWithBytes) (k : DigestKind) → digest_kind_of_token t ≡ Some k → IsTokenKept t
unfolding digest_kind_of_token
digest_kind_word_is_kept t k is = word_is_kept t.kind (guarded_value_has_its_condition (is_word t.kind) (value_of_matching_row digest_kinds_by_word t.text) k is)

user_atom_token_is_kept : (k : TokenKind) (text : List ℕ) (a : Atom) → user_atom_of_token k text ≡ Some a → is_left_out_of_aliases k ≡ false
unfolding user_atom_of_token
user_atom_token_is_kept kind.Bad text a h = absurd (cc)
user_atom_token_is_kept kind.Comment text a h = absurd (cc)
user_atom_token_is_kept k text a h = refl

host_atom_token_is_kept : (k : TokenKind) (text : List ℕ) (a : Atom) → host_atom_of_token k text ≡ Some a → is_left_out_of_aliases k ≡ false
unfolding host_atom_of_token
host_atom_token_is_kept kind.Bad text a h = absurd (cc)
host_atom_token_is_kept kind.Comment text a h = absurd (cc)
host_atom_token_is_kept k text a h = refl

command_atom_without_args_token_is_kept : (k : TokenKind) (text : List ℕ) (a : Atom) → command_atom_without_args k text ≡ Some a → is_left_out_of_aliases k ≡ false
unfolding command_atom_without_args
command_atom_without_args_token_is_kept kind.Bad text a h = absurd (cc)
command_atom_without_args_token_is_kept kind.Comment text a h = absurd (cc)
command_atom_without_args_token_is_kept k text a h = refl

command_atom_with_args_token_is_kept : (k : TokenKind) (text : List ℕ) (args : Args) (a : Atom) → command_atom_with_args k text args ≡ Some a → is_left_out_of_aliases k ≡ false
unfolding command_atom_with_args
command_atom_with_args_token_is_kept kind.Bad text args a h = absurd (cc)
command_atom_with_args_token_is_kept kind.Comment text args a h = absurd (cc)
command_atom_with_args_token_is_kept k text args a h = refl

atom_token_is_kept : (k : Kind) (t : TokenWithBytes) (a : Atom) → atom_of_token k t ≡ Some a → IsTokenKept t
unfolding atom_of_token
atom_token_is_kept User t a h = user_atom_token_is_kept t.kind t.text a h
atom_token_is_kept Runas t a h = user_atom_token_is_kept t.kind t.text a h
atom_token_is_kept Host t a h = host_atom_token_is_kept t.kind t.text a h
atom_token_is_kept Cmnd t a h = command_atom_without_args_token_is_kept t.kind t.text a h

value_unless_guard_is_value : (b : Bool) (o : Option Atom) (a : Atom) → (if b then None else o) ≡ Some a → o ≡ Some a
value_unless_guard_is_value true o a h = absurd (cc)
value_unless_guard_is_value false o a h = h

command_atom_token_is_kept : (t : TokenWithBytes) (args : List TokenWithBytes) (a : Atom) → command_atom_of_tokens t args ≡ Some a → IsTokenKept t
command_atom_token_is_kept t [] a h = command_atom_without_args_token_is_kept t.kind t.text a h
command_atom_token_is_kept t (arg ∷ args) a h =
    command_atom_with_args_token_is_kept t.kind t.text (args_of_argument_tokens (arg ∷ args)) a (value_unless_guard_is_value (has_first_byte 94 arg.text) (command_atom_with_args t.kind t.text (args_of_argument_tokens (arg ∷ args))) a h)

-- ---- one after another

-- What is read ends here at the latest, and so do the pieces behind it.
abbrev IsReadByLimit : (X : Type 0) → (X → ℕ) → (List TokenWithBytes → X → List TokenWithBytes → Type 0) → Type 0
IsReadByLimit X ends P = (last : ℕ) (ts rest : List TokenWithBytes) (x : X) → EndByLimitUntilLeftOut last ts → P ts x rest → (ends x ≤ last) × EndByLimitUntilLeftOut last rest

reading_behind_mark_ends_by_limit : {X : Type 0} (ends : X → ℕ) (P : List TokenWithBytes → X → List TokenWithBytes → Type 0) (b : ℕ) → IsReadByLimit X ends P → IsReadByLimit X ends (MarkThenRule b P)
reading_behind_mark_ends_by_limit ends P b keeps last ts rest x e is =
    keeps last is.behind rest x (kept_token_and_rest_end_by_limit last is.mark is.behind (mark_is_kept b is.mark is.is_mark) (subst (EndByLimitUntilLeftOut last) is.split e)).1 is.is

abbrev EachEndsByLimit : {X : Type 0} → (X → ℕ) → ℕ → List X → Type 0
EachEndsByLimit {X} ends last xs = AllByRecursion (λ (x : X). ends x ≤ last) xs

repeated_readings_end_by_limit : {X : Type 0} (ends : X → ℕ) (P : List TokenWithBytes → X → List TokenWithBytes → Type 0) → IsReadByLimit X ends P
    → (last : ℕ) (ts rest : List TokenWithBytes) (xs : List X) → EndByLimitUntilLeftOut last ts → Many P ts xs rest → EachEndsByLimit ends last xs × EndByLimitUntilLeftOut last rest
repeated_readings_end_by_limit ends P keeps last ts rest [] e is = (tt, subst (EndByLimitUntilLeftOut last) is e)
repeated_readings_end_by_limit ends P keeps last ts rest (x ∷ xs) e is =
    let first = keeps last ts is.0 x e is.1 in
    let others = repeated_readings_end_by_limit ends P keeps last is.0 rest xs first.1 is.2 in
    ((first.0, others.0), others.1)

separated_readings_end_by_limit : {X : Type 0} (ends : X → ℕ) (P : List TokenWithBytes → X → List TokenWithBytes → Type 0) (b : ℕ) → IsReadByLimit X ends P
    → (last : ℕ) (ts rest : List TokenWithBytes) (xs : List X) → EndByLimitUntilLeftOut last ts → Separated b P ts xs rest → EachEndsByLimit ends last xs × EndByLimitUntilLeftOut last rest
separated_readings_end_by_limit ends P b keeps last ts rest [] e is = absurd is
separated_readings_end_by_limit ends P b keeps last ts rest (x ∷ xs) e is =
    let first = keeps last ts is.0 x e is.1 in
    let others = repeated_readings_end_by_limit ends (MarkThenRule b P) (reading_behind_mark_ends_by_limit ends P b keeps) last is.0 rest xs first.1 is.2 in
    ((first.0, others.0), others.1)

-- ---- members

abbrev end_of_member : Member → ℕ
end_of_member m = m.stop

tokens_behind_signs_end_by_limit : (last : ℕ) (signs ts : List TokenWithBytes) → AllByRecursion (IsMark 33) signs → EndByLimitUntilLeftOut last (signs ++ ts) → EndByLimitUntilLeftOut last ts
tokens_behind_signs_end_by_limit last [] ts are e = e
tokens_behind_signs_end_by_limit last (s ∷ signs) ts are e = tokens_behind_signs_end_by_limit last signs ts are.1 (kept_token_and_rest_end_by_limit last s (signs ++ ts) (mark_is_kept 33 s are.0) e).1

member_ends_by_limit : (k : Kind) → IsReadByLimit Member end_of_member (IsMember k)
member_ends_by_limit k last ts rest m e is =
    let there = tokens_behind_signs_end_by_limit last is.signs (is.last ∷ rest) is.are_signs (subst (EndByLimitUntilLeftOut last) is.split e) in
    let one = kept_token_and_rest_end_by_limit last is.last rest (atom_token_is_kept k is.last m.atom is.atom) there in
    (subst (λ n. n ≤ last) (sym is.stop) one.0, one.1)

-- a digest of a command ends nowhere of its own
abbrev zero_end_of_digest : Digest → ℕ
zero_end_of_digest d = 0

digest_ends_by_limit : IsReadByLimit Digest zero_end_of_digest IsDigest
digest_ends_by_limit last ts rest d e is =
    let one = kept_token_and_rest_end_by_limit last is.word (is.colon ∷ is.digest ∷ rest) (digest_kind_word_is_kept is.word d.kind is.is_kind) (subst (EndByLimitUntilLeftOut last) is.split e) in
    let two = kept_token_and_rest_end_by_limit last is.colon (is.digest ∷ rest) (mark_is_kept 58 is.colon is.is_colon) one.1 in
    let three = kept_token_and_rest_end_by_limit last is.digest rest (digest_is_kept is.digest.kind is.is_digest) two.1 in
    (omega arith, three.1)

tokens_behind_digests_end_by_limit : (last : ℕ) (ds : List Digest) (ts behind : List TokenWithBytes) → EndByLimitUntilLeftOut last ts → Perhaps (Separated 44 IsDigest) ts ds behind
    → EndByLimitUntilLeftOut last behind
tokens_behind_digests_end_by_limit last [] ts behind e is = subst (EndByLimitUntilLeftOut last) is e
tokens_behind_digests_end_by_limit last (d ∷ ds) ts behind e is = (separated_readings_end_by_limit zero_end_of_digest IsDigest 44 digest_ends_by_limit last ts behind (d ∷ ds) e is).1

arguments_end_by_limit : (last : ℕ) (t : TokenWithBytes) (args rest : List TokenWithBytes) → AllByRecursion IsArg args → t.stop ≤ last → EndByLimitUntilLeftOut last (args ++ rest)
    → (stop_of_last_token t args ≤ last) × EndByLimitUntilLeftOut last rest
arguments_end_by_limit last t [] rest are here e = (here, e)
arguments_end_by_limit last t (arg ∷ args) rest are here e =
    let one = kept_token_and_rest_end_by_limit last arg (args ++ rest) (argument_is_kept arg.kind are.0) e in
    arguments_end_by_limit last arg args rest are.1 one.0 one.1

command_ends_by_limit : IsReadByLimit Member end_of_member IsCommand
command_ends_by_limit last ts rest m e is =
    let there = subst (EndByLimitUntilLeftOut last) is.split (tokens_behind_digests_end_by_limit last m.digests ts is.behind e is.digests) in
    let behind_signs = tokens_behind_signs_end_by_limit last is.signs (is.word ∷ (is.args ++ rest)) is.are_signs there in
    let word = kept_token_and_rest_end_by_limit last is.word (is.args ++ rest) (command_atom_token_is_kept is.word is.args m.atom is.atom) behind_signs in
    let all = arguments_end_by_limit last is.word is.args rest is.are_args word.0 word.1 in
    (subst (λ n. n ≤ last) (sym is.stop) all.0, all.1)

-- ---- definitions

last_member_ends_by_limit : (last : ℕ) (ms : List Member) → EachEndsByLimit end_of_member last ms → stop_of_last_member ms ≤ last
last_member_ends_by_limit last [] each = omega arith
last_member_ends_by_limit last (m ∷ []) each = each.0
last_member_ends_by_limit last (m ∷ n ∷ ms) each = last_member_ends_by_limit last (n ∷ ms) each.1

member_list_ends_by_limit : (k : Kind) (last : ℕ) (ts rest : List TokenWithBytes) (ms : List Member) → EndByLimitUntilLeftOut last ts → IsAliasMemberList k ts ms rest
    → EachEndsByLimit end_of_member last ms × EndByLimitUntilLeftOut last rest
member_list_ends_by_limit User = separated_readings_end_by_limit end_of_member (IsMember User) 44 (member_ends_by_limit User)
member_list_ends_by_limit Runas = separated_readings_end_by_limit end_of_member (IsMember Runas) 44 (member_ends_by_limit Runas)
member_list_ends_by_limit Host = separated_readings_end_by_limit end_of_member (IsMember Host) 44 (member_ends_by_limit Host)
member_list_ends_by_limit Cmnd = separated_readings_end_by_limit end_of_member IsCommand 44 command_ends_by_limit

abbrev end_of_definition : Def → ℕ
end_of_definition d = d.stop

definition_ends_by_limit : (k : Kind) → IsReadByLimit Def end_of_definition (IsDef k)
definition_ends_by_limit k last ts rest d e is =
    let name = kept_token_and_rest_end_by_limit last is.name (is.equals ∷ is.behind) (alias_name_is_kept is.name is.is_name) (subst (EndByLimitUntilLeftOut last) is.split e) in
    let equals = kept_token_and_rest_end_by_limit last is.equals is.behind (mark_is_kept 61 is.equals is.is_equals) name.1 in
    let all = member_list_ends_by_limit k last is.behind rest d.members equals.1 is.members in
    (subst (λ n. n ≤ last) (sym is.stop) (last_member_ends_by_limit last d.members all.0), all.1)

definitions_by_limit_ascend_to_limit : (from to last : ℕ) (defs : List Def) → AreAscendingDefinitions from to defs → EachEndsByLimit end_of_definition last defs → from ≤ last → AreAscendingDefinitions from last defs
definitions_by_limit_ascend_to_limit from to last [] a each inside = inside
definitions_by_limit_ascend_to_limit from to last (d ∷ defs) a each inside = (a.0, a.1, definitions_by_limit_ascend_to_limit d.stop to last defs a.2 each.1 each.0)

equal_tokens_have_equal_rest : (t u : TokenWithBytes) (ts us : List TokenWithBytes) → t ∷ ts ≡ u ∷ us → ts ≡ us
equal_tokens_have_equal_rest t u ts us same = cc

definitions_end_before_final_lf : (line : List ℕ) (k : Kind) (defs : List Def) → ends_in_lf line ≡ true → (tokens : List Token) → HasTokens (line_mode line) line tokens
    → (rest : List TokenWithBytes) → IsAliasLine k (tokens_with_bytes line tokens) defs rest → EachEndsByLimit end_of_definition (length line - 1) defs
definitions_end_before_final_lf line k defs ends [] has rest is = absurd (let none : [] ≡ is.word ∷ is.behind = is.split in cc)
definitions_end_before_final_lf line k defs ends (t ∷ tokens) has rest is =
    let same = equal_tokens_have_equal_rest (token_with_bytes line t) is.word (tokens_with_bytes line tokens) is.behind is.split in
    (separated_readings_end_by_limit end_of_definition (IsDef k) 58 (definition_ends_by_limit k) (length line - 1) is.behind rest defs
    (subst (EndByLimitUntilLeftOut (length line - 1)) same (tokens_behind_first_end_before_final_lf (line_mode line) line t tokens ends has)) is.defs).0

pub definitions_ascend_to_before_final_lf : ((line : List ℕ) (kind : Kind) (defs : List Def) → LineReadsAsNode line (node.Alias kind defs) → AreAscendingDefinitions 0 (length line) defs)
    → (line : List ℕ) (k : Kind) (defs : List Def) → LineReadsAsNode line (node.Alias k defs) → ends_in_lf line ≡ true → AreAscendingDefinitions 0 (length line - 1) defs
definitions_ascend_to_before_final_lf ascend line k defs reads ends =
    definitions_by_limit_ascend_to_limit 0 (length line) (length line - 1) defs (ascend line k defs reads)
    (definitions_end_before_final_lf line k defs ends reads.tokens reads.has reads.reads.0 reads.reads.1) (omega arith)
