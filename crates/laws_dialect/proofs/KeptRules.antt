-- What the rules of members and commands read keeps its spelling in sudo's dialect.
use Rattle.std.proofs.Common.{◌≡◌, ◌⊎◌, inl, inr, ap, ℕ, Bool, true, false, List, [], ◌∷◌, ◌++◌, Option, Some, None, refl, sym, subst}
use Rattle.std.specs.Prelude.{if◌then◌else◌}
use Rattle.std.specs.List.{AllByRecursion}
use Rattle.sudoers_text.specs.declared.token.TokenKind.{TokenKind}
use Rattle.sudoers_text.specs.declared.token.TokenKind.TheVariants as kind
use Rattle.sudoers_text.specs.Adapted.{token_before}
use Rattle.sudoers_grammar.specs.declared.node.Kind.{Kind}
use Rattle.sudoers_grammar.specs.declared.node.Kind.TheVariants.{User, Runas, Host, Cmnd}
use Rattle.sudoers_grammar.specs.declared.node.Atom.{Atom}
use Rattle.sudoers_grammar.specs.declared.node.Args.{Args}
use Rattle.sudoers_grammar.specs.Piece.{TokenWithBytes, is_arg, is_digest, has_first_byte, value_of_matching_row, digest_kinds_by_word, digest_kind_of_token}
use Rattle.sudoers_grammar.specs.Atom.{user_atom_of_token, host_atom_of_token, command_atom_without_args, command_atom_with_args, command_atom_of_tokens, atom_of_token, args_of_argument_tokens}
use Rattle.sudoers_grammar.specs.Grammar.{IsMark, Many, MarkThenRule, Separated, Perhaps, IsMember, AreMembers, IsDigest, IsArg, IsCommand, IsAliasMemberList}
use Rattle.laws_dialect.proofs.KeptTokens.{may_be_equals, AreKept, AreKeptWithoutClosing, tokens_kept_anywhere_are_kept, IsWordLikeKind, IsPlainToken, IsSeparatorByte, exclamation_mark_is_separator, comma_is_separator, token_of_no_equals_kind_before_kept_tokens, plain_token_before_kept_tokens, word_like_token_before_kept_tokens, any_token_before_kept_tokens, separator_before_kept_tokens, word_kind_is_word_like, token_with_word_meaning_is_plain}

-- ---- one after another

-- If what is left keeps its spelling (behind any token, or else behind one that is no path, no argument and no `(`), so does what the rule
-- reads.
abbrev pub RuleKeeps : {X : Type 0} → Bool → Bool → (List TokenWithBytes → X → List TokenWithBytes → Type 0) → Type 0
RuleKeeps {X} strict anywhere P = (ts : List TokenWithBytes) (x : X) (rest : List TokenWithBytes) → AreKept strict anywhere rest → P ts x rest → AreKeptWithoutClosing strict ts

-- A rule that asks for less of what is left is content with more.
pub rule_keeps_tokens_kept_anywhere : {X : Type 0} → (strict : Bool) (anywhere : Bool) (P : List TokenWithBytes → X → List TokenWithBytes → Type 0) → RuleKeeps strict anywhere P → RuleKeeps strict true P
rule_keeps_tokens_kept_anywhere strict anywhere P each ts x rest all is = each ts x rest (tokens_kept_anywhere_are_kept strict anywhere rest all) is

pub many_rule_keeps : {X : Type 0} → (strict : Bool) (anywhere : Bool) (P : List TokenWithBytes → X → List TokenWithBytes → Type 0) → RuleKeeps strict anywhere P
    → (ts : List TokenWithBytes) (xs : List X) (rest : List TokenWithBytes) → AreKept strict anywhere rest → Many P ts xs rest → AreKept strict anywhere ts
many_rule_keeps strict anywhere P each ts [] rest all are = subst (AreKept strict anywhere) (sym are) all
many_rule_keeps strict anywhere P each ts (x ∷ xs) rest all are =
    tokens_kept_anywhere_are_kept strict anywhere ts (each ts x are.0 (many_rule_keeps strict anywhere P each are.0 xs rest all are.2) are.1).kept

-- The same, where what is left begins with no `)`.
pub many_rule_keeps_without_closing : {X : Type 0} → (strict : Bool) (P : List TokenWithBytes → X → List TokenWithBytes → Type 0) → RuleKeeps strict true P
    → (ts : List TokenWithBytes) (xs : List X) (rest : List TokenWithBytes) → AreKeptWithoutClosing strict rest → Many P ts xs rest → AreKeptWithoutClosing strict ts
many_rule_keeps_without_closing strict P each ts [] rest all are = subst (AreKeptWithoutClosing strict) (sym are) all
many_rule_keeps_without_closing strict P each ts (x ∷ xs) rest all are = each ts x are.0 (many_rule_keeps strict true P each are.0 xs rest all.kept are.2) are.1

pub mark_then_rule_keeps : {X : Type 0} → (strict : Bool) (anywhere : Bool) (b : ℕ) (P : List TokenWithBytes → X → List TokenWithBytes → Type 0) → IsSeparatorByte b → RuleKeeps strict anywhere P
    → RuleKeeps strict anywhere (MarkThenRule b P)
mark_then_rule_keeps strict anywhere b P separator each ts x rest all is =
    subst (AreKeptWithoutClosing strict) (sym is.split) (separator_before_kept_tokens strict b is.mark is.behind separator is.is_mark (each is.behind x rest all is.is))

pub separated_rule_keeps : {X : Type 0} → (strict : Bool) (anywhere : Bool) (b : ℕ) (P : List TokenWithBytes → X → List TokenWithBytes → Type 0) → IsSeparatorByte b → RuleKeeps strict anywhere P
    → RuleKeeps strict anywhere (Separated b P)
separated_rule_keeps strict anywhere b P separator each ts [] rest all are = absurd are
separated_rule_keeps strict anywhere b P separator each ts (x ∷ xs) rest all are =
    each ts x are.0 (many_rule_keeps strict anywhere (MarkThenRule b P) (mark_then_rule_keeps strict anywhere b P separator each) are.0 xs rest all are.2) are.1

pub perhaps_rule_keeps : {X : Type 0} → (strict : Bool) (P : List TokenWithBytes → List X → List TokenWithBytes → Type 0) → RuleKeeps strict true P
    → (ts : List TokenWithBytes) (xs : List X) (rest : List TokenWithBytes) → AreKept strict true rest → Perhaps P ts xs rest → AreKept strict true ts
perhaps_rule_keeps strict P each ts [] rest all is = subst (AreKept strict true) (sym is) all
perhaps_rule_keeps strict P each ts (x ∷ xs) rest all is = (each ts (x ∷ xs) rest all is).kept

-- The same, where what is left begins with no `)`.
pub perhaps_rule_keeps_without_closing : {X : Type 0} → (strict : Bool) (P : List TokenWithBytes → List X → List TokenWithBytes → Type 0) → RuleKeeps strict true P
    → (ts : List TokenWithBytes) (xs : List X) (rest : List TokenWithBytes) → AreKeptWithoutClosing strict rest → Perhaps P ts xs rest → AreKeptWithoutClosing strict ts
perhaps_rule_keeps_without_closing strict P each ts [] rest all is = subst (AreKeptWithoutClosing strict) (sym is) all
perhaps_rule_keeps_without_closing strict P each ts (x ∷ xs) rest all is = each ts (x ∷ xs) rest all.kept is

pub negation_signs_before_kept_tokens : (strict : Bool) (signs ts : List TokenWithBytes) → AllByRecursion (IsMark 33) signs → AreKeptWithoutClosing strict ts → AreKeptWithoutClosing strict (signs ++ ts)
negation_signs_before_kept_tokens strict [] ts are all = all
negation_signs_before_kept_tokens strict (t ∷ signs) ts are all =
    separator_before_kept_tokens strict 33 t (signs ++ ts) exclamation_mark_is_separator are.0 (negation_signs_before_kept_tokens strict signs ts are.1 all)

-- ---- members

user_atom_kind_is_word_like : (k : TokenKind) (text : List ℕ) (a : Atom) → user_atom_of_token k text ≡ Some a → IsWordLikeKind k
unfolding user_atom_of_token
user_atom_kind_is_word_like kind.Word text a e = word_kind_is_word_like kind.Word refl
user_atom_kind_is_word_like kind.Quoted text a e = record { no_equals = refl; before = λ text. inl refl }
user_atom_kind_is_word_like kind.Id text a e = record { no_equals = refl; before = λ text. inl refl }
user_atom_kind_is_word_like k text a e = absurd (cc)

host_atom_kind_is_word_like : (k : TokenKind) (text : List ℕ) (a : Atom) → host_atom_of_token k text ≡ Some a → IsWordLikeKind k
unfolding host_atom_of_token
host_atom_kind_is_word_like kind.Word text a e = word_kind_is_word_like kind.Word refl
host_atom_kind_is_word_like kind.Quoted text a e = record { no_equals = refl; before = λ text. inl refl }
host_atom_kind_is_word_like k text a e = absurd (cc)

-- An atom of this kind is a word, a quoted word or an ID.
abbrev pub AtomsAreWordLike : Kind → Type 0
AtomsAreWordLike k = (t : TokenWithBytes) (a : Atom) → atom_of_token k t ≡ Some a → IsWordLikeKind t.kind

pub user_atoms_are_word_like : AtomsAreWordLike User
unfolding atom_of_token
user_atoms_are_word_like t a e = user_atom_kind_is_word_like t.kind t.text a e

pub runas_atoms_are_word_like : AtomsAreWordLike Runas
unfolding atom_of_token
runas_atoms_are_word_like t a e = user_atom_kind_is_word_like t.kind t.text a e

pub host_atoms_are_word_like : AtomsAreWordLike Host
unfolding atom_of_token
host_atoms_are_word_like t a e = host_atom_kind_is_word_like t.kind t.text a e

member_rule_keeps : (strict : Bool) (k : Kind) → AtomsAreWordLike k → RuleKeeps strict strict (IsMember k)
member_rule_keeps strict k atoms ts m rest all is =
    subst (AreKeptWithoutClosing strict) (sym is.split)
    (negation_signs_before_kept_tokens strict is.signs (is.last ∷ rest) is.are_signs (word_like_token_before_kept_tokens strict is.last rest (atoms is.last m.atom is.atom) all))

pub member_list_keeps : (strict : Bool) (k : Kind) → AtomsAreWordLike k → RuleKeeps strict strict (AreMembers k)
member_list_keeps strict k atoms = separated_rule_keeps strict strict 44 (IsMember k) comma_is_separator (member_rule_keeps strict k atoms)

-- ---- commands

digest_kind_is_digest : (k : TokenKind) → is_digest k ≡ true → k ≡ kind.Digest
digest_kind_is_digest kind.Digest e = refl
digest_kind_is_digest k e = absurd (cc)

digest_token_is_plain : (t : TokenWithBytes) → is_digest t.kind ≡ true → IsPlainToken t
digest_token_is_plain t e = record { no_equals = ap may_be_equals (digest_kind_is_digest t.kind e); before = ap (λ (k : TokenKind). token_before k t.text) (digest_kind_is_digest t.kind e) }

digest_rule_keeps : (strict : Bool) → RuleKeeps strict false IsDigest
unfolding digest_kind_of_token
digest_rule_keeps strict ts d rest all is =
    let digest = plain_token_before_kept_tokens strict is.digest rest (digest_token_is_plain is.digest is.is_digest) all in
    let word = token_with_word_meaning_is_plain (value_of_matching_row digest_kinds_by_word) refl is.word d.kind is.is_kind in
    subst (AreKeptWithoutClosing strict) (sym is.split)
    (plain_token_before_kept_tokens strict is.word (is.colon ∷ is.digest ∷ rest) word (any_token_before_kept_tokens strict is.colon (is.digest ∷ rest) digest.kept))

argument_kind_is_no_equals : (k : TokenKind) → is_arg k ≡ true → may_be_equals k ≡ false
argument_kind_is_no_equals kind.Arg e = refl
argument_kind_is_no_equals k e = absurd (cc)

arguments_before_kept_tokens : (strict : Bool) (args rest : List TokenWithBytes) → AllByRecursion IsArg args → AreKept strict true rest → AreKept strict true (args ++ rest)
arguments_before_kept_tokens strict [] rest are all = all
arguments_before_kept_tokens strict (t ∷ args) rest are all =
    (token_of_no_equals_kind_before_kept_tokens strict t (args ++ rest) (argument_kind_is_no_equals t.kind are.0)
    (arguments_before_kept_tokens strict args rest are.1 all (token_before t.kind t.text))).kept

command_kind_without_args_is_no_equals : (k : TokenKind) (text : List ℕ) (a : Atom) → command_atom_without_args k text ≡ Some a → may_be_equals k ≡ false
unfolding command_atom_without_args
command_kind_without_args_is_no_equals kind.Word text a e = refl
command_kind_without_args_is_no_equals kind.Path text a e = refl
command_kind_without_args_is_no_equals k text a e = absurd (cc)

command_kind_with_args_is_no_equals : (k : TokenKind) (text : List ℕ) (args : Args) (a : Atom) → command_atom_with_args k text args ≡ Some a → may_be_equals k ≡ false
unfolding command_atom_with_args
command_kind_with_args_is_no_equals kind.Word text args a e = refl
command_kind_with_args_is_no_equals kind.Path text args a e = refl
command_kind_with_args_is_no_equals k text args a e = absurd (cc)

some_choice_behind_none_is_found : {X : Type 0} → (b : Bool) (found : Option X) (x : X) → (if b then None else found) ≡ Some x → found ≡ Some x
some_choice_behind_none_is_found true found x e = absurd (cc)
some_choice_behind_none_is_found false found x e = e

command_kind_is_no_equals : (t : TokenWithBytes) (args : List TokenWithBytes) (a : Atom) → command_atom_of_tokens t args ≡ Some a → may_be_equals t.kind ≡ false
command_kind_is_no_equals t [] a e = command_kind_without_args_is_no_equals t.kind t.text a e
command_kind_is_no_equals t (x ∷ args) a e =
    let values = args_of_argument_tokens (x ∷ args) in
    command_kind_with_args_is_no_equals t.kind t.text values a (some_choice_behind_none_is_found (has_first_byte 94 x.text) (command_atom_with_args t.kind t.text values) a e)

pub command_rule_keeps : (strict : Bool) → RuleKeeps strict true IsCommand
command_rule_keeps strict ts m rest all is =
    let args = arguments_before_kept_tokens strict is.args rest is.are_args all in
    let word = token_of_no_equals_kind_before_kept_tokens strict is.word (is.args ++ rest) (command_kind_is_no_equals is.word is.args m.atom is.atom) (args (token_before is.word.kind is.word.text)) in
    let behind = subst (AreKeptWithoutClosing strict) (sym is.split) (negation_signs_before_kept_tokens strict is.signs (is.word ∷ (is.args ++ rest)) is.are_signs word) in
    perhaps_rule_keeps_without_closing strict (Separated 44 IsDigest) digests ts m.digests is.behind behind is.digests
  where
    digests : RuleKeeps strict true (Separated 44 IsDigest)
    digests = rule_keeps_tokens_kept_anywhere strict false (Separated 44 IsDigest) (separated_rule_keeps strict false 44 IsDigest comma_is_separator (digest_rule_keeps strict))

pub alias_member_list_keeps : (strict : Bool) (k : Kind) → RuleKeeps strict true (IsAliasMemberList k)
alias_member_list_keeps strict User = rule_keeps_tokens_kept_anywhere strict strict (AreMembers User) (member_list_keeps strict User user_atoms_are_word_like)
alias_member_list_keeps strict Runas = rule_keeps_tokens_kept_anywhere strict strict (AreMembers Runas) (member_list_keeps strict Runas runas_atoms_are_word_like)
alias_member_list_keeps strict Host = rule_keeps_tokens_kept_anywhere strict strict (AreMembers Host) (member_list_keeps strict Host host_atoms_are_word_like)
alias_member_list_keeps strict Cmnd = separated_rule_keeps strict true 44 IsCommand comma_is_separator (command_rule_keeps strict)
