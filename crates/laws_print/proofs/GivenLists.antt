-- What a line's lists and commands are read as can be written.
use Rattle.laws_print.proofs.Common.{◌≡◌, ◌≢◌, ℕ, Bool, true, false, ◌&&◌, ◌||◌, List, [], ◌∷◌, ◌++◌, Some, None, refl, sym, ap, subst, ◌∙◌}
use Rattle.laws_print.proofs.Common.{if◌then◌else◌, AllByRecursion, list_all, and_parts, TokenKind, is_digest_byte, value_of_word, Kind, User, Runas, Cmnd}
use Rattle.laws_print.proofs.Common.{Atom, Tag, OptionName, RunasSpec, TokenWithBytes, is_arg, is_digest, is_quoted, is_alias_name, atom_of_token, is_option_value_allowed}
use Rattle.laws_print.proofs.Common.{option_value_of_token, is_name, IsArg, IsMember, AreMembers, IsDigest, IsCommand, IsAliasMemberList, IsDef, IsRunas, IsOption, IsTag}
use Rattle.laws_print.proofs.Common.{IsCmdSpec, IsHostGroup, Many, MarkThenRule, Separated, Perhaps, IsWritableUserAtom, IsWritableHostAtom, IsMemberWithoutDigests, IsWritableUserMember, IsWritableHostMember}
use Rattle.laws_print.proofs.Common.{IsWritableDigestText, IsWritableCommandMember, IsWritableMemberOfKind, IsNonEmptyListOf, IsWritableDefinition, IsWritableRunasSpec, IsWritableOption, IsWritableCommand, IsWritableHostGroup}
use Rattle.sudoers_text.specs.declared.token.TokenKind.TheVariants as kind
use Rattle.sudoers_grammar.specs.declared.node.Kind.TheVariants.{Host}
use Rattle.sudoers_grammar.specs.Piece.{is_word}
use Rattle.sudoers_grammar.specs.Grammar.{PerhapsRunas}
use Rattle.laws_print.proofs.Tidy.{IsTidyText}
use Rattle.laws_print.proofs.TidyPieces.{IsTokenTextOfKind, OpensWithByteOrPair}
use Rattle.laws_print.proofs.GivenTokens.{is_kind_before_args, IsGivenToken, OpensIfArgFollows, AreGivenTokens, IsNumberTextIfId, given_token_is_number_text_if_id}
use Rattle.laws_print.proofs.GivenUsers.{user_atom_of_given_token_is_writable}
use Rattle.laws_print.proofs.GivenHosts.{host_atom_of_given_token_is_writable}
use Rattle.laws_print.proofs.GivenCommands.{AreTidyArgsWithoutNul, command_atom_of_given_tokens_is_writable}

-- ---- one after another

pub rest_of_given_list_is_given : (xs ys : List TokenWithBytes) → AreGivenTokens (xs ++ ys) → AreGivenTokens ys
rest_of_given_list_is_given [] ys given = given
rest_of_given_list_is_given (x ∷ xs) ys given = rest_of_given_list_is_given xs ys given.2

-- A rule whose things can be written, and what is behind them is known.
abbrev pub ReadsOnlyWritable : {X : Type 0} → (List TokenWithBytes → X → List TokenWithBytes → Type 0) → (X → Type 0) → Type 0
ReadsOnlyWritable {X} P W = (ts : List TokenWithBytes) (x : X) (rest : List TokenWithBytes) → AreGivenTokens ts → P ts x rest → W x × AreGivenTokens rest

pub many_read_of_given_are_writable : {X : Type 0} → (P : List TokenWithBytes → X → List TokenWithBytes → Type 0) (W : X → Type 0) → ReadsOnlyWritable P W → (ts : List TokenWithBytes) (xs : List X) (rest : List TokenWithBytes) → AreGivenTokens ts → Many P ts xs rest → AllByRecursion W xs × AreGivenTokens rest
many_read_of_given_are_writable P W each ts [] rest given are = (tt, subst AreGivenTokens are given)
many_read_of_given_are_writable P W each ts (x ∷ xs) rest given are =
    let one = each ts x are.0 given are.1 in
    let more = many_read_of_given_are_writable P W each are.0 xs rest one.1 are.2 in
    ((one.0, more.0), more.1)

pub marked_rule_reads_only_writable : {X : Type 0} → (b : ℕ) (P : List TokenWithBytes → X → List TokenWithBytes → Type 0) (W : X → Type 0) → ReadsOnlyWritable P W → ReadsOnlyWritable (MarkThenRule b P) W
marked_rule_reads_only_writable b P W each ts x rest given is = let after = subst AreGivenTokens is.split given in each is.behind x rest after.2 is.is

pub separated_rule_reads_only_writable : {X : Type 0} → (b : ℕ) (P : List TokenWithBytes → X → List TokenWithBytes → Type 0) (W : X → Type 0) → ReadsOnlyWritable P W → ReadsOnlyWritable (Separated b P) (IsNonEmptyListOf W)
separated_rule_reads_only_writable b P W each ts [] rest given are = absurd are
separated_rule_reads_only_writable b P W each ts (x ∷ xs) rest given are =
    let one = each ts x are.0 given are.1 in
    let more = many_read_of_given_are_writable (MarkThenRule b P) W (marked_rule_reads_only_writable b P W each) are.0 xs rest one.1 are.2 in
    ((one.0, more.0), more.1)

abbrev pub AreAllSuch : {X : Type 0} → (X → Type 0) → List X → Type 0
AreAllSuch W xs = AllByRecursion W xs

pub optional_rule_reads_only_writable : {X : Type 0} → (P : List TokenWithBytes → List X → List TokenWithBytes → Type 0) (W : X → Type 0) → ReadsOnlyWritable P (IsNonEmptyListOf W) → ReadsOnlyWritable (Perhaps P) (AreAllSuch W)
optional_rule_reads_only_writable P W each ts [] rest given is = (tt, subst AreGivenTokens is given)
optional_rule_reads_only_writable P W each ts (x ∷ xs) rest given is = let some = each ts (x ∷ xs) rest given is in (some.0, some.1)

-- ---- members

pub member_rule_reads_only_writable : (k : Kind) (W : Atom → Type 0) → ((t : TokenWithBytes) (a : Atom) → IsGivenToken t → atom_of_token k t ≡ Some a → W a) → ReadsOnlyWritable (IsMember k) (IsMemberWithoutDigests W)
member_rule_reads_only_writable k W atom ts m rest given is =
    let after = rest_of_given_list_is_given is.signs (is.last ∷ rest) (subst AreGivenTokens is.split given) in
    (record { is = atom is.last m.atom after.0 is.atom; no_digests = is.digests }, after.2)

pub user_atom_of_id_token_is_writable : (t : TokenWithBytes) (a : Atom) → IsNumberTextIfId t.kind t.text → atom_of_token User t ≡ Some a → IsWritableUserAtom a
unfolding atom_of_token
user_atom_of_id_token_is_writable t a given is = user_atom_of_given_token_is_writable t.kind t.text a given is

runas_atom_of_given_token_is_writable : (t : TokenWithBytes) (a : Atom) → IsGivenToken t → atom_of_token Runas t ≡ Some a → IsWritableUserAtom a
unfolding atom_of_token
runas_atom_of_given_token_is_writable t a given is = user_atom_of_given_token_is_writable t.kind t.text a (given_token_is_number_text_if_id t.kind t.text given.0) is

host_atom_of_given_piece_is_writable : (t : TokenWithBytes) (a : Atom) → IsGivenToken t → atom_of_token Host t ≡ Some a → IsWritableHostAtom a
unfolding atom_of_token
host_atom_of_given_piece_is_writable t a given is = host_atom_of_given_token_is_writable t.kind t.text a given.2 given.0 given.1 is

pub user_member_rule_reads_only_writable : ReadsOnlyWritable (IsMember User) IsWritableUserMember
user_member_rule_reads_only_writable = member_rule_reads_only_writable User IsWritableUserAtom (λ t a given is. user_atom_of_id_token_is_writable t a (given_token_is_number_text_if_id t.kind t.text given.0) is)

pub runas_member_rule_reads_only_writable : ReadsOnlyWritable (IsMember Runas) IsWritableUserMember
runas_member_rule_reads_only_writable = member_rule_reads_only_writable Runas IsWritableUserAtom runas_atom_of_given_token_is_writable

pub host_member_rule_reads_only_writable : ReadsOnlyWritable (IsMember Host) IsWritableHostMember
host_member_rule_reads_only_writable = member_rule_reads_only_writable Host IsWritableHostAtom host_atom_of_given_piece_is_writable

-- ---- commands

text_of_given_arg_is_tidy : (k : TokenKind) (text : List ℕ) → is_arg k ≡ true → IsTokenTextOfKind k text → IsTidyText text
text_of_given_arg_is_tidy kind.Arg text h is = is
text_of_given_arg_is_tidy k text h is = absurd (cc)

arg_test_implies_kind_arg : (k : TokenKind) → is_arg k ≡ true → k ≡ kind.Arg
arg_test_implies_kind_arg kind.Arg h = refl
arg_test_implies_kind_arg k h = absurd (cc)

args_of_given_list_are_tidy : (args rest : List TokenWithBytes) → AllByRecursion IsArg args → AreGivenTokens (args ++ rest) → AreTidyArgsWithoutNul args
args_of_given_list_are_tidy [] rest all given = tt
args_of_given_list_are_tidy (a ∷ args) rest all given = ((text_of_given_arg_is_tidy a.kind a.text all.0 given.0.0, given.0.1), args_of_given_list_are_tidy args rest all.1 given.2)

first_arg_opens_behind_taking_token : (k : TokenKind) (args rest : List TokenWithBytes) → AllByRecursion IsArg args → OpensIfArgFollows k (args ++ rest) → (x : TokenWithBytes) (more : List TokenWithBytes) → args ≡ x ∷ more → is_kind_before_args k ≡ true → OpensWithByteOrPair x.text
first_arg_opens_behind_taking_token k [] rest all next x more e takes = absurd (cc)
first_arg_opens_behind_taking_token k (a ∷ args) rest all next x more e takes = subst (λ (t : TokenWithBytes). OpensWithByteOrPair t.text) (first_same e) (next takes (arg_test_implies_kind_arg a.kind all.0))
  where
    first_same : a ∷ args ≡ x ∷ more → a ≡ x
    first_same e = cc

text_of_digest_token_is_digest_bytes : (k : TokenKind) (text : List ℕ) → is_digest k ≡ true → IsTokenTextOfKind k text → (text ≢ []) × (list_all is_digest_byte text ≡ true)
text_of_digest_token_is_digest_bytes kind.Digest text h is = is
text_of_digest_token_is_digest_bytes k text h is = absurd (cc)

digest_rule_reads_only_writable : ReadsOnlyWritable IsDigest IsWritableDigestText
digest_rule_reads_only_writable ts d rest given is =
    let after = subst AreGivenTokens is.split given in
    let text = text_of_digest_token_is_digest_bytes is.digest.kind is.digest.text is.is_digest after.2.2.0.0 in
    ((λ e. text.0 (sym is.text ∙ e), ap (list_all is_digest_byte) is.text ∙ text.1), after.2.2.2)

pub command_rule_reads_only_writable : ReadsOnlyWritable IsCommand IsWritableCommandMember
command_rule_reads_only_writable ts m rest given is =
    let digests = optional_rule_reads_only_writable (Separated 44 IsDigest) IsWritableDigestText (separated_rule_reads_only_writable 44 IsDigest IsWritableDigestText digest_rule_reads_only_writable) ts m.digests is.behind given is.digests in
    let after = rest_of_given_list_is_given is.signs (is.word ∷ (is.args ++ rest)) (subst AreGivenTokens is.split digests.1) in (
      record {
        is_command = command_atom_of_given_tokens_is_writable is.word is.args m.atom after.0 (args_of_given_list_are_tidy is.args rest is.are_args after.2) (first_arg_opens_behind_taking_token is.word.kind is.args rest is.are_args after.1) is.atom;
        digests = digests.0;
        suits = is.suits;
      },
      rest_of_given_list_is_given is.args rest after.2,
    )

-- ---- definitions

pub list_rule_reads_only_writable : (k : Kind) → ReadsOnlyWritable (IsAliasMemberList k) (IsNonEmptyListOf (IsWritableMemberOfKind k))
list_rule_reads_only_writable User = separated_rule_reads_only_writable 44 (IsMember User) IsWritableUserMember user_member_rule_reads_only_writable
list_rule_reads_only_writable Runas = separated_rule_reads_only_writable 44 (IsMember Runas) IsWritableUserMember runas_member_rule_reads_only_writable
list_rule_reads_only_writable Host = separated_rule_reads_only_writable 44 (IsMember Host) IsWritableHostMember host_member_rule_reads_only_writable
list_rule_reads_only_writable Cmnd = separated_rule_reads_only_writable 44 IsCommand IsWritableCommandMember command_rule_reads_only_writable

text_of_alias_name_token_is_name : (t : TokenWithBytes) → is_alias_name t ≡ true → is_name t.text ≡ true
unfolding is_alias_name
text_of_alias_name_token_is_name t h = (and_parts (is_word t.kind) (is_name t.text) h).1

pub definition_rule_reads_only_writable : (k : Kind) → ReadsOnlyWritable (IsDef k) (IsWritableDefinition k)
definition_rule_reads_only_writable k ts d rest given is =
    let after = subst AreGivenTokens is.split given in
    let members = list_rule_reads_only_writable k is.behind d.members rest after.2.2 is.members in
    (record { name = ap is_name is.same_name ∙ text_of_alias_name_token_is_name is.name is.is_name; members = members.0 }, members.1)

-- ---- user specifications

runas_rule_reads_only_writable : ReadsOnlyWritable IsRunas (λ (r : RunasSpec). AllByRecursion IsWritableUserMember r.users × AllByRecursion IsWritableUserMember r.groups)
runas_rule_reads_only_writable ts r rest given is =
    let inside = subst AreGivenTokens is.split given in
    let members = separated_rule_reads_only_writable 44 (IsMember Runas) IsWritableUserMember runas_member_rule_reads_only_writable in
    let users = optional_rule_reads_only_writable (AreMembers Runas) IsWritableUserMember members is.inside r.users is.behind_users inside.2 is.users in
    let groups = optional_rule_reads_only_writable (MarkThenRule 58 (AreMembers Runas)) IsWritableUserMember (marked_rule_reads_only_writable 58 (AreMembers Runas) (IsNonEmptyListOf IsWritableUserMember) members) is.behind_users r.groups is.behind_groups users.1 is.groups in
    let after = subst AreGivenTokens is.split_groups groups.1 in
    ((users.0, groups.0), after.2)

optional_runas_rule_reads_only_writable : ReadsOnlyWritable PerhapsRunas IsWritableRunasSpec
optional_runas_rule_reads_only_writable ts None rest given is = (tt, subst AreGivenTokens is given)
optional_runas_rule_reads_only_writable ts (Some r) rest given is = let read = runas_rule_reads_only_writable ts r rest given is in (read.0, read.1)

value_of_option_token_is_allowed : (o : OptionName) (t : TokenWithBytes) (v : List ℕ) → option_value_of_token o t ≡ Some v → is_option_value_allowed o v ≡ true
unfolding option_value_of_token
value_of_option_token_is_allowed o t v e = by_test ((is_word t.kind || is_quoted t.kind) && is_option_value_allowed o (value_of_word t.text)) refl e
  where
    by_test : (u : Bool) → ((is_word t.kind || is_quoted t.kind) && is_option_value_allowed o (value_of_word t.text)) ≡ u → (if u then Some (value_of_word t.text) else None) ≡ Some v → is_option_value_allowed o v ≡ true
    by_test true h e =
        let same : value_of_word t.text ≡ v = cc in
        subst (λ (x : List ℕ). is_option_value_allowed o x ≡ true) same (and_parts (is_word t.kind || is_quoted t.kind) (is_option_value_allowed o (value_of_word t.text)) h).1
    by_test false h e = absurd (cc)

option_rule_reads_only_writable : ReadsOnlyWritable IsOption IsWritableOption
option_rule_reads_only_writable ts o rest given is =
    let after = subst AreGivenTokens is.split given in
    (value_of_option_token_is_allowed o.0 is.value o.1 is.is_value, after.2.2.2)

tag_rule_reads_only_writable : ReadsOnlyWritable IsTag (λ (g : Tag × Bool). Unit {0})
tag_rule_reads_only_writable ts g rest given is = let after = subst AreGivenTokens is.split given in (tt, after.2.2)

pub command_spec_rule_reads_only_writable : ReadsOnlyWritable IsCmdSpec IsWritableCommand
command_spec_rule_reads_only_writable ts c rest given is =
    let runas = optional_runas_rule_reads_only_writable ts c.runas is.behind_runas given is.runas in
    let options = many_read_of_given_are_writable IsOption IsWritableOption option_rule_reads_only_writable is.behind_runas c.options is.behind_options runas.1 is.options in
    let tags = many_read_of_given_are_writable IsTag (λ (g : Tag × Bool). Unit {0}) tag_rule_reads_only_writable is.behind_options c.tags is.behind_tags options.1 is.tags in
    let member = command_rule_reads_only_writable is.behind_tags c.member rest tags.1 is.member in
    (record { runas = runas.0; options = options.0; member = member.0 }, member.1)

pub host_group_rule_reads_only_writable : ReadsOnlyWritable IsHostGroup IsWritableHostGroup
host_group_rule_reads_only_writable ts g rest given is =
    let hosts = separated_rule_reads_only_writable 44 (IsMember Host) IsWritableHostMember host_member_rule_reads_only_writable ts g.hosts is.behind_hosts given is.hosts in
    let after = subst AreGivenTokens is.split hosts.1 in
    let commands = separated_rule_reads_only_writable 44 IsCmdSpec IsWritableCommand command_spec_rule_reads_only_writable is.behind g.commands rest after.2 is.commands in
    (record { hosts = hosts.0; commands = commands.0 }, commands.1)
