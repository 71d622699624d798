-- Lists of users, runas users and hosts as they are written are read as these lists.
use Rattle.laws_print.proofs.Common.{◌≡◌, Bool, true, false, List, [], ◌∷◌, Some, refl, sym, ap, ◌∙◌, TokenKind, Kind, User, Runas, Cmnd, Atom, Member, IsNonEmptyListOf}
use Rattle.laws_print.proofs.Common.{TokenWithBytes, atom_of_token, user_atom_of_token, host_atom_of_token, IsMember, AreMembers, IsWritableUserAtom, IsMemberWithoutDigests, atom_read_back, MemberIsReadBackAs, AreItemsPairwiseRelated}
use Rattle.laws_print.proofs.Common.{WrittenToken, text_of_units, AreTokensShownBy}
use Rattle.sudoers_grammar.specs.declared.node.Kind.TheVariants.{Host}
use Rattle.sudoers_grammar.specs.declared.node.Atom.TheVariants as atom
use Rattle.laws_print.proofs.ListTokens.{token_kind_of_atom, units_of_user_atom, units_of_list_atom, IsAtomOfListKind, tokens_of_list_member, tokens_of_member_list, tokens_of_member}
use Rattle.laws_print.proofs.Shown.{punctuation_of_byte_is_its_mark}
use Rattle.laws_print.proofs.Users.{user_units_are_read_back}
use Rattle.laws_print.proofs.HostNames.{writable_host_is_read_back}
use Rattle.laws_print.proofs.Many.{ReadsAsSameThing, many_read}

-- A user is read back as it is.
pub writable_user_atom_reads_back_as_itself : (a : Atom) → IsWritableUserAtom a → atom_read_back a ≡ a
writable_user_atom_reads_back_as_itself atom.All is = refl
writable_user_atom_reads_back_as_itself (atom.Alias name) is = refl
writable_user_atom_reads_back_as_itself (atom.Name name) is = refl
writable_user_atom_reads_back_as_itself (atom.Id n) is = refl
writable_user_atom_reads_back_as_itself (atom.Group name) is = refl
writable_user_atom_reads_back_as_itself (atom.GroupId n) is = refl
writable_user_atom_reads_back_as_itself (atom.NonUnix name) is = refl
writable_user_atom_reads_back_as_itself (atom.Netgroup name) is = refl
writable_user_atom_reads_back_as_itself a is = absurd is

user_atom_is_read_back : (first : Bool) (a : Atom) → IsWritableUserAtom a → user_atom_of_token (token_kind_of_atom a) (text_of_units (units_of_user_atom first a)) ≡ Some (atom_read_back a)
user_atom_is_read_back first a is = user_units_are_read_back first a is ∙ ap Some (sym (writable_user_atom_reads_back_as_itself a is))

list_atom_is_read_back : (k : Kind) (first : Bool) (a : Atom) (t : TokenWithBytes) → IsAtomOfListKind k a → t.kind ≡ token_kind_of_atom a → t.text ≡ text_of_units (units_of_list_atom k first a) → atom_of_token k t ≡ Some (atom_read_back a)
unfolding atom_of_token
list_atom_is_read_back User first a t is kind text = ap (λ (c : TokenKind). user_atom_of_token c t.text) kind ∙ ap (user_atom_of_token (token_kind_of_atom a)) text ∙ user_atom_is_read_back first a is
list_atom_is_read_back Runas first a t is kind text = ap (λ (c : TokenKind). user_atom_of_token c t.text) kind ∙ ap (user_atom_of_token (token_kind_of_atom a)) text ∙ user_atom_is_read_back first a is
list_atom_is_read_back Host first a t is kind text = ap (λ (c : TokenKind). host_atom_of_token c t.text) kind ∙ ap (host_atom_of_token (token_kind_of_atom a)) text ∙ writable_host_is_read_back a is
list_atom_is_read_back Cmnd first a t is kind text = absurd is

-- A member is as it is listed.
abbrev pub IsListedMemberOfKind : Kind → Member → Type 0
IsListedMemberOfKind k m = IsMemberWithoutDigests (IsAtomOfListKind k) m

list_member_is_read_back : (k : Kind) (spaced first : Bool) (m : Member) (negated : Bool) (tail : List WrittenToken) (ts : List TokenWithBytes) → negated ≡ m.negated → IsListedMemberOfKind k m → AreTokensShownBy (tokens_of_list_member k spaced first negated m.atom tail) ts → ReadsAsSameThing (IsMember k) MemberIsReadBackAs ts m tail
list_member_is_read_back k spaced first m false tail [] same is shows = absurd shows
list_member_is_read_back k spaced first m false tail (t ∷ ts) same is shows = record {
  thing = record { start = t.start; stop = t.stop; negated = false; digests = []; atom = atom_read_back m.atom };
  rest = ts;
  is = record {
    signs = [];
    last = t;
    split = refl;
    are_signs = tt;
    atom = list_atom_is_read_back k first m.atom t is.is shows.0 shows.1;
    negated = refl;
    digests = refl;
    start = refl;
    stop = refl;
  };
  alike = record { negated = sym same; digests = is.no_digests; atom = refl };
  behind = shows.2;
}
list_member_is_read_back k spaced first m true tail [] same is shows = absurd shows
list_member_is_read_back k spaced first m true tail (s ∷ []) same is shows = absurd shows.2
list_member_is_read_back k spaced first m true tail (s ∷ t ∷ ts) same is shows = record {
  thing = record { start = s.start; stop = t.stop; negated = true; digests = []; atom = atom_read_back m.atom };
  rest = ts;
  is = record {
    signs = s ∷ [];
    last = t;
    split = refl;
    are_signs = (punctuation_of_byte_is_its_mark 33 s shows.0 shows.1, tt);
    atom = list_atom_is_read_back k false m.atom t is.is shows.2.0 shows.2.1;
    negated = refl;
    digests = refl;
    start = refl;
    stop = refl;
  };
  alike = record { negated = sym same; digests = is.no_digests; atom = refl };
  behind = shows.2.2;
}

-- A list is read as it is written.
pub member_list_is_read_back : (k : Kind) (spaced first : Bool) (ms : List Member) (tail : List WrittenToken) (ts : List TokenWithBytes) → IsNonEmptyListOf (IsListedMemberOfKind k) ms → AreTokensShownBy (tokens_of_member_list k spaced first ms tail) ts → ReadsAsSameThing (AreMembers k) (AreItemsPairwiseRelated MemberIsReadBackAs) ts ms tail
member_list_is_read_back k spaced first =
    many_read 44 false (IsMember k) MemberIsReadBackAs (IsListedMemberOfKind k) (tokens_of_member k true false) (λ n t us is. list_member_is_read_back k true false n n.negated t us refl is)
    (tokens_of_member k spaced first) (λ n t us is. list_member_is_read_back k spaced first n n.negated t us refl is)
