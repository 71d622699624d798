-- Lists of users, runas users and hosts as they are written are tokens of a line.
use Rattle.laws_print.proofs.Common.{◌≡◌, ℕ, Bool, true, false, List, [], ◌∷◌, refl, sym, subst, AllByRecursion, TokenKind, TokenContext, Byte, token_forms_in_context, IsNonEmptyListOf}
use Rattle.laws_print.proofs.Common.{context_after_token, token_forms_in_word_lists, Kind, User, Runas, Cmnd, Atom, Member, IsMemberWithoutDigests, WrittenToken, text_of_units, line_of_written_tokens, IsTokenCut, AreTokensCut}
use Rattle.sudoers_text.specs.declared.token.TokenKind.TheVariants as kind
use Rattle.sudoers_text.specs.declared.context.TokenContext.TheVariants as context
use Rattle.sudoers_text.specs.declared.context.ScopeNamesOrCommands.TheVariants as scope
use Rattle.sudoers_grammar.specs.declared.node.Kind.TheVariants.{Host}
use Rattle.sudoers_grammar.specs.declared.node.Atom.TheVariants as atom
use Rattle.laws_print.proofs.ListTokens.{token_kind_of_atom, units_of_user_atom, units_of_list_atom, IsAtomOfListKind, token_of_list_atom, tokens_of_list_member, tokens_of_further_members, tokens_of_member_list}
use Rattle.laws_print.proofs.UserCuts.{EndsUser, punctuation_in_word_list_is_cut, found_punctuation_is_cut, writable_user_is_cut}
use Rattle.laws_print.proofs.Hosts.{writable_host_is_cut}

-- A context of lists, and the one behind a member; signs and commas lead back.
pub record IsListContextWithNext (here there : TokenContext) : Type 0 where
  pub words : token_forms_in_context here ≡ token_forms_in_word_lists
  pub word : (text rest : List ℕ) → context_after_token here kind.Word text rest ≡ there
  pub id : (text rest : List ℕ) → context_after_token here kind.Id text rest ≡ there
  pub sign : (rest : List ℕ) → context_after_token here kind.Punct (33 ∷ []) rest ≡ here
  pub comma : (rest : List ℕ) → IsTokenCut there false true kind.Punct (Byte 44 ∷ []) rest
  pub back : (rest : List ℕ) → context_after_token there kind.Punct (44 ∷ []) rest ≡ here

comma_in_word_list_is_cut : (here : TokenContext) → token_forms_in_context here ≡ token_forms_in_word_lists → (rest : List ℕ) → IsTokenCut here false true kind.Punct (Byte 44 ∷ []) rest
comma_in_word_list_is_cut here words rest = punctuation_in_word_list_is_cut here false true 44 rest words refl (λ before begins is. refl)

pub words_context_is_list_context : IsListContextWithNext context.Words context.Words
words_context_is_list_context = record { words = refl; word = λ text rest. refl; id = λ text rest. refl; sign = λ rest. refl; comma = comma_in_word_list_is_cut context.Words refl; back = λ rest. refl }

pub hosts_context_is_list_context : IsListContextWithNext context.Hosts context.Hosts
hosts_context_is_list_context = record { words = refl; word = λ text rest. refl; id = λ text rest. refl; sign = λ rest. refl; comma = comma_in_word_list_is_cut context.Hosts refl; back = λ rest. refl }

pub parentheses_context_is_list_context : IsListContextWithNext context.Parentheses context.Parentheses
parentheses_context_is_list_context = record { words = refl; word = λ text rest. refl; id = λ text rest. refl; sign = λ rest. refl; comma = comma_in_word_list_is_cut context.Parentheses refl; back = λ rest. refl }

pub scope_context_is_list_context : IsListContextWithNext (context.Scope scope.Names) (context.BehindMember scope.Names)
scope_context_is_list_context = record {
  words = refl;
  word = λ text rest. refl;
  id = λ text rest. refl;
  sign = λ rest. refl;
  comma = λ rest. found_punctuation_is_cut (context.BehindMember scope.Names) false true 44 rest (λ i first. refl) refl (λ before begins is. refl);
  back = λ rest. refl;
}

-- ---- members

-- IDs of users want a place where one may begin.
abbrev pub AllowsIdsOfListKind : Kind → Bool → Type 0
AllowsIdsOfListKind User item = item ≡ true
AllowsIdsOfListKind Runas item = item ≡ true
AllowsIdsOfListKind Host item = Unit {0}
AllowsIdsOfListKind Cmnd item = Unit {0}

pub place_of_item_allows_ids_of_kind : (k : Kind) → AllowsIdsOfListKind k true
place_of_item_allows_ids_of_kind User = refl
place_of_item_allows_ids_of_kind Runas = refl
place_of_item_allows_ids_of_kind Host = tt
place_of_item_allows_ids_of_kind Cmnd = tt

-- A member is one token.
pub list_atom_is_cut : (k : Kind) (here : TokenContext) (item first : Bool) (a : Atom) (rest : List ℕ) → token_forms_in_context here ≡ token_forms_in_word_lists → IsAtomOfListKind k a → AllowsIdsOfListKind k item → EndsUser rest → IsTokenCut here item false (token_kind_of_atom a) (units_of_list_atom k first a) rest
list_atom_is_cut User here item first a rest words is fits ends = subst (λ (i : Bool). IsTokenCut here i false (token_kind_of_atom a) (units_of_user_atom first a) rest) (sym fits) (writable_user_is_cut here first a rest words is ends)
list_atom_is_cut Runas here item first a rest words is fits ends = subst (λ (i : Bool). IsTokenCut here i false (token_kind_of_atom a) (units_of_user_atom first a) rest) (sym fits) (writable_user_is_cut here first a rest words is ends)
list_atom_is_cut Host here item first a rest words is fits ends = writable_host_is_cut here item a rest words is ends
list_atom_is_cut Cmnd here item first a rest words is fits ends = absurd is

-- a member is a word or a number
pub property_holds_of_user_kind : (P : TokenKind → Type 0) → P kind.Word → P kind.Id → (a : Atom) → P (token_kind_of_atom a)
property_holds_of_user_kind P word id (atom.Id n) = id
property_holds_of_user_kind P word id (atom.GroupId n) = id
property_holds_of_user_kind P word id a = word

list_atom_leads_to_next_context : (here there : TokenContext) → IsListContextWithNext here there → (a : Atom) (text rest : List ℕ) → context_after_token here (token_kind_of_atom a) text rest ≡ there
list_atom_leads_to_next_context here there lists a text rest = property_holds_of_user_kind (λ k. context_after_token here k text rest ≡ there) (lists.word text rest) (lists.id text rest) a

list_token_before_tail_is_cut : (k : Kind) (here there : TokenContext) → IsListContextWithNext here there → (item spaced first : Bool) (a : Atom) (tail : List WrittenToken) → IsAtomOfListKind k a → AllowsIdsOfListKind k item → EndsUser (line_of_written_tokens tail) → AreTokensCut there false tail → AreTokensCut here item (token_of_list_atom k spaced first a ∷ tail)
list_token_before_tail_is_cut k here there lists item spaced first a tail is fits ends cut = (
  false,
  list_atom_is_cut k here item first a (line_of_written_tokens tail) lists.words is fits ends,
  subst (λ (c : TokenContext). AreTokensCut c false tail) (sym (list_atom_leads_to_next_context here there lists a (text_of_units (units_of_list_atom k first a)) (line_of_written_tokens tail))) cut,
)

pub list_member_before_tail_is_cut : (k : Kind) (here there : TokenContext) → IsListContextWithNext here there → (item spaced first negated : Bool) (a : Atom) (tail : List WrittenToken) → IsAtomOfListKind k a → AllowsIdsOfListKind k item → EndsUser (line_of_written_tokens tail) → AreTokensCut there false tail → AreTokensCut here item (tokens_of_list_member k spaced first negated a tail)
list_member_before_tail_is_cut k here there lists item spaced first false a tail is fits ends cut = list_token_before_tail_is_cut k here there lists item spaced first a tail is fits ends cut
list_member_before_tail_is_cut k here there lists item spaced first true a tail is fits ends cut =
    let rest = line_of_written_tokens (token_of_list_atom k false false a ∷ tail) in (
      item,
      punctuation_in_word_list_is_cut here item item 33 rest lists.words refl (λ before begins. begins),
      subst (λ (c : TokenContext). AreTokensCut c item (token_of_list_atom k false false a ∷ tail)) (sym (lists.sign rest)) (list_token_before_tail_is_cut k here there lists item false false a tail is fits ends cut),
    )

pub further_members_end_user : (k : Kind) (ms : List Member) (tail : List WrittenToken) → EndsUser (line_of_written_tokens tail) → EndsUser (line_of_written_tokens (tokens_of_further_members k ms tail))
further_members_end_user k [] tail ends = ends
further_members_end_user k (m ∷ ms) tail ends = record { word = refl; hash = refl; colon = refl; digit = refl }

-- The members of a list that a list of this kind can hold.
abbrev pub AreMembersOfListedAtoms : Kind → List Member → Type 0
AreMembersOfListedAtoms k ms = AllByRecursion (IsMemberWithoutDigests (IsAtomOfListKind k)) ms

pub further_members_before_tail_are_cut : (k : Kind) (here there : TokenContext) → IsListContextWithNext here there → (ms : List Member) (tail : List WrittenToken) → AreMembersOfListedAtoms k ms → EndsUser (line_of_written_tokens tail) → AreTokensCut there false tail → AreTokensCut there false (tokens_of_further_members k ms tail)
further_members_before_tail_are_cut k here there lists [] tail all ends cut = cut
further_members_before_tail_are_cut k here there lists (m ∷ ms) tail all ends cut =
    let later = tokens_of_further_members k ms tail in
    let rest = line_of_written_tokens (tokens_of_list_member k true false m.negated m.atom later) in (
      true,
      lists.comma rest,
      subst (λ (c : TokenContext). AreTokensCut c true (tokens_of_list_member k true false m.negated m.atom later)) (sym (lists.back rest))
          (list_member_before_tail_is_cut k here there lists true true false m.negated m.atom later all.0.is (place_of_item_allows_ids_of_kind k) (further_members_end_user k ms tail ends) (further_members_before_tail_are_cut k here there lists ms tail all.1 ends cut)),
    )

-- A list is cut into its tokens.
pub member_list_before_tail_is_cut : (k : Kind) (here there : TokenContext) → IsListContextWithNext here there → (item spaced first : Bool) (ms : List Member) (tail : List WrittenToken) → IsNonEmptyListOf (IsMemberWithoutDigests (IsAtomOfListKind k)) ms → AllowsIdsOfListKind k item → EndsUser (line_of_written_tokens tail) → AreTokensCut there false tail → AreTokensCut here item (tokens_of_member_list k spaced first ms tail)
member_list_before_tail_is_cut k here there lists item spaced first [] tail all fits ends cut = absurd all
member_list_before_tail_is_cut k here there lists item spaced first (m ∷ ms) tail all fits ends cut =
    list_member_before_tail_is_cut k here there lists item spaced first m.negated m.atom (tokens_of_further_members k ms tail) all.0.is fits (further_members_end_user k ms tail ends) (further_members_before_tail_are_cut k here there lists ms tail all.1 ends cut)
