-- Which tokens are aliases as members of lists.
use Rattle.std.proofs.Common.{◌≡◌, ℕ, Bool, true, false, ◌&&◌, ◌||◌, not, List, [], ◌∷◌, drop, refl, sym, ap, ◌∙◌, Option, Some, None}
use Rattle.std.specs.Prelude.{◌==◌, if◌then◌else◌, option_map, option_and_then, codes}
use Rattle.std.specs.Str.{bytes_eq}
use Rattle.std.specs.List.{list_all}
use Rattle.std.proofs.lemmas.Slice.Eq.{bytes_eq-Decides}
use Rattle.sudoers_text.specs.declared.token.TokenKind.{TokenKind}
use Rattle.sudoers_text.specs.declared.token.TokenKind.TheVariants as kind
use Rattle.sudoers_text.specs.Part.{is_upper}
use Rattle.sudoers_text.specs.Word.{is_name, is_alias_byte, is_reserved, is_tag, is_option_name}
use Rattle.sudoers_text.specs.Value.{value_of_word}
use Rattle.sudoers_text.specs.Renamed.{IsDefinableName}
use Rattle.sudoers_text.proofs.Units.{true_conjunction_has_two_true_parts}
use Rattle.sudoers_text.proofs.Ahead.{bytes_told_apart_by_test_are_unequal}
use Rattle.sudoers_grammar.specs.declared.node.Kind.{Kind}
use Rattle.sudoers_grammar.specs.declared.node.Kind.TheVariants.{User, Runas, Host, Cmnd}
use Rattle.sudoers_grammar.specs.declared.node.Args.TheVariants.{Any}
use Rattle.sudoers_grammar.specs.declared.node.Atom.{Atom}
use Rattle.sudoers_grammar.specs.declared.node.Atom.TheVariants as atom
use Rattle.sudoers_grammar.specs.Number.{is_nonempty_digit_string, id_limit, number_if_within_limit, number_of_decimal_digits, ipv4_number_of_text, network_atom_of_text, network_mask_of_text, parts_around_first_byte, is_network_like_text}
use Rattle.sudoers_grammar.specs.declared.pattern.PatternSpelling.TheVariants.{Host as HostName, QuotedHost}
use Rattle.sudoers_grammar.specs.Pattern.{pattern_of_text}
use Rattle.sudoers_grammar.specs.Piece.{TokenWithBytes, has_first_byte, has_byte}
use Rattle.sudoers_grammar.specs.Atom.{some_if_not_empty, word_value_or_bytes, group_atom_after_percent, uid_or_name_atom_after_hash, user_atom_by_prefix, user_atom_of_word, user_atom_of_id, is_id_number_above_limit, user_atom_of_bounded_id, user_atom_of_token, address_network_or_host_atom, host_atom_without_escapes, host_atom_of_token, command_atom_of_word, command_atom_without_args, atom_of_token}

-- ---- atoms that are no aliases

abbrev is_alias_atom : Atom → Bool
is_alias_atom (atom.Alias w) = true
is_alias_atom atom.All = false
is_alias_atom (atom.Name n) = false
is_alias_atom (atom.Id n) = false
is_alias_atom (atom.Group n) = false
is_alias_atom (atom.GroupId n) = false
is_alias_atom (atom.NonUnix n) = false
is_alias_atom (atom.Netgroup n) = false
is_alias_atom (atom.Host n) = false
is_alias_atom (atom.Address n) = false
is_alias_atom (atom.Network n m) = false
is_alias_atom atom.Listing = false
is_alias_atom (atom.Path p args) = false
is_alias_atom (atom.Sudoedit args) = false

-- It is no alias.
IsNoAliasAtom : Option Atom → Type 0
IsNoAliasAtom None = Unit {0}
IsNoAliasAtom (Some a) = is_alias_atom a ≡ false

chosen_non_alias_atom_is_no_alias : (t : Bool) (a b : Option Atom) → IsNoAliasAtom a → IsNoAliasAtom b → IsNoAliasAtom (if t then a else b)
chosen_non_alias_atom_is_no_alias true a b x y = x
chosen_non_alias_atom_is_no_alias false a b x y = y

mapped_non_alias_atom_is_no_alias : {X : Type 0} (f : X → Atom) → ((x : X) → is_alias_atom (f x) ≡ false) → (o : Option X) → IsNoAliasAtom (option_map f o)
unfolding IsNoAliasAtom
mapped_non_alias_atom_is_no_alias f is None = tt
mapped_non_alias_atom_is_no_alias f is (Some x) = is x

chained_non_alias_atom_is_no_alias : {X : Type 0} (f : X → Option Atom) → ((x : X) → IsNoAliasAtom (f x)) → (o : Option X) → IsNoAliasAtom (option_and_then f o)
unfolding IsNoAliasAtom
chained_non_alias_atom_is_no_alias f is None = tt
chained_non_alias_atom_is_no_alias f is (Some x) = is x

non_alias_atom_is_not_some_alias : (o : Option Atom) (w : List ℕ) → IsNoAliasAtom o → o ≡ Some (atom.Alias w) → ⊥
unfolding IsNoAliasAtom
non_alias_atom_is_not_some_alias None w other e = cc
non_alias_atom_is_not_some_alias (Some a) w other e = let same : a ≡ atom.Alias w = cc in let bad : true ≡ false = ap is_alias_atom (sym same) ∙ other in cc

group_atom_is_no_alias : (escaped : Bool) (text : List ℕ) → IsNoAliasAtom (group_atom_after_percent escaped text)
unfolding IsNoAliasAtom
group_atom_is_no_alias escaped [] = tt
group_atom_is_no_alias escaped (b ∷ rest) =
    let groups = option_map atom.Group (some_if_not_empty (word_value_or_bytes escaped (b ∷ rest))) in
    let numbers = option_map atom.GroupId (number_if_within_limit id_limit rest) in
    chosen_non_alias_atom_is_no_alias (b == 58) (option_map atom.NonUnix (some_if_not_empty (word_value_or_bytes escaped rest))) (if b == 35 && is_nonempty_digit_string rest then numbers else groups)
    (mapped_non_alias_atom_is_no_alias atom.NonUnix (λ x. refl) (some_if_not_empty (word_value_or_bytes escaped rest)))
    (chosen_non_alias_atom_is_no_alias (b == 35 && is_nonempty_digit_string rest) numbers groups (mapped_non_alias_atom_is_no_alias atom.GroupId (λ x. refl) (number_if_within_limit id_limit rest))
    (mapped_non_alias_atom_is_no_alias atom.Group (λ x. refl) (some_if_not_empty (word_value_or_bytes escaped (b ∷ rest)))))

user_atom_after_hash_is_no_alias : (text : List ℕ) → IsNoAliasAtom (uid_or_name_atom_after_hash text)
unfolding IsNoAliasAtom
user_atom_after_hash_is_no_alias [] = tt
user_atom_after_hash_is_no_alias (b ∷ rest) =
    chosen_non_alias_atom_is_no_alias (is_nonempty_digit_string (b ∷ rest)) (option_map atom.Id (number_if_within_limit id_limit (b ∷ rest))) (Some (atom.Name (35 ∷ b ∷ rest)))
    (mapped_non_alias_atom_is_no_alias atom.Id (λ x. refl) (number_if_within_limit id_limit (b ∷ rest))) refl

user_atom_by_prefix_is_no_alias : (escaped : Bool) (text : List ℕ) → IsNoAliasAtom (user_atom_by_prefix escaped text)
unfolding IsNoAliasAtom
user_atom_by_prefix_is_no_alias escaped [] = tt
user_atom_by_prefix_is_no_alias escaped (b ∷ rest) =
    let names = option_map atom.Name (some_if_not_empty (word_value_or_bytes escaped (b ∷ rest))) in
    let numbers = if b == 35 then uid_or_name_atom_after_hash rest else names in
    let netgroups = option_map atom.Netgroup (some_if_not_empty (word_value_or_bytes escaped rest)) in
    chosen_non_alias_atom_is_no_alias (b == 37) (group_atom_after_percent escaped rest) (if b == 43 then netgroups else numbers) (group_atom_is_no_alias escaped rest)
    (chosen_non_alias_atom_is_no_alias (b == 43) netgroups numbers (mapped_non_alias_atom_is_no_alias atom.Netgroup (λ x. refl) (some_if_not_empty (word_value_or_bytes escaped rest)))
    (chosen_non_alias_atom_is_no_alias (b == 35) (uid_or_name_atom_after_hash rest) names (user_atom_after_hash_is_no_alias rest) (mapped_non_alias_atom_is_no_alias atom.Name (λ x. refl) (some_if_not_empty (word_value_or_bytes escaped (b ∷ rest))))))

user_atom_of_id_is_no_alias : (text : List ℕ) → IsNoAliasAtom (user_atom_of_id text)
unfolding IsNoAliasAtom
user_atom_of_id_is_no_alias [] = tt
user_atom_of_id_is_no_alias (b ∷ rest) =
    chosen_non_alias_atom_is_no_alias (b == 35) (Some (atom.Id (number_of_decimal_digits 0 rest)))
    (if has_first_byte 35 rest then Some (atom.GroupId (number_of_decimal_digits 0 (drop 1 rest))) else Some (atom.NonUnix (drop 1 rest))) refl
    (chosen_non_alias_atom_is_no_alias (has_first_byte 35 rest) (Some (atom.GroupId (number_of_decimal_digits 0 (drop 1 rest)))) (Some (atom.NonUnix (drop 1 rest))) refl refl)

network_atom_is_no_alias : (text : List ℕ) → IsNoAliasAtom (network_atom_of_text text)
unfolding network_atom_of_text
network_atom_is_no_alias text =
    chained_non_alias_atom_is_no_alias (λ p. option_and_then (λ n. option_map (atom.Network (record { number = n })) (network_mask_of_text p.1)) (ipv4_number_of_text p.0))
    (λ p. chained_non_alias_atom_is_no_alias (λ n. option_map (atom.Network (record { number = n })) (network_mask_of_text p.1))
    (λ n. mapped_non_alias_atom_is_no_alias (atom.Network (record { number = n })) (λ x. refl) (network_mask_of_text p.1)) (ipv4_number_of_text p.0))
    (parts_around_first_byte 47 text)

address_or_host_atom_is_no_alias : (text : List ℕ) (number : Option ℕ) → IsNoAliasAtom (address_network_or_host_atom text number)
unfolding IsNoAliasAtom
address_or_host_atom_is_no_alias text (Some n) = refl
address_or_host_atom_is_no_alias text None = chosen_non_alias_atom_is_no_alias (is_network_like_text text) (network_atom_of_text text) (Some (atom.Host text)) (network_atom_is_no_alias text) refl

-- ---- aliases

-- an alias among others
alias_chosen_among_others_is_its_text : (all name : Bool) (text w : List ℕ) (others : Option Atom) → IsNoAliasAtom others
    → (if all then Some atom.All else (if name then Some (atom.Alias text) else others)) ≡ Some (atom.Alias w) → text ≡ w
alias_chosen_among_others_is_its_text true name text w others other e = absurd (cc)
alias_chosen_among_others_is_its_text false true text w others other e = cc
alias_chosen_among_others_is_its_text false false text w others other e = absurd (non_alias_atom_is_not_some_alias others w other e)

user_alias_is_word_of_its_name : (k : TokenKind) (text w : List ℕ) → user_atom_of_token k text ≡ Some (atom.Alias w) → (k ≡ kind.Word) × (text ≡ w)
unfolding user_atom_of_token user_atom_of_word user_atom_of_bounded_id IsNoAliasAtom
user_alias_is_word_of_its_name kind.Word text w e =
    (refl, alias_chosen_among_others_is_its_text (bytes_eq text (codes "ALL")) (is_name text) text w (user_atom_by_prefix true text) (user_atom_by_prefix_is_no_alias true text) e)
user_alias_is_word_of_its_name kind.Quoted text w e = absurd (non_alias_atom_is_not_some_alias (user_atom_by_prefix false (value_of_word text)) w (user_atom_by_prefix_is_no_alias false (value_of_word text)) e)
user_alias_is_word_of_its_name kind.Id text w e =
    absurd (non_alias_atom_is_not_some_alias (if is_id_number_above_limit text then None else user_atom_of_id text) w (chosen_non_alias_atom_is_no_alias (is_id_number_above_limit text) None (user_atom_of_id text) tt (user_atom_of_id_is_no_alias text)) e)
user_alias_is_word_of_its_name kind.Punct text w e = absurd (cc)
user_alias_is_word_of_its_name kind.Comment text w e = absurd (cc)
user_alias_is_word_of_its_name kind.Path text w e = absurd (cc)
user_alias_is_word_of_its_name kind.Arg text w e = absurd (cc)
user_alias_is_word_of_its_name kind.Digest text w e = absurd (cc)
user_alias_is_word_of_its_name kind.Name text w e = absurd (cc)
user_alias_is_word_of_its_name kind.Value text w e = absurd (cc)
user_alias_is_word_of_its_name kind.Bad text w e = absurd (cc)

host_alias_is_word_of_its_name : (k : TokenKind) (text w : List ℕ) → host_atom_of_token k text ≡ Some (atom.Alias w) → (k ≡ kind.Word) × (text ≡ w)
unfolding host_atom_of_token host_atom_without_escapes IsNoAliasAtom
host_alias_is_word_of_its_name kind.Word text w e = (refl, by_escape (has_byte 92 text) e)
  where
    by_escape : (t : Bool) → (if t then Some (atom.Host (pattern_of_text HostName text)) else host_atom_without_escapes text) ≡ Some (atom.Alias w) → text ≡ w
    by_escape true e = absurd (cc)
    by_escape false e =
        let netgroup = option_map atom.Netgroup (some_if_not_empty (drop 1 text)) in
        let plain = address_network_or_host_atom text (ipv4_number_of_text text) in
        alias_chosen_among_others_is_its_text (bytes_eq text (codes "ALL")) (is_name text) text w (if has_first_byte 43 text then netgroup else plain)
        (chosen_non_alias_atom_is_no_alias (has_first_byte 43 text) netgroup plain (mapped_non_alias_atom_is_no_alias atom.Netgroup (λ x. refl) (some_if_not_empty (drop 1 text)))
        (address_or_host_atom_is_no_alias text (ipv4_number_of_text text))) e
host_alias_is_word_of_its_name kind.Quoted text w e =
    absurd (non_alias_atom_is_not_some_alias (option_map atom.Host (some_if_not_empty (pattern_of_text QuotedHost text))) w
    (mapped_non_alias_atom_is_no_alias atom.Host (λ x. refl) (some_if_not_empty (pattern_of_text QuotedHost text))) e)
host_alias_is_word_of_its_name kind.Id text w e = absurd (cc)
host_alias_is_word_of_its_name kind.Punct text w e = absurd (cc)
host_alias_is_word_of_its_name kind.Comment text w e = absurd (cc)
host_alias_is_word_of_its_name kind.Path text w e = absurd (cc)
host_alias_is_word_of_its_name kind.Arg text w e = absurd (cc)
host_alias_is_word_of_its_name kind.Digest text w e = absurd (cc)
host_alias_is_word_of_its_name kind.Name text w e = absurd (cc)
host_alias_is_word_of_its_name kind.Value text w e = absurd (cc)
host_alias_is_word_of_its_name kind.Bad text w e = absurd (cc)

-- a command, by what its word is
abbrev command_atom_by_word_tests : Bool → Bool → Bool → Bool → List ℕ → Option Atom
command_atom_by_word_tests all listing sudoedit name text =
    if all then Some atom.All
    else (if listing then Some atom.Listing
    else (if sudoedit then Some (atom.Sudoedit Any)
    else (if name then Some (atom.Alias text) else None)))

command_alias_of_word_is_its_text : (text w : List ℕ) → command_atom_of_word text ≡ Some (atom.Alias w) → text ≡ w
command_alias_of_word_is_its_text text w e =
    by_tests (bytes_eq text (codes "ALL")) (bytes_eq text (codes "list")) (bytes_eq text (codes "sudoedit"))
    (is_name text && not (is_reserved text)) e
  where
    by_tests : (a b c d : Bool) → command_atom_by_word_tests a b c d text ≡ Some (atom.Alias w) → text ≡ w
    by_tests true b c d e = absurd (cc)
    by_tests false true c d e = absurd (cc)
    by_tests false false true d e = absurd (cc)
    by_tests false false false true e = cc
    by_tests false false false false e = absurd (cc)

command_alias_is_word_of_its_name : (k : TokenKind) (text w : List ℕ) → command_atom_without_args k text ≡ Some (atom.Alias w) → (k ≡ kind.Word) × (text ≡ w)
unfolding command_atom_without_args
command_alias_is_word_of_its_name kind.Word text w e = (refl, command_alias_of_word_is_its_text text w e)
command_alias_is_word_of_its_name kind.Path text w e = absurd (cc)
command_alias_is_word_of_its_name kind.Quoted text w e = absurd (cc)
command_alias_is_word_of_its_name kind.Id text w e = absurd (cc)
command_alias_is_word_of_its_name kind.Punct text w e = absurd (cc)
command_alias_is_word_of_its_name kind.Comment text w e = absurd (cc)
command_alias_is_word_of_its_name kind.Arg text w e = absurd (cc)
command_alias_is_word_of_its_name kind.Digest text w e = absurd (cc)
command_alias_is_word_of_its_name kind.Name text w e = absurd (cc)
command_alias_is_word_of_its_name kind.Value text w e = absurd (cc)
command_alias_is_word_of_its_name kind.Bad text w e = absurd (cc)

-- A token that is an alias is a Word, and its text is the name.
pub alias_atom_is_word_of_its_name : (k : Kind) (t : TokenWithBytes) (w : List ℕ) → atom_of_token k t ≡ Some (atom.Alias w) → (t.kind ≡ kind.Word) × (t.text ≡ w)
unfolding atom_of_token
alias_atom_is_word_of_its_name User t w e = user_alias_is_word_of_its_name t.kind t.text w e
alias_atom_is_word_of_its_name Runas t w e = user_alias_is_word_of_its_name t.kind t.text w e
alias_atom_is_word_of_its_name Host t w e = host_alias_is_word_of_its_name t.kind t.text w e
alias_atom_is_word_of_its_name Cmnd t w e = command_alias_is_word_of_its_name t.kind t.text w e

-- ---- names

-- A name is not a word that is no name.
pub name_differs_from_word_without_name : (w word : List ℕ) → is_name w ≡ true → is_name word ≡ false → bytes_eq w word ≡ false
name_differs_from_word_without_name w word is isnt = by_test (bytes_eq w word) refl
  where
    by_test : (t : Bool) → bytes_eq w word ≡ t → bytes_eq w word ≡ false
    by_test false e = e
    by_test true e = absurd (let same : w ≡ word = (bytes_eq-Decides w word).0 e in let bad : true ≡ false = sym is ∙ ap is_name same ∙ isnt in cc)

alias_bytes_have_no_backslash : (w : List ℕ) → list_all is_alias_byte w ≡ true → has_byte 92 w ≡ false
alias_bytes_have_no_backslash [] h = refl
alias_bytes_have_no_backslash (b ∷ w) h = by_test (is_alias_byte b) refl h (λ l. alias_bytes_have_no_backslash w l)
  where
    by_test : (t : Bool) → is_alias_byte b ≡ t → (t && list_all is_alias_byte w) ≡ true → (list_all is_alias_byte w ≡ true → has_byte 92 w ≡ false)
        → (b == 92 || has_byte 92 w) ≡ false
    by_test true e h later = ap (λ (t : Bool). t || has_byte 92 w) (bytes_told_apart_by_test_are_unequal is_alias_byte 92 b e refl) ∙ later h
    by_test false e h later = absurd (cc)

name_has_no_backslash : (w : List ℕ) → is_name w ≡ true → has_byte 92 w ≡ false
name_has_no_backslash [] h = refl
name_has_no_backslash (b ∷ w) h =
    let parts = true_conjunction_has_two_true_parts (is_upper b) (list_all is_alias_byte w) h in
    ap (λ (t : Bool). t || has_byte 92 w) (bytes_told_apart_by_test_are_unequal is_upper 92 b parts.0 refl) ∙ alias_bytes_have_no_backslash w parts.1

false_disjunction_has_false_first_part : (a b : Bool) → (a || b) ≡ false → a ≡ false
false_disjunction_has_false_first_part true b h = h
false_disjunction_has_false_first_part false b h = refl

-- neither `ALL` nor reserved
definable_name_is_not_all : (w : List ℕ) → IsDefinableName w → bytes_eq w (codes "ALL") ≡ false
definable_name_is_not_all w is = false_disjunction_has_false_first_part (bytes_eq w (codes "ALL")) (is_tag w) (false_disjunction_has_false_first_part (bytes_eq w (codes "ALL") || is_tag w) (is_option_name w) is.1)

name_other_than_all_is_alias : (all name : Bool) (text : List ℕ) (others : Option Atom) → all ≡ false → name ≡ true
    → (if all then Some atom.All else (if name then Some (atom.Alias text) else others)) ≡ Some (atom.Alias text)
name_other_than_all_is_alias true name text others e f = absurd (cc)
name_other_than_all_is_alias false true text others e f = refl
name_other_than_all_is_alias false false text others e f = absurd (cc)

definable_name_is_user_alias : (w : List ℕ) → IsDefinableName w → user_atom_of_token kind.Word w ≡ Some (atom.Alias w)
unfolding user_atom_of_token user_atom_of_word
definable_name_is_user_alias w is = name_other_than_all_is_alias (bytes_eq w (codes "ALL")) (is_name w) w (user_atom_by_prefix true w) (definable_name_is_not_all w is) is.0

definable_name_is_host_alias : (w : List ℕ) → IsDefinableName w → host_atom_of_token kind.Word w ≡ Some (atom.Alias w)
unfolding host_atom_of_token host_atom_without_escapes
definable_name_is_host_alias w is =
    ap (λ (t : Bool). if t then Some (atom.Host (pattern_of_text HostName w)) else host_atom_without_escapes w) (name_has_no_backslash w is.0)
    ∙ name_other_than_all_is_alias (bytes_eq w (codes "ALL")) (is_name w) w
    (if has_first_byte 43 w then option_map atom.Netgroup (some_if_not_empty (drop 1 w)) else address_network_or_host_atom w (ipv4_number_of_text w)) (definable_name_is_not_all w is) is.0

definable_name_is_command_alias : (w : List ℕ) → IsDefinableName w → command_atom_without_args kind.Word w ≡ Some (atom.Alias w)
unfolding command_atom_without_args
definable_name_is_command_alias w is =
    by_tests (bytes_eq w (codes "ALL")) (bytes_eq w (codes "list")) (bytes_eq w (codes "sudoedit")) (is_name w) (is_reserved w)
    (definable_name_is_not_all w is) (name_differs_from_word_without_name w (codes "list") is.0 refl) (name_differs_from_word_without_name w (codes "sudoedit") is.0 refl) is.0 is.1
  where
    by_tests : (a b c d r : Bool) → a ≡ false → b ≡ false → c ≡ false → d ≡ true → r ≡ false
        → command_atom_by_word_tests a b c (d && not r) w ≡ Some (atom.Alias w)
    by_tests false false false true false e f g h i = refl
    by_tests true b c d r e f g h i = absurd (cc)
    by_tests false true c d r e f g h i = absurd (cc)
    by_tests false false true d r e f g h i = absurd (cc)
    by_tests false false false false r e f g h i = absurd (cc)
    by_tests false false false true true e f g h i = absurd (cc)

-- A Word that can name an alias is one in each list.
pub definable_word_is_alias_in_each_list : (k : Kind) (t : TokenWithBytes) → t.kind ≡ kind.Word → IsDefinableName t.text → atom_of_token k t ≡ Some (atom.Alias t.text)
unfolding atom_of_token
definable_word_is_alias_in_each_list User t word is = ap (λ (j : TokenKind). user_atom_of_token j t.text) word ∙ definable_name_is_user_alias t.text is
definable_word_is_alias_in_each_list Runas t word is = ap (λ (j : TokenKind). user_atom_of_token j t.text) word ∙ definable_name_is_user_alias t.text is
definable_word_is_alias_in_each_list Host t word is = ap (λ (j : TokenKind). host_atom_of_token j t.text) word ∙ definable_name_is_host_alias t.text is
definable_word_is_alias_in_each_list Cmnd t word is = ap (λ (j : TokenKind). command_atom_without_args j t.text) word ∙ definable_name_is_command_alias t.text is
