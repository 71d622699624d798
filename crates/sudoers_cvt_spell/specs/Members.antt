-- How lists are printed (sudoers(5), Aliases).
use Rattle.std.specs.Prelude.{ℕ, ◌==◌, ◌&&◌, ◌||◌, not, nat_eq, Bool, true, false, List, [], ◌∷◌, ◌++◌, codes, if◌then◌else◌}
use Rattle.std.specs.List.{flat_map, join_by, starts_with}
use Rattle.std.specs.Fmt.{decimal}
use Rattle.sudoers_text.specs.Word.{is_name, is_among}
use Rattle.sudoers_grammar.specs.declared.node.Kind.{Kind}
use Rattle.sudoers_grammar.specs.declared.node.Kind.TheVariants.{User, Runas, Host, Cmnd}
use Rattle.sudoers_grammar.specs.declared.node.Args.{Args}
use Rattle.sudoers_grammar.specs.declared.node.Args.TheVariants.{Any, Nothing, Pattern}
use Rattle.sudoers_grammar.specs.declared.node.Atom.{Atom}
use Rattle.sudoers_grammar.specs.declared.node.Atom.TheVariants as atom
use Rattle.sudoers_grammar.specs.Node.{Digest, Member}
use Rattle.sudoers_grammar.specs.declared.node.DigestKind.{DigestKind}
use Rattle.sudoers_grammar.specs.declared.node.DigestKind.TheVariants as digest
use Rattle.sudoers_grammar.specs.Piece.{has_first_byte}
use Rattle.sudoers_grammar.specs.declared.pattern.PatternSpelling.TheVariants.{Command}
use Rattle.sudoers_cvt_spell.specs.Spelling.{spelled_word, escaped_pattern, escaped_pattern_byte, text_with_backslash_if_misread}
use Rattle.sudoers_cvt_spell.specs.Hosts.{dotted_address, printed_mask_without_slash, printed_host_name_pattern}

-- ---- names of users

-- words with which a line begins that is no user specification
abbrev pub non_spec_line_keywords : List (List ℕ)
non_spec_line_keywords =
    codes "Defaults" ∷ codes "User_Alias" ∷ codes "Runas_Alias" ∷ codes "Host_Alias" ∷ codes "Cmnd_Alias" ∷ codes "Cmd_Alias"
    ∷ codes "@include" ∷ codes "@includedir" ∷ []

abbrev pub is_start_of_non_spec_line : List ℕ → Bool
is_start_of_non_spec_line text = is_among non_spec_line_keywords text || starts_with nat_eq text (codes "Defaults@") || starts_with nat_eq text (codes "Defaults>")

-- The word would be read as an alias, a group or a netgroup. first: or, at the beginning of its line, as that of another line.
abbrev pub is_read_as_other_than_user_name : Bool → List ℕ → Bool
is_read_as_other_than_user_name first text = is_name text || has_first_byte 37 text || has_first_byte 43 text || (first && is_start_of_non_spec_line text)

abbrev pub printed_user_name : Bool → List ℕ → List ℕ
printed_user_name first name = text_with_backslash_if_misread (is_read_as_other_than_user_name first (spelled_word name)) (spelled_word name)

-- ---- commands

-- no space, and not the end
abbrev pub has_next_non_space : List ℕ → Bool
has_next_non_space [] = false
has_next_non_space (b ∷ bytes) = not (b == 32)

-- The arguments. A space between two other bytes stands between two arguments; any other has a backslash. behind: a byte stands
-- before that is no space.
abbrev pub spelled_command_args : Bool → List ℕ → List ℕ
spelled_command_args behind [] = []
spelled_command_args behind (b ∷ bytes) =
    (if b == 32 && behind && has_next_non_space bytes then 32 ∷ [] else escaped_pattern_byte Command b) ++ spelled_command_args (not (b == 32)) bytes

abbrev pub printed_args : Args → List ℕ
printed_args Any = []
printed_args Nothing = codes " \"\""
printed_args (Pattern pattern) = codes " " ++ spelled_command_args false pattern

-- ---- members

-- A netgroup. In a list of hosts its name is as it was read.
abbrev pub printed_netgroup : Kind → List ℕ → List ℕ
printed_netgroup Host name = 43 ∷ name
printed_netgroup User name = 43 ∷ spelled_word name
printed_netgroup Runas name = 43 ∷ spelled_word name
printed_netgroup Cmnd name = 43 ∷ spelled_word name

-- What a member of a list of this kind is. first: the line begins with it.
abbrev pub printed_atom : Bool → Kind → Atom → List ℕ
printed_atom first k atom.All = codes "ALL"
printed_atom first k (atom.Alias name) = name
printed_atom first k (atom.Name name) = printed_user_name first name
printed_atom first k (atom.Id n) = codes "#" ++ decimal n
printed_atom first k (atom.Group name) = codes "%" ++ spelled_word name
printed_atom first k (atom.GroupId n) = codes "%#" ++ decimal n
printed_atom first k (atom.NonUnix name) = codes "%:" ++ spelled_word name
printed_atom first k (atom.Netgroup name) = printed_netgroup k name
printed_atom first k (atom.Host pattern) = printed_host_name_pattern pattern
printed_atom first k (atom.Address a) = dotted_address a.number
printed_atom first k (atom.Network a m) = dotted_address a.number ++ codes "/" ++ printed_mask_without_slash m
printed_atom first k atom.Listing = codes "list"
printed_atom first k (atom.Path path args) = escaped_pattern Command path ++ printed_args args
printed_atom first k (atom.Sudoedit args) = codes "sudoedit" ++ printed_args args

abbrev pub digest_kind_keyword : DigestKind → List ℕ
digest_kind_keyword digest.Sha224 = codes "sha224"
digest_kind_keyword digest.Sha256 = codes "sha256"
digest_kind_keyword digest.Sha384 = codes "sha384"
digest_kind_keyword digest.Sha512 = codes "sha512"

abbrev pub printed_digest : Digest → List ℕ
printed_digest d = digest_kind_keyword d.kind ++ codes ":" ++ d.text

-- the digests before a command
abbrev pub printed_digests : List Digest → List ℕ
printed_digests [] = []
printed_digests (d ∷ ds) = join_by printed_digest (codes ", ") (d ∷ ds) ++ codes " "

abbrev pub negation_sign : Bool → List ℕ
negation_sign true = codes "!"
negation_sign false = []

abbrev pub printed_member : Bool → Kind → Member → List ℕ
printed_member first k m = printed_digests m.digests ++ negation_sign m.negated ++ printed_atom (first && not m.negated) k m.atom

-- The members of a list of this kind. first: the line begins with them.
abbrev pub printed_member_list : Bool → Kind → List Member → List ℕ
printed_member_list first k [] = []
printed_member_list first k (m ∷ ms) = printed_member first k m ++ flat_map (λ (n : Member). codes ", " ++ printed_member false k n) ms
