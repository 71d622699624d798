-- Users with their groups, and who is asked of (passwd(5), group(5)).
use Rattle.std.specs.Prelude.{ℕ, ◌==◌, Bool, List, [], ◌∷◌, map, Option, Some, None, option_map, Result, Ok, Err}
use Rattle.std.specs.List.{filter, find, list_any, before_first}
use Rattle.std.specs.Str.{bytes_eq}
use Rattle.sudoers_grammar.specs.declared.node.Atom.{Atom}
use Rattle.sudoers_grammar.specs.declared.node.Atom.TheVariants as atom
use Rattle.sudoers_grammar.specs.declared.node.Mask.TheVariants as mask
use Rattle.sudoers_grammar.specs.Number.{network_atom_of_text}
use Rattle.sudoers_match_member.specs.declared.people_and_commands.Group.{Group}
use Rattle.sudoers_match_member.specs.declared.people_and_commands.Person.{Person}
use Rattle.sudoers_match_member.specs.declared.people_and_commands.Who.{Who}
use Rattle.sudoers_match_member.specs.declared.network.Interface.{Interface}
use Rattle.sudoers_list_people.specs.declared.account_and_group_row_types.PasswdAccount.{PasswdAccount}
use Rattle.sudoers_list_people.specs.declared.account_and_group_row_types.GroupFileRow.{GroupFileRow}
use Rattle.sudoers_list_people.specs.declared.fault.WhoFault.{WhoFault}
use Rattle.sudoers_list_people.specs.declared.fault.WhoFault.TheVariants.{NoUser, BadAddress}
use Rattle.sudoers_list_people.specs.Rows.{pieces_split_at_byte, deduplicated_keeping_first}
use Rattle.sudoers_list_people.specs.People.{People}

-- the user with this name
abbrev pub account_named : People → List ℕ → Option PasswdAccount
account_named people name = find (λ (a : PasswdAccount). bytes_eq a.name name) people.accounts

-- ---- his groups

abbrev pub group_of_row : GroupFileRow → Group
group_of_row row = record { gid = row.gid; name = row.name }

-- a number that is that of no group has the empty name
abbrev pub group_name_or_empty : Option GroupFileRow → List ℕ
group_name_or_empty None = []
group_name_or_empty (Some row) = row.name

abbrev pub name_of_group_number : People → ℕ → List ℕ
name_of_group_number people gid = group_name_or_empty (find (λ (row : GroupFileRow). row.gid == gid) people.groups)

abbrev pub primary_group_of : People → PasswdAccount → Group
primary_group_of people a = record { gid = a.gid; name = name_of_group_number people a.gid }

-- The user is among the members of the group.
abbrev pub is_user_in_group_row : List ℕ → GroupFileRow → Bool
is_user_in_group_row user row = list_any (bytes_eq user) (pieces_split_at_byte 44 row.members)

abbrev pub has_same_group_number : Group → Group → Bool
has_same_group_number g other = g.gid == other.gid

-- His primary group, then those that list him, in file order, each number once.
abbrev pub groups_of_user : People → PasswdAccount → List Group
groups_of_user people a = deduplicated_keeping_first has_same_group_number (primary_group_of people a ∷ map group_of_row (filter (is_user_in_group_row a.name) people.groups))

abbrev pub person_with_groups : People → PasswdAccount → Person
person_with_groups people a = record { name = a.name; uid = a.uid; groups = groups_of_user people a }

-- ---- interfaces of a host

-- an address, `/` and how many bits
abbrev pub interface_of_network_atom : Option Atom → Option Interface
interface_of_network_atom (Some (atom.Network address (mask.Bits n))) = Some (record { address = address; mask = mask.Bits n })
interface_of_network_atom other = None

abbrev pub interface_of_text : List ℕ → Option Interface
interface_of_text text = interface_of_network_atom (network_atom_of_text text)

-- all of them, where each is there
abbrev pub all_if_each_is_some : {X : Type 0} → List (Option X) → Option (List X)
all_if_each_is_some [] = Some []
all_if_each_is_some (None ∷ os) = None
all_if_each_is_some (Some x ∷ os) = option_map (λ xs. x ∷ xs) (all_if_each_is_some os)

-- Interfaces are joined by `,`; the empty text says that there are none.
abbrev pub interfaces_of_text : List ℕ → Option (List Interface)
interfaces_of_text [] = Some []
interfaces_of_text (b ∷ text) = all_if_each_is_some (map interface_of_text (pieces_split_at_byte 44 (b ∷ text)))

-- ---- who is asked of

-- The short name of a host ends before the first `.`.
abbrev pub short_name_of_host : List ℕ → List ℕ
short_name_of_host host = before_first (λ b. b == 46) host

abbrev pub who_from_account_and_interfaces : People → List ℕ → Option PasswdAccount → Option (List Interface) → Result Who WhoFault
who_from_account_and_interfaces people host None interfaces = Err NoUser
who_from_account_and_interfaces people host (Some a) None = Err BadAddress
who_from_account_and_interfaces people host (Some a) (Some interfaces) =
    Ok (record { user = person_with_groups people a; long_host = host; short_host = short_name_of_host host; interfaces = interfaces })

-- the user with this name on this host
abbrev pub who_or_who_fault : People → List ℕ → List ℕ → List ℕ → Result Who WhoFault
who_or_who_fault people user host interfaces = who_from_account_and_interfaces people host (account_named people user) (interfaces_of_text interfaces)
